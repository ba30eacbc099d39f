-- A request is closed, and with it its submission, by an outcome or by the leave of its caller.
use Rattle.std.proofs.Common.{◌≡◌, ◌≢◌, ◌⊎◌, inl, inr, ℕ, ◌<◌, false, true, List, [], ◌∷◌, length, Option, Some, None, refl, sym, ap, ◌∙◌, subst}
use Rattle.containers.proofs.Choices.{not_both}
use Rattle.driver_model.specs.declared.action.WaitKind.{WaitKind}
use Rattle.driver_model.specs.declared.action.WaitKind.TheVariants as wait
use Rattle.link_core.specs.Link.{LinkState}
use Rattle.link_laws.specs.Settles.{awaited_ids}
use Rattle.mux_conn.specs.declared.life.Greeting.{Greeting}
use Rattle.mux_conn.specs.declared.life.Life.{Life}
use Rattle.mux_conn.specs.declared.life.Life.TheVariants.{Wanting, SettingUp, Ready}
use Rattle.mux_conn.specs.declared.request.Progress.TheVariants as progress
use Rattle.mux_conn.specs.declared.request.Request.{Request}
use Rattle.mux_conn.specs.declared.request.Waiting.{Waiting}
use Rattle.mux_conn.specs.declared.request.Progress.{Progress}
use Rattle.mux_conn.specs.Requests.{is_open as is_open_progress, is_waiting, is_admitted, with_permits, is_open_at}
use Rattle.legal_trace.specs.Story.{Story, is_open, is_told, packed_in}
use Rattle.conn_laws.proofs.Ties.Numbers.{IsIn}
use Rattle.conn_laws.proofs.Ties.Tied.{link_in, owners_each, IsRequest, IsKept}
use Rattle.conn_laws.proofs.Changes.Requests.{permits_other, test_other as with_other}
use Rattle.conn_laws.proofs.Ties.Names.{permits_with, owners_with, with_same}

-- a story that closes: what was handed in and tried stays
pub record Closes (s c : Story) : Type 0 where
  pub submission : c.submission ≡ s.submission
  pub late : c.late ≡ s.late
  pub unspoken : c.unspoken ≡ s.unspoken
  pub link : c.link ≡ s.link
  pub time : c.timeout ≡ s.timeout
  pub tries : c.tries ≡ s.tries
  pub rounded : c.rounded ≡ s.rounded
  pub closed : is_open c ≡ false

-- the stories, by the table
--
-- the request that closes
pub request_closed : (s c : Story) (requests : List Request) (link p : ℕ) → p < length requests → c.permits ≡ 0 → Closes s c → IsRequest s requests link p → IsRequest c (with_permits requests p progress.Closed 0) link p
request_closed s c requests link p l freed k h = record {
  what = h.what;
  handed_in = k.submission ∙ h.handed_in;
  in_time = k.late ∙ h.in_time;
  spoken = k.unspoken ∙ h.spoken;
  on = λ o. absurd (not_both (is_open_at (with_permits requests p progress.Closed 0) p) (with_same is_open_progress requests p progress.Closed 0 l) o);
  some = λ none. h.some (ap packed_in (sym k.submission) ∙ none);
  open_is = k.closed ∙ sym (with_same is_open_progress requests p progress.Closed 0 l);
  permits_is = freed ∙ sym (permits_with requests p progress.Closed 0 l);
}

-- any other request
pub request_other : (s : Story) (requests : List Request) (link p q : ℕ) → p ≢ q → IsRequest s requests link q → IsRequest s (with_permits requests p progress.Closed 0) link q
request_other s requests link p q other h = record {
  what = h.what;
  handed_in = h.handed_in;
  in_time = h.in_time;
  spoken = h.spoken;
  on = λ o. h.on (sym (with_other is_open_progress requests p q progress.Closed 0 other) ∙ o);
  some = h.some;
  open_is = h.open_is ∙ sym (with_other is_open_progress requests p q progress.Closed 0 other);
  permits_is = h.permits_is ∙ sym (permits_other requests p q progress.Closed 0 other);
}

-- the tries
--
-- the owners of starts stay
pub owners_each_still : (requests : List Request) (p : ℕ) (started : List ℕ) → owners_each (with_permits requests p progress.Closed 0) started ≡ owners_each requests started
owners_each_still requests p [] = refl
owners_each_still requests p (q ∷ qs) = (λ i. owners_with requests p progress.Closed 0 i q ∷ owners_each_still requests p qs i)

-- the waits
--
-- the messages whose verdict is wanted then are others, and it was wanted before
abbrev pub AreOthers : List Request → ℕ → Life → Life → Type 0
AreOthers requests p life after = (q : ℕ) → IsIn q (awaited_ids (link_in after).queue) → (p ≢ q) × (q < length requests) × IsIn q (awaited_ids (link_in life).queue)

-- what is shown of a request that waits for the connection, or for a permit: nothing, or one of these
abbrev pub IsOneOf : Option WaitKind → Type 0
IsOneOf x = (x ≡ None) ⊎ ((x ≡ Some wait.Backoff) ⊎ ((x ≡ Some wait.Connect) ⊎ ((x ≡ Some wait.Creds) ⊎ ((x ≡ Some wait.Setup) ⊎ ((x ≡ Some wait.Resubscribe) ⊎ (x ≡ Some wait.Permit))))))

-- with another left side
pub one_of : (x y : Option WaitKind) → x ≡ y → IsOneOf y → IsOneOf x
one_of x y same h = subst IsOneOf (sym same) h

-- a link that is up was so before
abbrev pub WasReady : Life → Life → Type 0
WasReady life after = (link : LinkState) → after ≡ Ready link → (x : LinkState) × (life ≡ Ready x)

-- a link that waits for credentials did so before
abbrev pub WasWanting : Life → Life → Type 0
WasWanting life after = (link : LinkState) → after ≡ Wanting link → (x : LinkState) × (life ≡ Wanting x)

-- a link that is set up was so before
abbrev pub WasSettingUp : Life → Life → Type 0
WasSettingUp life after = (link : LinkState) (greeting : Greeting) → after ≡ SettingUp link greeting → (x : LinkState) × (life ≡ SettingUp x greeting)

-- those that have no place
--
-- another request is kept still
pub kept_other : (requests : List Request) (p q : ℕ) (now : Progress) (count : ℕ) (waiting admitted : List Waiting) → p ≢ q → IsKept requests waiting admitted q → IsKept (with_permits requests p now count) waiting admitted q
kept_other requests p q now count waiting admitted other (inl a) = inl (with_other is_admitted requests p q now count other ∙ a.0, a.1)
kept_other requests p q now count waiting admitted other (inr w) = inr (with_other is_waiting requests p q now count other ∙ w.0, w.1)

-- who was told at its place
--
-- a story, and the one that it was, are told and have no message
abbrev pub IsUntried : Story → Type 0
IsUntried s = (is_told s ≡ true) × (s.tries ≡ [])
