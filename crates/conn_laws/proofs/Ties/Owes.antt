-- What submissions are owed, by the requests that they are.
use Rattle.std.proofs.Common.{◌≡◌, inl, inr, ℕ, zero, suc, ◌+◌, ◌==◌, Bool, true, false, ◌&&◌, not, is_some, length-append, List, [], ◌∷◌, ◌++◌, length, Option, Some, None, slice_get, refl, sym, ap, ◌∙◌, arith, drop, if◌then◌else◌, ◌||◌}
use Rattle.containers.proofs.Choices.{by_test, eq_from, ne_test, not_both, taken_if, chosen}
use Rattle.redis_error.specs.declared.redis_error.RedisError.{RedisError}
use Rattle.redis_error.specs.declared.redis_error.RedisError.TheVariants as error
use Rattle.driver_model.specs.declared.action.Owner.{Owner}
use Rattle.driver_model.specs.declared.action.Owner.TheVariants as owner
use Rattle.driver_model.specs.declared.outcome.Outcome.{Outcome}
use Rattle.driver_model.specs.declared.outcome.Outcome.TheVariants as outcome
use Rattle.link_core.specs.declared.message.Entry.{Entry}
use Rattle.link_laws.proofs.TiedLink.{TiedLink}
use Rattle.link_laws.proofs.Started.{IsOpenAs, OpenFrom}
use Rattle.mux_conn.specs.declared.life.Life.{Life}
use Rattle.mux_conn.specs.declared.life.Life.TheVariants.{Resting, Dialing, Wanting, SettingUp, Ready, Ended}
use Rattle.mux_conn.specs.declared.request.Request.{Request}
use Rattle.mux_conn.specs.Connection.{is_resting}
use Rattle.mux_conn.specs.Requests.{name_at}
use Rattle.legal_trace.specs.Ledger.{Ledger, Heard, Start, End, failure_in, is_of_setup}
use Rattle.legal_trace.specs.Story.{Story, is_open}
use Rattle.legal_trace.specs.Owed.{owed_unstarted, owed_waiting}
use Rattle.conn_laws.proofs.Ties.Numbers.{IsIn, is_own}
use Rattle.conn_laws.proofs.Links.Server.{setup_owners, owners_of}
use Rattle.conn_laws.proofs.Ties.Tied.{carried, link_in, owner_of, whole_link, owners_each, TiedLife, FailureIsShown, has_ended, is_of_greeting, own_owner}
use Rattle.conn_laws.proofs.Ties.Names.{auth_owner, owner_of_auth, repeat_owner, owner_of_repeat}
use Rattle.conn_laws.proofs.Ties.InLine.{row_ids}
use Rattle.mux_conn.specs.Renewals.{renewal_id}
use Rattle.mux_conn.specs.Repeats.{repeat_id}

-- what is false in the middle is false
both_false : (a b : Bool) → (a && false && b) ≡ false
both_false true b = refl
both_false false b = refl

-- a story with outcomes isn't open
pub answered_closed : (s : Story) (front : List Outcome) (o : Outcome) → s.outcomes ≡ front ++ o ∷ [] → is_open s ≡ false
answered_closed s front o e =
    let some : (length s.outcomes == 0) ≡ false = ne_test (length s.outcomes) 0 (λ none. absurd (let long : length s.outcomes ≡ length (front ++ o ∷ []) = ap length e in omega (arith, length-append front (o ∷ [])))) in
    (λ i. is_some s.submission && some i && not s.cancelled) ∙ both_false (is_some s.submission) (not s.cancelled)

-- the request of a started message
--
-- the request whose message started as number k, where no setup has
started_first : (ss : List Start) (requests : List Request) (started : List ℕ) (k : ℕ) (s : Start) → owners_of ss ≡ owners_each requests started → slice_get ss k ≡ Some s
    → (p : ℕ) × (slice_get started k ≡ Some p) × (owner_of requests p ≡ s.owner)
started_first [] requests started k s e i = cc
started_first (x ∷ ss) requests [] k s e i = cc
started_first (x ∷ ss) requests (p ∷ ps) zero s e i = (p, refl, let same : x ≡ s = cc in let first : x.owner ≡ owner_of requests p = cc in sym first ∙ ap (λ (y : Start). y.owner) same)
started_first (x ∷ ss) requests (p ∷ ps) (suc k) s e i = started_first ss requests ps k s (let rest : owners_of ss ≡ owners_each requests ps = cc in rest) i

-- and behind so many setups
pub started_at : (ss : List Start) (requests : List Request) (started : List ℕ) (n k : ℕ) (s : Start) → owners_of ss ≡ setup_owners n (owners_each requests started) → slice_get ss k ≡ Some s → is_of_setup s.owner ≡ false
    → (j : ℕ) × (k ≡ n + j) × (p : ℕ) × (slice_get started j ≡ Some p) × (owner_of requests p ≡ s.owner)
started_at ss requests started zero k s e i other = let h = started_first ss requests started k s e i in (k, omega arith, h.0, h.1, h.2)
started_at [] requests started (suc n) k s e i other = cc
started_at (x ∷ ss) requests started (suc n) zero s e i other =
    let same : x ≡ s = cc in
    let first : x.owner ≡ owner.Setup = cc in
    absurd (not_both (is_of_setup s.owner) other (ap (λ (y : Start). is_of_setup y.owner) (sym same) ∙ ap is_of_setup first))
started_at (x ∷ ss) requests started (suc n) (suc k) s e i other =
    let rest : owners_of ss ≡ setup_owners n (owners_each requests started) = cc in
    let h = started_at ss requests started n k s rest i other in
    (h.0, (let behind = h.1 in omega arith), h.2, h.3, h.4)

-- the driver's own message has no greeting's owner
pub own_ungreeted : (requests : List Request) (p : ℕ) → is_own p ≡ true → is_of_greeting (owner_of requests p) ≡ false
own_ungreeted requests p own = ap is_of_greeting (taken_if (is_own p) (own_owner p) (owner.Try (name_at requests p) 0) own) ∙ chosen (λ (o : Owner). is_of_greeting o ≡ false) (p == renewal_id) owner.Auth owner.Resub (λ a. refl) (λ r. refl)

-- one with the same owner has the same number
pub own_number : (requests : List Request) (p q : ℕ) → is_own q ≡ true → owner_of requests p ≡ owner_of requests q → p ≡ q
own_number requests p q own e = by_test (q == renewal_id) (p ≡ q)
    (λ t. let is = eq_from q renewal_id t in auth_owner requests p (e ∙ owner_of_auth requests q is) ∙ sym is)
    (λ f. let is = eq_from q repeat_id (sym (ap (λ b. b || (q == repeat_id)) f) ∙ own) in repeat_owner requests p (e ∙ owner_of_repeat requests q is) ∙ sym is)

-- what a request is owed
--
-- the link of a connection that has one was asked for
pub is_asked : (l : Ledger) (created : ℕ) (life : Life) → is_resting life ≡ false → TiedLife l created life → l.asked ≡ true
is_asked l created Resting there h = cc
is_asked l created Dialing there h = h.0
is_asked l created (Wanting link) there h = h.0
is_asked l created (SettingUp link greeting) there h = h.0
is_asked l created (Ready link) there h = h.0
is_asked l created (Ended e) there h = h.3

-- of a link that was asked for it is owed what the end says
pub owed_asked : (shut : Bool) (l : Ledger) → l.asked ≡ true → owed_waiting shut l ≡ owed_unstarted l.end
owed_asked true l e = ap (λ a. if not a then Some (outcome.Fault error.Closed) else owed_unstarted l.end) e
owed_asked false l e = refl

-- a link that isn't over owes nothing
--
-- an entry of a row that is wanted
pub record IsWantedAs (name : ℕ → Owner) (l : Ledger) (row : List Entry) (p : ℕ) : Type 0 where
  pub entry : Entry
  pub number : ℕ
  pub is : entry.id ≡ p
  pub open_as : IsOpenAs name l number entry

-- an entry of a row that takes items, by its request
pub wanted_entry : (name : ℕ → Owner) (l : Ledger) (k : ℕ) (row : List Entry) (p : ℕ) → OpenFrom name l k row → IsIn p (row_ids row) → IsWantedAs name l row p
wanted_entry name l k [] p all i = absurd i
wanted_entry name l k (e ∷ es) p all (inl same) = record { entry = e; number = k; is = same; open_as = all.0 }
wanted_entry name l k (e ∷ es) p all (inr i) = let w = wanted_entry name l (suc k) es p all.1 i in record { entry = w.entry; number = w.number; is = w.is; open_as = w.open_as }

-- how far a link has come that has not ended
pub lives : (l : Ledger) (created : ℕ) (life : Life) → TiedLife l created life → has_ended life ≡ false → l.end ≡ None
lives l created Resting h n = h.2
lives l created Dialing h n = h.2
lives l created (Wanting link) h n = h.2
lives l created (SettingUp link greeting) h n = h.2
lives l created (Ready link) h n = h.2
lives l created (Ended e) h n = cc

-- a link that has messages of requests in its row is tied by their names
pub row_link : (l : Ledger) (requests : List Request) (life : Life) (p : ℕ) → IsIn p (row_ids (link_in life).row) → TiedLink (carried life requests) l (whole_link life) → TiedLink (owner_of requests) l (link_in life)
row_link l requests Resting p i h = absurd i
row_link l requests Dialing p i h = absurd i
row_link l requests (Wanting link) p i h = absurd i
row_link l requests (SettingUp link greeting) p i h = absurd i
row_link l requests (Ready link) p i h = h
row_link l requests (Ended e) p i h = absurd i

-- where the opening of a link failed, this was shown
--
-- what has not ended has not failed
alive_failure : (end : Option End) (created : ℕ) → end ≡ None → FailureIsShown end created
alive_failure end created none e fails = absurd (let no : ◌≡◌ {A = Option RedisError} None (Some e) = sym (ap failure_in none) ∙ fails in cc)

-- by how far the link has come
pub failure_shown : (l : Ledger) (created : ℕ) (life : Life) → TiedLife l created life → FailureIsShown l.end created
failure_shown l created Resting h = alive_failure l.end created h.2
failure_shown l created Dialing h = alive_failure l.end created h.2
failure_shown l created (Wanting link) h = alive_failure l.end created h.2
failure_shown l created (SettingUp link greeting) h = alive_failure l.end created h.2
failure_shown l created (Ready link) h = alive_failure l.end created h.2
failure_shown l created (Ended e) h = h.2

-- nothing comes behind all of a list
pub get_behind : (n : ℕ) (hs : List Heard) → drop n hs ≡ [] → slice_get hs n ≡ None
get_behind zero [] e = refl
get_behind zero (h ∷ hs) e = cc
get_behind (suc n) [] e = refl
get_behind (suc n) (h ∷ hs) e = get_behind n hs e
