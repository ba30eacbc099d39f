-- The messages of a link that tell new credentials: which these are, and that all but the last were answered without an error.
use Rattle.std.proofs.Common.{◌≡◌, inl, inr, ℕ, ◌+◌, ◌-◌, ◌<◌, ◌≤◌, ◌==◌, true, false, ◌&&◌, List, [], ◌∷◌, ◌++◌, length, take, Some, slice_get, refl, sym, ◌∙◌, ap, subst, arith, Bool}
use Rattle.std.proofs.lemmas.List.{take-append-le}
use Rattle.std.proofs.Math.Seq.{take-append_seam}
use Rattle.containers.proofs.Choices.{by_test, chosen, eq_from, ne_from, not_both}
use Rattle.resp_value.specs.Data.{Data}
use Rattle.redis_error.specs.declared.redis_error.RedisError.TheVariants as error
use Rattle.credentials.specs.Credentials.{Credentials}
use Rattle.driver_model.specs.declared.action.Action.{Action}
use Rattle.driver_model.specs.declared.action.Action.TheVariants as action
use Rattle.driver_model.specs.declared.action.Cause.TheVariants as cause
use Rattle.driver_model.specs.declared.action.Owner.TheVariants as owner
use Rattle.driver_model.specs.News.{News, silence, connected, refused, overdue, took, came, failed, authorized, denied, deserted, renewed, unrenewed, late, unrepeated, dropped, shut, news_of}
use Rattle.legal_trace.specs.Ledger.{Ledger, Start, asks, hears, begins, offers, sources, times, ends, noted, with_news, refused_in, bytes_came, is_over, dials, awaits_credentials, authorized_by, may_renew, renewed_by, unrenewed_by, is_renewal_open, lost_by, is_of_renewal, is_taken, renewal_count, renewal_due, renewal_message, Heard, is_repeating, unrepeated_by, repeats_timed}
use Rattle.legal_trace.specs.Managers.{settings_in, is_last}
use Rattle.legal_trace.specs.Book.{Book, blank_book, book, entered, entered_each, info_in, wanted_in, message_of, renewal_in, hearing_in}
use Rattle.legal_trace.specs.Legal.{MayStand, AllStand}
use Rattle.legal_trace.specs.Again.{repeats_in}
use Rattle.legal_trace.proofs.Clocks.{timer_tells}
use Rattle.legal_trace.proofs.Ledgers.{mine_keeps}
use Rattle.legal_trace.proofs.Plain.{item_behind, item_stays, not_none, item_within}
use Rattle.legal_trace.proofs.Renewals.{last_told, renewal_came, renewal_is_next, taken_begins, taken_more}
use Rattle.legal_trace.proofs.Came.{holds_bytes, grown}
use Rattle.legal_laws.specs.Renewals.{IsRenewal}
use Rattle.legal_laws.proofs.Notices.Pushed.{push_keeps, tell_keeps}
use Rattle.legal_laws.proofs.Traces.Sound.{Sound, stays_sound, blank_is_sound}

-- a message tells the credentials that came as number k, among these
abbrev pub Says : List Credentials → ℕ → Start → Type 0
Says all k s = (c : Credentials) × (slice_get all k ≡ Some c) × (s ≡ renewal_message c)

-- each message that tells new credentials tells the next that came, of as many as are told before it; and each but the last was
-- answered without an error
pub record TellsWell (l : Ledger) : Type 0 where
  pub says : (j : ℕ) (s : Start) → IsRenewal l j s → Says l.creds.renewals (renewal_count (take j l.starts)) s
  pub taken : (i j : ℕ) (s t : Start) → i < j → IsRenewal l i s → IsRenewal l j t → is_taken l (Some i) ≡ true

-- a link on which nothing started tells none
none_told : (l : Ledger) → l.starts ≡ [] → TellsWell l
none_told l none = record {
  says = λ j s is. absurd (not_none (slice_get l.starts j) s (ap (λ (ss : List Start). slice_get ss j) none) is.stands);
  taken = λ i j s t below is. absurd (not_none (slice_get l.starts i) s (ap (λ (ss : List Start). slice_get ss i) none) is.stands);
}

-- in a ledger with the same starts
same_renewal : (l m : Ledger) (j : ℕ) (s : Start) → m.starts ≡ l.starts → IsRenewal m j s → IsRenewal l j s
same_renewal l m j s same is = record { stands = sym (ap (λ (ss : List Start). slice_get ss j) same) ∙ is.stands; renews = is.renews }

-- where neither the starts, nor the items, nor the new credentials change
same_told : (l m : Ledger) → m.starts ≡ l.starts → m.dealt ≡ l.dealt → m.creds.renewals ≡ l.creds.renewals → TellsWell l → TellsWell m
same_told l m starts dealt renewals h = record {
  says = λ j s is.
      subst (λ (cs : List Credentials). Says cs (renewal_count (take j m.starts)) s) (sym renewals) (subst (λ (ss : List Start). Says l.creds.renewals (renewal_count (take j ss)) s) (sym starts) (h.says j s (same_renewal l m j s starts is)));
  taken = λ i j s t below first second.
      subst (λ (ss : List Start). is_taken (record m { starts = ss }) (Some i) ≡ true) (sym starts)
      (subst (λ (ds : List Data). is_taken (record m { starts = l.starts; dealt = ds }) (Some i) ≡ true) (sym dealt) (h.taken i j s t below (same_renewal l m i s starts first) (same_renewal l m j t starts second)));
}

-- where one more came
renewed_told : (l : Ledger) (c : Credentials) → TellsWell l → TellsWell (renewed_by l c)
renewed_told l c h = record {
  says = λ j s is.
      let old : Says l.creds.renewals (renewal_count (take j l.starts)) s = h.says j s (record { stands = is.stands; renews = is.renews }) in
      (old.0, item_stays l.creds.renewals (c ∷ []) old.0 (renewal_count (take j l.starts)) old.1, old.2);
  taken = λ i j s t below first second. h.taken i j s t below (record { stands = first.stands; renews = first.renews }) (record { stands = second.stands; renews = second.renews });
}

-- where items come
came_told : (l : Ledger) (rest : List ℕ) (strange : Bool) (told : List Heard) (more : List Data) → TellsWell l → TellsWell (grown l rest strange told more)
came_told l rest strange told more h = record {
  says = λ j s is. h.says j s (record { stands = is.stands; renews = is.renews });
  taken = λ i j s t below first second.
      let is : IsRenewal l i s = record { stands = first.stands; renews = first.renews } in
      let said : Says l.creds.renewals (renewal_count (take i l.starts)) s = h.says i s is in
      taken_more l rest more i s first.stands
      (ap (λ (x : Start). x.shape) said.2) (h.taken i j s t below is (record { stands = second.stands; renews = second.renews }));
}

-- so with any news
news_told : (l : Ledger) (turn : ℕ) (news : News) → TellsWell l → TellsWell (with_news l turn news)
news_told l turn silence h = h
news_told l turn connected h = chosen TellsWell (is_over l) l (record l { up = true }) (λ t. h) (λ e. same_told l (record l { up = true }) refl refl refl h)
news_told l turn (refused f) h = chosen TellsWell (dials l) (refused_in l turn (error.Io f)) l (λ t. same_told l (refused_in l turn (error.Io f)) refl refl refl h) (λ e. h)
news_told l turn overdue h = h
news_told l turn (took count) h =
    chosen TellsWell l.up (record l { taken = l.taken ++ take count l.offer; offer = [] }) l (λ t. same_told l (record l { taken = l.taken ++ take count l.offer; offer = [] }) refl refl refl h) (λ e. h)
news_told l turn (came piece) h = chosen TellsWell l.up (bytes_came l piece) l (λ t. holds_bytes TellsWell l piece (λ rest strange told more. came_told l rest strange told more h)) (λ e. h)
news_told l turn (failed f) h = h
news_told l turn (authorized c) h = chosen TellsWell (awaits_credentials l) (authorized_by l c) l (λ t. same_told l (authorized_by l c) refl refl refl h) (λ e. h)
news_told l turn (denied text) h = h
news_told l turn deserted h = h
news_told l turn (renewed c) h = chosen TellsWell (may_renew l) (renewed_by l c) l (λ t. renewed_told l c h) (λ e. h)
news_told l turn unrenewed h = chosen TellsWell l.up (unrenewed_by l) l (λ t. same_told l (unrenewed_by l) refl refl refl h) (λ e. h)
news_told l turn (late k) h = chosen TellsWell (l.up && is_renewal_open l k) (lost_by l) l (λ t. same_told l (lost_by l) refl refl refl h) (λ e. h)
news_told l turn unrepeated h = chosen TellsWell (is_repeating l) (unrepeated_by l) l (λ t. same_told l (unrepeated_by l) refl refl refl h) (λ e. h)
news_told l turn dropped h = h
news_told l turn shut h = h

-- and with a turn
hears_told : (l : Ledger) (turn : ℕ) (news : News) → TellsWell l → TellsWell (noted l (hears turn news))
hears_told l turn news h = same_told (with_news l turn news) (noted l (hears turn news)) refl refl refl (news_told l turn news h)

-- a message behind others leaves what is before each of these
before_stays : (ss : List Start) (s : Start) (j : ℕ) → j < length ss → renewal_count (take j (ss ++ s ∷ [])) ≡ renewal_count (take j ss)
before_stays ss s j i = ap renewal_count (take-append-le j ss (s ∷ []) (omega (arith, i)))

-- an older message is as it was
older : (l : Ledger) (s x : Start) (j : ℕ) → slice_get l.starts j ≡ Some x → TellsWell l → is_of_renewal x.owner ≡ true → Says l.creds.renewals (renewal_count (take j (l.starts ++ s ∷ []))) x
older l s x j stands h renews =
    subst (λ k. Says l.creds.renewals k x) (sym (before_stays l.starts s j (item_within l.starts j x stands))) (h.says j x (record { stands = stands; renews = renews }))

-- where a message starts that tells none
other_told : (l : Ledger) (s : Start) → is_of_renewal s.owner ≡ false → TellsWell l → TellsWell (noted l (begins s))
other_told l s other h = record {
  says = λ j x is. elim (item_behind l.starts s x j is.stands) [
    | inl old ↦ older l s x j old h is.renews
    | inr last ↦ absurd (not_both (is_of_renewal s.owner) other (ap (λ (y : Start). is_of_renewal y.owner) last.1 ∙ is.renews))
  ];
  taken = λ i j x y below first second. elim (item_behind l.starts s y j second.stands) [
    | inr last ↦ absurd (not_both (is_of_renewal s.owner) other (ap (λ (z : Start). is_of_renewal z.owner) last.1 ∙ second.renews))
    | inl later ↦
        elim (item_behind l.starts s x i first.stands) [
          | inr last ↦ absurd (not_both (is_of_renewal s.owner) other (ap (λ (z : Start). is_of_renewal z.owner) last.1 ∙ first.renews))
          | inl old ↦ taken_begins l s i (item_within l.starts i x old) ∙ h.taken i j x y below (record { stands = old; renews = first.renews }) (record { stands = later; renews = second.renews })
        ]
  ];
}

-- where new credentials are to be told, all that were are taken
pub all_taken : (l : Ledger) (c : Credentials) → renewal_due l ≡ Some c → TellsWell l → (i : ℕ) (s : Start) → IsRenewal l i s → is_taken l (Some i) ≡ true
all_taken l c due h i s is =
    let last = last_told l i s is.stands is.renews in
    let taken : is_taken l (Some last.0) ≡ true = sym (ap (is_taken l) (last.2 ∙ ap Some (let e : 0 + last.0 ≡ last.0 = omega arith in e))) ∙ renewal_is_next l c due in
    by_test (i == last.0) (is_taken l (Some i) ≡ true)
    (λ t. ap (λ k. is_taken l (Some k)) (eq_from i last.0 t) ∙ taken)
    (λ f. let apart = ne_from i last.0 f in let most : i ≤ last.0 = last.5 in h.taken i last.0 s last.1 (omega (arith, apart, most)) is (record { stands = last.3; renews = last.4 }))

-- they are the next
next_told : (l : Ledger) (c : Credentials) → renewal_due l ≡ Some c → TellsWell l → TellsWell (noted l (begins (renewal_message c)))
next_told l c due h =
    let s : Start = renewal_message c in record {
      says = λ j x is. elim (item_behind l.starts s x j is.stands) [
        | inl old ↦ older l s x j old h is.renews
        | inr new ↦
            let all : take (length l.starts) (l.starts ++ s ∷ []) ≡ l.starts = take-append_seam l.starts (s ∷ []) in
            let here : renewal_count (take j (l.starts ++ s ∷ [])) ≡ renewal_count l.starts = ap (λ k. renewal_count (take k (l.starts ++ s ∷ []))) new.0 ∙ ap renewal_count all in
            (c, ap (slice_get l.creds.renewals) here ∙ renewal_came l c due, sym new.1)
      ];
      taken = λ i j x y below first second.
          elim (item_behind l.starts s x i first.stands) [
            | inl old ↦ taken_begins l s i (item_within l.starts i x old) ∙ all_taken l c due h i x (record { stands = old; renews = first.renews })
            | inr new ↦ absurd (elim (item_behind l.starts s y j second.stands) [
              | inl later ↦ let k : j < length l.starts = item_within l.starts j y later in omega (arith, k, below, new.0)
              | inr last ↦ omega (arith, below, new.0, last.0)
            ])
          ];
    }

-- so with new credentials that may be told
renew_told : (l : Ledger) (c : Credentials) → renewal_due l ≡ Some c → TellsWell l → TellsWell (noted l (begins (renewal_in (renewal_due l))))
renew_told l c due h = subst (λ o. TellsWell (noted l (begins (renewal_in o)))) (sym due) (next_told l c due h)

-- each action that may stand keeps it
told_kept : (b : Book) (a : Action) (l : ℕ) → MayStand b a → Sound b → TellsWell (b.link l) → TellsWell ((entered b a).link l)
told_kept b (action.Turn k (cause.Opening config word)) l may sound h = h
told_kept b (action.Turn k (cause.Event e)) l may sound h = hears_told (b.link l) k (news_of b.timers b.sources l e.kind) h
told_kept b (action.Connect m host port) l may sound h = mine_keeps TellsWell (m == l) (b.link l) (asks (info_in b.config) (wanted_in b.config) (hearing_in b.config) (is_last (settings_in b.config) b.attempt) (repeats_in (settings_in b.config) b.tracked))
    (λ t.
    let same : m ≡ l = eq_from m l t in
    let next : m ≡ b.links = may.next in
    none_told (noted (b.link l) (asks (info_in b.config) (wanted_in b.config) (hearing_in b.config) (is_last (settings_in b.config) b.attempt) (repeats_in (settings_in b.config) b.tracked))) ((sound.shaped l).none (sound.links.unasked l (omega (arith, same, next))).0)) h
told_kept b (action.Timer t ms what) l may sound h = timer_tells TellsWell (b.link l) l what (λ on k is e. same_told (b.link l) (noted (b.link l) times) refl refl refl h) (λ on is e. same_told (b.link l) (noted (b.link l) repeats_timed) refl refl refl h) h
told_kept b (action.Took who m count) l may sound h = h
told_kept b (action.Push m info) l may sound h = push_keeps TellsWell (m == l) info.kind (b.link l) (same_told (b.link l) _ refl refl refl h) (same_told (b.link l) _ refl refl refl h) h
told_kept b (action.Message msg) l may sound h = tell_keeps TellsWell (b.current == l) (b.link l) (same_told (b.link l) _ refl refl refl h) h
told_kept b (action.Monitor v) l may sound h = tell_keeps TellsWell (b.current == l) (b.link l) (same_told (b.link l) _ refl refl refl h) h
told_kept b (action.NeedCreds c m) l may sound h = mine_keeps TellsWell (m == l) (b.link l) sources (λ t. same_told (b.link l) (noted (b.link l) sources) refl refl refl h) h
told_kept b (action.Generation g) l may sound h = h
told_kept b (action.Round who m) l may sound h = h
told_kept b (action.Close m) l may sound h = mine_keeps TellsWell (m == l) (b.link l) (ends (b.turns - 1)) (λ t. same_told (b.link l) (noted (b.link l) (ends (b.turns - 1))) refl refl refl h) h
told_kept b (action.Write m bytes) l may sound h = mine_keeps TellsWell (m == l) (b.link l) (offers bytes) (λ t. same_told (b.link l) (noted (b.link l) (offers bytes)) refl refl refl h) h
told_kept b (action.Wait who kind) l may sound h = h
told_kept b (action.Start m k owner.Setup count len) l may sound h = mine_keeps TellsWell (m == l) (b.link l) (begins (message_of b m owner.Setup)) (λ t. other_told (b.link l) (message_of b m owner.Setup) refl h) h
told_kept b (action.Start m k owner.Auth count len) l may sound h = mine_keeps TellsWell (m == l) (b.link l) (begins (message_of b m owner.Auth))
    (λ t. subst (λ j. TellsWell (b.link j) → TellsWell (noted (b.link j) (begins (message_of b m owner.Auth)))) (eq_from m l t) (renew_told (b.link m) may.credentials may.due) h) h
told_kept b (action.Start m k owner.Resub count len) l may sound h = mine_keeps TellsWell (m == l) (b.link l) (begins (message_of b m owner.Resub)) (λ t. other_told (b.link l) (message_of b m owner.Resub) refl h) h
told_kept b (action.Start m k owner.Monitor count len) l may sound h = mine_keeps TellsWell (m == l) (b.link l) (begins (message_of b m owner.Monitor)) (λ t. other_told (b.link l) (message_of b m owner.Monitor) refl h) h
told_kept b (action.Start m k (owner.Try n round) count len) l may sound h =
    mine_keeps TellsWell (m == l) (b.link l) (begins (message_of b m (owner.Try n round))) (λ t. other_told (b.link l) (message_of b m (owner.Try n round)) refl h) h
told_kept b (action.Created e) l may sound h = h
told_kept b (action.Outcome n o) l may sound h = h

-- and so do many
stay_told : (b : Book) (front : List Action) (l : ℕ) → AllStand b front → Sound b → TellsWell (b.link l) → TellsWell ((entered_each b front).link l)
stay_told b [] l all sound h = h
stay_told b (a ∷ more) l all sound h = stay_told (entered b a) more l all.1 (stays_sound b a all.0 sound) (told_kept b a l all.0 sound h)

-- so it is behind actions that may stand
pub told_behind : (front : List Action) (l : ℕ) → AllStand blank_book front → TellsWell ((book front).link l)
unfolding book
told_behind front l all = stay_told blank_book front l all blank_is_sound (none_told (blank_book.link l) refl)
