-- Since when new credentials are due: since a turn that began, and behind any message that started before they came due.
use Rattle.std.proofs.Common.{◌≡◌, ◌⊎◌, inl, inr, ℕ, suc, ◌+◌, ◌-◌, ◌<◌, ◌≤◌, ◌==◌, Bool, true, false, ◌&&◌, not, if◌then◌else◌, List, [], ◌∷◌, ◌++◌, length, Option, Some, None, is_none, is_some, slice_get, refl, sym, ◌∙◌, ap, arith}
use Rattle.containers.proofs.Choices.{by_test, chosen, taken_if, left_if, if_true, eq_test, not_both, both_left}
use Rattle.credentials.specs.Credentials.{Credentials}
use Rattle.driver_model.specs.declared.action.Action.{Action}
use Rattle.driver_model.specs.declared.action.Action.TheVariants as action
use Rattle.driver_model.specs.declared.action.Cause.TheVariants as cause
use Rattle.driver_model.specs.declared.action.Owner.TheVariants as owner
use Rattle.driver_model.specs.News.{news_of}
use Rattle.legal_trace.specs.Ledger.{Ledger, Line, Start, asks, hears, begins, offers, sources, ends, noted, noted_each, is_full, is_done, is_of_renewal, is_taken, last_renewal, renewal_count, renewal_due, cut}
use Rattle.legal_trace.specs.Managers.{settings_in, is_last}
use Rattle.legal_trace.specs.Again.{repeats_in}
use Rattle.legal_trace.specs.Book.{Book, entered, entered_each, due_since, info_in, wanted_in, hearing_in, message_of}
use Rattle.legal_trace.specs.Legal.{MayStand, AllStand}
use Rattle.legal_trace.proofs.Clocks.{timer_tells}
use Rattle.legal_trace.proofs.Ledgers.{mine_keeps, FewAreDealt}
use Rattle.legal_trace.proofs.Plain.{item_within, same_some}
use Rattle.legal_trace.proofs.Renewals.{last_or, renewal_came, renewal_is_next, renewal_is_up, taken_begins}
use Rattle.legal_laws.proofs.Notices.Pushed.{push_keeps, tell_keeps}
use Rattle.legal_laws.proofs.Submissions.Owes.{new_is_not_full}
use Rattle.legal_laws.proofs.Submissions.Places.{turns_grow}
use Rattle.legal_laws.proofs.Traces.Sound.{Sound, stays_sound}
use Rattle.driver_model.specs.declared.outcome.Shape.TheVariants.{Confirmation}
use Rattle.driver_model.specs.Shape.{verdict_of}

-- so many starts tell new credentials where one behind them doesn't
count_other : (ss : List Start) (s : Start) → is_of_renewal s.owner ≡ false → renewal_count (ss ++ s ∷ []) ≡ renewal_count ss
count_other [] s other = left_if (is_of_renewal s.owner) 1 0 other
count_other (x ∷ ss) s other = ap (λ k. if is_of_renewal x.owner then suc k else k) (count_other ss s other)

-- and the last that does is the same
last_other : (ss : List Start) (s : Start) (n : ℕ) (old : Option ℕ) → is_of_renewal s.owner ≡ false → last_renewal (ss ++ s ∷ []) n old ≡ last_renewal ss n old
last_other [] s n old other = left_if (is_of_renewal s.owner) (Some n) old other
last_other (x ∷ ss) s n old other = last_other ss s (suc n) (if is_of_renewal x.owner then Some n else old) other

-- one that does is the last
last_new : (ss : List Start) (s : Start) (n : ℕ) (old : Option ℕ) → is_of_renewal s.owner ≡ true → last_renewal (ss ++ s ∷ []) n old ≡ Some (n + length ss)
last_new [] s n old mine = taken_if (is_of_renewal s.owner) (Some n) old mine ∙ ap Some (let e : n ≡ n + 0 = omega arith in e)
last_new (x ∷ ss) s n old mine = last_new ss s (suc n) (if is_of_renewal x.owner then Some n else old) mine ∙ ap Some (let e : suc n + length ss ≡ n + suc (length ss) = omega arith in e)

-- where it was taken it is, with more behind it
taken_other : (l : Ledger) (s : Start) (o : Option ℕ) → last_renewal l.starts 0 None ≡ o → is_taken (record l { starts = l.starts ++ s ∷ [] }) o ≡ is_taken l o
taken_other l s None e = refl
taken_other l s (Some k) e = elim (last_or l.starts 0 None) [
  | inl none ↦ absurd (let x : None ≡ Some k = sym none ∙ e in cc x)
  | inr it ↦
      let at : it.0 < length l.starts = item_within l.starts it.0 it.1 it.3 in
      let same : k ≡ 0 + it.0 = same_some k (0 + it.0) (sym e ∙ it.2) in
      taken_begins l s k (omega (arith, at, same))
]

-- new credentials are due where another message starts only if they were
other_begins : (l : Ledger) (s : Start) → is_of_renewal s.owner ≡ false → renewal_due (noted l (begins s)) ≡ renewal_due l
other_begins l s other =
    let m : Ledger = noted l (begins s) in
    let last : last_renewal m.starts 0 None ≡ last_renewal l.starts 0 None = last_other l.starts s 0 None other in
    let taken : is_taken m (last_renewal m.starts 0 None) ≡ is_taken l (last_renewal l.starts 0 None) = ap (is_taken m) last ∙ taken_other l s (last_renewal l.starts 0 None) refl in
    ap (λ t. if l.up && not l.creds.lost && t then slice_get l.creds.renewals (renewal_count m.starts) else None) taken
    ∙ ap (λ k. if l.up && not l.creds.lost && is_taken l (last_renewal l.starts 0 None) then slice_get l.creds.renewals k else None) (count_other l.starts s other)

-- and none where they are told, before the answer
pub renewal_begins : (l : Ledger) (s : Start) (c : Credentials) → is_of_renewal s.owner ≡ true → FewAreDealt l → renewal_due (noted l (begins s)) ≡ Some c → ⊥
renewal_begins l s c mine few due =
    let m : Ledger = noted l (begins s) in
    let last : last_renewal m.starts 0 None ≡ Some (0 + length l.starts) = last_new l.starts s 0 None mine in
    let taken : is_taken m (Some (0 + length l.starts)) ≡ true = sym (ap (is_taken m) last) ∙ renewal_is_next m c due in
    let same : is_taken m (Some (0 + length l.starts)) ≡ is_taken m (Some (length l.starts)) = ap (λ k. is_taken m (Some k)) (let e : 0 + length l.starts ≡ length l.starts = omega arith in e) in
    not_both (is_full m (length l.starts)) (new_is_not_full l s few) (both_left (is_full m (length l.starts)) (is_done (verdict_of Confirmation (cut m (length l.starts) Confirmation))) (sym same ∙ taken))

-- new credentials are due
abbrev pub IsDue : Ledger → Type 0
IsDue l = is_some (renewal_due l) ≡ true

-- those of nothing that came aren't
none_came : (l : Ledger) → l.creds.renewals ≡ [] → IsDue l → ⊥
none_came l none some = of_due (renewal_due l) refl some
  where
    of_due : (o : Option Credentials) → renewal_due l ≡ o → is_some o ≡ true → ⊥
    of_due None e t = cc t
    of_due (Some c) e t = let x : None ≡ Some c = sym (ap (λ (cs : List Credentials). slice_get cs (renewal_count l.starts)) none) ∙ renewal_came l c e in cc x

-- nor those of a link that isn't up
none_down : (l : Ledger) → l.up ≡ false → IsDue l → ⊥
none_down l down some = of_due (renewal_due l) refl some
  where
    of_due : (o : Option Credentials) → renewal_due l ≡ o → is_some o ≡ true → ⊥
    of_due None e t = cc t
    of_due (Some c) e t = not_both l.up down (renewal_is_up l c e)

-- nor those that are told
none_told : (l : Ledger) (s : Start) → is_of_renewal s.owner ≡ true → FewAreDealt l → IsDue (noted l (begins s)) → ⊥
none_told l s mine few some = of_due (renewal_due (noted l (begins s))) refl some
  where
    of_due : (o : Option Credentials) → renewal_due (noted l (begins s)) ≡ o → is_some o ≡ true → ⊥
    of_due None e t = cc t
    of_due (Some c) e t = renewal_begins l s c mine few e

-- they are due since that turn at least, where they are
abbrev pub DueFrom : ℕ → Book → ℕ → Type 0
DueFrom turn b l = IsDue (b.link l) → turn ≤ b.since l

-- in a turn none come due
abbrev ComesNone : Ledger → Ledger → Type 0
ComesNone l m = IsDue m → IsDue l

-- where another message starts
other_none : (l : Ledger) (s : Start) → is_of_renewal s.owner ≡ false → ComesNone l (noted l (begins s))
other_none l s other some = ap is_some (sym (other_begins l s other)) ∙ some

-- since when they are due behind an event
due_event : (turn old number : ℕ) (before behind : Ledger) → turn ≤ number → (IsDue before → turn ≤ old) → IsDue behind → turn ≤ due_since old before behind number
due_event turn old number before behind late h some = by_test (is_some (renewal_due before)) (turn ≤ due_since old before behind number)
    (λ t. chosen (λ k. turn ≤ k) (is_some (renewal_due behind) && is_none (renewal_due before)) number old (λ c. late) (λ c. h t))
    (λ f. chosen (λ k. turn ≤ k) (is_some (renewal_due behind) && is_none (renewal_due before)) number old (λ c. late)
    (λ c. absurd (not_both (is_some (renewal_due behind) && is_none (renewal_due before)) c (both (is_some (renewal_due behind)) (is_none (renewal_due before)) some (none_of (renewal_due before) f)))))
  where
    both : (p q : Bool) → p ≡ true → q ≡ true → (p && q) ≡ true
    both p q x y = rw (x, y)

    none_of : (o : Option Credentials) → is_some o ≡ false → is_none o ≡ true
    none_of None e = refl
    none_of (Some c) e = absurd (cc e)

-- so it stays behind each action that may stand
due_kept : (b : Book) (a : Action) (l turn : ℕ) → MayStand b a → Sound b → turn ≤ b.turns → DueFrom turn b l → DueFrom turn (entered b a) l
due_kept b (action.Turn k (cause.Opening config word)) l turn may sound late h = h
due_kept b (action.Turn k (cause.Event e)) l turn may sound late h =
    let next : k ≡ b.turns = may.next in
    due_event turn (b.since l) k (b.link l) (noted (b.link l) (hears k (news_of b.timers b.sources l e.kind))) (omega (arith, next, late)) h
due_kept b (action.Connect m host port) l turn may sound late h = λ some. mine_keeps (λ x. IsDue x → turn ≤ b.since l) (m == l) (b.link l) (asks (info_in b.config) (wanted_in b.config) (hearing_in b.config) (is_last (settings_in b.config) b.attempt) (repeats_in (settings_in b.config) b.tracked))
    (λ t s. absurd (none_came (noted (b.link l) (asks (info_in b.config) (wanted_in b.config) (hearing_in b.config) (is_last (settings_in b.config) b.attempt) (repeats_in (settings_in b.config) b.tracked))) refl s)) h some
due_kept b (action.Timer t ms what) l turn may sound late h = λ some. timer_tells (λ x. IsDue x → turn ≤ b.since l) (b.link l) l what (λ on k is e. h) (λ on is e. h) h some
due_kept b (action.Took who m count) l turn may sound late h = h
due_kept b (action.Push m info) l turn may sound late h = λ some. push_keeps (λ x. IsDue x → turn ≤ b.since l) (m == l) info.kind (b.link l) h h h some
due_kept b (action.Message msg) l turn may sound late h = λ some. tell_keeps (λ x. IsDue x → turn ≤ b.since l) (b.current == l) (b.link l) h h some
due_kept b (action.Monitor v) l turn may sound late h = λ some. tell_keeps (λ x. IsDue x → turn ≤ b.since l) (b.current == l) (b.link l) h h some
due_kept b (action.NeedCreds c m) l turn may sound late h = λ some. mine_keeps (λ x. IsDue x → turn ≤ b.since l) (m == l) (b.link l) sources (λ e. h) h some
due_kept b (action.Generation g) l turn may sound late h = h
due_kept b (action.Round who m) l turn may sound late h = h
due_kept b (action.Close m) l turn may sound late h = λ some. mine_keeps (λ x. IsDue x → turn ≤ b.since l) (m == l) (b.link l) (ends (b.turns - 1)) (λ t s. absurd (none_down (noted (b.link l) (ends (b.turns - 1))) refl s)) h some
due_kept b (action.Write m bytes) l turn may sound late h = λ some. mine_keeps (λ x. IsDue x → turn ≤ b.since l) (m == l) (b.link l) (offers bytes) (λ t. h) h some
due_kept b (action.Wait who kind) l turn may sound late h = h
due_kept b (action.Start m k owner.Auth count len) l turn may sound late h = λ some. mine_keeps (λ x. IsDue x → turn ≤ b.since l) (m == l) (b.link l) (begins (message_of b m owner.Auth))
    (λ t s. absurd (none_told (b.link l) (message_of b m owner.Auth) refl (sound.few l) s)) h some
due_kept b (action.Start m k owner.Setup count len) l turn may sound late h = λ some. mine_keeps (λ x. IsDue x → turn ≤ b.since l) (m == l) (b.link l) (begins (message_of b m owner.Setup)) (λ t s. h (other_none (b.link l) (message_of b m owner.Setup) refl s)) h some
due_kept b (action.Start m k owner.Resub count len) l turn may sound late h = λ some. mine_keeps (λ x. IsDue x → turn ≤ b.since l) (m == l) (b.link l) (begins (message_of b m owner.Resub)) (λ t s. h (other_none (b.link l) (message_of b m owner.Resub) refl s)) h some
due_kept b (action.Start m k owner.Monitor count len) l turn may sound late h = λ some. mine_keeps (λ x. IsDue x → turn ≤ b.since l) (m == l) (b.link l) (begins (message_of b m owner.Monitor)) (λ t s. h (other_none (b.link l) (message_of b m owner.Monitor) refl s)) h some
due_kept b (action.Start m k (owner.Try n round) count len) l turn may sound late h = λ some. mine_keeps (λ x. IsDue x → turn ≤ b.since l) (m == l) (b.link l) (begins (message_of b m (owner.Try n round))) (λ t s. h (other_none (b.link l) (message_of b m (owner.Try n round)) refl s)) h some
due_kept b (action.Created e) l turn may sound late h = h
due_kept b (action.Outcome n o) l turn may sound late h = h

-- and behind many
pub due_each : (b : Book) (front : List Action) (l turn : ℕ) → AllStand b front → Sound b → turn ≤ b.turns → DueFrom turn b l → DueFrom turn (entered_each b front) l
due_each b [] l turn all sound late h = h
due_each b (a ∷ more) l turn all sound late h =
    let grows : b.turns ≤ (entered b a).turns = turns_grow b a in
    due_each (entered b a) more l turn all.1 (stays_sound b a all.0 sound) (omega (arith, late, grows)) (due_kept b a l turn all.0 sound late h)

-- where they are told, none are due behind it
pub told_is_undue : (b : Book) (l k count len : ℕ) → Sound b → IsDue ((entered b (action.Start l k owner.Auth count len)).link l) → ⊥
told_is_undue b l k count len sound some =
    if_true (λ (lines : List Line). IsDue (noted_each (b.link l) lines) → ⊥) (l == l) (begins (message_of b l owner.Auth) ∷ []) [] (eq_test l l refl) (none_told (b.link l) (message_of b l owner.Auth) refl (sound.few l)) some

-- since a turn that began
abbrev pub SinceBegun : Book → Type 0
SinceBegun b = (l : ℕ) → b.since l ≤ b.turns - 1

-- an action leaves it, or it is the turn that begins
since_is : (b : Book) (a : Action) (l : ℕ) → MayStand b a → ((entered b a).since l ≡ b.since l) ⊎ (((entered b a).since l ≡ b.turns) × ((entered b a).turns ≡ b.turns + 1))
since_is b (action.Turn k (cause.Event e)) l may =
    chosen (λ x. (x ≡ b.since l) ⊎ ((x ≡ b.turns) × (b.turns + 1 ≡ b.turns + 1))) (is_some (renewal_due (noted (b.link l) (hears k (news_of b.timers b.sources l e.kind)))) && is_none (renewal_due (b.link l))) k (b.since l)
    (λ t. inr (may.next, refl)) (λ f. inl refl)
since_is b (action.Turn k (cause.Opening config word)) l may = inl refl
since_is b _ l may = inl refl

-- so it stays
since_kept : (b : Book) (a : Action) → MayStand b a → SinceBegun b → SinceBegun (entered b a)
since_kept b a may h l =
    let grows : b.turns ≤ (entered b a).turns = turns_grow b a in
    let before : b.since l ≤ b.turns - 1 = h l in
    elim (since_is b a l may) [ inl same ↦ omega (arith, same, before, grows) | inr new ↦ let x : (entered b a).since l ≡ b.turns = new.0 in let y : (entered b a).turns ≡ b.turns + 1 = new.1 in omega (arith, x, y) ]

pub since_each : (b : Book) (front : List Action) → AllStand b front → SinceBegun b → SinceBegun (entered_each b front)
since_each b [] all h = h
since_each b (a ∷ more) all h = since_each (entered b a) more all.1 (since_kept b a all.0 h)

-- and grows
pub since_grows : (b : Book) (front : List Action) (l : ℕ) → AllStand b front → SinceBegun b → b.since l ≤ (entered_each b front).since l
since_grows b [] l all h = omega arith
since_grows b (a ∷ more) l all h =
    let rest : (entered b a).since l ≤ (entered_each (entered b a) more).since l = since_grows (entered b a) more l all.1 (since_kept b a all.0 h) in
    let before : b.since l ≤ b.turns - 1 = h l in
    elim (since_is b a l all.0) [ inl same ↦ omega (arith, rest, same) | inr new ↦ let x : (entered b a).since l ≡ b.turns = new.0 in omega (arith, rest, x, before) ]
