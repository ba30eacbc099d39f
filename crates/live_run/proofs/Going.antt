-- A run takes events only while it is going.
use Rattle.std.proofs.Common.{◌≡◌, ℕ, ◌+◌, ◌<◌, ◌≤◌, max, true, List, [], ◌∷◌, ◌++◌, length, length-append, Option, append_assoc, refl, sym, ap, inl, inr, ◌∙◌, subst, arith}
use Rattle.std.proofs.lemmas.List.{append-nil, append_cancel_left, length_push}
use Rattle.driver_model.specs.declared.config.Config.{Config}
use Rattle.driver_model.specs.declared.action.Action.{Action}
use Rattle.driver_model.specs.declared.event.Event.{Event}
use Rattle.driver_model.specs.declared.event.EventKind.{EventKind}
use Rattle.outside.specs.declared.world.Call.{Call}
use Rattle.outside.specs.declared.world.Call.TheVariants as call
use Rattle.outside.specs.declared.world.Dialed.TheVariants as dialed
use Rattle.outside.specs.declared.world.LinkGot.TheVariants as got
use Rattle.outside.specs.declared.world.LinkPut.TheVariants as put
use Rattle.shared_session.specs.History.{History}
use Rattle.shared_session.specs.declared.errors.StepError.{StepError}
use Rattle.live_run.specs.declared.agenda.Agenda.{Agenda}
use Rattle.live_run.specs.Deeds.{Deed, did, fired, claim, Does, answer_of, made, events_of, events_in}
use Rattle.live_run.specs.Endings.{IsGoing, AreGoing, Goes, GainsOne, StaysWithin, most_events}
use Rattle.live_run.specs.Passes.{InTurn, IsDialled}
use Rattle.live_run.specs.Steps.{One, Refused, Stepped}

going_same : (s t : History) (count : ℕ) → s.config ≡ t.config → s.word ≡ t.word → s.events ≡ t.events → IsGoing s count → IsGoing t count
going_same s t count config word events h = record {
  room = rw (← events) h.room;
  open_one = h.open_one;
  asked = h.asked;
  is_open = rw (← config, ← word, ← events) h.is_open;
}

pub are_going_same : (s t : History) (count : ℕ) (es : List Event) → s.config ≡ t.config → s.word ≡ t.word → s.events ≡ t.events → AreGoing s count es → AreGoing t count es
are_going_same s t count [] config word events h = tt
are_going_same s t count (e ∷ es) config word events h = (
  going_same s t count config word events h.0,
  are_going_same (record s { events = s.events ++ e ∷ [] }) (record t { events = t.events ++ e ∷ [] }) count es config word (ap (λ (xs : List Event). xs ++ e ∷ []) events) h.1,
)

going_more : (s : History) (count : ℕ) (xs ys : List Event) → AreGoing s count xs → AreGoing (record s { events = s.events ++ xs }) count ys → AreGoing s count (xs ++ ys)
going_more s count [] ys one two = are_going_same (record s { events = s.events ++ [] }) s count ys refl refl (append-nil s.events) two
going_more s count (x ∷ xs) ys one two = (
  one.0,
  going_more (record s { events = s.events ++ x ∷ [] }) count xs ys one.1
      (are_going_same (record s { events = s.events ++ x ∷ xs }) (record s { events = (s.events ++ x ∷ []) ++ xs }) count ys refl refl (sym (append_assoc s.events (x ∷ []) xs)) two),
)

-- nothing happened
pub goes_none : {s : History} {count : ℕ} → Goes s s count
goes_none {s = s} = record { gained = []; grown = sym (append-nil s.events); config = refl; word = refl; going = tt }

-- two parts, one after the other
pub goes_more : {before between after : History} {count : ℕ} → Goes before between count → Goes between after count → Goes before after count
goes_more {before} {between} {after} {count} one two = record {
  gained = one.gained ++ two.gained;
  grown = two.grown ∙ ap (λ (xs : List Event). xs ++ two.gained) one.grown ∙ append_assoc before.events one.gained two.gained;
  config = two.config ∙ one.config;
  word = two.word ∙ one.word;
  going = going_more before count one.gained two.gained one.going
      (are_going_same between (record before { events = before.events ++ one.gained }) count two.gained one.config one.word one.grown two.going);
}

-- one deed, before which the run was going
going_answer : (s : History) (count word : ℕ) (c : Call) → IsGoing s count → AreGoing s count (made word (answer_of c))
going_answer s count word (call.Dial link host port dialed.Yes) h = (h, tt)
going_answer s count word (call.Dial link host port (dialed.Failed fault)) h = (h, tt)
going_answer s count word (call.Read link room (got.Read n) bytes) h = (h, tt)
going_answer s count word (call.Read link room got.NotYet bytes) h = tt
going_answer s count word (call.Read link room got.Ended bytes) h = (h, tt)
going_answer s count word (call.Read link room (got.Failed fault) bytes) h = (h, tt)
going_answer s count word (call.Write link piece (put.Took n)) h = (h, tt)
going_answer s count word (call.Write link piece put.NotYet) h = tt
going_answer s count word (call.Write link piece (put.Failed fault)) h = (h, tt)
going_answer s count word (call.Close link) h = tt
going_answer s count word (call.Now moment) h = tt
going_answer s count word (call.Word told) h = tt
going_answer s count word (call.Wait ms) h = tt

going_deed : (s : History) (count : ℕ) (d : Deed) → IsGoing s count → AreGoing s count (events_of d)
going_deed s count (did c word actions) h = going_answer s count word c h
going_deed s count (fired timer word actions) h = (h, tt)
going_deed s count (claim number) h = tt

-- one deed, and nothing else
abbrev AreFew : List Deed → Type 0
AreFew [] = Unit {0}
AreFew (d ∷ []) = Unit {0}
AreFew (d ∷ e ∷ ds) = ⊥

going_few : (s : History) (count : ℕ) (ds : List Deed) → AreFew ds → IsGoing s count → AreGoing s count (events_in ds)
going_few s count [] few h = tt
going_few s count (d ∷ []) few h = rw (append-nil (events_of d)) (going_deed s count d h)
going_few s count (d ∷ e ∷ ds) few h = absurd few

few_of_one : (Is : Deed → Type 0) (ds : List Deed) → One Is ds → AreFew ds
few_of_one Is ds one = rw one.1 tt

few_in_turn : (Has : Agenda → ℕ → Type 0) (Is : ℕ → Deed → Type 0) (l : ℕ) (a : Agenda) (ds : List Deed) → InTurn Has Is (l ∷ []) true a ds → AreFew ds
few_in_turn Has Is l a [] one = tt
few_in_turn Has Is l a (d ∷ []) one = tt
few_in_turn Has Is l a (d ∷ e ∷ ds) one = elim one [ inl has ↦ absurd has.2 | inr other ↦ absurd other.1 ]

goes_few : {old new : Option (List Call)} {before after : History} {a b : Agenda} {P : List Deed → Type 0} {count : ℕ} → ((ds : List Deed) → P ds → AreFew ds) → IsGoing before count → Does old new before after a b P → Goes before after count
goes_few {before = before} {count = count} few going one = record {
  gained = events_in one.deeds;
  grown = one.went.grown;
  config = one.went.config;
  word = one.went.word;
  going = going_few before count one.deeds (few one.deeds one.form) going;
}

pub goes_one : {old new : Option (List Call)} {before after : History} {a b : Agenda} {Is : Deed → Type 0} {count : ℕ} → IsGoing before count → Does old new before after a b (One Is) → Goes before after count
goes_one {Is = Is} going one = goes_few (few_of_one Is) going one

-- claims, and then a dial
going_dialled : (s : History) (count : ℕ) (ds : List Deed) → IsDialled ds → IsGoing s count → AreGoing s count (events_in ds)
going_dialled s count [] dialled h = absurd dialled
going_dialled s count (did c word actions ∷ ds) (inl one) h =
    subst (λ (xs : List Deed). AreGoing s count (events_of (did c word actions) ++ events_in xs)) (sym one.1) (rw (append-nil (events_of (did c word actions))) (going_deed s count (did c word actions) h))
going_dialled s count (did c word actions ∷ ds) (inr more) h = absurd more.0
going_dialled s count (fired timer word actions ∷ ds) (inl one) h = absurd one.0
going_dialled s count (fired timer word actions ∷ ds) (inr more) h = absurd more.0
going_dialled s count (claim number ∷ ds) (inl one) h = absurd one.0
going_dialled s count (claim number ∷ ds) (inr more) h = going_dialled s count ds more.1 h

pub goes_dialled : {old new : Option (List Call)} {before after : History} {a b : Agenda} {count : ℕ} → IsGoing before count → Does old new before after a b IsDialled → Goes before after count
goes_dialled {before = before} {count = count} going one = record {
  gained = events_in one.deeds;
  grown = one.went.grown;
  config = one.went.config;
  word = one.went.word;
  going = going_dialled before count one.deeds one.form going;
}

pub goes_in_turn : {old new : Option (List Call)} {before after : History} {a b : Agenda} {l : ℕ} {count : ℕ} (Has : Agenda → ℕ → Type 0) (Is : ℕ → Deed → Type 0) → IsGoing before count
    → Does old new before after a b (InTurn Has Is (l ∷ []) true a) → Goes before after count
goes_in_turn {a = a} {l = l} Has Is going one = goes_few (few_in_turn Has Is l a) going one

-- what was taken is what the deeds are
pub going_events : {before after : History} {count : ℕ} (es : List Event) → after.events ≡ before.events ++ es → Goes before after count → AreGoing before count es
going_events {before} {after} {count} es grown goes = subst (λ (xs : List Event). AreGoing before count xs) (append_cancel_left before.events goes.gained es (sym goes.grown ∙ grown)) goes.going

-- a run that was going before each event has no more than that many, or none was taken
going_within : (s : History) (count : ℕ) (es : List Event) → AreGoing s count es → length s.events + length es ≤ max most_events (length s.events)
going_within s count [] h = omega arith
going_within s count (e ∷ es) h =
    let more : length (s.events ++ e ∷ []) ≡ length s.events + 1 = length_push s.events e in
    let rest = going_within (record s { events = s.events ++ e ∷ [] }) count es h.1 in
    let room : length s.events < most_events = h.0.room in
    omega (arith, more, rest, room)

pub goes_within : {before after : History} {count : ℕ} → Goes before after count → StaysWithin before after
goes_within {before} {after} {count} goes =
    let within = going_within before count goes.gained goes.going in
    let grown : length after.events ≡ length before.events + length goes.gained = ap (λ (xs : List Event). length xs) goes.grown ∙ length-append before.events goes.gained in
    omega (arith, within, grown)

-- and then it went on
pub goes_then : {before between : History} {count n : ℕ} → Goes before between count → n ≤ max most_events (length between.events) → n ≤ max most_events (length before.events)
goes_then goes more = let one = goes_within goes in omega (arith, one, more)

-- or was going still, and gained one event at most
pub goes_then_one : {before between : History} {count n : ℕ} → Goes before between count → IsGoing between count → n ≤ length between.events + 1 → n ≤ max most_events (length before.events)
goes_then_one goes going more = let one = goes_within goes in let room = going.room in omega (arith, one, room, more)

-- a step that was refused leaves them
pub refused_gains : {error : StepError} {old new : Option (List Call)} {before after : History} {kind : EventKind} → Refused error old new before after kind → GainsOne before after
refused_gains {before = before} {after = after} r =
    let same : length after.events ≡ length before.events = ap (λ (s : History). length s.events) r.kept in
    omega (arith, same)

pub refused_within : {error : StepError} {old new : Option (List Call)} {before after : History} {kind : EventKind} → Refused error old new before after kind → StaysWithin before after
refused_within {before = before} {after = after} r =
    let same : length after.events ≡ length before.events = ap (λ (s : History). length s.events) r.kept in
    omega (arith, same)

-- and one that was taken adds its event
pub stepped_gains : {old new : Option (List Call)} {before after : History} {kind : EventKind} {actions : List Action} → Stepped old new before after kind actions → GainsOne before after
stepped_gains {before = before} {after = after} {kind = kind} s =
    let e : Event = record { word = s.asked_word; kind = kind } in
    let grown : length after.events ≡ length (before.events ++ e ∷ []) = ap (λ (xs : List Event). length xs) s.went.grown in
    let one : length (before.events ++ e ∷ []) ≡ length before.events + 1 = length_push before.events e in
    omega (arith, grown, one)
