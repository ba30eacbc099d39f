-- A run takes events only while its history has room.
use Rattle.std.proofs.Common.{arith, ◌≡◌, ℕ, ◌≤◌, List, [], ◌∷◌, ◌++◌, length, Option, append_assoc, length-append, sym, subst}
use Rattle.std.proofs.lemmas.List.{append-nil}
use Rattle.driver_model.specs.declared.action.Action.{Action}
use Rattle.driver_model.specs.declared.event.Event.{Event}
use Rattle.outside.specs.declared.world.Call.{Call}
use Rattle.shared_session.specs.History.{History}
use Rattle.live_run.specs.declared.ending.Ending.TheVariants.{Full}
use Rattle.live_run.specs.Deeds.{events_in}
use Rattle.live_run.specs.Driven.{Driven}
use Rattle.live_run.specs.Endings.{AreGoing, most_events}

going_within : (s : History) (count : ℕ) (es : List Event) → length s.events ≤ most_events → AreGoing s count es → length (s.events ++ es) ≤ most_events
going_within s count [] within h = subst (λ (xs : List Event). length xs ≤ most_events) (sym (append-nil s.events)) within
going_within s count (e ∷ es) within h =
    let long = length-append s.events (e ∷ []) in
    subst (λ (xs : List Event). length xs ≤ most_events) (append_assoc s.events (e ∷ []) es)
    (going_within (record s { events = s.events ++ e ∷ [] }) count es (let room = h.0.room in omega (arith, long, room)) h.1)

pub full_is_exact : {early : List Action} {old new : Option (List Call)} {before after : History} {count : ℕ} → length before.events ≤ most_events → (run : Driven early old new before after count Full) → length run.last.events ≡ most_events
full_is_exact {early} {old} {new} {before} {after} {count} within run =
    let most : length run.last.events ≤ most_events = subst (λ (xs : List Event). length xs ≤ most_events) (sym run.grown) (going_within before count (events_in run.deeds) within run.going) in
    let least : most_events ≤ length run.last.events = run.cause in
    omega (arith, most, least)
