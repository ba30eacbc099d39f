-- Rounds of submissions that begin, and on which links submissions wait for room.
use Rattle.std.proofs.Common.{◌≡◌, ℕ, Bool, true, false, ◌&&◌, Option, Some, None, if◌then◌else◌, refl, sym, ◌∙◌}
use Rattle.containers.proofs.Choices.{by_test}
use Rattle.driver_model.specs.declared.action.WaitKind.{WaitKind}
use Rattle.driver_model.specs.declared.action.WaitKind.TheVariants as wait
use Rattle.legal_trace.specs.Ledger.{dials, is_served, is_set_up}
use Rattle.legal_trace.specs.Book.{Book}
use Rattle.legal_trace.specs.Steps.{Step, waits, unready_wait, step_served, step_down, next_step}
use Rattle.legal_trace.specs.Legal.{MayRoundOn, CanMove, IsBegun, link_of}
use Rattle.legal_trace.proofs.Moves.{rounder_moves, rooms_mean, served_step}

-- whose round may begin makes a step
pub round_moves : (b : Book) (n : ℕ) (on : Option ℕ) → MayRoundOn b n on → CanMove b n
round_moves b n None may = absurd may
round_moves b n (Some l) may = rounder_moves b n l may

-- where all has started that comes before submissions
pub round_begun : (b : Book) (n : ℕ) (on : Option ℕ) → MayRoundOn b n on → IsBegun b
round_begun b n None may = absurd may
round_begun b n (Some l) may = may.begun

-- on a link that is ready, where what is subscribed again isn't answered, submissions wait for that
unserved_waits : (dialing up set asked served : Bool) (unready : WaitKind) (next : Step) → dialing ≡ false → (up && set) ≡ true → served ≡ false
    → (if dialing then waits wait.Connect else if up then (if set then step_served served next else waits unready) else step_down asked) ≡ waits wait.Resubscribe
unserved_waits true up set asked served unready next d u s = absurd (cc d)
unserved_waits false false set asked served unready next d u s = absurd (cc u)
unserved_waits false true false asked served unready next d u s = absurd (cc u)
unserved_waits false true true asked true unready next d u s = absurd (cc s)
unserved_waits false true true asked false unready next d u s = refl

-- so whoever waits for room does so where it is answered
pub room_is_served : (b : Book) (n : ℕ) → next_step b n ≡ waits wait.Room → is_served (link_of b n) ≡ true
room_is_served b n e =
    let r = rooms_mean b n e in
    by_test (is_served (link_of b n)) (is_served (link_of b n) ≡ true) (λ t. t)
    (λ f. absurd (
    let x : waits wait.Resubscribe ≡ waits wait.Room =
    sym (unserved_waits (dials (link_of b n)) (link_of b n).up (is_set_up (link_of b n)) (link_of b n).asked (is_served (link_of b n)) (unready_wait (link_of b n)) (served_step b n) r.0 r.1 f) ∙ e in cc x
    ))
