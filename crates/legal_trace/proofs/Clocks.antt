-- What a timer that is asked for is to submissions, and to links.
use Rattle.std.proofs.Common.{◌≡◌, ◌⊎◌, inl, inr, ℕ, ◌==◌, Bool, true, false, ◌&&◌, Some, refl, ap}
use Rattle.containers.proofs.Choices.{chosen, left_if, both_left, both_right}
use Rattle.driver_model.specs.declared.action.Purpose.{Purpose}
use Rattle.driver_model.specs.declared.action.Purpose.TheVariants as purpose
use Rattle.legal_trace.specs.Ledger.{Ledger, times, repeats_timed, noted, noted_each}
use Rattle.legal_trace.specs.Story.{Story, is_open, carried, clocked}
use Rattle.legal_trace.specs.Book.{Book, after_timer, if_own, is_clock_of, is_rest, timer_lines}
use Rattle.legal_trace.specs.Legal.{MayTimer, MayRest}
use Rattle.legal_trace.proofs.Ledgers.{mine_keeps}

-- what holds of a submission holds behind a timer, where it holds of one that goes to the next link, and of one whose own it is
pub timer_keeps : (P : Story → Type 0) (b : Book) (n t : ℕ) (what : Purpose)
    → (is_rest what ≡ true → is_open (b.story n) ≡ true → P (carried (b.story n) b.links)) → (is_clock_of n (Some what) ≡ true → P (clocked (b.story n) t)) → P (b.story n) → P (after_timer b n t what)
timer_keeps P b n t what goes own h =
    chosen P (is_rest what && is_open (b.story n)) (carried (b.story n) b.links) (if_own (is_clock_of n (Some what)) (clocked (b.story n) t) (b.story n))
    (λ e. goes (both_left (is_rest what) (is_open (b.story n)) e) (both_right (is_rest what) (is_open (b.story n)) e))
    (λ f. chosen P (is_clock_of n (Some what)) (clocked (b.story n) t) (b.story n) own (λ g. h))

-- one that isn't for a wait behind an attempt is its own submission's alone
pub timer_own : (b : Book) (n t : ℕ) (what : Purpose) → is_rest what ≡ false → after_timer b n t what ≡ if_own (is_clock_of n (Some what)) (clocked (b.story n) t) (b.story n)
timer_own b n t what e = left_if (is_rest what && is_open (b.story n)) (carried (b.story n) b.links) (if_own (is_clock_of n (Some what)) (clocked (b.story n) t) (b.story n)) (ap (λ (r : Bool). r && is_open (b.story n)) e)

-- a timer is for the wait behind an attempt, or for something else
pub timer_rests : (b : Book) (t ms : ℕ) (what : Purpose) → MayTimer b t ms what → MayRest b t ms what ⊎ (is_rest what ≡ false)
timer_rests b t ms what (inl (inl may)) = inr (ap is_rest may.is_for)
timer_rests b t ms what (inl (inr may)) = inl may
timer_rests b t ms what (inr (inl may)) = inr (ap is_rest may.is_for)
timer_rests b t ms what (inr (inr (inl may))) = inr (ap is_rest may.is_for)
timer_rests b t ms what (inr (inr (inr may))) = inr (ap is_rest may.is_for)

-- what holds of a link holds behind what a timer tells of it, where it holds of one for whose new credentials it is, and of one for
-- which it is of what is subscribed again
pub timer_tells : (P : Ledger → Type 0) (l : Ledger) (n : ℕ) (what : Purpose) → ((m k : ℕ) → what ≡ purpose.Renewal m k → (m == n) ≡ true → P (noted l times))
    → ((m : ℕ) → what ≡ purpose.Resubscription m → (m == n) ≡ true → P (noted l repeats_timed)) → P l → P (noted_each l (timer_lines n what))
timer_tells P l n (purpose.Renewal m k) renews repeats h = mine_keeps P (m == n) l times (λ t. renews m k refl t) h
timer_tells P l n (purpose.Resubscription m) renews repeats h = mine_keeps P (m == n) l repeats_timed (λ t. repeats m refl t) h
timer_tells P l n (purpose.Connect m) renews repeats h = h
timer_tells P l n (purpose.Response who) renews repeats h = h
timer_tells P l n (purpose.Backoff g) renews repeats h = h
