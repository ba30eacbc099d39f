-- Where a submission waits: on which link, and what of it isn't there.
use Rattle.std.proofs.Common.{◌≡◌, ℕ, zero, suc, Bool, true, false, Option, Some, None, if◌then◌else◌, refl, arith}
use Rattle.driver_model.specs.declared.action.WaitKind.{WaitKind}
use Rattle.driver_model.specs.declared.action.WaitKind.TheVariants as wait
use Rattle.driver_model.specs.Shape.{permits_for}
use Rattle.legal_trace.specs.Ledger.{dials, is_served, is_set_up}
use Rattle.legal_trace.specs.Story.{is_awaited, is_told, shape}
use Rattle.legal_trace.specs.Book.{Book, has_generations}
use Rattle.legal_trace.specs.Steps.{Step, waits, is_held_back, permits_in, free_permits, is_let_in, is_outside, unready_wait, step_placed, step_timed, step_taking, step_holding, step_rounding, step_open, step_served, step_down, next_step}
use Rattle.legal_trace.specs.Legal.{link_of}
use Rattle.legal_trace.proofs.Moves.{lt_test, both_hold, same_kind, holds_some, is_timed, served_step, untold_step, rounded_step}

-- by its link
by_link : (P : Type 0) (dialing up set asked : Bool) (unready kind : WaitKind) (step : Step)
    → (if dialing then waits wait.Connect else if up then (if set then step else waits unready) else step_down asked) ≡ waits kind
    → (dialing ≡ true → wait.Connect ≡ kind → P) → (up ≡ true → set ≡ false → unready ≡ kind → P)
    → (up ≡ true → set ≡ true → step ≡ waits kind → P) → (up ≡ false → asked ≡ false → wait.Backoff ≡ kind → P) → P
by_link P true up set asked unready kind step e c u r d = c refl (same_kind (waits wait.Connect) wait.Connect kind refl e)
by_link P false true true asked unready kind step e c u r d = r refl refl e
by_link P false true false asked unready kind step e c u r d = u refl refl (same_kind (waits unready) unready kind refl e)
by_link P false false set true unready kind step e c u r d = absurd (cc e)
by_link P false false set false unready kind step e c u r d = d refl refl (same_kind (waits wait.Backoff) wait.Backoff kind refl e)

-- by what is subscribed again there
by_served : (P : Type 0) (served : Bool) (next : Step) (kind : WaitKind) → step_served served next ≡ waits kind
    → (served ≡ false → wait.Resubscribe ≡ kind → P) → (served ≡ true → next ≡ waits kind → P) → P
by_served P true next kind e u s = s refl e
by_served P false next kind e u s = u refl (same_kind (waits wait.Resubscribe) wait.Resubscribe kind refl e)

-- by whether it was told
by_told : (P : Type 0) (told held : Bool) (next : Step) (kind : WaitKind) → step_open told held next ≡ waits kind
    → (told ≡ true → held ≡ true → wait.Room ≡ kind → P) → (told ≡ false → next ≡ waits kind → P) → P
by_told P true true next kind e t u = t refl refl (same_kind (waits wait.Room) wait.Room kind refl e)
by_told P true false next kind e t u = absurd (cc e)
by_told P false held next kind e t u = u refl e

-- it doesn't wait for its round
by_round : (P : Type 0) (shown rounded : Bool) (next : Step) (kind : WaitKind) → step_rounding shown rounded next ≡ waits kind
    → (next ≡ waits kind → P) → P
by_round P true false next kind e h = absurd (cc e)
by_round P true true next kind e h = h e
by_round P false rounded next kind e h = h e

-- where it waits for a permit none is free
by_free : (P : Type 0) (free most : ℕ) (kind : WaitKind) → step_taking free most ≡ waits kind → (free ≡ 0 → wait.Permit ≡ kind → P) → P
by_free P zero most kind e none = none refl (same_kind (waits wait.Permit) wait.Permit kind refl e)
by_free P (suc free) most kind e none = absurd (cc e)

-- by its permits
by_permits : (P : Type 0) (limit : Option ℕ) (permits : ℕ) (free most : ℕ → ℕ) (next : Step) (kind : WaitKind)
    → step_holding limit permits (λ k. step_taking (free k) (most k)) next ≡ waits kind
    → ((k : ℕ) → limit ≡ Some k → permits ≡ 0 → free k ≡ 0 → wait.Permit ≡ kind → P) → (holds_some limit permits ≡ true → next ≡ waits kind → P) → P
by_permits P None permits free most next kind e none some = some refl e
by_permits P (Some k) zero free most next kind e none some = by_free P (free k) (most k) kind e (none k refl refl)
by_permits P (Some k) (suc held) free most next kind e none some = some (lt_test 0 (suc held) (omega arith)) e

-- by its timer
by_timer : (P : Type 0) (timeout clock : Option ℕ) (next : Step) (kind : WaitKind) → step_timed timeout clock next ≡ waits kind
    → (is_timed timeout clock ≡ true → next ≡ waits kind → P) → P
by_timer P None clock next kind e h = h refl e
by_timer P (Some ms) None next kind e h = absurd (cc e)
by_timer P (Some ms) (Some t) next kind e h = h refl e

-- and by its place
by_place : (P : Type 0) (outside awaited held : Bool) (kind : WaitKind) → step_placed outside awaited held ≡ waits kind
    → (outside ≡ true → wait.Place ≡ kind → P) → (held ≡ true → wait.Room ≡ kind → P) → P
by_place P true awaited held kind e out room = out refl (same_kind (waits wait.Place) wait.Place kind refl e)
by_place P false true true kind e out room = room refl (same_kind (waits wait.Room) wait.Room kind refl e)
by_place P false true false kind e out room = absurd (cc e)
by_place P false false held kind e out room = absurd (cc e)

-- its link takes requests
pub record Serves (b : Book) (n : ℕ) : Type 0 where
  pub up : (link_of b n).up ≡ true
  pub set : is_set_up (link_of b n) ≡ true
  pub served : is_served (link_of b n) ≡ true

-- what follows in each of the places where a submission waits so
pub record Follows (P : Type 0) (b : Book) (n : ℕ) (kind : WaitKind) : Type 0 where
  pub connecting : dials (link_of b n) ≡ true → wait.Connect ≡ kind → P
  pub unready : (link_of b n).up ≡ true → is_set_up (link_of b n) ≡ false → unready_wait (link_of b n) ≡ kind → P
  pub repeating : (link_of b n).up ≡ true → is_set_up (link_of b n) ≡ true → is_served (link_of b n) ≡ false → wait.Resubscribe ≡ kind → P
  pub permitless : Serves b n → (limit : ℕ) → permits_in b.config ≡ Some limit → (b.story n).permits ≡ 0 → free_permits b (b.story n).link limit ≡ 0 → wait.Permit ≡ kind → P
  pub outside : Serves b n → is_told (b.story n) ≡ false → is_let_in (permits_in b.config) (b.story n) ≡ true → is_outside b n ≡ true → wait.Place ≡ kind → P
  pub held : Serves b n → is_held_back b (link_of b n) ≡ true → wait.Room ≡ kind → P
  pub resting : (link_of b n).up ≡ false → (link_of b n).asked ≡ false → wait.Backoff ≡ kind → P

-- so it does where it waits
pub where_waits : (P : Type 0) (b : Book) (n : ℕ) (kind : WaitKind) → next_step b n ≡ waits kind → Follows P b n kind → P
where_waits P b n kind e h =
    let back : Bool = is_held_back b (link_of b n) in
    by_link P (dials (link_of b n)) (link_of b n).up (is_set_up (link_of b n)) (link_of b n).asked (unready_wait (link_of b n)) kind (step_served (is_served (link_of b n)) (served_step b n)) e
    h.connecting h.unready
    (λ up set ready. by_served P (is_served (link_of b n)) (served_step b n) kind ready (h.repeating up set)
    (λ served open_step.
    let serves : Serves b n = record { up = up; set = set; served = served } in
    by_told P (is_told (b.story n)) back (untold_step b n) kind open_step (λ told held. h.held serves held)
    (λ untold round_step. by_round P (has_generations b) (b.story n).rounded (rounded_step b n) kind round_step
    (λ permit_step. by_permits P (permits_in b.config) (b.story n).permits (free_permits b (b.story n).link) (permits_for (shape (b.story n))) (step_timed (b.story n).timeout (b.story n).clock (step_placed (is_outside b n) (is_awaited (b.story n)) back)) kind permit_step
    (h.permitless serves)
    (λ some timer_step. by_timer P (b.story n).timeout (b.story n).clock (step_placed (is_outside b n) (is_awaited (b.story n)) back) kind timer_step
    (λ timed place_step. by_place P (is_outside b n) (is_awaited (b.story n)) back kind place_step
    (h.outside serves untold (both_hold (holds_some (permits_in b.config) (b.story n).permits) (is_timed (b.story n).timeout (b.story n).clock) some timed))
    (h.held serves)))))))
    h.resting
