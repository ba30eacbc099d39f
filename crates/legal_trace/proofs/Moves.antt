-- Submissions whose messages haven't started: what they have, and what it tells that they make a step next, or wait.
use Rattle.std.proofs.Common.{◌≡◌, ◌⊎◌, inl, inr, ℕ, zero, suc, ◌+◌, ◌-◌, ◌<◌, ◌≤◌, ◌==◌, nat_lt, nat_le, min, Bool, true, false, ◌&&◌, ◌||◌, not, length, Option, None, Some, is_none, is_some, if◌then◌else◌, [], refl, sym, ◌∙◌, ap, subst, arith}
use Rattle.std.proofs.lemmas.List.{nil_from_length}
use Rattle.containers.proofs.Choices.{by_test, chosen, both_left, both_right, eq_from, not_both, not_lt_from, not_le_from}
use Rattle.driver_model.specs.declared.action.Purpose.{Purpose}
use Rattle.driver_model.specs.declared.action.WaitKind.{WaitKind}
use Rattle.driver_model.specs.declared.action.WaitKind.TheVariants as wait
use Rattle.driver_model.specs.declared.config.Config.{Config}
use Rattle.driver_model.specs.Config.{buffer_size, boundary}
use Rattle.driver_model.specs.Shape.{permits_for}
use Rattle.driver_model.specs.declared.outcome.Outcome.{Outcome}
use Rattle.legal_trace.specs.Ledger.{Ledger, dials, is_ready, is_served, is_set_up, lacks_credentials}
use Rattle.legal_trace.specs.Story.{Story, has_place, is_room, is_open, is_told, is_awaited, is_unstarted, shape}
use Rattle.legal_trace.specs.Story.{waits as shown}
use Rattle.legal_trace.specs.Managers.{settings_in}
use Rattle.legal_trace.specs.Book.{Book, has_generations}
use Rattle.legal_trace.specs.Steps.{Step, waits, rounds, takes, asks, tells, starts, is_due, configured, is_held, is_held_back, renewals_in_line, permits_in, permits_on, permits_held, free_permits, is_let_in, is_in_line, line_before, is_outside, unready_wait, queue_size, starts_or_waits, step_placed, step_timed, step_taking, step_holding, step_rounding, step_open, step_served, step_ready, step_down, next_step}
use Rattle.legal_trace.specs.Legal.{MayTell, MayStart, MayTime, MayRound, MayTake, CanMove, link_of}

-- one of two holds
pub one_holds : (p q : Bool) → (p || q) ≡ true → (p ≡ true) ⊎ (q ≡ true)
one_holds true q e = inl refl
one_holds false q e = inr e

-- such a submission has no message
pub has_no_tries : (s : Story) → is_unstarted s ≡ true → s.tries ≡ []
has_no_tries s h = nil_from_length s.tries (eq_from (length s.tries) 0 (both_left (length s.tries == 0) (is_open s || is_told s) h))

-- and is open, or was told
pub open_or_told : (s : Story) → is_unstarted s ≡ true → (is_open s ≡ true) ⊎ (is_told s ≡ true)
open_or_told s h = one_holds (is_open s) (is_told s) (both_right (length s.tries == 0) (is_open s || is_told s) h)

-- it has no place, where so many stand in line before it
abbrev pub is_outside_of : Option Config → Story → ℕ → Ledger → Bool
is_outside_of config s line l = not (has_place s) && nat_le (configured buffer_size config) (renewals_in_line l + line)

-- the next step of such a submission: what the configuration is, its story, how many stand in line before it, how many permits
-- are held, and its link
abbrev pub step_of : Option Config → Story → ℕ → ℕ → Ledger → Step
step_of config s line held l =
    if dials l then waits wait.Connect
    else if l.up then (if is_set_up l then step_served (is_served l) (step_open (is_told s) (is_held (configured boundary config) l)
    (step_rounding (is_some (settings_in config)) s.rounded
    (step_holding (permits_in config) s.permits (λ limit. step_taking (limit - held) (permits_for (shape s) limit))
    (step_timed s.timeout s.clock (step_placed (is_outside_of config s line l) (is_awaited s) (is_held (configured boundary config) l)))))) else waits (unready_wait l))
    else step_down l.asked

-- where the same stand in line, as many do
pub line_alike : (limit : Option ℕ) (story other : ℕ → Story) → ((l k : ℕ) → is_in_line limit l (story k) ≡ is_in_line limit l (other k)) → (l n : ℕ) → line_before limit story l n ≡ line_before limit other l n
line_alike limit story other same l zero = refl
line_alike limit story other same l (suc n) =
    ap (λ x. x + (if is_in_line limit l (story n) then 1 else 0)) (line_alike limit story other same l n) ∙ ap (λ t. line_before limit other l n + (if t then 1 else 0)) (same l n)

-- where each holds the same, as many permits are held
pub permits_alike : (story other : ℕ → Story) → ((l k : ℕ) → permits_on l (story k) ≡ permits_on l (other k)) → (l n : ℕ) → permits_held story l n ≡ permits_held other l n
permits_alike story other same l zero = refl
permits_alike story other same l (suc n) = ap (λ x. x + permits_on l (story n)) (permits_alike story other same l n) ∙ ap (λ x. permits_held other l n + x) (same l n)

-- its next step where its link is up
abbrev pub up_step : Book → ℕ → Step
up_step b n = step_ready b n (b.story n)

-- a step that is due is made on a link that is up, and set up
due_ready : (dialing up set asked : Bool) (unready : WaitKind) (step : Step) → is_due (if dialing then waits wait.Connect else if up then (if set then step else waits unready) else step_down asked) ≡ true → (up && set) ≡ true
due_ready true up set asked unready step e = cc
due_ready false true true asked unready step e = refl
due_ready false true false asked unready step e = cc
due_ready false false set true unready step e = cc
due_ready false false set false unready step e = cc

-- so the link of who makes a step is ready
pub mover_is_ready : (b : Book) (n : ℕ) → CanMove b n → is_ready (link_of b n) ≡ true
mover_is_ready b n moves = due_ready (dials (link_of b n)) (link_of b n).up (is_set_up (link_of b n)) (link_of b n).asked (unready_wait (link_of b n)) (up_step b n) moves.due

-- a link that is ready is up
pub ready_is_up : (l : Ledger) → is_ready l ≡ true → l.up ≡ true
ready_is_up l h = both_left l.up (is_set_up l) h

-- and set up
pub ready_is_set : (l : Ledger) → is_ready l ≡ true → is_set_up l ≡ true
ready_is_set l h = both_right l.up (is_set_up l) h

-- one that is both is ready
pub up_and_set : (l : Ledger) → l.up ≡ true → is_set_up l ≡ true → is_ready l ≡ true
up_and_set l u s = ap (λ up. up && is_set_up l) u ∙ s

-- so it is up
pub mover_is_up : (b : Book) (n : ℕ) → CanMove b n → (link_of b n).up ≡ true
mover_is_up b n moves = ready_is_up (link_of b n) (mover_is_ready b n moves)

-- who is told at its place makes a step
pub teller_moves : (b : Book) (n : ℕ) (o : Outcome) → MayTell b n o → CanMove b n
teller_moves b n o may = record { unstarted = may.unstarted; due = ap is_due may.tells }

-- and so does who starts
pub starter_moves : (b : Book) (l k n count len : ℕ) → MayStart b l k n count len → CanMove b n
starter_moves b l k n count len may = record { unstarted = may.unstarted; due = ap is_due may.starts }

-- who takes permits
pub taker_moves : (b : Book) (n l count : ℕ) → MayTake b n l count → CanMove b n
taker_moves b n l count may = record { unstarted = may.unstarted; due = ap is_due may.takes }

-- whose round begins
pub rounder_moves : (b : Book) (n l : ℕ) → MayRound b n l → CanMove b n
rounder_moves b n l may = record { unstarted = may.unstarted; due = ap is_due may.rounds }

-- and whose timer is asked for
pub asker_moves : (b : Book) (t ms : ℕ) (what : Purpose) (may : MayTime b t ms what) → CanMove b may.n
asker_moves b t ms what may = record { unstarted = may.unstarted; due = ap is_due may.asks }

-- who waits, waits for the connect, or on a link that is up, or until it is asked for
waits_up : (dialing up set asked : Bool) (unready : WaitKind) (step : Step) (kind : WaitKind) → (if dialing then waits wait.Connect else if up then (if set then step else waits unready) else step_down asked) ≡ waits kind → (dialing ≡ true) ⊎ ((up ≡ true) ⊎ (asked ≡ false))
waits_up true up set asked unready step kind e = inl refl
waits_up false true set asked unready step kind e = inr (inl refl)
waits_up false false set true unready step kind e = absurd (cc e)
waits_up false false set false unready step kind e = inr (inr refl)

-- so the link of who waits isn't answered, or is up, or isn't asked for
pub waits_on_a_link : (b : Book) (n : ℕ) (kind : WaitKind) → next_step b n ≡ waits kind → (dials (link_of b n) ≡ true) ⊎ (((link_of b n).up ≡ true) ⊎ ((link_of b n).asked ≡ false))
waits_on_a_link b n kind e = waits_up (dials (link_of b n)) (link_of b n).up (is_set_up (link_of b n)) (link_of b n).asked (unready_wait (link_of b n)) (up_step b n) kind e

-- one kind of wait is true at a time
pub same_kind : (s : Step) (kind other : WaitKind) → s ≡ waits kind → s ≡ waits other → kind ≡ other
same_kind s kind other e f = cc

-- a step that is no wait is made on a link that is ready
ready_of : (dialing up set asked : Bool) (unready : WaitKind) (step s : Step) → is_due s ≡ true → (if dialing then waits wait.Connect else if up then (if set then step else waits unready) else step_down asked) ≡ s → (dialing ≡ false) × ((up && set) ≡ true) × (step ≡ s)
ready_of true up set asked unready step s due e = absurd (let x : false ≡ true = ap is_due e ∙ due in cc x)
ready_of false true true asked unready step s due e = (refl, refl, e)
ready_of false true false asked unready step s due e = absurd (let x : false ≡ true = ap is_due e ∙ due in cc x)
ready_of false false set true unready step s due e = absurd (let x : false ≡ true = ap is_due e ∙ due in cc x)
ready_of false false set false unready step s due e = absurd (let x : false ≡ true = ap is_due e ∙ due in cc x)

-- whoever doesn't wait for what is subscribed again does so on a link where that is answered
served_next : (served : Bool) (next s : Step) → (waits wait.Resubscribe ≡ s → ⊥) → step_served served next ≡ s → (served ≡ true) × (next ≡ s)
served_next true next s none e = (refl, e)
served_next false next s none e = absurd (none e)

-- a step that is due is no wait
due_waits_not : (kind : WaitKind) (s : Step) → is_due s ≡ true → waits kind ≡ s → ⊥
due_waits_not kind s due e = let x : false ≡ true = ap is_due e ∙ due in cc x

-- what is less is tested so
pub lt_test : (a b : ℕ) → a < b → nat_lt a b ≡ true
lt_test a b i = by_test (nat_lt a b) (nat_lt a b ≡ true) (λ t. t) (λ f. absurd (let k : b ≤ a = not_lt_from a b f in omega (arith, i, k)))

-- a submission holds its permits, where they are counted
abbrev pub holds_some : Option ℕ → ℕ → Bool
holds_some limit permits = is_none limit || nat_lt 0 permits

-- its timer was asked for, where it is to be answered within a time
abbrev pub is_timed : Option ℕ → Option ℕ → Bool
is_timed timeout clock = is_none timeout || is_some clock

-- whoever wasn't told does what else it does
open_next : (told held : Bool) (next s : Step) → step_open told held next ≡ s → ((told ≡ true) × (starts_or_waits held ≡ s)) ⊎ ((told ≡ false) × (next ≡ s))
open_next true held next s e = inl (refl, e)
open_next false held next s e = inr (refl, e)

-- its round has begun, where rounds are shown
abbrev pub has_rounded : Bool → Bool → Bool
has_rounded shown rounded = not shown || rounded

-- whose round doesn't begin has had it, where rounds are shown, and goes on
rounding_next : (shown rounded : Bool) (next s : Step) → (rounds ≡ s → ⊥) → step_rounding shown rounded next ≡ s → (has_rounded shown rounded ≡ true) × (next ≡ s)
rounding_next true false next s none e = absurd (none e)
rounding_next true true next s none e = (refl, e)
rounding_next false rounded next s none e = (refl, e)

-- whoever takes no permits holds some, and goes on
holding_next : (limit : Option ℕ) (permits : ℕ) (taking : ℕ → Step) (next s : Step) → ((most : ℕ) → taking most ≡ s → ⊥) → step_holding limit permits taking next ≡ s → (holds_some limit permits ≡ true) × (next ≡ s)
holding_next None permits taking next s none e = (refl, e)
holding_next (Some limit) zero taking next s none e = absurd (none limit e)
holding_next (Some limit) (suc held) taking next s none e = (lt_test 0 (suc held) (omega arith), e)

-- whose timer isn't asked for has it, where it is to have one, and goes on
timed_next : (timeout clock : Option ℕ) (next s : Step) → ((ms : ℕ) → asks ms ≡ s → ⊥) → step_timed timeout clock next ≡ s → (is_timed timeout clock ≡ true) × (next ≡ s)
timed_next None clock next s none e = (refl, e)
timed_next (Some ms) None next s none e = absurd (none ms e)
timed_next (Some ms) (Some t) next s none e = (refl, e)

-- whoever takes permits, or waits for one, neither starts nor is told nor has its timer asked for
taking_is : (free most : ℕ) (s : Step) → (s ≡ starts) ⊎ (s ≡ tells) → step_taking free most ≡ s → ⊥
taking_is zero most s (inl f) e = let x : waits wait.Permit ≡ starts = e ∙ f in cc x
taking_is zero most s (inr f) e = let x : waits wait.Permit ≡ tells = e ∙ f in cc x
taking_is (suc free) most s (inl f) e = let x : takes (min (suc free) most) ≡ starts = e ∙ f in cc x
taking_is (suc free) most s (inr f) e = let x : takes (min (suc free) most) ≡ tells = e ∙ f in cc x

-- nor is a timer a start
asking_is : (ms : ℕ) (s : Step) → (s ≡ starts) ⊎ (s ≡ tells) → asks ms ≡ s → ⊥
asking_is ms s (inl f) e = let x : asks ms ≡ starts = e ∙ f in cc x
asking_is ms s (inr f) e = let x : asks ms ≡ tells = e ∙ f in cc x

-- whoever starts at its place has it, and isn't held back
placed_starts : (outside awaited held : Bool) → step_placed outside awaited held ≡ starts → (outside ≡ false) × (held ≡ false)
placed_starts true awaited held e = absurd (cc e)
placed_starts false true true e = absurd (cc e)
placed_starts false true false e = (refl, refl)
placed_starts false false held e = absurd (cc e)

-- and so has who is told there, and its reply isn't awaited
placed_tells : (outside awaited held : Bool) → step_placed outside awaited held ≡ tells → (outside ≡ false) × (awaited ≡ false)
placed_tells true awaited held e = absurd (cc e)
placed_tells false true true e = absurd (cc e)
placed_tells false true false e = absurd (cc e)
placed_tells false false held e = (refl, refl)

-- whoever was told and starts isn't held back
told_starts : (held : Bool) → starts_or_waits held ≡ starts → held ≡ false
told_starts true e = absurd (cc e)
told_starts false e = refl

-- and it isn't told again
told_tells : (held : Bool) → starts_or_waits held ≡ tells → ⊥
told_tells true e = cc e
told_tells false e = cc e

-- nor does it take permits, or get a timer
told_takes : (held : Bool) (count : ℕ) → starts_or_waits held ≡ takes count → ⊥
told_takes true count e = cc e
told_takes false count e = cc e

-- and its timer isn't asked for
told_asks : (held : Bool) (ms : ℕ) → starts_or_waits held ≡ asks ms → ⊥
told_asks true ms e = cc e
told_asks false ms e = cc e

-- both of two hold
pub both_hold : (p q : Bool) → p ≡ true → q ≡ true → (p && q) ≡ true
both_hold p q x y = rw (x, y)

-- where its next step goes past its permits and its timer
past_timer : (b : Book) (n : ℕ) (s : Step) → (s ≡ starts) ⊎ (s ≡ tells)
    → step_holding (permits_in b.config) (b.story n).permits (λ limit. step_taking (free_permits b (b.story n).link limit) (permits_for (shape (b.story n)) limit)) (step_timed (b.story n).timeout (b.story n).clock (step_placed (is_outside b n) (is_awaited (b.story n)) (is_held_back b (link_of b n)))) ≡ s
    → (is_let_in (permits_in b.config) (b.story n) ≡ true) × (step_placed (is_outside b n) (is_awaited (b.story n)) (is_held_back b (link_of b n)) ≡ s)
past_timer b n s is e =
    let h = holding_next (permits_in b.config) (b.story n).permits (λ limit. step_taking (free_permits b (b.story n).link limit) (permits_for (shape (b.story n)) limit)) (step_timed (b.story n).timeout (b.story n).clock (step_placed (is_outside b n) (is_awaited (b.story n)) (is_held_back b (link_of b n)))) s
    (λ most. taking_is (free_permits b (b.story n).link most) (permits_for (shape (b.story n)) most) s is) e in
    let t = timed_next (b.story n).timeout (b.story n).clock (step_placed (is_outside b n) (is_awaited (b.story n)) (is_held_back b (link_of b n))) s (λ ms. asking_is ms s is) h.1 in
    (both_hold (holds_some (permits_in b.config) (b.story n).permits) (is_timed (b.story n).timeout (b.story n).clock) h.0 t.0, t.1)

-- what it does next on a link that takes requests, past its round
abbrev pub rounded_step : Book → ℕ → Step
rounded_step b n = step_holding (permits_in b.config) (b.story n).permits (λ limit. step_taking (free_permits b (b.story n).link limit) (permits_for (shape (b.story n)) limit)) (step_timed (b.story n).timeout (b.story n).clock (step_placed (is_outside b n) (is_awaited (b.story n)) (is_held_back b (link_of b n))))

-- past whether it was told
abbrev pub untold_step : Book → ℕ → Step
untold_step b n = step_rounding (has_generations b) (b.story n).rounded (rounded_step b n)

-- and at all
abbrev pub served_step : Book → ℕ → Step
served_step b n = step_open (is_told (b.story n)) (is_held_back b (link_of b n)) (untold_step b n)

-- a step that is no round is made by one that has had its round, where rounds are shown
past_round : (b : Book) (n : ℕ) (s : Step) → (rounds ≡ s → ⊥) → untold_step b n ≡ s → (has_rounded (has_generations b) (b.story n).rounded ≡ true) × (rounded_step b n ≡ s)
past_round b n s none e = rounding_next (has_generations b) (b.story n).rounded (rounded_step b n) s none e

-- a step that is due is made on a link that takes requests
due_on : (b : Book) (n : ℕ) (s : Step) → is_due s ≡ true → next_step b n ≡ s → (dials (link_of b n) ≡ false) × (is_ready (link_of b n) ≡ true) × (is_served (link_of b n) ≡ true) × (served_step b n ≡ s)
due_on b n s due e =
    let r = ready_of (dials (link_of b n)) (link_of b n).up (is_set_up (link_of b n)) (link_of b n).asked (unready_wait (link_of b n)) (up_step b n) s due e in
    let served = served_next (is_served (link_of b n)) (served_step b n) s (due_waits_not wait.Resubscribe s due) r.2 in (r.0, r.1, served.0, served.1)

-- so what is subscribed again there was answered
pub mover_is_served : (b : Book) (n : ℕ) → CanMove b n → is_served (link_of b n) ≡ true
mover_is_served b n moves = let r = due_on b n (next_step b n) moves.due refl in r.2

-- where the next step is a start, the link is up and isn't held back, and the submission was told, or was let in and has a place
pub starts_mean : (b : Book) (n : ℕ) → next_step b n ≡ starts
    → (dials (link_of b n) ≡ false) × (is_ready (link_of b n) ≡ true) × (is_held_back b (link_of b n) ≡ false)
    × ((is_told (b.story n) ≡ true) ⊎ ((is_let_in (permits_in b.config) (b.story n) ≡ true) × (is_outside b n ≡ false)))
starts_mean b n e =
    let r = due_on b n starts refl e in
    elim (open_next (is_told (b.story n)) (is_held_back b (link_of b n)) (untold_step b n) starts r.3) [
      | inl told ↦ (r.0, r.1, told_starts (is_held_back b (link_of b n)) told.1, inl told.0)
      | inr not_told ↦
          let p = past_timer b n starts (inl refl) (past_round b n starts (λ x. cc x) not_told.1).1 in
          let q = placed_starts (is_outside b n) (is_awaited (b.story n)) (is_held_back b (link_of b n)) p.1 in
          (r.0, r.1, q.1, inr (p.0, q.0))
    ]

-- where it is to be told, its link is ready, it was let in and has a place, and its reply isn't awaited
pub tells_mean : (b : Book) (n : ℕ) → next_step b n ≡ tells
    → (dials (link_of b n) ≡ false) × (is_ready (link_of b n) ≡ true) × (is_let_in (permits_in b.config) (b.story n) ≡ true) × (is_outside b n ≡ false) × (is_awaited (b.story n) ≡ false)
tells_mean b n e =
    let r = due_on b n tells refl e in
    elim (open_next (is_told (b.story n)) (is_held_back b (link_of b n)) (untold_step b n) tells r.3) [
      | inl told ↦ absurd (told_tells (is_held_back b (link_of b n)) told.1)
      | inr not_told ↦
          let p = past_timer b n tells (inr refl) (past_round b n tells (λ x. cc x) not_told.1).1 in
          let q = placed_tells (is_outside b n) (is_awaited (b.story n)) (is_held_back b (link_of b n)) p.1 in
          (r.0, r.1, p.0, q.0, q.1)
    ]

-- what is taken is free
taken_is_free : (free most count : ℕ) → step_taking free most ≡ takes count → (count ≤ free) × (0 < free)
taken_is_free zero most count e = absurd (cc e)
taken_is_free (suc free) most count e = let x : min (suc free) most ≡ count = cc e in (omega arith, omega arith)

-- at a place nothing is taken, nor a timer asked for
placed_takes : (outside awaited held : Bool) (count : ℕ) → step_placed outside awaited held ≡ takes count → ⊥
placed_takes true awaited held count e = cc e
placed_takes false true true count e = cc e
placed_takes false true false count e = cc e
placed_takes false false held count e = cc e

-- nor is a timer asked for
placed_asks : (outside awaited held : Bool) (ms : ℕ) → step_placed outside awaited held ≡ asks ms → ⊥
placed_asks true awaited held ms e = cc e
placed_asks false true true ms e = cc e
placed_asks false true false ms e = cc e
placed_asks false false held ms e = cc e

-- nor where a timer is asked for
timed_takes : (timeout clock : Option ℕ) (outside awaited held : Bool) (count : ℕ) → step_timed timeout clock (step_placed outside awaited held) ≡ takes count → ⊥
timed_takes None clock outside awaited held count e = placed_takes outside awaited held count e
timed_takes (Some ms) None outside awaited held count e = cc e
timed_takes (Some ms) (Some t) outside awaited held count e = placed_takes outside awaited held count e

-- where permits are counted, and it holds none, and so many are free, it takes some
holding_takes : (limit : Option ℕ) (permits : ℕ) (free : ℕ → ℕ) (most : ℕ → ℕ) (timeout clock : Option ℕ) (outside awaited held : Bool) (count : ℕ)
    → step_holding limit permits (λ k. step_taking (free k) (most k)) (step_timed timeout clock (step_placed outside awaited held)) ≡ takes count
    → (k : ℕ) × (limit ≡ Some k) × (permits ≡ 0) × (count ≤ free k) × (0 < free k)
holding_takes None permits free most timeout clock outside awaited held count e = absurd (timed_takes timeout clock outside awaited held count e)
holding_takes (Some k) zero free most timeout clock outside awaited held count e = let t = taken_is_free (free k) (most k) count e in (k, refl, refl, t.0, t.1)
holding_takes (Some k) (suc n) free most timeout clock outside awaited held count e = absurd (timed_takes timeout clock outside awaited held count e)

-- where it takes permits, its link is ready, and of a limit so many are free; it holds none
pub takes_mean : (b : Book) (n count : ℕ) → next_step b n ≡ takes count
    → (dials (link_of b n) ≡ false) × (is_ready (link_of b n) ≡ true)
    × ((limit : ℕ) × (permits_in b.config ≡ Some limit) × ((b.story n).permits ≡ 0) × (count ≤ free_permits b (b.story n).link limit) × (0 < free_permits b (b.story n).link limit))
takes_mean b n count e =
    let r = due_on b n (takes count) refl e in
    elim (open_next (is_told (b.story n)) (is_held_back b (link_of b n)) (untold_step b n) (takes count) r.3) [
      | inl told ↦ absurd (told_takes (is_held_back b (link_of b n)) count told.1)
      | inr not_told ↦ (r.0, r.1, holding_takes (permits_in b.config) (b.story n).permits (free_permits b (b.story n).link) (permits_for (shape (b.story n))) (b.story n).timeout (b.story n).clock (is_outside b n) (is_awaited (b.story n)) (is_held_back b (link_of b n)) count (past_round b n (takes count) (λ x. cc x) not_told.1).1)
    ]

-- whoever takes permits, or waits for one, has no timer asked for
taking_asks : (free most ms : ℕ) → step_taking free most ≡ asks ms → ⊥
taking_asks zero most ms e = cc e
taking_asks (suc free) most ms e = cc e

-- whose timer is asked for is to be answered within that time, and has none
timed_asks : (timeout clock : Option ℕ) (outside awaited held : Bool) (ms : ℕ) → step_timed timeout clock (step_placed outside awaited held) ≡ asks ms → (timeout ≡ Some ms) × (clock ≡ None)
timed_asks None clock outside awaited held ms e = absurd (placed_asks outside awaited held ms e)
timed_asks (Some time) None outside awaited held ms e = let x : time ≡ ms = cc e in (ap Some x, refl)
timed_asks (Some time) (Some t) outside awaited held ms e = absurd (placed_asks outside awaited held ms e)

-- and it holds its permits
pub asks_mean : (b : Book) (n ms : ℕ) → next_step b n ≡ asks ms
    → (holds_some (permits_in b.config) (b.story n).permits ≡ true) × ((b.story n).timeout ≡ Some ms) × ((b.story n).clock ≡ None)
asks_mean b n ms e =
    let r = due_on b n (asks ms) refl e in
    elim (open_next (is_told (b.story n)) (is_held_back b (link_of b n)) (untold_step b n) (asks ms) r.3) [
      | inl told ↦ absurd (told_asks (is_held_back b (link_of b n)) ms told.1)
      | inr not_told ↦
          let h = holding_next (permits_in b.config) (b.story n).permits (λ limit. step_taking (free_permits b (b.story n).link limit) (permits_for (shape (b.story n)) limit)) (step_timed (b.story n).timeout (b.story n).clock (step_placed (is_outside b n) (is_awaited (b.story n)) (is_held_back b (link_of b n)))) (asks ms)
          (λ most. taking_asks (free_permits b (b.story n).link most) (permits_for (shape (b.story n)) most) ms) (past_round b n (asks ms) (λ x. cc x) not_told.1).1 in
          let t = timed_asks (b.story n).timeout (b.story n).clock (is_outside b n) (is_awaited (b.story n)) (is_held_back b (link_of b n)) ms h.1 in (h.0, t.0, t.1)
    ]

-- what an open submission that holds its permits does with a place on a link that isn't held back is due
placed_due : (outside awaited held : Bool) → held ≡ false → outside ≡ false → is_due (step_placed outside awaited held) ≡ true
placed_due true awaited held h o = absurd (cc o)
placed_due false true true h o = absurd (cc h)
placed_due false true false h o = refl
placed_due false false held h o = refl

-- so it is behind its timer
timed_due : (timeout clock : Option ℕ) (next : Step) → is_due next ≡ true → is_due (step_timed timeout clock next) ≡ true
timed_due None clock next e = e
timed_due (Some ms) None next e = refl
timed_due (Some ms) (Some t) next e = e

-- and behind its permits
holding_due : (limit : Option ℕ) (permits : ℕ) (taking : ℕ → Step) (next : Step) → holds_some limit permits ≡ true → is_due (step_holding limit permits taking next) ≡ is_due next
holding_due None permits taking next h = refl
holding_due (Some limit) zero taking next h = absurd (cc h)
holding_due (Some limit) (suc held) taking next h = refl

-- so is what is done on a link that is ready
ready_due : (dialing up set asked : Bool) (unready : WaitKind) (step : Step) → dialing ≡ false → (up && set) ≡ true → is_due (if dialing then waits wait.Connect else if up then (if set then step else waits unready) else step_down asked) ≡ is_due step
ready_due true up set asked unready step d u = absurd (cc d)
ready_due false true true asked unready step d u = refl
ready_due false true false asked unready step d u = absurd (cc u)
ready_due false false set asked unready step d u = absurd (cc u)

-- and where what is subscribed again there is answered
served_due : (served : Bool) (next : Step) → served ≡ true → is_due (step_served served next) ≡ is_due next
served_due true next s = refl
served_due false next s = absurd (cc s)

-- so it is in a book
pub taken_due : (b : Book) (n : ℕ) → dials (link_of b n) ≡ false → is_ready (link_of b n) ≡ true → is_served (link_of b n) ≡ true → is_due (next_step b n) ≡ is_due (served_step b n)
taken_due b n d u s =
    ready_due (dials (link_of b n)) (link_of b n).up (is_set_up (link_of b n)) (link_of b n).asked (unready_wait (link_of b n)) (up_step b n) d u
    ∙ served_due (is_served (link_of b n)) (served_step b n) s

-- whoever was told does so where the link isn't held back
told_due : (told held : Bool) (next : Step) → told ≡ true → held ≡ false → is_due (step_open told held next) ≡ true
told_due true true next t h = absurd (cc h)
told_due true false next t h = refl
told_due false held next t h = absurd (cc t)

-- and whoever wasn't does what else is due
untold_due : (told held : Bool) (next : Step) → told ≡ false → is_due (step_open told held next) ≡ is_due next
untold_due true held next t = absurd (cc t)
untold_due false held next t = refl

-- whoever was told makes a step on a link that takes requests and isn't held back
pub told_is_due : (b : Book) (n : ℕ) → dials (link_of b n) ≡ false → is_ready (link_of b n) ≡ true → is_served (link_of b n) ≡ true → is_held_back b (link_of b n) ≡ false → is_told (b.story n) ≡ true → is_due (next_step b n) ≡ true
told_is_due b n d u s h t = taken_due b n d u s ∙ told_due (is_told (b.story n)) (is_held_back b (link_of b n)) (untold_step b n) t h

-- a round is due, or what else is
rounding_due : (shown rounded : Bool) (next : Step) → is_due next ≡ true → is_due (step_rounding shown rounded next) ≡ true
rounding_due true false next e = refl
rounding_due true true next e = e
rounding_due false rounded next e = e

-- what is due of who wasn't told
untold_is_due : (b : Book) (n : ℕ) → dials (link_of b n) ≡ false → is_ready (link_of b n) ≡ true → is_served (link_of b n) ≡ true → is_told (b.story n) ≡ false → is_due (rounded_step b n) ≡ true → is_due (next_step b n) ≡ true
untold_is_due b n d u s t due =
    taken_due b n d u s ∙ (untold_due (is_told (b.story n)) (is_held_back b (link_of b n)) (untold_step b n) t ∙ rounding_due (has_generations b) (b.story n).rounded (rounded_step b n) due)

-- so is a round
pub round_is_due : (b : Book) (n : ℕ) → dials (link_of b n) ≡ false → is_ready (link_of b n) ≡ true → is_served (link_of b n) ≡ true → is_told (b.story n) ≡ false → has_rounded (has_generations b) (b.story n).rounded ≡ false → is_due (next_step b n) ≡ true
round_is_due b n d u s t none =
    taken_due b n d u s ∙ (untold_due (is_told (b.story n)) (is_held_back b (link_of b n)) (untold_step b n) t ∙ unrounded_due (has_generations b) (b.story n).rounded none)
  where
    unrounded_due : (shown rounded : Bool) → has_rounded shown rounded ≡ false → is_due (step_rounding shown rounded (rounded_step b n)) ≡ true
    unrounded_due true false e = refl
    unrounded_due true true e = absurd (cc e)
    unrounded_due false rounded e = absurd (cc e)

-- and so does who holds its permits and has a place
pub free_is_due : (b : Book) (n : ℕ) → dials (link_of b n) ≡ false → is_ready (link_of b n) ≡ true → is_served (link_of b n) ≡ true → is_held_back b (link_of b n) ≡ false → is_told (b.story n) ≡ false
    → holds_some (permits_in b.config) (b.story n).permits ≡ true → is_outside b n ≡ false → is_due (next_step b n) ≡ true
free_is_due b n d u s h t p o = untold_is_due b n d u s t
    (holding_due (permits_in b.config) (b.story n).permits (λ limit. step_taking (free_permits b (b.story n).link limit) (permits_for (shape (b.story n)) limit)) (step_timed (b.story n).timeout (b.story n).clock (step_placed (is_outside b n) (is_awaited (b.story n)) (is_held_back b (link_of b n)))) p
    ∙ timed_due (b.story n).timeout (b.story n).clock (step_placed (is_outside b n) (is_awaited (b.story n)) (is_held_back b (link_of b n))) (placed_due (is_outside b n) (is_awaited (b.story n)) (is_held_back b (link_of b n)) h o))

-- who makes no step though it holds its permits has its timer
timed_from : (timeout clock : Option ℕ) (next : Step) → (is_due (step_timed timeout clock next) ≡ true → ⊥) → is_timed timeout clock ≡ true
timed_from None clock next none = refl
timed_from (Some ms) None next none = absurd (none refl)
timed_from (Some ms) (Some t) next none = refl

-- so it is in a book
pub holder_is_timed : (b : Book) (n : ℕ) → dials (link_of b n) ≡ false → is_ready (link_of b n) ≡ true → is_served (link_of b n) ≡ true → is_told (b.story n) ≡ false → holds_some (permits_in b.config) (b.story n).permits ≡ true
    → (is_due (next_step b n) ≡ true → ⊥) → is_timed (b.story n).timeout (b.story n).clock ≡ true
holder_is_timed b n d u s t p none = timed_from (b.story n).timeout (b.story n).clock (step_placed (is_outside b n) (is_awaited (b.story n)) (is_held_back b (link_of b n)))
    (λ due. none (untold_is_due b n d u s t (holding_due (permits_in b.config) (b.story n).permits (λ limit. step_taking (free_permits b (b.story n).link limit) (permits_for (shape (b.story n)) limit)) (step_timed (b.story n).timeout (b.story n).clock (step_placed (is_outside b n) (is_awaited (b.story n)) (is_held_back b (link_of b n)))) p ∙ due)))

-- whoever takes permits makes a step
takes_due : (free most : ℕ) → 0 < free → is_due (step_taking free most) ≡ true
takes_due zero most i = absurd (omega arith)
takes_due (suc free) most i = refl

-- and who makes no step though some are free holds some
holds_from : (limit permits : ℕ) (taking : ℕ → Step) (next : Step) → is_due (taking limit) ≡ true → (is_due (step_holding (Some limit) permits taking next) ≡ true → ⊥) → 0 < permits
holds_from limit zero taking next due none = absurd (none due)
holds_from limit (suc held) taking next due none = omega arith

-- so it is in a book, too
pub rester_holds : (b : Book) (n limit : ℕ) → dials (link_of b n) ≡ false → is_ready (link_of b n) ≡ true → is_served (link_of b n) ≡ true → is_told (b.story n) ≡ false → permits_in b.config ≡ Some limit → 0 < free_permits b (b.story n).link limit
    → (is_due (next_step b n) ≡ true → ⊥) → 0 < (b.story n).permits
rester_holds b n limit d u s t p free none =
    holds_from limit (b.story n).permits (λ k. step_taking (free_permits b (b.story n).link k) (permits_for (shape (b.story n)) k)) (step_timed (b.story n).timeout (b.story n).clock (step_placed (is_outside b n) (is_awaited (b.story n)) (is_held_back b (link_of b n))))
    (takes_due (free_permits b (b.story n).link limit) (permits_for (shape (b.story n)) limit) free)
    (λ due. none (untold_is_due b n d u s t
    (subst (λ o. is_due (step_holding o (b.story n).permits (λ k. step_taking (free_permits b (b.story n).link k) (permits_for (shape (b.story n)) k)) (step_timed (b.story n).timeout (b.story n).clock (step_placed (is_outside b n) (is_awaited (b.story n)) (is_held_back b (link_of b n))))) ≡ true) (sym p) due)))

-- whoever starts at its place without being told is awaited
awaited_at_its_place : (outside awaited held : Bool) → step_placed outside awaited held ≡ starts → awaited ≡ true
awaited_at_its_place true awaited held e = absurd (cc e)
awaited_at_its_place false true held e = refl
awaited_at_its_place false false held e = absurd (cc e)

-- so it is in a book, too
pub placed_is_awaited : (b : Book) (n : ℕ) → is_told (b.story n) ≡ false → next_step b n ≡ starts → is_awaited (b.story n) ≡ true
placed_is_awaited b n untold e =
    let r = due_on b n starts refl e in
    elim (open_next (is_told (b.story n)) (is_held_back b (link_of b n)) (untold_step b n) starts r.3) [
      | inl told ↦ absurd (not_both (is_told (b.story n)) untold told.0)
      | inr not_told ↦ awaited_at_its_place (is_outside b n) (is_awaited (b.story n)) (is_held_back b (link_of b n)) (past_timer b n starts (inl refl) (past_round b n starts (λ x. cc x) not_told.1).1).1
    ]

-- whoever waits for room on a link that isn't set up does so for no such thing
unready_not_room : (l : Ledger) → unready_wait l ≡ wait.Room → ⊥
unready_not_room l e = chosen (λ kind. kind ≡ wait.Room → ⊥) (lacks_credentials l) wait.Creds wait.Setup (λ t x. cc x) (λ f x. cc x) e

-- who waits for room does so on a link that is ready
room_of : (dialing up set asked : Bool) (unready : WaitKind) (step : Step) → (unready ≡ wait.Room → ⊥)
    → (if dialing then waits wait.Connect else if up then (if set then step else waits unready) else step_down asked) ≡ waits wait.Room → (dialing ≡ false) × ((up && set) ≡ true) × (step ≡ waits wait.Room)
room_of true up set asked unready step other e = absurd (cc e)
room_of false true true asked unready step other e = (refl, refl, e)
room_of false true false asked unready step other e = absurd (other (same_kind (waits unready) unready wait.Room refl e))
room_of false false set true unready step other e = absurd (cc e)
room_of false false set false unready step other e = absurd (cc e)

-- whoever takes permits, or waits for one, doesn't wait for room
taking_no_room : (free most : ℕ) → step_taking free most ≡ waits wait.Room → ⊥
taking_no_room zero most e = cc e
taking_no_room (suc free) most e = cc e

-- and who waits for room at its place has it
placed_room : (outside awaited held : Bool) → step_placed outside awaited held ≡ waits wait.Room → outside ≡ false
placed_room true awaited held e = absurd (cc e)
placed_room false awaited held e = refl

-- where a submission waits for room, its link is ready, and it was told, or was let in and has a place
pub rooms_mean : (b : Book) (n : ℕ) → next_step b n ≡ waits wait.Room
    → (dials (link_of b n) ≡ false) × (is_ready (link_of b n) ≡ true)
    × ((is_told (b.story n) ≡ true) ⊎ ((is_let_in (permits_in b.config) (b.story n) ≡ true) × (is_outside b n ≡ false)))
rooms_mean b n e =
    let held : Bool = is_held_back b (link_of b n) in
    let placed : Step = step_placed (is_outside b n) (is_awaited (b.story n)) held in
    let taking : ℕ → Step = λ limit. step_taking (free_permits b (b.story n).link limit) (permits_for (shape (b.story n)) limit) in
    let r = room_of (dials (link_of b n)) (link_of b n).up (is_set_up (link_of b n)) (link_of b n).asked (unready_wait (link_of b n)) (up_step b n) (unready_not_room (link_of b n)) e in
    let served = served_next (is_served (link_of b n)) (served_step b n) (waits wait.Room) (λ x. cc x) r.2 in
    elim (open_next (is_told (b.story n)) held (untold_step b n) (waits wait.Room) served.1) [
      | inl told ↦ (r.0, r.1, inl told.0)
      | inr not_told ↦
          let h = holding_next (permits_in b.config) (b.story n).permits taking (step_timed (b.story n).timeout (b.story n).clock placed) (waits wait.Room)
          (λ most. taking_no_room (free_permits b (b.story n).link most) (permits_for (shape (b.story n)) most)) (past_round b n (waits wait.Room) (λ x. cc x) not_told.1).1 in
          let t = timed_next (b.story n).timeout (b.story n).clock placed (waits wait.Room) (λ ms x. cc x) h.1 in
          (r.0, r.1, inr (both_hold (holds_some (permits_in b.config) (b.story n).permits) (is_timed (b.story n).timeout (b.story n).clock) h.0 t.0, placed_room (is_outside b n) (is_awaited (b.story n)) held t.1))
    ]

-- of two that don't both hold, where the first does, the second doesn't
the_other : (p q : Bool) → (p && q) ≡ false → p ≡ true → q ≡ false
the_other true q e t = e
the_other false q e t = absurd (cc t)

-- whoever isn't outside has kept its place, or fewer stand in line before it than the queue holds
pub inside_has_room : (b : Book) (n : ℕ) → is_outside b n ≡ false → (has_place (b.story n) ≡ true) ⊎ (line_before (permits_in b.config) b.story (b.story n).link n < queue_size b)
inside_has_room b n e =
    let before : ℕ = line_before (permits_in b.config) b.story (b.story n).link n in
    let full : Bool = nat_le (queue_size b) (renewals_in_line (link_of b n) + before) in
    by_test (has_place (b.story n)) ((has_place (b.story n) ≡ true) ⊎ (before < queue_size b)) (λ t. inl t)
    (λ f. inr (let i : renewals_in_line (link_of b n) + before < queue_size b = not_le_from (queue_size b) (renewals_in_line (link_of b n) + before) (the_other (not (has_place (b.story n))) full e (ap not f)) in omega (arith, i)))

-- what the place of a submission that waits so may come to, where it is shown
abbrev Fits : Bool → Bool → WaitKind → Type 0
Fits before after wait.Room = after ≡ false
Fits before after wait.Place = before ≡ true → after ≡ true
Fits before after _ = Unit {0}

-- it waits so at its place, too
placed_alike : (before after awaited held : Bool) (kind : WaitKind) → Fits before after kind → step_placed before awaited held ≡ waits kind → step_placed after awaited held ≡ waits kind
placed_alike true true awaited held kind fits e = e
placed_alike false false awaited held kind fits e = e
placed_alike true false awaited held wait.Place fits e = absurd (let x : false ≡ true = fits refl in cc x)
placed_alike true false awaited held _ fits e = absurd (cc e)
placed_alike false true awaited held wait.Room fits e = absurd (let x : true ≡ false = fits in cc x)
placed_alike false true true true _ fits e = absurd (cc e)
placed_alike false true true false _ fits e = absurd (cc e)
placed_alike false true false held _ fits e = absurd (cc e)

-- so it does behind its timer
timed_alike : (timeout clock : Option ℕ) (next other s : Step) → (next ≡ s → other ≡ s) → step_timed timeout clock next ≡ s → step_timed timeout clock other ≡ s
timed_alike None clock next other s alike e = alike e
timed_alike (Some ms) None next other s alike e = e
timed_alike (Some ms) (Some t) next other s alike e = alike e

-- behind its permits
holding_alike : (limit : Option ℕ) (permits : ℕ) (taking : ℕ → Step) (next other s : Step) → (next ≡ s → other ≡ s) → step_holding limit permits taking next ≡ s → step_holding limit permits taking other ≡ s
holding_alike None permits taking next other s alike e = alike e
holding_alike (Some limit) zero taking next other s alike e = e
holding_alike (Some limit) (suc held) taking next other s alike e = alike e

-- behind its round
rounding_alike : (shown rounded : Bool) (next other s : Step) → (next ≡ s → other ≡ s) → step_rounding shown rounded next ≡ s → step_rounding shown rounded other ≡ s
rounding_alike true false next other s alike e = e
rounding_alike true true next other s alike e = alike e
rounding_alike false rounded next other s alike e = alike e

-- where it wasn't told
open_alike : (told held : Bool) (next other s : Step) → (next ≡ s → other ≡ s) → step_open told held next ≡ s → step_open told held other ≡ s
open_alike true held next other s alike e = e
open_alike false held next other s alike e = alike e

-- where what is subscribed again is answered
served_alike : (served : Bool) (next other s : Step) → (next ≡ s → other ≡ s) → step_served served next ≡ s → step_served served other ≡ s
served_alike true next other s alike e = alike e
served_alike false next other s alike e = e

-- and on any link
ready_alike : (dialing up set asked : Bool) (unready : WaitKind) (next other s : Step) → (next ≡ s → other ≡ s)
    → (if dialing then waits wait.Connect else if up then (if set then next else waits unready) else step_down asked) ≡ s → (if dialing then waits wait.Connect else if up then (if set then other else waits unready) else step_down asked) ≡ s
ready_alike true up set asked unready next other s alike e = e
ready_alike false true true asked unready next other s alike e = alike e
ready_alike false true false asked unready next other s alike e = e
ready_alike false false set asked unready next other s alike e = e

-- a place that is kept, or found full, stays so where the wait for it is shown
shown_fits : (old told full : Bool) (kind : WaitKind) → Fits (not (old || told) && full) (not (is_room (Some kind) || told) && full) kind
shown_fits old told full wait.Room = refl
shown_fits true told full wait.Place = λ e. absurd (cc e)
shown_fits false told full wait.Place = λ e. e
shown_fits old told full _ = tt

-- where the wait is shown that a submission makes next, it waits so still
pub shown_alike : (config : Option Config) (s : Story) (line held : ℕ) (l : Ledger) (kind : WaitKind) → step_of config s line held l ≡ waits kind → step_of config (shown s kind) line held l ≡ waits kind
shown_alike config s line held l kind e =
    let back : Bool = is_held (configured boundary config) l in
    let taking : ℕ → Step = λ limit. step_taking (limit - held) (permits_for (shape s) limit) in
    let placed : Step = step_placed (is_outside_of config s line l) (is_awaited s) back in
    let after : Step = step_placed (is_outside_of config (shown s kind) line l) (is_awaited s) back in
    let holding : Step → Step = λ next. step_holding (permits_in config) s.permits taking (step_timed s.timeout s.clock next) in
    let rounding : Step → Step = λ next. step_rounding (is_some (settings_in config)) s.rounded (holding next) in
    let opening : Step → Step = λ next. step_open (is_told s) back (rounding next) in
    ready_alike (dials l) l.up (is_set_up l) l.asked (unready_wait l) (step_served (is_served l) (opening placed)) (step_served (is_served l) (opening after)) (waits kind)
    (served_alike (is_served l) (opening placed) (opening after) (waits kind)
    (open_alike (is_told s) back (rounding placed) (rounding after) (waits kind)
    (rounding_alike (is_some (settings_in config)) s.rounded (holding placed) (holding after) (waits kind)
    (holding_alike (permits_in config) s.permits taking (step_timed s.timeout s.clock placed) (step_timed s.timeout s.clock after) (waits kind)
    (timed_alike s.timeout s.clock placed after (waits kind)
    (placed_alike (is_outside_of config s line l) (is_outside_of config (shown s kind) line l) (is_awaited s) back kind (shown_fits (is_room s.waiting) (is_told s) (nat_le (configured buffer_size config) (renewals_in_line l + line)) kind))))))) e
