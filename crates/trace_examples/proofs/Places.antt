-- Places and room: traces that can be relied on, and actions that stand where they may not.
use Rattle.std.proofs.Common.{◌≡◌, ℕ, ◌+◌, drop, [], ◌∷◌, ◌++◌, Some, refl, inl, inr, arith}
use Rattle.std.specs.Fmt.{digits}
use Rattle.resp_value.specs.declared.value.Value.TheVariants.{Nil}
use Rattle.redis_error.specs.declared.fault_kind.FaultKind.TheVariants.{Reset}
use Rattle.redis_error.specs.declared.redis_error.RedisError.TheVariants as error
use Rattle.std.specs.Str.Lossy.{utf8_lossy, utf8_valid_len}
use Rattle.url.proofs.OnLiterals.{url_on_literals}
use Rattle.driver_model.specs.declared.action.Action.TheVariants as action
use Rattle.driver_model.specs.declared.action.Cause.{Cause}
use Rattle.driver_model.specs.declared.action.Cause.TheVariants as cause
use Rattle.driver_model.specs.declared.action.Owner.TheVariants as owner
use Rattle.driver_model.specs.declared.action.WaitKind.{WaitKind}
use Rattle.driver_model.specs.declared.action.WaitKind.TheVariants as wait
use Rattle.driver_model.specs.declared.event.EventKind.TheVariants as event
use Rattle.driver_model.specs.declared.outcome.Outcome.TheVariants as outcome
use Rattle.driver_model.specs.Config.{buffer_size, permits}
use Rattle.driver_model.specs.Request.{packed_bytes}
use Rattle.legal_trace.specs.Managers.{settings_in, is_lazy}
use Rattle.legal_trace.specs.Events.{is_bad_event}
use Rattle.legal_trace.specs.Steps.{waits, line_before, renewals_in_line}
use Rattle.legal_trace.specs.Legal.{MayTurn}
use Rattle.legal_trace.proofs.Moves.{starts_mean}
use Rattle.trace_examples.specs.Parts.{turn, command, unawaited, two_together}
use Rattle.trace_examples.specs.Traces.{held_back, both_in_wait}
use Rattle.trace_examples.specs.Places.{narrow, one_at_a_time, third_held, third_came, queue_full, second_unshown, place_fronts}
use Rattle.trace_examples.specs.Fronts.{EachStands}
use Rattle.trace_examples.specs.Claims.{IsTraceIn, NoneBegins, NoneBeginsIn}
use Rattle.trace_examples.proofs.Due.{legal, stands}
use Rattle.trace_examples.proofs.Misplaced.{alone_is_served, first_is_due, room_for_one, starts_uncounted}
use Rattle.trace_examples.proofs.Server.{at_held}
use Rattle.trace_examples.proofs.Stood.{book_of, may_stand, opens_alone}

-- a command waits for room when its link fails
pub cut_off_in_wait : IsTraceIn narrow
    (event.Connected 0 ∷ event.Submit (command 71) ∷ event.Submit two_together ∷ event.Submit (command 72) ∷ event.ReadFault 0 Reset ∷ [])
    third_held
    (turn 5 (event.ReadFault 0 Reset) ∷ action.Close 0 ∷ action.Outcome 0 (outcome.Fault (error.Io Reset)) ∷ action.Outcome 1 (outcome.Fault error.Closed) ∷ action.Outcome 2 (outcome.Fault error.Closed) ∷ [])
unfolding digits settings_in is_lazy is_bad_event url_on_literals utf8_lossy utf8_valid_len
cut_off_in_wait word = legal narrow word _ _ refl refl (at_held 30 50 refl, (refl, (refl, (refl, (refl, tt)))))

-- and starts once fewer bytes are unwritten
pub started_later : IsTraceIn narrow
    (event.Connected 0 ∷ event.Submit (command 71) ∷ event.Submit two_together ∷ event.Submit (command 72) ∷ event.Wrote 0 11 ∷ [])
    third_held
    (turn 5 (event.Wrote 0 11) ∷ action.Start 0 2 (owner.Try 2 0) 1 11 ∷ action.Write 0 (packed_bytes two_together ++ packed_bytes (command 72)) ∷ [])
unfolding digits settings_in is_lazy is_bad_event url_on_literals utf8_lossy utf8_valid_len
started_later word = legal narrow word _ _ refl refl (at_held 30 50 refl, (refl, (refl, tt)))

-- a place is free once the message that had it starts, and then its owner waits for room
pub a_place_and_then_room : IsTraceIn one_at_a_time
    (event.Connected 0 ∷ event.Submit (command 71) ∷ event.Submit (command 72) ∷ event.Submit (command 73) ∷ event.Wrote 0 4 ∷ event.Wrote 0 7 ∷ [])
    (λ config word. queue_full config word (command 73))
    (turn 5 (event.Wrote 0 4) ∷ action.Write 0 (drop 4 (packed_bytes (command 71))) ∷ turn 6 (event.Wrote 0 7) ∷ action.Start 0 1 (owner.Try 1 0) 1 11 ∷ action.Write 0 (packed_bytes (command 72)) ∷ action.Wait (owner.Try 2 0) wait.Room ∷ [])
unfolding digits settings_in is_lazy is_bad_event url_on_literals utf8_lossy utf8_valid_len
a_place_and_then_room word = legal one_at_a_time word _ _ refl refl (at_held 0 1 refl, (refl, (refl, (refl, tt))))

-- and once its owner left
pub a_place_that_was_left : IsTraceIn one_at_a_time
    (event.Connected 0 ∷ event.Submit (command 71) ∷ event.Submit (command 72) ∷ event.Submit (command 73) ∷ event.Cancel 1 ∷ [])
    (λ config word. queue_full config word (command 73))
    (turn 5 (event.Cancel 1) ∷ action.Wait (owner.Try 2 0) wait.Room ∷ [])
unfolding digits settings_in is_lazy is_bad_event url_on_literals utf8_lossy utf8_valid_len
a_place_that_was_left word = legal one_at_a_time word _ _ refl refl (at_held 0 1 refl, (refl, tt))

-- a command that waited for the connect waits for room behind it
pub the_connect_and_then_room : IsTraceIn one_at_a_time
    (event.Submit (command 71) ∷ event.Submit (command 72) ∷ event.Connected 0 ∷ [])
    second_unshown
    (action.Wait (owner.Try 1 0) wait.Room ∷ [])
unfolding digits settings_in is_lazy is_bad_event url_on_literals utf8_lossy utf8_valid_len
the_connect_and_then_room word = legal one_at_a_time word _ _ refl refl (at_held 0 1 refl, (refl, tt))

-- where nobody awaits its reply, it is told once it has a place, and starts later
pub told_once_it_has_a_place : IsTraceIn one_at_a_time
    (event.Connected 0 ∷ event.Submit (command 71) ∷ event.Submit (command 72) ∷ event.Submit (unawaited 73) ∷ event.Wrote 0 11 ∷ event.Wrote 0 11 ∷ [])
    (λ config word. queue_full config word (unawaited 73))
    (turn 5 (event.Wrote 0 11) ∷ action.Start 0 1 (owner.Try 1 0) 1 11 ∷ action.Outcome 2 (outcome.One Nil) ∷ action.Write 0 (packed_bytes (command 72)) ∷ turn 6 (event.Wrote 0 11) ∷ action.Start 0 2 (owner.Try 2 0) 1 11 ∷ action.Write 0 (packed_bytes (unawaited 73)) ∷ [])
unfolding digits settings_in is_lazy is_bad_event url_on_literals utf8_lossy utf8_valid_len
told_once_it_has_a_place word = legal one_at_a_time word _ _ refl refl (at_held 0 1 refl, (refl, (refl, (refl, (refl, tt)))))

-- these fronts stand
pub place_fronts_stand : (word : ℕ) → EachStands (place_fronts word)
unfolding digits settings_in is_lazy is_bad_event url_on_literals utf8_lossy utf8_valid_len
place_fronts_stand word =
    let held = stands (held_back one_at_a_time word) refl (at_held 0 1 refl, (refl, tt)) in
    let free = stands (held_back narrow word) refl (at_held 30 50 refl, (refl, tt)) in
    let third = stands (third_came one_at_a_time word (command 73)) refl (at_held 0 1 refl, (refl, tt)) in
    let untold = stands (third_came one_at_a_time word (unawaited 73)) refl (at_held 0 1 refl, (refl, tt)) in
    let unshown = stands (second_unshown one_at_a_time word) refl (at_held 0 1 refl, (refl, tt)) in
    let both = stands (both_in_wait narrow word (command 72)) refl (at_held 30 50 refl, tt) in
    (held, (free, (third, (untold, (unshown, (both, tt))))))

-- a start while the link is held back
pub started_while_held_back : NoneBeginsIn one_at_a_time held_back (action.Start 0 1 (owner.Try 1 0) 1 11)
unfolding digits settings_in is_lazy url_on_literals utf8_lossy utf8_valid_len
started_while_held_back word events after h =
    let m = may_stand one_at_a_time word events (held_back one_at_a_time word) after (action.Start 0 1 (owner.Try 1 0) 1 11) h in
    cc m.1.starts

-- a Nil that is told while the queue is full
pub told_while_the_queue_is_full : NoneBeginsIn one_at_a_time (λ config word. third_came config word (unawaited 73)) (action.Outcome 2 (outcome.One Nil))
unfolding digits settings_in is_lazy url_on_literals utf8_lossy utf8_valid_len
told_while_the_queue_is_full word events after h =
    elim (may_stand one_at_a_time word events (third_came one_at_a_time word (unawaited 73)) after (action.Outcome 2 (outcome.One Nil)) h) [
      | inl answer ↦ cc answer.owes
      | inr tell ↦ cc tell.tells
    ]

-- a start while the queue is full
pub started_without_a_place : NoneBeginsIn one_at_a_time (λ config word. third_came config word (command 73)) (action.Start 0 1 (owner.Try 2 0) 1 11)
unfolding digits settings_in is_lazy url_on_literals utf8_lossy utf8_valid_len
started_without_a_place word events after h =
    let m = may_stand one_at_a_time word events (third_came one_at_a_time word (command 73)) after (action.Start 0 1 (owner.Try 2 0) 1 11) h in
    cc m.1.starts

-- the wait for a place, shown of one that has it
pub place_where_it_has_one : NoneBeginsIn one_at_a_time held_back (action.Wait (owner.Try 1 0) wait.Place)
unfolding digits settings_in is_lazy url_on_literals utf8_lossy utf8_valid_len
place_where_it_has_one word events after h =
    let m = may_stand one_at_a_time word events (held_back one_at_a_time word) after (action.Wait (owner.Try 1 0) wait.Place) h in
    cc m.1.holds

-- the wait for room, shown where the link isn't held back
pub room_where_there_is_room : NoneBeginsIn narrow held_back (action.Wait (owner.Try 1 0) wait.Room)
unfolding digits settings_in is_lazy url_on_literals utf8_lossy utf8_valid_len
room_where_there_is_room word events after h =
    let m = may_stand narrow word events (held_back narrow word) after (action.Wait (owner.Try 1 0) wait.Room) h in
    cc m.1.holds

-- and shown of one that has no place
pub room_without_a_place : NoneBeginsIn one_at_a_time (λ config word. third_came config word (command 73)) (action.Wait (owner.Try 2 0) wait.Room)
unfolding digits settings_in is_lazy url_on_literals utf8_lossy utf8_valid_len
room_without_a_place word events after h =
    let m = may_stand one_at_a_time word events (third_came one_at_a_time word (command 73)) after (action.Wait (owner.Try 2 0) wait.Room) h in
    cc m.1.holds

-- no kind is both
two_kinds : (kind : WaitKind) → Some wait.Connect ≡ Some kind → waits wait.Room ≡ waits kind → ⊥
two_kinds kind e f = cc (e, f)

-- a turn that begins while the wait that is true isn't shown: another one was, which isn't true any more
pub another_wait_was_shown : (number : ℕ) (c : Cause) → NoneBeginsIn one_at_a_time second_unshown (action.Turn number c)
unfolding digits settings_in is_lazy url_on_literals utf8_lossy utf8_valid_len
another_wait_was_shown number c word events after h = of_cause c (may_stand one_at_a_time word events (second_unshown one_at_a_time word) after (action.Turn number c) h)
  where
    of_cause : (c : Cause) → MayTurn (book_of (second_unshown one_at_a_time word)) number c → ⊥
    of_cause (cause.Opening config draws) m = cc m.is_for
    of_cause (cause.Event e) m = elim (m.is_for.1.goes 1 refl) [ inl started ↦ cc started.last | inr w ↦ two_kinds w.kind w.shown w.holds ]

-- the second in line, started before the first
pub second_before_the_first : NoneBegins (λ config word. both_in_wait config word (command 72)) (action.Start 0 0 (owner.Try 1 0) 1 11)
second_before_the_first config word events after h =
    let b = book_of (both_in_wait config word (command 72)) in
    let m = may_stand config word events (both_in_wait config word (command 72)) after (action.Start 0 0 (owner.Try 1 0) 1 11) h in
    let s = starts_uncounted b 1 refl refl m.1.starts in
    m.1.in_order 0 (omega arith) (record { unstarted = refl; due = first_is_due b refl (starts_mean b 1 m.1.starts).1 (alone_is_served config (b.link 0) (opens_alone config word events _ h) refl) refl refl s.0 (room_for_one (buffer_size config) (renewals_in_line (b.link 0) + line_before (permits config) b.story 0 1) s.1) })
