-- Permits and timers: traces that can be relied on, and actions that stand where they may not.
use Rattle.std.proofs.Common.{◌≡◌, ℕ, [], ◌∷◌, ◌++◌, Some, None, refl, subst, inl, inr, arith}
use Rattle.std.specs.Fmt.{digits}
use Rattle.containers.proofs.Choices.{ne_from}
use Rattle.resp_value.specs.declared.value.Value.TheVariants.{Nil}
use Rattle.resp_read.specs.Grammar.{max_depth}
use Rattle.resp_read.specs.Values.{values, left_over, is_spoiled}
use Rattle.resp_read.specs.Items.{items}
use Rattle.redis_error.specs.declared.fault_kind.FaultKind.TheVariants.{TimedOut}
use Rattle.redis_error.specs.declared.redis_error.RedisError.TheVariants as error
use Rattle.std.specs.Str.Lossy.{utf8_lossy, utf8_valid_len}
use Rattle.url.proofs.OnLiterals.{url_on_literals}
use Rattle.driver_model.specs.declared.action.Action.TheVariants as action
use Rattle.driver_model.specs.declared.action.Cause.{Cause}
use Rattle.driver_model.specs.declared.action.Cause.TheVariants as cause
use Rattle.driver_model.specs.declared.action.Owner.TheVariants as owner
use Rattle.driver_model.specs.declared.action.Purpose.TheVariants as purpose
use Rattle.driver_model.specs.declared.action.WaitKind.{WaitKind}
use Rattle.driver_model.specs.declared.action.WaitKind.TheVariants as wait
use Rattle.driver_model.specs.declared.event.EventKind.TheVariants as event
use Rattle.driver_model.specs.declared.outcome.Outcome.TheVariants as outcome
use Rattle.driver_model.specs.Request.{packed_bytes}
use Rattle.legal_trace.specs.Book.{Book}
use Rattle.legal_trace.specs.Managers.{settings_in, is_lazy}
use Rattle.legal_trace.specs.Events.{is_bad_event}
use Rattle.legal_trace.specs.Steps.{waits, asks, next_step}
use Rattle.legal_trace.specs.Legal.{MayTurn, MayTimer}
use Rattle.trace_examples.specs.Parts.{turn, command, unawaited, two_together, reply, one_reply, unbounded, limited_to, plain, held_for}
use Rattle.trace_examples.specs.Traces.{came_up, arrived, both_in_wait}
use Rattle.trace_examples.specs.Permits.{one_permit, permits_alone, permit_taken, timer_asked, second_came, time_is_over, permit_is_free, replied_late, two_taken, unawaited_first, connect_left_standing, second_timer, three_timers, permit_fronts}
use Rattle.trace_examples.specs.Fronts.{EachStands}
use Rattle.trace_examples.specs.Claims.{IsTraceIn, NoneBeginsIn}
use Rattle.trace_examples.proofs.Due.{legal, stands}
use Rattle.trace_examples.proofs.Server.{at_h, at_limited, at_plain, at_held_for}
use Rattle.trace_examples.proofs.Stood.{book_of, may_stand, answer, still_open}

-- a command is answered once its time is over, and gives its permit to the one that waits; its reply comes later, and is nobody's
pub timed_out_and_replied : IsTraceIn one_permit
    (event.Connected 0 ∷ event.Submit (command 71) ∷ event.Wrote 0 11 ∷ event.Submit (command 72) ∷ event.Fired 0 ∷ event.Bytes 0 one_reply ∷ [])
    replied_late
    []
unfolding digits settings_in is_lazy is_bad_event items values left_over is_spoiled max_depth url_on_literals utf8_lossy utf8_valid_len
timed_out_and_replied word = legal one_permit word _ _ refl refl (at_limited 1 (Some 100) refl, (tt, (refl, (refl, (tt, (refl, tt))))))

-- a pipeline of two takes two of three permits, the next one the one that is left, and a command waits
pub two_of_three : IsTraceIn (permits_alone 3)
    (event.Connected 0 ∷ event.Submit two_together ∷ event.Submit two_together ∷ event.Submit (command 73) ∷ [])
    two_taken
    (action.Took (owner.Try 1 0) 0 1 ∷ action.Start 0 1 (owner.Try 1 0) 2 22 ∷ turn 4 (event.Submit (command 73)) ∷ action.Wait (owner.Try 2 0) wait.Permit ∷ [])
unfolding digits settings_in is_lazy is_bad_event url_on_literals utf8_lossy utf8_valid_len
two_of_three word = legal (permits_alone 3) word _ _ refl refl (at_limited 3 None refl, (refl, tt))

-- a command that is told at its place gives its permit back, and the next one takes it in the same turn
pub given_back_by_nil : IsTraceIn (permits_alone 1)
    (event.Submit (unawaited 71) ∷ event.Submit (command 72) ∷ event.Connected 0 ∷ [])
    unawaited_first
    (action.Took (owner.Try 0 0) 0 1 ∷ action.Outcome 0 (outcome.One Nil) ∷ action.Start 0 0 (owner.Try 0 0) 1 11 ∷ action.Took (owner.Try 1 0) 0 1 ∷ action.Start 0 1 (owner.Try 1 0) 1 11 ∷ action.Write 0 (packed_bytes (unawaited 71) ++ packed_bytes (command 72)) ∷ [])
unfolding digits settings_in is_lazy is_bad_event url_on_literals utf8_lossy utf8_valid_len
given_back_by_nil word = legal (permits_alone 1) word _ _ refl refl (at_limited 1 None refl, (refl, (refl, tt)))

-- a command that may take any time has no timer
pub no_time : IsTraceIn one_permit
    (event.Connected 0 ∷ event.Timeout None ∷ event.Submit (command 71) ∷ [])
    came_up
    (turn 2 (event.Timeout None) ∷ turn 3 (event.Submit (command 71)) ∷ action.Took (owner.Try 0 0) 0 1 ∷ action.Start 0 0 (owner.Try 0 0) 1 11 ∷ action.Write 0 (packed_bytes (command 71)) ∷ [])
unfolding digits settings_in is_lazy is_bad_event url_on_literals utf8_lossy utf8_valid_len
no_time word = legal one_permit word _ _ refl refl (at_limited 1 (Some 100) refl, (refl, tt))

-- and one that came behind another time has a timer of that
pub another_time : IsTraceIn one_permit
    (event.Connected 0 ∷ event.Timeout (Some 7) ∷ event.Submit (command 71) ∷ [])
    came_up
    (turn 2 (event.Timeout (Some 7)) ∷ turn 3 (event.Submit (command 71)) ∷ action.Took (owner.Try 0 0) 0 1 ∷ action.Timer 0 7 (purpose.Response (owner.Try 0 0)) ∷ action.Start 0 0 (owner.Try 0 0) 1 11 ∷ action.Write 0 (packed_bytes (command 71)) ∷ [])
unfolding digits settings_in is_lazy is_bad_event url_on_literals utf8_lossy utf8_valid_len
another_time word = legal one_permit word _ _ refl refl (at_limited 1 (Some 100) refl, (tt, (refl, tt)))

-- a command that waited for the connect waits for a permit behind it
pub the_connect_and_then_a_permit : IsTraceIn (permits_alone 1)
    (event.Submit (command 71) ∷ event.Submit (command 72) ∷ event.Connected 0 ∷ [])
    connect_left_standing
    (action.Wait (owner.Try 1 0) wait.Permit ∷ [])
unfolding digits settings_in is_lazy is_bad_event url_on_literals utf8_lossy utf8_valid_len
the_connect_and_then_a_permit word = legal (permits_alone 1) word _ _ refl refl (at_limited 1 None refl, (refl, tt))

-- a permit is free once its holder leaves
pub a_permit_that_was_left : IsTraceIn one_permit
    (event.Connected 0 ∷ event.Submit (command 71) ∷ event.Wrote 0 11 ∷ event.Submit (command 72) ∷ event.Cancel 0 ∷ [])
    second_came
    (action.Wait (owner.Try 1 0) wait.Permit ∷ turn 5 (event.Cancel 0) ∷ action.Took (owner.Try 1 0) 0 1 ∷ action.Timer 1 100 (purpose.Response (owner.Try 1 0)) ∷ action.Start 0 1 (owner.Try 1 0) 1 11 ∷ action.Write 0 (packed_bytes (command 72)) ∷ [])
unfolding digits settings_in is_lazy is_bad_event url_on_literals utf8_lossy utf8_valid_len
a_permit_that_was_left word = legal one_permit word _ _ refl refl (at_limited 1 (Some 100) refl, (tt, (refl, (tt, (refl, tt)))))

-- a timer that fires once its owner was told is nothing
pub fired_behind_nil : IsTraceIn one_permit
    (event.Connected 0 ∷ event.Submit (unawaited 71) ∷ event.Fired 0 ∷ [])
    (λ config word. arrived config word (unawaited 71))
    (action.Took (owner.Try 0 0) 0 1 ∷ action.Timer 0 100 (purpose.Response (owner.Try 0 0)) ∷ action.Outcome 0 (outcome.One Nil) ∷ action.Start 0 0 (owner.Try 0 0) 1 11 ∷ action.Write 0 (packed_bytes (unawaited 71)) ∷ turn 3 (event.Fired 0) ∷ [])
unfolding digits settings_in is_lazy is_bad_event url_on_literals utf8_lossy utf8_valid_len
fired_behind_nil word = legal one_permit word _ _ refl refl (at_limited 1 (Some 100) refl, (tt, (refl, (refl, tt))))

-- where nothing is said, the connect has a timer of 1,000 milliseconds, and a command one of 500, which its reply makes nothing
pub where_nothing_is_said : IsTraceIn plain
    (event.Connected 0 ∷ event.Submit (command 71) ∷ event.Fired 0 ∷ event.Bytes 0 one_reply ∷ event.Fired 1 ∷ [])
    second_timer
    (action.Start 0 0 (owner.Try 0 0) 1 11 ∷ action.Write 0 (packed_bytes (command 71)) ∷ turn 3 (event.Fired 0) ∷ turn 4 (event.Bytes 0 one_reply) ∷ action.Outcome 0 (reply 120) ∷ turn 5 (event.Fired 1) ∷ [])
unfolding digits settings_in is_lazy is_bad_event items values left_over is_spoiled max_depth url_on_literals utf8_lossy utf8_valid_len
where_nothing_is_said word = legal plain word _ _ refl refl (at_plain, ((refl, refl), (tt, (refl, (refl, tt)))))

-- commands that wait for room and for a place are answered once their time is over
pub timed_out_in_wait : IsTraceIn (held_for 100)
    (event.Connected 0 ∷ event.Submit (command 71) ∷ event.Submit (command 72) ∷ event.Submit (command 73) ∷ event.Fired 1 ∷ event.Fired 2 ∷ [])
    three_timers
    (turn 5 (event.Fired 1) ∷ action.Outcome 1 (outcome.Fault (error.Io TimedOut)) ∷ action.Wait (owner.Try 2 0) wait.Room ∷ turn 6 (event.Fired 2) ∷ action.Outcome 2 (outcome.Fault (error.Io TimedOut)) ∷ [])
unfolding digits settings_in is_lazy is_bad_event url_on_literals utf8_lossy utf8_valid_len
timed_out_in_wait word = legal (held_for 100) word _ _ refl refl (at_held_for 100, (tt, (refl, (tt, (tt, (refl, (refl, tt)))))))

-- these fronts stand
pub permit_fronts_stand : (word : ℕ) → EachStands (permit_fronts word)
unfolding digits settings_in is_lazy is_bad_event items values left_over is_spoiled max_depth url_on_literals utf8_lossy utf8_valid_len
permit_fronts_stand word =
    let came = stands (arrived one_permit word (command 71)) refl (at_limited 1 (Some 100) refl, tt) in
    let uncounted = stands (arrived unbounded word (command 71)) refl (at_h (Some None), tt) in
    let taken = stands (permit_taken one_permit word) refl (at_limited 1 (Some 100) refl, tt) in
    let asked = stands (timer_asked one_permit word) refl (at_limited 1 (Some 100) refl, (tt, tt)) in
    let second = stands (second_came (limited_to 2 (Some 100)) word) refl (at_limited 2 (Some 100) refl, (tt, (refl, tt))) in
    let over = stands (time_is_over one_permit word) refl (at_limited 1 (Some 100) refl, (tt, (refl, tt))) in
    let free = stands (permit_is_free one_permit word) refl (at_limited 1 (Some 100) refl, (tt, (refl, (refl, tt)))) in
    let late = stands (replied_late one_permit word) refl (at_limited 1 (Some 100) refl, (tt, (refl, (refl, (tt, (refl, tt)))))) in
    let two = stands (two_taken (permits_alone 3) word) refl (at_limited 3 None refl, (refl, tt)) in
    let both = stands (both_in_wait (permits_alone 2) word (command 72)) refl (at_limited 2 None refl, tt) in
    let standing = stands (connect_left_standing (permits_alone 1) word) refl (at_limited 1 None refl, (refl, tt)) in
    (came, (uncounted, (taken, (asked, (second, (over, (free, (late, (two, (both, (standing, tt)))))))))))

-- a start before its permit was taken
pub started_without_a_permit : NoneBeginsIn one_permit (λ config word. arrived config word (command 71)) (action.Start 0 0 (owner.Try 0 0) 1 11)
unfolding digits settings_in is_lazy url_on_literals utf8_lossy utf8_valid_len
started_without_a_permit word events after h =
    let m = may_stand one_permit word events (arrived one_permit word (command 71)) after (action.Start 0 0 (owner.Try 0 0) 1 11) h in
    cc m.1.starts

-- and before its timer was asked for
pub started_without_its_timer : NoneBeginsIn one_permit permit_taken (action.Start 0 0 (owner.Try 0 0) 1 11)
unfolding digits settings_in is_lazy url_on_literals utf8_lossy utf8_valid_len
started_without_its_timer word events after h =
    let m = may_stand one_permit word events (permit_taken one_permit word) after (action.Start 0 0 (owner.Try 0 0) 1 11) h in
    cc m.1.starts

-- a permit that is taken where they aren't counted
pub taken_uncounted : NoneBeginsIn unbounded (λ config word. arrived config word (command 71)) (action.Took (owner.Try 0 0) 0 1)
unfolding digits settings_in is_lazy url_on_literals utf8_lossy utf8_valid_len
taken_uncounted word events after h =
    let m = may_stand unbounded word events (arrived unbounded word (command 71)) after (action.Took (owner.Try 0 0) 0 1) h in
    cc m.1.takes

-- more permits than are free
pub more_than_are_free : NoneBeginsIn (permits_alone 3) two_taken (action.Took (owner.Try 1 0) 0 2)
unfolding digits settings_in is_lazy url_on_literals utf8_lossy utf8_valid_len
more_than_are_free word events after h =
    let m = may_stand (permits_alone 3) word events (two_taken (permits_alone 3) word) after (action.Took (owner.Try 1 0) 0 2) h in
    cc m.1.takes

-- the permit of the second, before that of the first
pub taken_out_of_order : NoneBeginsIn (permits_alone 2) (λ config word. both_in_wait config word (command 72)) (action.Took (owner.Try 1 0) 0 1)
unfolding digits settings_in is_lazy url_on_literals utf8_lossy utf8_valid_len
taken_out_of_order word events after h =
    let m = may_stand (permits_alone 2) word events (both_in_wait (permits_alone 2) word (command 72)) after (action.Took (owner.Try 1 0) 0 1) h in
    m.1.in_order 0 (omega arith) (record { unstarted = refl; due = refl })

-- a timer of the first submission is asked for where this is its step
asked_by_the_first : (b : Book) (t ms : ℕ) → MayTimer b t ms (purpose.Response (owner.Try 0 0)) → next_step b 0 ≡ asks ms
asked_by_the_first b t ms (inl (inl may)) = absurd (of_a_connect b.current may.is_for)
  where
    of_a_connect : (l : ℕ) → purpose.Response (owner.Try 0 0) ≡ purpose.Connect l → ⊥
    of_a_connect l e = cc e
asked_by_the_first b t ms (inl (inr may)) = absurd (of_a_rest b.generation may.is_for)
  where
    of_a_rest : (g : ℕ) → purpose.Response (owner.Try 0 0) ≡ purpose.Backoff g → ⊥
    of_a_rest g e = cc e
asked_by_the_first b t ms (inr (inr (inr may))) = absurd (of_a_repeat may.l may.is_for)
  where
    of_a_repeat : (l : ℕ) → purpose.Response (owner.Try 0 0) ≡ purpose.Resubscription l → ⊥
    of_a_repeat l e = cc e
asked_by_the_first b t ms (inr (inr (inl may))) = absurd (of_a_renewal may.l (b.link may.l).creds.timed may.is_for)
  where
    of_a_renewal : (l k : ℕ) → purpose.Response (owner.Try 0 0) ≡ purpose.Renewal l k → ⊥
    of_a_renewal l k e = cc e
asked_by_the_first b t ms (inr (inl may)) = subst (λ n. next_step b n ≡ asks ms) (the_first may.n may.is_for) may.asks
  where
    the_first : (n : ℕ) → purpose.Response (owner.Try 0 0) ≡ purpose.Response (owner.Try n 0) → n ≡ 0
    the_first n e = cc e

-- a timer before the permit
pub timer_before_the_permit : NoneBeginsIn one_permit (λ config word. arrived config word (command 71)) (action.Timer 0 100 (purpose.Response (owner.Try 0 0)))
unfolding digits settings_in is_lazy url_on_literals utf8_lossy utf8_valid_len
timer_before_the_permit word events after h =
    let m = may_stand one_permit word events (arrived one_permit word (command 71)) after (action.Timer 0 100 (purpose.Response (owner.Try 0 0))) h in
    cc (asked_by_the_first (book_of (arrived one_permit word (command 71))) 0 100 m)

-- a second timer of a submission
pub a_second_timer : NoneBeginsIn one_permit timer_asked (action.Timer 1 100 (purpose.Response (owner.Try 0 0)))
unfolding digits settings_in is_lazy url_on_literals utf8_lossy utf8_valid_len
a_second_timer word events after h =
    let m = may_stand one_permit word events (timer_asked one_permit word) after (action.Timer 1 100 (purpose.Response (owner.Try 0 0))) h in
    cc (asked_by_the_first (book_of (timer_asked one_permit word)) 1 100 m)

-- a step asks for a timer of one time
same_time : (m n : ℕ) → asks m ≡ asks n → m ≡ n
same_time m n e = cc e

-- a timer of another time than the one in force
pub timer_of_another_time : NoneBeginsIn one_permit permit_taken (action.Timer 0 99 (purpose.Response (owner.Try 0 0)))
unfolding digits settings_in is_lazy url_on_literals utf8_lossy utf8_valid_len
timer_of_another_time word events after h =
    let m = may_stand one_permit word events (permit_taken one_permit word) after (action.Timer 0 99 (purpose.Response (owner.Try 0 0))) h in
    ne_from 100 99 refl (same_time 100 99 (asked_by_the_first (book_of (permit_taken one_permit word)) 0 99 m))

-- a submission whose time is over, answered with the closed connection
pub closed_when_over : NoneBeginsIn one_permit time_is_over (action.Outcome 0 (outcome.Fault error.Closed))
unfolding digits settings_in is_lazy url_on_literals utf8_lossy utf8_valid_len
closed_when_over word events after h = cc (answer one_permit word events (time_is_over one_permit word) after 0 (outcome.Fault error.Closed) refl h).owes

-- the reply to it, given to the next one
pub reply_of_the_first : NoneBeginsIn one_permit replied_late (action.Outcome 1 (reply 120))
unfolding digits settings_in is_lazy items values left_over is_spoiled max_depth url_on_literals utf8_lossy utf8_valid_len
reply_of_the_first word events after h = cc (answer one_permit word events (replied_late one_permit word) after 1 (reply 120) refl h).owes

-- or to the first, behind its outcome
pub answered_when_over : NoneBeginsIn one_permit replied_late (action.Outcome 0 (reply 120))
unfolding digits settings_in is_lazy items values left_over is_spoiled max_depth url_on_literals utf8_lossy utf8_valid_len
answered_when_over word events after h = cc (still_open one_permit word events (replied_late one_permit word) after 0 (reply 120) h)

-- the wait for a permit, where one is free
pub waits_though_one_is_free : NoneBeginsIn (limited_to 2 (Some 100)) second_came (action.Wait (owner.Try 1 0) wait.Permit)
unfolding digits settings_in is_lazy url_on_literals utf8_lossy utf8_valid_len
waits_though_one_is_free word events after h =
    let m = may_stand (limited_to 2 (Some 100)) word events (second_came (limited_to 2 (Some 100)) word) after (action.Wait (owner.Try 1 0) wait.Permit) h in
    cc m.1.holds

-- no kind is both
two_kinds : (kind : WaitKind) → Some wait.Connect ≡ Some kind → waits wait.Permit ≡ waits kind → ⊥
two_kinds kind e f = cc (e, f)

-- a turn that begins while the wait for the connect stands behind it, and that for a permit is true
pub connect_was_shown : (number : ℕ) (c : Cause) → NoneBeginsIn (permits_alone 1) connect_left_standing (action.Turn number c)
unfolding digits settings_in is_lazy url_on_literals utf8_lossy utf8_valid_len
connect_was_shown number c word events after h = of_cause c (may_stand (permits_alone 1) word events (connect_left_standing (permits_alone 1) word) after (action.Turn number c) h)
  where
    of_cause : (c : Cause) → MayTurn (book_of (connect_left_standing (permits_alone 1) word)) number c → ⊥
    of_cause (cause.Opening config draws) m = cc m.is_for
    of_cause (cause.Event e) m = elim (m.is_for.1.goes 1 refl) [ inl started ↦ cc started.last | inr w ↦ two_kinds w.kind w.shown w.holds ]

-- a turn that begins while a permit is free, and one waits for it
pub permit_is_kept : (number : ℕ) (c : Cause) → NoneBeginsIn one_permit permit_is_free (action.Turn number c)
unfolding digits settings_in is_lazy url_on_literals utf8_lossy utf8_valid_len
permit_is_kept number c word events after h = of_cause c (may_stand one_permit word events (permit_is_free one_permit word) after (action.Turn number c) h)
  where
    of_cause : (c : Cause) → MayTurn (book_of (permit_is_free one_permit word)) number c → ⊥
    of_cause (cause.Opening config draws) m = cc m.is_for
    of_cause (cause.Event e) m = m.is_for.1.written.moved.moved 1 (record { unstarted = refl; due = refl })
