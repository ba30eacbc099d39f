-- The fronts of the traces that are refused stand: only what comes next doesn't.
use Rattle.std.proofs.Common.{ℕ, [], ◌∷◌, ◌++◌, Some, None, refl}
use Rattle.std.specs.Fmt.{digits}
use Rattle.resp_value.specs.Kinds.{kind_of}
use Rattle.resp_read.specs.Grammar.{max_depth}
use Rattle.resp_read.specs.Values.{values, left_over, is_spoiled}
use Rattle.resp_read.specs.Items.{items}
use Rattle.std.specs.Str.Lossy.{utf8_lossy, utf8_valid_len}
use Rattle.url.proofs.OnLiterals.{url_on_literals}
use Rattle.driver_model.specs.declared.action.Action.TheVariants as action
use Rattle.legal_trace.specs.Managers.{settings_in, is_lazy}
use Rattle.legal_trace.specs.Events.{is_bad_event}
use Rattle.trace_examples.specs.Parts.{unbounded, bounded, command, unawaited, two_together, reply}
use Rattle.trace_examples.specs.Traces.{cut_off_alone, taken_in_part, came_up, arrived, started_one, answered_both, answered_alike, pushed, cut_off, told_first, half_filled, refused, left_alone, shut_down, shut_in_wait, left_untold, both_in_wait, up_in_wait, spoiled, held_back, first_of_both, started_unoffered, left_out, ended, opening}
use Rattle.trace_examples.specs.Openings.{connect_refused, refusal_shown, overdue, timed_out}
use Rattle.trace_examples.specs.Fronts.{EachStands, answered_fronts, unanswered_fronts, ended_fronts, waiting_fronts, begun_fronts, refused_fronts, overdue_fronts}
use Rattle.trace_examples.proofs.Due.{stands}
use Rattle.trace_examples.proofs.Server.{at_h}

-- replies came
pub answered_fronts_stand : (word : ℕ) → EachStands (answered_fronts unbounded word)
unfolding digits settings_in is_lazy items values left_over is_spoiled max_depth is_bad_event url_on_literals utf8_lossy utf8_valid_len
answered_fronts_stand word =
    let both = stands (answered_both unbounded word) refl (at_h (Some None), (refl, (refl, tt))) in
    let alike = stands (answered_alike unbounded word) refl (at_h (Some None), (refl, (refl, tt))) in
    let one = stands (answered_both unbounded word ++ action.Outcome 0 (reply 120) ∷ []) refl (at_h (Some None), (refl, (refl, (refl, tt)))) in
    let told = stands (told_first unbounded word) refl (at_h (Some None), (refl, (refl, tt))) in
    let left = stands (left_alone unbounded word) refl (at_h (Some None), (refl, tt)) in
    (both, (alike, (one, (told, (left, tt)))))

-- a message isn't full, or is full and not answered
pub unanswered_fronts_stand : (word : ℕ) → EachStands (unanswered_fronts unbounded word)
unfolding digits settings_in is_lazy items values left_over is_spoiled max_depth is_bad_event kind_of url_on_literals utf8_lossy utf8_valid_len
unanswered_fronts_stand word =
    let one = stands (started_one unbounded word) refl (at_h (Some None), (refl, tt)) in
    let push = stands (pushed unbounded word) refl (at_h (Some None), (refl, tt)) in
    let half = stands (half_filled unbounded word) refl (at_h (Some None), (refl, tt)) in
    let error = stands (refused unbounded word) refl (at_h (Some None), (refl, tt)) in
    let value = stands (spoiled unbounded word) refl (at_h (Some None), (refl, tt)) in
    (one, (push, (half, (error, (value, tt)))))

-- the link ended, or must end
pub ended_fronts_stand : (word : ℕ) → EachStands (ended_fronts unbounded word)
unfolding digits settings_in is_lazy is_bad_event url_on_literals utf8_lossy utf8_valid_len
ended_fronts_stand word =
    let pipeline = stands (cut_off unbounded word two_together 2 22) refl (at_h (Some None), (refl, tt)) in
    let one = stands (cut_off unbounded word (command 71) 1 11) refl (at_h (Some None), (refl, tt)) in
    let another = stands (ended unbounded word) refl (at_h (Some None), (refl, (refl, tt))) in
    let alone = stands (cut_off_alone unbounded word) refl (at_h (Some None), (refl, tt)) in
    let shutdown = stands (shut_down unbounded word) refl (at_h (Some None), (refl, tt)) in
    let waiting = stands (shut_in_wait unbounded word) refl (at_h (Some None), tt) in
    (pipeline, (one, (another, (alone, (shutdown, (waiting, tt))))))

-- requests came before the connect
pub waiting_fronts_stand : (word : ℕ) → EachStands (waiting_fronts unbounded word)
unfolding digits settings_in is_lazy is_bad_event url_on_literals utf8_lossy utf8_valid_len
waiting_fronts_stand word =
    let one = stands (left_out unbounded word) refl (at_h (Some None), tt) in
    let up = stands (up_in_wait unbounded word (unawaited 71)) refl (at_h (Some None), tt) in
    let two = stands (both_in_wait unbounded word (unawaited 72)) refl (at_h (Some None), tt) in
    let first = stands (first_of_both unbounded word) refl (at_h (Some None), tt) in
    (one, (up, (two, (first, tt))))

-- a link is up, and a message is to start or to be offered
pub begun_fronts_stand : (word : ℕ) → EachStands (begun_fronts unbounded word)
unfolding digits settings_in is_lazy is_bad_event url_on_literals utf8_lossy utf8_valid_len
begun_fronts_stand word =
    let up = stands (came_up unbounded word) refl (at_h (Some None), tt) in
    let one = stands (arrived unbounded word (command 71)) refl (at_h (Some None), tt) in
    let untold = stands (left_untold unbounded word) refl (at_h (Some None), tt) in
    let unoffered = stands (started_unoffered unbounded word) refl (at_h (Some None), tt) in
    let part = stands (taken_in_part unbounded word) refl (at_h (Some None), (refl, tt)) in
    let held = stands (held_back unbounded word) refl (at_h (Some None), (refl, tt)) in
    (up, (one, (untold, (unoffered, (part, (held, tt))))))

-- a connect failed
pub refused_fronts_stand : (word : ℕ) → EachStands (refused_fronts unbounded word)
unfolding digits settings_in is_lazy is_bad_event url_on_literals utf8_lossy utf8_valid_len
refused_fronts_stand word =
    let first = stands (opening unbounded word) refl (at_h (Some None), tt) in
    let untold = stands (connect_refused unbounded word) refl (at_h (Some None), tt) in
    let told = stands (refusal_shown unbounded word) refl (at_h (Some None), (refl, tt)) in
    (first, (untold, (told, tt)))

-- the time of a connect is over
pub overdue_fronts_stand : (word : ℕ) → EachStands (overdue_fronts bounded word)
unfolding digits settings_in is_lazy is_bad_event url_on_literals utf8_lossy utf8_valid_len
overdue_fronts_stand word =
    let first = stands (overdue bounded word) refl (at_h None, ((refl, refl), tt)) in
    let told = stands (timed_out bounded word) refl (at_h None, ((refl, refl), (refl, tt))) in
    (first, (told, tt))
