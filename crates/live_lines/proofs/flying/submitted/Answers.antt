use Rattle.std.proofs.Common.{arith, sym, max, ◌≡◌, ◌++◌, List, ap, ◌∙◌, length}
use Rattle.driver_model.specs.declared.action.Action.{Action}
use Rattle.single_session.specs.Replay.{opening_actions}
use Rattle.live_lines.specs.Flights.{callers_of}
use Rattle.live_lines.proofs.Made.{made_bare, made_count, made_most}
use Rattle.live_lines.proofs.Planned.{none_refused}
use Rattle.live_lines.proofs.RunningOut.{none_submitted}
use Rattle.live_lines.proofs.Submitted.{allowed_to, are_submitted, enough_still, enough_tried, tables_still, tables_tried, undialled_still, asked_well}
use Rattle.live_lines.proofs.flying.submitted.Goals as goal

pub submit_lines-requires-clause-allowed : goal.submit_lines-requires-clause-allowed
submit_lines-requires-clause-allowed g c κs within =
    let bare = made_bare _ _ _ _ _ c.in-Ok.ensures.callers in
    allowed_to c.args.plan.config c.args.word c.args.lines.items c.in-Ok.made.1.items c.requires.allowed bare

pub stopped-requires-clause-of : goal.stopped-requires-clause-of
stopped-requires-clause-of g c =
    let bare = made_bare _ _ _ _ _ c.in-Ok.ensures.callers in
    tables_tried c.args.plan.config c.args.word c.in-Ok.made.1.items c.submit_lines.new.callers.items c.args.lines.items c.in-Err.error bare c.in-Err.ensures.err _ c.in-Ok.ensures.of

pub stopped-requires-clause-enough : goal.stopped-requires-clause-enough
stopped-requires-clause-enough g c =
    let all : length c.in-Ok.made.1.items ≡ max c.args.plan.callers 1 = made_count _ _ _ _ _ c.in-Ok.ensures.callers in
    enough_tried c.in-Ok.made.1.items c.submit_lines.new.callers.items c.args.lines.items c.in-Err.error c.in-Err.ensures.err (max c.args.plan.callers 1) (omega (arith, all)) (omega (arith, all))
    (made_most _ _ _ _ _ c.in-Ok.ensures.callers)

pub returns-in-Err-clause-err : goal.returns-in-Err-clause-err
returns-in-Err-clause-err g c =
    let bare = made_bare _ _ _ _ _ c.in-Ok.ensures.callers in
    let all : length c.in-Ok.made.1.items ≡ max c.args.plan.callers 1 = made_count _ _ _ _ _ c.in-Ok.ensures.callers in
    λ old new asked. none_submitted c.args.plan c.args.word c.in-Ok.made.1.items c.submit_lines.new.callers.items c.args.lines.items c.in-Err.error c.stopped.result
    c.in-Ok.ensures.sound c.requires.allowed (none_refused c.args.plan c.in-Ok.ensures.sound (sym c.wants_credentials-wanted.ensures ∙ c.if-wanted.false)) (omega (arith, all)) bare c.in-Err.ensures.err c.stopped.ensures.sound c.stopped.ensures.spent asked

pub keep-requires : goal.keep-requires
keep-requires g c =
    let bare = made_bare _ _ _ _ _ c.in-Ok.ensures.callers in
    tables_still c.args.plan.config c.args.word c.in-Ok.made.1.items c.submit_lines.new.callers.items c.args.lines.items c.in-Ok-submit_lines.ensures.ok.turns
    bare c.in-Ok-submit_lines.ensures.ok.run _ c.in-Ok.ensures.of

pub returns-clause-submitted : goal.returns-clause-submitted
returns-clause-submitted g c =
    let bare = made_bare _ _ _ _ _ c.in-Ok.ensures.callers in
    let all : length c.in-Ok.made.1.items ≡ callers_of c.args.plan = made_count _ _ _ _ _ c.in-Ok.ensures.callers ∙ omega arith in
    let shown = ◌∙◌ {A = List Action} c.in-Ok.ensures.actions (ap (λ (xs : List Action). xs ++ opening_actions c.args.plan.config c.args.word) c.requires.none) in
    are_submitted c.args.plan c.args.word c.in-Ok.made.1.items c.submit_lines.new.callers.items c.args.lines.items c.new-numbers.result.items c.submit_lines.new.numbers.items c.in-Ok-keep.session
    c.with_callers.new.out.items c.submit_lines.new.out.items c.requires.allowed bare all c.in-Ok-submit_lines.ensures.ok c.new-numbers.ensures.items shown c.in-Ok-keep.ensures.begins c.in-Ok-keep.ensures.mine c.in-Ok-keep.ensures.shared c.in-Ok-keep.ensures.spent

pub returns-clause-asked : goal.returns-clause-asked
returns-clause-asked g c =
    let bare = made_bare _ _ _ _ _ c.in-Ok.ensures.callers in
    let all : length c.in-Ok.made.1.items ≡ callers_of c.args.plan = made_count _ _ _ _ _ c.in-Ok.ensures.callers ∙ omega arith in
    let shown = ◌∙◌ {A = List Action} c.in-Ok.ensures.actions (ap (λ (xs : List Action). xs ++ opening_actions c.args.plan.config c.args.word) c.requires.none) in
    (asked_well c.args.plan c.args.word c.in-Ok.made.1.items c.submit_lines.new.callers.items c.args.lines.items c.new-numbers.result.items c.submit_lines.new.numbers.items c.in-Ok-keep.session
    c.with_callers.new.out.items c.submit_lines.new.out.items c.requires.allowed bare all c.in-Ok-submit_lines.ensures.ok shown c.in-Ok-keep.ensures.begins c.in-Ok-keep.ensures.mine).asked

pub returns-clause-undialled : goal.returns-clause-undialled
returns-clause-undialled g c =
    let bare = made_bare _ _ _ _ _ c.in-Ok.ensures.callers in
    c.in-Ok-keep.ensures.undialled
    (undialled_still c.args.plan.config c.args.word c.in-Ok.made.1.items c.submit_lines.new.callers.items c.args.lines.items c.in-Ok-submit_lines.ensures.ok.turns
    bare c.in-Ok-submit_lines.ensures.ok.run)

pub unreachable-requires : goal.unreachable-requires
unreachable-requires g c =
    let bare = made_bare _ _ _ _ _ c.in-Ok.ensures.callers in
    let all : length c.in-Ok.made.1.items ≡ max c.args.plan.callers 1 = made_count _ _ _ _ _ c.in-Ok.ensures.callers in
    c.in-Err-keep.ensures.enough
    (enough_still c.args.plan.config c.args.word c.in-Ok.made.1.items c.submit_lines.new.callers.items c.args.lines.items c.in-Ok-submit_lines.ensures.ok.turns
    bare c.in-Ok-submit_lines.ensures.ok.run (max c.args.plan.callers 1) (omega (arith, all)) (omega (arith, all)) (made_most _ _ _ _ _ c.in-Ok.ensures.callers))
