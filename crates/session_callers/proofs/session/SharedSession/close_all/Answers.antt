use Rattle.std.proofs.Common.{ap, ◌∙◌}
use mathlib.Core.Option.{some}
use Rattle.session_callers.proofs.Gathering.{all_claimed, closed, not_away}
use Rattle.session_callers.proofs.session.SharedSession.close_all.Goals as goal

pub returns-clause-begins : goal.returns-clause-begins
returns-clause-begins c =
    let g = c.gather-seat.ensures in
    let need = c.requires.all in
    let got = c.take-home.ensures.value ∙ ap some c.in-Some.is in
    (closed c.args.made c.args.callers.items c.gather-seat.result.me.0 g.2 need.0 need.1 _ _ _ c.in-Some.field-0 c.close_with-closed.ensures.values.2 got).0

pub returns-clause-mine : goal.returns-clause-mine
returns-clause-mine c =
    let g = c.gather-seat.ensures in
    let need = c.requires.all in
    let got = c.take-home.ensures.value ∙ ap some c.in-Some.is in
    (closed c.args.made c.args.callers.items c.gather-seat.result.me.0 g.2 need.0 need.1 _ _ _ c.in-Some.field-0 c.close_with-closed.ensures.values.2 got).1

pub returns-clause-shared : goal.returns-clause-shared
returns-clause-shared c =
    let g = c.gather-seat.ensures in
    let need = c.requires.all in
    let got = c.take-home.ensures.value ∙ ap some c.in-Some.is in
    (closed c.args.made c.args.callers.items c.gather-seat.result.me.0 g.2 need.0 need.1 _ _ _ c.in-Some.field-0 c.close_with-closed.ensures.values.2 got).2

pub returns-clause-spent : goal.returns-clause-spent
returns-clause-spent c =
    let g = c.gather-seat.ensures in
    let need = c.requires.all in
    let got = c.take-home.ensures.value ∙ ap some c.in-Some.is in
    (closed c.args.made c.args.callers.items c.gather-seat.result.me.0 g.2 need.0 need.1 _ _ _ c.in-Some.field-0 c.close_with-closed.ensures.values.2 got).3

pub unreachable-requires : goal.unreachable-requires
unreachable-requires c =
    let g = c.gather-seat.ensures in
    let need = c.requires.all in
    not_away c.args.made c.args.callers.items c.gather-seat.result.me.0 g.2 need.0 need.1 _ _ _ c.close_with-closed.ensures.values.2 (c.take-home.ensures.value ∙ ap some c.in-None.is)

pub returns-clause-claims : goal.returns-clause-claims
returns-clause-claims c =
    let g = c.gather-seat.ensures in
    let need = c.requires.all in
    all_claimed c.args.made c.args.callers.items c.gather-seat.result.me.0 g.2 need.0 need.1 _ _ _ c.word-generation.result c.close_with-closed.ensures.values.2 c.word-generation.ensures
