use Rattle.link_core.proofs.FrontLemmas.{front_self, front_on, front_after}
use Rattle.link_core.proofs.row.Row.hit.Goals as goal

pub returns-in_ok-fail-in-Some-clause-err : goal.returns-in_ok-fail-in-Some-clause-err
returns-in_ok-fail-in-Some-clause-err c =
    let before = c.args.out.now.items in
    let kept = front_on before before _ c.fail.new.out.items (front_self before) c.in_ok-fail-in-Some.ensures.ok in
    front_after c.close.result before c.fail.new.out.items c.close.new.out.items kept c.close.ensures.err
