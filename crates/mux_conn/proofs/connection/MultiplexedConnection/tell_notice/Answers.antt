use Rattle.std.proofs.Common.{arith, ◌<◌, ◌≤◌, rules, ◌∙◌}
use Rattle.mux_conn.specs.Connection.{Work}
use Rattle.mux_conn.proofs.Told.{told_answer, told_notice}
use Rattle.mux_conn.proofs.connection.MultiplexedConnection.tell_notice.Goals as goal

pub behind-preserved : goal.behind-preserved
behind-preserved c =
    let w : Work = record { conn = c.behind.self; acts = c.behind.out.items } in
    let v : Work = record { conn = c.settle_one.new.self; acts = c.settle_one.new.out.items } in
    let less : c.behind.answered < c.args.told.settled = omega (arith, c.behind-test.true) in
    record {
      work = λ later. told_answer w v c.behind.answered c.args.told later c.in-Some.message c.pop_front.new.self c.behind.settled less c.in-Some.ensures c.in-Ok.ensures.work ∙ c.behind.invariant.work later;
      count = c.in-Ok.ensures.count ∙ c.behind.invariant.count;
      failure = c.in-Ok.ensures.failure ∙ c.behind.invariant.failure;
    }

pub returns-clause-work : goal.returns-clause-work
returns-clause-work c later =
    let w : Work = record { conn = c.behind.self; acts = c.behind.out.items } in
    let few : c.args.told.settled ≤ c.behind.answered = omega (arith, c.behind-test.false) in
    told_notice w _ c.behind.answered c.args.told later c.behind.settled few (search rules) ∙ c.behind.invariant.work later
