use Rattle.std.proofs.Common.{refl, arith, ap, ◌+◌, ◌^◌, ◌<◌}
use Rattle.std.specs.Prelude.{Err}
use Rattle.session_callers.specs.declared.board.Home.{Home}
use Rattle.session_callers.proofs.Stepping.{count_fits, stepped_ok, stepped_err}
use Rattle.session_callers.proofs.homes.step_home.Goals as goal

pub overflow_add-home : goal.overflow_add-home
overflow_add-home c = let few : c.args.home.now.submissions + c.count_of-count.result < 2 ^ 32 = count_fits c.args.home.now c.step.new.self.events c.args.event c.count_of-count.result c.events_taken-taken.result c.requires c.count_of-count.ensures (ap (λ s. s.events) c.in-Ok.ensures.ok) c.events_taken-taken.ensures (omega arith) in omega arith

pub returns-in-Ok-clause-stepped : goal.returns-in-Ok-clause-stepped
returns-in-Ok-clause-stepped c =
    stepped_ok c.args.home.now (record { session = c.step.new.self; made = c.args.home.now.made; submissions = c.args.home.now.submissions + c.count_of-count.result }) c.args.event c.requires c.in-Ok.ensures.ok c.in-Ok.ensures.sound refl (ap (λ n. c.args.home.now.submissions + n) c.count_of-count.ensures)

pub returns-in-Err-clause-stepped : goal.returns-in-Err-clause-stepped
returns-in-Err-clause-stepped c =
    let e = c.in-Err.ensures in
    let k : Home = record { session = c.step.new.self; made = c.args.home.now.made; submissions = c.args.home.now.submissions } in
    stepped_err (Err c.in-Err.error) c.args.home.now k c.args.event c.requires refl refl e.bad e.bad_same e.spent e.count e.again e.failed e.fails_spent e.fails e.kept c.in-Err.error refl
