use Rattle.std.proofs.Common.{subst}
use Rattle.resp_write.specs.Arguments.{IsWritten}
use Rattle.resp_write.proofs.Written.{empty, written_at_end, written_next, written_part}
use Rattle.resp_write.proofs.argument_lists.Tuple5ToRedisArgs.write_redis_args.Goals as goal

pub returns-clause-ok : goal.returns-clause-ok
returns-clause-ok g c =
    let t = c.args.self.now in
    let two = c.in_ok-two.two in
    let four = c.in_ok-four.four in
    let first = c.in_ok-two.ensures in
    let second = c.in_ok-four.ensures in
    let five = c.in_ok-five.five in
    let one : IsWritten g.A.ToRedisArgs.args_of t.0 empty first.0 =
    subst (λ m. IsWritten g.A.ToRedisArgs.args_of t.0 m first.0) c.new-more.ensures first.1
    in
    written_at_end _ t c.args.cmd.now five c.append.new.self c.append.result c.append.ensures.ok (
    written_next _ _ t empty four five (written_part (λ x. x.4) g.E.ToRedisArgs.args_of t four five c.in_ok-five.ensures) (
    written_next _ _ t empty second.0 four (written_part (λ x. x.3) g.D.ToRedisArgs.args_of t second.0 four second.2) (
    written_next _ _ t empty two second.0 (written_part (λ x. x.2) g.C.ToRedisArgs.args_of t two second.0 second.1) (
    written_next _ _ t empty first.0 two (written_part (λ x. x.1) g.B.ToRedisArgs.args_of t first.0 two first.2) (
    written_part (λ x. x.0) g.A.ToRedisArgs.args_of t empty first.0 one)))))
