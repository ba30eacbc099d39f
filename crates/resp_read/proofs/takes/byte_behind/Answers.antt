use Rattle.std.proofs.Common.{◌≡◌, ◌+◌, ◌-◌, get_or, sym, ap, ◌∙◌, arith}
use Rattle.std.proofs.lemmas.List.{get_or-drop}
use Rattle.resp_read.proofs.takes.byte_behind.Goals as goal

pub returns-clause-byte : goal.returns-clause-byte
returns-clause-byte g c =
    let place : c.len-end.result - (c.len-end.result - c.args.next - c.args.n) ≡ c.args.next + c.args.n = omega (arith, c.len-end.ensures, c.requires) in
    c.at.ensures.byte ∙ ap (λ i. get_or c.args.tape.now i 0) place ∙ sym (get_or-drop c.args.next c.args.tape.now c.args.n 0)
