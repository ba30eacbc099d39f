use Rattle.std.proofs.Common.{◌+◌, ◌-◌, ℕ, ◌++◌, length, take, drop, length-drop, sym, ap, ◌∙◌, arith}
use Rattle.resp_read.proofs.LookLaws.{taken_on, look_ended, look_unended, look_too_long, look_endless}
use Rattle.resp_read.proofs.scan.take_line.Goals as goal

pub returns-then-i-limits-clause-look : goal.returns-then-i-limits-clause-look
returns-then-i-limits-clause-look g c = look_too_long c.args.limits (drop c.args.from c.args.tape.now) c.in-Some.i c.if-i-limits.true c.in-Some.ensures.found.1

pub returns-in-Ok-clause-look : goal.returns-in-Ok-clause-look
returns-in-Ok-clause-look g c =
    let old = c.args.text.now.items in
    let n = ap length c.as_slice-clear.ensures.value in
    let h = c.in-Some.ensures.found in
    look_ended c.args.limits (drop c.args.from c.args.tape.now) c.in-Some.i c.copy.new.out.items c.if-i-limits.false h.1
    (taken_on c.args.tape.now c.args.from c.in-Some.i old c.copy.new.out.items (omega (arith, n, h.0)) c.requires.taken
    (c.in-Ok.ensures.ok ∙ (λ j. old ++ take (c.in-Some.i - n j) (drop (c.args.from + n j) c.args.tape.now))))

pub returns-then-len-limits-clause-look : goal.returns-then-len-limits-clause-look
returns-then-len-limits-clause-look g c = look_endless c.args.limits (drop c.args.from c.args.tape.now) (omega (arith, c.if-len-limits.true, c.len.ensures, length-drop c.args.from c.args.tape.now)) c.in-None.ensures.found

pub returns-in-Ok-copy-clause-look : goal.returns-in-Ok-copy-clause-look
returns-in-Ok-copy-clause-look g c =
    let old = c.args.text.now.items in
    let n = ap length c.as_slice-clear.ensures.value in
    let all = ap (λ (k : ℕ). k - c.args.from) c.len.ensures ∙ sym (length-drop c.args.from c.args.tape.now) in
    look_unended c.args.limits (drop c.args.from c.args.tape.now) _ c.copy-in-None.new.out.items all c.if-len-limits.false c.in-None.ensures.found
    (taken_on c.args.tape.now c.args.from _ old c.copy-in-None.new.out.items (omega (arith, n, c.len.ensures, c.requires.fits)) c.requires.taken
    (c.in-Ok-copy.ensures.ok ∙ (λ j. old ++ take (c.len.result - c.args.from - n j) (drop (c.args.from + n j) c.args.tape.now))))
