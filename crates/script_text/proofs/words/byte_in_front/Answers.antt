use Rattle.std.proofs.Common.{◌≡◌, ◌+◌, ◌*◌, ◌<◌, get_or, arith, rules}
use Rattle.std.specs.Char.{digit_value}
use Rattle.std.proofs.lemmas.List.{take_rest}
use Rattle.script_text.proofs.Escapes.{escape_at}
use Rattle.script_text.proofs.words.byte_in_front.Goals as goal

pub returns-clause-read : goal.returns-clause-read
returns-clause-read c =
    let text = c.args.text.now in
    let high : digit_value (get_or text 0 0) < 16 = search rules in
    let low : digit_value (get_or text 1 0) < 16 = search rules in
    let value : c.in_ok-high.high * 16 + c.in_ok-low.low ≡ 16 * digit_value (get_or text 0 0) + digit_value (get_or text 1 0) = grind arith in
    rw (take_rest text 2, value) (escape_at text (omega arith) high low)
