use Rattle.std.proofs.Common.{◌+◌}
use Rattle.std.proofs.lemmas.List.{take_rest}
use Rattle.script_text.proofs.Found.{found, not_found}
use Rattle.script_text.proofs.words.cut.Goals as goal

pub returns-in_err-place-clause-parts : goal.returns-in_err-place-clause-parts
returns-in_err-place-clause-parts c = rw c.from_residual.ensures (not_found c.args.at c.args.text.now c.in_err-place.ensures)

pub returns-clause-parts : goal.returns-clause-parts
returns-clause-parts c =
    let place = c.in_ok-place.place in
    let first = c.in_ok-place.ensures in
    rw (take_rest c.args.text.now (place + 1)) (found c.args.at c.args.text.now place first.0.high first.0.before first.1)
