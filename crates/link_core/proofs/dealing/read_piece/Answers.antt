use Rattle.std.proofs.Common.{◌++◌, ◌∙◌}
use Rattle.link_core.proofs.CameLemmas.{all_came, all_spoiled}
use Rattle.link_core.proofs.dealing.read_piece.Goals as goal

pub returns-in-Ok : goal.returns-in-Ok
returns-in-Ok g c =
    let reader = c.args.reader.now in
    let text = reader.rest ++ c.args.piece.now in
    let after = c.pump.new.out.items in
    let h = c.in-Ok.ensures.pumps c.requires.sound in
    let all = all_came reader.limits text c.args.came.now.items c.in-Ok.field-0 c.pump.new.self after c.requires.limits c.requires.none h in
    record {
      came = all.0;
      rest = all.1;
      spoiled = all.2;
      sound = λ _. h.2;
      limits = h.3 ∙ c.requires.limits;
    }

pub returns-in-Err-Parse : goal.returns-in-Err-Parse
returns-in-Err-Parse g c =
    let reader = c.args.reader.now in
    let text = reader.rest ++ c.args.piece.now in
    let after = c.pump.new.out.items in
    let ensured = rw c.in-Err-Parse.field-0-is at c.in-Err-Parse.ensures.pumps in
    let h = ensured c.requires.sound in
    let all = all_spoiled reader.limits text c.args.came.now.items c.pump.new.self after c.requires.limits c.requires.none h in
    record {
      came = all.0;
      rest = all.1;
      spoiled = all.2;
      sound = λ e. cc;
      limits = h.3 ∙ c.requires.limits;
    }
