use Rattle.std.proofs.Common.{◌≡◌, ℕ, List, subst}
use Rattle.std.specs.Prelude.{Ok, Err}
use Rattle.script_text.specs.Script.{script_of}
use Rattle.text_laws.specs.Fits.{AreBytes}
use Rattle.program_ends.specs.Sides.{side}
use Rattle.session_program.proofs.running.replay_source.Goals as goal

pub returns-clause-does : goal.returns-clause-does
returns-clause-does g c =
    let script = c.in-Ok-read_script.script in
    let reads : script_of c.in-Ok.intake ≡ Ok script = subst (λ (text : List ℕ). script_of text ≡ Ok script) c.text-text.ensures c.in-Ok-read_script.ensures.script in
    let small : AreBytes c.in-Ok.intake = subst (λ (text : List ℕ). AreBytes text) c.text-text.ensures c.a_slice_has_bytes.ensures in
    c.replay_noted.ensures.does (side (g.S.Source.left c.args.source.now) (g.S.Source.fault_count c.args.source.now)) (side (g.S.Source.left c.read_text.new.source) (g.S.Source.fault_count c.read_text.new.source))
    c.in-Ok.intake c.in-Ok.ensures.text reads small

pub returns-clause-own : goal.returns-clause-own
returns-clause-own g c =
    let script = c.in-Ok-read_script.script in
    let reads : script_of c.in-Ok.intake ≡ Ok script = subst (λ (text : List ℕ). script_of text ≡ Ok script) c.text-text.ensures c.in-Ok-read_script.ensures.script in
    c.replay_noted.ensures.own (side (g.S.Source.left c.args.source.now) (g.S.Source.fault_count c.args.source.now)) (g.S.Source.left c.read_text.new.source)
    c.in-Ok.intake c.in-Ok.ensures.text reads

pub returns-in-Err-Line-clause-does : goal.returns-in-Err-Line-clause-does
returns-in-Err-Line-clause-does g c =
    let fault : script_of c.text-text.result.now ≡ Err c.in-Err-Line.line = rw c.in-Err-Line.field-0-is at c.in-Err-Line.ensures.fault in
    let reads : script_of c.in-Ok.intake ≡ Err c.in-Err-Line.line = subst (λ (text : List ℕ). script_of text ≡ Err c.in-Err-Line.line) c.text-text.ensures fault in
    c.refuse_noted-ending.ensures.does (side (g.S.Source.left c.args.source.now) (g.S.Source.fault_count c.args.source.now)) (side (g.S.Source.left c.read_text.new.source) (g.S.Source.fault_count c.read_text.new.source))
    c.in-Ok.intake c.in-Ok.ensures.text reads

pub returns-in-Err-Line-clause-own : goal.returns-in-Err-Line-clause-own
returns-in-Err-Line-clause-own g c =
    let fault : script_of c.text-text.result.now ≡ Err c.in-Err-Line.line = rw c.in-Err-Line.field-0-is at c.in-Err-Line.ensures.fault in
    let reads : script_of c.in-Ok.intake ≡ Err c.in-Err-Line.line = subst (λ (text : List ℕ). script_of text ≡ Err c.in-Err-Line.line) c.text-text.ensures fault in
    c.refuse_noted-ending.ensures.own (side (g.S.Source.left c.args.source.now) (g.S.Source.fault_count c.args.source.now)) (g.S.Source.left c.read_text.new.source)
    c.in-Ok.intake c.in-Ok.ensures.text reads
