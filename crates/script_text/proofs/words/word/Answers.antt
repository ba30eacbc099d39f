use Rattle.std.proofs.Common.{Some, bytes_eq, sym, ap, ◌∙◌}
use Rattle.script_text.proofs.Escapes.{plain_part}
use Rattle.script_text.proofs.words.word.Goals as goal

pub returns-in_default : goal.returns-in_default
returns-in_default c =
    let raw = c.args.raw.now in
    ap Some c.plain-in_default.ensures ∙ plain_part raw (sym c.is_empty.ensures ∙ c.if-is_empty.false) (ap (bytes_eq raw) (sym c.as_slice.ensures) ∙ sym c.eq.ensures ∙ c.if-eq.false) c.in_default.ensures.parts
