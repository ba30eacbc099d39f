use Rattle.std.proofs.Common.{◌≡◌, ◌≤◌, ◌∷◌, ◌==◌, false, length, bytes_eq, codes, sym, ap, ◌∙◌, arith, rules}
use Rattle.std.proofs.lemmas.Bool.Decides.{nat_tests}
use Rattle.script_text.specs.EventLine.{by_first, events}
use Rattle.script_text.proofs.Forms.{event_refused}
use Rattle.script_text.proofs.event_line.happening.Goals as goal

pub returns-then-not-is_empty : goal.returns-then-not-is_empty
returns-then-not-is_empty c =
    let name = c.in-Some.name.now in
    let rest = c.in-Some.words.now in
    let more = c.args.more.now.items in
    let words : c.args.words.now ≡ name ∷ rest = search rules in
    let other : bytes_eq name (codes "submit") ≡ false =
    ap (λ t. bytes_eq t (codes "submit")) (sym c.as_slice-name.ensures) ∙ ap (bytes_eq c.as_slice-name.result.now) (sym c.as_slice.ensures) ∙ sym c.eq.ensures ∙ c.if-eq.false in
    let empty : (length more == 0) ≡ false = search rules in
    let some : 1 ≤ length more = grind (arith, nat_tests) in
    sym (ap (λ ws. by_first (events c.args.kind) ws more) words ∙ event_refused c.args.kind name rest more other some)
