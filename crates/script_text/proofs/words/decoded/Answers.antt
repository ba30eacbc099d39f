use Rattle.std.proofs.Common.{◌≡◌, ◌++◌, ◌∷◌, [], Some, sym, ap, ◌∙◌, subst}
use Rattle.script_text.proofs.Escapes.{ReadOn, read_more, read_badly, read_none, read_some, read_whole}
use Rattle.script_text.proofs.words.decoded.Goals as goal

pub returns-in_default-byte_in_front : goal.returns-in_default-byte_in_front
returns-in_default-byte_in_front c =
    read_none c.args.raw.now (read_badly c.args.raw.now c.loop-run.bytes.items c.loop-run.left.now c.in-Some.run'.now c.in-Some.behind.now c.loop-run.invariant c.in-Some.ensures.parts c.in_default-byte_in_front.ensures.read)

pub loop-run-preserved : goal.loop-run-preserved
loop-run-preserved c =
    let raw = c.args.raw.now in
    let found = c.loop-run.bytes.items in
    let run = c.in-Some.run'.now in
    let byte = c.in-Some-byte_in_front.byte in
    let rest = c.in-Some-byte_in_front.rest.now in
    let items : c.push.new.self.items ≡ (found ++ run) ++ byte ∷ [] = c.in_ok-push.ensures.items ∙ ap (λ x. x ++ byte ∷ []) c.in_ok-extend_from_slice.ensures.items in
    let read = c.in-Some-byte_in_front.ensures.read in
    subst (λ x. ReadOn raw x rest) (sym items) (read_more raw found c.loop-run.left.now run c.in-Some.behind.now rest byte c.loop-run.invariant c.in-Some.ensures.parts read.0 read.1)

pub returns : goal.returns
returns c =
    let raw = c.args.raw.now in
    let found = c.loop-run.bytes.items in
    let left = c.loop-run.left.now in
    let bytes : c.from_vec.result ≡ found ++ left = c.from_vec.ensures ∙ c.in_ok-extend_from_slice-2.ensures.items in
    ap Some bytes ∙ read_some raw (found ++ left) (read_whole raw found left c.loop-run.invariant c.in_default.ensures.parts)
