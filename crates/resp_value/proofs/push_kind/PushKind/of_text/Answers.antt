use Rattle.std.proofs.Common.{◌≡◌, Some, None, ap, ◌∙◌}
use Rattle.resp_value.specs.Kinds.{named_kind, kind_or, kind_of}
use Rattle.resp_value.proofs.push_kind.PushKind.of_text.Goals as goal

pub returns-in-Some : goal.returns-in-Some
unfolding kind_of
returns-in-Some c =
    let text = c.args.text in
    let is : Some c.in-Some.kind ≡ named_kind text = c.in-Some.ensures ∙ ap named_kind c.as_slice.ensures in
    ap (λ o. kind_or o text) is

pub returns-in-None : goal.returns-in-None
unfolding kind_of
returns-in-None c =
    let text = c.args.text in
    let is : None ≡ named_kind text = c.in-None.ensures ∙ ap named_kind c.as_slice.ensures in
    ap (λ o. kind_or o text) is
