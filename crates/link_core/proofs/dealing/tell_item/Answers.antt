use Rattle.std.proofs.Common.{◌++◌, List, ap, sym, ◌∙◌}
use Rattle.link_core.specs.declared.message.NoticeAt.{NoticeAt}
use Rattle.link_core.proofs.MessageLemmas.{item_noticed}
use Rattle.link_core.proofs.dealing.tell_item.Goals as goal

pub returns-then-is_item-clause-ok : goal.returns-then-is_item-clause-ok
returns-then-is_item-clause-ok c =
    c.in_ok-note.ensures.ok ∙ ap (λ (ns : List NoticeAt). c.args.notices.now.items ++ ns) (item_noticed c.args.value c.args.settled (sym c.is_item.ensures ∙ c.if-is_item.true))
