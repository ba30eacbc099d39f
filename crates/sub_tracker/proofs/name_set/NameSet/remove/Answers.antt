use Rattle.std.proofs.Common.{ap, ◌∙◌}
use Rattle.std.specs.BTreeMap.{is_at}
use Rattle.std.specs.Set.{remove_key}
use Rattle.sub_tracker.specs.Subscribed.{byte_order}
use Rattle.sub_tracker.specs.Texts.{texts}
use Rattle.sub_tracker.proofs.Names.{texts_removed}
use Rattle.sub_tracker.proofs.name_set.NameSet.remove.Goals as goal

pub returns : goal.returns
returns c = ap texts c.remove.ensures.keys ∙ texts_removed c.args.name.now _ ∙ ap (remove_key (is_at (byte_order c.args.name.now))) c.self.view_is
