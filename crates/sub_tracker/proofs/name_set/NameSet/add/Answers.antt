use Rattle.std.proofs.Common.{rules}
use Rattle.sub_tracker.proofs.Names.{texts_inserted}
use Rattle.sub_tracker.proofs.name_set.NameSet.add.Goals as goal

pub returns : goal.returns
returns c = search (rules, texts_inserted)
