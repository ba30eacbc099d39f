use Rattle.route_choice.proofs.Finding.{reads_before}
use Rattle.route_choice.proofs.entries.is_before.Goals as goal

pub returns : goal.returns
returns c = reads_before c.args.entries.now c.args.address.now c.args.place c.index-entries-place.result c.address_less.result c.requires.order c.requires.place c.address_less.ensures
