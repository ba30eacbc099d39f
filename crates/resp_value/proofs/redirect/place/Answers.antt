use Rattle.resp_value.proofs.Places.{placed_or_not}
use Rattle.resp_value.proofs.redirect.place.Goals as goal

pub returns : goal.returns
returns c = placed_or_not c.args.detail.now c.slot_and_address.result c.slot_and_address.ensures
