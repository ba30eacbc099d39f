use Rattle.std.proofs.Common.{Ok, Err}
use Rattle.mux_routing.proofs.Ordered.{searched}
use Rattle.mux_routing.proofs.addresses.place_of.Goals as goal

pub returns-in-Ok-clause-is : goal.returns-in-Ok-clause-is
returns-in-Ok-clause-is c = searched c.args.address.now c.args.nodes.now (Ok c.in-Ok.place) c.requires c.in-Ok.ensures.bound c.in-Ok.ensures.position

pub returns-in-Err-clause-is : goal.returns-in-Err-clause-is
returns-in-Err-clause-is c = searched c.args.address.now c.args.nodes.now (Err c.in-Err.place) c.requires c.in-Err.ensures.bound c.in-Err.ensures.position
