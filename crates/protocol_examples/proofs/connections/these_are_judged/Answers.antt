use Rattle.std.proofs.Common.{refl}
use Rattle.protocol_examples.proofs.Setups.{repeated, once, refused}
use Rattle.protocol_examples.proofs.connections.these_are_judged.Goals as goal

pub returns : goal.returns
returns c = record { repeated = repeated; once = once; refused = refused; bare = λ replies. refl; library = refl }
