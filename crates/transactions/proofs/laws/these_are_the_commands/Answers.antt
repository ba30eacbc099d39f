use Rattle.std.proofs.Common.{refl}
use Rattle.std.specs.Fmt.{digits}
use Rattle.transactions.proofs.laws.these_are_the_commands.Goals as goal

pub returns-clause-one_key : goal.returns-clause-one_key
unfolding digits
returns-clause-one_key c = refl

pub returns-clause-two_keys : goal.returns-clause-two_keys
unfolding digits
returns-clause-two_keys c = refl

pub returns-clause-unwatch : goal.returns-clause-unwatch
unfolding digits
returns-clause-unwatch c = refl
