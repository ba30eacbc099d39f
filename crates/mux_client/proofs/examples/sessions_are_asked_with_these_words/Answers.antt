use Rattle.std.proofs.Common.{refl}
use Rattle.std.specs.Fmt.{digits}
use Rattle.mux_client.proofs.examples.sessions_are_asked_with_these_words.Goals as goal

pub returns-clause-default : goal.returns-clause-default
unfolding digits
returns-clause-default c = refl

pub returns-clause-lazy : goal.returns-clause-lazy
unfolding digits
returns-clause-lazy c = refl

pub returns-clause-two : goal.returns-clause-two
unfolding digits
returns-clause-two c = refl

pub returns-clause-every : goal.returns-clause-every
unfolding digits
returns-clause-every c = refl
