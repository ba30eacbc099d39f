use Rattle.std.proofs.Common.{refl}
use Rattle.cluster_examples.specs.Retries.{upper_by, uppers, wait_by, waits}
use Rattle.cluster_examples.proofs.Computed.{gives}
use Rattle.cluster_examples.proofs.retries.waits_are_these.Goals as goal

pub returns : goal.returns
returns c = record { uppers = gives upper_by uppers refl; waits = gives wait_by waits refl }
