use Rattle.std.proofs.Common.{refl}
use Rattle.redis_error.specs.Names.{config_name, fault_name}
use Rattle.protocol_examples.specs.Errors.{names_of_faults, names_of_settings}
use Rattle.protocol_examples.proofs.Computed.{gives}
use Rattle.protocol_examples.proofs.errors.faults_have_these_names.Goals as goal

pub returns : goal.returns
returns c = record { faults = gives fault_name names_of_faults refl; settings = gives config_name names_of_settings refl }
