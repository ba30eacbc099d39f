use Rattle.protocol_examples.proofs.Led.{each_leads, each_stray}
use Rattle.protocol_examples.proofs.errors.redirects_lead_there.Goals as goal

pub returns : goal.returns
returns c = record { leads = each_leads; strays = each_stray }
