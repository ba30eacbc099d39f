use Rattle.text_laws.proofs.Records.{records_told}
use Rattle.text_laws.proofs.a_record_tells_its_history.Goals as goal

pub returns : goal.returns
returns c = records_told
