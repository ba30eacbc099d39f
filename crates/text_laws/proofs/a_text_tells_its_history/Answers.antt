use Rattle.text_laws.proofs.Traces.{history_back, good_history_back}
use Rattle.text_laws.proofs.a_text_tells_its_history.Goals as goal

pub returns : goal.returns
returns c = record { read_back = good_history_back; also_of_bad = history_back }
