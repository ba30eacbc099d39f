use Rattle.cluster_retries.proofs.Judging.{fan_out_answers}
use Rattle.cluster_retries.proofs.laws.a_fan_out_answers_its_errors.Goals as goal

pub returns : goal.returns
returns c = fan_out_answers
