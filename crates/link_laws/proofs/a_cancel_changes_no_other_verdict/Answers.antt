use Rattle.link_laws.proofs.AlikeRuns.{cancel_apart}
use Rattle.link_laws.proofs.a_cancel_changes_no_other_verdict.Goals as goal

pub returns : goal.returns
returns c = record {
  lines = λ name h size boundary id ops more left. (cancel_apart name h size boundary id ops more left).0;
  settled = λ name h size boundary id ops more left. (cancel_apart name h size boundary id ops more left).1;
}
