use Rattle.std.proofs.Common.{ap, ◌∙◌}
use Rattle.resp_read.specs.Values.{values, left_over}
use Rattle.resp_laws.specs.Commands.{sent}
use Rattle.resp_laws.proofs.Pipelines.{exactly_read, nothing_left as none_left}
use Rattle.resp_laws.proofs.Framed.{sent_packed, sent_fits}
use Rattle.resp_laws.proofs.a_packed_pipeline_is_read_back.Goals as goal

pub returns : goal.returns
returns c = record {
  exactly = λ p h. ap values (sent_packed p.atomic p.commands) ∙ exactly_read (sent p.atomic p.commands) (sent_fits p.atomic p.commands h);
  nothing_left = λ p h. ap left_over (sent_packed p.atomic p.commands) ∙ none_left (sent p.atomic p.commands) (sent_fits p.atomic p.commands h);
}
