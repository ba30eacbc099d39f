use Rattle.resp_read.specs.Limits.{default_limits}
use Rattle.resp_read.proofs.ReadLaws.{reads-append}
use Rattle.resp_read.proofs.WithinLaws as within
use Rattle.resp_laws.proofs.Texts.{still_malformed}
use Rattle.resp_laws.proofs.more_bytes_change_no_value.Goals as goal

pub returns : goal.returns
returns c = record {
  value = reads-append;
  malformed = still_malformed default_limits;
  value_within = λ limits bytes more v rest allowed h. within.reads-append limits allowed bytes more v rest h;
  malformed_within = λ limits bytes more h. still_malformed limits bytes more h;
}
