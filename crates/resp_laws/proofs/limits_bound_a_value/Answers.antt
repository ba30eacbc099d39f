use Rattle.resp_read.proofs.SizeLaws.{read_is_bounded, short_is_bounded}
use Rattle.resp_read.proofs.WithinLaws.{found_where_reads, short_from_prefix}
use Rattle.resp_laws.proofs.limits_bound_a_value.Goals as goal

pub returns : goal.returns
returns c = record {
  value = λ limits bytes v rest allowed h. read_is_bounded limits allowed bytes v rest (found_where_reads limits allowed bytes v rest h);
  underway = λ limits bytes allowed h. short_is_bounded limits allowed bytes (short_from_prefix limits allowed bytes h);
}
