use Rattle.resp_read.specs.Limits.{default_limits}
use Rattle.resp_read.proofs.ReadLaws.{default_allowed}
use Rattle.resp_laws.proofs.Texts.{one_at_most, front_is_taken, value_or_none}
use Rattle.resp_laws.proofs.a_text_begins_with_one_value.Goals as goal

pub returns : goal.returns
returns c = record {
  one = one_at_most default_limits;
  end = front_is_taken default_limits default_allowed;
  or_none = value_or_none default_limits default_allowed;
  one_within = one_at_most;
  end_within = λ limits bytes v rest allowed h. front_is_taken limits allowed bytes v rest h;
  or_none_within = λ limits bytes allowed. value_or_none limits allowed bytes;
}
