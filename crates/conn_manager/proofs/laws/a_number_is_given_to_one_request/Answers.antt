use Rattle.conn_manager.specs.LikeLaws.{numbers_rise as next_rises}
use Rattle.conn_manager.proofs.Numbers.{numbers_rise}
use Rattle.conn_manager.proofs.laws.a_number_is_given_to_one_request.Goals as goal

pub returns : goal.returns
returns c = record { next = next_rises; rise = numbers_rise }
