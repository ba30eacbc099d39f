use Rattle.transactions.proofs.Listed.{unwatched_last}
use Rattle.transactions.proofs.laws.a_value_comes_after_unwatch.Goals as goal

pub returns : goal.returns
returns g c = λ watch turns x f v y ends. unwatched_last g.C.Calls.told g.F.FnMut watch turns x f v y ends
