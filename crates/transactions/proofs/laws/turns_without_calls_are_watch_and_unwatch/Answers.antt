use Rattle.std.proofs.Common.{le_of_eq}
use Rattle.transactions.proofs.Listed.{turns_listed}
use Rattle.transactions.proofs.laws.turns_without_calls_are_watch_and_unwatch.Goals as goal

pub returns : goal.returns
returns g c = λ watch n x f y h silent all turns. turns_listed g.C.Calls.told g.F.FnMut silent watch n x f y h turns all.1 (le_of_eq all.0)
