use Rattle.std.proofs.Common.{rules}
use Rattle.std.proofs.lemmas.List.{take-map, drop-map}
use Rattle.resp_value.proofs.value.Values.split_off.Goals as goal

pub returns-clause-front : goal.returns-clause-front
returns-clause-front c = search (rules, take-map)

pub returns-clause-back : goal.returns-clause-back
returns-clause-back c = search (rules, drop-map)
