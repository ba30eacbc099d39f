use Rattle.std.proofs.Common.{◌≡◌, length, fold}
use Rattle.std.specs.BTreeMap.{insert_entry}
use Rattle.resp_convert.specs.Types.{entries_of}
use Rattle.resp_convert.proofs.aggregates.map_of.Given as goal

-- the map with those that are left is the whole
abbrev pub invariant-loop-key : goal.invariant-loop-key
invariant-loop-key g l = fold (λ es x. insert_entry g.K.Ord.cmp es x.0 x.1) l.map.entries l.rest ≡ entries_of g.K.Ord.cmp l.fn.pairs.items

abbrev pub decreases-loop-key : goal.decreases-loop-key
decreases-loop-key g l = length l.rest
