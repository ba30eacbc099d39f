use Rattle.std.proofs.Common.{◌≡◌, ◌++◌, length, take}
use Rattle.push_links.specs.Links.{others_of_told, with_told}
use Rattle.push_links.proofs.sorting.sort_told_each.Given as goal

abbrev pub invariant-loop-act : goal.invariant-loop-act
invariant-loop-act l = record {
  gained : with_told l.held l.rest ≡ with_told l.fn.held l.fn.acts.items;
  others : l.out.items ++ others_of_told l.rest ≡ l.fn.out.items ++ others_of_told l.fn.acts.items;
  front : take (length l.fn.out.items) l.out.items ≡ l.fn.out.items;
  held : take (length l.fn.held.items) l.held.items ≡ l.fn.held.items;
}

abbrev pub decreases-loop-act : goal.decreases-loop-act
decreases-loop-act l = length l.rest
