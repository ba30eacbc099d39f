use Rattle.std.proofs.Common.{◌≡◌, ◌++◌, length}
use Rattle.mux_client.specs.Shown.{shown_each, answers_among}
use Rattle.mux_client.proofs.showing.show_each.Given as goal

abbrev pub invariant-loop-act : goal.invariant-loop-act
invariant-loop-act l = record {
  acts : l.out ++ shown_each l.rest ≡ l.fn.out ++ shown_each l.fn.acts.items;
  answers : l.answers ++ answers_among l.rest ≡ l.fn.answers ++ answers_among l.fn.acts.items;
}

abbrev pub decreases-loop-act : goal.decreases-loop-act
decreases-loop-act l = length l.rest
