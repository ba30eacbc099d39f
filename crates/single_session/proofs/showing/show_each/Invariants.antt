use Rattle.std.proofs.Common.{◌≡◌, ◌+◌, ◌++◌, length, take}
use Rattle.single_session.specs.Turn.{shown_each, timers_of, sources_of}
use Rattle.single_session.specs.Done.{done_each}
use Rattle.single_session.proofs.showing.show_each.Given as goal

abbrev pub invariant-loop-act : goal.invariant-loop-act
invariant-loop-act l = record {
  actions : l.out.items ++ shown_each l.link l.timer l.source l.rest ≡ l.fn.out.items ++ shown_each l.link l.fn.timers l.fn.sources l.fn.acts.items;
  timer : l.timer + length (timers_of l.link l.rest) ≡ l.fn.timers + length (timers_of l.link l.fn.acts.items);
  source : l.source + length (sources_of l.link l.rest) ≡ l.fn.sources + length (sources_of l.link l.fn.acts.items);
  done : l.done.items ++ done_each l.rest ≡ l.fn.done.items ++ done_each l.fn.acts.items;
  front : take (length l.fn.out.items) l.out.items ≡ l.fn.out.items;
}

abbrev pub decreases-loop-act : goal.decreases-loop-act
decreases-loop-act l = length l.rest
