use Rattle.transactions.specs.Turns.{Turns}
use Rattle.transactions.proofs.watching.all_turns.Given as goal

-- as many turns so far, each of which answered None
abbrev pub invariant-loop-turn : goal.invariant-loop-turn
invariant-loop-turn g l = record {
  callable : goal.F-IsAlwaysCallable g l.func;
  turns : Turns g.C.Calls.told g.F.FnMut l.watch l._turn l.fn.conn l.fn.func l.conn l.func;
}
