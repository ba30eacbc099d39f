use Rattle.std.proofs.Common.{◌≡◌, ◌+◌, ◌<◌, List, arith, subst, sym}
use Rattle.link_core.specs.declared.row.Taker.{Taker}
use Rattle.link_core.specs.Row.{lack_of}
use Rattle.link_core.specs.Ring.{IsRing}
use Rattle.link_core.proofs.RingLemmas.{one_more, some_needed}
use Rattle.link_core.proofs.row.Row.start.Goals as goal

pub invariant_of-self-2 : goal.invariant_of-self-2
invariant_of-self-2 c =
    let row = c.self.inside in
    let message = c.args.message.now in
    let t : Taker = record { entry = record { id = message.id; shape = message.shape; awaited = message.awaited; got = c.new.result }; end = c.in-Some.end } in
    let some : 0 < lack_of t.entry = grind (arith, some_needed message.shape) in
    let end : t.end ≡ row.end + lack_of t.entry = grind arith in
    subst (λ (ts : List Taker). IsRing row.dealt ts c.in-Some.end) (sym c.in_ok-push_back.ensures.items) (one_more row.dealt row.end row.takers.items t c.self.invariant some end)
