use Rattle.std.proofs.Common.{◌<◌, List, arith, subst, sym}
use Rattle.link_core.specs.declared.message.Entry.{Entry}
use Rattle.link_core.specs.Ring.{lack_of_first}
use Rattle.link_core.proofs.RingLemmas.{room_left}
use Rattle.link_core.proofs.row.Row.put.Goals as goal

pub overflow_add-self : goal.overflow_add-self
overflow_add-self c =
    let row = c.self.inside in
    let more = subst (λ (es : List Entry). 1 < lack_of_first es) (sym c.self.view_is) c.requires in
    let left = room_left row.dealt row.end row.takers.items more c.self.invariant in
    grind arith
