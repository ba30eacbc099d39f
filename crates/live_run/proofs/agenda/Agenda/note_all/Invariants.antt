use Rattle.std.proofs.Common.{◌≡◌, length}
use Rattle.live_run.specs.Agenda.{noted_each}
use Rattle.live_run.proofs.agenda.Agenda.note_all.Given as goal

abbrev pub invariant-loop-action : goal.invariant-loop-action
invariant-loop-action l = noted_each l.self l.rest ≡ noted_each l.fn.self l.fn.actions.items

abbrev pub decreases-loop-action : goal.decreases-loop-action
decreases-loop-action l = length l.rest
