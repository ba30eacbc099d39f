use Rattle.std.proofs.Common.{◌++◌, length, ap, ◌∙◌}
use Rattle.single_session.specs.Turn.{Turning, shown_each}
use Rattle.single_session.proofs.Made.{effects_made, last_timers, last_sources, done_made, grows_on}
use Rattle.single_session.proofs.turns.make_turn.Goals as goal

pub show_return-requires-clause-grows : goal.show_return-requires-clause-grows
show_return-requires-clause-grows c = grows_on c.args.core.now c.turn.new.self c.args.event.now.kind c.turn.new.acts.items c.in-Ok.ensures.turning c.requires.grows

pub show_return-requires-clause-timers : goal.show_return-requires-clause-timers
show_return-requires-clause-timers c = last_timers c.args.core.now c.turn.new.self c.args.event.now.kind c.turn.new.rest.items c.in-Ok.ensures.rest c.in-Ok.ensures.unspent

pub show_return-requires-clause-sources : goal.show_return-requires-clause-sources
show_return-requires-clause-sources c = last_sources c.args.core.now c.turn.new.self c.args.event.now.kind c.turn.new.rest.items c.in-Ok.ensures.rest c.in-Ok.ensures.unspent

pub returns-clause-core : goal.returns-clause-core
returns-clause-core c = ap (λ (t : Turning). t.core) c.in-Ok.ensures.turning

pub returns-clause-actions : goal.returns-clause-actions
returns-clause-actions c =
    let core = c.args.core.now in
    let old = c.args.out.now.items in
    let acts = c.turn.new.acts.items in
    let shown = c.in_ok-acts.ensures.actions
    ∙ ap (λ n. old ++ shown_each core.single.link n c.len-sources.result acts) c.len-timers.ensures
    ∙ ap (λ n. old ++ shown_each core.single.link (length core.timers) n acts) c.len-sources.ensures in
    effects_made c.args.core.now c.turn.new.self c.args.event.now c.turn.new.acts.items c.turn.new.rest.items c.in-Ok.comeback c.args.out.now.items c.show_each.new.out.items c.show_return.new.out.items
    c.in-Ok.ensures.turning c.in-Ok.ensures.comeback c.in-Ok.ensures.rest shown c.in_ok-last.ensures.actions

pub returns-clause-done : goal.returns-clause-done
returns-clause-done c =
    done_made c.args.core.now c.turn.new.self c.args.event.now.kind c.turn.new.acts.items c.turn.new.rest.items c.args.done.now.items c.show_each.new.done.items c.show_return.new.done.items
    c.in-Ok.ensures.turning c.in-Ok.ensures.rest c.in_ok-acts.ensures.done c.in_ok-last.ensures.done
