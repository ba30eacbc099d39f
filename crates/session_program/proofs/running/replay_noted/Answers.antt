use Rattle.std.proofs.Common.{refl}
use Rattle.program_ends.specs.Sides.{side}
use Rattle.session_program.proofs.Notes.{own_done, own_config, own_bad}
use Rattle.session_program.proofs.Outcomes.{done_does, refused_does, bad_does, spent_does}
use Rattle.session_program.proofs.running.replay_noted.Goals as goal

pub returns-in-Ok-clause-does : goal.returns-in-Ok-clause-does
returns-in-Ok-clause-does g c source source' kept decides reads small =
    let done = c.in-Ok.ensures in
    done_does source source' (side (g.K.Sink.held c.args.sink.now) (g.K.Sink.fault_count c.args.sink.now)) (side (g.K.Sink.held c.replay_script.new.sink) (g.K.Sink.fault_count c.replay_script.new.sink))
    kept c.args.script decides reads small done.trace done.sound done.good done.unspent

pub returns-in-Err-Config-clause-does : goal.returns-in-Err-Config-clause-does
returns-in-Err-Config-clause-does g c source source' kept decides reads small =
    let stop = rw c.in-Err-Config.field-0-is at c.in-Err-Config.ensures in
    refused_does source source' (side (g.K.Sink.held c.args.sink.now) (g.K.Sink.fault_count c.args.sink.now)) (side (g.K.Sink.held c.replay_script.new.sink) (g.K.Sink.fault_count c.replay_script.new.sink))
    kept c.args.script c.in-Err-Config.name decides reads stop.stops

pub returns-in-Err-BadEvent-clause-does : goal.returns-in-Err-BadEvent-clause-does
returns-in-Err-BadEvent-clause-does g c source source' kept decides reads small =
    let stop = rw c.in-Err-BadEvent.field-0-is at c.in-Err-BadEvent.ensures in
    bad_does source source' (side (g.K.Sink.held c.args.sink.now) (g.K.Sink.fault_count c.args.sink.now)) (side (g.K.Sink.held c.replay_script.new.sink) (g.K.Sink.fault_count c.replay_script.new.sink))
    kept c.args.script decides reads stop.stops

pub returns-in-Err-Spent-clause-does : goal.returns-in-Err-Spent-clause-does
returns-in-Err-Spent-clause-does g c source source' kept decides reads small =
    let stop = rw c.in-Err-Spent.field-0-is at c.in-Err-Spent.ensures in
    spent_does source source' (side (g.K.Sink.held c.args.sink.now) (g.K.Sink.fault_count c.args.sink.now)) (side (g.K.Sink.held c.replay_script.new.sink) (g.K.Sink.fault_count c.replay_script.new.sink))
    kept c.args.script decides reads stop.stops

pub returns-in-Ok-clause-own : goal.returns-in-Ok-clause-own
returns-in-Ok-clause-own g c source left kept decides reads = own_done source left kept c.args.script c.in-Ok.count c.done_note.result decides reads c.in-Ok.ensures.counted c.done_note.ensures

pub returns-in-Err-Config-clause-own : goal.returns-in-Err-Config-clause-own
returns-in-Err-Config-clause-own g c source left kept decides reads =
    let stop = rw c.in-Err-Config.field-0-is at c.in-Err-Config.ensures in
    own_config source left kept c.args.script c.in-Err-Config.name c.config_note.result decides reads stop.stops.refused c.config_note.ensures

pub returns-in-Err-BadEvent-clause-own : goal.returns-in-Err-BadEvent-clause-own
returns-in-Err-BadEvent-clause-own g c source left kept decides reads =
    let stop = rw c.in-Err-BadEvent.field-0-is at c.in-Err-BadEvent.ensures in
    own_bad source left kept c.args.script c.replay_script.new.note decides reads (stop.noted _ refl)
