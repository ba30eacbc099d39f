use Rattle.std.proofs.Common.{ℕ, List, subst}
use Rattle.live_lines.specs.Does.{DoesLive}
use Rattle.program_ends.specs.Lines.{usage_line}
use Rattle.program_ends.specs.Sides.{side}
use Rattle.session_program.proofs.running.run.Goals as goal

pub returns-clause-live : goal.returns-clause-live
returns-clause-live g c is =
    let source = side (g.S.Source.left c.args.source.now) (g.S.Source.fault_count c.args.source.now) in
    let source' = side (g.S.Source.left c.live-status.new.source) (g.S.Source.fault_count c.live-status.new.source) in
    let sink = side (g.K.Sink.held c.args.sink.now) (g.K.Sink.fault_count c.args.sink.now) in
    let sink' = side (g.K.Sink.held c.live-status.new.sink) (g.K.Sink.fault_count c.live-status.new.sink) in
    subst (λ (words : List (List ℕ)). DoesLive usage_line words c.live-status.result source source' sink sink' (g.W.World.told c.args.world.now) (g.W.World.told c.live-status.new.world)) c.words_behind.ensures c.live-status.ensures
