use Rattle.std.proofs.Common.{◌≡◌, List, ap, sym, ◌∙◌}
use Rattle.mux_conn.specs.declared.act.LinkAct.{LinkAct}
use Rattle.mux_conn.specs.Connection.{Work}
use Rattle.mux_conn.specs.Turn.{flushed}
use Rattle.single_session.specs.declared.core_state.Core.{Core}
use Rattle.single_session.specs.Turn.{Turning, turning_with, work_of, with_work, numbered, flushed_on}
use Rattle.single_session.proofs.core_state.Core.end.Goals as goal

-- bytes and waits are shown, and then timers and sources get their numbers
ended : (t : Turning) (d : Core) (w : Work) (acts : List LinkAct) → w ≡ flushed (work_of t) → acts ≡ w.acts → ◌≡◌ {A = Turning} (turning_with d acts) (numbered (turning_with (with_work t w).core acts))
    → turning_with d w.acts ≡ numbered (flushed_on t)
ended t d w acts moved same given =
    ap (turning_with d) (sym same) ∙ given ∙ ap (λ (xs : List LinkAct). numbered (turning_with (with_work t w).core xs)) same ∙ ap (λ (x : Work). numbered (with_work t x)) moved

pub returns-clause-turning : goal.returns-clause-turning
returns-clause-turning c =
    ended (record { core = c.args.self.now; acts = c.args.acts.now.items }) c.number.new.self (record { conn = c.flush.new.self; acts = c.flush.new.out.items }) c.as_slice.result.now c.in-Ok.ensures.work c.as_slice.ensures.value c.in_ok-number.ensures
