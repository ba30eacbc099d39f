-- What a link took in a run stands at the front of the messages that were started on it.
use Rattle.std.proofs.Common.{ℕ, List, ◌++◌, Option, sym, subst}
use Rattle.driver_model.specs.declared.action.Action.{Action}
use Rattle.outside.specs.declared.world.Call.{Call}
use Rattle.legal_laws.proofs.Links.Lines.{ledgers_are_told}
use Rattle.legal_laws.proofs.Links.Links.{links_take_in_order}
use Rattle.legal_laws.specs.Links.{IsPrefix}
use Rattle.legal_trace.specs.Ledger.{Ledger, joined, stream}
use Rattle.session_laws.proofs.Turn.Legality.{replay_legal}
use Rattle.shared_session.specs.History.{History}
use Rattle.single_session.specs.Replay.{IsSound}
use Rattle.live_run.specs.declared.ending.Ending.{Ending}
use Rattle.live_run.specs.Deeds.{IsGood, IsUnspent, traced}
use Rattle.live_run.specs.Driven.{Driven}
use Rattle.live_laws.specs.Laws.{calls_of, link_in}
use Rattle.live_laws.specs.Taken.{AreUnwritten, taken}
use Rattle.live_laws.proofs.Runs.{run_takes_all}

-- by the trace of a session a link takes its messages in order
stream_front : (s : History) (l : ℕ) → IsSound s.config → IsGood s → IsUnspent s → IsPrefix (stream (link_in s l)) (joined (link_in s l).starts)
stream_front s l sound good unspent =
    subst (λ (g : Ledger). IsPrefix (stream g) (joined g.starts)) (sym (ledgers_are_told (traced s) l))
    (links_take_in_order s.config s.word s.events (traced s) (replay_legal s.config s.word s.events sound good unspent) l)

pub run_front : {early : List Action} {old new : Option (List Call)} {before after : History} {count : ℕ} {ending : Ending} (run : Driven early old new before after count ending) (l : ℕ) → IsSound before.config → IsGood before → IsUnspent before
    → AreUnwritten before.events → IsPrefix (taken l (calls_of run) ++ (link_in after l).offer) (joined (link_in after l).starts)
run_front {after} run l sound good unspent quiet =
    subst (λ (xs : List ℕ). IsPrefix (xs ++ (link_in after l).offer) (joined (link_in after l).starts)) (run_takes_all run l sound good unspent quiet)
    (stream_front after l (subst IsSound (sym run.config_after) sound) (run.good good) (run.unspent unspent))
