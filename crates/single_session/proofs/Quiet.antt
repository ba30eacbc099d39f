-- What a turn ends with begins no timer and no source, and answers nobody.
use Rattle.std.proofs.Common.{◌≡◌, ℕ, List, [], ◌∷◌, ◌++◌, Option, Some, None, refl}
use Rattle.containers.proofs.Choices.{chosen}
use Rattle.driver_model.specs.declared.action.WaitKind.{WaitKind}
use Rattle.link_core.specs.Outbox.{can_offer}
use Rattle.mux_conn.specs.declared.act.LinkAct.{LinkAct}
use Rattle.mux_conn.specs.declared.act.LinkAct.TheVariants as act
use Rattle.mux_conn.specs.declared.life.Life.{Life}
use Rattle.mux_conn.specs.declared.life.Life.TheVariants.{Resting, Dialing, Wanting, SettingUp, Ready, Ended}
use Rattle.mux_conn.specs.Connection.{Work, work_with}
use Rattle.mux_conn.specs.Turn.{written, written_at, moved_wait, fresh_wait, wait_shown, moved_each_shown, fresh_each_shown, moved_shown, flushed}
use Rattle.single_session.specs.Turn.{timers_of, sources_of, flushed_apart}
use Rattle.single_session.specs.declared.core_state.Core.{Core}
use Rattle.single_session.specs.Done.{done_each}

-- bytes are offered, or a wait is shown
abbrev pub IsQuiet : LinkAct → Type 0
IsQuiet (act.Write bytes) = Unit {0}
IsQuiet (act.Wait n kind) = Unit {0}
IsQuiet _ = ⊥

abbrev pub AreQuiet : List LinkAct → Type 0
AreQuiet [] = Unit {0}
AreQuiet (a ∷ more) = IsQuiet a × AreQuiet more

one_more : (acts : List LinkAct) (a : LinkAct) → AreQuiet acts → IsQuiet a → AreQuiet (acts ++ a ∷ [])
one_more [] a all quiet = (quiet, tt)
one_more (b ∷ more) a all quiet = (all.0, one_more more a all.1 quiet)

wait_quiet : (w : Work) (p : ℕ) (kind : Option WaitKind) → AreQuiet w.acts → AreQuiet (wait_shown w p kind).acts
wait_quiet w p None all = all
wait_quiet w p (Some kind) all = one_more w.acts _ all tt

moved_each_quiet : (w : Work) (ps : List ℕ) → AreQuiet w.acts → AreQuiet (moved_each_shown w ps).acts
moved_each_quiet w [] all = all
moved_each_quiet w (p ∷ ps) all = moved_each_quiet (wait_shown w p (moved_wait w.conn p)) ps (wait_quiet w p (moved_wait w.conn p) all)

fresh_each_quiet : (w : Work) (ps : List ℕ) → AreQuiet w.acts → AreQuiet (fresh_each_shown w ps).acts
fresh_each_quiet w [] all = all
fresh_each_quiet w (p ∷ ps) all = fresh_each_quiet (wait_shown w p (fresh_wait w.conn p)) ps (wait_quiet w p (fresh_wait w.conn p) all)

written_quiet : (w : Work) (life : Life) → AreQuiet w.acts → AreQuiet (written_at w life).acts
written_quiet w Resting all = all
written_quiet w Dialing all = all
written_quiet w (Wanting link) all = all
written_quiet w (Ended x) all = all
written_quiet w (SettingUp link greeting) all = chosen (λ (x : Work). AreQuiet x.acts) (can_offer link.outbox) _ w (λ _. one_more w.acts _ all tt) (λ _. all)
written_quiet w (Ready link) all = chosen (λ (x : Work). AreQuiet x.acts) (can_offer link.outbox) _ w (λ _. one_more w.acts _ all tt) (λ _. all)

flushed_quiet : (w : Work) → AreQuiet w.acts → AreQuiet (flushed w).acts
flushed_quiet w all =
    let o = written w in
    let m = moved_shown o in
    fresh_each_quiet (record m { conn = record m.conn { fresh = [] } }) m.conn.fresh
    (moved_each_quiet (record o { conn = record o.conn { moved = [] } }) o.conn.moved (written_quiet w w.conn.life all))

pub apart_quiet : (c : Core) → AreQuiet (flushed_apart c).acts
apart_quiet c = flushed_quiet (work_with c.single.connection []) tt

pub no_timers : (l : ℕ) (acts : List LinkAct) → AreQuiet acts → timers_of l acts ≡ []
no_timers l [] all = refl
no_timers l (act.Write bytes ∷ more) all = no_timers l more all.1
no_timers l (act.Wait n kind ∷ more) all = no_timers l more all.1
no_timers l (_ ∷ more) all = absurd all.0

pub no_sources : (l : ℕ) (acts : List LinkAct) → AreQuiet acts → sources_of l acts ≡ []
no_sources l [] all = refl
no_sources l (act.Write bytes ∷ more) all = no_sources l more all.1
no_sources l (act.Wait n kind ∷ more) all = no_sources l more all.1
no_sources l (_ ∷ more) all = absurd all.0

pub none_done : (acts : List LinkAct) → AreQuiet acts → done_each acts ≡ []
none_done [] all = refl
none_done (act.Write bytes ∷ more) all = none_done more all.1
none_done (act.Wait n kind ∷ more) all = none_done more all.1
none_done (_ ∷ more) all = absurd all.0
