use Rattle.std.proofs.Common.{◌≡◌, ◌^◌, ◌<◌, List, [], length, None, Bool, ap, subst, sym, ◌∙◌, arith}
use Rattle.driver_model.specs.declared.event.EventKind.{EventKind}
use Rattle.mux_conn.specs.declared.act.LinkAct.{LinkAct}
use Rattle.mux_conn.specs.Connection.{Work, work_with}
use Rattle.mux_conn.specs.Turn.{flushed}
use Rattle.single_session.specs.declared.core_state.Core.{Core}
use Rattle.single_session.specs.declared.generations.Comeback.{Comeback}
use Rattle.single_session.specs.Generations.{wakes_in, heeding, comeback_in, came_back, IsCounted}
use Rattle.single_session.specs.Turn.{Turning, turning_with, numbered, own_part, come_back_behind, flushed_apart, ended_apart, IsFewer}
use Rattle.mux_conn.specs.declared.errors.ConnectionError.TheVariants.{Spent}
use Rattle.single_session.proofs.Comebacks.{came_kept}
use Rattle.single_session.proofs.Spent.{none_spent, same_error}
use Rattle.single_session.proofs.core_state.Core.end_managed.Goals as goal

-- what it does of its own, once timers and sources have their numbers
module _ (t : Turning) (n h d : Core) (over : Bool) (kind : EventKind) (what : Comeback) (given : ◌≡◌ {A = Turning} (turning_with n t.acts) (numbered t)) (heeds : h ≡ heeding n kind t.acts)
    (chosen : what ≡ comeback_in h.manager (wakes_in n.manager kind) over h t.acts) (came : d ≡ came_back h what) where
  own_is : what ≡ own_part (numbered t) over kind
  own_is =
      chosen ∙ ap (λ (c : Core). comeback_in c.manager (wakes_in n.manager kind) over c t.acts) heeds
      ∙ ap (λ (x : Turning). own_part x over kind) given

  back_is : d ≡ come_back_behind (numbered t) over kind
  back_is =
      came ∙ ap (λ (c : Core). came_back c what) heeds
      ∙ ap (λ (x : Turning). came_back (heeding x.core kind x.acts) what) given
      ∙ ap (came_back (heeding (numbered t).core kind (numbered t).acts)) own_is

  rest_is : (w : Work) → w ≡ flushed (work_with d.single.connection []) → w ≡ flushed_apart (come_back_behind (numbered t) over kind)
  rest_is w moved = moved ∙ ap flushed_apart back_is

  ended_is : (w : Work) → w ≡ flushed (work_with d.single.connection []) → turning_with (record d { single = record d.single { connection = w.conn } }) t.acts ≡ ended_apart (numbered t) over kind
  ended_is w moved =
      ap (λ (x : Work). turning_with (record d { single = record d.single { connection = x.conn } }) t.acts) moved
      ∙ ap (λ (c : Core). turning_with (record c { single = record c.single { connection = (flushed_apart c).conn } }) t.acts) back_is

  fewer_back : IsFewer t.core → IsFewer d
  fewer_back few =
      let k = came_kept (heeding (numbered t).core kind (numbered t).acts) (own_part (numbered t) over kind) in
      subst IsFewer (sym back_is) (omega (arith, few, ap length k.requests, ap length k.table))

  sound_back : t.core.single.connection.failure ≡ None → d.single.connection.failure ≡ None
  sound_back sound =
      let k = came_kept (heeding (numbered t).core kind (numbered t).acts) (own_part (numbered t) over kind) in
      subst (λ (c : Core). c.single.connection.failure ≡ None) (sym back_is) (k.failure ∙ sound)

pub choose-requires-clause-counted : goal.choose-requires-clause-counted
choose-requires-clause-counted c = subst (λ (x : Turning). IsCounted x.core) (sym c.in_ok-number.ensures) c.requires.counted

pub choose-requires-clause-links : goal.choose-requires-clause-links
choose-requires-clause-links c = subst (λ (x : Turning). x.core.links < 2 ^ 32) (sym c.in_ok-number.ensures) c.requires.links

pub come_back-requires-clause-links : goal.come_back-requires-clause-links
come_back-requires-clause-links c =
    subst (λ (x : Core). x.links < 2 ^ 32) (sym c.in_ok-comeback.ensures.core) (subst (λ (x : Turning). x.core.links < 2 ^ 32) (sym c.in_ok-number.ensures) c.requires.links)

pub returns-in-Ok-clause-turning : goal.returns-in-Ok-clause-turning
returns-in-Ok-clause-turning c =
    let t : Turning = record { core = c.args.self.now; acts = c.args.acts.now } in
    let w : Work = record { conn = c.flush.new.self; acts = c.flush.new.out.items } in
    ended_is t c.number.new.self c.choose.new.self c.come_back.new.self c.args.over c.args.event.now c.in_ok-comeback.comeback c.in_ok-number.ensures c.in_ok-comeback.ensures.core c.in_ok-comeback.ensures.comeback c.in_ok-come_back.ensures
    w (c.in-Ok.ensures.work ∙ ap (λ (xs : List LinkAct). flushed (work_with c.come_back.new.self.single.connection xs)) c.requires.none)

pub returns-in-Ok-clause-comeback : goal.returns-in-Ok-clause-comeback
returns-in-Ok-clause-comeback c =
    let t : Turning = record { core = c.args.self.now; acts = c.args.acts.now } in
    own_is t c.number.new.self c.choose.new.self c.come_back.new.self c.args.over c.args.event.now c.in_ok-comeback.comeback c.in_ok-number.ensures c.in_ok-comeback.ensures.core c.in_ok-comeback.ensures.comeback c.in_ok-come_back.ensures

pub returns-in-Ok-clause-rest : goal.returns-in-Ok-clause-rest
returns-in-Ok-clause-rest c =
    let t : Turning = record { core = c.args.self.now; acts = c.args.acts.now } in
    let w : Work = record { conn = c.flush.new.self; acts = c.flush.new.out.items } in
    ap (λ (x : Work). x.acts)
    (rest_is t c.number.new.self c.choose.new.self c.come_back.new.self c.args.over c.args.event.now c.in_ok-comeback.comeback c.in_ok-number.ensures c.in_ok-comeback.ensures.core c.in_ok-comeback.ensures.comeback c.in_ok-come_back.ensures
    w (c.in-Ok.ensures.work ∙ ap (λ (xs : List LinkAct). flushed (work_with c.come_back.new.self.single.connection xs)) c.requires.none))

pub returns-in-Ok-clause-fewer : goal.returns-in-Ok-clause-fewer
returns-in-Ok-clause-fewer c =
    let t : Turning = record { core = c.args.self.now; acts = c.args.acts.now } in
    let few = fewer_back t c.number.new.self c.choose.new.self c.come_back.new.self c.args.over c.args.event.now c.in_ok-comeback.comeback c.in_ok-number.ensures c.in_ok-comeback.ensures.core c.in_ok-comeback.ensures.comeback c.in_ok-come_back.ensures c.requires.fewer in
    omega (arith, few, c.flush.ensures.count)

pub returns-in-Err-clause-unspent : goal.returns-in-Err-clause-unspent
returns-in-Err-clause-unspent c is =
    let t : Turning = record { core = c.args.self.now; acts = c.args.acts.now } in
    none_spent c.come_back.new.self.single.connection.failure Spent
    (sound_back t c.number.new.self c.choose.new.self c.come_back.new.self c.args.over c.args.event.now c.in_ok-comeback.comeback c.in_ok-number.ensures c.in_ok-comeback.ensures.core c.in_ok-comeback.ensures.comeback c.in_ok-come_back.ensures c.requires.sound)
    (c.in-Err.ensures.unspent (same_error c.in-Err.error Spent is))
