-- How a turn ends: of a manager, and of a session that doesn't come back.
use Rattle.std.proofs.Common.{◌≡◌, Bool, true, false, List, [], sym, ap, ◌∙◌}
use Rattle.containers.proofs.Choices.{taken_if, left_if}
use Rattle.driver_model.specs.declared.event.EventKind.{EventKind}
use Rattle.mux_conn.specs.declared.act.LinkAct.{LinkAct}
use Rattle.single_session.specs.declared.core_state.Core.{Core}
use Rattle.single_session.specs.declared.generations.Comeback.{Comeback}
use Rattle.single_session.specs.declared.generations.Comeback.TheVariants as comeback
use Rattle.single_session.specs.Turn.{Turning, turning_with, numbered, own_part, come_back_behind, flushed_on, flushed_apart, ended_apart, ended_as, comeback_as, last_as}

module _ (managed over : Bool) (c : Core) (kind : EventKind) (acts : List LinkAct) where
  pub managed_turning : (d : Core) (shown : List LinkAct) → managed ≡ true → shown ≡ acts → turning_with d shown ≡ ended_apart (numbered (turning_with c shown)) over kind → turning_with d acts ≡ ended_as managed (turning_with c acts) over kind
  managed_turning d shown is same h =
      ap (turning_with d) (sym same) ∙ h ∙ ap (λ (xs : List LinkAct). ended_apart (numbered (turning_with c xs)) over kind) same
      ∙ sym (taken_if managed (ended_apart (numbered (turning_with c acts)) over kind) (numbered (flushed_on (turning_with c acts))) is)

  pub managed_comeback : (what : Comeback) (shown : List LinkAct) → managed ≡ true → shown ≡ acts → what ≡ own_part (numbered (turning_with c shown)) over kind → what ≡ comeback_as managed (turning_with c acts) over kind
  managed_comeback what shown is same h =
      h ∙ ap (λ (xs : List LinkAct). own_part (numbered (turning_with c xs)) over kind) same ∙ sym (taken_if managed (own_part (numbered (turning_with c acts)) over kind) comeback.Stays is)

  pub managed_last : (last shown : List LinkAct) → managed ≡ true → shown ≡ acts → last ≡ (flushed_apart (come_back_behind (numbered (turning_with c shown)) over kind)).acts → last ≡ last_as managed (turning_with c acts) over kind
  managed_last last shown is same h =
      h ∙ ap (λ (xs : List LinkAct). (flushed_apart (come_back_behind (numbered (turning_with c xs)) over kind)).acts) same
      ∙ sym (taken_if managed (flushed_apart (come_back_behind (numbered (turning_with c acts)) over kind)).acts [] is)

  pub single_turning : (d : Core) (more : List LinkAct) → managed ≡ false → turning_with d more ≡ numbered (flushed_on (turning_with c acts)) → turning_with d more ≡ ended_as managed (turning_with c acts) over kind
  single_turning d more is h = h ∙ sym (left_if managed (ended_apart (numbered (turning_with c acts)) over kind) (numbered (flushed_on (turning_with c acts))) is)

  pub single_comeback : managed ≡ false → comeback.Stays ≡ comeback_as managed (turning_with c acts) over kind
  single_comeback is = sym (left_if managed (own_part (numbered (turning_with c acts)) over kind) comeback.Stays is)

  pub single_last : (last : List LinkAct) → managed ≡ false → last ≡ [] → last ≡ last_as managed (turning_with c acts) over kind
  single_last last is none = none ∙ sym (left_if managed (flushed_apart (come_back_behind (numbered (turning_with c acts)) over kind)).acts [] is)
