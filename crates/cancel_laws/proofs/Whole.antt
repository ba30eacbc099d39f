-- What a whole turn leaves of any session, also of one that comes back.
use Rattle.std.proofs.Common.{◌≡◌, ℕ, List, [], is_some, refl, sym, ◌∙◌, subst, Some, None, Bool}
use Rattle.containers.proofs.Choices.{chosen}
use Rattle.driver_model.specs.declared.event.EventKind.{EventKind}
use Rattle.mux_conn.specs.declared.act.LinkAct.{LinkAct}
use Rattle.mux_conn.specs.declared.request.Request.{Request}
use Rattle.mux_conn.specs.Connection.{Work, work_with}
use Rattle.mux_conn.specs.Effects.{dialled}
use Rattle.mux_conn.specs.declared.connection.MultiplexedConnection.{MultiplexedConnection}
use Rattle.single_session.specs.declared.core_state.Core.{Core}
use Rattle.single_session.specs.declared.generations.Comeback.{Comeback}
use Rattle.single_session.specs.declared.generations.Comeback.TheVariants as comeback
use Rattle.single_session.specs.Generations.{came_back, has_ended, heeding, begun, is_last_of, repeat_in}
use Rattle.single_session.specs.Turn.{Turning, counted, effect, ended_apart, flushed_apart, flushed_on, last_acts, next_turn, numbered, own_part, passed_by, work_of}
use Rattle.single_session.proofs.Comebacks.{came_kept}
use Rattle.conn_laws.proofs.Changes.Kept.{At, passed_kept}
use Rattle.conn_laws.proofs.Changes.KeptEnds.{flushed_kept}
use Rattle.conn_laws.proofs.Changes.Bare.{other_acts}
use Rattle.conn_laws.proofs.Changes.Silent.{IsSilent, silent_kept}
use Rattle.conn_laws.proofs.Changes.Rest.{IsIdle, IsMoved, all_moved, flushed_idle, flushed_requests}
use Rattle.mux_conn.specs.declared.again.Again.{Again}

-- on a link that isn't answered yet nobody is moved
dialled_moved : (c : MultiplexedConnection) (is_last : Bool) (a : Again) → IsMoved (dialled c is_last a)
dialled_moved c is_last a = record { seated = record { through = record { queue = tt; repeated = λ t. cc; renewed = λ t. cc }; admitted = λ t. cc }; waiting = λ f. cc }

-- so where all was moved it is behind what a manager does of its own
came_moved : (c : Core) (what : Comeback) → IsMoved c.single.connection → IsMoved (came_back c what).single.connection
came_moved c comeback.Stays h = h
came_moved c (comeback.Rests number attempt timer) h = h
came_moved c (comeback.Dials l None timer) h = dialled_moved c.single.connection (is_last_of c.manager) (repeat_in c.manager)
came_moved c (comeback.Dials l (Some number) timer) h = let d = begun c number in dialled_moved d.single.connection (is_last_of d.manager) (repeat_in d.manager)

module _ (c : Core) (kind : EventKind) where
  -- behind the submissions that were moved
  abbrev pub moved : Turning
  moved = passed_by (counted c) kind

  -- a manager does something of its own
  abbrev pub comes : Comeback
  comes = own_part (numbered moved) (has_ended c.single.connection.life) kind

  abbrev pub heeds : Core
  heeds = heeding (numbered moved).core kind (numbered moved).acts

  abbrev pub back : Core
  back = came_back heeds comes

  -- so requests stay as they were moved
  pub turn_requests : (next_turn c kind).core.single.connection.requests ≡ moved.core.single.connection.requests
  unfolding next_turn
  turn_requests =
      chosen (λ (x : Turning). x.core.single.connection.requests ≡ moved.core.single.connection.requests) (is_some c.manager) (ended_apart (numbered moved) (has_ended c.single.connection.life) kind) (numbered (flushed_on moved))
      (λ t. flushed_requests (work_with back.single.connection []) ∙ (came_kept heeds comes).requests)
      (λ f. flushed_requests (work_of moved))

  -- and nothing is left to do
  pub turn_idle : IsIdle (next_turn c kind).core.single.connection
  unfolding next_turn
  turn_idle =
      chosen (λ (x : Turning). IsIdle x.core.single.connection) (is_some c.manager) (ended_apart (numbered moved) (has_ended c.single.connection.life) kind) (numbered (flushed_on moved))
      (λ t. flushed_idle (work_with back.single.connection []) (came_moved heeds comes (all_moved (work_of (effect (counted c) kind)))))
      (λ f. flushed_idle (work_of moved) (all_moved (work_of (effect (counted c) kind))))

  -- the submissions are those that the event leaves
  pub turn_table : (next_turn c kind).core.table ≡ (effect (counted c) kind).core.table
  unfolding next_turn
  turn_table =
      chosen (λ (x : Turning). x.core.table ≡ (effect (counted c) kind).core.table) (is_some c.manager) (ended_apart (numbered moved) (has_ended c.single.connection.life) kind) (numbered (flushed_on moved))
      (λ t. (came_kept heeds comes).table)
      (λ f. refl)

  module _ (n p : ℕ) (silent : At (IsSilent n p) (work_of (effect (counted c) kind))) where
    -- a request that is closed behind the event has no outcome then
    passes : At (IsSilent n p) (work_of moved)
    passes = passed_kept (silent_kept n p) (work_of (effect (counted c) kind)) silent

    of_back : (xs : List LinkAct) → other_acts n xs ≡ xs → (r : List Request) → r ≡ moved.core.single.connection.requests → (w : Work) → w.conn.requests ≡ r → w.acts ≡ xs → At (IsSilent n p) w
    of_back xs none r e w requests acts =
        subst (λ (ys : List LinkAct). IsSilent n p w.conn.limit w.conn.requests w.conn.life w.conn.moved ys) (sym acts)
        (subst (λ (s : List Request). IsSilent n p w.conn.limit s w.conn.life w.conn.moved xs) (sym (requests ∙ e)) (record { there = passes.there; own = passes.own; closed = passes.closed; unshown = none }))

    -- nor in the turn
    pub turn_silent : At (IsSilent n p) (work_of (next_turn c kind))
    unfolding next_turn
    turn_silent =
        chosen (λ (x : Turning). At (IsSilent n p) (work_of x)) (is_some c.manager) (ended_apart (numbered moved) (has_ended c.single.connection.life) kind) (numbered (flushed_on moved))
        (λ t. of_back moved.acts passes.unshown back.single.connection.requests (came_kept heeds comes).requests (work_of (ended_apart (numbered moved) (has_ended c.single.connection.life) kind)) (flushed_requests (work_with back.single.connection [])) refl)
        (λ f. flushed_kept (silent_kept n p) (work_of moved) passes)

    -- nor behind what a manager does of its own in it
    pub last_silent : other_acts n (last_acts c kind) ≡ last_acts c kind
    unfolding last_acts
    last_silent =
        chosen (λ (xs : List LinkAct). other_acts n xs ≡ xs) (is_some c.manager) (flushed_apart back).acts []
        (λ t. (flushed_kept (silent_kept n p) (work_with back.single.connection []) (of_back [] refl back.single.connection.requests (came_kept heeds comes).requests (work_with back.single.connection []) refl refl)).unshown)
        (λ f. refl)
