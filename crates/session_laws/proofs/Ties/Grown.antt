-- For how many new credentials a connection was asked: its effects leave it, and where a turn's moves ask for more, these are told,
-- or wait on a link that is ready.
use Rattle.std.proofs.Common.{◌≤◌, inl, inr, ℕ, arith, Bool, List, [], Some, None, refl, is_some}
use Rattle.containers.proofs.Choices.{chosen}
use Rattle.credentials.specs.Credentials.{Credentials}
use Rattle.driver_model.specs.declared.event.EventKind.{EventKind}
use Rattle.mux_conn.specs.Connection.{Work, work_with}
use Rattle.mux_conn.specs.Renewals.{renewed as auth_told}
use Rattle.mux_conn.specs.Passes.{moved_up_all, passed, started, still_admitted, still_waiting, moved_all}
use Rattle.single_session.specs.declared.core_state.Core.{Core}
use Rattle.single_session.specs.Turn.{Turning, counted, effect, work_of, next_turn, numbered, passed_by, ended_apart, flushed_on, come_back_behind, own_part}
use Rattle.session_laws.proofs.Ties.Credentials.{effect_holds, repeated_holds}
use Rattle.single_session.specs.Generations.{came_back, has_ended, heeding}
use Rattle.single_session.specs.declared.generations.Comeback.{Comeback}
use Rattle.single_session.specs.declared.generations.Comeback.TheVariants as comeback
use Rattle.mux_conn.specs.Repeats.{repeated}
use Rattle.conn_laws.proofs.Ties.Grown.{HasGrown, IsGrown, apart_grown, begun_grown, each_grown, flushed_grown, moved_grown, renewal_grown, started_grown}

-- no more than so many were asked for
abbrev HasAsked : ℕ → ℕ → List Credentials → Bool → Type 0
HasAsked n asked cs pending = asked ≤ n

-- an event asks for no more
effect_asked : (c : Core) (kind : EventKind) → (effect (counted c) kind).core.single.connection.renewal.asked ≤ c.single.connection.renewal.asked
effect_asked c kind = effect_holds (HasAsked c.single.connection.renewal.asked) (omega arith) c kind (λ cs ready. omega arith) (omega arith)

-- the moves of a turn
--
-- all moves
passed_grown : (n : ℕ) (w : Work) → w.conn.renewal.asked ≤ n → HasGrown n (passed w).conn
passed_grown n w h =
    let s = repeated w in
    let v = started (auth_told s) in
    let u = moved_up_all v in
    begun_grown n (moved_all w) (each_grown n (still_waiting u []) u.conn.waiting (moved_grown n (still_admitted v []) v.conn.admitted (started_grown n (auth_told s) (renewal_grown n s (repeated_holds (HasAsked n) (omega arith) w h)))))

-- behind what is done of its own
--
came_grown : (n : ℕ) (c : Core) (what : Comeback) → HasGrown n c.single.connection → IsGrown n (came_back c what).single.connection
came_grown n c comeback.Stays h = inl h
came_grown n c (comeback.Rests number attempt timer) h = inl h
came_grown n c (comeback.Dials l None timer) h = inr refl
came_grown n c (comeback.Dials l (Some number) timer) h = inr refl

-- a turn
pub turn_grown : (c : Core) (kind : EventKind) → IsGrown c.single.connection.renewal.asked (next_turn c kind).core.single.connection
unfolding next_turn
turn_grown c kind =
    let n = c.single.connection.renewal.asked in
    let t = passed_by (counted c) kind in
    let u = numbered t in
    let over = has_ended c.single.connection.life in
    let w = work_of (effect (counted c) kind) in
    let grown = passed_grown n w (effect_asked c kind) in
    chosen (λ (x : Turning). IsGrown n x.core.single.connection) (is_some c.manager) (ended_apart u over kind) (numbered (flushed_on t))
    (λ managed. let k = come_back_behind u over kind in apart_grown n (work_with k.single.connection []) (came_grown n (heeding u.core kind u.acts) (own_part u over kind) grown))
    (λ plain. inl (flushed_grown n (passed w) grown))
