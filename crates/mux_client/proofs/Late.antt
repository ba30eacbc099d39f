-- A turn in which the timer of a request has fired: what the machine does of it, and then its turn.
use Rattle.std.proofs.Common.{◌≡◌, ◌⊎◌, inl, inr, ℕ, true, List, [], ◌++◌, Option, Some, sym, ap, ◌∙◌, subst, append_assoc}
use Rattle.driver_model.specs.News.{silence}
use Rattle.driver_model.specs.declared.outcome.Outcome.{Outcome}
use Rattle.mux_conn.specs.declared.act.LinkAct.{LinkAct}
use Rattle.mux_conn.specs.declared.connection.MultiplexedConnection.{MultiplexedConnection as Core}
use Rattle.mux_conn.specs.declared.errors.ConnectionError.TheVariants as failure
use Rattle.mux_conn.specs.Connection.{Work, work_with, uses_up}
use Rattle.mux_conn.specs.Effects.{timed_out}
use Rattle.mux_conn.specs.Turn as turn
use Rattle.mux_client.specs.declared.act.ConnectionAct.{ConnectionAct}
use Rattle.mux_client.specs.declared.connection.MultiplexedConnection.{MultiplexedConnection}
use Rattle.mux_client.specs.Shown.{shown_each, kept_each}
use Rattle.mux_client.specs.Calls.{late, late_work, turn_of, stepped, acts_of}
use Rattle.mux_client.proofs.Kept.{both_kept, both_shown}

-- the machine's turn behind that
abbrev silent : Core → Work
silent d = turn.stepped (work_with d []) silence

-- what the machine did, where nothing was done before
done_late : (c : MultiplexedConnection) (p : ℕ) (d : Core) (none some : List LinkAct) → none ≡ [] → work_with d some ≡ timed_out (work_with c.core none) p
    → (d ≡ (late_work c p).conn) × (some ≡ (late_work c p).acts)
done_late c p d none some empty work =
    let is : work_with d some ≡ late_work c p = work ∙ ap (λ (acts : List LinkAct). timed_out (work_with c.core acts) p) empty in
    (ap (λ (w : Work). w.conn) is, ap (λ (w : Work). w.acts) is)

-- its turn gives a number too many only where that of the definition does
pub spends_late : (c : MultiplexedConnection) (p : ℕ) (d : Core) (none some : List LinkAct) → none ≡ [] → work_with d some ≡ timed_out (work_with c.core none) p → d.failure ≡ c.core.failure
    → (d.failure ≡ Some failure.Spent) ⊎ (uses_up (silent d) ≡ true) → (c.core.failure ≡ Some failure.Spent) ⊎ (uses_up (turn_of (late c p) silence) ≡ true)
spends_late c p d none some empty work same (inl h) = inl (sym same ∙ h)
spends_late c p d none some empty work same (inr h) = inr (subst (λ (e : Core). uses_up (silent e) ≡ true) (done_late c p d none some empty work).0 h)

-- all that the machine did
all_late : (c : MultiplexedConnection) (p : ℕ) (d : Core) (none some all : List LinkAct) → none ≡ [] → work_with d some ≡ timed_out (work_with c.core none) p → all ≡ some ++ (silent d).acts
    → all ≡ (late_work c p).acts ++ (silent (late_work c p).conn).acts
all_late c p d none some all empty work behind =
    let is = done_late c p d none some empty work in
    behind ∙ ap (λ (acts : List LinkAct). acts ++ (silent d).acts) is.1 ∙ ap (λ (e : Core). (late_work c p).acts ++ (silent e).acts) is.0

-- this connection with these parts, of which nothing is to be shown
abbrev with_parts : MultiplexedConnection → Core → List (Option Outcome) → MultiplexedConnection
with_parts c core outcomes = record c { core = core; outcomes = outcomes; early = [] }

-- what becomes of the connection
pub stepped_late : (c : MultiplexedConnection) (p : ℕ) (d e : Core) (none some all : List LinkAct) → none ≡ [] → work_with d some ≡ timed_out (work_with c.core none) p
    → e ≡ (silent d).conn → all ≡ some ++ (silent d).acts → with_parts c e (kept_each c.outcomes all) ≡ stepped (late c p) silence
stepped_late c p d e none some all empty work comes behind =
    let w = late_work c p in
    let core_is : e ≡ (silent w.conn).conn = comes ∙ ap (λ (x : Core). (silent x).conn) (done_late c p d none some empty work).0 in
    let kept_is : kept_each c.outcomes all ≡ kept_each (kept_each c.outcomes w.acts) (silent w.conn).acts =
    ap (λ (acts : List LinkAct). kept_each c.outcomes acts) (all_late c p d none some all empty work behind) ∙ both_kept c.outcomes w.acts (silent w.conn).acts in
    ap (λ (x : Core). with_parts c x (kept_each c.outcomes all)) core_is ∙ ap (λ (os : List (Option Outcome)). with_parts c (silent w.conn).conn os) kept_is

-- and what is shown
pub shown_late : (c : MultiplexedConnection) (p : ℕ) (d : Core) (none some all : List LinkAct) → none ≡ [] → work_with d some ≡ timed_out (work_with c.core none) p → all ≡ some ++ (silent d).acts
    → c.early ++ shown_each all ≡ acts_of (late c p) silence
shown_late c p d none some all empty work behind =
    let w = late_work c p in
    ap (λ (acts : List LinkAct). c.early ++ shown_each acts) (all_late c p d none some all empty work behind)
    ∙ ap (λ (acts : List ConnectionAct). c.early ++ acts) (both_shown w.acts (silent w.conn).acts)
    ∙ sym (append_assoc c.early (shown_each w.acts) (shown_each (silent w.conn).acts))
