-- That a request is answered once.
use Rattle.std.proofs.Common.{◌≡◌, ◌≢◌, ℕ, zero, suc, Bool, true, List, [], ◌∷◌, ◌++◌, Option, None, Some, slice_get, slice_set, refl, sym, ap, ◌∙◌}
use Rattle.containers.proofs.Places.{get_set_other}
use Rattle.driver_model.specs.declared.outcome.Outcome.{Outcome}
use Rattle.driver_model.specs.declared.outcome.Outcome.TheVariants as outcome
use Rattle.manager_generations.specs.declared.act.ManagerAct.TheVariants as act
use Rattle.conn_manager.specs.declared.manager.ConnectionManager.{ConnectionManager}
use Rattle.conn_manager.specs.declared.request.Call.{Call}
use Rattle.conn_manager.specs.declared.request.HeldRequest.{HeldRequest}
use Rattle.conn_manager.specs.declared.request.Stage.{Stage}
use Rattle.conn_manager.specs.declared.request.Stage.TheVariants as stage
use Rattle.mux_client.specs.Connection.{if_placed}
use Rattle.mux_client.specs.LikeLaws.{place_added}
use Rattle.conn_manager.specs.Calls.{entered}
use Rattle.conn_manager.specs.LikeLaws.{filled_other}
use Rattle.conn_manager.specs.Manager.{said, is_open, is_held, is_open_at, is_held_at, if_there, weighed, filled, kept, closed_by}
use Rattle.conn_manager.proofs.Walk.{Walks}
use Rattle.conn_manager.proofs.Runs.{Steps, goes_through}
use Rattle.conn_manager.specs.Once.{is_closed, is_closed_at, Keeps, AnsweredOnce}
use Rattle.conn_manager.specs.Turn.{handed}

-- the same requests, with the same outcomes
alike : (m n : ConnectionManager) → n.stages ≡ m.stages → n.outcomes ≡ m.outcomes → Keeps m n
alike m n s o = record {
  closed = λ p h. ap (λ (ss : List Stage). is_closed_at ss p) s ∙ h;
  outcome = λ p h. ap (λ (os : List (Option Outcome)). if_placed (slice_get os p)) o;
}

itself : (m : ConnectionManager) → Keeps m m
itself m = record { closed = λ p h. h; outcome = λ p h. refl }

-- one after the other
onward : (m n o : ConnectionManager) → Keeps m n → Keeps n o → Keeps m o
onward m n o first second = record {
  closed = λ p h. second.closed p (first.closed p h);
  outcome = λ p h. second.outcome p (first.closed p h) ∙ first.outcome p h;
}

-- a stage can't be two
closed_or_open : (s : Stage) → is_closed s ≡ true → is_open s ≡ true → ⊥
closed_or_open stage.Held c o = cc
closed_or_open (stage.Sent link number) c o = cc
closed_or_open stage.Closed c o = cc

closed_or_held : (s : Stage) → is_closed s ≡ true → is_held s ≡ true → ⊥
closed_or_held stage.Held c h = cc
closed_or_held (stage.Sent link number) c h = cc
closed_or_held stage.Closed c h = cc

-- nor can a request that is there
apart : (s : Option Stage) (test : Stage → Bool) → ((t : Stage) → is_closed t ≡ true → test t ≡ true → ⊥) → if_there is_closed s ≡ true → if_there test s ≡ true → ⊥
apart None test never c t = cc
apart (Some s) test never c t = never s c t

not_same : (stages : List Stage) (p q : ℕ) (test : Stage → Bool) → ((t : Stage) → is_closed t ≡ true → test t ≡ true → ⊥) → is_closed_at stages q ≡ true → if_there test (slice_get stages p) ≡ true → p ≢ q
not_same stages p q test never c t e = apart (slice_get stages q) test never c (ap (λ (n : ℕ). if_there test (slice_get stages n)) (sym e) ∙ t)

-- a change at the place of a request that isn't closed keeps those that are
set_closed : (stages : List Stage) (p q : ℕ) (s : Stage) → p ≢ q → is_closed_at stages q ≡ true → is_closed_at (slice_set stages p s) q ≡ true
set_closed stages p q s other h = ap (if_there is_closed) (get_set_other stages p q s other) ∙ h

pub weighed_stages : (m : ConnectionManager) (o : Outcome) → (weighed m o).stages ≡ m.stages
weighed_stages m (outcome.Fault e) = refl
weighed_stages m (outcome.One value) = refl
weighed_stages m (outcome.Many values) = refl
weighed_stages m outcome.Done = refl

weighed_outcomes : (m : ConnectionManager) (o : Outcome) → (weighed m o).outcomes ≡ m.outcomes
weighed_outcomes m (outcome.Fault e) = refl
weighed_outcomes m (outcome.One value) = refl
weighed_outcomes m (outcome.Many values) = refl
weighed_outcomes m outcome.Done = refl

-- an open request that is answered
answered_open : (m : ConnectionManager) (p : ℕ) (o : Outcome) → is_open_at m.stages p ≡ true → Keeps m (said (kept (weighed (closed_by m p o) o) p o) (act.Answered (record { number = p })))
answered_open m p o there = record {
  closed = λ q h.
      ap (λ (ss : List Stage). is_closed_at ss q) (weighed_stages (closed_by m p o) o)
      ∙ set_closed m.stages p q stage.Closed (not_same m.stages p q is_open closed_or_open h there) h;
  outcome = λ q h.
      ap (λ (os : List (Option Outcome)). if_placed (slice_get (filled os p o) q)) (weighed_outcomes (closed_by m p o) o)
      ∙ ap if_placed (filled_other m.outcomes p q o (not_same m.stages p q is_open closed_or_open h there));
}

-- a request that waited is handed to the link
handed_keeps : (m : ConnectionManager) (q : HeldRequest) → is_held_at m.stages q.number ≡ true → Keeps m (handed m q)
handed_keeps m q there = record {
  closed = λ p h. set_closed m.stages q.number p _ (not_same m.stages q.number p is_held closed_or_held h there) h;
  outcome = λ p h. refl;
}

-- whatever a turn is made of
keeping : Walks Keeps
keeping = record {
  itself = itself;
  onward = onward;
  alike = λ m n stages outcomes generations. alike m n stages outcomes;
  moves = λ m n move stages outcomes generations. alike m n stages outcomes;
  answers = answered_open;
  hands = handed_keeps;
}

-- one more request leaves those before it as they were
closed_before : (stages : List Stage) (p : ℕ) → is_closed_at stages p ≡ true → is_closed_at (stages ++ stage.Held ∷ []) p ≡ true
closed_before [] p h = cc
closed_before (s ∷ ss) zero h = h
closed_before (s ∷ ss) (suc p) h = closed_before ss p h

entered_keeps : (m : ConnectionManager) (call : Option Call) → Keeps m (entered m call)
entered_keeps m call = record {
  closed = λ p h. closed_before m.stages p h;
  outcome = λ p h. place_added m.outcomes p;
}

closing_keeps : (m : ConnectionManager) (p : ℕ) → is_open_at m.stages p ≡ true → Keeps m (record m { stages = slice_set m.stages p stage.Closed })
closing_keeps m p there = record {
  closed = λ q h. set_closed m.stages p q stage.Closed (not_same m.stages p q is_open closed_or_open h there) h;
  outcome = λ q h. refl;
}

-- and whatever is called
each_step : Steps Keeps
each_step = record { walk = keeping; same = λ m n stages outcomes links. alike m n stages outcomes; enters = entered_keeps; closes = closing_keeps }

pub answered_once : AnsweredOnce
answered_once = goes_through each_step
