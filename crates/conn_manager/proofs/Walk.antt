-- One walk over a turn: what each single change of a manager keeps, the parts of a turn keep.
use Rattle.std.proofs.Common.{◌≡◌, ℕ, ◌==◌, true, ◌&&◌, List, [], ◌∷◌, length, Option, None, Some, slice_get, refl}
use Rattle.containers.proofs.Choices.{chosen}
use Rattle.redis_error.specs.declared.redis_error.RedisError.{RedisError}
use Rattle.redis_error.specs.declared.redis_error.RedisError.TheVariants as error
use Rattle.resp_write.specs.Pack.{pack_pipeline}
use Rattle.sub_tracker.specs.Pipeline.{resubscription}
use Rattle.driver_model.specs.News.{News, shut}
use Rattle.driver_model.specs.Shape.{shape_inside}
use Rattle.driver_model.specs.declared.action.WaitKind.{WaitKind}
use Rattle.driver_model.specs.declared.outcome.Outcome.{Outcome}
use Rattle.driver_model.specs.declared.outcome.Outcome.TheVariants as outcome
use Rattle.mux_conn.specs.declared.act.LinkAct.{LinkAct}
use Rattle.mux_conn.specs.declared.act.LinkAct.TheVariants as link_act
use Rattle.mux_conn.specs.Connection.{Work, work_with}
use Rattle.mux_conn.specs.Effects as effects
use Rattle.mux_conn.specs.Internal.{asked_inside}
use Rattle.mux_conn.specs.Passes as passes
use Rattle.mux_conn.specs.Turn as conn_turn
use Rattle.manager_generations.specs.declared.act.ManagerAct.{ManagerAct}
use Rattle.manager_generations.specs.declared.act.ManagerAct.TheVariants as act
use Rattle.manager_generations.specs.declared.phase.Phase.{Phase}
use Rattle.manager_generations.specs.declared.phase.Phase.TheVariants.{Idle, Opening, Resting, Resubscribing, Ready, Lost, Failed}
use Rattle.manager_generations.specs.Generations.{attempt_failed, rested, rests_behind, shut_down}
use Rattle.manager_generations.specs.Moves.{Move, link_set_up, subscribed_again, opening_fails, wait_over, link_ends, closes, shows, moved}
use Rattle.manager_generations.specs.Phases.{is_ready, is_resubscribing}
use Rattle.conn_manager.specs.declared.manager.ConnectionManager.{ConnectionManager}
use Rattle.conn_manager.specs.declared.request.HeldRequest.{HeldRequest}
use Rattle.conn_manager.specs.declared.request.Stage.{Stage}
use Rattle.conn_manager.specs.declared.request.Stage.TheVariants as stage
use Rattle.mux_client.specs.Events.{Happening, nothing, on_link, late_request, late_resubscription, rest_over, closing}
use Rattle.conn_manager.specs.Hearing.{has_names, opened, resubscribed, closed, came_to, waits, starts, noted, noted_each, moved_on, resubscription_name, is_shutting}
use Rattle.conn_manager.specs.Manager.{with_generations, said, link_of, is_current, is_open_at, is_held_at, weighed, kept, closed_by, answered, failed_each, nobody_held, held_failed, failure_answered_at, loss_answered_at}
use Rattle.conn_manager.specs.Turn.{reconnected, link_shut, all_shut, heard, late_at, rest_ended, applied, resubscription_timed, resubscribes, resubscription_begun, handed, advanced, round, round_each, rounds, connection_passed, passed, with_wait, wait_shown, wait_shown_each, held_shown_as, flushed, held_wait, to_show}

-- A relation of a manager and what becomes of it, which goes on from change to change and holds of each single change in a turn: where
-- its generations move, an open request is answered, or one that waited is handed on.
pub record Walks (R : ConnectionManager → ConnectionManager → Type 0) : Type 0 where
  pub itself : (m : ConnectionManager) → R m m
  pub onward : (m n o : ConnectionManager) → R m n → R n o → R m o
  pub alike : (m n : ConnectionManager) → n.stages ≡ m.stages → n.outcomes ≡ m.outcomes → n.generations ≡ m.generations → R m n
  pub moves : (m n : ConnectionManager) (move : Move) → n.stages ≡ m.stages → n.outcomes ≡ m.outcomes → n.generations ≡ moved m.generations move → R m n
  pub answers : (m : ConnectionManager) (p : ℕ) (o : Outcome) → is_open_at m.stages p ≡ true → R m (said (kept (weighed (closed_by m p o) o) p o) (act.Answered (record { number = p })))
  pub hands : (m : ConnectionManager) (q : HeldRequest) → is_held_at m.stages q.number ≡ true → R m (handed m q)

module _ {R : ConnectionManager → ConnectionManager → Type 0} (walk : Walks R) where
  says : (m : ConnectionManager) (a : ManagerAct) → R m (said m a)
  says m a = walk.moves m (said m a) (shows a) refl refl refl

  pub answers_one : (m : ConnectionManager) (p : ℕ) (o : Outcome) → R m (answered m p o)
  answers_one m p o = chosen (R m) (is_open_at m.stages p) (said (kept (weighed (closed_by m p o) o) p o) (act.Answered (record { number = p }))) m (λ there. walk.answers m p o there) (λ _. walk.itself m)

  fails_each : (m : ConnectionManager) (e : RedisError) (qs : List HeldRequest) → R m (failed_each m e qs)
  fails_each m e [] = walk.itself m
  fails_each m e (q ∷ qs) =
      let next = answered m q.number (outcome.Fault e) in
      walk.onward m next (failed_each next e qs) (answers_one m q.number (outcome.Fault e)) (fails_each next e qs)

  fails_held : (m : ConnectionManager) (e : RedisError) → R m (held_failed m e)
  fails_held m e = walk.onward m (nobody_held m) (held_failed m e) (walk.alike m (nobody_held m) refl refl refl) (fails_each (nobody_held m) e m.held)

  answers_failure : (m : ConnectionManager) (p : Phase) → R m (failure_answered_at m p)
  answers_failure m (Failed e) = fails_held m e
  answers_failure m Idle = walk.itself m
  answers_failure m Opening = walk.itself m
  answers_failure m Resting = walk.itself m
  answers_failure m Resubscribing = walk.itself m
  answers_failure m Ready = walk.itself m
  answers_failure m Lost = walk.itself m

  -- those are answered that waited for a link that has ended
  pub answers_loss : (m : ConnectionManager) (p : Phase) → R m (loss_answered_at m p)
  answers_loss m Lost = fails_held m error.Closed
  answers_loss m Idle = walk.itself m
  answers_loss m Opening = walk.itself m
  answers_loss m Resting = walk.itself m
  answers_loss m Resubscribing = walk.itself m
  answers_loss m Ready = walk.itself m
  answers_loss m (Failed e) = walk.itself m

  opens : (m : ConnectionManager) (draw : ℕ) (e : Option RedisError) → R m (opened m draw e)
  opens m draw None = walk.moves m (opened m draw None) (link_set_up (has_names m.tracker.held)) refl refl refl
  opens m draw (Some e) =
      let next = with_generations m (attempt_failed m.generations e draw) in
      walk.onward m next (failure_answered_at next next.generations.phase) (walk.moves m next (opening_fails e draw) refl refl refl) (answers_failure next next.generations.phase)

  is_closed : (m : ConnectionManager) → R m (closed m)
  is_closed m =
      let next = said m (act.Close (link_of m.generations)) in
      walk.onward m next (closed m) (says m _) (walk.moves next (closed m) link_ends refl refl refl)

  comes_to : (m : ConnectionManager) (p : ℕ) (o : Outcome) → R m (came_to m p o)
  comes_to m p o = chosen (R m) (p == resubscription_name) _ _ (λ _. walk.moves m (resubscribed m) subscribed_again refl refl refl) (λ _. answers_one m p o)

  is_waiting : (m : ConnectionManager) (p : ℕ) (kind : WaitKind) → R m (waits m p kind)
  is_waiting m p kind = chosen (R m) (p == resubscription_name) _ _ (λ _. walk.itself m) (λ _. says m _)

  is_started : (m : ConnectionManager) (message p need len : ℕ) → R m (starts m message p need len)
  is_started m message p need len = chosen (R m) (p == resubscription_name) _ _ (λ _. says m _) (λ _. says m _)

  notes : (m : ConnectionManager) (draw : ℕ) (a : LinkAct) → R m (noted m draw a)
  notes m draw (link_act.Created e) = opens m draw e
  notes m draw (link_act.Round p) = walk.itself m
  notes m draw (link_act.Took p count) = says m _
  notes m draw (link_act.Timer p ms) = says m _
  notes m draw (link_act.RenewalTimer k ms) = says m _
  notes m draw (link_act.RepeatTimer ms) = walk.itself m
  notes m draw link_act.NeedCreds = says m _
  notes m draw link_act.NeedRenewals = says m _
  notes m draw (link_act.Push info) = says m _
  notes m draw (link_act.Message msg) = walk.itself m
  notes m draw (link_act.Monitor v) = walk.itself m
  notes m draw (link_act.Watch message need len) = walk.itself m
  notes m draw link_act.Close = is_closed m
  notes m draw (link_act.Write bytes) = says m _
  notes m draw (link_act.Wait p kind) = is_waiting m p kind
  notes m draw (link_act.Start message p need len) = is_started m message p need len
  notes m draw (link_act.SetUp message need len) = says m _
  notes m draw (link_act.Renewed message need len) = says m _
  notes m draw (link_act.Repeated message need len) = walk.itself m
  notes m draw (link_act.Outcome p o) = comes_to m p o

  notes_each : (m : ConnectionManager) (draw : ℕ) (acts : List LinkAct) → R m (noted_each m draw acts)
  notes_each m draw [] = walk.itself m
  notes_each m draw (a ∷ more) =
      let next = noted m draw a in
      walk.onward m next (noted_each next draw more) (notes m draw a) (notes_each next draw more)

  moves_on : (m : ConnectionManager) (draw : ℕ) (w : Work) → R m (moved_on m draw w)
  moves_on m draw w =
      let next = record m { conn = w.conn } in
      walk.onward m next (noted_each next draw w.acts) (walk.alike m next refl refl refl) (notes_each next draw w.acts)

  -- the effect of what happened
  --
  -- everything is shut down
  shuts_link : (m : ConnectionManager) (draw : ℕ) → R m (link_shut m draw)
  shuts_link m draw = chosen (R m) (m.generations.links == 0) _ _ (λ _. walk.itself m) (λ _. moves_on m draw (effects.applied (work_with m.conn []) shut))

  shuts_all : (m : ConnectionManager) (draw : ℕ) → R m (all_shut m draw)
  shuts_all m draw =
      let first = with_generations m (shut_down m.generations) in
      let second = link_shut first draw in
      let last = failure_answered_at second second.generations.phase in
      walk.onward m first last (walk.moves m first closes refl refl refl) (walk.onward first second last (shuts_link first draw) (answers_failure second second.generations.phase))

  hears : (m : ConnectionManager) (draw link : ℕ) (news : News) → R m (heard m draw link news)
  hears m draw link news =
      chosen (R m) (is_current m.generations link) _ _ (λ _. chosen (R m) (is_shutting news) _ _ (λ _. shuts_all m draw) (λ _. moves_on m draw (effects.applied (work_with m.conn []) news))) (λ _. walk.itself m)

  is_late : (m : ConnectionManager) (draw : ℕ) (s : Option Stage) → R m (late_at m draw s)
  is_late m draw None = walk.itself m
  is_late m draw (Some stage.Held) = walk.itself m
  is_late m draw (Some (stage.Sent link number)) = chosen (R m) (is_current m.generations link) _ _ (λ _. moves_on m draw (effects.timed_out (work_with m.conn []) number)) (λ _. walk.itself m)
  is_late m draw (Some stage.Closed) = walk.itself m

  rests_over : (m : ConnectionManager) (number attempt : ℕ) → R m (rest_ended m number attempt)
  rests_over m number attempt =
      chosen (R m) (rests_behind m.generations number attempt) _ _
      (λ _. walk.moves m (reconnected (with_generations m (rested m.generations number attempt))) (wait_over number attempt) refl refl refl) (λ _. walk.itself m)

  pub applies : (m : ConnectionManager) (draw : ℕ) (what : Happening) → R m (applied m draw what)
  applies m draw nothing = walk.itself m
  applies m draw (on_link link news) = hears m draw link news
  applies m draw (late_request p) = is_late m draw (slice_get m.stages p)
  applies m draw (late_resubscription link) = chosen (R m) (is_current m.generations link && is_resubscribing m.generations.phase) _ _ (λ _. moves_on m draw (effects.timed_out (work_with m.conn []) 0)) (λ _. walk.itself m)
  applies m draw (rest_over number attempt) = rests_over m number attempt
  applies m draw closing = shuts_all m draw

  -- the rest of a turn
  --
  -- what was subscribed is subscribed again
  asks_timer : (m : ConnectionManager) (ms : Option ℕ) → R m (resubscription_timed m ms)
  asks_timer m None = walk.itself m
  asks_timer m (Some ms) = says m _

  pub subscribes_again : (m : ConnectionManager) → R m (resubscription_begun m)
  subscribes_again m =
      let p = resubscription m.tracker.held in
      let asks = record m { conn = asked_inside m.conn resubscription_name (pack_pipeline p) (shape_inside (length p.commands)) } in
      chosen (R m) (is_resubscribing m.generations.phase && (length m.conn.requests == 0)) (resubscribes m) m
      (λ _. walk.onward m asks (resubscribes m) (walk.alike m asks refl refl refl) (asks_timer asks m.generations.settings.config.connection.response_timeout)) (λ _. walk.itself m)

  has_round : (m : ConnectionManager) (draw : ℕ) (q : HeldRequest) → R m (round m draw q)
  has_round m draw q =
      chosen (R m) (is_held_at m.stages q.number) _ _
      (λ there. walk.onward m (handed m q) (advanced (handed m q) draw (length m.conn.requests)) (walk.hands m q there) (moves_on (handed m q) draw (passes.advanced (work_with (handed m q).conn []) (length m.conn.requests)))) (λ _. walk.itself m)

  have_rounds : (m : ConnectionManager) (draw : ℕ) (qs : List HeldRequest) → R m (round_each m draw qs)
  have_rounds m draw [] = walk.itself m
  have_rounds m draw (q ∷ qs) =
      let next = round m draw q in
      walk.onward m next (round_each next draw qs) (has_round m draw q) (have_rounds next draw qs)

  runs_rounds : (m : ConnectionManager) (draw : ℕ) → R m (rounds m draw)
  runs_rounds m draw =
      chosen (R m) (is_ready m.generations.phase) _ _
      (λ _. walk.onward m (nobody_held m) (round_each (nobody_held m) draw m.held) (walk.alike m (nobody_held m) refl refl refl) (have_rounds (nobody_held m) draw m.held)) (λ _. walk.itself m)

  pub passes_on : (m : ConnectionManager) (draw : ℕ) → R m (passed m draw)
  passes_on m draw = walk.onward m (connection_passed m draw) (passed m draw) (moves_on m draw (passes.passed (work_with m.conn []))) (runs_rounds (connection_passed m draw) draw)

  shows_each : (m : ConnectionManager) (kind : WaitKind) (ps : List ℕ) → R m (wait_shown_each m kind ps)
  shows_each m kind [] = walk.itself m
  shows_each m kind (p ∷ ps) =
      let next = wait_shown m kind p in
      walk.onward m next (wait_shown_each next kind ps)
      (chosen (R m) (is_held_at m.stages p) _ _ (λ _. says m _) (λ _. walk.itself m)) (shows_each next kind ps)

  shows_held : (m : ConnectionManager) (kind : Option WaitKind) → R m (held_shown_as m kind)
  shows_held m None = walk.alike m (with_wait m None) refl refl refl
  shows_held m (Some kind) =
      let next = with_wait m (Some kind) in
      let last = wait_shown_each next kind (to_show m kind) in
      walk.onward m next last (walk.alike m next refl refl refl) (shows_each next kind (to_show m kind))

  pub flushes : (m : ConnectionManager) (draw : ℕ) → R m (flushed m draw)
  flushes m draw =
      let w = conn_turn.flushed (work_with m.conn []) in
      let next = moved_on m draw w in
      walk.onward m next (flushed m draw) (moves_on m draw w) (shows_held next (held_wait next.generations.phase next.conn.life))
