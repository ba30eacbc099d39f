-- A whole turn of a manager: the effect of what happened, the next generation where a cause came, rounds and starts, writes and waits.
use Rattle.std.specs.Prelude.{ℕ, ◌==◌, Bool, false, ◌&&◌, List, [], ◌∷◌, length, Option, None, Some, slice_get, slice_set, if◌then◌else◌}
use Rattle.resp_write.specs.Pack.{pack_pipeline}
use Rattle.driver_model.specs.News.{News, shut}
use Rattle.mux_conn.specs.declared.life.Life.{Life}
use Rattle.mux_conn.specs.Connection.{work_with}
use Rattle.mux_conn.specs.Internal.{asked_inside}
use Rattle.mux_conn.specs.Passes as passes
use Rattle.mux_conn.specs.Requests.{asked}
use Rattle.mux_conn.specs.Turn as conn_turn
use Rattle.driver_model.specs.Shape.{shape_inside}
use Rattle.sub_tracker.specs.Pipeline.{resubscription}
use Rattle.manager_generations.specs.declared.act.ManagerAct.TheVariants as act
use Rattle.manager_generations.specs.declared.act.ManagerTimer.TheVariants as timer
use Rattle.conn_manager.specs.declared.manager.ConnectionManager.{ConnectionManager}
use Rattle.manager_generations.specs.declared.phase.Phase.{Phase}
use Rattle.manager_generations.specs.declared.phase.Phase.TheVariants.{Idle, Opening, Resting, Resubscribing, Ready, Lost, Failed}
use Rattle.conn_manager.specs.declared.request.HeldRequest.{HeldRequest}
use Rattle.conn_manager.specs.declared.request.Stage.{Stage}
use Rattle.conn_manager.specs.declared.request.Stage.TheVariants as stage
use Rattle.mux_client.specs.Events.{Happening, nothing, on_link, late_request, late_resubscription, rest_over, closing}
use Rattle.manager_generations.specs.Generations.{begun, begins_next, rested, rests_behind, shut_down}
use Rattle.conn_manager.specs.Hearing.{affected, timed_out, moved_on, resubscription_name, is_shutting}
use Rattle.conn_manager.specs.Manager.{pending, with_generations, said, link_of, is_current, new_conn, is_held_at, nobody_held, failure_answered, loss_answered}
use Rattle.manager_generations.specs.Phases.{is_ready, is_resubscribing}
use Rattle.driver_model.specs.Waits.{wait_code}
use Rattle.driver_model.specs.declared.action.WaitKind.{WaitKind}
use Rattle.driver_model.specs.declared.action.WaitKind.TheVariants as wait

-- over the link that is asked for, where one is, there is a connection of its own
abbrev pub reconnected : ConnectionManager → ConnectionManager
reconnected m = record m { conn = new_conn m }

-- everything is shut down: its link is closed, and all that wait are answered
abbrev pub link_shut : ConnectionManager → ℕ → ConnectionManager
link_shut m draw = if m.generations.links == 0 then m else affected m draw shut

abbrev pub all_shut : ConnectionManager → ℕ → ConnectionManager
all_shut m draw = failure_answered (link_shut (with_generations m (shut_down m.generations)) draw)

-- news of the link that was asked for last; the others have ended
abbrev pub heard : ConnectionManager → ℕ → ℕ → News → ConnectionManager
heard m draw link news =
    if is_current m.generations link
    then (if is_shutting news then all_shut m draw else affected m draw news)
    else m

-- the timer of a request has fired that was handed to that link, or of one that wasn't handed on
abbrev pub late_at : ConnectionManager → ℕ → Option Stage → ConnectionManager
late_at m draw None = m
late_at m draw (Some stage.Held) = m
late_at m draw (Some (stage.Sent link number)) = if is_current m.generations link then timed_out m draw number else m
late_at m draw (Some stage.Closed) = m

-- what subscribes again is the first request of its connection
abbrev pub resubscription_late : ConnectionManager → ℕ → ℕ → ConnectionManager
resubscription_late m draw link = if is_current m.generations link && is_resubscribing m.generations.phase then timed_out m draw 0 else m

-- the wait behind an attempt is over
abbrev pub rest_ended : ConnectionManager → ℕ → ℕ → ConnectionManager
rest_ended m number attempt = if rests_behind m.generations number attempt then reconnected (with_generations m (rested m.generations number attempt)) else m

-- the effect of what happened
abbrev pub applied : ConnectionManager → ℕ → Happening → ConnectionManager
applied m draw nothing = m
applied m draw (on_link link news) = heard m draw link news
applied m draw (late_request p) = late_at m draw (slice_get m.stages p)
applied m draw (late_resubscription link) = resubscription_late m draw link
applied m draw (rest_over number attempt) = rest_ended m number attempt
applied m draw closing = all_shut m draw

-- the next generation begins, where a cause came
abbrev pub succeeded : ConnectionManager → ConnectionManager
succeeded m = if begins_next m.generations then reconnected (with_generations m (begun m.generations)) else m

-- what subscribes again is to be answered within so many milliseconds, if within any
abbrev pub resubscription_timed : ConnectionManager → Option ℕ → ConnectionManager
resubscription_timed m None = m
resubscription_timed m (Some ms) = said m (act.Timer (timer.Resubscription (link_of m.generations)) ms)

-- all names that are subscribed now are subscribed again, by one message
abbrev pub resubscribes : ConnectionManager → ConnectionManager
resubscribes m =
    let p = resubscription m.tracker.held in
    resubscription_timed (record m { conn = asked_inside m.conn resubscription_name (pack_pipeline p) (shape_inside (length p.commands)) }) m.generations.settings.config.connection.response_timeout

-- so it is once the link is set up, where the generation subscribes again
abbrev pub resubscription_begun : ConnectionManager → ConnectionManager
resubscription_begun m = if is_resubscribing m.generations.phase && (length m.conn.requests == 0) then resubscribes m else m

-- what follows of the effect: those are answered that waited for a link that has ended, the next generation begins where a cause
-- came, and what was subscribed is subscribed again
abbrev pub settled : ConnectionManager → ConnectionManager
settled m = resubscription_begun (succeeded (loss_answered m))

-- a request is handed to the link
abbrev pub handed : ConnectionManager → HeldRequest → ConnectionManager
handed m q =
    let link = link_of m.generations in
    said (record m {
      conn = asked m.conn q.number q.packed q.shape q.awaited m.generations.settings.config.connection.response_timeout;
      stages = slice_set m.stages q.number (stage.Sent link (length m.conn.requests));
    }) (act.Round (pending q.number) link)

-- and moved as far as it can go
abbrev pub advanced : ConnectionManager → ℕ → ℕ → ConnectionManager
advanced m draw p = moved_on m draw (passes.advanced (work_with m.conn []) p)

abbrev pub round : ConnectionManager → ℕ → HeldRequest → ConnectionManager
round m draw q = if is_held_at m.stages q.number then advanced (handed m q) draw (length m.conn.requests) else m

abbrev pub round_each : ConnectionManager → ℕ → List HeldRequest → ConnectionManager
round_each m draw [] = m
round_each m draw (q ∷ qs) = round_each (round m draw q) draw qs

-- those that waited for the generation have their rounds in order, once it is ready
abbrev pub rounds : ConnectionManager → ℕ → ConnectionManager
rounds m draw = if is_ready m.generations.phase then round_each (nobody_held m) draw m.held else m

-- requests are moved as far as they can go
abbrev pub connection_passed : ConnectionManager → ℕ → ConnectionManager
connection_passed m draw = moved_on m draw (passes.passed (work_with m.conn []))

abbrev pub passed : ConnectionManager → ℕ → ConnectionManager
passed m draw = rounds (connection_passed m draw) draw

-- what those wait for that wait for their generation, whose link has come so far
abbrev pub held_wait : Phase → Life → Option WaitKind
held_wait Opening life = Some (conn_turn.early_wait life)
held_wait Resting life = Some wait.Backoff
held_wait Resubscribing life = Some wait.Resubscribe
held_wait Idle life = None
held_wait Ready life = None
held_wait Lost life = None
held_wait (Failed e) life = None

abbrev pub wait_shown : ConnectionManager → WaitKind → ℕ → ConnectionManager
wait_shown m kind p = if is_held_at m.stages p then said m (act.Wait (pending p) kind) else m

abbrev pub wait_shown_each : ConnectionManager → WaitKind → List ℕ → ConnectionManager
wait_shown_each m kind [] = m
wait_shown_each m kind (p ∷ ps) = wait_shown_each (wait_shown m kind p) kind ps

abbrev pub numbers_of : List HeldRequest → List ℕ
numbers_of [] = []
numbers_of (q ∷ qs) = q.number ∷ numbers_of qs

-- this wait was shown before
abbrev pub is_shown : Option WaitKind → WaitKind → Bool
is_shown None kind = false
is_shown (Some before) kind = wait_code before == wait_code kind

-- whose wait is to be shown: of all where it changed, and else of those that came in this turn
abbrev pub to_show : ConnectionManager → WaitKind → List ℕ
to_show m kind = if is_shown m.wait kind then m.fresh else numbers_of m.held

-- the wait of those that wait for their generation is this one from now on
abbrev pub with_wait : ConnectionManager → Option WaitKind → ConnectionManager
with_wait m kind = record m { wait = kind; fresh = [] }

abbrev pub held_shown_as : ConnectionManager → Option WaitKind → ConnectionManager
held_shown_as m None = with_wait m None
held_shown_as m (Some kind) = wait_shown_each (with_wait m (Some kind)) kind (to_show m kind)

abbrev pub held_shown : ConnectionManager → ConnectionManager
held_shown m = held_shown_as m (held_wait m.generations.phase m.conn.life)

-- what a turn ends with: the link's one write, and the waits that began
abbrev pub flushed : ConnectionManager → ℕ → ConnectionManager
flushed m draw = held_shown (moved_on m draw (conn_turn.flushed (work_with m.conn [])))

-- as a turn begins, nobody has got an outcome in it
abbrev pub started : ConnectionManager → ConnectionManager
started m = record m { recent = [] }

-- a whole turn
abbrev pub turned : ConnectionManager → ℕ → Happening → ConnectionManager
turned m draw what = flushed (passed (settled (applied m draw what)) draw) draw

-- behind it, nothing is to be shown
abbrev pub stepped : ConnectionManager → ℕ → Happening → ConnectionManager
stepped m draw what = let n = turned (started m) draw what in with_generations n (record n.generations { acts = [] })
