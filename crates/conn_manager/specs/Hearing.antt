-- What the acts of its connection are to a manager.
use Rattle.std.specs.Prelude.{ℕ, ◌-◌, ◌^◌, ◌==◌, Bool, true, false, not, List, [], ◌∷◌, length, Option, None, Some, if◌then◌else◌}
use Rattle.redis_error.specs.declared.redis_error.RedisError.{RedisError}
use Rattle.driver_model.specs.declared.outcome.Outcome.{Outcome}
use Rattle.driver_model.specs.declared.action.WaitKind.{WaitKind}
use Rattle.driver_model.specs.News.{News, silence, connected, refused, overdue, took, came, failed, authorized, denied, deserted, renewed, unrenewed, late, unrepeated, dropped, shut}
use Rattle.mux_conn.specs.declared.act.LinkAct.{LinkAct}
use Rattle.mux_conn.specs.declared.act.LinkAct.TheVariants as link_act
use Rattle.mux_conn.specs.Connection.{Work, work_with}
use Rattle.mux_conn.specs.Effects as effects
use Rattle.sub_tracker.specs.Held.{Held}
use Rattle.sub_tracker.specs.Pipeline.{resubscription}
use Rattle.manager_generations.specs.declared.act.ManagerAct.TheVariants as act
use Rattle.manager_generations.specs.declared.act.ManagerTimer.TheVariants as timer
use Rattle.conn_manager.specs.declared.manager.ConnectionManager.{ConnectionManager}
use Rattle.manager_generations.specs.Generations as generations
use Rattle.conn_manager.specs.Manager.{pending, with_generations, said, link_of, answered, failure_answered}

-- the name of the request that subscribes again: no other has it
abbrev pub resubscription_name : ℕ
resubscription_name = 2 ^ 32 - 1

-- some name is subscribed
abbrev pub has_names : Held → Bool
has_names h = not (length (resubscription h).commands == 0)

-- the link is set up
abbrev pub set_up : ConnectionManager → ConnectionManager
set_up m = with_generations m (generations.set_up m.generations (has_names m.tracker.held))

-- the opening of the link fails; where it was the last attempt, those that wait are answered
abbrev pub opening_failed : ConnectionManager → RedisError → ℕ → ConnectionManager
opening_failed m e draw = failure_answered (with_generations m (generations.attempt_failed m.generations e draw))

-- it is set up, or its opening fails
abbrev pub opened : ConnectionManager → ℕ → Option RedisError → ConnectionManager
opened m draw None = set_up m
opened m draw (Some e) = opening_failed m e draw

-- what was subscribed is subscribed again, whatever was answered
abbrev pub resubscribed : ConnectionManager → ConnectionManager
resubscribed m = with_generations m (generations.resubscribed m.generations)

-- the link is closed
abbrev pub closed : ConnectionManager → ConnectionManager
closed m = let n = said m (act.Close (link_of m.generations)) in with_generations n (generations.lost n.generations)

-- a request of the connection is answered
abbrev pub came_to : ConnectionManager → ℕ → Outcome → ConnectionManager
came_to m p o = if p == resubscription_name then resubscribed m else answered m p o

-- a request of the connection waits
abbrev pub waits : ConnectionManager → ℕ → WaitKind → ConnectionManager
waits m p kind = if p == resubscription_name then m else said m (act.Wait (pending p) kind)

-- its message starts
abbrev pub starts : ConnectionManager → ℕ → ℕ → ℕ → ℕ → ConnectionManager
starts m message p need len =
    let link = link_of m.generations in
    if p == resubscription_name then said m (act.Resubscribe link message need len) else said m (act.Start link message (pending p) need len)

-- an act of the connection; messages of publish/subscribe and what a server in monitor mode tells don't come on its links, rounds are
-- shown as requests are handed to them, and what subscribes again is a request of its own
abbrev pub noted : ConnectionManager → ℕ → LinkAct → ConnectionManager
noted m draw (link_act.Created e) = opened m draw e
noted m draw (link_act.Round p) = m
noted m draw (link_act.Took p count) = said m (act.Took (pending p) count)
noted m draw (link_act.Timer p ms) = said m (act.Timer (timer.Response (pending p)) ms)
noted m draw (link_act.RenewalTimer k ms) = said m (act.Timer (timer.Renewal (link_of m.generations) k) ms)
noted m draw (link_act.RepeatTimer ms) = m
noted m draw link_act.NeedCreds = said m (act.NeedCreds (link_of m.generations))
noted m draw link_act.NeedRenewals = said m (act.NeedCreds (link_of m.generations))
noted m draw (link_act.Push info) = said m (act.Push (link_of m.generations) info)
noted m draw (link_act.Message msg) = m
noted m draw (link_act.Monitor v) = m
noted m draw (link_act.Watch message need len) = m
noted m draw link_act.Close = closed m
noted m draw (link_act.Write bytes) = said m (act.Write (link_of m.generations) bytes)
noted m draw (link_act.Wait p kind) = waits m p kind
noted m draw (link_act.Start message p need len) = starts m message p need len
noted m draw (link_act.SetUp message need len) = said m (act.SetUp (link_of m.generations) message need len)
noted m draw (link_act.Renewed message need len) = said m (act.Renewed (link_of m.generations) message need len)
noted m draw (link_act.Repeated message need len) = m
noted m draw (link_act.Outcome p o) = came_to m p o

-- an act that changes nothing of the manager's own: it is passed on, or let go
abbrev pub is_passed_on : LinkAct → Bool
is_passed_on (link_act.Created e) = false
is_passed_on link_act.Close = false
is_passed_on (link_act.Wait p kind) = false
is_passed_on (link_act.Start message p need len) = false
is_passed_on (link_act.Outcome p o) = false
is_passed_on _ = true

-- and the manager says it as its own
abbrev pub is_said : LinkAct → Bool
is_said (link_act.Took p count) = true
is_said (link_act.Timer p ms) = true
is_said (link_act.RenewalTimer k ms) = true
is_said link_act.NeedCreds = true
is_said link_act.NeedRenewals = true
is_said (link_act.Push info) = true
is_said (link_act.Write bytes) = true
is_said (link_act.SetUp message need len) = true
is_said (link_act.Renewed message need len) = true
is_said _ = false

-- its acts, in order
abbrev pub noted_each : ConnectionManager → ℕ → List LinkAct → ConnectionManager
noted_each m draw [] = m
noted_each m draw (a ∷ more) = noted_each (noted m draw a) draw more

-- the connection has come so far, by these acts
abbrev pub moved_on : ConnectionManager → ℕ → Work → ConnectionManager
moved_on m draw w = noted_each (record m { conn = w.conn }) draw w.acts

-- news of its link has its effect on the connection
abbrev pub affected : ConnectionManager → ℕ → News → ConnectionManager
affected m draw news = moved_on m draw (effects.applied (work_with m.conn []) news)

-- the time of a request of the connection is over
abbrev pub timed_out : ConnectionManager → ℕ → ℕ → ConnectionManager
timed_out m draw p = moved_on m draw (effects.timed_out (work_with m.conn []) p)

-- a link is told that everything is closed
abbrev pub is_shutting : News → Bool
is_shutting shut = true
is_shutting silence = false
is_shutting connected = false
is_shutting (refused f) = false
is_shutting overdue = false
is_shutting (took count) = false
is_shutting (came piece) = false
is_shutting (failed f) = false
is_shutting (authorized c) = false
is_shutting (denied text) = false
is_shutting deserted = false
is_shutting (renewed c) = false
is_shutting unrenewed = false
is_shutting (late k) = false
is_shutting unrepeated = false
is_shutting dropped = false
