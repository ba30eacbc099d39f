-- Runs of managers, and what each of their turns shows.
use Rattle.std.specs.Prelude.{ℕ, pos, true, List, [], ◌∷◌, None, Some, codes}
use Rattle.std.proofs.Common.{lit<}
use Rattle.resp_value.specs.Data.{bulk, int}
use Rattle.resp_value.specs.declared.push_kind.PushKind.TheVariants.{Subscribe, Disconnection}
use Rattle.resp_write.specs.Pack.{pack}
use Rattle.resp_write.specs.declared.subscription.SubscriptionAction.TheVariants as action
use Rattle.redis_error.specs.declared.fault_kind.FaultKind.TheVariants.{Refused}
use Rattle.redis_error.specs.declared.redis_error.RedisError.TheVariants as error
use Rattle.connection_info.specs.Config.{default_config}
use Rattle.connection_info.specs.declared.address.RedisConnectionInfo.{RedisConnectionInfo}
use Rattle.connection_info.specs.declared.protocol.ProtocolVersion.{ProtocolVersion}
use Rattle.driver_model.specs.declared.news.LinkFault.TheVariants as fault
use Rattle.driver_model.specs.declared.outcome.Shape.TheVariants.{Single}
use Rattle.driver_model.specs.News.{refused, connected, took, came, failed}
use Rattle.manager_config.specs.Config.{default_manager}
use Rattle.manager_generations.specs.declared.act.ManagerAct.{ManagerAct}
use Rattle.manager_generations.specs.declared.act.ManagerAct.TheVariants as act
use Rattle.manager_generations.specs.declared.act.ManagerTimer.TheVariants as timer
use Rattle.driver_model.specs.declared.action.WaitKind.TheVariants as wait
use Rattle.manager_generations.specs.declared.settings.Settings.{Settings}
use Rattle.mux_client.specs.Events.{nothing, on_link, rest_over}
use Rattle.conn_manager.specs.Manager.{pending}
use Rattle.conn_manager.specs.Runs.{Step, sends, calls, turns}

-- a server that is told its protocol alone
abbrev pub told : ProtocolVersion → RedisConnectionInfo
told protocol = record { db = pos 0; username = None; password = None; protocol = protocol; skip_set_lib_name = true }

-- no times, and so many attempts after the first
abbrev pub trying : ℕ → Settings
trying retries = record {
  config = record default_manager { connection = record default_config { connection_timeout = None; response_timeout = None }; number_of_retries = retries };
  divides = lit< tt;
}

-- GET of this key
abbrev pub get : List ℕ → List ℕ
get key = pack (codes "GET" ∷ key ∷ [])

-- it is sent
abbrev pub asks_for : List ℕ → Step
asks_for key = sends (get key) Single true

abbrev pub get_a : Step
get_a = asks_for (codes "a")

abbrev pub refusal : ℕ → Step
refusal link = turns 0 (on_link link (refused Refused))

-- A lazy manager whose only attempt is refused: its first request is answered with that, and for the next one it connects anew.
abbrev pub lazy_steps : List Step
lazy_steps = get_a ∷ turns 0 nothing ∷ refusal 0 ∷ []

abbrev pub lazy_shows : List (List ManagerAct)
lazy_shows =
    (act.Created None ∷ act.Generation 1 ∷ act.Connect 0 ∷ act.Wait (pending 0) wait.Connect ∷ [])
    ∷ (act.Answered (pending 0) ∷ act.Generation 2 ∷ act.Connect 1 ∷ [])
    ∷ []

-- One with two attempts, both of which are refused: it waits between them, and then its creation has failed. So a request is
-- answered with that error, and nothing begins any more.
abbrev pub refused_steps : List Step
refused_steps =
    turns 0 nothing ∷ turns 250 (on_link 0 (refused Refused)) ∷ turns 0 (rest_over 1 0) ∷ refusal 1 ∷ get_a ∷ turns 0 nothing ∷ []

abbrev pub refused_shows : List (List ManagerAct)
refused_shows =
    (act.Generation 1 ∷ act.Connect 0 ∷ [])
    ∷ (act.Timer (timer.Backoff 1 0) 50 ∷ [])
    ∷ (act.Connect 1 ∷ [])
    ∷ (act.Created (Some (error.Io Refused)) ∷ [])
    ∷ (act.Answered (pending 0) ∷ [])
    ∷ []

-- on RESP3 pushes are heard, and what was subscribed is subscribed again
abbrev pub subscribing : Settings
subscribing = record {
  config = record default_manager { connection = record default_config { connection_timeout = None; response_timeout = None; push_sender = true }; automatic_resubscription = true };
  divides = lit< tt;
}

-- HELLO 3, and SUBSCRIBE c
abbrev pub hello : List ℕ
hello = pack (codes "HELLO" ∷ codes "3" ∷ [])

abbrev pub subscribe_c : List ℕ
subscribe_c = pack (codes "SUBSCRIBE" ∷ codes "c" ∷ [])

-- the confirmation of SUBSCRIBE c
abbrev pub confirmation : List ℕ
confirmation = codes ">3\r\n$9\r\nsubscribe\r\n$1\r\nc\r\n:1\r\n"

-- A channel is subscribed; two requests are under way as the link ends; a third comes; the next link is set up, and is subscribed
-- again before it takes the third.
abbrev pub subscribing_steps : List Step
subscribing_steps =
    turns 0 nothing
    ∷ turns 0 (on_link 0 connected)
    ∷ turns 0 (on_link 0 (took 22))
    ∷ turns 0 (on_link 0 (came (codes "%0\r\n")))
    ∷ calls action.Subscribe (codes "c" ∷ [])
    ∷ turns 0 nothing
    ∷ turns 0 (on_link 0 (took 26))
    ∷ turns 0 (on_link 0 (came confirmation))
    ∷ get_a
    ∷ turns 0 nothing
    ∷ asks_for (codes "b")
    ∷ turns 0 nothing
    ∷ turns 0 (on_link 0 (failed fault.Ended))
    ∷ asks_for (codes "d")
    ∷ turns 0 nothing
    ∷ turns 0 (on_link 1 connected)
    ∷ turns 0 (on_link 1 (came (codes "%0\r\n")))
    ∷ turns 0 (on_link 1 (came confirmation))
    ∷ []

abbrev pub confirmed : ℕ → ManagerAct
confirmed link = act.Push link (record { kind = Subscribe; parts = bulk (codes "c") ∷ int (pos 1) ∷ [] })

abbrev pub subscribing_shows : List (List ManagerAct)
subscribing_shows =
    (act.Generation 1 ∷ act.Connect 0 ∷ [])
    ∷ (act.SetUp 0 0 1 22 ∷ act.Write 0 hello ∷ [])
    ∷ []
    ∷ (act.Created None ∷ [])
    ∷ (act.Round (pending 0) 0 ∷ act.Start 0 1 (pending 0) 1 26 ∷ act.Write 0 subscribe_c ∷ [])
    ∷ []
    ∷ (confirmed 0 ∷ act.Answered (pending 0) ∷ [])
    ∷ (act.Round (pending 1) 0 ∷ act.Start 0 2 (pending 1) 1 20 ∷ act.Write 0 (get (codes "a")) ∷ [])
    ∷ (act.Round (pending 2) 0 ∷ act.Start 0 3 (pending 2) 1 20 ∷ [])
    ∷ (act.Close 0 ∷ act.Push 0 (record { kind = Disconnection; parts = [] }) ∷ act.Answered (pending 1) ∷ act.Answered (pending 2) ∷ act.Generation 2 ∷ act.Connect 1 ∷ [])
    ∷ (act.Wait (pending 3) wait.Connect ∷ [])
    ∷ (act.SetUp 1 0 1 22 ∷ act.Write 1 hello ∷ act.Wait (pending 3) wait.Setup ∷ [])
    ∷ (act.Resubscribe 1 1 1 26 ∷ act.Wait (pending 3) wait.Resubscribe ∷ [])
    ∷ (confirmed 1 ∷ act.Round (pending 3) 1 ∷ act.Start 1 2 (pending 3) 1 20 ∷ [])
    ∷ []
