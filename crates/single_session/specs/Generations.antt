-- How a manager comes back: its links follow one another, as attempts of generations.
use Rattle.std.specs.Prelude.{◌≡◌, ◌<◌, ◌≤◌, ℕ, ◌+◌, ◌-◌, ◌^◌, ◌==◌, nat_lt, nat_le, Bool, true, false, ◌&&◌, ◌||◌, not, List, [], ◌∷◌, ◌++◌, length, Option, Some, None, is_some, option_map, if◌then◌else◌}
use Rattle.connection_info.specs.declared.address.ConnectionInfo.{ConnectionInfo}
use Rattle.connection_info.specs.Protocol.{is_resp3}
use Rattle.resp_value.specs.ErrorTable.{needs_new_link}
use Rattle.redis_error.specs.declared.redis_error.RedisError.{RedisError}
use Rattle.redis_error.specs.Errors.{error_method, is_io}
use Rattle.manager_config.specs.declared.config.ConnectionManagerConfig.{ConnectionManagerConfig}
use Rattle.manager_config.specs.Backoff.{backoff}
use Rattle.driver_model.specs.declared.action.Action.{Action}
use Rattle.driver_model.specs.declared.action.Action.TheVariants as action
use Rattle.driver_model.specs.declared.action.Purpose.{Purpose}
use Rattle.driver_model.specs.declared.action.Purpose.TheVariants as purpose
use Rattle.driver_model.specs.declared.event.EventKind.{EventKind}
use Rattle.driver_model.specs.declared.event.EventKind.TheVariants as event
use Rattle.driver_model.specs.declared.outcome.Outcome.{Outcome}
use Rattle.driver_model.specs.declared.outcome.Outcome.TheVariants as outcome
use Rattle.mux_conn.specs.declared.act.LinkAct.{LinkAct}
use Rattle.mux_conn.specs.declared.act.LinkAct.TheVariants as act
use Rattle.mux_conn.specs.declared.again.Again.{Again}
use Rattle.mux_conn.specs.declared.again.Again.TheVariants as again
use Rattle.mux_conn.specs.declared.connection.MultiplexedConnection.{MultiplexedConnection}
use Rattle.mux_conn.specs.declared.life.Life.{Life}
use Rattle.mux_conn.specs.declared.life.Life.TheVariants.{Resting, Dialing, Wanting, SettingUp, Ready, Ended}
use Rattle.mux_conn.specs.Connection.{is_resting, is_outstanding, is_used_up}
use Rattle.mux_conn.specs.Effects.{afresh, dialled}
use Rattle.single_session.specs.declared.core_state.Core.{Core}
use Rattle.single_session.specs.declared.generations.Comeback.{Comeback}
use Rattle.single_session.specs.declared.generations.Comeback.TheVariants as comeback
use Rattle.single_session.specs.declared.generations.Generations.{Generations}
use Rattle.single_session.specs.Subscriptions.{no_subscriptions, informed, repeat_after}

-- so many generations began of a manager that behaves so, and connects there; no attempt has failed, and nothing is subscribed
abbrev pub generations_at : ConnectionManagerConfig → ConnectionInfo → ℕ → Generations
generations_at settings info number = record { settings = settings; info = info; number = number; attempt = 0; rest = None; halted = false; subscribed = no_subscriptions }

-- no attempt of a generation follows one behind so many that failed
abbrev pub is_last : ConnectionManagerConfig → ℕ → Bool
is_last settings attempt = nat_le settings.number_of_retries attempt

-- the wait is over once its timer fires
abbrev pub is_timer : Option ℕ → ℕ → Bool
is_timer None t = false
is_timer (Some rest) t = rest == t

-- the wait behind a failed attempt is over
abbrev pub wakes : Generations → EventKind → Bool
wakes g (event.Fired t) = is_timer g.rest t
wakes g _ = false

-- so it is of a manager
abbrev pub wakes_in : Option Generations → EventKind → Bool
wakes_in None kind = false
wakes_in (Some g) kind = wakes g kind

-- it shows that the creation failed
abbrev pub fails_creation : LinkAct → Bool
fails_creation (act.Created e) = is_some e
fails_creation _ = false

-- one of these does
abbrev pub creation_fails : List LinkAct → Bool
creation_fails [] = false
creation_fails (a ∷ more) = fails_creation a || creation_fails more

-- an event came, which showed these acts: a wait may be over, or the creation have failed, behind which no generation begins; and
-- subscription calls may be handed in, or confirmed
abbrev pub heeded : Generations → EventKind → List LinkAct → Generations
heeded g kind acts = record g { rest = if wakes g kind then None else g.rest; halted = g.halted || creation_fails acts; subscribed = informed g.subscribed kind acts }

abbrev pub heeding : Core → EventKind → List LinkAct → Core
heeding c kind acts = record c { manager = option_map (λ g. heeded g kind acts) c.manager }

-- its link has ended
abbrev pub has_ended : Life → Bool
has_ended Resting = false
has_ended Dialing = false
has_ended (Wanting link) = false
has_ended (SettingUp link greeting) = false
has_ended (Ready link) = false
has_ended (Ended e) = true

-- the error of a request is a cause for the next generation, where its link has ended: an error that only a new link helps; and
-- where the link was never set up, so that the opening failed with this error, one of input and output
abbrev pub is_cause : Bool → RedisError → Bool
is_cause opened e = if opened then needs_new_link (error_method e) else is_io e

-- an outcome is one
abbrev pub is_cause_in : Bool → Outcome → Bool
is_cause_in opened (outcome.Fault e) = is_cause opened e
is_cause_in opened (outcome.One value) = false
is_cause_in opened (outcome.Many values) = false
is_cause_in opened outcome.Done = false

-- an act shows one
abbrev pub shows_cause : Bool → LinkAct → Bool
shows_cause opened (act.Outcome n o) = is_cause_in opened o
shows_cause opened _ = false

abbrev pub has_cause : Bool → List LinkAct → Bool
has_cause opened [] = false
has_cause opened (a ∷ more) = shows_cause opened a || has_cause opened more

-- where a link has ended, it took requests until then: it was set up, and what was subscribed again was answered, if anything was
abbrev pub took_requests : MultiplexedConnection → Bool
took_requests c = c.opened && not (is_outstanding c.again)

-- there is a cause for the next generation: the link has ended, and, unless it was over before, it took requests, on RESP3; or a
-- request was answered with such an error
abbrev pub is_caused : Bool → MultiplexedConnection → List LinkAct → Bool
is_caused over c acts = has_ended c.life && (((not over && took_requests c) && is_resp3 c.info.protocol) || has_cause c.opened acts)

-- the next generation is to begin: the first one with the first request, and another one where there is a cause; none once the
-- creation has failed
abbrev pub is_due : Generations → Bool → MultiplexedConnection → List LinkAct → Bool
is_due g over c acts = not g.halted && (if g.number == 0 then not (length c.waiting == 0) else is_caused over c acts)

-- an attempt failed that another one follows: a link was asked for, and there is none any more
abbrev pub rests : Core → Bool
rests c = is_resting c.single.connection.life && nat_lt c.single.link c.links

-- what a manager does of its own where its wait is over or not, and its link was over before the event or not, which showed these
-- acts: it rests behind an attempt that failed; the next attempt begins; a generation does; nothing once a number has run out, and, but
-- for the first of these, once everything was shut down
abbrev pub comeback_of : Generations → Bool → Bool → Core → List LinkAct → Comeback
comeback_of g woken over c acts =
    if is_used_up c.single.connection then comeback.Stays
    else if rests c then comeback.Rests g.number g.attempt (length c.timers)
    else if c.shut then comeback.Stays
    else if woken then comeback.Dials c.links None (length c.timers)
    else if is_due g over c.single.connection acts then comeback.Dials c.links (Some (g.number + 1)) (length c.timers) else comeback.Stays

abbrev pub comeback_in : Option Generations → Bool → Bool → Core → List LinkAct → Comeback
comeback_in None woken over c acts = comeback.Stays
comeback_in (Some g) woken over c acts = comeback_of g woken over c acts

-- behind that attempt the timer of the wait is asked for, and requests wait for the next link
abbrev pub failed_behind : Generations → ℕ → ℕ → Generations
failed_behind g attempt timer = record g { attempt = attempt + 1; rest = Some timer }

abbrev pub rested : Core → ℕ → ℕ → ℕ → Core
rested c number attempt timer = record c {
  manager = option_map (λ g. failed_behind g attempt timer) c.manager;
  timers = c.timers ++ purpose.Backoff number ∷ [];
  single = record c.single { link = c.links };
}

-- that generation begins, of which no attempt has failed: of the link before it nothing stays but the requests that wait
abbrev pub begun_with : Generations → ℕ → Generations
begun_with g number = record g { number = number; attempt = 0; rest = None }

abbrev pub begun : Core → ℕ → Core
begun c number = record c {
  manager = option_map (λ g. begun_with g number) c.manager;
  single = record c.single { connection = afresh c.single.connection };
}

-- how many milliseconds a connect may take, if that is bounded
abbrev pub bound_of : Option Generations → Option ℕ
bound_of None = None
bound_of (Some g) = g.settings.connection.connection_timeout

-- the attempt that begins is the last one of its generation
abbrev pub is_last_of : Option Generations → Bool
is_last_of None = true
is_last_of (Some g) = is_last g.settings g.attempt

-- what the timer of the connect of a link is for, where connects are bounded
abbrev pub connect_purposes : ℕ → Option ℕ → List Purpose
connect_purposes l None = []
connect_purposes l (Some ms) = purpose.Connect l ∷ []

-- what is subscribed again on the next link: all that is subscribed, where the manager does so
abbrev pub repeat_for : Generations → Again
repeat_for g = if g.settings.automatic_resubscription then repeat_after g.subscribed else again.Nothing

abbrev pub repeat_in : Option Generations → Again
repeat_in None = again.Nothing
repeat_in (Some g) = repeat_for g

-- that link is asked for
abbrev pub dialling : Core → ℕ → Core
dialling c l = record c {
  links = c.links + 1;
  timers = c.timers ++ connect_purposes l (bound_of c.manager);
  single = record { link = l; connection = dialled c.single.connection (is_last_of c.manager) (repeat_in c.manager) };
}

-- what it does of its own is done
abbrev pub came_back : Core → Comeback → Core
came_back c comeback.Stays = c
came_back c (comeback.Rests number attempt timer) = rested c number attempt timer
came_back c (comeback.Dials l None timer) = dialling c l
came_back c (comeback.Dials l (Some number) timer) = dialling (begun c number) l

-- that a generation begins is shown
abbrev pub generation_shown : Option ℕ → List Action
generation_shown None = []
generation_shown (Some number) = action.Generation number ∷ []

-- the timer of a connect is asked for, where that is bounded
abbrev pub connect_timed : ℕ → ℕ → Option ℕ → List Action
connect_timed l timer None = []
connect_timed l timer (Some ms) = action.Timer timer ms (purpose.Connect l) ∷ []

-- what shows it, in a turn of this word: the timer of a wait as long as the attempt and the word say; or the generation, the link and
-- the timer of its connect
abbrev pub comeback_shown : Generations → ℕ → Comeback → List Action
comeback_shown g word comeback.Stays = []
comeback_shown g word (comeback.Rests number attempt timer) = action.Timer timer (backoff g.settings attempt word) (purpose.Backoff number) ∷ []
comeback_shown g word (comeback.Dials l number timer) = generation_shown number ++ action.Connect l g.info.host g.info.port ∷ connect_timed l timer g.settings.connection.connection_timeout

abbrev pub comeback_shown_in : Option Generations → ℕ → Comeback → List Action
comeback_shown_in None word what = []
comeback_shown_in (Some g) word what = comeback_shown g word what

-- no more generations began, and no more attempts of the current one failed, than there are links
abbrev pub AreFew : Option Generations → ℕ → ℕ → Type 0
AreFew None link links = link ≤ links
AreFew (Some g) link links = (link ≤ links) × (g.number ≤ links) × (g.attempt ≤ link)

abbrev pub IsCounted : Core → Type 0
IsCounted c = AreFew c.manager c.single.link c.links

-- the attempt that failed isn't the last one that has a number
abbrev pub IsRestable : Comeback → Type 0
IsRestable comeback.Stays = Unit {0}
IsRestable (comeback.Rests number attempt timer) = attempt < 2 ^ 32 - 1
IsRestable (comeback.Dials l number timer) = Unit {0}

-- the numbers of what is shown aren't too large
abbrev pub AreNumbers : Option ℕ → Option ℕ → ℕ → Type 0
AreNumbers number bound timer = ((n : ℕ) → number ≡ Some n → n < 2 ^ 32) × ((ms : ℕ) → bound ≡ Some ms → timer < 2 ^ 32)

abbrev pub IsShowable : Option ℕ → Comeback → Type 0
IsShowable bound comeback.Stays = Unit {0}
IsShowable bound (comeback.Rests number attempt timer) = timer < 2 ^ 32
IsShowable bound (comeback.Dials l number timer) = AreNumbers number bound timer

-- delays grow by a fraction
abbrev pub HasFraction : Option Generations → Type 0
HasFraction None = Unit {0}
HasFraction (Some g) = 0 < g.settings.exponent_base.1
