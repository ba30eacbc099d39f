-- What the effects of a turn are: what the acts of its connection show, and the generations, links and timers of a manager.
use Rattle.std.proofs.Common.{Bool, true, false, ℕ, List, [], ◌∷◌, ◌++◌, ◌+◌, length, Option, Some, None}
use Rattle.std.specs.Prelude.{is_some}
use Rattle.containers.proofs.Choices.{chosen}
use Rattle.manager_config.specs.declared.config.ConnectionManagerConfig.{ConnectionManagerConfig}
use Rattle.connection_info.specs.declared.address.ConnectionInfo.{ConnectionInfo}
use Rattle.driver_model.specs.declared.action.Action.{Action}
use Rattle.driver_model.specs.declared.action.Action.TheVariants as action
use Rattle.driver_model.specs.declared.action.Purpose.{Purpose}
use Rattle.driver_model.specs.declared.event.Event.{Event}
use Rattle.mux_conn.specs.declared.act.LinkAct.{LinkAct}
use Rattle.single_session.specs.declared.core_state.Core.{Core}
use Rattle.single_session.specs.declared.generations.Comeback.{Comeback}
use Rattle.single_session.specs.declared.generations.Comeback.TheVariants as comeback
use Rattle.single_session.specs.declared.generations.Generations.{Generations}
use Rattle.single_session.specs.Generations.{connect_timed, comeback_shown_in}
use Rattle.single_session.specs.Turn.{timer_of, source_of, shown, shown_each, next_turn, comeback_by, last_acts, return_shown, shown_behind, effects_of}
use Rattle.single_session.specs.Replay.{connect_asked, begun_as}

-- each of these actions is so
abbrev pub EachIs : (Action → Type 0) → List Action → Type 0
EachIs Q [] = Unit {0}
EachIs Q (a ∷ more) = Q a × EachIs Q more

pub each_append : (Q : Action → Type 0) (xs ys : List Action) → EachIs Q xs → EachIs Q ys → EachIs Q (xs ++ ys)
each_append Q [] ys first second = second
each_append Q (x ∷ xs) ys first second = (first.0, each_append Q xs ys first.1 second)

-- what is true of whatever a connection shows, and of what a manager shows of its own
pub record IsTrueOfEffects (Q : Action → Type 0) : Type 0 where
  pub shows : (l t c : ℕ) (x : LinkAct) → Q (shown l t c x)
  pub generation : (g : ℕ) → Q (action.Generation g)
  pub connect : (l : ℕ) (host : List ℕ) (port : ℕ) → Q (action.Connect l host port)
  pub timer : (t ms : ℕ) (what : Purpose) → Q (action.Timer t ms what)
  pub lazy : Q (action.Created None)

module _ (Q : Action → Type 0) (h : IsTrueOfEffects Q) where
  each_shown : (l t c : ℕ) (acts : List LinkAct) → EachIs Q (shown_each l t c acts)
  each_shown l t c [] = tt
  each_shown l t c (x ∷ acts) = (h.shows l t c x, each_shown l (t + length (timer_of l x)) (c + length (source_of l x)) acts)

  each_timed : (l t : ℕ) (bound : Option ℕ) → EachIs Q (connect_timed l t bound)
  each_timed l t None = tt
  each_timed l t (Some ms) = (h.timer t ms _, tt)

  each_own : (m : Option Generations) (word : ℕ) (what : Comeback) → EachIs Q (comeback_shown_in m word what)
  each_own None word what = tt
  each_own (Some g) word comeback.Stays = tt
  each_own (Some g) word (comeback.Rests n a t) = (h.timer t _ _, tt)
  each_own (Some g) word (comeback.Dials l None t) = (h.connect l g.info.host g.info.port, each_timed l t g.settings.connection.connection_timeout)
  each_own (Some g) word (comeback.Dials l (Some n) t) = (h.generation n, (h.connect l g.info.host g.info.port, each_timed l t g.settings.connection.connection_timeout))

  each_return : (c : Core) (word : ℕ) (what : Comeback) (acts : List LinkAct) → EachIs Q (return_shown c word what acts)
  each_return c word what acts =
      each_append Q (comeback_shown_in c.manager word what) (shown_behind c acts) (each_own c.manager word what) (each_shown c.single.link (length c.timers) (length c.sources) acts)

  -- so it is of the effects of each turn
  pub each_effect : (c : Core) (e : Event) → EachIs Q (effects_of c e)
  each_effect c e =
      let first = shown_each c.single.link (length c.timers) (length c.sources) (next_turn c e.kind).acts in
      let back = return_shown (next_turn c e.kind).core e.word (comeback_by c e.kind) (last_acts c e.kind) in
      let shows = each_shown c.single.link (length c.timers) (length c.sources) (next_turn c e.kind).acts in
      chosen (EachIs Q) (is_some c.manager) (first ++ back) first
      (λ _. each_append Q first back shows (each_return (next_turn c e.kind).core e.word (comeback_by c e.kind) (last_acts c e.kind))) (λ _. shows)

  each_asked : (info : Option ConnectionInfo) (timeout : Option ℕ) → EachIs Q (connect_asked info timeout)
  each_asked None timeout = tt
  each_asked (Some info) None = (h.connect _ info.host info.port, tt)
  each_asked (Some info) (Some ms) = (h.connect _ info.host info.port, (h.timer _ ms _, tt))

  -- and of what the opening shows behind its first action
  pub each_begun : (manager : Option ConnectionManagerConfig) (lazy : Bool) (info : Option ConnectionInfo) (timeout : Option ℕ) → EachIs Q (begun_as manager lazy (connect_asked info timeout))
  each_begun None lazy info timeout = each_asked info timeout
  each_begun (Some s) false info timeout = (h.generation 1, each_asked info timeout)
  each_begun (Some s) true info timeout = (h.lazy, tt)
