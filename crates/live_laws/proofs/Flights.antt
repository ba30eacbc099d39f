-- What a live run's history is, from its first line on.
use Rattle.std.proofs.Common.{◌≡◌, ℕ, List, [], ◌∷◌, ◌++◌, Option, sym, subst}
use Rattle.caller_threads.specs.Submits.{Line}
use Rattle.driver_model.specs.declared.config.Config.{Config}
use Rattle.driver_model.specs.declared.event.Event.{Event}
use Rattle.legal_laws.specs.Links.{IsPrefix}
use Rattle.legal_trace.specs.Ledger.{joined}
use Rattle.outside.specs.declared.world.Call.{Call}
use Rattle.session_callers.specs.Rule.{Each}
use Rattle.single_session.specs.Replay.{AreGood, AreUnspent, IsSound}
use Rattle.live_run.specs.Deeds.{IsGood, IsUnspent}
use Rattle.live_lines.specs.Flights.{IsFlight, IsOfLine}
use Rattle.live_lines.specs.declared.flying.Flight.{Flight}
use Rattle.live_lines.specs.declared.planning.Plan.{Plan}
use Rattle.live_laws.specs.Laws.{calls_of, link_in}
use Rattle.live_laws.specs.Taken.{AreUnwritten, IsNoWrote, taken}
use Rattle.live_laws.proofs.Fronts.{run_front}

-- lines tell of no taken bytes
none_wrote : (es : List Event) → Each IsOfLine es → AreUnwritten es
none_wrote [] h = tt
none_wrote (e ∷ es) h = (subst (λ (x : Event). IsNoWrote x.kind) (sym h.0.1) tt, none_wrote es h.1)

module _ (plan : Plan) (lines : List Line) (old new : Option (List Call)) (f : Flight) (flight : IsFlight plan lines old new f) where
  opened_sound : IsSound flight.opened.config
  opened_sound = subst IsSound (sym flight.submitted.config.0) flight.sound

  opened_good : IsGood flight.opened
  opened_good =
      subst (λ (word : ℕ). AreGood flight.opened.config word flight.opened.events) (sym flight.submitted.config.1)
      (subst (λ (config : Config). AreGood config flight.word flight.opened.events) (sym flight.submitted.config.0) flight.submitted.good)

  opened_unspent : IsUnspent flight.opened
  opened_unspent =
      subst (λ (word : ℕ). AreUnspent flight.opened.config word flight.opened.events) (sym flight.submitted.config.1)
      (subst (λ (config : Config). AreUnspent config flight.word flight.opened.events) (sym flight.submitted.config.0) flight.submitted.unspent)

  pub flight_front : (l : ℕ) → IsPrefix (taken l (calls_of flight.driven.run) ++ (link_in f.session l).offer) (joined (link_in f.session l).starts)
  flight_front l = run_front flight.driven.run l opened_sound opened_good opened_unspent (none_wrote flight.opened.events flight.submitted.only)

  pub flight_replays : IsSound f.session.config × IsGood f.session × IsUnspent f.session
  flight_replays = (subst IsSound (sym flight.driven.run.config_after) opened_sound, flight.driven.run.good opened_good, flight.driven.run.unspent opened_unspent)
