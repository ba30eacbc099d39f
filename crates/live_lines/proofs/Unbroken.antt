-- No live run breaks off for a bad event.
use Rattle.std.proofs.Common.{◌≡◌, ℕ, List, Option, sym, ◌∙◌, subst}
use Rattle.caller_threads.specs.Submits.{Line}
use Rattle.driver_model.specs.declared.action.Action.{Action}
use Rattle.driver_model.specs.declared.config.Config.{Config}
use Rattle.outside.specs.declared.world.Call.{Call}
use Rattle.session_laws.proofs.Turn.Legality.{bad_of_the_book, replay_legal}
use Rattle.shared_session.specs.History.{History}
use Rattle.single_session.specs.Replay.{AreGood, AreUnspent, IsSound, trace_of}
use Rattle.shared_session.specs.declared.errors.StepError.{StepError}
use Rattle.shared_session.specs.declared.errors.StepError.TheVariants.{BadEvent}
use Rattle.live_run.specs.Agenda.{agenda_of}
use Rattle.live_run.specs.Deeds.{Broke}
use Rattle.live_lines.specs.Flights.{AreSubmitted}
use Rattle.live_lines.specs.declared.planning.Plan.{Plan}
use Rattle.live_run.proofs.Good.{breaks_good}

pub none_broke : {old new : Option (List Call)} (plan : Plan) (word : ℕ) (lines : List Line) (numbers : List ℕ) (actions : List Action) (error : StepError) (before later : History) → IsSound plan.config
    → AreSubmitted plan word lines numbers before → actions ≡ trace_of plan.config word before.events → Broke error old new before later (agenda_of actions) → error ≡ BadEvent → ⊥
none_broke {old} {new} plan word lines numbers actions error before later sound submitted asked broke is =
    let config : plan.config ≡ before.config = sym submitted.config.0 in
    let same_word : word ≡ before.word = sym submitted.config.1 in
    let good : AreGood before.config before.word before.events = subst (λ (w : ℕ). AreGood before.config w before.events) same_word (subst (λ (c : Config). AreGood c word before.events) config submitted.good) in
    let unspent : AreUnspent before.config before.word before.events = subst (λ (w : ℕ). AreUnspent before.config w before.events) same_word (subst (λ (c : Config). AreUnspent c word before.events) config submitted.unspent) in
    let all : actions ≡ trace_of before.config before.word before.events = asked ∙ (λ i. trace_of (config i) (same_word i) before.events) in
    let still_sound : IsSound before.config = subst IsSound config sound in
    breaks_good before later (λ es still_good still_unspent. replay_legal before.config before.word es still_sound still_good still_unspent)
    (λ es e still_good still_unspent. bad_of_the_book before.config before.word es e still_sound still_good still_unspent) good unspent
    (subst (λ (xs : List Action). Broke BadEvent old new before later (agenda_of xs)) all (subst (λ (e : StepError). Broke e old new before later (agenda_of actions)) is broke))
