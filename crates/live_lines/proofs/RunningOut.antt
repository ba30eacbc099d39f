-- Behind which events numbers ran out.
use mathlib.Core.List.{IsPrefix}
use Rattle.std.proofs.Common.{◌≡◌, ℕ, ◌+◌, ◌<◌, ◌≤◌, refl, Option, None, List, [], ◌∷◌, ◌++◌, length, sym, ap, inl, inr, ◌∙◌, subst, arith}
use Rattle.std.proofs.lemmas.List.{append-nil}
use Rattle.caller_threads.specs.Each.{EachAt, AnyAt}
use Rattle.caller_threads.specs.Lines.{share}
use Rattle.caller_threads.specs.declared.job.Turn.{Turn}
use Rattle.caller_threads.specs.Submits.{Line, IsAllowed, IsTurnOf, HasTried, HaveStopped, IsCause}
use Rattle.driver_model.specs.Config.{kind_of}
use Rattle.driver_model.specs.declared.action.Action.{Action}
use Rattle.driver_model.specs.declared.config.Config.{Config}
use Rattle.driver_model.specs.declared.event.Event.{Event}
use Rattle.outside.specs.declared.world.Call.{Call}
use Rattle.session_callers.specs.Calls.{Known}
use Rattle.session_callers.specs.Rule.{Each, SpendsNext}
use Rattle.shared_session.specs.History.{History}
use Rattle.single_session.specs.Replay.{AreGood, AreUnspent, IsSound}
use Rattle.shared_session.specs.declared.errors.StepError.{StepError}
use Rattle.shared_session.specs.declared.errors.StepError.TheVariants.{BadEvent, Spent, NoMemory}
use Rattle.shared_session.specs.declared.session.Failure.TheVariants as failure
use Rattle.live_run.specs.Agenda.{agenda_of}
use Rattle.live_run.specs.Deeds.{Broke, events_in}
use Rattle.live_run.specs.Endings.{StaysWithin}
use Rattle.redis_error.specs.declared.config_name.ConfigName.{ConfigName}
use Rattle.live_lines.specs.Flights.{AreOf, AreSubmitted, AskedWord, BrokeOff, HasManyLines, IsBare, IsNoFlight, RanOut, RanOutEarly, StoppedBy}
use Rattle.live_lines.specs.Plans.{refused_of}
use Rattle.live_lines.specs.declared.flying.FlightError.{FlightError}
use Rattle.live_lines.specs.declared.flying.FlightError.TheVariants as flight
use Rattle.live_lines.proofs.Late.{spends_late}
use Rattle.live_lines.proofs.Stopped.{IsSeen, places_few, stopped_of_lines}
use Rattle.live_lines.specs.declared.planning.Plan.{Plan}

-- one of the callers has found it
caller_ran_out : (plan : Plan) (word count : ℕ) (lines : List Line) (log : List Event) → IsSound plan.config → ((seen : List Event) → IsPrefix seen log → IsSeen plan.config word lines seen) → (P : ℕ → List Line) (n : ℕ) (vs ws : List Known) → Each (IsBare plan.config word) vs
    → EachAt (λ c v w. HasTried v w (P c)) n vs ws → Each (λ (c : Known). IsPrefix c.view.seen log) ws → AnyAt (λ c. IsCause (Spent count)) n vs ws → RanOutEarly plan lines count × HasManyLines lines
caller_ran_out plan word count lines log sound of_lines P n [] ws bare each begins any = absurd any
caller_ran_out plan word count lines log sound of_lines P n (v ∷ vs) [] bare each begins any = absurd any
caller_ran_out plan word count lines log sound of_lines P n (v ∷ vs) (w ∷ ws) bare each begins (inl cause) =
    let seen = of_lines w.view.seen begins.0 in
    let next : SpendsNext plan.config w.view.word w.view.seen = subst (λ (c : Config). SpendsNext c w.view.word w.view.seen) (each.0.same.config.0 ∙ bare.0.0) cause.3 in
    let late = spends_late plan.config word w.view.seen sound seen.good seen.unspent (subst (λ (x : ℕ). SpendsNext plan.config x w.view.seen) (each.0.same.config.1 ∙ bare.0.1) next) in
    let few = seen.few in
    (record { word = w.view.word; events = w.view.seen; number = cause.2; only = seen.only; few = few; next = next }, omega (arith, late, few))
caller_ran_out plan word count lines log sound of_lines P n (v ∷ vs) (w ∷ ws) bare each begins (inr later) = caller_ran_out plan word count lines log sound of_lines P (n + 1) vs ws bare.1 each.1 begins.1 later

-- while lines were submitted
stopped_early : (plan : Plan) (word : ℕ) (vs ws : List Known) (lines : List Line) (log : List Event) (count : ℕ) → IsSound plan.config → Each (IsAllowed (kind_of plan.config)) lines → 0 < length vs → Each (IsBare plan.config word) vs → HaveStopped (Spent count) vs ws lines → AreOf log ws
    → RanOutEarly plan lines count × HasManyLines lines
stopped_early plan word vs ws lines log count sound allowed some bare stopped of =
    caller_ran_out plan word count lines log sound (λ seen front. stopped_of_lines plan.config word log seen lines vs ws allowed some bare stopped.each of.0 of.1 front)
    (λ c. share (length vs) c lines) 0 vs ws bare stopped.each of.0 stopped.cause

-- so there is no live run
pub none_submitted : {old new : Option (List Call)} (plan : Plan) (word : ℕ) (vs ws : List Known) (lines : List Line) (error : StepError) (result : FlightError) → IsSound plan.config → Each (IsAllowed (kind_of plan.config)) lines → refused_of plan ≡ None → 0 < length vs → Each (IsBare plan.config word) vs → HaveStopped error vs ws lines
    → ((name : ConfigName) → result ≡ flight.Config name → ⊥) → ((n : ℕ) → result ≡ flight.Spent n → (error ≡ Spent n) × ((log : List Event) × AreOf log ws)) → AskedWord old new → IsNoFlight plan lines old new result
none_submitted plan word vs ws lines error (flight.Config name) fit allowed none some bare stopped sound spent asked = absurd (sound name refl)
none_submitted plan word vs ws lines error flight.NoMemory fit allowed none some bare stopped sound spent asked = inr (inl asked)
none_submitted plan word vs ws lines error (flight.Spent count) fit allowed none some bare stopped sound spent asked =
    let of = spent count refl in
    let both = stopped_early plan word vs ws lines of.1.0 count fit allowed some bare (subst (λ (e : StepError). HaveStopped e vs ws lines) of.0 stopped) of.1.1 in
    let early = both.0 in
    (none, record { word = early.word; events = early.events; number = early.number; next = early.next }, inl (asked, early), both.1)

-- numbers had run out before the session was driven
out_before : (plan : Plan) (word count : ℕ) (before last : History) (es : List Event) → SpendsNext plan.config word before.events → last.events ≡ before.events ++ es → es ≡ [] → count ≡ length last.events → RanOut plan.config count
out_before plan word count before last es next grown none number = record {
  word = word;
  events = before.events;
  number = number ∙ ap (λ (xs : List Event). length xs) (grown ∙ ap (λ (xs : List Event). before.events ++ xs) none ∙ append-nil before.events);
  next = next;
}

sound_not_spent : (s : History) → s.failure ≡ failure.Sound → s.failure ≡ failure.Spent → ⊥
sound_not_spent s sound spent = cc

-- while the session was driven
broke_by : {old new : Option (List Call)} (plan : Plan) (word : ℕ) (lines : List Line) (numbers : List ℕ) (actions : List Action) (before later : History) (count : ℕ) → AreSubmitted plan word lines numbers before → Broke (Spent count) old new before later (agenda_of actions) → RanOut plan.config count
broke_by plan word lines numbers actions before later count submitted broke =
    let last = broke.last in
    let went = broke.went in
    elim broke.why.1 [
      | inl failed ↦ (
          let spent : before.failure ≡ failure.Spent = sym went.same_failure ∙ failed in
          elim went.sound [
            | inl sound ↦ absurd (sound_not_spent before sound spent)
            | inr none ↦ out_before plan word count before last (events_in broke.deeds) (submitted.spent spent) went.grown none broke.why.0
          ]
          )
      | inr by ↦ record {
        word = last.word;
        events = last.events;
        number = broke.why.0;
        next = subst (λ (c : Config). SpendsNext c last.word last.events) (went.config ∙ submitted.config.0) (by.0, by.2.good, by.2.spent);
      }
    ]

pub broke_out : {old new : Option (List Call)} (plan : Plan) (word : ℕ) (lines : List Line) (numbers : List ℕ) (actions : List Action) (error : StepError) (before later : History) → AreSubmitted plan word lines numbers before → Broke error old new before later (agenda_of actions)
    → (count : ℕ) → error ≡ Spent count → RanOut plan.config count
broke_out {old} {new} plan word lines numbers actions error before later submitted broke count is =
    broke_by plan word lines numbers actions before later count submitted (subst (λ (e : StepError). Broke e old new before later (agenda_of actions)) is broke)

-- no more events are submitted than lines
submitted_few : (plan : Plan) (word : ℕ) (lines : List Line) (numbers : List ℕ) (s : History) → AreSubmitted plan word lines numbers s → length s.events ≤ length lines
submitted_few plan word lines numbers s submitted =
    let top = places_few submitted.turns (length s.events) submitted.once in
    let long = as_long plan.config word s.events 0 lines submitted.turns submitted.each in
    omega (arith, top, long)
  where
    as_long : (config : Config) (word : ℕ) (log : List Event) (n : ℕ) (ls : List Line) (ts : List Turn) → EachAt (λ (i : ℕ). IsTurnOf config word log) n ls ts → length ts ≡ length ls
    as_long config word log n [] [] h = refl
    as_long config word log n [] (t ∷ ts) h = absurd h
    as_long config word log n (l ∷ ls) [] h = absurd h
    as_long config word log n (l ∷ ls) (t ∷ ts) h = let r = as_long config word log (n + 1) ls ts h.1 in omega (arith, r)

-- a run that broke off for this had so many
broke_late : {old new : Option (List Call)} (plan : Plan) (word : ℕ) (lines : List Line) (numbers : List ℕ) (actions : List Action) (before later : History) (count : ℕ) → IsSound plan.config → AreSubmitted plan word lines numbers before
    → Broke (Spent count) old new before later (agenda_of actions) → StaysWithin before later → HasManyLines lines
broke_late plan word lines numbers actions before later count sound submitted broke within =
    let last = broke.last in
    let went = broke.went in
    let few = submitted_few plan word lines numbers before submitted in
    elim broke.why.1 [
      | inl failed ↦ (
          let late = spends_late plan.config word before.events sound submitted.good submitted.unspent (submitted.spent (sym went.same_failure ∙ failed)) in
          omega (arith, late, few)
          )
      | inr by ↦ (
          let config : plan.config ≡ before.config = sym submitted.config.0 in
          let same_word : word ≡ before.word = sym submitted.config.1 in
          let good : AreGood before.config before.word before.events = subst (λ (w : ℕ). AreGood before.config w before.events) same_word (subst (λ (c : Config). AreGood c word before.events) config submitted.good) in
          let unspent : AreUnspent before.config before.word before.events = subst (λ (w : ℕ). AreUnspent before.config w before.events) same_word (subst (λ (c : Config). AreUnspent c word before.events) config submitted.unspent) in
          let fit : IsSound last.config = subst IsSound (config ∙ sym went.config) sound in
          let late = spends_late last.config last.word last.events fit (went.good good) (went.unspent unspent) (by.0, by.2.good, by.2.spent) in
          let kept : length later.events ≡ length last.events = ap (λ (s : History). length s.events) broke.kept in
          omega (arith, late, few, kept, within)
          )
    ]

pub broke_many : {old new : Option (List Call)} (plan : Plan) (word : ℕ) (lines : List Line) (numbers : List ℕ) (actions : List Action) (error : StepError) (before later : History) → IsSound plan.config → AreSubmitted plan word lines numbers before
    → Broke error old new before later (agenda_of actions) → StaysWithin before later → (count : ℕ) → error ≡ Spent count → HasManyLines lines
broke_many {old} {new} plan word lines numbers actions error before later sound submitted broke within count is =
    broke_late plan word lines numbers actions before later count sound submitted (subst (λ (e : StepError). Broke e old new before later (agenda_of actions)) is broke) within

abbrev count_of : FlightError → ℕ → ℕ
count_of (flight.Spent count) other = count
count_of (flight.Config name) other = other
count_of flight.NoMemory other = other

-- two refusals behind as many events
pub same_count : (n m : ℕ) → flight.Spent n ≡ flight.Spent m → n ≡ m
same_count n m e = ap (λ (x : FlightError). count_of x n) e

-- a run that broke off was stopped
pub off_stopped : {old new : Option (List Call)} (plan : Plan) (lines : List Line) (error : StepError) → (error ≡ BadEvent → ⊥) → BrokeOff plan lines old new error → StoppedBy plan lines old new error
off_stopped plan lines (Spent count) good off = inr off
off_stopped plan lines NoMemory good off = inr off
off_stopped plan lines BadEvent good off = absurd (good refl)
