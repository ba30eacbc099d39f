-- Each line of a live run has its outcome.
use Rattle.std.proofs.Common.{◌≡◌, ℕ, ◌+◌, ◌<◌, Bool, true, false, ◌||◌, List, [], ◌∷◌, ◌++◌, length, Option, is_some, refl, sym, ap, ◌∙◌, subst, arith}
use Rattle.caller_threads.specs.declared.job.Turn.{Turn}
use Rattle.caller_threads.specs.Each.{EachAt}
use Rattle.caller_threads.specs.Submits.{Line, IsTurnOf, event_of, numbers_of}
use Rattle.driver_model.specs.declared.config.Config.{Config}
use Rattle.driver_model.specs.declared.event.Event.{Event}
use Rattle.driver_model.specs.declared.event.EventKind.{EventKind}
use Rattle.driver_model.specs.declared.event.EventKind.TheVariants as event
use Rattle.driver_model.specs.declared.outcome.Outcome.{Outcome}
use Rattle.legal_laws.specs.Answers.{cancels, is_cancel, shuts_down, submissions_of}
use Rattle.legal_laws.proofs.Submissions.HandedIn.{each_answered, or_left, or_right}
use Rattle.legal_trace.specs.Book.{shuts, submitted_by}
use Rattle.live_run.specs.Deeds.{Deed, IsGood, IsUnspent, answer_of, claim, did, events_in, fired, made}
use Rattle.live_run.specs.Driven.{shutdown}
use Rattle.outside.specs.declared.world.Call.{Call}
use Rattle.outside.specs.declared.world.Call.TheVariants as call
use Rattle.outside.specs.declared.world.Dialed.TheVariants as dialed
use Rattle.outside.specs.declared.world.LinkGot.TheVariants as got
use Rattle.outside.specs.declared.world.LinkPut.TheVariants as put
use Rattle.session_callers.specs.Rule.{Each, submissions_in, submits}
use Rattle.session_laws.proofs.Turn.Legality.{replay_legal, replay_outcomes}
use Rattle.session_laws.specs.Outcomes.{last_outcome}
use Rattle.single_session.specs.Replay.{AreGood, AreUnspent, IsSound}
use Rattle.live_lines.specs.Flights.{IsFlight, IsOfLine}
use Rattle.live_lines.specs.Outcomes.{HasOutcome}
use Rattle.live_lines.specs.declared.flying.Flight.{Flight}
use Rattle.live_lines.specs.declared.planning.Plan.{Plan}

-- tests
both_fail : (a b : Bool) → a ≡ false → b ≡ false → (a || b) ≡ false
both_fail a b x y = ap (λ (t : Bool). t || b) x ∙ y

or_true : (a b : Bool) → b ≡ true → (a || b) ≡ true
or_true true b e = refl
or_true false b e = e

-- no caller of a live run drops its request: not by the lines, and not by what is done in its passes
cancels_more : (es fs : List Event) → cancels es ≡ false → cancels fs ≡ false → cancels (es ++ fs) ≡ false
cancels_more [] fs x y = y
cancels_more (e ∷ es) fs x y = both_fail (is_cancel e.kind) (cancels (es ++ fs)) (or_left (is_cancel e.kind) (cancels es) x) (cancels_more es fs (or_right (is_cancel e.kind) (cancels es) x) y)

lines_stay : (es : List Event) → Each IsOfLine es → cancels es ≡ false
lines_stay [] h = refl
lines_stay (e ∷ es) h = both_fail (is_cancel e.kind) (cancels es) (ap (λ (x : Event). is_cancel x.kind) h.0.1) (lines_stay es h.1)

answers_stay : (word : ℕ) (c : Call) → cancels (made word (answer_of c)) ≡ false
answers_stay word (call.Dial link host port dialed.Yes) = refl
answers_stay word (call.Dial link host port (dialed.Failed fault)) = refl
answers_stay word (call.Read link room (got.Read n) bytes) = refl
answers_stay word (call.Read link room got.NotYet bytes) = refl
answers_stay word (call.Read link room got.Ended bytes) = refl
answers_stay word (call.Read link room (got.Failed fault) bytes) = refl
answers_stay word (call.Write link piece (put.Took n)) = refl
answers_stay word (call.Write link piece put.NotYet) = refl
answers_stay word (call.Write link piece (put.Failed fault)) = refl
answers_stay word (call.Close link) = refl
answers_stay word (call.Now moment) = refl
answers_stay word (call.Word told) = refl
answers_stay word (call.Wait ms) = refl

deeds_stay : (ds : List Deed) → cancels (events_in ds) ≡ false
deeds_stay [] = refl
deeds_stay (did c word actions ∷ ds) = cancels_more (made word (answer_of c)) (events_in ds) (answers_stay word c) (deeds_stay ds)
deeds_stay (fired timer word actions ∷ ds) = deeds_stay ds
deeds_stay (claim number ∷ ds) = deeds_stay ds

-- it is shut down at last
shuts_last : (es fs : List Event) → shuts_down fs ≡ true → shuts_down (es ++ fs) ≡ true
shuts_last [] fs h = h
shuts_last (e ∷ es) fs h = or_true (shuts e.kind) (shuts_down (es ++ fs)) (shuts_last es fs h)

-- the number of a line is one of its history's
submits_are : (kind : EventKind) → submits kind ≡ submitted_by kind
submits_are (event.Submit what) = refl
submits_are (event.Cancel n) = refl
submits_are (event.Connected l) = refl
submits_are (event.Refused l f) = refl
submits_are (event.Wrote l count) = refl
submits_are (event.Bytes l piece) = refl
submits_are (event.Ended l) = refl
submits_are (event.ReadFault l f) = refl
submits_are (event.WriteFault l f) = refl
submits_are (event.Fired t) = refl
submits_are (event.Creds c auth) = refl
submits_are (event.CredsError c text) = refl
submits_are (event.CredsEnd c) = refl
submits_are (event.Timeout ms) = refl
submits_are event.DropStream = refl
submits_are event.Shutdown = refl

submissions_are : (es : List Event) → submissions_in es ≡ submissions_of es
unfolding submissions_in
submissions_are [] = refl
submissions_are (e ∷ es) = let first = submits_are e.kind in let rest = submissions_are es in omega (arith, first, rest)

count_more : (es fs : List Event) → submissions_of (es ++ fs) ≡ submissions_of es + submissions_of fs
count_more [] fs = omega arith
count_more (e ∷ es) fs = let rest = count_more es fs in omega (arith, rest)

number_within : (config : Config) (word : ℕ) (log : List Event) (line : Line) (t : Turn) → IsTurnOf config word log line t → t.number < submissions_of log
number_within config word log line t h =
    let front = h.before ++ event_of line ∷ [] in
    let all : submissions_of front + submissions_of h.begins.0 ≡ submissions_of log = sym (count_more front h.begins.0) ∙ ap submissions_of h.begins.1 in
    let own : submissions_of front ≡ submissions_of h.before + 1 = count_more h.before (event_of line ∷ []) in
    let before : t.number ≡ submissions_of h.before = h.number ∙ submissions_are h.before in
    omega (arith, all, own, before)

-- what holds of the number of each turn
of_numbers : (P : ℕ → Type 0) (config : Config) (word : ℕ) (log : List Event) → ((line : Line) (t : Turn) → IsTurnOf config word log line t → P t.number)
    → (i : ℕ) (ls : List Line) (ts : List Turn) → EachAt (λ (j : ℕ). IsTurnOf config word log) i ls ts → Each P (numbers_of ts)
of_numbers P config word log f i [] [] h = tt
of_numbers P config word log f i [] (t ∷ ts) h = absurd h
of_numbers P config word log f i (l ∷ ls) [] h = absurd h
of_numbers P config word log f i (l ∷ ls) (t ∷ ts) h = (f l t h.0, of_numbers P config word log f (i + 1) ls ts h.1)

-- one outcome is there
one_is_there : (os : List Outcome) → length os ≡ 1 → is_some (last_outcome os) ≡ true
one_is_there [] e = absurd (omega (arith, e))
one_is_there (o ∷ []) e = refl
one_is_there (o ∷ p ∷ os) e = absurd (omega (arith, e))

module _ (plan : Plan) (lines : List Line) {old new : Option (List Call)} (f : Flight) (flight : IsFlight plan lines old new f) where
  opened_sound : IsSound flight.opened.config
  opened_sound = subst IsSound (sym flight.submitted.config.0) flight.sound

  opened_good : IsGood flight.opened
  opened_good =
      subst (λ (word : ℕ). AreGood flight.opened.config word flight.opened.events) (sym flight.submitted.config.1)
      (subst (λ (config : Config). AreGood config flight.word flight.opened.events) (sym flight.submitted.config.0) flight.submitted.good)

  opened_unspent : IsUnspent flight.opened
  opened_unspent =
      subst (λ (word : ℕ). AreUnspent flight.opened.config word flight.opened.events) (sym flight.submitted.config.1)
      (subst (λ (config : Config). AreUnspent config flight.word flight.opened.events) (sym flight.submitted.config.0) flight.submitted.unspent)

  -- all events of the run
  all_events : List Event
  all_events = (flight.opened.events ++ events_in flight.driven.run.deeds) ++ shutdown flight.driven.run.word ∷ []

  events_are : f.session.events ≡ all_events
  unfolding all_events
  events_are = flight.driven.run.ended ∙ ap (λ (es : List Event). es ++ shutdown flight.driven.run.word ∷ []) flight.driven.run.grown

  are_shut : shuts_down f.session.events ≡ true
  unfolding all_events
  are_shut = ap shuts_down events_are ∙ shuts_last (flight.opened.events ++ events_in flight.driven.run.deeds) (shutdown flight.driven.run.word ∷ []) refl

  are_kept : cancels f.session.events ≡ false
  unfolding all_events
  are_kept =
      ap cancels events_are
      ∙ cancels_more (flight.opened.events ++ events_in flight.driven.run.deeds) (shutdown flight.driven.run.word ∷ [])
      (cancels_more flight.opened.events (events_in flight.driven.run.deeds) (lines_stay flight.opened.events flight.submitted.only) (deeds_stay flight.driven.run.deeds)) refl

  are_more : (n : ℕ) → n < submissions_of flight.opened.events → n < submissions_of f.session.events
  unfolding all_events
  are_more n less =
      let whole : submissions_of f.session.events ≡ submissions_of (flight.opened.events ++ events_in flight.driven.run.deeds) + 0 = ap submissions_of events_are ∙ count_more (flight.opened.events ++ events_in flight.driven.run.deeds) (shutdown flight.driven.run.word ∷ []) in
      let front = count_more flight.opened.events (events_in flight.driven.run.deeds) in
      omega (arith, less, whole, front)

  of_line : (n : ℕ) → n < submissions_of flight.opened.events → HasOutcome f.session n
  of_line n less =
      let s = f.session in
      let run = flight.driven.run in
      let sound : IsSound s.config = subst IsSound (sym run.config_after) opened_sound in
      let good = run.good opened_good in
      let unspent = run.unspent opened_unspent in
      let legal = replay_legal s.config s.word s.events sound good unspent in
      ap is_some (replay_outcomes s.config s.word s.events n sound good unspent)
      ∙ one_is_there _ (each_answered s.config s.word s.events _ legal are_shut are_kept n (are_more n less))

  -- the outcome of each line is there
  pub each_outcome : Each (HasOutcome f.session) f.numbers.items
  each_outcome =
      let s = flight.submitted in
      subst (Each (HasOutcome f.session)) (sym s.given)
      (of_numbers (HasOutcome f.session) plan.config flight.word flight.opened.events (λ line t turn. of_line t.number (number_within plan.config flight.word flight.opened.events line t turn)) 0 lines s.turns s.each)
