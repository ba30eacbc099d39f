-- How many outcomes the submissions of a trace have.
use Rattle.std.specs.Prelude.{◌≡◌, ◌≤◌, ◌<◌, ℕ, ◌+◌, Bool, true, false, ◌||◌, List, [], ◌∷◌, ◌++◌, length, Some}
use Rattle.redis_error.specs.declared.redis_error.RedisError.TheVariants as error
use Rattle.driver_model.specs.declared.action.Action.{Action}
use Rattle.driver_model.specs.declared.action.Action.TheVariants as action
use Rattle.driver_model.specs.declared.outcome.Outcome.{Outcome}
use Rattle.driver_model.specs.declared.outcome.Outcome.TheVariants as outcome
use Rattle.driver_model.specs.declared.config.Config.{Config}
use Rattle.driver_model.specs.declared.event.Event.{Event}
use Rattle.driver_model.specs.declared.event.EventKind.{EventKind}
use Rattle.driver_model.specs.declared.event.EventKind.TheVariants as event
use Rattle.driver_model.specs.declared.event.Submission.{Submission}
use Rattle.legal_trace.specs.Ledger.{is_over}
use Rattle.legal_trace.specs.Book.{book, shuts, submitted_by}
use Rattle.legal_trace.specs.Legal.{Legal}

-- no submission has a second outcome
abbrev pub AnswersOnce : List Action → Type 0
AnswersOnce trace = (n : ℕ) → length ((book trace).story n).outcomes ≤ 1

-- after a shutdown each submission that was not cancelled has one outcome
abbrev pub AnswersAll : List Action → Type 0
AnswersAll trace =
    (book trace).shut ≡ true → (n : ℕ) (s : Submission) → ((book trace).story n).submission ≡ Some s
    → ((book trace).story n).cancelled ≡ false → length ((book trace).story n).outcomes ≡ 1

-- so has one whose link has ended, whatever ended it
abbrev pub AnswersOver : List Action → Type 0
AnswersOver trace =
    (n : ℕ) (s : Submission) → is_over ((book trace).link ((book trace).story n).link) ≡ true → ((book trace).story n).submission ≡ Some s
    → ((book trace).story n).cancelled ≡ false → length ((book trace).story n).outcomes ≡ 1

-- a submission that needs RESP3, where its link's server is told another protocol, is answered with that error alone, unless
-- it came after a shutdown
abbrev pub RefusesUnspoken : List Action → Type 0
RefusesUnspoken trace =
    (front more : List Action) (n : ℕ) (o : Outcome) → trace ≡ front ++ action.Outcome n o ∷ more
    → ((book front).story n).unspoken ≡ true → ((book front).story n).late ≡ false → o ≡ outcome.Fault error.Resp3Required

-- a caller drops its request
abbrev pub is_cancel : EventKind → Bool
is_cancel (event.Cancel n) = true
is_cancel _ = false

-- some event does
abbrev pub cancels : List Event → Bool
cancels [] = false
cancels (e ∷ es) = is_cancel e.kind || cancels es

-- some event shuts everything down
abbrev pub shuts_down : List Event → Bool
shuts_down [] = false
shuts_down (e ∷ es) = shuts e.kind || shuts_down es

-- how many submissions the events hand in
abbrev pub submissions_of : List Event → ℕ
submissions_of [] = 0
submissions_of (e ∷ es) = submitted_by e.kind + submissions_of es

-- Where no caller drops its request and everything is shut down, each submission that the events hand in has exactly one
-- outcome in a legal trace of them.
abbrev pub AnswersEach : Type 0
AnswersEach =
    (config : Config) (word : ℕ) (events : List Event) (trace : List Action) → Legal config word events trace
    → shuts_down events ≡ true → cancels events ≡ false → (n : ℕ) → n < submissions_of events
    → length ((book trace).story n).outcomes ≡ 1
