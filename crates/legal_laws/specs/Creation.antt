-- What a trace tells of the opening: that the session came to be, or why it failed.
use Rattle.std.specs.Prelude.{◌≡◌, ◌≢◌, ◌≤◌, ℕ, ◌+◌, false, List, [], ◌∷◌, ◌++◌, length, Option, Some}
use Rattle.redis_error.specs.declared.redis_error.RedisError.{RedisError}
use Rattle.driver_model.specs.declared.action.Action.{Action}
use Rattle.driver_model.specs.declared.action.Action.TheVariants as action
use Rattle.driver_model.specs.declared.outcome.Outcome.{Outcome}
use Rattle.driver_model.specs.declared.outcome.Outcome.TheVariants as outcome
use Rattle.legal_trace.specs.Ledger.{failure_in}
use Rattle.legal_trace.specs.Story.{bytes_of}
use Rattle.legal_trace.specs.Book.{Book, book, has_generations}
use Rattle.legal_trace.specs.Legal.{IsOpen, link_of}

-- what an action shows of the creation: that it came to be, or the error with which it failed
abbrev pub shown_by : Action → List (Option RedisError)
shown_by (action.Created e) = e ∷ []
shown_by _ = []

-- what a trace shows of it, in order
abbrev pub creations : List Action → List (Option RedisError)
creations [] = []
creations (a ∷ more) = shown_by a ++ creations more

-- the opening of link l failed with this error
abbrev pub HasFailed : Book → ℕ → RedisError → Type 0
HasFailed b l e = failure_in (b.link l).end ≡ Some e

-- submission n has bytes and no message, came before any shutdown, doesn't need RESP3 where that isn't spoken, and the
-- opening of its link failed with this error
pub record IsUnopened (b : Book) (n : ℕ) (e : RedisError) : Type 0 where
  pub in_time : (b.story n).late ≡ false
  pub spoken : (b.story n).unspoken ≡ false
  pub some : bytes_of (b.story n) ≢ []
  pub unstarted : (b.story n).tries ≡ []
  pub failed : failure_in (link_of b n).end ≡ Some e

-- such a submission is answered with that error alone, and where the session doesn't come back, once the creation has told it
abbrev pub AnswersTell : List Action → Type 0
AnswersTell trace =
    (front more : List Action) (n : ℕ) (o : Outcome) (e : RedisError) → trace ≡ front ++ action.Outcome n o ∷ more
    → IsUnopened (book front) n e → (o ≡ outcome.Fault e) × (has_generations (book front) ≡ false → creations front ≡ Some e ∷ [])

-- what is told of the opening: the creation is shown at most once; where the opening of a link failed, what is shown is its
-- error, if the session doesn't come back; an error is shown only where the opening of a link failed with it, and that is the last
-- link then; it is what submissions without a message are answered with; and none of these is left open
pub record TellsOfOpening (trace : List Action) : Type 0 where
  pub once : length (creations trace) ≤ 1
  pub told : has_generations (book trace) ≡ false → (l : ℕ) (e : RedisError) → HasFailed (book trace) l e → creations trace ≡ Some e ∷ []
  pub caused : (e : RedisError) → creations trace ≡ Some e ∷ [] → (l : ℕ) × HasFailed (book trace) l e × (l + 1 ≡ (book trace).links)
  pub answered : AnswersTell trace
  pub none_left : (n : ℕ) (e : RedisError) → IsUnopened (book trace) n e → IsOpen (book trace) n → ⊥
