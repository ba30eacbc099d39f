-- Where rounds of submissions begin: on which link, and of which generation.
use Rattle.std.specs.Prelude.{◌≡◌, ℕ, true, false, List, ◌∷◌, ◌++◌, Option, Some}
use Rattle.driver_model.specs.declared.action.Action.{Action}
use Rattle.driver_model.specs.declared.action.Action.TheVariants as action
use Rattle.driver_model.specs.declared.action.Owner.{Owner}
use Rattle.driver_model.specs.declared.action.Owner.TheVariants as owner
use Rattle.legal_trace.specs.Ledger.{is_serving}
use Rattle.legal_trace.specs.Book.{Book, book, has_generations}
use Rattle.legal_trace.specs.Legal.{IsOpen, current_link}

-- the round of submission n may begin on that link: the session comes back; the submission is open, and no round of it has begun since
-- it goes to that link; this is the current link, which takes requests; and the generation that was current where it was handed in, or
-- the first, is current now
pub record BeginsRound (b : Book) (n : ℕ) (on : Option ℕ) : Type 0 where
  pub comes_back : has_generations b ≡ true
  pub asked : IsOpen b n
  pub new : (b.story n).rounded ≡ false
  pub on_its_link : on ≡ Some (b.story n).link
  pub current : (b.story n).link ≡ b.current
  pub serving : is_serving (current_link b) ≡ true
  pub generation : (b.story n).generation ≡ b.generation

-- so does each round that a trace shows, and it is of a submission's only try
abbrev pub RoundsBegin : List Action → Type 0
RoundsBegin trace =
    (front more : List Action) (who : Owner) (on : Option ℕ) → trace ≡ front ++ action.Round who on ∷ more
    → (n : ℕ) × (who ≡ owner.Try n 0) × BeginsRound (book front) n on

-- where the session comes back, the message of an open submission starts behind its round
abbrev pub StartsBehindRounds : List Action → Type 0
StartsBehindRounds trace =
    (front more : List Action) (l k n round count len : ℕ) → trace ≡ front ++ action.Start l k (owner.Try n round) count len ∷ more
    → has_generations (book front) ≡ true → IsOpen (book front) n → ((book front).story n).rounded ≡ true

-- rounds begin on the link of the generation that was current where their submissions were handed in, and messages start behind them
pub record KeepsRounds (trace : List Action) : Type 0 where
  pub begin : RoundsBegin trace
  pub behind : StartsBehindRounds trace
