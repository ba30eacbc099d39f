-- What comes before the first message of a request on a link.
use Rattle.std.specs.Prelude.{◌≡◌, ℕ, List, [], ◌∷◌, ◌++◌, Some, None}
use Rattle.connection_setup.specs.declared.judgement.SetupResult.TheVariants.{Ready}
use Rattle.driver_model.specs.declared.action.Action.{Action}
use Rattle.legal_trace.specs.Ledger.{setup_result}
use Rattle.legal_trace.specs.Book.{book}
use Rattle.legal_laws.specs.Creation.{creations}
use Rattle.legal_laws.specs.Starts.{IsStart}

-- behind this front the setup of link l is answered well, where anything was to be said, and the creation is shown, once
pub record IsOpened (front : List Action) (l : ℕ) : Type 0 where
  pub answered : setup_result ((book front).link l) ≡ Some Ready
  pub told : creations front ≡ None ∷ []

-- so it is wherever a message of a submission starts on a link
abbrev pub StartsOpened : List Action → Type 0
StartsOpened trace =
    (front more : List Action) (a : Action) (l n : ℕ) → trace ≡ front ++ a ∷ more → IsStart l n a → IsOpened front l
