-- Where the credentials come from with which a link is set up.
use Rattle.std.specs.Prelude.{◌≡◌, ℕ, true, List, [], ◌∷◌, ◌++◌, Some}
use Rattle.credentials.specs.Credentials.{Credentials}
use Rattle.driver_model.specs.declared.action.Action.{Action}
use Rattle.driver_model.specs.declared.action.Action.TheVariants as action
use Rattle.driver_model.specs.declared.action.Cause.TheVariants as cause
use Rattle.driver_model.specs.declared.config.Config.{Config}
use Rattle.driver_model.specs.declared.event.Event.{Event}
use Rattle.driver_model.specs.declared.event.EventKind.TheVariants as event
use Rattle.driver_model.specs.Config.{wants_credentials}
use Rattle.legal_trace.specs.Ledger.{lacks_credentials}
use Rattle.legal_trace.specs.Book.{book}
use Rattle.legal_laws.specs.Starts.{StartsOn}

-- behind each front of a trace nothing has started on a link whose setup waits for credentials
abbrev pub StartsNoneLacking : List Action → Type 0
StartsNoneLacking trace =
    (front more : List Action) (l : ℕ) → trace ≡ front ++ more → lacks_credentials ((book front).link l) ≡ true
    → ((book front).link l).starts ≡ []

-- in this front source c of credentials is asked for, for link l
pub record IsAskedFor (front : List Action) (c l : ℕ) : Type 0 where
  pub before : List Action
  pub after : List Action
  pub splits : front ≡ before ++ action.NeedCreds c l ∷ after

-- in this front credentials come of a source that was asked for before, for link l, and they are what is said to its server
pub record IsAuthorized (front : List Action) (l : ℕ) : Type 0 where
  pub before : List Action
  pub after : List Action
  pub number : ℕ
  pub came : Event
  pub c : ℕ
  pub credentials : Credentials
  pub splits : front ≡ before ++ action.Turn number (cause.Event came) ∷ after
  pub gives : came.kind ≡ event.Creds c credentials
  pub asked : IsAskedFor before c l
  pub user : ((book front).link l).info.username ≡ Some credentials.username
  pub password : ((book front).link l).info.password ≡ Some credentials.password

-- so it is wherever a message starts on a link, where a configuration wants its credentials of a source
abbrev pub StartsAuthorized : Config → List Action → Type 0
StartsAuthorized config trace =
    (front more : List Action) (a : Action) (l : ℕ) → wants_credentials config ≡ true → trace ≡ front ++ a ∷ more
    → StartsOn l a → IsAuthorized front l
