-- What a trace tells of the ends of links: a push of the kind that the driver alone makes.
use Rattle.std.specs.Prelude.{◌≡◌, ℕ, true, List, ◌∷◌, ◌++◌}
use Rattle.driver_model.specs.declared.action.Action.{Action}
use Rattle.driver_model.specs.declared.action.Action.TheVariants as action
use Rattle.driver_model.specs.declared.config.Config.{Config}
use Rattle.driver_model.specs.declared.outcome.Outcome.{Outcome}
use Rattle.driver_model.specs.Config.{hearing_of}
use Rattle.driver_model.specs.Hearing.{hears_pushes}
use Rattle.driver_model.specs.Push.{is_disconnection}
use Rattle.legal_trace.specs.Ledger.{is_over, is_cut, is_set_up}
use Rattle.legal_trace.specs.Book.{book}

-- an action tells that link l has ended
abbrev pub Disconnects : ℕ → Action → Type 0
Disconnects l (action.Push m info) = (m ≡ l) × (is_disconnection info.kind ≡ true)
Disconnects l _ = ⊥

-- that a link has ended is told once at most
abbrev pub DisconnectsOnce : List Action → Type 0
DisconnectsOnce trace =
    (front middle more : List Action) (a c : Action) (l : ℕ) → trace ≡ front ++ a ∷ (middle ++ c ∷ more)
    → Disconnects l a → Disconnects l c → ⊥

-- the link was closed in this front
pub record IsClosed (front : List Action) (l : ℕ) : Type 0 where
  pub before : List Action
  pub after : List Action
  pub splits : front ≡ before ++ action.Close l ∷ after

-- a fault ended the link, once it was set up, and it was closed
pub record IsCutOff (front : List Action) (l : ℕ) : Type 0 where
  pub cut : is_cut ((book front).link l).end ≡ true
  pub set : is_set_up ((book front).link l) ≡ true
  pub closed : IsClosed front l

-- it is told behind the close of a link that a fault ended, once it was set up
abbrev pub DisconnectsBehind : List Action → Type 0
DisconnectsBehind trace =
    (front more : List Action) (a : Action) (l : ℕ) → trace ≡ front ++ a ∷ more → Disconnects l a → IsCutOff front l

-- and before the outcomes that this end gives
abbrev pub DisconnectsFirst : List Action → Type 0
DisconnectsFirst trace =
    (front middle more : List Action) (a : Action) (l n : ℕ) (o : Outcome)
    → trace ≡ front ++ action.Outcome n o ∷ (middle ++ a ∷ more) → Disconnects l a → ((book front).story n).link ≡ l
    → is_over ((book front).link l) ≡ true → ⊥

-- a push tells that link l has ended
pub record IsParted (trace : List Action) (l : ℕ) : Type 0 where
  pub before : List Action
  pub after : List Action
  pub told : Action
  pub tells : Disconnects l told
  pub splits : trace ≡ before ++ told ∷ after

-- it is told of each that a fault ended, where somebody hears pushes
abbrev pub DisconnectsEach : Config → List Action → Type 0
DisconnectsEach config trace =
    hears_pushes (hearing_of config) ≡ true → (l : ℕ) → is_cut ((book trace).link l).end ≡ true → IsParted trace l

-- what is told of the ends of links
pub record TellsEnds (config : Config) (trace : List Action) : Type 0 where
  pub once : DisconnectsOnce trace
  pub behind : DisconnectsBehind trace
  pub first : DisconnectsFirst trace
  pub each : DisconnectsEach config trace
