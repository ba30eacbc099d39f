-- Which events have lines.
use Rattle.std.proofs.Common.{◌≡◌, Bool, List, All, subst}
use Rattle.std.specs.Bool.{MatchBool}
use Rattle.driver_model.specs.declared.config.Config.{Config}
use Rattle.driver_model.specs.declared.event.Event.{Event}
use Rattle.driver_model.specs.declared.kind.SessionKind.{SessionKind}
use Rattle.driver_model.specs.Config.{kind_of}
use Rattle.text_laws.specs.Fits.{WithForm, HaveForms}

-- the events of a session of this configuration have forms as those of one of its kind
pub all_formed : (config : Config) (events : List Event) (session : SessionKind) (all : Bool) → session ≡ kind_of config → MatchBool all (All (WithForm session) events) (All (WithForm session) events → ⊥)
    → MatchBool all (HaveForms config events) (HaveForms config events → ⊥)
all_formed config events session all is each = subst (λ (k : SessionKind). MatchBool all (All (WithForm k) events) (All (WithForm k) events → ⊥)) is each
