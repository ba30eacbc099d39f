-- What a sender is handed, and the pushes of actions.
use Rattle.std.specs.Prelude.{◌≡◌, ℕ, ◌+◌, ◌-◌, ◌^◌, ◌≤◌, min, List, [], ◌∷◌, ◌++◌, Option, Some}
use Rattle.driver_model.specs.declared.push_info.PushInfo.{PushInfo}
use Rattle.driver_model.specs.declared.action.Action.{Action}
use Rattle.driver_model.specs.declared.action.Action.TheVariants as action

-- a count of refusals has risen, or stands at the end of its type
abbrev pub Rose : ℕ → ℕ → Type 0
Rose before now = min (before + 1) (2 ^ 64 - 1) ≤ now

-- what a sender was handed, if it tells, is what it was handed before and then these pushes
pub record Gained (old new : Option (List PushInfo)) (more : List PushInfo) : Type 0 where
  pub handed : (before : List PushInfo) → old ≡ Some before → new ≡ Some (before ++ more)

-- what a sender was handed, if it tells, is what it was handed before and then a front of these pushes, or all of them
pub record GainedPart (old new : Option (List PushInfo)) (more : List PushInfo) : Type 0 where
  pub front : List PushInfo
  pub rest : List PushInfo
  pub whole : more ≡ front ++ rest
  pub gained : Gained old new front

-- the push that an action is
abbrev pub push_of : Action → List PushInfo
push_of (action.Push link info) = info ∷ []
push_of _ = []

-- the pushes among actions, in order
abbrev pub pushes_of : List Action → List PushInfo
pushes_of [] = []
pushes_of (x ∷ xs) = push_of x ++ pushes_of xs
