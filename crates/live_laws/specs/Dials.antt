-- Which links were dialled, and which a session asked to connect.
use Rattle.std.specs.Prelude.{◌≡◌, ◌⊎◌, ℕ, ◌≤◌, suc, List, [], ◌∷◌, ◌++◌}
use Rattle.driver_model.specs.declared.action.Action.{Action}
use Rattle.driver_model.specs.declared.action.Action.TheVariants as action
use Rattle.outside.specs.declared.world.Call.{Call}
use Rattle.outside.specs.declared.world.Call.TheVariants as call

-- the link that a call dialled, whatever was answered
abbrev pub dials_by : Call → List ℕ
dials_by (call.Dial l host port answer) = l ∷ []
dials_by _ = []

-- the links that calls dialled, in order
abbrev pub dials_in : List Call → List ℕ
dials_in [] = []
dials_in (c ∷ cs) = dials_by c ++ dials_in cs

-- the link that an action asks to connect
abbrev pub connects_by : Action → List ℕ
connects_by (action.Connect l host port) = l ∷ []
connects_by _ = []

-- the links that actions ask to connect, in order
abbrev pub connects_in : List Action → List ℕ
connects_in [] = []
connects_in (x ∷ xs) = connects_by x ++ connects_in xs

-- the first list comes of the second by leaving some out
abbrev pub IsPicked : List ℕ → List ℕ → Type 0
IsPicked [] ys = Unit {0}
IsPicked (x ∷ xs) [] = ⊥
IsPicked (x ∷ xs) (y ∷ ys) = ((x ≡ y) × IsPicked xs ys) ⊎ IsPicked (x ∷ xs) ys

-- the numbers rise, from some number on
abbrev pub Rises : ℕ → List ℕ → Type 0
Rises from [] = Unit {0}
Rises from (n ∷ ns) = (from ≤ n) × Rises (suc n) ns
