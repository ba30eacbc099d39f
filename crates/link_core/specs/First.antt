-- A list with its first item of a kind replaced.
use Rattle.std.specs.Prelude.{Bool, List, [], ◌∷◌, ◌++◌, if◌then◌else◌}

-- the first item that passes the test gives way to these items
abbrev pub first_replaced : {X : Type 0} → (X → Bool) → (X → List X) → List X → List X
first_replaced test items [] = []
first_replaced test items (x ∷ xs) = if test x then items x ++ xs else x ∷ first_replaced test items xs
