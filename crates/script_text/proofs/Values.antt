-- The values that words give a key.
use Rattle.std.proofs.Common.{◌≡◌, ℕ, Bool, true, false, not, ◌&&◌, ◌==◌, List, [], ◌∷◌, length, Option, Some, None, option_map, refl, sym, ap, ◌∙◌, if◌then◌else◌, arith}
use Rattle.std.specs.Prelude.{is_some, is_none}
use Rattle.containers.proofs.Choices.{ne_test}
use Rattle.script_text.specs.ConfigLine.{only, allows}

-- one value
pub allowed_once : {A : Type 0} (read : List ℕ → Option A) (values : List (List ℕ)) (value : List ℕ) → only values ≡ Some value → is_some (read value) ≡ allows read values
allowed_once read [] value one = cc
allowed_once read (v ∷ []) value one = cc
allowed_once read (v ∷ next ∷ more) value one = cc

-- none, or more than one
pub allowed_never : {A : Type 0} (read : List ℕ → Option A) (values : List (List ℕ)) → only values ≡ None → not (not (length values == 0)) ≡ allows read values
allowed_never read [] none = refl
allowed_never read (v ∷ []) none = cc
allowed_never read (v ∷ next ∷ more) none = ap (λ b. not (not b)) (ne_test (length (v ∷ next ∷ more)) 0 (λ e. omega (arith, e)))

-- what is found is nothing exactly where nothing is found
pub none_mapped : {A B : Type 0} (f : A → B) (x : Option A) → is_none (option_map f x) ≡ is_none x
none_mapped f None = refl
none_mapped f (Some a) = refl

-- both of two tests hold, and what is found tells
pub both_told : {A B : Type 0} (a b found : Bool) (f : A → B) (x : Option A) → false ≡ not a → false ≡ not b → found ≡ is_none x → found ≡ is_none (if a && b then option_map f x else None)
both_told true true found f x first second tells = tells ∙ sym (none_mapped f x)
both_told true false found f x first second tells = cc
both_told false b found f x first second tells = cc

-- the second of two tests fails, so that nothing is read
pub none_allowed : {A : Type 0} (a b : Bool) (x : Option A) → true ≡ not b → true ≡ is_none (if a && b then x else None)
none_allowed true true x fails = cc
none_allowed true false x fails = refl
none_allowed false b x fails = refl

-- the first of two tests fails
pub first_fails : (a b : Bool) → true ≡ not a → true ≡ not (a && b)
first_fails true b fails = cc
first_fails false b fails = refl

-- the first of two tests holds, and the second tells
pub second_tells : (a b found : Bool) → false ≡ not a → found ≡ not b → found ≡ not (a && b)
second_tells true b found holds tells = tells
second_tells false b found holds tells = cc
