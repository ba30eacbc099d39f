-- Facts of both choices of a test, and members of lists.
use Rattle.std.proofs.Common.{◌≡◌, Bool, true, false, ◌&&◌, refl, if◌then◌else◌}

pub of_either : {A : Type 0} (P : A → Type 0) (b : Bool) (x y : A) → P x → P y → P (if b then x else y)
of_either P true x y h g = h
of_either P false x y h g = g

pub and_false : (p : Bool) → (p && false) ≡ false
and_false true = refl
and_false false = refl
