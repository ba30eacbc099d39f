-- The earliest and the latest of three, whichever two are asked first.
use Rattle.std.proofs.Common.{◌≡◌, ℕ, nat_lt, Bool, true, false, Option, Some, None, refl, arith, if◌then◌else◌}
use Rattle.std.proofs.lemmas.Bool.Decides.{nat_tests}
use Rattle.fan_out.specs.Came.{earlier, later}

pub earlier_of_three : {A : Type 0} (a b c : Option (ℕ × A)) → earlier (earlier a b) c ≡ earlier a (earlier b c)
earlier_of_three None b c = refl
earlier_of_three (Some x) None c = refl
earlier_of_three (Some x) (Some y) None = by (nat_lt y.0 x.0)
  where
    by : (t : Bool) → earlier (if t then Some y else Some x) None ≡ (if t then Some y else Some x)
    by true = refl
    by false = refl
earlier_of_three (Some x) (Some y) (Some z) = grind (arith, nat_tests)

pub later_of_three : {A : Type 0} (a b c : Option (ℕ × A)) → later (later a b) c ≡ later a (later b c)
later_of_three None b c = refl
later_of_three (Some x) None c = refl
later_of_three (Some x) (Some y) None = by (nat_lt y.0 x.0)
  where
    by : (t : Bool) → later (if t then Some x else Some y) None ≡ (if t then Some x else Some y)
    by true = refl
    by false = refl
later_of_three (Some x) (Some y) (Some z) = grind (arith, nat_tests)
