-- Which values hold no other.
use Rattle.std.specs.Prelude.{Bool, true, false}
use Rattle.resp_value.specs.declared.value.Value.{Value}
use Rattle.resp_value.specs.declared.value.Value.TheVariants.{Array, Map, Attribute, Set, Push}

abbrev pub is_single : Value → Bool
is_single (Array ds) = false
is_single (Map ps) = false
is_single (Attribute d ps) = false
is_single (Set ds) = false
is_single (Push k ds) = false
is_single _ = true
