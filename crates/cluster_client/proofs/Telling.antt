-- What is said where something is set, and where it isn't.
use Rattle.std.proofs.Common.{◌≡◌, Option, Some, None, refl}
use Rattle.std.specs.Prelude.{unwrap_or}
use Rattle.std.specs.Option.{option_or}

pub or_set : {X : Type 0} (o p : Option X) (x : X) → o ≡ Some x → option_or o p ≡ Some x
or_set None p x e = cc
or_set (Some y) p x e = e

pub or_unset : {X : Type 0} (o p : Option X) → o ≡ None → option_or o p ≡ p
or_unset None p e = refl
or_unset (Some y) p e = cc

pub unwrap_set : {X : Type 0} (o : Option X) (d x : X) → o ≡ Some x → unwrap_or o d ≡ x
unwrap_set None d x e = cc
unwrap_set (Some y) d x e = cc

pub unwrap_unset : {X : Type 0} (o : Option X) (d : X) → o ≡ None → unwrap_or o d ≡ d
unwrap_unset None d e = refl
unwrap_unset (Some y) d e = cc
