-- A source or a sink, as far as it tells.
use Rattle.std.specs.Prelude.{◌≡◌, ℕ, List, Option, Some}
use Rattle.outside.specs.Ends.{Rose}

-- the bytes that a source has left or that a sink holds, where it tells, and how often it has failed
pub record Side : Type 0 where
  pub bytes : Option (List ℕ)
  pub faults : ℕ

abbrev pub side : Option (List ℕ) → ℕ → Side
side bytes faults = record { bytes = bytes; faults = faults }

-- its count of faults rose
abbrev pub Fails : Side → Side → Type 0
Fails old new = Rose old.faults new.faults

-- that is so of its bytes, where it tells them
abbrev pub IfTold : Side → (List ℕ → Type 0) → Type 0
IfTold s P = (bytes : List ℕ) → s.bytes ≡ Some bytes → P bytes
