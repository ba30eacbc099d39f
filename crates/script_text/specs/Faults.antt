-- Where a line is at fault, and why.
use Rattle.std.specs.Prelude.{◌≡◌, ℕ, ◌-◌, Bool, true, false, not, ◌==◌, ◌&&◌, nat_le, nat_lt, List, [], ◌∷◌, flat_map, length, slice_get, Option, Some, None, is_some, is_none, if◌then◌else◌}
use Rattle.percent_encoding.specs.Percent.{percent_encode_byte}
use Rattle.script_text.specs.declared.fault.Fault.{Fault}
use Rattle.script_text.specs.declared.reason.Reason.{Reason}
use Rattle.script_text.specs.declared.reason.Reason.TheVariants as reason
use Rattle.script_text.specs.declared.reason.ConfigReason.TheVariants as config

-- a fault is found exactly where a reader finds nothing
abbrev pub FindsFault : {A : Type 0} → Option Fault → Option A → Type 0
FindsFault found read = is_some found ≡ is_none read

-- the fault of a part
abbrev pub at : Reason → ℕ → Fault
at why part = record { reason = why; part = part }

-- what is wrong with the values that words give a key, where it isn't just the right one
abbrev pub values_reason : List (List ℕ) → Reason → Reason
values_reason [] wrong = reason.Config config.NoKey
values_reason (value ∷ []) wrong = wrong
values_reason (value ∷ next ∷ more) wrong = reason.Config config.KeyTwice

-- this byte is CR
abbrev pub is_return : Option ℕ → Bool
is_return None = false
is_return (Some b) = b == 13

-- the last byte is CR
abbrev pub ends_in_return : List ℕ → Bool
ends_in_return line = is_return (slice_get line (length line - 1))

-- a byte of ASCII that has a shape, or a space
abbrev pub is_visible : ℕ → Bool
is_visible b = nat_le 0x20 b && nat_lt b 0x7F

-- any other byte is shown as `%` and its two hexadecimal digits
abbrev pub visible_byte : ℕ → List ℕ
visible_byte b = if is_visible b then b ∷ [] else percent_encode_byte b

-- a text in which each byte that isn't visible is shown so
pub record IsVisible (text : List ℕ) : Type 0 where
  pub said : List ℕ
  pub is : text ≡ flat_map visible_byte said
