-- Which bytes are text, and what is said to the server of an address.
use Rattle.std.proofs.Common.{◌≡◌, ℕ, true, false, List, Option, Some, option_map, refl, sym, ap}
use Rattle.std.specs.Prelude.{unwrap_or}
use Rattle.std.specs.Str.{is_utf8, IsUtf8}
use Rattle.connection_info.specs.declared.address.ConnectionInfo.{ConnectionInfo}
use Rattle.driver_model.specs.declared.config.Config.{Config}
use Rattle.driver_model.specs.Config.{address, told_of, told_info, bare_info}
use Rattle.std.proofs.lemmas.Str.{is_utf8-from_IsUtf8, IsUtf8-from_is_utf8}

pub utf8_true : (bytes : List ℕ) → IsUtf8 bytes → is_utf8 bytes ≡ true
utf8_true bytes h = is_utf8-from_IsUtf8 bytes h

pub utf8_false : (bytes : List ℕ) → ¬ (IsUtf8 bytes) → is_utf8 bytes ≡ false
utf8_false bytes h = elim (is_utf8 bytes) as (λ b. (is_utf8 bytes ≡ b → b ≡ false)) [ true ↦ λ e. absurd (h (IsUtf8-from_is_utf8 bytes e)) | false ↦ λ e. refl ] refl

-- what is said to a server is known by its address
pub told_at : (c : Config) (info : ConnectionInfo) → address c ≡ Some info → told_of c info ≡ told_info c
told_at c info e = ap (λ (found : Option ConnectionInfo). unwrap_or (option_map (told_of c) found) bare_info) (sym e)
