-- Where a redirect leads: its detail is a slot, one space, and an address.
use Rattle.std.specs.Prelude.{◌≡◌, ℕ, ◌+◌, ◌-◌, ◌*◌, ◌<◌, Bool, true, false, ◌&&◌, ◌==◌, nat_le, nat_lt, List, [], ◌∷◌, ◌++◌, Option, Some, None, codes, if◌then◌else◌}
use Rattle.std.specs.Str.{byte}
use Rattle.std.specs.Str.Parse.{IsNumeral, digits_value}
use Rattle.resp_value.specs.declared.server_error.ServerError.{ServerError}
use Rattle.resp_value.specs.ErrorTable.{Table, by_code}

-- the codes of redirects: whether the one command alone goes there
abbrev pub redirects : Table (Option Bool)
redirects = (codes "MOVED", Some false) ∷ (codes "ASK", Some true) ∷ []

unfoldable pub is_for_one_command : List ℕ → Option Bool
is_for_one_command code = by_code redirects None code

-- how many slots there are
abbrev pub slots : ℕ
slots = 16_384

-- `0` to `9`
abbrev pub is_digit : ℕ → Bool
is_digit b = nat_le 48 b && nat_le b 57

-- how a place is read, byte by byte: the digits of a slot after those of n, and what stands behind the space after them
abbrev pub slot_after : ℕ → List ℕ → Option (ℕ × List ℕ)
slot_after n [] = None
slot_after n (b ∷ bs) =
    if b == 32 then Some (n, bs) else (
    if is_digit b && nat_lt (10 * n + (b - 48)) slots then slot_after (10 * n + (b - 48)) bs else None)

-- a slot of one digit at least, below how many there are, one space, and the text of an address
abbrev pub slot_and_address : List ℕ → Option (ℕ × List ℕ)
slot_and_address [] = None
slot_and_address (b ∷ bs) = if b == 32 then None else slot_after 0 (b ∷ bs)

-- a slot and the text of an address in a detail: the decimal digits of the slot, one at least, one space, and the address
abbrev pub IsPlace : List ℕ → ℕ → List ℕ → Type 0
IsPlace detail slot address = (digits : List ℕ) × (detail ≡ digits ++ byte " " ∷ address) × IsNumeral 10 digits × (digits_value 10 digits ≡ slot) × (slot < slots)

abbrev pub LacksPlace : List ℕ → Type 0
LacksPlace detail = (slot : ℕ) (address : List ℕ) → IsPlace detail slot address → ⊥

-- an error leads to that slot at that address, for the one command alone or for all: its code is one of a redirect, and its detail has the place
abbrev pub IsRedirect : ServerError → ℕ → List ℕ → Bool → Type 0
IsRedirect e slot address ask = (is_for_one_command e.code ≡ Some ask) × ((detail : List ℕ) × (e.detail ≡ Some detail) × IsPlace detail slot address)

-- it leads nowhere
abbrev pub LeadsNowhere : ServerError → Type 0
LeadsNowhere e = (slot : ℕ) (address : List ℕ) (ask : Bool) → IsRedirect e slot address ask → ⊥
