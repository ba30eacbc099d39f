-- The addresses that texts of ASCII are.
use Rattle.std.proofs.Common.{◌≡◌, ℕ, ◌-◌, ◌<◌, nat_lt, Bool, true, ◌&&◌, List, [], ◌∷◌, Option, None, take, drop, if◌then◌else◌, refl, ap, ◌∙◌}
use Rattle.std.specs.List.{All}
use Rattle.std.specs.Str.{is_utf8}
use Rattle.std.proofs.lemmas.List.Elements.{All-nil, All-cons}
use Rattle.std.proofs.lemmas.Str.{IsUtf8-from_ascii, is_utf8-from_IsUtf8}
use Rattle.std.proofs.lemmas.Str.Ascii.{IsAscii-from_all}
use Rattle.containers.proofs.Choices.{both_left, both_right, lt_from}
use Rattle.slot_hash.specs.declared.address.NodeAddress.{NodeAddress}
use Rattle.slot_hash.specs.Address.{end_of_last, bare, port_of, joined, address_of}
use Rattle.protocol_examples.specs.Slots.{addresses}
use Rattle.protocol_examples.specs.Tables.{Gives}
use Rattle.protocol_examples.proofs.Computed.{each_same, gives}

-- each byte is below 128
abbrev is_plain : List ℕ → Bool
is_plain [] = true
is_plain (b ∷ bs) = nat_lt b 128 && is_plain bs

all_plain : (bs : List ℕ) → is_plain bs ≡ true → All (λ b. b < 128) bs
all_plain [] e = All-nil (λ b. b < 128)
all_plain (b ∷ bs) e = All-cons (λ c. c < 128) b bs (lt_from b 128 (both_left (nat_lt b 128) (is_plain bs) e)) (all_plain bs (both_right (nat_lt b 128) (is_plain bs) e))

plain_text : (bs : List ℕ) → is_plain bs ≡ true → is_utf8 bs ≡ true
plain_text bs e = is_utf8-from_IsUtf8 bs (IsUtf8-from_ascii bs (IsAscii-from_all bs (all_plain bs e)))

-- the address that a text is, where it is UTF-8 or isn't
abbrev address_by : List ℕ → Bool → Option NodeAddress
address_by text utf8 =
    if utf8 && nat_lt 0 (end_of_last 58 text)
    then joined (bare (take (end_of_last 58 text - 1) text)) (port_of (drop (end_of_last 58 text) text))
    else None

plain_address : (text : List ℕ) (a : Option NodeAddress) → is_plain text ≡ true → address_by text true ≡ a → address_of text ≡ a
plain_address text a plain e = ap (address_by text) (plain_text text plain) ∙ e

-- a table of such texts
plain_rows : (rows : List (List ℕ × Option NodeAddress)) → All (λ row. is_plain row.0 ≡ true) rows → All (λ row. address_by row.0 true ≡ row.1) rows → Gives address_of rows
plain_rows rows plain e k d l = plain_address _ _ (plain k d l) (e k d l)

pub each_address : Gives address_of addresses
each_address = plain_rows addresses (each_same (λ row. is_plain row.0) (λ row. true) addresses refl) (gives (λ text. address_by text true) addresses refl)
