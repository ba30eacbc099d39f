-- Reading a slot and an address byte by byte finds exactly the details that have them.
use Rattle.std.proofs.Common.{◌≡◌, ℕ, ◌+◌, ◌-◌, ◌*◌, ◌<◌, ◌≤◌, Bool, true, false, cond, List, [], ◌∷◌, ◌++◌, length, Option, Some, None, MatchOption, ◌==◌, ◌&&◌, nat_lt, lit<, refl, sym, ap, ◌∙◌, subst, arith}
use Rattle.std.specs.Char.{digit_value}
use Rattle.std.specs.Str.Parse.{AllDigits, IsNumeral, digits_value, digits_value_after}
use Rattle.std.proofs.lemmas.Bool.Decides.{nat_tests}
use Rattle.std.specs.Borrow.{Bor}
use Rattle.resp_value.specs.declared.server_error.ServerError.{ServerError}
use Rattle.resp_value.specs.Redirect.{IsPlace, LacksPlace, LeadsNowhere, slots, is_digit, slot_after, slot_and_address}

grows : (n : ℕ) (ds : List ℕ) → n ≤ digits_value_after 10 n ds
grows n [] = omega arith
grows n (d ∷ ds) = omega (arith, grows (n * 10 + digit_value d) ds)

-- a decimal digit, by its value and by its byte
digit : (d : ℕ) → digit_value d < 10 → (48 ≤ d) × (d ≤ 57) × (digit_value d ≡ d - 48)
digit d h = (grind (arith, nat_tests), grind (arith, nat_tests), grind (arith, nat_tests))

digit_back : (d : ℕ) → 48 ≤ d → d ≤ 57 → digit_value d ≡ d - 48
digit_back d low high = grind (arith, nat_tests)

space_first : (n b : ℕ) (bs : List ℕ) → b ≡ 32 → slot_after n (b ∷ bs) ≡ Some (n, bs)
space_first n b bs is = let c : (b == 32) ≡ true = grind (arith, nat_tests) in rw c refl

digit_first : (n b : ℕ) (bs : List ℕ) → 48 ≤ b → b ≤ 57 → 10 * n + (b - 48) < slots → slot_after n (b ∷ bs) ≡ slot_after (10 * n + (b - 48)) bs
digit_first n b bs low high fits =
    let c : (b == 32) ≡ false = grind (arith, nat_tests) in
    let d : (is_digit b && nat_lt (10 * n + (b - 48)) slots) ≡ true = grind (arith, nat_tests) in
    rw c (rw d refl)

other_first : (n b : ℕ) (bs : List ℕ) → (b == 32) ≡ false → (is_digit b && nat_lt (10 * n + (b - 48)) slots) ≡ false → slot_after n (b ∷ bs) ≡ None
other_first n b bs c d = rw c (rw d refl)

whole_after : (n : ℕ) (ds address : List ℕ) → AllDigits 10 ds → digits_value_after 10 n ds < slots → slot_after n (ds ++ 32 ∷ address) ≡ Some (digits_value_after 10 n ds, address)
whole_after n [] address all fits = space_first n 32 address refl
whole_after n (d ∷ ds) address all fits =
    let is = digit d all.0 in
    let value : 10 * n + (d - 48) ≡ n * 10 + digit_value d = omega (arith, is.2) in
    let rest = whole_after (n * 10 + digit_value d) ds address all.1 fits in
    digit_first n d (ds ++ 32 ∷ address) is.0 is.1 (omega (arith, value, grows (n * 10 + digit_value d) ds)) ∙ ap (λ m. slot_after m (ds ++ 32 ∷ address)) value ∙ rest

-- what was read is there
abbrev IsFound : ℕ → List ℕ → Option (ℕ × List ℕ) → Type 0
IsFound n bs None = Unit {0}
IsFound n bs (Some p) = (ds : List ℕ) × (bs ≡ ds ++ 32 ∷ p.1) × AllDigits 10 ds × (digits_value_after 10 n ds ≡ p.0) × (p.0 < slots)

digit_more : (n m b : ℕ) (bs : List ℕ) (r : Option (ℕ × List ℕ)) → digit_value b < 10 → n * 10 + digit_value b ≡ m → IsFound m bs r → IsFound n (b ∷ bs) r
digit_more n m b bs None d v found = tt
digit_more n m b bs (Some p) d v found =
    (b ∷ found.0, ap (λ cs. b ∷ cs) found.1, (d, found.2), ap (λ k. digits_value_after 10 k found.0) v ∙ found.3, found.4)

by_digit : (t : Bool) (n b : ℕ) (bs : List ℕ) → (is_digit b && nat_lt (10 * n + (b - 48)) slots) ≡ t → ((m : ℕ) → m < slots → IsFound m bs (slot_after m bs)) → IsFound n (b ∷ bs) (cond t (slot_after (10 * n + (b - 48)) bs) None)
by_digit true n b bs is rest =
    let low : 48 ≤ b = grind (arith, nat_tests) in
    let high : b ≤ 57 = grind (arith, nat_tests) in
    let fits : 10 * n + (b - 48) < slots = grind (arith, nat_tests) in
    let value = digit_back b low high in
    digit_more n (10 * n + (b - 48)) b bs (slot_after (10 * n + (b - 48)) bs) (omega (arith, value)) (omega (arith, value)) (rest (10 * n + (b - 48)) fits)
by_digit false n b bs is rest = tt

by_space : (t : Bool) (n b : ℕ) (bs : List ℕ) → (b == 32) ≡ t → n < slots → ((m : ℕ) → m < slots → IsFound m bs (slot_after m bs)) → IsFound n (b ∷ bs) (cond t (Some (n, bs)) (cond (is_digit b && nat_lt (10 * n + (b - 48)) slots) (slot_after (10 * n + (b - 48)) bs) None))
by_space true n b bs is h rest =
    let space : b ≡ 32 = grind (arith, nat_tests) in
    ([], ap (λ c. c ∷ bs) space, tt, refl, h)
by_space false n b bs is h rest = by_digit (is_digit b && nat_lt (10 * n + (b - 48)) slots) n b bs refl rest

found_after : (bs : List ℕ) (n : ℕ) → n < slots → IsFound n bs (slot_after n bs)
found_after [] n h = tt
found_after (b ∷ bs) n h = by_space (b == 32) n b bs refl h (found_after bs)

-- the first byte of a text
abbrev first_byte : List ℕ → ℕ
first_byte [] = 0
first_byte (b ∷ bs) = b

none_some : {A : Type 0} (a : A) → None ≡ Some a → ⊥
none_some a e = cc

-- digits before a space, of which the first byte is one
some_digits : (ds : List ℕ) (b : ℕ) (bs address : List ℕ) → ((b == 32) ≡ false) → b ∷ bs ≡ ds ++ 32 ∷ address → 0 < length ds
some_digits [] b bs address other is =
    let space : b ≡ 32 = ap first_byte is in
    absurd (grind (arith, nat_tests))
some_digits (d ∷ ds) b bs address other is = omega arith

placed_behind : (t : Bool) (b : ℕ) (bs : List ℕ) (p : ℕ × List ℕ) → (b == 32) ≡ t → cond t None (slot_after 0 (b ∷ bs)) ≡ Some p → IsPlace (b ∷ bs) p.0 p.1
placed_behind true b bs p is e = absurd (none_some p e)
placed_behind false b bs p is e =
    let found : IsFound 0 (b ∷ bs) (Some p) = subst (IsFound 0 (b ∷ bs)) e (found_after (b ∷ bs) 0 (lit< tt)) in
    (found.0, found.1, (some_digits found.0 b bs p.1 is found.1, found.2), found.3, found.4)

placed : (bs : List ℕ) (p : ℕ × List ℕ) → slot_and_address bs ≡ Some p → IsPlace bs p.0 p.1
placed [] p e = absurd (none_some p e)
placed (b ∷ bs) p e = placed_behind (b == 32) b bs p refl e

read_whole : (ds address : List ℕ) → IsNumeral 10 ds → digits_value 10 ds < slots → slot_and_address (ds ++ 32 ∷ address) ≡ Some (digits_value 10 ds, address)
read_whole [] address numeral fits = absurd (omega (arith, numeral.0))
read_whole (d ∷ ds) address numeral fits =
    let is = digit d numeral.1.0 in
    let c : (d == 32) ≡ false = grind (arith, nat_tests) in
    ap (λ t. cond t None (slot_after 0 (d ∷ (ds ++ 32 ∷ address)))) c ∙ whole_after 0 (d ∷ ds) address numeral.1 fits

not_placed : (bs : List ℕ) → slot_and_address bs ≡ None → (slot : ℕ) (address : List ℕ) → IsPlace bs slot address → ⊥
not_placed bs e slot address place =
    let fits : digits_value 10 place.0 < slots = rw place.3 place.4 in
    none_some (digits_value 10 place.0, address) (sym e ∙ ap slot_and_address place.1 ∙ read_whole place.0 address place.2 fits)

pub placed_or_not : (bs : List ℕ) (r : Option (ℕ × Bor (List ℕ))) → MatchOption r (slot_and_address bs ≡ None) (λ p. slot_and_address bs ≡ Some (p.0, p.1.now)) → MatchOption r (LacksPlace bs) (λ p. IsPlace bs p.0 p.1.now)
placed_or_not bs None e = not_placed bs e
placed_or_not bs (Some p) e = placed bs (p.0, p.1.now) e

abbrev value_or : {A : Type 0} → A → Option A → A
value_or a None = a
value_or a (Some b) = b

-- an error leads nowhere whose detail, of these bytes, lacks a place
pub no_place : (e : ServerError) (detail bs : List ℕ) → e.detail ≡ Some detail → bs ≡ detail → LacksPlace bs → LeadsNowhere e
no_place e detail bs at is lacks slot address ask redirect =
    let same : redirect.1.0 ≡ bs = ap (value_or bs) (sym redirect.1.1 ∙ at) ∙ sym is in
    lacks slot address (subst (λ x. IsPlace x slot address) same redirect.1.2)
