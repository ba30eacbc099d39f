-- How the code reads decimal digits, byte by byte. What a number is stands in Grammar, and lemmas say that the two agree.
use Rattle.std.specs.Prelude.{◌≤◌, ℕ, ◌+◌, ◌-◌, ◌*◌, ℤ, pos, neg_ℤ, Bool, true, false, ◌==◌, nat_le, List, [], ◌∷◌, Option, Some, None, option_map, if◌then◌else◌}
use Rattle.resp_read.specs.Grammar.{is_digit, at_most}
use Rattle.resp_read.specs.declared.digits.Sign.{Sign}
use Rattle.resp_read.specs.declared.digits.Sign.TheVariants.{NoSign, Plus, Minus}
use Rattle.resp_read.specs.declared.digits.Digits.{Digits}
use Rattle.resp_read.specs.declared.digits.Digits.TheVariants.{Empty, Signed, Number, Above, Never}

-- the greatest number that is kept
abbrev pub greatest : ℕ
greatest = 9_223_372_036_854_775_808

-- digits with this number
abbrev pub kept : Sign → ℕ → Digits
kept s n = if nat_le n greatest then Number s n else Above

-- one digit more, or no number
abbrev pub digit_to : Sign → ℕ → ℕ → Digits
digit_to s n b = if is_digit b then kept s (10 * n + (b - 48)) else Never

-- one byte more
abbrev pub digits_step : Digits → ℕ → Digits
digits_step Empty b = if b == 45 then Signed Minus else if b == 43 then Signed Plus else digit_to NoSign 0 b
digits_step (Signed s) b = digit_to s 0 b
digits_step (Number s n) b = digit_to s n b
digits_step Above b = if is_digit b then Above else Never
digits_step Never b = Never

-- and these bytes more
abbrev pub digits_run : Digits → List ℕ → Digits
digits_run d [] = d
digits_run d (b ∷ bs) = digits_run (digits_step d b) bs

-- the number of these digits within the limit, where no sign stands before them
abbrev pub natural_in : ℕ → Digits → Option ℕ
natural_in most (Number NoSign n) = at_most (Some most) (Some n)
natural_in most (Number Plus n) = None
natural_in most (Number Minus n) = None
natural_in most Empty = None
natural_in most (Signed s) = None
natural_in most Above = None
natural_in most Never = None

-- the number of 64 bits, with its sign
abbrev pub number_in : Digits → Option ℤ
number_in (Number NoSign n) = option_map pos (at_most (Some 9_223_372_036_854_775_807) (Some n))
number_in (Number Plus n) = option_map pos (at_most (Some 9_223_372_036_854_775_807) (Some n))
number_in (Number Minus n) = Some (neg_ℤ (pos n))
number_in Empty = None
number_in (Signed s) = None
number_in Above = None
number_in Never = None

-- nothing but a sign has come
abbrev pub is_bare : Digits → Bool
is_bare Empty = true
is_bare (Signed s) = true
is_bare (Number s n) = false
is_bare Above = false
is_bare Never = false

-- there are digits
abbrev pub are_digits : Digits → Bool
are_digits Empty = false
are_digits (Signed s) = false
are_digits (Number s n) = true
are_digits Above = true
are_digits Never = false

-- a number that is kept is no greater than the greatest
abbrev pub AreKept : Digits → Type 0
AreKept (Number s n) = n ≤ greatest
AreKept Empty = Unit {0}
AreKept (Signed s) = Unit {0}
AreKept Above = Unit {0}
AreKept Never = Unit {0}
