-- The limits of the reader, as texts at each limit and one past it.
use Rattle.std.specs.Prelude.{◌≡◌, ◌≢◌, ℕ, zero, suc, pos, List, [], ◌∷◌, ◌++◌, length, codes}
use Rattle.std.specs.List.{All}
use Rattle.resp_value.specs.declared.push_kind.PushKind.TheVariants.{Other}
use Rattle.resp_value.specs.Data.{Data, nil, int, array, simple, dict, attribute, set, push, items_of, members_of}
use Rattle.resp_read.specs.Reads.{Reads, IsMalformed}

-- how a value stands alone in another: the bytes before it, and what the other is
pub record Wrapping : Type 0 where
  pub before : List ℕ
  pub around : Data → Data

-- a text in so many of these, one in another
abbrev pub wrapped_text : Wrapping → List ℕ → ℕ → List ℕ
wrapped_text w text zero = text
wrapped_text w text (suc n) = w.before ++ wrapped_text w text n

-- the value that it is, where the text is v
abbrev pub wrapped : Wrapping → Data → ℕ → Data
wrapped w v zero = v
wrapped w v (suc n) = w.around (wrapped w v n)

-- in an array, a set, a map, a push and an attribute's value
abbrev pub wrappings : List Wrapping
wrappings =
    record { before = codes "*1\r\n"; around = λ d. array (items_of (d ∷ [])) }
    ∷ record { before = codes "~1\r\n"; around = λ d. set (items_of (d ∷ [])) }
    ∷ record { before = codes "%1\r\n+k\r\n"; around = λ d. dict (members_of ((simple (codes "k"), d) ∷ [])) }
    ∷ record { before = codes ">2\r\n+k\r\n"; around = λ d. push (Other (codes "k")) (items_of (d ∷ [])) }
    ∷ record { before = codes "|1\r\n+k\r\n_\r\n"; around = λ d. attribute d (members_of ((simple (codes "k"), nil) ∷ [])) }
    ∷ []

-- so many of them may stand in one another, with a number inside
abbrev pub MayNest : ℕ → Wrapping → Type 0
MayNest n w = (rest : List ℕ) → Reads (wrapped_text w (codes ":1\r\n") n ++ rest) (wrapped w (int (pos 1)) n) rest

-- or with the array that is Nil
abbrev pub MayHoldNil : ℕ → Wrapping → Type 0
MayHoldNil n w = (rest : List ℕ) → Reads (wrapped_text w (codes "*-1\r\n") n ++ rest) (wrapped w nil n) rest

-- so many may not
abbrev pub MayNotNest : ℕ → Wrapping → Type 0
MayNotNest n w = IsMalformed (wrapped_text w (codes ":1\r\n") n)

-- nor so many with an empty array inside
abbrev pub MayNotHoldEmpty : ℕ → Wrapping → Type 0
MayNotHoldEmpty n w = IsMalformed (wrapped_text w (codes "*0\r\n") n)

-- nor so many with an array of a size below -1 inside
abbrev pub MayNotHoldLess : ℕ → Wrapping → Type 0
MayNotHoldLess n w = IsMalformed (wrapped_text w (codes "*-2\r\n") n)

-- a line of so many bytes, none of them a CR, is a simple string
abbrev pub IsReadToItsEnd : ℕ → Type 0
IsReadToItsEnd n = (text rest : List ℕ) → length text ≡ n → All (λ b. b ≢ 13) text → Reads (codes "+" ++ text ++ (codes "\r\n" ++ rest)) (simple text) rest

-- so many bytes of a line, none of them a CR, begin no value
abbrev pub IsTooLong : ℕ → Type 0
IsTooLong n = (text : List ℕ) → length text ≡ n → All (λ b. b ≢ 13) text → IsMalformed (codes "+" ++ text)

-- the longest texts and the most values that may be announced
abbrev pub greatest_lengths : List (List ℕ)
greatest_lengths =
    codes "$536870912\r\n"
    ∷ codes "!536870912\r\n"
    ∷ codes "=536870912\r\n"
    ∷ codes "*2147483647\r\n"
    ∷ codes "~2147483647\r\n"
    ∷ codes "%2147483647\r\n"
    ∷ codes ">2147483647\r\n"
    ∷ codes "|2147483647\r\n"
    ∷ codes ">1\r\n$536870912\r\n"
    ∷ []

-- and one more
abbrev pub lengths_too_great : List (List ℕ)
lengths_too_great =
    codes "$536870913"
    ∷ codes "!536870913"
    ∷ codes "=536870913"
    ∷ codes "*2147483648"
    ∷ codes "~2147483648"
    ∷ codes "%2147483648"
    ∷ codes ">2147483648"
    ∷ codes "|2147483648"
    ∷ codes ">1\r\n$536870913"
    ∷ []
