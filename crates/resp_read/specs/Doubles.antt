-- How the code reads a double, byte by byte. What a double is stands in Grammar, and a lemma says that the two agree.
use Rattle.std.specs.Prelude.{ℕ, List, [], ◌∷◌, Option, Some, None, ◌||◌, ◌==◌, if◌then◌else◌}
use Rattle.resp_read.specs.Grammar.{is_digit}
use Rattle.resp_read.specs.declared.decimals.Seen.{Seen}
use Rattle.resp_read.specs.declared.decimals.Seen.TheVariants.{Nothing, Minus, Plus, I, In, Inf, N, Na, Nan, Whole, Point, Fraction, Exponent, Sign, Power, Never}

-- a digit leads here, and any other byte nowhere
abbrev pub digit_to : Seen → ℕ → Seen
digit_to s b = if is_digit b then s else Never

-- this byte leads here, and any other nowhere
abbrev pub byte_to : Seen → ℕ → ℕ → Seen
byte_to s want b = if b == want then s else Never

-- `e` or `E` leads to the exponent, and any other byte nowhere
abbrev pub exponent_to : ℕ → Seen
exponent_to b = if (b == 101) || (b == 69) then Exponent else Never

-- behind the front of a double, one byte more
abbrev pub step : Seen → ℕ → Seen
step Nothing b = if b == 45 then Minus else if b == 43 then Plus else if b == 105 then I else if b == 110 then N else digit_to Whole b
step Minus b = if b == 105 then I else digit_to Whole b
step Plus b = digit_to Whole b
step I b = byte_to In 110 b
step In b = byte_to Inf 102 b
step Inf b = Never
step N b = byte_to Na 97 b
step Na b = byte_to Nan 110 b
step Nan b = Never
step Whole b = if is_digit b then Whole else if b == 46 then Point else exponent_to b
step Point b = digit_to Fraction b
step Fraction b = if is_digit b then Fraction else exponent_to b
step Exponent b = if (b == 43) || (b == 45) then Sign else digit_to Power b
step Sign b = digit_to Power b
step Power b = digit_to Power b
step Never b = Never

-- and these bytes more
abbrev pub run : Seen → List ℕ → Seen
run s [] = s
run s (b ∷ bs) = run (step s b) bs

-- how many bytes are missing at least until the double is whole, if any can make it so
abbrev pub missing : Seen → Option ℕ
missing Nothing = Some 1
missing Minus = Some 1
missing Plus = Some 1
missing I = Some 2
missing In = Some 1
missing Inf = Some 0
missing N = Some 2
missing Na = Some 1
missing Nan = Some 0
missing Whole = Some 0
missing Point = Some 1
missing Fraction = Some 0
missing Exponent = Some 1
missing Sign = Some 1
missing Power = Some 0
missing Never = None
