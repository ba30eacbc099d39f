-- Which arguments a value becomes, and what a float is written as.
use Rattle.std.specs.Prelude.{◌≡◌, ℕ, List, [], ◌∷◌, ◌++◌, Option, Some, None, IsTrue, IsFalse}
use Rattle.std.specs.List.{flat_map}
use Rattle.std.specs.Option.{option_map_or}
use Rattle.std.specs.Float.{Float, binary64, float_is_finite}
use Rattle.std.specs.Float.Parse.{parse_float}
use Rattle.ryu.specs.Plain.{IsLaidOutNumber, word_of}
use Rattle.resp_write.specs.Command.{Command, with_args}

-- exactly those that a function gives, or some among those that a relation allows
pub data Arguments (S : Type 0) : Type 1 where
  exactly : (S → List (List ℕ)) → Arguments S
  among : (S → List (List ℕ) → Type 0) → Arguments S

-- a value may become these
abbrev pub AreArguments : {S : Type 0} → Arguments S → S → List (List ℕ) → Type 0
AreArguments (exactly f) x args = args ≡ f x
AreArguments (among allowed) x args = allowed x args

-- a command with what a value became behind its own arguments
abbrev pub IsWritten : {S : Type 0} → Arguments S → S → Command → Command → Type 0
IsWritten (exactly f) x old new = new ≡ with_args old (f x)
IsWritten (among allowed) x old new = (args : List (List ℕ)) × allowed x args × (new ≡ with_args old args)

-- those of a part of a value
abbrev pub of_part : {R S : Type 0} → (R → S) → Arguments S → Arguments R
of_part part (exactly f) = exactly (λ r. f (part r))
of_part part (among allowed) = among (λ r. allowed (part r))

-- the ones, and behind them the others
abbrev pub and_then : {S : Type 0} → Arguments S → Arguments S → Arguments S
and_then (exactly f) (exactly g) = exactly (λ x. f x ++ g x)
and_then (exactly f) (among allowed) = among (λ x args. (more : List (List ℕ)) × allowed x more × (args ≡ f x ++ more))
and_then (among allowed) others = among (λ x args. (first : List (List ℕ)) × (more : List (List ℕ)) × allowed x first × AreArguments others x more × (args ≡ first ++ more))

-- these are those of each item, in order
abbrev pub AreOfEach : {S : Type 0} → (S → List (List ℕ) → Type 0) → List S → List (List ℕ) → Type 0
AreOfEach allowed [] args = args ≡ []
AreOfEach allowed (x ∷ xs) args = (first : List (List ℕ)) × (more : List (List ℕ)) × allowed x first × AreOfEach allowed xs more × (args ≡ first ++ more)

-- those of each item, in order
abbrev pub of_each : {S : Type 0} → Arguments S → Arguments (List S)
of_each (exactly f) = exactly (flat_map f)
of_each (among allowed) = among (AreOfEach allowed)

-- these are none for none, or those of what is there
abbrev pub AreOfOption : {S : Type 0} → (S → List (List ℕ) → Type 0) → Option S → List (List ℕ) → Type 0
AreOfOption allowed None args = args ≡ []
AreOfOption allowed (Some x) args = allowed x args

-- those of what is there: none is no argument
abbrev pub of_option : {S : Type 0} → Arguments S → Arguments (Option S)
of_option (exactly f) = exactly (λ o. option_map_or f o [])
of_option (among allowed) = among (AreOfOption allowed)

-- A text that a float is written as: it reads back as that float. A finite one is laid out without an exponent where it has
-- at most 16 digits before the point and 4 zeros behind it; the others are words.
pub record IsFloatText (x : Float) (text : List ℕ) : Type 0 where
  pub reads_back : parse_float binary64 text ≡ Some x
  pub finite : IsTrue (float_is_finite x) → IsLaidOutNumber 16 4 text
  pub other : IsFalse (float_is_finite x) → text ≡ word_of x

-- one such text
abbrev pub IsFloatArgument : Float → List (List ℕ) → Type 0
IsFloatArgument x args = (text : List ℕ) × IsFloatText x text × (args ≡ text ∷ [])
