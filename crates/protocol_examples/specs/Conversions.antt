-- Values, and what they are as texts, as items, as keys with values and as truth.
use Rattle.std.specs.Prelude.{ℕ, pos, neg_ℤ, Bool, true, false, List, [], ◌∷◌, Option, Some, None, codes}
use Rattle.std.specs.Ordering.{nat_cmp}
use Rattle.resp_value.specs.declared.push_kind.PushKind.TheVariants.{Message}
use Rattle.resp_value.specs.declared.server_error.ServerError.{ServerError}
use Rattle.resp_value.specs.Data.{Data, nil, int, bulk, array, simple, okay, dict, attribute, set, double, boolean, verbatim, big, push, error, items_of, members_of}
use Rattle.resp_convert.specs.Convert.{error_of}
use Rattle.resp_convert.specs.Types.{IsDone, IsTruth, bare, entries_of, text_of}

-- what a value is as a text behind its attributes, and what the error of a server is that it tells
abbrev pub text_in : Data → Option (List ℕ)
text_in d = text_of (bare d)

abbrev pub error_in : Data → Option ServerError
error_in d = error_of (bare d)

-- the same with the attribute ttl
abbrev pub attributed : Data → Data
attributed d = attribute d (members_of ((simple (codes "ttl"), int (pos 1)) ∷ []))

abbrev pub an_error : ServerError
an_error = record { code = codes "ERR"; detail = None }

-- strings are texts, and so is OK
abbrev pub texts_of_values : List (Data × Option (List ℕ))
texts_of_values =
    (bulk (codes "a"), Some (codes "a"))
    ∷ (simple (codes "a"), Some (codes "a"))
    ∷ (verbatim (codes "txt") (codes "a"), Some (codes "a"))
    ∷ (okay, Some (codes "OK"))
    ∷ (attributed (attributed (bulk [])), Some [])
    ∷ (nil, None)
    ∷ (int (pos 1), None)
    ∷ (double (codes "1"), None)
    ∷ (big (codes "1"), None)
    ∷ (boolean true, None)
    ∷ (error an_error, None)
    ∷ (array (items_of (bulk (codes "a") ∷ [])), None)
    ∷ []

abbrev pub errors_of_values : List (Data × Option ServerError)
errors_of_values =
    (error an_error, Some an_error)
    ∷ (attributed (error an_error), Some an_error)
    ∷ (nil, None)
    ∷ (simple (codes "ERR"), None)
    ∷ (array (items_of (error an_error ∷ [])), None)
    ∷ []

abbrev one : Data
one = int (pos 1)

abbrev two : Data
two = int (pos 2)

-- arrays and sets have items, and nothing else has
abbrev pub items_of_values : List (Data × Option (List Data))
items_of_values =
    (array (items_of (one ∷ two ∷ [])), Some (one ∷ two ∷ []))
    ∷ (set (items_of (one ∷ [])), Some (one ∷ []))
    ∷ (array (items_of []), Some [])
    ∷ (dict (members_of ((one, two) ∷ [])), None)
    ∷ (push Message (items_of (one ∷ [])), None)
    ∷ (nil, None)
    ∷ (one, None)
    ∷ []

-- a map has keys with values, and so has an array of even length
abbrev pub pairs_of_values : List (Data × Option (List (Data × Data)))
pairs_of_values =
    (dict (members_of ((one, two) ∷ (two, one) ∷ [])), Some ((one, two) ∷ (two, one) ∷ []))
    ∷ (array (items_of (one ∷ two ∷ two ∷ one ∷ [])), Some ((one, two) ∷ (two, one) ∷ []))
    ∷ (array (items_of []), Some [])
    ∷ (array (items_of (one ∷ [])), None)
    ∷ (array (items_of (one ∷ two ∷ one ∷ [])), None)
    ∷ (set (items_of (one ∷ two ∷ [])), None)
    ∷ (nil, None)
    ∷ []

-- a truth value and the numbers 0 and 1 are true or false
abbrev pub TellsTruth : Data × Bool → Type 0
TellsTruth row = IsTruth row.0 row.1

abbrev pub truths : List (Data × Bool)
truths = (boolean true, true) ∷ (boolean false, false) ∷ (int (pos 1), true) ∷ (int (pos 0), false) ∷ []

-- no other value is
abbrev pub TellsNone : Data → Type 0
TellsNone d = (b : Bool) → IsTruth d b → ⊥

abbrev pub no_truths : List Data
no_truths = int (pos 2) ∷ int (neg_ℤ (pos 1)) ∷ bulk (codes "1") ∷ simple (codes "true") ∷ okay ∷ nil ∷ error an_error ∷ []

-- all but a server's error is well
abbrev pub well : List Data
well = nil ∷ okay ∷ one ∷ array (items_of (error an_error ∷ [])) ∷ []

abbrev pub IsUnwell : Data → Type 0
IsUnwell d = IsDone d → ⊥

-- the entries of pairs, of which the last counts for its key
abbrev pub entries : List (ℕ × ℕ) → List (ℕ × ℕ)
entries pairs = entries_of nat_cmp pairs

abbrev pub entries_of_pairs : List (List (ℕ × ℕ) × List (ℕ × ℕ))
entries_of_pairs =
    ([], [])
    ∷ ((2, 5) ∷ (1, 6) ∷ [], (1, 6) ∷ (2, 5) ∷ [])
    ∷ ((1, 5) ∷ (0, 6) ∷ (1, 7) ∷ [], (0, 6) ∷ (1, 7) ∷ [])
    ∷ []
