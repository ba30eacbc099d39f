-- Which values a reader can give, and which of them are read back from their canonical text.
use Rattle.std.specs.Prelude.{◌≡◌, ℕ, zero, suc, ◌+◌, ◌^◌, ◌≤◌, ◌<◌, ℤ, pos, negsuc, Bool, true, false, ◌||◌, ◌==◌, List, [], ◌∷◌, ◌++◌, length, Option, Some, None, bytes_eq}
use Rattle.resp_value.specs.declared.push_kind.PushKind.{PushKind}
use Rattle.resp_value.specs.declared.push_kind.PushKind.TheVariants.{Disconnection, Other, Invalidate, Message, PMessage, SMessage, Unsubscribe, PUnsubscribe, SUnsubscribe, Subscribe, PSubscribe, SSubscribe}
use Rattle.resp_value.specs.declared.server_error.ServerError.{ServerError}
use Rattle.resp_value.specs.Data.{Data, nil, int, bulk, array, simple, okay, dict, attribute, set, double, boolean, verbatim, big, push, error, Items, no_items, item, list_of, Members, no_members, member, pairs_of}
use Rattle.resp_value.specs.Kinds.{named_kind}
use Rattle.resp_read.specs.Grammar.{Limits, is_double, is_big}
use Rattle.resp_read.specs.Reads.{Reads}
use Rattle.resp_write.specs.Canonical.{breaks_line, detail_text}

-- some byte is CR
abbrev pub has_return : List ℕ → Bool
has_return [] = false
has_return (b ∷ bs) = b == 13 || has_return bs

-- some byte is a space
abbrev pub has_space : List ℕ → Bool
has_space [] = false
has_space (b ∷ bs) = b == 32 || has_space bs

-- no more than the limit, if there is one
abbrev pub IsAtMost : Option ℕ → ℕ → Type 0
IsAtMost None n = Unit {0}
IsAtMost (Some most) n = n ≤ most

-- a length that a text can announce: within the limit, or where there is none a number of 64 bits, as each length in memory is
abbrev pub IsLength : Option ℕ → ℕ → Type 0
IsLength None n = n < 2 ^ 64
IsLength (Some most) n = n ≤ most

-- it can stand on a line: no CR is in it, and it is within the limit
abbrev pub IsLine : Limits → List ℕ → Type 0
IsLine limits text = (has_return text ≡ false) × IsAtMost limits.line (length text)

-- it can be a bulk string
abbrev pub IsBulk : Limits → List ℕ → Type 0
IsBulk limits text = IsLength limits.bulk (length text)

-- a number of 64 bits with a sign
abbrev pub IsLong : ℤ → Type 0
IsLong (pos n) = n ≤ 9_223_372_036_854_775_807
IsLong (negsuc n) = n ≤ 9_223_372_036_854_775_807

-- what stands behind the first byte of a server error, or behind its length: the code, and the detail after a space
abbrev pub error_words : ServerError → List ℕ
error_words e = e.code ++ detail_text e.detail

-- a kind of push that is read from a text: not a disconnection, and no text of its own that names another kind
abbrev pub IsReadKind : Limits → PushKind → Type 0
IsReadKind limits (Other text) = (named_kind text ≡ None) × IsBulk limits text
IsReadKind limits Disconnection = ⊥
IsReadKind limits Invalidate = Unit {0}
IsReadKind limits Message = Unit {0}
IsReadKind limits PMessage = Unit {0}
IsReadKind limits SMessage = Unit {0}
IsReadKind limits Unsubscribe = Unit {0}
IsReadKind limits PUnsubscribe = Unit {0}
IsReadKind limits SUnsubscribe = Unit {0}
IsReadKind limits Subscribe = Unit {0}
IsReadKind limits PSubscribe = Unit {0}
IsReadKind limits SSubscribe = Unit {0}

-- each of these values is one of those
abbrev pub EachItem : (Data → Type 0) → Items → Type 0
EachItem inside no_items = Unit {0}
EachItem inside (item d ds) = inside d × EachItem inside ds

-- each key and each value is
abbrev pub EachMember : (Data → Type 0) → Members → Type 0
EachMember inside no_members = Unit {0}
EachMember inside (member k d ms) = inside k × inside d × EachMember inside ms

-- a value that holds no others, within these limits. The line `OK` is a value of its own, and no simple string; an error's code ends at the first space
abbrev pub IsPlain : Limits → Data → Type 0
IsPlain limits nil = Unit {0}
IsPlain limits (int n) = IsLong n
IsPlain limits (bulk text) = IsBulk limits text
IsPlain limits (simple text) = IsLine limits text × (bytes_eq text (79 ∷ 75 ∷ []) ≡ false)
IsPlain limits okay = Unit {0}
IsPlain limits (double text) = IsLine limits text × (is_double text ≡ true)
IsPlain limits (boolean b) = Unit {0}
IsPlain limits (verbatim format text) = (length format ≡ 3) × IsLength limits.bulk (length text + 4)
IsPlain limits (big text) = IsLine limits text × (is_big text ≡ true)
IsPlain limits (error e) = (has_space e.code ≡ false) × IsBulk limits (error_words e)
IsPlain limits (array ds) = ⊥
IsPlain limits (set ds) = ⊥
IsPlain limits (dict ms) = ⊥
IsPlain limits (attribute d ms) = ⊥
IsPlain limits (push kind ds) = ⊥

-- a value within these limits whose own values are these
abbrev pub IsOver : Limits → (Data → Type 0) → Data → Type 0
IsOver limits inside (array ds) = IsLength limits.count (length (list_of ds)) × EachItem inside ds
IsOver limits inside (set ds) = IsLength limits.count (length (list_of ds)) × EachItem inside ds
IsOver limits inside (dict ms) = IsLength limits.count (length (pairs_of ms)) × EachMember inside ms
IsOver limits inside (attribute d ms) = inside d × IsLength limits.count (length (pairs_of ms)) × EachMember inside ms
IsOver limits inside (push kind ds) = IsReadKind limits kind × IsLength limits.count (suc (length (list_of ds))) × EachItem inside ds
IsOver limits inside v = IsPlain limits v

-- a value that a reader with these limits can give, nested no deeper than that
abbrev pub IsValue : Limits → ℕ → Data → Type 0
IsValue limits zero v = IsPlain limits v
IsValue limits (suc n) v = IsOver limits (IsValue limits n) v

-- each error in it that breaks no line fits one. The canonical text of such an error is a line, also of one that was read
-- with its length announced, which may be longer than a line
abbrev mutual
  pub HasShortErrors : Limits → Data → Type 0
  HasShortErrors limits nil = Unit {0}
  HasShortErrors limits (int n) = Unit {0}
  HasShortErrors limits (bulk text) = Unit {0}
  HasShortErrors limits (array ds) = EachShort limits ds
  HasShortErrors limits (simple text) = Unit {0}
  HasShortErrors limits okay = Unit {0}
  HasShortErrors limits (dict ms) = EachPairShort limits ms
  HasShortErrors limits (attribute d ms) = HasShortErrors limits d × EachPairShort limits ms
  HasShortErrors limits (set ds) = EachShort limits ds
  HasShortErrors limits (double text) = Unit {0}
  HasShortErrors limits (boolean b) = Unit {0}
  HasShortErrors limits (verbatim format text) = Unit {0}
  HasShortErrors limits (big text) = Unit {0}
  HasShortErrors limits (push kind ds) = EachShort limits ds
  HasShortErrors limits (error e) = breaks_line (error_words e) ≡ false → IsAtMost limits.line (length (error_words e))

  pub EachShort : Limits → Items → Type 0
  EachShort limits no_items = Unit {0}
  EachShort limits (item d ds) = HasShortErrors limits d × EachShort limits ds

  pub EachPairShort : Limits → Members → Type 0
  EachPairShort limits no_members = Unit {0}
  EachPairShort limits (member k d ms) = HasShortErrors limits k × HasShortErrors limits d × EachPairShort limits ms

-- a value whose canonical text is read back as it within these limits
abbrev pub IsReadable : Limits → ℕ → Data → Type 0
IsReadable limits depth v = IsValue limits depth v × HasShortErrors limits v

-- some text begins with that value
abbrev pub WasRead : Data → Type 0
WasRead v = (bytes : List ℕ) × (rest : List ℕ) × Reads bytes v rest

-- in a text that shows values an aggregate or attribute stands in at most 100 others: in one more than where it was read, since values are listed as an array of them
unfoldable pub shown_depth : ℕ
shown_depth = 101
