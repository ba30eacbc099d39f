-- A value within limits is one within wider limits and at a greater depth.
use Rattle.std.proofs.Common.{ℕ, zero, suc, ◌+◌, length}
use Rattle.resp_value.specs.declared.push_kind.PushKind.{PushKind}
use Rattle.resp_value.specs.declared.push_kind.PushKind.TheVariants.{Other}
use Rattle.resp_value.specs.Data.{Data, bulk, array, simple, dict, attribute, set, double, verbatim, big, push, error, Items, no_items, item, list_of, Members, no_members, member, pairs_of}
use Rattle.resp_read.specs.Grammar.{Limits, reader_limits, no_limits}
use Rattle.canonical_laws.specs.Readable.{IsAtMost, IsLength, IsReadKind, EachItem, EachMember, IsPlain, IsOver, IsValue, HasShortErrors, EachShort, EachPairShort}
use Rattle.canonical_laws.proofs.Limits.{reader_usual}

-- what is within the first limits is within the others
pub record AreWider (limits others : Limits) : Type 0 where
  pub line : (n : ℕ) → IsAtMost limits.line n → IsAtMost others.line n
  pub bulk : (n : ℕ) → IsLength limits.bulk n → IsLength others.bulk n
  pub count : (n : ℕ) → IsLength limits.count n → IsLength others.count n

none_wider : AreWider reader_limits no_limits
none_wider = record { line = λ n h. tt; bulk = reader_usual.bulk; count = reader_usual.count }

no_narrower : (limits : Limits) → AreWider limits limits
no_narrower limits = record { line = λ n h. h; bulk = λ n h. h; count = λ n h. h }

module _ (P Q : Data → Type 0) (inside : (v : Data) → P v → Q v) where
  items_wider : (ds : Items) → EachItem P ds → EachItem Q ds
  items_wider no_items h = tt
  items_wider (item d ds) h = (inside d h.0, items_wider ds h.1)

  members_wider : (ms : Members) → EachMember P ms → EachMember Q ms
  members_wider no_members h = tt
  members_wider (member k d ms) h = (inside k h.0, inside d h.1, members_wider ms h.2)

module _ (limits others : Limits) (wider : AreWider limits others) where
  kind_wider : (k : PushKind) → IsReadKind limits k → IsReadKind others k
  kind_wider (Other text) h = (h.0, wider.bulk (length text) h.1)
  kind_wider k h = h

  plain_wider : (v : Data) → IsPlain limits v → IsPlain others v
  plain_wider (bulk text) h = wider.bulk (length text) h
  plain_wider (simple text) h = ((h.0.0, wider.line (length text) h.0.1), h.1)
  plain_wider (double text) h = ((h.0.0, wider.line (length text) h.0.1), h.1)
  plain_wider (verbatim format text) h = (h.0, wider.bulk (length text + 4) h.1)
  plain_wider (big text) h = ((h.0.0, wider.line (length text) h.0.1), h.1)
  plain_wider (error e) h = (h.0, wider.bulk _ h.1)
  plain_wider v h = h

  module _ (P Q : Data → Type 0) (inside : (v : Data) → P v → Q v) where
    over_wider : (v : Data) → IsOver limits P v → IsOver others Q v
    over_wider (array ds) h = (wider.count (length (list_of ds)) h.0, items_wider P Q inside ds h.1)
    over_wider (set ds) h = (wider.count (length (list_of ds)) h.0, items_wider P Q inside ds h.1)
    over_wider (dict ms) h = (wider.count (length (pairs_of ms)) h.0, members_wider P Q inside ms h.1)
    over_wider (attribute d ms) h = (inside d h.0, wider.count (length (pairs_of ms)) h.1, members_wider P Q inside ms h.2)
    over_wider (push kind ds) h = (kind_wider kind h.0, wider.count (suc (length (list_of ds))) h.1, items_wider P Q inside ds h.2)
    over_wider v h = plain_wider v h

  value_wider : (depth : ℕ) (v : Data) → IsValue limits depth v → IsValue others depth v
  value_wider zero v h = plain_wider v h
  value_wider (suc n) v h = over_wider (IsValue limits n) (IsValue others n) (value_wider n) v h

module _ (limits : Limits) where
  pub plain_over : (P : Data → Type 0) (v : Data) → IsPlain limits v → IsOver limits P v
  plain_over P (array ds) h = absurd h
  plain_over P (set ds) h = absurd h
  plain_over P (dict ms) h = absurd h
  plain_over P (attribute d ms) h = absurd h
  plain_over P (push k ds) h = absurd h
  plain_over P v h = h

  value_deeper : (depth : ℕ) (v : Data) → IsValue limits depth v → IsValue limits (suc depth) v
  value_deeper zero v h = plain_over (IsValue limits zero) v h
  value_deeper (suc n) v h = over_wider limits limits (no_narrower limits) (IsValue limits n) (IsValue limits (suc n)) (value_deeper n) v h

-- what the reader gives, without its limits and with one more around it
pub given_wider : (depth : ℕ) (v : Data) → IsValue reader_limits depth v → IsValue no_limits depth v
given_wider = value_wider reader_limits no_limits none_wider

pub given_deeper : (depth : ℕ) (v : Data) → IsValue reader_limits depth v → IsValue no_limits (suc depth) v
given_deeper depth v h = value_deeper no_limits depth v (given_wider depth v h)

-- without a limit each error fits a line
mutual
  pub short_anyway : (v : Data) → HasShortErrors no_limits v
  short_anyway (array ds) = items_anyway ds
  short_anyway (set ds) = items_anyway ds
  short_anyway (dict ms) = members_anyway ms
  short_anyway (attribute d ms) = (short_anyway d, members_anyway ms)
  short_anyway (push kind ds) = items_anyway ds
  short_anyway (error e) = λ h. tt
  short_anyway v = tt

  items_anyway : (ds : Items) → EachShort no_limits ds
  items_anyway no_items = tt
  items_anyway (item d ds) = (short_anyway d, items_anyway ds)

  members_anyway : (ms : Members) → EachPairShort no_limits ms
  members_anyway no_members = tt
  members_anyway (member k d ms) = (short_anyway k, short_anyway d, members_anyway ms)
