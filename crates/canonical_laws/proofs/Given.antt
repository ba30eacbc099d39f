-- What a reader gives is a value within its limits.
use Rattle.std.proofs.Common.{◌≡◌, ℕ, zero, suc, ◌-◌, ◌≤◌, List, [], ◌∷◌, ◌++◌, length, Option, Some, None, Bool, true, false, cond, refl, ap, subst, arith}
use Rattle.std.specs.Prelude.{◌==◌}
use Rattle.resp_value.specs.declared.push_kind.PushKind.{PushKind}
use Rattle.resp_value.specs.declared.push_kind.PushKind.TheVariants.{Invalidate, Message, PMessage, SMessage, Unsubscribe, PUnsubscribe, SUnsubscribe, Subscribe, PSubscribe, SSubscribe}
use Rattle.resp_value.specs.Data.{Data, array, dict, attribute, set, push, items_of, list_of, members_of, pairs_of}
use Rattle.resp_value.specs.Kinds.{named_kind, kind_or, kind_of}
use Rattle.resp_read.specs.Grammar.{max_bulk, max_count, max_depth, reader_limits}
use Rattle.resp_read.specs.Parser.{read, short, bad, Found, found_and_then, found_map, line_as, size_line, count_line, text_line, bulk_text, body, repeated, pair, array_of, array_form, set_of, set_form, map_of, map_form, attributed, attribute_of, attribute_form, kind, push_with, push_of, push_form, plain, nested, innermost, form, parse}
use Rattle.resp_read.specs.Reads.{Reads}
use Rattle.resp_write.specs.Canonical.{canonical}
use Rattle.resp_read.proofs.ReadLaws.{found_where_reads}
use Rattle.resp_laws.specs.Commands.{FitsBulk}
use Rattle.canonical_laws.specs.Readable.{IsReadKind, EachItem, EachMember, IsPlain, IsOver, IsValue, HasShortErrors, IsReadable}
use Rattle.canonical_laws.proofs.Held.{IfRead, was_read, held_if, held_then, held_map, held_line, some_is, IsBetween, held_count, HasLength, held_body}
use Rattle.canonical_laws.proofs.GivenPlain.{IsSize, held_size, AllGive, plain_give, innermost_give, form_gives, all_weaker}
use Rattle.canonical_laws.proofs.Same.{reads_back}
use Rattle.canonical_laws.proofs.Wider.{plain_over}

-- a kind
kind_step : (c : Bool) (x : PushKind) (o : Option PushKind) (k : PushKind) → IsReadKind reader_limits x → (o ≡ Some k → IsReadKind reader_limits k) → cond c (Some x) o ≡ Some k → IsReadKind reader_limits k
kind_step true x o k h f e = subst (IsReadKind reader_limits) (some_is x k e) h
kind_step false x o k h f e = f e

no_kind : (k : PushKind) → ◌≡◌ {A = Option PushKind} None (Some k) → IsReadKind reader_limits k
no_kind k e = cc

named_is_read : (text : List ℕ) (k : PushKind) → named_kind text ≡ Some k → IsReadKind reader_limits k
named_is_read text k =
    kind_step _ Invalidate _ k tt (kind_step _ Message _ k tt (kind_step _ PMessage _ k tt (kind_step _ SMessage _ k tt (kind_step _ Unsubscribe _ k tt
    (kind_step _ PUnsubscribe _ k tt (kind_step _ SUnsubscribe _ k tt (kind_step _ Subscribe _ k tt (kind_step _ PSubscribe _ k tt (kind_step _ SSubscribe _ k tt (no_kind k))))))))))

kind_by : (text : List ℕ) (o : Option PushKind) → named_kind text ≡ o → FitsBulk text → IsReadKind reader_limits (kind_or o text)
kind_by text (Some k) is fit = named_is_read text k is
kind_by text None is fit = (is, fit)

kind_is_read : (text : List ℕ) → FitsBulk text → IsReadKind reader_limits (kind_of text)
unfolding kind_of
kind_is_read text fit = kind_by text (named_kind text) refl fit

line_kind : (bs : List ℕ) → IfRead FitsBulk (line_as reader_limits text_line bs)
line_kind = held_line text_line FitsBulk (λ l text h e. subst FitsBulk (some_is l text e) (omega (arith, h.1)))

bulk_kind : (bs : List ℕ) → IfRead FitsBulk (bulk_text reader_limits bs)
bulk_kind bs =
    held_then (IsBetween 0 max_bulk) FitsBulk body (line_as reader_limits (count_line reader_limits 0 (Some max_bulk)) bs) (held_count 0 max_bulk bs)
    (λ n rest h. subst (λ x. IfRead FitsBulk x) (same_found (body n rest)) (held_map (HasLength n) FitsBulk (λ t. t) (body n rest) (held_body n rest) (λ text is. omega (arith, h.1, is))))
  where
    same_found : (x : Found (List ℕ)) → found_map (λ t. t) x ≡ x
    same_found (read t rest) = refl
    same_found short = refl
    same_found bad = refl

kind_given : (bs : List ℕ) → IfRead FitsBulk (kind reader_limits bs)
kind_given [] = tt
kind_given (b ∷ bs) = held_if FitsBulk (b == 43) (line_as reader_limits text_line bs) (cond (b == 36) (bulk_text reader_limits bs) bad) (line_kind bs) (held_if FitsBulk (b == 36) (bulk_text reader_limits bs) bad (bulk_kind bs) tt)

pub items_count : (ds : List Data) → length (list_of (items_of ds)) ≡ length ds
items_count [] = refl
items_count (d ∷ ds) = ap suc (items_count ds)

pairs_count : (ps : List (Data × Data)) → length (pairs_of (members_of ps)) ≡ length ps
pairs_count [] = refl
pairs_count (p ∷ ps) = ap suc (pairs_count ps)

module _ (inside : List ℕ → Found Data) (P : Data → Type 0) (given : (bs : List ℕ) → IfRead P (inside bs)) where
  -- so many such values, or pairs of them
  abbrev AreItems : ℕ → List Data → Type 0
  AreItems n ds = (length (list_of (items_of ds)) ≡ n) × EachItem P (items_of ds)

  abbrev AreMembers : ℕ → List (Data × Data) → Type 0
  AreMembers n ps = (length (pairs_of (members_of ps)) ≡ n) × EachMember P (members_of ps)

  abbrev ArePair : Data × Data → Type 0
  ArePair p = P p.0 × P p.1

  items_given : (n : ℕ) (bs : List ℕ) → IfRead (AreItems n) (repeated inside n bs)
  items_given zero bs = (refl, tt)
  items_given (suc n) bs =
      held_then P (AreItems (suc n)) (λ a rest. found_map (λ others. a ∷ others) (repeated inside n rest)) (inside bs) (given bs)
      (λ a rest h. held_map (AreItems n) (AreItems (suc n)) (λ others. a ∷ others) (repeated inside n rest) (items_given n rest) (λ others k. (ap suc k.0, (h, k.1))))

  pair_given : (bs : List ℕ) → IfRead ArePair (pair inside bs)
  pair_given bs =
      held_then P ArePair (λ k rest. found_map (λ v. (k, v)) (inside rest)) (inside bs) (given bs)
      (λ k rest h. held_map P ArePair (λ v. (k, v)) (inside rest) (given rest) (λ v s. (h, s)))

  members_given : (n : ℕ) (bs : List ℕ) → IfRead (AreMembers n) (repeated (pair inside) n bs)
  members_given zero bs = (refl, tt)
  members_given (suc n) bs =
      held_then ArePair (AreMembers (suc n)) (λ a rest. found_map (λ others. a ∷ others) (repeated (pair inside) n rest)) (pair inside bs) (pair_given bs)
      (λ a rest h. held_map (AreMembers n) (AreMembers (suc n)) (λ others. a ∷ others) (repeated (pair inside) n rest) (members_given n rest) (λ others k. (ap suc k.0, (h.0, h.1, k.1))))

  abbrev Over : Data → Type 0
  Over v = IsOver reader_limits P v

  counted : {A : Type 0} (g : ℕ → List ℕ → Found A) (Q : A → Type 0) → ((n : ℕ) (bs : List ℕ) → n ≤ max_count → IfRead Q (g n bs)) → (bs : List ℕ) → IfRead Q (found_and_then g (line_as reader_limits (count_line reader_limits 0 (Some max_count)) bs))
  counted g Q h bs = held_then (IsBetween 0 max_count) Q g (line_as reader_limits (count_line reader_limits 0 (Some max_count)) bs) (held_count 0 max_count bs) (λ n rest k. h n rest k.1)

  array_given_of : (o : Option ℕ) (bs : List ℕ) → IsSize max_count o → IfRead Over (array_of inside o bs)
  array_given_of None bs h = tt
  array_given_of (Some n) bs h = held_map (AreItems n) Over (λ ds. array (items_of ds)) (repeated inside n bs) (items_given n bs) (λ ds k. (omega (arith, h, k.0), k.1))

  array_given : (bs : List ℕ) → IfRead Over (array_form reader_limits inside bs)
  array_given bs = held_then (IsSize max_count) Over (array_of inside) (line_as reader_limits (size_line (Some max_count)) bs) (held_size max_count bs) array_given_of

  set_given : (bs : List ℕ) → IfRead Over (set_form reader_limits inside bs)
  set_given =
      counted (set_of inside) Over
      (λ n bs h. held_map (AreItems n) Over (λ ds. set (items_of ds)) (repeated inside n bs) (items_given n bs) (λ ds k. (omega (arith, h, k.0), k.1)))

  dict_given : (bs : List ℕ) → IfRead Over (map_form reader_limits inside bs)
  dict_given =
      counted (map_of inside) Over
      (λ n bs h. held_map (AreMembers n) Over (λ ps. dict (members_of ps)) (repeated (pair inside) n bs) (members_given n bs) (λ ps k. (omega (arith, h, k.0), k.1)))

  attribute_given : (bs : List ℕ) → IfRead Over (attribute_form reader_limits inside bs)
  attribute_given =
      counted (attribute_of inside) Over
      (λ n bs h. held_then (AreMembers n) Over (attributed inside) (repeated (pair inside) n bs) (members_given n bs)
      (λ ps rest k. held_map P Over (λ v. attribute v (members_of ps)) (inside rest) (given rest) (λ v s. (s, omega (arith, h, k.0), k.1))))

  push_given : (bs : List ℕ) → IfRead Over (push_form reader_limits inside bs)
  push_given bs =
      held_then (IsBetween 1 max_count) Over (push_of reader_limits inside) (line_as reader_limits (count_line reader_limits 1 (Some max_count)) bs) (held_count 1 max_count bs)
      (λ n rest h. held_then FitsBulk Over (push_with inside n) (kind reader_limits rest) (kind_given rest)
      (λ text others fit. held_map (AreItems (n - 1)) Over (λ ds. push (kind_of text) (items_of ds)) (repeated inside (n - 1) others) (items_given (n - 1) others)
      (λ ds k. (kind_is_read text fit, omega (arith, h.0, h.1, k.0), k.1))))

  nested_give : AllGive Over (nested reader_limits inside)
  nested_give = (array_given, (set_given, (dict_given, (push_given, (attribute_given, tt)))))

  pub over_given : (bs : List ℕ) → IfRead Over (form reader_limits (nested reader_limits inside) bs)
  over_given bs = form_gives Over (nested reader_limits inside) (all_weaker (IsPlain reader_limits) Over (plain_over reader_limits P) (plain reader_limits) plain_give) nested_give bs

pub value_given : (depth : ℕ) (bs : List ℕ) → IfRead (IsValue reader_limits depth) (parse depth bs)
value_given zero bs = form_gives (IsPlain reader_limits) (innermost reader_limits) plain_give innermost_give bs
value_given (suc n) bs = over_given (parse n) (IsValue reader_limits n) (value_given n) bs

pub read_is_value : (bytes : List ℕ) (v : Data) (rest : List ℕ) → Reads bytes v rest → IsValue reader_limits max_depth v
read_is_value bytes v rest e = was_read (IsValue reader_limits max_depth) (parse max_depth bytes) v rest (value_given max_depth bytes) (found_where_reads bytes v rest e)

pub read_is_readable : (bytes : List ℕ) (v : Data) (rest : List ℕ) → Reads bytes v rest → HasShortErrors reader_limits v → IsReadable reader_limits max_depth v
read_is_readable bytes v rest e h = (read_is_value bytes v rest e, h)

pub read_again : (bytes : List ℕ) (v : Data) (rest more : List ℕ) → Reads bytes v rest → HasShortErrors reader_limits v → Reads (canonical v ++ more) v more
read_again bytes v rest more e h = reads_back v more (read_is_readable bytes v rest e h)
