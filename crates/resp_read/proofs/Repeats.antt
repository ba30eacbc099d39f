-- Values that hold values are lawful, where those that they hold are.
use Rattle.std.proofs.Common.{arith, ℕ, zero, suc, ◌-◌, List, [], ◌∷◌, Option, Some, None, lit≤, refl}
use Rattle.resp_value.specs.Data.{Data, nil, array, set, dict, attribute, push, items_of, members_of}
use Rattle.resp_value.specs.Kinds.{kind_of}
use Rattle.resp_read.specs.Parser.{Found, found_map, line_as, size_line, count_line, repeated, pair, array_of, array_form, set_of, set_form, map_of, map_form, attributed, attribute_of, attribute_form, kind, push_with, push_of, push_form}
use Rattle.resp_read.specs.Limits.{bounds, AreAllowed}
use Rattle.resp_read.specs.declared.limits.Limits.{Limits}
use Rattle.resp_read.proofs.Laws.{Lawful, Possible, lawful_read, lawful_then, lawful_map, possible_map, possible_then}
use Rattle.resp_read.proofs.LineLaws.{lawful_line}
use Rattle.resp_read.proofs.Numbers.{lawful_size}
use Rattle.resp_read.proofs.Bodies.{lawful_counted, lawful_kind, kind_possible}

module _ {A : Type 0} (inside : List ℕ → Found A) where
  abbrev pub next : ℕ → A → List ℕ → Found (List A)
  next n a rest = found_map (λ others. a ∷ others) (repeated inside n rest)

  pub possible_repeated : Lawful inside → Possible inside → (n : ℕ) → Possible (repeated inside n)
  possible_repeated h p zero = ([], [], refl)
  possible_repeated h p (suc n) = possible_then inside (next n) h p (λ a. possible_map (λ others. a ∷ others) (repeated inside n) (possible_repeated h p n))

  pub lawful_repeated : Lawful inside → Possible inside → (n : ℕ) → Lawful (repeated inside n)
  lawful_repeated h p zero = lawful_read []
  lawful_repeated h p (suc n) =
      lawful_then inside (next n) h (λ a. lawful_map (λ others. a ∷ others) (repeated inside n) (lawful_repeated h p n))
      (λ a. possible_map (λ others. a ∷ others) (repeated inside n) (possible_repeated h p n))

module _ (limits : Limits) (allowed : AreAllowed limits) (inside : List ℕ → Found Data) (h : Lawful inside) (p : Possible inside) where
  abbrev pub second : Data → List ℕ → Found (Data × Data)
  second k rest = found_map (λ v. (k, v)) (inside rest)

  lawful_pair : Lawful (pair inside)
  lawful_pair = lawful_then inside second h (λ k. lawful_map (λ v. (k, v)) inside h) (λ k. possible_map (λ v. (k, v)) inside p)

  pair_possible : Possible (pair inside)
  pair_possible = possible_then inside second h p (λ k. possible_map (λ v. (k, v)) inside p)

  lawful_values : (n : ℕ) → Lawful (repeated inside n)
  lawful_values = lawful_repeated inside h p

  values_possible : (n : ℕ) → Possible (repeated inside n)
  values_possible = possible_repeated inside h p

  lawful_pairs : (n : ℕ) → Lawful (repeated (pair inside) n)
  lawful_pairs = lawful_repeated (pair inside) lawful_pair pair_possible

  pairs_possible : (n : ℕ) → Possible (repeated (pair inside) n)
  pairs_possible = possible_repeated (pair inside) lawful_pair pair_possible

  lawful_count : Lawful (line_as (bounds limits) (count_line (bounds limits) 0 (Some limits.count)))
  lawful_count = lawful_counted limits allowed 0 limits.count (lit≤ tt) (omega arith)

  lawful_array_of : (n : Option ℕ) → Lawful (array_of inside n)
  lawful_array_of None = lawful_read nil
  lawful_array_of (Some n) = lawful_map (λ ds. array (items_of ds)) (repeated inside n) (lawful_values n)

  array_possible : (n : Option ℕ) → Possible (array_of inside n)
  array_possible None = ([], nil, refl)
  array_possible (Some n) = possible_map (λ ds. array (items_of ds)) (repeated inside n) (values_possible n)

  pub lawful_array : Lawful (array_form (bounds limits) inside)
  lawful_array = lawful_then (line_as (bounds limits) (size_line (Some limits.count))) (array_of inside) (lawful_line limits (size_line (Some limits.count)) (lawful_size limits allowed limits.count)) lawful_array_of array_possible

  pub lawful_set : Lawful (set_form (bounds limits) inside)
  lawful_set =
      lawful_then (line_as (bounds limits) (count_line (bounds limits) 0 (Some limits.count))) (set_of inside) lawful_count (λ n. lawful_map (λ ds. set (items_of ds)) (repeated inside n) (lawful_values n))
      (λ n. possible_map (λ ds. set (items_of ds)) (repeated inside n) (values_possible n))

  pub lawful_dict : Lawful (map_form (bounds limits) inside)
  lawful_dict =
      lawful_then (line_as (bounds limits) (count_line (bounds limits) 0 (Some limits.count))) (map_of inside) lawful_count (λ n. lawful_map (λ ps. dict (members_of ps)) (repeated (pair inside) n) (lawful_pairs n))
      (λ n. possible_map (λ ps. dict (members_of ps)) (repeated (pair inside) n) (pairs_possible n))

  lawful_attributed : (ps : List (Data × Data)) → Lawful (attributed inside ps)
  lawful_attributed ps = lawful_map (λ v. attribute v (members_of ps)) inside h

  attributed_possible : (ps : List (Data × Data)) → Possible (attributed inside ps)
  attributed_possible ps = possible_map (λ v. attribute v (members_of ps)) inside p

  lawful_attribute_of : (n : ℕ) → Lawful (attribute_of inside n)
  lawful_attribute_of n = lawful_then (repeated (pair inside) n) (attributed inside) (lawful_pairs n) lawful_attributed attributed_possible

  attribute_possible : (n : ℕ) → Possible (attribute_of inside n)
  attribute_possible n = possible_then (repeated (pair inside) n) (attributed inside) (lawful_pairs n) (pairs_possible n) attributed_possible

  pub lawful_attribute : Lawful (attribute_form (bounds limits) inside)
  lawful_attribute = lawful_then (line_as (bounds limits) (count_line (bounds limits) 0 (Some limits.count))) (attribute_of inside) lawful_count lawful_attribute_of attribute_possible

  lawful_push_with : (n : ℕ) (k : List ℕ) → Lawful (push_with inside n k)
  lawful_push_with n k = lawful_map (λ ds. push (kind_of k) (items_of ds)) (repeated inside (n - 1)) (lawful_values (n - 1))

  push_with_possible : (n : ℕ) (k : List ℕ) → Possible (push_with inside n k)
  push_with_possible n k = possible_map (λ ds. push (kind_of k) (items_of ds)) (repeated inside (n - 1)) (values_possible (n - 1))

  pub lawful_push : Lawful (push_form (bounds limits) inside)
  lawful_push =
      lawful_then (line_as (bounds limits) (count_line (bounds limits) 1 (Some limits.count))) (push_of (bounds limits) inside) (lawful_counted limits allowed 1 limits.count (lit≤ tt) (omega (arith, allowed.count_least)))
      (λ n. lawful_then (kind (bounds limits)) (push_with inside n) (lawful_kind limits allowed) (lawful_push_with n) (push_with_possible n))
      (λ n. possible_then (kind (bounds limits)) (push_with inside n) (lawful_kind limits allowed) (kind_possible limits) (push_with_possible n))
