-- A value that holds values is read back, where those that it holds are.
use Rattle.std.proofs.Common.{◌≡◌, ℕ, zero, suc, ◌-◌, List, ◌∷◌, ◌++◌, length, refl, ap, ◌∙◌, append_assoc, arith}
use Rattle.std.specs.Prelude.{decimal}
use Rattle.resp_value.specs.declared.push_kind.PushKind.{PushKind}
use Rattle.resp_value.specs.declared.push_kind.PushKind.TheVariants.{Disconnection, Other, Invalidate, Message, PMessage, SMessage, Unsubscribe, PUnsubscribe, SUnsubscribe, Subscribe, PSubscribe, SSubscribe}
use Rattle.resp_value.specs.Data.{Data, array, dict, attribute, set, push, Items, no_items, item, items_of, list_of, Members, no_members, member, members_of, pairs_of}
use Rattle.resp_value.specs.Kinds.{kind_or, kind_of}
use Rattle.resp_value.specs.View.{data_of-value_of}
use Rattle.resp_read.specs.Grammar.{Limits}
use Rattle.resp_read.specs.Parser.{read, Found, found_and_then, found_map, form, innermost, nested, parse_within, repeated, pair, body, array_of, set_of, map_of, attributed, attribute_of, kind, push_with, push_of}
use Rattle.resp_write.specs.Canonical.{canonical, each_item, each_member, kind_text}
use Rattle.resp_write.specs.Pack.{crlf, number_line, bulk_string}
use Rattle.resp_laws.proofs.Commands.{line_shape, sized_shape, text_read, first_then}
use Rattle.canonical_laws.specs.Readable.{IsLength, IsBulk, IsReadKind, EachItem, EachMember, IsOver, IsValue, HasShortErrors, EachShort, EachPairShort}
use Rattle.canonical_laws.proofs.Limits.{AreUsual}
use Rattle.canonical_laws.proofs.Lines.{bulk_length_read, array_count_read, other_count_read}
use Rattle.canonical_laws.proofs.Plain.{plain_read}

-- the kind of a push
pub kind_back : (limits : Limits) (k : PushKind) → IsReadKind limits k → kind_of (kind_text k) ≡ k
unfolding kind_of
kind_back limits (Other text) h = ap (λ o. kind_or o text) h.0
kind_back limits Invalidate h = refl
kind_back limits Message h = refl
kind_back limits PMessage h = refl
kind_back limits SMessage h = refl
kind_back limits Unsubscribe h = refl
kind_back limits PUnsubscribe h = refl
kind_back limits SUnsubscribe h = refl
kind_back limits Subscribe h = refl
kind_back limits PSubscribe h = refl
kind_back limits SSubscribe h = refl
kind_back limits Disconnection h = absurd h

kind_fits : (limits : Limits) → AreUsual limits → (k : PushKind) → IsReadKind limits k → IsBulk limits (kind_text k)
kind_fits limits usual (Other text) h = h.1
kind_fits limits usual Disconnection h = absurd h
kind_fits limits usual k h = usual.names (length (kind_text k)) (omega arith)

kind_read : (limits : Limits) → AreUsual limits → (text rest : List ℕ) → IsBulk limits text → kind limits (bulk_string text ++ rest) ≡ read text rest
kind_read limits usual text rest fit =
    ap (kind limits) (sized_shape 36 text rest)
    ∙ ap (found_and_then body) (bulk_length_read limits usual (length text) ((text ++ crlf) ++ rest) fit 0 (omega arith))
    ∙ text_read text rest

-- a line of a number, and then more
line_first : (first n : ℕ) (more rest : List ℕ) → (number_line first n ++ more) ++ rest ≡ first ∷ (decimal n ++ 13 ∷ 10 ∷ (more ++ rest))
line_first first n more rest = append_assoc (number_line first n) more rest ∙ line_shape first n (more ++ rest)

-- what is read behind the line of a count, where these bytes follow it
module _ (limits : Limits) (usual : AreUsual limits) (inside : List ℕ → Found Data) (n : ℕ) (more rest : List ℕ) where
  pub array_steps : IsLength limits.count n → form limits (nested limits inside) ((number_line 42 n ++ more) ++ rest) ≡ found_map (λ es. array (items_of es)) (repeated inside n (more ++ rest))
  array_steps fit = ap (form limits (nested limits inside)) (line_first 42 n more rest) ∙ ap (found_and_then (array_of inside)) (array_count_read limits usual n (more ++ rest) fit)

  pub set_steps : IsLength limits.count n → form limits (nested limits inside) ((number_line 126 n ++ more) ++ rest) ≡ found_map (λ es. set (items_of es)) (repeated inside n (more ++ rest))
  set_steps fit = ap (form limits (nested limits inside)) (line_first 126 n more rest) ∙ ap (found_and_then (set_of inside)) (other_count_read limits usual n (more ++ rest) fit 0 (omega arith))

  pub dict_steps : IsLength limits.count n → form limits (nested limits inside) ((number_line 37 n ++ more) ++ rest) ≡ found_map (λ ps. dict (members_of ps)) (repeated (pair inside) n (more ++ rest))
  dict_steps fit = ap (form limits (nested limits inside)) (line_first 37 n more rest) ∙ ap (found_and_then (map_of inside)) (other_count_read limits usual n (more ++ rest) fit 0 (omega arith))

  pub attribute_steps : (held : List ℕ) → IsLength limits.count n → form limits (nested limits inside) (((number_line 124 n ++ more) ++ held) ++ rest) ≡ found_and_then (attributed inside) (repeated (pair inside) n (more ++ (held ++ rest)))
  attribute_steps held fit =
      ap (form limits (nested limits inside)) (append_assoc (number_line 124 n ++ more) held rest ∙ line_first 124 n more (held ++ rest))
      ∙ ap (found_and_then (attribute_of inside)) (other_count_read limits usual n (more ++ (held ++ rest)) fit 0 (omega arith))

  pub push_steps : (k : PushKind) → IsReadKind limits k → IsLength limits.count (suc n) → form limits (nested limits inside) (((number_line 62 (suc n) ++ bulk_string (kind_text k)) ++ more) ++ rest) ≡ found_map (λ es. push (kind_of (kind_text k)) (items_of es)) (repeated inside n (more ++ rest))
  push_steps k is fit =
      let text = kind_text k in
      let others = more ++ rest in
      let one : suc n - 1 ≡ n = omega arith in
      ap (form limits (nested limits inside)) (append_assoc (number_line 62 (suc n) ++ bulk_string text) more rest ∙ line_first 62 (suc n) (bulk_string text) others)
      ∙ ap (found_and_then (push_of limits inside)) (other_count_read limits usual (suc n) (bulk_string text ++ others) fit 1 (omega arith))
      ∙ ap (found_and_then (push_with inside (suc n))) (kind_read limits usual text others (kind_fits limits usual k is))
      ∙ ap (λ m. found_map (λ es. push (kind_of text) (items_of es)) (repeated inside m others)) one

module _ (limits : Limits) (usual : AreUsual limits) (inside : List ℕ → Found Data) (P : Data → Type 0) (back : (v : Data) → P v → HasShortErrors limits v → (rest : List ℕ) → inside (canonical v ++ rest) ≡ read v rest) where
  items_read : (ds : Items) → EachItem P ds → EachShort limits ds → (rest : List ℕ) → repeated inside (length (list_of ds)) (each_item ds ++ rest) ≡ read (list_of ds) rest
  items_read no_items h k rest = refl
  items_read (item d ds) h k rest =
      let others = each_item ds ++ rest in
      ap (repeated inside (suc (length (list_of ds)))) (append_assoc (canonical d) (each_item ds) rest)
      ∙ first_then inside (length (list_of ds)) (canonical d ++ others) others rest d (list_of ds) (back d h.0 k.0 others) (items_read ds h.1 k.1 rest)

  pub pair_read : (key d : Data) (rest : List ℕ) → P key → P d → HasShortErrors limits key → HasShortErrors limits d → pair inside (canonical key ++ (canonical d ++ rest)) ≡ read (key, d) rest
  pair_read key d rest h k s t =
      ap (found_and_then (λ a r. found_map (λ v. (a, v)) (inside r))) (back key h s (canonical d ++ rest)) ∙ ap (found_map (λ v. (key, v))) (back d k t rest)

  pub members_read : (ms : Members) → EachMember P ms → EachPairShort limits ms → (rest : List ℕ) → repeated (pair inside) (length (pairs_of ms)) (each_member ms ++ rest) ≡ read (pairs_of ms) rest
  members_read no_members h k rest = refl
  members_read (member key d ms) h k rest =
      let others = each_member ms ++ rest in
      let shape : ((canonical key ++ canonical d) ++ each_member ms) ++ rest ≡ canonical key ++ (canonical d ++ others) =
      append_assoc (canonical key ++ canonical d) (each_member ms) rest ∙ append_assoc (canonical key) (canonical d) others in
      ap (repeated (pair inside) (suc (length (pairs_of ms)))) shape
      ∙ first_then (pair inside) (length (pairs_of ms)) (canonical key ++ (canonical d ++ others)) others rest (key, d) (pairs_of ms) (pair_read key d others h.0 h.1 k.0 k.1) (members_read ms h.2 k.2 rest)

  over_read : (v : Data) → IsOver limits P v → HasShortErrors limits v → (rest : List ℕ) → form limits (nested limits inside) (canonical v ++ rest) ≡ read v rest
  over_read (array ds) h k rest = array_steps limits usual inside (length (list_of ds)) (each_item ds) rest h.0 ∙ ap (found_map (λ es. array (items_of es))) (items_read ds h.1 k rest) ∙ ap (λ d. read d rest) (data_of-value_of (array ds))
  over_read (set ds) h k rest = set_steps limits usual inside (length (list_of ds)) (each_item ds) rest h.0 ∙ ap (found_map (λ es. set (items_of es))) (items_read ds h.1 k rest) ∙ ap (λ d. read d rest) (data_of-value_of (set ds))
  over_read (dict ms) h k rest = dict_steps limits usual inside (length (pairs_of ms)) (each_member ms) rest h.0 ∙ ap (found_map (λ ps. dict (members_of ps))) (members_read ms h.1 k rest) ∙ ap (λ d. read d rest) (data_of-value_of (dict ms))
  over_read (attribute d ms) h k rest =
      attribute_steps limits usual inside (length (pairs_of ms)) (each_member ms) rest (canonical d) h.1
      ∙ ap (found_and_then (attributed inside)) (members_read ms h.2 k.1 (canonical d ++ rest))
      ∙ ap (found_map (λ v. attribute v (members_of (pairs_of ms)))) (back d h.0 k.0 rest)
      ∙ ap (λ v. read v rest) (data_of-value_of (attribute d ms))
  over_read (push kind ds) h k rest =
      push_steps limits usual inside (length (list_of ds)) (each_item ds) rest kind h.0 h.1
      ∙ ap (found_map (λ es. push (kind_of (kind_text kind)) (items_of es))) (items_read ds h.2 k rest)
      ∙ ap (λ x. read (push x (items_of (list_of ds))) rest) (kind_back limits kind h.0)
      ∙ ap (λ v. read v rest) (data_of-value_of (push kind ds))
  over_read v h k rest = plain_read limits usual (nested limits inside) v h k rest

pub value_read : (limits : Limits) → AreUsual limits → (depth : ℕ) (v : Data) → IsValue limits depth v → HasShortErrors limits v → (rest : List ℕ) → parse_within limits depth (canonical v ++ rest) ≡ read v rest
value_read limits usual zero v h k rest = plain_read limits usual (innermost limits) v h k rest
value_read limits usual (suc n) v h k rest = over_read limits usual (parse_within limits n) (IsValue limits n) (value_read limits usual n) v h k rest
