-- Each value within the limits is read from some text: its canonical one, but for errors, which announce their length.
use Rattle.std.proofs.Common.{◌≡◌, ℕ, zero, suc, List, [], ◌++◌, length, refl, sym, ap, ◌∙◌, append_assoc}
use Rattle.std.proofs.lemmas.List.{append-nil}
use Rattle.resp_value.specs.Data.{Data, nil, int, bulk, array, simple, okay, dict, attribute, set, double, boolean, verbatim, big, push, error, Items, no_items, item, items_of, list_of, Members, no_members, member, members_of, pairs_of}
use Rattle.resp_value.specs.Kinds.{kind_of}
use Rattle.resp_value.specs.View.{data_of-value_of}
use Rattle.resp_read.specs.Grammar.{max_depth, reader_limits}
use Rattle.resp_read.specs.Parser.{read, Found, found_and_then, found_map, Table, form, innermost, nested, parse, repeated, pair, attributed}
use Rattle.resp_read.specs.Reads.{Reads}
use Rattle.resp_write.specs.Canonical.{canonical, kind_text}
use Rattle.resp_write.specs.Pack.{number_line, sized_text, bulk_string}
use Rattle.resp_laws.proofs.Commands.{first_then}
use Rattle.resp_read.proofs.ReadLaws.{reads_where_found}
use Rattle.canonical_laws.specs.Readable.{error_words, EachItem, EachMember, IsPlain, IsOver, IsValue}
use Rattle.canonical_laws.proofs.Limits.{reader_usual}
use Rattle.canonical_laws.proofs.Plain.{plain_read, bulk_error_back, error_back}
use Rattle.canonical_laws.proofs.Whole.{kind_back, array_steps, set_steps, dict_steps, attribute_steps, push_steps}

-- a text that is read as this, whatever follows
abbrev pub Spelling : {A : Type 0} → (List ℕ → Found A) → A → Type 0
Spelling reader a = (text : List ℕ) × ((rest : List ℕ) → reader (text ++ rest) ≡ read a rest)

plain_spelled : (more : Table) (v : Data) → IsPlain reader_limits v → Spelling (form reader_limits more) v
plain_spelled more (error e) h = (sized_text 33 (error_words e), λ rest. bulk_error_back reader_limits reader_usual more rest (error_words e) h.1 ∙ ap (λ d. read d rest) (error_back e h.0))
plain_spelled more nil h = (canonical nil, plain_read reader_limits reader_usual more nil h tt)
plain_spelled more (int n) h = (canonical (int n), plain_read reader_limits reader_usual more (int n) h tt)
plain_spelled more (bulk text) h = (canonical (bulk text), plain_read reader_limits reader_usual more (bulk text) h tt)
plain_spelled more (simple text) h = (canonical (simple text), plain_read reader_limits reader_usual more (simple text) h tt)
plain_spelled more okay h = (canonical okay, plain_read reader_limits reader_usual more okay h tt)
plain_spelled more (double text) h = (canonical (double text), plain_read reader_limits reader_usual more (double text) h tt)
plain_spelled more (boolean b) h = (canonical (boolean b), plain_read reader_limits reader_usual more (boolean b) h tt)
plain_spelled more (verbatim f text) h = (canonical (verbatim f text), plain_read reader_limits reader_usual more (verbatim f text) h tt)
plain_spelled more (big text) h = (canonical (big text), plain_read reader_limits reader_usual more (big text) h tt)
plain_spelled more (array ds) h = absurd h
plain_spelled more (set ds) h = absurd h
plain_spelled more (dict ms) h = absurd h
plain_spelled more (attribute d ms) h = absurd h
plain_spelled more (push kind ds) h = absurd h

module _ (inside : List ℕ → Found Data) (P : Data → Type 0) (spelled : (v : Data) → P v → Spelling inside v) where
  items_spelled : (ds : Items) → EachItem P ds → Spelling (repeated inside (length (list_of ds))) (list_of ds)
  items_spelled no_items h = ([], λ rest. refl)
  items_spelled (item d ds) h =
      let one = spelled d h.0 in
      let others = items_spelled ds h.1 in (
        one.0 ++ others.0,
        λ rest. ap (repeated inside (suc (length (list_of ds)))) (append_assoc one.0 others.0 rest)
            ∙ first_then inside (length (list_of ds)) (one.0 ++ (others.0 ++ rest)) (others.0 ++ rest) rest d (list_of ds) (one.1 (others.0 ++ rest)) (others.1 rest),
      )

  pair_spelled : (key d : Data) → P key → P d → Spelling (pair inside) (key, d)
  pair_spelled key d h k =
      let one = spelled key h in
      let two = spelled d k in (
        one.0 ++ two.0,
        λ rest. ap (pair inside) (append_assoc one.0 two.0 rest)
            ∙ ap (found_and_then (λ a r. found_map (λ v. (a, v)) (inside r))) (one.1 (two.0 ++ rest))
            ∙ ap (found_map (λ v. (key, v))) (two.1 rest),
      )

  members_spelled : (ms : Members) → EachMember P ms → Spelling (repeated (pair inside) (length (pairs_of ms))) (pairs_of ms)
  members_spelled no_members h = ([], λ rest. refl)
  members_spelled (member key d ms) h =
      let one = pair_spelled key d h.0 h.1 in
      let others = members_spelled ms h.2 in (
        one.0 ++ others.0,
        λ rest. ap (repeated (pair inside) (suc (length (pairs_of ms)))) (append_assoc one.0 others.0 rest)
            ∙ first_then (pair inside) (length (pairs_of ms)) (one.0 ++ (others.0 ++ rest)) (others.0 ++ rest) rest (key, d) (pairs_of ms) (one.1 (others.0 ++ rest)) (others.1 rest),
      )

  over_spelled : (v : Data) → IsOver reader_limits P v → Spelling (form reader_limits (nested reader_limits inside)) v
  over_spelled (array ds) h =
      let n = length (list_of ds) in
      let t = items_spelled ds h.1 in
      (number_line 42 n ++ t.0, λ rest. array_steps reader_limits reader_usual inside n t.0 rest h.0 ∙ ap (found_map (λ es. array (items_of es))) (t.1 rest) ∙ ap (λ d. read d rest) (data_of-value_of (array ds)))
  over_spelled (set ds) h =
      let n = length (list_of ds) in
      let t = items_spelled ds h.1 in
      (number_line 126 n ++ t.0, λ rest. set_steps reader_limits reader_usual inside n t.0 rest h.0 ∙ ap (found_map (λ es. set (items_of es))) (t.1 rest) ∙ ap (λ d. read d rest) (data_of-value_of (set ds)))
  over_spelled (dict ms) h =
      let n = length (pairs_of ms) in
      let t = members_spelled ms h.1 in
      (number_line 37 n ++ t.0, λ rest. dict_steps reader_limits reader_usual inside n t.0 rest h.0 ∙ ap (found_map (λ ps. dict (members_of ps))) (t.1 rest) ∙ ap (λ d. read d rest) (data_of-value_of (dict ms)))
  over_spelled (attribute d ms) h =
      let n = length (pairs_of ms) in
      let t = members_spelled ms h.2 in
      let one = spelled d h.0 in (
        (number_line 124 n ++ t.0) ++ one.0,
        λ rest. attribute_steps reader_limits reader_usual inside n t.0 rest one.0 h.1
            ∙ ap (found_and_then (attributed inside)) (t.1 (one.0 ++ rest))
            ∙ ap (found_map (λ v. attribute v (members_of (pairs_of ms)))) (one.1 rest)
            ∙ ap (λ v. read v rest) (data_of-value_of (attribute d ms)),
      )
  over_spelled (push kind ds) h =
      let n = length (list_of ds) in
      let t = items_spelled ds h.2 in (
        (number_line 62 (suc n) ++ bulk_string (kind_text kind)) ++ t.0,
        λ rest. push_steps reader_limits reader_usual inside n t.0 rest kind h.0 h.1
            ∙ ap (found_map (λ es. push (kind_of (kind_text kind)) (items_of es))) (t.1 rest)
            ∙ ap (λ x. read (push x (items_of (list_of ds))) rest) (kind_back reader_limits kind h.0)
            ∙ ap (λ v. read v rest) (data_of-value_of (push kind ds)),
      )
  over_spelled v h = plain_spelled (nested reader_limits inside) v h

value_spelled : (depth : ℕ) (v : Data) → IsValue reader_limits depth v → Spelling (parse depth) v
value_spelled zero v h = plain_spelled (innermost reader_limits) v h
value_spelled (suc n) v h = over_spelled (parse n) (IsValue reader_limits n) (value_spelled n) v h

pub some_text : (v : Data) → IsValue reader_limits max_depth v → (bytes : List ℕ) × Reads bytes v []
some_text v h =
    let t = value_spelled max_depth v h in
    (t.0, reads_where_found t.0 v [] (ap (parse max_depth) (sym (append-nil t.0)) ∙ t.1 []))
