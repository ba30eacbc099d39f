-- Where the canonical text of a value within the limits is read as a value, no error in it outgrows a line.
use Rattle.std.proofs.Common.{◌≡◌, ℕ, zero, suc, ◌≤◌, List, ◌∷◌, ◌++◌, length, Bool, true, false, cond, refl, sym, ap, ◌∙◌, append_assoc}
use Rattle.resp_value.specs.Data.{Data, array, dict, attribute, set, push, error, Items, no_items, item, items_of, list_of, Members, no_members, member, members_of, pairs_of}
use Rattle.resp_value.specs.Kinds.{kind_of}
use Rattle.resp_read.specs.Grammar.{max_line, fits, error_of, max_depth, reader_limits}
use Rattle.resp_read.specs.Parser.{read, short, bad, ended, Found, found_and_then, found_map, Table, form, innermost, nested, parse, line_found, error_line, repeated, pair, attributed}
use Rattle.resp_read.specs.Reads.{Reads}
use Rattle.resp_read.specs.Limits.{default_limits}
use Rattle.resp_read.proofs.ReadLaws.{found_where_reads}
use Rattle.resp_read.proofs.LineLaws.{fits_within}
use Rattle.resp_write.specs.Canonical.{canonical, each_item, each_member, kind_text, breaks_line}
use Rattle.resp_write.specs.Pack.{crlf, text_line, sized_text}
use Rattle.canonical_laws.specs.Readable.{error_words, EachItem, EachMember, IsPlain, IsOver, IsValue, HasShortErrors, EachShort, EachPairShort, IsReadable}
use Rattle.canonical_laws.proofs.Lines.{line_whole}
use Rattle.canonical_laws.proofs.Limits.{reader_usual}
use Rattle.canonical_laws.proofs.Plain.{no_return}
use Rattle.canonical_laws.proofs.Whole.{array_steps, set_steps, dict_steps, attribute_steps, push_steps, pair_read, members_read, value_read}
use Rattle.canonical_laws.proofs.Given.{read_is_value}

-- where both were read, so was the first
module _ {A B : Type 0} (g : A → List ℕ → Found B) where
  first_read : (x : Found A) (b : B) (end : List ℕ) → found_and_then g x ≡ read b end → (a : A) × (rest : List ℕ) × (x ≡ read a rest) × (g a rest ≡ read b end)
  first_read (read a rest) b end e = (a, rest, refl, e)
  first_read short b end e = cc
  first_read bad b end e = cc

fits_by : (l : List ℕ) (c : Bool) (x w : Data) (rest end : List ℕ) → fits reader_limits l ≡ c → ◌≡◌ {A = Found Data} (cond c (read x rest) bad) (read w end) → length l ≤ max_line
fits_by l true x w rest end is e = fits_within default_limits l is
fits_by l false x w rest end is e = cc

module _ (more : Table) (rest : List ℕ) (w : Data) (end : List ℕ) where
  line_short : (text : List ℕ) → breaks_line text ≡ false → form reader_limits more (text_line 45 text ++ rest) ≡ read w end → length text ≤ max_line
  line_short text is e =
      let whole : form reader_limits more (text_line 45 text ++ rest) ≡ line_found reader_limits error_line (ended text rest) =
      ap (λ bs. form reader_limits more (45 ∷ bs)) (append_assoc text crlf rest) ∙ ap (line_found reader_limits error_line) (line_whole text rest (no_return text is)) in
      fits_by text (fits reader_limits text) (error_of text) w rest end refl (sym whole ∙ e)

  error_short : (text : List ℕ) (c : Bool) → breaks_line text ≡ c → form reader_limits more (cond c (sized_text 33 text) (text_line 45 text) ++ rest) ≡ read w end → c ≡ false → length text ≤ max_line
  error_short text true is e not = cc
  error_short text false is e not = line_short text is e

  pub plain_short : (v : Data) → IsPlain reader_limits v → form reader_limits more (canonical v ++ rest) ≡ read w end → HasShortErrors reader_limits v
  plain_short (error e) h is = error_short (error_words e) (breaks_line (error_words e)) refl is
  plain_short (array ds) h is = absurd h
  plain_short (set ds) h is = absurd h
  plain_short (dict ms) h is = absurd h
  plain_short (attribute d ms) h is = absurd h
  plain_short (push kind ds) h is = absurd h
  plain_short v h is = tt

module _ (inside : List ℕ → Found Data) (P : Data → Type 0) (back : (v : Data) → P v → HasShortErrors reader_limits v → (rest : List ℕ) → inside (canonical v ++ rest) ≡ read v rest) (short_in : (v : Data) → P v → (rest : List ℕ) (w : Data) (end : List ℕ) → inside (canonical v ++ rest) ≡ read w end → HasShortErrors reader_limits v) where
  items_short : (ds : Items) → EachItem P ds → (rest : List ℕ) (ws : List Data) (end : List ℕ) → repeated inside (length (list_of ds)) (each_item ds ++ rest) ≡ read ws end → EachShort reader_limits ds
  items_short no_items h rest ws end e = tt
  items_short (item d ds) h rest ws end e =
      let n = length (list_of ds) in
      let others = each_item ds ++ rest in
      let next : Data → List ℕ → Found (List Data) = λ a r. found_map (λ os. a ∷ os) (repeated inside n r) in
      let whole : found_and_then next (inside (canonical d ++ others)) ≡ read ws end = sym (ap (repeated inside (suc n)) (append_assoc (canonical d) (each_item ds) rest)) ∙ e in
      let one = first_read next (inside (canonical d ++ others)) ws end whole in
      let k = short_in d h.0 others one.0 one.1 one.2 in
      let left : next d others ≡ read ws end = sym (ap (found_and_then next) (back d h.0 k others)) ∙ whole in
      let two = first_read (λ os r. read (d ∷ os) r) (repeated inside n others) ws end left in
      (k, items_short ds h.1 rest two.0 two.1 two.2)

  pair_short : (key d : Data) (rest : List ℕ) (p : Data × Data) (end : List ℕ) → P key → P d → pair inside (canonical key ++ (canonical d ++ rest)) ≡ read p end → HasShortErrors reader_limits key × HasShortErrors reader_limits d
  pair_short key d rest p end h k e =
      let others = canonical d ++ rest in
      let next : Data → List ℕ → Found (Data × Data) = λ a r. found_map (λ v. (a, v)) (inside r) in
      let one = first_read next (inside (canonical key ++ others)) p end e in
      let s = short_in key h others one.0 one.1 one.2 in
      let left : next key others ≡ read p end = sym (ap (found_and_then next) (back key h s others)) ∙ e in
      let two = first_read (λ v r. read (key, v) r) (inside others) p end left in
      (s, short_in d k rest two.0 two.1 two.2)

  members_short : (ms : Members) → EachMember P ms → (rest : List ℕ) (ps : List (Data × Data)) (end : List ℕ) → repeated (pair inside) (length (pairs_of ms)) (each_member ms ++ rest) ≡ read ps end → EachPairShort reader_limits ms
  members_short no_members h rest ps end e = tt
  members_short (member key d ms) h rest ps end e =
      let n = length (pairs_of ms) in
      let others = each_member ms ++ rest in
      let here = canonical key ++ (canonical d ++ others) in
      let shape : ((canonical key ++ canonical d) ++ each_member ms) ++ rest ≡ here =
      append_assoc (canonical key ++ canonical d) (each_member ms) rest ∙ append_assoc (canonical key) (canonical d) others in
      let next : (Data × Data) → List ℕ → Found (List (Data × Data)) = λ a r. found_map (λ os. a ∷ os) (repeated (pair inside) n r) in
      let whole : found_and_then next (pair inside here) ≡ read ps end = sym (ap (repeated (pair inside) (suc n)) shape) ∙ e in
      let one = first_read next (pair inside here) ps end whole in
      let k = pair_short key d others one.0 one.1 h.0 h.1 one.2 in
      let left : next (key, d) others ≡ read ps end = sym (ap (found_and_then next) (pair_read reader_limits reader_usual inside P back key d others h.0 h.1 k.0 k.1)) ∙ whole in
      let two = first_read (λ os r. read ((key, d) ∷ os) r) (repeated (pair inside) n others) ps end left in
      (k.0, k.1, members_short ms h.2 rest two.0 two.1 two.2)

  attribute_short : (d : Data) (ms : Members) → P d → EachMember P ms → (rest : List ℕ) (w : Data) (end : List ℕ) → found_and_then (attributed inside) (repeated (pair inside) (length (pairs_of ms)) (each_member ms ++ (canonical d ++ rest))) ≡ read w end → HasShortErrors reader_limits d × EachPairShort reader_limits ms
  attribute_short d ms one_is h rest w end e =
      let held = canonical d ++ rest in
      let found = repeated (pair inside) (length (pairs_of ms)) (each_member ms ++ held) in
      let one = first_read (attributed inside) found w end e in
      let k = members_short ms h held one.0 one.1 one.2 in
      let left : attributed inside (pairs_of ms) held ≡ read w end = sym (ap (found_and_then (attributed inside)) (members_read reader_limits reader_usual inside P back ms h k held)) ∙ e in
      let two = first_read (λ v r. read (attribute v (members_of (pairs_of ms))) r) (inside held) w end left in
      (short_in d one_is rest two.0 two.1 two.2, k)

  over_short : (v : Data) → IsOver reader_limits P v → (rest : List ℕ) (w : Data) (end : List ℕ) → form reader_limits (nested reader_limits inside) (canonical v ++ rest) ≡ read w end → HasShortErrors reader_limits v
  over_short (array ds) h rest w end e =
      let one = first_read (λ es r. read (array (items_of es)) r) (repeated inside (length (list_of ds)) (each_item ds ++ rest)) w end (sym (array_steps reader_limits reader_usual inside (length (list_of ds)) (each_item ds) rest h.0) ∙ e) in
      items_short ds h.1 rest one.0 one.1 one.2
  over_short (set ds) h rest w end e =
      let one = first_read (λ es r. read (set (items_of es)) r) (repeated inside (length (list_of ds)) (each_item ds ++ rest)) w end (sym (set_steps reader_limits reader_usual inside (length (list_of ds)) (each_item ds) rest h.0) ∙ e) in
      items_short ds h.1 rest one.0 one.1 one.2
  over_short (dict ms) h rest w end e =
      let one = first_read (λ ps r. read (dict (members_of ps)) r) (repeated (pair inside) (length (pairs_of ms)) (each_member ms ++ rest)) w end (sym (dict_steps reader_limits reader_usual inside (length (pairs_of ms)) (each_member ms) rest h.0) ∙ e) in
      members_short ms h.1 rest one.0 one.1 one.2
  over_short (attribute d ms) h rest w end e = attribute_short d ms h.0 h.2 rest w end (sym (attribute_steps reader_limits reader_usual inside (length (pairs_of ms)) (each_member ms) rest (canonical d) h.1) ∙ e)
  over_short (push kind ds) h rest w end e =
      let made : List Data → List ℕ → Found Data = λ es r. read (push (kind_of (kind_text kind)) (items_of es)) r in
      let one = first_read made (repeated inside (length (list_of ds)) (each_item ds ++ rest)) w end (sym (push_steps reader_limits reader_usual inside (length (list_of ds)) (each_item ds) rest kind h.0 h.1) ∙ e) in
      items_short ds h.2 rest one.0 one.1 one.2
  over_short v h rest w end e = plain_short (nested reader_limits inside) rest w end v h e

value_short : (depth : ℕ) (v : Data) → IsValue reader_limits depth v → (rest : List ℕ) (w : Data) (end : List ℕ) → parse depth (canonical v ++ rest) ≡ read w end → HasShortErrors reader_limits v
value_short zero v h rest w end e = plain_short (innermost reader_limits) rest w end v h e
value_short (suc n) v h rest w end e = over_short (parse n) (IsValue reader_limits n) (value_read reader_limits reader_usual n) (value_short n) v h rest w end e

pub readable_alone : (v : Data) (rest end : List ℕ) → Reads (canonical v ++ rest) v end → IsReadable reader_limits max_depth v
readable_alone v rest end e =
    let h = read_is_value (canonical v ++ rest) v end e in
    (h, value_short max_depth v h rest v end (found_where_reads (canonical v ++ rest) v end e))
