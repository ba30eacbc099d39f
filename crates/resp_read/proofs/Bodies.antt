-- Forms that announce a length are lawful.
use Rattle.std.proofs.Common.{◌≡◌, ℕ, ◌-◌, ◌*◌, ◌≤◌, ◌<◌, lit≤, List, [], ◌∷◌, ◌++◌, length, take, drop, replicate, Bool, true, false, cond, refl, sym, ap, ◌∙◌, append_assoc, arith, length-append}
use Rattle.std.proofs.lemmas.List.{length-replicate, take-append-drop, take-append-le, drop-append-le, take_at, drop_at, take_all, drop_all}
use Rattle.std.proofs.lemmas.Bool.Decides.{nat_tests}
use Rattle.std.specs.Prelude.{◌==◌, nat_lt, Option, Some, None}
use Rattle.resp_value.specs.Data.{nil, bulk, verbatim}
use Rattle.resp_read.specs.Grammar.{error_of}
use Rattle.resp_read.specs.Parser.{read, short, bad, fed, closed, body, bulk_of, bulk_string, line_as, size_line, count_line, error_body, bulk_error, some_bytes, colon, format, text_of, verbatim_of, verbatim_string, text_line, bulk_text, kind}
use Rattle.resp_read.specs.Limits.{bounds, AreAllowed}
use Rattle.resp_read.specs.declared.limits.Limits.{Limits}
use Rattle.resp_read.proofs.Laws.{LawfulAt, Lawful, Possible, lawful_where_read, lawful_where_short, lawful_bad, lawful_read, lawful_if, lawful_cons, lawful_nil, lawful_then, lawful_map, possible_map, possible_then}
use Rattle.resp_read.proofs.LineLaws.{lawful_line, fits_is}
use Rattle.resp_read.proofs.Numbers.{lawful_size, lawful_text_line}
use Rattle.resp_read.proofs.Counts.{lawful_count}

module _ {A : Type 0} (v : A) where
  pub lawful_fed : Lawful (fed v)
  lawful_fed [] = lawful_nil (fed v) refl (10 ∷ [], v, refl)
  lawful_fed (b ∷ bs) = lawful_cons (fed v) (λ x. cond (b == 10) (read v x) bad) b bs (λ x. refl) (lawful_if (b == 10) (read v) (λ x. bad) bs (lawful_read v bs) (lawful_bad bs))

  pub lawful_closed : Lawful (closed v)
  lawful_closed [] = lawful_nil (closed v) refl (13 ∷ 10 ∷ [], v, refl)
  lawful_closed (b ∷ bs) = lawful_cons (closed v) (λ x. cond (b == 13) (fed v x) bad) b bs (λ x. refl) (lawful_if (b == 13) (fed v) (λ x. bad) bs (lawful_fed bs) (lawful_bad bs))

pub body_few : (n : ℕ) (bs : List ℕ) → length bs < n → body n bs ≡ short
body_few n bs h = let c : nat_lt (length bs) n ≡ true = grind (arith, nat_tests) in rw c refl

pub body_enough : (n : ℕ) (bs : List ℕ) → n ≤ length bs → body n bs ≡ closed (take n bs) (drop n bs)
body_enough n bs h = let c : nat_lt (length bs) n ≡ false = grind (arith, nat_tests) in rw c refl

-- n bytes and their end are a body
pub body_is : (n : ℕ) (xs : List ℕ) → length xs ≡ n → body n (xs ++ 13 ∷ 10 ∷ []) ≡ read xs []
body_is n xs h =
    let e = length-append xs (13 ∷ 10 ∷ []) in
    body_enough n (xs ++ 13 ∷ 10 ∷ []) (omega arith) ∙ (λ i. closed (take_at xs (13 ∷ 10 ∷ []) n h i) (drop_at xs (13 ∷ 10 ∷ []) n h i))

body_possible : (n : ℕ) → Possible (body n)
body_possible n = let xs = replicate n 0 in (xs ++ 13 ∷ 10 ∷ [], xs, body_is n xs (length-replicate n 0))

lawful_few : (n : ℕ) (bs : List ℕ) → length bs < n → LawfulAt (body n) bs
lawful_few n bs h =
    let pad = replicate (n - length bs) 0 in
    let e : length (bs ++ pad) ≡ n = omega (arith, length-append bs pad, length-replicate {A = ℕ} (n - length bs) 0) in
    lawful_where_short (body n) bs (body_few n bs h) (pad ++ 13 ∷ 10 ∷ []) (bs ++ pad) (ap (body n) (sym (append_assoc bs pad (13 ∷ 10 ∷ []))) ∙ body_is n (bs ++ pad) e)

lawful_enough : (n : ℕ) (bs : List ℕ) → n ≤ length bs → LawfulAt (body n) bs
lawful_enough n bs h =
    let v = take n bs in
    let tail = drop n bs in
    let now : body n bs ≡ closed v tail = body_enough n bs h in
    let more : (m : List ℕ) → body n (bs ++ m) ≡ closed v (tail ++ m) = λ m.
    body_enough n (bs ++ m) (omega (arith, length-append bs m)) ∙ (λ i. closed (take-append-le n bs m h i) (drop-append-le n bs m h i)) in
    let k = lawful_closed v tail in
    record {
      grows = λ m a r e. more m ∙ k.grows m a r (sym now ∙ e);
      stays = λ m e. more m ∙ k.stays m (sym now ∙ e);
      completes = λ e. let c = k.completes (sym now ∙ e) in (c.0, c.1, more c.0 ∙ c.2);
      ends = λ a r e. let p = k.ends a r (sym now ∙ e) in (v ++ p.0, sym (take-append-drop n bs) ∙ ap (λ x. v ++ x) p.1 ∙ sym (append_assoc v p.0 r));
    }

lawful_by : (n : ℕ) (bs : List ℕ) (c : Bool) → nat_lt (length bs) n ≡ c → LawfulAt (body n) bs
lawful_by n bs true h = lawful_few n bs (grind (arith, nat_tests))
lawful_by n bs false h = lawful_enough n bs (grind (arith, nat_tests))

pub lawful_body : (n : ℕ) → Lawful (body n)
lawful_body n bs = lawful_by n bs (nat_lt (length bs) n) refl

lawful_bulk_of : (n : Option ℕ) → Lawful (bulk_of n)
lawful_bulk_of None = lawful_read nil
lawful_bulk_of (Some n) = lawful_map bulk (body n) (lawful_body n)

bulk_of_possible : (n : Option ℕ) → Possible (bulk_of n)
bulk_of_possible None = ([], nil, refl)
bulk_of_possible (Some n) = possible_map bulk (body n) (body_possible n)

pub lawful_bulk_string : (limits : Limits) → AreAllowed limits → Lawful (bulk_string (bounds limits))
lawful_bulk_string limits allowed = lawful_then (line_as (bounds limits) (size_line (Some limits.bulk))) bulk_of (lawful_line limits (size_line (Some limits.bulk)) (lawful_size limits allowed limits.bulk)) lawful_bulk_of bulk_of_possible

pub lawful_counted : (limits : Limits) → AreAllowed limits → (least most : ℕ) → least ≤ 9 → 11 * least ≤ most → Lawful (line_as (bounds limits) (count_line (bounds limits) least (Some most)))
lawful_counted limits allowed least most digit room = lawful_line limits (count_line (bounds limits) least (Some most)) (lawful_count limits allowed least most digit room)

pub lawful_bulk_error : (limits : Limits) → AreAllowed limits → Lawful (bulk_error (bounds limits))
lawful_bulk_error limits allowed =
    lawful_then (line_as (bounds limits) (count_line (bounds limits) 0 (Some limits.bulk))) error_body (lawful_counted limits allowed 0 limits.bulk (lit≤ tt) (omega arith))
    (λ n. lawful_map error_of (body n) (lawful_body n)) (λ n. possible_map error_of (body n) (body_possible n))

-- n bytes
pub bytes_few : (n : ℕ) (bs : List ℕ) → length bs < n → some_bytes n bs ≡ short
bytes_few n bs h = let c : nat_lt (length bs) n ≡ true = grind (arith, nat_tests) in rw c refl

pub bytes_enough : (n : ℕ) (bs : List ℕ) → n ≤ length bs → some_bytes n bs ≡ read (take n bs) (drop n bs)
bytes_enough n bs h = let c : nat_lt (length bs) n ≡ false = grind (arith, nat_tests) in rw c refl

bytes_all : (n : ℕ) (bs : List ℕ) → length bs ≡ n → some_bytes n bs ≡ read bs []
bytes_all n bs h = bytes_enough n bs (omega arith) ∙ (λ i. read (take_all n bs (omega arith) i) (drop_all n bs (omega arith) i))

bytes_by : (n : ℕ) (bs : List ℕ) (c : Bool) → nat_lt (length bs) n ≡ c → LawfulAt (some_bytes n) bs
bytes_by n bs true h =
    let few : length bs < n = grind (arith, nat_tests) in
    let pad = replicate (n - length bs) 0 in
    let e : length (bs ++ pad) ≡ n = omega (arith, few, length-append bs pad, length-replicate {A = ℕ} (n - length bs) 0) in
    lawful_where_short (some_bytes n) bs (bytes_few n bs few) pad (bs ++ pad) (bytes_all n (bs ++ pad) e)
bytes_by n bs false h =
    let fit : n ≤ length bs = grind (arith, nat_tests) in
    lawful_where_read (some_bytes n) bs (take n bs) (drop n bs) (take n bs) (bytes_enough n bs fit)
    (λ m. bytes_enough n (bs ++ m) (omega (arith, fit, length-append bs m)) ∙ (λ i. read (take-append-le n bs m fit i) (drop-append-le n bs m fit i)))
    (sym (take-append-drop n bs))

lawful_bytes : (n : ℕ) → Lawful (some_bytes n)
lawful_bytes n bs = bytes_by n bs (nat_lt (length bs) n) refl

module _ {A : Type 0} (v : A) where
  colon_possible : Possible (colon v)
  colon_possible = (58 ∷ [], v, refl)

  lawful_colon : Lawful (colon v)
  lawful_colon [] = lawful_nil (colon v) refl colon_possible
  lawful_colon (b ∷ bs) = lawful_cons (colon v) (λ x. cond (b == 58) (read v x) bad) b bs (λ x. refl) (lawful_if (b == 58) (read v) (λ x. bad) bs (lawful_read v bs) (lawful_bad bs))

lawful_format : Lawful format
lawful_format = lawful_then (some_bytes 3) colon (lawful_bytes 3) lawful_colon colon_possible

format_possible : Possible format
format_possible = (0 ∷ 0 ∷ 0 ∷ 58 ∷ [], 0 ∷ 0 ∷ 0 ∷ [], refl)

lawful_text : (n : ℕ) (f : List ℕ) → Lawful (text_of n f)
lawful_text n f = lawful_map (verbatim f) (body (n - 4)) (lawful_body (n - 4))

text_possible : (n : ℕ) (f : List ℕ) → Possible (text_of n f)
text_possible n f = possible_map (verbatim f) (body (n - 4)) (body_possible (n - 4))

lawful_verbatim_of : (n : ℕ) → Lawful (verbatim_of n)
lawful_verbatim_of n = lawful_then format (text_of n) lawful_format (lawful_text n) (text_possible n)

verbatim_possible : (n : ℕ) → Possible (verbatim_of n)
verbatim_possible n = possible_then format (text_of n) lawful_format format_possible (text_possible n)

pub lawful_verbatim_string : (limits : Limits) → AreAllowed limits → Lawful (verbatim_string (bounds limits))
lawful_verbatim_string limits allowed = lawful_then (line_as (bounds limits) (count_line (bounds limits) 4 (Some limits.bulk))) verbatim_of (lawful_counted limits allowed 4 limits.bulk (lit≤ tt) (omega (arith, allowed.bulk_least))) lawful_verbatim_of verbatim_possible

-- the kind of a push
kind_line : (limits : Limits) → Lawful (line_as (bounds limits) text_line)
kind_line limits = lawful_line limits text_line (lawful_text_line limits)

kind_text : (limits : Limits) → AreAllowed limits → Lawful (bulk_text (bounds limits))
kind_text limits allowed = lawful_then (line_as (bounds limits) (count_line (bounds limits) 0 (Some limits.bulk))) body (lawful_counted limits allowed 0 limits.bulk (lit≤ tt) (omega arith)) lawful_body body_possible

pub kind_possible : (limits : Limits) → Possible (kind (bounds limits))
kind_possible limits = let fit = fits_is limits [] (omega arith) in (43 ∷ 13 ∷ 10 ∷ [], [], rw fit refl)

pub lawful_kind : (limits : Limits) → AreAllowed limits → Lawful (kind (bounds limits))
lawful_kind limits allowed [] = lawful_nil (kind (bounds limits)) refl (kind_possible limits)
lawful_kind limits allowed (b ∷ bs) =
    lawful_cons (kind (bounds limits)) (λ x. cond (b == 43) (line_as (bounds limits) text_line x) (cond (b == 36) (bulk_text (bounds limits) x) bad)) b bs (λ x. refl)
    (lawful_if (b == 43) (line_as (bounds limits) text_line) (λ x. cond (b == 36) (bulk_text (bounds limits) x) bad) bs (kind_line limits bs) (lawful_if (b == 36) (bulk_text (bounds limits)) (λ x. bad) bs (kind_text limits allowed bs) (lawful_bad bs)))
