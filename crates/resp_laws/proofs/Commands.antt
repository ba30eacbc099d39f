-- A packed command is read as the array of its arguments.
use Rattle.std.proofs.Common.{◌≡◌, ℕ, zero, suc, ◌≤◌, ◌<◌, ◌-◌, lit≤, List, [], ◌∷◌, ◌++◌, length, map, Option, Some, refl, sym, ap, ◌∙◌, append_assoc, arith}
use Rattle.std.proofs.lemmas.List.Elements.{All-head, All-tail}
use Rattle.std.specs.List.{All}
use Rattle.std.specs.Prelude.{decimal, flat_map}
use Rattle.resp_value.specs.Data.{Data, bulk, array, items_of, Items, no_items, item}
use Rattle.resp_read.specs.Grammar.{max_depth, value_within}
use Rattle.resp_read.specs.Parser.{read, Found, found_and_then, found_map, body, bulk_of, bulk_string as bulk_form, repeated, array_of, array_form}
use Rattle.resp_read.specs.Limits.{bounds, reading, default_limits, AreAllowed}
use Rattle.resp_read.specs.declared.limits.Limits.{Limits}
use Rattle.resp_read.specs.Reads.{ReadsWithin, Reads}
use Rattle.resp_read.proofs.ReadLaws.{default_allowed}
use Rattle.resp_read.proofs.WithinLaws.{reads_where_found}
use Rattle.resp_read.proofs.Bodies.{body_is, lawful_body}
use Rattle.resp_write.specs.Pack.{crlf, sized_text, bulk_string, number_line, pack}
use Rattle.resp_laws.specs.Commands.{FitsBulkOf, IsWithin, IsWithinLimits, request}
use Rattle.resp_laws.proofs.Lengths.{no_more, TakesNumbers, length_read}

-- a line of a number, with what follows
pub line_shape : (first n : ℕ) (rest : List ℕ) → number_line first n ++ rest ≡ first ∷ (decimal n ++ 13 ∷ 10 ∷ rest)
line_shape first n rest = ap (λ x. first ∷ x) (append_assoc (decimal n) crlf rest)

pub text_read : (text rest : List ℕ) → body (length text) ((text ++ crlf) ++ rest) ≡ read text rest
text_read text rest = (lawful_body (length text) (text ++ crlf)).grows rest text [] (body_is (length text) text refl)

-- a text with its length before it, with what follows
pub sized_shape : (first : ℕ) (text rest : List ℕ) → sized_text first text ++ rest ≡ first ∷ (decimal (length text) ++ 13 ∷ 10 ∷ ((text ++ crlf) ++ rest))
sized_shape first text rest =
    let head = number_line first (length text) in
    ap (λ x. x ++ rest) (append_assoc head text crlf) ∙ append_assoc head (text ++ crlf) rest ∙ line_shape first (length text) ((text ++ crlf) ++ rest)

-- what was found first, and then the others
pub first_then : {A : Type 0} (inside : List ℕ → Found A) (k : ℕ) (bs rest end : List ℕ) (v : A) (vs : List A) → inside bs ≡ read v rest → repeated inside k rest ≡ read vs end → repeated inside (suc k) bs ≡ read (v ∷ vs) end
first_then inside k bs rest end v vs e f = ap (found_and_then (λ a r. found_map (λ others. a ∷ others) (repeated inside k r))) e ∙ ap (found_map (λ others. v ∷ others)) f

-- within the limits of a reader
module _ (limits : Limits) (allowed : AreAllowed limits) where
  takes : TakesNumbers (bounds limits)
  takes n h = no_more limits.line n (omega (arith, h, allowed.line_least))

  parse_bulk : (n : ℕ) (bs : List ℕ) → reading limits n (36 ∷ bs) ≡ bulk_form (bounds limits) bs
  parse_bulk zero bs = refl
  parse_bulk (suc n) bs = refl

  -- one argument
  bulk_read : (n : ℕ) (text rest : List ℕ) → length text ≤ limits.bulk → reading limits n (bulk_string text ++ rest) ≡ read (bulk text) rest
  bulk_read n text rest fit =
      ap (reading limits n) (sized_shape 36 text rest) ∙ parse_bulk n (decimal (length text) ++ 13 ∷ 10 ∷ ((text ++ crlf) ++ rest))
      ∙ ap (found_and_then bulk_of) (length_read (bounds limits) (Some limits.bulk) (length text) ((text ++ crlf) ++ rest) takes (omega (arith, fit, allowed.bulk_most)) (no_more limits.bulk (length text) fit))
      ∙ ap (found_map bulk) (text_read text rest)

  args_read : (n : ℕ) (args : List (List ℕ)) (rest : List ℕ) → All (FitsBulkOf limits) args → repeated (reading limits n) (length args) (flat_map bulk_string args ++ rest) ≡ read (map bulk args) rest
  args_read n [] rest h = refl
  args_read n (a ∷ args) rest h =
      let others = flat_map bulk_string args ++ rest in
      ap (repeated (reading limits n) (suc (length args))) (append_assoc (bulk_string a) (flat_map bulk_string args) rest)
      ∙ first_then (reading limits n) (length args) (bulk_string a ++ others) others rest (bulk a) (map bulk args) (bulk_read n a others (All-head (FitsBulkOf limits) a args h)) (args_read n args rest (All-tail (FitsBulkOf limits) a args h))

  parse_array : (d n : ℕ) (bs : List ℕ) → d ≡ suc n → reading limits d (42 ∷ bs) ≡ array_form (bounds limits) (reading limits n) bs
  parse_array d n bs e = ap (λ k. reading limits k (42 ∷ bs)) e

  command_read : (n : ℕ) (args : List (List ℕ)) (rest : List ℕ) → IsWithin limits args → reading limits (suc n) ((number_line 42 (length args) ++ flat_map bulk_string args) ++ rest) ≡ read (request args) rest
  command_read n args rest h =
      let others = flat_map bulk_string args ++ rest in
      ap (reading limits (suc n)) (append_assoc (number_line 42 (length args)) (flat_map bulk_string args) rest ∙ line_shape 42 (length args) others)
      ∙ parse_array (suc n) n (decimal (length args) ++ 13 ∷ 10 ∷ others) refl
      ∙ ap (found_and_then (array_of (reading limits n))) (length_read (bounds limits) (Some limits.count) (length args) others takes (omega (arith, h.1, allowed.count_most)) (no_more limits.count (length args) h.1))
      ∙ ap (found_map (λ ds. array (items_of ds))) (args_read n args rest h.0)

  pub reads_within : (name rest : List ℕ) (args : List (List ℕ)) → 0 < limits.depth → IsWithin limits (name ∷ args) → ReadsWithin limits (pack (name ∷ args) ++ rest) (request (name ∷ args)) rest
  reads_within name rest args deep h =
      let one_less : limits.depth ≡ suc (limits.depth - 1) = omega (arith, deep) in
      reads_where_found limits allowed (pack (name ∷ args) ++ rest) (request (name ∷ args)) rest (ap (λ d. reading limits d (pack (name ∷ args) ++ rest)) one_less ∙ command_read (limits.depth - 1) (name ∷ args) rest h)

-- an array may stand in others
is_deep : 0 < max_depth
unfolding max_depth
is_deep = lit≤ tt

pub reads_back : (name rest : List ℕ) (args : List (List ℕ)) → IsWithinLimits (name ∷ args) → Reads (pack (name ∷ args) ++ rest) (request (name ∷ args)) rest
reads_back name rest args h = reads_within default_limits default_allowed name rest args is_deep h

-- the arguments of a request
abbrev texts_of : Items → List (List ℕ)
texts_of no_items = []
texts_of (item (bulk text) ds) = text ∷ texts_of ds
texts_of (item _ ds) = texts_of ds

abbrev args_of : Data → List (List ℕ)
args_of (array ds) = texts_of ds
args_of _ = []

args_back : (args : List (List ℕ)) → texts_of (items_of (map bulk args)) ≡ args
args_back [] = refl
args_back (a ∷ args) = ap (λ x. a ∷ x) (args_back args)

pub one_found : (v w : Data) (r s : List ℕ) → ◌≡◌ {A = Option (Data × List ℕ)} (Some (v, r)) (Some (w, s)) → v ≡ w
one_found v w r s e = let same : ◌≡◌ {A = Data × List ℕ} (v, r) (w, s) = cc in ap (λ (x : Data × List ℕ). x.0) same

same_list : (x y : List ℕ) (xs ys : List (List ℕ)) → ◌≡◌ {A = List (List ℕ)} (x ∷ xs) (y ∷ ys) → (x ≡ y) × (xs ≡ ys)
same_list x y xs ys e = (cc, cc)

pub same_command : (name other : List ℕ) (args others : List (List ℕ)) → IsWithinLimits (name ∷ args) → IsWithinLimits (other ∷ others) → pack (name ∷ args) ≡ pack (other ∷ others) → (name ≡ other) × (args ≡ others)
same_command name other args others h k e =
    let both = sym (reads_back name [] args h) ∙ ap (λ x. value_within (bounds default_limits) max_depth (x ++ [])) e ∙ reads_back other [] others k in
    let same = one_found (request (name ∷ args)) (request (other ∷ others)) [] [] both in
    same_list name other args others (sym (args_back (name ∷ args)) ∙ ap args_of same ∙ args_back (other ∷ others))
