-- What was shown is read back by the grammar without limits, so values that are not the same are shown by different texts.
use Rattle.std.proofs.Common.{◌≡◌, ℕ, suc, ◌<◌, ◌^◌, List, [], ◌∷◌, ◌++◌, length, Option, Some, sym, refl, ap, ◌∙◌, subst}
use Rattle.std.proofs.lemmas.List.Elements.{All-head, All-tail}
use Rattle.std.specs.List.{All}
use Rattle.resp_value.specs.Data.{Data, array, items_of}
use Rattle.resp_read.specs.Grammar.{reader_limits, no_limits, max_depth, value_within}
use Rattle.resp_read.specs.Reads.{Reads}
use Rattle.resp_read.proofs.GrammarLaws.{read_where_found}
use Rattle.resp_write.specs.Canonical.{canonical}
use Rattle.canonical_laws.specs.Readable.{EachItem, IsValue, WasRead, shown_depth}
use Rattle.canonical_laws.proofs.Limits.{none_usual}
use Rattle.canonical_laws.proofs.Whole.{value_read}
use Rattle.canonical_laws.proofs.Wider.{given_wider, given_deeper, short_anyway}
use Rattle.canonical_laws.proofs.Given.{items_count, read_is_value}

pub read_back_unlimited : (depth : ℕ) (v : Data) (rest : List ℕ) → IsValue no_limits depth v → value_within no_limits depth (canonical v ++ rest) ≡ Some (v, rest)
read_back_unlimited depth v rest h = read_where_found no_limits depth (canonical v ++ rest) v rest (value_read no_limits none_usual depth v h (short_anyway v) rest)

one_found : (x : Option (Data × List ℕ)) (v w : Data) (r s : List ℕ) → x ≡ Some (v, r) → x ≡ Some (w, s) → (v ≡ w) × (r ≡ s)
one_found x v w r s e f =
    let both : ◌≡◌ {A = Option (Data × List ℕ)} (Some (v, r)) (Some (w, s)) = sym e ∙ f in
    let same : ◌≡◌ {A = Data × List ℕ} (v, r) (w, s) = cc in
    (ap (λ (p : Data × List ℕ). p.0) same, ap (λ (p : Data × List ℕ). p.1) same)

pub same_front_unlimited : (depth : ℕ) (v w : Data) (rest others : List ℕ) → IsValue no_limits depth v → IsValue no_limits depth w → canonical v ++ rest ≡ canonical w ++ others → (v ≡ w) × (rest ≡ others)
same_front_unlimited depth v w rest others h k e =
    one_found (value_within no_limits depth (canonical v ++ rest)) v w rest others (read_back_unlimited depth v rest h) (ap (value_within no_limits depth) e ∙ read_back_unlimited depth w others k)

pub same_front : (v w : Data) (rest others : List ℕ) → IsValue reader_limits max_depth v → IsValue reader_limits max_depth w → canonical v ++ rest ≡ canonical w ++ others → (v ≡ w) × (rest ≡ others)
same_front v w rest others h k e = same_front_unlimited max_depth v w rest others (given_wider max_depth v h) (given_wider max_depth w k) e

pub same_value : (v w : Data) → IsValue reader_limits max_depth v → IsValue reader_limits max_depth w → canonical v ≡ canonical w → v ≡ w
same_value v w h k e = (same_front v w [] [] h k (ap (λ x. x ++ []) e)).0

one_deeper : shown_depth ≡ suc max_depth
unfolding shown_depth max_depth
one_deeper = refl

shown : (v : Data) (rest : List ℕ) → IsValue no_limits (suc max_depth) v → value_within no_limits shown_depth (canonical v ++ rest) ≡ Some (v, rest)
shown v rest h = ap (λ d. value_within no_limits d (canonical v ++ rest)) one_deeper ∙ read_back_unlimited (suc max_depth) v rest h

pub read_again_unlimited : (bytes : List ℕ) (v : Data) (rest more : List ℕ) → Reads bytes v rest → value_within no_limits shown_depth (canonical v ++ more) ≡ Some (v, more)
read_again_unlimited bytes v rest more e = shown v more (given_deeper max_depth v (read_is_value bytes v rest e))

each_given : (vs : List Data) → All WasRead vs → EachItem (IsValue no_limits max_depth) (items_of vs)
each_given [] h = tt
each_given (v ∷ vs) h =
    let r = All-head WasRead v vs h in
    (given_wider max_depth v (read_is_value r.0 v r.1 r.2), each_given vs (All-tail WasRead v vs h))

pub listed_again : (vs : List Data) (more : List ℕ) → length vs < 2 ^ 64 → All WasRead vs → value_within no_limits shown_depth (canonical (array (items_of vs)) ++ more) ≡ Some (array (items_of vs), more)
listed_again vs more few h = shown (array (items_of vs)) more (subst (λ n. n < 2 ^ 64) (sym (items_count vs)) few, each_given vs h)
