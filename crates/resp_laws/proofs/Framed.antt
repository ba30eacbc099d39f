-- The bytes of a pipeline are those of the commands that it sends.
use Rattle.std.proofs.Common.{◌≡◌, ℕ, ◌≤◌, Bool, true, false, List, [], ◌∷◌, ◌++◌, length, codes, refl, sym, ap, ◌∙◌, append_assoc, append-nil, arith}
use Rattle.std.specs.List.{All}
use Rattle.std.proofs.lemmas.List.Elements.{All-nil, All-cons, All-append}
use Rattle.resp_write.specs.Command.{Command}
use Rattle.resp_write.specs.Pack.{pack, pack_each, pack_commands}
use Rattle.resp_laws.specs.Commands.{FitsBulk, IsWithinLimits, packed, words_of, framed, sent}

each_packed : (cs : List Command) → pack_each cs ≡ packed (words_of cs)
each_packed [] = refl
each_packed (c ∷ cs) = ap (λ bytes. pack c.args ++ bytes) (each_packed cs)

packed-append : (xs ys : List (List (List ℕ))) → packed (xs ++ ys) ≡ packed xs ++ packed ys
packed-append [] ys = refl
packed-append (x ∷ xs) ys = ap (λ bytes. pack x ++ bytes) (packed-append xs ys) ∙ sym (append_assoc (pack x) (packed xs) (packed ys))

framed_packed : (atomic : Bool) (c : Command) (cs : List Command) → pack_commands atomic (c ∷ cs) ≡ packed (framed atomic (words_of (c ∷ cs)))
framed_packed false c cs = each_packed (c ∷ cs)
framed_packed true c cs =
    let last = pack (codes "EXEC" ∷ []) in
    ap (λ bytes. pack (codes "MULTI" ∷ []) ++ bytes)
    (ap (λ bytes. bytes ++ last) (each_packed (c ∷ cs)) ∙ ap (λ bytes. packed (words_of (c ∷ cs)) ++ bytes) (sym (append-nil last)) ∙ sym (packed-append (words_of (c ∷ cs)) ((codes "EXEC" ∷ []) ∷ [])))

pub sent_packed : (atomic : Bool) (cs : List Command) → pack_commands atomic cs ≡ packed (sent atomic cs)
sent_packed atomic [] = refl
sent_packed atomic (c ∷ cs) = framed_packed atomic c cs

one_word : (word : List ℕ) → length word ≤ 5 → IsWithinLimits (word ∷ [])
one_word word short = (All-cons FitsBulk word [] (omega arith) (All-nil FitsBulk), omega arith)

framed_fits : (atomic : Bool) (commands : List (List (List ℕ))) → All IsWithinLimits commands → All IsWithinLimits (framed atomic commands)
framed_fits false commands h = h
framed_fits true commands h =
    All-cons IsWithinLimits (codes "MULTI" ∷ []) (commands ++ (codes "EXEC" ∷ []) ∷ []) (one_word (codes "MULTI") (omega arith))
    (All-append IsWithinLimits commands ((codes "EXEC" ∷ []) ∷ []) h (All-cons IsWithinLimits (codes "EXEC" ∷ []) [] (one_word (codes "EXEC") (omega arith)) (All-nil IsWithinLimits)))

pub sent_fits : (atomic : Bool) (cs : List Command) → All IsWithinLimits (words_of cs) → All IsWithinLimits (sent atomic cs)
sent_fits atomic [] h = h
sent_fits atomic (c ∷ cs) h = framed_fits atomic (words_of (c ∷ cs)) h
