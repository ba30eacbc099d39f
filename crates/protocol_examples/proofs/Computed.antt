-- Tables whose rows compute.
use Rattle.std.proofs.Common.{◌≡◌, ℕ, List, [], ◌∷◌, map}
use Rattle.std.specs.List.{All}
use Rattle.std.proofs.lemmas.List.Elements.{All-nil, All-cons}
use Rattle.resp_read.specs.Grammar.{max_depth}
use Rattle.resp_read.specs.Parser.{read, short, bad, parse}
use Rattle.resp_read.specs.Reads.{IsProperPrefix, IsMalformed}
use Rattle.resp_read.proofs.ReadLaws.{reads_where_found, reads-append, prefix_from_short, malformed_from_bad}
use Rattle.protocol_examples.specs.Tables.{Gives}
use Rattle.protocol_examples.specs.Grammar.{Example, IsValue}

-- equal lists have equal first items, and equal others
first_same : {A : Type 0} (x y : A) (xs ys : List A) → x ∷ xs ≡ y ∷ ys → x ≡ y
first_same x y xs ys e = cc e

others_same : {A : Type 0} (x y : A) (xs ys : List A) → x ∷ xs ≡ y ∷ ys → xs ≡ ys
others_same x y xs ys e = cc e

-- P of each, one after another
abbrev pub Each : {A : Type 0} → (A → Type 0) → List A → Type 0
Each P [] = Unit {0}
Each P (x ∷ xs) = P x × Each P xs

pub each : {A : Type 0} (P : A → Type 0) (xs : List A) → Each P xs → All P xs
each P [] h = All-nil P
each P (x ∷ xs) h = All-cons P x xs h.0 (each P xs h.1)

-- two functions that are the same on each of some
pub each_same : {A B : Type 0} (f g : A → B) (xs : List A) → map f xs ≡ map g xs → All (λ x. f x ≡ g x) xs
each_same f g [] e = All-nil (λ x. f x ≡ g x)
each_same f g (x ∷ xs) e = All-cons (λ y. f y ≡ g y) x xs (first_same _ _ _ _ e) (each_same f g xs (others_same _ _ _ _ e))

pub gives : {A B : Type 0} (f : A → B) (rows : List (A × B)) → map (λ row. f row.0) rows ≡ map (λ row. row.1) rows → Gives f rows
gives f rows e = each_same (λ row. f row.0) (λ row. row.1) rows e

pub are_values : (examples : List Example) → map (λ example. parse max_depth example.0) examples ≡ map (λ example. read example.1 []) examples → All IsValue examples
are_values [] e = All-nil IsValue
are_values (x ∷ xs) e = All-cons IsValue x xs (λ rest. reads-append x.0 rest x.1 [] (reads_where_found x.0 x.1 [] (first_same _ _ _ _ e))) (are_values xs (others_same _ _ _ _ e))

pub are_malformed : (texts : List (List ℕ)) → map (parse max_depth) texts ≡ map (λ text. bad) texts → All IsMalformed texts
are_malformed [] e = All-nil IsMalformed
are_malformed (x ∷ xs) e = All-cons IsMalformed x xs (malformed_from_bad x (first_same _ _ _ _ e)) (are_malformed xs (others_same _ _ _ _ e))

pub are_short : (texts : List (List ℕ)) → map (parse max_depth) texts ≡ map (λ text. short) texts → All IsProperPrefix texts
are_short [] e = All-nil IsProperPrefix
are_short (x ∷ xs) e = All-cons IsProperPrefix x xs (prefix_from_short x (first_same _ _ _ _ e)) (are_short xs (others_same _ _ _ _ e))
