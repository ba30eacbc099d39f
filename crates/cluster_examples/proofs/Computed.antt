-- Tables whose rows compute.
use Rattle.std.proofs.Common.{◌≡◌, List, [], ◌∷◌, map}
use Rattle.std.proofs.lemmas.List.Elements.{All-nil, All-cons}
use Rattle.cluster_examples.specs.Tables.{Gives}

head_same : {A : Type 0} (x y : A) (xs ys : List A) → x ∷ xs ≡ y ∷ ys → x ≡ y
head_same x y xs ys e = cc e

tail_same : {A : Type 0} (x y : A) (xs ys : List A) → x ∷ xs ≡ y ∷ ys → xs ≡ ys
tail_same x y xs ys e = cc e

-- one equation of two lists says it of each row
pub gives : {A B : Type 0} (f : A → B) (rows : List (A × B)) → map (λ row. f row.0) rows ≡ map (λ row. row.1) rows → Gives f rows
gives f [] e = All-nil (λ row. f row.0 ≡ row.1)
gives f (r ∷ rows) e = All-cons (λ row. f row.0 ≡ row.1) r rows (head_same _ _ _ _ e) (gives f rows (tail_same _ _ _ _ e))
