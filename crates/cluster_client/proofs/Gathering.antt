-- Addresses that are found one after another.
use Rattle.std.proofs.Common.{◌≡◌, List, [], ◌∷◌, ◌++◌, Option, Some, None, map, refl, sym, ap, ◌∙◌, append_assoc, append-nil}
use Rattle.std.specs.Prelude.{option_map}
use Rattle.cluster_client.specs.Client.{all_there}

-- what was found, before what follows
abbrev pub onto : {X : Type 0} → List X → Option (List X) → Option (List X)
onto found o = option_map (λ rest. found ++ rest) o

pub onto_nothing : {X : Type 0} (o : Option (List X)) → onto [] o ≡ o
onto_nothing None = refl
onto_nothing (Some rest) = refl

moved : {X : Type 0} (found : List X) (x : X) (o : Option (List X)) → onto (found ++ x ∷ []) o ≡ onto found (option_map (λ rest. x ∷ rest) o)
moved found x None = refl
moved {X} found x (Some rest) = ap (λ (xs : List X). Some xs) (append_assoc found (x ∷ []) rest)

pub goes_on : {X : Type 0} (found : List X) (x : X) (o : Option X) (os : List (Option X)) → Some x ≡ o → onto (found ++ x ∷ []) (all_there os) ≡ onto found (all_there (o ∷ os))
goes_on {X} found x None os e = let no : ◌≡◌ {A = Option X} (Some x) None = e in cc
goes_on {X} found x (Some y) os e =
    let same : x ≡ y = cc in
    moved found x (all_there os) ∙ ap (λ (z : X). onto found (option_map (λ (rest : List X). z ∷ rest) (all_there os))) same

pub stops : {X : Type 0} (found : List X) (o : Option X) (os : List (Option X)) → None ≡ o → onto found (all_there (o ∷ os)) ≡ None
stops found None os e = refl
stops {X} found (Some x) os e = let no : ◌≡◌ {A = Option X} None (Some x) = e in cc

pub ends : {X : Type 0} (found : List X) → onto found (all_there []) ≡ Some found
ends {X} found = ap (λ (xs : List X). Some xs) (append-nil found)

-- one more that was found
pub kept_on : {T X : Type 0} (f : T → Option X) (found new : List X) (x : X) (one : T) (left rest : List T) (got : Option X) (all : Option (List X))
    → left ≡ one ∷ rest → got ≡ f one → got ≡ Some x → new ≡ found ++ x ∷ [] → onto found (all_there (map f left)) ≡ all → onto new (all_there (map f rest)) ≡ all
kept_on {T} {X} f found new x one left rest got all split asked was pushed before =
    ap (λ (n : List X). onto n (all_there (map f rest))) pushed
    ∙ goes_on found x (f one) (map f rest) (sym was ∙ asked)
    ∙ sym (ap (λ (l : List T). onto found (all_there (map f l))) split)
    ∙ before
