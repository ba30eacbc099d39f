-- What holds of a value that is read, where one is read.
use Rattle.std.proofs.Common.{◌≡◌, ℕ, ◌≤◌, ◌&&◌, nat_le, Bool, true, List, [], ◌∷◌, All, Some, None, Option, IfSome, option_map, option_and_then, if◌then◌else◌, arith}
use Rattle.std.specs.Str.Parse.{digits_value}
use Rattle.std.proofs.lemmas.Bool.Decides.{nat_tests}
use Rattle.std.proofs.lemmas.List.Elements.{All-nil, All-cons, All-head, All-tail}
use Rattle.containers.proofs.Choices.{chosen}
use Rattle.script_text.specs.Numbers.{is_decimal, number}
use Rattle.script_text.specs.Words.{all_of}

module _ {A B : Type 0} (P : A → Type 0) (Q : B → Type 0) where
  pub mapped : (f : A → B) → ((a : A) → P a → Q (f a)) → (o : Option A) → IfSome o P → IfSome (option_map f o) Q
  mapped f each None h = tt
  mapped f each (Some a) h = each a h

  pub then_read : (f : A → Option B) → ((a : A) → P a → IfSome (f a) Q) → (o : Option A) → IfSome o P → IfSome (option_and_then f o) Q
  then_read f each None h = tt
  then_read f each (Some a) h = each a h

-- whatever is read
pub any_read : {A : Type 0} (o : Option A) → IfSome o (λ _. Unit {0})
any_read None = tt
any_read (Some a) = tt

-- a choice between a value and none
pub if_read : {A : Type 0} (P : A → Type 0) (b : Bool) (o : Option A) → (b ≡ true → IfSome o P) → IfSome (if b then o else None) P
if_read P b o t = chosen (λ x. IfSome x P) b o None t (λ f. tt)

module _ {A : Type 0} (P : A → Type 0) where
  pub all_read : (os : List (Option A)) → All (λ o. IfSome o P) os → IfSome (all_of os) (All P)
  all_read [] h = All-nil P
  all_read (None ∷ os) h = tt
  all_read (Some a ∷ os) h =
      mapped (All P) (All P) (λ xs. a ∷ xs) (λ xs each. All-cons P a xs (All-head (λ o. IfSome o P) (Some a) os h) each) (all_of os) (all_read os (All-tail (λ o. IfSome o P) (Some a) os h))

-- a number keeps its limit
pub number_within : (most : ℕ) (word : List ℕ) → IfSome (number most word) (λ n. n ≤ most)
number_within most word =
    if_read (λ n. n ≤ most) (is_decimal word && nat_le (digits_value 10 word) most) (Some (digits_value 10 word)) (λ t. grind (arith, nat_tests))
