-- Where the first item of a number stands in a list, and where a timer has its place.
use Rattle.std.specs.Prelude.{◌≡◌, ℕ, zero, suc, ◌<◌, ◌==◌, nat_lt, Bool, true, false, List, [], ◌∷◌, Option, Some, length, slice_get}
use Rattle.live_run.specs.declared.agenda.Target.{Target}
use Rattle.live_run.specs.declared.links.Link.{Link}
use Rattle.live_run.specs.declared.timers.Pending.{Pending}

abbrev pub link_number : Link → ℕ
link_number x = x.number

abbrev pub target_link : Target → ℕ
target_link t = t.link

abbrev pub itself : ℕ → ℕ
itself n = n

-- none of the items before a place has this number
abbrev pub AreOthersBefore : {T : Type 0} → (T → ℕ) → ℕ → ℕ → List T → Type 0
AreOthersBefore number n i [] = Unit {0}
AreOthersBefore number n zero (x ∷ xs) = Unit {0}
AreOthersBefore number n (suc i) (x ∷ xs) = ((number x == n) ≡ false) × AreOthersBefore number n i xs

-- none of the items has this number
abbrev pub AreOthers : {T : Type 0} → (T → ℕ) → ℕ → List T → Type 0
AreOthers number n [] = Unit {0}
AreOthers number n (x ∷ xs) = ((number x == n) ≡ false) × AreOthers number n xs

-- the first item of this number stands at this place
pub record IsFirstAt {T : Type 0} (number : T → ℕ) (n i : ℕ) (xs : List T) : Type 0 where
  pub within : i < length xs
  pub item : T
  pub stands : slice_get xs i ≡ Some item
  pub same : (number item == n) ≡ true
  pub others : AreOthersBefore number n i xs

-- nothing is offered that isn't answered
abbrev pub IsUnoffered : Option (List ℕ) → Type 0
IsUnoffered offer = (byte : ℕ) → (bytes : List ℕ) → offer ≡ Some (byte ∷ bytes) → ⊥

-- the timer in front of a place, and whether it is due later
pub record IsBefore (timers : List Pending) (place due : ℕ) (item : Pending) (later : Bool) : Type 0 where
  pub front : ℕ
  pub next : place ≡ suc front
  pub stands : slice_get timers front ≡ Some item
  pub test : nat_lt due item.due ≡ later
