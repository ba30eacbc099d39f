-- The first item of a number, and what is done to it.
use Rattle.std.proofs.Common.{arith, ◌≡◌, ℕ, zero, suc, ◌+◌, ◌<◌, ◌==◌, Bool, true, false, List, [], ◌∷◌, ◌++◌, length, Option, Some, None, slice_get, slice_set, if◌then◌else◌, refl, ◌∙◌, sym, ap}
use Rattle.std.specs.Prelude.{remove}
use Rattle.containers.proofs.Choices.{if_true, if_false, eq_from, ne_from}
use Rattle.containers.proofs.Places.{get_within}
use Rattle.live_run.specs.declared.agenda.Target.{Target}
use Rattle.live_run.specs.declared.links.Link.{Link}
use Rattle.live_run.specs.Agenda.{numbers_of, offer_of, offered, removed, stands, undialled, without}
use Rattle.live_run.specs.Places.{AreOthers, AreOthersBefore, IsFirstAt, IsUnoffered, itself, link_number, target_link}

module _ {T : Type 0} (number : T → ℕ) (n : ℕ) where
  pub others_none : (xs : List T) → AreOthersBefore number n 0 xs
  others_none [] = tt
  others_none (x ∷ xs) = tt

  others_next : (i : ℕ) (xs : List T) (x : T) → slice_get xs i ≡ Some x → (number x == n) ≡ false → AreOthersBefore number n i xs → AreOthersBefore number n (suc i) xs
  others_next i [] x is other h = tt
  others_next zero (y ∷ xs) x is other h = let s : y ≡ x = cc in (rw s other, others_none xs)
  others_next (suc i) (y ∷ xs) x is other h = (h.0, others_next i xs x is other h.1)

  -- one more isn't it
  pub others_more : (i k : ℕ) (xs : List T) (x : T) → k ≡ i + 1 → slice_get xs i ≡ Some x → (number x == n) ≡ false → AreOthersBefore number n i xs → AreOthersBefore number n k xs
  others_more i k xs x next is other h = let s : k ≡ suc i = omega (arith, next) in rw s (others_next i xs x is other h)

  others_whole : (xs : List T) → AreOthersBefore number n (length xs) xs → AreOthers number n xs
  others_whole [] h = tt
  others_whole (x ∷ xs) h = (h.0, others_whole xs h.1)

  -- none is it
  pub others_all : (i : ℕ) (xs : List T) → i ≡ length xs → AreOthersBefore number n i xs → AreOthers number n xs
  others_all i xs is h = others_whole xs (rw is at h)

  pub first_at : (i : ℕ) (xs : List T) (x : T) → slice_get xs i ≡ Some x → (number x == n) ≡ true → AreOthersBefore number n i xs → IsFirstAt number n i xs
  first_at i xs x is same h = record { within = get_within xs i x is; item = x; stands = is; same = same; others = h }

some_same : {T : Type 0} {x y : T} → Some x ≡ Some y → x ≡ y
some_same e = cc

either_true : (b c : Bool) → c ≡ true → (if b then true else c) ≡ true
either_true true c e = refl
either_true false c e = e

-- what isn't in front, and doesn't stand behind it
left_out : (b : Bool) (y : ℕ) (xs ys : List ℕ) (c : Bool) → (if b then true else c) ≡ false → (c ≡ false → ys ≡ xs) → (if b then xs else y ∷ ys) ≡ y ∷ xs
left_out true y xs ys c e h = absurd (cc)
left_out false y xs ys c e h = ap (λ (ls : List ℕ). y ∷ ls) (h e)

abbrev put_number : ℕ → List ℕ → List Link → List Link
put_number n bytes xs = record { number = n; offer = bytes } ∷ xs

without_at : (n i : ℕ) (xs : List Link) (x : Link) → slice_get xs i ≡ Some x → (x.number == n) ≡ true → AreOthersBefore link_number n i xs → without n xs ≡ remove xs i
without_at n i [] x is same h = absurd (cc)
without_at n zero (y ∷ xs) x is same h = let s : y ≡ x = cc in if_true (λ (ls : List Link). ls ≡ xs) (y.number == n) xs (y ∷ without n xs) (rw s same) refl
without_at n (suc i) (y ∷ xs) x is same h = if_false (λ (ls : List Link). ls ≡ y ∷ remove xs i) (y.number == n) xs (y ∷ without n xs) h.0 (ap (λ (ls : List Link). y ∷ ls) (without_at n i xs x is same h.1))

pub without_first : {n i : ℕ} {xs : List Link} → IsFirstAt link_number n i xs → without n xs ≡ remove xs i
without_first {n} {i} {xs} f = without_at n i xs f.item f.stands f.same f.others

pub without_none : (n : ℕ) (xs : List Link) → AreOthers link_number n xs → without n xs ≡ xs
without_none n [] h = refl
without_none n (y ∷ xs) h = if_false (λ (ls : List Link). ls ≡ y ∷ xs) (y.number == n) xs (y ∷ without n xs) h.0 (ap (λ (ls : List Link). y ∷ ls) (without_none n xs h.1))

undialled_at : (n i : ℕ) (xs : List Target) (x : Target) → slice_get xs i ≡ Some x → (x.link == n) ≡ true → AreOthersBefore target_link n i xs → undialled n xs ≡ remove xs i
undialled_at n i [] x is same h = absurd (cc)
undialled_at n zero (y ∷ xs) x is same h = let s : y ≡ x = cc in if_true (λ (ts : List Target). ts ≡ xs) (y.link == n) xs (y ∷ undialled n xs) (rw s same) refl
undialled_at n (suc i) (y ∷ xs) x is same h = if_false (λ (ts : List Target). ts ≡ y ∷ remove xs i) (y.link == n) xs (y ∷ undialled n xs) h.0 (ap (λ (ts : List Target). y ∷ ts) (undialled_at n i xs x is same h.1))

pub undialled_first : {n i : ℕ} {xs : List Target} → IsFirstAt target_link n i xs → undialled n xs ≡ remove xs i
undialled_first {n} {i} {xs} f = undialled_at n i xs f.item f.stands f.same f.others

pub undialled_none : (n : ℕ) (xs : List Target) → AreOthers target_link n xs → undialled n xs ≡ xs
undialled_none n [] h = refl
undialled_none n (y ∷ xs) h = if_false (λ (ts : List Target). ts ≡ y ∷ xs) (y.link == n) xs (y ∷ undialled n xs) h.0 (ap (λ (ts : List Target). y ∷ ts) (undialled_none n xs h.1))

removed_at : (n i : ℕ) (xs : List ℕ) (x : ℕ) → slice_get xs i ≡ Some x → (x == n) ≡ true → AreOthersBefore itself n i xs → removed n xs ≡ remove xs i
removed_at n i [] x is same h = absurd (cc)
removed_at n zero (y ∷ xs) x is same h = let s : y ≡ x = cc in if_true (λ (ls : List ℕ). ls ≡ xs) (y == n) xs (y ∷ removed n xs) (rw s same) refl
removed_at n (suc i) (y ∷ xs) x is same h = if_false (λ (ls : List ℕ). ls ≡ y ∷ remove xs i) (y == n) xs (y ∷ removed n xs) h.0 (ap (λ (ls : List ℕ). y ∷ ls) (removed_at n i xs x is same h.1))

pub removed_first : {n i : ℕ} {xs : List ℕ} → IsFirstAt itself n i xs → removed n xs ≡ remove xs i
removed_first {n} {i} {xs} f = removed_at n i xs f.item f.stands f.same f.others

pub removed_none : (n : ℕ) (xs : List ℕ) → AreOthers itself n xs → removed n xs ≡ xs
removed_none n [] h = refl
removed_none n (y ∷ xs) h = if_false (λ (ls : List ℕ). ls ≡ y ∷ xs) (y == n) xs (y ∷ removed n xs) h.0 (ap (λ (ls : List ℕ). y ∷ ls) (removed_none n xs h.1))

stands_at : (n i : ℕ) (xs : List ℕ) (x : ℕ) → slice_get xs i ≡ Some x → (x == n) ≡ true → stands n xs ≡ true
stands_at n i [] x is same = absurd (cc)
stands_at n zero (y ∷ xs) x is same = let s : y ≡ x = cc in if_true (λ (b : Bool). b ≡ true) (y == n) true (stands n xs) (rw s same) refl
stands_at n (suc i) (y ∷ xs) x is same = either_true (y == n) (stands n xs) (stands_at n i xs x is same)

pub stands_first : {n i : ℕ} {xs : List ℕ} → IsFirstAt itself n i xs → stands n xs ≡ true
stands_first {n} {i} {xs} f = stands_at n i xs f.item f.stands f.same

pub stands_none : (n : ℕ) (xs : List ℕ) → AreOthers itself n xs → stands n xs ≡ false
stands_none n [] h = refl
stands_none n (y ∷ xs) h = if_false (λ (b : Bool). b ≡ false) (y == n) true (stands n xs) h.0 (stands_none n xs h.1)

-- what doesn't stand in a list is not taken out
pub unmoved : (n : ℕ) (xs : List ℕ) → stands n xs ≡ false → removed n xs ≡ xs
unmoved n [] h = refl
unmoved n (y ∷ xs) h = left_out (y == n) y xs (removed n xs) (stands n xs) h (λ e. unmoved n xs e)

offer_at : (n i : ℕ) (xs : List Link) (x : Link) → slice_get xs i ≡ Some x → (x.number == n) ≡ true → AreOthersBefore link_number n i xs → offer_of n xs ≡ Some x.offer
offer_at n i [] x is same h = absurd (cc)
offer_at n zero (y ∷ xs) x is same h = let s : y ≡ x = cc in if_true (λ (o : Option (List ℕ)). o ≡ Some x.offer) (y.number == n) (Some y.offer) (offer_of n xs) (rw s same) (rw s refl)
offer_at n (suc i) (y ∷ xs) x is same h = if_false (λ (o : Option (List ℕ)). o ≡ Some x.offer) (y.number == n) (Some y.offer) (offer_of n xs) h.0 (offer_at n i xs x is same h.1)

pub offer_first : {n i : ℕ} {xs : List Link} (f : IsFirstAt link_number n i xs) (x : Link) → slice_get xs i ≡ Some x → offer_of n xs ≡ Some x.offer
offer_first {n} {i} {xs} f x is = let s : f.item ≡ x = some_same (sym f.stands ∙ is) in offer_at n i xs f.item f.stands f.same f.others ∙ ap (λ (y : Link). Some y.offer) s

pub offer_none : (n : ℕ) (xs : List Link) → AreOthers link_number n xs → offer_of n xs ≡ None
offer_none n [] h = refl
offer_none n (y ∷ xs) h = if_false (λ (o : Option (List ℕ)). o ≡ None) (y.number == n) (Some y.offer) (offer_of n xs) h.0 (offer_none n xs h.1)

offered_at : (n i : ℕ) (bytes : List ℕ) (xs : List Link) (x : Link) → slice_get xs i ≡ Some x → (x.number == n) ≡ true → AreOthersBefore link_number n i xs
    → offered n bytes xs ≡ slice_set xs i (record { number = n; offer = bytes })
offered_at n i bytes [] x is same h = absurd (cc)
offered_at n zero bytes (y ∷ xs) x is same h =
    let s : y ≡ x = cc in
    let e : y.number ≡ n = eq_from y.number n (rw s same) in
    if_true (λ (ls : List Link). ls ≡ record { number = n; offer = bytes } ∷ xs) (y.number == n) (record y { offer = bytes } ∷ xs) (y ∷ offered n bytes xs) (rw s same)
    (ap (λ (k : ℕ). put_number k bytes xs) e)
offered_at n (suc i) bytes (y ∷ xs) x is same h =
    if_false (λ (ls : List Link). ls ≡ y ∷ slice_set xs i (record { number = n; offer = bytes })) (y.number == n) (record y { offer = bytes } ∷ xs) (y ∷ offered n bytes xs) h.0
    (ap (λ (ls : List Link). y ∷ ls) (offered_at n i bytes xs x is same h.1))

pub offered_first : {n i : ℕ} {xs : List Link} (bytes : List ℕ) → IsFirstAt link_number n i xs → offered n bytes xs ≡ slice_set xs i (record { number = n; offer = bytes })
offered_first {n} {i} {xs} bytes f = offered_at n i bytes xs f.item f.stands f.same f.others

pub offered_none : (n : ℕ) (bytes : List ℕ) (xs : List Link) → AreOthers link_number n xs → offered n bytes xs ≡ xs
offered_none n bytes [] h = refl
offered_none n bytes (y ∷ xs) h = if_false (λ (ls : List Link). ls ≡ y ∷ xs) (y.number == n) (record y { offer = bytes } ∷ xs) (y ∷ offered n bytes xs) h.0 (ap (λ (ls : List Link). y ∷ ls) (offered_none n bytes xs h.1))

pub unoffered_none : {o : Option (List ℕ)} → o ≡ None → IsUnoffered o
unoffered_none is byte bytes e = absurd (cc)

pub unoffered_length : {o : Option (List ℕ)} (offer : List ℕ) → o ≡ Some offer → (length offer == 0) ≡ true → IsUnoffered o
unoffered_length [] is none byte bytes e = absurd (cc)
unoffered_length (x ∷ xs) is none byte bytes e = absurd (let l = eq_from (length (x ∷ xs)) 0 none in omega (arith, l))

pub some_length : (offer : List ℕ) → (length offer == 0) ≡ false → 0 < length offer
some_length offer some = let n = ne_from (length offer) 0 some in omega (arith, n)

-- the numbers of the first links
abbrev pub numbers_upto : ℕ → List Link → List ℕ
numbers_upto i [] = []
numbers_upto zero (x ∷ xs) = []
numbers_upto (suc i) (x ∷ xs) = x.number ∷ numbers_upto i xs

pub upto_none : (xs : List Link) → numbers_upto 0 xs ≡ []
upto_none [] = refl
upto_none (x ∷ xs) = refl

upto_next : (i : ℕ) (xs : List Link) (x : Link) → slice_get xs i ≡ Some x → numbers_upto (suc i) xs ≡ numbers_upto i xs ++ x.number ∷ []
upto_next i [] x is = absurd (cc)
upto_next zero (y ∷ xs) x is = let s : y ≡ x = cc in rw (upto_none xs, s) refl
upto_next (suc i) (y ∷ xs) x is = ap (λ (ls : List ℕ). y.number ∷ ls) (upto_next i xs x is)

pub upto_more : (i k : ℕ) (xs : List Link) (x : Link) → k ≡ i + 1 → slice_get xs i ≡ Some x → numbers_upto k xs ≡ numbers_upto i xs ++ x.number ∷ []
upto_more i k xs x next is = let s : k ≡ suc i = omega (arith, next) in rw s (upto_next i xs x is)

upto_whole : (xs : List Link) → numbers_upto (length xs) xs ≡ numbers_of xs
upto_whole [] = refl
upto_whole (x ∷ xs) = ap (λ (ls : List ℕ). x.number ∷ ls) (upto_whole xs)

pub upto_all : (i : ℕ) (xs : List Link) → i ≡ length xs → numbers_upto i xs ≡ numbers_of xs
upto_all i xs is = rw is (upto_whole xs)
