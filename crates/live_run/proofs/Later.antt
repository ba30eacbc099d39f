-- Where a timer has its place among those that are to fire.
use Rattle.std.proofs.Common.{arith, ◌≡◌, ◌⊎◌, ℕ, zero, suc, ◌+◌, ◌-◌, ◌<◌, ◌≤◌, nat_lt, ◌&&◌, Bool, true, false, List, [], ◌∷◌, ◌++◌, length, Some, slice_get, slice_set, refl, ◌∙◌, sym, ap, inl, inr, length-append}
use Rattle.containers.proofs.Choices.{if_true, if_false}
use Rattle.live_run.specs.declared.timers.Pending.{Pending}
use Rattle.live_run.specs.Agenda.{all_later, timed}
use Rattle.live_run.specs.Places.{IsBefore}

-- with something put in front of a place
abbrev pub opened : ℕ → List Pending → Pending → List Pending
opened p [] g = g ∷ []
opened zero (x ∷ xs) g = g ∷ x ∷ xs
opened (suc p) (x ∷ xs) g = x ∷ opened p xs g

-- those from a place on are due later
abbrev pub later_from : ℕ → ℕ → List Pending → Bool
later_from due p [] = true
later_from due zero (x ∷ xs) = all_later due (x ∷ xs)
later_from due (suc p) (x ∷ xs) = later_from due p xs

opened_front : (xs : List Pending) (g : Pending) → opened zero xs g ≡ g ∷ xs
opened_front [] g = refl
opened_front (x ∷ xs) g = refl

later_front : (due : ℕ) (xs : List Pending) → later_from due zero xs ≡ all_later due xs
later_front due [] = refl
later_front due (x ∷ xs) = refl

opened_end : (xs : List Pending) (g : Pending) → opened (length xs) xs g ≡ xs ++ g ∷ []
opened_end [] g = refl
opened_end (x ∷ xs) g = ap (λ (ts : List Pending). x ∷ ts) (opened_end xs g)

later_end : (due : ℕ) (xs : List Pending) → later_from due (length xs) xs ≡ true
later_end due [] = refl
later_end due (x ∷ xs) = later_end due xs

opened_set : (p : ℕ) (xs : List Pending) (g h : Pending) → p ≤ length xs → slice_set (opened p xs g) p h ≡ opened p xs h
opened_set zero [] g h l = refl
opened_set (suc p) [] g h l = absurd (omega (arith, l))
opened_set zero (x ∷ xs) g h l = refl
opened_set (suc p) (x ∷ xs) g h l = ap (λ (ts : List Pending). x ∷ ts) (opened_set p xs g h (omega (arith, l)))

opened_get : (p : ℕ) (xs : List Pending) (g : Pending) → p < length xs → slice_get (opened (suc p) xs g) p ≡ slice_get xs p
opened_get p [] g l = absurd (omega (arith, l))
opened_get zero (x ∷ xs) g l = refl
opened_get (suc p) (x ∷ xs) g l = opened_get p xs g (omega (arith, l))

opened_step : (p : ℕ) (xs : List Pending) (y : Pending) → slice_get xs p ≡ Some y → opened (suc p) xs y ≡ opened p xs y
opened_step p [] y e = absurd (cc)
opened_step zero (x ∷ xs) y e = let s : x ≡ y = cc in rw (opened_front xs y, s) refl
opened_step (suc p) (x ∷ xs) y e = ap (λ (ts : List Pending). x ∷ ts) (opened_step p xs y e)

both : (b c : Bool) → b ≡ true → c ≡ true → (b && c) ≡ true
both true c t e = e
both false c t e = absurd (cc)

first_not : (b c : Bool) → b ≡ false → (b && c) ≡ false
first_not true c f = absurd (cc)
first_not false c f = refl

second_not : (b c : Bool) → c ≡ false → (b && c) ≡ false
second_not true c f = f
second_not false c f = refl

later_step : (due p : ℕ) (xs : List Pending) (y : Pending) → slice_get xs p ≡ Some y → nat_lt due y.due ≡ true → later_from due (suc p) xs ≡ true → later_from due p xs ≡ true
later_step due p [] y e t l = absurd (cc)
later_step due zero (x ∷ xs) y e t l = let s : x ≡ y = cc in both (nat_lt due x.due) (all_later due xs) (rw s t) (sym (later_front due xs) ∙ l)
later_step due (suc p) (x ∷ xs) y e t l = later_step due p xs y e t l

not_all : (due p : ℕ) (xs : List Pending) (y : Pending) → slice_get xs p ≡ Some y → nat_lt due y.due ≡ false → all_later due xs ≡ false
not_all due p [] y e f = absurd (cc)
not_all due zero (x ∷ xs) y e f = let s : x ≡ y = cc in first_not (nat_lt due x.due) (all_later due xs) (rw s f)
not_all due (suc p) (x ∷ xs) y e f = second_not (nat_lt due x.due) (all_later due xs) (not_all due p xs y e f)

timed_here : (t : Pending) (xs : List Pending) → all_later t.due xs ≡ true → timed t xs ≡ t ∷ xs
timed_here t [] l = refl
timed_here t (x ∷ xs) l = if_true (λ (ts : List Pending). ts ≡ t ∷ x ∷ xs) (all_later t.due (x ∷ xs)) (t ∷ x ∷ xs) (x ∷ timed t xs) l refl

timed_past : (t x : Pending) (xs ys : List Pending) → all_later t.due (x ∷ xs) ≡ false → timed t xs ≡ ys → timed t (x ∷ xs) ≡ x ∷ ys
timed_past t x xs ys f e = if_false (λ (ts : List Pending). ts ≡ x ∷ ys) (all_later t.due (x ∷ xs)) (t ∷ x ∷ xs) (x ∷ timed t xs) f (ap (λ (ts : List Pending). x ∷ ts) e)

timed_at : (t : Pending) (p : ℕ) (xs : List Pending) (y : Pending) → slice_get xs p ≡ Some y → nat_lt t.due y.due ≡ false → later_from t.due (suc p) xs ≡ true → timed t xs ≡ opened (suc p) xs t
timed_at t p [] y e f l = absurd (cc)
timed_at t zero (x ∷ xs) y e f l = rw (opened_front xs t) (timed_past t x xs (t ∷ xs) (not_all t.due zero (x ∷ xs) y e f) (timed_here t xs (sym (later_front t.due xs) ∙ l)))
timed_at t (suc p) (x ∷ xs) y e f l = timed_past t x xs (opened (suc p) xs t) (not_all t.due (suc p) (x ∷ xs) y e f) (timed_at t p xs y e f l)

-- how far the search for the place of a timer has come
pub record Sought (due place : ℕ) (old new : List Pending) : Type 0 where
  pub within : place ≤ length old
  pub filler : Pending
  pub is : new ≡ opened place old filler
  pub later : later_from due place old ≡ true

pub sought_start : (due place : ℕ) (old new : List Pending) (t : Pending) → new ≡ old ++ t ∷ [] → place ≡ length new - 1 → Sought due place old new
sought_start due place old new t is at_end =
    let l : length new ≡ length old + 1 = ap (λ (ts : List Pending). length ts) is ∙ length-append old (t ∷ []) in
    let e : place ≡ length old = omega (arith, at_end, l) in
    rw e (record { within = omega arith; filler = t; is = is ∙ sym (opened_end old t); later = later_end due old })

opened_long : (p : ℕ) (xs : List Pending) (g : Pending) → length (opened p xs g) ≡ length xs + 1
opened_long p [] g = omega arith
opened_long zero (x ∷ xs) g = omega arith
opened_long (suc p) (x ∷ xs) g = let l = opened_long p xs g in omega (arith, l)

-- the place is one of the list
pub sought_within : (due place : ℕ) (old new : List Pending) → Sought due place old new → place < length new
sought_within due place old new s =
    let l : length new ≡ length old + 1 = ap (λ (ts : List Pending). length ts) s.is ∙ opened_long place old s.filler in
    let w = s.within in
    omega (arith, l, w)

-- the one in front of the place is later, and moves behind it
pub sought_more : {due place k : ℕ} {old new moved : List Pending} {x : Pending} → Sought due place old new → IsBefore new place due x true → moved ≡ slice_set new place x → k ≡ place - 1 → Sought due k old moved
sought_more {due} {place} {k} {old} {new} {moved} {x} s b is prev =
    let p = b.front in
    let e : k ≡ p = (let n = b.next in omega (arith, prev, n)) in
    let w : p < length old = (let n = b.next in let v = s.within in omega (arith, n, v)) in
    let here : new ≡ opened (suc p) old s.filler = s.is ∙ ap (λ (i : ℕ). opened i old s.filler) b.next in
    let got : slice_get old p ≡ Some x = sym (opened_get p old s.filler w) ∙ ap (λ (ts : List Pending). slice_get ts p) (sym here) ∙ b.stands in
    rw e (record {
      within = omega (arith, w);
      filler = x;
      is = is ∙ ap (λ (ts : List Pending). slice_set ts place x) s.is ∙ opened_set place old s.filler x s.within ∙ ap (λ (i : ℕ). opened i old x) b.next ∙ opened_step p old x got;
      later = later_step due p old x got b.test (ap (λ (i : ℕ). later_from due i old) (sym b.next) ∙ s.later);
    })

timed_first : (t : Pending) (place : ℕ) (old : List Pending) → place ≡ 0 → later_from t.due place old ≡ true → timed t old ≡ opened place old t
timed_first t place old none later = rw (none, opened_front old t) (timed_here t old (sym (later_front t.due old) ∙ (rw none at later)))

timed_found : (t : Pending) (place : ℕ) (old new : List Pending) → Sought t.due place old new → (x : Pending) → IsBefore new place t.due x false → timed t old ≡ opened place old t
timed_found t place old new s x b =
    let p = b.front in
    let w : p < length old = (let n = b.next in let v = s.within in omega (arith, n, v)) in
    let here : new ≡ opened (suc p) old s.filler = s.is ∙ ap (λ (i : ℕ). opened i old s.filler) b.next in
    let got : slice_get old p ≡ Some x = sym (opened_get p old s.filler w) ∙ ap (λ (ts : List Pending). slice_get ts p) (sym here) ∙ b.stands in
    timed_at t p old x got b.test (ap (λ (i : ℕ). later_from t.due i old) (sym b.next) ∙ s.later) ∙ ap (λ (i : ℕ). opened i old t) (sym b.next)

-- its place is found
pub sought_place : {place : ℕ} {old new : List Pending} (t : Pending) → Sought t.due place old new → (place ≡ 0) ⊎ ((x : Pending) × IsBefore new place t.due x false) → slice_set new place t ≡ timed t old
sought_place {place} {old} {new} t s found =
    ap (λ (ts : List Pending). slice_set ts place t) s.is ∙ opened_set place old s.filler t s.within ∙ sym (elim found [
      | inl none ↦ timed_first t place old none s.later
      | inr b ↦ timed_found t place old new s b.0 b.1
    ])
