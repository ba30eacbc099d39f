-- Requests by their numbers: what a change of progress does, and what it leaves alone.
use Rattle.std.proofs.Common.{◌≡◌, ◌≢◌, ℕ, zero, suc, ◌<◌, Bool, true, false, List, [], ◌∷◌, ◌++◌, length, Some, slice_get, refl, sym, ap, ◌∙◌, arith, length-set, ◌==◌}
use Rattle.containers.proofs.Choices.{by_test, eq_from, ne_from, not_both}
use Rattle.containers.proofs.Places.{get_set_other}
use Rattle.link_laws.proofs.Lists.{get_before}
use Rattle.mux_conn.specs.declared.request.Progress.{Progress}
use Rattle.mux_conn.specs.declared.request.Progress.TheVariants as progress
use Rattle.mux_conn.specs.declared.request.Request.{Request}
use Rattle.mux_conn.specs.Requests.{if_there, is_open, is_waiting, is_admitted, is_open_at, is_waiting_at, is_admitted_at, name_at, permits_or_none, permits_at, with_permits, at_progress, is_unbegun, is_unbegun_at}

-- the names of requests, in order
abbrev pub names : List Request → List ℕ
names [] = []
names (x ∷ xs) = x.name ∷ names xs

-- a change of progress, and of how many permits a request holds, leaves all names
pub names_stay : (r : List Request) (q : ℕ) (now : Progress) (count : ℕ) → names (with_permits r q now count) ≡ names r
names_stay [] q now count = refl
names_stay (x ∷ xs) zero now count = refl
names_stay (x ∷ xs) (suc q) now count = ap (λ (ns : List ℕ). x.name ∷ ns) (names_stay xs q now count)

-- one more name
pub names_push : (r : List Request) (x : Request) → names (r ++ x ∷ []) ≡ names r ++ x.name ∷ []
names_push [] x = refl
names_push (y ∷ r) x = ap (λ (ns : List ℕ). y.name ∷ ns) (names_push r x)

-- as many names as requests
pub names_count : (r : List Request) → length (names r) ≡ length r
names_count [] = refl
names_count (x ∷ xs) = ap suc (names_count xs)

-- each request keeps its name
pub name_stays : (r : List Request) (q m : ℕ) (now : Progress) (count : ℕ) → name_at (with_permits r q now count) m ≡ name_at r m
name_stays [] q m now count = refl
name_stays (x ∷ xs) zero zero now count = refl
name_stays (x ∷ xs) zero (suc m) now count = refl
name_stays (x ∷ xs) (suc q) zero now count = refl
name_stays (x ∷ xs) (suc q) (suc m) now count = name_stays xs q m now count

-- the name of one that is open
pub name_there : (r : List Request) (q : ℕ) → is_open_at r q ≡ true → slice_get (names r) q ≡ Some (name_at r q)
name_there [] q t = cc
name_there (x ∷ xs) zero t = refl
name_there (x ∷ xs) (suc q) t = name_there xs q t

-- changes of progress and permits
--
-- no request comes or goes
pub progress_count : (r : List Request) (q : ℕ) (now : Progress) (count : ℕ) → length (with_permits r q now count) ≡ length r
progress_count r q now count = length-set r q (record { name = name_at r q; progress = now; permits = count })

-- the second change at a place stays
pub progress_twice : (r : List Request) (q : ℕ) (x y : Progress) (j k : ℕ) → with_permits (with_permits r q x j) q y k ≡ with_permits r q y k
progress_twice [] q x y j k = refl
progress_twice (z ∷ r) zero x y j k = refl
progress_twice (z ∷ r) (suc q) x y j k = ap (λ (zs : List Request). z ∷ zs) (progress_twice r q x y j k)

-- changes at two places, in any order
pub progress_apart : (r : List Request) (q p : ℕ) (x y : Progress) (j k : ℕ) → q ≢ p → with_permits (with_permits r q x j) p y k ≡ with_permits (with_permits r p y k) q x j
progress_apart [] q p x y j k o = refl
progress_apart (z ∷ r) zero zero x y j k o = absurd (o refl)
progress_apart (z ∷ r) zero (suc p) x y j k o = refl
progress_apart (z ∷ r) (suc q) zero x y j k o = refl
progress_apart (z ∷ r) (suc q) (suc p) x y j k o = ap (λ (zs : List Request). z ∷ zs) (progress_apart r q p x y j k (λ e. o (ap suc e)))

-- a change beside one more request
pub progress_push : (r : List Request) (q : ℕ) (now : Progress) (count : ℕ) (x : Request) → q < length r → with_permits (r ++ x ∷ []) q now count ≡ with_permits r q now count ++ x ∷ []
progress_push [] q now count x l = absurd (omega arith)
progress_push (z ∷ r) zero now count x l = refl
progress_push (z ∷ r) (suc q) now count x l = ap (λ (zs : List Request). z ∷ zs) (progress_push r q now count x (omega arith))

-- permits
--
-- what all others hold stays
pub permits_other : (r : List Request) (q p : ℕ) (now : Progress) (count : ℕ) → q ≢ p → permits_at (with_permits r q now count) p ≡ permits_at r p
permits_other r q p now count o = ap permits_or_none (get_set_other r q p (record { name = name_at r q; progress = now; permits = count }) o)

-- one that is closed holds none
pub permits_own : (r : List Request) (p : ℕ) (now : Progress) → permits_at (with_permits r p now 0) p ≡ 0
permits_own [] p now = refl
permits_own (x ∷ r) zero now = refl
permits_own (x ∷ r) (suc p) now = permits_own r p now

-- and one more request changes nothing of what those before it hold
pub permits_push : (r : List Request) (p : ℕ) (x : Request) → p < length r → permits_at (r ++ x ∷ []) p ≡ permits_at r p
permits_push r p x l = ap permits_or_none (get_before r (x ∷ []) p l)

-- a request that goes on, holding what it holds, and another that is closed, in any order
pub goes_apart : (r : List Request) (q p : ℕ) (x : Progress) → q ≢ p → with_permits (at_progress r q x) p progress.Closed 0 ≡ at_progress (with_permits r p progress.Closed 0) q x
goes_apart r q p x o =
    progress_apart r q p x progress.Closed (permits_at r q) 0 o
    ∙ ap (with_permits (with_permits r p progress.Closed 0) q x) (sym (permits_other r p q progress.Closed 0 (λ e. o (sym e))))

-- tests of progress
--
-- one that was closed passes no test that a closed one doesn't
pub own_past : (test : Progress → Bool) (r : List Request) (p : ℕ) → test progress.Closed ≡ false → if_there test (slice_get (with_permits r p progress.Closed 0) p) ≡ false
own_past test [] p e = refl
own_past test (x ∷ r) zero e = e
own_past test (x ∷ r) (suc p) e = own_past test r p e

-- so it is not open
pub own_closed : (r : List Request) (p : ℕ) → is_open_at (with_permits r p progress.Closed 0) p ≡ false
own_closed r p = own_past is_open r p refl

-- one that fails a test fails it where any goes on to what fails it
pub past_set : (test : Progress → Bool) (r : List Request) (q p : ℕ) (now : Progress) (count : ℕ) → test now ≡ false → if_there test (slice_get r p) ≡ false
    → if_there test (slice_get (with_permits r q now count) p) ≡ false
past_set test [] q p now count e h = h
past_set test (x ∷ xs) zero zero now count e h = e
past_set test (x ∷ xs) zero (suc p) now count e h = h
past_set test (x ∷ xs) (suc q) zero now count e h = h
past_set test (x ∷ xs) (suc q) (suc p) now count e h = past_set test xs q p now count e h

-- all others pass the tests that they passed
pub test_other : (test : Progress → Bool) (r : List Request) (q p : ℕ) (now : Progress) (count : ℕ) → q ≢ p → if_there test (slice_get (with_permits r q now count) p) ≡ if_there test (slice_get r p)
test_other test r q p now count o = ap (if_there test) (get_set_other r q p (record { name = name_at r q; progress = now; permits = count }) o)

-- one that fails a test may be closed, and the same ones pass it
pub same_test : (test : Progress → Bool) (r : List Request) (p q : ℕ) → test progress.Closed ≡ false → if_there test (slice_get r p) ≡ false
    → if_there test (slice_get r q) ≡ if_there test (slice_get (with_permits r p progress.Closed 0) q)
same_test test r p q closed past =
    by_test (q == p) _
    (λ t.
    let e = eq_from q p t in
    ap (λ (k : ℕ). if_there test (slice_get r k)) e ∙ past ∙ sym (own_past test r p closed) ∙ ap (λ (k : ℕ). if_there test (slice_get (with_permits r p progress.Closed 0) k)) (sym e))
    (λ f. sym (test_other test r p q progress.Closed 0 (λ e. ne_from q p f (sym e))))

-- one more request changes nothing of those before it
pub test_push : (test : Progress → Bool) (r : List Request) (p : ℕ) (x : Request) → p < length r → if_there test (slice_get (r ++ x ∷ []) p) ≡ if_there test (slice_get r p)
test_push test r p x l = ap (if_there test) (get_before r (x ∷ []) p l)

-- one that passes a test is not one that fails it
pub other_test : (test : Progress → Bool) (r : List Request) (q p : ℕ) → if_there test (slice_get r q) ≡ true → if_there test (slice_get r p) ≡ false → q ≢ p
other_test test r q p t f = λ e. let same : if_there test (slice_get r q) ≡ if_there test (slice_get r p) = ap (λ (k : ℕ). if_there test (slice_get r k)) e in cc

-- a test that none but open ones pass
--
-- one that passes it is open
test_open : (test : Progress → Bool) → ((x : Progress) → test x ≡ true → is_open x ≡ true) → (r : List Request) (q : ℕ) → if_there test (slice_get r q) ≡ true → is_open_at r q ≡ true
test_open test on [] q t = cc
test_open test on (x ∷ r) zero t = on x.progress t
test_open test on (x ∷ r) (suc q) t = test_open test on r q t

-- so is one that waits for the connection
pub waiting_open : (r : List Request) (q : ℕ) → is_waiting_at r q ≡ true → is_open_at r q ≡ true
waiting_open r q t = test_open is_waiting still_open r q t
  where
    still_open : (x : Progress) → is_waiting x ≡ true → is_open x ≡ true
    still_open progress.Waiting t = refl
    still_open progress.Begun t = refl
    still_open progress.Admitted t = refl
    still_open progress.Placed t = cc
    still_open progress.Closed t = cc

-- and one that waits for a place
pub admitted_open : (r : List Request) (q : ℕ) → is_admitted_at r q ≡ true → is_open_at r q ≡ true
admitted_open r q t = test_open is_admitted still_open r q t
  where
    still_open : (x : Progress) → is_admitted x ≡ true → is_open x ≡ true
    still_open progress.Waiting t = refl
    still_open progress.Begun t = cc
    still_open progress.Admitted t = refl
    still_open progress.Placed t = cc
    still_open progress.Closed t = cc

-- one that waited for the connection waits for a place, once it may take one
pub admitted_now : (r : List Request) (q count : ℕ) → is_waiting_at r q ≡ true → is_admitted_at (with_permits r q progress.Admitted count) q ≡ true
admitted_now [] q count t = cc
admitted_now (x ∷ r) zero count t = refl
admitted_now (x ∷ r) (suc q) count t = admitted_now r q count t

-- one that is closed stays closed where another goes on
pub closed_set : (r : List Request) (q p : ℕ) (now : Progress) (count : ℕ) → is_open_at r q ≡ true → is_open_at r p ≡ false → is_open_at (with_permits r q now count) p ≡ false
closed_set r q p now count t f = test_other is_open r q p now count (other_test is_open r q p t f) ∙ f

-- rounds
--
-- one whose round has not begun waits
pub unbegun_waits : (r : List Request) (q : ℕ) → is_unbegun_at r q ≡ true → is_waiting_at r q ≡ true
unbegun_waits [] q t = cc
unbegun_waits (x ∷ r) zero t = waits x.progress t
  where
    waits : (x : Progress) → is_unbegun x ≡ true → is_waiting x ≡ true
    waits progress.Waiting t = refl
    waits progress.Begun t = cc
    waits progress.Admitted t = cc
    waits progress.Placed t = cc
    waits progress.Closed t = cc
unbegun_waits (x ∷ r) (suc q) t = unbegun_waits r q t

-- so one that doesn't wait isn't one
pub unbegun_not : (r : List Request) (p : ℕ) → is_waiting_at r p ≡ false → is_unbegun_at r p ≡ false
unbegun_not r p f = by_test (is_unbegun_at r p) _ (λ t. absurd (not_both (is_waiting_at r p) f (unbegun_waits r p t))) (λ g. g)

-- one that waits waits on once its round has begun
pub begun_waits : (r : List Request) (q count : ℕ) → is_waiting_at r q ≡ true → is_waiting_at (with_permits r q progress.Begun count) q ≡ true
begun_waits [] q count t = cc
begun_waits (x ∷ r) zero count t = refl
begun_waits (x ∷ r) (suc q) count t = begun_waits r q count t
