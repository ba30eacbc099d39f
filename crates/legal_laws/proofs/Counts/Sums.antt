-- Sums over all numbers below one.
use Rattle.std.proofs.Common.{◌≡◌, ◌≢◌, ℕ, zero, suc, ◌+◌, ◌<◌, ◌≤◌, ◌==◌, nat_le, sym, subst, arith}
use Rattle.containers.proofs.Choices.{by_test, eq_from, ne_from, le_from, not_le_from}

-- f of the numbers below n, added up
abbrev pub sum_below : (ℕ → ℕ) → ℕ → ℕ
sum_below f zero = 0
sum_below f (suc n) = sum_below f n + f n

-- where each is no more, the sum is no more
pub sum_less : (f g : ℕ → ℕ) (n : ℕ) → ((k : ℕ) → k < n → f k ≤ g k) → sum_below f n ≤ sum_below g n
sum_less f g zero h = omega arith
sum_less f g (suc n) h =
    let rest : sum_below f n ≤ sum_below g n = sum_less f g n (λ k i. h k (omega (arith, i))) in
    let one : f n ≤ g n = h n (omega arith) in
    omega (arith, rest, one)

-- and where one is more by so much, so is the sum at most
pub sum_but_one : (f g : ℕ → ℕ) (m more n : ℕ) → ((k : ℕ) → k ≢ m → f k ≤ g k) → f m ≤ g m + more → sum_below f n ≤ sum_below g n + more
sum_but_one f g m more zero h own = omega arith
sum_but_one f g m more (suc n) h own = by_test (n == m) (sum_below f (suc n) ≤ sum_below g (suc n) + more)
    (λ t.
    let same : n ≡ m = eq_from n m t in
    let rest : sum_below f n ≤ sum_below g n = sum_less f g n (λ k i. h k (λ e. omega (arith, same, i, e))) in
    let one : f n ≤ g n + more = subst (λ k. f k ≤ g k + more) (sym same) own in
    omega (arith, rest, one))
    (λ e.
    let rest : sum_below f n ≤ sum_below g n + more = sum_but_one f g m more n h own in
    let one : f n ≤ g n = h n (ne_from n m e) in
    omega (arith, rest, one))

-- where one of them is less by 1, so is the sum
pub sum_with_one : (f g : ℕ → ℕ) (m n : ℕ) → m < n → ((k : ℕ) → k < n → f k ≤ g k) → f m + 1 ≤ g m → sum_below f n + 1 ≤ sum_below g n
sum_with_one f g m zero i h own = absurd (omega (arith, i))
sum_with_one f g m (suc n) i h own = by_test (n == m) (sum_below f (suc n) + 1 ≤ sum_below g (suc n))
    (λ t.
    let rest : sum_below f n ≤ sum_below g n = sum_less f g n (λ k j. h k (omega (arith, j))) in
    let one : f n + 1 ≤ g n = subst (λ k. f k + 1 ≤ g k) (sym (eq_from n m t)) own in
    omega (arith, rest, one))
    (λ e.
    let apart : n ≢ m = ne_from n m e in
    let rest : sum_below f n + 1 ≤ sum_below g n = sum_with_one f g m n (omega (arith, i, apart)) (λ k j. h k (omega (arith, j))) own in
    let one : f n ≤ g n = h n (omega arith) in
    omega (arith, rest, one))

-- more numbers add no less
pub sum_longer : (f : ℕ → ℕ) (n m : ℕ) → n ≤ m → sum_below f n ≤ sum_below f m
sum_longer f n zero i = let e : n ≡ 0 = omega (arith, i) in subst (λ k. sum_below f k ≤ 0) (sym e) (omega arith)
sum_longer f n (suc m) i = by_test (nat_le n m) (sum_below f n ≤ sum_below f (suc m))
    (λ t. let rest : sum_below f n ≤ sum_below f m = sum_longer f n m (le_from n m t) in omega (arith, rest))
    (λ e. let far : m < n = not_le_from n m e in let same : n ≡ suc m = omega (arith, i, far) in subst (λ k. sum_below f k ≤ sum_below f (suc m)) (sym same) (omega arith))

-- where each is 1 more at most, the sum is as much more as there are numbers
pub sum_one_each : (f g : ℕ → ℕ) (n : ℕ) → ((k : ℕ) → k < n → f k ≤ g k + 1) → sum_below f n ≤ sum_below g n + n
sum_one_each f g zero h = omega arith
sum_one_each f g (suc n) h =
    let rest : sum_below f n ≤ sum_below g n + n = sum_one_each f g n (λ k i. h k (omega (arith, i))) in
    let one : f n ≤ g n + 1 = h n (omega arith) in
    omega (arith, rest, one)

-- where each is 1 at most, it is no more than there are numbers
pub sum_of_ones : (f : ℕ → ℕ) (n : ℕ) → ((k : ℕ) → k < n → f k ≤ 1) → sum_below f n ≤ n
sum_of_ones f zero h = omega arith
sum_of_ones f (suc n) h =
    let rest : sum_below f n ≤ n = sum_of_ones f n (λ k i. h k (omega (arith, i))) in
    let one : f n ≤ 1 = h n (omega arith) in
    omega (arith, rest, one)

-- and where each is 2 at most, than twice as many
pub sum_of_twos : (f : ℕ → ℕ) (n : ℕ) → ((k : ℕ) → k < n → f k ≤ 2) → sum_below f n ≤ n + n
sum_of_twos f zero h = omega arith
sum_of_twos f (suc n) h =
    let rest : sum_below f n ≤ n + n = sum_of_twos f n (λ k i. h k (omega (arith, i))) in
    let one : f n ≤ 2 = h n (omega arith) in
    omega (arith, rest, one)

-- one of them is no more than all
pub sum_has : (f : ℕ → ℕ) (m n : ℕ) → m < n → f m ≤ sum_below f n
sum_has f m zero i = absurd (omega (arith, i))
sum_has f m (suc n) i = by_test (n == m) (f m ≤ sum_below f (suc n))
    (λ t. let one : f m ≤ f n = subst (λ k. f m ≤ f k) (sym (eq_from n m t)) (omega arith) in omega (arith, one))
    (λ e. let apart : n ≢ m = ne_from n m e in let rest : f m ≤ sum_below f n = sum_has f m n (omega (arith, i, apart)) in omega (arith, rest))
