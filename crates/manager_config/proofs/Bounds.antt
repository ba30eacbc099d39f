-- Bounds of delays, and delays below them.
use Rattle.std.proofs.Common.{◌≡◌, ℕ, zero, suc, ◌+◌, ◌-◌, ◌*◌, ◌/◌, ◌%◌, ◌^◌, ◌<◌, ◌≤◌, min, max, Option, Some, None, refl, sym, ◌∙◌, ap, subst, arith, add-zero, add-suc, mod-lt, mod-eq_of_lt, pow-suc, lt_of_le_of_lt}
use Rattle.manager_config.specs.declared.config.ConnectionManagerConfig.{ConnectionManagerConfig}
use Rattle.manager_config.specs.Config.{default_manager}
use Rattle.manager_config.specs.Backoff.{grown, delay_bound, limited, backoff}

-- a bound that its fraction leaves where it is stays there
stands : (c : ConnectionManagerConfig) (i k : ℕ) → grown c.exponent_base (delay_bound c i) ≡ delay_bound c i → delay_bound c (i + k) ≡ delay_bound c i
stands c i zero h = rw add-zero refl
stands c i (suc k) h = rw add-suc (ap (grown c.exponent_base) (stands c i k h) ∙ h)

-- the same, up to attempt n, for a bound that was grown once and is the same
pub stands_until : (c : ConnectionManagerConfig) (i n bound next : ℕ) → bound ≡ delay_bound c i → next ≡ grown c.exponent_base bound → next ≡ bound → i ≤ n → bound ≡ delay_bound c n
stands_until c i n bound next reached grew same le =
    let fixed : grown c.exponent_base (delay_bound c i) ≡ delay_bound c i = ap (grown c.exponent_base) (sym reached) ∙ sym grew ∙ same ∙ reached in
    let whole : i + (n - i) ≡ n = omega arith in
    reached ∙ sym (subst (λ m. delay_bound c m ≡ delay_bound c i) whole (stands c i (n - i) fixed))

-- a remainder by a bound, or by 1, is below it
rest_below : (draw bound : ℕ) → draw % max 1 bound < max 1 bound
rest_below draw bound = mod-lt draw (omega arith)

-- a draw below a bound is its own remainder
rest_same : (draw bound : ℕ) → draw < bound → draw % max 1 bound ≡ draw
rest_same draw bound h = mod-eq_of_lt (omega arith)

limited_le : (most : Option ℕ) (delay : ℕ) → limited most delay ≤ delay
limited_le None delay = omega arith
limited_le (Some most) delay = omega arith

pub below_bound : (c : ConnectionManagerConfig) (n draw : ℕ) → backoff c n draw < max 1 (delay_bound c n)
below_bound c n draw = lt_of_le_of_lt (limited_le c.max_delay (draw % max 1 (delay_bound c n))) (rest_below draw (delay_bound c n))

pub drawn : (c : ConnectionManagerConfig) (n draw : ℕ) → c.max_delay ≡ None → draw < delay_bound c n → backoff c n draw ≡ draw
drawn c n draw free below =
    ap (λ most. limited most (draw % max 1 (delay_bound c n))) free ∙ rest_same draw (delay_bound c n) below

pub at_most : (c : ConnectionManagerConfig) (n draw most : ℕ) → c.max_delay ≡ Some most → backoff c n draw ≤ most
at_most c n draw most is =
    subst (λ m. limited m (draw % max 1 (delay_bound c n)) ≤ most) (sym is) (omega arith)

pub drawn_within : (c : ConnectionManagerConfig) (n draw most : ℕ) → c.max_delay ≡ Some most → draw < delay_bound c n → draw ≤ most → backoff c n draw ≡ draw
drawn_within c n draw most is below within =
    let rest = rest_same draw (delay_bound c n) below in
    ap (λ m. limited m (draw % max 1 (delay_bound c n))) is ∙ ap (min most) rest ∙ omega arith

-- twice as much, up to the same limit
twice : (p : ℕ) → min (2 ^ 64 - 1) (min (2 ^ 64 - 1) (100 * p) * 2 / 1) ≡ min (2 ^ 64 - 1) (100 * (p * 2))
twice p = omega arith

pub doubles : (n : ℕ) → delay_bound default_manager n ≡ min (2 ^ 64 - 1) (100 * 2 ^ n)
doubles zero = refl
doubles (suc n) =
    ap (grown (2, 1)) (doubles n) ∙ twice (2 ^ n) ∙ ap (λ p. min (2 ^ 64 - 1) (100 * p)) (sym (pow-suc 2 n))
