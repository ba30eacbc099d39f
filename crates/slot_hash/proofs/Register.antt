-- What is added below the top of a register stays below it, so a byte goes by its upper half alone.
use Rattle.std.proofs.Common.{◌≡◌, ℕ, zero, suc, ◌+◌, ◌*◌, ◌/◌, ◌%◌, ◌^◌, ◌<◌, ◌≤◌, refl, ap, sym, ◌∙◌, arith}
use Rattle.std.specs.Int.Bits.{bit_xor, xor_assoc, xor_zero_r, xor_shifted}
use Rattle.std.proofs.lemmas.Nat.{xor_comm, xor_mod, xor_shr, xor_block, xor_lt}
use Rattle.std.proofs.lemmas.Bool.Decides.{nat_tests}
use Rattle.slot_hash.specs.Crc.{polynomial, shifted, after_bits, after_byte}

-- what is taken off, by the bit that leaves
off : ℕ → ℕ
off zero = 0
off (suc n) = polynomial

off_fits : (q : ℕ) → off q < 2 ^ 16
unfolding off
off_fits zero = omega arith
off_fits (suc q) = omega arith

shifted_is : (r q : ℕ) → r < 65_536 → q ≡ r / 32_768 → shifted r ≡ bit_xor (r * 2 % 65_536) (off q)
unfolding off
shifted_is r zero h e =
    let small : r < 32_768 = omega arith in
    let doubled : shifted r ≡ r * 2 = grind (arith, nat_tests) in
    let fits : r * 2 ≡ r * 2 % 65_536 = omega arith in
    doubled ∙ fits ∙ sym (xor_zero_r (r * 2 % 65_536))
shifted_is r (suc q) h e =
    let large : 32_768 ≤ r = omega arith in
    grind (arith, nat_tests)

below : (r : ℕ) → r < 65_536 → shifted r < 65_536
below r h =
    let fits : r * 2 % 65_536 < 2 ^ 16 = omega arith in
    let is = shifted_is r (r / 32_768) h refl in
    let bound : bit_xor (r * 2 % 65_536) (off (r / 32_768)) < 2 ^ 16 = xor_lt 16 (r * 2 % 65_536) (off (r / 32_768)) fits (off_fits (r / 32_768)) in
    omega arith

turned : (a b c : ℕ) → bit_xor (bit_xor a b) c ≡ bit_xor (bit_xor a c) b
turned a b c = xor_assoc a b c ∙ ap (bit_xor a) (xor_comm b c) ∙ sym (xor_assoc a c b)

doubled_xor : (x y : ℕ) → bit_xor x y * 2 ≡ bit_xor (x * 2) (y * 2)
doubled_xor x y =
    let left : x * 2 ≡ x * 2 + 0 = omega arith in
    let right : y * 2 ≡ y * 2 + 0 = omega arith in
    let same : bit_xor (x * 2) (y * 2) ≡ bit_xor (x * 2 + 0) (y * 2 + 0) = λ i. bit_xor (left i) (right i) in
    let block = xor_block 1 x y 0 0 (omega arith) (omega arith) in
    omega arith

top_stays : (x y : ℕ) → y < 32_768 → x / 32_768 ≡ bit_xor x y / 32_768
top_stays x y h =
    let none : y / 32_768 ≡ 0 = omega arith in
    sym (xor_shr x y 15 ∙ ap (bit_xor (x / 32_768)) none ∙ xor_zero_r (x / 32_768))

linear : (x y : ℕ) → x < 65_536 → y < 32_768 → shifted (bit_xor x y) ≡ bit_xor (shifted x) (y * 2)
linear x y h g =
    let q = x / 32_768 in
    let fits : bit_xor x y < 65_536 = xor_lt 16 x y h (omega arith) in
    let whole : y * 2 % 65_536 ≡ y * 2 = omega arith in
    let low : bit_xor x y * 2 % 65_536 ≡ bit_xor (x * 2 % 65_536) (y * 2) =
    ap (λ n. n % 65_536) (doubled_xor x y) ∙ xor_mod (x * 2) (y * 2) 16 ∙ ap (bit_xor (x * 2 % 65_536)) whole in
    shifted_is (bit_xor x y) (x / 32_768) fits (top_stays x y g)
    ∙ ap (λ n. bit_xor n (off (x / 32_768))) low
    ∙ turned (x * 2 % 65_536) (y * 2) (off (x / 32_768))
    ∙ ap (λ n. bit_xor n (y * 2)) (sym (shifted_is x (x / 32_768) h refl))

abbrev doubles : ℕ → ℕ → ℕ
doubles zero y = y
doubles (suc n) y = doubles n (y * 2)

grows : (n y : ℕ) → y ≤ doubles n y
grows zero y = omega arith
grows (suc n) y = omega (arith, grows n (y * 2))

many : (n x y : ℕ) → x < 65_536 → doubles n y < 65_536 → after_bits n (bit_xor x y) ≡ bit_xor (after_bits n x) (doubles n y)
many zero x y h g = refl
many (suc n) x y h g =
    ap (after_bits n) (linear x y h (omega (arith, grows n (y * 2)))) ∙ many n (shifted x) (y * 2) (below x h) g

eight : (x y : ℕ) → x < 65_536 → y < 256 → after_bits 8 (bit_xor x y) ≡ bit_xor (after_bits 8 x) (y * 256)
eight x y h g =
    let is : doubles 8 y ≡ y * 256 = omega arith in
    many 8 x y h (omega arith) ∙ ap (bit_xor (after_bits 8 x)) is

halves : (r b : ℕ) → r < 65_536 → b < 256 → bit_xor r (b * 256) ≡ bit_xor (bit_xor (r / 256) b * 256) (r % 256)
halves r b h g =
    let parts : r ≡ r / 256 * 256 + r % 256 = omega arith in
    let whole : b * 256 ≡ b * 256 + 0 = omega arith in
    let low : r % 256 < 2 ^ 8 = omega arith in
    ap (λ n. bit_xor n (b * 256)) parts
    ∙ ap (bit_xor (r / 256 * 256 + r % 256)) whole
    ∙ xor_block 8 (r / 256) b (r % 256) 0 low (omega arith)
    ∙ ap (λ n. bit_xor (r / 256) b * 256 + n) (xor_zero_r (r % 256))
    ∙ sym (xor_shifted (bit_xor (r / 256) b) 8 (r % 256) low)

pub by_upper_half : (r b : ℕ) → r < 65_536 → b < 256 → bit_xor (r * 256 % 65_536) (after_byte 0 (bit_xor (r / 256) b)) ≡ after_byte r b
unfolding after_byte
by_upper_half r b h g =
    let top : bit_xor (r / 256) b < 2 ^ 8 = xor_lt 8 (r / 256) b (omega arith) g in
    let low : r * 256 % 65_536 ≡ r % 256 * 256 = omega arith in
    ap (λ n. bit_xor n (after_bits 8 (bit_xor (r / 256) b * 256))) low
    ∙ xor_comm (r % 256 * 256) (after_bits 8 (bit_xor (r / 256) b * 256))
    ∙ sym (eight (bit_xor (r / 256) b * 256) (r % 256) (omega arith) (omega arith))
    ∙ ap (after_bits 8) (sym (halves r b h g))
