-- CRC-16/XMODEM: the remainder of a message, with 16 zero bits after it, by the polynomial x^16 + x^12 + x^5 + 1.
use Rattle.std.specs.Prelude.{ℕ, zero, suc, ◌*◌, ◌%◌, nat_le, List, [], ◌∷◌, if◌then◌else◌}
use Rattle.std.specs.Int.Bits.{bit_xor}

-- x^12 + x^5 + 1, the polynomial without its highest term: 1021 in hexadecimal
abbrev pub polynomial : ℕ
polynomial = 4129

-- one bit of the message is passed: the register moves up by one bit, and where a bit leaves it the polynomial is taken off
abbrev pub shifted : ℕ → ℕ
shifted r = if nat_le 32_768 r then bit_xor (r * 2 % 65_536) polynomial else r * 2

-- so many bits are passed
abbrev pub after_bits : ℕ → ℕ → ℕ
after_bits zero r = r
after_bits (suc n) r = after_bits n (shifted r)

-- one byte is passed: it is added to the register's upper eight bits, and eight bits go
unfoldable pub after_byte : ℕ → ℕ → ℕ
after_byte r b = after_bits 8 (bit_xor r (b * 256))

-- the register after these bytes, from what it held
abbrev pub crc_from : ℕ → List ℕ → ℕ
crc_from r [] = r
crc_from r (b ∷ bs) = crc_from (after_byte r b) bs

abbrev pub crc16 : List ℕ → ℕ
crc16 bytes = crc_from 0 bytes
