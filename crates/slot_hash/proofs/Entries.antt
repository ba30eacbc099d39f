-- Each entry of the table is what its byte makes of a register of zeros.
use Rattle.std.proofs.Common.{◌≡◌, ℕ, zero, suc, ◌+◌, ◌<◌, Bool, true, nat_eq, ◌&&◌, List, [], ◌∷◌, length, get_or, refl, arith}
use Rattle.std.proofs.lemmas.Bool.Decides.{nat_tests}
use Rattle.slot_hash.specs.declared.table.TheConstants.{TABLE}
use Rattle.slot_hash.specs.Crc.{after_byte}

-- the test: the entries from place i on
abbrev holds_from : ℕ → List ℕ → Bool
holds_from i [] = true
holds_from i (e ∷ es) = nat_eq e (after_byte 0 i) && holds_from (suc i) es

whole_table : holds_from 0 TABLE ≡ true
unfolding after_byte
whole_table = refl

entry : (es : List ℕ) (i k : ℕ) → holds_from i es ≡ true → k < length es → get_or es k 0 ≡ after_byte 0 (i + k)
entry [] i k h lt = absurd (omega arith)
entry (e ∷ es) i zero h lt = grind (arith, nat_tests)
entry (e ∷ es) i (suc k) h lt = grind (arith, nat_tests, entry es (suc i) k)

pub table_entry : (k : ℕ) → k < 256 → get_or TABLE k 0 ≡ after_byte 0 k
table_entry k h = grind (arith, entry TABLE 0 k whole_table h)
