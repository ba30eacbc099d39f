-- What a claim answers, and what callers have claimed together.
use Rattle.std.specs.Prelude.{◌≡◌, ℕ, suc, List}
use Rattle.atomic_table.specs.Seated.{TableId}
use Rattle.session_callers.specs.Calls.{Known}
use Rattle.session_callers.specs.Rule.{between, times, total}
use Rattle.session_callers.specs.declared.dial.Claim.{Claim}
use Rattle.session_callers.specs.declared.dial.Claim.TheVariants.{Claimed, Newer}
use Rattle.session_callers.specs.declared.dial.Dial.{Dial}

-- the table whose dial was claimed
abbrev pub table_of : Dial → TableId
table_of d = d.seat.value.value.table_id

-- this number of this table
abbrev pub IsDialOf : TableId → ℕ → Dial → Type 0
IsDialOf z n d = (table_of d ≡ z) × (d.number ≡ n)

abbrev pub MatchClaim : Claim → (Dial → Type 0) → (ℕ → Type 0) → Type 0
MatchClaim (Claimed dial) claimed newer = claimed dial
MatchClaim (Newer n) claimed newer = newer n

-- of these callers just one has claimed each number from 1 to this one, once, and none has claimed any other
abbrev pub AreClaimed : ℕ → List Known → Type 0
AreClaimed dial cs = (n : ℕ) → total (λ (c : Known). times n c.view.claims) cs ≡ between 0 n (suc dial)
