-- How far the dial is claimed.
use Rattle.std.specs.Prelude.{◌≡◌, ℕ}
use Rattle.session_callers.specs.Calls.{Kept}

-- this is the greatest number that was claimed
abbrev pub HasClaimed : ℕ → Kept → Type 0
HasClaimed n k = k.dial ≡ n
