use Rattle.std.proofs.Common.{◌≤◌, ◌<◌, ℕ}
use Rattle.live_run.specs.Endings.{IsOpen}
use Rattle.live_run.proofs.verdict.first_open.Given as goal

-- each submission before this one has its outcome
abbrev pub invariant-loop-n : goal.invariant-loop-n
invariant-loop-n l = (k : ℕ) → l.start ≤ k → k < l.n → IsOpen l.session k → ⊥
