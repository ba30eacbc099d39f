use Rattle.std.proofs.Common.{◌≡◌, ℕ, List, ◌++◌, take, drop}
use Rattle.script_text.specs.Limits.{limited, Counts}
use Rattle.script_text.proofs.intake.count_in.Given as goal

abbrev pub invariant-loop-count : goal.invariant-loop-count
invariant-loop-count l =
    (text : List ℕ) → Counts l.fn.tally text → Counts l.tally (text ++ take l.count l.piece) × (limited text l.piece ≡ limited (text ++ take l.count l.piece) (drop l.count l.piece))
