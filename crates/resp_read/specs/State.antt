-- How a reader is.
use Rattle.std.specs.Prelude.{ℕ, ◌-◌, List, length}
use Rattle.resp_read.specs.declared.reader.Health.{Health}
use Rattle.resp_read.specs.declared.limits.Limits.{Limits}

-- whether it has failed, the bytes that it was fed and has not read, how many of them were looked at when all were last pumped, and its limits
pub record ReaderState : Type 0 where
  pub health : Health
  pub rest : List ℕ
  pub seen : ℕ
  pub limits : Limits

-- how many of the bytes left were not looked at when all were last pumped
abbrev pub unseen : ReaderState → ℕ
unseen r = length r.rest - r.seen
