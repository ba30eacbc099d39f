-- Which limits a canonical text is read back within: those of the reader, or none.
use Rattle.std.proofs.Common.{◌≡◌, ℕ, ◌≤◌, ◌<◌, ◌^◌, Option, Some, None, true, refl, arith}
use Rattle.resp_read.specs.Grammar.{Limits, reader_limits, no_limits, allows}
use Rattle.resp_read.specs.Limits.{bounds, AreAllowed}
use Rattle.resp_read.specs.declared.limits.Limits.{Limits as ReaderLimits}
use Rattle.resp_laws.proofs.Lengths.{TakesNumbers, no_more}
use Rattle.canonical_laws.specs.Readable.{IsAtMost, IsLength}

pub at_most_allowed : (most : Option ℕ) (n : ℕ) → IsAtMost most n → allows most n ≡ true
at_most_allowed None n h = refl
at_most_allowed (Some most) n h = no_more most n h

pub length_allowed : (most : Option ℕ) (n : ℕ) → IsLength most n → allows most n ≡ true
length_allowed None n h = refl
length_allowed (Some most) n h = no_more most n h

-- a number of 64 bits fits a line, the name of a push's kind is a bulk string, and each length within the limits is a number of 64 bits
pub record AreUsual (limits : Limits) : Type 0 where
  pub numbers : (n : ℕ) → n ≤ 20 → IsAtMost limits.line n
  pub names : (n : ℕ) → n ≤ 20 → IsLength limits.bulk n
  pub bulk : (n : ℕ) → IsLength limits.bulk n → n < 2 ^ 64
  pub count : (n : ℕ) → IsLength limits.count n → n < 2 ^ 64

pub reader_usual : AreUsual reader_limits
reader_usual = record { numbers = λ n h. omega (arith, h); names = λ n h. omega (arith, h); bulk = λ n h. omega (arith, h); count = λ n h. omega (arith, h) }

pub allowed_usual : (limits : ReaderLimits) → AreAllowed limits → AreUsual (bounds limits)
allowed_usual limits allowed = record {
  numbers = λ n h. omega (arith, h, allowed.line_least);
  names = λ n h. omega (arith, h, allowed.bulk_least);
  bulk = λ n h. omega (arith, h, allowed.bulk_most);
  count = λ n h. omega (arith, h, allowed.count_most);
}

pub none_usual : AreUsual no_limits
none_usual = record { numbers = λ n h. tt; names = λ n h. omega (arith, h); bulk = λ n h. h; count = λ n h. h }

pub takes : (limits : Limits) → AreUsual limits → TakesNumbers limits
takes limits usual n h = at_most_allowed limits.line n (usual.numbers n h)
