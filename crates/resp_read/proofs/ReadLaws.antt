-- The same within the limits of a reader that is asked for no others.
use Rattle.std.proofs.Common.{◌≡◌, ℕ, ◌<◌, List, [], ◌++◌, length, lit≤, arith}
use Rattle.std.specs.Prelude.{◌↔◌}
use Rattle.resp_value.specs.Data.{Data}
use Rattle.resp_read.specs.Grammar.{max_depth}
use Rattle.resp_read.specs.Parser.{read, short, bad, parse}
use Rattle.resp_read.specs.Limits.{default_limits, AreAllowed}
use Rattle.resp_read.specs.Reads.{Reads, IsProperPrefix, IsMalformed}
use Rattle.resp_read.proofs.WithinLaws as within

pub default_allowed : AreAllowed default_limits
default_allowed = record {
  line_least = lit≤ tt;
  line_most = lit≤ tt;
  bulk_least = lit≤ tt;
  bulk_most = lit≤ tt;
  count_least = lit≤ tt;
  count_most = lit≤ tt;
  depth_most = omega arith;
}

pub reads-append : (bs m : List ℕ) (v : Data) (rest : List ℕ) → Reads bs v rest → Reads (bs ++ m) v (rest ++ m)
reads-append = within.reads-append default_limits default_allowed

pub bad-append : (bs m : List ℕ) → parse max_depth bs ≡ bad → parse max_depth (bs ++ m) ≡ bad
bad-append = within.bad-append default_limits default_allowed

pub short-completes : (bs : List ℕ) → parse max_depth bs ≡ short → (m : List ℕ) × (v : Data) × Reads (bs ++ m) v []
short-completes = within.short-completes default_limits default_allowed

pub reads-ends : (bs : List ℕ) (v : Data) (rest : List ℕ) → Reads bs v rest → (p : List ℕ) × (bs ≡ p ++ rest)
reads-ends = within.reads-ends default_limits default_allowed

pub reads-shorter : (bs : List ℕ) (v : Data) (rest : List ℕ) → Reads bs v rest → length rest < length bs
reads-shorter = within.reads-shorter default_limits default_allowed

pub prefix_from_short : (bs : List ℕ) → parse max_depth bs ≡ short → IsProperPrefix bs
prefix_from_short = within.prefix_from_short default_limits default_allowed

pub malformed_from_bad : (bs : List ℕ) → parse max_depth bs ≡ bad → IsMalformed bs
malformed_from_bad = within.malformed_from_bad default_limits default_allowed

pub short_from_prefix : (bs : List ℕ) → IsProperPrefix bs → parse max_depth bs ≡ short
short_from_prefix = within.short_from_prefix default_limits default_allowed

pub bad_from_malformed : (bs : List ℕ) → IsMalformed bs → parse max_depth bs ≡ bad
bad_from_malformed = within.bad_from_malformed default_limits default_allowed

pub short-prefix : (bs : List ℕ) → (parse max_depth bs ≡ short) ↔ IsProperPrefix bs
short-prefix = within.short-prefix default_limits default_allowed

pub bad-malformed : (bs : List ℕ) → (parse max_depth bs ≡ bad) ↔ IsMalformed bs
bad-malformed = within.bad-malformed default_limits default_allowed

pub reads_where_found : (bs : List ℕ) (v : Data) (rest : List ℕ) → parse max_depth bs ≡ read v rest → Reads bs v rest
reads_where_found = within.reads_where_found default_limits default_allowed

pub found_where_reads : (bs : List ℕ) (v : Data) (rest : List ℕ) → Reads bs v rest → parse max_depth bs ≡ read v rest
found_where_reads = within.found_where_reads default_limits default_allowed
