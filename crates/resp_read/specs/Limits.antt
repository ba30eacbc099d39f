-- What a reader takes at most.
use Rattle.std.specs.Prelude.{ℕ, zero, suc, ◌+◌, ◌*◌, ◌≤◌, nat_lt, List, Some, if◌then◌else◌}
use Rattle.resp_value.specs.Data.{Data}
use Rattle.resp_read.specs.Grammar.{Limits as GrammarLimits, max_line, max_bulk, max_count, max_depth}
use Rattle.resp_read.specs.Parser.{Found, parse_within}
use Rattle.resp_read.specs.declared.limits.Limits.{Limits}

-- the limits of the grammar that a reader's limits are
abbrev pub bounds : Limits → GrammarLimits
bounds limits = record { line = Some limits.line; bulk = Some limits.bulk; count = Some limits.count }

-- the value at the front of a text within a reader's limits, where nested forms stand in one another up to that number
abbrev pub reading : Limits → ℕ → List ℕ → Found Data
reading limits = parse_within (bounds limits)

-- the limits of a reader that is asked for no others, and the greatest
abbrev pub default_limits : Limits
default_limits = record { line = max_line; bulk = max_bulk; count = max_count; depth = max_depth }

-- the least limit of a line: the line of each number of 64 bits and of each length is within it
abbrev pub least_line : ℕ
least_line = 32

-- the least limit of a bulk string: the format of a verbatim string and each kind of a push that has a name are within it
abbrev pub least_bulk : ℕ
least_bulk = 64

-- the least limit of an aggregate: the parts of each push that the protocol names are within it
abbrev pub least_count : ℕ
least_count = 16

-- a reader may have these limits: none is below the least one, and none above the greatest
pub record AreAllowed (limits : Limits) : Type 0 where
  pub line_least : least_line ≤ limits.line
  pub line_most : limits.line ≤ max_line
  pub bulk_least : least_bulk ≤ limits.bulk
  pub bulk_most : limits.bulk ≤ max_bulk
  pub count_least : least_count ≤ limits.count
  pub count_most : limits.count ≤ max_count
  pub depth_most : limits.depth ≤ max_depth

-- n where it is between these two, and else the one that it is nearer to
abbrev pub between : ℕ → ℕ → ℕ → ℕ
between least most n = if nat_lt n least then least else if nat_lt most n then most else n

-- the allowed limits that are nearest to these
abbrev pub nearest_allowed : Limits → Limits
nearest_allowed limits = record {
  line = between least_line max_line limits.line;
  bulk = between least_bulk max_bulk limits.bulk;
  count = between least_count max_count limits.count;
  depth = between 0 max_depth limits.depth;
}

-- the most bytes of a value that holds no others: its first byte, and a line and a text with the ends of both
abbrev pub longest_plain : Limits → ℕ
longest_plain limits = limits.line + limits.bulk + 5

-- the most bytes of a value, where nested forms stand in one another up to that number
abbrev pub longest_value : Limits → ℕ → ℕ
longest_value limits zero = longest_plain limits
longest_value limits (suc n) = longest_plain limits + (2 * limits.count + 1) * longest_value limits n
