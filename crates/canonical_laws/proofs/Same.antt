-- What was shown is read back by a reader.
use Rattle.std.proofs.Common.{◌≡◌, ℕ, List, ◌++◌, Some}
use Rattle.resp_value.specs.Data.{Data}
use Rattle.resp_read.specs.Grammar.{reader_limits, max_depth, value_within}
use Rattle.resp_read.specs.Reads.{ReadsWithin, Reads}
use Rattle.resp_read.specs.Limits.{bounds, AreAllowed}
use Rattle.resp_read.specs.declared.limits.Limits.{Limits}
use Rattle.resp_write.specs.Canonical.{canonical}
use Rattle.resp_read.proofs.GrammarLaws.{read_where_found}
use Rattle.canonical_laws.specs.Readable.{IsReadable}
use Rattle.canonical_laws.proofs.Limits.{reader_usual, allowed_usual}
use Rattle.canonical_laws.proofs.Whole.{value_read}

pub read_back : (depth : ℕ) (v : Data) (rest : List ℕ) → IsReadable reader_limits depth v → value_within reader_limits depth (canonical v ++ rest) ≡ Some (v, rest)
read_back depth v rest h = read_where_found reader_limits depth (canonical v ++ rest) v rest (value_read reader_limits reader_usual depth v h.0 h.1 rest)

pub reads_back : (v : Data) (rest : List ℕ) → IsReadable reader_limits max_depth v → Reads (canonical v ++ rest) v rest
reads_back v rest h = read_back max_depth v rest h

pub reads_back_within : (limits : Limits) (v : Data) (rest : List ℕ) → AreAllowed limits → IsReadable (bounds limits) limits.depth v → ReadsWithin limits (canonical v ++ rest) v rest
reads_back_within limits v rest allowed h =
    read_where_found (bounds limits) limits.depth (canonical v ++ rest) v rest (value_read (bounds limits) (allowed_usual limits allowed) limits.depth v h.0 h.1 rest)
