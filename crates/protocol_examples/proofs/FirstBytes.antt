-- What is chosen by the first byte of a text.
use Rattle.std.proofs.Common.{◌≡◌, ◌≢◌, ℕ, List, [], ◌∷◌, if◌then◌else◌, refl, ap, ◌∙◌, map}
use Rattle.std.specs.List.{All}
use Rattle.std.proofs.lemmas.List.Elements.{All-head, All-tail}
use Rattle.containers.proofs.Choices.{ne_test}
use Rattle.resp_read.specs.Grammar.{reader_limits, max_depth}
use Rattle.resp_read.specs.Parser.{bad, Table, chosen, plain, nested, parse}
use Rattle.resp_read.proofs.ReadLaws.{malformed_from_bad}
use Rattle.std.specs.Prelude.{◌++◌}
use Rattle.protocol_examples.specs.Grammar.{BeginsNone}

-- the first bytes of a table
abbrev firsts : Table → List ℕ
firsts table = map (λ row. row.0) table

not_chosen : (table : Table) (b : ℕ) (bs : List ℕ) → All (λ first. b ≢ first) (firsts table) → chosen table b bs ≡ bad
not_chosen [] b bs none = refl
not_chosen (row ∷ rows) b bs none =
    ap (λ t. if t then row.1 bs else chosen rows b bs) (ne_test b row.0 (All-head (λ first. b ≢ first) row.0 (firsts rows) none))
    ∙ not_chosen rows b bs (All-tail (λ first. b ≢ first) row.0 (firsts rows) none)

pub begins_none : (b : ℕ) → BeginsNone b
unfolding max_depth
begins_none b none = malformed_from_bad (b ∷ []) (not_chosen (plain reader_limits ++ nested reader_limits (parse 99)) b [] none)
