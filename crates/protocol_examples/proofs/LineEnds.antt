-- Lines of any bytes without a CR, at the limit of the reader and past it.
use Rattle.std.proofs.Common.{◌≡◌, ◌≢◌, ℕ, ◌<◌, ◌==◌, Bool, true, false, ◌&&◌, List, [], ◌∷◌, ◌++◌, length, if◌then◌else◌, refl, ap, ◌∙◌, arith}
use Rattle.std.specs.Prelude.{nat_le, bytes_eq}
use Rattle.std.specs.List.{All}
use Rattle.std.proofs.lemmas.List.Elements.{All-head, All-tail}
use Rattle.containers.proofs.Choices.{ne_test}
use Rattle.resp_value.specs.Data.{simple, okay}
use Rattle.resp_read.specs.Grammar.{simple_of, reader_limits, max_depth}
use Rattle.resp_read.specs.Parser.{short, bad, ended, unended, Found, line, after_return, byte_before, line_found, simple_line}
use Rattle.resp_read.proofs.ReadLaws.{reads_where_found, malformed_from_bad}
use Rattle.protocol_examples.specs.Limits.{IsReadToItsEnd, IsTooLong}

-- a byte that isn't CR, and those after it
line_on : (b : ℕ) (bs : List ℕ) → b ≢ 13 → line (b ∷ bs) ≡ byte_before b (line bs)
line_on b bs other = ap (λ t. if t then after_return bs else byte_before b (line bs)) (ne_test b 13 other)

line_whole : (text rest : List ℕ) → All (λ b. b ≢ 13) text → line (text ++ 13 ∷ 10 ∷ rest) ≡ ended text rest
line_whole [] rest h = refl
line_whole (b ∷ bs) rest h = line_on b (bs ++ 13 ∷ 10 ∷ rest) (All-head (λ b. b ≢ 13) b bs h) ∙ ap (byte_before b) (line_whole bs rest (All-tail (λ b. b ≢ 13) b bs h))

line_begun : (text : List ℕ) → All (λ b. b ≢ 13) text → line text ≡ unended text
line_begun [] h = refl
line_begun (b ∷ bs) h = line_on b bs (All-head (λ b. b ≢ 13) b bs h) ∙ ap (byte_before b) (line_begun bs (All-tail (λ b. b ≢ 13) b bs h))

and_no : (p : Bool) → (p && false) ≡ false
and_no true = refl
and_no false = refl

-- a text of more than two bytes isn't `OK`
longer_than_okay : (text : List ℕ) → 2 < length text → bytes_eq text (79 ∷ 75 ∷ []) ≡ false
longer_than_okay [] l = absurd (omega arith)
longer_than_okay (a ∷ []) l = absurd (omega arith)
longer_than_okay (a ∷ b ∷ []) l = absurd (omega arith)
longer_than_okay (a ∷ b ∷ c ∷ cs) l = ap (λ x. (a == 79) && x) (and_no (b == 75)) ∙ and_no (a == 79)

long_simple : (text : List ℕ) → length text ≡ 1_048_576 → simple_of text ≡ simple text
long_simple text n = ap (λ t. if t then okay else simple text) (longer_than_okay text (omega (arith, n)))

pub longest_line : IsReadToItsEnd 1_048_576
unfolding max_depth
longest_line text rest n h =
    reads_where_found (43 ∷ (text ++ 13 ∷ 10 ∷ rest)) (simple text) rest (
    ap (line_found reader_limits simple_line) (line_whole text rest h)
    ∙ ap (λ m. if nat_le m 1_048_576 then Found.read (simple_of text) rest else bad) n
    ∙ ap (λ v. Found.read v rest) (long_simple text n))

pub longer_line : IsTooLong 1_048_577
unfolding max_depth
longer_line text n h =
    malformed_from_bad (43 ∷ text) (
    ap (line_found reader_limits simple_line) (line_begun text h)
    ∙ ap (λ m. if nat_le m 1_048_576 && true then short else bad) n)
