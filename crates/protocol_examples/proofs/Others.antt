-- Texts that stand in no table.
use Rattle.std.proofs.Common.{◌≡◌, ◌≢◌, ℕ, false, List, [], ◌∷◌, Option, Some, None, map, bytes_eq, if◌then◌else◌, refl, ap, ◌∙◌, lit<}
use Rattle.std.specs.List.{All}
use Rattle.std.proofs.lemmas.List.Elements.{All-nil, All-cons, All-head, All-tail}
use Rattle.std.proofs.lemmas.Slice.Eq.{bytes_eq-Decides}
use Rattle.containers.proofs.Choices.{by_test}
use Rattle.resp_value.specs.declared.error_kind.ServerErrorKind.{ServerErrorKind}
use Rattle.resp_value.specs.declared.error_kind.ServerErrorKind.TheVariants as server
use Rattle.resp_value.specs.declared.push_kind.PushKind.{PushKind}
use Rattle.resp_value.specs.declared.retry_method.RetryMethod.{RetryMethod}
use Rattle.resp_value.specs.declared.retry_method.RetryMethod.TheVariants.{NoRetry}
use Rattle.resp_value.specs.ErrorTable.{Table, by_code, kinds, methods, kind_of, method_of}
use Rattle.resp_value.specs.Kinds.{kind_or, named_kind}
use Rattle.resp_value.specs.Kinds as pushes
use Rattle.protocol_examples.specs.Pushes.{kinds_of_texts, IsOther}
use Rattle.protocol_examples.specs.Errors.{codes_of_errors, TellsNothing}
use Rattle.protocol_examples.proofs.Computed.{each}

apart : (x y : List ℕ) → x ≢ y → bytes_eq x y ≡ false
apart x y other = by_test (bytes_eq x y) (bytes_eq x y ≡ false) (λ same. absurd (other ((bytes_eq-Decides x y).0 same))) (λ is. is)

-- the texts of a table
abbrev texts : {A : Type 0} → List (List ℕ × A) → List (List ℕ)
texts rows = map (λ row. row.0) rows

none_of_texts : {A : Type 0} (text : List ℕ) (rows : List (List ℕ × A)) → All (λ row. text ≢ row.0) rows → All (λ t. text ≢ t) (texts rows)
none_of_texts text [] h = All-nil (λ t. text ≢ t)
none_of_texts text (row ∷ rows) h =
    All-cons (λ t. text ≢ t) row.0 (texts rows) (All-head (λ r. text ≢ r.0) row rows h) (none_of_texts text rows (All-tail (λ r. text ≢ r.0) row rows h))

-- what a table says of a text that isn't in it
unlisted : {A : Type 0} (rows : Table A) (other : A) (text : List ℕ) → All (λ t. text ≢ t) (texts rows) → by_code rows other text ≡ other
unlisted [] other text h = refl
unlisted (row ∷ rows) other text h =
    ap (λ b. if b then row.1 else by_code rows other text) (apart text row.0 (All-head (λ t. text ≢ t) row.0 (texts rows) h))
    ∙ unlisted rows other text (All-tail (λ t. text ≢ t) row.0 (texts rows) h)

-- the texts that have a kind of push of their own, as such a table
abbrev named_kinds : Table (Option PushKind)
named_kinds = map (λ row. (row.0, Some row.1)) kinds_of_texts

pub is_other : (text : List ℕ) → IsOther text
unfolding pushes.kind_of
is_other text h = ap (λ k. kind_or k text) (unlisted named_kinds None text (none_of_texts text kinds_of_texts h))

-- the codes with a method stand in the table of all codes
no_method : (code : List ℕ) → All (λ row. code ≢ row.0) codes_of_errors → All (λ t. code ≢ t) (texts methods)
no_method code h =
    let row : List ℕ × (ServerErrorKind × RetryMethod) = ([], (server.Other, NoRetry)) in
    each (λ t. code ≢ t) (texts methods) (h 4 row (lit< tt), (h 5 row (lit< tt), (h 10 row (lit< tt), (h 6 row (lit< tt), (h 7 row (lit< tt), (h 2 row (lit< tt), (h 9 row (lit< tt), tt)))))))

pub tells_nothing : (code : List ℕ) → TellsNothing code
unfolding kind_of method_of
tells_nothing code h =
    let kind = unlisted kinds server.Other code (none_of_texts code codes_of_errors h) in
    let method = unlisted methods NoRetry code (no_method code h) in
    λ i. (kind i, method i)
