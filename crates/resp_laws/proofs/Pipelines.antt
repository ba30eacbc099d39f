-- Packed commands one after another are read one by one.
use Rattle.std.proofs.Common.{◌≡◌, ℕ, List, [], ◌∷◌, ◌++◌, refl, sym, ap, ◌∙◌, subst, append_assoc}
use Rattle.std.proofs.lemmas.List.{append-nil}
use Rattle.std.proofs.lemmas.List.Elements.{All-head, All-tail}
use Rattle.std.specs.List.{All}
use Rattle.resp_value.specs.Data.{Data}
use Rattle.resp_read.specs.Values.{values, left_over, is_spoiled}
use Rattle.resp_read.proofs.ValueLaws.{values-read, values-empty}
use Rattle.resp_write.specs.Pack.{pack}
use Rattle.resp_laws.specs.Commands.{IsWithinLimits, request, packed, request_and, requests}
use Rattle.resp_laws.proofs.Commands.{reads_back}

-- these values stand in front of rest
pub record StandBefore (vs : List Data) (bytes rest : List ℕ) : Type 0 where
  pub are : values bytes ≡ vs ++ values rest
  pub left : left_over bytes ≡ left_over rest
  pub spoiled : is_spoiled bytes ≡ is_spoiled rest

-- one command more in front
one_more : (c : List (List ℕ)) (bytes rest : List ℕ) (vs : List Data) → IsWithinLimits c → StandBefore vs bytes rest → StandBefore (request_and c vs) (pack c ++ bytes) rest
one_more [] bytes rest vs h s = s
one_more (name ∷ args) bytes rest vs h s =
    let here = values-read (pack (name ∷ args) ++ bytes) (request (name ∷ args)) bytes (reads_back name bytes args h) in
    record { are = here.0 ∙ ap (λ ds. request (name ∷ args) ∷ ds) s.are; left = here.1 ∙ s.left; spoiled = here.2 ∙ s.spoiled }

pub all_read : (commands : List (List (List ℕ))) (rest : List ℕ) → All IsWithinLimits commands → StandBefore (requests commands) (packed commands ++ rest) rest
all_read [] rest h = record { are = refl; left = refl; spoiled = refl }
all_read (c ∷ cs) rest h =
    subst (λ x. StandBefore (requests (c ∷ cs)) x rest) (sym (append_assoc (pack c) (packed cs) rest))
    (one_more c (packed cs ++ rest) rest (requests cs) (All-head IsWithinLimits c cs h) (all_read cs rest (All-tail IsWithinLimits c cs h)))

pub exactly_read : (commands : List (List (List ℕ))) → All IsWithinLimits commands → values (packed commands) ≡ requests commands
exactly_read commands h = ap values (sym (append-nil (packed commands))) ∙ (all_read commands [] h).are ∙ ap (λ vs. requests commands ++ vs) values-empty.0 ∙ append-nil (requests commands)

pub nothing_left : (commands : List (List (List ℕ))) → All IsWithinLimits commands → left_over (packed commands) ≡ []
nothing_left commands h = ap left_over (sym (append-nil (packed commands))) ∙ (all_read commands [] h).left ∙ values-empty.1
