-- The numbers of those that wait, noted one by one.
use Rattle.std.proofs.Common.{◌≡◌, ℕ, ◌+◌, ◌<◌, ◌≤◌, List, [], ◌∷◌, ◌++◌, length, drop, get_or, sym, ap, ◌∙◌, append_assoc}
use Rattle.std.proofs.lemmas.List.{append-nil, drop_all}
use Rattle.link_core.proofs.FirstLemmas.{from_index}
use Rattle.std.specs.Prelude.{false}
use Rattle.conn_manager.specs.declared.request.HeldRequest.{HeldRequest}
use Rattle.conn_manager.specs.Turn.{numbers_of}

-- what is noted of requests, and what is left of them, are the whole
abbrev pub AreNoted : List ℕ → List HeldRequest → ℕ → Type 0
AreNoted noted qs i = noted ++ numbers_of (drop i qs) ≡ numbers_of qs

-- one more number is noted
pub one_noted : (noted : List ℕ) (qs : List HeldRequest) (i : ℕ) (q : HeldRequest) → i < length qs → q ≡ get_or qs i q → AreNoted noted qs i → AreNoted (noted ++ q.number ∷ []) qs (i + 1)
one_noted noted qs i q l is h =
    append_assoc noted (q.number ∷ []) (numbers_of (drop (i + 1) qs)) ∙ ap (λ (xs : List HeldRequest). noted ++ numbers_of xs) (sym (from_index (λ _. false) (λ _. []) qs i q l is)) ∙ h

-- all of them are noted
pub all_noted : (noted : List ℕ) (qs : List HeldRequest) (i : ℕ) → length qs ≤ i → AreNoted noted qs i → noted ≡ numbers_of qs
all_noted noted qs i l h = sym (append-nil noted) ∙ ap (λ (xs : List HeldRequest). noted ++ numbers_of xs) (sym (drop_all i qs l)) ∙ h
