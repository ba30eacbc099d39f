-- Which entry of those that wait is a request's.
use Rattle.std.proofs.Common.{◌≡◌, ℕ, ◌+◌, ◌<◌, ◌≤◌, Bool, true, false, List, [], ◌∷◌, ◌++◌, length, drop, get_or, append_assoc, Option, None, Some, refl, sym, ap, ◌∙◌}
use Rattle.std.proofs.lemmas.List.{append-nil, drop_all}
use Rattle.containers.proofs.Choices.{taken_if, left_if}
use Rattle.link_core.proofs.FirstLemmas.{from_index}
use Rattle.mux_conn.specs.declared.request.Waiting.{Waiting}
use Rattle.mux_conn.specs.Connection.{Work}
use Rattle.mux_conn.specs.Effects.{numbers_of}
use Rattle.mux_conn.specs.Passes.{has_number, entry_of, without, still_admitted, still_waiting, seated_alone, admitted_alone}

-- the entries before an index are other requests'
abbrev pub OthersFirst : ℕ → List Waiting → ℕ → Type 0
OthersFirst p qs i = entry_of p qs ≡ entry_of p (drop i qs)

-- the entry from an index on begins with the item there
front_of : (p : ℕ) (qs : List Waiting) (i : ℕ) (q : Waiting) → i < length qs → q ≡ get_or qs i q → entry_of p (drop i qs) ≡ entry_of p (q ∷ drop (i + 1) qs)
front_of p qs i q l is = ap (entry_of p) (from_index (has_number p) (λ _. []) qs i q l is)

-- one more entry is another request's
pub one_other : (p : ℕ) (qs : List Waiting) (i : ℕ) (q : Waiting) → i < length qs → q ≡ get_or qs i q → has_number p q ≡ false → OthersFirst p qs i → OthersFirst p qs (i + 1)
one_other p qs i q l is other h = h ∙ front_of p qs i q l is ∙ left_if (has_number p q) (Some q) (entry_of p (drop (i + 1) qs)) other

-- the first entry of the request
pub entry_here : (p : ℕ) (qs : List Waiting) (i : ℕ) (q : Waiting) → i < length qs → q ≡ get_or qs i q → has_number p q ≡ true → OthersFirst p qs i → entry_of p qs ≡ Some q
entry_here p qs i q l is same h = h ∙ front_of p qs i q l is ∙ taken_if (has_number p q) (Some q) (entry_of p (drop (i + 1) qs)) same

-- there is none
pub all_others : (p : ℕ) (qs : List Waiting) (i : ℕ) → length qs ≤ i → OthersFirst p qs i → entry_of p qs ≡ None
all_others p qs i l h = h ∙ ap (entry_of p) (drop_all i qs l)

-- the first of them stays where it is another request's
none_leaves_by : (p : ℕ) (q : Waiting) (qs : List Waiting) (same : Bool) → has_number p q ≡ same → (entry_of p qs ≡ None → without p qs ≡ qs) → entry_of p (q ∷ qs) ≡ None → without p (q ∷ qs) ≡ q ∷ qs
none_leaves_by p q qs true is more none = let no = sym (taken_if (has_number p q) (Some q) (entry_of p qs) is) ∙ none in cc
none_leaves_by p q qs false is more none = left_if (has_number p q) qs (q ∷ without p qs) is ∙ ap (λ xs. q ∷ xs) (more (sym (left_if (has_number p q) (Some q) (entry_of p qs) is) ∙ none))

-- none leaves where there is none
pub none_leaves : (p : ℕ) (qs : List Waiting) → entry_of p qs ≡ None → without p qs ≡ qs
none_leaves p [] none = refl
none_leaves p (q ∷ qs) none = none_leaves_by p q qs (has_number p q) refl (none_leaves p qs) none

-- where a request isn't among those that wait for a place, it is not moved
pub not_seated : (w : Work) (p : ℕ) (entries : List Waiting) (found : Option Waiting) → found ≡ entry_of p w.conn.admitted → entries ≡ without p w.conn.admitted → found ≡ None → still_admitted w entries ≡ seated_alone w p (entry_of p w.conn.admitted)
not_seated w p entries found is left none =
    let gone = sym is ∙ none in
    ap (still_admitted w) (left ∙ none_leaves p w.conn.admitted gone) ∙ sym (ap (seated_alone w p) gone)

-- nor where it isn't among those that wait for the connection
pub not_admitted : (w : Work) (p : ℕ) (entries : List Waiting) (found : Option Waiting) → found ≡ entry_of p w.conn.waiting → entries ≡ without p w.conn.waiting → found ≡ None → still_waiting w entries ≡ admitted_alone w p (entry_of p w.conn.waiting)
not_admitted w p entries found is left none =
    let gone = sym is ∙ none in
    ap (still_waiting w) (left ∙ none_leaves p w.conn.waiting gone) ∙ sym (ap (admitted_alone w p) gone)

-- what is noted of requests, and what is left of them, are the whole
abbrev pub AreNoted : List ℕ → List Waiting → ℕ → Type 0
AreNoted noted qs i = noted ++ numbers_of (drop i qs) ≡ numbers_of qs

-- one more number is noted
pub one_noted : (noted : List ℕ) (qs : List Waiting) (i : ℕ) (q : Waiting) → i < length qs → q ≡ get_or qs i q → AreNoted noted qs i → AreNoted (noted ++ q.number ∷ []) qs (i + 1)
one_noted noted qs i q l is h =
    append_assoc noted (q.number ∷ []) (numbers_of (drop (i + 1) qs)) ∙ ap (λ (xs : List Waiting). noted ++ numbers_of xs) (sym (from_index (has_number 0) (λ _. []) qs i q l is)) ∙ h

-- all of them are noted
pub all_noted : (noted : List ℕ) (qs : List Waiting) (i : ℕ) → length qs ≤ i → AreNoted noted qs i → noted ≡ numbers_of qs
all_noted noted qs i l h = sym (append-nil noted) ∙ ap (λ (xs : List Waiting). noted ++ numbers_of xs) (sym (drop_all i qs l)) ∙ h
