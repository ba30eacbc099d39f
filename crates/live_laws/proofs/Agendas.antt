-- What is done to the links of an agenda keeps facts of them.
use Rattle.std.proofs.Common.{◌≡◌, ◌≢◌, ℕ, ◌==◌, List, [], ◌∷◌, subst}
use Rattle.containers.proofs.Choices.{by_test, chosen, eq_from, ne_from}
use Rattle.live_run.specs.Agenda.{first_due, without, offered}
use Rattle.live_run.specs.Passes.{Each}
use Rattle.live_run.specs.Places.{link_number, target_link}
use Rattle.live_run.proofs.Agendas.{AreSingle, OffersNothing}

-- what a function is told of
abbrev pub Given : {A B : Type 0} → (A → B) → Type 0
Given {A} f = A

-- live_run doesn't give out the names of these types
abbrev pub Agenda : Type 0
Agenda = Given first_due

abbrev pub Link : Type 0
Link = Given link_number

abbrev pub Target : Type 0
Target = Given target_link

-- a fact becomes another where all links of one number offer nothing
each_behind_first : (P Q : Link → Type 0) (l : ℕ) (xs : List Link) → ((x : Link) → x.number ≢ l → P x → Q x) → ((x : Link) → x.offer ≡ [] → Q x) → Each (OffersNothing l) xs → Each P xs → Each Q xs
each_behind_first P Q l [] other none h k = tt
each_behind_first P Q l (x ∷ xs) other none h k =
    (by_test (x.number == l) (Q x) (λ same. none x (h.0 (eq_from x.number l same))) (λ apart. other x (ne_from x.number l apart) k.0), each_behind_first P Q l xs other none h.1 k.1)

-- where the first of them goes
pub each_without : (P Q : Link → Type 0) (l : ℕ) (xs : List Link) → ((x : Link) → x.number ≢ l → P x → Q x) → ((x : Link) → x.offer ≡ [] → Q x) → AreSingle xs → Each P xs → Each Q (without l xs)
each_without P Q l [] other none single h = tt
each_without P Q l (x ∷ xs) other none single h =
    chosen (Each Q) (x.number == l) xs (x ∷ without l xs)
    (λ same. each_behind_first P Q l xs other none (subst (λ (n : ℕ). Each (OffersNothing n) xs) (eq_from x.number l same) single.0) h.1)
    (λ apart. (other x (ne_from x.number l apart) h.0, each_without P Q l xs other none single.1 h.1))

-- where the first of them is offered these bytes
pub each_offered : (P Q : Link → Type 0) (l : ℕ) (bytes : List ℕ) (xs : List Link) → ((x : Link) → x.number ≡ l → Q (record x { offer = bytes })) → ((x : Link) → x.number ≢ l → P x → Q x)
    → ((x : Link) → x.offer ≡ [] → Q x) → AreSingle xs → Each P xs → Each Q (offered l bytes xs)
each_offered P Q l bytes [] first other none single h = tt
each_offered P Q l bytes (x ∷ xs) first other none single h =
    chosen (Each Q) (x.number == l) (record x { offer = bytes } ∷ xs) (x ∷ offered l bytes xs)
    (λ same. (first x (eq_from x.number l same), each_behind_first P Q l xs other none (subst (λ (n : ℕ). Each (OffersNothing n) xs) (eq_from x.number l same) single.0) h.1))
    (λ apart. (other x (ne_from x.number l apart) h.0, each_offered P Q l bytes xs first other none single.1 h.1))
