-- Where there are commands, and where no separator is read.
use Rattle.std.proofs.Common.{◌≡◌, ℕ, Bool, true, false, List, [], ◌∷◌, length, ◌≤◌, Option, None, arith, option_map, refl, ap, ◌∙◌, bytes_eq, codes, if◌then◌else◌}
use Rattle.driver_model.specs.declared.kind.SessionKind.{SessionKind}
use Rattle.driver_model.specs.declared.event.EventKind.TheVariants.{Submit}
use Rattle.script_text.specs.EventLine.{Forms, by_first, commands, submissions, others, events}

-- no form reads any words
pub no_form : {A : Type 0} (words : List (List ℕ)) (more : List (List (List ℕ))) → by_first {A = A} [] words more ≡ None
no_form [] more = refl
no_form (word ∷ words) more = refl

-- where there is a word or a separator, there are commands
pub some_commands : (first : List (List ℕ)) (more : List (List (List ℕ))) → (first ≡ [] → more ≡ [] → ⊥) → commands first more ≡ first ∷ more
some_commands [] [] some = absurd (some refl refl)
some_commands [] (words ∷ more) some = refl
some_commands (word ∷ words) more some = refl

-- words behind a separator are refused by each form
abbrev Refuse : {A : Type 0} → Forms A → List (List ℕ) → List (List (List ℕ)) → Type 0
Refuse [] words more = Unit {0}
Refuse (form ∷ forms) words more = ((rest : List (List ℕ)) → form.1 rest (words ∷ more) ≡ None) × Refuse forms words more

none_by : {A : Type 0} (b : Bool) (x y : Option A) → x ≡ None → y ≡ None → (if b then x else y) ≡ None
none_by true x y h k = h
none_by false x y h k = k

refused : {A : Type 0} (forms : Forms A) (first words : List (List ℕ)) (more : List (List (List ℕ))) → Refuse forms words more → by_first forms first (words ∷ more) ≡ None
refused [] [] words more each = refl
refused (form ∷ forms) [] words more each = refl
refused [] (name ∷ rest) words more each = refl
refused (form ∷ forms) (name ∷ rest) words more each =
    none_by (bytes_eq name form.0) (form.1 rest (words ∷ more)) (by_first forms (name ∷ rest) (words ∷ more)) (each.0 rest) (refused forms (name ∷ rest) words more each.1)

others_refused : (first words : List (List ℕ)) (more : List (List (List ℕ))) → by_first others first (words ∷ more) ≡ None
unfolding others
others_refused first words more =
    refused others first words more (λ _. refl, (λ _. refl, (λ _. refl, (λ _. refl, (λ _. refl, (λ _. refl, (λ _. refl, (λ _. refl, (λ _. refl, (λ _. refl, (λ _. refl, (λ _. refl, (λ _. refl, (λ _. refl, (λ _. refl, tt)))))))))))))))

-- an event that is no submission has no separator
pub event_refused : (kind : SessionKind) (name : List ℕ) (rest : List (List ℕ)) (more : List (List (List ℕ))) → bytes_eq name (codes "submit") ≡ false → 1 ≤ length more → by_first (events kind) (name ∷ rest) more ≡ None
event_refused kind name rest [] other some = absurd (omega arith)
event_refused kind name rest (words ∷ more) other some =
    ap (λ b. if b then option_map Submit (by_first (submissions kind) rest (words ∷ more)) else by_first others (name ∷ rest) (words ∷ more)) other
    ∙ others_refused (name ∷ rest) words more
