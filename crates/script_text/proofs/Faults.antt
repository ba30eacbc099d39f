-- Where a reader finds nothing.
use Rattle.std.proofs.Common.{◌≡◌, ℕ, Bool, true, false, List, [], ◌∷◌, length, ◌≤◌, Option, None, Some, option_map, refl, sym, ap, ◌∙◌, bytes_eq, codes, if◌then◌else◌}
use Rattle.std.specs.Prelude.{is_some, is_none}
use Rattle.driver_model.specs.declared.kind.SessionKind.{SessionKind}
use Rattle.driver_model.specs.declared.kind.SessionKind.TheVariants as kind
use Rattle.driver_model.specs.declared.event.EventKind.TheVariants.{Submit}
use Rattle.script_text.specs.declared.fault.Fault.{Fault}
use Rattle.script_text.specs.EventLine.{by_first, submissions, others, events}
use Rattle.script_text.specs.Faults.{FindsFault}
use Rattle.script_text.proofs.Forms.{event_refused, no_form}
use Rattle.script_text.proofs.Values.{none_mapped}

-- a fault of what is submitted is one of the words behind `submit`
pub finds_submit : (kind : SessionKind) (name : List ℕ) (rest : List (List ℕ)) (more : List (List (List ℕ))) (found : Option Fault) → bytes_eq name (codes "submit") ≡ true → FindsFault found (by_first (submissions kind) rest more) → FindsFault found (by_first (events kind) (name ∷ rest) more)
finds_submit kind name rest more found is finds =
    finds ∙ sym (none_mapped Submit (by_first (submissions kind) rest more))
    ∙ sym (ap (λ b. is_none (if b then option_map Submit (by_first (submissions kind) rest more) else by_first others (name ∷ rest) more)) is)

-- a fault of another event is one of its words
pub finds_other : (kind : SessionKind) (name : List ℕ) (rest : List (List ℕ)) (more : List (List (List ℕ))) (found : Option Fault) → bytes_eq name (codes "submit") ≡ false → FindsFault found (by_first others (name ∷ rest) more) → FindsFault found (by_first (events kind) (name ∷ rest) more)
finds_other kind name rest more found is finds =
    finds ∙ sym (ap (λ b. is_none (if b then option_map Submit (by_first (submissions kind) rest more) else by_first others (name ∷ rest) more)) is)

-- a separator in another event is a fault
pub finds_separator : (kind : SessionKind) (name : List ℕ) (rest : List (List ℕ)) (more : List (List (List ℕ))) (found : Option Fault) → bytes_eq name (codes "submit") ≡ false → 1 ≤ length more → is_some found ≡ true → FindsFault found (by_first (events kind) (name ∷ rest) more)
finds_separator kind name rest more found other some is = is ∙ sym (ap is_none (event_refused kind name rest more other some))

-- where nothing is submitted, whatever is submitted is a fault
pub nothing_submitted : (found : Option Fault) (words : List (List ℕ)) (more : List (List (List ℕ))) → is_some found ≡ true → FindsFault found (by_first (submissions kind.Monitor) words more)
nothing_submitted found words more is = is ∙ sym (ap is_none (no_form words more))
