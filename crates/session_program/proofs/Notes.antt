-- The notes of a replay, from what its parts said.
use Rattle.std.proofs.Common.{◌≡◌, ◌⊎◌, ◌<◌, inl, inr, ℕ, List, [], Option, Some, ◌∙◌, ap, subst}
use Rattle.std.specs.Prelude.{Ok, Err, IfSome}
use Rattle.redis_error.specs.declared.config_name.ConfigName.{ConfigName}
use Rattle.driver_model.specs.Config.{first_fault}
use Rattle.script_text.specs.Script.{script_of}
use Rattle.script_text.specs.declared.script.Script.{Script}
use Rattle.program_ends.specs.declared.status.Status.TheVariants as status
use Rattle.session_program.specs.Notes.{IsOwn, IsLineNote, IsBadNoteOf, IsCountNote, open_count, open_note, config_words, line_note}
use Rattle.session_program.specs.Reading.{Decides}
use Rattle.program_ends.specs.Sides.{Side}

-- the note of what is open
pub own_done : (source : Side) (left : Option (List ℕ)) (kept : List ℕ) (script : Script) (count : Option ℕ) (own : List ℕ) → Decides source.bytes left kept → script_of kept ≡ Ok script
    → IfSome count (λ n. n ≡ open_count script.config script.word script.events) → (own ≡ []) ⊎ IsCountNote count own → IsOwn status.Done source own
own_done source left kept script count own decides reads counted (inl none) = inl none
own_done source left kept script count own decides reads counted (inr note) =
    let is : note.left ≡ open_count script.config script.word script.events =
    subst (λ (c : Option ℕ). IfSome c (λ n. n ≡ open_count script.config script.word script.events)) note.counted counted in
    inr (λ bytes told. record {
      script = script;
      reads = decides.same bytes told ∙ reads;
      some = subst (λ (n : ℕ). 0 < n) is note.some;
      is = note.is ∙ ap open_note is;
    })

-- the note of a refused configuration
pub own_config : (source : Side) (left : Option (List ℕ)) (kept : List ℕ) (script : Script) (name : ConfigName) (own : List ℕ) → Decides source.bytes left kept → script_of kept ≡ Ok script
    → first_fault script.config ≡ Some name → (own ≡ []) ⊎ (own ≡ line_note 1 (config_words name)) → IsOwn status.Config source own
own_config source left kept script name own decides reads refused (inl none) = inl none
own_config source left kept script name own decides reads refused (inr note) =
    inr (λ bytes told. record { config = record { script = script; reads = decides.same bytes told ∙ reads; name = name; refused = refused }; is = note })

-- the note of the first bad event
pub own_bad : (source : Side) (left : Option (List ℕ)) (kept : List ℕ) (script : Script) (own : List ℕ) → Decides source.bytes left kept → script_of kept ≡ Ok script
    → (own ≡ []) ⊎ IsBadNoteOf script.config script.word script.events own → IsOwn status.BadEvent source own
own_bad source left kept script own decides reads (inl none) = inl none
own_bad source left kept script own decides reads (inr note) = inr (λ bytes told. record { script = script; reads = decides.same bytes told ∙ reads; note = note })

-- the note of the first line at fault
pub own_script : (source : Side) (left : Option (List ℕ)) (kept : List ℕ) (line : ℕ) (own : List ℕ) → Decides source.bytes left kept → script_of kept ≡ Err line
    → (own ≡ []) ⊎ IsLineNote line own → IsOwn status.Script source own
own_script source left kept line own decides fault (inl none) = inl none
own_script source left kept line own decides fault (inr note) = inr (λ bytes told. record { line = line; fault = decides.same bytes told ∙ fault; note = note })
