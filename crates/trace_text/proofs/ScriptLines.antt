-- The words of a cause with a space before each are its line behind a space.
use Rattle.std.proofs.Common.{◌≡◌, ℕ, ◌<◌, ◌==◌, List, [], ◌∷◌, ◌++◌, length, codes, decimal, append_assoc, arith}
use Rattle.std.specs.Str.{byte}
use Rattle.driver_model.specs.declared.action.Cause.{Cause}
use Rattle.driver_model.specs.declared.action.Cause.TheVariants as cause
use Rattle.driver_model.specs.declared.event.EventKind.{EventKind}
use Rattle.driver_model.specs.declared.event.EventKind.TheVariants as event
use Rattle.containers.proofs.Choices.{chosen}
use Rattle.trace_text.specs.Words.{following, separated, line_of}
use Rattle.trace_text.specs.Show.{draw_words, config_words, event_words, cause_words, cause_more, script_line}

spaced : (words : List (List ℕ)) (more : List (List (List ℕ))) → 0 < length words → (following words ++ separated more) ++ codes "\n" ≡ byte " " ∷ line_of words more
spaced [] more some = absurd (omega arith)
spaced (word ∷ words) more some = append_assoc (following (word ∷ words)) (separated more) (codes "\n")

-- an event has words
some_words : (kind : EventKind) → 0 < length (event_words kind)
some_words (event.Submit s) = omega arith
some_words (event.Cancel s) = omega arith
some_words (event.Connected link) = omega arith
some_words (event.Refused link kind) = omega arith
some_words (event.Wrote link count) = omega arith
some_words (event.Bytes link piece) = omega arith
some_words (event.Ended link) = omega arith
some_words (event.ReadFault link kind) = omega arith
some_words (event.WriteFault link kind) = omega arith
some_words (event.Fired timer) = omega arith
some_words (event.Creds source auth) = omega arith
some_words (event.CredsError source text) = omega arith
some_words (event.CredsEnd source) = omega arith
some_words (event.Timeout ms) = omega arith
some_words event.DropStream = omega arith
some_words event.Shutdown = omega arith

behind_draw : (w : ℕ) (words : List (List ℕ)) → 0 < length words → 0 < length (draw_words w ++ words)
behind_draw w words some = chosen (λ front. 0 < length (front ++ words)) (w == 0) [] ((64 ∷ decimal w) ∷ []) (λ t. some) (λ f. omega arith)

-- so has a cause
pub some_cause : (c : Cause) → 0 < length (cause_words c)
some_cause (cause.Opening config word) = behind_draw word (config_words config) (omega arith)
some_cause (cause.Event e) = behind_draw e.word (event_words e.kind) (some_words e.kind)

pub behind_space : (c : Cause) → (following (cause_words c) ++ separated (cause_more c)) ++ codes "\n" ≡ byte " " ∷ script_line c
behind_space c = spaced (cause_words c) (cause_more c) (some_cause c)
