-- The history that a script is has nothing but what its types hold, and its submissions have forms.
use Rattle.std.proofs.Common.{◌≡◌, ℕ, ◌+◌, ◌-◌, Bool, ◌&&◌, ◌==◌, bytes_eq, codes, nat_le, nat_lt, List, [], ◌∷◌, length, All, Some, None, Option, IfSome, IfOk, Ok, Err, Result, map, option_and_then, if◌then◌else◌}
use Rattle.std.specs.List.{onto_first, slice_split}
use Rattle.std.specs.Result.{result_map_both}
use Rattle.std.proofs.lemmas.List.Elements.{All-nil, All-cons, All-head, All-tail, All-map, All-weaker}
use Rattle.std.proofs.lemmas.Result.{IfOk-at_ok}
use Rattle.percent_encoding.specs.Percent.{percent_decode}
use Rattle.percent_encoding.proofs.PercentLemmas.{All-percent_decode}
use Rattle.driver_model.specs.declared.config.Config.{Config}
use Rattle.driver_model.specs.Config.{kind_of}
use Rattle.driver_model.specs.declared.kind.SessionKind.{SessionKind}
use Rattle.driver_model.specs.declared.event.Event.{Event}
use Rattle.script_text.specs.declared.script.Script.{Script}
use Rattle.script_text.specs.Words.{LineWords, parts, is_well_escaped, unescaped, is_separator, all_of, group_of, line_words, words_of_line}
use Rattle.script_text.specs.EventLine.{event_of}
use Rattle.script_text.specs.ConfigLine.{opening_of}
use Rattle.script_text.specs.Script.{max_lines, max_line, max_text, line_at, words_at, is_end, is_nothing, event_then, line_then, events_from, config_then, script_from, script_of}
use Rattle.containers.proofs.Choices.{chosen}
use Rattle.text_laws.specs.Fits.{IsByte, AreBytes, FitsEvent, FitsHistory, WithForm, HaveForms}
use Rattle.text_laws.specs.History.{script_with}
use Rattle.text_laws.proofs.Held.{then_read, if_read, all_read}
use Rattle.text_laws.proofs.ScriptEvents.{IsByteLine, SaidEvent, event_fits}
use Rattle.text_laws.proofs.ScriptConfigs.{FitsOpening, opening_fits}

abbrev AllBytes : List (List ℕ) → Type 0
AllBytes = All AreBytes

-- the parts of a list have what its elements have
module _ {A : Type 0} (P : A → Type 0) where
  onto_each : (x : A) (ps : List (List A)) → P x → All (All P) ps → All (All P) (onto_first x ps)
  onto_each x [] here each = All-cons (All P) (x ∷ []) [] (All-cons P x [] here (All-nil P)) (All-nil (All P))
  onto_each x (p ∷ ps) here each = All-cons (All P) (x ∷ p) ps (All-cons P x p here (All-head (All P) p ps each)) (All-tail (All P) p ps each)

  split_each : (is : A → Bool) (xs : List A) → All P xs → All (All P) (slice_split is xs)
  split_each is [] each = All-cons (All P) [] [] (All-nil P) (All-nil (All P))
  split_each is (x ∷ xs) each =
      let rest = split_each is xs (All-tail P x xs each) in
      chosen (All (All P)) (is x) ([] ∷ slice_split is xs) (onto_first x (slice_split is xs)) (λ t. All-cons (All P) [] (slice_split is xs) (All-nil P) rest)
      (λ f. onto_each x (slice_split is xs) (All-head P x xs each) rest)

pub parts_bytes : (b : ℕ) (text : List ℕ) → AreBytes text → AllBytes (parts b text)
parts_bytes b text small = split_each IsByte (λ x. x == b) text small

-- the words of a line of bytes
word_bytes : (raw : List ℕ) → AreBytes raw → IfSome (unescaped raw) AreBytes
unfolding unescaped
word_bytes raw small =
    let decoded = if is_well_escaped raw then Some (percent_decode raw) else None in
    let read = if bytes_eq raw (codes "%-") then Some [] else decoded in
    chosen (λ o. IfSome o AreBytes) (bytes_eq raw []) None read (λ t. tt)
    (λ f. chosen (λ o. IfSome o AreBytes) (bytes_eq raw (codes "%-")) (Some []) decoded (λ t. All-nil IsByte) (λ g. if_read AreBytes (is_well_escaped raw) (Some (percent_decode raw)) (λ t. All-percent_decode raw small)))

group_bytes : (raws : List (List ℕ)) → AllBytes raws → IfSome (group_of raws) AllBytes
group_bytes raws small =
    all_read AreBytes (map unescaped raws) (All-map (λ o. IfSome o AreBytes) unescaped raws (All-weaker AreBytes (λ raw. IfSome (unescaped raw) AreBytes) word_bytes raws small))

groups_line : (groups : List (List (List ℕ))) → All AllBytes groups → IfSome (line_words groups) IsByteLine
groups_line [] each = tt
groups_line (words ∷ more) each = record { words = All-head AllBytes words more each; more = All-tail AllBytes words more each }

byte_line : (line : List ℕ) → AreBytes line → IfSome (words_of_line line) IsByteLine
unfolding words_of_line
byte_line line small =
    let groups = slice_split is_separator (parts 32 line) in
    then_read (All AllBytes) IsByteLine line_words groups_line (all_of (map group_of groups))
    (all_read AllBytes (map group_of groups) (All-map (λ o. IfSome o AllBytes) group_of groups (All-weaker AllBytes (λ raws. IfSome (group_of raws) AllBytes) group_bytes groups (split_each AreBytes is_separator (parts 32 line) (parts_bytes 32 line small)))))

line_bytes : (number room : ℕ) (lines : List (List ℕ)) → AllBytes lines → IfSome (line_at number room lines) AreBytes
line_bytes number room [] each = tt
line_bytes number room (last ∷ []) each = tt
line_bytes number room (line ∷ next ∷ rest) each =
    if_read AreBytes (nat_le number max_lines && nat_le (length line) max_line && nat_lt (length line) room) (Some line) (λ t. All-head AreBytes line (next ∷ rest) each)

pub words_bytes : (number room : ℕ) (lines : List (List ℕ)) → AllBytes lines → IfSome (words_at number room lines) IsByteLine
words_bytes number room lines each = then_read AreBytes IsByteLine words_of_line byte_line (line_at number room lines) (line_bytes number room lines each)

abbrev AllFit : SessionKind → List Event → Type 0
AllFit session = All (SaidEvent session)

-- the events of lines
module _ (session : SessionKind) where
  event_before : (e : Event) → SaidEvent session e → (rest : Result (List Event) ℕ) → IfOk rest (AllFit session) → IfOk (result_map_both (λ es. e ∷ es) (λ n. n) rest) (AllFit session)
  event_before e fits (Ok es) each = All-cons (SaidEvent session) e es fits each
  event_before e fits (Err n) each = tt

  event_then_fits : (number : ℕ) (o : Option Event) → IfSome o (SaidEvent session) → (rest : Result (List Event) ℕ) → IfOk rest (AllFit session) → IfOk (event_then number o rest) (AllFit session)
  event_then_fits number None fits rest each = tt
  event_then_fits number (Some e) fits rest each = event_before e fits rest each

  line_then_fits : (number : ℕ) (o : Option LineWords) → IfSome o IsByteLine → (nothing_behind : Bool) (rest : Result (List Event) ℕ) → IfOk rest (AllFit session) → IfOk (line_then session number o nothing_behind rest) (AllFit session)
  line_then_fits number None small nothing_behind rest each = tt
  line_then_fits number (Some words) small nothing_behind rest each =
      chosen (λ r. IfOk r (AllFit session)) (is_end words) (if nothing_behind then Ok [] else Err (number + 1)) (event_then number (event_of session words) rest)
      (λ t. chosen (λ r. IfOk r (AllFit session)) nothing_behind (Ok []) (Err (number + 1)) (λ u. All-nil (SaidEvent session)) (λ f. tt))
      (λ f. event_then_fits number (event_of session words) (event_fits session words small) rest each)

  events_fit : (number room : ℕ) (lines : List (List ℕ)) → AllBytes lines → IfOk (events_from session number room lines) (AllFit session)
  events_fit number room [] each = tt
  events_fit number room (line ∷ rest) each =
      line_then_fits number (words_at number room (line ∷ rest)) (words_bytes number room (line ∷ rest) each) (is_nothing rest)
      (events_from session (number + 1) (room - (length line + 1)) rest) (events_fit (number + 1) (room - (length line + 1)) rest (All-tail AreBytes line rest each))

-- a script that its types hold, and whose submissions have forms
abbrev FitsScript : Script → Type 0
FitsScript s = FitsHistory s.config s.word s.events × HaveForms s.config s.events

with_opening : (opening : Config × ℕ) → FitsOpening opening → (rest : Result (List Event) ℕ) → IfOk rest (AllFit (kind_of opening.0))
    → IfOk (result_map_both (λ events. script_with opening events) (λ n. n) rest) FitsScript
with_opening opening fits (Ok es) each = (
  record { config = fits.0; word = fits.1; events = All-weaker (SaidEvent (kind_of opening.0)) FitsEvent (λ e said. said.0) es each },
  All-weaker (SaidEvent (kind_of opening.0)) (WithForm (kind_of opening.0)) (λ e said. said.1) es each,
)
with_opening opening fits (Err n) each = tt

config_then_fits : (o : Option (Config × ℕ)) → IfSome o FitsOpening → (rest : SessionKind → Result (List Event) ℕ) → ((session : SessionKind) → IfOk (rest session) (AllFit session)) → IfOk (config_then o rest) FitsScript
config_then_fits None fits rest each = tt
config_then_fits (Some opening) fits rest each = with_opening opening fits (rest (kind_of opening.0)) (each (kind_of opening.0))

lines_fit : (lines : List (List ℕ)) → AllBytes lines → IfOk (script_from lines) FitsScript
lines_fit [] each = tt
lines_fit (first ∷ rest) each =
    config_then_fits (option_and_then opening_of (words_at 1 max_text (first ∷ rest)))
    (then_read IsByteLine FitsOpening opening_of opening_fits (words_at 1 max_text (first ∷ rest)) (words_bytes 1 max_text (first ∷ rest) each))
    (λ session. events_from session 2 (max_text - (length first + 1)) rest) (λ session. events_fit session 2 (max_text - (length first + 1)) rest (All-tail AreBytes first rest each))

text_fits : (text : List ℕ) → AreBytes text → IfOk (script_of text) FitsScript
unfolding script_of
text_fits text small = lines_fit (parts 10 text) (parts_bytes 10 text small)

-- what a text of bytes says
pub script_fits : (text : List ℕ) (s : Script) → AreBytes text → script_of text ≡ Ok s → FitsHistory s.config s.word s.events × HaveForms s.config s.events
script_fits text s small reads = IfOk-at_ok FitsScript reads (text_fits text small)
