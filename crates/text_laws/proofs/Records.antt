-- A history that is written as a script is what a reader finds there, where the text keeps the limits of scripts.
use Rattle.std.proofs.Common.{◌≡◌, ℕ, ◌+◌, ◌-◌, ◌<◌, ◌==◌, Bool, true, false, List, [], ◌∷◌, ◌++◌, length, All, Some, Ok, Err, IsErr, codes, decimal, append_assoc, append-nil, refl, sym, ap, ◌∙◌, subst, if◌then◌else◌, arith}
use Rattle.std.specs.Prelude.{option_and_then}
use Rattle.std.specs.Bool.{MatchBool}
use Rattle.std.specs.Result.{result_map_both}
use Rattle.std.proofs.lemmas.List.Elements.{All-nil, All-head, All-tail}
use Rattle.driver_model.specs.declared.action.Cause.{Cause}
use Rattle.driver_model.specs.declared.action.Cause.TheVariants as cause
use Rattle.driver_model.specs.declared.config.Config.{Config}
use Rattle.driver_model.specs.Config.{kind_of}
use Rattle.driver_model.specs.declared.kind.SessionKind.{SessionKind}
use Rattle.driver_model.specs.declared.event.Event.{Event}
use Rattle.driver_model.specs.declared.event.EventKind.{EventKind}
use Rattle.driver_model.specs.declared.event.EventKind.TheVariants as event
use Rattle.driver_model.specs.declared.event.Submission.TheVariants as submission
use Rattle.script_text.specs.Words.{parts, words_of_line}
use Rattle.script_text.specs.ConfigLine.{opening_of}
use Rattle.script_text.specs.EventLine.{event_of}
use Rattle.script_text.specs.Limits.{keeps_limits}
use Rattle.script_text.specs.Script.{max_text, is_end, is_end_word, is_nothing, event_then, line_then, events_from, config_then, script_from, script_of}
use Rattle.script_text.proofs.Cutting.{some_parts}
use Rattle.script_text.proofs.Decided.{at_fault}
use Rattle.script_text.proofs.Kept.{keeps_parts, kept_line, kept_behind}
use Rattle.script_text.proofs.Late.{Keeps}
use Rattle.trace_text.specs.Words.{escaped, line_of}
use Rattle.trace_text.specs.Show.{cause_words, cause_more, event_words, event_more, script_line}
use Rattle.trace_text.proofs.ScriptLines.{some_cause}
use Rattle.containers.proofs.Choices.{chosen}
use Rattle.text_laws.specs.Fits.{AreBytes, FitsEvent, FitsHistory, HasForm, WithForm, HaveForms}
use Rattle.text_laws.specs.Records.{event_lines, record_text, TellsRecord}
use Rattle.text_laws.proofs.Back.{event_back, opening_back}
use Rattle.text_laws.proofs.Bytes.{FitsCause, cause_bytes, more_bytes, looked, word_and, no_words}
use Rattle.text_laws.proofs.Lines.{raw_of, parts_line, line_back}
use Rattle.text_laws.proofs.Turns.{cause_line}

-- the line of a cause, without its LF
abbrev raw_cause : Cause → List ℕ
raw_cause c = raw_of (cause_words c) (cause_more c)

-- the words of an event are those of no last line
goes_on_alone : (kind : EventKind) → is_end_word (event_words kind) (event_more kind) ≡ false
goes_on_alone (event.Submit (submission.Cmd args)) = refl
goes_on_alone (event.Submit (submission.NoReply args)) = refl
goes_on_alone (event.Submit (submission.Pipe commands)) = refl
goes_on_alone (event.Submit (submission.Multi commands)) = refl
goes_on_alone (event.Submit (submission.Packed offset count commands)) = refl
goes_on_alone (event.Submit (submission.Subscription what names)) = refl
goes_on_alone (event.Submit (submission.Ping message)) = refl
goes_on_alone (event.Cancel s) = refl
goes_on_alone (event.Connected link) = refl
goes_on_alone (event.Refused link kind) = refl
goes_on_alone (event.Wrote link count) = refl
goes_on_alone (event.Bytes link piece) = refl
goes_on_alone (event.Ended link) = refl
goes_on_alone (event.ReadFault link kind) = refl
goes_on_alone (event.WriteFault link kind) = refl
goes_on_alone (event.Fired timer) = refl
goes_on_alone (event.Creds source auth) = refl
goes_on_alone (event.CredsError source text) = refl
goes_on_alone (event.CredsEnd source) = refl
goes_on_alone (event.Timeout ms) = refl
goes_on_alone event.DropStream = refl
goes_on_alone event.Shutdown = refl

-- nor are they behind a word more
goes_on_behind : (word : List ℕ) (kind : EventKind) → is_end_word (word ∷ event_words kind) (event_more kind) ≡ false
goes_on_behind word (event.Submit s) = refl
goes_on_behind word (event.Cancel s) = refl
goes_on_behind word (event.Connected link) = refl
goes_on_behind word (event.Refused link kind) = refl
goes_on_behind word (event.Wrote link count) = refl
goes_on_behind word (event.Bytes link piece) = refl
goes_on_behind word (event.Ended link) = refl
goes_on_behind word (event.ReadFault link kind) = refl
goes_on_behind word (event.WriteFault link kind) = refl
goes_on_behind word (event.Fired timer) = refl
goes_on_behind word (event.Creds source auth) = refl
goes_on_behind word (event.CredsError source text) = refl
goes_on_behind word (event.CredsEnd source) = refl
goes_on_behind word (event.Timeout ms) = refl
goes_on_behind word event.DropStream = refl
goes_on_behind word event.Shutdown = refl

goes_on : (e : Event) → is_end (cause_line (cause.Event e)) ≡ false
goes_on e =
    chosen (λ front. is_end_word (front ++ event_words e.kind) (event_more e.kind) ≡ false) (e.word == 0) [] ((64 ∷ decimal e.word) ∷ []) (λ t. goes_on_alone e.kind)
    (λ f. goes_on_behind (64 ∷ decimal e.word) e.kind)

-- the words of a cause are read back from its line
told : (words : List (List ℕ)) (more : List (List (List ℕ))) → 0 < length words → All AreBytes words → All (All AreBytes) more → words_of_line (raw_of words more) ≡ Some (record { words = words; more = more })
told [] more some small each = absurd (omega arith)
told (word ∷ words) more some small each = line_back word words more small each

event_told : (e : Event) → FitsEvent e → words_of_line (raw_cause (cause.Event e)) ≡ Some (cause_line (cause.Event e))
event_told e fits =
    told (cause_words (cause.Event e)) (cause_more (cause.Event e)) (some_cause (cause.Event e)) (cause_bytes (cause.Event e) fits) (more_bytes (cause.Event e) fits)

opening_told : (config : Config) (word : ℕ) → FitsCause (cause.Opening config word) → words_of_line (raw_cause (cause.Opening config word)) ≡ Some (cause_line (cause.Opening config word))
opening_told config word fits =
    let c = cause.Opening config word in
    told (cause_words c) (cause_more c) (some_cause c) (cause_bytes c fits) (more_bytes c fits)

-- the last line
abbrev end_words : List (List ℕ)
end_words = codes "end" ∷ []

abbrev last_line : List ℕ
last_line = line_of end_words []

last_is : codes "end\n" ≡ last_line
unfolding escaped
last_is = refl

end_told : words_of_line (raw_of end_words []) ≡ Some (record { words = end_words; more = [] })
end_told = told end_words [] (omega arith) (word_and (codes "end") [] (looked (codes "end") refl) no_words) (All-nil (All AreBytes))

-- the lines of events and the last line, one behind the other
abbrev lines_behind : List Event → List ℕ
lines_behind [] = last_line ++ []
lines_behind (e ∷ es) = script_line (cause.Event e) ++ lines_behind es

lines_are : (es : List Event) → event_lines es ++ codes "end\n" ≡ lines_behind es
lines_are [] = last_is ∙ sym (append-nil last_line)
lines_are (e ∷ es) = append_assoc (script_line (cause.Event e)) (event_lines es) (codes "end\n") ∙ ap (λ t. script_line (cause.Event e) ++ t) (lines_are es)

-- what is read of a line is what was written there
an_event : (session : SessionKind) (number room : ℕ) (e : Event) → FitsEvent e → HasForm session e.kind → (behind : List (List ℕ)) → 0 < length behind → Keeps number room (raw_cause (cause.Event e) ∷ behind) → (es : List Event)
    → events_from session (number + 1) (room - (length (raw_cause (cause.Event e)) + 1)) behind ≡ Ok es → events_from session number room (raw_cause (cause.Event e) ∷ behind) ≡ Ok (e ∷ es)
an_event session number room e fits form behind some keeps es rest =
    let line = raw_cause (cause.Event e) in
    let left = events_from session (number + 1) (room - (length line + 1)) behind in
    ap (λ o. line_then session number (option_and_then words_of_line o) (is_nothing behind) left) (kept_line number room line behind some keeps)
    ∙ ap (λ o. line_then session number o (is_nothing behind) left) (event_told e fits)
    ∙ ap (λ b. if b then (if is_nothing behind then Ok [] else Err (number + 1)) else event_then number (event_of session (cause_line (cause.Event e))) left) (goes_on e)
    ∙ ap (λ o. event_then number o left) (event_back session e fits form)
    ∙ ap (result_map_both (λ events. e ∷ events) (λ n. n)) rest

the_end : (session : SessionKind) (number room : ℕ) → Keeps number room (raw_of end_words [] ∷ [] ∷ []) → events_from session number room (raw_of end_words [] ∷ [] ∷ []) ≡ Ok []
the_end session number room keeps =
    let line = raw_of end_words [] in
    let left = events_from session (number + 1) (room - (length line + 1)) ([] ∷ []) in
    ap (λ o. line_then session number (option_and_then words_of_line o) true left) (kept_line number room line ([] ∷ []) (omega arith) keeps)
    ∙ ap (λ o. line_then session number o true left) end_told

events_told : (session : SessionKind) (es : List Event) → All FitsEvent es → All (WithForm session) es → (number room : ℕ) → Keeps number room (parts 10 (lines_behind es))
    → events_from session number room (parts 10 (lines_behind es)) ≡ Ok es
events_told session [] fits forms number room keeps =
    let lines = parts_line end_words [] [] in
    ap (events_from session number room) lines ∙ the_end session number room (subst (Keeps number room) lines keeps)
events_told session (e ∷ es) fits forms number room keeps =
    let c = cause.Event e in
    let behind = parts 10 (lines_behind es) in
    let some = some_parts 10 (lines_behind es) in
    let lines = parts_line (cause_words c) (cause_more c) (lines_behind es) in
    let kept = subst (Keeps number room) lines keeps in
    let rest = events_told session es (All-tail FitsEvent e es fits) (All-tail (WithForm session) e es forms) (number + 1) (room - (length (raw_cause c) + 1)) (kept_behind number room (raw_cause c) behind some kept) in
    ap (events_from session number room) lines ∙ an_event session number room e (All-head FitsEvent e es fits) (All-head (WithForm session) e es forms) behind some kept es rest

an_opening : (config : Config) (word : ℕ) → FitsCause (cause.Opening config word) → (behind : List (List ℕ)) → 0 < length behind → Keeps 1 max_text (raw_cause (cause.Opening config word) ∷ behind) → (es : List Event)
    → events_from (kind_of config) 2 (max_text - (length (raw_cause (cause.Opening config word)) + 1)) behind ≡ Ok es
    → script_from (raw_cause (cause.Opening config word) ∷ behind) ≡ Ok (record { config = config; word = word; events = es })
an_opening config word fits behind some keeps es rest =
    let line = raw_cause (cause.Opening config word) in
    let left = λ (session : SessionKind). events_from session 2 (max_text - (length line + 1)) behind in
    ap (λ o. config_then (option_and_then opening_of (option_and_then words_of_line o)) left) (kept_line 1 max_text line behind some keeps)
    ∙ ap (λ o. config_then (option_and_then opening_of o) left) (opening_told config word fits)
    ∙ ap (λ o. config_then o left) (opening_back config word fits.0 fits.1)
    ∙ ap (result_map_both (λ events. record { config = config; word = word; events = events }) (λ n. n)) rest

-- where the text keeps the limits, it is the script of the history
record_told : (config : Config) (word : ℕ) (events : List Event) → FitsHistory config word events → HaveForms config events → keeps_limits (record_text config word events) ≡ true
    → script_of (record_text config word events) ≡ Ok (record { config = config; word = word; events = events })
unfolding script_of
record_told config word events fits forms keeps =
    let c = cause.Opening config word in
    let behind = parts 10 (lines_behind events) in
    let some = some_parts 10 (lines_behind events) in
    let text = append_assoc (script_line c) (event_lines events) (codes "end\n") ∙ ap (λ t. script_line c ++ t) (lines_are events) in
    let lines = ap (parts 10) text ∙ parts_line (cause_words c) (cause_more c) (lines_behind events) in
    let kept = subst (Keeps 1 max_text) lines (keeps_parts (record_text config word events) keeps) in
    let rest = events_told (kind_of config) events fits.events forms 2 (max_text - (length (raw_cause c) + 1)) (kept_behind 1 max_text (raw_cause c) behind some kept) in
    ap script_from lines ∙ an_opening config word (fits.config, fits.word) behind some kept events rest

told_by : (config : Config) (word : ℕ) (events : List Event) → FitsHistory config word events → HaveForms config events → (keeps : Bool) → keeps_limits (record_text config word events) ≡ keeps
    → MatchBool keeps (script_of (record_text config word events) ≡ Ok (record { config = config; word = word; events = events })) (IsErr (script_of (record_text config word events)))
told_by config word events fits forms true keeps = record_told config word events fits forms keeps
told_by config word events fits forms false beyond = subst IsErr (sym (at_fault (record_text config word events) beyond).1) refl

-- and else it is no script
pub records_told : (config : Config) (word : ℕ) (events : List Event) → FitsHistory config word events → HaveForms config events → TellsRecord config word events
records_told config word events fits forms = told_by config word events fits forms (keeps_limits (record_text config word events)) refl
