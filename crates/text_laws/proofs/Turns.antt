-- The lines of turns are picked out of a text, and what they say of their causes is read.
use Rattle.std.proofs.Common.{◌≡◌, ℕ, Bool, true, false, cond, List, [], ◌∷◌, ◌++◌, All, Some, Option, map, filter, option_map, codes, decimal, bytes_eq, refl, ap, ◌∙◌, if◌then◌else◌}
use Rattle.std.proofs.lemmas.List.Elements.{All-head, All-tail}
use Rattle.driver_model.specs.declared.action.Action.{Action}
use Rattle.driver_model.specs.declared.action.Action.TheVariants as action
use Rattle.driver_model.specs.declared.action.Cause.{Cause}
use Rattle.resp_value.specs.View.{data_of}
use Rattle.resp_write.specs.Canonical.{canonical}
use Rattle.script_text.specs.Words.{LineWords, parts, all_of}
use Rattle.legal_trace.specs.Legal.{causes}
use Rattle.trace_text.specs.Words.{escaped, line_of}
use Rattle.trace_text.specs.Show.{address, purpose_words, created_words, owner_word, wait_word, link_word, push_word, message_words, submission_word, outcome_words, cause_words, cause_more, words_of, action_line, show}
use Rattle.text_laws.specs.History.{begins_turn, turn_lines, without, cause_in}
use Rattle.text_laws.proofs.Lines.{raw_of, parts_words, parts_line, line_back}
use Rattle.text_laws.proofs.Bytes.{FitsCause, looked, decimal_bytes, word_and, cause_bytes, more_bytes}

-- a line is picked where its first word is `turn`
picked : (here : Bool) (word : List ℕ) (words : List (List ℕ)) (more : List (List (List ℕ))) (rest : List ℕ) → bytes_eq (escaped word) (codes "turn") ≡ here
    → turn_lines (line_of (word ∷ words) more ++ rest) ≡ (if here then raw_of (word ∷ words) more ∷ turn_lines rest else turn_lines rest)
picked here word words more rest is =
    ap (filter (λ line. begins_turn (parts 32 line))) (parts_line (word ∷ words) more rest)
    ∙ ap (λ b. cond b (raw_of (word ∷ words) more ∷ turn_lines rest) (turn_lines rest)) (ap begins_turn (parts_words word words more) ∙ is)

-- the words of a cause
abbrev pub cause_line : Cause → LineWords
cause_line c = record { words = cause_words c; more = cause_more c }

-- the line of a turn tells its cause
cause_back : (k : ℕ) (c : Cause) → FitsCause c → cause_in (raw_of (words_of (action.Turn k c)) (cause_more c)) ≡ Some (cause_line c)
cause_back k c fits =
    ap (option_map (without 2))
    (line_back (codes "turn") (decimal k ∷ cause_words c) (cause_more c)
    (word_and (codes "turn") (decimal k ∷ cause_words c) (looked (codes "turn") refl) (word_and (decimal k) (cause_words c) (decimal_bytes k) (cause_bytes c fits)))
    (more_bytes c fits))

abbrev told : List ℕ → Option (List LineWords)
told text = all_of (map cause_in (turn_lines text))

-- a line that begins otherwise tells nothing
untold : (word : List ℕ) (words : List (List ℕ)) (rest : List ℕ) → bytes_eq (escaped word) (codes "turn") ≡ false → told (line_of (word ∷ words) [] ++ rest) ≡ told rest
untold word words rest other = ap (λ ls. all_of (map cause_in ls)) (picked false word words [] rest other)

a_turn : (k : ℕ) (c : Cause) (rest : List ℕ) → FitsCause c → told (action_line (action.Turn k c) ++ rest) ≡ option_map (λ cs. cause_line c ∷ cs) (told rest)
unfolding escaped
a_turn k c rest fits =
    ap (λ ls. all_of (map cause_in ls)) (picked true (codes "turn") (decimal k ∷ cause_words c) (cause_more c) rest refl)
    ∙ ap (λ o. all_of (o ∷ map cause_in (turn_lines rest))) (cause_back k c fits)

-- the text of a trace tells the causes of its turns
pub turns_told : (trace : List Action) → All FitsCause (causes trace) → told (show trace) ≡ Some (map cause_line (causes trace))
unfolding escaped
turns_told [] fits = refl
turns_told (action.Turn k c ∷ more) fits =
    a_turn k c (show more) (All-head FitsCause c (causes more) fits) ∙ ap (option_map (λ cs. cause_line c ∷ cs)) (turns_told more (All-tail FitsCause c (causes more) fits))
turns_told (action.Connect link host port ∷ more) fits = untold (codes "connect") (decimal link ∷ address host port ∷ []) (show more) refl ∙ turns_told more fits
turns_told (action.Timer timer ms what ∷ more) fits = untold (codes "timer") (decimal timer ∷ decimal ms ∷ purpose_words what) (show more) refl ∙ turns_told more fits
turns_told (action.Took owner link count ∷ more) fits = untold (codes "took") (owner_word owner ∷ decimal link ∷ decimal count ∷ []) (show more) refl ∙ turns_told more fits
turns_told (action.Push link info ∷ more) fits = untold (codes "push") (decimal link ∷ push_word info ∷ []) (show more) refl ∙ turns_told more fits
turns_told (action.Message msg ∷ more) fits = untold (codes "message") (message_words msg) (show more) refl ∙ turns_told more fits
turns_told (action.Monitor value ∷ more) fits = untold (codes "monitor") (canonical (data_of value) ∷ []) (show more) refl ∙ turns_told more fits
turns_told (action.NeedCreds source link ∷ more) fits = untold (codes "need-creds") (decimal source ∷ decimal link ∷ []) (show more) refl ∙ turns_told more fits
turns_told (action.Generation number ∷ more) fits = untold (codes "generation") (decimal number ∷ []) (show more) refl ∙ turns_told more fits
turns_told (action.Round owner link ∷ more) fits = untold (codes "round") (owner_word owner ∷ link_word link ∷ []) (show more) refl ∙ turns_told more fits
turns_told (action.Close link ∷ more) fits = untold (codes "close") (decimal link ∷ []) (show more) refl ∙ turns_told more fits
turns_told (action.Write link bytes ∷ more) fits = untold (codes "write") (decimal link ∷ bytes ∷ []) (show more) refl ∙ turns_told more fits
turns_told (action.Wait owner kind ∷ more) fits = untold (codes "wait") (owner_word owner ∷ wait_word kind ∷ []) (show more) refl ∙ turns_told more fits
turns_told (action.Start link message owner need len ∷ more) fits =
    untold (codes "start") (decimal link ∷ decimal message ∷ owner_word owner ∷ decimal need ∷ decimal len ∷ []) (show more) refl ∙ turns_told more fits
turns_told (action.Created error ∷ more) fits = untold (codes "created") (created_words error) (show more) refl ∙ turns_told more fits
turns_told (action.Outcome s outcome ∷ more) fits = untold (codes "outcome") (submission_word s ∷ outcome_words outcome) (show more) refl ∙ turns_told more fits
