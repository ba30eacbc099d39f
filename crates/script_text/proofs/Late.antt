-- A text of which a byte stands beyond a limit is at fault in the same line whatever comes behind it.
use Rattle.std.proofs.Common.{◌≡◌, ℕ, suc, ◌+◌, ◌-◌, ◌<◌, ◌≤◌, Bool, true, false, cond, List, [], ◌∷◌, ◌++◌, length, Option, Some, None, Result, Err, refl, sym, ap, ◌∙◌, subst, arith, length-append}
use Rattle.std.specs.Prelude.{◌==◌, ◌&&◌, nat_le, option_and_then}
use Rattle.std.specs.List.{onto_first, list_all}
use Rattle.std.specs.Result.{result_map_both}
use Rattle.std.proofs.lemmas.Bool.{both_ways}
use Rattle.std.proofs.lemmas.Bool.Decides.{nat_tests}
use Rattle.driver_model.specs.Config.{kind_of}
use Rattle.driver_model.specs.declared.config.Config.{Config}
use Rattle.driver_model.specs.declared.event.Event.{Event}
use Rattle.driver_model.specs.declared.kind.SessionKind.{SessionKind}
use Rattle.script_text.specs.Words.{LineWords, parts, words_of_line}
use Rattle.script_text.specs.EventLine.{event_of}
use Rattle.script_text.specs.ConfigLine.{opening_of}
use Rattle.script_text.specs.Script.{max_lines, max_line, max_text, line_at, is_end, is_nothing, event_then, line_then, events_from, config_then, script_from, script_of}
use Rattle.script_text.specs.Limits.{lines_begun, is_short, keeps_limits}
use Rattle.script_text.proofs.Cutting.{some_parts}
use Rattle.script_text.proofs.Lines.{within, ended}
use Rattle.script_text.proofs.Glued.{glue, parts_append}

-- how many bytes the parts have with the LFs between them
abbrev pub total : List (List ℕ) → ℕ
total [] = 0
total (last ∷ []) = length last
total (line ∷ next ∷ rest) = length line + 1 + total (next ∷ rest)

total_by : (here : Bool) (x : ℕ) (ps : List (List ℕ)) → 0 < length ps → total (cond here ([] ∷ ps) (onto_first x ps)) ≡ suc (total ps)
total_by here x [] h = absurd (omega arith)
total_by true x (p ∷ ps) h = omega arith
total_by false x (p ∷ []) h = refl
total_by false x (p ∷ r ∷ ps) h = omega arith

pub total_parts : (b : ℕ) (xs : List ℕ) → total (parts b xs) ≡ length xs
total_parts b [] = refl
total_parts b (x ∷ xs) = total_by (x == b) x (parts b xs) (some_parts b xs) ∙ ap suc (total_parts b xs)

-- no byte stands beyond a limit, where the first of the parts has this number and room
pub record Keeps (number room : ℕ) (ps : List (List ℕ)) : Type 0 where
  pub bytes : total ps ≤ room
  pub lines : list_all is_short ps ≡ true
  pub count : lines_begun ps ≤ max_lines + 1 - number

-- where the first part is a line, those behind it don't keep them either
rest_late : (number room : ℕ) (line next : List ℕ) (rest : List (List ℕ)) → within number room line ≡ true → (Keeps number room (line ∷ next ∷ rest) → ⊥) → Keeps (number + 1) (room - (length line + 1)) (next ∷ rest) → ⊥
rest_late number room line next rest h late k =
    let few : number ≤ max_lines = grind (arith, nat_tests) in
    let short : nat_le (length line) max_line ≡ true = grind (arith, nat_tests) in
    let fits : length line < room = grind (arith, nat_tests) in
    late (record { bytes = omega (arith, k.bytes); lines = ap (λ b. b && list_all is_short (next ∷ rest)) short ∙ k.lines; count = omega (arith, k.count) })

glued_more : (ps qs : List (List ℕ)) → 0 < length ps → 0 < length qs → 0 < length (glue ps qs)
glued_more [] qs h k = k
glued_more (p ∷ []) [] h k = absurd (omega arith)
glued_more (p ∷ []) (q ∷ qs) h k = omega arith
glued_more (p ∷ r ∷ ps) qs h k = omega arith

something : (ps qs : List (List ℕ)) → 0 < length qs → (ps ≡ [] ∷ [] → ⊥) → 0 < length ps → is_nothing (glue ps qs) ≡ false
something [] qs k other some = absurd (omega arith)
something ([] ∷ []) qs k other some = absurd (other refl)
something ((x ∷ xs) ∷ []) [] k other some = absurd (omega arith)
something ((x ∷ xs) ∷ []) (q ∷ []) k other some = refl
something ((x ∷ xs) ∷ []) (q ∷ r ∷ qs) k other some = refl
something (p ∷ r ∷ []) [] k other some = absurd (omega arith)
something (p ∷ r ∷ []) (q ∷ qs) k other some = grind arith
something (p ∷ r ∷ s ∷ ps) qs k other some = grind arith

-- a line that isn't the first at fault leaves the fault to those behind it
after_event : (number n : ℕ) (o : Option Event) → (k : ℕ) × ((rest : Result (List Event) ℕ) → rest ≡ Err n → event_then number o rest ≡ Err k)
after_event number n None = (number, λ rest h. refl)
after_event number n (Some event) = (n, λ rest h. ap (result_map_both (λ events. event ∷ events) (λ k. k)) h)

after_end : (number n : ℕ) (end : Bool) (o : Option Event) → (k : ℕ) × ((rest : Result (List Event) ℕ) → rest ≡ Err n → cond end (Err (number + 1)) (event_then number o rest) ≡ Err k)
after_end number n true o = (number + 1, λ rest h. refl)
after_end number n false o = after_event number n o

after_line : (kind : SessionKind) (number n : ℕ) (o : Option LineWords) → (k : ℕ) × ((rest : Result (List Event) ℕ) → rest ≡ Err n → line_then kind number o false rest ≡ Err k)
after_line kind number n None = (number, λ rest h. refl)
after_line kind number n (Some words) = after_end number n (is_end words) (event_of kind words)

-- where the lines behind the first are at fault for each kind of session, the text is
after_config : (fault : SessionKind → ℕ) (o : Option (Config × ℕ)) → (k : ℕ) × ((rest : SessionKind → Result (List Event) ℕ) → ((kind : SessionKind) → rest kind ≡ Err (fault kind)) → config_then o rest ≡ Err k)
after_config fault None = (1, λ rest h. refl)
after_config fault (Some opening) = (fault (kind_of opening.0), λ rest h. ap (result_map_both (λ events. record { config = opening.0; word = opening.1; events = events }) (λ k. k)) (h (kind_of opening.0)))

refused : (kind : SessionKind) (number room : ℕ) (line : List ℕ) (behind : List (List ℕ)) → line_at number room (line ∷ behind) ≡ None → events_from kind number room (line ∷ behind) ≡ Err number
refused kind number room line behind h = ap (λ o. line_then kind number (option_and_then words_of_line o) (is_nothing behind) (events_from kind (number + 1) (room - (length line + 1)) behind)) h

no_line : (number room : ℕ) (line : List ℕ) (behind : List (List ℕ)) → within number room line ≡ false → line_at number room (line ∷ behind) ≡ None
no_line number room line [] h = refl
no_line number room line (p ∷ ps) h = ap (λ b. cond b (Some line) None) h

pub a_line : (number room : ℕ) (line : List ℕ) (behind : List (List ℕ)) → 0 < length behind → within number room line ≡ true → line_at number room (line ∷ behind) ≡ Some line
a_line number room line behind k h = ended number room line behind k ∙ ap (λ b. cond b (Some line) None) h

-- the last part keeps no limit with more bytes
longer : (number room : ℕ) (last more : List ℕ) → (Keeps number room (last ∷ []) → ⊥) → within number room (last ++ more) ≡ true → ⊥
longer number room last more late h =
    let sum = length-append last more in
    let few : number ≤ max_lines = grind (arith, nat_tests) in
    let all : length (last ++ more) ≤ max_line = grind (arith, nat_tests) in
    let fits : length (last ++ more) < room = grind (arith, nat_tests) in
    let short : nat_le (length last) max_line ≡ true = grind (arith, nat_tests) in
    late (record { bytes = omega arith; lines = ap (λ b. b && true) short; count = omega arith })

not_true : (b : Bool) → (b ≡ true → ⊥) → b ≡ false
not_true true h = absurd (h refl)
not_true false h = refl

last_late : (number room : ℕ) (last : List ℕ) → (Keeps number room (last ∷ []) → ⊥) → (qs : List (List ℕ)) → 0 < length qs → line_at number room (glue (last ∷ []) qs) ≡ None
last_late number room last late [] k = absurd (omega arith)
last_late number room last late (q ∷ qs) k = no_line number room (last ++ q) qs (not_true (within number room (last ++ q)) (longer number room last q late))

-- nothing behind the last line keeps the limits
nothing_keeps : (number room : ℕ) → Keeps number room ([] ∷ [])
nothing_keeps number room = record { bytes = omega arith; lines = refl; count = omega arith }

behind_late : (number room : ℕ) (ps qs : List (List ℕ)) → (Keeps number room ps → ⊥) → 0 < length ps → 0 < length qs → is_nothing (glue ps qs) ≡ false
behind_late number room ps qs late some k = something ps qs k (λ e. late (subst (Keeps number room) (sym e) (nothing_keeps number room))) some

-- the first of at least two parts
module _ (number room : ℕ) (line next : List ℕ) (rest : List (List ℕ)) (late : Keeps number room (line ∷ next ∷ rest) → ⊥) where
  abbrev Faulty : SessionKind → Type 0
  Faulty kind = (n : ℕ) × ((qs : List (List ℕ)) → 0 < length qs → events_from kind number room (line ∷ glue (next ∷ rest) qs) ≡ Err n)

  -- the lines behind it are
  abbrev FaultyBehind : SessionKind → Type 0
  FaultyBehind kind = (n : ℕ) × ((qs : List (List ℕ)) → 0 < length qs → events_from kind (number + 1) (room - (length line + 1)) (glue (next ∷ rest) qs) ≡ Err n)

  within_late : (kind : SessionKind) → within number room line ≡ true → FaultyBehind kind → Faulty kind
  within_late kind here more =
      let after = after_line kind number more.0 (words_of_line line) in (
        after.0,
        λ qs k.
            let behind = glue (next ∷ rest) qs in
            let left = events_from kind (number + 1) (room - (length line + 1)) behind in
            let nothing : is_nothing behind ≡ false = behind_late (number + 1) (room - (length line + 1)) (next ∷ rest) qs (rest_late number room line next rest here late) (omega arith) k in
            ap (λ o. line_then kind number (option_and_then words_of_line o) (is_nothing behind) left) (a_line number room line behind (glued_more (next ∷ rest) qs (omega arith) k) here)
            ∙ ap (λ b. line_then kind number (words_of_line line) b left) nothing ∙ after.1 left (more.1 qs k),
      )

  faulty : (kind : SessionKind) (here : Bool) → within number room line ≡ here → (within number room line ≡ true → FaultyBehind kind) → Faulty kind
  faulty kind true here more = within_late kind here (more here)
  faulty kind false here more = (number, λ qs k. refused kind number room line (glue (next ∷ rest) qs) (no_line number room line (glue (next ∷ rest) qs) here))

  script_late : within number room line ≡ true → ((kind : SessionKind) → FaultyBehind kind)
      → (n : ℕ) × ((qs : List (List ℕ)) → 0 < length qs
      → config_then (option_and_then opening_of (option_and_then words_of_line (line_at number room (line ∷ glue (next ∷ rest) qs)))) (λ kind. events_from kind (number + 1) (room - (length line + 1)) (glue (next ∷ rest) qs)) ≡ Err n)
  script_late here more =
      let after = after_config (λ kind. (more kind).0) (option_and_then opening_of (words_of_line line)) in (
        after.0,
        λ qs k.
            let behind = glue (next ∷ rest) qs in
            let left = λ (kind : SessionKind). events_from kind (number + 1) (room - (length line + 1)) behind in
            ap (λ o. config_then (option_and_then opening_of (option_and_then words_of_line o)) left) (a_line number room line behind (glued_more (next ∷ rest) qs (omega arith) k) here)
            ∙ after.1 left (λ kind. (more kind).1 qs k),
      )

late_events : (kind : SessionKind) (number room : ℕ) (ps : List (List ℕ)) → (Keeps number room ps → ⊥) → (n : ℕ) × ((qs : List (List ℕ)) → 0 < length qs → events_from kind number room (glue ps qs) ≡ Err n)
late_events kind number room [] late = absurd (late (record { bytes = omega arith; lines = refl; count = omega arith }))
late_events kind number room (last ∷ []) late = (number, λ qs k. last_fault qs k)
  where
    last_fault : (qs : List (List ℕ)) → 0 < length qs → events_from kind number room (glue (last ∷ []) qs) ≡ Err number
    last_fault [] k = absurd (omega arith)
    last_fault (q ∷ qs) k = refused kind number room (last ++ q) qs (last_late number room last late (q ∷ qs) k)
late_events kind number room (line ∷ next ∷ rest) late =
    faulty number room line next rest late kind (within number room line) refl (λ here. late_events kind (number + 1) (room - (length line + 1)) (next ∷ rest) (rest_late number room line next rest here late))

abbrev Refused : List (List ℕ) → Type 0
Refused ps = (n : ℕ) × ((qs : List (List ℕ)) → 0 < length qs → script_from (glue ps qs) ≡ Err n)

first_refused : (line : List ℕ) (behind : List (List ℕ)) → line_at 1 max_text (line ∷ behind) ≡ None → script_from (line ∷ behind) ≡ Err 1
first_refused line behind h = ap (λ o. config_then (option_and_then opening_of (option_and_then words_of_line o)) (λ kind. events_from kind 2 (max_text - (length line + 1)) behind)) h

late_parts : (ps : List (List ℕ)) → (Keeps 1 max_text ps → ⊥) → Refused ps
late_parts [] late = absurd (late (record { bytes = omega arith; lines = refl; count = omega arith }))
late_parts (last ∷ []) late = (1, λ qs k. last_fault qs k)
  where
    last_fault : (qs : List (List ℕ)) → 0 < length qs → script_from (glue (last ∷ []) qs) ≡ Err 1
    last_fault [] k = absurd (omega arith)
    last_fault (q ∷ qs) k = first_refused (last ++ q) qs (last_late 1 max_text last late (q ∷ qs) k)
late_parts (line ∷ next ∷ rest) late = by_first (within 1 max_text line) refl
  where
    by_first : (here : Bool) → within 1 max_text line ≡ here → Refused (line ∷ next ∷ rest)
    by_first true here = script_late 1 max_text line next rest late here (λ kind. late_events kind 2 (max_text - (length line + 1)) (next ∷ rest) (rest_late 1 max_text line next rest here late))
    by_first false here = (1, λ qs k. first_refused line (glue (next ∷ rest) qs) (no_line 1 max_text line (glue (next ∷ rest) qs) here))

keeps_by : (text : List ℕ) → keeps_limits text ≡ false → Keeps 1 max_text (parts 10 text) → ⊥
unfolding keeps_limits
keeps_by text h k =
    let size = total_parts 10 text in
    let bytes : nat_le (length text) max_text ≡ true = grind (arith, nat_tests, size, k.bytes) in
    let count : nat_le (lines_begun (parts 10 text)) max_lines ≡ true = grind (arith, nat_tests, k.count) in
    both_ways (keeps_limits text) h (ap (λ b. b && list_all is_short (parts 10 text) && nat_le (lines_begun (parts 10 text)) max_lines) bytes ∙ ap (λ b. b && nat_le (lines_begun (parts 10 text)) max_lines) k.lines ∙ count)

-- a text of which a byte stands beyond a limit is at fault in one line, whatever comes behind it
pub beyond_limits : (text : List ℕ) → keeps_limits text ≡ false → (n : ℕ) × ((more : List ℕ) → script_of (text ++ more) ≡ Err n)
unfolding script_of
beyond_limits text h =
    let late = late_parts (parts 10 text) (keeps_by text h) in
    (late.0, λ more. ap script_from (parts_append 10 text more) ∙ late.1 (parts 10 more) (some_parts 10 more))
