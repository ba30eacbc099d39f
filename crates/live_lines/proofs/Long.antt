-- Lines of more bytes than they may have: one of them is at fault, and the same one whatever comes behind.
use Rattle.std.proofs.Common.{◌≡◌, ℕ, ◌+◌, ◌-◌, ◌<◌, Bool, true, false, cond, List, [], ◌∷◌, ◌++◌, length, Option, Some, None, Result, Err, refl, sym, ap, ◌∙◌, arith, length-append}
use Rattle.std.specs.Prelude.{option_and_then}
use Rattle.std.specs.Result.{result_map_both}
use Rattle.std.proofs.lemmas.Bool.Decides.{nat_tests}
use Rattle.std.proofs.lemmas.List.{append-nil}
use Rattle.caller_threads.specs.Submits.{Line}
use Rattle.driver_model.specs.declared.kind.SessionKind.{SessionKind}
use Rattle.script_text.specs.Lines.{submission_of, submission_then, words_then, submissions_from, lines_of}
use Rattle.script_text.specs.Script.{max_text, line_at, is_end, is_nothing}
use Rattle.script_text.specs.Words.{LineWords, parts, words_of_line}
use Rattle.script_text.proofs.Cutting.{some_parts}
use Rattle.script_text.proofs.Glued.{glue, parts_append}
use Rattle.script_text.proofs.Late.{total, total_parts, a_line}
use Rattle.script_text.proofs.Lines.{within}

-- a line that isn't the first at fault leaves the fault to those behind it
after_submission : (number n : ℕ) (o : Option Line) → (k : ℕ) × ((rest : Result (List Line) ℕ) → rest ≡ Err n → submission_then number o rest ≡ Err k)
after_submission number n None = (number, λ rest h. refl)
after_submission number n (Some line) = (n, λ rest h. ap (result_map_both (λ lines. line ∷ lines) (λ k. k)) h)

after_end : (number n : ℕ) (end : Bool) (o : Option Line) → (k : ℕ) × ((rest : Result (List Line) ℕ) → rest ≡ Err n → cond end (Err (number + 1)) (submission_then number o rest) ≡ Err k)
after_end number n true o = (number + 1, λ rest h. refl)
after_end number n false o = after_submission number n o

after_line : (kind : SessionKind) (number n : ℕ) (o : Option LineWords) → (k : ℕ) × ((rest : Result (List Line) ℕ) → rest ≡ Err n → words_then kind number o false rest ≡ Err k)
after_line kind number n None = (number, λ rest h. refl)
after_line kind number n (Some words) = after_end number n (is_end words) (submission_of kind words)

refused : (kind : SessionKind) (number room : ℕ) (line : List ℕ) (behind : List (List ℕ)) → line_at number room (line ∷ behind) ≡ None → submissions_from kind number room (line ∷ behind) ≡ Err number
refused kind number room line behind h =
    ap (λ o. words_then kind number (option_and_then words_of_line o) (is_nothing behind) (submissions_from kind (number + 1) (room - (length line + 1)) behind)) h

no_line : (number room : ℕ) (line : List ℕ) (behind : List (List ℕ)) → within number room line ≡ false → line_at number room (line ∷ behind) ≡ None
no_line number room line [] h = refl
no_line number room line (p ∷ ps) h = ap (λ b. cond b (Some line) None) h

-- a last part without room has none with more bytes in it
last_refused : (kind : SessionKind) (number room : ℕ) (last : List ℕ) (qs : List (List ℕ)) → room < length last → 0 < length qs → submissions_from kind number room (glue (last ∷ []) qs) ≡ Err number
last_refused kind number room last [] long some = absurd (omega (arith, some))
last_refused kind number room last (q ∷ qs) long some =
    let sum = length-append last q in
    let no : within number room (last ++ q) ≡ false = grind (arith, nat_tests) in
    refused kind number room (last ++ q) qs (no_line number room (last ++ q) qs no)

-- parts with bytes are not nothing
something : (ps qs : List (List ℕ)) → 0 < total ps → 0 < length qs → is_nothing (glue ps qs) ≡ false
something [] qs bytes some = absurd (omega (arith, bytes))
something ([] ∷ []) qs bytes some = absurd (omega (arith, bytes))
something ((x ∷ xs) ∷ []) [] bytes some = absurd (omega (arith, some))
something ((x ∷ xs) ∷ []) (q ∷ []) bytes some = refl
something ((x ∷ xs) ∷ []) (q ∷ r ∷ qs) bytes some = refl
something (p ∷ r ∷ []) [] bytes some = absurd (omega (arith, some))
something (p ∷ r ∷ []) (q ∷ qs) bytes some = grind arith
something (p ∷ r ∷ s ∷ ps) qs bytes some = grind arith

glued_some : (p : List ℕ) (ps qs : List (List ℕ)) → 0 < length qs → 0 < length (glue (p ∷ ps) qs)
glued_some p [] [] some = absurd (omega (arith, some))
glued_some p [] (q ∷ qs) some = omega arith
glued_some p (r ∷ ps) qs some = omega arith

-- the first of at least two parts
module _ (kind : SessionKind) (number room : ℕ) (line next : List ℕ) (rest : List (List ℕ)) where
  abbrev Faulty : Type 0
  Faulty = (n : ℕ) × ((qs : List (List ℕ)) → 0 < length qs → submissions_from kind number room (line ∷ glue (next ∷ rest) qs) ≡ Err n)

  -- the lines behind it are at fault
  abbrev FaultyBehind : Type 0
  FaultyBehind = (n : ℕ) × ((qs : List (List ℕ)) → 0 < length qs → submissions_from kind (number + 1) (room - (length line + 1)) (glue (next ∷ rest) qs) ≡ Err n)

  within_long : within number room line ≡ true → 0 < total (next ∷ rest) → FaultyBehind → Faulty
  within_long here bytes more =
      let after = after_line kind number more.0 (words_of_line line) in (
        after.0,
        λ qs some.
            let behind = glue (next ∷ rest) qs in
            let left = submissions_from kind (number + 1) (room - (length line + 1)) behind in
            ap (λ o. words_then kind number (option_and_then words_of_line o) (is_nothing behind) left) (a_line number room line behind (glued_some next rest qs some) here)
            ∙ ap (λ b. words_then kind number (words_of_line line) b left) (something (next ∷ rest) qs bytes some) ∙ after.1 left (more.1 qs some),
      )

  faulty : (here : Bool) → within number room line ≡ here → (within number room line ≡ true → (0 < total (next ∷ rest)) × FaultyBehind) → Faulty
  faulty true here more = within_long here (more here).0 (more here).1
  faulty false here more = (number, λ qs some. refused kind number room line (glue (next ∷ rest) qs) (no_line number room line (glue (next ∷ rest) qs) here))

  less_room : within number room line ≡ true → room < total (line ∷ next ∷ rest) → room - (length line + 1) < total (next ∷ rest)
  less_room here long =
      let fits : length line < room = grind (arith, nat_tests) in
      omega (arith, long, fits)

long_lines : (kind : SessionKind) (number room : ℕ) (ps : List (List ℕ)) → room < total ps → (n : ℕ) × ((qs : List (List ℕ)) → 0 < length qs → submissions_from kind number room (glue ps qs) ≡ Err n)
long_lines kind number room [] long = absurd (omega (arith, long))
long_lines kind number room (last ∷ []) long = (number, λ qs some. last_refused kind number room last qs long some)
long_lines kind number room (line ∷ next ∷ rest) long =
    faulty kind number room line next rest (within number room line) refl
    (λ here.
    let less = less_room kind number room line next rest here long in
    (omega (arith, less), long_lines kind (number + 1) (room - (length line + 1)) (next ∷ rest) less))

-- the line that is at fault whatever comes behind
pub first_fault_of : (kind : SessionKind) (kept : List ℕ) → max_text < length kept → (n : ℕ) × ((more : List ℕ) → lines_of kind (kept ++ more) ≡ Err n)
unfolding lines_of
first_fault_of kind kept long =
    let late = long_lines kind 1 max_text (parts 10 kept) (omega (arith, total_parts 10 kept, long)) in
    (late.0, λ more. ap (submissions_from kind 1 max_text) (parts_append 10 kept more) ∙ late.1 (parts 10 more) (some_parts 10 more))

-- it is that of what was kept
pub kept_fault : (kind : SessionKind) (kept : List ℕ) → max_text < length kept → (n : ℕ) × (lines_of kind kept ≡ Err n)
kept_fault kind kept long =
    let late = first_fault_of kind kept long in
    (late.0, ap (lines_of kind) (sym (append-nil kept)) ∙ late.1 [])

pub same_fault : (kind : SessionKind) (kept : List ℕ) → max_text < length kept → (more : List ℕ) → lines_of kind (kept ++ more) ≡ lines_of kind kept
same_fault kind kept long more =
    let late = first_fault_of kind kept long in
    late.1 more ∙ sym (ap (lines_of kind) (sym (append-nil kept)) ∙ late.1 [])
