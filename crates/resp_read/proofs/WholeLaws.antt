-- What stands whole in the tape behind a first byte.
use Rattle.std.proofs.Common.{◌≡◌, ℕ, ◌≤◌, ◌<◌, ◌+◌, ◌-◌, ◌*◌, List, [], ◌∷◌, ◌++◌, length, get_or, take, drop, length-drop, length-take-le, append_assoc, Ok, Err, Option, Some, None, Result, Bool, true, false, cond, refl, sym, ap, ◌∙◌, arith}
use Rattle.std.proofs.lemmas.List.{take_more, drop_more, get_or-drop, drop-drop, append-nil}
use Rattle.std.proofs.lemmas.Bool.Decides.{nat_tests}
use Rattle.std.specs.Prelude.{◌==◌, ◌&&◌, option_map, bytes_eq}
use Rattle.resp_value.specs.Data.{Data}
use Rattle.resp_value.specs.View.{data_of}
use Rattle.resp_value.specs.declared.value.Value.{Value as RespValue}
use Rattle.resp_read.specs.Grammar.{natural, size}
use Rattle.resp_read.specs.Parser.{bad, Found, ended, broken, line, size_line, bulk_of, array_of}
use Rattle.resp_read.specs.Limits.{bounds, reading}
use Rattle.resp_read.specs.declared.limits.Limits.{Limits}
use Rattle.resp_read.specs.Parts.{line_form}
use Rattle.resp_read.specs.Digits.{digits_step, digits_run}
use Rattle.resp_read.specs.declared.digits.Digits.{Digits}
use Rattle.resp_read.specs.declared.digits.Digits.TheVariants.{Empty}
use Rattle.resp_read.specs.Waiting.{IsClear}
use Rattle.resp_read.specs.Frames.{begun_as, with_values}
use Rattle.resp_read.specs.declared.forms.OneLine.{OneLine}
use Rattle.resp_read.specs.declared.forms.Refusal.{Refusal}
use Rattle.resp_read.specs.declared.forms.Refusal.TheVariants.{Short, Bad, NoMemory}
use Rattle.resp_read.specs.declared.frames.Begun.{Begun}
use Rattle.resp_read.specs.declared.frames.Begun.TheVariants.{Whole}
use Rattle.resp_read.specs.declared.frames.Sequence.TheVariants as sequence
use Rattle.resp_read.specs.declared.stages.Head.{Head}
use Rattle.resp_read.specs.declared.stages.Head.TheVariants as head
use Rattle.resp_read.specs.declared.stages.Part.TheVariants as part
use Rattle.resp_read.specs.declared.stages.Want.TheVariants as want
use Rattle.resp_read.specs.declared.stages.Stage.TheVariants as stage
use Rattle.resp_read.specs.declared.place.Place.{Place}
use Rattle.resp_read.specs.Stages.{head_on, stage_as, IsHeadOf}
use Rattle.resp_read.specs.Places.{reached_as, seen, Goes, Costs}
use Rattle.resp_read.specs.Whole.{IsWholeLine, IsNoLine, IsEnd, IsKept, IsSize, Reaches}
use Rattle.resp_read.proofs.FirstLine.{bytes_before, before-ended, before-broken, going_on, line-append}
use Rattle.resp_read.proofs.DigitLaws.{run-append}
use Rattle.resp_read.proofs.StageLaws.{value_follows, then_is}
use Rattle.resp_read.proofs.LookLaws.{return_at, return_splits, head_bad}

-- one byte more of a number
pub digits_on : (i from : ℕ) (text : List ℕ) (d e : Digits) (b : ℕ) → from + i < length text → b ≡ get_or text (from + i) 0 → d ≡ digits_run Empty (take i (drop from text)) → e ≡ digits_step d b → e ≡ digits_run Empty (take (i + 1) (drop from text))
digits_on i from text d e b h is so step =
    let rest = drop from text in
    let there : b ≡ get_or rest i 0 = is ∙ sym (get_or-drop from text i 0) in
    step ∙ (λ j. digits_step (so j) (there j)) ∙ sym (run-append Empty (take i rest) (get_or rest i 0 ∷ [])) ∙ ap (digits_run Empty) (sym (take_more rest i 0 (omega (arith, h, length-drop from text))))

-- a line of i bytes, CR, and the byte behind it
module _ (limits : Limits) (tape : List ℕ) (next i b : ℕ) (h : next + i + 1 < length tape) (clear : IsClear i (drop next tape)) (ends : get_or tape (next + i) 0 ≡ 13) (is : b ≡ get_or tape (next + i + 1) 0) where
  abbrev taken : List ℕ
  taken = take i (drop next tape)

  abbrev left : List ℕ
  left = drop (next + i + 2) tape

  behind : drop (i + 1) (drop next tape) ≡ b ∷ left
  behind =
      let e : next + (i + 1) ≡ next + i + 1 = omega arith in
      let f : next + i + 1 + 1 ≡ next + i + 2 = omega arith in
      drop-drop (i + 1) next tape ∙ ap (λ k. drop k tape) e ∙ drop_more tape (next + i + 1) 0 h ∙ (λ j. sym is j ∷ drop (f j) tape)

  split : (m : List ℕ) → drop next tape ++ m ≡ taken ++ (13 ∷ b ∷ (left ++ m))
  split m =
      ap (λ x. x ++ m) (return_splits i (drop next tape) (return_at i next tape (omega (arith, h)) clear ends) ∙ ap (λ x. taken ++ 13 ∷ x) behind)
      ∙ append_assoc taken (13 ∷ b ∷ left) m

  line_there : (m : List ℕ) → line (drop next tape ++ m) ≡ bytes_before taken (cond (b == 10) (ended [] (left ++ m)) broken)
  line_there m = ap line (split m) ∙ line-append taken (13 ∷ b ∷ (left ++ m)) ∙ ap (λ x. going_on x (13 ∷ b ∷ (left ++ m))) clear

  pub line_ends : i ≤ limits.line → b ≡ 10 → (k : ℕ) → k ≡ next + i + 2 → IsEnd limits tape next i (Ok (Some k))
  line_ends fit feed k is_there =
      let c : (b == 10) ≡ true = grind (arith, nat_tests) in
      let n : length taken ≡ i = length-take-le i (drop next tape) (omega (arith, h, length-drop next tape)) in (
        is_there,
        omega (arith, h, is_there),
        (
          omega (arith, n, fit),
          λ m. line_there m ∙ ap (λ d. bytes_before taken (cond d (ended [] (left ++ m)) broken)) c ∙ before-ended taken [] (left ++ m)
              ∙ (λ j. ended (append-nil taken j) (drop (sym is_there j) tape ++ m)),
        ),
      )

  pub line_breaks : (b ≡ 10 → ⊥) → IsNoLine limits (drop next tape)
  line_breaks other = λ inside k.
      let c : (b == 10) ≡ false = grind (arith, nat_tests) in
      ap (λ x. head_on (bounds limits) inside k (line x)) (sym (append-nil (drop next tape)))
      ∙ ap (head_on (bounds limits) inside k) (line_there [] ∙ ap (λ d. bytes_before taken (cond d (ended [] (left ++ [])) broken)) c ∙ before-broken taken)
      ∙ head_bad (bounds limits) inside broken (λ A form. refl) k

-- a number without a sign is a length
minus_none : (most b : ℕ) (l : List ℕ) → (b == 45) ≡ true → natural (Some most) (b ∷ l) ≡ None
minus_none most b l h = let e : b ≡ 45 = grind (arith, nat_tests) in ap (λ x. natural (Some most) (x ∷ l)) e

size_by : (c d : Bool) (most n b : ℕ) (l : List ℕ) → (b == 45) ≡ c → natural (Some most) (b ∷ l) ≡ Some n → cond (c && d) (Some None) (option_map Some (natural (Some most) (b ∷ l))) ≡ Some (Some n)
size_by true d most n b l h is = let none = minus_none most b l h in cc
size_by false d most n b l h is = ap (option_map Some) is

pub size_natural : (most n : ℕ) (l : List ℕ) → natural (Some most) l ≡ Some n → size (Some most) l ≡ Some (Some n)
size_natural most n [] is = cc
size_natural most n (b ∷ l) is = size_by (b == 45) (bytes_eq l (49 ∷ [])) most n b l refl is

-- what follows a whole line of a head
module _ (limits : Limits) (d : ℕ) (tape : List ℕ) (next : ℕ) (h : Head) (l : List ℕ) (new : Place) (order : next ≤ new.next) (fits : new.next ≤ length tape) (whole : IsWholeLine limits (drop next tape) l (drop new.next tape)) where
  pub line_reaches : (o : Option Begun) → ((m : List ℕ) → head_on (bounds limits) (reading limits (d - 1)) h (ended l m) ≡ reached_as limits d o new.stage m) → Reaches limits d tape (stage_as limits d (stage.Line h)) next (Ok o) new
  line_reaches o is = (order, fits, λ m. ap (head_on (bounds limits) (reading limits (d - 1)) h) (whole.1 m) ∙ is (drop new.next tape ++ m))

-- a line that is a value
pub value_reaches : (limits : Limits) (d : ℕ) (tape : List ℕ) (next : ℕ) (form : OneLine) (l : List ℕ) (new : Place) → next ≤ new.next → new.next ≤ length tape → IsWholeLine limits (drop next tape) l (drop new.next tape) → (v : RespValue) → option_map data_of (Some v) ≡ (line_form (bounds limits) form).whole l → Reaches limits d tape (stage_as limits d (stage.Line (head.Value form))) next (Ok (Some (Whole v))) new
value_reaches limits d tape next form l new order fits whole v is =
    line_reaches limits d tape next (head.Value form) l new order fits whole (Some (Whole v)) ((value_follows limits form l whole.0 v is).1 (reading limits (d - 1))).0

-- what was looked at is kept
pub kept_reaches : (limits : Limits) (d : ℕ) (tape : List ℕ) (h : Head) (old new : Place) → IsKept tape h old new → Reaches limits d tape (stage_as limits d (stage.Line h)) old.next (Ok None) new
kept_reaches limits d tape h old new kept =
    let next = kept.1 in
    let fits = kept.0.fits in (
      omega (arith, next),
      omega (arith, next, fits),
      λ m. λ j. stage_as limits d (sym kept.2 j) (drop (sym next j) tape ++ m),
    )

-- what is no line is bad
pub no_line_stops : (limits : Limits) (d : ℕ) (tape : List ℕ) (next : ℕ) (h : Head) (new : Place) → IsNoLine limits (drop next tape) → Reaches limits d tape (stage_as limits d (stage.Line h)) next (Err Bad) new
no_line_stops limits d tape next h new none = none (reading limits (d - 1)) h

-- where the line has no end
pub no_end_stops : (limits : Limits) (d : ℕ) (tape : List ℕ) (next i : ℕ) (h : Head) (new : Place) (e : Refusal) → IsEnd limits tape next i (Err e) → Reaches limits d tape (stage_as limits d (stage.Line h)) next (Err e) new
no_end_stops limits d tape next i h new Short none = none
no_end_stops limits d tape next i h new Bad none = none (reading limits (d - 1)) h
no_end_stops limits d tape next i h new NoMemory none = tt

-- where no number stands in it
pub no_size_stops : (limits : Limits) (d most : ℕ) (tape : List ℕ) (h : Head) (old new : Place) (e : Refusal) → IsSize limits most h tape old (Err e) new → Reaches limits d tape (stage_as limits d (stage.Line h)) old.next (Err e) new
no_size_stops limits d most tape h old new Short none = none
no_size_stops limits d most tape h old new Bad none = none (reading limits (d - 1)) h
no_size_stops limits d most tape h old new NoMemory none = tt

-- the length of a bulk string, and its body
module _ (limits : Limits) (d : ℕ) (tape : List ℕ) (next n : ℕ) (l : List ℕ) (mid : Place) (is : natural (Some limits.bulk) l ≡ Some n) (order : next ≤ mid.next) (whole : IsWholeLine limits (drop next tape) l (drop mid.next tape)) where
  body_behind : (m : List ℕ) → stage_as limits d (stage.Line head.Bulk) (drop next tape ++ m) ≡ stage_as limits d (stage.Want (want.Body part.Bulk n)) (drop mid.next tape ++ m)
  body_behind m =
      ap (head_on (bounds limits) (reading limits (d - 1)) head.Bulk) (whole.1 m)
      ∙ (then_is limits (size_line (Some limits.bulk)) l whole.0 bulk_of (Some n) (size_natural limits.bulk n l is)).0 (drop mid.next tape ++ m)

  pub bulk_reaches : (result : Result (Option Begun) Refusal) (new : Place) → Reaches limits d tape (stage_as limits d (stage.Want (want.Body part.Bulk n))) mid.next result new → Reaches limits d tape (stage_as limits d (stage.Line head.Bulk)) next result new
  bulk_reaches (Ok o) new h = let more = h.0 in (omega (arith, order, more), h.1, λ m. body_behind m ∙ h.2 m)
  bulk_reaches (Err Short) new h = h
  bulk_reaches (Err Bad) new h =
      ap (stage_as limits d (stage.Line head.Bulk)) (sym (append-nil (drop next tape))) ∙ body_behind [] ∙ ap (stage_as limits d (stage.Want (want.Body part.Bulk n))) (append-nil (drop mid.next tape)) ∙ h
  bulk_reaches (Err NoMemory) new h = tt

-- the count of an array, and what it begins
pub array_reaches : (limits : Limits) (d : ℕ) (tape : List ℕ) (next n : ℕ) (l : List ℕ) (new : Place) → natural (Some limits.count) l ≡ Some n → next ≤ new.next → new.next ≤ length tape → IsWholeLine limits (drop next tape) l (drop new.next tape) → (found : List Data) → found ≡ [] → (b : Begun) → ((inside : List ℕ → Found Data) (bs : List ℕ) → with_values inside sequence.Array found n bs ≡ begun_as inside b bs) → Reaches limits d tape (stage_as limits d (stage.Line head.Array)) next (Ok (Some b)) new
array_reaches limits d tape next n l new is order fits whole found none b begun =
    line_reaches limits d tape next head.Array l new order fits whole (Some b)
    (λ m.
    (then_is limits (size_line (Some limits.count)) l whole.0 (array_of (reading limits (d - 1))) (Some n) (size_natural limits.count n l is)).0 m
    ∙ ap (λ x. with_values (reading limits (d - 1)) sequence.Array x n m) (sym none) ∙ begun (reading limits (d - 1)) m)

-- the first byte of a value, and what stands behind it
module _ (limits : Limits) (d : ℕ) (tape : List ℕ) (next b : ℕ) (h : Head) (k : ℕ) (some : next < length tape) (byte : b ≡ get_or tape next 0) (moved : k ≡ next + 1) (is : IsHeadOf limits d b (Some h)) where
  head_behind : (m : List ℕ) → stage_as limits d stage.First (drop next tape ++ m) ≡ stage_as limits d (stage.Line h) (drop k tape ++ m)
  head_behind m = ap (λ x. reading limits d (x ++ m)) (drop_more tape next 0 some ∙ (λ j. sym byte j ∷ drop (sym moved j) tape)) ∙ is (drop k tape ++ m)

  pub first_goes : (result : Result (Option Begun) Refusal) (new : Place) → Reaches limits d tape (stage_as limits d (stage.Line h)) k result new → Goes limits d tape (stage_as limits d stage.First) next result new
  first_goes (Ok o) new r = let more = r.0 in (omega (arith, moved, more), r.1, λ m. head_behind m ∙ r.2 m)
  first_goes (Err Short) new r = r
  first_goes (Err Bad) new r = ap (stage_as limits d stage.First) (sym (append-nil (drop next tape))) ∙ head_behind [] ∙ ap (stage_as limits d (stage.Line h)) (append-nil (drop k tape)) ∙ r
  first_goes (Err NoMemory) new r = tt

-- the steps of what is read in two parts
pub costs_on : (tape : List ℕ) (old mid new : Place) (before between after : ℕ) (result : Result (Option Begun) Refusal) → between + 2 * seen old ≤ before + 2 * seen mid → Costs tape mid between result new after → Costs tape old before result new after
costs_on tape old mid new before between after (Ok o) h k = omega (arith, h, k)
costs_on tape old mid new before between after (Err Short) h k = omega (arith, h, k)
costs_on tape old mid new before between after (Err Bad) h k = omega (arith, h, k)
costs_on tape old mid new before between after (Err NoMemory) h k = omega (arith, h, k)
