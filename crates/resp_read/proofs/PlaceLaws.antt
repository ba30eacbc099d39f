-- Steps from stage to stage.
use Rattle.std.proofs.Common.{◌≡◌, ℕ, zero, suc, ◌≤◌, ◌<◌, ◌+◌, ◌*◌, ◌-◌, List, [], ◌∷◌, ◌++◌, length, get_or, take, drop, Ok, Err, Some, None, Bool, true, false, refl, sym, ap, ◌∙◌, subst, arith, Result, Option}
use Rattle.std.proofs.lemmas.List.{drop-drop, drop_more, drop_all}
use Rattle.std.proofs.lemmas.Bool.Decides.{nat_tests}
use Rattle.std.specs.Prelude.{nat_lt}
use Rattle.resp_value.specs.Data.{Data}
use Rattle.resp_read.specs.Parser.{short, Found, found_and_then, body, closed, format, colon}
use Rattle.resp_read.specs.Limits.{bounds, reading}
use Rattle.resp_read.specs.declared.limits.Limits.{Limits}
use Rattle.resp_read.specs.declared.forms.Refusal.{Refusal}
use Rattle.resp_read.specs.declared.forms.Refusal.TheVariants.{Short, Bad, NoMemory}
use Rattle.resp_read.specs.declared.frames.Begun.{Begun}
use Rattle.resp_read.specs.declared.stages.Head.{Head}
use Rattle.resp_read.specs.declared.stages.Part.{Part}
use Rattle.resp_read.specs.declared.stages.Part.TheVariants as part
use Rattle.resp_read.specs.declared.stages.Want.TheVariants as want
use Rattle.resp_read.specs.declared.stages.Follow.{Follow}
use Rattle.resp_read.specs.declared.stages.Follow.TheVariants as follow
use Rattle.resp_read.specs.declared.stages.Stage.{Stage}
use Rattle.resp_read.specs.declared.stages.Stage.TheVariants as stage
use Rattle.resp_read.specs.declared.place.Taken.{Taken}
use Rattle.resp_read.specs.declared.place.Place.{Place}
use Rattle.resp_read.specs.Stages.{stage_as, part_as, format_then, follow_as, after_feed, IsFollow, IsStage, IsBody, IsFormat, IsKindOf}
use Rattle.resp_read.specs.Places.{is_too_few, IsTaken, IsPlace, Goes, Advances, Costs, seen}
use Rattle.resp_read.proofs.Bodies.{body_few, body_enough, bytes_few, bytes_enough}

-- what f finds behind some more bytes is what the next stage finds there
module _ (limits : Limits) (d : ℕ) (tape : List ℕ) (next n : ℕ) (new : Place) (some : 0 < n) (fits : next + n ≤ length tape) (moved : new.next ≡ next + n) where
  pub goes_on_to : (f : List ℕ → Found Data) (s : Stage) → new.stage ≡ s → ((m : List ℕ) → f (drop next tape ++ m) ≡ stage_as limits d s (drop n (drop next tape) ++ m)) → Goes limits d tape f next (Ok None) new
  goes_on_to f s is same = (
    omega (arith, some, moved),
    omega (arith, fits, moved),
    λ m.
        same m ∙ (λ j. stage_as limits d (sym is j) ((drop-drop n next tape ∙ ap (λ k. drop k tape) (sym moved)) j ++ m)),
  )

module _ (limits : Limits) (d : ℕ) (tape : List ℕ) (next size : ℕ) (new : Place) where
  pub body_goes : (p : Part) (w : Begun) → next + (size + 1) ≤ length tape → new.next ≡ next + (size + 1) → new.stage ≡ stage.End (follow.Begun w) → IsBody p size (drop next tape) (Ok w) → Goes limits d tape (stage_as limits d (stage.Want (want.Body p size))) next (Ok None) new
  body_goes p w fits moved is h =
      goes_on_to limits d tape next (size + 1) new (omega arith) fits moved (stage_as limits d (stage.Want (want.Body p size))) (stage.End (follow.Begun w)) is (λ m. h (bounds limits) (reading limits (d - 1)) m)

  pub body_stops : (p : Part) (e : Refusal) → IsBody p size (drop next tape) (Err e) → Goes limits d tape (stage_as limits d (stage.Want (want.Body p size))) next (Err e) new
  body_stops p Short h = h
  body_stops p Bad h = h (bounds limits) (reading limits (d - 1))
  body_stops p NoMemory h = tt

  pub format_goes : (f : List ℕ) → next + 4 ≤ length tape → new.next ≡ next + 4 → new.stage ≡ stage.Want (want.Body (part.Verbatim f) size) → IsFormat size (drop next tape) (Ok f) → Goes limits d tape (stage_as limits d (stage.Want (want.Format size))) next (Ok None) new
  format_goes f fits moved is h =
      goes_on_to limits d tape next 4 new (omega arith) fits moved (stage_as limits d (stage.Want (want.Format size))) (stage.Want (want.Body (part.Verbatim f) size)) is (λ m. h (bounds limits) (reading limits (d - 1)) m)

  pub format_stops : (e : Refusal) → IsFormat size (drop next tape) (Err e) → Goes limits d tape (stage_as limits d (stage.Want (want.Format size))) next (Err e) new
  format_stops Short h = h
  format_stops Bad h = h (bounds limits) (reading limits (d - 1))
  format_stops NoMemory h = tt

  pub kind_goes : (b : ℕ) (head : Head) → next + 1 ≤ length tape → b ≡ get_or tape next 0 → new.next ≡ next + 1 → new.stage ≡ stage.Line head → IsKindOf size b (Some head) → Goes limits d tape (stage_as limits d (stage.Want (want.Kind size))) next (Ok None) new
  kind_goes b head fits first moved is h =
      let there : drop next tape ≡ b ∷ drop 1 (drop next tape) = drop_more tape next 0 (omega (arith, fits)) ∙ (λ j. sym first j ∷ sym (drop-drop 1 next tape) j) in
      goes_on_to limits d tape next 1 new (omega arith) fits moved (stage_as limits d (stage.Want (want.Kind size))) (stage.Line head) is
      (λ m. ap (λ x. stage_as limits d (stage.Want (want.Kind size)) (x ++ m)) there ∙ h (bounds limits) (reading limits (d - 1)) (drop 1 (drop next tape) ++ m))

-- a place where nothing of a line was taken
pub line_left : (tape : List ℕ) (new : Place) (t : Taken) (f : Follow) → new.line ≡ t → ((rest : List ℕ) → IsTaken t rest × (t.text.items ≡ [])) → new.next ≤ length tape → new.stage ≡ stage.End f → IsFollow f → IsPlace tape new
line_left tape new t f same empty fits is follows =
    let none : new.line.text.items ≡ [] = ap (λ (x : Taken). x.text.items) same ∙ (empty []).1 in
    let size : length new.line.text.items ≡ 0 = ap length none in
    record {
      fits = omega (arith, size, fits);
      taken = subst (λ x. IsTaken x (drop new.next tape)) (sym same) (empty (drop new.next tape)).0;
      stage = subst IsStage (sym is) follows;
      alone = λ _. none;
    }

-- too few bytes are short
none_there : (bs : List ℕ) → length bs ≤ 0 → bs ≡ []
none_there [] h = refl
none_there (b ∷ bs) h = absurd (omega (arith, h))

body_waits : (n : ℕ) (bs : List ℕ) → length bs ≤ n → (c : Bool) → nat_lt (length bs) n ≡ c → body n bs ≡ short
body_waits n bs h true few = body_few n bs (grind (arith, nat_tests))
body_waits n bs h false enough = body_enough n bs (grind (arith, nat_tests)) ∙ ap (closed (take n bs)) (drop_all n bs h)

format_waits : (bs : List ℕ) → length bs ≤ 3 → (c : Bool) → nat_lt (length bs) 3 ≡ c → format bs ≡ short
format_waits bs h true few = ap (found_and_then colon) (bytes_few 3 bs (grind (arith, nat_tests)))
format_waits bs h false enough = ap (found_and_then colon) (bytes_enough 3 bs (grind (arith, nat_tests))) ∙ ap (colon (take 3 bs)) (drop_all 3 bs h)

first_waits : (limits : Limits) (d : ℕ) → reading limits d [] ≡ short
first_waits limits zero = refl
first_waits limits (suc d) = refl

pub few_short : (limits : Limits) (d : ℕ) (s : Stage) (bs : List ℕ) (n : ℕ) → n ≡ length bs → is_too_few n s ≡ true → stage_as limits d s bs ≡ short
few_short limits d stage.First bs n is few = ap (reading limits d) (none_there bs (grind (arith, nat_tests))) ∙ first_waits limits d
few_short limits d (stage.Line h) bs n is few = cc
few_short limits d (stage.End f) bs n is few = ap (after_feed (follow_as (bounds limits) (reading limits (d - 1)) f)) (none_there bs (grind (arith, nat_tests)))
few_short limits d (stage.Want (want.Body p k)) bs n is few = ap (found_and_then (part_as (reading limits (d - 1)) p)) (body_waits k bs (grind (arith, nat_tests)) (nat_lt (length bs) k) refl)
few_short limits d (stage.Want (want.Format k)) bs n is few = ap (found_and_then (format_then k)) (format_waits bs (grind (arith, nat_tests)) (nat_lt (length bs) 3) refl)
few_short limits d (stage.Want (want.Kind k)) bs n is few = ap (stage_as limits d (stage.Want (want.Kind k))) (none_there bs (grind (arith, nat_tests)))

-- a step from the stage of a place is one from the place
advanced : (limits : Limits) (n : ℕ) (tape : List ℕ) (p : Place) (r : Result (Option Begun) Refusal) (new : Place) → Goes limits n tape (stage_as limits n p.stage) p.next r new → Advances limits n tape p r new
advanced limits n tape p (Ok o) new h = h
advanced limits n tape p (Err Short) new h = absurd h
advanced limits n tape p (Err Bad) new h = h
advanced limits n tape p (Err NoMemory) new h = tt

-- also where the stage was taken out of it before
pub advances_from : (limits : Limits) (n : ℕ) (tape : List ℕ) (p q : Place) (s : Stage) (r : Result (Option Begun) Refusal) (new : Place) → p.stage ≡ s → q.next ≡ p.next → Goes limits n tape (stage_as limits n s) q.next r new → Advances limits n tape p r new
advances_from limits n tape p q s r new is at h =
    advanced limits n tape p r new (subst (λ (t : Stage). Goes limits n tape (stage_as limits n t) p.next r new) (sym is) (subst (λ (k : ℕ). Goes limits n tape (stage_as limits n s) k r new) at h))

-- what it costs is counted from how far was looked
pub costs_from : (tape : List ℕ) (p q : Place) (before : ℕ) (r : Result (Option Begun) Refusal) (new : Place) (after : ℕ) → seen q ≡ seen p → Costs tape q before r new after → Costs tape p before r new after
costs_from tape p q before (Ok o) new after e h = subst (λ (k : ℕ). after + 2 * k ≤ before + 2 * seen new) e h
costs_from tape p q before (Err Short) new after e h = subst (λ (k : ℕ). after + 2 * k ≤ before + 2 * seen new) e h
costs_from tape p q before (Err Bad) new after e h = subst (λ (k : ℕ). after + 2 * k ≤ before + 2 * length tape) e h
costs_from tape p q before (Err NoMemory) new after e h = subst (λ (k : ℕ). after + 2 * k ≤ before + 2 * length tape) e h
