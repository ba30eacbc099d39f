-- What reading on from a place makes of the aggregates that it stands in.
use Rattle.std.proofs.Common.{◌≡◌, ℕ, suc, ◌≤◌, ◌-◌, List, [], ◌∷◌, ◌++◌, length, length-drop, drop, Err, Option, Some, true, refl, sym, ap, ◌∙◌, subst, arith}
use Rattle.std.proofs.lemmas.List.{append-nil}
use Rattle.resp_value.specs.Data.{Data}
use Rattle.resp_read.specs.Parser.{short, bad, Found}
use Rattle.resp_read.specs.Limits.{reading}
use Rattle.resp_read.specs.declared.limits.Limits.{Limits}
use Rattle.resp_read.specs.declared.forms.Refusal.{Refusal}
use Rattle.resp_read.specs.declared.forms.Refusal.TheVariants.{Short, Bad, NoMemory}
use Rattle.resp_read.specs.declared.frames.Frame.{Frame}
use Rattle.resp_read.specs.declared.frames.Begun.{Begun}
use Rattle.resp_read.specs.declared.frames.Begun.TheVariants.{Within}
use Rattle.resp_read.specs.declared.stages.Stage.{Stage}
use Rattle.resp_read.specs.declared.stages.Stage.TheVariants.{First}
use Rattle.resp_read.specs.declared.place.Place.{Place}
use Rattle.resp_read.specs.Frames.{begun_as, within}
use Rattle.resp_read.specs.Stages.{stage_as}
use Rattle.resp_read.specs.Places.{is_too_few, Advances, reached_as, resumed_at, ReadsFrom}
use Rattle.resp_read.proofs.FrameLaws.{within_short, within_bad, within_held}
use Rattle.resp_read.proofs.PlaceLaws.{few_short}

module _ (limits : Limits) (frames : List Frame) where
  -- what begins at a stage
  pub begun_there : (n : ℕ) (s t : Stage) (bs left : List ℕ) (o : Option Begun) (b d : Begun) → n ≡ length frames → o ≡ Some b → b ≡ d → stage_as limits (limits.depth - n) s bs ≡ reached_as limits (limits.depth - n) o t left
      → resumed_at limits frames s bs ≡ within limits limits.depth frames (begun_as (reading limits (limits.depth - suc (length frames))) d left)
  begun_there n s t bs left o b d k is same h =
      let h' : stage_as limits (limits.depth - length frames) s bs ≡ reached_as limits (limits.depth - length frames) (Some b) t left = subst (λ i. stage_as limits (limits.depth - i) s bs ≡ reached_as limits (limits.depth - i) (Some b) t left) k (subst (λ x. stage_as limits (limits.depth - n) s bs ≡ reached_as limits (limits.depth - n) x t left) is h) in
      let e : (limits.depth - length frames) - 1 ≡ limits.depth - suc (length frames) = omega arith in
      ap (within limits limits.depth frames) (h' ∙ (λ j. begun_as (reading limits (e j)) (same j) left))

  -- an aggregate begins
  pub held_there : (s : Stage) (bs left : List ℕ) (frame : Frame) (new : List Frame) (t : Stage) → new ≡ frames ++ frame ∷ [] → t ≡ First → resumed_at limits frames s bs ≡ within limits limits.depth frames (begun_as (reading limits (limits.depth - suc (length frames))) (Within frame) left) → resumed_at limits frames s bs ≡ resumed_at limits new t left
  held_there s bs left frame new t held first h = h ∙ within_held limits frames frame left ∙ (λ j. resumed_at limits (sym held j) (sym first j) left)

-- where it goes no further
module _ (limits : Limits) (tape : List ℕ) (start : List Frame) (old : Place) (frames : List Frame) (cur : Place) (order : old.next ≤ cur.next) (same : (m : List ℕ) → resumed_at limits start old.stage (drop old.next tape ++ m) ≡ resumed_at limits frames cur.stage (drop cur.next tape ++ m)) where
  ends_as : (x : Found Data) → stage_as limits (limits.depth - length frames) cur.stage (drop cur.next tape) ≡ x → resumed_at limits start old.stage (drop old.next tape) ≡ within limits limits.depth frames x
  ends_as x is = ap (resumed_at limits start old.stage) (sym (append-nil (drop old.next tape))) ∙ same [] ∙ ap (resumed_at limits frames cur.stage) (append-nil (drop cur.next tape)) ∙ ap (within limits limits.depth frames) is

  stops_there : (e : Refusal) (new : Place) → Advances limits (limits.depth - length frames) tape cur (Err e) new → ReadsFrom limits tape start old (Err e) frames new
  stops_there Short new h =
      let next = h.0 in
      (omega (arith, order, next), λ m. same m ∙ (λ j. resumed_at limits frames (sym h.1 j) (drop (sym h.0 j) tape ++ m)), ends_as short h.2 ∙ within_short limits limits.depth frames)
  stops_there Bad new h = ends_as bad h ∙ within_bad limits limits.depth frames
  stops_there NoMemory new h = tt

  pub stops : (n : ℕ) (e : Refusal) (new : Place) → n ≡ length frames → Advances limits (limits.depth - n) tape cur (Err e) new → ReadsFrom limits tape start old (Err e) frames new
  stops n e new is h = stops_there e new (subst (λ k. Advances limits (limits.depth - k) tape cur (Err e) new) is h)

-- where too few bytes are there for the next step
pub waits_there : (limits : Limits) (tape : List ℕ) (frames : List Frame) (p : Place) → is_too_few (length tape - p.next) p.stage ≡ true → ReadsFrom limits tape frames p (Err Short) frames p
waits_there limits tape frames p few =
    let d = limits.depth - length frames in
    stops limits tape frames p frames p (omega arith) (λ m. refl) (length frames) Short p refl (refl, refl, few_short limits d p.stage (drop p.next tape) (length tape - p.next) (sym (length-drop p.next tape)) few)
