use Rattle.std.proofs.Common.{◌≡◌, ℕ, suc, ◌-◌, List, length, take, Option, Ok, Some, sym, ap, ◌∙◌, subst}
use Rattle.std.specs.declared.alloc.AllocError.{AllocError}
use Rattle.resp_value.specs.View.{data_of}
use Rattle.resp_value.specs.declared.value.Value.{Value}
use Rattle.resp_read.specs.Parser.{read}
use Rattle.resp_read.specs.declared.frames.Frame.{Frame}
use Rattle.resp_read.specs.declared.frames.Begun.TheVariants.{Whole, Within}
use Rattle.resp_read.specs.Frames.{begun_as, within, resumed, IsPutInPlace}
use Rattle.resp_read.specs.Limits.{reading}
use Rattle.resp_read.specs.declared.limits.Limits.{Limits}
use Rattle.resp_read.proofs.FrameLaws.{within_put, within_held, none_left}
use Rattle.resp_read.proofs.underway.put.Goals as goal

-- a value that was handed back is the one that was offered, to the same aggregates
handed : (frames new : List Frame) (value back : Value) (o : Option Value) → o ≡ Some back → IsPutInPlace {E = AllocError} frames value (Ok o) new → (limits : Limits) (bs : List ℕ) → within limits limits.depth frames (read (data_of value) bs) ≡ within limits limits.depth new (read (data_of back) bs)
handed frames new value back o is h limits bs =
    let same = subst (λ x. IsPutInPlace {E = AllocError} frames value (Ok x) new) is h in
    λ i. within limits limits.depth (sym same.1 i) (read (data_of (sym same.0 i)) bs)

pub returns-in-None : goal.returns-in-None
returns-in-None c = λ limits bs.
    let put = subst (λ o. IsPutInPlace {E = AllocError} c.loop-back.frames.items c.loop-back.value (Ok o) c.put_in_place.new.frames.items) c.in-None.is c.in_ok-put_in_place.ensures in
    c.loop-back.invariant limits bs ∙ put limits bs

pub returns-in-None-pop : goal.returns-in-None-pop
returns-in-None-pop c =
    let none = none_left c.put_in_place.new.frames.items c.pop.new.self.items (sym c.in-None-pop.ensures.items) (c.in-None-pop.ensures.rest ∙ ap (λ n. take (n - 1) c.put_in_place.new.frames.items) c.in-None-pop.ensures.cases.0) in
    (none.0, λ limits bs. c.loop-back.invariant limits bs ∙ handed c.loop-back.frames.items c.put_in_place.new.frames.items c.loop-back.value c.in-Some.back c.in_ok-put_in_place.field-0 c.in-Some.is c.in_ok-put_in_place.ensures limits bs ∙ ap (λ fs. within limits limits.depth fs (read (data_of c.in-Some.back) bs)) none.1)

pub loop-back-preserved : goal.loop-back-preserved
loop-back-preserved c = λ limits bs.
    let frames = c.pop.new.self.items in
    let v = data_of c.in-Some.back in
    let inside = reading limits (limits.depth - suc (length frames)) in
    c.loop-back.invariant limits bs ∙ handed c.loop-back.frames.items c.put_in_place.new.frames.items c.loop-back.value c.in-Some.back c.in_ok-put_in_place.field-0 c.in-Some.is c.in_ok-put_in_place.ensures limits bs
    ∙ ap (λ fs. within limits limits.depth fs (read v bs)) c.in-Some-pop.ensures.items
    ∙ within_put limits frames c.in-Some-pop.frame v bs (Whole c.in-Whole.whole) (c.in_ok-whole.ensures inside bs ∙ ap (λ b. begun_as inside b bs) c.in-Whole.is)

pub returns-in-Within : goal.returns-in-Within
returns-in-Within c = λ limits bs.
    let frames = c.pop.new.self.items in
    let v = data_of c.in-Some.back in
    let inside = reading limits (limits.depth - suc (length frames)) in
    c.loop-back.invariant limits bs ∙ handed c.loop-back.frames.items c.put_in_place.new.frames.items c.loop-back.value c.in-Some.back c.in_ok-put_in_place.field-0 c.in-Some.is c.in_ok-put_in_place.ensures limits bs
    ∙ ap (λ fs. within limits limits.depth fs (read v bs)) c.in-Some-pop.ensures.items
    ∙ within_put limits frames c.in-Some-pop.frame v bs (Within c.in-Within.frame) (c.in_ok-whole.ensures inside bs ∙ ap (λ b. begun_as inside b bs) c.in-Within.is)
    ∙ within_held limits frames c.in-Within.frame bs ∙ ap (λ fs. resumed limits fs bs) (sym c.in_ok-hold-in-Within.ensures)
