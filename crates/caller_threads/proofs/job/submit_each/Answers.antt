use Rattle.std.proofs.Common.{◌≡◌, ◌++◌, ◌∷◌, [], refl, sym, ap, ◌∙◌, subst, append_assoc}
use Rattle.driver_model.specs.Config.{kind_of}
use Rattle.driver_model.specs.declared.config.Config.{Config}
use Rattle.session_callers.specs.Rule.{Each}
use Rattle.caller_threads.specs.Submits.{IsAllowed, HasSubmitted}
use Rattle.caller_threads.proofs.Submitting.{submitted_none, submitted_then, tried_so_far}
use Rattle.caller_threads.proofs.job.submit_each.Goals as goal

pub loop-line-init : goal.loop-line-init
loop-line-init g c = (
  [],
  refl,
  subst (HasSubmitted c.args.caller.now c.args.caller.now []) (sym c.requires.none) (submitted_none c.args.caller.now),
  c.requires.allowed,
  refl,
)

pub submit_line-requires-clause-of : goal.submit_line-requires-clause-of
submit_line-requires-clause-of g c = c.loop-line.invariant.4 ∙ c.requires.of

pub submit_line-requires-clause-allowed : goal.submit_line-requires-clause-allowed
submit_line-requires-clause-allowed g c =
    let e : c.loop-line.lines ≡ c.in-Some.line ∷ c.pop_front.new.self = c.in-Some.ensures in
    (subst (Each (IsAllowed (kind_of c.loop-line.caller.view.config))) e c.loop-line.invariant.3).0

pub loop-line-preserved : goal.loop-line-preserved
loop-line-preserved g c =
    let i = c.loop-line.invariant in
    let line = c.in-Some.line in
    let turn = c.in-Ok.turn in
    let one = c.in-Ok.ensures.ok in
    let e : c.loop-line.lines ≡ line ∷ c.pop_front.new.self = c.in-Some.ensures in (
      i.0 ++ line ∷ [],
      i.1 ∙ ap (λ l. i.0 ++ l) e ∙ sym (append_assoc i.0 (line ∷ []) c.pop_front.new.self),
      subst (HasSubmitted c.args.caller.now c.submit_line.new.caller (i.0 ++ line ∷ [])) (sym c.in-Ok-push_back.ensures.ok)
          (submitted_then c.args.caller.now c.loop-line.caller c.submit_line.new.caller i.0 (line ∷ []) c.loop-line.turns (turn ∷ []) i.2 one),
      subst (λ (config : Config). Each (IsAllowed (kind_of config)) c.pop_front.new.self) (sym one.same.config.0) (subst (Each (IsAllowed (kind_of c.loop-line.caller.view.config))) e i.3).1,
      one.same.table ∙ i.4,
    )

pub returns-in_default-push_back-clause-err : goal.returns-in_default-push_back-clause-err
returns-in_default-push_back-clause-err g c =
    let i = c.loop-line.invariant in
    let line = c.in-Some.line in
    let turn = c.in-Ok.turn in
    let e : c.loop-line.lines ≡ line ∷ c.pop_front.new.self = c.in-Some.ensures in (
      tried_so_far c.args.caller.now c.submit_line.new.caller c.args.lines.now (i.0 ++ line ∷ []) c.pop_front.new.self (c.loop-line.turns ++ turn ∷ [])
          (i.1 ∙ ap (λ l. i.0 ++ l) e ∙ sym (append_assoc i.0 (line ∷ []) c.pop_front.new.self))
          (submitted_then c.args.caller.now c.loop-line.caller c.submit_line.new.caller i.0 (line ∷ []) c.loop-line.turns (turn ∷ []) i.2 c.in-Ok.ensures.ok),
      tt,
    )
