use Rattle.std.proofs.Common.{rules, sym, ap, ◌∙◌, subst, ◌≡◌, ◌++◌, [], ◌∷◌}
use Rattle.std.proofs.lemmas.List.{append_assoc}
use Rattle.session_callers.specs.Calls.{IsOf, Gathered}
use Rattle.session_callers.specs.Rule.{Each}
use Rattle.session_callers.proofs.Gathering.{gathers_more, each_split}
use Rattle.session_callers.proofs.closing.gather.Goals as goal

pub loop-next-preserved : goal.loop-next-preserved
loop-next-preserved c =
    let i = c.loop-next.invariant in
    let left = c.pop-in-loop-next.new.self.items in
    let next = c.in-Some-pop.next in
    let divided : c.loop-next.callers.items ≡ left ++ next ∷ [] = search rules in
    let each = each_split (IsOf c.args.board.now.table_id c.args.made) left next (subst (λ l. Each (IsOf c.args.board.now.table_id c.args.made) l) divided i.3) in
    let m = c.merge.ensures in
    let o = m.other in (
      m.same.0 ∙ i.0,
      ap (λ x. x.1) m.joined ∙ i.1,
      (
        next ∷ i.2.0,
        sym (append_assoc left (next ∷ []) i.2.0) ∙ ap (λ l. l ++ i.2.0) (sym divided) ∙ i.2.1,
        subst (λ v. Gathered c.args.made (next ∷ i.2.0) v) (sym (ap (λ x. x.0) m.joined)) (gathers_more c.args.board.now.table_id c.args.made i.2.0 c.loop-next.seat.me.0 next o.0.0 i.2.2 each.1 o.0.1 o.1),
      ),
      each.0,
    )

-- the callers that were taken in are all
pub returns : goal.returns
returns c =
    let i = c.loop-next.invariant in
    let none_left : c.loop-next.callers.items ≡ [] = search rules in
    let all : i.2.0 ≡ c.args.callers.items = ap (λ l. l ++ i.2.0) (sym none_left) ∙ i.2.1 in
    (i.0, i.1, subst (λ l. Gathered c.args.made l c.loop-next.seat.me.0) all i.2.2)
