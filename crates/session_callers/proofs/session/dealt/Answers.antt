use Rattle.std.proofs.Common.{◌≡◌, ◌+◌, ◌-◌, ◌≤◌, List, ◌++◌, length, sym, ap, ◌∙◌, subst, arith}
use Rattle.session_callers.specs.Calls.{Known, founders_at}
use Rattle.session_callers.specs.Rule.{Sat, founder, founders, one_of, rest_of}
use Rattle.session_callers.proofs.Dealing.{as_known, numbers_count, one_is, one_more, rest_is}
use Rattle.session_callers.proofs.session.dealt.Goals as goal

pub deal-one-requires-clause-several : goal.deal-one-requires-clause-several
deal-one-requires-clause-several c =
    let i = c.deals.invariant in
    let test = c.deals-test.true in
    let count : length c.deals.seat.me.0.number ≡ c.deals.left = ap (λ (m : Sat). length m.0.number) i.2 ∙ numbers_count c.deals.number c.deals.left in omega (arith, count, test)

pub deals-preserved : goal.deals-preserved
deals-preserved c =
    let i = c.deals.invariant in
    let o = c.deal-one.ensures in
    let test = c.deals-test.true in
    let sum = i.4 in
    let config = c.args.seat.me.0.config in
    let word = c.args.seat.me.0.word in
    let n = c.deals.number in
    let left = c.deals.left in
    let some : 1 ≤ left = omega (arith, test) in
    let is : c.deals.seat.me.0 ≡ founders config word c.args.made c.args.made n left = ap (λ (m : Sat). m.0) i.2 in
    let rest = ap rest_of is ∙ rest_is config word c.args.made c.args.made n left some in
    let one = ap one_of is ∙ one_is config word c.args.made c.args.made n left some in
    let known = as_known c.caller_of.result c.args.seat.table_id (founder config word c.args.made c.args.made n) (c.caller_of.ensures.table ∙ o.right.0 ∙ i.1) (c.caller_of.ensures.view ∙ ap (λ (m : Sat). m.0) o.right.1 ∙ one) in
    let nothing = ap (λ (m : Sat). m.1) i.2 in (
      (o.same.0 ∙ i.0.0, i.0.1, i.0.2),
      o.same.0 ∙ i.1,
      o.left ∙ (λ j. (rest j, nothing j)),
      omega (arith, test),
      omega (arith, sum, test),
      subst (λ (l : List Known). l ++ founders_at c.args.seat.table_id config word c.args.made (n + 1) (left - 1) ≡ founders_at c.args.seat.table_id config word c.args.made 0 c.args.made) (sym c.in_ok-push.ensures.items)
          (one_more c.args.seat.table_id config word c.args.made n left c.deals.callers.items _ c.caller_of.result known i.5 some),
    )
