use Rattle.std.proofs.Common.{ℕ, ◌-◌, false, true, List, map, drop, refl, sym, ap, ◌∙◌}
use Rattle.resp_value.specs.View.{data_of}
use Rattle.resp_value.specs.declared.value.Value.{Value}
use Rattle.link_core.specs.Dealing.{Dealing, dealing_on, taken_each}
use Rattle.link_core.proofs.TakeLemmas.{one_taken, none_behind, front_stays, front_within}
use Rattle.link_core.proofs.dealing.take_each.Goals as goal

pub returns-then-ends-clause-taken : goal.returns-then-ends-clause-taken
returns-then-ends-clause-taken c =
    let call = c.args.call in
    let inv = c.values.invariant in
    let says = c.in_ok-ends.ensures in
    let count = ap (λ (n : ℕ). n - call.settled) (c.len.ensures ∙ c.values.out.ok.0) in
    let after = dealing_on c.take_value.new.row (drop call.settled c.take_value.new.out.items) (drop call.noted c.take_value.new.notices.items) true in
    let one = one_taken call.hearing call.ready call.settled call.noted c.values.row c.take_value.new.row c.values.out.items c.take_value.new.out.items c.values.notices.items c.take_value.new.notices.items (c.len.result - call.settled) c.heard_behind-heard.result true (data_of c.in-Some.value)
    inv.settled inv.noted count c.heard_behind-heard.ensures says.row says.out says.notices (sym c.if-ends.true ∙ says.ends) in
    let rest = map data_of c.pop_front.new.self in
    sym (none_behind call.hearing call.ready after rest refl)
    ∙ ap (λ (d : Dealing). taken_each call.hearing call.ready d rest) one
    ∙ ap (λ (vs : List Value). taken_each call.hearing call.ready (dealing_on c.values.row (drop call.settled c.values.out.items) (drop call.noted c.values.notices.items) false) (map data_of vs)) (sym c.in-Some.ensures)
    ∙ inv.taken

pub values-preserved : goal.values-preserved
values-preserved c =
    let call = c.args.call in
    let inv = c.values.invariant in
    let says = c.in_ok-ends.ensures in
    let count = ap (λ (n : ℕ). n - call.settled) (c.len.ensures ∙ c.values.out.ok.0) in
    let one = one_taken call.hearing call.ready call.settled call.noted c.values.row c.take_value.new.row c.values.out.items c.take_value.new.out.items c.values.notices.items c.take_value.new.notices.items (c.len.result - call.settled) c.heard_behind-heard.result false (data_of c.in-Some.value)
    inv.settled inv.noted count c.heard_behind-heard.ensures says.row says.out says.notices (sym c.if-ends.false ∙ says.ends) in
    let rest = map data_of c.pop_front.new.self in
    record {
      settled = front_within call.settled c.values.out.items _ c.take_value.new.out.items inv.settled says.out;
      noted = front_within call.noted c.values.notices.items _ c.take_value.new.notices.items inv.noted says.notices;
      taken = ap (λ (d : Dealing). taken_each call.hearing call.ready d rest) one
          ∙ ap (λ (vs : List Value). taken_each call.hearing call.ready (dealing_on c.values.row (drop call.settled c.values.out.items) (drop call.noted c.values.notices.items) false) (map data_of vs)) (sym c.in-Some.ensures)
          ∙ inv.taken;
      first = front_stays call.settled c.values.out.items _ c.take_value.new.out.items inv.settled says.out ∙ inv.first;
      first_notices = front_stays call.noted c.values.notices.items _ c.take_value.new.notices.items inv.noted says.notices ∙ inv.first_notices;
    }
