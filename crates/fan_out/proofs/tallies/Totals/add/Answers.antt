use Rattle.std.proofs.Common.{◌+ℤ◌, to_z, of_z, subst, sym, ◌∙◌}
use Rattle.std.proofs.lemmas.Int.{to_z-of_z}
use Rattle.std.specs.Int.{w128}
use Rattle.std.specs.Prelude.{FitsSigned}
use Rattle.fan_out.specs.Tallies.{number_of}
use Rattle.fan_out.proofs.Keeping.{entered_is, number_found, sum_is}
use Rattle.fan_out.proofs.tallies.Totals.add.Goals as goal

pub overflow_add-had : goal.overflow_add-had
overflow_add-had c =
    let same = number_found c.args.name.now c.self.inside.totals.entries c.args.self.now c.copied.result c.unwrap_or-had.result c.self.view_is (c.copied.ensures ∙ c.get.ensures.value) c.unwrap_or-had.ensures in
    let sum = sum_is c.unwrap_or-had.result c.from.result c.args.number (number_of c.args.name.now c.args.self.now)
    (record { sfits = c.unwrap_or-had.type_inv }) (record { sfits = c.from.type_inv }) c.ranges.number same c.from.ensures in
    subst (FitsSigned w128) (sym sum) c.requires

pub returns : goal.returns
returns c =
    let same = number_found c.args.name.now c.self.inside.totals.entries c.args.self.now c.copied.result c.unwrap_or-had.result c.self.view_is (c.copied.ensures ∙ c.get.ensures.value) c.unwrap_or-had.ensures in
    let sum = sum_is c.unwrap_or-had.result c.from.result c.args.number (number_of c.args.name.now c.args.self.now)
    (record { sfits = c.unwrap_or-had.type_inv }) (record { sfits = c.from.type_inv }) c.ranges.number same c.from.ensures in
    let fits = subst (FitsSigned w128) (sym sum) c.requires in
    entered_is c.self.inside.totals.entries c.insert.new.self.entries c.args.self.now c.in_ok-copy.copy c.args.name.now _ _
    c.self.view_is c.in_ok-copy.ensures.items
    (to_z-of_z w128 (to_z w128 (of_z w128 c.unwrap_or-had.result) +ℤ to_z w128 (of_z w128 c.from.result)) fits ∙ sum)
    c.in_ok-insert.ensures.entries
