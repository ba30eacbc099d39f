use Rattle.std.proofs.Common.{arith, ◌-◌, ap, ◌∙◌}
use Rattle.std.proofs.lemmas.Bool.Decides.{nat_tests}
use Rattle.link_core.specs.Link.{LinkState, last_in}
use Rattle.link_core.proofs.BoundLemmas.{last_at}
use Rattle.link_core.proofs.link.LinkCore.last_queued.Goals as goal

pub returns : goal.returns
returns c =
    last_at c.self.inside.queue c.at.result.now (c.len.result - 1) (grind (arith, nat_tests)) c.at.ensures
    ∙ ap (λ (x : LinkState). last_in x.queue) c.self.view_is
