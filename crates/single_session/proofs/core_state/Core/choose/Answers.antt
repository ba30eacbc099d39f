use Rattle.std.proofs.Common.{◌^◌, ◌<◌, sym, subst}
use Rattle.single_session.specs.declared.core_state.Core.{Core}
use Rattle.single_session.specs.Generations.{comeback_in, IsCounted, IsRestable}
use Rattle.single_session.proofs.Comebacks.{counted_heeding, suits_in, restable}
use Rattle.single_session.proofs.core_state.Core.choose.Goals as goal

pub comeback-requires-clause-counted : goal.comeback-requires-clause-counted
comeback-requires-clause-counted c = subst IsCounted (sym c.in_ok-heed.ensures) (counted_heeding c.args.self.now c.args.event.now c.args.acts.now c.requires.counted)

pub comeback-requires-clause-links : goal.comeback-requires-clause-links
comeback-requires-clause-links c = subst (λ (x : Core). x.links < 2 ^ 32) (sym c.in_ok-heed.ensures) c.requires.links

pub returns-clause-attempts : goal.returns-clause-attempts
returns-clause-attempts c =
    let h = c.heed.new.self in
    let counted = subst IsCounted (sym c.in_ok-heed.ensures) (counted_heeding c.args.self.now c.args.event.now c.args.acts.now c.requires.counted) in
    let links = subst (λ (x : Core). x.links < 2 ^ 32) (sym c.in_ok-heed.ensures) c.requires.links in
    subst IsRestable (sym c.comeback.ensures) (restable h (comeback_in h.manager c.wakes-woken.result c.args.over h c.args.acts.now) counted links (suits_in h.manager c.wakes-woken.result c.args.over h c.args.acts.now))
