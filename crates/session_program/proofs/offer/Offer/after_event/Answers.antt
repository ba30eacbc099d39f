use Rattle.std.proofs.Common.{ap, subst}
use Rattle.legal_trace.specs.Ledger.{Ledger, with_news}
use Rattle.session_program.specs.Offers.{IsOfferIn}
use Rattle.session_program.proofs.Offers.{other_news}
use Rattle.session_program.proofs.offer.Offer.after_event.Goals as goal

pub returns-clause-first : goal.returns-clause-first
returns-clause-first c l turn timers uses h =
    other_news c.after_news.result l turn timers uses c.args.kind.now
    (subst (λ (x : Ledger). IsOfferIn c.after_news.result x) (ap (λ news. with_news l turn news) c.news.ensures) (c.after_news.ensures.first l turn h))
