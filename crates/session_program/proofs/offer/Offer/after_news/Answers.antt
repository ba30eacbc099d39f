use Rattle.std.proofs.Common.{ap}
use Rattle.driver_model.specs.News.{told}
use Rattle.session_program.proofs.Offers.{again_offer, came_offer}
use Rattle.session_program.proofs.offer.Offer.after_news.Goals as goal

pub returns-in-Came-clause-first : goal.returns-in-Came-clause-first
returns-in-Came-clause-first c l turn h = came_offer c.args.self l turn (told c.args.news) c.in-Came.piece.now (ap told c.in-Came.is) h

pub returns-in-Unrepeated-clause-first : goal.returns-in-Unrepeated-clause-first
returns-in-Unrepeated-clause-first c l turn h = again_offer c.args.self l turn (told c.args.news) (ap told c.in-Unrepeated.is) h
