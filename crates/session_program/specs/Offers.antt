-- What is offered to the first link, by a book.
use Rattle.std.specs.Prelude.{◌≡◌, ℕ, min, length}
use Rattle.legal_trace.specs.Book.{Book}
use Rattle.legal_trace.specs.Ledger.{Ledger, is_over}
use Rattle.session_program.specs.declared.offer.Offer.{Offer}

-- of a link: whether it was asked for, whether it is up, whether it has ended, and how many bytes its offer has
pub record IsOfferIn (o : Offer) (l : Ledger) : Type 0 where
  pub asked : o.asked ≡ l.asked
  pub up : o.up ≡ l.up
  pub over : o.over ≡ is_over l
  pub count : o.count ≡ length l.offer

-- of a book: how many links were asked for, up to two, and that of the first
pub record IsOfferOf (o : Offer) (b : Book) : Type 0 where
  pub links : o.links ≡ min b.links 2
  pub first : IsOfferIn o (b.link 0)
