-- What a book has of a link is what was told of it.
use Rattle.std.proofs.Common.{◌≡◌, ℕ, List, [], ◌∷◌, refl, sym, ◌∙◌}
use Rattle.driver_model.specs.declared.action.Action.{Action}
use Rattle.legal_trace.specs.Ledger.{noted_each}
use Rattle.legal_trace.specs.Book.{Book, blank_book, book, entered, entered_each, lines_of, lines_of_each}
use Rattle.legal_laws.specs.Links.{LedgersAreTold}
use Rattle.legal_trace.proofs.Ledgers.{noted_append}

-- behind what is in a book
pub told_behind : (b : Book) (l : ℕ) (trace : List Action) → (entered_each b trace).link l ≡ noted_each (b.link l) (lines_of_each b l trace)
told_behind b l [] = refl
told_behind b l (a ∷ more) = told_behind (entered b a) l more ∙ sym (noted_append (b.link l) (lines_of b l a) (lines_of_each (entered b a) l more))

-- and so for a whole trace
pub ledgers_are_told : (trace : List Action) → LedgersAreTold trace
unfolding book
ledgers_are_told trace l = told_behind blank_book l trace
