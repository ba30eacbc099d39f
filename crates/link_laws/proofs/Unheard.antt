-- Nothing but bytes that come is heard.
use Rattle.std.proofs.Common.{◌≡◌, ◌+◌, ℕ, ◌==◌, nat_le, false, ◌||◌, List, [], ◌∷◌, ◌++◌, length, refl, ap, ◌∙◌}
use Rattle.std.specs.List.{AllByRecursion}
use Rattle.containers.proofs.Choices.{chosen}
use Rattle.driver_model.specs.declared.action.Owner.{Owner}
use Rattle.driver_model.specs.News.{took, silence, dropped, failed, shut}
use Rattle.driver_model.specs.Hearing.{hears_messages}
use Rattle.driver_model.specs.declared.news.LinkFault.TheVariants as fault
use Rattle.link_core.specs.declared.message.Queued.{Queued}
use Rattle.link_core.specs.Link.{is_full, enqueued, offered_of, wrote_of}
use Rattle.link_core.specs.Outbox.{can_offer}
use Rattle.legal_trace.specs.Ledger.{Ledger, Line, hears, begins, offers, ends, blank_ledger, ledger, noted, noted_each}
use Rattle.legal_trace.proofs.Ledgers.{noted_append}
use Rattle.link_laws.specs.Starts.{begun, start_from, starting, begins_each}
use Rattle.link_laws.specs.Runs.{Operation, place, begin, start_first, offer, take_up, read, withdraw, fail, drop_stream, shut_down, pass, Run, ends_by, heard, acted, performed, is_read}

-- a line of which nothing is heard
abbrev HearsNothing : Line → Type 0
HearsNothing x = (l : Ledger) → (noted l x).notices ≡ l.notices

-- nor of many
lines_hear_nothing : (l : Ledger) (more : List Line) → AllByRecursion HearsNothing more → (noted_each l more).notices ≡ l.notices
lines_hear_nothing l [] all = refl
lines_hear_nothing l (x ∷ more) all = lines_hear_nothing (noted l x) more all.1 ∙ all.0 l

-- where these are told next
told_hear_nothing : (lines more : List Line) → AllByRecursion HearsNothing more → (ledger (lines ++ more)).notices ≡ (ledger lines).notices
told_hear_nothing lines more all =
    ap (λ (l : Ledger). l.notices) (noted_append blank_ledger lines more) ∙ lines_hear_nothing (ledger lines) more all

-- bytes that are taken
took_nothing : (turn n : ℕ) → HearsNothing (hears turn (took n))
took_nothing turn n l = chosen (λ (x : Ledger). x.notices ≡ l.notices) l.up _ l (λ t. refl) (λ f. refl)

-- messages that start
begins_nothing : (name : ℕ → Owner) (qs : List Queued) → AllByRecursion HearsNothing (begins_each name qs)
begins_nothing name [] = tt
begins_nothing name (q ∷ qs) = ((λ l. refl), begins_nothing name qs)

-- what hears no more of a run
abbrev HeardNoMore : Run → Run → Type 0
HeardNoMore r x = (ledger x.lines).notices ≡ (ledger r.lines).notices

-- each operation but that
acted_unheard : (name : ℕ → Owner) (r : Run) (o : Operation) → is_read o ≡ false → HeardNoMore r (acted name r o)
acted_unheard name r (place q) other = chosen (HeardNoMore r) (is_full r.link || (length q.packed == 0)) r (record r { link = enqueued r.link q }) (λ t. refl) (λ f. refl)
acted_unheard name r begin other = told_hear_nothing r.lines (begins_each name (starting r.link r.link.queue)) (begins_nothing name (starting r.link r.link.queue))
acted_unheard name r (start_first q) other =
    chosen (HeardNoMore r) (length q.packed == 0) r (record r { link = begun r.link q; lines = r.lines ++ begins (start_from name q) ∷ [] })
    (λ t. refl)
    (λ f. told_hear_nothing r.lines (begins (start_from name q) ∷ []) ((λ l. refl), tt))
acted_unheard name r offer other =
    chosen (HeardNoMore r) (can_offer r.link.outbox) (record r { link = offered_of r.link; lines = r.lines ++ offers r.link.outbox.unwritten ∷ [] }) r
    (λ t. told_hear_nothing r.lines (offers r.link.outbox.unwritten ∷ []) ((λ l. refl), tt))
    (λ f. refl)
acted_unheard name r (take_up n) other =
    chosen (HeardNoMore r) (nat_le n r.link.outbox.offered) (record (heard r (took n)) { link = wrote_of r.link n }) r
    (λ t. told_hear_nothing r.lines (hears (r.turn + 1) (took n) ∷ []) (took_nothing (r.turn + 1) n, tt))
    (λ f. refl)
acted_unheard name r (read piece) other = cc
acted_unheard name r (withdraw id) other = refl
acted_unheard name r (fail f) other =
    told_hear_nothing (heard r (failed f)).lines (ends (r.turn + 1) ∷ []) ((λ l. refl), tt) ∙ told_hear_nothing r.lines (hears (r.turn + 1) (failed f) ∷ []) ((λ l. refl), tt)
acted_unheard name r drop_stream other =
    let x = heard r dropped in
    let one : HeardNoMore r x = told_hear_nothing r.lines (hears (r.turn + 1) dropped ∷ []) ((λ l. refl), tt) in
    chosen (HeardNoMore r) (hears_messages r.hearing) (ends_by x fault.Ended) x
    (λ t. told_hear_nothing x.lines (ends (r.turn + 1) ∷ []) ((λ l. refl), tt) ∙ one)
    (λ f. one)
acted_unheard name r shut_down other =
    told_hear_nothing (heard r shut).lines (ends (r.turn + 1) ∷ []) ((λ l. refl), tt) ∙ told_hear_nothing r.lines (hears (r.turn + 1) shut ∷ []) ((λ l. refl), tt)
acted_unheard name r pass other = told_hear_nothing r.lines (hears (r.turn + 1) silence ∷ []) ((λ l. refl), tt)

-- and of any run
pub performed_unheard : (name : ℕ → Owner) (r : Run) (o : Operation) → is_read o ≡ false → (ledger (performed name r o).lines).notices ≡ (ledger r.lines).notices
performed_unheard name r o other = chosen (HeardNoMore r) r.over r (acted name r o) (λ t. refl) (λ f. acted_unheard name r o other)
