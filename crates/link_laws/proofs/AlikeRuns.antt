-- Runs that are alike but for one message's own verdict stay so.
use Rattle.std.proofs.Common.{◌≡◌, inl, ℕ, ◌==◌, nat_le, Bool, true, ◌||◌, List, [], ◌∷◌, ◌++◌, length, refl, sym, ap, ◌∙◌, subst}
use Rattle.containers.proofs.Choices.{chosen}
use Rattle.driver_model.specs.declared.action.Owner.{Owner}
use Rattle.driver_model.specs.declared.news.LinkFault.{LinkFault}
use Rattle.driver_model.specs.declared.news.LinkFault.TheVariants as fault
use Rattle.driver_model.specs.News.{silence, took, came, dropped, failed, shut}
use Rattle.driver_model.specs.Hearing.{felt, hears_messages}
use Rattle.driver_model.specs.declared.hearing.Hearing.{Hearing}
use Rattle.link_core.specs.declared.message.Entry.{Entry}
use Rattle.link_core.specs.declared.message.Queued.{Queued}
use Rattle.link_core.specs.declared.message.Settled.{Settled}
use Rattle.link_core.specs.Link.{LinkState, Settling, is_full, enqueued, entry_of, holds_back, started_all, offered_of, wrote_of, piece_read, closed_all, faulted}
use Rattle.link_core.specs.Outbox.{can_offer}
use Rattle.link_core.specs.Waiting.{without}
use Rattle.legal_trace.specs.Ledger.{begins, offers}
use Rattle.link_laws.specs.Alike.{SameRow, SameLink, SameSettling, others}
use Rattle.link_laws.specs.Starts.{begun, start_from, starting, begins_each}
use Rattle.link_laws.specs.Runs.{Operation, place, begin, start_first, offer, take_up, read, withdraw, fail, drop_stream, shut_down, pass, Run, fresh_run, heard, settling, over_with, ends_by, begun_all, has_come, or_parse, has_read, acted, performed, performed_each, run}
use Rattle.link_laws.proofs.Choices.{chosen_both}
use Rattle.link_laws.proofs.Alike.{others_joined, same_row_refl}
use Rattle.link_laws.proofs.Cancels.{cancel_stays, cancel_alike, begin_alike, start_alike, bytes_alike, close_alike, fault_alike}

-- the same run, but for whether that message's verdict is wanted, and what it was
record SameRun (id : ℕ) (a b : Run) : Type 0 where
  pub link : SameLink id a.link b.link
  pub settled : others id a.settled ≡ others id b.settled
  pub rest : b ≡ record a { link = b.link; settled = b.settled }

-- a run with another row, and other settled messages
abbrev with_row : Run → List Entry → List Settled → Run
with_row a row out = record a { link = record a.link { row = row }; settled = out }

-- links that are the same but for their rows
alike : (id : ℕ) (s : LinkState) (row : List Entry) → SameRow id s.row row → SameLink id s (record s { row = row })
alike id s row h = record { row = h; rest = refl }

-- starts
--
abbrev re_rowed : LinkState → List Entry → LinkState
re_rowed s row = record s { row = row }

-- who starts does not depend on the row
starting_unread : (s : LinkState) (row : List Entry) (qs : List Queued) → starting (re_rowed s row) qs ≡ starting s qs
starting_unread s row [] = refl
starting_unread s row (q ∷ qs) =
    chosen_both (λ (x y : List Queued). x ≡ y) (holds_back s) [] (q ∷ starting (begun (re_rowed s row) q) qs) [] (q ∷ starting (begun s q) qs)
    (λ t. refl)
    (λ f. ap (λ (x : List Queued). q ∷ x) (starting_unread (begun s q) (row ++ entry_of q ∷ []) qs))

-- the same start
begun_alike : (id : ℕ) (name : ℕ → Owner) (a : Run) (row : List Entry) (out : List Settled) → SameRow id a.link.row row → others id a.settled ≡ others id out → SameRun id (begun_all name a) (begun_all name (with_row a row out))
begun_alike id name a row out h o =
    let one = start_alike id a.link (re_rowed a.link row) [] (alike id a.link row h) in
    let t = (started_all (record { link = re_rowed a.link row; out = [] })).link in
    record {
      link = one.link;
      settled = o;
      rest = ap (λ (qs : List Queued). record a { link = t; lines = a.lines ++ begins_each name qs; settled = out }) (starting_unread a.link row a.link.queue);
    }

-- the end
--
over_alike : (id : ℕ) (a : Run) (row : List Entry) (out : List Settled) (d e : Settling) → SameSettling id d e → SameRun id (over_with a d) (over_with (with_row a row out) e)
over_alike id a row out d e h = record { link = h.link; settled = h.out; rest = refl }

-- by a fault
faulted_alike : (id : ℕ) (a : Run) (row : List Entry) (out : List Settled) (f : LinkFault) → SameRow id a.link.row row → others id a.settled ≡ others id out → SameRun id (ends_by a f) (ends_by (with_row a row out) f)
faulted_alike id a row out f h o =
    let felt_so = felt a.hearing f in
    over_alike id a row out (faulted (settling a) felt_so) (faulted (settling (with_row a row out)) felt_so) (fault_alike id felt_so a.link (re_rowed a.link row) a.settled out (alike id a.link row h) o)

-- and by the shutdown
closed_alike : (id : ℕ) (a : Run) (row : List Entry) (out : List Settled) → SameRow id a.link.row row → others id a.settled ≡ others id out
    → SameRun id (over_with a (closed_all (settling a))) (over_with (with_row a row out) (closed_all (settling (with_row a row out))))
closed_alike id a row out h o =
    over_alike id a row out (closed_all (settling a)) (closed_all (settling (with_row a row out))) (close_alike id a.link (re_rowed a.link row) a.settled out (alike id a.link row h) o)

-- bytes
--
parse_alike : (id : ℕ) (a : Run) (row : List Entry) (out : List Settled) (strange : Bool) → SameRow id a.link.row row → others id a.settled ≡ others id out → SameRun id (or_parse a strange) (or_parse (with_row a row out) strange)
parse_alike id a row out strange h o =
    chosen_both (SameRun id) (a.link.broken || strange) (ends_by a fault.Parse) a (ends_by (with_row a row out) fault.Parse) (with_row a row out)
    (λ t. faulted_alike id a row out fault.Parse h o)
    (λ f. record { link = alike id a.link row h; settled = o; rest = refl })

-- the same bytes come
read_alike : (id : ℕ) (a : Run) (row : List Entry) (out : List Settled) (piece : List ℕ) → SameRow id a.link.row row → others id a.settled ≡ others id out → SameRun id (has_read a piece) (has_read (with_row a row out) piece)
read_alike id a row out piece h o =
    let d = piece_read a.hearing true a.link piece in
    let e = piece_read a.hearing true (re_rowed a.link row) piece in
    let x = has_come (heard a (came piece)) d in
    let same = (bytes_alike id a.hearing true a.link (re_rowed a.link row) piece (alike id a.link row h) (inl refl)).0 in
    subst (λ (s : LinkState). SameRun id (or_parse x d.strange) (or_parse (record x { link = s; settled = out ++ e.out }) e.strange)) (sym same.link.rest)
    (subst (λ (b : Bool). SameRun id (or_parse x d.strange) (or_parse (with_row x e.link.row (out ++ e.out)) b)) same.strange
    (parse_alike id x e.link.row (out ++ e.out) d.strange same.link.row (others_joined id a.settled d.out out e.out o same.out)))

-- all operations
--
-- with another row, whatever it is
same_with : (id : ℕ) (a : Run) (row : List Entry) (out : List Settled) → SameRow id a.link.row row → others id a.settled ≡ others id out → SameRun id a (with_row a row out)
same_with id a row out h o = record { link = alike id a.link row h; settled = o; rest = refl }

-- one operation of links that have not ended
acted_alike : (id : ℕ) (name : ℕ → Owner) (a : Run) (row : List Entry) (out : List Settled) (op : Operation) → SameRow id a.link.row row → others id a.settled ≡ others id out
    → SameRun id (acted name a op) (acted name (with_row a row out) op)
acted_alike id name a row out (place q) h o =
    chosen_both (SameRun id) (is_full a.link || (length q.packed == 0)) a (record a { link = enqueued a.link q }) (with_row a row out) (record (with_row a row out) { link = enqueued (re_rowed a.link row) q })
    (λ t. same_with id a row out h o)
    (λ f. same_with id (record a { link = enqueued a.link q }) row out h o)
acted_alike id name a row out begin h o = begun_alike id name a row out h o
acted_alike id name a row out (start_first q) h o =
    let more = a.lines ++ begins (start_from name q) ∷ [] in
    chosen_both (SameRun id) (length q.packed == 0) a (record a { link = begun a.link q; lines = more }) (with_row a row out) (record (with_row a row out) { link = begun (re_rowed a.link row) q; lines = more })
    (λ t. same_with id a row out h o)
    (λ f. record { link = begin_alike id a.link (re_rowed a.link row) q (alike id a.link row h); settled = o; rest = refl })
acted_alike id name a row out offer h o =
    let more = a.lines ++ offers a.link.outbox.unwritten ∷ [] in
    chosen_both (SameRun id) (can_offer a.link.outbox) (record a { link = offered_of a.link; lines = more }) a (record (with_row a row out) { link = offered_of (re_rowed a.link row); lines = more }) (with_row a row out)
    (λ t. same_with id (record a { link = offered_of a.link; lines = more }) row out h o)
    (λ f. same_with id a row out h o)
acted_alike id name a row out (take_up n) h o =
    let next = record (heard a (took n)) { link = wrote_of a.link n } in
    chosen_both (SameRun id) (nat_le n a.link.outbox.offered) next a (with_row next row out) (with_row a row out)
    (λ t. same_with id next row out h o)
    (λ f. same_with id a row out h o)
acted_alike id name a row out (read piece) h o = read_alike id a row out piece h o
acted_alike id name a row out drop_stream h o =
    let x = heard a dropped in
    chosen_both (SameRun id) (hears_messages a.hearing) (ends_by x fault.Ended) x (ends_by (with_row x row out) fault.Ended) (with_row x row out)
    (λ t. faulted_alike id x row out fault.Ended h o)
    (λ f. same_with id x row out h o)
acted_alike id name a row out (withdraw other) h o = record { link = cancel_alike id other a.link (re_rowed a.link row) (alike id a.link row h); settled = o; rest = refl }
acted_alike id name a row out (fail f) h o = faulted_alike id (heard a (failed f)) row out f h o
acted_alike id name a row out shut_down h o = closed_alike id (heard a shut) row out h o
acted_alike id name a row out pass h o = same_with id (heard a silence) row out h o

-- one operation
with_alike : (id : ℕ) (name : ℕ → Owner) (a : Run) (row : List Entry) (out : List Settled) (op : Operation) → SameRow id a.link.row row → others id a.settled ≡ others id out
    → SameRun id (performed name a op) (performed name (with_row a row out) op)
with_alike id name a row out op h o =
    chosen_both (SameRun id) a.over a (acted name a op) (with_row a row out) (acted name (with_row a row out) op) (λ t. same_with id a row out h o) (λ f. acted_alike id name a row out op h o)

-- the same run, with its row and its settled messages written out
row_is : (id : ℕ) (a b : Run) → SameRun id a b → b ≡ with_row a b.link.row b.settled
row_is id a b h = h.rest ∙ ap (λ (s : LinkState). record a { link = s; settled = b.settled }) h.link.rest

-- one operation of runs that are alike
performed_alike : (id : ℕ) (name : ℕ → Owner) (a b : Run) (op : Operation) → SameRun id a b → SameRun id (performed name a op) (performed name b op)
performed_alike id name a b op h = subst (λ (x : Run). SameRun id (performed name a op) (performed name x op)) (sym (row_is id a b h)) (with_alike id name a b.link.row b.settled op h.link.row h.settled)

-- operations one after another
each_alike : (id : ℕ) (name : ℕ → Owner) (a b : Run) (ops : List Operation) → SameRun id a b → SameRun id (performed_each name a ops) (performed_each name b ops)
each_alike id name a b [] h = h
each_alike id name a b (op ∷ ops) h = each_alike id name (performed name a op) (performed name b op) ops (performed_alike id name a b op h)

-- one more withdrawal, of a message that has no place in the queue
--
withdrawn_alike : (id : ℕ) (name : ℕ → Owner) (a : Run) → without a.link.queue id ≡ a.link.queue → SameRun id a (performed name a (withdraw id))
withdrawn_alike id name a left =
    chosen (SameRun id a) a.over a (acted name a (withdraw id))
    (λ t. same_with id a a.link.row a.settled (same_row_refl id a.link.row) refl)
    (λ f. record { link = cancel_stays id a.link left; settled = refl; rest = refl })

-- operations, and then others
each-append : (name : ℕ → Owner) (r : Run) (xs ys : List Operation) → performed_each name r (xs ++ ys) ≡ performed_each name (performed_each name r xs) ys
each-append name r [] ys = refl
each-append name r (x ∷ xs) ys = each-append name (performed name r x) xs ys

-- what two runs tell and settle that differ by one message's own verdict
abbrev pub SameButFor : ℕ → Run → Run → Type 0
SameButFor id a b = (a.lines ≡ b.lines) × (others id a.settled ≡ others id b.settled)

-- runs that are alike tell the same
same_told : (id : ℕ) (a b : Run) → SameRun id a b → SameButFor id a b
same_told id a b h = (sym (ap (λ (x : Run). x.lines) h.rest), h.settled)

-- a run with that withdrawal, and the run without it
pub cancel_apart : (name : ℕ → Owner) (h : Hearing) (size boundary id : ℕ) (ops more : List Operation) → without (run name h size boundary ops).link.queue id ≡ (run name h size boundary ops).link.queue
    → SameButFor id (run name h size boundary (ops ++ more)) (run name h size boundary (ops ++ withdraw id ∷ more))
unfolding run
cancel_apart name h size boundary id ops more left =
    let r = performed_each name (fresh_run h size boundary) ops in
    let same = each_alike id name r (performed name r (withdraw id)) more (withdrawn_alike id name r left) in
    subst (λ (x : Run). SameButFor id x (run name h size boundary (ops ++ withdraw id ∷ more))) (sym (each-append name (fresh_run h size boundary) ops more))
    (subst (λ (x : Run). SameButFor id (performed_each name r more) x) (sym (each-append name (fresh_run h size boundary) ops (withdraw id ∷ more))) (same_told id (performed_each name r more) (performed_each name (performed name r (withdraw id)) more) same))
