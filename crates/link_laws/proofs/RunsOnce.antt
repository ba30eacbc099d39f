-- Through a run, each message whose verdict is wanted is settled once, in order, and the end settles all that are left.
use Rattle.std.proofs.Common.{◌≡◌, ℕ, ◌==◌, nat_le, Bool, true, false, ◌||◌, if◌then◌else◌, List, [], ◌∷◌, ◌++◌, length, refl, sym, ap, ◌∙◌, append_assoc}
use Rattle.std.proofs.lemmas.List.{append-nil}
use Rattle.containers.proofs.Choices.{chosen, if_true, if_false, not_both}
use Rattle.resp_read.specs.Values.{values}
use Rattle.driver_model.specs.Hearing.{felt, hears_messages}
use Rattle.driver_model.specs.declared.hearing.Hearing.{Hearing}
use Rattle.driver_model.specs.declared.action.Owner.{Owner}
use Rattle.driver_model.specs.declared.news.LinkFault.{LinkFault}
use Rattle.driver_model.specs.declared.news.LinkFault.TheVariants as fault
use Rattle.driver_model.specs.News.{came, dropped, failed, shut, took}
use Rattle.link_core.specs.declared.message.Entry.{Entry}
use Rattle.link_core.specs.declared.message.Queued.{Queued}
use Rattle.link_core.specs.declared.message.Settled.{Settled}
use Rattle.link_core.specs.Dealing.{Dealing, dealing_with, taken_each}
use Rattle.link_core.specs.Ends.{row_closed, row_hit, queue_closed}
use Rattle.link_core.specs.Link.{LinkState, Starting, Reading, is_full, enqueued, entry_of, holds_back, started_one, started_each, offered_of, wrote_of, nothing_read, piece_read, came_all, emptied, closed_all}
use Rattle.link_core.specs.Outbox.{can_offer}
use Rattle.legal_trace.specs.Ledger.{begins, offers}
use Rattle.link_laws.specs.Settles.{settled_ids, wanted, awaited_ids, awaited_of}
use Rattle.link_laws.specs.Starts.{begun, start_from}
use Rattle.link_laws.specs.Runs.{Operation, place, begin, start_first, offer, take_up, read, withdraw, fail, drop_stream, shut_down, pass, Run, heard, settling, over_with, ends_by, placed, first_begun, has_come, or_parse, acted, performed, answered_or_wanted, line_with, wanted_first, wanted_by, is_withdraw}
use Rattle.link_laws.proofs.Choices.{chosen_both}
use Rattle.link_laws.proofs.Once.{settled_ids-append, wanted-append, awaited_ids-append, taken_keeps, closed_ids, hit_ids}

-- starts
--
one_keeps : (row : List Entry) (q : Queued) (qs : List Queued) → wanted (row ++ entry_of q ∷ []) ++ awaited_ids qs ≡ wanted row ++ awaited_ids (q ∷ qs)
one_keeps row q qs =
    let own = if q.awaited then q.id ∷ [] else [] in
    ap (λ ns. ns ++ awaited_ids qs) (wanted-append row (entry_of q ∷ []) ∙ ap (λ ns. wanted row ++ ns) (append-nil own)) ∙ append_assoc (wanted row) own (awaited_ids qs)

-- messages that start keep their places in the line
pub starts_keep : (s : Starting) (qs : List Queued) → awaited_of (started_each s qs).link ≡ wanted s.link.row ++ awaited_ids qs
starts_keep s [] = refl
starts_keep s (q ∷ qs) =
    chosen (λ (x : Starting). awaited_of x.link ≡ wanted s.link.row ++ awaited_ids (q ∷ qs)) (holds_back s.link) _ _
    (λ t. refl)
    (λ f. starts_keep (started_one s q) qs ∙ one_keeps s.link.row q qs)

-- bytes
--
-- what is dealt moves no one out of the line
dealt_keeps : (out : List Settled) (row : List Entry) (x : Dealing) (rest : List ℕ) → settled_ids x.out ++ wanted x.row ≡ wanted row → settled_ids (out ++ x.out) ++ (wanted x.row ++ rest) ≡ settled_ids out ++ (wanted row ++ rest)
dealt_keeps out row x rest e =
    ap (λ ns. ns ++ (wanted x.row ++ rest)) (settled_ids-append out x.out)
    ∙ append_assoc (settled_ids out) (settled_ids x.out) (wanted x.row ++ rest)
    ∙ ap (λ ns. settled_ids out ++ ns) (sym (append_assoc (settled_ids x.out) (wanted x.row) rest) ∙ ap (λ ns. ns ++ rest) e)

-- those that bytes settle leave it at its front, in order
pub bytes_keep : (h : Hearing) (ready : Bool) (s : LinkState) (out : List Settled) (piece : List ℕ) → (let x = piece_read h ready s piece in settled_ids (out ++ x.out) ++ awaited_of x.link ≡ settled_ids out ++ awaited_of s)
bytes_keep h ready s out piece =
    let vs = values (s.rest ++ piece) in
    chosen (λ (x : Reading). settled_ids (out ++ x.out) ++ awaited_of x.link ≡ settled_ids out ++ awaited_of s) s.broken (nothing_read s) (came_all h ready s (s.rest ++ piece))
    (λ t. ap (λ (ss : List Settled). settled_ids ss ++ awaited_of s) (append-nil out))
    (λ f. dealt_keeps out s.row (taken_each h ready (dealing_with s.row) vs) (awaited_ids s.queue) (taken_keeps h ready (dealing_with s.row) vs))

-- the end
--
-- a link that ends settles exactly those whose verdict is wanted, in order
over_once : (r : Run) (more : List Settled) → settled_ids more ≡ awaited_of r.link → settled_ids (over_with r (emptied (settling r) more)).settled ≡ settled_ids r.settled ++ awaited_of r.link
over_once r more e = settled_ids-append r.settled more ∙ ap (λ ns. settled_ids r.settled ++ ns) e

-- by a fault
faulted_once : (r : Run) (f : LinkFault) → settled_ids (ends_by r f).settled ≡ settled_ids r.settled ++ awaited_of r.link
faulted_once r f = let felt_so = felt r.hearing f in over_once r (row_hit felt_so r.link.row ++ queue_closed r.link.queue) (hit_ids felt_so r.link.row r.link.queue)

-- and by the shutdown
closed_once : (r : Run) → settled_ids (over_with r (closed_all (settling r))).settled ≡ settled_ids r.settled ++ awaited_of r.link
closed_once r = over_once r (row_closed r.link.row ++ queue_closed r.link.queue) (closed_ids r.link.row r.link.queue)

-- bytes that end the link settle all, and others leave all in line
parse_keeps : (r : Run) (strange : Bool) → answered_or_wanted (or_parse r strange) ≡ answered_or_wanted r
parse_keeps r strange =
    chosen (λ (x : Run). answered_or_wanted x ≡ answered_or_wanted r) (r.link.broken || strange) (ends_by r fault.Parse) r
    (λ t. append-nil (settled_ids (ends_by r fault.Parse).settled) ∙ faulted_once r fault.Parse)
    (λ f. refl)

-- all operations
--
placed_keeps : (r : Run) (q : Queued) → answered_or_wanted (placed r q) ≡ answered_or_wanted r ++ (if is_full r.link || (length q.packed == 0) then [] else (if q.awaited then q.id ∷ [] else []))
placed_keeps r q =
    let own = if q.awaited then q.id ∷ [] else [] in
    chosen_both (λ (x : Run) (ns : List ℕ). answered_or_wanted x ≡ answered_or_wanted r ++ ns) (is_full r.link || (length q.packed == 0)) r (record r { link = enqueued r.link q }) [] own
    (λ t. sym (append-nil (answered_or_wanted r)))
    (λ f. ap (λ ns. settled_ids r.settled ++ (wanted r.link.row ++ ns)) (awaited_ids-append r.link.queue (q ∷ []) ∙ ap (λ ns. awaited_ids r.link.queue ++ ns) (append-nil own))
    ∙ ap (λ ns. settled_ids r.settled ++ ns) (sym (append_assoc (wanted r.link.row) (awaited_ids r.link.queue) own))
    ∙ sym (append_assoc (settled_ids r.settled) (awaited_of r.link) own))

-- the line with these at its end
at_end : (r : Run) (last : List ℕ) → answered_or_wanted r ++ last ≡ line_with r [] last
at_end r last =
    append_assoc (settled_ids r.settled) (awaited_of r.link) last ∙ ap (λ ns. settled_ids r.settled ++ ns) (append_assoc (wanted r.link.row) (awaited_ids r.link.queue) last)

-- and with nobody more
as_it_was : (r : Run) → answered_or_wanted r ≡ line_with r [] []
as_it_was r = sym (append-nil (answered_or_wanted r)) ∙ at_end r []

-- a message that starts at once stands before all that wait
first_keeps : (name : ℕ → Owner) (r : Run) (q : Queued) → answered_or_wanted (first_begun name r q) ≡ line_with r (if length q.packed == 0 then [] else (if q.awaited then q.id ∷ [] else [])) []
first_keeps name r q =
    let own = if q.awaited then q.id ∷ [] else [] in
    chosen_both (λ (x : Run) (ns : List ℕ). answered_or_wanted x ≡ line_with r ns []) (length q.packed == 0) r (record r { link = begun r.link q; lines = r.lines ++ begins (start_from name q) ∷ [] }) [] own
    (λ t. as_it_was r)
    (λ f. ap (λ ns. settled_ids r.settled ++ ns) (one_keeps r.link.row q r.link.queue) ∙ ap (λ ns. settled_ids r.settled ++ (wanted r.link.row ++ (own ++ ns))) (sym (append-nil (awaited_ids r.link.queue))))

-- each operation of a link that has not ended leaves all in line
acted_keeps : (name : ℕ → Owner) (r : Run) (o : Operation) → r.over ≡ false → is_withdraw o ≡ false → answered_or_wanted (acted name r o) ≡ line_with r (wanted_first r o) (wanted_by r o)
acted_keeps name r (place q) g n =
    if_false (λ ns. answered_or_wanted (placed r q) ≡ line_with r [] ns) r.over [] (if is_full r.link || (length q.packed == 0) then [] else (if q.awaited then q.id ∷ [] else [])) g (placed_keeps r q ∙ at_end r _)
acted_keeps name r begin g n = ap (λ ns. settled_ids r.settled ++ ns) (starts_keep (record { link = r.link; out = [] }) r.link.queue) ∙ as_it_was r
acted_keeps name r (start_first q) g n = if_false (λ ns. answered_or_wanted (first_begun name r q) ≡ line_with r ns []) r.over [] (if length q.packed == 0 then [] else (if q.awaited then q.id ∷ [] else [])) g (first_keeps name r q)
acted_keeps name r offer g n = chosen (λ (x : Run). answered_or_wanted x ≡ line_with r [] []) (can_offer r.link.outbox) _ _ (λ t. as_it_was r) (λ f. as_it_was r)
acted_keeps name r (take_up k) g n = chosen (λ (x : Run). answered_or_wanted x ≡ line_with r [] []) (nat_le k r.link.outbox.offered) _ _ (λ t. as_it_was r) (λ f. as_it_was r)
acted_keeps name r (read piece) g n =
    let x = piece_read r.hearing true r.link piece in
    parse_keeps (has_come (heard r (came piece)) x) x.strange ∙ bytes_keep r.hearing true r.link r.settled piece ∙ as_it_was r
acted_keeps name r (withdraw id) g n = cc
acted_keeps name r (fail f) g n = append-nil _ ∙ faulted_once (heard r (failed f)) f ∙ as_it_was r
acted_keeps name r drop_stream g n =
    let x = heard r dropped in
    chosen (λ (y : Run). answered_or_wanted y ≡ line_with r [] []) (hears_messages r.hearing) (ends_by x fault.Ended) x (λ t. append-nil (settled_ids (ends_by x fault.Ended).settled) ∙ faulted_once x fault.Ended ∙ as_it_was r) (λ f. as_it_was r)
acted_keeps name r shut_down g n = append-nil _ ∙ closed_once (heard r shut) ∙ as_it_was r
acted_keeps name r pass g n = as_it_was r

-- and so does each of one that has
over_keeps : (r : Run) (o : Operation) → r.over ≡ true → answered_or_wanted r ≡ line_with r (wanted_first r o) (wanted_by r o)
over_keeps r (place q) g = if_true (λ ns. answered_or_wanted r ≡ line_with r [] ns) r.over [] _ g (as_it_was r)
over_keeps r (start_first q) g = if_true (λ ns. answered_or_wanted r ≡ line_with r ns []) r.over [] _ g (as_it_was r)
over_keeps r _ g = as_it_was r

-- no operation but a withdrawal moves anyone out of the line, a place in the queue is its end, and a start at once stands before
-- all that wait
pub performed_keeps : (name : ℕ → Owner) (r : Run) (o : Operation) → is_withdraw o ≡ false → answered_or_wanted (performed name r o) ≡ line_with r (wanted_first r o) (wanted_by r o)
performed_keeps name r o n = chosen (λ (x : Run). answered_or_wanted x ≡ line_with r (wanted_first r o) (wanted_by r o)) r.over r (acted name r o) (over_keeps r o) (λ g. acted_keeps name r o g n)

-- what an operation that ends a link settles
--
abbrev SettlesAll : Run → Run → Type 0
SettlesAll r x = x.over ≡ true → settled_ids x.settled ≡ settled_ids r.settled ++ awaited_of r.link

-- bytes that end a link settle all
parse_once : (r x : Run) (strange : Bool) → r.over ≡ false → x.over ≡ false → answered_or_wanted x ≡ answered_or_wanted r → SettlesAll r (or_parse x strange)
parse_once r x strange g f e =
    chosen (SettlesAll r) (x.link.broken || strange) (ends_by x fault.Parse) x
    (λ t o. faulted_once x fault.Parse ∙ e)
    (λ n o. absurd (not_both x.over f o))

-- each operation that ends a link settles all
acted_once : (name : ℕ → Owner) (r : Run) (o : Operation) → r.over ≡ false → SettlesAll r (acted name r o)
acted_once name r (place q) g = chosen (SettlesAll r) (is_full r.link || (length q.packed == 0)) r (record r { link = enqueued r.link q }) (λ t o. absurd (not_both r.over g o)) (λ f o. absurd (not_both r.over g o))
acted_once name r begin g = λ o. absurd (not_both r.over g o)
acted_once name r (start_first q) g =
    chosen (SettlesAll r) (length q.packed == 0) r (record r { link = begun r.link q; lines = r.lines ++ begins (start_from name q) ∷ [] }) (λ t o. absurd (not_both r.over g o)) (λ f o. absurd (not_both r.over g o))
acted_once name r offer g = chosen (SettlesAll r) (can_offer r.link.outbox) (record r { link = offered_of r.link; lines = r.lines ++ offers r.link.outbox.unwritten ∷ [] }) r (λ t o. absurd (not_both r.over g o)) (λ f o. absurd (not_both r.over g o))
acted_once name r (take_up k) g = chosen (SettlesAll r) (nat_le k r.link.outbox.offered) (record (heard r (took k)) { link = wrote_of r.link k }) r (λ t o. absurd (not_both r.over g o)) (λ f o. absurd (not_both r.over g o))
acted_once name r (read piece) g = let x = piece_read r.hearing true r.link piece in parse_once r (has_come (heard r (came piece)) x) x.strange g g (bytes_keep r.hearing true r.link r.settled piece)
acted_once name r (withdraw id) g = λ o. absurd (not_both r.over g o)
acted_once name r (fail f) g = λ o. faulted_once (heard r (failed f)) f
acted_once name r drop_stream g =
    let x = heard r dropped in
    chosen (SettlesAll r) (hears_messages r.hearing) (ends_by x fault.Ended) x (λ t o. faulted_once x fault.Ended) (λ f o. absurd (not_both r.over g o))
acted_once name r shut_down g = λ o. closed_once (heard r shut)
acted_once name r pass g = λ o. absurd (not_both r.over g o)

-- what ends a link settles all that it has, in order
pub performed_once : (name : ℕ → Owner) (r : Run) (o : Operation) → r.over ≡ false → (performed name r o).over ≡ true → settled_ids (performed name r o).settled ≡ settled_ids r.settled ++ awaited_of r.link
performed_once name r o g = if_false (SettlesAll r) r.over r (acted name r o) g (acted_once name r o g)
