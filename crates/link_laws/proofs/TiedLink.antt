-- What ties a link to its ledger, and what each call makes of both.
use Rattle.std.proofs.Common.{◌≡◌, ◌≢◌, if◌then◌else◌, ◌⊎◌, inl, inr, ℕ, zero, suc, ◌+◌, ◌<◌, ◌≤◌, ◌==◌, Bool, true, false, ◌&&◌, not, List, [], ◌∷◌, ◌++◌, length, take, drop, Option, None, refl, sym, ap, ◌∙◌, subst, append_assoc, arith, length-append, length-take}
use Rattle.std.specs.List.{AllByRecursion}
use Rattle.std.proofs.Math.Seq.{drop-append_seam}
use Rattle.std.proofs.lemmas.List.{take-append-le, take_all, take-take, take-append-drop, length_push}
use Rattle.containers.proofs.Choices.{left_if, by_test, chosen, if_true, if_false, both_left, both_right, eq_from, ne_from, ne_test}
use Rattle.resp_read.specs.Values.{values, left_over, is_spoiled}
use Rattle.resp_read.proofs.ValueLaws.{values-empty, left_over-settled}
use Rattle.connection_info.specs.declared.address.RedisConnectionInfo.{RedisConnectionInfo}
use Rattle.credentials.specs.Credentials.{Credentials}
use Rattle.driver_model.specs.declared.action.Owner.{Owner}
use Rattle.driver_model.specs.declared.hearing.Hearing.{Hearing}
use Rattle.redis_error.specs.declared.fault_kind.FaultKind.{FaultKind}
use Rattle.redis_error.specs.declared.redis_error.RedisError.TheVariants as error
use Rattle.driver_model.specs.News.{News, silence, connected, refused, overdue, took, came, failed, authorized, denied, deserted, renewed, unrenewed, late, unrepeated, dropped, shut}
use Rattle.link_core.specs.declared.message.Entry.{Entry}
use Rattle.link_core.specs.declared.message.Queued.{Queued}
use Rattle.link_core.specs.declared.message.Settled.{Settled}
use Rattle.link_core.specs.declared.message.Started.{Started}
use Rattle.link_core.specs.Dealing.{Dealing, dealing_with, taken_each}
use Rattle.link_core.specs.Link.{LinkState, Starting, fresh, entry_of, enqueued, holds_back, started_one, started_each, offered_of, wrote_of, Reading, cancelled, nothing_read, read_on, read_with, came_all, piece_read, emptied}
use Rattle.link_core.specs.Outbox.{can_offer}
use Rattle.link_core.specs.Row.{silent, silenced}
use Rattle.link_core.specs.Waiting.{without}
use Rattle.legal_trace.specs.Ledger.{Start, End, Ledger, Sourced, unsourced, ended, asks, hears, begins, offers, sources, times, repeats_timed, ends, is_repeating, unrepeated_by, authorized_by, awaits_credentials, may_renew, renewed_by, unrenewed_by, lost_by, is_renewal_open, blank_ledger, is_over, dials, refused_in, reach, bytes_came, values_came, noted, noted_each, joined, unwritten, IsOffered, MayNote, AllNoted}
use Rattle.legal_trace.proofs.Came.{bytes_are, holds_came, value_keeps, values_keep}
use Rattle.legal_trace.proofs.Ledgers.{joined_more}
use Rattle.link_laws.specs.Starts.{start_from, begun, starting, begins_each}
use Rattle.link_laws.proofs.Choices.{chosen_both}
use Rattle.link_laws.proofs.Rows.{open_of, open_list, open_rows, open_list-append, open_rows-start, reach-push}
use Rattle.link_laws.proofs.Taken.{IsTaken, TakeAlike, none_taken, values_taken}

-- a start that has bytes
abbrev pub HasBytes : Start → Type 0
HasBytes s = s.bytes ≢ []

-- the bytes taken and those unwritten are those of the starts; the offer is the front of the unwritten, and no longer; what
-- was read of the next value, and whether it can begin none; how many started; no more was dealt than the starts take; each
-- start has bytes; and until the link ends, its row is what the starts still take
pub record TiedLink (name : ℕ → Owner) (l : Ledger) (s : LinkState) : Type 0 where
  pub sent : l.taken ++ s.outbox.unwritten ≡ joined l.starts
  pub offer : l.offer ≡ take s.outbox.offered s.outbox.unwritten
  pub bound : s.outbox.offered ≤ length s.outbox.unwritten
  pub rest : l.rest ≡ s.rest
  pub broken : s.broken ≡ is_spoiled s.rest
  pub started : s.started ≡ length l.starts
  pub within : length l.dealt ≤ reach l.starts l.dealt
  pub bytes : AllByRecursion HasBytes l.starts
  pub row : l.end ≡ None → open_list name s.row ≡ open_rows l.starts l.dealt

-- a new link
--
pub fresh_tied : (name : ℕ → Owner) (size boundary : ℕ) → TiedLink name blank_ledger (fresh size boundary)
fresh_tied name size boundary = record {
  sent = refl;
  offer = refl;
  bound = omega arith;
  rest = refl;
  broken = sym values-empty.2;
  started = refl;
  within = omega arith;
  bytes = tt;
  row = λ e. refl;
}

-- what changes no bytes and no starts
--
-- whether it is asked for, up or over, what it was told last, its queue, and the names and verdicts of its row
retied : (name other : ℕ → Owner) (l : Ledger) (s : LinkState) (asked up : Bool) (end : Option End) (news : News) (queue : List Queued) (row : List Entry) → TiedLink name l s
    → (end ≡ None → open_list other row ≡ open_rows l.starts l.dealt)
    → TiedLink other (record l { asked = asked; up = up; end = end; heard = news }) (record s { queue = queue; row = row })
retied name other l s asked up end news queue row h rows = record {
  sent = h.sent;
  offer = h.offer;
  bound = h.bound;
  rest = h.rest;
  broken = h.broken;
  started = h.started;
  within = h.within;
  bytes = h.bytes;
  row = rows;
}

-- what is told without a change of the link
--
-- whether it is asked for, up, and what it was told last
pub told_tied : (name : ℕ → Owner) (l : Ledger) (s : LinkState) (asked up : Bool) (news : News) → TiedLink name l s → TiedLink name (record l { asked = asked; up = up; heard = news }) s
told_tied name l s asked up news h = retied name name l s asked up l.end news s.queue s.row h h.row

-- what is to be said to its server, and what is known of its credentials
pub said_tied : (name : ℕ → Owner) (l : Ledger) (s : LinkState) (info : RedisConnectionInfo) (creds : Sourced) (news : News) → TiedLink name l s → TiedLink name (record l { info = info; creds = creds; heard = news }) s
said_tied name l s info creds news h = record {
  sent = h.sent;
  offer = h.offer;
  bound = h.bound;
  rest = h.rest;
  broken = h.broken;
  started = h.started;
  within = h.within;
  bytes = h.bytes;
  row = h.row;
}

-- a source of credentials is asked for
pub sourced_tied : (name : ℕ → Owner) (l : Ledger) (s : LinkState) → TiedLink name l s → TiedLink name (noted l sources) s
sourced_tied name l s h = said_tied name l s l.info (record l.creds { asked = true; renews = l.creds.asked }) l.heard h

-- and so is a timer for new ones
pub timed_tied : (name : ℕ → Owner) (l : Ledger) (s : LinkState) → TiedLink name l s → TiedLink name (noted l times) s
timed_tied name l s h = said_tied name l s l.info (record l.creds { timed = l.creds.timed + 1 }) l.heard h

-- and one for what is subscribed again
pub repeats_timed_tied : (name : ℕ → Owner) (l : Ledger) (s : LinkState) → TiedLink name l s → TiedLink name (noted l repeats_timed) s
repeats_timed_tied name l s h = record { sent = h.sent; offer = h.offer; bound = h.bound; rest = h.rest; broken = h.broken; started = h.started; within = h.within; bytes = h.bytes; row = h.row }

-- the time for that is over
pub unrepeated_tied : (name : ℕ → Owner) (l : Ledger) (s : LinkState) (turn : ℕ) → TiedLink name l s → TiedLink name (noted l (hears turn unrepeated)) s
unrepeated_tied name l s turn h =
    let k = told_tied name l s l.asked l.up unrepeated h in
    chosen (λ (x : Ledger). TiedLink name (record x { heard = unrepeated }) s) (is_repeating l) (unrepeated_by l) l
    (λ t. record { sent = k.sent; offer = k.offer; bound = k.bound; rest = k.rest; broken = k.broken; started = k.started; within = k.within; bytes = k.bytes; row = k.row })
    (λ f. k)

-- credentials come
pub authorized_tied : (name : ℕ → Owner) (l : Ledger) (s : LinkState) (turn : ℕ) (c : Credentials) → TiedLink name l s → TiedLink name (noted l (hears turn (authorized c))) s
authorized_tied name l s turn c h =
    let m = authorized_by l c in
    chosen (λ (x : Ledger). TiedLink name (record x { heard = authorized c }) s) (awaits_credentials l) m l
    (λ t. said_tied name l s m.info m.creds (authorized c) h)
    (λ f. told_tied name l s l.asked l.up (authorized c) h)

-- where news may change what is known of the credentials alone
creds_tied : (name : ℕ → Owner) (l : Ledger) (s : LinkState) (does : Bool) (creds : Sourced) (news : News) → TiedLink name l s → TiedLink name (record (if does then record l { creds = creds } else l) { heard = news }) s
creds_tied name l s does creds news h =
    chosen (λ (x : Ledger). TiedLink name (record x { heard = news }) s) does (record l { creds = creds }) l
    (λ t. said_tied name l s l.info creds news h)
    (λ f. told_tied name l s l.asked l.up news h)

-- new ones come
pub renewed_tied : (name : ℕ → Owner) (l : Ledger) (s : LinkState) (turn : ℕ) (c : Credentials) → TiedLink name l s → TiedLink name (noted l (hears turn (renewed c))) s
renewed_tied name l s turn c h = creds_tied name l s (may_renew l) (renewed_by l c).creds (renewed c) h

-- no more of them come
pub unrenewed_tied : (name : ℕ → Owner) (l : Ledger) (s : LinkState) (turn : ℕ) → TiedLink name l s → TiedLink name (noted l (hears turn unrenewed)) s
unrenewed_tied name l s turn h = creds_tied name l s l.up (unrenewed_by l).creds unrenewed h

-- the time for some of them is over
pub late_tied : (name : ℕ → Owner) (l : Ledger) (s : LinkState) (turn k : ℕ) → TiedLink name l s → TiedLink name (noted l (hears turn (late k))) s
late_tied name l s turn k h = creds_tied name l s (l.up && is_renewal_open l k) (lost_by l).creds (late k) h

-- its connect is asked for
pub asked_tied : (name : ℕ → Owner) (l : Ledger) (info : RedisConnectionInfo) (wanted : Bool) (what : Hearing) (last again : Bool) (s : LinkState) → TiedLink name l s → TiedLink name (noted l (asks info wanted what last again)) s
asked_tied name l info wanted what last again s h =
    let k = said_tied name l s info (unsourced wanted) l.heard h in
    record { sent = k.sent; offer = k.offer; bound = k.bound; rest = k.rest; broken = k.broken; started = k.started; within = k.within; bytes = k.bytes; row = k.row }

-- and succeeds
pub connected_tied : (name : ℕ → Owner) (l : Ledger) (s : LinkState) (turn : ℕ) → TiedLink name l s → TiedLink name (noted l (hears turn connected)) s
connected_tied name l s turn h =
    chosen (λ (x : Ledger). TiedLink name (record x { heard = connected }) s) (is_over l) l (record l { up = true })
    (λ t. told_tied name l s l.asked l.up connected h)
    (λ f. told_tied name l s l.asked true connected h)

-- a turn that isn't its own, a fault, and the shutdown
pub silent_tied : (name : ℕ → Owner) (l : Ledger) (s : LinkState) (turn : ℕ) → TiedLink name l s → TiedLink name (noted l (hears turn silence)) s
silent_tied name l s turn h = told_tied name l s l.asked l.up silence h

-- its connect fails, which ends it where it isn't answered
pub refused_tied : (name : ℕ → Owner) (l : Ledger) (s : LinkState) (turn : ℕ) (f : FaultKind) → TiedLink name l s → TiedLink name (noted l (hears turn (refused f))) s
refused_tied name l s turn f h =
    let m = refused_in l turn (error.Io f) in
    chosen (λ (x : Ledger). TiedLink name (record x { heard = refused f }) s) (dials l) m l
    (λ t. retied name name l s l.asked l.up m.end (refused f) s.queue s.row h (λ e. cc))
    (λ t. told_tied name l s l.asked l.up (refused f) h)

-- a link that isn't up hears of no bytes
pub unheard_tied : (name : ℕ → Owner) (l : Ledger) (s : LinkState) (turn : ℕ) (news : News) → l.up ≡ false → TiedLink name l s → TiedLink name (noted l (hears turn news)) s
unheard_tied name l s turn silence f h = silent_tied name l s turn h
unheard_tied name l s turn connected f h = connected_tied name l s turn h
unheard_tied name l s turn (refused why) f h = refused_tied name l s turn why h
unheard_tied name l s turn overdue f h = told_tied name l s l.asked l.up overdue h
unheard_tied name l s turn (took count) f h = if_false (λ (x : Ledger). TiedLink name (record x { heard = took count }) s) l.up _ l f (told_tied name l s l.asked l.up (took count) h)
unheard_tied name l s turn (came piece) f h = if_false (λ (x : Ledger). TiedLink name (record x { heard = came piece }) s) l.up _ l f (told_tied name l s l.asked l.up (came piece) h)
unheard_tied name l s turn (failed why) f h = told_tied name l s l.asked l.up (failed why) h
unheard_tied name l s turn (authorized c) f h = authorized_tied name l s turn c h
unheard_tied name l s turn (denied text) f h = told_tied name l s l.asked l.up (denied text) h
unheard_tied name l s turn deserted f h = told_tied name l s l.asked l.up deserted h
unheard_tied name l s turn (renewed c) f h = renewed_tied name l s turn c h
unheard_tied name l s turn unrenewed f h = unrenewed_tied name l s turn h
unheard_tied name l s turn (late k) f h = late_tied name l s turn k h
unheard_tied name l s turn unrepeated f h = unrepeated_tied name l s turn h
unheard_tied name l s turn dropped f h = told_tied name l s l.asked l.up dropped h
unheard_tied name l s turn shut f h = told_tied name l s l.asked l.up shut h

-- what changes the link alone
--
pub queue_tied : (name : ℕ → Owner) (l : Ledger) (s : LinkState) (queue : List Queued) → TiedLink name l s → TiedLink name l (record s { queue = queue })
queue_tied name l s queue h = retied name name l s l.asked l.up l.end l.heard queue s.row h h.row

-- a message takes a place in the queue
pub enqueued_tied : (name : ℕ → Owner) (l : Ledger) (s : LinkState) (q : Queued) → TiedLink name l s → TiedLink name l (enqueued s q)
enqueued_tied name l s q h = queue_tied name l s (s.queue ++ q ∷ []) h

-- a row is the same where a verdict is not wanted any more
silenced_open : (name : ℕ → Owner) (row : List Entry) (id : ℕ) → open_list name (silenced row id) ≡ open_list name row
silenced_open name [] id = refl
silenced_open name (e ∷ es) id =
    chosen (λ (x : List Entry). open_list name x ≡ open_list name (e ∷ es)) (e.id == id) (silent e ∷ es) (e ∷ silenced es id)
    (λ t. refl)
    (λ f. ap (λ os. open_of name e ∷ os) (silenced_open name es id))

-- the caller of a message has gone
pub cancelled_tied : (name : ℕ → Owner) (l : Ledger) (s : LinkState) (id : ℕ) → TiedLink name l s → TiedLink name l (cancelled s id)
cancelled_tied name l s id h = retied name name l s l.asked l.up l.end l.heard (without s.queue id) (silenced s.row id) h (λ e. silenced_open name s.row id ∙ h.row e)

-- names that are the same for each message of a row
abbrev pub SameNames : (ℕ → Owner) → (ℕ → Owner) → List Entry → Type 0
SameNames name other row = AllByRecursion (λ (e : Entry). name e.id ≡ other e.id) row

-- where one message gets a name that no message of the row has
pub one_named : (name : ℕ → Owner) (id : ℕ) (who : Owner) (row : List Entry) → AllByRecursion (λ (e : Entry). e.id ≢ id) row → SameNames name (λ n. if n == id then who else name n) row
one_named name id who [] all = tt
one_named name id who (e ∷ es) all = (sym (left_if (e.id == id) who (name e.id) (ne_test e.id id all.0)), one_named name id who es all.1)

-- a row is the same by names that are the same
named_open : (name other : ℕ → Owner) (row : List Entry) → SameNames name other row → open_list name row ≡ open_list other row
named_open name other [] all = refl
named_open name other (e ∷ es) all = (λ i. record { owner = all.0 i; shape = e.shape; got = e.got } ∷ named_open name other es all.1 i)

-- the names of other messages are of no account
pub named_tied : (name other : ℕ → Owner) (l : Ledger) (s : LinkState) → SameNames name other s.row → TiedLink name l s → TiedLink other l s
named_tied name other l s same h = retied name other l s l.asked l.up l.end l.heard s.queue s.row h (λ e. sym (named_open name other s.row same) ∙ h.row e)

-- messages start
--
-- what holds of each holds of one more of which it holds
pub all_push : {X : Type 0} (P : X → Type 0) (xs : List X) (x : X) → AllByRecursion P xs → P x → AllByRecursion P (xs ++ x ∷ [])
all_push P [] x all p = (p, tt)
all_push P (y ∷ xs) x all p = (all.0, all_push P xs x all.1 p)

-- a message of a queue that has bytes
abbrev pub IsPacked : Queued → Type 0
IsPacked q = q.packed ≢ []

-- a message starts, behind all others
pub begun_tied : (name : ℕ → Owner) (l : Ledger) (s : LinkState) (q : Queued) → IsPacked q → TiedLink name l s → TiedLink name (noted l (begins (start_from name q))) (begun s q)
begun_tied name l s q some h = record {
  sent = sym (append_assoc l.taken s.outbox.unwritten q.packed) ∙ ap (λ bs. bs ++ q.packed) h.sent ∙ sym (joined_more l.starts (start_from name q));
  offer = h.offer ∙ sym (take-append-le s.outbox.offered s.outbox.unwritten q.packed h.bound);
  bound = omega (arith, h.bound, length-append s.outbox.unwritten q.packed);
  rest = h.rest;
  broken = h.broken;
  started = omega (arith, h.started, length_push l.starts (start_from name q));
  within = omega (arith, h.within, reach-push l.starts l.dealt (start_from name q));
  bytes = all_push HasBytes l.starts (start_from name q) h.bytes some;
  row = λ e. open_list-append name s.row (entry_of q) ∙ ap (λ os. os ++ open_of name (entry_of q) ∷ []) (h.row e) ∙ sym (open_rows-start l.starts l.dealt (start_from name q) h.within);
}

-- all that may start
pub started_tied : (name : ℕ → Owner) (l : Ledger) (s : LinkState) (out : List Started) (qs : List Queued) → AllByRecursion IsPacked qs → TiedLink name l s
    → TiedLink name (noted_each l (begins_each name (starting s qs))) (started_each (record { link = s; out = out }) qs).link
started_tied name l s out [] all h = queue_tied name l s [] h
started_tied name l s out (q ∷ qs) all h =
    let next = started_one (record { link = s; out = out }) q in
    chosen_both (λ (x : List Queued) (y : Starting). TiedLink name (noted_each l (begins_each name x)) y.link) (holds_back s) [] (q ∷ starting (begun s q) qs)
    (record { link = record s { queue = q ∷ qs }; out = out }) (started_each next qs)
    (λ t. queue_tied name l s (q ∷ qs) h)
    (λ f. started_tied name (noted l (begins (start_from name q))) next.link next.out qs all.1 (begun_tied name l s q all.0 h))

-- those that start are the front of the queue, and the others stay
pub starting_front : (s : LinkState) (out : List Started) (qs : List Queued) → starting s qs ++ (started_each (record { link = s; out = out }) qs).link.queue ≡ qs
starting_front s out [] = refl
starting_front s out (q ∷ qs) =
    let next = started_one (record { link = s; out = out }) q in
    chosen_both (λ (x : List Queued) (y : Starting). x ++ y.link.queue ≡ q ∷ qs) (holds_back s) [] (q ∷ starting (begun s q) qs)
    (record { link = record s { queue = q ∷ qs }; out = out }) (started_each next qs)
    (λ t. refl)
    (λ f. ap (λ (x : List Queued). q ∷ x) (starting_front next.link next.out qs))

-- the lines of starts may stand where the link is up
pub starts_stand : (name : ℕ → Owner) (l : Ledger) (s : LinkState) (qs : List Queued) → l.up ≡ true → AllByRecursion IsPacked qs → AllNoted l (begins_each name (starting s qs))
starts_stand name l s [] up all = tt
starts_stand name l s (q ∷ qs) up all =
    chosen (λ (x : List Queued). AllNoted l (begins_each name x)) (holds_back s) [] (q ∷ starting (begun s q) qs)
    (λ t. tt)
    (λ f. ((up, all.0), starts_stand name (noted l (begins (start_from name q))) (begun s q) qs up all.1))

-- bytes are offered and taken
--
-- the bytes that a ledger leaves unwritten are those of the link
pub unwritten_is : (name : ℕ → Owner) (l : Ledger) (s : LinkState) → TiedLink name l s → unwritten l ≡ s.outbox.unwritten
unwritten_is name l s h = ap (λ bs. drop (length l.taken) bs) (sym h.sent) ∙ drop-append_seam l.taken s.outbox.unwritten

-- all unwritten bytes are offered
pub offered_tied : (name : ℕ → Owner) (l : Ledger) (s : LinkState) → TiedLink name l s → TiedLink name (noted l (offers s.outbox.unwritten)) (offered_of s)
offered_tied name l s h = record {
  sent = h.sent;
  offer = sym (take_all (length s.outbox.unwritten) s.outbox.unwritten (omega arith));
  bound = omega arith;
  rest = h.rest;
  broken = h.broken;
  started = h.started;
  within = h.within;
  bytes = h.bytes;
  row = h.row;
}

-- no bytes are none offered
offers_none : (o : ℕ) (bs : List ℕ) → o ≡ 0 → take o bs ≡ []
offers_none o bs e = ap (λ n. take n bs) e

-- where a link can offer, there are bytes, and none are offered
can_some : (bs : List ℕ) (o : ℕ) → (not (length bs == 0) && (o == 0)) ≡ true → (bs ≢ []) × (o ≡ 0)
can_some bs o e = (
  (λ none. let t = both_left (not (length bs == 0)) (o == 0) e in let f : (not (length bs == 0)) ≡ false = ap (λ (xs : List ℕ). not (length xs == 0)) none in let no : ◌≡◌ {A = Bool} true false = sym t ∙ f in cc),
  eq_from o 0 (both_right (not (length bs == 0)) (o == 0) e),
)

-- an offer may stand where the link is up and can offer
pub offer_stands : (name : ℕ → Owner) (l : Ledger) (s : LinkState) → l.up ≡ true → can_offer s.outbox ≡ true → TiedLink name l s → MayNote l (offers s.outbox.unwritten)
offer_stands name l s up can h =
    let c = can_some s.outbox.unwritten s.outbox.offered can in
    (up, h.offer ∙ offers_none s.outbox.offered s.outbox.unwritten c.1, sym (unwritten_is name l s h), c.0)

-- a front that is not empty
some_taken : (o : ℕ) (b : ℕ) (bs : List ℕ) → 0 < o → take o (b ∷ bs) ≢ []
some_taken zero b bs l e = absurd (omega arith)
some_taken (suc o) b bs l e = cc

-- where it can not, there are no bytes, or some are offered
cannot_some : (bs : List ℕ) (o : ℕ) → (not (length bs == 0) && (o == 0)) ≡ false → (bs ≡ []) ⊎ (take o bs ≢ [])
cannot_some [] o e = inl refl
cannot_some (b ∷ bs) o e =
    by_test (o == 0) _
    (λ t. absurd (let f : (length (b ∷ bs) == 0) ≡ false = ne_test _ _ (λ z. absurd (omega arith)) in let z : (not (length (b ∷ bs) == 0) && (o == 0)) ≡ true = (λ i. not (f i) && t i) in let no : ◌≡◌ {A = Bool} true false = sym z ∙ e in cc))
    (λ f. inr (some_taken o b bs (let n = ne_from o 0 f in omega arith)))

-- a link that can't offer has nothing unwritten, or an unanswered offer
pub is_offered : (name : ℕ → Owner) (l : Ledger) (s : LinkState) → can_offer s.outbox ≡ false → TiedLink name l s → IsOffered l
is_offered name l s cannot h = elim (cannot_some s.outbox.unwritten s.outbox.offered cannot) [
  | inl e ↦ inl (unwritten_is name l s h ∙ e)
  | inr n ↦ inr (λ e. n (sym h.offer ∙ e))
]

-- no more is taken than was offered
pub taken_within : (name : ℕ → Owner) (l : Ledger) (s : LinkState) (n : ℕ) → n ≤ s.outbox.offered → TiedLink name l s → n ≤ length l.offer
taken_within name l s n few h = let e : length l.offer ≡ length (take s.outbox.offered s.outbox.unwritten) = ap length h.offer in omega (arith, e, h.bound, length-take s.outbox.offered s.outbox.unwritten)

-- so many of the offered bytes are taken
wrote_link : (name : ℕ → Owner) (l : Ledger) (s : LinkState) (n : ℕ) → n ≤ s.outbox.offered → TiedLink name l s → TiedLink name (record l { taken = l.taken ++ take n l.offer; offer = []; heard = took n }) (wrote_of s n)
wrote_link name l s n few h = record {
  sent = append_assoc l.taken (take n l.offer) (drop n s.outbox.unwritten)
      ∙ ap (λ bs. l.taken ++ bs) (ap (λ bs. take n bs ++ drop n s.outbox.unwritten) h.offer ∙ ap (λ bs. bs ++ drop n s.outbox.unwritten) (take-take n s.outbox.offered s.outbox.unwritten few) ∙ take-append-drop n s.outbox.unwritten)
      ∙ h.sent;
  offer = sym (offers_none 0 (drop n s.outbox.unwritten) refl);
  bound = omega arith;
  rest = h.rest;
  broken = h.broken;
  started = h.started;
  within = h.within;
  bytes = h.bytes;
  row = h.row;
}

-- where the link is up
pub wrote_tied : (name : ℕ → Owner) (l : Ledger) (s : LinkState) (turn n : ℕ) → l.up ≡ true → n ≤ s.outbox.offered → TiedLink name l s → TiedLink name (noted l (hears turn (took n))) (wrote_of s n)
wrote_tied name l s turn n up few h = if_true (λ (x : Ledger). TiedLink name (record x { heard = took n }) (wrote_of s n)) l.up _ l up (wrote_link name l s n few h)

-- bytes come
--
-- what a link has taken of the values in what was read so far and these bytes
abbrev pub deals : Hearing → Bool → LinkState → List ℕ → Dealing
deals h ready s piece = taken_each h ready (dealing_with s.row) (values (s.rest ++ piece))

-- a link that has read on
abbrev pub has_read : Hearing → Bool → LinkState → List ℕ → LinkState
has_read h ready s piece = record (read_on s (s.rest ++ piece)) { row = (deals h ready s piece).row }

-- the ledger of a link that is up
abbrev pub has_heard : Ledger → List ℕ → Ledger
has_heard l piece = record (bytes_came l piece) { heard = came piece }

-- a link that isn't broken reads
pub reads_on : (h : Hearing) (ready : Bool) (s : LinkState) (piece : List ℕ) → s.broken ≡ false → piece_read h ready s piece ≡ read_with (read_on s (s.rest ++ piece)) (deals h ready s piece)
reads_on h ready s piece f = left_if s.broken (nothing_read s) (came_all h ready s (s.rest ++ piece)) f

-- and its ledger takes note where it is up
pub heard_is : (l : Ledger) (turn : ℕ) (piece : List ℕ) → l.up ≡ true → noted l (hears turn (came piece)) ≡ has_heard l piece
heard_is l turn piece up = if_true (λ (x : Ledger). record x { heard = came piece } ≡ has_heard l piece) l.up _ l up refl

-- a ledger whose bytes are read
abbrev pub reading : Ledger → List ℕ → Ledger
reading l piece = record l { rest = left_over (l.rest ++ piece) }

-- a link on which no value came that ends it takes each value as its ledger does
pub record ReadsAlike (h : Hearing) (ready : Bool) (l : Ledger) (s : LinkState) (piece : List ℕ) : Type 0 where
  pub tame : l.strange ≡ false
  pub each : TakeAlike h ready (reading l piece) (dealing_with s.row) (values (s.rest ++ piece))

-- so it has taken what its ledger has
pub read_taken : (name : ℕ → Owner) (h : Hearing) (ready : Bool) (l : Ledger) (s : LinkState) (piece : List ℕ) → l.end ≡ None → ReadsAlike h ready l s piece → TiedLink name l s → IsTaken name l.notices (has_heard l piece) (deals h ready s piece)
read_taken name h ready l s piece lives alike k =
    let m = reading l piece in
    let t : IsTaken name l.notices (bytes_came l piece) (deals h ready s piece) =
    subst (λ (bs : List ℕ). IsTaken name l.notices (values_came m (values (bs ++ piece))) (deals h ready s piece)) (sym k.rest)
    (values_taken name l.notices h ready m (dealing_with s.row) (values (s.rest ++ piece)) alike.each (none_taken name m s.row (k.row lives) k.within alike.tame)) in
    record { deals = t.deals; strange = t.strange; heard = t.heard; notices = t.notices; same = t.same; settled = t.settled; within = t.within; among = t.among }

-- what is left of bytes is what was left of them
pub left_is : (l : Ledger) (piece : List ℕ) → (bytes_came l piece).rest ≡ left_over (l.rest ++ piece)
left_is l piece =
    let left = left_over (l.rest ++ piece) in
    let P : Ledger → Type 0 = λ x. x.rest ≡ left in
    values_keep P (value_keeps P (λ x told strange e. e) (λ x v e. e)) (reading l piece) (values (l.rest ++ piece)) refl

-- a link with a row that its ledger has, behind these bytes
pub came_with : (name : ℕ → Owner) (l : Ledger) (s : LinkState) (piece : List ℕ) (row : List Entry) → (let m = has_heard l piece in length m.dealt ≤ reach m.starts m.dealt) → (let m = has_heard l piece in open_list name row ≡ open_rows m.starts m.dealt) → TiedLink name l s
    → TiedLink name (has_heard l piece) (record (read_on s (s.rest ++ piece)) { row = row })
came_with name l s piece row within rows k = holds_came
    (λ (m : Ledger). m.rest ≡ left_over (l.rest ++ piece) → length m.dealt ≤ reach m.starts m.dealt → open_list name row ≡ open_rows m.starts m.dealt → TiedLink name (record m { heard = came piece }) (record (read_on s (s.rest ++ piece)) { row = row }))
    l (bytes_came l piece) (bytes_are l piece)
    (λ rest strange told more left w r. record {
      sent = k.sent;
      offer = k.offer;
      bound = k.bound;
      rest = left ∙ ap (λ bs. left_over (bs ++ piece)) k.rest;
      broken = sym (left_over-settled (s.rest ++ piece)).2;
      started = k.started;
      within = w;
      bytes = k.bytes;
      row = λ e. r;
    })
    (left_is l piece) within rows

-- a link and its ledger that both read on
pub read_tied : (name : ℕ → Owner) (h : Hearing) (ready : Bool) (l : Ledger) (s : LinkState) (piece : List ℕ) → l.end ≡ None → ReadsAlike h ready l s piece → TiedLink name l s → TiedLink name (has_heard l piece) (has_read h ready s piece)
read_tied name h ready l s piece lives alike k =
    let t = read_taken name h ready l s piece lives alike k in
    came_with name l s piece (deals h ready s piece).row t.deals.within t.deals.row k

-- where the link is up, has not ended, and is not broken
pub came_tied : (name : ℕ → Owner) (h : Hearing) (ready : Bool) (l : Ledger) (s : LinkState) (turn : ℕ) (piece : List ℕ) → l.up ≡ true → l.end ≡ None → s.broken ≡ false → ReadsAlike h ready l s piece → TiedLink name l s
    → TiedLink name (noted l (hears turn (came piece))) (piece_read h ready s piece).link
came_tied name h ready l s turn piece up lives sound alike k =
    subst (λ (x : Reading). TiedLink name (noted l (hears turn (came piece))) x.link) (sym (reads_on h ready s piece sound))
    (subst (λ (x : Ledger). TiedLink name x (has_read h ready s piece)) (sym (heard_is l turn piece up)) (read_tied name h ready l s piece lives alike k))

-- the link ends
--
pub ended_tied : (name : ℕ → Owner) (l : Ledger) (s : LinkState) (out more : List Settled) (turn : ℕ) → TiedLink name l s → TiedLink name (noted l (ends turn)) (emptied (record { link = s; out = out }) more).link
ended_tied name l s out more turn h =
    let m = ended l turn in
    retied name name l s m.asked m.up m.end m.heard [] [] h (λ e. cc)
