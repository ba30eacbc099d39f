-- What is done with one link, one operation after another: its state, the lines that this tells, and what it settles.
use Rattle.std.specs.Prelude.{ℕ, ◌≡◌, ◌+◌, ◌==◌, nat_le, Bool, true, false, ◌||◌, List, [], ◌∷◌, ◌++◌, length, codes, if◌then◌else◌}
use Rattle.driver_model.specs.declared.action.Owner.{Owner}
use Rattle.driver_model.specs.declared.news.LinkFault.{LinkFault}
use Rattle.driver_model.specs.declared.news.LinkFault.TheVariants as fault
use Rattle.driver_model.specs.Config.{bare_info}
use Rattle.driver_model.specs.declared.hearing.Hearing.{Hearing}
use Rattle.driver_model.specs.Hearing.{felt, hears_messages, is_watching}
use Rattle.driver_model.specs.News.{News, silence, connected, took, came, failed, dropped, shut}
use Rattle.link_core.specs.declared.message.Queued.{Queued}
use Rattle.link_core.specs.declared.message.Settled.{Settled}
use Rattle.std.specs.List.{AllByRecursion}
use Rattle.link_core.specs.Ends.{queue_closed}
use Rattle.link_core.specs.Link.{LinkState, Settling, Reading, fresh, is_full, enqueued, started_all, offered_of, wrote_of, cancelled, piece_read, closed_all, faulted}
use Rattle.link_core.specs.Outbox.{can_offer}
use Rattle.legal_trace.specs.Ledger.{Ledger, Line, asks, hears, begins, offers, ends, monitor_message}
use Rattle.link_laws.specs.Settles.{settled_ids, wanted, awaited_ids, awaited_of, IsOwed, IsOwedUnstarted}
use Rattle.link_laws.specs.Starts.{begun, start_from, starting, begins_each}

-- a message takes the last place of the queue; what may start does; a message starts at once, before those in the queue; all
-- unwritten bytes are offered; so many of them are taken; bytes come; the caller of a message goes; the link fails; the stream of
-- messages is dropped; everything is shut down; and a turn of something else
pub data Operation : Type 0 where
  place : Queued → Operation
  begin : Operation
  start_first : Queued → Operation
  offer : Operation
  take_up : ℕ → Operation
  read : List ℕ → Operation
  withdraw : ℕ → Operation
  fail : LinkFault → Operation
  drop_stream : Operation
  shut_down : Operation
  pass : Operation

-- the link; what is heard on it; whether it has ended; the number of the turn that runs; what was told of the link; what it settled; and what
-- waited for its start when it ended
pub record Run : Type 0 where
  pub link : LinkState
  pub hearing : Hearing
  pub over : Bool
  pub turn : ℕ
  pub lines : List Line
  pub settled : List Settled
  pub unstarted : List Queued

-- the reply that all is well
abbrev pub okay_bytes : List ℕ
okay_bytes = codes "+OK\r\n"

-- a link is asked for in turn 0, and its connect succeeds in turn 1
abbrev pub opening : Hearing → List Line
opening h = asks bare_info false h true false ∷ hears 1 connected ∷ []

-- MONITOR starts, is taken, and is answered
abbrev pub watching : List Line
watching =
    begins monitor_message ∷ offers monitor_message.bytes ∷ hears 2 (took (length monitor_message.bytes)) ∷ hears 3 (came okay_bytes) ∷ []

-- a new link that is set up: in monitor mode its server was put into that
abbrev pub fresh_run : Hearing → ℕ → ℕ → Run
fresh_run h size boundary =
    if is_watching h
    then record { link = record (fresh size boundary) { started = 1 }; hearing = h; over = false; turn = 3; lines = opening h ++ watching; settled = []; unstarted = [] }
    else record { link = fresh size boundary; hearing = h; over = false; turn = 1; lines = opening h; settled = []; unstarted = [] }

-- a turn, with this news for the link
abbrev pub heard : Run → News → Run
heard r news = record r { turn = r.turn + 1; lines = r.lines ++ hears (r.turn + 1) news ∷ [] }

-- the link and what it settled, for a call of it
abbrev pub settling : Run → Settling
settling r = record { link = r.link; out = r.settled }

-- the link ends
abbrev pub over_with : Run → Settling → Run
over_with r d = record { link = d.link; hearing = r.hearing; over = true; turn = r.turn; lines = r.lines ++ ends r.turn ∷ []; settled = d.out; unstarted = r.link.queue }

-- a message without bytes, and one that finds the queue full, is placed nowhere
abbrev pub placed : Run → Queued → Run
placed r q = if is_full r.link || (length q.packed == 0) then r else record r { link = enqueued r.link q }

-- all start that may
abbrev pub begun_all : (ℕ → Owner) → Run → Run
begun_all name r = record r { link = (started_all (record { link = r.link; out = [] })).link; lines = r.lines ++ begins_each name (starting r.link r.link.queue) }

-- a message starts before all that wait; one without bytes doesn't
abbrev pub first_begun : (ℕ → Owner) → Run → Queued → Run
first_begun name r q = if length q.packed == 0 then r else record r { link = begun r.link q; lines = r.lines ++ begins (start_from name q) ∷ [] }

-- all unwritten bytes are offered, where there are some and no offer is unanswered
abbrev pub offered : Run → Run
offered r = if can_offer r.link.outbox then record r { link = offered_of r.link; lines = r.lines ++ offers r.link.outbox.unwritten ∷ [] } else r

-- more bytes than were offered are never taken
abbrev pub taken_up : Run → ℕ → Run
taken_up r n = if nat_le n r.link.outbox.offered then record (heard r (took n)) { link = wrote_of r.link n } else r

-- the link ends by a fault, as it is felt there
abbrev pub ends_by : Run → LinkFault → Run
ends_by r f = over_with r (faulted (settling r) (felt r.hearing f))

-- what was read is settled
abbrev pub has_come : Run → Reading → Run
has_come r d = record r { link = d.link; settled = r.settled ++ d.out }

-- what can't be read on ends the link, after what came before it was dealt
abbrev pub or_parse : Run → Bool → Run
or_parse r strange = if r.link.broken || strange then ends_by r fault.Parse else r

-- this was read
abbrev pub has_taken : Run → Reading → Run
has_taken r d = or_parse (has_come r d) d.strange

-- bytes come
abbrev pub has_read : Run → List ℕ → Run
has_read r piece = has_taken (heard r (came piece)) (piece_read r.hearing true r.link piece)

-- the stream of messages is dropped: this ends a link of messages
abbrev pub has_dropped : Run → Run
has_dropped r = if hears_messages r.hearing then ends_by r fault.Ended else r

-- what an operation makes of a link that has not ended
abbrev pub acted : (ℕ → Owner) → Run → Operation → Run
acted name r (place q) = placed r q
acted name r begin = begun_all name r
acted name r (start_first q) = first_begun name r q
acted name r offer = offered r
acted name r (take_up n) = taken_up r n
acted name r (read piece) = has_read r piece
acted name r (withdraw id) = record r { link = cancelled r.link id }
acted name r (fail f) = ends_by (heard r (failed f)) f
acted name r drop_stream = has_dropped (heard r dropped)
acted name r shut_down = over_with (heard r shut) (closed_all (settling r))
acted name r pass = heard r silence

-- nothing is done with a link that has ended
abbrev pub performed : (ℕ → Owner) → Run → Operation → Run
performed name r o = if r.over then r else acted name r o

-- operations, one after another
abbrev pub performed_each : (ℕ → Owner) → Run → List Operation → Run
performed_each name r [] = r
performed_each name r (o ∷ os) = performed_each name (performed name r o) os

-- a new link, with all these operations, one after another
unfoldable pub run : (ℕ → Owner) → Hearing → ℕ → ℕ → List Operation → Run
run name h size boundary os = performed_each name (fresh_run h size boundary) os

-- all that a link settles is owed: what it settles of started messages, and then of those that waited when it ended
pub record AreOwed (name : ℕ → Owner) (l : Ledger) (r : Run) : Type 0 where
  pub started : List Settled
  pub all : r.settled ≡ started ++ queue_closed r.unstarted
  pub owed : AllByRecursion (IsOwed name l) started
  pub closed : AllByRecursion (IsOwedUnstarted l) (queue_closed r.unstarted)

-- who was settled, and whose verdict is still wanted
abbrev pub answered_or_wanted : Run → List ℕ
answered_or_wanted r = settled_ids r.settled ++ awaited_of r.link

-- whose verdict a place in the queue makes wanted
abbrev pub wanted_by : Run → Operation → List ℕ
wanted_by r (place q) = if r.over then [] else (if is_full r.link || (length q.packed == 0) then [] else (if q.awaited then q.id ∷ [] else []))
wanted_by r _ = []

-- whose verdict a start before the queue makes wanted
abbrev pub wanted_first : Run → Operation → List ℕ
wanted_first r (start_first q) = if r.over then [] else (if length q.packed == 0 then [] else (if q.awaited then q.id ∷ [] else []))
wanted_first r _ = []

-- who was settled and whose verdict is still wanted, with these before all that wait, and with these at the end
abbrev pub line_with : Run → List ℕ → List ℕ → List ℕ
line_with r first last = settled_ids r.settled ++ (wanted r.link.row ++ (first ++ (awaited_ids r.link.queue ++ last)))

-- whether the caller of a message goes
abbrev pub is_withdraw : Operation → Bool
is_withdraw (withdraw id) = true
is_withdraw _ = false

-- whether bytes come
abbrev pub is_read : Operation → Bool
is_read (read piece) = true
is_read _ = false
