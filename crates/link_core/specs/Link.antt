-- One link as plain data, and what each call does to it.
use Rattle.std.specs.Prelude.{ℕ, ◌+◌, ◌^◌, nat_lt, nat_le, Bool, false, ◌&&◌, ◌||◌, not, List, [], ◌∷◌, ◌++◌, length, Option, Some, None, if◌then◌else◌}
use Rattle.resp_read.specs.Values.{values, left_over, is_spoiled}
use Rattle.driver_model.specs.Shape.{need_of}
use Rattle.driver_model.specs.declared.news.LinkFault.{LinkFault}
use Rattle.link_core.specs.declared.message.Queued.{Queued}
use Rattle.link_core.specs.declared.message.Entry.{Entry}
use Rattle.link_core.specs.declared.message.Started.{Started}
use Rattle.link_core.specs.declared.message.Settled.{Settled}
use Rattle.driver_model.specs.declared.hearing.Hearing.{Hearing}
use Rattle.driver_model.specs.declared.hearing.Notice.{Notice}
use Rattle.driver_model.specs.declared.hearing.Notice.TheVariants as notice
use Rattle.link_core.specs.declared.message.NoticeAt.{NoticeAt}
use Rattle.link_core.specs.declared.message.PushAt.{PushAt}
use Rattle.link_core.specs.declared.outbox.Outbox.{Outbox}
use Rattle.link_core.specs.Dealing.{Dealing, dealing_with, taken_each}
use Rattle.link_core.specs.Ends.{row_closed, row_hit, queue_closed}
use Rattle.link_core.specs.Outbox.{added, all_offered, taken}
use Rattle.link_core.specs.Row.{silenced}
use Rattle.link_core.specs.Waiting.{without}

-- a link: how many messages its queue holds, at how many unwritten bytes no message starts, what waits, what takes
-- items, how many messages started, what is to be written, what was read of the next value, whether bytes came that
-- begin none, and whether memory was refused
pub record LinkState : Type 0 where
  pub size : ℕ
  pub boundary : ℕ
  pub queue : List Queued
  pub row : List Entry
  pub started : ℕ
  pub outbox : Outbox
  pub rest : List ℕ
  pub broken : Bool
  pub failed : Bool

abbrev pub fresh : ℕ → ℕ → LinkState
fresh size boundary = record {
  size = size;
  boundary = boundary;
  queue = [];
  row = [];
  started = 0;
  outbox = record { unwritten = []; offered = 0 };
  rest = [];
  broken = false;
  failed = false;
}

-- the queue holds its size
abbrev pub is_full : LinkState → Bool
is_full s = nat_le s.size (length s.queue)

-- it holds its size, where so many messages that are not in it are counted too
abbrev pub is_full_beside : LinkState → ℕ → Bool
is_full_beside s n = nat_le s.size (n + length s.queue)

-- who is the first of a queue
abbrev pub first_in : List Queued → Option ℕ
first_in [] = None
first_in (q ∷ qs) = Some q.id

-- who is the last of those behind it
abbrev pub last_behind : ℕ → List Queued → ℕ
last_behind id [] = id
last_behind id (q ∷ qs) = last_behind q.id qs

-- who is the last of a queue
abbrev pub last_in : List Queued → Option ℕ
last_in [] = None
last_in (q ∷ qs) = Some (last_behind q.id qs)

-- a message takes the last place of the queue
abbrev pub enqueued : LinkState → Queued → LinkState
enqueued s q = record s { queue = s.queue ++ q ∷ [] }

-- no message starts while bytes are unwritten, and as many as the boundary
abbrev pub holds_back : LinkState → Bool
holds_back s = nat_lt 0 (length s.outbox.unwritten) && nat_le s.boundary (length s.outbox.unwritten)

-- a link, and the starts of one call
pub record Starting : Type 0 where
  pub link : LinkState
  pub out : List Started

-- this link, and these starts so far
abbrev pub starting_with : LinkState → List Started → Starting
starting_with link out = record { link = link; out = out }

abbrev pub entry_of : Queued → Entry
entry_of q = record { id = q.id; shape = q.shape; awaited = q.awaited; got = [] }

abbrev pub start_of : ℕ → Queued → Started
start_of number q = record { msg = number; id = q.id; need = need_of q.shape; len = length q.packed }

-- a message takes the next number, its bytes are to be written, and it takes items behind the others
abbrev pub begun : LinkState → Queued → LinkState
begun s q = record s {
  row = s.row ++ entry_of q ∷ [];
  started = s.started + 1;
  outbox = added s.outbox q.packed;
}

-- a message starts
abbrev pub started_one : Starting → Queued → Starting
started_one s q = record { link = begun s.link q; out = s.out ++ start_of s.link.started q ∷ [] }

-- messages start in the order of the queue, as long as nothing holds them back
abbrev pub started_each : Starting → List Queued → Starting
started_each s [] = record s { link = record s.link { queue = [] } }
started_each s (q ∷ qs) =
    if holds_back s.link then record s { link = record s.link { queue = q ∷ qs } } else started_each (started_one s q) qs

abbrev pub started_all : Starting → Starting
started_all s = started_each s s.link.queue

-- a message has a number up to this one: none has where there is none
abbrev pub is_up_to : Option ℕ → ℕ → Bool
is_up_to None id = false
is_up_to (Some last) id = nat_le id last

-- the first of a queue has one, if there is a first
abbrev pub is_first_up_to : Option ℕ → List Queued → Bool
is_first_up_to last [] = false
is_first_up_to last (q ∷ qs) = is_up_to last q.id

-- they start in the order of the queue, as long as they have a number up to this one, and nothing holds them back
abbrev pub started_to_each : Option ℕ → Starting → List Queued → Starting
started_to_each last s [] = record s { link = record s.link { queue = [] } }
started_to_each last s (q ∷ qs) =
    if holds_back s.link || not (is_up_to last q.id) then record s { link = record s.link { queue = q ∷ qs } }
    else started_to_each last (started_one s q) qs

abbrev pub started_to : Option ℕ → Starting → Starting
started_to last s = started_to_each last s s.link.queue

-- the number 2^32 - 1 was given to a message
abbrev pub is_spent : LinkState → Bool
is_spent s = nat_le (2 ^ 32) s.started

abbrev pub offered_of : LinkState → LinkState
offered_of s = record s { outbox = all_offered s.outbox }

-- so many of the offered bytes were taken
abbrev pub wrote_of : LinkState → ℕ → LinkState
wrote_of s n = record s { outbox = taken s.outbox n }

-- the caller of a message has gone: before its start it leaves the queue, after it it stays in the row
abbrev pub cancelled : LinkState → ℕ → LinkState
cancelled s id = record s { queue = without s.queue id; row = silenced s.row id }

-- a link, and the messages that one call settles
pub record Settling : Type 0 where
  pub link : LinkState
  pub out : List Settled

-- this link, and these messages settled so far
abbrev pub settling_with : LinkState → List Settled → Settling
settling_with link out = record { link = link; out = out }

-- what was read of the next value, with more bytes
abbrev pub read_on : LinkState → List ℕ → LinkState
read_on s bytes = record s { rest = left_over bytes; broken = is_spoiled bytes }

-- a link that was read on: the messages that this settled, what is to be told, each behind as many of these messages as were
-- settled before it, and whether a value came that ends the link
pub record Reading : Type 0 where
  pub link : LinkState
  pub out : List Settled
  pub notices : List NoticeAt
  pub strange : Bool

-- nothing was read
abbrev pub nothing_read : LinkState → Reading
nothing_read s = record { link = s; out = []; notices = []; strange = false }

abbrev pub read_with : LinkState → Dealing → Reading
read_with s d = record { link = record s { row = d.row }; out = d.out; notices = d.notices; strange = d.strange }

-- these bytes follow the last whole value: each value that is whole now comes
abbrev pub came_all : Hearing → Bool → LinkState → List ℕ → Reading
came_all h ready s bytes = read_with (read_on s bytes) (taken_each h ready (dealing_with s.row) (values bytes))

-- bytes come on a link on which this is heard, and which is set up or not. A broken link reads no more
abbrev pub piece_read : Hearing → Bool → LinkState → List ℕ → Reading
piece_read h ready s piece = if s.broken then nothing_read s else came_all h ready s (s.rest ++ piece)

-- the push that is told, behind n settled messages
abbrev pub push_at : ℕ → Notice → List PushAt
push_at n (notice.Push info) = record { settled = n; info = info } ∷ []
push_at n (notice.Message m) = []
push_at n (notice.Monitor v) = []

-- the pushes among what is told
abbrev pub pushes_among : List NoticeAt → List PushAt
pushes_among [] = []
pushes_among (n ∷ ns) = push_at n.settled n.notice ++ pushes_among ns

abbrev pub emptied : Settling → List Settled → Settling
emptied d more = record { link = record d.link { queue = []; row = [] }; out = d.out ++ more }

-- the link is closed: every message that it has gets the closed connection
abbrev pub closed_all : Settling → Settling
closed_all d = emptied d (row_closed d.link.row ++ queue_closed d.link.queue)

-- the link ends by a fault: the oldest message that takes items gets it if it is a single command, all others the
-- closed connection
abbrev pub faulted : Settling → LinkFault → Settling
faulted d f = emptied d (row_hit f d.link.row ++ queue_closed d.link.queue)
