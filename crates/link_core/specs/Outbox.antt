-- The bytes that are to be written, and their offer.
use Rattle.std.specs.Prelude.{ℕ, ◌==◌, Bool, ◌&&◌, not, List, ◌++◌, length, drop}
use Rattle.link_core.specs.declared.outbox.Outbox.{Outbox}

-- the bytes of one more started message
abbrev pub added : Outbox → List ℕ → Outbox
added o packed = record o { unwritten = o.unwritten ++ packed }

-- there are unwritten bytes, and no offer is unanswered
abbrev pub can_offer : Outbox → Bool
can_offer o = not (length o.unwritten == 0) && (o.offered == 0)

abbrev pub all_offered : Outbox → Outbox
all_offered o = record o { offered = length o.unwritten }

-- the offer is answered: its first n bytes were taken
abbrev pub taken : Outbox → ℕ → Outbox
taken o n = record { unwritten = drop n o.unwritten; offered = 0 }
