-- Which events are bad after what is in a book, and which numbers have run out.
use Rattle.std.specs.Prelude.{◌≡◌, ◌⊎◌, ◌<◌, ◌≤◌, ℕ, ◌^◌, nat_lt, nat_le, Bool, true, false, ◌&&◌, ◌||◌, not, length}
use Rattle.driver_model.specs.declared.event.EventKind.{EventKind}
use Rattle.driver_model.specs.declared.event.EventKind.TheVariants as event
use Rattle.driver_model.specs.Request.{has_no_form}
use Rattle.legal_trace.specs.Ledger.{is_over, renewals_asked}
use Rattle.legal_trace.specs.Book.{Book, kind_in}

-- no link of that number was asked for
abbrev pub is_no_link : Book → ℕ → Bool
is_no_link b l = nat_le b.links l

-- the event hands in a submission that the session has no form for, or names a link, a timer, a source of credentials or a submission that was
-- never given out, or more written bytes than were offered to a link that has not ended
unfoldable pub is_bad_event : Book → EventKind → Bool
is_bad_event b (event.Submit what) = has_no_form (kind_in b.config) what
is_bad_event b (event.Cancel n) = nat_le b.submissions n
is_bad_event b (event.Connected l) = is_no_link b l
is_bad_event b (event.Refused l f) = is_no_link b l
is_bad_event b (event.Wrote l count) = is_no_link b l || (not (is_over (b.link l)) && nat_lt (length (b.link l).offer) count)
is_bad_event b (event.Bytes l piece) = is_no_link b l
is_bad_event b (event.Ended l) = is_no_link b l
is_bad_event b (event.ReadFault l kind) = is_no_link b l
is_bad_event b (event.WriteFault l kind) = is_no_link b l
is_bad_event b (event.Fired t) = nat_le (length b.timers) t
is_bad_event b (event.Timeout ms) = false
is_bad_event b (event.Creds c auth) = nat_le (length b.sources) c
is_bad_event b (event.CredsError c text) = nat_le (length b.sources) c
is_bad_event b (event.CredsEnd c) = nat_le (length b.sources) c
is_bad_event b event.DropStream = false
is_bad_event b event.Shutdown = false

-- more numbers of a sort were given out than there are: a turn after the number 2^32 - 1, or that number itself to a
-- submission, to a link, to a timer, to a source of credentials, to a message of a link that is up, or to new credentials of a
-- link
abbrev pub HasRunOut : Book → Type 0
HasRunOut b = (2 ^ 32 < b.turns) ⊎ (2 ^ 32 ≤ b.submissions) ⊎ (2 ^ 32 ≤ b.links) ⊎ (2 ^ 32 ≤ length b.timers) ⊎ (2 ^ 32 ≤ length b.sources) ⊎ ((l : ℕ) × ((b.link l).up ≡ true) × (2 ^ 32 ≤ length (b.link l).starts)) ⊎ ((l : ℕ) × (2 ^ 32 ≤ renewals_asked (b.link l)))
