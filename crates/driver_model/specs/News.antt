-- What one link sees of an event: the one place where an event is taken to a link.
use Rattle.std.specs.Prelude.{ℕ, ◌==◌, Bool, false, List, Option, Some, None, slice_get, if◌then◌else◌}
use Rattle.redis_error.specs.declared.fault_kind.FaultKind.{FaultKind}
use Rattle.driver_model.specs.declared.action.Purpose.{Purpose}
use Rattle.driver_model.specs.declared.action.Purpose.TheVariants as purpose
use Rattle.driver_model.specs.declared.action.SourceUse.{SourceUse}
use Rattle.driver_model.specs.declared.action.SourceUse.TheVariants as source
use Rattle.credentials.specs.Credentials.{Credentials}
use Rattle.driver_model.specs.declared.event.EventKind.{EventKind}
use Rattle.driver_model.specs.declared.event.EventKind.TheVariants as event
use Rattle.driver_model.specs.declared.news.LinkFault.{LinkFault}
use Rattle.driver_model.specs.declared.news.LinkFault.TheVariants as fault
use Rattle.driver_model.specs.declared.news.LinkNews.{LinkNews}
use Rattle.driver_model.specs.declared.news.LinkNews.TheVariants as variant

-- nothing; its connect succeeded; its connect failed; the time in which it was to be connected is over; so many of the
-- offered bytes were taken; bytes came; its peer closed it, or a read or a write failed; credentials came for its setup, or there
-- are none, since its source says this, or has ended; new credentials came, to be told to its server, or no more come; the time
-- for those of this number is over; that in which what was subscribed was to be subscribed again is over; the stream of messages is
-- dropped; everything is shut down
pub data News : Type 0 where
  silence : News
  connected : News
  refused : FaultKind → News
  overdue : News
  took : ℕ → News
  came : List ℕ → News
  failed : LinkFault → News
  authorized : Credentials → News
  denied : List ℕ → News
  deserted : News
  renewed : Credentials → News
  unrenewed : News
  late : ℕ → News
  unrepeated : News
  dropped : News
  shut : News

-- news for one link alone
abbrev pub for_link : Bool → News → News
for_link mine news = if mine then news else silence

-- what it sees of a timer that fires and was asked for this, if it was asked
abbrev pub of_timer : ℕ → Option Purpose → News
of_timer n None = silence
of_timer n (Some (purpose.Connect l)) = for_link (l == n) overdue
of_timer n (Some (purpose.Response who)) = silence
of_timer n (Some (purpose.Renewal l k)) = for_link (l == n) (late k)
of_timer n (Some (purpose.Backoff g)) = silence
of_timer n (Some (purpose.Resubscription l)) = for_link (l == n) unrepeated

-- a source with this use was asked for, for the setup of link n
abbrev pub is_source_of : ℕ → Option SourceUse → Bool
is_source_of n None = false
is_source_of n (Some (source.Setup l)) = l == n
is_source_of n (Some (source.Renewal l)) = false

-- or for its renewals
abbrev pub renews : ℕ → Option SourceUse → Bool
renews n None = false
renews n (Some (source.Setup l)) = false
renews n (Some (source.Renewal l)) = l == n

-- what it sees of such a source: this where its setup waits for it, and that where it renews
abbrev pub of_source : ℕ → Option SourceUse → News → News → News
of_source n what first later = if is_source_of n what then first else for_link (renews n what) later

-- what the link of number n sees of an event, where these are the purposes of the timers, and the uses of the sources of
-- credentials, by their numbers
abbrev pub news_of : List Purpose → List SourceUse → ℕ → EventKind → News
news_of timers sources n (event.Connected l) = for_link (l == n) connected
news_of timers sources n (event.Refused l f) = for_link (l == n) (refused f)
news_of timers sources n (event.Wrote l count) = for_link (l == n) (took count)
news_of timers sources n (event.Bytes l piece) = for_link (l == n) (came piece)
news_of timers sources n (event.Ended l) = for_link (l == n) (failed fault.Ended)
news_of timers sources n (event.ReadFault l kind) = for_link (l == n) (failed (fault.Io kind))
news_of timers sources n (event.WriteFault l kind) = for_link (l == n) (failed (fault.Io kind))
news_of timers sources n (event.Fired t) = of_timer n (slice_get timers t)
news_of timers sources n (event.Timeout ms) = silence
news_of timers sources n event.DropStream = dropped
news_of timers sources n event.Shutdown = shut
news_of timers sources n (event.Creds c auth) = of_source n (slice_get sources c) (authorized auth) (renewed auth)
news_of timers sources n (event.CredsError c text) = of_source n (slice_get sources c) (denied text) silence
news_of timers sources n (event.CredsEnd c) = of_source n (slice_get sources c) deserted unrenewed
news_of timers sources n (event.Submit s) = silence
news_of timers sources n (event.Cancel s) = silence

-- the news that a link is handed
abbrev pub told : LinkNews → News
told variant.Silence = silence
told variant.Connected = connected
told (variant.Refused f) = refused f
told variant.Overdue = overdue
told (variant.Took count) = took count
told (variant.Came piece) = came piece.now
told (variant.Failed f) = failed f
told (variant.Authorized auth) = authorized auth.now
told (variant.Denied text) = denied text.now
told variant.Deserted = deserted
told (variant.Renewed auth) = renewed auth.now
told variant.Unrenewed = unrenewed
told (variant.Late k) = late k
told variant.Unrepeated = unrepeated
told variant.Dropped = dropped
told variant.Shut = shut
