-- What is told of one link, line by line, and what it comes to: the link's ledger. It knows neither its number nor whose
-- messages it carries.
use Rattle.std.specs.Prelude.{◌≡◌, ◌≢◌, ◌⊎◌, ◌≤◌, ◌<◌, ℕ, zero, suc, ◌+◌, ◌-◌, ◌==◌, nat_le, nat_lt, Bool, true, false, ◌&&◌, ◌||◌, not, List, [], ◌∷◌, ◌++◌, length, take, drop, flat_map, Option, Some, None, is_none, is_some, slice_get, codes, if◌then◌else◌}
use Rattle.resp_value.specs.Data.{Data}
use Rattle.resp_read.specs.Values.{values, left_over, is_spoiled}
use Rattle.resp_write.specs.Pack.{pack}
use Rattle.redis_error.specs.declared.fault_kind.FaultKind.TheVariants as kind
use Rattle.redis_error.specs.declared.redis_error.RedisError.{RedisError}
use Rattle.redis_error.specs.declared.redis_error.RedisError.TheVariants as error
use Rattle.connection_info.specs.declared.address.RedisConnectionInfo.{RedisConnectionInfo}
use Rattle.credentials.specs.Credentials.{Credentials}
use Rattle.credentials.specs.Message.{auth_bytes}
use Rattle.connection_setup.specs.declared.judgement.SetupResult.{SetupResult}
use Rattle.connection_setup.specs.declared.judgement.SetupResult.TheVariants.{Ready, RepeatWithoutUser, Failed}
use Rattle.connection_setup.specs.Setup.{Step, setup}
use Rattle.connection_setup.specs.Judgement.{judged}
use Rattle.driver_model.specs.Config.{bare_info}
use Rattle.driver_model.specs.Setup.{says_nothing, setup_bytes, setup_shape}
use Rattle.driver_model.specs.declared.hearing.Hearing.{Hearing}
use Rattle.driver_model.specs.declared.hearing.Hearing.TheVariants as hearing
use Rattle.driver_model.specs.declared.hearing.Notice.{Notice}
use Rattle.driver_model.specs.Hearing.{Taking, taking, hears_messages, is_watching, felt}
use Rattle.driver_model.specs.declared.action.Owner.{Owner}
use Rattle.driver_model.specs.declared.action.Owner.TheVariants as owner
use Rattle.driver_model.specs.declared.news.LinkFault.{LinkFault}
use Rattle.driver_model.specs.declared.news.LinkFault.TheVariants as fault
use Rattle.driver_model.specs.declared.outcome.Shape.{Shape}
use Rattle.driver_model.specs.declared.outcome.Shape.TheVariants.{Single, Confirmation}
use Rattle.driver_model.specs.declared.outcome.Verdict.{Verdict}
use Rattle.driver_model.specs.declared.outcome.Verdict.TheVariants as verdict
use Rattle.driver_model.specs.News.{News, silence, connected, refused, overdue, took, came, failed, authorized, denied, deserted, renewed, unrenewed, late, unrepeated, dropped, shut}
use Rattle.driver_model.specs.Shape.{need_of, verdict_of}

-- a message that started: who owns it, how many items it takes and what they become, and its bytes
pub record Start : Type 0 where
  pub owner : Owner
  pub shape : Shape
  pub bytes : List ℕ

-- why a link ends: everything is shut down, or a fault, or its opening failed with this error, or so did an attempt that another
-- one follows
pub data Ending : Type 0 where
  by_shutdown : Ending
  by_fault : LinkFault → Ending
  by_opening : RedisError → Ending
  by_attempt : RedisError → Ending

-- where another attempt follows, a failed opening is a failed attempt
abbrev pub lasting : Bool → Ending → Ending
lasting true why = why
lasting false by_shutdown = by_shutdown
lasting false (by_fault f) = by_fault f
lasting false (by_opening e) = by_attempt e
lasting false (by_attempt e) = by_attempt e

-- the error that it is, where the opening failed
abbrev pub failure_of : Ending → Option RedisError
failure_of by_shutdown = None
failure_of (by_fault f) = None
failure_of (by_opening e) = Some e
failure_of (by_attempt e) = None

-- whether it is a fault of the link, once it was set up
abbrev pub is_fault : Ending → Bool
is_fault by_shutdown = false
is_fault (by_fault f) = true
is_fault (by_opening e) = false
is_fault (by_attempt e) = false

-- how a link ended: in which turn, why, and how many of its messages, from the first on, were full then, which is the number
-- of the oldest that was not; and whether it took requests until then
pub record End : Type 0 where
  pub turn : ℕ
  pub why : Ending
  pub oldest : ℕ
  pub served : Bool

-- what came on a link that was set up and is to be told: how many items had been dealt before it, and what is told
pub record Heard : Type 0 where
  pub after : ℕ
  pub what : Notice

-- the credentials of a link that come of sources: whether they are to, whether a source was asked for, and whether the first
-- credentials have come; whether another source was asked for, for new ones; those that came to be told to its server since, in
-- order, and whether more may come; for how many of these a timer was asked; and whether one of them was not answered in time
pub record Sourced : Type 0 where
  pub wanted : Bool
  pub asked : Bool
  pub given : Bool
  pub renews : Bool
  pub renewals : List Credentials
  pub over : Bool
  pub timed : ℕ
  pub lost : Bool

abbrev pub unsourced : Bool → Sourced
unsourced wanted = record { wanted = wanted; asked = false; given = false; renews = false; renewals = []; over = false; timed = 0; lost = false }

-- what is subscribed again on a link, once that is set up: whether anything is, whether a timer was asked for it, and whether that
-- fired before it was answered
pub record Again : Type 0 where
  pub wanted : Bool
  pub timed : Bool
  pub over : Bool

abbrev pub unasked_again : Bool → Again
unasked_again wanted = record { wanted = wanted; timed = false; over = false }

-- whether its connect was asked for, what is to be said to its server then, what is heard on it beside replies, and its
-- credentials that come of sources; what is subscribed again on it; whether no other attempt follows where its opening fails;
-- whether the connect succeeded and it has not ended; how it ended; its starts in order; the bytes that were taken from it; the
-- bytes of its unanswered offer; what came behind the last whole value, and whether that value ends it; the items dealt; what came
-- once it was set up and is to be told, how much of it was, and whether its end was told as a push; and what it was told by the
-- turn that runs
pub record Ledger : Type 0 where
  pub asked : Bool
  pub info : RedisConnectionInfo
  pub hearing : Hearing
  pub creds : Sourced
  pub again : Again
  pub last : Bool
  pub up : Bool
  pub end : Option End
  pub starts : List Start
  pub taken : List ℕ
  pub offer : List ℕ
  pub rest : List ℕ
  pub strange : Bool
  pub dealt : List Data
  pub notices : List Heard
  pub told : ℕ
  pub parted : Bool
  pub heard : News

abbrev pub blank_ledger : Ledger
blank_ledger = record { asked = false; info = bare_info; hearing = hearing.Nothing; creds = unsourced false; again = unasked_again false; last = true; up = false; end = None; starts = []; taken = []; offer = []; rest = []; strange = false; dealt = []; notices = []; told = 0; parted = false; heard = silence }

abbrev pub is_over : Ledger → Bool
is_over l = is_some l.end

-- how many items a message of this shape takes, of those that are dealt from its first on
abbrev pub need_in : Shape → List Data → ℕ
need_in shape dealt = need_of shape

-- how many of these items messages take that start one after another
abbrev pub reach : List Start → List Data → ℕ
reach [] dealt = 0
reach (s ∷ ss) dealt = need_in s.shape dealt + reach ss (drop (need_in s.shape dealt) dealt)

-- how many items the first k messages of a link take
abbrev pub reached : Ledger → ℕ → ℕ
reached l k = reach (take k l.starts) l.dealt

-- the items of the message that started as number k: those dealt from what the messages before it take on, as many as it
-- takes
abbrev pub cut : Ledger → ℕ → Shape → List Data
cut l k of_shape = let from = drop (reached l k) l.dealt in take (need_in of_shape from) from

-- the message that started as number k has all its items
abbrev pub is_full : Ledger → ℕ → Bool
is_full l k = nat_le (reached l (k + 1)) (length l.dealt)

-- a start of the setup
abbrev pub is_of_setup : Owner → Bool
is_of_setup owner.Setup = true
is_of_setup (owner.Try n round) = false
is_of_setup owner.Auth = false
is_of_setup owner.Resub = false
is_of_setup owner.Monitor = false

-- how many of these starts are of the setup: they are the first ones
abbrev pub setup_count : List Start → ℕ
setup_count [] = 0
setup_count (s ∷ ss) = if is_of_setup s.owner then suc (setup_count ss) else 0

-- the commands of the setup as it is sent for the first time, with the user name, and of any later one, without it
abbrev pub setup_steps : Ledger → ℕ → List Step
setup_steps l k = setup l.info (k == 0)

-- what the replies to the setup that started as number k come to, once they are all there
abbrev pub result_of : Ledger → ℕ → Option SetupResult
result_of l k = if is_full l k then Some (judged (setup_steps l k) (cut l k (setup_shape (setup_steps l k)))) else None

-- what the last of so many setups came to
abbrev pub last_result : Ledger → ℕ → Option SetupResult
last_result l zero = None
last_result l (suc k) = result_of l k

-- its setup waits for credentials
abbrev pub lacks_credentials : Ledger → Bool
lacks_credentials l = l.creds.wanted && not l.creds.given

-- what the setup came to: where nothing is to be said the link is ready at once, and where credentials are to come, once they have
abbrev pub setup_result : Ledger → Option SetupResult
setup_result l = if lacks_credentials l then None else if says_nothing (setup_steps l 0) then Some Ready else last_result l (setup_count l.starts)

abbrev pub is_well : Option SetupResult → Bool
is_well (Some Ready) = true
is_well _ = false

-- what is said to its server before the first request is answered well
abbrev pub is_greeted : Ledger → Bool
is_greeted l = is_well (setup_result l)

-- a start that puts its server into monitor mode
abbrev pub is_of_monitor : Owner → Bool
is_of_monitor owner.Monitor = true
is_of_monitor owner.Setup = false
is_of_monitor (owner.Try n round) = false
is_of_monitor owner.Auth = false
is_of_monitor owner.Resub = false

-- the number of the first of these starts that does, where the first of them has the number k
abbrev pub monitor_among : List Start → ℕ → Option ℕ
monitor_among [] k = None
monitor_among (s ∷ ss) k = if is_of_monitor s.owner then Some k else monitor_among ss (suc k)

abbrev pub monitor_of : Ledger → Option ℕ
monitor_of l = monitor_among l.starts 0

-- its message of that number has its items; false where there is no such message
abbrev pub is_answered : Ledger → Option ℕ → Bool
is_answered l None = false
is_answered l (Some k) = is_full l k

-- the link is set up: what is said before the first request is answered well, and so is MONITOR, where its server is put into
-- monitor mode
abbrev pub is_set_up : Ledger → Bool
is_set_up l = is_greeted l && (not (is_watching l.hearing) || is_answered l (monitor_of l))

-- it is up, and set up
abbrev pub is_ready : Ledger → Bool
is_ready l = l.up && is_set_up l

-- a start that subscribes again what is subscribed
abbrev pub is_of_again : Owner → Bool
is_of_again owner.Resub = true
is_of_again owner.Setup = false
is_of_again (owner.Try n round) = false
is_of_again owner.Auth = false
is_of_again owner.Monitor = false

-- the number of the first of these starts that does, where the first of them has the number k
abbrev pub again_among : List Start → ℕ → Option ℕ
again_among [] k = None
again_among (s ∷ ss) k = if is_of_again s.owner then Some k else again_among ss (suc k)

abbrev pub again_of : Ledger → Option ℕ
again_of l = again_among l.starts 0

-- what is subscribed again is answered, whatever that is, or its time is over, or there is nothing
abbrev pub is_served : Ledger → Bool
is_served l = not l.again.wanted || (l.again.over || is_answered l (again_of l))

-- it takes requests: it is ready, and what is subscribed again is answered
abbrev pub is_serving : Ledger → Bool
is_serving l = is_ready l && is_served l

-- it is ready, and what is subscribed again isn't answered
abbrev pub is_repeating : Ledger → Bool
is_repeating l = is_ready l && not (is_served l)

-- that is to start
abbrev pub again_due : Ledger → Bool
again_due l = is_repeating l && is_none (again_of l)

-- it was full when so many items had been dealt
abbrev pub is_full_by : Ledger → ℕ → ℕ → Bool
is_full_by l count k = nat_le (reached l (k + 1)) count

-- items come: as many are dealt as the starts before them still take, and the others are dropped
abbrev pub items_came : Ledger → List Data → Ledger
items_came l more = record l { dealt = l.dealt ++ take (reach l.starts l.dealt - length l.dealt) more }

-- some message takes more items than were dealt
abbrev pub is_awaiting : Ledger → Bool
is_awaiting l = nat_lt (length l.dealt) (reach l.starts l.dealt)

-- what becomes of a value that comes
abbrev pub taking_of : Ledger → Data → Taking
taking_of l v = taking l.hearing (is_set_up l) (is_awaiting l) v

-- what is told of it, behind the items dealt so far
abbrev pub heard_at : Ledger → Option Notice → List Heard
heard_at l None = []
heard_at l (Some n) = record { after = length l.dealt; what = n } ∷ []

-- a value is dealt, or isn't
abbrev pub dealt_if : Bool → Ledger → Data → Ledger
dealt_if dealt l v = if dealt then items_came l (v ∷ []) else l

-- a value comes, of which this becomes
abbrev pub value_by : Ledger → Taking → Data → Ledger
value_by l t v = dealt_if t.dealt (record l { notices = l.notices ++ heard_at l t.told; strange = t.ends }) v

-- a value comes; behind one that ends the link nothing is read
abbrev pub value_came : Ledger → Data → Ledger
value_came l v = if l.strange then l else value_by l (taking_of l v) v

-- values come, one after another
abbrev pub values_came : Ledger → List Data → Ledger
values_came l [] = l
values_came l (v ∷ vs) = values_came (value_came l v) vs

-- bytes come: the values that are whole now do
abbrev pub bytes_came : Ledger → List ℕ → Ledger
bytes_came l piece = values_came (record l { rest = left_over (l.rest ++ piece) }) (values (l.rest ++ piece))

-- its connect was asked for and isn't answered
abbrev pub dials : Ledger → Bool
dials l = l.asked && not l.up && not (is_over l)

-- a link whose connect failed in this turn: it ends by that alone, and took no requests
abbrev pub refused_in : Ledger → ℕ → RedisError → Ledger
refused_in l turn e = record l { end = Some (record { turn = turn; why = lasting l.last (by_opening e); oldest = 0; served = false }) }

-- the first credentials come, for which its setup waits: they are said to its server
abbrev pub authorized_by : Ledger → Credentials → Ledger
authorized_by l c = record l { info = record l.info { username = Some c.username; password = Some c.password }; creds = record l.creds { given = true } }

-- it is up, a source was asked for, and its setup waits for credentials
abbrev pub awaits_credentials : Ledger → Bool
awaits_credentials l = l.up && l.creds.asked && lacks_credentials l

-- it is ready, and new credentials may come
abbrev pub may_renew : Ledger → Bool
may_renew l = is_ready l && l.creds.renews && not l.creds.over

-- new credentials come, to be told to its server
abbrev pub renewed_by : Ledger → Credentials → Ledger
renewed_by l c = record l { creds = record l.creds { renewals = l.creds.renewals ++ c ∷ [] } }

-- no more of them come
abbrev pub unrenewed_by : Ledger → Ledger
unrenewed_by l = record l { creds = record l.creds { over = true } }

-- what is subscribed again was not answered in time
abbrev pub unrepeated_by : Ledger → Ledger
unrepeated_by l = record l { again = record l.again { over = true } }

-- some were not answered in time
abbrev pub lost_by : Ledger → Ledger
lost_by l = record l { creds = record l.creds { lost = true } }

-- a start that tells new credentials
abbrev pub is_of_renewal : Owner → Bool
is_of_renewal owner.Auth = true
is_of_renewal owner.Setup = false
is_of_renewal (owner.Try n round) = false
is_of_renewal owner.Resub = false
is_of_renewal owner.Monitor = false

-- how many of these starts do
abbrev pub renewal_count : List Start → ℕ
renewal_count [] = 0
renewal_count (s ∷ ss) = if is_of_renewal s.owner then suc (renewal_count ss) else renewal_count ss

-- the number of the last of these starts that does, where the first of them has the number k and old is that of the last before
abbrev pub last_renewal : List Start → ℕ → Option ℕ → Option ℕ
last_renewal [] k old = old
last_renewal (s ∷ ss) k old = last_renewal ss (suc k) (if is_of_renewal s.owner then Some k else old)

-- a server takes credentials where its reply is no error, as it confirms a subscription call
abbrev pub is_done : Verdict → Bool
is_done verdict.Done = true
is_done _ = false

-- its message of that number has its item, and that is no error; true where there is no such message
abbrev pub is_taken : Ledger → Option ℕ → Bool
is_taken l None = true
is_taken l (Some k) = is_full l k && is_done (verdict_of Confirmation (cut l k Confirmation))

-- the credentials that are to be told to its server next: the first that were not, where those before were taken, and in time
abbrev pub renewal_due : Ledger → Option Credentials
renewal_due l =
    if l.up && not l.creds.lost && is_taken l (last_renewal l.starts 0 None)
    then slice_get l.creds.renewals (renewal_count l.starts) else None

-- how many of its new credentials were to be told so far
abbrev pub renewals_asked : Ledger → ℕ
renewals_asked l = renewal_count l.starts + (if is_some (renewal_due l) then 1 else 0)

-- its message of that number has its items; true where there is no such message
abbrev pub is_full_last : Ledger → Option ℕ → Bool
is_full_last l None = true
is_full_last l (Some k) = is_full l k

-- credentials of that number are to be told, or were and are not answered
abbrev pub is_renewal_open : Ledger → ℕ → Bool
is_renewal_open l k =
    if is_some (renewal_due l) then k == renewal_count l.starts
    else (suc k == renewal_count l.starts) && not (is_full_last l (last_renewal l.starts 0 None))

-- the message that tells new credentials
abbrev pub renewal_message : Credentials → Start
renewal_message c = record { owner = owner.Auth; shape = Confirmation; bytes = auth_bytes c.username c.password }

-- a source of credentials is to be asked for: once it is up, and once more when it is set up
abbrev pub source_due : Ledger → Bool
source_due l = l.up && l.creds.wanted && (not l.creds.asked || (is_set_up l && not l.creds.renews))

-- what news makes of it in this turn: a link is up from its first successful connect until its end
abbrev pub with_news : Ledger → ℕ → News → Ledger
with_news l turn connected = if is_over l then l else record l { up = true }
with_news l turn (refused f) = if dials l then refused_in l turn (error.Io f) else l
with_news l turn (took count) = if l.up then record l { taken = l.taken ++ take count l.offer; offer = [] } else l
with_news l turn (came piece) = if l.up then bytes_came l piece else l
with_news l turn (authorized c) = if awaits_credentials l then authorized_by l c else l
with_news l turn (denied text) = l
with_news l turn deserted = l
with_news l turn (renewed c) = if may_renew l then renewed_by l c else l
with_news l turn unrenewed = if l.up then unrenewed_by l else l
with_news l turn (late k) = if l.up && is_renewal_open l k then lost_by l else l
with_news l turn unrepeated = if is_repeating l then unrepeated_by l else l
with_news l turn silence = l
with_news l turn overdue = l
with_news l turn (failed f) = l
with_news l turn dropped = l
with_news l turn shut = l

-- the error with which a setup failed
abbrev pub error_in : Option SetupResult → Option RedisError
error_in (Some (Failed e)) = Some e
error_in _ = None

-- the server counts other arguments
abbrev pub repeats : Option SetupResult → Bool
repeats (Some RepeatWithoutUser) = true
repeats _ = false

-- the number of the setup that is to start next, of so many that started: the first where something is to be said, and a
-- second one without the user name where the server counts other arguments
abbrev pub setup_after : Ledger → ℕ → Option ℕ
setup_after l zero = if lacks_credentials l || says_nothing (setup_steps l 0) then None else Some 0
setup_after l (suc zero) = if repeats (result_of l 0) then Some 1 else None
setup_after l (suc (suc k)) = None

-- the setup that is to start on a link that is up
abbrev pub setup_due : Ledger → Option ℕ
setup_due l = if l.up then setup_after l (setup_count l.starts) else None

-- the message of the setup that starts as number k
abbrev pub setup_message : Ledger → ℕ → Start
setup_message l k = record { owner = owner.Setup; shape = setup_shape (setup_steps l k); bytes = setup_bytes (setup_steps l k) }

-- the message by which its server is put into monitor mode
abbrev pub monitor_message : Start
monitor_message = record { owner = owner.Monitor; shape = Single; bytes = pack (codes "MONITOR" ∷ []) }

-- it is to start on a link that is up: what is said before the first request is answered well
abbrev pub monitor_due : Ledger → Bool
monitor_due l = l.up && is_watching l.hearing && is_greeted l && is_none (monitor_of l)

-- the error that a fault is
abbrev pub fault_error : LinkFault → RedisError
fault_error fault.Ended = error.Closed
fault_error (fault.Io f) = error.Io f
fault_error fault.Parse = error.Parse

-- the error with which the opening of a link fails that a fault ends: MONITOR is a single command, which gets the fault itself
-- once it has started; what is said before it gets the closed connection, as a pipeline does
abbrev pub opening_error : Ledger → LinkFault → RedisError
opening_error l f = if is_some (monitor_of l) then fault_error f else error.Closed

-- what came can't be read on: it begins no value, or ended with one that ends the link
abbrev pub is_unreadable : Ledger → Bool
is_unreadable l = is_spoiled l.rest || l.strange

-- the stream of messages is dropped: this ends a link of messages
abbrev pub ending_dropped : Ledger → Ending → Option Ending
ending_dropped l why = if hears_messages l.hearing then Some why else None

-- what ends a link that is up and set up: its peer, a read or a write that failed, bytes that begin no value, a value that isn't
-- taken, that the stream of messages is dropped, or the shutdown
abbrev pub ending_up : Ledger → News → Option Ending
ending_up l (came piece) = if is_unreadable l then Some (by_fault (felt l.hearing fault.Parse)) else None
ending_up l (failed f) = Some (by_fault (felt l.hearing f))
ending_up l dropped = ending_dropped l (by_fault fault.Ended)
ending_up l shut = Some by_shutdown
ending_up l silence = None
ending_up l connected = None
ending_up l (refused f) = None
ending_up l overdue = None
ending_up l (took count) = None
ending_up l (authorized c) = None
ending_up l (denied text) = None
ending_up l deserted = None
ending_up l (renewed c) = None
ending_up l unrenewed = None
ending_up l (late k) = None
ending_up l unrepeated = None

-- what ends a link that is up and not set up: the setup failed, or there are no credentials for it, the time for it is over,
-- the stream of messages is dropped, everything is shut down, or the link fails
abbrev pub ending_unready : Ledger → News → Option Ending
ending_unready l shut = Some by_shutdown
ending_unready l overdue = Some (by_opening (error.Io kind.TimedOut))
ending_unready l (failed f) = Some (by_opening (opening_error l f))
ending_unready l (came piece) = if is_unreadable l then Some (by_opening (opening_error l fault.Parse)) else None
ending_unready l dropped = ending_dropped l (by_opening error.Closed)
ending_unready l silence = None
ending_unready l connected = None
ending_unready l (refused f) = None
ending_unready l (took count) = None
ending_unready l (denied text) = if lacks_credentials l then Some (by_opening (error.Credentials text)) else None
ending_unready l deserted = if lacks_credentials l then Some (by_opening (error.AuthFailed [])) else None
ending_unready l (authorized c) = None
ending_unready l (renewed c) = None
ending_unready l unrenewed = None
ending_unready l (late k) = None
ending_unready l unrepeated = None

abbrev pub ending_by : Option RedisError → Option Ending → Option Ending
ending_by None other = other
ending_by (Some e) other = Some (by_opening e)

-- what ends a link that is up
abbrev pub ending_alive : Ledger → Option Ending
ending_alive l = if is_set_up l then ending_up l l.heard else ending_by (error_in (setup_result l)) (ending_unready l l.heard)

-- what closes a link whose connect isn't answered: the shutdown, the end of the time in which it was to be connected, and that
-- the stream of messages is dropped
abbrev pub ending_asked : Ledger → News → Option Ending
ending_asked l shut = Some by_shutdown
ending_asked l overdue = Some (by_opening (error.Io kind.TimedOut))
ending_asked l dropped = ending_dropped l (by_opening error.Closed)
ending_asked l silence = None
ending_asked l connected = None
ending_asked l (refused f) = None
ending_asked l (took count) = None
ending_asked l (came piece) = None
ending_asked l (failed f) = None
ending_asked l (authorized c) = None
ending_asked l (denied text) = None
ending_asked l deserted = None
ending_asked l (renewed c) = None
ending_asked l unrenewed = None
ending_asked l (late k) = None
ending_asked l unrepeated = None

-- what must end the link in the turn that runs, if anything does
abbrev pub ending : Ledger → Option Ending
ending l = if l.up then ending_alive l else (if l.asked && not (is_over l) then ending_asked l l.heard else None)

abbrev pub ending_or_shutdown : Option Ending → Ending
ending_or_shutdown None = by_shutdown
ending_or_shutdown (Some why) = why

-- how many of these messages, from the first on, these items fill
abbrev pub full_count : List Start → List Data → ℕ
full_count [] dealt = 0
full_count (s ∷ ss) dealt = if nat_le (need_in s.shape dealt) (length dealt) then suc (full_count ss (drop (need_in s.shape dealt) dealt)) else 0

-- the link ends
abbrev pub ended : Ledger → ℕ → Ledger
ended l turn = record l { up = false; end = Some (record { turn = turn; why = lasting l.last (ending_or_shutdown (ending l)); oldest = full_count l.starts l.dealt; served = is_serving l }) }

-- a line of what is told of a link: its connect is asked for, this is to be said to its server then, whether credentials are to
-- come of sources, what is heard on it, whether no other attempt follows where its opening fails, and whether something is
-- subscribed again on it; the turn of that number, with this news for it; a message begins; its unwritten bytes are offered; the
-- next notice is told; a source of credentials is asked for; a timer for new credentials is, or one for what is subscribed again;
-- it is closed, in that turn; its end is told as a push
pub data Line : Type 0 where
  asks : RedisConnectionInfo → Bool → Hearing → Bool → Bool → Line
  hears : ℕ → News → Line
  begins : Start → Line
  offers : List ℕ → Line
  tells : Line
  sources : Line
  times : Line
  repeats_timed : Line
  ends : ℕ → Line
  parts : Line

-- what one more line makes of it
abbrev pub noted : Ledger → Line → Ledger
noted l (asks info wanted hears_what last again) = record l { asked = true; info = info; hearing = hears_what; creds = unsourced wanted; again = unasked_again again; last = last }
noted l (hears turn news) = record (with_news l turn news) { heard = news }
noted l (begins s) = record l { starts = l.starts ++ s ∷ [] }
noted l (offers bytes) = record l { offer = bytes }
noted l tells = record l { told = l.told + 1 }
noted l sources = record l { creds = record l.creds { asked = true; renews = l.creds.asked } }
noted l times = record l { creds = record l.creds { timed = l.creds.timed + 1 } }
noted l repeats_timed = record l { again = record l.again { timed = true } }
noted l (ends turn) = ended l turn
noted l parts = record l { parted = true }

abbrev pub noted_each : Ledger → List Line → Ledger
noted_each l [] = l
noted_each l (x ∷ more) = noted_each (noted l x) more

-- the ledger of a link of which this is told
abbrev pub ledger : List Line → Ledger
ledger lines = noted_each blank_ledger lines

-- the error with which the opening of a link failed, if it did
abbrev pub failure_in : Option End → Option RedisError
failure_in None = None
failure_in (Some end) = failure_of end.why

-- the bytes of messages, one after another
abbrev pub joined : List Start → List ℕ
joined starts = flat_map (λ s. s.bytes) starts

-- the bytes that the link took, and then those that are offered to it
abbrev pub stream : Ledger → List ℕ
stream l = l.taken ++ l.offer

-- the bytes of started messages that were not taken
abbrev pub unwritten : Ledger → List ℕ
unwritten l = drop (length l.taken) (joined l.starts)

-- nothing is unwritten, or an offer is unanswered
abbrev pub IsOffered : Ledger → Type 0
IsOffered l = (unwritten l ≡ []) ⊎ (l.offer ≢ [])

-- no more bytes are taken than were offered
abbrev pub IsWithin : Ledger → News → Type 0
IsWithin l (took count) = l.up ≡ true → count ≤ length l.offer
IsWithin l _ = Unit {0}

-- what is to be told of a link next, if something came that wasn't
abbrev pub next_notice : Ledger → Option Heard
next_notice l = slice_get l.notices l.told

-- its link ended by a fault once it was set up, so that this is told as a push where somebody hears pushes
abbrev pub is_cut : Option End → Bool
is_cut None = false
is_cut (Some end) = is_fault end.why

-- where a line may stand: a link is asked for once; its messages have bytes, and start while it is up; it is offered all
-- its unwritten bytes at once, where no offer is unanswered; something is told that came; a source of credentials is asked for
-- that is to be, and a timer for credentials that were to be told, or for what is to be subscribed again, once; it ends where
-- something must end it; and that a fault ended
-- it is told once
abbrev pub MayNote : Ledger → Line → Type 0
MayNote l (asks info wanted hears_what last again) = l.asked ≡ false
MayNote l (hears turn news) = IsWithin l news
MayNote l (begins s) = (l.up ≡ true) × (s.bytes ≢ [])
MayNote l (offers bytes) = (l.up ≡ true) × (l.offer ≡ []) × (bytes ≡ unwritten l) × (bytes ≢ [])
MayNote l tells = is_some (next_notice l) ≡ true
MayNote l sources = source_due l ≡ true
MayNote l times = l.creds.timed < renewals_asked l
MayNote l repeats_timed = (again_due l ≡ true) × (l.again.timed ≡ false)
MayNote l (ends turn) = (why : Ending) × (ending l ≡ Some why)
MayNote l parts = (is_cut l.end ≡ true) × (l.parted ≡ false)

-- each of these lines stands where it may, behind what is in the ledger
abbrev pub AllNoted : Ledger → List Line → Type 0
AllNoted l [] = Unit {0}
AllNoted l (x ∷ more) = MayNote l x × AllNoted (noted l x) more

-- what is told of a link can be relied on
abbrev pub LinkLegal : List Line → Type 0
LinkLegal lines = AllNoted blank_ledger lines
