-- What ties a connection, its requests and its link to a ledger and to the stories of submissions.
use Rattle.std.proofs.Common.{arith, ◌≡◌, ◌≢◌, ◌⊎◌, ℕ, ◌+◌, ◌^◌, ◌<◌, ◌≤◌, ◌==◌, if◌then◌else◌, Bool, true, false, List, [], ◌∷◌, ◌++◌, length, drop, Option, Some, None, slice_get, ◌&&◌}
use Rattle.std.specs.List.{AllByRecursion}
use Rattle.redis_error.specs.declared.redis_error.RedisError.{RedisError}
use Rattle.resp_value.specs.declared.value.Value.TheVariants.{Nil}
use Rattle.driver_model.specs.declared.action.Owner.{Owner}
use Rattle.driver_model.specs.declared.action.SourceUse.{SourceUse}
use Rattle.driver_model.specs.declared.action.SourceUse.TheVariants as source
use Rattle.driver_model.specs.declared.action.Owner.TheVariants as owner
use Rattle.driver_model.specs.declared.action.WaitKind.{WaitKind}
use Rattle.driver_model.specs.declared.action.WaitKind.TheVariants as wait
use Rattle.driver_model.specs.declared.event.Submission.{Submission}
use Rattle.driver_model.specs.declared.outcome.Outcome.TheVariants as outcome
use Rattle.driver_model.specs.declared.outcome.Shape.{Shape}
use Rattle.driver_model.specs.declared.hearing.Hearing.{Hearing}
use Rattle.driver_model.specs.Hearing.{hears_something, hears_pushes, is_watching}
use Rattle.link_core.specs.declared.message.Entry.{Entry}
use Rattle.link_core.specs.declared.message.Queued.{Queued}
use Rattle.link_core.specs.Link.{LinkState, fresh as fresh_link}
use Rattle.link_laws.specs.Settles.{wanted, awaited_ids}
use Rattle.driver_model.specs.declared.outcome.Shape.TheVariants.{Confirmation}
use Rattle.mux_conn.specs.declared.life.Greeting.{Greeting}
use Rattle.mux_conn.specs.declared.life.Greeting.TheVariants as greet
use Rattle.mux_conn.specs.declared.life.Life.{Life}
use Rattle.mux_conn.specs.declared.life.Life.TheVariants.{Resting, Dialing, Wanting, SettingUp, Ready, Ended}
use Rattle.mux_conn.specs.declared.renewal.Renewal.{Renewal}
use Rattle.mux_conn.specs.declared.again.Again.{Again}
use Rattle.mux_conn.specs.Connection.{is_outstanding}
use Rattle.mux_conn.specs.Renewals.{renewal_id}
use Rattle.mux_conn.specs.declared.request.Pending.{Pending}
use Rattle.mux_conn.specs.declared.request.Request.{Request}
use Rattle.mux_conn.specs.declared.request.Waiting.{Waiting}
use Rattle.mux_conn.specs.Requests.{name_at, permits_at, is_open_at, is_unbegun_at, is_waiting_at, is_admitted_at, is_placed_at}
use Rattle.legal_trace.specs.Ledger.{Ledger, Heard, Start, End, blank_ledger, failure_in, is_cut, is_over, next_notice, renewals_asked, setup_count}
use Rattle.legal_trace.specs.Story.{Story, blank_story, is_open, is_told, bytes_of, shape, is_awaited}
use Rattle.legal_trace.specs.Steps.{permits_held, is_let_in}
use Rattle.legal_trace.specs.Owed.{owed_unstarted}
use Rattle.conn_laws.proofs.Ties.Numbers.{IsIn, Rising, is_own, requests_in}
use Rattle.driver_model.specs.News.{News, came}
use Rattle.conn_laws.proofs.Internal.Repeats.{serves}
use Rattle.conn_laws.proofs.Links.Server.{owners_of, setup_owners}

-- a link without messages
abbrev pub no_link : LinkState
no_link = fresh_link 0 0

-- the link of a connection as requests see it: it has none of their messages where it isn't up and set up
abbrev pub link_in : Life → LinkState
link_in Resting = no_link
link_in Dialing = no_link
link_in (Wanting link) = no_link
link_in (SettingUp link greeting) = no_link
link_in (Ready link) = link
link_in (Ended e) = no_link

-- it takes no more messages
abbrev pub has_ended : Life → Bool
has_ended Resting = false
has_ended Dialing = false
has_ended (Wanting link) = false
has_ended (SettingUp link greeting) = false
has_ended (Ready link) = false
has_ended (Ended e) = true

-- whose message that of a number of the driver's own is
abbrev pub own_owner : ℕ → Owner
own_owner p = if p == renewal_id then owner.Auth else owner.Resub

-- whose message that of a number is: a request's, AUTH, or what is subscribed again
abbrev pub owner_of : List Request → ℕ → Owner
owner_of requests p = if is_own p then own_owner p else owner.Try (name_at requests p) 0

-- the link of a connection, also while it waits for credentials, and while it is set up
abbrev pub whole_link : Life → LinkState
whole_link Resting = no_link
whole_link Dialing = no_link
whole_link (Wanting link) = link
whole_link (SettingUp link greeting) = link
whole_link (Ready link) = link
whole_link (Ended e) = no_link

-- whose message a greeting is
abbrev pub greeter : Greeting → Owner
greeter greet.WithUser = owner.Setup
greeter greet.WithoutUser = owner.Setup
greeter greet.Monitor = owner.Monitor

-- whose messages its link carries: those of its greetings alone, until it is set up
abbrev pub carried : Life → List Request → ℕ → Owner
carried Resting requests = owner_of requests
carried Dialing requests = owner_of requests
carried (Wanting link) requests = λ p. owner.Setup
carried (SettingUp link greeting) requests = λ p. greeter greeting
carried (Ready link) requests = owner_of requests
carried (Ended e) requests = owner_of requests

abbrev pub queue_ids : List Queued → List ℕ
queue_ids [] = []
queue_ids (q ∷ qs) = q.id ∷ queue_ids qs

abbrev pub waiting_ids : List Waiting → List ℕ
waiting_ids [] = []
waiting_ids (w ∷ ws) = w.number ∷ waiting_ids ws

abbrev pub owners_each : List Request → List ℕ → List Owner
owners_each requests [] = []
owners_each requests (p ∷ ps) = owner_of requests p ∷ owners_each requests ps

-- a source of credentials is for this link or one before it; and where it is for this, for its setup or for its renewals, the link
-- knows of it
abbrev pub IsUse : SourceUse → ℕ → Bool → Bool → Type 0
IsUse (source.Setup l) link asked renews = (l ≤ link) × (l ≡ link → asked ≡ true)
IsUse (source.Renewal l) link asked renews = (l ≤ link) × (l ≡ link → renews ≡ true)

-- all sources are
abbrev pub AreUses : List SourceUse → ℕ → Bool → Bool → Type 0
AreUses sources link asked renews = (k : ℕ) (what : SourceUse) → slice_get sources k ≡ Some what → IsUse what link asked renews

-- where the server is put into monitor mode nothing is submitted, no credentials come of sources, and nothing is subscribed again
pub record IsBare (table : List (Option Pending)) (r : Renewal) (a : Again) : Type 0 where
  pub none : table ≡ []
  pub unwanted : r.wanted ≡ false
  pub unrenewed : r.waiting ≡ []
  pub unrepeated : is_outstanding a ≡ false

-- where the opening failed, this was shown
abbrev pub FailureIsShown : Option End → ℕ → Type 0
FailureIsShown end created = (e : RedisError) → failure_in end ≡ Some e → created ≢ 0

-- a link that was never asked for: it has heard of turns alone
abbrev pub IsUnknown : Ledger → Type 0
IsUnknown l = l ≡ record blank_ledger { heard = l.heard }

-- link m, another than the connection's, isn't up. It is over where it is one of so many that were asked for, and else unknown;
-- nothing of it is still to be told, its failure was shown, if its opening failed, and a timer was asked for all of its new
-- credentials, where they are to be answered within a time
pub record IsAside (links m : ℕ) (l : Ledger) (hears : Hearing) (within : Option ℕ) (created : ℕ) : Type 0 where
  pub down : l.up ≡ false
  pub over : m < links → is_over l ≡ true
  pub unknown : links ≤ m → IsUnknown l
  pub told : hears_something hears ≡ true → next_notice l ≡ None
  pub parts : hears_pushes hears ≡ true → is_cut l.end ≡ true → l.parted ≡ true
  pub shown : FailureIsShown l.end created
  pub timed : within ≢ None → renewals_asked l ≤ l.creds.timed
  pub few : renewals_asked l < 2 ^ 32

-- all links but this one are
abbrev pub AreAside : ℕ → ℕ → (ℕ → Ledger) → Hearing → Option ℕ → ℕ → Type 0
AreAside link links ledgers hears within created = (m : ℕ) → m ≢ link → IsAside links m (ledgers m) hears within created

-- these are bytes that came
abbrev pub brings_bytes : News → Bool
brings_bytes (came piece) = true
brings_bytes _ = false

-- the turn that runs brings bytes for a link that is up
abbrev pub is_reading : Ledger → Bool
is_reading l = brings_bytes l.heard && l.up

-- what is heard is what the configuration says, also for the link; where something is, that is still to be told which wasn't; where
-- pushes are, its end, by a fault once it was set up, was told but where it is still to be; and until it ends, no value came that
-- ends it, but in a turn that brings bytes
pub record TiedNotices (heard hears hearing : Hearing) (notices : List Heard) (told : ℕ) (end : Option End) (parted strange reading : Bool) (untold : List Heard) (parting : Bool) : Type 0 where
  pub heard_is : heard ≡ hears
  pub hearing_is : hearing ≡ hears
  pub within : hears_something hears ≡ true → told ≤ length notices
  pub untold_is : hears_something hears ≡ true → drop told notices ≡ untold
  pub parts : hears_pushes hears ≡ true → parting ≡ false → is_cut end ≡ true → parted ≡ true
  pub alive : end ≡ None → parted ≡ false
  pub due : parting ≡ true → parted ≡ false
  pub tame : end ≡ None → reading ≡ false → strange ≡ false

-- that it is ready, or that its opening failed, is shown where it was told, and not before
pub record TiedCreation (created : ℕ) (told : Bool) : Type 0 where
  pub before : told ≡ false → created ≡ 0
  pub after : told ≡ true → created ≢ 0

-- it is told then
pub shown_creation : (created : ℕ) → TiedCreation (created + 1) true
shown_creation created = record { before = λ e. cc; after = λ e none. absurd (let no : created + 1 ≡ 0 = none in omega (arith, no)) }

-- how far the link has come. Where the connection has none, that which is to be its next was never asked for. Where it has ended, a
-- submission without a message gets this error
abbrev pub TiedLife : Ledger → ℕ → Life → Type 0
TiedLife l created Resting = (l.asked ≡ false) × (l.up ≡ false) × (l.end ≡ None) × (is_watching l.hearing ≡ false)
TiedLife l created Dialing = (l.asked ≡ true) × (l.up ≡ false) × (l.end ≡ None)
TiedLife l created (Wanting link) = (l.asked ≡ true) × (l.up ≡ true) × (l.end ≡ None)
TiedLife l created (SettingUp link greeting) = (l.asked ≡ true) × (l.up ≡ true) × (l.end ≡ None)
TiedLife l created (Ready link) = (l.asked ≡ true) × (l.up ≡ true) × (l.end ≡ None) × (created ≢ 0)
TiedLife l created (Ended e) = (l.up ≡ false) × (owed_unstarted l.end ≡ Some (outcome.Fault e)) × FailureIsShown l.end created × (l.asked ≡ true)

-- a link has ended: where it was not set up, its opening failed, or everything was shut down; and where it was, it didn't
pub record IsOver (end : Option End) (shut opened : Bool) : Type 0 where
  pub failed : opened ≡ false → shut ≡ false → failure_in end ≢ None
  pub unfailed : opened ≡ true → failure_in end ≡ None

-- each request has the name of a submission, whose request it is, and names rise with the requests, of which there are no more
-- than submissions
pub record TiedNames (table : List (Option Pending)) (requests : List Request) : Type 0 where
  pub few : length requests ≤ length table
  pub named : (p : ℕ) (r : Request) → slice_get requests p ≡ Some r → slice_get table r.name ≡ Some (Some (record { number = p }))
  pub kept : (n : ℕ) (p : Pending) → slice_get table n ≡ Some (Some p) → (r : Request) × (slice_get requests p.number ≡ Some r) × (r.name ≡ n)
  pub rising : (p q : ℕ) (r s : Request) → p < q → slice_get requests p ≡ Some r → slice_get requests q ≡ Some s → r.name < s.name

-- a submission that was answered at once
pub record IsRefused (s : Story) : Type 0 where
  pub what : Submission
  pub handed_in : s.submission ≡ Some what
  pub untried : s.tries ≡ []
  pub error : RedisError
  pub answered : s.outcomes ≡ outcome.Fault error ∷ []

-- a submission that is a request of the connection, and goes to that link while it is open
pub record IsRequest (s : Story) (requests : List Request) (link p : ℕ) : Type 0 where
  pub what : Submission
  pub handed_in : s.submission ≡ Some what
  pub in_time : s.late ≡ false
  pub spoken : s.unspoken ≡ false
  pub on : is_open_at requests p ≡ true → s.link ≡ link
  pub some : bytes_of s ≢ []
  pub open_is : is_open s ≡ is_open_at requests p
  pub permits_is : s.permits ≡ permits_at requests p

-- what a submission's story says, by what the session keeps of it
abbrev pub TiedStory : Story → List Request → ℕ → Option (Option Pending) → Type 0
TiedStory s requests link None = s ≡ blank_story
TiedStory s requests link (Some None) = IsRefused s
TiedStory s requests link (Some (Some p)) = IsRequest s requests link p.number

-- a message of a greeting
abbrev pub is_of_greeting : Owner → Bool
is_of_greeting owner.Setup = true
is_of_greeting owner.Monitor = true
is_of_greeting owner.Auth = false
is_of_greeting owner.Resub = false
is_of_greeting (owner.Try n round) = false

-- nothing but greetings has started
pub record HasGreetedAlone (starts : List Start) (started : List ℕ) : Type 0 where
  pub none : started ≡ []
  pub greets : (k : ℕ) (s : Start) → slice_get starts k ≡ Some s → is_of_greeting s.owner ≡ true

-- the messages that started, by the tries of their submissions, behind those of the setup, where the server isn't put into monitor
-- mode; each request's has its submission's shape; and a request that goes to the link, and whose message has not started, has none
pub record TiedTries (l : Ledger) (story : ℕ → Story) (requests : List Request) (link : ℕ) (started : List ℕ) : Type 0 where
  pub owners : is_watching l.hearing ≡ false → owners_of l.starts ≡ setup_owners (setup_count l.starts) (owners_each requests started)
  pub greeted : is_watching l.hearing ≡ true → HasGreetedAlone l.starts started
  pub shapes : (k : ℕ) (p : ℕ) (s : Start) → p < length requests → slice_get started k ≡ Some p → slice_get l.starts (setup_count l.starts + k) ≡ Some s → s.shape ≡ shape (story (name_at requests p))
  pub tried : (k p : ℕ) → p < length requests → slice_get started k ≡ Some p → (story (name_at requests p)).tries ≡ record { link = link; message = setup_count l.starts + k } ∷ []
  pub untried : (p : ℕ) (r : Request) → slice_get requests p ≡ Some r → (IsIn p started → ⊥) → (story r.name).link ≡ link → (story r.name).tries ≡ []

-- these are the bytes and the shape of a submission, and whether its reply is awaited
pub record IsOf (s : Story) (bytes : List ℕ) (of_shape : Shape) (awaited : Bool) : Type 0 where
  pub packs : bytes ≡ bytes_of s
  pub shape_is : of_shape ≡ shape s
  pub awaited_is : awaited ≡ is_awaited s

-- a message of the queue: it has its place while its reply is awaited, and else it was answered with Nil there
pub record IsQueued (story : ℕ → Story) (requests : List Request) (q : Queued) : Type 0 where
  pub is_of : IsOf (story (name_at requests q.id)) q.packed q.shape q.awaited
  pub placed_at : q.awaited ≡ true → is_placed_at requests q.id ≡ true
  pub told : q.awaited ≡ false → (story (name_at requests q.id)).outcomes ≡ outcome.One Nil ∷ []

-- a started message of a request that takes more items: it has its place while its verdict is wanted
pub record IsOfRequest (requests : List Request) (e : Entry) : Type 0 where
  pub below : e.id < length requests
  pub placed_at : e.awaited ≡ true → is_placed_at requests e.id ≡ true

-- what the driver said itself, which takes its replies: AUTH, which is a single confirmation, or what is subscribed again
pub record IsOfDriver (e : Entry) : Type 0 where
  pub is : is_own e.id ≡ true
  pub awaited_is : e.awaited ≡ true
  pub shape_is : e.id ≡ renewal_id → e.shape ≡ Confirmation

-- a started message that takes more items is one of these
abbrev pub IsEntry : List Request → Entry → Type 0
IsEntry requests e = IsOfRequest requests e ⊎ IsOfDriver e

-- one that waits is as its submission says, and is to be answered within its time
pub record IsPacked (story : ℕ → Story) (requests : List Request) (w : Waiting) : Type 0 where
  pub is_of : IsOf (story (name_at requests w.number)) w.packed w.shape w.awaited
  pub time_is : w.timeout ≡ (story (name_at requests w.number)).timeout

-- it waits for a place, or for the connection
abbrev pub IsKept : List Request → List Waiting → List Waiting → ℕ → Type 0
IsKept requests waiting admitted p = ((is_admitted_at requests p ≡ true) × IsIn p (waiting_ids admitted)) ⊎ ((is_waiting_at requests p ≡ true) × IsIn p (waiting_ids waiting))

-- those that started, those that have a place in the queue, those that wait for one and those that wait for the connection,
-- in the order of their numbers; each of them is as its submission says, and each open request is somewhere
pub record TiedLines (story : ℕ → Story) (requests : List Request) (link : LinkState) (waiting admitted : List Waiting) (pending started : List ℕ) : Type 0 where
  pub line : Rising 0 (requests_in started ++ (queue_ids link.queue ++ (waiting_ids admitted ++ waiting_ids waiting))) (length requests)
  pub queued : AllByRecursion (IsQueued story requests) link.queue
  pub entries : AllByRecursion (IsEntry requests) link.row
  pub packs : AllByRecursion (IsPacked story requests) waiting
  pub packed_in : AllByRecursion (IsPacked story requests) admitted
  pub there : (p : ℕ) → is_open_at requests p ≡ true → IsIn p (pending ++ (requests_in (wanted link.row) ++ awaited_ids link.queue)) ⊎ IsKept requests waiting admitted p

-- who was told at its place on the link of this number, and has not started, is in the queue; and what is in the queue goes to that
-- link
pub record IsQueueOf (story : ℕ → Story) (requests : List Request) (number : ℕ) (ids : List ℕ) : Type 0 where
  pub told : (n : ℕ) → is_told (story n) ≡ true → (story n).tries ≡ [] → (story n).link ≡ number → (p : ℕ) × (p < length requests) × (name_at requests p ≡ n) × IsIn p ids
  pub here : (p : ℕ) → IsIn p ids → (story (name_at requests p)).link ≡ number

-- of the queue of a link
abbrev pub AreQueued : (ℕ → Story) → List Request → ℕ → LinkState → Type 0
AreQueued story requests number link = IsQueueOf story requests number (queue_ids link.queue)

-- the wait that was shown of a request
abbrev pub shown_wait : (ℕ → Story) → List Request → ℕ → Option WaitKind
shown_wait story requests p = (story (name_at requests p)).waiting

-- a request that waits for the connection, or for a permit, has shown nothing or one of these; the first while there is no link, the
-- second while the connect isn't answered, the third while credentials are to come, the fourth while the link is set up, the fifth while
-- what is subscribed again isn't answered there, and until then not the sixth; and that once it takes requests, where its wait isn't to be shown yet; one that waits for a place, or has one in the queue, was moved in this turn and its wait isn't shown
-- yet, or has shown it; one that waits for a place has never shown that it waits for room
pub record TiedWaits (story : ℕ → Story) (requests : List Request) (a : Again) (life : Life) (fresh moved : List ℕ) : Type 0 where
  pub early : (p : ℕ) → is_waiting_at requests p ≡ true → (shown_wait story requests p ≡ None) ⊎ ((shown_wait story requests p ≡ Some wait.Backoff) ⊎ ((shown_wait story requests p ≡ Some wait.Connect) ⊎ ((shown_wait story requests p ≡ Some wait.Creds) ⊎ ((shown_wait story requests p ≡ Some wait.Setup) ⊎ ((shown_wait story requests p ≡ Some wait.Resubscribe) ⊎ (shown_wait story requests p ≡ Some wait.Permit))))))
  pub backoff : (p : ℕ) → is_waiting_at requests p ≡ true → life ≡ Resting → IsIn p fresh ⊎ (shown_wait story requests p ≡ Some wait.Backoff)
  pub connect : (p : ℕ) → is_waiting_at requests p ≡ true → life ≡ Dialing → IsIn p fresh ⊎ (shown_wait story requests p ≡ Some wait.Connect)
  pub creds : (p : ℕ) (link : LinkState) → is_waiting_at requests p ≡ true → life ≡ Wanting link → IsIn p fresh ⊎ (shown_wait story requests p ≡ Some wait.Creds)
  pub setup : (p : ℕ) (link : LinkState) (greeting : Greeting) → is_waiting_at requests p ≡ true → life ≡ SettingUp link greeting → IsIn p fresh ⊎ (shown_wait story requests p ≡ Some wait.Setup)
  pub resubscribe : (p : ℕ) (link : LinkState) → is_waiting_at requests p ≡ true → life ≡ Ready link → is_outstanding a ≡ true → IsIn p fresh ⊎ (shown_wait story requests p ≡ Some wait.Resubscribe)
  pub permit : (p : ℕ) (link : LinkState) → is_waiting_at requests p ≡ true → life ≡ Ready link → is_outstanding a ≡ false → IsIn p fresh ⊎ (shown_wait story requests p ≡ Some wait.Permit)
  pub place : (p : ℕ) → is_admitted_at requests p ≡ true → IsIn p moved ⊎ (shown_wait story requests p ≡ Some wait.Place)
  pub room : (p : ℕ) → IsIn p (awaited_ids (link_in life).queue) → IsIn p moved ⊎ (shown_wait story requests p ≡ Some wait.Room)
  pub newer : Rising 0 fresh (length requests)
  pub rising : Rising 0 moved (length requests)
  pub no_backoff : (p : ℕ) → IsIn p fresh → is_waiting_at requests p ≡ true → life ≡ Resting → shown_wait story requests p ≡ None
  pub no_connect : (p : ℕ) → IsIn p fresh → is_waiting_at requests p ≡ true → life ≡ Dialing → shown_wait story requests p ≢ Some wait.Connect
  pub no_creds : (p : ℕ) (link : LinkState) → IsIn p fresh → is_waiting_at requests p ≡ true → life ≡ Wanting link → shown_wait story requests p ≢ Some wait.Creds
  pub no_setup : (p : ℕ) (link : LinkState) (greeting : Greeting) → IsIn p fresh → is_waiting_at requests p ≡ true → life ≡ SettingUp link greeting → shown_wait story requests p ≢ Some wait.Setup
  pub no_resubscribe : (p : ℕ) (link : LinkState) → IsIn p fresh → is_waiting_at requests p ≡ true → life ≡ Ready link → is_outstanding a ≡ true → shown_wait story requests p ≢ Some wait.Resubscribe
  pub unpermitted : (p : ℕ) (link : LinkState) → is_waiting_at requests p ≡ true → life ≡ Ready link → is_outstanding a ≡ true → shown_wait story requests p ≢ Some wait.Permit
  pub no_permit : (p : ℕ) (link : LinkState) → IsIn p fresh → is_waiting_at requests p ≡ true → life ≡ Ready link → is_outstanding a ≡ false → shown_wait story requests p ≢ Some wait.Permit
  pub no_place : (p : ℕ) → IsIn p moved → is_admitted_at requests p ≡ true → shown_wait story requests p ≢ Some wait.Place
  pub seatless : (p : ℕ) → is_admitted_at requests p ≡ true → shown_wait story requests p ≢ Some wait.Room
  pub no_room : (p : ℕ) → IsIn p moved → IsIn p (awaited_ids (link_in life).queue) → shown_wait story requests p ≢ Some wait.Room

-- where permits are counted, those that submissions hold and those that are free are all; who waits for the
-- connection, or for a permit, holds none and has no timer, but for the one that is being let in; and who waits for a
-- place or has one was let in
pub record TiedPermits (story : ℕ → Story) (submissions : ℕ) (requests : List Request) (link : ℕ) (limit : Option ℕ) (free : ℕ) (being_admitted : List ℕ) : Type 0 where
  pub counted : (k : ℕ) → limit ≡ Some k → permits_held story link submissions + free ≡ k
  pub none : (p : ℕ) → is_waiting_at requests p ≡ true → (IsIn p being_admitted → ⊥) → (permits_at requests p ≡ 0) × ((story (name_at requests p)).clock ≡ None)
  pub let_in : (p : ℕ) → (is_admitted_at requests p ≡ true) ⊎ (is_placed_at requests p ≡ true) → is_let_in limit (story (name_at requests p)) ≡ true

-- rounds are shown where the session has generations. Of who waits and whose round has not begun none was shown, and of any other
-- request that is open it was, where they are shown; and then, where the link takes requests, who waits so came in this turn
pub record TiedRounds (comes : Bool) (story : ℕ → Story) (requests : List Request) (ready : Bool) (fresh : List ℕ) (rounds : Bool) : Type 0 where
  pub rounds_is : comes ≡ rounds
  pub unbegun : (p : ℕ) → is_unbegun_at requests p ≡ true → (story (name_at requests p)).rounded ≡ false
  pub begun : (p : ℕ) → rounds ≡ true → is_open_at requests p ≡ true → is_unbegun_at requests p ≡ false → (story (name_at requests p)).rounded ≡ true
  pub new : (p : ℕ) → rounds ≡ true → ready ≡ true → is_unbegun_at requests p ≡ true → IsIn p fresh

-- the round of no open request has begun, and no message is in the queue
pub record NoneHasBegun (requests : List Request) (life : Life) : Type 0 where
  pub unbegun : (p : ℕ) → is_open_at requests p ≡ true → is_unbegun_at requests p ≡ true
  pub empty : (link_in life).queue ≡ []

-- so it is until the link takes requests
abbrev pub AreEarly : List Request → Again → Life → Type 0
AreEarly requests a life = serves life a ≡ false → has_ended life ≡ false → NoneHasBegun requests life

-- an open submission whose time is over is to be answered
abbrev pub AreLate : (ℕ → Story) → List Request → List ℕ → Type 0
AreLate story requests pending = (p : ℕ) → is_open_at requests p ≡ true → (story (name_at requests p)).overdue ≡ true → IsIn p pending
