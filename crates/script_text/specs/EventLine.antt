-- Which event the words of a line are.
use Rattle.std.specs.Prelude.{ℕ, List, [], ◌∷◌, Option, Some, None, option_map, option_and_then, bytes_eq, codes, if◌then◌else◌}
use Rattle.driver_model.specs.declared.kind.SessionKind.{SessionKind}
use Rattle.driver_model.specs.declared.kind.SessionKind.TheVariants as kind
use Rattle.driver_model.specs.declared.event.Event.{Event}
use Rattle.driver_model.specs.declared.event.EventKind.{EventKind}
use Rattle.driver_model.specs.declared.event.EventKind.TheVariants.{Submit, Cancel, Connected, Refused, Wrote, Bytes, Ended, ReadFault, WriteFault, Fired, Creds, CredsError, CredsEnd, Timeout, DropStream, Shutdown}
use Rattle.driver_model.specs.declared.event.Submission.{Submission}
use Rattle.driver_model.specs.declared.event.Submission.TheVariants.{Cmd, NoReply, Pipe, Multi, Packed, Subscription, Ping}
use Rattle.resp_write.specs.declared.subscription.SubscriptionAction.{SubscriptionAction}
use Rattle.resp_write.specs.declared.subscription.SubscriptionAction.TheVariants as action
use Rattle.redis_error.specs.declared.fault_kind.FaultKind.{FaultKind}
use Rattle.redis_error.specs.declared.fault_kind.FaultKind.TheVariants as fault
use Rattle.redis_error.specs.Names.{fault_name}
use Rattle.script_text.specs.Draws.{drawn}
use Rattle.script_text.specs.Numbers.{number, max_u32, max_u64, time_limit}
use Rattle.script_text.specs.Words.{LineWords}

-- first words, each with how the words behind it are read, and those behind separators
abbrev pub Forms : Type 0 → Type 0
Forms A = List (List ℕ × (List (List ℕ) → List (List (List ℕ)) → Option A))

-- the words behind the first, read as that one tells
abbrev pub by_first : {A : Type 0} → Forms A → List (List ℕ) → List (List (List ℕ)) → Option A
by_first forms [] more = None
by_first [] (first ∷ rest) more = None
by_first (form ∷ forms) (first ∷ rest) more = if bytes_eq first form.0 then form.1 rest more else by_first forms (first ∷ rest) more

-- with no separator
abbrev pub whole : {A : Type 0} → (List (List ℕ) → Option A) → List (List ℕ) → List (List (List ℕ)) → Option A
whole f words [] = f words
whole f words _ = None

-- one number
abbrev pub numbered : {A : Type 0} → (ℕ → A) → List (List ℕ) → Option A
numbered f (n ∷ []) = option_map f (number max_u32 n)
numbered f _ = None

-- a link and how many of its bytes
abbrev pub wrote : List (List ℕ) → Option EventKind
wrote (link ∷ count ∷ []) = option_and_then (λ l. option_map (Wrote l) (number max_u64 count)) (number max_u32 link)
wrote _ = None

-- a link and the bytes that came
abbrev pub came : List (List ℕ) → Option EventKind
came (link ∷ piece ∷ []) = option_map (λ l. Bytes l piece) (number max_u32 link)
came _ = None

-- a source, and the user name and the password that came of it
abbrev pub authorized : List (List ℕ) → Option EventKind
authorized (source ∷ user ∷ password ∷ []) = option_map (λ c. Creds c (record { username = user; password = password })) (number max_u32 source)
authorized _ = None

-- a source, and why it could not give credentials
abbrev pub denied : List (List ℕ) → Option EventKind
denied (source ∷ text ∷ []) = option_map (λ c. CredsError c text) (number max_u32 source)
denied _ = None

-- a time
abbrev pub timed : List (List ℕ) → Option EventKind
timed (value ∷ []) = option_map Timeout (time_limit value)
timed _ = None

-- no more words
abbrev pub alone : {A : Type 0} → A → List (List ℕ) → Option A
alone a [] = Some a
alone a _ = None

-- the kinds of faults
abbrev pub faults : List FaultKind
faults = fault.Refused ∷ fault.Reset ∷ fault.Aborted ∷ fault.NotConnected ∷ fault.BrokenPipe ∷ fault.Eof ∷ fault.TimedOut ∷ fault.Interrupted ∷ fault.Denied ∷ fault.Other ∷ []

-- the first of these kinds with that name
abbrev pub fault_among : List FaultKind → List ℕ → Option FaultKind
fault_among [] word = None
fault_among (kind ∷ kinds) word = if bytes_eq word (fault_name kind) then Some kind else fault_among kinds word

-- a link and the kind of its fault
abbrev pub failed : (ℕ → FaultKind → EventKind) → List (List ℕ) → Option EventKind
failed f (link ∷ kind ∷ []) = option_and_then (λ l. option_map (f l) (fault_among faults kind)) (number max_u32 link)
failed f _ = None

-- the commands between separators; where there is no word at all, none
abbrev pub commands : List (List ℕ) → List (List (List ℕ)) → List (List (List ℕ))
commands [] [] = []
commands first more = first ∷ more

-- how many replies are skipped, how many are kept, and the commands
abbrev pub packed : List (List ℕ) → List (List (List ℕ)) → Option Submission
packed (offset ∷ count ∷ first) more = option_and_then (λ o. option_map (λ c. Packed o c (commands first more)) (number max_u32 count)) (number max_u32 offset)
packed _ more = None

-- a subscription call with these names
abbrev pub call : SubscriptionAction → List (List ℕ) → Option Submission
call what names = Some (Subscription what names)

-- PING, with one message or with none
abbrev pub pinged : List (List ℕ) → Option Submission
pinged [] = Some (Ping None)
pinged (message ∷ []) = Some (Ping (Some message))
pinged _ = None

-- the subscription calls of a connection
unfoldable pub calls : Forms Submission
calls =
    (codes "subscribe", whole (call action.Subscribe))
    ∷ (codes "unsubscribe", whole (call action.Unsubscribe))
    ∷ (codes "psubscribe", whole (call action.PSubscribe))
    ∷ (codes "punsubscribe", whole (call action.PUnsubscribe))
    ∷ []

-- the submissions of one multiplexed connection
abbrev pub requests : Forms Submission
requests =
    (codes "cmd", whole (λ args. Some (Cmd args)))
    ∷ (codes "noreply", whole (λ args. Some (NoReply args)))
    ∷ (codes "pipe", λ first more. Some (Pipe (commands first more)))
    ∷ (codes "multi", λ first more. Some (Multi (commands first more)))
    ∷ (codes "packed", packed)
    ∷ calls

-- what is submitted to a session of this kind: nothing in monitor mode
abbrev pub submissions : SessionKind → Forms Submission
submissions kind.Single = requests
submissions (kind.Manager lazy) = requests
submissions kind.PubSub = (codes "ping", whole pinged) ∷ calls
submissions kind.Monitor = []

-- what happens besides
unfoldable pub others : Forms EventKind
others =
    (codes "cancel", whole (numbered Cancel))
    ∷ (codes "connected", whole (numbered Connected))
    ∷ (codes "refused", whole (failed Refused))
    ∷ (codes "wrote", whole wrote)
    ∷ (codes "bytes", whole came)
    ∷ (codes "ended", whole (numbered Ended))
    ∷ (codes "read-fault", whole (failed ReadFault))
    ∷ (codes "write-fault", whole (failed WriteFault))
    ∷ (codes "fired", whole (numbered Fired))
    ∷ (codes "creds", whole authorized)
    ∷ (codes "creds-err", whole denied)
    ∷ (codes "creds-end", whole (numbered CredsEnd))
    ∷ (codes "timeout", whole timed)
    ∷ (codes "drop-stream", whole (alone DropStream))
    ∷ (codes "shutdown", whole (alone Shutdown))
    ∷ []

-- what happens in a session of this kind
abbrev pub events : SessionKind → Forms EventKind
events kind = (codes "submit", λ words more. option_map Submit (by_first (submissions kind) words more)) ∷ others

-- an event with this word
abbrev pub drawing : ℕ → EventKind → Event
drawing word kind = record { word = word; kind = kind }

-- an event of a session of this kind, behind the word of its draws
unfoldable pub event_of : SessionKind → LineWords → Option Event
event_of kind line = option_and_then (λ d. option_map (drawing d.0) (by_first (events kind) d.1 line.more)) (drawn line.words)
