-- The laws of legal traces, each as one statement.
use Rattle.std.specs.Prelude.{◌≡◌, ℕ, List}
use Rattle.driver_model.specs.declared.action.Action.{Action}
use Rattle.driver_model.specs.declared.config.Config.{Config}
use Rattle.driver_model.specs.declared.event.Event.{Event}
use Rattle.legal_trace.specs.Book.{blank_book}
use Rattle.legal_trace.specs.Legal.{Legal}
use Rattle.legal_laws.specs.Links.{lines_for, TakesInOrder}
use Rattle.legal_laws.specs.Segments.{AreInOrder}
use Rattle.legal_laws.specs.Starts.{StaysWithin}
use Rattle.legal_laws.specs.Permits.{KeepsPermits, AsksTimers}
use Rattle.legal_laws.specs.Notices.{TellsNotices}
use Rattle.legal_laws.specs.Values.{TellsMessages}
use Rattle.legal_laws.specs.Reports.{TellsReports}
use Rattle.legal_laws.specs.Drops.{EndsWhereDropped}
use Rattle.legal_laws.specs.Pushes.{TellsEnds}
use Rattle.legal_laws.specs.Sources.{StartsAuthorized}
use Rattle.legal_laws.specs.Renewals.{TimesRenewals}
use Rattle.legal_laws.specs.Waits.{WaitsAreTrue}

-- it is so of each legal trace
abbrev pub OfEachLegal : (List Action → Type 0) → Type 0
OfEachLegal P =
    (config : Config) (word : ℕ) (events : List Event) (trace : List Action) → Legal config word events trace → P trace

-- the bytes that a link of the trace took and is offered are the first of those of its started messages
abbrev pub LinksTakeInOrder : List Action → Type 0
LinksTakeInOrder trace = (l : ℕ) → TakesInOrder (lines_for trace l)

-- a configuration, a word and events have at most one legal trace
abbrev pub OneIsLegal : Type 0
OneIsLegal =
    (config : Config) (word : ℕ) (events : List Event) (s t : List Action) → Legal config word events s
    → Legal config word events t → s ≡ t

-- in a legal trace the actions of each turn stand segment by segment
abbrev pub TurnsAreInOrder : Type 0
TurnsAreInOrder =
    (config : Config) (word : ℕ) (events : List Event) (trace : List Action) (h : Legal config word events trace)
    → AreInOrder 0 blank_book trace h.each

-- each legal trace stays within its configuration
abbrev pub EachStaysWithin : Type 0
EachStaysWithin =
    (config : Config) (word : ℕ) (events : List Event) (trace : List Action) → Legal config word events trace
    → StaysWithin config trace

-- each legal trace keeps to the permits of its configuration
abbrev pub EachKeepsPermits : Type 0
EachKeepsPermits =
    (config : Config) (word : ℕ) (events : List Event) (trace : List Action) → Legal config word events trace
    → KeepsPermits config trace

-- and asks for the timers of its submissions as it may
abbrev pub EachAsksTimers : Type 0
EachAsksTimers =
    (config : Config) (word : ℕ) (events : List Event) (trace : List Action) → Legal config word events trace
    → AsksTimers config trace

-- each legal trace tells what is heard beside replies
abbrev pub EachTellsNotices : Type 0
EachTellsNotices =
    (config : Config) (word : ℕ) (events : List Event) (trace : List Action) → Legal config word events trace
    → TellsNotices config trace

-- each message where it came, and none is dealt
abbrev pub EachTellsMessages : Type 0
EachTellsMessages =
    (config : Config) (word : ℕ) (events : List Event) (trace : List Action) → Legal config word events trace
    → TellsMessages config trace

-- each report of a monitor behind its answer
abbrev pub EachTellsReports : Type 0
EachTellsReports =
    (config : Config) (word : ℕ) (events : List Event) (trace : List Action) → Legal config word events trace
    → TellsReports config trace

-- a dropped stream of messages ends its link
abbrev pub EachEndsDropped : Type 0
EachEndsDropped =
    (config : Config) (word : ℕ) (events : List Event) (trace : List Action) → Legal config word events trace
    → EndsWhereDropped config trace

-- and that links have ended
abbrev pub EachTellsEnds : Type 0
EachTellsEnds =
    (config : Config) (word : ℕ) (events : List Event) (trace : List Action) → Legal config word events trace
    → TellsEnds config trace

-- in each legal trace messages start with credentials, where its configuration wants them of a source
abbrev pub EachStartsAuthorized : Type 0
EachStartsAuthorized =
    (config : Config) (word : ℕ) (events : List Event) (trace : List Action) → Legal config word events trace
    → StartsAuthorized config trace

-- and its new credentials have their timers
abbrev pub EachTimesRenewals : Type 0
EachTimesRenewals =
    (config : Config) (word : ℕ) (events : List Event) (trace : List Action) → Legal config word events trace
    → TimesRenewals config trace

-- the waits that each legal trace shows are true
abbrev pub EachWaitsTruly : Type 0
EachWaitsTruly =
    (config : Config) (word : ℕ) (events : List Event) (trace : List Action) → Legal config word events trace
    → WaitsAreTrue config trace
