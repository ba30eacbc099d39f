-- The laws of live runs, each as one statement.
use Rattle.std.specs.Prelude.{◌≡◌, ℕ, ◌≤◌, List, ◌∷◌, ◌++◌, length, Option, Some}
use Rattle.driver_model.specs.declared.action.Action.{Action}
use Rattle.outside.specs.declared.world.Call.{Call}
use Rattle.outside.specs.declared.world.Call.TheVariants as call
use Rattle.legal_trace.specs.Book.{book}
use Rattle.legal_trace.specs.Ledger.{Ledger, joined}
use Rattle.legal_laws.specs.Links.{IsPrefix}
use Rattle.shared_session.specs.History.{History}
use Rattle.single_session.specs.Replay.{IsSound}
use Rattle.live_run.specs.declared.ending.Ending.{Ending}
use Rattle.live_run.specs.declared.ending.Ending.TheVariants.{Full}
use Rattle.live_run.specs.Closing.{close_calls, times}
use Rattle.live_run.specs.Deeds.{IsGood, IsUnspent, calls_in, traced}
use Rattle.live_run.specs.Driven.{Driven}
use Rattle.live_run.specs.Endings.{most_events}
use Rattle.live_laws.specs.Taken.{taken, AreUnwritten}
use Rattle.live_laws.specs.Dials.{dials_in, connects_in, IsPicked, Rises}

-- all calls of a run, in order
abbrev pub calls_of : {early : List Action} {old new : Option (List Call)} {before after : History} {count : ℕ} {ending : Ending} → Driven early old new before after count ending → List Call
calls_of run = calls_in run.deeds ++ (call.Word run.word ∷ close_calls run.closes)

-- the ledger of link l, by the trace of a session
abbrev pub link_in : History → ℕ → Ledger
link_in s l = (book (traced s)).link l

-- what link l has taken by it
abbrev pub taken_in : History → ℕ → List ℕ
taken_in s l = (link_in s l).taken

-- what a link has taken by the trace behind a run is what it had taken before, and then what its writes took in the run
abbrev pub TakesWhatWasWritten : Type 0
TakesWhatWasWritten =
    (early : List Action) (old new : Option (List Call)) (before after : History) (count : ℕ) (ending : Ending) (l : ℕ)
    → IsSound before.config → IsGood before → IsUnspent before → (run : Driven early old new before after count ending)
    → taken_in after l ≡ taken_in before l ++ taken l (calls_of run)

-- the same of the calls that the world told in the run
abbrev pub TakesWhatWasTold : Type 0
TakesWhatWasTold =
    (early : List Action) (told calls : List Call) (before after : History) (count : ℕ) (ending : Ending) (l : ℕ)
    → IsSound before.config → IsGood before → IsUnspent before → Driven early (Some told) (Some (told ++ calls)) before after count ending
    → taken_in after l ≡ taken_in before l ++ taken l calls

-- where no event before the run told of bytes that were taken, it is what its writes took in the run
abbrev pub TakesAll : Type 0
TakesAll =
    (early : List Action) (old new : Option (List Call)) (before after : History) (count : ℕ) (ending : Ending) (l : ℕ)
    → IsSound before.config → IsGood before → IsUnspent before → AreUnwritten before.events → (run : Driven early old new before after count ending)
    → taken_in after l ≡ taken l (calls_of run)

-- then this, with what the link is still offered behind it, is the front of the messages that were started on it
abbrev pub TakesFront : Type 0
TakesFront =
    (early : List Action) (old new : Option (List Call)) (before after : History) (count : ℕ) (ending : Ending) (l : ℕ)
    → IsSound before.config → IsGood before → IsUnspent before → AreUnwritten before.events → (run : Driven early old new before after count ending)
    → IsPrefix (taken l (calls_of run) ++ (link_in after l).offer) (joined (link_in after l).starts)

-- a run that ends since its history is full holds just so many events before its shutdown, if it began with no more
abbrev pub FullIsExact : Type 0
FullIsExact =
    (early : List Action) (old new : Option (List Call)) (before after : History) (count : ℕ)
    → length before.events ≤ most_events → (run : Driven early old new before after count Full)
    → length run.last.events ≡ most_events

-- the links that a run dials are some of those that the session asked to connect, in that order. It performs all actions of
-- the session's trace so far
abbrev pub DialsInOrder : Type 0
DialsInOrder =
    (old new : Option (List Call)) (before after : History) (count : ℕ) (ending : Ending)
    → (run : Driven (traced before) old new before after count ending)
    → IsPicked (dials_in (calls_of run)) (connects_in (traced after))

-- the same of the calls that the world told in the run
abbrev pub DialsTold : Type 0
DialsTold =
    (told calls : List Call) (before after : History) (count : ℕ) (ending : Ending)
    → Driven (traced before) (Some told) (Some (told ++ calls)) before after count ending
    → IsPicked (dials_in calls) (connects_in (traced after))

-- the numbers of the connects of a session rise
abbrev pub ConnectsRise : Type 0
ConnectsRise = (s : History) → IsSound s.config → IsGood s → IsUnspent s → Rises 0 (connects_in (traced s))

-- no link is dialled twice
abbrev pub DialsOnce : Type 0
DialsOnce =
    (old new : Option (List Call)) (before after : History) (count : ℕ) (ending : Ending) (n : ℕ)
    → IsSound before.config → IsGood before → IsUnspent before → (run : Driven (traced before) old new before after count ending)
    → times n (dials_in (calls_of run)) ≤ 1
