-- Events, and what links see of them.
use Rattle.std.specs.Prelude.{ℕ, List, [], ◌∷◌, map, Some, None, codes}
use Rattle.redis_error.specs.declared.fault_kind.FaultKind.TheVariants.{Reset, BrokenPipe, Refused}
use Rattle.driver_model.specs.declared.action.Owner.TheVariants as owner
use Rattle.driver_model.specs.declared.action.Purpose.{Purpose}
use Rattle.driver_model.specs.declared.action.Purpose.TheVariants as purpose
use Rattle.driver_model.specs.declared.action.SourceUse.{SourceUse}
use Rattle.driver_model.specs.declared.action.SourceUse.TheVariants as source
use Rattle.driver_model.specs.declared.event.EventKind.{EventKind}
use Rattle.driver_model.specs.declared.event.EventKind.TheVariants as event
use Rattle.driver_model.specs.News.{News, news_of}
use Rattle.trace_examples.specs.Parts.{command, okay_line}
use Rattle.trace_examples.specs.Creds.{user_and_password}

-- timers of the links 0 and 1, of requests, and of a backoff
abbrev pub timers : List Purpose
timers =
    purpose.Connect 0
    ∷ purpose.Connect 1
    ∷ purpose.Resubscription 0
    ∷ purpose.Resubscription 1
    ∷ purpose.Renewal 0 4
    ∷ purpose.Renewal 1 5
    ∷ purpose.Response (owner.Try 1 0)
    ∷ purpose.Backoff 1
    ∷ []

-- the first source of the links 0 and 1, and the second
abbrev pub sources : List SourceUse
sources = source.Setup 0 ∷ source.Setup 1 ∷ source.Renewal 0 ∷ source.Renewal 1 ∷ []

-- what a link sees of these
abbrev pub seen_by : ℕ → List EventKind → List News
seen_by link events = map (news_of timers sources link) events

-- each of the timers fires, and one that wasn't asked for
abbrev pub firings : List EventKind
firings = map (λ t. event.Fired t) (0 ∷ 1 ∷ 2 ∷ 3 ∷ 4 ∷ 5 ∷ 6 ∷ 7 ∷ 8 ∷ [])

-- each of the sources gives credentials, an error, or ends, and so does one that wasn't asked for
abbrev pub givings : List EventKind
givings = map (λ c. event.Creds c user_and_password) (0 ∷ 1 ∷ 2 ∷ 3 ∷ 4 ∷ [])

abbrev pub refusals_of_sources : List EventKind
refusals_of_sources = map (λ c. event.CredsError c (codes "no")) (0 ∷ 1 ∷ 2 ∷ 3 ∷ 4 ∷ [])

abbrev pub ends_of_sources : List EventKind
ends_of_sources = map (λ c. event.CredsEnd c) (0 ∷ 1 ∷ 2 ∷ 3 ∷ 4 ∷ [])

-- all that is told of one link
abbrev pub told_of : ℕ → List EventKind
told_of link =
    event.Connected link
    ∷ event.Refused link Refused
    ∷ event.Wrote link 7
    ∷ event.Bytes link okay_line
    ∷ event.Ended link
    ∷ event.ReadFault link Reset
    ∷ event.WriteFault link BrokenPipe
    ∷ []

-- what is told of none
abbrev pub told_of_none : List EventKind
told_of_none = event.Submit (command 71) ∷ event.Cancel 1 ∷ event.Timeout (Some 5) ∷ event.Timeout None ∷ []
