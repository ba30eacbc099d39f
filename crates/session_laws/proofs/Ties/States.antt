-- The session between two turns, and when the event of a turn has had its own effect.
use Rattle.std.proofs.Common.{◌≡◌, ◌≢◌, ◌⊎◌, ℕ, true, List, [], ◌++◌, length}
use Rattle.driver_model.specs.declared.action.Action.{Action}
use Rattle.single_session.specs.declared.core_state.Core.{Core}
use Rattle.single_session.specs.Turn.{Turning, numbered, shown_each}
use Rattle.legal_trace.specs.Book.{blank_book, book}
use Rattle.legal_trace.specs.Legal.{AllStand, IsShown, NoneEnds, IsSettled}
use Rattle.session_laws.proofs.Ties.Tied.{IsHeeded, AfterFailedAttempt, Sound, inner}
use Rattle.session_laws.proofs.Internal.Informed.{IsInformed}
use Rattle.conn_laws.proofs.Ties.States.{IsFitIn, IsStill, IsStopped}

-- so it is where everything was shut down
abbrev pub IsHushed : Core → Type 0
IsHushed c = c.shut ≡ true → IsStopped c.single.connection.life c.single.connection.waiting

-- between two turns: all is settled, no wait is to be shown, nothing moves, what was shown of generations is heeded, and what is
-- subscribed is known
pub record Between (before : List Action) (c : Core) (started : List ℕ) : Type 0 where
  pub sound : Sound before (inner c started)
  pub settled : IsSettled (book before)
  pub began : c.turns ≢ 0
  pub fresh : c.single.connection.fresh ≡ []
  pub moved : c.single.connection.moved ≡ []
  pub fit : IsFitIn c.single.connection
  pub still : IsStill c.single.connection
  pub hushed : IsHushed c
  pub heeded : IsHeeded (book before).rest (book before).failed c.single.connection.life c.manager
  pub informed : IsInformed (book before) c.manager

-- the trace of a turn up to its last act so far, behind what was shown before its acts
abbrev pub trace_with : List Action → Turning → List Action
trace_with before t = before ++ shown_each t.core.single.link (length t.core.timers) (length t.core.sources) t.acts

-- the event of the turn has had its own effect: nothing more must end, and the messages that started are those
pub record HasApplied (before : List Action) (t : Turning) (started : List ℕ) : Type 0 where
  pub sound : Sound (trace_with before t) (inner (numbered t).core started)
  pub ended : NoneEnds (book (trace_with before t))
  pub began : t.core.turns ≢ 0
  pub moved : t.core.single.connection.moved ≡ []
  pub fit : IsFitIn t.core.single.connection
  pub hushed : IsHushed t.core

-- or the opening of its link has failed in it, and another attempt follows
pub record HasRetired (before : List Action) (t : Turning) : Type 0 where
  pub stands : AllStand blank_book (trace_with before t)
  pub retiring : AfterFailedAttempt (book (trace_with before t)) (inner (numbered t).core [])
  pub shown : IsShown (book (trace_with before t))
  pub began : t.core.turns ≢ 0
  pub fit : IsFitIn t.core.single.connection

-- the effect of an event
abbrev pub HasEffect : List Action → Turning → List ℕ → Type 0
HasEffect before t started = HasApplied before t started ⊎ HasRetired before t
