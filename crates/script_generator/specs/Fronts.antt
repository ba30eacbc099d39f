-- The fronts of the script that is made, line by line.
use Rattle.std.specs.Prelude.{◌≡◌, ℕ, List, [], ◌∷◌, ◌++◌}
use Rattle.driver_model.specs.declared.event.Event.{Event}
use Rattle.driver_model.specs.declared.event.EventKind.TheVariants as event
use Rattle.shared_session.specs.History.{History}
use Rattle.single_session.specs.Replay.{trace_of}
use Rattle.shared_session.specs.declared.session.Failure.TheVariants.{Sound}
use Rattle.script_generator.specs.Script.{generated_config, generated_word, event_of, submits, writes, cancels, rounds}
use Rattle.script_generator.specs.Summary.{no_summary, counted_each}
use Rattle.script_generator.specs.declared.summary.Summary.{Summary}

-- connected 0, and the first n rounds
abbrev pub front : ℕ → List Event
front n = event_of (event.Connected 0) ∷ rounds n

-- and of the next round its first line
abbrev pub submitted : ℕ → List Event
submitted n = front n ++ submits n ∷ []

-- its second
abbrev pub written : ℕ → List Event
written n = submitted n ++ writes n ∷ []

-- and the one by which its caller goes
abbrev pub cancelled : ℕ → List Event
cancelled n = written n ++ cancels n ∷ []

-- a session that has taken these events of the script, and what was counted of its turns
pub record IsAt (es : List Event) (s : History) (counts : Summary) : Type 0 where
  pub made : s ≡ record { config = generated_config; word = generated_word; events = es; failure = Sound }
  pub counted : counts ≡ counted_each no_summary (trace_of generated_config generated_word es)
