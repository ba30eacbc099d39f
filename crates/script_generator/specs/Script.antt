-- The script that is made of a number of rounds.
use Rattle.std.specs.Prelude.{ℕ, zero, suc, ◌%◌, ◌==◌, Bool, false, List, [], ◌∷◌, ◌++◌, length, Some, None, decimal, codes, if◌then◌else◌}
use Rattle.resp_write.specs.Pack.{pack}
use Rattle.driver_model.specs.declared.config.Config.{Config}
use Rattle.driver_model.specs.declared.config.Config.TheVariants as config
use Rattle.driver_model.specs.Config.{no_words}
use Rattle.driver_model.specs.declared.event.Event.{Event}
use Rattle.driver_model.specs.declared.event.EventKind.{EventKind}
use Rattle.driver_model.specs.declared.event.EventKind.TheVariants as event
use Rattle.driver_model.specs.declared.event.Submission.TheVariants as submission

-- config single url=redis://h:6379 connect=none response=none lib=off
abbrev pub generated_config : Config
generated_config = config.Single (record { url = codes "redis://h:6379"; lib = Some false }) (record no_words { connect = Some None; response = Some None })

-- the word of the opening's draws, and of each event's
abbrev pub generated_word : ℕ
generated_word = 0

-- an event with that word
abbrev pub event_of : EventKind → Event
event_of kind = record { word = generated_word; kind = kind }

-- the command of round i: GET of k, followed directly by i mod 1000
abbrev pub command : ℕ → List (List ℕ)
command i = codes "GET" ∷ (codes "k" ++ decimal (i % 1000)) ∷ []

-- round i is the last of sixteen: its caller drops its request
abbrev pub is_cancelled : ℕ → Bool
is_cancelled i = i % 16 == 15

-- the reply to each command: +v CR LF
abbrev pub reply : List ℕ
reply = codes "+v" ++ 13 ∷ 10 ∷ []

-- the lines of round i, each as an event: submit cmd GET k7
abbrev pub submits : ℕ → Event
submits i = event_of (event.Submit (submission.Cmd (command i)))

-- wrote 0 with the packed length
abbrev pub writes : ℕ → Event
writes i = event_of (event.Wrote 0 (length (pack (command i))))

-- cancel with i
abbrev pub cancels : ℕ → Event
cancels i = event_of (event.Cancel i)

-- bytes 0 with the reply
abbrev pub replies : Event
replies = event_of (event.Bytes 0 reply)

-- round i
abbrev pub round : ℕ → List Event
round i = submits i ∷ writes i ∷ (if is_cancelled i then cancels i ∷ [] else []) ++ replies ∷ []

-- the first n rounds
abbrev pub rounds : ℕ → List Event
rounds zero = []
rounds (suc n) = rounds n ++ round n

-- connected 0, the rounds, and shutdown
unfoldable pub generated_events : ℕ → List Event
generated_events n = event_of (event.Connected 0) ∷ rounds n ++ event_of event.Shutdown ∷ []
