-- What the calls of a world tell of events, and what events tell of it.
use Rattle.std.specs.Prelude.{ℕ, List, [], ◌∷◌, ◌++◌}
use Rattle.driver_model.specs.declared.event.Event.{Event}
use Rattle.driver_model.specs.declared.event.EventKind.{EventKind}
use Rattle.driver_model.specs.declared.event.EventKind.TheVariants as event
use Rattle.outside.specs.declared.world.Call.{Call}
use Rattle.outside.specs.declared.world.Call.TheVariants as call
use Rattle.live_run.specs.Deeds.{answer_of}

-- all answers of a world, but NotYet, in order
abbrev pub answers_in : List Call → List EventKind
answers_in [] = []
answers_in (c ∷ cs) = answer_of c ++ answers_in cs

abbrev pub word_in : Call → List ℕ
word_in (call.Word word) = word ∷ []
word_in (call.Dial link host port answer) = []
word_in (call.Read link room answer bytes) = []
word_in (call.Write link piece answer) = []
word_in (call.Close link) = []
word_in (call.Now moment) = []
word_in (call.Wait ms) = []

-- all words that a world told, in order
abbrev pub words_in : List Call → List ℕ
words_in [] = []
words_in (c ∷ cs) = word_in c ++ words_in cs

-- what isn't a timer's
abbrev pub untimed : EventKind → List EventKind
untimed (event.Fired timer) = []
untimed (event.Submit what) = event.Submit what ∷ []
untimed (event.Cancel n) = event.Cancel n ∷ []
untimed (event.Connected link) = event.Connected link ∷ []
untimed (event.Refused link fault) = event.Refused link fault ∷ []
untimed (event.Wrote link count) = event.Wrote link count ∷ []
untimed (event.Bytes link piece) = event.Bytes link piece ∷ []
untimed (event.Ended link) = event.Ended link ∷ []
untimed (event.ReadFault link fault) = event.ReadFault link fault ∷ []
untimed (event.WriteFault link fault) = event.WriteFault link fault ∷ []
untimed (event.Timeout ms) = event.Timeout ms ∷ []
untimed (event.Creds source auth) = event.Creds source auth ∷ []
untimed (event.CredsError source text) = event.CredsError source text ∷ []
untimed (event.CredsEnd source) = event.CredsEnd source ∷ []
untimed event.DropStream = event.DropStream ∷ []
untimed event.Shutdown = event.Shutdown ∷ []

-- the kinds of events, those of timers left out, in order
abbrev pub untimed_in : List Event → List EventKind
untimed_in [] = []
untimed_in (e ∷ es) = untimed e.kind ++ untimed_in es

-- the words of events, in order
abbrev pub words_of : List Event → List ℕ
words_of [] = []
words_of (e ∷ es) = e.word ∷ words_of es
