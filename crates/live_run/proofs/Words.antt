-- The events of a run are the answers of its calls, and have the words that were told.
use Rattle.std.proofs.Common.{◌≡◌, ℕ, List, [], ◌∷◌, ◌++◌, append_assoc, refl}
use Rattle.driver_model.specs.declared.action.Action.{Action}
use Rattle.driver_model.specs.declared.event.Event.{Event}
use Rattle.outside.specs.declared.world.Call.{Call}
use Rattle.outside.specs.declared.world.Call.TheVariants as call
use Rattle.outside.specs.declared.world.Dialed.TheVariants as dialed
use Rattle.outside.specs.declared.world.LinkGot.TheVariants as got
use Rattle.outside.specs.declared.world.LinkPut.TheVariants as put
use Rattle.live_run.specs.declared.agenda.Agenda.{Agenda}
use Rattle.live_run.specs.Deeds.{Deed, did, fired, claim, MayCall, May, AllMay, after, calls_of, events_of, calls_in, events_in}
use Rattle.live_run.specs.Events.{answers_in, words_in, untimed_in, words_of}

answers_call : (a : Agenda) (c : Call) (word : ℕ) (actions : List Action) → MayCall a c → untimed_in (events_of (did c word actions)) ≡ answers_in (calls_of (did c word actions))
answers_call a (call.Dial link host port dialed.Yes) word actions h = refl
answers_call a (call.Dial link host port (dialed.Failed fault)) word actions h = refl
answers_call a (call.Read link room (got.Read n) bytes) word actions h = refl
answers_call a (call.Read link room got.NotYet bytes) word actions h = refl
answers_call a (call.Read link room got.Ended bytes) word actions h = refl
answers_call a (call.Read link room (got.Failed fault) bytes) word actions h = refl
answers_call a (call.Write link piece (put.Took n)) word actions h = refl
answers_call a (call.Write link piece put.NotYet) word actions h = refl
answers_call a (call.Write link piece (put.Failed fault)) word actions h = refl
answers_call a (call.Close link) word actions h = refl
answers_call a (call.Now moment) word actions h = refl
answers_call a (call.Word told) word actions h = absurd h
answers_call a (call.Wait ms) word actions h = refl

answers_one : (a : Agenda) (d : Deed) → May a d → untimed_in (events_of d) ≡ answers_in (calls_of d)
answers_one a (did c word actions) h = answers_call a c word actions h
answers_one a (fired timer word actions) h = refl
answers_one a (claim number) h = refl

words_call : (a : Agenda) (c : Call) (word : ℕ) (actions : List Action) → MayCall a c → words_of (events_of (did c word actions)) ≡ words_in (calls_of (did c word actions))
words_call a (call.Dial link host port dialed.Yes) word actions h = refl
words_call a (call.Dial link host port (dialed.Failed fault)) word actions h = refl
words_call a (call.Read link room (got.Read n) bytes) word actions h = refl
words_call a (call.Read link room got.NotYet bytes) word actions h = refl
words_call a (call.Read link room got.Ended bytes) word actions h = refl
words_call a (call.Read link room (got.Failed fault) bytes) word actions h = refl
words_call a (call.Write link piece (put.Took n)) word actions h = refl
words_call a (call.Write link piece put.NotYet) word actions h = refl
words_call a (call.Write link piece (put.Failed fault)) word actions h = refl
words_call a (call.Close link) word actions h = refl
words_call a (call.Now moment) word actions h = refl
words_call a (call.Word told) word actions h = absurd h
words_call a (call.Wait ms) word actions h = refl

words_one : (a : Agenda) (d : Deed) → May a d → words_of (events_of d) ≡ words_in (calls_of d)
words_one a (did c word actions) h = words_call a c word actions h
words_one a (fired timer word actions) h = refl
words_one a (claim number) h = refl

answers_append : (xs ys : List Call) → answers_in (xs ++ ys) ≡ answers_in xs ++ answers_in ys
answers_append [] ys = refl
answers_append (x ∷ xs) ys = rw (answers_append xs ys, append_assoc) refl

words_append : (xs ys : List Call) → words_in (xs ++ ys) ≡ words_in xs ++ words_in ys
words_append [] ys = refl
words_append (x ∷ xs) ys = rw (words_append xs ys, append_assoc) refl

untimed_append : (xs ys : List Event) → untimed_in (xs ++ ys) ≡ untimed_in xs ++ untimed_in ys
untimed_append [] ys = refl
untimed_append (x ∷ xs) ys = rw (untimed_append xs ys, append_assoc) refl

told_append : (xs ys : List Event) → words_of (xs ++ ys) ≡ words_of xs ++ words_of ys
told_append [] ys = refl
told_append (x ∷ xs) ys = rw (told_append xs ys) refl

-- none of the answers is left out
pub answers_each : (a : Agenda) (ds : List Deed) → AllMay a ds → untimed_in (events_in ds) ≡ answers_in (calls_in ds)
answers_each a [] h = refl
answers_each a (d ∷ ds) h = rw (untimed_append (events_of d) (events_in ds), answers_append (calls_of d) (calls_in ds), answers_one a d h.0, answers_each (after a d) ds h.1) refl

-- each event has the word that was told for it
pub words_each : (a : Agenda) (ds : List Deed) → AllMay a ds → words_of (events_in ds) ≡ words_in (calls_in ds)
words_each a [] h = refl
words_each a (d ∷ ds) h = rw (told_append (events_of d) (events_in ds), words_append (calls_of d) (calls_in ds), words_one a d h.0, words_each (after a d) ds h.1) refl
