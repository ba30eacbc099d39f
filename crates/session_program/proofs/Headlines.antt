-- What a finished replay gives its callers.
use Rattle.std.proofs.Common.{◌≡◌, ℕ, List, sym, subst}
use Rattle.std.specs.Prelude.{Ok, take}
use Rattle.driver_model.specs.declared.action.Action.{Action}
use Rattle.driver_model.specs.declared.config.Config.{Config}
use Rattle.driver_model.specs.declared.event.Event.{Event}
use Rattle.script_text.specs.Script.{script_of}
use Rattle.script_text.specs.declared.script.Script.{Script}
use Rattle.single_session.specs.Replay.{trace_of, AreGood, AreUnspent, IsSound}
use Rattle.legal_trace.specs.Ledger.{Ledger, stream, joined}
use Rattle.legal_trace.specs.Legal.{Legal}
use Rattle.legal_laws.specs.Links.{IsPrefix}
use Rattle.legal_laws.proofs.Submissions.Answers.{at_most_one, exactly_one}
use Rattle.legal_laws.proofs.Links.Lines.{ledgers_are_told}
use Rattle.legal_laws.proofs.Links.Links.{links_take_in_order}
use Rattle.legal_laws.proofs.Traces.Segments.{in_segments}
use Rattle.session_laws.proofs.Turn.Legality.{replay_legal}
use Rattle.text_laws.specs.Fits.{AreBytes, FitsHistory, HaveForms}
use Rattle.text_laws.proofs.OneTrace.{same_trace}
use Rattle.text_laws.proofs.Scripts.{script_fits}
use Rattle.text_laws.proofs.Traces.{good_forms}
use Rattle.session_program.specs.Headline.{HasOwnText, IsInOrder, IsLegalUpTo, Headline, HeadlineOf}
use Rattle.session_program.specs.Stops.{AreTaken}

-- each link of a legal trace takes its messages in order
takes_in_order : (config : Config) (word : ℕ) (events : List Event) (trace : List Action) → Legal config word events trace → IsInOrder trace
takes_in_order config word events trace h l =
    subst (λ (link : Ledger). IsPrefix (stream link) (joined link.starts)) (sym (ledgers_are_told trace l)) (links_take_in_order config word events trace h l)

-- no other trace has the text of a history's that the types hold, and whose submissions have forms
own_text : (config : Config) (word : ℕ) (events : List Event) → FitsHistory config word events → HaveForms config events → HasOwnText (trace_of config word events)
own_text config word events fits forms =
    record {
      of_good = λ other draws more good small same. same_trace other config draws word more events small (good_forms other draws more good) fits forms same;
      also_of_bad = λ other draws more theirs small same. same_trace other config draws word more events small theirs fits forms same;
    }

-- the turns of events that were taken are legal
pub legal_up_to : (script : Script) (index : ℕ) → AreTaken script.config script.word script.events index → IsLegalUpTo script index
legal_up_to script index taken = replay_legal script.config script.word (take index script.events) taken.sound taken.good taken.unspent

-- what holds of the trace of a history
pub headline_of : (config : Config) (word : ℕ) (events : List Event) → FitsHistory config word events → HaveForms config events → IsSound config → AreGood config word events → AreUnspent config word events → HeadlineOf config word events
headline_of config word events fits forms sound good unspent =
    let trace = trace_of config word events in
    let h = replay_legal config word events sound good unspent in
    record {
      legal = h;
      in_order = takes_in_order config word events trace h;
      in_place = record { each = h.each; segments = in_segments config word events trace h };
      settled = h.settled;
      answers_once = at_most_one config word events trace h;
      answers_all = exactly_one config word events trace h;
      one_trace = own_text config word events fits forms;
    }

-- a text of bytes is kept of all that is read, which says the same script
pub headline : (kept bytes : List ℕ) (script : Script) → AreBytes kept → script_of kept ≡ Ok script → script_of bytes ≡ Ok script → IsSound script.config → AreGood script.config script.word script.events → AreUnspent script.config script.word script.events → Headline bytes
headline kept bytes script small reads says sound good unspent =
    let said = script_fits kept script small reads in
    record { script = script; reads = says; of = headline_of script.config script.word script.events said.0 said.1 sound good unspent }
