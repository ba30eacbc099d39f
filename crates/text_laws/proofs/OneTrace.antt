-- One text has one trace.
use Rattle.std.proofs.Common.{◌≡◌, ℕ, List, Ok, unwrap_or, sym, ap, ◌∙◌}
use Rattle.driver_model.specs.declared.config.Config.{Config}
use Rattle.driver_model.specs.declared.event.Event.{Event}
use Rattle.script_text.specs.Script.{script_of}
use Rattle.script_text.specs.declared.script.Script.{Script}
use Rattle.single_session.specs.Replay.{trace_of, AreGood}
use Rattle.trace_text.specs.Show.{show}
use Rattle.text_laws.specs.Fits.{AreBytes, FitsHistory, HaveForms}
use Rattle.text_laws.specs.History.{history_of}
use Rattle.text_laws.proofs.Scripts.{script_fits}
use Rattle.text_laws.proofs.Traces.{history_back, good_forms}

abbrev trace_text : Script → List ℕ
trace_text s = show (trace_of s.config s.word s.events)

abbrev Said : Script → Type 0
Said s = FitsHistory s.config s.word s.events × HaveForms s.config s.events

one_history : (s t : Script) → Said s → Said t → trace_text s ≡ trace_text t → s ≡ t
one_history s t first second same =
    ap (λ o. unwrap_or o s) (sym (history_back s.config s.word s.events first.0 first.1) ∙ ap history_of same ∙ history_back t.config t.word t.events second.0 second.1)

pub same_trace : (config config' : Config) (word word' : ℕ) (events events' : List Event) → FitsHistory config word events → HaveForms config events → FitsHistory config' word' events' → HaveForms config' events'
    → show (trace_of config word events) ≡ show (trace_of config' word' events') → trace_of config word events ≡ trace_of config' word' events'
same_trace config config' word word' events events' first forms second forms' same =
    ap (λ (s : Script). trace_of s.config s.word s.events)
    (one_history (record { config = config; word = word; events = events }) (record { config = config'; word = word'; events = events' }) (first, forms) (second, forms') same)

pub same_good_trace : (config config' : Config) (word word' : ℕ) (events events' : List Event) → FitsHistory config word events → AreGood config word events → FitsHistory config' word' events' → AreGood config' word' events'
    → show (trace_of config word events) ≡ show (trace_of config' word' events') → trace_of config word events ≡ trace_of config' word' events'
same_good_trace config config' word word' events events' first good second good' same =
    same_trace config config' word word' events events' first (good_forms config word events good) second (good_forms config' word' events' good') same

pub same_script : (a b : List ℕ) (s t : Script) → AreBytes a → AreBytes b → script_of a ≡ Ok s → script_of b ≡ Ok t
    → show (trace_of s.config s.word s.events) ≡ show (trace_of t.config t.word t.events) → s ≡ t
same_script a b s t small_a small_b reads_a reads_b same = one_history s t (script_fits a s small_a reads_a) (script_fits b t small_b reads_b) same

pub same_script_trace : (a b : List ℕ) (s t : Script) → AreBytes a → AreBytes b → script_of a ≡ Ok s → script_of b ≡ Ok t
    → show (trace_of s.config s.word s.events) ≡ show (trace_of t.config t.word t.events) → trace_of s.config s.word s.events ≡ trace_of t.config t.word t.events
same_script_trace a b s t small_a small_b reads_a reads_b same = ap (λ (x : Script). trace_of x.config x.word x.events) (same_script a b s t small_a small_b reads_a reads_b same)
