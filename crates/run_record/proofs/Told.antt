-- What is read back from the text of a history is that history; it is read exactly where the text keeps the limits.
use Rattle.std.proofs.Common.{◌≡◌, ℕ, Bool, true, false, List, Result, Ok, Err, IsErr, refl, sym, ap, ◌∙◌, subst}
use Rattle.std.proofs.lemmas.Bool.{both_ways}
use Rattle.std.specs.Bool.{MatchBool}
use Rattle.driver_model.specs.declared.config.Config.{Config}
use Rattle.driver_model.specs.declared.event.Event.{Event}
use Rattle.script_text.specs.Limits.{keeps_limits}
use Rattle.script_text.specs.Script.{script_of}
use Rattle.script_text.specs.declared.script.Script.{Script}
use Rattle.text_laws.specs.Fits.{FitsHistory, HaveForms}
use Rattle.text_laws.specs.Records.{record_text}
use Rattle.text_laws.proofs.Records.{records_told}

-- a text that is read is that history
read_by : (keeps : Bool) (read : Result Script ℕ) (history s : Script) → MatchBool keeps (read ≡ Ok history) (IsErr read) → read ≡ Ok s → read ≡ Ok history
read_by true read history s tells is = tells
read_by false read history s tells is = absurd (both_ways false refl (subst IsErr is tells))

-- a text that isn't read passes a limit
refused_by : (keeps : Bool) (read : Result Script ℕ) (history : Script) (n : ℕ) → MatchBool keeps (read ≡ Ok history) (IsErr read) → read ≡ Err n → keeps ≡ false
refused_by true read history n tells is = absurd (both_ways false refl (subst IsErr (sym is ∙ tells) refl))
refused_by false read history n tells is = refl

pub read_back : (text : List ℕ) (config : Config) (word : ℕ) (events : List Event) (s : Script) → text ≡ record_text config word events → FitsHistory config word events
    → HaveForms config events → script_of text ≡ Ok s → script_of text ≡ Ok (record { config = config; word = word; events = events })
read_back text config word events s is fits forms reads =
    let same = ap script_of is in
    same ∙ read_by (keeps_limits (record_text config word events)) (script_of (record_text config word events)) (record { config = config; word = word; events = events }) s
    (records_told config word events fits forms) (sym same ∙ reads)

pub no_script : (text : List ℕ) (config : Config) (word : ℕ) (events : List Event) (n : ℕ) → text ≡ record_text config word events → FitsHistory config word events
    → script_of text ≡ Err n → HaveForms config events → keeps_limits (record_text config word events) ≡ false
no_script text config word events n is fits refused forms =
    refused_by (keeps_limits (record_text config word events)) (script_of (record_text config word events)) (record { config = config; word = word; events = events }) n
    (records_told config word events fits forms) (sym (ap script_of is) ∙ refused)

-- a text that is read keeps them
kept_by : (keeps : Bool) (read : Result Script ℕ) (history s : Script) → MatchBool keeps (read ≡ Ok history) (IsErr read) → read ≡ Ok s → keeps ≡ false → ⊥
kept_by true read history s tells is beyond = both_ways true beyond refl
kept_by false read history s tells is beyond = both_ways false refl (subst IsErr is tells)

pub not_beyond : (text : List ℕ) (config : Config) (word : ℕ) (events : List Event) (s : Script) → text ≡ record_text config word events → FitsHistory config word events
    → HaveForms config events → script_of text ≡ Ok s → (HaveForms config events → keeps_limits (record_text config word events) ≡ false) → ⊥
not_beyond text config word events s is fits forms reads none =
    kept_by (keeps_limits (record_text config word events)) (script_of (record_text config word events)) (record { config = config; word = word; events = events }) s
    (records_told config word events fits forms) (sym (ap script_of is) ∙ reads) (none forms)
