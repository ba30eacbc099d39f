-- What a reader makes of a text are the text's values, and what is left behind them.
use Rattle.std.proofs.Common.{◌≡◌, ℕ, List, [], ◌∷◌, map, Bool, true, false, sym, ap, subst, ◌∙◌}
use Rattle.std.specs.Prelude.{Result, Ok, Err}
use Rattle.resp_value.specs.Data.{Data}
use Rattle.resp_value.specs.View.{data_of}
use Rattle.resp_value.specs.declared.value.Value.{Value}
use Rattle.resp_read.specs.declared.limits.Limits.{Limits}
use Rattle.resp_read.specs.declared.reader.ReadError.{ReadError}
use Rattle.resp_read.specs.declared.reader.ReadError.TheVariants.{Parse}
use Rattle.resp_read.specs.Limits.{default_limits}
use Rattle.resp_read.specs.State.{ReaderState}
use Rattle.resp_read.specs.Reads.{ReadsEachWithin, IsProperPrefix, IsMalformed}
use Rattle.resp_read.specs.Reading.{Pumps}
use Rattle.resp_read.specs.Values.{values, left_over, is_spoiled}
use Rattle.resp_read.proofs.ReadLaws.{short_from_prefix, bad_from_malformed}
use Rattle.resp_read.proofs.ValueLaws.{values-read, values-short, values-bad}

-- these values are those of the text, and this is left behind them, where a value may or may not begin
abbrev pub AllCame : List ℕ → List Value → List ℕ → Bool → Type 0
AllCame text vs rest spoiled = (map data_of vs ≡ values text) × (rest ≡ left_over text) × (spoiled ≡ is_spoiled text)

-- where that is so of what is left behind them, with no values
each_came : (text : List ℕ) (vs : List Value) (rest : List ℕ) (spoiled : Bool) → ReadsEachWithin default_limits text vs rest → AllCame rest [] rest spoiled → AllCame text vs rest spoiled
each_came text [] rest spoiled e last = subst (λ (bytes : List ℕ). AllCame bytes [] rest spoiled) (sym e) last
each_came text (v ∷ vs) rest spoiled e last =
    let first = values-read text (data_of v) e.0 e.1 in
    let others = each_came e.0 vs rest spoiled e.2 last in
    (ap (λ (ds : List Data). data_of v ∷ ds) others.0 ∙ sym first.0, others.1 ∙ sym first.1, others.2 ∙ sym first.2)

short_last : (rest : List ℕ) → IsProperPrefix rest → AllCame rest [] rest false
short_last rest h = let law = values-short rest (short_from_prefix rest h) in (sym law.0, sym law.1, sym law.2)

bad_last : (rest : List ℕ) → IsMalformed rest → AllCame rest [] rest true
bad_last rest h = let law = values-bad rest (bad_from_malformed rest h) in (sym law.0, sym law.1, sym law.2)

-- all that came into an empty list
listed : (text : List ℕ) (vs after : List Value) (rest : List ℕ) (spoiled : Bool) → after ≡ vs → AllCame text vs rest spoiled → AllCame text after rest spoiled
listed text vs after rest spoiled e h = (ap (map data_of) e ∙ h.0, h.1, h.2)

at_default : (limits : Limits) (text : List ℕ) (before : List Value) (r : Result (Unit {0}) ReadError) (new : ReaderState) (after : List Value) → limits ≡ default_limits → before ≡ [] → Pumps limits text before r new after → Pumps default_limits text [] r new after
at_default limits text before r new after e none h = subst (λ (bs : List Value). Pumps default_limits text bs r new after) none (subst (λ (l : Limits). Pumps l text before r new after) e h)

-- what was read into an empty list by the default limits: all that is whole, and what is left is the front of a value
pub all_came : (limits : Limits) (text : List ℕ) (before : List Value) (u : Unit {0}) (new : ReaderState) (after : List Value) → limits ≡ default_limits → before ≡ [] → Pumps limits text before (Ok u) new after → AllCame text after new.rest false
all_came limits text before u new after e none p =
    let h = at_default limits text before (Ok u) new after e none p in
    listed text h.0.0 after new.rest false h.0.1 (each_came text h.0.0 new.rest false h.0.2 (short_last new.rest h.1))

-- the same, and what is left begins no value
pub all_spoiled : (limits : Limits) (text : List ℕ) (before : List Value) (new : ReaderState) (after : List Value) → limits ≡ default_limits → before ≡ [] → Pumps {U = Unit {0}} limits text before (Err Parse) new after → AllCame text after new.rest true
all_spoiled limits text before new after e none p =
    let h = at_default limits text before (Err Parse) new after e none p in
    listed text h.0.0 after new.rest true h.0.1 (each_came text h.0.0 new.rest true h.0.2 (bad_last new.rest h.1))
