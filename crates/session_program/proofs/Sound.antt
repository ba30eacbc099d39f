-- A script of which nothing is refused, without a bad event or a spent step, has no first one.
use Rattle.std.proofs.Common.{◌≡◌, ℕ, zero, suc, false, List, [], ◌∷◌, Option, Some, None, ◌∙◌, sym, ap, subst}
use Rattle.std.proofs.lemmas.Bool.{both_ways}
use Rattle.std.specs.Prelude.{Result, Ok, Err, slice_get, take}
use Rattle.redis_error.specs.declared.config_name.ConfigName.{ConfigName}
use Rattle.driver_model.specs.declared.config.Config.{Config}
use Rattle.driver_model.specs.Config.{first_fault}
use Rattle.driver_model.specs.declared.event.Event.{Event}
use Rattle.script_text.specs.Script.{script_of}
use Rattle.script_text.specs.declared.script.Script.{Script}
use Rattle.single_session.specs.declared.core_state.Core.{Core}
use Rattle.single_session.specs.Turn.{next_turn, is_bad, spends}
use Rattle.single_session.specs.Replay.{opening_core, run_on, state_after, AreGood, AreGoodOn, AreUnspent, AreUnspentOn, is_bad_after, is_spent_after, IsSound}
use Rattle.session_program.specs.Runs.{HasRefusedConfig, IsSoundScript}
use Rattle.session_program.specs.Stops.{IsFirstBad, IsFirstSpent}

same_event : (d e : Event) → Some d ≡ Some e → d ≡ e
same_event d e is = cc

good_on-at : (c : Core) (es : List Event) (n : ℕ) (e : Event) → AreGoodOn c es → slice_get es n ≡ Some e → is_bad (run_on c (take n es)) e.kind ≡ false
good_on-at c [] n e all is = cc
good_on-at c (d ∷ es) zero e all is = subst (λ (x : Event). is_bad c x.kind ≡ false) (same_event d e is) all.0
good_on-at c (d ∷ es) (suc n) e all is = good_on-at (next_turn c d.kind).core es n e all.1 is

unspent_on-at : (c : Core) (es : List Event) (n : ℕ) (e : Event) → AreUnspentOn c es → slice_get es n ≡ Some e → spends (run_on c (take n es)) e ≡ false
unspent_on-at c [] n e all is = cc
unspent_on-at c (d ∷ es) zero e all is = subst (λ (x : Event). spends c x ≡ false) (same_event d e is) all.0
unspent_on-at c (d ∷ es) (suc n) e all is = unspent_on-at (next_turn c d.kind).core es n e all.1 is

good-at : (config : Config) (word : ℕ) (es : List Event) (n : ℕ) (e : Event) → AreGood config word es → slice_get es n ≡ Some e → is_bad_after config word (take n es) e ≡ false
unfolding AreGood state_after
good-at config word es n e all is = good_on-at (opening_core config word) es n e all is

unspent-at : (config : Config) (word : ℕ) (es : List Event) (n : ℕ) (e : Event) → AreUnspent config word es → slice_get es n ≡ Some e → is_spent_after config word (take n es) e ≡ false
unfolding AreUnspent state_after
unspent-at config word es n e all is = unspent_on-at (opening_core config word) es n e all is

abbrev the_script : Result Script ℕ → Script → Script
the_script (Ok s) d = s
the_script (Err n) d = d

same_script : (r : Result Script ℕ) (s t : Script) → r ≡ Ok s → r ≡ Ok t → s ≡ t
same_script r s t one other = sym (ap (λ (x : Result Script ℕ). the_script x s) one) ∙ ap (λ (x : Result Script ℕ). the_script x s) other

pub not_fault : (bytes : List ℕ) (line : ℕ) → script_of bytes ≡ Err line → IsSoundScript bytes → ⊥
not_fault bytes line fault sound = let reads = sound.reads in cc

pub no_fault_in : (bytes : List ℕ) (line : ℕ) → script_of bytes ≡ Err line → HasRefusedConfig bytes → ⊥
no_fault_in bytes line fault refused = let reads = refused.reads in cc

-- a configuration is sound, or it is refused
one_way : (o : Option ConfigName) (name : ConfigName) → o ≡ None → o ≡ Some name → ⊥
one_way o name none some = cc

pub not_sound : (bytes : List ℕ) (script : Script) → script_of bytes ≡ Ok script → IsSound script.config → HasRefusedConfig bytes → ⊥
not_sound bytes script reads sound refused =
    let same : refused.script ≡ script = same_script (script_of bytes) refused.script script refused.reads reads in
    one_way (first_fault script.config) refused.name sound (ap (λ (s : Script). first_fault s.config) (sym same) ∙ refused.refused)

pub not_unsound : (bytes : List ℕ) → HasRefusedConfig bytes → IsSoundScript bytes → ⊥
not_unsound bytes refused sound = not_sound bytes sound.script sound.reads sound.sound refused

pub not_bad : (bytes : List ℕ) (script : Script) → script_of bytes ≡ Ok script → (index : ℕ) → IsFirstBad script.config script.word script.events index → IsSoundScript bytes → ⊥
not_bad bytes script reads index first sound =
    let same : sound.script ≡ script = same_script (script_of bytes) sound.script script sound.reads reads in
    let good : AreGood script.config script.word script.events = subst (λ (s : Script). AreGood s.config s.word s.events) same sound.good in
    both_ways _ (good-at script.config script.word script.events index first.bad.event good first.bad.stands) first.bad.bad

pub not_spent : (bytes : List ℕ) (script : Script) → script_of bytes ≡ Ok script → (index : ℕ) → IsFirstSpent script.config script.word script.events index → IsSoundScript bytes → ⊥
not_spent bytes script reads index first sound =
    let same : sound.script ≡ script = same_script (script_of bytes) sound.script script sound.reads reads in
    let unspent : AreUnspent script.config script.word script.events = subst (λ (s : Script). AreUnspent s.config s.word s.events) same sound.unspent in
    both_ways _ (unspent-at script.config script.word script.events index first.spent.event unspent first.spent.stands) first.spent.spent
