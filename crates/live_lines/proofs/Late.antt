-- Numbers run out only behind a billion events.
use Rattle.std.proofs.Common.{◌≡◌, ℕ, ◌+◌, ◌<◌, ◌≤◌, nat_le, true, false, List, [], ◌∷◌, ◌++◌, length, arith}
use Rattle.std.proofs.lemmas.List.{length_push}
use Rattle.containers.proofs.Choices.{by_test, le_from, not_le_from}
use Rattle.driver_model.specs.declared.config.Config.{Config}
use Rattle.driver_model.specs.declared.event.Event.{Event}
use Rattle.legal_laws.proofs.Counts.Few.{none_runs_out}
use Rattle.session_callers.specs.Rule.{SpendsNext}
use Rattle.session_laws.proofs.Managers.RunOut.{spent_run_out}
use Rattle.session_laws.proofs.Turn.Legality.{spent_stands}
use Rattle.single_session.specs.Replay.{AreGood, AreUnspent, IsSound, is_bad_after, is_spent_after, trace_of}

-- no step is spent behind fewer
few_unspent : (config : Config) (word : ℕ) (events : List Event) (e : Event) → IsSound config → AreGood config word events → AreUnspent config word events → is_bad_after config word events e ≡ false → is_spent_after config word events e ≡ true
    → length events + 1 < 1_000_000_000 → ⊥
few_unspent config word events e sound good unspent fine spent few =
    let more : length (events ++ e ∷ []) ≡ length events + 1 = length_push events e in
    let stands = spent_stands config word events e sound good unspent fine in
    none_runs_out config word (events ++ e ∷ []) (trace_of config word (events ++ e ∷ [])) stands.turns stands.each (omega (arith, few, more)) (spent_run_out config word events e sound good unspent fine spent)

-- so one that is comes behind as many
pub spends_late : (config : Config) (word : ℕ) (events : List Event) → IsSound config → AreGood config word events → AreUnspent config word events → SpendsNext config word events → 999_999_999 ≤ length events
spends_late config word events sound good unspent next = by_test (nat_le 999_999_999 (length events)) (999_999_999 ≤ length events)
    (λ t. le_from 999_999_999 (length events) t)
    (λ f. absurd (let below : length events < 999_999_999 = not_le_from 999_999_999 (length events) f in few_unspent config word events next.0 sound good unspent next.1 next.2 (omega (arith, below))))
