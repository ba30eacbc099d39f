-- Whether all callers were handed in.
use Rattle.std.specs.Prelude.{◌≡◌, ◌⊎◌, ℕ, ◌≤◌, nat_le, nat_lt, Bool, true, false, ◌||◌, List, [], ◌∷◌, length}
use Rattle.driver_model.specs.declared.config.Config.{Config}
use Rattle.atomic_table.specs.Seated.{TableId}
use Rattle.session_callers.specs.Calls.{Gathered, Known, Place}
use Rattle.session_callers.specs.Rule.{Each}
use Rattle.session_callers.specs.declared.session.SharedSession.{SharedSession}
use Rattle.session_callers.specs.declared.closing.CloseError.{CloseError}
use Rattle.session_callers.specs.declared.closing.CloseError.TheVariants.{Missing}

-- one of the numbers is the count, or above it
abbrev pub are_above : ℕ → List ℕ → Bool
are_above count [] = false
are_above count (n ∷ ns) = nat_le count n || are_above count ns

-- the caller shows that more than so many were made: by its own number, which counts from 0, or by how many it saw
abbrev pub knows_more : ℕ → Known → Bool
knows_more count c = are_above count c.view.number || nat_lt count c.view.made

abbrev pub do_know_more : ℕ → List Known → Bool
do_know_more count [] = false
do_know_more count (c ∷ cs) = knows_more count c || do_know_more count cs

-- fewer callers than were made: none, or so few that one of them knows of more
abbrev pub AreFewer : List Known → Type 0
AreFewer cs = (length cs ≡ 0) ⊎ (do_know_more (length cs) cs ≡ true)

-- as many callers as their table may ever have, and one at least
abbrev pub AreEnough : List Known → Type 0
AreEnough cs = (1 ≤ length cs) × Each (λ (c : Known). c.view.most ≤ length cs) cs

-- all are handed back, since some are missing
abbrev pub IsMissing : CloseError → SharedSession → List Known → Type 0
IsMissing (Missing shared callers) was cs = (shared ≡ was) × (callers.items ≡ cs) × AreFewer cs

-- the callers share a session of this configuration and word
abbrev pub AreOf : Config → ℕ → List Known → Type 0
AreOf config word cs = Each (λ (c : Known). (c.view.config ≡ config) × (c.view.word ≡ word)) cs

-- where callers share a session of some configuration and word, these are they
abbrev pub IsShared : List Known → Config → ℕ → Type 0
IsShared cs its_config its_word = (config : Config) (word : ℕ) → AreOf config word cs → (its_config ≡ config) × (its_word ≡ word)

-- the caller has neither read nor claimed a number of the dial
abbrev pub IsUndialled : Known → Type 0
IsUndialled c = (c.view.dial ≡ 0) × (c.view.claims ≡ [])

abbrev pub AreUndialled : List Known → Type 0
AreUndialled cs = Each IsUndialled cs

-- the seat of a table, which holds nothing, has taken in these callers
abbrev pub IsGathered : TableId → ℕ → List Known → Place → Type 0
IsGathered z made cs seat = (seat.table_id ≡ z) × (seat.me.1 ≡ []) × Gathered made cs seat.me.0
