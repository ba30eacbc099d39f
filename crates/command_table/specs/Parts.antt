-- A part of a command that gets one more key.
use Rattle.std.specs.Prelude.{ℕ, zero, suc, List, [], ◌∷◌, ◌++◌}
use Rattle.command_table.specs.declared.routing.Route.{Route}

-- the part of place k has one more key, of place i
abbrev pub joined : ℕ → ℕ → List (Route × List ℕ) → List (Route × List ℕ)
joined i k [] = []
joined i zero (p ∷ ps) = (p.0, p.1 ++ i ∷ []) ∷ ps
joined i (suc k) (p ∷ ps) = p ∷ joined i k ps

-- the slot of the part of place k
abbrev pub slot_at : ℕ → List (Route × List ℕ) → ℕ
slot_at k [] = 0
slot_at zero (p ∷ ps) = p.0.slot
slot_at (suc k) (p ∷ ps) = slot_at k ps
