-- Which links were connected, and which were closed.
use Rattle.std.specs.Prelude.{ℕ, ◌+◌, ◌==◌, List, [], ◌∷◌, if◌then◌else◌}
use Rattle.outside.specs.declared.world.Call.{Call}
use Rattle.outside.specs.declared.world.Call.TheVariants as call
use Rattle.outside.specs.declared.world.Dialed.TheVariants as dialed
use Rattle.live_run.specs.Deeds.{Deed, did}

-- how often n stands in a list
abbrev pub times : ℕ → List ℕ → ℕ
times n [] = 0
times n (x ∷ xs) = (if x == n then 1 else 0) + times n xs

-- the link that a deed connected, if it was a dial that answered Yes
abbrev pub connected : Deed → List ℕ
connected (did (call.Dial link host port dialed.Yes) word actions) = link ∷ []
connected _ = []

abbrev pub closed : Deed → List ℕ
closed (did (call.Close link) word actions) = link ∷ []
closed _ = []

-- how often a dial of link n answered Yes
abbrev pub ups : ℕ → List Deed → ℕ
ups n [] = 0
ups n (d ∷ ds) = times n (connected d) + ups n ds

-- how often link n was closed
abbrev pub downs : ℕ → List Deed → ℕ
downs n [] = 0
downs n (d ∷ ds) = times n (closed d) + downs n ds

-- the calls that close these links
abbrev pub close_calls : List ℕ → List Call
close_calls [] = []
close_calls (link ∷ links) = call.Close link ∷ close_calls links
