-- Where a request waits.
use Rattle.std.specs.Prelude.{◌≡◌, ℕ, ◌<◌, List, length, slice_get, remove}
use Rattle.mux_conn.specs.declared.request.Waiting.{Waiting}
use Rattle.mux_conn.specs.Passes.{entry_of, without}

-- index i has the entry of request p
pub record IsPlaceOf (p : ℕ) (qs : List Waiting) (i : ℕ) : Type 0 where
  pub within : i < length qs
  pub entry : entry_of p qs ≡ slice_get qs i
  pub others : without p qs ≡ remove qs i
