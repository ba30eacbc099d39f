-- The last request of a connection, by its number.
use Rattle.std.proofs.Common.{◌≡◌, ℕ, List, [], ◌∷◌, ◌++◌, length, Option, Some, slice_get, slice_set, refl, ap, ◌∙◌}
use Rattle.mux_conn.specs.declared.request.Progress.{Progress}
use Rattle.mux_conn.specs.declared.request.Request.{Request}
use Rattle.mux_conn.specs.Requests.{name_or_none, name_at, permits_or_none, with_permits, at_progress}

-- what stands last
pub get_last : {X : Type 0} (xs : List X) (x : X) → slice_get (xs ++ x ∷ []) (length xs) ≡ Some x
get_last [] x = refl
get_last (y ∷ xs) x = get_last xs x

-- and what is put in its place
pub set_last : {X : Type 0} (xs : List X) (x y : X) → slice_set (xs ++ x ∷ []) (length xs) y ≡ xs ++ y ∷ []
set_last [] x y = refl
set_last (z ∷ xs) x y = ap (λ zs. z ∷ zs) (set_last xs x y)

-- a request of this name that has come so far, without permits
abbrev pub come_to : ℕ → Progress → Request
come_to name now = record { name = name; progress = now; permits = 0 }

-- its name
pub name_last : (rs : List Request) (name : ℕ) (now : Progress) → name_at (rs ++ come_to name now ∷ []) (length rs) ≡ name
name_last rs name now = ap name_or_none (get_last rs (come_to name now))

-- it comes further
pub progress_last : (rs : List Request) (name : ℕ) (before now : Progress) → at_progress (rs ++ come_to name before ∷ []) (length rs) now ≡ rs ++ come_to name now ∷ []
progress_last rs name before now =
    ap (λ (o : Option Request). slice_set (rs ++ come_to name before ∷ []) (length rs) (record { name = name_or_none o; progress = now; permits = permits_or_none o })) (get_last rs (come_to name before))
    ∙ set_last rs (come_to name before) (come_to name now)

-- or comes so far without permits
pub permits_last : (rs : List Request) (name : ℕ) (before now : Progress) → with_permits (rs ++ come_to name before ∷ []) (length rs) now 0 ≡ rs ++ come_to name now ∷ []
permits_last rs name before now =
    ap (λ (o : Option Request). slice_set (rs ++ come_to name before ∷ []) (length rs) (record { name = name_or_none o; progress = now; permits = 0 })) (get_last rs (come_to name before))
    ∙ set_last rs (come_to name before) (come_to name now)
