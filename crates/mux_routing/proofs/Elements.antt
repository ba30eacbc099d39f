-- What is told by the elements of an array, one after another.
use Rattle.std.proofs.Common.{◌≡◌, List, [], ◌∷◌, ◌++◌, Option, Some, None, refl, ap, append_assoc}
use Rattle.resp_value.specs.Data.{Data, items_of, list_of}
use Rattle.mux_routing.specs.Reply.{added}

pub of_array : (ds : List Data) → list_of (items_of ds) ≡ ds
of_array [] = refl
of_array (d ∷ ds) = ap (λ es. d ∷ es) (of_array ds)

-- behind what stands already
abbrev pub behind : {T : Type 0} → List T → Option (List T) → Option (List T)
behind before None = None
behind before (Some more) = Some (before ++ more)

pub one_more : {T : Type 0} → (before : List T) (item : T) (rest : Option (List T)) → behind (before ++ item ∷ []) rest ≡ behind before (added (Some (Some item)) rest)
one_more before item None = refl
one_more before item (Some rest) = rw append_assoc

pub one_left_out : {T : Type 0} → (before : List T) (rest : Option (List T)) → behind before (added (Some None) rest) ≡ behind before rest
one_left_out before None = refl
one_left_out before (Some rest) = refl
