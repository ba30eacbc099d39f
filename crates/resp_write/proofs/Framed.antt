-- A pipeline without commands, and one that has some.
use Rattle.std.proofs.Common.{◌≡◌, refl, Bool, true, false, List, [], ◌∷◌, ℕ, length, ◌==◌, arith}
use Rattle.resp_write.specs.Pack.{pack_commands, pack_framed, commands_of}

-- commands that are some are framed
pub framed_lists : (atomic : Bool) (lists : List (List (List ℕ))) → (length lists == 0) ≡ false → pack_commands atomic (commands_of lists) ≡ pack_framed atomic (commands_of lists)
framed_lists atomic [] some = cc
framed_lists atomic (l ∷ ls) some = refl

-- without any there are no bytes
pub no_lists : (atomic : Bool) (lists : List (List (List ℕ))) → (length lists == 0) ≡ true → pack_commands atomic (commands_of lists) ≡ []
no_lists atomic [] none = refl
no_lists atomic (l ∷ ls) none = grind arith
