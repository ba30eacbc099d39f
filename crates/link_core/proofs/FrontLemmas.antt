-- What was in a list before stays its front.
use Rattle.std.proofs.Common.{◌≡◌, ◌≤◌, List, ◌++◌, length, take, sym, ap, ◌∙◌, arith}
use Rattle.std.proofs.Math.Nat.{le_refl}
use Rattle.std.proofs.lemmas.List.{take-append-le, take-take, length-take, take_all}
use Rattle.std.specs.Prelude.{Result, Ok, Err, OnErr}

module _ {X : Type 0} where
  front_length : (before out : List X) → take (length before) out ≡ before → length before ≤ length out
  front_length before out h = omega (arith, length-take (length before) out, ap length h)

  -- more is put behind
  pub front_on : (before out more now : List X) → take (length before) out ≡ before → now ≡ out ++ more → take (length before) now ≡ before
  front_on before out more now h e = ap (take (length before)) e ∙ take-append-le (length before) out more (front_length before out h) ∙ h

  -- the front of a front
  pub front_through : (before out now : List X) → take (length before) out ≡ before → take (length out) now ≡ out → take (length before) now ≡ before
  front_through before out now h k =
      sym (take-take (length before) (length out) now (front_length before out h)) ∙ ap (take (length before)) k ∙ h

  pub front_self : (before : List X) → take (length before) before ≡ before
  front_self before = take_all (length before) before (le_refl (length before))

  -- where a further call fails
  pub front_after : {T E : Type 0} (r : Result T E) (before out now : List X) → take (length before) out ≡ before → OnErr r (take (length out) now ≡ out) → OnErr r (take (length before) now ≡ before)
  front_after (Ok v) before out now h k = tt
  front_after (Err e) before out now h k = front_through before out now h k
