-- What two calls in a row do.
use Rattle.std.proofs.Common.{arith, ◌≡◌, ◌≤◌, ℕ, ◌+◌, ◌-◌, List, [], ◌++◌, take, drop, length, Option, Some, append_assoc, length-drop, refl, ◌∙◌, sym, ap}
use Rattle.std.proofs.lemmas.List.{take_rest, append-nil}
use Rattle.std.proofs.Math.Seq.{take-add}
use Rattle.outside.specs.Ends.{Rose, Gave, GaveSome, Gained}
use Rattle.outside.specs.Feeding.{Passed}

-- a count that fell in no call and rose in the last has risen
pub rose_later : (before mid now : ℕ) → before ≤ mid → Rose mid now → Rose before now
rose_later before mid now later rose = omega arith

-- a source that gave one piece and then another
pub gave_more : {old mid new : Option (List ℕ)} {first second : List ℕ} → Gave old mid first → Gave mid new second → Gave old new (first ++ second)
gave_more {old} {mid} {new} {first} {second} one two = record {
  rest = λ bytes is.
      let a = one.rest bytes is in
      let b = two.rest a.0 a.1 in
      (b.0, b.1, append_assoc first second b.0 ∙ ap (λ (xs : List ℕ). first ++ xs) b.2 ∙ a.2);
}

-- the same where the pieces do not matter
pub gave_some_more : {old mid new : Option (List ℕ)} {piece : List ℕ} → GaveSome old mid → Gave mid new piece → GaveSome old new
gave_some_more {piece = piece} one two = record { piece = one.piece ++ piece; gave = gave_more one.gave two }

-- a sink that gained a front of the bytes, and then some of the rest, gained a longer front
pub gained_more : {old mid new : Option (List ℕ)} (bytes : List ℕ) (at n : ℕ) → Gained old mid (take at bytes)
    → Gained mid new (take n (take (length bytes - at) (drop at bytes))) → Gained old new (take (at + n) bytes)
gained_more bytes at n first later = record {
  held = λ held is.
      let rest : take n (take (length bytes - at) (drop at bytes)) ≡ take n (drop at bytes) = ap (λ (xs : List ℕ). take n xs) (take_rest bytes at) in
      let gained = later.held (held ++ take at bytes) (first.held held is) in
      rw (gained, rest, append_assoc held (take at bytes) (take n (drop at bytes)), ← take-add at n bytes) refl;
}

-- a sink that then gained nothing holds what it held
pub gained_no_more : {old mid new : Option (List ℕ)} {piece : List ℕ} → Gained old mid piece → Gained mid new [] → Gained old new piece
gained_no_more {piece = piece} first later = record {
  held = λ held is. later.held (held ++ piece) (first.held held is) ∙ ap (λ (xs : List ℕ). Some xs) (append-nil (held ++ piece));
}

-- what is taken of the rest stays within the whole
pub within_more : (bytes : List ℕ) (at n : ℕ) → at ≤ length bytes → n ≤ length (take (length bytes - at) (drop at bytes)) → at + n ≤ length bytes
within_more bytes at n within more = omega (arith, rw (take_rest bytes at, length-drop) at more)

-- a feed that has nothing new of a source that gave nothing
pub passed_none : {left : Option (List ℕ)} {kept : List ℕ} → Passed left left kept kept
passed_none {left} {kept} = record { piece = []; gained = sym (append-nil kept); gave = record { rest = λ bytes is. (bytes, is, refl) } }

-- a feed that has two pieces of a source, one after the other
pub passed_more : {left mid rest : Option (List ℕ)} {before between after : List ℕ} → Passed left mid before between → Passed mid rest between after → Passed left rest before after
passed_more {before = before} one two = record {
  piece = one.piece ++ two.piece;
  gained = two.gained ∙ ap (λ (xs : List ℕ). xs ++ two.piece) one.gained ∙ append_assoc before one.piece two.piece;
  gave = gave_more one.gave two.gave;
}

-- a source that gave what a feed has, and then some piece
pub gave_some_after : {left mid rest : Option (List ℕ)} {before kept : List ℕ} → Passed left mid before kept → GaveSome mid rest → GaveSome left rest
gave_some_after one two = record { piece = one.piece ++ two.piece; gave = gave_more one.gave two.gave }
