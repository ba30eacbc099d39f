-- What a source gives, what a sink takes, and when a count of faults has risen.
use Rattle.std.specs.Prelude.{◌≡◌, ℕ, ◌+◌, ◌-◌, ◌^◌, ◌<◌, ◌≤◌, min, List, [], ◌++◌, length, take, Option, Some, ⊤}
use Rattle.outside.specs.declared.source.Got.{Got}
use Rattle.outside.specs.declared.source.Got.TheVariants as got
use Rattle.outside.specs.declared.sink.Put.{Put}
use Rattle.outside.specs.declared.sink.Put.TheVariants as put

-- a count of faults has risen, or stands at the end of its type
abbrev pub Rose : ℕ → ℕ → Type 0
Rose before now = min (before + 1) (2 ^ 64 - 1) ≤ now

-- what a source had left, if it tells, was this piece and then what it has left now
pub record Gave (old new : Option (List ℕ)) (piece : List ℕ) : Type 0 where
  pub rest : (bytes : List ℕ) → old ≡ Some bytes → (left : List ℕ) × (new ≡ Some left) × (piece ++ left ≡ bytes)

-- what a source had left, if it tells, was some piece and then what it has left now
pub record GaveSome (old new : Option (List ℕ)) : Type 0 where
  pub piece : List ℕ
  pub gave : Gave old new piece

-- a source has nothing left, if it tells
abbrev pub IsAtEnd : Option (List ℕ) → Type 0
IsAtEnd left = (bytes : List ℕ) → left ≡ Some bytes → bytes ≡ []

-- what a sink holds, if it tells, is what it held and then this piece
pub record Gained (old new : Option (List ℕ)) (piece : List ℕ) : Type 0 where
  pub held : (bytes : List ℕ) → old ≡ Some bytes → new ≡ Some (bytes ++ piece)

-- what a sink holds, if it tells, is what it held and then the front of this piece, or all of it
pub record GainedPart (old new : Option (List ℕ)) (piece : List ℕ) : Type 0 where
  pub count : ℕ
  pub within : count ≤ length piece
  pub gained : Gained old new (take count piece)

-- a read gives at least one byte, and at most what there is room for
abbrev pub GotWithin : ℕ → Got → Type 0
GotWithin room (got.Read n) = (0 < n) × (n ≤ room)
GotWithin room got.End = ⊤
GotWithin room got.Failed = ⊤

-- the bytes that a read gave: the first of the room
abbrev pub given : List ℕ → Got → List ℕ
given room (got.Read n) = take n room
given room got.End = []
given room got.Failed = []

-- a write takes at least one byte, and at most the piece
abbrev pub PutWithin : ℕ → Put → Type 0
PutWithin piece (put.Took n) = (0 < n) × (n ≤ piece)
PutWithin piece put.Failed = ⊤

-- the bytes that a write took: the first of the piece
abbrev pub taken : List ℕ → Put → List ℕ
taken piece (put.Took n) = take n piece
taken piece put.Failed = []
