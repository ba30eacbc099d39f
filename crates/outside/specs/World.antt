-- What a call of a world says of the calls that it tells, and which answers are faults.
use Rattle.std.specs.Prelude.{◌≡◌, ℕ, ◌<◌, ◌≤◌, List, [], ◌∷◌, ◌++◌, take, Option, Some, ⊤}
use Rattle.outside.specs.declared.world.Call.{Call}
use Rattle.outside.specs.declared.world.Dialed.{Dialed}
use Rattle.outside.specs.declared.world.Dialed.TheVariants as dialed
use Rattle.outside.specs.declared.world.LinkGot.{LinkGot}
use Rattle.outside.specs.declared.world.LinkGot.TheVariants as got
use Rattle.outside.specs.declared.world.LinkPut.{LinkPut}
use Rattle.outside.specs.declared.world.LinkPut.TheVariants as put

-- what a world tells after a call is what it told before, and then this call
pub record Adds (old new : Option (List Call)) (call : Call) : Type 0 where
  pub before : (calls : List Call) → new ≡ Some calls → (before : List Call) × (old ≡ Some before) × (calls ≡ before ++ call ∷ [])

-- dialling failed
abbrev pub DialFailed : Dialed → Type 0
DialFailed dialed.Yes = ⊥
DialFailed (dialed.Failed k) = ⊤

-- a read of a link failed
abbrev pub GotFailed : LinkGot → Type 0
GotFailed (got.Failed k) = ⊤
GotFailed (got.Read n) = ⊥
GotFailed got.NotYet = ⊥
GotFailed got.Ended = ⊥

-- a write to a link failed
abbrev pub PutFailed : LinkPut → Type 0
PutFailed (put.Failed k) = ⊤
PutFailed (put.Took n) = ⊥
PutFailed put.NotYet = ⊥

-- a read gives at least one byte, and at most what there is room for
abbrev pub LinkGotWithin : ℕ → LinkGot → Type 0
LinkGotWithin room (got.Read n) = (0 < n) × (n ≤ room)
LinkGotWithin room got.NotYet = ⊤
LinkGotWithin room got.Ended = ⊤
LinkGotWithin room (got.Failed k) = ⊤

-- the bytes that a read gave: the first of the room
abbrev pub link_given : List ℕ → LinkGot → List ℕ
link_given room (got.Read n) = take n room
link_given room got.NotYet = []
link_given room got.Ended = []
link_given room (got.Failed k) = []

-- a write takes at least one byte, and at most the piece
abbrev pub LinkPutWithin : ℕ → LinkPut → Type 0
LinkPutWithin piece (put.Took n) = (0 < n) × (n ≤ piece)
LinkPutWithin piece put.NotYet = ⊤
LinkPutWithin piece (put.Failed k) = ⊤
