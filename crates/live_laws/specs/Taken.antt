-- What links took of what was written to them.
use Rattle.std.specs.Prelude.{ℕ, ◌==◌, List, [], ◌∷◌, ◌++◌, take, if◌then◌else◌}
use Rattle.driver_model.specs.declared.event.Event.{Event}
use Rattle.driver_model.specs.declared.event.EventKind.{EventKind}
use Rattle.driver_model.specs.declared.event.EventKind.TheVariants as event
use Rattle.outside.specs.declared.world.Call.{Call}
use Rattle.outside.specs.declared.world.Call.TheVariants as call
use Rattle.outside.specs.declared.world.LinkPut.TheVariants as put

-- the bytes that link l took by a call: of a write to it that took so many, that many from the front of the piece
abbrev pub taken_by : ℕ → Call → List ℕ
taken_by l (call.Write m piece (put.Took n)) = if m == l then take n piece else []
taken_by l _ = []

-- the bytes that link l took by calls, in order
abbrev pub taken : ℕ → List Call → List ℕ
taken l [] = []
taken l (c ∷ cs) = taken_by l c ++ taken l cs

-- the event doesn't tell of bytes that were taken
abbrev pub IsNoWrote : EventKind → Type 0
IsNoWrote (event.Wrote l count) = ⊥
IsNoWrote _ = Unit {0}

-- no event tells of bytes that were taken
abbrev pub AreUnwritten : List Event → Type 0
AreUnwritten [] = Unit {0}
AreUnwritten (e ∷ es) = IsNoWrote e.kind × AreUnwritten es
