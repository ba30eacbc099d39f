-- What a world in memory answers by its lists.
use Rattle.std.specs.Prelude.{ℕ, List, [], ◌∷◌, ◌==◌, min, Option, if◌then◌else◌}
use Rattle.redis_error.specs.declared.fault_kind.FaultKind.TheVariants.{Refused}
use Rattle.outside.specs.declared.mem_world.MemWorld.{MemWorld}
use Rattle.outside.specs.declared.mem_world.WorldScript.{WorldScript}
use Rattle.outside.specs.declared.world.Call.{Call}
use Rattle.outside.specs.declared.world.Dialed.{Dialed}
use Rattle.outside.specs.declared.world.Dialed.TheVariants as dialed
use Rattle.outside.specs.declared.world.LinkGot.{LinkGot}
use Rattle.outside.specs.declared.world.LinkGot.TheVariants as got
use Rattle.outside.specs.declared.world.LinkPut.{LinkPut}
use Rattle.outside.specs.declared.world.LinkPut.TheVariants as put

-- what a world is still to answer
abbrev pub script_of : MemWorld → WorldScript
script_of w = w.script

-- all calls so far, as long as there was memory for them
abbrev pub calls_told : MemWorld → Option (List Call)
calls_told w = w.log.calls

-- how often a world has failed
abbrev pub world_faults : MemWorld → ℕ
world_faults w = w.faults

-- a list without its first item
abbrev pub rest_of : {T : Type 0} → List T → List T
rest_of [] = []
rest_of (x ∷ xs) = xs

-- a script after the answer to a dial
abbrev pub dial_answered : WorldScript → WorldScript
dial_answered s = record s { dials = rest_of s.dials }

-- a script after the answer to a write
abbrev pub write_answered : WorldScript → WorldScript
write_answered s = record s { writes = rest_of s.writes }

-- a script after it told a moment
abbrev pub moment_told : WorldScript → WorldScript
moment_told s = record s { moments = rest_of s.moments }

-- a script after it told a word
abbrev pub word_told : WorldScript → WorldScript
word_told s = record s { words = rest_of s.words }

-- a script after the answer to a read, with these bytes still to come
abbrev pub read_answered : WorldScript → List ℕ → WorldScript
read_answered s left = record s { reads = rest_of s.reads; incoming = left }

-- a dial is answered by the first item, and refused where there is none
abbrev pub dial_answer : List Dialed → Dialed
dial_answer [] = dialed.Failed Refused
dial_answer (a ∷ as_) = a

-- a moment or a word is the first item, and 0 where there is none
abbrev pub number_answer : List ℕ → ℕ
number_answer [] = 0
number_answer (x ∷ xs) = x

-- so many bytes read, or nothing yet
abbrev pub read_some : ℕ → LinkGot
read_some n = if n == 0 then got.NotYet else got.Read n

-- a read is answered by the first item: at most as many bytes as it says, as there is room for and as are to come
abbrev pub read_answer : List LinkGot → ℕ → ℕ → LinkGot
read_answer [] incoming room = got.NotYet
read_answer (got.Read n ∷ rest) incoming room = read_some (min (min n room) incoming)
read_answer (got.NotYet ∷ rest) incoming room = got.NotYet
read_answer (got.Ended ∷ rest) incoming room = got.Ended
read_answer (got.Failed k ∷ rest) incoming room = got.Failed k

-- so many bytes taken, or nothing yet
abbrev pub take_some : ℕ → LinkPut
take_some n = if n == 0 then put.NotYet else put.Took n

-- a write is answered by the first item: at most as many bytes as it says and as the piece has
abbrev pub write_answer : List LinkPut → ℕ → LinkPut
write_answer [] piece = put.NotYet
write_answer (put.Took n ∷ rest) piece = take_some (min n piece)
write_answer (put.NotYet ∷ rest) piece = put.NotYet
write_answer (put.Failed k ∷ rest) piece = put.Failed k
