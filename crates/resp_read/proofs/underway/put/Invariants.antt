use Rattle.std.proofs.Common.{◌≡◌, ℕ, List, vec_len}
use Rattle.resp_value.specs.View.{data_of}
use Rattle.resp_read.specs.Parser.{read}
use Rattle.resp_read.specs.Frames.{within}
use Rattle.resp_read.specs.declared.limits.Limits.{Limits}
use Rattle.resp_read.proofs.underway.put.Given as goal

abbrev pub decreases-loop-back : goal.decreases-loop-back
decreases-loop-back l = vec_len l.frames

abbrev pub invariant-loop-back : goal.invariant-loop-back
invariant-loop-back l = (limits : Limits) (bs : List ℕ) → within limits limits.depth l.initial.frames.items (read (data_of l.initial.value) bs) ≡ within limits limits.depth l.frames.items (read (data_of l.value) bs)
