use Rattle.std.proofs.Common.{◌≡◌, ◌++◌, take}
use Rattle.std.specs.Prelude.{flat_map}
use Rattle.resp_write.specs.Pack.{bulk_string}
use Rattle.resp_write.proofs.pack.push_arguments.Given as goal

-- each argument that was passed is written
abbrev pub invariant-loop-arg : goal.invariant-loop-arg
invariant-loop-arg l = l.out ≡ l.fn.out ++ flat_map bulk_string (take l.arg-index l.args)
