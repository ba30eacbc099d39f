use Rattle.std.proofs.Common.{◌≡◌, ◌++◌, drop}
use Rattle.resp_write.specs.Pack.{pack_each, commands_of}
use Rattle.resp_write.proofs.lists.push_lists.Given as goal

-- what is written and what is left are the whole
abbrev pub invariant-loop-args : goal.invariant-loop-args
invariant-loop-args l = l.out ++ pack_each (commands_of (drop l.args-index l.lists)) ≡ l.fn.out ++ pack_each (commands_of l.lists)
