use Rattle.std.proofs.Common.{◌≡◌, ◌++◌, drop}
use Rattle.command_table.proofs.selection.push_args.Given as goal

abbrev pub invariant-loop-arg : goal.invariant-loop-arg
invariant-loop-arg l = record {
  args : l.cmd.args ++ drop l.arg-index l.args ≡ l.fn.cmd.args ++ l.args;
  mark : l.cmd.no_response ≡ l.fn.cmd.no_response;
}
