use Rattle.std.proofs.Common.{◌≡◌, drop}
use Rattle.script_text.specs.EventLine.{fault_among}
use Rattle.script_text.proofs.event_line.fault_among.Given as goal

abbrev pub invariant-loop-fault : goal.invariant-loop-fault
invariant-loop-fault l = fault_among l.faults l.name ≡ fault_among (drop l.fault-index l.faults) l.name
