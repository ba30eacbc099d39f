-- What requests wait for.
use Rattle.std.specs.Prelude.{ℕ}
use Rattle.driver_model.specs.declared.action.WaitKind.{WaitKind}
use Rattle.driver_model.specs.declared.action.WaitKind.TheVariants as wait

-- each wait by a number of its own
abbrev pub wait_code : WaitKind → ℕ
wait_code wait.Connect = 0
wait_code wait.Creds = 1
wait_code wait.Setup = 2
wait_code wait.Resubscribe = 3
wait_code wait.Backoff = 4
wait_code wait.Permit = 5
wait_code wait.Place = 6
wait_code wait.Room = 7
