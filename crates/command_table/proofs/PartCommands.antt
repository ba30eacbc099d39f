-- Each part of a command's own route has a command.
use Rattle.std.proofs.Common.{◌≡◌, ℕ, zero, suc, ◌<◌, true, List, [], ◌∷◌, length, Option, IsSome, Result, Ok, Err, IfOk, subst, sym, refl, arith}
use Rattle.std.specs.List.{list_all}
use Rattle.std.proofs.lemmas.Bool.Decides.{nat_tests}
use Rattle.resp_write.specs.Command.{Command}
use Rattle.command_table.specs.declared.routing.Route.{Route}
use Rattle.command_table.specs.declared.routing.ResponsePolicy.{ResponsePolicy}
use Rattle.command_table.specs.declared.routing.MultipleNodeRoutingInfo.TheVariants.{MultiSlot}
use Rattle.command_table.specs.declared.routing.RoutingInfo.TheVariants.{MultiNode}
use Rattle.command_table.specs.PartCommand.{command_of_part, command_with_keys}
use Rattle.command_table.specs.Selection.{may_be_several, key_count}
use Rattle.command_table.specs.Splitting.{are_within, can_be_split}

with_its_keys : (cmd : Command) (indices : List ℕ) → may_be_several cmd.args ≡ true → are_within (key_count cmd.args) indices ≡ true → IsSome (command_with_keys cmd indices)
with_its_keys cmd indices several within = rw (several, within) refl

in_each : (cmd : Command) (parts : List (Route × List ℕ)) (k : ℕ) → may_be_several cmd.args ≡ true → list_all (λ p. are_within (key_count cmd.args) p.1) parts ≡ true → k < length parts → IsSome (command_of_part cmd parts k)
in_each cmd [] k several h lt = absurd (omega arith)
in_each cmd (p ∷ ps) zero several h lt = with_its_keys cmd p.1 several (grind (arith, nat_tests))
in_each cmd (p ∷ ps) (suc k) several h lt = in_each cmd ps k several (grind (arith, nat_tests)) (omega arith)

pub each_part : (cmd : Command) (parts : List (Route × List ℕ)) (k : ℕ) (policy : Option ResponsePolicy) → can_be_split cmd.args (MultiNode (MultiSlot parts) policy) ≡ true → k < length parts → IsSome (command_of_part cmd parts k)
unfolding can_be_split
each_part cmd parts k policy h lt = in_each cmd parts k (grind (arith, nat_tests)) (grind (arith, nat_tests)) lt

pub if_some : {E : Type 0} (r : Result (Option Command) E) (cmd : Command) (parts : List (Route × List ℕ)) (k : ℕ) → IfOk r (λ part. part ≡ command_of_part cmd parts k) → IsSome (command_of_part cmd parts k) → IfOk r (λ part. IsSome part)
if_some (Ok part) cmd parts k e h = subst (λ p. IsSome p) (sym e) h
if_some (Err error) cmd parts k e h = tt
