-- What the list of calls has where a closure makes none of its own.
use Rattle.std.specs.Prelude.{◌≡◌, ℕ, zero, suc, ◌-◌, ◌^◌, ◌<◌, List, [], ◌∷◌, ◌++◌, map, Option, Some, None, Result}
use Rattle.std.specs.Borrow.{MutBor}
use Rattle.std.specs.Fn.{Mut, CalledWithState}
use Rattle.resp_write.specs.Command.{Command, CommandList}
use Rattle.transactions.specs.declared.call_error.CallError.{CallError}
use Rattle.transactions.specs.Calls.{Told, Made}
use Rattle.transactions.specs.Calls.Made.{command, together}
use Rattle.transactions.specs.Turns.{unwatch_all}

-- whatever the closure answers, what was told before its call is told after it
abbrev pub MakesNoCalls : {C F T : Type 0} → (C → Told) → Mut F (MutBor C × (CommandList × Unit {0})) ((Result (Option T) CallError) × (MutBor C × Unit {0})) → Type 0
MakesNoCalls {C} {F} {T} told closure =
    (f : F) (c : C) (p : CommandList) (r : Result (Option T) CallError) (g : F) (d : C) → CalledWithState closure f c p r g d → told d ≡ told c

-- no call was left out of the list between the one and the other
abbrev pub ListsAll : Told → Told → Type 0
ListsAll old new = (new.unlisted ≡ old.unlisted) × (old.unlisted < 2 ^ 64 - 1)

-- the command of a call; of a call of several there is none
abbrev pub command_in : Made → Option Command
command_in (command c answer) = Some c
command_in (together p answer) = None

abbrev pub commands_in : Told → List (Option Command)
commands_in t = map command_in t.made

-- WATCH and UNWATCH, so often
abbrev pub watch_and_unwatch : Command → ℕ → List (Option Command)
watch_and_unwatch watch zero = []
watch_and_unwatch watch (suc n) = watch_and_unwatch watch n ++ Some watch ∷ Some unwatch_all ∷ []
