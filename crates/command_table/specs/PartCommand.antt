-- The command of one part of a route to several slots.
use Rattle.std.specs.Prelude.{ℕ, ◌&&◌, Bool, List, Option, Some, None, option_and_then, slice_get, if◌then◌else◌}
use Rattle.resp_write.specs.Command.{Command}
use Rattle.command_table.specs.declared.routing.Route.{Route}
use Rattle.command_table.specs.Selection.{may_be_several, key_count, part_of}
use Rattle.command_table.specs.Splitting.{are_within}

-- whether a command may have keys in several slots, and has a key at each of these places
abbrev pub has_keys_at : List (List ℕ) → List ℕ → Bool
has_keys_at args indices = may_be_several args && are_within (key_count args) indices

-- the command with the keys of these places alone, where it has them
abbrev pub command_with_keys : Command → List ℕ → Option Command
command_with_keys cmd indices =
    if has_keys_at cmd.args indices
    then Some (record { args = part_of cmd.args indices; no_response = cmd.no_response })
    else None

-- the command of the part of place k, where there is one and the command has its keys
abbrev pub command_of_part : Command → List (Route × List ℕ) → ℕ → Option Command
command_of_part cmd parts k = option_and_then (λ p. command_with_keys cmd p.1) (slice_get parts k)
