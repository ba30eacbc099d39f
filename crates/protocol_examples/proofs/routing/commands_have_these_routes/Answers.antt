use Rattle.std.proofs.Common.{refl}
use Rattle.slot_hash.specs.Crc.{after_byte}
use Rattle.command_table.specs.Commands.{two_word_commands, one_word_commands}
use Rattle.command_table.specs.Lookup.{one_word_form, two_word_form}
use Rattle.command_table.specs.Routing.{routing_of}
use Rattle.protocol_examples.specs.Routes.{part_of_places, routes_to_all, routes_to_any, routes_by_key, routes_by_keys, commands_of_parts}
use Rattle.protocol_examples.proofs.Computed.{gives}
use Rattle.protocol_examples.proofs.routing.commands_have_these_routes.Goals as goal

pub returns : goal.returns
unfolding after_byte two_word_commands one_word_commands one_word_form two_word_form
returns c = record { all = gives routing_of routes_to_all refl; any = gives routing_of routes_to_any refl; key = gives routing_of routes_by_key refl; keys = gives routing_of routes_by_keys refl; parts = gives part_of_places commands_of_parts refl }
