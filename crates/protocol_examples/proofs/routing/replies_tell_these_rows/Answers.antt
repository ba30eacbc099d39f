use Rattle.std.proofs.Common.{refl}
use Rattle.std.specs.Char.{encode_utf8}
use Rattle.std.specs.Str.{chars, is_utf8}
use Rattle.mux_routing.specs.Reply.{node_of, row_of}
use Rattle.protocol_examples.specs.SlotRows.{hosts_told, no_rows, primaries_of_slots, primary_of, rows_told}
use Rattle.protocol_examples.proofs.Computed.{gives}
use Rattle.protocol_examples.proofs.routing.replies_tell_these_rows.Goals as goal

pub returns : goal.returns
unfolding chars encode_utf8 is_utf8 node_of row_of
returns c = record { hosts = gives rows_told hosts_told refl; none = gives rows_told no_rows refl; slots = gives primary_of primaries_of_slots refl }
