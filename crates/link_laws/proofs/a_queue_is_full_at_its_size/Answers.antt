use Rattle.link_laws.proofs.Bounds.{room_below, full_at}
use Rattle.link_laws.proofs.a_queue_is_full_at_its_size.Goals as goal

pub returns : goal.returns
returns c = record { below = room_below; at = full_at }
