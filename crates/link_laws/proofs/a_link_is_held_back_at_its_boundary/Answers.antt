use Rattle.link_laws.proofs.Bounds.{free_below, held_at, held_above, free_empty, free_beyond}
use Rattle.link_laws.proofs.a_link_is_held_back_at_its_boundary.Goals as goal

pub returns : goal.returns
returns c = record { below = free_below; at = held_at; above = held_above; empty = free_empty; beyond = free_beyond }
