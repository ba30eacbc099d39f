use Rattle.link_laws.proofs.Places.{last_place, first_in_place, starts_in_place}
use Rattle.link_laws.proofs.messages_start_in_the_order_of_their_places.Goals as goal

pub returns : goal.returns
returns c = record { last = last_place; front = starts_in_place; first = first_in_place }
