use Rattle.legal_laws.proofs.Links.Drops.{ends_where_dropped}
use Rattle.legal_laws.proofs.a_dropped_stream_ends_its_link.Goals as goal

pub returns : goal.returns
returns c = ends_where_dropped
