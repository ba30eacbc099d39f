use Rattle.canonical_laws.proofs.Same.{read_back, reads_back, reads_back_within}
use Rattle.canonical_laws.proofs.Exact.{readable_alone}
use Rattle.canonical_laws.proofs.a_canonical_text_is_read_back.Goals as goal

pub returns : goal.returns
returns c = record { at_depth = read_back; reads = reads_back; within = reads_back_within; no_other = readable_alone }
