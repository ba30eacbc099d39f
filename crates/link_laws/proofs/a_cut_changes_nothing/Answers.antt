use Rattle.link_laws.proofs.Pieces.{same_sound, same_strange, same_broken}
use Rattle.link_laws.proofs.a_cut_changes_nothing.Goals as goal

pub returns : goal.returns
returns c = record {
  sound = same_sound;
  ended = same_strange;
  broken = λ h ready s p q b. (same_broken h ready s p q b).0;
  settled = λ h ready s p q b. (same_broken h ready s p q b).1;
}
