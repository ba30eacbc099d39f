use Rattle.cluster_retries.proofs.Judging.{ask_is_followed, moved_is_followed, read_only_is_routed, redirects_lead}
use Rattle.cluster_retries.proofs.laws.redirects_of_a_node_are_followed.Goals as goal

pub returns : goal.returns
returns c = record {
  leads = redirects_lead;
  moved = moved_is_followed;
  ask = ask_is_followed;
  read_only = read_only_is_routed;
}
