use Rattle.cluster_retries.proofs.Resetting.{address_is_followed, no_address_leaves_all, redirect_is_forgotten, request_stays}
use Rattle.cluster_retries.proofs.laws.a_redirect_holds_until_a_reset.Goals as goal

pub returns : goal.returns
returns c = record {
  followed = address_is_followed;
  stray = no_address_leaves_all;
  forgotten = redirect_is_forgotten;
  sent = request_stays;
}
