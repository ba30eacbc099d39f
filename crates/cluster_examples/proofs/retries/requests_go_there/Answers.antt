use Rattle.std.proofs.Common.{refl}
use Rattle.cluster_retries.specs.Routing.{after_redirect, after_reset}
use Rattle.cluster_examples.specs.Routes.{redirects_of, resets_of}
use Rattle.cluster_examples.proofs.Computed.{gives}
use Rattle.cluster_examples.proofs.retries.requests_go_there.Goals as goal

pub returns : goal.returns
returns c = record {
  redirects = gives (λ case. after_redirect case.0 case.1) redirects_of refl;
  resets = gives after_reset resets_of refl;
}
