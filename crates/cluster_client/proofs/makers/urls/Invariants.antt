use Rattle.std.proofs.Common.{◌≡◌, map, take}
use Rattle.connection_info.specs.Written.{url_of}
use Rattle.cluster_client.specs.Settings.{ReadBack}
use Rattle.cluster_client.proofs.makers.urls.Given as goal

abbrev pub invariant-loop-node : goal.invariant-loop-node
invariant-loop-node l = record {
  texts : l.texts ≡ map url_of (take l.node-index l.nodes);
  read : ReadBack (take l.node-index l.nodes);
}
