-- The words of sessions, computed.
use Rattle.std.proofs.Common.{◌≡◌, ◌≢◌, ℕ, Option, Some, None, refl, ap}
use Rattle.url.proofs.OnLiterals.{url_on_literals}
use Rattle.cluster_client.specs.declared.params.OverallResponseTimeout.TheVariants.{Explicit}
use Rattle.cluster_client.specs.declared.settings.ClusterKind.TheVariants.{Cluster, Pending}
use Rattle.cluster_client.specs.declared.settings.ClusterSettings.{ClusterSettings}
use Rattle.cluster_client.specs.Config.{configured, own_config, unset_config}
use Rattle.cluster_client.specs.Settings.{settings_of}
use Rattle.cluster_examples.specs.ClientNodes.{unset}
use Rattle.cluster_examples.specs.ClientsAsked.{bare, of_one, quick, quicker, of_quicker, changed, of_changed}

pub bare_words : settings_of Cluster (of_one unset None) unset ≡ bare
unfolding url_on_literals
bare_words = refl

pub quicker_words : settings_of Cluster (of_one quick (Some 7)) (configured quick quicker) ≡ of_quicker
unfolding url_on_literals
quicker_words = refl

pub unset_words : settings_of Cluster (of_one quick (Some 7)) (configured quick unset_config) ≡ record bare { overall = Some (Explicit (Some 7)) }
unfolding url_on_literals
unset_words = refl

pub changed_words : settings_of Pending (of_one changed None) changed ≡ of_changed
unfolding url_on_literals
changed_words = refl

pub no_default_words : settings_of Cluster (of_one unset None) unset ≢ record bare { retries = Some 16 }
no_default_words = λ e. let found : ◌≡◌ {A = Option ℕ} None (Some 16) = ap (λ (s : ClusterSettings). s.retries) e in cc
