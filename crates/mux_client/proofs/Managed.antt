-- The words that a client makes of a manager keep what its address and its configuration say.
use Rattle.std.proofs.Common.{◌≡◌, ℕ, Bool, true, false, Some, None, nat_eq, refl, sym, ap, subst, ◌∙◌, if◌then◌else◌}
use Rattle.std.specs.Prelude.{unwrap_or, option_map}
use Rattle.std.proofs.lemmas.Bool.{eqb-true, and_parts}
use Rattle.connection_info.specs.declared.address.ConnectionInfo.{ConnectionInfo}
use Rattle.connection_info.specs.Config.{default_config}
use Rattle.connection_info.specs.Written.{ReadsBack}
use Rattle.manager_config.specs.declared.config.ConnectionManagerConfig.{ConnectionManagerConfig}
use Rattle.manager_config.specs.Config.{default_manager}
use Rattle.driver_model.specs.declared.config.Config.{Config}
use Rattle.driver_model.specs.Config.{manager_settings}
use Rattle.mux_client.specs.Makers.{push_given, connection_given}
use Rattle.mux_client.specs.Managers.{is_same_fraction, fraction_given, again_given, manager_given, managed_of, with_told, server_of, KeepsManager}
use Rattle.mux_client.proofs.Words.{address_kept, number_kept, time_kept, skips_kept, sources_kept}

fraction_if : (default value : ℕ × ℕ) (b : Bool) → is_same_fraction value default ≡ b → unwrap_or (if b then None else Some value) default ≡ value
fraction_if (n, d) (a, b) true e =
    let both = and_parts (nat_eq a n) (nat_eq b d) e in
    sym (ap (λ (x : ℕ). (x, b)) (eqb-true a n both.0) ∙ ap (λ (x : ℕ). (n, x)) (eqb-true b d both.1))
fraction_if default value false e = refl

-- a fraction is what is given, or else the default
fraction_kept : (default value : ℕ × ℕ) → unwrap_or (fraction_given default value) default ≡ value
fraction_kept default value = fraction_if default value (is_same_fraction value default) refl

-- whether somebody hears pushes is what is given, or else nobody does
pushes_kept : (hears : Bool) → unwrap_or (push_given hears) false ≡ hears
pushes_kept true = refl
pushes_kept false = refl

-- and so is whether what was subscribed is subscribed again
again_kept : (resubscribes : Bool) → unwrap_or (again_given resubscribes) false ≡ resubscribes
again_kept true = refl
again_kept false = refl

settings_kept : (c : ConnectionManagerConfig) → manager_settings (connection_given c.connection) (manager_given c) ≡ c
settings_kept c = λ i. record {
  connection = record {
    connection_timeout = time_kept default_config.connection_timeout c.connection.connection_timeout i;
    response_timeout = time_kept default_config.response_timeout c.connection.response_timeout i;
    push_sender = pushes_kept c.connection.push_sender i;
    credentials_provider = sources_kept c.connection.credentials_provider i;
    pipeline_buffer_size = number_kept default_config.pipeline_buffer_size c.connection.pipeline_buffer_size i;
    concurrency_limit = c.connection.concurrency_limit;
    write_backpressure_boundary = number_kept default_config.write_backpressure_boundary c.connection.write_backpressure_boundary i;
  };
  min_delay = number_kept default_manager.min_delay c.min_delay i;
  max_delay = time_kept default_manager.max_delay c.max_delay i;
  exponent_base = fraction_kept default_manager.exponent_base c.exponent_base i;
  number_of_retries = number_kept default_manager.number_of_retries c.number_of_retries i;
  automatic_resubscription = again_kept c.automatic_resubscription i;
}

server_kept : (lazy : Bool) (info : ConnectionInfo) (c : ConnectionManagerConfig) → ReadsBack info → server_of (managed_of lazy info c) ≡ Some info
server_kept lazy info c back =
    ap (option_map (with_told (managed_of lazy info c))) (address_kept info back)
    ∙ ap (λ (skips : Bool). Some (record info { redis = record info.redis { skip_set_lib_name = skips } })) (skips_kept info.redis.skip_set_lib_name)

-- words that are these keep it
pub managed_keep : (lazy : Bool) (info : ConnectionInfo) (c : ConnectionManagerConfig) (words : Config) → words ≡ managed_of lazy info c → ReadsBack info → KeepsManager lazy info c words
managed_keep lazy info c words e back =
    subst (λ (found : Config). KeepsManager lazy info c found) (sym e)
    (record { is = refl; connects = server_kept lazy info c back; behaves = ap (λ (said : ConnectionManagerConfig). Some said) (settings_kept c) })
