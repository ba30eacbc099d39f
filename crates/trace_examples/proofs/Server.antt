-- The address of the server that the traces speak of.
use Rattle.std.proofs.Common.{◌≡◌, ℕ, ◌==◌, false, Option, Some, None, codes, pos, refl, ap, ◌∙◌}
use Rattle.std.specs.Str.Lossy.{utf8_lossy, utf8_valid_len}
use Rattle.url.proofs.OnLiterals.{url_on_literals}
use Rattle.connection_info.specs.declared.address.ConnectionInfo.{ConnectionInfo}
use Rattle.connection_info.specs.declared.protocol.ProtocolVersion.TheVariants.{RESP2}
use Rattle.driver_model.specs.Config.{address, fault_in}
use Rattle.containers.proofs.Choices.{left_if}
use Rattle.redis_error.specs.declared.config_name.ConfigName.TheVariants as name
use Rattle.trace_examples.specs.Parts.{at_server, held_at, limited_to, plain, held_for}
use Rattle.trace_examples.specs.Stays.{counted_one_by_one}
use Rattle.trace_examples.proofs.Due.{IsPlace}

-- h and 6379, and nothing is said to it before the first request
abbrev server : ConnectionInfo
server = record {
  host = codes "h";
  port = 6379;
  redis = record { db = pos 0; username = None; password = None; protocol = RESP2; skip_set_lib_name = false };
}

-- its URL is that
is_server : (connect : Option (Option ℕ)) → address (at_server connect) ≡ Some server
unfolding url_on_literals utf8_lossy utf8_valid_len
is_server connect = refl

-- also where the queue and the boundary are said
is_held_server : (bound size : ℕ) → address (held_at bound size) ≡ Some server
unfolding url_on_literals utf8_lossy utf8_valid_len
is_held_server bound size = refl

-- and where permits and the time of requests are
is_limited_server : (limit : ℕ) (ms : Option ℕ) → address (limited_to limit ms) ≡ Some server
unfolding url_on_literals utf8_lossy utf8_valid_len
is_limited_server limit ms = refl

-- so an opening asks for it
pub at_h : (connect : Option (Option ℕ)) → IsPlace (at_server connect) (codes "h") 6379
at_h connect = record { sound = ap (λ a. fault_in a false None 50) (is_server connect); info = server; configured = is_server connect; is = (refl, refl) }

-- also where the queue holds something
pub at_held : (bound size : ℕ) → (size == 0) ≡ false → IsPlace (held_at bound size) (codes "h") 6379
at_held bound size some = record {
  sound = ap (λ a. fault_in a false None size) (is_held_server bound size) ∙ left_if (size == 0) (Some name.Buffer) None some;
  info = server;
  configured = is_held_server bound size;
  is = (refl, refl);
}

-- also where there is a permit
pub at_limited : (limit : ℕ) (ms : Option ℕ) → (limit == 0) ≡ false → IsPlace (limited_to limit ms) (codes "h") 6379
at_limited limit ms some = record {
  sound = ap (λ a. fault_in a false (Some limit) 50) (is_limited_server limit ms) ∙ left_if (limit == 0) (Some name.Limit) None some;
  info = server;
  configured = is_limited_server limit ms;
  is = (refl, refl);
}

-- and where nothing else is said, or only what holds requests up
is_plain_server : address plain ≡ Some server
unfolding url_on_literals utf8_lossy utf8_valid_len
is_plain_server = refl

-- so the opening asks for it
pub at_plain : IsPlace plain (codes "h") 6379
at_plain = record { sound = ap (λ a. fault_in a false None 50) is_plain_server; info = server; configured = is_plain_server; is = (refl, refl) }

-- it is that server, too
is_held_for_server : (ms : ℕ) → address (held_for ms) ≡ Some server
unfolding url_on_literals utf8_lossy utf8_valid_len
is_held_for_server ms = refl

-- which its opening asks for
pub at_held_for : (ms : ℕ) → IsPlace (held_for ms) (codes "h") 6379
at_held_for ms = record { sound = ap (λ a. fault_in a false None 1) (is_held_for_server ms); info = server; configured = is_held_for_server ms; is = (refl, refl) }

-- and where permits, places and the boundary are said
is_counted_server : address counted_one_by_one ≡ Some server
unfolding url_on_literals utf8_lossy utf8_valid_len
is_counted_server = refl

pub at_counted : IsPlace counted_one_by_one (codes "h") 6379
at_counted = record { sound = ap (λ a. fault_in a false (Some 2) 1) is_counted_server; info = server; configured = is_counted_server; is = (refl, refl) }
