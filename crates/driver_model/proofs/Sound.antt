-- What is true of a configuration of which nothing is refused.
use Rattle.std.proofs.Common.{◌≡◌, ◌≢◌, ℕ, ◌<◌, ◌==◌, ◌&&◌, not, Bool, true, false, Option, Some, None, refl, sym, ap, subst, ◌∙◌, ne_eqb, if◌then◌else◌, arith}
use Rattle.redis_error.specs.declared.config_name.ConfigName.{ConfigName}
use Rattle.redis_error.specs.declared.config_name.ConfigName.TheVariants as name
use Rattle.connection_info.specs.declared.address.ConnectionInfo.{ConnectionInfo}
use Rattle.connection_info.specs.Protocol.{is_resp3}
use Rattle.manager_config.specs.declared.config.ConnectionManagerConfig.{ConnectionManagerConfig}
use Rattle.manager_config.proofs.Passing.{taken}
use Rattle.driver_model.specs.declared.config.Config.{Config}
use Rattle.driver_model.specs.declared.config.Config.TheVariants as config
use Rattle.driver_model.specs.Config.{address, address_in, permits, buffer_size, hearing_of, buffer_fault, room_fault, fault_in, manager_fault, fault_of, manager_of, manager_settings, first_fault}
use Rattle.driver_model.specs.Hearing.{hears_pushes}

-- what is refused where a test holds isn't refused where it doesn't
pub unless_refused : (b : Bool) (what : ConfigName) (rest : Option ConfigName) → (if b then Some what else rest) ≡ None → (b ≡ false) × (rest ≡ None)
unless_refused true what rest e = cc
unless_refused false what rest e = (refl, e)

-- some place in the queue
has_places : (size : ℕ) → 0 < size → buffer_fault size ≡ None
has_places size places = ap (λ b. if b then Some name.Buffer else None) (ne_eqb size 0 (λ e. omega (arith, e, places)))

-- and some permit
has_room : (limit : Option ℕ) (size : ℕ) → limit ≢ Some 0 → 0 < size → room_fault limit size ≡ None
has_room None size some places = has_places size places
has_room (Some limit) size some places =
    ap (λ b. if b then Some name.Limit else buffer_fault size) (ne_eqb limit 0 (λ e. some (ap Some e))) ∙ has_places size places

-- behind an address, of what doesn't come back
room_in : (at : Option ConnectionInfo) (heard : Bool) (limit : Option ℕ) (size : ℕ) → fault_in at heard limit size ≡ None → room_fault limit size ≡ None
room_in None heard limit size e = cc
room_in (Some info) heard limit size e = (unless_refused (heard && not (is_resp3 info.redis.protocol)) name.Push (room_fault limit size) e).1

-- and of what does
room_of : (at : Option ConnectionInfo) (settings : ConnectionManagerConfig) → manager_fault at settings ≡ None → room_fault settings.connection.concurrency_limit settings.connection.pipeline_buffer_size ≡ None
room_of None settings e = cc
room_of (Some info) settings e =
    let is = taken info.redis.protocol settings e in
    has_room settings.connection.concurrency_limit settings.connection.pipeline_buffer_size is.has_permits is.has_places

-- there are permits and places
pub is_roomy : (c : Config) → first_fault c ≡ None → room_fault (permits c) (buffer_size c) ≡ None
is_roomy (config.Single at connection) e = let c = config.Single at connection in room_in (address_in at) (hears_pushes (hearing_of c)) (permits c) (buffer_size c) e
is_roomy (config.Manager lazy at connection manager) e = room_of (address_in at) (manager_settings connection manager) e
is_roomy (config.PubSub at) e = let c = config.PubSub at in room_in (address_in at) (hears_pushes (hearing_of c)) (permits c) (buffer_size c) e
is_roomy (config.Monitor at) e = let c = config.Monitor at in room_in (address_in at) (hears_pushes (hearing_of c)) (permits c) (buffer_size c) e

-- delays grow by a fraction
grows_at : (at : Option ConnectionInfo) (settings : ConnectionManagerConfig) → manager_fault at settings ≡ None → 0 < settings.exponent_base.1
grows_at None settings e = cc
grows_at (Some info) settings e = (taken info.redis.protocol settings e).grows_by_a_fraction

pub grows : (c : Config) → first_fault c ≡ None → (settings : ConnectionManagerConfig) → manager_of c ≡ Some settings → 0 < settings.exponent_base.1
grows c sound settings is = grows_at (address c) settings (subst (λ (m : Option ConnectionManagerConfig). fault_of m (address c) c ≡ None) is sound)

-- nothing is sound where there is no address
no_address : (manager : Option ConnectionManagerConfig) (c : Config) → fault_of manager None c ≡ Some name.Url
no_address None c = refl
no_address (Some settings) c = refl

-- there is an address
pub has_address : (c : Config) → first_fault c ≡ None → address c ≢ None
has_address c sound none =
    let refused : None ≡ Some name.Url = sym sound ∙ ap (λ (at : Option ConnectionInfo). fault_of (manager_of c) at c) none ∙ no_address (manager_of c) c in
    cc
