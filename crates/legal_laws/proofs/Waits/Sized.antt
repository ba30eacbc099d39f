-- Where a link was asked for, nothing of the configuration is refused, so its queue holds something.
use Rattle.std.proofs.Common.{◌≡◌, ◌≢◌, ℕ, ◌<◌, ◌==◌, Bool, true, false, ◌&&◌, not, List, [], ◌∷◌, Option, Some, None, refl, sym, ◌∙◌, ap, arith}
use Rattle.containers.proofs.Choices.{by_test, taken_if, left_if, ne_from}
use Rattle.redis_error.specs.declared.config_name.ConfigName.TheVariants as name
use Rattle.connection_info.specs.declared.address.ConnectionInfo.{ConnectionInfo}
use Rattle.connection_info.specs.Protocol.{is_resp3}
use Rattle.manager_config.specs.declared.config.ConnectionManagerConfig.{ConnectionManagerConfig}
use Rattle.manager_config.specs.Refused.{first_failed, lacks_permits}
use Rattle.driver_model.specs.declared.action.Action.{Action}
use Rattle.driver_model.specs.declared.action.Action.TheVariants as action
use Rattle.driver_model.specs.declared.action.Cause.TheVariants as cause
use Rattle.driver_model.specs.declared.config.Config.{Config}
use Rattle.driver_model.specs.declared.config.Config.TheVariants as config
use Rattle.driver_model.specs.Config.{address, buffer_fault, buffer_size, fault_in, first_fault, hearing_of, manager_fault, manager_settings, permits, room_fault}
use Rattle.driver_model.specs.Hearing.{hears_pushes}
use Rattle.legal_trace.specs.Book.{Book, blank_book, book, entered, entered_each}
use Rattle.legal_trace.specs.Legal.{AllStand, MayStand}
use Rattle.legal_trace.proofs.Plain.{same_some}
use Rattle.legal_laws.proofs.Traces.Sound.{Sound, stays_sound, blank_is_sound}

-- where a link was asked for, nothing is refused
abbrev IsTaken : Book → Type 0
IsTaken b = b.links ≢ 0 → (c : Config) → b.config ≡ Some c → first_fault c ≡ None

-- each action that may stand keeps it
taken_kept : (b : Book) (a : Action) → MayStand b a → Sound b → IsTaken b → IsTaken (entered b a)
taken_kept b (action.Turn k (cause.Opening c word)) may sound h = λ some. absurd (some (sound.opens.no_links may.is_for))
taken_kept b (action.Turn k (cause.Event e)) may sound h = h
taken_kept b (action.Connect l host port) may sound h = λ some c told. ap first_fault (same_some c may.config (sym told ∙ may.told)) ∙ may.sound
taken_kept b (action.Timer t ms what) may sound h = h
taken_kept b (action.Took who l count) may sound h = h
taken_kept b (action.Push l info) may sound h = h
taken_kept b (action.Message m) may sound h = h
taken_kept b (action.Monitor v) may sound h = h
taken_kept b (action.NeedCreds c l) may sound h = h
taken_kept b (action.Generation g) may sound h = h
taken_kept b (action.Round who l) may sound h = h
taken_kept b (action.Close l) may sound h = h
taken_kept b (action.Write l bytes) may sound h = h
taken_kept b (action.Wait who kind) may sound h = h
taken_kept b (action.Start l k who count len) may sound h = h
taken_kept b (action.Created e) may sound h = h
taken_kept b (action.Outcome n o) may sound h = h

each_taken : (b : Book) (front : List Action) → AllStand b front → Sound b → IsTaken b → IsTaken (entered_each b front)
each_taken b [] all sound h = h
each_taken b (a ∷ more) all sound h = each_taken (entered b a) more all.1 (stays_sound b a all.0 sound) (taken_kept b a all.0 sound h)

taken_behind : (front : List Action) → AllStand blank_book front → IsTaken (book front)
unfolding book
taken_behind front all = each_taken blank_book front all blank_is_sound (λ some. absurd (some refl))

-- a queue that isn't refused holds something
queue_holds : (size : ℕ) → buffer_fault size ≡ None → 0 < size
queue_holds size e = by_test (size == 0) (0 < size)
    (λ t. absurd (let x : None ≡ Some name.Buffer = sym e ∙ taken_if (size == 0) (Some name.Buffer) None t in cc x))
    (λ f. let some : size ≢ 0 = ne_from size 0 f in omega (arith, some))

-- nor does one beside a number of permits
room_holds : (limit : Option ℕ) (size : ℕ) → room_fault limit size ≡ None → 0 < size
room_holds None size e = queue_holds size e
room_holds (Some limit) size e = by_test (limit == 0) (0 < size)
    (λ t. absurd (let x : None ≡ Some name.Limit = sym e ∙ taken_if (limit == 0) (Some name.Limit) (buffer_fault size) t in cc x))
    (λ f. queue_holds size (sym (left_if (limit == 0) (Some name.Limit) (buffer_fault size) f) ∙ e))

-- so of one connection
single_holds : (at : Option ConnectionInfo) (heard : Bool) (limit : Option ℕ) (size : ℕ) → fault_in at heard limit size ≡ None → 0 < size
single_holds None heard limit size e = absurd (cc e)
single_holds (Some info) heard limit size e =
    let refuses : Bool = heard && not (is_resp3 info.redis.protocol) in
    by_test refuses (0 < size)
    (λ t. absurd (let x : None ≡ Some name.Push = sym e ∙ taken_if refuses (Some name.Push) (room_fault limit size) t in cc x))
    (λ f. room_holds limit size (sym (left_if refuses (Some name.Push) (room_fault limit size) f) ∙ e))

-- where none of five checks fails the last doesn't
last_holds : (p q r s t : Bool) → first_failed ((p, name.Resub) ∷ (q, name.Base) ∷ (r, name.Push) ∷ (s, name.Limit) ∷ (t, name.Buffer) ∷ []) ≡ None → t ≡ false
last_holds true q r s t e = absurd (cc e)
last_holds false true r s t e = absurd (cc e)
last_holds false false true s t e = absurd (cc e)
last_holds false false false true t e = absurd (cc e)
last_holds false false false false true e = absurd (cc e)
last_holds false false false false false e = refl

-- and of a manager
manager_holds : (at : Option ConnectionInfo) (settings : ConnectionManagerConfig) → manager_fault at settings ≡ None → 0 < settings.connection.pipeline_buffer_size
manager_holds None settings e = absurd (cc e)
manager_holds (Some info) settings e =
    let last : (settings.connection.pipeline_buffer_size == 0) ≡ false =
    last_holds (settings.automatic_resubscription && not settings.connection.push_sender) (settings.exponent_base.1 == 0) (settings.connection.push_sender && not (is_resp3 info.redis.protocol))
    (lacks_permits settings.connection.concurrency_limit) (settings.connection.pipeline_buffer_size == 0) e in
    let some : settings.connection.pipeline_buffer_size ≢ 0 = ne_from settings.connection.pipeline_buffer_size 0 last in
    omega (arith, some)

-- so it does where nothing of the configuration is refused
config_holds : (c : Config) → first_fault c ≡ None → 0 < buffer_size c
config_holds (config.Single at connection) e = single_holds (address (config.Single at connection)) (hears_pushes (hearing_of (config.Single at connection))) (permits (config.Single at connection)) (buffer_size (config.Single at connection)) e
config_holds (config.Manager lazy at connection manager) e = manager_holds (address (config.Manager lazy at connection manager)) (manager_settings connection manager) e
config_holds (config.PubSub at) e = omega arith
config_holds (config.Monitor at) e = omega arith

-- so it is of a trace that asked for a link
pub asked_is_sized : (front : List Action) (c : Config) → AllStand blank_book front → (book front).links ≢ 0 → (book front).config ≡ Some c → 0 < buffer_size c
asked_is_sized front c all some told = config_holds c (taken_behind front all some c told)
