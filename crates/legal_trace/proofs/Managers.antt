-- Which sessions have generations, and which wait for their first submission.
use Rattle.std.proofs.Common.{◌≡◌, true, false, Option, Some, None, is_some, refl}
use Rattle.driver_model.specs.declared.config.Config.{Config}
use Rattle.driver_model.specs.declared.config.Config.TheVariants as config
use Rattle.driver_model.specs.Config.{manager_of}
use Rattle.driver_model.specs.Config.{is_lazy as waits_for_use}
use Rattle.legal_trace.specs.Managers.{settings_in, is_lazy}

-- one that doesn't come back has none
pub no_settings : (c : Config) → manager_of c ≡ None → settings_in (Some c) ≡ None
unfolding settings_in
no_settings c e = e

-- nor has one whose configuration isn't told
pub untold_settings : settings_in None ≡ None
unfolding settings_in
untold_settings = refl

-- one that waits for its first submission comes back
waiter_comes_back : (c : Config) → waits_for_use c ≡ true → is_some (manager_of c) ≡ true
waiter_comes_back (config.Single address connection) e = absurd (cc e)
waiter_comes_back (config.Manager lazy address connection manager) e = refl
waiter_comes_back (config.PubSub address) e = absurd (cc e)
waiter_comes_back (config.Monitor address) e = absurd (cc e)

-- so it has generations
pub lazy_comes_back : (c : Option Config) → is_lazy c ≡ true → is_some (settings_in c) ≡ true
unfolding is_lazy settings_in
lazy_comes_back None e = absurd (cc e)
lazy_comes_back (Some c) e = waiter_comes_back c e

-- and one that doesn't come back doesn't wait
stayer_waits_not : (c : Config) → manager_of c ≡ None → waits_for_use c ≡ false
stayer_waits_not (config.Single address connection) e = refl
stayer_waits_not (config.Manager lazy address connection manager) e = absurd (cc e)
stayer_waits_not (config.PubSub address) e = refl
stayer_waits_not (config.Monitor address) e = refl

pub never_lazy : (c : Config) → manager_of c ≡ None → is_lazy (Some c) ≡ false
unfolding is_lazy
never_lazy c e = stayer_waits_not c e
