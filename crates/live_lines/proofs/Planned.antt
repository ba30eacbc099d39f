-- Plans of which nothing is refused.
use Rattle.std.proofs.Common.{◌≡◌, false, Option, None, ap, ◌∙◌}
use Rattle.driver_model.specs.Config.{first_fault, wants_credentials}
use Rattle.redis_error.specs.declared.config_name.ConfigName.{ConfigName}
use Rattle.live_lines.specs.Plans.{creds_fault, or_else, refused_of}
use Rattle.live_lines.specs.declared.planning.Plan.{Plan}

pub none_refused : (plan : Plan) → first_fault plan.config ≡ None → wants_credentials plan.config ≡ false → refused_of plan ≡ None
none_refused plan sound bare = ap (λ (o : Option ConfigName). or_else o (creds_fault (wants_credentials plan.config))) sound ∙ ap creds_fault bare
