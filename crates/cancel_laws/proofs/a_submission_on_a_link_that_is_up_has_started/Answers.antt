use Rattle.cancel_laws.proofs.Free.{free_started}
use Rattle.cancel_laws.proofs.Started.{any_started, command_started, pipeline_started, transaction_started, subscription_started, ping_started}
use Rattle.cancel_laws.proofs.a_submission_on_a_link_that_is_up_has_started.Goals as goal

pub returns : goal.returns
returns c = record {
  free = λ s some awaited config word draw before free spoken. free_started config word draw before s some awaited free spoken;
  any = λ s some awaited plain config word draw later at_once sound silent. any_started config word draw later s some awaited plain at_once sound silent;
  command = λ name args config word draw later at_once sound silent. command_started config word draw later name args at_once sound silent;
  pipeline = λ name args more config word draw later at_once sound silent. pipeline_started config word draw later name args more at_once sound silent;
  transaction = λ args more config word draw later at_once sound silent. transaction_started config word draw later args more at_once sound silent;
  subscription = λ what names config word draw later sound silent listens. subscription_started config word draw later what names sound silent listens;
  ping = λ message config word draw later sound silent listens. ping_started config word draw later message sound silent listens;
}
