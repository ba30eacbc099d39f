use Rattle.resp_write.proofs.Actions.{word_is_read}
use Rattle.resp_write.proofs.subscription.SubscriptionAction.word.Goals as goal

pub returns-clause-read : goal.returns-clause-read
returns-clause-read c = word_is_read c.args.self c.capitals.result.now c.capitals.ensures
