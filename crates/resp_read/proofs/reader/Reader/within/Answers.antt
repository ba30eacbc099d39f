use Rattle.resp_read.specs.declared.reader.Health.TheVariants.{Sound}
use Rattle.resp_read.proofs.ReaderLaws.{reading_anew}
use Rattle.resp_read.proofs.reader.Reader.within.Goals as goal

pub invariant_of-result : goal.invariant_of-result
invariant_of-result c = reading_anew c.args.limits c.new.result Sound c.requires (c.new.ensures.course c.args.limits)
