use Rattle.std.proofs.Common.{◌≡◌, Some, subst}
use Rattle.resp_convert.specs.Types.{text_of}
use Rattle.resp_convert.proofs.texts.StringFromRedisValue.look.Goals as goal

pub returns-in-Ok : goal.returns-in-Ok
returns-in-Ok c = (c.in-Some.text.now, (subst (λ d. text_of d ≡ Some c.in-Some.text.now) c.bare.ensures c.in-Some.ensures, c.in-Ok.ensures.cases.1))
