use Rattle.std.proofs.Common.{◌≡◌, Some, subst}
use Rattle.resp_convert.specs.Types.{text_of}
use Rattle.resp_convert.proofs.texts.BytesFromRedisValue.look.Goals as goal

pub returns-in-Some : goal.returns-in-Some
returns-in-Some c = (c.in-Some.field-0.now, subst (λ d. text_of d ≡ Some c.in-Some.field-0.now) c.bare.ensures c.in-Some.ensures)
