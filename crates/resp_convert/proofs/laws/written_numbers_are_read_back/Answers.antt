use Rattle.std.proofs.Common.{◌≡◌, Option, Some, sym, ◌∙◌}
use Rattle.std.specs.Float.{Float}
use Rattle.resp_convert.proofs.Numbers.{integer_read, natural_read}
use Rattle.resp_convert.proofs.laws.written_numbers_are_read_back.Goals as goal

pub returns-clause-signed : goal.returns-clause-signed
returns-clause-signed c n fits = (fits, integer_read n fits)

pub returns-clause-no_other : goal.returns-clause-no_other
returns-clause-no_other c n m fits is = is.1.1 ∙ sym (integer_read n fits).1

pub returns-clause-unsigned : goal.returns-clause-unsigned
returns-clause-unsigned c n small = (small, natural_read n small)

pub returns-clause-no_other_natural : goal.returns-clause-no_other_natural
returns-clause-no_other_natural c n m small is = is.1.1 ∙ sym (natural_read n small).1

pub returns-clause-float : goal.returns-clause-float
returns-clause-float c x text is = is.reads_back

same_float : (x y : Float) (o : Option Float) → o ≡ Some x → o ≡ Some y → y ≡ x
same_float x y o is other = cc

pub returns-clause-no_other_float : goal.returns-clause-no_other_float
returns-clause-no_other_float c x y text is other = same_float x y _ is.reads_back other
