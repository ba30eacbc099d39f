use Rattle.std.proofs.Common.{Bool, true, false, refl}
use Rattle.std.specs.Prelude.{pos, neg_ℤ}
use Rattle.resp_value.specs.Data.{int}
use Rattle.resp_convert.specs.Types.{IsDone, IsTruth, items_in, pairs_in}
use Rattle.protocol_examples.specs.Conversions.{text_in, texts_of_values, error_in, errors_of_values, items_of_values, pairs_of_values, TellsTruth, truths, TellsNone, no_truths, well, entries, entries_of_pairs}
use Rattle.protocol_examples.proofs.Computed.{each, gives}
use Rattle.protocol_examples.proofs.converting.values_are_these.Goals as goal

two_is_none : (b : Bool) → IsTruth (int (pos 2)) b → ⊥
two_is_none true e = cc e
two_is_none false e = cc e

below_is_none : (b : Bool) → IsTruth (int (neg_ℤ (pos 1))) b → ⊥
below_is_none true e = cc e
below_is_none false e = cc e

pub returns : goal.returns
returns c = record {
  texts = gives text_in texts_of_values refl;
  errors = gives error_in errors_of_values refl;
  items = gives items_in items_of_values refl;
  pairs = gives pairs_in pairs_of_values refl;
  truths = each TellsTruth truths (refl, (refl, (refl, (refl, tt))));
  no_truths = each TellsNone no_truths (two_is_none, (below_is_none, (λ b e. e, (λ b e. e, (λ b e. e, (λ b e. e, (λ b e. e, tt)))))));
  well = each IsDone well (tt, (tt, (tt, (tt, tt))));
  unwell = λ e. e;
  entries = gives entries entries_of_pairs refl;
}
