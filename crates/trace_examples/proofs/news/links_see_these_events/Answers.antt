use Rattle.std.proofs.Common.{refl}
use Rattle.trace_examples.proofs.news.links_see_these_events.Goals as goal

pub returns : goal.returns
returns c = record {
  timers = refl;
  other_timers = refl;
  no_timers = refl;
  credentials = refl;
  other_credentials = refl;
  errors = refl;
  other_errors = refl;
  ends = refl;
  other_ends = refl;
  no_sources = refl;
  own = refl;
  others = refl;
  of_none = refl;
  of_all = refl;
}
