use Rattle.std.proofs.Common.{refl}
use Rattle.cluster_examples.proofs.ClientWords.{bare_words, quicker_words, unset_words, changed_words, no_default_words}
use Rattle.cluster_examples.proofs.clients.sessions_are_asked_with_these_words.Goals as goal

pub returns : goal.returns
returns c = record {
  bare = bare_words;
  quicker = quicker_words;
  unset = unset_words;
  own = refl;
  changed = changed_words;
  not_defaults = no_default_words;
}
