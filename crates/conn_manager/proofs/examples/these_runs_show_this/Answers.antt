use Rattle.std.proofs.Common.{refl}
use Rattle.std.specs.Fmt.{digits}
use Rattle.resp_read.specs.Grammar.{max_depth}
use Rattle.resp_read.specs.Values.{values, left_over, is_spoiled}
use Rattle.resp_value.specs.Kinds.{kind_of}
use Rattle.sub_tracker.specs.Held.{held_after}
use Rattle.sub_tracker.specs.Pipeline.{resubscription}
use Rattle.conn_manager.proofs.examples.these_runs_show_this.Goals as goal

pub returns : goal.returns
unfolding digits values left_over is_spoiled max_depth kind_of held_after resubscription
returns c = record { lazily = refl; refusals = refl; again = refl }
