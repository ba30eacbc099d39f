use Rattle.std.proofs.Common.{rules, ◌≡◌, false}
use Rattle.session_callers.specs.Closes.{do_know_more}
use Rattle.session_callers.proofs.Gathering.{all_known, undialled_all}
use Rattle.session_callers.proofs.session.SharedSession.keep.Goals as goal

pub close_all-requires-clause-of : goal.close_all-requires-clause-of
close_all-requires-clause-of c =
    let none : do_know_more c.len-count.result c.args.callers.items ≡ false = search rules in
    all_known c.args.self.table.shared.table_id c.len-count.result c.args.callers.items c.requires none

pub returns-clause-undialled : goal.returns-clause-undialled
returns-clause-undialled c = λ none. undialled_all c.close_all.result.1.dial c.args.callers.items c.close_all.ensures.claims none
