use Rattle.std.proofs.Common.{ap, ◌∙◌}
use Rattle.session_callers.specs.Rule.{ticket_of}
use Rattle.session_callers.proofs.session.SharedSession.join.Goals as goal

pub end_made-requires-clause-holding : goal.end_made-requires-clause-holding
end_made-requires-clause-holding g c =
    let left = c.split-seat.ensures.left in
    (ticket_of c.begin-home.new.seat.me.0.stage, ap (λ m. m.0.stage) left, ap (λ m. m.1) left ∙ c.begin-home.ensures.took.1)
