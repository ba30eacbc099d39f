use Rattle.std.proofs.Common.{length, arith, ap, ◌∙◌, sym}
use Rattle.single_session.proofs.Replays.{opened_is, outcomes-none, unspent_opening, fewer_opening, counted_opening, sound_opening}
use Rattle.shared_session.proofs.session.Session.new.Goals as goal

pub invariant_of-result : goal.invariant_of-result
invariant_of-result c =
    let config = c.args.config in
    let word = c.args.word in
    let is = c.in-Ok.ensures.core in
    record {
      configured = c.in-Ok.ensures.sound;
      core = λ _. opened_is _ config word c.new-events.result is c.new-events.ensures;
      outcomes = c.new-outcomes.ensures ∙ rw c.new-events.ensures (sym (outcomes-none config word));
      few = omega (arith, ap length c.new-events.ensures);
      unspent = λ _. unspent_opening _ config word is;
      fewer = λ _. fewer_opening _ config word is;
      counted = λ _. counted_opening _ config word is;
      sound = λ _. sound_opening _ config word is;
    }
