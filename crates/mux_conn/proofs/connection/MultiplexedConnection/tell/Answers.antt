use Rattle.std.proofs.Common.{◌≡◌, List, [], rules, sym, ap, ◌∙◌}
use Rattle.link_core.specs.declared.message.NoticeAt.{NoticeAt}
use Rattle.mux_conn.specs.Connection.{Work}
use Rattle.mux_conn.specs.Effects.{told_each}
use Rattle.mux_conn.proofs.Told.{told_none}
use Rattle.mux_conn.proofs.connection.MultiplexedConnection.tell.Goals as goal

pub loop-told-preserved : goal.loop-told-preserved
loop-told-preserved c =
    let w : Work = record { conn = c.loop-told.self; acts = c.loop-told.out.items } in
    record {
      work = c.in_ok-tell_notice.ensures.work c.pop_front.new.self ∙ ap (λ (ps : List NoticeAt). told_each w c.loop-told.answered ps c.loop-told.settled) (sym c.in-Some.ensures) ∙ c.loop-told.invariant.work;
      count = c.in_ok-tell_notice.ensures.count ∙ c.loop-told.invariant.count;
      failure = c.in_ok-tell_notice.ensures.failure ∙ c.loop-told.invariant.failure;
    }

pub returns-clause-work : goal.returns-clause-work
returns-clause-work c =
    let w : Work = record { conn = c.loop-told.self; acts = c.loop-told.out.items } in
    let gone : c.loop-told.notices ≡ [] = search rules in
    c.in_ok-settle_rest.ensures.work
    ∙ sym (told_none w c.loop-told.answered c.loop-told.settled)
    ∙ ap (λ (ps : List NoticeAt). told_each w c.loop-told.answered ps c.loop-told.settled) (sym gone)
    ∙ c.loop-told.invariant.work
