use Rattle.std.proofs.Common.{◌≡◌, ◌++◌, true, List, ap, ◌∙◌}
use Rattle.std.proofs.lemmas.Result.{on_ok_weaker}
use Rattle.link_core.specs.declared.message.NoticeAt.{NoticeAt}
use Rattle.link_core.specs.declared.message.Settled.{Settled}
use Rattle.link_core.specs.Link.{piece_read}
use Rattle.mux_conn.specs.Connection.{Work}
use Rattle.mux_conn.proofs.Unreadable.{read_told}
use Rattle.mux_conn.proofs.connection.MultiplexedConnection.read_ready.Goals as goal

pub returns-clause-work : goal.returns-clause-work
returns-clause-work c =
    let w : Work = record { conn = c.args.self.now; acts = c.args.out.now.items } in
    let u : Work = record { conn = c.tell_read.new.self; acts = c.tell_read.new.out.items } in
    let r = piece_read w.conn.hears true c.in-Ready.link c.args.piece.now in
    let h = c.in_ok-ended.ensures in
    let notices : c.read_heard.new.notices.items ≡ r.notices = h.told ∙ ap (λ (ns : List NoticeAt). ns ++ r.notices) c.take-notices.ensures in
    let settled : c.read_heard.new.settled.items ≡ r.out = h.settled ∙ ap (λ (ss : List Settled). ss ++ r.out) c.take-settled.ensures in
    on_ok_weaker c.tell_read.result
    (λ told. read_told w u c.in-Ready.link c.read_heard.new.link c.args.piece.now c.in_ok-ended.ended c.read_heard.new.notices.items c.read_heard.new.settled.items c.in-Ready.is h.link h.ended notices settled told)
    c.tell_read.ensures.work
