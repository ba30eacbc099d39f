-- Messages start on a link that is set up, and each start is shown.
use Rattle.std.specs.Prelude.{List, [], ◌∷◌}
use Rattle.link_core.specs.declared.message.Started.{Started}
use Rattle.link_core.specs.Link.{Starting}
use Rattle.mux_conn.specs.declared.act.LinkAct.TheVariants as act
use Rattle.mux_conn.specs.Connection.{Work, acted, with_link}
use Rattle.mux_conn.specs.Requests.{name_at}

-- each start is shown
abbrev pub shown_each : Work → List Started → Work
shown_each w [] = w
shown_each w (s ∷ ss) = shown_each (acted w (act.Start s.msg (name_at w.conn.requests s.id) s.need s.len)) ss

abbrev pub starts_with : Work → Starting → Work
starts_with w s = shown_each (with_link w s.link) s.out
