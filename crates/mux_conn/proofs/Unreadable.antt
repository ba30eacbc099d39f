-- What was read on a link that is set up is told, and what can't be read on ends it.
use Rattle.std.proofs.Common.{◌≡◌, ℕ, Bool, List, true, ◌||◌, sym, ap, ◌∙◌}
use Rattle.link_core.specs.declared.message.NoticeAt.{NoticeAt}
use Rattle.link_core.specs.declared.message.Settled.{Settled}
use Rattle.link_core.specs.Link.{LinkState, piece_read}
use Rattle.mux_conn.specs.declared.life.Life.TheVariants.{Ready}
use Rattle.mux_conn.specs.Connection.{Work, with_link}
use Rattle.mux_conn.specs.Effects.{told_each, broken_at, read_at}

pub read_told : (w u : Work) (link after : LinkState) (piece : List ℕ) (ended : Bool) (notices : List NoticeAt) (settled : List Settled) → w.conn.life ≡ Ready link
    → after ≡ (piece_read w.conn.hears true link piece).link → ended ≡ ((piece_read w.conn.hears true link piece).link.broken || (piece_read w.conn.hears true link piece).strange)
    → notices ≡ (piece_read w.conn.hears true link piece).notices → settled ≡ (piece_read w.conn.hears true link piece).out
    → u ≡ broken_at ended (told_each (with_link w after) 0 notices settled) → u ≡ read_at w piece w.conn.life
read_told w u link after piece ended notices settled is l e n s told =
    told ∙ (λ j. broken_at (e j) (told_each (with_link w (l j)) 0 (n j) (s j))) ∙ ap (read_at w piece) (sym is)
