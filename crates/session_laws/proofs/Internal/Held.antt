-- What is subscribed again, until its link is set up.
use Rattle.std.proofs.Common.{◌≡◌, ℕ, false, ◌&&◌, not, List, ap}
use Rattle.containers.proofs.Choices.{by_test, not_both}
use Rattle.driver_model.specs.News.{News}
use Rattle.mux_conn.specs.Connection.{is_ready as is_ready_life, is_resting}
use Rattle.single_session.specs.declared.core_state.Core.{Core}
use Rattle.legal_trace.specs.Book.{Book}
use Rattle.legal_trace.specs.Ledger.{hears, is_ready, is_repeating, is_served, noted}
use Rattle.conn_laws.proofs.Turn.Announce.{heard_starts}
use Rattle.conn_laws.proofs.Internal.Repeats.{IsHeld, again_hear, held_alike}
use Rattle.session_laws.proofs.Links.Said.{ready_life}
use Rattle.conn_laws.proofs.Ties.Tied.{has_ended}
use Rattle.session_laws.proofs.Ties.Tied.{TurnState, Tied, inner}
use Rattle.conn_laws.proofs.Internal.Held.{early_held}

-- nor is its link ready
pub unready_repeats_not : (b : Book) (t : TurnState) → Tied b t → is_ready_life t.life ≡ false → is_repeating (b.link t.link) ≡ false
unready_repeats_not b t h unready =
    let l = b.link t.link in
    by_test (is_ready l) _
    (λ ready. absurd (not_both (is_ready_life t.life) unready (ready_life b t h ready)))
    (λ down. ap (λ up. up && not (is_served l)) down)

-- so it stays, whatever is heard
pub held_hears : (b : Book) (c : Core) (started : List ℕ) (n : News) → Tied b (inner c started) → (let conn = c.single.connection in is_resting conn.life ≡ false → is_ready_life conn.life ≡ false → has_ended conn.life ≡ false
    → IsHeld (noted (b.link c.single.link) (hears c.turns n)) b.tracked conn.renewal.within conn.again)
held_hears b c started n h there unready alive =
    let l = b.link c.single.link in
    let conn = c.single.connection in
    held_alike l (noted l (hears c.turns n)) b.tracked conn.renewal.within conn.again (again_hear l c.turns n (λ is. unready_repeats_not b (inner c started) h unready)) (heard_starts l c.turns n)
    (early_held l b.tracked conn.renewal.within conn.again conn.life there unready alive h.repeat)
