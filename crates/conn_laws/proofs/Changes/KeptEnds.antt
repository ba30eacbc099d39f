-- What a turn ends with keeps: bytes are offered, and waits are shown.
use Rattle.std.proofs.Common.{ℕ, List, [], ◌∷◌, Option, Some, None, refl, arith}
use Rattle.containers.proofs.Choices.{chosen}
use Rattle.driver_model.specs.declared.action.WaitKind.{WaitKind}
use Rattle.link_core.specs.Link.{offered_of}
use Rattle.link_core.specs.Outbox.{can_offer}
use Rattle.mux_conn.specs.declared.act.LinkAct.{LinkAct}
use Rattle.mux_conn.specs.declared.act.LinkAct.TheVariants as act
use Rattle.mux_conn.specs.declared.life.Life.{Life}
use Rattle.mux_conn.specs.declared.life.Life.TheVariants.{Resting, Dialing, Wanting, SettingUp, Ready, Ended}
use Rattle.mux_conn.specs.declared.request.Request.{Request}
use Rattle.mux_conn.specs.Connection.{Work}
use Rattle.mux_conn.specs.Requests.{name_at}
use Rattle.mux_conn.specs.Turn.{written_at, written, moved_wait, fresh_wait, wait_shown, moved_each_shown, moved_shown, fresh_each_shown, flushed}
use Rattle.conn_laws.proofs.Changes.Kept.{IsKept, At}

-- bytes are offered
written_at_kept : {P : Option ℕ → List Request → Life → List ℕ → List LinkAct → Type 0} → IsKept P → (w : Work) (life : Life) → P w.conn.limit w.conn.requests life w.conn.moved w.acts → At P w → At P (written_at w life)
written_at_kept {P = P} k w (Ready l) g h =
    chosen (At P) (can_offer l.outbox) _ w
    (λ t. k.show w.conn.limit w.conn.requests (Ready (offered_of l)) w.conn.moved w.acts (act.Write l.outbox.unwritten) (λ n. refl) (k.offer w.conn.limit w.conn.requests l w.conn.moved w.acts g))
    (λ f. h)
written_at_kept {P = P} k w (SettingUp l greeting) g h =
    chosen (At P) (can_offer l.outbox) _ w
    (λ t. k.show w.conn.limit w.conn.requests (SettingUp (offered_of l) greeting) w.conn.moved w.acts (act.Write l.outbox.unwritten) (λ n. refl) (k.go_on w.conn.limit w.conn.requests l (offered_of l) greeting w.conn.moved w.acts (omega arith) g))
    (λ f. h)
written_at_kept k w Resting g h = h
written_at_kept k w Dialing g h = h
written_at_kept k w (Wanting l) g h = h
written_at_kept k w (Ended e) g h = h

-- on the link that the connection has
pub written_kept : {P : Option ℕ → List Request → Life → List ℕ → List LinkAct → Type 0} → IsKept P → (w : Work) → At P w → At P (written w)
written_kept k w h = written_at_kept k w w.conn.life h h

-- a wait is shown
pub wait_kept : {P : Option ℕ → List Request → Life → List ℕ → List LinkAct → Type 0} → IsKept P → (w : Work) (q : ℕ) (kind : Option WaitKind) → At P w → At P (wait_shown w q kind)
wait_kept k w q None h = h
wait_kept k w q (Some kind) h = k.show w.conn.limit w.conn.requests w.conn.life w.conn.moved w.acts (act.Wait (name_at w.conn.requests q) kind) (λ n. refl) h

-- all waits of those that were moved
moved_each_shown_kept : {P : Option ℕ → List Request → Life → List ℕ → List LinkAct → Type 0} → IsKept P → (w : Work) (qs : List ℕ) → At P w → At P (moved_each_shown w qs)
moved_each_shown_kept k w [] h = h
moved_each_shown_kept k w (q ∷ qs) h = moved_each_shown_kept k (wait_shown w q (moved_wait w.conn q)) qs (wait_kept k w q (moved_wait w.conn q) h)

-- of whom none is left then
pub moved_shown_kept : {P : Option ℕ → List Request → Life → List ℕ → List LinkAct → Type 0} → IsKept P → (w : Work) → At P w → At P (moved_shown w)
moved_shown_kept k w h = moved_each_shown_kept k (record w { conn = record w.conn { moved = [] } }) w.conn.moved (k.calm w.conn.limit w.conn.requests w.conn.life w.conn.moved w.acts h)

-- and all waits of those that came
fresh_each_shown_kept : {P : Option ℕ → List Request → Life → List ℕ → List LinkAct → Type 0} → IsKept P → (w : Work) (qs : List ℕ) → At P w → At P (fresh_each_shown w qs)
fresh_each_shown_kept k w [] h = h
fresh_each_shown_kept k w (q ∷ qs) h = fresh_each_shown_kept k (wait_shown w q (fresh_wait w.conn q)) qs (wait_kept k w q (fresh_wait w.conn q) h)

-- what a turn ends with
pub flushed_kept : {P : Option ℕ → List Request → Life → List ℕ → List LinkAct → Type 0} → IsKept P → (w : Work) → At P w → At P (flushed w)
flushed_kept k w h =
    let d = moved_shown (written w) in
    fresh_each_shown_kept k (record d { conn = record d.conn { fresh = [] } }) d.conn.fresh (moved_shown_kept k (written w) (written_kept k w h))
