-- The rounds of requests that go on waiting begin one by one.
use Rattle.std.proofs.Common.{◌≡◌, ℕ, ◌+◌, ◌<◌, ◌≤◌, List, ◌∷◌, drop, get_or, length, Bool, true, false, ◌&&◌, refl, sym, ap, ◌∙◌, if◌then◌else◌}
use Rattle.std.proofs.lemmas.List.{drop_all, drop_more}
use Rattle.mux_conn.specs.Connection.{Work}
use Rattle.mux_conn.specs.Requests.{is_unbegun_at}
use Rattle.mux_conn.specs.Passes.{round_begun, rounds_of}

fresh_either : (b : Bool) (v w : Work) → v.conn.fresh ≡ w.conn.fresh → (if b then v else w).conn.fresh ≡ w.conn.fresh
fresh_either true v w h = h
fresh_either false v w h = refl

-- a round that begins leaves the requests whose waits are to be shown
pub round_fresh : (w : Work) (p : ℕ) → (round_begun w p).conn.fresh ≡ w.conn.fresh
round_fresh w p = fresh_either (w.conn.rounds && is_unbegun_at w.conn.requests p) _ w refl

-- one more round has begun
pub one_begun : (w v all : Work) (ps : List ℕ) (i p : ℕ) → i < length ps → p ≡ get_or ps i p → v ≡ round_begun w p → rounds_of w (drop i ps) ≡ all → rounds_of v (drop (i + 1) ps) ≡ all
one_begun w v all ps i p l is begins h =
    ap (λ (x : Work). rounds_of x (drop (i + 1) ps)) begins
    ∙ sym (ap (rounds_of w) (drop_more ps i p l ∙ ap (λ n. n ∷ drop (i + 1) ps) (sym is)))
    ∙ h

-- all of them have
pub all_begun : (w all : Work) (ps : List ℕ) (i : ℕ) → length ps ≤ i → rounds_of w (drop i ps) ≡ all → w ≡ all
all_begun w all ps i l h = sym (ap (rounds_of w) (drop_all i ps l)) ∙ h
