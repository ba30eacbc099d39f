-- What is true of new credentials stays while requests are moved, and while bytes and waits are shown.
use Rattle.std.proofs.Common.{◌≡◌, ℕ, List, [], ◌∷◌, Bool, true, false, ◌&&◌, Option, None, Some, refl, ap, ◌∙◌, if◌then◌else◌}
use Rattle.resp_value.specs.declared.value.Value.TheVariants.{Nil}
use Rattle.driver_model.specs.declared.action.WaitKind.{WaitKind}
use Rattle.driver_model.specs.declared.outcome.Outcome.{Outcome}
use Rattle.driver_model.specs.declared.outcome.Outcome.TheVariants as outcome
use Rattle.link_core.specs.declared.message.Started.{Started}
use Rattle.link_core.specs.Link.{started_all, started_to}
use Rattle.link_core.specs.Outbox.{can_offer}
use Rattle.mux_conn.specs.declared.connection.MultiplexedConnection.{MultiplexedConnection}
use Rattle.mux_conn.specs.declared.life.Greeting.{Greeting}
use Rattle.mux_conn.specs.declared.life.Life.{Life}
use Rattle.mux_conn.specs.declared.life.Life.TheVariants.{Resting, Dialing, Wanting, SettingUp, Ready, Ended}
use Rattle.mux_conn.specs.declared.renewal.Renewal.{Renewal}
use Rattle.mux_conn.specs.declared.request.Waiting.{Waiting}
use Rattle.mux_conn.specs.Connection.{Work, with_link, with_setup, is_serving, admits_none, has_room}
use Rattle.mux_conn.specs.Renewals.{started_ahead, started_ahead_at}
use Rattle.mux_conn.specs.Requests.{is_open_at, is_waiting_at, is_unbegun_at, is_admitted_at, answered}
use Rattle.mux_conn.specs.Starts.{shown_each}
use Rattle.mux_conn.specs.Passes.{greeted_each, started, started_at, placed_at, told_at_place, seated, moved_up, moved_up_each, moved_up_all, still_admitted}
use Rattle.mux_conn.specs.Passes.{permits_taken, took_shown, timer_asked, let_in, took, holding, put_behind, seated_or_behind, round_begun, rounds_of, rounds_begun, admitted_at, admitted, admitted_each, still_waiting, said, moved_all, passed}
use Rattle.mux_conn.specs.Turn.{written, written_at, moved_wait, fresh_wait, wait_shown, moved_each_shown, fresh_each_shown, moved_shown, flushed}

abbrev pub renewal_of : Work → Renewal
renewal_of w = w.conn.renewal

-- to show starts leaves the connection
pub shown_same : (w : Work) (ss : List Started) → (shown_each w ss).conn ≡ w.conn
shown_same w [] = refl
shown_same w (s ∷ ss) = shown_same _ ss

-- and so it is of a greeting
pub greeted_same : (w : Work) (greeting : Greeting) (ss : List Started) → (greeted_each w greeting ss).conn ≡ w.conn
greeted_same w greeting [] = refl
greeted_same w greeting (s ∷ ss) = greeted_same _ greeting ss

kept_either : (b : Bool) (r : Renewal) (v w : Work) → renewal_of v ≡ r → renewal_of w ≡ r → renewal_of (if b then v else w) ≡ r
kept_either true r v w h k = h
kept_either false r v w h k = k

started_kept_at : (w : Work) (life : Life) → renewal_of (started_at w life) ≡ renewal_of w
started_kept_at w Resting = refl
started_kept_at w Dialing = refl
started_kept_at w (Wanting link) = refl
started_kept_at w (Ended x) = refl
started_kept_at w (SettingUp link greeting) =
    let all = started_all (record { link = link; out = [] }) in
    ap (λ (c : MultiplexedConnection). c.renewal) (greeted_same (with_setup w all.link greeting) greeting all.out)
started_kept_at w (Ready link) =
    let all = started_all (record { link = link; out = [] }) in
    ap (λ (c : MultiplexedConnection). c.renewal) (shown_same (with_link w all.link) all.out)

started_kept : (w : Work) → renewal_of (started w) ≡ renewal_of w
started_kept w = started_kept_at w w.conn.life

ahead_kept_at : (w : Work) (life : Life) → renewal_of (started_ahead_at w life) ≡ renewal_of w
ahead_kept_at w Resting = refl
ahead_kept_at w Dialing = refl
ahead_kept_at w (Wanting link) = refl
ahead_kept_at w (Ended x) = refl
ahead_kept_at w (SettingUp link greeting) = refl
ahead_kept_at w (Ready link) =
    let all = started_to w.conn.renewal.last (record { link = link; out = [] }) in
    ap (λ (c : MultiplexedConnection). c.renewal) (shown_same (with_link w all.link) all.out)

pub ahead_kept : (w : Work) → renewal_of (started_ahead w) ≡ renewal_of w
ahead_kept w = ahead_kept_at w w.conn.life

answered_kept : (w : Work) (p : ℕ) (o : Outcome) → renewal_of (answered w p o) ≡ renewal_of w
answered_kept w p o = kept_either (is_open_at w.conn.requests p) (renewal_of w) _ w refl refl

told_kept : (w : Work) (q : Waiting) → renewal_of (told_at_place w q) ≡ renewal_of w
told_kept w q = kept_either q.awaited (renewal_of w) w (answered w q.number (outcome.One Nil)) refl (answered_kept w q.number (outcome.One Nil))

placed_kept : (w : Work) (q : Waiting) (life : Life) → renewal_of (placed_at w q life) ≡ renewal_of w
placed_kept w q Resting = refl
placed_kept w q Dialing = refl
placed_kept w q (Wanting link) = refl
placed_kept w q (Ended x) = refl
placed_kept w q (SettingUp link greeting) = refl
placed_kept w q (Ready link) = refl

seated_kept : (w : Work) (q : Waiting) → renewal_of (seated w q) ≡ renewal_of w
seated_kept w q =
    let placed = placed_at w q w.conn.life in
    started_kept (told_at_place placed q) ∙ told_kept placed q ∙ placed_kept w q w.conn.life

moved_up_kept : (w : Work) (q : Waiting) → renewal_of (moved_up w q) ≡ renewal_of w
moved_up_kept w q = kept_either (is_admitted_at w.conn.requests q.number) (renewal_of w) (seated w q) w (seated_kept w q) refl

moved_up_each_kept : (w : Work) (qs : List Waiting) → renewal_of (moved_up_each w qs) ≡ renewal_of w
moved_up_each_kept w [] = refl
moved_up_each_kept w (q ∷ qs) =
    kept_either (has_room w.conn) (renewal_of w) (moved_up_each (moved_up w q) qs) (still_admitted w (q ∷ qs))
    (moved_up_each_kept (moved_up w q) qs ∙ moved_up_kept w q) refl

behind_kept : (w : Work) (q : Waiting) → renewal_of (seated_or_behind w q) ≡ renewal_of w
behind_kept w q = kept_either (has_room w.conn) (renewal_of w) (seated w q) (put_behind w q) (seated_kept w q) refl

took_kept : (w : Work) (p count : ℕ) (limit : Option ℕ) → renewal_of (took_shown w p count limit) ≡ renewal_of w
took_kept w p count None = refl
took_kept w p count (Some limit) = refl

timer_kept : (w : Work) (p : ℕ) (timeout : Option ℕ) → renewal_of (timer_asked w p timeout) ≡ renewal_of w
timer_kept w p None = refl
timer_kept w p (Some ms) = refl

let_in_kept : (w : Work) (q : Waiting) → renewal_of (let_in w q) ≡ renewal_of w
let_in_kept w q =
    let n = permits_taken w.conn.limit w.conn.free q.shape in
    timer_kept (took w q.number n) q.number q.timeout ∙ took_kept (record w { conn = holding w.conn q.number n }) q.number n w.conn.limit

round_kept : (w : Work) (p : ℕ) → renewal_of (round_begun w p) ≡ renewal_of w
round_kept w p = kept_either (w.conn.rounds && is_unbegun_at w.conn.requests p) (renewal_of w) _ w refl refl

rounds_kept : (w : Work) (ps : List ℕ) → renewal_of (rounds_of w ps) ≡ renewal_of w
rounds_kept w [] = refl
rounds_kept w (p ∷ ps) = rounds_kept (round_begun w p) ps ∙ round_kept w p

-- rounds that begin change nothing of it
pub begun_kept : (w : Work) → renewal_of (rounds_begun w) ≡ renewal_of w
begun_kept w = kept_either (w.conn.rounds && is_serving w.conn) (renewal_of w) (rounds_of w w.conn.fresh) w (rounds_kept w w.conn.fresh) refl

admitted_at_kept : (w : Work) (q : Waiting) (life : Life) → renewal_of (admitted_at w q life) ≡ renewal_of w
admitted_at_kept w q Resting = refl
admitted_at_kept w q Dialing = refl
admitted_at_kept w q (Wanting link) = refl
admitted_at_kept w q (SettingUp link greeting) = refl
admitted_at_kept w q (Ended x) = answered_kept w q.number (outcome.Fault x)
admitted_at_kept w q (Ready link) = let begun = round_begun w q.number in behind_kept (let_in begun q) q ∙ let_in_kept begun q ∙ round_kept w q.number

admitted_kept : (w : Work) (q : Waiting) → renewal_of (admitted w q) ≡ renewal_of w
admitted_kept w q = kept_either (is_waiting_at w.conn.requests q.number) (renewal_of w) (admitted_at w q w.conn.life) w (admitted_at_kept w q w.conn.life) refl

admitted_each_kept : (w : Work) (qs : List Waiting) → renewal_of (admitted_each w qs) ≡ renewal_of w
admitted_each_kept w [] = refl
admitted_each_kept w (q ∷ qs) =
    kept_either (admits_none w.conn) (renewal_of w) (still_waiting w (q ∷ qs)) (admitted_each (admitted w q) qs)
    refl (admitted_each_kept (admitted w q) qs ∙ admitted_kept w q)

-- nor does anything once the driver has said what it has to, while requests are moved
pub moved_kept : (w : Work) → renewal_of (moved_all w) ≡ renewal_of (said w)
moved_kept w =
    let s = started (said w) in
    let m = moved_up_all s in
    admitted_each_kept (still_waiting m []) m.conn.waiting ∙ moved_up_each_kept (still_admitted s []) s.conn.admitted ∙ started_kept (said w)

-- so a pass changes nothing of it then
pub passed_kept : (w : Work) → renewal_of (passed w) ≡ renewal_of (said w)
passed_kept w = begun_kept (moved_all w) ∙ moved_kept w

wait_kept : (w : Work) (p : ℕ) (kind : Option WaitKind) → renewal_of (wait_shown w p kind) ≡ renewal_of w
wait_kept w p None = refl
wait_kept w p (Some kind) = refl

moved_each_kept : (w : Work) (ps : List ℕ) → renewal_of (moved_each_shown w ps) ≡ renewal_of w
moved_each_kept w [] = refl
moved_each_kept w (p ∷ ps) = moved_each_kept (wait_shown w p (moved_wait w.conn p)) ps ∙ wait_kept w p (moved_wait w.conn p)

fresh_each_kept : (w : Work) (ps : List ℕ) → renewal_of (fresh_each_shown w ps) ≡ renewal_of w
fresh_each_kept w [] = refl
fresh_each_kept w (p ∷ ps) = fresh_each_kept (wait_shown w p (fresh_wait w.conn p)) ps ∙ wait_kept w p (fresh_wait w.conn p)

written_kept : (w : Work) (life : Life) → renewal_of (written_at w life) ≡ renewal_of w
written_kept w Resting = refl
written_kept w Dialing = refl
written_kept w (Wanting link) = refl
written_kept w (Ended x) = refl
written_kept w (SettingUp link greeting) = kept_either (can_offer link.outbox) (renewal_of w) _ w refl refl
written_kept w (Ready link) = kept_either (can_offer link.outbox) (renewal_of w) _ w refl refl

-- and what a turn ends with changes nothing of it
pub flushed_kept : (w : Work) → renewal_of (flushed w) ≡ renewal_of w
flushed_kept w =
    let o = written w in
    let m = moved_shown o in
    fresh_each_kept (record m { conn = record m.conn { fresh = [] } }) m.conn.fresh
    ∙ moved_each_kept (record o { conn = record o.conn { moved = [] } }) o.conn.moved
    ∙ written_kept w w.conn.life
