-- For how many new credentials a connection was asked: its effects leave it, and where a turn's moves ask for more, these are told,
-- or wait on a link that is ready.
use Rattle.std.proofs.Common.{◌≡◌, ◌≤◌, ◌⊎◌, inl, inr, ℕ, true, false, ◌&&◌, List, [], ◌∷◌, Option, Some, None, refl, ap, ◌∙◌}
use Rattle.containers.proofs.Choices.{chosen, not_both, both_left, both_right}
use Rattle.credentials.specs.Credentials.{Credentials}
use Rattle.driver_model.specs.declared.action.WaitKind.{WaitKind}
use Rattle.driver_model.specs.declared.outcome.Outcome.{Outcome}
use Rattle.driver_model.specs.declared.outcome.Outcome.TheVariants as outcome
use Rattle.link_core.specs.declared.message.Started.{Started}
use Rattle.link_core.specs.Link.{LinkState, holds_back, started_all, started_to, offered_of}
use Rattle.link_core.specs.Outbox.{can_offer}
use Rattle.mux_conn.specs.declared.act.LinkAct.TheVariants as act
use Rattle.mux_conn.specs.declared.connection.MultiplexedConnection.{MultiplexedConnection}
use Rattle.mux_conn.specs.declared.life.Greeting.{Greeting}
use Rattle.mux_conn.specs.declared.life.Life.{Life}
use Rattle.mux_conn.specs.declared.life.Life.TheVariants.{Resting, Dialing, Wanting, SettingUp, Ready, Ended}
use Rattle.mux_conn.specs.declared.request.Progress.TheVariants as progress
use Rattle.mux_conn.specs.declared.request.Waiting.{Waiting}
use Rattle.mux_conn.specs.Connection.{Work, acted, admits_none, has_room, is_due, is_ready, last_queued, with_link, with_setup, is_serving}
use Rattle.mux_conn.specs.Requests.{answered, is_admitted_at, is_open_at, is_waiting_at, name_at, is_unbegun_at, progressed}
use Rattle.mux_conn.specs.Renewals.{renewal_asked, renewal_moved, renewing, asked_next, renewal_timed, started_ahead, started_ahead_at, renewed as auth_told}
use Rattle.mux_conn.specs.Passes.{admitted, admitted_at, admitted_each, let_in, moved_up, moved_up_each, permits_taken, placed_at, put_behind, seated, greeted_each, greeting_act, started, started_at, still_admitted, still_waiting, timer_asked, told_at_place, took_shown, round_begun, rounds_begun, rounds_of, took as took_permits}
use Rattle.mux_conn.specs.Starts.{shown_each}
use Rattle.mux_conn.specs.Turn.{flushed, fresh_each_shown, fresh_wait, moved_each_shown, moved_shown, moved_wait, wait_shown, written, written_at}

-- the moves of a turn
--
-- no more than so many were asked for, or the last that were wait on a link that is ready, or are told
abbrev pub HasGrown : ℕ → MultiplexedConnection → Type 0
HasGrown n c = (c.renewal.asked ≤ n) ⊎ ((is_ready c.life ≡ true) × ((c.renewal.pending ≡ false) ⊎ (is_due c.renewal ≡ true)))

-- a link that is ready then, too
ready_grown : (n : ℕ) (c : MultiplexedConnection) (link : LinkState) → HasGrown n c → HasGrown n (record c { life = Ready link })
ready_grown n c link (inl same) = inl same
ready_grown n c link (inr more) = inr (refl, more.1)

-- starts that are shown
shown_grown : (n : ℕ) (w : Work) (ss : List Started) → HasGrown n w.conn → HasGrown n (shown_each w ss).conn
shown_grown n w [] h = h
shown_grown n w (s ∷ ss) h = shown_grown n (acted w (act.Start s.msg (name_at w.conn.requests s.id) s.need s.len)) ss h

-- also of a greeting
greetings_grown : (n : ℕ) (w : Work) (greeting : Greeting) (ss : List Started) → HasGrown n w.conn → HasGrown n (greeted_each w greeting ss).conn
greetings_grown n w greeting [] h = h
greetings_grown n w greeting (s ∷ ss) h = greetings_grown n (acted w (greeting_act greeting s)) greeting ss h

-- one that isn't has asked for no more
unready_grown : (n : ℕ) (c : MultiplexedConnection) → is_ready c.life ≡ false → HasGrown n c → c.renewal.asked ≤ n
unready_grown n c unready (inl same) = same
unready_grown n c unready (inr more) = absurd (not_both (is_ready c.life) unready more.0)

-- messages that start
pub started_grown : (n : ℕ) (w : Work) → HasGrown n w.conn → HasGrown n (started w).conn
started_grown n w h = by_life w.conn.life refl
  where
    by_life : (life : Life) → w.conn.life ≡ life → HasGrown n (started_at w life).conn
    by_life Resting e = h
    by_life Dialing e = h
    by_life (Wanting link) e = h
    by_life (Ended x) e = h
    by_life (Ready link) e = let s = started_all (record { link = link; out = [] }) in shown_grown n (with_link w s.link) s.out (ready_grown n w.conn s.link h)
    by_life (SettingUp link greeting) e = let s = started_all (record { link = link; out = [] }) in greetings_grown n (with_setup w s.link greeting) greeting s.out (inl (unready_grown n w.conn (ap is_ready e) h))

-- an answer
answered_grown : (n : ℕ) (w : Work) (p : ℕ) (o : Outcome) → HasGrown n w.conn → HasGrown n (answered w p o).conn
answered_grown n w p o h = chosen (λ (x : Work). HasGrown n x.conn) (is_open_at w.conn.requests p) _ w (λ t. h) (λ f. h)

-- a place that is taken
placed_grown : (n : ℕ) (w : Work) (q : Waiting) (life : Life) → HasGrown n w.conn → HasGrown n (placed_at w q life).conn
placed_grown n w q (Ready link) (inl same) = inl same
placed_grown n w q (Ready link) (inr more) = inr (refl, more.1)
placed_grown n w q Resting h = h
placed_grown n w q Dialing h = h
placed_grown n w q (Wanting link) h = h
placed_grown n w q (SettingUp link greeting) h = h
placed_grown n w q (Ended e) h = h

-- with what starts then
seated_grown : (n : ℕ) (w : Work) (q : Waiting) → HasGrown n w.conn → HasGrown n (seated w q).conn
seated_grown n w q h =
    let v = placed_at w q w.conn.life in
    started_grown n (told_at_place v q) (chosen (λ (x : Work). HasGrown n x.conn) q.awaited v (answered v q.number _) (λ t. placed_grown n w q w.conn.life h) (λ f. answered_grown n v q.number _ (placed_grown n w q w.conn.life h)))

-- those that wait for a place
pub moved_grown : (n : ℕ) (w : Work) (qs : List Waiting) → HasGrown n w.conn → HasGrown n (moved_up_each w qs).conn
moved_grown n w [] h = h
moved_grown n w (q ∷ qs) h = chosen (λ (x : Work). HasGrown n x.conn) (has_room w.conn) (moved_up_each (moved_up w q) qs) (still_admitted w (q ∷ qs))
    (λ t. moved_grown n (moved_up w q) qs (chosen (λ (x : Work). HasGrown n x.conn) (is_admitted_at w.conn.requests q.number) (seated w q) w (λ a. seated_grown n w q h) (λ f. h)))
    (λ f. h)

-- permits that are taken
took_grown : (n : ℕ) (w : Work) (p count : ℕ) (limit : Option ℕ) → HasGrown n w.conn → HasGrown n (took_shown w p count limit).conn
took_grown n w p count None h = h
took_grown n w p count (Some k) h = h

-- a timer that is asked for
timer_grown : (n : ℕ) (w : Work) (p : ℕ) (time : Option ℕ) → HasGrown n w.conn → HasGrown n (timer_asked w p time).conn
timer_grown n w p None h = h
timer_grown n w p (Some ms) h = h

-- a request that is let in
let_in_grown : (n : ℕ) (w : Work) (q : Waiting) → HasGrown n w.conn → HasGrown n (let_in w q).conn
let_in_grown n w q h =
    let count = permits_taken w.conn.limit w.conn.free q.shape in
    timer_grown n (took_permits w q.number count) q.number q.timeout (took_grown n _ q.number count w.conn.limit h)

-- a round that begins
round_grown : (n : ℕ) (w : Work) (p : ℕ) → HasGrown n w.conn → HasGrown n (round_begun w p).conn
round_grown n w p h = chosen (λ (x : Work). HasGrown n x.conn) (w.conn.rounds && is_unbegun_at w.conn.requests p) (acted (progressed w p progress.Begun) (act.Round (name_at w.conn.requests p))) w (λ t. h) (λ f. h)

-- as far as it goes
admitted_grown : (n : ℕ) (w : Work) (q : Waiting) (life : Life) → HasGrown n w.conn → HasGrown n (admitted_at w q life).conn
admitted_grown n w q (Ready link) h =
    let u = round_begun w q.number in
    let v = let_in u q in
    let k = let_in_grown n u q (round_grown n w q.number h) in
    chosen (λ (x : Work). HasGrown n x.conn) (has_room v.conn) (seated v q) (put_behind v q) (λ t. seated_grown n v q k) (λ f. k)
admitted_grown n w q (Ended e) h = answered_grown n w q.number (outcome.Fault e) h
admitted_grown n w q Resting h = h
admitted_grown n w q Dialing h = h
admitted_grown n w q (Wanting link) h = h
admitted_grown n w q (SettingUp link greeting) h = h

-- all that wait for the connection
pub each_grown : (n : ℕ) (w : Work) (qs : List Waiting) → HasGrown n w.conn → HasGrown n (admitted_each w qs).conn
each_grown n w [] h = h
each_grown n w (q ∷ qs) h = chosen (λ (x : Work). HasGrown n x.conn) (admits_none w.conn) (still_waiting w (q ∷ qs)) (admitted_each (admitted w q) qs)
    (λ t. h)
    (λ f. each_grown n (admitted w q) qs (chosen (λ (x : Work). HasGrown n x.conn) (is_waiting_at w.conn.requests q.number) (admitted_at w q w.conn.life) w (λ a. admitted_grown n w q w.conn.life h) (λ g. h)))

-- the rounds of all that go on waiting
rounds_grown : (n : ℕ) (w : Work) (ps : List ℕ) → HasGrown n w.conn → HasGrown n (rounds_of w ps).conn
rounds_grown n w [] h = h
rounds_grown n w (p ∷ ps) h = rounds_grown n (round_begun w p) ps (round_grown n w p h)

pub begun_grown : (n : ℕ) (w : Work) → HasGrown n w.conn → HasGrown n (rounds_begun w).conn
begun_grown n w h = chosen (λ (x : Work). HasGrown n x.conn) (w.conn.rounds && is_serving w.conn) (rounds_of w w.conn.fresh) w (λ t. rounds_grown n w w.conn.fresh h) (λ f. h)

-- new credentials are asked for, and told
told_grown : (n : ℕ) (w : Work) (life : Life) (cs : List Credentials) → HasGrown n w.conn → HasGrown n (renewal_moved w life cs).conn
told_grown n w (Ready link) (c ∷ cs) h = chosen (λ (x : Work). HasGrown n x.conn) (holds_back link) w _ (λ t. h) (λ f. inr (refl, inl refl))
told_grown n w (Ready link) [] h = h
told_grown n w Resting cs h = h
told_grown n w Dialing cs h = h
told_grown n w (Wanting link) cs h = h
told_grown n w (SettingUp link greeting) cs h = h
told_grown n w (Ended e) cs h = h

-- those that are ahead of them start
ahead_grown : (n : ℕ) (w : Work) (life : Life) → HasGrown n w.conn → HasGrown n (started_ahead_at w life).conn
ahead_grown n w (Ready link) h = let s = started_to w.conn.renewal.last (record { link = link; out = [] }) in shown_grown n (with_link w s.link) s.out (ready_grown n w.conn s.link h)
ahead_grown n w Resting h = h
ahead_grown n w Dialing h = h
ahead_grown n w (Wanting link) h = h
ahead_grown n w (SettingUp link greeting) h = h
ahead_grown n w (Ended e) h = h

-- where they are to be
pub renewal_grown : (n : ℕ) (w : Work) → w.conn.renewal.asked ≤ n → HasGrown n (auth_told w).conn
renewal_grown n w h =
    let v = renewal_asked w in
    let u = started_ahead v in
    chosen (λ (x : Work). HasGrown n x.conn) (is_ready w.conn.life && is_due w.conn.renewal) (renewal_moved u u.conn.life u.conn.renewal.waiting) w
    (λ t. told_grown n u u.conn.life u.conn.renewal.waiting (ahead_grown n v v.conn.life (asked_grown (both_left (is_ready w.conn.life) (is_due w.conn.renewal) t) (both_right (is_ready w.conn.life) (is_due w.conn.renewal) t))))
    (λ f. inl h)
  where
    by_time : (o : Option ℕ) → is_ready w.conn.life ≡ true → is_due w.conn.renewal ≡ true → HasGrown n (renewal_timed (renewing w (asked_next w.conn.renewal (last_queued w.conn.life))) w.conn.renewal.asked o).conn
    by_time None ready due = inr (ready, inr due)
    by_time (Some ms) ready due = inr (ready, inr due)

    asked_grown : is_ready w.conn.life ≡ true → is_due w.conn.renewal ≡ true → HasGrown n (renewal_asked w).conn
    asked_grown ready due =
        let r = w.conn.renewal in
        chosen (λ (x : Work). HasGrown n x.conn) r.pending w (renewal_timed (renewing w (asked_next r (last_queued w.conn.life))) r.asked r.within) (λ t. inr (ready, inr due)) (λ f. by_time r.within ready due)

-- bytes that are offered
written_grown : (n : ℕ) (w : Work) (life : Life) → w.conn.life ≡ life → HasGrown n w.conn → HasGrown n (written_at w life).conn
written_grown n w (Ready link) e h = chosen (λ (x : Work). HasGrown n x.conn) (can_offer link.outbox) _ w (λ t. ready_grown n w.conn (offered_of link) h) (λ f. h)
written_grown n w Resting e h = h
written_grown n w Dialing e h = h
written_grown n w (Wanting link) e h = h
written_grown n w (SettingUp link greeting) e h = chosen (λ (x : Work). HasGrown n x.conn) (can_offer link.outbox) _ w (λ t. inl (unready_grown n w.conn (ap is_ready e) h)) (λ f. h)
written_grown n w (Ended x) e h = h

-- a wait that is shown
wait_grown : (n : ℕ) (w : Work) (p : ℕ) (kind : Option WaitKind) → HasGrown n w.conn → HasGrown n (wait_shown w p kind).conn
wait_grown n w p None h = h
wait_grown n w p (Some kind) h = h

-- the waits of those that were moved
moves_shown_grown : (n : ℕ) (w : Work) (ps : List ℕ) → HasGrown n w.conn → HasGrown n (moved_each_shown w ps).conn
moves_shown_grown n w [] h = h
moves_shown_grown n w (p ∷ ps) h = moves_shown_grown n (wait_shown w p (moved_wait w.conn p)) ps (wait_grown n w p (moved_wait w.conn p) h)

-- and of those that came
fresh_shown_grown : (n : ℕ) (w : Work) (ps : List ℕ) → HasGrown n w.conn → HasGrown n (fresh_each_shown w ps).conn
fresh_shown_grown n w [] h = h
fresh_shown_grown n w (p ∷ ps) h = fresh_shown_grown n (wait_shown w p (fresh_wait w.conn p)) ps (wait_grown n w p (fresh_wait w.conn p) h)

-- what a turn ends with
pub flushed_grown : (n : ℕ) (w : Work) → HasGrown n w.conn → HasGrown n (flushed w).conn
flushed_grown n w h =
    let v = written w in
    let m = moved_shown v in
    fresh_shown_grown n (record m { conn = record m.conn { fresh = [] } }) m.conn.fresh (moves_shown_grown n (record v { conn = record v.conn { moved = [] } }) v.conn.moved (written_grown n w w.conn.life refl h))

-- behind what is done of its own
--
-- so it is there, or a link was just asked for
abbrev pub IsGrown : ℕ → MultiplexedConnection → Type 0
IsGrown n c = HasGrown n c ⊎ (c.life ≡ Dialing)

-- a wait that is shown leaves the life, and so do all
wait_lives : (w : Work) (p : ℕ) (kind : Option WaitKind) → (wait_shown w p kind).conn.life ≡ w.conn.life
wait_lives w p None = refl
wait_lives w p (Some kind) = refl

moves_live : (w : Work) (ps : List ℕ) → (moved_each_shown w ps).conn.life ≡ w.conn.life
moves_live w [] = refl
moves_live w (p ∷ ps) = moves_live (wait_shown w p (moved_wait w.conn p)) ps ∙ wait_lives w p (moved_wait w.conn p)

fresh_lives : (w : Work) (ps : List ℕ) → (fresh_each_shown w ps).conn.life ≡ w.conn.life
fresh_lives w [] = refl
fresh_lives w (p ∷ ps) = fresh_lives (wait_shown w p (fresh_wait w.conn p)) ps ∙ wait_lives w p (fresh_wait w.conn p)

-- where the connect isn't answered, nothing is offered
dialing_flushed : (w : Work) → w.conn.life ≡ Dialing → (flushed w).conn.life ≡ Dialing
dialing_flushed w e =
    let v = written w in
    let m = moved_shown v in
    fresh_lives (record m { conn = record m.conn { fresh = [] } }) m.conn.fresh ∙ moves_live (record v { conn = record v.conn { moved = [] } }) v.conn.moved ∙ ap (λ (x : Life). (written_at w x).conn.life) e ∙ e

-- what the turn ends with then
pub apart_grown : (n : ℕ) (w : Work) → IsGrown n w.conn → IsGrown n (flushed w).conn
apart_grown n w (inl h) = inl (flushed_grown n w h)
apart_grown n w (inr e) = inr (dialing_flushed w e)
