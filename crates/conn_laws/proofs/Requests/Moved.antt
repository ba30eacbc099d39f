-- All requests of a connection are moved.
use Rattle.std.proofs.Common.{Bool, List, [], ap, false, refl, subst, sym, true, ℕ, ◌∙◌, ◌∷◌, ◌≡◌}
use Rattle.std.proofs.Math.Bool.{and-false}
use Rattle.std.specs.Prelude.{◌&&◌, ◌||◌}
use Rattle.containers.proofs.Choices.{chosen, left_if, not_both, taken_if}
use Rattle.redis_error.specs.declared.redis_error.RedisError.{RedisError}
use Rattle.driver_model.specs.declared.outcome.Outcome.{Outcome}
use Rattle.driver_model.specs.declared.outcome.Outcome.TheVariants as outcome
use Rattle.link_core.specs.Link.{LinkState, started_each}
use Rattle.link_core.specs.declared.message.Queued.{Queued}
use Rattle.mux_conn.specs.Repeats.{is_to_start, repeat_asked, repeat_moved}
use Rattle.conn_laws.proofs.Requests.Start.{with_queue}
use Rattle.mux_conn.specs.Connection.{Work, at_life, is_serving, admits_none, admits_none_at, has_no_permit, with_link, is_due, is_ready, is_outstanding}
use Rattle.mux_conn.specs.Effects.{failed_each, nobody_waits, waiting_failed}
use Rattle.mux_conn.specs.Starts.{starts_with}
use Rattle.mux_conn.specs.Passes.{said, admitted, admitted_all, admitted_at, admitted_each, moved_up_all, moved_up_each, passed, started_at, still_admitted, still_waiting, rounds_begun, rounds_of}
use Rattle.mux_conn.specs.Requests.{answered, with_permits, is_open as is_open_progress, is_open_at, is_waiting, is_waiting_at}
use Rattle.mux_conn.specs.declared.life.Greeting.{Greeting}
use Rattle.mux_conn.specs.declared.life.Life.{Life}
use Rattle.mux_conn.specs.declared.life.Life.TheVariants.{Resting, Dialing, Ended, Ready, Wanting, SettingUp}
use Rattle.mux_conn.specs.declared.request.Progress.TheVariants as progress
use Rattle.mux_conn.specs.declared.request.Request.{Request}
use Rattle.mux_conn.specs.declared.request.Waiting.{Waiting}
use Rattle.mux_conn.specs.Renewals as renewals
use Rattle.mux_conn.specs.Renewals.{renewal_asked, renewal_moved, started_ahead}
use Rattle.conn_laws.proofs.Ties.Names.{open_within, with_then}
use Rattle.conn_laws.proofs.Changes.Requests.{test_other as with_other}
use Rattle.conn_laws.proofs.Requests.Settle.{answered_leaves, failed_leaves}
use Rattle.conn_laws.proofs.Ties.States.{IsStopped}
use Rattle.conn_laws.proofs.Ties.Tied.{has_ended}
use Rattle.conn_laws.proofs.Internal.Serving.{unready_serves, outstanding_serves}

-- on a link that is up and set up
--
-- not everything is shut down
pub up_awake : (life : Life) (waiting : List Waiting) (link : LinkState) → life ≡ Ready link → IsStopped life waiting → ⊥
up_awake life waiting link e stopped = subst (λ (x : Life). IsStopped x waiting) e stopped

pub set_awake : (life : Life) (waiting : List Waiting) (link : LinkState) (greeting : Greeting) → life ≡ SettingUp link greeting → IsStopped life waiting → ⊥
set_awake life waiting link greeting e stopped = subst (λ (x : Life). IsStopped x waiting) e stopped

-- there is one link
pub one_link : (life : Life) (link link' : LinkState) → life ≡ Ready link → life ≡ Ready link' → link ≡ link'
one_link life link link' e k = let both : Ready link ≡ Ready link' = sym e ∙ k in cc

-- which isn't set up still
pub not_both_lives : (life : Life) (link link' : LinkState) (greeting : Greeting) → life ≡ Ready link → life ≡ SettingUp link' greeting → ⊥
not_both_lives life link link' greeting e k = let both : Ready link ≡ SettingUp link' greeting = sym e ∙ k in cc

-- nor does it wait for credentials
pub not_wanting_too : (life : Life) (link link' : LinkState) → life ≡ Ready link → life ≡ Wanting link' → ⊥
not_wanting_too life link link' e k = let both : Ready link ≡ Wanting link' = sym e ∙ k in cc

-- elsewhere no round begins
pub no_rounds : (w : Work) → is_serving w.conn ≡ false → rounds_begun w ≡ w
no_rounds w down = left_if (w.conn.rounds && is_serving w.conn) (rounds_of w w.conn.fresh) w (ap (λ x. w.conn.rounds && x) down ∙ and-false w.conn.rounds)

-- and the driver says nothing itself
pub unready_said : (w : Work) → is_ready w.conn.life ≡ false → said w ≡ w
unready_said w down =
    let r = w.conn.renewal in
    let ahead = started_ahead (renewal_asked w) in
    ap renewals.renewed (left_if (is_ready w.conn.life && is_to_start w.conn.again) (repeat_moved (repeat_asked w) w.conn.life w.conn.again) w (ap (λ x. x && is_to_start w.conn.again) down))
    ∙ left_if (is_ready w.conn.life && is_due r) (renewal_moved ahead ahead.conn.life ahead.conn.renewal.waiting) w (ap (λ x. x && is_due r) down)

-- while the connect isn't answered, or credentials are to come
--
-- nobody is let in
pub stuck_stays : (w : Work) (qs : List Waiting) → admits_none w.conn ≡ true → admitted_each w qs ≡ still_waiting w qs
stuck_stays w [] e = refl
stuck_stays w (q ∷ qs) e = taken_if (admits_none w.conn) (still_waiting w (q ∷ qs)) (admitted_each (admitted w q) qs) e

-- where none waits for a place, none is moved
pub none_moved_up : (w : Work) → w.conn.admitted ≡ [] → moved_up_all w ≡ w
none_moved_up w e = ap (moved_up_each (still_admitted w [])) e ∙ ap (still_admitted w) (sym e)

-- and nothing starts of an empty queue
none_started : (w : Work) (link : LinkState) → w.conn.life ≡ Ready link → link.queue ≡ [] → started_at w w.conn.life ≡ w
none_started w link life empty =
    ap (started_at w) life ∙ ap (λ (qs : List Queued). starts_with w (started_each (record { link = link; out = [] }) qs)) empty
    ∙ ap (λ (qs : List Queued). with_link w (with_queue link qs)) (sym empty) ∙ ap (at_life w) (sym life)

-- on a link that is set up, while what is subscribed again there isn't answered, nothing moves but what the driver says itself
pub repeating_same : (w v : Work) (link : LinkState) → said w ≡ v → v.conn.life ≡ Ready link → link.queue ≡ [] → v.conn.admitted ≡ [] → is_outstanding v.conn.again ≡ true → passed w ≡ v
repeating_same w v link says life empty nobody goes =
    ap (λ (x : Work). rounds_begun (admitted_all (moved_up_all (started_at x x.conn.life)))) says
    ∙ ap (λ (x : Work). rounds_begun (admitted_all (moved_up_all x))) (none_started v link life empty) ∙ ap (λ (x : Work). rounds_begun (admitted_all x)) (none_moved_up v nobody)
    ∙ ap rounds_begun (stuck_stays (still_waiting v []) v.conn.waiting (ap (λ (x : Life). admits_none_at x (is_outstanding v.conn.again || none_free)) life ∙ ap (λ x. x || none_free) goes))
    ∙ no_rounds v (outstanding_serves v.conn.life v.conn.again goes)
  where
    none_free : Bool
    none_free = has_no_permit v.conn.limit v.conn.free

-- nothing of a connection can move: no message starts, and nobody who waits for the connection is let in
pub record IsStuck (w : Work) : Type 0 where
  pub unready : is_ready w.conn.life ≡ false
  pub none_starts : started_at w w.conn.life ≡ w
  pub admits : admits_none w.conn ≡ true
  pub down : (link : LinkState) → w.conn.life ≡ Ready link → ⊥
  pub unset : (link : LinkState) (greeting : Greeting) → w.conn.life ≡ SettingUp link greeting → ⊥
  pub alive : has_ended w.conn.life ≡ false

-- so the passes leave it
pub stuck_same : (w : Work) → IsStuck w → w.conn.admitted ≡ [] → passed w ≡ w
stuck_same w stuck none =
    ap (λ (x : Work). rounds_begun (admitted_all (moved_up_all (started_at x x.conn.life)))) (unready_said w stuck.unready)
    ∙ ap (λ (x : Work). rounds_begun (admitted_all (moved_up_all x))) stuck.none_starts ∙ ap (λ (x : Work). rounds_begun (admitted_all x)) (none_moved_up w none) ∙ ap rounds_begun (stuck_stays (still_waiting w []) w.conn.waiting stuck.admits)
    ∙ no_rounds w (unready_serves w.conn.life w.conn.again stuck.unready)

-- so it is without a link
pub resting_stuck : (w : Work) → w.conn.life ≡ Resting → IsStuck w
resting_stuck w life = record {
  unready = ap is_ready life;
  none_starts = ap (started_at w) life;
  admits = ap (λ (x : Life). admits_none_at x (is_outstanding w.conn.again || has_no_permit w.conn.limit w.conn.free)) life;
  down = λ link e. (let no : Resting ≡ Ready link = sym life ∙ e in cc);
  unset = λ link u e. (let no : Resting ≡ SettingUp link u = sym life ∙ e in cc);
  alive = ap has_ended life;
}

-- where nobody waits for a place then, the passes leave it
pub resting_passed : (w : Work) → w.conn.life ≡ Resting → w.conn.admitted ≡ [] → passed w ≡ w
resting_passed w rests none = stuck_same w (resting_stuck w rests) none

-- while the connect isn't answered
pub dialing_stuck : (w : Work) → w.conn.life ≡ Dialing → IsStuck w
dialing_stuck w life = record {
  unready = ap is_ready life;
  none_starts = ap (started_at w) life;
  admits = ap (λ (x : Life). admits_none_at x (is_outstanding w.conn.again || has_no_permit w.conn.limit w.conn.free)) life;
  down = λ link e. (let no : Dialing ≡ Ready link = sym life ∙ e in cc);
  unset = λ link u e. (let no : Dialing ≡ SettingUp link u = sym life ∙ e in cc);
  alive = ap has_ended life;
}

-- and while credentials are to come
pub wanting_stuck : (w : Work) (link : LinkState) → w.conn.life ≡ Wanting link → IsStuck w
wanting_stuck w link life = record {
  unready = ap is_ready life;
  none_starts = ap (started_at w) life;
  admits = ap (λ (x : Life). admits_none_at x (is_outstanding w.conn.again || has_no_permit w.conn.limit w.conn.free)) life;
  down = λ x e. (let no : Wanting link ≡ Ready x = sym life ∙ e in cc);
  unset = λ x u e. (let no : Wanting link ≡ SettingUp x u = sym life ∙ e in cc);
  alive = ap has_ended life;
}

-- on a link that has ended
--
-- who is open waits for the connection
abbrev pub OpenWaits : List Request → Type 0
OpenWaits requests = (p : ℕ) → is_open_at requests p ≡ true → is_waiting_at requests p ≡ true

-- and stays where one is closed
closed_waits : (requests : List Request) (p : ℕ) → is_open_at requests p ≡ true → OpenWaits requests → OpenWaits (with_permits requests p progress.Closed 0)
closed_waits requests p o h q e =
    let k = with_then is_open_progress requests p q progress.Closed 0 refl (open_within requests p o) e in
    with_other is_waiting requests p q progress.Closed 0 k.0 ∙ h q k.1

-- or answered
answered_waits : (w : Work) (p : ℕ) (o : Outcome) → OpenWaits w.conn.requests → OpenWaits (answered w p o).conn.requests
answered_waits w p o h = chosen (λ (x : Work). OpenWaits x.conn.requests) (is_open_at w.conn.requests p) _ w (λ t. closed_waits w.conn.requests p t h) (λ f. h)

-- a test that is followed by another
waiting_false : (a b : Bool) → (a ≡ true → b ≡ true) → b ≡ false → a ≡ false
waiting_false true b h e = absurd (not_both b e (h refl))
waiting_false false b h e = refl

-- one that is moved is answered
admitted_over : (w : Work) (e : RedisError) (q : Waiting) → w.conn.life ≡ Ended e → OpenWaits w.conn.requests → admitted w q ≡ answered w q.number (outcome.Fault e)
admitted_over w e q over h =
    chosen (λ (x : Work). x ≡ answered w q.number (outcome.Fault e)) (is_waiting_at w.conn.requests q.number) (admitted_at w q w.conn.life) w
    (λ t. ap (admitted_at w q) over)
    (λ f. sym (left_if (is_open_at w.conn.requests q.number) _ w (waiting_false (is_open_at w.conn.requests q.number) (is_waiting_at w.conn.requests q.number) (h q.number) f)))

-- and so is each
each_over : (w : Work) (e : RedisError) (qs : List Waiting) → w.conn.life ≡ Ended e → OpenWaits w.conn.requests → admitted_each w qs ≡ still_waiting (failed_each w e qs) []
each_over w e [] over h = refl
each_over w e (q ∷ qs) over h =
    left_if (admits_none w.conn) _ (admitted_each (admitted w q) qs) (ap (λ (x : Life). admits_none_at x (is_outstanding w.conn.again || has_no_permit w.conn.limit w.conn.free)) over)
    ∙ ap (λ (x : Work). admitted_each x qs) (admitted_over w e q over h)
    ∙ each_over (answered w q.number (outcome.Fault e)) e qs ((answered_leaves w q.number (outcome.Fault e)).life ∙ over) (answered_waits w q.number (outcome.Fault e) h)

-- all that wait are answered
pub passed_over_is : (w : Work) (e : RedisError) → w.conn.life ≡ Ended e → w.conn.admitted ≡ [] → OpenWaits w.conn.requests → passed w ≡ waiting_failed w e
passed_over_is w e over empty h =
    let v = nobody_waits w in
    let c = failed_each v e w.conn.waiting in
    ap (λ (x : Work). rounds_begun (admitted_all (moved_up_all (started_at x x.conn.life)))) (unready_said w (ap is_ready over))
    ∙ ap (λ (x : Life). rounds_begun (admitted_all (moved_up_all (started_at w x)))) over
    ∙ ap (λ ws. rounds_begun (admitted_all (moved_up_each (still_admitted w []) ws))) empty
    ∙ ap rounds_begun (each_over v e w.conn.waiting over h)
    ∙ no_rounds (still_waiting c []) (unready_serves c.conn.life c.conn.again (ap is_ready ((failed_leaves v e w.conn.waiting).life ∙ over)))
    ∙ ap (λ ws. record c { conn = record c.conn { waiting = ws } }) (sym (failed_leaves v e w.conn.waiting).waiting)
    ∙ ap (λ ws. failed_each (failed_each v e ws) e w.conn.waiting) (sym empty)
