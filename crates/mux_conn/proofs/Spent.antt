-- A number that has run out has run out for the rest of the turn.
use Rattle.std.proofs.Common.{◌≡◌, ℕ, ◌^◌, ◌≤◌, nat_le, List, [], ◌∷◌, Bool, true, false, ◌&&◌, ◌||◌, Option, None, Some, refl, sym, ap, subst, ◌∙◌, arith, if◌then◌else◌}
use Rattle.std.proofs.Math.Nat.{le_refl}
use Rattle.std.proofs.lemmas.Bool.Decides.{nat_tests}
use Rattle.containers.proofs.Choices.{taken_if, left_if, not_both}
use Rattle.resp_value.specs.declared.value.Value.TheVariants.{Nil}
use Rattle.driver_model.specs.declared.outcome.Outcome.{Outcome}
use Rattle.driver_model.specs.declared.outcome.Outcome.TheVariants as outcome
use Rattle.credentials.specs.Credentials.{Credentials}
use Rattle.link_core.specs.Link.{LinkState, is_spent, holds_back, started_all, started_to}
use Rattle.link_core.specs.Outbox.{can_offer}
use Rattle.link_core.proofs.StartLemmas.{numbers_rise}
use Rattle.link_core.proofs.BoundLemmas.{numbers_rise_to}
use Rattle.mux_conn.specs.declared.connection.MultiplexedConnection.{MultiplexedConnection}
use Rattle.mux_conn.specs.declared.life.Greeting.{Greeting}
use Rattle.mux_conn.specs.declared.life.Life.{Life}
use Rattle.mux_conn.specs.declared.life.Life.TheVariants.{Resting, Dialing, Wanting, SettingUp, Ready, Ended}
use Rattle.mux_conn.specs.declared.renewal.Renewal.{Renewal}
use Rattle.mux_conn.specs.declared.request.Waiting.{Waiting}
use Rattle.mux_conn.specs.Connection.{Work, with_link, with_setup, is_ready, is_serving, is_due, admits_none, has_room, last_queued, started_in, is_spent_in, runs_out, renewals_run_out, uses_up}
use Rattle.mux_conn.specs.Requests.{is_open_at, is_waiting_at, is_unbegun_at, is_admitted_at, answered}
use Rattle.driver_model.specs.declared.action.WaitKind.{WaitKind}
use Rattle.driver_model.specs.News.{News}
use Rattle.mux_conn.specs.Effects.{applied}
use Rattle.mux_conn.specs.Starts.{shown_each}
use Rattle.mux_conn.specs.Passes.{greeted_each, started, started_at, placed_at, told_at_place, seated, moved_up, moved_up_each, moved_up_all, still_admitted}
use Rattle.mux_conn.specs.Passes.{permits_taken, took, took_shown, timer_asked, let_in, holding, put_behind, seated_or_behind, round_begun, rounds_of, rounds_begun, admitted_at, admitted, admitted_each, admitted_all, still_waiting, said, moved_all, passed}
use Rattle.mux_conn.specs.Renewals.{renewing, asked_next, renewal_timed, renewal_asked, started_ahead, started_ahead_at, renewal_moved, renewal_told, renewed}
use Rattle.mux_conn.specs.Repeats.{repeated}
use Rattle.mux_conn.proofs.Kept.{shown_same, greeted_same, ahead_kept, begun_kept, moved_kept, flushed_kept}
use Rattle.mux_conn.specs.Turn.{written, written_at, moved_wait, fresh_wait, wait_shown, moved_each_shown, fresh_each_shown, moved_shown, fresh_shown, flushed, stepped}

-- how many messages have started
abbrev pub count : Work → ℕ
count w = started_in w.conn.life

-- starts give no smaller numbers
started_rises_at : (w : Work) (life : Life) → w.conn.life ≡ life → count w ≤ count (started_at w life)
started_rises_at w Resting e = le_refl (count w)
started_rises_at w Dialing e = le_refl (count w)
started_rises_at w (Wanting link) e = le_refl (count w)
started_rises_at w (Ended x) e = le_refl (count w)
started_rises_at w (SettingUp link greeting) e =
    let all = started_all (record { link = link; out = [] }) in
    let same : count (greeted_each (with_setup w all.link greeting) greeting all.out) ≡ all.link.started = ap (λ (c : MultiplexedConnection). started_in c.life) (greeted_same (with_setup w all.link greeting) greeting all.out) in
    let from : count w ≡ link.started = ap started_in e in
    omega (arith, same, from, numbers_rise (record { link = link; out = [] }) link.queue)
started_rises_at w (Ready link) e =
    let all = started_all (record { link = link; out = [] }) in
    let same : count (shown_each (with_link w all.link) all.out) ≡ all.link.started = ap (λ (c : MultiplexedConnection). started_in c.life) (shown_same (with_link w all.link) all.out) in
    let from : count w ≡ link.started = ap started_in e in
    omega (arith, same, from, numbers_rise (record { link = link; out = [] }) link.queue)

started_rises : (w : Work) → count w ≤ count (started w)
started_rises w = started_rises_at w w.conn.life refl

-- a link whose starts run out
pub start_spent : (w : Work) (link : LinkState) → w.conn.life ≡ Ready link → is_spent (started_all (record { link = link; out = [] })).link ≡ true → is_spent_in (started w).conn.life ≡ true
start_spent w link e h =
    let all = started_all (record { link = link; out = [] }) in
    let same : count (started w) ≡ all.link.started = ap (λ life. count (started_at w life)) e ∙ ap (λ (c : MultiplexedConnection). started_in c.life) (shown_same (with_link w all.link) all.out) in
    ap (λ n. nat_le (2 ^ 32) n) same ∙ h

-- a greeting whose starts run out
pub greeting_spent : (w : Work) (link : LinkState) (greeting : Greeting) → w.conn.life ≡ SettingUp link greeting → is_spent (started_all (record { link = link; out = [] })).link ≡ true → is_spent_in (started w).conn.life ≡ true
greeting_spent w link greeting e h =
    let all = started_all (record { link = link; out = [] }) in
    let same : count (started w) ≡ all.link.started = ap (λ life. count (started_at w life)) e ∙ ap (λ (c : MultiplexedConnection). started_in c.life) (greeted_same (with_setup w all.link greeting) greeting all.out) in
    ap (λ n. nat_le (2 ^ 32) n) same ∙ h

-- no less by either choice
rises_either : (b : Bool) (n : ℕ) (v w : Work) → n ≤ count v → n ≤ count w → n ≤ count (if b then v else w)
rises_either true n v w h k = h
rises_either false n v w h k = k

count_either : (b : Bool) (n : ℕ) (v w : Work) → count v ≡ n → count w ≡ n → count (if b then v else w) ≡ n
count_either true n v w h k = h
count_either false n v w h k = k

answered_count : (w : Work) (p : ℕ) (o : Outcome) → count (answered w p o) ≡ count w
answered_count w p o = count_either (is_open_at w.conn.requests p) (count w) _ w refl refl

told_count : (w : Work) (q : Waiting) → count (told_at_place w q) ≡ count w
told_count w q = count_either q.awaited (count w) w (answered w q.number (outcome.One Nil)) refl (answered_count w q.number (outcome.One Nil))

placed_count : (w : Work) (q : Waiting) (life : Life) → w.conn.life ≡ life → count (placed_at w q life) ≡ count w
placed_count w q Resting e = refl
placed_count w q Dialing e = refl
placed_count w q (Wanting link) e = refl
placed_count w q (Ended x) e = refl
placed_count w q (SettingUp link greeting) e = refl
placed_count w q (Ready link) e = let from : count w ≡ link.started = ap started_in e in sym from

seated_rises : (w : Work) (q : Waiting) → count w ≤ count (seated w q)
seated_rises w q =
    let placed = placed_at w q w.conn.life in
    let told = told_at_place placed q in
    let same : count told ≡ count w = told_count placed q ∙ placed_count w q w.conn.life refl in
    omega (arith, same, started_rises told)

moved_up_rises : (w : Work) (q : Waiting) → count w ≤ count (moved_up w q)
moved_up_rises w q = rises_either (is_admitted_at w.conn.requests q.number) (count w) (seated w q) w (seated_rises w q) (le_refl (count w))

moved_up_each_rises : (w : Work) (qs : List Waiting) → count w ≤ count (moved_up_each w qs)
moved_up_each_rises w [] = le_refl (count w)
moved_up_each_rises w (q ∷ qs) =
    rises_either (has_room w.conn) (count w) (moved_up_each (moved_up w q) qs) (still_admitted w (q ∷ qs))
    (omega (arith, moved_up_rises w q, moved_up_each_rises (moved_up w q) qs)) (le_refl (count w))

behind_rises : (w : Work) (q : Waiting) → count w ≤ count (seated_or_behind w q)
behind_rises w q = rises_either (has_room w.conn) (count w) (seated w q) (put_behind w q) (seated_rises w q) (le_refl (count w))

-- permits and timers start nothing
took_count : (w : Work) (p count_of : ℕ) (limit : Option ℕ) → count (took_shown w p count_of limit) ≡ count w
took_count w p n None = refl
took_count w p n (Some limit) = refl

timer_count : (w : Work) (p : ℕ) (timeout : Option ℕ) → count (timer_asked w p timeout) ≡ count w
timer_count w p None = refl
timer_count w p (Some ms) = refl

let_in_count : (w : Work) (q : Waiting) → count (let_in w q) ≡ count w
let_in_count w q =
    let n = permits_taken w.conn.limit w.conn.free q.shape in
    timer_count (took w q.number n) q.number q.timeout ∙ took_count (record w { conn = holding w.conn q.number n }) q.number n w.conn.limit

-- nor do rounds that begin
round_count : (w : Work) (p : ℕ) → count (round_begun w p) ≡ count w
round_count w p = count_either (w.conn.rounds && is_unbegun_at w.conn.requests p) (count w) _ w refl refl

rounds_count : (w : Work) (ps : List ℕ) → count (rounds_of w ps) ≡ count w
rounds_count w [] = refl
rounds_count w (p ∷ ps) = rounds_count (round_begun w p) ps ∙ round_count w p

begun_count : (w : Work) → count (rounds_begun w) ≡ count w
begun_count w = count_either (w.conn.rounds && is_serving w.conn) (count w) (rounds_of w w.conn.fresh) w (rounds_count w w.conn.fresh) refl

admitted_at_rises : (w : Work) (q : Waiting) (life : Life) → count w ≤ count (admitted_at w q life)
admitted_at_rises w q Resting = le_refl (count w)
admitted_at_rises w q Dialing = le_refl (count w)
admitted_at_rises w q (Wanting link) = le_refl (count w)
admitted_at_rises w q (SettingUp link greeting) = le_refl (count w)
admitted_at_rises w q (Ended x) = let same = answered_count w q.number (outcome.Fault x) in omega (arith, same)
admitted_at_rises w q (Ready link) =
    let begun = round_begun w q.number in
    let same : count (let_in begun q) ≡ count w = let_in_count begun q ∙ round_count w q.number in
    omega (arith, same, behind_rises (let_in begun q) q)

admitted_rises : (w : Work) (q : Waiting) → count w ≤ count (admitted w q)
admitted_rises w q = rises_either (is_waiting_at w.conn.requests q.number) (count w) (admitted_at w q w.conn.life) w (admitted_at_rises w q w.conn.life) (le_refl (count w))

admitted_each_rises : (w : Work) (qs : List Waiting) → count w ≤ count (admitted_each w qs)
admitted_each_rises w [] = le_refl (count w)
admitted_each_rises w (q ∷ qs) =
    rises_either (admits_none w.conn) (count w) (still_waiting w (q ∷ qs)) (admitted_each (admitted w q) qs) (le_refl (count w))
    (omega (arith, admitted_rises w q, admitted_each_rises (admitted w q) qs))

-- a count that has risen past the last number stays there
past : (n m : ℕ) → n ≤ m → nat_le (2 ^ 32) n ≡ true → nat_le (2 ^ 32) m ≡ true
past n m l h = grind (arith, nat_tests, l, h)

-- one of those that wait for a place runs out, and so do all
pub spent_in_moved_up : (w v : Work) (q : Waiting) (qs : List Waiting) → has_room w.conn ≡ true → moved_up_each w (q ∷ qs) ≡ v → is_spent_in (moved_up w q).conn.life ≡ true → is_spent_in v.conn.life ≡ true
spent_in_moved_up w v q qs room is h =
    subst (λ (x : Work). is_spent_in x.conn.life ≡ true) (sym (taken_if (has_room w.conn) (moved_up_each (moved_up w q) qs) (still_admitted w (q ∷ qs)) room) ∙ is)
    (past (count (moved_up w q)) (count (moved_up_each (moved_up w q) qs)) (moved_up_each_rises (moved_up w q) qs) h)

-- and so of those that wait for the connection
pub spent_in_admitted : (w v : Work) (q : Waiting) (qs : List Waiting) → admits_none w.conn ≡ false → admitted_each w (q ∷ qs) ≡ v → is_spent_in (admitted w q).conn.life ≡ true → is_spent_in v.conn.life ≡ true
spent_in_admitted w v q qs free is h =
    subst (λ (x : Work). is_spent_in x.conn.life ≡ true) (sym (left_if (admits_none w.conn) (still_waiting w (q ∷ qs)) (admitted_each (admitted w q) qs) free) ∙ is)
    (past (count (admitted w q)) (count (admitted_each (admitted w q) qs)) (admitted_each_rises (admitted w q) qs) h)

-- one of two that is true
either_left : (a b : Bool) → a ≡ true → (a || b) ≡ true
either_left true b h = refl
either_left false b h = cc

-- where one of two is true, so is one of two of which the first follows from it
or_more : (a b c : Bool) → (a ≡ true → b ≡ true) → (a || c) ≡ true → (b || c) ≡ true
or_more a true c f h = refl
or_more true false c f h = absurd (not_both false refl (f refl))
or_more false false c f h = h

-- so many of both sorts of numbers have run out where as many new credentials were to be told, and no fewer messages have started
uses_more : (w v : Work) → count w ≤ count v → v.conn.renewal.asked ≡ w.conn.renewal.asked → uses_up w ≡ true → uses_up v ≡ true
uses_more w v l e h =
    ap (λ (n : ℕ). runs_out v || nat_le (2 ^ 32) n) e ∙ or_more (runs_out w) (runs_out v) (nat_le (2 ^ 32) w.conn.renewal.asked) (past (count w) (count v) l) h

-- those that take a place run out before the others are admitted
pub spent_second : (w : Work) → is_spent_in (moved_up_all (started (said w))).conn.life ≡ true → uses_up (moved_all w) ≡ true
spent_second w h =
    let v = moved_up_all (started (said w)) in
    either_left (runs_out (moved_all w)) (renewals_run_out (moved_all w)) (past (count v) (count (admitted_all v)) (admitted_each_rises (still_waiting v []) v.conn.waiting) h)

-- starts run out before requests are moved
pub spent_first : (w : Work) → is_spent_in (started (said w)).conn.life ≡ true → uses_up (moved_all w) ≡ true
spent_first w h =
    let v = started (said w) in
    spent_second w (past (count v) (count (moved_up_all v)) (moved_up_each_rises (still_admitted v []) v.conn.admitted) h)

-- to move requests gives no smaller numbers than what the driver says itself
moved_rises : (w : Work) → count (said w) ≤ count (moved_all w)
moved_rises w =
    let s = started (said w) in
    let m = moved_up_all s in
    let up : count s ≤ count m = moved_up_each_rises (still_admitted s []) s.conn.admitted in
    let all : count m ≤ count (moved_all w) = admitted_each_rises (still_waiting m []) m.conn.waiting in
    omega (arith, started_rises (said w), up, all)

-- what the driver uses up itself is used up when requests were moved
pub spent_said : (w : Work) → uses_up (said w) ≡ true → uses_up (moved_all w) ≡ true
spent_said w h = uses_more (said w) (moved_all w) (moved_rises w) (ap (λ (r : Renewal). r.asked) (moved_kept w)) h

-- new credentials give no smaller numbers
renewal_timed_count : (w : Work) (number : ℕ) (within : Option ℕ) → count (renewal_timed w number within) ≡ count w
renewal_timed_count w number None = refl
renewal_timed_count w number (Some ms) = refl

renewal_asked_count : (w : Work) → count (renewal_asked w) ≡ count w
renewal_asked_count w =
    let r = w.conn.renewal in
    count_either r.pending (count w) w (renewal_timed (renewing w (asked_next r (last_queued w.conn.life))) r.asked r.within) refl (renewal_timed_count (renewing w (asked_next r (last_queued w.conn.life))) r.asked r.within)

renewal_moved_rises : (w : Work) (life : Life) (cs : List Credentials) → w.conn.life ≡ life → count w ≤ count (renewal_moved w life cs)
renewal_moved_rises w Resting cs e = le_refl (count w)
renewal_moved_rises w Dialing cs e = le_refl (count w)
renewal_moved_rises w (Wanting link) cs e = le_refl (count w)
renewal_moved_rises w (SettingUp link greeting) cs e = le_refl (count w)
renewal_moved_rises w (Ended x) cs e = le_refl (count w)
renewal_moved_rises w (Ready link) [] e = le_refl (count w)
renewal_moved_rises w (Ready link) (c ∷ cs) e =
    let from : count w ≡ link.started = ap started_in e in
    rises_either (holds_back link) (count w) w _ (le_refl (count w)) (omega (arith, from))

life_either : (b : Bool) (life : Life) (v w : Work) → v.conn.life ≡ life → w.conn.life ≡ life → (if b then v else w).conn.life ≡ life
life_either true life v w h k = h
life_either false life v w h k = k

renewal_timed_life : (w : Work) (number : ℕ) (within : Option ℕ) → (renewal_timed w number within).conn.life ≡ w.conn.life
renewal_timed_life w number None = refl
renewal_timed_life w number (Some ms) = refl

renewal_asked_life : (w : Work) → (renewal_asked w).conn.life ≡ w.conn.life
renewal_asked_life w =
    let r = w.conn.renewal in
    life_either r.pending w.conn.life w (renewal_timed (renewing w (asked_next r (last_queued w.conn.life))) r.asked r.within) refl (renewal_timed_life (renewing w (asked_next r (last_queued w.conn.life))) r.asked r.within)

-- where the link is set up it still is behind the starts of those before them
ready_ahead_at : (w : Work) (life : Life) → w.conn.life ≡ life → is_ready life ≡ true → is_ready (started_ahead_at w life).conn.life ≡ true
ready_ahead_at w Resting e ready = ap is_ready e ∙ ready
ready_ahead_at w Dialing e ready = ap is_ready e ∙ ready
ready_ahead_at w (Wanting link) e ready = ap is_ready e ∙ ready
ready_ahead_at w (SettingUp link greeting) e ready = ap is_ready e ∙ ready
ready_ahead_at w (Ended x) e ready = ap is_ready e ∙ ready
ready_ahead_at w (Ready link) e ready =
    let all = started_to w.conn.renewal.last (record { link = link; out = [] }) in
    ap (λ (c : MultiplexedConnection). is_ready c.life) (shown_same (with_link w all.link) all.out)

pub ready_ahead : (w : Work) → is_ready w.conn.life ≡ true → is_ready (started_ahead (renewal_asked w)).conn.life ≡ true
ready_ahead w ready =
    let asked = renewal_asked w in
    ready_ahead_at asked asked.conn.life refl (ap is_ready (renewal_asked_life w) ∙ ready)

-- those starts give no smaller numbers
ahead_rises_at : (w : Work) (life : Life) → w.conn.life ≡ life → count w ≤ count (started_ahead_at w life)
ahead_rises_at w Resting e = le_refl (count w)
ahead_rises_at w Dialing e = le_refl (count w)
ahead_rises_at w (Wanting link) e = le_refl (count w)
ahead_rises_at w (SettingUp link greeting) e = le_refl (count w)
ahead_rises_at w (Ended x) e = le_refl (count w)
ahead_rises_at w (Ready link) e =
    let last = w.conn.renewal.last in
    let all = started_to last (record { link = link; out = [] }) in
    let same : count (shown_each (with_link w all.link) all.out) ≡ all.link.started = ap (λ (c : MultiplexedConnection). started_in c.life) (shown_same (with_link w all.link) all.out) in
    let from : count w ≡ link.started = ap started_in e in
    omega (arith, same, from, numbers_rise_to last (record { link = link; out = [] }) link.queue)

ahead_rises : (w : Work) → count w ≤ count (started_ahead w)
ahead_rises w = ahead_rises_at w w.conn.life refl

-- a link whose starts before new credentials run out
pub ahead_spent : (w : Work) (link : LinkState) → w.conn.life ≡ Ready link → is_spent (started_to w.conn.renewal.last (record { link = link; out = [] })).link ≡ true → is_spent_in (started_ahead w).conn.life ≡ true
ahead_spent w link e h =
    let all = started_to w.conn.renewal.last (record { link = link; out = [] }) in
    let same : count (started_ahead w) ≡ all.link.started = ap (λ life. count (started_ahead_at w life)) e ∙ ap (λ (c : MultiplexedConnection). started_in c.life) (shown_same (with_link w all.link) all.out) in
    ap (λ n. nat_le (2 ^ 32) n) same ∙ h

-- how many were to be told so far stays where they are told
asked_either : (b : Bool) (n : ℕ) (v w : Work) → v.conn.renewal.asked ≡ n → w.conn.renewal.asked ≡ n → (if b then v else w).conn.renewal.asked ≡ n
asked_either true n v w h k = h
asked_either false n v w h k = k

told_asked : (w : Work) (life : Life) (cs : List Credentials) → (renewal_moved w life cs).conn.renewal.asked ≡ w.conn.renewal.asked
told_asked w Resting cs = refl
told_asked w Dialing cs = refl
told_asked w (Wanting link) cs = refl
told_asked w (SettingUp link greeting) cs = refl
told_asked w (Ended x) cs = refl
told_asked w (Ready link) [] = refl
told_asked w (Ready link) (c ∷ cs) = asked_either (holds_back link) w.conn.renewal.asked w (renewal_told w link c cs) refl refl

-- the first of them are told behind those before them
abbrev told_behind : Work → Work
told_behind w = let ahead = started_ahead (renewal_asked w) in renewal_moved ahead ahead.conn.life ahead.conn.renewal.waiting

abbrev pub is_to_renew : Work → Bool
is_to_renew w = is_ready w.conn.life && is_due w.conn.renewal

told_rises : (w : Work) → count (started_ahead (renewal_asked w)) ≤ count (told_behind w)
told_rises w = let ahead = started_ahead (renewal_asked w) in renewal_moved_rises ahead ahead.conn.life ahead.conn.renewal.waiting refl

renewed_rises : (w : Work) → count w ≤ count (renewed w)
renewed_rises w =
    let same = renewal_asked_count w in
    rises_either (is_to_renew w) (count w) (told_behind w) w (omega (arith, same, ahead_rises (renewal_asked w), told_rises w)) (le_refl (count w))

-- what is used up when their timer is asked for is used up when they are told
pub spent_asked : (w : Work) → is_to_renew w ≡ true → uses_up (renewal_asked w) ≡ true → uses_up (renewed w) ≡ true
spent_asked w is h =
    let asked = renewal_asked w in
    let ahead = started_ahead asked in
    subst (λ (x : Work). uses_up x ≡ true) (sym (taken_if (is_to_renew w) (told_behind w) w is))
    (uses_more asked (told_behind w) (omega (arith, ahead_rises asked, told_rises w))
    (told_asked ahead ahead.conn.life ahead.conn.renewal.waiting ∙ ap (λ (r : Renewal). r.asked) (ahead_kept asked)) h)

-- what is used up when all is subscribed again is used up when the driver has said what it has to
pub spent_repeated : (w : Work) → is_spent_in (repeated w).conn.life ≡ true → uses_up (said w) ≡ true
spent_repeated w h =
    let v = repeated w in
    either_left (runs_out (said w)) (renewals_run_out (said w)) (past (count v) (count (said w)) (renewed_rises v) h)

-- what is used up when requests were moved is used up when rounds have begun
pub spent_moved : (w : Work) → uses_up (moved_all w) ≡ true → uses_up (passed w) ≡ true
spent_moved w h =
    let v = moved_all w in
    let same = begun_count v in
    uses_more v (rounds_begun v) (omega (arith, same)) (ap (λ (r : Renewal). r.asked) (begun_kept v)) h

wait_count : (w : Work) (p : ℕ) (kind : Option WaitKind) → count (wait_shown w p kind) ≡ count w
wait_count w p None = refl
wait_count w p (Some kind) = refl

moved_each_count : (w : Work) (ps : List ℕ) → count (moved_each_shown w ps) ≡ count w
moved_each_count w [] = refl
moved_each_count w (p ∷ ps) = moved_each_count (wait_shown w p (moved_wait w.conn p)) ps ∙ wait_count w p (moved_wait w.conn p)

fresh_each_count : (w : Work) (ps : List ℕ) → count (fresh_each_shown w ps) ≡ count w
fresh_each_count w [] = refl
fresh_each_count w (p ∷ ps) = fresh_each_count (wait_shown w p (fresh_wait w.conn p)) ps ∙ wait_count w p (fresh_wait w.conn p)

moved_count : (w : Work) → count (moved_shown w) ≡ count w
moved_count w = moved_each_count (record w { conn = record w.conn { moved = [] } }) w.conn.moved

fresh_count : (w : Work) → count (fresh_shown w) ≡ count w
fresh_count w = fresh_each_count (record w { conn = record w.conn { fresh = [] } }) w.conn.fresh

written_count : (w : Work) (life : Life) → w.conn.life ≡ life → count (written_at w life) ≡ count w
written_count w Resting e = refl
written_count w Dialing e = refl
written_count w (Wanting link) e = refl
written_count w (Ended x) e = refl
written_count w (SettingUp link greeting) e = let from : count w ≡ link.started = ap started_in e in count_either (can_offer link.outbox) (count w) _ w (sym from) refl
written_count w (Ready link) e = let from : count w ≡ link.started = ap started_in e in count_either (can_offer link.outbox) (count w) _ w (sym from) refl

-- what a turn ends with starts nothing
pub flushed_count : (w : Work) → count (flushed w) ≡ count w
flushed_count w = fresh_count (moved_shown (written w)) ∙ moved_count (written w) ∙ written_count w w.conn.life refl

-- what a turn ends with leaves numbers that have run out
pub spent_flushed : (w : Work) → uses_up w ≡ true → uses_up (flushed w) ≡ true
spent_flushed w h = let same = flushed_count w in uses_more w (flushed w) (omega (arith, same)) (ap (λ (r : Renewal). r.asked) (flushed_kept w)) h

-- a number that runs out has run out at the end of the turn
pub spent_turn : (w : Work) (news : News) → uses_up (passed (applied w news)) ≡ true → uses_up (stepped w news) ≡ true
spent_turn w news h = spent_flushed (passed (applied w news)) h
