-- What moves requests, and what ends a turn, shows acts behind those that were shown, and leaves whether the link is ready.
use Rattle.std.proofs.Common.{◌≡◌, ℕ, ◌&&◌, List, [], ◌∷◌, ◌++◌, Option, Some, None, refl, sym, ap, ◌∙◌, append_assoc}
use Rattle.std.proofs.lemmas.List.{append-nil}
use Rattle.containers.proofs.Choices.{chosen}
use Rattle.resp_value.specs.declared.value.Value.TheVariants.{Nil}
use Rattle.driver_model.specs.declared.action.WaitKind.{WaitKind}
use Rattle.driver_model.specs.declared.outcome.Outcome.{Outcome}
use Rattle.driver_model.specs.declared.outcome.Outcome.TheVariants as outcome
use Rattle.link_core.specs.declared.message.Started.{Started}
use Rattle.link_core.specs.Link.{offered_of, started_all}
use Rattle.link_core.specs.Outbox.{can_offer}
use Rattle.mux_conn.specs.declared.act.LinkAct.{LinkAct}
use Rattle.mux_conn.specs.declared.act.LinkAct.TheVariants as act
use Rattle.mux_conn.specs.declared.life.Greeting.{Greeting}
use Rattle.mux_conn.specs.declared.life.Life.{Life}
use Rattle.mux_conn.specs.declared.life.Life.TheVariants.{Resting, Dialing, Wanting, SettingUp, Ready, Ended}
use Rattle.mux_conn.specs.declared.request.Progress.TheVariants as progress
use Rattle.mux_conn.specs.declared.request.Waiting.{Waiting}
use Rattle.mux_conn.specs.Connection.{Work, acted, admits_none, has_room, is_ready, is_serving, with_link, with_setup}
use Rattle.mux_conn.specs.Passes.{admitted, admitted_all, admitted_at, admitted_each, greeted_each, greeting_act, holding, let_in, moved_up, moved_up_all, moved_up_each, passed, permits_taken, placed_at, put_behind, round_begun, rounds_of, said, seated, seated_or_behind, started, started_at, still_admitted, still_waiting, timer_asked, told_at_place, took, took_shown}
use Rattle.mux_conn.specs.Requests.{answered, closed, is_admitted_at, is_open_at, is_unbegun_at, is_waiting_at, name_at, progressed}
use Rattle.mux_conn.specs.Starts.{shown_each}
use Rattle.mux_conn.specs.Turn.{flushed, fresh_each_shown, fresh_wait, moved_each_shown, moved_shown, moved_wait, wait_shown, written, written_at}

-- these acts more, and a link that is ready where it was
pub record Adds (w v : Work) : Type 0 where
  pub more : List LinkAct
  pub acts : v.acts ≡ w.acts ++ more
  pub ready : is_ready v.conn.life ≡ is_ready w.conn.life

-- none
adds_none : (w v : Work) → v.acts ≡ w.acts → is_ready v.conn.life ≡ is_ready w.conn.life → Adds w v
adds_none w v same ready = record { more = []; acts = same ∙ sym (append-nil w.acts); ready = ready }

-- one
adds_one : (w v : Work) (a : LinkAct) → v.acts ≡ w.acts ++ a ∷ [] → is_ready v.conn.life ≡ is_ready w.conn.life → Adds w v
adds_one w v a same ready = record { more = a ∷ []; acts = same; ready = ready }

-- one after another
adds_on : (u v w : Work) → Adds u v → Adds v w → Adds u w
adds_on u v w h k = record { more = h.more ++ k.more; acts = k.acts ∙ ap (λ xs. xs ++ k.more) h.acts ∙ append_assoc u.acts h.more k.more; ready = k.ready ∙ h.ready }

-- starts
shown_adds : (w : Work) (ss : List Started) → Adds w (shown_each w ss)
shown_adds w [] = adds_none w w refl refl
shown_adds w (s ∷ ss) =
    let a = act.Start s.msg (name_at w.conn.requests s.id) s.need s.len in
    adds_on w (acted w a) (shown_each (acted w a) ss) (adds_one w (acted w a) a refl refl) (shown_adds (acted w a) ss)

greeted_adds : (w : Work) (greeting : Greeting) (ss : List Started) → Adds w (greeted_each w greeting ss)
greeted_adds w greeting [] = adds_none w w refl refl
greeted_adds w greeting (s ∷ ss) =
    let a = greeting_act greeting s in
    adds_on w (acted w a) (greeted_each (acted w a) greeting ss) (adds_one w (acted w a) a refl refl) (greeted_adds (acted w a) greeting ss)

started_adds : (w : Work) (life : Life) → w.conn.life ≡ life → Adds w (started_at w life)
started_adds w (Ready link) e =
    let s = started_all (record { link = link; out = [] }) in
    adds_on w (with_link w s.link) (shown_each (with_link w s.link) s.out) (adds_none w (with_link w s.link) refl (sym (ap is_ready e))) (shown_adds (with_link w s.link) s.out)
started_adds w (SettingUp link greeting) e =
    let s = started_all (record { link = link; out = [] }) in
    adds_on w (with_setup w s.link greeting) (greeted_each (with_setup w s.link greeting) greeting s.out) (adds_none w (with_setup w s.link greeting) refl (sym (ap is_ready e))) (greeted_adds (with_setup w s.link greeting) greeting s.out)
started_adds w Resting e = adds_none w w refl refl
started_adds w Dialing e = adds_none w w refl refl
started_adds w (Wanting link) e = adds_none w w refl refl
started_adds w (Ended x) e = adds_none w w refl refl

-- an answer
answered_adds : (w : Work) (p : ℕ) (o : Outcome) → Adds w (answered w p o)
answered_adds w p o =
    let a = act.Outcome (name_at w.conn.requests p) o in
    let v = acted (record w { conn = closed w.conn p }) a in
    chosen (Adds w) (is_open_at w.conn.requests p) v w (λ t. adds_one w v a refl refl) (λ f. adds_none w w refl refl)

told_adds : (w : Work) (q : Waiting) → Adds w (told_at_place w q)
told_adds w q = chosen (Adds w) q.awaited w (answered w q.number (outcome.One Nil)) (λ t. adds_none w w refl refl) (λ f. answered_adds w q.number (outcome.One Nil))

-- a place
placed_adds : (w : Work) (q : Waiting) (life : Life) → w.conn.life ≡ life → Adds w (placed_at w q life)
placed_adds w q (Ready link) e = adds_none w (placed_at w q (Ready link)) refl (sym (ap is_ready e))
placed_adds w q Resting e = adds_none w w refl refl
placed_adds w q Dialing e = adds_none w w refl refl
placed_adds w q (Wanting link) e = adds_none w w refl refl
placed_adds w q (SettingUp link greeting) e = adds_none w w refl refl
placed_adds w q (Ended x) e = adds_none w w refl refl

seated_adds : (w : Work) (q : Waiting) → Adds w (seated w q)
seated_adds w q =
    let v = placed_at w q w.conn.life in
    let u = told_at_place v q in
    adds_on w v (started u) (placed_adds w q w.conn.life refl) (adds_on v u (started u) (told_adds v q) (started_adds u u.conn.life refl))

-- those that wait for one
moved_up_adds : (w : Work) (q : Waiting) → Adds w (moved_up w q)
moved_up_adds w q = chosen (Adds w) (is_admitted_at w.conn.requests q.number) (seated w q) w (λ t. seated_adds w q) (λ f. adds_none w w refl refl)

up_each_adds : (w : Work) (qs : List Waiting) → Adds w (moved_up_each w qs)
up_each_adds w [] = adds_none w (still_admitted w []) refl refl
up_each_adds w (q ∷ qs) = chosen (Adds w) (has_room w.conn) (moved_up_each (moved_up w q) qs) (still_admitted w (q ∷ qs))
    (λ t. adds_on w (moved_up w q) (moved_up_each (moved_up w q) qs) (moved_up_adds w q) (up_each_adds (moved_up w q) qs))
    (λ f. adds_none w (still_admitted w (q ∷ qs)) refl refl)

behind_adds : (w : Work) (q : Waiting) → Adds w (seated_or_behind w q)
behind_adds w q = chosen (Adds w) (has_room w.conn) (seated w q) (put_behind w q) (λ t. seated_adds w q) (λ f. adds_none w (put_behind w q) refl refl)

-- permits, and a timer
took_adds : (w v : Work) (p count : ℕ) (limit : Option ℕ) → Adds w v → Adds w (took_shown v p count limit)
took_adds w v p count None h = h
took_adds w v p count (Some limit) h = let a = act.Took (name_at v.conn.requests p) count in adds_on w v (acted v a) h (adds_one v (acted v a) a refl refl)

timer_adds : (w : Work) (p : ℕ) (timeout : Option ℕ) → Adds w (timer_asked w p timeout)
timer_adds w p None = adds_none w w refl refl
timer_adds w p (Some ms) = let a = act.Timer (name_at w.conn.requests p) ms in adds_one w (acted w a) a refl refl

let_in_adds : (w : Work) (q : Waiting) → Adds w (let_in w q)
let_in_adds w q =
    let count = permits_taken w.conn.limit w.conn.free q.shape in
    let held : Work = record w { conn = holding w.conn q.number count } in
    let v = took w q.number count in
    adds_on w v (let_in w q) (took_adds w held q.number count w.conn.limit (adds_none w held refl refl)) (timer_adds v q.number q.timeout)

-- a round
round_adds : (w : Work) (p : ℕ) → Adds w (round_begun w p)
round_adds w p =
    let a = act.Round (name_at w.conn.requests p) in
    let v = acted (progressed w p progress.Begun) a in
    chosen (Adds w) (w.conn.rounds && is_unbegun_at w.conn.requests p) v w (λ t. adds_one w v a refl refl) (λ f. adds_none w w refl refl)

rounds_adds : (w : Work) (ps : List ℕ) → Adds w (rounds_of w ps)
rounds_adds w [] = adds_none w w refl refl
rounds_adds w (p ∷ ps) = adds_on w (round_begun w p) (rounds_of (round_begun w p) ps) (round_adds w p) (rounds_adds (round_begun w p) ps)

-- those that wait for the connection
admitted_at_adds : (w : Work) (q : Waiting) (life : Life) → Adds w (admitted_at w q life)
admitted_at_adds w q (Ready link) =
    let v = round_begun w q.number in
    let u = let_in v q in
    adds_on w v (seated_or_behind u q) (round_adds w q.number) (adds_on v u (seated_or_behind u q) (let_in_adds v q) (behind_adds u q))
admitted_at_adds w q (Ended e) = answered_adds w q.number (outcome.Fault e)
admitted_at_adds w q Resting = adds_none w w refl refl
admitted_at_adds w q Dialing = adds_none w w refl refl
admitted_at_adds w q (Wanting link) = adds_none w w refl refl
admitted_at_adds w q (SettingUp link greeting) = adds_none w w refl refl

admitted_adds : (w : Work) (q : Waiting) → Adds w (admitted w q)
admitted_adds w q = chosen (Adds w) (is_waiting_at w.conn.requests q.number) (admitted_at w q w.conn.life) w (λ t. admitted_at_adds w q w.conn.life) (λ f. adds_none w w refl refl)

admitted_each_adds : (w : Work) (qs : List Waiting) → Adds w (admitted_each w qs)
admitted_each_adds w [] = adds_none w (still_waiting w []) refl refl
admitted_each_adds w (q ∷ qs) = chosen (Adds w) (admits_none w.conn) (still_waiting w (q ∷ qs)) (admitted_each (admitted w q) qs)
    (λ t. adds_none w (still_waiting w (q ∷ qs)) refl refl)
    (λ f. adds_on w (admitted w q) (admitted_each (admitted w q) qs) (admitted_adds w q) (admitted_each_adds (admitted w q) qs))

-- all that moves behind what the driver says itself
pub passed_adds : (w : Work) → Adds (said w) (passed w)
passed_adds w =
    let s = said w in
    let v = started s in
    let v0 = still_admitted v [] in
    let u = moved_up_all v in
    let u0 = still_waiting u [] in
    let m = admitted_all u in
    adds_on s v (passed w) (started_adds s s.conn.life refl)
    (adds_on v v0 (passed w) (adds_none v v0 refl refl)
    (adds_on v0 u (passed w) (up_each_adds v0 v.conn.admitted)
    (adds_on u u0 (passed w) (adds_none u u0 refl refl)
    (adds_on u0 m (passed w) (admitted_each_adds u0 u.conn.waiting)
    (chosen (Adds m) (m.conn.rounds && is_serving m.conn) (rounds_of m m.conn.fresh) m (λ t. rounds_adds m m.conn.fresh) (λ f. adds_none m m refl refl))))))

-- what ends a turn
wait_adds : (w : Work) (p : ℕ) (kind : Option WaitKind) → Adds w (wait_shown w p kind)
wait_adds w p None = adds_none w w refl refl
wait_adds w p (Some kind) = let a = act.Wait (name_at w.conn.requests p) kind in adds_one w (acted w a) a refl refl

moved_adds : (w : Work) (ps : List ℕ) → Adds w (moved_each_shown w ps)
moved_adds w [] = adds_none w w refl refl
moved_adds w (p ∷ ps) = let v = wait_shown w p (moved_wait w.conn p) in adds_on w v (moved_each_shown v ps) (wait_adds w p (moved_wait w.conn p)) (moved_adds v ps)

fresh_adds : (w : Work) (ps : List ℕ) → Adds w (fresh_each_shown w ps)
fresh_adds w [] = adds_none w w refl refl
fresh_adds w (p ∷ ps) = let v = wait_shown w p (fresh_wait w.conn p) in adds_on w v (fresh_each_shown v ps) (wait_adds w p (fresh_wait w.conn p)) (fresh_adds v ps)

written_adds : (w : Work) (life : Life) → w.conn.life ≡ life → Adds w (written_at w life)
written_adds w (Ready link) e = chosen (Adds w) (can_offer link.outbox) (acted (with_link w (offered_of link)) (act.Write link.outbox.unwritten)) w (λ t. record { more = act.Write link.outbox.unwritten ∷ []; acts = refl; ready = sym (ap is_ready e) }) (λ f. adds_none w w refl refl)
written_adds w (SettingUp link greeting) e = chosen (Adds w) (can_offer link.outbox) (acted (with_setup w (offered_of link) greeting) (act.Write link.outbox.unwritten)) w (λ t. record { more = act.Write link.outbox.unwritten ∷ []; acts = refl; ready = sym (ap is_ready e) }) (λ f. adds_none w w refl refl)
written_adds w Resting e = adds_none w w refl refl
written_adds w Dialing e = adds_none w w refl refl
written_adds w (Wanting link) e = adds_none w w refl refl
written_adds w (Ended x) e = adds_none w w refl refl

pub flushed_adds : (w : Work) → Adds w (flushed w)
flushed_adds w =
    let o = written w in
    let o0 : Work = record o { conn = record o.conn { moved = [] } } in
    let m = moved_shown o in
    let m0 : Work = record m { conn = record m.conn { fresh = [] } } in
    adds_on w o (flushed w) (written_adds w w.conn.life refl)
    (adds_on o o0 (flushed w) (adds_none o o0 refl refl)
    (adds_on o0 m (flushed w) (moved_adds o0 o.conn.moved)
    (adds_on m m0 (flushed w) (adds_none m m0 refl refl) (fresh_adds m0 m.conn.fresh))))
