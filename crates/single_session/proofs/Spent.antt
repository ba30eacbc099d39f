-- A number that has run out in the passes has run out in the turn; and what a turn leaves.
use Rattle.std.proofs.Common.{◌≡◌, ◌⊎◌, inl, inr, ℕ, ◌+◌, ◌==◌, ◌^◌, ◌<◌, ◌≤◌, nat_le, ◌||◌, List, [], Bool, true, false, Option, Some, None, Ok, Err, refl, sym, ap, subst, ◌∙◌, arith, length, length-append}
use Rattle.std.specs.Prelude.{Result, IsErrOf, is_some, slice_get}
use Rattle.std.proofs.lemmas.Bool.Decides.{nat_tests}
use Rattle.containers.proofs.Choices.{chosen, or_left, or_right}
use Rattle.driver_model.specs.declared.action.Owner.TheVariants as owner
use Rattle.driver_model.specs.declared.action.Purpose.{Purpose}
use Rattle.driver_model.specs.declared.action.Purpose.TheVariants as purpose
use Rattle.driver_model.specs.declared.event.EventKind.TheVariants as event
use Rattle.driver_model.specs.declared.event.Submission.{Submission}
use Rattle.driver_model.specs.Kind.{has_timeouts}
use Rattle.driver_model.specs.Request.{packed_bytes, lacks_resp3}
use Rattle.mux_conn.specs.declared.act.LinkAct.{LinkAct}
use Rattle.mux_conn.specs.declared.request.Pending.{Pending}
use Rattle.driver_model.specs.declared.event.EventKind.{EventKind}
use Rattle.mux_conn.specs.declared.errors.ConnectionError.{ConnectionError}
use Rattle.mux_conn.specs.Connection.{work_with, is_used_up, uses_up}
use Rattle.mux_conn.specs.Passes.{passed}
use Rattle.mux_conn.proofs.Spent.{spent_flushed}
use Rattle.single_session.specs.declared.core_state.Core.{Core}
use Rattle.single_session.specs.declared.generations.Generations.{Generations}
use Rattle.single_session.specs.Generations.{has_ended, wakes_in, heeding, came_back, AreFew, IsCounted, IsShowable, bound_of}
use Rattle.single_session.specs.Turn.{Turning, work_of, counted, heard, submitted, left_by, late_by, fired_by, timed_by, requested, passed_by, flushed_on, flushed_apart, own_part, come_back_behind, ended_apart, ended_as, comeback_as, timers_of, sources_of, numbered, next_turn, comeback_by, has_run_out}
use Rattle.single_session.proofs.Comebacks.{SameSettings, settings_same, settings_then, came_kept, came_settings, own_settings, same_bound, Suits, suits_in, used_stays, counted_heeding, counted_came, more_timers, showable}

or_true : (a b : Bool) → a ≡ true → (a || b) ≡ true
or_true true b h = refl
or_true false b h = cc

or_second : (a b : Bool) → b ≡ true → (a || b) ≡ true
or_second true b h = refl
or_second false b h = h

lower : (n : ℕ) → nat_le (2 ^ 32) n ≡ false → n < 2 ^ 32
lower n h = grind (arith, nat_tests, h)

-- what has room in a state in which no number has run out
pub record HasRoom (c : Core) : Type 0 where
  pub links : c.links < 2 ^ 32
  pub table : length c.table < 2 ^ 32
  pub timers : length c.timers < 2 ^ 32
  pub sources : length c.sources < 2 ^ 32

pub has_room : (c : Core) → has_run_out c ≡ false → HasRoom c
unfolding has_run_out
has_room c h =
    let links = nat_le (2 ^ 32) c.links in
    let used = is_used_up c.single.connection in
    let table = nat_le (2 ^ 32) (length c.table) in
    let timers = nat_le (2 ^ 32) (length c.timers) in
    let sources = nat_le (2 ^ 32) (length c.sources) in
    let first = or_right links (used || (table || (timers || sources))) h in
    let second = or_right used (table || (timers || sources)) first in
    let third = or_right table (timers || sources) second in
    record {
      links = lower c.links (or_left links (used || (table || (timers || sources))) h);
      table = lower (length c.table) (or_left table (timers || sources) second);
      timers = lower (length c.timers) (or_left timers sources third);
      sources = lower (length c.sources) (or_right timers sources third);
    }

-- a state in which no number has run out has room for one more submission
pub room_left : (c : Core) → has_run_out c ≡ false → length c.table < 2 ^ 32
room_left c h = (has_room c h).table

used_out : (c : Core) → is_used_up c.single.connection ≡ true → has_run_out c ≡ true
unfolding has_run_out
used_out c h = or_second (nat_le (2 ^ 32) c.links) _ (or_true (is_used_up c.single.connection) _ h)

abbrev error_in : {T E : Type 0} → E → Result T E → E
error_in d (Ok x) = d
error_in d (Err e) = e

-- the error of a call is that of the turn which answers it
pub same_error : {T U E : Type 0} (d e : E) → IsErrOf {T = T} (Err d) e → IsErrOf {T = U} (Err d) e
same_error d e is = ap Err (ap (error_in d) is)

pub none_spent : (failure : Option ConnectionError) (e : ConnectionError) → failure ≡ None → failure ≡ Some e → ⊥
none_spent failure e none some = let no : ◌≡◌ {A = Option ConnectionError} None (Some e) = sym none ∙ some in cc

-- of a connection that hasn't failed
pub spent_in_run : (t u v : Turning) (kind : EventKind) (failure : Option ConnectionError) (e : ConnectionError) → u ≡ heard t kind → v ≡ requested u kind → failure ≡ None
    → (failure ≡ Some e) ⊎ (uses_up (passed (work_of v)) ≡ true) → is_used_up (passed_by t kind).core.single.connection ≡ true
spent_in_run t u v kind failure e first second none (inl some) = absurd (none_spent failure e none some)
spent_in_run t u v kind failure e first second none (inr spent) =
    subst (λ (x : Turning). uses_up (passed (work_of x)) ≡ true) (second ∙ ap (λ (x : Turning). requested x kind) first) spent

-- no timer and no source of credentials was given a number, and the links and the generations are the same
pub record SameNumbers (u t : Turning) : Type 0 where
  pub link : u.core.single.link ≡ t.core.single.link
  pub links : u.core.links ≡ t.core.links
  pub manager : u.core.manager ≡ t.core.manager
  pub timers : u.core.timers ≡ t.core.timers
  pub sources : u.core.sources ≡ t.core.sources

same_numbers : (t : Turning) → SameNumbers t t
same_numbers t = record { link = refl; links = refl; manager = refl; timers = refl; sources = refl }

-- to be answered within its time, or to leave, gives no number
late_numbers : (t : Turning) (slot : Option (Option Pending)) → SameNumbers (late_by t slot) t
late_numbers t None = same_numbers t
late_numbers t (Some None) = same_numbers t
late_numbers t (Some (Some p)) = record { link = refl; links = refl; manager = refl; timers = refl; sources = refl }

fired_numbers : (t : Turning) (slot : Option Purpose) → SameNumbers (fired_by t slot) t
fired_numbers t None = same_numbers t
fired_numbers t (Some (purpose.Connect l)) = same_numbers t
fired_numbers t (Some (purpose.Response owner.Setup)) = same_numbers t
fired_numbers t (Some (purpose.Response owner.Auth)) = same_numbers t
fired_numbers t (Some (purpose.Response owner.Resub)) = same_numbers t
fired_numbers t (Some (purpose.Response owner.Monitor)) = same_numbers t
fired_numbers t (Some (purpose.Renewal l k)) = same_numbers t
fired_numbers t (Some (purpose.Backoff g)) = same_numbers t
fired_numbers t (Some (purpose.Resubscription l)) = same_numbers t
fired_numbers t (Some (purpose.Response (owner.Try n round))) = late_numbers t (slice_get t.core.table n)

left_numbers : (t : Turning) (slot : Option (Option Pending)) → SameNumbers (left_by t slot) t
left_numbers t None = same_numbers t
left_numbers t (Some None) = same_numbers t
left_numbers t (Some (Some p)) = record { link = refl; links = refl; manager = refl; timers = refl; sources = refl }

submitted_numbers : (t : Turning) (what : Submission) → SameNumbers (submitted t what) t
submitted_numbers t what =
    chosen (λ (x : Turning). SameNumbers x t) t.core.shut _ _ (λ _. record { link = refl; links = refl; manager = refl; timers = refl; sources = refl })
    (λ _. chosen (λ (x : Turning). SameNumbers x t) (lacks_resp3 t.core.single.connection.hears t.core.single.connection.info.protocol what) _ _ (λ _. record { link = refl; links = refl; manager = refl; timers = refl; sources = refl })
    (λ _. chosen (λ (x : Turning). SameNumbers x t) (length (packed_bytes what) == 0) _ _ (λ _. record { link = refl; links = refl; manager = refl; timers = refl; sources = refl }) (λ _. record { link = refl; links = refl; manager = refl; timers = refl; sources = refl })))

timed_numbers : (t : Turning) (ms : Option ℕ) → SameNumbers (record t { core = timed_by t.core ms }) t
timed_numbers t ms =
    chosen (λ (c : Core). SameNumbers (record t { core = c }) t) (has_timeouts t.core.kind) (record t.core { timeout = ms }) t.core
    (λ _. record { link = refl; links = refl; manager = refl; timers = refl; sources = refl }) (λ _. record { link = refl; links = refl; manager = refl; timers = refl; sources = refl })

requested_numbers : (t : Turning) (kind : EventKind) → SameNumbers (requested t kind) t
requested_numbers t (event.Submit what) = submitted_numbers t what
requested_numbers t (event.Cancel n) = left_numbers t (slice_get t.core.table n)
requested_numbers t (event.Connected l) = same_numbers t
requested_numbers t (event.Refused l f) = same_numbers t
requested_numbers t (event.Fired n) = fired_numbers t (slice_get t.core.timers n)
requested_numbers t (event.Timeout ms) = timed_numbers t ms
requested_numbers t (event.Creds c auth) = same_numbers t
requested_numbers t (event.CredsError c text) = same_numbers t
requested_numbers t (event.CredsEnd c) = same_numbers t
requested_numbers t (event.Wrote l count) = same_numbers t
requested_numbers t (event.Bytes l piece) = same_numbers t
requested_numbers t (event.Ended l) = same_numbers t
requested_numbers t (event.ReadFault l kind) = same_numbers t
requested_numbers t (event.WriteFault l kind) = same_numbers t
requested_numbers t event.DropStream = same_numbers t
requested_numbers t event.Shutdown = same_numbers t

-- until its end a turn leaves the links, the generations, the timers and the sources
pub passed_same : (t : Turning) (kind : EventKind) → SameNumbers (passed_by t kind) t
passed_same t kind =
    let s = requested_numbers (heard t kind) kind in
    record { link = s.link; links = s.links; manager = s.manager; timers = s.timers; sources = s.sources }

-- so it has as many generations as before
pub counted_passed : (t : Turning) (kind : EventKind) → IsCounted t.core → IsCounted (passed_by t kind).core
counted_passed t kind few =
    let s = passed_same t kind in
    subst (λ m. AreFew m (passed_by t kind).core.single.link (passed_by t kind).core.links) (sym s.manager)
    (subst (λ l. AreFew t.core.manager l (passed_by t kind).core.links) (sym s.link) (subst (λ l. AreFew t.core.manager t.core.single.link l) (sym s.links) few))

-- behind what was moved
own_suits : (t : Turning) (over : Bool) (kind : EventKind) → Suits (heeding t.core kind t.acts).manager (heeding t.core kind t.acts) (own_part t over kind)
own_suits t over kind = let h = heeding t.core kind t.acts in suits_in h.manager (wakes_in t.core.manager kind) over h t.acts

apart_counted : (t : Turning) (over : Bool) (kind : EventKind) → IsCounted t.core → IsCounted (ended_apart t over kind).core
apart_counted t over kind few =
    let h = heeding t.core kind t.acts in
    counted_came h (own_part t over kind) (counted_heeding t.core kind t.acts few) (own_suits t over kind)

ended_counted : (managed over : Bool) (t : Turning) (kind : EventKind) → IsCounted t.core → IsCounted (ended_as managed t over kind).core
ended_counted managed over t kind few =
    chosen (λ (x : Turning). IsCounted x.core) managed (ended_apart (numbered t) over kind) (numbered (flushed_on t)) (λ _. apart_counted (numbered t) over kind few) (λ _. few)

-- a turn has no more generations and failed attempts than links
pub counted_turn : (c : Core) (kind : EventKind) → IsCounted c → IsCounted (next_turn c kind).core
unfolding next_turn
counted_turn c kind few =
    ended_counted (is_some c.manager) (has_ended c.single.connection.life) (passed_by (counted c) kind) kind (counted_passed (counted c) kind few)

-- a turn gives numbers to the timers and the sources of its acts
record AreGiven (d t : Turning) : Type 0 where
  timers : length t.core.timers + length (timers_of t.core.single.link d.acts) ≤ length d.core.timers
  sources : length t.core.sources + length (sources_of t.core.single.link d.acts) ≤ length d.core.sources

numbered_given : (t : Turning) → AreGiven (numbered t) t
numbered_given t = record {
  timers = omega (arith, length-append t.core.timers (timers_of t.core.single.link t.acts));
  sources = omega (arith, length-append t.core.sources (sources_of t.core.single.link t.acts));
}

apart_given : (t : Turning) (over : Bool) (kind : EventKind) → AreGiven (ended_apart (numbered t) over kind) t
apart_given t over kind =
    let n = numbered t in
    let h = heeding n.core kind n.acts in
    let what = own_part n over kind in
    let given = numbered_given t in
    let more = more_timers h what in
    let sources : length (came_back h what).sources ≡ length n.core.sources = ap length (came_kept h what).sources in
    record { timers = omega (arith, given.timers, more); sources = omega (arith, given.sources, sources) }

flushed_given : (t : Turning) → AreGiven (numbered (flushed_on t)) t
flushed_given t = record {
  timers = omega (arith, length-append t.core.timers (timers_of t.core.single.link (flushed_on t).acts));
  sources = omega (arith, length-append t.core.sources (sources_of t.core.single.link (flushed_on t).acts));
}

turn_given : (managed over : Bool) (t : Turning) (kind : EventKind) → AreGiven (ended_as managed t over kind) t
turn_given managed over t kind =
    chosen (λ (x : Turning). AreGiven x t) managed (ended_apart (numbered t) over kind) (numbered (flushed_on t)) (λ _. apart_given t over kind) (λ _. flushed_given t)

-- so each of its timers has one
pub few_in_turn : (c d : Core) (kind : EventKind) (acts : List LinkAct) → ◌≡◌ {A = Turning} (record { core = d; acts = acts }) (next_turn c kind) → has_run_out d ≡ false → length c.timers + length (timers_of c.single.link acts) < 2 ^ 32
unfolding next_turn
few_in_turn c d kind acts is free =
    let t = passed_by (counted c) kind in
    let s = passed_same (counted c) kind in
    let given = subst (λ (x : Turning). AreGiven x t) (sym is) (turn_given (is_some c.manager) (has_ended c.single.connection.life) t kind) in
    let m : length (timers_of t.core.single.link acts) ≡ length (timers_of c.single.link acts) = ap (λ (l : ℕ). length (timers_of l acts)) s.link in
    let k : length t.core.timers ≡ length c.timers = ap length s.timers in
    let room = (has_room d free).timers in
    omega (arith, given.timers, m, k, room)

-- and each of its sources
pub few_sources_in_turn : (c d : Core) (kind : EventKind) (acts : List LinkAct) → ◌≡◌ {A = Turning} (record { core = d; acts = acts }) (next_turn c kind) → has_run_out d ≡ false
    → length c.sources + length (sources_of c.single.link acts) < 2 ^ 32
unfolding next_turn
few_sources_in_turn c d kind acts is free =
    let t = passed_by (counted c) kind in
    let s = passed_same (counted c) kind in
    let given = subst (λ (x : Turning). AreGiven x t) (sym is) (turn_given (is_some c.manager) (has_ended c.single.connection.life) t kind) in
    let m : length (sources_of t.core.single.link acts) ≡ length (sources_of c.single.link acts) = ap (λ (l : ℕ). length (sources_of l acts)) s.link in
    let k : length t.core.sources ≡ length c.sources = ap length s.sources in
    let room = (has_room d free).sources in
    omega (arith, given.sources, m, k, room)

-- what has run out in the passes has run out at the end of the turn
apart_spent : (t : Turning) (over : Bool) (kind : EventKind) → is_used_up t.core.single.connection ≡ true → has_run_out (ended_apart t over kind).core ≡ true
apart_spent t over kind used =
    let h = heeding t.core kind t.acts in
    let stays : come_back_behind t over kind ≡ h = ap (came_back h) (used_stays h.manager (wakes_in t.core.manager kind) over h t.acts used) in
    used_out (ended_apart t over kind).core (subst (λ (c : Core). uses_up (flushed_apart c) ≡ true) (sym stays) (spent_flushed (work_with h.single.connection []) used))

flushed_spent : (t : Turning) → is_used_up t.core.single.connection ≡ true → has_run_out (numbered (flushed_on t)).core ≡ true
flushed_spent t used = used_out (numbered (flushed_on t)).core (spent_flushed (work_of t) used)

pub spent_next : (c : Core) (kind : EventKind) → is_used_up (passed_by (counted c) kind).core.single.connection ≡ true → has_run_out (next_turn c kind).core ≡ true
unfolding next_turn
spent_next c kind used =
    let t = passed_by (counted c) kind in
    let over = has_ended c.single.connection.life in
    chosen (λ (x : Turning). has_run_out x.core ≡ true) (is_some c.manager) (ended_apart (numbered t) over kind) (numbered (flushed_on t)) (λ _. apart_spent (numbered t) over kind used) (λ _. flushed_spent t used)

-- what a manager does of its own in a turn that isn't spent is shown with numbers that there are
shown_apart : (t : Turning) (over : Bool) (kind : EventKind) → IsCounted t.core → has_run_out (ended_apart t over kind).core ≡ false → IsShowable (bound_of (ended_apart t over kind).core.manager) (own_part t over kind)
shown_apart t over kind few free =
    let h = heeding t.core kind t.acts in
    let what = own_part t over kind in
    let room = has_room (ended_apart t over kind).core free in
    subst (λ b. IsShowable b what) (sym (same_bound (came_back h what).manager h.manager (came_settings h what)))
    (showable h what (counted_heeding t.core kind t.acts few) (own_suits t over kind) room.links room.timers)

showable_as : (managed over : Bool) (t : Turning) (kind : EventKind) → IsCounted t.core → has_run_out (ended_as managed t over kind).core ≡ false → IsShowable (bound_of (ended_as managed t over kind).core.manager) (comeback_as managed t over kind)
showable_as true over t kind few free = shown_apart (numbered t) over kind few free
showable_as false over t kind few free = tt

pub showable_turn : (c : Core) (kind : EventKind) → IsCounted c → has_run_out (next_turn c kind).core ≡ false → IsShowable (bound_of (next_turn c kind).core.manager) (comeback_by c kind)
unfolding next_turn comeback_by
showable_turn c kind few free = showable_as (is_some c.manager) (has_ended c.single.connection.life) (passed_by (counted c) kind) kind (counted_passed (counted c) kind few) free

-- a manager stays one, that behaves the same
apart_settings : (t : Turning) (over : Bool) (kind : EventKind) → SameSettings (ended_apart t over kind).core.manager t.core.manager
apart_settings t over kind = own_settings t.core kind t.acts (own_part t over kind)

equal_settings : (m n : Option Generations) → m ≡ n → SameSettings m n
equal_settings m n e = subst (λ x. SameSettings m x) e (settings_same m)

pub turn_settings : (c : Core) (kind : EventKind) → SameSettings (next_turn c kind).core.manager c.manager
unfolding next_turn
turn_settings c kind =
    let t = passed_by (counted c) kind in
    let over = has_ended c.single.connection.life in
    let s = equal_settings t.core.manager c.manager (passed_same (counted c) kind).manager in
    chosen (λ (x : Turning). SameSettings x.core.manager c.manager) (is_some c.manager) (ended_apart (numbered t) over kind) (numbered (flushed_on t))
    (λ _. settings_then (ended_apart (numbered t) over kind).core.manager t.core.manager c.manager (apart_settings (numbered t) over kind) s) (λ _. s)
