-- How many stand in line before a submission, and so what its next step is.
use Rattle.std.proofs.Common.{List, [], ap, arith, false, inl, inr, length, refl, subst, sym, true, zero, suc, ℕ, ◌+◌, ◌++◌, ◌<◌, ◌≤◌, ◌∙◌, ◌∷◌, ◌≡◌, ◌≢◌}
use Rattle.std.proofs.Math.Bool.{and-false}
use Rattle.std.specs.Prelude.{Bool, Option, None, Some, is_none, is_some, if◌then◌else◌, min, not, nat_le, nat_lt, ◌==◌, ◌&&◌, ◌||◌}
use Rattle.containers.proofs.Choices.{both_left, both_right, eq_from, eq_test, le_from, le_test, left_if, not_le_from, not_le_test, taken_if}
use Rattle.driver_model.specs.Shape.{permits_for}
use Rattle.driver_model.specs.declared.action.Owner.{Owner}
use Rattle.driver_model.specs.declared.action.WaitKind.{WaitKind}
use Rattle.driver_model.specs.declared.action.WaitKind.TheVariants as wait
use Rattle.link_core.specs.Link.{LinkState, holds_back, is_full_beside}
use Rattle.link_laws.proofs.TiedLink.{TiedLink, unwritten_is}
use Rattle.mux_conn.specs.Connection.{has_no_permit, in_front, is_ready, is_outstanding}
use Rattle.mux_conn.specs.Requests.{is_admitted_at, is_open_at, is_unbegun_at, is_waiting_at, name_at}
use Rattle.mux_conn.specs.declared.life.Greeting.{Greeting}
use Rattle.mux_conn.specs.declared.life.Life.TheVariants.{Resting, Dialing, Ready, Wanting, SettingUp}
use Rattle.legal_trace.specs.Book.{Book, has_generations}
use Rattle.legal_trace.specs.Ledger.{dials, is_set_up, lacks_credentials, is_served}
use Rattle.legal_trace.specs.Steps.{Step, asks, free_permits, is_held, is_held_back, is_in_line, is_let_in, is_outside, line_before, next_step, permits_in, queue_size, renewals_in_line, starts_or_waits, rounds, step_holding, step_open, step_placed, step_ready, step_rounding, step_served, step_taking, step_timed, takes, tells, unready_wait, waits, step_down}
use Rattle.legal_trace.specs.Story.{Story, has_place, is_awaited, is_room, is_told, is_unstarted, shape}
use Rattle.conn_laws.proofs.Ties.Behind.{open_untold}
use Rattle.conn_laws.proofs.Links.Creds.{has_credentials, wanting_lacks}
use Rattle.conn_laws.proofs.Ties.InLine.{first_is_least, kept_ids, kept_in}
use Rattle.conn_laws.proofs.Ties.Moves.{open_unstarted, told_unstarted, or_true}
use Rattle.session_laws.proofs.Ties.Moves.{IsLater, later_of}
use Rattle.conn_laws.proofs.Ties.Names.{earlier_name, get_some, name_of_some, names_rise, open_within}
use Rattle.conn_laws.proofs.Ties.Numbers.{IsIn, Rising, in_left, in_right, rising_apart, rising_in, rising_right, requests_in}
use Rattle.session_laws.proofs.Ties.Owes.{later_unstarted, request_story, open_on, queue_on}
use Rattle.conn_laws.proofs.Requests.Rounded.{admitted_begun, placed_begun}
use Rattle.conn_laws.proofs.Changes.Requests.{unbegun_waits, waiting_open}
use Rattle.session_laws.proofs.Requests.Rounded.{has_begun}
use Rattle.conn_laws.proofs.Links.SetUp.{not_set_up, lacking_unset}
use Rattle.conn_laws.proofs.Ties.States.{IsFit}
use Rattle.conn_laws.proofs.Links.Server.{AreSought, HasSaid, TiedRenewal}
use Rattle.conn_laws.proofs.Ties.Tied.{TiedLife, link_in, owner_of, queue_ids, shown_wait, waiting_ids}
use Rattle.session_laws.proofs.Ties.Tied.{TurnState, Tied, TiedNumbers}
use Rattle.conn_laws.proofs.Internal.Repeats.{served_is}
use Rattle.conn_laws.proofs.Ties.Ahead.{HasSeats, admitted_open, dialing_dials, holding_next, line_least, line_most, line_next, names_from, names_in, names_length, names_of, names_rising, not_room, placed_open, queue_alive, queue_awaited, ready_alive, ready_is, ready_link, ready_repeated, ready_set, ready_up, rounded_next, timed_next, up_dials}
use Rattle.conn_laws.proofs.Internal.Renewals.{due_in_line}

-- names of requests
--
-- what stands before one of those behind rises up to it
rising_before : (lo : ℕ) (xs ys : List ℕ) (hi n : ℕ) → Rising lo (xs ++ ys) hi → IsIn n ys → Rising lo xs n
rising_before lo [] ys hi n h i = (rising_in lo ys hi n h i).0
rising_before lo (x ∷ xs) ys hi n h i = (h.0, rising_before (suc x) xs ys hi n h.1 i)

-- the step of a submission on a link that is up
--
-- a session whose messages may start: nothing is to be answered, and its link takes requests, with the queue and the boundary of its
-- connection; and who took a place in this turn, and is in the queue still, found one
pub record IsRunning (t : TurnState) : Type 0 where
  pub settled : t.pending ≡ []
  pub up : is_ready t.life ≡ true
  pub served : is_outstanding t.again ≡ false
  pub fit : IsFit t.size t.bound (link_in t.life)
  pub seats : HasSeats t.moved (in_front t.renewal) (link_in t.life) t.size

-- so it is where its link is fit
pub running_of : (t : TurnState) (link : LinkState) → t.pending ≡ [] → t.life ≡ Ready link → is_outstanding t.again ≡ false → IsFit t.size t.bound link → HasSeats t.moved (in_front t.renewal) link t.size → IsRunning t
running_of t link none life served fit seats = record {
  settled = none;
  up = ap is_ready life;
  served = served;
  fit = subst (IsFit t.size t.bound) (sym (ap link_in life)) fit;
  seats = subst (λ (x : LinkState). HasSeats t.moved (in_front t.renewal) x t.size) (sym (ap link_in life)) seats;
}

-- so the step is that of a link that is up and set up
pub up_step : (b : Book) (n : ℕ) → (b.link (b.story n).link).up ≡ true → is_set_up (b.link (b.story n).link) ≡ true → next_step b n ≡ step_ready b n (b.story n)
up_step b n up well =
    let s = b.story n in
    let l = b.link s.link in
    let step = step_ready b n s in
    let other : Step = if is_set_up l then step else waits (unready_wait l) in
    left_if (dials l) (waits wait.Connect) (if l.up then other else step_down l.asked) (up_dials l up) ∙ taken_if l.up other (step_down l.asked) up ∙ taken_if (is_set_up l) step (waits (unready_wait l)) well

-- and where it isn't set up, the submission waits for that, or for credentials
unready_step : (b : Book) (n : ℕ) → (b.link (b.story n).link).up ≡ true → is_set_up (b.link (b.story n).link) ≡ false → next_step b n ≡ waits (unready_wait (b.link (b.story n).link))
unready_step b n up unwell =
    let s = b.story n in
    let l = b.link s.link in
    let step = step_ready b n s in
    let other : Step = if is_set_up l then step else waits (unready_wait l) in
    left_if (dials l) (waits wait.Connect) (if l.up then other else step_down l.asked) (up_dials l up) ∙ taken_if l.up other (step_down l.asked) up ∙ left_if (is_set_up l) step (waits (unready_wait l)) unwell

-- the book has a link held back where the link is, by what it is tied by
pub held_by : (b : Book) (t : TurnState) (name : ℕ → Owner) (link : LinkState) → TiedNumbers b t → link.boundary ≡ t.bound → TiedLink name (b.link t.link) link → is_held_back b (b.link t.link) ≡ holds_back link
held_by b t name link h same tied =
    let l = b.link t.link in
    let bytes = unwritten_is name l link tied in
    (λ i. is_held (h.settings.bound_is i) l)
    ∙ (λ i. nat_lt 0 (length (bytes i)) && nat_le t.bound (length (bytes i)))
    ∙ (λ i. nat_lt 0 (length link.outbox.unwritten) && nat_le (sym same i) (length link.outbox.unwritten))

-- so the ledger says too whether it takes requests
pub takes_requests : (b : Book) (t : TurnState) → is_ready t.life ≡ true → Tied b t → is_served (b.link t.link) ≡ not (is_outstanding t.again)
takes_requests b t up h = let l = b.link t.link in served_is l b.tracked t.renewal.within t.again (ready_repeated l b.tracked t.renewal.within t.again t.life up h.repeat)

-- it is held back in the book where it is
pub held_is : (b : Book) (t : TurnState) → Tied b t → IsRunning t → is_held_back b (b.link t.link) ≡ holds_back (link_in t.life)
held_is b t h r = held_by b t (owner_of t.requests) (link_in t.life) h.numbers r.fit.bound_is (ready_link (b.link t.link) t.requests t.life r.up (h.link (ready_alive t.life r.up)))

-- the step of one whose round has begun, on the link of a session, where permits are counted so, and the link is held back or not
abbrev pub step_begun : Book → ℕ → Story → ℕ → Option ℕ → Bool → Step
step_begun b n s link limit held =
    step_holding limit s.permits (λ k. step_taking (free_permits b link k) (permits_for (shape s) k)) (step_timed s.timeout s.clock (step_placed (is_outside b n) (is_awaited s) held))

-- and of any submission
abbrev pub step_on : Book → ℕ → Story → ℕ → Option ℕ → Bool → Step
step_on b n s link limit held = step_open (is_told s) held (step_rounding (has_generations b) s.rounded (step_begun b n s link limit held))

-- the next step of a request
pub request_step : (b : Book) (t : TurnState) (p : ℕ) → Tied b t → IsRunning t → (b.story (name_at t.requests p)).link ≡ t.link
    → (let n = name_at t.requests p in next_step b n ≡ step_on b n (b.story n) t.link t.limit (holds_back (link_in t.life)))
request_step b t p h r on =
    let n = name_at t.requests p in
    let s = b.story n in
    let held : is_held_back b (b.link s.link) ≡ holds_back (link_in t.life) = ap (λ l. is_held_back b (b.link l)) on ∙ held_is b t h r in
    up_step b n (ap (λ l. (b.link l).up) on ∙ ready_up (b.link t.link) b.created t.life r.up h.life) (ap (λ l. is_set_up (b.link l)) on ∙ ready_set (b.link t.link) t.started t.life r.up h.setup.said)
    ∙ ap (λ served. step_served served (step_on b n s s.link (permits_in b.config) (is_held_back b (b.link s.link)))) (ap (λ l. is_served (b.link l)) on ∙ takes_requests b t r.up h ∙ ap not r.served)
    ∙ (λ i. step_on b n s (on i) (h.numbers.settings.limit_is i) (held i))

-- an open one is told nothing, and goes on
begun_step : (b : Book) (t : TurnState) (p : ℕ) → Tied b t → IsRunning t → (b.story (name_at t.requests p)).link ≡ t.link → is_told (b.story (name_at t.requests p)) ≡ false → (has_generations b ≡ true → (b.story (name_at t.requests p)).rounded ≡ true)
    → (let n = name_at t.requests p in next_step b n ≡ step_begun b n (b.story n) t.link t.limit (holds_back (link_in t.life)))
begun_step b t p h r on untold begun =
    let n = name_at t.requests p in
    let s = b.story n in
    let held = holds_back (link_in t.life) in
    let next = step_begun b n s t.link t.limit held in
    request_step b t p h r on ∙ ap (λ x. step_open x held (step_rounding (has_generations b) s.rounded next)) untold ∙ rounded_next (has_generations b) s.rounded next begun

-- so who was let in comes to its place
pub let_in_step : (b : Book) (t : TurnState) (p : ℕ) → Tied b t → IsRunning t → (b.story (name_at t.requests p)).link ≡ t.link → is_told (b.story (name_at t.requests p)) ≡ false → (has_generations b ≡ true → (b.story (name_at t.requests p)).rounded ≡ true) → is_let_in t.limit (b.story (name_at t.requests p)) ≡ true
    → (let n = name_at t.requests p in next_step b n ≡ step_placed (is_outside b n) (is_awaited (b.story n)) (holds_back (link_in t.life)))
let_in_step b t p h r on untold begun is =
    let n = name_at t.requests p in
    let s = b.story n in
    let held = holds_back (link_in t.life) in
    let seat = step_placed (is_outside b n) (is_awaited s) held in
    let timed = step_timed s.timeout s.clock seat in
    let taking : ℕ → Step = λ k. step_taking (free_permits b t.link k) (permits_for (shape s) k) in
    let has = is_none t.limit || nat_lt 0 s.permits in
    let asked = is_none s.timeout || is_some s.clock in
    begun_step b t p h r on untold begun
    ∙ holding_next t.limit s.permits taking timed (both_left has asked is)
    ∙ timed_next s.timeout s.clock seat (both_right has asked is)

-- of a session
pub due_in : (b : Book) (t : TurnState) (link : LinkState) → Tied b t → t.life ≡ Ready link → renewals_in_line (b.link t.link) ≡ in_front t.renewal
due_in b t link h e = due_in_line (b.link t.link) t.renewal (subst (TiedLife (b.link t.link) b.created) e h.life).1 (subst (TiedRenewal (b.link t.link) t.renewal) e h.renewal)

-- whether it stands outside, by the line before it
outside_is : (b : Book) (t : TurnState) (p : ℕ) → Tied b t → IsRunning t → (b.story (name_at t.requests p)).link ≡ t.link
    → is_outside b (name_at t.requests p) ≡ (not (has_place (b.story (name_at t.requests p))) && nat_le t.size (in_front t.renewal + line_before t.limit b.story t.link (name_at t.requests p)))
outside_is b t p h r on =
    let n = name_at t.requests p in
    let front : renewals_in_line (b.link (b.story n).link) ≡ in_front t.renewal = ap (λ l. renewals_in_line (b.link l)) on ∙ due_in b t (link_in t.life) h (ready_is t.life r.up) in
    λ i. not (has_place (b.story n)) && nat_le (h.numbers.settings.size_is i) (front i + line_before (h.numbers.settings.limit_is i) b.story (on i) n)

-- who has its place stands inside
placed_inside : (b : Book) (n : ℕ) → has_place (b.story n) ≡ true → is_outside b n ≡ false
placed_inside b n e =
    let more = nat_le (queue_size b) (renewals_in_line (b.link (b.story n).link) + line_before (permits_in b.config) b.story (b.story n).link n) in
    ap (λ x. not x && more) e

-- and so does who finds fewer before it than the queue holds
fewer_inside : (b : Book) (t : TurnState) (p : ℕ) → Tied b t → IsRunning t → (b.story (name_at t.requests p)).link ≡ t.link → in_front t.renewal + line_before t.limit b.story t.link (name_at t.requests p) < t.size → is_outside b (name_at t.requests p) ≡ false
fewer_inside b t p h r on few =
    let n = name_at t.requests p in
    outside_is b t p h r on ∙ ap (λ x. not (has_place (b.story n)) && x) (not_le_test t.size (in_front t.renewal + line_before t.limit b.story t.link n) few) ∙ and-false (not (has_place (b.story n)))

-- who has none is outside where there are as many
many_outside : (b : Book) (t : TurnState) (p : ℕ) → Tied b t → IsRunning t → (b.story (name_at t.requests p)).link ≡ t.link → has_place (b.story (name_at t.requests p)) ≡ false → t.size ≤ in_front t.renewal + line_before t.limit b.story t.link (name_at t.requests p)
    → is_outside b (name_at t.requests p) ≡ true
many_outside b t p h r on none many =
    let n = name_at t.requests p in
    let test = le_test t.size (in_front t.renewal + line_before t.limit b.story t.link n) many in
    outside_is b t p h r on ∙ (λ i. not (none i) && test i)

-- who stands in line for the link is still to start
line_later : (b : Book) (t : TurnState) (m : ℕ) → Tied b t → IsRunning t → is_in_line t.limit t.link (b.story m) ≡ true → IsLater t m
line_later b t m h r e =
    let s = b.story m in
    let may = is_told s || is_let_in t.limit s in
    later_of b t m h r.settled (ready_alive t.life r.up) (eq_from s.link t.link (both_left (s.link == t.link) (is_unstarted s && may) e)) (both_left (is_unstarted s) may (both_right (s.link == t.link) (is_unstarted s && may) e))

-- and the other way round, where it was told, or let in
later_line : (b : Book) (t : TurnState) (p : ℕ) → (b.story (name_at t.requests p)).link ≡ t.link → is_unstarted (b.story (name_at t.requests p)) ≡ true → (is_told (b.story (name_at t.requests p)) || is_let_in t.limit (b.story (name_at t.requests p))) ≡ true
    → is_in_line t.limit t.link (b.story (name_at t.requests p)) ≡ true
later_line b t p on e may =
    λ i. (eq_test (b.story (name_at t.requests p)).link t.link on i) && (e i && may i)

-- who is in the queue is a request
pub queue_within : (b : Book) (t : TurnState) (p : ℕ) → Tied b t → IsIn p (queue_ids (link_in t.life).queue) → p < length t.requests
queue_within b t p h i =
    let later = queue_ids (link_in t.life).queue ++ kept_ids t.admitted t.waiting in
    (rising_in 0 later (length t.requests) p (rising_right 0 (requests_in t.started) later (length t.requests) h.lines.line) (in_left p (queue_ids (link_in t.life).queue) (kept_ids t.admitted t.waiting) i)).1

-- without a message
pub later_untried : (b : Book) (t : TurnState) (p : ℕ) → Tied b t → p < length t.requests → (b.story (name_at t.requests p)).link ≡ t.link → IsIn p (queue_ids (link_in t.life).queue ++ kept_ids t.admitted t.waiting) → (b.story (name_at t.requests p)).tries ≡ []
later_untried b t p h within on i =
    let g = get_some t.requests p within in
    let named = name_of_some t.requests p g.0 g.1 in
    ap (λ n. (b.story n).tries) named ∙ h.tries.untried p g.0 g.1 (later_unstarted b t p h i) (sym (ap (λ n. (b.story n).link) named) ∙ on)

-- and still to start
pub queue_unstarted : (b : Book) (t : TurnState) (p : ℕ) → Tied b t → IsIn p (queue_ids (link_in t.life).queue) → is_unstarted (b.story (name_at t.requests p)) ≡ true
queue_unstarted b t p h i =
    let s = b.story (name_at t.requests p) in
    let within = queue_within b t p h i in
    let untried = later_untried b t p h within (queue_on b t p h i) (in_left p (queue_ids (link_in t.life).queue) (kept_ids t.admitted t.waiting) i) in
    elim (queue_alive b.story t.requests (link_in t.life).queue p h.lines.queued i) [
      | inl a ↦ open_unstarted s untried ((request_story b t p h within).open_is ∙ placed_open t.requests p a.1)
      | inr e ↦ told_unstarted s untried e
    ]

-- and so is one that waits and is open
pub kept_unstarted : (b : Book) (t : TurnState) (p : ℕ) → Tied b t → is_open_at t.requests p ≡ true → IsIn p (kept_ids t.admitted t.waiting) → is_unstarted (b.story (name_at t.requests p)) ≡ true
kept_unstarted b t p h o i =
    let within = open_within t.requests p o in
    open_unstarted (b.story (name_at t.requests p)) (later_untried b t p h within (open_on b t p h o) (in_right p (queue_ids (link_in t.life).queue) (kept_ids t.admitted t.waiting) i)) ((request_story b t p h within).open_is ∙ o)

-- who is in the queue was told, or let in
queue_may : (b : Book) (t : TurnState) (p : ℕ) → Tied b t → IsIn p (queue_ids (link_in t.life).queue) → (is_told (b.story (name_at t.requests p)) || is_let_in t.limit (b.story (name_at t.requests p))) ≡ true
queue_may b t p h i =
    let s = b.story (name_at t.requests p) in
    elim (queue_alive b.story t.requests (link_in t.life).queue p h.lines.queued i) [
      | inl a ↦ ap (λ x. is_told s || x) (h.permits.let_in p (inr a.1)) ∙ or_true (is_told s)
      | inr e ↦ ap (λ x. x || is_let_in t.limit s) e
    ]

-- an open request was told nothing
pub open_told : (b : Book) (t : TurnState) (p : ℕ) → Tied b t → is_open_at t.requests p ≡ true → is_told (b.story (name_at t.requests p)) ≡ false
open_told b t p h o = open_untold (b.story (name_at t.requests p)) ((request_story b t p h (open_within t.requests p o)).open_is ∙ o)

-- who took its place in this turn, and is in the queue, stands within its size
queue_within_size : (b : Book) (t : TurnState) (p : ℕ) → Tied b t → IsRunning t → IsIn p (queue_ids (link_in t.life).queue) → IsIn p t.moved → is_outside b (name_at t.requests p) ≡ false
queue_within_size b t p h r i moved =
    let n = name_at t.requests p in
    let queue = (link_in t.life).queue in
    let ids = queue_ids queue in
    let kept = kept_ids t.admitted t.waiting in
    let within = queue_within b t p h i in
    let later = rising_right 0 (requests_in t.started) (ids ++ kept) (length t.requests) h.lines.line in
    let before : (m : ℕ) → m < suc n → is_in_line t.limit t.link (b.story m) ≡ true → IsIn m (names_of t.requests ids) = λ m less e.
    let k = line_later b t m h r e in
    subst (λ x. IsIn x (names_of t.requests ids)) k.name (names_in t.requests ids k.p (elim k.later [
      | inl j ↦ j
      | inr w ↦ absurd (let apart = rising_apart 0 ids kept (length t.requests) p k.p later i (kept_in t.requests t.waiting t.admitted k.p w) in let rises = names_rise t.table t.requests p k.p h.names k.within apart in omega (arith, k.name))
    ])) in
    let most = line_most t.limit b.story t.link (suc n) (names_of t.requests ids) before in
    let next = line_next t.limit b.story t.link n (later_line b t p (queue_on b t p h i) (queue_unstarted b t p h i) (queue_may b t p h i)) in
    let long = names_length t.requests queue in
    let seats = r.seats p moved i in
    fewer_inside b t p h r (queue_on b t p h i) (omega arith)

-- who stands in the queue has its place
queue_inside : (b : Book) (t : TurnState) (p : ℕ) → Tied b t → IsRunning t → IsIn p (queue_ids (link_in t.life).queue) → is_outside b (name_at t.requests p) ≡ false
queue_inside b t p h r i =
    let n = name_at t.requests p in
    let s = b.story n in
    elim (queue_awaited b.story t.requests (link_in t.life).queue p h.lines.queued i) [
      | inl j ↦ elim (h.waits.room p j) [
        | inl moved ↦ queue_within_size b t p h r i moved
        | inr shown ↦ placed_inside b n (ap (λ x. is_room x || is_told s) shown)
      ]
      | inr told ↦ placed_inside b n (ap (λ x. is_room s.waiting || x) told ∙ or_true (is_room s.waiting))
    ]

-- a message of the queue starts next, or waits while its link is held back
pub queue_step : (b : Book) (t : TurnState) (p : ℕ) → Tied b t → IsRunning t → IsIn p (queue_ids (link_in t.life).queue) → next_step b (name_at t.requests p) ≡ starts_or_waits (holds_back (link_in t.life))
queue_step b t p h r i =
    let n = name_at t.requests p in
    let s = b.story n in
    let held = holds_back (link_in t.life) in
    let within = queue_within b t p h i in
    elim (queue_alive b.story t.requests (link_in t.life).queue p h.lines.queued i) [
      | inl a ↦ let_in_step b t p h r (queue_on b t p h i) (open_told b t p h (placed_open t.requests p a.1)) (has_begun b t p h (placed_open t.requests p a.1) (λ shows. placed_begun t.requests p a.1)) (h.permits.let_in p (inr a.1)) ∙ (λ k. step_placed (queue_inside b t p h r i k) (a.0 k) held)
      | inr e ↦ request_step b t p h r (queue_on b t p h i) ∙ ap (λ x. step_open x held (step_rounding (has_generations b) s.rounded (step_begun b n s t.link t.limit held))) e
    ]

-- who waits while the queue holds its size stands outside
kept_outside : (b : Book) (t : TurnState) (p : ℕ) → Tied b t → IsRunning t → is_full_beside (link_in t.life) (in_front t.renewal) ≡ true → shown_wait b.story t.requests p ≢ Some wait.Room → is_open_at t.requests p ≡ true → IsIn p (kept_ids t.admitted t.waiting) → is_outside b (name_at t.requests p) ≡ true
kept_outside b t p h r full shown o i =
    let n = name_at t.requests p in
    let queue = (link_in t.life).queue in
    let ids = queue_ids queue in
    let kept = kept_ids t.admitted t.waiting in
    let within = open_within t.requests p o in
    let later = rising_right 0 (requests_in t.started) (ids ++ kept) (length t.requests) h.lines.line in
    let rises = names_rising t.table t.requests 0 0 ids p h.names within (λ m above below. omega arith) (rising_before 0 ids kept (length t.requests) p later i) in
    let all : (m : ℕ) → IsIn m (names_of t.requests ids) → is_in_line t.limit t.link (b.story m) ≡ true = λ m j.
    let k = names_from t.requests ids m j in
    subst (λ x. is_in_line t.limit t.link (b.story x) ≡ true) k.2 (later_line b t k.0 (queue_on b t k.0 h k.1) (queue_unstarted b t k.0 h k.1) (queue_may b t k.0 h k.1)) in
    let least = line_least t.limit b.story t.link 0 (names_of t.requests ids) n rises all in
    let long = names_length t.requests queue in
    let fills = le_from (link_in t.life).size (in_front t.renewal + length queue) full in
    let size = r.fit.size_is in
    let s = b.story n in
    let none : has_place s ≡ false = (λ i. not_room s.waiting shown i || open_told b t p h o i) in
    many_outside b t p h r (open_on b t p h o) none (omega arith)

-- so it waits for a place, where it was let in
pub full_step : (b : Book) (t : TurnState) (p : ℕ) → Tied b t → IsRunning t → is_full_beside (link_in t.life) (in_front t.renewal) ≡ true → is_admitted_at t.requests p ≡ true → IsIn p (waiting_ids t.admitted) → next_step b (name_at t.requests p) ≡ waits wait.Place
full_step b t p h r full a i =
    let s = b.story (name_at t.requests p) in
    let o = (admitted_open t.requests p a).0 in
    let_in_step b t p h r (open_on b t p h o) (open_told b t p h o) (has_begun b t p h o (λ shows. admitted_begun t.requests p a)) (h.permits.let_in p (inl a))
    ∙ (λ k. step_placed (kept_outside b t p h r full (h.waits.seatless p a) o (in_left p (waiting_ids t.admitted) (waiting_ids t.waiting) i) k) (is_awaited s) (holds_back (link_in t.life)))

-- the first of those that wait has its place next, while the queue has room
first_inside : (b : Book) (t : TurnState) (p : ℕ) (rest : List ℕ) → Tied b t → IsRunning t → is_full_beside (link_in t.life) (in_front t.renewal) ≡ false → is_open_at t.requests p ≡ true → kept_ids t.admitted t.waiting ≡ p ∷ rest → is_outside b (name_at t.requests p) ≡ false
first_inside b t p rest h r room o first =
    let n = name_at t.requests p in
    let queue = (link_in t.life).queue in
    let ids = queue_ids queue in
    let kept = kept_ids t.admitted t.waiting in
    let within = open_within t.requests p o in
    let later = rising_right 0 (requests_in t.started) (ids ++ kept) (length t.requests) h.lines.line in
    let line = subst (λ ns. Rising 0 ns (length t.requests)) first (rising_right 0 ids kept (length t.requests) later) in
    let before : (m : ℕ) → m < n → is_in_line t.limit t.link (b.story m) ≡ true → IsIn m (names_of t.requests ids) = λ m less e.
    let k = line_later b t m h r e in
    let earlier = earlier_name t.table t.requests k.p p h.names k.within within (subst (λ x. x < n) (sym k.name) less) in
    subst (λ x. IsIn x (names_of t.requests ids)) k.name (names_in t.requests ids k.p (elim k.later [
      | inl j ↦ j
      | inr w ↦ absurd (let least = first_is_least 0 p rest (length t.requests) k.p line (subst (IsIn k.p) first (kept_in t.requests t.waiting t.admitted k.p w)) in omega arith)
    ])) in
    let most = line_most t.limit b.story t.link n (names_of t.requests ids) before in
    let long = names_length t.requests queue in
    let free = not_le_from (link_in t.life).size (in_front t.renewal + length queue) room in
    let size = r.fit.size_is in
    fewer_inside b t p h r (open_on b t p h o) (omega arith)

-- so it is told there where nobody awaits its reply, and it was let in
pub first_step : (b : Book) (t : TurnState) (p : ℕ) (rest : List ℕ) → Tied b t → IsRunning t → is_full_beside (link_in t.life) (in_front t.renewal) ≡ false → is_open_at t.requests p ≡ true → kept_ids t.admitted t.waiting ≡ p ∷ rest → is_let_in t.limit (b.story (name_at t.requests p)) ≡ true
    → is_unbegun_at t.requests p ≡ false → is_awaited (b.story (name_at t.requests p)) ≡ false → next_step b (name_at t.requests p) ≡ tells
first_step b t p rest h r room o first is begun unawaited =
    let_in_step b t p h r (open_on b t p h o) (open_told b t p h o) (has_begun b t p h o (λ shows. begun)) is
    ∙ (λ k. step_placed (first_inside b t p rest h r room o first k) (unawaited k) (holds_back (link_in t.life)))

-- where rounds are shown its round has begun
abbrev pub HasBegun : TurnState → ℕ → Type 0
HasBegun t p = t.rounds ≡ true → is_unbegun_at t.requests p ≡ false

-- the step of one that holds no permits
--
-- as many are free by the book
free_is : (b : Book) (t : TurnState) (k : ℕ) → Tied b t → t.limit ≡ Some k → free_permits b t.link k ≡ t.free
free_is b t k h e = let sum = h.permits.counted k e in omega arith

-- where permits are counted, it takes some, or waits for one
early_step : (b : Book) (t : TurnState) (p k : ℕ) → Tied b t → IsRunning t → is_waiting_at t.requests p ≡ true → HasBegun t p → (IsIn p t.being_admitted → ⊥) → t.limit ≡ Some k
    → next_step b (name_at t.requests p) ≡ step_taking t.free (permits_for (shape (b.story (name_at t.requests p))) k)
early_step b t p k h r w begun out e =
    let n = name_at t.requests p in
    let s = b.story n in
    let o = waiting_open t.requests p w in
    let within = open_within t.requests p o in
    let held = holds_back (link_in t.life) in
    let none = (request_story b t p h within).permits_is ∙ (h.permits.none p w out).0 in
    let taking : ℕ → Step = λ l. step_taking (free_permits b t.link l) (permits_for (shape s) l) in
    let timed = step_timed s.timeout s.clock (step_placed (is_outside b n) (is_awaited s) held) in
    begun_step b t p h r (open_on b t p h o) (open_told b t p h o) (has_begun b t p h o begun)
    ∙ (λ i. step_holding (e i) (none i) taking timed)
    ∙ ap (λ f. step_taking f (permits_for (shape s) k)) (free_is b t k h e)

-- it waits for one where none is free
pub permit_step : (b : Book) (t : TurnState) (p : ℕ) → Tied b t → IsRunning t → is_waiting_at t.requests p ≡ true → HasBegun t p → (IsIn p t.being_admitted → ⊥) → has_no_permit t.limit t.free ≡ true → next_step b (name_at t.requests p) ≡ waits wait.Permit
permit_step b t p h r w begun out none = by_limit t.limit refl none
  where
    by_limit : (x : Option ℕ) → t.limit ≡ x → has_no_permit x t.free ≡ true → next_step b (name_at t.requests p) ≡ waits wait.Permit
    by_limit None e n = cc
    by_limit (Some k) e n = early_step b t p k h r w begun out e ∙ ap (λ f. step_taking f (permits_for (shape (b.story (name_at t.requests p))) k)) (eq_from t.free 0 n)

-- and takes some where some are
pub take_step : (b : Book) (t : TurnState) (p k : ℕ) → Tied b t → IsRunning t → is_waiting_at t.requests p ≡ true → HasBegun t p → (IsIn p t.being_admitted → ⊥) → t.limit ≡ Some k → t.free ≢ 0
    → next_step b (name_at t.requests p) ≡ takes (min t.free (permits_for (shape (b.story (name_at t.requests p))) k))
take_step b t p k h r w begun out e some = early_step b t p k h r w begun out e ∙ taking_is t.free (permits_for (shape (b.story (name_at t.requests p))) k) some
  where
    taking_is : (free most : ℕ) → free ≢ 0 → step_taking free most ≡ takes (min free most)
    taking_is zero most some = absurd (some refl)
    taking_is (suc free) most some = refl

-- one that holds its permits, if they are counted, asks for its timer
pub ask_step : (b : Book) (t : TurnState) (p ms : ℕ) → Tied b t → IsRunning t → is_open_at t.requests p ≡ true → HasBegun t p → (is_none t.limit || nat_lt 0 (b.story (name_at t.requests p)).permits) ≡ true → (b.story (name_at t.requests p)).timeout ≡ Some ms
    → (b.story (name_at t.requests p)).clock ≡ None → next_step b (name_at t.requests p) ≡ asks ms
ask_step b t p ms h r o begun has time none =
    let n = name_at t.requests p in
    let s = b.story n in
    let held = holds_back (link_in t.life) in
    let seat = step_placed (is_outside b n) (is_awaited s) held in
    let taking : ℕ → Step = λ k. step_taking (free_permits b t.link k) (permits_for (shape s) k) in
    begun_step b t p h r (open_on b t p h o) (open_told b t p h o) (has_begun b t p h o begun)
    ∙ holding_next t.limit s.permits taking (step_timed s.timeout s.clock seat) has
    ∙ (λ i. step_timed (time i) (none i) seat)

-- the round of one that waits without it begins, where rounds are shown
pub round_step : (b : Book) (t : TurnState) (p : ℕ) → Tied b t → IsRunning t → t.rounds ≡ true → is_unbegun_at t.requests p ≡ true → next_step b (name_at t.requests p) ≡ rounds
round_step b t p h r shows u =
    let n = name_at t.requests p in
    let s = b.story n in
    let o = waiting_open t.requests p (unbegun_waits t.requests p u) in
    let held = holds_back (link_in t.life) in
    request_step b t p h r (open_on b t p h o)
    ∙ (λ i. step_open (open_told b t p h o i) held (step_rounding ((h.rounds.rounds_is ∙ shows) i) (h.rounds.unbegun p u i) (step_begun b n s t.link t.limit held)))

-- the step of one on a link that is set up, while what is subscribed again there isn't answered: it waits for that
pub repeat_step : (b : Book) (t : TurnState) (p : ℕ) (link : LinkState) → Tied b t → t.life ≡ Ready link → is_outstanding t.again ≡ true → (b.story (name_at t.requests p)).link ≡ t.link → next_step b (name_at t.requests p) ≡ waits wait.Resubscribe
repeat_step b t p link h ready goes on =
    let n = name_at t.requests p in
    let s = b.story n in
    let up : is_ready t.life ≡ true = ap is_ready ready in
    up_step b n (ap (λ l. (b.link l).up) on ∙ ready_up (b.link t.link) b.created t.life up h.life) (ap (λ l. is_set_up (b.link l)) on ∙ ready_set (b.link t.link) t.started t.life up h.setup.said)
    ∙ ap (λ served. step_served served (step_on b n s s.link (permits_in b.config) (is_held_back b (b.link s.link)))) (ap (λ l. is_served (b.link l)) on ∙ takes_requests b t up h ∙ ap not goes)

-- the step of a submission while the connect isn't answered
--
-- it waits for the connect
pub dialing_step : (b : Book) (t : TurnState) (p : ℕ) → Tied b t → t.life ≡ Dialing → (b.story (name_at t.requests p)).link ≡ t.link → next_step b (name_at t.requests p) ≡ waits wait.Connect
dialing_step b t p h dialing on =
    let s = b.story (name_at t.requests p) in
    taken_if (dials (b.link s.link)) (waits wait.Connect) _ (ap (λ l. dials (b.link l)) on ∙ dialing_dials (b.link t.link) b.created t.life dialing h.life)

-- without a link it waits for one
pub resting_step : (b : Book) (t : TurnState) (p : ℕ) → Tied b t → t.life ≡ Resting → (b.story (name_at t.requests p)).link ≡ t.link → next_step b (name_at t.requests p) ≡ waits wait.Backoff
resting_step b t p h rests on =
    let l = b.link (b.story (name_at t.requests p)).link in
    let life = subst (λ m. TiedLife (b.link m) b.created Resting) (sym on) (subst (TiedLife (b.link t.link) b.created) rests h.life) in
    left_if (dials l) (waits wait.Connect) (if l.up then (if is_set_up l then step_ready b (name_at t.requests p) (b.story (name_at t.requests p)) else waits (unready_wait l)) else step_down l.asked) (λ i. (life.0 i && not (life.1 i)) && not (is_some (life.2 i)))
    ∙ left_if l.up (if is_set_up l then step_ready b (name_at t.requests p) (b.story (name_at t.requests p)) else waits (unready_wait l)) (step_down l.asked) life.1
    ∙ ap step_down life.0

-- and the setup, while the link isn't set up
pub setup_step : (b : Book) (t : TurnState) (p : ℕ) (link : LinkState) (greeting : Greeting) → Tied b t → t.life ≡ SettingUp link greeting → (b.story (name_at t.requests p)).link ≡ t.link → next_step b (name_at t.requests p) ≡ waits wait.Setup
setup_step b t p link greeting h setting on =
    let l = b.link t.link in
    let life = subst (TiedLife l b.created) setting h.life in
    let said = subst (HasSaid l t.started) setting h.setup.said in
    let has = has_credentials l.creds (subst (AreSought l.creds) setting h.creds.sought).0 in
    unready_step b (name_at t.requests p) (ap (λ m. (b.link m).up) on ∙ life.1) (ap (λ m. is_set_up (b.link m)) on ∙ (not_set_up l link greeting said.1).unset)
    ∙ ap (λ (kind : WaitKind). waits kind) (ap (λ m. unready_wait (b.link m)) on ∙ left_if (lacks_credentials l) wait.Creds wait.Setup has)

-- and credentials, while they are to come
pub creds_step : (b : Book) (t : TurnState) (p : ℕ) (link : LinkState) → Tied b t → t.life ≡ Wanting link → (b.story (name_at t.requests p)).link ≡ t.link → next_step b (name_at t.requests p) ≡ waits wait.Creds
creds_step b t p link h wanting on =
    let l = b.link t.link in
    let life = subst (TiedLife l b.created) wanting h.life in
    let lacks = wanting_lacks l.creds link (subst (AreSought l.creds) wanting h.creds.sought) in
    unready_step b (name_at t.requests p) (ap (λ m. (b.link m).up) on ∙ life.1) (ap (λ m. is_set_up (b.link m)) on ∙ (lacking_unset l lacks).unset)
    ∙ ap (λ (kind : WaitKind). waits kind) (ap (λ m. unready_wait (b.link m)) on ∙ taken_if (lacks_credentials l) wait.Creds wait.Setup lacks)
