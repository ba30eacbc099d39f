-- Whoever has a place is on a link that takes requests, and was told, or has its round and its permits and waits for room.
use Rattle.std.proofs.Common.{◌≡◌, ◌⊎◌, inl, inr, ℕ, zero, suc, ◌+◌, ◌<◌, ◌==◌, nat_lt, nat_le, Bool, true, false, ◌&&◌, not, [], ◌∷◌, Option, Some, None, is_none, is_some, if◌then◌else◌, refl, sym, ◌∙◌, ap, subst, arith}
use Rattle.containers.proofs.Choices.{by_test, chosen, left_if, eq_from, ne_test, lt_from, not_lt_from, not_both, both_left, both_right}
use Rattle.driver_model.specs.declared.action.Action.{Action}
use Rattle.driver_model.specs.declared.action.Action.TheVariants as action
use Rattle.driver_model.specs.declared.action.Cause.TheVariants as cause
use Rattle.driver_model.specs.declared.action.Owner.TheVariants as owner
use Rattle.driver_model.specs.declared.action.WaitKind.{WaitKind}
use Rattle.driver_model.specs.declared.action.WaitKind.TheVariants as wait
use Rattle.driver_model.specs.declared.config.Config.{Config}
use Rattle.driver_model.specs.declared.event.EventKind.{EventKind}
use Rattle.driver_model.specs.declared.outcome.Outcome.{Outcome}
use Rattle.driver_model.specs.Shape.{permits_for}
use Rattle.legal_trace.specs.Ledger.{Ledger, is_over, is_ready, is_served, is_set_up}
use Rattle.legal_trace.specs.Story.{Story, has_place, is_room, is_open, is_told, is_awaited, is_unstarted, holds, clocked, left, rounds, tried, waits, answered, shape}
use Rattle.legal_trace.specs.Managers.{settings_in}
use Rattle.legal_trace.specs.Book.{Book, entered, after_event, has_generations}
use Rattle.legal_trace.specs.Steps.{Step, is_due, queue_size, permits_in, is_let_in, is_held_back, line_before, renewals_in_line, is_outside, free_permits, starts_or_waits, step_placed, step_timed, step_taking, step_holding, step_rounding, step_open, step_served, step_down, unready_wait, next_step}
use Rattle.legal_trace.specs.Steps.{waits as shows, rounds as begins_round, takes, asks, tells, starts, nothing}
use Rattle.legal_trace.specs.Legal.{MayStand, MayAnswer, MayTell, MayWait, MayRoundOn, link_of}
use Rattle.legal_trace.proofs.Clocks.{timer_keeps}
use Rattle.legal_trace.proofs.Moves.{both_hold, one_holds, has_no_tries, has_rounded, holds_some, is_timed, open_or_told, ready_is_up, ready_is_set, rooms_mean, rounded_step, round_is_due, served_step, untold_step, tells_mean, mover_is_served, teller_moves}
use Rattle.legal_trace.proofs.Plain.{not_empty}
use Rattle.legal_laws.proofs.Internal.Serving.{TakesRequests, takes_kept}
use Rattle.legal_laws.proofs.Submissions.InLine.{second_holds, leaver_is_done, owed_is_done}
use Rattle.legal_laws.proofs.Submissions.Rounds.{room_is_served}
use Rattle.legal_laws.proofs.Submissions.Seated.{carried_is_unplaced, new_is_unplaced, placed_stays, told_place}
use Rattle.legal_laws.proofs.Submissions.Steps.{event_keeps, fires_keeps}
use Rattle.legal_laws.proofs.Traces.Held.{not_open}
use Rattle.legal_laws.proofs.Traces.Numbers.{up_is_asked}
use Rattle.legal_laws.proofs.Traces.Sound.{Sound}

-- what whoever has a place does next: it starts, is told, or waits for room, or does nothing any more
abbrev pub AtSeat : Step → Type 0
AtSeat (shows kind) = kind ≡ wait.Room
AtSeat begins_round = ⊥
AtSeat (takes count) = ⊥
AtSeat (asks ms) = ⊥
AtSeat tells = Unit {0}
AtSeat starts = Unit {0}
AtSeat nothing = Unit {0}

-- where it is told or starts
held_seat : (held : Bool) → AtSeat (starts_or_waits held)
held_seat true = refl
held_seat false = tt

placed_seat : (outside awaited held : Bool) → outside ≡ false → AtSeat (step_placed outside awaited held)
placed_seat true awaited held e = absurd (cc e)
placed_seat false true held e = held_seat held
placed_seat false false held e = tt

-- with its timer
timed_seat : (timeout clock : Option ℕ) (next : Step) → is_timed timeout clock ≡ true → AtSeat next → AtSeat (step_timed timeout clock next)
timed_seat None clock next e h = h
timed_seat (Some ms) None next e h = absurd (cc e)
timed_seat (Some ms) (Some t) next e h = h

-- with its permits
holding_seat : (limit : Option ℕ) (permits : ℕ) (taking : ℕ → Step) (next : Step) → holds_some limit permits ≡ true → AtSeat next → AtSeat (step_holding limit permits taking next)
holding_seat None permits taking next e h = h
holding_seat (Some limit) zero taking next e h = absurd (cc e)
holding_seat (Some limit) (suc held) taking next e h = h

-- with its round
rounding_seat : (shown rounded : Bool) (next : Step) → has_rounded shown rounded ≡ true → AtSeat next → AtSeat (step_rounding shown rounded next)
rounding_seat true false next e h = absurd (cc e)
rounding_seat true true next e h = h
rounding_seat false rounded next e h = h

-- whether it was told, or not
open_seat : (told held : Bool) (next : Step) → (told ≡ false → AtSeat next) → AtSeat (step_open told held next)
open_seat true held next h = held_seat held
open_seat false held next h = h refl

-- on its link
link_seat : (asked up over set served : Bool) (unready : WaitKind) (next : Step) → asked ≡ true → (up ≡ true) ⊎ (over ≡ true) → set ≡ true → served ≡ true → AtSeat next
    → AtSeat (if asked && not up && not over then shows wait.Connect else if up then (if set then step_served served next else shows unready) else step_down asked)
link_seat false up over set served unready next a s t v h = absurd (cc a)
link_seat true true over true true unready next a s t v h = h
link_seat true true over true false unready next a s t v h = absurd (cc v)
link_seat true true over false served unready next a s t v h = absurd (cc t)
link_seat true false true set served unready next a s t v h = tt
link_seat true false false set served unready next a (inl u) t v h = absurd (cc u)
link_seat true false false set served unready next a (inr o) t v h = absurd (cc o)

-- it waits for room, has its permits and its timer, and its round has begun
pub record WaitsThere (c : Option Config) (s : Story) : Type 0 where
  pub room : is_room s.waiting ≡ true
  pub let_in : is_let_in (permits_in c) s ≡ true
  pub rounded : has_rounded (is_some (settings_in c)) s.rounded ≡ true

-- it was told, or waits there
abbrev pub IsSat : Option Config → Story → Type 0
IsSat c s = (is_told s ≡ true) ⊎ WaitsThere c s

-- so has each that has a place and no message, on a link that takes requests
pub record Sits (b : Book) (n : ℕ) : Type 0 where
  pub link : TakesRequests (link_of b n)
  pub sat : IsSat b.config (b.story n)

abbrev pub AllSit : Book → Type 0
AllSit b = (n : ℕ) → n < b.submissions → is_unstarted (b.story n) ≡ true → has_place (b.story n) ≡ true → Sits b n

-- it does next what is done there
pub seat_step : (b : Book) (n : ℕ) → Sits b n → has_place (b.story n) ≡ true → AtSeat (next_step b n)
seat_step b n h placed =
    let l : Ledger = link_of b n in
    let s : Story = b.story n in
    let held : Bool = is_held_back b l in
    let inside : is_outside b n ≡ false = never (has_place s) (nat_le (queue_size b) (renewals_in_line l + line_before (permits_in b.config) b.story s.link n)) placed in
    link_seat l.asked l.up (is_over l) (is_set_up l) (is_served l) (unready_wait l) (served_step b n) h.link.asked h.link.stood h.link.set h.link.served
    (open_seat (is_told s) held (untold_step b n) (λ untold. elim h.sat [
      | inl told ↦ absurd (not_both (is_told s) untold told)
      | inr w ↦
          rounding_seat (has_generations b) s.rounded (rounded_step b n) w.rounded
          (holding_seat (permits_in b.config) s.permits (λ limit. step_taking (free_permits b s.link limit) (permits_for (shape s) limit)) (step_timed s.timeout s.clock (step_placed (is_outside b n) (is_awaited s) held))
          (both_left (holds_some (permits_in b.config) s.permits) (is_timed s.timeout s.clock) w.let_in)
          (timed_seat s.timeout s.clock (step_placed (is_outside b n) (is_awaited s) held) (both_right (holds_some (permits_in b.config) s.permits) (is_timed s.timeout s.clock) w.let_in)
          (placed_seat (is_outside b n) (is_awaited s) held inside)))
    ]))
  where
    never : (p q : Bool) → p ≡ true → (not p && q) ≡ false
    never true q e = refl
    never false q e = absurd (cc e)

-- a story that says the same of this
same_sat : (c : Option Config) (s t : Story) → is_told t ≡ is_told s → t.waiting ≡ s.waiting → is_let_in (permits_in c) t ≡ is_let_in (permits_in c) s → t.rounded ≡ s.rounded → IsSat c s → IsSat c t
same_sat c s t told waiting let_in rounded (inl h) = inl (told ∙ h)
same_sat c s t told waiting let_in rounded (inr h) = inr (record { room = ap is_room waiting ∙ h.room; let_in = let_in ∙ h.let_in; rounded = ap (has_rounded (is_some (settings_in c))) rounded ∙ h.rounded })

-- what is asked of a story of submission n behind an action
abbrev Keeps : Book → ℕ → Story → Type 0
Keeps b n s = is_unstarted s ≡ true → has_place s ≡ true → TakesRequests (link_of b n) × IsSat b.config s

-- the one before it has it
plain : (b : Book) (n : ℕ) → AllSit b → n < b.submissions → Keeps b n (b.story n)
plain b n h i u p = let x = h n i u p in (x.link, x.sat)

-- so it sits behind it
sits_from : (b : Book) (a : Action) → MayStand b a → Sound b → (entered b a).config ≡ b.config → (n : ℕ) → n < b.submissions → Keeps b n ((entered b a).story n) → is_unstarted ((entered b a).story n) ≡ true → has_place ((entered b a).story n) ≡ true → Sits (entered b a) n
sits_from b a may sound same n i keeps u p =
    let x = keeps u p in
    let on : ((entered b a).story n).link ≡ (b.story n).link = (placed_stays b a may n i p).link in
    record {
      link = subst (λ l. TakesRequests ((entered b a).link l)) (sym on) (takes_kept b a (b.story n).link may sound x.0);
      sat = subst (λ c. IsSat c ((entered b a).story n)) (sym same) x.1;
    }

-- whoever makes a step is on a link that takes requests
mover_takes : (b : Book) (n : ℕ) → Sound b → is_ready (link_of b n) ≡ true → is_served (link_of b n) ≡ true → TakesRequests (link_of b n)
mover_takes b n sound ready served =
    let up : (link_of b n).up ≡ true = ready_is_up (link_of b n) ready in
    record { asked = up_is_asked b (b.story n).link sound.links up; stood = inl up; set = ready_is_set (link_of b n) ready; served = served }

-- where its caller leaves
left_sits : (b : Book) (n : ℕ) → Keeps b n (b.story n) → Keeps b n (left (b.story n))
left_sits b n h = by_test (is_open (b.story n)) (Keeps b n (left (b.story n)))
    (λ o u p. absurd (leaver_is_done (b.story n) o u))
    (λ f. subst (Keeps b n) (sym (left_if (is_open (b.story n)) (record (b.story n) { cancelled = true; permits = 0; waiting = None }) (b.story n) f)) h)

-- behind an event
event_sits : (b : Book) (n : ℕ) (kind : EventKind) → n < b.submissions → Keeps b n (b.story n) → Keeps b n (after_event b n kind)
event_sits b n kind i h = event_keeps (Keeps b n) b n kind (record {
  handed = λ what e. absurd (not_both (b.submissions == n) (ne_test b.submissions n (omega (arith, i))) e);
  left = left_sits b n h;
  fired = λ t c. fires_keeps (Keeps b n) (b.story n) (λ o u p. let x = h u p in (x.0, same_sat b.config (b.story n) (record (b.story n) { overdue = true }) refl refl refl refl x.1)) h;
})
    h

-- where its timer is asked for
clocked_sits : (b : Book) (n t : ℕ) → Keeps b n (b.story n) → Keeps b n (clocked (b.story n) t)
clocked_sits b n t h u p =
    let x = h u p in
    let s : Story = b.story n in (
      x.0,
      elim x.1 [
        | inl told ↦ inl told
        | inr w ↦ inr (record {
          room = w.room;
          let_in = both_hold (holds_some (permits_in b.config) s.permits) (is_timed s.timeout (Some t)) (both_left (holds_some (permits_in b.config) s.permits) (is_timed s.timeout s.clock) w.let_in) (second_holds (is_none s.timeout) true refl);
          rounded = w.rounded;
        })
      ],
    )

-- where it is shown to wait
wait_sits : (b : Book) (n : ℕ) (kind : WaitKind) → Sound b → MayWait b n kind → AllSit b → n < b.submissions → Keeps b n (waits (b.story n) kind)
wait_sits b n kind sound may h i u p = by_test (has_place (b.story n)) (TakesRequests (link_of b n) × IsSat b.config (waits (b.story n) kind))
    (λ had.
    let x : Sits b n = h n i u had in
    let room : kind ≡ wait.Room = subst AtSeat may.holds (seat_step b n x had) in (
      x.link,
      elim x.sat [
        | inl told ↦ inl told
        | inr w ↦ inr (record { room = ap (λ k. is_room (Some k)) room; let_in = w.let_in; rounded = w.rounded })
      ],
    ))
    (λ none. elim (one_holds (is_room (Some kind)) (is_told (b.story n)) p) [
      | inr told ↦ absurd (not_both (has_place (b.story n)) none (told_place (b.story n) told))
      | inl r ↦
          let holds : next_step b n ≡ shows wait.Room = may.holds ∙ ap shows (is_the_room kind r) in
          let t = rooms_mean b n holds in
          let served : is_served (link_of b n) ≡ true = room_is_served b n holds in (
            mover_takes b n sound t.1 served,
            elim t.2 [
              | inl told ↦ inl told
              | inr placed ↦ by_test (is_told (b.story n)) (IsSat b.config (waits (b.story n) kind)) (λ told. inl told)
                  (λ untold. inr (record {
                    room = r;
                    let_in = placed.0;
                    rounded = by_test (has_rounded (has_generations b) (b.story n).rounded) (has_rounded (has_generations b) (b.story n).rounded ≡ true) (λ e. e)
                        (λ f. absurd (let x : false ≡ true = sym (ap is_due holds) ∙ round_is_due b n t.0 t.1 served untold f in cc x));
                  }))
            ],
          )
    ])
  where
    is_the_room : (k : WaitKind) → is_room (Some k) ≡ true → k ≡ wait.Room
    is_the_room wait.Room e = refl
    is_the_room _ e = absurd (cc e)

-- where it is answered
answer_sits : (b : Book) (n : ℕ) (o : Outcome) → Sound b → MayAnswer b n o ⊎ MayTell b n o → Keeps b n (answered (b.story n) o)
answer_sits b n o sound (inl owes) u p = absurd (owed_is_done b n o owes u)
answer_sits b n o sound (inr may) u p =
    let t = tells_mean b n may.tells in
    (mover_takes b n sound t.1 (mover_is_served b n (teller_moves b n o may)), elim (open_or_told (answered (b.story n) o) u) [ inl still ↦ absurd (not_open (b.story n) o still) | inr told ↦ inl told ])

-- a round that begins is a step
pub round_step : (b : Book) (n : ℕ) (on : Option ℕ) → MayRoundOn b n on → next_step b n ≡ begins_round
round_step b n None may = absurd may
round_step b n (Some l) may = may.rounds

-- what any action makes of a story
story_sits : (b : Book) (a : Action) → MayStand b a → Sound b → AllSit b → (n : ℕ) → n < b.submissions → Keeps b n ((entered b a).story n)
story_sits b (action.Turn k (cause.Event e)) may sound h n i = event_sits b n e.kind i (plain b n h i)
story_sits b (action.Timer t ms what) may sound h n i = timer_keeps (Keeps b n) b n t what (λ r o u p. absurd (carried_is_unplaced (b.story n) b.links o p)) (λ c. clocked_sits b n t (plain b n h i)) (plain b n h i)
story_sits b (action.Took owner.Setup l count) may sound h n i = absurd may
story_sits b (action.Took owner.Auth l count) may sound h n i = absurd may
story_sits b (action.Took owner.Resub l count) may sound h n i = absurd may
story_sits b (action.Took owner.Monitor l count) may sound h n i = absurd may
story_sits b (action.Took (owner.Try m round) l count) may sound h n i = chosen (Keeps b n) (m == n) (holds (b.story n) count) (b.story n)
    (λ e u p. absurd (subst AtSeat (subst (λ j. next_step b j ≡ takes count) (eq_from m n e) may.1.takes) (seat_step b n (h n i u p) p))) (λ f. plain b n h i)
story_sits b (action.Round owner.Setup on) may sound h n i = absurd may
story_sits b (action.Round owner.Auth on) may sound h n i = absurd may
story_sits b (action.Round owner.Resub on) may sound h n i = absurd may
story_sits b (action.Round owner.Monitor on) may sound h n i = absurd may
story_sits b (action.Round (owner.Try m round) on) may sound h n i = chosen (Keeps b n) (m == n) (rounds (b.story n)) (b.story n)
    (λ e u p. elim (one_holds (is_room None) (is_told (b.story n)) p) [
      | inl r ↦ absurd (cc r)
      | inr told ↦ absurd (subst AtSeat (subst (λ j. next_step b j ≡ begins_round) (eq_from m n e) (round_step b m on may.1)) (seat_step b n (h n i u (told_place (b.story n) told)) (told_place (b.story n) told)))
    ]) (λ f. plain b n h i)
story_sits b (action.Wait owner.Setup kind) may sound h n i = absurd may
story_sits b (action.Wait owner.Auth kind) may sound h n i = absurd may
story_sits b (action.Wait owner.Resub kind) may sound h n i = absurd may
story_sits b (action.Wait owner.Monitor kind) may sound h n i = absurd may
story_sits b (action.Wait (owner.Try m round) kind) may sound h n i = chosen (Keeps b n) (m == n) (waits (b.story n) kind) (b.story n)
    (λ e. wait_sits b n kind sound (subst (λ j. MayWait b j kind) (eq_from m n e) may.1) h i) (λ f. plain b n h i)
story_sits b (action.Start l k owner.Setup count len) may sound h n i = plain b n h i
story_sits b (action.Start l k owner.Auth count len) may sound h n i = plain b n h i
story_sits b (action.Start l k owner.Resub count len) may sound h n i = plain b n h i
story_sits b (action.Start l k owner.Monitor count len) may sound h n i = plain b n h i
story_sits b (action.Start l k (owner.Try m round) count len) may sound h n i = chosen (Keeps b n) (m == n) (tried (b.story n) l k) (b.story n)
    (λ e u p. absurd (not_empty (b.story n).tries (record { link = l; message = k }) (has_no_tries (tried (b.story n) l k) u))) (λ f. plain b n h i)
story_sits b (action.Outcome m o) may sound h n i = chosen (Keeps b n) (m == n) (answered (b.story n) o) (b.story n)
    (λ e. answer_sits b n o sound (subst (λ j. MayAnswer b j o ⊎ MayTell b j o) (eq_from m n e) may)) (λ f. plain b n h i)
story_sits b _ may sound h n i = plain b n h i

-- each action that may stand keeps it
pub sit_kept : (b : Book) (a : Action) → MayStand b a → Sound b → AllSit b → AllSit (entered b a)
sit_kept b (action.Turn k (cause.Opening config word)) may sound h n i u p = let start : b.turns ≡ 0 = may.is_for in let none : b.submissions ≡ 0 = sound.opens.none_yet (omega (arith, start)) in absurd (omega (arith, none, i))
sit_kept b (action.Turn k (cause.Event e)) may sound h n i u p =
    let a : Action = action.Turn k (cause.Event e) in
    by_test (nat_lt n b.submissions) (Sits (entered b a) n)
    (λ old. let j = lt_from n b.submissions old in sits_from b a may sound refl n j (story_sits b a may sound h n j) u p)
    (λ new. absurd (new_is_unplaced b n e.kind sound.stories (not_lt_from n b.submissions new) p))
sit_kept b (action.Timer t ms what) may sound h n i u p = sits_from b (action.Timer t ms what) may sound refl n i (story_sits b (action.Timer t ms what) may sound h n i) u p
sit_kept b (action.Start l k who count len) may sound h n i u p = sits_from b (action.Start l k who count len) may sound refl n i (story_sits b (action.Start l k who count len) may sound h n i) u p
sit_kept b (action.Wait who kind) may sound h n i u p = sits_from b (action.Wait who kind) may sound refl n i (story_sits b (action.Wait who kind) may sound h n i) u p
sit_kept b (action.Round who on) may sound h n i u p = sits_from b (action.Round who on) may sound refl n i (story_sits b (action.Round who on) may sound h n i) u p
sit_kept b (action.Took who l count) may sound h n i u p = sits_from b (action.Took who l count) may sound refl n i (story_sits b (action.Took who l count) may sound h n i) u p
sit_kept b (action.Connect l host port) may sound h n i u p = sits_from b (action.Connect l host port) may sound refl n i (story_sits b (action.Connect l host port) may sound h n i) u p
sit_kept b (action.Push l info) may sound h n i u p = sits_from b (action.Push l info) may sound refl n i (story_sits b (action.Push l info) may sound h n i) u p
sit_kept b (action.Message msg) may sound h n i u p = sits_from b (action.Message msg) may sound refl n i (story_sits b (action.Message msg) may sound h n i) u p
sit_kept b (action.Monitor v) may sound h n i u p = sits_from b (action.Monitor v) may sound refl n i (story_sits b (action.Monitor v) may sound h n i) u p
sit_kept b (action.NeedCreds c l) may sound h n i u p = sits_from b (action.NeedCreds c l) may sound refl n i (story_sits b (action.NeedCreds c l) may sound h n i) u p
sit_kept b (action.Generation g) may sound h n i u p = sits_from b (action.Generation g) may sound refl n i (story_sits b (action.Generation g) may sound h n i) u p
sit_kept b (action.Close l) may sound h n i u p = sits_from b (action.Close l) may sound refl n i (story_sits b (action.Close l) may sound h n i) u p
sit_kept b (action.Write l bytes) may sound h n i u p = sits_from b (action.Write l bytes) may sound refl n i (story_sits b (action.Write l bytes) may sound h n i) u p
sit_kept b (action.Created e) may sound h n i u p = sits_from b (action.Created e) may sound refl n i (story_sits b (action.Created e) may sound h n i) u p
sit_kept b (action.Outcome m o) may sound h n i u p = sits_from b (action.Outcome m o) may sound refl n i (story_sits b (action.Outcome m o) may sound h n i) u p
