-- Whoever was told, or was shown to wait for room, has a place until its message starts.
use Rattle.std.proofs.Common.{◌≡◌, ◌⊎◌, inl, inr, ℕ, ◌<◌, ◌≤◌, ◌==◌, nat_lt, true, false, ◌&&◌, not, List, [], ◌∷◌, Option, None, Some, refl, sym, ◌∙◌, ap, subst, arith, max}
use Rattle.std.specs.Prelude.{slice_get}
use Rattle.containers.proofs.Choices.{by_test, chosen, left_if, eq_from, ne_test, lt_from, not_lt_from, not_both, both_left, both_right}
use Rattle.driver_model.specs.declared.action.Action.{Action}
use Rattle.driver_model.specs.declared.action.Action.TheVariants as action
use Rattle.driver_model.specs.declared.action.Cause.TheVariants as cause
use Rattle.driver_model.specs.declared.action.Owner.TheVariants as owner
use Rattle.driver_model.specs.declared.action.WaitKind.{WaitKind}
use Rattle.driver_model.specs.declared.action.WaitKind.TheVariants as wait
use Rattle.driver_model.specs.declared.event.EventKind.{EventKind}
use Rattle.driver_model.specs.declared.event.EventKind.TheVariants as event
use Rattle.driver_model.specs.declared.outcome.Outcome.{Outcome}
use Rattle.driver_model.specs.Config.{buffer_size}
use Rattle.legal_trace.specs.Ledger.{dials, is_ready, is_served}
use Rattle.legal_trace.specs.Story.{Story, has_place, is_room, is_open, is_told, is_awaited, is_no_error, is_unstarted, handed_in, carried, left, holds, rounds, fires, tried, waits, answered}
use Rattle.legal_trace.specs.Book.{Book, blank_book, book, entered, entered_each, is_clock_of, after_event, is_unspoken}
use Rattle.legal_trace.specs.Steps.{configured, queue_size, permits_in, free_permits, is_let_in, is_in_line, line_before, is_outside}
use Rattle.legal_trace.proofs.Clocks.{timer_keeps}
use Rattle.legal_laws.proofs.Submissions.Steps.{action_keeps, fires_keeps, left_keeps}
use Rattle.legal_trace.specs.Legal.{MayStand, MayAnswer, MayTell, MayTake, MayWait, AllStand, CanMove, link_of}
use Rattle.legal_trace.proofs.Moves.{lt_test, one_holds, both_hold, inside_has_room, rooms_mean, holds_some, is_timed, tells_mean, takes_mean, holder_is_timed, rester_holds, teller_moves, taker_moves, mover_is_served}
use Rattle.legal_laws.proofs.Submissions.Tales.{open_has_none}
use Rattle.legal_laws.proofs.Submissions.InLine.{is_to_start, is_admitted, Follows, Stays, story_apart, to_start_stays, first_holds, second_holds, follows, owed_is_done, to_start_before, shorter}
use Rattle.legal_laws.proofs.Traces.Numbers.{HasStories, mover_is_numbered}
use Rattle.legal_laws.proofs.Traces.Sound.{Sound, stays_sound, blank_is_sound}
use Rattle.legal_laws.proofs.Submissions.Rounds.{room_is_served}

-- a submission has its place: fewer stand in line before it than the queue holds, and all before it that are to start on its
-- link stand there
pub record HasItsPlace (b : Book) (n : ℕ) : Type 0 where
  pub room : line_before (permits_in b.config) b.story (b.story n).link n < queue_size b
  pub ahead : (m : ℕ) → m < n → is_to_start (b.story n).link (b.story m) ≡ true → is_admitted (permits_in b.config) (b.story m) ≡ true

-- each submission that was told, or was shown to wait for room, and has no message has its place
abbrev pub PlacesAreKept : Book → Type 0
PlacesAreKept b = (n : ℕ) → n < b.submissions → is_unstarted (b.story n) ≡ true → has_place (b.story n) ≡ true → HasItsPlace b n

-- before one that holds permits all hold some that are to start on its link and weren't told
abbrev pub HoldersInOrder : Book → Type 0
HoldersInOrder b =
    (m n : ℕ) → m < n → n < b.submissions → is_to_start (b.story n).link (b.story m) ≡ true → is_told (b.story m) ≡ false → 0 < (b.story n).permits → 0 < (b.story m).permits

-- who is admitted and is to start on a link stands in line for it
in_line_from : (limit : Option ℕ) (l : ℕ) (s : Story) → is_to_start l s ≡ true → is_admitted limit s ≡ true → is_in_line limit l s ≡ true
in_line_from limit l s t a = both_hold (s.link == l) (is_unstarted s && is_admitted limit s) (both_left (s.link == l) (is_unstarted s) t) (both_hold (is_unstarted s) (is_admitted limit s) (both_right (s.link == l) (is_unstarted s) t) a)

-- who stands in line is to start
to_start_from : (limit : Option ℕ) (l : ℕ) (s : Story) → is_in_line limit l s ≡ true → is_to_start l s ≡ true
to_start_from limit l s e = both_hold (s.link == l) (is_unstarted s) (both_left (s.link == l) (is_unstarted s && is_admitted limit s) e) (both_left (is_unstarted s) (is_admitted limit s) (both_right (s.link == l) (is_unstarted s && is_admitted limit s) e))

-- behind an action all before it stand there still
ahead_stays : (b : Book) (a : Action) → MayStand b a → Sound b → (n : ℕ) → n < b.submissions → HasItsPlace b n
    → (m : ℕ) → m < n → is_to_start (b.story n).link ((entered b a).story m) ≡ true → is_admitted (permits_in b.config) ((entered b a).story m) ≡ true
ahead_stays b a may sound n i h m j t =
    let s : Stays b (b.story m) ((entered b a).story m) = to_start_stays b a may (b.story n).link m (omega (arith, i, j)) (story_apart b n sound) t in
    s.stays (both_right (((entered b a).story m).link == (b.story n).link) (is_unstarted ((entered b a).story m)) t) (h.ahead m j (to_start_before b a may (b.story n).link m (omega (arith, i, j)) (story_apart b n sound) t))

-- and no more than before
line_stays : (b : Book) (a : Action) → MayStand b a → Sound b → (n : ℕ) → n < b.submissions → HasItsPlace b n → line_before (permits_in b.config) (entered b a).story (b.story n).link n < queue_size b
line_stays b a may sound n i h =
    let l : ℕ = (b.story n).link in
    let less : line_before (permits_in b.config) (entered b a).story l n ≤ line_before (permits_in b.config) b.story l n = shorter (permits_in b.config) (entered b a).story b.story l n
    (λ k j e. let t : is_to_start l (b.story k) ≡ true = to_start_before b a may l k (omega (arith, i, j)) (story_apart b n sound) (to_start_from (permits_in b.config) l ((entered b a).story k) e) in in_line_from (permits_in b.config) l (b.story k) t (h.ahead k j t)) in
    omega (arith, less, h.room)

-- so whoever has its place has it behind an action, too
place_stays : (b : Book) (a : Action) → MayStand b a → Sound b → (n : ℕ) → n < b.submissions → (entered b a).config ≡ b.config → (b.story n).link ≡ ((entered b a).story n).link → HasItsPlace b n → HasItsPlace (entered b a) n
place_stays b a may sound n i same on h =
    let sized : line_before (permits_in (entered b a).config) (entered b a).story (b.story n).link n < queue_size (entered b a) =
    subst (λ c. line_before (permits_in c) (entered b a).story (b.story n).link n < configured buffer_size c) (sym same) (line_stays b a may sound n i h) in
    record {
      room = subst (λ x. line_before (permits_in (entered b a).config) (entered b a).story x n < queue_size (entered b a)) on sized;
      ahead = λ m j t. subst (λ c. is_admitted (permits_in c) ((entered b a).story m) ≡ true) (sym same)
          (ahead_stays b a may sound n i h m j (subst (λ x. is_to_start x ((entered b a).story m) ≡ true) (sym on) t));
    }

-- an open submission wasn't told
pub open_is_untold : (s : Story) → is_open s ≡ true → is_told s ≡ true → ⊥
open_is_untold s o t = let x : false ≡ true = sym (ap is_no_error (open_has_none s o)) ∙ both_right (not (is_awaited s)) (is_no_error s.outcomes) t in cc x

-- so whoever goes to the next link has no place
pub carried_is_unplaced : (s : Story) (l : ℕ) → is_open s ≡ true → has_place (carried s l) ≡ true → ⊥
carried_is_unplaced s l o t = elim (one_holds (is_room None) (is_told s) t) [ inl r ↦ cc r | inr told ↦ open_is_untold s o told ]

-- and whoever has one stays on its link
pub placed_stays : (b : Book) (a : Action) → MayStand b a → (n : ℕ) → n < b.submissions → has_place ((entered b a).story n) ≡ true → Stays b (b.story n) ((entered b a).story n)
placed_stays b a may n i t = elim (follows b a may n i).on [
  | inl stays ↦ stays
  | inr goes ↦ absurd (carried_is_unplaced (b.story n) b.links goes.1 (subst (λ s. has_place s ≡ true) goes.2 t))
]

-- an action gives a place to none that had none: who has one behind it was said to before, or has a place
abbrev GivesNone : Book → Action → Type 0
GivesNone b a = (n : ℕ) → n < b.submissions → is_unstarted ((entered b a).story n) ≡ true → has_place ((entered b a).story n) ≡ true → (has_place (b.story n) ≡ true) ⊎ HasItsPlace b n

-- so it is behind it
kept_by : (b : Book) (a : Action) → MayStand b a → Sound b → (entered b a).config ≡ b.config → GivesNone b a → PlacesAreKept b
    → (n : ℕ) → n < b.submissions → is_unstarted ((entered b a).story n) ≡ true → has_place ((entered b a).story n) ≡ true → HasItsPlace (entered b a) n
kept_by b a may sound same gives h n i u t =
    place_stays b a may sound n i same (sym (placed_stays b a may n i t).link) (elim (gives n i u t) [ inl before ↦ h n i ((follows b a may n i).unstarted u) before | inr place ↦ place ])

-- an event answers none
event_outcomes : (b : Book) (n : ℕ) (kind : EventKind) → (after_event b n kind).outcomes ≡ (b.story n).outcomes
event_outcomes b n (event.Submit what) = chosen (λ (s : Story). s.outcomes ≡ (b.story n).outcomes) (b.submissions == n) (handed_in (b.story n) what b.shut (is_unspoken b what) (max 1 b.generation) b.current b.timeout) (b.story n) (λ t. refl) (λ f. refl)
event_outcomes b n (event.Cancel m) = chosen (λ (s : Story). s.outcomes ≡ (b.story n).outcomes) (m == n) (left (b.story n)) (b.story n)
    (λ t. chosen (λ (s : Story). s.outcomes ≡ (b.story n).outcomes) (is_open (b.story n)) (record (b.story n) { cancelled = true; permits = 0; waiting = None }) (b.story n) (λ o. refl) (λ o. refl)) (λ f. refl)
event_outcomes b n (event.Connected l) = refl
event_outcomes b n (event.Refused l f) = refl
event_outcomes b n (event.Fired t) = chosen (λ (s : Story). s.outcomes ≡ (b.story n).outcomes) (is_clock_of n (slice_get b.timers t)) (fires (b.story n)) (b.story n)
    (λ e. chosen (λ (s : Story). s.outcomes ≡ (b.story n).outcomes) (is_open (b.story n)) (record (b.story n) { overdue = true }) (b.story n) (λ o. refl) (λ o. refl)) (λ f. refl)
event_outcomes b n (event.Timeout ms) = refl
event_outcomes b n (event.Creds c auth) = refl
event_outcomes b n (event.CredsError c text) = refl
event_outcomes b n (event.CredsEnd c) = refl
event_outcomes b n (event.Wrote l count) = refl
event_outcomes b n (event.Bytes l piece) = refl
event_outcomes b n (event.Ended l) = refl
event_outcomes b n (event.ReadFault l kind) = refl
event_outcomes b n (event.WriteFault l kind) = refl
event_outcomes b n event.DropStream = refl
event_outcomes b n event.Shutdown = refl

-- nor does it tell one
event_told : (b : Book) (n : ℕ) (kind : EventKind) → n < b.submissions → is_told (after_event b n kind) ≡ true → is_told (b.story n) ≡ true
event_told b n (event.Submit what) i t = subst (λ s. is_told s ≡ true) (left_if (b.submissions == n) (handed_in (b.story n) what b.shut (is_unspoken b what) (max 1 b.generation) b.current b.timeout) (b.story n) (ne_test b.submissions n (omega arith))) t
event_told b n (event.Cancel m) i t = chosen (λ s. is_told s ≡ true → is_told (b.story n) ≡ true) (m == n) (left (b.story n)) (b.story n)
    (λ e. chosen (λ s. is_told s ≡ true → is_told (b.story n) ≡ true) (is_open (b.story n)) (record (b.story n) { cancelled = true; permits = 0; waiting = None }) (b.story n) (λ o u. u) (λ o u. u)) (λ f u. u) t
event_told b n (event.Connected l) i t = t
event_told b n (event.Refused l f) i t = t
event_told b n (event.Fired w) i t = chosen (λ s. is_told s ≡ true → is_told (b.story n) ≡ true) (is_clock_of n (slice_get b.timers w)) (fires (b.story n)) (b.story n)
    (λ e. chosen (λ s. is_told s ≡ true → is_told (b.story n) ≡ true) (is_open (b.story n)) (record (b.story n) { overdue = true }) (b.story n) (λ o u. u) (λ o u. u)) (λ f u. u) t
event_told b n (event.Timeout ms) i t = t
event_told b n (event.Creds c auth) i t = t
event_told b n (event.CredsError c text) i t = t
event_told b n (event.CredsEnd c) i t = t
event_told b n (event.Wrote l count) i t = t
event_told b n (event.Bytes l piece) i t = t
event_told b n (event.Ended l) i t = t
event_told b n (event.ReadFault l kind) i t = t
event_told b n (event.WriteFault l kind) i t = t
event_told b n event.DropStream i t = t
event_told b n event.Shutdown i t = t

-- who waits for room behind an event did before
event_rooms : (b : Book) (n : ℕ) (kind : EventKind) → is_room (after_event b n kind).waiting ≡ true → is_room (b.story n).waiting ≡ true
event_rooms b n (event.Submit what) t = chosen (λ (s : Story). is_room s.waiting ≡ true → is_room (b.story n).waiting ≡ true) (b.submissions == n) (handed_in (b.story n) what b.shut (is_unspoken b what) (max 1 b.generation) b.current b.timeout) (b.story n) (λ e u. u) (λ f u. u) t
event_rooms b n (event.Cancel m) t = chosen (λ (s : Story). is_room s.waiting ≡ true → is_room (b.story n).waiting ≡ true) (m == n) (left (b.story n)) (b.story n)
    (λ e. chosen (λ (s : Story). is_room s.waiting ≡ true → is_room (b.story n).waiting ≡ true) (is_open (b.story n)) (record (b.story n) { cancelled = true; permits = 0; waiting = None }) (b.story n) (λ o u. absurd (cc u)) (λ o u. u)) (λ f u. u) t
event_rooms b n (event.Connected l) t = t
event_rooms b n (event.Refused l f) t = t
event_rooms b n (event.Fired w) t = chosen (λ (s : Story). is_room s.waiting ≡ true → is_room (b.story n).waiting ≡ true) (is_clock_of n (slice_get b.timers w)) (fires (b.story n)) (b.story n)
    (λ e. chosen (λ (s : Story). is_room s.waiting ≡ true → is_room (b.story n).waiting ≡ true) (is_open (b.story n)) (record (b.story n) { overdue = true }) (b.story n) (λ o u. u) (λ o u. u)) (λ f u. u) t
event_rooms b n (event.Timeout ms) t = t
event_rooms b n (event.Creds c auth) t = t
event_rooms b n (event.CredsError c text) t = t
event_rooms b n (event.CredsEnd c) t = t
event_rooms b n (event.Wrote l count) t = t
event_rooms b n (event.Bytes l piece) t = t
event_rooms b n (event.Ended l) t = t
event_rooms b n (event.ReadFault l kind) t = t
event_rooms b n (event.WriteFault l kind) t = t
event_rooms b n event.DropStream t = t
event_rooms b n event.Shutdown t = t

-- of two stories of one submission: where the second waits for room, so does the first, and where it was told, so was the first
place_from : (before after : Story) → (is_room after.waiting ≡ true → is_room before.waiting ≡ true) → (is_told after ≡ true → is_told before ≡ true) → has_place after ≡ true → has_place before ≡ true
place_from before after room told h = elim (one_holds (is_room after.waiting) (is_told after) h) [
  | inl r ↦ first_holds (is_room before.waiting) (is_told before) (room r)
  | inr t ↦ second_holds (is_room before.waiting) (is_told before) (told t)
]

-- so no event gives a place
pub event_placed : (b : Book) (n : ℕ) (kind : EventKind) → n < b.submissions → has_place (after_event b n kind) ≡ true → has_place (b.story n) ≡ true
event_placed b n kind i h = place_from (b.story n) (after_event b n kind) (event_rooms b n kind) (event_told b n kind i) h

-- what comes by an event is not told
new_is_untold : (b : Book) (n : ℕ) (kind : EventKind) → HasStories b → b.submissions ≤ n → is_told (after_event b n kind) ≡ true → ⊥
new_is_untold b n kind stories i t =
    let none : (after_event b n kind).outcomes ≡ [] = event_outcomes b n kind ∙ ap (λ (s : Story). s.outcomes) (stories n i) in
    let e : false ≡ true = sym (ap is_no_error none) ∙ both_right (not (is_awaited (after_event b n kind))) (is_no_error (after_event b n kind).outcomes) t in cc e

-- nor has it a place
pub new_is_unplaced : (b : Book) (n : ℕ) (kind : EventKind) → HasStories b → b.submissions ≤ n → has_place (after_event b n kind) ≡ true → ⊥
new_is_unplaced b n kind stories i h = elim (one_holds (is_room (after_event b n kind).waiting) (is_told (after_event b n kind)) h) [
  | inl r ↦ let x : false ≡ true = sym (ap (λ (s : Story). is_room s.waiting) (stories n i)) ∙ event_rooms b n kind r in cc x
  | inr t ↦ new_is_untold b n kind stories i t
]

-- where one that holds permits comes behind one that holds some
pub holds_like : (limit : Option ℕ) (p q : ℕ) → holds_some limit p ≡ true → (0 < p → 0 < q) → holds_some limit q ≡ true
holds_like None p q h more = refl
holds_like (Some k) p q h more = lt_test 0 q (more (lt_from 0 p h))

-- before one that makes a step and holds its permits, all that are to start on its link are admitted
admitted_before : (b : Book) (n : ℕ) → HoldersInOrder b → n < b.submissions → dials (link_of b n) ≡ false → is_ready (link_of b n) ≡ true → is_served (link_of b n) ≡ true → holds_some (permits_in b.config) (b.story n).permits ≡ true
    → ((m : ℕ) → m < n → CanMove b m → ⊥) → (m : ℕ) → m < n → is_to_start (b.story n).link (b.story m) ≡ true → is_admitted (permits_in b.config) (b.story m) ≡ true
admitted_before b n holders i d u v p first m j t =
    let same : (b.story m).link ≡ (b.story n).link = eq_from (b.story m).link (b.story n).link (both_left ((b.story m).link == (b.story n).link) (is_unstarted (b.story m)) t) in
    let unstarted : is_unstarted (b.story m) ≡ true = both_right ((b.story m).link == (b.story n).link) (is_unstarted (b.story m)) t in
    let dialing : dials (link_of b m) ≡ false = ap (λ x. dials (b.link x)) same ∙ d in
    let up : is_ready (link_of b m) ≡ true = ap (λ x. is_ready (b.link x)) same ∙ u in
    let served : is_served (link_of b m) ≡ true = ap (λ x. is_served (b.link x)) same ∙ v in
    by_test (is_told (b.story m)) (is_admitted (permits_in b.config) (b.story m) ≡ true)
    (λ told. first_holds (is_told (b.story m)) (is_let_in (permits_in b.config) (b.story m)) told)
    (λ untold.
    let holds : holds_some (permits_in b.config) (b.story m).permits ≡ true = holds_like (permits_in b.config) (b.story n).permits (b.story m).permits p (holders m n j i t untold) in
    second_holds (is_told (b.story m)) (is_let_in (permits_in b.config) (b.story m))
    (both_hold (holds_some (permits_in b.config) (b.story m).permits) (is_timed (b.story m).timeout (b.story m).clock) holds
    (holder_is_timed b m dialing up served untold holds (λ due. first m j (record { unstarted = unstarted; due = due })))))

-- so one that isn't outside has its place
inside_seated : (b : Book) (n : ℕ) → HoldersInOrder b → PlacesAreKept b → n < b.submissions → is_unstarted (b.story n) ≡ true → dials (link_of b n) ≡ false → is_ready (link_of b n) ≡ true → is_served (link_of b n) ≡ true → is_let_in (permits_in b.config) (b.story n) ≡ true
    → is_outside b n ≡ false → ((m : ℕ) → m < n → CanMove b m → ⊥) → HasItsPlace b n
inside_seated b n holders kept i unstarted d u v p inside first = elim (inside_has_room b n inside) [
  | inl place ↦ kept n i unstarted place
  | inr room ↦ record {
    room = room;
    ahead = admitted_before b n holders i d u v (both_left (holds_some (permits_in b.config) (b.story n).permits) (is_timed (b.story n).timeout (b.story n).clock) p) first;
  }
]

-- one that is told at its place
tell_seated : (b : Book) (m : ℕ) (o : Outcome) → Sound b → HoldersInOrder b → PlacesAreKept b → MayTell b m o → HasItsPlace b m
tell_seated b m o sound holders kept may =
    let t = tells_mean b m may.tells in
    inside_seated b m holders kept (mover_is_numbered b m sound.stories (teller_moves b m o may)) may.unstarted t.0 t.1 (mover_is_served b m (teller_moves b m o may)) t.2 t.3 may.in_order

-- it was told, so it was said to have a place
pub told_place : (s : Story) → is_told s ≡ true → has_place s ≡ true
told_place s t = second_holds (is_room s.waiting) (is_told s) t

-- one that is shown to wait for room
wait_seated : (b : Book) (m : ℕ) (kind : WaitKind) → HoldersInOrder b → PlacesAreKept b → MayWait b m kind → m < b.submissions → is_unstarted (b.story m) ≡ true → is_room (Some kind) ≡ true → (has_place (b.story m) ≡ true) ⊎ HasItsPlace b m
wait_seated b m wait.Room holders kept may i unstarted e =
    let t = rooms_mean b m may.holds in
    elim t.2 [
      | inl told ↦ inl (told_place (b.story m) told)
      | inr placed ↦ inr (inside_seated b m holders kept i unstarted t.0 t.1 (room_is_served b m may.holds) placed.0 placed.1 (λ k below. may.written.moved.moved k))
    ]
wait_seated b m _ holders kept may i unstarted e = absurd (cc e)

-- an outcome tells in place
outcome_tells : (b : Book) (m : ℕ) (o : Outcome) → Sound b → HoldersInOrder b → PlacesAreKept b → MayAnswer b m o ⊎ MayTell b m o → is_unstarted (answered (b.story m) o) ≡ true → HasItsPlace b m
outcome_tells b m o sound holders kept (inl owes) u = absurd (owed_is_done b m o owes u)
outcome_tells b m o sound holders kept (inr told) u = tell_seated b m o sound holders kept told

-- where nobody is told, or waits
unchanged : (b : Book) (a : Action) → ((n : ℕ) → has_place ((entered b a).story n) ≡ true → has_place (b.story n) ≡ true) → GivesNone b a
unchanged b a same n i u t = inl (same n t)

-- each action that may stand keeps it
seated_kept : (b : Book) (a : Action) → MayStand b a → Sound b → HoldersInOrder b → PlacesAreKept b → PlacesAreKept (entered b a)
seated_kept b (action.Turn k (cause.Opening config word)) may sound holders h = λ n i u t. let start : b.turns ≡ 0 = may.is_for in let none : b.submissions ≡ 0 = sound.opens.none_yet (omega (arith, start)) in absurd (omega (arith, none, i))
seated_kept b (action.Turn k (cause.Event e)) may sound holders h = λ n i u t. by_test (nat_lt n b.submissions) (HasItsPlace (entered b (action.Turn k (cause.Event e))) n)
    (λ old. kept_by b (action.Turn k (cause.Event e)) may sound refl (λ m j v w. inl (event_placed b m e.kind j w)) h n (lt_from n b.submissions old) u t)
    (λ new. absurd (new_is_unplaced b n e.kind sound.stories (not_lt_from n b.submissions new) t))
seated_kept b (action.Connect l host port) may sound holders h = kept_by b (action.Connect l host port) may sound refl (unchanged b (action.Connect l host port) (λ n t. t)) h
seated_kept b (action.Timer w ms what) may sound holders h =
    kept_by b (action.Timer w ms what) may sound refl (unchanged b (action.Timer w ms what) (λ n. timer_keeps (λ s. has_place s ≡ true → has_place (b.story n) ≡ true) b n w what (λ e o t. absurd (carried_is_unplaced (b.story n) b.links o t)) (λ e t. t) (λ t. t))) h
seated_kept b (action.Took owner.Setup l count) may sound holders h = absurd may
seated_kept b (action.Took owner.Auth l count) may sound holders h = absurd may
seated_kept b (action.Took owner.Resub l count) may sound holders h = absurd may
seated_kept b (action.Took owner.Monitor l count) may sound holders h = absurd may
seated_kept b (action.Took (owner.Try m round) l count) may sound holders h =
    kept_by b (action.Took (owner.Try m round) l count) may sound refl (unchanged b (action.Took (owner.Try m round) l count) (λ n. chosen (λ s. has_place s ≡ true → has_place (b.story n) ≡ true) (m == n) (holds (b.story n) count) (b.story n) (λ e t. t) (λ f t. t))) h
seated_kept b (action.Push l info) may sound holders h = kept_by b (action.Push l info) may sound refl (unchanged b (action.Push l info) (λ n t. t)) h
seated_kept b (action.Message msg) may sound holders h = kept_by b (action.Message msg) may sound refl (unchanged b (action.Message msg) (λ n t. t)) h
seated_kept b (action.Monitor v) may sound holders h = kept_by b (action.Monitor v) may sound refl (unchanged b (action.Monitor v) (λ n t. t)) h
seated_kept b (action.NeedCreds c l) may sound holders h = kept_by b (action.NeedCreds c l) may sound refl (unchanged b (action.NeedCreds c l) (λ n t. t)) h
seated_kept b (action.Generation g) may sound holders h = kept_by b (action.Generation g) may sound refl (unchanged b (action.Generation g) (λ n t. t)) h
seated_kept b (action.Round owner.Setup on) may sound holders h = absurd may
seated_kept b (action.Round owner.Auth on) may sound holders h = absurd may
seated_kept b (action.Round owner.Resub on) may sound holders h = absurd may
seated_kept b (action.Round owner.Monitor on) may sound holders h = absurd may
seated_kept b (action.Round (owner.Try m round) on) may sound holders h =
    kept_by b (action.Round (owner.Try m round) on) may sound refl (unchanged b (action.Round (owner.Try m round) on) (λ n. chosen (λ s. has_place s ≡ true → has_place (b.story n) ≡ true) (m == n) (rounds (b.story n)) (b.story n) (λ e. place_from (b.story n) (rounds (b.story n)) (λ r. absurd (cc r)) (λ t. t)) (λ f t. t))) h
seated_kept b (action.Close l) may sound holders h = kept_by b (action.Close l) may sound refl (unchanged b (action.Close l) (λ n t. t)) h
seated_kept b (action.Write l bytes) may sound holders h = kept_by b (action.Write l bytes) may sound refl (unchanged b (action.Write l bytes) (λ n t. t)) h
seated_kept b (action.Wait owner.Setup kind) may sound holders h = absurd may
seated_kept b (action.Wait owner.Auth kind) may sound holders h = absurd may
seated_kept b (action.Wait owner.Resub kind) may sound holders h = absurd may
seated_kept b (action.Wait owner.Monitor kind) may sound holders h = absurd may
seated_kept b (action.Wait (owner.Try m round) kind) may sound holders h =
    kept_by b (action.Wait (owner.Try m round) kind) may sound refl
    (λ n i. chosen (λ s. is_unstarted s ≡ true → has_place s ≡ true → (has_place (b.story n) ≡ true) ⊎ HasItsPlace b n) (m == n) (waits (b.story n) kind) (b.story n)
    (λ e u p. elim (one_holds (is_room (Some kind)) (is_told (b.story n)) p) [
      | inl r ↦ wait_seated b n kind holders h (subst (λ j. MayWait b j kind) (eq_from m n e) may.1) i u r
      | inr t ↦ inl (told_place (b.story n) t)
    ])
    (λ f u p. inl p)) h
seated_kept b (action.Start l k owner.Setup count len) may sound holders h = kept_by b (action.Start l k owner.Setup count len) may sound refl (unchanged b (action.Start l k owner.Setup count len) (λ n t. t)) h
seated_kept b (action.Start l k owner.Auth count len) may sound holders h = kept_by b (action.Start l k owner.Auth count len) may sound refl (unchanged b (action.Start l k owner.Auth count len) (λ n t. t)) h
seated_kept b (action.Start l k owner.Resub count len) may sound holders h = kept_by b (action.Start l k owner.Resub count len) may sound refl (unchanged b (action.Start l k owner.Resub count len) (λ n t. t)) h
seated_kept b (action.Start l k owner.Monitor count len) may sound holders h = kept_by b (action.Start l k owner.Monitor count len) may sound refl (unchanged b (action.Start l k owner.Monitor count len) (λ n t. t)) h
seated_kept b (action.Start l k (owner.Try m round) count len) may sound holders h =
    kept_by b (action.Start l k (owner.Try m round) count len) may sound refl (unchanged b (action.Start l k (owner.Try m round) count len) (λ n. chosen (λ s. has_place s ≡ true → has_place (b.story n) ≡ true) (m == n) (tried (b.story n) l k) (b.story n) (λ e. place_from (b.story n) (tried (b.story n) l k) (λ r. absurd (cc r)) (λ t. t)) (λ f t. t))) h
seated_kept b (action.Created e) may sound holders h = kept_by b (action.Created e) may sound refl (unchanged b (action.Created e) (λ n t. t)) h
seated_kept b (action.Outcome m o) may sound holders h =
    kept_by b (action.Outcome m o) may sound refl
    (λ n i. chosen (λ s. is_unstarted s ≡ true → has_place s ≡ true → (has_place (b.story n) ≡ true) ⊎ HasItsPlace b n) (m == n) (answered (b.story n) o) (b.story n)
    (λ e u t. inr (subst (λ j. is_unstarted (answered (b.story j) o) ≡ true → HasItsPlace b j) (eq_from m n e) (outcome_tells b m o sound holders h may) u))
    (λ f u t. inl t)) h

-- submission n takes permits now
abbrev pub TakesNow : Book → ℕ → Type 0
TakesNow b n = (l : ℕ) × (count : ℕ) × MayTake b n l count

-- where it takes some, all before it on its link hold some
taker_behind : (b : Book) (m n : ℕ) → m < n → is_to_start (b.story n).link (b.story m) ≡ true → is_told (b.story m) ≡ false → TakesNow b n → 0 < (b.story m).permits
taker_behind b m n i t untold now =
    let may : MayTake b n now.0 now.1 = now.2 in
    let x = takes_mean b n now.1 may.takes in
    let same : (b.story m).link ≡ (b.story n).link = eq_from (b.story m).link (b.story n).link (both_left ((b.story m).link == (b.story n).link) (is_unstarted (b.story m)) t) in
    let unstarted : is_unstarted (b.story m) ≡ true = both_right ((b.story m).link == (b.story n).link) (is_unstarted (b.story m)) t in
    rester_holds b m x.2.0 (ap (λ y. dials (b.link y)) same ∙ x.0) (ap (λ y. is_ready (b.link y)) same ∙ x.1) (ap (λ y. is_served (b.link y)) same ∙ mover_is_served b n (taker_moves b n now.0 now.1 may)) untold x.2.1 (subst (λ y. 0 < free_permits b y x.2.0) (sym same) x.2.4)
    (λ due. may.in_order m i (record { unstarted = unstarted; due = due }))

-- whoever holds permits behind an action held some, or takes them now
abbrev pub Gains : Book → ℕ → Story → Type 0
Gains b n s = 0 < s.permits → (0 < (b.story n).permits) ⊎ TakesNow b n

-- no action gives any but the taking
pub gains : (b : Book) (a : Action) → MayStand b a → (n : ℕ) → Gains b n ((entered b a).story n)
gains b a may n =
    action_keeps (Gains b n) b a n (record {
      events = record {
        handed = λ what t i. inl i;
        left = left_keeps (Gains b n) (b.story n) (λ o i. absurd (omega (arith, i))) (λ i. inl i);
        fired = λ t c. fires_keeps (Gains b n) (b.story n) (λ o i. inl i) (λ i. inl i);
      };
      timed = λ t ms what e. timer_keeps (Gains b n) b n t what (λ r o i. absurd (omega (arith, i))) (λ c i. inl i) (λ i. inl i);
      held = λ l count round e i. inr (l, count, (subst (MayStand b) e may).1);
      rounded = (λ i. inl i);
      waited = λ kind i. inl i;
      started = λ l k round count len e i. inl i;
      answered = λ o e i. absurd (omega (arith, i));
    }) (λ i. inl i)

-- what isn't told behind an action wasn't before
untold_before : (b : Book) (before after : Story) → Follows b before after → is_unstarted after ≡ true → is_told after ≡ false → is_told before ≡ false
untold_before b before after f u n = by_test (is_told before) (is_told before ≡ false) (λ t. absurd (not_both (is_told after) n (f.told u t))) (λ e. e)

-- who holds no permits gains none but by taking them, which a numbered one does
pub holder_is_numbered : (b : Book) (n : ℕ) → HasStories b → (0 < (b.story n).permits) ⊎ TakesNow b n → n < b.submissions
holder_is_numbered b n stories (inl i) = by_test (nat_lt n b.submissions) (n < b.submissions) (lt_from n b.submissions)
    (λ f. absurd (let none : (b.story n).permits ≡ 0 = ap (λ (s : Story). s.permits) (stories n (not_lt_from n b.submissions f)) in omega (arith, none, i)))
holder_is_numbered b n stories (inr now) = mover_is_numbered b n stories (taker_moves b n now.0 now.1 now.2)

-- and who holds some stays on its link
holder_stays : (b : Book) (a : Action) → MayStand b a → (n : ℕ) → n < b.submissions → 0 < ((entered b a).story n).permits → Stays b (b.story n) ((entered b a).story n)
holder_stays b a may n i some = elim (follows b a may n i).on [
  | inl stays ↦ stays
  | inr goes ↦ absurd (let none : ((entered b a).story n).permits ≡ 0 = ap (λ (s : Story). s.permits) goes.2 in omega (arith, none, some))
]

-- each action that may stand keeps the holders in order
holders_kept : (b : Book) (a : Action) → MayStand b a → Sound b → HoldersInOrder b → HoldersInOrder (entered b a)
holders_kept b a may sound h m n i numbered t untold some =
    let gained : (0 < (b.story n).permits) ⊎ TakesNow b n = gains b a may n some in
    let j : n < b.submissions = holder_is_numbered b n sound.stories gained in
    let fm : Follows b (b.story m) ((entered b a).story m) = follows b a may m (omega (arith, i, j)) in
    let u : is_unstarted ((entered b a).story m) ≡ true = both_right (((entered b a).story m).link == ((entered b a).story n).link) (is_unstarted ((entered b a).story m)) t in
    let on : is_to_start (b.story n).link ((entered b a).story m) ≡ true = subst (λ x. is_to_start x ((entered b a).story m) ≡ true) (holder_stays b a may n j some).link t in
    let before : is_to_start (b.story n).link (b.story m) ≡ true = to_start_before b a may (b.story n).link m (omega (arith, i, j)) (story_apart b n sound) on in
    let was_untold : is_told (b.story m) ≡ false = untold_before b (b.story m) ((entered b a).story m) fm u untold in
    (to_start_stays b a may (b.story n).link m (omega (arith, i, j)) (story_apart b n sound) on).holds u untold (elim gained [ inl had ↦ h m n i j before was_untold had | inr now ↦ taker_behind b m n i before was_untold now ])

-- who has a place keeps it, and who holds permits does so in order
pub record IsSeated (b : Book) : Type 0 where
  pub kept : PlacesAreKept b
  pub holders : HoldersInOrder b

-- each action that may stand keeps it
pub stays_seated : (b : Book) (a : Action) → MayStand b a → Sound b → IsSeated b → IsSeated (entered b a)
stays_seated b a may sound h = record { kept = seated_kept b a may sound h.holders h.kept; holders = holders_kept b a may sound h.holders }

-- and so do many
stay_seated : (b : Book) (front : List Action) → AllStand b front → Sound b → IsSeated b → IsSeated (entered_each b front)
stay_seated b [] all sound h = h
stay_seated b (a ∷ more) all sound h = stay_seated (entered b a) more all.1 (stays_sound b a all.0 sound) (stays_seated b a all.0 sound h)

-- so it is behind actions that may stand
pub seated_behind : (front : List Action) → AllStand blank_book front → IsSeated (book front)
unfolding book
seated_behind front all = stay_seated blank_book front all blank_is_sound (record { kept = λ n i u t. absurd (omega (arith, i)); holders = λ m n i j t untold some. absurd (omega (arith, j)) })
