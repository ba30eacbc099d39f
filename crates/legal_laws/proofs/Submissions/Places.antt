-- Since when submissions have their places: earlier submissions took them earlier, or in the same turn.
use Rattle.std.proofs.Common.{◌≡◌, ◌⊎◌, inl, inr, ℕ, ◌-◌, ◌<◌, ◌≤◌, ◌==◌, nat_lt, Bool, true, false, ◌&&◌, ◌||◌, not, List, [], ◌∷◌, Option, Some, None, is_some, if◌then◌else◌, refl, sym, ◌∙◌, ap, subst, arith}
use Rattle.containers.proofs.Choices.{by_test, chosen, left_if, eq_from, eq_test, ne_test, lt_from, not_lt_from, not_both, both_left, both_right}
use Rattle.driver_model.specs.declared.action.Action.{Action}
use Rattle.driver_model.specs.declared.action.Action.TheVariants as action
use Rattle.driver_model.specs.declared.action.Cause.{Cause}
use Rattle.driver_model.specs.declared.action.Cause.TheVariants as cause
use Rattle.driver_model.specs.declared.action.Owner.TheVariants as owner
use Rattle.driver_model.specs.declared.action.WaitKind.{WaitKind}
use Rattle.driver_model.specs.declared.action.WaitKind.TheVariants as wait
use Rattle.driver_model.specs.declared.outcome.Outcome.{Outcome}
use Rattle.legal_trace.specs.Ledger.{is_over, is_set_up}
use Rattle.legal_trace.specs.Story.{Story, has_place, is_room, is_open, is_told, is_unstarted, last_of, left, holds, rounds, tried, waits, answered}
use Rattle.legal_trace.specs.Book.{Book, blank_book, entered, entered_each, placed_since, story_after}
use Rattle.legal_trace.specs.Steps.{Step, nothing, step_down, permits_in, is_let_in, is_in_line, step_ready, unready_wait, next_step}
use Rattle.legal_trace.specs.Steps.{waits as shows, rounds as begins_round}
use Rattle.legal_trace.specs.Legal.{MayStand, MayAnswer, MayTell, AllStand, IsSettled, IsWaiting, link_of}
use Rattle.legal_trace.proofs.Clocks.{timer_keeps}
use Rattle.legal_trace.proofs.Moves.{both_hold, one_holds, has_no_tries, open_or_told}
use Rattle.legal_trace.proofs.Plain.{not_empty, not_none, same_some}
use Rattle.legal_laws.proofs.Internal.Serving.{TakesRequests}
use Rattle.legal_laws.proofs.Submissions.InLine.{is_to_start, first_holds, second_holds, follows, leaver_is_done, owed_is_done, story_apart, to_start_before}
use Rattle.legal_laws.proofs.Submissions.Rising.{room_before}
use Rattle.legal_laws.proofs.Submissions.Seated.{IsSeated, event_placed, new_is_unplaced, open_is_untold, placed_stays, stays_seated, told_place}
use Rattle.legal_laws.proofs.Submissions.Sitting.{AllSit, AtSeat, Sits, round_step, seat_step, sit_kept}
use Rattle.legal_laws.proofs.Submissions.Steps.{event_keeps, fires_keeps}
use Rattle.legal_laws.proofs.Traces.Held.{not_open}
use Rattle.legal_laws.proofs.Traces.Numbers.{asked_is_numbered}
use Rattle.legal_laws.proofs.Traces.Sound.{Sound, stays_sound, blank_is_sound}
use Rattle.legal_laws.proofs.Waits.Counts.{waits_in_place}

-- who has had a place since a turn has it, and took it before or in the turn that runs
since_some : (has : Bool) (old : Option ℕ) (turn t : ℕ) → placed_since has old turn ≡ Some t → (has ≡ true) × ((old ≡ Some t) ⊎ (t ≡ turn))
since_some false old turn t e = absurd (cc e)
since_some true None turn t e = (refl, inr (sym (same_some turn t e)))
since_some true (Some p) turn t e = (refl, inl e)

-- who has one has it since a turn
since_has : (has : Bool) (old : Option ℕ) (turn : ℕ) → has ≡ true → (t : ℕ) × (placed_since has old turn ≡ Some t)
since_has false old turn e = absurd (cc e)
since_has true None turn e = (turn, refl)
since_has true (Some p) turn e = (p, refl)

-- the same as before, where it had one
since_keeps : (has : Bool) (old : Option ℕ) (turn p : ℕ) → has ≡ true → old ≡ Some p → placed_since has old turn ≡ Some p
since_keeps false old turn p e o = absurd (cc e)
since_keeps true None turn p e o = absurd (cc o)
since_keeps true (Some q) turn p e o = o

-- an action that begins a turn
abbrev is_turn : Action → Bool
is_turn (action.Turn k c) = true
is_turn _ = false

turn_of : (a : Action) → is_turn a ≡ true → (k : ℕ) × (c : Cause) × (a ≡ action.Turn k c)
turn_of (action.Turn k c) e = (k, c, refl)
turn_of _ e = absurd (cc e)

-- any other counts no turn, and no submission
turns_same : (b : Book) (a : Action) → is_turn a ≡ false → (entered b a).turns ≡ b.turns
turns_same b (action.Turn k c) e = absurd (cc e)
turns_same b _ e = refl

submissions_same : (b : Book) (a : Action) → is_turn a ≡ false → (entered b a).submissions ≡ b.submissions
submissions_same b (action.Turn k c) e = absurd (cc e)
submissions_same b _ e = refl

-- turns grow with actions
pub turns_grow : (b : Book) (a : Action) → b.turns ≤ (entered b a).turns
turns_grow b (action.Turn k (cause.Opening config word)) = omega arith
turns_grow b (action.Turn k (cause.Event e)) = omega arith
turns_grow b _ = omega arith

-- what is asked of a story of one that has a place
abbrev StaysPlaced : Book → Story → Type 0
StaysPlaced b s = is_unstarted s ≡ true → (has_place s ≡ true) ⊎ (s.link ≡ b.links)

-- where its caller leaves
left_placed : (b : Book) (s : Story) → StaysPlaced b s → StaysPlaced b (left s)
left_placed b s h = by_test (is_open s) (StaysPlaced b (left s)) (λ o u. absurd (leaver_is_done s o u))
    (λ f. subst (StaysPlaced b) (sym (left_if (is_open s) (record s { cancelled = true; permits = 0; waiting = None }) s f)) h)

-- where it is answered
answered_placed : (b : Book) (n : ℕ) (o : Outcome) → MayAnswer b n o ⊎ MayTell b n o → StaysPlaced b (answered (b.story n) o)
answered_placed b n o (inl owes) u = absurd (owed_is_done b n o owes u)
answered_placed b n o (inr may) u = elim (open_or_told (answered (b.story n) o) u) [ inl still ↦ absurd (not_open (b.story n) o still) | inr told ↦ inl (told_place (answered (b.story n) o) told) ]

-- who has a place keeps it behind an action until it starts, but where it goes to the next link
pub place_kept : (b : Book) (a : Action) → MayStand b a → (n : ℕ) → n < b.submissions → Sits b n → has_place (b.story n) ≡ true → StaysPlaced b ((entered b a).story n)
place_kept b (action.Turn k (cause.Event e)) may n i h p = event_keeps (StaysPlaced b) b n e.kind (record {
  handed = λ what t. absurd (not_both (b.submissions == n) (ne_test b.submissions n (omega (arith, i))) t);
  left = left_placed b (b.story n) (λ u. inl p);
  fired = λ t c. fires_keeps (StaysPlaced b) (b.story n) (λ o u. inl p) (λ u. inl p);
})
    (λ u. inl p)
place_kept b (action.Timer t ms what) may n i h p = timer_keeps (StaysPlaced b) b n t what (λ r o u. inr refl) (λ c u. inl p) (λ u. inl p)
place_kept b (action.Took owner.Setup l count) may n i h p = absurd may
place_kept b (action.Took owner.Auth l count) may n i h p = absurd may
place_kept b (action.Took owner.Resub l count) may n i h p = absurd may
place_kept b (action.Took owner.Monitor l count) may n i h p = absurd may
place_kept b (action.Took (owner.Try m round) l count) may n i h p = chosen (StaysPlaced b) (m == n) (holds (b.story n) count) (b.story n) (λ e u. inl p) (λ f u. inl p)
place_kept b (action.Round owner.Setup on) may n i h p = absurd may
place_kept b (action.Round owner.Auth on) may n i h p = absurd may
place_kept b (action.Round owner.Resub on) may n i h p = absurd may
place_kept b (action.Round owner.Monitor on) may n i h p = absurd may
place_kept b (action.Round (owner.Try m round) on) may n i h p = chosen (StaysPlaced b) (m == n) (rounds (b.story n)) (b.story n)
    (λ e u. absurd (subst AtSeat (subst (λ j. next_step b j ≡ begins_round) (eq_from m n e) (round_step b m on may.1)) (seat_step b n h p))) (λ f u. inl p)
place_kept b (action.Wait owner.Setup kind) may n i h p = absurd may
place_kept b (action.Wait owner.Auth kind) may n i h p = absurd may
place_kept b (action.Wait owner.Resub kind) may n i h p = absurd may
place_kept b (action.Wait owner.Monitor kind) may n i h p = absurd may
place_kept b (action.Wait (owner.Try m round) kind) may n i h p = chosen (StaysPlaced b) (m == n) (waits (b.story n) kind) (b.story n)
    (λ e u.
    let room : kind ≡ wait.Room = subst AtSeat (subst (λ j. next_step b j ≡ shows kind) (eq_from m n e) may.1.holds) (seat_step b n h p) in
    inl (first_holds (is_room (Some kind)) (is_told (b.story n)) (ap (λ k. is_room (Some k)) room)))
    (λ f u. inl p)
place_kept b (action.Start l k owner.Setup count len) may n i h p = λ u. inl p
place_kept b (action.Start l k owner.Auth count len) may n i h p = λ u. inl p
place_kept b (action.Start l k owner.Resub count len) may n i h p = λ u. inl p
place_kept b (action.Start l k owner.Monitor count len) may n i h p = λ u. inl p
place_kept b (action.Start l k (owner.Try m round) count len) may n i h p = chosen (StaysPlaced b) (m == n) (tried (b.story n) l k) (b.story n)
    (λ e u. absurd (not_empty (b.story n).tries (record { link = l; message = k }) (has_no_tries (tried (b.story n) l k) u))) (λ f u. inl p)
place_kept b (action.Outcome m o) may n i h p = chosen (StaysPlaced b) (m == n) (answered (b.story n) o) (b.story n)
    (λ e. answered_placed b n o (subst (λ j. MayAnswer b j o ⊎ MayTell b j o) (eq_from m n e) may)) (λ f u. inl p)
place_kept b _ may n i h p = λ u. inl p

-- a link that has ended is done with
gone_step : (asked up over set : Bool) (unready : WaitKind) (step : Step) → asked ≡ true → up ≡ false → over ≡ true → (if asked && not up && not over then shows wait.Connect else if up then (if set then step else shows unready) else step_down asked) ≡ nothing
gone_step true false true set unready step a u o = refl
gone_step true false false set unready step a u o = absurd (cc o)
gone_step true true over set unready step a u o = absurd (cc u)
gone_step false up over set unready step a u o = absurd (cc a)

-- where a turn is settled, all before one that has a place have one that are to start on its link
settled_places : (b : Book) (m n : ℕ) → Sound b → IsSeated b → AllSit b → IsSettled b → m < n → n < b.submissions → is_unstarted (b.story n) ≡ true → has_place (b.story n) ≡ true → is_to_start (b.story n).link (b.story m) ≡ true → has_place (b.story m) ≡ true
settled_places b m n sound seated sit settled below i u p t =
    let unstarted : is_unstarted (b.story m) ≡ true = both_right ((b.story m).link == (b.story n).link) (is_unstarted (b.story m)) t in
    let same : (b.story m).link ≡ (b.story n).link = eq_from (b.story m).link (b.story n).link (both_left ((b.story m).link == (b.story n).link) (is_unstarted (b.story m)) t) in
    let link = subst (λ l. TakesRequests (b.link l)) (sym same) (sit n i u p).link in
    let seat = seated.kept n i u p in
    elim (open_or_told (b.story m) unstarted) [
      | inr told ↦ told_place (b.story m) told
      | inl o ↦
          let none : (b.story m).tries ≡ [] = has_no_tries (b.story m) unstarted in
          let waiting : IsWaiting b m = elim (settled.goes m o) [ inl started ↦ absurd (not_none (last_of (b.story m).tries) started.try (ap last_of none) started.last) | inr w ↦ w ] in
          elim link.stood [
            | inr over ↦
                let down : (link_of b m).up ≡ false = by_test (link_of b m).up ((link_of b m).up ≡ false) (λ up. absurd (let x : false ≡ true = sym (ap is_some (sound.up (b.story m).link up)) ∙ over in cc x)) (λ f. f) in
                absurd (let x : nothing ≡ shows waiting.kind = sym (gone_step (link_of b m).asked (link_of b m).up (is_over (link_of b m)) (is_set_up (link_of b m)) (unready_wait (link_of b m)) (step_ready b m (b.story m)) link.asked down over) ∙ waiting.holds in cc x)
            | inl up ↦
                let let_in : is_let_in (permits_in b.config) (b.story m) ≡ true = elim (one_holds (is_told (b.story m)) (is_let_in (permits_in b.config) (b.story m)) (seat.ahead m below t)) [ inl told ↦ absurd (open_is_untold (b.story m) o told) | inr enters ↦ enters ] in
                let stands : is_in_line (permits_in b.config) (b.story m).link (b.story m) ≡ true =
                both_hold ((b.story m).link == (b.story m).link) (is_unstarted (b.story m) && (is_told (b.story m) || is_let_in (permits_in b.config) (b.story m))) (eq_test (b.story m).link (b.story m).link refl)
                (both_hold (is_unstarted (b.story m)) (is_told (b.story m) || is_let_in (permits_in b.config) (b.story m)) unstarted (second_holds (is_told (b.story m)) (is_let_in (permits_in b.config) (b.story m)) let_in)) in
                waits_in_place b m (record { up = up; set = link.set; served = link.served }) waiting let_in (room_before b m n same below stands seat.room)
          ]
    ]

-- submission m has its place since that turn, or since an earlier one; or that turn runs
abbrev pub Behind : Book → ℕ → ℕ → Type 0
Behind b m t = ((p : ℕ) × (b.placed m ≡ Some p) × (p ≤ t)) ⊎ (b.turns - 1 ≤ t)

-- who has a place behind an action had it before, or takes it in the turn that runs
pub placed_step : (b : Book) (a : Action) (n t : ℕ) → (entered b a).placed n ≡ Some t → (b.placed n ≡ Some t) ⊎ (t ≡ b.turns - 1)
placed_step b a n t e = (since_some (has_place (story_after b n a)) (b.placed n) (b.turns - 1) t e).1

-- places are had since turns that began, and each that has one has it since a turn; before one that has one all have it that are
-- to start on its link, as early or earlier, but in the turn that runs
pub record AreInTurn (b : Book) : Type 0 where
  pub early : (n t : ℕ) → b.placed n ≡ Some t → t ≤ b.turns - 1
  pub has : (n t : ℕ) → b.placed n ≡ Some t → has_place (b.story n) ≡ true
  pub since : (n : ℕ) → has_place (b.story n) ≡ true → (t : ℕ) × (b.placed n ≡ Some t)
  pub rise : (m n t : ℕ) → m < n → n < b.submissions → is_unstarted (b.story n) ≡ true → is_to_start (b.story n).link (b.story m) ≡ true → b.placed n ≡ Some t → Behind b m t

-- what is known where they are
pub record Knows (b : Book) : Type 0 where
  pub sound : Sound b
  pub seated : IsSeated b
  pub sit : AllSit b
  pub places : AreInTurn b

-- an action leaves the place of one that keeps it
pub placed_again : (b : Book) (a : Action) (m p : ℕ) → has_place ((entered b a).story m) ≡ true → b.placed m ≡ Some p → (entered b a).placed m ≡ Some p
placed_again b a m p has old = since_keeps (has_place (story_after b m a)) (b.placed m) (b.turns - 1) p has old

-- who had a place behind an action, and had it before, is on a link that was asked for
on_numbered : (b : Book) (n : ℕ) → Knows b → n < b.submissions → is_unstarted (b.story n) ≡ true → has_place (b.story n) ≡ true → (b.story n).link < b.links
on_numbered b n k i u p = asked_is_numbered b (b.story n).link k.sound.links (k.sit n i u p).link.asked

-- behind an action, where both had places before
both_behind : (b : Book) (a : Action) → MayStand b a → Knows b → (m n t : ℕ) → m < n → n < b.submissions → is_unstarted ((entered b a).story n) ≡ true → is_to_start ((entered b a).story n).link ((entered b a).story m) ≡ true
    → b.placed n ≡ Some t → has_place ((entered b a).story n) ≡ true → (p : ℕ) → b.placed m ≡ Some p → p ≤ t → Behind (entered b a) m t
both_behind b a may k m n t below i u to old has p mine less =
    let un : is_unstarted (b.story n) ≡ true = (follows b a may n i).unstarted u in
    let pn : has_place (b.story n) ≡ true = k.places.has n t old in
    let on : ((entered b a).story n).link ≡ (b.story n).link = (placed_stays b a may n i has).link in
    let numbered : m < b.submissions = omega (arith, below, i) in
    let um : is_unstarted ((entered b a).story m) ≡ true = both_right (((entered b a).story m).link == ((entered b a).story n).link) (is_unstarted ((entered b a).story m)) to in
    let same : ((entered b a).story m).link ≡ ((entered b a).story n).link = eq_from ((entered b a).story m).link ((entered b a).story n).link (both_left (((entered b a).story m).link == ((entered b a).story n).link) (is_unstarted ((entered b a).story m)) to) in
    let within : (b.story n).link < b.links = on_numbered b n k i un pn in
    let pm : has_place (b.story m) ≡ true = k.places.has m p mine in
    elim (place_kept b a may m numbered (k.sit m numbered ((follows b a may m numbered).unstarted um) pm) pm um) [
      | inl stays ↦ inl (p, placed_again b a m p stays mine, less)
      | inr goes ↦ absurd (omega (arith, within, on, same, goes))
    ]

-- who is to start behind an action was to before, on the link of one that keeps its place
to_before : (b : Book) (a : Action) → MayStand b a → Knows b → (m n : ℕ) → m < n → n < b.submissions → has_place ((entered b a).story n) ≡ true → is_to_start ((entered b a).story n).link ((entered b a).story m) ≡ true → is_to_start (b.story n).link (b.story m) ≡ true
to_before b a may k m n below i has to =
    let on : ((entered b a).story n).link ≡ (b.story n).link = (placed_stays b a may n i has).link in
    to_start_before b a may (b.story n).link m (omega (arith, below, i)) (story_apart b n k.sound) (subst (λ l. is_to_start l ((entered b a).story m) ≡ true) on to)

-- so it is behind an action in a turn
within_turn : (b : Book) (a : Action) → MayStand b a → Knows b → is_turn a ≡ false → (m n t : ℕ) → m < n → n < (entered b a).submissions → is_unstarted ((entered b a).story n) ≡ true → is_to_start ((entered b a).story n).link ((entered b a).story m) ≡ true
    → (entered b a).placed n ≡ Some t → Behind (entered b a) m t
within_turn b a may k plain m n t below more u to placed =
    let turns : (entered b a).turns ≡ b.turns = turns_same b a plain in
    let count : (entered b a).submissions ≡ b.submissions = submissions_same b a plain in
    let i : n < b.submissions = omega (arith, more, count) in
    let x = since_some (has_place (story_after b n a)) (b.placed n) (b.turns - 1) t placed in
    elim x.1 [
      | inr now ↦ inr (omega (arith, now, turns))
      | inl old ↦
          elim (k.places.rise m n t below i ((follows b a may n i).unstarted u) (to_before b a may k m n below i x.0 to) old) [
            | inl p ↦ both_behind b a may k m n t below i u to old x.0 p.0 p.1 p.2
            | inr runs ↦ inr (omega (arith, runs, turns))
          ]
    ]

-- and behind the event of the next turn
next_turn : (b : Book) (number : ℕ) (c : Cause) → MayStand b (action.Turn number c) → Knows b → (m n t : ℕ) → m < n → n < (entered b (action.Turn number c)).submissions → is_unstarted ((entered b (action.Turn number c)).story n) ≡ true
    → is_to_start ((entered b (action.Turn number c)).story n).link ((entered b (action.Turn number c)).story m) ≡ true → (entered b (action.Turn number c)).placed n ≡ Some t → Behind (entered b (action.Turn number c)) m t
next_turn b number (cause.Opening config word) may k m n t below more u to placed =
    let start : b.turns ≡ 0 = may.is_for in
    let none : b.submissions ≡ 0 = k.sound.opens.none_yet (omega (arith, start)) in absurd (omega (arith, none, more))
next_turn b number (cause.Event e) may k m n t below more u to placed =
    let a : Action = action.Turn number (cause.Event e) in
    let x = since_some (has_place (story_after b n a)) (b.placed n) (b.turns - 1) t placed in
    by_test (nat_lt n b.submissions) (Behind (entered b a) m t)
    (λ numbered.
    let i : n < b.submissions = lt_from n b.submissions numbered in
    let pn : has_place (b.story n) ≡ true = event_placed b n e.kind i x.0 in
    let un : is_unstarted (b.story n) ≡ true = (follows b a may n i).unstarted u in
    let had = k.places.since n pn in
    let same : had.0 ≡ t = same_some had.0 t (sym (placed_again b a n had.0 x.0 had.1) ∙ placed) in
    let old : b.placed n ≡ Some t = had.1 ∙ ap Some same in
    let tm : is_to_start (b.story n).link (b.story m) ≡ true = to_before b a may k m n below i x.0 to in
    let pm : has_place (b.story m) ≡ true = settled_places b m n k.sound k.seated k.sit may.is_for.1 below i un pn tm in
    let mine = k.places.since m pm in
    let less : mine.0 ≤ t = elim (k.places.rise m n t below i un tm old) [
      | inl p ↦ let one : p.0 ≡ mine.0 = same_some p.0 mine.0 (sym p.1 ∙ mine.1) in let q : p.0 ≤ t = p.2 in omega (arith, one, q)
      | inr runs ↦ let j : mine.0 ≤ b.turns - 1 = k.places.early m mine.0 mine.1 in omega (arith, j, runs)
    ] in
    both_behind b a may k m n t below i u to old x.0 mine.0 mine.1 less)
    (λ new. absurd (new_is_unplaced b n e.kind k.sound.stories (not_lt_from n b.submissions new) x.0))

-- so behind any action
rise_kept : (b : Book) (a : Action) → MayStand b a → Knows b → (m n t : ℕ) → m < n → n < (entered b a).submissions → is_unstarted ((entered b a).story n) ≡ true → is_to_start ((entered b a).story n).link ((entered b a).story m) ≡ true
    → (entered b a).placed n ≡ Some t → Behind (entered b a) m t
rise_kept b a may k m n t = by_test (is_turn a) (m < n → n < (entered b a).submissions → is_unstarted ((entered b a).story n) ≡ true → is_to_start ((entered b a).story n).link ((entered b a).story m) ≡ true → (entered b a).placed n ≡ Some t → Behind (entered b a) m t)
    (λ e. let c = turn_of a e in
    subst (λ x. m < n → n < (entered b x).submissions → is_unstarted ((entered b x).story n) ≡ true → is_to_start ((entered b x).story n).link ((entered b x).story m) ≡ true → (entered b x).placed n ≡ Some t → Behind (entered b x) m t) (sym c.2)
    (next_turn b c.0 c.1 (subst (MayStand b) c.2 may) k m n t))
    (λ f. within_turn b a may k f m n t)

-- each action that may stand leaves places in turn
in_turn_kept : (b : Book) (a : Action) → MayStand b a → Knows b → AreInTurn (entered b a)
in_turn_kept b a may k = record {
  early = λ n t e.
      let grows : b.turns ≤ (entered b a).turns = turns_grow b a in
      elim (since_some (has_place (story_after b n a)) (b.placed n) (b.turns - 1) t e).1 [
        | inl old ↦ let i : t ≤ b.turns - 1 = k.places.early n t old in omega (arith, i, grows)
        | inr now ↦ omega (arith, now, grows)
      ];
  has = λ n t e. (since_some (has_place (story_after b n a)) (b.placed n) (b.turns - 1) t e).0;
  since = λ n has. since_has (has_place (story_after b n a)) (b.placed n) (b.turns - 1) has;
  rise = rise_kept b a may k;
}

-- so all is known behind it
pub knows_kept : (b : Book) (a : Action) → MayStand b a → Knows b → Knows (entered b a)
knows_kept b a may k = record { sound = stays_sound b a may k.sound; seated = stays_seated b a may k.sound k.seated; sit = sit_kept b a may k.sound k.sit; places = in_turn_kept b a may k }

-- and behind many
pub knows_each : (b : Book) (front : List Action) → AllStand b front → Knows b → Knows (entered_each b front)
knows_each b [] all k = k
knows_each b (a ∷ more) all k = knows_each (entered b a) more all.1 (knows_kept b a all.0 k)

-- at first
pub blank_knows : Knows blank_book
blank_knows = record {
  sound = blank_is_sound;
  seated = record { kept = λ n i u t. absurd (omega (arith, i)); holders = λ m n i j t untold some. absurd (omega (arith, j)) };
  sit = λ n i u p. absurd (omega (arith, i));
  places = record {
    early = λ n t e. absurd (cc e);
    has = λ n t e. absurd (cc e);
    since = λ n has. absurd (cc has);
    rise = λ m n t below i u to e. absurd (cc e);
  };
}
