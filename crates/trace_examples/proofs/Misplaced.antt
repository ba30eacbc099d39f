-- Actions that stand where they may not: whatever comes after these fronts, no trace that begins so is legal.
use Rattle.std.proofs.Common.{length, ap, ◌∙◌, ◌≡◌, ◌≢◌, ℕ, ◌+◌, ◌<◌, nat_le, Bool, true, false, List, [], ◌∷◌, ◌++◌, nat_lt, ◌&&◌, ◌||◌, Option, Some, None, is_none, refl, sym, inl, inr, arith}
use Rattle.containers.proofs.Choices.{not_both, not_le_from, not_le_test}
use Rattle.std.specs.Fmt.{digits}
use Rattle.resp_value.specs.declared.value.Value.TheVariants.{Nil}
use Rattle.resp_read.specs.Grammar.{max_depth}
use Rattle.resp_read.specs.Values.{values, left_over}
use Rattle.resp_read.specs.Items.{items}
use Rattle.driver_model.specs.declared.action.Action.{Action}
use Rattle.driver_model.specs.declared.action.Action.TheVariants as action
use Rattle.driver_model.specs.declared.action.Cause.{Cause}
use Rattle.driver_model.specs.declared.action.Cause.TheVariants as cause
use Rattle.driver_model.specs.declared.action.Owner.TheVariants as owner
use Rattle.driver_model.specs.declared.action.WaitKind.{WaitKind}
use Rattle.driver_model.specs.declared.action.WaitKind.TheVariants as wait
use Rattle.driver_model.specs.declared.config.Config.{Config}
use Rattle.driver_model.specs.declared.event.Event.{Event}
use Rattle.driver_model.specs.declared.event.EventKind.TheVariants as event
use Rattle.driver_model.specs.declared.outcome.Outcome.TheVariants as outcome
use Rattle.driver_model.specs.Config.{kind_of, buffer_size, boundary, permits}
use Rattle.driver_model.specs.Request.{packed_bytes}
use Rattle.legal_trace.specs.Events.{is_bad_event}
use Rattle.legal_trace.specs.Ledger.{Ledger, dials, is_ready, is_served}
use Rattle.legal_trace.specs.Story.{is_told, is_awaited}
use Rattle.legal_trace.specs.Book.{Book}
use Rattle.legal_trace.specs.Steps.{tells, starts, permits_in, line_before, is_outside, is_held_back, renewals_in_line, is_due, next_step}
use Rattle.legal_trace.specs.Owed.{owed}
use Rattle.legal_trace.specs.Legal.{link_of, MayTurn, Legal, VerdictsAreShown}
use Rattle.legal_trace.proofs.Moves.{is_timed, starts_mean, tells_mean, placed_is_awaited, free_is_due}
use Rattle.legal_trace.specs.Managers.{settings_in}
use Rattle.legal_trace.specs.Again.{repeats_in}
use Rattle.legal_trace.proofs.Again.{unwanted_is_served}
use Rattle.trace_examples.specs.Parts.{turn, command, unawaited, reply, one_nameless, nameless_atomic, nameless_skipped}
use Rattle.trace_examples.specs.Traces.{opening, taken_in_part, came_up, arrived, started_one, started_unoffered, held_back, spoiled, cut_off, left_untold, left_out, both_left_out, up_in_wait, both_in_wait, first_of_both, ended}
use Rattle.legal_trace.proofs.Setups.{silent_is_set}
use Rattle.trace_examples.proofs.Stood.{book_of, created_by_link, may_stand, opens_alone, opens_at_once, both_up_silent, both_up_given}
use Rattle.trace_examples.proofs.Single.{none_is_some, some_is_none, no_session_has, multiplexed_behind, unwatched, of_multiplexed, of_arrived}

-- whoever starts and wasn't told starts at its place, where its reply is awaited
untold_starts : (b : Book) (n : ℕ) → is_told (b.story n) ≡ false → is_awaited (b.story n) ≡ false → next_step b n ≡ starts → ⊥
untold_starts b n untold unawaited e = elim (starts_mean b n e).3 [
  | inl told ↦ not_both (is_told (b.story n)) untold told
  | inr placed ↦ not_both (is_awaited (b.story n)) unawaited (placed_is_awaited b n untold e)
]

-- where the second has its place, so has the first of two
pub room_for_one : (size line : ℕ) → nat_le size line ≡ false → nat_le size 0 ≡ false
room_for_one size line e = let more : line < size = not_le_from size line e in not_le_test size 0 (omega arith)

-- whoever holds no permits and was let in is where they aren't counted
uncounted : (limit : Option ℕ) (permits : ℕ) (timed : Bool) → permits ≡ 0 → ((is_none limit || nat_lt 0 permits) && timed) ≡ true → limit ≡ None
uncounted None permits timed none e = refl
uncounted (Some k) permits timed none e = let x : false ≡ true = sym (ap (λ n. (false || nat_lt 0 n) && timed) none) ∙ e in cc x

-- so whoever starts and holds none is
pub starts_uncounted : (b : Book) (n : ℕ) → is_told (b.story n) ≡ false → (b.story n).permits ≡ 0 → next_step b n ≡ starts → (permits_in b.config ≡ None) × (is_outside b n ≡ false)
starts_uncounted b n untold none e = elim (starts_mean b n e).3 [
  | inl told ↦ absurd (not_both (is_told (b.story n)) untold told)
  | inr placed ↦ (uncounted (permits_in b.config) (b.story n).permits (is_timed (b.story n).timeout (b.story n).clock) none placed.0, placed.1)
]

-- and who is told
tells_uncounted : (b : Book) (n : ℕ) → (b.story n).permits ≡ 0 → next_step b n ≡ tells → (permits_in b.config ≡ None) × (is_outside b n ≡ false)
tells_uncounted b n none e = let t = tells_mean b n e in (uncounted (permits_in b.config) (b.story n).permits (is_timed (b.story n).timeout (b.story n).clock) none t.2, t.3)

-- a message that starts, although nobody awaits its reply and its command wasn't told
pub started_untold : (config : Config) (word : ℕ) (events : List Event) (after : List Action)
    → Legal config word events (left_untold config word ++ action.Start 0 0 (owner.Try 0 0) 1 11 ∷ after) → ⊥
started_untold config word events after h =
    let m = may_stand config word events (left_untold config word) after (action.Start 0 0 (owner.Try 0 0) 1 11) h in
    untold_starts (book_of (left_untold config word)) 0 refl refl m.1.starts

-- where a session doesn't come back nothing is subscribed again on its link
pub alone_is_served : (config : Config) (l : Ledger) → settings_in (Some config) ≡ None → l.again.wanted ≡ repeats_in (settings_in (Some config)) [] → is_served l ≡ true
alone_is_served config l alone said = unwanted_is_served l (said ∙ ap (λ s. repeats_in s []) alone)

-- where the second of two that came before the connect has its place, the first is to make a step
pub first_is_due : (b : Book) → dials (link_of b 0) ≡ false → is_ready (link_of b 0) ≡ true → is_served (link_of b 0) ≡ true → is_held_back b (link_of b 0) ≡ false → is_told (b.story 0) ≡ false → permits_in b.config ≡ None → is_outside b 0 ≡ false → is_due (next_step b 0) ≡ true
first_is_due b d u s h t limit o = free_is_due b 0 d u s h t (ap (λ x. is_none x || nat_lt 0 (b.story 0).permits) limit) o

-- the Nil of a command whose reply nobody awaits, before the start of an earlier one
pub told_out_of_order : (config : Config) (word : ℕ) (events : List Event) (after : List Action)
    → Legal config word events (both_in_wait config word (unawaited 72) ++ action.Outcome 1 (outcome.One Nil) ∷ after) → ⊥
unfolding digits
told_out_of_order config word events after h =
    let b = book_of (both_in_wait config word (unawaited 72)) in
    elim (may_stand config word events (both_in_wait config word (unawaited 72)) after (action.Outcome 1 (outcome.One Nil)) h) [
      | inl answer ↦ of_multiplexed config word (both_in_wait config word (unawaited 72)) (λ b. owed b 1 ≡ Some (outcome.One Nil) → ⊥) (multiplexed_behind config word events (opening config word) _ 1 (command 71) refl refl h) (opens_alone config word events _ h) (none_is_some (outcome.One Nil)) (none_is_some (outcome.One Nil)) answer.owes
      | inr tell ↦
          let t = tells_uncounted b 1 refl tell.tells in
          tell.in_order 0 (omega arith) (record { unstarted = refl; due = first_is_due b refl (tells_mean b 1 tell.tells).1 (alone_is_served config (b.link 0) (opens_alone config word events _ h) refl) refl refl t.0 (room_for_one (buffer_size config) (renewals_in_line (b.link 0) + line_before (permits config) b.story 0 1) t.1) })
    ]

-- and before the creation
pub told_before_the_creation : (config : Config) (word : ℕ) (events : List Event) (after : List Action)
    → Legal config word events (up_in_wait config word (unawaited 71) ++ action.Outcome 0 (outcome.One Nil) ∷ after) → ⊥
unfolding digits
told_before_the_creation config word events after h =
    elim (may_stand config word events (up_in_wait config word (unawaited 71)) after (action.Outcome 0 (outcome.One Nil)) h) [
      | inl answer ↦ of_multiplexed config word (up_in_wait config word (unawaited 71)) (λ b. owed b 0 ≡ Some (outcome.One Nil) → ⊥) (multiplexed_behind config word events (opening config word) _ 1 (unawaited 71) refl refl h) (opens_alone config word events _ h) (none_is_some (outcome.One Nil)) (none_is_some (outcome.One Nil)) answer.owes
      | inr tell ↦ tell.begun.applied.shown.created.shown 0 (tells_mean (book_of (up_in_wait config word (unawaited 71))) 0 tell.tells).1 refl
    ]

-- a close by bytes that begin no value, before the outcome of the value in front of them
pub closed_before_the_reply : (config : Config) (word : ℕ) (events : List Event) (after : List Action)
    → Legal config word events (spoiled config word ++ action.Close 0 ∷ after) → ⊥
unfolding digits items values left_over max_depth
closed_before_the_reply config word events after h =
    let m = may_stand config word events (spoiled config word) after (action.Close 0) h in
    of_arrived config word events (spoiled config word) _ (command 71) (λ b. VerdictsAreShown b → ⊥) refl h (λ name v. some_is_none (reply 120) (v 0 refl refl)) (λ name v. some_is_none (reply 120) (v 0 refl refl)) m.answered

-- a link that is closed twice
pub closed_twice : (config : Config) (word : ℕ) (events : List Event) (after : List Action)
    → Legal config word events (cut_off config word (command 71) 1 11 ++ action.Close 0 ∷ after) → ⊥
closed_twice config word events after h =
    let m = may_stand config word events (cut_off config word (command 71) 1 11) after (action.Close 0) h in
    cc m.ends

-- a message that has neither started nor shown what it waits for, behind one that isn't answered: the next turn doesn't begin
pub held_back_behind : (config : Config) (word : ℕ) (events : List Event) (after : List Action) (number : ℕ) (c : Cause)
    → Legal config word events (held_back config word ++ action.Turn number c ∷ after) → ⊥
held_back_behind config word events after number c h = of_cause c (may_stand config word events (held_back config word) after (action.Turn number c) h)
  where
    of_cause : (c : Cause) → MayTurn (book_of (held_back config word)) number c → ⊥
    of_cause (cause.Opening config word) m = cc m.is_for
    of_cause (cause.Event e) m = elim (m.is_for.1.goes 1 refl) [ inl started ↦ cc started.last | inr waits ↦ cc waits.shown ]

-- bytes that are offered before a message that may start, where these 11 don't hold it back
pub offered_before_a_start : (config : Config) (word : ℕ) (events : List Event) (after : List Action) (bytes : List ℕ) → 11 < boundary config
    → Legal config word events (first_of_both config word ++ action.Write 0 bytes ∷ after) → ⊥
unfolding digits
offered_before_a_start config word events after bytes free h =
    let m = may_stand config word events (first_of_both config word) after (action.Write 0 bytes) h in
    let first = may_stand config word events (both_in_wait config word (command 72)) (action.Write 0 bytes ∷ after) (action.Start 0 0 (owner.Try 0 0) 1 11) h in
    let s = starts_uncounted (book_of (both_in_wait config word (command 72))) 0 refl refl first.1.starts in
    let b = book_of (first_of_both config word) in
    let multiplexed = multiplexed_behind config word events (opening config word) _ 1 (command 71) refl refl h in
    let silent = both_up_silent config word events (command 72) (action.Start 0 0 (owner.Try 0 0) 1 11 ∷ action.Write 0 bytes ∷ after) h in
    let given = both_up_given config word events (command 72) (action.Start 0 0 (owner.Try 0 0) 1 11 ∷ action.Write 0 bytes ∷ after) h in
    m.moved.moved 1 (record { unstarted = refl; due = free_is_due b 1 refl (silent_is_set (link_of b 1) (unwatched config multiplexed) given silent) (alone_is_served config (b.link 0) (opens_alone config word events _ h) refl) (not_le_test (boundary config) 11 free) refl (ap (λ x. is_none x || false) s.0) s.1 })

-- bytes that are offered twice
pub offered_twice : (config : Config) (word : ℕ) (events : List Event) (after : List Action)
    → Legal config word events (started_one config word ++ action.Write 0 (packed_bytes (command 71)) ∷ after) → ⊥
offered_twice config word events after h =
    let m = may_stand config word events (started_one config word) after (action.Write 0 (packed_bytes (command 71))) h in
    cc m.answered

-- bytes that are offered again after they were taken
pub offered_what_was_taken : (config : Config) (word : ℕ) (events : List Event) (after : List Action)
    → Legal config word events (taken_in_part config word ++ action.Write 0 (packed_bytes (command 71)) ∷ after) → ⊥
unfolding digits
offered_what_was_taken config word events after h =
    let m = may_stand config word events (taken_in_part config word) after (action.Write 0 (packed_bytes (command 71))) h in
    cc (ap length m.all)

-- a wait that is shown before the bytes of a link are offered
pub waits_before_an_offer : (config : Config) (word : ℕ) (events : List Event) (after : List Action) (n round : ℕ) (kind : WaitKind)
    → Legal config word events (started_unoffered config word ++ action.Wait (owner.Try n round) kind ∷ after) → ⊥
waits_before_an_offer config word events after n round kind h =
    let m = may_stand config word events (started_unoffered config word) after (action.Wait (owner.Try n round) kind) h in
    elim (m.1.written.offered 0 refl) [ inl none ↦ cc none | inr some ↦ some refl ]

-- and before an earlier wait
pub waits_out_of_order : (config : Config) (word : ℕ) (events : List Event) (after : List Action)
    → Legal config word events (both_left_out config word ++ action.Wait (owner.Try 1 0) wait.Connect ∷ after) → ⊥
waits_out_of_order config word events after h =
    let m = may_stand config word events (both_left_out config word) after (action.Wait (owner.Try 1 0) wait.Connect) h in
    cc (m.1.in_order 0 (omega arith) refl refl).shown

-- a message that starts before its link is up
pub started_before_the_connect : (config : Config) (word : ℕ) (events : List Event) (after : List Action) (l k round count len : ℕ)
    → Legal config word events (left_out config word ++ action.Start l k (owner.Try 0 round) count len ∷ after) → ⊥
started_before_the_connect config word events after l k round count len h =
    let m = may_stand config word events (left_out config word) after (action.Start l k (owner.Try 0 round) count len) h in
    cc m.1.starts

-- and one that starts after its link ended
pub started_after_the_end : (config : Config) (word : ℕ) (events : List Event) (after : List Action) (l k round count len : ℕ)
    → Legal config word events (ended config word ++ action.Start l k (owner.Try 1 round) count len ∷ after) → ⊥
started_after_the_end config word events after l k round count len h =
    let m = may_stand config word events (ended config word) after (action.Start l k (owner.Try 1 round) count len) h in
    cc m.1.starts

-- a start with the need of another message
pub another_need : (config : Config) (word : ℕ) (events : List Event) (after : List Action) (count len : ℕ) → count ≢ 1
    → Legal config word events (arrived config word (command 71) ++ action.Start 0 0 (owner.Try 0 0) count len ∷ after) → ⊥
another_need config word events after count len other h =
    let m = may_stand config word events (arrived config word (command 71)) after (action.Start 0 0 (owner.Try 0 0) count len) h in
    other m.1.needs_its_items

-- and with its length
pub another_length : (config : Config) (word : ℕ) (events : List Event) (after : List Action) (count len : ℕ) → len ≢ 11
    → Legal config word events (arrived config word (command 71) ++ action.Start 0 0 (owner.Try 0 0) count len ∷ after) → ⊥
unfolding digits
another_length config word events after count len other h =
    let m = may_stand config word events (arrived config word (command 71)) after (action.Start 0 0 (owner.Try 0 0) count len) h in
    other m.1.long_as_its_bytes

-- the turn of one command without words in a list
pub nameless : (config : Config) (word : ℕ) (events : List Event) (after : List Action)
    → Legal config word events (came_up config word ++ turn 2 (event.Submit one_nameless) ∷ after) → ⊥
unfolding is_bad_event
nameless config word events after h =
    let m = may_stand config word events (came_up config word) after (turn 2 (event.Submit one_nameless)) h in
    no_session_has (kind_of config) one_nameless refl refl m.is_for.2

pub nameless_transaction : (config : Config) (word : ℕ) (events : List Event) (after : List Action)
    → Legal config word events (came_up config word ++ turn 2 (event.Submit nameless_atomic) ∷ after) → ⊥
unfolding is_bad_event
nameless_transaction config word events after h =
    let m = may_stand config word events (came_up config word) after (turn 2 (event.Submit nameless_atomic)) h in
    no_session_has (kind_of config) nameless_atomic refl refl m.is_for.2

pub nameless_packed : (config : Config) (word : ℕ) (events : List Event) (after : List Action) (offset count : ℕ)
    → Legal config word events (came_up config word ++ turn 2 (event.Submit (nameless_skipped offset count)) ∷ after) → ⊥
unfolding is_bad_event
nameless_packed config word events after offset count h =
    let m = may_stand config word events (came_up config word) after (turn 2 (event.Submit (nameless_skipped offset count))) h in
    no_session_has (kind_of config) (nameless_skipped offset count) refl refl m.is_for.2

-- the turn of more bytes taken than were offered
pub took_too_much : (config : Config) (word : ℕ) (events : List Event) (after : List Action)
    → Legal config word events (started_one config word ++ turn 3 (event.Wrote 0 12) ∷ after) → ⊥
unfolding is_bad_event digits
took_too_much config word events after h =
    let m = may_stand config word events (started_one config word) after (turn 3 (event.Wrote 0 12)) h in
    cc m.is_for.2

-- a creation that is shown twice
pub created_twice : (config : Config) (word : ℕ) (events : List Event) (after : List Action)
    → Legal config word events (came_up config word ++ action.Created None ∷ after) → ⊥
created_twice config word events after h =
    let m = created_by_link (book_of (came_up config word)) (opens_at_once config word events _ h) (may_stand config word events (came_up config word) after (action.Created None) h) in
    cc m.once
