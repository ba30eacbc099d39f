-- Whoever waits for a permit finds all held, and whoever waits for a place finds as many before it as the queue holds.
use Rattle.std.proofs.Common.{◌≡◌, ◌⊎◌, inl, inr, ℕ, zero, suc, ◌+◌, ◌<◌, ◌≤◌, ◌==◌, nat_lt, nat_le, Bool, true, false, ◌&&◌, ◌||◌, not, [], Option, Some, None, is_some, if◌then◌else◌, refl, sym, ◌∙◌, ap, subst, arith}
use Rattle.containers.proofs.Choices.{by_test, taken_if, left_if, both_left, both_right, eq_from, le_from, lt_from, not_le_test, not_lt_from, not_both}
use Rattle.credentials.specs.Credentials.{Credentials}
use Rattle.driver_model.specs.declared.config.Config.{Config}
use Rattle.driver_model.specs.Config.{permits, buffer_size}
use Rattle.legal_trace.specs.Ledger.{dials, is_over, is_ready, is_served, is_set_up, renewal_due}
use Rattle.legal_trace.specs.Story.{Story, has_place, is_room, is_told, is_unstarted}
use Rattle.legal_trace.specs.Book.{Book}
use Rattle.legal_trace.specs.Steps.{is_due, next_step, configured, queue_size, is_held_back, permits_in, permits_on, permits_held, free_permits, is_let_in, is_in_line, line_before, renewals_in_line, is_outside}
use Rattle.legal_trace.specs.Legal.{IsOpen, IsWaiting, IsWritten, CanMove, link_of}
use Rattle.legal_trace.proofs.Moves.{both_hold, holds_some, is_timed, has_no_tries, open_or_told, free_is_due, told_is_due, one_holds}
use Rattle.legal_trace.proofs.Ahead.{held_where_moved}
use Rattle.legal_laws.specs.Waits.{held_of, IsOutOfPermits, is_seated, seated, IsOutOfPlaces}
use Rattle.legal_laws.proofs.Submissions.InLine.{first_holds}
use Rattle.legal_laws.proofs.Submissions.Seated.{told_place}
use Rattle.legal_laws.proofs.Waits.Found.{Serves, where_waits}
use Rattle.legal_laws.proofs.Waits.Sizes.{held_back_anew}

-- permits are counted so
held_is : (story : ℕ → Story) (l n : ℕ) → permits_held story l n ≡ held_of story l n
held_is story l zero = refl
held_is story l (suc n) = ap (λ x. x + permits_on l (story n)) (held_is story l n)

-- where none is free, all are held
pub out_of_permits : (config : Config) (b : Book) (n limit : ℕ) → b.config ≡ Some config
    → ((l most : ℕ) → permits config ≡ Some most → permits_held b.story l b.submissions ≤ most)
    → permits_in b.config ≡ Some limit → (b.story n).permits ≡ 0 → free_permits b (b.story n).link limit ≡ 0 → IsOutOfPermits config b n
out_of_permits config b n limit c within counted none free =
    let l : ℕ = (b.story n).link in
    let most : permits config ≡ Some limit = sym (ap permits_in c) ∙ counted in
    let few : permits_held b.story l b.submissions ≤ limit = within l limit most in
    let same : permits_held b.story l b.submissions ≡ held_of b.story l b.submissions = held_is b.story l b.submissions in
    record { none = none; limit = limit; counted = most; all = omega (arith, few, same, free) }

-- a link that is up dials no more
up_dials_not : (asked up over : Bool) → up ≡ true → (asked && not up && not over) ≡ true → ⊥
up_dials_not true true over u e = cc e
up_dials_not false true over u e = cc e
up_dials_not asked false over u e = cc u

-- whoever has no permit, where they are counted, isn't let in
unpermitted : (limit : Option ℕ) (most held : ℕ) (timed : Bool) → limit ≡ Some most → held ≡ 0 → (holds_some limit held && timed) ≡ true → ⊥
unpermitted None most held timed counted none e = cc counted
unpermitted (Some k) most held timed counted none e =
    let i : 0 < held = lt_from 0 held (both_left (nat_lt 0 held) timed e) in omega (arith, none, i)

-- the actions of the passes and the writes are done, and before it each open submission without a message is in the wait shown
pub record Rests (b : Book) (n : ℕ) : Type 0 where
  pub written : IsWritten b
  pub before : (m : ℕ) → m < n → IsOpen b m → (b.story m).tries ≡ [] → IsWaiting b m

-- two submissions of one link are served alike
serves_alike : (b : Book) (m n : ℕ) → (b.story m).link ≡ (b.story n).link → Serves b n → Serves b m
serves_alike b m n same s = record {
  up = ap (λ l. (b.link l).up) same ∙ s.up;
  set = ap (λ l. is_set_up (b.link l)) same ∙ s.set;
  served = ap (λ l. is_served (b.link l)) same ∙ s.served;
}

-- whoever is let in and waits there, and isn't outside, waits for room
pub waits_in_place : (b : Book) (m : ℕ) → Serves b m → IsWaiting b m → is_let_in (permits_in b.config) (b.story m) ≡ true
    → renewals_in_line (link_of b m) + line_before (permits_in b.config) b.story (b.story m).link m < queue_size b → has_place (b.story m) ≡ true
waits_in_place b m s waiting let_in room =
    let before : ℕ = renewals_in_line (link_of b m) + line_before (permits_in b.config) b.story (b.story m).link m in
    where_waits (has_place (b.story m) ≡ true) b m waiting.kind waiting.holds (record {
      connecting = λ d same. absurd (up_dials_not (link_of b m).asked (link_of b m).up (is_over (link_of b m)) s.up d);
      unready = λ up unset same. absurd (not_both (is_set_up (link_of b m)) unset s.set);
      repeating = λ up set unserved same. absurd (not_both (is_served (link_of b m)) unserved s.served);
      permitless = λ serves limit counted none free same.
          absurd (unpermitted (permits_in b.config) limit (b.story m).permits (is_timed (b.story m).timeout (b.story m).clock) counted none let_in);
      outside = λ serves untold in_line out same.
          absurd (let full : queue_size b ≤ before = le_from (queue_size b) before (both_right (not (has_place (b.story m))) (nat_le (queue_size b) before) out) in omega (arith, full, room));
      held = λ serves held same. first_holds (is_room (b.story m).waiting) (is_told (b.story m)) (ap is_room waiting.shown ∙ sym (ap (λ kind. is_room (Some kind)) same));
      resting = λ down unasked same. absurd (not_both (link_of b m).up down s.up);
    })

-- so does each that stands in line where the queue isn't full
one_seated : (b : Book) (n m : ℕ) → Rests b n → Serves b n → m < n → is_in_line (permits_in b.config) (b.story n).link (b.story m) ≡ true
    → renewals_in_line (link_of b n) + line_before (permits_in b.config) b.story (b.story n).link m < queue_size b → is_seated (b.story n).link (b.story m) ≡ true
one_seated b n m rests s i t room =
    let l : ℕ = (b.story n).link in
    let own : Bool = (b.story m).link == l in
    let let_in : Bool = is_let_in (permits_in b.config) (b.story m) in
    let mine : own ≡ true = both_left own (is_unstarted (b.story m) && (is_told (b.story m) || let_in)) t in
    let rest : (is_unstarted (b.story m) && (is_told (b.story m) || let_in)) ≡ true = both_right own (is_unstarted (b.story m) && (is_told (b.story m) || let_in)) t in
    let unstarted : is_unstarted (b.story m) ≡ true = both_left (is_unstarted (b.story m)) (is_told (b.story m) || let_in) rest in
    let same : (b.story m).link ≡ l = eq_from (b.story m).link l mine in
    let placed : has_place (b.story m) ≡ true = by_test (is_told (b.story m)) (has_place (b.story m) ≡ true) (told_place (b.story m))
    (λ untold. elim (open_or_told (b.story m) unstarted) [
      | inr told ↦ told_place (b.story m) told
      | inl o ↦ waits_in_place b m (serves_alike b m n same s) (rests.before m i o (has_no_tries (b.story m) unstarted))
          (the_second (is_told (b.story m)) let_in (both_right (is_unstarted (b.story m)) (is_told (b.story m) || let_in) rest) untold)
          (subst (λ x. renewals_in_line (b.link x) + line_before (permits_in b.config) b.story x m < queue_size b) (sym same) room)
    ]) in
    both_hold own (is_unstarted (b.story m) && has_place (b.story m)) mine (both_hold (is_unstarted (b.story m)) (has_place (b.story m)) unstarted placed)
  where
    the_second : (p q : Bool) → (p || q) ≡ true → p ≡ false → q ≡ true
    the_second false q e f = e
    the_second true q e f = absurd (cc f)

-- so as many have a place as stand in line, or as the queue holds
all_seated : (b : Book) (n k : ℕ) → Rests b n → Serves b n → k ≤ n
    → (queue_size b ≤ renewals_in_line (link_of b n) + seated b.story (b.story n).link k) ⊎ (line_before (permits_in b.config) b.story (b.story n).link k ≤ seated b.story (b.story n).link k)
all_seated b n zero rests s i = inr (omega arith)
all_seated b n (suc k) rests s i =
    let l : ℕ = (b.story n).link in
    let ahead : ℕ = renewals_in_line (link_of b n) in
    let line : ℕ = line_before (permits_in b.config) b.story l k in
    let Goal : Type 0 = (queue_size b ≤ ahead + seated b.story l (suc k)) ⊎ (line_before (permits_in b.config) b.story l (suc k) ≤ seated b.story l (suc k)) in
    let stands : Bool = is_in_line (permits_in b.config) l (b.story k) in
    let counts : ℕ = if stands then 1 else 0 in
    let sits : ℕ = if is_seated l (b.story k) then 1 else 0 in
    elim (all_seated b n k rests s (omega (arith, i))) [
      | inl full ↦ inl (omega (arith, full))
      | inr fits ↦ by_test stands Goal
          (λ t.
          let one : counts ≡ 1 = taken_if stands 1 0 t in
          by_test (nat_lt (ahead + line) (queue_size b)) Goal
          (λ less.
          let has : sits ≡ 1 = taken_if (is_seated l (b.story k)) 1 0 (one_seated b n k rests s (omega (arith, i)) t (lt_from (ahead + line) (queue_size b) less)) in
          inr (omega (arith, fits, one, has)))
          (λ far. let full : queue_size b ≤ ahead + line = not_lt_from (ahead + line) (queue_size b) far in inl (omega (arith, fits, full))))
          (λ f. let none : counts ≡ 0 = left_if stands 1 0 f in inr (omega (arith, fits, none)))
    ]

-- where one of two doesn't hold, both don't
never_both : (p q : Bool) → q ≡ false → (p && q) ≡ false
never_both true q e = e
never_both false q e = refl

-- whoever is first in line makes a step, where the link isn't held back
first_moves : (b : Book) (n m : ℕ) → Serves b n → is_held_back b (link_of b n) ≡ false → is_in_line (permits_in b.config) (b.story n).link (b.story m) ≡ true
    → renewals_in_line (link_of b n) + line_before (permits_in b.config) b.story (b.story n).link m < queue_size b → CanMove b m
first_moves b n m s free t room =
    let l : ℕ = (b.story n).link in
    let own : Bool = (b.story m).link == l in
    let let_in : Bool = is_let_in (permits_in b.config) (b.story m) in
    let before : ℕ = renewals_in_line (link_of b m) + line_before (permits_in b.config) b.story (b.story m).link m in
    let rest : (is_unstarted (b.story m) && (is_told (b.story m) || let_in)) ≡ true = both_right own (is_unstarted (b.story m) && (is_told (b.story m) || let_in)) t in
    let same : (b.story m).link ≡ l = eq_from (b.story m).link l (both_left own (is_unstarted (b.story m) && (is_told (b.story m) || let_in)) t) in
    let u : Serves b m = serves_alike b m n same s in
    let idle : dials (link_of b m) ≡ false = by_test (dials (link_of b m)) (dials (link_of b m) ≡ false) (λ d. absurd (up_dials_not (link_of b m).asked (link_of b m).up (is_over (link_of b m)) u.up d)) (λ d. d) in
    let ready : is_ready (link_of b m) ≡ true = both_hold (link_of b m).up (is_set_up (link_of b m)) u.up u.set in
    let loose : is_held_back b (link_of b m) ≡ false = ap (λ x. is_held_back b (b.link x)) same ∙ free in
    let inside : is_outside b m ≡ false = never_both (not (has_place (b.story m))) (nat_le (queue_size b) before)
    (not_le_test (queue_size b) before (subst (λ x. renewals_in_line (b.link x) + line_before (permits_in b.config) b.story x m < queue_size b) (sym same) room)) in
    record {
      unstarted = both_left (is_unstarted (b.story m)) (is_told (b.story m) || let_in) rest;
      due = elim (one_holds (is_told (b.story m)) let_in (both_right (is_unstarted (b.story m)) (is_told (b.story m) || let_in) rest)) [
        | inl told ↦ told_is_due b m idle ready u.served loose told
        | inr enters ↦ by_test (is_told (b.story m)) (is_due (next_step b m) ≡ true) (told_is_due b m idle ready u.served loose)
            (λ untold. free_is_due b m idle ready u.served loose untold (both_left (holds_some (permits_in b.config) (b.story m).permits) (is_timed (b.story m).timeout (b.story m).clock) enters) inside)
      ];
    }

-- so none stands in line before one that rests there, where no new credentials do
none_in_line : (b : Book) (n k : ℕ) → Rests b n → Serves b n → is_held_back b (link_of b n) ≡ false → renewals_in_line (link_of b n) ≡ 0 → 0 < queue_size b → k ≤ n
    → line_before (permits_in b.config) b.story (b.story n).link k ≡ 0
none_in_line b n zero rests s free none sized i = refl
none_in_line b n (suc k) rests s free none sized i =
    let stands : Bool = is_in_line (permits_in b.config) (b.story n).link (b.story k) in
    let counts : ℕ = if stands then 1 else 0 in
    let line : line_before (permits_in b.config) b.story (b.story n).link k ≡ 0 = none_in_line b n k rests s free none sized (omega (arith, i)) in
    by_test stands (line_before (permits_in b.config) b.story (b.story n).link (suc k) ≡ 0)
    (λ t. absurd (rests.written.moved.moved k (first_moves b n k s free t (omega (arith, none, line, sized)))))
    (λ f. let zero_more : counts ≡ 0 = left_if stands 1 0 f in omega (arith, line, zero_more))

-- new credentials that are to be told are known
pub some_credentials : (o : Option Credentials) → is_some o ≡ true → (c : Credentials) × (o ≡ Some c)
some_credentials None e = absurd (cc e)
some_credentials (Some c) e = (c, refl)

-- where as many stand in line before a submission as the queue holds, the link is held back
full_is_held : (b : Book) (n : ℕ) → Rests b n → Serves b n → 0 < queue_size b → queue_size b ≤ renewals_in_line (link_of b n) + line_before (permits_in b.config) b.story (b.story n).link n → is_held_back b (link_of b n) ≡ true
full_is_held b n rests s sized full = by_test (is_held_back b (link_of b n)) (is_held_back b (link_of b n) ≡ true) (λ t. t)
    (λ free. by_test (is_some (renewal_due (link_of b n))) (is_held_back b (link_of b n) ≡ true)
    (λ some. let c = some_credentials (renewal_due (link_of b n)) some in held_where_moved b (b.story n).link rests.written.moved.moved (rests.written.moved.begun.renewed (b.story n).link c.0 c.1))
    (λ none.
    let no_more : renewals_in_line (link_of b n) ≡ 0 = left_if (is_some (renewal_due (link_of b n))) 1 0 none in
    let line : line_before (permits_in b.config) b.story (b.story n).link n ≡ 0 = none_in_line b n n rests s free no_more sized (omega arith) in
    absurd (omega (arith, full, no_more, line, sized))))

-- whoever is outside has no place, as many as the queue holds have one before it, and its link is held back
pub out_of_places : (config : Config) (b : Book) (n : ℕ) → b.config ≡ Some config → 0 < buffer_size config → Rests b n → Serves b n → is_outside b n ≡ true → IsOutOfPlaces config b n
out_of_places config b n c sized rests s out =
    let l : ℕ = (b.story n).link in
    let before : ℕ = renewals_in_line (link_of b n) + line_before (permits_in b.config) b.story l n in
    let size : queue_size b ≡ buffer_size config = ap (configured buffer_size) c in
    let full : queue_size b ≤ before = le_from (queue_size b) before (both_right (not (has_place (b.story n))) (nat_le (queue_size b) before) out) in
    let many : queue_size b ≤ renewals_in_line (link_of b n) + seated b.story l n = elim (all_seated b n n rests s (omega arith)) [ inl most ↦ most | inr fits ↦ omega (arith, fits, full) ] in
    record {
      none = not_placed (has_place (b.story n)) (both_left (not (has_place (b.story n))) (nat_le (queue_size b) before) out);
      full = omega (arith, size, many);
      held_back = held_back_anew config b (link_of b n) c (full_is_held b n rests s (omega (arith, size, sized)) full);
    }
  where
    not_placed : (p : Bool) → not p ≡ true → p ≡ false
    not_placed false e = refl
    not_placed true e = absurd (cc e)
