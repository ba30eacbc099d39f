-- Each round of a legal trace begins on the link of its submission, which is the current one, and messages start behind their rounds.
use Rattle.std.proofs.Common.{◌≡◌, ◌≢◌, inl, inr, ℕ, zero, suc, ◌<◌, max, Bool, true, false, not, List, ◌∷◌, ◌++◌, Option, Some, None, if◌then◌else◌, refl, sym, ◌∙◌, ap, subst, arith}
use Rattle.containers.proofs.Choices.{by_test, both_right, not_both}
use Rattle.driver_model.specs.Shape.{permits_for}
use Rattle.driver_model.specs.declared.action.Action.{Action}
use Rattle.driver_model.specs.declared.action.Action.TheVariants as action
use Rattle.driver_model.specs.declared.action.Owner.{Owner}
use Rattle.driver_model.specs.declared.action.Owner.TheVariants as owner
use Rattle.driver_model.specs.declared.action.WaitKind.{WaitKind}
use Rattle.driver_model.specs.declared.action.WaitKind.TheVariants as wait
use Rattle.driver_model.specs.declared.config.Config.{Config}
use Rattle.driver_model.specs.declared.event.Event.{Event}
use Rattle.legal_trace.specs.Ledger.{dials, is_ready, is_served, is_serving, is_set_up}
use Rattle.legal_trace.specs.Story.{Story, is_awaited, is_no_error, is_open, is_told, shape}
use Rattle.legal_trace.specs.Book.{Book, book, has_generations}
use Rattle.legal_trace.specs.Steps.{Step, waits, rounds, starts, free_permits, is_held_back, is_outside, permits_in, starts_or_waits, step_down, step_holding, step_open, step_placed, step_rounding, step_served, step_taking, step_timed, unready_wait}
use Rattle.legal_trace.specs.Legal.{MayStand, MayRound, MayRoundOn, MayStart, CanMove, IsOpen, Legal, link_of}
use Rattle.legal_trace.proofs.Moves.{both_hold, mover_is_ready, mover_is_served, mover_is_up, open_or_told, rounded_step, rounder_moves}
use Rattle.legal_laws.specs.Rounds.{BeginsRound, KeepsRounds}
use Rattle.legal_laws.proofs.Links.Bounds.{next_may}
use Rattle.legal_laws.proofs.Notices.Notices.{front_stands}
use Rattle.legal_laws.proofs.Traces.Numbers.{up_is_numbered}
use Rattle.legal_laws.proofs.Traces.Sound.{Sound, sound_behind}
use Rattle.legal_laws.proofs.Submissions.Tales.{open_has_none}

-- at a place no round begins
placed_no_round : (outside awaited held : Bool) → step_placed outside awaited held ≡ rounds → ⊥
placed_no_round true awaited held e = cc e
placed_no_round false true true e = cc e
placed_no_round false true false e = cc e
placed_no_round false false held e = cc e

-- nor behind a timer
timed_no_round : (timeout clock : Option ℕ) (outside awaited held : Bool) → step_timed timeout clock (step_placed outside awaited held) ≡ rounds → ⊥
timed_no_round None clock outside awaited held e = placed_no_round outside awaited held e
timed_no_round (Some ms) None outside awaited held e = cc e
timed_no_round (Some ms) (Some t) outside awaited held e = placed_no_round outside awaited held e

-- nor where permits are taken
taking_no_round : (free most : ℕ) → step_taking free most ≡ rounds → ⊥
taking_no_round zero most e = cc e
taking_no_round (suc free) most e = cc e

holding_no_round : (limit : Option ℕ) (permits : ℕ) (free : ℕ → ℕ) (most : ℕ → ℕ) (next : Step) → (next ≡ rounds → ⊥) → step_holding limit permits (λ k. step_taking (free k) (most k)) next ≡ rounds → ⊥
holding_no_round None permits free most next never e = never e
holding_no_round (Some k) zero free most next never e = taking_no_round (free k) (most k) e
holding_no_round (Some k) (suc held) free most next never e = never e

-- so no other step is a round
rounded_no_round : (b : Book) (n : ℕ) → rounded_step b n ≡ rounds → ⊥
rounded_no_round b n e =
    holding_no_round (permits_in b.config) (b.story n).permits (free_permits b (b.story n).link) (permits_for (shape (b.story n))) (step_timed (b.story n).timeout (b.story n).clock (step_placed (is_outside b n) (is_awaited (b.story n)) (is_held_back b (link_of b n))))
    (timed_no_round (b.story n).timeout (b.story n).clock (is_outside b n) (is_awaited (b.story n)) (is_held_back b (link_of b n))) e

-- whoever was told has no round
told_no_round : (held : Bool) → starts_or_waits held ≡ rounds → ⊥
told_no_round true e = cc e
told_no_round false e = cc e

-- where a round is the next step, rounds are shown, and that of this submission was not
rounds_mean : (dialing up set asked served told held shown rounded : Bool) (unready : WaitKind) (next : Step) → (next ≡ rounds → ⊥)
    → (if dialing then waits wait.Connect else if up then (if set then step_served served (step_open told held (step_rounding shown rounded next)) else waits unready) else step_down asked) ≡ rounds
    → (told ≡ false) × (shown ≡ true) × (rounded ≡ false)
rounds_mean true up set asked served told held shown rounded unready next never e = absurd (cc e)
rounds_mean false false set true served told held shown rounded unready next never e = absurd (cc e)
rounds_mean false false set false served told held shown rounded unready next never e = absurd (cc e)
rounds_mean false true false asked served told held shown rounded unready next never e = absurd (cc e)
rounds_mean false true true asked false told held shown rounded unready next never e = absurd (cc e)
rounds_mean false true true asked true true held shown rounded unready next never e = absurd (told_no_round held e)
rounds_mean false true true asked true false held false rounded unready next never e = absurd (never e)
rounds_mean false true true asked true false held true true unready next never e = absurd (never e)
rounds_mean false true true asked true false held true false unready next never e = (refl, refl, refl)

-- where a start is, and rounds are shown, that of whoever wasn't told was
starts_mean : (dialing up set asked served told held shown rounded : Bool) (unready : WaitKind) (next : Step) → told ≡ false → shown ≡ true
    → (if dialing then waits wait.Connect else if up then (if set then step_served served (step_open told held (step_rounding shown rounded next)) else waits unready) else step_down asked) ≡ starts
    → rounded ≡ true
starts_mean true up set asked served told held shown rounded unready next t s e = absurd (cc e)
starts_mean false false set true served told held shown rounded unready next t s e = absurd (cc e)
starts_mean false false set false served told held shown rounded unready next t s e = absurd (cc e)
starts_mean false true false asked served told held shown rounded unready next t s e = absurd (cc e)
starts_mean false true true asked false told held shown rounded unready next t s e = absurd (cc e)
starts_mean false true true asked true true held shown rounded unready next t s e = absurd (cc t)
starts_mean false true true asked true false held false rounded unready next t s e = absurd (cc s)
starts_mean false true true asked true false held true false unready next t s e = absurd (cc e)
starts_mean false true true asked true false held true true unready next t s e = refl

-- an open submission wasn't told
open_untold : (s : Story) → is_open s ≡ true → is_told s ≡ false
open_untold s o = by_test (is_told s) (is_told s ≡ false)
    (λ t. absurd (let x : false ≡ true = sym (ap is_no_error (open_has_none s o)) ∙ both_right (not (is_awaited s)) (is_no_error s.outcomes) t in cc x)) (λ f. f)

-- the larger of one and a number that isn't zero
larger : (g : ℕ) → g ≢ 0 → max 1 g ≡ g
larger zero some = absurd (some refl)
larger (suc g) some = omega arith

-- a round begins as it may
try_begins : (b : Book) (n l : ℕ) → MayRound b n l → Sound b → BeginsRound b n (Some l)
try_begins b n l may h =
    let s : Story = b.story n in
    let moves : CanMove b n = rounder_moves b n l may in
    let means = rounds_mean (dials (link_of b n)) (link_of b n).up (is_set_up (link_of b n)) (link_of b n).asked (is_served (link_of b n)) (is_told s) (is_held_back b (link_of b n)) (has_generations b) s.rounded (unready_wait (link_of b n)) (rounded_step b n) (rounded_no_round b n) may.rounds in
    let o : is_open s ≡ true = elim (open_or_told s may.unstarted) [ inl asked ↦ asked | inr told ↦ absurd (not_both (is_told s) means.0 told) ] in
    let on : s.link ≡ b.current = (h.goes n).open_on o in
    let numbered : s.link < b.links = up_is_numbered b s.link h.links (mover_is_up b n moves) in
    let some : b.generation ≢ 0 = λ none. (let no : b.links ≡ 0 = h.lives.first means.1 none in omega (arith, numbered, no)) in
    record {
      comes_back = means.1;
      asked = o;
      new = means.2;
      on_its_link = ap Some may.on_its_link;
      current = on;
      serving = sym (ap (λ j. is_serving (b.link j)) on) ∙ both_hold (is_ready (link_of b n)) (is_served (link_of b n)) (mover_is_ready b n moves) (mover_is_served b n moves);
      generation = (h.goes n).open_in o ∙ larger b.generation some;
    }

-- on whichever link it is
round_begins_on : (b : Book) (n : ℕ) (on : Option ℕ) → MayRoundOn b n on → Sound b → BeginsRound b n on
round_begins_on b n None may h = absurd may
round_begins_on b n (Some l) may h = try_begins b n l may h

-- and whosever
round_begins : (b : Book) (who : Owner) (on : Option ℕ) → MayStand b (action.Round who on) → Sound b → (n : ℕ) × (who ≡ owner.Try n 0) × BeginsRound b n on
round_begins b owner.Setup on may h = absurd may
round_begins b owner.Auth on may h = absurd may
round_begins b owner.Resub on may h = absurd may
round_begins b owner.Monitor on may h = absurd may
round_begins b (owner.Try n round) on may h = (n, ap (owner.Try n) may.0, round_begins_on b n on may.1 h)

-- a message starts behind its round
start_is_rounded : (b : Book) (l k n count len : ℕ) → MayStart b l k n count len → has_generations b ≡ true → IsOpen b n → (b.story n).rounded ≡ true
start_is_rounded b l k n count len may shown o =
    starts_mean (dials (link_of b n)) (link_of b n).up (is_set_up (link_of b n)) (link_of b n).asked (is_served (link_of b n)) (is_told (b.story n)) (is_held_back b (link_of b n)) (has_generations b) (b.story n).rounded (unready_wait (link_of b n)) (rounded_step b n)
    (open_untold (b.story n) o) shown may.starts

-- so a legal trace keeps its rounds
pub keeps_rounds : (config : Config) (word : ℕ) (events : List Event) (trace : List Action) → Legal config word events trace → KeepsRounds trace
keeps_rounds config word events trace h = record {
  begin = λ front more who on is.
      let legal : Legal config word events (front ++ action.Round who on ∷ more) = subst (Legal config word events) is h in
      round_begins (book front) who on (next_may config word events front more (action.Round who on) legal) (sound_behind front (front_stands config word events front (action.Round who on ∷ more) legal));
  behind = λ front more l k n round count len is.
      let may = next_may config word events front more (action.Start l k (owner.Try n round) count len) (subst (Legal config word events) is h) in
      start_is_rounded (book front) l k n count len may.1;
}
