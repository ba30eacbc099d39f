-- How many outcomes the submissions of a legal trace have.
use Rattle.std.proofs.Common.{◌≡◌, ℕ, ◌≤◌, ◌==◌, nat_le, Bool, true, false, ◌&&◌, not, ◌⊎◌, List, [], ◌∷◌, ◌++◌, length, Option, Some, None, is_some, inl, inr, ap, sym, subst, ◌∙◌, arith}
use Rattle.std.proofs.lemmas.Bool.Decides.{nat_tests}
use Rattle.containers.proofs.Choices.{by_test, left_if, taken_if, le_from, not_le_from, not_both}
use Rattle.redis_error.specs.declared.redis_error.RedisError.TheVariants as error
use Rattle.driver_model.specs.declared.action.Action.{Action}
use Rattle.driver_model.specs.declared.action.Action.TheVariants as action
use Rattle.driver_model.specs.declared.outcome.Outcome.TheVariants as outcome
use Rattle.driver_model.specs.declared.action.WaitKind.{WaitKind}
use Rattle.driver_model.specs.declared.config.Config.{Config}
use Rattle.driver_model.specs.declared.event.Event.{Event}
use Rattle.driver_model.specs.declared.event.Submission.{Submission}
use Rattle.driver_model.specs.declared.outcome.Outcome.{Outcome}
use Rattle.legal_trace.specs.Book.{Book, blank_book, book}
use Rattle.legal_trace.specs.Owed.{owed}
use Rattle.legal_trace.specs.Legal.{IsOpen, IsSettled, WaitHolds, AllStand, MayAnswer, MayTell, link_of, Legal}
use Rattle.legal_laws.specs.Answers.{AnswersOnce, AnswersAll, RefusesUnspoken, AnswersOver}
use Rattle.legal_trace.proofs.Ledgers.{dials_from}
use Rattle.legal_trace.proofs.Books.{stand_behind}
use Rattle.legal_trace.proofs.Plain.{none_from, not_none, same_some}
use Rattle.legal_trace.proofs.Moves.{waits_on_a_link}
use Rattle.legal_laws.proofs.Traces.Numbers.{up_is_asked}
use Rattle.legal_laws.proofs.Links.Shutdown.{none_left}
use Rattle.legal_laws.proofs.Traces.Sound.{Sound, sound_behind}
use Rattle.legal_trace.specs.Ledger.{is_over}
use Rattle.legal_laws.proofs.Submissions.Owes.{shut_owes}
use Rattle.legal_laws.proofs.Traces.Ranks.{up_lives}

-- no submission of a legal trace has a second outcome
pub at_most_one : (config : Config) (word : ℕ) (events : List Event) (trace : List Action) → Legal config word events trace → AnswersOnce trace
at_most_one config word events trace h n = ((sound_behind trace h.each).once n).once

-- once everything was shut down and the turn is settled, no link is there to wait for
no_link_left : (b : Book) → Sound b → IsSettled b → b.shut ≡ true → (l : ℕ) → (b.link l).asked ≡ true → (b.link l).end ≡ None → ⊥
no_link_left b h settled shut l asked end = none_left b settled.written.moved.begun.applied.shown.ended h.shut shut l asked end

-- nor one that is up
no_link_up : (b : Book) → Sound b → IsSettled b → b.shut ≡ true → (l : ℕ) → (b.link l).up ≡ true → ⊥
no_link_up b h settled shut l up = no_link_left b h settled shut l (up_is_asked b l h.links up) (h.up l up)

-- nor any wait
no_wait : (b : Book) (n : ℕ) (kind : WaitKind) → Sound b → IsSettled b → b.shut ≡ true → IsOpen b n → (b.story n).tries ≡ [] → WaitHolds b n kind → ⊥
no_wait b n kind h settled shut o none holds = elim (waits_on_a_link b n kind holds) [
  | inl dialing ↦ let d = dials_from (link_of b n) dialing in no_link_left b h settled shut (b.story n).link d.0 (none_from (link_of b n).end d.2)
  | inr (inl up) ↦ no_link_up b h settled shut (b.story n).link up
  | inr (inr unasked) ↦ shut_owes b (b.story n) shut unasked none (settled.written.moved.begun.applied.shown.answered n o)
]

-- so no submission is open
none_open : (b : Book) → Sound b → IsSettled b → b.shut ≡ true → (n : ℕ) → IsOpen b n → ⊥
none_open b h settled shut n o = elim (settled.goes n o) [
  | inl s ↦ no_link_up b h settled shut s.try.link s.up
  | inr w ↦ no_wait b n w.kind h settled shut o w.unstarted w.holds
]

-- a submission that was handed in, has not gone and is not open has an outcome
by_length : (os : List Outcome) (handed : Option Submission) (gone : Bool) → is_some handed ≡ true → gone ≡ false → ((is_some handed && (length os == 0) && not gone) ≡ true → ⊥) → length os ≤ 1 → length os ≡ 1
by_length [] handed gone there stays closed few = absurd (closed (grind (arith, nat_tests, there, stays)))
by_length (o ∷ os) handed gone there stays closed few = omega (arith, few)

-- and each that was not cancelled has exactly one outcome
pub exactly_one : (config : Config) (word : ℕ) (events : List Event) (trace : List Action) → Legal config word events trace → AnswersAll trace
exactly_one config word events trace h shut n s there stays =
    by_length ((book trace).story n).outcomes ((book trace).story n).submission ((book trace).story n).cancelled (ap is_some there) stays
    (none_open (book trace) (sound_behind trace h.each) h.settled shut n) (at_most_one config word events trace h n)

-- a link that isn't asked for has not ended
unasked_lives : (b : Book) (l : ℕ) → Sound b → (b.link l).asked ≡ false → is_over (b.link l) ≡ true → ⊥
unasked_lives b l h unasked over = by_test (nat_le b.links l) ⊥
    (λ t. not_both (is_over (b.link l)) (ap is_some (h.links.unasked l (le_from b.links l t)).2) over)
    (λ f. not_both (b.link l).asked unasked (h.links.asked l (not_le_from b.links l f)))

-- where the link of a submission has ended, it isn't open once a turn is over
none_open_over : (b : Book) (n : ℕ) → Sound b → IsSettled b → is_over (link_of b n) ≡ true → IsOpen b n → ⊥
none_open_over b n h settled over o = elim (settled.goes n o) [
  | inl s ↦ up_lives b s.try.link h (ap (λ l. is_over (b.link l)) ((h.goes n).tries_on s.try s.last) ∙ over) s.up
  | inr w ↦ elim (waits_on_a_link b n w.kind w.holds) [
    | inl dialing ↦ not_both (is_over (link_of b n)) (dials_from (link_of b n) dialing).2 over
    | inr (inl up) ↦ up_lives b (b.story n).link h over up
    | inr (inr unasked) ↦ unasked_lives b (b.story n).link h unasked over
  ]
]

-- and has one outcome
pub one_over : (config : Config) (word : ℕ) (events : List Event) (trace : List Action) → Legal config word events trace → AnswersOver trace
one_over config word events trace h n s over there stays =
    by_length ((book trace).story n).outcomes ((book trace).story n).submission ((book trace).story n).cancelled (ap is_some there) stays
    (none_open_over (book trace) n (sound_behind trace h.each) h.settled over) (at_most_one config word events trace h n)

-- where RESP3 is needed and not spoken, this is owed
unspoken_owed : (b : Book) (n : ℕ) → (b.story n).unspoken ≡ true → (b.story n).late ≡ false → owed b n ≡ Some (outcome.Fault error.Resp3Required)
unspoken_owed b n unspoken early = left_if (b.story n).late _ _ early ∙ taken_if (b.story n).unspoken _ _ unspoken

-- so nothing else is answered
unspoken_answer : (b : Book) (n : ℕ) (o : Outcome) → MayAnswer b n o ⊎ MayTell b n o → (b.story n).unspoken ≡ true → (b.story n).late ≡ false → o ≡ outcome.Fault error.Resp3Required
unspoken_answer b n o (inl may) unspoken early = same_some o (outcome.Fault error.Resp3Required) (sym may.owes ∙ unspoken_owed b n unspoken early)
unspoken_answer b n o (inr told) unspoken early = absurd (not_none (owed b n) (outcome.Fault error.Resp3Required) (told.begun.applied.shown.answered n told.asked) (unspoken_owed b n unspoken early))

-- in a legal trace
pub unspoken_refused : (config : Config) (word : ℕ) (events : List Event) (trace : List Action) → Legal config word events trace → RefusesUnspoken trace
unfolding book
unspoken_refused config word events trace h front more n o is =
    let whole : AllStand blank_book (front ++ action.Outcome n o ∷ more) = subst (AllStand blank_book) is h.each in
    unspoken_answer (book front) n o (stand_behind blank_book front (action.Outcome n o ∷ more) whole).0
