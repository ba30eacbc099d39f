-- Whoever left starts no message.
use Rattle.std.proofs.Common.{◌≡◌, ◌⊎◌, inl, inr, ℕ, ◌<◌, ◌≤◌, ◌==◌, true, false, not, List, [], ◌∷◌, ◌++◌, refl, sym, ◌∙◌, ap, subst, arith}
use Rattle.containers.proofs.Choices.{chosen, ne_from, both_right}
use Rattle.redis_error.specs.declared.fault_kind.FaultKind.TheVariants as kind
use Rattle.redis_error.specs.declared.redis_error.RedisError.{RedisError}
use Rattle.redis_error.specs.declared.redis_error.RedisError.TheVariants as error
use Rattle.driver_model.specs.declared.action.Action.{Action}
use Rattle.driver_model.specs.declared.action.Action.TheVariants as action
use Rattle.driver_model.specs.declared.action.Cause.TheVariants as cause
use Rattle.driver_model.specs.declared.config.Config.{Config}
use Rattle.driver_model.specs.declared.event.Event.{Event}
use Rattle.driver_model.specs.declared.outcome.Outcome.{Outcome}
use Rattle.driver_model.specs.declared.outcome.Outcome.TheVariants as outcome
use Rattle.legal_trace.specs.Story.{Story, is_open, is_awaited, is_no_error, is_unstarted, left, answered}
use Rattle.legal_trace.specs.Book.{Book, blank_book, book, entered, entered_each, after_event}
use Rattle.legal_trace.specs.Legal.{MayStand, MayAnswer, MayTell, AllStand, IsOpen, Legal}
use Rattle.legal_trace.proofs.Books.{stand_front, stand_behind}
use Rattle.legal_laws.specs.Starts.{IsStart, Leaves, LeftStartNoMore}
use Rattle.legal_laws.specs.Permits.{TimedOutStartNoMore}
use Rattle.legal_laws.proofs.Links.Bounds.{start_of}
use Rattle.legal_laws.proofs.Traces.Held.{not_open}
use Rattle.legal_laws.proofs.Submissions.InLine.{submissions_grow, leaver_is_done, stays_done}
use Rattle.legal_trace.proofs.Moves.{open_or_told}
use Rattle.legal_laws.proofs.Traces.Numbers.{HasStories, open_is_numbered}
use Rattle.legal_laws.proofs.Traces.Sound.{Sound, sound_behind}
use Rattle.legal_laws.proofs.Submissions.Tales.{open_has_none}

-- an outcome is of an open submission
pub outcome_is_open : (b : Book) (n : ℕ) (o : Outcome) → MayAnswer b n o ⊎ MayTell b n o → IsOpen b n
outcome_is_open b n o (inl owes) = owes.asked
outcome_is_open b n o (inr told) = told.asked

-- an open submission that gets an error is done
error_is_done : (s : Story) (e : RedisError) → is_open s ≡ true → is_unstarted (answered s (outcome.Fault e)) ≡ true → ⊥
error_is_done s e o u = elim (open_or_told (answered s (outcome.Fault e)) u) [
  | inl still ↦ not_open s (outcome.Fault e) still
  | inr told ↦
      let good : is_no_error (s.outcomes ++ outcome.Fault e ∷ []) ≡ true = both_right (not (is_awaited s)) (is_no_error (s.outcomes ++ outcome.Fault e ∷ [])) told in
      let x : false ≡ true = sym (ap (λ (os : List Outcome). is_no_error (os ++ outcome.Fault e ∷ [])) (open_has_none s o)) ∙ good in cc x
]

-- so whoever leaves is to start no more
done_behind : (b : Book) (a : Action) (n : ℕ) → MayStand b a → Leaves b n a → is_unstarted ((entered b a).story n) ≡ true → ⊥
done_behind b (action.Outcome m (outcome.Fault e)) n may is =
    let o : is_open (b.story n) ≡ true = subst (IsOpen b) is (outcome_is_open b m (outcome.Fault e) may) in
    chosen (λ s. is_unstarted s ≡ true → ⊥) (m == n) (answered (b.story n) (outcome.Fault e)) (b.story n) (λ t. error_is_done (b.story n) e o) (λ f u. ne_from m n f is)
done_behind b (action.Turn k (cause.Event e)) n may is =
    subst (λ kind. is_unstarted (after_event b n kind) ≡ true → ⊥) (sym is.0)
    (chosen (λ s. is_unstarted s ≡ true → ⊥) (n == n) (left (b.story n)) (b.story n) (λ t. leaver_is_done (b.story n) is.1) (λ f u. ne_from n n f refl))
done_behind b _ n may is = absurd is

-- and is numbered
leaver_is_numbered : (b : Book) (a : Action) (n : ℕ) → HasStories b → MayStand b a → Leaves b n a → n < b.submissions
leaver_is_numbered b (action.Outcome m (outcome.Fault e)) n stories may is = open_is_numbered b n stories (subst (IsOpen b) is (outcome_is_open b m (outcome.Fault e) may))
leaver_is_numbered b (action.Turn k (cause.Event e)) n stories may is = open_is_numbered b n stories is.1
leaver_is_numbered b _ n stories may is = absurd is

-- so none of its messages starts behind actions that may stand
none_behind : (b : Book) (middle more : List Action) (a c : Action) (l n : ℕ) → Sound b → AllStand b (a ∷ (middle ++ c ∷ more)) → Leaves b n a → IsStart l n c → ⊥
none_behind b middle more a c l n sound all leaves start =
    let after : Book = entered b a in
    let grows : b.submissions ≤ after.submissions = submissions_grow b a in
    let numbered : n < b.submissions = leaver_is_numbered b a n sound.stories all.0 leaves in
    let s = start_of (entered_each after middle) c l n (stand_behind after middle (c ∷ more) all.1).0 start in
    stays_done after middle (stand_front after middle (c ∷ more) all.1) n (omega (arith, grows, numbered)) (done_behind b a n all.0 leaves) s.3.unstarted

-- nor in a legal trace
pub left_start_no_more : (config : Config) (word : ℕ) (events : List Event) (trace : List Action) → Legal config word events trace → LeftStartNoMore trace
unfolding book
left_start_no_more config word events trace h front middle more a c l n is leaves start =
    let all : AllStand blank_book (front ++ a ∷ (middle ++ c ∷ more)) = subst (AllStand blank_book) is h.each in
    none_behind (book front) middle more a c l n (sound_behind front (stand_front blank_book front (a ∷ (middle ++ c ∷ more)) all)) (stand_behind blank_book front (a ∷ (middle ++ c ∷ more)) all) leaves start

-- so whoever was told that its time is over starts no message
pub timed_out_start_no_more : (config : Config) (word : ℕ) (events : List Event) (trace : List Action) → Legal config word events trace → TimedOutStartNoMore trace
timed_out_start_no_more config word events trace h front middle more c l n is start =
    left_start_no_more config word events trace h front middle more (action.Outcome n (outcome.Fault (error.Io kind.TimedOut))) c l n is refl start
