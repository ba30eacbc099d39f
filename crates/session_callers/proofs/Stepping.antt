-- What one step of the session is to the callers.
use Rattle.std.proofs.Common.{◌≡◌, ◌≢◌, ◌⊎◌, inl, inr, ℕ, ◌+◌, ◌^◌, ◌<◌, ◌≤◌, List, [], ◌∷◌, ◌++◌, length, refl, sym, ap, ◌∙◌, arith}
use Rattle.std.specs.Prelude.{Result, Err, IsErrOf, ◌↔◌, true, false}
use Rattle.driver_model.specs.declared.action.Action.{Action}
use Rattle.driver_model.specs.declared.event.Event.{Event}
use Rattle.driver_model.specs.declared.event.EventKind.{EventKind}
use Rattle.driver_model.specs.declared.event.EventKind.TheVariants as event
use Rattle.shared_session.specs.History.{History}
use Rattle.single_session.specs.Replay.{is_bad_after, is_spent_after}
use Rattle.shared_session.specs.Stops.{IsSpentBy}
use Rattle.shared_session.specs.declared.errors.StepError.{StepError}
use Rattle.shared_session.specs.declared.errors.StepError.TheVariants.{BadEvent, Spent, NoMemory}
use Rattle.shared_session.specs.declared.session.Failure.{Failure}
use Rattle.shared_session.specs.declared.session.Failure.TheVariants as failure
use Rattle.session_callers.specs.declared.board.Home.{Home}
use Rattle.session_callers.specs.Rule.{MaySpend, submits, submissions_in}
use Rattle.session_callers.specs.Steps.{IsCounted, Stepped, IsRefused, HasRefused}
use Rattle.session_callers.proofs.Totals.{total_last, total_most}

submits_one : (k : EventKind) → submits k ≤ 1
submits_one (event.Submit what) = omega arith
submits_one (event.Cancel n) = omega arith
submits_one (event.Connected l) = omega arith
submits_one (event.Refused l f) = omega arith
submits_one (event.Fired t) = omega arith
submits_one (event.Creds c auth) = omega arith
submits_one (event.CredsError c text) = omega arith
submits_one (event.CredsEnd c) = omega arith
submits_one (event.Wrote l count) = omega arith
submits_one (event.Bytes l piece) = omega arith
submits_one (event.Ended l) = omega arith
submits_one (event.ReadFault l kind) = omega arith
submits_one (event.WriteFault l kind) = omega arith
submits_one (event.Timeout ms) = omega arith
submits_one event.DropStream = omega arith
submits_one event.Shutdown = omega arith

submissions_more : (es : List Event) (e : Event) → submissions_in (es ++ e ∷ []) ≡ submissions_in es + submits e.kind
unfolding submissions_in
submissions_more es e = total_last (λ (e : Event). submits e.kind) es e

submissions_most : (es : List Event) → submissions_in es ≤ length es
unfolding submissions_in
submissions_most es = total_most (λ (e : Event). submits e.kind) (λ e. submits_one e.kind) es

-- the count of submissions fits where that of events does
pub count_fits : (h : Home) (new : List Event) (e : Event) (count taken : ℕ) → IsCounted h → count ≡ submits e.kind → new ≡ h.session.events ++ e ∷ [] → taken ≡ length new → taken < 2 ^ 32 → h.submissions + count < 2 ^ 32
count_fits h new e count taken c is n t few =
    let a : h.submissions ≡ submissions_in h.session.events = c.submissions in
    let b : submissions_in new ≡ submissions_in h.session.events + submits e.kind = ap submissions_in n ∙ submissions_more h.session.events e in
    let d = submissions_most new in omega arith

not_spent_sound : failure.Sound ≡ failure.Spent → ⊥
not_spent_sound e = cc

not_spent_memory : failure.NoMemory ≡ failure.Spent → ⊥
not_spent_memory e = cc

pub stepped_ok : (h k : Home) (e : Event) → IsCounted h → k.session ≡ record h.session { events = h.session.events ++ e ∷ [] } → h.session.failure ≡ failure.Sound → k.made ≡ h.made → k.submissions ≡ h.submissions + submits e.kind → Stepped h k
stepped_ok h k e c is sound made count =
    let events : k.session.events ≡ h.session.events ++ e ∷ [] = ap (λ (s : History). s.events) is in
    let failed : k.session.failure ≡ h.session.failure = ap (λ (s : History). s.failure) is in
    record {
      config = (ap (λ (s : History). s.config) is, ap (λ (s : History). s.word) is);
      grows = inr (e, events);
      kept = λ n. absurd (n sound);
      made = made;
      counted = record {
        submissions = count ∙ ap (λ (n : ℕ). n + submits e.kind) c.submissions ∙ sym (submissions_more h.session.events e) ∙ ap submissions_in (sym events);
        spent = λ spent. absurd (not_spent_sound (sym (failed ∙ sound) ∙ spent));
      };
    }

module _ {T : Type 0} (r : Result T StepError) (h k : Home) (e : Event) (c : IsCounted h)
    (made : k.made ≡ h.made) (count : k.submissions ≡ h.submissions)
    (bad : IsErrOf r BadEvent ↔ ((h.session.failure ≡ failure.Sound) × (is_bad_after h.session.config h.session.word h.session.events e ≡ true)))
    (bad_same : IsErrOf r BadEvent → k.session ≡ h.session)
    (spent : (n : ℕ) → IsErrOf r (Spent n) → (h.session.failure ≡ failure.Spent) ⊎ IsSpentBy h.session e)
    (counts : (n : ℕ) → IsErrOf r (Spent n) → n ≡ length h.session.events)
    (again : h.session.failure ≡ failure.Spent → IsErrOf r (Spent (length h.session.events)))
    (failed : h.session.failure ≡ failure.NoMemory → IsErrOf r NoMemory)
    (fails_spent : (n : ℕ) → IsErrOf r (Spent n) → k.session.failure ≡ failure.Spent)
    (fails : IsErrOf r NoMemory → k.session.failure ≡ failure.NoMemory)
    (kept : k.session ≡ record h.session { failure = k.session.failure }) where
  events_same : k.session.events ≡ h.session.events
  events_same = ap (λ (s : History). s.events) kept

  config_same : k.session.config ≡ h.session.config
  config_same = ap (λ (s : History). s.config) kept

  word_same : k.session.word ≡ h.session.word
  word_same = ap (λ (s : History). s.word) kept

  -- a spent step of the session before is one of the session after
  still : (f : Event) → is_bad_after h.session.config h.session.word h.session.events f ≡ false → is_spent_after h.session.config h.session.word h.session.events f ≡ true
      → (e : Event) × (is_bad_after k.session.config k.session.word k.session.events e ≡ false) × (is_spent_after k.session.config k.session.word k.session.events e ≡ true)
  still f good spent = (f, ap (λ (s : History). is_bad_after s.config s.word s.events f) kept ∙ good, ap (λ (s : History). is_spent_after s.config s.word s.events f) kept ∙ spent)

  stays : (x : StepError) → r ≡ Err x → (f : Failure) → h.session.failure ≡ f → h.session.failure ≢ failure.Sound → k.session.failure ≡ h.session.failure
  stays x is failure.Sound f n = absurd (n f)
  stays BadEvent is failure.Spent f n = ap (λ (s : History). s.failure) (bad_same is)
  stays (Spent m) is failure.Spent f n = fails_spent m is ∙ sym f
  stays NoMemory is failure.Spent f n = absurd (let a = again f in cc)
  stays BadEvent is failure.NoMemory f n = ap (λ (s : History). s.failure) (bad_same is)
  stays (Spent m) is failure.NoMemory f n = absurd (let a = failed f in cc)
  stays NoMemory is failure.NoMemory f n = fails is ∙ sym f

  may_spend : (x : StepError) → r ≡ Err x → MaySpend k.session.config k.session.word k.session.events k.session.failure
  may_spend BadEvent is s = let was = c.spent (ap (λ (s : History). s.failure) (sym (bad_same is)) ∙ s) in still was.0 was.1 was.2
  may_spend (Spent n) is s = go (spent n is)
    where
      go : (h.session.failure ≡ failure.Spent) ⊎ IsSpentBy h.session e → (e : Event) × (is_bad_after k.session.config k.session.word k.session.events e ≡ false) × (is_spent_after k.session.config k.session.word k.session.events e ≡ true)
      go (inl before) = let was = c.spent before in still was.0 was.1 was.2
      go (inr by) = still e by.good by.spent
  may_spend NoMemory is s = absurd (not_spent_memory (sym (fails is) ∙ s))

  pub stepped_err : (x : StepError) → r ≡ Err x → Stepped h k
  stepped_err x is = record {
    config = (config_same, word_same);
    grows = inl events_same;
    kept = λ n. (stays x is h.session.failure refl n, events_same);
    made = made;
    counted = record { submissions = count ∙ c.submissions ∙ ap submissions_in (sym events_same); spent = may_spend x is };
  }

  refused : (x : StepError) → r ≡ Err x → IsRefused x k.session e
  refused BadEvent is =
      let b = bad.0 is in
      (ap (λ (s : History). s.failure) (bad_same is) ∙ b.0, ap (λ (s : History). is_bad_after s.config s.word s.events e) (bad_same is) ∙ b.1)
  refused (Spent n) is = (fails_spent n is, counts n is ∙ ap length (sym events_same))
  refused NoMemory is = fails is

  pub refused_err : (x : StepError) → r ≡ Err x → (before after : List Action) → after ≡ before → HasRefused x h k e before after
  refused_err x is before after same = record { events = events_same; why = refused x is; actions = same }
