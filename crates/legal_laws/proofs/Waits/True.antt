-- Each wait that a legal trace shows is true.
use Rattle.std.proofs.Common.{◌≡◌, ℕ, ◌<◌, ◌≤◌, true, false, List, [], ◌∷◌, ◌++◌, Some, None, if◌then◌else◌, inl, inr, refl, sym, ◌∙◌, ap, subst, arith}
use Rattle.std.proofs.lemmas.List.{append-nil}
use Rattle.containers.proofs.Choices.{by_test, taken_if, left_if}
use Rattle.driver_model.specs.declared.action.Action.{Action}
use Rattle.driver_model.specs.declared.action.Action.TheVariants as action
use Rattle.driver_model.specs.declared.action.Cause.TheVariants as cause
use Rattle.driver_model.specs.declared.action.Owner.TheVariants as owner
use Rattle.driver_model.specs.declared.action.WaitKind.{WaitKind}
use Rattle.driver_model.specs.declared.action.WaitKind.TheVariants as wait
use Rattle.driver_model.specs.declared.config.Config.{Config}
use Rattle.driver_model.specs.declared.event.Event.{Event}
use Rattle.driver_model.specs.Config.{hearing_of, permits}
use Rattle.driver_model.specs.Hearing.{is_watching}
use Rattle.legal_trace.specs.Ledger.{IsOffered, lacks_credentials}
use Rattle.legal_trace.specs.Story.{last_of}
use Rattle.legal_trace.specs.Book.{Book, blank_book, book, entered, entered_each}
use Rattle.legal_trace.specs.Steps.{waits, next_step, permits_held}
use Rattle.legal_trace.specs.Legal.{AllStand, IsOpen, IsSettled, IsWaiting, Legal, MayWait, link_of}
use Rattle.legal_trace.proofs.Books.{book_append, stand_front}
use Rattle.legal_laws.specs.Waits.{AllWait, IsTrue, WaitsAreTrue}
use Rattle.legal_laws.proofs.Links.Bounds.{IsReady, applied_began, next_may, ready_behind}
use Rattle.legal_laws.proofs.Notices.Dealt.{asked_hears}
use Rattle.legal_laws.proofs.Notices.Reports.{tells_reports}
use Rattle.legal_laws.proofs.Submissions.InLine.{submissions_grow}
use Rattle.legal_laws.proofs.Submissions.Permits.{keeps_permits}
use Rattle.legal_laws.proofs.Traces.Numbers.{open_is_numbered, up_is_asked, up_is_numbered}
use Rattle.legal_laws.proofs.Waits.Counts.{Rests, out_of_permits, out_of_places}
use Rattle.legal_laws.proofs.Waits.Firsts.{firsts_behind}
use Rattle.legal_laws.proofs.Waits.Found.{where_waits}
use Rattle.legal_laws.proofs.Waits.Links.{dialing_is_connecting, lacking_is_uncredited, unserved_resubscribes, unset_is_setting_up}
use Rattle.legal_laws.proofs.Waits.Resting.{rest_runs, unasked_rests}
use Rattle.legal_laws.proofs.Waits.Sized.{asked_is_sized}
use Rattle.legal_laws.proofs.Waits.Sizes.{held_back_anew}

-- submissions grow with actions
more_submissions : (b : Book) (more : List Action) → b.submissions ≤ (entered_each b more).submissions
more_submissions b [] = omega arith
more_submissions b (a ∷ more) =
    let one : b.submissions ≤ (entered b a).submissions = submissions_grow b a in
    let rest : (entered b a).submissions ≤ (entered_each (entered b a) more).submissions = more_submissions (entered b a) more in
    omega (arith, one, rest)

-- where something was submitted, no server is put into monitor mode
plain_link : (config : Config) (word : ℕ) (events : List Event) (front more : List Action) (l n : ℕ) → Legal config word events (front ++ more) → ((book front).link l).asked ≡ true → n < (book front).submissions
    → is_watching ((book front).link l).hearing ≡ false
plain_link config word events front more l n h asked numbered = by_test (is_watching (hearing_of config)) (is_watching ((book front).link l).hearing ≡ false)
    (λ watching. absurd (
    let none : (book (front ++ more)).submissions ≡ 0 = (tells_reports config word events (front ++ more) h).submits watching in
    let same : (book (front ++ more)).submissions ≡ (entered_each (book front) more).submissions = ap (λ (b : Book). b.submissions) (book_append front more) in
    let grown : (book front).submissions ≤ (entered_each (book front) more).submissions = more_submissions (book front) more in
    omega (arith, none, same, grown, numbered)
    ))
    (λ plain. ap is_watching (asked_hears config word events front more l h asked) ∙ plain)

-- what is known of the book of a front of a legal trace, where submission n is open and its message has not started
record Stands (config : Config) (front : List Action) (n : ℕ) : Type 0 where
  ready : IsReady config (book front)
  all : AllStand blank_book front
  asked : IsOpen (book front) n
  unstarted : ((book front).story n).tries ≡ []
  rests : Rests (book front) n
  within : (l most : ℕ) → permits config ≡ Some most → permits_held (book front).story l (book front).submissions ≤ most
  plain : (l : ℕ) → ((book front).link l).asked ≡ true → is_watching ((book front).link l).hearing ≡ false

-- a wait that is so by the next step of a submission is true
waits_truly : (config : Config) (front : List Action) (n : ℕ) (kind : WaitKind) → Stands config front n → next_step (book front) n ≡ waits kind → IsTrue config front n kind
waits_truly config front n kind h e =
    let b : Book = book front in
    let l = link_of b n in
    let applied = h.rests.written.moved.begun.applied in
    let told : b.config ≡ Some config = h.ready.configured (applied_began b h.ready.sound applied) in
    let offered : l.up ≡ true → IsOffered l = h.rests.written.offered (b.story n).link in
    where_waits (IsTrue config front n kind) b n kind e (record {
      connecting = λ d same. subst (IsTrue config front n) same (dialing_is_connecting l d);
      unready = λ up unset same. subst (IsTrue config front n) same (by_test (lacks_credentials l) (IsTrue config front n (if lacks_credentials l then wait.Creds else wait.Setup))
          (λ t. subst (IsTrue config front n) (sym (taken_if (lacks_credentials l) wait.Creds wait.Setup t)) (lacking_is_uncredited l up t (applied.shown.sourced (b.story n).link)))
          (λ f. subst (IsTrue config front n) (sym (left_if (lacks_credentials l) wait.Creds wait.Setup f))
          (unset_is_setting_up config b l told up unset (h.plain (b.story n).link (up_is_asked b (b.story n).link h.ready.sound.links up)) f (applied.shown.ended (b.story n).link) (offered up)
          (h.rests.written.moved.begun.setups (b.story n).link))));
      repeating = λ up set unserved same. subst (IsTrue config front n) same (unserved_resubscribes config b l told up set unserved (offered up) (h.rests.written.moved.begun.repeated (b.story n).link));
      permitless = λ serves limit counted none free same. subst (IsTrue config front n) same (out_of_permits config b n limit told h.within counted none free);
      outside = λ serves untold let_in out same. subst (IsTrue config front n) same
          (out_of_places config b n told (asked_is_sized front config h.all (λ none. omega (arith, up_is_numbered b (b.story n).link h.ready.sound.links serves.up, none)) told) h.rests serves out);
      held = λ serves back same. subst (IsTrue config front n) same (record { up = serves.up; held_back = held_back_anew config b l told back });
      resting = λ down unasked same. subst (IsTrue config front n) same
          (let t = unasked_rests b n h.ready.sound (firsts_behind front h.all) applied h.asked h.unstarted unasked in rest_runs front h.all t.0 t.1);
    })

-- so each stands
stands : (config : Config) (word : ℕ) (events : List Event) (front more : List Action) (n : ℕ) → Legal config word events (front ++ more) → IsOpen (book front) n → ((book front).story n).tries ≡ [] → Rests (book front) n → Stands config front n
stands config word events front more n h o none rests =
    let ready : IsReady config (book front) = ready_behind config word events front more h in
    record {
      ready = ready;
      all = stand_front blank_book front more h.each;
      asked = o;
      unstarted = none;
      rests = rests;
      within = λ l most counted. (keeps_permits config word events (front ++ more) h).within front more most l refl counted;
      plain = λ l asked. plain_link config word events front more l n h asked (open_is_numbered (book front) n ready.sound.stories o);
    }

-- in a settled turn each open submission without a message waits
settled_waits : (b : Book) (n : ℕ) → IsSettled b → IsOpen b n → (b.story n).tries ≡ [] → IsWaiting b n
settled_waits b n settled o none = elim (settled.goes n o) [
  | inr waiting ↦ waiting
  | inl started ↦ absurd (let x : None ≡ Some started.try = sym (ap last_of none) ∙ started.last in cc x)
]

-- so all do truly
all_wait : (config : Config) (word : ℕ) (events : List Event) (front more : List Action) → Legal config word events (front ++ more) → IsSettled (book front) → AllWait config front
all_wait config word events front more h settled n o none =
    let waiting : IsWaiting (book front) n = settled_waits (book front) n settled o none in
    let rests : Rests (book front) n = record { written = settled.written; before = λ m i open_too untried. settled_waits (book front) m settled open_too untried } in
    record { kind = waiting.kind; shown = waiting.shown; holds = waits_truly config front n waiting.kind (stands config word events front more n h o none rests) waiting.holds }

-- and where a wait is shown
shown_truly : (config : Config) (word : ℕ) (events : List Event) (front more : List Action) (n : ℕ) (kind : WaitKind) → Legal config word events (front ++ more) → MayWait (book front) n kind → IsTrue config front n kind
shown_truly config word events front more n kind h may =
    waits_truly config front n kind (stands config word events front more n h may.asked may.unstarted (record { written = may.written; before = may.in_order })) may.holds

-- so the waits of each legal trace are true
pub waits_are_true : (config : Config) (word : ℕ) (events : List Event) (trace : List Action) → Legal config word events trace → WaitsAreTrue config trace
waits_are_true config word events trace h = record {
  shown = λ front more n round kind is.
      let legal : Legal config word events (front ++ action.Wait (owner.Try n round) kind ∷ more) = subst (Legal config word events) is h in
      shown_truly config word events front (action.Wait (owner.Try n round) kind ∷ more) n kind legal (next_may config word events front more (action.Wait (owner.Try n round) kind) legal).1;
  between = λ front more k e is.
      let legal : Legal config word events (front ++ action.Turn k (cause.Event e) ∷ more) = subst (Legal config word events) is h in
      all_wait config word events front (action.Turn k (cause.Event e) ∷ more) legal (next_may config word events front more (action.Turn k (cause.Event e)) legal).is_for.1;
  last = all_wait config word events trace [] (subst (Legal config word events) (sym (append-nil trace)) h) h.settled;
}
