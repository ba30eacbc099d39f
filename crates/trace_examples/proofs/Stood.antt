-- What the parts of a legal trace say of one action in it.
use Rattle.std.proofs.Common.{◌≡◌, codes, ℕ, ◌==◌, Bool, true, false, Option, List, [], ◌∷◌, ◌++◌, ◌&&◌, if◌then◌else◌, Some, None, is_some, inl, inr, refl, ap, ◌∙◌}
use Rattle.containers.proofs.Choices.{by_test, ne_from, not_both}
use Rattle.manager_config.specs.declared.config.ConnectionManagerConfig.{ConnectionManagerConfig}
use Rattle.connection_setup.specs.Setup.{setup}
use Rattle.connection_setup.specs.declared.judgement.SetupResult.TheVariants as result
use Rattle.driver_model.specs.declared.action.Action.{Action}
use Rattle.driver_model.specs.declared.action.Action.TheVariants as action
use Rattle.driver_model.specs.declared.action.Cause.TheVariants as cause
use Rattle.driver_model.specs.declared.action.Owner.TheVariants as owner
use Rattle.driver_model.specs.declared.action.WaitKind.TheVariants as wait
use Rattle.driver_model.specs.declared.config.Config.{Config}
use Rattle.driver_model.specs.Config.{told_info, wants_credentials}
use Rattle.driver_model.specs.Setup.{says_nothing}
use Rattle.driver_model.specs.declared.event.Event.{Event}
use Rattle.driver_model.specs.declared.event.EventKind.TheVariants as event
use Rattle.driver_model.specs.declared.event.Submission.{Submission}
use Rattle.driver_model.specs.declared.outcome.Outcome.{Outcome}
use Rattle.legal_trace.specs.Ledger.{is_ready, is_set_up, is_well}
use Rattle.legal_trace.specs.Story.{is_awaited}
use Rattle.legal_trace.specs.Managers.{settings_in, is_lazy}
use Rattle.legal_trace.specs.Book.{Book, blank_book, entered_each}
use Rattle.legal_trace.specs.Legal.{IsOpen, MayAnswer, MayBeCreated, MayShowCreation, MayStand, Legal}
use Rattle.legal_trace.proofs.Books.{stand_behind}
use Rattle.legal_trace.proofs.Moves.{tells_mean, ready_is_up, ready_is_set}
use Rattle.legal_trace.proofs.Setups.{set_is_given, set_is_said}
use Rattle.trace_examples.specs.Parts.{turn, command, reply}
use Rattle.trace_examples.specs.Traces.{opening, came_up, in_wait, both_in_wait}
use Rattle.trace_examples.proofs.Bounded.{IsBounded, blank_bounded, bounded_behind}
use Rattle.trace_examples.proofs.Settled.{first_and_idle}

-- the book of a front
abbrev pub book_of : List Action → Book
book_of front = entered_each blank_book front

-- an action of a legal trace stands where it may behind its front
pub may_stand : (config : Config) (word : ℕ) (events : List Event) (front after : List Action) (a : Action) → Legal config word events (front ++ a ∷ after) → MayStand (book_of front) a
may_stand config word events front after a h = (stand_behind blank_book front (a ∷ after) h.each).0

-- an outcome is of an open submission
pub still_open : (config : Config) (word : ℕ) (events : List Event) (front after : List Action) (n : ℕ) (o : Outcome) → Legal config word events (front ++ action.Outcome n o ∷ after) → IsOpen (book_of front) n
still_open config word events front after n o h = elim (may_stand config word events front after (action.Outcome n o) h) [ inl a ↦ a.asked | inr t ↦ t.asked ]

-- where the reply of a submission is awaited, its outcome is owed
pub answer : (config : Config) (word : ℕ) (events : List Event) (front after : List Action) (n : ℕ) (o : Outcome)
    → is_awaited ((book_of front).story n) ≡ true → Legal config word events (front ++ action.Outcome n o ∷ after) → MayAnswer (book_of front) n o
answer config word events front after n o awaited h =
    let b = book_of front in
    elim (may_stand config word events front after (action.Outcome n o) h) [ inl a ↦ a | inr t ↦ absurd (not_both (is_awaited ((book_of front).story n)) (tells_mean b n t.tells).4 awaited) ]

-- replies of different letters
pub other_letter : (x y : ℕ) → (x == y) ≡ false → Some (reply x) ≡ Some (reply y) → ⊥
other_letter x y apart e = ne_from x y apart (same_letter x y e)
  where
    same_letter : (x y : ℕ) → Some (reply x) ≡ Some (reply y) → x ≡ y
    same_letter x y e = cc e

-- where one link was asked for, and isn't up, none is ready
pub none_is_ready : (b : Book) (l : ℕ) → IsBounded b → b.links ≡ 1 → (b.link 0).up ≡ false → is_ready (b.link l) ≡ true → ⊥
none_is_ready b l bounded one down = first_and_idle b (λ m. is_ready (b.link m) ≡ true → ⊥) l bounded one
    (λ r. not_both (b.link 0).up down (ready_is_up (b.link 0) r))
    (λ idle r. not_both (b.link l).up idle.down (ready_is_up (b.link l) r))

-- nor where it isn't set up
pub none_is_set : (b : Book) (l : ℕ) → IsBounded b → b.links ≡ 1 → is_set_up (b.link 0) ≡ false → is_ready (b.link l) ≡ true → ⊥
none_is_set b l bounded one unset = first_and_idle b (λ m. is_ready (b.link m) ≡ true → ⊥) l bounded one
    (λ r. not_both (is_set_up (b.link 0)) unset (ready_is_set (b.link 0) r))
    (λ idle r. not_both (b.link l).up idle.down (ready_is_up (b.link l) r))

-- a session whose opening asks for the first link, and shows nothing before, doesn't wait for its first submission
pub opens_at_once : (config : Config) (word : ℕ) (events : List Event) (after : List Action) → Legal config word events (opening config word ++ after) → is_lazy (Some config) ≡ false
opens_at_once config word events after h =
    let m = may_stand config word events (action.Turn 0 (cause.Opening config word) ∷ []) after (action.Connect 0 (codes "h") 6379) h in
    by_test (is_lazy (Some config)) (is_lazy (Some config) ≡ false) (λ t. absurd (m.shown.created.lazy t refl)) (λ f. f)

-- and doesn't come back
pub opens_alone : (config : Config) (word : ℕ) (events : List Event) (after : List Action) → Legal config word events (opening config word ++ after) → settings_in (Some config) ≡ None
opens_alone config word events after h =
    none_in (settings_in (Some config)) (may_stand config word events (action.Turn 0 (cause.Opening config word) ∷ []) after (action.Connect 0 (codes "h") 6379) h).due
  where
    none_in : (s : Option ConnectionManagerConfig) → (if is_some s then false else true) ≡ true → s ≡ None
    none_in None e = refl
    none_in (Some settings) e = cc e

-- one that doesn't wait so is created where a link is ready
pub created_by_link : (b : Book) → is_lazy b.config ≡ false → MayShowCreation b None → MayBeCreated b
created_by_link b lazy (inl may) = may
created_by_link b lazy (inr may) = absurd (not_both (is_lazy b.config) lazy (ap is_lazy may.told ∙ may.lazy))

-- where the creation is shown of one that doesn't wait so, and one link was asked for, this is ready
created_ready : (config : Config) (word : ℕ) (events : List Event) (front after : List Action) → IsBounded (book_of front) → (book_of front).links ≡ 1 → is_lazy (book_of front).config ≡ false
    → Legal config word events (front ++ action.Created None ∷ after) → is_ready ((book_of front).link 0) ≡ true
created_ready config word events front after bounded one lazy h =
    let b = book_of front in
    let m = created_by_link b lazy (may_stand config word events front after (action.Created None) h) in
    first_and_idle b (λ l. is_ready (b.link l) ≡ true → is_ready (b.link 0) ≡ true) m.l bounded one (λ r. r)
    (λ idle r. absurd (not_both (b.link m.l).up idle.down (ready_is_up (b.link m.l) r))) m.ready

-- where no setup started, and a link is set up, nothing is to be said
silent_from : (says : Bool) → is_well (if says then Some result.Ready else None) ≡ true → says ≡ true
silent_from true e = refl
silent_from false e = cc e

-- nothing is to be said to the server of this configuration
abbrev pub IsSilent : Config → Type 0
IsSilent config = says_nothing (setup (told_info config) (0 == 0)) ≡ true

-- and no credentials are to come
abbrev pub IsGiven : Config → Type 0
IsGiven config = (wants_credentials config && true) ≡ false

-- a link that came up, and of which nothing else was told
abbrev unsaid : Config → ℕ → List Action
unsaid config word = opening config word ++ turn 1 (event.Connected 0) ∷ []

-- where the link is created once it is up, its link is set up
created_set : (config : Config) (word : ℕ) (events : List Event) (after : List Action) → Legal config word events (came_up config word ++ after) → is_set_up ((book_of (unsaid config word)).link 0) ≡ true
created_set config word events after h =
    let front = unsaid config word in
    ready_is_set ((book_of front).link 0) (created_ready config word events front after (bounded_behind blank_book front refl blank_bounded) refl (opens_at_once config word events _ h) h)

-- so nothing is to be said
pub came_up_silent : (config : Config) (word : ℕ) (events : List Event) (after : List Action) → Legal config word events (came_up config word ++ after) → IsSilent config
came_up_silent config word events after h =
    silent_from (says_nothing (setup (told_info config) (0 == 0))) (set_is_said ((book_of (unsaid config word)).link 0) (created_set config word events after h))

-- and no credentials are to come
pub came_up_given : (config : Config) (word : ℕ) (events : List Event) (after : List Action) → Legal config word events (came_up config word ++ after) → IsGiven config
came_up_given config word events after h = set_is_given ((book_of (unsaid config word)).link 0) (created_set config word events after h)

-- the front of the creation where two requests wait
abbrev both_unsaid : Config → ℕ → Submission → List Action
both_unsaid config word s = in_wait config word (command 71) ++ turn 2 (event.Submit s) ∷ action.Wait (owner.Try 1 0) wait.Connect ∷ turn 3 (event.Connected 0) ∷ []

-- there it is set up, too
both_set : (config : Config) (word : ℕ) (events : List Event) (s : Submission) (after : List Action) → Legal config word events (both_in_wait config word s ++ after) → is_set_up ((book_of (both_unsaid config word s)).link 0) ≡ true
both_set config word events s after h =
    let front = both_unsaid config word s in
    ready_is_set ((book_of front).link 0) (created_ready config word events front after (bounded_behind blank_book front refl blank_bounded) refl (opens_at_once config word events _ h) h)

-- so nothing is to be said
pub both_up_silent : (config : Config) (word : ℕ) (events : List Event) (s : Submission) (after : List Action) → Legal config word events (both_in_wait config word s ++ after) → IsSilent config
both_up_silent config word events s after h =
    silent_from (says_nothing (setup (told_info config) (0 == 0))) (set_is_said ((book_of (both_unsaid config word s)).link 0) (both_set config word events s after h))

-- and no credentials are to come
pub both_up_given : (config : Config) (word : ℕ) (events : List Event) (s : Submission) (after : List Action) → Legal config word events (both_in_wait config word s ++ after) → IsGiven config
both_up_given config word events s after h = set_is_given ((book_of (both_unsaid config word s)).link 0) (both_set config word events s after h)
