-- Where messages start, and submissions are told: within the boundary, and in their places.
use Rattle.std.proofs.Common.{◌≡◌, ◌≢◌, ◌⊎◌, inl, inr, ℕ, ◌<◌, ◌≤◌, nat_lt, nat_le, Bool, true, false, ◌&&◌, List, [], ◌∷◌, ◌++◌, length, Some, refl, sym, ◌∙◌, ap, subst, arith}
use Rattle.containers.proofs.Choices.{by_test, not_lt_from, not_le_from}
use Rattle.driver_model.specs.declared.action.Action.{Action}
use Rattle.driver_model.specs.declared.action.Action.TheVariants as action
use Rattle.driver_model.specs.declared.action.Owner.TheVariants as owner
use Rattle.driver_model.specs.declared.config.Config.{Config}
use Rattle.driver_model.specs.declared.event.Event.{Event}
use Rattle.driver_model.specs.declared.outcome.Outcome.{Outcome}
use Rattle.driver_model.specs.Config.{buffer_size, boundary}
use Rattle.legal_trace.specs.Ledger.{unwritten}
use Rattle.legal_trace.specs.Story.{is_no_error}
use Rattle.legal_trace.specs.Book.{Book, blank_book, book}
use Rattle.legal_trace.specs.Steps.{configured, queue_size, permits_in, line_before, is_held_back, is_outside}
use Rattle.legal_trace.specs.Legal.{MayStand, MayAnswer, MayTell, MayStart, AllStand, CanMove, IsApplied, event_causes, Legal}
use Rattle.legal_trace.proofs.Ahead.{renewal_is_free}
use Rattle.legal_trace.proofs.Books.{stand_front, stand_behind}
use Rattle.legal_laws.specs.Starts.{IsStart, StartsOn, HasPlace, StaysWithin}
use Rattle.legal_laws.proofs.Traces.Configured.{configured_behind}
use Rattle.legal_trace.proofs.Moves.{inside_has_room, starts_mean, tells_mean, starter_moves, teller_moves}
use Rattle.legal_laws.proofs.Traces.Numbers.{mover_is_numbered}
use Rattle.legal_laws.proofs.Submissions.Seated.{IsSeated, seated_behind, told_place}
use Rattle.legal_laws.proofs.Traces.Ranks.{applied_turn}
use Rattle.legal_laws.proofs.Traces.Sound.{Sound, sound_behind}
use Rattle.legal_laws.proofs.Submissions.Tales.{unstarted_gets_a_fault}

-- the message that starts
pub start_of : (b : Book) (a : Action) (l n : ℕ) → MayStand b a → IsStart l n a → (k : ℕ) × (count : ℕ) × (len : ℕ) × MayStart b l k n count len
start_of b (action.Start m k (owner.Try i round) count len) l n may is =
    (k, count, len, subst (λ j. MayStart b j k n count len) is.0 (subst (λ j. MayStart b m k j count len) is.1 may.1))
start_of b _ l n may is = absurd is

-- the second of two, where not both hold
the_second : (p q : Bool) → (p && q) ≡ false → p ≡ true → q ≡ false
the_second true q e t = e
the_second false q e t = cc

-- what doesn't hold back
free_from : (bound u : ℕ) → (nat_lt 0 u && nat_le bound u) ≡ false → (u ≡ 0) ⊎ (u < bound)
free_from bound u e = by_test (nat_lt 0 u) ((u ≡ 0) ⊎ (u < bound))
    (λ t. inr (not_le_from bound u (the_second (nat_lt 0 u) (nat_le bound u) e t)))
    (λ f. let i : u ≤ 0 = not_lt_from 0 u f in inl (omega (arith, i)))

-- where a message starts the event was applied, and its link isn't held back
start_free : (b : Book) (a : Action) (l : ℕ) → MayStand b a → StartsOn l a → IsApplied b × (is_held_back b (b.link l) ≡ false)
start_free b (action.Start m k owner.Setup count len) l may on = (may.applied, subst (λ j. is_held_back b (b.link j) ≡ false) on may.free)
start_free b (action.Start m k owner.Auth count len) l may on = (may.applied, subst (λ j. is_held_back b (b.link j) ≡ false) on (renewal_is_free b m may.free))
start_free b (action.Start m k owner.Resub count len) l may on = (may.applied, subst (λ j. is_held_back b (b.link j) ≡ false) on may.free)
start_free b (action.Start m k owner.Monitor count len) l may on = (may.applied, subst (λ j. is_held_back b (b.link j) ≡ false) on may.free)
start_free b (action.Start m k (owner.Try n round) count len) l may on =
    (may.1.begun.applied, subst (λ j. is_held_back b (b.link j) ≡ false) (sym may.1.on_its_link ∙ on) (starts_mean b n may.1.starts).2)
start_free b _ l may on = absurd on

-- so fewer bytes are unwritten than the boundary of the configuration
start_bounds : (config : Config) (b : Book) (l : ℕ) → b.config ≡ Some config → is_held_back b (b.link l) ≡ false → (length (unwritten (b.link l)) ≡ 0) ⊎ (length (unwritten (b.link l)) < boundary config)
start_bounds config b l c free =
    subst (λ bound. (length (unwritten (b.link l)) ≡ 0) ⊎ (length (unwritten (b.link l)) < bound)) (ap (configured boundary) c)
    (free_from (configured boundary b.config) (length (unwritten (b.link l))) free)

-- whoever makes a step and isn't outside finds fewer in line before it than the queue holds
mover_has_room : (b : Book) (n : ℕ) → Sound b → IsSeated b → CanMove b n → is_outside b n ≡ false → line_before (permits_in b.config) b.story (b.story n).link n < queue_size b
mover_has_room b n sound seated moves inside = elim (inside_has_room b n inside) [
  | inl place ↦ (seated.kept n (mover_is_numbered b n sound.stories moves) moves.unstarted place).room
  | inr room ↦ room
]

-- so does whoever starts
pub starter_has_room : (b : Book) (l k n count len : ℕ) → Sound b → IsSeated b → MayStart b l k n count len → line_before (permits_in b.config) b.story (b.story n).link n < queue_size b
starter_has_room b l k n count len sound seated may = elim ((starts_mean b n may.starts).3) [
  | inl told ↦ (seated.kept n (mover_is_numbered b n sound.stories (starter_moves b l k n count len may)) may.unstarted (told_place (b.story n) told)).room
  | inr placed ↦ mover_has_room b n sound seated (starter_moves b l k n count len may) placed.1
]

-- which is a place in the queue of a configuration
in_place : (config : Config) (b : Book) (n : ℕ) → b.config ≡ Some config → line_before (permits_in b.config) b.story (b.story n).link n < queue_size b → HasPlace config b n
in_place config b n c room = subst (λ o. line_before (permits_in o) b.story (b.story n).link n < configured buffer_size o) c room

-- where the event was applied, a turn began
pub applied_began : (b : Book) → Sound b → IsApplied b → b.turns ≢ 0
applied_began = applied_turn

-- whoever is told without a message is told at its place
tell_of : (b : Book) (n : ℕ) (o : Outcome) → MayAnswer b n o ⊎ MayTell b n o → (b.story n).tries ≡ [] → is_no_error (o ∷ []) ≡ true → MayTell b n o
tell_of b n o (inl owes) none good = absurd (unstarted_gets_a_fault b n o none owes.owes good)
tell_of b n o (inr told) none good = told

-- what is known of the book of a front: it is sound, who was told has a place, and once a turn began its configuration is that
pub record IsReady (config : Config) (b : Book) : Type 0 where
  pub sound : Sound b
  pub seated : IsSeated b
  pub configured : b.turns ≢ 0 → b.config ≡ Some config

-- so it is of each front of a legal trace
pub ready_behind : (config : Config) (word : ℕ) (events : List Event) (front more : List Action) → Legal config word events (front ++ more) → IsReady config (book front)
unfolding book
ready_behind config word events front more h =
    let all : AllStand blank_book front = stand_front blank_book front more h.each in
    record { sound = sound_behind front all; seated = seated_behind front all; configured = configured_behind blank_book front more config word (event_causes events) all h.turns refl }

-- and what comes next may stand there
pub next_may : (config : Config) (word : ℕ) (events : List Event) (front more : List Action) (a : Action) → Legal config word events (front ++ a ∷ more) → MayStand (book front) a
unfolding book
next_may config word events front more a h = (stand_behind blank_book front (a ∷ more) h.each).0

-- so each legal trace stays within
pub stays_within : (config : Config) (word : ℕ) (events : List Event) (trace : List Action) → Legal config word events trace → StaysWithin config trace
stays_within config word events trace h = record {
  bytes = λ front more a l is on.
      let legal : Legal config word events (front ++ a ∷ more) = subst (Legal config word events) is h in
      let ready = ready_behind config word events front (a ∷ more) legal in
      let free = start_free (book front) a l (next_may config word events front more a legal) on in
      start_bounds config (book front) l (ready.configured (applied_began (book front) ready.sound free.0)) free.1;
  starts = λ front more a l n is s.
      let legal : Legal config word events (front ++ a ∷ more) = subst (Legal config word events) is h in
      let ready = ready_behind config word events front (a ∷ more) legal in
      let m = start_of (book front) a l n (next_may config word events front more a legal) s in
      in_place config (book front) n (ready.configured (applied_began (book front) ready.sound m.3.begun.applied)) (starter_has_room (book front) l m.0 n m.1 m.2 ready.sound ready.seated m.3);
  tells = λ front more n o is none good.
      let legal : Legal config word events (front ++ action.Outcome n o ∷ more) = subst (Legal config word events) is h in
      let ready = ready_behind config word events front (action.Outcome n o ∷ more) legal in
      let m = tell_of (book front) n o (next_may config word events front more (action.Outcome n o) legal) none good in
      in_place config (book front) n (ready.configured (applied_began (book front) ready.sound m.begun.applied)) (mover_has_room (book front) n ready.sound ready.seated (teller_moves (book front) n o m) (tells_mean (book front) n m.tells).3);
}
