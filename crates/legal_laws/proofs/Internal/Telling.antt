-- New credentials are told to the server of a link in their order, each once those before were taken.
use Rattle.std.proofs.Common.{◌≡◌, ℕ, ◌<◌, ◌≤◌, nat_lt, Bool, true, false, List, [], ◌∷◌, ◌++◌, length, take, Some, slice_get, refl, sym, ◌∙◌, ap, subst, arith}
use Rattle.containers.proofs.Choices.{by_test, lt_from, not_lt_from, not_both, both_left}
use Rattle.credentials.specs.Credentials.{Credentials}
use Rattle.driver_model.specs.declared.action.Action.{Action}
use Rattle.driver_model.specs.declared.action.Action.TheVariants as action
use Rattle.driver_model.specs.declared.action.Owner.TheVariants as owner
use Rattle.driver_model.specs.declared.config.Config.{Config}
use Rattle.driver_model.specs.declared.event.Event.{Event}
use Rattle.driver_model.specs.declared.outcome.Shape.TheVariants.{Confirmation}
use Rattle.driver_model.specs.Shape.{verdict_of}
use Rattle.legal_trace.specs.Ledger.{Ledger, Start, cut, is_done, is_full, renewal_count, renewal_due}
use Rattle.legal_trace.specs.Book.{Book, blank_book, book}
use Rattle.legal_trace.specs.Legal.{MayStand, AllStand, Legal}
use Rattle.legal_trace.proofs.Books.{stand_front}
use Rattle.legal_trace.proofs.Plain.{item_stays}
use Rattle.legal_laws.specs.Renewals.{sources_asked, brought, Comes, IsRenewal, Renews, TellsEachNext, TellsWhereSet, TellsOnceTaken, TellsOneAtOnce, TellsInTurn}
use Rattle.legal_laws.proofs.Links.Bounds.{next_may}
use Rattle.legal_laws.proofs.Internal.Brought.{count_of, IsFront, accounts_behind}
use Rattle.legal_laws.proofs.Internal.Renewed.{TellsWell, all_taken, told_behind}
use Rattle.legal_laws.proofs.Links.Shaped.{IsShaped, came_renews, renewal_is_set}
use Rattle.legal_laws.proofs.Traces.Sound.{sound_behind}

-- the second of two
second_of : (xs : List ℕ) → length xs ≡ 2 → (s : ℕ) × (slice_get xs 1 ≡ Some s)
second_of [] e = absurd (omega (arith, e))
second_of (x ∷ []) e = absurd (omega (arith, e))
second_of (x ∷ y ∷ xs) e = (y, refl)

-- a link that renews had a source before
two_asked : (first second : Bool) → second ≡ true → (first ≡ false → second ≡ false) → count_of first second ≡ 2
two_asked false second e h = absurd (not_both second (h refl) e)
two_asked true false e h = absurd (cc e)
two_asked true true e h = refl

-- what a link has of new credentials came of its second source
comes : (front : List Action) (l k : ℕ) (c : Credentials) → AllStand blank_book front → slice_get ((book front).link l).creds.renewals k ≡ Some c → Comes front l k c
comes front l k c all e =
    let x : Ledger = (book front).link l in
    let shaped : IsShaped x = (sound_behind front all).shaped l in
    let two : length (sources_asked l front) ≡ 2 = (accounts_behind front l 0 all).link.counted ∙ two_asked x.creds.asked x.creds.renews (came_renews x k c shaped e) shaped.second in
    let second = second_of (sources_asked l front) two in
    let has : IsFront x.creds.renewals (brought second.0 front) = ((accounts_behind front l second.0 all).link.has second.1).first in
    record { source = second.0; second = second.1; brings = ap (λ (cs : List Credentials). slice_get cs k) (sym has.joins) ∙ item_stays x.creds.renewals has.rest c k e }

-- each message that tells some tells the next
tells_next : (config : Config) (word : ℕ) (events : List Event) (trace : List Action) → Legal config word events trace → TellsEachNext trace
tells_next config word events trace h front more l j s is told =
    let all : AllStand blank_book front = stand_front blank_book front more (subst (AllStand blank_book) is h.each) in
    let said = (told_behind front l all).says j s told in
    (said.0, comes front l (renewal_count (take j ((book front).link l).starts)) said.0 all said.1, ap (λ (x : Start). x.bytes) said.2)

-- where an action tells some, they are to be told
due_of : (b : Book) (a : Action) (l : ℕ) → MayStand b a → Renews l a → (c : Credentials) × (renewal_due (b.link l) ≡ Some c)
due_of b (action.Start m k owner.Auth count len) l may is = (may.credentials, subst (λ j. renewal_due (b.link j) ≡ Some may.credentials) is may.due)
due_of b _ l may is = absurd is

-- so the link is set up
tells_where_set : (config : Config) (word : ℕ) (events : List Event) (trace : List Action) → Legal config word events trace → TellsWhereSet trace
tells_where_set config word events trace h front more a l is renews =
    let legal : Legal config word events (front ++ a ∷ more) = subst (Legal config word events) is h in
    let all : AllStand blank_book front = stand_front blank_book front (a ∷ more) legal.each in
    let due = due_of (book front) a l (next_may config word events front more a legal) renews in
    renewal_is_set ((book front).link l) due.0 ((sound_behind front all).shaped l) due.1

-- and all before were taken
tells_once_taken : (config : Config) (word : ℕ) (events : List Event) (trace : List Action) → Legal config word events trace → TellsOnceTaken trace
tells_once_taken config word events trace h front more a l j s is renews told =
    let legal : Legal config word events (front ++ a ∷ more) = subst (Legal config word events) is h in
    let all : AllStand blank_book front = stand_front blank_book front (a ∷ more) legal.each in
    let due = due_of (book front) a l (next_may config word events front more a legal) renews in
    all_taken ((book front).link l) due.0 due.1 (told_behind front l all) j s told

-- what was taken was answered
taken_is_full : (l : Ledger) (i j : ℕ) (s t : Start) → TellsWell l → i < j → IsRenewal l i s → IsRenewal l j t → is_full l i ≡ true
taken_is_full l i j s t h below first second = both_left (is_full l i) (is_done (verdict_of Confirmation (cut l i Confirmation))) (h.taken i j s t below first second)

-- and so two that aren't answered are one
tells_one_at_once : (config : Config) (word : ℕ) (events : List Event) (trace : List Action) → Legal config word events trace → TellsOneAtOnce trace
tells_one_at_once config word events trace h front more l i j s t is first second open_first open_second =
    let all : AllStand blank_book front = stand_front blank_book front more (subst (AllStand blank_book) is h.each) in
    let x : Ledger = (book front).link l in
    let well : TellsWell x = told_behind front l all in
    by_test (nat_lt i j) (i ≡ j) (λ below. absurd (not_both (is_full x i) open_first (taken_is_full x i j s t well (lt_from i j below) first second)))
    (λ f. by_test (nat_lt j i) (i ≡ j) (λ below. absurd (not_both (is_full x j) open_second (taken_is_full x j i t s well (lt_from j i below) second first)))
    (λ g. let most : j ≤ i = not_lt_from i j f in let least : i ≤ j = not_lt_from j i g in omega (arith, most, least)))

-- so new credentials are told in turn
pub tells_in_turn : (config : Config) (word : ℕ) (events : List Event) (trace : List Action) → Legal config word events trace → TellsInTurn trace
tells_in_turn config word events trace h = record {
  next = tells_next config word events trace h;
  set = tells_where_set config word events trace h;
  taken = tells_once_taken config word events trace h;
  alone = tells_one_at_once config word events trace h;
}
