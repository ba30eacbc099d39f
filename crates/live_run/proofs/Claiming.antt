-- What is noted claims nothing, and claims before a dial.
use Rattle.std.proofs.Common.{arith, ◌≡◌, ℕ, zero, suc, ◌+◌, ◌-◌, ◌≤◌, max, List, [], ◌∷◌, ◌++◌, Option, refl, sym, ap, ◌∙◌, inl, inr, subst}
use Rattle.containers.proofs.Choices.{chosen}
use Rattle.driver_model.specs.declared.action.Action.{Action}
use Rattle.driver_model.specs.declared.action.Action.TheVariants as action
use Rattle.driver_model.specs.declared.config.Config.{Config}
use Rattle.driver_model.specs.declared.event.Event.{Event}
use Rattle.outside.specs.declared.world.Call.{Call}
use Rattle.shared_session.specs.History.{History}
use Rattle.shared_session.specs.declared.errors.StepError.{StepError}
use Rattle.live_run.specs.declared.agenda.Agenda.{Agenda}
use Rattle.live_run.specs.declared.agenda.Target.{Target}
use Rattle.live_run.specs.Agenda.{noted, noted_each, removed, stands, undialled, without}
use Rattle.live_run.specs.Deeds.{Deed, claim, Does, Broke, AllMay, AreShown, after_each, calls_in, events_in, actions_in}
use Rattle.live_run.specs.Passes.{IsClaim, IsDial, IsDialled}
use Rattle.live_run.specs.Steps.{One, to_dial}
use Rattle.live_run.proofs.Runs.{broke_more, does_more, went_none}
use Rattle.live_run.proofs.Shown.{shown_none}

claimed_noted : (a : Agenda) (x : Action) → (noted a x).claimed ≡ a.claimed
claimed_noted a (action.Turn number c) = refl
claimed_noted a (action.Connect l host port) = refl
claimed_noted a (action.Timer t ms what) = refl
claimed_noted a (action.Close l) =
    let d : Agenda = record a { links = without l a.links; dials = undialled l a.dials } in
    chosen (λ (e : Agenda). e.claimed ≡ a.claimed) (stands l a.unclosed) (record d { unclosed = removed l a.unclosed; closes = a.closes ++ l ∷ [] }) d (λ t. refl) (λ f. refl)
claimed_noted a (action.Write l bytes) = refl
claimed_noted a (action.Took who l count) = refl
claimed_noted a (action.Push l info) = refl
claimed_noted a (action.Message m) = refl
claimed_noted a (action.Monitor v) = refl
claimed_noted a (action.NeedCreds c l) = refl
claimed_noted a (action.Generation g) = refl
claimed_noted a (action.Round who l) = refl
claimed_noted a (action.Start l message who count len) = refl
claimed_noted a (action.Wait who kind) = refl
claimed_noted a (action.Created e) = refl
claimed_noted a (action.Outcome n o) = refl

pub claimed_each : (a : Agenda) (xs : List Action) → (noted_each a xs).claimed ≡ a.claimed
claimed_each a [] = refl
claimed_each a (x ∷ xs) = claimed_each (noted a x) xs ∙ claimed_noted a x

-- so many numbers are claimed, one after another, behind this one
abbrev claims_behind : ℕ → ℕ → List Deed
claims_behind n zero = []
claims_behind n (suc k) = claim (suc n) ∷ claims_behind (suc n) k

abbrev AreClaims : List Deed → Type 0
AreClaims [] = Unit {0}
AreClaims (d ∷ ds) = IsClaim d × AreClaims ds

no_calls : (n k : ℕ) → calls_in (claims_behind n k) ≡ []
no_calls n zero = refl
no_calls n (suc k) = no_calls (suc n) k

no_events : (n k : ℕ) → events_in (claims_behind n k) ≡ []
no_events n zero = refl
no_events n (suc k) = no_events (suc n) k

no_actions : (n k : ℕ) → actions_in (claims_behind n k) ≡ []
no_actions n zero = refl
no_actions n (suc k) = no_actions (suc n) k

shown_claims : (config : Config) (word : ℕ) (events : List Event) (n k : ℕ) → AreShown config word events (claims_behind n k)
shown_claims config word events n zero = tt
shown_claims config word events n (suc k) = (shown_none config word events, shown_claims config word (events ++ []) (suc n) k)

are_claims : (n k : ℕ) → AreClaims (claims_behind n k)
are_claims n zero = tt
are_claims n (suc k) = (tt, are_claims (suc n) k)

-- an agenda whose first link is to be dialled, where the dial is claimed up to a number
abbrev at_dial : Target → Agenda → ℕ → Agenda
at_dial t a n = to_dial t (record a { claimed = n })

may_claim : (t : Target) (a : Agenda) (n k : ℕ) → k ≤ t.generation - n → AllMay (at_dial t a n) (claims_behind n k)
may_claim t a n zero few = tt
may_claim t a n (suc k) few = ((refl, omega (arith, few)), may_claim t a (suc n) k (omega (arith, few)))

claims_lead : (t : Target) (a : Agenda) (n k : ℕ) → after_each (at_dial t a n) (claims_behind n k) ≡ at_dial t a (n + k)
claims_lead t a n zero = let e : n ≡ n + 0 = omega arith in ap (at_dial t a) e
claims_lead t a n (suc k) = let e : suc n + k ≡ n + suc k = omega arith in claims_lead t a (suc n) k ∙ ap (at_dial t a) e

-- as many as the first link that is to be dialled needs
did_claims : {old : Option (List Call)} {before : History} (t : Target) (a : Agenda) (k : ℕ) → k ≤ t.generation - a.claimed → Does old old before before (to_dial t a) (at_dial t a (a.claimed + k)) AreClaims
did_claims {before = before} t a k few = record {
  deeds = claims_behind a.claimed k;
  went = rw (no_calls a.claimed k, no_events a.claimed k, no_actions a.claimed k) went_none;
  shown = shown_claims before.config before.word before.events a.claimed k;
  may = may_claim t a a.claimed k few;
  leads = sym (claims_lead t a a.claimed k);
  form = are_claims a.claimed k;
}

dialled_form : (xs ys : List Deed) → AreClaims xs → One IsDial ys → IsDialled (xs ++ ys)
dialled_form [] ys claims one = subst IsDialled (sym one.1) (inl (one.2, refl))
dialled_form (x ∷ xs) ys claims one = inr (claims.0, dialled_form xs ys claims.1 one)

module _ (t : Target) (a : Agenda) (m : ℕ) (most : m ≡ max a.claimed t.generation) where
  abbrev short : ℕ
  short = t.generation - a.claimed

  reached : a.claimed + short ≡ m
  reached = omega (arith, most)

  -- the number of the link's generation is claimed
  pub enough : t.generation ≤ m
  enough = omega (arith, most)

  claimed_first : {old : Option (List Call)} {before : History} → Does old old before before (to_dial t a) (at_dial t a m) AreClaims
  claimed_first {old} {before} = subst (λ (n : ℕ). Does old old before before (to_dial t a) (at_dial t a n) AreClaims) reached (did_claims t a short (omega arith))

  -- the link is dialled behind the claims
  pub claimed_and_dialled : {old new : Option (List Call)} {before after : History} {d : Agenda} → Does old new before after (at_dial t a m) d (One IsDial) → Does old new before after (to_dial t a) d IsDialled
  claimed_and_dialled one = does_more (λ xs ys leads claims is. dialled_form xs ys claims is) claimed_first one

  pub claimed_and_broke : {error : StepError} {old new : Option (List Call)} {before after : History} → Broke error old new before after (at_dial t a m) → Broke error old new before after (to_dial t a)
  claimed_and_broke one = broke_more claimed_first one
