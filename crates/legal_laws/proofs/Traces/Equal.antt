-- Two legal traces of one configuration, word and events are equal.
use Rattle.std.proofs.Common.{◌≡◌, ◌⊎◌, inl, inr, ℕ, ◌<◌, List, [], ◌∷◌, refl, sym, ◌∙◌, subst, arith}
use Rattle.driver_model.specs.declared.action.Action.{Action}
use Rattle.driver_model.specs.declared.action.Action.TheVariants as action
use Rattle.driver_model.specs.declared.action.Cause.{Cause}
use Rattle.driver_model.specs.declared.action.Owner.TheVariants as owner
use Rattle.driver_model.specs.declared.action.Purpose.{Purpose}
use Rattle.driver_model.specs.declared.config.Config.{Config}
use Rattle.driver_model.specs.declared.event.Event.{Event}
use Rattle.driver_model.specs.declared.outcome.Outcome.{Outcome}
use Rattle.driver_model.specs.Push.{is_disconnection}
use Rattle.legal_trace.specs.Ledger.{is_over}
use Rattle.legal_trace.specs.Book.{Book, blank_book, book, entered, entered_each}
use Rattle.legal_trace.specs.Legal.{link_of, MayStand, MayTimer, MayAnswer, MayTell, AllStand, IsSettled, causes, Legal}
use Rattle.legal_laws.specs.Next.{BothAnnounce}
use Rattle.legal_laws.proofs.Traces.Next.{AreOne, one_is_next}
use Rattle.legal_laws.proofs.Traces.Ranks.{rank, not_done, step_of, settled, outcome_rank, timer_rank, answer_first, creation_first, push_first}
use Rattle.legal_laws.proofs.Traces.Sound.{Sound, stays_sound, blank_is_sound}

-- lists that are equal begin alike
pub same_head : (c d : Cause) (cs ds : List Cause) → c ∷ cs ≡ d ∷ ds → c ≡ d
same_head c d cs ds e = cc

-- and go on alike
same_tail : (c d : Cause) (cs ds : List Cause) → c ∷ cs ≡ d ∷ ds → cs ≡ ds
same_tail c d cs ds e = cc

-- no cause is not a cause
is_some_cause : (c : Cause) (cs : List Cause) → [] ≡ c ∷ cs → ⊥
is_some_cause c cs e = cc e

-- two announcements with the same causes are one
announced : (x y : Action) (s t : List Action) → BothAnnounce x y → causes (x ∷ s) ≡ causes (y ∷ t) → x ≡ y
announced (action.Turn k c) (action.Turn j d) s t both e = let f : c ≡ d = same_head c d (causes s) (causes t) e in let n : k ≡ j = both.0 in cc (f, n)
announced (action.Turn k c) _ s t both e = absurd both
announced _ y s t both e = absurd both

-- actions that are one, but for the causes, are one where these are the same
same_action : (x y : Action) (s t : List Action) → AreOne x y → causes (x ∷ s) ≡ causes (y ∷ t) → x ≡ y
same_action x y s t (inl e) c = e
same_action x y s t (inr both) c = announced x y s t both c

-- behind one action the causes are the same
causes_behind : (x : Action) (s t : List Action) → causes (x ∷ s) ≡ causes (x ∷ t) → causes s ≡ causes t
causes_behind (action.Turn k c) s t e = same_tail c c (causes s) (causes t) e
causes_behind _ s t e = e

-- an outcome comes before a turn is settled
outcome_below : (b : Book) (n : ℕ) (o : Outcome) (may : MayAnswer b n o ⊎ MayTell b n o) → outcome_rank b n o may < 20
outcome_below b n o (inl owes) = let i = answer_first (is_over (link_of b n)) in omega arith
outcome_below b n o (inr told) = omega arith

-- so does a timer
timer_below : (b : Book) (t ms : ℕ) (what : Purpose) (may : MayTimer b t ms what) → timer_rank b t ms what may < 20
timer_below b t ms what (inl (inl may)) = omega arith
timer_below b t ms what (inl (inr may)) = omega arith
timer_below b t ms what (inr (inl may)) = omega arith
timer_below b t ms what (inr (inr (inl may))) = omega arith
timer_below b t ms what (inr (inr (inr may))) = omega arith

-- all but the next event comes before a turn is settled
below_the_next : (b : Book) (y : Action) (t : List Action) (may : MayStand b y) → [] ≡ causes (y ∷ t) → rank b y may < 20
below_the_next b (action.Turn k c) t may e = absurd (is_some_cause c (causes t) e)
below_the_next b (action.Outcome n o) t may e = outcome_below b n o may
below_the_next b (action.Timer u ms what) t may e = timer_below b u ms what may
below_the_next b (action.Push l info) t may e = let i = push_first (is_disconnection info.kind) in omega arith
below_the_next b (action.Created x) t may e = let i = creation_first b x may in omega arith
below_the_next b (action.Start l k owner.Setup count len) t may e = omega arith
below_the_next b (action.Start l k owner.Auth count len) t may e = omega arith
below_the_next b (action.Start l k owner.Resub count len) t may e = omega arith
below_the_next b (action.Start l k owner.Monitor count len) t may e = omega arith
below_the_next b (action.Start l k (owner.Try n round) count len) t may e = omega arith
below_the_next b _ t may e = omega arith

-- where a turn is settled, nothing but a turn may stand
pub only_a_turn : (b : Book) (y : Action) (t : List Action) (may : MayStand b y) → Sound b → IsSettled b → [] ≡ causes (y ∷ t) → ⊥
only_a_turn b y t may h done e = not_done b y may (step_of b (rank b y may) 20 (below_the_next b y t may e) (settled b h done))

-- behind one book there is one way on
equal_behind : (b : Book) (s t : List Action) → Sound b → AllStand b s → AllStand b t → causes s ≡ causes t → IsSettled (entered_each b s) → IsSettled (entered_each b t) → s ≡ t
equal_behind b [] [] h p q e i j = refl
equal_behind b [] (y ∷ t) h p q e i j = absurd (only_a_turn b y t q.0 h i e)
equal_behind b (x ∷ s) [] h p q e i j = absurd (only_a_turn b x s p.0 h j (sym e))
equal_behind b (x ∷ s) (y ∷ t) h p q e i j =
    let same : y ≡ x = sym (same_action x y s t (one_is_next b h x y p.0 q.0) e) in
    let more : s ≡ t = equal_behind (entered b x) s t (stays_sound b x p.0 h) p.1 (subst (λ a. AllStand (entered b a) t) same q.1)
    (causes_behind x s t (subst (λ a. causes (x ∷ s) ≡ causes (a ∷ t)) same e)) i (subst (λ a. IsSettled (entered_each (entered b a) t)) same j) in
    cc (same, more)

-- and so from the blank book on
pub legal_is_one : (config : Config) (word : ℕ) (events : List Event) (s t : List Action) → Legal config word events s → Legal config word events t → s ≡ t
unfolding book
legal_is_one config word events s t h k = equal_behind blank_book s t blank_is_sound h.each k.each (h.turns ∙ sym k.turns) h.settled k.settled
