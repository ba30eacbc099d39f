-- How a legal trace goes from one generation to the next.
use Rattle.std.proofs.Common.{◌≡◌, ◌≢◌, inl, inr, ℕ, ◌+◌, ◌-◌, ◌≤◌, ◌==◌, nat_lt, Bool, true, false, ◌&&◌, ◌||◌, not, List, [], ◌∷◌, ◌++◌, None, is_none, if◌then◌else◌, refl, sym, ◌∙◌, ap, subst, arith}
use Rattle.containers.proofs.Choices.{by_test, taken_if, left_if, lt_from, not_lt_from, ne_test, not_both, both_right}
use Rattle.connection_info.specs.Protocol.{is_resp3}
use Rattle.driver_model.specs.declared.action.Action.{Action}
use Rattle.driver_model.specs.declared.action.Action.TheVariants as action
use Rattle.driver_model.specs.declared.action.Purpose.TheVariants as purpose
use Rattle.driver_model.specs.declared.config.Config.{Config}
use Rattle.driver_model.specs.declared.event.Event.{Event}
use Rattle.legal_trace.specs.Ledger.{is_over}
use Rattle.legal_trace.specs.Book.{Book, blank_book, book, entered, has_generations, info_in}
use Rattle.legal_trace.specs.Legal.{MayStand, MayTimer, MayGenerate, Legal, IsShown, IsSettled, are_pushes_heard, current_link, is_attempt, is_lost_in, is_caused, begins_first, generation_due, rest_due, link_due}
use Rattle.legal_trace.proofs.Books.{book_more, stand_behind}
use Rattle.legal_trace.proofs.Clocks.{timer_rests}
use Rattle.legal_trace.proofs.Moves.{lt_test}
use Rattle.legal_laws.specs.Generations.{Begins, ConnectsNext, Rests, ComesBack}
use Rattle.legal_laws.proofs.Generations.Aside.{aside_over}
use Rattle.legal_laws.proofs.Generations.Attempts.{tries_within}
use Rattle.legal_laws.proofs.Links.Bounds.{next_may}
use Rattle.legal_laws.proofs.Generations.Goes.{none_open}
use Rattle.legal_laws.proofs.Generations.Lives.{caused_is_over, due_is_caused, due_parts}
use Rattle.legal_laws.proofs.Traces.Next.{OfRank, of_rank}
use Rattle.legal_laws.proofs.Notices.Notices.{front_stands, settled_whole}
use Rattle.legal_laws.proofs.Traces.Ranks.{Reached, rank, not_done, reached, step_of, shown, generations_began}
use Rattle.legal_laws.proofs.Traces.Sound.{Sound, stays_sound, sound_behind}

-- a generation that may begin does so by its causes
generation_begins : (b : Book) (g : ℕ) → Sound b → MayGenerate b g → Begins b g
generation_begins b g h may =
    let parts = due_parts b may.due in
    let over : b.generation ≢ 0 → is_over (current_link b) ≡ true = λ some. caused_is_over b h.lives parts.2 (due_is_caused b may.due some) in
    record {
      comes_back = parts.0;
      runs = parts.2;
      well = parts.1;
      next = may.next;
      caused = due_is_caused b may.due;
      over = over;
      answered = λ some. none_open b g may h.goes (over some);
    }

-- behind a generation all is shown that was before it
shown_behind : (b : Book) (g : ℕ) → IsShown b → IsShown (entered b (action.Generation g))
shown_behind b g h = record {
  answered = h.answered;
  ended = h.ended;
  created = record { lazy = h.created.lazy; shown = h.created.shown; failed = h.created.failed };
  pushed = h.pushed;
  parted = h.parted;
  sourced = h.sourced;
}

-- where the last of four doesn't hold, not all do
pub last_fails : (p q r s : Bool) → s ≡ false → (p && (q && (r && s))) ≡ false
last_fails true true true s e = e
last_fails true true false s e = refl
last_fails true false r s e = refl
last_fails false q r s e = refl

-- so where the second of two doesn't
second_fails : (p q : Bool) → q ≡ false → (p && q) ≡ false
second_fails true q e = e
second_fails false q e = refl

-- no other one begins then
none_again : (b : Book) (g : ℕ) → Sound b → MayGenerate b g → generation_due (entered b (action.Generation g)) ≡ false
none_again b g h may =
    let c : Book = entered b (action.Generation g) in
    let next : g ≡ b.generation + 1 = may.next in
    let lives : (current_link c).end ≡ None = (h.links.unasked b.links (omega arith)).2 in
    let lost : (is_resp3 (info_in b.config).protocol && is_lost_in (b.turns - 1) (current_link c).end) ≡ false = second_fails (is_resp3 (info_in b.config).protocol) (is_lost_in (b.turns - 1) (current_link c).end) (ap (is_lost_in (b.turns - 1)) lives) in
    last_fails (has_generations c) (not c.failed) (not c.shut) (if g == 0 then begins_first c else is_caused c)
    (left_if (g == 0) (begins_first c) (is_caused c) (ne_test g 0 (λ none. omega (arith, next, none))) ∙ ap (λ x. x || false) lost)

-- nor is there a wait
none_rests : (b : Book) (g : ℕ) → Sound b → rest_due (entered b (action.Generation g)) ≡ false
none_rests b g h = second_fails (has_generations b) (is_attempt (current_link (entered b (action.Generation g))).end) (ap is_attempt (h.links.unasked b.links (omega arith)).2)

-- its link is to be asked for
link_is_due : (b : Book) (g : ℕ) → Sound b → MayGenerate b g → link_due (entered b (action.Generation g)) ≡ true
link_is_due b g h may =
    let c : Book = entered b (action.Generation g) in
    let parts = due_parts b may.due in
    let next : g ≡ b.generation + 1 = may.next in
    let unasked : (current_link c).asked ≡ false = (h.links.unasked b.links (omega arith)).0 in
    taken_if (has_generations c) (nat_lt 0 c.generation && (not (current_link c).asked && (is_none c.rest && not c.shut))) (c.links == 0) parts.0
    ∙ all_hold (nat_lt 0 g) (not (current_link c).asked) (not b.shut) (lt_test 0 g (omega (arith, next))) (ap not unasked) (ap not parts.2)
  where
    all_hold : (p q r : Bool) → p ≡ true → q ≡ true → r ≡ true → (p && (q && (true && r))) ≡ true
    all_hold p q r x y z = rw (x, y, z)

-- so what may stand next is its connect
next_connects : (b : Book) (g : ℕ) (a : Action) (more : List Action) → Sound b → MayGenerate b g → MayStand (entered b (action.Generation g)) a → ConnectsNext b.links (a ∷ more)
next_connects b g a more h may next =
    let c : Book = entered b (action.Generation g) in
    let sound : Sound c = stays_sound b (action.Generation g) may h in
    let before : Reached 9 c = (none_again b g h may, (none_rests b g h, shown c (shown_behind b g may.shown) (generations_began c sound (due_parts b may.due).0))) in
    by_test (nat_lt (rank c a next) 9) (ConnectsNext b.links (a ∷ more))
    (λ t. absurd (not_done c a next (step_of c (rank c a next) 9 (lt_from (rank c a next) 9 t) before)))
    (λ f. by_test (nat_lt 9 (rank c a next)) (ConnectsNext b.links (a ∷ more))
    (λ t. absurd (not_both (link_due c) (step_of c 9 (rank c a next) (lt_from 9 (rank c a next) t) (reached c a next sound)) (link_is_due b g h may)))
    (λ e.
    let low : rank c a next ≤ 9 = not_lt_from 9 (rank c a next) e in
    let high : 9 ≤ rank c a next = not_lt_from (rank c a next) 9 f in
    let same : rank c a next ≡ 9 = omega (arith, low, high) in
    let it = subst (λ r. OfRank r c a) same (of_rank c a next) in
    subst (λ x. ConnectsNext b.links (x ∷ more)) (sym it.3) it.4.next))

-- what stands behind an action that stands behind a front
pub second_may : (config : Config) (word : ℕ) (events : List Event) (front more : List Action) (first second : Action) → Legal config word events (front ++ first ∷ second ∷ more) → MayStand (entered (book front) first) second
unfolding book
second_may config word events front more first second h = (stand_behind blank_book front (first ∷ second ∷ more) h.each).1.0

-- the trace doesn't end before
generation_goes_on : (config : Config) (word : ℕ) (events : List Event) (front more : List Action) (g : ℕ) → Legal config word events (front ++ action.Generation g ∷ more) → Sound (book front) → MayGenerate (book front) g → ConnectsNext (book front).links more
generation_goes_on config word events front [] g legal h may =
    let settled : IsSettled (entered (book front) (action.Generation g)) = subst IsSettled (book_more front (action.Generation g)) legal.settled in
    absurd (not_both (link_due (entered (book front) (action.Generation g))) settled.written.moved.begun.applied.linked (link_is_due (book front) g h may))
generation_goes_on config word events front (a ∷ more) g legal h may = next_connects (book front) g a more h may (second_may config word events front more (action.Generation g) a legal)

-- a wait behind an attempt is as is said
rest_is : (b : Book) (t ms g : ℕ) → MayTimer b t ms (purpose.Backoff g) → Rests b ms g
rest_is b t ms g may = elim (timer_rests b t ms (purpose.Backoff g) may) [
  | inl rest ↦ record {
    failed = both_right (has_generations b) (is_attempt (current_link b).end) rest.due;
    current = same_generation g b.generation rest.is_for;
    settings = rest.settings;
    set = rest.set;
    long = rest.long;
  }
  | inr other ↦ cc other
]
  where
    same_generation : (g h : ℕ) → purpose.Backoff g ≡ purpose.Backoff h → g ≡ h
    same_generation g h e = cc e

-- so a legal trace comes back
pub comes_back : (config : Config) (word : ℕ) (events : List Event) (trace : List Action) → Legal config word events trace → ComesBack trace
comes_back config word events trace h = record {
  begins = λ front more g is.
      let legal : Legal config word events (front ++ action.Generation g ∷ more) = subst (Legal config word events) is h in
      let sound : Sound (book front) = sound_behind front (front_stands config word events front (action.Generation g ∷ more) legal) in
      let may : MayGenerate (book front) g = next_may config word events front more (action.Generation g) legal in
      (generation_begins (book front) g sound may, generation_goes_on config word events front more g legal sound may);
  leaves = λ front more is whole. (settled_whole config word events front more (subst (Legal config word events) is h) whole).written.moved.begun.applied.generated;
  current = λ front more l is apart asked.
      let sound : Sound (book front) = sound_behind front (front_stands config word events front more (subst (Legal config word events) is h)) in
      aside_over (are_pushes_heard (book front)) (book front).created ((book front).link l) asked (sound.lives.aside l apart);
  open_ones = λ front more n is o.
      let sound : Sound (book front) = sound_behind front (front_stands config word events front more (subst (Legal config word events) is h)) in
      ((sound.goes n).open_on o, (sound.goes n).open_in o);
  tries = λ front more settings is set. tries_within front (front_stands config word events front more (subst (Legal config word events) is h)) settings set;
  rests = λ front more t ms g is. rest_is (book front) t ms g (next_may config word events front more (action.Timer t ms (purpose.Backoff g)) (subst (Legal config word events) is h));
  rested = λ front more is whole. (settled_whole config word events front more (subst (Legal config word events) is h) whole).written.moved.begun.applied.rested;
}
