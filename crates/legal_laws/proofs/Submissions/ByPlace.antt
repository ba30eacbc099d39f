-- Messages of a link start in the order of their places.
use Rattle.std.proofs.Common.{◌≡◌, ◌⊎◌, inl, inr, ℕ, zero, suc, ◌+◌, ◌-◌, ◌<◌, ◌≤◌, ◌==◌, nat_lt, nat_le, Bool, true, false, ◌&&◌, ◌||◌, not, List, [], ◌∷◌, ◌++◌, Option, Some, None, is_some, refl, sym, ◌∙◌, ap, subst, arith}
use Rattle.containers.proofs.Choices.{by_test, eq_from, eq_test, ne_from, lt_from, not_lt_from, not_both, both_left, both_right}
use Rattle.credentials.specs.Credentials.{Credentials}
use Rattle.driver_model.specs.declared.action.Action.{Action}
use Rattle.driver_model.specs.declared.action.Action.TheVariants as action
use Rattle.driver_model.specs.declared.action.Owner.TheVariants as owner
use Rattle.driver_model.specs.declared.config.Config.{Config}
use Rattle.driver_model.specs.declared.event.Event.{Event}
use Rattle.legal_trace.specs.Ledger.{dials, is_over, is_ready, renewal_due}
use Rattle.legal_trace.specs.Story.{has_place, is_told, is_unstarted}
use Rattle.legal_trace.specs.Book.{Book, blank_book, book, entered, entered_each}
use Rattle.legal_trace.specs.Steps.{is_due, is_held_back, is_taken_before, is_ahead, any_below, permits_in, queue_size, renewals_in_line, line_before, next_step}
use Rattle.legal_trace.specs.Legal.{MayStand, MayStart, MayRenew, AllStand, CanMove, Legal, link_of}
use Rattle.legal_trace.proofs.Ahead.{any_from, any_of, ahead_is_on, ahead_moves, ahead_is_placed, renewal_is_first, renewal_is_free}
use Rattle.legal_trace.proofs.Books.{entered_append, stand_front, stand_behind}
use Rattle.legal_trace.proofs.Moves.{both_hold, one_holds, holds_some, is_timed, ready_is_up, starts_mean, starter_moves, told_is_due, free_is_due}
use Rattle.legal_trace.proofs.Renewals.{renewal_is_up}
use Rattle.legal_laws.specs.Starts.{IsStart}
use Rattle.legal_laws.specs.Places.{turn_or, place_of, StartsAt, IsTakenFirst, StartsByPlace}
use Rattle.legal_laws.proofs.Internal.Serving.{takes_ready}
use Rattle.legal_laws.proofs.Internal.Since.{IsDue, SinceBegun, due_each, since_each, since_grows, told_is_undue}
use Rattle.legal_laws.proofs.Submissions.InLine.{is_to_start, starter_to_start, stays_out}
use Rattle.legal_laws.proofs.Submissions.Places.{Knows, knows_each, blank_knows, turns_grow, placed_step}
use Rattle.legal_laws.proofs.Submissions.Rising.{rise_behind}
use Rattle.legal_laws.proofs.Submissions.Sitting.{Sits}
use Rattle.legal_laws.proofs.Traces.Numbers.{mover_is_numbered, up_is_numbered}
use Rattle.legal_laws.proofs.Traces.Held.{starts_ready}
use Rattle.legal_laws.proofs.Traces.Sound.{stays_sound}
use Rattle.legal_laws.proofs.Waits.Counts.{some_credentials}

-- what is known at the first of two starts, and what stands between them
record Between (b : Book) (a : Action) (middle : List Action) : Type 0 where
  knows : Knows b
  begun : SinceBegun b
  may : MayStand b a
  all : AllStand (entered b a) middle

-- turns grow along actions
pub turns_each : (b : Book) (front : List Action) → b.turns ≤ (entered_each b front).turns
turns_each b [] = omega arith
turns_each b (a ∷ more) =
    let one : b.turns ≤ (entered b a).turns = turns_grow b a in
    let rest : (entered b a).turns ≤ (entered_each (entered b a) more).turns = turns_each (entered b a) more in
    omega (arith, one, rest)

-- who has a place behind actions had it before them, or took it in the turn that ran or later
placed_each : (b : Book) (front : List Action) (n t : ℕ) → (entered_each b front).placed n ≡ Some t → (b.placed n ≡ Some t) ⊎ (b.turns - 1 ≤ t)
placed_each b [] n t e = inl e
placed_each b (a ∷ more) n t e =
    let grows : b.turns ≤ (entered b a).turns = turns_grow b a in
    elim (placed_each (entered b a) more n t e) [
      | inl one ↦ elim (placed_step b a n t one) [ inl old ↦ inl old | inr now ↦ inr (omega (arith, now)) ]
      | inr later ↦ inr (omega (arith, later, grows))
    ]

-- the turn of a place is one that began
place_begun : (b : Book) (n : ℕ) → Knows b → place_of b n ≤ b.turns - 1
place_begun b n k = of_place (b.placed n) refl
  where
    of_place : (o : Option ℕ) → b.placed n ≡ o → turn_or (b.turns - 1) o ≤ b.turns - 1
    of_place None e = omega arith
    of_place (Some t) e = k.places.early n t e

-- of one that starts behind actions, where its place wasn't taken before a turn if it had one at first, it wasn't
place_behind : (b : Book) (a : Action) (middle : List Action) (n turn : ℕ) → turn ≤ b.turns - 1 → ((t : ℕ) → b.placed n ≡ Some t → turn ≤ t) → turn ≤ place_of (entered_each (entered b a) middle) n
place_behind b a middle n turn late had = of_place ((entered_each (entered b a) middle).placed n) refl
  where
    of_place : (o : Option ℕ) → (entered_each (entered b a) middle).placed n ≡ o → turn ≤ turn_or ((entered_each (entered b a) middle).turns - 1) o
    of_place None e =
        let grows : b.turns ≤ (entered_each (entered b a) middle).turns = turns_each b (a ∷ middle) in omega (arith, grows, late)
    of_place (Some t) e = elim (placed_each b (a ∷ middle) n t e) [ inl old ↦ had t old | inr later ↦ omega (arith, later, late) ]

-- who has a place is numbered
pub placed_is_numbered : (b : Book) (n t : ℕ) → Knows b → b.placed n ≡ Some t → n < b.submissions
placed_is_numbered b n t k e = by_test (nat_lt n b.submissions) (n < b.submissions) (lt_from n b.submissions)
    (λ f. absurd (let x : false ≡ true = sym (ap has_place (k.sound.stories n (not_lt_from n b.submissions f))) ∙ k.places.has n t e in cc x))

-- who starts on a link behind actions, and had a place before them, was to start there
was_to_start : (b : Book) (a : Action) (middle : List Action) (l j n count len t : ℕ) → Between b a middle → l < b.links → MayStart (entered_each (entered b a) middle) l j n count len → b.placed n ≡ Some t → is_to_start l (b.story n) ≡ true
was_to_start b a middle l j n count len t h asked may e = by_test (is_to_start l (b.story n)) (is_to_start l (b.story n) ≡ true) (λ x. x)
    (λ f. absurd (stays_out b (a ∷ middle) (h.may, h.all) l n asked (placed_is_numbered b n t h.knows e) (λ x. not_both (is_to_start l (b.story n)) f x) (starter_to_start (entered_each (entered b a) middle) l j n count len may)))

-- before one that is to start on its link, and has its place, one that is to start there has its place at the time it starts
before_placed : (b : Book) (m n l t : ℕ) → Knows b → m < n → is_to_start l (b.story m) ≡ true → is_to_start l (b.story n) ≡ true → b.placed n ≡ Some t → place_of b m ≤ t
before_placed b m n l t k below first second e =
    let on : (b.story n).link ≡ l = eq_from (b.story n).link l (both_left ((b.story n).link == l) (is_unstarted (b.story n)) second) in
    let unstarted : is_unstarted (b.story n) ≡ true = both_right ((b.story n).link == l) (is_unstarted (b.story n)) second in
    elim (k.places.rise m n t below (placed_is_numbered b n t k e) unstarted (subst (λ x. is_to_start x (b.story m) ≡ true) (sym on) first) e) [
      | inl p ↦ let q : p.0 ≤ t = p.2 in let same : place_of b m ≡ p.0 = ap (turn_or (b.turns - 1)) p.1 in omega (arith, q, same)
      | inr runs ↦ let i : place_of b m ≤ b.turns - 1 = place_begun b m k in omega (arith, i, runs)
    ]

-- so of two that start the first has the older place, or one of the same turn
requests_by_place : (b : Book) (a : Action) (middle : List Action) (l m n i count len j need size : ℕ) → Between b a middle → MayStart b l i m count len → MayStart (entered_each (entered b a) middle) l j n need size → m < n → place_of b m ≤ place_of (entered_each (entered b a) middle) n
requests_by_place b a middle l m n i count len j need size h first second below =
    place_behind b a middle n (place_of b m) (place_begun b m h.knows)
    (λ t e.
    let asked : l < b.links = up_is_numbered b l h.knows.sound.links (ready_is_up (b.link l) (starts_ready b l i m count len first)) in
    before_placed b m n l t h.knows below (starter_to_start b l i m count len first) (was_to_start b a middle l j n need size t h asked second e) e)

-- whoever has a place makes a step on a link that is up and isn't held back
seat_is_due : (b : Book) (n : ℕ) → Sits b n → has_place (b.story n) ≡ true → (link_of b n).up ≡ true → is_held_back b (link_of b n) ≡ false → is_due (next_step b n) ≡ true
seat_is_due b n h placed up free =
    let ready : is_ready (link_of b n) ≡ true = takes_ready (link_of b n) h.link up in
    let idle : dials (link_of b n) ≡ false = up_dials_not (link_of b n).asked (link_of b n).up (is_over (link_of b n)) up in
    by_test (is_told (b.story n)) (is_due (next_step b n) ≡ true) (told_is_due b n idle ready h.link.served free)
    (λ untold. elim h.sat [
      | inl told ↦ absurd (not_both (is_told (b.story n)) untold told)
      | inr w ↦ free_is_due b n idle ready h.link.served free untold (both_left (holds_some (permits_in b.config) (b.story n).permits) (is_timed (b.story n).timeout (b.story n).clock) w.let_in)
          (never (has_place (b.story n)) (nat_le (queue_size b) (renewals_in_line (link_of b n) + line_before (permits_in b.config) b.story (b.story n).link n)) placed)
    ])
  where
    up_dials_not : (asked up over : Bool) → up ≡ true → (asked && not up && not over) ≡ false
    up_dials_not true true over u = refl
    up_dials_not false true over u = refl
    up_dials_not asked false over u = absurd (cc u)

    never : (p q : Bool) → p ≡ true → (not p && q) ≡ false
    never true q e = refl
    never false q e = absurd (cc e)

-- where new credentials start, whoever is to start on the link took no place before them
none_before : (b : Book) (l i count len n t : ℕ) → Knows b → MayRenew b l i count len → is_to_start l (b.story n) ≡ true → b.placed n ≡ Some t → b.since l ≤ t
none_before b l i count len n t k may to e = by_test (nat_lt t (b.since l)) (b.since l ≤ t)
    (λ less.
    let on : (b.story n).link ≡ l = eq_from (b.story n).link l (both_left ((b.story n).link == l) (is_unstarted (b.story n)) to) in
    let unstarted : is_unstarted (b.story n) ≡ true = both_right ((b.story n).link == l) (is_unstarted (b.story n)) to in
    let numbered : n < b.submissions = placed_is_numbered b n t k e in
    let has : has_place (b.story n) ≡ true = k.places.has n t e in
    let up : (link_of b n).up ≡ true = subst (λ j. (b.link j).up ≡ true) (sym on) (renewal_is_up (b.link l) may.credentials may.due) in
    let free : is_held_back b (link_of b n) ≡ false = subst (λ j. is_held_back b (b.link j) ≡ false) (sym on) (renewal_is_free b l may.free) in
    let due : is_due (next_step b n) ≡ true = seat_is_due b n (k.sit n numbered unstarted has) has up free in
    let ahead : is_ahead b l n ≡ true = both_hold (is_taken_before (b.since l) (b.placed n)) (((b.story n).link == l) && (is_unstarted (b.story n) && is_due (next_step b n))) (ap (is_taken_before (b.since l)) e ∙ less)
    (both_hold ((b.story n).link == l) (is_unstarted (b.story n) && is_due (next_step b n)) (both_left ((b.story n).link == l) (is_unstarted (b.story n)) to) (both_hold (is_unstarted (b.story n)) (is_due (next_step b n)) unstarted due)) in
    absurd (not_both (any_below (is_ahead b l) b.submissions) (renewal_is_first b l may.free) (any_of (is_ahead b l) b.submissions n numbered ahead)))
    (λ f. not_lt_from t (b.since l) f)

-- so whoever starts behind them has no older place
request_behind : (b : Book) (a : Action) (middle : List Action) (l n i count len j need size : ℕ) → Between b a middle → MayRenew b l i count len → MayStart (entered_each (entered b a) middle) l j n need size → b.since l ≤ place_of (entered_each (entered b a) middle) n
request_behind b a middle l n i count len j need size h first second =
    place_behind b a middle n (b.since l) (h.begun l)
    (λ t e.
    let asked : l < b.links = up_is_numbered b l h.knows.sound.links (renewal_is_up (b.link l) first.credentials first.due) in
    none_before b l i count len n t h.knows first (was_to_start b a middle l j n need size t h asked second e) e)

-- a place that was taken before a turn
taken_at : (turn : ℕ) (o : Option ℕ) → is_taken_before turn o ≡ true → (t : ℕ) × (o ≡ Some t) × (nat_lt t turn ≡ true)
taken_at turn None h = absurd (cc h)
taken_at turn (Some t) h = (t, refl, h)

-- a submission that starts where new credentials are due has an older place
before_due : (b : Book) (l i m count len : ℕ) (c : Credentials) → Knows b → SinceBegun b → MayStart b l i m count len → renewal_due (b.link l) ≡ Some c → place_of b m < b.since l
before_due b l i m count len c k begun may due =
    let free : is_held_back b (b.link l) ≡ false = subst (λ j. is_held_back b (b.link j) ≡ false) (sym may.on_its_link) (starts_mean b m may.starts).2 in
    let some : any_below (is_ahead b l) b.submissions ≡ true = elim (one_holds (is_held_back b (b.link l)) (any_below (is_ahead b l) b.submissions) (may.begun.renewed l c due)) [ inl held ↦ absurd (not_both (is_held_back b (b.link l)) free held) | inr x ↦ x ] in
    let x = any_from (is_ahead b l) b.submissions some in
    let n : ℕ = x.0 in
    let moves : CanMove b n = ahead_moves b l n x.2 in
    let since : b.since l ≤ b.turns - 1 = begun l in
    let at = taken_at (b.since l) (b.placed n) (ahead_is_placed b l n x.2) in
    let before : at.0 < b.since l = lt_from at.0 (b.since l) at.2 in
    by_test (nat_lt n m) (place_of b m < b.since l)
    (λ less. absurd (may.in_order n (lt_from n m less) moves))
    (λ far. by_test (m == n) (place_of b m < b.since l)
    (λ t.
    let same : place_of b m ≡ at.0 = ap (place_of b) (eq_from m n t) ∙ ap (turn_or (b.turns - 1)) at.1 in
    omega (arith, same, before))
    (λ f.
    let apart = ne_from m n f in
    let most : m ≤ n = not_lt_from n m far in
    let to : is_to_start l (b.story n) ≡ true = both_hold ((b.story n).link == l) (is_unstarted (b.story n)) (eq_test (b.story n).link l (ahead_is_on b l n x.2)) moves.unstarted in
    let less : place_of b m ≤ at.0 = before_placed b m n l at.0 k (omega (arith, apart, most)) (starter_to_start b l i m count len may) to at.1 in
    omega (arith, less, before)))

-- so it has where they start behind it
request_before : (b : Book) (a : Action) (middle : List Action) (l m i count len j need size : ℕ) → Between b a middle → MayStart b l i m count len → MayRenew (entered_each (entered b a) middle) l j need size → place_of b m < (entered_each (entered b a) middle).since l
request_before b a middle l m i count len j need size h first second =
    let c : Book = entered_each (entered b a) middle in
    let due : IsDue (c.link l) = ap is_some second.due in
    let grows : b.since l ≤ c.since l = since_grows b (a ∷ middle) l (h.may, h.all) h.begun in
    by_test (is_some (renewal_due (b.link l))) (place_of b m < c.since l)
    (λ some.
    let x = some_credentials (renewal_due (b.link l)) some in
    let older : place_of b m < b.since l = before_due b l i m count len x.0 h.knows h.begun first x.1 in
    omega (arith, grows, older))
    (λ none.
    let later : b.turns ≤ c.since l = due_each b (a ∷ middle) l b.turns (h.may, h.all) h.knows.sound (omega arith) (λ t. absurd (not_both (is_some (renewal_due (b.link l))) none t)) due in
    let began : place_of b m ≤ b.turns - 1 = place_begun b m h.knows in
    let numbered : m < b.submissions = mover_is_numbered b m h.knows.sound.stories (starter_moves b l i m count len first) in
    by_test (nat_lt 1 b.turns) (place_of b m < c.since l)
    (λ t. let two : 1 < b.turns = lt_from 1 b.turns t in omega (arith, later, began, two))
    (λ f. let few : b.turns ≤ 1 = not_lt_from 1 b.turns f in let zero : b.submissions ≡ 0 = h.knows.sound.opens.none_yet few in absurd (omega (arith, zero, numbered))))

-- and of new credentials those that start first became due first
renewals_by_place : (b : Book) (l i count len : ℕ) (middle : List Action) (j need size : ℕ) → Between b (action.Start l i owner.Auth count len) middle → MayRenew b l i count len → MayRenew (entered_each (entered b (action.Start l i owner.Auth count len)) middle) l j need size
    → b.since l < (entered_each (entered b (action.Start l i owner.Auth count len)) middle).since l
renewals_by_place b l i count len middle j need size h first second =
    let a : Action = action.Start l i owner.Auth count len in
    let c : Book = entered_each (entered b a) middle in
    let later : b.turns ≤ c.since l = due_each (entered b a) middle l b.turns h.all (stays_sound b a h.may h.knows.sound) (omega arith) (λ t. absurd (told_is_undue b l i count len h.knows.sound t)) (ap is_some second.due) in
    let since : b.since l ≤ b.turns - 1 = h.begun l in
    let up : (b.link l).up ≡ true = renewal_is_up (b.link l) first.credentials first.due in
    by_test (nat_lt 1 b.turns) (b.since l < c.since l)
    (λ t. let two : 1 < b.turns = lt_from 1 b.turns t in omega (arith, later, since, two))
    (λ f. absurd (not_both (b.link l).up (h.knows.sound.still (not_lt_from 1 b.turns f) l).down up))

-- the message of which a start tells
data Which (b : Book) (l : ℕ) (a : Action) (turn k : ℕ) : Type 0 where
  told : (i count len : ℕ) → a ≡ action.Start l i owner.Auth count len → MayRenew b l i count len → turn ≡ b.since l → k ≡ 0 → Which b l a turn k
  asked : (i n round count len : ℕ) → a ≡ action.Start l i (owner.Try n round) count len → MayStart b l i n count len → turn ≡ place_of b n → k ≡ suc n → Which b l a turn k

which_of : (b : Book) (l : ℕ) (a : Action) (turn k : ℕ) → MayStand b a → StartsAt b l a turn k → Which b l a turn k
which_of b l (action.Start m i owner.Auth count len) turn k may at = told i count len (ap (λ x. action.Start x i owner.Auth count len) at.0) (subst (λ x. MayRenew b x i count len) at.0 may) at.1 at.2
which_of b l (action.Start m i (owner.Try n round) count len) turn k may at = asked i n round count len (ap (λ x. action.Start x i (owner.Try n round) count len) at.0) (subst (λ x. MayStart b x i n count len) at.0 may.1) at.1 at.2
which_of b l _ turn k may at = absurd at

-- a place of an earlier turn, or of the same and before there
first_or_same : (turn k later j : ℕ) → turn ≤ later → k < j → IsTakenFirst turn k later j
first_or_same turn k later j i less = by_test (nat_lt turn later) (IsTakenFirst turn k later j) (λ t. inl (lt_from turn later t))
    (λ f. let far : later ≤ turn = not_lt_from turn later f in inr (let e : turn ≡ later = omega (arith, i, far) in e, less))

-- of two starts behind actions that may stand
in_order : (b : Book) (middle more : List Action) (a c : Action) (l turn k later j : ℕ) → Between b a middle → AllStand b (a ∷ (middle ++ c ∷ more)) → Which b l a turn k → Which (entered_each (entered b a) middle) l c later j → IsTakenFirst turn k later j
in_order b middle more a c l turn k later j h all (told i count len is may at first) (told q need size same second behind none) =
    let less : b.since l < (entered_each (entered b (action.Start l i owner.Auth count len)) middle).since l =
    renewals_by_place b l i count len middle q need size (subst (λ x. Between b x middle) is h) may (subst (λ x. MayRenew (entered_each (entered b x) middle) l q need size) is second) in
    let on : (entered_each (entered b a) middle).since l ≡ (entered_each (entered b (action.Start l i owner.Auth count len)) middle).since l = ap (λ x. (entered_each (entered b x) middle).since l) is in
    inl (omega (arith, less, on, at, behind))
in_order b middle more a c l turn k later j h all (told i count len is may at first) (asked q n round need size same second behind one) =
    let less : b.since l ≤ place_of (entered_each (entered b a) middle) n = request_behind b a middle l n i count len q need size h may second in
    first_or_same turn k later j (omega (arith, less, at, behind)) (omega (arith, first, one))
in_order b middle more a c l turn k later j h all (asked i m round count len is may at one) (told q need size same second behind rank) =
    let less : place_of b m < (entered_each (entered b a) middle).since l = request_before b a middle l m i count len q need size h may second in
    inl (omega (arith, less, at, behind))
in_order b middle more a c l turn k later j h all (asked i m round count len is may at one) (asked q n other need size same second behind two) =
    let below : m < n = rise_behind b middle more a c l m n h.knows.sound h.knows.seated all (subst (IsStart l m) (sym is) (refl, refl)) (subst (IsStart l n) (sym same) (refl, refl)) in
    let less : place_of b m ≤ place_of (entered_each (entered b a) middle) n = requests_by_place b a middle l m n i count len q need size h may second below in
    first_or_same turn k later j (omega (arith, less, at, behind)) (omega (arith, below, one, two))

-- so it is in a legal trace
pub starts_by_place : (config : Config) (word : ℕ) (events : List Event) (trace : List Action) → Legal config word events trace → StartsByPlace trace
unfolding book
starts_by_place config word events trace h front middle more a c l turn k later j is first second =
    let all : AllStand blank_book (front ++ a ∷ (middle ++ c ∷ more)) = subst (AllStand blank_book) is h.each in
    let before : AllStand blank_book front = stand_front blank_book front (a ∷ (middle ++ c ∷ more)) all in
    let rest : AllStand (book front) (a ∷ (middle ++ c ∷ more)) = stand_behind blank_book front (a ∷ (middle ++ c ∷ more)) all in
    let last : MayStand (entered_each (entered (book front) a) middle) c = (stand_behind (entered (book front) a) middle (c ∷ more) rest.1).0 in
    let between : Between (book front) a middle = record {
      knows = knows_each blank_book front before blank_knows;
      begun = since_each blank_book front before (λ m. omega arith);
      may = rest.0;
      all = stand_front (entered (book front) a) middle (c ∷ more) rest.1;
    } in
    in_order (book front) middle more a c l turn k later j between rest (which_of (book front) l a turn k rest.0 first)
    (which_of (entered_each (entered (book front) a) middle) l c later j last (subst (λ b. StartsAt b l c later j) (entered_append blank_book front (a ∷ middle)) second))
