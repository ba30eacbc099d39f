-- The stages of a pass, deed by deed, and one after another.
use Rattle.std.proofs.Common.{arith, ◌≡◌, ◌⊎◌, ℕ, suc, ◌+◌, Bool, true, false, List, [], ◌∷◌, ◌++◌, Option, None, append_assoc, refl, ◌∙◌, sym, ap, inl, inr, subst}
use Rattle.std.proofs.lemmas.List.{append-nil}
use Rattle.driver_model.specs.declared.config.Config.{Config}
use Rattle.driver_model.specs.declared.event.Event.{Event}
use Rattle.outside.specs.World.{Adds}
use Rattle.outside.specs.declared.world.Call.{Call}
use Rattle.outside.specs.declared.world.Call.TheVariants as call
use Rattle.shared_session.specs.History.{History}
use Rattle.shared_session.specs.declared.errors.StepError.{StepError}
use Rattle.live_run.specs.declared.agenda.Agenda.{Agenda}
use Rattle.live_run.specs.declared.agenda.Target.{Target}
use Rattle.live_run.specs.Agenda.{begun, first_due}
use Rattle.live_run.specs.Closing.{close_calls}
use Rattle.live_run.specs.Deeds.{Deed, did, Told, Does, Broke, AllMay, AreShown, after, after_each, calls_in, events_in, actions_in}
use Rattle.live_run.specs.Passes.{Stage, Then, Beginning, closes_of, Closing, IsDialled, AreDials, Dialing, InTurn, Reading, Writing, IsFire, Firing, Pass}
use Rattle.live_run.specs.Steps.{One}
use Rattle.live_run.proofs.Runs.{broke_more, does_more, does_as, went_call, went_calls}
use Rattle.live_run.proofs.Shown.{shown_none}

-- whatever is a stage from there on is one from here on, with these deeds before it
abbrev pub Until : Stage → Agenda → Stage → Agenda → List Deed → Type 0
Until A a B b ds = (whole : Bool) → (later : List Deed) → B whole b later → A whole a (ds ++ later)

until_form : (A B C : Stage) (a b c : Agenda) (xs ys : List Deed) → Until A a B b xs → Until B b C c ys → Until A a C c (xs ++ ys)
until_form A B C a b c xs ys f g whole later h = rw (append_assoc xs ys later) (f whole (ys ++ later) (g whole later h))

pub does_until : {old mid new : Option (List Call)} {before between after : History} {a b c : Agenda} (A B C : Stage) → Does old mid before between a b (Until A a B b) → Does mid new between after b c (Until B b C c)
    → Does old new before after a c (Until A a C c)
does_until {a = a} {b = b} {c = c} A B C one two = does_more (λ xs ys leads f g. until_form A B C a b c xs ys f g) one two

last_form : (A B : Stage) (a b : Agenda) (whole : Bool) (xs ys : List Deed) → Until A a B b xs → B whole b ys → A whole a (xs ++ ys)
last_form A B a b whole xs ys f h = f whole ys h

-- the last of it
pub does_last : {old mid new : Option (List Call)} {before between after : History} {a b c : Agenda} (A B : Stage) (whole : Bool) → Does old mid before between a b (Until A a B b) → Does mid new between after b c (B whole b)
    → Does old new before after a c (A whole a)
does_last {a = a} {b = b} A B whole one two = does_more (λ xs ys leads f h. last_form A B a b whole xs ys f h) one two

end_form : (A B : Stage) (a b : Agenda) (whole : Bool) (xs : List Deed) → B whole b [] → Until A a B b xs → A whole a xs
end_form A B a b whole xs h f = subst (λ (ds : List Deed). A whole a ds) (append-nil xs) (f whole [] h)

-- nothing more of it
pub does_end : {old new : Option (List Call)} {before after : History} {a b : Agenda} (A B : Stage) (whole : Bool) → B whole b [] → Does old new before after a b (Until A a B b) → Does old new before after a b (A whole a)
does_end {a = a} {b = b} A B whole h one = does_as (λ ds leads f. end_form A B a b whole ds h f) one

-- a stage that was done whole, before the next
next_form : (A B : Stage) (a b : Agenda) (ds : List Deed) → b ≡ after_each a ds → A true a ds → Until (Then A B) a B b ds
next_form A B a b ds leads h whole later k = inr (record { first = ds; second = later; parts = refl; begins = h; goes_on = subst (λ (x : Agenda). B whole x later) leads k })

pub then_next : {old new : Option (List Call)} {before after : History} {a b : Agenda} (A B : Stage) → Does old new before after a b (A true a) → Does old new before after a b (Until (Then A B) a B b)
then_next {a = a} {b = b} A B one = does_as (λ ds leads h. next_form A B a b ds leads h) one

-- a stage that was cut
pub then_cut : {old new : Option (List Call)} {before after : History} {a b : Agenda} (A B : Stage) → Does old new before after a b (A false a) → Does old new before after a b (Then A B false a)
then_cut A B one = does_as (λ ds leads h. inl (refl, h)) one

-- what a pass has still to do
abbrev pub FromWriting : Stage
FromWriting = Then Writing Firing

abbrev pub FromReading : Stage
FromReading = Then Reading FromWriting

abbrev pub FromDialing : Stage
FromDialing = Then Dialing FromReading

abbrev pub FromClosing : Stage
FromClosing = Then Closing FromDialing

-- the pass asked for the moment
pub did_now : {old new : Option (List Call)} {before : History} {a : Agenda} {moment : ℕ} → Adds old new (call.Now moment) → Does old new before before a (begun a moment) (Beginning true a)
did_now {before = before} {moment = moment} adds = record { deeds = did (call.Now moment) 0 [] ∷ []; went = went_call adds; shown = (shown_none before.config before.word before.events, tt); may = (tt, tt); leads = refl; form = (refl, (moment, refl)) }

pub pass_begun : {old new : Option (List Call)} {before : History} {a b : Agenda} {moment : ℕ} → Adds old new (call.Now moment) → b ≡ begun a moment → Does old new before before a b (Until Pass a FromClosing b)
pass_begun {old} {new} {before} {a} {b} {moment} adds is = rw is (then_next Beginning FromClosing (did_now adds))

-- closes and nothing else
close_calls_in : (ls : List ℕ) → calls_in (closes_of ls) ≡ close_calls ls
close_calls_in [] = refl
close_calls_in (l ∷ ls) = ap (λ (cs : List Call). call.Close l ∷ cs) (close_calls_in ls)

no_events_in : (ls : List ℕ) → events_in (closes_of ls) ≡ []
no_events_in [] = refl
no_events_in (l ∷ ls) = no_events_in ls

no_actions_in : (ls : List ℕ) → actions_in (closes_of ls) ≡ []
no_actions_in [] = refl
no_actions_in (l ∷ ls) = no_actions_in ls

shown_closes : (config : Config) (word : ℕ) (events : List Event) (ls : List ℕ) → AreShown config word events (closes_of ls)
shown_closes config word events [] = tt
shown_closes config word events (l ∷ ls) = (shown_none config word events, shown_closes config word (events ++ []) ls)

may_close : (a : Agenda) (ls : List ℕ) → AllMay (record a { closes = ls }) (closes_of ls)
may_close a [] = tt
may_close a (l ∷ ls) = (refl, may_close a ls)

all_closed : (a : Agenda) (ls : List ℕ) → after_each (record a { closes = ls }) (closes_of ls) ≡ record a { closes = [] }
all_closed a [] = refl
all_closed a (l ∷ ls) = all_closed a ls

pub did_closes : {old new : Option (List Call)} {before : History} {a b : Agenda} → Told old new (close_calls a.closes) → b ≡ record a { closes = [] } → Does old new before before a b (Closing true a)
did_closes {before = before} {a = a} told is = record {
  deeds = closes_of a.closes;
  went = rw (close_calls_in a.closes, no_events_in a.closes, no_actions_in a.closes) (went_calls told);
  shown = shown_closes before.config before.word before.events a.closes;
  may = may_close a a.closes;
  leads = is ∙ sym (all_closed a a.closes);
  form = (refl, refl);
}

pub pass_closed : {old mid new : Option (List Call)} {before between : History} {a b c : Agenda} → Does old mid before between a b (Until Pass a FromClosing b) → Told mid new (close_calls b.closes) → c ≡ record b { closes = [] }
    → Does old new before between a c (Until Pass a FromDialing c)
pass_closed one told is = does_until Pass FromClosing FromDialing one (then_next Closing FromDialing (did_closes told is))

pub pass_dialled : {old mid new : Option (List Call)} {before between after : History} {a b c : Agenda} → Does old mid before between a b (Until Pass a FromDialing b) → Does mid new between after b c (Dialing true b)
    → Does old new before after a c (Until Pass a FromReading c)
pass_dialled one two = does_until Pass FromDialing FromReading one (then_next Dialing FromReading two)

pub pass_read : {old mid new : Option (List Call)} {before between after : History} {a b c : Agenda} → Does old mid before between a b (Until Pass a FromReading b) → Does mid new between after b c (Reading true b)
    → Does old new before after a c (Until Pass a FromWriting c)
pass_read one two = does_until Pass FromReading FromWriting one (then_next Reading FromWriting two)

pub pass_written : {old mid new : Option (List Call)} {before between after : History} {a b c : Agenda} → Does old mid before between a b (Until Pass a FromWriting b) → Does mid new between after b c (Writing true b)
    → Does old new before after a c (Until Pass a Firing c)
pass_written one two = does_until Pass FromWriting Firing one (then_next Writing Firing two)

pub pass_fired : {old mid new : Option (List Call)} {before between after : History} {a b c : Agenda} (whole : Bool) → Does old mid before between a b (Until Pass a Firing b) → Does mid new between after b c (Firing whole b)
    → Does old new before after a c (Pass whole a)
pass_fired whole one two = does_last Pass Firing whole one two

-- the run is over in the middle of a stage
pub cut_dialling : {old mid new : Option (List Call)} {before between after : History} {a b c : Agenda} → Does old mid before between a b (Until Pass a FromDialing b) → Does mid new between after b c (Dialing false b)
    → Does old new before after a c (Pass false a)
cut_dialling one two = does_last Pass FromDialing false one (then_cut Dialing FromReading two)

pub cut_reading : {old mid new : Option (List Call)} {before between after : History} {a b c : Agenda} → Does old mid before between a b (Until Pass a FromReading b) → Does mid new between after b c (Reading false b)
    → Does old new before after a c (Pass false a)
cut_reading one two = does_last Pass FromReading false one (then_cut Reading FromWriting two)

pub cut_writing : {old mid new : Option (List Call)} {before between after : History} {a b c : Agenda} → Does old mid before between a b (Until Pass a FromWriting b) → Does mid new between after b c (Writing false b)
    → Does old new before after a c (Pass false a)
cut_writing one two = does_last Pass FromWriting false one (then_cut Writing Firing two)

-- one more dial
dial_form : (n : ℕ) (a b : Agenda) (ds : List Deed) → b ≡ after_each a ds → IsDialled ds → Until (AreDials (suc n)) a (AreDials n) b ds
dial_form n a b [] leads dialled whole later h = absurd dialled
dial_form n a b (d ∷ ds) leads (inl one) whole later h =
    inl (
      one.0,
      subst (λ (xs : List Deed). AreDials n whole (after a d) (xs ++ later)) (sym one.1)
          (subst (λ (x : Agenda). AreDials n whole x later) (leads ∙ ap (λ (xs : List Deed). after_each (after a d) xs) one.1) h),
    )
dial_form n a b (d ∷ ds) leads (inr more) whole later h = inr (more.0, dial_form n (after a d) b ds leads more.1 whole later h)

pub dial_more : {old mid new : Option (List Call)} {before between after : History} {a b c : Agenda} (m k n : ℕ) → k ≡ n + 1 → Does old mid before between a b (Until (AreDials m) a (AreDials k) b) → Does mid new between after b c IsDialled
    → Does old new before after a c (Until (AreDials m) a (AreDials n) c)
dial_more {b = b} {c = c} m k n is one two =
    let succ : k ≡ suc n = omega (arith, is) in
    does_until (AreDials m) (AreDials k) (AreDials n) one (rw succ (does_as (λ ds leads h. dial_form n b c ds leads h) two))

-- the first link that was to be dialled was dialled
pub dial_next : {old mid new : Option (List Call)} {before between after : History} {a b c : Agenda} {t : Target} {rest : List Target} (m k n : ℕ) → k ≡ n + 1 → b.dials ≡ t ∷ rest
    → Does old mid before between a b (Until (AreDials m) a (AreDials k) b) → Does mid new between after (record b { dials = t ∷ rest }) c IsDialled → Does old new before after a c (Until (AreDials m) a (AreDials n) c)
dial_next {mid = mid} {new = new} {between = between} {after = after} {b = b} {c = c} m k n is front one two =
    dial_more m k n is one (subst (λ (ts : List Target). Does mid new between after (record b { dials = ts }) c IsDialled) (sym front) two)

pub dial_broke : {error : StepError} {old mid new : Option (List Call)} {before between after : History} {a b : Agenda} {P : List Deed → Type 0} {t : Target} {rest : List Target} → b.dials ≡ t ∷ rest
    → Does old mid before between a b P → Broke error mid new between after (record b { dials = t ∷ rest }) → Broke error old new before after a
dial_broke {error} {mid = mid} {new = new} {between = between} {after = after} {b = b} front one two =
    broke_more one (subst (λ (ts : List Target). Broke error mid new between after (record b { dials = ts })) (sym front) two)

no_dials : (n : ℕ) (b : Agenda) → (n ≡ 0) ⊎ (b.dials ≡ []) → AreDials n true b []
no_dials n b h = λ whole. h

cut_dials : (n : ℕ) (b : Agenda) → AreDials n false b []
cut_dials n b = λ whole. absurd (cc)

pub dials_done : {old new : Option (List Call)} {before after : History} {a b : Agenda} (m k : ℕ) → (k ≡ 0) ⊎ (b.dials ≡ []) → Does old new before after a b (Until (AreDials m) a (AreDials k) b) → Does old new before after a b (AreDials m true a)
dials_done {b = b} m k h one = does_end (AreDials m) (AreDials k) true (no_dials k b h) one

-- none is to be dialled
pub dials_none : {old new : Option (List Call)} {before after : History} {a b : Agenda} {left : List Target} (m k : ℕ) → (b.dials ≡ []) × (left ≡ []) → Does old new before after a b (Until (AreDials m) a (AreDials k) b)
    → Does old new before after a (record b { dials = left }) (AreDials m true a)
dials_none {old} {new} {before} {after} {a} {b} m k none one =
    subst (λ (ts : List Target). Does old new before after a (record b { dials = ts }) (AreDials m true a)) (none.0 ∙ sym none.1) (dials_done m k (inr none.0) one)

pub dials_cut : {old new : Option (List Call)} {before after : History} {a b : Agenda} (m k : ℕ) → Does old new before after a b (Until (AreDials m) a (AreDials k) b) → Does old new before after a b (AreDials m false a)
dials_cut {b = b} m k one = does_end (AreDials m) (AreDials k) false (cut_dials k b) one

-- one more link in turn
turn_form : (Has : Agenda → ℕ → Type 0) (Is : ℕ → Deed → Type 0) (l : ℕ) (ls : List ℕ) (whole : Bool) (a : Agenda) (ds later : List Deed)
    → InTurn Has Is (l ∷ []) true a ds → InTurn Has Is ls whole (after_each a ds) later → InTurn Has Is (l ∷ ls) whole a (ds ++ later)
turn_form Has Is l ls whole a [] [] one h = λ is. ((one refl).0, h)
turn_form Has Is l ls whole a [] (d ∷ later) one h = inr ((one refl).0, h)
turn_form Has Is l ls whole a (d ∷ []) later one h = elim one [ inl has ↦ inl (has.0, has.1, h) | inr other ↦ absurd other.1 ]
turn_form Has Is l ls whole a (d ∷ e ∷ ds) later one h = elim one [ inl has ↦ absurd has.2 | inr other ↦ absurd other.1 ]

until_turn : (Has : Agenda → ℕ → Type 0) (Is : ℕ → Deed → Type 0) (l : ℕ) (ls : List ℕ) (a b : Agenda) (ds : List Deed) → b ≡ after_each a ds → InTurn Has Is (l ∷ []) true a ds
    → Until (InTurn Has Is (l ∷ ls)) a (InTurn Has Is ls) b ds
until_turn Has Is l ls a b ds leads one whole later h = turn_form Has Is l ls whole a ds later one (subst (λ (x : Agenda). InTurn Has Is ls whole x later) leads h)

cut_turn : (Has : Agenda → ℕ → Type 0) (Is : ℕ → Deed → Type 0) (ls : List ℕ) (b : Agenda) → InTurn Has Is ls false b []
cut_turn Has Is [] b = tt
cut_turn Has Is (l ∷ ls) b = λ whole. absurd (cc)

module _ (Has : Agenda → ℕ → Type 0) (Is : ℕ → Deed → Type 0) where
  pub turn_more : {old mid new : Option (List Call)} {before between after : History} {a b c : Agenda} {l : ℕ} {ls : List ℕ} (all ks : List ℕ) → ks ≡ l ∷ ls
      → Does old mid before between a b (Until (InTurn Has Is all) a (InTurn Has Is ks) b) → Does mid new between after b c (InTurn Has Is (l ∷ []) true b)
      → Does old new before after a c (Until (InTurn Has Is all) a (InTurn Has Is ls) c)
  turn_more {b = b} {c = c} {l = l} {ls = ls} all ks is one two =
      does_until (InTurn Has Is all) (InTurn Has Is ks) (InTurn Has Is ls) one (rw is (does_as (λ ds leads h. until_turn Has Is l ls b c ds leads h) two))

  pub turns_done : {old new : Option (List Call)} {before after : History} {a b : Agenda} (all ks : List ℕ) → ks ≡ []
      → Does old new before after a b (Until (InTurn Has Is all) a (InTurn Has Is ks) b) → Does old new before after a b (InTurn Has Is all true a)
  turns_done all ks is one = does_end (InTurn Has Is all) (InTurn Has Is ks) true (rw is tt) one

  pub turns_cut : {old new : Option (List Call)} {before after : History} {a b : Agenda} (all ks : List ℕ)
      → Does old new before after a b (Until (InTurn Has Is all) a (InTurn Has Is ks) b) → Does old new before after a b (InTurn Has Is all false a)
  turns_cut {b = b} all ks one = does_end (InTurn Has Is all) (InTurn Has Is ks) false (cut_turn Has Is ks b) one

-- one more timer that fires
fire_form : (a b : Agenda) (ds : List Deed) → b ≡ after_each a ds → One IsFire ds → Until Firing a Firing b ds
fire_form a b ds leads one whole later h =
    subst (λ (xs : List Deed). Firing whole a (xs ++ later)) (sym one.1)
    (one.2, subst (λ (x : Agenda). Firing whole x later) (leads ∙ ap (λ (xs : List Deed). after_each a xs) one.1) h)

pub fire_more : {old mid new : Option (List Call)} {before between after : History} {a b c : Agenda} → Does old mid before between a b (Until Firing a Firing b) → Does mid new between after b c (One IsFire)
    → Does old new before after a c (Until Firing a Firing c)
fire_more {b = b} {c = c} one two = does_until Firing Firing Firing one (does_as (λ ds leads h. fire_form b c ds leads h) two)

pub fires_done : {old new : Option (List Call)} {before after : History} {a b : Agenda} → first_due b ≡ None → Does old new before after a b (Until Firing a Firing b) → Does old new before after a b (Firing true a)
fires_done none one = does_end Firing Firing true (λ whole. none) one

pub fires_cut : {old new : Option (List Call)} {before after : History} {a b : Agenda} → Does old new before after a b (Until Firing a Firing b) → Does old new before after a b (Firing false a)
fires_cut one = does_end Firing Firing false (λ whole. absurd (cc)) one
