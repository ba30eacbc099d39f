-- Rounds, one after another, and the whole run.
use Rattle.std.proofs.Common.{arith, ◌≡◌, ◌≤◌, ◌<◌, ℕ, ◌+◌, true, false, List, [], ◌∷◌, ◌++◌, length, Option, Some, append_assoc, length-append, refl, subst, ◌∙◌, sym, ap, inl, inr}
use Rattle.std.proofs.lemmas.List.{append-nil}
use Rattle.driver_model.specs.declared.action.Action.{Action}
use Rattle.driver_model.specs.declared.event.Event.{Event}
use Rattle.driver_model.specs.declared.event.EventKind.{EventKind}
use Rattle.driver_model.specs.declared.event.EventKind.TheVariants as event
use Rattle.outside.specs.World.{Adds}
use Rattle.outside.specs.declared.world.Call.{Call}
use Rattle.outside.specs.declared.world.Call.TheVariants as call
use Rattle.session_callers.specs.Calls.{Kept}
use Rattle.shared_session.specs.History.{History}
use Rattle.shared_session.specs.declared.errors.StepError.{StepError}
use Rattle.live_run.specs.declared.agenda.Agenda.{Agenda}
use Rattle.live_run.specs.declared.ending.Ending.{Ending}
use Rattle.live_run.specs.declared.ending.Ending.TheVariants.{Answered, Idle, Full}
use Rattle.live_run.specs.declared.running.Next.TheVariants as next
use Rattle.live_run.specs.Agenda.{agenda_of}
use Rattle.live_run.specs.Claims.{HasClaimed}
use Rattle.live_run.specs.Closing.{close_calls, downs, times, ups}
use Rattle.live_run.specs.Deeds.{Deed, did, fired, claim, Does, Broke, Told, AllMay, after_each, events_in, events_of, answer_of, made, of_end}
use Rattle.live_run.specs.Passes.{Pass, IsQuiet, IsIdle, IsRound, EachRound, EndsIdle, Each, joined}
use Rattle.live_run.specs.Endings.{Goes, Over}
use Rattle.live_run.specs.Rounds.{IsNext}
use Rattle.live_run.specs.Driven.{Driven, DrivenWith, Ends, Ran}
use Rattle.live_run.specs.Steps.{IsEnd, Refused, Stepped}
use Rattle.live_run.proofs.Balance.{even_after, held, times_more, told_closes}
use Rattle.live_run.proofs.Going.{going_events}
use Rattle.live_run.proofs.Runs.{after_more, does_more, does_none, told_more, went_call}
use Rattle.live_run.proofs.Settling.{broke_step}
use Rattle.live_run.proofs.Shown.{shown_none}
use Rattle.live_run.proofs.Words.{answers_each, words_each}

long : {T : Type 0} (xs ys : List T) → length (xs ++ ys) ≡ length xs + length ys
long xs ys = length-append xs ys

-- what gains nothing in length gains nothing
none_gained : {T : Type 0} (xs ys : List T) → length (xs ++ ys) ≡ length xs → ys ≡ []
none_gained xs [] is = refl
none_gained xs (y ∷ ys) is = absurd (let l = long xs (y ∷ ys) in omega (arith, l, is))

none_made : (word : ℕ) (kinds : List EventKind) → made word kinds ≡ [] → kinds ≡ []
none_made word [] is = refl
none_made word (kind ∷ kinds) is = absurd (cc)

first_none : {T : Type 0} (xs ys : List T) → xs ++ ys ≡ [] → xs ≡ []
first_none [] ys is = refl
first_none (x ∷ xs) ys is = absurd (cc)

rest_none : {T : Type 0} (xs ys : List T) → xs ++ ys ≡ [] → ys ≡ []
rest_none [] ys is = is
rest_none (x ∷ xs) ys is = absurd (cc)

quiet_one : (d : Deed) → events_of d ≡ [] → IsQuiet d
quiet_one (did c word actions) is = none_made word (answer_of c) is
quiet_one (fired timer word actions) is = absurd (cc)
quiet_one (claim number) is = refl

quiet_each : (ds : List Deed) → events_in ds ≡ [] → Each IsQuiet ds
quiet_each [] is = tt
quiet_each (d ∷ ds) is = (quiet_one d (first_none (events_of d) (events_in ds) is), quiet_each ds (rest_none (events_of d) (events_in ds) is))

did_wait : {old new : Option (List Call)} {before : History} {a : Agenda} → Adds old new (call.Wait 10) → Does old new before before a a (λ (ds : List Deed). ds ≡ did (call.Wait 10) 0 [] ∷ [])
did_wait {before = before} adds = record { deeds = did (call.Wait 10) 0 [] ∷ []; went = went_call adds; shown = (shown_none before.config before.word before.events, tt); may = (tt, tt); leads = refl; form = refl }

-- an idle pass, and its wait
pub idled : {old mid new : Option (List Call)} {before after : History} {a b : Agenda} (idle : ℕ) → length after.events ≡ length before.events → Adds mid new (call.Wait 10)
    → Does old mid before after a b (Pass true a) → Does old new before after a b (IsNext (next.Idle (idle + 1)) idle before after a)
idled {before = before} {after = after} {a = a} idle same adds first =
    let l : length (before.events ++ events_in first.deeds) ≡ length before.events = sym (ap (λ (es : List Event). length es) first.went.grown) ∙ same in
    let none = none_gained before.events (events_in first.deeds) l in
    does_more {P = λ (ds : List Deed). Pass true a ds × Each IsQuiet ds} {Q = λ (ds : List Deed). ds ≡ did (call.Wait 10) 0 [] ∷ []} {R = IsNext (next.Idle (idle + 1)) idle before after a}
    (λ xs ys leads p is. inr (refl, same, record { pass = xs; parts = ap (λ (zs : List Deed). xs ++ zs) is; is_pass = p.0; quiet = p.1 }))
    (record { deeds = first.deeds; went = first.went; shown = first.shown; may = first.may; leads = first.leads; form = (first.form, quiet_each first.deeds none) })
    (did_wait adds)

joined_more : (rs : List (List Deed)) (ds : List Deed) → joined (rs ++ ds ∷ []) ≡ joined rs ++ ds
joined_more [] ds = append-nil ds
joined_more (r ∷ rs) ds = ap (λ (zs : List Deed). r ++ zs) (joined_more rs ds) ∙ sym (append_assoc r (joined rs) ds)

rounds_append : (Is : Agenda → List Deed → Type 0) (a : Agenda) (rs : List (List Deed)) (ds : List Deed) → EachRound Is a rs → Is (after_each a (joined rs)) ds → EachRound Is a (rs ++ ds ∷ [])
rounds_append Is a [] ds each one = (one, tt)
rounds_append Is a (r ∷ rs) ds each one = (each.0, rounds_append Is (after_each a r) rs ds each.1 (subst (λ (x : Agenda). Is x ds) (after_more a r (joined rs)) one))

-- the passes so far, of which the last so many were idle
pub record Sofar (idle : ℕ) (a : Agenda) (deeds : List Deed) : Type 0 where
  pub rounds : List (List Deed)
  pub parts : deeds ≡ joined rounds
  pub each : EachRound IsRound a rounds
  pub last : EndsIdle idle a deeds

idle_none : (a : Agenda) (ds : List Deed) → EndsIdle 0 a ds
idle_none a ds = record { before = ds; rounds = []; parts = sym (append-nil ds); number = refl; each = tt }

idle_more : (count : ℕ) (a : Agenda) (xs ds : List Deed) → EndsIdle count a xs → IsIdle (after_each a xs) ds → EndsIdle (count + 1) a (xs ++ ds)
idle_more count a xs ds ends idle = record {
  before = ends.before;
  rounds = ends.rounds ++ ds ∷ [];
  parts = ap (λ (zs : List Deed). zs ++ ds) ends.parts ∙ append_assoc ends.before (joined ends.rounds) ds ∙ ap (λ (zs : List Deed). ends.before ++ zs) (sym (joined_more ends.rounds ds));
  number = let l = long ends.rounds (ds ∷ []) in let n = ends.number in omega (arith, l, n);
  each = rounds_append IsIdle (after_each a ends.before) ends.rounds ds ends.each
      (subst (λ (x : Agenda). IsIdle x ds) (ap (λ (zs : List Deed). after_each a zs) ends.parts ∙ after_more a ends.before (joined ends.rounds)) idle);
}

pub sofar_none : {old : Option (List Call)} {before : History} {a : Agenda} → Does old old before before a a (Sofar 0 a)
sofar_none {a = a} = does_none (record { rounds = []; parts = refl; each = tt; last = idle_none a [] })

round_more : (idle count : ℕ) (a : Agenda) (xs ds : List Deed) → Sofar idle a xs → IsRound (after_each a xs) ds → EndsIdle count a (xs ++ ds) → Sofar count a (xs ++ ds)
round_more idle count a xs ds so round ends = record {
  rounds = so.rounds ++ ds ∷ [];
  parts = ap (λ (zs : List Deed). zs ++ ds) so.parts ∙ sym (joined_more so.rounds ds);
  each = rounds_append IsRound a so.rounds ds so.each (subst (λ (zs : List Deed). IsRound (after_each a zs) ds) so.parts round);
  last = ends;
}

next_form : (count idle : ℕ) (before after : History) (a b : Agenda) (xs ds : List Deed) → b ≡ after_each a xs → Sofar idle a xs → IsNext (next.Idle count) idle before after b ds → Sofar count a (xs ++ ds)
next_form count idle before after a b xs ds leads so (inl p) =
    round_more idle count a xs ds so (inl (subst (λ (x : Agenda). Pass true x ds) leads p.2)) (rw p.0 (idle_none a (xs ++ ds)))
next_form count idle before after a b xs ds leads so (inr p) =
    let i : IsIdle (after_each a xs) ds = subst (λ (x : Agenda). IsIdle x ds) leads p.2 in
    round_more idle count a xs ds so (inr i) (rw p.0 (idle_more idle a xs ds so.last i))

pub sofar_more : {old mid new : Option (List Call)} {before between after : History} {idle count : ℕ} {a b c : Agenda} → Does old mid before between a b (Sofar idle a)
    → Does mid new between after b c (IsNext (next.Idle count) idle between after b) → Does old new before after a c (Sofar count a)
sofar_more {between = between} {after = after} {idle = idle} {count = count} {a = a} {b = b} first second = does_more (λ xs ds leads so is. next_form count idle between after a b xs ds leads so is) first second

over_cause : (ending : Ending) (s : History) (count : ℕ) (a : Agenda) (ds : List Deed) → Over (Some ending) s count → Ends ending s count a ds
over_cause Answered s count a ds over = over
over_cause Full s count a ds over = over
over_cause Idle s count a ds over = absurd over

-- the run is over in the middle of a pass
pub ran_over : {old mid new : Option (List Call)} {before between after : History} {idle count : ℕ} {a b c : Agenda} (ending : Ending) → Does old mid before between a b (Sofar idle a)
    → Does mid new between after b c (Pass false b) → Over (Some ending) after count → Does old new before after a c (Ran ending after count a)
ran_over {after = after} {count = count} {a = a} {b = b} ending first second over = does_more (λ xs ds leads so p. record {
  rounds = record {
    rounds = so.rounds;
    last = ds;
    parts = ap (λ (zs : List Deed). zs ++ ds) so.parts;
    each = so.each;
    cut = inr (subst (λ (x : Agenda). Pass false x ds) (leads ∙ ap (λ (zs : List Deed). after_each a zs) so.parts) p);
  };
  cause = over_cause ending after count a (xs ++ ds) over;
}) first second

-- no more passes in a row are idle than end the run
pub next_within : {old new : Option (List Call)} {before after : History} {a b : Agenda} (idle count : ℕ) → Does old new before after a b (IsNext (next.Idle count) idle before after a) → idle < 6_000 → count ≤ 6_000
next_within idle count first few = elim first.form [ inl p ↦ (let e = p.0 in omega (arith, e)) | inr p ↦ (let e = p.0 in omega (arith, e, few)) ]

-- the shutdown, and the closes after it
pub ended : {old mid one new : Option (List Call)} {before after : History} {actions : List Action} (closes unclosed : List ℕ) → Stepped old mid before after event.Shutdown actions
    → Told mid one (close_calls closes) → Told one new (close_calls unclosed) → IsEnd old new before after (closes ++ unclosed)
ended {actions = actions} closes unclosed step first second =
    let told = told_closes closes unclosed first second in
    let w = step.went in
    record {
      asked_word = step.asked_word;
      actions = actions;
      went = record { told = told_more w.told told; grown = w.grown; config = w.config; word = w.word; shown = w.shown; good = w.good; unspent = w.unspent; same_failure = w.same_failure; sound = w.sound };
    }

pub unended : {error : StepError} {old new : Option (List Call)} {before after : History} {a : Agenda} → Refused error old new before after event.Shutdown → Broke error old new before after a
unended refusal = broke_step of_end refusal

even_closes : (n : ℕ) (early : List Action) (b : Agenda) (ds : List Deed) → b ≡ after_each (agenda_of early) ds → AllMay (agenda_of early) ds → ups n ds ≡ downs n ds + times n (b.closes ++ b.unclosed)
even_closes n early b ds leads may =
    let e : ups n ds + held n (agenda_of early) ≡ downs n ds + held n b = rw leads (even_after n (agenda_of early) ds may) in
    let m = times_more n b.closes b.unclosed in
    omega (arith, e, m)

pub driven : {old mid new : Option (List Call)} {before last after : History} {count : ℕ} {b : Agenda} {ending : Ending} (early : List Action)
    → Does old mid before last (agenda_of early) b (Ran ending last count (agenda_of early)) → Goes before last count → IsEnd mid new last after (b.closes ++ b.unclosed) → Driven early old new before after count ending
driven {last = last} {b = b} early run goes end_of = record {
  last = last;
  deeds = run.deeds;
  word = end_of.asked_word;
  closes = b.closes ++ b.unclosed;
  told = told_more run.went.told end_of.went.told;
  grown = run.went.grown;
  ended = end_of.went.grown;
  config = run.went.config;
  config_after = end_of.went.config ∙ run.went.config;
  opening = run.went.word;
  opening_after = end_of.went.word ∙ run.went.word;
  shown = run.shown;
  good = λ h. end_of.went.good (run.went.good h);
  unspent = λ h. end_of.went.unspent (run.went.unspent h);
  may = run.may;
  rounds = run.form.rounds;
  going = going_events (events_in run.deeds) run.went.grown goes;
  left = ap (λ (x : Agenda). x.closes ++ x.unclosed) run.leads;
  even = λ n. even_closes n early b run.deeds run.leads run.may;
  cause = run.form.cause;
  answers = answers_each (agenda_of early) run.deeds run.may;
  words = words_each (agenda_of early) run.deeds run.may;
}

-- and with what is claimed behind it
pub driven_with : {old mid new : Option (List Call)} {before last after : History} {count : ℕ} {b : Agenda} {ending : Ending} (early : List Action) (keeper : Kept)
    → Does old mid before last (agenda_of early) b (Ran ending last count (agenda_of early)) → Goes before last count → IsEnd mid new last after (b.closes ++ b.unclosed) → HasClaimed b.claimed keeper
    → DrivenWith keeper early old new before after count ending
unfolding driven
driven_with early keeper run goes end_of claims = record { run = driven early run goes end_of; claims = subst (λ (a : Agenda). HasClaimed a.claimed keeper) run.leads claims }
