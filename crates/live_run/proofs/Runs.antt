-- What two parts of a run, one after the other, do.
use Rattle.std.proofs.Common.{arith, ◌≡◌, ◌⊎◌, List, [], ◌∷◌, ◌++◌, Option, append_assoc, refl, ◌∙◌, sym, ap, inl, inr}
use Rattle.std.proofs.lemmas.List.{append-nil}
use Rattle.driver_model.specs.declared.action.Action.{Action}
use Rattle.driver_model.specs.declared.event.Event.{Event}
use Rattle.outside.specs.World.{Adds}
use Rattle.outside.specs.declared.world.Call.{Call}
use Rattle.shared_session.specs.History.{History}
use Rattle.single_session.specs.Replay.{trace_of}
use Rattle.shared_session.specs.declared.errors.StepError.{StepError}
use Rattle.shared_session.specs.declared.errors.StepError.TheVariants.{NoMemory}
use Rattle.shared_session.specs.declared.session.Failure.TheVariants.{Sound}
use Rattle.live_run.specs.declared.agenda.Agenda.{Agenda}
use Rattle.live_run.specs.Deeds.{Deed, Told, Went, Does, Broke, AllMay, after, after_each, calls_of, events_of, actions_of, calls_in, events_in, actions_in}
use Rattle.live_run.proofs.Shown.{shown_then}

-- what the trace gained by these events
pub shown_by : {old new : Option (List Call)} {before after : History} {cs : List Call} {es : List Event} {acts : List Action} → Went old new before after cs es acts
    → trace_of before.config before.word (before.events ++ es) ≡ trace_of before.config before.word before.events ++ acts
shown_by went = (λ i. trace_of (sym went.config i) (sym went.word i) (sym went.grown i)) ∙ went.shown

-- the calls of two parts
pub calls_more : (xs ys : List Deed) → calls_in (xs ++ ys) ≡ calls_in xs ++ calls_in ys
calls_more [] ys = refl
calls_more (x ∷ xs) ys = ap (λ (cs : List Call). calls_of x ++ cs) (calls_more xs ys) ∙ sym (append_assoc (calls_of x) (calls_in xs) (calls_in ys))

-- the events of two parts
pub events_more : (xs ys : List Deed) → events_in (xs ++ ys) ≡ events_in xs ++ events_in ys
events_more [] ys = refl
events_more (x ∷ xs) ys = ap (λ (es : List Event). events_of x ++ es) (events_more xs ys) ∙ sym (append_assoc (events_of x) (events_in xs) (events_in ys))

-- the actions of two parts
pub actions_more : (xs ys : List Deed) → actions_in (xs ++ ys) ≡ actions_in xs ++ actions_in ys
actions_more [] ys = refl
actions_more (x ∷ xs) ys = ap (λ (acts : List Action). actions_of x ++ acts) (actions_more xs ys) ∙ sym (append_assoc (actions_of x) (actions_in xs) (actions_in ys))

-- what is asked after two parts
pub after_more : (a : Agenda) (xs ys : List Deed) → after_each a (xs ++ ys) ≡ after_each (after_each a xs) ys
after_more a [] ys = refl
after_more a (x ∷ xs) ys = after_more (after a x) xs ys

pub may_more : (a : Agenda) (xs ys : List Deed) → AllMay a xs → AllMay (after_each a xs) ys → AllMay a (xs ++ ys)
may_more a [] ys one two = two
may_more a (x ∷ xs) ys one two = (one.0, may_more (after a x) xs ys one.1 two)

-- what a world tells of one call
pub told_adds : {old new : Option (List Call)} {c : Call} → Adds old new c → Told old new (c ∷ [])
told_adds adds = record { before = adds.before }

pub told_none : {old : Option (List Call)} → Told old old []
told_none = record { before = λ all is. (all, is, sym (append-nil all)) }

pub told_more : {old mid new : Option (List Call)} {xs ys : List Call} → Told old mid xs → Told mid new ys → Told old new (xs ++ ys)
told_more {xs = xs} {ys = ys} one two = record {
  before = λ all is.
      let b = two.before all is in
      let a = one.before b.0 b.1 in
      (a.0, a.1, b.2 ∙ ap (λ (cs : List Call). cs ++ ys) a.2 ∙ append_assoc a.0 xs ys);
}

-- calls, and nothing that happened to the session
pub went_calls : {old new : Option (List Call)} {before : History} {cs : List Call} → Told old new cs → Went old new before before cs [] []
went_calls {before = before} told = record {
  told = told;
  grown = sym (append-nil before.events);
  config = refl;
  word = refl;
  shown = sym (append-nil _);
  good = λ h. h;
  unspent = λ h. h;
  same_failure = refl;
  sound = inr refl;
}

pub went_none : {old : Option (List Call)} {before : History} → Went old old before before [] [] []
went_none = went_calls told_none

pub went_call : {old new : Option (List Call)} {before : History} {c : Call} → Adds old new c → Went old new before before (c ∷ []) [] []
went_call adds = went_calls (told_adds adds)

sound_more : (before between : History) (es fs : List Event) → between.failure ≡ before.failure → (before.failure ≡ Sound) ⊎ (es ≡ []) → (between.failure ≡ Sound) ⊎ (fs ≡ []) → (before.failure ≡ Sound) ⊎ (es ++ fs ≡ [])
sound_more before between es fs same (inl sound) two = inl sound
sound_more before between es fs same (inr none) (inl sound) = inl (sym same ∙ sound)
sound_more before between es fs same (inr none) (inr no_more) = inr (rw (none, no_more) refl)

pub went_more : {old mid new : Option (List Call)} {before between after : History} {xs ys : List Call} {es fs : List Event} {acts bs : List Action}
    → Went old mid before between xs es acts → Went mid new between after ys fs bs → Went old new before after (xs ++ ys) (es ++ fs) (acts ++ bs)
went_more {before = before} {between = between} {es = es} {fs = fs} {acts = acts} {bs = bs} one two = record {
  told = told_more one.told two.told;
  grown = two.grown ∙ ap (λ (all : List Event). all ++ fs) one.grown ∙ append_assoc before.events es fs;
  config = two.config ∙ one.config;
  word = two.word ∙ one.word;
  shown = two.shown ∙ ap (λ (all : List Action). all ++ bs) one.shown ∙ append_assoc _ acts bs;
  good = λ h. two.good (one.good h);
  unspent = λ h. two.unspent (one.unspent h);
  same_failure = two.same_failure ∙ one.same_failure;
  sound = sound_more before between es fs one.same_failure one.sound two.sound;
}

-- nothing was done
pub does_none : {old : Option (List Call)} {before : History} {a : Agenda} {P : List Deed → Type 0} → P [] → Does old old before before a a P
does_none p = record { deeds = []; went = went_none; shown = tt; may = tt; leads = refl; form = p }

-- two parts, one after the other
pub does_more : {old mid new : Option (List Call)} {before between after : History} {a b c : Agenda} {P Q R : List Deed → Type 0}
    → ((xs ys : List Deed) → b ≡ after_each a xs → P xs → Q ys → R (xs ++ ys)) → Does old mid before between a b P → Does mid new between after b c Q → Does old new before after a c R
does_more {old} {mid} {new} {before} {between} {after} {a} {b} {c} r one two = record {
  deeds = one.deeds ++ two.deeds;
  went = rw (calls_more one.deeds two.deeds, events_more one.deeds two.deeds, actions_more one.deeds two.deeds) (went_more one.went two.went);
  shown = shown_then before between one.deeds two.deeds one.went.config one.went.word one.went.grown one.shown two.shown;
  may = may_more a one.deeds two.deeds one.may (rw one.leads at two.may);
  leads = two.leads ∙ ap (λ (x : Agenda). after_each x two.deeds) one.leads ∙ sym (after_more a one.deeds two.deeds);
  form = r one.deeds two.deeds one.leads one.form two.form;
}

-- the same deeds, said of another form
pub does_as : {old new : Option (List Call)} {before after : History} {a b : Agenda} {P Q : List Deed → Type 0}
    → ((ds : List Deed) → b ≡ after_each a ds → P ds → Q ds) → Does old new before after a b P → Does old new before after a b Q
does_as r one = record { deeds = one.deeds; went = one.went; shown = one.shown; may = one.may; leads = one.leads; form = r one.deeds one.leads one.form }

-- a part that broke off after another
pub broke_more : {error : StepError} {old mid new : Option (List Call)} {before between after : History} {a b : Agenda} {P : List Deed → Type 0}
    → Does old mid before between a b P → Broke error mid new between after b → Broke error old new before after a
broke_more {error} {old} {mid} {new} {before} {between} {after} {a} {b} one two = record {
  last = two.last;
  deeds = one.deeds ++ two.deeds;
  lost = two.lost;
  few = two.few;
  went = rw (calls_more one.deeds two.deeds, events_more one.deeds two.deeds, actions_more one.deeds two.deeds, append_assoc (calls_in one.deeds) (calls_in two.deeds) two.lost) (went_more one.went two.went);
  shown = shown_then before between one.deeds two.deeds one.went.config one.went.word one.went.grown one.shown two.shown;
  may = may_more a one.deeds two.deeds one.may (rw one.leads at two.may);
  why = rw (after_more a one.deeds two.deeds, ← one.leads) two.why;
  kept = two.kept;
}

-- deeds after which memory was refused
pub broke_none : {old new : Option (List Call)} {before after : History} {a b : Agenda} {P : List Deed → Type 0} → Does old new before after a b P → Broke NoMemory old new before after a
broke_none {after = after} one = record {
  last = after;
  deeds = one.deeds;
  lost = [];
  few = omega arith;
  went = rw (append-nil (calls_in one.deeds)) one.went;
  shown = one.shown;
  may = one.may;
  why = tt;
  kept = refl;
}

-- nothing was done, and memory was refused
pub broke_nothing : {old : Option (List Call)} {before : History} {a : Agenda} → Broke NoMemory old old before before a
broke_nothing {before = before} = record { last = before; deeds = []; lost = []; few = omega arith; went = went_none; shown = tt; may = tt; why = tt; kept = refl }

-- one call, whose answer was not noted
pub broke_call : {old new : Option (List Call)} {before : History} {a : Agenda} (c : Call) → Adds old new c → Broke NoMemory old new before before a
broke_call {before = before} c adds = record { last = before; deeds = []; lost = c ∷ []; few = omega arith; went = went_call adds; shown = tt; may = tt; why = tt; kept = refl }
