-- Nothing is told that nobody hears; and what a legal trace tells is what came.
use Rattle.std.proofs.Common.{◌≡◌, ◌≢◌, ℕ, zero, suc, ◌<◌, Bool, true, false, List, [], ◌∷◌, ◌++◌, take, Option, Some, None, if◌then◌else◌, refl, sym, ◌∙◌, ap, subst, arith}
use Rattle.std.specs.Prelude.{slice_get, option_map}
use Rattle.containers.proofs.Choices.{by_test, not_both}
use Rattle.resp_value.specs.Data.{Data, push}
use Rattle.resp_value.specs.View.{value_of}
use Rattle.resp_value.specs.Kinds.{is_item}
use Rattle.driver_model.specs.declared.action.Action.{Action}
use Rattle.driver_model.specs.declared.action.Action.TheVariants as action
use Rattle.driver_model.specs.declared.config.Config.{Config}
use Rattle.driver_model.specs.declared.event.Event.{Event}
use Rattle.driver_model.specs.declared.hearing.Hearing.{Hearing}
use Rattle.driver_model.specs.declared.hearing.Hearing.TheVariants as hearing
use Rattle.driver_model.specs.declared.hearing.Notice.{Notice}
use Rattle.driver_model.specs.declared.hearing.Notice.TheVariants as notice
use Rattle.driver_model.specs.declared.msg.Msg.{Msg}
use Rattle.driver_model.specs.declared.push_info.PushInfo.{PushInfo}
use Rattle.driver_model.specs.Config.{hearing_of}
use Rattle.driver_model.specs.Hearing.{hears_something, hears_pushes, hears_messages, is_watching, push_told}
use Rattle.driver_model.specs.Push.{is_disconnection}
use Rattle.legal_trace.specs.Ledger.{Ledger, Heard}
use Rattle.legal_trace.specs.Book.{Book, blank_book, book, hearing_in}
use Rattle.legal_trace.specs.Legal.{MayNotify, MayPushBy, AllStand, Legal}
use Rattle.legal_trace.proofs.Plain.{same_some}
use Rattle.legal_laws.specs.Notices.{said_by, notices_told, IsPush, IsMessage, IsReport, TellsNotices}
use Rattle.legal_laws.specs.Values.{message_in, notice_in, listed, notices_in, values_heard, TellsWhatCame}
use Rattle.legal_laws.proofs.Links.Bounds.{ready_behind, next_may, applied_began}
use Rattle.legal_laws.proofs.Notices.Notices.{each_said, settled_whole, front_stands, tells_each}
use Rattle.legal_laws.proofs.Traces.Ranks.{push_rank, step_of, notice_reached, push_reached}
use Rattle.legal_laws.proofs.Traces.Sound.{Sound}
use Rattle.legal_laws.proofs.Notices.WhatCame.{heard_behind, heard_says}

-- whoever hears this hears such a notice
abbrev suits : Hearing → Notice → Bool
suits h (notice.Push info) = hears_pushes h
suits h (notice.Message m) = hears_messages h
suits h (notice.Monitor v) = is_watching h

-- so it is of what is to be told of a value
abbrev AllSuit : Hearing → List Notice → Type 0
AllSuit h [] = Unit {0}
AllSuit h (n ∷ ns) = (suits h n ≡ true) × AllSuit h ns

pushed_suits : (v : Data) → AllSuit hearing.Pushes (listed (push_told v))
pushed_suits (push k parts) = (refl, tt)
pushed_suits _ = tt

message_suits : (o : Option Msg) → AllSuit hearing.Messages (listed (option_map notice.Message o))
message_suits None = tt
message_suits (Some m) = (refl, tt)

item_suits : (item : Bool) (v : Data) → AllSuit hearing.Monitor (listed (if item then Some (notice.Monitor (value_of v)) else None))
item_suits true v = (refl, tt)
item_suits false v = tt

one_suits : (h : Hearing) (v : Data) → AllSuit h (listed (notice_in h v))
one_suits hearing.Nothing v = tt
one_suits hearing.Pushes v = pushed_suits v
one_suits hearing.Messages v = message_suits (message_in v)
one_suits hearing.Monitor v = item_suits (is_item v) v

both_suit : (h : Hearing) (ms ns : List Notice) → AllSuit h ms → AllSuit h ns → AllSuit h (ms ++ ns)
both_suit h [] ns p q = q
both_suit h (m ∷ ms) ns p q = (p.0, both_suit h ms ns p.1 q)

-- and of many
all_suit : (h : Hearing) (vs : List Data) → AllSuit h (notices_in h vs)
all_suit h [] = tt
all_suit h (v ∷ vs) = both_suit h (listed (notice_in h v)) (notices_in h vs) (one_suits h v) (all_suit h vs)

-- each of them does
suits_at : (h : Hearing) (hs : List Heard) (i : ℕ) (x : Heard) → AllSuit h (said_by hs) → slice_get hs i ≡ Some x → suits h x.what ≡ true
suits_at h [] i x all e = absurd (cc e)
suits_at h (y ∷ hs) zero x all e = subst (λ (z : Heard). suits h z.what ≡ true) (same_some y x e) all.0
suits_at h (y ∷ hs) (suc i) x all e = suits_at h hs i x all.1 e

-- so does what may be told
told_suits : (front : List Action) (l : ℕ) (n : Notice) → AllStand blank_book front → MayNotify (book front) l n → suits (hearing_in (book front).config) n ≡ true
told_suits front l n all may =
    let wanted : Hearing = hearing_in (book front).config in
    let x : Ledger = (book front).link l in
    let says : said_by x.notices ≡ notices_in wanted (values_heard l front) = heard_says wanted x (values_heard l front) (heard_behind l front all) in
    ap (suits wanted) may.says ∙ suits_at wanted x.notices x.told may.heard (subst (AllSuit wanted) (sym says) (all_suit wanted (values_heard l front))) may.next

-- and a push that tells that a link has ended
push_suits : (front : List Action) (l : ℕ) (info : PushInfo) (disconnects : Bool) → AllStand blank_book front → MayPushBy disconnects (book front) l info → hears_pushes (hearing_in (book front).config) ≡ true
push_suits front l info true all may = may.heard
push_suits front l info false all may = told_suits front l (notice.Push info) all may

-- a push comes behind the opening
push_later : (disconnects : Bool) → 0 < push_rank disconnects
push_later false = omega arith
push_later true = omega arith

-- so a turn began before it, and before whatever else is told
tell_began : (b : Book) (l : ℕ) (n : Notice) → Sound b → MayNotify b l n → b.turns ≢ 0
tell_began b l n s may = step_of b 0 2 (omega arith) (notice_reached b l n may s)

push_began : (b : Book) (l : ℕ) (info : PushInfo) (disconnects : Bool) → Sound b → MayPushBy disconnects b l info → b.turns ≢ 0
push_began b l info disconnects s may = step_of b 0 (push_rank disconnects) (push_later disconnects) (push_reached b l info disconnects may s)

-- what is told in a legal trace is heard
push_is_heard : (config : Config) (word : ℕ) (events : List Event) (front more : List Action) (a : Action) → Legal config word events (front ++ a ∷ more) → IsPush a → hears_pushes (hearing_of config) ≡ true
push_is_heard config word events front more (action.Push l info) h is =
    let ready = ready_behind config word events front (action.Push l info ∷ more) h in
    let may = next_may config word events front more (action.Push l info) h in
    sym (ap (λ c. hears_pushes (hearing_in c)) (ready.configured (push_began (book front) l info (is_disconnection info.kind) ready.sound may)))
    ∙ push_suits front l info (is_disconnection info.kind) (front_stands config word events front (action.Push l info ∷ more) h) may
push_is_heard config word events front more _ h is = absurd is

message_is_heard : (config : Config) (word : ℕ) (events : List Event) (front more : List Action) (a : Action) → Legal config word events (front ++ a ∷ more) → IsMessage a → hears_messages (hearing_of config) ≡ true
message_is_heard config word events front more (action.Message msg) h is =
    let ready = ready_behind config word events front (action.Message msg ∷ more) h in
    let may = next_may config word events front more (action.Message msg) h in
    sym (ap (λ c. hears_messages (hearing_in c)) (ready.configured (tell_began (book front) (book front).current (notice.Message msg) ready.sound may)))
    ∙ told_suits front (book front).current (notice.Message msg) (front_stands config word events front (action.Message msg ∷ more) h) may
message_is_heard config word events front more _ h is = absurd is

report_is_heard : (config : Config) (word : ℕ) (events : List Event) (front more : List Action) (a : Action) → Legal config word events (front ++ a ∷ more) → IsReport a → is_watching (hearing_of config) ≡ true
report_is_heard config word events front more (action.Monitor v) h is =
    let ready = ready_behind config word events front (action.Monitor v ∷ more) h in
    let may = next_may config word events front more (action.Monitor v) h in
    sym (ap (λ c. is_watching (hearing_in c)) (ready.configured (tell_began (book front) (book front).current (notice.Monitor v) ready.sound may)))
    ∙ told_suits front (book front).current (notice.Monitor v) (front_stands config word events front (action.Monitor v ∷ more) h) may
report_is_heard config word events front more _ h is = absurd is

-- so nothing is told that nobody hears, and all that somebody does
pub tells_notices : (config : Config) (word : ℕ) (events : List Event) (trace : List Action) → Legal config word events trace → TellsNotices config trace
tells_notices config word events trace h = record {
  pushes = λ deaf front more a is it. not_both (hears_pushes (hearing_of config)) deaf (push_is_heard config word events front more a (subst (Legal config word events) is h) it);
  messages = λ deaf front more a is it. not_both (hears_messages (hearing_of config)) deaf (message_is_heard config word events front more a (subst (Legal config word events) is h) it);
  reports = λ deaf front more a is it. not_both (is_watching (hearing_of config)) deaf (report_is_heard config word events front more a (subst (Legal config word events) is h) it);
  each = tells_each config word events trace h;
}

-- where nobody hears anything, nothing is to be told
nothing_in : (h : Hearing) → hears_something h ≡ false → (vs : List Data) → notices_in h vs ≡ []
nothing_in hearing.Nothing e [] = refl
nothing_in hearing.Nothing e (v ∷ vs) = nothing_in hearing.Nothing e vs
nothing_in hearing.Pushes e vs = cc e
nothing_in hearing.Messages e vs = cc e
nothing_in hearing.Monitor e vs = cc e

-- and where nothing is said, nothing of it is
none_of : (hs : List Heard) (k : ℕ) → said_by hs ≡ [] → said_by (take k hs) ≡ []
none_of [] zero e = refl
none_of [] (suc k) e = refl
none_of (x ∷ hs) k e = cc e

-- so what was told is what the values say
pub tells_what_came : (config : Config) (word : ℕ) (events : List Event) (trace : List Action) → Legal config word events trace → TellsWhatCame config trace
unfolding book
tells_what_came config word events trace h front more l is whole =
    let legal : Legal config word events (front ++ more) = subst (Legal config word events) is h in
    let all : AllStand blank_book front = front_stands config word events front more legal in
    let ready = ready_behind config word events front more legal in
    let done = (settled_whole config word events front more legal whole).written.moved.begun.applied in
    let configured : hearing_in (book front).config ≡ hearing_of config = ap hearing_in (ready.configured (applied_began (book front) ready.sound done)) in
    let x : Ledger = (book front).link l in
    let says : said_by x.notices ≡ notices_in (hearing_of config) (values_heard l front) =
    heard_says (hearing_in (book front).config) x (values_heard l front) (heard_behind l front all) ∙ ap (λ wanted. notices_in wanted (values_heard l front)) configured in
    by_test (hears_something (hearing_of config)) (notices_told l front ≡ notices_in (hearing_of config) (values_heard l front))
    (λ t. tells_each config word events trace h t front more l is whole ∙ says)
    (λ f.
    let nothing : notices_in (hearing_of config) (values_heard l front) ≡ [] = nothing_in (hearing_of config) f (values_heard l front) in
    let told = each_said blank_book l [] front all (record { within = omega arith; said = refl }) in
    told.said ∙ (none_of x.notices x.told (says ∙ nothing) ∙ sym nothing))
