-- New credentials have their timers.
use Rattle.std.proofs.Common.{◌≡◌, ◌≢◌, inl, inr, ℕ, ◌+◌, ◌-◌, ◌<◌, ◌≤◌, ◌==◌, Bool, true, false, ◌&&◌, if◌then◌else◌, List, [], ◌∷◌, ◌++◌, take, Option, Some, None, is_some, refl, sym, ◌∙◌, ap, subst, arith}
use Rattle.containers.proofs.Choices.{chosen, eq_from, not_both, by_test, left_if}
use Rattle.redis_error.specs.declared.redis_error.RedisError.TheVariants as error
use Rattle.credentials.specs.Credentials.{Credentials}
use Rattle.driver_model.specs.declared.action.Action.{Action}
use Rattle.driver_model.specs.declared.action.Action.TheVariants as action
use Rattle.driver_model.specs.declared.action.Cause.TheVariants as cause
use Rattle.driver_model.specs.declared.action.Owner.TheVariants as owner
use Rattle.driver_model.specs.declared.action.Purpose.{Purpose}
use Rattle.driver_model.specs.declared.action.Purpose.TheVariants as purpose
use Rattle.driver_model.specs.declared.config.Config.{Config}
use Rattle.driver_model.specs.declared.event.Event.{Event}
use Rattle.driver_model.specs.News.{News, silence, connected, refused, overdue, took, came, failed, authorized, denied, deserted, renewed, unrenewed, late, unrepeated, dropped, shut, news_of}
use Rattle.legal_trace.specs.Ledger.{Ledger, asks, hears, begins, offers, sources, times, ends, noted, noted_each, with_news, refused_in, bytes_came, is_over, dials, awaits_credentials, authorized_by, may_renew, renewed_by, unrenewed_by, is_renewal_open, lost_by, renewal_count, renewal_due, renewals_asked, is_repeating, unrepeated_by, repeats_timed}
use Rattle.legal_trace.specs.Managers.{settings_in, is_last}
use Rattle.legal_trace.specs.Book.{is_of_connect, is_rest, Book, blank_book, book, entered, if_mine, info_in, wanted_in, message_of, hearing_in}
use Rattle.legal_trace.specs.Steps.{renewals_in_line}
use Rattle.legal_trace.specs.Legal.{MayStand, MayTimer, MayTimeRenewal, AllStand, IsApplied, answer_time, Legal}
use Rattle.legal_trace.specs.Again.{repeats_in}
use Rattle.legal_trace.proofs.Books.{Grows, book_more, of_each_front, stand_front}
use Rattle.legal_trace.proofs.Ledgers.{mine_keeps}
use Rattle.legal_trace.proofs.Renewals.{renewal_is_up}
use Rattle.legal_trace.proofs.Came.{holds_bytes, grown}
use Rattle.legal_laws.specs.Renewals.{Renews, timed_by, timers_asked, AsksEachNext, TellsTimed, TimesRenewals}
use Rattle.legal_laws.proofs.Links.Bounds.{ready_behind, next_may, applied_began}
use Rattle.legal_laws.proofs.Traces.Numbers.{up_is_asked}
use Rattle.legal_laws.proofs.Notices.Pushed.{push_keeps, tell_keeps}
use Rattle.legal_laws.proofs.Traces.Sound.{Sound, sound_behind}

-- so many timers were asked for, for new credentials of a link, and none before it was asked for itself
pub record HasTimers (count : ℕ) (l : Ledger) : Type 0 where
  pub counted : l.creds.timed ≡ count
  pub unasked : l.asked ≡ false → l.creds.timed ≡ 0

-- so it is of a ledger that says the same of both
same_timers : (count : ℕ) (l m : Ledger) → m.creds.timed ≡ l.creds.timed → m.asked ≡ l.asked → HasTimers count l → HasTimers count m
same_timers count l m timed asked h = record { counted = timed ∙ h.counted; unasked = λ e. timed ∙ h.unasked (sym asked ∙ e) }

-- news leave them
news_timers : (count : ℕ) (l : Ledger) (turn : ℕ) (news : News) → HasTimers count l → HasTimers count (with_news l turn news)
news_timers count l turn silence h = h
news_timers count l turn connected h = chosen (HasTimers count) (is_over l) l (record l { up = true }) (λ t. h) (λ f. same_timers count l (record l { up = true }) refl refl h)
news_timers count l turn (refused x) h = chosen (HasTimers count) (dials l) (refused_in l turn (error.Io x)) l (λ t. same_timers count l (refused_in l turn (error.Io x)) refl refl h) (λ f. h)
news_timers count l turn overdue h = h
news_timers count l turn (took n) h =
    chosen (HasTimers count) l.up (record l { taken = l.taken ++ take n l.offer; offer = [] }) l (λ t. same_timers count l (record l { taken = l.taken ++ take n l.offer; offer = [] }) refl refl h) (λ f. h)
news_timers count l turn (came piece) h = chosen (HasTimers count) l.up (bytes_came l piece) l (λ t. holds_bytes (HasTimers count) l piece (λ rest strange told more. same_timers count l (grown l rest strange told more) refl refl h)) (λ f. h)
news_timers count l turn (failed x) h = h
news_timers count l turn (authorized c) h = chosen (HasTimers count) (awaits_credentials l) (authorized_by l c) l (λ t. same_timers count l (authorized_by l c) refl refl h) (λ f. h)
news_timers count l turn (denied text) h = h
news_timers count l turn deserted h = h
news_timers count l turn (renewed c) h = chosen (HasTimers count) (may_renew l) (renewed_by l c) l (λ t. same_timers count l (renewed_by l c) refl refl h) (λ f. h)
news_timers count l turn unrenewed h = chosen (HasTimers count) l.up (unrenewed_by l) l (λ t. same_timers count l (unrenewed_by l) refl refl h) (λ f. h)
news_timers count l turn (late k) h = chosen (HasTimers count) (l.up && is_renewal_open l k) (lost_by l) l (λ t. same_timers count l (lost_by l) refl refl h) (λ f. h)
news_timers count l turn unrepeated h = chosen (HasTimers count) (is_repeating l) (unrepeated_by l) l (λ t. same_timers count l (unrepeated_by l) refl refl h) (λ f. h)
news_timers count l turn dropped h = h
news_timers count l turn shut h = h

-- a link whose connect is asked for now had none
connect_timers : (count : ℕ) (l m : Ledger) → l.asked ≡ false → m.creds.timed ≡ 0 → HasTimers count l → HasTimers count m
connect_timers count l m unasked none h = record { counted = none ∙ (sym (h.unasked unasked) ∙ h.counted); unasked = λ e. none }

-- no timer more
no_more : (count : ℕ) (l : Ledger) → HasTimers count l → HasTimers (count + 0) l
no_more count l h = subst (λ n. HasTimers n l) (let e : count ≡ count + 0 = omega arith in e) h

-- a timer that may be asked for, for new credentials
pub renewal_of : (b : Book) (t ms l k : ℕ) → MayTimer b t ms (purpose.Renewal l k) → MayTimeRenewal b t ms (purpose.Renewal l k)
renewal_of b t ms l k (inl (inl may)) = absurd (let x : false ≡ true = ap is_of_connect may.is_for in cc x)
renewal_of b t ms l k (inl (inr may)) = absurd (let x : false ≡ true = ap is_rest may.is_for in cc x)
renewal_of b t ms l k (inr (inl may)) = absurd (let x : false ≡ true = ap is_response may.is_for in cc x)
  where
    is_response : Purpose → Bool
    is_response (purpose.Connect m) = false
    is_response (purpose.Response who) = true
    is_response (purpose.Renewal m j) = false
    is_response (purpose.Backoff g) = false
    is_response (purpose.Resubscription m) = false
renewal_of b t ms l k (inr (inr (inl may))) = may
renewal_of b t ms l k (inr (inr (inr may))) = absurd (let x : false ≡ true = ap is_repeat may.is_for in cc x)
  where
    is_repeat : Purpose → Bool
    is_repeat (purpose.Connect m) = false
    is_repeat (purpose.Response who) = false
    is_repeat (purpose.Renewal m j) = false
    is_repeat (purpose.Backoff g) = false
    is_repeat (purpose.Resubscription m) = true

-- of two that are one, the links are
pub same_link : (l m k j : ℕ) → purpose.Renewal l k ≡ purpose.Renewal m j → l ≡ m
same_link l m k j e = cc e

-- it is of the next that have none
renewal_number : (b : Book) (t ms l k : ℕ) → MayTimer b t ms (purpose.Renewal l k) → (answer_time b.config ≡ Some ms) × (k ≡ (b.link l).creds.timed)
renewal_number b t ms l k timer =
    let may : MayTimeRenewal b t ms (purpose.Renewal l k) = renewal_of b t ms l k timer in
    let on : l ≡ may.l = same_link l may.l k (b.link may.l).creds.timed may.is_for in
    (may.within, same_number l may.l k (b.link may.l).creds.timed may.is_for ∙ ap (λ j. (b.link j).creds.timed) (sym on))
  where
    same_number : (l m k j : ℕ) → purpose.Renewal l k ≡ purpose.Renewal m j → k ≡ j
    same_number l m k j e = cc e

-- one timer more
one_more : (mine : Bool) (count : ℕ) (l : Ledger) → (mine ≡ true → l.asked ≡ true) → HasTimers count l → HasTimers (count + (if mine then 1 else 0)) (noted_each l (if_mine mine times))
one_more true count l asked h = record { counted = ap (λ n. n + 1) h.counted; unasked = λ e. absurd (not_both l.asked e (asked refl)) }
one_more false count l asked h = no_more count l h

-- a link that wants a timer was asked for
pub asked_timers : (b : Book) (l : ℕ) → Sound b → (b.link l).creds.timed < renewals_asked (b.link l) → (b.link l).asked ≡ true
asked_timers b l sound i = by_test (b.link l).asked ((b.link l).asked ≡ true) (λ t. t)
    (λ f. absurd (
    let none : renewal_count (b.link l).starts ≡ 0 = ap renewal_count ((sound.shaped l).none f) in
    by_test (is_some (renewal_due (b.link l))) ⊥ (λ some. unasked_due b l sound f (renewal_due (b.link l)) refl some)
    (λ other. let few : renewals_in_line (b.link l) ≡ 0 = left_if (is_some (renewal_due (b.link l))) 1 0 other in omega (arith, i, none, few))
    ))
  where
    unasked_due : (b : Book) (l : ℕ) → Sound b → (b.link l).asked ≡ false → (o : Option Credentials) → renewal_due (b.link l) ≡ o → is_some o ≡ true → ⊥
    unasked_due b l sound f None e some = cc some
    unasked_due b l sound f (Some c) e some = not_both (b.link l).asked f (up_is_asked b l sound.links (renewal_is_up (b.link l) c e))

-- each action that may stand adds its own
timers_kept : (b : Book) (a : Action) (l count : ℕ) → MayStand b a → Sound b → HasTimers count (b.link l) → HasTimers (count + timed_by l a) ((entered b a).link l)
timers_kept b (action.Turn k (cause.Opening config word)) l count may sound h = no_more count (b.link l) h
timers_kept b (action.Turn k (cause.Event e)) l count may sound h =
    let news : News = news_of b.timers b.sources l e.kind in
    no_more count (noted (b.link l) (hears k news)) (same_timers count (with_news (b.link l) k news) (noted (b.link l) (hears k news)) refl refl (news_timers count (b.link l) k news h))
timers_kept b (action.Connect m host port) l count may sound h = no_more count _
    (mine_keeps (HasTimers count) (m == l) (b.link l) (asks (info_in b.config) (wanted_in b.config) (hearing_in b.config) (is_last (settings_in b.config) b.attempt) (repeats_in (settings_in b.config) b.tracked))
    (λ t.
    let same : m ≡ l = eq_from m l t in
    let next : m ≡ b.links = may.next in
    connect_timers count (b.link l) (noted (b.link l) (asks (info_in b.config) (wanted_in b.config) (hearing_in b.config) (is_last (settings_in b.config) b.attempt) (repeats_in (settings_in b.config) b.tracked))) (sound.links.unasked l (omega (arith, same, next))).0 refl h) h)
timers_kept b (action.Timer t ms (purpose.Connect m)) l count may sound h = no_more count (b.link l) h
timers_kept b (action.Timer t ms (purpose.Response who)) l count may sound h = no_more count (b.link l) h
timers_kept b (action.Timer t ms (purpose.Backoff g)) l count may sound h = no_more count (b.link l) h
timers_kept b (action.Timer t ms (purpose.Resubscription m)) l count may sound h = no_more count _
    (mine_keeps (HasTimers count) (m == l) (b.link l) repeats_timed (λ t. same_timers count (b.link l) (noted (b.link l) repeats_timed) refl refl h) h)
timers_kept b (action.Timer t ms (purpose.Renewal m k)) l count may sound h = one_more (m == l) count (b.link l)
    (λ e.
    let its : MayTimeRenewal b t ms (purpose.Renewal m k) = renewal_of b t ms m k may in
    let on : its.l ≡ l = sym (same_link m its.l k (b.link its.l).creds.timed its.is_for) ∙ eq_from m l e in
    asked_timers b l sound (subst (λ j. (b.link j).creds.timed < renewals_asked (b.link j)) on its.asked)) h
timers_kept b (action.Took who m n) l count may sound h = no_more count (b.link l) h
timers_kept b (action.Push m info) l count may sound h = no_more count _
    (push_keeps (HasTimers count) (m == l) info.kind (b.link l) (same_timers count (b.link l) _ refl refl h) (same_timers count (b.link l) _ refl refl h) h)
timers_kept b (action.Message msg) l count may sound h = no_more count _
    (tell_keeps (HasTimers count) (b.current == l) (b.link l) (same_timers count (b.link l) _ refl refl h) h)
timers_kept b (action.Monitor v) l count may sound h = no_more count _
    (tell_keeps (HasTimers count) (b.current == l) (b.link l) (same_timers count (b.link l) _ refl refl h) h)
timers_kept b (action.NeedCreds c m) l count may sound h = no_more count _ (mine_keeps (HasTimers count) (m == l) (b.link l) sources (λ t. same_timers count (b.link l) (noted (b.link l) sources) refl refl h) h)
timers_kept b (action.Generation g) l count may sound h = no_more count (b.link l) h
timers_kept b (action.Round who m) l count may sound h = no_more count (b.link l) h
timers_kept b (action.Close m) l count may sound h = no_more count _
    (mine_keeps (HasTimers count) (m == l) (b.link l) (ends (b.turns - 1)) (λ t. same_timers count (b.link l) (noted (b.link l) (ends (b.turns - 1))) refl refl h) h)
timers_kept b (action.Write m bytes) l count may sound h = no_more count _ (mine_keeps (HasTimers count) (m == l) (b.link l) (offers bytes) (λ t. same_timers count (b.link l) (noted (b.link l) (offers bytes)) refl refl h) h)
timers_kept b (action.Wait who kind) l count may sound h = no_more count (b.link l) h
timers_kept b (action.Start m k who n len) l count may sound h = no_more count _
    (mine_keeps (HasTimers count) (m == l) (b.link l) (begins (message_of b m who)) (λ t. same_timers count (b.link l) (noted (b.link l) (begins (message_of b m who))) refl refl h) h)
timers_kept b (action.Created e) l count may sound h = no_more count (b.link l) h
timers_kept b (action.Outcome n o) l count may sound h = no_more count (b.link l) h

-- how many one action more asks for
timed_more : (l : ℕ) (t : List Action) (a : Action) → timers_asked l (t ++ a ∷ []) ≡ timers_asked l t + timed_by l a
timed_more l [] a = omega arith
timed_more l (x ∷ t) a = let e : timers_asked l (t ++ a ∷ []) ≡ timers_asked l t + timed_by l a = timed_more l t a in omega (arith, e)

-- so it is of each front
abbrev TimersIn : ℕ → List Action → Type 0
TimersIn l t = HasTimers (timers_asked l t) ((book t).link l)

timers_grow : (l : ℕ) → Grows (TimersIn l)
timers_grow l t a all may h =
    subst (λ b. HasTimers (timers_asked l (t ++ a ∷ [])) (b.link l)) (sym (book_more t a))
    (subst (λ n. HasTimers n ((entered (book t) a).link l)) (sym (timed_more l t a)) (timers_kept (book t) a l (timers_asked l t) may (sound_behind t all) h))

timers_behind : (front : List Action) (l : ℕ) → AllStand blank_book front → TimersIn l front
unfolding book
timers_behind front l all = of_each_front (TimersIn l) front (timers_grow l) all (record { counted = refl; unasked = λ e. refl })

-- timers are asked for one after another
asks_each_next : (config : Config) (word : ℕ) (events : List Event) (trace : List Action) → Legal config word events trace → AsksEachNext config trace
asks_each_next config word events trace h front more t ms l k is =
    let a : Action = action.Timer t ms (purpose.Renewal l k) in
    let legal : Legal config word events (front ++ a ∷ more) = subst (Legal config word events) is h in
    let all : AllStand blank_book front = stand_front blank_book front (a ∷ more) legal.each in
    let ready = ready_behind config word events front (a ∷ more) legal in
    let may : MayTimer (book front) t ms (purpose.Renewal l k) = next_may config word events front more a legal in
    let configured : (book front).config ≡ Some config = ready.configured (applied_began (book front) ready.sound (renewal_of (book front) t ms l k may).applied) in
    let number = renewal_number (book front) t ms l k may in
    (sym (ap answer_time configured) ∙ number.0, number.1 ∙ (timers_behind front l all).counted)

-- where new credentials are told, all that were to be have their timers
timed_of : (b : Book) (a : Action) (l : ℕ) → MayStand b a → Renews l a → answer_time b.config ≢ None → renewal_count (b.link l).starts < (b.link l).creds.timed
timed_of b (action.Start m k owner.Auth count len) l may is some = subst (λ j. renewal_count (b.link j).starts < (b.link j).creds.timed) is
    (let all : renewals_asked (b.link m) ≤ (b.link m).creds.timed = may.timed m some in
    let one : renewals_in_line (b.link m) ≡ 1 = ap (λ (o : Option Credentials). if is_some o then 1 else 0) may.due in
    omega (arith, all, one))
timed_of b _ l may is some = absurd is

-- and the event was applied
renews_applied : (b : Book) (a : Action) (l : ℕ) → MayStand b a → Renews l a → IsApplied b
renews_applied b (action.Start m k owner.Auth count len) l may is = may.applied
renews_applied b _ l may is = absurd is

-- so they are told behind these
tells_timed : (config : Config) (word : ℕ) (events : List Event) (trace : List Action) → Legal config word events trace → TellsTimed config trace
tells_timed config word events trace h front more a l is renews some =
    let legal : Legal config word events (front ++ a ∷ more) = subst (Legal config word events) is h in
    let all : AllStand blank_book front = stand_front blank_book front (a ∷ more) legal.each in
    let ready = ready_behind config word events front (a ∷ more) legal in
    let may : MayStand (book front) a = next_may config word events front more a legal in
    let configured : (book front).config ≡ Some config = ready.configured (applied_began (book front) ready.sound (renews_applied (book front) a l may renews)) in
    let timed : renewal_count ((book front).link l).starts < ((book front).link l).creds.timed = timed_of (book front) a l may renews (λ none. some (sym (ap answer_time configured) ∙ none)) in
    subst (λ n. renewal_count ((book front).link l).starts < n) (timers_behind front l all).counted timed

-- new credentials have their timers
pub times_renewals : (config : Config) (word : ℕ) (events : List Event) (trace : List Action) → Legal config word events trace → TimesRenewals config trace
times_renewals config word events trace h = record { next = asks_each_next config word events trace h; told = tells_timed config word events trace h }
