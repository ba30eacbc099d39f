-- Pushes: traces that can be relied on, and pushes that stand where they may not.
use Rattle.std.proofs.Common.{◌≡◌, ℕ, Bool, true, false, [], ◌∷◌, Some, None, codes, refl, sym, ap, subst}
use Rattle.std.specs.Fmt.{digits}
use Rattle.std.specs.Str.Lossy.{utf8_lossy, utf8_valid_len}
use Rattle.url.proofs.OnLiterals.{url_on_literals}
use Rattle.redis_error.specs.declared.fault_kind.FaultKind.TheVariants.{Reset}
use Rattle.redis_error.specs.declared.redis_error.RedisError.TheVariants as error
use Rattle.resp_value.specs.Kinds.{kind_of}
use Rattle.resp_read.specs.Grammar.{max_depth}
use Rattle.resp_read.specs.Values.{values, left_over, is_spoiled}
use Rattle.resp_read.specs.Items.{items}
use Rattle.driver_model.specs.Config.{address, fault_in}
use Rattle.driver_model.specs.Push.{is_disconnection}
use Rattle.driver_model.specs.Hearing.{hears_pushes, hears_something}
use Rattle.driver_model.specs.declared.hearing.Hearing.{Hearing}
use Rattle.driver_model.specs.declared.hearing.Hearing.TheVariants as hearing
use Rattle.driver_model.specs.declared.action.Action.TheVariants as action
use Rattle.driver_model.specs.declared.action.Cause.{Cause}
use Rattle.driver_model.specs.declared.action.Cause.TheVariants as cause
use Rattle.driver_model.specs.declared.event.EventKind.TheVariants as event
use Rattle.driver_model.specs.declared.outcome.Outcome.{Outcome}
use Rattle.driver_model.specs.declared.outcome.Outcome.TheVariants as outcome
use Rattle.driver_model.specs.declared.push_info.PushInfo.{PushInfo}
use Rattle.driver_model.specs.declared.hearing.Notice.TheVariants as notice
use Rattle.legal_trace.specs.Managers.{settings_in, is_lazy}
use Rattle.legal_trace.specs.Events.{is_bad_event}
use Rattle.legal_trace.specs.Ledger.{Heard, is_full_by}
use Rattle.legal_trace.specs.Story.{Try}
use Rattle.legal_trace.specs.Book.{Book, hearing_in}
use Rattle.legal_trace.specs.Legal.{MayTurn, MayPushBy, is_heard}
use Rattle.legal_trace.proofs.Plain.{same_some}
use Rattle.trace_examples.specs.Parts.{reply}
use Rattle.trace_examples.specs.Calls.{hello_well, confirmation}
use Rattle.trace_examples.specs.Pushes.{heard, unheard, get, subscribe, invalid_between, invalidation, subscription, subscribed, disconnection, pushed_early, cut_off_early, invalid_while_asked, first_told, invalid_told, pushed_alone, confirmed, cut_off_asked, end_told, push_fronts}
use Rattle.trace_examples.specs.Claims.{IsTraceIn, NoneBeginsIn}
use Rattle.trace_examples.specs.Fronts.{EachStands}
use Rattle.trace_examples.proofs.Due.{IsPlace, legal, stands}
use Rattle.trace_examples.proofs.Called.{third_server, at_third}
use Rattle.trace_examples.proofs.Stood.{book_of, may_stand, answer}

-- where pushes are heard the opening asks for the server that speaks the third protocol
is_heard_server : address heard ≡ Some third_server
unfolding url_on_literals utf8_lossy utf8_valid_len
is_heard_server = refl

pub at_heard : IsPlace heard (codes "h") 6379
at_heard = record { sound = ap (λ a. fault_in a true None 50) is_heard_server; info = third_server; configured = is_heard_server; is = (refl, refl) }

-- and so it does where they aren't
at_unheard : IsPlace unheard (codes "h") 6379
at_unheard = at_third

-- a push between two replies is told between their outcomes
pub told_between : IsTraceIn heard
    (event.Connected 0 ∷ event.Wrote 0 22 ∷ event.Bytes 0 hello_well ∷ event.Submit (get 97) ∷ event.Submit (get 98) ∷ event.Bytes 0 invalid_between ∷ [])
    invalid_while_asked
    (action.Outcome 0 (reply 120) ∷ action.Push 0 invalidation ∷ action.Outcome 1 (reply 121) ∷ [])
unfolding digits settings_in is_lazy is_bad_event items values left_over is_spoiled max_depth kind_of url_on_literals utf8_lossy utf8_valid_len
told_between word = legal heard word _ _ refl refl (at_heard, (refl, (refl, (refl, (refl, (refl, tt))))))

-- a push with reply is told before the outcome that it gives
pub told_and_answered : IsTraceIn heard
    (event.Connected 0 ∷ event.Wrote 0 22 ∷ event.Bytes 0 hello_well ∷ event.Submit subscribe ∷ event.Bytes 0 confirmation ∷ [])
    confirmed
    (action.Push 0 subscription ∷ action.Outcome 0 subscribed ∷ [])
unfolding digits settings_in is_lazy is_bad_event items values left_over is_spoiled max_depth kind_of url_on_literals utf8_lossy utf8_valid_len
told_and_answered word = legal heard word _ _ refl refl (at_heard, (refl, (refl, (refl, (refl, tt)))))

-- where nobody hears pushes it gives its outcome alone
pub answered_unheard : IsTraceIn unheard
    (event.Connected 0 ∷ event.Wrote 0 22 ∷ event.Bytes 0 hello_well ∷ event.Submit subscribe ∷ event.Bytes 0 confirmation ∷ [])
    confirmed
    (action.Outcome 0 subscribed ∷ [])
unfolding digits settings_in is_lazy is_bad_event items values left_over is_spoiled max_depth kind_of url_on_literals utf8_lossy utf8_valid_len
answered_unheard word = legal unheard word _ _ refl refl (at_unheard, (refl, (refl, (refl, tt))))

-- a link that a fault ended is closed, this is told, and then the outcome comes
pub end_is_told : IsTraceIn heard
    (event.Connected 0 ∷ event.Wrote 0 22 ∷ event.Bytes 0 hello_well ∷ event.Submit (get 97) ∷ event.ReadFault 0 Reset ∷ [])
    cut_off_asked
    (action.Push 0 disconnection ∷ action.Outcome 0 (outcome.Fault (error.Io Reset)) ∷ [])
unfolding digits settings_in is_lazy is_bad_event items values left_over is_spoiled max_depth url_on_literals utf8_lossy utf8_valid_len
end_is_told word = legal heard word _ _ refl refl (at_heard, (refl, (refl, (refl, (refl, tt)))))

-- these fronts stand
pub push_fronts_stand : (word : ℕ) → EachStands (push_fronts word)
unfolding digits settings_in is_lazy is_bad_event items values left_over is_spoiled max_depth kind_of url_on_literals utf8_lossy utf8_valid_len
push_fronts_stand word =
    let early = stands (pushed_early heard word) refl (at_heard, (refl, tt)) in
    let cut_early = stands (cut_off_early heard word) refl (at_heard, (refl, tt)) in
    let asked = stands (invalid_while_asked heard word) refl (at_heard, (refl, (refl, tt))) in
    let first = stands (first_told heard word) refl (at_heard, (refl, (refl, (refl, tt)))) in
    let told = stands (invalid_told heard word) refl (at_heard, (refl, (refl, (refl, (refl, tt))))) in
    let alone = stands (pushed_alone heard word) refl (at_heard, (refl, tt)) in
    let one = stands (confirmed heard word) refl (at_heard, (refl, (refl, tt))) in
    let other = stands (confirmed unheard word) refl (at_unheard, (refl, (refl, tt))) in
    let cut = stands (cut_off_asked heard word) refl (at_heard, (refl, (refl, tt))) in
    let end = stands (end_told heard word) refl (at_heard, (refl, (refl, (refl, tt)))) in
    (early, (cut_early, (asked, (first, (told, (alone, (one, (other, (cut, (end, tt))))))))))

-- a push that is told twice
pub told_twice : NoneBeginsIn heard invalid_told (action.Push 0 invalidation)
unfolding digits settings_in is_lazy items values left_over max_depth kind_of url_on_literals utf8_lossy utf8_valid_len
told_twice word events after h = let m = may_stand heard word events (invalid_told heard word) after (action.Push 0 invalidation) h in cc m.next

-- the push that came between the replies, and the one that confirms
abbrev invalid_heard : Heard
invalid_heard = record { after = 2; what = notice.Push invalidation }

abbrev confirmation_heard : Heard
confirmation_heard = record { after = 1; what = notice.Push subscription }

-- the first message behind the setup
abbrev first_try : Try
first_try = record { link = 0; message = 1 }

-- a push that is told before the outcome of a message that was full when it came
pub told_too_soon : NoneBeginsIn heard invalid_while_asked (action.Push 0 invalidation)
unfolding digits settings_in is_lazy items values left_over max_depth kind_of url_on_literals utf8_lossy utf8_valid_len
told_too_soon word events after h =
    let b = book_of (invalid_while_asked heard word) in
    let m = may_stand heard word events (invalid_while_asked heard word) after (action.Push 0 invalidation) h in
    m.answered 0 refl refl (record { try = first_try; last = refl; full = subst (λ (p : Heard). is_full_by (b.link 0) p.after 1 ≡ true) (same_some invalid_heard m.heard m.next) refl })

-- an outcome that stands before the push that gives it
pub answered_before_the_push : (o : Outcome) → NoneBeginsIn heard confirmed (action.Outcome 0 o)
unfolding digits settings_in is_lazy items values left_over max_depth kind_of url_on_literals utf8_lossy utf8_valid_len
answered_before_the_push o word events after h =
    let b = book_of (confirmed heard word) in
    let m = answer heard word events (confirmed heard word) after 0 o refl h in
    let before = m.after_notices refl confirmation_heard refl in
    let full : is_full_by (b.link 0) 1 1 ≡ true = subst (λ (t : Try). is_full_by (b.link t.link) 1 t.message ≡ true) (sym (same_some first_try before.try before.last)) before.full in cc full

-- or before one that came before its reply
pub answered_before_another : (o : Outcome) → NoneBeginsIn heard first_told (action.Outcome 1 o)
unfolding digits settings_in is_lazy items values left_over max_depth kind_of url_on_literals utf8_lossy utf8_valid_len
answered_before_another o word events after h =
    let b = book_of (first_told heard word) in
    let m = answer heard word events (first_told heard word) after 1 o refl h in
    let before = m.after_notices refl invalid_heard refl in
    let second : Try = record { link = 0; message = 2 } in
    let full : is_full_by (b.link 0) 2 2 ≡ true = subst (λ (t : Try). is_full_by (b.link t.link) 2 t.message ≡ true) (sym (same_some second before.try before.last)) before.full in cc full

-- pushes are something
pushes_something : (h : Hearing) → hears_pushes h ≡ true → hears_something h ≡ true
pushes_something hearing.Pushes e = refl
pushes_something hearing.Nothing e = cc e
pushes_something hearing.Messages e = cc e
pushes_something hearing.Monitor e = cc e

-- whoever tells a push is heard
push_heard : (b : Book) (l : ℕ) (info : PushInfo) (disconnects : Bool) → MayPushBy disconnects b l info → is_heard b ≡ true
push_heard b l info true may = pushes_something (hearing_in b.config) may.heard
push_heard b l info false may = may.is_heard

-- a push that is told with nobody to hear it
pub told_unheard : (l : ℕ) (info : PushInfo) → NoneBeginsIn unheard confirmed (action.Push l info)
unfolding digits settings_in is_lazy items values left_over max_depth kind_of url_on_literals utf8_lossy utf8_valid_len
told_unheard l info word events after h =
    let m = may_stand unheard word events (confirmed unheard word) after (action.Push l info) h in
    let x : false ≡ true = push_heard (book_of (confirmed unheard word)) l info (is_disconnection info.kind) m in cc x

-- a push that came before the link was set up
pub told_early : NoneBeginsIn heard pushed_early (action.Push 0 invalidation)
unfolding digits settings_in is_lazy items values left_over max_depth kind_of url_on_literals utf8_lossy utf8_valid_len
told_early word events after h = let m = may_stand heard word events (pushed_early heard word) after (action.Push 0 invalidation) h in cc m.next

-- the end of a link that was never set up
pub early_end_told : NoneBeginsIn heard cut_off_early (action.Push 0 disconnection)
unfolding digits settings_in is_lazy url_on_literals utf8_lossy utf8_valid_len
early_end_told word events after h = let m = may_stand heard word events (cut_off_early heard word) after (action.Push 0 disconnection) h in cc m.ended

-- the end of a link that has not ended
pub no_end_told : NoneBeginsIn heard confirmed (action.Push 0 disconnection)
unfolding digits settings_in is_lazy items values left_over max_depth kind_of url_on_literals utf8_lossy utf8_valid_len
no_end_told word events after h = let m = may_stand heard word events (confirmed heard word) after (action.Push 0 disconnection) h in cc m.ended

-- an end that is told twice
pub end_told_twice : NoneBeginsIn heard end_told (action.Push 0 disconnection)
unfolding digits settings_in is_lazy items values left_over max_depth url_on_literals utf8_lossy utf8_valid_len
end_told_twice word events after h =
    let m = may_stand heard word events (end_told heard word) after (action.Push 0 disconnection) h in
    let x : true ≡ false = m.once in cc x

-- an outcome that the end gives, before it is told
pub answered_before_the_end : (o : Outcome) → NoneBeginsIn heard cut_off_asked (action.Outcome 0 o)
unfolding digits settings_in is_lazy items values left_over max_depth url_on_literals utf8_lossy utf8_valid_len
answered_before_the_end o word events after h =
    let m = answer heard word events (cut_off_asked heard word) after 0 o refl h in
    let x : false ≡ true = (m.after_closes refl).3 0 refl refl in cc x

-- a turn that begins while a push waits
pub push_left_out : (number : ℕ) (c : Cause) → NoneBeginsIn heard pushed_alone (action.Turn number c)
unfolding digits settings_in is_lazy items values left_over max_depth kind_of url_on_literals utf8_lossy utf8_valid_len
push_left_out number c word events after h = of_cause c (may_stand heard word events (pushed_alone heard word) after (action.Turn number c) h)
  where
    of_cause : (c : Cause) → MayTurn (book_of (pushed_alone heard word)) number c → ⊥
    of_cause (cause.Opening config draws) m = cc m.is_for
    of_cause (cause.Event e) m = cc (m.is_for.1.written.moved.begun.applied.shown.pushed 0 refl)
