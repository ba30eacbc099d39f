-- Where the stream of messages is dropped, each link has ended behind that turn.
use Rattle.std.proofs.Common.{◌≡◌, ◌⊎◌, inl, inr, ℕ, ◌-◌, ◌==◌, Bool, true, false, ◌&&◌, not, List, [], ◌∷◌, ◌++◌, Option, Some, None, is_some, if◌then◌else◌, refl, sym, ◌∙◌, ap, subst, arith, append_assoc}
use Rattle.containers.proofs.Choices.{by_test, eq_from, taken_if, left_if, not_both}
use Rattle.redis_error.specs.declared.redis_error.RedisError.{RedisError}
use Rattle.redis_error.specs.declared.redis_error.RedisError.TheVariants as error
use Rattle.driver_model.specs.declared.action.Action.{Action}
use Rattle.driver_model.specs.declared.action.Action.TheVariants as action
use Rattle.driver_model.specs.declared.action.Cause.TheVariants as cause
use Rattle.driver_model.specs.declared.config.Config.{Config}
use Rattle.driver_model.specs.declared.event.Event.{Event}
use Rattle.driver_model.specs.declared.event.EventKind.TheVariants as event
use Rattle.driver_model.specs.declared.hearing.Hearing.{Hearing}
use Rattle.driver_model.specs.declared.news.LinkFault.TheVariants as fault
use Rattle.driver_model.specs.Hearing.{hears_messages}
use Rattle.driver_model.specs.News.{News, dropped, news_of}
use Rattle.legal_trace.specs.Ledger.{Ledger, Ending, by_fault, by_opening, asks, hears, begins, offers, ends, sources, ending, ending_alive, ending_asked, ending_by, ending_unready, ending_up, error_in, is_over, is_set_up, setup_result, with_news}
use Rattle.legal_trace.specs.Managers.{settings_in, is_last}
use Rattle.legal_trace.specs.Book.{Book, blank_book, book, entered, entered_each, hearing_in, info_in, message_of, wanted_in}
use Rattle.legal_trace.specs.Legal.{MayStand, AllStand, IsSettled, Legal}
use Rattle.legal_trace.specs.Again.{repeats_in}
use Rattle.legal_trace.proofs.Clocks.{timer_tells}
use Rattle.legal_trace.proofs.Books.{stand_front, stand_behind, book_append}
use Rattle.legal_trace.proofs.Ledgers.{asked_keeps, hears_past, mine_keeps}
use Rattle.legal_trace.proofs.Plain.{none_from, not_none}
use Rattle.legal_laws.specs.Drops.{EndsWhereDropped}
use Rattle.legal_laws.proofs.Notices.Dealt.{asked_hears}
use Rattle.legal_laws.proofs.Notices.Notices.{settled_whole}
use Rattle.legal_laws.proofs.Notices.Pushed.{push_keeps, tell_keeps}
use Rattle.legal_laws.proofs.Traces.Sound.{Sound, stays_sound, sound_behind}

-- what ends it, where it hears messages
some_ends : (h : Hearing) (why : Ending) → hears_messages h ≡ true → (if hears_messages h then Some why else None) ≡ None → ⊥
some_ends h why messages none = not_none (if hears_messages h then Some why else None) why none (taken_if (hears_messages h) (Some why) None messages)

by_error : (failed : Option RedisError) (other : Option Ending) → (other ≡ None → ⊥) → ending_by failed other ≡ None → ⊥
by_error None other some none = some none
by_error (Some e) other some none = cc none

-- a link of messages that hears of the drop must end, but where it has
alive_drops : (l : Ledger) → hears_messages l.hearing ≡ true → l.heard ≡ dropped → ending_alive l ≡ None → ⊥
alive_drops l messages heard none = by_test (is_set_up l) ⊥
    (λ t. some_ends l.hearing (by_fault fault.Ended) messages
    (sym (taken_if (is_set_up l) (ending_up l l.heard) (ending_by (error_in (setup_result l)) (ending_unready l l.heard)) t ∙ ap (ending_up l) heard) ∙ none))
    (λ f. by_error (error_in (setup_result l)) (ending_unready l l.heard) (λ e. some_ends l.hearing (by_opening error.Closed) messages (sym (ap (ending_unready l) heard) ∙ e))
    (sym (left_if (is_set_up l) (ending_up l l.heard) (ending_by (error_in (setup_result l)) (ending_unready l l.heard)) f) ∙ none))

asked_drops : (l : Ledger) (asked over : Bool) → asked ≡ true → hears_messages l.hearing ≡ true → l.heard ≡ dropped → (if asked && not over then ending_asked l l.heard else None) ≡ None → over ≡ true
asked_drops l true true a messages heard none = refl
asked_drops l true false a messages heard none = absurd (some_ends l.hearing (by_opening error.Closed) messages (sym (ap (ending_asked l) heard) ∙ none))
asked_drops l false over a messages heard none = cc a

drop_ends : (l : Ledger) → l.asked ≡ true → hears_messages l.hearing ≡ true → l.heard ≡ dropped → ending l ≡ None → is_over l ≡ true
drop_ends l asked messages heard none = by_test l.up (is_over l ≡ true)
    (λ t. absurd (alive_drops l messages heard (sym (taken_if l.up (ending_alive l) (if l.asked && not (is_over l) then ending_asked l l.heard else None) t) ∙ none)))
    (λ f. asked_drops l l.asked (is_over l) asked messages heard (sym (left_if l.up (ending_alive l) (if l.asked && not (is_over l) then ending_asked l l.heard else None) f) ∙ none))

-- it was asked for, and hears messages; and it has ended, or hears of the drop in the turn that runs
record IsDropped (l : Ledger) : Type 0 where
  asked : l.asked ≡ true
  messages : hears_messages l.hearing ≡ true
  gone : (is_over l ≡ true) ⊎ (l.heard ≡ dropped)

-- where nothing must end, it has ended
dropped_over : (l : Ledger) → IsDropped l → ending l ≡ None → is_over l ≡ true
dropped_over l h none = elim h.gone [ inl over ↦ over | inr heard ↦ drop_ends l h.asked h.messages heard none ]

-- what has ended has so behind any news
over_hears : (l : Ledger) (turn : ℕ) (news : News) → is_over l ≡ true → is_over (with_news l turn news) ≡ true
over_hears l turn news over = by_test (is_over (with_news l turn news)) (is_over (with_news l turn news) ≡ true) (λ t. t)
    (λ f. absurd (not_both (is_over l) (ap is_some ((hears_past l turn news).end (none_from (with_news l turn news).end f))) over))

-- each action that may stand keeps it
dropped_kept : (b : Book) (l : ℕ) (a : Action) → MayStand b a → Sound b → IsDropped (b.link l) → IsDropped ((entered b a).link l)
dropped_kept b l (action.Turn k (cause.Opening config word)) may s h = h
dropped_kept b l (action.Turn k (cause.Event e)) may s h =
    let over : is_over (b.link l) ≡ true = dropped_over (b.link l) h (may.is_for.1.written.moved.begun.applied.shown.ended l) in
    let news : News = news_of b.timers b.sources l e.kind in
    record {
      asked = asked_keeps (b.link l) (hears k news) h.asked;
      messages = ap hears_messages (hears_past (b.link l) k news).hearing ∙ h.messages;
      gone = inl (over_hears (b.link l) k news over);
    }
dropped_kept b l (action.Connect m host port) may s h = mine_keeps IsDropped (m == l) (b.link l) (asks (info_in b.config) (wanted_in b.config) (hearing_in b.config) (is_last (settings_in b.config) b.attempt) (repeats_in (settings_in b.config) b.tracked))
    (λ t. let same : m ≡ l = eq_from m l t in let next : m ≡ b.links = may.next in absurd (not_both (b.link l).asked (s.links.unasked l (omega (arith, same, next))).0 h.asked)) h
dropped_kept b l (action.Timer t ms what) may s h = timer_tells IsDropped (b.link l) l what (λ on k is e. record { asked = h.asked; messages = h.messages; gone = h.gone }) (λ on is e. record { asked = h.asked; messages = h.messages; gone = h.gone }) h
dropped_kept b l (action.Took who m count) may s h = h
dropped_kept b l (action.Push m info) may s h = push_keeps IsDropped (m == l) info.kind (b.link l) (record { asked = h.asked; messages = h.messages; gone = h.gone }) (record { asked = h.asked; messages = h.messages; gone = h.gone }) h
dropped_kept b l (action.Message msg) may s h = tell_keeps IsDropped (b.current == l) (b.link l) (record { asked = h.asked; messages = h.messages; gone = h.gone }) h
dropped_kept b l (action.Monitor v) may s h = tell_keeps IsDropped (b.current == l) (b.link l) (record { asked = h.asked; messages = h.messages; gone = h.gone }) h
dropped_kept b l (action.NeedCreds c m) may s h = mine_keeps IsDropped (m == l) (b.link l) sources (λ t. record { asked = h.asked; messages = h.messages; gone = h.gone }) h
dropped_kept b l (action.Generation g) may s h = h
dropped_kept b l (action.Round who m) may s h = h
dropped_kept b l (action.Close m) may s h = mine_keeps IsDropped (m == l) (b.link l) (ends (b.turns - 1)) (λ t. record { asked = h.asked; messages = h.messages; gone = inl refl }) h
dropped_kept b l (action.Write m bytes) may s h = mine_keeps IsDropped (m == l) (b.link l) (offers bytes) (λ t. record { asked = h.asked; messages = h.messages; gone = h.gone }) h
dropped_kept b l (action.Wait who kind) may s h = h
dropped_kept b l (action.Start m k who count len) may s h = mine_keeps IsDropped (m == l) (b.link l) (begins (message_of b m who)) (λ t. record { asked = h.asked; messages = h.messages; gone = h.gone }) h
dropped_kept b l (action.Created e) may s h = h
dropped_kept b l (action.Outcome n o) may s h = h

-- and so do many
each_dropped : (b : Book) (l : ℕ) (more : List Action) → AllStand b more → Sound b → IsDropped (b.link l) → IsDropped ((entered_each b more).link l)
each_dropped b l [] all s h = h
each_dropped b l (a ∷ more) all s h = each_dropped (entered b a) l more all.1 (stays_sound b a all.0 s) (dropped_kept b l a all.0 s h)

-- the turn in which it is dropped
turn_drops : (b : Book) (k l : ℕ) (e : Event) → e.kind ≡ event.DropStream → (b.link l).asked ≡ true → hears_messages (b.link l).hearing ≡ true → IsDropped ((entered b (action.Turn k (cause.Event e))).link l)
turn_drops b k l e drops asked messages =
    let news : News = news_of b.timers b.sources l e.kind in
    record {
      asked = asked_keeps (b.link l) (hears k news) asked;
      messages = ap hears_messages (hears_past (b.link l) k news).hearing ∙ messages;
      gone = inr (ap (news_of b.timers b.sources l) drops);
    }

-- so a legal trace ends its links there
pub ends_where_dropped : (config : Config) (word : ℕ) (events : List Event) (trace : List Action) → Legal config word events trace → EndsWhereDropped config trace
unfolding book
ends_where_dropped config word events trace h front middle more k l e messages is drops whole asked =
    let turn : Action = action.Turn k (cause.Event e) in
    let legal : Legal config word events (front ++ turn ∷ (middle ++ more)) = subst (Legal config word events) is h in
    let all : AllStand blank_book front = stand_front blank_book front (turn ∷ (middle ++ more)) legal.each in
    let behind : AllStand (book front) (turn ∷ (middle ++ more)) = stand_behind blank_book front (turn ∷ (middle ++ more)) legal.each in
    let sound : Sound (book front) = sound_behind front all in
    let heard : hears_messages ((book front).link l).hearing ≡ true = ap hears_messages (asked_hears config word events front (turn ∷ (middle ++ more)) l legal asked) ∙ messages in
    let after : IsDropped ((entered_each (entered (book front) turn) middle).link l) =
    each_dropped (entered (book front) turn) l middle (stand_front (entered (book front) turn) middle more behind.1) (stays_sound (book front) turn behind.0 sound) (turn_drops (book front) k l e drops asked heard) in
    let here : book (front ++ turn ∷ middle) ≡ entered_each (entered (book front) turn) middle = book_append front (turn ∷ middle) in
    let settled : IsSettled (book (front ++ turn ∷ middle)) =
    settled_whole config word events (front ++ turn ∷ middle) more (subst (Legal config word events) (sym (append_assoc front (turn ∷ middle) more)) legal) whole in
    dropped_over ((book (front ++ turn ∷ middle)).link l) (subst (λ (b : Book). IsDropped (b.link l)) (sym here) after) (settled.written.moved.begun.applied.shown.ended l)
