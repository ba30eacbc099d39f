-- A monitor's link is set up once MONITOR is answered, and deals nothing from then on.
use Rattle.std.proofs.Common.{◌≡◌, ℕ, ◌+◌, ◌-◌, ◌==◌, Bool, true, false, ◌&&◌, ◌||◌, not, List, [], ◌∷◌, ◌++◌, take, Option, Some, None, refl, sym, ◌∙◌, ap, subst, arith, zero, suc}
use Rattle.std.specs.Prelude.{slice_get}
use Rattle.containers.proofs.Choices.{chosen, eq_from, not_both, taken_if, by_test, left_if}
use Rattle.redis_error.specs.declared.redis_error.RedisError.TheVariants as error
use Rattle.resp_value.specs.Data.{Data}
use Rattle.driver_model.specs.declared.action.Action.{Action}
use Rattle.driver_model.specs.declared.action.Action.TheVariants as action
use Rattle.driver_model.specs.declared.action.Cause.TheVariants as cause
use Rattle.driver_model.specs.declared.action.Owner.TheVariants as owner
use Rattle.driver_model.specs.declared.config.Config.{Config}
use Rattle.driver_model.specs.declared.event.Event.{Event}
use Rattle.driver_model.specs.declared.hearing.Hearing.{Hearing}
use Rattle.driver_model.specs.declared.hearing.Hearing.TheVariants as hearing
use Rattle.driver_model.specs.Hearing.{taking, is_watching}
use Rattle.driver_model.specs.News.{News, silence, connected, refused, overdue, took, came, failed, dropped, shut, news_of, authorized, denied, deserted, renewed, unrenewed, late, unrepeated}
use Rattle.legal_trace.specs.Ledger.{Ledger, asks, begins, offers, ends, sources, with_news, refused_in, bytes_came, is_answered, is_awaiting, is_over, is_set_up, dials, items_came, heard_at, monitor_of, taking_of, value_by, value_came, awaits_credentials, authorized_by, may_renew, renewed_by, unrenewed_by, is_renewal_open, lost_by, Start, is_of_monitor, monitor_among, monitor_due, is_repeating, unrepeated_by}
use Rattle.legal_trace.specs.Managers.{settings_in, is_last}
use Rattle.legal_trace.specs.Book.{Book, blank_book, book, entered, entered_each, hearing_in, info_in, message_of, wanted_in, kind_in, submitted_by}
use Rattle.legal_trace.specs.Legal.{MayStand, AllStand, Legal}
use Rattle.legal_trace.proofs.Books.{stand_front, stand_behind, book_append}
use Rattle.legal_trace.proofs.Came.{ValueKeeps, bytes_keep, holds_came, value_is}
use Rattle.legal_trace.proofs.Ledgers.{mine_keeps}
use Rattle.legal_trace.proofs.Monitors.{monitor_is}
use Rattle.legal_trace.proofs.Setups.{AreSetups, set_begins, set_is_undue, set_is_watched, set_stays}
use Rattle.legal_trace.proofs.Sources.{awaits_unset}
use Rattle.legal_laws.specs.Reports.{AnswersFirst, DealsNoMore, IsWatched, SubmitsNothing, TellsReports, WatchesOnce}
use Rattle.legal_laws.proofs.Notices.Dealt.{asked_hears}
use Rattle.legal_laws.proofs.Notices.Pushed.{push_keeps, tell_keeps}
use Rattle.legal_laws.proofs.Traces.Sound.{Sound, stays_sound, sound_behind, blank_is_sound}
use Rattle.legal_laws.proofs.Notices.Suits.{tells_what_came}
use Rattle.legal_trace.specs.Events.{is_bad_event}
use Rattle.legal_trace.specs.Again.{repeats_in}
use Rattle.legal_trace.proofs.Clocks.{timer_tells}
use Rattle.legal_trace.proofs.Plain.{not_none, same_some}
use Rattle.legal_trace.proofs.Watching.{watch_is_up, watch_is_heard, watch_is_greeted, watch_is_new}
use Rattle.legal_laws.proofs.Links.Bounds.{ready_behind, next_may, applied_began}
use Rattle.legal_laws.proofs.Traces.Numbers.{up_is_asked}
use Rattle.std.proofs.lemmas.List.{append-nil}
use Rattle.driver_model.specs.Request.{has_no_form}
use Rattle.driver_model.specs.declared.event.EventKind.{EventKind}
use Rattle.driver_model.specs.declared.kind.SessionKind.{SessionKind}
use Rattle.driver_model.specs.declared.kind.SessionKind.TheVariants as kind
use Rattle.driver_model.specs.declared.event.EventKind.TheVariants as event
use Rattle.driver_model.specs.Config.{kind_of, wants_pushes, hearing_in as kind_hears}

-- where a server is put into monitor mode, and the link is set up, MONITOR is answered
watched_by : (l : Ledger) (o : Option ℕ) → monitor_of l ≡ o → is_answered l o ≡ true → IsWatched l
watched_by l None e h = absurd (cc h)
watched_by l (Some k) e h =
    let there = monitor_is l.starts 0 k e in
    let placed : k ≡ there.0 = let far : k ≡ 0 + there.0 = there.2 in omega (arith, far) in
    record { k = k; start = there.1; stands = ap (slice_get l.starts) placed ∙ there.3; watches = there.4; answered = h }

answers_of : (watching : Bool) (answered : Bool) → watching ≡ true → (not watching || answered) ≡ true → answered ≡ true
answers_of true answered w e = e
answers_of false answered w e = cc w

set_watches : (l : Ledger) → is_watching l.hearing ≡ true → is_set_up l ≡ true → IsWatched l
set_watches l watching set = watched_by l (monitor_of l) refl (answers_of (is_watching l.hearing) (is_answered l (monitor_of l)) watching (set_is_watched l set))

-- such a link was asked for, and has dealt these items
record IsDone (ds : List Data) (l : Ledger) : Type 0 where
  asked : l.asked ≡ true
  watching : is_watching l.hearing ≡ true
  ready : is_set_up l ≡ true
  dealt : l.dealt ≡ ds

-- no value is dealt there
none_dealt : (h : Hearing) (ready awaited : Bool) (v : Data) → is_watching h ≡ true → ready ≡ true → (taking h ready awaited v).dealt ≡ false
none_dealt hearing.Monitor true awaited v w r = refl
none_dealt hearing.Monitor false awaited v w r = cc r
none_dealt hearing.Nothing ready awaited v w r = cc w
none_dealt hearing.Pushes ready awaited v w r = cc w
none_dealt hearing.Messages ready awaited v w r = cc w

-- so a value leaves it, whose setups started as they are to
record Keeps (ds : List Data) (l : Ledger) : Type 0 where
  done : IsDone ds l
  are : AreSetups l

done_value : (ds : List Data) → ValueKeeps (Keeps ds)
done_value ds l v h =
    let m : Ledger = value_came l v in
    let t = taking_of l v in
    let n : Ledger = record l { notices = l.notices ++ heard_at l t.told; strange = t.ends } in
    record {
      done = record {
        asked = holds_came (λ (x : Ledger). x.asked ≡ true) l m (value_is l v) (λ rest odd told more. h.done.asked);
        watching = holds_came (λ (x : Ledger). is_watching x.hearing ≡ true) l m (value_is l v) (λ rest odd told more. h.done.watching);
        ready = set_stays l m (value_is l v) h.are h.done.ready;
        dealt = chosen (λ (x : Ledger). x.dealt ≡ ds) l.strange l (value_by l t v) (λ e. h.done.dealt)
            (λ e. chosen (λ (x : Ledger). x.dealt ≡ ds) t.dealt (items_came n (v ∷ [])) n
            (λ d. absurd (not_both t.dealt (none_dealt l.hearing (is_set_up l) (is_awaiting l) v h.done.watching h.done.ready) d)) (λ d. h.done.dealt));
      };
      are = holds_came AreSetups l m (value_is l v) (λ rest odd told more. h.are);
    }

-- so with any news
news_done : (ds : List Data) (l : Ledger) (turn : ℕ) (news : News) → AreSetups l → IsDone ds l → IsDone ds (with_news l turn news)
news_done ds l turn silence are h = h
news_done ds l turn connected are h = chosen (IsDone ds) (is_over l) l (record l { up = true }) (λ t. h) (λ e. record { asked = h.asked; watching = h.watching; ready = h.ready; dealt = h.dealt })
news_done ds l turn (refused f) are h = chosen (IsDone ds) (dials l) (refused_in l turn (error.Io f)) l (λ t. record { asked = h.asked; watching = h.watching; ready = h.ready; dealt = h.dealt }) (λ e. h)
news_done ds l turn overdue are h = h
news_done ds l turn (took count) are h = chosen (IsDone ds) l.up (record l { taken = l.taken ++ take count l.offer; offer = [] }) l (λ t. record { asked = h.asked; watching = h.watching; ready = h.ready; dealt = h.dealt }) (λ e. h)
news_done ds l turn (came piece) are h = chosen (IsDone ds) l.up (bytes_came l piece) l
    (λ t. (bytes_keep (Keeps ds) (done_value ds) l piece (record { done = record { asked = h.asked; watching = h.watching; ready = h.ready; dealt = h.dealt }; are = are })).done) (λ e. h)
news_done ds l turn (failed f) are h = h
news_done ds l turn (authorized c) are h = chosen (IsDone ds) (awaits_credentials l) (authorized_by l c) l (λ t. absurd (awaits_unset l t h.ready)) (λ e. h)
news_done ds l turn (denied text) are h = h
news_done ds l turn deserted are h = h
news_done ds l turn (renewed c) are h = chosen (IsDone ds) (may_renew l) (renewed_by l c) l (λ t. record { asked = h.asked; watching = h.watching; ready = h.ready; dealt = h.dealt }) (λ e. h)
news_done ds l turn unrenewed are h = chosen (IsDone ds) l.up (unrenewed_by l) l (λ t. record { asked = h.asked; watching = h.watching; ready = h.ready; dealt = h.dealt }) (λ e. h)
news_done ds l turn (late k) are h = chosen (IsDone ds) (l.up && is_renewal_open l k) (lost_by l) l (λ t. record { asked = h.asked; watching = h.watching; ready = h.ready; dealt = h.dealt }) (λ e. h)
news_done ds l turn unrepeated are h = chosen (IsDone ds) (is_repeating l) (unrepeated_by l) l (λ t. record { asked = h.asked; watching = h.watching; ready = h.ready; dealt = h.dealt }) (λ e. h)
news_done ds l turn dropped are h = h
news_done ds l turn shut are h = h

-- and with each action that may stand
done_kept : (b : Book) (l : ℕ) (ds : List Data) (a : Action) → MayStand b a → Sound b → IsDone ds (b.link l) → IsDone ds ((entered b a).link l)
done_kept b l ds (action.Turn k (cause.Opening config word)) may s h = h
done_kept b l ds (action.Turn k (cause.Event e)) may s h = let m = news_done ds (b.link l) k (news_of b.timers b.sources l e.kind) (s.shaped l).are h in record { asked = m.asked; watching = m.watching; ready = m.ready; dealt = m.dealt }
done_kept b l ds (action.Connect m host port) may s h = mine_keeps (IsDone ds) (m == l) (b.link l) (asks (info_in b.config) (wanted_in b.config) (hearing_in b.config) (is_last (settings_in b.config) b.attempt) (repeats_in (settings_in b.config) b.tracked))
    (λ t. let same : m ≡ l = eq_from m l t in let next : m ≡ b.links = may.next in absurd (not_both (b.link l).asked (s.links.unasked l (omega (arith, same, next))).0 h.asked)) h
done_kept b l ds (action.Timer t ms what) may s h = timer_tells (IsDone ds) (b.link l) l what (λ on k is e. record { asked = h.asked; watching = h.watching; ready = h.ready; dealt = h.dealt }) (λ on is e. record { asked = h.asked; watching = h.watching; ready = h.ready; dealt = h.dealt }) h
done_kept b l ds (action.Took who m count) may s h = h
done_kept b l ds (action.Push m info) may s h = push_keeps (IsDone ds) (m == l) info.kind (b.link l) (record { asked = h.asked; watching = h.watching; ready = h.ready; dealt = h.dealt }) (record { asked = h.asked; watching = h.watching; ready = h.ready; dealt = h.dealt }) h
done_kept b l ds (action.Message msg) may s h = tell_keeps (IsDone ds) (b.current == l) (b.link l) (record { asked = h.asked; watching = h.watching; ready = h.ready; dealt = h.dealt }) h
done_kept b l ds (action.Monitor v) may s h = tell_keeps (IsDone ds) (b.current == l) (b.link l) (record { asked = h.asked; watching = h.watching; ready = h.ready; dealt = h.dealt }) h
done_kept b l ds (action.NeedCreds c m) may s h = mine_keeps (IsDone ds) (m == l) (b.link l) sources (λ t. record { asked = h.asked; watching = h.watching; ready = h.ready; dealt = h.dealt }) h
done_kept b l ds (action.Generation g) may s h = h
done_kept b l ds (action.Round who m) may s h = h
done_kept b l ds (action.Close m) may s h = mine_keeps (IsDone ds) (m == l) (b.link l) (ends (b.turns - 1)) (λ t. record { asked = h.asked; watching = h.watching; ready = h.ready; dealt = h.dealt }) h
done_kept b l ds (action.Write m bytes) may s h = mine_keeps (IsDone ds) (m == l) (b.link l) (offers bytes) (λ t. record { asked = h.asked; watching = h.watching; ready = h.ready; dealt = h.dealt }) h
done_kept b l ds (action.Wait who kind) may s h = h
done_kept b l ds (action.Start m k owner.Setup count len) may s h = mine_keeps (IsDone ds) (m == l) (b.link l) (begins (message_of b m owner.Setup))
    (λ t. absurd (set_is_undue (b.link m) may.k (subst (λ j. is_set_up (b.link j) ≡ true) (sym (eq_from m l t)) h.ready) may.due)) h
done_kept b l ds (action.Start m k owner.Resub count len) may s h = mine_keeps (IsDone ds) (m == l) (b.link l) (begins (message_of b m owner.Resub)) (λ t. record { asked = h.asked; watching = h.watching; ready = set_begins (b.link l) (message_of b m owner.Resub) refl h.ready; dealt = h.dealt }) h
done_kept b l ds (action.Start m k owner.Monitor count len) may s h = mine_keeps (IsDone ds) (m == l) (b.link l) (begins (message_of b m owner.Monitor)) (λ t. record { asked = h.asked; watching = h.watching; ready = set_begins (b.link l) (message_of b m owner.Monitor) refl h.ready; dealt = h.dealt }) h
done_kept b l ds (action.Start m k owner.Auth count len) may s h = mine_keeps (IsDone ds) (m == l) (b.link l) (begins (message_of b m owner.Auth)) (λ t. record { asked = h.asked; watching = h.watching; ready = set_begins (b.link l) (message_of b m owner.Auth) refl h.ready; dealt = h.dealt }) h
done_kept b l ds (action.Start m k (owner.Try n round) count len) may s h = mine_keeps (IsDone ds) (m == l) (b.link l) (begins (message_of b m (owner.Try n round))) (λ t. record { asked = h.asked; watching = h.watching; ready = set_begins (b.link l) (message_of b m (owner.Try n round)) refl h.ready; dealt = h.dealt }) h
done_kept b l ds (action.Created e) may s h = h
done_kept b l ds (action.Outcome n o) may s h = h

-- and with many
each_done : (b : Book) (l : ℕ) (ds : List Data) (more : List Action) → AllStand b more → Sound b → IsDone ds (b.link l) → IsDone ds ((entered_each b more).link l)
each_done b l ds [] all s h = h
each_done b l ds (a ∷ more) all s h = each_done (entered b a) l ds more all.1 (stays_sound b a all.0 s) (done_kept b l ds a all.0 s h)

-- so a legal trace deals nothing behind the answer
answers_first : (config : Config) (word : ℕ) (events : List Event) (trace : List Action) → Legal config word events trace → AnswersFirst config trace
answers_first config word events trace h front more l watching is asked set =
    set_watches ((book front).link l) (ap is_watching (asked_hears config word events front more l (subst (Legal config word events) is h) asked) ∙ watching) set

deals_no_more : (config : Config) (word : ℕ) (events : List Event) (trace : List Action) → Legal config word events trace → DealsNoMore config trace
unfolding book
deals_no_more config word events trace h front middle more l watching is asked set =
    let legal : Legal config word events (front ++ (middle ++ more)) = subst (Legal config word events) is h in
    let all : AllStand blank_book front = stand_front blank_book front (middle ++ more) legal.each in
    let behind : AllStand (book front) middle = stand_front (book front) middle more (stand_behind blank_book front (middle ++ more) legal.each) in
    let heard : is_watching ((book front).link l).hearing ≡ true = ap is_watching (asked_hears config word events front (middle ++ more) l legal asked) ∙ watching in
    ap (λ (b : Book). (b.link l).dealt) (book_append front middle)
    ∙ (each_done (book front) l ((book front).link l).dealt middle behind (sound_behind front all) (record { asked = asked; watching = heard; ready = set; dealt = refl })).dealt

-- where none of some starts is MONITOR, each is another
none_among : (ss : List Start) (n k : ℕ) (s : Start) → monitor_among ss n ≡ None → slice_get ss k ≡ Some s → is_of_monitor s.owner ≡ false
none_among [] n k s none e = cc
none_among (x ∷ ss) n zero s none e = by_test (is_of_monitor x.owner) (is_of_monitor s.owner ≡ false)
    (λ t. absurd (not_none (monitor_among (x ∷ ss) n) n none (taken_if (is_of_monitor x.owner) (Some n) (monitor_among ss (suc n)) t)))
    (λ f. ap (λ (y : Start). is_of_monitor y.owner) (sym (same_some x s e)) ∙ f)
none_among (x ∷ ss) n (suc k) s none e = by_test (is_of_monitor x.owner) (is_of_monitor s.owner ≡ false)
    (λ t. absurd (not_none (monitor_among (x ∷ ss) n) n none (taken_if (is_of_monitor x.owner) (Some n) (monitor_among ss (suc n)) t)))
    (λ f. none_among ss (suc n) k s (sym (left_if (is_of_monitor x.owner) (Some n) (monitor_among ss (suc n)) f) ∙ none) e)

-- where MONITOR may start
watched_once : (config : Config) (word : ℕ) (events : List Event) (trace : List Action) → Legal config word events trace → WatchesOnce config trace
watched_once config word events trace h front more (action.Start m k owner.Monitor count len) l is watches =
    let a : Action = action.Start m k owner.Monitor count len in
    let legal : Legal config word events (front ++ a ∷ more) = subst (Legal config word events) is h in
    let sound : Sound (book front) = sound_behind front (stand_front blank_book front (a ∷ more) legal.each) in
    let due : monitor_due ((book front).link l) ≡ true = subst (λ j. monitor_due ((book front).link j) ≡ true) watches (next_may config word events front more a legal).due in
    let x : Ledger = (book front).link l in
    record {
      watching = sym (ap is_watching (asked_hears config word events front (a ∷ more) l legal (up_is_asked (book front) l sound.links (watch_is_up x due)))) ∙ watch_is_heard x due;
      greeted = watch_is_greeted x due;
      new = λ j s stands. none_among x.starts 0 j s (watch_is_new x due) stands;
    }
watched_once config word events trace h front more _ l is watches = absurd watches

-- a session of which a monitor hears is one
kind_is_monitor : (of_kind : SessionKind) (heard : Bool) → is_watching (kind_hears of_kind heard) ≡ true → of_kind ≡ kind.Monitor
kind_is_monitor kind.Monitor heard e = refl
kind_is_monitor kind.PubSub heard e = cc
kind_is_monitor (kind.Manager lazy) true e = cc
kind_is_monitor (kind.Manager lazy) false e = cc
kind_is_monitor kind.Single true e = cc
kind_is_monitor kind.Single false e = cc

-- nothing was submitted to a monitor
abbrev NoneSubmitted : Book → Type 0
NoneSubmitted b = kind_in b.config ≡ kind.Monitor → b.submissions ≡ 0

-- so an event leaves it, which isn't bad
event_submits : (b : Book) (e : EventKind) → is_bad_event b e ≡ false → kind_in b.config ≡ kind.Monitor → submitted_by e ≡ 0
unfolding is_bad_event
event_submits b (event.Submit what) good is = absurd (not_both (has_no_form (kind_in b.config) what) good (ap (λ of_kind. has_no_form of_kind what) is))
event_submits b _ good is = refl

none_submitted : (b : Book) (a : Action) → MayStand b a → Sound b → NoneSubmitted b → NoneSubmitted (entered b a)
none_submitted b (action.Turn k (cause.Opening config word)) may s h = λ is. let start : b.turns ≡ 0 = may.is_for in s.opens.none_yet (omega (arith, start))
none_submitted b (action.Turn k (cause.Event e)) may s h = λ is. let none : b.submissions ≡ 0 = h is in let more : submitted_by e.kind ≡ 0 = event_submits b e.kind may.is_for.2 is in omega (arith, none, more)
none_submitted b (action.Connect l host port) may s h = h
none_submitted b (action.Timer t ms what) may s h = h
none_submitted b (action.Took who l count) may s h = h
none_submitted b (action.Push l info) may s h = h
none_submitted b (action.Message msg) may s h = h
none_submitted b (action.Monitor v) may s h = h
none_submitted b (action.NeedCreds c l) may s h = h
none_submitted b (action.Generation g) may s h = h
none_submitted b (action.Round who l) may s h = h
none_submitted b (action.Close l) may s h = h
none_submitted b (action.Write l bytes) may s h = h
none_submitted b (action.Wait who kind) may s h = h
none_submitted b (action.Start l k who count len) may s h = h
none_submitted b (action.Created e) may s h = h
none_submitted b (action.Outcome n o) may s h = h

each_unsubmitted : (b : Book) (more : List Action) → AllStand b more → Sound b → NoneSubmitted b → NoneSubmitted (entered_each b more)
each_unsubmitted b [] all s h = h
each_unsubmitted b (a ∷ more) all s h = each_unsubmitted (entered b a) more all.1 (stays_sound b a all.0 s) (none_submitted b a all.0 s h)

submits_nothing : (config : Config) (word : ℕ) (events : List Event) (trace : List Action) → Legal config word events trace → SubmitsNothing config trace
unfolding book
submits_nothing config word events trace h watching =
    let sound : Sound (book trace) = sound_behind trace h.each in
    let ready = ready_behind config word events trace [] (subst (Legal config word events) (sym (append-nil trace)) h) in
    let configured : (book trace).config ≡ Some config = ready.configured (applied_began (book trace) sound h.settled.written.moved.begun.applied) in
    each_unsubmitted blank_book trace h.each blank_is_sound (λ is. refl) (ap kind_in configured ∙ kind_is_monitor (kind_of config) (wants_pushes config) watching)

pub tells_reports : (config : Config) (word : ℕ) (events : List Event) (trace : List Action) → Legal config word events trace → TellsReports config trace
tells_reports config word events trace h = record {
  starts = watched_once config word events trace h;
  submits = submits_nothing config word events trace h;
  told = tells_what_came config word events trace h;
  answered = answers_first config word events trace h;
  undealt = deals_no_more config word events trace h;
}
