-- What every link hears of a shutdown.
use Rattle.std.proofs.Common.{◌≡◌, ℕ, ◌-◌, ◌==◌, nat_lt, Bool, true, false, ◌&&◌, ◌||◌, not, Option, Some, None, is_some, is_none, if◌then◌else◌, refl, sym, ◌∙◌, ap}
use Rattle.std.proofs.lemmas.Bool.{not-true}
use Rattle.containers.proofs.Choices.{by_test, chosen, taken_if, lt_from, not_lt_from, not_both, both_right}
use Rattle.redis_error.specs.declared.redis_error.RedisError.{RedisError}
use Rattle.driver_model.specs.declared.action.Action.{Action}
use Rattle.driver_model.specs.declared.action.Action.TheVariants as action
use Rattle.driver_model.specs.declared.action.Cause.TheVariants as cause
use Rattle.driver_model.specs.declared.action.Owner.TheVariants as owner
use Rattle.driver_model.specs.declared.event.EventKind.{EventKind}
use Rattle.driver_model.specs.declared.event.EventKind.TheVariants as event
use Rattle.driver_model.specs.News.{News, shut, news_of}
use Rattle.legal_trace.specs.Ledger.{Ledger, End, Ending, by_shutdown, hears, begins, offers, ends, noted, is_set_up, setup_result, error_in, ending, ending_up, ending_by, ending_unready, ending_alive, ending_asked, sources}
use Rattle.legal_trace.specs.Book.{Book, entered, has_generations, message_of, shuts}
use Rattle.legal_trace.specs.Legal.{MayStand, NoneEnds, current_link, link_due}
use Rattle.legal_trace.proofs.Clocks.{timer_tells}
use Rattle.legal_trace.proofs.Ledgers.{mine_keeps, hears_past}
use Rattle.legal_trace.proofs.Plain.{not_none}
use Rattle.legal_laws.proofs.Links.Opens.{IsOpening, due_has_no_link}
use Rattle.legal_laws.proofs.Notices.Pushed.{push_keeps, tell_keeps}

-- a link that was asked for and has not ended was told of the shutdown by the turn that runs
abbrev pub HearsShut : Ledger → Type 0
HearsShut l = l.asked ≡ true → l.end ≡ None → l.heard ≡ shut

-- where everything was shut down, so it is for each link
abbrev pub ShutIsHeard : Bool → (ℕ → Ledger) → Type 0
ShutIsHeard is_shut link = is_shut ≡ true → (l : ℕ) → HearsShut (link l)

-- a setup that failed ends it, and what else does
by_error : (failed : Option RedisError) (other : Option Ending) → other ≡ Some by_shutdown → ending_by failed other ≡ None → ⊥
by_error None other s none = not_none other by_shutdown none s
by_error (Some e) other s none = cc none

-- a link that is up ends where it hears of the shutdown
alive_ends : (l : Ledger) → l.heard ≡ shut → ending_alive l ≡ None → ⊥
alive_ends l h = chosen (λ (o : Option Ending). o ≡ None → ⊥) (is_set_up l) (ending_up l l.heard) (ending_by (error_in (setup_result l)) (ending_unready l l.heard))
    (λ t none. not_none (ending_up l l.heard) by_shutdown none (ap (ending_up l) h))
    (λ f. by_error (error_in (setup_result l)) (ending_unready l l.heard) (ap (ending_unready l) h))

-- whether it is up or asked for, the shutdown ends it
ends_by_shutdown : (l : Ledger) (up asked : Bool) (end : Option End) (alive : Option Ending) → asked ≡ true → end ≡ None → (alive ≡ None → ⊥) → (if up then alive else (if asked && not (is_some end) then ending_asked l shut else None)) ≡ None → ⊥
ends_by_shutdown l true asked end alive a e s none = s none
ends_by_shutdown l false true None alive a e s none = cc none
ends_by_shutdown l false true (Some end) alive a e s none = cc e
ends_by_shutdown l false false end alive a e s none = cc a

-- it must end
pub shut_ends : (l : Ledger) → l.asked ≡ true → l.end ≡ None → l.heard ≡ shut → ending l ≡ None → ⊥
shut_ends l a e h none = ends_by_shutdown l l.up l.asked l.end (ending_alive l) a e (alive_ends l h)
    (sym (ap (λ (x : News). if l.up then ending_alive l else (if l.asked && not (is_some l.end) then ending_asked l x else None)) h) ∙ none)

-- so that once all that must end have ended, no link is left
pub none_left : (b : Book) → NoneEnds b → ShutIsHeard b.shut b.link → b.shut ≡ true → (l : ℕ) → (b.link l).asked ≡ true → (b.link l).end ≡ None → ⊥
none_left b none h s l a e = shut_ends (b.link l) a e (h s l a e) (none l)

-- what doesn't shut down leaves it as it was
was_shut : (s : Bool) → (s || false) ≡ true → s ≡ true
was_shut true e = refl
was_shut false e = e

-- and none comes by news
still_none : (b : Book) (turn : ℕ) (x : News) (l : ℕ) → NoneEnds b → ShutIsHeard b.shut b.link → (b.shut || false) ≡ true → HearsShut (noted (b.link l) (hears turn x))
still_none b turn x l none h s a e = absurd (none_left b none h (was_shut b.shut s) l (sym (hears_past (b.link l) turn x).asked ∙ a) ((hears_past (b.link l) turn x).end e))

-- each event leaves it so
turn_heard : (b : Book) (turn : ℕ) (kind : EventKind) → NoneEnds b → ShutIsHeard b.shut b.link → ShutIsHeard (b.shut || shuts kind) (λ l. noted (b.link l) (hears turn (news_of b.timers b.sources l kind)))
turn_heard b turn event.DropStream none h = λ s l. still_none b turn (news_of b.timers b.sources l event.DropStream) l none h s
turn_heard b turn event.Shutdown none h = λ s l a e. refl
turn_heard b turn (event.Submit what) none h = λ s l. still_none b turn (news_of b.timers b.sources l (event.Submit what)) l none h s
turn_heard b turn (event.Cancel n) none h = λ s l. still_none b turn (news_of b.timers b.sources l (event.Cancel n)) l none h s
turn_heard b turn (event.Connected m) none h = λ s l. still_none b turn (news_of b.timers b.sources l (event.Connected m)) l none h s
turn_heard b turn (event.Refused m f) none h = λ s l. still_none b turn (news_of b.timers b.sources l (event.Refused m f)) l none h s
turn_heard b turn (event.Fired t) none h = λ s l. still_none b turn (news_of b.timers b.sources l (event.Fired t)) l none h s
turn_heard b turn (event.Timeout ms) none h = λ s l. still_none b turn (news_of b.timers b.sources l (event.Timeout ms)) l none h s
turn_heard b turn (event.Creds c auth) none h = λ s l. still_none b turn (news_of b.timers b.sources l (event.Creds c auth)) l none h s
turn_heard b turn (event.CredsError c text) none h = λ s l. still_none b turn (news_of b.timers b.sources l (event.CredsError c text)) l none h s
turn_heard b turn (event.CredsEnd c) none h = λ s l. still_none b turn (news_of b.timers b.sources l (event.CredsEnd c)) l none h s
turn_heard b turn (event.Wrote m count) none h = λ s l. still_none b turn (news_of b.timers b.sources l (event.Wrote m count)) l none h s
turn_heard b turn (event.Bytes m piece) none h = λ s l. still_none b turn (news_of b.timers b.sources l (event.Bytes m piece)) l none h s
turn_heard b turn (event.Ended m) none h = λ s l. still_none b turn (news_of b.timers b.sources l (event.Ended m)) l none h s
turn_heard b turn (event.ReadFault m kind) none h = λ s l. still_none b turn (news_of b.timers b.sources l (event.ReadFault m kind)) l none h s
turn_heard b turn (event.WriteFault m kind) none h = λ s l. still_none b turn (news_of b.timers b.sources l (event.WriteFault m kind)) l none h s

-- where a link is to be asked for, nothing was shut down
pub connect_is_open : (b : Book) → IsOpening b → link_due b ≡ true → b.shut ≡ false
connect_is_open b opening due = by_test (has_generations b) (b.shut ≡ false)
    (λ has. let all = sym (taken_if (has_generations b) (nat_lt 0 b.generation && (not (current_link b).asked && (is_none b.rest && not b.shut))) (b.links == 0) has) ∙ due in
    not-true b.shut (both_right (is_none b.rest) (not b.shut) (both_right (not (current_link b).asked) (is_none b.rest && not b.shut) (both_right (nat_lt 0 b.generation) (not (current_link b).asked && (is_none b.rest && not b.shut)) all))))
    (λ plain. let none : b.links ≡ 0 = due_has_no_link b due plain in
    by_test (nat_lt 1 b.turns) (b.shut ≡ false)
    (λ later. absurd (opening.asked (lt_from 1 b.turns later) plain none))
    (λ early. opening.not_shut (not_lt_from 1 b.turns early)))

-- it stays so
pub shut_kept : (b : Book) (a : Action) → MayStand b a → IsOpening b → ShutIsHeard b.shut b.link → ShutIsHeard (entered b a).shut (entered b a).link
shut_kept b (action.Turn k (cause.Opening config word)) may opening h = h
shut_kept b (action.Turn k (cause.Event e)) may opening h = turn_heard b k e.kind may.is_for.1.written.moved.begun.applied.shown.ended h
shut_kept b (action.Connect m host port) may opening h = λ s. absurd (not_both b.shut (connect_is_open b opening may.due) s)
shut_kept b (action.Timer t ms what) may opening h = λ s l. timer_tells HearsShut (b.link l) l what (λ on k is t. h s l) (λ on is t. h s l) (h s l)
shut_kept b (action.Took owner.Setup l count) may opening h = absurd may
shut_kept b (action.Took owner.Auth l count) may opening h = absurd may
shut_kept b (action.Took owner.Resub l count) may opening h = absurd may
shut_kept b (action.Took owner.Monitor l count) may opening h = absurd may
shut_kept b (action.Took (owner.Try n round) l count) may opening h = h
shut_kept b (action.Push m info) may opening h = λ s l. push_keeps HearsShut (m == l) info.kind (b.link l) (h s l) (h s l) (h s l)
shut_kept b (action.Message msg) may opening h = λ s l. tell_keeps HearsShut (b.current == l) (b.link l) (h s l) (h s l)
shut_kept b (action.Monitor v) may opening h = λ s l. tell_keeps HearsShut (b.current == l) (b.link l) (h s l) (h s l)
shut_kept b (action.NeedCreds c m) may opening h = λ s l. mine_keeps HearsShut (m == l) (b.link l) sources (λ t. h s l) (h s l)
shut_kept b (action.Generation g) may opening h = h
shut_kept b (action.Round who m) may opening h = h
shut_kept b (action.Close m) may opening h = λ s l. mine_keeps HearsShut (m == l) (b.link l) (ends (b.turns - 1)) (λ t a e. cc) (h s l)
shut_kept b (action.Write m bytes) may opening h = λ s l. mine_keeps HearsShut (m == l) (b.link l) (offers bytes) (λ t. h s l) (h s l)
shut_kept b (action.Wait owner.Setup kind) may opening h = absurd may
shut_kept b (action.Wait owner.Auth kind) may opening h = absurd may
shut_kept b (action.Wait owner.Resub kind) may opening h = absurd may
shut_kept b (action.Wait owner.Monitor kind) may opening h = absurd may
shut_kept b (action.Wait (owner.Try n round) kind) may opening h = h
shut_kept b (action.Start m k owner.Setup count len) may opening h = λ s l. mine_keeps HearsShut (m == l) (b.link l) (begins (message_of b m owner.Setup)) (λ t. h s l) (h s l)
shut_kept b (action.Start m k owner.Auth count len) may opening h = λ s l. mine_keeps HearsShut (m == l) (b.link l) (begins (message_of b m owner.Auth)) (λ t. h s l) (h s l)
shut_kept b (action.Start m k owner.Resub count len) may opening h = λ s l. mine_keeps HearsShut (m == l) (b.link l) (begins (message_of b m owner.Resub)) (λ t. h s l) (h s l)
shut_kept b (action.Start m k owner.Monitor count len) may opening h = λ s l. mine_keeps HearsShut (m == l) (b.link l) (begins (message_of b m owner.Monitor)) (λ t. h s l) (h s l)
shut_kept b (action.Start m k (owner.Try n round) count len) may opening h = λ s l. mine_keeps HearsShut (m == l) (b.link l) (begins (message_of b m (owner.Try n round))) (λ t. h s l) (h s l)
shut_kept b (action.Created e) may opening h = h
shut_kept b (action.Outcome n o) may opening h = h
