-- What a push that is told does to ledgers, and where pushes wait that aren't told.
use Rattle.std.proofs.Common.{◌≡◌, ℕ, zero, suc, ◌+◌, ◌==◌, ◌-◌, Bool, true, false, ◌&&◌, List, [], ◌∷◌, ◌++◌, take, Option, Some, None, is_some, if◌then◌else◌, refl, ap, subst, arith}
use Rattle.std.specs.Prelude.{slice_get}
use Rattle.containers.proofs.Choices.{chosen}
use Rattle.redis_error.specs.declared.redis_error.RedisError.TheVariants as error
use Rattle.driver_model.specs.Push.{is_disconnection}
use Rattle.driver_model.specs.declared.push_info.PushInfo.{PushInfo}
use Rattle.driver_model.specs.declared.action.Action.{Action}
use Rattle.driver_model.specs.declared.action.Action.TheVariants as action
use Rattle.driver_model.specs.declared.action.Cause.TheVariants as cause
use Rattle.driver_model.specs.declared.action.Owner.TheVariants as owner
use Rattle.driver_model.specs.News.{News, silence, connected, refused, overdue, took, came, failed, dropped, shut, news_of, authorized, denied, deserted, renewed, unrenewed, late, unrepeated}
use Rattle.legal_trace.specs.Ledger.{Ledger, Heard, asks, begins, offers, tells, ends, parts, noted, with_news, refused_in, bytes_came, is_over, dials, next_notice, MayNote, sources, awaits_credentials, authorized_by, may_renew, renewed_by, unrenewed_by, is_renewal_open, lost_by, is_repeating, unrepeated_by}
use Rattle.legal_trace.specs.Managers.{settings_in, is_last}
use Rattle.legal_trace.specs.Book.{Book, entered, push_line, info_in, message_of, wanted_in, hearing_in}
use Rattle.legal_trace.specs.Legal.{MayStand, MayPush, MayPushBy, is_heard}
use Rattle.legal_trace.specs.Again.{repeats_in}
use Rattle.legal_trace.proofs.Clocks.{timer_tells}
use Rattle.legal_trace.proofs.Ledgers.{mine_keeps}
use Rattle.legal_trace.proofs.Plain.{not_none}
use Rattle.legal_trace.proofs.Came.{holds_bytes}
use Rattle.legal_laws.proofs.Links.Opens.{StillAtFirst}
use Rattle.legal_laws.proofs.Notices.Pushed.{push_keeps, tell_keeps}

-- a push that may be told is a line that may stand
push_may_by : (b : Book) (l : ℕ) (info : PushInfo) (disconnects : Bool) → MayPushBy disconnects b l info → MayNote (b.link l) (if disconnects then parts else tells)
push_may_by b l info true may = (may.ended, may.once)
push_may_by b l info false may = ap is_some may.next

pub push_may : (b : Book) (l : ℕ) (info : PushInfo) → MayPush b l info → MayNote (b.link l) (push_line info.kind)
push_may b l info may = push_may_by b l info (is_disconnection info.kind) may

-- what is never some is none
pub none_unless : {X : Type 0} (o : Option X) → ((x : X) → o ≡ Some x → ⊥) → o ≡ None
none_unless None never = refl
none_unless (Some x) never = absurd (never x refl)

-- where one of a list stands, so does the one before it
one_before : (hs : List Heard) (k : ℕ) (h : Heard) → slice_get hs (k + 1) ≡ Some h → (g : Heard) × (slice_get hs k ≡ Some g)
one_before [] k h e = absurd (cc e)
one_before (x ∷ hs) zero h e = (x, refl)
one_before (x ∷ hs) (suc k) h e = let more : suc k + 1 ≡ suc (k + 1) = omega arith in one_before hs k h (subst (λ n. slice_get (x ∷ hs) n ≡ Some h) more e)

-- a link of which something waits to be told is up
abbrev pub Waits : Ledger → Type 0
Waits l = (p : Heard) → next_notice l ≡ Some p → l.up ≡ true

-- so with any news
waits_hears : (l : Ledger) (turn : ℕ) (news : News) → Waits l → Waits (with_news l turn news)
waits_hears l turn silence h = h
waits_hears l turn connected h = chosen Waits (is_over l) l (record l { up = true }) (λ t. h) (λ e p next. refl)
waits_hears l turn (refused f) h = chosen Waits (dials l) (refused_in l turn (error.Io f)) l (λ t. h) (λ e. h)
waits_hears l turn overdue h = h
waits_hears l turn (took count) h = chosen Waits l.up (record l { taken = l.taken ++ take count l.offer; offer = [] }) l (λ t. h) (λ e. h)
waits_hears l turn (came piece) h = chosen Waits l.up (bytes_came l piece) l (λ t. holds_bytes Waits l piece (λ rest strange told more p next. t)) (λ e. h)
waits_hears l turn (failed f) h = h
waits_hears l turn (authorized c) h = chosen Waits (awaits_credentials l) (authorized_by l c) l (λ t. h) (λ e. h)
waits_hears l turn (denied text) h = h
waits_hears l turn deserted h = h
waits_hears l turn (renewed c) h = chosen Waits (may_renew l) (renewed_by l c) l (λ t. h) (λ e. h)
waits_hears l turn unrenewed h = chosen Waits l.up (unrenewed_by l) l (λ t. h) (λ e. h)
waits_hears l turn (late k) h = chosen Waits (l.up && is_renewal_open l k) (lost_by l) l (λ t. h) (λ e. h)
waits_hears l turn unrepeated h = chosen Waits (is_repeating l) (unrepeated_by l) l (λ t. h) (λ e. h)
waits_hears l turn dropped h = h
waits_hears l turn shut h = h

-- and where one is told
waits_tells : (l : Ledger) → Waits l → Waits (noted l tells)
waits_tells l h p next = let first = one_before l.notices l.told p next in h first.0 first.1

-- so of each link, where it is heard
abbrev pub NoticesWait : Book → Type 0
NoticesWait b = (l : ℕ) → is_heard b ≡ true → Waits (b.link l)

-- each action that may stand keeps it
pub waits_kept : (b : Book) (a : Action) → MayStand b a → StillAtFirst b.turns b.link → NoticesWait b → NoticesWait (entered b a)
waits_kept b (action.Turn k (cause.Opening config word)) may still h = λ l heard p next.
    let none : b.turns ≡ 0 = may.is_for in
    absurd (not_none (next_notice (b.link l)) p (ap (λ (hs : List Heard). slice_get hs (b.link l).told) (still (omega (arith, none)) l).mute) next)
waits_kept b (action.Turn k (cause.Event e)) may still h = λ l heard. waits_hears (b.link l) k (news_of b.timers b.sources l e.kind) (h l heard)
waits_kept b (action.Connect m host port) may still h = λ l heard. mine_keeps Waits (m == l) (b.link l) (asks (info_in b.config) (wanted_in b.config) (hearing_in b.config) (is_last (settings_in b.config) b.attempt) (repeats_in (settings_in b.config) b.tracked)) (λ t. h l heard) (h l heard)
waits_kept b (action.Timer t ms what) may still h = λ l heard. timer_tells Waits (b.link l) l what (λ on k is t. h l heard) (λ on is t. h l heard) (h l heard)
waits_kept b (action.Took owner.Setup m count) may still h = absurd may
waits_kept b (action.Took owner.Auth m count) may still h = absurd may
waits_kept b (action.Took owner.Resub m count) may still h = absurd may
waits_kept b (action.Took owner.Monitor m count) may still h = absurd may
waits_kept b (action.Took (owner.Try n round) m count) may still h = h
waits_kept b (action.Push m info) may still h = λ l heard. push_keeps Waits (m == l) info.kind (b.link l) (waits_tells (b.link l) (h l heard)) (h l heard) (h l heard)
waits_kept b (action.Message msg) may still h = λ l heard. tell_keeps Waits (b.current == l) (b.link l) (waits_tells (b.link l) (h l heard)) (h l heard)
waits_kept b (action.Monitor v) may still h = λ l heard. tell_keeps Waits (b.current == l) (b.link l) (waits_tells (b.link l) (h l heard)) (h l heard)
waits_kept b (action.NeedCreds c m) may still h = λ l heard. mine_keeps Waits (m == l) (b.link l) sources (λ t. h l heard) (h l heard)
waits_kept b (action.Generation g) may still h = h
waits_kept b (action.Round who m) may still h = h
waits_kept b (action.Close m) may still h = λ l heard. mine_keeps Waits (m == l) (b.link l) (ends (b.turns - 1)) (λ t p next. absurd (not_none (next_notice (b.link l)) p (may.pushed l heard) next)) (h l heard)
waits_kept b (action.Write m bytes) may still h = λ l heard. mine_keeps Waits (m == l) (b.link l) (offers bytes) (λ t. h l heard) (h l heard)
waits_kept b (action.Wait owner.Setup kind) may still h = absurd may
waits_kept b (action.Wait owner.Auth kind) may still h = absurd may
waits_kept b (action.Wait owner.Resub kind) may still h = absurd may
waits_kept b (action.Wait owner.Monitor kind) may still h = absurd may
waits_kept b (action.Wait (owner.Try n round) kind) may still h = h
waits_kept b (action.Start m k owner.Setup count len) may still h = λ l heard. mine_keeps Waits (m == l) (b.link l) (begins (message_of b m owner.Setup)) (λ t. h l heard) (h l heard)
waits_kept b (action.Start m k owner.Auth count len) may still h = λ l heard. mine_keeps Waits (m == l) (b.link l) (begins (message_of b m owner.Auth)) (λ t. h l heard) (h l heard)
waits_kept b (action.Start m k owner.Resub count len) may still h = λ l heard. mine_keeps Waits (m == l) (b.link l) (begins (message_of b m owner.Resub)) (λ t. h l heard) (h l heard)
waits_kept b (action.Start m k owner.Monitor count len) may still h = λ l heard. mine_keeps Waits (m == l) (b.link l) (begins (message_of b m owner.Monitor)) (λ t. h l heard) (h l heard)
waits_kept b (action.Start m k (owner.Try n round) count len) may still h = λ l heard. mine_keeps Waits (m == l) (b.link l) (begins (message_of b m (owner.Try n round))) (λ t. h l heard) (h l heard)
waits_kept b (action.Created e) may still h = h
waits_kept b (action.Outcome n o) may still h = h
