-- In which order things are due: each action has a rank, and what comes later asks that all before it is done.
use Rattle.std.proofs.Common.{◌≡◌, ◌≢◌, ◌⊎◌, inl, inr, ℕ, zero, suc, ◌<◌, ◌≤◌, ◌==◌, nat_lt, Bool, true, false, List, [], Option, Some, None, is_some, refl, sym, ◌∙◌, subst, ap, arith}
use Rattle.containers.proofs.Choices.{by_test, eq_from, ne_from, lt_from, not_lt_from, not_both}
use Rattle.redis_error.specs.declared.redis_error.RedisError.{RedisError}
use Rattle.driver_model.specs.declared.action.Action.{Action}
use Rattle.driver_model.specs.declared.action.Action.TheVariants as action
use Rattle.driver_model.specs.declared.action.Cause.TheVariants as cause
use Rattle.driver_model.specs.declared.action.Owner.TheVariants as owner
use Rattle.driver_model.specs.declared.outcome.Outcome.{Outcome}
use Rattle.driver_model.specs.declared.action.Purpose.{Purpose}
use Rattle.driver_model.specs.declared.action.WaitKind.{WaitKind}
use Rattle.driver_model.specs.Config.{connect_timeout}
use Rattle.driver_model.specs.declared.config.Config.{Config}
use Rattle.driver_model.specs.Push.{is_disconnection}
use Rattle.driver_model.specs.declared.push_info.PushInfo.{PushInfo}
use Rattle.legal_trace.specs.Ledger.{End, Ending, by_shutdown, by_fault, by_opening, by_attempt, failure_of, failure_in, is_fault, is_cut, is_over, IsOffered, ending, next_notice, source_due, renewals_asked}
use Rattle.legal_trace.specs.Story.{Try, last_of}
use Rattle.legal_trace.specs.Managers.{settings_in, is_lazy}
use Rattle.legal_trace.specs.Book.{Book, has_generations}
use Rattle.legal_trace.specs.Steps.{is_held_back, is_renewal_held, next_step}
use Rattle.legal_trace.specs.Legal.{MayStand, MayTimer, MayNeed, MayAnswer, MayTell, MayWrite, MayWait, MayShowCreation, MayPushBy, MayNotify, IsOpen, link_of, NoneIsOwed, VerdictsAreShown, NoneEnds, FailuresAreShown, ReadyIsShown, NoticesAreTold, SourcesAreAsked, EndsAreTold, IsShown, are_pushes_heard, current_link, rest_due, generation_due, link_due, SetupsAreStarted, MonitorsAreStarted, IsTimed, IsApplied, IsBegun, IsMoved, IsWritten, IsSettled, IsStarted, IsWaiting, CanMove, RenewalsAreTimed, RenewalsAreStarted, answer_time, RepeatsAreTimed, RepeatsAreStarted}
use Rattle.legal_trace.proofs.Moves.{teller_moves, starter_moves, taker_moves, asker_moves, same_kind, ready_is_up}
use Rattle.legal_trace.proofs.Managers.{untold_settings}
use Rattle.legal_laws.proofs.Traces.Numbers.{open_is_numbered}
use Rattle.legal_laws.proofs.Links.Opens.{still_stays, applied_has_link}
use Rattle.legal_laws.proofs.Generations.Lives.{due_parts}
use Rattle.legal_laws.proofs.Links.Quiet.{failed_is_over}
use Rattle.legal_trace.specs.Owed.{owed}
use Rattle.legal_trace.proofs.Plain.{not_none}
use Rattle.legal_trace.proofs.Sources.{source_is_up}
use Rattle.legal_laws.proofs.Notices.Told.{none_unless}
use Rattle.legal_laws.proofs.Traces.Sound.{Sound}
use Rattle.legal_laws.proofs.Submissions.Rounds.{round_moves, round_begun}
use Rattle.driver_model.specs.declared.hearing.Notice.{Notice}
use Rattle.driver_model.specs.declared.hearing.Notice.TheVariants as notice

-- the outcomes that are owed: what values gave, where the link has not ended, and then the others
abbrev pub answer_rank : Bool → ℕ
answer_rank false = 2
answer_rank true = 6

-- the creation: of a session that waits for its first submission it is shown at once; that a link is ready comes before the closes,
-- and that an opening failed behind them, and before the outcomes that it gives
abbrev pub creation_rank : (b : Book) (e : Option RedisError) → MayShowCreation b e → ℕ
creation_rank b (Some e) fails = 4
creation_rank b None (inl ready) = 2
creation_rank b None (inr lazy) = 1

-- the pushes: those that came stand among the outcomes that values gave, and that a link has ended behind the closes
abbrev pub push_rank : Bool → ℕ
push_rank false = 2
push_rank true = 5

-- these come before one that is told at its place
abbrev pub outcome_rank : (b : Book) (n : ℕ) (o : Outcome) → MayAnswer b n o ⊎ MayTell b n o → ℕ
outcome_rank b n o (inl owed) = answer_rank (is_over (link_of b n))
outcome_rank b n o (inr told) = 17

-- the timer of a connect comes behind it, that of the wait behind an attempt before that, one of a submission is of the passes, and one
-- of new credentials comes before them, behind one of what is subscribed again
abbrev pub timer_rank : (b : Book) (t ms : ℕ) (what : Purpose) → MayTimer b t ms what → ℕ
timer_rank b t ms what (inl (inl connect)) = 10
timer_rank b t ms what (inl (inr rest)) = 7
timer_rank b t ms what (inr (inl response)) = 17
timer_rank b t ms what (inr (inr (inl renewal))) = 15
timer_rank b t ms what (inr (inr (inr repeat))) = 13

-- the opening, that a session which waits for it is created, the outcomes of links that have not ended, the creation, the sources of
-- credentials and what is told of what came, the closes, the creation that failed, that links have ended, the other outcomes that are
-- owed, the wait behind an attempt, the generations, the connects and their timers, the setups, MONITOR, the timers of what is subscribed
-- again, and this, the timers of new credentials, and these, the passes, the writes, the waits, and the next event
abbrev pub rank : (b : Book) (a : Action) → MayStand b a → ℕ
rank b (action.Turn k (cause.Opening config word)) may = 0
rank b (action.Connect l host port) may = 9
rank b (action.Timer t ms what) may = timer_rank b t ms what may
rank b (action.Took who l count) may = 17
rank b (action.Outcome n o) may = outcome_rank b n o may
rank b (action.Push l info) may = push_rank (is_disconnection info.kind)
rank b (action.Message msg) may = 2
rank b (action.Monitor v) may = 2
rank b (action.NeedCreds c l) may = 2
rank b (action.Generation g) may = 8
rank b (action.Round who l) may = 17
rank b (action.Close l) may = 3
rank b (action.Created e) may = creation_rank b e may
rank b (action.Start l k owner.Setup count len) may = 11
rank b (action.Start l k owner.Resub count len) may = 14
rank b (action.Start l k owner.Monitor count len) may = 12
rank b (action.Start l k owner.Auth count len) may = 16
rank b (action.Start l k (owner.Try n round) count len) may = 17
rank b (action.Write l bytes) may = 18
rank b (action.Wait who kind) may = 19
rank b (action.Turn k (cause.Event e)) may = 20

-- an outcome that is owed comes before the passes
pub answer_first : (over : Bool) → answer_rank over < 11
answer_first false = omega arith
answer_first true = omega arith

-- so does the creation
pub creation_first : (b : Book) (e : Option RedisError) (may : MayShowCreation b e) → creation_rank b e may < 11
creation_first b None (inl ready) = omega arith
creation_first b None (inr lazy) = omega arith
creation_first b (Some e) fails = omega arith

-- and a push
pub push_first : (disconnects : Bool) → push_rank disconnects < 11
push_first false = omega arith
push_first true = omega arith

-- what came from values is told: their outcomes, that a link is ready, and what else came; and all sources were asked for
pub record IsTold (b : Book) : Type 0 where
  pub answered : VerdictsAreShown b
  pub created : ReadyIsShown b
  pub sourced : SourcesAreAsked b
  pub pushed : NoticesAreTold b

-- what is done once nothing of this rank is due
abbrev pub Step : ℕ → Book → Type 0
Step zero b = b.turns ≢ 0
Step (suc zero) b = is_lazy b.config ≡ true → b.created ≢ 0
Step (suc (suc zero)) b = IsTold b
Step (suc (suc (suc zero))) b = NoneEnds b
Step (suc (suc (suc (suc zero)))) b = FailuresAreShown b
Step (suc (suc (suc (suc (suc zero))))) b = EndsAreTold b
Step (suc (suc (suc (suc (suc (suc zero)))))) b = NoneIsOwed b
Step (suc (suc (suc (suc (suc (suc (suc zero))))))) b = rest_due b ≡ false
Step (suc (suc (suc (suc (suc (suc (suc (suc zero)))))))) b = generation_due b ≡ false
Step (suc (suc (suc (suc (suc (suc (suc (suc (suc zero))))))))) b = link_due b ≡ false
Step (suc (suc (suc (suc (suc (suc (suc (suc (suc (suc zero)))))))))) b = IsTimed b
Step (suc (suc (suc (suc (suc (suc (suc (suc (suc (suc (suc zero))))))))))) b = SetupsAreStarted b
Step (suc (suc (suc (suc (suc (suc (suc (suc (suc (suc (suc (suc zero)))))))))))) b = MonitorsAreStarted b
Step (suc (suc (suc (suc (suc (suc (suc (suc (suc (suc (suc (suc (suc zero))))))))))))) b = RepeatsAreTimed b
Step (suc (suc (suc (suc (suc (suc (suc (suc (suc (suc (suc (suc (suc (suc zero)))))))))))))) b = RepeatsAreStarted b
Step (suc (suc (suc (suc (suc (suc (suc (suc (suc (suc (suc (suc (suc (suc (suc zero))))))))))))))) b = RenewalsAreTimed b
Step (suc (suc (suc (suc (suc (suc (suc (suc (suc (suc (suc (suc (suc (suc (suc (suc zero)))))))))))))))) b = RenewalsAreStarted b
Step (suc (suc (suc (suc (suc (suc (suc (suc (suc (suc (suc (suc (suc (suc (suc (suc (suc zero))))))))))))))))) b = (n : ℕ) → CanMove b n → ⊥
Step (suc (suc (suc (suc (suc (suc (suc (suc (suc (suc (suc (suc (suc (suc (suc (suc (suc (suc zero)))))))))))))))))) b = (l : ℕ) → (b.link l).up ≡ true → IsOffered (b.link l)
Step (suc (suc (suc (suc (suc (suc (suc (suc (suc (suc (suc (suc (suc (suc (suc (suc (suc (suc (suc zero))))))))))))))))))) b = (n : ℕ) → IsOpen b n → IsStarted b n ⊎ IsWaiting b n
Step (suc (suc (suc (suc (suc (suc (suc (suc (suc (suc (suc (suc (suc (suc (suc (suc (suc (suc (suc (suc more)))))))))))))))))))) b = ⊥

-- all below this rank is done
abbrev pub Reached : ℕ → Book → Type 0
Reached zero b = Unit {0}
Reached (suc k) b = Step k b × Reached k b

-- each step below the rank is
pub step_of : (b : Book) (j k : ℕ) → j < k → Reached k b → Step j b
step_of b j zero i h = absurd (omega arith)
step_of b j (suc k) i h = by_test (j == k) (Step j b)
    (λ t. subst (λ n. Step n b) (sym (eq_from j k t)) h.0)
    (λ f. let n : j ≢ k = ne_from j k f in step_of b j k (omega arith) h.1)

-- what was offered is not to be offered again
pub not_offered : (b : Book) (l : ℕ) (bytes : List ℕ) → MayWrite b l bytes → IsOffered (b.link l) → ⊥
not_offered b l bytes may h = elim h [ inl nothing ↦ may.some (may.all ∙ nothing) | inr waits ↦ waits may.answered ]

-- without a message there is no last one
not_started : (ts : List Try) (t : Try) → ts ≡ [] → last_of ts ≡ Some t → ⊥
not_started ts t none last = not_none (last_of ts) t (ap last_of none) last

-- a wait that is to be shown isn't the one that stands
pub not_shown : (b : Book) (n : ℕ) (kind : WaitKind) → MayWait b n kind → IsWaiting b n → ⊥
not_shown b n kind may w = may.new (w.shown ∙ ap Some (same_kind (next_step b n) w.kind kind w.holds may.holds))

-- so it is due
not_gone : (b : Book) (n : ℕ) (kind : WaitKind) → MayWait b n kind → IsStarted b n ⊎ IsWaiting b n → ⊥
not_gone b n kind may h = elim h [ inl s ↦ not_started (b.story n).tries s.try may.unstarted s.last | inr w ↦ not_shown b n kind may w ]

-- an outcome that is owed is due
answer_not_done : (b : Book) (n : ℕ) (o : Outcome) (over : Bool) → is_over (link_of b n) ≡ over → MayAnswer b n o → Step (answer_rank over) b → ⊥
answer_not_done b n o false e may h = not_none (owed b n) o (h.answered n may.asked e) may.owes
answer_not_done b n o true e may h = not_none (owed b n) o (h n may.asked) may.owes

-- so is any outcome that may stand
outcome_not_done : (b : Book) (n : ℕ) (o : Outcome) (may : MayAnswer b n o ⊎ MayTell b n o) → Step (outcome_rank b n o may) b → ⊥
outcome_not_done b n o (inl owes) h = answer_not_done b n o (is_over (link_of b n)) refl owes h
outcome_not_done b n o (inr told) h = h n (teller_moves b n o told)

-- the creation that may be shown is due
creation_not_done : (b : Book) (e : Option RedisError) (may : MayShowCreation b e) → Step (creation_rank b e may) b → ⊥
creation_not_done b None (inl may) h = h.created may.l may.ready may.once
creation_not_done b None (inr may) h = h (ap is_lazy may.told ∙ may.lazy) may.once
creation_not_done b (Some e) may h = h may.l e may.fails may.once

-- what may be told of what came is due
notice_not_done : (b : Book) (l : ℕ) (n : Notice) → MayNotify b l n → IsTold b → ⊥
notice_not_done b l n may h = not_none (next_notice (b.link l)) may.heard (h.pushed l may.is_heard) may.next

-- a push that may be told is due
push_not_done : (b : Book) (l : ℕ) (info : PushInfo) (disconnects : Bool) → MayPushBy disconnects b l info → Step (push_rank disconnects) b → ⊥
push_not_done b l info false may h = notice_not_done b l (notice.Push info) may h
push_not_done b l info true may h = not_both (b.link l).parted may.once (h l may.heard may.ended)

-- a timer that may be asked for is due
timer_not_done : (b : Book) (t ms : ℕ) (what : Purpose) (may : MayTimer b t ms what) → Step (timer_rank b t ms what may) b → ⊥
timer_not_done b t ms what (inl (inl may)) h =
    let all : b.timed ≡ b.links = h may.config may.told (λ none. not_none (connect_timeout may.config) ms none may.bounded) in
    let some : b.timed < b.links = may.due in
    omega (arith, all, some)
timer_not_done b t ms what (inl (inr may)) h = not_both (rest_due b) h may.due
timer_not_done b t ms what (inr (inl may)) h = h may.n (asker_moves b t ms what may)
timer_not_done b t ms what (inr (inr (inr may))) h = not_both (b.link may.l).again.timed may.once (h may.l (λ none. not_none (answer_time b.config) ms none may.within) may.due)
timer_not_done b t ms what (inr (inr (inl may))) h =
    let all : renewals_asked (b.link may.l) ≤ (b.link may.l).creds.timed = h may.l (λ none. not_none (answer_time b.config) ms none may.within) in
    let some : (b.link may.l).creds.timed < renewals_asked (b.link may.l) = may.asked in
    omega (arith, all, some)

-- where an action may stand, its rank isn't done
pub not_done : (b : Book) (a : Action) (may : MayStand b a) → Step (rank b a may) b → ⊥
not_done b (action.Turn k (cause.Opening config word)) may h = h may.is_for
not_done b (action.Connect l host port) may h = not_both (link_due b) h may.due
not_done b (action.Timer t ms what) may h = timer_not_done b t ms what may h
not_done b (action.Took owner.Setup l count) may h = absurd may
not_done b (action.Took owner.Auth l count) may h = absurd may
not_done b (action.Took owner.Resub l count) may h = absurd may
not_done b (action.Took owner.Monitor l count) may h = absurd may
not_done b (action.Took (owner.Try n round) l count) may h = h n (taker_moves b n l count may.1)
not_done b (action.Outcome n o) may h = outcome_not_done b n o may h
not_done b (action.Push l info) may h = push_not_done b l info (is_disconnection info.kind) may h
not_done b (action.Message msg) may h = notice_not_done b b.current (notice.Message msg) may h
not_done b (action.Monitor v) may h = notice_not_done b b.current (notice.Monitor v) may h
not_done b (action.NeedCreds c l) may h = not_both (source_due (b.link l)) (h.sourced l) may.due
not_done b (action.Generation g) may h = not_both (generation_due b) h may.due
not_done b (action.Round owner.Setup on) may h = absurd may
not_done b (action.Round owner.Auth on) may h = absurd may
not_done b (action.Round owner.Resub on) may h = absurd may
not_done b (action.Round owner.Monitor on) may h = absurd may
not_done b (action.Round (owner.Try n round) on) may h = h n (round_moves b n on may.1)
not_done b (action.Close l) may h = not_none (ending (b.link l)) may.why (h l) may.ends
not_done b (action.Created e) may h = creation_not_done b e may h
not_done b (action.Start l k owner.Setup count len) may h = not_both (is_held_back b (b.link l)) may.free (h l may.k may.due)
not_done b (action.Start l k owner.Resub count len) may h = not_both (is_held_back b (b.link l)) may.free (h l may.due)
not_done b (action.Start l k owner.Monitor count len) may h = not_both (is_held_back b (b.link l)) may.free (h l may.due)
not_done b (action.Start l k owner.Auth count len) may h = not_both (is_renewal_held b l) may.free (h l may.credentials may.due)
not_done b (action.Start l k (owner.Try n round) count len) may h = h n (starter_moves b l k n count len may.1)
not_done b (action.Write l bytes) may h = not_offered b l bytes may (h l may.up)
not_done b (action.Wait owner.Setup kind) may h = absurd may
not_done b (action.Wait owner.Auth kind) may h = absurd may
not_done b (action.Wait owner.Resub kind) may h = absurd may
not_done b (action.Wait owner.Monitor kind) may h = absurd may
not_done b (action.Wait (owner.Try n round) kind) may h = not_gone b n kind may.1 (h n may.1.asked)
not_done b (action.Turn k (cause.Event e)) may h = h

-- once a configuration is told a turn has begun
pub config_began : (b : Book) (config : Config) → Sound b → b.config ≡ Some config → b.turns ≢ 0
config_began b config h told none = not_none b.config config (h.opens.no_config none) told

-- so in a session that comes back
pub generations_began : (b : Book) → Sound b → has_generations b ≡ true → b.turns ≢ 0
generations_began b h has none = let x : false ≡ true = sym (ap is_some untold_settings) ∙ (sym (ap (λ c. is_some (settings_in c)) (h.opens.no_config none)) ∙ has) in cc x

-- and where no link is to be asked for
pub applied_turn : (b : Book) → Sound b → IsApplied b → b.turns ≢ 0
applied_turn b h done = by_test (has_generations b) (b.turns ≢ 0) (generations_began b h) (λ plain none. applied_has_link b done.linked plain (h.opens.no_links none))

-- once an event came, the session is created that waits for its first submission
begun : (b : Book) → Sound b → (b.turns ≤ 1 → ⊥) → Reached 2 b
begun b h later = by_test (nat_lt 1 b.turns) (Reached 2 b)
    (λ t. let i : 1 < b.turns = lt_from 1 b.turns t in (h.lives.lazy i, (λ none. omega (arith, i, none), tt)))
    (λ f. absurd (later (not_lt_from 1 b.turns f)))

-- where nothing is owed, nothing is owed that values gave
verdicts : (b : Book) → NoneIsOwed b → VerdictsAreShown b
verdicts b none n o e = none n o

-- what is done where what the event does is shown
pub shown : (b : Book) → IsShown b → b.turns ≢ 0 → Reached 7 b
shown b done turns = (
  done.answered,
  (
    done.parted,
    (done.created.failed, (done.ended, (record { answered = verdicts b done.answered; created = done.created.shown; sourced = done.sourced; pushed = done.pushed }, (done.created.lazy, (turns, tt))))),
  ),
)

-- and where the event has had its effect
pub applied : (b : Book) → Sound b → IsApplied b → Reached 11 b
applied b h done = (done.timed, (done.linked, (done.generated, (done.rested, shown b done.shown (applied_turn b h done)))))

-- where setups have started, and MONITOR, what is subscribed again, and new credentials, which have their timers
pub begun_all : (b : Book) → Sound b → IsBegun b → Reached 17 b
begun_all b h done = (done.renewed, (done.timed, (done.repeated, (done.repeats_timed, (done.monitors, (done.setups, applied b h done.applied))))))

-- where all messages have started
pub moved : (b : Book) → Sound b → IsMoved b → Reached 18 b
moved b h done = (done.moved, begun_all b h done.begun)

-- where all is written
pub written : (b : Book) → Sound b → IsWritten b → Reached 19 b
written b h done = (done.offered, moved b h done.moved)

-- where the turn is settled
pub settled : (b : Book) → Sound b → IsSettled b → Reached 20 b
settled b h done = (done.goes, written b h done.written)

-- where a submission is open, an event came
open_is_begun : (b : Book) (n : ℕ) → Sound b → IsOpen b n → Reached 2 b
open_is_begun b n h o =
    let i : n < b.submissions = open_is_numbered b n h.stories o in
    begun b h (λ early. let none : b.submissions ≡ 0 = h.opens.none_yet early in omega (arith, i, none))

-- where a link is up, too
up_is_begun : (b : Book) (l : ℕ) → Sound b → (b.link l).up ≡ true → Reached 2 b
up_is_begun b l h up = begun b h (λ early. not_both (b.link l).up (h.still early l).down up)

-- where a link has ended
over_is_begun : (b : Book) (l : ℕ) → Sound b → is_over (b.link l) ≡ true → Reached 2 b
over_is_begun b l h over = begun b h (λ early. not_both (is_over (b.link l)) (ap is_some (h.still early l).lives) over)

-- and where one must end
end_is_begun : (b : Book) (l : ℕ) (why : Ending) → Sound b → ending (b.link l) ≡ Some why → Reached 2 b
end_is_begun b l why h ends = begun b h (λ early. not_none (ending (b.link l)) why (still_stays (b.link l) (h.still early l)) ends)

-- a link that is up is the current one
pub up_is_current : (b : Book) (l : ℕ) → Sound b → (b.link l).up ≡ true → l ≡ b.current
up_is_current b l h up = by_test (l == b.current) (l ≡ b.current) (eq_from l b.current) (λ f. absurd (not_both (b.link l).up (h.lives.aside l (ne_from l b.current f)).down up))

-- and what is up has not ended
pub up_lives : (b : Book) (l : ℕ) → Sound b → is_over (b.link l) ≡ true → (b.link l).up ≡ true → ⊥
up_lives b l h over up = not_both (is_over (b.link l)) (ap is_some (h.up l up)) over

-- so where the current link has ended, none is up
pub none_up_over : (b : Book) → Sound b → is_over (current_link b) ≡ true → (l : ℕ) → (b.link l).up ≡ true → ⊥
none_up_over b h over l up = up_lives b l h (ap (λ j. is_over (b.link j)) (up_is_current b l h up) ∙ over) up

-- a link whose opening failed without that it was shown is the current one
pub failed_is_current : (b : Book) (l : ℕ) (e : RedisError) → Sound b → failure_in (b.link l).end ≡ Some e → b.created ≡ 0 → l ≡ b.current
failed_is_current b l e h fails once = by_test (l == b.current) (l ≡ b.current) (eq_from l b.current) (λ f. absurd ((h.lives.aside l (ne_from l b.current f)).shown e fails once))

-- so where a link is up, it was shown of all
pub none_failed : (b : Book) (l : ℕ) → Sound b → (b.link l).up ≡ true → FailuresAreShown b
none_failed b l h up m e fails created =
    let same : l ≡ m = up_is_current b l h up ∙ sym (failed_is_current b m e h fails created) in
    let over = failed_is_over (b.link m).end e fails in
    up_lives b l h (ap (λ j. is_over (b.link j)) same ∙ ap is_some over.1) up

-- and where the current link has ended, none is ready
none_ready : (b : Book) → Sound b → is_over (current_link b) ≡ true → ReadyIsShown b
none_ready b h over l ready created = none_up_over b h over l (ready_is_up (b.link l) ready)

-- nor does anything wait to be told
no_notice_waits : (b : Book) → Sound b → is_over (current_link b) ≡ true → NoticesAreTold b
no_notice_waits b h over l heard = none_unless (next_notice (b.link l)) (λ p next. none_up_over b h over l (h.waits l heard p next))

-- so what came from values is told where what it gave is shown
told_over : (b : Book) → Sound b → is_over (current_link b) ≡ true → VerdictsAreShown b → SourcesAreAsked b → IsTold b
told_over b h over answered sourced = record { answered = answered; created = none_ready b h over; sourced = sourced; pushed = no_notice_waits b h over }

-- a fault is no failed opening
fault_fails_not : (why : Ending) (e : RedisError) → is_fault why ≡ true → failure_of why ≡ Some e → ⊥
fault_fails_not by_shutdown e cuts fails = cc fails
fault_fails_not (by_fault f) e cuts fails = cc fails
fault_fails_not (by_opening x) e cuts fails = cc cuts
fault_fails_not (by_attempt x) e cuts fails = cc cuts

-- so no link has ended by both
cut_fails_not : (o : Option End) (e : RedisError) → is_cut o ≡ true → failure_in o ≡ Some e → ⊥
cut_fails_not None e cuts fails = cc fails
cut_fails_not (Some end) e cuts fails = fault_fails_not end.why e cuts fails

-- what a fault ended has ended
pub cut_is_over : (o : Option End) → is_cut o ≡ true → (end : End) × (o ≡ Some end)
cut_is_over None cuts = absurd (cc cuts)
cut_is_over (Some end) cuts = (end, refl)

-- a link that a fault ended, and of which this wasn't told, is the current one
cut_is_current : (b : Book) (l : ℕ) → Sound b → are_pushes_heard b ≡ true → is_cut (b.link l).end ≡ true → (b.link l).parted ≡ false → l ≡ b.current
cut_is_current b l h heard cuts once = by_test (l == b.current) (l ≡ b.current) (eq_from l b.current) (λ f. absurd (not_both (b.link l).parted once ((h.lives.aside l (ne_from l b.current f)).parted heard cuts)))

-- where a fault ended the current link, each failure was shown
none_failed_beside : (b : Book) → Sound b → is_cut (current_link b).end ≡ true → FailuresAreShown b
none_failed_beside b h cuts m e fails created =
    cut_fails_not (b.link m).end e (ap (λ j. is_cut (b.link j).end) (failed_is_current b m e h fails created) ∙ cuts) fails

-- all before an outcome that is owed is done
answer_reached : (b : Book) (n : ℕ) (o : Outcome) (over : Bool) → is_over (link_of b n) ≡ over → MayAnswer b n o → Sound b → Reached (answer_rank over) b
answer_reached b n o false e may h = open_is_begun b n h may.asked
answer_reached b n o true e may h =
    let after = may.after_closes e in
    let current : is_over (current_link b) ≡ true = sym (ap (λ l. is_over (b.link l)) ((h.goes n).open_on may.asked)) ∙ e in
    (after.3, (after.2, (after.0, (told_over b h current after.1 (may.after_sources e), open_is_begun b n h may.asked))))

-- all before the creation
creation_reached : (b : Book) (e : Option RedisError) (may : MayShowCreation b e) → Sound b → Reached (creation_rank b e may) b
creation_reached b None (inl may) h = up_is_begun b may.l h (ready_is_up (b.link may.l) may.ready)
creation_reached b None (inr may) h = (config_began b may.config h may.told, tt)
creation_reached b (Some e) may h =
    let over = failed_is_over (b.link may.l).end e may.fails in
    let current : is_over (current_link b) ≡ true = sym (ap (λ l. is_over (b.link l)) (failed_is_current b may.l e h may.fails may.once)) ∙ ap is_some over.1 in
    (may.ended, (told_over b h current may.answered may.sourced, over_is_begun b may.l h (ap is_some over.1)))

-- before what is told of what came
pub notice_reached : (b : Book) (l : ℕ) (n : Notice) → MayNotify b l n → Sound b → Reached 2 b
notice_reached b l n may h = up_is_begun b l h (h.waits l may.is_heard may.heard may.next)

-- and before a push
pub push_reached : (b : Book) (l : ℕ) (info : PushInfo) (disconnects : Bool) → MayPushBy disconnects b l info → Sound b → Reached (push_rank disconnects) b
push_reached b l info false may h = notice_reached b l (notice.Push info) may h
push_reached b l info true may h =
    let over = cut_is_over (b.link l).end may.ended in
    let same : l ≡ b.current = cut_is_current b l h may.heard may.ended may.once in
    let current : is_over (current_link b) ≡ true = sym (ap (λ j. is_over (b.link j)) same) ∙ ap is_some over.1 in
    (none_failed_beside b h (sym (ap (λ j. is_cut (b.link j).end) same) ∙ may.ended), (may.closed, (told_over b h current may.answered may.sourced, over_is_begun b l h (ap is_some over.1))))

-- and before any outcome
outcome_reached : (b : Book) (n : ℕ) (o : Outcome) (may : MayAnswer b n o ⊎ MayTell b n o) → Sound b → Reached (outcome_rank b n o may) b
outcome_reached b n o (inl owes) h = answer_reached b n o (is_over (link_of b n)) refl owes h
outcome_reached b n o (inr told) h = begun_all b h told.begun

-- before a source of credentials, since its link is up
need_reached : (b : Book) (c l : ℕ) → MayNeed b c l → Sound b → Reached 2 b
need_reached b c l may h = up_is_begun b l h (source_is_up (b.link l) may.due)

-- before any timer
timer_reached : (b : Book) (t ms : ℕ) (what : Purpose) (may : MayTimer b t ms what) → Sound b → Reached (timer_rank b t ms what may) b
timer_reached b t ms what (inl (inl may)) h = (may.linked, (may.generated, (may.rested, shown b may.shown (config_began b may.config h may.told))))
timer_reached b t ms what (inl (inr may)) h = shown b may.shown (generations_began b h (ap is_some may.set))
timer_reached b t ms what (inr (inl may)) h = begun_all b h may.begun
timer_reached b t ms what (inr (inr (inl may))) h = (may.repeated, (may.repeats_timed, (may.monitors, (may.setups, applied b h may.applied))))
timer_reached b t ms what (inr (inr (inr may))) h = (may.monitors, (may.setups, applied b h may.applied))

-- where an action may stand, all below its rank is done
pub reached : (b : Book) (a : Action) (may : MayStand b a) → Sound b → Reached (rank b a may) b
reached b (action.Turn k (cause.Opening config word)) may h = tt
reached b (action.Connect l host port) may h = (may.generated, (may.rested, shown b may.shown (config_began b may.config h may.told)))
reached b (action.Outcome n o) may h = outcome_reached b n o may h
reached b (action.Timer t ms what) may h = timer_reached b t ms what may h
reached b (action.Took owner.Setup l count) may h = absurd may
reached b (action.Took owner.Auth l count) may h = absurd may
reached b (action.Took owner.Resub l count) may h = absurd may
reached b (action.Took owner.Monitor l count) may h = absurd may
reached b (action.Took (owner.Try n round) l count) may h = begun_all b h may.1.begun
reached b (action.Push l info) may h = push_reached b l info (is_disconnection info.kind) may h
reached b (action.Message msg) may h = notice_reached b b.current (notice.Message msg) may h
reached b (action.Monitor v) may h = notice_reached b b.current (notice.Monitor v) may h
reached b (action.NeedCreds c l) may h = need_reached b c l may h
reached b (action.Generation g) may h = (may.rested, shown b may.shown (generations_began b h (due_parts b may.due).0))
reached b (action.Round owner.Setup on) may h = absurd may
reached b (action.Round owner.Auth on) may h = absurd may
reached b (action.Round owner.Resub on) may h = absurd may
reached b (action.Round owner.Monitor on) may h = absurd may
reached b (action.Round (owner.Try n round) on) may h = begun_all b h (round_begun b n on may.1)
reached b (action.Close l) may h = (record { answered = may.answered; created = may.created; sourced = may.sourced; pushed = may.pushed }, end_is_begun b l may.why h may.ends)
reached b (action.Created e) may h = creation_reached b e may h
reached b (action.Start l k owner.Setup count len) may h = applied b h may.applied
reached b (action.Start l k owner.Resub count len) may h = (may.timed, (may.monitors, (may.setups, applied b h may.applied)))
reached b (action.Start l k owner.Monitor count len) may h = (may.setups, applied b h may.applied)
reached b (action.Start l k owner.Auth count len) may h = (may.timed, (may.repeated, (may.repeats_timed, (may.monitors, (may.setups, applied b h may.applied)))))
reached b (action.Start l k (owner.Try n round) count len) may h = begun_all b h may.1.begun
reached b (action.Write l bytes) may h = moved b h may.moved
reached b (action.Wait owner.Setup kind) may h = absurd may
reached b (action.Wait owner.Auth kind) may h = absurd may
reached b (action.Wait owner.Resub kind) may h = absurd may
reached b (action.Wait owner.Monitor kind) may h = absurd may
reached b (action.Wait (owner.Try n round) kind) may h = written b h may.1.written
reached b (action.Turn k (cause.Event e)) may h = settled b h may.is_for.1

-- so two actions that may stand have one rank
pub same_rank : (b : Book) (x y : Action) (p : MayStand b x) (q : MayStand b y) → Sound b → rank b x p ≡ rank b y q
same_rank b x y p q h = by_test (nat_lt (rank b x p) (rank b y q)) (rank b x p ≡ rank b y q)
    (λ t. absurd (not_done b x p (step_of b (rank b x p) (rank b y q) (lt_from (rank b x p) (rank b y q) t) (reached b y q h))))
    (λ f. by_test (nat_lt (rank b y q) (rank b x p)) (rank b x p ≡ rank b y q)
    (λ t. absurd (not_done b y q (step_of b (rank b y q) (rank b x p) (lt_from (rank b y q) (rank b x p) t) (reached b x p h))))
    (λ g. let i : rank b y q ≤ rank b x p = not_lt_from (rank b x p) (rank b y q) f in let k : rank b x p ≤ rank b y q = not_lt_from (rank b y q) (rank b x p) g in omega (arith, i, k)))
