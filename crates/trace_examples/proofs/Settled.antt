-- Tests of a book, and what each says: what holds of all submissions and all links is tested of those that were given out.
use Rattle.std.proofs.Common.{◌≡◌, ◌≢◌, ◌⊎◌, ℕ, ◌+◌, ◌<◌, ◌≤◌, ◌==◌, nat_lt, nat_le, Bool, true, false, ◌&&◌, ◌||◌, not, List, length, Option, Some, None, is_some, if◌then◌else◌, refl, sym, ap, ◌∙◌, subst, inl, inr, arith}
use Rattle.std.specs.Option.{is_none}
use Rattle.std.specs.Prelude.{slice_get}
use Rattle.std.proofs.lemmas.Bool.{not-true}
use Rattle.containers.proofs.Choices.{by_test, not_both, eq_from, ne_from, le_from, lt_from, not_lt_from, left_if, both_left, both_right}
use Rattle.redis_error.specs.declared.redis_error.RedisError.{RedisError}
use Rattle.driver_model.specs.Config.{connect_timeout}
use Rattle.driver_model.specs.declared.config.Config.{Config}
use Rattle.driver_model.specs.declared.action.WaitKind.{WaitKind}
use Rattle.driver_model.specs.declared.event.Submission.{Submission}
use Rattle.legal_trace.specs.Ledger.{Ledger, Start, Heard, IsOffered, again_due, is_over, is_cut, ending, next_notice, failure_in, unwritten, is_full, is_ready, is_set_up, is_taken, last_renewal, monitor_due, renewal_count, renewal_due, renewals_asked, setup_due, source_due}
use Rattle.legal_trace.specs.Story.{Try, last_of, is_open, is_told, is_unstarted, is_awaited, is_no_error, awaited_in}
use Rattle.legal_trace.specs.Managers.{is_lazy}
use Rattle.legal_trace.specs.Book.{Book}
use Rattle.legal_trace.specs.Steps.{waits, is_due, next_step, is_held_back, is_renewal_held}
use Rattle.legal_trace.proofs.Setups.{due_is_up}
use Rattle.legal_trace.proofs.Watching.{watch_is_up}
use Rattle.legal_trace.proofs.Again.{again_is_up}
use Rattle.legal_trace.proofs.Plain.{not_none}
use Rattle.legal_trace.specs.Owed.{owed}
use Rattle.legal_trace.specs.Legal.{IsOpen, link_of, NoneIsOwed, VerdictsAreShown, NoneEnds, FailuresAreShown, IsCreated, IsShown, IsTimed, IsApplied, rest_due, generation_due, link_due, CanMove, IsMoved, IsWritten, WaitHolds, IsStarted, IsWaiting, IsSettled, ReadyIsShown, SourcesAreAsked, NoticesAreTold, EndsAreTold, IsBegun, SetupsAreStarted, MonitorsAreStarted, RepeatsAreTimed, RepeatsAreStarted, RenewalsAreTimed, RenewalsAreStarted, answer_time, are_pushes_heard, is_heard}
use Rattle.trace_examples.proofs.Bounded.{IsBounded, IsIdle, of_links}
use Rattle.trace_examples.proofs.Checks.{holds_if, held, none_from, is_empty, empty_from, filled_from, each_below, below, same_step, step_from}

-- what was never handed in isn't open
closed : (what : Option Submission) (c d : Bool) → what ≡ None → (is_some what && c && d) ≡ true → ⊥
closed None c d e t = cc t
closed (Some s) c d e t = cc e

-- a fact of the open submissions among those that were given out
pub of_open : (b : Book) (P : Type 0) (n : ℕ) → IsBounded b → (n < b.submissions → P) → IsOpen b n → P
of_open b P n bounded f o =
    by_test (nat_lt n b.submissions) P (λ l. f (lt_from n b.submissions l))
    (λ l. absurd (closed (b.story n).submission (length (b.story n).outcomes == 0) (not (b.story n).cancelled) (bounded.absent n (not_lt_from n b.submissions l)) o))

-- it is owed nothing, if it is open
abbrev pub is_quiet : Book → ℕ → Bool
is_quiet b n = holds_if (is_open (b.story n)) (is_none (owed b n))

-- what this says
pub quiet : (b : Book) (n : ℕ) → is_quiet b n ≡ true → IsOpen b n → owed b n ≡ None
quiet b n e o = none_from (owed b n) (held (is_open (b.story n)) (is_none (owed b n)) e o)

-- no open submission is owed an outcome
abbrev pub all_quiet : Book → Bool
all_quiet b = each_below (λ n. is_quiet b n) b.submissions

pub none_is_owed : (b : Book) → IsBounded b → all_quiet b ≡ true → NoneIsOwed b
none_is_owed b bounded e n o = of_open b (owed b n ≡ None) n bounded (λ l. quiet b n (below (λ m. is_quiet b m) b.submissions n e l) o) o

-- it is owed nothing, if it is open and its link has not ended
abbrev pub is_shown : Book → ℕ → Bool
is_shown b n = holds_if (not (is_over (link_of b n))) (is_quiet b n)

-- no open submission whose link has not ended is owed an outcome
abbrev pub all_shown : Book → Bool
all_shown b = each_below (λ n. is_shown b n) b.submissions

pub verdicts_are_shown : (b : Book) → IsBounded b → all_shown b ≡ true → VerdictsAreShown b
verdicts_are_shown b bounded e n o lives = of_open b (owed b n ≡ None) n bounded
    (λ l. quiet b n (held (not (is_over (link_of b n))) (is_quiet b n) (below (λ m. is_shown b m) b.submissions n e l) (ap not lives)) o) o

-- a test of each link that was asked for
abbrev pub each_link : Book → (ℕ → Bool) → Bool
each_link b test = each_below test b.links

-- what it says of each link, where it says so of any that was asked for, and that is so of an idle one
pub each_linked : (b : Book) (test : ℕ → Bool) (P : ℕ → Type 0) (l : ℕ) → IsBounded b → each_link b test ≡ true → (test l ≡ true → P l) → (IsIdle (b.link l) → P l) → P l
each_linked b test P l bounded e says idle = of_links b P l bounded (λ asked. says (below test b.links l e asked)) idle

-- where one link was asked for, a fact of that, and of every idle one
pub first_and_idle : (b : Book) (P : ℕ → Type 0) (l : ℕ) → IsBounded b → b.links ≡ 1 → P 0 → (IsIdle (b.link l) → P l) → P l
first_and_idle b P l bounded one first idle = of_links b P l bounded (λ asked. subst P (let e : 0 ≡ l = omega (arith, asked, one) in e) first) idle

-- where the first of two doesn't hold, both don't
and_false : (p q : Bool) → p ≡ false → (p && q) ≡ false
and_false true q e = cc
and_false false q e = refl

-- nothing ends an idle link
ending_idle : (l : Ledger) → IsIdle l → ending l ≡ None
ending_idle l h = left_if l.up _ _ h.down ∙ left_if (l.asked && not (is_over l)) _ _ (and_false l.asked (not (is_over l)) h.unasked)

-- no link must end
abbrev pub none_ends : Book → Bool
none_ends b = each_link b (λ l. is_none (ending (b.link l)))

pub no_end : (b : Book) → IsBounded b → none_ends b ≡ true → NoneEnds b
no_end b bounded e l = each_linked b (λ m. is_none (ending (b.link m))) (λ m. ending (b.link m) ≡ None) l bounded e (none_from (ending (b.link l))) (ending_idle (b.link l))

-- not zero
other_than_zero : (n : ℕ) → not (n == 0) ≡ true → n ≢ 0
other_than_zero n e = ne_from n 0 (not-true (n == 0) e)

-- an idle link's opening hasn't failed
pub failed_idle : (l : Ledger) (e : RedisError) → IsIdle l → failure_in l.end ≡ Some e → ⊥
failed_idle l e idle fails = let none : failure_in None ≡ Some e = ap failure_in (sym idle.lives) ∙ fails in cc none

-- where the opening of a link failed, this was shown
abbrev pub failure_shown : Book → Bool
failure_shown b = each_link b (λ l. holds_if (is_some (failure_in (b.link l).end)) (not (b.created == 0)))

pub failures_are_shown : (b : Book) → IsBounded b → failure_shown b ≡ true → FailuresAreShown b
failures_are_shown b bounded t l e = each_linked b (λ m. holds_if (is_some (failure_in (b.link m).end)) (not (b.created == 0))) (λ m. failure_in (b.link m).end ≡ Some e → b.created ≢ 0) l bounded t
    (λ s fails. other_than_zero b.created (held (is_some (failure_in (b.link l).end)) (not (b.created == 0)) s (ap is_some fails)))
    (λ idle fails. absurd (failed_idle (b.link l) e idle fails))

-- where connects are bounded, each has its timer
abbrev pub is_timed_in : Option Config → Bool → Bool
is_timed_in None timed = true
is_timed_in (Some config) timed = holds_if (is_some (connect_timeout config)) timed

abbrev pub is_timed : Book → Bool
is_timed b = is_timed_in b.config (b.timed == b.links)

pub timed : (b : Book) → is_timed b ≡ true → IsTimed b
timed b e config told bounded =
    eq_from b.timed b.links (held (is_some (connect_timeout config)) (b.timed == b.links) (ap (λ c. is_timed_in c (b.timed == b.links)) (sym told) ∙ e) (some_from (connect_timeout config) bounded))
  where
    some_from : (o : Option ℕ) → o ≢ None → is_some o ≡ true
    some_from None n = absurd (n refl)
    some_from (Some x) n = refl

-- where a link is ready, this was shown
abbrev pub ready_shown : Book → Bool
ready_shown b = each_link b (λ l. holds_if (is_ready (b.link l)) (not (b.created == 0)))

pub ready_is_shown : (b : Book) → IsBounded b → ready_shown b ≡ true → ReadyIsShown b
ready_is_shown b bounded t l = each_linked b (λ m. holds_if (is_ready (b.link m)) (not (b.created == 0))) (λ m. is_ready (b.link m) ≡ true → b.created ≢ 0) l bounded t
    (λ s ready. other_than_zero b.created (held (is_ready (b.link l)) (not (b.created == 0)) s ready))
    (λ idle ready. absurd (not_both (b.link l).up idle.down (both_left (b.link l).up (is_set_up (b.link l)) ready)))

-- all that came on links was told, where somebody hears it
abbrev pub notices_told : Book → Bool
notices_told b = holds_if (is_heard b) (each_link b (λ l. is_none (next_notice (b.link l))))

-- on an idle link nothing waits
idle_waits_not : (l : Ledger) → IsIdle l → next_notice l ≡ None
idle_waits_not l idle = ap (λ (hs : List Heard). slice_get hs l.told) idle.mute

pub notices_are_told : (b : Book) → IsBounded b → notices_told b ≡ true → NoticesAreTold b
notices_are_told b bounded t l heard = each_linked b (λ m. is_none (next_notice (b.link m))) (λ m. next_notice (b.link m) ≡ None) l bounded
    (held (is_heard b) (each_link b (λ m. is_none (next_notice (b.link m)))) t heard) (none_from (next_notice (b.link l))) (idle_waits_not (b.link l))

-- where a fault ended a link this was told
abbrev pub is_parted : Book → ℕ → Bool
is_parted b l = holds_if (is_cut (b.link l).end) (b.link l).parted

-- so it is of each, where somebody hears pushes
abbrev pub end_told : Book → Bool
end_told b = holds_if (are_pushes_heard b) (each_link b (λ l. is_parted b l))

-- no fault ended an idle link
idle_uncut : (l : Ledger) → IsIdle l → is_cut l.end ≡ true → ⊥
idle_uncut l idle cut = let x : false ≡ true = sym (ap is_cut idle.lives) ∙ cut in cc x

pub ends_are_told : (b : Book) → IsBounded b → end_told b ≡ true → EndsAreTold b
ends_are_told b bounded t l heard = each_linked b (λ m. is_parted b m) (λ m. is_cut (b.link m).end ≡ true → (b.link m).parted ≡ true) l bounded (held (are_pushes_heard b) (each_link b (λ m. is_parted b m)) t heard)
    (λ s cut. held (is_cut (b.link l).end) (b.link l).parted s cut)
    (λ idle cut. absurd (idle_uncut (b.link l) idle cut))

-- the sources of credentials of links were asked for that are to be
abbrev pub sources_asked : Book → Bool
sources_asked b = each_link b (λ l. not (source_due (b.link l)))

-- for an idle link none is to be
idle_unsourced : (l : Ledger) → IsIdle l → source_due l ≡ false
idle_unsourced l idle = and_false (l.up && l.creds.wanted) (not l.creds.asked || (is_set_up l && not l.creds.renews)) (and_false l.up l.creds.wanted idle.down)

pub sources_are_asked : (b : Book) → IsBounded b → sources_asked b ≡ true → SourcesAreAsked b
sources_are_asked b bounded t l = each_linked b (λ m. not (source_due (b.link m))) (λ m. source_due (b.link m) ≡ false) l bounded t (not-true (source_due (b.link l))) (idle_unsourced (b.link l))

-- the creation is shown where it is to be
abbrev pub is_made : Book → Bool
is_made b = holds_if (is_lazy b.config) (not (b.created == 0)) && ready_shown b && failure_shown b

made : (b : Book) → IsBounded b → is_made b ≡ true → IsCreated b
made b bounded e = record {
  lazy = λ waits. other_than_zero b.created (held (is_lazy b.config) (not (b.created == 0)) (search (both_left, both_right)) waits);
  shown = ready_is_shown b bounded (search (both_left, both_right));
  failed = failures_are_shown b bounded (search (both_left, both_right));
}

-- what the event does to links and submissions is shown
abbrev pub effects_shown : Book → Bool
effects_shown b = all_quiet b && none_ends b && is_made b && notices_told b && end_told b && sources_asked b

pub shown : (b : Book) → IsBounded b → effects_shown b ≡ true → IsShown b
shown b bounded e = record {
  answered = none_is_owed b bounded (search (both_left, both_right));
  ended = no_end b bounded (search (both_left, both_right));
  created = made b bounded (search (both_left, both_right));
  pushed = notices_are_told b bounded (search (both_left, both_right));
  parted = ends_are_told b bounded (search (both_left, both_right));
  sourced = sources_are_asked b bounded (search (both_left, both_right));
}

-- the event has had its own effect
abbrev pub is_applied : Book → Bool
is_applied b = effects_shown b && not (rest_due b) && not (generation_due b) && not (link_due b) && is_timed b

pub applied : (b : Book) → IsBounded b → is_applied b ≡ true → IsApplied b
applied b bounded e = record {
  shown = shown b bounded (search (both_left, both_right));
  rested = not-true (rest_due b) (search (both_left, both_right));
  generated = not-true (generation_due b) (search (both_left, both_right));
  linked = not-true (link_due b) (search (both_left, both_right));
  timed = timed b (search (both_left, both_right));
}

-- the setup of a link is to start, which isn't held back
abbrev pub is_to_set_up : Book → ℕ → Bool
is_to_set_up b l = is_some (setup_due (b.link l)) && not (is_held_back b (b.link l))

-- on an idle link none is
idle_undue : (l : Ledger) (k : ℕ) → IsIdle l → setup_due l ≡ Some k → ⊥
idle_undue l k idle due = not_both l.up idle.down (due_is_up l k due)

-- the event has had its effect, and setups have started
abbrev pub are_set_up : Book → Bool
are_set_up b = is_applied b && each_link b (λ l. not (is_to_set_up b l))

-- MONITOR is to start on a link, which isn't held back
abbrev pub is_to_watch : Book → ℕ → Bool
is_to_watch b l = monitor_due (b.link l) && not (is_held_back b (b.link l))

-- the event has had its effect, and setups have started, and so has MONITOR
abbrev pub are_watched : Book → Bool
are_watched b = are_set_up b && each_link b (λ l. not (is_to_watch b l))

-- what is to be subscribed again on a link has its timer
abbrev pub is_repeat_timed : Book → ℕ → Bool
is_repeat_timed b l = holds_if (again_due (b.link l)) (b.link l).again.timed

-- so it is on each, where it is to have one
abbrev pub repeats_timed : Book → Bool
repeats_timed b = holds_if (is_some (answer_time b.config)) (each_link b (λ l. is_repeat_timed b l))

-- what is subscribed again is to start on a link, which isn't held back
abbrev pub can_repeat : Book → ℕ → Bool
can_repeat b l = again_due (b.link l) && not (is_held_back b (b.link l))

-- setups and MONITOR have started, and so has what is subscribed again, which has its timer
abbrev pub are_repeated : Book → Bool
are_repeated b = are_watched b && repeats_timed b && each_link b (λ l. not (can_repeat b l))

-- the new credentials of a link have their timers
abbrev pub is_renewal_timed : Book → ℕ → Bool
is_renewal_timed b l = nat_le (renewals_asked (b.link l)) (b.link l).creds.timed

-- so have those of each, where they are to have some
abbrev pub renewals_timed : Book → Bool
renewals_timed b = holds_if (is_some (answer_time b.config)) (each_link b (λ l. is_renewal_timed b l))

-- new credentials are to be told on a link, and don't wait
abbrev pub can_renew : Book → ℕ → Bool
can_renew b l = is_some (renewal_due (b.link l)) && not (is_renewal_held b l)

-- and so have new credentials, which have their timers
abbrev pub is_begun : Book → Bool
is_begun b = are_repeated b && renewals_timed b && each_link b (λ l. not (can_renew b l))

-- no new credentials are to be told on an idle link
idle_unrenewed : (l : Ledger) → IsIdle l → renewal_due l ≡ None
idle_unrenewed l idle = left_if (l.up && not l.creds.lost && is_taken l (last_renewal l.starts 0 None)) (slice_get l.creds.renewals (renewal_count l.starts)) None
    (and_false (l.up && not l.creds.lost) (is_taken l (last_renewal l.starts 0 None)) (and_false l.up (not l.creds.lost) idle.down))

-- nor were any
pub idle_unasked : (l : Ledger) → IsIdle l → renewals_asked l ≡ 0
idle_unasked l idle =
    ap (λ o. renewal_count l.starts + (if is_some o then 1 else 0)) (idle_unrenewed l idle)
    ∙ ap (λ (ss : List Start). renewal_count ss + 0) idle.quiet

-- what isn't none is some
some_of : (o : Option ℕ) → o ≢ None → is_some o ≡ true
some_of None n = absurd (n refl)
some_of (Some x) n = refl

-- so all have their timers
pub renewals_are_timed : (b : Book) → IsBounded b → renewals_timed b ≡ true → RenewalsAreTimed b
renewals_are_timed b bounded t l set = each_linked b (λ m. is_renewal_timed b m) (λ m. renewals_asked (b.link m) ≤ (b.link m).creds.timed) l bounded
    (held (is_some (answer_time b.config)) (each_link b (λ m. is_renewal_timed b m)) t (some_of (answer_time b.config) set))
    (le_from (renewals_asked (b.link l)) (b.link l).creds.timed)
    (λ idle. let none : renewals_asked (b.link l) ≡ 0 = idle_unasked (b.link l) idle in omega (arith, none))

-- and so has what is subscribed again
pub repeats_are_timed : (b : Book) → IsBounded b → repeats_timed b ≡ true → RepeatsAreTimed b
repeats_are_timed b bounded t l set = each_linked b (λ m. is_repeat_timed b m) (λ m. again_due (b.link m) ≡ true → (b.link m).again.timed ≡ true) l bounded
    (held (is_some (answer_time b.config)) (each_link b (λ m. is_repeat_timed b m)) t (some_of (answer_time b.config) set))
    (held (again_due (b.link l)) (b.link l).again.timed)
    (λ idle due. absurd (not_both (b.link l).up idle.down (again_is_up (b.link l) due)))

-- what doesn't hold with another
second_fails : (p q : Bool) → (p && not q) ≡ false → p ≡ true → q ≡ true
second_fails true true e t = refl
second_fails true false e t = cc e
second_fails false q e t = cc t

-- setups have started
pub setups_have_started : (b : Book) → IsBounded b → are_set_up b ≡ true → SetupsAreStarted b
setups_have_started b bounded e l k = each_linked b (λ m. not (is_to_set_up b m)) (λ m. setup_due (b.link m) ≡ Some k → is_held_back b (b.link m) ≡ true) l bounded
    (both_right (is_applied b) (each_link b (λ m. not (is_to_set_up b m))) e)
    (λ s due. second_fails (is_some (setup_due (b.link l))) (is_held_back b (b.link l)) (not-true (is_to_set_up b l) s) (ap is_some due))
    (λ idle due. absurd (idle_undue (b.link l) k idle due))

-- and so has MONITOR
pub monitors_have_started : (b : Book) → IsBounded b → are_watched b ≡ true → MonitorsAreStarted b
monitors_have_started b bounded e l = each_linked b (λ m. not (is_to_watch b m)) (λ m. monitor_due (b.link m) ≡ true → is_held_back b (b.link m) ≡ true) l bounded
    (both_right (are_set_up b) (each_link b (λ m. not (is_to_watch b m))) e)
    (λ s due. second_fails (monitor_due (b.link l)) (is_held_back b (b.link l)) (not-true (is_to_watch b l) s) due)
    (λ idle due. absurd (not_both (b.link l).up idle.down (watch_is_up (b.link l) due)))

-- and so has what is subscribed again
pub repeats_have_started : (b : Book) → IsBounded b → are_repeated b ≡ true → RepeatsAreStarted b
repeats_have_started b bounded e l = each_linked b (λ m. not (can_repeat b m)) (λ m. again_due (b.link m) ≡ true → is_held_back b (b.link m) ≡ true) l bounded
    (both_right (are_watched b && repeats_timed b) (each_link b (λ m. not (can_repeat b m))) e)
    (λ s due. second_fails (again_due (b.link l)) (is_held_back b (b.link l)) (not-true (can_repeat b l) s) due)
    (λ idle due. absurd (not_both (b.link l).up idle.down (again_is_up (b.link l) due)))

-- and so have new credentials
renewals_have_started : (b : Book) → IsBounded b → each_link b (λ l. not (can_renew b l)) ≡ true → RenewalsAreStarted b
renewals_have_started b bounded e l c = each_linked b (λ m. not (can_renew b m)) (λ m. renewal_due (b.link m) ≡ Some c → is_renewal_held b m ≡ true) l bounded e
    (λ s due. second_fails (is_some (renewal_due (b.link l))) (is_renewal_held b l) (not-true (can_renew b l) s) (ap is_some due))
    (λ idle due. absurd (not_none (renewal_due (b.link l)) c (idle_unrenewed (b.link l) idle) due))

-- where MONITOR has started, setups have
pub watched_set : (b : Book) → are_watched b ≡ true → are_set_up b ≡ true
watched_set b e = both_left (are_set_up b) (each_link b (λ l. not (is_to_watch b l))) e

-- and the event has had its effect
pub set_applied : (b : Book) → are_set_up b ≡ true → is_applied b ≡ true
set_applied b e = both_left (is_applied b) (each_link b (λ l. not (is_to_set_up b l))) e

-- where what is subscribed again has started, MONITOR has
pub repeated_watched : (b : Book) → are_repeated b ≡ true → are_watched b ≡ true
repeated_watched b e = both_left (are_watched b) (repeats_timed b) (both_left (are_watched b && repeats_timed b) (each_link b (λ l. not (can_repeat b l))) e)

-- and it has its timer
pub repeated_timed : (b : Book) → are_repeated b ≡ true → repeats_timed b ≡ true
repeated_timed b e = both_right (are_watched b) (repeats_timed b) (both_left (are_watched b && repeats_timed b) (each_link b (λ l. not (can_repeat b l))) e)

pub has_begun : (b : Book) → IsBounded b → is_begun b ≡ true → IsBegun b
has_begun b bounded e =
    let front : (are_repeated b && renewals_timed b) ≡ true = both_left (are_repeated b && renewals_timed b) (each_link b (λ l. not (can_renew b l))) e in
    let repeated : are_repeated b ≡ true = both_left (are_repeated b) (renewals_timed b) front in
    let watched : are_watched b ≡ true = repeated_watched b repeated in
    let set : are_set_up b ≡ true = watched_set b watched in
    record {
      applied = applied b bounded (set_applied b set);
      setups = setups_have_started b bounded set;
      monitors = monitors_have_started b bounded watched;
      repeats_timed = repeats_are_timed b bounded (repeated_timed b repeated);
      repeated = repeats_have_started b bounded repeated;
      timed = renewals_are_timed b bounded (both_right (are_repeated b) (renewals_timed b) front);
      renewed = renewals_have_started b bounded (both_right (are_repeated b && renewals_timed b) (each_link b (λ l. not (can_renew b l))) e);
    }

-- its message has not started, and it makes a step
abbrev pub can_move : Book → ℕ → Bool
can_move b n = is_unstarted (b.story n) && is_due (next_step b n)

-- what this says
pub moves : (b : Book) (n : ℕ) → can_move b n ≡ true → CanMove b n
moves b n e = record { unstarted = both_left (is_unstarted (b.story n)) (is_due (next_step b n)) e; due = both_right (is_unstarted (b.story n)) (is_due (next_step b n)) e }

-- and where it isn't so
pub stays : (b : Book) (n : ℕ) → can_move b n ≡ false → CanMove b n → ⊥
stays b n e can = not_both (can_move b n) e (two (is_unstarted (b.story n)) (is_due (next_step b n)) can.unstarted can.due)
  where
    two : (p q : Bool) → p ≡ true → q ≡ true → (p && q) ≡ true
    two p q x y = rw (x, y)

-- none of the submissions before n makes a step
abbrev pub all_stay : Book → ℕ → Bool
all_stay b n = each_below (λ m. not (can_move b m)) n

pub none_before : (b : Book) (n : ℕ) → all_stay b n ≡ true → (m : ℕ) → m < n → CanMove b m → ⊥
none_before b n e m l = stays b m (not-true (can_move b m) (below (λ m. not (can_move b m)) n m e l))

-- what was never handed in makes none
absent_stays : (b : Book) (n : ℕ) → (b.story n).submission ≡ None → CanMove b n → ⊥
absent_stays b n e can = elim (open_or_told (is_open (b.story n)) (is_told (b.story n)) (both_right (length (b.story n).tries == 0) (is_open (b.story n) || is_told (b.story n)) can.unstarted)) [
  | inl o ↦ closed (b.story n).submission (length (b.story n).outcomes == 0) (not (b.story n).cancelled) e o
  | inr told ↦ let awaited : is_awaited (b.story n) ≡ true = ap awaited_in e in
      not_both (is_awaited (b.story n)) (not-true (is_awaited (b.story n)) (both_left (not (is_awaited (b.story n))) (is_no_error (b.story n).outcomes) told)) awaited
]
  where
    open_or_told : (p q : Bool) → (p || q) ≡ true → (p ≡ true) ⊎ (q ≡ true)
    open_or_told true q t = inl refl
    open_or_told false q t = inr t

-- all steps that may be made were made
abbrev pub is_moved : Book → Bool
is_moved b = is_begun b && all_stay b b.submissions

pub moved : (b : Book) → IsBounded b → is_moved b ≡ true → IsMoved b
moved b bounded e = record {
  begun = has_begun b bounded (both_left (is_begun b) (all_stay b b.submissions) e);
  moved = λ n can. by_test (nat_lt n b.submissions) ⊥ (λ l. none_before b b.submissions (both_right (is_begun b) (all_stay b b.submissions) e) n (lt_from n b.submissions l) can)
      (λ l. absent_stays b n (bounded.absent n (not_lt_from n b.submissions l)) can);
}

-- a link is offered its bytes
abbrev pub is_offered : Ledger → Bool
is_offered l = is_empty (unwritten l) || not (is_empty l.offer)

pub offered : (l : Ledger) → is_offered l ≡ true → IsOffered l
offered l e = by_test (is_empty (unwritten l)) (IsOffered l) (λ t. inl (empty_from (unwritten l) t)) (λ f. inr (filled_from l.offer (second (is_empty (unwritten l)) (not (is_empty l.offer)) f e)))
  where
    second : (p q : Bool) → p ≡ false → (p || q) ≡ true → q ≡ true
    second true q f t = cc
    second false q f t = t

-- so is one that is up
abbrev pub is_offered_up : Book → ℕ → Bool
is_offered_up b l = holds_if (b.link l).up (is_offered (b.link l))

-- every link that is up is offered its bytes
abbrev pub is_written : Book → Bool
is_written b = is_moved b && each_link b (λ l. is_offered_up b l)

pub written : (b : Book) → IsBounded b → is_written b ≡ true → IsWritten b
written b bounded e = record {
  moved = moved b bounded (both_left (is_moved b) (each_link b (λ l. is_offered_up b l)) e);
  offered = λ l. each_linked b (λ m. is_offered_up b m) (λ m. (b.link m).up ≡ true → IsOffered (b.link m)) l bounded (both_right (is_moved b) (each_link b (λ m. is_offered_up b m)) e)
      (λ s u. offered (b.link l) (held (b.link l).up (is_offered (b.link l)) s u)) (λ idle u. absurd (not_both (b.link l).up idle.down u));
}

-- a wait is true
abbrev pub wait_holds : Book → ℕ → WaitKind → Bool
wait_holds b n kind = same_step (next_step b n) (waits kind)

pub holds : (b : Book) (n : ℕ) (kind : WaitKind) → wait_holds b n kind ≡ true → WaitHolds b n kind
holds b n kind e = step_from (next_step b n) (waits kind) e

-- it is started on a link that is up, takes more items, and is offered
abbrev pub try_goes : Book → Option Try → Bool
try_goes b None = false
try_goes b (Some t) = (b.link t.link).up && not (is_full (b.link t.link) t.message) && is_offered (b.link t.link)

pub started : (b : Book) (n : ℕ) → try_goes b (last_of (b.story n).tries) ≡ true → IsStarted b n
started b n e = of_try (last_of (b.story n).tries) refl e
  where
    of_try : (t : Option Try) → last_of (b.story n).tries ≡ t → try_goes b t ≡ true → IsStarted b n
    of_try None same e = cc e
    of_try (Some t) same e = record {
      try = t;
      last = same;
      up = search (both_left, both_right);
      takes_more = not-true (is_full (b.link t.link) t.message) (search (both_left, both_right));
      offered = offered (b.link t.link) (search (both_left, both_right));
    }

-- it has no message, and the wait that was shown is true
abbrev pub shown_holds : Book → ℕ → Option WaitKind → Bool
shown_holds b n None = false
shown_holds b n (Some kind) = wait_holds b n kind

abbrev pub is_waiting : Book → ℕ → Bool
is_waiting b n = is_empty (b.story n).tries && shown_holds b n (b.story n).waiting

pub waiting : (b : Book) (n : ℕ) → is_waiting b n ≡ true → IsWaiting b n
waiting b n e = of_kind (b.story n).waiting refl (both_right (is_empty (b.story n).tries) (shown_holds b n (b.story n).waiting) e)
  where
    of_kind : (w : Option WaitKind) → (b.story n).waiting ≡ w → shown_holds b n w ≡ true → IsWaiting b n
    of_kind None same t = cc t
    of_kind (Some kind) same t = record { unstarted = empty_from (b.story n).tries (both_left (is_empty (b.story n).tries) (shown_holds b n (b.story n).waiting) e); kind = kind; shown = same; holds = holds b n kind t }

-- where it is open, it goes on
abbrev pub goes_on : Book → ℕ → Bool
goes_on b n = holds_if (is_open (b.story n)) (try_goes b (last_of (b.story n).tries) || is_waiting b n)

goes : (b : Book) (n : ℕ) → goes_on b n ≡ true → IsOpen b n → IsStarted b n ⊎ IsWaiting b n
goes b n e o = either_of (try_goes b (last_of (b.story n).tries)) (is_waiting b n) (held (is_open (b.story n)) (try_goes b (last_of (b.story n).tries) || is_waiting b n) e o) (started b n) (waiting b n)
  where
    either_of : {P Q : Type 0} (p q : Bool) → (p || q) ≡ true → (p ≡ true → P) → (q ≡ true → Q) → P ⊎ Q
    either_of true q t f g = inl (f refl)
    either_of false q t f g = inr (g t)

-- what holds after each turn
abbrev pub is_settled : Book → Bool
is_settled b = is_written b && each_below (λ n. goes_on b n) b.submissions

pub settled : (b : Book) → IsBounded b → is_settled b ≡ true → IsSettled b
settled b bounded e = record {
  written = written b bounded (both_left (is_written b) (each_below (λ n. goes_on b n) b.submissions) e);
  goes = λ n o. of_open b (IsStarted b n ⊎ IsWaiting b n) n bounded
      (λ l. goes b n (below (λ n. goes_on b n) b.submissions n (both_right (is_written b) (each_below (λ n. goes_on b n) b.submissions) e) l) o) o;
}
