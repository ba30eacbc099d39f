-- A trace whose steps are tested one by one is legal: each action stands where it may, since it is the next that is due.
use Rattle.std.proofs.Common.{◌≡◌, ◌⊎◌, ℕ, ◌+◌, ◌==◌, nat_lt, Bool, true, false, ◌&&◌, ◌||◌, not, List, [], ◌∷◌, length, Option, Some, None, is_some, refl, sym, ap, subst, ◌∙◌, inl, inr}
use Rattle.std.specs.Option.{is_none}
use Rattle.std.proofs.lemmas.Bool.{not-true}
use Rattle.containers.proofs.Choices.{eq_from, ne_from, lt_from, le_from, both_left, both_right, not_both}
use Rattle.resp_value.specs.declared.value.Value.TheVariants.{Nil}
use Rattle.driver_model.specs.declared.action.Action.{Action}
use Rattle.driver_model.specs.declared.action.Action.TheVariants as action
use Rattle.driver_model.specs.declared.action.Cause.{Cause}
use Rattle.driver_model.specs.declared.action.Cause.TheVariants as cause
use Rattle.driver_model.specs.declared.action.Owner.TheVariants as owner
use Rattle.driver_model.specs.declared.action.WaitKind.{WaitKind}
use Rattle.driver_model.specs.declared.config.Config.{Config}
use Rattle.driver_model.specs.declared.event.Event.{Event}
use Rattle.driver_model.specs.declared.outcome.Outcome.{Outcome}
use Rattle.driver_model.specs.declared.outcome.Outcome.TheVariants as outcome
use Rattle.driver_model.specs.declared.action.Purpose.{Purpose}
use Rattle.driver_model.specs.declared.action.Purpose.TheVariants as purpose
use Rattle.driver_model.specs.Push.{is_disconnection}
use Rattle.driver_model.specs.declared.push_info.PushInfo.{PushInfo}
use Rattle.driver_model.specs.declared.hearing.Notice.{Notice}
use Rattle.driver_model.specs.declared.hearing.Notice.TheVariants as notice
use Rattle.driver_model.specs.Config.{address, connect_timeout, first_fault}
use Rattle.manager_config.specs.declared.config.ConnectionManagerConfig.{ConnectionManagerConfig}
use Rattle.manager_config.specs.Backoff.{backoff}
use Rattle.connection_info.specs.declared.address.ConnectionInfo.{ConnectionInfo}
use Rattle.redis_error.specs.declared.redis_error.RedisError.{RedisError}
use Rattle.driver_model.specs.Shape.{need_of}
use Rattle.credentials.specs.Credentials.{Credentials}
use Rattle.legal_trace.specs.Ledger.{Heard, Ending, again_due, is_cut, is_full_by, is_ready, monitor_due, monitor_message, next_notice, setup_count, setup_due, setup_message, source_due, renewal_due, renewals_asked, is_over, ending, failure_in, unwritten}
use Rattle.legal_trace.specs.Story.{Try, last_of, is_open, is_unstarted, bytes_of, shape}
use Rattle.legal_trace.specs.Managers.{settings_in, is_lazy}
use Rattle.legal_trace.specs.Again.{again_message}
use Rattle.legal_trace.specs.Book.{Book, blank_book, book, renewal_in, entered, entered_each}
use Rattle.legal_trace.specs.Steps.{is_held_back, is_renewal_held, rounds, takes, asks, tells, starts, next_step}
use Rattle.legal_trace.specs.Owed.{owed}
use Rattle.legal_trace.specs.Events.{is_bad_event}
use Rattle.legal_trace.specs.Legal.{IsOpen, IsWaiting, IsBefore, is_heard, are_pushes_heard, link_of, MayNotify, MayPart, MayPushBy, MayTurn, MayConnect, MayGenerate, MayRest, MayTimeConnect, MayTime, MayTimeRenewal, MayTimeRepeat, MayNeed, MayRenew, MayRepeat, MayRoundOn, MayTake, MayWatch, MayTimer, answer_time, rest_due, generation_due, link_due, word_of, MayClose, MaySetUp, MayBeCreated, MayBeLazy, MayFail, MayAnswer, MayTell, MayStart, MayWrite, MayWait, MayStand, AllStand, causes, event_causes, Legal}
use Rattle.legal_trace.proofs.Setups.{due_count}
use Rattle.trace_examples.proofs.Bounded.{IsBounded, is_numbered, still_bounded, blank_bounded}
use Rattle.trace_examples.proofs.Checks.{holds_if, held, none_from, is_empty, empty_from, filled_from, each_below, below, same_step, step_from, is_other_wait, other_wait}
use Rattle.trace_examples.proofs.Settled.{is_quiet, quiet, all_shown, verdicts_are_shown, none_ends, no_end, failure_shown, failures_are_shown, notices_told, notices_are_told, is_parted, end_told, ends_are_told, of_open, effects_shown, shown, is_applied, applied, ready_shown, ready_is_shown, sources_asked, sources_are_asked, is_to_set_up, are_set_up, setups_have_started, is_to_watch, are_watched, monitors_have_started, is_repeat_timed, repeats_timed, repeats_are_timed, can_repeat, are_repeated, repeats_have_started, is_renewal_timed, renewals_timed, renewals_are_timed, can_renew, watched_set, set_applied, repeated_watched, repeated_timed, is_begun, has_begun, all_stay, none_before, is_moved, moved, is_offered_up, offered, is_offered, is_written, written, wait_holds, holds, is_waiting, waiting, is_settled, settled}

-- a turn
abbrev pub turn_due : Book → ℕ → Cause → Bool
turn_due b k (cause.Opening config word) = (k == b.turns) && (b.turns == 0)
turn_due b k (cause.Event e) = (k == b.turns) && not (b.turns == 0) && is_settled b && not (is_bad_event b e.kind)

turn_stands : (b : Book) (k : ℕ) (c : Cause) → IsBounded b → turn_due b k c ≡ true → MayTurn b k c
turn_stands b k (cause.Opening config word) bounded e = record { next = eq_from k b.turns (both_left (k == b.turns) (b.turns == 0) e); is_for = eq_from b.turns 0 (both_right (k == b.turns) (b.turns == 0) e) }
turn_stands b k (cause.Event e) bounded t = record {
  next = eq_from k b.turns (search (both_left, both_right));
  is_for = (ne_from b.turns 0 (not-true (b.turns == 0) (search (both_left, both_right))), settled b bounded (search (both_left, both_right)), not-true (is_bad_event b e.kind) (search (both_left, both_right)));
}

-- a close of a link
abbrev pub close_due : Book → ℕ → Bool
close_due b l = is_some (ending (b.link l)) && each_below (λ m. is_none (ending (b.link m))) l && all_shown b && ready_shown b && sources_asked b && notices_told b

close_stands : (b : Book) (l : ℕ) → IsBounded b → close_due b l ≡ true → MayClose b l
close_stands b l bounded e = of_ending (ending (b.link l)) refl (search (both_left, both_right))
  where
    of_ending : (x : Option Ending) → ending (b.link l) ≡ x → is_some x ≡ true → MayClose b l
    of_ending None same t = cc t
    of_ending (Some why) same t = record {
      why = why;
      ends = same;
      in_order = λ m before. none_from (ending (b.link m)) (below (λ j. is_none (ending (b.link j))) l m (search (both_left, both_right)) before);
      answered = verdicts_are_shown b bounded (search (both_left, both_right));
      created = ready_is_shown b bounded (search (both_left, both_right));
      sourced = sources_are_asked b bounded (search (both_left, both_right));
      pushed = notices_are_told b bounded (search (both_left, both_right));
    }

-- its last message was full before this came
abbrev pub try_before : Book → Heard → Option Try → Bool
try_before b p None = false
try_before b p (Some t) = is_full_by (b.link t.link) p.after t.message

abbrev pub is_before : Book → ℕ → Heard → Bool
is_before b n p = try_before b p (last_of (b.story n).tries)

-- what this says
before_from : (b : Book) (n : ℕ) (p : Heard) → is_before b n p ≡ true → IsBefore b n p
before_from b n p e = of_try (last_of (b.story n).tries) refl e
  where
    of_try : (t : Option Try) → last_of (b.story n).tries ≡ t → try_before b p t ≡ true → IsBefore b n p
    of_try None same e = cc e
    of_try (Some t) same e = record { try = t; last = same; full = e }

-- and where it isn't so
not_before : (b : Book) (n : ℕ) (p : Heard) → is_before b n p ≡ false → IsBefore b n p → ⊥
not_before b n p e before = not_both (is_before b n p) e (ap (try_before b p) before.last ∙ before.full)

-- it is open, and its message was full before this came
abbrev pub answers_first : Book → Heard → ℕ → Bool
answers_first b p n = is_open (b.story n) && is_before b n p

-- what came next on a link; what it says is left to be said
abbrev pub tell_due : Book → ℕ → Option Heard → Bool
tell_due b l None = false
tell_due b l (Some p) = is_heard b && each_below (λ m. is_none (next_notice (b.link m))) l && ready_shown b && sources_asked b && each_below (λ n. not (answers_first b p n)) b.submissions

-- the notice says what came
abbrev pub IsNoticeOf : Notice → Option Heard → Type 0
IsNoticeOf n None = ⊥
IsNoticeOf n (Some p) = n ≡ p.what

-- so it may stand
tell_stands : (b : Book) (l : ℕ) (n : Notice) → IsBounded b → tell_due b l (next_notice (b.link l)) ≡ true → IsNoticeOf n (next_notice (b.link l)) → MayNotify b l n
tell_stands b l n bounded e said = of_notice (next_notice (b.link l)) refl e said
  where
    second_of : (p q : Bool) → (p && q) ≡ false → p ≡ true → q ≡ false
    second_of true q e t = e
    second_of false q e t = cc t

    of_notice : (x : Option Heard) → next_notice (b.link l) ≡ x → tell_due b l x ≡ true → IsNoticeOf n x → MayNotify b l n
    of_notice None same t s = absurd s
    of_notice (Some p) same t s = record {
      is_heard = search (both_left, both_right);
      heard = p;
      next = same;
      says = s;
      in_order = λ m before. none_from (next_notice (b.link m)) (below (λ j. is_none (next_notice (b.link j))) l m (search (both_left, both_right)) before);
      created = ready_is_shown b bounded (search (both_left, both_right));
      sourced = sources_are_asked b bounded (search (both_left, both_right));
      answered = λ k o on before. of_open b ⊥ k bounded
          (λ i. not_before b k p (second_of (is_open (b.story k)) (is_before b k p) (not-true (answers_first b p k) (below (λ m. not (answers_first b p m)) b.submissions k (search (both_left, both_right)) i)) o) before) o;
    }

-- that a fault ended a link; that it says no more is left to be said
abbrev pub part_due : Book → ℕ → Bool
part_due b l = are_pushes_heard b && each_below (λ m. is_parted b m) l && is_cut (b.link l).end && not (b.link l).parted && none_ends b && all_shown b && sources_asked b

-- what this says
part_stands : (b : Book) (l : ℕ) (info : PushInfo) → IsBounded b → part_due b l ≡ true → info.parts ≡ [] → MayPart b l info
part_stands b l info bounded e bare = record {
  heard = search (both_left, both_right);
  ended = search (both_left, both_right);
  once = not-true (b.link l).parted (search (both_left, both_right));
  bare = bare;
  in_order = λ m before cut. held (is_cut (b.link m).end) (b.link m).parted (below (λ j. is_parted b j) l m (search (both_left, both_right)) before) cut;
  closed = no_end b bounded (search (both_left, both_right));
  answered = verdicts_are_shown b bounded (search (both_left, both_right));
  sourced = sources_are_asked b bounded (search (both_left, both_right));
}

-- any push
abbrev pub push_due : Bool → Book → ℕ → Bool
push_due true b l = part_due b l
push_due false b l = tell_due b l (next_notice (b.link l))

-- what is left to be said of it
abbrev pub IsPushSaid : Bool → Book → ℕ → PushInfo → Type 0
IsPushSaid true b l info = info.parts ≡ []
IsPushSaid false b l info = IsNoticeOf (notice.Push info) (next_notice (b.link l))

push_stands : (disconnects : Bool) (b : Book) (l : ℕ) (info : PushInfo) → IsBounded b → push_due disconnects b l ≡ true → IsPushSaid disconnects b l info → MayPushBy disconnects b l info
push_stands true b l info bounded e said = part_stands b l info bounded e said
push_stands false b l info bounded e said = tell_stands b l (notice.Push info) bounded e said

-- the bytes of a link; which bytes they are is left to be said
abbrev pub write_due : Book → ℕ → List ℕ → Bool
write_due b l bytes = each_below (λ m. is_offered_up b m) l && is_moved b && (b.link l).up && is_empty (b.link l).offer && not (is_empty bytes)

write_stands : (b : Book) (l : ℕ) (bytes : List ℕ) → IsBounded b → write_due b l bytes ≡ true → bytes ≡ unwritten (b.link l) → MayWrite b l bytes
write_stands b l bytes bounded e all = record {
  moved = moved b bounded (search (both_left, both_right));
  up = search (both_left, both_right);
  answered = empty_from (b.link l).offer (search (both_left, both_right));
  all = all;
  some = filled_from bytes (search (both_left, both_right));
  in_order = λ m before up. offered (b.link m) (held (b.link m).up (is_offered (b.link m)) (below (λ j. is_offered_up b j) l m (search (both_left, both_right)) before) up);
}

-- its wait was shown and is true, if it is open and has no message
abbrev pub is_in_wait : Book → ℕ → Bool
is_in_wait b n = holds_if (is_open (b.story n)) (holds_if (is_empty (b.story n).tries) (is_waiting b n))

-- what it says
in_wait : (b : Book) (n : ℕ) → is_in_wait b n ≡ true → IsOpen b n → (b.story n).tries ≡ [] → IsWaiting b n
in_wait b n e o unstarted =
    waiting b n (held (is_empty (b.story n).tries) (is_waiting b n) (held (is_open (b.story n)) (holds_if (is_empty (b.story n).tries) (is_waiting b n)) e o) (ap is_empty unstarted))

-- a wait of an open submission
abbrev pub wait_due : Book → ℕ → WaitKind → Bool
wait_due b n kind = is_written b && is_open (b.story n) && is_empty (b.story n).tries && is_other_wait (b.story n).waiting kind && wait_holds b n kind && each_below (λ m. is_in_wait b m) n

wait_stands : (b : Book) (n : ℕ) (kind : WaitKind) → IsBounded b → wait_due b n kind ≡ true → MayWait b n kind
wait_stands b n kind bounded e = record {
  written = written b bounded (search (both_left, both_right));
  asked = search (both_left, both_right);
  unstarted = empty_from (b.story n).tries (search (both_left, both_right));
  new = other_wait (b.story n).waiting kind (search (both_left, both_right));
  holds = holds b n kind (search (both_left, both_right));
  in_order = λ m l. in_wait b m (below (λ m. is_in_wait b m) n m (search (both_left, both_right)) l);
}

-- a message of the first try
abbrev pub start_due : Book → ℕ → ℕ → ℕ → ℕ → ℕ → Bool
start_due b l k n count len =
    (is_begun b && is_unstarted (b.story n) && same_step (next_step b n) starts && all_stay b n) &&
    ((l == (b.story n).link) && (k == length (b.link l).starts) && (count == need_of (shape (b.story n))) && (len == length (bytes_of (b.story n))))

start_stands : (b : Book) (l k n count len : ℕ) → IsBounded b → start_due b l k n count len ≡ true → MayStart b l k n count len
start_stands b l k n count len bounded e = record {
  begun = has_begun b bounded (search (both_left, both_right));
  unstarted = search (both_left, both_right);
  starts = step_from (next_step b n) starts (search (both_left, both_right));
  in_order = none_before b n (search (both_left, both_right));
  on_its_link = eq_from l (b.story n).link (search (both_left, both_right));
  next = eq_from k (length (b.link l).starts) (search (both_left, both_right));
  needs_its_items = eq_from count (need_of (shape (b.story n))) (search (both_left, both_right));
  long_as_its_bytes = eq_from len (length (bytes_of (b.story n))) (search (both_left, both_right));
}

-- permits that are taken
abbrev pub take_due : Book → ℕ → ℕ → ℕ → Bool
take_due b n l count = is_begun b && is_unstarted (b.story n) && same_step (next_step b n) (takes count) && all_stay b n && (l == (b.story n).link)

-- what this says
take_stands : (b : Book) (n l count : ℕ) → IsBounded b → take_due b n l count ≡ true → MayTake b n l count
take_stands b n l count bounded e = record {
  begun = has_begun b bounded (search (both_left, both_right));
  unstarted = search (both_left, both_right);
  takes = step_from (next_step b n) (takes count) (search (both_left, both_right));
  in_order = none_before b n (search (both_left, both_right));
  on_its_link = eq_from l (b.story n).link (search (both_left, both_right));
}

-- a round that begins
abbrev pub round_due : Book → ℕ → Option ℕ → Bool
round_due b n None = false
round_due b n (Some l) = is_begun b && is_unstarted (b.story n) && same_step (next_step b n) rounds && all_stay b n && (l == (b.story n).link)

-- what this says
round_stands : (b : Book) (n : ℕ) (l : Option ℕ) → IsBounded b → round_due b n l ≡ true → MayRoundOn b n l
round_stands b n None bounded e = cc e
round_stands b n (Some l) bounded e = record {
  begun = has_begun b bounded (search (both_left, both_right));
  unstarted = search (both_left, both_right);
  rounds = step_from (next_step b n) rounds (search (both_left, both_right));
  in_order = none_before b n (search (both_left, both_right));
  on_its_link = eq_from l (b.story n).link (search (both_left, both_right));
}

-- the timer of a submission
abbrev pub ask_due : Book → ℕ → ℕ → ℕ → Bool
ask_due b t ms n = is_begun b && is_unstarted (b.story n) && same_step (next_step b n) (asks ms) && all_stay b n && (t == length b.timers)

-- what this says
ask_stands : (b : Book) (t ms n : ℕ) → IsBounded b → ask_due b t ms n ≡ true → MayTime b t ms (purpose.Response (owner.Try n 0))
ask_stands b t ms n bounded e = record {
  n = n;
  begun = has_begun b bounded (search (both_left, both_right));
  unstarted = search (both_left, both_right);
  asks = step_from (next_step b n) (asks ms) (search (both_left, both_right));
  in_order = none_before b n (search (both_left, both_right));
  next = eq_from t (length b.timers) (search (both_left, both_right));
  is_for = refl;
}

-- the timer of new credentials on a link; for how long is left to be said
abbrev pub renewal_time_due : Book → ℕ → ℕ → ℕ → Bool
renewal_time_due b t l k =
    are_repeated b && each_below (λ m. is_renewal_timed b m) l && (k == (b.link l).creds.timed) && nat_lt (b.link l).creds.timed (renewals_asked (b.link l)) && (t == length b.timers)

-- what this says
renewal_time_stands : (b : Book) (t ms l k : ℕ) → IsBounded b → renewal_time_due b t l k ≡ true → answer_time b.config ≡ Some ms → MayTimeRenewal b t ms (purpose.Renewal l k)
renewal_time_stands b t ms l k bounded e within =
    let repeated : are_repeated b ≡ true = search (both_left, both_right) in
    let watched : are_watched b ≡ true = repeated_watched b repeated in
    let set : are_set_up b ≡ true = watched_set b watched in
    record {
      applied = applied b bounded (set_applied b set);
      setups = setups_have_started b bounded set;
      monitors = monitors_have_started b bounded watched;
      repeats_timed = repeats_are_timed b bounded (repeated_timed b repeated);
      repeated = repeats_have_started b bounded repeated;
      l = l;
      within = within;
      asked = lt_from (b.link l).creds.timed (renewals_asked (b.link l)) (search (both_left, both_right));
      in_order = λ m before. le_from (renewals_asked (b.link m)) (b.link m).creds.timed (below (λ j. is_renewal_timed b j) l m (search (both_left, both_right)) before);
      next = eq_from t (length b.timers) (search (both_left, both_right));
      is_for = ap (purpose.Renewal l) (eq_from k (b.link l).creds.timed (search (both_left, both_right)));
    }

-- that of what is subscribed again on a link; for how long is left to be said
abbrev pub repeat_time_due : Book → ℕ → ℕ → Bool
repeat_time_due b t l = are_watched b && again_due (b.link l) && not (b.link l).again.timed && each_below (λ m. is_repeat_timed b m) l && (t == length b.timers)

-- what this says
repeat_time_stands : (b : Book) (t ms l : ℕ) → IsBounded b → repeat_time_due b t l ≡ true → answer_time b.config ≡ Some ms → MayTimeRepeat b t ms (purpose.Resubscription l)
repeat_time_stands b t ms l bounded e within =
    let watched : are_watched b ≡ true = search (both_left, both_right) in
    let set : are_set_up b ≡ true = watched_set b watched in
    record {
      applied = applied b bounded (set_applied b set);
      setups = setups_have_started b bounded set;
      monitors = monitors_have_started b bounded watched;
      l = l;
      within = within;
      due = search (both_left, both_right);
      once = not-true (b.link l).again.timed (search (both_left, both_right));
      in_order = λ m before due. held (again_due (b.link m)) (b.link m).again.timed (below (λ j. is_repeat_timed b j) l m (search (both_left, both_right)) before) due;
      next = eq_from t (length b.timers) (search (both_left, both_right));
      is_for = refl;
    }

-- that of the wait behind a failed attempt, of as many milliseconds as that says
abbrev pub is_backoff : Option ConnectionManagerConfig → Book → ℕ → Bool
is_backoff None b ms = false
is_backoff (Some settings) b ms = ms == backoff settings b.attempt (word_of b.running)

abbrev pub rest_time_due : Book → ℕ → ℕ → ℕ → Bool
rest_time_due b t ms g = effects_shown b && rest_due b && is_backoff (settings_in b.config) b ms && (t == length b.timers) && (g == b.generation)

-- what this says
rest_time_stands : (b : Book) (t ms g : ℕ) → IsBounded b → rest_time_due b t ms g ≡ true → MayRest b t ms (purpose.Backoff g)
rest_time_stands b t ms g bounded e = of_settings (settings_in b.config) refl (search (both_left, both_right))
  where
    of_settings : (s : Option ConnectionManagerConfig) → settings_in b.config ≡ s → is_backoff s b ms ≡ true → MayRest b t ms (purpose.Backoff g)
    of_settings None same t = cc t
    of_settings (Some settings) same is_long = record {
      shown = shown b bounded (search (both_left, both_right));
      due = search (both_left, both_right);
      settings = settings;
      set = same;
      next = eq_from t (length b.timers) (search (both_left, both_right));
      long = eq_from ms (backoff settings b.attempt (word_of b.running)) is_long;
      is_for = ap purpose.Backoff (eq_from g b.generation (search (both_left, both_right)));
    }

-- nothing else is to be asked for, and a connect has no timer
abbrev pub connect_time_due : Book → ℕ → Bool
connect_time_due b t = effects_shown b && not (rest_due b) && not (generation_due b) && not (link_due b) && nat_lt b.timed b.links && (t == length b.timers)

-- the timer of a connect, of which is left to be said for how long and for what; or another one
abbrev pub timer_due : Book → ℕ → ℕ → Purpose → Bool
timer_due b t ms (purpose.Connect l) = connect_time_due b t
timer_due b t ms (purpose.Response owner.Setup) = false
timer_due b t ms (purpose.Response owner.Auth) = false
timer_due b t ms (purpose.Response owner.Resub) = false
timer_due b t ms (purpose.Response owner.Monitor) = false
timer_due b t ms (purpose.Renewal l k) = renewal_time_due b t l k
timer_due b t ms (purpose.Backoff g) = rest_time_due b t ms g
timer_due b t ms (purpose.Resubscription l) = repeat_time_due b t l
timer_due b t ms (purpose.Response (owner.Try n round)) = (round == 0) && ask_due b t ms n

-- that a connect may take so long, and is what the timer is for
abbrev pub IsTime : Book → Option Config → ℕ → Purpose → Type 0
IsTime b None ms what = ⊥
IsTime b (Some config) ms what = (connect_timeout config ≡ Some ms) × (what ≡ purpose.Connect b.current)

-- this is left to be said of the timer of a connect, or of what the driver says itself
abbrev pub IsTimeOf : Book → ℕ → Purpose → Type 0
IsTimeOf b ms (purpose.Connect l) = IsTime b b.config ms (purpose.Connect l)
IsTimeOf b ms (purpose.Response who) = Unit {0}
IsTimeOf b ms (purpose.Renewal l k) = answer_time b.config ≡ Some ms
IsTimeOf b ms (purpose.Backoff g) = Unit {0}
IsTimeOf b ms (purpose.Resubscription l) = answer_time b.config ≡ Some ms

-- so the timer of a connect may stand
connect_timer_stands : (b : Book) (t ms l : ℕ) → IsBounded b → timer_due b t ms (purpose.Connect l) ≡ true → IsTime b b.config ms (purpose.Connect l) → MayTimeConnect b t ms (purpose.Connect l)
connect_timer_stands b t ms l bounded e said = of_config b.config refl said
  where
    of_config : (c : Option Config) → b.config ≡ c → IsTime b c ms (purpose.Connect l) → MayTimeConnect b t ms (purpose.Connect l)
    of_config None same s = absurd s
    of_config (Some config) same s = record {
      shown = shown b bounded (search (both_left, both_right));
      rested = not-true (rest_due b) (search (both_left, both_right));
      generated = not-true (generation_due b) (search (both_left, both_right));
      linked = not-true (link_due b) (search (both_left, both_right));
      due = lt_from b.timed b.links (search (both_left, both_right));
      config = config;
      told = same;
      bounded = s.0;
      next = eq_from t (length b.timers) (search (both_left, both_right));
      is_for = s.1;
    }

-- and any timer
timer_stands : (b : Book) (t ms : ℕ) (what : Purpose) → IsBounded b → timer_due b t ms what ≡ true → IsTimeOf b ms what → MayTimer b t ms what
timer_stands b t ms (purpose.Connect l) bounded e said = inl (inl (connect_timer_stands b t ms l bounded e said))
timer_stands b t ms (purpose.Response owner.Setup) bounded e said = cc e
timer_stands b t ms (purpose.Response owner.Auth) bounded e said = cc e
timer_stands b t ms (purpose.Response owner.Resub) bounded e said = cc e
timer_stands b t ms (purpose.Response owner.Monitor) bounded e said = cc e
timer_stands b t ms (purpose.Renewal l k) bounded e said = inr (inr (inl (renewal_time_stands b t ms l k bounded e said)))
timer_stands b t ms (purpose.Backoff g) bounded e said = inl (inr (rest_time_stands b t ms g bounded e))
timer_stands b t ms (purpose.Resubscription l) bounded e said = inr (inr (inr (repeat_time_stands b t ms l bounded e said)))
timer_stands b t ms (purpose.Response (owner.Try n round)) bounded e said =
    inr (inl (subst (λ r. MayTime b t ms (purpose.Response (owner.Try n r))) (sym (eq_from round 0 (both_left (round == 0) (ask_due b t ms n) e))) (ask_stands b t ms n bounded (both_right (round == 0) (ask_due b t ms n) e))))

-- a creation that failed, as the link did that was asked for last; with which error is left to be said
abbrev pub failure_due : Book → Bool
failure_due b = (b.created == 0) && none_ends b && all_shown b && sources_asked b && each_below (λ l. is_none (failure_in (b.link l).end)) b.current

failure_stands : (b : Book) (e : RedisError) → IsBounded b → failure_due b ≡ true → failure_in (b.link b.current).end ≡ Some e → MayFail b e
failure_stands b e bounded t fails = record {
  l = b.current;
  fails = fails;
  in_order = λ m before. none_from (failure_in (b.link m).end) (below (λ j. is_none (failure_in (b.link j).end)) b.current m (search (both_left, both_right)) before);
  once = eq_from b.created 0 (search (both_left, both_right));
  ended = no_end b bounded (search (both_left, both_right));
  answered = verdicts_are_shown b bounded (search (both_left, both_right));
  sourced = sources_are_asked b bounded (search (both_left, both_right));
}

-- a source of credentials for a link
abbrev pub need_due : Book → ℕ → ℕ → Bool
need_due b c l = each_below (λ m. not (source_due (b.link m))) l && source_due (b.link l) && (c == length b.sources) && all_shown b && ready_shown b

-- what this says
need_stands : (b : Book) (c l : ℕ) → IsBounded b → need_due b c l ≡ true → MayNeed b c l
need_stands b c l bounded e = record {
  due = search (both_left, both_right);
  next = eq_from c (length b.sources) (search (both_left, both_right));
  in_order = λ m before. not-true (source_due (b.link m)) (below (λ j. not (source_due (b.link j))) l m (search (both_left, both_right)) before);
  answered = verdicts_are_shown b bounded (search (both_left, both_right));
  created = ready_is_shown b bounded (search (both_left, both_right));
}

-- a session that waits for its first submission, of whose configuration nothing is refused
abbrev pub is_lazy_in : Option Config → Bool
is_lazy_in None = false
is_lazy_in (Some config) = is_lazy (Some config) && is_none (first_fault config)

-- the creation: of such a session, or where the link is ready that was asked for last
abbrev pub created_due : Book → Bool
created_due b = (b.created == 0) && (is_lazy_in b.config || (is_ready (b.link b.current) && all_shown b))

created_stands : (b : Book) → IsBounded b → created_due b ≡ true → MayBeCreated b ⊎ MayBeLazy b
created_stands b bounded e = either_of (is_lazy_in b.config) (is_ready (b.link b.current) && all_shown b) (both_right (b.created == 0) (is_lazy_in b.config || (is_ready (b.link b.current) && all_shown b)) e)
    (of_config b.config refl) (λ ready. record { l = b.current; ready = both_left (is_ready (b.link b.current)) (all_shown b) ready; once = once; answered = verdicts_are_shown b bounded (both_right (is_ready (b.link b.current)) (all_shown b) ready) })
  where
    once : b.created ≡ 0
    once = eq_from b.created 0 (both_left (b.created == 0) (is_lazy_in b.config || (is_ready (b.link b.current) && all_shown b)) e)

    either_of : {P Q : Type 0} (p q : Bool) → (p || q) ≡ true → (p ≡ true → Q) → (q ≡ true → P) → P ⊎ Q
    either_of true q t f g = inr (f refl)
    either_of false q t f g = inl (g t)

    of_config : (c : Option Config) → b.config ≡ c → is_lazy_in c ≡ true → MayBeLazy b
    of_config None same t = cc t
    of_config (Some config) same t = record { config = config; told = same; sound = none_from (first_fault config) (both_right (is_lazy (Some config)) (is_none (first_fault config)) t); lazy = both_left (is_lazy (Some config)) (is_none (first_fault config)) t; once = once }

-- what is to start on a link, which isn't held back, and on none before it
abbrev pub is_first : (Book → ℕ → Bool) → Book → ℕ → Bool
is_first test b l = test b l && each_below (λ m. not (test b m)) l

-- what doesn't hold with another
second_fails : (p q : Bool) → not (p && not q) ≡ true → p ≡ true → q ≡ true
second_fails true true e t = refl
second_fails true false e t = cc e
second_fails false q e t = cc t

-- the setup of a link, of that number
abbrev pub set_up_due : Book → ℕ → ℕ → ℕ → ℕ → Bool
set_up_due b l message count len =
    is_applied b && is_first is_to_set_up b l && (message == length (b.link l).starts) &&
    ((count == need_of (setup_message (b.link l) (setup_count (b.link l).starts)).shape) && (len == length (setup_message (b.link l) (setup_count (b.link l).starts)).bytes))

-- what this says
set_up_stands : (b : Book) (l message count len : ℕ) → IsBounded b → set_up_due b l message count len ≡ true → MaySetUp b l message count len
set_up_stands b l message count len bounded e = of_due (setup_due (b.link l)) refl (both_left (is_some (setup_due (b.link l))) (not (is_held_back b (b.link l))) mine)
  where
    mine : is_to_set_up b l ≡ true
    mine = search (both_left, both_right)

    of_due : (o : Option ℕ) → setup_due (b.link l) ≡ o → is_some o ≡ true → MaySetUp b l message count len
    of_due None same t = cc t
    of_due (Some k) same t =
        let number : setup_count (b.link l).starts ≡ k = due_count (b.link l) k same in
        record {
          applied = applied b bounded (search (both_left, both_right));
          k = k;
          due = same;
          free = not-true (is_held_back b (b.link l)) (both_right (is_some (setup_due (b.link l))) (not (is_held_back b (b.link l))) mine);
          in_order = λ m i before due. second_fails (is_some (setup_due (b.link m))) (is_held_back b (b.link m)) (below (λ j. not (is_to_set_up b j)) l m (search (both_left, both_right)) before) (ap is_some due);
          next = eq_from message (length (b.link l).starts) (search (both_left, both_right));
          needs_its_items = eq_from count (need_of (setup_message (b.link l) (setup_count (b.link l).starts)).shape) (search (both_left, both_right)) ∙ ap (λ n. need_of (setup_message (b.link l) n).shape) number;
          long_as_its_bytes = eq_from len (length (setup_message (b.link l) (setup_count (b.link l).starts)).bytes) (search (both_left, both_right)) ∙ ap (λ n. length (setup_message (b.link l) n).bytes) number;
        }

-- MONITOR on a link
abbrev pub watch_due : Book → ℕ → ℕ → ℕ → ℕ → Bool
watch_due b l message count len =
    are_set_up b && is_first is_to_watch b l && (message == length (b.link l).starts) && ((count == need_of monitor_message.shape) && (len == length monitor_message.bytes))

-- what this says
watch_stands : (b : Book) (l message count len : ℕ) → IsBounded b → watch_due b l message count len ≡ true → MayWatch b l message count len
watch_stands b l message count len bounded e =
    let set : are_set_up b ≡ true = search (both_left, both_right) in
    let watches : is_to_watch b l ≡ true = search (both_left, both_right) in
    record {
      applied = applied b bounded (set_applied b set);
      setups = setups_have_started b bounded set;
      due = both_left (monitor_due (b.link l)) (not (is_held_back b (b.link l))) watches;
      free = not-true (is_held_back b (b.link l)) (both_right (monitor_due (b.link l)) (not (is_held_back b (b.link l))) watches);
      in_order = λ m before due. second_fails (monitor_due (b.link m)) (is_held_back b (b.link m)) (below (λ j. not (is_to_watch b j)) l m (search (both_left, both_right)) before) due;
      next = eq_from message (length (b.link l).starts) (search (both_left, both_right));
      needs_its_items = eq_from count (need_of monitor_message.shape) (search (both_left, both_right));
      long_as_its_bytes = eq_from len (length monitor_message.bytes) (search (both_left, both_right));
    }

-- what is subscribed again on a link
abbrev pub repeat_due : Book → ℕ → ℕ → ℕ → ℕ → Bool
repeat_due b l message count len =
    are_watched b && repeats_timed b && is_first can_repeat b l && (message == length (b.link l).starts) &&
    ((count == need_of (again_message b.tracked).shape) && (len == length (again_message b.tracked).bytes))

-- what this says
repeat_stands : (b : Book) (l message count len : ℕ) → IsBounded b → repeat_due b l message count len ≡ true → MayRepeat b l message count len
repeat_stands b l message count len bounded e =
    let watched : are_watched b ≡ true = search (both_left, both_right) in
    let set : are_set_up b ≡ true = watched_set b watched in
    let repeats : can_repeat b l ≡ true = search (both_left, both_right) in
    record {
      applied = applied b bounded (set_applied b set);
      setups = setups_have_started b bounded set;
      monitors = monitors_have_started b bounded watched;
      timed = repeats_are_timed b bounded (search (both_left, both_right));
      due = both_left (again_due (b.link l)) (not (is_held_back b (b.link l))) repeats;
      free = not-true (is_held_back b (b.link l)) (both_right (again_due (b.link l)) (not (is_held_back b (b.link l))) repeats);
      in_order = λ m before due. second_fails (again_due (b.link m)) (is_held_back b (b.link m)) (below (λ j. not (can_repeat b j)) l m (search (both_left, both_right)) before) due;
      next = eq_from message (length (b.link l).starts) (search (both_left, both_right));
      needs_its_items = eq_from count (need_of (again_message b.tracked).shape) (search (both_left, both_right));
      long_as_its_bytes = eq_from len (length (again_message b.tracked).bytes) (search (both_left, both_right));
    }

-- new credentials on a link
abbrev pub renew_due : Book → ℕ → ℕ → ℕ → ℕ → Bool
renew_due b l message count len =
    are_repeated b && renewals_timed b && is_first can_renew b l && (message == length (b.link l).starts) &&
    ((count == need_of (renewal_in (renewal_due (b.link l))).shape) && (len == length (renewal_in (renewal_due (b.link l))).bytes))

-- what this says
renew_stands : (b : Book) (l message count len : ℕ) → IsBounded b → renew_due b l message count len ≡ true → MayRenew b l message count len
renew_stands b l message count len bounded e = of_due (renewal_due (b.link l)) refl (both_left (is_some (renewal_due (b.link l))) (not (is_renewal_held b l)) mine)
  where
    mine : can_renew b l ≡ true
    mine = search (both_left, both_right)

    of_due : (o : Option Credentials) → renewal_due (b.link l) ≡ o → is_some o ≡ true → MayRenew b l message count len
    of_due None same t = cc t
    of_due (Some c) same t =
        let repeated : are_repeated b ≡ true = search (both_left, both_right) in
        let watched : are_watched b ≡ true = repeated_watched b repeated in
        let set : are_set_up b ≡ true = watched_set b watched in
        record {
          applied = applied b bounded (set_applied b set);
          setups = setups_have_started b bounded set;
          monitors = monitors_have_started b bounded watched;
          repeats_timed = repeats_are_timed b bounded (repeated_timed b repeated);
          repeated = repeats_have_started b bounded repeated;
          timed = renewals_are_timed b bounded (search (both_left, both_right));
          credentials = c;
          due = same;
          free = not-true (is_renewal_held b l) (both_right (is_some (renewal_due (b.link l))) (not (is_renewal_held b l)) mine);
          in_order = λ m other before due. second_fails (is_some (renewal_due (b.link m))) (is_renewal_held b m) (below (λ j. not (can_renew b j)) l m (search (both_left, both_right)) before) (ap is_some due);
          next = eq_from message (length (b.link l).starts) (search (both_left, both_right));
          needs_its_items = eq_from count (need_of (renewal_in (renewal_due (b.link l))).shape) (search (both_left, both_right)) ∙ ap (λ o. need_of (renewal_in o).shape) same;
          long_as_its_bytes = eq_from len (length (renewal_in (renewal_due (b.link l))).bytes) (search (both_left, both_right)) ∙ ap (λ o. length (renewal_in o).bytes) same;
        }

-- the next generation
abbrev pub generation_is_due : Book → ℕ → Bool
generation_is_due b g = effects_shown b && not (rest_due b) && generation_due b && (g == b.generation + 1)

-- what this says
generation_stands : (b : Book) (g : ℕ) → IsBounded b → generation_is_due b g ≡ true → MayGenerate b g
generation_stands b g bounded e = record {
  shown = shown b bounded (search (both_left, both_right));
  rested = not-true (rest_due b) (search (both_left, both_right));
  due = search (both_left, both_right);
  next = eq_from g (b.generation + 1) (search (both_left, both_right));
}

-- its message was full before what is to be told next of its link came, if something is
abbrev pub is_before_next : Book → ℕ → Option Heard → Bool
is_before_next b n None = true
is_before_next b n (Some p) = is_before b n p

-- what this says
before_next : (b : Book) (n : ℕ) (x : Option Heard) (p : Heard) → is_before_next b n x ≡ true → x ≡ Some p → IsBefore b n p
before_next b n None p e same = cc same
before_next b n (Some q) p e same = before_from b n p (ap (λ o. is_before_next b n o) (sym same) ∙ e)

-- an outcome: what is owed, or where nothing is, the Nil of a command whose reply nobody awaits; which it is is left to be said
abbrev pub outcome_due : Book → ℕ → Option Outcome → Bool
outcome_due b n (Some o) = each_below (λ m. is_quiet b m) n && holds_if (is_heard b) (is_before_next b n (next_notice (link_of b n))) && holds_if (is_over (link_of b n)) (none_ends b && all_shown b && failure_shown b && end_told b && sources_asked b)
outcome_due b n None = is_begun b && is_unstarted (b.story n) && same_step (next_step b n) tells && all_stay b n

-- what is said is what is owed, or Nil
abbrev pub IsSaid : Outcome → Option Outcome → Type 0
IsSaid said None = said ≡ outcome.One Nil
IsSaid said (Some o) = said ≡ o

outcome_stands : (b : Book) (n : ℕ) (o : Outcome) → IsBounded b → (is_open (b.story n) && outcome_due b n (owed b n)) ≡ true → IsSaid o (owed b n) → MayAnswer b n o ⊎ MayTell b n o
outcome_stands b n o bounded e said = of_owed (owed b n) refl (both_right (is_open (b.story n)) (outcome_due b n (owed b n)) e) said
  where
    open_still : IsOpen b n
    open_still = both_left (is_open (b.story n)) (outcome_due b n (owed b n)) e

    of_owed : (x : Option Outcome) → owed b n ≡ x → outcome_due b n x ≡ true → IsSaid o x → MayAnswer b n o ⊎ MayTell b n o
    of_owed (Some p) same t s = inl (record {
      asked = open_still;
      owes = same ∙ ap Some (sym s);
      in_order = λ m l open_too alike. quiet b m (below (λ m. is_quiet b m) n m (search both_left) l) open_too;
      after_notices = λ heard p waits.
          before_next b n (next_notice (link_of b n)) p (held (is_heard b) (is_before_next b n (next_notice (link_of b n))) (search (both_left, both_right)) heard) waits;
      after_closes = λ over.
          let done = held (is_over (link_of b n)) (none_ends b && all_shown b && failure_shown b && end_told b && sources_asked b) (search (both_left, both_right)) over in (
            no_end b bounded (search (both_left, both_right)),
            verdicts_are_shown b bounded (search (both_left, both_right)),
            failures_are_shown b bounded (search (both_left, both_right)),
            ends_are_told b bounded (search (both_left, both_right)),
          );
      after_sources = λ over.
          let done = held (is_over (link_of b n)) (none_ends b && all_shown b && failure_shown b && end_told b && sources_asked b) (search (both_left, both_right)) over in
          sources_are_asked b bounded (search (both_left, both_right));
    })
    of_owed None same t s = inr (record {
      begun = has_begun b bounded (search (both_left, both_right));
      asked = open_still;
      unstarted = search (both_left, both_right);
      tells = step_from (next_step b n) tells (search (both_left, both_right));
      in_order = none_before b n (search (both_left, both_right));
      nil = s;
    })

-- a link is to be asked for, with the next number
abbrev pub connect_due : Book → ℕ → Bool
connect_due b l = effects_shown b && not (rest_due b) && not (generation_due b) && link_due b && (l == b.links)

-- each step is due but for what is left to be said
abbrev pub due : Book → Action → Bool
due b (action.Turn k c) = turn_due b k c
due b (action.Connect l host port) = connect_due b l
due b (action.Timer t ms what) = timer_due b t ms what
due b (action.Took owner.Setup l count) = false
due b (action.Took owner.Auth l count) = false
due b (action.Took owner.Resub l count) = false
due b (action.Took owner.Monitor l count) = false
due b (action.Took (owner.Try n round) l count) = (round == 0) && take_due b n l count
due b (action.Push l info) = push_due (is_disconnection info.kind) b l
due b (action.Message m) = tell_due b b.current (next_notice (b.link b.current))
due b (action.Monitor v) = tell_due b b.current (next_notice (b.link b.current))
due b (action.NeedCreds c l) = need_due b c l
due b (action.Generation g) = generation_is_due b g
due b (action.Round owner.Setup l) = false
due b (action.Round owner.Auth l) = false
due b (action.Round owner.Resub l) = false
due b (action.Round owner.Monitor l) = false
due b (action.Round (owner.Try n round) l) = (round == 0) && round_due b n l
due b (action.Close l) = close_due b l
due b (action.Write l bytes) = write_due b l bytes
due b (action.Wait owner.Setup kind) = false
due b (action.Wait owner.Auth kind) = false
due b (action.Wait owner.Resub kind) = false
due b (action.Wait owner.Monitor kind) = false
due b (action.Wait (owner.Try n round) kind) = (round == 0) && wait_due b n kind
due b (action.Start l k owner.Setup count len) = set_up_due b l k count len
due b (action.Start l k owner.Auth count len) = renew_due b l k count len
due b (action.Start l k owner.Resub count len) = repeat_due b l k count len
due b (action.Start l k owner.Monitor count len) = watch_due b l k count len
due b (action.Start l k (owner.Try n round) count len) = (round == 0) && start_due b l k n count len
due b (action.Created None) = created_due b
due b (action.Created (Some e)) = failure_due b
due b (action.Outcome n o) = is_open (b.story n) && outcome_due b n (owed b n)

-- and so are all of these
abbrev pub all_due : Book → List Action → Bool
all_due b [] = true
all_due b (a ∷ more) = due b a && is_numbered b a && all_due (entered b a) more

-- what is left to be said is the address of links and the time of their connects, the error with which the creation failed, the
-- bytes that are offered, and the outcomes: this is the address
pub record IsPlace (config : Config) (host : List ℕ) (port : ℕ) : Type 0 where
  pub sound : first_fault config ≡ None
  pub info : ConnectionInfo
  pub configured : address config ≡ Some info
  pub is : (host ≡ info.host) × (port ≡ info.port)

-- that of the configuration
abbrev pub IsAddress : Option Config → List ℕ → ℕ → Type 0
IsAddress None host port = ⊥
IsAddress (Some config) host port = IsPlace config host port

-- so a link may be asked for
connect_stands : (b : Book) (l : ℕ) (host : List ℕ) (port : ℕ) → IsBounded b → connect_due b l ≡ true → IsAddress b.config host port → MayConnect b l host port
connect_stands b l host port bounded e place = of_config b.config refl place
  where
    of_config : (c : Option Config) → b.config ≡ c → IsAddress c host port → MayConnect b l host port
    of_config None same a = absurd a
    of_config (Some config) same a = record {
      shown = shown b bounded (search (both_left, both_right));
      rested = not-true (rest_due b) (search (both_left, both_right));
      generated = not-true (generation_due b) (search (both_left, both_right));
      due = search (both_left, both_right);
      config = config;
      told = same;
      sound = a.sound;
      next = eq_from l b.links (search (both_left, both_right));
      info = a.info;
      configured = a.configured;
      address = a.is;
    }

-- what is left to be said of all of these
abbrev pub AllSaid : Book → List Action → Type 0
AllSaid b [] = Unit {0}
AllSaid b (action.Connect l host port ∷ more) = IsAddress b.config host port × AllSaid (entered b (action.Connect l host port)) more
AllSaid b (action.Write l bytes ∷ more) = (bytes ≡ unwritten (b.link l)) × AllSaid (entered b (action.Write l bytes)) more
AllSaid b (action.Outcome n o ∷ more) = IsSaid o (owed b n) × AllSaid (entered b (action.Outcome n o)) more
AllSaid b (action.Turn k c ∷ more) = AllSaid (entered b (action.Turn k c)) more
AllSaid b (action.Timer t ms what ∷ more) = IsTimeOf b ms what × AllSaid (entered b (action.Timer t ms what)) more
AllSaid b (action.Took who l count ∷ more) = AllSaid (entered b (action.Took who l count)) more
AllSaid b (action.Push l info ∷ more) = IsPushSaid (is_disconnection info.kind) b l info × AllSaid (entered b (action.Push l info)) more
AllSaid b (action.Message m ∷ more) = IsNoticeOf (notice.Message m) (next_notice (b.link b.current)) × AllSaid (entered b (action.Message m)) more
AllSaid b (action.Monitor v ∷ more) = IsNoticeOf (notice.Monitor v) (next_notice (b.link b.current)) × AllSaid (entered b (action.Monitor v)) more
AllSaid b (action.NeedCreds c l ∷ more) = AllSaid (entered b (action.NeedCreds c l)) more
AllSaid b (action.Generation g ∷ more) = AllSaid (entered b (action.Generation g)) more
AllSaid b (action.Round who l ∷ more) = AllSaid (entered b (action.Round who l)) more
AllSaid b (action.Close l ∷ more) = AllSaid (entered b (action.Close l)) more
AllSaid b (action.Wait who kind ∷ more) = AllSaid (entered b (action.Wait who kind)) more
AllSaid b (action.Start l k who count len ∷ more) = AllSaid (entered b (action.Start l k who count len)) more
AllSaid b (action.Created None ∷ more) = AllSaid (entered b (action.Created None)) more
AllSaid b (action.Created (Some e) ∷ more) = (failure_in (b.link b.current).end ≡ Some e) × AllSaid (entered b (action.Created (Some e))) more

-- the first of these may stand
first_stands : (b : Book) (a : Action) (more : List Action) → IsBounded b → due b a ≡ true → AllSaid b (a ∷ more) → MayStand b a × AllSaid (entered b a) more
first_stands b (action.Turn k c) more bounded e said = (turn_stands b k c bounded e, said)
first_stands b (action.Connect l host port) more bounded e said = (connect_stands b l host port bounded e said.0, said.1)
first_stands b (action.Timer t ms what) more bounded e said = (timer_stands b t ms what bounded e said.0, said.1)
first_stands b (action.Took owner.Setup l count) more bounded e said = absurd (cc e)
first_stands b (action.Took owner.Auth l count) more bounded e said = absurd (cc e)
first_stands b (action.Took owner.Resub l count) more bounded e said = absurd (cc e)
first_stands b (action.Took owner.Monitor l count) more bounded e said = absurd (cc e)
first_stands b (action.Took (owner.Try n round) l count) more bounded e said =
    ((eq_from round 0 (both_left (round == 0) (take_due b n l count) e), take_stands b n l count bounded (both_right (round == 0) (take_due b n l count) e)), said)
first_stands b (action.Push l info) more bounded e said = (push_stands (is_disconnection info.kind) b l info bounded e said.0, said.1)
first_stands b (action.Message m) more bounded e said = (tell_stands b b.current (notice.Message m) bounded e said.0, said.1)
first_stands b (action.Monitor v) more bounded e said = (tell_stands b b.current (notice.Monitor v) bounded e said.0, said.1)
first_stands b (action.NeedCreds c l) more bounded e said = (need_stands b c l bounded e, said)
first_stands b (action.Generation g) more bounded e said = (generation_stands b g bounded e, said)
first_stands b (action.Round owner.Setup l) more bounded e said = absurd (cc e)
first_stands b (action.Round owner.Auth l) more bounded e said = absurd (cc e)
first_stands b (action.Round owner.Resub l) more bounded e said = absurd (cc e)
first_stands b (action.Round owner.Monitor l) more bounded e said = absurd (cc e)
first_stands b (action.Round (owner.Try n round) l) more bounded e said =
    ((eq_from round 0 (both_left (round == 0) (round_due b n l) e), round_stands b n l bounded (both_right (round == 0) (round_due b n l) e)), said)
first_stands b (action.Close l) more bounded e said = (close_stands b l bounded e, said)
first_stands b (action.Write l bytes) more bounded e said = (write_stands b l bytes bounded e said.0, said.1)
first_stands b (action.Wait owner.Setup kind) more bounded e said = absurd (cc e)
first_stands b (action.Wait owner.Auth kind) more bounded e said = absurd (cc e)
first_stands b (action.Wait owner.Resub kind) more bounded e said = absurd (cc e)
first_stands b (action.Wait owner.Monitor kind) more bounded e said = absurd (cc e)
first_stands b (action.Wait (owner.Try n round) kind) more bounded e said =
    ((eq_from round 0 (both_left (round == 0) (wait_due b n kind) e), wait_stands b n kind bounded (both_right (round == 0) (wait_due b n kind) e)), said)
first_stands b (action.Start l k owner.Setup count len) more bounded e said = (set_up_stands b l k count len bounded e, said)
first_stands b (action.Start l k owner.Resub count len) more bounded e said = (repeat_stands b l k count len bounded e, said)
first_stands b (action.Start l k owner.Monitor count len) more bounded e said = (watch_stands b l k count len bounded e, said)
first_stands b (action.Start l k owner.Auth count len) more bounded e said = (renew_stands b l k count len bounded e, said)
first_stands b (action.Start l k (owner.Try n round) count len) more bounded e said =
    ((eq_from round 0 (both_left (round == 0) (start_due b l k n count len) e), start_stands b l k n count len bounded (both_right (round == 0) (start_due b l k n count len) e)), said)
first_stands b (action.Created None) more bounded e said = (created_stands b bounded e, said)
first_stands b (action.Created (Some x)) more bounded e said = (failure_stands b x bounded e said.0, said.1)
first_stands b (action.Outcome n o) more bounded e said = (outcome_stands b n o bounded e said.0, said.1)

-- and so may all
all_stand : (b : Book) (t : List Action) → IsBounded b → all_due b t ≡ true → AllSaid b t → AllStand b t × IsBounded (entered_each b t)
all_stand b [] bounded e said = (tt, bounded)
all_stand b (a ∷ more) bounded e said =
    let one = both_left (due b a && is_numbered b a) (all_due (entered b a) more) e in
    let first = first_stands b a more bounded (both_left (due b a) (is_numbered b a) one) said in
    let after = still_bounded b a (both_right (due b a) (is_numbered b a) one) bounded in
    let next = all_stand (entered b a) more after (both_right (due b a && is_numbered b a) (all_due (entered b a) more) e) first.1 in
    ((first.0, next.0), next.1)

-- the front of a trace, each of whose steps is due
pub stands : (front : List Action) → all_due blank_book front ≡ true → AllSaid blank_book front → AllStand blank_book front
stands front e said = (all_stand blank_book front blank_bounded e said).0

-- a trace with the turns of these events, each of whose steps is due, and that is settled at its end
pub legal : (config : Config) (word : ℕ) (events : List Event) (trace : List Action)
    → causes trace ≡ cause.Opening config word ∷ event_causes events → (all_due blank_book trace && is_settled (entered_each blank_book trace)) ≡ true → AllSaid blank_book trace → Legal config word events trace
unfolding book
legal config word events trace turns e said =
    let h = all_stand blank_book trace blank_bounded (both_left (all_due blank_book trace) (is_settled (entered_each blank_book trace)) e) said in
    record { turns = turns; each = h.0; settled = settled (entered_each blank_book trace) h.1 (both_right (all_due blank_book trace) (is_settled (entered_each blank_book trace)) e) }
