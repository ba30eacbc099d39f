-- What comes of a link that has ended shows nothing.
use Rattle.std.proofs.Common.{◌≡◌, ◌≢◌, ◌⊎◌, inl, inr, ℕ, ◌+◌, ◌-◌, ◌≤◌, ◌==◌, Bool, true, false, ◌&&◌, ◌||◌, not, List, [], ◌∷◌, ◌++◌, length, take, Option, Some, None, is_none, nat_lt, if◌then◌else◌, refl, sym, ◌∙◌, ap, subst, arith}
use Rattle.containers.proofs.Choices.{by_test, chosen, taken_if, left_if, eq_from, ne_test}
use Rattle.redis_error.specs.declared.fault_kind.FaultKind.{FaultKind}
use Rattle.redis_error.specs.declared.fault_kind.FaultKind.TheVariants as kind
use Rattle.redis_error.specs.declared.redis_error.RedisError.{RedisError}
use Rattle.redis_error.specs.declared.redis_error.RedisError.TheVariants as error
use Rattle.connection_info.specs.Protocol.{is_resp3}
use Rattle.driver_model.specs.declared.action.Action.{Action}
use Rattle.driver_model.specs.declared.action.Action.TheVariants as action
use Rattle.driver_model.specs.declared.action.Cause.{Cause}
use Rattle.driver_model.specs.declared.action.Cause.TheVariants as cause
use Rattle.driver_model.specs.declared.config.Config.{Config}
use Rattle.driver_model.specs.declared.event.Event.{Event}
use Rattle.driver_model.specs.declared.event.EventKind.{EventKind}
use Rattle.driver_model.specs.declared.event.EventKind.TheVariants as event
use Rattle.driver_model.specs.declared.news.LinkFault.TheVariants as fault
use Rattle.driver_model.specs.declared.outcome.Outcome.TheVariants as outcome
use Rattle.driver_model.specs.News.{News, silence, connected, refused, overdue, took, came, failed, authorized, denied, deserted, renewed, unrenewed, late, unrepeated, dropped, shut, for_link, news_of}
use Rattle.legal_trace.specs.Ledger.{Ledger, End, Ending, asks, hears, begins, offers, ends, sources, noted, with_news, refused_in, bytes_came, is_over, is_fault, is_full, is_set_up, is_ready, is_cut, dials, ending, ending_alive, ending_asked, ending_by, ending_unready, ending_up, error_in, failure_in, setup_result, setup_due, monitor_due, next_notice, renewal_due, renewals_asked, source_due, IsOffered, awaits_credentials, authorized_by, may_renew, renewed_by, unrenewed_by, is_renewal_open, lost_by, is_repeating, unrepeated_by, again_due}
use Rattle.legal_trace.specs.Story.{Story, Try, has_place, bytes_of, last_of, shape}
use Rattle.legal_trace.specs.Owed.{owed, owed_to_try, owed_to_message, owed_waiting}
use Rattle.legal_trace.specs.Steps.{is_due, is_held_back, next_step}
use Rattle.legal_trace.specs.Managers.{settings_in, is_last}
use Rattle.legal_trace.specs.Again.{repeats_in}
use Rattle.legal_trace.proofs.Clocks.{timer_tells}
use Rattle.legal_trace.specs.Book.{Book, blank_book, book, entered, entered_each, after_event, due_since, placed_since, has_generations, hearing_in, info_in, kind_in, message_of, rest_after, shuts, submitted_by, timeout_after, wanted_in}
use Rattle.legal_trace.specs.Legal.{MayStand, AllStand, Legal, IsOpen, IsStarted, IsWaiting, IsSettled, NoneEnds, current_link, is_attempt, is_lost_in, is_caused, begins_first, generation_due, rest_due, link_due}
use Rattle.legal_trace.proofs.Ahead.{held_where_moved, held_with_link}
use Rattle.legal_trace.proofs.Ledgers.{mine_keeps, UpIsNotOver}
use Rattle.legal_trace.proofs.Plain.{same_some}
use Rattle.legal_trace.proofs.Came.{holds_bytes}
use Rattle.legal_laws.specs.Late.{IsLate, LateIsNothing}
use Rattle.legal_laws.specs.Notices.{IsWhole}
use Rattle.legal_laws.proofs.Links.Bounds.{next_may}
use Rattle.legal_laws.proofs.Traces.Equal.{only_a_turn}
use Rattle.legal_laws.proofs.Generations.Generations.{last_fails, second_may}
use Rattle.legal_laws.proofs.Generations.Lives.{over_is_down}
use Rattle.legal_laws.proofs.Notices.Notices.{front_stands}
use Rattle.legal_laws.proofs.Notices.Pushed.{push_keeps, tell_keeps}
use Rattle.legal_laws.proofs.Traces.Sound.{Sound, stays_sound, sound_behind}

-- a link that has ended did so in this turn or before
abbrev EndsBy : ℕ → Ledger → Type 0
EndsBy k l = (end : End) → l.end ≡ Some end → end.turn ≤ k

-- so has each
abbrev EndsPast : Book → Type 0
EndsPast b = (l : ℕ) → EndsBy (b.turns - 1) (b.link l)

-- the turn of an end
abbrev turn_in : Option End → ℕ
turn_in None = 0
turn_in (Some end) = end.turn

-- one that is refused in a turn ends in it
refused_by : (k : ℕ) (l : Ledger) (e : RedisError) → EndsBy k (refused_in l k e)
refused_by k l e end is = let same : k ≡ end.turn = ap turn_in is in omega (arith, same)

-- news of a turn end a link in it
by_hears : (k : ℕ) (l : Ledger) (news : News) → EndsBy k l → EndsBy k (with_news l k news)
by_hears k l silence h = h
by_hears k l connected h = chosen (EndsBy k) (is_over l) l (record l { up = true }) (λ t. h) (λ f. h)
by_hears k l (refused f) h = chosen (EndsBy k) (dials l) (refused_in l k (error.Io f)) l (λ t. refused_by k l (error.Io f)) (λ e. h)
by_hears k l overdue h = h
by_hears k l (took count) h = chosen (EndsBy k) l.up (record l { taken = l.taken ++ take count l.offer; offer = [] }) l (λ t. h) (λ f. h)
by_hears k l (came piece) h = chosen (EndsBy k) l.up (bytes_came l piece) l (λ t. holds_bytes (EndsBy k) l piece (λ rest strange told more. h)) (λ f. h)
by_hears k l (failed f) h = h
by_hears k l (authorized c) h = chosen (EndsBy k) (awaits_credentials l) (authorized_by l c) l (λ t. h) (λ f. h)
by_hears k l (denied text) h = h
by_hears k l deserted h = h
by_hears k l (renewed c) h = chosen (EndsBy k) (may_renew l) (renewed_by l c) l (λ t. h) (λ f. h)
by_hears k l unrenewed h = chosen (EndsBy k) l.up (unrenewed_by l) l (λ t. h) (λ f. h)
by_hears k l (late i) h = chosen (EndsBy k) (l.up && is_renewal_open l i) (lost_by l) l (λ t. h) (λ f. h)
by_hears k l unrepeated h = chosen (EndsBy k) (is_repeating l) (unrepeated_by l) l (λ t. h) (λ f. h)
by_hears k l dropped h = h
by_hears k l shut h = h

-- one that ends in a turn has that turn
ended_by : (k : ℕ) (l : Ledger) → EndsBy k (noted l (ends k))
ended_by k l end is = let same : k ≡ end.turn = ap turn_in is in omega (arith, same)

-- so it is behind each action that may stand
past_kept : (b : Book) (a : Action) → MayStand b a → EndsPast b → EndsPast (entered b a)
past_kept b (action.Turn k (cause.Opening config word)) may h l = λ end is. let i : end.turn ≤ b.turns - 1 = h l end is in omega (arith, i)
past_kept b (action.Turn k (cause.Event e)) may h l = λ end is.
    let same : k ≡ b.turns = may.next in
    let before : EndsBy k (b.link l) = λ other was. let i : other.turn ≤ b.turns - 1 = h l other was in omega (arith, i, same) in
    let i : end.turn ≤ k = by_hears k (b.link l) (news_of b.timers b.sources l e.kind) before end is in
    omega (arith, i, same)
past_kept b (action.Connect m host port) may h l = mine_keeps (EndsBy (b.turns - 1)) (m == l) (b.link l) (asks (info_in b.config) (wanted_in b.config) (hearing_in b.config) (is_last (settings_in b.config) b.attempt) (repeats_in (settings_in b.config) b.tracked)) (λ t. h l) (h l)
past_kept b (action.Timer t ms what) may h l = timer_tells (EndsBy (b.turns - 1)) (b.link l) l what (λ on k is e. h l) (λ on is e. h l) (h l)
past_kept b (action.Took who m count) may h l = h l
past_kept b (action.Push m info) may h l = push_keeps (EndsBy (b.turns - 1)) (m == l) info.kind (b.link l) (h l) (h l) (h l)
past_kept b (action.Message msg) may h l = tell_keeps (EndsBy (b.turns - 1)) (b.current == l) (b.link l) (h l) (h l)
past_kept b (action.Monitor v) may h l = tell_keeps (EndsBy (b.turns - 1)) (b.current == l) (b.link l) (h l) (h l)
past_kept b (action.NeedCreds c m) may h l = mine_keeps (EndsBy (b.turns - 1)) (m == l) (b.link l) sources (λ e. h l) (h l)
past_kept b (action.Generation g) may h l = h l
past_kept b (action.Round who m) may h l = h l
past_kept b (action.Close m) may h l = mine_keeps (EndsBy (b.turns - 1)) (m == l) (b.link l) (ends (b.turns - 1)) (λ t. ended_by (b.turns - 1) (b.link l)) (h l)
past_kept b (action.Write m bytes) may h l = mine_keeps (EndsBy (b.turns - 1)) (m == l) (b.link l) (offers bytes) (λ t. h l) (h l)
past_kept b (action.Wait who kind) may h l = h l
past_kept b (action.Start m k who count len) may h l = mine_keeps (EndsBy (b.turns - 1)) (m == l) (b.link l) (begins (message_of b m who)) (λ t. h l) (h l)
past_kept b (action.Created e) may h l = h l
past_kept b (action.Outcome n o) may h l = h l

-- and behind many
past_each : (b : Book) (front : List Action) → AllStand b front → EndsPast b → EndsPast (entered_each b front)
past_each b [] all h = h
past_each b (a ∷ more) all h = past_each (entered b a) more all.1 (past_kept b a all.0 h)

past_behind : (front : List Action) → AllStand blank_book front → EndsPast (book front)
unfolding book
past_behind front all = past_each blank_book front all (λ l end is. absurd (cc is))

-- these links are those of a book but for what they hear
abbrev Alike : Book → (ℕ → Ledger) → (ℕ → News) → Type 0
Alike b link news = (n : ℕ) → link n ≡ record (b.link n) { heard = news n }

-- they hear nothing where they haven't ended
abbrev HearsLate : Book → (ℕ → News) → Type 0
HearsLate b news = (n : ℕ) → (is_over (b.link n) ≡ true) ⊎ (news n ≡ silence)

-- a book in which another turn begins, in which nothing else changes, whatever it says of when places were taken, or new credentials became due
abbrev passed : Book → ℕ → Option Cause → Option ℕ → (ℕ → Option ℕ) → (ℕ → ℕ) → (ℕ → Ledger) → Book
passed b turns running timeout placed since link = record b { turns = turns; running = running; timeout = timeout; errors = []; placed = placed; since = since; link = link }

-- an error that wasn't there isn't
no_error : (o : Option RedisError) (x : Option Ending) → ending_by o x ≡ None → ending_by o None ≡ None
no_error None x e = refl
no_error (Some err) x e = absurd (cc e)

-- what has ended isn't open
not_waiting : (asked over : Bool) → over ≡ true → (asked && not over) ≡ false
not_waiting true true e = refl
not_waiting true false e = absurd (cc e)
not_waiting false over e = refl

not_dialling : (asked up over : Bool) → over ≡ true → (asked && not up && not over) ≡ false
not_dialling true true over e = refl
not_dialling true false true e = refl
not_dialling true false false e = absurd (cc e)
not_dialling false up over e = refl

-- a link that has ended doesn't end, whatever it hears
over_ends : (l : Ledger) (news : News) → UpIsNotOver l → is_over l ≡ true → ending (record l { heard = news }) ≡ None
over_ends l news up over =
    left_if l.up (ending_alive (record l { heard = news })) (if l.asked && not (is_over l) then ending_asked (record l { heard = news }) news else None) (over_is_down l up over)
    ∙ left_if (l.asked && not (is_over l)) (ending_asked (record l { heard = news }) news) None (not_waiting l.asked (is_over l) over)

-- nor does one that doesn't where it hears nothing
quiet_alive : (l : Ledger) → ending_alive l ≡ None → ending_alive (record l { heard = silence }) ≡ None
quiet_alive l none = by_test (is_set_up l) (ending_alive (record l { heard = silence }) ≡ None)
    (λ t. taken_if (is_set_up l) None (ending_by (error_in (setup_result l)) None) t)
    (λ f. left_if (is_set_up l) None (ending_by (error_in (setup_result l)) None) f
    ∙ no_error (error_in (setup_result l)) (ending_unready l l.heard) (sym (left_if (is_set_up l) (ending_up l l.heard) (ending_by (error_in (setup_result l)) (ending_unready l l.heard)) f) ∙ none))

quiet_asked : (l : Ledger) (waits : Bool) → (if waits then ending_asked l silence else None) ≡ None
quiet_asked l true = refl
quiet_asked l false = refl

quiet_ends : (l : Ledger) → ending l ≡ None → ending (record l { heard = silence }) ≡ None
quiet_ends l none = by_test l.up (ending (record l { heard = silence }) ≡ None)
    (λ t. taken_if l.up (ending_alive (record l { heard = silence })) (if l.asked && not (is_over l) then None else None) t
    ∙ quiet_alive l (sym (taken_if l.up (ending_alive l) (if l.asked && not (is_over l) then ending_asked l l.heard else None) t) ∙ none))
    (λ f. left_if l.up (ending_alive (record l { heard = silence })) (if l.asked && not (is_over l) then None else None) f ∙ quiet_asked l (l.asked && not (is_over l)))

late_ends : (l : Ledger) (news : News) → UpIsNotOver l → (is_over l ≡ true) ⊎ (news ≡ silence) → ending l ≡ None → ending (record l { heard = news }) ≡ None
late_ends l news up h none = elim h [
  | inl over ↦ over_ends l news up over
  | inr quiet ↦ ap (λ x. ending (record l { heard = x })) quiet ∙ quiet_ends l none
]

-- what a submission is owed stays
try_alike : (b : Book) (turns : ℕ) (r : Option Cause) (o : Option ℕ) (placed : ℕ → Option ℕ) (since : ℕ → ℕ) (link : ℕ → Ledger) (news : ℕ → News) → Alike b link news → (s : Story) (t : Option Try) → owed_to_try (passed b turns r o placed since link) s t ≡ owed_to_try b s t
try_alike b turns r o placed since link news same s None = ap (owed_waiting b.shut) (same s.link)
try_alike b turns r o placed since link news same s (Some t) = ap (λ (l : Ledger). owed_to_message l t.message (shape s)) (same t.link)

owed_alike : (b : Book) (turns : ℕ) (r : Option Cause) (o : Option ℕ) (placed : ℕ → Option ℕ) (since : ℕ → ℕ) (link : ℕ → Ledger) (news : ℕ → News) → Alike b link news → (n : ℕ) → owed (passed b turns r o placed since link) n ≡ owed b n
owed_alike b turns r o placed since link news same n =
    ap (λ x. if (b.story n).late then Some (outcome.Fault error.Closed) else if (b.story n).unspoken then Some (outcome.Fault error.Resp3Required) else if length (bytes_of (b.story n)) == 0 then Some (outcome.Fault error.EmptyCommand) else if (b.story n).overdue then Some (outcome.Fault (error.Io kind.TimedOut)) else x)
    (try_alike b turns r o placed since link news same (b.story n) (last_of (b.story n).tries))

-- and its next step
step_alike : (b : Book) (turns : ℕ) (r : Option Cause) (o : Option ℕ) (placed : ℕ → Option ℕ) (since : ℕ → ℕ) (link : ℕ → Ledger) (news : ℕ → News) → Alike b link news → (n : ℕ) → next_step (passed b turns r o placed since link) n ≡ next_step b n
step_alike b turns r o placed since link news same n = ap (λ (l : Ledger). next_step (record b { link = λ j. l }) n) (same (b.story n).link)

-- what ended before this turn wasn't lost in it
lost_not : (k : ℕ) (o : Option End) → ((end : End) → o ≡ Some end → end.turn ≢ k) → is_lost_in k o ≡ false
lost_not k None past = refl
lost_not k (Some end) past = ap (λ t. t && (is_fault end.why && end.served)) (ne_test end.turn k (past end refl))

not_caused : (p q : Bool) → q ≡ false → ((p && q) || false) ≡ false
not_caused true true e = absurd (cc e)
not_caused true false e = refl
not_caused false q e = refl

-- a generation is to begin, by this
abbrev due_by : Book → Bool → Bool
due_by b by = has_generations b && (not b.failed && (not b.shut && by))

-- none is where none was and nothing is lost
generated_alike : (b : Book) (turns : ℕ) (r : Option Cause) (o : Option ℕ) (placed : ℕ → Option ℕ) (since : ℕ → ℕ) (link : ℕ → Ledger) → is_lost_in (turns - 1) (link b.current).end ≡ false → generation_due b ≡ false → generation_due (passed b turns r o placed since link) ≡ false
generated_alike b turns r o placed since link lost none =
    by_test (b.generation == 0) (generation_due (passed b turns r o placed since link) ≡ false)
    (λ first. ap (due_by b) (taken_if (b.generation == 0) (begins_first b) (is_caused (passed b turns r o placed since link)) first) ∙ (sym (ap (due_by b) (taken_if (b.generation == 0) (begins_first b) (is_caused b) first)) ∙ none))
    (λ later. ap (due_by b) (left_if (b.generation == 0) (begins_first b) (is_caused (passed b turns r o placed since link)) later)
    ∙ last_fails (has_generations b) (not b.failed) (not b.shut) (is_caused (passed b turns r o placed since link)) (not_caused (is_resp3 (info_in b.config).protocol) (is_lost_in (turns - 1) (link b.current).end) lost))

-- a message that started is as it was
started_alike : (b : Book) (turns : ℕ) (r : Option Cause) (o : Option ℕ) (placed : ℕ → Option ℕ) (since : ℕ → ℕ) (link : ℕ → Ledger) (news : ℕ → News) → Alike b link news → (n : ℕ) → IsStarted b n → IsStarted (passed b turns r o placed since link) n
started_alike b turns r o placed since link news same n h = record {
  try = h.try;
  last = h.last;
  up = ap (λ (l : Ledger). l.up) (same h.try.link) ∙ h.up;
  takes_more = ap (λ (l : Ledger). is_full l h.try.message) (same h.try.link) ∙ h.takes_more;
  offered = subst IsOffered (sym (same h.try.link)) h.offered;
}

waiting_alike : (b : Book) (turns : ℕ) (r : Option Cause) (o : Option ℕ) (placed : ℕ → Option ℕ) (since : ℕ → ℕ) (link : ℕ → Ledger) (news : ℕ → News) → Alike b link news → (n : ℕ) → IsWaiting b n → IsWaiting (passed b turns r o placed since link) n
waiting_alike b turns r o placed since link news same n h = record { unstarted = h.unstarted; kind = h.kind; shown = h.shown; holds = step_alike b turns r o placed since link news same n ∙ h.holds }

-- so a turn that is settled is still where another begins
settled_alike :
    (b : Book) (turns : ℕ) (r : Option Cause) (o : Option ℕ) (placed : ℕ → Option ℕ) (since : ℕ → ℕ) (link : ℕ → Ledger) (news : ℕ → News) → Alike b link news → HearsLate b news → ((l : ℕ) → UpIsNotOver (b.link l))
    → is_lost_in (turns - 1) (link b.current).end ≡ false → IsSettled b → IsSettled (passed b turns r o placed since link)
settled_alike b turns r o placed since link news same late_ones up lost h =
    let begun = h.written.moved.begun in
    let applied = begun.applied in
    let shown = applied.shown in
    record {
      written = record {
        moved = record {
          begun = record {
            applied = record {
              shown = record {
                answered = λ n is. owed_alike b turns r o placed since link news same n ∙ shown.answered n is;
                ended = λ l. ap ending (same l) ∙ late_ends (b.link l) (news l) (up l) (late_ones l) (shown.ended l);
                created = record {
                  lazy = shown.created.lazy;
                  shown = λ l ready. shown.created.shown l (sym (ap is_ready (same l)) ∙ ready);
                  failed = λ l e fails. shown.created.failed l e (sym (ap (λ (x : Ledger). failure_in x.end) (same l)) ∙ fails);
                };
                pushed = λ l heard. ap next_notice (same l) ∙ shown.pushed l heard;
                parted = λ l heard cut. ap (λ (x : Ledger). x.parted) (same l) ∙ shown.parted l heard (sym (ap (λ (x : Ledger). is_cut x.end) (same l)) ∙ cut);
                sourced = λ l. ap source_due (same l) ∙ shown.sourced l;
              };
              rested = ap (λ (x : Ledger). has_generations b && is_attempt x.end) (same b.current) ∙ applied.rested;
              generated = generated_alike b turns r o placed since link lost applied.generated;
              linked = ap (λ (x : Ledger). if has_generations b then nat_lt 0 b.generation && (not x.asked && (is_none b.rest && not b.shut)) else b.links == 0) (same b.current) ∙ applied.linked;
              timed = applied.timed;
            };
            setups = λ l k due. ap (is_held_back b) (same l) ∙ begun.setups l k (sym (ap setup_due (same l)) ∙ due);
            monitors = λ l due. ap (is_held_back b) (same l) ∙ begun.monitors l (sym (ap monitor_due (same l)) ∙ due);
            repeats_timed = λ l some due. ap (λ (x : Ledger). x.again.timed) (same l) ∙ begun.repeats_timed l some (sym (ap again_due (same l)) ∙ due);
            repeated = λ l due. ap (is_held_back b) (same l) ∙ begun.repeated l (sym (ap again_due (same l)) ∙ due);
            timed = λ l some. subst (λ (x : Ledger). renewals_asked x ≤ x.creds.timed) (sym (same l)) (begun.timed l some);
            renewed = λ l c due. held_with_link (passed b turns r o placed since link) l (ap (is_held_back b) (same l) ∙ held_where_moved b l h.written.moved.moved (begun.renewed l c (sym (ap renewal_due (same l)) ∙ due)));
          };
          moved = λ n can. h.written.moved.moved n (record { unstarted = can.unstarted; due = sym (ap is_due (step_alike b turns r o placed since link news same n)) ∙ can.due });
        };
        offered = λ l is_up. subst IsOffered (sym (same l)) (h.written.offered l (sym (ap (λ (x : Ledger). x.up) (same l)) ∙ is_up));
      };
      goes = λ n is. elim (h.goes n is) [
        | inl started ↦ inl (started_alike b turns r o placed since link news same n started)
        | inr waiting ↦ inr (waiting_alike b turns r o placed since link news same n waiting)
      ];
    }

-- the current link didn't end in the turn that begins
not_now : (b : Book) → EndsPast b → b.turns ≢ 0 → (end : End) → (current_link b).end ≡ Some end → end.turn ≢ b.turns + 1 - 1
not_now b past later end is =
    let i : end.turn ≤ b.turns - 1 = past b.current end is in
    let some : b.turns ≢ 0 = later in
    λ e. omega (arith, i, e, some)

-- so it wasn't lost in it
late_is_no_loss : (b : Book) (link : ℕ → Ledger) (news : ℕ → News) → Alike b link news → EndsPast b → b.turns ≢ 0 → is_lost_in (b.turns + 1 - 1) (link b.current).end ≡ false
late_is_no_loss b link news same past later = ap (λ (x : Ledger). is_lost_in (b.turns + 1 - 1) x.end) (same b.current) ∙ lost_not (b.turns + 1 - 1) (current_link b).end (not_now b past later)

-- what holds of a book behind a turn in which nothing runs out
record IsQuiet (b : Book) : Type 0 where
  sound : Sound b
  past : EndsPast b
  later : b.turns ≢ 0
  settled : IsSettled b

-- news for one link that is deaf to them
one_hears : (b : Book) (k l : ℕ) (x : News) → with_news (b.link l) k x ≡ b.link l → (n : ℕ) → record (with_news (b.link n) k (for_link (l == n) x)) { heard = for_link (l == n) x } ≡ record (b.link n) { heard = for_link (l == n) x }
one_hears b k l x deaf n = ap (λ (y : Ledger). record y { heard = for_link (l == n) x }) (by_test (l == n) (with_news (b.link n) k (for_link (l == n) x) ≡ b.link n)
    (λ t. ap (with_news (b.link n) k) (taken_if (l == n) x silence t) ∙ subst (λ j. with_news (b.link j) k x ≡ b.link j) (eq_from l n t) deaf)
    (λ f. ap (with_news (b.link n) k) (left_if (l == n) x silence f)))

one_late : (b : Book) (l : ℕ) (x : News) → is_over (b.link l) ≡ true → (n : ℕ) → (is_over (b.link n) ≡ true) ⊎ (for_link (l == n) x ≡ silence)
one_late b l x over n = by_test (l == n) ((is_over (b.link n) ≡ true) ⊎ (for_link (l == n) x ≡ silence))
    (λ t. inl (subst (λ j. is_over (b.link j) ≡ true) (eq_from l n t) over))
    (λ f. inr (left_if (l == n) x silence f))

none_more : (n : ℕ) → n + 0 ≡ n
none_more n = omega arith

or_false : (p : Bool) → (p || false) ≡ p
or_false true = refl
or_false false = refl

-- a wait goes on where it does whether it is there or not
rest_stays : (f : Option ℕ → Option ℕ) (rest : Option ℕ) → f None ≡ None → ((t : ℕ) → f (Some t) ≡ Some t) → f rest ≡ rest
rest_stays f None none some = none
rest_stays f (Some t) none some = some t

-- so it is where one link hears something to which it is deaf
settled_by : (b : Book) (k l : ℕ) (x : News) (r : Option Cause) (s : ℕ) (o : Option ℕ) (is_shut : Bool) (rest : Option ℕ) (placed : ℕ → Option ℕ) (since : ℕ → ℕ) → IsQuiet b → is_over (b.link l) ≡ true → with_news (b.link l) k x ≡ b.link l → s ≡ b.submissions → is_shut ≡ b.shut → rest ≡ b.rest
    → IsSettled (record b { turns = b.turns + 1; running = r; submissions = s; timeout = o; shut = is_shut; rest = rest; errors = []; placed = placed; since = since; link = λ n. record (with_news (b.link n) k (for_link (l == n) x)) { heard = for_link (l == n) x } })
settled_by b k l x r s o is_shut rest placed since h over deaf numbers shuts_none waits =
    let link : ℕ → Ledger = λ n. record (with_news (b.link n) k (for_link (l == n) x)) { heard = for_link (l == n) x } in
    let news : ℕ → News = λ n. for_link (l == n) x in
    let same : Alike b link news = one_hears b k l x deaf in
    let here : IsSettled (passed b (b.turns + 1) r o placed since link) =
    settled_alike b (b.turns + 1) r o placed since link news same (one_late b l x over) h.sound.up (late_is_no_loss b link news same h.past h.later) h.settled in
    subst (λ m. IsSettled (record b { turns = b.turns + 1; running = r; submissions = m; timeout = o; shut = is_shut; rest = rest; errors = []; placed = placed; since = since; link = link })) (sym numbers)
    (subst (λ d. IsSettled (record b { turns = b.turns + 1; running = r; timeout = o; shut = d; rest = rest; errors = []; placed = placed; since = since; link = link })) (sym shuts_none)
    (subst (λ w. IsSettled (record b { turns = b.turns + 1; running = r; timeout = o; rest = w; errors = []; placed = placed; since = since; link = link })) (sym waits) here))

-- since when new credentials are due behind the turn of an event
abbrev due_behind : Book → ℕ → EventKind → ℕ → ℕ
due_behind b k e l = due_since (b.since l) (b.link l) (noted (b.link l) (hears k (news_of b.timers b.sources l e))) k

-- and since when submissions have their places
abbrev placed_behind : Book → EventKind → ℕ → Option ℕ
placed_behind b e n = placed_since (has_place (after_event b n e)) (b.placed n) (b.turns - 1)

-- the book behind the turn of an event
abbrev behind : Book → ℕ → EventKind → Option Cause → Book
behind b k e r = record b {
  turns = b.turns + 1;
  running = r;
  submissions = b.submissions + submitted_by e;
  timeout = timeout_after (kind_in b.config) b.timeout e;
  shut = b.shut || shuts e;
  rest = rest_after b.rest e;
  errors = [];
  link = λ n. noted (b.link n) (hears k (news_of b.timers b.sources n e));
  story = λ n. after_event b n e;
  placed = placed_behind b e;
  since = due_behind b k e;
}

-- an event of a link that has ended leaves all settled
late_settled : (b : Book) (k : ℕ) (e : EventKind) (r : Option Cause) → IsQuiet b → IsLate b e → IsSettled (behind b k e r)
late_settled b k (event.Connected l) r h over =
    settled_by b k l connected r (b.submissions + 0) (timeout_after (kind_in b.config) b.timeout (event.Connected l)) (b.shut || false) (rest_after b.rest (event.Connected l)) (placed_behind b (event.Connected l)) (due_behind b k (event.Connected l)) h over
    (taken_if (is_over (b.link l)) (b.link l) (record (b.link l) { up = true }) over)
    (none_more b.submissions) (or_false b.shut) (rest_stays (λ w. rest_after w (event.Connected l)) b.rest refl (λ t. refl))
late_settled b k (event.Refused l f) r h over =
    settled_by b k l (refused f) r (b.submissions + 0) (timeout_after (kind_in b.config) b.timeout (event.Refused l f)) (b.shut || false) (rest_after b.rest (event.Refused l f)) (placed_behind b (event.Refused l f)) (due_behind b k (event.Refused l f)) h over
    (left_if (dials (b.link l)) (refused_in (b.link l) k (error.Io f)) (b.link l) (not_dialling (b.link l).asked (b.link l).up (is_over (b.link l)) over))
    (none_more b.submissions) (or_false b.shut) (rest_stays (λ w. rest_after w (event.Refused l f)) b.rest refl (λ t. refl))
late_settled b k (event.Wrote l count) r h over =
    settled_by b k l (took count) r (b.submissions + 0) (timeout_after (kind_in b.config) b.timeout (event.Wrote l count)) (b.shut || false) (rest_after b.rest (event.Wrote l count)) (placed_behind b (event.Wrote l count)) (due_behind b k (event.Wrote l count)) h over
    (left_if (b.link l).up (record (b.link l) { taken = (b.link l).taken ++ take count (b.link l).offer; offer = [] }) (b.link l) (over_is_down (b.link l) (h.sound.up l) over))
    (none_more b.submissions) (or_false b.shut) (rest_stays (λ w. rest_after w (event.Wrote l count)) b.rest refl (λ t. refl))
late_settled b k (event.Bytes l piece) r h over =
    settled_by b k l (came piece) r (b.submissions + 0) (timeout_after (kind_in b.config) b.timeout (event.Bytes l piece)) (b.shut || false) (rest_after b.rest (event.Bytes l piece)) (placed_behind b (event.Bytes l piece)) (due_behind b k (event.Bytes l piece)) h over
    (left_if (b.link l).up (bytes_came (b.link l) piece) (b.link l) (over_is_down (b.link l) (h.sound.up l) over))
    (none_more b.submissions) (or_false b.shut) (rest_stays (λ w. rest_after w (event.Bytes l piece)) b.rest refl (λ t. refl))
late_settled b k (event.Ended l) r h over =
    settled_by b k l (failed fault.Ended) r (b.submissions + 0) (timeout_after (kind_in b.config) b.timeout (event.Ended l)) (b.shut || false) (rest_after b.rest (event.Ended l)) (placed_behind b (event.Ended l)) (due_behind b k (event.Ended l)) h over refl
    (none_more b.submissions) (or_false b.shut) (rest_stays (λ w. rest_after w (event.Ended l)) b.rest refl (λ t. refl))
late_settled b k (event.ReadFault l f) r h over =
    settled_by b k l (failed (fault.Io f)) r (b.submissions + 0) (timeout_after (kind_in b.config) b.timeout (event.ReadFault l f)) (b.shut || false) (rest_after b.rest (event.ReadFault l f)) (placed_behind b (event.ReadFault l f)) (due_behind b k (event.ReadFault l f)) h over refl
    (none_more b.submissions) (or_false b.shut) (rest_stays (λ w. rest_after w (event.ReadFault l f)) b.rest refl (λ t. refl))
late_settled b k (event.WriteFault l f) r h over =
    settled_by b k l (failed (fault.Io f)) r (b.submissions + 0) (timeout_after (kind_in b.config) b.timeout (event.WriteFault l f)) (b.shut || false) (rest_after b.rest (event.WriteFault l f)) (placed_behind b (event.WriteFault l f)) (due_behind b k (event.WriteFault l f)) h over refl
    (none_more b.submissions) (or_false b.shut) (rest_stays (λ w. rest_after w (event.WriteFault l f)) b.rest refl (λ t. refl))
late_settled b k _ r h over = absurd over

-- behind a turn that is settled only the next event comes
only_whole : (b : Book) (a : Action) (more : List Action) → MayStand b a → Sound b → IsSettled b → b.turns ≢ 0 → IsWhole (a ∷ more)
only_whole b (action.Turn k (cause.Event e)) more may h done later = tt
only_whole b (action.Turn k (cause.Opening config word)) more may h done later = absurd (later may.is_for)
only_whole b (action.Connect l host port) more may h done later = only_a_turn b (action.Connect l host port) [] may h done refl
only_whole b (action.Timer t ms what) more may h done later = only_a_turn b (action.Timer t ms what) [] may h done refl
only_whole b (action.Took who l count) more may h done later = only_a_turn b (action.Took who l count) [] may h done refl
only_whole b (action.Push l info) more may h done later = only_a_turn b (action.Push l info) [] may h done refl
only_whole b (action.Message m) more may h done later = only_a_turn b (action.Message m) [] may h done refl
only_whole b (action.Monitor v) more may h done later = only_a_turn b (action.Monitor v) [] may h done refl
only_whole b (action.NeedCreds c l) more may h done later = only_a_turn b (action.NeedCreds c l) [] may h done refl
only_whole b (action.Generation g) more may h done later = only_a_turn b (action.Generation g) [] may h done refl
only_whole b (action.Round who l) more may h done later = only_a_turn b (action.Round who l) [] may h done refl
only_whole b (action.Close l) more may h done later = only_a_turn b (action.Close l) [] may h done refl
only_whole b (action.Write l bytes) more may h done later = only_a_turn b (action.Write l bytes) [] may h done refl
only_whole b (action.Wait who w) more may h done later = only_a_turn b (action.Wait who w) [] may h done refl
only_whole b (action.Start l k who count len) more may h done later = only_a_turn b (action.Start l k who count len) [] may h done refl
only_whole b (action.Created e) more may h done later = only_a_turn b (action.Created e) [] may h done refl
only_whole b (action.Outcome n o) more may h done later = only_a_turn b (action.Outcome n o) [] may h done refl

-- what comes behind the turn of such an event
late_is_whole : (config : Config) (word : ℕ) (events : List Event) (front more : List Action) (k : ℕ) (e : Event) → Legal config word events (front ++ action.Turn k (cause.Event e) ∷ more) → IsLate (book front) e.kind → IsWhole more
late_is_whole config word events front [] k e legal over = tt
late_is_whole config word events front (a ∷ more) k e legal over =
    let may : MayStand (book front) (action.Turn k (cause.Event e)) = next_may config word events front (a ∷ more) (action.Turn k (cause.Event e)) legal in
    let all : AllStand blank_book front = front_stands config word events front (action.Turn k (cause.Event e) ∷ a ∷ more) legal in
    let sound : Sound (book front) = sound_behind front all in
    let quiet : IsQuiet (book front) = record { sound = sound; past = past_behind front all; later = may.is_for.0; settled = may.is_for.1 } in
    only_whole (entered (book front) (action.Turn k (cause.Event e))) a more (second_may config word events front more (action.Turn k (cause.Event e)) a legal)
    (stays_sound (book front) (action.Turn k (cause.Event e)) may sound) (late_settled (book front) k e.kind (Some (cause.Event e)) quiet over) (λ z. let f : (book front).turns + 1 ≡ 0 = z in omega (arith, f))

-- so a legal trace shows nothing of it
pub late_is_nothing : (config : Config) (word : ℕ) (events : List Event) (trace : List Action) → Legal config word events trace → LateIsNothing trace
late_is_nothing config word events trace h front more k e is over = late_is_whole config word events front more k e (subst (Legal config word events) is h) over
