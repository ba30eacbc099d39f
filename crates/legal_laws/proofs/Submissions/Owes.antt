-- When a submission is owed nothing, and that it stays so while messages start.
use Rattle.std.proofs.Common.{◌≡◌, ◌≢◌, ℕ, ◌+◌, ◌<◌, ◌≤◌, ◌==◌, nat_le, Bool, true, false, [], ◌∷◌, ◌++◌, length, take, Option, Some, None, is_some, ◌&&◌, not, if◌then◌else◌, refl, sym, ◌∙◌, ap, arith, length-append}
use Rattle.std.proofs.lemmas.List.{take-append-le, take_all}
use Rattle.containers.proofs.Choices.{chosen, not_le_test, taken_if, left_if, not_both, eq_test}
use Rattle.redis_error.specs.declared.fault_kind.FaultKind.TheVariants as kind
use Rattle.redis_error.specs.declared.redis_error.RedisError.TheVariants as error
use Rattle.driver_model.specs.declared.outcome.Outcome.{Outcome}
use Rattle.driver_model.specs.declared.outcome.Outcome.TheVariants as outcome
use Rattle.driver_model.specs.declared.outcome.Shape.{Shape}
use Rattle.driver_model.specs.Shape.{need_of, outcome_of, verdict_of}
use Rattle.legal_trace.specs.Ledger.{Ledger, Start, End, Ending, by_shutdown, by_fault, by_opening, by_attempt, begins, noted, reach, is_full, is_over, cut}
use Rattle.legal_trace.specs.Legal.{is_by_attempt, is_attempt}
use Rattle.legal_trace.specs.Story.{Story, Try, bytes_of, shape, last_of}
use Rattle.legal_trace.specs.Owed.{owed_to_try, owed_to_message, owed_by, owed_unstarted, owed_waiting, cut_off_if}
use Rattle.legal_trace.specs.Book.{Book}
use Rattle.legal_trace.proofs.Ledgers.{FewAreDealt, reach_more, takes_one}

-- what a story is owed over a book
abbrev pub owed_story : Book → Story → Option Outcome
owed_story b s =
    if s.late then Some (outcome.Fault error.Closed)
    else if s.unspoken then Some (outcome.Fault error.Resp3Required)
    else if length (bytes_of s) == 0 then Some (outcome.Fault error.EmptyCommand)
    else if s.overdue then Some (outcome.Fault (error.Io kind.TimedOut))
    else owed_to_try b s (last_of s.tries)

-- so it is owed nothing: it came before the shutdown, its link speaks as it needs, it has bytes, its time isn't over, and its
-- message is owed nothing
pub record OwedNothing (b : Book) (s : Story) : Type 0 where
  pub in_time : s.late ≡ false
  pub spoken : s.unspoken ≡ false
  pub with_bytes : (length (bytes_of s) == 0) ≡ false
  pub runs : s.overdue ≡ false
  pub by_message : owed_to_try b s (last_of s.tries) ≡ None

-- a choice between four outcomes and a fifth that comes to nothing
five_ways : (late unspoken empty overdue : Bool) (w x y z : Outcome) (o : Option Outcome)
    → (if late then Some w else if unspoken then Some x else if empty then Some y else if overdue then Some z else o) ≡ None → (late ≡ false) × (unspoken ≡ false) × (empty ≡ false) × (overdue ≡ false) × (o ≡ None)
five_ways true unspoken empty overdue w x y z o e = cc
five_ways false true empty overdue w x y z o e = cc
five_ways false false true overdue w x y z o e = cc
five_ways false false false true w x y z o e = cc
five_ways false false false false w x y z o e = (refl, refl, refl, refl, e)

-- where it is owed nothing, for each of these
pub nothing_is_owed : (b : Book) (s : Story) → owed_story b s ≡ None → OwedNothing b s
nothing_is_owed b s e =
    let p : (s.late ≡ false) × (s.unspoken ≡ false) × ((length (bytes_of s) == 0) ≡ false) × (s.overdue ≡ false) × (owed_to_try b s (last_of s.tries) ≡ None) =
    five_ways s.late s.unspoken (length (bytes_of s) == 0) s.overdue (outcome.Fault error.Closed) (outcome.Fault error.Resp3Required) (outcome.Fault error.EmptyCommand) (outcome.Fault (error.Io kind.TimedOut)) (owed_to_try b s (last_of s.tries)) e in
    record { in_time = p.0; spoken = p.1; with_bytes = p.2; runs = p.3; by_message = p.4 }

-- and where each of these, it is owed nothing
pub owes_nothing : (b : Book) (s : Story) → OwedNothing b s → owed_story b s ≡ None
owes_nothing b s h =
    let timely = if s.overdue then Some (outcome.Fault (error.Io kind.TimedOut)) else owed_to_try b s (last_of s.tries) in
    let packed = if length (bytes_of s) == 0 then Some (outcome.Fault error.EmptyCommand) else timely in
    left_if s.late (Some (outcome.Fault error.Closed)) (if s.unspoken then Some (outcome.Fault error.Resp3Required) else packed) h.in_time
    ∙ (left_if s.unspoken (Some (outcome.Fault error.Resp3Required)) packed h.spoken
    ∙ (left_if (length (bytes_of s) == 0) (Some (outcome.Fault error.EmptyCommand)) timely h.with_bytes
    ∙ (left_if s.overdue (Some (outcome.Fault (error.Io kind.TimedOut))) (owed_to_try b s (last_of s.tries)) h.runs ∙ h.by_message)))

-- a submission that is owed nothing has bytes
pub has_bytes : (b : Book) (s : Story) → owed_story b s ≡ None → bytes_of s ≢ []
has_bytes b s e none = not_both (length (bytes_of s) == 0) (nothing_is_owed b s e).with_bytes (eq_test (length (bytes_of s)) 0 (ap length none))

-- its message is owed nothing over another book, where the links stay so
abbrev pub StayOpen : Book → Book → Story → Type 0
StayOpen b c s = (owed_waiting b.shut (b.link s.link) ≡ None → owed_waiting c.shut (c.link s.link) ≡ None) × ((t : Try) → last_of s.tries ≡ Some t → owed_to_message (b.link t.link) t.message (shape s) ≡ None → owed_to_message (c.link t.link) t.message (shape s) ≡ None)

-- by what it started last
try_again : (b c : Book) (s : Story) (o : Option Try) → (owed_waiting b.shut (b.link s.link) ≡ None → owed_waiting c.shut (c.link s.link) ≡ None) → ((t : Try) → o ≡ Some t → owed_to_message (b.link t.link) t.message (shape s) ≡ None → owed_to_message (c.link t.link) t.message (shape s) ≡ None) → owed_to_try b s o ≡ None → owed_to_try c s o ≡ None
try_again b c s None end same e = end e
try_again b c s (Some t) end same e = same t refl e

-- so is the story
pub owed_again : (b c : Book) (s : Story) → StayOpen b c s → owed_story b s ≡ None → owed_story c s ≡ None
owed_again b c s stay e =
    let p : OwedNothing b s = nothing_is_owed b s e in
    owes_nothing c s (record { in_time = p.in_time; spoken = p.spoken; with_bytes = p.with_bytes; runs = p.runs; by_message = try_again b c s (last_of s.tries) stay.0 stay.1 p.by_message })

-- with a message more, where that is owed nothing
pub owed_by_last : (b c : Book) (s t : Story) → t.late ≡ s.late → t.unspoken ≡ s.unspoken → bytes_of t ≡ bytes_of s → t.overdue ≡ s.overdue → owed_to_try c t (last_of t.tries) ≡ None → owed_story b s ≡ None → owed_story c t ≡ None
owed_by_last b c s t late unspoken bytes overdue last e =
    let p : OwedNothing b s = nothing_is_owed b s e in
    owes_nothing c t (record { in_time = late ∙ p.in_time; spoken = unspoken ∙ p.spoken; with_bytes = ap (λ x. length x == 0) bytes ∙ p.with_bytes; runs = overdue ∙ p.runs; by_message = last })

-- what isn't full doesn't become so
full_alike : (full now : Bool) (x y : Outcome) (o : Option Outcome) → now ≡ full → (if full then Some x else o) ≡ None → (if now then Some y else o) ≡ None
full_alike true now x y o e n = cc
full_alike false now x y o e n = left_if now (Some y) o e ∙ n

-- messages that started before stay as full as they are
pub full_stays : (l : Ledger) (s : Start) (k : ℕ) → k < length l.starts → is_full (noted l (begins s)) k ≡ is_full l k
full_stays l s k i = ap (λ ss. nat_le (reach ss l.dealt) (length l.dealt)) (take-append-le (k + 1) l.starts (s ∷ []) (omega arith))

-- so they are owed nothing still
pub begins_keeps : (l : Ledger) (s : Start) (k : ℕ) (of_shape : Shape) → k < length l.starts → owed_to_message l k of_shape ≡ None → owed_to_message (noted l (begins s)) k of_shape ≡ None
begins_keeps l s k of_shape i e =
    full_alike (is_full l k) (is_full (noted l (begins s)) k) (outcome_of (verdict_of of_shape (cut l k of_shape))) (outcome_of (verdict_of of_shape (cut (noted l (begins s)) k of_shape))) (cut_off_if l.end k of_shape) (full_stays l s k i) e

-- and a new one isn't full
pub new_is_not_full : (l : Ledger) (s : Start) → FewAreDealt l → is_full (noted l (begins s)) (length l.starts) ≡ false
new_is_not_full l s few =
    let long : length (l.starts ++ s ∷ []) ≡ length l.starts + 1 = length-append l.starts (s ∷ []) in
    let whole : take (length l.starts + 1) (l.starts ++ s ∷ []) ≡ l.starts ++ s ∷ [] = take_all (length l.starts + 1) (l.starts ++ s ∷ []) (omega arith) in
    let all : reach (take (length l.starts + 1) (l.starts ++ s ∷ [])) l.dealt ≡ reach l.starts l.dealt + need_of s.shape = ap (λ ss. reach ss l.dealt) whole ∙ reach_more l.starts s l.dealt in
    let one : 1 ≤ need_of s.shape = takes_one s.shape in
    not_le_test (reach (take (length l.starts + 1) (l.starts ++ s ∷ [])) l.dealt) (length l.dealt) (omega arith)

-- so it is owed nothing where its link has not ended
pub new_is_owed_nothing : (l : Ledger) (s : Start) (k : ℕ) (of_shape : Shape) → FewAreDealt l → l.end ≡ None → k ≡ length l.starts → owed_to_message (noted l (begins s)) k of_shape ≡ None
new_is_owed_nothing l s k of_shape few end e =
    left_if (is_full (noted l (begins s)) k) (Some (outcome_of (verdict_of of_shape (cut (noted l (begins s)) k of_shape)))) (cut_off_if l.end k of_shape)
    (ap (is_full (noted l (begins s))) e ∙ new_is_not_full l s few)
    ∙ ap (λ x. cut_off_if x k of_shape) end

-- a message that has all its items is owed something, and so is one that its link cut off
cut_off_owes : (full : Bool) (verdict : Outcome) (o : Option End) (k : ℕ) (of_shape : Shape) → is_some o ≡ true → (if full then Some verdict else cut_off_if o k of_shape) ≡ None → ⊥
cut_off_owes true verdict o k of_shape over e = cc e
cut_off_owes false verdict None k of_shape over e = cc over
cut_off_owes false verdict (Some end) k of_shape over e = cc e

-- so a submission whose message started on a link that has ended is owed something
pub tried_owes : (b : Book) (s : Story) (t : Try) → last_of s.tries ≡ Some t → is_over (b.link t.link) ≡ true → owed_story b s ≡ None → ⊥
tried_owes b s t last over none =
    let l : Ledger = b.link t.link in
    cut_off_owes (is_full l t.message) (outcome_of (verdict_of (shape s) (cut l t.message (shape s)))) l.end t.message (shape s) over
    (sym (ap (owed_to_try b s) last) ∙ (nothing_is_owed b s none).by_message)

-- what a link that has ended owes is nothing only where another attempt follows
by_attempt_alone : (why : Ending) → owed_by why ≡ None → is_by_attempt why ≡ true
by_attempt_alone by_shutdown e = absurd (cc e)
by_attempt_alone (by_fault f) e = absurd (cc e)
by_attempt_alone (by_opening x) e = absurd (cc e)
by_attempt_alone (by_attempt x) e = refl

-- so where it is over
attempt_alone : (o : Option End) → is_some o ≡ true → owed_unstarted o ≡ None → is_attempt o ≡ true
attempt_alone None over e = absurd (cc over)
attempt_alone (Some end) over e = by_attempt_alone end.why e

-- a submission without a message is owed nothing only where its link has not ended, or another attempt follows
waiting_alone : (shut : Bool) (l : Ledger) → is_over l ≡ true → owed_waiting shut l ≡ None → is_attempt l.end ≡ true
waiting_alone shut l over = chosen (λ (o : Option Outcome). o ≡ None → is_attempt l.end ≡ true) (shut && not l.asked) (Some (outcome.Fault error.Closed)) (owed_unstarted l.end) (λ t e. absurd (cc e)) (λ f e. attempt_alone l.end over e)

-- so one whose link has ended is owed something, but where another attempt follows
pub over_owes : (b : Book) (s : Story) → ((t : Try) → last_of s.tries ≡ Some t → t.link ≡ s.link) → is_over (b.link s.link) ≡ true → is_attempt (b.link s.link).end ≡ false → owed_story b s ≡ None → ⊥
over_owes b s there over last none = by_last (last_of s.tries) refl
  where
    by_last : (o : Option Try) → last_of s.tries ≡ o → ⊥
    by_last None e = not_both (is_attempt (b.link s.link).end) last (waiting_alone b.shut (b.link s.link) over (sym (ap (owed_to_try b s) e) ∙ (nothing_is_owed b s none).by_message))
    by_last (Some t) e = tried_owes b s t e (ap (λ l. is_over (b.link l)) (there t e) ∙ over) none

-- where everything is shut down, a submission without a message is owed something while its link isn't asked for
pub shut_owes : (b : Book) (s : Story) → b.shut ≡ true → (b.link s.link).asked ≡ false → s.tries ≡ [] → owed_story b s ≡ None → ⊥
shut_owes b s shut unasked none owes =
    let l : Ledger = b.link s.link in
    let waits : owed_waiting b.shut l ≡ None = sym (ap (λ ts. owed_to_try b s (last_of ts)) none) ∙ (nothing_is_owed b s owes).by_message in
    let closed : owed_waiting b.shut l ≡ Some (outcome.Fault error.Closed) = taken_if (b.shut && not l.asked) (Some (outcome.Fault error.Closed)) (owed_unstarted l.end) (ap (λ x. x && not l.asked) shut ∙ ap not unasked) in
    let x : None ≡ Some (outcome.Fault error.Closed) = sym waits ∙ closed in cc x
