-- The whole generated script, front by front.
use Rattle.std.proofs.Common.{◌≡◌, ℕ, zero, suc, ◌+◌, ◌*◌, ◌<◌, ◌≤◌, Bool, true, false, List, [], ◌∷◌, ◌++◌, length, Some, None, refl, ap, sym, ◌∙◌, subst, arith, length-append, if◌then◌else◌}
use Rattle.std.specs.Prelude.{codes, pos}
use Rattle.std.specs.Str.Lossy.{utf8_lossy, utf8_valid_len}
use Rattle.url.proofs.OnLiterals.{url_on_literals}
use Rattle.containers.proofs.Choices.{by_test}
use Rattle.resp_write.specs.Pack.{pack}
use Rattle.connection_info.specs.declared.address.ConnectionInfo.{ConnectionInfo}
use Rattle.connection_info.specs.declared.protocol.ProtocolVersion.TheVariants.{RESP2}
use Rattle.driver_model.specs.Config.{address, fault_in}
use Rattle.driver_model.specs.declared.action.Action.{Action}
use Rattle.driver_model.specs.declared.action.Action.TheVariants as action
use Rattle.driver_model.specs.declared.action.Cause.TheVariants as cause
use Rattle.driver_model.specs.declared.action.Owner.TheVariants as owner
use Rattle.driver_model.specs.declared.event.Event.{Event}
use Rattle.driver_model.specs.declared.event.EventKind.TheVariants as event
use Rattle.legal_trace.specs.Book.{Book, blank_book, book, entered_each}
use Rattle.legal_trace.proofs.Books.{book_append}
use Rattle.single_session.specs.declared.core_state.Core.{Core}
use Rattle.single_session.specs.Replay.{opening_core, connect_asked, state_after, AreGood, AreUnspent, IsSound}
use Rattle.single_session.specs.Turn.{Turning, next_turn, actions_of, shown_each, is_bad, has_run_out, spends}
use Rattle.single_session.proofs.Replays.{state_after-more, state_after-none, trace_of-none, trace_of-more}
use Rattle.script_generator.specs.Script.{generated_config, generated_word, generated_events, event_of, command, is_cancelled, reply, submits, writes, cancels, replies}
use Rattle.script_generator.specs.Fronts.{front, submitted, written, cancelled}
use Rattle.script_generator.specs.Summary.{count, takes, items_dealt}
use Rattle.script_generator.proofs.Sessions.{no_bytes}
use Rattle.script_generator.proofs.Turns.{connected_turn, answer}
use Rattle.script_generator.proofs.Books.{Tells, turn, tells_connected, tells_submitted, tells_wrote, tells_cancelled, tells_replied, tells_answered, dealt_at_end}
use Rattle.script_generator.proofs.Fronts.{good_on, unspent_on, count_append, Stands, IsNext, is_next, stands_more, trace}
use Rattle.script_generator.proofs.Rounds.{lists, long, over, ready, offering, waiting, unheard, room_in, submits_on, writes_on, cancels_on, answers_on, drops_on, shuts_on}

-- the server that the script's URL names
abbrev server : ConnectionInfo
server = record {
  host = codes "h";
  port = 6379;
  redis = record { db = pos 0; username = None; password = None; protocol = RESP2; skip_set_lib_name = false };
}

at_server : address generated_config ≡ Some server
unfolding url_on_literals utf8_lossy utf8_valid_len
at_server = refl

-- nothing of the configuration is refused
pub generated_sound : IsSound generated_config
generated_sound = ap (λ a. fault_in a false None 50) at_server

-- the first event
abbrev first : Event
first = event_of (event.Connected 0)

first_trace : trace (first ∷ []) ≡ action.Turn 0 (cause.Opening generated_config generated_word) ∷ action.Connect 0 (codes "h") 6379 ∷ turn 1 (event.Connected 0) ∷ action.Created None ∷ []
first_trace =
    let begins = action.Turn 0 (cause.Opening generated_config generated_word) in
    trace_of-more generated_config generated_word [] first
    ∙ (λ i. trace_of-none generated_config generated_word i ++ actions_of (state_after-none generated_config generated_word i) first)
    ∙ ap (λ a. begins ∷ connect_asked a None ++ actions_of (opening_core generated_config generated_word) first) at_server
    ∙ ap (λ (u : Turning). begins ∷ action.Connect 0 (codes "h") 6379 ∷ turn 1 (event.Connected 0) ∷ shown_each 0 0 0 u.acts) (connected_turn generated_word)

pub connected_next : IsNext [] first
unfolding is_bad spends
connected_next = record {
  good = ap (λ (c : Core). is_bad c first.kind) (state_after-none generated_config generated_word);
  unspent = ap (λ (c : Core). spends c first) (state_after-none generated_config generated_word)
      ∙ ap (λ (u : Turning). has_run_out u.core) (connected_turn generated_word) ∙ room_in 2 0 [] [] [] no_bytes (omega arith) (omega arith);
}

from_book : (t : List Action) → Tells (entered_each blank_book t) 0 0 0 → Tells (book t) 0 0 0
unfolding book
from_book t h = h

connected_stands : Stands (front 0) (ready 0) 0 0 0 1
unfolding AreGood AreUnspent is_bad spends
connected_stands = record {
  state_is = state_after-more generated_config generated_word [] first ∙ ap (λ (c : Core). (next_turn c first.kind).core) (state_after-none generated_config generated_word)
      ∙ ap (λ (u : Turning). u.core) (connected_turn generated_word);
  good = (refl, tt);
  unspent = (ap (λ (u : Turning). has_run_out u.core) (connected_turn generated_word) ∙ room_in 2 0 [] [] [] no_bytes (omega arith) (omega arith), tt);
  tells = subst (λ (b : Book). Tells b 0 0 0) (sym (ap book first_trace)) (from_book _ (tells_connected generated_config generated_word (codes "h") 6379 refl));
  takes = ap (count takes) first_trace;
  short = omega arith;
  few = let e = ap length first_trace in omega arith;
}

-- where each line of a round leads to
abbrev AfterSubmit : ℕ → Type 0
AfterSubmit i = Stands (submitted i) (offering i) (i + 1) i (i + 1) (1 + 4 * i + 1)

after_submit : (i : ℕ) → i < 200000 → Stands (front i) (ready i) i i i (1 + 4 * i) → AfterSubmit i
after_submit i few h =
    stands_more (front i) (submits i) (ready i) (offering i) _ i i i (i + 1) i (i + 1) 1 (1 + 4 * i) (omega arith) h (submits_on i few) (omega arith) refl refl
    (λ b t tells. subst (λ m. Tells (entered_each b (turn t (submits i).kind ∷ action.Start 0 i (owner.Try m 0) 1 (length (pack (command i))) ∷ action.Write 0 (pack (command i)) ∷ [])) (i + 1) i (i + 1)) (sym (long i))
    (tells_submitted b i i i t i (length (pack (command i))) (command i) (pack (command i)) tells))

abbrev AfterWrite : ℕ → Type 0
AfterWrite i = Stands (written i) (waiting i) (i + 1) i (i + 1) (1 + 4 * i + 1 + 1)

after_write : (i : ℕ) → i < 200000 → AfterSubmit i → AfterWrite i
after_write i few h =
    stands_more (submitted i) (writes i) (offering i) (waiting i) [] (i + 1) i (i + 1) (i + 1) i (i + 1) 0 (1 + 4 * i + 1) (omega arith) h (writes_on i few) (omega arith) refl (omega arith)
    (λ b t tells. tells_wrote b (i + 1) i (i + 1) t (length (pack (command i))) tells)

abbrev AfterCancel : ℕ → Type 0
AfterCancel i = Stands (cancelled i) (unheard i) (i + 1) i (i + 1) (1 + 4 * i + 1 + 1 + 1)

after_cancel : (i : ℕ) → i < 200000 → AfterWrite i → AfterCancel i
after_cancel i few h =
    stands_more (written i) (cancels i) (waiting i) (unheard i) [] (i + 1) i (i + 1) (i + 1) i (i + 1) 0 (1 + 4 * i + 1 + 1) (omega arith) h (cancels_on i few) (omega arith) refl (omega arith)
    (λ b t tells. tells_cancelled b (i + 1) i (i + 1) t i tells)

-- after the reply: so far there are no more than that many events
abbrev AfterReply : List Event → ℕ → Type 0
AfterReply es i = Stands es (over (lists (suc i)) [] (i + 1) no_bytes) (i + 1) (i + 1) (i + 1) (1 + 4 * i + 1 + 1 + 1 + 1)

after_answer : (i : ℕ) → i < 200000 → AfterWrite i → Stands (written i ++ replies ∷ []) (over (lists (suc i)) [] (i + 1) no_bytes) (i + 1) (i + 1) (i + 1) (1 + 4 * i + 1 + 1 + 1)
after_answer i few h =
    stands_more (written i) replies (waiting i) _ _ (i + 1) i (i + 1) (i + 1) (i + 1) (i + 1) 0 (1 + 4 * i + 1 + 1) (omega arith) h (answers_on i few) (omega arith) refl (omega arith)
    (λ b t tells. tells_answered (entered_each b (turn t (event.Bytes 0 reply) ∷ [])) (i + 1) (i + 1) (i + 1) _ answer (tells_replied b (i + 1) i t tells))

after_drop : (i : ℕ) → i < 200000 → AfterCancel i → AfterReply (cancelled i ++ replies ∷ []) i
after_drop i few h =
    stands_more (cancelled i) replies (unheard i) _ [] (i + 1) i (i + 1) (i + 1) (i + 1) (i + 1) 0 (1 + 4 * i + 1 + 1 + 1) (omega arith) h (drops_on i few) (omega arith) refl (omega arith)
    (λ b t tells. tells_replied b (i + 1) i t tells)

-- there are no more events than more
wider : (es : List Event) (core : ℕ → Core) (n d s most most' : ℕ) → most ≤ most' → Stands es core n d s most → Stands es core n d s most'
wider es core n d s most most' l h =
    let short = h.short in
    let few = h.few in
    record { state_is = h.state_is; good = h.good; unspent = h.unspent; tells = h.tells; takes = h.takes; short = omega arith; few = omega arith }

-- the lines of a round, one after another, and all at once
three_more : {X : Type 0} (xs : List X) (a b c : X) → ((xs ++ a ∷ []) ++ b ∷ []) ++ c ∷ [] ≡ xs ++ a ∷ b ∷ c ∷ []
three_more [] a b c = refl
three_more (x ∷ xs) a b c = ap (λ ys. x ∷ ys) (three_more xs a b c)

four_more : {X : Type 0} (xs : List X) (a b c d : X) → (((xs ++ a ∷ []) ++ b ∷ []) ++ c ∷ []) ++ d ∷ [] ≡ xs ++ a ∷ b ∷ c ∷ d ∷ []
four_more [] a b c d = refl
four_more (x ∷ xs) a b c d = ap (λ ys. x ∷ ys) (four_more xs a b c d)

-- a round whose caller goes, and one whose caller stays
abbrev front_with : ℕ → Bool → List Event
front_with i gone = front i ++ (submits i ∷ writes i ∷ (if gone then cancels i ∷ [] else []) ++ replies ∷ [])

pub next_front_gone : (i : ℕ) → is_cancelled i ≡ true → cancelled i ++ replies ∷ [] ≡ front (suc i)
next_front_gone i gone = four_more (front i) (submits i) (writes i) (cancels i) replies ∙ ap (front_with i) (sym gone)

pub next_front : (i : ℕ) → is_cancelled i ≡ false → written i ++ replies ∷ [] ≡ front (suc i)
next_front i stays = three_more (front i) (submits i) (writes i) replies ∙ ap (front_with i) (sym stays)

-- after each round
abbrev After : List Event → ℕ → Type 0
After es i = Stands es (ready i) i i i (1 + 4 * i)

after_round : (es : List Event) (i : ℕ) → AfterReply es i → After es (suc i)
after_round es i h =
    wider es (ready (suc i)) (suc i) (suc i) (suc i) (1 + 4 * i + 1 + 1 + 1 + 1) (1 + 4 * suc i) (omega arith)
    (subst (λ k. Stands es (over (lists (suc i)) [] k no_bytes) k k k (1 + 4 * i + 1 + 1 + 1 + 1)) (omega arith) h)

pub after_front : (i : ℕ) → i ≤ 200000 → After (front i) i
after_front zero few = connected_stands
after_front (suc i) few =
    let before : After (front i) i = after_front i (omega arith) in
    let written_now = after_write i (omega arith) (after_submit i (omega arith) before) in
    by_test (is_cancelled i) (After (front (suc i)) (suc i))
    (λ gone. subst (λ es. After es (suc i)) (next_front_gone i gone) (after_round _ i (after_drop i (omega arith) (after_cancel i (omega arith) written_now))))
    (λ stays. subst (λ es. After es (suc i)) (next_front i stays) (after_round _ i (wider _ _ _ _ _ (1 + 4 * i + 1 + 1 + 1) (1 + 4 * i + 1 + 1 + 1 + 1) (omega arith) (after_answer i (omega arith) written_now))))

-- no line is bad, and no line's step is spent
pub submit_next : (i : ℕ) → i < 200000 → IsNext (front i) (submits i)
submit_next i few = is_next (front i) (submits i) (ready i) (offering i) _ i i i (1 + 4 * i) (omega arith) (after_front i (omega arith)) (submits_on i few)

submitted_stands : (i : ℕ) → i < 200000 → AfterSubmit i
submitted_stands i few = after_submit i few (after_front i (omega arith))

pub write_next : (i : ℕ) → i < 200000 → IsNext (submitted i) (writes i)
write_next i few = is_next (submitted i) (writes i) (offering i) (waiting i) [] (i + 1) i (i + 1) (1 + 4 * i + 1) (omega arith) (submitted_stands i few) (writes_on i few)

written_stands : (i : ℕ) → i < 200000 → AfterWrite i
written_stands i few = after_write i few (submitted_stands i few)

pub cancel_next : (i : ℕ) → i < 200000 → IsNext (written i) (cancels i)
cancel_next i few = is_next (written i) (cancels i) (waiting i) (unheard i) [] (i + 1) i (i + 1) (1 + 4 * i + 1 + 1) (omega arith) (written_stands i few) (cancels_on i few)

pub reply_next : (i : ℕ) → i < 200000 → IsNext (written i) replies
reply_next i few = is_next (written i) replies (waiting i) _ _ (i + 1) i (i + 1) (1 + 4 * i + 1 + 1) (omega arith) (written_stands i few) (answers_on i few)

pub reply_next_gone : (i : ℕ) → i < 200000 → IsNext (cancelled i) replies
reply_next_gone i few = is_next (cancelled i) replies (unheard i) _ [] (i + 1) i (i + 1) (1 + 4 * i + 1 + 1 + 1) (omega arith) (after_cancel i few (written_stands i few)) (drops_on i few)

pub shut_next : (n : ℕ) → n ≤ 200000 → IsNext (front n) (event_of event.Shutdown)
shut_next n few = is_next (front n) (event_of event.Shutdown) (ready n) _ _ n n n (1 + 4 * n) (omega arith) (after_front n few) (shuts_on n few)

-- the whole script
pub all_good : (n : ℕ) → n ≤ 200000 → AreGood generated_config generated_word (generated_events n)
unfolding generated_events AreGood state_after
all_good n few = good_on (opening_core generated_config generated_word) (front n) (event_of event.Shutdown) (after_front n few).good (shut_next n few).good

pub all_unspent : (n : ℕ) → n ≤ 200000 → AreUnspent generated_config generated_word (generated_events n)
unfolding generated_events AreUnspent state_after
all_unspent n few = unspent_on (opening_core generated_config generated_word) (front n) (event_of event.Shutdown) (after_front n few).unspent (shut_next n few).unspent

-- its trace
all_trace : (n : ℕ) → n ≤ 200000 → trace (front n ++ event_of event.Shutdown ∷ []) ≡ trace (front n) ++ turn (1 + length (front n)) event.Shutdown ∷ action.Close 0 ∷ []
all_trace n few =
    trace_of-more generated_config generated_word (front n) (event_of event.Shutdown)
    ∙ ap (λ (more : List Action). trace (front n) ++ more) (ap (λ (c : Core). actions_of c (event_of event.Shutdown)) (after_front n few).state_is ∙ (shuts_on n few).acts (1 + length (front n)))

-- as many items are dealt as messages take
pub all_dealt : (n : ℕ) → n ≤ 200000 → items_dealt (trace (front n ++ event_of event.Shutdown ∷ [])) ≡ count takes (trace (front n ++ event_of event.Shutdown ∷ []))
all_dealt n few =
    let t = 1 + length (front n) in
    let more = turn t event.Shutdown ∷ action.Close 0 ∷ [] in
    let h = after_front n few in
    let dealt : items_dealt (trace (front n ++ event_of event.Shutdown ∷ [])) ≡ n =
    ap items_dealt (all_trace n few) ∙ ap (λ (b : Book). length (b.link 0).dealt) (book_append (trace (front n)) more)
    ∙ ap length (dealt_at_end (book (trace (front n))) t) ∙ h.tells.link.dealt in
    let took : count takes (trace (front n ++ event_of event.Shutdown ∷ [])) ≡ n =
    ap (count takes) (all_trace n few) ∙ count_append takes (trace (front n)) more ∙ (let all = h.takes in omega arith) in
    dealt ∙ sym took

-- and there are not many actions
pub all_few : (n : ℕ) → n ≤ 200000 → length (trace (front n ++ event_of event.Shutdown ∷ [])) ≤ 4000000
all_few n few =
    let h = (after_front n few).few in
    let longer = ap length (all_trace n few) ∙ length-append (trace (front n)) (turn (1 + length (front n)) event.Shutdown ∷ action.Close 0 ∷ []) in
    omega arith

pub all_taken : (n : ℕ) → n ≤ 200000 → count takes (trace (front n ++ event_of event.Shutdown ∷ [])) ≤ 200000
all_taken n few =
    let all = (after_front n few).takes in
    let more = turn (1 + length (front n)) event.Shutdown ∷ action.Close 0 ∷ [] in
    let took = ap (count takes) (all_trace n few) ∙ count_append takes (trace (front n)) more in
    omega arith
