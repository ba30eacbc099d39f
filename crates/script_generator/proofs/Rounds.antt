-- Where each round of the generated script leads to.
use Rattle.std.proofs.Common.{◌≡◌, ℕ, zero, suc, ◌+◌, ◌^◌, ◌<◌, ◌≤◌, ◌==◌, nat_lt, nat_le, true, false, ◌||◌, List, [], ◌∷◌, ◌++◌, length, Option, Some, refl, ap, ◌∙◌, subst, arith, length-append}
use Rattle.std.proofs.lemmas.Bool.Decides.{nat_tests}
use Rattle.containers.proofs.Choices.{not_le_test, ne_test}
use Rattle.resp_write.specs.Pack.{pack}
use Rattle.driver_model.specs.declared.action.Action.TheVariants as action
use Rattle.driver_model.specs.declared.action.Cause.TheVariants as cause
use Rattle.driver_model.specs.declared.action.Owner.TheVariants as owner
use Rattle.driver_model.specs.declared.event.Event.{Event}
use Rattle.driver_model.specs.declared.event.EventKind.TheVariants as event
use Rattle.link_core.specs.declared.message.Entry.{Entry}
use Rattle.link_core.specs.declared.outbox.Outbox.{Outbox}
use Rattle.link_core.specs.Link.{LinkState}
use Rattle.mux_conn.specs.declared.act.LinkAct.{LinkAct}
use Rattle.mux_conn.specs.declared.request.Pending.{Pending}
use Rattle.mux_conn.specs.declared.request.Progress.{Progress}
use Rattle.mux_conn.specs.declared.request.Progress.TheVariants as progress
use Rattle.mux_conn.specs.declared.request.Request.{Request}
use Rattle.single_session.specs.declared.core_state.Core.{Core}
use Rattle.single_session.specs.Turn.{Turning, turning_with, next_turn, shown_each, is_bad, has_run_out, pending}
use Rattle.script_generator.specs.Script.{event_of, command, submits, writes, cancels, replies}
use Rattle.script_generator.proofs.Lasts.{come_to}
use Rattle.script_generator.proofs.Sessions.{link_with, no_bytes, up}
use Rattle.script_generator.proofs.Submits.{entry, all_of, submit_turn}
use Rattle.script_generator.proofs.Turns.{told, shut, wrote_turn, cancel_turn, answer, answer_turn, unheard_turn, shutdown_turn}
use Rattle.script_generator.proofs.Fronts.{Steps}

-- no number runs out below 2^32
pub room_in : (t k : ℕ) (table : List (Option Pending)) (rs : List Request) (row : List Entry) (outbox : Outbox) → k < 2 ^ 32 → length table < 2 ^ 32 → has_run_out (up told t table rs (link_with row k outbox)) ≡ false
unfolding has_run_out
room_in t k table rs row outbox few short =
    ap (λ b. (b || false) || (nat_le (2 ^ 32) (length table) || false)) (not_le_test (2 ^ 32) k few) ∙ ap (λ b. b || false) (not_le_test (2 ^ 32) (length table) short)

-- what an event does to a session whose link is up, from its turn
steps_up : (e : Event) (table : List (Option Pending)) (rs : List Request) (link : LinkState) (core' : ℕ → Core) (acts : List LinkAct)
    → ((t : ℕ) → next_turn (up told t table rs link) e.kind ≡ turning_with (core' (t + 1)) acts) → ((t : ℕ) → is_bad (up told t table rs link) e.kind ≡ false) → ((t : ℕ) → has_run_out (core' t) ≡ false)
    → Steps (λ t. up told t table rs link) core' e (shown_each 0 0 0 acts)
steps_up e table rs link core' acts next good room = record {
  turns = λ t. refl;
  next = λ t. ap (λ (u : Turning). u.core) (next t);
  acts = λ t. ap (λ (u : Turning). action.Turn t (cause.Event e) ∷ shown_each 0 0 0 u.acts) (next t);
  good = good;
  room = room;
}

no_zero : (n : ℕ) → suc n ≡ 0 → ⊥
no_zero n e = omega arith

not_below : (n : ℕ) → nat_lt n n ≡ false
not_below n = grind (arith, nat_tests)

-- a command has bytes
packed_some : (i : ℕ) → (length (pack (command i)) == 0) ≡ false
packed_some i = ne_test (length (pack (command i))) 0 (λ e. no_zero _ e)

submit_steps : (i k : ℕ) (table : List (Option Pending)) (rs : List Request) → k + 1 < 2 ^ 32 → length table + 1 < 2 ^ 32 →
    Steps (λ t. up told t table rs (link_with [] k no_bytes))
    (λ t. up told t (table ++ Some (pending (length rs)) ∷ []) (rs ++ come_to (length table) progress.Placed ∷ []) (link_with (entry (length rs) true ∷ []) (k + 1) (all_of (pack (command i)))))
    (submits i) (action.Start 0 k (owner.Try (length table) 0) 1 (length (pack (command i))) ∷ action.Write 0 (pack (command i)) ∷ [])
unfolding is_bad
submit_steps i k table rs few short =
    let grown : length (table ++ Some (pending (length rs)) ∷ []) ≡ length table + 1 = length-append table (Some (pending (length rs)) ∷ []) in
    steps_up (submits i) table rs (link_with [] k no_bytes) _ _ (λ t. submit_turn told t k table rs (command i) (packed_some i)) (λ t. refl)
    (λ t. room_in t (k + 1) _ _ _ _ few (omega arith))

wrote_steps : (i k : ℕ) (table : List (Option Pending)) (rs : List Request) (row : List Entry) → k < 2 ^ 32 → length table < 2 ^ 32 →
    Steps (λ t. up told t table rs (link_with row k (all_of (pack (command i))))) (λ t. up told t table rs (link_with row k no_bytes)) (writes i) []
unfolding is_bad
wrote_steps i k table rs row few short =
    steps_up (writes i) table rs (link_with row k (all_of (pack (command i)))) _ _ (λ t. wrote_turn told t k table rs row (pack (command i)))
    (λ t. not_below (length (pack (command i)))) (λ t. room_in t k _ _ _ _ few short)

cancel_steps : (i k n : ℕ) (table : List (Option Pending)) (rs : List Request) → length table ≡ i → k < 2 ^ 32 → length table + 1 < 2 ^ 32 →
    Steps (λ t. up told t (table ++ Some (pending (length rs)) ∷ []) (rs ++ come_to n progress.Placed ∷ []) (link_with (entry (length rs) true ∷ []) k no_bytes))
    (λ t. up told t (table ++ Some (pending (length rs)) ∷ []) (rs ++ come_to n progress.Closed ∷ []) (link_with (entry (length rs) false ∷ []) k no_bytes))
    (cancels i) []
unfolding is_bad
cancel_steps i k n table rs long few short =
    let grown : length (table ++ Some (pending (length rs)) ∷ []) ≡ length table + 1 = length-append table (Some (pending (length rs)) ∷ []) in
    steps_up (cancels i) _ _ _ _ _
    (λ t. subst (λ m. next_turn (up told t (table ++ Some (pending (length rs)) ∷ []) (rs ++ come_to n progress.Placed ∷ []) (link_with (entry (length rs) true ∷ []) k no_bytes)) (event.Cancel m)
    ≡ turning_with (up told (t + 1) (table ++ Some (pending (length rs)) ∷ []) (rs ++ come_to n progress.Closed ∷ []) (link_with (entry (length rs) false ∷ []) k no_bytes)) []) long (cancel_turn told t k n table rs))
    (λ t. not_le_test (length (table ++ Some (pending (length rs)) ∷ [])) i (omega arith))
    (λ t. room_in t k _ _ _ _ few (omega arith))

answer_steps : (k n : ℕ) (table : List (Option Pending)) (rs : List Request) → k < 2 ^ 32 → length table < 2 ^ 32 → length rs < 2 ^ 32 →
    Steps (λ t. up told t table (rs ++ come_to n progress.Placed ∷ []) (link_with (entry (length rs) true ∷ []) k no_bytes)) (λ t. up told t table (rs ++ come_to n progress.Closed ∷ []) (link_with [] k no_bytes))
    replies (action.Outcome n answer ∷ [])
unfolding is_bad
answer_steps k n table rs few short own =
    steps_up replies _ _ _ _ _ (λ t. answer_turn told t k n table rs own) (λ t. refl) (λ t. room_in t k _ _ _ _ few short)

unheard_steps : (k p : ℕ) (table : List (Option Pending)) (rs : List Request) → k < 2 ^ 32 → length table < 2 ^ 32 →
    Steps (λ t. up told t table rs (link_with (entry p false ∷ []) k no_bytes)) (λ t. up told t table rs (link_with [] k no_bytes)) replies []
unfolding is_bad
unheard_steps k p table rs few short =
    steps_up replies _ _ _ _ _ (λ t. unheard_turn told t k p table rs) (λ t. refl) (λ t. room_in t k _ _ _ _ few short)

shut_steps : (k : ℕ) (table : List (Option Pending)) (rs : List Request) → length table < 2 ^ 32 →
    Steps (λ t. up told t table rs (link_with [] k no_bytes)) (λ t. shut told t table rs) (event_of event.Shutdown) (action.Close 0 ∷ [])
unfolding is_bad has_run_out
shut_steps k table rs short =
    steps_up (event_of event.Shutdown) table rs _ _ _ (λ t. shutdown_turn told t k table rs) (λ t. refl)
    (λ t. ap (λ b. b || false) (not_le_test (2 ^ 32) (length table) short))

-- the requests of the submissions of so many rounds, all closed
pub record Lists : Type 0 where
  pub table : List (Option Pending)
  pub requests : List Request

-- the request of one more round
abbrev pub asked : Lists → Progress → Lists
asked l now = record { table = l.table ++ Some (pending (length l.requests)) ∷ []; requests = l.requests ++ come_to (length l.table) now ∷ [] }

abbrev pub lists : ℕ → Lists
lists zero = record { table = []; requests = [] }
lists (suc i) = asked (lists i) progress.Closed

pub long : (i : ℕ) → length (lists i).table ≡ i
long zero = refl
long (suc i) = length-append (lists i).table (Some (pending (length (lists i).requests)) ∷ []) ∙ (let e : length (lists i).table ≡ i = long i in omega arith)

-- so many requests in all
asked_for : (i : ℕ) → length (lists i).requests ≡ i
asked_for zero = refl
asked_for (suc i) = length-append (lists i).requests (come_to (length (lists i).table) progress.Closed ∷ []) ∙ (let e : length (lists i).requests ≡ i = asked_for i in omega arith)

-- a session of these requests, over a link of this row, of so many messages that started, and with these bytes to be written
abbrev pub over : Lists → List Entry → ℕ → Outbox → ℕ → Core
over l row k outbox t = up told t l.table l.requests (link_with row k outbox)

-- after so many rounds; and in the next one, once its command is offered, and taken, and its caller is gone
abbrev pub ready : ℕ → ℕ → Core
ready i = over (lists i) [] i no_bytes

abbrev pub offering : ℕ → ℕ → Core
offering i = over (asked (lists i) progress.Placed) (entry (length (lists i).requests) true ∷ []) (i + 1) (all_of (pack (command i)))

abbrev pub waiting : ℕ → ℕ → Core
waiting i = over (asked (lists i) progress.Placed) (entry (length (lists i).requests) true ∷ []) (i + 1) no_bytes

abbrev pub unheard : ℕ → ℕ → Core
unheard i = over (asked (lists i) progress.Closed) (entry (length (lists i).requests) false ∷ []) (i + 1) no_bytes

-- the steps of a round
pub submits_on : (i : ℕ) → i < 200000 → Steps (ready i) (offering i) (submits i) (action.Start 0 i (owner.Try (length (lists i).table) 0) 1 (length (pack (command i))) ∷ action.Write 0 (pack (command i)) ∷ [])
submits_on i few = let l = long i in submit_steps i i (lists i).table (lists i).requests (omega arith) (omega arith)

-- so many submissions in all
longer : (i : ℕ) → length (asked (lists i) progress.Placed).table ≡ i + 1
longer i = length-append (lists i).table (Some (pending (length (lists i).requests)) ∷ []) ∙ (let e : length (lists i).table ≡ i = long i in omega arith)

pub writes_on : (i : ℕ) → i < 200000 → Steps (offering i) (waiting i) (writes i) []
writes_on i few = let l = longer i in wrote_steps i (i + 1) _ _ _ (omega arith) (omega arith)

pub cancels_on : (i : ℕ) → i < 200000 → Steps (waiting i) (unheard i) (cancels i) []
cancels_on i few = let l = long i in cancel_steps i (i + 1) (length (lists i).table) (lists i).table (lists i).requests (long i) (omega arith) (omega arith)

pub answers_on : (i : ℕ) → i < 200000 → Steps (waiting i) (over (lists (suc i)) [] (i + 1) no_bytes) replies (action.Outcome (length (lists i).table) answer ∷ [])
answers_on i few =
    let l = longer i in
    let r = asked_for i in
    answer_steps (i + 1) (length (lists i).table) (asked (lists i) progress.Placed).table (lists i).requests (omega arith) (omega arith) (omega arith)

pub drops_on : (i : ℕ) → i < 200000 → Steps (unheard i) (over (lists (suc i)) [] (i + 1) no_bytes) replies []
drops_on i few = let l = longer i in unheard_steps (i + 1) (length (lists i).requests) (asked (lists i) progress.Placed).table (asked (lists i) progress.Closed).requests (omega arith) (omega arith)

pub shuts_on : (n : ℕ) → n ≤ 200000 → Steps (ready n) (λ t. shut told t (lists n).table (lists n).requests) (event_of event.Shutdown) (action.Close 0 ∷ [])
shuts_on n few = let l = long n in shut_steps n (lists n).table (lists n).requests (omega arith)
