-- The other turns of the generated script.
use Rattle.std.proofs.Common.{◌≡◌, ℕ, ◌+◌, ◌^◌, ◌<◌, ◌==◌, Bool, true, false, List, [], ◌∷◌, ◌++◌, length, drop, min, Option, Some, None, refl, ap, ◌∙◌, arith, if◌then◌else◌}
use Rattle.std.specs.Fmt.{digits}
use Rattle.std.specs.Str.Lossy.{utf8_lossy, utf8_valid_len}
use Rattle.url.proofs.OnLiterals.{url_on_literals}
use Rattle.containers.proofs.Choices.{eq_test, ne_test}
use Rattle.resp_value.specs.Data.{simple}
use Rattle.resp_read.specs.Grammar.{max_depth}
use Rattle.resp_read.specs.Values.{values, left_over, is_spoiled}
use Rattle.resp_read.specs.Items.{items}
use Rattle.connection_info.specs.declared.address.RedisConnectionInfo.{RedisConnectionInfo}
use Rattle.connection_setup.specs.Setup.{setup}
use Rattle.redis_error.specs.declared.redis_error.RedisError.TheVariants as error
use Rattle.driver_model.specs.Config.{told_info}
use Rattle.driver_model.specs.Setup.{says_nothing}
use Rattle.driver_model.specs.Shape.{outcome_of, verdict_of}
use Rattle.driver_model.specs.declared.event.EventKind.TheVariants as event
use Rattle.driver_model.specs.declared.hearing.Hearing.TheVariants as hearing
use Rattle.driver_model.specs.declared.outcome.Outcome.{Outcome}
use Rattle.driver_model.specs.declared.outcome.Shape.TheVariants.{Single}
use Rattle.link_core.specs.declared.message.Entry.{Entry}
use Rattle.link_core.specs.declared.message.Settled.{Settled}
use Rattle.link_core.specs.Link.{Reading, piece_read}
use Rattle.link_core.specs.Row.{silent}
use Rattle.mux_conn.specs.declared.act.LinkAct.TheVariants as act
use Rattle.mux_conn.specs.declared.connection.MultiplexedConnection.{MultiplexedConnection}
use Rattle.mux_conn.specs.declared.life.Greeting.TheVariants as greet
use Rattle.mux_conn.specs.declared.life.Life.TheVariants.{Ready, Ended}
use Rattle.mux_conn.specs.declared.request.Pending.{Pending}
use Rattle.mux_conn.specs.declared.request.Progress.TheVariants as progress
use Rattle.mux_conn.specs.declared.request.Request.{Request}
use Rattle.mux_conn.specs.Connection.{Work, work_with, acted}
use Rattle.mux_conn.specs.Requests.{if_there, is_open, permits_or_none, name_at, closed, answered}
use Rattle.mux_conn.specs.Renewals.{renewal_id, renewing, replied, is_done}
use Rattle.mux_conn.specs.Repeats.{repeat_id}
use Rattle.mux_conn.specs.Effects.{new_link, all_fresh, greeted, sets_up, cancelled_in, read_to, served}
use Rattle.single_session.specs.declared.core_state.Core.{Core}
use Rattle.single_session.specs.Replay.{opening_core}
use Rattle.single_session.specs.Turn.{Turning, turning_with, work_of, counted, left_by, moved_on, numbered, with_work, next_turn, pending}
use Rattle.script_generator.specs.Script.{generated_config, reply}
use Rattle.script_generator.proofs.Lasts.{get_last, come_to, name_last, permits_last}
use Rattle.script_generator.proofs.Sessions.{link_with, no_bytes, still, session_with, up}
use Rattle.script_generator.proofs.Submits.{entry, all_of}

-- what is said to the server
abbrev pub told : RedisConnectionInfo
told = told_info generated_config

-- nothing
nothing_said : says_nothing (setup told true) ≡ true
unfolding url_on_literals utf8_lossy utf8_valid_len
nothing_said = refl

-- the connect succeeds
pub connected_turn : (word : ℕ) → next_turn (opening_core generated_config word) (event.Connected 0) ≡ turning_with (up told 2 [] [] (link_with [] 0 no_bytes)) (act.Created None ∷ [])
unfolding next_turn
connected_turn word =
    let t = counted (opening_core generated_config word) in
    let w = work_of t in
    ap (λ b. numbered (moved_on (with_work t (if b then greeted w (new_link w.conn) else sets_up (all_fresh w) (new_link w.conn) greet.WithUser)))) nothing_said

drop_all : (bs : List ℕ) → drop (length bs) bs ≡ []
drop_all [] = refl
drop_all (b ∷ bs) = drop_all bs

-- all that is offered is taken
pub wrote_turn : (info : RedisConnectionInfo) (turns k : ℕ) (table : List (Option Pending)) (rs : List Request) (row : List Entry) (packed : List ℕ) →
    next_turn (up info turns table rs (link_with row k (all_of packed))) (event.Wrote 0 (length packed)) ≡ turning_with (up info (turns + 1) table rs (link_with row k no_bytes)) []
unfolding next_turn
wrote_turn info turns k table rs row packed =
    ap (λ bs. numbered (moved_on (turning_with (up info (turns + 1) table rs (link_with row k (record { unwritten = bs; offered = 0 }))) []))) (drop_all packed)

-- the caller of the last request goes
pub cancel_turn : (info : RedisConnectionInfo) (turns k n : ℕ) (table : List (Option Pending)) (rs : List Request) →
    next_turn (up info turns (table ++ Some (pending (length rs)) ∷ []) (rs ++ come_to n progress.Placed ∷ []) (link_with (entry (length rs) true ∷ []) k no_bytes)) (event.Cancel (length table))
    ≡ turning_with (up info (turns + 1) (table ++ Some (pending (length rs)) ∷ []) (rs ++ come_to n progress.Closed ∷ []) (link_with (entry (length rs) false ∷ []) k no_bytes)) []
unfolding next_turn
cancel_turn info turns k n table rs =
    let p = length rs in
    let all = table ++ Some (pending p) ∷ [] in
    let e = entry p true in
    let life = Ready (link_with (e ∷ []) k no_bytes) in
    let conn = still info life (rs ++ come_to n progress.Placed ∷ []) in
    let over : MultiplexedConnection → Turning = λ c. numbered (moved_on (turning_with (session_with (turns + 1) all c) [])) in
    let gone : List Request → Option Request → Bool → Turning =
    λ requests o same. over (record (still info (Ready (link_with (if same then silent e ∷ [] else e ∷ []) k no_bytes)) requests) { free = min 0 (0 + permits_or_none o) }) in
    let found = ap (λ o. numbered (moved_on (left_by (turning_with (session_with (turns + 1) all conn) []) o))) (get_last table (Some (pending p))) in
    let leaves = ap (λ o. over (if if_there is_open o then record (closed conn p) { life = cancelled_in life p } else conn)) (get_last rs (come_to n progress.Placed)) in
    found ∙ leaves ∙ (λ i. gone (permits_last rs n progress.Placed progress.Closed i) (get_last rs (come_to n progress.Placed) i) (eq_test p p refl i))

-- what a reply is to the message that it answers
abbrev settled : ℕ → Bool → List Settled
settled p awaited = if awaited then record { id = p; verdict = verdict_of Single (simple (118 ∷ []) ∷ []) } ∷ [] else []

dealt : (p k : ℕ) (awaited : Bool) → piece_read hearing.Nothing true (link_with (entry p awaited ∷ []) k no_bytes) reply ≡ record { link = link_with [] k no_bytes; out = settled p awaited; notices = []; strange = false }
unfolding digits items values left_over is_spoiled max_depth
dealt p k awaited = refl

-- the outcome of a reply
abbrev pub answer : Outcome
answer = outcome_of (verdict_of Single (simple (118 ∷ []) ∷ []))

-- the last request is answered
pub answer_turn : (info : RedisConnectionInfo) (turns k n : ℕ) (table : List (Option Pending)) (rs : List Request) → length rs < 2 ^ 32 →
    next_turn (up info turns table (rs ++ come_to n progress.Placed ∷ []) (link_with (entry (length rs) true ∷ []) k no_bytes)) (event.Bytes 0 reply)
    ≡ turning_with (up info (turns + 1) table (rs ++ come_to n progress.Closed ∷ []) (link_with [] k no_bytes)) (act.Outcome n answer ∷ [])
unfolding next_turn
answer_turn info turns k n table rs few =
    let p = length rs in
    let placed = rs ++ come_to n progress.Placed ∷ [] in
    let w = work_with (still info (Ready (link_with (entry p true ∷ []) k no_bytes)) placed) [] in
    let bare = still info (Ready (link_with [] k no_bytes)) placed in
    let over : Work → Turning = λ v. numbered (moved_on (turning_with (session_with (turns + 1) table v.conn) v.acts)) in
    let done : List Request → Option Request → ℕ → Turning =
    λ requests o name. over (work_with (record (still info (Ready (link_with [] k no_bytes)) requests) { free = min 0 (0 + permits_or_none o) }) (act.Outcome name answer ∷ [])) in
    let own : (p == renewal_id) ≡ false = ne_test p renewal_id (λ e. omega (arith, few, e)) in
    let apart : (p == repeat_id) ≡ false = ne_test p repeat_id (λ e. omega (arith, few, e)) in
    let taken = work_with bare [] in
    ap (λ (r : Reading). over (read_to w r)) (dealt p k true)
    ∙ ap (λ b. over (if b then renewing taken (replied bare.renewal (is_done (verdict_of Single (simple (118 ∷ []) ∷ [])))) else if p == repeat_id then served taken else answered taken p answer)) own
    ∙ ap (λ b. over (if b then served taken else answered taken p answer)) apart
    ∙ ap (λ o. over (if if_there is_open o then acted (work_with (closed bare p) []) (act.Outcome (name_at placed p) answer) else work_with bare [])) (get_last rs (come_to n progress.Placed))
    ∙ (λ i. done (permits_last rs n progress.Placed progress.Closed i) (get_last rs (come_to n progress.Placed) i) (name_last rs n progress.Placed i))

-- an item whose message nobody awaits
pub unheard_turn : (info : RedisConnectionInfo) (turns k p : ℕ) (table : List (Option Pending)) (rs : List Request) →
    next_turn (up info turns table rs (link_with (entry p false ∷ []) k no_bytes)) (event.Bytes 0 reply) ≡ turning_with (up info (turns + 1) table rs (link_with [] k no_bytes)) []
unfolding next_turn
unheard_turn info turns k p table rs =
    let w = work_with (still info (Ready (link_with (entry p false ∷ []) k no_bytes)) rs) [] in
    let over : Work → Turning = λ v. numbered (moved_on (turning_with (session_with (turns + 1) table v.conn) v.acts)) in
    ap (λ (r : Reading). over (read_to w r)) (dealt p k false)

-- everything is closed
abbrev pub shut : RedisConnectionInfo → ℕ → List (Option Pending) → List Request → Core
shut info turns table rs = record (session_with turns table (still info (Ended error.Closed) rs)) { shut = true }

pub shutdown_turn : (info : RedisConnectionInfo) (turns k : ℕ) (table : List (Option Pending)) (rs : List Request) →
    next_turn (up info turns table rs (link_with [] k no_bytes)) event.Shutdown ≡ turning_with (shut info (turns + 1) table rs) (act.Close ∷ [])
unfolding next_turn
shutdown_turn info turns k table rs = refl
