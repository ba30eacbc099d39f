-- The turn of a submission on a link that has nothing to do.
use Rattle.std.proofs.Common.{◌≡◌, ℕ, ◌+◌, ◌==◌, Bool, true, false, ◌&&◌, not, List, [], ◌∷◌, ◌++◌, length, Option, Some, None, ap, ◌∙◌, if◌then◌else◌}
use Rattle.connection_info.specs.declared.address.RedisConnectionInfo.{RedisConnectionInfo}
use Rattle.redis_error.specs.declared.redis_error.RedisError.TheVariants as error
use Rattle.resp_write.specs.Pack.{pack}
use Rattle.driver_model.specs.declared.action.WaitKind.TheVariants as wait
use Rattle.driver_model.specs.declared.event.EventKind.TheVariants as event
use Rattle.driver_model.specs.declared.event.Submission.TheVariants as submission
use Rattle.driver_model.specs.declared.outcome.Shape.TheVariants.{Single}
use Rattle.link_core.specs.declared.message.Entry.{Entry}
use Rattle.link_core.specs.declared.outbox.Outbox.{Outbox}
use Rattle.link_core.specs.Link.{enqueued}
use Rattle.mux_conn.specs.declared.act.LinkAct.{LinkAct}
use Rattle.mux_conn.specs.declared.act.LinkAct.TheVariants as act
use Rattle.mux_conn.specs.declared.life.Life.{Life}
use Rattle.mux_conn.specs.declared.life.Life.TheVariants.{Ready}
use Rattle.mux_conn.specs.declared.request.Pending.{Pending}
use Rattle.mux_conn.specs.declared.request.Progress.TheVariants as progress
use Rattle.mux_conn.specs.declared.request.Request.{Request}
use Rattle.mux_conn.specs.declared.request.Waiting.{Waiting}
use Rattle.mux_conn.specs.Connection.{Work, work_with}
use Rattle.mux_conn.specs.Requests.{if_there, is_waiting, is_admitted, is_placed}
use Rattle.mux_conn.specs.Passes.{passed, admitted, admitted_at, still_waiting, seated, started, rounds_begun}
use Rattle.mux_conn.specs.Turn.{flushed, wait_shown, waits_shown, fresh_shown}
use Rattle.single_session.specs.Turn.{turning_with, counted, effect, asked_for, refused_with, moved_on, numbered, with_work, next_turn, pending}
use Rattle.script_generator.proofs.Lasts.{get_last, come_to, name_last, progress_last, permits_last}
use Rattle.script_generator.proofs.Sessions.{link_with, no_bytes, connection_with, still, up}

-- a message that takes one item, and whether its verdict is wanted
abbrev pub entry : ℕ → Bool → Entry
entry id awaited = record { id = id; shape = Single; awaited = awaited; got = [] }

-- a request that waits for the connection
abbrev waits : ℕ → List ℕ → Waiting
waits p packed = record { number = p; packed = packed; shape = Single; awaited = true; timeout = None }

-- all its bytes are offered
abbrev pub all_of : List ℕ → Outbox
all_of packed = record { unwritten = packed; offered = length packed }

-- a request, the last of these, is moved as far as it can go
moved : (info : RedisConnectionInfo) (n k : ℕ) (rs : List Request) (packed : List ℕ) →
    passed (work_with (connection_with info (Ready (link_with [] k no_bytes)) (rs ++ come_to n progress.Waiting ∷ []) (waits (length rs) packed ∷ []) (length rs ∷ []) []) [])
    ≡ work_with (connection_with info (Ready (link_with (entry (length rs) true ∷ []) (k + 1) (record { unwritten = packed; offered = 0 }))) (rs ++ come_to n progress.Placed ∷ []) [] (length rs ∷ []) (length rs ∷ []))
    (act.Start k n 1 (length packed) ∷ [])
moved info n k rs packed =
    let p = length rs in
    let bare = link_with [] k no_bytes in
    let life : Life = Ready bare in
    let held = link_with (entry p true ∷ []) (k + 1) (record { unwritten = packed; offered = 0 }) in
    let q = waits p packed in
    let from = rs ++ come_to n progress.Waiting ∷ [] in
    let work : List Request → List ℕ → Work = λ requests shown. work_with (connection_with info life requests [] (p ∷ []) shown) [] in
    let in_queue : List Request → Work = λ requests. started (work_with (connection_with info (Ready (enqueued bare (record { id = p; packed = packed; shape = Single; awaited = true }))) requests [] (p ∷ []) (p ∷ [])) []) in
    let begun : List Request → ℕ → Work = λ requests name. work_with (connection_with info (Ready held) requests [] (p ∷ []) (p ∷ [])) (act.Start k name 1 (length packed) ∷ []) in
    let is_let_in : admitted (work from []) q ≡ admitted_at (work from []) q life =
    ap (λ o. if if_there is_waiting o then admitted_at (work from []) q life else work from []) (get_last rs (come_to n progress.Waiting)) in
    let takes : admitted_at (work from []) q life ≡ seated (work (rs ++ come_to n progress.Admitted ∷ []) []) q =
    ap (λ requests. seated (work requests []) q) (permits_last rs n progress.Waiting progress.Admitted) in
    let sits : seated (work (rs ++ come_to n progress.Admitted ∷ []) []) q ≡ in_queue (rs ++ come_to n progress.Placed ∷ []) =
    ap in_queue (progress_last rs n progress.Admitted progress.Placed) in
    let starts : in_queue (rs ++ come_to n progress.Placed ∷ []) ≡ begun (rs ++ come_to n progress.Placed ∷ []) n =
    ap (begun (rs ++ come_to n progress.Placed ∷ [])) (name_last rs n progress.Placed) in
    ap (λ w. rounds_begun (still_waiting w [])) (is_let_in ∙ takes ∙ sits ∙ starts)

-- its bytes are offered, and it waits for nothing
shown : (info : RedisConnectionInfo) (n k : ℕ) (rs : List Request) (packed : List ℕ) (a : LinkAct) → (length packed == 0) ≡ false →
    flushed (work_with (connection_with info (Ready (link_with (entry (length rs) true ∷ []) k (record { unwritten = packed; offered = 0 }))) (rs ++ come_to n progress.Placed ∷ []) [] (length rs ∷ []) (length rs ∷ [])) (a ∷ []))
    ≡ work_with (still info (Ready (link_with (entry (length rs) true ∷ []) k (all_of packed))) (rs ++ come_to n progress.Placed ∷ [])) (a ∷ act.Write packed ∷ [])
shown info n k rs packed a some =
    let p = length rs in
    let placed = rs ++ come_to n progress.Placed ∷ [] in
    let before = link_with (entry p true ∷ []) k (record { unwritten = packed; offered = 0 }) in
    let after = link_with (entry p true ∷ []) k (all_of packed) in
    let w = work_with (connection_with info (Ready before) placed [] (p ∷ []) (p ∷ [])) (a ∷ []) in
    let offered : List ℕ → List ℕ → Work = λ fresh moved. work_with (connection_with info (Ready after) placed [] fresh moved) (a ∷ act.Write packed ∷ []) in
    let writes : flushed w ≡ waits_shown (offered (p ∷ []) (p ∷ [])) =
    ap (λ b. waits_shown (if not b && (0 == 0) then offered (p ∷ []) (p ∷ []) else w)) some in
    let first : waits_shown (offered (p ∷ []) (p ∷ [])) ≡ fresh_shown (offered (p ∷ []) []) =
    ap (λ o. fresh_shown (wait_shown (offered (p ∷ []) []) p (if if_there is_admitted o then Some wait.Place else if if_there is_placed o && false then Some wait.Room else None))) (get_last rs (come_to n progress.Placed)) in
    let second = ap (λ o. wait_shown (offered [] []) p (if if_there is_waiting o then Some wait.Permit else None)) (get_last rs (come_to n progress.Placed)) in
    writes ∙ first ∙ second

-- the turn
pub submit_turn : (info : RedisConnectionInfo) (turns k : ℕ) (table : List (Option Pending)) (rs : List Request) (args : List (List ℕ)) → (length (pack args) == 0) ≡ false →
    next_turn (up info turns table rs (link_with [] k no_bytes)) (event.Submit (submission.Cmd args))
    ≡ turning_with (up info (turns + 1) (table ++ Some (pending (length rs)) ∷ []) (rs ++ come_to (length table) progress.Placed ∷ []) (link_with (entry (length rs) true ∷ []) (k + 1) (all_of (pack args))))
    (act.Start k (length table) 1 (length (pack args)) ∷ act.Write (pack args) ∷ [])
unfolding next_turn
submit_turn info turns k table rs args some =
    let what = submission.Cmd args in
    let t = counted (up info turns table rs (link_with [] k no_bytes)) in
    let has : effect t (event.Submit what) ≡ asked_for t what =
    ap (λ b. if b then refused_with t error.EmptyCommand else asked_for t what) some in
    ap (λ u. numbered (moved_on u)) has
    ∙ ap (λ w. numbered (with_work (asked_for t what) (flushed w))) (moved info (length table) k rs (pack args))
    ∙ ap (λ w. numbered (with_work (asked_for t what) w)) (shown info (length table) (k + 1) rs (pack args) (act.Start k (length table) 1 (length (pack args))) some)
