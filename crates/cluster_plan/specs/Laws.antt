-- What is true of every plan.
use Rattle.std.specs.Prelude.{◌≡◌, ◌≢◌, ◌<◌, ◌↔◌, ◌⊎◌, ℕ, ◌+◌, ◌++◌, false, List, [], ◌∷◌, map, length, Option, Some, None}
use Rattle.std.specs.List.{All, Contains}
use Rattle.redis_error.specs.declared.redis_error.RedisError.{RedisError}
use Rattle.redis_error.specs.declared.redis_error.RedisError.TheVariants.{NotFound}
use Rattle.resp_value.specs.declared.value.Value.{Value}
use Rattle.resp_value.specs.View.{data_of}
use Rattle.slot_hash.specs.declared.address.NodeAddress.{NodeAddress}
use Rattle.mux_routing.specs.declared.rows.SlotRow.{SlotRow}
use Rattle.mux_routing.specs.Reply.{rows_of}
use Rattle.mux_routing.specs.Shards.{addresses}
use Rattle.cluster_plan.specs.declared.asks.Part.{Part}
use Rattle.cluster_plan.specs.declared.asks.Part.TheVariants.{Initial, Attempt}
use Rattle.cluster_plan.specs.declared.asks.Request.{Request}
use Rattle.cluster_plan.specs.declared.asks.Request.TheVariants as request
use Rattle.cluster_plan.specs.declared.asks.Ask.{Ask}
use Rattle.cluster_plan.specs.declared.asks.Answer.{Answer}
use Rattle.cluster_plan.specs.declared.asks.Answer.TheVariants as answer
use Rattle.cluster_plan.specs.declared.connections.ConnState.{ConnState}
use Rattle.cluster_plan.specs.declared.connections.ConnState.TheVariants.{Connected}
use Rattle.cluster_plan.specs.declared.connections.NodeEntry.{NodeEntry}
use Rattle.cluster_plan.specs.declared.recovery_kind.Failure.TheVariants.{Create}
use Rattle.cluster_plan.specs.declared.recovery_kind.RecoveryKind.{RecoveryKind}
use Rattle.cluster_plan.specs.declared.recovery_kind.RecoveryKind.TheVariants as kind
use Rattle.cluster_plan.specs.Asks.{Answered, answer_to, is_ask, link_told}
use Rattle.cluster_plan.specs.Connections.{put, without}
use Rattle.cluster_plan.specs.Reached.{connect}
use Rattle.cluster_plan.specs.Refresh.{Next, asks, ok, failed, Plan, query}
use Rattle.cluster_plan.specs.Initial.{last_failure}
use Rattle.cluster_plan.specs.Plan.{plan}
use Rattle.cluster_plan.specs.Repair.{waits_over}

-- the end, or at least one ask, and asks alone that have no answer
abbrev pub GoesOnFrom : List Answered → Next → Type 0
GoesOnFrom answers (asks xs) = (0 < length xs) × All (λ x. answer_to x answers ≡ None) xs
GoesOnFrom answers ok = Unit {0}
GoesOnFrom answers (failed failure) = Unit {0}

abbrev pub IsGiven : Ask → Next → Type 0
IsGiven x (asks xs) = Contains xs x
IsGiven x ok = ⊥
IsGiven x (failed failure) = ⊥

-- each ask that was answered had been given by the plan at its time, by the entries and the rows of then
abbrev pub WereGiven : RecoveryKind → List NodeAddress → Option ℕ → List Answered → Type 0
WereGiven kind nodes attempts answers =
    (before after : List Answered) (x : Answered) → answers ≡ before ++ x ∷ after
    → (entries : List NodeEntry) × (rows : List SlotRow) × IsGiven x.0 (plan kind nodes entries rows attempts before).next

-- where each ask that was answered had been given, a plan has ended, or it gives an ask that has no answer
abbrev pub GoesOn : Type 0
GoesOn =
    (kind : RecoveryKind) (nodes : List NodeAddress) (entries : List NodeEntry) (rows : List SlotRow) (attempts : Option ℕ) (answers : List Answered)
    → WereGiven kind nodes attempts answers → GoesOnFrom answers (plan kind nodes entries rows attempts answers).next

-- no ask is answered twice: a plan gives each of its asks once
abbrev pub GivesOnce : Type 0
GivesOnce =
    (kind : RecoveryKind) (nodes : List NodeAddress) (attempts : Option ℕ) (answers : List Answered)
    → WereGiven kind nodes attempts answers
    → (before after : List Answered) (x : Answered) → answers ≡ before ++ x ∷ after → answer_to x.0 before ≡ None

-- a reconnect begins with a connect of each initial address
abbrev pub ConnectsEach : Type 0
ConnectsEach =
    (a : NodeAddress) (more : List NodeAddress) (entries : List NodeEntry) (rows : List SlotRow) (attempts : Option ℕ)
    → (plan kind.Initial (a ∷ more) entries rows attempts []).next ≡ asks (map (connect Initial) (a ∷ more))

abbrev pub HasFailed : Option Answer → Type 0
HasFailed None = ⊥
HasFailed (Some answer) = link_told answer ≡ None

-- it fails for want of an initial link exactly where no initial address was connected, with the last failure
abbrev pub FailsWhereNone : Type 0
FailsWhereNone =
    (nodes : List NodeAddress) (entries : List NodeEntry) (rows : List SlotRow) (attempts : Option ℕ) (answers : List Answered) (error : RedisError)
    → ((plan kind.Initial nodes entries rows attempts answers).next ≡ failed (Create error))
    ↔ (All (λ a. HasFailed (answer_to (connect Initial a) answers)) nodes × (error ≡ last_failure NotFound answers))

-- the last failure is the error behind which no other initial connect is answered
abbrev pub LastCounts : Type 0
LastCounts =
    (before after : List Answered) (a : NodeAddress) (error : RedisError)
    → All (λ x. x.0.part ≢ Initial) after
    → last_failure NotFound (before ++ (connect Initial a, answer.Failed error) ∷ after) ≡ error

-- whether a plan is of a reconnect or a refresh
abbrev pub IsRecovery : RecoveryKind → Type 0
IsRecovery kind.Initial = Unit {0}
IsRecovery kind.Slots = Unit {0}
IsRecovery (kind.Repair a) = ⊥

-- some node told these rows
abbrev pub IsTold : List Answered → List SlotRow → Type 0
IsTold answers rows =
    (part : Part) × (a : NodeAddress) × (link : ℕ) × (v : Value)
    × (answer_to (query part a link) answers ≡ Some (answer.Value v)) × (rows_of a.host (data_of v) ≡ Some rows)

abbrev pub IsConnected : ConnState → Type 0
IsConnected state = (link : ℕ) × (state ≡ Connected link)

-- what a recovery asks for, it goes on to ask for while other asks are answered
abbrev pub StaysAsked : Type 0
StaysAsked =
    (kind : RecoveryKind) (nodes : List NodeAddress) (entries : List NodeEntry) (rows : List SlotRow) (attempts : Option ℕ) (answers : List Answered) (x y : Ask) (found : Answer)
    → IsRecovery kind → IsGiven x (plan kind nodes entries rows attempts answers).next → IsGiven y (plan kind nodes entries rows attempts answers).next
    → is_ask x y ≡ false → IsGiven x (plan kind nodes entries rows attempts (answers ++ (y, found) ∷ [])).next

-- a recovery that ends well has the rows that some node told, and its map has nodes of these rows alone, all connected
abbrev pub EndsWithRows : Type 0
EndsWithRows =
    (kind : RecoveryKind) (nodes : List NodeAddress) (entries : List NodeEntry) (rows : List SlotRow) (attempts : Option ℕ) (answers : List Answered)
    → IsRecovery kind → (plan kind nodes entries rows attempts answers).next ≡ ok
    → IsTold answers (plan kind nodes entries rows attempts answers).rows
    × All (λ e. IsConnected e.state × Contains (addresses (plan kind nodes entries rows attempts answers).rows) e.address) (plan kind nodes entries rows attempts answers).entries

abbrev pub HasEnded : Next → Type 0
HasEnded (asks xs) = ⊥
HasEnded ok = Unit {0}
HasEnded (failed failure) = Unit {0}

-- a recovery that has ended stays as it is, whatever else is answered: the last failure of the initial connects stands
abbrev pub StaysEnded : Type 0
StaysEnded =
    (kind : RecoveryKind) (nodes : List NodeAddress) (entries : List NodeEntry) (rows : List SlotRow) (attempts : Option ℕ) (answers more : List Answered)
    → IsRecovery kind → HasEnded (plan kind nodes entries rows attempts answers).next → All (λ x. x.0.part ≢ Initial) more
    → plan kind nodes entries rows attempts (answers ++ more) ≡ plan kind nodes entries rows attempts answers

abbrev pub IsOnLink : Request → Type 0
IsOnLink request.Connect = ⊥
IsOnLink (request.Check link) = Unit {0}
IsOnLink (request.Query link) = Unit {0}
IsOnLink (request.Wait ms) = ⊥

abbrev pub IsFailed : Answer → Type 0
IsFailed (answer.Connected link) = ⊥
IsFailed (answer.Value v) = ⊥
IsFailed (answer.Failed error) = Unit {0}
IsFailed answer.Fired = ⊥

-- as long as links failed alone, as those do that have ended, a refresh of a map that isn't empty goes on
abbrev pub GoesOnWithoutLinks : Type 0
GoesOnWithoutLinks =
    (nodes : List NodeAddress) (e : NodeEntry) (es : List NodeEntry) (rows : List SlotRow) (attempts : Option ℕ) (answers : List Answered)
    → All (λ x. IsOnLink x.0.request × IsFailed x.1) answers
    → (x : Ask) × ((plan kind.Slots nodes (e ∷ es) rows attempts answers).next ≡ asks (x ∷ []))

-- a refresh of an empty map is a reconnect
abbrev pub ReconnectsWhereNone : Type 0
ReconnectsWhereNone =
    (nodes : List NodeAddress) (rows : List SlotRow) (attempts : Option ℕ) (answers : List Answered)
    → plan kind.Slots nodes [] rows attempts answers ≡ plan kind.Initial nodes [] rows attempts answers

abbrev pub ChangesOne : NodeAddress → List NodeEntry → List SlotRow → Plan → Type 0
ChangesOne a entries rows p =
    (p.rows ≡ rows) × ((p.entries ≡ entries) ⊎ ((p.entries ≡ without a entries) ⊎ ((link : ℕ) × (p.entries ≡ put a (Connected link) entries))))

-- a repair that hasn't ended asks one thing of its own attempt: that behind the waits that have fired
abbrev pub RepairAsksOne : Type 0
RepairAsksOne =
    (a : NodeAddress) (nodes : List NodeAddress) (entries : List NodeEntry) (rows : List SlotRow) (attempts : Option ℕ) (answers : List Answered)
    → ((plan (kind.Repair a) nodes entries rows attempts answers).next ≡ ok)
    ⊎ ((x : Ask) × ((plan (kind.Repair a) nodes entries rows attempts answers).next ≡ asks (x ∷ [])) × (x.part ≡ Attempt (waits_over answers + 1)) × (x.address ≡ a))

-- it makes no more attempts than are set
abbrev pub RepairKeepsToAttempts : Type 0
RepairKeepsToAttempts =
    (a : NodeAddress) (nodes : List NodeAddress) (entries : List NodeEntry) (rows : List SlotRow) (most : ℕ) (answers : List Answered)
    → ((plan (kind.Repair a) nodes entries rows (Some most) answers).next ≡ ok) ⊎ (waits_over answers < most)

-- of the map it changes its own entry alone, and of the rows nothing
abbrev pub RepairChangesOne : Type 0
RepairChangesOne =
    (a : NodeAddress) (nodes : List NodeAddress) (entries : List NodeEntry) (rows : List SlotRow) (attempts : Option ℕ) (answers : List Answered)
    → ChangesOne a entries rows (plan (kind.Repair a) nodes entries rows attempts answers)
