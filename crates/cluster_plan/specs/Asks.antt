-- The asks of a plan, which of them were answered, and what an answer says.
use Rattle.std.specs.Prelude.{ℕ, ◌+◌, ◌==◌, ◌&&◌, Bool, true, false, List, [], ◌∷◌, Option, Some, None, if◌then◌else◌}
use Rattle.std.specs.Str.{bytes_eq}
use Rattle.resp_value.specs.Data.{Data, error}
use Rattle.resp_value.specs.View.{data_of}
use Rattle.redis_error.specs.declared.redis_error.RedisError.{RedisError}
use Rattle.redis_error.specs.declared.redis_error.RedisError.TheVariants.{Parse, Server}
use Rattle.slot_hash.specs.declared.address.NodeAddress.{NodeAddress}
use Rattle.mux_routing.specs.declared.rows.SlotRow.{SlotRow}
use Rattle.mux_routing.specs.Reply.{rows_of}
use Rattle.cluster_plan.specs.declared.asks.Part.{Part}
use Rattle.cluster_plan.specs.declared.asks.Part.TheVariants.{Initial, First, Second, Last, Attempt}
use Rattle.cluster_plan.specs.declared.asks.Request.{Request}
use Rattle.cluster_plan.specs.declared.asks.Request.TheVariants.{Connect, Check, Query, Wait}
use Rattle.cluster_plan.specs.declared.asks.Ask.{Ask}
use Rattle.cluster_plan.specs.declared.asks.Answer.{Answer}
use Rattle.cluster_plan.specs.declared.asks.Answer.TheVariants.{Connected, Value, Failed}

-- an ask that was answered, with its answer
abbrev pub Answered : Type 0
Answered = Ask × Answer

-- the parts of a plan by numbers, and what is asked
abbrev pub part_number : Part → ℕ
part_number Initial = 0
part_number First = 1
part_number Second = 2
part_number Last = 3
part_number (Attempt n) = 4 + n

abbrev pub request_number : Request → ℕ
request_number Connect = 0
request_number (Check link) = 1
request_number (Query link) = 2
request_number (Wait ms) = 3

abbrev pub same_address : NodeAddress → NodeAddress → Bool
same_address a b = bytes_eq a.host b.host && a.port == b.port

-- an ask is told from others by its part, by what is asked, and by its address
abbrev pub is_ask : Ask → Ask → Bool
is_ask x y = part_number x.part == part_number y.part && request_number x.request == request_number y.request && same_address x.address y.address

-- the answer to an ask, if it has one
abbrev pub answer_to : Ask → List Answered → Option Answer
answer_to x [] = None
answer_to x (a ∷ more) = if is_ask x a.0 then Some a.1 else answer_to x more

-- the link that a connect brought
abbrev pub link_told : Answer → Option ℕ
link_told (Connected link) = Some link
link_told _ = None

abbrev pub is_no_error : Data → Bool
is_no_error (error e) = false
is_no_error _ = true

-- a check is passed by any reply that isn't a server's error
abbrev pub passes : Answer → Bool
passes (Value v) = is_no_error (data_of v)
passes _ = false

-- the rows that a node of that host told, if its reply is good: if it is one of the shape of rows
abbrev pub rows_told : List ℕ → Answer → Option (List SlotRow)
rows_told host (Value v) = rows_of host (data_of v)
rows_told host _ = None

abbrev pub error_of_reply : Data → RedisError
error_of_reply (error e) = Server e
error_of_reply _ = Parse

-- the error of an answer that isn't what was asked for: a server's error is itself, and any other reply has another shape
abbrev pub error_told : Answer → RedisError
error_told (Failed e) = e
error_told (Value v) = error_of_reply (data_of v)
error_told _ = Parse
