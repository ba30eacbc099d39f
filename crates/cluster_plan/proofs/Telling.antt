-- An attempt goes on by what the answers to its asks say: whether its check was passed, and which link its connect brought.
use Rattle.std.proofs.Common.{◌≡◌, ℕ, Bool, true, false, List, ◌∷◌, Option, Some, None, option_map, refl, sym, ◌∙◌, ap, if◌then◌else◌}
use Rattle.redis_error.specs.declared.redis_error.RedisError.{RedisError}
use Rattle.slot_hash.specs.declared.address.NodeAddress.{NodeAddress}
use Rattle.mux_routing.specs.declared.rows.SlotRow.{SlotRow}
use Rattle.mux_routing.specs.Shards.{addresses}
use Rattle.cluster_plan.specs.declared.asks.Part.TheVariants.{Attempt}
use Rattle.cluster_plan.specs.declared.asks.Answer.{Answer}
use Rattle.cluster_plan.specs.declared.connections.ConnState.TheVariants.{Connected}
use Rattle.cluster_plan.specs.declared.connections.NodeEntry.{NodeEntry}
use Rattle.cluster_plan.specs.Asks.{Answered, answer_to, error_told, is_ask, link_told, passes}
use Rattle.cluster_plan.specs.Connections.{link_in, put, state_at, without}
use Rattle.cluster_plan.specs.Reached.{Reached, by_link, brought, check, checked, connect, connected, connecting, reached}
use Rattle.cluster_plan.specs.Refresh.{Plan}
use Rattle.cluster_plan.specs.Repair.{attempt, attempted, is_among, is_set, repaired, repairing, wait, while_not_connected}

-- two lists of answers say the same to the attempt of a number
abbrev pub SaySame : ℕ → NodeAddress → List Answered → List Answered → Type 0
SaySame n a one other =
    ((link : ℕ) → option_map passes (answer_to (check (Attempt n) a link) one) ≡ option_map passes (answer_to (check (Attempt n) a link) other))
    × (option_map link_told (answer_to (connect (Attempt n) a) one) ≡ option_map link_told (answer_to (connect (Attempt n) a) other))

-- the plan of an attempt, by what its connect and its check were told
abbrev by_connect : NodeAddress → List NodeEntry → List SlotRow → ℕ → Option (Option ℕ) → Plan
by_connect a entries rows n None = repairing entries rows (connect (Attempt n) a)
by_connect a entries rows n (Some None) = repairing entries rows (wait a n)
by_connect a entries rows n (Some (Some link)) = repaired (put a (Connected link) entries) rows

abbrev by_check : NodeAddress → List NodeEntry → List SlotRow → ℕ → ℕ → Option Bool → Plan → Plan
by_check a entries rows n link None otherwise = repairing entries rows (check (Attempt n) a link)
by_check a entries rows n link (Some true) otherwise = repaired (put a (Connected link) entries) rows
by_check a entries rows n link (Some false) otherwise = otherwise

brought_by : (a : NodeAddress) (entries : List NodeEntry) (rows : List SlotRow) (n : ℕ) (o : Option ℕ) (error : RedisError) → attempted a entries rows n (brought o error) ≡ by_connect a entries rows n (Some o)
brought_by a entries rows n None error = refl
brought_by a entries rows n (Some link) error = refl

connected_by : (a : NodeAddress) (entries : List NodeEntry) (rows : List SlotRow) (n : ℕ) (o : Option Answer)
    → attempted a entries rows n (connected (connect (Attempt n) a) o) ≡ by_connect a entries rows n (option_map link_told o)
connected_by a entries rows n None = refl
connected_by a entries rows n (Some found) = brought_by a entries rows n (link_told found) (error_told found)

passed_by : (a : NodeAddress) (entries : List NodeEntry) (rows : List SlotRow) (n link : ℕ) (passed : Bool) (otherwise : Reached)
    → attempted a entries rows n (if passed then by_link link else otherwise) ≡ by_check a entries rows n link (Some passed) (attempted a entries rows n otherwise)
passed_by a entries rows n link true otherwise = refl
passed_by a entries rows n link false otherwise = refl

checked_by : (a : NodeAddress) (entries : List NodeEntry) (rows : List SlotRow) (n link : ℕ) (o : Option Answer) (otherwise : Reached)
    → attempted a entries rows n (checked (check (Attempt n) a link) link o otherwise) ≡ by_check a entries rows n link (option_map passes o) (attempted a entries rows n otherwise)
checked_by a entries rows n link None otherwise = refl
checked_by a entries rows n link (Some found) otherwise = passed_by a entries rows n link (passes found) otherwise

connecting_so : (a : NodeAddress) (entries : List NodeEntry) (rows : List SlotRow) (n : ℕ) (one other : List Answered) → SaySame n a one other
    → attempted a entries rows n (connecting (Attempt n) a one) ≡ attempted a entries rows n (connecting (Attempt n) a other)
connecting_so a entries rows n one other h =
    connected_by a entries rows n (answer_to (connect (Attempt n) a) one) ∙ ap (by_connect a entries rows n) h.1
    ∙ sym (connected_by a entries rows n (answer_to (connect (Attempt n) a) other))

reached_so : (a : NodeAddress) (entries : List NodeEntry) (rows : List SlotRow) (n : ℕ) (o : Option ℕ) (one other : List Answered) → SaySame n a one other
    → attempted a entries rows n (reached (Attempt n) a o one) ≡ attempted a entries rows n (reached (Attempt n) a o other)
reached_so a entries rows n None one other h = connecting_so a entries rows n one other h
reached_so a entries rows n (Some link) one other h =
    let checks : option_map passes (answer_to (check (Attempt n) a link) one) ≡ option_map passes (answer_to (check (Attempt n) a link) other) = h.0 link in
    let connects : attempted a entries rows n (connecting (Attempt n) a one) ≡ attempted a entries rows n (connecting (Attempt n) a other) = connecting_so a entries rows n one other h in
    let both : by_check a entries rows n link (option_map passes (answer_to (check (Attempt n) a link) one)) (attempted a entries rows n (connecting (Attempt n) a one))
    ≡ by_check a entries rows n link (option_map passes (answer_to (check (Attempt n) a link) other)) (attempted a entries rows n (connecting (Attempt n) a other)) =
    λ i. by_check a entries rows n link (checks i) (connects i) in
    checked_by a entries rows n link (answer_to (check (Attempt n) a link) one) (connecting (Attempt n) a one) ∙ both
    ∙ sym (checked_by a entries rows n link (answer_to (check (Attempt n) a link) other) (connecting (Attempt n) a other))

-- an attempt, by the plan of one that is made
abbrev attempt_by : NodeAddress → List NodeEntry → List SlotRow → Option ℕ → ℕ → Plan → Plan
attempt_by a entries rows attempts n p =
    if is_among a (addresses rows) then (if is_set n attempts then p else repaired (without a entries) rows) else repaired (without a entries) rows

-- so a repair goes on in the same way
pub attempt_so : (a : NodeAddress) (entries : List NodeEntry) (rows : List SlotRow) (attempts : Option ℕ) (n : ℕ) (one other : List Answered) → SaySame n a one other
    → while_not_connected (state_at a entries) entries rows (attempt a entries rows attempts n one) ≡ while_not_connected (state_at a entries) entries rows (attempt a entries rows attempts n other)
attempt_so a entries rows attempts n one other h =
    ap (λ p. while_not_connected (state_at a entries) entries rows (attempt_by a entries rows attempts n p)) (reached_so a entries rows n (link_in (state_at a entries)) one other h)

-- answers that say the same, in front of others and behind one
pub said_so : {B : Type 0} (f : Answer → B) (is : Bool) (one other : Answer) (more : Option Answer) → f one ≡ f other → option_map f (if is then Some one else more) ≡ option_map f (if is then Some other else more)
said_so f true one other more h = ap Some h
said_so f false one other more h = refl

said_behind : {B : Type 0} (f : Answer → B) (is : Bool) (x : Answer) (one other : Option Answer) → option_map f one ≡ option_map f other → option_map f (if is then Some x else one) ≡ option_map f (if is then Some x else other)
said_behind f true x one other h = refl
said_behind f false x one other h = h

pub say_behind : (n : ℕ) (a : NodeAddress) (x : Answered) (one other : List Answered) → SaySame n a one other → SaySame n a (x ∷ one) (x ∷ other)
say_behind n a x one other h = (
  λ l. said_behind passes (is_ask (check (Attempt n) a l) x.0) x.1 (answer_to (check (Attempt n) a l) one) (answer_to (check (Attempt n) a l) other) (h.0 l),
  said_behind link_told (is_ask (connect (Attempt n) a) x.0) x.1 (answer_to (connect (Attempt n) a) one) (answer_to (connect (Attempt n) a) other) h.1,
)
