-- A repair asks one thing at a time, keeps to its attempts, and changes its own entry alone.
use Rattle.std.proofs.Common.{◌≡◌, ◌⊎◌, inl, inr, ℕ, ◌+◌, ◌<◌, nat_lt, Bool, true, false, List, [], ◌∷◌, Option, Some, None, refl, arith, if◌then◌else◌}
use Rattle.std.proofs.lemmas.Bool.Decides.{nat_tests}
use Rattle.redis_error.specs.declared.redis_error.RedisError.{RedisError}
use Rattle.slot_hash.specs.declared.address.NodeAddress.{NodeAddress}
use Rattle.mux_routing.specs.declared.rows.SlotRow.{SlotRow}
use Rattle.mux_routing.specs.Shards.{addresses}
use Rattle.cluster_plan.specs.declared.asks.Part.{Part}
use Rattle.cluster_plan.specs.declared.asks.Part.TheVariants.{Attempt}
use Rattle.cluster_plan.specs.declared.asks.Ask.{Ask}
use Rattle.cluster_plan.specs.declared.asks.Answer.{Answer}
use Rattle.cluster_plan.specs.declared.connections.NodeEntry.{NodeEntry}
use Rattle.cluster_plan.specs.Asks.{Answered, answer_to, link_told, passes, error_told}
use Rattle.cluster_plan.specs.Connections.{link_in, state_at, without}
use Rattle.cluster_plan.specs.Reached.{Reached, asked, by_link, by_none, connect, check, brought, connected, connecting, checked, reached}
use Rattle.cluster_plan.specs.Refresh.{asks, ok, Plan}
use Rattle.cluster_plan.specs.Repair.{waits_over, wait, is_among, is_set, repaired, attempted, attempt, repair}
use Rattle.cluster_plan.specs.Plan.{plan}
use Rattle.cluster_plan.specs.Laws.{ChangesOne, RepairAsksOne, RepairKeepsToAttempts, RepairChangesOne}
use Rattle.cluster_plan.proofs.Choosing.{of_either}
use Rattle.cluster_plan.proofs.Given.{by_state}

-- a node is asked for by an ask of that part and address
abbrev pub IsAskOf : Part → NodeAddress → Reached → Type 0
IsAskOf part a (asked x) = (x.part ≡ part) × (x.address ≡ a)
IsAskOf part a (by_link link) = Unit {0}
IsAskOf part a (by_none error) = Unit {0}

brought_of : (part : Part) (a : NodeAddress) (o : Option ℕ) (error : RedisError) → IsAskOf part a (brought o error)
brought_of part a None error = tt
brought_of part a (Some link) error = tt

connected_of : (part : Part) (a : NodeAddress) (o : Option Answer) → IsAskOf part a (connected (connect part a) o)
connected_of part a None = (refl, refl)
connected_of part a (Some found) = brought_of part a (link_told found) (error_told found)

checked_of : (part : Part) (a : NodeAddress) (link : ℕ) (o : Option Answer) (r : Reached) → IsAskOf part a r → IsAskOf part a (checked (check part a link) link o r)
checked_of part a link None r h = (refl, refl)
checked_of part a link (Some found) r h = of_either (IsAskOf part a) (passes found) (by_link link) r tt h

reached_of : (part : Part) (a : NodeAddress) (o : Option ℕ) (answers : List Answered) → IsAskOf part a (reached part a o answers)
reached_of part a None answers = connected_of part a (answer_to (connect part a) answers)
reached_of part a (Some link) answers =
    checked_of part a link (answer_to (check part a link) answers) (connecting part a answers) (connected_of part a (answer_to (connect part a) answers))

-- a plan that has ended, or asks one thing of that attempt
abbrev pub AsksOne : NodeAddress → ℕ → Plan → Type 0
AsksOne a n p = (p.next ≡ ok) ⊎ ((x : Ask) × (p.next ≡ asks (x ∷ [])) × (x.part ≡ Attempt n) × (x.address ≡ a))

attempted_asks : (a : NodeAddress) (entries : List NodeEntry) (rows : List SlotRow) (n : ℕ) (r : Reached) → IsAskOf (Attempt n) a r → AsksOne a n (attempted a entries rows n r)
attempted_asks a entries rows n (asked x) h = inr (x, refl, h.0, h.1)
attempted_asks a entries rows n (by_link link) h = inl refl
attempted_asks a entries rows n (by_none error) h = inr (wait a n, refl, refl, refl)

-- what holds of the attempt, and of the ends, holds of the plan
of_attempt : (P : Plan → Type 0) (a : NodeAddress) (entries : List NodeEntry) (rows : List SlotRow) (attempts : Option ℕ) (n : ℕ) (answers : List Answered)
    → (is_set n attempts ≡ true → P (attempted a entries rows n (reached (Attempt n) a (link_in (state_at a entries)) answers))) → P (repaired (without a entries) rows)
    → P (attempt a entries rows attempts n answers)
of_attempt P a entries rows attempts n answers h g =
    of_either P (is_among a (addresses rows))
    (if is_set n attempts then attempted a entries rows n (reached (Attempt n) a (link_in (state_at a entries)) answers) else repaired (without a entries) rows)
    (repaired (without a entries) rows)
    (elim (is_set n attempts) as (λ b. (is_set n attempts ≡ b → P (if b then attempted a entries rows n (reached (Attempt n) a (link_in (state_at a entries)) answers) else repaired (without a entries) rows)))
    [ true ↦ h | false ↦ λ e. g ] refl)
    g

of_repair : (P : Plan → Type 0) (a : NodeAddress) (entries : List NodeEntry) (rows : List SlotRow) (attempts : Option ℕ) (answers : List Answered)
    → P (repaired entries rows) → P (repaired (without a entries) rows)
    → (is_set (waits_over answers + 1) attempts ≡ true → P (attempted a entries rows (waits_over answers + 1) (reached (Attempt (waits_over answers + 1)) a (link_in (state_at a entries)) answers)))
    → P (repair a entries rows attempts answers)
of_repair P a entries rows attempts answers h g f =
    by_state P (state_at a entries) entries rows (attempt a entries rows attempts (waits_over answers + 1) answers) h
    (of_attempt P a entries rows attempts (waits_over answers + 1) answers f g)

pub asks_one : RepairAsksOne
unfolding plan
asks_one a nodes entries rows attempts answers =
    of_repair (AsksOne a (waits_over answers + 1)) a entries rows attempts answers (inl refl) (inl refl)
    (λ is. attempted_asks a entries rows (waits_over answers + 1) (reached (Attempt (waits_over answers + 1)) a (link_in (state_at a entries)) answers)
    (reached_of (Attempt (waits_over answers + 1)) a (link_in (state_at a entries)) answers))

set_below : (k most : ℕ) → (if nat_lt most (k + 1) then false else true) ≡ true → k < most
set_below k most e = grind (arith, nat_tests)

pub keeps_to_attempts : RepairKeepsToAttempts
unfolding plan
keeps_to_attempts a nodes entries rows most answers =
    of_repair (λ p. (p.next ≡ ok) ⊎ (waits_over answers < most)) a entries rows (Some most) answers (inl refl) (inl refl)
    (λ is. inr (set_below (waits_over answers) most is))

attempted_changes : (a : NodeAddress) (entries : List NodeEntry) (rows : List SlotRow) (n : ℕ) (r : Reached) → ChangesOne a entries rows (attempted a entries rows n r)
attempted_changes a entries rows n (asked x) = (refl, inl refl)
attempted_changes a entries rows n (by_link link) = (refl, inr (inr (link, refl)))
attempted_changes a entries rows n (by_none error) = (refl, inl refl)

pub changes_one : RepairChangesOne
unfolding plan
changes_one a nodes entries rows attempts answers =
    of_repair (ChangesOne a entries rows) a entries rows attempts answers (refl, inl refl) (refl, inr (inl refl))
    (λ is. attempted_changes a entries rows (waits_over answers + 1) (reached (Attempt (waits_over answers + 1)) a (link_in (state_at a entries)) answers))
