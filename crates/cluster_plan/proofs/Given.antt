-- Asks that were given at their time: the waits of a repair come one after another, and no ask is given twice.
use Rattle.std.proofs.Common.{◌≡◌, ℕ, ◌+◌, ◌<◌, ◌==◌, ◌&&◌, Bool, false, List, [], ◌∷◌, ◌++◌, Option, Some, None, refl, sym, ◌∙◌, ap, subst, append_assoc, arith, if◌then◌else◌}
use Rattle.std.specs.List.{All, Contains}
use Rattle.std.proofs.lemmas.Bool.Decides.{nat_tests}
use Rattle.std.proofs.lemmas.List.Elements.{All-nil, All-cons}
use Rattle.redis_error.specs.declared.redis_error.RedisError.{RedisError}
use Rattle.slot_hash.specs.declared.address.NodeAddress.{NodeAddress}
use Rattle.mux_routing.specs.declared.rows.SlotRow.{SlotRow}
use Rattle.mux_routing.specs.Shards.{addresses}
use Rattle.cluster_plan.specs.declared.asks.Part.{Part}
use Rattle.cluster_plan.specs.declared.asks.Part.TheVariants.{Attempt}
use Rattle.cluster_plan.specs.declared.asks.Ask.{Ask}
use Rattle.cluster_plan.specs.declared.asks.Answer.{Answer}
use Rattle.cluster_plan.specs.declared.connections.ConnState.{ConnState}
use Rattle.cluster_plan.specs.declared.connections.ConnState.TheVariants.{Connected, Reconnecting, Connecting}
use Rattle.cluster_plan.specs.declared.connections.NodeEntry.{NodeEntry}
use Rattle.cluster_plan.specs.declared.recovery_kind.RecoveryKind.{RecoveryKind}
use Rattle.cluster_plan.specs.declared.recovery_kind.RecoveryKind.TheVariants as kind
use Rattle.cluster_plan.specs.Asks.{Answered, answer_to, is_ask, same_address, link_told, passes, error_told, part_number, request_number}
use Rattle.cluster_plan.specs.Connections.{link_in, state_at, without}
use Rattle.cluster_plan.specs.Reached.{Reached, asked, by_link, by_none, connect, check, brought, connected, connecting, checked, reached}
use Rattle.cluster_plan.specs.Refresh.{Next, asks, ok, failed, Plan}
use Rattle.cluster_plan.specs.Repair.{waits_over, wait, is_among, is_set, repaired, attempted, attempt, while_not_connected, repair}
use Rattle.cluster_plan.specs.Plan.{plan}
use Rattle.cluster_plan.specs.Laws.{GoesOnFrom, GoesOn, IsGiven, WereGiven, GivesOnce}
use Rattle.cluster_plan.proofs.Choosing.{of_either}
use Rattle.cluster_plan.proofs.Awaited.{IsUnanswered, reached_open, one_open, initial_open, refresh_open}

pub contained : {A : Type 0} (P : A → Type 0) (xs : List A) (x : A) → Contains xs x → All P xs → P x
contained P xs x h all = subst P h.2 (all h.0 x h.1)

-- a node is reached without a wait
abbrev pub IsNoWait : Reached → Type 0
IsNoWait (asked x) = request_number x.request ≡ 3 → ⊥
IsNoWait (by_link link) = Unit {0}
IsNoWait (by_none error) = Unit {0}

brought_no_wait : (o : Option ℕ) (error : RedisError) → IsNoWait (brought o error)
brought_no_wait None error = tt
brought_no_wait (Some link) error = tt

connected_no_wait : (part : Part) (a : NodeAddress) (o : Option Answer) → IsNoWait (connected (connect part a) o)
connected_no_wait part a None = λ e. omega arith
connected_no_wait part a (Some answer) = brought_no_wait (link_told answer) (error_told answer)

checked_no_wait : (part : Part) (a : NodeAddress) (link : ℕ) (o : Option Answer) (r : Reached) → IsNoWait r → IsNoWait (checked (check part a link) link o r)
checked_no_wait part a link None r h = λ e. omega arith
checked_no_wait part a link (Some answer) r h = of_either IsNoWait (passes answer) (by_link link) r tt h

reached_no_wait : (part : Part) (a : NodeAddress) (o : Option ℕ) (answers : List Answered) → IsNoWait (reached part a o answers)
reached_no_wait part a None answers = connected_no_wait part a (answer_to (connect part a) answers)
reached_no_wait part a (Some link) answers =
    checked_no_wait part a link (answer_to (check part a link) answers) (connecting part a answers) (connected_no_wait part a (answer_to (connect part a) answers))

-- a wait that is asked is that of the attempt of this number
abbrev pub IsOfAttempt : ℕ → Ask → Type 0
IsOfAttempt n x = request_number x.request ≡ 3 → part_number x.part ≡ 4 + n

abbrev pub WaitsAfter : ℕ → Next → Type 0
WaitsAfter n (asks xs) = All (IsOfAttempt n) xs
WaitsAfter n ok = Unit {0}
WaitsAfter n (failed failure) = Unit {0}

one_of : (n : ℕ) (x : Ask) → IsOfAttempt n x → All (IsOfAttempt n) (x ∷ [])
one_of n x h = All-cons (IsOfAttempt n) x [] h (All-nil (IsOfAttempt n))

attempted_waits : (a : NodeAddress) (entries : List NodeEntry) (rows : List SlotRow) (n : ℕ) (r : Reached) → IsNoWait r → WaitsAfter n (attempted a entries rows n r).next
attempted_waits a entries rows n (asked x) h = one_of n x (λ e. absurd (h e))
attempted_waits a entries rows n (by_link link) h = tt
attempted_waits a entries rows n (by_none error) h = one_of n (wait a n) (λ e. refl)

attempt_waits : (a : NodeAddress) (entries : List NodeEntry) (rows : List SlotRow) (attempts : Option ℕ) (n : ℕ) (answers : List Answered) → WaitsAfter n (attempt a entries rows attempts n answers).next
attempt_waits a entries rows attempts n answers =
    let P : Plan → Type 0 = λ p. WaitsAfter n p.next in
    let r : Reached = reached (Attempt n) a (link_in (state_at a entries)) answers in
    of_either P (is_among a (addresses rows)) (if is_set n attempts then attempted a entries rows n r else repaired (without a entries) rows) (repaired (without a entries) rows)
    (of_either P (is_set n attempts) (attempted a entries rows n r) (repaired (without a entries) rows)
    (attempted_waits a entries rows n r (reached_no_wait (Attempt n) a (link_in (state_at a entries)) answers)) tt)
    tt

pub by_state : (P : Plan → Type 0) (state : Option ConnState) (entries : List NodeEntry) (rows : List SlotRow) (p : Plan) → P (repaired entries rows) → P p → P (while_not_connected state entries rows p)
by_state P None entries rows p h g = g
by_state P (Some (Connected link)) entries rows p h g = h
by_state P (Some (Reconnecting link)) entries rows p h g = g
by_state P (Some Connecting) entries rows p h g = g

repair_waits : (a : NodeAddress) (entries : List NodeEntry) (rows : List SlotRow) (attempts : Option ℕ) (answers : List Answered) → WaitsAfter (waits_over answers + 1) (repair a entries rows attempts answers).next
repair_waits a entries rows attempts answers =
    by_state (λ p. WaitsAfter (waits_over answers + 1) p.next) (state_at a entries) entries rows (attempt a entries rows attempts (waits_over answers + 1) answers) tt
    (attempt_waits a entries rows attempts (waits_over answers + 1) answers)

given_wait : (n : ℕ) (next : Next) (x : Ask) → WaitsAfter n next → IsGiven x next → IsOfAttempt n x
given_wait n (asks xs) x h g = contained (IsOfAttempt n) xs x g h
given_wait n ok x h g = absurd g
given_wait n (failed failure) x h g = absurd g

-- how many waits an answered ask is
abbrev pub one_wait : Answered → ℕ
one_wait x = if request_number x.0.request == 3 then 1 else 0

-- the waits that were answered are those of the attempts behind that number, in order
abbrev pub InOrder : ℕ → List Answered → Type 0
InOrder k [] = Unit {0}
InOrder k (x ∷ more) = IsOfAttempt (k + 1) x.0 × InOrder (k + one_wait x) more

waits_last : (before : List Answered) (x : Answered) → waits_over (before ++ x ∷ []) ≡ waits_over before + one_wait x
waits_last [] x = omega arith
waits_last (y ∷ before) x = omega (arith, waits_last before x)

in_order_behind : (a : NodeAddress) (nodes : List NodeAddress) (attempts : Option ℕ) (before answers all : List Answered) → all ≡ before ++ answers → WereGiven (kind.Repair a) nodes attempts all → InOrder (waits_over before) answers
unfolding plan
in_order_behind a nodes attempts before [] all e h = tt
in_order_behind a nodes attempts before (x ∷ more) all e h =
    let given : (entries : List NodeEntry) × (rows : List SlotRow) × IsGiven x.0 (repair a entries rows attempts before).next = h before more x e in (
      given_wait (waits_over before + 1) (repair a given.0 given.1 attempts before).next x.0 (repair_waits a given.0 given.1 attempts before) given.2,
      subst (λ k. InOrder k more) (waits_last before x)
          (in_order_behind a nodes attempts (before ++ x ∷ []) more all (e ∙ sym (append_assoc before (x ∷ []) more)) h),
    )

other_number : (n part request k : ℕ) (address : Bool) → (request ≡ 3 → part ≡ 4 + (k + 1)) → k + (if request == 3 then 1 else 0) < n → ((4 + n == part) && (3 == request) && address) ≡ false
other_number n part request k address h lt = grind (arith, nat_tests)

-- so the wait of the next attempt isn't among them
unseen : (k n : ℕ) (a : NodeAddress) (answers : List Answered) → InOrder k answers → k + waits_over answers < n → answer_to (wait a n) answers ≡ None
unseen k n a [] h lt = refl
unseen k n a (x ∷ more) h lt =
    let other : is_ask (wait a n) x.0 ≡ false = other_number n (part_number x.0.part) (request_number x.0.request) k (same_address a x.0.address) h.0 (omega arith) in
    ap (λ b. if b then Some x.1 else answer_to (wait a n) more) other ∙ unseen (k + one_wait x) n a more h.1 (omega arith)

attempted_open : (answers : List Answered) (a : NodeAddress) (entries : List NodeEntry) (rows : List SlotRow) (n : ℕ) (r : Reached) → IsUnanswered answers r → answer_to (wait a n) answers ≡ None → GoesOnFrom answers (attempted a entries rows n r).next
attempted_open answers a entries rows n (asked x) h w = one_open answers x h
attempted_open answers a entries rows n (by_link link) h w = tt
attempted_open answers a entries rows n (by_none error) h w = one_open answers (wait a n) w

attempt_open : (answers : List Answered) (a : NodeAddress) (entries : List NodeEntry) (rows : List SlotRow) (attempts : Option ℕ) (n : ℕ) → answer_to (wait a n) answers ≡ None → GoesOnFrom answers (attempt a entries rows attempts n answers).next
attempt_open answers a entries rows attempts n w =
    let P : Plan → Type 0 = λ p. GoesOnFrom answers p.next in
    let r : Reached = reached (Attempt n) a (link_in (state_at a entries)) answers in
    of_either P (is_among a (addresses rows)) (if is_set n attempts then attempted a entries rows n r else repaired (without a entries) rows) (repaired (without a entries) rows)
    (of_either P (is_set n attempts) (attempted a entries rows n r) (repaired (without a entries) rows)
    (attempted_open answers a entries rows n r (reached_open answers (Attempt n) a (link_in (state_at a entries))) w) tt)
    tt

repair_open : (answers : List Answered) (a : NodeAddress) (entries : List NodeEntry) (rows : List SlotRow) (attempts : Option ℕ) → InOrder 0 answers → GoesOnFrom answers (repair a entries rows attempts answers).next
repair_open answers a entries rows attempts h =
    by_state (λ p. GoesOnFrom answers p.next) (state_at a entries) entries rows (attempt a entries rows attempts (waits_over answers + 1) answers) tt
    (attempt_open answers a entries rows attempts (waits_over answers + 1) (unseen 0 (waits_over answers + 1) a answers h (omega arith)))

pub goes_on : GoesOn
unfolding plan
goes_on kind.Initial nodes entries rows attempts answers h = initial_open answers nodes entries rows
goes_on kind.Slots nodes [] rows attempts answers h = initial_open answers nodes [] rows
goes_on kind.Slots nodes (e ∷ es) rows attempts answers h = refresh_open answers (e ∷ es) rows
goes_on (kind.Repair a) nodes entries rows attempts answers h = repair_open answers a entries rows attempts (in_order_behind a nodes attempts [] answers answers refl h)

front_given : (kind : RecoveryKind) (nodes : List NodeAddress) (attempts : Option ℕ) (answers before after : List Answered) (x : Answered) → answers ≡ before ++ x ∷ after → WereGiven kind nodes attempts answers → WereGiven kind nodes attempts before
front_given kind nodes attempts answers before after x e h =
    λ b a y here. h b (a ++ x ∷ after) y (e ∙ ap (λ front. front ++ x ∷ after) here ∙ append_assoc b (y ∷ a) (x ∷ after))

given_unanswered : (answers : List Answered) (next : Next) (x : Ask) → GoesOnFrom answers next → IsGiven x next → answer_to x answers ≡ None
given_unanswered answers (asks xs) x h g = contained (λ y. answer_to y answers ≡ None) xs x g h.1
given_unanswered answers ok x h g = absurd g
given_unanswered answers (failed failure) x h g = absurd g

pub gives_once : GivesOnce
gives_once kind nodes attempts answers h before after x e =
    let given : (entries : List NodeEntry) × (rows : List SlotRow) × IsGiven x.0 (plan kind nodes entries rows attempts before).next = h before after x e in
    given_unanswered before (plan kind nodes given.0 given.1 attempts before).next x.0
    (goes_on kind nodes given.0 given.1 attempts before (front_given kind nodes attempts answers before after x e h)) given.2
