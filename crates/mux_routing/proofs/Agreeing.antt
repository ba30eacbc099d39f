-- With one command more: what agrees so far stands for the commands before it.
use Rattle.std.proofs.Common.{◌≡◌, ℕ, Bool, true, false, ◌==◌, ◌||◌, List, [], ◌∷◌, ◌++◌, Option, Some, None, option_to_list, refl, ap, sym, ◌∙◌, if◌then◌else◌}
use Rattle.std.specs.List.{list_any}
use Rattle.containers.proofs.Choices.{by_test, eq_test, ne_test}
use Rattle.command_table.specs.declared.routing.Route.{Route}
use Rattle.command_table.specs.declared.routing.SlotAddr.{SlotAddr}
use Rattle.command_table.specs.declared.routing.SlotAddr.TheVariants.{Master, ReplicaOptional, ReplicaRequired}
use Rattle.resp_write.specs.Command.{Command}
use Rattle.command_table.specs.Routing.{routing_of}
use Rattle.mux_routing.specs.Routes.{Agreement, agreed, agreed_by, agreement_of, crossed, is_drawn, is_primary, joint, other_slot, route_in, routes_in, uses_draw}

-- a route to the primary, where a test says so
abbrev primary_if : Bool → Route → Route
primary_if t r = if t then record { slot = r.slot; addr = Master } else r

abbrev any_primary : List Route → Bool
any_primary rs = list_any (λ q. is_primary q.addr) rs

by_addr : (slot : ℕ) (addr : SlotAddr) → primary_if (is_primary addr || false) (record { slot = slot; addr = addr }) ≡ record { slot = slot; addr = addr }
by_addr slot Master = refl
by_addr slot ReplicaOptional = refl
by_addr slot ReplicaRequired = refl

itself : (r : Route) → primary_if (is_primary r.addr || false) r ≡ r
itself r = by_addr r.slot r.addr

pub alone : (r : Option Route) → agreement_of (option_to_list r) ≡ agreed r
alone None = refl
alone (Some r) = ap (λ q. agreed (Some q)) (itself r)

tested : (t : Bool) (slot : ℕ) (rest : List Route) (next : Route) → (next.slot == slot) ≡ t → other_slot slot (next ∷ rest) ≡ (if t then other_slot slot rest else Some next.slot)
tested t slot rest next e = ap (λ b. if b then other_slot slot rest else Some next.slot) e

pub two_agree : (first next : Route) → first.slot ≡ next.slot → agreement_of (first ∷ next ∷ []) ≡ agreed (Some (joint first (next ∷ [])))
two_agree first next e = ap (agreed_by first (next ∷ [])) (tested true first.slot [] next (eq_test next.slot first.slot (sym e)))

pub two_apart : (first next : Route) → (first.slot ≡ next.slot → ⊥) → agreement_of (first ∷ next ∷ []) ≡ crossed first.slot next.slot
two_apart first next ne = ap (agreed_by first (next ∷ [])) (tested false first.slot [] next (ne_test next.slot first.slot (λ e. ne (sym e))))

one : (a b : Option Route) → agreed a ≡ agreed b → a ≡ b
one a b e = cc e

slot_of_it : (t : Bool) (r : Route) → (primary_if t r).slot ≡ r.slot
slot_of_it true r = refl
slot_of_it false r = refl

again : (r : Route) (p q s : Bool) → is_primary r.addr ≡ p → primary_if (is_primary (primary_if (p || (q || false)) r).addr || s) (primary_if (p || (q || false)) r) ≡ primary_if (p || (q || s)) r
again r true q s e = refl
again r false true s e = refl
again r false false s e = ap (λ t. primary_if (t || s) r) e

joint_again : (first next : Route) (rest : List Route) → joint (joint first (next ∷ [])) rest ≡ joint first (next ∷ rest)
joint_again first next rest = again first (is_primary first.addr) (is_primary next.addr) (any_primary rest) refl

by_other : (r q : Route) (rs qs : List Route) (other : Option ℕ) → r.slot ≡ q.slot → joint r rs ≡ joint q qs → agreed_by r rs other ≡ agreed_by q qs other
by_other r q rs qs None e f = ap (λ j. agreed (Some j)) f
by_other r q rs qs (Some other) e f = ap (λ slot. crossed slot other) e

two_as_one : (first next : Route) (rest : List Route) → (next.slot == first.slot) ≡ true → agreement_of (joint first (next ∷ []) ∷ rest) ≡ agreement_of (first ∷ next ∷ rest)
two_as_one first next rest e =
    let slots : (joint first (next ∷ [])).slot ≡ first.slot = slot_of_it (any_primary (first ∷ next ∷ [])) first in
    by_other (joint first (next ∷ [])) first rest (next ∷ rest) (other_slot (joint first (next ∷ [])).slot rest) slots (joint_again first next rest)
    ∙ ap (agreed_by first (next ∷ rest)) (ap (λ slot. other_slot slot rest) slots ∙ sym (tested true first.slot rest next e))

pub goes_on : (so_far next r : Option Route) (rest : List Route) → agreement_of (option_to_list so_far ++ option_to_list next) ≡ agreed r → agreement_of (option_to_list r ++ rest) ≡ agreement_of (option_to_list so_far ++ (option_to_list next ++ rest))
goes_on None next r rest h = ap (λ q. agreement_of (option_to_list q ++ rest)) (sym (one next r (sym (alone next) ∙ h)))
goes_on (Some first) None r rest h = ap (λ q. agreement_of (option_to_list q ++ rest)) (sym (one (Some first) r (sym (alone (Some first)) ∙ h)))
goes_on (Some first) (Some next) r rest h =
    by_test (next.slot == first.slot) (agreement_of (option_to_list r ++ rest) ≡ agreement_of (first ∷ next ∷ rest))
    (λ t.
    let found = one (Some (joint first (next ∷ []))) r (sym (ap (agreed_by first (next ∷ [])) (tested true first.slot [] next t)) ∙ h) in
    ap (λ q. agreement_of (option_to_list q ++ rest)) (sym found) ∙ two_as_one first next rest t)
    (λ f. absurd (never (crossed first.slot next.slot) refl (sym (ap (agreed_by first (next ∷ [])) (tested false first.slot [] next f)) ∙ h)))
  where
    never : (a : Agreement) → a ≡ crossed first.slot next.slot → a ≡ agreed r → ⊥
    never a e k = cc

-- a loop's step
pub route_kept : (draw : ℕ) (cmd : Command) (rest left : List Command) (so_far next r : Option Route) (all : Agreement) → left ≡ cmd ∷ rest → next ≡ route_in draw (routing_of cmd.args) → agreement_of (option_to_list so_far ++ option_to_list next) ≡ agreed r → agreement_of (option_to_list so_far ++ routes_in draw left) ≡ all → agreement_of (option_to_list r ++ routes_in draw rest) ≡ all
route_kept draw cmd rest left so_far next r all e f h k =
    goes_on so_far next r (routes_in draw rest) h
    ∙ ap (λ n. agreement_of (option_to_list so_far ++ (option_to_list n ++ routes_in draw rest))) f
    ∙ ap (λ cs. agreement_of (option_to_list so_far ++ routes_in draw cs)) (sym e)
    ∙ k

or_next : (t u v : Bool) → ((t || u) || v) ≡ (t || (u || v))
or_next true u v = refl
or_next false u v = refl

pub draw_kept : (cmd : Command) (rest left : List Command) (so_far next r all : Bool) → left ≡ cmd ∷ rest → next ≡ is_drawn (routing_of cmd.args) → r ≡ (so_far || next) → (so_far || uses_draw left) ≡ all → (r || uses_draw rest) ≡ all
draw_kept cmd rest left so_far next r all e f h k =
    ap (λ t. t || uses_draw rest) h
    ∙ or_next so_far next (uses_draw rest)
    ∙ ap (λ t. so_far || (t || uses_draw rest)) f
    ∙ ap (λ cs. so_far || uses_draw cs) (sym e)
    ∙ k
