-- Entries that are put in their places stand in the order of their addresses.
use Rattle.std.proofs.Common.{◌≡◌, ◌&&◌, Bool, true, false, List, [], ◌∷◌, ◌++◌, refl, sym, ◌∙◌, ap, subst, append_assoc, if◌then◌else◌}
use Rattle.std.specs.List.{list_all}
use Rattle.containers.proofs.Choices.{both_left, both_right, chosen, left_if, taken_if}
use Rattle.slot_hash.specs.declared.address.NodeAddress.{NodeAddress}
use Rattle.mux_routing.specs.Shards.{address_less, in_order}
use Rattle.cluster_retries.proofs.AddressOrder.{onwards, same}
use Rattle.cluster_plan.specs.declared.connections.ConnState.{ConnState}
use Rattle.cluster_plan.specs.declared.connections.NodeEntry.{NodeEntry}
use Rattle.cluster_plan.specs.Connections.{entry, put}
use Rattle.cluster_plan.specs.Initial.{in_address_order}
use Rattle.cluster_plan.specs.Recovering.{places}

-- an entry between those before its place and the one found there
behind_one : (front between others es : List NodeEntry) (e : NodeEntry) → between ≡ front ++ e ∷ [] → es ≡ between ++ others → es ≡ front ++ e ∷ others
behind_one front between others es e b h = h ∙ ap (λ xs. xs ++ others) b ∙ append_assoc front (e ∷ []) others

pub put_over : (front between others es : List NodeEntry) (e found : NodeEntry) → address_less found.address e.address ≡ false → address_less e.address found.address ≡ false → between ≡ front ++ e ∷ [] → es ≡ between ++ others
    → es ≡ front ++ put e.address e.state (found ∷ others)
put_over front between others es e found f g b h =
    behind_one front between others es e b h
    ∙ ap (λ xs. front ++ xs) (sym (left_if (address_less e.address found.address) (e ∷ found ∷ others) (e ∷ others) g))
    ∙ ap (λ xs. front ++ xs) (sym (left_if (address_less found.address e.address) (found ∷ put e.address e.state others) (if address_less e.address found.address then e ∷ found ∷ others else e ∷ others) f))

pub put_between : (front before between others es : List NodeEntry) (e found : NodeEntry) → address_less found.address e.address ≡ false → address_less e.address found.address ≡ true → before ≡ front ++ e ∷ [] → between ≡ before ++ found ∷ [] → es ≡ between ++ others
    → es ≡ front ++ put e.address e.state (found ∷ others)
put_between front before between others es e found f g a b h =
    behind_one before between others es found b h
    ∙ ap (λ xs. xs ++ found ∷ others) a
    ∙ append_assoc front (e ∷ []) (found ∷ others)
    ∙ ap (λ xs. front ++ xs) (sym (taken_if (address_less e.address found.address) (e ∷ found ∷ others) (e ∷ others) g))
    ∙ ap (λ xs. front ++ xs) (sym (left_if (address_less found.address e.address) (found ∷ put e.address e.state others) (if address_less e.address found.address then e ∷ found ∷ others else e ∷ others) f))

-- entries put among others, the last one first
abbrev pub put_all : List NodeEntry → List NodeEntry → List NodeEntry
put_all [] done = done
put_all (e ∷ es) done = put e.address e.state (put_all es done)

pub put_all_last : (es : List NodeEntry) (e : NodeEntry) (done : List NodeEntry) → put_all (es ++ e ∷ []) done ≡ put_all es (put e.address e.state done)
put_all_last [] e done = refl
put_all_last (f ∷ es) e done = ap (put f.address f.state) (put_all_last es e done)

pub put_all_alone : (es : List NodeEntry) → put_all es [] ≡ in_address_order es
put_all_alone [] = refl
put_all_alone (e ∷ es) = ap (put e.address e.state) (put_all_alone es)

pub begun_sorting : (left sorted es : List NodeEntry) → left ≡ es → sorted ≡ [] → put_all left sorted ≡ in_address_order es
begun_sorting left sorted es l s = (λ i. put_all (l i) (s i)) ∙ put_all_alone es

pub sorted_on : (left rest sorted new all : List NodeEntry) (e : NodeEntry) → left ≡ rest ++ e ∷ [] → new ≡ put e.address e.state sorted → put_all left sorted ≡ all → put_all rest new ≡ all
sorted_on left rest sorted new all e l n h =
    ap (put_all rest) n ∙ sym (put_all_last rest e sorted) ∙ ap (λ es. put_all es sorted) (sym l) ∙ h

pub both_true : (x y : Bool) → x ≡ true → y ≡ true → (x && y) ≡ true
both_true x y h g = ap (λ b. b && y) h ∙ g

all_onwards : (a b : NodeAddress) (nodes : List NodeAddress) → address_less a b ≡ true → list_all (address_less b) nodes ≡ true → list_all (address_less a) nodes ≡ true
all_onwards a b [] h g = refl
all_onwards a b (c ∷ nodes) h g =
    both_true (address_less a c) (list_all (address_less a) nodes) (onwards a b c h (both_left (address_less b c) (list_all (address_less b) nodes) g))
    (all_onwards a b nodes h (both_right (address_less b c) (list_all (address_less b) nodes) g))

-- an entry that is put in comes behind all that come before it
abbrev IsBehind : NodeAddress → List NodeEntry → Type 0
IsBehind b es = list_all (address_less b) (places es) ≡ true

all_put : (b a : NodeAddress) (state : ConnState) (es : List NodeEntry) → address_less b a ≡ true → IsBehind b es → IsBehind b (put a state es)
all_put b a state [] h g = both_true (address_less b a) true h refl
all_put b a state (e ∷ es) h g =
    let first : address_less b e.address ≡ true = both_left (address_less b e.address) (list_all (address_less b) (places es)) g in
    let others : IsBehind b es = both_right (address_less b e.address) (list_all (address_less b) (places es)) g in
    chosen (IsBehind b) (address_less e.address a) (e ∷ put a state es) (if address_less a e.address then entry a state ∷ e ∷ es else entry a state ∷ es)
    (λ t. both_true (address_less b e.address) (list_all (address_less b) (places (put a state es))) first (all_put b a state es h others))
    (λ f. chosen (IsBehind b) (address_less a e.address) (entry a state ∷ e ∷ es) (entry a state ∷ es)
    (λ t. both_true (address_less b a) (list_all (address_less b) (places (e ∷ es))) h g)
    (λ k. both_true (address_less b a) (list_all (address_less b) (places es)) h others))

abbrev AreOrdered : List NodeEntry → Type 0
AreOrdered es = in_order (places es) ≡ true

put_in_order : (a : NodeAddress) (state : ConnState) (es : List NodeEntry) → AreOrdered es → AreOrdered (put a state es)
put_in_order a state [] h = refl
put_in_order a state (e ∷ es) h =
    let behind : IsBehind e.address es = both_left (list_all (address_less e.address) (places es)) (in_order (places es)) h in
    let others : AreOrdered es = both_right (list_all (address_less e.address) (places es)) (in_order (places es)) h in
    chosen AreOrdered (address_less e.address a) (e ∷ put a state es) (if address_less a e.address then entry a state ∷ e ∷ es else entry a state ∷ es)
    (λ t. both_true (list_all (address_less e.address) (places (put a state es))) (in_order (places (put a state es))) (all_put e.address a state es t behind) (put_in_order a state es others))
    (λ f. chosen AreOrdered (address_less a e.address) (entry a state ∷ e ∷ es) (entry a state ∷ es)
    (λ t. both_true (list_all (address_less a) (places (e ∷ es))) (in_order (places (e ∷ es)))
    (both_true (address_less a e.address) (list_all (address_less a) (places es)) t (all_onwards a e.address (places es) t behind)) h)
    (λ k. both_true (list_all (address_less a) (places es)) (in_order (places es))
    (subst (λ b. IsBehind b es) (same e.address a f k) behind) others))

pub all_in_order : (es : List NodeEntry) → in_order (places (in_address_order es)) ≡ true
all_in_order [] = refl
all_in_order (e ∷ es) = put_in_order e.address e.state (in_address_order es) (all_in_order es)
