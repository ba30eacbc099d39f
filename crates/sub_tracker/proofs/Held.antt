-- What a tracker holds is what is subscribed.
use Rattle.std.proofs.Common.{◌≡◌, ℕ, Bool, true, false, ◌||◌, if◌then◌else◌, List, [], ◌∷◌, bytes_eq, refl, sym, ap, ◌∙◌, ◌++◌}
use Rattle.std.specs.List.{list_any}
use Rattle.std.specs.List.Sorted.{IsStrictlySortedBy}
use Rattle.std.specs.BTreeMap.{is_at}
use Rattle.std.specs.BTreeSet.{insert_key}
use Rattle.std.specs.Cmp.Lexicographic.{nat_list_cmp_total, texts_ties}
use Rattle.std.specs.Set.{remove_key}
use Rattle.resp_write.specs.declared.subscription.SubscriptionAction.{SubscriptionAction}
use Rattle.resp_write.specs.declared.subscription.SubscriptionAction.TheVariants.{Subscribe, Unsubscribe, PSubscribe, PUnsubscribe, SSubscribe, Sunsubscribe}
use Rattle.sub_tracker.specs.Subscribed.{Request, Family, Plain, Sharded, Pattern, byte_order, is_among, concerns, subscribes, subscribed_on, AreSubscribed}
use Rattle.sub_tracker.specs.Held.{Held, nothing, names_of, with_all, without_all, held_with, held_on, held_after}
use Rattle.sub_tracker.specs.Pipeline.{resubscription, Resubscribes}
use Rattle.sub_tracker.proofs.Order.{has, sorted_inserted, sorted_removed, has_inserted, has_removed}

-- the two tests for equal names agree
pub same_test : (name : List ℕ) (names : List (List ℕ)) → is_among name names ≡ has nat_list_cmp_total name names
same_test name names = λ i. list_any (λ other. texts_ties name other i) names

among_inserted : (name other : List ℕ) (held : List (List ℕ)) → is_among name (insert_key byte_order held other) ≡ (bytes_eq name other || is_among name held)
among_inserted name other held =
    same_test name (insert_key byte_order held other) ∙ has_inserted nat_list_cmp_total name other held
    ∙ (λ i. sym (texts_ties name other) i || sym (same_test name held) i)

among_removed : (name other : List ℕ) (held : List (List ℕ)) → IsStrictlySortedBy byte_order held → is_among name (remove_key (is_at (byte_order other)) held) ≡ (if bytes_eq name other then false else is_among name held)
among_removed name other held s =
    same_test name (remove_key (is_at (byte_order other)) held) ∙ has_removed nat_list_cmp_total name other held s
    ∙ (λ i. if sym (texts_ties name other) i then false else sym (same_test name held) i)

either : (a b h : Bool) → (if b then true else (a || h)) ≡ (if a || b then true else h)
either true true h = refl
either true false h = refl
either false b h = refl

neither : (a b h : Bool) → (if b then false else (if a then false else h)) ≡ (if a || b then false else h)
neither true true h = refl
neither true false h = refl
neither false b h = refl

-- names in byte order, and of each name whether it is among them
record Stands (held : List (List ℕ)) (was : List ℕ → Bool) : Type 0 where
  ordered : IsStrictlySortedBy byte_order held
  exact : (name : List ℕ) → is_among name held ≡ was name

sorted_with : (held names : List (List ℕ)) → IsStrictlySortedBy byte_order held → IsStrictlySortedBy byte_order (with_all held names)
sorted_with held [] s = s
sorted_with held (n ∷ ns) s = sorted_with (insert_key byte_order held n) ns (sorted_inserted nat_list_cmp_total n held s)

sorted_without : (held names : List (List ℕ)) → IsStrictlySortedBy byte_order held → IsStrictlySortedBy byte_order (without_all held names)
sorted_without held [] s = s
sorted_without held (n ∷ ns) s = sorted_without (remove_key (is_at (byte_order n)) held) ns (sorted_removed nat_list_cmp_total (is_at (byte_order n)) held s)

among_with : (name : List ℕ) (held names : List (List ℕ)) → is_among name (with_all held names) ≡ (if is_among name names then true else is_among name held)
among_with name held [] = refl
among_with name held (n ∷ ns) =
    among_with name (insert_key byte_order held n) ns
    ∙ ap (λ b. if is_among name ns then true else b) (among_inserted name n held)
    ∙ either (bytes_eq name n) (is_among name ns) (is_among name held)

among_without : (name : List ℕ) (held names : List (List ℕ)) → IsStrictlySortedBy byte_order held → is_among name (without_all held names) ≡ (if is_among name names then false else is_among name held)
among_without name held [] s = refl
among_without name held (n ∷ ns) s =
    among_without name (remove_key (is_at (byte_order n)) held) ns (sorted_removed nat_list_cmp_total (is_at (byte_order n)) held s)
    ∙ ap (λ b. if is_among name ns then false else b) (among_removed name n held s)
    ∙ neither (bytes_eq name n) (is_among name ns) (is_among name held)

added : (held names : List (List ℕ)) (was : List ℕ → Bool) → Stands held was → Stands (with_all held names) (λ name. if is_among name names then true else was name)
added held names was s = record {
  ordered = sorted_with held names s.ordered;
  exact = λ name. among_with name held names ∙ ap (λ b. if is_among name names then true else b) (s.exact name);
}

taken : (held names : List (List ℕ)) (was : List ℕ → Bool) → Stands held was → Stands (without_all held names) (λ name. if is_among name names then false else was name)
taken held names was s = record {
  ordered = sorted_without held names s.ordered;
  exact = λ name. among_without name held names s.ordered ∙ ap (λ b. if is_among name names then false else b) (s.exact name);
}

-- one more command
one_more : (f : Family) (a : SubscriptionAction) (names : List (List ℕ)) (h : Held) (was : List ℕ → Bool) → Stands (names_of f h) was → Stands (names_of f (held_with h a names)) (λ name. if concerns f name (a, names) then subscribes a else was name)
one_more Plain Subscribe names h was s = added h.plain names was s
one_more Plain Unsubscribe names h was s = taken h.plain names was s
one_more Plain SSubscribe names h was s = s
one_more Plain Sunsubscribe names h was s = s
one_more Plain PSubscribe names h was s = s
one_more Plain PUnsubscribe names h was s = s
one_more Sharded Subscribe names h was s = s
one_more Sharded Unsubscribe names h was s = s
one_more Sharded SSubscribe names h was s = added h.sharded names was s
one_more Sharded Sunsubscribe names h was s = taken h.sharded names was s
one_more Sharded PSubscribe names h was s = s
one_more Sharded PUnsubscribe names h was s = s
one_more Pattern Subscribe names h was s = s
one_more Pattern Unsubscribe names h was s = s
one_more Pattern SSubscribe names h was s = s
one_more Pattern Sunsubscribe names h was s = s
one_more Pattern PSubscribe names h was s = added h.pattern names was s
one_more Pattern PUnsubscribe names h was s = taken h.pattern names was s

each_more : (f : Family) (h : Held) (was : List ℕ → Bool) (rs : List Request) → Stands (names_of f h) was → Stands (names_of f (held_on h rs)) (λ name. subscribed_on f name (was name) rs)
each_more f h was [] s = s
each_more f h was (r ∷ rs) s =
    each_more f (held_with h r.0 r.1) (λ name. if concerns f name r then subscribes r.0 else was name) rs (one_more f r.0 r.1 h was s)

none_yet : (f : Family) → Stands (names_of f nothing) (λ _. false)
unfolding IsStrictlySortedBy
none_yet Plain = record { ordered = tt; exact = λ _. refl }
none_yet Sharded = record { ordered = tt; exact = λ _. refl }
none_yet Pattern = record { ordered = tt; exact = λ _. refl }

-- what is held after some commands is what they subscribed
pub held_is_subscribed : (history : List Request) (f : Family) → AreSubscribed f history (names_of f (held_after history))
unfolding held_after
held_is_subscribed history f =
    let s = each_more f nothing (λ _. false) history (none_yet f) in
    record { ordered = s.ordered; exact = s.exact }

last_command : (h : Held) (rs : List Request) (r : Request) → held_on h (rs ++ r ∷ []) ≡ held_with (held_on h rs) r.0 r.1
last_command h [] r = refl
last_command h (x ∷ rs) r = last_command (held_with h x.0 x.1) rs r

-- one more command at the end
pub held_with_last : (history : List Request) (h : Held) (a : SubscriptionAction) (names : List (List ℕ)) → h ≡ held_after history → held_with h a names ≡ held_after (history ++ (a, names) ∷ [])
unfolding held_after
held_with_last history h a names e = ap (λ k. held_with k a names) e ∙ sym (last_command nothing history (a, names))

-- the pipeline of what is held
pub held_resubscribes : (history : List Request) (h : Held) → h ≡ held_after history → Resubscribes history (resubscription h)
held_resubscribes history h e = record {
  names = held_after history;
  exact = held_is_subscribed history;
  is = ap resubscription e;
}
