-- A tracker of the commands that subscribe again what is subscribed.
use Rattle.std.proofs.Common.{◌≡◌, ℕ, Bool, true, false, if◌then◌else◌, List, [], ◌∷◌, ◌++◌, Option, Some, None, refl, sym, ap, ◌∙◌}
use Rattle.std.specs.Prelude.{codes}
use Rattle.std.specs.List.Sorted.{IsStrictlySortedBy}
use Rattle.std.specs.Ordering.{eq_by_cmp}
use Rattle.std.specs.Cmp.Lexicographic.{nat_list_cmp_total, texts_ties, bytes_decides}
use Rattle.resp_write.specs.declared.subscription.SubscriptionAction.TheVariants.{Subscribe, PSubscribe, SSubscribe}
use Rattle.resp_write.specs.Command.{Command}
use Rattle.resp_write.specs.Subscription.{subscription_action, is_word}
use Rattle.sub_tracker.specs.Subscribed.{Request, Plain, Sharded, Pattern, byte_order, is_among}
use Rattle.sub_tracker.specs.Held.{Held, nothing, with_all, held_with, held_on, held_after}
use Rattle.sub_tracker.specs.Pipeline.{request_of, command_for, resubscription}
use Rattle.sub_tracker.proofs.Order.{same_keys}
use Rattle.sub_tracker.proofs.Held.{same_test, held_is_subscribed}
use Rattle.protocol_examples.specs.Tracking.{tracked_with, tracked, tracked_again}

same_name : (x y : List ℕ) → eq_by_cmp byte_order x y ≡ true → x ≡ y
same_name x y e = (bytes_decides x y).0 (texts_ties x y ∙ e)

as_it_is : (b : Bool) → (if b then true else false) ≡ b
as_it_is true = refl
as_it_is false = refl

-- names in byte order, put into no names one by one
put_in_order : (names : List (List ℕ)) → IsStrictlySortedBy byte_order names → with_all [] names ≡ names
unfolding held_after
put_in_order names s =
    let one = held_is_subscribed ((Subscribe, names) ∷ []) Plain in
    same_keys nat_list_cmp_total same_name (with_all [] names) names one.ordered s
    (λ q. sym (same_test q (with_all [] names)) ∙ one.exact q ∙ as_it_is (is_among q names) ∙ same_test q names)

with_append : (r : Option Request) (rs ss : List Request) → tracked_with r (rs ++ ss) ≡ tracked_with r rs ++ ss
with_append None rs ss = refl
with_append (Some r) rs ss = refl

tracked_append : (cs ds : List Command) → tracked (cs ++ ds) ≡ tracked cs ++ tracked ds
tracked_append [] ds = refl
tracked_append (c ∷ cs) ds = ap (tracked_with (request_of c.args)) (tracked_append cs ds) ∙ with_append (request_of c.args) (tracked cs) (tracked ds)

held_append : (h : Held) (rs ss : List Request) → held_on h (rs ++ ss) ≡ held_on (held_on h rs) ss
held_append h [] ss = refl
held_append h (r ∷ rs) ss = held_append (held_with h r.0 r.1) rs ss

-- more commands behind others
held_more : (h : Held) (cs ds : List Command) → held_on h (tracked (cs ++ ds)) ≡ held_on (held_on h (tracked cs)) (tracked ds)
held_more h cs ds = ap (held_on h) (tracked_append cs ds) ∙ held_append h (tracked cs) (tracked ds)

plain_again : (h : Held) (names : List (List ℕ)) → held_on h (tracked (command_for (codes "SUBSCRIBE") names)) ≡ held_with h Subscribe names
unfolding subscription_action is_word
plain_again h [] = refl
plain_again h (name ∷ names) = refl

sharded_again : (h : Held) (names : List (List ℕ)) → held_on h (tracked (command_for (codes "SSUBSCRIBE") names)) ≡ held_with h SSubscribe names
unfolding subscription_action is_word
sharded_again h [] = refl
sharded_again h (name ∷ names) = refl

pattern_again : (h : Held) (names : List (List ℕ)) → held_on h (tracked (command_for (codes "PSUBSCRIBE") names)) ≡ held_with h PSubscribe names
unfolding subscription_action is_word
pattern_again h [] = refl
pattern_again h (name ∷ names) = refl

-- each family is put into nothing
put_again : (h : Held) → tracked_again h ≡ record { plain = with_all [] h.plain; sharded = with_all [] h.sharded; pattern = with_all [] h.pattern }
unfolding held_after resubscription
put_again h =
    let plain = command_for (codes "SUBSCRIBE") h.plain in
    let sharded = command_for (codes "SSUBSCRIBE") h.sharded in
    let pattern = command_for (codes "PSUBSCRIBE") h.pattern in
    held_more nothing (plain ++ sharded) pattern
    ∙ ap (λ k. held_on k (tracked pattern)) (held_more nothing plain sharded ∙ ap (λ k. held_on k (tracked sharded)) (plain_again nothing h.plain) ∙ sharded_again (held_with nothing Subscribe h.plain) h.sharded)
    ∙ pattern_again (held_with (held_with nothing Subscribe h.plain) SSubscribe h.sharded) h.pattern

pub same_names_again : (history : List Request) → tracked_again (held_after history) ≡ held_after history
same_names_again history =
    let plain = put_in_order (held_after history).plain (held_is_subscribed history Plain).ordered in
    let sharded = put_in_order (held_after history).sharded (held_is_subscribed history Sharded).ordered in
    let pattern = put_in_order (held_after history).pattern (held_is_subscribed history Pattern).ordered in
    put_again (held_after history) ∙ (λ i. record { plain = plain i; sharded = sharded i; pattern = pattern i })
