-- The last command that gives a name decides, and only one pipeline subscribes again what is subscribed.
use Rattle.std.proofs.Common.{◌≡◌, ℕ, Bool, true, false, if◌then◌else◌, List, [], ◌∷◌, ◌++◌, refl, sym, ap, ◌∙◌}
use Rattle.std.specs.Ordering.{eq_by_cmp}
use Rattle.std.specs.Cmp.Lexicographic.{nat_list_cmp_total, texts_ties, bytes_decides}
use Rattle.resp_write.specs.Command.{CommandList}
use Rattle.sub_tracker.specs.Subscribed.{Request, Family, Plain, Sharded, Pattern, byte_order, concerns, subscribes, subscribed_on, subscribed, AreSubscribed}
use Rattle.sub_tracker.specs.Held.{Held, names_of}
use Rattle.sub_tracker.specs.Pipeline.{resubscription, Resubscribes}
use Rattle.sub_tracker.proofs.Order.{same_keys}
use Rattle.sub_tracker.proofs.Held.{same_test}

last_on : (f : Family) (name : List ℕ) (was : Bool) (rs : List Request) (r : Request) → subscribed_on f name was (rs ++ r ∷ []) ≡ (if concerns f name r then subscribes r.0 else subscribed_on f name was rs)
last_on f name was [] r = refl
last_on f name was (x ∷ xs) r = last_on f name (if concerns f name x then subscribes x.0 else was) xs r

-- a command that concerns the name decides
pub last_decides : (f : Family) (name : List ℕ) (history : List Request) (r : Request) → concerns f name r ≡ true → subscribed f name (history ++ r ∷ []) ≡ subscribes r.0
last_decides f name history r e = last_on f name false history r ∙ ap (λ b. if b then subscribes r.0 else subscribed f name history) e

-- any other leaves it as it was
pub others_leave : (f : Family) (name : List ℕ) (history : List Request) (r : Request) → concerns f name r ≡ false → subscribed f name (history ++ r ∷ []) ≡ subscribed f name history
others_leave f name history r e = last_on f name false history r ∙ ap (λ b. if b then subscribes r.0 else subscribed f name history) e

same_name : (x y : List ℕ) → eq_by_cmp byte_order x y ≡ true → x ≡ y
same_name x y e = (bytes_decides x y).0 (texts_ties x y ∙ e)

same_names : (f : Family) (history : List Request) (xs ys : List (List ℕ)) → AreSubscribed f history xs → AreSubscribed f history ys → xs ≡ ys
same_names f history xs ys a b =
    same_keys nat_list_cmp_total same_name xs ys a.ordered b.ordered
    (λ q. sym (same_test q xs) ∙ a.exact q ∙ sym (b.exact q) ∙ same_test q ys)

same_held : (h k : Held) → ((f : Family) → names_of f h ≡ names_of f k) → h ≡ k
same_held h k e = λ i. record { plain = e Plain i; sharded = e Sharded i; pattern = e Pattern i }

-- only one pipeline subscribes it again
pub same_pipeline : (history : List Request) (p q : CommandList) → Resubscribes history p → Resubscribes history q → p ≡ q
same_pipeline history p q a b =
    a.is ∙ ap resubscription (same_held a.names b.names (λ f. same_names f history (names_of f a.names) (names_of f b.names) (a.exact f) (b.exact f))) ∙ sym b.is
