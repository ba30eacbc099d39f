-- Which messages of a queue are ahead of new credentials.
use Rattle.std.proofs.Common.{◌≡◌, ◌⊎◌, inl, inr, ℕ, suc, ◌≤◌, nat_le, true, false, List, [], ◌∷◌, ◌++◌, Option, Some, None, refl, sym, ap, ◌∙◌, subst, arith}
use Rattle.containers.proofs.Choices.{by_test, le_test, le_from, not_le_test, not_both}
use Rattle.driver_model.specs.declared.action.WaitKind.{WaitKind}
use Rattle.driver_model.specs.declared.action.WaitKind.TheVariants as wait
use Rattle.link_core.specs.declared.message.Queued.{Queued}
use Rattle.link_core.specs.Link.{is_first_up_to, is_up_to, last_behind, last_in}
use Rattle.mux_conn.specs.declared.request.Pending.{Pending}
use Rattle.legal_trace.specs.Story.{is_room}
use Rattle.conn_laws.proofs.Ties.Numbers.{IsIn, Rising, rising_apart, rising_in}
use Rattle.conn_laws.proofs.Ties.Tied.{queue_ids}

-- places that were taken
--
-- who waits for the connection, or for a permit, has not shown that it waits for room
pub early_unroomed : (o : Option WaitKind) → (o ≡ None) ⊎ ((o ≡ Some wait.Backoff) ⊎ ((o ≡ Some wait.Connect) ⊎ ((o ≡ Some wait.Creds) ⊎ ((o ≡ Some wait.Setup) ⊎ ((o ≡ Some wait.Resubscribe) ⊎ (o ≡ Some wait.Permit)))))) → is_room o ≡ false
early_unroomed o (inl e) = ap is_room e
early_unroomed o (inr (inl e)) = ap is_room e
early_unroomed o (inr (inr (inl e))) = ap is_room e
early_unroomed o (inr (inr (inr (inl e)))) = ap is_room e
early_unroomed o (inr (inr (inr (inr (inl e))))) = ap is_room e
early_unroomed o (inr (inr (inr (inr (inr (inl e)))))) = ap is_room e
early_unroomed o (inr (inr (inr (inr (inr (inr e)))))) = ap is_room e

-- the last of a queue
--
-- it is one of it
last_is_in : (id : ℕ) (qs : List Queued) → IsIn (last_behind id qs) (id ∷ queue_ids qs)
last_is_in id [] = inl refl
last_is_in id (q ∷ qs) = inr (last_is_in q.id qs)

pub last_in_queue : (qs : List Queued) (k : ℕ) → last_in qs ≡ Some k → IsIn k (queue_ids qs)
last_in_queue [] k e = cc
last_in_queue (q ∷ qs) k e = subst (λ m. IsIn m (q.id ∷ queue_ids qs)) (let same : last_behind q.id qs ≡ k = cc in same) (last_is_in q.id qs)

-- none of it is above
last_is_most : (id : ℕ) (qs : List Queued) (hi p : ℕ) → Rising id (id ∷ queue_ids qs) hi → IsIn p (id ∷ queue_ids qs) → p ≤ last_behind id qs
last_is_most id [] hi p h (inl same) = omega (arith, same)
last_is_most id [] hi p h (inr i) = absurd i
last_is_most id (q ∷ qs) hi p h (inr i) =
    let k : suc id ≤ q.id = h.1.0 in
    last_is_most q.id qs hi p ((let le : q.id ≤ q.id = omega arith in le), h.1.1) i
last_is_most id (q ∷ qs) hi p h (inl same) =
    let k : suc id ≤ q.id = h.1.0 in
    let rest : q.id ≤ last_behind q.id qs = last_is_most q.id qs hi q.id ((let le : q.id ≤ q.id = omega arith in le), h.1.1) (inl refl) in
    omega (arith, same, k, rest)

-- so all of it are up to it
pub queue_up_to : (qs : List Queued) (lo hi p : ℕ) → Rising lo (queue_ids qs) hi → IsIn p (queue_ids qs) → is_up_to (last_in qs) p ≡ true
queue_up_to [] lo hi p h i = absurd i
queue_up_to (q ∷ qs) lo hi p h i = le_test p (last_behind q.id qs) (last_is_most q.id qs hi p ((let le : q.id ≤ q.id = omega arith in le), h.1) i)

-- and none behind it
pub behind_queue : (qs : List Queued) (lo hi p : ℕ) (kept : List ℕ) → Rising lo (queue_ids qs ++ kept) hi → IsIn p kept → is_up_to (last_in qs) p ≡ false
behind_queue [] lo hi p kept h i = refl
behind_queue (q ∷ qs) lo hi p kept h i =
    let k = rising_apart lo (queue_ids (q ∷ qs)) kept hi (last_behind q.id qs) p h (last_is_in q.id qs) i in
    not_le_test p (last_behind q.id qs) k

-- where the first of a queue isn't up to that one, none of it is
pub none_up_to : (last : Option ℕ) (qs : List Queued) (lo hi p : ℕ) → Rising lo (queue_ids qs) hi → is_first_up_to last qs ≡ false → IsIn p (queue_ids qs) → is_up_to last p ≡ false
none_up_to last [] lo hi p h none i = absurd i
none_up_to None (q ∷ qs) lo hi p h none i = refl
none_up_to (Some k) (q ∷ qs) lo hi p h none (inl same) = ap (λ m. nat_le m k) (sym same) ∙ none
none_up_to (Some k) (q ∷ qs) lo hi p h none (inr i) =
    let above = rising_in (suc q.id) (queue_ids qs) hi p h.1 i in
    by_test (nat_le p k) (nat_le p k ≡ false)
    (λ t. absurd (let low : p ≤ k = le_from p k t in not_both (nat_le q.id k) none (le_test q.id k (let up : suc q.id ≤ p = above.0 in omega (arith, low, up)))))
    (λ f. f)

-- the number that an entry gives
abbrev pub number_in : Option (Option Pending) → ℕ
number_in None = 0
number_in (Some None) = 0
number_in (Some (Some p)) = p.number
