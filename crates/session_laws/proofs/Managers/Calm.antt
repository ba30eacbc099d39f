-- Until a link ends, no outcome is a cause for the next generation.
use Rattle.std.proofs.Common.{◌≡◌, ◌⊎◌, inl, inr, ℕ, zero, suc, ◌<◌, ◌==◌, Bool, true, false, ◌||◌, List, [], ◌∷◌, ◌++◌, length, Option, Some, None, slice_get, refl, sym, ap, ◌∙◌, subst}
use Rattle.std.specs.List.{list_any}
use Rattle.containers.proofs.Choices.{by_test, chosen, eq_from, left_if, ne_from, or_left, or_right}
use Rattle.redis_error.specs.declared.fault_kind.FaultKind.TheVariants as kinds
use Rattle.redis_error.specs.declared.redis_error.RedisError.{RedisError}
use Rattle.redis_error.specs.declared.redis_error.RedisError.TheVariants as error
use Rattle.driver_model.specs.declared.outcome.Outcome.{Outcome}
use Rattle.driver_model.specs.declared.outcome.Outcome.TheVariants as outcome
use Rattle.driver_model.specs.declared.outcome.Shape.{Shape}
use Rattle.driver_model.specs.Shape.{outcome_of, verdict_of}
use Rattle.mux_conn.specs.Requests.{is_open_at, name_at}
use Rattle.mux_conn.specs.declared.life.Life.{Life}
use Rattle.legal_trace.proofs.Causes.{verdict_needs_none}
use Rattle.legal_trace.specs.Book.{Book, faults_in}
use Rattle.legal_trace.specs.Ledger.{Ledger, cut, is_full}
use Rattle.legal_trace.specs.Legal.{is_cause}
use Rattle.legal_trace.specs.Owed.{cut_off_if, owed, owed_to_message, owed_to_try, owed_unstarted, owed_waiting}
use Rattle.legal_trace.specs.Story.{Story, Try, bytes_of, last_of, shape}
use Rattle.conn_laws.proofs.Ties.Names.{get_some, name_of_some, open_within}
use Rattle.conn_laws.proofs.Ties.Numbers.{IsIn}
use Rattle.conn_laws.proofs.Ties.Owes.{lives}
use Rattle.session_laws.proofs.Ties.Owes.{not_empty, request_story}
use Rattle.conn_laws.proofs.Ties.Tied.{IsRequest, has_ended}
use Rattle.session_laws.proofs.Ties.Tied.{NoReconnectCause, TurnState, StaysCalm, Tied}

-- lists
--
-- it is in a list, or it isn't
in_or_not : (n : ℕ) (xs : List ℕ) → IsIn n xs ⊎ (IsIn n xs → ⊥)
in_or_not n [] = inr (λ i. i)
in_or_not n (x ∷ xs) = by_test (x == n) _
    (λ t. inl (inl (eq_from x n t)))
    (λ f. elim (in_or_not n xs) [ inl i ↦ inl (inr i) | inr out ↦ inr (λ i. elim i [ inl same ↦ absurd (ne_from x n f same) | inr j ↦ out j ]) ])

-- what is in a list has a place there
place_in : (n : ℕ) (xs : List ℕ) → IsIn n xs → (k : ℕ) × (slice_get xs k ≡ Some n)
place_in n [] i = absurd i
place_in n (x ∷ xs) (inl same) = (zero, ap Some same)
place_in n (x ∷ xs) (inr i) = let k = place_in n xs i in (suc k.0, k.1)

-- where none of some is, and none of others, none of both is
any_append : (p : RedisError → Bool) (xs ys : List RedisError) → list_any p xs ≡ false → list_any p ys ≡ false → list_any p (xs ++ ys) ≡ false
any_append p [] ys none also = also
any_append p (x ∷ xs) ys none also = ap (λ b. b || list_any p (xs ++ ys)) (or_left (p x) (list_any p xs) none) ∙ any_append p xs ys (or_right (p x) (list_any p xs) none) also

-- one more answer that is none
pub calm_more : (errors : List RedisError) (o : Outcome) (shut : Bool) (life : Life) → (has_ended life ≡ false → shut ≡ false → NoReconnectCause (faults_in o)) → StaysCalm errors shut life → StaysCalm (errors ++ faults_in o) shut life
calm_more errors o shut life one h up open_still = any_append (is_cause None) errors (faults_in o) (h up open_still) (one up open_still)

-- what is owed
--
-- an outcome that is given is no cause
abbrev pub IsCalm : Option Outcome → Outcome → Type 0
IsCalm x o = x ≡ Some o → NoReconnectCause (faults_in o)

-- nothing is none
none_calm : (o : Outcome) → IsCalm None o
none_calm o e = cc

-- what values give is none
verdict_calm : (of_shape : Shape) (l : Ledger) (k : ℕ) (o : Outcome) → IsCalm (Some (outcome_of (verdict_of of_shape (cut l k of_shape)))) o
verdict_calm of_shape l k o e =
    let same : outcome_of (verdict_of of_shape (cut l k of_shape)) ≡ o = cc in
    subst (λ (x : Outcome). NoReconnectCause (faults_in x)) same (verdict_needs_none of_shape (cut l k of_shape))

-- nor is what a message is owed whose link has not ended
message_calm : (l : Ledger) (k : ℕ) (of_shape : Shape) (o : Outcome) → l.end ≡ None → IsCalm (owed_to_message l k of_shape) o
message_calm l k of_shape o alive = chosen (λ (x : Option Outcome). IsCalm x o) (is_full l k) (Some (outcome_of (verdict_of of_shape (cut l k of_shape)))) (cut_off_if l.end k of_shape)
    (λ t. verdict_calm of_shape l k o)
    (λ f. subst (λ (x : Option Outcome). IsCalm x o) (sym (ap (λ x. cut_off_if x k of_shape) alive)) (none_calm o))

-- that a request's time is over is none
late_calm : (o : Outcome) → IsCalm (Some (outcome.Fault (error.Io kinds.TimedOut))) o
late_calm o e = let same : outcome.Fault (error.Io kinds.TimedOut) ≡ o = cc in subst (λ (x : Outcome). NoReconnectCause (faults_in x)) same refl

-- so no answer to an open request is
pub owed_calm : (b : Book) (t : TurnState) (p : ℕ) (o : Outcome) → Tied b t → is_open_at t.requests p ≡ true → has_ended t.life ≡ false → t.shut ≡ false → IsCalm (owed b (name_at t.requests p)) o
owed_calm b t p o h e up open_still =
    subst (λ (x : Option Outcome). IsCalm x o) (sym (left_if s.late _ _ r.in_time ∙ left_if s.unspoken _ _ r.spoken ∙ left_if (length (bytes_of s) == 0) _ _ (not_empty (bytes_of s) r.some)))
    (chosen (λ (x : Option Outcome). IsCalm x o) s.overdue (Some (outcome.Fault (error.Io kinds.TimedOut))) (owed_to_try b s (last_of s.tries)) (λ t. late_calm o) (λ f. by_start (in_or_not p t.started)))
  where
    n : ℕ
    n = name_at t.requests p

    s : Story
    s = b.story n

    l : p < length t.requests
    l = open_within t.requests p e

    r : IsRequest s t.requests t.link p
    r = request_story b t p h l

    alive : (b.link t.link).end ≡ None
    alive = lives (b.link t.link) b.created t.life h.life up

    by_start : IsIn p t.started ⊎ (IsIn p t.started → ⊥) → IsCalm (owed_to_try b s (last_of s.tries)) o
    by_start (inl i) =
        let k = place_in p t.started i in
        subst (λ (ts : List Try). IsCalm (owed_to_try b s (last_of ts)) o) (sym (h.tries.tried k.0 p l k.1)) (message_calm (b.link t.link) _ (shape s) o alive)
    by_start (inr out) =
        let g = get_some t.requests p l in
        let named : n ≡ g.0.name = name_of_some t.requests p g.0 g.1 in
        let untried : s.tries ≡ [] = ap (λ m. (b.story m).tries) named ∙ h.tries.untried p g.0 g.1 out (sym (ap (λ m. (b.story m).link) named) ∙ r.on e) in
        let none : owed_waiting b.shut (b.link s.link) ≡ None = ap (λ m. owed_waiting b.shut (b.link m)) (r.on e) ∙ ap (λ x. owed_waiting x (b.link t.link)) (h.numbers.shut ∙ open_still) ∙ ap owed_unstarted alive in
        subst (λ (ts : List Try). IsCalm (owed_to_try b s (last_of ts)) o) (sym untried) (subst (λ (x : Option Outcome). IsCalm x o) (sym none) (none_calm o))
