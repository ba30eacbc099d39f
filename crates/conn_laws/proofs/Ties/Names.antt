-- Requests by their numbers, and their names.
use Rattle.std.proofs.Common.{◌≡◌, ◌≢◌, ◌⊎◌, inl, inr, ℕ, zero, suc, ◌<◌, ◌==◌, nat_lt, if◌then◌else◌, Bool, true, false, List, [], ◌∷◌, ◌++◌, length, Option, Some, None, slice_get, slice_set, refl, sym, ap, ◌∙◌, subst, arith, ◌||◌}
use Rattle.containers.proofs.Places.{get_set_same, get_within}
use Rattle.std.proofs.lemmas.List.{length_push}
use Rattle.containers.proofs.Choices.{by_test, chosen, taken_if, left_if, not_both, eq_from, ne_from, lt_from, not_lt_from, eq_test}
use Rattle.driver_model.specs.declared.action.Owner.{Owner}
use Rattle.driver_model.specs.declared.action.Owner.TheVariants as owner
use Rattle.legal_trace.specs.Ledger.{is_of_setup, Ledger}
use Rattle.link_laws.proofs.Lists.{get_before, get_last}
use Rattle.mux_conn.specs.declared.request.Pending.{Pending}
use Rattle.mux_conn.specs.declared.request.Progress.{Progress}
use Rattle.mux_conn.specs.declared.request.Request.{Request}
use Rattle.mux_conn.specs.Requests.{is_open, if_there, is_open_at, name_or_none, name_at, permits_or_none, permits_at, with_permits, at_progress}
use Rattle.mux_conn.specs.Renewals.{renewal_id}
use Rattle.mux_conn.specs.Connection.{is_resting}
use Rattle.mux_conn.specs.declared.life.Life.{Life}
use Rattle.mux_conn.specs.declared.life.Life.TheVariants.{Resting, Dialing, Wanting, SettingUp, Ready, Ended}
use Rattle.conn_laws.proofs.Ties.Tied.{owner_of, TiedLife, TiedNames, own_owner}
use Rattle.driver_model.specs.Hearing.{is_watching}
use Rattle.conn_laws.proofs.Ties.Numbers.{is_own, auth_is_own, repeat_is_own, repeat_other}
use Rattle.mux_conn.specs.Repeats.{repeat_id}
use Rattle.conn_laws.proofs.Changes.Requests.{progress_count as length_with, permits_other, test_other as with_other}

-- what stands at a place within
pub get_some : {X : Type 0} (xs : List X) (n : ℕ) → n < length xs → (x : X) × (slice_get xs n ≡ Some x)
get_some [] n l = absurd (omega arith)
get_some (x ∷ xs) zero l = (x, refl)
get_some (x ∷ xs) (suc n) l = get_some xs n (omega arith)

-- what stands in a list with one more behind
pub get_more : {X : Type 0} (xs : List X) (x : X) (n : ℕ) (y : X) → slice_get (xs ++ x ∷ []) n ≡ Some y → (slice_get xs n ≡ Some y) ⊎ ((n ≡ length xs) × (x ≡ y))
get_more [] x zero y e = inr (refl, cc)
get_more [] x (suc n) y e = cc
get_more (z ∷ xs) x zero y e = inl e
get_more (z ∷ xs) x (suc n) y e = elim (get_more xs x n y e) [ inl i ↦ inl i | inr k ↦ inr (ap suc k.0, k.1) ]

-- a place that is open is within
pub there_within : (test : Progress → Bool) (requests : List Request) (p : ℕ) → if_there test (slice_get requests p) ≡ true → p < length requests
there_within test [] p e = cc
there_within test (r ∷ rs) zero e = omega arith
there_within test (r ∷ rs) (suc p) e = let l = there_within test rs p e in omega arith

-- an open request is within
pub open_within : (requests : List Request) (p : ℕ) → is_open_at requests p ≡ true → p < length requests
open_within requests p e = there_within is_open requests p e

-- one request has come further
--
-- a request at the place of one of the same name
renamed_at : (requests : List Request) (p m : ℕ) (r : Request) → r.name ≡ name_at requests p → name_at (slice_set requests p r) m ≡ name_at requests m
renamed_at [] p m r e = refl
renamed_at (x ∷ xs) zero zero r e = e
renamed_at (x ∷ xs) zero (suc m) r e = refl
renamed_at (x ∷ xs) (suc p) zero r e = refl
renamed_at (x ∷ xs) (suc p) (suc m) r e = renamed_at xs p m r e

-- names stay
pub name_with : (requests : List Request) (p : ℕ) (now : Progress) (count m : ℕ) → name_at (with_permits requests p now count) m ≡ name_at requests m
name_with requests p now count m = renamed_at requests p m (record { name = name_at requests p; progress = now; permits = count }) refl

-- the same where permits stay
pub name_still : (requests : List Request) (p : ℕ) (now : Progress) (m : ℕ) → name_at (at_progress requests p now) m ≡ name_at requests m
name_still requests p now m = name_with requests p now (permits_at requests p) m

-- and so do owners
pub owners_with : (requests : List Request) (p : ℕ) (now : Progress) (count : ℕ) → owner_of (with_permits requests p now count) ≡ owner_of requests
owners_with requests p now count = λ i m. if is_own m then own_owner m else owner.Try (name_with requests p now count m i) 0

-- the same where permits stay
pub owners_still : (requests : List Request) (p : ℕ) (now : Progress) → owner_of (at_progress requests p now) ≡ owner_of requests
owners_still requests p now = owners_with requests p now (permits_at requests p)

-- the same where permits stay
pub length_still : (requests : List Request) (p : ℕ) (now : Progress) → length (at_progress requests p now) ≡ length requests
length_still requests p now = length_with requests p now (permits_at requests p)

-- its own progress
pub with_same : (test : Progress → Bool) (requests : List Request) (p : ℕ) (now : Progress) (count : ℕ) → p < length requests → if_there test (slice_get (with_permits requests p now count) p) ≡ test now
with_same test requests p now count l = ap (if_there test) (get_set_same requests p (record { name = name_at requests p; progress = now; permits = count }) l)

-- the same where permits stay
pub there_same : (test : Progress → Bool) (requests : List Request) (p : ℕ) (now : Progress) → p < length requests → if_there test (slice_get (at_progress requests p now) p) ≡ test now
there_same test requests p now l = with_same test requests p now (permits_at requests p) l

-- the same where permits stay
pub there_other : (test : Progress → Bool) (requests : List Request) (p m : ℕ) (now : Progress) → p ≢ m → if_there test (slice_get (at_progress requests p now) m) ≡ if_there test (slice_get requests m)
there_other test requests p m now o = with_other test requests p m now (permits_at requests p) o

-- its own permits
pub permits_with : (requests : List Request) (p : ℕ) (now : Progress) (count : ℕ) → p < length requests → permits_at (with_permits requests p now count) p ≡ count
permits_with requests p now count l = ap permits_or_none (get_set_same requests p (record { name = name_at requests p; progress = now; permits = count }) l)

-- permits stay
pub permits_still : (requests : List Request) (p m : ℕ) (now : Progress) → p < length requests → permits_at (at_progress requests p now) m ≡ permits_at requests m
permits_still requests p m now l =
    by_test (p == m) _
    (λ t. subst (λ k. permits_at (at_progress requests p now) k ≡ permits_at requests k) (eq_from p m t) (permits_with requests p now (permits_at requests p) l))
    (λ f. permits_other requests p m now (permits_at requests p) (ne_from p m f))

-- where a request has come to what doesn't pass the test, one that passes it is another one
pub with_then : (test : Progress → Bool) (requests : List Request) (p m : ℕ) (now : Progress) (count : ℕ) → test now ≡ false → p < length requests → if_there test (slice_get (with_permits requests p now count) m) ≡ true
    → (p ≢ m) × (if_there test (slice_get requests m) ≡ true)
with_then test requests p m now count closed l e =
    let other : p ≢ m = λ same. not_both (if_there test (slice_get (with_permits requests p now count) m)) (ap (λ k. if_there test (slice_get (with_permits requests p now count) k)) (sym same) ∙ with_same test requests p now count l ∙ closed) e in
    (other, sym (with_other test requests p m now count other) ∙ e)

-- the same where permits stay
pub there_then : (test : Progress → Bool) (requests : List Request) (p m : ℕ) (now : Progress) → test now ≡ false → p < length requests → if_there test (slice_get (at_progress requests p now) m) ≡ true
    → (p ≢ m) × (if_there test (slice_get requests m) ≡ true)
there_then test requests p m now closed l e = with_then test requests p m now (permits_at requests p) closed l e

-- a request, and the one that it was before or is after a change
abbrev pub IsNamed : List Request → ℕ → ℕ → Type 0
IsNamed requests q name = (r : Request) × (slice_get requests q ≡ Some r) × (r.name ≡ name)

-- the request that was there before has the name of the one that is there after
was_named : (requests : List Request) (p q : ℕ) (r s : Request) → r.name ≡ name_at requests p → slice_get (slice_set requests p r) q ≡ Some s → IsNamed requests q s.name
was_named [] p q r s e i = cc
was_named (x ∷ xs) zero zero r s e i = (x, refl, sym e ∙ let same : r ≡ s = cc in ap (λ (y : Request). y.name) same)
was_named (x ∷ xs) zero (suc q) r s e i = (s, i, refl)
was_named (x ∷ xs) (suc p) zero r s e i = (s, i, refl)
was_named (x ∷ xs) (suc p) (suc q) r s e i = was_named xs p q r s e i

-- and the one after has the name of the one before
is_named : (requests : List Request) (p q : ℕ) (r s : Request) → r.name ≡ name_at requests p → slice_get requests q ≡ Some s → IsNamed (slice_set requests p r) q s.name
is_named [] p q r s e i = cc
is_named (x ∷ xs) zero zero r s e i = (r, refl, e ∙ let same : x ≡ s = cc in ap (λ (y : Request). y.name) same)
is_named (x ∷ xs) zero (suc q) r s e i = (s, i, refl)
is_named (x ∷ xs) (suc p) zero r s e i = (s, i, refl)
is_named (x ∷ xs) (suc p) (suc q) r s e i = is_named xs p q r s e i

-- the request that has come further has the same name
pub was_with : (requests : List Request) (p : ℕ) (now : Progress) (count q : ℕ) (s : Request) → slice_get (with_permits requests p now count) q ≡ Some s → IsNamed requests q s.name
was_with requests p now count q s i = was_named requests p q (record { name = name_at requests p; progress = now; permits = count }) s refl i

-- the same where permits stay
pub name_was : (requests : List Request) (p : ℕ) (now : Progress) (q : ℕ) (s : Request) → slice_get (at_progress requests p now) q ≡ Some s → IsNamed requests q s.name
name_was requests p now q s i = was_with requests p now (permits_at requests p) q s i

-- and the other way round
pub is_with : (requests : List Request) (p : ℕ) (now : Progress) (count q : ℕ) (s : Request) → slice_get requests q ≡ Some s → IsNamed (with_permits requests p now count) q s.name
is_with requests p now count q s i = is_named requests p q (record { name = name_at requests p; progress = now; permits = count }) s refl i

-- the names of a table stand under the change of a progress
pub names_with : (table : List (Option Pending)) (requests : List Request) (p : ℕ) (now : Progress) (count : ℕ) → TiedNames table requests → TiedNames table (with_permits requests p now count)
names_with table requests p now count h = record {
  few = let long = length_with requests p now count in let few = h.few in omega arith;
  named = λ q s i. let w = was_with requests p now count q s i in ap (slice_get table) (sym w.2) ∙ h.named q w.0 w.1;
  kept = λ n q i. let k = h.kept n q i in let w = is_with requests p now count q.number k.0 k.1 in (w.0, w.1, w.2 ∙ k.2);
  rising = λ q m r s l i j. let a = was_with requests p now count q r i in let b = was_with requests p now count m s j in let k = h.rising q m a.0 b.0 l a.1 b.1 in omega (arith, a.2, b.2);
}

-- the same where permits stay
pub names_progressed : (table : List (Option Pending)) (requests : List Request) (p : ℕ) (now : Progress) → TiedNames table requests → TiedNames table (at_progress requests p now)
names_progressed table requests p now h = names_with table requests p now (permits_at requests p) h

-- names tell requests apart
--
-- the name of a request that is there
pub name_of_some : (requests : List Request) (p : ℕ) (r : Request) → slice_get requests p ≡ Some r → name_at requests p ≡ r.name
name_of_some requests p r e = ap name_or_none e

-- a request of the table by its name
pub name_placed : (table : List (Option Pending)) (requests : List Request) (p : ℕ) → TiedNames table requests → p < length requests → slice_get table (name_at requests p) ≡ Some (Some (record { number = p }))
name_placed table requests p h l = let g = get_some requests p l in ap (slice_get table) (name_of_some requests p g.0 g.1) ∙ h.named p g.0 g.1

-- names of two places within are equal where the places are
pub same_name : (table : List (Option Pending)) (requests : List Request) (p q : ℕ) → TiedNames table requests → p < length requests → q < length requests → name_at requests p ≡ name_at requests q → p ≡ q
same_name table requests p q h l m e =
    let both : Some (Some (record { number = p })) ≡ Some (Some (record { number = q })) = sym (name_placed table requests p h l) ∙ ap (slice_get table) e ∙ name_placed table requests q h m in
    placed_same p q both
  where
    placed_same : (p q : ℕ) → ◌≡◌ {A = Option (Option Pending)} (Some (Some (record { number = p }))) (Some (Some (record { number = q }))) → p ≡ q
    placed_same p q e = let same : ◌≡◌ {A = Pending} (record { number = p }) (record { number = q }) = cc in ap (λ (x : Pending). x.number) same

-- a later request has a later name
pub names_rise : (table : List (Option Pending)) (requests : List Request) (p q : ℕ) → TiedNames table requests → q < length requests → p < q → name_at requests p < name_at requests q
names_rise table requests p q h l m =
    let a = get_some requests p (omega arith) in
    let b = get_some requests q l in
    let k = h.rising p q a.0 b.0 m a.1 b.1 in
    omega (arith, name_of_some requests p a.0 a.1, name_of_some requests q b.0 b.1)

-- and so an earlier name is that of an earlier request
pub earlier_name : (table : List (Option Pending)) (requests : List Request) (p q : ℕ) → TiedNames table requests → p < length requests → q < length requests → name_at requests p < name_at requests q → p < q
earlier_name table requests p q h l m less =
    by_test (nat_lt p q) _ (lt_from p q)
    (λ f.
    let after = not_lt_from p q f in
    by_test (p == q) _
    (λ t. absurd (let same : name_at requests p ≡ name_at requests q = ap (name_at requests) (eq_from p q t) in omega arith))
    (λ o. absurd (let other = ne_from p q o in let more = names_rise table requests q p h l (omega arith) in omega arith)))

-- a name is a place of the table
pub name_within : (table : List (Option Pending)) (requests : List Request) (p : ℕ) → TiedNames table requests → p < length requests → name_at requests p < length table
name_within table requests p h l = get_within table (name_at requests p) (Some (record { number = p })) (name_placed table requests p h l)

-- one more submission
--
-- one number of a request is one number
number_is : (p : Pending) (n : ℕ) → ◌≡◌ {A = Option Pending} (Some (record { number = n })) (Some p) → n ≡ p.number
number_is p n e = let same : ◌≡◌ {A = Pending} (record { number = n }) p = cc in ap (λ (x : Pending). x.number) same

-- it has no request
pub names_refused : (table : List (Option Pending)) (requests : List Request) → TiedNames table requests → TiedNames (table ++ None ∷ []) requests
names_refused table requests h = record {
  few = let long = length_push table None in let few = h.few in omega arith;
  named = λ p r i. let g = h.named p r i in get_before table (None ∷ []) r.name (get_within table r.name (Some (record { number = p })) g) ∙ g;
  kept = λ n p i. elim (get_more table None n (Some p) i) [ inl j ↦ h.kept n p j | inr k ↦ absurd (cc k.1) ];
  rising = h.rising;
}

-- it is the next request
pub names_asked : (table : List (Option Pending)) (requests : List Request) (now : Progress) → TiedNames table requests
    → TiedNames (table ++ Some (record { number = length requests }) ∷ []) (requests ++ record { name = length table; progress = now; permits = 0 } ∷ [])
names_asked table requests now h =
    let next : Option Pending = Some (record { number = length requests }) in
    let new : Request = record { name = length table; progress = now; permits = 0 } in
    record {
      few = let long = length_push table next in let more = length_push requests new in let few = h.few in omega arith;
      named = λ p r i. elim (get_more requests new p r i) [
        | inl j ↦ let g = h.named p r j in get_before table (next ∷ []) r.name (get_within table r.name (Some (record { number = p })) g) ∙ g
        | inr k ↦ ap (λ (s : Request). slice_get (table ++ next ∷ []) s.name) (sym k.1) ∙ get_last table next ∙ ap (λ m. Some (Some (record { number = m }))) (sym k.0)
      ];
      kept = λ n p i. elim (get_more table next n (Some p) i) [
        | inl j ↦ let k = h.kept n p j in (k.0, get_before requests (new ∷ []) p.number (get_within requests p.number k.0 k.1) ∙ k.1, k.2)
        | inr k ↦ (new, ap (slice_get (requests ++ new ∷ [])) (sym (number_is p (length requests) k.1)) ∙ get_last requests new, sym k.0)
      ];
      rising = λ p q r s l i j. elim (get_more requests new q s j) [
        | inl b ↦ elim (get_more requests new p r i) [
          | inl a ↦ h.rising p q r s l a b
          | inr a ↦ absurd (let w = get_within requests q s b in omega (arith, a.0))
        ]
        | inr b ↦ elim (get_more requests new p r i) [
          | inl a ↦ let w = get_within table r.name (Some (record { number = p })) (h.named p r a) in let e : s.name ≡ length table = ap (λ (x : Request). x.name) (sym b.1) in omega arith
          | inr a ↦ absurd (omega (arith, a.0, b.0))
        ]
      ];
    }

-- requests, and what the driver says itself
--
-- a link that was never asked for isn't put into monitor mode
pub resting_unwatched : (l : Ledger) (created : ℕ) (life : Life) → is_resting life ≡ true → TiedLife l created life → is_watching l.hearing ≡ false
resting_unwatched l created Resting rests h = h.3
resting_unwatched l created Dialing rests h = cc
resting_unwatched l created (Wanting link) rests h = cc
resting_unwatched l created (SettingUp link greeting) rests h = cc
resting_unwatched l created (Ready link) rests h = cc
resting_unwatched l created (Ended e) rests h = cc

-- so its message is its submission's
pub owner_below : (requests : List Request) (p : ℕ) → is_own p ≡ false → owner_of requests p ≡ owner.Try (name_at requests p) 0
owner_below requests p other = left_if (is_own p) (own_owner p) (owner.Try (name_at requests p) 0) other

-- no such message is a setup
pub owner_no_setup : (requests : List Request) (p : ℕ) → is_of_setup (owner_of requests p) ≡ false
owner_no_setup requests p = chosen (λ (o : Owner). is_of_setup o ≡ false) (is_own p) (own_owner p) (owner.Try (name_at requests p) 0) (λ t. chosen (λ (o : Owner). is_of_setup o ≡ false) (p == renewal_id) owner.Auth owner.Resub (λ a. refl) (λ r. refl)) (λ f. refl)

-- AUTH's is AUTH
pub owner_of_auth : (requests : List Request) (p : ℕ) → p ≡ renewal_id → owner_of requests p ≡ owner.Auth
owner_of_auth requests p e = taken_if (is_own p) (own_owner p) (owner.Try (name_at requests p) 0) (auth_is_own p e) ∙ taken_if (p == renewal_id) owner.Auth owner.Resub (eq_test p renewal_id e)

-- and that of what is subscribed again is
pub owner_of_repeat : (requests : List Request) (p : ℕ) → p ≡ repeat_id → owner_of requests p ≡ owner.Resub
owner_of_repeat requests p e = taken_if (is_own p) (own_owner p) (owner.Try (name_at requests p) 0) (repeat_is_own p e) ∙ left_if (p == renewal_id) owner.Auth owner.Resub (repeat_other p e)

-- which message is the driver's own
own_kind : (requests : List Request) (p : ℕ) → is_own p ≡ true → ((p ≡ renewal_id) × (owner_of requests p ≡ owner.Auth)) ⊎ ((p ≡ repeat_id) × (owner_of requests p ≡ owner.Resub))
own_kind requests p own = by_test (p == renewal_id) _
    (λ t. let e = eq_from p renewal_id t in inl (e, owner_of_auth requests p e))
    (λ f. let e = eq_from p repeat_id (sym (ap (λ b. b || (p == repeat_id)) f) ∙ own) in inr (e, owner_of_repeat requests p e))

-- AUTH's owner has AUTH's number
pub auth_owner : (requests : List Request) (p : ℕ) → owner_of requests p ≡ owner.Auth → p ≡ renewal_id
auth_owner requests p e = by_test (is_own p) (p ≡ renewal_id)
    (λ t. elim (own_kind requests p t) [ inl a ↦ a.0 | inr r ↦ absurd (let no : owner.Resub ≡ owner.Auth = sym r.1 ∙ e in cc) ])
    (λ f. absurd (let no : owner.Try (name_at requests p) 0 ≡ owner.Auth = sym (owner_below requests p f) ∙ e in cc))

-- and so it is with what is subscribed again
pub repeat_owner : (requests : List Request) (p : ℕ) → owner_of requests p ≡ owner.Resub → p ≡ repeat_id
repeat_owner requests p e = by_test (is_own p) (p ≡ repeat_id)
    (λ t. elim (own_kind requests p t) [ inl a ↦ absurd (let no : owner.Auth ≡ owner.Resub = sym a.1 ∙ e in cc) | inr r ↦ r.0 ])
    (λ f. absurd (let no : owner.Try (name_at requests p) 0 ≡ owner.Resub = sym (owner_below requests p f) ∙ e in cc))

-- and one that is a request's is of a request of that name
pub request_owner : (requests : List Request) (p q : ℕ) → is_own q ≡ false → owner_of requests p ≡ owner_of requests q → (is_own p ≡ false) × (name_at requests p ≡ name_at requests q)
request_owner requests p q other e =
    let same = e ∙ owner_below requests q other in
    by_test (is_own p) ((is_own p ≡ false) × (name_at requests p ≡ name_at requests q))
    (λ t. elim (own_kind requests p t) [
      | inl a ↦ absurd (let no : owner.Auth ≡ owner.Try (name_at requests q) 0 = sym a.1 ∙ same in cc)
      | inr r ↦ absurd (let no : owner.Resub ≡ owner.Try (name_at requests q) 0 = sym r.1 ∙ same in cc)
    ])
    (λ f. (f, one_name (name_at requests p) (name_at requests q) (sym (owner_below requests p f) ∙ same)))
  where
    one_name : (m n : ℕ) → owner.Try m 0 ≡ owner.Try n 0 → m ≡ n
    one_name m n e = cc
