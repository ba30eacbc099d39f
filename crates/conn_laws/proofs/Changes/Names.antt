-- Each request has the name of a submission of its own.
use Rattle.std.proofs.Common.{◌≡◌, ◌≢◌, ◌≤◌, ℕ, zero, suc, arith, length-append, List, [], ◌∷◌, ◌++◌, length, Option, Some, None, slice_get, refl, sym, ap, ◌∙◌, true}
use Rattle.link_laws.proofs.Lists.{get_last}
use Rattle.mux_conn.specs.declared.request.Pending.{Pending}
use Rattle.mux_conn.specs.declared.request.Request.{Request}
use Rattle.mux_conn.specs.Requests.{is_open_at, name_at}
use Rattle.conn_laws.proofs.Changes.Lists.{get_push}
use Rattle.conn_laws.proofs.Changes.Requests.{names, name_there}

-- request p has the name n, and no other has it
pub record IsOwn (n p : ℕ) (ns : List ℕ) : Type 0 where
  pub own : slice_get ns p ≡ Some n
  pub only : (q : ℕ) → slice_get ns q ≡ Some n → q ≡ p

-- that request's name, where it is open
pub own_name : (n p : ℕ) (r : List Request) → IsOwn n p (names r) → is_open_at r p ≡ true → name_at r p ≡ n
own_name n p r h t = let there = name_there r p t in let own = h.own in cc

-- and that of another that is open
pub other_name : (n p q : ℕ) (r : List Request) → IsOwn n p (names r) → is_open_at r q ≡ true → q ≢ p → name_at r q ≢ n
other_name n p q r h t o = λ e. o (h.only q (name_there r q t ∙ ap Some e))

-- one item more
--
-- it stands last, or it was there before
push_cases : {X : Type 0} (xs : List X) (x y : X) (q : ℕ) (P : Type 0) → slice_get (xs ++ y ∷ []) q ≡ Some x → (slice_get xs q ≡ Some x → P) → (q ≡ length xs → y ≡ x → P) → P
push_cases [] x y zero P e before last = last refl cc
push_cases [] x y (suc q) P e before last = cc
push_cases (z ∷ xs) x y zero P e before last = before e
push_cases (z ∷ xs) x y (suc q) P e before last = push_cases xs x y q P e before (λ k s. last (ap suc k) s)

-- one more request, of another name
pub own_push : (n p m : ℕ) (ns : List ℕ) → m ≢ n → IsOwn n p ns → IsOwn n p (ns ++ m ∷ [])
own_push n p m ns o h = record {
  own = get_push ns p n m h.own;
  only = λ q e. push_cases ns n m q (q ≡ p) e (h.only q) (λ k s. absurd (o s));
}

-- tables
--
-- a submission that is a request is the one that the request is named by, and each name is that of such a submission; and there
-- are no more requests than submissions
pub record AreNamed (table : List (Option Pending)) (ns : List ℕ) : Type 0 where
  pub to : (n : ℕ) (p : Pending) → slice_get table n ≡ Some (Some p) → slice_get ns p.number ≡ Some n
  pub back : (q n : ℕ) → slice_get ns q ≡ Some n → slice_get table n ≡ Some (Some (record { number = q }))
  pub fewer : length ns ≤ length table

-- one request
same_pending : (p : Pending) (q : ℕ) → ◌≡◌ {A = Option (Option Pending)} (Some (Some p)) (Some (Some (record { number = q }))) → q ≡ p.number
same_pending p q e = cc

-- and its number
same_some : (k : ℕ) (p : Pending) → ◌≡◌ {A = Option Pending} (Some (record { number = k })) (Some p) → k ≡ p.number
same_some k p s = cc

-- a request of the table is the only one of its submission's name
pub own_of : (n : ℕ) (p : Pending) (table : List (Option Pending)) (ns : List ℕ) → AreNamed table ns → slice_get table n ≡ Some (Some p) → IsOwn n p.number ns
own_of n p table ns h e = record { own = h.to n p e; only = λ q k. same_pending p q (sym e ∙ h.back q n k) }

-- a submission that has no request
pub named_refused : (table : List (Option Pending)) (ns : List ℕ) → AreNamed table ns → AreNamed (table ++ None ∷ []) ns
named_refused table ns h = record {
  to = λ n p e. push_cases table (Some p) None n (slice_get ns p.number ≡ Some n) e (h.to n p) (λ k s. cc);
  back = λ q n e. get_push table n (Some (record { number = q })) None (h.back q n e);
  fewer = omega (arith, h.fewer, length-append table (None ∷ []));
}

-- a submission with a request of its name
pub named_asked : (table : List (Option Pending)) (ns : List ℕ) (k : ℕ) → length ns ≡ k → AreNamed table ns → AreNamed (table ++ Some (record { number = k }) ∷ []) (ns ++ length table ∷ [])
named_asked table ns k c h = record {
  to = λ n p e.
      push_cases table (Some p) (Some (record { number = k })) n (slice_get (ns ++ length table ∷ []) p.number ≡ Some n) e
      (λ b. get_push ns p.number n (length table) (h.to n p b))
      (λ l s. last_named p n l s);
  back = λ q n e.
      push_cases ns n (length table) q (slice_get (table ++ Some (record { number = k }) ∷ []) n ≡ Some (Some (record { number = q }))) e
      (λ b. get_push table n (Some (record { number = q })) (Some (record { number = k })) (h.back q n b))
      (λ l s. last_there q n l s);
  fewer = omega (arith, h.fewer, length-append table (Some (record { number = k }) ∷ []), length-append ns (length table ∷ []));
}
  where
    last_named : (p : Pending) (n : ℕ) → n ≡ length table → ◌≡◌ {A = Option Pending} (Some (record { number = k })) (Some p) → slice_get (ns ++ length table ∷ []) p.number ≡ Some n
    last_named p n l s =
        let number : p.number ≡ length ns = sym (same_some k p s) ∙ sym c in
        ap (slice_get (ns ++ length table ∷ [])) number ∙ get_last ns (length table) ∙ ap Some (sym l)

    last_there : (q n : ℕ) → q ≡ length ns → length table ≡ n → slice_get (table ++ Some (record { number = k }) ∷ []) n ≡ Some (Some (record { number = q }))
    last_there q n l s =
        ap (slice_get (table ++ Some (record { number = k }) ∷ [])) (sym s) ∙ get_last table (Some (record { number = k }))
        ∙ ap (λ (j : ℕ). Some (Some (record { number = j }))) (sym c ∙ sym l)
