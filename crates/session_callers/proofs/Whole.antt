-- Where one seat has all callers, the session is at home, and each position is that seat's.
use Rattle.std.proofs.Common.{◌≡◌, ◌≢◌, ◌⊎◌, ℕ, zero, suc, ◌+◌, ◌-◌, ◌^◌, ◌<◌, ◌≤◌, List, [], ◌∷◌, ◌++◌, length, map, Option, Some, None, refl, sym, ap, ◌∙◌, subst, ⊎_elim, inl, inr, arith, zero-le}
use Rattle.driver_model.specs.declared.event.Event.{Event}
use Rattle.shared_session.specs.History.{History}
use mathlib.Core.Option.{some, some-ne-none, some-injective}
use mathlib.Core.List.{IsPrefix}
use native.Mathlib.Decide.{ℕ_discrete, dec_le}
use lib.ListN.{get_elem?}
use Rattle.atomic_table.specs.Table.{State}
use Rattle.session_callers.specs.declared.board.Home.{Home}
use Rattle.session_callers.specs.declared.board.View.{View}
use Rattle.session_callers.specs.declared.board.Ended.{Ended}
use Rattle.session_callers.specs.declared.board.Stage.{Stage}
use Rattle.session_callers.specs.declared.board.Stage.TheVariants.{Idle, Waiting, Served, Holding, Split}
use Rattle.session_callers.specs.Rule.{MaySpend, total, same, below, between, times, draws, out, more, numbered, callers, owns, claimed, makes, InTurn, Each, Ruled}
use Rattle.session_callers.proofs.Totals.{each_counted, total_at, total_two, total_le, total_append, below_up, same_self}

-- f of each number below b, added up
abbrev upto : (ℕ → ℕ) → ℕ → ℕ
upto f zero = 0
upto f (suc b) = upto f b + f b

upto_add : (f g : ℕ → ℕ) (b : ℕ) → upto (λ n. f n + g n) b ≡ upto f b + upto g b
upto_add f g zero = refl
upto_add f g (suc b) = let r = upto_add f g b in omega arith

upto_same : (x b : ℕ) → upto (λ n. same n x) b ≡ below x b
upto_same x zero = omega arith
upto_same x (suc b) = let r = upto_same x b in let u = below_up x b in omega arith

upto_none : (b : ℕ) → upto (λ n. 0) b ≡ 0
upto_none zero = refl
upto_none (suc b) = let r = upto_none b in omega arith

upto_times : (xs : List ℕ) (b : ℕ) → Each (λ (n : ℕ). n < b) xs → upto (λ n. times n xs) b ≡ length xs
upto_times [] b h = upto_none b
upto_times (x ∷ xs) b h = let r = upto_times xs b h.1 in let a = upto_add (λ n. same n x) (λ n. times n xs) b in let c = upto_same x b in let d = h.0 in omega arith

upto_most : (f : ℕ → ℕ) (b : ℕ) → ((n : ℕ) → f n ≤ 1) → upto f b ≤ b
upto_most f zero h = zero-le
upto_most f (suc b) h = let r = upto_most f b h in let a = h b in omega arith

upto_full : (f : ℕ → ℕ) (b : ℕ) → ((n : ℕ) → f n ≤ 1) → b ≤ upto f b → (n : ℕ) → n < b → f n ≡ 1
upto_full f zero h full n lt = absurd (omega arith)
upto_full f (suc b) h full n lt = go (upto_full f b h (let c = h b in omega arith) n) (ℕ_discrete n b)
  where
    most : upto f b ≤ b
    most = upto_most f b h

    go : (n < b → f n ≡ 1) → Dec (n ≡ b) → f n ≡ 1
    go low (yes e) = let a = most in let c = h b in ap f e ∙ omega arith
    go low (no d) = low (omega arith)

abbrev pub numbers_of : View → List ℕ
numbers_of v = v.number ++ map (λ (e : Ended). e.number) v.ended

pub each_map : (m : ℕ) (es : List Ended) → Each (λ (e : Ended). e.number < m) es → Each (λ (n : ℕ). n < m) (map (λ (e : Ended). e.number) es)
each_map m [] h = tt
each_map m (e ∷ es) h = (h.0, each_map m es h.1)

total_map : {A B : Type 0} (f : A → B) (g : B → ℕ) (l : List A) → total g (map f l) ≡ total (λ a. g (f a)) l
total_map f g [] = refl
total_map f g (x ∷ xs) = let r = total_map f g xs in omega arith

length_map : {A B : Type 0} (f : A → B) (l : List A) → length (map f l) ≡ length l
length_map f [] = refl
length_map f (x ∷ xs) = let r = length_map f xs in omega arith

numbered_is : (n : ℕ) (v : View) → times n (numbers_of v) ≡ numbered n v
numbered_is n v = let a = total_append (same n) v.number (map (λ (e : Ended). e.number) v.ended) in let b = total_map (λ (e : Ended). e.number) (same n) v.ended in omega arith

callers_is : (v : View) → length (numbers_of v) ≡ callers v
callers_is v = Rattle.std.proofs.Common.length-append v.number (map (λ (e : Ended). e.number) v.ended) ∙ ap (λ n. length v.number + n) (length_map (λ (e : Ended). e.number) v.ended)

total_none : {A : Type 0} (f : A → ℕ) (l : List A) → ((j : ℕ) (u : A) → get_elem? l j ≡ some u → f u ≡ 0) → total f l ≡ 0
total_none f [] h = refl
total_none f (x ∷ xs) h = let a = h 0 x refl in let r = total_none f xs (λ j u e. h (suc j) u e) in omega arith

-- only one has any
total_only : {A : Type 0} (f : A → ℕ) (l : List A) (i : ℕ) (v : A) → get_elem? l i ≡ some v → ((j : ℕ) (u : A) → j ≢ i → get_elem? l j ≡ some u → f u ≡ 0) → total f l ≡ f v
total_only f [] i v e h = absurd (some-ne-none v (sym e))
total_only f (x ∷ xs) zero v e h = let a : f x ≡ f v = ap f (some-injective x v e) in let r = total_none f xs (λ j u e. h (suc j) u (λ z. omega arith) e) in omega arith
total_only f (x ∷ xs) (suc i) v e h = let a = h 0 x (λ z. omega arith) refl in let r = total_only f xs i v e (λ j u d e. h (suc j) u (λ z. d (omega arith)) e) in omega arith

-- a view with no number below m shows no maker of m
none_makes : (m b : ℕ) (ns : List ℕ) → ((n : ℕ) → n < m → times n ns ≡ 0) → total (λ n. between n m b) ns ≡ 0
none_makes m b [] h = refl
none_makes m b (n ∷ ns) h = go (none_makes m b ns (λ k lt. let a = h k lt in omega arith)) (dec_le (suc n) m)
  where
    go : total (λ n. between n m b) ns ≡ 0 → Dec (suc n ≤ m) → total (λ n. between n m b) (n ∷ ns) ≡ 0
    go r (yes lt) = let a = h n lt in let s = same_self n in absurd (omega arith)
    go r (no ge) = omega arith

none_makes_ended : (m : ℕ) (es : List Ended) → ((n : ℕ) → n < m → total (λ (e : Ended). same n e.number) es ≡ 0) → total (λ (e : Ended). between e.number m e.made) es ≡ 0
none_makes_ended m [] h = refl
none_makes_ended m (e ∷ es) h = go (none_makes_ended m es (λ k lt. let a = h k lt in omega arith)) (dec_le (suc e.number) m)
  where
    go : total (λ (e : Ended). between e.number m e.made) es ≡ 0 → Dec (suc e.number ≤ m) → total (λ (e : Ended). between e.number m e.made) (e ∷ es) ≡ 0
    go r (yes lt) = let a = h e.number lt in let s = same_self e.number in absurd (omega arith)
    go r (no ge) = omega arith

-- who has seen no more than m callers made shows no maker of m
late_makes : (m b : ℕ) (ns : List ℕ) → b ≤ m → total (λ n. between n m b) ns ≡ 0
late_makes m b [] le = refl
late_makes m b (n ∷ ns) le = let r = late_makes m b ns le in omega arith

late_makes_ended : (m : ℕ) (es : List Ended) → Each (λ (e : Ended). e.made ≤ m) es → total (λ (e : Ended). between e.number m e.made) es ≡ 0
late_makes_ended m [] h = refl
late_makes_ended m (e ∷ es) h = let a = h.0 in let r = late_makes_ended m es h.1 in omega arith

module _ (s : State (Option Home) View) (r : Ruled s) (id : ℕ) (v : View) (at : get_elem? s.views id ≡ some v) (home : out v.stage ≡ 0)
    (m : ℕ) (all : m ≤ callers v) (low : Each (λ (n : ℕ). n < m) (numbers_of v)) (some_caller : 1 ≤ m) (made : v.made ≤ m) (made_ended : Each (λ (e : Ended). e.made ≤ m) v.ended) where
  once : (n : ℕ) → numbered n v ≤ 1
  once n = let a = r.counted.numbers n in let b = total_at (numbered n) s.views id v at in omega arith

  has_all : (n : ℕ) → n < m → numbered n v ≡ 1
  has_all n lt = sym (numbered_is n v) ∙ upto_full (λ k. times k (numbers_of v)) m (λ k. let a = numbered_is k v in let b = once k in omega arith) (let a = upto_times (numbers_of v) m low in let b = callers_is v in omega arith) n lt

  -- another seat has none of these callers
  other_has_none : (j : ℕ) (u : View) → j ≢ id → get_elem? s.views j ≡ some u → (n : ℕ) → n < m → numbered n u ≡ 0
  other_has_none j u apart e n lt = let a = r.counted.numbers n in let b = total_two (numbered n) s.views j id u v apart e at in let c = has_all n lt in omega arith

  no_maker : (j : ℕ) (u : View) → get_elem? s.views j ≡ some u → makes m u ≡ 0
  no_maker j u e = go (ℕ_discrete j id)
    where
      go : Dec (j ≡ id) → makes m u ≡ 0
      go (yes same_one) =
          let is : v ≡ u = some-injective v u (sym at ∙ ap (get_elem? s.views) (sym same_one) ∙ e) in
          subst (λ (u : View). makes m u ≡ 0) is (let a = late_makes m v.made v.number made in let b = late_makes_ended m v.ended made_ended in omega arith)
      go (no apart) =
          let a = none_makes m u.made u.number (λ n lt. let b = other_has_none j u apart e n lt in omega arith) in
          let b = none_makes_ended m u.ended (λ n lt. let b = other_has_none j u apart e n lt in omega arith) in omega arith

  made_most : r.now.made ≤ m
  made_most = go (dec_le (suc m) r.now.made)
    where
      go : Dec (suc m ≤ r.now.made) → r.now.made ≤ m
      go (yes gt) = let a = r.counted.makers m some_caller gt in let b = total_none (makes m) s.views no_maker in absurd (omega arith)
      go (no le) = omega arith

  -- a seat that is served has a caller that was made, and so is the one
  none_served : (j : ℕ) (u : View) → j ≢ id → get_elem? s.views j ≡ some u → 1 ≤ length u.number → Each (λ (n : ℕ). n < r.now.made) u.number → ⊥
  none_served j u apart e one low = go u.number refl one low
    where
      go : (ns : List ℕ) → u.number ≡ ns → 1 ≤ length ns → Each (λ (n : ℕ). n < r.now.made) ns → ⊥
      go [] is one low = omega arith
      go (n ∷ ns) is one low =
          let a = low.0 in let b = made_most in let c = other_has_none j u apart e n (omega arith) in
          let d : times n u.number ≡ same n n + times n ns = ap (times n) is in let f = same_self n in omega arith

  none_out : (j : ℕ) (u : View) → get_elem? s.views j ≡ some u → out u.stage ≡ 0
  none_out j u e = go (ℕ_discrete j id)
    where
      stages : (x : Stage) → u.stage ≡ x → InTurn r.now u x → j ≢ id → out x ≡ 0
      stages Idle is h apart = refl
      stages (Waiting t) is h apart = refl
      stages (Served t) is h apart = refl
      stages (Holding t) is h apart = absurd (none_served j u apart e (let a = (r.each j u e).caller in let b : draws u.stage ≡ 1 = ap draws is in omega arith) (subst (λ b. Each (λ (n : ℕ). n < b) u.number) h.3 h.4))
      stages (Split t) is h apart = absurd (none_served j u apart e (let a = (r.each j u e).caller in let b : draws u.stage ≡ 1 = ap draws is in omega arith) (subst (λ b. Each (λ (n : ℕ). n < b) u.number) h.3 h.4))

      go : Dec (j ≡ id) → out u.stage ≡ 0
      go (yes same_one) = let is : v ≡ u = some-injective v u (sym at ∙ ap (get_elem? s.views) (sym same_one) ∙ e) in ap (λ (u : View). out u.stage) (sym is) ∙ home
      go (no apart) = stages u.stage refl (r.each j u e).turn apart

  more_out : (x : Stage) → more x ≤ out x
  more_out Idle = omega arith
  more_out (Waiting t) = omega arith
  more_out (Served t) = omega arith
  more_out (Holding t) = omega arith
  more_out (Split t) = omega arith

  none_more : total (λ (v : View). more v.stage) s.views ≡ 0
  none_more = let a = total_le (λ (v : View). more v.stage) (λ (v : View). out v.stage) s.views (λ j u e. more_out u.stage) in let b = total_none (λ (v : View). out v.stage) s.views none_out in omega arith

  -- another seat has no caller
  no_caller : (j : ℕ) (u : View) → j ≢ id → get_elem? s.views j ≡ some u → length u.number ≡ 0
  no_caller j u apart e = go u.number refl
    where
      go : (ns : List ℕ) → u.number ≡ ns → length u.number ≡ 0
      go [] is = ap length is
      go (n ∷ ns) is =
          let d : times n u.number ≡ same n n + times n ns = ap (times n) is in let f = same_self n in
          let a = r.counted.numbers n in let b = total_at (numbered n) s.views j u e in let c = made_most in let g = none_more in
          let h : below n (r.now.made + total (λ (v : View). more v.stage) s.views) ≡ below n (r.now.made + 0) = ap (λ k. below n (r.now.made + k)) g in
          let i = other_has_none j u apart e n (omega arith) in absurd (omega arith)

  owns_none : (p j : ℕ) (u : View) → j ≢ id → get_elem? s.views j ≡ some u → owns p u ≡ 0
  owns_none p j u apart e =
      let n = (r.each j u e).nothing (no_caller j u apart e) in
      let a : times p u.mine ≡ 0 = ap (times p) n.0 in
      let b : total (λ (e : Ended). times p e.mine) u.ended ≡ 0 = ap (total (λ (e : Ended). times p e.mine)) n.1 in omega arith

  claims_none : (g j : ℕ) (u : View) → j ≢ id → get_elem? s.views j ≡ some u → claimed g u ≡ 0
  claims_none g j u apart e =
      let n = (r.each j u e).nothing (no_caller j u apart e) in
      let a : times g u.claims ≡ 0 = ap (times g) n.2 in
      let b : total (λ (e : Ended). times g e.claims) u.ended ≡ 0 = ap (total (λ (e : Ended). times g e.claims)) n.1 in omega arith

  -- each number of the dial is its own
  pub claims_all : (n : ℕ) → claimed n v ≡ between 0 n (suc r.now.dial)
  claims_all zero = let a = total_only (claimed 0) s.views id v at (claims_none 0) in let b = r.counted.no_claim in omega arith
  claims_all (suc g) = let a = total_only (claimed (suc g)) s.views id v at (claims_none (suc g)) in let b = r.counted.claims g in omega arith

  pub closes : (h : Home) × (s.homes ≡ some (Some h) ∷ []) × IsPrefix v.seen h.session.events × Each (λ (x : List Event). IsPrefix x h.session.events) v.fronts × ((p : ℕ) → owns p v ≡ below p (length h.session.events))
      × (1 ≤ length v.number → (h.session.config ≡ v.config) × (h.session.word ≡ v.word)) × MaySpend h.session.config h.session.word h.session.events h.session.failure
  closes = ⊎_elim
      (λ p. let events : h_events p.0 ≡ r.now.log = ap (λ s. s.events) p.2 in (
        p.0,
        p.1,
        subst (IsPrefix v.seen) (sym events) (r.each id v at).seen,
        subst (λ l. Each (λ (x : List Event). IsPrefix x l) v.fronts) (sym events) (r.each id v at).fronts,
        (λ q. sym (total_only (owns q) s.views id v at (owns_none q)) ∙ r.counted.positions q ∙ ap (λ l. below q (length l)) (sym events)),
        (λ one. let of = (r.each id v at).config one in (ap (λ s. s.config) p.2 ∙ sym of.0, ap (λ s. s.word) p.2 ∙ sym of.1)),
        subst (λ (s : History). MaySpend s.config s.word s.events s.failure) (sym p.2) r.spent,
      ))
      (λ p. let a = total_none (λ (v : View). out v.stage) s.views none_out in let b = p.1 in absurd (omega arith))
      r.place
    where
      h_events : Home → List Event
      h_events h = h.session.events

upto_alike : (f g : ℕ → ℕ) (b : ℕ) → ((n : ℕ) → f n ≡ g n) → upto f b ≡ upto g b
upto_alike f g zero h = refl
upto_alike f g (suc b) h = let r = upto_alike f g b h in let a = h b in omega arith

upto_below : (b c : ℕ) → c ≤ b → upto (λ n. below n b) c ≡ c
upto_below b zero le = refl
upto_below b (suc c) le = let r = upto_below b c (omega arith) in omega arith

-- of numbers that are those below a bound, each once, there are as many
pub length_counted : (xs : List ℕ) (b : ℕ) → ((n : ℕ) → times n xs ≡ below n b) → length xs ≡ b
length_counted xs b once =
    sym (upto_times xs b (each_counted xs b (λ n. let a = once n in omega arith))) ∙ upto_alike (λ n. times n xs) (λ n. below n b) b once ∙ upto_below b b (omega arith)
