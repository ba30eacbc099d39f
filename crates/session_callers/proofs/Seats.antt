-- Splitting and joining seats keeps the rule.
use Rattle.std.proofs.Common.{◌≡◌, ℕ, suc, ◌+◌, ◌-◌, ◌≤◌, List, [], ◌∷◌, ◌++◌, length, set, refl, sym, ap, ◌∙◌, subst, ⊎_elim, arith, zero-le, length-append, Bool, true, false}
use Rattle.std.specs.Prelude.{if◌then◌else◌, ◌==◌}
use Rattle.driver_model.specs.declared.event.Event.{Event}
use Rattle.shared_session.specs.declared.session.Failure.TheVariants.{Sound, Spent}
use mathlib.Core.Option.{some}
use mathlib.Core.List.{IsPrefix}
use lib.ListN.{get_elem?}
use Rattle.std.proofs.lemmas.Bool.Decides.{nat_tests}
use Rattle.atomic_table.specs.Table.{Splits, Joins}
use Rattle.atomic_table.proofs.Lists.{at_snoc, set_else}
use Rattle.session_callers.specs.declared.board.View.{View}
use Rattle.session_callers.specs.declared.board.Ended.{Ended}
use Rattle.session_callers.specs.declared.board.Stage.{Stage}
use Rattle.session_callers.specs.declared.board.Stage.TheVariants.{Idle, Waiting, Served, Holding, Split}
use Rattle.session_callers.specs.Rule.{total, same, below, between, times, has, draws, out, more, numbered, callers, owns, claimed, makes, InTurn, Each, FitsEnded, Fits, IsPlaced, Ruled, ticket_of, nobody, longer, as_ended, joined, left_of, right_of, submissions_in}
use Rattle.session_callers.proofs.Totals.{each_append, total_set, total_gap, total_last, total_append, prefix_length, ascends_up, below_up}
use Rattle.session_callers.proofs.Counts.{each_set}
use Rattle.session_callers.proofs.Moves.{away, served_one, single_if}

more_out : (x : Stage) → more x ≤ out x
more_out Idle = omega arith
more_out (Waiting t) = omega arith
more_out (Served t) = omega arith
more_out (Holding t) = omega arith
more_out (Split t) = omega arith

-- split seat
pub splits : (id : ℕ) (v : View) (t : ℕ) → v.stage ≡ Holding t → v.made + 1 ≤ v.most → Splits Ruled id v (left_of v) (right_of v)
splits id v t is room s r at =
    let w = left_of v in
    let x = right_of v in
    let mine = r.each id v at in
    let all = served_one s r id v t (Holding t) at is (λ k. k) (λ n. refl) in
    let k = all.0 in
    let made_is : v.made ≡ r.now.made = k.3 in
    let is_t : ticket_of v.stage ≡ t = ap ticket_of is in
    let has_t : (n : ℕ) → has n v.stage ≡ same n t = λ n. ap (has n) is in
    let is_out : out v.stage ≡ 1 = ap out is in
    let one_draw : draws v.stage ≡ 1 = ap draws is in
    let one_caller : 1 ≤ length v.number = let a = mine.caller in omega arith in
    let not_more : more v.stage ≡ 0 = ap more is in
    let is_away = away s r id v at is_out in
    let gap = total_gap (λ (v : View). more v.stage) (λ (v : View). out v.stage) s.views id v at (λ j u e. more_out u.stage) in
    let one_away = is_away.1 in
    let none_more : total (λ (v : View). more v.stage) s.views ≡ 0 = omega arith in
    let sum : (f : View → ℕ) → total f (set s.views id w ++ x ∷ []) + f v ≡ total f s.views + f w + f x
    = λ f. let a = total_last f (set s.views id w) x in let b = total_set f s.views id v w at in omega arith in
    let now_more : total (λ (v : View). more v.stage) (set s.views id w ++ x ∷ []) ≡ 1 = let a = sum (λ (v : View). more v.stage) in omega arith in
    record {
      ticket = r.ticket;
      now = r.now;
      words = r.words;
      counted = record {
        drawn = let a = sum (λ (v : View). draws v.stage) in let b = r.counted.drawn in omega arith;
        tickets = λ n. let a = sum (λ (v : View). has n v.stage) in let b = r.counted.tickets n in let c = has_t n in let d : same n (ticket_of v.stage) ≡ same n t = ap (same n) is_t in omega arith;
        callers = let a = sum callers in let b = r.counted.callers in omega arith;
        numbers = λ n. let a = sum (numbered n) in let b = r.counted.numbers n in
            let c : below n (r.now.made + total (λ (v : View). more v.stage) s.views) ≡ below n r.now.made = ap (λ k. below n (r.now.made + k)) none_more ∙ omega arith in
            let d : below n (r.now.made + total (λ (v : View). more v.stage) (set s.views id w ++ x ∷ [])) ≡ below n (r.now.made + 1) = ap (λ k. below n (r.now.made + k)) now_more in
            let e : same n v.made ≡ same n r.now.made = ap (same n) made_is in omega (arith, below_up n r.now.made);
        few = subst (λ k. r.now.made + k ≤ r.now.most) (sym now_more) (let a = (mine.config one_caller).2 in omega arith);
        limit = r.counted.limit;
        makers = λ m from to. let a = sum (makes m) in let b = r.counted.makers m from to in omega arith;
        positions = λ p. let a = sum (owns p) in let b = r.counted.positions p in omega arith;
        claims = λ g. let a = sum (claimed (suc g)) in let b = r.counted.claims g in omega arith;
        no_claim = let a = sum (claimed 0) in let b = r.counted.no_claim in omega arith;
      };
      spent = r.spent;
      place = subst (IsPlaced r.now s.homes) (let a = sum (λ (v : View). out v.stage) in omega arith) r.place;
      each = λ j u e. ⊎_elim
          (λ was. each_set (Fits r.now) s.views id w
          (record { seen = mine.seen; turn = (is_t ∙ k.0, k.1, k.2, k.3, k.4); mine = mine.mine; config = mine.config; failure = mine.failure; made = mine.made; dial = mine.dial; caller = subst (λ x. draws x ≤ length v.number) is mine.caller; single = single_if v w.stage mine.single one_draw; ended = mine.ended; nothing = mine.nothing; fronts = mine.fronts })
          (λ j u _ e. r.each j u e) j u was)
          (λ (same : x ≡ u). subst (Fits r.now) same
          (record { seen = mine.seen; turn = tt; mine = zero-le; config = λ _. mine.config one_caller; failure = λ n. absurd (n refl); made = zero-le; dial = mine.dial; caller = zero-le; single = λ _. refl; ended = tt; nothing = λ e. absurd (omega arith); fronts = tt }))
          (at_snoc (set s.views id w) x u j e);
    }

abbrev longer_if : List Event → List Event → Bool → List Event
longer_if xs ys b = if b then ys else xs

longer_prefix : (xs ys log : List Event) → IsPrefix xs log → IsPrefix ys log → IsPrefix (longer xs ys) log
longer_prefix xs ys log p q = go (length xs - length ys == 0)
  where
    go : (b : Bool) → IsPrefix (longer_if xs ys b) log
    go true = q
    go false = p

longer_left : (xs ys : List Event) → length xs ≤ length (longer xs ys)
longer_left xs ys = go (length xs - length ys == 0) refl
  where
    go : (b : Bool) → (length xs - length ys == 0) ≡ b → length xs ≤ length (longer_if xs ys b)
    go true e = grind (arith, nat_tests)
    go false e = omega arith

-- join seat
pub joins : (id : ℕ) (v : View) (other : ℕ) (w : View) (k : ℕ) → v.stage ≡ Idle → w.stage ≡ Idle → 1 ≤ length v.number → w.number ≡ k ∷ [] → Joins Ruled id v other w (joined v w) nobody
joins id v other w k v_idle w_idle caller one s r at apart there =
    let x = joined v w in
    let mine = r.each id v at in
    let other_at : get_elem? s.views other ≡ some w = sym (set_else s.views id other x apart) ∙ there in
    let theirs = r.each other w other_at in
    let views' = set (set s.views id x) other nobody in
    let sum : (f : View → ℕ) → total f views' + f v + f w ≡ total f s.views + f x + f nobody
    = λ f. let a = total_set f s.views id v x at in let b = total_set f (set s.views id x) other w nobody there in omega arith in
    let ended_is : as_ended w w.number ≡ record { number = k; made = w.made; front = length w.seen; mine = w.mine; claims = w.claims } ∷ [] = ap (as_ended w) one in
    let inner : (f : Ended → ℕ) → total f x.ended ≡ total f v.ended + (f record { number = k; made = w.made; front = length w.seen; mine = w.mine; claims = w.claims } + total f w.ended)
    = λ f. total_append f v.ended (as_ended w w.number ++ w.ended) ∙ ap (λ l. total f v.ended + total f (l ++ w.ended)) ended_is in
    let count : length x.ended ≡ length v.ended + (length w.ended + 1)
    = length-append v.ended (as_ended w w.number ++ w.ended) ∙ ap (λ l. length v.ended + length (l ++ w.ended)) ended_is ∙ omega arith in
    let numbers_one : length w.number ≡ 1 = ap length one in
    let idle_v : draws v.stage ≡ 0 = ap draws v_idle in
    let idle_w : draws w.stage ≡ 0 = ap draws w_idle in
    let more_is : total (λ (v : View). more v.stage) views' ≡ total (λ (v : View). more v.stage) s.views = let a = sum (λ (v : View). more v.stage) in let b : more w.stage ≡ 0 = ap more w_idle in omega arith in
    record {
      ticket = r.ticket;
      now = r.now;
      words = r.words;
      counted = record {
        drawn = let a = sum (λ (v : View). draws v.stage) in let b = r.counted.drawn in omega arith;
        tickets = λ n. let a = sum (λ (v : View). has n v.stage) in let b = r.counted.tickets n in let c : has n w.stage ≡ 0 = ap (has n) w_idle in omega arith;
        callers = let a = sum callers in let b = r.counted.callers in omega arith;
        numbers = λ n. let a = sum (numbered n) in let b = r.counted.numbers n in let c = inner (λ (e : Ended). same n e.number) in
            let d : times n w.number ≡ same n k + 0 = ap (times n) one in let e = ap (λ (j : ℕ). below n (r.now.made + j)) more_is in omega arith;
        few = subst (λ (j : ℕ). r.now.made + j ≤ r.now.most) (sym more_is) r.counted.few;
        limit = r.counted.limit;
        makers = λ m from to. let a = sum (makes m) in let b = r.counted.makers m from to in let c = inner (λ (e : Ended). between e.number m e.made) in
            let d : total (λ (n : ℕ). between n m w.made) w.number ≡ between k m w.made + 0 = ap (total (λ (n : ℕ). between n m w.made)) one in omega arith;
        positions = λ p. let a = sum (owns p) in let b = r.counted.positions p in let c = inner (λ (e : Ended). times p e.mine) in omega arith;
        claims = λ g. let a = sum (claimed (suc g)) in let b = r.counted.claims g in let c = inner (λ (e : Ended). times (suc g) e.claims) in omega arith;
        no_claim = let a = sum (claimed 0) in let b = r.counted.no_claim in let c = inner (λ (e : Ended). times 0 e.claims) in omega arith;
      };
      spent = r.spent;
      place = subst (IsPlaced r.now s.homes) (let a = sum (λ (v : View). out v.stage) in let b : out w.stage ≡ 0 = ap out w_idle in omega arith) r.place;
      each = each_set (Fits r.now) (set s.views id x) other nobody
          (record { seen = (r.now.log, refl); turn = tt; mine = zero-le; config = λ one. absurd (omega arith); failure = λ n. absurd (n refl); made = zero-le; dial = zero-le; caller = zero-le; single = λ _. refl; ended = tt; nothing = λ _. (refl, refl, refl); fronts = tt })
          (λ j u _ e. each_set (Fits r.now) s.views id x
          (record {
            seen = longer_prefix v.seen w.seen r.now.log mine.seen theirs.seen;
            turn = subst (InTurn r.now x) (sym v_idle) tt;
            mine = ascends_up 0 v.mine (length v.seen) (length x.seen) (longer_left v.seen w.seen) mine.mine;
            config = mine.config;
            failure = mine.failure;
            made = mine.made;
            dial = let a = mine.dial in let b = theirs.dial in omega arith;
            caller = mine.caller;
            single = mine.single;
            ended = each_append (FitsEnded r.now) v.ended (as_ended w w.number ++ w.ended) mine.ended
                (subst (λ l. Each (FitsEnded r.now) (l ++ w.ended)) (sym ended_is) (record { front = prefix_length w.seen r.now.log theirs.seen; mine = theirs.mine; made = theirs.made }, theirs.ended));
            nothing = λ e. absurd (omega arith);
            fronts = (mine.seen, (theirs.seen, each_append (λ (x : List Event). IsPrefix x r.now.log) v.fronts w.fronts mine.fronts theirs.fronts));
          })
          (λ i y _ e'. r.each i y e') j u e);
    }

pub no_submissions : submissions_in [] ≡ 0
unfolding submissions_in
no_submissions = refl

pub not_spent : Sound ≡ Spent → ⊥
not_spent e = cc
