-- What a step of one seat changes in the counts.
use Rattle.std.proofs.Common.{◌≡◌, ◌≢◌, ◌⊎◌, ℕ, suc, ◌+◌, ◌^◌, ◌<◌, ◌≤◌, List, [], ◌∷◌, length, set, sym, ap, ◌∙◌, subst, ⊎_elim, arith}
use mathlib.Core.Option.{some}
use Rattle.driver_model.specs.declared.event.Event.{Event}
use Rattle.shared_session.specs.declared.session.Failure.TheVariants.{Sound}
use mathlib.Core.List.{IsPrefix}
use lib.ListN.{get_elem?}
use Rattle.atomic_table.proofs.Lists.{at_set}
use Rattle.session_callers.specs.declared.board.View.{View}
use Rattle.session_callers.specs.declared.board.Ended.{Ended}
use Rattle.session_callers.specs.Rule.{total, below, between, has, draws, more, numbered, callers, owns, claimed, makes, Now, InTurn, Each, FitsEnded, Fits, Counted}
use Rattle.session_callers.proofs.Totals.{total_set, total_up, between_up, prefix_of, prefix_length}

-- how the counts of a view may change
pub record Delta (ticket : ℕ) (now : Now) (ticket' : ℕ) (now' : Now) (v w : View) : Type 0 where
  pub drawn : draws w.stage + ticket + now'.serving ≡ draws v.stage + ticket' + now.serving
  pub tickets : (n : ℕ) → has n w.stage + below n ticket + below n now'.serving ≡ has n v.stage + below n ticket' + below n now.serving
  pub callers_stay : callers w ≡ callers v
  pub numbers_stay : (n : ℕ) → numbered n w ≡ numbered n v
  pub count_stays : now'.made + more w.stage ≡ now.made + more v.stage
  pub makers : (m : ℕ) → m < now'.made → ((m < now.made) × (makes m v ≤ makes m w)) ⊎ (makes m v + 1 ≤ makes m w)
  pub positions : (p : ℕ) → owns p w + below p (length now.log) ≡ owns p v + below p (length now'.log)
  pub claims : (g : ℕ) → claimed (suc g) w + below g now.dial ≡ claimed (suc g) v + below g now'.dial
  pub no_claim : claimed 0 w ≡ claimed 0 v

pub counted_set : (ticket : ℕ) (now : Now) (views : List View) → Counted ticket now views → (id : ℕ) (v w : View) → get_elem? views id ≡ some v
    → (ticket' : ℕ) (now' : Now) → now'.most ≡ now.most → Delta ticket now ticket' now' v w → Counted ticket' now' (set views id w)
counted_set ticket now views c id v w at ticket' now' same_most d = record {
  drawn = let a = total_set (λ (v : View). draws v.stage) views id v w at in let b = c.drawn in let e = d.drawn in omega arith;
  tickets = λ n. let a = total_set (λ (v : View). has n v.stage) views id v w at in let b = c.tickets n in let e = d.tickets n in omega arith;
  callers = let a = total_set callers views id v w at in let b = c.callers in let e = d.callers_stay in let f = count in omega arith;
  numbers = λ n. let a = total_set (numbered n) views id v w at in let b = c.numbers n in let e = d.numbers_stay n in let f = ap (below n) count in omega arith;
  few = let a = count in let b = c.few in omega (arith, a, b, same_most);
  limit = subst (λ (n : ℕ). n < 2 ^ 32) (sym same_most) c.limit;
  makers = λ m from to. let a = total_set (makes m) views id v w at in ⊎_elim
      (λ (h : (m < now.made) × (makes m v ≤ makes m w)). let b = c.makers m from h.0 in let e = h.1 in omega arith)
      (λ (h : makes m v + 1 ≤ makes m w). omega arith)
      (d.makers m to);
  positions = λ p. let a = total_set (owns p) views id v w at in let b = c.positions p in let e = d.positions p in omega arith;
  claims = λ g. let a = total_set (claimed (suc g)) views id v w at in let b = c.claims g in let e = d.claims g in omega arith;
  no_claim = let a = total_set (claimed 0) views id v w at in let b = c.no_claim in let e = d.no_claim in omega arith;
}
  where
    count : now'.made + total (λ (v : View). more v.stage) (set views id w) ≡ now.made + total (λ (v : View). more v.stage) views
    count = let a = total_set (λ (v : View). more v.stage) views id v w at in let e = d.count_stays in omega arith

pub each_set : (K : View → Type 0) (vs : List View) (id : ℕ) (w : View) → K w → ((j : ℕ) (u : View) → j ≢ id → get_elem? vs j ≡ some u → K u) → (j : ℕ) (u : View) → get_elem? (set vs id w) j ≡ some u → K u
each_set K vs id w mine others j u e = ⊎_elim (λ (t : (j ≡ id) × (w ≡ u)). subst K t.1 mine) (λ (t : (j ≢ id) × (get_elem? vs j ≡ some u)). others j u t.0 t.1) (at_set vs id j w u e)

-- more is known than before
pub record Later (now now' : Now) : Type 0 where
  pub log : IsPrefix now.log now'.log
  pub config : (now'.config ≡ now.config) × (now'.word ≡ now.word) × (now'.most ≡ now.most)
  pub mark : now.mark ≢ Sound → now'.mark ≡ now.mark
  pub made : now.made ≤ now'.made
  pub dial : now.dial ≤ now'.dial

pub ended_later : (now now' : Now) → Later now now' → (es : List Ended) → Each (FitsEnded now) es → Each (FitsEnded now') es
ended_later now now' l [] h = tt
ended_later now now' l (e ∷ es) h = (
  record {
    front = let a = h.0.front in let b = prefix_length now.log now'.log l.log in omega arith;
    mine = h.0.mine;
    made = let a = h.0.made in let b = l.made in omega arith;
  },
  ended_later now now' l es h.1,
)

pub fronts_later : (now now' : Now) → Later now now' → (xs : List (List Event)) → Each (λ (x : List Event). IsPrefix x now.log) xs → Each (λ (x : List Event). IsPrefix x now'.log) xs
fronts_later now now' l [] h = tt
fronts_later now now' l (x ∷ xs) h = (prefix_of x now.log now'.log h.0 l.log, fronts_later now now' l xs h.1)

pub fits_later : (now now' : Now) (u : View) → Later now now' → Fits now u → InTurn now' u u.stage → Fits now' u
fits_later now now' u l f turn = record {
  seen = prefix_of u.seen now.log now'.log f.seen l.log;
  turn = turn;
  mine = f.mine;
  config = λ one. (let c = f.config one in (c.0 ∙ sym l.config.0, c.1 ∙ sym l.config.1, c.2 ∙ sym l.config.2));
  failure = λ n. (let is = f.failure n in l.mark (λ e. n (sym is ∙ e)) ∙ is);
  made = let a = f.made in let b = l.made in omega arith;
  dial = let a = f.dial in let b = l.dial in omega arith;
  caller = f.caller;
  single = f.single;
  ended = ended_later now now' l u.ended f.ended;
  nothing = f.nothing;
  fronts = fronts_later now now' l u.fronts f.fronts;
}

pub makes_up : (m : ℕ) (v : View) (made : ℕ) → v.made ≤ made → makes m v ≤ makes m (record v { made = made })
makes_up m v made le = let a = total_up (λ n. between n m v.made) (λ n. between n m made) v.number (λ n. between_up n m v.made made le) in omega arith
