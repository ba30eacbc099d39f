-- Callers that are made with their session: one seat has their numbers, and is cut into one for each.
use Rattle.std.proofs.Common.{◌≡◌, ℕ, zero, suc, ◌+◌, ◌-◌, ◌^◌, ◌<◌, ◌≤◌, List, [], ◌∷◌, ◌++◌, length, set, Some, refl, sym, ap, ◌∙◌, subst, ⊎_elim, inl, arith, zero-le, append_assoc}
use Rattle.driver_model.specs.declared.config.Config.{Config}
use Rattle.shared_session.specs.declared.session.Failure.TheVariants.{Sound}
use mathlib.Core.Option.{some, some-ne-none, some-injective}
use lib.ListN.{get_elem?}
use Rattle.atomic_table.specs.Seated.{TableId}
use Rattle.atomic_table.specs.Table.{Splits, opening}
use Rattle.atomic_table.proofs.Lists.{at_snoc}
use Rattle.session_callers.specs.declared.board.Home.{Home}
use Rattle.session_callers.specs.declared.board.View.{View}
use Rattle.session_callers.specs.declared.board.Stage.TheVariants.{Idle}
use Rattle.session_callers.specs.Rule.{total, same, below, between, times, has, draws, out, more, numbered, callers, owns, claimed, makes, Now, Sat, InTurn, Each, Fits, IsPlaced, Ruled, history, numbers_from, first_of, behind_first, rest_of, one_of, founder, founders}
use Rattle.session_callers.specs.Calls.{Known, founders_at}
use Rattle.session_callers.proofs.Totals.{total_set, total_last, below_up}
use Rattle.session_callers.proofs.Counts.{each_set}
use Rattle.session_callers.proofs.Seats.{no_submissions, not_spent}

numbers_once : (m count n : ℕ) → times n (numbers_from m count) + below n m ≡ below n (m + count)
numbers_once m zero n = let e : below n (m + 0) ≡ below n m = ap (below n) (let f : m + 0 ≡ m = omega arith in f) in omega arith
numbers_once m (suc count) n =
    let rest = numbers_once (suc m) count n in
    let up = below_up n m in
    let next : below n (m + 1) ≡ below n (suc m) = ap (below n) (let f : m + 1 ≡ suc m = omega arith in f) in
    let all : below n (suc m + count) ≡ below n (m + suc count) = ap (below n) (let f : suc m + count ≡ m + suc count = omega arith in f) in omega arith

pub numbers_count : (m count : ℕ) → length (numbers_from m count) ≡ count
numbers_count m zero = refl
numbers_count m (suc count) = let r = numbers_count (suc m) count in omega arith

pub next_number : (m count : ℕ) → 1 ≤ count → numbers_from m count ≡ m ∷ numbers_from (m + 1) (count - 1)
next_number m zero any = absurd (omega (arith, any))
next_number m (suc count) any = let up : suc m ≡ m + 1 = omega arith in let down : count ≡ suc count - 1 = omega arith in λ i. m ∷ numbers_from (up i) (down i)

-- what is cut off the seat of so many, and what is left of it
pub one_is : (config : Config) (word most made m count : ℕ) → 1 ≤ count → one_of (founders config word most made m count) ≡ founder config word most made m
one_is config word most made m count any = ap (λ (l : List ℕ). record (founder config word most made m) { number = first_of l }) (next_number m count any)

pub rest_is : (config : Config) (word most made m count : ℕ) → 1 ≤ count → rest_of (founders config word most made m count) ≡ founders config word most made (m + 1) (count - 1)
rest_is config word most made m count any = ap (λ (l : List ℕ). record (founder config word most made m) { number = behind_first l }) (next_number m count any)

pub last_is : (config : Config) (word most made m count : ℕ) → count ≡ 1 → founders config word most made m count ≡ founder config word most made m
last_is config word most made m count one = ap (founders config word most made m) one

pub next_founder : (z : TableId) (config : Config) (word made m count : ℕ) → 1 ≤ count
    → founders_at z config word made m count ≡ record { table = z; view = founder config word made made m } ∷ founders_at z config word made (m + 1) (count - 1)
next_founder z config word made m zero any = absurd (omega (arith, any))
next_founder z config word made m (suc count) any = let up : suc m ≡ m + 1 = omega arith in let down : count ≡ suc count - 1 = omega arith in
    λ i. record { table = z; view = founder config word made made m } ∷ founders_at z config word made (up i) (down i)

-- a seat that is that of founders, by what it knows itself
pub own_founders : (me : Sat) (config : Config) (word most made m count : ℕ) → me ≡ (founders config word most made m count, []) → me ≡ (founders me.0.config me.0.word most made m count, [])
own_founders me config word most made m count is = is ∙ (λ i. (founders (ap (λ (x : Sat). x.0.config) (sym is) i) (ap (λ (x : Sat). x.0.word) (sym is) i) most made m count, []))

pub own_founder : (me : Sat) (config : Config) (word most made m : ℕ) → me ≡ (founder config word most made m, []) → me ≡ (founder me.0.config me.0.word most made m, [])
own_founder me config word most made m is = is ∙ (λ i. (founder (ap (λ (x : Sat). x.0.config) (sym is) i) (ap (λ (x : Sat). x.0.word) (sym is) i) most made m, []))

pub as_known : (x : Known) (z : TableId) (v : View) → x.table ≡ z → x.view ≡ v → x ≡ record { table = z; view = v }
as_known x z v same_table same_view = λ i. record { table = same_table i; view = same_view i }

-- callers that were taken, and those that are left, are all: one more, and the last
module _ (z : TableId) (config : Config) (word made m count : ℕ) (xs all : List Known) (x : Known) (is : x ≡ record { table = z; view = founder config word made made m }) (whole : xs ++ founders_at z config word made m count ≡ all) where
  pub one_more : 1 ≤ count → (xs ++ x ∷ []) ++ founders_at z config word made (m + 1) (count - 1) ≡ all
  one_more any =
      let left = founders_at z config word made (m + 1) (count - 1) in
      append_assoc xs (x ∷ []) left ∙ ap (λ (y : Known). xs ++ (y ∷ left)) is ∙ ap (λ (l : List Known). xs ++ l) (sym (next_founder z config word made m count any)) ∙ whole

  pub last_one : count ≡ 1 → xs ++ x ∷ [] ≡ all
  last_one one = ap (λ (y : Known). xs ++ (y ∷ [])) is ∙ ap (λ (k : ℕ). xs ++ founders_at z config word made m k) (sym one) ∙ whole

-- each has what each founder of the table has
pub each_founder : (P : Known → Type 0) (z : TableId) (config : Config) (word made : ℕ) → ((m : ℕ) → P record { table = z; view = founder config word made made m }) → (m count : ℕ) → Each P (founders_at z config word made m count)
each_founder P z config word made has m zero = tt
each_founder P z config word made has m (suc count) = (has m, each_founder P z config word made has (suc m) count)

pub founders_count : (z : TableId) (config : Config) (word made m count : ℕ) → length (founders_at z config word made m count) ≡ count
founders_count z config word made m zero = refl
founders_count z config word made m (suc count) = let r = founders_count z config word made (suc m) count in omega arith

-- the first of them shows who made the others
first_makes : (m made count : ℕ) → 1 ≤ m → m < made → 1 ≤ count → 1 ≤ total (λ (n : ℕ). between n m made) (numbers_from 0 count)
first_makes m made zero low high any = absurd (omega (arith, any))
first_makes m made (suc count) low high any = omega (arith, low, high)

cuts : (id : ℕ) (v : View) (k : ℕ) (ks : List ℕ) → v.stage ≡ Idle → v.number ≡ k ∷ ks → 1 ≤ length ks → Splits Ruled id v (rest_of v) (one_of v)
cuts id v k ks idle is some_left s r at =
    let w = rest_of v in
    let x = one_of v in
    let mine = r.each id v at in
    let long : length v.number ≡ 1 + length ks = ap length is ∙ omega arith in
    let first_long : length x.number ≡ 1 = ap (λ (l : List ℕ). length (first_of l)) is in
    let rest : w.number ≡ ks = ap behind_first is in
    let rest_long : length w.number ≡ length ks = ap length rest in
    let one_caller : 1 ≤ length v.number = omega arith in
    let sum : (f : View → ℕ) → total f (set s.views id w ++ x ∷ []) + f v ≡ total f s.views + f w + f x
    = λ f. let a = total_last f (set s.views id w) x in let b = total_set f s.views id v w at in omega arith in
    let as_much : total (λ (v : View). more v.stage) (set s.views id w ++ x ∷ []) ≡ total (λ (v : View). more v.stage) s.views = let a = sum (λ (v : View). more v.stage) in omega arith in
    record {
      ticket = r.ticket;
      now = r.now;
      words = r.words;
      counted = record {
        drawn = let a = sum (λ (v : View). draws v.stage) in let b = r.counted.drawn in omega arith;
        tickets = λ n. let a = sum (λ (v : View). has n v.stage) in let b = r.counted.tickets n in omega arith;
        callers = let a = sum callers in let b = r.counted.callers in omega arith;
        numbers = λ n. let a = sum (numbered n) in let b = r.counted.numbers n in let c : times n v.number ≡ same n k + times n ks = ap (times n) is in let d : times n w.number ≡ times n ks = ap (times n) rest in
            let e : times n x.number ≡ same n k + 0 = ap (λ (l : List ℕ). times n (first_of l)) is in let f = ap (λ (j : ℕ). below n (r.now.made + j)) as_much in omega arith;
        few = subst (λ (j : ℕ). r.now.made + j ≤ r.now.most) (sym as_much) r.counted.few;
        limit = r.counted.limit;
        makers = λ m from to. let a = sum (makes m) in let b = r.counted.makers m from to in
            let c : total (λ (n : ℕ). between n m v.made) v.number ≡ between k m v.made + total (λ (n : ℕ). between n m v.made) ks = ap (total (λ (n : ℕ). between n m v.made)) is in
            let d : total (λ (n : ℕ). between n m v.made) w.number ≡ total (λ (n : ℕ). between n m v.made) ks = ap (total (λ (n : ℕ). between n m v.made)) rest in
            let e : total (λ (n : ℕ). between n m v.made) x.number ≡ between k m v.made + 0 = ap (λ (l : List ℕ). total (λ (n : ℕ). between n m v.made) (first_of l)) is in omega arith;
        positions = λ p. let a = sum (owns p) in let b = r.counted.positions p in omega arith;
        claims = λ g. let a = sum (claimed (suc g)) in let b = r.counted.claims g in omega arith;
        no_claim = let a = sum (claimed 0) in let b = r.counted.no_claim in omega arith;
      };
      spent = r.spent;
      place = subst (IsPlaced r.now s.homes) (let a = sum (λ (v : View). out v.stage) in omega arith) r.place;
      each = λ j u e. ⊎_elim
          (λ was. each_set (Fits r.now) s.views id w
          (record { seen = mine.seen; turn = subst (InTurn r.now w) (sym idle) tt; mine = mine.mine; config = λ _. mine.config one_caller; failure = mine.failure; made = mine.made; dial = mine.dial; caller = subst (λ y. draws y ≤ length w.number) (sym idle) zero-le; single = λ _. idle; ended = mine.ended; nothing = λ e. absurd (omega arith); fronts = mine.fronts })
          (λ j u _ e. r.each j u e) j u was)
          (λ (same : x ≡ u). subst (Fits r.now) same
          (record { seen = mine.seen; turn = tt; mine = zero-le; config = λ _. mine.config one_caller; failure = λ n. absurd (n refl); made = mine.made; dial = mine.dial; caller = zero-le; single = λ _. refl; ended = tt; nothing = λ e. absurd (omega arith); fronts = tt }))
          (at_snoc (set s.views id w) x u j e);
    }

-- cut an idle seat of several callers
pub deals : (id : ℕ) (v : View) → v.stage ≡ Idle → 2 ≤ length v.number → Splits Ruled id v (rest_of v) (one_of v)
deals id v idle several = go v.number refl several
  where
    go : (ns : List ℕ) → v.number ≡ ns → 2 ≤ length ns → Splits Ruled id v (rest_of v) (one_of v)
    go [] is several = absurd (omega (arith, several))
    go (k ∷ ks) is several = cuts id v k ks idle is (omega (arith, several))

-- the rule at the start, where so many callers are made
pub starts : (config : Config) (word most made : ℕ) (h : Home) → 1 ≤ made → made ≤ most → most < 2 ^ 32 → h.session ≡ history config word [] Sound → h.made ≡ made → h.submissions ≡ 0 → Ruled (opening (0 ∷ 0 ∷ 0 ∷ []) (Some h ∷ []) (founders config word most made 0 made))
starts config word most made h some_caller few limit empty made_is none_yet = record {
  ticket = 0;
  now = now;
  words = refl;
  counted = record {
    drawn = refl;
    tickets = λ n. omega arith;
    callers = let a = numbers_count 0 made in omega arith;
    numbers = λ n. let a = numbers_once 0 made n in let b : below n (made + 0) ≡ below n (0 + made) = ap (below n) (let e : made + 0 ≡ 0 + made = omega arith in e) in omega arith;
    few = omega arith;
    limit = limit;
    makers = λ m from to. let a = first_makes m made made from to some_caller in omega arith;
    positions = λ p. omega arith;
    claims = λ g. omega arith;
    no_claim = refl;
  };
  spent = λ m. absurd (not_spent m);
  place = inl (h, refl, empty, made_is, none_yet ∙ sym no_submissions, refl);
  each = each_one;
}
  where
    now : Now
    now = record { serving = 0; config = config; word = word; most = most; log = []; mark = Sound; made = made; dial = 0 }

    first : View
    first = founders config word most made 0 made

    each_one : (j : ℕ) (v : View) → get_elem? (first ∷ []) j ≡ some v → Fits now v
    each_one zero v e = subst (Fits now) (some-injective _ _ e) (record { seen = ([], refl); turn = tt; mine = omega arith; config = λ _. (refl, refl, refl); failure = λ n. absurd (n refl); made = omega arith; dial = zero-le; caller = zero-le; single = λ _. refl; ended = tt; nothing = λ e. absurd (let a = numbers_count 0 made in omega (arith, e, some_caller)); fronts = tt })
    each_one (suc j) v e = absurd (some-ne-none v (sym e))
