-- Taking in a caller.
use Rattle.std.proofs.Common.{◌≡◌, ℕ, suc, ◌+◌, ◌<◌, ◌≤◌, List, [], ◌∷◌, ◌++◌, length, refl, sym, ap, ◌∙◌, subst, arith}
use Rattle.driver_model.specs.declared.event.Event.{Event}
use mathlib.Core.List.{IsPrefix}
use Rattle.session_callers.specs.declared.board.View.{View}
use Rattle.session_callers.specs.declared.board.Ended.{Ended}
use Rattle.session_callers.specs.declared.board.Stage.TheVariants.{Idle}
use Rattle.session_callers.specs.Rule.{MaySpend, total, times, Each, callers, as_ended, joined}
use Rattle.session_callers.specs.Calls.{Known, IsOf, Gathered}
use Rattle.session_callers.proofs.Totals.{each_append, total_append}
use mathlib.Core.Option.{some, some-injective}
use lib.ListN.{get_elem?}
use Rattle.std.proofs.Common.{map, Option, Some, None, inl, inr}
use Rattle.atomic_table.specs.Seated.{TableId}
use Rattle.atomic_table.specs.Table.{Final, Seen}
use Rattle.session_callers.specs.declared.board.Home.{Home}
use Rattle.session_callers.specs.Claims.{AreClaimed}
use Rattle.session_callers.specs.Rule.{Ruled, below, between, out}
use Rattle.session_callers.proofs.Whole.{claims_all, closes, each_map}
use Rattle.std.proofs.lemmas.Bool.Decides.{nat_tests}
use Rattle.std.proofs.Common.{Bool, true, false, true≢false}
use Rattle.std.specs.Prelude.{nat_le, nat_lt, ◌||◌}
use Rattle.session_callers.specs.Closes.{are_above, knows_more, do_know_more, AreUndialled, IsShared}

each_left : {A : Type 0} (P : A → Type 0) (xs ys : List A) → Each P (xs ++ ys) → Each P xs
each_left P [] ys h = tt
each_left P (x ∷ xs) ys h = (h.0, each_left P xs ys h.1)

pub gathers_one : (z : TableId) (m : ℕ) (c : Known) → IsOf z m c → c.view.stage ≡ Idle → length c.view.number ≡ 1 → c.view.ended ≡ [] → Gathered m (c ∷ []) c.view
gathers_one z m c of idle single ended = record {
  idle = idle;
  single = single;
  count = let e : length c.view.ended ≡ 0 = ap length ended in omega arith;
  low = of.1;
  low_ended = subst (Each (λ (e : Ended). e.number < m)) (sym ended) tt;
  made = of.2;
  made_ended = subst (Each (λ (e : Ended). e.made ≤ m)) (sym ended) tt;
  begins = λ log fronts seen. (seen, tt);
  mine = λ p. let e : total (λ (e : Ended). times p e.mine) c.view.ended ≡ 0 = ap (total (λ (e : Ended). times p e.mine)) ended in omega arith;
  claims = λ n. let e : total (λ (e : Ended). times n e.claims) c.view.ended ≡ 0 = ap (total (λ (e : Ended). times n e.claims)) ended in omega arith;
  config = λ config word each. each.0;
}

pub gathers_more : (z : TableId) (m : ℕ) (cs : List Known) (v : View) (c : Known) (k : ℕ) → Gathered m cs v → IsOf z m c → c.view.number ≡ k ∷ [] → c.view.ended ≡ [] → Gathered m (c ∷ cs) (joined v c.view)
gathers_more z m cs v c k g of one ended =
    let w = c.view in
    let new : Ended = record { number = k; made = w.made; front = length w.seen; mine = w.mine; claims = w.claims } in
    let added : as_ended w w.number ++ w.ended ≡ new ∷ [] = ap (λ l. as_ended w l ++ w.ended) one ∙ ap (λ l. new ∷ l) ended in
    let low = subst (Each (λ (n : ℕ). n < m)) one of.1 in record {
      idle = g.idle;
      single = g.single;
      count = let a = g.count in let b : length (joined v w).ended ≡ length v.ended + 1 = ap (λ l. length (v.ended ++ l)) added ∙ Rattle.std.proofs.Common.length-append v.ended (new ∷ []) in omega arith;
      low = g.low;
      low_ended = each_append (λ (e : Ended). e.number < m) v.ended _ g.low_ended (subst (Each (λ (e : Ended). e.number < m)) (sym added) (low.0, tt));
      made = g.made;
      made_ended = each_append (λ (e : Ended). e.made ≤ m) v.ended _ g.made_ended (subst (Each (λ (e : Ended). e.made ≤ m)) (sym added) (of.2, tt));
      begins = λ log fronts seen. (fronts.1.0, g.begins log (each_left (λ (x : List Event). IsPrefix x log) v.fronts w.fronts fronts.1.1) fronts.0);
      mine = λ p. let a = g.mine p in let b : total (λ (e : Ended). times p e.mine) (joined v w).ended ≡ total (λ (e : Ended). times p e.mine) v.ended + times p w.mine
          = ap (λ l. total (λ (e : Ended). times p e.mine) (v.ended ++ l)) added ∙ total_append (λ (e : Ended). times p e.mine) v.ended (new ∷ []) ∙ omega arith in omega arith;
      claims = λ n. let a = g.claims n in let b : total (λ (e : Ended). times n e.claims) (joined v w).ended ≡ total (λ (e : Ended). times n e.claims) v.ended + times n w.claims
          = ap (λ l. total (λ (e : Ended). times n e.claims) (v.ended ++ l)) added ∙ total_append (λ (e : Ended). times n e.claims) v.ended (new ∷ []) ∙ omega arith in omega arith;
      config = λ config word each. g.config config word each.1;
    }

pub each_split : {A : Type 0} (P : A → Type 0) (xs : List A) (x : A) → Each P (xs ++ x ∷ []) → Each P xs × P x
each_split P [] x h = (tt, h.0)
each_split P (y ∷ ys) x h = let r = each_split P ys x h.1 in ((h.0, r.0), r.1)

abbrev get_home : {A : Type 0} → A → Option A → A
get_home d (Some z) = z
get_home d None = d

some_home : {A : Type 0} (x y : A) → Some x ≡ Some y → x ≡ y
some_home x y e = ap (λ o. get_home x o) e

pub closed : (m : ℕ) (cs : List Known) (v : View) → Gathered m cs v → 1 ≤ m → m ≤ length cs → (id : ℕ) (ws : List ℕ) (xs : List (Option Home)) (h : Home) → Final (Seen Ruled id v) ws xs → get_elem? xs 0 ≡ some (Some h)
    → Each (λ (c : Known). IsPrefix c.view.seen h.session.events) cs × ((p : ℕ) → total (λ (c : Known). times p c.view.mine) cs ≡ below p (length h.session.events)) × IsShared cs h.session.config h.session.word × MaySpend h.session.config h.session.word h.session.events h.session.failure
closed m cs v g some_caller enough id ws xs h final taken =
    let s = final.0 in
    let seen = final.1 in
    let all : m ≤ callers v = let a = g.count in omega arith in
    let end = closes s seen.0 id v seen.1 (ap out g.idle) m all (each_append (λ (n : ℕ). n < m) v.number (map (λ (e : Ended). e.number) v.ended) g.low (each_map m v.ended g.low_ended)) some_caller g.made g.made_ended in
    let same_home : end.0 ≡ h = some_home end.0 h (some-injective (Some end.0) (Some h) (sym (final.4 0 (Some end.0) (ap (λ l. get_elem? l 0) end.1)) ∙ taken)) in
    let own = end.5 (omega (arith, g.single)) in
    subst (λ (h : Home). Each (λ (c : Known). IsPrefix c.view.seen h.session.events) cs × ((p : ℕ) → total (λ (c : Known). times p c.view.mine) cs ≡ below p (length h.session.events)) × IsShared cs h.session.config h.session.word × MaySpend h.session.config h.session.word h.session.events h.session.failure) same_home (
      g.begins end.0.session.events end.3 end.2,
      (λ p. sym (g.mine p) ∙ end.4 p),
      (λ config word each. let of = g.config config word each in (own.0 ∙ of.0, own.1 ∙ of.1)),
      end.6,
    )

-- where all callers were taken in, the session is at home
pub not_away : (m : ℕ) (cs : List Known) (v : View) → Gathered m cs v → 1 ≤ m → m ≤ length cs → (id : ℕ) (ws : List ℕ) (xs : List (Option Home)) → Final (Seen Ruled id v) ws xs → get_elem? xs 0 ≡ some None → ⊥
not_away m cs v g some_caller enough id ws xs final taken =
    let s = final.0 in
    let seen = final.1 in
    let all : m ≤ callers v = let a = g.count in omega arith in
    let end = closes s seen.0 id v seen.1 (ap out g.idle) m all (each_append (λ (n : ℕ). n < m) v.number (map (λ (e : Ended). e.number) v.ended) g.low (each_map m v.ended g.low_ended)) some_caller g.made g.made_ended in
    let both : Some end.0 ≡ None = some-injective (Some end.0) None (sym (final.4 0 (Some end.0) (ap (λ l. get_elem? l 0) end.1)) ∙ taken) in
    some_none end.0 both
  where
    some_none : (h : Home) → Some h ≡ None → ⊥
    some_none h e = cc

or_false : (a b : Bool) → (a || b) ≡ false → (a ≡ false) × (b ≡ false)
or_false true b e = absurd (true≢false e)
or_false false b e = (refl, e)

none_above : (count : ℕ) (ns : List ℕ) → are_above count ns ≡ false → Each (λ (n : ℕ). n < count) ns
none_above count [] e = tt
none_above count (n ∷ ns) e = let o = or_false (nat_le count n) (are_above count ns) e in let le = o.0 in (grind (arith, nat_tests), none_above count ns o.1)

-- callers that know of no more are all
pub all_known : (z : TableId) (count : ℕ) (cs : List Known) → Each (λ (c : Known). c.table ≡ z) cs → do_know_more count cs ≡ false → Each (IsOf z count) cs
all_known z count [] of e = tt
all_known z count (c ∷ cs) of e =
    let o = or_false (knows_more count c) (do_know_more count cs) e in
    let k = or_false (are_above count c.view.number) (nat_lt count c.view.made) o.0 in
    let lt = k.1 in
    ((of.0, none_above count c.view.number k.0, grind (arith, nat_tests)), all_known z count cs of.1 o.1)

-- what they claimed together, where the dial has come to this number
pub all_claimed : (m : ℕ) (cs : List Known) (v : View) → Gathered m cs v → 1 ≤ m → m ≤ length cs → (id : ℕ) (ws : List ℕ) (xs : List (Option Home)) (dial : ℕ) → Final (Seen Ruled id v) ws xs → get_elem? ws 2 ≡ some dial → AreClaimed dial cs
all_claimed m cs v g some_caller enough id ws xs dial final found =
    let s = final.0 in
    let seen = final.1 in
    let r = seen.0 in
    let all : m ≤ callers v = let a = g.count in omega arith in
    let is : r.now.dial ≡ dial = some-injective r.now.dial dial (sym (ap (λ l. get_elem? l 2) r.words) ∙ ap (λ l. get_elem? l 2) final.2 ∙ found) in
    let own = claims_all s r id v seen.1 (ap out g.idle) m all (each_append (λ (n : ℕ). n < m) v.number (map (λ (e : Ended). e.number) v.ended) g.low (each_map m v.ended g.low_ended)) some_caller g.made g.made_ended in
    λ n. sym (g.claims n) ∙ own n ∙ ap (λ d. between 0 n (suc d)) is

-- where none of them has claimed a number, the dial stands at its start
none_claimed : (n : ℕ) (cs : List Known) → AreUndialled cs → total (λ (c : Known). times n c.view.claims) cs ≡ 0
none_claimed n [] h = refl
none_claimed n (c ∷ cs) h = let a : times n c.view.claims ≡ 0 = ap (times n) h.0.1 in let r = none_claimed n cs h.1 in omega arith

pub undialled_all : (dial : ℕ) (cs : List Known) → AreClaimed dial cs → AreUndialled cs → dial ≡ 0
undialled_all dial cs claims none = let a = claims 1 in let b = none_claimed 1 cs none in omega arith
