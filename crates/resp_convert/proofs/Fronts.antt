-- Values that are read one after another, each as its own type.
use Rattle.std.proofs.Common.{◌≡◌, ◌≤◌, ◌-◌, List, [], ◌∷◌, length, get_or, take, drop, Option, Some, None, Result, Ok, Err, IfOk, refl, sym, subst, arith}
use Rattle.std.proofs.lemmas.List.{take_rest}
use Rattle.resp_value.specs.declared.value.Value.{Value}
use Rattle.resp_value.specs.Data.{Data}
use Rattle.resp_value.specs.View.{data_of, list_view}
use Rattle.resp_convert.specs.Convert.{IsRead}
use Rattle.resp_convert.specs.Types.{AreThere, Begins, HasItems, bare, items_in}

-- what stands behind the first
abbrev pub behind : List Value → List Value
behind vs = take (length vs - 1) (drop 1 vs)

at_front : (vs : List Value) (v : Value) → 1 ≤ length vs → v ≡ get_or vs 0 v → list_view vs ≡ data_of v ∷ list_view (behind vs)
at_front [] v h is = absurd (omega arith)
at_front (w ∷ vs) v h is =
    subst (λ us. list_view (w ∷ vs) ≡ data_of v ∷ list_view us) (sym (take_rest (w ∷ vs) 1)) (
    subst (λ u. list_view (w ∷ vs) ≡ data_of u ∷ list_view vs) (sym is) refl)

-- what is said of the values behind the first
pub others : {A : Type 0} (reads : Data → A → Type 0) (vs : List Value) (v : Value) (x : A) (more : List Data → Type 0) → 1 ≤ length vs → v ≡ get_or vs 0 v → Begins reads x more (list_view vs) → more (list_view (behind vs))
others reads vs v x more h is all = (subst (Begins reads x more) (at_front vs v h is) all).1

-- what the items are read as, the value is
pub of_items : {S E : Type 0} (are : List Data → S → Type 0) (d : Data) (ds : List Data) (r : Result (Option S) E) → items_in (bare d) ≡ Some ds → IfOk r (λ read. IsRead are ds read) → IfOk r (λ read. IsRead (HasItems are) d read)
of_items are d ds (Ok (Some x)) there is = subst (λ o. AreThere are o x) (sym there) is
of_items are d ds (Ok None) there none = λ x is. none x (subst (λ o. AreThere are o x) there is)
of_items are d ds (Err e) there is = is
