-- What a sender was handed, put together.
use Rattle.std.proofs.Common.{◌≡◌, ℕ, ◌+◌, ◌<◌, List, [], ◌∷◌, ◌++◌, length, take, drop, get_or, Option, Some, refl, sym, ap, subst, ◌∙◌, append_assoc, append-nil}
use Rattle.std.proofs.lemmas.List.{take-append-drop, take_more}
use Rattle.driver_model.specs.declared.push_info.PushInfo.{PushInfo}
use Rattle.driver_model.specs.declared.action.Action.{Action}
use Rattle.push_sender.specs.Sending.{Gained, GainedPart, push_of, pushes_of}

pub gained_both : (a b c : Option (List PushInfo)) (xs ys : List PushInfo) → Gained a b xs → Gained b c ys → Gained a c (xs ++ ys)
gained_both a b c xs ys first second = record {
  handed = λ before is. second.handed (before ++ xs) (first.handed before is) ∙ ap (λ (all : List PushInfo). Some all) (append_assoc before xs ys);
}

pub pushes_append : (xs ys : List Action) → pushes_of (xs ++ ys) ≡ pushes_of xs ++ pushes_of ys
pushes_append [] ys = refl
pushes_append (x ∷ xs) ys = ap (λ (all : List PushInfo). push_of x ++ all) (pushes_append xs ys) ∙ sym (append_assoc (push_of x) (pushes_of xs) (pushes_of ys))

-- the pushes among one action more
pushes_more : (all : List Action) (k : ℕ) (x : Action) → k < length all → x ≡ get_or all k x → pushes_of (take (k + 1) all) ≡ pushes_of (take k all) ++ push_of x
pushes_more all k x less is =
    ap pushes_of (take_more all k x less ∙ ap (λ (y : Action). take k all ++ y ∷ []) (sym is))
    ∙ pushes_append (take k all) (x ∷ [])
    ∙ ap (λ (ps : List PushInfo). pushes_of (take k all) ++ ps) (append-nil (push_of x))

pub gained_more : (a b c : Option (List PushInfo)) (all : List Action) (k : ℕ) (x : Action) → k < length all → x ≡ get_or all k x → Gained a b (pushes_of (take k all)) → Gained b c (push_of x) → Gained a c (pushes_of (take (k + 1) all))
gained_more a b c all k x less is first second =
    subst (λ (ps : List PushInfo). Gained a c ps) (sym (pushes_more all k x less is)) (gained_both a b c (pushes_of (take k all)) (push_of x) first second)

-- where the next one was handed in part, so were all
pub part_more : (a b c : Option (List PushInfo)) (all : List Action) (k : ℕ) (x : Action) → k < length all → x ≡ get_or all k x → Gained a b (pushes_of (take k all)) → GainedPart b c (push_of x) → GainedPart a c (pushes_of all)
part_more a b c all k x less is first part =
    let before = pushes_of (take k all) in
    let behind = pushes_of (drop (k + 1) all) in
    let cut : pushes_of all ≡ (before ++ push_of x) ++ behind =
    ap pushes_of (sym (take-append-drop (k + 1) all)) ∙ pushes_append (take (k + 1) all) (drop (k + 1) all) ∙ ap (λ (ps : List PushInfo). ps ++ behind) (pushes_more all k x less is) in
    let parted : before ++ push_of x ≡ (before ++ part.front) ++ part.rest =
    ap (λ (ps : List PushInfo). before ++ ps) part.whole ∙ sym (append_assoc before part.front part.rest) in
    record {
      front = before ++ part.front;
      rest = part.rest ++ behind;
      whole = cut ∙ ap (λ (ps : List PushInfo). ps ++ behind) parted ∙ append_assoc (before ++ part.front) part.rest behind;
      gained = gained_both a b c before part.front first part.gained;
    }
