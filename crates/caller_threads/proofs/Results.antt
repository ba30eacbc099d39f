-- Clauses by cases on a result, and what a vector holds whose items were lent.
use Rattle.std.proofs.Common.{◌≡◌, ℕ, List, ◌++◌, length, take, drop, OnOk, OnErr, Ok, Err, Result, ap, ◌∙◌, arith, append-nil, drop_of_length-le, take_all}

pub on_ok_map : {T E : Type 0} (r : Result T E) (P Q : Type 0) → (P → Q) → OnOk r P → OnOk r Q
on_ok_map (Ok x) P Q f h = f h
on_ok_map (Err e) P Q f h = tt

pub on_err_map : {T E : Type 0} (r : Result T E) (P Q : Type 0) → (P → Q) → OnErr r P → OnErr r Q
on_err_map (Ok x) P Q f h = tt
on_err_map (Err e) P Q f h = f h

pub on_err_any : {T E : Type 0} (r : Result T E) (P : Type 0) → P → OnErr r P
on_err_any (Ok x) P h = tt
on_err_any (Err e) P h = h

-- what a vector of so many items holds, after others were written over them
pub written_over : {A : Type 0} (n : ℕ) (new old : List A) → length new ≡ length old → n ≡ length old → take n (new ++ drop (length new) old) ≡ new
written_over n new old e f =
    ap (λ l. take n (new ++ l)) (drop_of_length-le old (omega arith))
    ∙ ap (take n) (append-nil new)
    ∙ take_all n new (omega arith)
