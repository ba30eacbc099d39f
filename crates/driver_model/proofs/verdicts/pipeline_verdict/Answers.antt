use Rattle.std.proofs.Common.{rules, ◌≡◌, ℕ, List, take, drop, Bool, true, false, IfOk, ap, ◌∙◌}
use Rattle.std.proofs.lemmas.List.{take_min, drop_min}
use Rattle.std.specs.Prelude.{Result, Ok, Err}
use Rattle.resp_value.specs.Data.{Data}
use Rattle.driver_model.specs.declared.outcome.Verdict.{Verdict}
use Rattle.driver_model.specs.Shape.{pipeline, verdict_of_transaction}
use Rattle.driver_model.proofs.verdicts.pipeline_verdict.Goals as goal

as_a_transaction : {E : Type 0} (r : Result Verdict E) (t : Bool) (skipped kept got : List Data) (n : ℕ) → t ≡ true → skipped ≡ take n got → kept ≡ drop n got → IfOk r (λ v. v ≡ verdict_of_transaction skipped kept) → IfOk r (λ v. v ≡ pipeline t (take n got) (drop n got))
as_a_transaction (Ok v) true skipped kept got n t front back is = is ∙ ap (λ (ds : List Data). verdict_of_transaction ds kept) front ∙ ap (verdict_of_transaction (take n got)) back
as_a_transaction (Ok v) false skipped kept got n t front back is = cc
as_a_transaction (Err e) b skipped kept got n t front back is = tt

pub returns-then-transaction : goal.returns-then-transaction
returns-then-transaction c =
    as_a_transaction c.transaction_verdict.result c.args.transaction c.split_off.new.self c.in_ok-kept.kept c.args.got c.args.offset c.if-transaction.true (search (rules, take_min)) (search (rules, drop_min)) c.transaction_verdict.ensures
