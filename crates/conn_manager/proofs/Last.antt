-- That a request is handed to the link that was asked for last.
use Rattle.std.proofs.Common.{◌≡◌, ◌<◌, inl, inr, ℕ, zero, suc, ◌-◌, Bool, true, List, [], ◌∷◌, ◌++◌, length, Option, None, Some, slice_get, slice_set, refl, sym, ap, subst, ◌∙◌, nat_eq, arith}
use Rattle.containers.proofs.Choices.{by_test}
use Rattle.containers.proofs.Places.{get_set_same, get_set_other}
use Rattle.std.proofs.lemmas.Bool.{eqb-true, eqb-false}
use Rattle.driver_model.specs.declared.outcome.Outcome.{Outcome}
use Rattle.driver_model.specs.declared.outcome.Outcome.TheVariants as outcome
use Rattle.manager_generations.specs.declared.act.ManagerAct.TheVariants as act
use Rattle.conn_manager.specs.declared.manager.ConnectionManager.{ConnectionManager}
use Rattle.conn_manager.specs.declared.request.HeldRequest.{HeldRequest}
use Rattle.conn_manager.specs.declared.request.Stage.{Stage}
use Rattle.conn_manager.specs.declared.request.Stage.TheVariants as stage
use Rattle.conn_manager.specs.Handed.{HandsOn, HandedToTheLast}
use Rattle.conn_manager.specs.Manager.{said, if_there, is_held_at, is_open_at, weighed, kept, closed_by}
use Rattle.conn_manager.specs.Turn.{handed}
use Rattle.conn_manager.proofs.Links.{Adds, moved_adds}
use Rattle.conn_manager.proofs.Once.{weighed_stages}
use Rattle.conn_manager.proofs.Runs.{Steps, goes_through}

-- the link that a request was handed to
abbrev link_in : Option Stage → ℕ
link_in None = 0
link_in (Some stage.Held) = 0
link_in (Some (stage.Sent link number)) = link
link_in (Some stage.Closed) = 0

-- the same requests
alike : (m n : ConnectionManager) → n.stages ≡ m.stages → Adds m.generations n.generations → HandsOn m n
alike m n same more = record {
  links = more;
  last = λ p link number e. inl (ap (λ (ss : List Stage). slice_get ss p) (sym same) ∙ e);
}

onward : (m n o : ConnectionManager) → HandsOn m n → HandsOn n o → HandsOn m o
onward m n o first second = record {
  links = omega (arith, first.links, second.links);
  last = λ p link number e. elim (second.last p link number e) [
    | inl was ↦ first.last p link number was
    | inr later ↦ inr (omega (arith, first.links, later))
  ];
}

-- a request that passes a test is there
within : (test : Stage → Bool) (stages : List Stage) (p : ℕ) → if_there test (slice_get stages p) ≡ true → p < length stages
within test [] p there = cc
within test (s ∷ ss) zero there = omega arith
within test (s ∷ ss) (suc p) there = let less = within test ss p there in omega (arith, less)

closed_is_not_sent : (link number : ℕ) → Some stage.Closed ≡ Some (stage.Sent link number) → ⊥
closed_is_not_sent link number e = cc

-- one request is closed
closes : (m n : ConnectionManager) (q : ℕ) → q < length m.stages → n.stages ≡ slice_set m.stages q stage.Closed → Adds m.generations n.generations → HandsOn m n
closes m n q there is more = record {
  links = more;
  last = λ p link number e.
      by_test (nat_eq q p) _
      (λ same.
      let e2 = sym (ap (λ (ss : List Stage). slice_get ss p) is ∙ ap (λ (k : ℕ). slice_get (slice_set m.stages q stage.Closed) k) (sym (eqb-true q p same)) ∙ get_set_same m.stages q stage.Closed there) ∙ e in
      absurd (closed_is_not_sent link number e2))
      (λ other. inl (sym (ap (λ (ss : List Stage). slice_get ss p) is ∙ get_set_other m.stages q p stage.Closed (eqb-false q p other)) ∙ e));
}

weighed_adds : (m : ConnectionManager) (o : Outcome) → Adds m.generations (weighed m o).generations
weighed_adds m (outcome.Fault e) = omega arith
weighed_adds m (outcome.One value) = omega arith
weighed_adds m (outcome.Many values) = omega arith
weighed_adds m outcome.Done = omega arith

answers : (m : ConnectionManager) (p : ℕ) (o : Outcome) → is_open_at m.stages p ≡ true → HandsOn m (said (kept (weighed (closed_by m p o) o) p o) (act.Answered (record { number = p })))
answers m p o there = closes m _ p (within _ m.stages p there) (weighed_stages (closed_by m p o) o) (weighed_adds (closed_by m p o) o)

hands : (m : ConnectionManager) (q : HeldRequest) → is_held_at m.stages q.number ≡ true → HandsOn m (handed m q)
hands m q waits = record {
  links = omega arith;
  last = λ p link number e.
      by_test (nat_eq q.number p) _
      (λ same.
      let placed = ap (λ (k : ℕ). slice_get (handed m q).stages k) (sym (eqb-true q.number p same)) ∙ get_set_same m.stages q.number _ (within _ m.stages q.number waits) in
      let here : m.generations.links - 1 ≡ link = ap link_in (sym placed ∙ e) in
      inr (omega (arith, here)))
      (λ other. inl (sym (get_set_other m.stages q.number p _ (eqb-false q.number p other)) ∙ e));
}

-- one more request isn't handed on yet
sent_before : (stages : List Stage) (p link number : ℕ) → slice_get (stages ++ stage.Held ∷ []) p ≡ Some (stage.Sent link number) → slice_get stages p ≡ Some (stage.Sent link number)
sent_before [] zero link number e = cc
sent_before [] (suc p) link number e = cc
sent_before (s ∷ ss) zero link number e = e
sent_before (s ∷ ss) (suc p) link number e = sent_before ss p link number e

to_the_last : Steps HandsOn
to_the_last = record {
  walk = record {
    itself = λ m. alike m m refl (omega arith);
    onward = onward;
    alike = λ m n stages outcomes generations. alike m n stages (subst (Adds m.generations) (sym generations) (omega arith));
    moves = λ m n move stages outcomes generations. alike m n stages (subst (Adds m.generations) (sym generations) (moved_adds m.generations move));
    answers = answers;
    hands = hands;
  };
  same = λ m n stages outcomes more. alike m n stages more;
  enters = λ m call. record { links = omega arith; last = λ p link number e. inl (sent_before m.stages p link number e) };
  closes = λ m p there. closes m _ p (within _ m.stages p there) refl (omega arith);
}

pub handed_to_the_last : HandedToTheLast
handed_to_the_last = goes_through to_the_last
