-- That a request is handed to one link.
use Rattle.std.proofs.Common.{◌≡◌, ◌≢◌, inl, inr, ℕ, zero, suc, true, false, List, [], ◌∷◌, ◌++◌, Some, slice_get, slice_set, refl, sym, ap, ◌∙◌, nat_eq}
use Rattle.containers.proofs.Choices.{by_test}
use Rattle.containers.proofs.Places.{get_set_same, get_set_other, get_within}
use Rattle.std.proofs.lemmas.Bool.{eqb-true, eqb-false}
use Rattle.driver_model.specs.declared.outcome.Outcome.{Outcome}
use Rattle.manager_generations.specs.declared.act.ManagerAct.TheVariants as act
use Rattle.conn_manager.specs.declared.manager.ConnectionManager.{ConnectionManager}
use Rattle.conn_manager.specs.declared.request.HeldRequest.{HeldRequest}
use Rattle.conn_manager.specs.declared.request.Stage.{Stage}
use Rattle.conn_manager.specs.declared.request.Stage.TheVariants as stage
use Rattle.conn_manager.specs.Manager.{said, is_held, is_held_at, is_open_at, if_there, weighed, kept, closed_by}
use Rattle.conn_manager.specs.Handed.{HandsOnce, HandedOnce}
use Rattle.conn_manager.specs.Turn.{handed}
use Rattle.conn_manager.proofs.Once.{weighed_stages}
use Rattle.conn_manager.proofs.Runs.{Steps, goes_through}

-- the same requests
alike : (m n : ConnectionManager) → n.stages ≡ m.stages → HandsOnce m n
alike m n same = record { rests = λ p s there out. inl (ap (λ (ss : List Stage). slice_get ss p) same ∙ there) }

onward : (m n o : ConnectionManager) → HandsOnce m n → HandsOnce n o → HandsOnce m o
onward m n o first second = record {
  rests = λ p s there out. elim (first.rests p s there out) [
    | inl still ↦ second.rests p s still out
    | inr closed ↦ inr (elim (second.rests p stage.Closed closed refl) [ inl h ↦ h | inr h ↦ h ])
  ];
}

-- one request is closed
closes : (m n : ConnectionManager) (q : ℕ) → n.stages ≡ slice_set m.stages q stage.Closed → HandsOnce m n
closes m n q is = record {
  rests = λ p s there out.
      by_test (nat_eq q p) _
      (λ same. inr (ap (λ (ss : List Stage). slice_get ss p) is
      ∙ ap (λ (k : ℕ). slice_get (slice_set m.stages k stage.Closed) p) (eqb-true q p same)
      ∙ get_set_same m.stages p stage.Closed (get_within m.stages p s there)))
      (λ other. inl (ap (λ (ss : List Stage). slice_get ss p) is ∙ get_set_other m.stages q p stage.Closed (eqb-false q p other) ∙ there));
}

-- one that waits isn't one that doesn't
not_held : (stages : List Stage) (p q : ℕ) (s : Stage) → is_held_at stages q ≡ true → slice_get stages p ≡ Some s → is_held s ≡ false → q ≢ p
not_held stages p q s waits there out same =
    let yes : is_held s ≡ true = ap (if_there is_held) (sym there) ∙ ap (is_held_at stages) (sym same) ∙ waits in
    let no : true ≡ false = sym yes ∙ out in cc

hands : (m : ConnectionManager) (q : HeldRequest) → is_held_at m.stages q.number ≡ true → HandsOnce m (handed m q)
hands m q waits = record {
  rests = λ p s there out. inl (get_set_other m.stages q.number p _ (not_held m.stages p q.number s waits there out) ∙ there);
}

answers : (m : ConnectionManager) (p : ℕ) (o : Outcome) → is_open_at m.stages p ≡ true → HandsOnce m (said (kept (weighed (closed_by m p o) o) p o) (act.Answered (record { number = p })))
answers m p o there = closes m _ p (weighed_stages (closed_by m p o) o)

-- one more request leaves the others where they are
stays : (stages : List Stage) (p : ℕ) (s : Stage) → slice_get stages p ≡ Some s → slice_get (stages ++ stage.Held ∷ []) p ≡ Some s
stays [] p s there = cc
stays (t ∷ ts) zero s there = there
stays (t ∷ ts) (suc p) s there = stays ts p s there

handing : Steps HandsOnce
handing = record {
  walk = record {
    itself = λ m. alike m m refl;
    onward = onward;
    alike = λ m n stages outcomes generations. alike m n stages;
    moves = λ m n move stages outcomes generations. alike m n stages;
    answers = answers;
    hands = hands;
  };
  same = λ m n stages outcomes links. alike m n stages;
  enters = λ m call. record { rests = λ p s there out. inl (stays m.stages p s there) };
  closes = λ m p there. closes m _ p refl;
}

pub handed_once : HandedOnce
handed_once = goes_through handing
