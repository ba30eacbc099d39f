-- What a turn answers is taken back where the turn fails, and then the outcomes are those that stood before it.
use Rattle.std.proofs.Common.{◌≡◌, ℕ, zero, suc, true, List, [], ◌∷◌, Option, None, Some, slice_get, slice_set, refl, subst, sym, ap, ◌∙◌}
use Rattle.driver_model.specs.declared.outcome.Outcome.{Outcome}
use Rattle.manager_generations.specs.declared.act.ManagerAct.{ManagerAct}
use Rattle.mux_client.specs.Events.{Happening, nothing, on_link, late_request, late_resubscription, rest_over, closing}
use Rattle.conn_manager.specs.declared.manager.ConnectionManager.{ConnectionManager}
use Rattle.conn_manager.specs.Fitting.{IsFitting}
use Rattle.conn_manager.specs.Manager.{with_generations, is_missing, without}
use Rattle.conn_manager.specs.Spending.{Spends}
use Rattle.conn_manager.specs.Turn.{started, turned, stepped}

-- what stood in a place is put back
put_back : {X : Type 0} (xs : List X) (p : ℕ) (x y : X) → slice_get xs p ≡ Some y → slice_set (slice_set xs p x) p y ≡ xs
put_back [] p x y is = refl
put_back (z ∷ xs) zero x y is = cc
put_back {X} (z ∷ xs) (suc p) x y is = ap (λ (ys : List X). z ∷ ys) (put_back xs p x y is)

missing : (o : Option (Option Outcome)) → is_missing o ≡ true → o ≡ Some None
missing None h = cc
missing (Some None) h = refl
missing (Some (Some o)) h = cc

taken_back : (os : List (Option Outcome)) (p : ℕ) (o : Option Outcome) → is_missing (slice_get os p) ≡ true → slice_set (slice_set os p o) p None ≡ os
taken_back os p o h = put_back os p o None (missing (slice_get os p) h)

-- a place that is set twice
set_again : {X : Type 0} (xs : List X) (p : ℕ) (x y : X) → slice_set (slice_set xs p x) p y ≡ slice_set xs p y
set_again [] p x y = refl
set_again (z ∷ xs) zero x y = refl
set_again {X} (z ∷ xs) (suc p) x y = ap (λ (ys : List X). z ∷ ys) (set_again xs p x y)

-- an outcome in a place where none stood leaves those that stood
pub kept_stands : (os : List (Option Outcome)) (ps qs : List ℕ) (p : ℕ) (o : Option Outcome) → is_missing (slice_get os p) ≡ true → qs ≡ p ∷ ps
    → without (slice_set os p o) qs ≡ without os ps
kept_stands os ps qs p o h is = ap (without (slice_set os p o)) is ∙ ap (λ (xs : List (Option Outcome)). without xs ps) (taken_back os p o h)

-- and those of all others
pub kept_but : (os : List (Option Outcome)) (p : ℕ) (o : Option Outcome) → slice_set (slice_set os p o) p None ≡ slice_set os p None
kept_but os p o = set_again os p o None

-- what may be told a manager may be told it as its turn begins
fits : (m : ConnectionManager) (what : Happening) → IsFitting m what → IsFitting (started m) what
fits m (on_link link news) h = h
fits m nothing h = h
fits m (late_request p) h = h
fits m (late_resubscription link) h = h
fits m (rest_over number attempt) h = h
fits m closing h = h

pub fits_started : (m s : ConnectionManager) (what : Happening) → s ≡ started m → IsFitting m what → IsFitting s what
fits_started m s what is h = subst (λ (n : ConnectionManager). IsFitting n what) (sym is) (fits m what h)

-- and a turn that gives out the last number gives it out from there
pub spends_started : (m s : ConnectionManager) (draw : ℕ) (what : Happening) → s ≡ started m → Spends s draw what → Spends (started m) draw what
spends_started m s draw what is h = subst (λ (n : ConnectionManager). Spends n draw what) is h

-- the turn from there is the whole turn, behind which nothing is to be shown
pub turned_started : (m s n : ConnectionManager) (draw : ℕ) (what : Happening) → s ≡ started m → n ≡ turned s draw what → n ≡ turned (started m) draw what
turned_started m s n draw what first is = is ∙ ap (λ (k : ConnectionManager). turned k draw what) first

pub stepped_started : (m s n : ConnectionManager) (draw : ℕ) (what : Happening) (acts : List ManagerAct) → s ≡ started m → n ≡ turned s draw what → acts ≡ []
    → with_generations n (record n.generations { acts = acts }) ≡ stepped m draw what
stepped_started m s n draw what acts first is none =
    ap (λ (left : List ManagerAct). with_generations n (record n.generations { acts = left })) none
    ∙ ap (λ (k : ConnectionManager). with_generations k (record k.generations { acts = [] })) (turned_started m s n draw what first is)
