-- What is subscribed again on the next link.
use Rattle.std.proofs.Common.{◌≡◌, ◌≢◌, ℕ, ◌<◌, Bool, true, false, ◌&&◌, is_some, List, [], Option, None, sym, ap, ◌∙◌}
use Rattle.std.proofs.Math.Bool.{and-false}
use Rattle.sub_tracker.specs.Subscribed.{Request}
use Rattle.driver_model.specs.declared.action.Owner.TheVariants as owner
use Rattle.driver_model.specs.declared.outcome.Shape.{Shape}
use Rattle.driver_model.specs.Shape.{need_of}
use Rattle.mux_conn.specs.declared.again.Again.{Again}
use Rattle.mux_conn.specs.declared.again.Again.TheVariants as again
use Rattle.legal_trace.specs.Again.{again_message}
use Rattle.legal_trace.specs.Ledger.{Ledger, again_of}
use Rattle.conn_laws.proofs.Internal.Repeats.{IsHeld}

-- on the next link
--
-- where anything is subscribed after these calls it is this message, for which no timer was asked so far
pub record IsNextRepeat (repeats : Bool) (calls : List Request) (packed : List ℕ) (of_shape : Shape) (timed : Bool) : Type 0 where
  pub goes : repeats ≡ true
  pub untimed : timed ≡ false
  pub message : again_message calls ≡ record { owner = owner.Resub; shape = of_shape; bytes = packed }
  pub some : packed ≢ []
  pub needs : 0 < need_of of_shape

abbrev pub RepeatsNext : Bool → List Request → Again → Type 0
RepeatsNext repeats calls again.Nothing = repeats ≡ false
RepeatsNext repeats calls (again.Due packed of_shape timed) = IsNextRepeat repeats calls packed of_shape timed
RepeatsNext repeats calls again.Sent = ⊥

-- on a link that was just asked for it is held until that is set up
pub asked_repeat : (l : Ledger) (calls : List Request) (within : Option ℕ) (a : Again) → l.again.over ≡ false → l.again.timed ≡ false → again_of l ≡ None → RepeatsNext l.again.wanted calls a → IsHeld l calls within a
asked_repeat l calls within again.Nothing in_time untimed none h = h
asked_repeat l calls within (again.Due packed of_shape timed) in_time untimed none h = record {
  wanted = h.goes;
  in_time = in_time;
  unstarted = none;
  timed_is = untimed ∙ sym (ap (λ b. is_some within && b) h.untimed ∙ and-false (is_some within));
  message = h.message;
  some = h.some;
  needs = h.needs;
}
asked_repeat l calls within again.Sent in_time untimed none h = absurd h
