-- When what is subscribed again is to start: where the connection says so.
use Rattle.std.proofs.Common.{◌≡◌, ◌≢◌, ◌&&◌, Bool, true, false, List, Option, None, Some, is_some, not, refl, ap, ◌∙◌, ℕ}
use Rattle.containers.proofs.Choices.{not_both}
use Rattle.sub_tracker.specs.Subscribed.{Request as Call}
use Rattle.mux_conn.specs.Connection.{is_outstanding, is_ready}
use Rattle.mux_conn.specs.Repeats.{is_to_start, is_untimed}
use Rattle.mux_conn.specs.declared.again.Again.{Again}
use Rattle.mux_conn.specs.declared.again.Again.TheVariants as again
use Rattle.mux_conn.specs.declared.life.Life.{Life}
use Rattle.legal_trace.specs.Ledger.{Ledger}
use Rattle.conn_laws.proofs.Internal.Repeating.{HasRepeated}
use Rattle.conn_laws.proofs.Internal.Repeats.{IsRepeated}
use Rattle.conn_laws.proofs.Internal.Serving.{answered_started}

-- nothing is to start on a link that takes requests
pub served_repeated : (a : Again) (life : Life) → is_outstanding a ≡ false → HasRepeated a life
served_repeated a life none link e start = absurd (not_both (is_to_start a) (answered_started a none) start)

-- nor on one that isn't set up
pub down_repeated : (a : Again) (life : Life) → is_ready life ≡ false → HasRepeated a life
down_repeated a life down link e start = absurd (not_both (is_ready life) down (ap is_ready e))

-- where a time is set, there is one
within_is : (o : Option ℕ) → o ≢ None → is_some o ≡ true
within_is None none = absurd (none refl)
within_is (Some ms) none = refl

-- what isn't false is true
not_not : (x : Bool) → not x ≡ false → x ≡ true
not_not true e = refl
not_not false e = cc

-- its timer was asked for, where the connection says so, and a time is set
pub timed_there : (l : Ledger) (calls : List Call) (within : Option ℕ) (a : Again) → IsRepeated l calls within a → is_to_start a ≡ true → is_untimed a ≡ false → within ≢ None → l.again.timed ≡ true
timed_there l calls within again.Nothing h starts timed some = cc
timed_there l calls within (again.Due packed of_shape was) h starts timed some = h.timed_is ∙ (λ i. within_is within some i && not_not was timed i)
timed_there l calls within again.Sent h starts timed some = cc
