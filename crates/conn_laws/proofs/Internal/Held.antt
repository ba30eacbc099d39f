-- What is subscribed again, until its link is set up.
use Rattle.std.proofs.Common.{◌≡◌, ℕ, false, List, Option, Some, refl, ap, sym, ◌∙◌}
use Rattle.containers.proofs.Choices.{not_both}
use Rattle.redis_error.specs.declared.redis_error.RedisError.{RedisError}
use Rattle.sub_tracker.specs.Subscribed.{Request as Call}
use Rattle.mux_conn.specs.declared.again.Again.{Again}
use Rattle.mux_conn.specs.declared.life.Life.{Life}
use Rattle.mux_conn.specs.declared.life.Life.TheVariants.{Resting, Dialing, Wanting, SettingUp, Ready, Ended}
use Rattle.mux_conn.specs.Connection.{is_ready as is_ready_life, is_resting}
use Rattle.legal_trace.specs.Ledger.{End, Ending, Ledger, by_attempt, by_fault, by_opening, by_shutdown, failure_in, failure_of, is_fault}
use Rattle.conn_laws.proofs.Internal.Repeats.{HasServed, IsHeld, TiedRepeat}
use Rattle.conn_laws.proofs.Ties.Tied.{has_ended}

-- it is to start then, or there is nothing
pub early_held : (l : Ledger) (calls : List Call) (within : Option ℕ) (a : Again) (life : Life) → is_resting life ≡ false → is_ready_life life ≡ false → has_ended life ≡ false → TiedRepeat l calls within a life → IsHeld l calls within a
early_held l calls within a Resting there unready alive h = cc
early_held l calls within a Dialing there unready alive h = h
early_held l calls within a (Wanting link) there unready alive h = h
early_held l calls within a (SettingUp link greeting) there unready alive h = h
early_held l calls within a (Ready link) there unready alive h = cc
early_held l calls within a (Ended e) there unready alive h = cc

-- a failed opening is no fault
failed_mild : (why : Ending) (e : RedisError) → failure_of why ≡ Some e → is_fault why ≡ false
failed_mild by_shutdown e is = cc
failed_mild (by_fault f) e is = cc
failed_mild (by_opening x) e is = refl
failed_mild (by_attempt x) e is = cc

-- where the opening failed, no fault ended a link that took requests
pub failed_served : (end : Option End) (a : Again) (e : RedisError) → failure_in end ≡ Some e → HasServed end a
failed_served end a e failed x is fault = absurd (not_both (is_fault x.why) (failed_mild x.why e (sym (ap failure_in is) ∙ failed)) fault)
