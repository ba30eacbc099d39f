-- What the end of a link owes, whether another attempt would follow a failed opening or not.
use Rattle.std.proofs.Common.{◌≡◌, Bool, true, false, Some, refl}
use Rattle.redis_error.specs.declared.redis_error.RedisError.TheVariants as error
use Rattle.driver_model.specs.declared.news.LinkFault.{LinkFault}
use Rattle.driver_model.specs.declared.outcome.Outcome.TheVariants as outcome
use Rattle.driver_model.specs.declared.outcome.Shape.{Shape}
use Rattle.driver_model.specs.declared.outcome.Shape.TheVariants.{Single, Pipeline, Confirmation}
use Rattle.legal_trace.specs.Ledger.{Ending, by_shutdown, by_fault, by_opening, by_attempt, lasting, failure_of, is_fault}
use Rattle.legal_trace.specs.Owed.{oldest_error, owed_by}

-- the oldest message gets the same either way
pub lasting_oldest : (last : Bool) (why : Ending) (of_shape : Shape) → oldest_error (lasting last why) of_shape ≡ oldest_error why of_shape
lasting_oldest true why of_shape = refl
lasting_oldest false by_shutdown of_shape = refl
lasting_oldest false (by_fault f) of_shape = refl
lasting_oldest false (by_opening e) of_shape = refl
lasting_oldest false (by_attempt e) of_shape = refl

-- a shutdown stays one
pub lasting_shutdown : (last : Bool) → lasting last by_shutdown ≡ by_shutdown
lasting_shutdown true = refl
lasting_shutdown false = refl

-- and a fault does
pub lasting_fault : (last : Bool) (f : LinkFault) → lasting last (by_fault f) ≡ by_fault f
lasting_fault true f = refl
lasting_fault false f = refl

-- so whether it is a fault stays
pub lasting_is_fault : (last : Bool) (why : Ending) → is_fault (lasting last why) ≡ is_fault why
lasting_is_fault true why = refl
lasting_is_fault false by_shutdown = refl
lasting_is_fault false (by_fault f) = refl
lasting_is_fault false (by_opening e) = refl
lasting_is_fault false (by_attempt e) = refl
