-- That a number is given to one request.
use Rattle.std.proofs.Common.{◌≡◌, ◌≤◌, [], ◌∷◌, length, ap, ◌∙◌, arith}
use Rattle.std.proofs.lemmas.List.{length-append, length-set}
use Rattle.conn_manager.specs.declared.manager.ConnectionManager.{ConnectionManager}
use Rattle.conn_manager.specs.declared.request.Stage.TheVariants as stage
use Rattle.conn_manager.specs.Manager.{closed_by}
use Rattle.conn_manager.specs.Numbers.{NumbersRise}
use Rattle.conn_manager.proofs.Once.{weighed_stages}
use Rattle.conn_manager.proofs.Runs.{Steps, goes_through}

-- there are as many requests, or more
record Counts (old new : ConnectionManager) : Type 0 where
  pub more : length old.stages ≤ length new.stages

as_many : (m n : ConnectionManager) → length n.stages ≡ length m.stages → Counts m n
as_many m n is = record { more = omega (arith, is) }

counting : Steps Counts
counting = record {
  walk = record {
    itself = λ m. record { more = omega arith };
    onward = λ m n o first second. record { more = omega (arith, first.more, second.more) };
    alike = λ m n stages outcomes generations. as_many m n (ap length stages);
    moves = λ m n move stages outcomes generations. as_many m n (ap length stages);
    answers = λ m p o there. as_many m _ (ap length (weighed_stages (closed_by m p o) o) ∙ length-set m.stages p stage.Closed);
    hands = λ m q there. as_many m _ (length-set m.stages q.number _);
  };
  same = λ m n stages outcomes links. as_many m n (ap length stages);
  enters = λ m call. let added = length-append m.stages (stage.Held ∷ []) in record { more = omega (arith, added) };
  closes = λ m p there. as_many m _ (length-set m.stages p stage.Closed);
}

pub numbers_rise : NumbersRise
numbers_rise m steps = (goes_through counting m steps).more
