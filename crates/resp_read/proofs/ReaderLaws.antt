-- A reader goes on in its course.
use Rattle.std.proofs.Common.{◌≡◌, ℕ, ◌≤◌, ◌+◌, ◌-◌, ◌*◌, List, [], ◌∷◌, ◌++◌, length, length-append, length-drop, take, ap, ◌∙◌, arith}
use Rattle.std.proofs.lemmas.List.{take-append-le, take_all}
use Rattle.resp_value.specs.declared.value.Value.{Value}
use Rattle.resp_value.specs.View.{data_of}
use Rattle.resp_read.specs.Limits.{bounds, AreAllowed}
use Rattle.resp_read.specs.Reads.{ReadsEachWithin}
use Rattle.resp_read.specs.declared.limits.Limits.{Limits}
use Rattle.resp_read.specs.declared.course.Course.{Course}
use Rattle.resp_read.specs.declared.reader.Health.{Health}
use Rattle.resp_read.specs.declared.reader.Health.TheVariants.{Sound}
use Rattle.resp_read.specs.Courses.{rest_of, unread, IsCourse, IsInTape, IsReading, ReadsAll}
use Rattle.resp_read.proofs.GrammarLaws.{read_where_found}

-- what it has not looked at is left
pub unread_left : (limits : Limits) (c : Course) → IsCourse limits c → unread c ≤ length (rest_of c)
unread_left limits c h =
    let order = h.order in
    let size = length-drop c.at c.tape in
    omega (arith, order, size)

pub in_tape : (limits : Limits) (c : Course) → IsCourse limits c → IsInTape c
in_tape limits c h = (h.order, h.place)

module _ (limits : Limits) (old new : Course) (counted : ℕ) (state : Health) (h : IsReading limits old counted state) (course : (l : Limits) → IsCourse l old → IsCourse l new) where
  -- what is left stays
  pub reading_still : rest_of new ≡ rest_of old → unread new ≡ unread old → IsReading limits new counted state
  reading_still rest same = record {
    allowed = h.allowed;
    course = λ sound. course limits (h.course sound);
    looked = λ sound. let before = h.looked sound in let size = ap length rest in omega (arith, before, size, same);
  }

  -- bytes follow
  pub reading_fed : (piece : List ℕ) → rest_of new ≡ rest_of old ++ piece → unread new ≡ unread old + length piece → IsReading limits new counted state
  reading_fed piece rest more = record {
    allowed = h.allowed;
    course = λ sound. course limits (h.course sound);
    looked = λ sound. let before = h.looked sound in let size = ap length rest ∙ length-append (rest_of old) piece in omega (arith, before, size, more);
  }

-- it is in a course, of which nothing is counted
pub reading_anew : (limits : Limits) (c : Course) (state : Health) → AreAllowed limits → IsCourse limits c → IsReading limits c 0 state
reading_anew limits c state allowed h = record { allowed = allowed; course = λ _. h; looked = λ _. let left = unread_left limits c h in omega (arith, left) }

-- more bytes are wanted
pub reading_on : (limits : Limits) (old new : Course) (counted : ℕ) (state : Health) (after : ℕ) → IsReading limits old counted state → state ≡ Sound → IsCourse limits new → rest_of new ≡ rest_of old → after + 2 * unread new ≤ 0 + 2 * unread old → IsReading limits new counted state
reading_on limits old new counted state after h sound course rest costs = record {
  allowed = h.allowed;
  course = λ _. course;
  looked = λ _. let before = h.looked sound in let size = ap length rest in omega (arith, before, size, costs);
}

-- all that was looked at is counted
pub reading_all : (limits : Limits) (c : Course) (counted : ℕ) (state : Health) → AreAllowed limits → IsCourse limits c → counted + unread c ≡ length (rest_of c) → IsReading limits c counted state
reading_all limits c counted state allowed h is = record { allowed = allowed; course = λ _. h; looked = λ _. omega (arith, is) }

-- the values that were found are those of the grammar
pub reads_each : (limits : Limits) (bs : List ℕ) (vs : List Value) (rest : List ℕ) → ReadsAll limits bs vs rest → ReadsEachWithin limits bs vs rest
reads_each limits bs [] rest h = h
reads_each limits bs (v ∷ vs) rest h = (h.0, read_where_found (bounds limits) limits.depth bs (data_of v) h.0 h.1, reads_each limits h.0 vs rest h.2)

-- what reading all costs, by what was counted before and after
pub costs_on : (limits : Limits) (old new : Course) (counted after_counted before after : ℕ) (state : Health) → IsReading limits old counted state → state ≡ Sound → after_counted + unread new ≡ length (rest_of new) → after + 2 * unread new ≤ before + 2 * unread old → after + 2 * (length (rest_of new) - after_counted) ≤ before + 2 * (length (rest_of old) - counted)
costs_on limits old new counted after_counted before after state h sound is costs = let looked = h.looked sound in omega (arith, looked, is, costs)

-- where it reads no further, all that is left is counted
pub costs_ended : (limits : Limits) (old new : Course) (counted after_counted before after : ℕ) (state : Health) → IsReading limits old counted state → state ≡ Sound → after_counted ≡ length (rest_of new) → after ≤ before + 2 * unread old → after + 2 * (length (rest_of new) - after_counted) ≤ before + 2 * (length (rest_of old) - counted)
costs_ended limits old new counted after_counted before after state h sound is costs = let looked = h.looked sound in omega (arith, looked, is, costs)

-- the bytes of a piece are counted with those before it
pub costs_fed : (rest piece : List ℕ) (counted before after unseen_after : ℕ) → after + 2 * unseen_after ≤ before + 2 * (length (rest ++ piece) - counted) → after + 2 * unseen_after ≤ before + 2 * (length rest - counted) + 2 * length piece
costs_fed rest piece counted before after unseen_after costs = let size = length-append rest piece in omega (arith, size, costs)

-- a list that is cut to its old length is what it was
pub taken_back : (before more after cut : List Value) (count : ℕ) → after ≡ before ++ more → count ≡ length before → cut ≡ take count after → cut ≡ before
taken_back before more after cut count is counted taken =
    taken
    ∙ ap (λ (n : ℕ). take n after) counted
    ∙ ap (take (length before)) is
    ∙ take-append-le (length before) before more (omega arith)
    ∙ take_all (length before) before (omega arith)
