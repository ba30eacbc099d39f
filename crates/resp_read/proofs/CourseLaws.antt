-- A reader goes on in its tape.
use Rattle.std.proofs.Common.{◌≡◌, ℕ, ◌≤◌, ◌+◌, ◌-◌, List, [], ◌∷◌, ◌++◌, length, take, drop, length-append, length-drop, append_assoc, Ok, Err, refl, sym, ap, ◌∙◌, subst, arith}
use Rattle.std.proofs.lemmas.List.{append-nil, drop-append-le, take-append-le, drop-drop}
use Rattle.resp_value.specs.View.{data_of}
use Rattle.resp_value.specs.declared.value.Value.{Value}
use Rattle.resp_read.specs.Parser.{read, short, bad, Found}
use Rattle.resp_value.specs.Data.{Data}
use Rattle.resp_read.specs.Limits.{reading}
use Rattle.resp_read.specs.declared.limits.Limits.{Limits}
use Rattle.resp_read.specs.declared.forms.Refusal.{Refusal}
use Rattle.resp_read.specs.declared.forms.Refusal.TheVariants.{Short, Bad, NoMemory}
use Rattle.resp_read.specs.declared.stages.Stage.TheVariants.{First}
use Rattle.resp_read.specs.declared.place.Taken.{Taken}
use Rattle.resp_read.specs.declared.place.Place.{Place}
use Rattle.resp_read.specs.declared.course.Course.{Course}
use Rattle.resp_read.specs.Places.{IsTaken, IsPlace, resumed_at, ReadsFrom, StaysPlace, is_line}
use Rattle.resp_read.specs.Stages.{IsStage}
use Rattle.resp_read.specs.Courses.{rest_of, IsCourse, ReadsNext, ReadsAll, unread}

-- within no aggregates
at_first : (limits : Limits) (bs : List ℕ) → resumed_at limits [] First bs ≡ reading limits limits.depth bs
at_first limits bs = let e : limits.depth - 0 ≡ limits.depth = omega arith in ap (λ d. reading limits d bs) e

-- nothing was fed
pub course_begun : (c : Course) → c.tape ≡ [] → c.at ≡ c.place.next → c.place.next ≡ 0 → c.place.stage ≡ First → ((rest : List ℕ) → IsTaken c.place.line rest × (c.place.line.text.items ≡ [])) → c.frames.items ≡ [] → (limits : Limits) → IsCourse limits c
course_begun c tape at next stage line frames limits =
    let none = (line []).1 in
    let size : length c.place.line.text.items ≡ 0 = ap length none in
    record {
      order = omega (arith, at);
      place = record {
        fits = omega (arith, size, next);
        taken = (line (drop c.place.next c.tape)).0;
        stage = subst IsStage (sym stage) tt;
        alone = λ _. none;
      };
      resumes = λ m. ap (λ n. reading limits limits.depth (drop n c.tape ++ m)) at ∙ sym (at_first limits (drop c.place.next c.tape ++ m)) ∙ (λ j. resumed_at limits (sym frames j) (sym stage j) (drop c.place.next c.tape ++ m));
    }

-- a place stays one when bytes follow
pub place_fed : (tape piece : List ℕ) (p : Place) → IsPlace tape p → IsPlace (tape ++ piece) p
place_fed tape piece p h =
    let fits = h.fits in
    let there : drop p.next (tape ++ piece) ≡ drop p.next tape ++ piece = drop-append-le p.next tape piece (omega (arith, fits)) in
    let front : take (length p.line.text.items) (drop p.next (tape ++ piece)) ≡ take (length p.line.text.items) (drop p.next tape) = ap (take (length p.line.text.items)) there ∙ take-append-le (length p.line.text.items) (drop p.next tape) piece (omega (arith, fits, length-drop p.next tape)) in
    record {
      fits = omega (arith, fits, length-append tape piece);
      taken = record { taken = h.taken.taken ∙ sym front; clear = h.taken.clear; known = h.taken.known };
      stage = h.stage;
      alone = h.alone;
    }

pub course_fed : (limits : Limits) (old new : Course) (piece : List ℕ) → new.at ≡ old.at → new.place ≡ old.place → new.frames ≡ old.frames → new.tape ≡ old.tape ++ piece → IsCourse limits old → IsCourse limits new
course_fed limits old new piece at place frames tape h =
    let order = h.order in
    let fits = h.place.fits in
    let next = ap (λ (p : Place). p.next) place in
    let here : drop new.at new.tape ≡ drop old.at old.tape ++ piece = (λ j. drop (at j) (tape j)) ∙ drop-append-le old.at old.tape piece (omega (arith, order, fits)) in
    let there : drop new.place.next new.tape ≡ drop old.place.next old.tape ++ piece = (λ j. drop (next j) (tape j)) ∙ drop-append-le old.place.next old.tape piece (omega (arith, fits)) in
    record {
      order = omega (arith, order, at, next);
      place = subst (IsPlace new.tape) (sym place) (subst (λ t. IsPlace t old.place) (sym tape) (place_fed old.tape piece old.place h.place));
      resumes = λ m.
          ap (λ x. reading limits limits.depth (x ++ m)) here ∙ ap (reading limits limits.depth) (append_assoc (rest_of old) piece m)
          ∙ h.resumes (piece ++ m)
          ∙ (let back = sym (append_assoc (drop old.place.next old.tape) piece m) in λ j. resumed_at limits (sym frames j).items (sym place j).stage (back j))
          ∙ ap (λ x. resumed_at limits new.frames.items new.place.stage (x ++ m)) (sym there);
    }

-- the next value of a course
module _ (limits : Limits) (old new : Course) (same_tape : new.tape ≡ old.tape) (h : IsCourse limits old) where
  found_next : (x : Found Data) → resumed_at limits old.frames.items old.place.stage (drop old.place.next old.tape ++ []) ≡ x → reading limits limits.depth (rest_of old) ≡ x
  found_next x is = ap (reading limits limits.depth) (sym (append-nil (rest_of old))) ∙ h.resumes [] ∙ is

  pub next_given : (v : Value) → new.at ≡ new.place.next → ReadsFrom limits old.tape old.frames.items old.place (Ok v) new.frames.items new.place → IsPlace old.tape new.place → ReadsNext limits old (Ok v) new
  next_given v at reads place =
      let rest : drop new.place.next old.tape ≡ rest_of new = λ j. drop (sym at j) (sym same_tape j) in (
        record {
          order = omega (arith, at);
          place = subst (λ t. IsPlace t new.place) (sym same_tape) place;
          resumes = λ m. (λ j. reading limits limits.depth (drop (at j) new.tape ++ m)) ∙ sym (at_first limits (drop new.place.next new.tape ++ m)) ∙ (λ j. resumed_at limits (sym reads.0 j) (sym reads.1 j) (drop new.place.next new.tape ++ m));
        },
        found_next (read (data_of v) (rest_of new)) (reads.3 [] ∙ ap (read (data_of v)) (append-nil (drop new.place.next old.tape) ∙ rest)),
      )

  module _ (same_at : new.at ≡ old.at) where
    same_rest : rest_of new ≡ rest_of old
    same_rest = λ j. drop (same_at j) (same_tape j)

    pub next_refused : (e : Refusal) → ReadsFrom limits old.tape old.frames.items old.place (Err e) new.frames.items new.place → StaysPlace {A = Value} old.tape (Err e) new.place → ReadsNext limits old (Err e) new
    next_refused Short reads place =
        let order = h.order in
        let on = reads.0 in (
          record {
            order = omega (arith, same_at, order, on);
            place = subst (λ t. IsPlace t new.place) (sym same_tape) place;
            resumes = λ m. ap (λ x. reading limits limits.depth (x ++ m)) same_rest ∙ h.resumes m ∙ reads.1 m ∙ ap (λ t. resumed_at limits new.frames.items new.place.stage (drop new.place.next t ++ m)) (sym same_tape);
          },
          same_rest,
          found_next short (ap (resumed_at limits old.frames.items old.place.stage) (append-nil (drop old.place.next old.tape)) ∙ reads.2),
        )
    next_refused Bad reads place = (same_rest, found_next bad (ap (resumed_at limits old.frames.items old.place.stage) (append-nil (drop old.place.next old.tape)) ∙ reads))
    next_refused NoMemory reads place = same_rest

-- one value more
pub one_value_more : (limits : Limits) (bs mid rest : List ℕ) (vs : List Value) (v : Value) → ReadsAll limits bs vs mid → reading limits limits.depth mid ≡ read (data_of v) rest → ReadsAll limits bs (vs ++ v ∷ []) rest
one_value_more limits bs mid rest [] v h is = (rest, ap (reading limits limits.depth) h ∙ is, refl)
one_value_more limits bs mid rest (w ∷ vs) v h is = (h.0, h.1, one_value_more limits h.0 mid rest vs v h.2 is)

-- the bytes of the values given are forgotten
module _ (old : Course) (new : Course) (tape : new.tape ≡ drop old.at old.tape) (at : new.at ≡ 0) (place : new.place ≡ record old.place { next = old.place.next - old.at }) (order : old.at ≤ old.place.next) where
  same_place : drop new.place.next new.tape ≡ drop old.place.next old.tape
  same_place =
      let total : old.at + (old.place.next - old.at) ≡ old.place.next = omega (arith, order) in
      (λ j. drop (place j).next (tape j)) ∙ drop-drop (old.place.next - old.at) old.at old.tape ∙ ap (λ k. drop k old.tape) total

  pub moved_rest : rest_of new ≡ rest_of old
  moved_rest = (λ j. drop (at j) (tape j))

  moved_length : length new.tape ≡ length old.tape - old.at
  moved_length = ap length tape ∙ length-drop old.at old.tape

  pub moved_unread : unread new ≡ unread old
  moved_unread =
      let n = moved_length in
      let next = ap (λ (p : Place). p.next) place in
      let text = ap (λ (p : Place). length p.line.text.items) place in
      omega (arith, n, next, text, order)

  pub moved_course : (limits : Limits) → new.frames ≡ old.frames → IsCourse limits old → IsCourse limits new
  moved_course limits frames h =
      let n = moved_length in
      let next = ap (λ (p : Place). p.next) place in
      let text = ap (λ (p : Place). length p.line.text.items) place in
      let fits = h.place.fits in
      let line : new.place.line ≡ old.place.line = ap (λ (p : Place). p.line) place in
      let staged : new.place.stage ≡ old.place.stage = ap (λ (p : Place). p.stage) place in
      record {
        order = omega (arith, at);
        place = record {
          fits = omega (arith, n, next, text, fits, order);
          taken = (subst (λ x. IsTaken new.place.line x) (sym same_place) (subst (λ t. IsTaken t (drop old.place.next old.tape)) (sym line) h.place.taken));
          stage = subst IsStage (sym staged) h.place.stage;
          alone = λ none. ap (λ (t : Taken). t.text.items) line ∙ h.place.alone (ap is_line (sym staged) ∙ none);
        };
        resumes = λ m. ap (λ x. reading limits limits.depth (x ++ m)) moved_rest ∙ h.resumes m ∙ (λ j. resumed_at limits (sym frames j).items (sym staged j) (sym same_place j ++ m));
      }
