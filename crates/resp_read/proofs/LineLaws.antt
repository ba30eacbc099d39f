-- A line of a form, whose front and whole agree, is lawful.
use Rattle.std.proofs.Common.{◌≡◌, ℕ, ◌≤◌, List, [], ◌∷◌, ◌++◌, length, Option, Some, None, Bool, true, false, cond, refl, sym, ap, ◌∙◌, subst, append_assoc, arith, length-append}
use Rattle.std.proofs.lemmas.List.{append-nil}
use Rattle.std.proofs.lemmas.Bool.Decides.{nat_tests}
use Rattle.std.specs.Prelude.{◌==◌}
use Rattle.resp_read.specs.Grammar.{fits}
use Rattle.resp_read.specs.Parser.{read, short, bad, ended, held, unended, broken, Line, after_return, byte_before, line, LineForm, line_found, line_as}
use Rattle.resp_read.specs.Limits.{bounds, least_line, AreAllowed}
use Rattle.resp_read.specs.declared.limits.Limits.{Limits}
use Rattle.resp_read.proofs.FirstLine.{bytes_before, before-ended, before-held, before-unended, before-broken, going_on, line-append}
use Rattle.resp_read.proofs.Laws.{LawfulAt, Lawful, lawful_where_read, lawful_where_short, lawful_where_bad}

-- these bytes are a whole line
abbrev pub IsOneLine : List ℕ → Type 0
IsOneLine q = line (q ++ 13 ∷ 10 ∷ []) ≡ ended q []

-- a front that the form takes can be made a line of it, and one that it does not take can't
pub record LawfulLine (limits : Limits) {A : Type 0} (form : LineForm A) : Type 0 where
  pub can : (l : List ℕ) → length l ≤ limits.line → form.begun l ≡ true → (q : List ℕ) × (a : A) × (form.whole (l ++ q) ≡ Some a) × (length (l ++ q) ≤ limits.line) × IsOneLine q
  pub cannot : (l q : List ℕ) → length (l ++ q) ≤ limits.line → form.begun l ≡ false → form.whole (l ++ q) ≡ None

-- a line of a few bytes is within all limits that are allowed
pub few_fit : (limits : Limits) → AreAllowed limits → {n : ℕ} → n ≤ least_line → n ≤ limits.line
few_fit limits allowed h = omega (arith, allowed.line_least, h)

pub fits_is : (limits : Limits) (l : List ℕ) → length l ≤ limits.line → fits (bounds limits) l ≡ true
fits_is limits l h = grind (arith, nat_tests)

pub fits_within : (limits : Limits) (l : List ℕ) → fits (bounds limits) l ≡ true → length l ≤ limits.line
fits_within limits l h = grind (arith, nat_tests)

longer : (limits : Limits) (l q : List ℕ) → fits (bounds limits) l ≡ false → fits (bounds limits) (l ++ q) ≡ true → ⊥
longer limits l q long on = let e = length-append l q in grind (arith, nat_tests)

-- the text that a line was found in
abbrev IsOf : Line → List ℕ → Type 0
IsOf (ended l rest) bs = bs ≡ l ++ 13 ∷ 10 ∷ rest
IsOf (held l) bs = Unit {0}
IsOf (unended l) bs = Unit {0}
IsOf broken bs = Unit {0}

of_before : (b : ℕ) (x : Line) (bs : List ℕ) → IsOf x bs → IsOf (byte_before b x) (b ∷ bs)
of_before b (ended l rest) bs h = ap (λ t. b ∷ t) h
of_before b (held l) bs h = tt
of_before b (unended l) bs h = tt
of_before b broken bs h = tt

of_feed : (c : Bool) (b : ℕ) (bs : List ℕ) → (c ≡ true → b ≡ 10) → IsOf (cond c (ended [] bs) broken) (13 ∷ b ∷ bs)
of_feed true b bs h = ap (λ x. 13 ∷ x ∷ bs) (h refl)
of_feed false b bs h = tt

of_return : (bs : List ℕ) → IsOf (after_return bs) (13 ∷ bs)
of_return [] = tt
of_return (b ∷ bs) = of_feed (b == 10) b bs (λ h. grind (arith, nat_tests))

of_by : (c : Bool) (b : ℕ) (bs : List ℕ) → (c ≡ true → b ≡ 13) → IsOf (line bs) bs → IsOf (cond c (after_return bs) (byte_before b (line bs))) (b ∷ bs)
of_by true b bs h k = rw (h refl) (of_return bs)
of_by false b bs h k = of_before b (line bs) bs k

line_of : (bs : List ℕ) → IsOf (line bs) bs
line_of [] = tt
line_of (b ∷ bs) = of_by (b == 13) b bs (λ h. grind (arith, nat_tests)) (line_of bs)

module _ (limits : Limits) {A : Type 0} (form : LineForm A) (lawful : LawfulLine limits form) where
  -- the line that goes on after l
  found_on : (x : Line) (bs m : List ℕ) → line bs ≡ x → line_as (bounds limits) form (bs ++ m) ≡ line_found (bounds limits) form (going_on x m)
  found_on x bs m is = ap (line_found (bounds limits) form) (line-append bs m ∙ ap (λ y. going_on y m) is)

  read_end : (x : Line) (bs l rest : List ℕ) → line bs ≡ x → x ≡ ended l rest → bs ≡ (l ++ 13 ∷ 10 ∷ []) ++ rest
  read_end x bs l rest is e =
      let h : IsOf (ended l rest) bs = subst (λ y. IsOf y bs) (is ∙ e) (line_of bs) in
      h ∙ sym (append_assoc l (13 ∷ 10 ∷ []) rest)

  -- bytes that make no line of the form, whatever follows
  never : (x : Line) (bs : List ℕ) → line bs ≡ x → ((m : List ℕ) → line_found (bounds limits) form (going_on x m) ≡ bad) → line_found (bounds limits) form x ≡ bad → LawfulAt (line_as (bounds limits) form) bs
  never x bs is more now = lawful_where_bad (line_as (bounds limits) form) bs (ap (line_found (bounds limits) form) is ∙ now) (λ m. found_on x bs m is ∙ more m)

  ended_by : (bs l rest : List ℕ) → line bs ≡ ended l rest → (c : Bool) (o : Option A) → fits (bounds limits) l ≡ c → form.whole l ≡ o → LawfulAt (line_as (bounds limits) form) bs
  ended_by bs l rest is true (Some v) fit whole =
      let there : (r : List ℕ) → line_found (bounds limits) form (ended l r) ≡ read v r = λ r. rw (fit, whole) refl in
      lawful_where_read (line_as (bounds limits) form) bs v rest (l ++ 13 ∷ 10 ∷ []) (ap (line_found (bounds limits) form) is ∙ there rest) (λ m. found_on (ended l rest) bs m is ∙ there (rest ++ m)) (read_end (ended l rest) bs l rest is refl)
  ended_by bs l rest is true None fit whole =
      let there : (r : List ℕ) → line_found (bounds limits) form (ended l r) ≡ bad = λ r. rw (fit, whole) refl in
      never (ended l rest) bs is (λ m. there (rest ++ m)) (there rest)
  ended_by bs l rest is false o fit whole =
      let there : (r : List ℕ) → line_found (bounds limits) form (ended l r) ≡ bad = λ r. rw fit refl in
      never (ended l rest) bs is (λ m. there (rest ++ m)) (there rest)

  -- what a whole line is judged, when its LF comes and when it doesn't
  held_bad : (c : Bool) (l m : List ℕ) → line_found (bounds limits) form (ended l m) ≡ bad → line_found (bounds limits) form (cond c (ended l m) broken) ≡ bad
  held_bad true l m h = h
  held_bad false l m h = refl

  before_cond : (c : Bool) (l m : List ℕ) → bytes_before l (cond c (ended [] m) broken) ≡ cond c (ended l m) broken
  before_cond true l m = before-ended l [] m ∙ ap (λ x. ended x m) (append-nil l)
  before_cond false l m = before-broken l

  held_on : (l m : List ℕ) → line_found (bounds limits) form (held l) ≡ bad → ((r : List ℕ) → line_found (bounds limits) form (ended l r) ≡ bad) → line_found (bounds limits) form (going_on (held l) m) ≡ bad
  held_on l [] h k = ap (line_found (bounds limits) form) (before-held l [] ∙ ap held (append-nil l)) ∙ h
  held_on l (b ∷ m) h k = ap (line_found (bounds limits) form) (before_cond (b == 10) l m) ∙ held_bad (b == 10) l m (k m)

  held_by : (bs l : List ℕ) → line bs ≡ held l → (c : Bool) (o : Option A) → fits (bounds limits) l ≡ c → form.whole l ≡ o → LawfulAt (line_as (bounds limits) form) bs
  held_by bs l is true (Some v) fit whole =
      let now : line_found (bounds limits) form (held l) ≡ short = rw (fit, whole) refl in
      let then_read : line_found (bounds limits) form (ended l []) ≡ read v [] = rw (fit, whole) refl in
      lawful_where_short (line_as (bounds limits) form) bs (ap (line_found (bounds limits) form) is ∙ now) (10 ∷ []) v (found_on (held l) bs (10 ∷ []) is ∙ ap (line_found (bounds limits) form) (before_cond true l []) ∙ then_read)
  held_by bs l is true None fit whole =
      let now : line_found (bounds limits) form (held l) ≡ bad = rw (fit, whole) refl in
      never (held l) bs is (λ m. held_on l m now (λ r. rw (fit, whole) refl)) now
  held_by bs l is false o fit whole =
      let now : line_found (bounds limits) form (held l) ≡ bad = rw fit refl in
      never (held l) bs is (λ m. held_on l m now (λ r. rw fit refl)) now

  -- no line that starts so is of the form
  abbrev IsHopeless : List ℕ → Type 0
  IsHopeless l = (q : List ℕ) → (fits (bounds limits) (l ++ q) ≡ true → form.whole (l ++ q) ≡ None) × (fits (bounds limits) (l ++ q) ≡ true → form.begun (l ++ q) ≡ false)

  whole_judged : (l rest : List ℕ) (c : Bool) → fits (bounds limits) l ≡ c → (fits (bounds limits) l ≡ true → form.whole l ≡ None) → line_found (bounds limits) form (ended l rest) ≡ bad
  whole_judged l rest true fit h = rw (fit, h fit) refl
  whole_judged l rest false fit h = rw fit refl

  held_judged : (l : List ℕ) (c : Bool) → fits (bounds limits) l ≡ c → (fits (bounds limits) l ≡ true → form.whole l ≡ None) → line_found (bounds limits) form (held l) ≡ bad
  held_judged l true fit h = rw (fit, h fit) refl
  held_judged l false fit h = rw fit refl

  front_judged : (l : List ℕ) (c : Bool) → fits (bounds limits) l ≡ c → (fits (bounds limits) l ≡ true → form.begun l ≡ false) → line_found (bounds limits) form (unended l) ≡ bad
  front_judged l true fit h = rw (fit, h fit) refl
  front_judged l false fit h = rw fit refl

  hopeless_on : (l : List ℕ) (x : Line) → IsHopeless l → line_found (bounds limits) form (bytes_before l x) ≡ bad
  hopeless_on l (ended q rest) h = ap (line_found (bounds limits) form) (before-ended l q rest) ∙ whole_judged (l ++ q) rest (fits (bounds limits) (l ++ q)) refl (h q).0
  hopeless_on l (held q) h = ap (line_found (bounds limits) form) (before-held l q) ∙ held_judged (l ++ q) (fits (bounds limits) (l ++ q)) refl (h q).0
  hopeless_on l (unended q) h = ap (line_found (bounds limits) form) (before-unended l q) ∙ front_judged (l ++ q) (fits (bounds limits) (l ++ q)) refl (h q).1
  hopeless_on l broken h = ap (line_found (bounds limits) form) (before-broken l)

  not_begun : (l q : List ℕ) → length l ≤ limits.line → form.begun l ≡ false → (c : Bool) → form.begun (l ++ q) ≡ c → fits (bounds limits) (l ++ q) ≡ true → c ≡ false
  not_begun l q fit h false is fit_on = refl
  not_begun l q fit h true is fit_on =
      let can = lawful.can (l ++ q) (fits_within limits (l ++ q) fit_on) is in
      let e : form.whole (l ++ (q ++ can.0)) ≡ Some can.1 = ap form.whole (sym (append_assoc l q can.0)) ∙ can.2 in
      let long : length (l ++ (q ++ can.0)) ≤ limits.line = subst (λ x. length x ≤ limits.line) (append_assoc l q can.0) can.3 in
      let none : form.whole (l ++ (q ++ can.0)) ≡ None = lawful.cannot l (q ++ can.0) long h in
      cc

  hopeless : (l : List ℕ) → length l ≤ limits.line → form.begun l ≡ false → IsHopeless l
  hopeless l fit h q = (λ on. lawful.cannot l q (fits_within limits (l ++ q) on) h, λ on. not_begun l q fit h (form.begun (l ++ q)) refl on)

  too_long : (l : List ℕ) → fits (bounds limits) l ≡ false → IsHopeless l
  too_long l long q = (λ on. absurd (longer limits l q long on), λ on. absurd (longer limits l q long on))

  unended_by : (bs l : List ℕ) → line bs ≡ unended l → (c d : Bool) → fits (bounds limits) l ≡ c → form.begun l ≡ d → LawfulAt (line_as (bounds limits) form) bs
  unended_by bs l is true true fit begun =
      let can = lawful.can l (fits_within limits l fit) begun in
      let q = can.0 in
      let on : fits (bounds limits) (l ++ q) ≡ true = fits_is limits (l ++ q) can.3 in
      let whole = can.2 in
      let later : line_found (bounds limits) form (ended (l ++ q) []) ≡ read can.1 [] = rw (on, whole) refl in
      let now : line_found (bounds limits) form (unended l) ≡ short = rw (fit, begun) refl in
      lawful_where_short (line_as (bounds limits) form) bs (ap (line_found (bounds limits) form) is ∙ now) (q ++ 13 ∷ 10 ∷ []) can.1
      (found_on (unended l) bs (q ++ 13 ∷ 10 ∷ []) is ∙ ap (λ y. line_found (bounds limits) form (bytes_before l y)) can.4 ∙ ap (line_found (bounds limits) form) (before-ended l q []) ∙ later)
  unended_by bs l is true false fit begun = never (unended l) bs is (λ m. hopeless_on l (line m) (hopeless l (fits_within limits l fit) begun)) (rw (fit, begun) refl)
  unended_by bs l is false d fit begun = never (unended l) bs is (λ m. hopeless_on l (line m) (too_long l fit)) (rw fit refl)

  line_by : (bs : List ℕ) (x : Line) → line bs ≡ x → LawfulAt (line_as (bounds limits) form) bs
  line_by bs (ended l rest) is = ended_by bs l rest is (fits (bounds limits) l) (form.whole l) refl refl
  line_by bs (held l) is = held_by bs l is (fits (bounds limits) l) (form.whole l) refl refl
  line_by bs (unended l) is = unended_by bs l is (fits (bounds limits) l) (form.begun l) refl refl
  line_by bs broken is = never broken bs is (λ m. refl) refl

  pub lawful_line : Lawful (line_as (bounds limits) form)
  lawful_line bs = line_by bs (line bs) refl
