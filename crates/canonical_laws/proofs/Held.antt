-- What holds of all that a reader finds passes from the parts to the whole.
use Rattle.std.proofs.Common.{◌≡◌, ℕ, ◌≤◌, List, [], ◌∷◌, length, take, drop, Option, Some, None, Bool, true, false, cond, refl, subst, arith}
use Rattle.std.proofs.lemmas.List.{length-take-le}
use Rattle.std.proofs.lemmas.Bool.Decides.{nat_tests}
use Rattle.std.specs.Prelude.{◌==◌, ◌&&◌, nat_le, nat_lt, is_some}
use Rattle.resp_read.specs.Grammar.{fits, natural, at_most, at_least, digits_after, reader_limits}
use Rattle.resp_read.specs.Parser.{read, short, bad, ended, held, unended, broken, Found, found_and_then, found_map, Line, after_return, byte_before, line, LineForm, line_found, line_as, found, count_line, fed, closed, body}
use Rattle.resp_read.specs.Limits.{default_limits}
use Rattle.resp_read.proofs.LineLaws.{fits_within}
use Rattle.canonical_laws.specs.Readable.{has_return, IsLine}

-- what was read, if something was, is such a thing
abbrev pub IfRead : {A : Type 0} → (A → Type 0) → Found A → Type 0
IfRead P (read a rest) = P a
IfRead P short = Unit {0}
IfRead P bad = Unit {0}

module _ {A : Type 0} (P : A → Type 0) where
  pub was_read : (x : Found A) (a : A) (rest : List ℕ) → IfRead P x → x ≡ read a rest → P a
  was_read x a rest h e = subst (IfRead P) e h

  pub held_if : (c : Bool) (x y : Found A) → IfRead P x → IfRead P y → IfRead P (cond c x y)
  held_if true x y h k = h
  held_if false x y h k = k

module _ {A B : Type 0} (P : A → Type 0) (Q : B → Type 0) where
  pub held_then : (g : A → List ℕ → Found B) (x : Found A) → IfRead P x → ((a : A) (rest : List ℕ) → P a → IfRead Q (g a rest)) → IfRead Q (found_and_then g x)
  held_then g (read a rest) h k = k a rest h
  held_then g short h k = tt
  held_then g bad h k = tt

  pub held_map : (f : A → B) (x : Found A) → IfRead P x → ((a : A) → P a → Q (f a)) → IfRead Q (found_map f x)
  held_map f (read a rest) h k = k a h
  held_map f short h k = tt
  held_map f bad h k = tt

-- a line that has ended has no CR in it
abbrev HasNoReturn : Line → Type 0
HasNoReturn (ended l rest) = has_return l ≡ false
HasNoReturn (held l) = Unit {0}
HasNoReturn (unended l) = Unit {0}
HasNoReturn broken = Unit {0}

feed_by : (c : Bool) (bs : List ℕ) → HasNoReturn (cond c (ended [] bs) broken)
feed_by true bs = refl
feed_by false bs = tt

return_ends : (bs : List ℕ) → HasNoReturn (after_return bs)
return_ends [] = tt
return_ends (b ∷ bs) = feed_by (b == 10) bs

other_before : (b : ℕ) (x : Line) → (b == 13) ≡ false → HasNoReturn x → HasNoReturn (byte_before b x)
other_before b (ended l rest) e h = rw e h
other_before b (held l) e h = tt
other_before b (unended l) e h = tt
other_before b broken e h = tt

line_by : (c : Bool) (b : ℕ) (bs : List ℕ) → (b == 13) ≡ c → HasNoReturn (line bs) → HasNoReturn (cond c (after_return bs) (byte_before b (line bs)))
line_by true b bs e h = return_ends bs
line_by false b bs e h = other_before b (line bs) e h

line_ends : (bs : List ℕ) → HasNoReturn (line bs)
line_ends [] = tt
line_ends (b ∷ bs) = line_by (b == 13) b bs refl (line_ends bs)

-- what the form makes of a line
module _ {A : Type 0} (form : LineForm A) (P : A → Type 0) (made : (l : List ℕ) (a : A) → IsLine reader_limits l → form.whole l ≡ Some a → P a) where
  found_by : (l rest : List ℕ) (o : Option A) → IsLine reader_limits l → form.whole l ≡ o → IfRead P (found o rest)
  found_by l rest (Some a) h is = made l a h is
  found_by l rest None h is = tt

  fits_by : (l rest : List ℕ) (c : Bool) → has_return l ≡ false → fits reader_limits l ≡ c → IfRead P (cond c (found (form.whole l) rest) bad)
  fits_by l rest true h fit = found_by l rest (form.whole l) (h, fits_within default_limits l fit) refl
  fits_by l rest false h fit = tt

  line_made : (x : Line) → HasNoReturn x → IfRead P (line_found reader_limits form x)
  line_made (ended l rest) h = fits_by l rest (fits reader_limits l) h refl
  line_made (held l) h = held_if P (fits reader_limits l && is_some (form.whole l)) short bad tt tt
  line_made (unended l) h = held_if P (fits reader_limits l && form.begun l) short bad tt tt
  line_made broken h = tt

  pub held_line : (bs : List ℕ) → IfRead P (line_as reader_limits form bs)
  held_line bs = line_made (line bs) (line_ends bs)

-- a length is within its limits
pub some_is : {A : Type 0} (a b : A) → ◌≡◌ {A = Option A} (Some a) (Some b) → a ≡ b
some_is a b e = cc

at_most_by : (most k n : ℕ) (c : Bool) → nat_le k most ≡ c → cond c (Some k) None ≡ Some n → n ≤ most
at_most_by most k n true is e = let same = some_is k n e in subst (λ m. m ≤ most) same (grind (arith, nat_tests))
at_most_by most k n false is e = cc

no_more : (most n : ℕ) (o : Option ℕ) → at_most (Some most) o ≡ Some n → n ≤ most
no_more most n None e = cc
no_more most n (Some k) e = at_most_by most k n (nat_le k most) refl e

pub natural_fits : (most n : ℕ) (l : List ℕ) → natural (Some most) l ≡ Some n → n ≤ most
natural_fits most n [] e = cc
natural_fits most n (b ∷ bs) e = no_more most n (digits_after 0 (b ∷ bs)) e

at_least_by : (least k n : ℕ) (c : Bool) → nat_le least k ≡ c → cond c (Some k) None ≡ Some n → (least ≤ n) × (k ≡ n)
at_least_by least k n true is e = let same = some_is k n e in (subst (λ m. least ≤ m) same (grind (arith, nat_tests)), same)
at_least_by least k n false is e = cc

no_fewer : (least most n : ℕ) (l : List ℕ) (o : Option ℕ) → natural (Some most) l ≡ o → at_least least o ≡ Some n → (least ≤ n) × (n ≤ most)
no_fewer least most n l None is e = cc
no_fewer least most n l (Some k) is e =
    let b = at_least_by least k n (nat_le least k) refl e in
    (b.0, subst (λ m. m ≤ most) b.1 (natural_fits most k l is))

abbrev pub IsBetween : ℕ → ℕ → ℕ → Type 0
IsBetween least most n = (least ≤ n) × (n ≤ most)

pub held_count : (least most : ℕ) (bs : List ℕ) → IfRead (IsBetween least most) (line_as reader_limits (count_line reader_limits least (Some most)) bs)
held_count least most bs = held_line (count_line reader_limits least (Some most)) (IsBetween least most) (λ l n h is. no_fewer least most n l (natural (Some most) l) refl is) bs

-- a body has as many bytes as were announced
module _ (P : List ℕ → Type 0) (t : List ℕ) (h : P t) where
  held_fed : (bs : List ℕ) → IfRead P (fed t bs)
  held_fed [] = tt
  held_fed (b ∷ bs) = held_if P (b == 10) (read t bs) bad h tt

  pub held_closed : (bs : List ℕ) → IfRead P (closed t bs)
  held_closed [] = tt
  held_closed (b ∷ bs) = held_if P (b == 13) (fed t bs) bad (held_fed bs) tt

abbrev pub HasLength : ℕ → List ℕ → Type 0
HasLength n text = length text ≡ n

body_by : (n : ℕ) (bs : List ℕ) (c : Bool) → nat_lt (length bs) n ≡ c → IfRead (HasLength n) (cond c short (closed (take n bs) (drop n bs)))
body_by n bs true is = tt
body_by n bs false is =
    let some : n ≤ length bs = grind (arith, nat_tests) in
    held_closed (HasLength n) (take n bs) (length-take-le n bs some) (drop n bs)

pub held_body : (n : ℕ) (bs : List ℕ) → IfRead (HasLength n) (body n bs)
held_body n bs = body_by n bs (nat_lt (length bs) n) refl
