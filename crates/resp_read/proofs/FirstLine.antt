-- The first line of a text, when bytes stand before it or follow.
use Rattle.std.proofs.Common.{◌≡◌, ℕ, List, [], ◌∷◌, ◌++◌, Bool, true, false, cond, refl, sym, ap, ◌∙◌}
use Rattle.std.specs.Prelude.{◌==◌}
use Rattle.resp_read.specs.Parser.{ended, held, unended, broken, Line, after_return, byte_before, line}

-- the line with these bytes before it
abbrev pub bytes_before : List ℕ → Line → Line
bytes_before [] x = x
bytes_before (b ∷ bs) x = byte_before b (bytes_before bs x)

pub before-ended : (p l rest : List ℕ) → bytes_before p (ended l rest) ≡ ended (p ++ l) rest
before-ended [] l rest = refl
before-ended (b ∷ p) l rest = ap (byte_before b) (before-ended p l rest)

pub before-held : (p l : List ℕ) → bytes_before p (held l) ≡ held (p ++ l)
before-held [] l = refl
before-held (b ∷ p) l = ap (byte_before b) (before-held p l)

pub before-unended : (p l : List ℕ) → bytes_before p (unended l) ≡ unended (p ++ l)
before-unended [] l = refl
before-unended (b ∷ p) l = ap (byte_before b) (before-unended p l)

pub before-broken : (p : List ℕ) → bytes_before p broken ≡ broken
before-broken [] = refl
before-broken (b ∷ p) = ap (byte_before b) (before-broken p)

pub before-push : (p : List ℕ) (b : ℕ) (x : Line) → bytes_before (p ++ b ∷ []) x ≡ bytes_before p (byte_before b x)
before-push [] b x = refl
before-push (c ∷ p) b x = ap (byte_before c) (before-push p b x)

-- the first line once these bytes follow
abbrev pub going_on : Line → List ℕ → Line
going_on (ended l rest) m = ended l (rest ++ m)
going_on (held l) m = bytes_before l (after_return m)
going_on (unended l) m = bytes_before l (line m)
going_on broken m = broken

going_on-byte_before : (b : ℕ) (x : Line) (m : List ℕ) → going_on (byte_before b x) m ≡ byte_before b (going_on x m)
going_on-byte_before b (ended l rest) m = refl
going_on-byte_before b (held l) m = refl
going_on-byte_before b (unended l) m = refl
going_on-byte_before b broken m = refl

return_by : (c : Bool) (bs m : List ℕ) → cond c (ended [] (bs ++ m)) broken ≡ going_on (cond c (ended [] bs) broken) m
return_by true bs m = refl
return_by false bs m = refl

after_return-append : (bs m : List ℕ) → after_return (bs ++ m) ≡ going_on (after_return bs) m
after_return-append [] m = refl
after_return-append (b ∷ bs) m = return_by (b == 10) bs m

line_by : (c : Bool) (b : ℕ) (x y : Line) (m : List ℕ) (v w : Line) → v ≡ going_on x m → w ≡ going_on y m → cond c v (byte_before b w) ≡ going_on (cond c x (byte_before b y)) m
line_by true b x y m v w h k = h
line_by false b x y m v w h k = ap (byte_before b) k ∙ sym (going_on-byte_before b y m)

pub line-append : (bs m : List ℕ) → line (bs ++ m) ≡ going_on (line bs) m
line-append [] m = refl
line-append (b ∷ bs) m = line_by (b == 13) b (after_return bs) (line bs) m (after_return (bs ++ m)) (line (bs ++ m)) (after_return-append bs m) (line-append bs m)

-- the text that a line was read from
abbrev pub text_of : Line → List ℕ
text_of (ended l rest) = l ++ 13 ∷ 10 ∷ rest
text_of (held l) = l ++ 13 ∷ []
text_of (unended l) = l
text_of broken = []
