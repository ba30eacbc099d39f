-- What stands at a place of the tape, and what becomes of it when bytes follow.
use Rattle.std.proofs.Common.{◌≡◌, ℕ, suc, ◌<◌, ◌+◌, ◌-◌, List, [], ◌∷◌, ◌++◌, length, get_or, take, drop, append_assoc, length-append, length-take-le, Ok, Err, Option, Some, None, Bool, true, false, cond, refl, sym, ap, ◌∙◌, arith}
use Rattle.std.proofs.lemmas.List.{drop_more, take-append-drop, drop_at, take_at, append-nil}
use Rattle.std.proofs.lemmas.Bool.Decides.{nat_tests}
use Rattle.std.specs.Prelude.{◌==◌, MatchOption}
use Rattle.resp_value.specs.Data.{Data}
use Rattle.resp_read.specs.Parser.{read, bad, Found, found_and_then, line, fed, closed, body, format, colon, chosen, plain, nested, innermost, line_found, count_line}
use Rattle.resp_read.specs.Limits.{bounds, reading}
use Rattle.resp_read.specs.declared.limits.Limits.{Limits}
use Rattle.resp_read.specs.Parts.{has}
use Rattle.resp_read.specs.Frames.{begun_as}
use Rattle.resp_read.specs.declared.forms.Refusal.TheVariants.{Bad}
use Rattle.resp_read.specs.declared.frames.Begun.{Begun}
use Rattle.resp_read.specs.declared.stages.Head.{Head}
use Rattle.resp_read.specs.declared.stages.Head.TheVariants.{Kind, KindLength}
use Rattle.resp_read.specs.declared.stages.Part.{Part}
use Rattle.resp_read.specs.Stages.{head_on, kind_with, part_as, format_then, after_feed, IsHeadOf, IsKindOf, IsBody, IsFormat}
use Rattle.resp_read.proofs.FrameLaws.{then_then}
use Rattle.resp_read.proofs.ParseLaws.{parse_plain, form_more}
use Rattle.resp_read.proofs.Bodies.{body_enough, bytes_enough}

-- what begins with a byte, by the tables of forms
module _ (limits : Limits) (b : ℕ) where
  pub plain_head_of : (n : ℕ) (o : Option Head) → has (plain (bounds limits)) b ≡ true → MatchOption o ((most : Limits) (bs : List ℕ) → chosen (plain (bounds most)) b bs ≡ bad) (λ h. (most : Limits) (inside : List ℕ → Found Data) (bs : List ℕ) → chosen (plain (bounds most)) b bs ≡ head_on (bounds most) inside h (line bs)) → IsHeadOf limits n b o
  plain_head_of n None is h = λ bs. parse_plain limits n b bs is ∙ h limits bs
  plain_head_of n (Some head) is h = λ bs. parse_plain limits n b bs is ∙ h limits (reading limits (n - 1)) bs

  pub nested_head_of : (n : ℕ) (o : Option Head) → 0 < n → has (plain (bounds limits)) b ≡ false → ((most : Limits) (inside : List ℕ → Found Data) (bs : List ℕ) → MatchOption o (chosen (nested (bounds most) inside) b bs ≡ bad) (λ h. chosen (nested (bounds most) inside) b bs ≡ head_on (bounds most) inside h (line bs))) → IsHeadOf limits n b o
  nested_head_of n None some not h =
      let more : n ≡ suc (n - 1) = omega (arith, some) in
      λ bs. ap (λ d. reading limits d (b ∷ bs)) more ∙ form_more limits (nested (bounds limits) (reading limits (n - 1))) b bs not ∙ h limits (reading limits (n - 1)) bs
  nested_head_of n (Some head) some not h =
      let more : n ≡ suc (n - 1) = omega (arith, some) in
      λ bs. ap (λ d. reading limits d (b ∷ bs)) more ∙ form_more limits (nested (bounds limits) (reading limits (n - 1))) b bs not ∙ h limits (reading limits (n - 1)) bs

  pub innermost_head_of : (n : ℕ) (o : Option Head) → n ≡ 0 → has (plain (bounds limits)) b ≡ false → ((most : Limits) (inside : List ℕ → Found Data) (bs : List ℕ) → MatchOption o (chosen (innermost (bounds most)) b bs ≡ bad) (λ h. chosen (innermost (bounds most)) b bs ≡ head_on (bounds most) inside h (line bs))) → IsHeadOf limits n b o
  innermost_head_of n None none not h = λ bs. ap (λ d. reading limits d (b ∷ bs)) none ∙ form_more limits (innermost (bounds limits)) b bs not ∙ h limits (reading limits (n - 1)) bs
  innermost_head_of n (Some head) none not h = λ bs. ap (λ d. reading limits d (b ∷ bs)) none ∙ form_more limits (innermost (bounds limits)) b bs not ∙ h limits (reading limits (n - 1)) bs

-- the kind of a push
pub kind_text_of : (n b : ℕ) → b ≡ 43 → IsKindOf n b (Some (Kind n))
kind_text_of n b is = λ limits inside bs. let c : (b == 43) ≡ true = grind (arith, nat_tests) in rw c refl

pub kind_length_of : (n b : ℕ) → b ≡ 36 → IsKindOf n b (Some (KindLength n))
kind_length_of n b is = λ limits inside bs.
    let c : (b == 43) ≡ false = grind (arith, nat_tests) in
    let d : (b == 36) ≡ true = grind (arith, nat_tests) in
    rw (c, d) (then_then body (kind_with inside n) (line_found limits (count_line limits 0 limits.bulk) (line bs)))

pub no_kind_of : (n b : ℕ) → (b ≡ 43 → ⊥) → (b ≡ 36 → ⊥) → IsKindOf n b None
no_kind_of n b not nor = λ limits inside bs.
    let c : (b == 43) ≡ false = grind (arith, nat_tests) in
    let d : (b == 36) ≡ false = grind (arith, nat_tests) in
    rw (c, d) refl

-- LF, and what follows
fed_by : {A B : Type 0} (c : Bool) (f : A → List ℕ → Found B) (t : A) (x : List ℕ) → found_and_then f (cond c (read t x) bad) ≡ cond c (f t x) bad
fed_by true f t x = refl
fed_by false f t x = refl

fed_then : (f : List ℕ → List ℕ → Found Data) (t x : List ℕ) → found_and_then f (fed t x) ≡ after_feed (f t) x
fed_then f t [] = refl
fed_then f t (b ∷ x) = fed_by (b == 10) f t x

pub after_feed_same : (f g : List ℕ → Found Data) → ((x : List ℕ) → f x ≡ g x) → (x : List ℕ) → after_feed f x ≡ after_feed g x
after_feed_same f g same [] = refl
after_feed_same f g same (b ∷ x) = ap (λ y. cond (b == 10) y bad) (same x)

-- the text that has a byte behind n others
pub splits : (n : ℕ) (rest : List ℕ) → n < length rest → rest ≡ take n rest ++ get_or rest n 0 ∷ drop (n + 1) rest
splits n rest h = sym (take-append-drop n rest) ∙ ap (λ x. take n rest ++ x) (drop_more rest n 0 h)

body_closed : (n : ℕ) (t : List ℕ) (b : ℕ) (x : List ℕ) → length t ≡ n → body n (t ++ b ∷ x) ≡ closed t (b ∷ x)
body_closed n t b x is =
    body_enough n (t ++ b ∷ x) (omega (arith, is, length-append t (b ∷ x)))
    ∙ (λ j. closed (take_at t (b ∷ x) n is j) (drop_at t (b ∷ x) n is j))

module _ (rest : List ℕ) (n b : ℕ) (h : n < length rest) (is : b ≡ get_or rest n 0) where
  body_at : (m : List ℕ) → body n (rest ++ m) ≡ closed (take n rest) (b ∷ drop (n + 1) rest ++ m)
  body_at m =
      let t = take n rest in
      let whole : rest ++ m ≡ t ++ b ∷ (drop (n + 1) rest ++ m) = ap (λ x. x ++ m) (splits n rest h ∙ ap (λ y. t ++ y ∷ drop (n + 1) rest) (sym is)) ∙ append_assoc t (b ∷ drop (n + 1) rest) m in
      ap (body n) whole ∙ body_closed n t b (drop (n + 1) rest ++ m) (length-take-le n rest (omega (arith, h)))

  pub body_comes : (p : Part) (w : Begun) → b ≡ 13 → ((inside : List ℕ → Found Data) (bs : List ℕ) → part_as inside p (take n rest) bs ≡ begun_as inside w bs) → IsBody p n rest (Ok w)
  body_comes p w return same = λ limits inside m.
      let c : (b == 13) ≡ true = grind (arith, nat_tests) in
      let x = drop (n + 1) rest ++ m in
      ap (found_and_then (part_as inside p)) (body_at m ∙ ap (λ d. cond d (fed (take n rest) x) bad) c) ∙ fed_then (part_as inside p) (take n rest) x
      ∙ after_feed_same (part_as inside p (take n rest)) (begun_as inside w) (same inside) x

  pub no_body : (p : Part) → (b ≡ 13 → ⊥) → IsBody p n rest (Err Bad)
  no_body p other = λ limits inside.
      let c : (b == 13) ≡ false = grind (arith, nat_tests) in
      ap (found_and_then (part_as inside p)) (ap (body n) (sym (append-nil rest)) ∙ body_at [] ∙ ap (λ d. cond d (fed (take n rest) (drop (n + 1) rest ++ [])) bad) c)

module _ (rest : List ℕ) (n b : ℕ) (h : 3 < length rest) (is : b ≡ get_or rest 3 0) where
  format_at : (m : List ℕ) → format (rest ++ m) ≡ colon (take 3 rest) (b ∷ drop 4 rest ++ m)
  format_at m =
      let t = take 3 rest in
      let size : length t ≡ 3 = length-take-le 3 rest (omega (arith, h)) in
      let x = drop 4 rest ++ m in
      let whole : rest ++ m ≡ t ++ b ∷ x = ap (λ x. x ++ m) (splits 3 rest h ∙ ap (λ y. t ++ y ∷ drop 4 rest) (sym is)) ∙ append_assoc t (b ∷ drop 4 rest) m in
      ap format whole
      ∙ ap (found_and_then colon) (bytes_enough 3 (t ++ b ∷ x) (omega (arith, size, length-append t (b ∷ x))) ∙ (λ j. read (take_at t (b ∷ x) 3 size j) (drop_at t (b ∷ x) 3 size j)))

  pub format_comes : b ≡ 58 → IsFormat n rest (Ok (take 3 rest))
  format_comes mark = λ limits inside m.
      let c : (b == 58) ≡ true = grind (arith, nat_tests) in
      let x = drop 4 rest ++ m in
      ap (found_and_then (format_then n)) (format_at m ∙ ap (λ d. cond d (read (take 3 rest) x) bad) c)

  pub no_format : (b ≡ 58 → ⊥) → IsFormat n rest (Err Bad)
  no_format other = λ limits inside.
      let c : (b == 58) ≡ false = grind (arith, nat_tests) in
      ap (found_and_then (format_then n)) (ap format (sym (append-nil rest)) ∙ format_at [] ∙ ap (λ d. cond d (read (take 3 rest) (drop 4 rest ++ [])) bad) c)
