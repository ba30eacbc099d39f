-- The values at the front of a text, one by one, and when the text is cut.
use Rattle.std.proofs.Common.{◌≡◌, ℕ, zero, suc, ◌≤◌, ◌<◌, List, [], ◌∷◌, ◌++◌, length, Bool, true, false, refl, sym, ap, ◌∙◌, subst, append_assoc, arith}
use Rattle.resp_value.specs.Data.{Data}
use Rattle.resp_read.specs.Grammar.{max_depth}
use Rattle.resp_read.specs.Parser.{read, short, bad, Found, parse}
use Rattle.resp_read.specs.Reads.{Reads}
use Rattle.resp_read.specs.Values.{first_and, values_within, values, past_first, left_within, left_over, is_bad, is_spoiled}
use Rattle.resp_read.specs.Limits.{default_limits}
use Rattle.resp_read.proofs.ParseLaws as parsed
use Rattle.resp_read.proofs.ReadLaws.{default_allowed, reads-append, bad-append, reads-ends, reads-shorter, reads_where_found, found_where_reads}

empty_short : parse max_depth [] ≡ short
empty_short = parsed.empty_short default_limits default_allowed max_depth

none_values : (n : ℕ) (bs : List ℕ) → length bs ≤ 0 → values_within n bs ≡ []
none_values zero bs h = refl
none_values (suc n) [] h = ap (first_and (values_within n)) empty_short
none_values (suc n) (b ∷ bs) h = absurd (omega arith)

none_left : (n : ℕ) (bs : List ℕ) → length bs ≤ 0 → left_within n bs ≡ bs
none_left zero bs h = refl
none_left (suc n) [] h = ap (past_first (left_within n) []) empty_short
none_left (suc n) (b ∷ bs) h = absurd (omega arith)

-- two that are large enough give the same
abbrev SameWithin : ℕ → ℕ → List ℕ → Type 0
SameWithin n k bs = (values_within n bs ≡ values_within k bs) × (left_within n bs ≡ left_within k bs)

same_by : (n k : ℕ) (bs : List ℕ) (x : Found Data) → parse max_depth bs ≡ x → length bs ≤ suc n → length bs ≤ suc k
    → ((r : List ℕ) → length r ≤ n → length r ≤ k → SameWithin n k r) → (first_and (values_within n) x ≡ first_and (values_within k) x) × (past_first (left_within n) bs x ≡ past_first (left_within k) bs x)
same_by n k bs (read v r) is h g same = let l = reads-shorter bs v r (reads_where_found bs v r is) in let s = same r (omega arith) (omega arith) in (ap (λ vs. v ∷ vs) s.0, s.1)
same_by n k bs short is h g same = (refl, refl)
same_by n k bs bad is h g same = (refl, refl)

same_within : (n k : ℕ) (bs : List ℕ) → length bs ≤ n → length bs ≤ k → SameWithin n k bs
same_within zero k bs h g = (sym (none_values k bs h), sym (none_left k bs h))
same_within (suc n) zero bs h g = (none_values (suc n) bs g, none_left (suc n) bs g)
same_within (suc n) (suc k) bs h g = same_by n k bs (parse max_depth bs) refl h g (same_within n k)

values_is : (n : ℕ) (bs : List ℕ) → length bs ≤ n → values bs ≡ values_within n bs
unfolding values
values_is n bs h = (same_within (length bs) n bs (omega arith) h).0

left_is : (n : ℕ) (bs : List ℕ) → length bs ≤ n → left_over bs ≡ left_within n bs
unfolding left_over
left_is n bs h = (same_within (length bs) n bs (omega arith) h).1

-- one more value may be read than there are bytes
values_once : (bs : List ℕ) → values bs ≡ first_and (values_within (length bs)) (parse max_depth bs)
values_once bs = values_is (suc (length bs)) bs (omega arith)

left_once : (bs : List ℕ) → left_over bs ≡ past_first (left_within (length bs)) bs (parse max_depth bs)
left_once bs = left_is (suc (length bs)) bs (omega arith)

spoiled_by : (bs cs : List ℕ) → left_over bs ≡ left_over cs → is_spoiled bs ≡ is_spoiled cs
unfolding is_spoiled
spoiled_by bs cs e = ap (λ x. is_bad (parse max_depth x)) e

spoiled_where : (bs : List ℕ) (x : Found Data) → left_over bs ≡ bs → parse max_depth bs ≡ x → is_spoiled bs ≡ is_bad x
unfolding is_spoiled
spoiled_where bs x e is = ap (λ y. is_bad (parse max_depth y)) e ∙ ap is_bad is

pub left_over-read : (bs : List ℕ) (v : Data) (r : List ℕ) → parse max_depth bs ≡ read v r → left_over bs ≡ left_over r
left_over-read bs v r e =
    let l = reads-shorter bs v r (reads_where_found bs v r e) in
    left_once bs ∙ ap (past_first (left_within (length bs)) bs) e ∙ sym (left_is (length bs) r (omega arith))

-- where a value stands first
pub values-read : (bs : List ℕ) (v : Data) (r : List ℕ) → Reads bs v r → (values bs ≡ v ∷ values r) × (left_over bs ≡ left_over r) × (is_spoiled bs ≡ is_spoiled r)
values-read bs v r reads =
    let e = found_where_reads bs v r reads in
    let l = reads-shorter bs v r reads in
    let left = left_over-read bs v r e in
    (values_once bs ∙ ap (first_and (values_within (length bs))) e ∙ ap (λ vs. v ∷ vs) (sym (values_is (length bs) r (omega arith))), left, spoiled_by bs r left)

-- where no value is whole yet
pub values-short : (bs : List ℕ) → parse max_depth bs ≡ short → (values bs ≡ []) × (left_over bs ≡ bs) × (is_spoiled bs ≡ false)
values-short bs e =
    let left = left_once bs ∙ ap (past_first (left_within (length bs)) bs) e in
    (values_once bs ∙ ap (first_and (values_within (length bs))) e, left, spoiled_where bs short left e)

-- where none can begin
pub values-bad : (bs : List ℕ) → parse max_depth bs ≡ bad → (values bs ≡ []) × (left_over bs ≡ bs) × (is_spoiled bs ≡ true)
values-bad bs e =
    let left = left_once bs ∙ ap (past_first (left_within (length bs)) bs) e in
    (values_once bs ∙ ap (first_and (values_within (length bs))) e, left, spoiled_where bs bad left e)

-- an empty text
pub values-empty : (values [] ≡ []) × (left_over [] ≡ []) × (is_spoiled [] ≡ false)
values-empty = values-short [] empty_short

-- where more bytes follow a text that is not spoiled
record Goes (bs m : List ℕ) : Type 0 where
  pub values_go : values (bs ++ m) ≡ values bs ++ values (left_over bs ++ m)
  pub left_goes : left_over (bs ++ m) ≡ left_over (left_over bs ++ m)
  pub spoils : is_spoiled (bs ++ m) ≡ is_spoiled (left_over bs ++ m)

cut_by : (n : ℕ) (bs m : List ℕ) (x : Found Data) → parse max_depth bs ≡ x → length bs ≤ n → is_spoiled bs ≡ false → ((r : List ℕ) → length r < length bs → is_spoiled r ≡ false → Goes r m) → Goes bs m
cut_by n bs m (read v r) is h sound later =
    let here = values-read bs v r (reads_where_found bs v r is) in
    let there = values-read (bs ++ m) v (r ++ m) (reads-append bs m v r (reads_where_found bs v r is)) in
    let g = later r (reads-shorter bs v r (reads_where_found bs v r is)) (sym here.2 ∙ sound) in
    record {
      values_go = there.0 ∙ ap (λ vs. v ∷ vs) g.values_go ∙ sym (λ i. here.0 i ++ values (here.1 i ++ m));
      left_goes = there.1 ∙ g.left_goes ∙ ap (λ l. left_over (l ++ m)) (sym here.1);
      spoils = there.2 ∙ g.spoils ∙ ap (λ l. is_spoiled (l ++ m)) (sym here.1);
    }
cut_by n bs m short is h sound later =
    let here = values-short bs is in
    record {
      values_go = sym (ap (λ vs. vs ++ values (left_over bs ++ m)) here.0 ∙ ap (λ l. values (l ++ m)) here.1);
      left_goes = ap (λ l. left_over (l ++ m)) (sym here.1);
      spoils = ap (λ l. is_spoiled (l ++ m)) (sym here.1);
    }
cut_by n bs m bad is h sound later = let here = values-bad bs is in let no : ◌≡◌ {A = Bool} true false = sym here.2 ∙ sound in cc

cut_within : (n : ℕ) (bs m : List ℕ) → length bs ≤ n → is_spoiled bs ≡ false → Goes bs m
cut_within zero bs m h sound = cut_by zero bs m (parse max_depth bs) refl h sound (λ r l s. absurd (omega arith))
cut_within (suc n) bs m h sound = cut_by (suc n) bs m (parse max_depth bs) refl h sound (λ r l s. cut_within n r m (omega arith) s)

-- a text that is not spoiled, cut anywhere: its values, and then those of what was left and the rest
pub values-append : (bs m : List ℕ) → is_spoiled bs ≡ false → values (bs ++ m) ≡ values bs ++ values (left_over bs ++ m)
values-append bs m sound = (cut_within (length bs) bs m (omega arith) sound).values_go

pub left_over-append : (bs m : List ℕ) → is_spoiled bs ≡ false → left_over (bs ++ m) ≡ left_over (left_over bs ++ m)
left_over-append bs m sound = (cut_within (length bs) bs m (omega arith) sound).left_goes

pub is_spoiled-append : (bs m : List ℕ) → is_spoiled bs ≡ false → is_spoiled (bs ++ m) ≡ is_spoiled (left_over bs ++ m)
is_spoiled-append bs m sound = (cut_within (length bs) bs m (omega arith) sound).spoils

-- a spoiled text has no more values, and stays spoiled
abbrev Stops : List ℕ → List ℕ → Type 0
Stops bs m = (values (bs ++ m) ≡ values bs) × (is_spoiled (bs ++ m) ≡ true)

stops_by : (bs m : List ℕ) (x : Found Data) → parse max_depth bs ≡ x → is_spoiled bs ≡ true → ((r : List ℕ) → length r < length bs → is_spoiled r ≡ true → Stops r m) → Stops bs m
stops_by bs m (read v r) is spoiled later =
    let here = values-read bs v r (reads_where_found bs v r is) in
    let there = values-read (bs ++ m) v (r ++ m) (reads-append bs m v r (reads_where_found bs v r is)) in
    let g = later r (reads-shorter bs v r (reads_where_found bs v r is)) (sym here.2 ∙ spoiled) in
    (there.0 ∙ ap (λ vs. v ∷ vs) g.0 ∙ sym here.0, there.2 ∙ g.1)
stops_by bs m short is spoiled later = let here = values-short bs is in let no : ◌≡◌ {A = Bool} false true = sym here.2 ∙ spoiled in cc
stops_by bs m bad is spoiled later =
    let here = values-bad bs is in
    let there = values-bad (bs ++ m) (bad-append bs m is) in
    (there.0 ∙ sym here.0, there.2)

stops_within : (n : ℕ) (bs m : List ℕ) → length bs ≤ n → is_spoiled bs ≡ true → Stops bs m
stops_within zero bs m h spoiled = stops_by bs m (parse max_depth bs) refl spoiled (λ r l s. absurd (omega arith))
stops_within (suc n) bs m h spoiled = stops_by bs m (parse max_depth bs) refl spoiled (λ r l s. stops_within n r m (omega arith) s)

pub values-spoiled : (bs m : List ℕ) → is_spoiled bs ≡ true → (values (bs ++ m) ≡ values bs) × (is_spoiled (bs ++ m) ≡ true)
values-spoiled bs m spoiled = stops_within (length bs) bs m (omega arith) spoiled

-- what is left is the end of the text, and holds no value itself
abbrev IsLeft : List ℕ → List ℕ → Type 0
IsLeft bs left = ((p : List ℕ) × (bs ≡ p ++ left)) × (values left ≡ []) × (left_over left ≡ left) × (is_spoiled left ≡ is_spoiled bs)

left_by : (bs : List ℕ) (x : Found Data) → parse max_depth bs ≡ x → ((r : List ℕ) → length r < length bs → IsLeft r (left_over r)) → IsLeft bs (left_over bs)
left_by bs (read v r) is later =
    let here = values-read bs v r (reads_where_found bs v r is) in
    let g = later r (reads-shorter bs v r (reads_where_found bs v r is)) in
    let front = reads-ends bs v r (reads_where_found bs v r is) in
    let end : bs ≡ (front.0 ++ g.0.0) ++ left_over r = front.1 ∙ ap (λ x. front.0 ++ x) g.0.1 ∙ sym (append_assoc front.0 g.0.0 (left_over r)) in
    subst (IsLeft bs) (sym here.1) ((front.0 ++ g.0.0, end), g.1, g.2, g.3 ∙ sym here.2)
left_by bs short is later = let here = values-short bs is in subst (IsLeft bs) (sym here.1) (([], refl), here.0, here.1, refl)
left_by bs bad is later = let here = values-bad bs is in subst (IsLeft bs) (sym here.1) (([], refl), here.0, here.1, refl)

left_all : (n : ℕ) (bs : List ℕ) → length bs ≤ n → IsLeft bs (left_over bs)
left_all zero bs h = left_by bs (parse max_depth bs) refl (λ r l. absurd (omega arith))
left_all (suc n) bs h = left_by bs (parse max_depth bs) refl (λ r l. left_all n r (omega arith))

pub left_over-end : (bs : List ℕ) → (p : List ℕ) × (bs ≡ p ++ left_over bs)
left_over-end bs = (left_all (length bs) bs (omega arith)).0

pub left_over-settled : (bs : List ℕ) → (values (left_over bs) ≡ []) × (left_over (left_over bs) ≡ left_over bs) × (is_spoiled (left_over bs) ≡ is_spoiled bs)
left_over-settled bs = let h = left_all (length bs) bs (omega arith) in (h.1, h.2, h.3)
