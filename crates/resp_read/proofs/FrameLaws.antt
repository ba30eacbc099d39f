-- A value that is read on within aggregates that were begun is the value that is read from its front.
use Rattle.std.proofs.Common.{◌≡◌, ℕ, suc, ◌+◌, ◌-◌, ◌≤◌, ◌<◌, List, [], ◌∷◌, ◌++◌, length, get_or, take, Result, Ok, Err, Option, Some, None, refl, sym, ap, ◌∙◌, subst, append_assoc, arith, length-append}
use Rattle.std.specs.Prelude.{slice_set}
use Rattle.std.proofs.lemmas.List.{take_more, take_more_set, take_all, length-set, set-get_or, append-nil}
use Rattle.resp_value.specs.Data.{Data}
use Rattle.resp_value.specs.View.{data_of}
use Rattle.resp_value.specs.declared.value.Value.{Value}
use Rattle.resp_read.specs.Parser.{read, short, bad, Found, found_and_then, found_map, repeated, pair}
use Rattle.resp_read.specs.declared.frames.Sequence.{Sequence}
use Rattle.resp_read.specs.declared.frames.Pairing.{Pairing}
use Rattle.resp_read.specs.declared.frames.Frame.{Frame}
use Rattle.resp_read.specs.declared.frames.Frame.TheVariants.{Item, Entry}
use Rattle.resp_read.specs.declared.frames.Begun.{Begun}
use Rattle.resp_read.specs.declared.frames.Begun.TheVariants.{Within}
use Rattle.resp_read.specs.Frames.{made, paired, with_values, with_pairs, with_value, begun_as, within, resumed, IsAdded, IsPutInPlace}
use Rattle.resp_read.specs.Limits.{reading}
use Rattle.resp_read.specs.declared.limits.Limits.{Limits}

-- three, one after another, grouped either way
pub then_then : {A B C : Type 0} (f : A → List ℕ → Found B) (g : B → List ℕ → Found C) (x : Found A) → found_and_then g (found_and_then f x) ≡ found_and_then (λ a rest. found_and_then g (f a rest)) x
then_then f g (read a rest) = refl
then_then f g short = refl
then_then f g bad = refl

-- two that find the same after everything
then_same : {A B : Type 0} (f g : A → List ℕ → Found B) → ((a : A) (rest : List ℕ) → f a rest ≡ g a rest) → (x : Found A) → found_and_then f x ≡ found_and_then g x
then_same f g same (read a rest) = same a rest
then_same f g same short = refl
then_same f g same bad = refl

-- what was found, and one more, and others
module _ {A B : Type 0} (inside : List ℕ → Found A) (end : List A → List ℕ → Found B) (found : List A) where
  one_more : (a : A) (x : Found (List A)) → found_and_then (λ ds. end (found ++ ds)) (found_map (λ ds. a ∷ ds) x) ≡ found_and_then (λ ds. end ((found ++ a ∷ []) ++ ds)) x
  one_more a (read ds rest) = ap (λ es. end es rest) (sym (append_assoc found (a ∷ []) ds))
  one_more a short = refl
  one_more a bad = refl

  repeated_more : (n : ℕ) (bs : List ℕ) → found_and_then (λ ds. end (found ++ ds)) (repeated inside (suc n) bs) ≡ found_and_then (λ a rest. found_and_then (λ ds. end ((found ++ a ∷ []) ++ ds)) (repeated inside n rest)) (inside bs)
  repeated_more n bs =
      then_then (λ a rest. found_map (λ ds. a ∷ ds) (repeated inside n rest)) (λ ds. end (found ++ ds)) (inside bs)
      ∙ then_same (λ a rest. found_and_then (λ ds. end (found ++ ds)) (found_map (λ ds. a ∷ ds) (repeated inside n rest))) (λ a rest. found_and_then (λ ds. end ((found ++ a ∷ []) ++ ds)) (repeated inside n rest)) (λ a rest. one_more a (repeated inside n rest)) (inside bs)

module _ (inside : List ℕ → Found Data) where
  -- no values are to come, or some are
  pub values_none : (of : Sequence) (found : List Data) (bs : List ℕ) → with_values inside of found 0 bs ≡ read (made of found) bs
  values_none of found bs = ap (λ ds. read (made of ds) bs) (append-nil found)

  pub values_more : (of : Sequence) (found : List Data) (n : ℕ) (bs : List ℕ) → with_values inside of found (suc n) bs ≡ begun_as inside (Within (Item of found n)) bs
  values_more of found n bs = repeated_more inside (λ ds rest. read (made of ds) rest) found n bs

  -- no pairs are to come, or some are
  pub pairs_none : (of : Pairing) (found : List (Data × Data)) (bs : List ℕ) → with_pairs inside of found 0 bs ≡ paired inside of found bs
  pairs_none of found bs = ap (λ ps. paired inside of ps bs) (append-nil found)

  pub pairs_more : (of : Pairing) (found : List (Data × Data)) (n : ℕ) (bs : List ℕ) → with_pairs inside of found (suc n) bs ≡ begun_as inside (Within (Entry of found None n)) bs
  pairs_more of found n bs =
      let rest_of : Data × Data → List ℕ → Found Data = λ p rest. with_pairs inside of (found ++ p ∷ []) n rest in
      repeated_more (pair inside) (paired inside of) found n bs
      ∙ then_then (λ k rest. found_map (λ v. (k, v)) (inside rest)) rest_of (inside bs)
      ∙ then_same (λ k rest. found_and_then rest_of (found_map (λ v. (k, v)) (inside rest))) (with_value inside (Entry of found None n)) (λ k rest. then_then (λ v more. read (k, v) more) rest_of (inside rest)) (inside bs)

-- within the innermost of these, and one more
inner_depth : (n k : ℕ) → (n - 1) - suc k ≡ n - suc (suc k)
inner_depth n k = omega arith

-- a list by its last item, and with another in its place
last_is : {X : Type 0} (xs : List X) (x : X) → 0 < length xs → get_or xs (length xs - 1) x ≡ x → xs ≡ take (length xs - 1) xs ++ x ∷ []
last_is xs x some is =
    let less : length xs - 1 < length xs = omega (arith, some) in
    let all : length xs ≤ length xs - 1 + 1 = omega arith in
    sym (take_all (length xs - 1 + 1) xs all) ∙ take_more xs (length xs - 1) x less ∙ ap (λ y. take (length xs - 1) xs ++ y ∷ []) is

last_set : {X : Type 0} (xs : List X) (y : X) → 0 < length xs → slice_set xs (length xs - 1) y ≡ take (length xs - 1) xs ++ y ∷ []
last_set xs y some =
    let less : length xs - 1 < length xs = omega (arith, some) in
    let all : length (slice_set xs (length xs - 1) y) ≤ length xs - 1 + 1 = omega (arith, length-set xs (length xs - 1) y) in
    sym (take_all (length xs - 1 + 1) (slice_set xs (length xs - 1) y) all) ∙ take_more_set xs (length xs - 1) y less

module _ (limits : Limits) where
  pub within_more : (n : ℕ) (frames : List Frame) (frame : Frame) (x : Found Data) → within limits n (frames ++ frame ∷ []) x ≡ within limits n frames (found_and_then (with_value (reading limits (n - suc (length frames))) frame) x)
  within_more n [] frame x = ap (λ d. found_and_then (with_value (reading limits d) frame) x) (let e : n - 1 ≡ n - suc 0 = omega arith in e)
  within_more n (outer ∷ frames) frame x =
      ap (found_and_then (with_value (reading limits (n - 1)) outer)) (within_more (n - 1) frames frame x ∙ ap (λ d. within limits (n - 1) frames (found_and_then (with_value (reading limits d) frame) x)) (inner_depth n (length frames)))

  pub within_short : (n : ℕ) (frames : List Frame) → within limits n frames short ≡ short
  within_short n [] = refl
  within_short n (frame ∷ frames) = ap (found_and_then (with_value (reading limits (n - 1)) frame)) (within_short (n - 1) frames)

  pub within_bad : (n : ℕ) (frames : List Frame) → within limits n frames bad ≡ bad
  within_bad n [] = refl
  within_bad n (frame ∷ frames) = ap (found_and_then (with_value (reading limits (n - 1)) frame)) (within_bad (n - 1) frames)

  -- a value put into the innermost aggregate
  pub within_put : (frames : List Frame) (frame : Frame) (v : Data) (bs : List ℕ) (b : Begun) → with_value (reading limits (limits.depth - suc (length frames))) frame v bs ≡ begun_as (reading limits (limits.depth - suc (length frames))) b bs
      → within limits limits.depth (frames ++ frame ∷ []) (read v bs) ≡ within limits limits.depth frames (begun_as (reading limits (limits.depth - suc (length frames))) b bs)
  within_put frames frame v bs b is = within_more limits.depth frames frame (read v bs) ∙ ap (within limits limits.depth frames) is

  -- one more aggregate is begun
  pub within_held : (frames : List Frame) (frame : Frame) (bs : List ℕ) → within limits limits.depth frames (begun_as (reading limits (limits.depth - suc (length frames))) (Within frame) bs) ≡ resumed limits (frames ++ frame ∷ []) bs
  within_held frames frame bs =
      let n : length (frames ++ frame ∷ []) ≡ suc (length frames) = omega (arith, length-append frames (frame ∷ [])) in
      sym (within_more limits.depth frames frame (reading limits (limits.depth - suc (length frames)) bs)) ∙ ap (λ k. within limits limits.depth (frames ++ frame ∷ []) (reading limits (limits.depth - k) bs)) (sym n)

  -- the innermost takes a value in place
  pub within_added : (frames new : List Frame) (frame after : Frame) (v : Data) → 0 < length frames → get_or frames (length frames - 1) frame ≡ frame → new ≡ slice_set frames (length frames - 1) after
      → ((inside : List ℕ → Found Data) (bs : List ℕ) → with_value inside frame v bs ≡ begun_as inside (Within after) bs) → (bs : List ℕ) → within limits limits.depth frames (read v bs) ≡ resumed limits new bs
  within_added frames new frame after v some is set added bs =
      let front = take (length frames - 1) frames in
      let old : frames ≡ front ++ frame ∷ [] = last_is frames frame some is in
      let then : new ≡ front ++ after ∷ [] = set ∙ last_set frames after some in
      ap (λ fs. within limits limits.depth fs (read v bs)) old
      ∙ within_put front frame v bs (Within after) (added (reading limits (limits.depth - suc (length front))) bs)
      ∙ within_held front after bs ∙ ap (λ fs. resumed limits fs bs) (sym then)

-- nothing was taken off an empty list
pub none_left : {X : Type 0} (old new : List X) → new ++ [] ≡ old → new ≡ [] → (new ≡ []) × (old ≡ [])
none_left old new same none = (none, sym same ∙ append-nil new ∙ none)

-- a value that was offered to the innermost
module _ {E : Type 0} (v : Value) (frames : List Frame) (frame after : Frame) where
  put_by : 0 < length frames → get_or frames (length frames - 1) frame ≡ frame → (r : Result (Option Value) E) → IsAdded frame v r after → IsPutInPlace frames v r (slice_set frames (length frames - 1) after)
  put_by some is (Ok (Some w)) h = (h.0, ap (slice_set frames (length frames - 1)) (h.1 ∙ sym is) ∙ set-get_or frames (length frames - 1) frame)
  put_by some is (Ok None) h = λ limits. within_added limits frames (slice_set frames (length frames - 1) after) frame after (data_of v) some is refl h
  put_by some is (Err e) h = tt

  pub put_at : (n : ℕ) → n ≡ length frames → 0 < n → get_or frames (n - 1) frame ≡ frame → (r : Result (Option Value) E) → IsAdded frame v r after → IsPutInPlace frames v r (slice_set frames (n - 1) after)
  put_at n e some is r h = subst (λ k. IsPutInPlace frames v r (slice_set frames (k - 1) after)) (sym e) (put_by (subst (λ k. 0 < k) e some) (subst (λ k. get_or frames (k - 1) frame ≡ frame) e is) r h)
