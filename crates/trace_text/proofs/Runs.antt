-- Bytes that are written run by run: those up to a place are written, and those behind it are plain so far.
use Rattle.std.proofs.Common.{◌≡◌, ℕ, suc, ◌+◌, ◌-◌, ◌<◌, ◌≤◌, true, false, List, [], ◌∷◌, ◌++◌, length, get_or, take, drop, slice_range, sym, ap, ◌∙◌, append_assoc, append-nil, arith, length-drop, add-one}
use Rattle.std.proofs.Math.Seq.{take-suc, take-add, take-length}
use Rattle.std.proofs.lemmas.List.{get_or-drop}
use Rattle.std.proofs.lemmas.Grind.{flat_map-append}
use Rattle.percent_encoding.specs.Percent.{percent_encode_byte}
use Rattle.trace_text.specs.Words.{is_plain, escaped_byte}
use Rattle.trace_text.proofs.Plain.{all_escaped, plain_byte, other_byte}

one_escaped : (b : ℕ) → all_escaped (b ∷ []) ≡ escaped_byte b
one_escaped b = append-nil (escaped_byte b)

module _ (bytes : List ℕ) (start i : ℕ) (behind : start ≤ i) where
  run_more : i < length bytes → slice_range bytes start (i + 1) ≡ slice_range bytes start i ++ get_or bytes i 0 ∷ []
  run_more within =
      let count : i + 1 - start ≡ suc (i - start) = omega arith in
      let inside : i - start < length (drop start bytes) = omega (arith, length-drop start bytes) in
      let place : start + (i - start) ≡ i = omega arith in
      ap (λ n. take n (drop start bytes)) count
      ∙ take-suc (drop start bytes) (i - start) 0 inside
      ∙ ap (λ b. take (i - start) (drop start bytes) ++ b ∷ []) (get_or-drop start bytes (i - start) 0 ∙ ap (λ n. get_or bytes n 0) place)

  -- one more plain byte in the run
  pub plain_more : i < length bytes → is_plain (get_or bytes i 0) ≡ true → all_escaped (slice_range bytes start i) ≡ slice_range bytes start i → all_escaped (slice_range bytes start (i + 1)) ≡ slice_range bytes start (i + 1)
  plain_more within plain run =
      let b = get_or bytes i 0 in
      let more = run_more within in
      ap all_escaped more
      ∙ flat_map-append escaped_byte (slice_range bytes start i) (b ∷ [])
      ∙ ap (λ x. x ++ all_escaped (b ∷ [])) run
      ∙ ap (λ x. slice_range bytes start i ++ x) (one_escaped b ∙ plain_byte b plain)
      ∙ sym more

  -- what is written with the run behind it
  pub with_run : all_escaped (slice_range bytes start i) ≡ slice_range bytes start i → all_escaped (take i bytes) ≡ all_escaped (take start bytes) ++ slice_range bytes start i
  with_run run =
      let place : i ≡ start + (i - start) = omega arith in
      ap (λ n. all_escaped (take n bytes)) place
      ∙ ap all_escaped (take-add start (i - start) bytes)
      ∙ flat_map-append escaped_byte (take start bytes) (slice_range bytes start i)
      ∙ ap (λ x. all_escaped (take start bytes) ++ x) run

  -- and with the escape of the next byte
  pub with_escape : i < length bytes → is_plain (get_or bytes i 0) ≡ false → all_escaped (slice_range bytes start i) ≡ slice_range bytes start i → all_escaped (take (i + 1) bytes) ≡ all_escaped (take start bytes) ++ (slice_range bytes start i ++ percent_encode_byte (get_or bytes i 0))
  with_escape within other run =
      let b = get_or bytes i 0 in
      ap (λ n. all_escaped (take n bytes)) (add-one i)
      ∙ ap all_escaped (take-suc bytes i 0 within)
      ∙ flat_map-append escaped_byte (take i bytes) (b ∷ [])
      ∙ ap (λ x. x ++ all_escaped (b ∷ [])) (with_run run)
      ∙ ap (λ x. (all_escaped (take start bytes) ++ slice_range bytes start i) ++ x) (one_escaped b ∙ other_byte b other)
      ∙ append_assoc (all_escaped (take start bytes)) (slice_range bytes start i) (percent_encode_byte b)

-- a run of no bytes
pub no_run : (bytes : List ℕ) (i : ℕ) → all_escaped (slice_range bytes i i) ≡ slice_range bytes i i
no_run bytes i =
    let none : i - i ≡ 0 = omega arith in
    ap (λ n. all_escaped (take n (drop i bytes))) none ∙ sym (ap (λ n. take n (drop i bytes)) none)

-- all bytes, where the run goes to the end
pub whole : (bytes : List ℕ) (start i : ℕ) → start ≤ i → i ≡ length bytes → all_escaped (slice_range bytes start i) ≡ slice_range bytes start i → all_escaped bytes ≡ all_escaped (take start bytes) ++ slice_range bytes start (length bytes)
whole bytes start i behind end run =
    let full : all_escaped (take i bytes) ≡ all_escaped bytes = ap all_escaped (ap (λ n. take n bytes) end ∙ take-length bytes) in
    sym full ∙ with_run bytes start i behind run ∙ ap (λ n. all_escaped (take start bytes) ++ slice_range bytes start n) end
