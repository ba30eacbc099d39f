-- What stands at the front of a text is one thing, and stays it, within any limits that are allowed.
use Rattle.std.proofs.Common.{◌≡◌, ℕ, ◌+◌, ◌<◌, List, ◌++◌, length, inl, inr, refl, sym, ap, Option, Some, ◌∙◌, subst, append_assoc, arith, length-append}
use Rattle.std.specs.Prelude.{◌⊎◌}
use Rattle.resp_value.specs.Data.{Data}
use Rattle.resp_read.specs.Parser.{read, short, bad, Found}
use Rattle.resp_read.specs.Limits.{reading, AreAllowed}
use Rattle.resp_read.specs.declared.limits.Limits.{Limits}
use Rattle.resp_read.specs.Reads.{ReadsWithin, IsProperPrefixWithin, IsMalformedWithin}
use Rattle.resp_read.proofs.WithinLaws.{reads_where_found, reads-ends, reads-shorter, prefix_from_short, malformed_from_bad}

module _ (limits : Limits) (allowed : AreAllowed limits) where
  pub front_is_taken : (bytes : List ℕ) (v : Data) (rest : List ℕ) → ReadsWithin limits bytes v rest → (front : List ℕ) × (bytes ≡ front ++ rest) × (0 < length front)
  front_is_taken bytes v rest h =
      let e = reads-ends limits allowed bytes v rest h in
      let n : length bytes ≡ length e.0 + length rest = ap length e.1 ∙ length-append e.0 rest in
      (e.0, e.1, omega (arith, n, reads-shorter limits allowed bytes v rest h))

  one_of : (bytes : List ℕ) (x : Found Data) → reading limits limits.depth bytes ≡ x → ((v : Data) × (rest : List ℕ) × ReadsWithin limits bytes v rest) ⊎ (IsProperPrefixWithin limits bytes ⊎ IsMalformedWithin limits bytes)
  one_of bytes (read v rest) is = inl (v, rest, reads_where_found limits allowed bytes v rest is)
  one_of bytes short is = inr (inl (prefix_from_short limits allowed bytes is))
  one_of bytes bad is = inr (inr (malformed_from_bad limits allowed bytes is))

  pub value_or_none : (bytes : List ℕ) → ((v : Data) × (rest : List ℕ) × ReadsWithin limits bytes v rest) ⊎ (IsProperPrefixWithin limits bytes ⊎ IsMalformedWithin limits bytes)
  value_or_none bytes = one_of bytes (reading limits limits.depth bytes) refl

module _ (limits : Limits) where
  pub one_at_most : (bytes : List ℕ) (v w : Data) (rest others : List ℕ) → ReadsWithin limits bytes v rest → ReadsWithin limits bytes w others → (v ≡ w) × (rest ≡ others)
  one_at_most bytes v w rest others e f =
      let both : ◌≡◌ {A = Option (Data × List ℕ)} (Some (v, rest)) (Some (w, others)) = sym e ∙ f in
      let same : ◌≡◌ {A = Data × List ℕ} (v, rest) (w, others) = cc in
      (ap (λ (x : Data × List ℕ). x.0) same, ap (λ (x : Data × List ℕ). x.1) same)

  pub still_malformed : (bytes more : List ℕ) → IsMalformedWithin limits bytes → IsMalformedWithin limits (bytes ++ more)
  still_malformed bytes more h m v rest r = h (more ++ m) v rest (subst (λ x. ReadsWithin limits x v rest) (append_assoc bytes more m) r)
