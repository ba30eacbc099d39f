-- What is found at the front of a text, within any limits that are allowed, is what the words of contracts say of it.
use Rattle.std.proofs.Common.{◌≡◌, ℕ, ◌<◌, List, [], ◌++◌, length, refl}
use Rattle.std.specs.Prelude.{◌↔◌}
use Rattle.resp_value.specs.Data.{Data}
use Rattle.resp_read.specs.Parser.{read, short, bad, Found}
use Rattle.resp_read.specs.Limits.{bounds, reading, AreAllowed}
use Rattle.resp_read.specs.Reads.{ReadsWithin, IsProperPrefixWithin, IsMalformedWithin}
use Rattle.resp_read.specs.declared.limits.Limits.{Limits}
use Rattle.resp_read.proofs.GrammarLaws.{read_where_found, found_where_read}
use Rattle.resp_read.proofs.ParseLaws.{lawful_parse, takes_a_byte}

module _ (limits : Limits) (allowed : AreAllowed limits) where
  -- the grammar reads what the parser finds
  pub reads_where_found : (bs : List ℕ) (v : Data) (rest : List ℕ) → reading limits limits.depth bs ≡ read v rest → ReadsWithin limits bs v rest
  reads_where_found bs v rest e = read_where_found (bounds limits) limits.depth bs v rest e

  pub found_where_reads : (bs : List ℕ) (v : Data) (rest : List ℕ) → ReadsWithin limits bs v rest → reading limits limits.depth bs ≡ read v rest
  found_where_reads bs v rest e = found_where_read (bounds limits) limits.depth bs v rest e

  -- a value stays when bytes follow
  pub reads-append : (bs m : List ℕ) (v : Data) (rest : List ℕ) → ReadsWithin limits bs v rest → ReadsWithin limits (bs ++ m) v (rest ++ m)
  reads-append bs m v rest e = reads_where_found (bs ++ m) v (rest ++ m) ((lawful_parse limits allowed limits.depth bs).grows m v rest (found_where_reads bs v rest e))

  -- what is bad stays bad
  pub bad-append : (bs m : List ℕ) → reading limits limits.depth bs ≡ bad → reading limits limits.depth (bs ++ m) ≡ bad
  bad-append bs m e = (lawful_parse limits allowed limits.depth bs).stays m e

  -- some bytes make a short text one value
  pub short-completes : (bs : List ℕ) → reading limits limits.depth bs ≡ short → (m : List ℕ) × (v : Data) × ReadsWithin limits (bs ++ m) v []
  short-completes bs e = let c = (lawful_parse limits allowed limits.depth bs).completes e in (c.0, c.1, reads_where_found (bs ++ c.0) c.1 [] c.2)

  -- what is left is the end of the text
  pub reads-ends : (bs : List ℕ) (v : Data) (rest : List ℕ) → ReadsWithin limits bs v rest → (p : List ℕ) × (bs ≡ p ++ rest)
  reads-ends bs v rest e = (lawful_parse limits allowed limits.depth bs).ends v rest (found_where_reads bs v rest e)

  -- and shorter than it
  pub reads-shorter : (bs : List ℕ) (v : Data) (rest : List ℕ) → ReadsWithin limits bs v rest → length rest < length bs
  reads-shorter bs v rest e = takes_a_byte limits allowed limits.depth bs v rest (found_where_reads bs v rest e)

  pub prefix_from_short : (bs : List ℕ) → reading limits limits.depth bs ≡ short → IsProperPrefixWithin limits bs
  prefix_from_short bs e = let c = short-completes bs e in ((c.0, c.1, [], c.2), λ v rest f. let g = found_where_reads bs v rest f in cc)

  pub malformed_from_bad : (bs : List ℕ) → reading limits limits.depth bs ≡ bad → IsMalformedWithin limits bs
  malformed_from_bad bs e = λ m v rest f. let g = bad-append bs m e in let h = found_where_reads (bs ++ m) v rest f in cc

  short_by : (bs : List ℕ) (x : Found Data) → reading limits limits.depth bs ≡ x → IsProperPrefixWithin limits bs → x ≡ short
  short_by bs (read v rest) is h = absurd (h.1 v rest (reads_where_found bs v rest is))
  short_by bs short is h = refl
  short_by bs bad is h = absurd (malformed_from_bad bs is h.0.0 h.0.1 h.0.2 h.0.3)

  pub short_from_prefix : (bs : List ℕ) → IsProperPrefixWithin limits bs → reading limits limits.depth bs ≡ short
  short_from_prefix bs h = short_by bs (reading limits limits.depth bs) refl h

  bad_by : (bs : List ℕ) (x : Found Data) → reading limits limits.depth bs ≡ x → IsMalformedWithin limits bs → x ≡ bad
  bad_by bs (read v rest) is h = absurd (h [] v (rest ++ []) (reads-append bs [] v rest (reads_where_found bs v rest is)))
  bad_by bs short is h = let c = short-completes bs is in absurd (h c.0 c.1 [] c.2)
  bad_by bs bad is h = refl

  pub bad_from_malformed : (bs : List ℕ) → IsMalformedWithin limits bs → reading limits limits.depth bs ≡ bad
  bad_from_malformed bs h = bad_by bs (reading limits limits.depth bs) refl h

  -- a short text is the proper front of a value, and a bad one is malformed
  pub short-prefix : (bs : List ℕ) → (reading limits limits.depth bs ≡ short) ↔ IsProperPrefixWithin limits bs
  short-prefix bs = (prefix_from_short bs, short_from_prefix bs)

  pub bad-malformed : (bs : List ℕ) → (reading limits limits.depth bs ≡ bad) ↔ IsMalformedWithin limits bs
  bad-malformed bs = (malformed_from_bad bs, bad_from_malformed bs)
