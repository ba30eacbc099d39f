-- A text is read in pieces.
use Rattle.std.proofs.Common.{◌≡◌, ℕ, zero, suc, ◌+◌, ◌<◌, List, [], ◌∷◌, ◌++◌, length, get_or, drop, Err, append_assoc, refl, sym, ap, ◌∙◌, subst}
use Rattle.std.proofs.lemmas.List.{set-get_or, drop-set}
use Rattle.resp_value.specs.View.{data_of}
use Rattle.resp_value.specs.declared.value.Value.{Value}
use Rattle.resp_read.specs.Parser.{short}
use Rattle.resp_read.specs.Limits.{reading, AreAllowed}
use Rattle.resp_read.specs.State.{ReaderState}
use Rattle.resp_read.specs.Reads.{ReadsWithin, ReadsEachWithin, IsProperPrefixWithin, IsMalformedWithin}
use Rattle.resp_read.specs.Reading.{Pumps, joined, ReadsPieces}
use Rattle.resp_read.specs.declared.limits.Limits.{Limits}
use Rattle.resp_read.specs.declared.reader.ReadError.{ReadError}
use Rattle.resp_read.specs.declared.reader.ReadError.TheVariants.{Parse, NoMemory}
use Rattle.resp_read.proofs.WithinLaws.{reads-append, prefix_from_short}

-- the piece at a place, and those behind it
pub joined_from : (pieces : List (List ℕ)) (i : ℕ) (piece : List ℕ) → i < length pieces → piece ≡ get_or pieces i piece → joined (drop i pieces) ≡ piece ++ joined (drop (i + 1) pieces)
joined_from pieces i piece h is =
    let next : drop i pieces ≡ get_or pieces i piece ∷ drop (i + 1) pieces = ap (drop i) (sym (set-get_or pieces i piece)) ∙ drop-set pieces i (get_or pieces i piece) h in
    ap joined next ∙ ap (λ x. x ++ joined (drop (i + 1) pieces)) (sym is)

-- nothing is the front of a value
nothing_short : (limits : Limits) (n : ℕ) → reading limits n [] ≡ short
nothing_short limits zero = refl
nothing_short limits (suc n) = refl

pub nothing_waits : (limits : Limits) → AreAllowed limits → IsProperPrefixWithin limits []
nothing_waits limits allowed = prefix_from_short limits allowed [] (nothing_short limits limits.depth)

module _ (limits : Limits) where
  reads_each_then : (bs mid rest : List ℕ) (vs ws : List Value) → ReadsEachWithin limits bs vs mid → ReadsEachWithin limits mid ws rest → ReadsEachWithin limits bs (vs ++ ws) rest
  reads_each_then bs mid rest [] ws h k = subst (λ x. ReadsEachWithin limits x ws rest) (sym h) k
  reads_each_then bs mid rest (v ∷ vs) ws h k = (h.0, h.1, reads_each_then h.0 mid rest vs ws h.2 k)

  -- these values were appended, and this is left behind them
  abbrev pub AreRead : List ℕ → List Value → List Value → List ℕ → Type 0
  AreRead text before after rest = (vs : List Value) × (after ≡ before ++ vs) × ReadsEachWithin limits text vs rest

  malformed_more : (bs more : List ℕ) → IsMalformedWithin limits bs → IsMalformedWithin limits (bs ++ more)
  malformed_more bs more h = λ m v rest r. h (more ++ m) v rest (subst (λ x. ReadsWithin limits x v rest) (append_assoc bs more m) r)

  module _ (allowed : AreAllowed limits) where
    reads_each_more : (bs m : List ℕ) (vs : List Value) (rest : List ℕ) → ReadsEachWithin limits bs vs rest → ReadsEachWithin limits (bs ++ m) vs (rest ++ m)
    reads_each_more bs m [] rest h = ap (λ x. x ++ m) h
    reads_each_more bs m (v ∷ vs) rest h = (h.0 ++ m, reads-append limits allowed bs m (data_of v) h.0 h.1, reads_each_more h.0 m vs rest h.2)

    -- one piece more
    pub one_piece_more : (text old piece more rest : List ℕ) (before mid after ws : List Value) → AreRead text before mid (old ++ (piece ++ more)) → after ≡ mid ++ ws → ReadsEachWithin limits (old ++ piece) ws rest → AreRead text before after (rest ++ more)
    one_piece_more text old piece more rest before mid after ws h is each =
        let on : ReadsEachWithin limits (old ++ (piece ++ more)) ws (rest ++ more) = subst (λ x. ReadsEachWithin limits x ws (rest ++ more)) (append_assoc old piece more) (reads_each_more (old ++ piece) more ws rest each) in
        (h.0 ++ ws, is ∙ ap (λ x. x ++ ws) h.1 ∙ append_assoc before h.0 ws, reads_each_then text (old ++ (piece ++ more)) (rest ++ more) h.0 ws h.2 on)

    -- a piece at which it stops
    pub stops_at : (U : Type 0) (text old piece more : List ℕ) (before mid after : List Value) (e : ReadError) (new : ReaderState) → AreRead text before mid (old ++ (piece ++ more)) → Pumps {U = U} limits (old ++ piece) mid (Err e) new after → ReadsPieces limits text before (Err e) after
    stops_at U text old piece more before mid after Parse new h p =
        let on = one_piece_more text old piece more new.rest before mid after p.0.0 h p.0.1 p.0.2 in
        (on.0, new.rest ++ more, on.1, on.2, malformed_more new.rest more p.1)
    stops_at U text old piece more before mid after NoMemory new h p =
        let on = one_piece_more text old piece more p.0.1 before mid after p.0.0 h p.0.2 p.0.3 in
        (on.0, p.0.1 ++ more, on.1, on.2)
