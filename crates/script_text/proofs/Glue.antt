-- Pieces of a line, one behind the other.
use Rattle.std.proofs.Common.{◌≡◌, ℕ, List, [], ◌∷◌, ◌++◌, refl, ap, append_assoc, append-nil}
use Rattle.script_text.specs.Words.{LineWords}
use Rattle.script_text.specs.Pieces.{before, glued, joined, separator}

-- a piece goes on in the last words
pub glued_last : (words last : List (List ℕ)) (front : List (List (List ℕ))) (piece : LineWords)
    → glued words (front ++ last ∷ []) piece ≡ record { words = words; more = front ++ (last ++ piece.words) ∷ piece.more }
glued_last words last [] piece = refl
glued_last words last (next ∷ rest) piece = ap (before words) (glued_last next last rest piece)

pub glued_separator : (words : List (List ℕ)) (more : List (List (List ℕ))) → glued words more separator ≡ record { words = words; more = more ++ [] ∷ [] }
glued_separator words [] = ap (λ (ws : List (List ℕ)). record { words = ws; more = [] ∷ [] }) (append-nil words)
glued_separator words (next ∷ rest) = ap (before words) (glued_separator next rest)

-- nothing behind a line
glued_nothing : (words : List (List ℕ)) (more : List (List (List ℕ))) → glued words more (record { words = []; more = [] }) ≡ record { words = words; more = more }
glued_nothing words [] = ap (λ (ws : List (List ℕ)). record { words = ws; more = [] }) (append-nil words)
glued_nothing words (next ∷ rest) = ap (before words) (glued_nothing next rest)

pub joined_nothing : (line : LineWords) → joined line (record { words = []; more = [] }) ≡ line
joined_nothing line = glued_nothing line.words line.more

last_pieces : (words middle : List (List ℕ)) (more : List (List (List ℕ))) (piece : LineWords)
    → glued (words ++ middle) more piece ≡ glued words [] (glued middle more piece)
last_pieces words middle [] piece = ap (λ (ws : List (List ℕ)). record { words = ws; more = piece.more }) (append_assoc words middle piece.words)
last_pieces words middle (next ∷ rest) piece = refl

glued_twice : (words : List (List ℕ)) (more : List (List (List ℕ))) (middle last : LineWords)
    → joined (glued words more middle) last ≡ glued words more (joined middle last)
glued_twice words [] middle last = last_pieces words middle.words middle.more last
glued_twice words (next ∷ rest) middle last = ap (before words) (glued_twice next rest middle last)

pub joined_twice : (line middle last : LineWords) → joined (joined line middle) last ≡ joined line (joined middle last)
joined_twice line middle last = glued_twice line.words line.more middle last
