-- The parts of a text by its first cut, and the words of a line.
use Rattle.std.proofs.Common.{◌≡◌, ℕ, ◌<◌, Bool, true, false, cond, List, [], ◌∷◌, length, Option, Some, None, option_map, refl, sym, ap, ◌∙◌, arith}
use Rattle.std.specs.Prelude.{◌==◌, map, option_and_then}
use Rattle.std.specs.List.{onto_first, slice_split}
use Rattle.std.proofs.lemmas.List.Splits.{length-slice_split}
use Rattle.script_text.specs.Words.{LineWords, parts, cut_at, is_separator, unescaped, all_of, group_of, line_words, words_of_parts, words_of_line}
use Rattle.script_text.specs.Pieces.{joined, one_word, separator, piece_of}
use Rattle.script_text.proofs.Glue.{joined_nothing, joined_twice}

abbrev by_cut : ℕ → List ℕ → Option (List ℕ × List ℕ) → List (List ℕ)
by_cut b xs None = xs ∷ []
by_cut b xs (Some c) = c.0 ∷ parts b c.1

onto_cut : (b x : ℕ) (xs : List ℕ) (o : Option (List ℕ × List ℕ)) → onto_first x (by_cut b xs o) ≡ by_cut b (x ∷ xs) (option_map (λ c. (x ∷ c.0, c.1)) o)
onto_cut b x xs None = refl
onto_cut b x xs (Some c) = refl

parts_by : (b x : ℕ) (xs : List ℕ) (here : Bool) (o : Option (List ℕ × List ℕ)) → parts b xs ≡ by_cut b xs o
    → cond here ([] ∷ parts b xs) (onto_first x (parts b xs)) ≡ by_cut b (x ∷ xs) (cond here (Some ([], xs)) (option_map (λ c. (x ∷ c.0, c.1)) o))
parts_by b x xs true o h = refl
parts_by b x xs false o h = ap (onto_first x) h ∙ onto_cut b x xs o

parts_cut : (b : ℕ) (xs : List ℕ) → parts b xs ≡ by_cut b xs (cut_at b xs)
parts_cut b [] = refl
parts_cut b (x ∷ xs) = parts_by b x xs (x == b) (cut_at b xs) (parts_cut b xs)

-- there is a part
pub some_parts : (b : ℕ) (xs : List ℕ) → 0 < length (parts b xs)
some_parts b xs = omega (arith, length-slice_split (λ x. x == b) xs)

-- a text with no byte b is one part
pub parts_whole : (b : ℕ) (xs : List ℕ) → cut_at b xs ≡ None → parts b xs ≡ xs ∷ []
parts_whole b xs h = parts_cut b xs ∙ ap (by_cut b xs) h

-- its first part ends at the first byte b
pub parts_first : (b : ℕ) (xs front rest : List ℕ) → cut_at b xs ≡ Some (front, rest) → parts b xs ≡ front ∷ parts b rest
parts_first b xs front rest h = parts_cut b xs ∙ ap (by_cut b xs) h

words_are : (line : List ℕ) → words_of_line line ≡ words_of_parts (parts 32 line)
unfolding words_of_line
words_are line = refl

-- a piece and what stands behind it
abbrev pub joined_both : Option LineWords → Option LineWords → Option LineWords
joined_both None rest = None
joined_both (Some piece) rest = option_map (joined piece) rest

all-cons : {A : Type 0} (o : Option A) (os : List (Option A)) → all_of (o ∷ os) ≡ option_and_then (λ x. option_map (λ xs. x ∷ xs) (all_of os)) o
all-cons None os = refl
all-cons (Some x) os = refl

separated_by : (g : Option (List (List ℕ))) (gs : Option (List (List (List ℕ))))
    → option_and_then line_words (option_map (λ xs. [] ∷ xs) (option_and_then (λ x. option_map (λ xs. x ∷ xs) gs) g)) ≡ option_map (joined separator) (option_and_then line_words (option_and_then (λ x. option_map (λ xs. x ∷ xs) gs) g))
separated_by None gs = refl
separated_by (Some g) None = refl
separated_by (Some g) (Some gs) = refl

after_separator : (ps : List (List (List ℕ))) → 0 < length ps → option_and_then line_words (all_of (map group_of ([] ∷ ps))) ≡ option_map (joined separator) (option_and_then line_words (all_of (map group_of ps)))
after_separator [] h = absurd (omega arith)
after_separator (p ∷ ps) h =
    let first = all-cons (group_of p) (map group_of ps) in
    ap (λ o. option_and_then line_words (option_map (λ xs. [] ∷ xs) o)) first
    ∙ separated_by (group_of p) (all_of (map group_of ps))
    ∙ sym (ap (λ o. option_map (joined separator) (option_and_then line_words o)) first)

word_by : (w : Option (List ℕ)) (g : Option (List (List ℕ))) (gs : Option (List (List (List ℕ))))
    → option_and_then line_words (option_and_then (λ x. option_map (λ xs. x ∷ xs) gs) (option_and_then (λ x. option_map (λ xs. x ∷ xs) g) w))
    ≡ joined_both (option_map one_word w) (option_and_then line_words (option_and_then (λ x. option_map (λ xs. x ∷ xs) gs) g))
word_by None g gs = refl
word_by (Some w) None gs = refl
word_by (Some w) (Some g) None = refl
word_by (Some w) (Some g) (Some gs) = refl

after_word : (raw : List ℕ) (ps : List (List (List ℕ))) → 0 < length ps
    → option_and_then line_words (all_of (map group_of (onto_first raw ps))) ≡ joined_both (option_map one_word (unescaped raw)) (option_and_then line_words (all_of (map group_of ps)))
after_word raw [] h = absurd (omega arith)
after_word raw (p ∷ ps) h =
    all-cons_twice (unescaped raw) (map unescaped p) (map group_of ps)
    ∙ word_by (unescaped raw) (group_of p) (all_of (map group_of ps))
    ∙ sym (ap (λ o. joined_both (option_map one_word (unescaped raw)) (option_and_then line_words o)) (all-cons (group_of p) (map group_of ps)))
  where
    all-cons_twice : (w : Option (List ℕ)) (ws : List (Option (List ℕ))) (gs : List (Option (List (List ℕ))))
        → option_and_then line_words (all_of (all_of (w ∷ ws) ∷ gs)) ≡ option_and_then line_words (option_and_then (λ x. option_map (λ xs. x ∷ xs) (all_of gs)) (option_and_then (λ x. option_map (λ xs. x ∷ xs) (all_of ws)) w))
    all-cons_twice w ws gs = ap (option_and_then line_words) (all-cons (all_of (w ∷ ws)) gs ∙ ap (option_and_then (λ x. option_map (λ xs. x ∷ xs) (all_of gs))) (all-cons w ws))

piece_by : (here : Bool) (raw : List ℕ) (ps : List (List (List ℕ))) → 0 < length ps
    → option_and_then line_words (all_of (map group_of (cond here ([] ∷ ps) (onto_first raw ps)))) ≡ joined_both (cond here (Some separator) (option_map one_word (unescaped raw))) (option_and_then line_words (all_of (map group_of ps)))
piece_by true raw ps h = after_separator ps h
piece_by false raw ps h = after_word raw ps h

-- the first part between spaces is the first piece
first_piece : (raw : List ℕ) (raws : List (List ℕ)) → words_of_parts (raw ∷ raws) ≡ joined_both (piece_of raw) (words_of_parts raws)
first_piece raw raws = piece_by (is_separator raw) raw (slice_split is_separator raws) (omega (arith, length-slice_split is_separator raws))

only_piece : (o : Option LineWords) → joined_both o (words_of_parts []) ≡ o
only_piece None = refl
only_piece (Some piece) = ap Some (joined_nothing piece)

cut_words : (line raw rest : List ℕ) → cut_at 32 line ≡ Some (raw, rest) → words_of_line line ≡ joined_both (piece_of raw) (words_of_line rest)
cut_words line raw rest h =
    words_are line ∙ ap words_of_parts (parts_first 32 line raw rest h) ∙ first_piece raw (parts 32 rest) ∙ ap (joined_both (piece_of raw)) (sym (words_are rest))

one_piece : (line : List ℕ) → cut_at 32 line ≡ None → words_of_line line ≡ piece_of line
one_piece line h = words_are line ∙ ap words_of_parts (parts_whole 32 line h) ∙ first_piece line [] ∙ only_piece (piece_of line)

-- more behind what is read of a line
behind : (words : LineWords) (piece o : Option LineWords) → option_map (joined words) (joined_both piece o) ≡ joined_both (option_map (joined words) piece) o
behind words None o = refl
behind words (Some piece) None = refl
behind words (Some piece) (Some rest) = ap Some (sym (joined_twice words piece rest))

module _ (line : List ℕ) (words : LineWords) (left : List ℕ) (so_far : words_of_line line ≡ option_map (joined words) (words_of_line left)) where
  pub part_read : (raw rest : List ℕ) (more : Option LineWords) → cut_at 32 left ≡ Some (raw, rest) → more ≡ option_map (joined words) (piece_of raw) → words_of_line line ≡ joined_both more (words_of_line rest)
  part_read raw rest more h is =
      so_far ∙ ap (option_map (joined words)) (cut_words left raw rest h) ∙ behind words (piece_of raw) (words_of_line rest) ∙ ap (λ o. joined_both o (words_of_line rest)) (sym is)

  pub last_read : (all : Option LineWords) → cut_at 32 left ≡ None → all ≡ option_map (joined words) (piece_of left) → all ≡ words_of_line line
  last_read all h is = is ∙ sym (so_far ∙ ap (option_map (joined words)) (one_piece left h))

-- the same of a line that is given as its parts
pub piece_read : (whole : Option LineWords) (words : LineWords) (raw : List ℕ) (raws : List (List ℕ)) (more : Option LineWords)
    → whole ≡ option_map (joined words) (words_of_parts (raw ∷ raws)) → more ≡ option_map (joined words) (piece_of raw) → whole ≡ joined_both more (words_of_parts raws)
piece_read whole words raw raws more so_far is =
    so_far ∙ ap (option_map (joined words)) (first_piece raw raws) ∙ behind words (piece_of raw) (words_of_parts raws) ∙ ap (λ o. joined_both o (words_of_parts raws)) (sym is)

pub pieces_read : (words : LineWords) → option_map (joined words) (words_of_parts []) ≡ Some words
pieces_read words = ap Some (joined_nothing words)
