use Rattle.std.proofs.Common.{◌≡◌, ℕ, ◌+◌, ◌<◌, suc, List, [], ◌∷◌, ◌++◌, length, get_or, drop, Option, Some, None, option_map, codes, refl, sym, ap, ◌∙◌, add-one, drop-cons, String, string_bytes}
use Rattle.std.specs.Prelude.{option_and_then}
use Rattle.std.proofs.lemmas.List.{drop_all}
use Rattle.std.proofs.lemmas.Result.{IfOk-weaker}
use Rattle.containers.proofs.Choices.{taken_if, left_if}
use Rattle.script_text.specs.ConfigLine.{config_of}
use Rattle.script_text.specs.Lines.{texts}
use Rattle.script_text.specs.Pieces.{joined, piece_of}
use Rattle.script_text.specs.Words.{LineWords, words_of_parts}
use Rattle.script_text.proofs.Cutting.{piece_read, pieces_read}
use Rattle.script_text.proofs.submissions.read_config_into.Goals as goal

behind_nothing : (o : Option LineWords) → o ≡ option_map (joined (record { words = []; more = [] })) o
behind_nothing None = refl
behind_nothing (Some line) = refl

-- the text of the next word before those behind it
next_text : {A : Type 0} (words : List (String A)) (i : ℕ) (word : String A) → i < length words → word ≡ get_or words i word → texts (drop i words) ≡ string_bytes word ∷ texts (drop (i + 1) words)
next_text words i word h is =
    ap texts (drop-cons words i word h) ∙ (λ j. string_bytes (sym is j) ∷ texts (drop (sym (add-one i) j) words))

pub loop-word-init : goal.loop-word-init
loop-word-init c =
    let name = codes "config" in
    let rest = texts c.args.words.now in
    piece_read (words_of_parts (name ∷ rest)) (record { words = []; more = [] }) name rest (Some c.put.new.self) (behind_nothing (words_of_parts (name ∷ rest)))
    (sym (taken_if _ (Some c.put.new.self) None c.if-not-branch.false) ∙ c.in_ok-put.ensures ∙ ap (λ l. option_map (joined l) (piece_of name)) c.requires)

pub returns-then-not-branch-2 : goal.returns-then-not-branch-2
returns-then-not-branch-2 c =
    let words = c.args.words.now in
    let line = c.loop-word.line in
    let i = c.loop-word.word-index in
    let word = c.word-item.result in
    sym (ap (option_and_then config_of)
    (piece_read (words_of_parts (codes "config" ∷ texts words)) line (string_bytes word) (texts (drop (i + 1) words)) None
    (c.loop-word.invariant ∙ ap (λ ts. option_map (joined line) (words_of_parts ts)) (next_text words i word c.loop-word-test.true c.word-item.is))
    (sym (left_if _ (Some c.put-in-loop-word.new.self) None c.if-not-branch-2.true) ∙ c.in_ok-put-2.ensures ∙ ap (λ raw. option_map (joined line) (piece_of raw)) c.as_bytes.ensures.value)))

pub loop-word-preserved : goal.loop-word-preserved
loop-word-preserved c =
    let words = c.args.words.now in
    let line = c.loop-word.line in
    let i = c.loop-word.word-index in
    let word = c.word-item.result in
    piece_read (words_of_parts (codes "config" ∷ texts words)) line (string_bytes word) (texts (drop (i + 1) words)) (Some c.put-in-loop-word.new.self)
    (c.loop-word.invariant ∙ ap (λ ts. option_map (joined line) (words_of_parts ts)) (next_text words i word c.loop-word-test.true c.word-item.is))
    (sym (taken_if _ (Some c.put-in-loop-word.new.self) None c.if-not-branch-2.false) ∙ c.in_ok-put-2.ensures ∙ ap (λ raw. option_map (joined line) (piece_of raw)) c.as_bytes.ensures.value)

pub returns : goal.returns
returns c =
    let words = c.args.words.now in
    let line = c.loop-word.line in
    let whole : words_of_parts (codes "config" ∷ texts words) ≡ Some line =
    c.loop-word.invariant ∙ ap (λ ws. option_map (joined line) (words_of_parts (texts ws))) (drop_all c.loop-word.word-index words c.loop-word-test.false) ∙ pieces_read line in
    IfOk-weaker c.config.result _ _ (λ config is. is ∙ (λ j. config_of (record { words = c.words.ensures j; more = c.more.ensures j })) ∙ sym (ap (option_and_then config_of) whole)) c.config.ensures
