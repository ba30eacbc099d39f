-- Aggregates in one another: read where they may be nested so deep, and refused where they are one more.
use Rattle.std.proofs.Common.{◌≡◌, ℕ, zero, suc, List, [], ◌∷◌, ◌++◌, refl, ap, ◌∙◌, append_assoc}
use Rattle.std.specs.Prelude.{pos, codes}
use Rattle.std.specs.List.{All}
use Rattle.resp_value.specs.declared.push_kind.PushKind.TheVariants.{Other}
use Rattle.resp_value.specs.Kinds.{kind_of}
use Rattle.resp_value.specs.Data.{Data, nil, int, array, simple, dict, attribute, set, push, items_of, members_of}
use Rattle.resp_read.specs.Grammar.{max_depth}
use Rattle.resp_read.specs.Parser.{read, short, bad, Found, found_and_then, found_map, parse}
use Rattle.resp_read.proofs.ReadLaws.{reads_where_found, malformed_from_bad}
use Rattle.protocol_examples.specs.Limits.{Wrapping, wrapped_text, wrapped, wrappings, MayNest, MayHoldNil, MayNotNest, MayNotHoldEmpty, MayNotHoldLess}
use Rattle.protocol_examples.proofs.Computed.{each}

-- a value in one of these is what it is around it, at any depth; and where none more may stand, it is none
record Wraps (w : Wrapping) : Type 0 where
  around : (n : ℕ) (text : List ℕ) → parse (suc n) (w.before ++ text) ≡ found_map w.around (parse n text)
  innermost : (text : List ℕ) → parse 0 (w.before ++ text) ≡ bad

nested_read : (w : Wrapping) → Wraps w → (text : List ℕ) (v : Data) → ((rest : List ℕ) → parse 0 (text ++ rest) ≡ read v rest) → (n : ℕ) (rest : List ℕ) → parse n (wrapped_text w text n ++ rest) ≡ read (wrapped w v n) rest
nested_read w is text v reads zero rest = reads rest
nested_read w is text v reads (suc n) rest =
    ap (parse (suc n)) (append_assoc w.before (wrapped_text w text n) rest)
    ∙ is.around n (wrapped_text w text n ++ rest)
    ∙ ap (found_map w.around) (nested_read w is text v reads n rest)

nested_bad : (w : Wrapping) → Wraps w → (text : List ℕ) → parse 0 text ≡ bad → (n : ℕ) → parse n (wrapped_text w text n) ≡ bad
nested_bad w is text none zero = none
nested_bad w is text none (suc n) = is.around n (wrapped_text w text n) ∙ ap (found_map w.around) (nested_bad w is text none n)

-- one more round a text
one_more : (w : Wrapping) → Wraps w → (text : List ℕ) (n : ℕ) → parse n (wrapped_text w text (suc n)) ≡ bad
one_more w is text zero = is.innermost text
one_more w is text (suc n) = is.around n (wrapped_text w text (suc n)) ∙ ap (found_map w.around) (one_more w is text n)

-- one value and no others, by what was found of it
alone : (f : List Data → Data) (x : Found Data) → found_map f (found_and_then (λ d rest. found_map (λ others. d ∷ others) (read [] rest)) x) ≡ found_map (λ d. f (d ∷ [])) x
alone f (read d rest) = refl
alone f short = refl
alone f bad = refl

-- one pair and no others, by what was found of its value
alone_with : (k : Data) (f : List (Data × Data) → Data) (x : Found Data)
    → found_map f (found_and_then (λ p rest. found_map (λ others. p ∷ others) (read [] rest)) (found_map (λ v. (k, v)) x)) ≡ found_map (λ d. f ((k, d) ∷ [])) x
alone_with k f (read d rest) = refl
alone_with k f short = refl
alone_with k f bad = refl

array_wraps : Wraps (record { before = codes "*1\r\n"; around = λ d. array (items_of (d ∷ [])) })
array_wraps = record { around = λ n text. alone (λ ds. array (items_of ds)) (parse n text); innermost = λ text. refl }

set_wraps : Wraps (record { before = codes "~1\r\n"; around = λ d. set (items_of (d ∷ [])) })
set_wraps = record { around = λ n text. alone (λ ds. set (items_of ds)) (parse n text); innermost = λ text. refl }

-- a line is read at any depth
key_read : (n : ℕ) (text : List ℕ) → parse n (codes "+k\r\n" ++ text) ≡ read (simple (codes "k")) text
key_read zero text = refl
key_read (suc n) text = refl

dict_wraps : Wraps (record { before = codes "%1\r\n+k\r\n"; around = λ d. dict (members_of ((simple (codes "k"), d) ∷ [])) })
dict_wraps = record { around = λ n text. map_around n text; innermost = λ text. refl }
  where
    map_around : (n : ℕ) (text : List ℕ) → parse (suc n) (codes "%1\r\n+k\r\n" ++ text) ≡ found_map (λ d. dict (members_of ((simple (codes "k"), d) ∷ []))) (parse n text)
    map_around zero text = alone_with (simple (codes "k")) (λ ps. dict (members_of ps)) (parse 0 text)
    map_around (suc n) text = alone_with (simple (codes "k")) (λ ps. dict (members_of ps)) (parse (suc n) text)

push_wraps : Wraps (record { before = codes ">2\r\n+k\r\n"; around = λ d. push (Other (codes "k")) (items_of (d ∷ [])) })
unfolding kind_of
push_wraps = record { around = λ n text. alone (λ ds. push (Other (codes "k")) (items_of ds)) (parse n text); innermost = λ text. refl }

attribute_around : (n : ℕ) (text : List ℕ) → parse (suc n) (codes "|1\r\n+k\r\n_\r\n" ++ text) ≡ found_map (λ d. attribute d (members_of ((simple (codes "k"), nil) ∷ []))) (parse n text)
attribute_around zero text = refl
attribute_around (suc n) text = refl

attribute_wraps : Wraps (record { before = codes "|1\r\n+k\r\n_\r\n"; around = λ d. attribute d (members_of ((simple (codes "k"), nil) ∷ [])) })
attribute_wraps = record { around = attribute_around; innermost = λ text. refl }

-- what holds of each that wraps
of_each : (P : Wrapping → Type 0) → ((w : Wrapping) → Wraps w → P w) → All P wrappings
of_each P f = each P wrappings (f _ array_wraps, (f _ set_wraps, (f _ dict_wraps, (f _ push_wraps, (f _ attribute_wraps, tt)))))

may_nest : (w : Wrapping) → Wraps w → MayNest 100 w
unfolding max_depth
may_nest w is = λ rest. reads_where_found (wrapped_text w (codes ":1\r\n") 100 ++ rest) (wrapped w (int (pos 1)) 100) rest (nested_read w is (codes ":1\r\n") (int (pos 1)) (λ rest. refl) 100 rest)

may_hold_nil : (w : Wrapping) → Wraps w → MayHoldNil 100 w
unfolding max_depth
may_hold_nil w is = λ rest. reads_where_found (wrapped_text w (codes "*-1\r\n") 100 ++ rest) (wrapped w nil 100) rest (nested_read w is (codes "*-1\r\n") nil (λ rest. refl) 100 rest)

may_not_nest : (w : Wrapping) → Wraps w → MayNotNest 101 w
unfolding max_depth
may_not_nest w is = malformed_from_bad (wrapped_text w (codes ":1\r\n") 101) (one_more w is (codes ":1\r\n") 100)

may_not_hold_empty : (w : Wrapping) → Wraps w → MayNotHoldEmpty 100 w
unfolding max_depth
may_not_hold_empty w is = malformed_from_bad (wrapped_text w (codes "*0\r\n") 100) (nested_bad w is (codes "*0\r\n") refl 100)

may_not_hold_less : (w : Wrapping) → Wraps w → MayNotHoldLess 100 w
unfolding max_depth
may_not_hold_less w is = malformed_from_bad (wrapped_text w (codes "*-2\r\n") 100) (nested_bad w is (codes "*-2\r\n") refl 100)

pub each_nests : All (MayNest 100) wrappings
each_nests = of_each (MayNest 100) may_nest

pub each_holds_nil : All (MayHoldNil 100) wrappings
each_holds_nil = of_each (MayHoldNil 100) may_hold_nil

pub none_nests_deeper : All (MayNotNest 101) wrappings
none_nests_deeper = of_each (MayNotNest 101) may_not_nest

pub none_holds_empty : All (MayNotHoldEmpty 100) wrappings
none_holds_empty = of_each (MayNotHoldEmpty 100) may_not_hold_empty

pub none_holds_less : All (MayNotHoldLess 100) wrappings
none_holds_less = of_each (MayNotHoldLess 100) may_not_hold_less
