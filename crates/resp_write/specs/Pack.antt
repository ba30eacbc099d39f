-- Commands as bytes, as a server reads them.
use Rattle.std.specs.Prelude.{ℕ, Bool, true, false, List, [], ◌∷◌, ◌++◌, length, decimal, flat_map, codes}
use Rattle.std.specs.Str.{byte}
use Rattle.resp_write.specs.Command.{Command, CommandList}

-- what ends a line: CR LF
abbrev pub crlf : List ℕ
crlf = 13 ∷ 10 ∷ []

-- a line of a first byte and a text
abbrev pub text_line : ℕ → List ℕ → List ℕ
text_line first text = (first ∷ text) ++ crlf

-- a line of a first byte and a number
abbrev pub number_line : ℕ → ℕ → List ℕ
number_line first n = text_line first (decimal n)

-- a first byte, the length of a text, and after that line the text
abbrev pub sized_text : ℕ → List ℕ → List ℕ
sized_text first text = number_line first (length text) ++ text ++ crlf

-- a byte string
abbrev pub bulk_string : List ℕ → List ℕ
bulk_string text = sized_text (byte "$") text

-- a command: how many arguments it has, its name among them, then each as a byte string; without any, no bytes
abbrev pub pack : List (List ℕ) → List ℕ
pack [] = []
pack (name ∷ rest) = number_line (byte "*") (length (name ∷ rest)) ++ flat_map bulk_string (name ∷ rest)

-- commands one after another
abbrev pub pack_each : List Command → List ℕ
pack_each [] = []
pack_each (c ∷ cs) = pack c.args ++ pack_each cs

-- the same as a transaction, or not: with MULTI before them and EXEC after
abbrev pub pack_framed : Bool → List Command → List ℕ
pack_framed false cs = pack_each cs
pack_framed true cs = pack (codes "MULTI" ∷ []) ++ (pack_each cs ++ pack (codes "EXEC" ∷ []))

-- a pipeline; without commands, no bytes, atomic or not
abbrev pub pack_commands : Bool → List Command → List ℕ
pack_commands atomic [] = []
pack_commands atomic (c ∷ cs) = pack_framed atomic (c ∷ cs)

abbrev pub pack_pipeline : CommandList → List ℕ
pack_pipeline p = pack_commands p.atomic p.commands

-- commands of these arguments, whose replies are awaited
abbrev pub commands_of : List (List (List ℕ)) → List Command
commands_of [] = []
commands_of (args ∷ more) = record { args = args; no_response = false } ∷ commands_of more
