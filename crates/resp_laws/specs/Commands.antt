-- What packed commands are to a reader.
use Rattle.std.specs.Prelude.{ℕ, ◌≤◌, Bool, true, false, List, [], ◌∷◌, ◌++◌, length, map, codes}
use Rattle.std.specs.List.{All}
use Rattle.resp_value.specs.Data.{Data, bulk, array, items_of}
use Rattle.resp_read.specs.Limits.{default_limits}
use Rattle.resp_read.specs.declared.limits.Limits.{Limits}
use Rattle.resp_write.specs.Command.{Command}
use Rattle.resp_write.specs.Pack.{pack}

-- no longer than the longest bulk string that a reader with these limits takes
abbrev pub FitsBulkOf : Limits → List ℕ → Type 0
FitsBulkOf limits text = length text ≤ limits.bulk

-- each argument fits a bulk string, and there are no more of them than an array may have values
abbrev pub IsWithin : Limits → List (List ℕ) → Type 0
IsWithin limits args = All (FitsBulkOf limits) args × (length args ≤ limits.count)

-- the same of a reader that is asked for no other limits
abbrev pub FitsBulk : List ℕ → Type 0
FitsBulk = FitsBulkOf default_limits

abbrev pub IsWithinLimits : List (List ℕ) → Type 0
IsWithinLimits = IsWithin default_limits

-- what a reader finds of a command's name and arguments: an array of bulk strings
abbrev pub request : List (List ℕ) → Data
request args = array (items_of (map bulk args))

-- the packed commands one after another
abbrev pub packed : List (List (List ℕ)) → List ℕ
packed [] = []
packed (c ∷ cs) = pack c ++ packed cs

-- a request for this command before those, or none where it has not even a name
abbrev pub request_and : List (List ℕ) → List Data → List Data
request_and [] others = others
request_and (name ∷ args) others = request (name ∷ args) ∷ others

-- the requests of all commands, in order
abbrev pub requests : List (List (List ℕ)) → List Data
requests [] = []
requests (c ∷ cs) = request_and c (requests cs)

-- each command's name and arguments
abbrev pub words_of : List Command → List (List (List ℕ))
words_of [] = []
words_of (c ∷ cs) = c.args ∷ words_of cs

-- the same as a transaction, or not: with MULTI before them and EXEC after
abbrev pub framed : Bool → List (List (List ℕ)) → List (List (List ℕ))
framed false commands = commands
framed true commands = (codes "MULTI" ∷ []) ∷ (commands ++ (codes "EXEC" ∷ []) ∷ [])

-- the commands that a pipeline sends; without any, none, atomic or not
abbrev pub sent : Bool → List Command → List (List (List ℕ))
sent atomic [] = []
sent atomic (c ∷ cs) = framed atomic (words_of (c ∷ cs))
