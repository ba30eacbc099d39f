-- The last lines of a run.
use Rattle.std.specs.Prelude.{ℕ, List, [], ◌∷◌, ◌++◌, decimal, codes}
use Rattle.redis_error.specs.Names.{config_name}
use Rattle.redis_error.specs.declared.config_name.ConfigName.{ConfigName}

-- words, a space and a number as a line
unfoldable pub numbered_line : List ℕ → ℕ → List ℕ
numbered_line words number = words ++ 32 ∷ decimal number ++ 10 ∷ []

-- the line where a configuration is refused, for what it says of this name
unfoldable pub config_line : ConfigName → List ℕ
config_line name = codes "config " ++ config_name name ++ 10 ∷ []

-- the line where the words are no command
abbrev pub usage_line : List ℕ
usage_line = codes "usage: session_tool replay or gen N or live CONFIG" ++ 10 ∷ []

-- the line where the source failed
abbrev pub read_fault_line : List ℕ
read_fault_line = codes "read fault" ++ 10 ∷ []
