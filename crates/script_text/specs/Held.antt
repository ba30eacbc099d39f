-- Where the bytes of a word are.
use Rattle.std.specs.Prelude.{ℕ, List}
use Rattle.script_text.specs.declared.word.Held.{Held}
use Rattle.script_text.specs.declared.word.Held.TheVariants.{There, Here}

-- the bytes of a word, in the line or apart from it
abbrev pub bytes_of : Held → List ℕ
bytes_of (There raw) = raw.now
bytes_of (Here bytes) = bytes
