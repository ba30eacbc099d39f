-- One part of a command with keys in several slots.
use Rattle.std.specs.Prelude.{ℕ, ◌*◌, ◌/◌, Bool, true, false, List, [], ◌∷◌, ◌++◌, length, take, drop}
use Rattle.resp_write.specs.Command.{Command}
use Rattle.command_table.specs.declared.commands.Form.{Form}
use Rattle.command_table.specs.declared.commands.Form.TheVariants.{AllPrimaries, AllNodes, EachKey, EachPair, Random, CountedKey, AfterStreams, SecondKey, FirstKey}
use Rattle.command_table.specs.Lookup.{form_of}

-- whether a command of this form may have keys in several slots
abbrev pub is_several : Form → Bool
is_several (EachKey addr policy) = true
is_several (EachPair addr policy) = true
is_several (AllPrimaries policy) = false
is_several (AllNodes policy) = false
is_several Random = false
is_several (CountedKey addr) = false
is_several (AfterStreams addr) = false
is_several (SecondKey addr) = false
is_several (FirstKey addr) = false

-- how many arguments go with a key: itself, or itself and its value
abbrev pub width : Form → ℕ
width (EachPair addr policy) = 2
width (EachKey addr policy) = 1
width (AllPrimaries policy) = 1
width (AllNodes policy) = 1
width Random = 1
width (CountedKey addr) = 1
width (AfterStreams addr) = 1
width (SecondKey addr) = 1
width (FirstKey addr) = 1

-- a command's form; without a name that of none
abbrev pub may_be_several : List (List ℕ) → Bool
may_be_several [] = false
may_be_several (name ∷ args) = is_several (form_of name args)

abbrev pub width_of : List (List ℕ) → ℕ
width_of [] = 1
width_of (name ∷ args) = width (form_of name args)

-- how many keys a command has; where each has a value, those that have one
abbrev pub key_count : List (List ℕ) → ℕ
key_count [] = 0
key_count (name ∷ args) = length args / width (form_of name args)

-- the keys of these places, each with what goes with it, in order
abbrev pub chosen : ℕ → List (List ℕ) → List ℕ → List (List ℕ)
chosen width args [] = []
chosen width args (i ∷ is) = take width (drop (width * i) args) ++ chosen width args is

-- the name, and then these keys
abbrev pub part_of : List (List ℕ) → List ℕ → List (List ℕ)
part_of [] indices = []
part_of (name ∷ args) indices = name ∷ chosen (width (form_of name args)) args indices

-- the command of a part: the same, with these keys alone
abbrev pub part_for : Command → List ℕ → Command
part_for c indices = record c { args = part_of c.args indices }
