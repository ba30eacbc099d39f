-- The look-up of a command: two-word names first, names without ASCII case.
use Rattle.std.specs.Prelude.{ℕ, ◌&&◌, List, [], ◌∷◌, Option, Some, None, unwrap_or, if◌then◌else◌}
use Rattle.std.specs.Str.{str_eq_ignore_ascii_case}
use Rattle.command_table.specs.declared.routing.SlotAddr.TheVariants.{Master}
use Rattle.command_table.specs.declared.commands.Form.{Form}
use Rattle.command_table.specs.declared.commands.Form.TheVariants.{FirstKey}
use Rattle.command_table.specs.Commands.{two_word_commands, one_word_commands}

-- the form of the first row with this name
abbrev pub found_one : List (List ℕ × Form) → List ℕ → Option Form
found_one [] name = None
found_one (c ∷ cs) name = if str_eq_ignore_ascii_case c.0 name then Some c.1 else found_one cs name

-- the form of the first row with these two words
abbrev pub found_two : List (List ℕ × List ℕ × Form) → List ℕ → List ℕ → Option Form
found_two [] name next = None
found_two (c ∷ cs) name next = if str_eq_ignore_ascii_case c.0 name && str_eq_ignore_ascii_case c.1 next then Some c.2 else found_two cs name next

-- by its name alone
unfoldable pub one_word_form : List ℕ → Form
one_word_form name = unwrap_or (found_one one_word_commands name) (FirstKey Master)

-- by two words, if they are such a command
unfoldable pub two_word_form : List ℕ → List ℕ → Option Form
two_word_form name next = found_two two_word_commands name next

-- by its name and the arguments after it
abbrev pub form_of : List ℕ → List (List ℕ) → Form
form_of name [] = one_word_form name
form_of name (next ∷ rest) = unwrap_or (two_word_form name next) (one_word_form name)
