-- The two tables of the code are the two tables.
use Rattle.std.proofs.Common.{◌≡◌, ℕ, List, map, unwrap_or, refl, ap}
use Rattle.command_table.specs.declared.routing.SlotAddr.TheVariants.{Master}
use Rattle.command_table.specs.declared.commands.Form.TheVariants.{FirstKey}
use Rattle.command_table.specs.declared.commands.TheConstants.{ONE_WORD_COMMANDS, TWO_WORD_COMMANDS}
use Rattle.command_table.specs.Commands.{one_word_commands, two_word_commands}
use Rattle.command_table.specs.Lookup.{found_one, found_two, one_word_form, two_word_form}

one_words : map (λ c. (c.0.now, c.1)) ONE_WORD_COMMANDS ≡ one_word_commands
unfolding one_word_commands
one_words = refl

two_words : map (λ c. (c.0.now, c.1.now, c.2)) TWO_WORD_COMMANDS ≡ two_word_commands
unfolding two_word_commands
two_words = refl

pub by_one_word : (name : List ℕ) → unwrap_or (found_one (map (λ c. (c.0.now, c.1)) ONE_WORD_COMMANDS) name) (FirstKey Master) ≡ one_word_form name
unfolding one_word_form
by_one_word name = ap (λ rows. unwrap_or (found_one rows name) (FirstKey Master)) one_words

pub by_two_words : (name next : List ℕ) → found_two (map (λ c. (c.0.now, c.1.now, c.2)) TWO_WORD_COMMANDS) name next ≡ two_word_form name next
unfolding two_word_form
by_two_words name next = ap (λ rows. found_two rows name next) two_words
