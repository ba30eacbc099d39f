-- What the parts of the reader answer.
use Rattle.std.specs.Prelude.{ℕ, Bool, false, ◌||◌, ◌==◌, [], ◌∷◌}
use Rattle.resp_value.specs.Data.{Data}
use Rattle.resp_read.specs.Grammar.{Limits}
use Rattle.resp_read.specs.Parser.{LineForm, simple_line, error_line, number_line, null_line, boolean_line, double_line, big_line, no_array_line, Table}
use Rattle.resp_read.specs.declared.forms.OneLine.{OneLine}
use Rattle.resp_read.specs.declared.forms.OneLine.TheVariants.{Simple, Error, Number, Null, Boolean, Double, Big, NoArray}

-- the form of a value that is one line
abbrev pub line_form : Limits → OneLine → LineForm Data
line_form limits Simple = simple_line
line_form limits Error = error_line
line_form limits Number = number_line
line_form limits Null = null_line
line_form limits Boolean = boolean_line
line_form limits Double = double_line limits
line_form limits Big = big_line
line_form limits NoArray = no_array_line

-- some form of the table begins with that byte
abbrev pub has : Table → ℕ → Bool
has [] b = false
has (f ∷ fs) b = (b == f.0) || has fs b
