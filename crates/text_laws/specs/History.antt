-- Which history the text of a trace tells, read from the lines of its turns.
use Rattle.std.specs.Prelude.{ℕ, Bool, false, List, [], ◌∷◌, map, filter, drop, Option, None, option_map, option_and_then, bytes_eq, codes}
use Rattle.driver_model.specs.declared.config.Config.{Config}
use Rattle.driver_model.specs.Config.{kind_of}
use Rattle.driver_model.specs.declared.event.Event.{Event}
use Rattle.script_text.specs.declared.script.Script.{Script}
use Rattle.script_text.specs.Words.{LineWords, parts, all_of, words_of_line}
use Rattle.script_text.specs.ConfigLine.{opening_of}
use Rattle.script_text.specs.EventLine.{event_of}

-- the first of these words is `turn`
abbrev pub begins_turn : List (List ℕ) → Bool
begins_turn [] = false
begins_turn (word ∷ words) = bytes_eq word (codes "turn")

-- the lines of turns
abbrev pub turn_lines : List ℕ → List (List ℕ)
turn_lines text = filter (λ line. begins_turn (parts 32 line)) (parts 10 text)

-- the same line without so many of its first words
abbrev pub without : ℕ → LineWords → LineWords
without n line = record line { words = drop n line.words }

-- the words behind `turn` and the turn's number
abbrev pub cause_in : List ℕ → Option LineWords
cause_in line = option_map (without 2) (words_of_line line)

-- a history as a script
abbrev pub script_with : Config × ℕ → List Event → Script
script_with opening events = record { config = opening.0; word = opening.1; events = events }

-- the first turn is the opening, and each other one that of an event
abbrev pub history_in : List LineWords → Option Script
history_in [] = None
history_in (first ∷ rest) = option_and_then (λ opening. option_map (script_with opening) (all_of (map (event_of (kind_of opening.0)) rest))) (opening_of first)

-- the configuration, the word and the events that the text of a trace tells
unfoldable pub history_of : List ℕ → Option Script
history_of text = option_and_then history_in (all_of (map cause_in (turn_lines text)))
