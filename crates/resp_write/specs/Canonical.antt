-- The one text by which a value is shown: its spelling in RESP3.
use Rattle.std.specs.Prelude.{ℕ, suc, Bool, true, false, ◌||◌, ◌==◌, List, [], ◌∷◌, ◌++◌, length, Option, Some, None, codes, if◌then◌else◌}
use Rattle.std.specs.Str.{byte}
use Rattle.std.specs.Fmt.{signed_decimal}
pub use Rattle.resp_value.specs.Kinds.{kind_text}
use Rattle.resp_value.specs.declared.server_error.ServerError.{ServerError}
use Rattle.resp_value.specs.Data.{Data, nil, int, bulk, array, simple, okay, dict, attribute, set, double, boolean, verbatim, big, push, error, Items, no_items, item, list_of, Members, no_members, member, pairs_of}
use Rattle.resp_write.specs.Pack.{text_line, number_line, sized_text, bulk_string}

-- what follows the code of a server error: a space and the detail, if there is one
abbrev pub detail_text : Option (List ℕ) → List ℕ
detail_text None = []
detail_text (Some detail) = byte " " ∷ detail

-- some byte is CR or LF
abbrev pub breaks_line : List ℕ → Bool
breaks_line [] = false
breaks_line (b ∷ bs) = b == 13 || b == 10 || breaks_line bs

-- a server error: a line, or where it breaks lines a text of announced length
abbrev pub error_line : List ℕ → List ℕ
error_line text = if breaks_line text then sized_text (byte "!") text else text_line (byte "-") text

abbrev pub error_text : ServerError → List ℕ
error_text e = error_line (e.code ++ detail_text e.detail)

abbrev pub boolean_text : Bool → List ℕ
boolean_text true = codes "t"
boolean_text false = codes "f"

abbrev mutual
  pub canonical : Data → List ℕ
  canonical nil = text_line (byte "_") []
  canonical (int n) = text_line (byte ":") (signed_decimal n)
  canonical (bulk text) = bulk_string text
  canonical (array ds) = number_line (byte "*") (length (list_of ds)) ++ each_item ds
  canonical (simple text) = text_line (byte "+") text
  canonical okay = text_line (byte "+") (codes "OK")
  canonical (dict ms) = number_line (byte "%") (length (pairs_of ms)) ++ each_member ms
  canonical (attribute d ms) = number_line (byte "|") (length (pairs_of ms)) ++ each_member ms ++ canonical d
  canonical (set ds) = number_line (byte "~") (length (list_of ds)) ++ each_item ds
  canonical (double text) = text_line (byte ",") text
  canonical (boolean b) = text_line (byte "#") (boolean_text b)
  canonical (verbatim format text) = sized_text (byte "=") (format ++ byte ":" ∷ text)
  canonical (big text) = text_line (byte "(") text
  canonical (push kind ds) = number_line (byte ">") (suc (length (list_of ds))) ++ bulk_string (kind_text kind) ++ each_item ds
  canonical (error e) = error_text e

  -- the values one after another
  pub each_item : Items → List ℕ
  each_item no_items = []
  each_item (item d ds) = canonical d ++ each_item ds

  -- the keys, each followed by its value
  pub each_member : Members → List ℕ
  each_member no_members = []
  each_member (member k d ms) = canonical k ++ canonical d ++ each_member ms
