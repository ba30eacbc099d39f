-- Texts that are values, texts that begin none, and texts that are not whole.
use Rattle.std.specs.Prelude.{◌≢◌, ℕ, pos, neg_ℤ, true, false, List, [], ◌∷◌, ◌++◌, Some, None, codes}
use Rattle.std.specs.List.{All}
use Rattle.resp_value.specs.declared.push_kind.PushKind.TheVariants.{Invalidate, Message, Other}
use Rattle.resp_value.specs.Data.{Data, nil, int, bulk, array, simple, okay, dict, attribute, set, double, boolean, verbatim, big, push, error, items_of, members_of}
use Rattle.resp_read.specs.Reads.{Reads, IsMalformed}

-- a text, and the value that it is
abbrev pub Example : Type 0
Example = List ℕ × Data

-- whatever follows the text, the value stands at the front, and what follows is left
abbrev pub IsValue : Example → Type 0
IsValue example = (rest : List ℕ) → Reads (example.0 ++ rest) example.1 rest

-- a number that isn't negative
abbrev pub natural_number : ℕ → Data
natural_number n = int (pos n)

-- an error of this code and detail
abbrev pub server_error : List ℕ → List ℕ → Data
server_error code detail = error (record { code = code; detail = Some detail })

-- lines: simple strings, errors, numbers, and the value for nothing
abbrev pub lines : List Example
lines =
    (codes "+OK\r\n", okay)
    ∷ (codes "+hello world\r\n", simple (codes "hello world"))
    ∷ (codes "+ok\r\n", simple (codes "ok"))
    ∷ (codes "+\r\n", simple [])
    ∷ (codes "-ERR unknown command 'asdf'\r\n", server_error (codes "ERR") (codes "unknown command 'asdf'"))
    ∷ (codes "-WRONGTYPE Operation against a key holding the wrong kind of value\r\n", server_error (codes "WRONGTYPE") (codes "Operation against a key holding the wrong kind of value"))
    ∷ (codes "-EXECABORT\r\n", error (record { code = codes "EXECABORT"; detail = None }))
    ∷ (codes "-ERR  two spaces\r\n", server_error (codes "ERR") (codes " two spaces"))
    ∷ (codes "-\r\n", error (record { code = []; detail = None }))
    ∷ (codes ":0\r\n", natural_number 0)
    ∷ (codes ":007\r\n", natural_number 7)
    ∷ (codes ":1000\r\n", natural_number 1000)
    ∷ (codes ":+7\r\n", natural_number 7)
    ∷ (codes ":-1\r\n", int (neg_ℤ (pos 1)))
    ∷ (codes ":9223372036854775807\r\n", natural_number 9_223_372_036_854_775_807)
    ∷ (codes ":-9223372036854775808\r\n", int (neg_ℤ (pos 9_223_372_036_854_775_808)))
    ∷ (codes "_\r\n", nil)
    ∷ []

-- booleans, doubles and big numbers
abbrev pub scalars : List Example
scalars =
    (codes "#t\r\n", boolean true)
    ∷ (codes "#f\r\n", boolean false)
    ∷ (codes ",1.23\r\n", double (codes "1.23"))
    ∷ (codes ",10\r\n", double (codes "10"))
    ∷ (codes ",-1.5E+10\r\n", double (codes "-1.5E+10"))
    ∷ (codes ",+1e5\r\n", double (codes "+1e5"))
    ∷ (codes ",inf\r\n", double (codes "inf"))
    ∷ (codes ",-inf\r\n", double (codes "-inf"))
    ∷ (codes ",nan\r\n", double (codes "nan"))
    ∷ (codes "(3492890328409238509324850943850943825024385\r\n", big (codes "3492890328409238509324850943850943825024385"))
    ∷ (codes "(-1\r\n", big (codes "-1"))
    ∷ (codes "(+1\r\n", big (codes "+1"))
    ∷ []

-- texts of announced length: bulk strings, errors and texts with their format
abbrev pub sized_texts : List Example
sized_texts =
    (codes "$5\r\nhello\r\n", bulk (codes "hello"))
    ∷ (codes "$0\r\n\r\n", bulk [])
    ∷ (codes "$2\r\n\r\n\r\n", bulk (codes "\r\n"))
    ∷ (codes "$-1\r\n", nil)
    ∷ (codes "!21\r\nSYNTAX invalid syntax\r\n", server_error (codes "SYNTAX") (codes "invalid syntax"))
    ∷ (codes "=15\r\ntxt:Some string\r\n", verbatim (codes "txt") (codes "Some string"))
    ∷ (codes "=4\r\nmkd:\r\n", verbatim (codes "mkd") [])
    ∷ []

-- arrays and sets
abbrev pub lists : List Example
lists =
    (codes "*0\r\n", array (items_of []))
    ∷ (codes "*-1\r\n", nil)
    ∷ (codes "*2\r\n$5\r\nhello\r\n$5\r\nworld\r\n", array (items_of (bulk (codes "hello") ∷ bulk (codes "world") ∷ [])))
    ∷ (codes "*3\r\n$5\r\nhello\r\n$-1\r\n$5\r\nworld\r\n", array (items_of (bulk (codes "hello") ∷ nil ∷ bulk (codes "world") ∷ [])))
    ∷ (
      codes "*2\r\n*3\r\n:1\r\n:2\r\n:3\r\n*2\r\n+Hello\r\n-World\r\n",
      array (items_of (array (items_of (natural_number 1 ∷ natural_number 2 ∷ natural_number 3 ∷ [])) ∷ array (items_of (simple (codes "Hello") ∷ error (record { code = codes "World"; detail = None }) ∷ [])) ∷ [])),
    )
    ∷ (codes "~0\r\n", set (items_of []))
    ∷ (codes "~5\r\n+orange\r\n+apple\r\n#t\r\n:100\r\n:999\r\n", set (items_of (simple (codes "orange") ∷ simple (codes "apple") ∷ boolean true ∷ natural_number 100 ∷ natural_number 999 ∷ [])))
    ∷ []

-- maps, pushes and attributes
abbrev pub tagged : List Example
tagged =
    (codes "%0\r\n", dict (members_of []))
    ∷ (codes "%2\r\n+first\r\n:1\r\n+second\r\n:2\r\n", dict (members_of ((simple (codes "first"), natural_number 1) ∷ (simple (codes "second"), natural_number 2) ∷ [])))
    ∷ (codes ">1\r\n+invalidate\r\n", push Invalidate (items_of []))
    ∷ (codes ">3\r\n+message\r\n+somechannel\r\n+this is the message\r\n", push Message (items_of (simple (codes "somechannel") ∷ simple (codes "this is the message") ∷ [])))
    ∷ (codes ">3\r\n$7\r\nmessage\r\n$11\r\nsomechannel\r\n$4\r\ntext\r\n", push Message (items_of (bulk (codes "somechannel") ∷ bulk (codes "text") ∷ [])))
    ∷ (codes ">2\r\n+server-cpu-usage\r\n:15\r\n", push (Other (codes "server-cpu-usage")) (items_of (natural_number 15 ∷ [])))
    ∷ (
      codes "|1\r\n+key-popularity\r\n%2\r\n$1\r\na\r\n,0.1923\r\n$1\r\nb\r\n,0.0012\r\n*2\r\n:2039123\r\n:9543892\r\n",
      attribute
          (array (items_of (natural_number 2039123 ∷ natural_number 9543892 ∷ [])))
          (members_of ((simple (codes "key-popularity"), dict (members_of ((bulk (codes "a"), double (codes "0.1923")) ∷ (bulk (codes "b"), double (codes "0.0012")) ∷ []))) ∷ [])),
    )
    ∷ (codes "*3\r\n:1\r\n:2\r\n|1\r\n+ttl\r\n:3600\r\n:3\r\n", array (items_of (natural_number 1 ∷ natural_number 2 ∷ attribute (natural_number 3) (members_of ((simple (codes "ttl"), natural_number 3600) ∷ [])) ∷ [])))
    ∷ []

-- no first byte of a value, a CR that no LF follows, a number that is none or has more than 64 bits, and words that the form doesn't have
abbrev pub malformed_lines : List (List ℕ)
malformed_lines =
    codes "PING\r\n"
    ∷ codes "\r\n"
    ∷ codes "?"
    ∷ codes ":\r"
    ∷ codes "+one\rtwo"
    ∷ codes "-ERR one\rtwo"
    ∷ codes ":\r\n"
    ∷ codes ":+-1"
    ∷ codes ":1.5"
    ∷ codes ":9223372036854775808"
    ∷ codes ":+9223372036854775808"
    ∷ codes ":-9223372036854775809"
    ∷ codes "_x"
    ∷ codes "_x\r\n"
    ∷ codes "#\r\n"
    ∷ codes "#T"
    ∷ codes "#true"
    ∷ codes ",\r\n"
    ∷ codes ",.5"
    ∷ codes ",5.\r\n"
    ∷ codes ",1e\r\n"
    ∷ codes ",-nan"
    ∷ codes ",+inf"
    ∷ codes ",INF"
    ∷ codes ",1e5.5"
    ∷ codes "(\r\n"
    ∷ codes "(1.5"
    ∷ codes "(+-1"
    ∷ []

-- lengths that are none, and bytes behind the announced ones that aren't CR LF; a text without `:` after its format; a push of no values, or whose kind is no string
abbrev pub malformed_lengths : List (List ℕ)
malformed_lengths =
    codes "$\r\n"
    ∷ codes "$-\r"
    ∷ codes "*\r"
    ∷ codes "$-2"
    ∷ codes "$-0"
    ∷ codes "$-10"
    ∷ codes "$-1x"
    ∷ codes "$+5"
    ∷ codes "$5\r\nhello!"
    ∷ codes "$5\r\nhello\r!"
    ∷ codes "!-1"
    ∷ codes "!5\r\nERROR!"
    ∷ codes "=3\r\n"
    ∷ codes "=8\r\ntxt;"
    ∷ codes "*-2"
    ∷ codes "*-0"
    ∷ codes "*-10"
    ∷ codes "*x"
    ∷ codes "*1\r\n?"
    ∷ codes "~-1"
    ∷ codes "~1\r\n?"
    ∷ codes "%-1"
    ∷ codes "%1\r\n+key\r\n?"
    ∷ codes ">-1"
    ∷ codes ">0\r\n"
    ∷ codes ">1\r\n:"
    ∷ codes ">1\r\n$-1\r\n"
    ∷ codes "|-1"
    ∷ codes "|1\r\n+key\r\n?"
    ∷ []

-- lines that have not ended
abbrev pub short_lines : List (List ℕ)
short_lines =
    []
    ∷ codes "+"
    ∷ codes "+OK\r"
    ∷ codes "-ERR unknown"
    ∷ codes ":"
    ∷ codes ":-"
    ∷ codes ":1000\r"
    ∷ codes "_"
    ∷ codes "_\r"
    ∷ codes "#"
    ∷ codes "#t"
    ∷ codes ","
    ∷ codes ",5."
    ∷ codes ",1e"
    ∷ codes ",-in"
    ∷ codes ",n"
    ∷ codes "("
    ∷ codes "(349\r"
    ∷ []

-- announced bytes and values that have not come; a length may begin with zeros, so that `>0` can become `>01`
abbrev pub short_lengths : List (List ℕ)
short_lengths =
    codes "$"
    ∷ codes "$-"
    ∷ codes "$5\r\nhel"
    ∷ codes "$5\r\nhello"
    ∷ codes "$5\r\nhello\r"
    ∷ codes "!21\r\nSYNTAX"
    ∷ codes "=3"
    ∷ codes "=15\r\ntx"
    ∷ codes "=15\r\ntxt:Some"
    ∷ codes "*-"
    ∷ codes "*2\r\n:1\r\n"
    ∷ codes "~1\r\n"
    ∷ codes "%1\r\n+first\r\n"
    ∷ codes ">"
    ∷ codes ">0"
    ∷ codes ">3\r\n"
    ∷ codes ">3\r\n$7\r\nmess"
    ∷ codes ">3\r\n+message\r\n+somechannel\r\n"
    ∷ codes "|1\r\n+ttl\r\n:3600\r\n"
    ∷ []

-- the first bytes of the fifteen forms
abbrev pub first_bytes : List ℕ
first_bytes = codes "+-:$_#,(!=*~%>|"

-- a byte that is none of them begins no value
abbrev pub BeginsNone : ℕ → Type 0
BeginsNone b = All (λ first. b ≢ first) first_bytes → IsMalformed (b ∷ [])
