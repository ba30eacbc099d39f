-- Which protocol a connection speaks, and which one a URL names.
use Rattle.std.specs.Prelude.{ℕ, Bool, true, false, ◌||◌, List, [], ◌∷◌, codes, bytes_eq, Option, Some, None, unwrap_or, if◌then◌else◌}
use Rattle.std.specs.Str.Lossy.{utf8_lossy}
use Rattle.url.specs.Parts.{Parts}
use Rattle.form_urlencoded.specs.Form.{decode, raw_pairs}
use Rattle.connection_info.specs.declared.protocol.ProtocolVersion.{ProtocolVersion}
use Rattle.connection_info.specs.declared.protocol.ProtocolVersion.TheVariants.{RESP2, RESP3}

abbrev pub is_resp3 : ProtocolVersion → Bool
is_resp3 RESP2 = false
is_resp3 RESP3 = true

-- the text of a name or a value of a query: a plus is a space, escapes are decoded, and what is no UTF-8 is replaced
abbrev pub query_text : List ℕ → List ℕ
query_text bytes = utf8_lossy (decode bytes)

-- the value of the first pair of this name, if there is one
abbrev pub value_of : List ℕ → List (List ℕ × List ℕ) → Option (List ℕ)
value_of name [] = None
value_of name (pair ∷ pairs) = if bytes_eq (query_text pair.0) name then Some (query_text pair.1) else value_of name pairs

-- the protocol of a word, if it is one of four
abbrev pub protocol_named : List ℕ → Option ProtocolVersion
protocol_named word =
    if bytes_eq word (codes "2") || bytes_eq word (codes "resp2") then Some RESP2
    else (if bytes_eq word (codes "3") || bytes_eq word (codes "resp3") then Some RESP3 else None)

-- the same, and RESP2 where nothing is named
abbrev pub protocol_for : Option (List ℕ) → Option ProtocolVersion
protocol_for None = Some RESP2
protocol_for (Some word) = protocol_named word

-- the protocol of a URL: that of the first pair `protocol` of its query
abbrev pub protocol_of : Parts → Option ProtocolVersion
protocol_of url = protocol_for (value_of (codes "protocol") (raw_pairs (unwrap_or url.query [])))
