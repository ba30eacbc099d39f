-- The one text by which each value is shown.
use Rattle.std.specs.Prelude.{ℕ, pos, neg_ℤ, true, false, List, [], ◌∷◌, Some, None, codes}
use Rattle.resp_value.specs.declared.push_kind.PushKind.{PushKind}
use Rattle.resp_value.specs.declared.push_kind.PushKind.TheVariants.{Disconnection, Other, Invalidate, Message, PMessage, SMessage, Unsubscribe, PUnsubscribe, SUnsubscribe, Subscribe, PSubscribe, SSubscribe}
use Rattle.resp_value.specs.Data.{Data, nil, int, bulk, array, simple, okay, dict, attribute, set, double, boolean, verbatim, big, push, error, items_of, members_of}

-- values that hold no others
abbrev pub texts_of_scalars : List (Data × List ℕ)
texts_of_scalars =
    (nil, codes "_\r\n")
    ∷ (int (pos 1000), codes ":1000\r\n")
    ∷ (int (neg_ℤ (pos 1)), codes ":-1\r\n")
    ∷ (bulk (codes "hello"), codes "$5\r\nhello\r\n")
    ∷ (bulk [], codes "$0\r\n\r\n")
    ∷ (simple (codes "hello"), codes "+hello\r\n")
    ∷ (okay, codes "+OK\r\n")
    ∷ (double (codes "1.23"), codes ",1.23\r\n")
    ∷ (boolean true, codes "#t\r\n")
    ∷ (boolean false, codes "#f\r\n")
    ∷ (verbatim (codes "txt") (codes "Some string"), codes "=15\r\ntxt:Some string\r\n")
    ∷ (big (codes "3492890328409238509324850943850943825024385"), codes "(3492890328409238509324850943850943825024385\r\n")
    ∷ (error (record { code = codes "ERR"; detail = Some (codes "syntax error") }), codes "-ERR syntax error\r\n")
    ∷ (error (record { code = codes "EXECABORT"; detail = None }), codes "-EXECABORT\r\n")
    ∷ (error (record { code = codes "ERR"; detail = Some (codes "two\r\nlines") }), codes "!14\r\nERR two\r\nlines\r\n")
    ∷ []

-- values that hold others
abbrev pub texts_of_aggregates : List (Data × List ℕ)
texts_of_aggregates =
    (array (items_of (int (pos 1) ∷ nil ∷ [])), codes "*2\r\n:1\r\n_\r\n")
    ∷ (array (items_of []), codes "*0\r\n")
    ∷ (set (items_of (simple (codes "orange") ∷ boolean true ∷ [])), codes "~2\r\n+orange\r\n#t\r\n")
    ∷ (dict (members_of ((simple (codes "first"), int (pos 1)) ∷ (simple (codes "second"), int (pos 2)) ∷ [])), codes "%2\r\n+first\r\n:1\r\n+second\r\n:2\r\n")
    ∷ (attribute (int (pos 3)) (members_of ((simple (codes "ttl"), int (pos 3600)) ∷ [])), codes "|1\r\n+ttl\r\n:3600\r\n:3\r\n")
    ∷ (push SUnsubscribe (items_of (bulk (codes "a") ∷ int (pos 0) ∷ [])), codes ">3\r\n$12\r\nsunsubscribe\r\n$1\r\na\r\n:0\r\n")
    ∷ (push (Other (codes "monitor")) (items_of []), codes ">1\r\n$7\r\nmonitor\r\n")
    ∷ (push Disconnection (items_of []), codes ">1\r\n$13\r\ndisconnection\r\n")
    ∷ []

-- the text of each kind of push
abbrev pub texts_of_kinds : List (PushKind × List ℕ)
texts_of_kinds =
    (Invalidate, codes "invalidate")
    ∷ (Message, codes "message")
    ∷ (PMessage, codes "pmessage")
    ∷ (SMessage, codes "smessage")
    ∷ (Subscribe, codes "subscribe")
    ∷ (PSubscribe, codes "psubscribe")
    ∷ (SSubscribe, codes "ssubscribe")
    ∷ (Unsubscribe, codes "unsubscribe")
    ∷ (PUnsubscribe, codes "punsubscribe")
    ∷ (SUnsubscribe, codes "sunsubscribe")
    ∷ (Disconnection, codes "disconnection")
    ∷ (Other (codes "monitor"), codes "monitor")
    ∷ []
