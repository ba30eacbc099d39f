-- What a push is about, by the text of its kind, and which pushes are replies.
use Rattle.std.specs.Prelude.{ℕ, Bool, true, false, List, Option, Some, None, codes, bytes_eq, if◌then◌else◌}
use Rattle.resp_value.specs.Data.{Data, push}
use Rattle.resp_value.specs.declared.push_kind.PushKind.{PushKind}
use Rattle.resp_value.specs.declared.push_kind.PushKind.TheVariants.{Disconnection, Other, Invalidate, Message, PMessage, SMessage, Unsubscribe, PUnsubscribe, SUnsubscribe, Subscribe, PSubscribe, SSubscribe}

-- the kinds that have a text of their own, but for that of a disconnection, which is read from no text
abbrev pub named_kind : List ℕ → Option PushKind
named_kind text =
    if bytes_eq text (codes "invalidate") then Some Invalidate
    else if bytes_eq text (codes "message") then Some Message
    else if bytes_eq text (codes "pmessage") then Some PMessage
    else if bytes_eq text (codes "smessage") then Some SMessage
    else if bytes_eq text (codes "unsubscribe") then Some Unsubscribe
    else if bytes_eq text (codes "punsubscribe") then Some PUnsubscribe
    else if bytes_eq text (codes "sunsubscribe") then Some SUnsubscribe
    else if bytes_eq text (codes "subscribe") then Some Subscribe
    else if bytes_eq text (codes "psubscribe") then Some PSubscribe
    else if bytes_eq text (codes "ssubscribe") then Some SSubscribe
    else None

abbrev pub kind_or : Option PushKind → List ℕ → PushKind
kind_or (Some kind) text = kind
kind_or None text = Other text

-- the kind of a text
unfoldable pub kind_of : List ℕ → PushKind
kind_of text = kind_or (named_kind text) text

-- a push that is also a reply: it answers a subscription call
abbrev pub has_reply : PushKind → Bool
has_reply Subscribe = true
has_reply PSubscribe = true
has_reply SSubscribe = true
has_reply Unsubscribe = true
has_reply PUnsubscribe = true
has_reply SUnsubscribe = true
has_reply Invalidate = false
has_reply Message = false
has_reply PMessage = false
has_reply SMessage = false
has_reply Disconnection = false
has_reply (Other text) = false

-- an item, which a link may give to a message: every value but a push without reply
abbrev pub is_item : Data → Bool
is_item (push k parts) = has_reply k
is_item _ = true

-- the name of a kind; that of a disconnection is read from no text
abbrev pub kind_text : PushKind → List ℕ
kind_text (Other text) = text
kind_text Invalidate = codes "invalidate"
kind_text Message = codes "message"
kind_text PMessage = codes "pmessage"
kind_text SMessage = codes "smessage"
kind_text Unsubscribe = codes "unsubscribe"
kind_text PUnsubscribe = codes "punsubscribe"
kind_text SUnsubscribe = codes "sunsubscribe"
kind_text Subscribe = codes "subscribe"
kind_text PSubscribe = codes "psubscribe"
kind_text SSubscribe = codes "ssubscribe"
kind_text Disconnection = codes "disconnection"
