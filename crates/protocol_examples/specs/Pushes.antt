-- Which push is of which kind, and which pushes are replies.
use Rattle.std.specs.Prelude.{◌≡◌, ◌≢◌, ℕ, Bool, true, false, List, [], ◌∷◌, codes}
use Rattle.std.specs.List.{All}
use Rattle.resp_value.specs.declared.push_kind.PushKind.{PushKind}
use Rattle.resp_value.specs.declared.push_kind.PushKind.TheVariants.{Disconnection, Other, Invalidate, Message, PMessage, SMessage, Unsubscribe, PUnsubscribe, SUnsubscribe, Subscribe, PSubscribe, SSubscribe}
use Rattle.resp_value.specs.Kinds.{kind_of}

-- the texts that have a kind of their own, with it
abbrev pub kinds_of_texts : List (List ℕ × PushKind)
kinds_of_texts =
    (codes "invalidate", Invalidate)
    ∷ (codes "message", Message)
    ∷ (codes "pmessage", PMessage)
    ∷ (codes "smessage", SMessage)
    ∷ (codes "unsubscribe", Unsubscribe)
    ∷ (codes "punsubscribe", PUnsubscribe)
    ∷ (codes "sunsubscribe", SUnsubscribe)
    ∷ (codes "subscribe", Subscribe)
    ∷ (codes "psubscribe", PSubscribe)
    ∷ (codes "ssubscribe", SSubscribe)
    ∷ []

-- a text that is none of them is of the kind that keeps it
abbrev pub IsOther : List ℕ → Type 0
IsOther text = All (λ row. text ≢ row.0) kinds_of_texts → kind_of text ≡ Other text

-- some that are none of them: a kind is told with its case, and a disconnection is read from no text
abbrev pub other_kinds : List (List ℕ × PushKind)
other_kinds =
    (codes "MESSAGE", Other (codes "MESSAGE"))
    ∷ (codes "messages", Other (codes "messages"))
    ∷ (codes "disconnection", Other (codes "disconnection"))
    ∷ ([], Other [])
    ∷ []

-- whether a push of a kind answers a subscription call
abbrev pub replies_of_kinds : List (PushKind × Bool)
replies_of_kinds =
    (Subscribe, true)
    ∷ (PSubscribe, true)
    ∷ (SSubscribe, true)
    ∷ (Unsubscribe, true)
    ∷ (PUnsubscribe, true)
    ∷ (SUnsubscribe, true)
    ∷ (Message, false)
    ∷ (PMessage, false)
    ∷ (SMessage, false)
    ∷ (Invalidate, false)
    ∷ (Disconnection, false)
    ∷ (Other (codes "monitor"), false)
    ∷ []
