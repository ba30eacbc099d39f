-- What is tracked of commands, and the pipeline that subscribes it again.
use Rattle.std.specs.Prelude.{ℕ, Bool, true, false, List, [], ◌∷◌, Option, Some, None, codes}
use Rattle.resp_write.specs.declared.subscription.SubscriptionAction.TheVariants.{Subscribe, Unsubscribe, PSubscribe, PUnsubscribe, SSubscribe, Sunsubscribe}
use Rattle.resp_write.specs.Command.{Command}
use Rattle.resp_write.specs.Pack.{pack_pipeline}
use Rattle.sub_tracker.specs.Subscribed.{Request, Family, Plain, Sharded, Pattern, subscribed}
use Rattle.sub_tracker.specs.Held.{Held, held_after}
use Rattle.sub_tracker.specs.Pipeline.{request_of, resubscription}

-- the arguments of a command, and what is tracked of it, if it is one of the six
abbrev pub tracked_commands : List (List (List ℕ) × Option Request)
tracked_commands =
    (codes "SUBSCRIBE" ∷ codes "first" ∷ codes "second" ∷ [], Some (Subscribe, codes "first" ∷ codes "second" ∷ []))
    ∷ (codes "PSUBSCRIBE" ∷ codes "news.*" ∷ [], Some (PSubscribe, codes "news.*" ∷ []))
    ∷ (codes "SSUBSCRIBE" ∷ codes "orders" ∷ [], Some (SSubscribe, codes "orders" ∷ []))
    ∷ (codes "UNSUBSCRIBE" ∷ codes "first" ∷ [], Some (Unsubscribe, codes "first" ∷ []))
    ∷ (codes "PUNSUBSCRIBE" ∷ codes "news.*" ∷ [], Some (PUnsubscribe, codes "news.*" ∷ []))
    ∷ (codes "SUNSUBSCRIBE" ∷ codes "orders" ∷ [], Some (Sunsubscribe, codes "orders" ∷ []))
    ∷ (codes "pSubscribe" ∷ codes "News.*" ∷ [], Some (PSubscribe, codes "News.*" ∷ []))
    ∷ (codes "UNSUBSCRIBE" ∷ [], Some (Unsubscribe, []))
    ∷ (codes "PUBLISH" ∷ codes "first" ∷ codes "text" ∷ [], None)
    ∷ ([], None)
    ∷ []

-- names of the three families
abbrev pub held : List (List ℕ) → List (List ℕ) → List (List ℕ) → Held
held plain sharded pattern = record { plain = plain; sharded = sharded; pattern = pattern }

-- SUBSCRIBE second first, PSUBSCRIBE news.* and SSUBSCRIBE orders
abbrev pub of_each_family : List Request
of_each_family = (Subscribe, codes "second" ∷ codes "first" ∷ []) ∷ (PSubscribe, codes "news.*" ∷ []) ∷ (SSubscribe, codes "orders" ∷ []) ∷ []

-- tracked commands, and what is subscribed after them where nothing was before: names in byte order, each once
abbrev pub subscribed_after : List (List Request × Held)
subscribed_after =
    ([], held [] [] [])
    ∷ (of_each_family, held (codes "first" ∷ codes "second" ∷ []) (codes "orders" ∷ []) (codes "news.*" ∷ []))
    ∷ ((Subscribe, codes "first" ∷ []) ∷ (Subscribe, codes "first" ∷ []) ∷ [], held (codes "first" ∷ []) [] [])
    ∷ ((Subscribe, codes "first" ∷ codes "second" ∷ []) ∷ (Unsubscribe, codes "first" ∷ codes "third" ∷ []) ∷ [], held (codes "second" ∷ []) [] [])
    ∷ ((Subscribe, codes "first" ∷ []) ∷ (PUnsubscribe, codes "first" ∷ []) ∷ (Sunsubscribe, codes "first" ∷ []) ∷ [], held (codes "first" ∷ []) [] [])
    ∷ ((PSubscribe, codes "first" ∷ []) ∷ (SSubscribe, codes "first" ∷ []) ∷ (PUnsubscribe, codes "first" ∷ []) ∷ [], held [] (codes "first" ∷ []) [])
    ∷ ((SSubscribe, codes "first" ∷ []) ∷ (Sunsubscribe, codes "first" ∷ []) ∷ (SSubscribe, codes "first" ∷ []) ∷ [], held [] (codes "first" ∷ []) [])
    ∷ ((Subscribe, codes "first" ∷ []) ∷ (Unsubscribe, []) ∷ [], held (codes "first" ∷ []) [] [])
    ∷ []

-- whether a name of a family is subscribed after some commands
abbrev pub is_subscribed : Family × List ℕ × List Request → Bool
is_subscribed asked = subscribed asked.0 asked.1 asked.2

-- names of families, and whether they are
abbrev pub subscribed_names : List ((Family × List ℕ × List Request) × Bool)
subscribed_names =
    ((Plain, codes "first", of_each_family), true)
    ∷ ((Plain, codes "news.*", of_each_family), false)
    ∷ ((Pattern, codes "news.*", of_each_family), true)
    ∷ ((Sharded, codes "orders", of_each_family), true)
    ∷ ((Sharded, codes "first", of_each_family), false)
    ∷ ((Plain, codes "first", (Subscribe, codes "first" ∷ []) ∷ (Unsubscribe, codes "first" ∷ []) ∷ []), false)
    ∷ ((Plain, codes "first", (Unsubscribe, codes "first" ∷ []) ∷ (Subscribe, codes "first" ∷ []) ∷ []), true)
    ∷ ((Pattern, codes "first", (PSubscribe, codes "first" ∷ []) ∷ (Unsubscribe, codes "first" ∷ []) ∷ []), true)
    ∷ []

-- the bytes that subscribe again what is subscribed after these commands
abbrev pub resubscribing : List Request → List ℕ
resubscribing history = pack_pipeline (resubscription (held_after history))

-- tracked commands, and these bytes
abbrev pub bytes_that_resubscribe : List (List Request × List ℕ)
bytes_that_resubscribe =
    ([], [])
    ∷ (of_each_family, codes "*3\r\n$9\r\nSUBSCRIBE\r\n$5\r\nfirst\r\n$6\r\nsecond\r\n*2\r\n$10\r\nSSUBSCRIBE\r\n$6\r\norders\r\n*2\r\n$10\r\nPSUBSCRIBE\r\n$6\r\nnews.*\r\n")
    ∷ ((PSubscribe, codes "news.*" ∷ []) ∷ [], codes "*2\r\n$10\r\nPSUBSCRIBE\r\n$6\r\nnews.*\r\n")
    ∷ []

-- what is tracked of one command, before others
abbrev pub tracked_with : Option Request → List Request → List Request
tracked_with None requests = requests
tracked_with (Some request) requests = request ∷ requests

-- what is tracked of commands, in order
abbrev pub tracked : List Command → List Request
tracked [] = []
tracked (command ∷ commands) = tracked_with (request_of command.args) (tracked commands)

-- the commands that subscribe these names again, tracked from nothing
abbrev pub tracked_again : Held → Held
tracked_again names = held_after (tracked (resubscription names).commands)
