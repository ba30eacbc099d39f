-- What a submission sends, and what it awaits.
use Rattle.std.specs.Prelude.{ℕ, ◌+◌, Bool, true, false, ◌&&◌, not, List, [], ◌∷◌, length, Option, Some, None, codes}
use Rattle.resp_write.specs.Pack.{pack, pack_commands, commands_of}
use Rattle.resp_write.specs.declared.subscription.SubscriptionAction.{SubscriptionAction}
use Rattle.resp_write.specs.declared.subscription.SubscriptionAction.TheVariants as action
use Rattle.resp_write.specs.Subscription.{action_word}
use Rattle.connection_info.specs.declared.protocol.ProtocolVersion.{ProtocolVersion}
use Rattle.connection_info.specs.Protocol.{is_resp3}
use Rattle.driver_model.specs.declared.hearing.Hearing.{Hearing}
use Rattle.driver_model.specs.declared.kind.SessionKind.{SessionKind}
use Rattle.driver_model.specs.declared.kind.SessionKind.TheVariants as kind
use Rattle.driver_model.specs.Hearing.{hears_messages}
use Rattle.driver_model.specs.declared.event.Submission.{Submission}
use Rattle.driver_model.specs.declared.event.Submission.TheVariants as submission
use Rattle.driver_model.specs.declared.outcome.Shape.{Shape}
use Rattle.driver_model.specs.declared.outcome.Shape.TheVariants.{Single, Pipeline, Confirmation}

-- one item, or none
abbrev pub listed : {X : Type 0} → Option X → List X
listed None = []
listed (Some x) = x ∷ []

-- the bytes of a submission: its command or its commands, packed; a subscription call is one command with all its names
abbrev pub packed_bytes : Submission → List ℕ
packed_bytes (submission.Cmd args) = pack args
packed_bytes (submission.NoReply args) = pack args
packed_bytes (submission.Pipe commands) = pack_commands false (commands_of commands)
packed_bytes (submission.Multi commands) = pack_commands true (commands_of commands)
packed_bytes (submission.Packed offset count commands) = pack_commands false (commands_of commands)
packed_bytes (submission.Subscription what names) = pack (action_word what ∷ names)
packed_bytes (submission.Ping message) = pack (codes "PING" ∷ listed message)

-- a pipeline keeps the replies to its commands, and a transaction the reply to EXEC behind those to MULTI and to its
-- commands as they were queued; a subscription call is confirmed
abbrev pub shape_of : Submission → Shape
shape_of (submission.Cmd args) = Single
shape_of (submission.NoReply args) = Single
shape_of (submission.Pipe commands) = Pipeline 0 (length commands) false
shape_of (submission.Multi commands) = Pipeline (length commands + 1) 1 true
shape_of (submission.Packed offset count commands) = Pipeline offset count false
shape_of (submission.Subscription what names) = Confirmation
shape_of (submission.Ping message) = Single

-- somebody awaits its reply
abbrev pub is_reply_awaited : Submission → Bool
is_reply_awaited (submission.Cmd args) = true
is_reply_awaited (submission.NoReply args) = false
is_reply_awaited (submission.Pipe commands) = true
is_reply_awaited (submission.Multi commands) = true
is_reply_awaited (submission.Packed offset count commands) = true
is_reply_awaited (submission.Subscription what names) = true
is_reply_awaited (submission.Ping message) = true

-- it is a subscription call, which a server answers on RESP3 alone
abbrev pub needs_resp3 : Submission → Bool
needs_resp3 (submission.Cmd args) = false
needs_resp3 (submission.NoReply args) = false
needs_resp3 (submission.Pipe commands) = false
needs_resp3 (submission.Multi commands) = false
needs_resp3 (submission.Packed offset count commands) = false
needs_resp3 (submission.Subscription what names) = true
needs_resp3 (submission.Ping message) = false

-- a multiplexed connection needs RESP3 for it, and its server is told to speak this protocol, which is another
abbrev pub lacks_resp3 : Hearing → ProtocolVersion → Submission → Bool
lacks_resp3 hearing protocol what = not (hears_messages hearing) && needs_resp3 what && not (is_resp3 protocol)

-- one command without a name
abbrev pub is_single_nameless : List (List (List ℕ)) → Bool
is_single_nameless ([] ∷ []) = true
is_single_nameless _ = false

-- it is about sharded channels, which a multiplexed connection has no calls for
abbrev pub is_sharded : SubscriptionAction → Bool
is_sharded action.Subscribe = false
is_sharded action.Unsubscribe = false
is_sharded action.PSubscribe = false
is_sharded action.PUnsubscribe = false
is_sharded action.SSubscribe = true
is_sharded action.Sunsubscribe = true

-- a list of exactly one command without a name, which has no form of its own in a script, or a call that a multiplexed connection
-- doesn't have
abbrev pub is_formless : Submission → Bool
is_formless (submission.Cmd args) = false
is_formless (submission.NoReply args) = false
is_formless (submission.Pipe commands) = is_single_nameless commands
is_formless (submission.Multi commands) = is_single_nameless commands
is_formless (submission.Packed offset count commands) = is_single_nameless commands
is_formless (submission.Subscription what names) = is_sharded what
is_formless (submission.Ping message) = true

-- neither a subscription call of a link of publish/subscribe nor its ping
abbrev pub is_foreign : Submission → Bool
is_foreign (submission.Cmd args) = true
is_foreign (submission.NoReply args) = true
is_foreign (submission.Pipe commands) = true
is_foreign (submission.Multi commands) = true
is_foreign (submission.Packed offset count commands) = true
is_foreign (submission.Subscription what names) = is_sharded what
is_foreign (submission.Ping message) = false

-- a session of this kind has no submission of this form: one in monitor mode has none at all
abbrev pub has_no_form : SessionKind → Submission → Bool
has_no_form kind.Single what = is_formless what
has_no_form (kind.Manager lazy) what = is_formless what
has_no_form kind.PubSub what = is_foreign what
has_no_form kind.Monitor what = true
