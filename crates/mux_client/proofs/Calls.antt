-- Why a subscription call wasn't sent.
use Rattle.std.proofs.Common.{◌≡◌, ℕ, true, List, [], ◌∷◌, inl, inr, sym, ◌∙◌}
use Rattle.resp_write.specs.Pack.{pack}
use Rattle.mux_client.specs.declared.connection.MultiplexedConnection.{MultiplexedConnection}
use Rattle.mux_client.specs.declared.errors.SendError.{SendError}
use Rattle.mux_client.specs.declared.errors.SendError.TheVariants as error
use Rattle.mux_client.specs.Calls.{takes_calls, RefusesSend, RefusesCall}

-- a command with a name has bytes, so that it isn't refused as an empty one
pub refuses_call : (c : MultiplexedConnection) (word : List ℕ) (names : List (List ℕ)) (packed : List ℕ) (e : SendError) → packed ≡ pack (word ∷ names) → takes_calls c ≡ true → RefusesSend c packed e → RefusesCall c e
refuses_call c word names packed (error.Refused x) is speaks why = absurd (let none : [] ≡ pack (word ∷ names) = sym why.1 ∙ is in cc)
refuses_call c word names packed error.Spent is speaks (inl failed) = inl failed
refuses_call c word names packed error.Spent is speaks (inr spent) = inr (speaks, spent)
refuses_call c word names packed error.NoMemory is speaks why = inr speaks
