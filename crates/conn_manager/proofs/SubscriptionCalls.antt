-- Why a subscription call wasn't sent.
use Rattle.std.proofs.Common.{◌≡◌, ℕ, true, List, [], ◌∷◌, Some, Result, OnOk, inr, subst, sym, ◌∙◌}
use Rattle.resp_write.specs.Pack.{pack}
use Rattle.resp_write.specs.Subscription.{action_word}
use Rattle.resp_write.specs.declared.subscription.SubscriptionAction.{SubscriptionAction}
use Rattle.connection_info.specs.Protocol.{is_resp3}
use Rattle.driver_model.specs.declared.outcome.Shape.TheVariants.{Confirmation}
use Rattle.mux_client.specs.declared.errors.SendError.{SendError}
use Rattle.mux_client.specs.declared.errors.SendError.TheVariants as error
use Rattle.conn_manager.specs.declared.manager.ConnectionManager.{ConnectionManager}
use Rattle.conn_manager.specs.Calls.{sent, called, RefusesSend, RefusesCall}

-- a command with a name has bytes, so that it isn't refused as an empty one
pub refuses_call : (m : ConnectionManager) (what : SubscriptionAction) (names : List (List ℕ)) (packed : List ℕ) (e : SendError) → packed ≡ pack (action_word what ∷ names) → is_resp3 m.info.protocol ≡ true → RefusesSend m (called m what names) packed e → RefusesCall m what names e
refuses_call m what names packed (error.Refused x) is speaks why = absurd (let none : [] ≡ pack (action_word what ∷ names) = sym why.1 ∙ is in cc)
refuses_call m what names packed error.Spent is speaks why = inr (speaks, why)
refuses_call m what names packed error.NoMemory is speaks why = inr speaks

-- what is sent for a call is the call
pub called_by : {T E : Type 0} (m n : ConnectionManager) (what : SubscriptionAction) (names kept : List (List ℕ)) (packed : List ℕ) (r : Result T E) → packed ≡ pack (action_word what ∷ names) → kept ≡ names → OnOk r (n ≡ sent m packed Confirmation true (Some (record { action = what; names = kept }))) → OnOk r (n ≡ called m what names)
called_by m n what names kept packed r is same h =
    subst (λ (p : List ℕ). OnOk r (n ≡ sent m p Confirmation true (Some (record { action = what; names = names })))) is
    (subst (λ (k : List (List ℕ)). OnOk r (n ≡ sent m packed Confirmation true (Some (record { action = what; names = k })))) same h)
