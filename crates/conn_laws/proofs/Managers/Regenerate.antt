-- News by which a link goes on, and a link that is asked for.
use Rattle.std.proofs.Common.{◌≡◌, ◌⊎◌, inl, inr, Bool, true, false, ◌&&◌, not, Option, Some, None, if◌then◌else◌, refl, ap, ◌∙◌}
use Rattle.containers.proofs.Choices.{chosen, left_if}
use Rattle.connection_info.specs.declared.address.RedisConnectionInfo.{RedisConnectionInfo}
use Rattle.redis_error.specs.declared.redis_error.RedisError.TheVariants as error
use Rattle.driver_model.specs.News.{News, silence, dropped}
use Rattle.driver_model.specs.Hearing.{hears_messages}
use Rattle.driver_model.specs.declared.hearing.Hearing.{Hearing}
use Rattle.legal_trace.specs.Ledger.{Ending, Ledger, asks, by_opening, ending, ending_alive, ending_asked, is_over, noted}

-- a link
--
-- a link that goes on hears nothing, or that the stream of messages is dropped
abbrev pub IsHarmless : News → Type 0
IsHarmless n = (n ≡ silence) ⊎ (n ≡ dropped)

-- so a link that is asked for doesn't end by it
pub asked_ends_not : (l : Ledger) (info : RedisConnectionInfo) (wanted : Bool) (hears : Hearing) (last again : Bool) → l.up ≡ false → hears_messages hears ≡ false → IsHarmless l.heard → ending (noted l (asks info wanted hears last again)) ≡ None
asked_ends_not l info wanted hears last again down deaf harmless =
    let x = noted l (asks info wanted hears last again) in
    let none : ending_asked x l.heard ≡ None = elim harmless [
      | inl e ↦ ap (ending_asked x) e
      | inr e ↦ ap (ending_asked x) e ∙ left_if (hears_messages hears) (Some (by_opening error.Closed)) None deaf
    ] in
    left_if l.up (ending_alive x) (if true && not (is_over x) then ending_asked x l.heard else None) down
    ∙ chosen (λ (y : Option Ending). y ≡ None) (true && not (is_over x)) (ending_asked x l.heard) None (λ t. none) (λ f. refl)
