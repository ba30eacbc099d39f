-- Where requests start that are ahead of new credentials, their link stays fit.
use Rattle.std.proofs.Common.{Bool, List, Option, [], ap, false, inl, inr, refl, sym, true, ℕ, ◌∙◌, ◌∷◌, ◌≡◌, ◌⊎◌}
use Rattle.std.specs.Prelude.{not, ◌||◌}
use Rattle.containers.proofs.Choices.{by_test, chosen}
use Rattle.link_core.specs.Link.{Starting, holds_back, is_first_up_to, is_up_to, started_one, started_to_each}
use Rattle.link_core.specs.declared.message.Queued.{Queued}
use Rattle.conn_laws.proofs.Requests.Start.{with_queue}
use Rattle.conn_laws.proofs.Requests.Starts.{fit_next}
use Rattle.conn_laws.proofs.Ties.States.{IsFit}

-- the link is fit behind them
pub to_fit : (size bound : ℕ) (last : Option ℕ) (s : Starting) (qs : List Queued) → IsFit size bound (with_queue s.link qs) → IsFit size bound (started_to_each last s qs).link
to_fit size bound last s [] h = record { sound = h.sound; size_is = h.size_is; bound_is = h.bound_is; within = h.within }
to_fit size bound last s (q ∷ qs) h =
    chosen (λ (x : Starting). IsFit size bound x.link) (holds_back s.link || not (is_up_to last q.id)) _ (started_to_each last (started_one s q) qs)
    (λ stops. record { sound = h.sound; size_is = h.size_is; bound_is = h.bound_is; within = h.within })
    (λ goes. to_fit size bound last (started_one s q) qs (fit_next size bound s q qs h))

-- and nothing of its queue is up to that one, or it is held back
pub to_stopped : (last : Option ℕ) (s : Starting) (qs : List Queued) → (holds_back (started_to_each last s qs).link ≡ true) ⊎ (is_first_up_to last (started_to_each last s qs).link.queue ≡ false)
to_stopped last s [] = inr refl
to_stopped last s (q ∷ qs) =
    chosen (λ (x : Starting). (holds_back x.link ≡ true) ⊎ (is_first_up_to last x.link.queue ≡ false)) (holds_back s.link || not (is_up_to last q.id)) _ (started_to_each last (started_one s q) qs)
    (λ stops. by_test (holds_back s.link) ((holds_back s.link ≡ true) ⊎ (is_up_to last q.id ≡ false)) (λ t. inl t) (λ f. inr (not_true (is_up_to last q.id) (sym (ap (λ x. x || not (is_up_to last q.id)) f) ∙ stops))))
    (λ goes. to_stopped last (started_one s q) qs)
  where
    not_true : (x : Bool) → not x ≡ true → x ≡ false
    not_true true e = cc
    not_true false e = refl
