-- One turn, put together of its steps.
use Rattle.std.proofs.Common.{◌≡◌, Option, Result, Ok, Err, MatchResult, inr, subst}
use Rattle.std.specs.Borrow.{MutBor}
use Rattle.std.specs.Fn.{Mut, CalledWithState}
use Rattle.resp_write.specs.Command.{Command, CommandList}
use Rattle.transactions.specs.declared.call_error.CallError.{CallError}
use Rattle.transactions.specs.Calls.{Told}
use Rattle.transactions.specs.Turns.{fresh, Watches, Unwatches, Turn, TurnFails}

module _ {C F T : Type 0} (told : C → Told) (closure : Mut F (MutBor C × (CommandList × Unit {0})) ((Result (Option T) CallError) × (MutBor C × Unit {0}))) (watch : Command) where
  -- a whole turn by its answer
  by_answer : (r : Result (Option T) CallError) (c : C) (f : F) (d : C) (g : F) → Turn told closure watch c f r d g → MatchResult r (λ answer. Turn told closure watch c f (Ok answer) d g) (λ e. TurnFails told closure watch c f e d g)
  by_answer (Ok answer) c f d g turn = turn
  by_answer (Err e) c f d g turn = inr turn

  -- the three steps of a turn, with a pipeline that is a fresh one
  pub a_turn : (c w x d : C) (f g : F) (p : CommandList) (r : Result (Option T) CallError) → Watches told watch c w → CalledWithState closure f w p r g x → p ≡ fresh → Unwatches told x d → MatchResult r (λ answer. Turn told closure watch c f (Ok answer) d g) (λ e. TurnFails told closure watch c f e d g)
  a_turn c w x d f g p r watched called is unwatched =
      by_answer r c f d g (record { after_watch = w; watched = watched; after_closure = x; called = subst (λ q. CalledWithState closure f w q r g x) is called; unwatched = unwatched })
