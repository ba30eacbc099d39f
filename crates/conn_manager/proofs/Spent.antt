-- Which part of a turn gives out the number 2^32 - 1.
use Rattle.std.proofs.Common.{◌≡◌, ◌⊎◌, inl, inr, ℕ, true, Result, OnOk, subst, ap, ◌∙◌}
use Rattle.conn_manager.specs.declared.manager.ConnectionManager.{ConnectionManager}
use Rattle.mux_client.specs.Events.{Happening}
use Rattle.manager_generations.specs.Generations.{runs_out}
use Rattle.conn_manager.specs.Manager.{nobody_held, loss_answered}
use Rattle.conn_manager.specs.Spending.{IsSpent, SpendsPass, SpendsRounds, Spends, before, in_effect, in_next, in_pass, in_rounds, behind}
use Rattle.conn_manager.specs.Turn.{applied, succeeded, settled, connection_passed, passed, flushed, turned}

pub spends_effect : (m : ConnectionManager) (draw : ℕ) (what : Happening) → IsSpent m ⊎ (runs_out (applied m draw what).generations ≡ true) → Spends m draw what
spends_effect m draw what (inl h) = before h
spends_effect m draw what (inr h) = in_effect h

pub spends_next : (m a : ConnectionManager) (draw : ℕ) (what : Happening) → a ≡ applied m draw what → runs_out (succeeded (loss_answered a)).generations ≡ true → Spends m draw what
spends_next m a draw what is h = in_next (subst (λ (n : ConnectionManager). runs_out (succeeded (loss_answered n)).generations ≡ true) is h)

-- the manager before its pass
abbrev pub SpendsIn : ConnectionManager → ℕ → Type 0
SpendsIn s draw = SpendsPass s ⊎ SpendsRounds (nobody_held (connection_passed s draw)) draw (connection_passed s draw).held

spends_in : (m : ConnectionManager) (draw : ℕ) (what : Happening) → SpendsIn (settled (applied m draw what)) draw → Spends m draw what
spends_in m draw what (inl h) = in_pass h
spends_in m draw what (inr h) = in_rounds h

pub spends_pass : (m a s : ConnectionManager) (draw : ℕ) (what : Happening) → a ≡ applied m draw what → s ≡ settled a → SpendsPass s ⊎ SpendsRounds (nobody_held (connection_passed s draw)) draw (connection_passed s draw).held → Spends m draw what
spends_pass m a s draw what first second h = spends_in m draw what (subst (λ (n : ConnectionManager). SpendsIn n draw) (second ∙ ap settled first) h)

pub spends_behind : (m a s p : ConnectionManager) (draw : ℕ) (what : Happening) → a ≡ applied m draw what → s ≡ settled a → p ≡ passed s draw → IsSpent p → Spends m draw what
spends_behind m a s p draw what first second third h = behind (subst IsSpent (third ∙ ap (λ (n : ConnectionManager). passed n draw) (second ∙ ap settled first)) h)

-- the parts of a turn, one after the other, are the turn
pub turned_by : {T E : Type 0} (m a s p n : ConnectionManager) (draw : ℕ) (what : Happening) (r : Result T E) → a ≡ applied m draw what → s ≡ settled a → p ≡ passed s draw → OnOk r (n ≡ flushed p draw) → OnOk r (n ≡ turned m draw what)
turned_by m a s p n draw what r first second third h =
    subst (λ (x : ConnectionManager). OnOk r (n ≡ flushed x draw)) (third ∙ ap (λ (x : ConnectionManager). passed x draw) (second ∙ ap settled first)) h
