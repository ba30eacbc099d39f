-- Where a connection has no link, its ledger is not up, and need not end.
use Rattle.std.proofs.Common.{◌≡◌, ℕ, true, false, not, ◌&&◌, Option, Some, None, sym, ap, ◌∙◌}
use Rattle.containers.proofs.Choices.{by_test}
use Rattle.mux_conn.specs.Connection.{is_resting}
use Rattle.mux_conn.specs.declared.life.Life.{Life}
use Rattle.mux_conn.specs.declared.life.Life.TheVariants.{Resting, Dialing, Wanting, SettingUp, Ready, Ended}
use Rattle.legal_trace.specs.Ledger.{Ending, Ledger, ending, is_over}
use Rattle.conn_laws.proofs.Ties.Aside.{not_up_ends}
use Rattle.conn_laws.proofs.Ties.Tied.{TiedLife}

-- of what does
--
-- where there is none, none must end
pub resting_ends : (l : Ledger) (created : ℕ) (life : Life) → is_resting life ≡ true → TiedLife l created life → ending l ≡ None
resting_ends l created Resting rests h = not_up_ends l h.1 (ap (λ a. a && not (is_over l)) h.0)
resting_ends l created Dialing rests h = cc
resting_ends l created (Wanting link) rests h = cc
resting_ends l created (SettingUp link greeting) rests h = cc
resting_ends l created (Ready link) rests h = cc
resting_ends l created (Ended e) rests h = cc

-- nor is it up, or waited for
pub resting_down : (l : Ledger) (created : ℕ) (life : Life) → is_resting life ≡ true → TiedLife l created life → (l.up ≡ false) × ((l.asked && not (is_over l)) ≡ false)
resting_down l created Resting rests h = (h.1, ap (λ a. a && not (is_over l)) h.0)
resting_down l created Dialing rests h = cc
resting_down l created (Wanting link) rests h = cc
resting_down l created (SettingUp link greeting) rests h = cc
resting_down l created (Ready link) rests h = cc
resting_down l created (Ended e) rests h = cc

-- so what must end is there
pub ends_there : (l : Ledger) (created : ℕ) (life : Life) (why : Ending) → ending l ≡ Some why → TiedLife l created life → is_resting life ≡ false
ends_there l created life why must h = by_test (is_resting life) _ (λ rests. absurd (let no : ◌≡◌ {A = Option Ending} None (Some why) = sym (resting_ends l created life rests h) ∙ must in cc)) (λ there. there)
