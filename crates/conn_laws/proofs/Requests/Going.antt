-- A connection while its requests are moved.
use Rattle.std.proofs.Common.{◌+◌, None, Option, Some, [], ap, arith, false, inl, inr, refl, sym, true, ℕ, ◌∙◌, ◌∷◌, ◌≡◌}
use Rattle.std.specs.Prelude.{if◌then◌else◌, is_some, Bool, not, ◌&&◌}
use Rattle.containers.proofs.Choices.{not_both}
use Rattle.credentials.specs.Credentials.{Credentials}
use Rattle.link_core.specs.Link.{LinkState, holds_back}
use Rattle.mux_conn.specs.Connection.{is_due as is_renewal_due, is_ready, is_resting}
use Rattle.mux_conn.specs.Effects.{setup_queued, setup_id}
use Rattle.mux_conn.specs.declared.renewal.Renewal.{Renewal}
use Rattle.mux_conn.specs.declared.life.Greeting.{Greeting}
use Rattle.mux_conn.specs.declared.life.Life.{Life}
use Rattle.mux_conn.specs.declared.life.Life.TheVariants.{Resting, Dialing, Ended, Ready, SettingUp, Wanting}
use Rattle.legal_trace.specs.Ledger.{Ledger, renewal_count, renewal_due, renewals_asked, setup_count, setup_due, setup_steps}
use Rattle.conn_laws.proofs.Links.SetUp.{none_due, sent_undue}
use Rattle.conn_laws.proofs.Links.Server.{IsGreeting}
use Rattle.conn_laws.proofs.Ties.Tied.{TiedLife, has_ended}
use Rattle.mux_conn.specs.declared.life.Greeting.TheVariants as greet
use Rattle.legal_trace.proofs.Setups.{greeted_is_undue}

-- where new credentials are to be told on a link that is set up, their timer was asked for, and the link is held back
abbrev pub HasRenewed : Renewal → Life → Type 0
HasRenewed r life = (link : LinkState) → life ≡ Ready link → is_renewal_due r ≡ true → (r.pending ≡ true) × (holds_back link ≡ true)

-- its link goes on
abbrev pub goes_on : Life → Bool
goes_on life = not (is_resting life) && not (has_ended life)

-- what is ready isn't being set up
pub ready_not_setting : (life : Life) (link : LinkState) (greeting : Greeting) → is_ready life ≡ true → life ≡ SettingUp link greeting → ⊥
ready_not_setting life link greeting r e = not_both (is_ready life) (ap is_ready e) r

-- new credentials
--
-- so as many were to be told as were
pub undue_asked : (l : Ledger) → renewal_due l ≡ None → renewals_asked l ≡ renewal_count l.starts
undue_asked l none =
    let same : renewal_count l.starts + 0 ≡ renewal_count l.starts = omega arith in
    ap (λ (x : Option Credentials). renewal_count l.starts + (if is_some x then 1 else 0)) none ∙ same

-- what is ready has a link
pub ready_there : (life : Life) → is_ready life ≡ true → is_resting life ≡ false
ready_there Resting r = cc
ready_there Dialing r = refl
ready_there (Wanting link) r = refl
ready_there (SettingUp link greeting) r = refl
ready_there (Ready link) r = refl
ready_there (Ended e) r = refl

-- every step that may be made was made
--
-- a link whose connect isn't answered isn't up
pub dialing_down : (l : Ledger) (created : ℕ) (life : Life) → life ≡ Dialing → TiedLife l created life → l.up ≡ false
dialing_down l created Resting e h = h.1
dialing_down l created Dialing e h = h.1
dialing_down l created (Wanting link) e h = cc
dialing_down l created (SettingUp link greeting) e h = cc
dialing_down l created (Ready link) e h = cc
dialing_down l created (Ended x) e h = cc

-- what gives no number is nothing
pub none_given : (o : Option ℕ) → ((k : ℕ) → o ≡ Some k → ⊥) → o ≡ None
none_given None never = refl
none_given (Some k) never = absurd (never k refl)

-- the setup of a link is to start no more, where nothing is in its queue
pub setup_gone : (l : Ledger) (link : LinkState) (greeting : Greeting) → IsGreeting l link greeting → link.queue ≡ [] → setup_due l ≡ None
setup_gone l link greet.WithUser said empty = elim said.stage [
  | inl due ↦ absurd (let no : [] ≡ setup_queued (setup_steps l (setup_count l.starts)) (setup_id greet.WithUser) ∷ [] = sym empty ∙ due.queue in cc)
  | inr sent ↦ none_due l (sent_undue l link greet.WithUser sent)
]
setup_gone l link greet.WithoutUser said empty = elim said.stage [
  | inl due ↦ absurd (let no : [] ≡ setup_queued (setup_steps l (setup_count l.starts)) (setup_id greet.WithoutUser) ∷ [] = sym empty ∙ due.queue in cc)
  | inr sent ↦ none_due l (sent_undue l link greet.WithoutUser sent)
]
setup_gone l link greet.Monitor said empty = none_given (setup_due l) (λ k due. greeted_is_undue l k said.greeted due)
