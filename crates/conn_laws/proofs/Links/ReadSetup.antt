-- Bytes come on a link that is set up: its greeting may be answered then.
use Rattle.std.proofs.Common.{◌≡◌, ◌⊎◌, inl, inr, ℕ, ◌==◌, true, false, List, [], ◌∷◌, Some, refl, sym, ap, ◌∙◌, subst}
use Rattle.std.specs.List.{AllByRecursion}
use Rattle.containers.proofs.Choices.{by_test, left_if}
use Rattle.redis_error.specs.declared.redis_error.RedisError.{RedisError}
use Rattle.connection_setup.specs.declared.judgement.SetupResult.{SetupResult}
use Rattle.connection_setup.specs.declared.judgement.SetupResult.TheVariants as result
use Rattle.driver_model.specs.declared.action.Owner.TheVariants as owner
use Rattle.link_core.specs.declared.message.NoticeAt.{NoticeAt}
use Rattle.link_core.specs.Link.{LinkState}
use Rattle.link_laws.specs.Greetings.{IsBehind}
use Rattle.mux_conn.specs.declared.connection.MultiplexedConnection.{MultiplexedConnection}
use Rattle.mux_conn.specs.declared.life.Greeting.{Greeting}
use Rattle.mux_conn.specs.declared.life.Greeting.TheVariants as greet
use Rattle.mux_conn.specs.declared.life.Life.TheVariants.{Wanting, SettingUp, Ended, Ready, Resting}
use Rattle.mux_conn.specs.Connection.{Work, is_ready}
use Rattle.mux_conn.specs.Effects.{behind_first, failed_at, greeted, greeted_by, opening_failed, afresh, given_up}
use Rattle.legal_trace.specs.Ledger.{Ledger, is_well}
use Rattle.conn_laws.proofs.Links.Failing.{given_up_ended}
use Rattle.conn_laws.proofs.Ties.States.{IsFit, IsFitIn}
use Rattle.conn_laws.proofs.Links.Server.{IsGreeting, IsSettingUp, IsWatching}
use Rattle.conn_laws.proofs.Ties.Tied.{greeter}
use Rattle.driver_model.specs.declared.news.LinkFault.{LinkFault}
use Rattle.conn_laws.proofs.Internal.Repeats.{serves}

-- notices that all stand behind some message
pub behind_all : (ps : List NoticeAt) → AllByRecursion IsBehind ps → behind_first ps ≡ ps
behind_all [] all = refl
behind_all (p ∷ ps) all = left_if (p.settled == 0) (behind_first ps) (p ∷ ps) all.0

-- a connection whose link is up is fit where the link is
pub fit_by : (c : MultiplexedConnection) (size bound : ℕ) (link : LinkState) → c.size ≡ size → c.boundary ≡ bound → c.life ≡ Ready link → (serves c.life c.again ≡ false → c.admitted ≡ []) → ((x : LinkState) → Ready link ≡ Ready x → IsFit size bound x) → IsFitIn c
fit_by c size bound link size_is bound_is life nobody h = record {
  wanting = λ x same. (let no : Ready link ≡ Wanting x = sym life ∙ same in cc);
  setup = λ x u same. (let no : Ready link ≡ SettingUp x u = sym life ∙ same in cc);
  link = λ x same. subst (λ n. IsFit n c.boundary x) (sym size_is) (subst (λ n. IsFit size n x) (sym bound_is) (h x (sym life ∙ same)));
  none = nobody;
}

-- where an opening failed, the link isn't up, and no fault changes what is so
failed_life : (w : Work) (x : RedisError) → (opening_failed w x).conn.life ≡ Ended x ⊎ (opening_failed w x).conn.life ≡ Resting
failed_life w x = by_test w.conn.last _ (λ t. inl (given_up_ended w x t)) (λ f. inr (ap (λ (y : Work). y.conn.life) (left_if w.conn.last (given_up w x) (record w { conn = afresh w.conn }) f)))

pub failed_down : (w : Work) (x : RedisError) → is_ready (opening_failed w x).conn.life ≡ false
failed_down w x = elim (failed_life w x) [ inl over ↦ ap is_ready over | inr rests ↦ ap is_ready rests ]

pub failed_stays : (w : Work) (x : RedisError) (f : LinkFault) → (let v = opening_failed w x in failed_at v f v.conn.life ≡ v)
failed_stays w x f =
    let v = opening_failed w x in
    elim (failed_life w x) [ inl over ↦ ap (failed_at v f) over | inr rests ↦ ap (failed_at v f) rests ]

-- which greeting it is
--
-- a setup, or MONITOR
abbrev pub IsWhich : Ledger → LinkState → Greeting → Type 0
IsWhich l link greeting = ((greeter greeting ≡ owner.Setup) × IsSettingUp l link greeting) ⊎ ((greeting ≡ greet.Monitor) × IsWatching l link)

pub which_is : (l : Ledger) (link : LinkState) (greeting : Greeting) → IsGreeting l link greeting → IsWhich l link greeting
which_is l link greet.WithUser h = inl (refl, h)
which_is l link greet.WithoutUser h = inl (refl, h)
which_is l link greet.Monitor h = inr (refl, h)

-- a setup that is answered well
pub setup_greets : (w : Work) (link : LinkState) (greeting : Greeting) → greeter greeting ≡ owner.Setup → greeted_by w link greeting ≡ greeted w link
setup_greets w link greet.WithUser own = refl
setup_greets w link greet.WithoutUser own = refl
setup_greets w link greet.Monitor own = cc

-- what is well is
pub well_ready : (r : SetupResult) → is_well (Some r) ≡ true → r ≡ result.Ready
well_ready result.Ready e = refl
well_ready result.RepeatWithoutUser e = cc
well_ready (result.Failed x) e = cc
well_ready result.NoMemory e = cc
