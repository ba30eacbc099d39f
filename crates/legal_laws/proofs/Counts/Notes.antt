-- What actions make of a link's ledger: a fact that each of these steps keeps stays so.
use Rattle.std.proofs.Common.{◌≡◌, ℕ, ◌-◌, ◌==◌, List, refl, sym, ◌∙◌, ap, subst}
use Rattle.containers.proofs.Choices.{eq_from}
use Rattle.driver_model.specs.declared.action.Action.{Action}
use Rattle.driver_model.specs.declared.action.Action.TheVariants as action
use Rattle.driver_model.specs.declared.action.Cause.TheVariants as cause
use Rattle.driver_model.specs.declared.action.Owner.{Owner}
use Rattle.driver_model.specs.declared.action.Purpose.{Purpose}
use Rattle.driver_model.specs.declared.action.Purpose.TheVariants as purpose
use Rattle.driver_model.specs.declared.event.Event.{Event}
use Rattle.driver_model.specs.News.{news_of}
use Rattle.legal_trace.specs.Ledger.{Ledger, Line, asks, hears, begins, offers, tells, sources, times, repeats_timed, ends, parts, noted}
use Rattle.legal_trace.specs.Managers.{settings_in, is_last}
use Rattle.legal_trace.specs.Again.{repeats_in}
use Rattle.legal_trace.specs.Book.{Book, entered, info_in, wanted_in, hearing_in, message_of}
use Rattle.legal_trace.proofs.Clocks.{timer_tells}
use Rattle.legal_trace.proofs.Ledgers.{mine_keeps}
use Rattle.legal_laws.proofs.Notices.Pushed.{push_keeps, tell_keeps}

-- what a connect asks
abbrev pub asked_line : Book → Line
asked_line b = asks (info_in b.config) (wanted_in b.config) (hearing_in b.config) (is_last (settings_in b.config) b.attempt) (repeats_in (settings_in b.config) b.tracked)

-- the steps by this action
pub record NotedBy (P : Ledger → Type 0) (b : Book) (a : Action) (n : ℕ) : Type 0 where
  pub asked : (host : List ℕ) (port : ℕ) → a ≡ action.Connect n host port → P (noted (b.link n) (asked_line b))
  pub heard : (k : ℕ) (e : Event) → a ≡ action.Turn k (cause.Event e) → P (noted (b.link n) (hears k (news_of b.timers b.sources n e.kind)))
  pub timed : (t ms k : ℕ) → a ≡ action.Timer t ms (purpose.Renewal n k) → P (noted (b.link n) times)
  pub repeated : (t ms : ℕ) → a ≡ action.Timer t ms (purpose.Resubscription n) → P (noted (b.link n) repeats_timed)
  pub sourced : (c : ℕ) → a ≡ action.NeedCreds c n → P (noted (b.link n) sources)
  pub begun : (k : ℕ) (who : Owner) (count len : ℕ) → a ≡ action.Start n k who count len → P (noted (b.link n) (begins (message_of b n who)))
  pub told : P (noted (b.link n) tells)
  pub parted : P (noted (b.link n) parts)
  pub offered : (bytes : List ℕ) → P (noted (b.link n) (offers bytes))
  pub ended : a ≡ action.Close n → P (noted (b.link n) (ends (b.turns - 1)))

-- a message on a link is that of the link with this number
begun_same : (P : Ledger → Type 0) (b : Book) (m n k : ℕ) (who : Owner) (count len : ℕ) → m ≡ n → NotedBy P b (action.Start m k who count len) n → P (noted (b.link n) (begins (message_of b m who)))
begun_same P b m n k who count len same kept = subst (λ j. P (noted (b.link n) (begins (message_of b j who)))) (sym same) (kept.begun k who count len (ap (λ j. action.Start j k who count len) same))

-- so it stays with each action whose steps keep it
pub action_notes : (P : Ledger → Type 0) (b : Book) (a : Action) (n : ℕ) → NotedBy P b a n → P (b.link n) → P ((entered b a).link n)
action_notes P b (action.Turn k (cause.Opening config word)) n kept h = h
action_notes P b (action.Turn k (cause.Event e)) n kept h = kept.heard k e refl
action_notes P b (action.Connect m host port) n kept h = mine_keeps P (m == n) (b.link n) (asked_line b) (λ t. kept.asked host port (ap (λ j. action.Connect j host port) (eq_from m n t))) h
action_notes P b (action.Timer t ms what) n kept h = timer_tells P (b.link n) n what
    (λ m k is e. kept.timed t ms k (ap (λ (w : Purpose). action.Timer t ms w) is ∙ ap (λ j. action.Timer t ms (purpose.Renewal j k)) (eq_from m n e)))
    (λ m is e. kept.repeated t ms (ap (λ (w : Purpose). action.Timer t ms w) is ∙ ap (λ j. action.Timer t ms (purpose.Resubscription j)) (eq_from m n e))) h
action_notes P b (action.Took who m count) n kept h = h
action_notes P b (action.Push m info) n kept h = push_keeps P (m == n) info.kind (b.link n) kept.told kept.parted h
action_notes P b (action.Message msg) n kept h = tell_keeps P (b.current == n) (b.link n) kept.told h
action_notes P b (action.Monitor v) n kept h = tell_keeps P (b.current == n) (b.link n) kept.told h
action_notes P b (action.NeedCreds c m) n kept h = mine_keeps P (m == n) (b.link n) sources (λ t. kept.sourced c (ap (λ j. action.NeedCreds c j) (eq_from m n t))) h
action_notes P b (action.Generation g) n kept h = h
action_notes P b (action.Round who m) n kept h = h
action_notes P b (action.Close m) n kept h = mine_keeps P (m == n) (b.link n) (ends (b.turns - 1)) (λ t. kept.ended (ap (λ j. action.Close j) (eq_from m n t))) h
action_notes P b (action.Write m bytes) n kept h = mine_keeps P (m == n) (b.link n) (offers bytes) (λ t. kept.offered bytes) h
action_notes P b (action.Wait who kind) n kept h = h
action_notes P b (action.Start m k who count len) n kept h = mine_keeps P (m == n) (b.link n) (begins (message_of b m who)) (λ t. begun_same P b m n k who count len (eq_from m n t) kept) h
action_notes P b (action.Created e) n kept h = h
action_notes P b (action.Outcome m o) n kept h = h
