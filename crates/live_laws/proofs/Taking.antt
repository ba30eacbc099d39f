-- What a link has taken changes by no action but the turn of a write that took bytes.
use Rattle.std.proofs.Common.{◌≡◌, ℕ, ◌==◌, List, [], ◌∷◌, refl, ap, ◌∙◌}
use Rattle.driver_model.specs.Config.{address, connect_timeout, manager_of, is_lazy}
use Rattle.driver_model.specs.declared.action.Action.{Action}
use Rattle.driver_model.specs.declared.action.Action.TheVariants as action
use Rattle.driver_model.specs.declared.action.Cause.TheVariants as cause
use Rattle.driver_model.specs.declared.config.Config.{Config}
use Rattle.driver_model.specs.declared.event.Event.{Event}
use Rattle.driver_model.specs.declared.event.EventKind.{EventKind}
use Rattle.single_session.specs.declared.core_state.Core.{Core}
use Rattle.single_session.specs.Turn.{actions_of, effects_of, next_turn}
use Rattle.single_session.proofs.Effects.{EachIs, each_begun}
use Rattle.single_session.specs.Replay.{begun_as, connect_asked, opening_actions, opening_core, trace_of, turns_on}
use Rattle.legal_trace.specs.Ledger.{Ledger, tells}
use Rattle.legal_trace.specs.Book.{Book, push_line, blank_book, book, entered, entered_each}
use Rattle.legal_trace.proofs.Books.{entered_append}
use Rattle.legal_trace.proofs.Clocks.{timer_tells}
use Rattle.legal_trace.proofs.Ledgers.{mine_keeps}
use Rattle.driver_model.specs.News.{news_of}
use Rattle.live_run.proofs.Heard.{effects_begin_none, none_begins}
use Rattle.live_run.proofs.Hearing.{IsNoTurn, turn_of, push_noted}
use Rattle.live_laws.specs.Taken.{AreUnwritten, IsNoWrote}
use Rattle.live_laws.proofs.News.{Stays, event_not_took, hears_stays}

-- what link n has taken
abbrev pub taken_of : Book → ℕ → List ℕ
taken_of b n = (b.link n).taken

pub turn_stays : (b : Book) (number word n : ℕ) (kind : EventKind) → IsNoWrote kind → Stays (b.link n) ((entered b (turn_of number word kind)).link n)
turn_stays b number word n kind quiet = hears_stays (b.link n) number (news_of b.timers b.sources n kind) (event_not_took b.timers b.sources n kind quiet)

pub action_taken : (b : Book) (x : Action) (n : ℕ) → IsNoTurn x → taken_of (entered b x) n ≡ taken_of b n
action_taken b (action.Turn number c) n quiet = absurd quiet
action_taken b (action.Connect l host port) n quiet = mine_keeps (λ (g : Ledger). g.taken ≡ (b.link n).taken) (l == n) (b.link n) _ (λ t. refl) refl
action_taken b (action.Timer t ms what) n quiet = timer_tells (λ (g : Ledger). g.taken ≡ (b.link n).taken) (b.link n) n what (λ l k is own. refl) (λ l is own. refl) refl
action_taken b (action.Took who l count) n quiet = refl
action_taken b (action.Push l info) n quiet =
    mine_keeps (λ (g : Ledger). g.taken ≡ (b.link n).taken) (l == n) (b.link n) (push_line info.kind) (λ t. push_noted (λ (g : Ledger). g.taken ≡ (b.link n).taken) (b.link n) info.kind refl refl) refl
action_taken b (action.Message m) n quiet = mine_keeps (λ (g : Ledger). g.taken ≡ (b.link n).taken) (b.current == n) (b.link n) tells (λ t. refl) refl
action_taken b (action.Monitor v) n quiet = mine_keeps (λ (g : Ledger). g.taken ≡ (b.link n).taken) (b.current == n) (b.link n) tells (λ t. refl) refl
action_taken b (action.Close l) n quiet = mine_keeps (λ (g : Ledger). g.taken ≡ (b.link n).taken) (l == n) (b.link n) _ (λ t. refl) refl
action_taken b (action.Write l bytes) n quiet = mine_keeps (λ (g : Ledger). g.taken ≡ (b.link n).taken) (l == n) (b.link n) _ (λ t. refl) refl
action_taken b (action.Start l message who count len) n quiet = mine_keeps (λ (g : Ledger). g.taken ≡ (b.link n).taken) (l == n) (b.link n) _ (λ t. refl) refl
action_taken b (action.NeedCreds c l) n quiet = mine_keeps (λ (g : Ledger). g.taken ≡ (b.link n).taken) (l == n) (b.link n) _ (λ t. refl) refl
action_taken b (action.Generation g) n quiet = refl
action_taken b (action.Round who l) n quiet = refl
action_taken b (action.Wait who kind) n quiet = refl
action_taken b (action.Created e) n quiet = refl
action_taken b (action.Outcome m o) n quiet = refl

acts_taken : (xs : List Action) (b : Book) (n : ℕ) → EachIs IsNoTurn xs → taken_of (entered_each b xs) n ≡ taken_of b n
acts_taken [] b n none = refl
acts_taken (y ∷ xs) b n none = acts_taken xs (entered b y) n none.1 ∙ action_taken b y n none.0

-- a turn of another event
pub turn_taken : (c : Core) (e : Event) (b : Book) (n : ℕ) → IsNoWrote e.kind → taken_of (entered_each b (actions_of c e)) n ≡ taken_of b n
turn_taken c e b n quiet =
    acts_taken (effects_of c e) (entered b (action.Turn c.turns (cause.Event e))) n (none_begins c e)
    ∙ (hears_stays (b.link n) c.turns (news_of b.timers b.sources n e.kind) (event_not_took b.timers b.sources n e.kind quiet)).2

turns_taken : (c : Core) (es : List Event) (b : Book) (n : ℕ) → AreUnwritten es → taken_of (entered_each b (turns_on c es)) n ≡ taken_of b n
turns_taken c [] b n quiet = refl
turns_taken c (e ∷ es) b n quiet =
    ap (λ (d : Book). taken_of d n) (entered_append b (actions_of c e) (turns_on (next_turn c e.kind).core es))
    ∙ turns_taken (next_turn c e.kind).core es (entered_each b (actions_of c e)) n quiet.1
    ∙ turn_taken c e b n quiet.0

-- no link has taken anything where no event told of it
pub none_taken : (config : Config) (word : ℕ) (es : List Event) (n : ℕ) → AreUnwritten es → taken_of (book (trace_of config word es)) n ≡ []
unfolding trace_of book
none_taken config word es n quiet =
    ap (λ (d : Book). taken_of d n) (entered_append blank_book (opening_actions config word) (turns_on (opening_core config word) es))
    ∙ turns_taken (opening_core config word) es (entered_each blank_book (opening_actions config word)) n quiet
    ∙ acts_taken (begun_as (manager_of config) (is_lazy config) (connect_asked (address config) (connect_timeout config))) (entered blank_book (action.Turn 0 (cause.Opening config word))) n
    (each_begun IsNoTurn effects_begin_none (manager_of config) (is_lazy config) (address config) (connect_timeout config))
