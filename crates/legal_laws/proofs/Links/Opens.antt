-- Until the first event nothing is handed in, and nothing happens to a link.
use Rattle.std.proofs.Common.{◌≡◌, ◌≢◌, ℕ, ◌<◌, ◌≤◌, ◌==◌, nat_lt, Bool, true, false, ◌&&◌, not, [], Option, None, is_some, is_none, if◌then◌else◌, refl, sym, ◌∙◌, ap, arith}
use Rattle.containers.proofs.Choices.{chosen, left_if, eq_from, ne_from}
use Rattle.driver_model.specs.declared.action.Action.{Action}
use Rattle.driver_model.specs.declared.action.Action.TheVariants as action
use Rattle.driver_model.specs.declared.action.Cause.TheVariants as cause
use Rattle.driver_model.specs.declared.action.Owner.TheVariants as owner
use Rattle.driver_model.specs.declared.config.Config.{Config}
use Rattle.driver_model.specs.News.{News, silence}
use Rattle.legal_trace.specs.Ledger.{Ledger, Ending, asks, begins, offers, is_over, ending, ending_alive, ending_asked, sources}
use Rattle.legal_trace.specs.Managers.{settings_in, is_last}
use Rattle.legal_trace.specs.Book.{Book, entered, has_generations, info_in, message_of, wanted_in, hearing_in}
use Rattle.legal_trace.specs.Legal.{MayStand, current_link, link_due}
use Rattle.legal_trace.specs.Again.{repeats_in}
use Rattle.legal_trace.proofs.Clocks.{timer_tells}
use Rattle.legal_trace.proofs.Ledgers.{mine_keeps}
use Rattle.legal_trace.proofs.Plain.{not_none}
use Rattle.legal_laws.proofs.Notices.Pushed.{push_keeps, tell_keeps}

-- before the first turn no link is asked for and no configuration is told; until the first event nothing is handed in or shut down;
-- by then a link was asked for, where the session doesn't come back,
-- and never another one
pub record Opens (turns links submissions : ℕ) (config : Option Config) (is_shut : Bool) : Type 0 where
  pub no_links : turns ≡ 0 → links ≡ 0
  pub no_config : turns ≡ 0 → config ≡ None
  pub none_yet : turns ≤ 1 → submissions ≡ 0
  pub not_shut : turns ≤ 1 → is_shut ≡ false
  pub asked : 1 < turns → is_some (settings_in config) ≡ false → links ≢ 0
  pub one_link : is_some (settings_in config) ≡ false → links ≤ 1

-- so it is in a book
abbrev pub IsOpening : Book → Type 0
IsOpening b = Opens b.turns b.links b.submissions b.config b.shut

-- where no link is to be asked for, one was, where the session doesn't come back
pub applied_has_link : (b : Book) → link_due b ≡ false → has_generations b ≡ false → b.links ≢ 0
applied_has_link b linked plain =
    ne_from b.links 0 (sym (left_if (has_generations b) (nat_lt 0 b.generation && (not (current_link b).asked && (is_none b.rest && not b.shut))) (b.links == 0) plain) ∙ linked)

-- where one is to be asked for there, there is none
pub due_has_no_link : (b : Book) → link_due b ≡ true → has_generations b ≡ false → b.links ≡ 0
due_has_no_link b due plain =
    eq_from b.links 0 (sym (left_if (has_generations b) (nat_lt 0 b.generation && (not (current_link b).asked && (is_none b.rest && not b.shut))) (b.links == 0) plain) ∙ due)

-- each action that may stand keeps it
pub opening_kept : (b : Book) (a : Action) → MayStand b a → IsOpening b → IsOpening (entered b a)
opening_kept b (action.Turn k (cause.Opening config word)) may h = record {
  no_links = λ e. absurd (omega arith);
  no_config = λ e. absurd (omega arith);
  none_yet = λ i. let start : b.turns ≡ 0 = may.is_for in h.none_yet (omega arith);
  not_shut = λ i. let start : b.turns ≡ 0 = may.is_for in h.not_shut (omega arith);
  asked = λ i. absurd (let start : b.turns ≡ 0 = may.is_for in omega (arith, start, i));
  one_link = λ plain. let none : b.links ≡ 0 = h.no_links may.is_for in omega (arith, none);
}
opening_kept b (action.Turn k (cause.Event event)) may h = record {
  no_links = λ e. absurd (omega arith);
  no_config = λ e. absurd (omega arith);
  none_yet = λ i. let later : b.turns ≢ 0 = may.is_for.0 in absurd (omega arith);
  not_shut = λ i. let later : b.turns ≢ 0 = may.is_for.0 in absurd (omega arith);
  asked = λ i plain. applied_has_link b may.is_for.1.written.moved.begun.applied.linked plain;
  one_link = h.one_link;
}
opening_kept b (action.Connect l host port) may h = record {
  no_links = λ e. absurd (not_none b.config may.config (h.no_config e) may.told);
  no_config = h.no_config;
  none_yet = h.none_yet;
  not_shut = h.not_shut;
  asked = λ i plain none. omega (arith, none);
  one_link = λ plain. let none : b.links ≡ 0 = due_has_no_link b may.due plain in omega (arith, none);
}
opening_kept b (action.Timer t ms what) may h = h
opening_kept b (action.Took owner.Setup l count) may h = absurd may
opening_kept b (action.Took owner.Auth l count) may h = absurd may
opening_kept b (action.Took owner.Resub l count) may h = absurd may
opening_kept b (action.Took owner.Monitor l count) may h = absurd may
opening_kept b (action.Took (owner.Try n round) l count) may h = h
opening_kept b (action.Push l info) may h = h
opening_kept b (action.Message msg) may h = h
opening_kept b (action.Monitor v) may h = h
opening_kept b (action.NeedCreds c l) may h = h
opening_kept b (action.Generation g) may h = h
opening_kept b (action.Round who l) may h = h
opening_kept b (action.Close l) may h = h
opening_kept b (action.Write l bytes) may h = h
opening_kept b (action.Wait owner.Setup kind) may h = absurd may
opening_kept b (action.Wait owner.Auth kind) may h = absurd may
opening_kept b (action.Wait owner.Resub kind) may h = absurd may
opening_kept b (action.Wait owner.Monitor kind) may h = absurd may
opening_kept b (action.Wait (owner.Try n round) kind) may h = h
opening_kept b (action.Start l k owner.Setup count len) may h = h
opening_kept b (action.Start l k owner.Auth count len) may h = h
opening_kept b (action.Start l k owner.Resub count len) may h = h
opening_kept b (action.Start l k owner.Monitor count len) may h = h
opening_kept b (action.Start l k (owner.Try n round) count len) may h = h
opening_kept b (action.Created e) may h = h
opening_kept b (action.Outcome n o) may h = h

-- nothing has happened to a link: it is not up, has not ended, was told nothing, and nothing that is to be told came
pub record IsStill (l : Ledger) : Type 0 where
  pub down : l.up ≡ false
  pub lives : l.end ≡ None
  pub untold : l.heard ≡ silence
  pub mute : l.notices ≡ []

-- until the first event comes, each link is so
abbrev pub StillAtFirst : ℕ → (ℕ → Ledger) → Type 0
StillAtFirst turns link = turns ≤ 1 → (l : ℕ) → IsStill (link l)

-- a link that is still doesn't end
pub still_stays : (l : Ledger) → IsStill l → ending l ≡ None
still_stays l h =
    left_if l.up (ending_alive l) (if l.asked && not (is_over l) then ending_asked l l.heard else None) h.down
    ∙ (ap (λ (x : News). if l.asked && not (is_over l) then ending_asked l x else None) h.untold
    ∙ chosen (λ (x : Option Ending). x ≡ None) (l.asked && not (is_over l)) None None (λ t. refl) (λ f. refl))

-- each action that may stand keeps it
pub still_kept : (b : Book) (a : Action) → MayStand b a → StillAtFirst b.turns b.link → StillAtFirst (entered b a).turns (entered b a).link
still_kept b (action.Turn k (cause.Opening config word)) may h = λ i. h (omega arith)
still_kept b (action.Turn k (cause.Event e)) may h = λ i. let later : b.turns ≢ 0 = may.is_for.0 in absurd (omega arith)
still_kept b (action.Connect m host port) may h = λ i l. mine_keeps IsStill (m == l) (b.link l) (asks (info_in b.config) (wanted_in b.config) (hearing_in b.config) (is_last (settings_in b.config) b.attempt) (repeats_in (settings_in b.config) b.tracked)) (λ t. record { down = (h i l).down; lives = (h i l).lives; untold = (h i l).untold; mute = (h i l).mute }) (h i l)
still_kept b (action.Timer t ms what) may h = λ i l. timer_tells IsStill (b.link l) l what (λ on k is t. record { down = (h i l).down; lives = (h i l).lives; untold = (h i l).untold; mute = (h i l).mute }) (λ on is t. record { down = (h i l).down; lives = (h i l).lives; untold = (h i l).untold; mute = (h i l).mute }) (h i l)
still_kept b (action.Took owner.Setup l count) may h = absurd may
still_kept b (action.Took owner.Auth l count) may h = absurd may
still_kept b (action.Took owner.Resub l count) may h = absurd may
still_kept b (action.Took owner.Monitor l count) may h = absurd may
still_kept b (action.Took (owner.Try n round) l count) may h = h
still_kept b (action.Push m info) may h = λ i l. push_keeps IsStill (m == l) info.kind (b.link l) (record { down = (h i l).down; lives = (h i l).lives; untold = (h i l).untold; mute = (h i l).mute }) (record { down = (h i l).down; lives = (h i l).lives; untold = (h i l).untold; mute = (h i l).mute }) (h i l)
still_kept b (action.Message msg) may h = λ i l. tell_keeps IsStill (b.current == l) (b.link l) (record { down = (h i l).down; lives = (h i l).lives; untold = (h i l).untold; mute = (h i l).mute }) (h i l)
still_kept b (action.Monitor v) may h = λ i l. tell_keeps IsStill (b.current == l) (b.link l) (record { down = (h i l).down; lives = (h i l).lives; untold = (h i l).untold; mute = (h i l).mute }) (h i l)
still_kept b (action.NeedCreds c m) may h = λ i l. mine_keeps IsStill (m == l) (b.link l) sources (λ t. record { down = (h i l).down; lives = (h i l).lives; untold = (h i l).untold; mute = (h i l).mute }) (h i l)
still_kept b (action.Generation g) may h = h
still_kept b (action.Round who m) may h = h
still_kept b (action.Close m) may h = λ i. absurd (not_none (ending (b.link m)) may.why (still_stays (b.link m) (h i m)) may.ends)
still_kept b (action.Write m bytes) may h = λ i l. mine_keeps IsStill (m == l) (b.link l) (offers bytes) (λ t. record { down = (h i l).down; lives = (h i l).lives; untold = (h i l).untold; mute = (h i l).mute }) (h i l)
still_kept b (action.Wait owner.Setup kind) may h = absurd may
still_kept b (action.Wait owner.Auth kind) may h = absurd may
still_kept b (action.Wait owner.Resub kind) may h = absurd may
still_kept b (action.Wait owner.Monitor kind) may h = absurd may
still_kept b (action.Wait (owner.Try n round) kind) may h = h
still_kept b (action.Start m k owner.Setup count len) may h = λ i l. mine_keeps IsStill (m == l) (b.link l) (begins (message_of b m owner.Setup)) (λ t. record { down = (h i l).down; lives = (h i l).lives; untold = (h i l).untold; mute = (h i l).mute }) (h i l)
still_kept b (action.Start m k owner.Auth count len) may h = λ i l. mine_keeps IsStill (m == l) (b.link l) (begins (message_of b m owner.Auth)) (λ t. record { down = (h i l).down; lives = (h i l).lives; untold = (h i l).untold; mute = (h i l).mute }) (h i l)
still_kept b (action.Start m k owner.Resub count len) may h = λ i l. mine_keeps IsStill (m == l) (b.link l) (begins (message_of b m owner.Resub)) (λ t. record { down = (h i l).down; lives = (h i l).lives; untold = (h i l).untold; mute = (h i l).mute }) (h i l)
still_kept b (action.Start m k owner.Monitor count len) may h = λ i l. mine_keeps IsStill (m == l) (b.link l) (begins (message_of b m owner.Monitor)) (λ t. record { down = (h i l).down; lives = (h i l).lives; untold = (h i l).untold; mute = (h i l).mute }) (h i l)
still_kept b (action.Start m k (owner.Try n round) count len) may h = λ i l. mine_keeps IsStill (m == l) (b.link l) (begins (message_of b m (owner.Try n round))) (λ t. record { down = (h i l).down; lives = (h i l).lives; untold = (h i l).untold; mute = (h i l).mute }) (h i l)
still_kept b (action.Created e) may h = h
still_kept b (action.Outcome n o) may h = h
