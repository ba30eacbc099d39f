-- The opening of a session that comes back: its first generation begins at once, or it waits for its first submission.
use Rattle.std.proofs.Common.{◌≡◌, ◌≢◌, inl, inr, ℕ, Bool, true, false, ◌&&◌, ◌||◌, not, List, [], ◌∷◌, ◌++◌, Option, Some, None, is_some, refl, sym, ap, ◌∙◌, subst, arith}
use Rattle.std.proofs.Math.Bool.{and-false}
use Rattle.std.proofs.lemmas.List.{append-nil}
use Rattle.containers.proofs.Choices.{not_both, taken_if}
use Rattle.connection_info.specs.declared.address.ConnectionInfo.{ConnectionInfo}
use Rattle.manager_config.specs.declared.config.ConnectionManagerConfig.{ConnectionManagerConfig}
use Rattle.driver_model.specs.declared.action.Action.{Action}
use Rattle.driver_model.specs.declared.action.Action.TheVariants as action
use Rattle.driver_model.specs.declared.action.Cause.TheVariants as cause
use Rattle.driver_model.specs.declared.action.Purpose.{Purpose}
use Rattle.driver_model.specs.declared.config.Config.{Config}
use Rattle.driver_model.specs.declared.config.Config.TheVariants as variant
use Rattle.driver_model.specs.Config.{address, buffer_size, connect_timeout, manager_of, manager_settings, permits, is_lazy as waits_for_use}
use Rattle.driver_model.proofs.Sound.{has_address, is_roomy}
use Rattle.link_laws.proofs.TiedLink.{fresh_tied}
use Rattle.mux_conn.specs.declared.life.Life.TheVariants.{Resting}
use Rattle.single_session.specs.Generations.{connect_purposes, connect_timed, dialling, generations_at}
use Rattle.single_session.specs.Replay.{IsSound, as_managed, begun_as, connect_asked, connect_timers, first_dialled, first_link, opening_actions, opening_core, single_core, timer_asked}
use Rattle.single_session.specs.declared.core_state.Core.{Core}
use Rattle.legal_trace.specs.Book.{Book, blank_book, book, entered, has_generations}
use Rattle.legal_trace.specs.Ledger.{blank_ledger}
use Rattle.legal_trace.specs.Legal.{AllStand, IsSettled, NoneEnds}
use Rattle.legal_trace.specs.Managers.{is_lazy}
use Rattle.session_laws.proofs.Managers.Comes.{NoneComes}
use Rattle.session_laws.proofs.Requests.Going.{is_moved}
use Rattle.conn_laws.proofs.Turn.Opening.{opening_lines, opening_names, opening_waits}
use Rattle.session_laws.proofs.Turn.Opening.{IsSized, opening_between, opening_permits, opening_tries, room_sized, turn_shown, unwanted_where_watched}
use Rattle.conn_laws.proofs.Managers.Regenerate.{IsHarmless}
use Rattle.session_laws.proofs.Managers.Regenerate.{IsResting}
use Rattle.session_laws.proofs.Managers.Return.{dials_returned}
use Rattle.session_laws.proofs.Requests.Settled.{IsBetween, is_settled}
use Rattle.conn_laws.proofs.Ties.States.{IsFitIn, IsStill}
use Rattle.conn_laws.proofs.Ties.Tied.{TiedCreation, owner_of, shown_creation}
use Rattle.session_laws.proofs.Ties.Tied.{Tied, TiedNumbers, inner, HasHeeded}
use Rattle.session_laws.proofs.Requests.Waits.{IsQuiet}
use Rattle.session_laws.proofs.Managers.Whole.{flushed_between}
use Rattle.session_laws.proofs.Links.Write.{is_written}
use Rattle.mux_conn.specs.declared.again.Again.TheVariants as again
use Rattle.session_laws.proofs.Internal.Informed.{HasInformed}
use Rattle.single_session.specs.Subscriptions.{no_subscriptions}
use Rattle.session_laws.proofs.Internal.Subscribes.{nothing_first}
use Rattle.mux_conn.specs.declared.again.Again.{Again}
use Rattle.conn_laws.proofs.Managers.Begins.{idle_conn, set_so, waits_so}

-- what a configuration says
--
-- how long a connect may take, it says of its connection
bounded_so : (config : Config) (settings : ConnectionManagerConfig) → manager_of config ≡ Some settings → connect_timeout config ≡ settings.connection.connection_timeout
bounded_so (variant.Single address connection) settings e = cc e
bounded_so (variant.Manager lazy address connection manager) settings e = ap (λ (s : ConnectionManagerConfig). s.connection.connection_timeout) (same_settings (manager_settings connection manager) settings e)
  where
    same_settings : (s u : ConnectionManagerConfig) → ◌≡◌ {A = Option ConnectionManagerConfig} (Some s) (Some u) → s ≡ u
    same_settings s u same = cc
bounded_so (variant.PubSub address) settings e = cc e
bounded_so (variant.Monitor address) settings e = cc e

-- before its first link is asked for
--
-- the session, of which so many generations began
abbrev idle : Config → ConnectionManagerConfig → ConnectionInfo → ℕ → Bool → Core
idle config settings info number told = record (single_core config) {
  manager = Some (generations_at settings info number);
  links = first_link;
  timers = [];
  single = record { link = first_link; connection = idle_conn (single_core config).single.connection told };
}

-- and its book
abbrev idle_book : Config → ℕ → ℕ → ℕ → Book
idle_book config word number created = record (entered blank_book (action.Turn 0 (cause.Opening config word))) { generation = number; created = created }

-- what is said of its configuration
record IsManaged (config : Config) (settings : ConnectionManagerConfig) (info : ConnectionInfo) : Type 0 where
  managed : manager_of config ≡ Some settings
  sound : IsSound config
  at : address config ≡ Some info
  sized : IsSized (permits config) (buffer_size config)

-- its numbers
idle_numbers : (config : Config) (word : ℕ) (settings : ConnectionManagerConfig) (info : ConnectionInfo) (number created : ℕ) (told : Bool) → IsManaged config settings info → (number ≡ 0 → waits_for_use config ≡ true) → (waits_for_use config ≡ true → created ≢ 0)
    → TiedNumbers (idle_book config word number created) (inner (idle config settings info number told) [])
idle_numbers config word settings info number created told is first lazy = record {
  turns = refl;
  links = refl;
  timers = refl;
  sources = refl;
  aims = λ k what e. cc;
  timed = λ other says bounded. refl;
  submissions = refl;
  timeout = refl;
  shut = refl;
  within = refl;
  few = omega arith;
  settings = record { size_is = refl; bound_is = refl; limit_is = refl; some = is.sized.some; limited = is.sized.limited };
  kind_is = refl;
  quiet = λ w. record { none = refl; unwanted = unwanted_where_watched config w; unrenewed = refl; unrepeated = refl };
  comes_back = record {
    whole = config;
    told = refl;
    sound = is.sound;
    settings_are = set_so config settings is.managed;
    at = is.at;
    bounded = bounded_so config settings is.managed;
    number_is = refl;
    attempt_is = refl;
    first = λ none. waits_so config ∙ first none;
  };
  lazy = λ waits. lazy (sym (waits_so config) ∙ waits);
  current_is = refl;
  speaks = refl;
  address_is = refl;
  wants = refl;
  alone = λ none. cc;
}

-- the session is tied to its book
idle_tied : (config : Config) (word : ℕ) (settings : ConnectionManagerConfig) (info : ConnectionInfo) (number created : ℕ) (told : Bool) → IsManaged config settings info → (number ≡ 0 → waits_for_use config ≡ true) → (waits_for_use config ≡ true → created ≢ 0) → TiedCreation created told
    → Tied (idle_book config word number created) (inner (idle config settings info number told) [])
idle_tied config word settings info number created told is first lazy shown = record {
  numbers = idle_numbers config word settings info number created told is first lazy;
  others = λ m other. record {
    down = refl;
    over = λ less. absurd (omega (arith, less));
    unknown = λ past. refl;
    told = λ y. refl;
    parts = λ y cut. cc;
    shown = λ e fails. cc;
    timed = λ some. omega arith;
    few = omega arith;
  };
  notices = record { heard_is = refl; hearing_is = refl; within = λ y. omega arith; untold_is = λ y. refl; parts = λ y d z. cc; alive = λ z. refl; due = λ z. cc; tame = λ z r. refl };
  life = (refl, refl, refl, refl);
  course = (refl, refl, refl, refl);
  calm = λ up awake. refl;
  creds = record { wanted_is = tt; sought = (refl, refl, refl) };
  creation = shown;
  uses = λ k what e. cc;
  renewal = record { over_is = refl; came = refl; waits = refl; untimed = refl; unstarted = refl; unasked = refl; unpending = refl; told = refl; kept = refl; found = refl };
  repeat = refl;
  setup = record { info_is = tt; sent = λ k s less e. absurd (omega (arith, less)); said = (refl, refl) };
  link = λ e. fresh_tied (owner_of []) 0 0;
  names = opening_names;
  story = λ n. refl;
  tries = opening_tries blank_ledger refl;
  lines = opening_lines;
  told = λ e. record { told = λ n is_told none on. cc; here = λ p i. absurd i };
  waits = opening_waits again.Nothing Resting refl;
  permits = opening_permits (permits config);
  rounds = record { rounds_is = ap is_some (set_so config settings is.managed); unbegun = λ p u. cc; begun = λ p r o u. cc; new = λ p r up u. cc };
  early = λ unserved alive. record { unbegun = λ p o. cc; empty = refl };
  late = λ p o e. cc;
}

-- where it waits for its first submission
--
-- it is told at once that it is created
abbrev lazy_actions : Config → ℕ → List Action
lazy_actions config word = action.Turn 0 (cause.Opening config word) ∷ action.Created None ∷ []

lazy_book : (config : Config) (word : ℕ) → book (lazy_actions config word) ≡ idle_book config word 0 1
unfolding book
lazy_book config word = refl

-- and nothing more comes of its own
lazy_comes : (config : Config) (word : ℕ) (settings : ConnectionManagerConfig) → manager_of config ≡ Some settings → waits_for_use config ≡ true → NoneComes (idle_book config word 0 1)
lazy_comes config word settings managed waits =
    let has : has_generations (idle_book config word 0 1) ≡ true = ap is_some (set_so config settings managed) in (
      ap (λ (w : Bool). has_generations (idle_book config word 0 1) && (not w || false)) (waits_so config ∙ waits) ∙ and-false (has_generations (idle_book config word 0 1)),
      taken_if (has_generations (idle_book config word 0 1)) false true has,
    )

lazy_between : (config : Config) (word : ℕ) (settings : ConnectionManagerConfig) (info : ConnectionInfo) → IsManaged config settings info → waits_for_use config ≡ true → IsBetween (lazy_actions config word) (idle config settings info 0 true)
lazy_between config word settings info is waits =
    let b = idle_book config word 0 1 in
    let c = idle config settings info 0 true in
    let conn = c.single.connection in
    let t = inner c [] in
    let tied = idle_tied config word settings info 0 1 true is (λ none. waits) (λ lazy. λ none. cc) (shown_creation 0) in
    let fit : IsFitIn conn = record { wanting = λ link e. cc; setup = λ link u e. cc; link = λ link e. cc; none = λ no. refl } in
    let still : IsStill conn = record { setup = λ link u e. cc; held = λ link e. cc; full = λ link e. cc; waiting = λ link e answered. cc; begun = λ shows up. cc; none_waits = λ e. refl; repeated = λ link e. cc; renewed = λ link e. cc } in
    let moved = is_moved b t tied refl (refl, refl) refl (λ l. refl) fit.link fit.none still.held still.full still.waiting still.none_waits (λ over. cc) (λ x. lazy_comes config word settings is.managed waits) fit.setup still.setup (λ p i. absurd i) still.repeated still.renewed still.begun in
    let written = is_written b t tied moved refl in
    let quiet : IsQuiet t = record { seats = λ p i. absurd i; settled = refl; alone = refl; fit = fit.link; none = fit.none; held = still.held; full = still.full; waiting = still.waiting; begun = still.begun; gone = still.none_waits; setup_fit = fit.setup; setup_held = still.setup } in
    let book_is = sym (lazy_book config word) in
    record {
      started = [];
      between = record {
        sound = record {
          stands = (record { next = refl; is_for = refl }, (inr (record { config = config; told = refl; sound = is.sound; lazy = waits_so config ∙ waits; once = refl }), tt));
          tied = subst (λ (x : Book). Tied x t) book_is tied;
        };
        settled = subst IsSettled book_is (is_settled b t tied quiet refl refl written);
        began = λ e. cc;
        fresh = refl;
        moved = refl;
        fit = fit;
        still = still;
        hushed = λ over. cc;
        heeded = subst (λ (x : Book). HasHeeded x.rest x.failed Resting (generations_at settings info 0)) book_is (record { rest_is = refl; failed_is = refl; rests = λ some. absurd (some refl) });
        informed = subst (λ (x : Book). HasInformed x no_subscriptions) book_is (record { held = refl; counted = refl; calls = λ n. refl });
      };
    }

-- where its first generation begins at once
--
-- it is shown
abbrev eager_actions : Config → ℕ → List Action
eager_actions config word = action.Turn 0 (cause.Opening config word) ∷ action.Generation 1 ∷ []

eager_book : (config : Config) (word : ℕ) → book (eager_actions config word) ≡ idle_book config word 1 0
unfolding book
eager_book config word = refl

-- and may be
eager_stands : (config : Config) (word : ℕ) (settings : ConnectionManagerConfig) → manager_of config ≡ Some settings → waits_for_use config ≡ false → AllStand blank_book (eager_actions config word)
eager_stands config word settings managed eager =
    let b = entered blank_book (action.Turn 0 (cause.Opening config word)) in
    let has : has_generations b ≡ true = ap is_some (set_so config settings managed) in
    let never : is_lazy (Some config) ≡ false = waits_so config ∙ eager in (
      record { next = refl; is_for = refl },
      (
        record {
          shown = turn_shown config word never;
          rested = and-false (has_generations b);
          due = (λ i. has i && (not (never i) || false));
          next = refl;
        },
        tt,
      ),
    )

-- the timer of its connect is the opening's
purposes_are : (bound : Option ℕ) → connect_purposes first_link bound ≡ connect_timers bound
purposes_are None = refl
purposes_are (Some ms) = refl

timed_so : (bound : Option ℕ) → connect_timed first_link 0 bound ≡ timer_asked bound
timed_so None = refl
timed_so (Some ms) = refl

-- the session then
abbrev eager_with : Config → ConnectionManagerConfig → ConnectionInfo → List Purpose → Again → Core
eager_with config settings info timers a = record (single_core config) {
  manager = Some (generations_at settings info 1);
  timers = timers;
  single = record (single_core config).single { connection = record (first_dialled settings (single_core config).single.connection) { again = a } };
}

abbrev eager_core : Config → ConnectionManagerConfig → ConnectionInfo → List Purpose → Core
eager_core config settings info timers = record (single_core config) {
  manager = Some (generations_at settings info 1);
  timers = timers;
  single = record (single_core config).single { connection = first_dialled settings (single_core config).single.connection };
}

eager_between : (config : Config) (word : ℕ) (settings : ConnectionManagerConfig) (info : ConnectionInfo) → IsManaged config settings info → waits_for_use config ≡ false
    → IsBetween (action.Turn 0 (cause.Opening config word) ∷ action.Generation 1 ∷ action.Connect first_link info.host info.port ∷ timer_asked (connect_timeout config)) (eager_core config settings info (connect_timers (connect_timeout config)))
eager_between config word settings info is eager =
    let trace = eager_actions config word in
    let k = idle config settings info 1 false in
    let g = generations_at settings info 1 in
    let bound = settings.connection.connection_timeout in
    let book_is = sym (eager_book config word) in
    let tied = idle_tied config word settings info 1 0 false is (λ none. cc) (λ waits. absurd (not_both (waits_for_use config) eager waits)) (record { before = λ e. refl; after = λ e. cc }) in
    let rests : IsResting trace (inner k []) = record {
      sound = record { stands = eager_stands config word settings is.managed eager; tied = subst (λ (x : Book). Tied x (inner k [])) book_is tied };
      ended = subst NoneEnds book_is (λ l. refl);
      rests = refl;
      settled = refl;
      nobody = refl;
      told = (refl, refl);
    } in
    let dials = dials_returned trace k g rests refl (λ e. cc) (ap (λ (x : Book). x.rest) (eager_book config word)) (ap (λ (x : Book). x.failed) (eager_book config word)) (subst (λ (x : Book). HasInformed x no_subscriptions) book_is (record { held = refl; counted = refl; calls = λ n. refl })) refl refl (subst (λ (x : Book). IsHarmless (x.link first_link).heard) book_is (inl refl)) in
    let shown = trace ++ action.Connect first_link info.host info.port ∷ connect_timed first_link 0 bound in
    let timers = connect_purposes first_link bound in
    let flushed = subst (λ (x : List Action). IsBetween x (dialling k first_link)) (append-nil shown) (flushed_between shown (dialling k first_link) (λ e. cc) dials) in
    let done : IsBetween shown (eager_core config settings info timers) = subst (λ (a : Again). IsBetween shown (eager_with config settings info timers a)) (nothing_first settings info 1) flushed in
    let says : bound ≡ connect_timeout config = sym (bounded_so config settings is.managed) in
    subst (λ (x : Option ℕ). IsBetween (trace ++ action.Connect first_link info.host info.port ∷ timer_asked x) (eager_core config settings info (connect_timers x))) says
    (subst (λ (ts : List Purpose). IsBetween (trace ++ action.Connect first_link info.host info.port ∷ timer_asked bound) (eager_core config settings info ts)) (purposes_are bound)
    (subst (λ (ts : List Action). IsBetween (trace ++ action.Connect first_link info.host info.port ∷ ts) (eager_core config settings info (connect_purposes first_link bound))) (timed_so bound) done))

-- so the opening leads from nothing to between turns
managed_opening : (config : Config) (word : ℕ) (settings : ConnectionManagerConfig) → manager_of config ≡ Some settings → IsSound config → IsBetween (opening_actions config word) (opening_core config word)
managed_opening config word settings managed sound =
    subst (λ (m : Option ConnectionManagerConfig). IsBetween (action.Turn 0 (cause.Opening config word) ∷ begun_as m (waits_for_use config) (connect_asked (address config) (connect_timeout config))) (as_managed m (address config) (waits_for_use config) (single_core config))) (sym managed)
    (by_address (address config) refl)
  where
    told : Option ConnectionInfo → Bool → Type 0
    told at lazy = IsBetween (action.Turn 0 (cause.Opening config word) ∷ begun_as (Some settings) lazy (connect_asked at (connect_timeout config))) (as_managed (Some settings) at lazy (single_core config))

    by_lazy : (info : ConnectionInfo) → IsManaged config settings info → (lazy : Bool) → waits_for_use config ≡ lazy → told (Some info) lazy
    by_lazy info is true e = lazy_between config word settings info is e
    by_lazy info is false e = eager_between config word settings info is e

    by_address : (x : Option ConnectionInfo) → address config ≡ x → told x (waits_for_use config)
    by_address None at = absurd (has_address config sound at)
    by_address (Some info) at = by_lazy info (record { managed = managed; sound = sound; at = at; sized = room_sized (permits config) (buffer_size config) (is_roomy config sound) }) (waits_for_use config) refl

-- whether the session comes back or not
pub opened_between : (config : Config) (word : ℕ) → IsSound config → IsBetween (opening_actions config word) (opening_core config word)
opened_between config word sound = by_manager (manager_of config) refl
  where
    by_manager : (m : Option ConnectionManagerConfig) → manager_of config ≡ m → IsBetween (opening_actions config word) (opening_core config word)
    by_manager None none = opening_between config word none sound
    by_manager (Some settings) managed = managed_opening config word settings managed sound
