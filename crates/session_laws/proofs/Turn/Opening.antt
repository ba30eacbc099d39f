-- The opening: the first link is asked for.
use Rattle.std.proofs.Common.{List, None, Option, Some, [], ap, arith, false, inl, inr, refl, subst, suc, sym, zero, ℕ, ◌+◌, ◌<◌, ◌∙◌, ◌∷◌, ◌≡◌, ◌≢◌, Bool, ◌&&◌, not, true, length}
use Rattle.std.specs.Prelude.{unwrap_or, ◌==◌, slice_get, if◌then◌else◌, is_some}
use Rattle.containers.proofs.Choices.{chosen, left_if, ne_from, ne_test, not_both}
use Rattle.connection_info.specs.declared.address.ConnectionInfo.{ConnectionInfo}
use Rattle.redis_error.specs.declared.redis_error.RedisError.{RedisError}
use Rattle.redis_error.specs.declared.config_name.ConfigName.{ConfigName}
use Rattle.redis_error.specs.declared.config_name.ConfigName.TheVariants as name
use Rattle.driver_model.specs.declared.action.Action.TheVariants as action
use Rattle.driver_model.specs.declared.action.Cause.TheVariants as cause
use Rattle.driver_model.specs.declared.config.Config.{Config}
use Rattle.driver_model.specs.declared.config.Config.TheVariants as variant
use Rattle.driver_model.specs.declared.kind.SessionKind.TheVariants as kind
use Rattle.driver_model.specs.Config.{is_lazy as waits_for_use, address, manager_of, buffer_fault, buffer_size, connect_timeout, response_timeout, room_fault, told_info, hearing_of, hearing_in, permits, wants_credentials}
use Rattle.driver_model.specs.declared.action.Action.{Action}
use Rattle.driver_model.specs.declared.action.Purpose.{Purpose}
use Rattle.driver_model.specs.declared.action.Purpose.TheVariants as purpose
use Rattle.link_laws.proofs.TiedLink.{asked_tied, fresh_tied}
use Rattle.mux_conn.specs.declared.life.Life.TheVariants.{Dialing}
use Rattle.single_session.specs.Replay.{IsSound, begun_as, connect_asked, connect_timers, first_link, opening_core, opening_actions, single_core, timer_asked, as_managed}
use Rattle.single_session.proofs.Plain.{plain_opening}
use Rattle.single_session.specs.declared.core_state.Core.{Core}
use Rattle.legal_trace.specs.Book.{Book, blank_book, book, entered, has_generations}
use Rattle.legal_trace.specs.Managers.{is_last, is_lazy, settings_in}
use Rattle.legal_trace.specs.Again.{repeats_in}
use Rattle.manager_config.specs.declared.config.ConnectionManagerConfig.{ConnectionManagerConfig}
use Rattle.legal_trace.proofs.Managers.{never_lazy, no_settings}
use Rattle.legal_trace.specs.Ledger.{Ledger, Line, Start, blank_ledger, ending, noted_each, setup_count, failure_in, is_cut, is_ready, next_notice, noted, source_due}
use Rattle.legal_trace.specs.Legal.{AllStand, IsSettled, NoneEnds, IsShown, begins_first, current_link, generation_due, is_attempt, is_caused, rest_due}
use Rattle.legal_trace.specs.Story.{blank_story}
use Rattle.session_laws.proofs.Requests.Going.{is_moved}
use Rattle.session_laws.proofs.Requests.Settled.{IsBetween, is_settled}
use Rattle.conn_laws.proofs.Ties.States.{IsFitIn, IsStill}
use Rattle.conn_laws.proofs.Links.Server.{owners_of, setup_owners}
use Rattle.conn_laws.proofs.Ties.Tied.{IsAside, TiedPermits, TiedTries, no_link, owner_of}
use Rattle.session_laws.proofs.Ties.Tied.{AreAimed, IsAim, Tied, TiedNumbers, inner}
use Rattle.session_laws.proofs.Requests.Waits.{IsQuiet}
use Rattle.session_laws.proofs.Links.Write.{is_written}
use Rattle.driver_model.specs.Hearing.{is_watching}
use Rattle.driver_model.specs.declared.hearing.Hearing.{Hearing}
use Rattle.driver_model.proofs.Sound.{has_address, is_roomy}
use Rattle.mux_conn.specs.declared.again.Again.TheVariants as again
use Rattle.conn_laws.proofs.Turn.Opening.{first_line, last_first, opening_lines, opening_names, opening_waits}

-- what timers the opening has asked for
abbrev asks_timers : List Purpose → Book → Book
asks_timers timers b = record b { timers = timers; timed = length timers }

-- the book of the opening, which has asked for these timers
abbrev opened : Config → ℕ → ConnectionInfo → List Purpose → Book
opened config word info timers = asks_timers timers (entered (entered blank_book (action.Turn 0 (cause.Opening config word))) (action.Connect first_link info.host info.port))

-- the session then
abbrev opened_core : Config → List Purpose → Core
opened_core config timers = record (single_core config) { timers = timers }

-- no other link is told of
opened_link : (config : Config) (word : ℕ) (info : ConnectionInfo) (timers : List Purpose) (m : ℕ) → m ≢ first_link → (opened config word info timers).link m ≡ blank_ledger
opened_link config word info timers m other = ap (noted_each blank_ledger) (left_if (first_link == m) (first_line config ∷ []) [] (ne_test first_link m (λ e. other (sym e))))

-- a fact of a link that isn't told of, and of one that is asked for, is one of each link
each_opened : (P : Ledger → Type 0) (config : Config) (word : ℕ) (info : ConnectionInfo) (timers : List Purpose) → P blank_ledger → P (noted blank_ledger (first_line config)) → (l : ℕ) → P ((opened config word info timers).link l)
each_opened P config word info timers none first l = chosen (λ (ls : List Line). P (noted_each blank_ledger ls)) (first_link == l) (first_line config ∷ []) [] (λ t. first) (λ f. none)

-- a configuration that was told is the one
same_config : (config other : Config) → ◌≡◌ {A = Option Config} (Some config) (Some other) → config ≡ other
same_config config other e = cc

-- a bounded connect has its timer
bounded_timers : (timeout : Option ℕ) → timeout ≢ None → length (connect_timers timeout) ≡ 1
bounded_timers None some = absurd (some refl)
bounded_timers (Some ms) some = refl

-- the timers are for the first link
first_aims : (timeout : Option ℕ) → AreAimed (connect_timers timeout) first_link 0
first_aims None k what e = cc
first_aims (Some ms) zero what e = let same : purpose.Connect first_link ≡ what = cc in subst (λ w. IsAim w first_link 0) same (omega arith)
first_aims (Some ms) (suc k) what e = cc

-- a connection that never has a permit is refused, and a queue that holds nothing
pub record IsSized (limit : Option ℕ) (size : ℕ) : Type 0 where
  pub limited : limit ≢ Some 0
  pub some : 0 < size

-- what is refused is told
no_fault : (n : ConfigName) → Some n ≡ None → ⊥
no_fault n e = cc

-- the queue
buffer_sized : (size : ℕ) → buffer_fault size ≡ None → 0 < size
buffer_sized size = chosen (λ (x : Option ConfigName). x ≡ None → 0 < size) (size == 0) (Some name.Buffer) None (λ t e. absurd (no_fault name.Buffer e)) (λ n e. let some = ne_from size 0 n in omega arith)

-- the permits, and then the queue
pub room_sized : (limit : Option ℕ) (size : ℕ) → room_fault limit size ≡ None → IsSized limit size
room_sized None size = λ e. record { limited = λ x. cc; some = buffer_sized size e }
room_sized (Some k) size =
    chosen (λ (x : Option ConfigName). x ≡ None → IsSized (Some k) size) (k == 0) (Some name.Limit) (buffer_fault size)
    (λ t e. absurd (no_fault name.Limit e))
    (λ n e. record { limited = λ x. ne_from k 0 n (same_number k 0 x); some = buffer_sized size e })
  where
    same_number : (k l : ℕ) → ◌≡◌ {A = Option ℕ} (Some k) (Some l) → k ≡ l
    same_number k l e = cc

-- no multiplexed connection is put into monitor mode
single_unwatched : (pushes : Bool) → is_watching (hearing_in kind.Single pushes) ≡ true → ⊥
single_unwatched true w = cc w
single_unwatched false w = cc w

-- and where the server is, no credentials come of sources
pub unwanted_where_watched : (config : Config) → is_watching (hearing_of config) ≡ true → wants_credentials config ≡ false
unwanted_where_watched (variant.Single address connection) w = absurd (single_unwatched (unwrap_or connection.push false) w)
unwanted_where_watched (variant.Manager lazy address connection manager) w = absurd (single_unwatched (unwrap_or connection.push false) w)
unwanted_where_watched (variant.PubSub address) w = refl
unwanted_where_watched (variant.Monitor address) w = refl

-- its numbers
opening_numbers : (config : Config) (word : ℕ) (info : ConnectionInfo) (timeout : Option ℕ) → manager_of config ≡ None → IsSound config → IsSized (permits config) (buffer_size config) → connect_timeout config ≡ timeout → TiedNumbers (opened config word info (connect_timers timeout)) (inner (opened_core config (connect_timers timeout)) [])
opening_numbers config word info timeout none sound some is = record {
  turns = refl;
  links = refl;
  timers = refl;
  sources = refl;
  aims = first_aims timeout;
  timed = λ other told bounded. bounded_timers timeout (λ unbounded. bounded (ap connect_timeout (sym (same_config config other told)) ∙ is ∙ unbounded));
  submissions = refl;
  timeout = refl;
  shut = refl;
  within = refl;
  few = omega arith;
  settings = record { size_is = refl; bound_is = refl; limit_is = refl; some = some.some; limited = some.limited };
  kind_is = refl;
  quiet = λ w. record { none = refl; unwanted = unwanted_where_watched config w; unrenewed = refl; unrepeated = refl };
  comes_back = (no_settings config none, never_lazy config none);
  lazy = λ is. absurd (not_both (is_lazy (Some config)) (never_lazy config none) is);
  current_is = refl;
  speaks = refl;
  address_is = refl;
  wants = refl;
  alone = λ plain. refl;
}

-- all its permits are free
pub opening_permits : (limit : Option ℕ) → TiedPermits (λ n. blank_story) 0 [] first_link limit (unwrap_or limit 0) []
opening_permits limit = record {
  counted = λ k e. (let all : unwrap_or limit 0 ≡ k = ap (λ (x : Option ℕ). unwrap_or x 0) e in omega arith);
  none = λ p w out. cc;
  let_in = λ p e. elim e [ inl a ↦ cc | inr a ↦ cc ];
}

-- its tries
pub opening_tries : (l : Ledger) → l.starts ≡ [] → TiedTries l (λ n. blank_story) [] first_link []
opening_tries l none = record { greeted = λ w. record { none = refl; greets = λ k s e. (let no : ◌≡◌ {A = Option Start} None (Some s) = sym (ap (λ (ss : List Start). slice_get ss k) none) ∙ e in cc) }; owners = λ plain. ap owners_of none ∙ ap (λ (ss : List Start). setup_owners (setup_count ss) []) (sym none); shapes = λ k p s w e i. cc; tried = λ k p w e. cc; untried = λ p r e out on. cc }

-- no link but the first was asked for
blank_aside : (m : ℕ) (heard : Hearing) (within : Option ℕ) → m ≢ first_link → IsAside (first_link + 1) m blank_ledger heard within 0
blank_aside m heard within other = record {
  down = refl;
  over = λ less. absurd (other (omega arith));
  unknown = λ past. refl;
  told = λ y. refl;
  parts = λ y cut. cc;
  shown = λ e fails. cc;
  timed = λ some. omega arith;
  few = omega arith;
}

-- the session is tied to it
opening_tied : (config : Config) (word : ℕ) (info : ConnectionInfo) (timeout : Option ℕ) → manager_of config ≡ None → IsSound config → IsSized (permits config) (buffer_size config) → connect_timeout config ≡ timeout → Tied (opened config word info (connect_timers timeout)) (inner (opened_core config (connect_timers timeout)) [])
opening_tied config word info timeout plain sound some is = record {
  numbers = opening_numbers config word info timeout plain sound some is;
  others = λ m other. subst (λ (x : Ledger). IsAside (first_link + 1) m x (hearing_of config) (response_timeout config) 0) (sym (opened_link config word info (connect_timers timeout) m other)) (blank_aside m (hearing_of config) (response_timeout config) other);
  notices = record { heard_is = refl; hearing_is = refl; within = λ y. omega arith; untold_is = λ y. refl; parts = λ y d z. cc; alive = λ z. refl; due = λ z. cc; tame = λ z r. refl };
  life = (refl, refl, refl);
  course = (refl, refl, refl, last_first config plain, refl);
  calm = λ up awake. refl;
  creds = record { wanted_is = refl; sought = (refl, refl, refl) };
  creation = record { before = λ e. refl; after = λ e. cc };
  uses = λ k what e. cc;
  renewal = record { over_is = refl; came = refl; waits = refl; untimed = refl; unstarted = refl; unasked = refl; unpending = refl; told = refl; kept = refl; found = refl };
  repeat = ap (λ s. repeats_in s []) (no_settings config plain);
  setup = record { info_is = refl; sent = λ k s less e. absurd (omega arith); said = (refl, refl) };
  link = λ e. asked_tied (owner_of []) blank_ledger (told_info config) (wants_credentials config) (hearing_of config) (is_last (settings_in (Some config)) 0) (repeats_in (settings_in (Some config)) []) no_link (fresh_tied (owner_of []) 0 0);
  names = opening_names;
  story = λ n. refl;
  tries = opening_tries ((opened config word info (connect_timers timeout)).link first_link) refl;
  lines = opening_lines;
  told = λ e. record { told = λ n is none on. cc; here = λ p i. absurd i };
  waits = opening_waits again.Nothing Dialing refl;
  permits = opening_permits (permits config);
  rounds = record { rounds_is = ap is_some (no_settings config plain); unbegun = λ p u. cc; begun = λ p r o u. cc; new = λ p r up u. cc };
  early = λ unserved alive. record { unbegun = λ p o. cc; empty = refl };
  late = λ p o e. cc;
}

-- no link must end
opening_ends : (config : Config) (word : ℕ) (info : ConnectionInfo) (timers : List Purpose) → NoneEnds (opened config word info timers)
opening_ends config word info timers m = chosen (λ (ls : List Line). ending (noted_each blank_ledger ls) ≡ None) (first_link == m) (first_line config ∷ []) [] (λ t. refl) (λ f. refl)

-- what the opening shows
abbrev opened_actions : Config → ℕ → ConnectionInfo → Option ℕ → List Action
opened_actions config word info timeout = action.Turn 0 (cause.Opening config word) ∷ action.Connect first_link info.host info.port ∷ timer_asked timeout

-- its book is that
opening_book : (config : Config) (word : ℕ) (info : ConnectionInfo) (timeout : Option ℕ) → book (opened_actions config word info timeout) ≡ opened config word info (connect_timers timeout)
unfolding book
opening_book config word info None = refl
opening_book config word info (Some ms) = refl

-- what the turn does is shown, where it has asked for no link
pub turn_shown : (config : Config) (word : ℕ) → is_lazy (Some config) ≡ false → IsShown (entered blank_book (action.Turn 0 (cause.Opening config word)))
turn_shown config word never = record {
  answered = λ n o. cc;
  ended = λ l. refl;
  created = record { shown = λ l ready. cc; failed = λ l e fails. cc; lazy = λ is. absurd (not_both (is_lazy (Some config)) never is) };
  pushed = λ l heard. refl;
  parted = λ l heard cut. cc;
  sourced = λ l. refl;
}

-- and so it is, where it has
opened_shown : (config : Config) (word : ℕ) (info : ConnectionInfo) (timers : List Purpose) → manager_of config ≡ None → IsShown (opened config word info timers)
opened_shown config word info timers none = record {
  answered = λ n o. cc;
  ended = opening_ends config word info timers;
  created = record {
    shown = each_opened (λ (x : Ledger). is_ready x ≡ true → ◌≢◌ {A = ℕ} 0 0) config word info timers (λ ready. cc) (λ ready. cc);
    failed = each_opened (λ (x : Ledger). (e : RedisError) → failure_in x.end ≡ Some e → ◌≢◌ {A = ℕ} 0 0) config word info timers (λ e fails. cc) (λ e fails. cc);
    lazy = λ is. absurd (not_both (is_lazy (Some config)) (never_lazy config none) is);
  };
  pushed = λ l heard. each_opened (λ (x : Ledger). next_notice x ≡ None) config word info timers refl refl l;
  parted = λ l heard. each_opened (λ (x : Ledger). is_cut x.end ≡ true → x.parted ≡ true) config word info timers (λ cut. cc) (λ cut. cc) l;
  sourced = each_opened (λ (x : Ledger). source_due x ≡ false) config word info timers refl refl;
}

-- no generation follows
plain_rested : (b : Book) → has_generations b ≡ false → rest_due b ≡ false
plain_rested b plain = ap (λ g. g && is_attempt (current_link b).end) plain

plain_generated : (b : Book) → has_generations b ≡ false → generation_due b ≡ false
plain_generated b plain = ap (λ g. g && (not b.failed && (not b.shut && (if b.generation == 0 then begins_first b else is_caused b)))) plain

-- its timer may stand
timer_stands : (config : Config) (word : ℕ) (info : ConnectionInfo) (timeout : Option ℕ) → manager_of config ≡ None → connect_timeout config ≡ timeout → AllStand (opened config word info []) (timer_asked timeout)
timer_stands config word info None none is = tt
timer_stands config word info (Some ms) none is =
    let b = opened config word info [] in
    let plain : has_generations b ≡ false = ap is_some (no_settings config none) in (
      inl (inl (record {
        shown = opened_shown config word info [] none;
        rested = plain_rested b plain;
        generated = plain_generated b plain;
        linked = left_if (has_generations b) _ (b.links == 0) plain;
        due = omega arith;
        config = config;
        told = refl;
        bounded = is;
        next = refl;
        is_for = refl;
      })),
      tt,
    )

-- and so its actions may
opening_stands : (config : Config) (word : ℕ) (info : ConnectionInfo) (timeout : Option ℕ) → manager_of config ≡ None → IsSound config → address config ≡ Some info → connect_timeout config ≡ timeout → AllStand blank_book (opened_actions config word info timeout)
opening_stands config word info timeout none sound at is =
    let b = entered blank_book (action.Turn 0 (cause.Opening config word)) in
    let plain : has_generations b ≡ false = ap is_some (no_settings config none) in (
      record { next = refl; is_for = refl },
      (
        record {
          shown = turn_shown config word (never_lazy config none);
          rested = plain_rested b plain;
          generated = plain_generated b plain;
          due = left_if (has_generations b) _ (b.links == 0) plain;
          config = config;
          told = refl;
          sound = sound;
          next = refl;
          info = info;
          configured = at;
          address = (refl, refl);
        },
        timer_stands config word info timeout none is,
      ),
    )

-- the session after an opening with an address
opened_between : (config : Config) (word : ℕ) (info : ConnectionInfo) (timeout : Option ℕ) → manager_of config ≡ None → IsSound config → address config ≡ Some info → IsSized (permits config) (buffer_size config) → connect_timeout config ≡ timeout
    → IsBetween (opened_actions config word info timeout) (opened_core config (connect_timers timeout))
opened_between config word info timeout none sound at some is =
    let timers = connect_timers timeout in
    let b = opened config word info timers in
    let c = opened_core config timers in
    let conn = c.single.connection in
    let t = inner c [] in
    let tied = opening_tied config word info timeout none sound some is in
    let fit : IsFitIn conn = record { wanting = λ link e. cc; setup = λ link u e. cc; link = λ link e. cc; none = λ no. refl } in
    let still : IsStill conn = record { setup = λ link u e. cc; held = λ link e. cc; full = λ link e. cc; waiting = λ link e answered. cc; begun = λ shows up. cc; none_waits = λ e. refl; repeated = λ link e. cc; renewed = λ link e. cc } in
    let moved = is_moved b t tied refl (refl, refl) refl (opening_ends config word info timers) fit.link fit.none still.held still.full still.waiting still.none_waits (λ over. cc) (λ x. cc) fit.setup still.setup (λ p i. absurd i) still.repeated still.renewed still.begun in
    let written = is_written b t tied moved refl in
    let quiet : IsQuiet t = record { seats = λ p i. absurd i; settled = refl; alone = refl; fit = fit.link; none = fit.none; held = still.held; full = still.full; waiting = still.waiting; begun = still.begun; gone = still.none_waits; setup_fit = fit.setup; setup_held = still.setup } in
    let book_is = sym (opening_book config word info timeout) in
    record {
      started = [];
      between = record {
        sound = record { stands = opening_stands config word info timeout none sound at is; tied = subst (λ (x : Book). Tied x t) book_is tied };
        settled = subst IsSettled book_is (is_settled b t tied quiet refl refl written);
        began = λ e. cc;
        fresh = refl;
        moved = refl;
        fit = fit;
        still = still;
        hushed = λ over. cc;
        heeded = tt;
        informed = tt;
      };
    }

-- nothing was submitted to what has just opened, and no new credentials were to be told
pub record IsUnasked (c : Core) : Type 0 where
  pub submitted : length c.table ≡ 0
  pub told : c.single.connection.renewal.asked ≡ 0

managed_unasked : (m : Option ConnectionManagerConfig) (at : Option ConnectionInfo) (lazy : Bool) (config : Config) → IsUnasked (as_managed m at lazy (single_core config))
managed_unasked None at lazy config = record { submitted = refl; told = refl }
managed_unasked (Some settings) None lazy config = record { submitted = refl; told = refl }
managed_unasked (Some settings) (Some info) false config = record { submitted = refl; told = refl }
managed_unasked (Some settings) (Some info) true config = record { submitted = refl; told = refl }

pub opening_unasked : (config : Config) (word : ℕ) → IsUnasked (opening_core config word)
opening_unasked config word = managed_unasked (manager_of config) (address config) (waits_for_use config) config

-- and after that of a sound configuration of what doesn't come back
pub opening_between : (config : Config) (word : ℕ) → manager_of config ≡ None → IsSound config → IsBetween (opening_actions config word) (opening_core config word)
opening_between config word none sound =
    let asked = connect_asked (address config) (connect_timeout config) in
    subst (λ (c : Core). IsBetween (opening_actions config word) c) (sym (plain_opening config word none))
    (subst (λ (m : Option ConnectionManagerConfig). IsBetween (action.Turn 0 (cause.Opening config word) ∷ begun_as m (waits_for_use config) asked) (single_core config)) (sym none) (by_address (address config) refl))
  where
    by_address : (x : Option ConnectionInfo) → address config ≡ x → IsBetween (action.Turn 0 (cause.Opening config word) ∷ connect_asked x (connect_timeout config)) (single_core config)
    by_address None at = absurd (has_address config sound at)
    by_address (Some info) at = opened_between config word info (connect_timeout config) none sound at (room_sized (permits config) (buffer_size config) (is_roomy config sound)) refl
