-- What a manager has done of its own leaves the session as it is behind the passes of a turn.
use Rattle.std.proofs.Common.{◌≡◌, ◌≢◌, ℕ, ◌+◌, true, false, List, [], ◌∷◌, ◌++◌, length, Option, Some, None, is_some, refl, sym, ap, ◌∙◌, subst, arith}
use Rattle.std.specs.Prelude.{option_map}
use Rattle.containers.proofs.Choices.{not_both}
use Rattle.manager_config.specs.Backoff.{backoff}
use Rattle.driver_model.specs.declared.action.Action.{Action}
use Rattle.driver_model.specs.declared.action.Action.TheVariants as action
use Rattle.driver_model.specs.declared.action.Purpose.TheVariants as purpose
use Rattle.mux_conn.specs.Connection.{in_front, is_ready}
use Rattle.mux_conn.specs.declared.life.Life.TheVariants.{Resting, Dialing, Wanting, SettingUp, Ready}
use Rattle.single_session.specs.declared.core_state.Core.{Core}
use Rattle.single_session.specs.declared.generations.Generations.{Generations}
use Rattle.single_session.specs.Generations.{begun, begun_with, bound_of, connect_purposes, connect_timed, dialling, failed_behind, is_last_of, rested, repeat_in}
use Rattle.legal_trace.specs.Book.{Book, blank_book, book, entered, entered_each}
use Rattle.legal_trace.specs.Legal.{AllStand, IsShown, NoneEnds, generation_due, word_of}
use Rattle.conn_laws.proofs.Ties.Ahead.{HasSeats}
use Rattle.session_laws.proofs.Internal.Served.{numbers_is}
use Rattle.session_laws.proofs.Managers.Comes.{NoneComes, live_comes}
use Rattle.session_laws.proofs.Managers.Dial.{dialled_in}
use Rattle.session_laws.proofs.Ties.Entered.{book-append, book_more}
use Rattle.session_laws.proofs.Managers.Generate.{begun_in}
use Rattle.conn_laws.proofs.Ties.Numbers.{IsIn}
use Rattle.conn_laws.proofs.Managers.Regenerate.{IsHarmless}
use Rattle.session_laws.proofs.Managers.Regenerate.{IsResting, dials_on, generates_on, manager_is, rests_comes, rests_on}
use Rattle.session_laws.proofs.Managers.Reopen.{at_rest, rested_in}
use Rattle.conn_laws.proofs.Ties.States.{IsFitIn, IsStill}
use Rattle.session_laws.proofs.Ties.States.{IsHushed}
use Rattle.conn_laws.proofs.Ties.Tied.{has_ended, link_in}
use Rattle.session_laws.proofs.Ties.Tied.{ComesBack, IsHeeded, AfterFailedAttempt, Sound, Tied, inner}
use Rattle.conn_laws.proofs.Internal.Serving.{serves_ready}
use Rattle.session_laws.proofs.Internal.Informed.{HasInformed, IsInformed, alike_informed, connect_alike, generation_alike, timer_alike}

-- all that a turn does is shown but bytes and waits
pub record HasReturned (trace : List Action) (c : Core) : Type 0 where
  pub started : List ℕ
  pub sound : Sound trace (inner c started)
  pub ended : NoneEnds (book trace)
  pub fit : IsFitIn c.single.connection
  pub still : IsStill c.single.connection
  pub seats : HasSeats c.single.connection.moved (in_front c.single.connection.renewal) (link_in c.single.connection.life) c.single.connection.size
  pub hushed : IsHushed c
  pub comes : NoneComes (book trace)
  pub heeded : IsHeeded (book trace).rest (book trace).failed c.single.connection.life c.manager
  pub informed : IsInformed (book trace) c.manager

-- on a link that isn't up
--
-- all is fit where nobody waits for a place
rest_fit : (c : Core) → c.single.connection.life ≡ Resting → c.single.connection.admitted ≡ [] → IsFitIn c.single.connection
rest_fit c rests nobody = record {
  wanting = λ link e. (let no : Resting ≡ Wanting link = sym rests ∙ e in cc);
  setup = λ link u e. (let no : Resting ≡ SettingUp link u = sym rests ∙ e in cc);
  link = λ link e. (let no : Resting ≡ Ready link = sym rests ∙ e in cc);
  none = λ no. nobody;
}

-- and still
rest_still : (c : Core) → c.single.connection.life ≡ Resting → IsStill c.single.connection
rest_still c rests = record {
  setup = λ link u e. (let no : Resting ≡ SettingUp link u = sym rests ∙ e in cc);
  held = λ link e. (let no : Resting ≡ Ready link = sym rests ∙ e in cc);
  full = λ link e. (let no : Resting ≡ Ready link = sym rests ∙ e in cc);
  repeated = λ link e. (let no : Resting ≡ Ready link = sym rests ∙ e in cc);
  renewed = λ link e. (let no : Resting ≡ Ready link = sym rests ∙ e in cc);
  waiting = λ link e answered. (let no : Resting ≡ Ready link = sym rests ∙ e in cc);
  begun = λ shows serving. absurd (not_both (is_ready c.single.connection.life) (ap is_ready rests) (serves_ready c.single.connection.life c.single.connection.again serving));
  none_waits = λ over. absurd (not_both (has_ended c.single.connection.life) (ap has_ended rests) over);
}

-- behind an attempt that failed
--
-- the session rests, with the timer of the wait
pub rests_returned : (trace : List Action) (k : Core) (g : Generations) (ms : ℕ) → AllStand blank_book trace → AfterFailedAttempt (book trace) (inner k []) → IsShown (book trace) → k.manager ≡ Some g → g.number ≢ 0 → (book trace).failed ≡ g.halted → HasInformed (book trace) g.subscribed → ms ≡ backoff g.settings g.attempt (word_of (book trace).running)
    → HasReturned (trace ++ action.Timer (length k.timers) ms (purpose.Backoff g.number) ∷ []) (rested k g.number g.attempt (length k.timers))
rests_returned trace k g ms stands h shown is some failed informed long =
    let timer = length k.timers in
    let a = action.Timer timer ms (purpose.Backoff g.number) in
    let d = rested k g.number g.attempt timer in
    let all = rests_on trace (inner k []) g timer ms g.number stands h shown is refl refl long in
    let same : at_rest (rested_in (inner k []) g.number g.attempt timer) ≡ inner d [] = λ i. record (inner d []) { life = sym h.rests i; admitted = sym h.admitted i; moved = sym h.moved i } in
    let sound : Sound (trace ++ a ∷ []) (inner d []) = subst (Sound (trace ++ a ∷ [])) same all.sound in
    let b : Book = entered (book trace) a in
    let first = book_more trace a in
    let managed : d.manager ≡ Some (failed_behind g g.attempt timer) = ap (option_map (λ (x : Generations). failed_behind x g.attempt timer)) is in
    let back : ComesBack b.config b.generation b.attempt (failed_behind g g.attempt timer) = manager_is b (inner d []) (failed_behind g g.attempt timer) managed (subst (λ (x : Book). Tied x (inner d [])) first sound.tied) in
    record {
      started = [];
      sound = sound;
      ended = all.ended;
      fit = rest_fit d h.rests h.admitted;
      still = rest_still d h.rests;
      seats = λ p i. absurd (subst (IsIn p) h.moved i);
      hushed = λ down. absurd (not_both k.shut h.unshut down);
      comes = subst NoneComes (sym first) (rests_comes b (inner d []) timer (subst (λ (x : Book). Tied x (inner d [])) first sound.tied) h.rests (ap is_some back.settings_are) (λ none. some (sym back.number_is ∙ none)) refl);
      heeded = subst (λ m. IsHeeded (book (trace ++ a ∷ [])).rest (book (trace ++ a ∷ [])).failed d.single.connection.life m) (sym managed)
          (subst (λ (x : Book). IsHeeded x.rest x.failed d.single.connection.life (Some (failed_behind g g.attempt timer))) (sym first) (record { rest_is = refl; failed_is = failed; rests = λ x. (h.rests, some) }));
      informed = subst (IsInformed (book (trace ++ a ∷ []))) (sym managed)
          (subst (λ (x : Book). HasInformed x g.subscribed) (sym first) (alike_informed (book trace) b g.subscribed (timer_alike (book trace) timer ms (purpose.Backoff g.number)) informed));
    }

-- a link that is asked for
--
-- what that leaves of a book
asks_leave : (b : Book) (l t : ℕ) (host : List ℕ) (port : ℕ) (bound : Option ℕ) → let d = entered_each b (action.Connect l host port ∷ connect_timed l t bound) in (d.rest ≡ b.rest) × (d.failed ≡ b.failed)
asks_leave b l t host port None = (refl, refl)
asks_leave b l t host port (Some ms) = (refl, refl)

-- the session then, whose next link isn't asked for yet
abbrev pub at_next : Core → Core
at_next k = record k { single = record k.single { link = k.links } }

-- it is asked for
pub dials_returned : (trace : List Action) (k : Core) (g : Generations) → IsResting trace (inner (at_next k) []) → k.manager ≡ Some g → g.number ≢ 0 → (book trace).rest ≡ None → (book trace).failed ≡ g.halted → HasInformed (book trace) g.subscribed → g.rest ≡ None → k.shut ≡ false → IsHarmless ((book trace).link k.links).heard
    → HasReturned (trace ++ action.Connect k.links g.info.host g.info.port ∷ connect_timed k.links (length k.timers) g.settings.connection.connection_timeout) (dialling k k.links)
dials_returned trace k g h is some awake failed informed rested runs harmless =
    let bound = g.settings.connection.connection_timeout in
    let shown = action.Connect k.links g.info.host g.info.port ∷ connect_timed k.links (length k.timers) bound in
    let t = inner (at_next k) [] in
    let d = dialling k k.links in
    let all = dials_on trace t g (length k.timers) h is some awake informed runs refl harmless in
    let same : dialled_in t (is_last_of (Some g)) (repeat_in (Some g)) (k.timers ++ connect_purposes k.links (bound_of (Some g))) ≡ inner d [] =
    λ i. record (inner d []) { timers = k.timers ++ connect_purposes k.links (bound_of (sym is i)); last = is_last_of (sym is i); again = repeat_in (sym is i); fresh = sym (numbers_is k.single.connection.waiting) i } in
    let sound : Sound (trace ++ shown) (inner d []) = subst (Sound (trace ++ shown)) same all.0 in
    let left = asks_leave (book trace) k.links (length k.timers) g.info.host g.info.port bound in
    let behind = book-append trace shown in
    record {
      started = [];
      sound = sound;
      ended = all.1;
      fit = record { wanting = λ link e. cc; setup = λ link u e. cc; link = λ link e. cc; none = λ no. h.nobody };
      still = record { setup = λ link u e. cc; held = λ link e. cc; full = λ link e. cc; repeated = λ link e due. cc; renewed = λ link e. cc; waiting = λ link e served. cc; begun = λ shows up. cc up; none_waits = λ over. cc over };
      seats = λ p i q. absurd q;
      hushed = λ down. absurd (not_both k.shut runs down);
      comes = live_comes (book (trace ++ shown)) (inner d []) sound.tied refl refl;
      heeded = subst (λ m. IsHeeded (book (trace ++ shown)).rest (book (trace ++ shown)).failed Dialing m) (sym is)
          (record {
            rest_is = ap (λ (x : Book). x.rest) behind ∙ left.0 ∙ awake ∙ sym rested;
            failed_is = ap (λ (x : Book). x.failed) behind ∙ left.1 ∙ failed;
            rests = λ waits. absurd (waits rested);
          });
      informed = subst (IsInformed (book (trace ++ shown))) (sym is)
          (subst (λ (x : Book). HasInformed x g.subscribed) (sym behind) (alike_informed (book trace) (entered_each (book trace) shown) g.subscribed (connect_alike (book trace) k.links (length k.timers) g.info.host g.info.port bound) informed));
    }

-- a generation
--
-- the session then, which goes to its next link
pub begins_rest : (trace : List Action) (k : Core) (started : List ℕ) (g : Generations) (number : ℕ) → Sound trace (inner k started) → IsShown (book trace) → k.manager ≡ Some g → number ≡ g.number + 1 → generation_due (book trace) ≡ true → Tied (entered (book trace) (action.Generation number)) (at_rest (begun_in (inner k started) number))
    → IsResting (trace ++ action.Generation number ∷ []) (inner (at_next (begun k number)) [])
begins_rest trace k started g number h shown is next due begins =
    let t = inner k started in
    let d = at_next (begun k number) in
    let all = generates_on trace t g number h shown is next due begins in
    let same : at_rest (begun_in t number) ≡ inner d [] = λ i. record (inner d []) { fresh = sym (numbers_is k.single.connection.waiting) i } in
    record {
      sound = subst (Sound (trace ++ action.Generation number ∷ [])) same all.sound;
      ended = all.ended;
      rests = refl;
      settled = refl;
      nobody = refl;
      told = (refl, refl);
    }

-- and asks for it
pub begins_returned : (trace : List Action) (k : Core) (started : List ℕ) (g : Generations) (number : ℕ) → Sound trace (inner k started) → IsShown (book trace) → k.manager ≡ Some g → number ≡ g.number + 1 → generation_due (book trace) ≡ true → Tied (entered (book trace) (action.Generation number)) (at_rest (begun_in (inner k started) number))
    → (book trace).failed ≡ g.halted → HasInformed (book trace) g.subscribed → k.shut ≡ false → IsHarmless ((book trace).link k.links).heard
    → HasReturned ((trace ++ action.Generation number ∷ []) ++ action.Connect k.links g.info.host g.info.port ∷ connect_timed k.links (length k.timers) g.settings.connection.connection_timeout) (dialling (begun k number) k.links)
begins_returned trace k started g number h shown is next due begins failed informed runs harmless =
    let a = action.Generation number in
    let first = book_more trace a in
    dials_returned (trace ++ a ∷ []) (begun k number) (begun_with g number) (begins_rest trace k started g number h shown is next due begins) (ap (option_map (λ (x : Generations). begun_with x number)) is) (λ none. absurd (omega (arith, next, none)))
    (ap (λ (x : Book). x.rest) first) (ap (λ (x : Book). x.failed) first ∙ failed) (subst (λ (x : Book). HasInformed x g.subscribed) (sym first) (alike_informed (book trace) (entered (book trace) a) g.subscribed (generation_alike (book trace) number) informed)) refl runs (subst (λ (x : Book). IsHarmless (x.link k.links).heard) (sym first) harmless)
