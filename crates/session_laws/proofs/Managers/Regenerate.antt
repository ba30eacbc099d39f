-- What a manager does of its own may stand, and the session stays tied to its book.
use Rattle.std.proofs.Common.{◌≡◌, ◌≢◌, inl, inr, ℕ, ◌+◌, ◌==◌, nat_lt, Bool, true, false, ◌&&◌, not, List, [], ◌∷◌, ◌++◌, length, Option, Some, None, is_none, is_some, if◌then◌else◌, refl, sym, ap, ◌∙◌, subst, append_assoc, arith}
use Rattle.std.specs.Prelude.{unwrap_or}
use Rattle.std.proofs.lemmas.List.{append-nil}
use Rattle.std.proofs.Math.Nat.{le_refl}
use Rattle.containers.proofs.Choices.{chosen, eq_from, left_if, ne_test, not_both, taken_if}
use Rattle.driver_model.specs.Hearing.{hears_messages, is_watching}
use Rattle.manager_config.specs.declared.config.ConnectionManagerConfig.{ConnectionManagerConfig}
use Rattle.manager_config.specs.Backoff.{backoff}
use Rattle.driver_model.specs.declared.action.Action.{Action}
use Rattle.driver_model.specs.declared.action.Action.TheVariants as action
use Rattle.driver_model.specs.declared.action.Purpose.{Purpose}
use Rattle.driver_model.specs.declared.action.Purpose.TheVariants as purpose
use Rattle.driver_model.specs.declared.config.Config.{Config}
use Rattle.driver_model.specs.declared.config.Config.TheVariants as variant
use Rattle.driver_model.specs.declared.kind.SessionKind.TheVariants as kind
use Rattle.driver_model.specs.Config.{connect_timeout, hearing_of, manager_of, hearing_in as hearing_for}
use Rattle.mux_conn.specs.declared.life.Life.TheVariants.{Resting}
use Rattle.single_session.specs.declared.generations.Generations.{Generations}
use Rattle.single_session.specs.Generations.{connect_purposes, connect_timed, is_last, repeat_for}
use Rattle.legal_trace.specs.Again.{repeats_in}
use Rattle.legal_trace.specs.Book.{Book, blank_book, book, entered, has_generations, hearing_in, info_in, wanted_in}
use Rattle.legal_trace.specs.Ledger.{Line, ending, noted, noted_each}
use Rattle.legal_trace.specs.Legal.{AllStand, IsApplied, IsShown, IsTimed, MayConnect, MayGenerate, MayRest, MayStand, MayTimeConnect, NoneEnds, begins_first, current_link, generation_due, is_attempt, is_caused, link_due, word_of}
use Rattle.legal_trace.specs.Managers.{settings_in, is_last as last_in}
use Rattle.legal_trace.proofs.Moves.{lt_test}
use Rattle.session_laws.proofs.Ties.Kept.{replaced}
use Rattle.session_laws.proofs.Managers.Comes.{NoneComes, none_caused, none_rests}
use Rattle.session_laws.proofs.Managers.Dial.{CanDial, asks_line, dialled_book, dialled_in, dials_tied}
use Rattle.session_laws.proofs.Ties.Entered.{all_stand-append, book_more, sound_more}
use Rattle.session_laws.proofs.Managers.Generate.{begun_in}
use Rattle.session_laws.proofs.Requests.Going.{applied_up, shown_resting}
use Rattle.conn_laws.proofs.Ties.Names.{get_more}
use Rattle.session_laws.proofs.Ties.Past.{is_past, unended_over}
use Rattle.session_laws.proofs.Managers.Reopen.{at_rest, rest_tied, rested_in, rests_tied}
use Rattle.conn_laws.proofs.Ties.Tied.{TiedLife, has_ended}
use Rattle.session_laws.proofs.Ties.Tied.{AreAimed, ComesBack, HasCourse, TurnState, IsAim, AfterFailedAttempt, IsToldIn, Sound, Tied, TiedManager, is_begun}
use Rattle.session_laws.proofs.Internal.Informed.{HasInformed}
use Rattle.conn_laws.proofs.Internal.Subscribes.{RepeatsNext}
use Rattle.session_laws.proofs.Internal.Subscribes.{repeats_next}
use Rattle.conn_laws.proofs.Managers.Regenerate.{IsHarmless, asked_ends_not}

-- a session whose generations are these
--
-- how it comes back
comes_so : (config : Option Config) (generation attempts : ℕ) (m : Option Generations) (g : Generations) → m ≡ Some g → TiedManager config generation attempts m → ComesBack config generation attempts g
comes_so config generation attempts m g is h = subst (TiedManager config generation attempts) is h

pub manager_is : (b : Book) (t : TurnState) (g : Generations) → t.manager ≡ Some g → Tied b t → ComesBack b.config b.generation b.attempt g
manager_is b t g is h = comes_so b.config b.generation b.attempt t.manager g is h.numbers.comes_back

-- it has generations
has_some : (config : Option Config) (generation attempts : ℕ) (g : Generations) → ComesBack config generation attempts g → is_some (settings_in config) ≡ true
has_some config generation attempts g h = ap is_some h.settings_are

-- without a link
--
-- nothing that the turn brought is a cause
calm_rests : (b : Book) (t : TurnState) → Tied b t → t.life ≡ Resting → t.shut ≡ false → is_caused b ≡ false
calm_rests b t h rests runs =
    let life : TiedLife (b.link t.link) b.created Resting = subst (TiedLife (b.link t.link) b.created) rests h.life in
    none_caused b (ap (λ l. (b.link l).end) h.numbers.current_is ∙ life.2) (h.calm (ap has_ended rests) runs)

-- no generation begins behind the first
pub rests_generated : (b : Book) (t : TurnState) → Tied b t → t.life ≡ Resting → b.generation ≢ 0 → generation_due b ≡ false
rests_generated b t h rests some = by_shut t.shut refl
  where
    first : Bool
    first = if b.generation == 0 then begins_first b else is_caused b

    last_false : (x y z : Bool) → z ≡ false → (x && (y && z)) ≡ false
    last_false true true z e = e
    last_false true false z e = refl
    last_false false y z e = refl

    by_shut : (x : Bool) → t.shut ≡ x → generation_due b ≡ false
    by_shut true e = last_false (has_generations b) (not b.failed) (not b.shut && first) (ap (λ s. not s && first) (h.numbers.shut ∙ e))
    by_shut false e =
        last_false (has_generations b) (not b.failed) (not b.shut && first)
        (ap (λ s. not s && first) (h.numbers.shut ∙ e) ∙ left_if (b.generation == 0) (begins_first b) (is_caused b) (ne_test b.generation 0 some) ∙ calm_rests b t h rests e)

-- nor is a link asked for while it waits
pub rests_comes : (b : Book) (t : TurnState) (timer : ℕ) → Tied b t → t.life ≡ Resting → has_generations b ≡ true → b.generation ≢ 0 → b.rest ≡ Some timer → NoneComes b
rests_comes b t timer h rests has some waits = (
  rests_generated b t h rests some,
  taken_if (has_generations b) (nat_lt 0 b.generation && (not (current_link b).asked && (is_none b.rest && not b.shut))) (b.links == 0) has
      ∙ ap (λ (o : Option ℕ). nat_lt 0 b.generation && (not (current_link b).asked && (is_none o && not b.shut))) waits ∙ third_false (nat_lt 0 b.generation) (not (current_link b).asked),
)
  where
    third_false : (x y : Bool) → (x && (y && false)) ≡ false
    third_false true true = refl
    third_false true false = refl
    third_false false y = refl

-- one that rests, of which nothing is to be answered or told
pub record IsResting (trace : List Action) (t : TurnState) : Type 0 where
  pub sound : Sound trace t
  pub ended : NoneEnds (book trace)
  pub rests : t.life ≡ Resting
  pub settled : t.pending ≡ []
  pub nobody : t.admitted ≡ []
  pub told : IsToldIn t

-- behind an attempt that failed
--
-- the timer of the wait may stand
rest_may : (b : Book) (t : TurnState) (g : Generations) (timer ms number : ℕ) → AfterFailedAttempt b t → IsShown b → t.manager ≡ Some g → timer ≡ length t.timers → number ≡ g.number → ms ≡ backoff g.settings g.attempt (word_of b.running) → MayRest b timer ms (purpose.Backoff number)
rest_may b t g timer ms number h shown is next same long =
    let k = comes_so b.config b.generation b.attempt t.manager g is h.numbers.comes_back in
    record {
      shown = shown;
      due = both (has_generations b) (is_attempt (current_link b).end) (has_some b.config b.generation b.attempt g k) (ap (λ l. is_attempt (b.link l).end) h.numbers.current_is ∙ h.attempted);
      settings = g.settings;
      set = k.settings_are;
      next = next ∙ ap length (sym h.numbers.timers);
      long = long ∙ ap (λ n. backoff g.settings n (word_of b.running)) (sym k.attempt_is);
      is_for = ap purpose.Backoff (same ∙ sym k.number_is);
    }
  where
    both : (x y : Bool) → x ≡ true → y ≡ true → (x && y) ≡ true
    both true y e f = f
    both false y e f = cc

-- and then the session rests
pub rests_on : (trace : List Action) (t : TurnState) (g : Generations) (timer ms number : ℕ) → AllStand blank_book trace → AfterFailedAttempt (book trace) t → IsShown (book trace) → t.manager ≡ Some g → timer ≡ length t.timers → number ≡ g.number → ms ≡ backoff g.settings g.attempt (word_of (book trace).running)
    → IsResting (trace ++ action.Timer timer ms (purpose.Backoff number) ∷ []) (at_rest (rested_in t number g.attempt timer))
rests_on trace t g timer ms number stands h shown is next same long =
    let b = book trace in
    let a = action.Timer timer ms (purpose.Backoff number) in
    let k = comes_so b.config b.generation b.attempt t.manager g is h.numbers.comes_back in
    let tied : Tied (entered b a) (at_rest (rested_in t number b.attempt timer)) = rest_tied (entered b a) (rested_in t number b.attempt timer) (rests_tied b t timer ms number h (is_past trace stands).behind) in
    record {
      sound = sound_more trace a (at_rest (rested_in t number g.attempt timer)) stands (inl (inr (rest_may b t g timer ms number h shown is next same long)))
          (subst (λ n. Tied (entered b a) (at_rest (rested_in t number n timer))) k.attempt_is tied);
      ended = subst NoneEnds (sym (book_more trace a)) shown.ended;
      rests = refl;
      settled = refl;
      nobody = refl;
      told = (refl, refl);
    }

-- a generation
--
-- it may begin where it is due
generation_may : (b : Book) (t : TurnState) (g : Generations) (number : ℕ) → Tied b t → IsShown b → t.manager ≡ Some g → number ≡ g.number + 1 → generation_due b ≡ true → MayGenerate b number
generation_may b t g number h shown is next due = record { shown = shown; rested = none_rests b t h; due = due; next = next ∙ ap (λ n. n + 1) (sym (manager_is b t g is h).number_is) }

-- and then the session has no link
pub generates_on : (trace : List Action) (t : TurnState) (g : Generations) (number : ℕ) → Sound trace t → IsShown (book trace) → t.manager ≡ Some g → number ≡ g.number + 1 → generation_due (book trace) ≡ true → Tied (entered (book trace) (action.Generation number)) (at_rest (begun_in t number))
    → IsResting (trace ++ action.Generation number ∷ []) (at_rest (begun_in t number))
generates_on trace t g number h shown is next due begun =
    let b = book trace in
    let a = action.Generation number in
    record {
      sound = sound_more trace a (at_rest (begun_in t number)) h.stands (generation_may b t g number h.tied shown is next due) begun;
      ended = subst NoneEnds (sym (book_more trace a)) shown.ended;
      rests = refl;
      settled = refl;
      nobody = refl;
      told = (refl, refl);
    }

-- a link
--
-- it is to be asked for
link_is_due : (b : Book) (t : TurnState) → Tied b t → t.life ≡ Resting → has_generations b ≡ true → b.generation ≢ 0 → b.rest ≡ None → t.shut ≡ false → link_due b ≡ true
link_is_due b t h rests has some awake runs =
    let life : TiedLife (b.link t.link) b.created Resting = subst (TiedLife (b.link t.link) b.created) rests h.life in
    let unasked : (current_link b).asked ≡ false = ap (λ l. (b.link l).asked) h.numbers.current_is ∙ life.0 in
    taken_if (has_generations b) (nat_lt 0 b.generation && (not (current_link b).asked && (is_none b.rest && not b.shut))) (b.links == 0) has
    ∙ (λ i. above b.generation some i && (not (unasked i) && (is_none (awake i) && not ((h.numbers.shut ∙ runs) i))))
  where
    above : (n : ℕ) → n ≢ 0 → nat_lt 0 n ≡ true
    above n other = lt_test 0 n (omega (arith, other))

-- no session that comes back hears messages, or has its server put into monitor mode
none_messages : (config : Config) (s : ConnectionManagerConfig) → manager_of config ≡ Some s → (hears_messages (hearing_of config) ≡ false) × (is_watching (hearing_of config) ≡ false)
none_messages (variant.Single address connection) s e = cc
none_messages (variant.Manager lazy address connection manager) s e = by_push (unwrap_or connection.push false)
  where
    by_push : (x : Bool) → (hears_messages (hearing_for kind.Single x) ≡ false) × (is_watching (hearing_for kind.Single x) ≡ false)
    by_push true = (refl, refl)
    by_push false = (refl, refl)
none_messages (variant.PubSub address) s e = cc
none_messages (variant.Monitor address) s e = cc

comes_unheard : (config : Option Config) (s : ConnectionManagerConfig) → settings_in config ≡ Some s → (hears_messages (hearing_in config) ≡ false) × (is_watching (hearing_in config) ≡ false)
unfolding settings_in
comes_unheard None s e = cc
comes_unheard (Some config) s e = none_messages config s e

-- it may be, and is
pub dials_on : (trace : List Action) (t : TurnState) (g : Generations) (timer : ℕ) → IsResting trace t → t.manager ≡ Some g → g.number ≢ 0 → (book trace).rest ≡ None → HasInformed (book trace) g.subscribed → t.shut ≡ false → timer ≡ length t.timers → IsHarmless ((book trace).link t.link).heard
    → (let bound = g.settings.connection.connection_timeout in
    Sound (trace ++ action.Connect t.link g.info.host g.info.port ∷ connect_timed t.link timer bound) (dialled_in t (is_last g.settings g.attempt) (repeat_for g) (t.timers ++ connect_purposes t.link bound)) × NoneEnds (book (trace ++ action.Connect t.link g.info.host g.info.port ∷ connect_timed t.link timer bound)))
dials_on trace t g timer h is some awake informed runs next harmless = by_bound g.settings.connection.connection_timeout refl
  where
    b : Book
    b = book trace

    tied : Tied b t
    tied = h.sound.tied

    k : ComesBack b.config b.generation b.attempt g
    k = manager_is b t g is tied

    has : has_generations b ≡ true
    has = has_some b.config b.generation b.attempt g k

    begun : b.generation ≢ 0
    begun none = some (sym k.number_is ∙ none)

    last : Bool
    last = is_last g.settings g.attempt

    a : Action
    a = action.Connect t.link g.info.host g.info.port

    down : TiedLife (b.link t.link) b.created Resting
    down = subst (TiedLife (b.link t.link) b.created) h.rests tied.life

    can : CanDial b t last (repeat_for g)
    can = record {
      tied = tied;
      rests = h.rests;
      settled = h.settled;
      nobody = h.nobody;
      config = k.whole;
      told = k.told;
      sound = k.sound;
      begun = subst (λ (m : Option Generations). is_begun m ≡ true) (sym is) (ap not (ne_test g.number 0 some));
      last_is = λ i. last_in (k.settings_are i) (k.attempt_is i);
      unended = unended_over trace t.link down.1 down.2;
      unwatched = sym (ap is_watching tied.notices.heard_is) ∙ (comes_unheard b.config g.settings k.settings_are).1;
      again_is = subst (λ m. RepeatsNext (repeats_in m b.tracked) b.tracked (repeat_for g)) (sym k.settings_are) (repeats_next g b.tracked informed.held);
    }

    may : MayConnect b t.link g.info.host g.info.port
    may = record {
      shown = shown_resting b t tied (λ shut. absurd (not_both t.shut runs shut)) h.settled h.told h.rests h.nobody h.ended;
      rested = none_rests b t tied;
      generated = rests_generated b t tied h.rests begun;
      due = link_is_due b t tied h.rests has begun awake runs;
      config = k.whole;
      told = k.told;
      sound = k.sound;
      next = sym (subst (HasCourse (b.link t.link).last (b.link t.link).end t.links t.link t.shut t.manager t.last t.opened t.info t.address) h.rests tied.course).0 ∙ sym tied.numbers.links;
      info = g.info;
      configured = k.at;
      address = (refl, refl);
    }

    ends : NoneEnds (entered b a)
    ends m = chosen (λ (ls : List Line). ending (noted_each (b.link m) ls) ≡ None) (t.link == m) (asks_line b ∷ []) []
        (λ e. subst (λ n. ending (noted (b.link n) (asks_line b)) ≡ None) (eq_from t.link m e)
        (asked_ends_not (b.link t.link) (info_in b.config) (wanted_in b.config) (hearing_in b.config) (last_in (settings_in b.config) b.attempt) (repeats_in (settings_in b.config) b.tracked) down.1 (comes_unheard b.config g.settings k.settings_are).0 harmless))
        (λ e. h.ended m)

    -- once it is, and its timer
    behind : (timers : List Purpose) (timed : ℕ) → AreAimed timers t.link (length t.table) → IsTimed (dialled_book b t.link g.info.host g.info.port timers timed) → Tied (dialled_book b t.link g.info.host g.info.port timers timed) (dialled_in t last (repeat_for g) timers)
    behind timers timed = dials_tied b t g.info.host g.info.port last (repeat_for g) timers timed can

    -- all is shown then
    applied : (timers : List Purpose) (timed : ℕ) → Tied (dialled_book b t.link g.info.host g.info.port timers timed) (dialled_in t last (repeat_for g) timers) → IsApplied (dialled_book b t.link g.info.host g.info.port timers timed)
    applied timers timed now = applied_up (dialled_book b t.link g.info.host g.info.port timers timed) (dialled_in t last (repeat_for g) timers) now h.settled h.told refl refl ends

    same_config : (x y : Config) → Some x ≡ Some y → x ≡ y
    same_config x y e = cc

    -- how long a connect may take, as the configuration says
    bound_is : (config : Config) → b.config ≡ Some config → connect_timeout config ≡ g.settings.connection.connection_timeout
    bound_is config told = ap connect_timeout (same_config config k.whole (sym told ∙ k.told)) ∙ k.bounded

    by_bound : (bound : Option ℕ) → g.settings.connection.connection_timeout ≡ bound
        → Sound (trace ++ a ∷ connect_timed t.link timer bound) (dialled_in t last (repeat_for g) (t.timers ++ connect_purposes t.link bound)) × NoneEnds (book (trace ++ a ∷ connect_timed t.link timer bound))
    by_bound None e =
        let now : Tied (dialled_book b t.link g.info.host g.info.port t.timers b.timed) (dialled_in t last (repeat_for g) t.timers) =
        behind t.timers b.timed tied.numbers.aims (λ config told some. absurd (some (bound_is config told ∙ e))) in
        let same : dialled_book b t.link g.info.host g.info.port t.timers b.timed ≡ entered b a = λ i. dialled_book b t.link g.info.host g.info.port (sym tied.numbers.timers i) b.timed in (
          sound_more trace a (dialled_in t last (repeat_for g) (t.timers ++ [])) h.sound.stands may (subst (λ ts. Tied (entered b a) (dialled_in t last (repeat_for g) ts)) (sym (append-nil t.timers)) (subst (λ (x : Book). Tied x (dialled_in t last (repeat_for g) t.timers)) same now)),
          subst NoneEnds (sym (book_more trace a)) ends,
        )
    by_bound (Some ms) e =
        let c = action.Timer timer ms (purpose.Connect t.link) in
        let ts = t.timers ++ purpose.Connect t.link ∷ [] in
        let now : Tied (dialled_book b t.link g.info.host g.info.port ts (b.timed + 1)) (dialled_in t last (repeat_for g) ts) =
        behind ts (b.timed + 1)
        (λ n what i. elim (get_more t.timers (purpose.Connect t.link) n what i) [
          | inl old ↦ tied.numbers.aims n what old
          | inr new ↦ subst (λ (w : Purpose). IsAim w t.link (length t.table)) new.1 (le_refl t.link)
        ])
        (λ config told some. ap (λ n. n + 1) (tied.numbers.timed config told some)) in
        let all = applied ts (b.timed + 1) now in
        let d : Book = entered b a in
        let timed : MayTimeConnect d timer ms (purpose.Connect t.link) = record {
          shown = record { answered = all.shown.answered; ended = all.shown.ended; created = record { lazy = all.shown.created.lazy; shown = all.shown.created.shown; failed = all.shown.created.failed }; pushed = all.shown.pushed; parted = all.shown.parted; sourced = all.shown.sourced };
          rested = all.rested;
          generated = all.generated;
          linked = all.linked;
          due = (let before = tied.numbers.timed k.whole k.told (λ none. absurd (some_bound ms (sym e ∙ sym k.bounded ∙ none))) in omega (arith, before));
          config = k.whole;
          told = k.told;
          bounded = k.bounded ∙ e;
          next = next ∙ ap length (sym tied.numbers.timers);
          is_for = refl;
        } in
        let same : record (dialled_book b t.link g.info.host g.info.port ts (b.timed + 1)) { placed = (entered d c).placed; since = d.since } ≡ entered d c =
        λ i. record (dialled_book b t.link g.info.host g.info.port (sym tied.numbers.timers i ++ purpose.Connect t.link ∷ []) (b.timed + 1)) { placed = (entered d c).placed; since = d.since } in
        let first : book (trace ++ a ∷ []) ≡ d = book_more trace a in
        let whole : (trace ++ a ∷ []) ++ c ∷ [] ≡ trace ++ a ∷ c ∷ [] = append_assoc trace (a ∷ []) (c ∷ []) in
        let stands : AllStand blank_book (trace ++ a ∷ []) = all_stand-append trace (a ∷ []) h.sound.stands (may, tt) in
        subst (λ (x : List Action). Sound x (dialled_in t last (repeat_for g) ts) × NoneEnds (book x)) whole (
          sound_more (trace ++ a ∷ []) c (dialled_in t last (repeat_for g) ts) stands (subst (λ (x : Book). MayStand x c) (sym first) (inl (inl timed)))
              (subst (λ (x : Book). Tied (entered x c) (dialled_in t last (repeat_for g) ts)) (sym first) (subst (λ (x : Book). Tied x (dialled_in t last (repeat_for g) ts)) same (replaced (dialled_book b t.link g.info.host g.info.port ts (b.timed + 1)) (dialled_in t last (repeat_for g) ts) (entered d c).placed d.since now))),
          subst NoneEnds (sym (book_more (trace ++ a ∷ []) c)) (subst (λ (x : Book). NoneEnds (entered x c)) (sym first) ends),
        )
      where
        some_bound : (n : ℕ) → Some n ≡ None → ⊥
        some_bound n none = cc
