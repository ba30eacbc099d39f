-- How often a generation tries to connect.
use Rattle.std.proofs.Common.{◌≡◌, ◌⊎◌, inl, inr, ℕ, ◌+◌, ◌-◌, ◌<◌, ◌≤◌, ◌==◌, Bool, true, false, ◌&&◌, not, List, [], ◌∷◌, ◌++◌, take, Option, Some, None, is_some, if◌then◌else◌, refl, sym, ◌∙◌, ap, subst, arith}
use Rattle.containers.proofs.Choices.{chosen, left_if, eq_test, not_le_from, not_both, both_right}
use Rattle.redis_error.specs.declared.redis_error.RedisError.{RedisError}
use Rattle.redis_error.specs.declared.redis_error.RedisError.TheVariants as error
use Rattle.manager_config.specs.declared.config.ConnectionManagerConfig.{ConnectionManagerConfig}
use Rattle.driver_model.specs.declared.config.Config.{Config}
use Rattle.driver_model.specs.declared.action.Action.{Action}
use Rattle.driver_model.specs.declared.action.Action.TheVariants as action
use Rattle.driver_model.specs.declared.action.Cause.TheVariants as cause
use Rattle.driver_model.specs.declared.action.Purpose.{Purpose}
use Rattle.driver_model.specs.declared.action.Purpose.TheVariants as purpose
use Rattle.driver_model.specs.declared.news.LinkFault.TheVariants as fault
use Rattle.driver_model.specs.Hearing.{felt, hears_messages}
use Rattle.driver_model.specs.News.{News, connected, refused, took, came, authorized, denied, deserted, renewed, unrenewed, late, dropped, news_of, unrepeated}
use Rattle.legal_trace.specs.Ledger.{Ledger, Line, Ending, by_fault, by_opening, lasting, asks, hears, begins, offers, tells, ends, parts, sources, times, noted, noted_each, with_news, refused_in, bytes_came, is_over, dials, lacks_credentials, awaits_credentials, authorized_by, may_renew, renewed_by, unrenewed_by, is_renewal_open, lost_by, is_set_up, setup_result, error_in, is_unreadable, opening_error, ending, ending_up, ending_unready, ending_asked, ending_alive, ending_by, ending_or_shutdown, repeats_timed, is_repeating, unrepeated_by}
use Rattle.legal_trace.specs.Managers.{settings_in, is_last}
use Rattle.legal_trace.specs.Book.{Book, blank_book, book, entered, entered_each, has_generations, if_mine, info_in, wanted_in, hearing_in, message_of, is_rest}
use Rattle.legal_trace.specs.Legal.{MayStand, MayTimer, MayRest, MayGenerate, MayConnect, AllStand, current_link, is_by_attempt, is_attempt}
use Rattle.legal_trace.specs.Again.{repeats_in}
use Rattle.legal_trace.proofs.Clocks.{timer_rests, timer_tells}
use Rattle.legal_trace.proofs.Ledgers.{mine_keeps}
use Rattle.legal_trace.proofs.Came.{holds_bytes}
use Rattle.legal_laws.specs.Generations.{attempts_behind}
use Rattle.legal_laws.proofs.Links.Ended.{some_end}
use Rattle.legal_laws.proofs.Generations.Lives.{attempt_is_over, due_link_is_next}
use Rattle.legal_laws.proofs.Traces.Numbers.{over_is_numbered}
use Rattle.legal_laws.proofs.Notices.Pushed.{push_keeps, tell_keeps}
use Rattle.legal_laws.proofs.Traces.Ranks.{generations_began}
use Rattle.legal_laws.proofs.Traces.Sound.{Sound, stays_sound, blank_is_sound}

-- what ends a link is no attempt by itself
abbrev NoAttempt : Option Ending → Type 0
NoAttempt o = is_by_attempt (ending_or_shutdown o) ≡ false

-- not on a link that is up and set up
up_is_none : (l : Ledger) (news : News) → NoAttempt (ending_up l news)
up_is_none l (came piece) = chosen NoAttempt (is_unreadable l) (Some (by_fault (felt l.hearing fault.Parse))) None (λ t. refl) (λ f. refl)
up_is_none l dropped = chosen NoAttempt (hears_messages l.hearing) (Some (by_fault fault.Ended)) None (λ t. refl) (λ f. refl)
up_is_none l _ = refl

-- nor on one that isn't set up
unready_is_none : (l : Ledger) (news : News) → NoAttempt (ending_unready l news)
unready_is_none l (came piece) = chosen NoAttempt (is_unreadable l) (Some (by_opening (opening_error l fault.Parse))) None (λ t. refl) (λ f. refl)
unready_is_none l dropped = chosen NoAttempt (hears_messages l.hearing) (Some (by_opening error.Closed)) None (λ t. refl) (λ f. refl)
unready_is_none l (denied text) = chosen NoAttempt (lacks_credentials l) (Some (by_opening (error.Credentials text))) None (λ t. refl) (λ f. refl)
unready_is_none l deserted = chosen NoAttempt (lacks_credentials l) (Some (by_opening (error.AuthFailed []))) None (λ t. refl) (λ f. refl)
unready_is_none l _ = refl

-- nor on one whose connect isn't answered
asked_is_none : (l : Ledger) (news : News) → NoAttempt (ending_asked l news)
asked_is_none l dropped = chosen NoAttempt (hears_messages l.hearing) (Some (by_opening error.Closed)) None (λ t. refl) (λ f. refl)
asked_is_none l _ = refl

-- nor by a setup that failed
by_is_none : (failure : Option RedisError) (other : Option Ending) → NoAttempt other → NoAttempt (ending_by failure other)
by_is_none None other h = h
by_is_none (Some e) other h = refl

-- so never
ending_is_none : (l : Ledger) → NoAttempt (ending l)
ending_is_none l = chosen NoAttempt l.up (ending_alive l) (if l.asked && not (is_over l) then ending_asked l l.heard else None)
    (λ u. chosen NoAttempt (is_set_up l) (ending_up l l.heard) (ending_by (error_in (setup_result l)) (ending_unready l l.heard)) (λ t. up_is_none l l.heard) (λ f. by_is_none (error_in (setup_result l)) (ending_unready l l.heard) (unready_is_none l l.heard)))
    (λ d. chosen NoAttempt (l.asked && not (is_over l)) (ending_asked l l.heard) None (λ t. asked_is_none l l.heard) (λ f. refl))

-- so an end is one only where another attempt follows
lasting_is_last : (last : Bool) (why : Ending) → is_by_attempt why ≡ false → is_by_attempt (lasting last why) ≡ true → last ≡ false
lasting_is_last true why none is = absurd (not_both (is_by_attempt why) none is)
lasting_is_last false why none is = refl

-- of a second ledger: it was asked for as the first, and with as many attempts to follow; and where its opening was an attempt that
-- another one follows, that of the first was, or it is to be
record SameTry (l m : Ledger) : Type 0 where
  pub asked : m.asked ≡ l.asked
  pub last : m.last ≡ l.last
  pub end : is_attempt m.end ≡ true → (is_attempt l.end ≡ true) ⊎ (l.last ≡ false)

-- each is as itself
same_try : (l : Ledger) → SameTry l l
same_try l = record { asked = refl; last = refl; end = λ e. inl e }

-- so with any news
hears_try : (l : Ledger) (turn : ℕ) (news : News) → SameTry l (with_news l turn news)
hears_try l turn connected = chosen (SameTry l) (is_over l) l (record l { up = true }) (λ t. same_try l) (λ f. record { asked = refl; last = refl; end = λ e. inl e })
hears_try l turn (refused f) = chosen (SameTry l) (dials l) (refused_in l turn (error.Io f)) l (λ t. record { asked = refl; last = refl; end = λ e. inr (lasting_is_last l.last (by_opening (error.Io f)) refl e) }) (λ n. same_try l)
hears_try l turn (took count) = chosen (SameTry l) l.up (record l { taken = l.taken ++ take count l.offer; offer = [] }) l (λ t. record { asked = refl; last = refl; end = λ e. inl e }) (λ f. same_try l)
hears_try l turn (came piece) = chosen (SameTry l) l.up (bytes_came l piece) l (λ t. holds_bytes (SameTry l) l piece (λ rest strange told more. record { asked = refl; last = refl; end = λ e. inl e })) (λ f. same_try l)
hears_try l turn (authorized c) = chosen (SameTry l) (awaits_credentials l) (authorized_by l c) l (λ t. record { asked = refl; last = refl; end = λ e. inl e }) (λ f. same_try l)
hears_try l turn (renewed c) = chosen (SameTry l) (may_renew l) (renewed_by l c) l (λ t. record { asked = refl; last = refl; end = λ e. inl e }) (λ f. same_try l)
hears_try l turn unrenewed = chosen (SameTry l) l.up (unrenewed_by l) l (λ t. record { asked = refl; last = refl; end = λ e. inl e }) (λ f. same_try l)
hears_try l turn (late k) = chosen (SameTry l) (l.up && is_renewal_open l k) (lost_by l) l (λ t. record { asked = refl; last = refl; end = λ e. inl e }) (λ f. same_try l)
hears_try l turn unrepeated = chosen (SameTry l) (is_repeating l) (unrepeated_by l) l (λ t. record { asked = refl; last = refl; end = λ e. inl e }) (λ f. same_try l)
hears_try l turn _ = same_try l

-- and in a turn of it
turn_try : (l : Ledger) (turn : ℕ) (news : News) → SameTry l (noted l (hears turn news))
turn_try l turn news = let k = hears_try l turn news in record { asked = k.asked; last = k.last; end = k.end }

-- where a line changes nothing of this
plain_try : (l m : Ledger) → m.asked ≡ l.asked → m.last ≡ l.last → m.end ≡ l.end → SameTry l m
plain_try l m asked last end = record { asked = asked; last = last; end = λ e. inl (sym (ap is_attempt end) ∙ e) }

-- an action asks for a link
abbrev Connects : Action → Type 0
Connects (action.Connect l host port) = Unit {0}
Connects _ = ⊥

-- so each other action leaves each link
action_try : (b : Book) (a : Action) (l : ℕ) → MayStand b a → (Connects a → ⊥) → SameTry (b.link l) ((entered b a).link l)
action_try b (action.Turn k (cause.Opening config word)) l may other = same_try (b.link l)
action_try b (action.Turn k (cause.Event e)) l may other = turn_try (b.link l) k (news_of b.timers b.sources l e.kind)
action_try b (action.Connect m host port) l may other = absurd (other tt)
action_try b (action.Timer t ms what) l may other = timer_tells (SameTry (b.link l)) (b.link l) l what (λ on k is e. plain_try (b.link l) (noted (b.link l) times) refl refl refl) (λ on is e. plain_try (b.link l) (noted (b.link l) repeats_timed) refl refl refl) (same_try (b.link l))
action_try b (action.Took who m count) l may other = same_try (b.link l)
action_try b (action.Push m info) l may other =
    push_keeps (SameTry (b.link l)) (m == l) info.kind (b.link l) (plain_try (b.link l) (noted (b.link l) tells) refl refl refl) (plain_try (b.link l) (noted (b.link l) parts) refl refl refl) (same_try (b.link l))
action_try b (action.Message msg) l may other = tell_keeps (SameTry (b.link l)) (b.current == l) (b.link l) (plain_try (b.link l) (noted (b.link l) tells) refl refl refl) (same_try (b.link l))
action_try b (action.Monitor v) l may other = tell_keeps (SameTry (b.link l)) (b.current == l) (b.link l) (plain_try (b.link l) (noted (b.link l) tells) refl refl refl) (same_try (b.link l))
action_try b (action.NeedCreds c m) l may other = mine_keeps (SameTry (b.link l)) (m == l) (b.link l) sources (λ e. plain_try (b.link l) (noted (b.link l) sources) refl refl refl) (same_try (b.link l))
action_try b (action.Generation g) l may other = same_try (b.link l)
action_try b (action.Round who m) l may other = same_try (b.link l)
action_try b (action.Close m) l may other =
    mine_keeps (SameTry (b.link l)) (m == l) (b.link l) (ends (b.turns - 1))
    (λ t. record { asked = refl; last = refl; end = λ e. inr (lasting_is_last (b.link l).last (ending_or_shutdown (ending (b.link l))) (ending_is_none (b.link l)) e) }) (same_try (b.link l))
action_try b (action.Write m bytes) l may other = mine_keeps (SameTry (b.link l)) (m == l) (b.link l) (offers bytes) (λ e. plain_try (b.link l) (noted (b.link l) (offers bytes)) refl refl refl) (same_try (b.link l))
action_try b (action.Wait who kind) l may other = same_try (b.link l)
action_try b (action.Start m k who count len) l may other =
    mine_keeps (SameTry (b.link l)) (m == l) (b.link l) (begins (message_of b m who)) (λ e. plain_try (b.link l) (noted (b.link l) (begins (message_of b m who))) refl refl refl) (same_try (b.link l))
action_try b (action.Created e) l may other = same_try (b.link l)
action_try b (action.Outcome n o) l may other = same_try (b.link l)

-- so many attempts were asked for since the current generation began: those that failed before the one that runs, and that one, once it is
-- asked for; they are within the configuration; whether another one follows is as the configuration says; and a link whose opening was
-- an attempt that another one follows says so
record Tries (b : Book) (count : ℕ) : Type 0 where
  pub counted : count ≡ b.attempt + (if (current_link b).asked then 1 else 0)
  pub within : (settings : ConnectionManagerConfig) → settings_in b.config ≡ Some settings → b.attempt ≤ settings.number_of_retries
  pub last : (current_link b).asked ≡ true → (current_link b).last ≡ is_last (settings_in b.config) b.attempt
  pub follows : is_attempt (current_link b).end ≡ true → (current_link b).last ≡ false
  pub start : b.turns ≡ 0 → b.attempt ≡ 0

-- where one follows that didn't, it was to
follows_on : (l m : Ledger) → SameTry l m → (is_attempt l.end ≡ true → l.last ≡ false) → is_attempt m.end ≡ true → m.last ≡ false
follows_on l m same h e = same.last ∙ elim (same.end e) [ inl old ↦ h old | inr follows ↦ follows ]

-- an action that leaves the current link and the count keeps it
unmoved_tries : (b : Book) (a : Action) (count : ℕ) → MayStand b a → (Connects a → ⊥) → (entered b a).current ≡ b.current → (entered b a).attempt ≡ b.attempt → (entered b a).config ≡ b.config → ((entered b a).turns ≡ 0 → b.turns ≡ 0)
    → Tries b count → Tries (entered b a) count
unmoved_tries b a count may other current attempt config turns h =
    let same : SameTry (current_link b) ((entered b a).link b.current) = action_try b a b.current may other in
    let at : (entered b a).link b.current ≡ current_link (entered b a) = ap (entered b a).link (sym current) in
    record {
      counted = h.counted ∙ (ap (λ k. k + (if (current_link b).asked then 1 else 0)) (sym attempt) ∙ ap (λ asked. (entered b a).attempt + (if asked then 1 else 0)) (sym same.asked ∙ ap (λ (l : Ledger). l.asked) at));
      within = λ settings set. subst (λ k. k ≤ settings.number_of_retries) (sym attempt) (h.within settings (sym (ap settings_in config) ∙ set));
      last = λ asked. sym (ap (λ (l : Ledger). l.last) at) ∙ (same.last ∙ (h.last (sym same.asked ∙ (ap (λ (l : Ledger). l.asked) at ∙ asked)) ∙ (ap (λ k. is_last (settings_in b.config) k) (sym attempt) ∙ ap (λ c. is_last (settings_in c) (entered b a).attempt) (sym config))));
      follows = λ e. sym (ap (λ (l : Ledger). l.last) at) ∙ follows_on (current_link b) ((entered b a).link b.current) same h.follows (ap (λ (l : Ledger). is_attempt l.end) at ∙ e);
      start = λ none. attempt ∙ h.start (turns none);
    }

-- where the current link isn't asked for, nothing is known of it
fresh_tries : (b : Book) (count : ℕ) → (current_link b).asked ≡ false → (current_link b).end ≡ None → count ≡ b.attempt → ((settings : ConnectionManagerConfig) → settings_in b.config ≡ Some settings → b.attempt ≤ settings.number_of_retries) → (b.turns ≡ 0 → b.attempt ≡ 0) → Tries b count
fresh_tries b count unasked lives counted within start = record {
  counted = counted ∙ let e : b.attempt ≡ b.attempt + 0 = omega arith in e ∙ ap (λ asked. b.attempt + (if asked then 1 else 0)) (sym unasked);
  within = within;
  last = λ asked. absurd (not_both (current_link b).asked unasked asked);
  follows = λ e. absurd (let x : false ≡ true = sym (ap is_attempt lives) ∙ e in cc x);
  start = start;
}

-- an attempt that isn't the last is below the number of retries
not_last_below : (settings : ConnectionManagerConfig) (attempt : ℕ) → is_last (Some settings) attempt ≡ false → attempt < settings.number_of_retries
not_last_below settings attempt e = not_le_from settings.number_of_retries attempt e

-- the wait behind an attempt
rest_tries : (b : Book) (t ms g count : ℕ) → MayRest b t ms (purpose.Backoff g) → Sound b → Tries b count → Tries (entered b (action.Timer t ms (purpose.Backoff g))) count
rest_tries b t ms g count may sound h =
    let attempt : is_attempt (current_link b).end ≡ true = both_right (has_generations b) (is_attempt (current_link b).end) may.due in
    let over = some_end (current_link b).end (attempt_is_over (current_link b).end attempt) in
    let asked : (current_link b).asked ≡ true = sound.links.asked b.current (over_is_numbered b b.current over.0 sound.links over.1) in
    let none = sound.links.unasked b.links (omega arith) in
    fresh_tries (entered b (action.Timer t ms (purpose.Backoff g))) count none.0 none.2
    (h.counted ∙ ap (λ x. b.attempt + (if x then 1 else 0)) asked)
    (λ settings set.
    let below : b.attempt < settings.number_of_retries = not_last_below settings b.attempt (sym (ap (λ s. is_last s b.attempt) set) ∙ (sym (h.last asked) ∙ h.follows attempt)) in
    omega (arith, below))
    (λ start. absurd (generations_began b sound (ap is_some may.set) start))

-- and any timer
timer_tries : (b : Book) (t ms : ℕ) (what : Purpose) (count : ℕ) → MayTimer b t ms what → Sound b → Tries b count → Tries (entered b (action.Timer t ms what)) count
timer_tries b t ms what count may sound h = elim (timer_rests b t ms what may) [
  | inl rest ↦ subst (λ x. Tries (entered b (action.Timer t ms x)) count) (sym rest.is_for) (rest_tries b t ms b.generation count (subst (MayRest b t ms) rest.is_for rest) sound h)
  | inr other ↦ unmoved_tries b (action.Timer t ms what) count may (λ c. c) (left_if (is_rest what) b.links b.current other) (left_if (is_rest what) (b.attempt + 1) b.attempt other) refl (λ e. e) h
]

-- a connect
connect_tries : (b : Book) (m : ℕ) (host : List ℕ) (port count : ℕ) → MayConnect b m host port → Sound b → Tries b count → Tries (entered b (action.Connect m host port)) (count + 1)
connect_tries b m host port count may sound h =
    let next : b.current ≡ b.links = due_link_is_next b sound.lives sound.links may.due in
    let none = sound.links.unasked b.current (omega (arith, next)) in
    let line : Line = asks (info_in b.config) (wanted_in b.config) (hearing_in b.config) (is_last (settings_in b.config) b.attempt) (repeats_in (settings_in b.config) b.tracked) in
    let it : (entered b (action.Connect m host port)).link m ≡ noted (b.link m) line = taken_line (m == m) (b.link m) line (eq_test m m refl) in
    let lives : (b.link m).end ≡ None = (sound.links.unasked m (omega (arith, may.next))).2 in
    record {
      counted =
          let before : count ≡ b.attempt = h.counted ∙ (ap (λ x. b.attempt + (if x then 1 else 0)) none.0 ∙ plus_none b.attempt) in
          ap (λ k. k + 1) before ∙ ap (λ x. b.attempt + (if x then 1 else 0)) (sym (ap (λ (l : Ledger). l.asked) it));
      within = h.within;
      last = λ asked. ap (λ (l : Ledger). l.last) it;
      follows = λ e. absurd (let x : false ≡ true = sym (ap is_attempt lives) ∙ (sym (ap (λ (l : Ledger). is_attempt l.end) it) ∙ e) in cc x);
      start = h.start;
    }
  where
    plus_none : (n : ℕ) → n + 0 ≡ n
    plus_none n = omega arith

    taken_line : (mine : Bool) (l : Ledger) (x : Line) → mine ≡ true → noted_each l (if_mine mine x) ≡ noted l x
    taken_line true l x e = refl
    taken_line false l x e = absurd (cc e)

-- a generation
generation_tries : (b : Book) (g : ℕ) → MayGenerate b g → Sound b → Tries (entered b (action.Generation g)) 0
generation_tries b g may sound =
    let none = sound.links.unasked b.links (omega arith) in
    fresh_tries (entered b (action.Generation g)) 0 none.0 none.2 refl (λ settings set. omega arith) (λ e. refl)

-- the opening
opening_tries : (b : Book) (k : ℕ) (config : Config) (word count : ℕ) → MayStand b (action.Turn k (cause.Opening config word)) → Sound b → Tries b count → Tries (entered b (action.Turn k (cause.Opening config word))) count
opening_tries b k config word count may sound h =
    let empty : b.links ≡ 0 = sound.opens.no_links may.is_for in
    let none = sound.links.unasked b.current (omega (arith, empty)) in
    fresh_tries (entered b (action.Turn k (cause.Opening config word))) count none.0 none.2
    (h.counted ∙ (ap (λ x. b.attempt + (if x then 1 else 0)) none.0 ∙ plus_none b.attempt))
    (λ settings set. omega (arith, h.start may.is_for)) (λ e. absurd (omega (arith, e)))
  where
    plus_none : (n : ℕ) → n + 0 ≡ n
    plus_none n = omega arith

-- how many attempts an action makes of so many
abbrev attempts_by : ℕ → Action → ℕ
attempts_by k (action.Generation g) = 0
attempts_by k (action.Connect l host port) = k + 1
attempts_by k _ = k

-- so behind each action
tries_kept : (b : Book) (a : Action) (count : ℕ) → MayStand b a → Sound b → Tries b count → Tries (entered b a) (attempts_by count a)
tries_kept b (action.Turn k (cause.Opening config word)) count may sound h = opening_tries b k config word count may sound h
tries_kept b (action.Turn k (cause.Event e)) count may sound h = unmoved_tries b (action.Turn k (cause.Event e)) count may (λ c. c) refl refl refl (λ none. absurd (omega (arith, none))) h
tries_kept b (action.Connect m host port) count may sound h = connect_tries b m host port count may sound h
tries_kept b (action.Timer t ms what) count may sound h = timer_tries b t ms what count may sound h
tries_kept b (action.Generation g) count may sound h = generation_tries b g may sound
tries_kept b (action.Round who m) count may sound h = unmoved_tries b (action.Round who m) count may (λ c. c) refl refl refl (λ e. e) h
tries_kept b (action.Took who m n) count may sound h = unmoved_tries b (action.Took who m n) count may (λ c. c) refl refl refl (λ e. e) h
tries_kept b (action.Push m info) count may sound h = unmoved_tries b (action.Push m info) count may (λ c. c) refl refl refl (λ e. e) h
tries_kept b (action.Message msg) count may sound h = unmoved_tries b (action.Message msg) count may (λ c. c) refl refl refl (λ e. e) h
tries_kept b (action.Monitor v) count may sound h = unmoved_tries b (action.Monitor v) count may (λ c. c) refl refl refl (λ e. e) h
tries_kept b (action.NeedCreds c m) count may sound h = unmoved_tries b (action.NeedCreds c m) count may (λ c. c) refl refl refl (λ e. e) h
tries_kept b (action.Close m) count may sound h = unmoved_tries b (action.Close m) count may (λ c. c) refl refl refl (λ e. e) h
tries_kept b (action.Write m bytes) count may sound h = unmoved_tries b (action.Write m bytes) count may (λ c. c) refl refl refl (λ e. e) h
tries_kept b (action.Wait who kind) count may sound h = unmoved_tries b (action.Wait who kind) count may (λ c. c) refl refl refl (λ e. e) h
tries_kept b (action.Start m k who need len) count may sound h = unmoved_tries b (action.Start m k who need len) count may (λ c. c) refl refl refl (λ e. e) h
tries_kept b (action.Created e) count may sound h = unmoved_tries b (action.Created e) count may (λ c. c) refl refl refl (λ e. e) h
tries_kept b (action.Outcome n o) count may sound h = unmoved_tries b (action.Outcome n o) count may (λ c. c) refl refl refl (λ e. e) h

-- and behind many
each_tries : (b : Book) (front : List Action) (count : ℕ) → AllStand b front → Sound b → Tries b count → Tries (entered_each b front) (attempts_behind count front)
each_tries b [] count all sound h = h
each_tries b (action.Generation g ∷ more) count all sound h = each_tries (entered b (action.Generation g)) more 0 all.1 (stays_sound b (action.Generation g) all.0 sound) (tries_kept b (action.Generation g) count all.0 sound h)
each_tries b (action.Connect m host port ∷ more) count all sound h = each_tries (entered b (action.Connect m host port)) more (count + 1) all.1 (stays_sound b (action.Connect m host port) all.0 sound) (tries_kept b (action.Connect m host port) count all.0 sound h)
each_tries b (action.Turn k c ∷ more) count all sound h = each_tries (entered b (action.Turn k c)) more count all.1 (stays_sound b (action.Turn k c) all.0 sound) (tries_kept b (action.Turn k c) count all.0 sound h)
each_tries b (action.Timer t ms what ∷ more) count all sound h = each_tries (entered b (action.Timer t ms what)) more count all.1 (stays_sound b (action.Timer t ms what) all.0 sound) (tries_kept b (action.Timer t ms what) count all.0 sound h)
each_tries b (action.Took who m n ∷ more) count all sound h = each_tries (entered b (action.Took who m n)) more count all.1 (stays_sound b (action.Took who m n) all.0 sound) (tries_kept b (action.Took who m n) count all.0 sound h)
each_tries b (action.Push m info ∷ more) count all sound h = each_tries (entered b (action.Push m info)) more count all.1 (stays_sound b (action.Push m info) all.0 sound) (tries_kept b (action.Push m info) count all.0 sound h)
each_tries b (action.Message msg ∷ more) count all sound h = each_tries (entered b (action.Message msg)) more count all.1 (stays_sound b (action.Message msg) all.0 sound) (tries_kept b (action.Message msg) count all.0 sound h)
each_tries b (action.Monitor v ∷ more) count all sound h = each_tries (entered b (action.Monitor v)) more count all.1 (stays_sound b (action.Monitor v) all.0 sound) (tries_kept b (action.Monitor v) count all.0 sound h)
each_tries b (action.NeedCreds c m ∷ more) count all sound h = each_tries (entered b (action.NeedCreds c m)) more count all.1 (stays_sound b (action.NeedCreds c m) all.0 sound) (tries_kept b (action.NeedCreds c m) count all.0 sound h)
each_tries b (action.Round who m ∷ more) count all sound h = each_tries (entered b (action.Round who m)) more count all.1 (stays_sound b (action.Round who m) all.0 sound) (tries_kept b (action.Round who m) count all.0 sound h)
each_tries b (action.Close m ∷ more) count all sound h = each_tries (entered b (action.Close m)) more count all.1 (stays_sound b (action.Close m) all.0 sound) (tries_kept b (action.Close m) count all.0 sound h)
each_tries b (action.Write m bytes ∷ more) count all sound h = each_tries (entered b (action.Write m bytes)) more count all.1 (stays_sound b (action.Write m bytes) all.0 sound) (tries_kept b (action.Write m bytes) count all.0 sound h)
each_tries b (action.Wait who kind ∷ more) count all sound h = each_tries (entered b (action.Wait who kind)) more count all.1 (stays_sound b (action.Wait who kind) all.0 sound) (tries_kept b (action.Wait who kind) count all.0 sound h)
each_tries b (action.Start m k who need len ∷ more) count all sound h = each_tries (entered b (action.Start m k who need len)) more count all.1 (stays_sound b (action.Start m k who need len) all.0 sound) (tries_kept b (action.Start m k who need len) count all.0 sound h)
each_tries b (action.Created e ∷ more) count all sound h = each_tries (entered b (action.Created e)) more count all.1 (stays_sound b (action.Created e) all.0 sound) (tries_kept b (action.Created e) count all.0 sound h)
each_tries b (action.Outcome n o ∷ more) count all sound h = each_tries (entered b (action.Outcome n o)) more count all.1 (stays_sound b (action.Outcome n o) all.0 sound) (tries_kept b (action.Outcome n o) count all.0 sound h)

-- so a generation has no more attempts than the configuration says, and the first
pub tries_within : (front : List Action) → AllStand blank_book front → (settings : ConnectionManagerConfig) → settings_in (book front).config ≡ Some settings → attempts_behind 0 front ≤ settings.number_of_retries + 1
unfolding book
tries_within front all settings set =
    let h : Tries (book front) (attempts_behind 0 front) = each_tries blank_book front 0 all blank_is_sound (fresh_tries blank_book 0 refl refl refl (λ s told. omega arith) (λ e. refl)) in
    let few : (book front).attempt ≤ settings.number_of_retries = h.within settings set in
    let one : (if (current_link (book front)).asked then 1 else 0) ≤ 1 = chosen (λ k. k ≤ 1) (current_link (book front)).asked 1 0 (λ t. omega arith) (λ f. omega arith) in
    omega (arith, few, one, h.counted)
