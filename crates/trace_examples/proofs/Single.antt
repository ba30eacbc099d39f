-- Books of traces with any configuration: where a command came the session is a multiplexed connection, which hears pushes or
-- nothing, and where its link was up at once nothing is said to its server.
use Rattle.std.proofs.Common.{◌≡◌, ℕ, ◌==◌, zero, suc, ℤ, pos, negsuc, Bool, true, false, ◌&&◌, List, [], ◌∷◌, ◌++◌, Option, Some, None, drop, refl, sym, ap, ◌∙◌, subst}
use Rattle.containers.proofs.Choices.{not_both}
use Rattle.connection_info.specs.declared.address.RedisConnectionInfo.{RedisConnectionInfo}
use Rattle.connection_info.specs.declared.protocol.ProtocolVersion.{ProtocolVersion}
use Rattle.connection_info.specs.declared.protocol.ProtocolVersion.TheVariants.{RESP2, RESP3}
use Rattle.connection_setup.specs.Setup.{setup}
use Rattle.driver_model.specs.declared.action.Action.{Action}
use Rattle.driver_model.specs.declared.config.Config.{Config}
use Rattle.driver_model.specs.declared.event.Event.{Event}
use Rattle.driver_model.specs.declared.event.EventKind.TheVariants as event
use Rattle.driver_model.specs.declared.event.Submission.{Submission}
use Rattle.driver_model.specs.declared.hearing.Hearing.{Hearing}
use Rattle.driver_model.specs.declared.hearing.Hearing.TheVariants as hearing
use Rattle.driver_model.specs.declared.kind.SessionKind.{SessionKind}
use Rattle.driver_model.specs.declared.kind.SessionKind.TheVariants as kind
use Rattle.driver_model.specs.declared.outcome.Outcome.{Outcome}
use Rattle.driver_model.specs.declared.outcome.Outcome.TheVariants as outcome
use Rattle.redis_error.specs.declared.redis_error.RedisError.{RedisError}
use Rattle.driver_model.specs.Config.{kind_of, wants_pushes, bare_info, told_info, wants_credentials, heard_on, hearing_in, hearing_of}
use Rattle.driver_model.specs.Hearing.{is_watching}
use Rattle.driver_model.specs.Kind.{is_multiplexed}
use Rattle.driver_model.specs.Request.{has_no_form, is_foreign, is_formless}
use Rattle.driver_model.specs.Setup.{says_nothing}
use Rattle.manager_config.specs.declared.config.ConnectionManagerConfig.{ConnectionManagerConfig}
use Rattle.legal_trace.specs.Events.{is_bad_event}
use Rattle.legal_trace.specs.Managers.{settings_in, is_last}
use Rattle.legal_trace.specs.Again.{repeats_in}
use Rattle.legal_trace.specs.Ledger.{blank_ledger, asks, noted_each}
use Rattle.legal_trace.specs.Book.{Book, if_mine, kind_in, entered_each}
use Rattle.legal_trace.specs.Legal.{Legal}
use Rattle.trace_examples.specs.Parts.{turn}
use Rattle.trace_examples.specs.Traces.{opening, arrived, came_up}
use Rattle.trace_examples.proofs.Stood.{IsGiven, IsSilent, book_of, may_stand, opens_alone, came_up_given, came_up_silent}

-- the book behind the opening, where this is said to the server of its link, credentials come of sources or don't, this is heard, and
-- the session comes back so, if it does
abbrev opened : Config → ℕ → RedisConnectionInfo → Bool → Hearing → Option ConnectionManagerConfig → Book
opened config word info wanted hears settings =
    record (book_of (opening config word)) { link = λ n. noted_each blank_ledger (if_mine (0 == n) (asks info wanted hears (is_last settings 0) (repeats_in settings []))) }

-- the book of a front that goes on behind it
abbrev book_as : Config → ℕ → List Action → RedisConnectionInfo → Bool → Hearing → Option ConnectionManagerConfig → Book
book_as config word front info wanted hears settings = entered_each (opened config word info wanted hears settings) (drop 2 front)

-- where it doesn't come back
abbrev pub book_from : Config → ℕ → List Action → RedisConnectionInfo → Bool → Hearing → Book
book_from config word front info wanted hears = book_as config word front info wanted hears None

-- as its configuration says all this
abbrev pub book_said : Config → ℕ → List Action → Book
book_said config word front = book_as config word front (told_info config) (wants_credentials config) (hearing_of config) (settings_in (Some config))

-- what holds of the book of one that doesn't come back holds of the one that its configuration says
pub of_alone : (config : Config) (word : ℕ) (front : List Action) (P : Book → Type 0) → settings_in (Some config) ≡ None
    → P (book_from config word front (told_info config) (wants_credentials config) (hearing_of config)) → P (book_said config word front)
of_alone config word front P alone h = subst (λ s. P (book_as config word front (told_info config) (wants_credentials config) (hearing_of config) s)) (sym alone) h

-- where a link of publish/subscribe has no such submission, a session that has it is a multiplexed connection
multiplexed_has : (k : SessionKind) (what : Submission) → is_foreign what ≡ true → has_no_form k what ≡ false → is_multiplexed k ≡ true
multiplexed_has kind.Single what foreign formed = refl
multiplexed_has (kind.Manager lazy) what foreign formed = refl
multiplexed_has kind.PubSub what foreign formed = absurd (not_both (is_foreign what) formed foreign)
multiplexed_has kind.Monitor what foreign formed = cc formed

-- what has no form in either has none in any session
pub no_session_has : (k : SessionKind) (what : Submission) → is_formless what ≡ true → is_foreign what ≡ true → has_no_form k what ≡ false → ⊥
no_session_has kind.Single what formless foreign formed = not_both (is_formless what) formed formless
no_session_has (kind.Manager lazy) what formless foreign formed = not_both (is_formless what) formed formless
no_session_has kind.PubSub what formless foreign formed = not_both (is_foreign what) formed foreign
no_session_has kind.Monitor what formless foreign formed = cc formed

-- a session to which such a submission was handed in is a multiplexed connection
pub multiplexed_behind : (config : Config) (word : ℕ) (events : List Event) (front after : List Action) (k : ℕ) (what : Submission) → (book_of front).config ≡ Some config → is_foreign what ≡ true
    → Legal config word events (front ++ turn k (event.Submit what) ∷ after) → is_multiplexed (kind_of config) ≡ true
unfolding is_bad_event
multiplexed_behind config word events front after k what same foreign h =
    let m = may_stand config word events front after (turn k (event.Submit what)) h in
    multiplexed_has (kind_of config) what foreign (ap (λ c. has_no_form (kind_in c) what) (sym same) ∙ m.is_for.2)

-- what holds where nothing is heard, and where pushes are, holds on a multiplexed connection
of_heard : (P : Hearing → Type 0) (pushes : Bool) → P hearing.Nothing → P hearing.Pushes → P (heard_on pushes)
of_heard P true none some = some
of_heard P false none some = none

of_hearing : (P : Hearing → Type 0) (k : SessionKind) (pushes : Bool) → is_multiplexed k ≡ true → P hearing.Nothing → P hearing.Pushes → P (hearing_in k pushes)
of_hearing P kind.Single pushes is none some = of_heard P pushes none some
of_hearing P (kind.Manager lazy) pushes is none some = of_heard P pushes none some
of_hearing P kind.PubSub pushes is none some = absurd (cc)
of_hearing P kind.Monitor pushes is none some = absurd (cc)

-- its server isn't put into monitor mode
pub unwatched : (config : Config) → is_multiplexed (kind_of config) ≡ true → is_watching (hearing_of config) ≡ false
unwatched config is = of_hearing (λ h. is_watching h ≡ false) (kind_of config) (wants_pushes config) is refl refl

-- what holds of both books holds of the one that its configuration says
pub of_multiplexed : (config : Config) (word : ℕ) (front : List Action) (P : Book → Type 0) → is_multiplexed (kind_of config) ≡ true → settings_in (Some config) ≡ None
    → P (book_from config word front (told_info config) (wants_credentials config) hearing.Nothing)
    → P (book_from config word front (told_info config) (wants_credentials config) hearing.Pushes)
    → P (book_said config word front)
of_multiplexed config word front P is alone none some =
    of_alone config word front P alone (of_hearing (λ h. P (book_from config word front (told_info config) (wants_credentials config) h)) (kind_of config) (wants_pushes config) is none some)

-- nothing is said to a server, where perhaps a user has a name
abbrev pub silent_as : Option (List ℕ) → RedisConnectionInfo
silent_as name = record bare_info { username = name }

-- where nothing is said, this is all that there is
silent_parts : (db : ℤ) (username password : Option (List ℕ)) (protocol : ProtocolVersion) (skip : Bool)
    → says_nothing (setup (record { db = db; username = username; password = password; protocol = protocol; skip_set_lib_name = skip }) true) ≡ true
    → record { db = db; username = username; password = password; protocol = protocol; skip_set_lib_name = skip } ≡ silent_as username
silent_parts (pos zero) username None RESP2 true e = refl
silent_parts (pos zero) username None RESP2 false e = cc e
silent_parts (pos (suc n)) username None RESP2 skip e = cc e
silent_parts (negsuc n) username None RESP2 skip e = cc e
silent_parts db username None RESP3 skip e = cc e
silent_parts db None (Some password) RESP2 skip e = cc e
silent_parts db None (Some password) RESP3 skip e = cc e
silent_parts db (Some name) (Some password) RESP2 skip e = cc e
silent_parts db (Some name) (Some password) RESP3 skip e = cc e

-- so of any server
silent_info : (info : RedisConnectionInfo) → says_nothing (setup info true) ≡ true → info ≡ silent_as info.username
silent_info info e = silent_parts info.db info.username info.password info.protocol info.skip_set_lib_name e

-- credentials aren't wanted
unwanted : (wanted : Bool) → (wanted && true) ≡ false → wanted ≡ false
unwanted true e = cc e
unwanted false e = refl

-- so it is of a link that was up at once
pub of_silent : (config : Config) (word : ℕ) (front : List Action) (P : Book → Type 0) → is_multiplexed (kind_of config) ≡ true → settings_in (Some config) ≡ None → IsSilent config → IsGiven config
    → ((name : Option (List ℕ)) → P (book_from config word front (silent_as name) false hearing.Nothing))
    → ((name : Option (List ℕ)) → P (book_from config word front (silent_as name) false hearing.Pushes))
    → P (book_said config word front)
of_silent config word front P is alone silent given none some =
    let info = told_info config in
    let said : info ≡ silent_as info.username = silent_info info silent in
    let bare : wants_credentials config ≡ false = unwanted (wants_credentials config) given in
    let Q : Hearing → Type 0 = λ h. P (book_from config word front info (wants_credentials config) h) in
    let of : (h : Hearing) → ((name : Option (List ℕ)) → P (book_from config word front (silent_as name) false h)) → Q h = λ h p.
    subst (λ w. P (book_from config word front info w h)) (sym bare) (subst (λ i. P (book_from config word front i false h)) (sym said) (p info.username)) in
    of_multiplexed config word front P is alone (of hearing.Nothing none) (of hearing.Pushes some)

-- and of one on which such a submission came then
pub of_arrived : (config : Config) (word : ℕ) (events : List Event) (front after : List Action) (what : Submission) (P : Book → Type 0) → is_foreign what ≡ true
    → Legal config word events (arrived config word what ++ after)
    → ((name : Option (List ℕ)) → P (book_from config word front (silent_as name) false hearing.Nothing))
    → ((name : Option (List ℕ)) → P (book_from config word front (silent_as name) false hearing.Pushes))
    → P (book_said config word front)
of_arrived config word events front after what P foreign h none some =
    of_silent config word front P (multiplexed_behind config word events (came_up config word) after 2 what refl foreign h) (opens_alone config word events _ h)
    (came_up_silent config word events (turn 2 (event.Submit what) ∷ after) h) (came_up_given config word events (turn 2 (event.Submit what) ∷ after) h) none some

-- none is not some, nor is some none
pub none_is_some : (o : Outcome) → None ≡ Some o → ⊥
none_is_some o e = cc e

pub some_is_none : (o : Outcome) → Some o ≡ None → ⊥
some_is_none o e = cc e

-- an outcome with another error than the one that it has
pub other_fault : (is said : RedisError) → (is ≡ said → ⊥) → Some (outcome.Fault is) ≡ Some (outcome.Fault said) → ⊥
other_fault is said apart e = apart (same_error is said e)
  where
    same_error : (x y : RedisError) → Some (outcome.Fault x) ≡ Some (outcome.Fault y) → x ≡ y
    same_error x y e = cc e
