-- The laws of cancels, each as one statement. They speak of a history behind which submission n has started and is open.
use Rattle.std.specs.Prelude.{◌≡◌, ◌≢◌, ℕ, false, true, List, [], ◌∷◌, ◌++◌, length, Option, None}
use Rattle.driver_model.specs.declared.config.Config.{Config}
use Rattle.driver_model.specs.declared.event.Event.{Event}
use Rattle.driver_model.specs.declared.event.Submission.{Submission}
use Rattle.driver_model.specs.declared.outcome.Outcome.{Outcome}
use Rattle.driver_model.specs.Config.{hearing_of, is_lazy, manager_of, permits}
use Rattle.driver_model.specs.Hearing.{hears_messages}
use Rattle.driver_model.specs.Request.{lacks_resp3}
use Rattle.mux_conn.specs.declared.life.Life.{Life}
use Rattle.single_session.specs.Replay.{IsSound, state_after, trace_of, outcomes_in, outcome_at, is_bad_after}
use Rattle.cancel_laws.specs.ButFor.{hushed_life}
use Rattle.cancel_laws.specs.Cancels.{cancel_of, handed_in_at, handed_in_after_connect, SaysNothing, IsFree, HasStarted, GoesOn}

-- what submission m has come to behind a history, if it has come to anything
abbrev pub outcome_after : Config → ℕ → List Event → ℕ → Option Outcome
outcome_after config word events m = outcome_at (outcomes_in (trace_of config word events)) m

-- where the link is in its life behind a history
abbrev pub life_after : Config → ℕ → List Event → Life
life_after config word events = (state_after config word events).single.connection.life

-- permits aren't counted, as on each link of publish/subscribe. Where they are, the cancel of a started request gives its permits back at once, and not at its
-- reply, so that others take them earlier, and start earlier
abbrev pub HasNoLimit : Config → Type 0
HasNoLimit config = permits config ≡ None

-- the session doesn't come back. One that does may begin a new generation with the outcome of the request that was cancelled, as where its link
-- ends on RESP2, and not without it
abbrev pub HasOneLink : Config → Type 0
HasOneLink config = manager_of config ≡ None

-- its link is asked for as it opens, and not with the first request
abbrev pub ConnectsAtOnce : Config → Type 0
ConnectsAtOnce config = is_lazy config ≡ false

-- the cancel of n is not bad there
abbrev pub CancelIsGood : Type 0
CancelIsGood =
    (config : Config) (word draw n : ℕ) (before : List Event) → HasStarted n (state_after config word before)
    → is_bad_after config word before (cancel_of draw n) ≡ false

-- without a limit it changes no other submission's outcome, whatever comes after
abbrev pub OthersKeepOutcomes : Type 0
OthersKeepOutcomes =
    (config : Config) (word draw n m : ℕ) (before after : List Event) → HasOneLink config → HasNoLimit config
    → HasStarted n (state_after config word before) → m ≢ n
    → outcome_after config word (before ++ after) m ≡ outcome_after config word (before ++ cancel_of draw n ∷ after) m

-- n itself gets no outcome any more, with a limit or without
abbrev pub CancelledGetsNone : Type 0
CancelledGetsNone =
    (config : Config) (word draw n : ℕ) (before after : List Event) → HasStarted n (state_after config word before)
    → outcome_after config word (before ++ cancel_of draw n ∷ after) n ≡ outcome_after config word before n

-- without a limit the turns show the same but for n's outcome, in the same order: so each push and each
-- message stands where it stood among all other outcomes
abbrev pub TurnsGoOn : Type 0
TurnsGoOn =
    (config : Config) (word draw n : ℕ) (before after : List Event) → HasOneLink config → HasNoLimit config
    → HasStarted n (state_after config word before)
    → GoesOn config word n before (cancel_of draw n) after

-- without a limit each item goes to the same message, where n's own is not wanted
abbrev pub ItemsGoTheSameWay : Type 0
ItemsGoTheSameWay =
    (config : Config) (word draw n : ℕ) (before after : List Event) → HasOneLink config → HasNoLimit config
    → (h : HasStarted n (state_after config word before))
    → hushed_life h.pending.number (life_after config word (before ++ after))
    ≡ life_after config word (before ++ cancel_of draw n ∷ after)

-- without a limit the same events are bad
abbrev pub SameAreBad : Type 0
SameAreBad =
    (config : Config) (word draw n : ℕ) (before after : List Event) (e : Event) → HasOneLink config → HasNoLimit config
    → HasStarted n (state_after config word before)
    → is_bad_after config word (before ++ after) e ≡ is_bad_after config word (before ++ cancel_of draw n ∷ after) e

-- a submission has started where it is handed in on a link that is ready, which nothing holds back, has room, has a permit for
-- it, and speaks RESP3 where it needs that, whatever came before
abbrev pub StartsOnFreeLink : Submission → Type 0
StartsOnFreeLink s =
    (config : Config) (word draw : ℕ) (before : List Event) → IsFree (state_after config word before)
    → (let c = (state_after config word before).single.connection in lacks_resp3 c.hears c.info.protocol s ≡ false)
    → HasStarted (length (state_after config word before).table) (state_after config word (before ++ handed_in_at draw s ∷ []))

-- a submission has started where it is the first that is handed in, after the connect of the first link, which is asked for as the
-- session opens, nothing of the configuration is refused, no credentials are to come of a source, and nothing is to be said to the
-- server before it
abbrev pub StartsWhereHandedIn : Submission → Type 0
StartsWhereHandedIn s =
    (config : Config) (word draw later : ℕ) → ConnectsAtOnce config → IsSound config → SaysNothing config
    → HasStarted 0 (handed_in_after_connect config word draw later s)

-- so has one that is handed in on a link of publish/subscribe, also where a server of any other link has to speak RESP3 for it
abbrev pub StartsWhereListening : Submission → Type 0
StartsWhereListening s =
    (config : Config) (word draw later : ℕ) → IsSound config → SaysNothing config → hears_messages (hearing_of config) ≡ true
    → HasStarted 0 (handed_in_after_connect config word draw later s)
