-- What the calls say of a seat.
use Rattle.std.specs.Prelude.{◌≡◌, ℕ, zero, suc, ◌+◌, ◌-◌, ◌^◌, ◌<◌, ◌≤◌, List, [], ◌∷◌, ◌++◌, Option, Some, length, false}
use Rattle.driver_model.specs.declared.config.Config.{Config}
use Rattle.driver_model.specs.declared.event.Event.{Event}
use Rattle.driver_model.specs.declared.event.EventKind.TheVariants.{Submit}
use Rattle.driver_model.specs.declared.event.Submission.{Submission}
use Rattle.session_callers.specs.Rule.{founder, newcomer, MaySpend, Each, total, times, owns, claimed, callers, history, submissions_in}
use Rattle.session_callers.specs.declared.board.Ended.{Ended}
use mathlib.Core.List.{IsPrefix}
use Rattle.atomic_table.specs.Seated.{TableId}
use Rattle.atomic_table.specs.declared.shared.Seat.{Seat}
use Rattle.session_callers.specs.declared.board.Home.{Home}
use Rattle.session_callers.specs.declared.board.View.{View}
use Rattle.session_callers.specs.declared.board.Stage.TheVariants.{Idle, Holding}
use Rattle.driver_model.specs.declared.action.Action.{Action}
use Rattle.driver_model.specs.declared.outcome.Outcome.{Outcome}
use Rattle.shared_session.specs.History.{History}
use Rattle.single_session.specs.Turn.{actions_of}
use Rattle.single_session.specs.Replay.{state_after, is_bad_after, is_spent_after, trace_of, outcomes_in, outcome_at}
use Rattle.shared_session.specs.declared.errors.StepError.{StepError}
use Rattle.shared_session.specs.declared.session.Failure.TheVariants.{Sound}
use Rattle.session_callers.specs.Steps.{IsRefused}

abbrev pub Place : Type 0
Place = Seat (Option Home) View

-- the seat is of this table, which has three words and a slot
abbrev pub IsAt : TableId → Place → Type 0
IsAt z s = (s.table_id ≡ z) × (z.words ≡ 3) × (z.slots ≡ 1)

abbrev pub IsSame : Place → Place → Type 0
IsSame s t = (t.table_id ≡ s.table_id) × (t.id ≡ s.id)

-- a caller between two calls
abbrev pub IsIdle : Place → Type 0
IsIdle s = (s.me.0.stage ≡ Idle) × (s.me.1 ≡ []) × (length s.me.0.number ≡ 1) × (s.me.0.ended ≡ []) × (s.me.0.fronts ≡ [])

-- what a caller is seen as
pub record Known : Type 0 where
  pub table : TableId
  pub view : View

-- so many callers of a table from this number on, which were made with its session, with so many in all
abbrev pub founders_at : TableId → Config → ℕ → ℕ → ℕ → ℕ → List Known
founders_at z config word made number zero = []
founders_at z config word made number (suc count) = record { table = z; view = founder config word made made number } ∷ founders_at z config word made (suc number) count

-- what is left of all callers is seen as: the table that was theirs, and the greatest number of its dial that was claimed
pub record Kept : Type 0 where
  pub table : TableId
  pub dial : ℕ

-- the view after a turn: the history then seen begins with what was seen, and one ticket was drawn
pub record Turned (v w : View) : Type 0 where
  pub idle : w.stage ≡ Idle
  pub seen : IsPrefix v.seen w.seen
  pub drawn : w.drawn ≡ v.drawn + 1
  pub number : w.number ≡ v.number
  pub ended : w.ended ≡ v.ended
  pub fronts : w.fronts ≡ v.fronts
  pub dial : w.dial ≡ v.dial
  pub claims : w.claims ≡ v.claims
  pub config : w.config ≡ v.config
  pub word : w.word ≡ v.word
  pub most : w.most ≡ v.most

-- a view in its turn, which has the session out
pub record Took (v w : View) (h : Home) : Type 0 where
  pub stage : (t : ℕ) × (w.stage ≡ Holding t)
  pub seen : IsPrefix v.seen w.seen
  pub mine : w.mine ≡ v.mine
  pub drawn : w.drawn ≡ v.drawn + 1
  pub number : w.number ≡ v.number
  pub ended : w.ended ≡ v.ended
  pub fronts : w.fronts ≡ v.fronts
  pub dial : w.dial ≡ v.dial
  pub claims : w.claims ≡ v.claims
  pub config : w.config ≡ v.config
  pub word : w.word ≡ v.word
  pub most : w.most ≡ v.most
  pub session : h.session ≡ history w.config w.word w.seen w.failure
  pub made : h.made ≡ w.made
  pub submissions : h.submissions ≡ submissions_in w.seen
  pub spent : MaySpend w.config w.word w.seen w.failure
  pub few : w.made ≤ w.most

-- the session as a caller has seen it
abbrev pub history_of : View → History
history_of v = history v.config v.word v.seen v.failure

abbrev pub submission_event : Submission → ℕ → Event
submission_event what word = record { word = word; kind = Submit what }

-- a newcomer that was made by the caller in its last turn
abbrev pub joined_by : View → View
joined_by v = newcomer v.config v.word v.most (v.made - 1) v.seen v.dial

abbrev pub with_claim : View → ℕ → View
with_claim v n = record v { dial = n; claims = v.claims ++ n ∷ [] }

-- one event more, which is the caller's: it stands last in the history then seen, and its turn was shown. n submissions
-- stand before it
pub record Added (v w : View) (event : Event) (n : ℕ) (shown after : List Action) : Type 0 where
  pub before : List Event
  pub begins : IsPrefix v.seen before
  pub seen : w.seen ≡ before ++ event ∷ []
  pub mine : w.mine ≡ v.mine ++ length before ∷ []
  pub number : n ≡ submissions_in before
  pub sound : w.failure ≡ Sound
  pub good : is_bad_after w.config w.word before event ≡ false
  pub unspent : is_spent_after w.config w.word before event ≡ false
  pub actions : after ≡ shown ++ actions_of (state_after w.config w.word before) event

-- no event more, nothing shown, and why. Numbers may have run out only where the step of some event would be spent
pub record Refused (error : StepError) (v w : View) (event : Event) (shown after : List Action) : Type 0 where
  pub mine : w.mine ≡ v.mine
  pub why : IsRefused error (history_of w) event
  pub spent : MaySpend w.config w.word w.seen w.failure
  pub actions : after ≡ shown

-- the same of a caller that is lent for longer: in some turn of it, whose history begins with what was seen
pub record RefusedInTurn (error : StepError) (v : View) (event : Event) (shown after : List Action) : Type 0 where
  pub view : View
  pub turned : Turned v view
  pub refused : Refused error v view event shown after

-- the outcome of the submission by a history that begins with what was seen
pub record IsOutcomeLater (v : View) (n : ℕ) (outcome : Outcome) : Type 0 where
  pub seen : List Event
  pub begins : IsPrefix v.seen seen
  pub told : outcome_at (outcomes_in (trace_of v.config v.word seen)) n ≡ Some outcome

-- a caller of the table whose number is below m, and who saw no more callers
abbrev pub IsOf : TableId → ℕ → Known → Type 0
IsOf z m c = (c.table ≡ z) × Each (λ (n : ℕ). n < m) c.view.number × (c.view.made ≤ m)

-- the view has taken in these callers
pub record Gathered (m : ℕ) (cs : List Known) (w : View) : Type 0 where
  pub idle : w.stage ≡ Idle
  pub single : length w.number ≡ 1
  pub count : callers w ≡ length cs
  pub low : Each (λ (n : ℕ). n < m) w.number
  pub low_ended : Each (λ (e : Ended). e.number < m) w.ended
  pub made : w.made ≤ m
  pub made_ended : Each (λ (e : Ended). e.made ≤ m) w.ended
  pub begins : (log : List Event) → Each (λ (x : List Event). IsPrefix x log) w.fronts → IsPrefix w.seen log → Each (λ (c : Known). IsPrefix c.view.seen log) cs
  pub mine : (p : ℕ) → owns p w ≡ total (λ (c : Known). times p c.view.mine) cs
  pub claims : (n : ℕ) → claimed n w ≡ total (λ (c : Known). times n c.view.claims) cs
  pub config : (config : Config) (word : ℕ) → Each (λ (c : Known). (c.view.config ≡ config) × (c.view.word ≡ word)) cs → (w.config ≡ config) × (w.word ≡ word)
