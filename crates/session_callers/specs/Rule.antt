-- The rule of the table, and what each step tells.
-- Tickets are counted without end here, and the words have them modulo 2 ^ 64.
use Rattle.std.specs.Prelude.{◌≡◌, ◌≢◌, ◌⊎◌, ℕ, zero, suc, ◌+◌, ◌-◌, ◌%◌, ◌^◌, ◌<◌, ◌≤◌, ◌==◌, List, [], ◌∷◌, ◌++◌, length, true, false, Option, Some, if◌then◌else◌, max}
use Rattle.driver_model.specs.declared.config.Config.{Config}
use Rattle.driver_model.specs.declared.kind.SessionKind.TheVariants as kind
use Rattle.driver_model.specs.Config.{config_of}
use Rattle.driver_model.specs.declared.event.Event.{Event}
use Rattle.driver_model.specs.declared.event.EventKind.{EventKind}
use Rattle.driver_model.specs.declared.event.EventKind.TheVariants as event
use Rattle.shared_session.specs.History.{History}
use Rattle.single_session.specs.Replay.{is_bad_after, is_spent_after}
use Rattle.shared_session.specs.declared.session.Failure.{Failure}
use Rattle.shared_session.specs.declared.session.Failure.TheVariants.{Sound, Spent}
use mathlib.Core.Option.{some, none}
use mathlib.Core.List.{IsPrefix}
use lib.ListN.{get_elem?}
use Rattle.atomic_table.specs.Table.{State, Me, Step}
use Rattle.session_callers.specs.declared.board.Home.{Home}
use Rattle.session_callers.specs.declared.board.View.{View}
use Rattle.session_callers.specs.declared.board.Ended.{Ended}
use Rattle.session_callers.specs.declared.board.Stage.{Stage}
use Rattle.session_callers.specs.declared.board.Stage.TheVariants.{Idle, Waiting, Served, Holding, Split}

-- f of each, added up
abbrev pub total : {A : Type 0} → (A → ℕ) → List A → ℕ
total f [] = 0
total f (x ∷ xs) = f x + total f xs

-- each has P
abbrev pub Each : {A : Type 0} → (A → Type 0) → List A → Type 0
Each P [] = Unit {0}
Each P (x ∷ xs) = P x × Each P xs

-- 1 where the numbers are the same, else 0
abbrev pub same : ℕ → ℕ → ℕ
same a b = 1 - ((a - b) + (b - a))

-- 1 where a is less than b, else 0
abbrev pub below : ℕ → ℕ → ℕ
below a b = 1 - (1 - (b - a))

-- 1 where m lies between, else 0
abbrev pub between : ℕ → ℕ → ℕ → ℕ
between a m b = 1 - ((suc a - m) + (suc m - b))

-- how often the number stands in the list
abbrev pub times : ℕ → List ℕ → ℕ
times p xs = total (same p) xs

-- 1 where the stage has the ticket n, else 0
abbrev pub has : ℕ → Stage → ℕ
has n Idle = 0
has n (Waiting t) = same n t
has n (Served t) = same n t
has n (Holding t) = same n t
has n (Split t) = same n t

-- 1 where the stage has a ticket, else 0
abbrev pub draws : Stage → ℕ
draws Idle = 0
draws _ = 1

-- 1 where the session is out with the seat, else 0
abbrev pub out : Stage → ℕ
out (Holding t) = 1
out (Split t) = 1
out _ = 0

-- 1 where a caller was made that the session does not count yet, else 0
abbrev pub more : Stage → ℕ
more (Split t) = 1
more _ = 0

abbrev pub ticket_of : Stage → ℕ
ticket_of Idle = 0
ticket_of (Waiting t) = t
ticket_of (Served t) = t
ticket_of (Holding t) = t
ticket_of (Split t) = t

-- the sums over a view and what ended in it
abbrev pub numbered : ℕ → View → ℕ
numbered n v = times n v.number + total (λ (e : Ended). same n e.number) v.ended

abbrev pub callers : View → ℕ
callers v = length v.number + length v.ended

abbrev pub owns : ℕ → View → ℕ
owns p v = times p v.mine + total (λ (e : Ended). times p e.mine) v.ended

abbrev pub claimed : ℕ → View → ℕ
claimed g v = times g v.claims + total (λ (e : Ended). times g e.claims) v.ended

-- in how many ways the view shows who made the caller m
abbrev pub makes : ℕ → View → ℕ
makes m v = total (λ n. between n m v.made) v.number + total (λ (e : Ended). between e.number m e.made) v.ended

-- what is known of the session: that at home, or that which the seat took that has it
pub record Now : Type 0 where
  pub serving : ℕ
  pub config : Config
  pub word : ℕ
  pub most : ℕ
  pub log : List Event
  pub mark : Failure
  pub made : ℕ
  pub dial : ℕ

-- a seat that is served has the ticket that is served, and knows all
abbrev pub KnowsAll : Now → View → ℕ → Type 0
KnowsAll now v t = (t ≡ now.serving) × (v.seen ≡ now.log) × (v.failure ≡ now.mark) × (v.made ≡ now.made) × Each (λ (n : ℕ). n < v.made) v.number

abbrev pub InTurn : Now → View → Stage → Type 0
InTurn now v Idle = Unit {0}
InTurn now v (Waiting t) = Unit {0}
InTurn now v (Served t) = KnowsAll now v t
InTurn now v (Holding t) = KnowsAll now v t
InTurn now v (Split t) = KnowsAll now v t

-- the positions ascend, from some on, and lie below the top
abbrev pub Ascends : ℕ → List ℕ → ℕ → Type 0
Ascends from [] top = from ≤ top
Ascends from (p ∷ ps) top = (from ≤ p) × Ascends (suc p) ps top

pub record FitsEnded (now : Now) (e : Ended) : Type 0 where
  pub front : e.front ≤ length now.log
  pub mine : Ascends 0 e.mine e.front
  pub made : e.made ≤ now.made

-- what the rule says of one view
pub record Fits (now : Now) (v : View) : Type 0 where
  pub seen : IsPrefix v.seen now.log
  pub turn : InTurn now v v.stage
  pub mine : Ascends 0 v.mine (length v.seen)
  pub config : 1 ≤ length v.number → (v.config ≡ now.config) × (v.word ≡ now.word) × (v.most ≡ now.most)
  pub failure : v.failure ≢ Sound → now.mark ≡ v.failure
  pub made : v.made ≤ now.made
  pub dial : v.dial ≤ now.dial
  pub caller : draws v.stage ≤ length v.number
  pub single : 2 ≤ length v.number → v.stage ≡ Idle
  pub ended : Each (FitsEnded now) v.ended
  pub nothing : length v.number ≡ 0 → (v.mine ≡ []) × (v.ended ≡ []) × (v.claims ≡ [])
  pub fronts : Each (λ (xs : List Event). IsPrefix xs now.log) v.fronts

-- behind this history the step of some event that isn't bad would be spent
abbrev pub SpendsNext : Config → ℕ → List Event → Type 0
SpendsNext config word log = (e : Event) × (is_bad_after config word log e ≡ false) × (is_spent_after config word log e ≡ true)

-- a session may have run out of numbers only there
abbrev pub MaySpend : Config → ℕ → List Event → Failure → Type 0
MaySpend config word log failure = failure ≡ Spent → SpendsNext config word log

-- 1 for a submission, else 0
abbrev pub submits : EventKind → ℕ
submits (event.Submit what) = 1
submits (event.Cancel n) = 0
submits (event.Connected l) = 0
submits (event.Refused l f) = 0
submits (event.Fired t) = 0
submits (event.Creds c auth) = 0
submits (event.CredsError c text) = 0
submits (event.CredsEnd c) = 0
submits (event.Wrote l count) = 0
submits (event.Bytes l piece) = 0
submits (event.Ended l) = 0
submits (event.ReadFault l kind) = 0
submits (event.WriteFault l kind) = 0
submits (event.Timeout ms) = 0
submits event.DropStream = 0
submits event.Shutdown = 0

-- how many submissions a history has
unfoldable pub submissions_in : List Event → ℕ
submissions_in events = total (λ (e : Event). submits e.kind) events

-- a session with this history
abbrev pub history : Config → ℕ → List Event → Failure → History
history config word events failure = record { config = config; word = word; events = events; failure = failure }

-- the slot has this session exactly where no seat has it out
abbrev pub IsPlaced : Now → List (mathlib.Core.Option.Option (Option Home)) → ℕ → Type 0
IsPlaced now homes away =
    ((h : Home) × (homes ≡ some (Some h) ∷ []) × (h.session ≡ history now.config now.word now.log now.mark) × (h.made ≡ now.made) × (h.submissions ≡ submissions_in now.log) × (away ≡ 0))
    ⊎ ((homes ≡ none ∷ []) × (away ≡ 1))

abbrev pub stage_of : View → Stage
stage_of v = v.stage

abbrev pub words_of : ℕ → Now → List ℕ
words_of ticket now = (ticket % 2 ^ 64) ∷ (now.serving % 2 ^ 64) ∷ now.dial ∷ []

-- tickets, callers, positions and dial numbers, each once among the views
pub record Counted (ticket : ℕ) (now : Now) (views : List View) : Type 0 where
  pub drawn : total (λ (v : View). draws v.stage) views + now.serving ≡ ticket
  pub tickets : (n : ℕ) → total (λ (v : View). has n v.stage) views + below n now.serving ≡ below n ticket
  pub callers : total callers views ≡ now.made + total (λ (v : View). more v.stage) views
  pub numbers : (n : ℕ) → total (numbered n) views ≡ below n (now.made + total (λ (v : View). more v.stage) views)
  pub few : now.made + total (λ (v : View). more v.stage) views ≤ now.most
  pub limit : now.most < 2 ^ 32
  pub makers : (m : ℕ) → 1 ≤ m → m < now.made → 1 ≤ total (makes m) views
  pub positions : (p : ℕ) → total (owns p) views ≡ below p (length now.log)
  pub claims : (g : ℕ) → total (claimed (suc g)) views ≡ below g now.dial
  pub no_claim : total (claimed 0) views ≡ 0

pub record Ruled (s : State (Option Home) View) : Type 0 where
  pub ticket : ℕ
  pub now : Now
  pub words : s.words ≡ words_of ticket now
  pub counted : Counted ticket now s.views
  pub spent : MaySpend now.config now.word now.log now.mark
  pub place : IsPlaced now s.homes (total (λ (v : View). out v.stage) s.views)
  pub each : (j : ℕ) (v : View) → get_elem? s.views j ≡ some v → Fits now v

-- a caller that has seen as much, of a table that has no more than `most`
abbrev pub newcomer : Config → ℕ → ℕ → ℕ → List Event → ℕ → View
newcomer config word most number seen dial = record { stage = Idle; drawn = 0; number = number ∷ []; made = 0; most = most; config = config; word = word; seen = seen; failure = Sound; mine = []; dial = dial; claims = []; ended = []; fronts = [] }

-- so many numbers from this one on
abbrev pub numbers_from : ℕ → ℕ → List ℕ
numbers_from n zero = []
numbers_from n (suc count) = n ∷ numbers_from (suc n) count

-- a caller that was made with its session, with so many in all
abbrev pub founder : Config → ℕ → ℕ → ℕ → ℕ → View
founder config word most made number = record (newcomer config word most number [] 0) { made = made }

-- the seat of so many of them, from this number on
abbrev pub founders : Config → ℕ → ℕ → ℕ → ℕ → ℕ → View
founders config word most made number count = record (founder config word most made number) { number = numbers_from number count }

abbrev pub first_of : List ℕ → List ℕ
first_of [] = []
first_of (n ∷ ns) = n ∷ []

abbrev pub behind_first : List ℕ → List ℕ
behind_first [] = []
behind_first (n ∷ ns) = ns

-- a seat of several callers, which have seen as much, without its first
abbrev pub rest_of : View → View
rest_of v = record v { number = behind_first v.number }

-- and that first one
abbrev pub one_of : View → View
one_of v = record (newcomer v.config v.word v.most 0 v.seen v.dial) { number = first_of v.number; made = v.made }

abbrev pub no_config : Config
no_config = config_of kind.Single []

-- what a seat that was joined is left with
abbrev pub nobody : View
nobody = record { stage = Idle; drawn = 0; number = []; made = 0; most = 0; config = no_config; word = 0; seen = []; failure = Sound; mine = []; dial = 0; claims = []; ended = []; fronts = [] }

abbrev pub longer : List Event → List Event → List Event
longer xs ys = if length xs - length ys == 0 then ys else xs

abbrev pub as_ended : View → List ℕ → List Ended
as_ended w [] = []
as_ended w (n ∷ ns) = record { number = n; made = w.made; front = length w.seen; mine = w.mine; claims = w.claims } ∷ []

abbrev pub joined : View → View → View
joined v w = record v { seen = longer v.seen w.seen; dial = max v.dial w.dial; ended = v.ended ++ (as_ended w w.number ++ w.ended); fronts = v.seen ∷ w.seen ∷ (v.fronts ++ w.fronts) }

abbrev pub Sat : Type 0
Sat = Me (Option Home) View

abbrev pub At : Type 0
At = Step (Option Home)

-- the session in hand
abbrev pub in_hand : List (ℕ × Option Home) → Home
in_hand ((k, Some h) ∷ xs) = h
in_hand _ = record { session = history no_config 0 [] Sound; made = 0; submissions = 0 }

abbrev pub waiting : View → ℕ → View
waiting v t = record v { stage = Waiting t; drawn = v.drawn + 1 }

abbrev pub served : View → List Event → Failure → ℕ → View
served v seen failure made = record v { stage = Served (ticket_of v.stage); seen = seen; failure = failure; made = made }

abbrev pub drew : At → Sat → ℕ → Sat → Type 0
drew st m found m' = (t : ℕ) × (found ≡ t % 2 ^ 64) × (m' ≡ (waiting m.0 t, m.1))

abbrev pub looked : At → Sat → ℕ → Sat → Type 0
looked st m found m' =
    (found ≡ ticket_of m.0.stage % 2 ^ 64 → (seen : List Event) × (failure : Failure) × (made : ℕ) × IsPrefix m.0.seen seen × (m' ≡ (served m.0 seen failure made, m.1)))
    × (found ≢ ticket_of m.0.stage % 2 ^ 64 → m' ≡ m)

-- the session that a seat knows
abbrev pub home_of : View → Home
home_of v = record { session = history v.config v.word v.seen v.failure; made = v.made; submissions = submissions_in v.seen }

abbrev pub took : At → Sat → ℕ → Sat → Type 0
took st m found m' =
    (m' ≡ (record m.0 { stage = Holding (ticket_of m.0.stage) }, (0, Some (home_of m.0)) ∷ m.1))
    × MaySpend m.0.config m.0.word m.0.seen m.0.failure × (m.0.made ≤ m.0.most)

-- the session that goes in has one event more, or as many
abbrev pub Grows : List Event → List Event → Type 0
Grows seen events = (events ≡ seen) ⊎ ((e : Event) × (events ≡ seen ++ e ∷ []))

abbrev pub mine_after : ℕ → ℕ → List ℕ → List ℕ
mine_after before after mine = if before == after then mine else (mine ++ before ∷ [])

-- what goes in, from a seat with this view
pub record MayGive (v : View) (h : Home) : Type 0 where
  pub grows : Grows v.seen h.session.events
  pub config : (h.session.config ≡ v.config) × (h.session.word ≡ v.word)
  pub spent : MaySpend v.config v.word h.session.events h.session.failure
  pub kept : v.failure ≢ Sound → (h.session.failure ≡ v.failure) × (h.session.events ≡ v.seen)
  pub submissions : h.submissions ≡ submissions_in h.session.events
  pub made : h.made ≡ v.made + more v.stage

abbrev pub given : View → Home → View
given v h = record v { stage = Served (ticket_of v.stage); seen = h.session.events; failure = h.session.failure; made = h.made; mine = mine_after (length v.seen) (length h.session.events) v.mine }

abbrev pub gave : At → Sat → ℕ → Sat → Type 0
gave st m found m' = m' ≡ (given m.0 (in_hand m.1), [])

abbrev pub raised : At → Sat → ℕ → Sat → Type 0
raised st m found m' = m' ≡ (record m.0 { stage = Idle }, m.1)

-- the dial's number is read, or the next one is claimed
abbrev pub dialled : At → Sat → ℕ → Sat → Type 0
dialled st m found m' =
    (found ≡ st.first → m' ≡ (record m.0 { dial = st.second; claims = m.0.claims ++ st.second ∷ [] }, m.1))
    × (found ≢ st.first → m' ≡ (record m.0 { dial = found }, m.1))
    × (m.0.dial ≤ found)

abbrev pub left_of : View → View
left_of v = record v { stage = Split (ticket_of v.stage) }

abbrev pub right_of : View → View
right_of v = newcomer v.config v.word v.most v.made v.seen v.dial
