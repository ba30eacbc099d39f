-- What the actions of a session ask of the world and is not done yet.
use Rattle.std.specs.Prelude.{ℕ, ◌+◌, ◌-◌, ◌^◌, ◌==◌, nat_le, nat_lt, min, Bool, true, false, ◌&&◌, List, [], ◌∷◌, ◌++◌, Option, Some, None, if◌then◌else◌}
use Rattle.driver_model.specs.declared.action.Action.{Action}
use Rattle.driver_model.specs.declared.action.Action.TheVariants as action
use Rattle.outside.specs.declared.world.Call.{Call}
use Rattle.outside.specs.declared.world.Call.TheVariants as call
use Rattle.outside.specs.declared.world.Dialed.TheVariants as dialed
use Rattle.outside.specs.declared.world.LinkGot.TheVariants as got
use Rattle.outside.specs.declared.world.LinkPut.TheVariants as put
use Rattle.live_run.specs.declared.agenda.Agenda.{Agenda}
use Rattle.live_run.specs.declared.agenda.Target.{Target}
use Rattle.live_run.specs.declared.links.Link.{Link}
use Rattle.live_run.specs.declared.timers.Pending.{Pending}

-- before the first pass: nothing is noted of these actions
abbrev pub agenda_of : List Action → Agenda
agenda_of early = record { early = early; dials = []; closes = []; links = []; unclosed = []; timers = []; moment = 0; generation = 0; claimed = 0 }

-- all but the first
abbrev pub behind : {T : Type 0} → List T → List T
behind [] = []
behind (x ∷ xs) = xs

-- whether a number stands in a list
abbrev pub stands : ℕ → List ℕ → Bool
stands n [] = false
stands n (x ∷ xs) = if x == n then true else stands n xs

-- a list without the first that is this number
abbrev pub removed : ℕ → List ℕ → List ℕ
removed n [] = []
removed n (x ∷ xs) = if x == n then xs else x ∷ removed n xs

-- the links that are up, without this one
abbrev pub without : ℕ → List Link → List Link
without l [] = []
without l (x ∷ xs) = if x.number == l then xs else x ∷ without l xs

-- these bytes are the unanswered offer of a link that is up
abbrev pub offered : ℕ → List ℕ → List Link → List Link
offered l bytes [] = []
offered l bytes (x ∷ xs) = if x.number == l then record x { offer = bytes } ∷ xs else x ∷ offered l bytes xs

-- the unanswered offer of a link, if it is up
abbrev pub offer_of : ℕ → List Link → Option (List ℕ)
offer_of l [] = None
offer_of l (x ∷ xs) = if x.number == l then Some x.offer else offer_of l xs

abbrev pub numbers_of : List Link → List ℕ
numbers_of [] = []
numbers_of (x ∷ xs) = x.number ∷ numbers_of xs

-- a link that ended before its dial is not dialled
abbrev pub undialled : ℕ → List Target → List Target
undialled l [] = []
undialled l (t ∷ ts) = if t.link == l then ts else t ∷ undialled l ts

-- each of these timers is due later than at this moment
abbrev pub all_later : ℕ → List Pending → Bool
all_later due [] = true
all_later due (x ∷ xs) = nat_lt due x.due && all_later due xs

-- one more timer, behind the last that is not due later
abbrev pub timed : Pending → List Pending → List Pending
timed t [] = t ∷ []
timed t (x ∷ xs) = if all_later t.due (x ∷ xs) then t ∷ x ∷ xs else x ∷ timed t xs

-- the timer that is due first, if it is due by this moment
abbrev pub due_in : ℕ → List Pending → Option ℕ
due_in moment [] = None
due_in moment (t ∷ ts) = if nat_le t.due moment then Some t.timer else None

abbrev pub first_due : Agenda → Option ℕ
first_due a = due_in a.moment a.timers

-- a link is to be closed that the world has connected and not closed
abbrev pub to_close : Agenda → ℕ → Agenda
to_close a l = if stands l a.unclosed then record a { unclosed = removed l a.unclosed; closes = a.closes ++ l ∷ [] } else a

-- when a timer is due that is asked for now; moments end at 2^64 - 1
abbrev pub due_after : ℕ → ℕ → ℕ
due_after moment ms = min (moment + ms) (2 ^ 64 - 1)

-- an action asks something of the agenda
abbrev pub asks : Action → Bool
asks (action.Connect l host port) = true
asks (action.Timer t ms what) = true
asks (action.Close l) = true
asks (action.Write l bytes) = true
asks (action.Generation g) = true
asks (action.Turn number c) = false
asks (action.Took who l count) = false
asks (action.Push l info) = false
asks (action.Message m) = false
asks (action.Monitor v) = false
asks (action.NeedCreds c l) = false
asks (action.Round who l) = false
asks (action.Start l message who count len) = false
asks (action.Wait who kind) = false
asks (action.Created e) = false
asks (action.Outcome n o) = false

-- what an action asks: a connect is to be dialled, of the generation that began last; a timer is due so many milliseconds after the moment of the pass; a link
-- that ended is no longer read and written, and is to be closed; all unwritten bytes of a link are offered; a generation begins
abbrev pub noted : Agenda → Action → Agenda
noted a (action.Connect l host port) = record a { dials = a.dials ++ record { link = l; host = host; port = port; generation = a.generation } ∷ [] }
noted a (action.Timer t ms what) = record a { timers = timed (record { timer = t; due = due_after a.moment ms }) a.timers }
noted a (action.Close l) = to_close (record a { links = without l a.links; dials = undialled l a.dials }) l
noted a (action.Write l bytes) = record a { links = offered l bytes a.links }
noted a (action.Generation g) = record a { generation = g }
noted a (action.Turn number c) = a
noted a (action.Took who l count) = a
noted a (action.Push l info) = a
noted a (action.Message m) = a
noted a (action.Monitor v) = a
noted a (action.NeedCreds c l) = a
noted a (action.Round who l) = a
noted a (action.Start l message who count len) = a
noted a (action.Wait who kind) = a
noted a (action.Created e) = a
noted a (action.Outcome n o) = a

abbrev pub noted_each : Agenda → List Action → Agenda
noted_each a [] = a
noted_each a (x ∷ more) = noted_each (noted a x) more

-- a pass begins at this moment. What was asked before the first pass is noted then
abbrev pub begun : Agenda → ℕ → Agenda
begun a moment = noted_each (record a { early = []; moment = moment }) a.early

-- the link of a dial is up from its `Yes` on, and is to be closed once
abbrev pub dialled : Agenda → ℕ → Agenda
dialled a l = record a { links = a.links ++ record { number = l; offer = [] } ∷ []; unclosed = a.unclosed ++ l ∷ [] }

-- the generation of the link that is to be dialled first
abbrev pub first_generation : List Target → ℕ
first_generation [] = 0
first_generation (t ∷ ts) = t.generation

-- the first dial is done
abbrev pub tried : Agenda → Agenda
tried a = record a { dials = behind a.dials }

-- what a call's answer is to it: the first dial or close is done; a link that ended or failed is no longer read and written; an
-- offer is answered
abbrev pub answered : Agenda → Call → Agenda
answered a (call.Dial l host port dialed.Yes) = dialled (tried a) l
answered a (call.Dial l host port (dialed.Failed fault)) = tried a
answered a (call.Read l room got.Ended bytes) = record a { links = without l a.links }
answered a (call.Read l room (got.Failed fault) bytes) = record a { links = without l a.links }
answered a (call.Read l room (got.Read n) bytes) = a
answered a (call.Read l room got.NotYet bytes) = a
answered a (call.Write l piece (put.Took n)) = record a { links = offered l [] a.links }
answered a (call.Write l piece put.NotYet) = a
answered a (call.Write l piece (put.Failed fault)) = record a { links = without l a.links }
answered a (call.Close l) = record a { closes = behind a.closes }
answered a (call.Now moment) = begun a moment
answered a (call.Word word) = a
answered a (call.Wait ms) = a
