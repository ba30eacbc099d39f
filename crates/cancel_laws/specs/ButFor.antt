-- What turns show and what a link has, but for one submission's own outcome.
use Rattle.std.specs.Prelude.{ℕ, ◌==◌, ◌&&◌, not, List, [], ◌∷◌, ◌++◌, if◌then◌else◌}
use Rattle.driver_model.specs.declared.action.Action.{Action}
use Rattle.driver_model.specs.declared.action.Action.TheVariants as action
use Rattle.link_core.specs.declared.message.Entry.{Entry}
use Rattle.link_core.specs.Link.{LinkState}
use Rattle.mux_conn.specs.declared.life.Life.{Life}
use Rattle.mux_conn.specs.declared.life.Life.TheVariants.{Resting, Dialing, Wanting, SettingUp, Ready, Ended}

-- an action without the number of its turn
abbrev pub unnumbered : Action → Action
unnumbered (action.Turn k c) = action.Turn 0 c
unnumbered (action.Connect l host port) = action.Connect l host port
unnumbered (action.Timer t ms what) = action.Timer t ms what
unnumbered (action.Took who l count) = action.Took who l count
unnumbered (action.Push l info) = action.Push l info
unnumbered (action.Message m) = action.Message m
unnumbered (action.Monitor v) = action.Monitor v
unnumbered (action.NeedCreds c l) = action.NeedCreds c l
unnumbered (action.Generation g) = action.Generation g
unnumbered (action.Round who l) = action.Round who l
unnumbered (action.Close l) = action.Close l
unnumbered (action.Write l bytes) = action.Write l bytes
unnumbered (action.Wait who kind) = action.Wait who kind
unnumbered (action.Start l k who need len) = action.Start l k who need len
unnumbered (action.Created e) = action.Created e
unnumbered (action.Outcome n o) = action.Outcome n o

-- all actions in order, but for the numbers of turns
abbrev pub all_unnumbered : List Action → List Action
all_unnumbered [] = []
all_unnumbered (a ∷ more) = unnumbered a ∷ all_unnumbered more

-- what an action shows but for the number of its turn, if it is not that submission's outcome
abbrev pub shown_of : ℕ → Action → List Action
shown_of n (action.Turn k c) = action.Turn 0 c ∷ []
shown_of n (action.Connect l host port) = action.Connect l host port ∷ []
shown_of n (action.Timer t ms what) = action.Timer t ms what ∷ []
shown_of n (action.Took who l count) = action.Took who l count ∷ []
shown_of n (action.Push l info) = action.Push l info ∷ []
shown_of n (action.Message m) = action.Message m ∷ []
shown_of n (action.Monitor v) = action.Monitor v ∷ []
shown_of n (action.NeedCreds c l) = action.NeedCreds c l ∷ []
shown_of n (action.Generation g) = action.Generation g ∷ []
shown_of n (action.Round who l) = action.Round who l ∷ []
shown_of n (action.Close l) = action.Close l ∷ []
shown_of n (action.Write l bytes) = action.Write l bytes ∷ []
shown_of n (action.Wait who kind) = action.Wait who kind ∷ []
shown_of n (action.Start l k who need len) = action.Start l k who need len ∷ []
shown_of n (action.Created e) = action.Created e ∷ []
shown_of n (action.Outcome m o) = if m == n then [] else action.Outcome m o ∷ []

-- all actions in order, but for the numbers of turns and for the outcomes of submission n
abbrev pub but_for : ℕ → List Action → List Action
but_for n [] = []
but_for n (a ∷ more) = shown_of n a ++ but_for n more

-- an entry with its items; that of message p as one whose verdict is not wanted
abbrev pub hushed : ℕ → Entry → Entry
hushed p e = record e { awaited = e.awaited && not (e.id == p) }

-- and so each entry of a row
abbrev pub hushed_each : ℕ → List Entry → List Entry
hushed_each p [] = []
hushed_each p (e ∷ es) = hushed p e ∷ hushed_each p es

-- the link in which the verdict of message p is not wanted, and all else is as it was
abbrev pub hushed_link : ℕ → LinkState → LinkState
hushed_link p l = record l { row = hushed_each p l.row }

-- the same of a link's life: until it is set up, it has no message of a request
abbrev pub hushed_life : ℕ → Life → Life
hushed_life p Resting = Resting
hushed_life p Dialing = Dialing
hushed_life p (Wanting l) = Wanting l
hushed_life p (SettingUp l greeting) = SettingUp l greeting
hushed_life p (Ready l) = Ready (hushed_link p l)
hushed_life p (Ended e) = Ended e
