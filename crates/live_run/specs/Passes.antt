-- What a pass is, stage by stage, and an idle one.
use Rattle.std.specs.Prelude.{◌≡◌, ◌⊎◌, ℕ, zero, suc, Bool, true, false, List, [], ◌∷◌, ◌++◌, length, Some, None, is_some}
use Rattle.outside.specs.declared.world.Call.TheVariants as call
use Rattle.live_run.specs.declared.agenda.Agenda.{Agenda}
use Rattle.live_run.specs.Agenda.{first_due, numbers_of, offer_of}
use Rattle.live_run.specs.Deeds.{Deed, did, fired, claim, kinds_of, after, after_each}

-- A stage of a pass: whether it was done whole, for a run may be over in the middle of it; what was asked of the world as it
-- began; and its deeds.
abbrev pub Stage : Type 1
Stage = Bool → Agenda → List Deed → Type 0

-- one stage, and then, where it was done whole, another
pub record Both (A B : Stage) (whole : Bool) (a : Agenda) (ds : List Deed) : Type 0 where
  pub first : List Deed
  pub second : List Deed
  pub parts : ds ≡ first ++ second
  pub begins : A true a first
  pub goes_on : B whole (after_each a first) second

abbrev pub Then : Stage → Stage → Stage
Then A B whole a ds = ((whole ≡ false) × A false a ds) ⊎ Both A B whole a ds

-- the moment of the pass is asked for
abbrev pub Beginning : Stage
Beginning whole a ds = (whole ≡ true) × ((moment : ℕ) × (ds ≡ did (call.Now moment) 0 [] ∷ []))

abbrev pub closes_of : List ℕ → List Deed
closes_of [] = []
closes_of (l ∷ ls) = did (call.Close l) 0 [] ∷ closes_of ls

-- all links are closed that were to be closed as the stage began
abbrev pub Closing : Stage
Closing whole a ds = (whole ≡ true) × (ds ≡ closes_of a.closes)

abbrev pub IsDial : Deed → Type 0
IsDial (did (call.Dial l host port answer) word actions) = Unit {0}
IsDial _ = ⊥

abbrev pub IsClaim : Deed → Type 0
IsClaim (claim number) = Unit {0}
IsClaim _ = ⊥

-- numbers are claimed, and then a link is dialled
abbrev pub IsDialled : List Deed → Type 0
IsDialled [] = ⊥
IsDialled (d ∷ ds) = (IsDial d × (ds ≡ [])) ⊎ (IsClaim d × IsDialled ds)

-- at most so many dials, with claims before them: just so many where it was done whole, or until none is to be dialled
abbrev pub AreDials : ℕ → Bool → Agenda → List Deed → Type 0
AreDials n whole a [] = whole ≡ true → (n ≡ 0) ⊎ (a.dials ≡ [])
AreDials zero whole a (d ∷ ds) = ⊥
AreDials (suc n) whole a (d ∷ ds) = (IsDial d × AreDials n whole (after a d) ds) ⊎ (IsClaim d × AreDials (suc n) whole (after a d) ds)

-- as many links are dialled as were to be dialled as the stage began; what is asked meanwhile is left to the next pass
abbrev pub Dialing : Stage
Dialing whole a ds = AreDials (length a.dials) whole a ds

-- Links in turn: for each that has it to do at its turn there is a deed, and for no other. A stage that was not done whole ends
-- before some of them.
abbrev pub InTurn : (Agenda → ℕ → Type 0) → (ℕ → Deed → Type 0) → List ℕ → Bool → Agenda → List Deed → Type 0
InTurn Has Is [] whole a [] = Unit {0}
InTurn Has Is [] whole a (d ∷ ds) = ⊥
InTurn Has Is (l ∷ ls) whole a [] = whole ≡ true → (Has a l → ⊥) × InTurn Has Is ls whole a []
InTurn Has Is (l ∷ ls) whole a (d ∷ ds) = (Has a l × Is l d × InTurn Has Is ls whole (after a d) ds) ⊎ ((Has a l → ⊥) × InTurn Has Is ls whole a (d ∷ ds))

-- the link is up
abbrev pub IsUp : Agenda → ℕ → Type 0
IsUp a l = is_some (offer_of l a.links) ≡ true

-- the link is up, and offers bytes that nothing has answered
abbrev pub Offers : Agenda → ℕ → Type 0
Offers a l = (byte : ℕ) × (bytes : List ℕ) × (offer_of l a.links ≡ Some (byte ∷ bytes))

abbrev pub IsReadOf : ℕ → Deed → Type 0
IsReadOf l (did (call.Read m room answer bytes) word actions) = m ≡ l
IsReadOf l _ = ⊥

abbrev pub IsWriteOf : ℕ → Deed → Type 0
IsWriteOf l (did (call.Write m piece answer) word actions) = m ≡ l
IsWriteOf l _ = ⊥

-- each link that was up as the stage began is read once, but for those that end before their turn
abbrev pub Reading : Stage
Reading whole a ds = InTurn IsUp IsReadOf (numbers_of a.links) whole a ds

-- each of them whose offer is unanswered is written to once
abbrev pub Writing : Stage
Writing whole a ds = InTurn Offers IsWriteOf (numbers_of a.links) whole a ds

abbrev pub IsFire : Deed → Type 0
IsFire (fired timer word actions) = Unit {0}
IsFire _ = ⊥

-- timers fire that are due, until none is, where it was done whole
abbrev pub Firing : Stage
Firing whole a [] = whole ≡ true → first_due a ≡ None
Firing whole a (d ∷ ds) = IsFire d × Firing whole (after a d) ds

-- it asks for the moment; then it closes, and dials; then it reads; then it writes; then timers fire
abbrev pub Pass : Stage
Pass = Then Beginning (Then Closing (Then Dialing (Then Reading (Then Writing Firing))))

abbrev pub Each : {T : Type 0} → (T → Type 0) → List T → Type 0
Each P [] = Unit {0}
Each P (x ∷ xs) = P x × Each P xs

-- no event came of it: it is no dial and no timer, and if it is a read or a write its answer was NotYet
abbrev pub IsQuiet : Deed → Type 0
IsQuiet d = kinds_of d ≡ []

-- a whole pass of which no event came, and then a wait of 10 ms
pub record IsIdle (a : Agenda) (deeds : List Deed) : Type 0 where
  pub pass : List Deed
  pub parts : deeds ≡ pass ++ did (call.Wait 10) 0 [] ∷ []
  pub is_pass : Pass true a pass
  pub quiet : Each IsQuiet pass

-- a whole pass, with its wait where it was idle
abbrev pub IsRound : Agenda → List Deed → Type 0
IsRound a deeds = Pass true a deeds ⊎ IsIdle a deeds

abbrev pub joined : List (List Deed) → List Deed
joined [] = []
joined (ds ∷ more) = ds ++ joined more

abbrev pub EachRound : (Agenda → List Deed → Type 0) → Agenda → List (List Deed) → Type 0
EachRound Is a [] = Unit {0}
EachRound Is a (ds ∷ more) = Is a ds × EachRound Is (after_each a ds) more

-- passes, one after another, of which the last may have been cut by the end of the run
pub record AreRounds (a : Agenda) (deeds : List Deed) : Type 0 where
  pub rounds : List (List Deed)
  pub last : List Deed
  pub parts : deeds ≡ joined rounds ++ last
  pub each : EachRound IsRound a rounds
  pub cut : (last ≡ []) ⊎ Pass false (after_each a (joined rounds)) last

-- the last so many passes were idle
pub record EndsIdle (count : ℕ) (a : Agenda) (deeds : List Deed) : Type 0 where
  pub before : List Deed
  pub rounds : List (List Deed)
  pub parts : deeds ≡ before ++ joined rounds
  pub number : length rounds ≡ count
  pub each : EachRound IsIdle (after_each a before) rounds
