-- What a round of the driver comes to: a pass, with its wait where it is idle.
use Rattle.std.specs.Prelude.{◌≡◌, ◌⊎◌, ℕ, ◌+◌, ◌<◌, false, true, List, length, Some}
use Rattle.shared_session.specs.History.{History}
use Rattle.live_run.specs.declared.agenda.Agenda.{Agenda}
use Rattle.live_run.specs.declared.running.Next.{Next}
use Rattle.live_run.specs.declared.running.Next.TheVariants as next
use Rattle.live_run.specs.Deeds.{Deed}
use Rattle.live_run.specs.Endings.{Over}
use Rattle.live_run.specs.Passes.{Pass, IsIdle}

-- a pass that was cut by the end of the run; a whole pass of which events came, and none is idle then; or an idle one more
abbrev pub IsNext : Next → ℕ → History → History → Agenda → List Deed → Type 0
IsNext (next.Over ending) idle before after a deeds = Pass false a deeds
IsNext (next.Idle count) idle before after a deeds =
    ((count ≡ 0) × (length before.events < length after.events) × Pass true a deeds)
    ⊎ ((count ≡ idle + 1) × (length after.events ≡ length before.events) × IsIdle a deeds)

-- if the run is over, the session says why
abbrev pub IsOverNext : Next → History → ℕ → Type 0
IsOverNext (next.Over ending) s count = Over (Some ending) s count
IsOverNext (next.Idle n) s count = Unit {0}
