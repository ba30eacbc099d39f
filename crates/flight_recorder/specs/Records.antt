-- What the flight recorder does.
use Rattle.std.specs.Prelude.{◌≡◌, ◌⊎◌, ℕ, List, [], Option, codes}
use Rattle.outside.specs.Ends.{Gained}
use Rattle.outside.specs.declared.world.Call.{Call}
use Rattle.program_ends.specs.Sides.{Side, IfTold}
use Rattle.program_ends.specs.declared.status.Status.{Status}
use Rattle.program_ends.specs.declared.status.Status.TheVariants as status
use Rattle.live_lines.specs.Live.{IsLive, IsPlan, IsRefused, Writes, refusal_line, refusal_status}
use Rattle.live_lines.specs.declared.flying.Flight.{Flight}
use Rattle.live_lines.specs.declared.reading.Refusal.{Refusal}
use Rattle.run_record.specs.Record.{IsRecordOf, HasNoRecord}
use Rattle.shared_session.specs.History.{History}

-- the line where the words are no plan
abbrev pub usage_line : List ℕ
usage_line = codes "usage: flight_recorder [callers=K] CONFIG\n"

-- the line where a history is no script
abbrev pub no_script_line : List ℕ
no_script_line = codes "no script\n"

-- 0: a script was written whose replay is that of this history; or 2: the history is none, and that was told; or what stands
-- for either where the sink failed or memory was refused
abbrev pub Records : History → Status → Side → Side → Type 0
Records h s sink sink' =
    ((text : List ℕ) × IsRecordOf text h × Writes status.Done text s sink sink')
    ⊎ (HasNoRecord h × Writes status.Script no_script_line s sink sink')
    ⊎ ((s ≡ status.NoMemory) × (sink' ≡ sink))

-- the live run of these words and of the source's bytes came to its end, and its history was written; or it is told why there
-- was none
abbrev pub DoesRecord : List (List ℕ) → Status → Side → Side → Side → Side → Option (List Call) → Option (List Call) → Type 0
DoesRecord words s source source' sink sink' old new =
    ((f : Flight) × IsPlan words × IfTold source (λ bytes. IsLive words bytes source'.bytes old new f) × Records f.session s sink sink')
    ⊎ ((r : Refusal) × IsRefused r words source source' old new × Writes (refusal_status r) (refusal_line usage_line r) s sink sink')
