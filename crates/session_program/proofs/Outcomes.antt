-- What a replay comes to, from what its parts did.
use Rattle.std.proofs.Common.{◌≡◌, ◌≤◌, ◌⊎◌, inl, inr, ℕ, List, [], Option, Some, ◌∙◌, refl, arith}
use Rattle.std.specs.Prelude.{Ok, Err, codes}
use Rattle.outside.specs.Ends.{Rose, Gained, GainedPart}
use Rattle.redis_error.specs.declared.config_name.ConfigName.{ConfigName}
use Rattle.script_text.specs.Script.{script_of}
use Rattle.script_text.specs.declared.script.Script.{Script}
use Rattle.single_session.specs.Replay.{trace_of, AreGood, AreUnspent, IsSound}
use Rattle.text_laws.specs.Fits.{AreBytes}
use Rattle.trace_text.specs.Show.{show}
use Rattle.session_program.specs.declared.command.Command.TheVariants.{Replay}
use Rattle.program_ends.specs.declared.status.Status.TheVariants as status
use Rattle.session_program.specs.Does.{Does}
use Rattle.program_ends.specs.Lines.{numbered_line, read_fault_line}
use Rattle.session_program.specs.Reading.{Decides}
use Rattle.program_ends.specs.Sides.{Side, Fails, side}
use Rattle.session_program.specs.Stops.{IsToldRefused, IsToldBad, IsToldSpent}
use Rattle.session_program.proofs.Does.{replay_does}
use Rattle.session_program.proofs.Headlines.{headline, legal_up_to}

pub done_does : (source source' sink sink' : Side) (kept : List ℕ) (script : Script) → Decides source.bytes source'.bytes kept → script_of kept ≡ Ok script → AreBytes kept
    → Gained sink.bytes sink'.bytes (show (trace_of script.config script.word script.events)) → IsSound script.config → AreGood script.config script.word script.events → AreUnspent script.config script.word script.events
    → Does Replay status.Done source source' sink sink'
done_does source source' sink sink' kept script decides reads small gained sound good unspent =
    replay_does status.Done source source' sink sink' (λ bytes told.
    let says = decides.same bytes told ∙ reads in (
      record { script = script; reads = says; ended = decides.ended bytes told script reads; trace = gained; sound = sound; good = good; unspent = unspent },
      headline kept bytes script small reads says sound good unspent,
    ))

-- the configuration is refused
pub refused_does : (source source' sink sink' : Side) (kept : List ℕ) (script : Script) (name : ConfigName) → Decides source.bytes source'.bytes kept → script_of kept ≡ Ok script
    → IsToldRefused script.config name sink.bytes sink'.bytes → Does Replay status.Config source source' sink sink'
refused_does source source' sink sink' kept script name decides reads stop =
    replay_does status.Config source source' sink sink' (λ bytes told.
    record { config = record { script = script; reads = decides.same bytes told ∙ reads; name = name; refused = stop.refused }; told = stop.gained })

-- an event is bad
pub bad_does : (source source' sink sink' : Side) (kept : List ℕ) (script : Script) → Decides source.bytes source'.bytes kept → script_of kept ≡ Ok script
    → IsToldBad script.config script.word script.events sink.bytes sink'.bytes → Does Replay status.BadEvent source source' sink sink'
bad_does source source' sink sink' kept script decides reads bad =
    replay_does status.BadEvent source source' sink sink' (λ bytes told.
    record { script = script; reads = decides.same bytes told ∙ reads; told = bad; legal = legal_up_to script bad.index bad.first.before })

-- a step is spent
pub spent_does : (source source' sink sink' : Side) (kept : List ℕ) (script : Script) → Decides source.bytes source'.bytes kept → script_of kept ≡ Ok script
    → IsToldSpent script.config script.word script.events sink.bytes sink'.bytes → Does Replay status.Spent source source' sink sink'
spent_does source source' sink sink' kept script decides reads stop =
    replay_does status.Spent source source' sink sink' (λ bytes told.
    record { script = script; reads = decides.same bytes told ∙ reads; told = stop; legal = legal_up_to script stop.index stop.first.before })
