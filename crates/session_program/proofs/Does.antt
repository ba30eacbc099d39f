-- What a command does, from what it comes to with its status.
use Rattle.std.proofs.Common.{◌≡◌, ◌⊎◌, inl, inr, ℕ, List, Some, refl, sym, subst, ◌∙◌}
use Rattle.std.specs.Prelude.{Ok, Err}
use Rattle.outside.specs.Ends.{Gained, GainedPart}
use Rattle.script_text.specs.Script.{script_of}
use Rattle.session_program.specs.declared.command.Command.{Command}
use Rattle.session_program.specs.declared.command.Command.TheVariants.{Replay, Generate, Help, Version, Unknown}
use Rattle.program_ends.specs.declared.status.Status.{Status}
use Rattle.program_ends.specs.declared.status.Status.TheVariants as status
use Rattle.session_program.specs.Does.{Does, EndsWell, EndsRefused}
use Rattle.session_program.specs.Headline.{Headline}
use Rattle.program_ends.specs.Lines.{read_fault_line, usage_line}
use Rattle.session_program.specs.Lines.{help_text, version_line}
use Rattle.session_program.specs.Runs.{IsReplay, IsRefusal, IsConfigRun, IsBadRun, IsSpentRun, IsWholeRun, IsCutRun}
use Rattle.program_ends.specs.Sides.{Side, Fails, IfTold}
use Rattle.session_program.proofs.Sound.{not_bad, not_spent, not_fault, not_unsound, not_sound, no_fault_in}

-- what a replay comes to, status by status
abbrev pub Comes : Status → Side → Side → Side → Side → Type 0
Comes status.Done source source' sink sink' = IfTold source (λ bytes. IsReplay bytes source'.bytes sink.bytes sink'.bytes × Headline bytes)
Comes status.Usage source source' sink sink' = ⊥
Comes status.Script source source' sink sink' = IfTold source (λ bytes. IsRefusal bytes sink.bytes sink'.bytes)
Comes status.Config source source' sink sink' = IfTold source (λ bytes. IsConfigRun bytes sink.bytes sink'.bytes)
Comes status.BadEvent source source' sink sink' = IfTold source (λ bytes. IsBadRun bytes sink.bytes sink'.bytes)
Comes status.NoMemory source source' sink sink' = IfTold source (λ bytes. IsWholeRun bytes sink.bytes sink'.bytes)
Comes status.ReadFault source source' sink sink' = Gained sink.bytes sink'.bytes read_fault_line × Fails source source'
Comes status.WriteFault source source' sink sink' = IfTold source (λ bytes. IsCutRun bytes source source' sink sink') × Fails sink sink'
Comes status.Spent source source' sink sink' = IfTold source (λ bytes. IsSpentRun bytes sink.bytes sink'.bytes)

-- the replay of a sound script over ends that didn't fail is done, or memory was refused
ends_well : (s : Status) (source source' sink sink' : Side) → Comes s source source' sink sink' → IfTold source (λ bytes. EndsWell bytes s source source' sink sink')
ends_well status.Done source source' sink sink' comes bytes told sound read wrote = inl refl
ends_well status.Usage source source' sink sink' comes bytes told sound read wrote = absurd comes
ends_well status.Script source source' sink sink' comes bytes told sound read wrote = let h = comes bytes told in absurd (not_fault bytes h.line h.fault sound)
ends_well status.Config source source' sink sink' comes bytes told sound read wrote = let h = comes bytes told in absurd (not_unsound bytes h.config sound)
ends_well status.BadEvent source source' sink sink' comes bytes told sound read wrote = let h = comes bytes told in absurd (not_bad bytes h.script h.reads h.told.index h.told.first sound)
ends_well status.NoMemory source source' sink sink' comes bytes told sound read wrote = inr refl
ends_well status.ReadFault source source' sink sink' comes bytes told sound read wrote = absurd (read comes.1)
ends_well status.WriteFault source source' sink sink' comes bytes told sound read wrote = absurd (wrote comes.1)
ends_well status.Spent source source' sink sink' comes bytes told sound read wrote = let h = comes bytes told in absurd (not_spent bytes h.script h.reads h.told.index h.told.first sound)

-- the replay of a script whose configuration is refused ends with that status, or memory was refused
ends_refused : (s : Status) (source source' sink sink' : Side) → Comes s source source' sink sink' → IfTold source (λ bytes. EndsRefused bytes s source source' sink sink')
ends_refused status.Done source source' sink sink' comes bytes told refused read wrote = let h = (comes bytes told).0 in absurd (not_sound bytes h.script h.reads h.sound refused)
ends_refused status.Usage source source' sink sink' comes bytes told refused read wrote = absurd comes
ends_refused status.Script source source' sink sink' comes bytes told refused read wrote = let h = comes bytes told in absurd (no_fault_in bytes h.line h.fault refused)
ends_refused status.Config source source' sink sink' comes bytes told refused read wrote = inl refl
ends_refused status.BadEvent source source' sink sink' comes bytes told refused read wrote = let h = comes bytes told in absurd (not_sound bytes h.script h.reads h.told.first.before.sound refused)
ends_refused status.NoMemory source source' sink sink' comes bytes told refused read wrote = inr refl
ends_refused status.ReadFault source source' sink sink' comes bytes told refused read wrote = absurd (read comes.1)
ends_refused status.WriteFault source source' sink sink' comes bytes told refused read wrote = absurd (wrote comes.1)
ends_refused status.Spent source source' sink sink' comes bytes told refused read wrote = let h = comes bytes told in absurd (not_sound bytes h.script h.reads h.told.first.before.sound refused)

-- a replay makes no script
replay_is_not : (n : ℕ) → Replay ≡ Generate n → ⊥
replay_is_not n same = cc

-- a replay does what it comes to
pub replay_does : (s : Status) (source source' sink sink' : Side) → Comes s source source' sink sink' → Does Replay s source source' sink sink'
replay_does s source source' sink sink' comes =
    let at : (t : Status) → s ≡ t → Comes t source source' sink sink' = λ t is. subst (λ (x : Status). Comes x source source' sink sink') is comes in
    record {
      done = λ is replay bytes told. (at status.Done is bytes told).0;
      headline = λ is replay bytes told. (at status.Done is bytes told).1;
      generated = λ n is other. absurd (replay_is_not n other);
      generated_headline = λ n is other. absurd (replay_is_not n other);
      generates = λ n other. absurd (replay_is_not n other);
      unread = λ n other. absurd (replay_is_not n other);
      unwritten = λ n is other. absurd (replay_is_not n other);
      version = λ is other. cc;
      help = λ is other. cc;
      shows_version = λ other. cc;
      shows_help = λ other. cc;
      of_replay = λ is. refl;
      words = λ is. absurd (at status.Usage is);
      unknown = λ other. cc;
      usage = λ is. absurd (at status.Usage is);
      script = at status.Script;
      refused = at status.Config;
      exact = λ replay. ends_refused s source source' sink sink' comes;
      bad = at status.BadEvent;
      free = λ is. inl refl;
      whole = at status.NoMemory;
      fault = λ is. (at status.ReadFault is).0;
      read = λ is. (at status.ReadFault is).1;
      cut = λ is. (at status.WriteFault is).0;
      write = λ is. (at status.WriteFault is).1;
      spent = at status.Spent;
      complete = λ replay. ends_well s source source' sink sink' comes;
    }
