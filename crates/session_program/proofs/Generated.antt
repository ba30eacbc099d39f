-- What the making of a script comes to.
use Rattle.std.proofs.Common.{◌≡◌, inl, inr, ℕ, ◌≤◌, List, [], refl, sym, ap, subst, ◌∙◌}
use Rattle.outside.specs.Ends.{Gained, GainedPart}
use Rattle.program_ends.proofs.Sent.{gained_none}
use Rattle.program_ends.specs.Prints.{Prints}
use Rattle.program_ends.specs.Sides.{Side, Fails}
use Rattle.program_ends.specs.declared.status.Status.{Status}
use Rattle.program_ends.specs.declared.status.Status.TheVariants as status
use Rattle.script_generator.specs.Script.{generated_config, generated_word, generated_events}
use Rattle.script_generator.proofs.Whole.{generated_sound, all_good, all_unspent}
use Rattle.session_program.specs.declared.command.Command.{Command}
use Rattle.session_program.specs.declared.command.Command.TheVariants.{Replay, Generate, Help, Version, Unknown}
use Rattle.session_program.specs.Does.{Does, generated_line}
use Rattle.session_program.specs.Headline.{HeadlineOf}
use Rattle.text_laws.proofs.Traces.{good_forms}
use Rattle.session_program.proofs.Fitting.{generated_fits}
use Rattle.session_program.proofs.Headlines.{headline_of}

abbrev the_count : Command → ℕ → ℕ
the_count (Generate n) m = n
the_count _ m = m

same_count : (n m : ℕ) → Generate n ≡ Generate m → n ≡ m
same_count n m e = ap (λ (x : Command). the_count x n) e

not_replay : (n : ℕ) → Generate n ≡ Replay → ⊥
not_replay n e = cc

not_unknown : (n : ℕ) → Generate n ≡ Unknown → ⊥
not_unknown n e = cc

not_help : (n : ℕ) → Generate n ≡ Help → ⊥
not_help n e = cc

not_version : (n : ℕ) → Generate n ≡ Version → ⊥
not_version n e = cc

-- memory was refused
pub free_does : (n : ℕ) (source sink : Side) → Does (Generate n) status.NoMemory source source sink sink
free_does n source sink = record {
  done = λ is. cc;
  headline = λ is. cc;
  generated = λ m is. cc;
  generated_headline = λ m is. cc;
  generates = λ m same. inr (inl refl);
  unread = λ m same. refl;
  unwritten = λ m is same. gained_none;
  version = λ is. cc;
  help = λ is. cc;
  words = λ is. cc;
  unknown = λ same. absurd (not_unknown n same);
  usage = λ is. cc;
  script = λ is. cc;
  refused = λ is. cc;
  bad = λ is. cc;
  free = λ is. inr (n, refl);
  whole = λ is bytes told. record { text = []; turns = inl refl; gained = gained_none };
  fault = λ is. cc;
  read = λ is. cc;
  cut = λ is. cc;
  write = λ is. cc;
  spent = λ is. cc;
  shows_version = λ same. absurd (not_version n same);
  shows_help = λ same. absurd (not_help n same);
  of_replay = λ is. cc;
  exact = λ same. absurd (not_replay n same);
  complete = λ same. absurd (not_replay n same);
}

-- its line was written
pub line_does : (n : ℕ) (source sink sink' : Side) → HeadlineOf generated_config generated_word (generated_events n) → Gained sink.bytes sink'.bytes (generated_line n)
    → Does (Generate n) status.Done source source sink sink'
line_does n source sink sink' holds gained = record {
  done = λ is same. absurd (not_replay n same);
  headline = λ is same. absurd (not_replay n same);
  generated = λ m is same. subst (λ k. Gained sink.bytes sink'.bytes (generated_line k)) (same_count n m same) gained;
  generated_headline = λ m is same. subst (λ k. HeadlineOf generated_config generated_word (generated_events k)) (same_count n m same) holds;
  generates = λ m same. inl refl;
  unread = λ m same. refl;
  unwritten = λ m is. cc;
  version = λ is same. absurd (not_version n same);
  help = λ is same. absurd (not_help n same);
  words = λ is. cc;
  unknown = λ same. absurd (not_unknown n same);
  usage = λ is. cc;
  script = λ is. cc;
  refused = λ is. cc;
  bad = λ is. cc;
  free = λ is. cc;
  whole = λ is. cc;
  fault = λ is. cc;
  read = λ is. cc;
  cut = λ is. cc;
  write = λ is. cc;
  spent = λ is. cc;
  shows_version = λ same. absurd (not_version n same);
  shows_help = λ same. absurd (not_help n same);
  of_replay = λ is. cc;
  exact = λ same. absurd (not_replay n same);
  complete = λ same. absurd (not_replay n same);
}

-- or its front, and the sink failed
pub front_does : (n : ℕ) (source sink sink' : Side) → GainedPart sink.bytes sink'.bytes (generated_line n) → Fails sink sink' → Does (Generate n) status.WriteFault source source sink sink'
front_does n source sink sink' part fails = record {
  done = λ is. cc;
  headline = λ is. cc;
  generated = λ m is. cc;
  generated_headline = λ m is. cc;
  generates = λ m same. inr (inr refl);
  unread = λ m same. refl;
  unwritten = λ m is. cc;
  version = λ is. cc;
  help = λ is. cc;
  words = λ is. cc;
  unknown = λ same. absurd (not_unknown n same);
  usage = λ is. cc;
  script = λ is. cc;
  refused = λ is. cc;
  bad = λ is. cc;
  free = λ is. cc;
  whole = λ is. cc;
  fault = λ is. cc;
  read = λ is. cc;
  cut = λ is. part;
  write = λ is. fails;
  spent = λ is. cc;
  shows_version = λ same. absurd (not_version n same);
  shows_help = λ same. absurd (not_help n same);
  of_replay = λ is. cc;
  exact = λ same. absurd (not_replay n same);
  complete = λ same. absurd (not_replay n same);
}

-- what holds of the script of so many rounds
pub generated_holds : (n : ℕ) → n ≤ 200000 → HeadlineOf generated_config generated_word (generated_events n)
generated_holds n few =
    let good = all_good n few in
    headline_of generated_config generated_word (generated_events n) (generated_fits n few) (good_forms generated_config generated_word (generated_events n) good) generated_sound good (all_unspent n few)

-- the line, or its front, was written
pub print_does : (n : ℕ) (line line' : List ℕ) (s : Status) (source sink sink' : Side) → n ≤ 200000 → line ≡ generated_line n → line' ≡ line → Prints status.Done line' s sink sink' → Does (Generate n) s source source sink sink'
print_does n line line' s source sink sink' few is whole (inl h) =
    subst (λ (x : Status). Does (Generate n) x source source sink sink') (sym h.0)
    (line_does n source sink sink' (generated_holds n few) (subst (λ (bytes : List ℕ). Gained sink.bytes sink'.bytes bytes) (whole ∙ is) h.1))
print_does n line line' s source sink sink' few is whole (inr h) =
    subst (λ (x : Status). Does (Generate n) x source source sink sink') (sym h.0)
    (front_does n source sink sink' (subst (λ (bytes : List ℕ). GainedPart sink.bytes sink'.bytes bytes) (whole ∙ is) h.1) h.2)
