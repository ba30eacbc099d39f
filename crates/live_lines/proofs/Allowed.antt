-- The submissions that lines are have forms in their session.
use Rattle.std.proofs.Common.{◌≡◌, refl, inl, ℕ, ◌+◌, ◌-◌, Bool, true, false, cond, List, [], ◌∷◌, All, length, Option, Some, None, IfSome, IfOk, Result, Ok, Err}
use Rattle.driver_model.specs.Config.{kind_of}
use Rattle.driver_model.specs.declared.kind.SessionKind.{SessionKind}
use Rattle.driver_model.specs.declared.event.EventKind.{EventKind}
use Rattle.driver_model.specs.declared.event.EventKind.TheVariants as event
use Rattle.script_text.specs.EventLine.{event_of}
use Rattle.script_text.specs.Lines.{submitted_by, submitted, submission_of, submission_then, words_then, submissions_from, lines_of}
use Rattle.script_text.specs.Script.{max_text, words_at, is_end, is_nothing}
use Rattle.script_text.specs.Words.{LineWords, parts}
use Rattle.session_callers.specs.Rule.{Each}
use Rattle.caller_threads.specs.Submits.{Line, IsAllowed}
use Rattle.containers.proofs.Choices.{chosen}
use Rattle.program_ends.specs.Sides.{Side}
use Rattle.outside.specs.declared.world.Call.{Call}
use Rattle.live_lines.specs.Live.{HasNoLines, IsRefused}
use Rattle.live_lines.specs.Plans.{plan_of}
use Rattle.live_lines.specs.declared.planning.Plan.{Plan}
use Rattle.live_lines.specs.declared.reading.Refusal.{Refusal}
use Rattle.live_lines.specs.declared.reading.Refusal.TheVariants as refusal
use Rattle.text_laws.specs.Fits.{AreBytes, HasForm}
use Rattle.text_laws.proofs.Held.{then_read}
use Rattle.text_laws.proofs.ScriptEvents.{IsByteLine, SaidEvent, event_fits}
use Rattle.text_laws.proofs.Scripts.{parts_bytes, words_bytes}

-- lines to a session of one kind
module _ (session : SessionKind) where
  abbrev AllAllowed : List Line → Type 0
  AllAllowed = Each (IsAllowed session)

  kind_allowed : (word : ℕ) (kind : EventKind) → HasForm session kind → IfSome (submitted_by word kind) (IsAllowed session)
  kind_allowed word (event.Submit what) form = form
  kind_allowed word (event.Cancel n) form = tt
  kind_allowed word (event.Connected l) form = tt
  kind_allowed word (event.Refused l f) form = tt
  kind_allowed word (event.Wrote l count) form = tt
  kind_allowed word (event.Bytes l piece) form = tt
  kind_allowed word (event.Ended l) form = tt
  kind_allowed word (event.ReadFault l f) form = tt
  kind_allowed word (event.WriteFault l f) form = tt
  kind_allowed word (event.Fired t) form = tt
  kind_allowed word (event.Creds c auth) form = tt
  kind_allowed word (event.CredsError c text) form = tt
  kind_allowed word (event.CredsEnd c) form = tt
  kind_allowed word (event.Timeout ms) form = tt
  kind_allowed word event.DropStream form = tt
  kind_allowed word event.Shutdown form = tt

  -- the submission that a line is
  one_allowed : (words : LineWords) → IsByteLine words → IfSome (submission_of session words) (IsAllowed session)
  one_allowed words bytes = then_read (SaidEvent session) (IsAllowed session) submitted (λ e said. kind_allowed e.word e.kind said.1) (event_of session words) (event_fits session words bytes)

  before_rest : (number : ℕ) (o : Option Line) (rest : Result (List Line) ℕ) → IfSome o (IsAllowed session) → IfOk rest AllAllowed → IfOk (submission_then number o rest) AllAllowed
  before_rest number None rest one each = tt
  before_rest number (Some line) (Ok lines) one each = (one, each)
  before_rest number (Some line) (Err n) one each = tt

  at_end : (number : ℕ) (nothing_behind : Bool) → IfOk (cond nothing_behind (Ok []) (Err (number + 1))) AllAllowed
  at_end number true = tt
  at_end number false = tt

  words_allowed : (number : ℕ) (o : Option LineWords) (nothing_behind : Bool) (rest : Result (List Line) ℕ) → IfSome o IsByteLine → IfOk rest AllAllowed → IfOk (words_then session number o nothing_behind rest) AllAllowed
  words_allowed number None nothing_behind rest bytes each = tt
  words_allowed number (Some words) nothing_behind rest bytes each =
      chosen (λ r. IfOk r AllAllowed) (is_end words) (cond nothing_behind (Ok []) (Err (number + 1))) (submission_then number (submission_of session words) rest)
      (λ t. at_end number nothing_behind) (λ f. before_rest number (submission_of session words) rest (one_allowed words bytes) each)

  -- the lines from one on
  lines_allowed : (number room : ℕ) (lines : List (List ℕ)) → All AreBytes lines → IfOk (submissions_from session number room lines) AllAllowed
  lines_allowed number room [] bytes = tt
  lines_allowed number room (line ∷ rest) bytes =
      words_allowed number (words_at number room (line ∷ rest)) (is_nothing rest) (submissions_from session (number + 1) (room - (length line + 1)) rest)
      (words_bytes number room (line ∷ rest) bytes) (lines_allowed (number + 1) (room - (length line + 1)) rest (Rattle.std.proofs.lemmas.List.Elements.All-tail AreBytes line rest bytes))

  -- all submissions that a text of bytes is
  pub all_allowed : (text : List ℕ) → AreBytes text → IfOk (lines_of session text) AllAllowed
  unfolding lines_of
  all_allowed text bytes = lines_allowed 1 max_text (parts 10 text) (parts_bytes 10 text bytes)

-- a source without lines for a plan is why there is no live run of it, and the world had no call
pub refused_lines : (calls : Option (List Call)) (refusal : Refusal) (words : List (List ℕ)) (plan : Plan) (source source' : Side) → plan_of words ≡ Some plan → HasNoLines (kind_of plan.config) refusal source source' → IsRefused refusal words source source' calls calls
refused_lines calls refusal.ReadFault words plan source source' plans why = (record { plan = plan; plans = plans }, why, refl)
refused_lines calls (refusal.Line n) words plan source source' plans why =
    (record { plan = plan; plans = plans }, (λ bytes told. record { plan = plan; plans = plans; fault = why bytes told }), refl)
refused_lines calls refusal.NoMemory words plan source source' plans why = inl refl
refused_lines calls refusal.Usage words plan source source' plans why = absurd why
refused_lines calls (refusal.Config name) words plan source source' plans why = absurd why
