-- What a live run does, by what it comes to and what is written.
use Rattle.std.proofs.Math.Seq.{take-length}
use Rattle.std.proofs.lemmas.Bool.Decides.{nat_tests}
use Rattle.std.specs.Prelude.{◌==◌}
use Rattle.std.proofs.Math.Nat.{le_refl}
use Rattle.program_ends.specs.Status.{number}
use Rattle.std.proofs.Common.{arith, length, ◌≡◌, ◌⊎◌, inl, inr, ℕ, Bool, true, false, true≢false, List, Option, Some, None, Ok, Err, refl, sym, ap, ◌∙◌, subst}
use Rattle.outside.specs.Ends.{Gained, GainedPart}
use Rattle.outside.specs.declared.world.Call.{Call}
use Rattle.caller_threads.specs.Submits.{Line}
use Rattle.std.specs.Prelude.{Result}
use Rattle.redis_error.specs.declared.config_name.ConfigName.{ConfigName}
use Rattle.program_ends.specs.Lines.{read_fault_line}
use Rattle.program_ends.specs.Sides.{Side, Fails, IfTold}
use Rattle.program_ends.specs.declared.status.Status.{Status}
use Rattle.program_ends.specs.declared.status.Status.TheVariants as status
use Rattle.script_text.specs.Lines.{lines_of}
use Rattle.live_lines.specs.Does.{IsLineRun, IsConfigRun, IsRefusedPlan, DoesLive}
use Rattle.live_lines.specs.Flights.{AskedWord}
use Rattle.live_lines.specs.Live.{IsAsked, IsAtFault, IsLive, IsPlan, IsRefused, Writes, flight_text, refusal_line, refusal_status}
use Rattle.live_lines.specs.Plans.{plan_of, refused_of}
use Rattle.live_lines.proofs.Answered.{each_outcome}
use Rattle.live_lines.proofs.Planned.{none_refused}
use Rattle.live_lines.specs.declared.flying.Flight.{Flight}
use Rattle.live_lines.specs.declared.planning.Plan.{Plan}
use Rattle.live_lines.specs.declared.reading.Refusal.{Refusal}
use Rattle.live_lines.specs.declared.reading.Refusal.TheVariants as refusal
use Rattle.driver_model.specs.Config.{kind_of}

-- two statuses of other numbers
apart : (a b : Status) → (number a == number b) ≡ false → a ≡ b → ⊥
apart a b differ e = let same : number a ≡ number b = ap number e in grind (arith, nat_tests)

-- one that is none of three
no_way : (its a b c : Status) → (number its == number a) ≡ false → (number its == number b) ≡ false → (number its == number c) ≡ false → (its ≡ a) ⊎ (its ≡ b) ⊎ (its ≡ c) → ⊥
no_way its a b c x y z (inl e) = apart its a x e
no_way its a b c x y z (inr (inl e)) = apart its b y e
no_way its a b c x y z (inr (inr e)) = apart its c z e

-- a status that some text may be cut short with
abbrev is_cut : Status → Bool
is_cut status.NoMemory = true
is_cut status.WriteFault = true
is_cut _ = false

-- a run that ends with another status wrote its whole text
wrote : (its t s : Status) (text : List ℕ) (sink sink' : Side) → is_cut t ≡ false → Writes its text s sink sink' → s ≡ t → (its ≡ t) × Gained sink.bytes sink'.bytes text
wrote its t s text sink sink' whole (inl w) is = (sym w.0 ∙ is, w.1)
wrote its t s text sink sink' whole (inr (inl w)) is = absurd (true≢false (sym (ap is_cut (sym is ∙ w.0)) ∙ whole))
wrote its t s text sink sink' whole (inr (inr w)) is = absurd (true≢false (sym (ap is_cut (sym is ∙ w.0)) ∙ whole))

-- and any run wrote the front of it
part_by : (its s : Status) (text : List ℕ) (sink sink' : Side) → Writes its text s sink sink' → (Gained sink.bytes sink'.bytes text → GainedPart sink.bytes sink'.bytes text) → GainedPart sink.bytes sink'.bytes text
part_by its s text sink sink' (inl w) all = all w.1
part_by its s text sink sink' (inr (inl w)) all = w.1
part_by its s text sink sink' (inr (inr w)) all = w.1

-- a sink that failed
failed : (its s : Status) (text : List ℕ) (sink sink' : Side) → (its ≡ status.WriteFault → ⊥) → Writes its text s sink sink' → s ≡ status.WriteFault → Fails sink sink'
failed its s text sink sink' other (inl w) is = absurd (other (sym w.0 ∙ is))
failed its s text sink sink' other (inr (inl w)) is = w.2
failed its s text sink sink' other (inr (inr w)) is = absurd (apart status.NoMemory status.WriteFault refl (sym w.0 ∙ is))

-- how a run may end that writes this
ended : (its s : Status) (text : List ℕ) (sink sink' : Side) → Writes its text s sink sink' → (s ≡ its) ⊎ (s ≡ status.WriteFault) ⊎ (s ≡ status.NoMemory)
ended its s text sink sink' (inl w) = inl w.0
ended its s text sink sink' (inr (inl w)) = inr (inl w.0)
ended its s text sink sink' (inr (inr w)) = inr (inr w.0)

-- words that are a plan
plan_not_none : (words : List (List ℕ)) → IsPlan words → plan_of words ≡ None → ⊥
plan_not_none words p e = some_none p.plan (sym p.plans ∙ e)
  where
    some_none : (plan : Plan) → Some plan ≡ None → ⊥
    some_none plan e = cc

-- a whole text is a front of itself
whole_part : {old new : Option (List ℕ)} (text : List ℕ) → Gained old new text → GainedPart old new text
whole_part {old} {new} text gained = record { count = length text; within = le_refl (length text); gained = subst (λ (xs : List ℕ). Gained old new xs) (sym (take-length text)) gained }

part_of : (its s : Status) (text : List ℕ) (sink sink' : Side) → Writes its text s sink sink' → GainedPart sink.bytes sink'.bytes text
part_of its s text sink sink' w = part_by its s text sink sink' w (whole_part text)

-- where the sink didn't fail
well_by : (its s : Status) (text : List ℕ) (sink sink' : Side) → (Fails sink sink' → ⊥) → Writes its text s sink sink' → (s ≡ its) ⊎ (s ≡ status.NoMemory)
well_by its s text sink sink' well (inl w) = inl w.0
well_by its s text sink sink' well (inr (inl w)) = absurd (well w.2)
well_by its s text sink sink' well (inr (inr w)) = inr w.0

-- words are one plan
one_plan : (a b : Plan) → Some a ≡ Some b → a ≡ b
one_plan a b e = cc

none_some : (name : ConfigName) → None ≡ Some name → ⊥
none_some name e = cc

-- a live run that came to its end
module _ (usage : List ℕ) (words : List (List ℕ)) (s : Status) (source source' sink sink' : Side) (old new : Option (List Call)) where
  pub flown : (f : Flight) → IfTold source (λ bytes. IsLive words bytes source'.bytes old new f) → IsPlan words → Writes status.Done (flight_text f) s sink sink'
      → DoesLive usage words s source source' sink sink' old new
  flown f live plan w =
      let text = flight_text f in
      let other : (t : Status) → is_cut t ≡ false → (number status.Done == number t) ≡ false → s ≡ t → ⊥ = λ t whole differ is. apart status.Done t differ (wrote status.Done t s text sink sink' whole w is).0 in
      record {
        done = λ is bytes told. record { flight = f; live = live bytes told; answered = each_outcome (live bytes told).asked.plan (live bytes told).asked.lines f (live bytes told).flight; output = (wrote status.Done status.Done s text sink sink' refl w is).1 };
        no_plan = λ is. absurd (other status.Usage refl refl is);
        unknown = λ none. absurd (plan_not_none words plan none);
        told = λ is. absurd (other status.Usage refl refl is);
        uncalled = λ is. absurd (none_of is);
        lines = λ is bytes told. absurd (other status.Script refl refl is);
        refused = λ is bytes told. absurd (other status.Config refl refl is);
        undialled = λ is. absurd (other status.Config refl refl is);
        bad = λ is. other status.BadEvent refl refl is;
        cut = λ why bytes told. record { text = text; output = inl (f, live bytes told, refl); part = part_of status.Done s text sink sink' w };
        write = λ is. failed status.Done s text sink sink' (λ e. apart status.Done status.WriteFault refl e) w is;
        read = λ is. absurd (other status.ReadFault refl refl is);
        fault = λ is. absurd (other status.ReadFault refl refl is);
        spent = λ is. other status.Spent refl refl is;
        exact = λ bytes told plan reads writes. absurd (not_refused bytes (live bytes told) plan);
        complete = λ bytes told asked sound reads writes. well_by status.Done s text sink sink' writes w;
      }
    where
      none_of : (s ≡ status.Usage) ⊎ (s ≡ status.Script) ⊎ (s ≡ status.ReadFault) → ⊥
      none_of (inl is) = apart status.Done status.Usage refl (wrote status.Done status.Usage s (flight_text f) sink sink' refl w is).0
      none_of (inr (inl is)) = apart status.Done status.Script refl (wrote status.Done status.Script s (flight_text f) sink sink' refl w is).0
      none_of (inr (inr is)) = apart status.Done status.ReadFault refl (wrote status.Done status.ReadFault s (flight_text f) sink sink' refl w is).0

      not_refused : (bytes : List ℕ) → IsLive words bytes source'.bytes old new f → IsRefusedPlan words bytes → ⊥
      not_refused bytes live plan =
          let same : plan.config.asked.plan ≡ live.asked.plan = one_plan plan.config.asked.plan live.asked.plan (sym plan.config.asked.plans ∙ live.asked.plans) in
          none_some plan.name (sym (none_refused live.asked.plan live.flight.sound live.flight.bare) ∙ ap refused_of (sym same) ∙ plan.config.refused)

  -- what a refusal of some status is
  usage_by : (r : Refusal) → IsRefused r words source source' old new → refusal_status r ≡ status.Usage → (plan_of words ≡ None) × (refusal_line usage r ≡ usage)
  usage_by refusal.Usage h e = (h.0, refl)
  usage_by (refusal.Line n) h e = absurd (apart status.Script status.Usage refl e)
  usage_by (refusal.Config name) h e = absurd (apart status.Config status.Usage refl e)
  usage_by refusal.ReadFault h e = absurd (apart status.ReadFault status.Usage refl e)
  usage_by refusal.NoMemory h e = absurd (apart status.NoMemory status.Usage refl e)

  line_by : (r : Refusal) → IsRefused r words source source' old new → refusal_status r ≡ status.Script → Gained sink.bytes sink'.bytes (refusal_line usage r) → IfTold source (λ bytes. IsLineRun words bytes sink sink')
  line_by refusal.Usage h e gained = absurd (apart status.Usage status.Script refl e)
  line_by (refusal.Line n) h e gained = λ bytes told. record { line = n; fault = h.1 bytes told; told = gained }
  line_by (refusal.Config name) h e gained = absurd (apart status.Config status.Script refl e)
  line_by refusal.ReadFault h e gained = absurd (apart status.ReadFault status.Script refl e)
  line_by refusal.NoMemory h e gained = absurd (apart status.NoMemory status.Script refl e)

  config_by : (r : Refusal) → IsRefused r words source source' old new → refusal_status r ≡ status.Config → Gained sink.bytes sink'.bytes (refusal_line usage r) → IfTold source (λ bytes. IsConfigRun words bytes sink sink')
  config_by refusal.Usage h e gained = absurd (apart status.Usage status.Config refl e)
  config_by (refusal.Line n) h e gained = absurd (apart status.Script status.Config refl e)
  config_by (refusal.Config name) h e gained = λ bytes told. record { name = name; refused = h.1 bytes told; told = gained }
  config_by refusal.ReadFault h e gained = absurd (apart status.ReadFault status.Config refl e)
  config_by refusal.NoMemory h e gained = absurd (apart status.NoMemory status.Config refl e)

  fault_by : (r : Refusal) → IsRefused r words source source' old new → refusal_status r ≡ status.ReadFault → Fails source source' × (refusal_line usage r ≡ read_fault_line)
  fault_by refusal.Usage h e = absurd (apart status.Usage status.ReadFault refl e)
  fault_by (refusal.Line n) h e = absurd (apart status.Script status.ReadFault refl e)
  fault_by (refusal.Config name) h e = absurd (apart status.Config status.ReadFault refl e)
  fault_by refusal.ReadFault h e = (h.1, refl)
  fault_by refusal.NoMemory h e = absurd (apart status.NoMemory status.ReadFault refl e)

  -- a refusal is none of a run that came to its end or met a bad event, or whose numbers ran out, and none that a failed sink tells
  never : (r : Refusal) → (refusal_status r ≡ status.Done → ⊥) × (refusal_status r ≡ status.BadEvent → ⊥) × (refusal_status r ≡ status.Spent → ⊥) × (refusal_status r ≡ status.WriteFault → ⊥)
  never refusal.Usage = (apart status.Usage status.Done refl, apart status.Usage status.BadEvent refl, apart status.Usage status.Spent refl, apart status.Usage status.WriteFault refl)
  never (refusal.Line n) = (apart status.Script status.Done refl, apart status.Script status.BadEvent refl, apart status.Script status.Spent refl, apart status.Script status.WriteFault refl)
  never (refusal.Config name) = (apart status.Config status.Done refl, apart status.Config status.BadEvent refl, apart status.Config status.Spent refl, apart status.Config status.WriteFault refl)
  never refusal.ReadFault = (apart status.ReadFault status.Done refl, apart status.ReadFault status.BadEvent refl, apart status.ReadFault status.Spent refl, apart status.ReadFault status.WriteFault refl)
  never refusal.NoMemory = (apart status.NoMemory status.Done refl, apart status.NoMemory status.BadEvent refl, apart status.NoMemory status.Spent refl, apart status.NoMemory status.WriteFault refl)

  -- words that are no plan are refused for that
  unknown_by : (r : Refusal) → IsRefused r words source source' old new → plan_of words ≡ None → (refusal_status r ≡ status.Usage) ⊎ (refusal_status r ≡ status.NoMemory)
  unknown_by refusal.Usage h none = inl refl
  unknown_by (refusal.Line n) h none = absurd (plan_not_none words h.0 none)
  unknown_by (refusal.Config name) h none = absurd (plan_not_none words h.0 none)
  unknown_by refusal.ReadFault h none = absurd (plan_not_none words h.0 none)
  unknown_by refusal.NoMemory h none = inr refl

  -- lines are not at fault
  not_at_fault : (n : ℕ) (bytes : List ℕ) → IsAtFault words bytes n → IsAsked words bytes → ⊥
  not_at_fault n bytes r asked =
      let same : asked.plan ≡ r.plan = one_plan asked.plan r.plan (sym asked.plans ∙ r.plans) in
      ok_not_err (lines_of (kind_of r.plan.config) bytes) asked.lines n (ap (λ (plan : Plan). lines_of (kind_of plan.config) bytes) (sym same) ∙ asked.reads) r.fault
    where
      ok_not_err : (r : Result (List Line) ℕ) (lines : List Line) (n : ℕ) → r ≡ Ok lines → r ≡ Err n → ⊥
      ok_not_err r lines n is not = cc

  -- before the lines were read the world had no call
  uncalled_by : (r : Refusal) → IsRefused r words source source' old new → (refusal_status r ≡ status.Usage) ⊎ (refusal_status r ≡ status.Script) ⊎ (refusal_status r ≡ status.ReadFault) → new ≡ old
  uncalled_by refusal.Usage h e = h.1
  uncalled_by (refusal.Line n) h e = h.2
  uncalled_by (refusal.Config name) h e = absurd (no_way status.Config status.Usage status.Script status.ReadFault refl refl refl e)
  uncalled_by refusal.ReadFault h e = h.2
  uncalled_by refusal.NoMemory h e = absurd (no_way status.NoMemory status.Usage status.Script status.ReadFault refl refl refl e)

  -- and where the configuration is refused its word was asked for
  undialled_by : (r : Refusal) → IsRefused r words source source' old new → refusal_status r ≡ status.Config → AskedWord old new
  undialled_by refusal.Usage h e = absurd (apart status.Usage status.Config refl e)
  undialled_by (refusal.Line n) h e = absurd (apart status.Script status.Config refl e)
  undialled_by (refusal.Config name) h e = h.2
  undialled_by refusal.ReadFault h e = absurd (apart status.ReadFault status.Config refl e)
  undialled_by refusal.NoMemory h e = absurd (apart status.NoMemory status.Config refl e)

  -- a plan of which something is refused is refused for that
  refused_by : (r : Refusal) (bytes : List ℕ) → IsRefused r words source source' old new → source.bytes ≡ Some bytes → IsRefusedPlan words bytes → (Fails source source' → ⊥)
      → (refusal_status r ≡ status.Config) ⊎ (refusal_status r ≡ status.NoMemory)
  refused_by refusal.Usage bytes h told plan reads = absurd (plan_not_none words (record { plan = plan.config.asked.plan; plans = plan.config.asked.plans }) h.0)
  refused_by (refusal.Line n) bytes h told plan reads = absurd (not_at_fault n bytes (h.1 bytes told) plan.config.asked)
  refused_by (refusal.Config name) bytes h told plan reads = inl refl
  refused_by refusal.ReadFault bytes h told plan reads = absurd (reads h.1)
  refused_by refusal.NoMemory bytes h told plan reads = inr refl

  -- where all is well but memory, it is refused for want of that
  well_refused : (r : Refusal) (bytes : List ℕ) → IsRefused r words source source' old new → source.bytes ≡ Some bytes → (asked : IsAsked words bytes) → refused_of asked.plan ≡ None → (Fails source source' → ⊥)
      → refusal_status r ≡ status.NoMemory
  well_refused refusal.Usage bytes h told asked sound reads = absurd (plan_not_none words (record { plan = asked.plan; plans = asked.plans }) h.0)
  well_refused (refusal.Line n) bytes h told asked sound reads = absurd (not_at_fault n bytes (h.1 bytes told) asked)
  well_refused (refusal.Config name) bytes h told asked sound reads =
      let r = h.1 bytes told in
      let same : asked.plan ≡ r.asked.plan = one_plan asked.plan r.asked.plan (sym asked.plans ∙ r.asked.plans) in
      absurd (none_some name (sym sound ∙ ap refused_of same ∙ r.refused))
  well_refused refusal.ReadFault bytes h told asked sound reads = absurd (reads h.1)
  well_refused refusal.NoMemory bytes h told asked sound reads = refl

  -- a live run that was refused
  pub not_flown : (r : Refusal) → IsRefused r words source source' old new → Writes (refusal_status r) (refusal_line usage r) s sink sink' → DoesLive usage words s source source' sink sink' old new
  not_flown r h w =
      let its = refusal_status r in
      let text = refusal_line usage r in
      record {
        done = λ is bytes told. absurd ((never r).0 (wrote its status.Done s text sink sink' refl w is).0);
        no_plan = λ is. (usage_by r h (wrote its status.Usage s text sink sink' refl w is).0).0;
        unknown = λ none. unknown_then (unknown_by r h none) (ended its s text sink sink' w);
        uncalled = λ is. uncalled_by r h (wrote_one is);
        told = λ is. let t = wrote its status.Usage s text sink sink' refl w is in subst (λ (xs : List ℕ). Gained sink.bytes sink'.bytes xs) (usage_by r h t.0).1 t.1;
        lines = λ is. let t = wrote its status.Script s text sink sink' refl w is in line_by r h t.0 t.1;
        refused = λ is. let t = wrote its status.Config s text sink sink' refl w is in config_by r h t.0 t.1;
        undialled = λ is. undialled_by r h (wrote its status.Config s text sink sink' refl w is).0;
        bad = λ is. (never r).1 (wrote its status.BadEvent s text sink sink' refl w is).0;
        cut = λ why bytes told. record { text = text; output = inr (r, h, refl); part = part_of its s text sink sink' w };
        write = λ is. failed its s text sink sink' (never r).3 w is;
        read = λ is. (fault_by r h (wrote its status.ReadFault s text sink sink' refl w is).0).0;
        fault = λ is. let t = wrote its status.ReadFault s text sink sink' refl w is in subst (λ (xs : List ℕ). Gained sink.bytes sink'.bytes xs) (fault_by r h t.0).1 t.1;
        spent = λ is. (never r).2 (wrote its status.Spent s text sink sink' refl w is).0;
        exact = λ bytes told plan reads writes. refused_then (refused_by r bytes h told plan reads) (well_by its s text sink sink' writes w);
        complete = λ bytes told asked sound reads writes. well_then (well_refused r bytes h told asked sound reads) (well_by its s text sink sink' writes w);
      }
    where
      wrote_one : (s ≡ status.Usage) ⊎ (s ≡ status.Script) ⊎ (s ≡ status.ReadFault) → (refusal_status r ≡ status.Usage) ⊎ (refusal_status r ≡ status.Script) ⊎ (refusal_status r ≡ status.ReadFault)
      wrote_one (inl is) = inl (wrote (refusal_status r) status.Usage s (refusal_line usage r) sink sink' refl w is).0
      wrote_one (inr (inl is)) = inr (inl (wrote (refusal_status r) status.Script s (refusal_line usage r) sink sink' refl w is).0)
      wrote_one (inr (inr is)) = inr (inr (wrote (refusal_status r) status.ReadFault s (refusal_line usage r) sink sink' refl w is).0)

      refused_then : (refusal_status r ≡ status.Config) ⊎ (refusal_status r ≡ status.NoMemory) → (s ≡ refusal_status r) ⊎ (s ≡ status.NoMemory) → (s ≡ status.Config) ⊎ (s ≡ status.NoMemory)
      refused_then (inl u) (inl is) = inl (is ∙ u)
      refused_then (inr n) (inl is) = inr (is ∙ n)
      refused_then any (inr none) = inr none

      unknown_then : (refusal_status r ≡ status.Usage) ⊎ (refusal_status r ≡ status.NoMemory) → (s ≡ refusal_status r) ⊎ (s ≡ status.WriteFault) ⊎ (s ≡ status.NoMemory)
          → (s ≡ status.Usage) ⊎ (s ≡ status.WriteFault) ⊎ (s ≡ status.NoMemory)
      unknown_then (inl u) (inl is) = inl (is ∙ u)
      unknown_then (inr n) (inl is) = inr (inr (is ∙ n))
      unknown_then any (inr other) = inr other

      well_then : refusal_status r ≡ status.NoMemory → (s ≡ refusal_status r) ⊎ (s ≡ status.NoMemory) → (s ≡ status.Done) ⊎ (s ≡ status.NoMemory)
      well_then n (inl is) = inr (is ∙ n)
      well_then n (inr none) = inr none
