-- The counts of the generated script's trace, counted action by action.
use Rattle.std.proofs.Common.{◌≡◌, ℕ, ◌+◌, ◌-◌, ◌^◌, ◌≤◌, min, List, [], ◌∷◌, ◌++◌, length, refl, ap, sym, ◌∙◌, arith}
use Rattle.driver_model.specs.declared.action.Action.{Action}
use Rattle.driver_model.specs.declared.action.Action.TheVariants as action
use Rattle.driver_model.specs.declared.action.Cause.{Cause}
use Rattle.driver_model.specs.declared.action.Cause.TheVariants as cause
use Rattle.driver_model.specs.declared.event.EventKind.{EventKind}
use Rattle.driver_model.specs.declared.event.EventKind.TheVariants as event
use Rattle.single_session.specs.Replay.{trace_of}
use Rattle.script_generator.specs.Script.{generated_config, generated_word, generated_events, event_of}
use Rattle.script_generator.specs.Fronts.{front}
use Rattle.script_generator.specs.Summary.{count, is_turn, is_start, is_outcome, is_cancel, is_of_cancel, cancels_one, takes, items_dealt, added, no_summary, counted, counted_each, summary_of}
use Rattle.script_generator.specs.declared.summary.Summary.{Summary}
use Rattle.script_generator.proofs.Fronts.{trace}
use Rattle.script_generator.proofs.Whole.{all_dealt, all_few, all_taken}

-- one number of a summary, counted on
abbrev count_on : (Action → ℕ) → ℕ → List Action → ℕ
count_on f m [] = m
count_on f m (a ∷ more) = count_on f (added m (f a)) more

-- each number by itself
by_number : (s : Summary) (t : List Action) → counted_each s t ≡ record {
  turns = count_on is_turn s.turns t;
  starts = count_on is_start s.starts t;
  items = count_on takes s.items t;
  outcomes = count_on is_outcome s.outcomes t;
  cancelled = count_on is_cancel s.cancelled t;
}
by_number s [] = refl
by_number s (a ∷ t) = by_number (counted s a) t

small : (m : ℕ) → m ≤ 2 ^ 64 - 1 → min (2 ^ 64 - 1) m ≡ m
small m l = omega arith

-- within 64 bits that is the sum
counts_on : (f : Action → ℕ) (m : ℕ) (t : List Action) → m + count f t ≤ 2 ^ 64 - 1 → count_on f m t ≡ m + count f t
counts_on f m [] l = omega arith
counts_on f m (a ∷ t) l =
    let sum : added m (f a) ≡ m + f a = small (m + f a) (omega arith) in
    let rest : count_on f (m + f a) t ≡ m + f a + count f t = counts_on f (m + f a) t (omega arith) in
    ap (λ k. count_on f k t) sum ∙ rest ∙ (omega arith)

-- of a kind there are no more actions than actions
at_most : (f : Action → ℕ) → ((a : Action) → f a ≤ 1) → (t : List Action) → count f t ≤ length t
at_most f one [] = omega arith
at_most f one (a ∷ t) = let h = one a in let rest : count f t ≤ length t = at_most f one t in omega arith

one_turn : (a : Action) → is_turn a ≤ 1
one_turn (action.Turn k c) = omega arith
one_turn _ = omega arith

one_start : (a : Action) → is_start a ≤ 1
one_start (action.Start l message who need len) = omega arith
one_start _ = omega arith

one_outcome : (a : Action) → is_outcome a ≤ 1
one_outcome (action.Outcome n o) = omega arith
one_outcome _ = omega arith

one_cancel : (k : EventKind) → cancels_one k ≤ 1
one_cancel (event.Cancel n) = omega arith
one_cancel _ = omega arith

one_of_cause : (c : Cause) → is_of_cancel c ≤ 1
one_of_cause (cause.Event e) = one_cancel e.kind
one_of_cause (cause.Opening config word) = omega arith

one_left : (a : Action) → is_cancel a ≤ 1
one_left (action.Turn k c) = one_of_cause c
one_left _ = omega arith

-- a trace that is short, of which as many items are dealt as messages take, is counted action by action
counted_whole : (t : List Action) → items_dealt t ≡ count takes t → length t ≤ 4000000 → count takes t ≤ 200000 → counted_each no_summary t ≡ summary_of t
unfolding summary_of
counted_whole t dealt short few =
    let turns = at_most is_turn one_turn t in
    let starts = at_most is_start one_start t in
    let outcomes = at_most is_outcome one_outcome t in
    let cancelled = at_most is_cancel one_left t in
    let plain : (f : Action → ℕ) → count f t ≤ 4000000 → count_on f 0 t ≡ count f t = λ f l. counts_on f 0 t (omega arith) ∙ (omega arith) in
    by_number no_summary t
    ∙ (λ i. record {
      turns = plain is_turn (omega arith) i;
      starts = plain is_start (omega arith) i;
      items = (plain takes (omega arith) ∙ sym dealt) i;
      outcomes = plain is_outcome (omega arith) i;
      cancelled = plain is_cancel (omega arith) i;
    })

-- the counts of the generated script's trace
pub generated_counts : (n : ℕ) → n ≤ 200000 → counted_each no_summary (trace (front n ++ event_of event.Shutdown ∷ [])) ≡ summary_of (trace_of generated_config generated_word (generated_events n))
unfolding generated_events
generated_counts n few = counted_whole (trace (front n ++ event_of event.Shutdown ∷ [])) (all_dealt n few) (all_few n few) (all_taken n few)
