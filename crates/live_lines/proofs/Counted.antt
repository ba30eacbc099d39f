-- Callers have made as many events as there are lines.
use Rattle.std.proofs.Common.{◌≡◌, ℕ, ◌+◌, List, [], ◌∷◌, length, refl, sym, ◌∙◌, arith}
use Rattle.caller_threads.specs.declared.job.Turn.{Turn}
use Rattle.caller_threads.specs.Each.{EachAt}
use Rattle.caller_threads.specs.Submits.{Line, IsTurnOf, places_of}
use Rattle.session_callers.proofs.Whole.{length_counted}
use Rattle.shared_session.specs.History.{History}
use Rattle.live_lines.specs.Flights.{AreSubmitted}
use Rattle.live_lines.specs.declared.planning.Plan.{Plan}

as_long : (ts : List Turn) → length (places_of ts) ≡ length ts
as_long [] = refl
as_long (t ∷ ts) = let r = as_long ts in omega (arith, r)

one_each : (P : ℕ → Line → Turn → Type 0) (n : ℕ) (ls : List Line) (ts : List Turn) → EachAt P n ls ts → length ts ≡ length ls
one_each P n [] [] h = refl
one_each P n [] (t ∷ ts) h = absurd h
one_each P n (l ∷ ls) [] h = absurd h
one_each P n (l ∷ ls) (t ∷ ts) h = let r = one_each P (n + 1) ls ts h.1 in omega (arith, r)

pub as_many : (plan : Plan) (word : ℕ) (lines : List Line) (numbers : List ℕ) (s : History) → AreSubmitted plan word lines numbers s → length s.events ≡ length lines
as_many plan word lines numbers s h =
    sym (length_counted (places_of h.turns) (length s.events) h.once) ∙ as_long h.turns ∙ one_each (λ i. IsTurnOf plan.config word s.events) 0 lines h.turns h.each
