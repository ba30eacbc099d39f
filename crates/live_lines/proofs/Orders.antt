-- The turns of lines, in the order of their places, are those of the history.
use Rattle.std.proofs.Common.{◌≡◌, ℕ, zero, suc, ◌+◌, ◌-◌, ◌<◌, ◌≤◌, false, List, [], ◌∷◌, ◌++◌, All, length, append_assoc, refl, sym, ap, ◌∙◌, subst, arith, length-append}
use Rattle.std.specs.Prelude.{slice_index_or}
use Rattle.std.specs.List.{sum_by}
use Rattle.std.specs.List.Sorted.{IsNonDecreasingBy, IsPermutation}
use Rattle.std.proofs.lemmas.List.Elements.{All-nil, All-cons, All-head, All-tail}
use Rattle.std.proofs.lemmas.List.Recursion.{is_sum_by}
use Rattle.std.proofs.lemmas.List.Sorted.{All-permutation, sum_by-IsPermutation}
use Rattle.driver_model.specs.Config.{kind_of}
use Rattle.driver_model.specs.declared.action.Action.{Action}
use Rattle.driver_model.specs.declared.config.Config.{Config}
use Rattle.driver_model.specs.declared.kind.SessionKind.{SessionKind}
use Rattle.driver_model.specs.declared.event.Event.{Event}
use Rattle.single_session.specs.declared.core_state.Core.{Core}
use Rattle.single_session.specs.Turn.{is_bad, next_turn, actions_of}
use Rattle.single_session.specs.Replay.{opening_core, opening_actions, state_after, is_spent_after, trace_of, turns_on, AreGood, AreGoodOn, AreUnspent, AreUnspentOn}
use Rattle.single_session.proofs.Replays.{state_after-more, state_after-none}
use Rattle.single_session.proofs.Stays.{state_kind}
use Rattle.session_callers.specs.Rule.{Each, below, same, times}
use Rattle.caller_threads.specs.declared.job.Turn.{Turn}
use Rattle.caller_threads.specs.Each.{EachAt}
use Rattle.caller_threads.specs.Submits.{Line, IsAllowed, IsTurnOf, IsTold, event_of, places_of, actions_in}
use Rattle.live_lines.specs.Flights.{IsOfLine}

-- a line that a script of such a session may have, and whose turn it is
abbrev IsTurn : Config → ℕ → List Event → Turn → Type 0
IsTurn config word log t = (line : Line) × IsAllowed (kind_of config) line × IsTurnOf config word log line t

each_turn : (config : Config) (word : ℕ) (log : List Event) (n : ℕ) (lines : List Line) (turns : List Turn) → Each (IsAllowed (kind_of config)) lines → EachAt (λ i. IsTurnOf config word log) n lines turns → All (IsTurn config word log) turns
each_turn config word log n [] [] allowed each = All-nil (IsTurn config word log)
each_turn config word log n [] (t ∷ turns) allowed each = absurd each
each_turn config word log n (line ∷ lines) [] allowed each = absurd each
each_turn config word log n (line ∷ lines) (t ∷ turns) allowed each =
    All-cons (IsTurn config word log) t turns (line, allowed.0, each.0) (each_turn config word log (n + 1) lines turns allowed.1 each.1)

-- how often a place is that of a turn, in any order
times_ordered : (p : ℕ) (turns order : List Turn) → IsPermutation turns order → times p (places_of order) ≡ times p (places_of turns)
times_ordered p turns order same_turns =
    let f = λ (t : Turn). same p t.place in
    let sums : (ts : List Turn) → times p (places_of ts) ≡ sum_by f ts = is_sum_by (λ (ts : List Turn). times p (places_of ts)) f refl (λ t ts. refl) in
    sums order ∙ sum_by-IsPermutation f turns order same_turns ∙ sym (sums turns)

-- the place is that of a turn among these
abbrev pub Occurs : ℕ → List Turn → Type 0
Occurs p ts = (i : ℕ) × (i < length ts) × ((d : Turn) → (slice_index_or ts i d).place ≡ p)

first_or_later : (p : ℕ) (t : Turn) (ts : List Turn) (n : ℕ) → same p t.place ≡ n → 0 < times p (places_of (t ∷ ts)) → (0 < times p (places_of ts) → Occurs p ts) → Occurs p (t ∷ ts)
first_or_later p t ts zero other some rest = let r = rest (omega (arith, some, other)) in (suc r.0, omega (arith, r.1), r.2)
first_or_later p t ts (suc n) here some rest = (0, omega arith, λ d. let e : t.place ≡ p = omega (arith, here) in e)

pub occurs : (p : ℕ) (ts : List Turn) → 0 < times p (places_of ts) → Occurs p ts
occurs p [] some = absurd (omega (arith, some))
occurs p (t ∷ ts) some = first_or_later p t ts (same p t.place) refl some (λ later. occurs p ts later)

-- two histories that are one, cut at the same place
pub same_cut : {A : Type 0} (xs ys : List A) (a b : A) (more rest : List A) → length xs ≡ length ys → xs ++ a ∷ more ≡ ys ++ b ∷ rest → (xs ≡ ys) × (a ≡ b)
same_cut [] [] a b more rest long is = (refl, cc)
same_cut [] (y ∷ ys) a b more rest long is = absurd (omega (arith, long))
same_cut (x ∷ xs) [] a b more rest long is = absurd (omega (arith, long))
same_cut (x ∷ xs) (y ∷ ys) a b more rest long is =
    let head : x ≡ y = cc in
    let tail : xs ++ a ∷ more ≡ ys ++ b ∷ rest = cc in
    let r = same_cut xs ys a b more rest (omega (arith, long)) tail in
    ((λ i. head i ∷ r.0 i), r.1)

-- so many places from one on are those of these turns, each once
abbrev AreOnce : ℕ → ℕ → List Turn → Type 0
AreOnce from top ts = (p : ℕ) → times p (places_of ts) ≡ below p top - below p from

-- what a line hands in is good
pub line_good : (c : Core) (line : Line) → IsAllowed c.kind line → is_bad c (event_of line).kind ≡ false
unfolding is_bad
line_good c line allowed = allowed

-- the turns from a core on are shown; their events are those of lines, none of them is bad, and no step of them spent
record Comes (c : Core) (es : List Event) (ts : List Turn) : Type 0 where
  actions : actions_in ts ≡ turns_on c es
  only : Each IsOfLine es
  good : AreGoodOn c es
  unspent : AreUnspentOn c es

module _ (config : Config) (word : ℕ) (log : List Event) where
  first_place : (t : Turn) (ts : List Turn) (from : ℕ) → from < length log → IsNonDecreasingBy (λ (x : Turn). x.place) (t ∷ ts) → AreOnce from (length log) (t ∷ ts) → t.place ≡ from
  first_place t ts from less rises once =
      let found = occurs from (t ∷ ts) (omega (arith, once from)) in
      let low : t.place ≤ (slice_index_or (t ∷ ts) found.0 t).place = rises 0 found.0 t (omega arith) found.1 in
      omega (arith, low, found.2 t, once t.place)

  next_once : (t : Turn) (ts : List Turn) (from : ℕ) → from < length log → t.place ≡ from → AreOnce from (length log) (t ∷ ts) → AreOnce (from + 1) (length log) ts
  next_once t ts from less is once = λ p. omega (arith, once p, is)

  turns_come : (ts : List Turn) (front rest : List Event) → log ≡ front ++ rest → All (IsTurn config word log) ts → IsNonDecreasingBy (λ (t : Turn). t.place) ts → AreOnce (length front) (length log) ts
      → Comes (state_after config word front) rest ts
  turns_come [] front [] is each rises once = record { actions = refl; only = tt; good = tt; unspent = tt }
  turns_come [] front (e ∷ rest) is each rises once =
      let long = ap length is ∙ length-append front (e ∷ rest) in absurd (omega (arith, long, once (length front)))
  turns_come (t ∷ ts) front [] is each rises once =
      let long = ap length is ∙ length-append front [] in absurd (omega (arith, long, once t.place))
  turns_come (t ∷ ts) front (e ∷ rest) is each rises once =
      let long = ap length is ∙ length-append front (e ∷ rest) in
      let less : length front < length log = omega (arith, long) in
      let place = first_place t ts (length front) less rises once in
      let turn = All-head (IsTurn config word log) t ts each in
      let of = turn.2 in
      let whole = sym (append_assoc of.before (event_of turn.0 ∷ []) of.begins.0) ∙ of.begins.1 ∙ is in
      let at = same_cut of.before front (event_of turn.0) e of.begins.0 rest (sym of.place ∙ place) whole in
      let c = state_after config word front in
      let acts : t.actions.items ≡ actions_of c e = of.actions ∙ (λ i. actions_of (state_after config word (at.0 i)) (at.1 i)) in
      let good : is_bad c e.kind ≡ false = subst (λ (x : Event). is_bad c x.kind ≡ false) at.1 (line_good c turn.0 (subst (λ (kind : SessionKind). IsAllowed kind turn.0) (sym (state_kind config word front)) turn.1)) in
      let behind : log ≡ (front ++ e ∷ []) ++ rest = is ∙ sym (append_assoc front (e ∷ []) rest) in
      let further = length-append front (e ∷ []) in
      let later = next_once t ts (length front) less place once in
      let more = turns_come ts (front ++ e ∷ []) rest behind (All-tail (IsTurn config word log) t ts each) (λ i j d le lt. rises (suc i) (suc j) d (omega (arith, le)) (omega (arith, lt)))
      (subst (λ (k : ℕ). AreOnce k (length log) ts) (sym further) later) in
      let next : Comes (next_turn c e.kind).core rest ts = subst (λ (x : Core). Comes x rest ts) (state_after-more config word front e) more in
      record {
        actions = λ i. acts i ++ next.actions i;
        only = ((turn.0, sym at.1), next.only);
        good = (good, next.good);
        unspent = ((λ i. is_spent_after config word (sym at.0 i) (sym at.1 i)) ∙ of.unspent, next.unspent);
      }

-- What was asked is the trace of the history. Its events are those of lines, none of them is bad, and no step of them spent
pub record IsWell (config : Config) (word : ℕ) (log : List Event) (actions : List Action) : Type 0 where
  pub asked : actions ≡ trace_of config word log
  pub only : Each IsOfLine log
  pub good : AreGood config word log
  pub unspent : AreUnspent config word log

pub told_well : (config : Config) (word : ℕ) (log : List Event) (lines : List Line) (turns : List Turn) (actions : List Action) → Each (IsAllowed (kind_of config)) lines → EachAt (λ i. IsTurnOf config word log) 0 lines turns
    → ((p : ℕ) → times p (places_of turns) ≡ below p (length log)) → IsTold turns (opening_actions config word) actions → IsWell config word log actions
unfolding trace_of AreGood AreUnspent
told_well config word log lines turns actions allowed each once told =
    let all = All-permutation (IsTurn config word log) turns told.order told.ordered.same (each_turn config word log 0 lines turns allowed each) in
    let all_once : AreOnce 0 (length log) told.order = λ p. omega (arith, times_ordered p turns told.order told.ordered.same, once p) in
    let comes = turns_come config word log told.order [] log refl all told.ordered.rises all_once in
    let from_opening : Comes (opening_core config word) log told.order = subst (λ (c : Core). Comes c log told.order) (state_after-none config word) comes in
    record {
      asked = told.actions ∙ ap (λ (more : List Action). opening_actions config word ++ more) from_opening.actions;
      only = from_opening.only;
      good = from_opening.good;
      unspent = from_opening.unspent;
    }
