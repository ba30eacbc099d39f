-- What callers leave that were stopped: a history of lines alone, and of no more than were to be submitted.
use Rattle.std.proofs.Common.{◌≡◌, ℕ, zero, suc, ◌+◌, ◌<◌, ◌≤◌, ◌==◌, nat_le, Bool, true, false, List, [], ◌∷◌, ◌++◌, length, length-append, append_assoc, refl, sym, ap, ◌∙◌, subst, arith}
use Rattle.std.specs.Prelude.{◌%◌, slice_index_or}
use mathlib.Core.List.{IsPrefix}
use Rattle.containers.proofs.Choices.{by_test, le_from, not_le_from}
use Rattle.driver_model.specs.Config.{kind_of}
use Rattle.driver_model.specs.declared.config.Config.{Config}
use Rattle.driver_model.specs.declared.kind.SessionKind.{SessionKind}
use Rattle.driver_model.specs.declared.event.Event.{Event}
use Rattle.session_callers.specs.Calls.{Known}
use Rattle.session_callers.specs.Rule.{Each, below, same, times, total}
use Rattle.caller_threads.specs.declared.job.Turn.{Turn}
use Rattle.caller_threads.specs.Each.{EachAt}
use Rattle.caller_threads.specs.Lines.{share, share_from, one_if}
use Rattle.caller_threads.specs.Submits.{Line, IsAllowed, AreTurnsOf, HasTried, IsTurnOf, event_of, places_of}
use Rattle.live_lines.specs.Flights.{IsBare, IsOfLine}
use Rattle.live_lines.proofs.Dealt.{sum_add, sum_from, total_shares}
use Rattle.live_lines.proofs.Orders.{line_good, occurs, same_cut}
use Rattle.single_session.specs.Turn.{is_bad}
use Rattle.single_session.specs.Replay.{AreGood, AreGoodOn, AreUnspent, AreUnspentOn, is_bad_after, is_spent_after, state_after}
use Rattle.single_session.specs.declared.core_state.Core.{Core}
use Rattle.single_session.proofs.Replays.{state_after-more, state_after-none}
use Rattle.single_session.proofs.Stays.{state_kind}

-- a turn of some line that a script of such a session may have
abbrev IsLineTurn : Config → ℕ → List Event → Turn → Type 0
IsLineTurn config word log t = (line : Line) × IsAllowed (kind_of config) line × IsTurnOf config word log line t

-- the turns of all callers: each is that of a line, a place occurs as often as among the callers' own, and they are no more than
-- the lines of their shares
record AllTurns (config : Config) (word : ℕ) (log : List Event) (counts : ℕ → ℕ) (n m : ℕ) (ws : List Known) : Type 0 where
  turns : List Turn
  each : Each (IsLineTurn config word log) turns
  places : (p : ℕ) → times p (places_of turns) ≡ total (λ (c : Known). times p c.view.mine) ws
  few : length turns ≤ sum_from counts n m

times_more : (p : ℕ) (xs ys : List Turn) → times p (places_of (xs ++ ys)) ≡ times p (places_of xs) + times p (places_of ys)
times_more p [] ys = omega arith
times_more p (x ∷ xs) ys = let r = times_more p xs ys in omega (arith, r)

each_more : (P : Turn → Type 0) (xs ys : List Turn) → Each P xs → Each P ys → Each P (xs ++ ys)
each_more P [] ys h k = k
each_more P (x ∷ xs) ys h k = (h.0, each_more P xs ys h.1 k)

line_turns : (config : Config) (word : ℕ) (log : List Event) (i : ℕ) (ls : List Line) (ts : List Turn) → Each (IsAllowed (kind_of config)) ls → EachAt (λ (j : ℕ). IsTurnOf config word log) i ls ts → Each (IsLineTurn config word log) ts × (length ts ≡ length ls)
line_turns config word log i [] [] allowed h = (tt, refl)
line_turns config word log i [] (t ∷ ts) allowed h = absurd h
line_turns config word log i (l ∷ ls) [] allowed h = absurd h
line_turns config word log i (l ∷ ls) (t ∷ ts) allowed h = let r = line_turns config word log (i + 1) ls ts allowed.1 h.1 in (((l, allowed.0, h.0), r.0), omega (arith, r.1))

-- a share of lines, and its front, are some of them
each_behind : (P : Line → Type 0) (xs ys : List Line) → Each P xs → Each P ys → Each P (xs ++ ys)
each_behind P [] ys h k = k
each_behind P (x ∷ xs) ys h k = (h.0, each_behind P xs ys h.1 k)

each_front : (P : Line → Type 0) (xs ys : List Line) → Each P (xs ++ ys) → Each P xs
each_front P [] ys h = tt
each_front P (x ∷ xs) ys h = (h.0, each_front P xs ys h.1)

each_share : (P : Line → Type 0) (k c n : ℕ) (xs : List Line) → Each P xs → Each P (share_from k c n xs)
each_share P k c n [] h = tt
each_share P k c n (x ∷ xs) h = each_behind P (one_if (n % k == c) x) (share_from k c (n + 1) xs) (one (n % k == c)) (each_share P k c (n + 1) xs h.1)
  where
    one : (b : Bool) → Each P (one_if b x)
    one true = (h.0, tt)
    one false = tt

module _ (config : Config) (word : ℕ) (log : List Event) (lines : List Line) (allowed : Each (IsAllowed (kind_of config)) lines) (k : ℕ) where
  abbrev counts : ℕ → ℕ
  counts c = length (share k c lines)

  all_turns : (n : ℕ) (vs ws : List Known) → Each (IsBare config word) vs → EachAt (λ c v w. HasTried v w (share k c lines)) n vs ws → Each (λ (c : Known). IsPrefix c.view.seen log) ws
      → AllTurns config word log counts n (length vs) ws
  all_turns n [] [] bare each seen = record { turns = []; each = tt; places = λ p. refl; few = omega arith }
  all_turns n [] (w ∷ ws) bare each seen = absurd each
  all_turns n (v ∷ vs) [] bare each seen = absurd each
  all_turns n (v ∷ vs) (w ∷ ws) bare each seen =
      let h = each.0 in
      let rest = all_turns (n + 1) vs ws bare.1 each.1 seen.1 in
      let told : AreTurnsOf config word log h.first h.turns =
      subst (λ (x : ℕ). AreTurnsOf config x log h.first h.turns) (h.same.config.1 ∙ bare.0.1)
      (subst (λ (x : Config). AreTurnsOf x w.view.word log h.first h.turns) (h.same.config.0 ∙ bare.0.0) (h.told log seen.0)) in
      let may : Each (IsAllowed (kind_of config)) h.first = each_front (IsAllowed (kind_of config)) h.first h.rest (subst (Each (IsAllowed (kind_of config))) h.whole (each_share (IsAllowed (kind_of config)) k n 0 lines allowed)) in
      let own = line_turns config word log 0 h.first h.turns may told in
      let mine : w.view.mine ≡ places_of h.turns = h.mine ∙ ap (λ (xs : List ℕ). xs ++ places_of h.turns) bare.0.2 in
      let whole : length (share k n lines) ≡ length h.first + length h.rest = ap length h.whole ∙ length-append h.first h.rest in
      let long = length-append h.turns rest.turns in
      record {
        turns = h.turns ++ rest.turns;
        each = each_more (IsLineTurn config word log) h.turns rest.turns own.0 rest.each;
        places = λ p. let a = times_more p h.turns rest.turns in let b : times p w.view.mine ≡ times p (places_of h.turns) = ap (times p) mine in let r = rest.places p in omega (arith, a, b, r);
        few = omega (arith, long, own.1, whole, rest.few);
      }

-- how often places below a bound occur, added up, are no more than there are
same_after : (x c m : ℕ) → x < c → sum_from (λ p. same p x) c m ≡ 0
same_after x c zero lt = refl
same_after x c (suc m) lt = let r = same_after x (c + 1) m (omega (arith, lt)) in omega (arith, r, lt)

same_once : (x c m : ℕ) → sum_from (λ p. same p x) c m ≤ 1
same_once x c zero = omega arith
same_once x c (suc m) = by_test (nat_le (c + 1) x) (sum_from (λ p. same p x) c (suc m) ≤ 1)
    (λ t. let lt = le_from (c + 1) x t in let r = same_once x (c + 1) m in omega (arith, lt, r))
    (λ f. let le = not_le_from (c + 1) x f in let r = same_after x (c + 1) m (omega (arith, le)) in omega (arith, r))

times_within : (xs : List ℕ) (c m : ℕ) → sum_from (λ p. times p xs) c m ≤ length xs
times_within [] c m = let r = none c m in omega (arith, r)
  where
    none : (c m : ℕ) → sum_from (λ p. 0) c m ≡ 0
    none c zero = refl
    none c (suc m) = let r = none (c + 1) m in omega (arith, r)
times_within (x ∷ xs) c m =
    let a = sum_add (λ p. same p x) (λ p. times p xs) c m in
    let b = same_once x c m in
    let r = times_within xs c m in
    omega (arith, a, b, r)

-- each place below a top counts
below_all : (g : ℕ → ℕ) (top c m : ℕ) → ((p : ℕ) → g p ≡ below p top) → c + m ≡ top → sum_from g c m ≡ m
below_all g top c zero is long = refl
below_all g top c (suc m) is long = let a = is c in let r = below_all g top (c + 1) m is (omega (arith, long)) in omega (arith, a, r, long)

-- so there are as many at least
pub places_few : (ts : List Turn) (top : ℕ) → ((p : ℕ) → times p (places_of ts) ≡ below p top) → top ≤ length ts
places_few ts top once =
    let sum = below_all (λ p. times p (places_of ts)) top 0 top once (omega arith) in
    let within = times_within (places_of ts) 0 top in
    let long = as_long ts in
    omega (arith, sum, within, long)
  where
    as_long : (xs : List Turn) → length (places_of xs) ≡ length xs
    as_long [] = refl
    as_long (x ∷ xs) = let r = as_long xs in omega (arith, r)

-- one of these, at its index
each_at : (P : Turn → Type 0) (xs : List Turn) (i : ℕ) → i < length xs → Each P xs → (t : Turn) × P t × ((d : Turn) → slice_index_or xs i d ≡ t)
each_at P [] i lt h = absurd (omega (arith, lt))
each_at P (x ∷ xs) zero lt h = (x, h.0, λ d. refl)
each_at P (x ∷ xs) (suc i) lt h = each_at P xs i (omega (arith, lt)) h.1

module _ (config : Config) (word : ℕ) (log : List Event) (turns : List Turn) (each : Each (IsLineTurn config word log) turns) (once : (p : ℕ) → times p (places_of turns) ≡ below p (length log)) where
  -- the event at a place is that of a line, it isn't bad there, and its step isn't spent
  of_line_at : (front : List Event) (e : Event) (more : List Event) → front ++ e ∷ more ≡ log → IsOfLine e × (is_bad_after config word front e ≡ false) × (is_spent_after config word front e ≡ false)
  of_line_at front e more is =
      let long : length front + suc (length more) ≡ length log = sym (length-append front (e ∷ more)) ∙ ap length is in
      let found = occurs (length front) turns (omega (arith, once (length front), long)) in
      let at = each_at (IsLineTurn config word log) turns found.0 found.1 each in
      let turn = at.1.2 in
      let place : length turn.before ≡ length front = sym turn.place ∙ ap (λ (t : Turn). t.place) (sym (at.2 at.0)) ∙ found.2 at.0 in
      let whole : turn.before ++ event_of at.1.0 ∷ turn.begins.0 ≡ front ++ e ∷ more = sym (append_assoc turn.before (event_of at.1.0 ∷ []) turn.begins.0) ∙ turn.begins.1 ∙ sym is in
      let here = same_cut turn.before front (event_of at.1.0) e turn.begins.0 more place whole in
      let c = state_after config word front in (
        (at.1.0, sym here.1),
        subst (λ (x : Event). is_bad c x.kind ≡ false) here.1 (line_good c at.1.0 (subst (λ (kind : SessionKind). IsAllowed kind at.1.0) (sym (state_kind config word front)) at.1.1)),
        (λ i. is_spent_after config word (sym here.0 i) (sym here.1 i)) ∙ turn.unspent,
      )

  each_of_line : (front es more : List Event) → front ++ (es ++ more) ≡ log → Each IsOfLine es
  each_of_line front [] more is = tt
  each_of_line front (e ∷ es) more is = ((of_line_at front e (es ++ more) is).0, each_of_line (front ++ e ∷ []) es more (append_assoc front (e ∷ []) (es ++ more) ∙ is))

  -- so none of them is bad, and no step of them spent
  each_well : (front es more : List Event) → front ++ (es ++ more) ≡ log → AreGoodOn (state_after config word front) es × AreUnspentOn (state_after config word front) es
  each_well front [] more is = (tt, tt)
  each_well front (e ∷ es) more is =
      let here = of_line_at front e (es ++ more) is in
      let rest = subst (λ (c : Core). AreGoodOn c es × AreUnspentOn c es) (state_after-more config word front e) (each_well (front ++ e ∷ []) es more (append_assoc front (e ∷ []) (es ++ more) ∙ is)) in
      ((here.1, rest.0), (here.2, rest.1))

-- what a caller that was stopped has seen is of lines alone, and of no more than there were, and all is well with it
pub record IsSeen (config : Config) (word : ℕ) (lines : List Line) (seen : List Event) : Type 0 where
  pub only : Each IsOfLine seen
  pub few : length seen ≤ length lines
  pub good : AreGood config word seen
  pub unspent : AreUnspent config word seen

pub stopped_of_lines : (config : Config) (word : ℕ) (log seen : List Event) (lines : List Line) (vs ws : List Known) → Each (IsAllowed (kind_of config)) lines → 0 < length vs → Each (IsBare config word) vs → EachAt (λ c v w. HasTried v w (share (length vs) c lines)) 0 vs ws
    → Each (λ (c : Known). IsPrefix c.view.seen log) ws → ((p : ℕ) → total (λ (c : Known). times p c.view.mine) ws ≡ below p (length log)) → IsPrefix seen log → IsSeen config word lines seen
unfolding AreGood AreUnspent
stopped_of_lines config word log seen lines vs ws allowed some bare each begins mine front =
    let all = all_turns config word log lines allowed (length vs) 0 vs ws bare each begins in
    let once : (p : ℕ) → times p (places_of all.turns) ≡ below p (length log) = λ p. all.places p ∙ mine p in
    let top = places_few all.turns (length log) once in
    let ones = shares_long (length vs) some lines in
    let long : length seen + length front.0 ≡ length log = sym (length-append seen front.0) ∙ ap length front.1 in
    let well = subst (λ (c : Core). AreGoodOn c seen × AreUnspentOn c seen) (state_after-none config word) (each_well config word log all.turns all.each once [] seen front.0 front.1) in
    record {
      only = each_of_line config word log all.turns all.each once [] seen front.0 front.1;
      few = omega (arith, top, all.few, ones, long);
      good = well.0;
      unspent = well.1;
    }
  where
    ones_long : (xs : List Line) → total (λ (x : Line). 1) xs ≡ length xs
    ones_long [] = refl
    ones_long (x ∷ xs) = let r = ones_long xs in omega (arith, r)

    sums_long : (k : ℕ) (xs : List Line) (c m : ℕ) → sum_from (λ i. total (λ (x : Line). 1) (share k i xs)) c m ≡ sum_from (λ i. length (share k i xs)) c m
    sums_long k xs c zero = refl
    sums_long k xs c (suc m) = let a = ones_long (share k c xs) in let r = sums_long k xs (c + 1) m in omega (arith, a, r)

    shares_long : (k : ℕ) → 0 < k → (xs : List Line) → sum_from (λ i. length (share k i xs)) 0 k ≡ length xs
    shares_long k some xs = sym (sums_long k xs 0 k) ∙ total_shares (λ (x : Line). 1) k 0 some xs ∙ ones_long xs
