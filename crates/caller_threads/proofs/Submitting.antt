-- Lines that one caller submits, one turn after another.
use Rattle.std.proofs.Common.{◌≡◌, ℕ, suc, ◌+◌, ◌-◌, ◌≤◌, List, [], ◌∷◌, ◌++◌, length, refl, sym, ap, ◌∙◌, subst, arith, append_assoc, append-nil, length-append}
use Rattle.std.proofs.lemmas.Bool.{both_ways}
use mathlib.Core.List.{IsPrefix}
use Rattle.driver_model.specs.Config.{kind_of}
use Rattle.driver_model.specs.declared.action.Action.{Action}
use Rattle.driver_model.specs.declared.config.Config.{Config}
use Rattle.driver_model.specs.declared.event.Event.{Event}
use Rattle.driver_model.specs.declared.kind.SessionKind.{SessionKind}
use Rattle.driver_model.specs.Request.{has_no_form}
use Rattle.single_session.specs.Turn.{is_bad}
use Rattle.single_session.proofs.Stays.{state_kind}
use Rattle.single_session.specs.Replay.{state_after}
use Rattle.shared_session.specs.declared.errors.StepError.{StepError}
use Rattle.shared_session.specs.declared.errors.StepError.TheVariants.{BadEvent, Spent, NoMemory}
use Rattle.session_callers.specs.Calls.{Known, Turned, Added, Refused}
use Rattle.session_callers.proofs.Totals.{prefix_of, prefix_all, prefix_length}
use Rattle.session_callers.specs.Rule.{Ascends}
use Rattle.caller_threads.specs.declared.job.Turn.{Turn}
use Rattle.caller_threads.specs.Submits.{Line, IsAllowed, event_of, IsTurnOf, AreTurnsOf, places_of, IsSameCaller, HasSubmitted, HasTried, HasLooked, IsCause}
use Rattle.caller_threads.proofs.Places.{each_append, each_moved}

places_append : (s t : List Turn) → places_of (s ++ t) ≡ places_of s ++ places_of t
places_append [] t = refl
places_append (x ∷ s) t = ap (λ l. x.place ∷ l) (places_append s t)

-- places that rise later
ascends_from : (a m b : ℕ) (ys : List ℕ) → a ≤ m → Ascends m ys b → Ascends a ys b
ascends_from a m b [] le h = omega arith
ascends_from a m b (y ∷ ys) le h = ((let l = h.0 in omega arith), h.1)

-- places that rise behind others
ascends_append : (a m b : ℕ) (xs ys : List ℕ) → Ascends a xs m → Ascends m ys b → Ascends a (xs ++ ys) b
ascends_append a m b [] ys h k = ascends_from a m b ys h k
ascends_append a m b (x ∷ xs) ys h k = (h.0, ascends_append (suc x) m b xs ys h.1 k)

-- places that rise rise below any higher top
pub ascends_within : (a m b : ℕ) (xs : List ℕ) → m ≤ b → Ascends a xs m → Ascends a xs b
ascends_within a m b [] le h = omega arith
ascends_within a m b (x ∷ xs) le h = (h.0, ascends_within (suc x) m b xs le h.1)

-- and from any lower place on
pub ascends_anyhow : (a b : ℕ) (xs : List ℕ) → Ascends a xs b → Ascends 0 xs b
ascends_anyhow a b xs h = ascends_from 0 a b xs (omega arith) h

same_all : (v : Known) → IsSameCaller v v
same_all v = record {
  table = refl;
  number = refl;
  seen = prefix_all v.view.seen;
  idle = λ h. h;
  config = (refl, refl);
  most = refl;
  dial = (refl, refl);
  ended = (refl, refl);
}

same_then : (u v w : Known) → IsSameCaller u v → IsSameCaller v w → IsSameCaller u w
same_then u v w h k = record {
  table = k.table ∙ h.table;
  number = k.number ∙ h.number;
  seen = prefix_of u.view.seen v.view.seen w.view.seen h.seen k.seen;
  idle = λ e. k.idle (h.idle e);
  config = (k.config.0 ∙ h.config.0, k.config.1 ∙ h.config.1);
  most = k.most ∙ h.most;
  dial = (k.dial.0 ∙ h.dial.0, k.dial.1 ∙ h.dial.1);
  ended = (k.ended.0 ∙ h.ended.0, k.ended.1 ∙ h.ended.1);
}

same_turned : (v w : Known) → w.table ≡ v.table → Turned v.view w.view → IsSameCaller v w
same_turned v w table t = record {
  table = table;
  number = t.number;
  seen = t.seen;
  idle = λ e. t.idle;
  config = (t.config, t.word);
  most = t.most;
  dial = (t.dial, t.claims);
  ended = (t.ended, t.fronts);
}

pub submitted_none : (v : Known) → HasSubmitted v v [] []
submitted_none v = record {
  same = same_all v;
  drawn = omega arith;
  mine = sym (append-nil v.view.mine);
  rises = omega arith;
  told = λ log p. tt;
}

-- the turns of a caller, by a history that begins with what it has seen later
told_later : (v w : Known) (lines : List Line) (turns : List Turn) → IsSameCaller v w → ((log : List Event) → IsPrefix v.view.seen log → AreTurnsOf v.view.config v.view.word log lines turns) → (log : List Event) → IsPrefix w.view.seen log → AreTurnsOf w.view.config w.view.word log lines turns
told_later v w lines turns k told log p =
    let here = told log (prefix_of v.view.seen w.view.seen log k.seen p) in
    subst (λ (n : ℕ). AreTurnsOf w.view.config n log lines turns) (sym k.config.1)
    (subst (λ (c : Config). AreTurnsOf c v.view.word log lines turns) (sym k.config.0) here)

pub submitted_then : (u v w : Known) (a b : List Line) (s t : List Turn) → HasSubmitted u v a s → HasSubmitted v w b t → HasSubmitted u w (a ++ b) (s ++ t)
submitted_then u v w a b s t h k = record {
  same = same_then u v w h.same k.same;
  drawn = (let e = h.drawn in let f = k.drawn in let l = length-append a b in omega arith);
  mine = k.mine ∙ ap (λ m. m ++ places_of t) h.mine ∙ append_assoc u.view.mine (places_of s) (places_of t) ∙ ap (λ m. u.view.mine ++ m) (sym (places_append s t));
  rises = subst (λ (ps : List ℕ). Ascends (length u.view.seen) ps (length w.view.seen)) (sym (places_append s t)) (ascends_append (length u.view.seen) (length v.view.seen) (length w.view.seen) (places_of s) (places_of t) h.rises k.rises);
  told = λ log p.
      each_append (λ i. IsTurnOf w.view.config w.view.word log) 0 a b s t (told_later v w a s k.same h.told log p)
      (each_moved (IsTurnOf w.view.config w.view.word log) 0 (0 + length a) b t (k.told log p));
}

-- one turn, by what `submit_as` says of it
pub one_turn : (v w : Known) (line : Line) (n : ℕ) (t : Turn) → w.table ≡ v.table → Turned v.view w.view → Added v.view w.view (event_of line) n [] t.actions.items → t.place ≡ length w.view.seen - 1 → t.number ≡ n → HasSubmitted v w (line ∷ []) (t ∷ [])
one_turn v w line n t table turned added place number =
    let at : t.place ≡ length added.before = (let e = ap length added.seen in let l = length-append added.before (event_of line ∷ []) in omega arith) in
    record {
      same = same_turned v w table turned;
      drawn = turned.drawn;
      mine = added.mine ∙ ap (λ p. v.view.mine ++ p ∷ []) (sym at);
      rises = ((let l = prefix_length v.view.seen added.before added.begins in omega arith), (let e = ap length added.seen in let l = length-append added.before (event_of line ∷ []) in omega arith));
      told = λ log p. (
        record {
          before = added.before;
          begins = subst (λ (l : List Event). IsPrefix l log) added.seen p;
          place = at;
          number = number ∙ added.number;
          unspent = added.unspent;
          actions = added.actions;
        },
        tt,
      );
    }

-- one turn that took nothing
pub one_look : (v w : Known) (error : StepError) (event : Event) (shown after : List Action) → w.table ≡ v.table → Turned v.view w.view → Refused error v.view w.view event shown after → HasLooked v w
one_look v w error event shown after table turned refused = record {
  same = same_turned v w table turned;
  drawn = turned.drawn;
  mine = refused.mine;
}

pub cause_of : (error : StepError) (v w : Known) (line : Line) (shown after : List Action) → IsAllowed (kind_of v.view.config) line → Turned v.view w.view → Refused error v.view w.view (event_of line) shown after → IsCause error v w
unfolding is_bad
cause_of BadEvent v w line shown after allowed turned refused =
    let same : (state_after w.view.config w.view.word w.view.seen).kind ≡ (kind_of v.view.config) = state_kind w.view.config w.view.word w.view.seen ∙ ap (λ (c : Config). kind_of c) turned.config in
    absurd (both_ways (has_no_form (kind_of v.view.config) line.0) allowed (ap (λ (kind : SessionKind). has_no_form kind line.0) (sym same) ∙ refused.why.1))
cause_of (Spent n) v w line shown after allowed turned refused = ((let e = turned.drawn in omega arith), refused.why.0, refused.why.1, refused.spent refused.why.0)
cause_of NoMemory v w line shown after allowed turned refused = tt

-- so far all was submitted
pub tried_so_far : (v w : Known) (lines done rest : List Line) (turns : List Turn) → lines ≡ done ++ rest → HasSubmitted v w done turns → HasTried v w lines
tried_so_far v w lines done rest turns whole h = record {
  first = done;
  rest = rest;
  whole = whole;
  turns = turns;
  same = h.same;
  drawn = (let e = h.drawn in let l = length-append done rest in let f = ap length whole in omega arith);
  mine = h.mine;
  told = h.told;
}

pub tried_and_looked : (u v w : Known) (lines done rest : List Line) (line : Line) (turns : List Turn) → lines ≡ done ++ line ∷ rest → HasSubmitted u v done turns → HasLooked v w → HasTried u w lines
tried_and_looked u v w lines done rest line turns whole h k = record {
  first = done;
  rest = line ∷ rest;
  whole = whole;
  turns = turns;
  same = same_then u v w h.same k.same;
  drawn = (let e = h.drawn in let g = k.drawn in let l = length-append done (line ∷ rest) in let f = ap length whole in omega arith);
  mine = k.mine ∙ h.mine;
  told = told_later v w done turns k.same h.told;
}

pub cause_later : (error : StepError) (u v w : Known) (a : List Line) (s : List Turn) → HasSubmitted u v a s → IsCause error v w → IsCause error u w
cause_later BadEvent u v w a s h c = c
cause_later (Spent n) u v w a s h c = ((let e = h.drawn in let f = c.0 in omega arith), c.1, c.2, c.3)
cause_later NoMemory u v w a s h c = tt
