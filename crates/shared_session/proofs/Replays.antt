-- What a replay keeps from event to event, and where it stops.
use Rattle.std.proofs.Common.{◌≡◌, ℕ, ◌+◌, ◌<◌, ◌≤◌, List, [], ◌∷◌, ◌++◌, length, sym, ◌∙◌, ap, append_assoc, false, ◌⊎◌, inl, inr, arith}
use Rattle.std.specs.Prelude.{Some, slice_get, take, true}
use Rattle.std.proofs.lemmas.List.{length-take-le}
use Rattle.driver_model.specs.declared.action.Action.{Action}
use Rattle.driver_model.specs.declared.config.Config.{Config}
use Rattle.driver_model.specs.declared.event.Event.{Event}
use Rattle.single_session.specs.Turn.{actions_of}
use Rattle.single_session.specs.Replay.{opening_actions, state_after, trace_of, AreGood, AreUnspent, is_bad_after, is_spent_after}
use Rattle.shared_session.specs.Stops.{Shown, IsBadAt, IsSpentAt, IsSpentBy}
use Rattle.shared_session.specs.declared.session.Failure.{Failure}
use Rattle.shared_session.specs.declared.session.Failure.TheVariants.{Sound, Spent, NoMemory}
use Rattle.shared_session.specs.History.{History}
use Rattle.single_session.proofs.Replays.{trace_of-none, trace_of-more, good-none, good-more, unspent-none, unspent-more}

-- what a replay keeps from event to event: the session has taken those events, and their turns were shown
pub record Kept (config : Config) (word : ℕ) (taken : List Event) (before : List Action) (s : History) (after : List Action) : Type 0 where
  pub made : s ≡ record { config = config; word = word; events = taken; failure = Sound }
  pub shown : after ≡ before ++ trace_of config word taken
  pub good : AreGood config word taken
  pub unspent : AreUnspent config word taken

pub kept_none : (config : Config) (word : ℕ) (before after : List Action) (s : History) → s ≡ record { config = config; word = word; events = []; failure = Sound }
    → after ≡ before ++ opening_actions config word → Kept config word [] before s after
kept_none config word before after s m a = record {
  made = m;
  shown = a ∙ ap (λ (acts : List Action). before ++ acts) (sym (trace_of-none config word));
  good = good-none config word;
  unspent = unspent-none config word;
}

pub kept_more : (config : Config) (word : ℕ) (taken : List Event) (before after later : List Action) (s t : History) (e : Event) → Kept config word taken before s after
    → t ≡ record s { events = s.events ++ e ∷ [] } → later ≡ after ++ actions_of (state_after s.config s.word s.events) e
    → is_bad_after s.config s.word s.events e ≡ false → is_spent_after s.config s.word s.events e ≡ false → Kept config word (taken ++ e ∷ []) before t later
kept_more config word taken before after later s t e h n a g u =
    let es : s.events ≡ taken = ap (λ (x : History). x.events) h.made in
    let c : s.config ≡ config = ap (λ (x : History). x.config) h.made in
    let w : s.word ≡ word = ap (λ (x : History). x.word) h.made in
    record {
      made = n ∙ ap (λ (x : History). record x { events = x.events ++ e ∷ [] }) h.made;
      shown = a ∙ ap (λ (x : History). after ++ actions_of (state_after x.config x.word x.events) e) h.made ∙ ap (λ (acts : List Action). acts ++ actions_of (state_after config word taken) e) h.shown
          ∙ append_assoc before (trace_of config word taken) (actions_of (state_after config word taken) e) ∙ ap (λ (acts : List Action). before ++ acts) (sym (trace_of-more config word taken e));
      good = good-more config word taken e h.good (sym (ap (λ (x : History). is_bad_after x.config x.word x.events e) h.made) ∙ g);
      unspent = unspent-more config word taken e h.unspent (sym (ap (λ (x : History). is_spent_after x.config x.word x.events e) h.made) ∙ u);
    }

-- the session of a replay has taken the first n events
pub taken_count : (config : Config) (word : ℕ) (all : List Event) (n : ℕ) (before after : List Action) (s : History) → n ≤ length all → Kept config word (take n all) before s after → length s.events ≡ n
taken_count config word all n before after s l h = ap (λ (x : History). length x.events) h.made ∙ length-take-le n all l

-- a bad event ends a replay
pub bad_stops : (config : Config) (word : ℕ) (all : List Event) (n k : ℕ) (before after later : List Action) (s t : History) (e : Event) →
    n < length all → slice_get all n ≡ Some e → Kept config word (take n all) before s after → later ≡ after → t ≡ s → is_bad_after s.config s.word s.events e ≡ true
    → k ≡ length t.events → Shown config word all before later k × IsBadAt config word all k
bad_stops config word all n k before after later s t e l is h o u b c =
    let count : k ≡ n = c ∙ ap (λ (x : History). length x.events) u ∙ taken_count config word all n before after s (omega arith) h in
    let bad : is_bad_after config word (take n all) e ≡ true = sym (ap (λ (x : History). is_bad_after x.config x.word x.events e) h.made) ∙ b in
    rw count (record { within = omega arith; shown = o ∙ h.shown; good = h.good; unspent = h.unspent }, record { event = e; stands = is; bad = bad })

not_spent : (f : Failure) → f ≡ Sound → f ≡ Spent → ⊥
not_spent Sound s e = cc
not_spent Spent s e = cc
not_spent NoMemory s e = cc

-- the step of a session that hasn't failed is spent
pub spent_by : (config : Config) (word : ℕ) (taken : List Event) (before after : List Action) (s : History) (e : Event) → Kept config word taken before s after → (s.failure ≡ Spent) ⊎ IsSpentBy s e → IsSpentBy s e
spent_by config word taken before after s e h (inl failed) = absurd (not_spent s.failure (ap (λ (x : History). x.failure) h.made) failed)
spent_by config word taken before after s e h (inr spent) = spent

-- a spent step ends a replay
pub spent_stops : (config : Config) (word : ℕ) (all : List Event) (n k : ℕ) (before after later : List Action) (s : History) (e : Event) →
    n < length all → slice_get all n ≡ Some e → Kept config word (take n all) before s after → later ≡ after → (s.failure ≡ Spent) ⊎ IsSpentBy s e
    → k ≡ length s.events → Shown config word all before later k × IsSpentAt config word all k
spent_stops config word all n k before after later s e l is h o why c =
    let count : k ≡ n = c ∙ taken_count config word all n before after s (omega arith) h in
    let by = spent_by config word (take n all) before after s e h why in
    let good : is_bad_after config word (take n all) e ≡ false = sym (ap (λ (x : History). is_bad_after x.config x.word x.events e) h.made) ∙ by.good in
    let spent : is_spent_after config word (take n all) e ≡ true = sym (ap (λ (x : History). is_spent_after x.config x.word x.events e) h.made) ∙ by.spent in
    rw count (record { within = omega arith; shown = o ∙ h.shown; good = h.good; unspent = h.unspent }, record { event = e; stands = is; good = good; spent = spent })
