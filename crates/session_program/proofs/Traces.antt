-- Traces that are written while they grow.
use Rattle.std.proofs.Common.{arith, ◌≡◌, ◌<◌, ◌≤◌, ◌⊎◌, inl, inr, ◌+◌, ℕ, suc, true, false, List, [], ◌∷◌, ◌++◌, length, Option, Some, append_assoc, ◌∙◌, refl, sym, ap, subst, length-append}
use Rattle.std.proofs.Math.Nat.{le_refl, le_of_lt}
use Rattle.std.proofs.lemmas.List.{append-nil}
use Rattle.std.proofs.lemmas.Grind.{flat_map-append}
use Rattle.std.proofs.Math.Seq.{take-append-add, take-append_seam, take-length}
use Rattle.std.specs.Prelude.{Result, Err, slice_get, take, codes}
use Rattle.outside.specs.Ends.{Gained, GainedPart}
use Rattle.redis_error.specs.declared.config_name.ConfigName.{ConfigName}
use Rattle.driver_model.specs.declared.action.Action.{Action}
use Rattle.driver_model.specs.declared.config.Config.{Config}
use Rattle.driver_model.specs.declared.event.Event.{Event}
use Rattle.legal_trace.specs.Book.{book}
use Rattle.shared_session.specs.declared.session.Failure.TheVariants.{Sound, Spent}
use Rattle.shared_session.specs.History.{History}
use Rattle.single_session.specs.Replay.{opening_actions, state_after, trace_of, AreGood, AreUnspent, is_bad_after, is_spent_after, IsSound}
use Rattle.single_session.specs.Turn.{actions_of}
use Rattle.shared_session.specs.Stops.{IsSpentAt, IsSpentBy}
use Rattle.single_session.proofs.Replays.{trace_of-none, trace_of-more}
use Rattle.shared_session.proofs.Replays.{Kept, kept_none, kept_more, taken_count, spent_stops}
use Rattle.trace_text.specs.Show.{action_line, show}
use Rattle.program_ends.specs.Streaming.{Sent}
use Rattle.program_ends.proofs.Sent.{gained_more, gained_none, sent_none, sent_all, sent_more, sent_end, sent_end_more, sent_part}
use Rattle.session_program.specs.declared.replaying.Stop.{Stop}
use Rattle.session_program.specs.declared.replaying.Stop.TheVariants as stop
use Rattle.session_program.specs.Stops.{AreTaken, AreTurns, IsFirstBad, IsFirstSpent, EndsAt, EndsBadly, EndsSpent, EndsRefused, IsToldRefused, IsNotOpened, ToldAt, SentTurns, GainedTurns, GainedFront, Ends, Told, IsReplayText, EndsWith, turns_before, event_line, stop_line}
use Rattle.session_program.specs.Notes.{IsBadNoteOf, bad_event_words, line_note}
use Rattle.program_ends.specs.Lines.{numbered_line, config_line}

-- the text of two lists of actions
pub show-append : (xs ys : List Action) → show (xs ++ ys) ≡ show xs ++ show ys
show-append xs ys = flat_map-append action_line xs ys

-- what a replay into a sink keeps from event to event: the session has taken these events, and the sink and the rest have their trace
pub record Streams (config : Config) (word : ℕ) (taken : List Event) (s : History) (old new : Option (List ℕ)) (rest : List ℕ) : Type 0 where
  pub sound : IsSound config
  pub kept : Kept config word taken [] s (trace_of config word taken)
  pub sent : Sent old new rest (show (trace_of config word taken))

streams_none : {held : Option (List ℕ)} (config : Config) (word : ℕ) (s : History) (before rest : List ℕ) → s ≡ record { config = config; word = word; events = []; failure = Sound }
    → IsSound config → before ≡ [] → rest ≡ before ++ show (opening_actions config word) → Streams config word [] s held held rest
streams_none {held} config word s before rest made sound empty shown = record {
  sound = sound;
  kept = kept_none config word [] (trace_of config word []) s made (trace_of-none config word);
  sent = sent_none rest (show (trace_of config word [])) (shown ∙ ap (λ (xs : List ℕ). xs ++ show (opening_actions config word)) empty ∙ ap (λ (acts : List Action). show acts) (sym (trace_of-none config word)));
}

-- the same where the events so far are named by the session
pub streams_opened : {held : Option (List ℕ)} (config : Config) (word : ℕ) (s : History) (before rest : List ℕ) → s ≡ record { config = config; word = word; events = []; failure = Sound }
    → IsSound config → before ≡ [] → rest ≡ before ++ show (opening_actions config word) → Streams config word s.events s held held rest
streams_opened {held} config word s before rest made sound empty shown =
    subst (λ (es : List Event). Streams config word es s held held rest) (sym (ap (λ (x : History). x.events) made)) (streams_none config word s before rest made sound empty shown)

-- one event more is kept
pub kept_next : (config : Config) (word : ℕ) (taken : List Event) (s t : History) (e : Event) → Kept config word taken [] s (trace_of config word taken) → t ≡ record s { events = s.events ++ e ∷ [] }
    → is_bad_after s.config s.word s.events e ≡ false → is_spent_after s.config s.word s.events e ≡ false → Kept config word (taken ++ e ∷ []) [] t (trace_of config word (taken ++ e ∷ []))
kept_next config word taken s t e h made good unspent =
    let before = trace_of config word taken in
    let same = ap (λ (x : History). actions_of (state_after x.config x.word x.events) e) h.made in
    kept_more config word taken [] before (trace_of config word (taken ++ e ∷ [])) s t e h made
    (trace_of-more config word taken e ∙ ap (λ (acted : List Action). before ++ acted) (sym same)) good unspent

streams_more : {old mid new : Option (List ℕ)} (config : Config) (word : ℕ) (taken : List Event) (s t : History) (e : Event) (rest grown after : List ℕ) →
    Streams config word taken s old mid rest → t ≡ record s { events = s.events ++ e ∷ [] } → is_bad_after s.config s.word s.events e ≡ false
    → is_spent_after s.config s.word s.events e ≡ false → grown ≡ rest ++ show (actions_of (state_after s.config s.word s.events) e) → Sent mid new after grown → Streams config word (taken ++ e ∷ []) t old new after
streams_more {old} {mid} {new} config word taken s t e rest grown after h made good unspent shown sent =
    let acts = actions_of (state_after config word taken) e in
    let same : actions_of (state_after s.config s.word s.events) e ≡ acts = ap (λ (x : History). actions_of (state_after x.config x.word x.events) e) h.kept.made in
    let next : trace_of config word (taken ++ e ∷ []) ≡ trace_of config word taken ++ acts = trace_of-more config word taken e in
    record {
      sound = h.sound;
      kept = kept_next config word taken s t e h.kept made good unspent;
      sent = subst (λ (xs : List ℕ). Sent old new after xs) (sym (ap (λ (acted : List Action). show acted) next ∙ show-append (trace_of config word taken) acts))
          (sent_more rest grown after (show (trace_of config word taken)) (show acts) h.sent (shown ∙ ap (λ (acted : List Action). rest ++ show acted) same) sent);
    }

-- and one event later
pub streams_next : {old mid new : Option (List ℕ)} (config : Config) (word : ℕ) (s t : History) (e : Event) (rest grown after : List ℕ) →
    Streams config word s.events s old mid rest → t ≡ record s { events = s.events ++ e ∷ [] } → is_bad_after s.config s.word s.events e ≡ false
    → is_spent_after s.config s.word s.events e ≡ false → grown ≡ rest ++ show (actions_of (state_after s.config s.word s.events) e) → Sent mid new after grown → Streams config word t.events t old new after
streams_next {old} {mid} {new} config word s t e rest grown after h made good unspent shown sent =
    subst (λ (es : List Event). Streams config word es t old new after) (sym (ap (λ (x : History). x.events) made))
    (streams_more config word s.events s t e rest grown after h made good unspent shown sent)

-- and what is left is one event less
pub taken_next : (s t : History) (e : Event) (left all : List Event) → t ≡ record s { events = s.events ++ e ∷ [] } → s.events ++ e ∷ left ≡ all → t.events ++ left ≡ all
taken_next s t e left all made is = ap (λ (x : History). x.events ++ left) made ∙ append_assoc s.events (e ∷ []) left ∙ is

-- the events so far are taken
taken_before : {old new : Option (List ℕ)} (config : Config) (word : ℕ) (all : List Event) (index : ℕ) (s : History) (rest : List ℕ) → index ≤ length all → Streams config word (take index all) s old new rest → AreTaken config word all index
taken_before {old} {new} config word all index s rest l h = record { within = l; sound = h.sound; good = h.kept.good; unspent = h.kept.unspent }

-- a bad event ends a replay into a sink
ends_badly : {old new : Option (List ℕ)} (config : Config) (word : ℕ) (all : List Event) (index number : ℕ) (s : History) (e : Event) (before after : List ℕ) →
    index < length all → slice_get all index ≡ Some e → Streams config word (take index all) s old new before → after ≡ before
    → is_bad_after s.config s.word s.events e ≡ true → number ≡ length s.events + 1 → EndsBadly config word all number old new after
ends_badly {old} {new} config word all index number s e before after l is h same b counted =
    let count = taken_count config word all index [] (trace_of config word (take index all)) s (omega arith) h.kept in
    record {
      index = index;
      counted = counted ∙ ap (λ (k : ℕ). k + 1) count;
      first = record {
        before = taken_before config word all index s before (omega arith) h;
        bad = record { event = e; stands = is; bad = sym (ap (λ (x : History). is_bad_after x.config x.word x.events e) h.kept.made) ∙ b };
      };
      sent = subst (λ (xs : List ℕ). Sent old new xs (turns_before config word all index)) (sym same) h.sent;
    }

-- and so does a spent step
ends_spent : {old new : Option (List ℕ)} (config : Config) (word : ℕ) (all : List Event) (index number : ℕ) (s : History) (e : Event) (before after : List ℕ) →
    index < length all → slice_get all index ≡ Some e → Streams config word (take index all) s old new before → after ≡ before
    → (s.failure ≡ Spent) ⊎ IsSpentBy s e → number ≡ length s.events + 1 → EndsSpent config word all number old new after
ends_spent {old} {new} config word all index number s e before after l is h same why counted =
    let acts = trace_of config word (take index all) in
    let stops = spent_stops config word all index (length s.events) [] acts acts s e l is h.kept refl why refl in
    let count = taken_count config word all index [] acts s (omega arith) h.kept in
    record {
      index = index;
      counted = counted ∙ ap (λ (k : ℕ). k + 1) count;
      first = record {
        before = taken_before config word all index s before (omega arith) h;
        spent = subst (λ (k : ℕ). IsSpentAt config word all k) count stops.1;
      };
      sent = subst (λ (xs : List ℕ). Sent old new xs (turns_before config word all index)) (sym same) h.sent;
    }

-- the sink and the rest have whole turns, wherever a replay into a sink stopped
sent_turns : {old new : Option (List ℕ)} (config : Config) (word : ℕ) (all : List Event) (index : ℕ) (s : History) (before after : List ℕ) →
    index ≤ length all → Streams config word (take index all) s old new before → after ≡ before → SentTurns config word all old new after
sent_turns {old} {new} config word all index s before after l h same = record {
  text = turns_before config word all index;
  turns = inr (index, taken_before config word all index s before l h, refl);
  sent = subst (λ (xs : List ℕ). Sent old new xs (turns_before config word all index)) (sym same) h.sent;
}

-- and where nothing was shown
sent_nothing : {held : Option (List ℕ)} (config : Config) (word : ℕ) (all : List Event) (before after : List ℕ) → before ≡ [] → after ≡ before → SentTurns config word all held held after
sent_nothing {held} config word all before after none same = record { text = []; turns = inl refl; sent = sent_none after [] (same ∙ none) }

-- no session was made
pub not_opened : (held : Option (List ℕ)) (config : Config) (word : ℕ) (all : List Event) (why : Stop) (before after : List ℕ) → IsNotOpened why config → before ≡ [] → after ≡ before → Ends why config word all held held after
not_opened held config word all (stop.Config name) before after refused none same = record { refused = refused; sent = sent_none after [] (same ∙ none) }
not_opened held config word all (stop.BadEvent n) before after refused none same = absurd refused
not_opened held config word all (stop.Spent n) before after refused none same = absurd refused
not_opened held config word all stop.NoMemory before after refused none same = sent_nothing config word all before after none same
not_opened held config word all stop.WriteFault before after refused none same = absurd refused

-- the front of whole turns
front_of_turns : {old new : Option (List ℕ)} (config : Config) (word : ℕ) (all : List Event) (text : List ℕ) → AreTurns config word all text → GainedPart old new text → GainedFront config word all old new
front_of_turns {old} {new} config word all text turns part = record { text = text; is = inl turns; part = part }

-- the sink failed behind an event: it has the front of the turns up to that event's
cut_short : {old mid new : Option (List ℕ)} (config : Config) (word : ℕ) (all : List Event) (index : ℕ) (s : History) (e : Event) (before grown : List ℕ) →
    index < length all → take (index + 1) all ≡ take index all ++ e ∷ [] → Streams config word (take index all) s old mid before
    → is_bad_after s.config s.word s.events e ≡ false → is_spent_after s.config s.word s.events e ≡ false
    → grown ≡ before ++ show (actions_of (state_after s.config s.word s.events) e) → GainedPart mid new grown → GainedFront config word all old new
cut_short {old} {mid} {new} config word all index s e before grown l next h good unspent shown part =
    let taken = take index all in
    let kept = kept_next config word taken s (record s { events = s.events ++ e ∷ [] }) e h.kept refl good unspent in
    let more_taken : AreTaken config word all (index + 1) = record {
      within = omega arith;
      sound = h.sound;
      good = subst (λ (es : List Event). AreGood config word es) (sym next) kept.good;
      unspent = subst (λ (es : List Event). AreUnspent config word es) (sym next) kept.unspent;
    } in
    let acts = actions_of (state_after config word taken) e in
    let same : actions_of (state_after s.config s.word s.events) e ≡ acts = ap (λ (x : History). actions_of (state_after x.config x.word x.events) e) h.kept.made in
    let more : grown ≡ before ++ show acts = shown ∙ ap (λ (acted : List Action). before ++ show acted) same in
    let turns : turns_before config word all index ++ show acts ≡ turns_before config word all (index + 1) =
    sym (ap (λ (es : List Event). show (trace_of config word es)) next ∙ ap (λ (acted : List Action). show acted) (trace_of-more config word taken e) ∙ show-append (trace_of config word taken) acts) in
    front_of_turns config word all (turns_before config word all index ++ show acts) (inr (index + 1, more_taken, turns))
    (sent_part before (turns_before config word all index) (show acts) h.sent (subst (λ (xs : List ℕ). GainedPart mid new xs) more part))

-- the sink failed at the end of a whole replay
pub cut_whole : {old mid new : Option (List ℕ)} (config : Config) (word : ℕ) (all taken : List Event) (rest : List ℕ) → taken ≡ all → IsSound config → AreGood config word taken → AreUnspent config word taken
    → Sent old mid rest (show (trace_of config word taken)) → GainedPart mid new rest → GainedFront config word all old new
cut_whole {old} {mid} {new} config word all taken rest same sound good unspent sent part =
    let is : taken ≡ take (length all) all = same ∙ sym (take-length all) in
    let all_taken : AreTaken config word all (length all) = record {
      within = le_refl (length all);
      sound = sound;
      good = subst (λ (es : List Event). AreGood config word es) is good;
      unspent = subst (λ (es : List Event). AreUnspent config word es) is unspent;
    } in
    let whole : show (trace_of config word taken) ++ [] ≡ turns_before config word all (length all) =
    append-nil (show (trace_of config word taken)) ∙ ap (λ (es : List Event). show (trace_of config word es)) is in
    front_of_turns config word all (show (trace_of config word taken) ++ []) (inr (length all, all_taken, whole))
    (sent_part rest (show (trace_of config word taken)) [] sent (subst (λ (xs : List ℕ). GainedPart mid new xs) (sym (append-nil rest)) part))

-- the line of where it stopped is written behind the turns before it
told_at : {old mid new : Option (List ℕ)} (First : ℕ → Type 0) (turns : ℕ → List ℕ) (words : List ℕ) (number : ℕ) (rest : List ℕ) →
    EndsAt First turns number old mid rest → Gained mid new (rest ++ numbered_line words number) → ToldAt First turns words old new
told_at {old} {mid} {new} First turns words number rest h last = record {
  index = h.index;
  first = h.first;
  gained = subst (λ (k : ℕ). Gained old new (turns h.index ++ numbered_line words k)) h.counted (sent_end_more rest (turns h.index) (numbered_line words number) h.sent last);
}

-- or its front
cut_at_line : {old mid new : Option (List ℕ)} (First : ℕ → Type 0) (turns : ℕ → List ℕ) (words : List ℕ) (number : ℕ) (rest : List ℕ) →
    (h : EndsAt First turns number old mid rest) → GainedPart mid new (rest ++ numbered_line words number) → GainedPart old new (turns h.index ++ event_line words h.index)
cut_at_line {old} {mid} {new} First turns words number rest h part =
    subst (λ (k : ℕ). GainedPart old new (turns h.index ++ numbered_line words k)) h.counted (sent_part rest (turns h.index) (numbered_line words number) h.sent part)

-- the front of whole turns, or of them and the line behind them
front_first : {old mid new : Option (List ℕ)} (config : Config) (word : ℕ) (all : List Event) (First : ℕ → Type 0) (words : List ℕ) (number : ℕ) (rest : List ℕ) →
    ((text : List ℕ) → EndsWith First (turns_before config word all) words text → IsReplayText config word all text) → ((k : ℕ) → First k → AreTaken config word all k)
    → EndsAt First (turns_before config word all) number old mid rest → GainedPart mid new (rest ++ numbered_line words number) ⊎ GainedPart mid new (rest ++ []) → GainedFront config word all old new
front_first {old} {mid} {new} config word all First words number rest inject before h (inl part) =
    let text = turns_before config word all h.index ++ event_line words h.index in
    record {
      text = text;
      is = inject text (record { index = h.index; first = h.first; is = refl });
      part = cut_at_line First (turns_before config word all) words number rest h part;
    }
front_first {old} {mid} {new} config word all First words number rest inject before h (inr part) =
    let turns = turns_before config word all h.index in
    front_of_turns config word all (turns ++ []) (inr (h.index, before h.index h.first, append-nil turns)) (sent_part rest turns [] h.sent part)

-- whole turns, and no line
turns_first : {old mid new : Option (List ℕ)} (config : Config) (word : ℕ) (all : List Event) (First : ℕ → Type 0) (number : ℕ) (rest : List ℕ) → ((k : ℕ) → First k → AreTaken config word all k)
    → EndsAt First (turns_before config word all) number old mid rest → Gained mid new (rest ++ []) → GainedTurns config word all old new
turns_first {old} {mid} {new} config word all First number rest before h gained =
    let turns = turns_before config word all h.index in
    record {
      text = turns ++ [];
      turns = inr (h.index, before h.index h.first, append-nil turns);
      gained = sent_end_more rest turns [] h.sent gained;
    }

taken_before_bad : (config : Config) (word : ℕ) (all : List Event) (k : ℕ) → IsFirstBad config word all k → AreTaken config word all k
taken_before_bad config word all k h = h.before

taken_before_spent : (config : Config) (word : ℕ) (all : List Event) (k : ℕ) → IsFirstSpent config word all k → AreTaken config word all k
taken_before_spent config word all k h = h.before

-- the line of a refused configuration is written
told_refused : {old mid new : Option (List ℕ)} (config : Config) (name : ConfigName) (rest : List ℕ) → EndsRefused config name old mid rest → Gained mid new (rest ++ config_line name) → IsToldRefused config name old new
told_refused config name rest h told = record { refused = h.refused; gained = sent_end_more rest [] (config_line name) h.sent told }

-- or nothing
told_nothing : {old mid new : Option (List ℕ)} (config : Config) (word : ℕ) (all : List Event) (name : ConfigName) (rest : List ℕ) → EndsRefused config name old mid rest → Gained mid new (rest ++ []) → GainedTurns config word all old new
told_nothing config word all name rest h told = record { text = []; turns = inl refl; gained = sent_end_more rest [] [] h.sent told }

-- or its front
front_refused : {old mid new : Option (List ℕ)} (config : Config) (word : ℕ) (all : List Event) (name : ConfigName) (rest : List ℕ) →
    EndsRefused config name old mid rest → GainedPart mid new (rest ++ config_line name) ⊎ GainedPart mid new (rest ++ []) → GainedFront config word all old new
front_refused config word all name rest h (inl part) =
    record { text = config_line name; is = inr (inr (inr (record { name = name; refused = h.refused; is = refl }))); part = sent_part rest [] (config_line name) h.sent part }
front_refused config word all name rest h (inr part) = front_of_turns config word all [] (inl refl) (sent_part rest [] [] h.sent part)

no_fault : stop.NoMemory ≡ stop.WriteFault → ⊥
no_fault is = cc

no_bad_memory : (n : ℕ) → stop.NoMemory ≡ stop.BadEvent n → ⊥
no_bad_memory n is = cc

no_bad_fault : (n : ℕ) → stop.WriteFault ≡ stop.BadEvent n → ⊥
no_bad_fault n is = cc

either_part : {mid new : Option (List ℕ)} (rest : List ℕ) → GainedPart mid new (rest ++ []) ⊎ GainedPart mid new (rest ++ []) → GainedPart mid new (rest ++ [])
either_part {mid} {new} rest (inl part) = part
either_part {mid} {new} rest (inr part) = part

-- the stop stays, and its line was written
told_same : (old mid new : Option (List ℕ)) (config : Config) (word : ℕ) (all : List Event) (s : Stop) (rest : List ℕ) → Ends s config word all old mid rest
    → (s ≡ stop.WriteFault → new ≡ mid) → (s ≡ stop.WriteFault) ⊎ Gained mid new (rest ++ stop_line s) → Told s config word all old new
told_same old mid new config word all (stop.Config name) rest ends same (inr told) = told_refused config name rest ends told
told_same old mid new config word all (stop.Config name) rest ends same (inl is) = cc
told_same old mid new config word all (stop.BadEvent n) rest ends same (inr told) = told_at (IsFirstBad config word all) (turns_before config word all) (codes "bad event") n rest ends told
told_same old mid new config word all (stop.BadEvent n) rest ends same (inl is) = cc
told_same old mid new config word all (stop.Spent n) rest ends same (inr told) = told_at (IsFirstSpent config word all) (turns_before config word all) (codes "spent event") n rest ends told
told_same old mid new config word all (stop.Spent n) rest ends same (inl is) = cc
told_same old mid new config word all stop.NoMemory rest ends same (inr told) =
    record { text = ends.text ++ []; turns = subst (λ (xs : List ℕ). AreTurns config word all xs) (sym (append-nil ends.text)) ends.turns; gained = sent_end_more rest ends.text [] ends.sent told }
told_same old mid new config word all stop.NoMemory rest ends same (inl is) = cc
told_same old mid new config word all stop.WriteFault rest ends same told = subst (λ (x : Option (List ℕ)). GainedFront config word all old x) (sym (same refl)) ends

-- memory was refused for its line
told_less : (old mid new : Option (List ℕ)) (config : Config) (word : ℕ) (all : List Event) (s : Stop) (rest : List ℕ) → Ends s config word all old mid rest → (s ≡ stop.WriteFault → ⊥)
    → Gained mid new (rest ++ []) → GainedTurns config word all old new
told_less old mid new config word all (stop.Config name) rest ends not_fault told = told_nothing config word all name rest ends told
told_less old mid new config word all (stop.BadEvent n) rest ends not_fault told = turns_first config word all (IsFirstBad config word all) n rest (taken_before_bad config word all) ends told
told_less old mid new config word all (stop.Spent n) rest ends not_fault told = turns_first config word all (IsFirstSpent config word all) n rest (taken_before_spent config word all) ends told
told_less old mid new config word all stop.NoMemory rest ends not_fault told =
    record { text = ends.text ++ []; turns = subst (λ (xs : List ℕ). AreTurns config word all xs) (sym (append-nil ends.text)) ends.turns; gained = sent_end_more rest ends.text [] ends.sent told }
told_less old mid new config word all stop.WriteFault rest ends not_fault told = absurd (not_fault refl)

-- the sink failed on the way
told_cut : (old mid new : Option (List ℕ)) (config : Config) (word : ℕ) (all : List Event) (s : Stop) (rest : List ℕ) → Ends s config word all old mid rest → (s ≡ stop.WriteFault → new ≡ mid)
    → (s ≡ stop.WriteFault) ⊎ (GainedPart mid new (rest ++ stop_line s) ⊎ GainedPart mid new (rest ++ [])) → GainedFront config word all old new
told_cut old mid new config word all stop.WriteFault rest ends same cut = subst (λ (x : Option (List ℕ)). GainedFront config word all old x) (sym (same refl)) ends
told_cut old mid new config word all (stop.Config name) rest ends same (inr cut) = front_refused config word all name rest ends cut
told_cut old mid new config word all (stop.Config name) rest ends same (inl is) = cc
told_cut old mid new config word all (stop.BadEvent n) rest ends same (inr cut) =
    front_first config word all (IsFirstBad config word all) (codes "bad event") n rest (λ text is. inr (inl is)) (taken_before_bad config word all) ends cut
told_cut old mid new config word all (stop.BadEvent n) rest ends same (inl is) = cc
told_cut old mid new config word all (stop.Spent n) rest ends same (inr cut) =
    front_first config word all (IsFirstSpent config word all) (codes "spent event") n rest (λ text is. inr (inr (inl is))) (taken_before_spent config word all) ends cut
told_cut old mid new config word all (stop.Spent n) rest ends same (inl is) = cc
told_cut old mid new config word all stop.NoMemory rest ends same (inr cut) =
    front_of_turns config word all (ends.text ++ []) (subst (λ (xs : List ℕ). AreTurns config word all xs) (sym (append-nil ends.text)) ends.turns)
    (sent_part rest ends.text [] ends.sent (either_part rest cut))
told_cut old mid new config word all stop.NoMemory rest ends same (inl is) = cc

-- What a replay that stopped leaves once it is ended: its stop, or want of memory, or the sink's fault.
pub told_end : (old mid new : Option (List ℕ)) (config : Config) (word : ℕ) (all : List Event) (s r : Stop) (rest : List ℕ) → Ends s config word all old mid rest
    → (r ≡ s) ⊎ ((r ≡ stop.NoMemory) ⊎ (r ≡ stop.WriteFault)) → (r ≡ stop.WriteFault) ⊎ Gained mid new (rest ++ stop_line r)
    → (s ≡ stop.WriteFault → (r ≡ stop.WriteFault) × (new ≡ mid))
    → (r ≡ stop.WriteFault → (s ≡ stop.WriteFault) ⊎ (GainedPart mid new (rest ++ stop_line s) ⊎ GainedPart mid new (rest ++ []))) → Told r config word all old new
told_end old mid new config word all s r rest ends (inl e) told same cut =
    subst (λ (x : Stop). Told x config word all old new) (sym e)
    (told_same old mid new config word all s rest ends (λ is. (same is).1) (subst (λ (x : Stop). (x ≡ stop.WriteFault) ⊎ Gained mid new (rest ++ stop_line x)) e told))
told_end old mid new config word all s r rest ends (inr (inl e)) (inr told) same cut =
    subst (λ (x : Stop). Told x config word all old new) (sym e)
    (told_less old mid new config word all s rest ends (λ is. no_fault (sym e ∙ (same is).0)) (subst (λ (x : Stop). Gained mid new (rest ++ stop_line x)) e told))
told_end old mid new config word all s r rest ends (inr (inl e)) (inl is) same cut = absurd (no_fault (sym e ∙ is))
told_end old mid new config word all s r rest ends (inr (inr e)) told same cut =
    subst (λ (x : Stop). Told x config word all old new) (sym e) (told_cut old mid new config word all s rest ends (λ is. (same is).1) (cut e))

-- a session that has taken the first events, and those that are left
split_take : (taken : List Event) (e : Event) (left all : List Event) → taken ++ e ∷ left ≡ all → take (length taken) all ≡ taken
split_take taken e left all is = ap (λ (es : List Event). take (length taken) es) (sym is) ∙ take-append_seam taken (e ∷ left)

split_more : (taken : List Event) (e : Event) (left all : List Event) → taken ++ e ∷ left ≡ all → take (length taken + 1) all ≡ taken ++ e ∷ []
split_more taken e left all is = ap (λ (es : List Event). take (length taken + 1) es) (sym is) ∙ take-append-add taken (e ∷ left) 1

split_at : (taken : List Event) (e : Event) (left all : List Event) → taken ++ e ∷ left ≡ all → slice_get all (length taken) ≡ Some e
split_at [] e left all is = ap (λ (es : List Event). slice_get es 0) (sym is)
split_at (d ∷ taken) e left all is = ap (λ (es : List Event). slice_get es (suc (length taken))) (sym is) ∙ split_at taken e left (taken ++ e ∷ left) refl

split_within : (taken : List Event) (e : Event) (left all : List Event) → taken ++ e ∷ left ≡ all → length taken < length all
split_within taken e left all is = omega (arith, ap length is, length-append taken (e ∷ left))

-- a turn that wasn't taken ends a replay into a sink
stopped_turn : {old new : Option (List ℕ)} (config : Config) (word : ℕ) (all : List Event) (index : ℕ) (s : History) (e : Event) (why : Stop) (before after : List ℕ) →
    index < length all → slice_get all index ≡ Some e → Streams config word (take index all) s old new before → after ≡ before
    → ((n : ℕ) → why ≡ stop.BadEvent n → is_bad_after s.config s.word s.events e ≡ true) → ((n : ℕ) → why ≡ stop.BadEvent n → n ≡ length s.events + 1)
    → ((n : ℕ) → why ≡ stop.Spent n → (s.failure ≡ Spent) ⊎ IsSpentBy s e) → ((n : ℕ) → why ≡ stop.Spent n → n ≡ length s.events + 1)
    → (why ≡ stop.WriteFault → ⊥) → ((name : ConfigName) → why ≡ stop.Config name → ⊥) → Ends why config word all old new after
stopped_turn {old} {new} config word all index s e (stop.Config name) before after l is h same bad number spent count writes opened = absurd (opened name refl)
stopped_turn {old} {new} config word all index s e (stop.BadEvent n) before after l is h same bad number spent count writes opened = ends_badly config word all index n s e before after l is h same (bad n refl) (number n refl)
stopped_turn {old} {new} config word all index s e (stop.Spent n) before after l is h same bad number spent count writes opened = ends_spent config word all index n s e before after l is h same (spent n refl) (count n refl)
stopped_turn {old} {new} config word all index s e stop.NoMemory before after l is h same bad number spent count writes opened = sent_turns config word all index s before after (omega arith) h same
stopped_turn {old} {new} config word all index s e stop.WriteFault before after l is h same bad number spent count writes opened = absurd (writes refl)

-- the same of one that has taken the events before that of the turn
pub stopped_behind : {old new : Option (List ℕ)} (config : Config) (word : ℕ) (all left : List Event) (s : History) (e : Event) (why : Stop) (before after : List ℕ) →
    s.events ++ e ∷ left ≡ all → Streams config word s.events s old new before → after ≡ before
    → ((n : ℕ) → why ≡ stop.BadEvent n → is_bad_after s.config s.word s.events e ≡ true) → ((n : ℕ) → why ≡ stop.BadEvent n → n ≡ length s.events + 1)
    → ((n : ℕ) → why ≡ stop.Spent n → (s.failure ≡ Spent) ⊎ IsSpentBy s e) → ((n : ℕ) → why ≡ stop.Spent n → n ≡ length s.events + 1)
    → (why ≡ stop.WriteFault → ⊥) → ((name : ConfigName) → why ≡ stop.Config name → ⊥) → Ends why config word all old new after
stopped_behind {old} {new} config word all left s e why before after is h same bad number spent count writes opened =
    stopped_turn config word all (length s.events) s e why before after (split_within s.events e left all is) (split_at s.events e left all is)
    (subst (λ (es : List Event). Streams config word es s old new before) (sym (split_take s.events e left all is)) h) same bad number spent count writes opened

-- the sink failed behind such a turn
pub cut_behind : {old mid new : Option (List ℕ)} (config : Config) (word : ℕ) (all left : List Event) (s : History) (e : Event) (before grown : List ℕ) →
    s.events ++ e ∷ left ≡ all → Streams config word s.events s old mid before
    → is_bad_after s.config s.word s.events e ≡ false → is_spent_after s.config s.word s.events e ≡ false
    → grown ≡ before ++ show (actions_of (state_after s.config s.word s.events) e) → GainedPart mid new grown → GainedFront config word all old new
cut_behind {old} {mid} {new} config word all left s e before grown is h good unspent shown part =
    let first = split_take s.events e left all is in
    cut_short config word all (length s.events) s e before grown (split_within s.events e left all is)
    (split_more s.events e left all is ∙ ap (λ (es : List Event). es ++ e ∷ []) (sym first))
    (subst (λ (es : List Event). Streams config word es s old mid before) (sym first) h) good unspent shown part

-- a note of such an event, which is bad, is the note of the first bad one
pub noted_behind : {old new : Option (List ℕ)} (config : Config) (word : ℕ) (all left : List Event) (s : History) (e : Event) (before note : List ℕ) →
    s.events ++ e ∷ left ≡ all → Streams config word s.events s old new before → is_bad_after s.config s.word s.events e ≡ true
    → (note ≡ []) ⊎ (note ≡ line_note (length s.events + 2) (bad_event_words (book (trace_of s.config s.word s.events)) e.kind)) → (note ≡ []) ⊎ IsBadNoteOf config word all note
noted_behind {old} {new} config word all left s e before note is h bad (inl none) = inl none
noted_behind {old} {new} config word all left s e before note is h bad (inr said) =
    let index = length s.events in
    let first : s.events ≡ take index all = sym (split_take s.events e left all is) in
    let made : s ≡ record { config = config; word = word; events = take index all; failure = Sound } =
    h.kept.made ∙ ap (λ (es : List Event). let x : History = record { config = config; word = word; events = es; failure = Sound } in x) first in
    let taken = taken_before config word all index s before (le_of_lt (split_within s.events e left all is)) (subst (λ (es : List Event). Streams config word es s old new before) first h) in
    inr (record {
      index = index;
      first = record {
        before = taken;
        bad = record { event = e; stands = split_at s.events e left all is; bad = sym (ap (λ (x : History). is_bad_after x.config x.word x.events e) made) ∙ bad };
      };
      is = said ∙ ap (λ (x : History). line_note (index + 2) (bad_event_words (book (trace_of x.config x.word x.events)) e.kind)) made;
    })

-- a stop that is a bad event's in the end was so before
pub noted_end : {P : Type 0} (s r : Stop) → (r ≡ s) ⊎ ((r ≡ stop.NoMemory) ⊎ (r ≡ stop.WriteFault)) → ((n : ℕ) → s ≡ stop.BadEvent n → P) → (n : ℕ) → r ≡ stop.BadEvent n → P
noted_end s r (inl same) noted n is = noted n (sym same ∙ is)
noted_end s r (inr (inl other)) noted n is = absurd (no_bad_memory n (sym other ∙ is))
noted_end s r (inr (inr other)) noted n is = absurd (no_bad_fault n (sym other ∙ is))

pub same_stop : (a b : Stop) → ◌≡◌ {A = Result (Option ℕ) Stop} (Err a) (Err b) → a ≡ b
same_stop a b is = cc
