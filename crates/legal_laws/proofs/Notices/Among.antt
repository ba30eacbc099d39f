-- Where what is told stands among the outcomes: behind those of messages that were full before it came, and before those of messages
-- that take an item behind it.
use Rattle.std.proofs.Common.{◌≡◌, ◌≢◌, ◌⊎◌, inl, inr, ℕ, zero, suc, ◌+◌, ◌<◌, ◌≤◌, ◌==◌, true, false, ◌&&◌, List, [], ◌∷◌, ◌++◌, length, take, Option, Some, None, refl, sym, ◌∙◌, ap, subst, arith}
use Rattle.std.proofs.lemmas.List.{take-append-le, take_all, length_push}
use Rattle.std.specs.Prelude.{slice_get}
use Rattle.containers.proofs.Choices.{by_test, chosen, eq_test, le_from, le_test, not_le_from, not_le_test}
use Rattle.redis_error.specs.declared.redis_error.RedisError.TheVariants as error
use Rattle.driver_model.specs.declared.action.Action.{Action}
use Rattle.driver_model.specs.declared.action.Action.TheVariants as action
use Rattle.driver_model.specs.declared.action.Owner.TheVariants as owner
use Rattle.driver_model.specs.declared.config.Config.{Config}
use Rattle.driver_model.specs.declared.event.Event.{Event}
use Rattle.driver_model.specs.declared.outcome.Outcome.{Outcome}
use Rattle.driver_model.specs.declared.hearing.Notice.{Notice}
use Rattle.driver_model.specs.Hearing.{hears_something}
use Rattle.driver_model.specs.News.{News, silence, connected, refused, overdue, took, came, failed, dropped, shut, authorized, denied, deserted, renewed, unrenewed, late, unrepeated}
use Rattle.legal_trace.specs.Ledger.{Ledger, Heard, Line, Start, asks, hears, begins, offers, tells, ends, parts, noted, noted_each, with_news, refused_in, bytes_came, is_over, dials, reach, reached, is_full, is_full_by, next_notice, sources, awaits_credentials, authorized_by, times, may_renew, renewed_by, unrenewed_by, is_renewal_open, lost_by, is_repeating, unrepeated_by, repeats_timed}
use Rattle.legal_trace.specs.Story.{Try, last_of}
use Rattle.legal_trace.specs.Book.{Book, blank_book, book, entered, entered_each, message_of, if_mine, lines_of, lines_of_each, hearing_in}
use Rattle.legal_trace.specs.Legal.{MayStand, MayNotify, MayAnswer, MayTell, AllStand, IsOpen, IsBefore, is_heard, Legal}
use Rattle.legal_trace.proofs.Books.{stand_front, stand_behind, book_append}
use Rattle.legal_trace.proofs.Ledgers.{each_keeps, reach_alike, reach_more, takes_one}
use Rattle.legal_trace.proofs.Came.{holds_bytes, bytes_are}
use Rattle.legal_trace.proofs.Moves.{has_no_tries}
use Rattle.legal_trace.proofs.Plain.{not_none, same_some}
use Rattle.legal_laws.specs.Notices.{Tells, HasMessage, TellsInOrder}
use Rattle.legal_laws.proofs.Traces.Configured.{config_kept}
use Rattle.legal_laws.proofs.Notices.Heard.{between_at, between_behind, came_grows, InRow, in_row, IsBeyond, beyond_keeps}
use Rattle.legal_laws.proofs.Submissions.Leaving.{outcome_is_open}
use Rattle.legal_laws.proofs.Links.Lines.{told_behind}
use Rattle.legal_laws.proofs.Submissions.Messages.{StartsNow, message_from}
use Rattle.legal_laws.proofs.Traces.Next.{on_its_link}
use Rattle.legal_laws.proofs.Traces.Numbers.{open_is_numbered}
use Rattle.legal_laws.proofs.Notices.Notices.{telling}
use Rattle.legal_laws.proofs.Traces.Sound.{Sound, stays_sound, stay_sound, sound_behind}

-- a message that started takes as many items with those before it, whatever comes
pub record TakesUpTo (k count : ℕ) (l : Ledger) : Type 0 where
  pub started : k < length l.starts
  pub takes : reached l (k + 1) ≡ count

-- so with any news
takes_hears : (k count : ℕ) (l : Ledger) (turn : ℕ) (news : News) → TakesUpTo k count l → TakesUpTo k count (with_news l turn news)
takes_hears k count l turn silence h = h
takes_hears k count l turn connected h = chosen (TakesUpTo k count) (is_over l) l (record l { up = true }) (λ t. h) (λ e. record { started = h.started; takes = h.takes })
takes_hears k count l turn (refused f) h = chosen (TakesUpTo k count) (dials l) (refused_in l turn (error.Io f)) l (λ t. record { started = h.started; takes = h.takes }) (λ e. h)
takes_hears k count l turn overdue h = h
takes_hears k count l turn (took n) h = chosen (TakesUpTo k count) l.up (record l { taken = l.taken ++ take n l.offer; offer = [] }) l (λ t. record { started = h.started; takes = h.takes }) (λ e. h)
takes_hears k count l turn (came piece) h = chosen (TakesUpTo k count) l.up (bytes_came l piece) l
    (λ t. holds_bytes (TakesUpTo k count) l piece (λ rest strange told more. record { started = h.started; takes = reach_alike (take (k + 1) l.starts) (l.dealt ++ more) l.dealt ∙ h.takes })) (λ e. h)
takes_hears k count l turn (failed f) h = h
takes_hears k count l turn (authorized c) h = chosen (TakesUpTo k count) (awaits_credentials l) (authorized_by l c) l (λ t. record { started = h.started; takes = h.takes }) (λ e. h)
takes_hears k count l turn (denied text) h = h
takes_hears k count l turn deserted h = h
takes_hears k count l turn (renewed c) h = chosen (TakesUpTo k count) (may_renew l) (renewed_by l c) l (λ t. record { started = h.started; takes = h.takes }) (λ e. h)
takes_hears k count l turn unrenewed h = chosen (TakesUpTo k count) l.up (unrenewed_by l) l (λ t. record { started = h.started; takes = h.takes }) (λ e. h)
takes_hears k count l turn (late i) h = chosen (TakesUpTo k count) (l.up && is_renewal_open l i) (lost_by l) l (λ t. record { started = h.started; takes = h.takes }) (λ e. h)
takes_hears k count l turn unrepeated h = chosen (TakesUpTo k count) (is_repeating l) (unrepeated_by l) l (λ t. record { started = h.started; takes = h.takes }) (λ e. h)
takes_hears k count l turn dropped h = h
takes_hears k count l turn shut h = h

-- and with any line
takes_keeps : (k count : ℕ) (l : Ledger) (x : Line) → TakesUpTo k count l → TakesUpTo k count (noted l x)
takes_keeps k count l (asks info wanted hearing last again) h = record { started = h.started; takes = h.takes }
takes_keeps k count l (hears turn news) h = let m = takes_hears k count l turn news h in record { started = m.started; takes = m.takes }
takes_keeps k count l (begins s) h = record {
  started = let i : k < length l.starts = h.started in let e = length_push l.starts s in omega arith;
  takes = ap (λ (ss : List Start). reach ss l.dealt) (take-append-le (k + 1) l.starts (s ∷ []) (let i : k < length l.starts = h.started in omega (arith, i))) ∙ h.takes;
}
takes_keeps k count l (offers bytes) h = record { started = h.started; takes = h.takes }
takes_keeps k count l tells h = record { started = h.started; takes = h.takes }
takes_keeps k count l (ends turn) h = record { started = h.started; takes = h.takes }
takes_keeps k count l sources h = record { started = h.started; takes = h.takes }
takes_keeps k count l times h = record { started = h.started; takes = h.takes }
takes_keeps k count l repeats_timed h = record { started = h.started; takes = h.takes }
takes_keeps k count l parts h = record { started = h.started; takes = h.takes }

-- behind what is told that came when so many items had been dealt: the last message of submission n, where it is open and that is of
-- its link, takes an item behind it
pub record TakesBehind (l n count : ℕ) (b : Book) : Type 0 where
  pub dealt : count ≤ length (b.link l).dealt
  pub takes : (k : ℕ) → IsOpen b n → HasMessage b n l k → count < reached (b.link l) (k + 1)

-- a message that starts now takes items behind all that were dealt
starts_behind : (b : Book) (a : Action) (l n k count : ℕ) → MayStand b a → Sound b → count ≤ length (b.link l).dealt → StartsNow l n k a → count < reached ((entered b a).link l) (k + 1)
starts_behind b (action.Start m j (owner.Try i round) need len) l n k count may sound few is =
    let s : Start = message_of b m (owner.Try i round) in
    let started : Ledger = noted (b.link l) (begins s) in
    let same : (entered b (action.Start m j (owner.Try i round) need len)).link l ≡ started = mine_is (b.link l) m l s is.0 in
    let next : k ≡ length (b.link l).starts = sym is.1 ∙ (may.1.next ∙ ap (λ x. length (b.link x).starts) is.0) in
    let long = length_push (b.link l).starts s in
    let all : take (k + 1) ((b.link l).starts ++ s ∷ []) ≡ (b.link l).starts ++ s ∷ [] = take_all (k + 1) ((b.link l).starts ++ s ∷ []) (omega (arith, long, next)) in
    let whole : reached started (k + 1) ≡ reach ((b.link l).starts ++ s ∷ []) (b.link l).dealt = ap (λ (xs : List Start). reach xs (b.link l).dealt) all in
    let more = reach_more (b.link l).starts s (b.link l).dealt in
    let one = takes_one s.shape in
    let fits : length (b.link l).dealt ≤ reach (b.link l).starts (b.link l).dealt = sound.few l in
    subst (λ (x : Ledger). count < reached x (k + 1)) (sym same) (omega (arith, few, whole, more, one, fits))
  where
    mine_is : (x : Ledger) (m l : ℕ) (s : Start) → m ≡ l → noted_each x (if_mine (m == l) (begins s)) ≡ noted x (begins s)
    mine_is x m l s e = ap (λ t. noted_each x (if_mine t (begins s))) (eq_test m l e)
starts_behind b _ l n k count may sound few is = absurd is

-- no item is taken back by news
dealt_hears : (count : ℕ) (l : Ledger) (turn : ℕ) (news : News) → count ≤ length l.dealt → count ≤ length (with_news l turn news).dealt
dealt_hears count l turn silence i = i
dealt_hears count l turn connected i = chosen (λ (x : Ledger). count ≤ length x.dealt) (is_over l) l (record l { up = true }) (λ t. i) (λ e. i)
dealt_hears count l turn (refused f) i = chosen (λ (x : Ledger). count ≤ length x.dealt) (dials l) (refused_in l turn (error.Io f)) l (λ t. i) (λ e. i)
dealt_hears count l turn overdue i = i
dealt_hears count l turn (took n) i = chosen (λ (x : Ledger). count ≤ length x.dealt) l.up (record l { taken = l.taken ++ take n l.offer; offer = [] }) l (λ t. i) (λ e. i)
dealt_hears count l turn (came piece) i = chosen (λ (x : Ledger). count ≤ length x.dealt) l.up (bytes_came l piece) l
    (λ t. let more : length l.dealt ≤ length (bytes_came l piece).dealt = came_grows l (bytes_came l piece) (bytes_are l piece) in omega (arith, more, i)) (λ e. i)
dealt_hears count l turn (failed f) i = i
dealt_hears count l turn (authorized c) i = chosen (λ (x : Ledger). count ≤ length x.dealt) (awaits_credentials l) (authorized_by l c) l (λ t. i) (λ e. i)
dealt_hears count l turn (denied text) i = i
dealt_hears count l turn deserted i = i
dealt_hears count l turn (renewed c) i = chosen (λ (x : Ledger). count ≤ length x.dealt) (may_renew l) (renewed_by l c) l (λ t. i) (λ e. i)
dealt_hears count l turn unrenewed i = chosen (λ (x : Ledger). count ≤ length x.dealt) l.up (unrenewed_by l) l (λ t. i) (λ e. i)
dealt_hears count l turn (late k) i = chosen (λ (x : Ledger). count ≤ length x.dealt) (l.up && is_renewal_open l k) (lost_by l) l (λ t. i) (λ e. i)
dealt_hears count l turn unrepeated i = chosen (λ (x : Ledger). count ≤ length x.dealt) (is_repeating l) (unrepeated_by l) l (λ t. i) (λ e. i)
dealt_hears count l turn dropped i = i
dealt_hears count l turn shut i = i

-- nor by any line
dealt_keeps : (count : ℕ) (l : Ledger) (x : Line) → count ≤ length l.dealt → count ≤ length (noted l x).dealt
dealt_keeps count l (asks info wanted hearing last again) i = i
dealt_keeps count l (hears turn news) i = dealt_hears count l turn news i
dealt_keeps count l (begins s) i = i
dealt_keeps count l (offers bytes) i = i
dealt_keeps count l tells i = i
dealt_keeps count l (ends turn) i = i
dealt_keeps count l sources i = i
dealt_keeps count l times i = i
dealt_keeps count l repeats_timed i = i
dealt_keeps count l parts i = i

-- so each action that may stand leaves it
behind_kept : (b : Book) (a : Action) (l n count : ℕ) → MayStand b a → Sound b → TakesBehind l n count b → TakesBehind l n count (entered b a)
behind_kept b a l n count may sound h = record {
  dealt = each_keeps (λ (x : Ledger). count ≤ length x.dealt) (dealt_keeps count) (b.link l) (lines_of b l a) h.dealt;
  takes = λ k o has. elim (message_from b a l n k sound.stories o has) [
    | inl before ↦
        let up_to = each_keeps (TakesUpTo k (reached (b.link l) (k + 1))) (takes_keeps k (reached (b.link l) (k + 1))) (b.link l) (lines_of b l a)
        (record { started = sound.starts n (record { link = l; message = k }) before.1; takes = refl }) in
        let less : count < reached (b.link l) (k + 1) = h.takes k before.0 before.1 in
        let same : reached ((entered b a).link l) (k + 1) ≡ reached (b.link l) (k + 1) = up_to.takes in omega (arith, less, same)
    | inr now ↦ starts_behind b a l n k count may sound h.dealt now
  ];
}

-- and so do many
each_behind : (b : Book) (trace : List Action) (l n count : ℕ) → AllStand b trace → Sound b → TakesBehind l n count b → TakesBehind l n count (entered_each b trace)
each_behind b [] l n count all sound h = h
each_behind b (a ∷ more) l n count all sound h = each_behind (entered b a) more l n count all.1 (stays_sound b a all.0 sound) (behind_kept b a l n count all.0 sound h)

-- where it is told
told_takes : (b : Book) (l n : ℕ) (what : Notice) (p : Heard) → Sound b → InRow (b.link l) → MayNotify b l what → next_notice (b.link l) ≡ Some p → TakesBehind l n p.after b
told_takes b l n what p sound row may next = record {
  dealt = (between_at 0 (b.link l).notices (length (b.link l).dealt) (b.link l).told p row.rise next).1;
  takes = λ k o has. by_test (is_full_by (b.link l) p.after k) (p.after < reached (b.link l) (k + 1))
      (λ t. absurd (may.answered n o (on_its_link b n l what sound o may) (record {
        try = record { link = l; message = k };
        last = has;
        full = subst (λ (q : Heard). is_full_by (b.link l) q.after k ≡ true) (same_some p may.heard (sym next ∙ may.next)) t;
      })))
      (λ f. not_le_from (reached (b.link l) (k + 1)) p.after f);
}

-- whoever is answered behind it takes an item behind it
answers_behind : (b : Book) (middle more : List Action) (a : Action) (l n k : ℕ) (o : Outcome) (p : Heard) → Sound b → InRow (b.link l) → AllStand b (a ∷ (middle ++ action.Outcome n o ∷ more)) → Tells b l a
    → next_notice (b.link l) ≡ Some p → HasMessage (entered_each (entered b a) middle) n l k → is_full_by ((entered_each (entered b a) middle).link l) p.after k ≡ false
answers_behind b middle more a l n k o p sound row all is next has =
    let t = telling b l a all.0 is in
    let later : Book = entered_each (entered b a) middle in
    let front : AllStand b (a ∷ middle) = stand_front b (a ∷ middle) (action.Outcome n o ∷ more) all in
    let behind = each_behind b (a ∷ middle) l n p.after front sound (told_takes b l n t.0 p sound row t.1 next) in
    let asked : IsOpen later n = outcome_is_open later n o (stand_behind (entered b a) middle (action.Outcome n o ∷ more) all.1).0 in
    not_le_test (reached (later.link l) (k + 1)) p.after (behind.takes k asked has)

-- where one of a list isn't there, none is behind it
none_beyond : (hs : List Heard) (k i : ℕ) (p : Heard) → slice_get hs k ≡ None → k ≤ i → slice_get hs i ≡ Some p → ⊥
none_beyond [] k i p none le e = cc e
none_beyond (x ∷ hs) zero i p none le e = cc none
none_beyond (x ∷ hs) (suc k) zero p none le e = omega (arith, le)
none_beyond (x ∷ hs) (suc k) (suc i) p none le e = none_beyond hs k i p none (omega (arith, le)) e

-- whoever is answered by its items: nothing that waits came before it was full
answered_beyond : (b : Book) (l n k : ℕ) (o : Outcome) → InRow (b.link l) → is_heard b ≡ true → (b.story n).link ≡ l → MayAnswer b n o → HasMessage b n l k → is_full (b.link l) k ≡ true → IsBeyond (reached (b.link l) (k + 1)) (b.link l)
answered_beyond b l n k o row heard on may has full = record {
  dealt = le_from (reached (b.link l) (k + 1)) (length (b.link l).dealt) full;
  waits = λ i p told at. of_next (next_notice (b.link l)) refl i p told at;
}
  where
    of_next : (next : Option Heard) → next_notice (b.link l) ≡ next → (i : ℕ) (p : Heard) → (b.link l).told ≤ i → slice_get (b.link l).notices i ≡ Some p → reached (b.link l) (k + 1) ≤ p.after
    of_next None same i p told at = absurd (none_beyond (b.link l).notices (b.link l).told i p same told at)
    of_next (Some q) same i p told at =
        let before : IsBefore b n q = may.after_notices heard q (ap (λ j. next_notice (b.link j)) on ∙ same) in
        let it : before.try ≡ record { link = l; message = k } = same_some before.try (record { link = l; message = k }) (sym before.last ∙ has) in
        let early : is_full_by (b.link l) q.after k ≡ true = subst (λ (t : Try). is_full_by (b.link t.link) q.after t.message ≡ true) it before.full in
        let first : reached (b.link l) (k + 1) ≤ q.after = le_from (reached (b.link l) (k + 1)) q.after early in
        let later : q.after ≤ p.after = between_behind 0 (b.link l).notices (length (b.link l).dealt) (b.link l).told i q p told row.rise same at in
        omega (arith, first, later)

-- whoever has a message isn't told at its place
answer_of : (b : Book) (n l k : ℕ) (o : Outcome) → MayAnswer b n o ⊎ MayTell b n o → HasMessage b n l k → MayAnswer b n o
answer_of b n l k o (inl owes) has = owes
answer_of b n l k o (inr told) has = absurd (not_none (last_of (b.story n).tries) (record { link = l; message = k }) (ap last_of (has_no_tries (b.story n) told.unstarted)) has)

-- whoever is answered before it by its items had them all
answers_before : (b : Book) (middle more : List Action) (a : Action) (l n k : ℕ) (o : Outcome) (p : Heard) → Sound b → InRow (b.link l) → AllStand b (action.Outcome n o ∷ (middle ++ a ∷ more)) → Tells (entered_each (entered b (action.Outcome n o)) middle) l a
    → next_notice ((entered_each (entered b (action.Outcome n o)) middle).link l) ≡ Some p → HasMessage b n l k → is_full (b.link l) k ≡ true → is_full_by (b.link l) p.after k ≡ true
answers_before b middle more a l n k o p sound row all is next has full =
    let answer : Action = action.Outcome n o in
    let later : Book = entered_each (entered b answer) middle in
    let front : AllStand b (answer ∷ middle) = stand_front b (answer ∷ middle) (a ∷ more) all in
    let sound_later : Sound later = stay_sound b (answer ∷ middle) front sound in
    let t = telling later l a (stand_behind (entered b answer) middle (a ∷ more) all.1).0 is in
    let may : MayAnswer b n o = answer_of b n l k o all.0 has in
    let numbered : n < b.submissions = open_is_numbered b n sound.stories may.asked in
    let some : b.turns ≢ 0 = λ none. let empty : b.submissions ≡ 0 = sound.opens.none_yet (omega (arith, none)) in omega (arith, numbered, empty) in
    let heard : is_heard b ≡ true = sym (ap (λ config. hears_something (hearing_in config)) (config_kept b (answer ∷ middle) front some)) ∙ t.1.is_heard in
    let on : (b.story n).link ≡ l = sym ((sound.goes n).tries_on (record { link = l; message = k }) has) in
    let count : ℕ = reached (b.link l) (k + 1) in
    let beyond : IsBeyond count (later.link l) = subst (IsBeyond count) (sym (told_behind b l (answer ∷ middle)))
    (each_keeps (IsBeyond count) (beyond_keeps count) (b.link l) (lines_of_each b l (answer ∷ middle)) (answered_beyond b l n k o row heard on may has full)) in
    le_test count p.after (beyond.waits (later.link l).told p (omega arith) next)

-- what stands behind a front
behind_front : (front rest : List Action) → AllStand blank_book (front ++ rest) → AllStand (book front) rest
unfolding book
behind_front front rest all = stand_behind blank_book front rest all

-- so it is in a legal trace
pub tells_in_order : (config : Config) (word : ℕ) (events : List Event) (trace : List Action) → Legal config word events trace → TellsInOrder trace
tells_in_order config word events trace h = record {
  behind = λ front middle more l n k a o p is tells_it next has.
      let rest : List Action = a ∷ (middle ++ action.Outcome n o ∷ more) in
      let all : AllStand blank_book (front ++ rest) = subst (AllStand blank_book) is h.each in
      let same : book (front ++ a ∷ middle) ≡ entered_each (book front) (a ∷ middle) = book_append front (a ∷ middle) in
      subst (λ (b : Book). is_full_by (b.link l) p.after k ≡ false) (sym same)
      (answers_behind (book front) middle more a l n k o p (sound_behind front (stand_front blank_book front rest all)) (in_row front l) (behind_front front rest all) tells_it next
      (subst (λ (b : Book). HasMessage b n l k) same has));
  before = λ front middle more l n k a o p is tells_it next has full.
      let rest : List Action = action.Outcome n o ∷ (middle ++ a ∷ more) in
      let all : AllStand blank_book (front ++ rest) = subst (AllStand blank_book) is h.each in
      let same : book (front ++ action.Outcome n o ∷ middle) ≡ entered_each (book front) (action.Outcome n o ∷ middle) = book_append front (action.Outcome n o ∷ middle) in
      answers_before (book front) middle more a l n k o p (sound_behind front (stand_front blank_book front rest all)) (in_row front l) (behind_front front rest all) (subst (λ (b : Book). Tells b l a) same tells_it)
      (subst (λ (b : Book). next_notice (b.link l) ≡ Some p) same next) has full;
}
