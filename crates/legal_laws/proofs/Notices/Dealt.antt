-- Where messages are heard, none is dealt to a request.
use Rattle.std.proofs.Common.{◌≡◌, ◌≢◌, ◌⊎◌, inl, inr, ℕ, zero, suc, ◌+◌, ◌-◌, ◌<◌, ◌≤◌, ◌==◌, nat_lt, Bool, true, false, ◌&&◌, List, [], ◌∷◌, ◌++◌, length, take, drop, Option, Some, None, refl, sym, ◌∙◌, ap, subst, arith}
use Rattle.std.proofs.lemmas.List.{take_all}
use Rattle.std.specs.Prelude.{slice_get}
use Rattle.containers.proofs.Choices.{by_test, chosen, taken_if, left_if, eq_from, lt_from, not_lt_from, not_both}
use Rattle.redis_error.specs.declared.redis_error.RedisError.TheVariants as error
use Rattle.resp_value.specs.Data.{Data, array, push, list_of}
use Rattle.resp_value.specs.declared.push_kind.PushKind.{PushKind}
use Rattle.resp_value.specs.Kinds.{has_reply}
use Rattle.resp_read.specs.Values.{left_over}
use Rattle.driver_model.specs.declared.action.Action.{Action}
use Rattle.driver_model.specs.declared.action.Action.TheVariants as action
use Rattle.driver_model.specs.declared.action.Cause.TheVariants as cause
use Rattle.driver_model.specs.declared.action.Owner.TheVariants as owner
use Rattle.driver_model.specs.declared.config.Config.{Config}
use Rattle.driver_model.specs.declared.event.Event.{Event}
use Rattle.driver_model.specs.declared.hearing.Hearing.{Hearing}
use Rattle.driver_model.specs.declared.hearing.Hearing.TheVariants as hearing
use Rattle.driver_model.specs.declared.msg.Msg.{Msg}
use Rattle.driver_model.specs.Config.{hearing_of}
use Rattle.driver_model.specs.Hearing.{Taking, answers, taking, array_taken, as_message, bulk_text, plain_text, hears_messages, is_answer_named, is_watching, message_named, message_of, message_taken, push_taken}
use Rattle.driver_model.specs.News.{News, silence, connected, refused, overdue, took, came, failed, dropped, shut, news_of, authorized, denied, deserted, renewed, unrenewed, late, unrepeated}
use Rattle.driver_model.specs.Shape.{need_of}
use Rattle.legal_trace.specs.Ledger.{Ledger, Start, asks, begins, offers, ends, sources, noted, with_news, refused_in, bytes_came, is_over, is_of_setup, is_awaiting, is_set_up, cut, dials, items_came, heard_at, reach, reached, setup_count, taking_of, value_by, value_came, awaits_credentials, authorized_by, may_renew, renewed_by, unrenewed_by, is_renewal_open, lost_by, is_repeating, unrepeated_by}
use Rattle.legal_trace.specs.Managers.{settings_in, is_last}
use Rattle.legal_trace.specs.Book.{Book, blank_book, book, entered, entered_each, hearing_in, info_in, message_of as start_of, wanted_in}
use Rattle.legal_trace.specs.Legal.{MayStand, AllStand, Legal}
use Rattle.legal_trace.specs.Again.{repeats_in}
use Rattle.legal_trace.proofs.Clocks.{timer_tells}
use Rattle.legal_trace.proofs.Books.{stand_front}
use Rattle.legal_trace.proofs.Came.{ValueKeeps, holds_came, value_is, bytes_keep, holds_bytes}
use Rattle.legal_trace.proofs.Ledgers.{FewAreDealt, few_value, mine_keeps, reach_alike, reached_more, few_keeps}
use Rattle.legal_trace.proofs.Moves.{mover_is_ready, ready_is_set, starter_moves}
use Rattle.legal_trace.proofs.Plain.{item_within, not_none, same_some}
use Rattle.legal_trace.proofs.Setups.{AreSetups, count_more, count_within, due_is_unset, set_begins, set_stays}
use Rattle.legal_trace.proofs.Sources.{awaits_unset}
use Rattle.legal_trace.proofs.Watching.{watch_is_heard}
use Rattle.legal_trace.proofs.Again.{again_is_set}
use Rattle.legal_laws.specs.Values.{message_in, named_message, TellsMessages, DealsNoMessage}
use Rattle.legal_laws.proofs.Links.Bounds.{ready_behind}
use Rattle.legal_laws.proofs.Notices.Pushed.{push_keeps, tell_keeps}
use Rattle.legal_laws.proofs.Links.Shaped.{renewal_is_set}
use Rattle.legal_laws.proofs.Traces.Sound.{Sound, stays_sound, blank_is_sound, sound_behind}
use Rattle.legal_laws.proofs.Notices.Suits.{tells_what_came}
use Rattle.legal_laws.proofs.Notices.Values.{answer_is_none, reply_is_none}
use Rattle.legal_laws.proofs.Notices.WhatCame.{heard_behind}

-- what is dealt on a link of messages is no message
as_dealt : (o : Option Msg) → (as_message o).dealt ≡ true → o ≡ None
as_dealt None e = refl
as_dealt (Some m) e = cc e

array_dealt : (parts : List Data) → (array_taken parts).dealt ≡ true → named_message parts ≡ None
array_dealt [] e = cc
array_dealt (name ∷ parts) e = by_test (is_answer_named (bulk_text name)) (message_named (plain_text name) parts ≡ None) (λ t. answer_is_none name parts t)
    (λ f. as_dealt (message_named (plain_text name) parts) (sym (ap (λ (t : Taking). t.dealt) (left_if (is_answer_named (bulk_text name)) answers (as_message (message_named (plain_text name) parts)) f)) ∙ e))

push_dealt : (k : PushKind) (parts : List Data) → (push_taken k parts).dealt ≡ true → message_of k parts ≡ None
push_dealt k parts e = by_test (has_reply k) (message_of k parts ≡ None) (λ t. reply_is_none k parts t)
    (λ f. as_dealt (message_of k parts) (sym (ap (λ (t : Taking). t.dealt) (left_if (has_reply k) answers (as_message (message_of k parts)) f)) ∙ e))

message_dealt : (awaited : Bool) (v : Data) → (message_taken awaited v).dealt ≡ true → message_in v ≡ None
message_dealt awaited (array parts) e = array_dealt (list_of parts) e
message_dealt awaited (push k parts) e = push_dealt k (list_of parts) e
message_dealt awaited _ e = refl

-- so on a link that is set up, where messages are heard
set_dealt : (h : Hearing) (is_set awaited : Bool) (v : Data) → hears_messages h ≡ true → is_set ≡ true → (taking h is_set awaited v).dealt ≡ true → message_in v ≡ None
set_dealt hearing.Messages true awaited v m t e = message_dealt awaited v e
set_dealt hearing.Messages false awaited v m t e = cc t
set_dealt hearing.Nothing is_set awaited v m t e = cc m
set_dealt hearing.Pushes is_set awaited v m t e = cc m
set_dealt hearing.Monitor is_set awaited v m t e = cc m

-- no server of such a link is put into monitor mode
not_both_heard : (h : Hearing) → hears_messages h ≡ true → is_watching h ≡ true → ⊥
not_both_heard hearing.Messages m w = cc w
not_both_heard hearing.Nothing m w = cc m
not_both_heard hearing.Pushes m w = cc m
not_both_heard hearing.Monitor m w = cc m

-- how many items its setup takes
abbrev setup_reach : Ledger → ℕ
setup_reach l = reached l (setup_count l.starts)

-- no item behind those of the setup is a message
abbrev NoneDealt : Ledger → Type 0
NoneDealt l = (i : ℕ) (v : Data) → setup_reach l ≤ i → slice_get l.dealt i ≡ Some v → message_in v ≡ None

-- nothing but setups has started on a link that isn't set up
abbrev SetupsFirst : Ledger → Type 0
SetupsFirst l = is_set_up l ≡ false → setup_count l.starts ≡ length l.starts

record Sorted (l : Ledger) : Type 0 where
  first : SetupsFirst l
  undealt : NoneDealt l

-- where nothing else has started, all that was dealt was dealt to the setup
all_of_setup : (l : Ledger) → FewAreDealt l → setup_count l.starts ≡ length l.starts → NoneDealt l
all_of_setup l few all i v far at =
    let whole : setup_reach l ≡ reach l.starts l.dealt = ap (λ (ss : List Start). reach ss l.dealt) (ap (λ k. take k l.starts) all ∙ take_all (length l.starts) l.starts (omega arith)) in
    let within : i < length l.dealt = item_within l.dealt i v at in
    absurd (omega (arith, far, whole, within, few))

-- what stands in two lists stands in one of them
in_either : (xs ys : List Data) (i : ℕ) (w : Data) → slice_get (xs ++ ys) i ≡ Some w → (slice_get xs i ≡ Some w) ⊎ ((j : ℕ) × (slice_get ys j ≡ Some w))
in_either [] ys i w e = inr (i, e)
in_either (x ∷ xs) ys zero w e = inl e
in_either (x ∷ xs) ys (suc i) w e = in_either xs ys i w e

-- what stands among one is that
one_alone : (room j : ℕ) (v w : Data) → slice_get (take room (v ∷ [])) j ≡ Some w → v ≡ w
one_alone zero j v w e = cc e
one_alone (suc zero) zero v w e = same_some v w e
one_alone (suc (suc room)) zero v w e = same_some v w e
one_alone (suc zero) (suc j) v w e = cc e
one_alone (suc (suc room)) (suc j) v w e = cc e

-- a value comes on a link that is set up
undealt_value : (l : Ledger) (v : Data) → hears_messages l.hearing ≡ true → is_set_up l ≡ true → NoneDealt l → NoneDealt (value_came l v)
undealt_value l v messages ready h =
    let t : Taking = taking_of l v in
    let m : Ledger = record l { notices = l.notices ++ heard_at l t.told; strange = t.ends } in
    let room : ℕ = reach l.starts l.dealt - length l.dealt in
    chosen NoneDealt l.strange l (value_by l t v) (λ e. h) (λ f. chosen NoneDealt t.dealt (items_came m (v ∷ [])) m
    (λ d i w far at. elim (in_either l.dealt (take room (v ∷ [])) i w at) [
      | inl old ↦ let same : setup_reach (items_came m (v ∷ [])) ≡ setup_reach l = reach_alike (take (setup_count l.starts) l.starts) (l.dealt ++ take room (v ∷ [])) l.dealt in h i w (omega (arith, far, same)) old
      | inr new ↦ ap message_in (sym (one_alone room new.0 v w new.1)) ∙ set_dealt l.hearing (is_set_up l) (is_awaiting l) v messages ready d
    ])
    (λ d. h))

-- what each value keeps: how many items are dealt, which setups started, and the rest
record Steady (l : Ledger) : Type 0 where
  messages : hears_messages l.hearing ≡ true
  few : FewAreDealt l
  are : AreSetups l
  sorted : Sorted l

-- a value leaves whether a link was set up
unset_before : (l : Ledger) (v : Data) → AreSetups l → is_set_up (value_came l v) ≡ false → is_set_up l ≡ false
unset_before l v are unset = by_test (is_set_up l) (is_set_up l ≡ false) (λ t. absurd (not_both (is_set_up (value_came l v)) unset (set_stays l (value_came l v) (value_is l v) are t))) (λ f. f)

steady_value : ValueKeeps Steady
steady_value l v h =
    let m : Ledger = value_came l v in
    let few : FewAreDealt m = few_value l v h.few in
    let same : m.starts ≡ l.starts = holds_came (λ (x : Ledger). x.starts ≡ l.starts) l m (value_is l v) (λ rest odd told more. refl) in
    let all : is_set_up l ≡ false → setup_count m.starts ≡ length m.starts = λ f. subst (λ (ss : List Start). setup_count ss ≡ length ss) (sym same) (h.sorted.first f) in
    record {
      messages = holds_came (λ (x : Ledger). hears_messages x.hearing ≡ true) l m (value_is l v) (λ rest odd told more. h.messages);
      few = few;
      are = holds_came AreSetups l m (value_is l v) (λ rest odd told more. h.are);
      sorted = record {
        first = λ unset. all (unset_before l v h.are unset);
        undealt = by_test (is_set_up l) (NoneDealt m) (λ t. undealt_value l v h.messages t h.sorted.undealt) (λ f. all_of_setup m few (all f));
      };
    }

-- where messages are heard
abbrev IsSorted : Ledger → Type 0
IsSorted l = hears_messages l.hearing ≡ true → Sorted l

-- a link of which nothing of it changes
sorted_alike : (l : Ledger) → Sorted l → (m : Ledger) → m.starts ≡ l.starts → m.dealt ≡ l.dealt → (is_set_up m ≡ false → is_set_up l ≡ false) → Sorted m
sorted_alike l h m starts dealt unset = record {
  first = λ f. subst (λ (ss : List Start). setup_count ss ≡ length ss) (sym starts) (h.first (unset f));
  undealt = λ i v far at. h.undealt i v (subst (λ (ss : List Start). reach (take (setup_count ss) ss) l.dealt ≤ i) starts (subst (λ (ds : List Data). reach (take (setup_count m.starts) m.starts) ds ≤ i) dealt far))
      (subst (λ (ds : List Data). slice_get ds i ≡ Some v) dealt at);
}

-- so with any news
news_sorted : (l : Ledger) (turn : ℕ) (news : News) → FewAreDealt l → AreSetups l → IsSorted l → IsSorted (with_news l turn news)
news_sorted l turn silence few are h = h
news_sorted l turn connected few are h = chosen IsSorted (is_over l) l (record l { up = true }) (λ t. h) (λ e m. sorted_alike l (h m) _ refl refl (λ f. f))
news_sorted l turn (refused f) few are h = chosen IsSorted (dials l) (refused_in l turn (error.Io f)) l (λ t m. sorted_alike l (h m) _ refl refl (λ f. f)) (λ e. h)
news_sorted l turn overdue few are h = h
news_sorted l turn (took count) few are h = chosen IsSorted l.up (record l { taken = l.taken ++ take count l.offer; offer = [] }) l (λ t m. sorted_alike l (h m) _ refl refl (λ f. f)) (λ e. h)
news_sorted l turn (came piece) few are h = chosen IsSorted l.up (bytes_came l piece) l
    (λ t m. (bytes_keep Steady steady_value l piece (record {
      messages = sym (ap hears_messages (bytes_hear l piece)) ∙ m;
      few = few;
      are = are;
      sorted = sorted_alike l (h (sym (ap hears_messages (bytes_hear l piece)) ∙ m)) (record l { rest = left_over (l.rest ++ piece) }) refl refl (λ f. f);
    })).sorted)
    (λ e. h)
  where
    bytes_hear : (l : Ledger) (piece : List ℕ) → (bytes_came l piece).hearing ≡ l.hearing
    bytes_hear l piece = holds_bytes (λ (x : Ledger). x.hearing ≡ l.hearing) l piece (λ rest odd told more. refl)
news_sorted l turn (failed f) few are h = h
news_sorted l turn (authorized c) few are h = chosen IsSorted (awaits_credentials l) (authorized_by l c) l (λ t m. sorted_alike l (h m) _ refl refl (λ f. by_test (is_set_up l) (is_set_up l ≡ false) (λ ready. absurd (awaits_unset l t ready)) (λ n. n))) (λ e. h)
news_sorted l turn (denied text) few are h = h
news_sorted l turn deserted few are h = h
news_sorted l turn (renewed c) few are h = chosen IsSorted (may_renew l) (renewed_by l c) l (λ t m. sorted_alike l (h m) _ refl refl (λ f. f)) (λ e. h)
news_sorted l turn unrenewed few are h = chosen IsSorted l.up (unrenewed_by l) l (λ t m. sorted_alike l (h m) _ refl refl (λ f. f)) (λ e. h)
news_sorted l turn (late k) few are h = chosen IsSorted (l.up && is_renewal_open l k) (lost_by l) l (λ t m. sorted_alike l (h m) _ refl refl (λ f. f)) (λ e. h)
news_sorted l turn unrepeated few are h = chosen IsSorted (is_repeating l) (unrepeated_by l) l (λ t m. sorted_alike l (h m) _ refl refl (λ f. f)) (λ e. h)
news_sorted l turn dropped few are h = h
news_sorted l turn shut few are h = h

-- a link that was not asked for has started nothing
bare_sorted : (l : Ledger) → FewAreDealt l → l.starts ≡ [] → Sorted l
bare_sorted l few none = record {
  first = λ f. subst (λ (ss : List Start). setup_count ss ≡ length ss) (sym none) refl;
  undealt = all_of_setup l few (subst (λ (ss : List Start). setup_count ss ≡ length ss) (sym none) refl);
}

-- setups alone, and one more
one_setup_more : (ss : List Start) (s : Start) → is_of_setup s.owner ≡ true → setup_count ss ≡ length ss → setup_count (ss ++ s ∷ []) ≡ length (ss ++ s ∷ [])
one_setup_more [] s mine all = taken_if (is_of_setup s.owner) 1 0 mine
one_setup_more (x ∷ ss) s mine all = by_test (is_of_setup x.owner) (setup_count ((x ∷ ss) ++ s ∷ []) ≡ length ((x ∷ ss) ++ s ∷ []))
    (λ t. let rest : suc (setup_count ss) ≡ suc (length ss) = sym (taken_if (is_of_setup x.owner) (suc (setup_count ss)) 0 t) ∙ all in
    taken_if (is_of_setup x.owner) (suc (setup_count (ss ++ s ∷ []))) 0 t ∙ ap suc (one_setup_more ss s mine (omega (arith, rest))))
    (λ f. absurd (let none : 0 ≡ suc (length ss) = sym (left_if (is_of_setup x.owner) (suc (setup_count ss)) 0 f) ∙ all in cc none))

-- where a setup starts on a link that isn't set up
setup_sorted : (l : Ledger) (s : Start) → is_of_setup s.owner ≡ true → is_set_up l ≡ false → FewAreDealt (noted l (begins s)) → Sorted l → Sorted (noted l (begins s))
setup_sorted l s mine unset few h =
    let all : setup_count (l.starts ++ s ∷ []) ≡ length (l.starts ++ s ∷ []) = one_setup_more l.starts s mine (h.first unset) in
    record { first = λ f. all; undealt = all_of_setup (noted l (begins s)) few all }

-- and where another message starts on one that is
other_sorted : (l : Ledger) (s : Start) → is_of_setup s.owner ≡ false → is_set_up l ≡ true → Sorted l → Sorted (noted l (begins s))
other_sorted l s other ready h = record {
  first = λ f. absurd (not_both (is_set_up (noted l (begins s))) f (set_begins l s other ready));
  undealt = λ i v far at.
      let count : setup_count (l.starts ++ s ∷ []) ≡ setup_count l.starts = count_more l.starts s other in
      let same : setup_reach (noted l (begins s)) ≡ setup_reach l = ap (reached (noted l (begins s))) count ∙ reached_more l s (setup_count l.starts) (count_within l.starts) in
      h.undealt i v (omega (arith, far, same)) at;
}

-- it stays so with each action that may stand
sorted_kept : (b : Book) (l : ℕ) (a : Action) → MayStand b a → Sound b → Sound (entered b a) → IsSorted (b.link l) → IsSorted ((entered b a).link l)
sorted_kept b l (action.Turn k (cause.Opening config word)) may s after h = h
sorted_kept b l (action.Turn k (cause.Event e)) may s after h = λ m. let x = news_sorted (b.link l) k (news_of b.timers b.sources l e.kind) (s.few l) (s.shaped l).are h m in record { first = x.first; undealt = x.undealt }
sorted_kept b l (action.Connect m host port) may s after h = mine_keeps IsSorted (m == l) (b.link l) (asks (info_in b.config) (wanted_in b.config) (hearing_in b.config) (is_last (settings_in b.config) b.attempt) (repeats_in (settings_in b.config) b.tracked))
    (λ t heard. let same : m ≡ l = eq_from m l t in let next : m ≡ b.links = may.next in
    bare_sorted (noted (b.link l) (asks (info_in b.config) (wanted_in b.config) (hearing_in b.config) (is_last (settings_in b.config) b.attempt) (repeats_in (settings_in b.config) b.tracked))) (s.few l) ((s.shaped l).none (s.links.unasked l (omega (arith, same, next))).0)) h
sorted_kept b l (action.Timer t ms what) may s after h = timer_tells IsSorted (b.link l) l what (λ on k is e m. sorted_alike (b.link l) (h m) _ refl refl (λ f. f)) (λ on is e m. sorted_alike (b.link l) (h m) _ refl refl (λ f. f)) h
sorted_kept b l (action.Took who m count) may s after h = h
sorted_kept b l (action.Push m info) may s after h = push_keeps IsSorted (m == l) info.kind (b.link l) (λ m. sorted_alike (b.link l) (h m) _ refl refl (λ f. f)) (λ m. sorted_alike (b.link l) (h m) _ refl refl (λ f. f)) h
sorted_kept b l (action.Message msg) may s after h = tell_keeps IsSorted (b.current == l) (b.link l) (λ m. sorted_alike (b.link l) (h m) _ refl refl (λ f. f)) h
sorted_kept b l (action.Monitor v) may s after h = tell_keeps IsSorted (b.current == l) (b.link l) (λ m. sorted_alike (b.link l) (h m) _ refl refl (λ f. f)) h
sorted_kept b l (action.NeedCreds c m) may s after h = mine_keeps IsSorted (m == l) (b.link l) sources (λ t m. sorted_alike (b.link l) (h m) _ refl refl (λ f. f)) h
sorted_kept b l (action.Generation g) may s after h = h
sorted_kept b l (action.Round who m) may s after h = h
sorted_kept b l (action.Close m) may s after h = mine_keeps IsSorted (m == l) (b.link l) (ends (b.turns - 1)) (λ t m. sorted_alike (b.link l) (h m) _ refl refl (λ f. f)) h
sorted_kept b l (action.Write m bytes) may s after h = mine_keeps IsSorted (m == l) (b.link l) (offers bytes) (λ t m. sorted_alike (b.link l) (h m) _ refl refl (λ f. f)) h
sorted_kept b l (action.Wait who kind) may s after h = h
sorted_kept b l (action.Start m k owner.Setup count len) may s after h =
    let begun : Start = start_of b m owner.Setup in
    mine_keeps IsSorted (m == l) (b.link l) (begins begun)
    (λ t heard. setup_sorted (b.link l) begun refl (subst (λ j. is_set_up (b.link j) ≡ false) (eq_from m l t) (due_is_unset (b.link m) may.k may.due))
    (few_keeps (b.link l) (begins begun) (s.few l)) (h heard)) h
sorted_kept b l (action.Start m k owner.Resub count len) may s after h = mine_keeps IsSorted (m == l) (b.link l) (begins (start_of b m owner.Resub))
    (λ t heard. other_sorted (b.link l) (start_of b m owner.Resub) refl (subst (λ j. is_set_up (b.link j) ≡ true) (eq_from m l t) (again_is_set (b.link m) may.due)) (h heard)) h
sorted_kept b l (action.Start m k owner.Monitor count len) may s after h = mine_keeps IsSorted (m == l) (b.link l) (begins (start_of b m owner.Monitor))
    (λ t heard. absurd (not_both_heard (b.link l).hearing heard (subst (λ j. is_watching (b.link j).hearing ≡ true) (eq_from m l t) (watch_is_heard (b.link m) may.due)))) h
sorted_kept b l (action.Start m k owner.Auth count len) may s after h = mine_keeps IsSorted (m == l) (b.link l) (begins (start_of b m owner.Auth))
    (λ t heard. other_sorted (b.link l) (start_of b m owner.Auth) refl (subst (λ j. is_set_up (b.link j) ≡ true) (eq_from m l t) (renewal_is_set (b.link m) may.credentials (s.shaped m) may.due)) (h heard)) h
sorted_kept b l (action.Start m k (owner.Try n round) count len) may s after h = mine_keeps IsSorted (m == l) (b.link l) (begins (start_of b m (owner.Try n round)))
    (λ t heard. other_sorted (b.link l) (start_of b m (owner.Try n round)) refl
    (subst (λ j. is_set_up (b.link j) ≡ true) (sym may.1.on_its_link ∙ eq_from m l t) (ready_is_set (b.link (b.story n).link) (mover_is_ready b n (starter_moves b m k n count len may.1)))) (h heard)) h
sorted_kept b l (action.Created e) may s after h = h
sorted_kept b l (action.Outcome n o) may s after h = h

-- and with many
each_sorted : (b : Book) (l : ℕ) (front : List Action) → AllStand b front → Sound b → IsSorted (b.link l) → IsSorted ((entered_each b front).link l)
each_sorted b l [] all s h = h
each_sorted b l (a ∷ more) all s h = let after : Sound (entered b a) = stays_sound b a all.0 s in each_sorted (entered b a) l more all.1 after (sorted_kept b l a all.0 s after h)

sorted_behind : (front : List Action) (l : ℕ) → AllStand blank_book front → IsSorted ((book front).link l)
unfolding book
sorted_behind front l all = each_sorted blank_book l front all blank_is_sound (λ m. absurd (cc m))

-- a start among the first that are of the setup is one
counted_first : (x : Start) (ss : List Start) (k : ℕ) → k < setup_count (x ∷ ss) → is_of_setup x.owner ≡ true
counted_first x ss k i = by_test (is_of_setup x.owner) (is_of_setup x.owner ≡ true) (λ t. t)
    (λ f. let none : setup_count (x ∷ ss) ≡ 0 = left_if (is_of_setup x.owner) (suc (setup_count ss)) 0 f in absurd (omega (arith, i, none)))

first_are : (ss : List Start) (k : ℕ) (s : Start) → k < setup_count ss → slice_get ss k ≡ Some s → is_of_setup s.owner ≡ true
first_are [] k s i e = cc
first_are (x ∷ ss) zero s i e = ap (λ (y : Start). is_of_setup y.owner) (sym (same_some x s e)) ∙ counted_first x ss 0 i
first_are (x ∷ ss) (suc k) s i e =
    let one : setup_count (x ∷ ss) ≡ suc (setup_count ss) = taken_if (is_of_setup x.owner) (suc (setup_count ss)) 0 (counted_first x ss (suc k) i) in
    first_are ss k s (omega (arith, i, one)) e

-- more messages take no fewer items
reach_rises : (ss : List Start) (ds : List Data) (j k : ℕ) → j ≤ k → reach (take j ss) ds ≤ reach (take k ss) ds
reach_rises [] ds zero zero i = omega arith
reach_rises [] ds zero (suc k) i = omega arith
reach_rises [] ds (suc j) zero i = omega arith
reach_rises [] ds (suc j) (suc k) i = omega arith
reach_rises (s ∷ ss) ds zero k i = omega arith
reach_rises (s ∷ ss) ds (suc j) zero i = absurd (omega (arith, i))
reach_rises (s ∷ ss) ds (suc j) (suc k) i = let rest : reach (take j ss) (drop (need_of s.shape) ds) ≤ reach (take k ss) (drop (need_of s.shape) ds) = reach_rises ss (drop (need_of s.shape) ds) j k (omega (arith, i)) in omega (arith, rest)

-- an item of some that are cut out stands further on
at_cut : (n m : ℕ) (ds : List Data) (i : ℕ) (v : Data) → slice_get (take n (drop m ds)) i ≡ Some v → slice_get ds (m + i) ≡ Some v
at_cut n zero ds i v e = ap (slice_get ds) (let none : 0 + i ≡ i = omega arith in none) ∙ at_front n ds i e
  where
    at_front : (n : ℕ) (ds : List Data) (i : ℕ) → slice_get (take n ds) i ≡ Some v → slice_get ds i ≡ Some v
    at_front zero ds i e = cc e
    at_front (suc n) [] i e = cc e
    at_front (suc n) (d ∷ ds) zero e = e
    at_front (suc n) (d ∷ ds) (suc i) e = at_front n ds i e
at_cut zero (suc m) [] i v e = cc e
at_cut (suc n) (suc m) [] i v e = cc e
at_cut n (suc m) (d ∷ ds) i v e = let one : suc m + i ≡ suc (m + i) = omega arith in ap (slice_get (d ∷ ds)) one ∙ at_cut n m ds i v e

-- so no item of a request's message is a message
undealt_at : (l : Ledger) (k i : ℕ) (s : Start) (v : Data) → Sorted l → slice_get l.starts k ≡ Some s → is_of_setup s.owner ≡ false → slice_get (cut l k s.shape) i ≡ Some v → message_in v ≡ None
undealt_at l k i s v h stands other at = by_test (nat_lt k (setup_count l.starts)) (message_in v ≡ None)
    (λ t. absurd (not_both (is_of_setup s.owner) other (first_are l.starts k s (lt_from k (setup_count l.starts) t) stands)))
    (λ f. let far : setup_reach l ≤ reached l k = reach_rises l.starts l.dealt (setup_count l.starts) k (not_lt_from k (setup_count l.starts) f) in
    h.undealt (reached l k + i) v (omega (arith, far)) (at_cut (need_of s.shape) (reached l k) l.dealt i v at))

-- where something has started, the link was asked for
started_asked : (b : Book) (l k : ℕ) (s : Start) → Sound b → slice_get (b.link l).starts k ≡ Some s → (b.link l).asked ≡ true
started_asked b l k s sound stands = by_test (b.link l).asked ((b.link l).asked ≡ true) (λ t. t)
    (λ f. absurd (not_none (slice_get (b.link l).starts k) s (ap (λ (ss : List Start). slice_get ss k) ((sound.shaped l).none f)) stands))

-- so a turn began
asked_began : (b : Book) (l : ℕ) → Sound b → (b.link l).asked ≡ true → b.turns ≢ 0
asked_began b l sound asked none =
    let links : b.links ≡ 0 = sound.opens.no_links none in
    not_both (b.link l).asked (sound.links.unasked l (omega (arith, links))).0 asked

-- and it is heard what the configuration says
pub asked_hears : (config : Config) (word : ℕ) (events : List Event) (front more : List Action) (l : ℕ) → Legal config word events (front ++ more) → ((book front).link l).asked ≡ true → ((book front).link l).hearing ≡ hearing_of config
asked_hears config word events front more l h asked =
    let ready = ready_behind config word events front more h in
    (heard_behind l front (stand_front blank_book front more h.each)).hears asked ∙ ap hearing_in (ready.configured (asked_began (book front) l ready.sound asked))

-- so no legal trace deals a message to a request
deals_no_message : (config : Config) (word : ℕ) (events : List Event) (trace : List Action) → Legal config word events trace → DealsNoMessage config trace
deals_no_message config word events trace h front more l k i s v heard is stands other at =
    let legal : Legal config word events (front ++ more) = subst (Legal config word events) is h in
    let all : AllStand blank_book front = stand_front blank_book front more legal.each in
    let asked : ((book front).link l).asked ≡ true = started_asked (book front) l k s (sound_behind front all) stands in
    undealt_at ((book front).link l) k i s v (sorted_behind front l all (ap hears_messages (asked_hears config word events front more l legal asked) ∙ heard)) stands other at

pub tells_messages : (config : Config) (word : ℕ) (events : List Event) (trace : List Action) → Legal config word events trace → TellsMessages config trace
tells_messages config word events trace h = record { told = tells_what_came config word events trace h; undealt = deals_no_message config word events trace h }
