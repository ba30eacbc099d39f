-- What is done stays done while messages start, are written and wait.
use Rattle.std.proofs.Common.{◌≡◌, ◌≢◌, ℕ, ◌+◌, ◌-◌, ◌==◌, true, false, List, [], ◌∷◌, ◌++◌, Option, Some, None, refl, sym, ◌∙◌, ap, subst, ◌≤◌, ◌&&◌, ◌||◌, not}
use Rattle.std.proofs.lemmas.List.{append-nil}
use Rattle.containers.proofs.Choices.{chosen, eq_from, eq_test, if_true, left_if, not_both}
use Rattle.driver_model.specs.declared.action.Action.{Action}
use Rattle.driver_model.specs.declared.action.Action.TheVariants as action
use Rattle.driver_model.specs.declared.action.Owner.{Owner}
use Rattle.driver_model.specs.declared.action.Owner.TheVariants as owner
use Rattle.driver_model.specs.declared.action.Purpose.{Purpose}
use Rattle.driver_model.specs.declared.action.WaitKind.{WaitKind}
use Rattle.driver_model.specs.declared.outcome.Outcome.{Outcome}
use Rattle.legal_trace.specs.Ledger.{Ledger, Line, Start, begins, offers, noted_each, is_of_setup, is_set_up, is_ready, is_cut, setup_due, source_due, ending, failure_in, next_notice, renewals_asked, renewal_due, monitor_due, again_due}
use Rattle.legal_trace.specs.Story.{Story, Try, is_open, is_unstarted, shape, holds, clocked, tried, waits, answered, rounds}
use Rattle.legal_trace.specs.Steps.{is_due, is_held_back, permits_in, permits_on, permits_held, is_in_line, line_before, next_step}
use Rattle.legal_trace.specs.Steps.{waits as shows}
use Rattle.legal_trace.specs.Owed.{owed_to_message, owed_to_try, owed_waiting}
use Rattle.legal_trace.specs.Book.{Book, entered, if_mine, message_of, is_clock_of, is_rest, is_of_connect, faults_in, timer_lines}
use Rattle.legal_trace.specs.Legal.{MayTell, MayStart, MaySetUp, link_of, NoneIsOwed, IsApplied, IsBegun, IsMoved, IsWritten, MayRenew, MayWait, MayWatch, MayRepeat}
use Rattle.credentials.specs.Credentials.{Credentials}
use Rattle.legal_trace.proofs.Ahead.{held_where_moved, held_with_link}
use Rattle.legal_trace.proofs.Clocks.{timer_keeps, timer_own, timer_tells}
use Rattle.legal_trace.proofs.Ledgers.{mine_keeps}
use Rattle.legal_trace.proofs.Setups.{set_begins, ends_where_set, begun_undecided, due_is_unset, setup_stays, ungreeted_is_unset}
use Rattle.legal_trace.proofs.Renewals.{renewal_is_up}
use Rattle.legal_laws.proofs.Links.Shaped.{renewal_is_set}
use Rattle.legal_trace.proofs.Moves.{shown_alike, up_and_set, mover_is_up, mover_is_ready, ready_is_up, ready_is_set, starter_moves, step_of, line_alike, permits_alike}
use Rattle.legal_laws.proofs.Submissions.Tales.{open_has_none, last_behind}
use Rattle.legal_laws.proofs.Submissions.Owes.{owed_story, owed_again, owed_by_last, begins_keeps, new_is_owed_nothing}
use Rattle.legal_trace.proofs.Plain.{not_empty}
use Rattle.legal_laws.proofs.Traces.Sound.{Sound}
use Rattle.legal_laws.proofs.Traces.Undue.{still_generated, still_linked, still_rested}
use Rattle.legal_trace.proofs.Watching.{watch_stays, watch_is_unset, watching_is_unset}
use Rattle.legal_trace.proofs.Again.{repeating_is_ready, due_repeats}

-- a message of a submission starts
abbrev pub starting : ℕ → ℕ → ℕ → ℕ → ℕ → ℕ → Action
starting l k n round count len = action.Start l k (owner.Try n round) count len

-- a message that begins ends no link
begun_end_is : (b : Book) (l m : ℕ) (s : Start) → (noted_each (b.link m) (if_mine (l == m) (begins s))).end ≡ (b.link m).end
begun_end_is b l m s = mine_keeps (λ (x : Ledger). x.end ≡ (b.link m).end) (l == m) (b.link m) (begins s) (λ t. refl) refl

-- nor does it ask for one
begun_asked_is : (b : Book) (l m : ℕ) (s : Start) → (noted_each (b.link m) (if_mine (l == m) (begins s))).asked ≡ (b.link m).asked
begun_asked_is b l m s = mine_keeps (λ (x : Ledger). x.asked ≡ (b.link m).asked) (l == m) (b.link m) (begins s) (λ t. refl) refl

-- so a submission that waits is owed what it was
begun_waits : (b : Book) (l m : ℕ) (s : Start) → owed_waiting b.shut (b.link m) ≡ None → owed_waiting b.shut (noted_each (b.link m) (if_mine (l == m) (begins s))) ≡ None
begun_waits b l m s e = mine_keeps (λ (x : Ledger). owed_waiting b.shut x ≡ None) (l == m) (b.link m) (begins s) (λ t. e) e

-- nor do bytes that are offered end one
offered_end_is : (b : Book) (l m : ℕ) (bytes : List ℕ) → (noted_each (b.link m) (if_mine (l == m) (offers bytes))).end ≡ (b.link m).end
offered_end_is b l m bytes = mine_keeps (λ (x : Ledger). x.end ≡ (b.link m).end) (l == m) (b.link m) (offers bytes) (λ t. refl) refl

-- or ask for one
offered_asked_is : (b : Book) (l m : ℕ) (bytes : List ℕ) → (noted_each (b.link m) (if_mine (l == m) (offers bytes))).asked ≡ (b.link m).asked
offered_asked_is b l m bytes = mine_keeps (λ (x : Ledger). x.asked ≡ (b.link m).asked) (l == m) (b.link m) (offers bytes) (λ t. refl) refl

-- nor does a timer end one
timed_end_is : (b : Book) (m : ℕ) (what : Purpose) → (noted_each (b.link m) (timer_lines m what)).end ≡ (b.link m).end
timed_end_is b m what = timer_tells (λ (x : Ledger). x.end ≡ (b.link m).end) (b.link m) m what (λ on k is t. refl) (λ on is t. refl) refl

-- or ask for one
timed_asked_is : (b : Book) (m : ℕ) (what : Purpose) → (noted_each (b.link m) (timer_lines m what)).asked ≡ (b.link m).asked
timed_asked_is b m what = timer_tells (λ (x : Ledger). x.asked ≡ (b.link m).asked) (b.link m) m what (λ on k is t. refl) (λ on is t. refl) refl

-- the new message is owed nothing
new_message : (b : Book) (l k n round count len : ℕ) → MayStart b l k n count len → Sound b → owed_to_message ((entered b (starting l k n round count len)).link l) k (shape (b.story n)) ≡ None
new_message b l k n round count len may h =
    let up : (b.link l).up ≡ true = subst (λ j. (b.link j).up ≡ true) (sym may.on_its_link) (mover_is_up b n (starter_moves b l k n count len may)) in
    if_true (λ (lines : List Line). owed_to_message (noted_each (b.link l) lines) k (shape (b.story n)) ≡ None) (l == l) (begins (message_of b l (owner.Try n round)) ∷ []) [] (eq_test l l refl)
    (new_is_owed_nothing (b.link l) (message_of b l (owner.Try n round)) k (shape (b.story n)) (h.few l) (h.up l up) may.next)

-- its link is ready
pub starts_ready : (b : Book) (l k n count len : ℕ) → MayStart b l k n count len → is_ready (b.link l) ≡ true
starts_ready b l k n count len may = subst (λ j. is_ready (b.link j) ≡ true) (sym may.on_its_link) (mover_is_ready b n (starter_moves b l k n count len may))

-- so is the submission whose message starts
starter_owed : (b : Book) (l k n round count len : ℕ) → MayStart b l k n count len → Sound b → is_open (b.story n) ≡ true → owed_story (entered b (starting l k n round count len)) (tried (b.story n) l k) ≡ None
starter_owed b l k n round count len may h o =
    owed_by_last b (entered b (starting l k n round count len)) (b.story n) (tried (b.story n) l k) refl refl refl refl
    (subst (λ (x : Option Try). owed_to_try (entered b (starting l k n round count len)) (tried (b.story n) l k) x ≡ None) (sym (last_behind (b.story n).tries (record { link = l; message = k }))) (new_message b l k n round count len may h))
    (may.begun.applied.shown.answered n o)

-- and any other
others_owed : (b : Book) (l k : ℕ) (who : Owner) (count len : ℕ) → Sound b → (n : ℕ) → owed_story b (b.story n) ≡ None → owed_story (entered b (action.Start l k who count len)) (b.story n) ≡ None
others_owed b l k who count len h n =
    owed_again b (entered b (action.Start l k who count len)) (b.story n) (
      begun_waits b l (b.story n).link (message_of b l who),
      λ t last e. mine_keeps (λ x. owed_to_message x t.message (shape (b.story n)) ≡ None) (l == t.link) (b.link t.link) (begins (message_of b l who))
          (λ mine. begins_keeps (b.link t.link) (message_of b l who) t.message (shape (b.story n)) (h.starts n t last) e) e,
    )

-- so nothing is owed behind a start
start_owes : (b : Book) (l k m round count len : ℕ) → MayStart b l k m count len → Sound b → NoneIsOwed (entered b (starting l k m round count len))
start_owes b l k m round count len may h n =
    chosen (λ (s : Story). is_open s ≡ true → owed_story (entered b (starting l k m round count len)) s ≡ None) (m == n) (tried (b.story n) l k) (b.story n)
    (λ t. subst (λ j. is_open (tried (b.story j) l k) ≡ true → owed_story (entered b (starting l k m round count len)) (tried (b.story j) l k) ≡ None) (eq_from m n t) (starter_owed b l k m round count len may h))
    (λ f o. others_owed b l k (owner.Try m round) count len h n (may.begun.applied.shown.answered n o))

-- a link that is ready and doesn't end doesn't where a request's message starts
ready_begins : (l : Ledger) (s : Start) → is_of_setup s.owner ≡ false → is_ready l ≡ true → ending l ≡ None → ending (record l { starts = l.starts ++ s ∷ [] }) ≡ None
ready_begins l s request ready none =
    let set : is_set_up l ≡ true = ready_is_set l ready in
    ends_where_set (record l { starts = l.starts ++ s ∷ [] }) (ready_is_up l ready) (set_begins l s request set) ∙ (sym (ends_where_set l (ready_is_up l ready) set) ∙ none)

-- where a message leaves it as it is whether a link is set up, no further source is to be asked for
source_begins : (l : Ledger) (s : Start) → is_set_up (record l { starts = l.starts ++ s ∷ [] }) ≡ is_set_up l → source_due l ≡ false → source_due (record l { starts = l.starts ++ s ∷ [] }) ≡ false
source_begins l s same none = ap (λ set. l.up && l.creds.wanted && (not l.creds.asked || (set && not l.creds.renews))) same ∙ none

-- so where one starts on a link that is set up
set_sources : (l : Ledger) (s : Start) → is_of_setup s.owner ≡ false → is_set_up l ≡ true → source_due l ≡ false → source_due (record l { starts = l.starts ++ s ∷ [] }) ≡ false
set_sources l s other set none = source_begins l s (set_begins l s other set ∙ sym set) none

-- where a fault ended a link, this was told
abbrev IsToldOver : Ledger → Type 0
IsToldOver l = is_cut l.end ≡ true → l.parted ≡ true

-- a start leaves the event applied
pub start_applied : (b : Book) (l k m round count len : ℕ) → MayStart b l k m count len → Sound b → IsApplied (entered b (starting l k m round count len))
start_applied b l k m round count len may h = record {
  shown = record {
    answered = start_owes b l k m round count len may h;
    ended = λ j. mine_keeps (λ x. ending x ≡ None) (l == j) (b.link j) (begins (message_of b l (owner.Try m round)))
        (λ t. ready_begins (b.link j) (message_of b l (owner.Try m round)) refl (subst (λ i. is_ready (b.link i) ≡ true) (eq_from l j t) (starts_ready b l k m count len may)) (may.begun.applied.shown.ended j)) (may.begun.applied.shown.ended j);
    created = record {
      lazy = may.begun.applied.shown.created.lazy;
      shown = λ j. mine_keeps (λ (x : Ledger). is_ready x ≡ true → b.created ≢ 0) (l == j) (b.link j) (begins (message_of b l (owner.Try m round))) (λ t ready. may.begun.applied.shown.created.shown l (starts_ready b l k m count len may)) (may.begun.applied.shown.created.shown j);
      failed = λ j e. mine_keeps (λ (x : Ledger). failure_in x.end ≡ Some e → b.created ≢ 0) (l == j) (b.link j) (begins (message_of b l (owner.Try m round))) (λ t. may.begun.applied.shown.created.failed j e) (may.begun.applied.shown.created.failed j e);
    };
    pushed = λ j heard. mine_keeps (λ x. next_notice x ≡ None) (l == j) (b.link j) (begins (message_of b l (owner.Try m round))) (λ t. may.begun.applied.shown.pushed j heard) (may.begun.applied.shown.pushed j heard);
    parted = λ j heard. mine_keeps IsToldOver (l == j) (b.link j) (begins (message_of b l (owner.Try m round))) (λ t. may.begun.applied.shown.parted j heard) (may.begun.applied.shown.parted j heard);
    sourced = λ j. mine_keeps (λ x. source_due x ≡ false) (l == j) (b.link j) (begins (message_of b l (owner.Try m round)))
        (λ t. set_sources (b.link j) (message_of b l (owner.Try m round)) refl (ready_is_set (b.link j) (subst (λ i. is_ready (b.link i) ≡ true) (eq_from l j t) (starts_ready b l k m count len may))) (may.begun.applied.shown.sourced j)) (may.begun.applied.shown.sourced j);
  };
  rested = still_rested b (begun_end_is b l b.current (message_of b l (owner.Try m round))) may.begun.applied.rested;
  generated = still_generated b (is_open ((entered b (starting l k m round count len)).story (b.submissions - 1))) (begun_end_is b l b.current (message_of b l (owner.Try m round))) refl (chosen (λ s. is_open s ≡ true → is_open (b.story (b.submissions - 1)) ≡ true) (m == b.submissions - 1) (tried (b.story (b.submissions - 1)) l k) (b.story (b.submissions - 1)) (λ t o. o) (λ f o. o)) may.begun.applied.generated;
  linked = still_linked b (begun_asked_is b l b.current (message_of b l (owner.Try m round))) refl may.begun.applied.linked;
  timed = may.begun.applied.timed;
}

-- new credentials that are told leave it so
pub renew_applied : (b : Book) (l k count len : ℕ) → MayRenew b l k count len → Sound b → IsApplied (entered b (action.Start l k owner.Auth count len))
renew_applied b l k count len may h =
    let set : is_set_up (b.link l) ≡ true = renewal_is_set (b.link l) may.credentials (h.shaped l) may.due in
    let ready : is_ready (b.link l) ≡ true = up_and_set (b.link l) (renewal_is_up (b.link l) may.credentials may.due) set in
    let s : Start = message_of b l owner.Auth in
    record {
      shown = record {
        answered = λ n o. others_owed b l k owner.Auth count len h n (may.applied.shown.answered n o);
        ended = λ j. mine_keeps (λ x. ending x ≡ None) (l == j) (b.link j) (begins s)
            (λ t. ready_begins (b.link j) s refl (subst (λ i. is_ready (b.link i) ≡ true) (eq_from l j t) ready) (may.applied.shown.ended j)) (may.applied.shown.ended j);
        created = record {
          lazy = may.applied.shown.created.lazy;
          shown = λ j. mine_keeps (λ (x : Ledger). is_ready x ≡ true → b.created ≢ 0) (l == j) (b.link j) (begins s) (λ t other. may.applied.shown.created.shown l ready) (may.applied.shown.created.shown j);
          failed = λ j e. mine_keeps (λ (x : Ledger). failure_in x.end ≡ Some e → b.created ≢ 0) (l == j) (b.link j) (begins s) (λ t. may.applied.shown.created.failed j e) (may.applied.shown.created.failed j e);
        };
        pushed = λ j heard. mine_keeps (λ x. next_notice x ≡ None) (l == j) (b.link j) (begins s) (λ t. may.applied.shown.pushed j heard) (may.applied.shown.pushed j heard);
        parted = λ j heard. mine_keeps IsToldOver (l == j) (b.link j) (begins s) (λ t. may.applied.shown.parted j heard) (may.applied.shown.parted j heard);
        sourced = λ j. mine_keeps (λ x. source_due x ≡ false) (l == j) (b.link j) (begins s)
            (λ t. set_sources (b.link j) s refl (ready_is_set (b.link j) (subst (λ i. is_ready (b.link i) ≡ true) (eq_from l j t) ready)) (may.applied.shown.sourced j)) (may.applied.shown.sourced j);
      };
      rested = still_rested b (begun_end_is b l b.current (s)) may.applied.rested;
      generated = still_generated b (is_open (b.story (b.submissions - 1))) (begun_end_is b l b.current (s)) refl (λ o. o) may.applied.generated;
      linked = still_linked b (begun_asked_is b l b.current (s)) refl may.applied.linked;
      timed = may.applied.timed;
    }

-- so does what is subscribed again
pub repeat_applied : (b : Book) (l k count len : ℕ) → MayRepeat b l k count len → Sound b → IsApplied (entered b (action.Start l k owner.Resub count len))
repeat_applied b l k count len may h =
    let ready : is_ready (b.link l) ≡ true = repeating_is_ready (b.link l) (due_repeats (b.link l) may.due) in
    let s : Start = message_of b l owner.Resub in
    record {
      shown = record {
        answered = λ n o. others_owed b l k owner.Resub count len h n (may.applied.shown.answered n o);
        ended = λ j. mine_keeps (λ x. ending x ≡ None) (l == j) (b.link j) (begins s)
            (λ t. ready_begins (b.link j) s refl (subst (λ i. is_ready (b.link i) ≡ true) (eq_from l j t) ready) (may.applied.shown.ended j)) (may.applied.shown.ended j);
        created = record {
          lazy = may.applied.shown.created.lazy;
          shown = λ j. mine_keeps (λ (x : Ledger). is_ready x ≡ true → b.created ≢ 0) (l == j) (b.link j) (begins s) (λ t other. may.applied.shown.created.shown l ready) (may.applied.shown.created.shown j);
          failed = λ j e. mine_keeps (λ (x : Ledger). failure_in x.end ≡ Some e → b.created ≢ 0) (l == j) (b.link j) (begins s) (λ t. may.applied.shown.created.failed j e) (may.applied.shown.created.failed j e);
        };
        pushed = λ j heard. mine_keeps (λ x. next_notice x ≡ None) (l == j) (b.link j) (begins s) (λ t. may.applied.shown.pushed j heard) (may.applied.shown.pushed j heard);
        parted = λ j heard. mine_keeps IsToldOver (l == j) (b.link j) (begins s) (λ t. may.applied.shown.parted j heard) (may.applied.shown.parted j heard);
        sourced = λ j. mine_keeps (λ x. source_due x ≡ false) (l == j) (b.link j) (begins s)
            (λ t. set_sources (b.link j) s refl (ready_is_set (b.link j) (subst (λ i. is_ready (b.link i) ≡ true) (eq_from l j t) ready)) (may.applied.shown.sourced j)) (may.applied.shown.sourced j);
      };
      rested = still_rested b (begun_end_is b l b.current (s)) may.applied.rested;
      generated = still_generated b (is_open (b.story (b.submissions - 1))) (begun_end_is b l b.current (s)) refl (λ o. o) may.applied.generated;
      linked = still_linked b (begun_asked_is b l b.current (s)) refl may.applied.linked;
      timed = may.applied.timed;
    }

-- a link whose setup has just started isn't set up
setup_unset : (b : Book) (l k count len : ℕ) → MaySetUp b l k count len → Sound b → is_set_up (record (b.link l) { starts = (b.link l).starts ++ message_of b l owner.Setup ∷ [] }) ≡ false
setup_unset b l k count len may h =
    ungreeted_is_unset (record (b.link l) { starts = (b.link l).starts ++ message_of b l owner.Setup ∷ [] })
    (begun_undecided (b.link l) (message_of b l owner.Setup) may.k refl may.due (h.few l)).unwell

-- a setup leaves the event applied
pub setup_applied : (b : Book) (l k count len : ℕ) → MaySetUp b l k count len → Sound b → IsApplied (entered b (action.Start l k owner.Setup count len))
setup_applied b l k count len may h = record {
  shown = record {
    answered = λ n o. others_owed b l k owner.Setup count len h n (may.applied.shown.answered n o);
    ended = λ j. mine_keeps (λ x. ending x ≡ None) (l == j) (b.link j) (begins (message_of b l owner.Setup))
        (λ t. subst (λ i. ending (record (b.link i) { starts = (b.link i).starts ++ message_of b l owner.Setup ∷ [] }) ≡ None) (eq_from l j t) (setup_stays (b.link l) (message_of b l owner.Setup) may.k refl may.due (h.few l) (may.applied.shown.ended l))) (may.applied.shown.ended j);
    created = record {
      lazy = may.applied.shown.created.lazy;
      shown = λ j. mine_keeps (λ (x : Ledger). is_ready x ≡ true → b.created ≢ 0) (l == j) (b.link j) (begins (message_of b l owner.Setup))
          (λ t. subst (λ i. is_ready (record (b.link i) { starts = (b.link i).starts ++ message_of b l owner.Setup ∷ [] }) ≡ true → b.created ≢ 0) (eq_from l j t)
          (λ ready. absurd (not_both (is_set_up (record (b.link l) { starts = (b.link l).starts ++ message_of b l owner.Setup ∷ [] })) (setup_unset b l k count len may h) (ready_is_set (record (b.link l) { starts = (b.link l).starts ++ message_of b l owner.Setup ∷ [] }) ready)))) (may.applied.shown.created.shown j);
      failed = λ j e. mine_keeps (λ (x : Ledger). failure_in x.end ≡ Some e → b.created ≢ 0) (l == j) (b.link j) (begins (message_of b l owner.Setup)) (λ t. may.applied.shown.created.failed j e) (may.applied.shown.created.failed j e);
    };
    pushed = λ j heard. mine_keeps (λ x. next_notice x ≡ None) (l == j) (b.link j) (begins (message_of b l owner.Setup)) (λ t. may.applied.shown.pushed j heard) (may.applied.shown.pushed j heard);
    parted = λ j heard. mine_keeps IsToldOver (l == j) (b.link j) (begins (message_of b l owner.Setup)) (λ t. may.applied.shown.parted j heard) (may.applied.shown.parted j heard);
    sourced = λ j. mine_keeps (λ x. source_due x ≡ false) (l == j) (b.link j) (begins (message_of b l owner.Setup))
        (λ t. subst (λ i. source_due (record (b.link i) { starts = (b.link i).starts ++ message_of b l owner.Setup ∷ [] }) ≡ false) (eq_from l j t)
        (source_begins (b.link l) (message_of b l owner.Setup) (setup_unset b l k count len may h ∙ sym (due_is_unset (b.link l) may.k may.due)) (may.applied.shown.sourced l))) (may.applied.shown.sourced j);
  };
  rested = still_rested b (begun_end_is b l b.current (message_of b l owner.Setup)) may.applied.rested;
  generated = still_generated b (is_open (b.story (b.submissions - 1))) (begun_end_is b l b.current (message_of b l owner.Setup)) refl (λ o. o) may.applied.generated;
  linked = still_linked b (begun_asked_is b l b.current (message_of b l owner.Setup)) refl may.applied.linked;
  timed = may.applied.timed;
}

-- and so does MONITOR
pub watch_applied : (b : Book) (l k count len : ℕ) → MayWatch b l k count len → Sound b → IsApplied (entered b (action.Start l k owner.Monitor count len))
watch_applied b l k count len may h = record {
  shown = record {
    answered = λ n o. others_owed b l k owner.Monitor count len h n (may.applied.shown.answered n o);
    ended = λ j. mine_keeps (λ x. ending x ≡ None) (l == j) (b.link j) (begins (message_of b l owner.Monitor))
        (λ t. subst (λ i. ending (record (b.link i) { starts = (b.link i).starts ++ message_of b l owner.Monitor ∷ [] }) ≡ None) (eq_from l j t) (watch_stays (b.link l) (message_of b l owner.Monitor) refl may.due (h.few l) (may.applied.shown.ended l))) (may.applied.shown.ended j);
    created = record {
      lazy = may.applied.shown.created.lazy;
      shown = λ j. mine_keeps (λ (x : Ledger). is_ready x ≡ true → b.created ≢ 0) (l == j) (b.link j) (begins (message_of b l owner.Monitor))
          (λ t. subst (λ i. is_ready (record (b.link i) { starts = (b.link i).starts ++ message_of b l owner.Monitor ∷ [] }) ≡ true → b.created ≢ 0) (eq_from l j t)
          (λ ready. absurd (not_both (is_set_up (record (b.link l) { starts = (b.link l).starts ++ message_of b l owner.Monitor ∷ [] })) (watching_is_unset (b.link l) (message_of b l owner.Monitor) refl may.due (h.few l)) (ready_is_set (record (b.link l) { starts = (b.link l).starts ++ message_of b l owner.Monitor ∷ [] }) ready)))) (may.applied.shown.created.shown j);
      failed = λ j e. mine_keeps (λ (x : Ledger). failure_in x.end ≡ Some e → b.created ≢ 0) (l == j) (b.link j) (begins (message_of b l owner.Monitor)) (λ t. may.applied.shown.created.failed j e) (may.applied.shown.created.failed j e);
    };
    pushed = λ j heard. mine_keeps (λ x. next_notice x ≡ None) (l == j) (b.link j) (begins (message_of b l owner.Monitor)) (λ t. may.applied.shown.pushed j heard) (may.applied.shown.pushed j heard);
    parted = λ j heard. mine_keeps IsToldOver (l == j) (b.link j) (begins (message_of b l owner.Monitor)) (λ t. may.applied.shown.parted j heard) (may.applied.shown.parted j heard);
    sourced = λ j. mine_keeps (λ x. source_due x ≡ false) (l == j) (b.link j) (begins (message_of b l owner.Monitor))
        (λ t. subst (λ i. source_due (record (b.link i) { starts = (b.link i).starts ++ message_of b l owner.Monitor ∷ [] }) ≡ false) (eq_from l j t)
        (source_begins (b.link l) (message_of b l owner.Monitor) (watching_is_unset (b.link l) (message_of b l owner.Monitor) refl may.due (h.few l) ∙ sym (watch_is_unset (b.link l) may.due)) (may.applied.shown.sourced l))) (may.applied.shown.sourced j);
  };
  rested = still_rested b (begun_end_is b l b.current (message_of b l owner.Monitor)) may.applied.rested;
  generated = still_generated b (is_open (b.story (b.submissions - 1))) (begun_end_is b l b.current (message_of b l owner.Monitor)) refl (λ o. o) may.applied.generated;
  linked = still_linked b (begun_asked_is b l b.current (message_of b l owner.Monitor)) refl may.applied.linked;
  timed = may.applied.timed;
}

-- what is answered is not open
pub not_open : (s : Story) (o : Outcome) → is_open (answered s o) ≡ true → ⊥
not_open s o h = not_empty s.outcomes o (open_has_none (answered s o) h)

-- so does Nil that is told at its place
pub tell_applied : (b : Book) (m : ℕ) (o : Outcome) → MayTell b m o → IsApplied (entered b (action.Outcome m o))
tell_applied b m o may = record {
  shown = record {
    answered = λ n. chosen (λ (s : Story). is_open s ≡ true → owed_story (entered b (action.Outcome m o)) s ≡ None) (m == n) (answered (b.story n) o) (b.story n)
        (λ t open_still. absurd (not_open (b.story n) o open_still))
        (λ f open_still. owed_again b (entered b (action.Outcome m o)) (b.story n) (λ e. e, λ t last e. e) (may.begun.applied.shown.answered n open_still));
    ended = may.begun.applied.shown.ended;
    created = record { lazy = may.begun.applied.shown.created.lazy; shown = may.begun.applied.shown.created.shown; failed = may.begun.applied.shown.created.failed };
    pushed = may.begun.applied.shown.pushed;
    parted = may.begun.applied.shown.parted;
    sourced = may.begun.applied.shown.sourced;
  };
  rested = still_rested b (refl) may.begun.applied.rested;
  generated = still_generated b (is_open ((entered b (action.Outcome m o)).story (b.submissions - 1))) (refl) (ap (λ x. b.errors ++ faults_in x) may.nil ∙ append-nil b.errors) (chosen (λ s. is_open s ≡ true → is_open (b.story (b.submissions - 1)) ≡ true) (m == b.submissions - 1) (answered (b.story (b.submissions - 1)) o) (b.story (b.submissions - 1)) (λ t still. absurd (not_open (b.story (b.submissions - 1)) o still)) (λ f o. o)) may.begun.applied.generated;
  linked = still_linked b (refl) refl may.begun.applied.linked;
  timed = may.begun.applied.timed;
}

-- where all is moved, new credentials that are to be told wait on links that are held back
held_renewals : (b : Book) → IsMoved b → (l : ℕ) (c : Credentials) → renewal_due (b.link l) ≡ Some c → is_held_back b (b.link l) ≡ true
held_renewals b done l c due = held_where_moved b l done.moved (done.begun.renewed l c due)

-- a write leaves the event applied and all moved
write_applied : (b : Book) (l : ℕ) (bytes : List ℕ) → IsApplied b → IsApplied (entered b (action.Write l bytes))
write_applied b l bytes done = record {
  shown = record {
    answered = λ n o. owed_again b (entered b (action.Write l bytes)) (b.story n) (
      λ e. mine_keeps (λ (x : Ledger). owed_waiting b.shut x ≡ None) (l == (b.story n).link) (b.link (b.story n).link) (offers bytes) (λ t. e) e,
      λ t last e. mine_keeps (λ x. owed_to_message x t.message (shape (b.story n)) ≡ None) (l == t.link) (b.link t.link) (offers bytes) (λ mine. e) e,
    )
        (done.shown.answered n o);
    ended = λ j. mine_keeps (λ x. ending x ≡ None) (l == j) (b.link j) (offers bytes) (λ t. done.shown.ended j) (done.shown.ended j);
    created = record {
      lazy = done.shown.created.lazy;
      shown = λ j. mine_keeps (λ (x : Ledger). is_ready x ≡ true → b.created ≢ 0) (l == j) (b.link j) (offers bytes) (λ t. done.shown.created.shown j) (done.shown.created.shown j);
      failed = λ j e. mine_keeps (λ (x : Ledger). failure_in x.end ≡ Some e → b.created ≢ 0) (l == j) (b.link j) (offers bytes) (λ t. done.shown.created.failed j e) (done.shown.created.failed j e);
    };
    pushed = λ j heard. mine_keeps (λ x. next_notice x ≡ None) (l == j) (b.link j) (offers bytes) (λ t. done.shown.pushed j heard) (done.shown.pushed j heard);
    parted = λ j heard. mine_keeps IsToldOver (l == j) (b.link j) (offers bytes) (λ t. done.shown.parted j heard) (done.shown.parted j heard);
    sourced = λ j. mine_keeps (λ x. source_due x ≡ false) (l == j) (b.link j) (offers bytes) (λ t. done.shown.sourced j) (done.shown.sourced j);
  };
  rested = still_rested b (offered_end_is b l b.current bytes) done.rested;
  generated = still_generated b (is_open (b.story (b.submissions - 1))) (offered_end_is b l b.current bytes) refl (λ o. o) done.generated;
  linked = still_linked b (offered_asked_is b l b.current bytes) refl done.linked;
  timed = done.timed;
}

-- a write leaves each submission its next step
written_step : (b : Book) (l n : ℕ) (bytes : List ℕ) → next_step (entered b (action.Write l bytes)) n ≡ next_step b n
written_step b l n bytes = mine_keeps (λ x. step_of b.config (b.story n) (line_before (permits_in b.config) b.story (b.story n).link n) (permits_held b.story (b.story n).link b.submissions) x ≡ next_step b n) (l == (b.story n).link) (link_of b n) (offers bytes) (λ t. refl) refl

-- setups stay started, and so do MONITOR, what is subscribed again and, where all is moved, new credentials
write_begun : (b : Book) (l : ℕ) (bytes : List ℕ) → IsMoved b → IsBegun (entered b (action.Write l bytes))
write_begun b l bytes all =
    let done : IsBegun b = all.begun in
    record {
      applied = write_applied b l bytes done.applied;
      setups = λ j k. mine_keeps (λ x. setup_due x ≡ Some k → is_held_back b x ≡ true) (l == j) (b.link j) (offers bytes) (λ t. done.setups j k) (done.setups j k);
      monitors = λ j. mine_keeps (λ x. monitor_due x ≡ true → is_held_back b x ≡ true) (l == j) (b.link j) (offers bytes) (λ t. done.monitors j) (done.monitors j);
      repeats_timed = λ j set. mine_keeps (λ (x : Ledger). again_due x ≡ true → x.again.timed ≡ true) (l == j) (b.link j) (offers bytes) (λ t. done.repeats_timed j set) (done.repeats_timed j set);
      repeated = λ j. mine_keeps (λ x. again_due x ≡ true → is_held_back b x ≡ true) (l == j) (b.link j) (offers bytes) (λ t. done.repeated j) (done.repeated j);
      timed = λ j set. mine_keeps (λ (x : Ledger). renewals_asked x ≤ x.creds.timed) (l == j) (b.link j) (offers bytes) (λ t. done.timed j set) (done.timed j set);
      renewed = λ j c due. held_with_link (entered b (action.Write l bytes)) j
          (mine_keeps (λ x. renewal_due x ≡ Some c → is_held_back b x ≡ true) (l == j) (b.link j) (offers bytes) (λ t. held_renewals b all j c) (held_renewals b all j c) due);
    }

-- so nothing moves behind a write that couldn't before
pub write_moved : (b : Book) (l : ℕ) (bytes : List ℕ) → IsMoved b → IsMoved (entered b (action.Write l bytes))
write_moved b l bytes done = record {
  begun = write_begun b l bytes done;
  moved = λ n m. done.moved n (record { unstarted = m.unstarted; due = sym (ap is_due (written_step b l n bytes)) ∙ m.due });
}

-- so do permits that are taken
pub take_applied : (b : Book) (m round l count : ℕ) → IsApplied b → IsApplied (entered b (action.Took (owner.Try m round) l count))
take_applied b m round l count done = record {
  shown = record {
    answered = λ n. chosen (λ (s : Story). is_open s ≡ true → owed_story (entered b (action.Took (owner.Try m round) l count)) s ≡ None) (m == n) (holds (b.story n) count) (b.story n)
        (λ t o. owed_again b (entered b (action.Took (owner.Try m round) l count)) (b.story n) (λ e. e, λ u last e. e) (done.shown.answered n o))
        (λ f o. owed_again b (entered b (action.Took (owner.Try m round) l count)) (b.story n) (λ e. e, λ u last e. e) (done.shown.answered n o));
    ended = done.shown.ended;
    created = record { lazy = done.shown.created.lazy; shown = done.shown.created.shown; failed = done.shown.created.failed };
    pushed = done.shown.pushed;
    parted = done.shown.parted;
    sourced = done.shown.sourced;
  };
  rested = still_rested b (refl) done.rested;
  generated = still_generated b (is_open ((entered b (action.Took (owner.Try m round) l count)).story (b.submissions - 1))) (refl) refl (chosen (λ s. is_open s ≡ true → is_open (b.story (b.submissions - 1)) ≡ true) (m == b.submissions - 1) (holds (b.story (b.submissions - 1)) count) (b.story (b.submissions - 1)) (λ t o. o) (λ f o. o)) done.generated;
  linked = still_linked b (refl) refl done.linked;
  timed = done.timed;
}

-- so does the round of a submission
pub round_applied : (b : Book) (m round : ℕ) (on : Option ℕ) → IsApplied b → IsApplied (entered b (action.Round (owner.Try m round) on))
round_applied b m round on done = record {
  shown = record {
    answered = λ n. chosen (λ (s : Story). is_open s ≡ true → owed_story (entered b (action.Round (owner.Try m round) on)) s ≡ None) (m == n) (rounds (b.story n)) (b.story n)
        (λ t o. owed_again b (entered b (action.Round (owner.Try m round) on)) (b.story n) (λ e. e, λ u last e. e) (done.shown.answered n o))
        (λ f o. owed_again b (entered b (action.Round (owner.Try m round) on)) (b.story n) (λ e. e, λ u last e. e) (done.shown.answered n o));
    ended = done.shown.ended;
    created = record { lazy = done.shown.created.lazy; shown = done.shown.created.shown; failed = done.shown.created.failed };
    pushed = done.shown.pushed;
    parted = done.shown.parted;
    sourced = done.shown.sourced;
  };
  rested = still_rested b (refl) done.rested;
  generated = still_generated b (is_open ((entered b (action.Round (owner.Try m round) on)).story (b.submissions - 1))) (refl) refl (chosen (λ s. is_open s ≡ true → is_open (b.story (b.submissions - 1)) ≡ true) (m == b.submissions - 1) (rounds (b.story (b.submissions - 1))) (b.story (b.submissions - 1)) (λ t o. o) (λ f o. o)) done.generated;
  linked = still_linked b (refl) refl done.linked;
  timed = done.timed;
}

-- a timer for new credentials, or for what is subscribed again, is nothing to what is owed
times_owed : (b : Book) (t ms : ℕ) (what : Purpose) (n : ℕ) → owed_story b (b.story n) ≡ None → owed_story (entered b (action.Timer t ms what)) (b.story n) ≡ None
times_owed b t ms what n none = owed_again b (entered b (action.Timer t ms what)) (b.story n) (
  λ e. timer_tells (λ (x : Ledger). owed_waiting b.shut x ≡ None) (b.link (b.story n).link) (b.story n).link what (λ on k is u. e) (λ on is u. e) e,
  λ u last e. timer_tells (λ x. owed_to_message x u.message (shape (b.story n)) ≡ None) (b.link u.link) u.link what (λ on k is mine. e) (λ on is mine. e) e,
)
    none

-- and a timer
pub ask_applied : (b : Book) (t ms : ℕ) (what : Purpose) → is_rest what ≡ false → is_of_connect what ≡ false → IsApplied b → IsApplied (entered b (action.Timer t ms what))
ask_applied b t ms what other apart done = record {
  shown = record {
    answered = λ n. subst (λ (s : Story). is_open s ≡ true → owed_story (entered b (action.Timer t ms what)) s ≡ None) (sym (timer_own b n t what other))
        (chosen (λ (s : Story). is_open s ≡ true → owed_story (entered b (action.Timer t ms what)) s ≡ None) (is_clock_of n (Some what)) (clocked (b.story n) t) (b.story n)
        (λ e o. times_owed b t ms what n (done.shown.answered n o))
        (λ f o. times_owed b t ms what n (done.shown.answered n o)));
    ended = λ j. timer_tells (λ x. ending x ≡ None) (b.link j) j what (λ on k is t. done.shown.ended j) (λ on is t. done.shown.ended j) (done.shown.ended j);
    created = record {
      lazy = done.shown.created.lazy;
      shown = λ j. timer_tells (λ (x : Ledger). is_ready x ≡ true → b.created ≢ 0) (b.link j) j what (λ on k is t. done.shown.created.shown j) (λ on is t. done.shown.created.shown j) (done.shown.created.shown j);
      failed = λ j e. timer_tells (λ (x : Ledger). failure_in x.end ≡ Some e → b.created ≢ 0) (b.link j) j what (λ on k is t. done.shown.created.failed j e) (λ on is t. done.shown.created.failed j e) (done.shown.created.failed j e);
    };
    pushed = λ j heard. timer_tells (λ x. next_notice x ≡ None) (b.link j) j what (λ on k is t. done.shown.pushed j heard) (λ on is t. done.shown.pushed j heard) (done.shown.pushed j heard);
    parted = λ j heard. timer_tells IsToldOver (b.link j) j what (λ on k is t. done.shown.parted j heard) (λ on is t. done.shown.parted j heard) (done.shown.parted j heard);
    sourced = λ j. timer_tells (λ x. source_due x ≡ false) (b.link j) j what (λ on k is t. done.shown.sourced j) (λ on is t. done.shown.sourced j) (done.shown.sourced j);
  };
  rested = still_rested b (ap (λ c. ((entered b (action.Timer t ms what)).link c).end) (left_if (is_rest what) b.links b.current other) ∙ timed_end_is b b.current what) done.rested;
  generated = still_generated b (is_open ((entered b (action.Timer t ms what)).story (b.submissions - 1)))
      (ap (λ c. ((entered b (action.Timer t ms what)).link c).end) (left_if (is_rest what) b.links b.current other) ∙ timed_end_is b b.current what)
      (left_if (is_rest what) [] b.errors other)
      (timer_keeps (λ s. is_open s ≡ true → is_open (b.story (b.submissions - 1)) ≡ true) b (b.submissions - 1) t what (λ e o still. still) (λ e o. o) (λ o. o)) done.generated;
  linked = still_linked b (ap (λ c. ((entered b (action.Timer t ms what)).link c).asked) (left_if (is_rest what) b.links b.current other) ∙ timed_asked_is b b.current what) (left_if (is_rest what) (Some t) b.rest other) done.linked;
  timed = λ config told bounded. left_if (is_of_connect what) (b.timed + 1) b.timed apart ∙ done.timed config told bounded;
}

-- and a wait leaves all as it was
wait_applied : (b : Book) (m round : ℕ) (kind : WaitKind) → IsApplied b → IsApplied (entered b (action.Wait (owner.Try m round) kind))
wait_applied b m round kind done = record {
  shown = record {
    answered = λ n. chosen (λ (s : Story). is_open s ≡ true → owed_story (entered b (action.Wait (owner.Try m round) kind)) s ≡ None) (m == n) (waits (b.story n) kind) (b.story n)
        (λ t o. owed_again b (entered b (action.Wait (owner.Try m round) kind)) (b.story n) (λ e. e, λ u last e. e) (done.shown.answered n o))
        (λ f o. owed_again b (entered b (action.Wait (owner.Try m round) kind)) (b.story n) (λ e. e, λ u last e. e) (done.shown.answered n o));
    ended = done.shown.ended;
    created = record { lazy = done.shown.created.lazy; shown = done.shown.created.shown; failed = done.shown.created.failed };
    pushed = done.shown.pushed;
    parted = done.shown.parted;
    sourced = done.shown.sourced;
  };
  rested = still_rested b (refl) done.rested;
  generated = still_generated b (is_open ((entered b (action.Wait (owner.Try m round) kind)).story (b.submissions - 1))) (refl) refl (chosen (λ s. is_open s ≡ true → is_open (b.story (b.submissions - 1)) ≡ true) (m == b.submissions - 1) (waits (b.story (b.submissions - 1)) kind) (b.story (b.submissions - 1)) (λ t o. o) (λ f o. o)) done.generated;
  linked = still_linked b (refl) refl done.linked;
  timed = done.timed;
}

-- a wait leaves each submission in its line
wait_lines : (b : Book) (m round : ℕ) (kind : WaitKind) (l k : ℕ) → is_in_line (permits_in b.config) l ((entered b (action.Wait (owner.Try m round) kind)).story k) ≡ is_in_line (permits_in b.config) l (b.story k)
wait_lines b m round kind l k = chosen (λ s. is_in_line (permits_in b.config) l s ≡ is_in_line (permits_in b.config) l (b.story k)) (m == k) (waits (b.story k) kind) (b.story k) (λ t. refl) (λ f. refl)

-- and its permits
wait_permits : (b : Book) (m round : ℕ) (kind : WaitKind) (l k : ℕ) → permits_on l ((entered b (action.Wait (owner.Try m round) kind)).story k) ≡ permits_on l (b.story k)
wait_permits b m round kind l k = chosen (λ s. permits_on l s ≡ permits_on l (b.story k)) (m == k) (waits (b.story k) kind) (b.story k) (λ t. refl) (λ f. refl)

-- and its next step
wait_step : (b : Book) (m round : ℕ) (kind : WaitKind) → MayWait b m kind → (n : ℕ) → next_step (entered b (action.Wait (owner.Try m round) kind)) n ≡ next_step b n
wait_step b m round kind may n =
    let c : Book = entered b (action.Wait (owner.Try m round) kind) in
    let before : ℕ = line_before (permits_in b.config) b.story (b.story n).link n in
    let taken : ℕ = permits_held b.story (b.story n).link b.submissions in
    let line : line_before (permits_in b.config) c.story (b.story n).link n ≡ before = line_alike (permits_in b.config) c.story b.story (wait_lines b m round kind) (b.story n).link n in
    let held : permits_held c.story (b.story n).link b.submissions ≡ taken = permits_alike c.story b.story (wait_permits b m round kind) (b.story n).link b.submissions in
    let same : (s : Story) → step_of b.config s (line_before (permits_in b.config) c.story (b.story n).link n) (permits_held c.story (b.story n).link b.submissions) (link_of b n) ≡ step_of b.config s before taken (link_of b n) =
    λ s. ap (λ x. step_of b.config s x (permits_held c.story (b.story n).link b.submissions) (link_of b n)) line ∙ ap (λ x. step_of b.config s before x (link_of b n)) held in
    chosen (λ s. step_of b.config s (line_before (permits_in b.config) c.story s.link n) (permits_held c.story s.link b.submissions) (b.link s.link) ≡ next_step b n) (m == n) (waits (b.story n) kind) (b.story n)
    (λ t.
    let holds : next_step b n ≡ shows kind = subst (λ i. next_step b i ≡ shows kind) (eq_from m n t) may.holds in
    same (waits (b.story n) kind) ∙ (shown_alike b.config (b.story n) before taken (link_of b n) kind holds ∙ sym holds))
    (λ f. same (b.story n))

-- and leaves unstarted what is
wait_unstarted : (b : Book) (m round : ℕ) (kind : WaitKind) (n : ℕ) → is_unstarted ((entered b (action.Wait (owner.Try m round) kind)).story n) ≡ is_unstarted (b.story n)
wait_unstarted b m round kind n = chosen (λ s. is_unstarted s ≡ is_unstarted (b.story n)) (m == n) (waits (b.story n) kind) (b.story n) (λ t. refl) (λ f. refl)

-- so all stays written behind a wait
pub wait_written : (b : Book) (m round : ℕ) (kind : WaitKind) → MayWait b m kind → IsWritten b → IsWritten (entered b (action.Wait (owner.Try m round) kind))
wait_written b m round kind may done = record {
  moved = record {
    begun = record { applied = wait_applied b m round kind done.moved.begun.applied; setups = done.moved.begun.setups; monitors = done.moved.begun.monitors; repeats_timed = done.moved.begun.repeats_timed; repeated = done.moved.begun.repeated; timed = done.moved.begun.timed; renewed = λ l c due. held_with_link (entered b (action.Wait (owner.Try m round) kind)) l (held_renewals b done.moved l c due) };
    moved = λ n p. done.moved.moved n (record {
      unstarted = sym (wait_unstarted b m round kind n) ∙ p.unstarted;
      due = sym (ap is_due (wait_step b m round kind may n)) ∙ p.due;
    });
  };
  offered = done.offered;
}
