-- Links on which MONITOR is to start: what they are, and what its start leaves.
use Rattle.std.proofs.Common.{◌≡◌, ◌≢◌, ℕ, ◌+◌, ◌≤◌, nat_le, Bool, true, false, ◌&&◌, ◌||◌, not, if◌then◌else◌, List, [], ◌∷◌, ◌++◌, length, take, Option, Some, None, is_none, refl, sym, ap, ◌∙◌, arith}
use Rattle.std.proofs.lemmas.List.{take_all, length_push}
use Rattle.containers.proofs.Choices.{taken_if, left_if, both_left, both_right, not_le_test}
use Rattle.connection_setup.specs.declared.judgement.SetupResult.{SetupResult}
use Rattle.connection_setup.specs.declared.judgement.SetupResult.TheVariants as result
use Rattle.driver_model.specs.Hearing.{is_watching}
use Rattle.driver_model.specs.declared.action.Owner.{Owner}
use Rattle.driver_model.specs.declared.action.Owner.TheVariants as owner
use Rattle.legal_trace.specs.Ledger.{Ledger, Start, ending, ending_alive, ending_asked, ending_by, ending_up, ending_unready, error_in, is_answered, is_full, is_greeted, is_of_monitor, is_of_setup, is_over, is_set_up, is_well, monitor_due, monitor_message, monitor_of, reach, setup_due, setup_result}
use Rattle.legal_trace.proofs.Ledgers.{reach_more, takes_one}
use Rattle.legal_trace.proofs.Monitors.{monitor_begun}
use Rattle.legal_trace.proofs.Setups.{pushed, greeted_begins, greeted_is_undue, unready_none}

-- none is none
is_none_from : {X : Type 0} (o : Option X) → is_none o ≡ true → o ≡ None
is_none_from None e = refl
is_none_from (Some x) e = cc e

-- such a link is up
pub watch_is_up : (l : Ledger) → monitor_due l ≡ true → l.up ≡ true
watch_is_up l due = both_left l.up (is_watching l.hearing) (both_left (l.up && is_watching l.hearing) (is_greeted l) (both_left (l.up && is_watching l.hearing && is_greeted l) (is_none (monitor_of l)) due))

-- its server is put into monitor mode
pub watch_is_heard : (l : Ledger) → monitor_due l ≡ true → is_watching l.hearing ≡ true
watch_is_heard l due = both_right l.up (is_watching l.hearing) (both_left (l.up && is_watching l.hearing) (is_greeted l) (both_left (l.up && is_watching l.hearing && is_greeted l) (is_none (monitor_of l)) due))

-- what is said before is answered well
pub watch_is_greeted : (l : Ledger) → monitor_due l ≡ true → is_greeted l ≡ true
watch_is_greeted l due = both_right (l.up && is_watching l.hearing) (is_greeted l) (both_left (l.up && is_watching l.hearing && is_greeted l) (is_none (monitor_of l)) due)

-- and MONITOR has not started
pub watch_is_new : (l : Ledger) → monitor_due l ≡ true → monitor_of l ≡ None
watch_is_new l due = is_none_from (monitor_of l) (both_right (l.up && is_watching l.hearing && is_greeted l) (is_none (monitor_of l)) due)

-- where a server is put into monitor mode, and MONITOR isn't answered, the link isn't set up
never : (p : Bool) → (p && false) ≡ false
never true = refl
never false = refl

pub unanswered_is_unset : (l : Ledger) (o : Option ℕ) → is_watching l.hearing ≡ true → monitor_of l ≡ o → is_answered l o ≡ false → is_set_up l ≡ false
unanswered_is_unset l o watching e unanswered =
    ap (λ w. is_greeted l && (not w || is_answered l (monitor_of l))) watching
    ∙ (ap (λ x. is_greeted l && is_answered l x) e ∙ (ap (λ a. is_greeted l && a) unanswered ∙ never (is_greeted l)))

-- so one on which it is to start isn't
pub watch_is_unset : (l : Ledger) → monitor_due l ≡ true → is_set_up l ≡ false
watch_is_unset l due = unanswered_is_unset l None (watch_is_heard l due) (watch_is_new l due) refl

-- and no setup is due on it
pub watch_is_undue : (l : Ledger) (k : ℕ) → monitor_due l ≡ true → setup_due l ≡ Some k → ⊥
watch_is_undue l k due setup = greeted_is_undue l k (watch_is_greeted l due) setup

-- MONITOR has bytes
pub monitor_has_bytes : monitor_message.bytes ≢ []
monitor_has_bytes e = cc e

-- what has just started isn't full
just_begun : (l : Ledger) (s : Start) → length l.dealt ≤ reach l.starts l.dealt → is_full (pushed l s) (length l.starts) ≡ false
just_begun l s few =
    let ss = l.starts ++ s ∷ [] in
    let long = length_push l.starts s in
    let all : take (length l.starts + 1) ss ≡ ss = take_all (length l.starts + 1) ss (omega arith) in
    ap (λ (xs : List Start). nat_le (reach xs l.dealt) (length l.dealt)) all
    ∙ not_le_test (reach ss l.dealt) (length l.dealt) (let more = reach_more l.starts s l.dealt in let one = takes_one s.shape in omega arith)

-- once it has started, the link isn't set up
pub watching_is_unset : (l : Ledger) (s : Start) → is_of_monitor s.owner ≡ true → monitor_due l ≡ true → length l.dealt ≤ reach l.starts l.dealt → is_set_up (pushed l s) ≡ false
watching_is_unset l s mine due few =
    unanswered_is_unset (pushed l s) (Some (length l.starts)) (watch_is_heard l due)
    (monitor_begun l.starts s 0 (watch_is_new l due) mine ∙ ap Some (let k : 0 + length l.starts ≡ length l.starts = omega arith in k)) (just_begun l s few)

-- what is well is no error
well_no_error : (x : Option SetupResult) → is_well x ≡ true → error_in x ≡ None
well_no_error None w = cc
well_no_error (Some result.Ready) w = refl
well_no_error (Some result.RepeatWithoutUser) w = cc
well_no_error (Some (result.Failed e)) w = cc
well_no_error (Some result.NoMemory) w = cc

-- what ends a link that is up and greeted, and not set up
pub ends_where_greeted : (l : Ledger) → l.up ≡ true → is_greeted l ≡ true → is_set_up l ≡ false → ending l ≡ ending_unready l l.heard
ends_where_greeted l up greeted unset =
    taken_if l.up (ending_alive l) (if l.asked && not (is_over l) then ending_asked l l.heard else None) up
    ∙ (left_if (is_set_up l) (ending_up l l.heard) (ending_by (error_in (setup_result l)) (ending_unready l l.heard)) unset
    ∙ ap (λ e. ending_by e (ending_unready l l.heard)) (well_no_error (setup_result l) greeted))

-- the start of MONITOR is none of a setup
monitor_no_setup : (who : Owner) → is_of_monitor who ≡ true → is_of_setup who ≡ false
monitor_no_setup owner.Monitor e = refl
monitor_no_setup owner.Setup e = cc
monitor_no_setup owner.Auth e = cc
monitor_no_setup owner.Resub e = cc
monitor_no_setup (owner.Try n round) e = cc

-- so it ends no link
pub watch_stays : (l : Ledger) (s : Start) → is_of_monitor s.owner ≡ true → monitor_due l ≡ true → length l.dealt ≤ reach l.starts l.dealt → ending l ≡ None → ending (pushed l s) ≡ None
watch_stays l s mine due few none =
    let up : l.up ≡ true = watch_is_up l due in
    let greeted : is_greeted l ≡ true = watch_is_greeted l due in
    ends_where_greeted (pushed l s) up (greeted_begins l s (monitor_no_setup s.owner mine) greeted) (watching_is_unset l s mine due few)
    ∙ unready_none l s l.heard (sym (ends_where_greeted l up greeted (watch_is_unset l due)) ∙ none)
