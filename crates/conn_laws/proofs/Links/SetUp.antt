-- How far the setup of a link has come, by its ledger.
use Rattle.std.proofs.Common.{List, None, Option, Some, [], ap, arith, false, inl, inr, length, refl, slice_get, subst, suc, sym, take, true, zero, ℕ, ◌+◌, ◌++◌, ◌<◌, ◌≤◌, ◌∙◌, ◌∷◌, ◌≡◌, ◌||◌}
use Rattle.std.proofs.lemmas.List.{length_push, take_all}
use Rattle.std.specs.Prelude.{nat_le}
use Rattle.containers.proofs.Choices.{by_test, left_if, not_le_test, taken_if}
use Rattle.connection_setup.specs.declared.judgement.SetupResult.{SetupResult}
use Rattle.connection_setup.specs.declared.judgement.SetupResult.TheVariants as result
use Rattle.driver_model.specs.declared.action.Owner.TheVariants as owner
use Rattle.driver_model.specs.Setup.{says_nothing}
use Rattle.driver_model.specs.News.{News, silence, connected, refused, overdue, took, came, failed, authorized, denied, deserted, shut, renewed, unrenewed, late, unrepeated, dropped}
use Rattle.legal_trace.specs.Ledger.{Ledger, Start, begins, ending_up, is_full, is_of_setup, is_well, lacks_credentials, last_result, noted, reach, repeats, result_of, setup_after, setup_count, setup_due, setup_result, setup_steps, error_in, is_set_up, is_of_monitor, monitor_among}
use Rattle.legal_trace.proofs.Ledgers.{reach_more, takes_one}
use Rattle.legal_trace.proofs.Setups.{IsUndecided, count_more, count_within, repeats_open, second_holds, set_begins, set_came, set_is_said, setup_said, ungreeted_is_unset}
use Rattle.link_core.specs.Link.{LinkState}
use Rattle.link_laws.proofs.TiedLink.{has_heard}
use Rattle.conn_laws.proofs.Links.Creds.{lacking_undecided}
use Rattle.mux_conn.specs.declared.life.Greeting.{Greeting}
use Rattle.conn_laws.proofs.Links.Server.{AreSetups, IsSetUp, IsSettingUp, IsSetupSent, owners_of, setup_owners, IsGreeting, IsWatching}
use Rattle.legal_trace.proofs.Came.{holds_bytes}
use Rattle.legal_trace.proofs.Watching.{unanswered_is_unset}
use Rattle.mux_conn.specs.declared.life.Greeting.TheVariants as greet

-- what a setup has come to
--
-- it was well
well_is : (x : Option SetupResult) → is_well x ≡ true → x ≡ Some result.Ready
well_is None e = cc
well_is (Some result.Ready) e = refl
well_is (Some result.RepeatWithoutUser) e = cc
well_is (Some (result.Failed error)) e = cc
well_is (Some result.NoMemory) e = cc

-- where a setup is due, the last one is answered so, or there was none
due_open : (l : Ledger) (n : ℕ) → setup_after l n ≡ Some n → IsUndecided (last_result l n)
due_open l zero e = record { unwell = refl; no_error = refl }
due_open l (suc zero) e =
    by_test (repeats (result_of l 0)) _
    (λ t. repeats_open (result_of l 0) t)
    (λ f. absurd (let no : ◌≡◌ {A = Option ℕ} None (Some 1) = sym (left_if (repeats (result_of l 0)) (Some 1) None f) ∙ e in cc))
due_open l (suc (suc n)) e = cc

-- a setup that hasn't all its replies has no result
pub none_yet : (l : Ledger) (k : ℕ) → is_full l k ≡ false → result_of l k ≡ None
none_yet l k f = left_if (is_full l k) _ None f

-- so while a setup is to start, or isn't answered, the link isn't set up
pub setting_undecided : (l : Ledger) (link : LinkState) (greeting : Greeting) → IsSettingUp l link greeting → IsUndecided (setup_result l)
setting_undecided l link greeting h =
    by_test (lacks_credentials l) _ (lacking_undecided l)
    (λ given. subst IsUndecided (sym (setup_said l given ∙ left_if (says_nothing (setup_steps l 0)) (Some result.Ready) (last_result l (setup_count l.starts)) h.says)) (elim h.stage [
      | inl due ↦ due_open l (setup_count l.starts) due.due
      | inr sent ↦ subst IsUndecided (sym (ap (last_result l) sent.count ∙ none_yet l sent.k sent.open_is)) (record { unwell = refl; no_error = refl })
    ]))

-- it isn't set up, and nothing has failed
pub record IsUnset (l : Ledger) : Type 0 where
  pub unset : is_set_up l ≡ false
  pub no_error : error_in (setup_result l) ≡ None

-- where its setup is undecided
undecided_unset : (l : Ledger) → IsUndecided (setup_result l) → IsUnset l
undecided_unset l h = record { unset = ungreeted_is_unset l h.unwell; no_error = h.no_error }

-- as where it lacks credentials
pub lacking_unset : (l : Ledger) → lacks_credentials l ≡ true → IsUnset l
lacking_unset l lacks = undecided_unset l (lacking_undecided l lacks)

-- among setups alone none is MONITOR
pub alone_unwatched : (ss : List Start) (n k : ℕ) → owners_of ss ≡ setup_owners n [] → monitor_among ss k ≡ None
alone_unwatched [] n k e = refl
alone_unwatched (x ∷ ss) zero k e = cc
alone_unwatched (x ∷ ss) (suc n) k e =
    let first : x.owner ≡ owner.Setup = cc in
    let rest : owners_of ss ≡ setup_owners n [] = cc in
    left_if (is_of_monitor x.owner) (Some k) (monitor_among ss (suc k)) (ap is_of_monitor first) ∙ alone_unwatched ss n (suc k) rest

-- nor is it set up where MONITOR isn't answered
pub watching_unset : (l : Ledger) (link : LinkState) → IsWatching l link → IsUnset l
watching_unset l link h = record {
  unset = elim h.stage [
    | inl due ↦ unanswered_is_unset l None h.watches (alone_unwatched l.starts (setup_count l.starts) 0 due.alone) refl
    | inr sent ↦ unanswered_is_unset l (Some sent.k) h.watches sent.sent sent.open_is
  ];
  no_error = ap error_in (well_is (setup_result l) h.greeted);
}

-- nor while any greeting isn't answered
pub not_set_up : (l : Ledger) (link : LinkState) (greeting : Greeting) → IsGreeting l link greeting → IsUnset l
not_set_up l link greet.WithUser h = undecided_unset l (setting_undecided l link greet.WithUser h)
not_set_up l link greet.WithoutUser h = undecided_unset l (setting_undecided l link greet.WithoutUser h)
not_set_up l link greet.Monitor h = watching_unset l link h

-- what is due next
--
-- nothing while a setup isn't answered
pub sent_undue : (l : Ledger) (link : LinkState) (greeting : Greeting) → IsSetupSent l link greeting → setup_after l (setup_count l.starts) ≡ None
sent_undue l link greeting h = ap (setup_after l) h.count ∙ after h.k (none_yet l h.k h.open_is)
  where
    after : (k : ℕ) → result_of l k ≡ None → setup_after l (suc k) ≡ None
    after zero e = left_if (repeats (result_of l 0)) (Some 1) None (ap repeats e)
    after (suc k) e = refl

-- nor on a link that is set up
pub set_up_undue : (l : Ledger) → IsSetUp l → setup_after l (setup_count l.starts) ≡ None
set_up_undue l h = by_test (says_nothing (setup_steps l 0)) _
    (λ t. ap (setup_after l) (h.none t) ∙ taken_if (lacks_credentials l || says_nothing (setup_steps l 0)) None (Some 0) (second_holds (lacks_credentials l) (says_nothing (setup_steps l 0)) t))
    (λ f. after (setup_count l.starts) (sym (ap is_well (left_if (says_nothing (setup_steps l 0)) (Some result.Ready) (last_result l (setup_count l.starts)) f)) ∙ set_is_said l h.well))
  where
    after : (n : ℕ) → is_well (last_result l n) ≡ true → setup_after l n ≡ None
    after zero e = cc
    after (suc zero) e = left_if (repeats (result_of l 0)) (Some 1) None (ap repeats (well_is (result_of l 0) e))
    after (suc (suc n)) e = refl

-- so none is to start there
pub none_due : (l : Ledger) → setup_after l (setup_count l.starts) ≡ None → setup_due l ≡ None
none_due l e = by_test l.up _ (λ t. taken_if l.up (setup_after l (setup_count l.starts)) None t ∙ e) (λ f. left_if l.up (setup_after l (setup_count l.starts)) None f)

-- nor on a link that isn't up
pub down_undue : (l : Ledger) → l.up ≡ false → setup_due l ≡ None
down_undue l down = left_if l.up (setup_after l (setup_count l.starts)) None down

-- behind setups alone one more setup is one more
pub count_next : (ss : List Start) (n : ℕ) (s : Start) → owners_of ss ≡ setup_owners n [] → s.owner ≡ owner.Setup → setup_count (ss ++ s ∷ []) ≡ suc n
count_next [] zero s e mine = taken_if (is_of_setup s.owner) 1 0 (ap is_of_setup mine)
count_next [] (suc n) s e mine = cc
count_next (x ∷ ss) zero s e mine = cc
count_next (x ∷ ss) (suc n) s e mine =
    let first : x.owner ≡ owner.Setup = cc in
    let rest : owners_of ss ≡ setup_owners n [] = cc in
    taken_if (is_of_setup x.owner) (suc (setup_count (ss ++ s ∷ []))) 0 (ap is_of_setup first) ∙ ap suc (count_next ss n s rest mine)

-- as many as these owners
pub count_length : (ss : List Start) (n : ℕ) → owners_of ss ≡ setup_owners n [] → length ss ≡ n
count_length [] zero e = refl
count_length [] (suc n) e = cc
count_length (x ∷ ss) zero e = cc
count_length (x ∷ ss) (suc n) e = ap suc (count_length ss n (cc))

-- a message that has just started takes items
pub begun_open : (l : Ledger) (s : Start) (k : ℕ) → k ≡ length l.starts → length l.dealt ≤ reach l.starts l.dealt → is_full (noted l (begins s)) k ≡ false
begun_open l s k last within =
    let ss = l.starts ++ s ∷ [] in
    let long = length_push l.starts s in
    let all : take (k + 1) ss ≡ ss = take_all (k + 1) ss (omega arith) in
    ap (λ (xs : List Start). nat_le (reach xs l.dealt) (length l.dealt)) all
    ∙ not_le_test (reach ss l.dealt) (length l.dealt) (let more = reach_more l.starts s l.dealt in let one = takes_one s.shape in omega arith)

-- a link stays set up when the message of a request starts
pub set_up_begins : (l : Ledger) (s : Start) → is_of_setup s.owner ≡ false → IsSetUp l → IsSetUp (noted l (begins s))
set_up_begins l s other h = record { well = set_begins l s other h.well; none = λ t. count_more l.starts s other ∙ h.none t }

-- and when bytes come
pub set_up_hears : (l : Ledger) (piece : List ℕ) → AreSetups l → IsSetUp l → IsSetUp (has_heard l piece)
set_up_hears l piece sent h = record { well = set_came l piece (λ k s i e. (sent k s i e).1) h.well; none = holds_bytes (λ (x : Ledger). says_nothing (setup_steps x 0) ≡ true → setup_count x.starts ≡ 0) l piece (λ rest strange told more. h.none) }

-- the starts of a setup are the first still
pub setups_begins : (l : Ledger) (s : Start) → is_of_setup s.owner ≡ false → AreSetups l → AreSetups (noted l (begins s))
setups_begins l s other h k x less e = h k x (let same = count_more l.starts s other in omega arith) (before l.starts k (let same = count_more l.starts s other in let most = count_within l.starts in omega arith) e)
  where
    before : (ss : List Start) (k : ℕ) → k < length ss → slice_get (ss ++ s ∷ []) k ≡ Some x → slice_get ss k ≡ Some x
    before [] k w e = absurd (omega arith)
    before (y ∷ ss) zero w e = e
    before (y ∷ ss) (suc k) w e = before ss k (omega arith) e

-- what must end a link that is set up doesn't hang on what has started
pub ending_up_same : (l : Ledger) (ss : List Start) (news : News) → ending_up (record l { starts = ss }) news ≡ ending_up l news
ending_up_same l ss silence = refl
ending_up_same l ss connected = refl
ending_up_same l ss (refused f) = refl
ending_up_same l ss overdue = refl
ending_up_same l ss (took count) = refl
ending_up_same l ss (came piece) = refl
ending_up_same l ss (failed f) = refl
ending_up_same l ss (authorized c) = refl
ending_up_same l ss (renewed c) = refl
ending_up_same l ss unrenewed = refl
ending_up_same l ss (late k) = refl
ending_up_same l ss unrepeated = refl
ending_up_same l ss (denied text) = refl
ending_up_same l ss deserted = refl
ending_up_same l ss dropped = refl
ending_up_same l ss shut = refl
