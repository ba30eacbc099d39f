-- What is true of a link on which a submission waits for the connect, credentials, the setup, or what is subscribed again.
use Rattle.std.proofs.Common.{◌≡◌, ◌≢◌, ◌⊎◌, inl, inr, ℕ, zero, suc, ◌+◌, ◌<◌, ◌==◌, Bool, true, false, ◌&&◌, ◌||◌, not, List, [], ◌∷◌, Option, Some, None, is_none, if◌then◌else◌, refl, sym, ◌∙◌, ap, arith}
use Rattle.std.specs.Prelude.{slice_get}
use Rattle.containers.proofs.Choices.{by_test, taken_if, left_if, both_left, both_right, ne_test, not_both}
use Rattle.redis_error.specs.declared.redis_error.RedisError.{RedisError}
use Rattle.connection_setup.specs.declared.judgement.SetupResult.{SetupResult}
use Rattle.connection_setup.specs.declared.judgement.SetupResult.TheVariants as result
use Rattle.connection_setup.specs.Judgement.{judged}
use Rattle.driver_model.specs.declared.action.Owner.{Owner}
use Rattle.driver_model.specs.declared.action.Owner.TheVariants as owner
use Rattle.driver_model.specs.declared.config.Config.{Config}
use Rattle.driver_model.specs.Hearing.{is_watching}
use Rattle.driver_model.specs.Setup.{says_nothing, setup_shape}
use Rattle.legal_trace.specs.Ledger.{Ledger, Start, Ending, IsOffered, again_among, again_due, again_of, cut, dials, ending, ending_alive, ending_asked, ending_by, ending_unready, ending_up, error_in, is_answered, is_full, is_of_again, is_of_setup, is_over, is_repeating, is_served, is_set_up, is_well, lacks_credentials, last_result, repeats, result_of, setup_after, setup_count, setup_due, setup_result, setup_steps, source_due}
use Rattle.legal_trace.specs.Book.{Book}
use Rattle.legal_trace.specs.Steps.{is_held_back}
use Rattle.legal_trace.proofs.Moves.{both_hold}
use Rattle.legal_trace.proofs.Monitors.{unwatched}
use Rattle.legal_trace.proofs.Plain.{none_from, not_none, same_some}
use Rattle.legal_trace.proofs.Setups.{said_result, setup_said, greeted_is_set, start_at, count_within}
use Rattle.legal_laws.specs.Waits.{IsConnecting, IsUncredited, IsUnanswered, IsSetupHeldBack, IsSettingUp, IsAgainHeldBack, IsResubscribing}
use Rattle.legal_laws.proofs.Waits.Judged.{MayBe, setup_is_judged}
use Rattle.legal_laws.proofs.Waits.Sizes.{held_back_anew, unfull_is_unanswered}

-- what isn't true is false
false_from : (p : Bool) → not p ≡ true → p ≡ false
false_from false e = refl
false_from true e = absurd (cc e)

-- a link that dials is connecting
pub dialing_is_connecting : (l : Ledger) → dials l ≡ true → IsConnecting l
dialing_is_connecting l e =
    let first : (l.asked && not l.up) ≡ true = both_left (l.asked && not l.up) (not (is_over l)) e in
    record {
      asked = both_left l.asked (not l.up) first;
      unanswered = false_from l.up (both_right l.asked (not l.up) first);
      unclosed = none_from l.end (false_from (is_over l) (both_right (l.asked && not l.up) (not (is_over l)) e));
    }

-- where no source is to be asked for, the first was that is wanted
first_asked : (up wanted asked more : Bool) → (up && wanted && (not asked || more)) ≡ false → up ≡ true → wanted ≡ true → asked ≡ true
first_asked true true true more e u w = refl
first_asked true true false more e u w = absurd (cc e)
first_asked true false asked more e u w = absurd (cc w)
first_asked false wanted asked more e u w = absurd (cc u)

-- a link that lacks credentials waits for them
pub lacking_is_uncredited : (l : Ledger) → l.up ≡ true → lacks_credentials l ≡ true → source_due l ≡ false → IsUncredited l
lacking_is_uncredited l up lacks none =
    let wanted : l.creds.wanted ≡ true = both_left l.creds.wanted (not l.creds.given) lacks in
    record {
      up = up;
      wanted = wanted;
      asked = first_asked l.up l.creds.wanted l.creds.asked (is_set_up l && not l.creds.renews) none up wanted;
      none = false_from l.creds.given (both_right l.creds.wanted (not l.creds.given) lacks);
    }

-- one that doesn't has those that it wants
given_where_wanted : (wanted given : Bool) → (wanted && not given) ≡ false → wanted ≡ true → given ≡ true
given_where_wanted true true e w = refl
given_where_wanted true false e w = absurd (cc e)
given_where_wanted false given e w = absurd (cc w)

-- who owns a message of the setup
setup_owner : (who : Owner) → is_of_setup who ≡ true → who ≡ owner.Setup
setup_owner owner.Setup e = refl
setup_owner (owner.Try n round) e = absurd (cc e)
setup_owner owner.Auth e = absurd (cc e)
setup_owner owner.Resub e = absurd (cc e)
setup_owner owner.Monitor e = absurd (cc e)

-- the first messages, as many as are counted, are of the setup
counted_first : (x : Start) (ss : List Start) (k : ℕ) → k < setup_count (x ∷ ss) → is_of_setup x.owner ≡ true
counted_first x ss k i = by_test (is_of_setup x.owner) (is_of_setup x.owner ≡ true) (λ t. t)
    (λ f. let none : setup_count (x ∷ ss) ≡ 0 = left_if (is_of_setup x.owner) (suc (setup_count ss)) 0 f in absurd (omega (arith, i, none)))

first_are : (ss : List Start) (k : ℕ) (s : Start) → k < setup_count ss → slice_get ss k ≡ Some s → is_of_setup s.owner ≡ true
first_are [] k s i e = cc
first_are (x ∷ ss) zero s i e = ap (λ (y : Start). is_of_setup y.owner) (sym (same_some x s e)) ∙ counted_first x ss 0 i
first_are (x ∷ ss) (suc k) s i e =
    let one : setup_count (x ∷ ss) ≡ suc (setup_count ss) = taken_if (is_of_setup x.owner) (suc (setup_count ss)) 0 (counted_first x ss (suc k) i) in
    first_are ss k s (omega (arith, i, one)) e

-- a setup that started and isn't full is unanswered
open_setup : (l : Ledger) (k : ℕ) → k < setup_count l.starts → IsOffered l → is_full l k ≡ false → IsUnanswered l owner.Setup
open_setup l k i offered open_yet =
    let s = start_at l.starts k (omega (arith, i, count_within l.starts)) in
    unfull_is_unanswered l k s.0 owner.Setup s.1 (setup_owner s.0.owner (first_are l.starts k s.0 i s.1)) offered open_yet

-- a link that is up, and whose setup isn't well, has no error of it where nothing ends it
no_error : (l : Ledger) → l.up ≡ true → is_set_up l ≡ false → ending l ≡ None → error_in (setup_result l) ≡ None
no_error l up unset none = by_error (error_in (setup_result l)) (ending_unready l l.heard)
    (sym (left_if (is_set_up l) (ending_up l l.heard) (ending_by (error_in (setup_result l)) (ending_unready l l.heard)) unset)
    ∙ (sym (taken_if l.up (ending_alive l) (if l.asked && not (is_over l) then ending_asked l l.heard else None) up) ∙ none))
  where
    by_error : (failed : Option RedisError) (other : Option Ending) → ending_by failed other ≡ None → failed ≡ None
    by_error None other e = refl
    by_error (Some x) other e = absurd (cc e)

-- what the last setup came to, of so many
of_last : (l : Ledger) → l.up ≡ true → is_set_up l ≡ false → is_watching l.hearing ≡ false → lacks_credentials l ≡ false → ending l ≡ None
    → (says_nothing (setup_steps l 0) ≡ false) × (is_well (last_result l (setup_count l.starts)) ≡ false) × (error_in (last_result l (setup_count l.starts)) ≡ None)
of_last l up unset plain given none =
    let unwell : is_well (setup_result l) ≡ false = by_test (is_well (setup_result l)) (is_well (setup_result l) ≡ false)
    (λ t. absurd (not_both (is_set_up l) unset (greeted_is_set l t (unwatched l plain)))) (λ f. f) in
    let said : setup_result l ≡ said_result l (setup_count l.starts) = setup_said l given in
    let says : says_nothing (setup_steps l 0) ≡ false = by_test (says_nothing (setup_steps l 0)) (says_nothing (setup_steps l 0) ≡ false)
    (λ t. absurd (let x : false ≡ true = sym unwell ∙ ap is_well (said ∙ taken_if (says_nothing (setup_steps l 0)) (Some result.Ready) (last_result l (setup_count l.starts)) t) in cc x)) (λ f. f) in
    let last : setup_result l ≡ last_result l (setup_count l.starts) = said ∙ left_if (says_nothing (setup_steps l 0)) (Some result.Ready) (last_result l (setup_count l.starts)) says in
    (says, sym (ap is_well last) ∙ unwell, sym (ap error_in last) ∙ no_error l up unset none)

-- a setup that is due can't start
due_is_held_back : (config : Config) (b : Book) (l : Ledger) (k : ℕ) → b.config ≡ Some config → l.up ≡ true → ((i : ℕ) → setup_due l ≡ Some i → is_held_back b l ≡ true) → setup_after l (setup_count l.starts) ≡ Some k
    → (setup_count l.starts ≡ 0) ⊎ (result_of l 0 ≡ Some result.RepeatWithoutUser) → IsSetupHeldBack config l
due_is_held_back config b l k c up held due which =
    record { held_back = held_back_anew config b l c (held k (taken_if l.up (setup_after l (setup_count l.starts)) None up ∙ due)); due = which }

-- what a result is that is neither well nor an error
left_over_result : (k : ℕ) (x : SetupResult) → MayBe (k == 0) x → is_well (Some x) ≡ false → error_in (Some x) ≡ None → (k ≡ 0) × (x ≡ result.RepeatWithoutUser)
left_over_result k result.Ready may unwell none = absurd (cc unwell)
left_over_result k (result.Failed e) may unwell none = absurd (cc none)
left_over_result zero result.RepeatWithoutUser may unwell none = (refl, refl)
left_over_result (suc k) result.RepeatWithoutUser may unwell none = absurd (not_both (suc k == 0) (ne_test (suc k) 0 (λ e. omega (arith, e))) may)
left_over_result k result.NoMemory may unwell none = absurd may

-- so the setup is awaited, of which so many started
awaited_of : (config : Config) (b : Book) (l : Ledger) (count : ℕ) → b.config ≡ Some config → l.up ≡ true → lacks_credentials l ≡ false → says_nothing (setup_steps l 0) ≡ false → IsOffered l
    → ((i : ℕ) → setup_due l ≡ Some i → is_held_back b l ≡ true) → setup_count l.starts ≡ count → is_well (last_result l count) ≡ false → error_in (last_result l count) ≡ None
    → IsUnanswered l owner.Setup ⊎ IsSetupHeldBack config l
awaited_of config b l zero c up given says offered held counted unwell none =
    inr (due_is_held_back config b l 0 c up held
    (ap (setup_after l) counted ∙ left_if (lacks_credentials l || says_nothing (setup_steps l 0)) None (Some 0) (ap (λ x. x || says_nothing (setup_steps l 0)) given ∙ says)) (inl counted))
awaited_of config b l (suc k) c up given says offered held counted unwell none = by_test (is_full l k) (IsUnanswered l owner.Setup ⊎ IsSetupHeldBack config l)
    (λ full.
    let replied = cut l k (setup_shape (setup_steps l k)) in
    let came : result_of l k ≡ Some (judged (setup_steps l k) replied) = taken_if (is_full l k) (Some (judged (setup_steps l k) replied)) None full in
    let last = left_over_result k (judged (setup_steps l k) replied) (setup_is_judged l.info (k == 0) replied) (sym (ap is_well came) ∙ unwell) (sym (ap error_in came) ∙ none) in
    let repeated : result_of l 0 ≡ Some result.RepeatWithoutUser = sym (ap (result_of l) last.0) ∙ (came ∙ ap (λ x. Some x) last.1) in
    inr (due_is_held_back config b l 1 c up held
    (ap (setup_after l) (counted ∙ ap suc last.0) ∙ taken_if (repeats (result_of l 0)) (Some 1) None (ap repeats repeated)) (inr repeated)))
    (λ open_yet. inl (open_setup l k (omega (arith, counted)) offered open_yet))

-- a link that is up and isn't set up, though it has the credentials for it, is being set up
pub unset_is_setting_up : (config : Config) (b : Book) (l : Ledger) → b.config ≡ Some config → l.up ≡ true → is_set_up l ≡ false → is_watching l.hearing ≡ false → lacks_credentials l ≡ false → ending l ≡ None → IsOffered l
    → ((i : ℕ) → setup_due l ≡ Some i → is_held_back b l ≡ true) → IsSettingUp config l
unset_is_setting_up config b l c up unset plain given none offered held =
    let last = of_last l up unset plain given none in
    record {
      up = up;
      given = given_where_wanted l.creds.wanted l.creds.given given;
      awaited = awaited_of config b l (setup_count l.starts) c up given last.0 offered held refl last.1 last.2;
    }

-- who owns a message that subscribes again
again_owner : (who : Owner) → is_of_again who ≡ true → who ≡ owner.Resub
again_owner owner.Resub e = refl
again_owner owner.Setup e = absurd (cc e)
again_owner (owner.Try n round) e = absurd (cc e)
again_owner owner.Auth e = absurd (cc e)
again_owner owner.Monitor e = absurd (cc e)

-- the first that does is one
again_is : (ss : List Start) (n k : ℕ) → again_among ss n ≡ Some k → (i : ℕ) × (s : Start) × (k ≡ n + i) × (slice_get ss i ≡ Some s) × (s.owner ≡ owner.Resub)
again_is [] n k e = cc
again_is (s ∷ ss) n k e = by_test (is_of_again s.owner) _
    (λ t. let here : n ≡ k = same_some n k (sym (taken_if (is_of_again s.owner) (Some n) (again_among ss (suc n)) t) ∙ e) in (0, s, omega (arith, here), refl, again_owner s.owner t))
    (λ f. let more = again_is ss (suc n) k (sym (left_if (is_of_again s.owner) (Some n) (again_among ss (suc n)) f) ∙ e) in
    let far : k ≡ suc n + more.0 = more.2 in (suc more.0, more.1, omega (arith, far), more.3, more.4))

-- and where there is none, none is
again_none : (ss : List Start) (n k : ℕ) (s : Start) → again_among ss n ≡ None → slice_get ss k ≡ Some s → s.owner ≢ owner.Resub
again_none [] n k s none e = cc
again_none (x ∷ ss) n zero s none e = λ same.
    not_none (again_among (x ∷ ss) n) n none (taken_if (is_of_again x.owner) (Some n) (again_among ss (suc n)) (ap (λ (y : Start). is_of_again y.owner) (same_some x s e) ∙ ap is_of_again same))
again_none (x ∷ ss) n (suc k) s none e = by_test (is_of_again x.owner) (s.owner ≢ owner.Resub)
    (λ t. absurd (not_none (again_among (x ∷ ss) n) n none (taken_if (is_of_again x.owner) (Some n) (again_among ss (suc n)) t)))
    (λ f. again_none ss (suc n) k s (sym (left_if (is_of_again x.owner) (Some n) (again_among ss (suc n)) f) ∙ none) e)

-- what isn't answered, of a link that waits for it
unserved : (wanted over answered : Bool) → (not wanted || (over || answered)) ≡ false → answered ≡ false
unserved true false false e = refl
unserved true false true e = absurd (cc e)
unserved true true answered e = absurd (cc e)
unserved false over answered e = absurd (cc e)

-- a link that is ready, and where what is subscribed again isn't answered, subscribes again
pub unserved_resubscribes : (config : Config) (b : Book) (l : Ledger) → b.config ≡ Some config → l.up ≡ true → is_set_up l ≡ true → is_served l ≡ false → IsOffered l → (again_due l ≡ true → is_held_back b l ≡ true) → IsResubscribing config l
unserved_resubscribes config b l c up set unserved_yet offered held = record { up = up; awaited = by_start (again_of l) refl }
  where
    repeating : is_repeating l ≡ true
    repeating = both_hold (l.up && is_set_up l) (not (is_served l)) (both_hold l.up (is_set_up l) up set) (ap not unserved_yet)

    open_yet : is_answered l (again_of l) ≡ false
    open_yet = unserved l.again.wanted l.again.over (is_answered l (again_of l)) unserved_yet

    by_start : (o : Option ℕ) → again_of l ≡ o → IsUnanswered l owner.Resub ⊎ IsAgainHeldBack config l
    by_start None none = inr (record {
      held_back = held_back_anew config b l c (held (both_hold (is_repeating l) (is_none (again_of l)) repeating (ap is_none none)));
      none = λ k s stands. again_none l.starts 0 k s none stands;
    })
    by_start (Some k) there =
        let found = again_is l.starts 0 k there in
        let at : k ≡ found.0 = let far : k ≡ 0 + found.0 = found.2 in omega (arith, far) in
        inl (unfull_is_unanswered l k found.1 owner.Resub (ap (slice_get l.starts) at ∙ found.3) found.4 offered (sym (ap (is_answered l) there) ∙ open_yet))
