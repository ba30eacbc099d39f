-- How many messages start on a link.
use Rattle.std.proofs.Common.{◌≡◌, ◌⊎◌, inl, inr, ℕ, zero, suc, ◌+◌, ◌<◌, ◌≤◌, ◌==◌, Bool, true, false, ◌&&◌, not, List, [], ◌∷◌, ◌++◌, length, take, Option, Some, None, is_some, if◌then◌else◌, refl, sym, ◌∙◌, ap, subst, arith}
use Rattle.std.proofs.lemmas.List.{length_push}
use Rattle.containers.proofs.Choices.{by_test, chosen, taken_if, left_if, eq_test, if_true}
use Rattle.redis_error.specs.declared.redis_error.RedisError.TheVariants as error
use Rattle.credentials.specs.Credentials.{Credentials}
use Rattle.driver_model.specs.declared.action.Action.{Action}
use Rattle.driver_model.specs.declared.action.Action.TheVariants as action
use Rattle.driver_model.specs.declared.action.Owner.{Owner}
use Rattle.driver_model.specs.declared.action.Owner.TheVariants as owner
use Rattle.driver_model.specs.declared.action.Purpose.TheVariants as purpose
use Rattle.driver_model.specs.News.{News, silence, connected, refused, overdue, took, came, failed, authorized, denied, deserted, renewed, unrenewed, late, unrepeated, dropped, shut, news_of}
use Rattle.legal_trace.specs.Ledger.{Ledger, Start, hears, begins, times, noted, with_news, refused_in, bytes_came, is_over, dials, awaits_credentials, authorized_by, may_renew, renewed_by, unrenewed_by, is_renewal_open, lost_by, is_repeating, unrepeated_by, is_of_setup, is_of_monitor, is_of_again, is_of_renewal, is_greeted, is_ready, setup_after, setup_count, setup_due, setup_message, monitor_among, again_among, again_due, monitor_due, monitor_message, renewal_count, renewal_due, renewals_asked}
use Rattle.legal_trace.specs.Book.{Book, entered, message_of}
use Rattle.legal_trace.specs.Story.{Story, tried}
use Rattle.legal_trace.specs.Legal.{MayStand, MayStart, MayTimer}
use Rattle.legal_trace.proofs.Again.{again_begun, again_else, again_is_new, again_is_set}
use Rattle.legal_trace.proofs.Came.{holds_bytes, grown}
use Rattle.legal_trace.proofs.Ledgers.{hears_past}
use Rattle.legal_trace.proofs.Monitors.{monitor_begun, monitor_else}
use Rattle.legal_trace.proofs.Moves.{mover_is_ready, ready_is_set, starter_moves}
use Rattle.legal_trace.proofs.Plain.{item_within}
use Rattle.legal_trace.proofs.Renewals.{renewal_came}
use Rattle.legal_trace.proofs.Setups.{count_more, due_is_up, greeted_begins, greeted_is_undue, greeted_more, set_is_greeted}
use Rattle.legal_trace.proofs.Sources.{awaits_lacks}
use Rattle.legal_trace.proofs.Watching.{watch_is_greeted, watch_is_new}
use Rattle.legal_laws.proofs.Counts.Notes.{action_notes, asked_line}
use Rattle.legal_laws.proofs.Counts.Sums.{sum_below, sum_less, sum_longer, sum_with_one}
use Rattle.legal_laws.proofs.Counts.Weights.{action_grows, one_for}
use Rattle.legal_laws.proofs.Internal.Timed.{renewal_of, same_link}
use Rattle.legal_laws.proofs.Links.Shaped.{IsShaped, renewal_is_set}
use Rattle.legal_laws.proofs.Submissions.InLine.{submissions_grow}
use Rattle.legal_laws.proofs.Traces.Numbers.{mover_is_numbered}
use Rattle.legal_laws.proofs.Traces.Sound.{Sound}

-- a start is that of a submission's message
abbrev pub is_of_try : Owner → Bool
is_of_try (owner.Try n round) = true
is_of_try owner.Setup = false
is_of_try owner.Auth = false
is_of_try owner.Resub = false
is_of_try owner.Monitor = false

-- how many of these starts are not
abbrev pub own_count : List Start → ℕ
own_count [] = 0
own_count (s ∷ ss) = one_for (not (is_of_try s.owner)) + own_count ss

-- how many of them are of MONITOR and of what is subscribed again, 0 or 1 each
abbrev pub own_others : List Start → ℕ
own_others ss = one_for (is_some (monitor_among ss 0)) + one_for (is_some (again_among ss 0))

-- what starts on a link that isn't of a submission: its setups, two at most, before all others, MONITOR and what is subscribed again,
-- once each, and new credentials, which came, as those did for which a timer was asked
pub record StartsFew (l : Ledger) : Type 0 where
  pub own : own_count l.starts ≤ setup_count l.starts + own_others l.starts + renewal_count l.starts
  pub first : (setup_count l.starts ≡ length l.starts) ⊎ (is_greeted l ≡ true)
  pub setups : setup_count l.starts ≤ 2
  pub told : renewal_count l.starts ≤ length l.creds.renewals
  pub timed : l.creds.timed ≤ length l.creds.renewals

-- where the starts and the timers don't change
same_few : (l m : Ledger) → m.starts ≡ l.starts → m.creds.timed ≡ l.creds.timed → length l.creds.renewals ≤ length m.creds.renewals → (is_greeted l ≡ true → is_greeted m ≡ true) → StartsFew l → StartsFew m
same_few l m starts timed more greeted h = record {
  own = subst (λ (ss : List Start). own_count ss ≤ setup_count ss + own_others ss + renewal_count ss) (sym starts) h.own;
  first = elim h.first [ inl all ↦ inl (subst (λ (ss : List Start). setup_count ss ≡ length ss) (sym starts) all) | inr well ↦ inr (greeted well) ];
  setups = subst (λ (ss : List Start). setup_count ss ≤ 2) (sym starts) h.setups;
  told = let same : renewal_count m.starts ≡ renewal_count l.starts = ap renewal_count starts in let old = h.told in omega (arith, same, old, more);
  timed = let old = h.timed in omega (arith, timed, old, more);
}

plain_few : (l m : Ledger) → m.starts ≡ l.starts → m.creds.timed ≡ l.creds.timed → m.creds.renewals ≡ l.creds.renewals → is_greeted m ≡ is_greeted l → StartsFew l → StartsFew m
plain_few l m starts timed renewals greeted h = same_few l m starts timed (let e : length m.creds.renewals ≡ length l.creds.renewals = ap (λ (cs : List Credentials). length cs) renewals in omega (arith, e)) (λ g. greeted ∙ g) h

-- where nothing started
pub none_few : (l : Ledger) → l.starts ≡ [] → l.creds.timed ≤ length l.creds.renewals → StartsFew l
none_few l none timed = record {
  own = subst (λ (ss : List Start). own_count ss ≤ setup_count ss + own_others ss + renewal_count ss) (sym none) (omega arith);
  first = inl (subst (λ (ss : List Start). setup_count ss ≡ length ss) (sym none) refl);
  setups = subst (λ (ss : List Start). setup_count ss ≤ 2) (sym none) (omega arith);
  told = subst (λ (ss : List Start). renewal_count ss ≤ length l.creds.renewals) (sym none) (omega arith);
  timed = timed;
}

-- with news
news_few : (l : Ledger) (turn : ℕ) (x : News) → IsShaped l → StartsFew l → StartsFew (with_news l turn x)
news_few l turn silence shaped h = h
news_few l turn connected shaped h = chosen StartsFew (is_over l) l (record l { up = true }) (λ t. h) (λ e. plain_few l _ refl refl refl refl h)
news_few l turn (refused f) shaped h = chosen StartsFew (dials l) (refused_in l turn (error.Io f)) l (λ t. plain_few l _ refl refl refl refl h) (λ e. h)
news_few l turn overdue shaped h = h
news_few l turn (took count) shaped h = chosen StartsFew l.up (record l { taken = l.taken ++ take count l.offer; offer = [] }) l (λ t. plain_few l _ refl refl refl refl h) (λ e. h)
news_few l turn (came piece) shaped h = chosen StartsFew l.up (bytes_came l piece) l
    (λ t. holds_bytes StartsFew l piece (λ rest strange told more. same_few l (grown l rest strange told more) refl refl (omega arith) (greeted_more l rest more shaped.are) h)) (λ e. h)
news_few l turn (failed f) shaped h = h
news_few l turn (authorized c) shaped h = chosen StartsFew (awaits_credentials l) (authorized_by l c) l (λ t. none_few (authorized_by l c) (shaped.bare (awaits_lacks l t)) h.timed) (λ e. h)
news_few l turn (denied text) shaped h = h
news_few l turn deserted shaped h = h
news_few l turn (renewed c) shaped h = chosen StartsFew (may_renew l) (renewed_by l c) l
    (λ t. same_few l (renewed_by l c) refl refl (let e : length (l.creds.renewals ++ c ∷ []) ≡ length l.creds.renewals + 1 = length_push l.creds.renewals c in omega (arith, e)) (λ g. g) h) (λ e. h)
news_few l turn unrenewed shaped h = chosen StartsFew l.up (unrenewed_by l) l (λ t. plain_few l _ refl refl refl refl h) (λ e. h)
news_few l turn (late k) shaped h = chosen StartsFew (l.up && is_renewal_open l k) (lost_by l) l (λ t. plain_few l _ refl refl refl refl h) (λ e. h)
news_few l turn unrepeated shaped h = chosen StartsFew (is_repeating l) (unrepeated_by l) l (λ t. plain_few l _ refl refl refl refl h) (λ e. h)
news_few l turn dropped shaped h = h
news_few l turn shut shaped h = h

-- one start more
own_more : (ss : List Start) (s : Start) → own_count (ss ++ s ∷ []) ≡ own_count ss + one_for (not (is_of_try s.owner))
own_more [] s = omega arith
own_more (x ∷ ss) s = let e = own_more ss s in omega (arith, e)

renewal_else : (ss : List Start) (s : Start) → is_of_renewal s.owner ≡ false → renewal_count (ss ++ s ∷ []) ≡ renewal_count ss
renewal_else [] s f = left_if (is_of_renewal s.owner) 1 0 f
renewal_else (x ∷ ss) s f = ap (λ n. if is_of_renewal x.owner then suc n else n) (renewal_else ss s f)

renewal_one : (ss : List Start) (s : Start) → is_of_renewal s.owner ≡ true → renewal_count (ss ++ s ∷ []) ≡ suc (renewal_count ss)
renewal_one [] s t = taken_if (is_of_renewal s.owner) 1 0 t
renewal_one (x ∷ ss) s t = ap (λ n. if is_of_renewal x.owner then suc n else n) (renewal_one ss s t) ∙ moved (is_of_renewal x.owner) (renewal_count ss)
  where
    moved : (mine : Bool) (n : ℕ) → (if mine then suc (suc n) else suc n) ≡ suc (if mine then suc n else n)
    moved true n = refl
    moved false n = refl

-- where all starts are setups, one setup more is
setup_one : (ss : List Start) (s : Start) → is_of_setup s.owner ≡ true → setup_count ss ≡ length ss → setup_count (ss ++ s ∷ []) ≡ suc (setup_count ss)
setup_one [] s t all = taken_if (is_of_setup s.owner) 1 0 t
setup_one (x ∷ ss) s t all = by_test (is_of_setup x.owner) (setup_count ((x ∷ ss) ++ s ∷ []) ≡ suc (setup_count (x ∷ ss)))
    (λ y.
    let here : setup_count (x ∷ ss) ≡ suc (setup_count ss) = taken_if (is_of_setup x.owner) (suc (setup_count ss)) 0 y in
    let rest : setup_count ss ≡ length ss = omega (arith, here, all) in
    taken_if (is_of_setup x.owner) (suc (setup_count (ss ++ s ∷ []))) 0 y ∙ (ap suc (setup_one ss s t rest) ∙ ap suc (sym here)))
    (λ n. absurd (let here : setup_count (x ∷ ss) ≡ 0 = left_if (is_of_setup x.owner) (suc (setup_count ss)) 0 n in omega (arith, here, all)))

-- the setup that is due is the first or the second
due_is_few : (l : Ledger) (count k : ℕ) → setup_after l count ≡ Some k → count ≤ 1
due_is_few l zero k due = omega arith
due_is_few l (suc zero) k due = omega arith
due_is_few l (suc (suc count)) k due = cc

setup_few : (l : Ledger) (k : ℕ) → setup_due l ≡ Some k → StartsFew l → StartsFew (noted l (begins (setup_message l (setup_count l.starts))))
setup_few l k due h =
    let s : Start = setup_message l (setup_count l.starts) in
    let all : setup_count l.starts ≡ length l.starts = elim h.first [ inl all ↦ all | inr well ↦ absurd (greeted_is_undue l k well due) ] in
    let one : setup_count (l.starts ++ s ∷ []) ≡ suc (setup_count l.starts) = setup_one l.starts s refl all in
    let more : length (l.starts ++ s ∷ []) ≡ length l.starts + 1 = length_push l.starts s in
    let few : setup_count l.starts ≤ 1 = due_is_few l (setup_count l.starts) k (sym (taken_if l.up (setup_after l (setup_count l.starts)) None (due_is_up l k due)) ∙ due) in
    let own = own_more l.starts s in
    let told : renewal_count (l.starts ++ s ∷ []) ≡ renewal_count l.starts = renewal_else l.starts s refl in
    let watch : one_for (is_some (monitor_among (l.starts ++ s ∷ []) 0)) ≡ one_for (is_some (monitor_among l.starts 0)) = ap (λ (o : Option ℕ). one_for (is_some o)) (monitor_else l.starts s 0 refl) in
    let again : one_for (is_some (again_among (l.starts ++ s ∷ []) 0)) ≡ one_for (is_some (again_among l.starts 0)) = ap (λ (o : Option ℕ). one_for (is_some o)) (again_else l.starts s 0 refl) in
    record {
      own = let old = h.own in omega (arith, old, own, one, told, watch, again);
      first = inl (omega (arith, one, more, all));
      setups = omega (arith, one, few);
      told = let old = h.told in omega (arith, old, told);
      timed = h.timed;
    }

-- a start that is no setup, on a link that is greeted
other_few : (l : Ledger) (s : Start) → is_of_setup s.owner ≡ false → is_greeted l ≡ true → one_for (not (is_of_try s.owner)) + own_others l.starts + renewal_count l.starts ≤ own_others (l.starts ++ s ∷ []) + renewal_count (l.starts ++ s ∷ [])
    → renewal_count (l.starts ++ s ∷ []) ≤ length l.creds.renewals → StartsFew l → StartsFew (noted l (begins s))
other_few l s other greeted pays told h =
    let same : setup_count (l.starts ++ s ∷ []) ≡ setup_count l.starts = count_more l.starts s other in
    let own = own_more l.starts s in
    record {
      own = let old = h.own in omega (arith, old, own, same, pays);
      first = inr (greeted_begins l s other greeted);
      setups = let old = h.setups in omega (arith, old, same);
      told = told;
      timed = h.timed;
    }

monitor_few : (l : Ledger) → monitor_due l ≡ true → StartsFew l → StartsFew (noted l (begins monitor_message))
monitor_few l due h =
    let s : Start = monitor_message in
    let none : one_for (is_some (monitor_among l.starts 0)) ≡ 0 = ap (λ (o : Option ℕ). one_for (is_some o)) (watch_is_new l due) in
    let some : one_for (is_some (monitor_among (l.starts ++ s ∷ []) 0)) ≡ 1 = ap (λ (o : Option ℕ). one_for (is_some o)) (monitor_begun l.starts s 0 (watch_is_new l due) refl) in
    let again : one_for (is_some (again_among (l.starts ++ s ∷ []) 0)) ≡ one_for (is_some (again_among l.starts 0)) = ap (λ (o : Option ℕ). one_for (is_some o)) (again_else l.starts s 0 refl) in
    let told : renewal_count (l.starts ++ s ∷ []) ≡ renewal_count l.starts = renewal_else l.starts s refl in
    let old = h.told in
    other_few l s refl (watch_is_greeted l due) (omega (arith, none, some, again, told)) (omega (arith, old, told)) h

again_few : (l : Ledger) (s : Start) → s.owner ≡ owner.Resub → again_due l ≡ true → StartsFew l → StartsFew (noted l (begins s))
again_few l s is due h =
    let none : one_for (is_some (again_among l.starts 0)) ≡ 0 = ap (λ (o : Option ℕ). one_for (is_some o)) (again_is_new l due) in
    let some : one_for (is_some (again_among (l.starts ++ s ∷ []) 0)) ≡ 1 = ap (λ (o : Option ℕ). one_for (is_some o)) (again_begun l.starts s 0 (again_is_new l due) (ap is_of_again is)) in
    let watch : one_for (is_some (monitor_among (l.starts ++ s ∷ []) 0)) ≡ one_for (is_some (monitor_among l.starts 0)) = ap (λ (o : Option ℕ). one_for (is_some o)) (monitor_else l.starts s 0 (ap is_of_monitor is)) in
    let told : renewal_count (l.starts ++ s ∷ []) ≡ renewal_count l.starts = renewal_else l.starts s (ap is_of_renewal is) in
    let mine : one_for (not (is_of_try s.owner)) ≡ 1 = ap (λ (o : Owner). one_for (not (is_of_try o))) is in
    let old = h.told in
    other_few l s (ap is_of_setup is) (set_is_greeted l (again_is_set l due)) (omega (arith, none, some, watch, told, mine)) (omega (arith, old, told)) h

-- new credentials that are to be told came
due_came : (l : Ledger) (c : Credentials) → renewal_due l ≡ Some c → renewal_count l.starts + 1 ≤ length l.creds.renewals
due_came l c due = let i : renewal_count l.starts < length l.creds.renewals = item_within l.creds.renewals (renewal_count l.starts) c (renewal_came l c due) in omega (arith, i)

renewal_few : (l : Ledger) (s : Start) (c : Credentials) → s.owner ≡ owner.Auth → IsShaped l → renewal_due l ≡ Some c → StartsFew l → StartsFew (noted l (begins s))
renewal_few l s c is shaped due h =
    let watch : one_for (is_some (monitor_among (l.starts ++ s ∷ []) 0)) ≡ one_for (is_some (monitor_among l.starts 0)) = ap (λ (o : Option ℕ). one_for (is_some o)) (monitor_else l.starts s 0 (ap is_of_monitor is)) in
    let again : one_for (is_some (again_among (l.starts ++ s ∷ []) 0)) ≡ one_for (is_some (again_among l.starts 0)) = ap (λ (o : Option ℕ). one_for (is_some o)) (again_else l.starts s 0 (ap is_of_again is)) in
    let told : renewal_count (l.starts ++ s ∷ []) ≡ suc (renewal_count l.starts) = renewal_one l.starts s (ap is_of_renewal is) in
    let mine : one_for (not (is_of_try s.owner)) ≡ 1 = ap (λ (o : Owner). one_for (not (is_of_try o))) is in
    let all = due_came l c due in
    other_few l s (ap is_of_setup is) (set_is_greeted l (renewal_is_set l c shaped due)) (omega (arith, watch, again, told, mine)) (omega (arith, told, all)) h

try_few : (l : Ledger) (s : Start) (n round : ℕ) → s.owner ≡ owner.Try n round → is_ready l ≡ true → StartsFew l → StartsFew (noted l (begins s))
try_few l s n round is ready h =
    let watch : one_for (is_some (monitor_among (l.starts ++ s ∷ []) 0)) ≡ one_for (is_some (monitor_among l.starts 0)) = ap (λ (o : Option ℕ). one_for (is_some o)) (monitor_else l.starts s 0 (ap is_of_monitor is)) in
    let again : one_for (is_some (again_among (l.starts ++ s ∷ []) 0)) ≡ one_for (is_some (again_among l.starts 0)) = ap (λ (o : Option ℕ). one_for (is_some o)) (again_else l.starts s 0 (ap is_of_again is)) in
    let told : renewal_count (l.starts ++ s ∷ []) ≡ renewal_count l.starts = renewal_else l.starts s (ap is_of_renewal is) in
    let mine : one_for (not (is_of_try s.owner)) ≡ 0 = ap (λ (o : Owner). one_for (not (is_of_try o))) is in
    let old = h.told in
    other_few l s (ap is_of_setup is) (set_is_greeted l (ready_is_set l ready)) (omega (arith, watch, again, told, mine)) (omega (arith, old, told)) h

-- a message that starts
begun_few : (b : Book) (l k : ℕ) (who : Owner) (count len : ℕ) → MayStand b (action.Start l k who count len) → Sound b → StartsFew (b.link l) → StartsFew (noted (b.link l) (begins (message_of b l who)))
begun_few b l k owner.Setup count len may sound h = setup_few (b.link l) may.k may.due h
begun_few b l k owner.Auth count len may sound h = renewal_few (b.link l) (message_of b l owner.Auth) may.credentials refl (sound.shaped l) may.due h
begun_few b l k owner.Resub count len may sound h = again_few (b.link l) (message_of b l owner.Resub) refl may.due h
begun_few b l k owner.Monitor count len may sound h = monitor_few (b.link l) may.due h
begun_few b l k (owner.Try n round) count len may sound h =
    try_few (b.link l) (message_of b l (owner.Try n round)) n round refl (subst (λ j. is_ready (b.link j) ≡ true) (sym may.1.on_its_link) (mover_is_ready b n (starter_moves b l k n count len may.1))) h

-- credentials that are to be told, or were, came
pub asked_came : (l : Ledger) → StartsFew l → renewals_asked l ≤ length l.creds.renewals
asked_came l h = by_due (renewal_due l) refl
  where
    by_due : (o : Option Credentials) → renewal_due l ≡ o → renewal_count l.starts + (if is_some o then 1 else 0) ≤ length l.creds.renewals
    by_due None e = let old = h.told in omega (arith, old)
    by_due (Some c) e = due_came l c e

-- each action that may stand keeps it
pub few_kept : (b : Book) (a : Action) (l : ℕ) → MayStand b a → Sound b → StartsFew (b.link l) → StartsFew ((entered b a).link l)
few_kept b a l may sound h =
    action_notes StartsFew b a l (record {
      asked = λ host port e.
          let next : l ≡ b.links = (subst (MayStand b) e may).next in
          none_few (noted (b.link l) (asked_line b)) ((sound.shaped l).none (sound.links.unasked l (omega (arith, next))).0) (omega arith);
      heard = λ k e is. plain_few (with_news (b.link l) k (news_of b.timers b.sources l e.kind)) _ refl refl refl refl (news_few (b.link l) k (news_of b.timers b.sources l e.kind) (sound.shaped l) h);
      timed = λ t ms k e. timed_few (b.link l) (its t ms k (subst (MayStand b) e may)) h;
      repeated = λ t ms e. plain_few (b.link l) _ refl refl refl refl h;
      sourced = λ c e. plain_few (b.link l) _ refl refl refl refl h;
      begun = λ k who count len e. begun_few b l k who count len (subst (MayStand b) e may) sound h;
      told = plain_few (b.link l) _ refl refl refl refl h;
      parted = plain_few (b.link l) _ refl refl refl refl h;
      offered = λ bytes. plain_few (b.link l) _ refl refl refl refl h;
      ended = λ e. plain_few (b.link l) _ refl refl refl refl h;
    }) h
  where
    its : (t ms k : ℕ) → MayTimer b t ms (purpose.Renewal l k) → (b.link l).creds.timed < renewals_asked (b.link l)
    its t ms k timer =
        let may = renewal_of b t ms l k timer in
        subst (λ j. (b.link j).creds.timed < renewals_asked (b.link j)) (sym (same_link l may.l k (b.link may.l).creds.timed may.is_for)) may.asked

    timed_few : (m : Ledger) → m.creds.timed < renewals_asked m → StartsFew m → StartsFew (noted m times)
    timed_few m i g = record {
      own = g.own;
      first = g.first;
      setups = g.setups;
      told = g.told;
      timed = let all = asked_came m g in omega (arith, i, all);
    }

-- messages of all submissions
abbrev pub tries : Book → ℕ
tries b = sum_below (λ n. length (b.story n).tries) b.submissions

-- on a link there are no more than these, and its own
abbrev pub StartsPaid : ℕ → Ledger → Type 0
StartsPaid all l = length l.starts ≤ own_count l.starts + all

tries_grow : (b : Book) (a : Action) → tries b ≤ tries (entered b a)
tries_grow b a =
    let here = sum_less (λ n. length (b.story n).tries) (λ n. length ((entered b a).story n).tries) b.submissions (λ n i. (action_grows b a n).tried) in
    let more = sum_longer (λ n. length ((entered b a).story n).tries) b.submissions (entered b a).submissions (submissions_grow b a) in
    omega (arith, here, more)

same_paid : (all : ℕ) (l m : Ledger) → m.starts ≡ l.starts → StartsPaid all l → StartsPaid all m
same_paid all l m starts h = subst (λ (ss : List Start). length ss ≤ own_count ss + all) (sym starts) h

-- one that is no submission's
own_paid : (all : ℕ) (l : Ledger) (s : Start) → is_of_try s.owner ≡ false → StartsPaid all l → StartsPaid all (noted l (begins s))
own_paid all l s other h =
    let more : length (l.starts ++ s ∷ []) ≡ length l.starts + 1 = length_push l.starts s in
    let own = own_more l.starts s in
    let one : one_for (not (is_of_try s.owner)) ≡ 1 = ap (λ t. one_for (not t)) other in
    omega (arith, more, own, one, h)

-- and one that is
try_paid : (b : Book) (l k n count len round : ℕ) → MayStart b l k n count len → Sound b → tries b + 1 ≤ tries (entered b (action.Start l k (owner.Try n round) count len))
try_paid b l k n count len round may sound =
    let a : Action = action.Start l k (owner.Try n round) count len in
    sum_with_one (λ m. length (b.story m).tries) (λ m. length ((entered b a).story m).tries) n b.submissions (mover_is_numbered b n sound.stories (starter_moves b l k n count len may))
    (λ m i. (action_grows b a m).tried)
    (if_true (λ (s : Story). length (b.story n).tries + 1 ≤ length s.tries) (n == n) (tried (b.story n) l k) (b.story n) (eq_test n n refl)
    (let more : length ((b.story n).tries ++ record { link = l; message = k } ∷ []) ≡ length (b.story n).tries + 1 = length_push (b.story n).tries (record { link = l; message = k }) in omega (arith, more)))

begun_paid : (b : Book) (a : Action) (l k : ℕ) (who : Owner) (count len : ℕ) → a ≡ action.Start l k who count len → MayStand b a → Sound b → StartsPaid (tries b) (b.link l) → StartsPaid (tries (entered b a)) (noted (b.link l) (begins (message_of b l who)))
begun_paid b a l k (owner.Try n round) count len is may sound h =
    let s : Start = message_of b l (owner.Try n round) in
    let pays : tries b + 1 ≤ tries (entered b a) = subst (λ (x : Action). tries b + 1 ≤ tries (entered b x)) (sym is) (try_paid b l k n count len round (subst (MayStand b) is may).1 sound) in
    let more : length ((b.link l).starts ++ s ∷ []) ≡ length (b.link l).starts + 1 = length_push (b.link l).starts s in
    let own = own_more (b.link l).starts s in
    omega (arith, pays, more, own, h)
begun_paid b a l k owner.Setup count len is may sound h = let grows = tries_grow b a in own_paid (tries (entered b a)) (b.link l) (message_of b l owner.Setup) refl (omega (arith, grows, h))
begun_paid b a l k owner.Auth count len is may sound h = let grows = tries_grow b a in own_paid (tries (entered b a)) (b.link l) (message_of b l owner.Auth) refl (omega (arith, grows, h))
begun_paid b a l k owner.Resub count len is may sound h = let grows = tries_grow b a in own_paid (tries (entered b a)) (b.link l) (message_of b l owner.Resub) refl (omega (arith, grows, h))
begun_paid b a l k owner.Monitor count len is may sound h = let grows = tries_grow b a in own_paid (tries (entered b a)) (b.link l) (message_of b l owner.Monitor) refl (omega (arith, grows, h))

-- each action that may stand leaves them paid
pub starts_paid : (b : Book) (a : Action) (l : ℕ) → MayStand b a → Sound b → StartsPaid (tries b) (b.link l) → StartsPaid (tries (entered b a)) ((entered b a).link l)
starts_paid b a l may sound h =
    let grows = tries_grow b a in
    let all : ℕ = tries (entered b a) in
    let same : StartsPaid all (b.link l) = omega (arith, grows, h) in
    action_notes (StartsPaid all) b a l (record {
      asked = λ host port e. same;
      heard = λ k e is. same_paid all (b.link l) (noted (b.link l) (hears k (news_of b.timers b.sources l e.kind))) (hears_past (b.link l) k (news_of b.timers b.sources l e.kind)).starts same;
      timed = λ t ms k e. same;
      repeated = λ t ms e. same;
      sourced = λ c e. same;
      begun = λ k who count len e. begun_paid b a l k who count len e may sound h;
      told = same;
      parted = same;
      offered = λ bytes. same;
      ended = λ e. same;
    }) same
