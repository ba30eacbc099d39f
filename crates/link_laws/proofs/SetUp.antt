-- Whether a link is set up is the same of the link and of its ledger, value by value.
use Rattle.std.proofs.Common.{◌≡◌, ◌⊎◌, inl, inr, ℕ, suc, ◌+◌, ◌≤◌, ◌==◌, nat_le, nat_lt, Bool, true, false, ◌&&◌, ◌||◌, not, if◌then◌else◌, List, [], ◌∷◌, ◌++◌, length, Some, None, refl, sym, ap, ◌∙◌, subst, arith}
use Rattle.std.proofs.lemmas.List.{take_all}
use Rattle.containers.proofs.Choices.{by_test, chosen, left_if, le_test, lt_from, not_le_test, not_lt_from, not_both}
use Rattle.connection_setup.specs.declared.judgement.SetupResult.TheVariants as result
use Rattle.resp_value.specs.Data.{Data}
use Rattle.resp_value.specs.Kinds.{is_item}
use Rattle.driver_model.specs.Config.{bare_info}
use Rattle.driver_model.specs.Setup.{says_nothing}
use Rattle.driver_model.specs.Shape.{need_of, verdict_of}
use Rattle.driver_model.specs.Hearing.{Taking, taking, as_item, is_watching}
use Rattle.driver_model.specs.declared.action.Owner.{Owner}
use Rattle.driver_model.specs.declared.hearing.Hearing.{Hearing}
use Rattle.driver_model.specs.declared.hearing.Hearing.TheVariants as hearing
use Rattle.link_core.specs.declared.message.Entry.{Entry}
use Rattle.link_core.specs.declared.message.NoticeAt.{NoticeAt}
use Rattle.link_core.specs.declared.message.Settled.{Settled}
use Rattle.link_core.specs.Dealing.{Dealing, dealing_with, with_item, settled_by, dealt, dealt_if, dealt_to, is_awaiting, is_set_up_in, noticed_behind, taking_in, taken_as, taken, taken_each}
use Rattle.legal_trace.specs.Ledger.{Ledger, Start, Heard, is_answered, is_full, is_greeted, is_set_up, is_well, lacks_credentials, last_result, monitor_of, reach, result_of, setup_count, setup_steps, value_came, values_came}
use Rattle.legal_trace.proofs.Came.{Came, came_on, grown, holds_came, none_came, value_is, values_are}
use Rattle.legal_trace.proofs.Monitors.{unwatched}
use Rattle.legal_trace.proofs.Setups.{AreSetups, bare_is_set, count_within, greeted_more, result_same, set_is_given, set_stays, setup_said, start_at}
use Rattle.link_laws.proofs.Choices.{chosen_both}
use Rattle.link_laws.proofs.Dealt.{awaits_alike}
use Rattle.link_laws.proofs.Taken.{IsTaken, TakesAlike, TakeAlike, item_tells, value_taken}

-- the same is heard
heard_same : (l : Ledger) (v : Data) (h : Hearing) → l.hearing ≡ h → (value_came l v).hearing ≡ h
heard_same l v h e = holds_came (λ (m : Ledger). m.hearing ≡ h) l (value_came l v) (value_is l v) (λ rest strange told more. e)

-- a link that is set up
--
-- and stays so, whatever comes
abbrev pub StaysSetUp : Ledger → Type 0
StaysSetUp l = (m : Ledger) → Came l m → is_set_up m ≡ true

-- as one is whose setups take the items that their commands are answered with
pub stays_set : (l : Ledger) → AreSetups l → is_set_up l ≡ true → StaysSetUp l
stays_set l shaped set m came = set_stays l m came shaped set

-- and one to whose server nothing is to be said, and which wants no credentials
pub stays_bare : (l : Ledger) → is_watching l.hearing ≡ false → l.info ≡ bare_info → l.creds.wanted ≡ false → StaysSetUp l
stays_bare l plain bare unasked m came = holds_came (λ (x : Ledger). is_set_up x ≡ true) l m came (λ rest strange told more. bare_is_set (grown l rest strange told more) plain bare unasked)

-- its values are taken as on a link that is set up
pub set_take : (h : Hearing) (l : Ledger) (d : Dealing) (vs : List Data) → l.hearing ≡ h → StaysSetUp l → TakeAlike h true l d vs
set_take h l d [] is stays = tt
set_take h l d (v ∷ vs) is stays = (
  (λ awaited i. taking (is i) (stays l (none_came l) i) awaited v),
  set_take h (value_came l v) (taken h true d v) vs (heard_same l v h is) (λ m came. stays m (came_on l (value_came l v) m (value_is l v) came)),
)

-- a link that isn't set up behind all values
--
-- where nobody hears anything it is of no account whether it is set up
nothing_taken : (b awaited : Bool) (v : Data) → taking hearing.Nothing b awaited v ≡ as_item v
nothing_taken true awaited v = refl
nothing_taken false awaited v = refl

-- its values are taken as where nobody hears anything
pub unset_take : (ready : Bool) (l : Ledger) (d : Dealing) (vs : List Data) → AreSetups l → is_set_up (values_came l vs) ≡ false → TakeAlike hearing.Nothing ready l d vs
unset_take ready l d [] shaped unset = tt
unset_take ready l d (v ∷ vs) shaped unset =
    let here : is_set_up l ≡ false = by_test (is_set_up l) (is_set_up l ≡ false)
    (λ t. absurd (not_both (is_set_up (values_came l (v ∷ vs))) unset (set_stays l (values_came l (v ∷ vs)) (values_are l (v ∷ vs)) shaped t))) (λ f. f) in (
      (λ awaited. ap (λ (b : Bool). taking l.hearing b awaited v) here ∙ sym (nothing_taken (is_set_up_in ready d) awaited v)),
      unset_take ready (value_came l v) (taken hearing.Nothing ready d v) vs (holds_came AreSetups l (value_came l v) (value_is l v) (λ rest strange told more. shaped)) unset,
    )

-- so an item is dealt there, and nothing is told
nothing_is : (ready : Bool) (d : Dealing) (v : Data) → d.strange ≡ false → taken hearing.Nothing ready d v ≡ taken_as d (as_item v) v
nothing_is ready d v tame =
    left_if d.strange d (taken_as d (taking_in hearing.Nothing ready d v) v) tame
    ∙ ap (λ (t : Taking). taken_as d t v) (nothing_taken (is_set_up_in ready d) (is_awaiting d.row) v)

-- and nothing ends the link
pub nothing_told : (ready : Bool) (d : Dealing) (vs : List Data) → d.notices ≡ [] → d.strange ≡ false → ((taken_each hearing.Nothing ready d vs).notices ≡ []) × ((taken_each hearing.Nothing ready d vs).strange ≡ false)
nothing_told ready d [] none tame = (none, tame)
nothing_told ready d (v ∷ vs) none tame =
    let m : Dealing = record d { notices = d.notices ++ []; strange = false } in
    let none_more : d.notices ++ [] ≡ [] = ap (λ (ns : List NoticeAt). ns ++ []) none in
    let one : ((taken hearing.Nothing ready d v).notices ≡ []) × ((taken hearing.Nothing ready d v).strange ≡ false) =
    subst (λ (x : Dealing). (x.notices ≡ []) × (x.strange ≡ false)) (sym (nothing_is ready d v tame))
    (chosen (λ (x : Dealing). (x.notices ≡ []) × (x.strange ≡ false)) (is_item v) (dealt m v) m
    (λ t. ((item_tells m v d.row).0 ∙ none_more, (item_tells m v d.row).1))
    (λ f. (none_more, refl))) in
    nothing_told ready (taken hearing.Nothing ready d v) vs one.0 one.1

-- where no message takes items, nothing is dealt
--
-- by a value
one_done : (h : Hearing) (ready : Bool) (d : Dealing) (v : Data) → d.row ≡ [] → ((taken h ready d v).row ≡ []) × ((taken h ready d v).out ≡ d.out)
one_done h ready d v done =
    let t = taking_in h ready d v in
    let m : Dealing = record d { notices = d.notices ++ noticed_behind (length d.out) t.told; strange = t.ends } in
    chosen (λ (x : Dealing). (x.row ≡ []) × (x.out ≡ d.out)) d.strange d (taken_as d t v)
    (λ y. (done, refl))
    (λ n. chosen (λ (x : Dealing). (x.row ≡ []) × (x.out ≡ d.out)) t.dealt (dealt m v) m
    (λ y. subst (λ (row : List Entry). ((dealt_to m v row).row ≡ []) × ((dealt_to m v row).out ≡ d.out)) (sym done) (done, refl))
    (λ y. (done, refl)))

-- by several
pub all_done : (h : Hearing) (ready : Bool) (d : Dealing) (vs : List Data) → d.row ≡ [] → ((taken_each h ready d vs).row ≡ []) × ((taken_each h ready d vs).out ≡ d.out)
all_done h ready d [] done = (done, refl)
all_done h ready d (v ∷ vs) done =
    let one = one_done h ready d v done in
    let more = all_done h ready (taken h ready d v) vs one.0 in
    (more.0, more.1 ∙ one.1)

-- a row of one message on a link that isn't set up
--
-- which isn't full yet
abbrev unfilled : Entry → List NoticeAt → Dealing
unfilled e ns = record { row = e ∷ []; out = []; notices = ns; strange = false }

-- and which is
abbrev filled : Entry → List NoticeAt → Dealing
filled e ns = record { row = []; out = settled_by e; notices = ns; strange = false }

-- a value goes to it where it is an item
value_to : (h : Hearing) (e : Entry) (ns : List NoticeAt) (v : Data) → taken h false (unfilled e ns) v ≡ dealt_if (is_item v) (unfilled e (ns ++ [])) v
value_to h e ns v = refl

-- and may fill it
fact_to : (P : Dealing → Type 0) (h : Hearing) (e : Entry) (ns : List NoticeAt) (v : Data) → P (unfilled e (ns ++ [])) → P (unfilled (with_item e v) (ns ++ [])) → P (filled (with_item e v) (ns ++ [])) → P (taken h false (unfilled e ns) v)
fact_to P h e ns v none more full =
    let f = with_item e v in
    chosen P (is_item v) (dealt (unfilled e (ns ++ [])) v) (unfilled e (ns ++ []))
    (λ t. chosen P (nat_lt (length f.got) (need_of f.shape)) (unfilled f (ns ++ [])) (filled f (ns ++ [])) (λ y. more) (λ y. full))
    (λ n. none)

-- the same row, and the same settled messages
abbrev pub SameDealt : Dealing → Dealing → Type 0
SameDealt x y = (x.row ≡ y.row) × (x.out ≡ y.out)

-- whatever is heard, it takes the same
alone_same : (h g : Hearing) (e : Entry) (ns ms : List NoticeAt) (vs : List Data) → SameDealt (taken_each h false (unfilled e ns) vs) (taken_each g false (unfilled e ms) vs)
alone_same h g e ns ms [] = (refl, refl)
alone_same h g e ns ms (v ∷ vs) =
    let f = with_item e v in
    let x = unfilled e (ns ++ []) in
    let y = unfilled e (ms ++ []) in
    let a = all_done h false (filled f (ns ++ [])) vs refl in
    let b = all_done g false (filled f (ms ++ [])) vs refl in
    chosen_both (λ (p q : Dealing). SameDealt (taken_each h false p vs) (taken_each g false q vs)) (is_item v) (dealt x v) x (dealt y v) y
    (λ t. chosen_both (λ (p q : Dealing). SameDealt (taken_each h false p vs) (taken_each g false q vs)) (nat_lt (length f.got) (need_of f.shape)) (unfilled f (ns ++ [])) (filled f (ns ++ [])) (unfilled f (ms ++ [])) (filled f (ms ++ []))
    (λ u. alone_same h g f (ns ++ []) (ms ++ []) vs)
    (λ u. (a.0 ∙ sym b.0, a.1 ∙ sym b.1)))
    (λ n. alone_same h g e (ns ++ []) (ms ++ []) vs)

-- so a row of one message at most does
pub few_same : (h g : Hearing) (row : List Entry) (vs : List Data) → length row ≤ 1 → SameDealt (taken_each h false (dealing_with row) vs) (taken_each g false (dealing_with row) vs)
few_same h g [] vs few =
    let a = all_done h false (dealing_with []) vs refl in
    let b = all_done g false (dealing_with []) vs refl in
    (a.0 ∙ sym b.0, a.1 ∙ sym b.1)
few_same h g (e ∷ []) vs few = alone_same h g e [] [] vs
few_same h g (e ∷ f ∷ es) vs few = absurd (omega arith)

-- one whose verdict isn't wanted settles nothing
unwanted_none : (h : Hearing) (e : Entry) (ns : List NoticeAt) (vs : List Data) → e.awaited ≡ false → (taken_each h false (unfilled e ns) vs).out ≡ []
unwanted_none h e ns [] unwanted = refl
unwanted_none h e ns (v ∷ vs) unwanted =
    let f = with_item e v in
    fact_to (λ (x : Dealing). (taken_each h false x vs).out ≡ []) h e ns v
    (unwanted_none h e (ns ++ []) vs unwanted)
    (unwanted_none h f (ns ++ []) vs unwanted)
    ((all_done h false (filled f (ns ++ [])) vs refl).1 ∙ ap (λ (b : Bool). if b then record { id = f.id; verdict = verdict_of f.shape f.got } ∷ [] else []) unwanted)

-- a greeting
--
-- it isn't answered
pub record IsUnanswered (d : Dealing) : Type 0 where
  pub entry : Entry
  pub notices : List NoticeAt
  pub is : d ≡ unfilled entry notices
  pub awaited : entry.awaited ≡ true

-- it is, or isn't
abbrev pub IsGreeting : Dealing → Type 0
IsGreeting d = IsUnanswered d ⊎ ((d.row ≡ []) × ((length d.out == 0) ≡ false))

-- so it is when a value has come
greeting_takes : (h : Hearing) (d : Dealing) (v : Data) → IsGreeting d → IsGreeting (taken h false d v)
greeting_takes h d v (inl u) =
    let e = u.entry in
    let f = with_item e v in
    let ns = u.notices ++ [] in
    subst (λ (x : Dealing). IsGreeting (taken h false x v)) (sym u.is)
    (fact_to IsGreeting h e u.notices v
    (inl (record { entry = e; notices = ns; is = refl; awaited = u.awaited }))
    (inl (record { entry = f; notices = ns; is = refl; awaited = u.awaited }))
    (inr (refl, ap (λ (b : Bool). length (if b then record { id = f.id; verdict = verdict_of f.shape f.got } ∷ [] else []) == 0) u.awaited)))
greeting_takes h d v (inr a) =
    let one = one_done h false d v a.0 in
    inr (one.0, ap (λ (out : List Settled). length out == 0) one.1 ∙ a.1)

-- it takes items until it is answered
greeting_awaits : (d : Dealing) → IsGreeting d → not (is_awaiting d.row) ≡ not (length d.out == 0)
greeting_awaits d (inl u) = subst (λ (x : Dealing). not (is_awaiting x.row) ≡ not (length x.out == 0)) (sym u.is) refl
greeting_awaits d (inr a) = ap (λ (row : List Entry). not (is_awaiting row)) a.0 ∙ sym (ap not a.1)

-- a row of one message at most, which some values settle
pub settles_greeting : (h : Hearing) (row : List Entry) (vs : List Data) (x : Settled) (xs : List Settled) → length row ≤ 1 → (taken_each h false (dealing_with row) vs).out ≡ x ∷ xs → IsGreeting (dealing_with row)
settles_greeting h [] vs x xs few settled = let none : [] ≡ x ∷ xs = sym (all_done h false (dealing_with []) vs refl).1 ∙ settled in cc
settles_greeting h (e ∷ []) vs x xs few settled =
    by_test e.awaited (IsGreeting (dealing_with (e ∷ [])))
    (λ t. inl (record { entry = e; notices = []; is = refl; awaited = t }))
    (λ f. let none : [] ≡ x ∷ xs = sym (unwanted_none h e [] vs f) ∙ settled in cc)
settles_greeting h (e ∷ f ∷ es) vs x xs few settled = absurd (omega arith)

-- a link that is set up when message number k has its items
--
-- whatever came up to the last
abbrev pub SetBy : Ledger → Ledger → ℕ → Type 0
SetBy l last k = (m : Ledger) → Came l m → Came m last → is_set_up m ≡ is_full m k

-- a test, and the one that it fails
not_lt : (a b : ℕ) → nat_le a b ≡ not (nat_lt b a)
not_lt a b = by_test (nat_lt b a) (nat_le a b ≡ not (nat_lt b a))
    (λ t. not_le_test a b (lt_from b a t) ∙ sym (ap not t))
    (λ f. le_test a b (not_lt_from b a f) ∙ sym (ap not f))

-- the last message that started has its items where none takes any
last_full : (name : ℕ → Owner) (before : List Heard) (l : Ledger) (d : Dealing) (k : ℕ) → length l.starts ≡ suc k → IsTaken name before l d → is_full l k ≡ not (is_awaiting d.row)
last_full name before l d k long h =
    ap (λ (ss : List Start). nat_le (reach ss l.dealt) (length l.dealt)) (take_all (k + 1) l.starts (omega (arith, long)))
    ∙ not_lt (reach l.starts l.dealt) (length l.dealt)
    ∙ ap not (sym (awaits_alike name l.starts l.dealt d.row h.deals.row))

-- its values are taken as on a link that is set up from its first settled message on
pub greeted_take : (name : ℕ → Owner) (before : List Heard) (h : Hearing) (l : Ledger) (d : Dealing) (vs : List Data) (k : ℕ) → l.hearing ≡ h → length l.starts ≡ suc k → SetBy l (values_came l vs) k → IsGreeting d → IsTaken name before l d
    → TakeAlike h false l d vs
greeted_take name before h l d [] k is long sets greeting taken_so = tt
greeted_take name before h l d (v ∷ vs) k is long sets greeting taken_so =
    let set : is_set_up l ≡ is_set_up_in false d = sets l (none_came l) (values_are l (v ∷ vs)) ∙ last_full name before l d k long taken_so ∙ greeting_awaits d greeting in
    let one : TakesAlike h false l d v = λ awaited i. taking (is i) (set i) awaited v in
    let m = value_came l v in (
      one,
      greeted_take name before h m (taken h false d v) vs k (heard_same l v h is) (holds_came (λ (x : Ledger). length x.starts ≡ suc k) l m (value_is l v) (λ rest strange told more. long))
          (λ x came later. sets x (came_on l m x (value_is l v) came) later)
          (greeting_takes h d v greeting)
          (value_taken name before h false l d v one taken_so),
    )

-- the last setup
--
-- whether a link is set up that has its credentials hangs on it
set_by_last : (l : Ledger) (k : ℕ) → is_watching l.hearing ≡ false → setup_count l.starts ≡ suc k → lacks_credentials l ≡ false → says_nothing (setup_steps l 0) ≡ false → is_set_up l ≡ is_well (result_of l k)
set_by_last l k plain count given says =
    ap (λ (b : Bool). is_greeted l && b) (unwatched l plain)
    ∙ and_true (is_greeted l)
    ∙ ap is_well (setup_said l given ∙ left_if (says_nothing (setup_steps l 0)) (Some result.Ready) (last_result l (setup_count l.starts)) says ∙ ap (last_result l) count)
  where
    and_true : (b : Bool) → (b && true) ≡ b
    and_true true = refl
    and_true false = refl

-- where that is well behind all that came
setup_between : (m : Ledger) (k : ℕ) (rest : List ℕ) (strange : Bool) (told : List Heard) (more : List Data) → is_watching m.hearing ≡ false → setup_count m.starts ≡ suc k → says_nothing (setup_steps m 0) ≡ false → AreSetups m
    → is_set_up (grown m rest strange told more) ≡ true → is_set_up m ≡ is_full m k
setup_between m k rest strange told more plain count says shaped set =
    let last = grown m rest strange told more in
    let given : lacks_credentials m ≡ false = set_is_given last set in
    let start = start_at m.starts k (omega (arith, count, count_within m.starts)) in
    set_by_last m k plain count given says
    ∙ by_test (is_full m k) (is_well (result_of m k) ≡ is_full m k)
    (λ t.
    let same : result_of last k ≡ result_of m k = result_same m rest more k start.0 start.1 (shaped k start.0 (omega (arith, count)) start.1) t in
    sym (ap is_well same) ∙ sym (set_by_last last k plain count given says) ∙ set ∙ sym t)
    (λ f. ap is_well (left_if (is_full m k) _ None f) ∙ sym f)

-- so it sets the link up
pub setup_sets : (l last : Ledger) (k : ℕ) → is_watching l.hearing ≡ false → setup_count l.starts ≡ suc k → says_nothing (setup_steps l 0) ≡ false → AreSetups l → is_set_up last ≡ true → SetBy l last k
setup_sets l last k plain count says shaped set m came later =
    holds_came (λ (x : Ledger). is_set_up x ≡ true → is_set_up m ≡ is_full m k) m last later
    (λ rest strange told more.
    setup_between m k rest strange told more
    (holds_came (λ (x : Ledger). is_watching x.hearing ≡ false) l m came (λ rest strange told more. plain))
    (holds_came (λ (x : Ledger). setup_count x.starts ≡ suc k) l m came (λ rest strange told more. count))
    (holds_came (λ (x : Ledger). says_nothing (setup_steps x 0) ≡ false) l m came (λ rest strange told more. says))
    (holds_came AreSetups l m came (λ rest strange told more. shaped)))
    set

-- and so does MONITOR, behind a setup that is answered well
pub monitor_sets : (l last : Ledger) (k : ℕ) → is_watching l.hearing ≡ true → monitor_of l ≡ Some k → AreSetups l → is_greeted l ≡ true → SetBy l last k
monitor_sets l last k watching there shaped greeted m came later =
    holds_came (λ (x : Ledger). is_set_up x ≡ is_full x k) l m came
    (λ rest strange told more.
    let x = grown l rest strange told more in
    let well : is_greeted x ≡ true = greeted_more l rest more shaped greeted in
    (λ i. well i && (not (watching i) || is_answered x (there i))))
