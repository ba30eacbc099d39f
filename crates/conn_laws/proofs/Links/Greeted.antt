-- What bytes make of a link that is being set up, and of its greeting.
use Rattle.std.proofs.Common.{◌≡◌, ◌≢◌, inl, ℕ, zero, suc, ◌+◌, ◌<◌, ◌≤◌, ◌==◌, nat_le, nat_lt, Bool, true, false, if◌then◌else◌, List, [], ◌∷◌, ◌++◌, length, take, drop, Some, None, slice_get, refl, sym, ap, ◌∙◌, subst, arith, length-append, length-drop}
use Rattle.std.specs.List.{AllByRecursion}
use Rattle.std.proofs.lemmas.List.{append-nil, nil_from_length, take_all}
use Rattle.containers.proofs.Choices.{by_test, chosen, taken_if, left_if, eq_from, le_from, le_test, lt_from, ne_test, not_both, not_lt_from}
use Rattle.containers.proofs.Places.{get_within}
use Rattle.resp_value.specs.Data.{Data}
use Rattle.resp_read.specs.Values.{values}
use Rattle.connection_info.specs.declared.address.RedisConnectionInfo.{RedisConnectionInfo}
use Rattle.connection_setup.specs.declared.judgement.SetupResult.TheVariants as result
use Rattle.connection_setup.specs.Judgement.{judged}
use Rattle.connection_setup.specs.Setup.{Step, setup}
use Rattle.driver_model.specs.Hearing.{is_watching}
use Rattle.driver_model.specs.Setup.{says_nothing, setup_shape}
use Rattle.driver_model.specs.Shape.{need_of, verdict_of}
use Rattle.driver_model.specs.declared.action.Owner.{Owner}
use Rattle.driver_model.specs.declared.hearing.Hearing.{Hearing}
use Rattle.driver_model.specs.declared.hearing.Hearing.TheVariants as hearing
use Rattle.driver_model.specs.declared.outcome.Verdict.TheVariants as verdict
use Rattle.link_core.specs.declared.message.Entry.{Entry}
use Rattle.link_core.specs.declared.message.Settled.{Settled}
use Rattle.link_core.specs.Dealing.{Dealing, dealing_with, dealt, dealt_to, noticed_behind, taken, taken_as, taken_each, taking_in, with_item}
use Rattle.link_core.specs.Link.{LinkState, read_on}
use Rattle.link_laws.specs.Settles.{settled_ids, wanted}
use Rattle.link_laws.proofs.Dealt.{IsDealt, cut_at}
use Rattle.link_laws.proofs.Notices.{ReadsUnset, few_open, reading_came, unset_reads, unset_tied}
use Rattle.link_laws.proofs.Once.{taken_keeps}
use Rattle.link_laws.proofs.Rows.{open_list, open_rows, none_open as no_rows}
use Rattle.link_laws.proofs.SetUp.{IsGreeting as IsAsked, SetBy, few_same, greeted_take, monitor_sets, unset_take}
use Rattle.link_laws.proofs.Settles.{is_full_from}
use Rattle.link_laws.proofs.Taken.{IsNew, IsTaken, none_taken}
use Rattle.link_laws.proofs.TiedLink.{ReadsAlike, TiedLink, deals, has_heard, read_taken, read_tied, reading}
use Rattle.legal_trace.specs.Ledger.{Ledger, Start, bytes_came, cut, is_full, is_set_up, is_well, lacks_credentials, last_result, monitor_of, reach, result_of, setup_count, setup_result, setup_steps, values_came}
use Rattle.legal_trace.proofs.Came.{Came, bytes_keep, came_on}
use Rattle.legal_trace.proofs.Ledgers.{FewAreDealt, few_value, reach_alike}
use Rattle.legal_trace.proofs.Setups.{AreSetups as SetUpsAre, set_is_greeted, setup_said}
use Rattle.legal_trace.proofs.Watching.{unanswered_is_unset}
use Rattle.mux_conn.specs.declared.life.Greeting.{Greeting}
use Rattle.mux_conn.specs.Effects.{has_user, judged_by}
use Rattle.conn_laws.proofs.Links.Judged.{judged_repeats, setup_no_user}
use Rattle.conn_laws.proofs.Ties.More.{after_came, after_is, full_still}
use Rattle.conn_laws.proofs.Ties.New.{read_new}
use Rattle.conn_laws.proofs.Links.SameSaid.{SameSaid}
use Rattle.conn_laws.proofs.Links.SetUp.{alone_unwatched, count_length}
use Rattle.conn_laws.proofs.Links.Server.{AreSetups, AreSetupsAlone, IsSettingUp, IsSetupSent, IsWatching, IsWatchSent, greeting_at}

-- the rows of such a link
--
-- its verdict is wanted
abbrev IsAwaited : Entry → Type 0
IsAwaited e = e.awaited ≡ true

-- so it is of each
abbrev AreAwaited : List Entry → Type 0
AreAwaited row = AllByRecursion IsAwaited row

-- an awaited message of a row is wanted
awaited_wanted : (row : List Entry) → AreAwaited row → wanted row ≡ [] → row ≡ []
awaited_wanted [] all e = refl
awaited_wanted (x ∷ xs) all e =
    let first : (if x.awaited then x.id ∷ [] else []) ≡ x.id ∷ [] = taken_if x.awaited (x.id ∷ []) [] all.0 in
    let no : x.id ∷ wanted xs ≡ [] = sym (ap (λ ns. ns ++ wanted xs) first) ∙ e in
    cc

-- where all have their items no row is open
rows_full : (ss : List Start) (vs : List Data) → reach ss vs ≤ length vs → open_rows ss vs ≡ []
rows_full [] vs l = refl
rows_full (s ∷ ss) vs l =
    let n = need_of s.shape in
    taken_if (nat_le n (length vs)) (open_rows ss (drop n vs)) _ (le_test n (length vs) (omega arith)) ∙ rows_full ss (drop n vs) (omega (arith, length-drop n vs))

-- no entries
no_entries : (name : ℕ → Owner) (row : List Entry) → open_list name row ≡ [] → row ≡ []
no_entries name [] e = refl
no_entries name (x ∷ xs) e = cc

-- how many items all starts take, where that many started
whole_reach : (l : Ledger) (k : ℕ) → length l.starts ≡ suc k → take (k + 1) l.starts ≡ l.starts
whole_reach l k long = take_all (k + 1) l.starts (omega arith)

-- the last has all its items where all have
all_full : (l : Ledger) (k : ℕ) → length l.starts ≡ suc k → reach l.starts l.dealt ≤ length l.dealt → is_full l k ≡ true
all_full l k long far = ap (λ (ss : List Start). nat_le (reach ss l.dealt) (length l.dealt)) (whole_reach l k long) ∙ le_test _ _ far

-- and the other way round
full_last : (l : Ledger) (k : ℕ) → length l.starts ≡ suc k → is_full l k ≡ true → reach l.starts l.dealt ≤ length l.dealt
full_last l k long full = le_from _ _ (sym (ap (λ (ss : List Start). nat_le (reach ss l.dealt) (length l.dealt)) (whole_reach l k long)) ∙ full)

-- a message that is asked for alone
--
-- its verdict is wanted
one_asked : (row : List Entry) → length row ≤ 1 → AreAwaited row → row ≢ [] → IsAsked (dealing_with row)
one_asked [] few all some = absurd (some refl)
one_asked (e ∷ []) few all some = inl (record { entry = e; notices = []; is = refl; awaited = all.0 })
one_asked (e ∷ f ∷ es) few all some = absurd (omega arith)

-- what holds of each entry of a row does so when an item is dealt
item_all : (P : Entry → Type 0) → ((e : Entry) (item : Data) → P e → P (with_item e item)) → (d : Dealing) (item : Data) (row : List Entry) → AllByRecursion P row → AllByRecursion P d.row → AllByRecursion P (dealt_to d item row).row
item_all P one d item [] all whole = whole
item_all P one d item (e ∷ es) all whole =
    let f = with_item e item in
    chosen (λ (x : Dealing). AllByRecursion P x.row) (nat_lt (length f.got) (need_of e.shape)) _ _
    (λ t. (one e item all.0, all.1))
    (λ n. all.1)

-- or a value is taken
value_all : (P : Entry → Type 0) → ((e : Entry) (item : Data) → P e → P (with_item e item)) → (h : Hearing) (ready : Bool) (d : Dealing) (v : Data) → AllByRecursion P d.row → AllByRecursion P (taken h ready d v).row
value_all P one h ready d v all =
    let t = taking_in h ready d v in
    let m : Dealing = record d { notices = d.notices ++ noticed_behind (length d.out) t.told; strange = t.ends } in
    chosen (λ (x : Dealing). AllByRecursion P x.row) d.strange d (taken_as d t v)
    (λ y. all)
    (λ y. chosen (λ (x : Dealing). AllByRecursion P x.row) t.dealt (dealt m v) m (λ z. item_all P one m v d.row all all) (λ z. all))

-- or many are
pub values_all : (P : Entry → Type 0) → ((e : Entry) (item : Data) → P e → P (with_item e item)) → (h : Hearing) (ready : Bool) (d : Dealing) (vs : List Data) → AllByRecursion P d.row → AllByRecursion P (taken_each h ready d vs).row
values_all P one h ready d [] all = all
values_all P one h ready d (v ∷ vs) all = values_all P one h ready (taken h ready d v) vs (value_all P one h ready d v all)

-- so it is when bytes come
pub still_awaited : (h : Hearing) (link : LinkState) (piece : List ℕ) → AreAwaited link.row → AreAwaited (deals h false link piece).row
still_awaited h link piece all = values_all IsAwaited (λ e item is. is) h false (dealing_with link.row) (values (link.rest ++ piece)) all

-- what bytes leave
--
-- a link with this row, which has settled these messages
pub record IsReadOf (name : ℕ → Owner) (l : Ledger) (link : LinkState) (piece : List ℕ) (g : Came l (bytes_came l piece)) (row : List Entry) (out : List Settled) : Type 0 where
  pub deals : (let m = after_came l piece g in IsDealt name m.starts m.dealt (record { row = row; out = out; notices = []; strange = false }))
  pub new : AllByRecursion (IsNew name l.starts l.dealt (after_came l piece g).dealt) out
  pub tied : TiedLink name (after_came l piece g) (record (read_on link (link.rest ++ piece)) { row = row })

-- one that isn't set up behind them
pub record IsReadUnset (name : ℕ → Owner) (h : Hearing) (l : Ledger) (link : LinkState) (piece : List ℕ) (g : Came l (bytes_came l piece)) : Type 0 where
  pub of : (let d = deals h false link piece in IsReadOf name l link piece g d.row d.out)
  pub notices : (after_came l piece g).notices ≡ l.notices
  pub tame : (after_came l piece g).strange ≡ false

-- so it is with one message at most
pub unset_of : (name : ℕ → Owner) (h : Hearing) (l : Ledger) (link : LinkState) (piece : List ℕ) (g : Came l (bytes_came l piece)) → l.strange ≡ false → l.end ≡ None → length link.row ≤ 1 → SetUpsAre l → is_set_up (after_came l piece g) ≡ false → TiedLink name l link
    → IsReadUnset name h l link piece g
unset_of name h l link piece g tame lives few shaped unset tied =
    let m = after_came l piece g in
    let is = after_is l piece g in
    let vs = values (link.rest ++ piece) in
    let d = deals h false link piece in
    let n = deals hearing.Nothing false link piece in
    let same = few_same h hearing.Nothing link.row vs few in
    let unset_so : is_set_up (has_heard l piece) ≡ false = ap is_set_up is ∙ unset in
    let unset_read : is_set_up (values_came (reading l piece) vs) ≡ false = subst (λ (bs : List ℕ). is_set_up (values_came (reading l piece) (values (bs ++ piece))) ≡ false) tied.rest unset_so in
    let r : ReadsUnset name l n.row n.out piece = unset_reads name false l link piece tame lives shaped unset_so tied in
    let alike : ReadsAlike hearing.Nothing false l link piece = record { tame = tame; each = unset_take false (reading l piece) (dealing_with link.row) vs shaped unset_read } in
    let q : IsReadOf name l link piece g n.row n.out = record {
      deals = subst (λ (x : Ledger). IsDealt name x.starts x.dealt (record { row = n.row; out = n.out; notices = []; strange = false })) is r.deals;
      new = subst (λ (x : Ledger). AllByRecursion (IsNew name l.starts l.dealt x.dealt) n.out) is (read_new name hearing.Nothing false l link piece lives alike tied);
      tied = subst (λ (x : Ledger). TiedLink name x (record (read_on link (link.rest ++ piece)) { row = n.row })) is (unset_tied name l link n.row n.out piece r tied);
    } in
    record {
      of = subst (λ (row : List Entry). IsReadOf name l link piece g row d.out) (sym same.0) (subst (λ (out : List Settled). IsReadOf name l link piece g n.row out) (sym same.1) q);
      notices = ap (λ (x : Ledger). x.notices) (sym is) ∙ r.notices;
      tame = ap (λ (x : Ledger). x.strange) (sym is) ∙ r.tame;
    }

-- one that is
pub record IsReadSet (name : ℕ → Owner) (h : Hearing) (l : Ledger) (link : LinkState) (piece : List ℕ) (g : Came l (bytes_came l piece)) : Type 0 where
  pub of : (let d = deals h false link piece in IsReadOf name l link piece g d.row d.out)
  pub taken : IsTaken name l.notices (after_came l piece g) (deals h false link piece)

-- so it is where it reads as its ledger does
set_of : (name : ℕ → Owner) (h : Hearing) (l : Ledger) (link : LinkState) (piece : List ℕ) (g : Came l (bytes_came l piece)) → l.end ≡ None → ReadsAlike h false l link piece → TiedLink name l link → IsReadSet name h l link piece g
set_of name h l link piece g lives alike tied =
    let is = after_is l piece g in
    let d = deals h false link piece in
    let t : IsTaken name l.notices (after_came l piece g) d = subst (λ (x : Ledger). IsTaken name l.notices x d) is (read_taken name h false l link piece lives alike tied) in
    record {
      of = record {
        deals = record { row = t.deals.row; within = t.deals.within; cuts = t.deals.cuts };
        new = subst (λ (x : Ledger). AllByRecursion (IsNew name l.starts l.dealt x.dealt) d.out) is (read_new name h false l link piece lives alike tied);
        tied = subst (λ (x : Ledger). TiedLink name x (record (read_on link (link.rest ++ piece)) { row = d.row })) is (read_tied name h false l link piece lives alike tied);
      };
      taken = t;
    }

-- a greeting that is to start still
--
-- nothing is dealt
none_dealt : (name : ℕ → Owner) (l : Ledger) (link : LinkState) (piece : List ℕ) (g : Came l (bytes_came l piece)) → l.end ≡ None → link.row ≡ [] → TiedLink name l link → (after_came l piece g).dealt ≡ l.dealt
none_dealt name l link piece g lives row tied =
    let m = after_came l piece g in
    let far = no_rows l.starts l.dealt (sym (tied.row lives) ∙ ap (open_list name) row) in
    let few : FewAreDealt m = subst FewAreDealt (after_is l piece g) (bytes_keep FewAreDealt few_value l piece tied.within) in
    let same : reach l.starts m.dealt ≡ reach l.starts l.dealt = reach_alike l.starts m.dealt l.dealt in
    let long : length m.dealt ≡ length l.dealt + length g.more = length-append l.dealt g.more in
    let none : g.more ≡ [] = nil_from_length g.more (let zero_is : length g.more ≡ 0 = omega (arith, far, few, same, long) in zero_is) in
    ap (λ (xs : List Data). l.dealt ++ xs) none ∙ append-nil l.dealt

-- so its ledger has come as far
pub due_same : (name : ℕ → Owner) (l : Ledger) (link : LinkState) (piece : List ℕ) (g : Came l (bytes_came l piece)) → l.end ≡ None → link.row ≡ [] → TiedLink name l link → SameSaid l (after_came l piece g)
due_same name l link piece g lives row tied = record { starts = refl; dealt = none_dealt name l link piece g lives row tied; info = refl; hearing = refl; wanted = refl; given = refl }

-- a greeting that isn't answered
--
-- it is the last that started, and takes items still
pub record IsLast (l : Ledger) (link : LinkState) : Type 0 where
  pub k : ℕ
  pub long : length l.starts ≡ suc k
  pub earlier : (j : ℕ) → j < k → is_full l j ≡ true
  pub open_is : is_full l k ≡ false
  pub queue : link.queue ≡ []
  pub awaited : AllByRecursion (λ (e : Entry). e.awaited ≡ true) link.row

-- it is in the row
some_row : (name : ℕ → Owner) (l : Ledger) (link : LinkState) → l.end ≡ None → IsLast l link → TiedLink name l link → link.row ≢ []
some_row name l link lives s tied none =
    let far = no_rows l.starts l.dealt (sym (tied.row lives) ∙ ap (open_list name) none) in
    not_both (is_full l s.k) s.open_is (all_full l s.k s.long far)

-- alone
pub few_rows : (name : ℕ → Owner) (l : Ledger) (link : LinkState) → l.end ≡ None → IsLast l link → TiedLink name l link → length link.row ≤ 1
few_rows name l link lives s tied = few_open name l link s.k lives (record { long = s.long; earlier = s.earlier }) tied

-- where it sets the link up, and has its items behind the bytes, they are read as by the ledger
pub sets_of : (name : ℕ → Owner) (h : Hearing) (l : Ledger) (link : LinkState) (piece : List ℕ) (g : Came l (bytes_came l piece)) (s : IsLast l link) → l.hearing ≡ h → l.strange ≡ false → l.end ≡ None → SetBy l (bytes_came l piece) s.k → TiedLink name l link → IsReadSet name h l link piece g
sets_of name h l link piece g s is tame lives sets tied =
    let m = reading l piece in
    let vs = values (link.rest ++ piece) in
    let sets_read : SetBy m (values_came m vs) s.k = subst (λ (bs : List ℕ). SetBy m (values_came m (values (bs ++ piece))) s.k) tied.rest (λ y came later. sets y (came_on l m y (reading_came l piece) came) later) in
    let asked = one_asked link.row (few_rows name l link lives s tied) s.awaited (some_row name l link lives s tied) in
    set_of name h l link piece g lives (record {
      tame = tame;
      each = greeted_take name l.notices h m (dealing_with link.row) vs s.k is s.long sets_read asked (none_taken name m link.row (tied.row lives) tied.within tame);
    }) tied

-- where it has its items its row is empty
pub full_row : (name : ℕ → Owner) (l : Ledger) (link : LinkState) (piece : List ℕ) (g : Came l (bytes_came l piece)) (row : List Entry) (out : List Settled) (s : IsLast l link) → IsReadOf name l link piece g row out → is_full (after_came l piece g) s.k ≡ true → row ≡ []
full_row name l link piece g row out s r full =
    let m = after_came l piece g in
    no_entries name row (r.deals.row ∙ rows_full m.starts m.dealt (full_last m s.k s.long full))

-- and it is settled
pub full_settled : (name : ℕ → Owner) (h : Hearing) (l : Ledger) (link : LinkState) (piece : List ℕ) (g : Came l (bytes_came l piece)) (s : IsLast l link) → l.end ≡ None → (let d = deals h false link piece in IsReadOf name l link piece g d.row d.out) → TiedLink name l link
    → is_full (after_came l piece g) s.k ≡ true → (deals h false link piece).out ≢ []
full_settled name h l link piece g s lives r tied full none =
    let d = deals h false link piece in
    let row : d.row ≡ [] = full_row name l link piece g d.row d.out s r full in
    let kept = taken_keeps h false (dealing_with link.row) (values (link.rest ++ piece)) in
    let wants : wanted link.row ≡ [] = sym kept ∙ (λ i. settled_ids (none i) ++ wanted (row i)) in
    some_row name l link lives s tied (awaited_wanted link.row s.awaited wants)

-- so where nothing is settled it isn't answered still
pub open_still : (name : ℕ → Owner) (h : Hearing) (l : Ledger) (link : LinkState) (piece : List ℕ) (g : Came l (bytes_came l piece)) (s : IsLast l link) → l.end ≡ None → (let d = deals h false link piece in IsReadOf name l link piece g d.row d.out) → TiedLink name l link → (deals h false link piece).out ≡ []
    → is_full (after_came l piece g) s.k ≡ false
open_still name h l link piece g s lives r tied none =
    by_test (is_full (after_came l piece g) s.k) _ (λ t. absurd (full_settled name h l link piece g s lives r tied t none)) (λ f. f)

-- what it was before stays full
pub still_full : (l : Ledger) (link : LinkState) (piece : List ℕ) (g : Came l (bytes_came l piece)) (s : IsLast l link) (j : ℕ) → j < s.k → is_full (after_came l piece g) j ≡ true
still_full l link piece g s j less = ap (λ (x : Ledger). is_full x j) (sym (after_is l piece g)) ∙ full_still l piece j (s.earlier j less)

-- what is settled is that message
--
-- which has its items, and this verdict by its shape
pub record IsAnswer (m : Ledger) (k : ℕ) (x : Settled) : Type 0 where
  pub full : is_full m k ≡ true
  pub start : Start
  pub at : slice_get m.starts k ≡ Some start
  pub verdict_is : x.verdict ≡ verdict_of start.shape (cut m k start.shape)

-- so it is of the first that is settled
pub settled_last : (name : ℕ → Owner) (l : Ledger) (link : LinkState) (piece : List ℕ) (g : Came l (bytes_came l piece)) (row : List Entry) (x : Settled) (xs out : List Settled) (s : IsLast l link) → IsReadOf name l link piece g row out → out ≡ x ∷ xs → IsAnswer (after_came l piece g) s.k x
settled_last name l link piece g row x xs out s r is =
    let m = after_came l piece g in
    let h = (subst (AllByRecursion (IsNew name l.starts l.dealt m.dealt)) is r.new).0 in
    let c = h.cut.cut in
    let n = c.number in
    let within = get_within l.starts n c.place.start c.place.stands in
    let late = h.late in
    let long = s.long in
    let one : suc n ≡ n + 1 = omega arith in
    let same : n ≡ s.k = by_test (nat_lt n s.k) (n ≡ s.k)
    (λ t.
    let full = le_from (reach (take (n + 1) l.starts) l.dealt) (length l.dealt) (s.earlier n (lt_so n s.k t)) in
    let next : reach (take (suc n) l.starts) l.dealt ≡ reach (take (n + 1) l.starts) l.dealt = ap (λ i. reach (take i l.starts) l.dealt) one in
    absurd (omega (arith, late, full, next)))
    (λ f. let no_less = not_lt_so n s.k f in omega (arith, within, long, no_less)) in
    let shaped : h.cut.of_shape ≡ c.place.start.shape = sym c.place.shaped in
    record {
      full = is_full_from m s.k (subst (λ i. reach (take (suc i) l.starts) m.dealt ≤ length m.dealt) same c.full);
      start = c.place.start;
      at = subst (λ i. slice_get l.starts i ≡ Some c.place.start) same c.place.stands;
      verdict_is = h.cut.verdict_is ∙ (λ i. verdict_of (shaped i) ((c.cut_is ∙ (λ j. cut_at l.starts m.dealt (same j) (shaped j))) i));
    }
  where
    lt_so : (a b : ℕ) → nat_lt a b ≡ true → a < b
    lt_so a b t = lt_from a b t

    not_lt_so : (a b : ℕ) → nat_lt a b ≡ false → b ≤ a
    not_lt_so a b f = not_lt_from a b f

-- a setup
--
-- it is one
abbrev pub sent_last : (l : Ledger) (link : LinkState) (greeting : Greeting) → IsSettingUp l link greeting → (s : IsSetupSent l link greeting) → IsLast l link
sent_last l link greeting h s = record { k = s.k; long = count_length l.starts (setup_count l.starts) h.alone ∙ s.count; earlier = s.earlier; open_is = s.open_is; queue = s.queue; awaited = h.awaited }

-- a setup that is answered
pub record IsAnswered (l : Ledger) (greeting : Greeting) (k : ℕ) (x : Settled) : Type 0 where
  pub count : setup_count l.starts ≡ suc k
  pub user : greeting ≡ greeting_at k
  pub full : is_full l k ≡ true
  pub verdict_is : x.verdict ≡ verdict.Many (cut l k (setup_shape (setup_steps l k)))

-- so it is
pub reads_answered : (l : Ledger) (link : LinkState) (greeting : Greeting) (piece : List ℕ) (g : Came l (bytes_came l piece)) (x : Settled) → AreSetups l → (s : IsSetupSent l link greeting) → IsAnswer (after_came l piece g) s.k x → IsAnswered (after_came l piece g) greeting s.k x
reads_answered l link greeting piece g x sents s a =
    let m = after_came l piece g in
    let shaped : a.start.shape ≡ setup_shape (setup_steps l s.k) = (sents s.k a.start (let count = s.count in omega arith) a.at).1 in
    record {
      count = s.count;
      user = s.user;
      full = a.full;
      verdict_is = a.verdict_is ∙ (λ i. verdict_of (shaped i) (cut m s.k (shaped i)));
    }

-- where something is said, and no credentials are waited for, the last of so many setups says what all come to
pub setup_last : (l : Ledger) (n : ℕ) → lacks_credentials l ≡ false → says_nothing (setup_steps l 0) ≡ false → setup_count l.starts ≡ n → setup_result l ≡ last_result l n
setup_last l n given says count = setup_said l given ∙ left_if (says_nothing (setup_steps l 0)) (Some result.Ready) (last_result l (setup_count l.starts)) says ∙ ap (last_result l) count

-- which setup has the user name
user_at : (k : ℕ) → has_user (greeting_at k) ≡ (k == 0)
user_at zero = refl
user_at (suc k) = sym (ne_test (suc k) 0 (λ same. absurd (omega (arith, same))))

-- what it comes to
pub answered_result : (l : Ledger) (greeting : Greeting) (k : ℕ) (x : Settled) (info : RedisConnectionInfo) → lacks_credentials l ≡ false → l.info ≡ info → says_nothing (setup_steps l 0) ≡ false → IsAnswered l greeting k x
    → setup_result l ≡ Some (judged_by (setup info (has_user greeting)) x.verdict)
answered_result l greeting k x info given is says h =
    let replies = cut l k (setup_shape (setup_steps l k)) in
    setup_last l (suc k) given says h.count
    ∙ taken_if (is_full l k) (Some (judged (setup_steps l k) replies)) None h.full
    ∙ ap (λ (i : RedisConnectionInfo). Some (judged (setup i (k == 0)) replies)) is
    ∙ ap (λ u. Some (judged (setup info u) replies)) (sym (user_at k) ∙ ap has_user (sym h.user))
    ∙ ap (λ v. Some (judged_by (setup info (has_user greeting)) v)) (sym h.verdict_is)

-- it is repeated only where it had the user name
pub repeats_first : (l : Ledger) (greeting : Greeting) (k : ℕ) (x : Settled) (info : RedisConnectionInfo) (h : IsAnswered l greeting k x) → judged_by (setup info (has_user greeting)) x.verdict ≡ result.RepeatWithoutUser → k ≡ 0
repeats_first l greeting k x info h e =
    by_test (k == 0) _
    (λ t. eq_from k 0 t)
    (λ f.
    let replies = cut l k (setup_shape (setup_steps l k)) in
    let unnamed : has_user greeting ≡ false = ap has_user h.user ∙ user_at k ∙ f in
    let none : judged (setup info false) replies ≡ result.RepeatWithoutUser = ap (λ u. judged (setup info u) replies) (sym unnamed) ∙ ap (judged_by (setup info (has_user greeting))) (sym h.verdict_is) ∙ e in
    absurd (judged_repeats (setup info false) replies (setup_no_user info) none))

-- setups alone set no link up on which the commands of a server are watched
pub alone_unset : (l : Ledger) → AreSetupsAlone l → is_watching l.hearing ≡ true → is_set_up l ≡ false
alone_unset l alone watches = unanswered_is_unset l None watches (alone_unwatched l.starts (setup_count l.starts) 0 alone) refl

-- so a link that is set up by one isn't such a link
pub set_unwatched : (l : Ledger) → AreSetupsAlone l → is_set_up l ≡ true → is_watching l.hearing ≡ false
set_unwatched l alone set = by_test (is_watching l.hearing) _ (λ t. absurd (not_both (is_set_up l) (alone_unset l alone t) set)) (λ f. f)

-- what is well has come to something
well_full : (l : Ledger) (k : ℕ) → is_well (result_of l k) ≡ true → is_full l k ≡ true
well_full l k well = by_test (is_full l k) _ (λ t. t) (λ f. absurd (let none : ◌≡◌ {A = Bool} false true = sym (ap is_well (left_if (is_full l k) _ None f)) ∙ well in cc))

-- the setup that sets a link up has its items
pub setup_full : (l : Ledger) (k : ℕ) → lacks_credentials l ≡ false → says_nothing (setup_steps l 0) ≡ false → setup_count l.starts ≡ suc k → is_set_up l ≡ true → is_full l k ≡ true
setup_full l k given says count set = well_full l k (sym (ap is_well (setup_last l (suc k) given says count)) ∙ set_is_greeted l set)

-- and so has MONITOR
pub watch_full : (l : Ledger) (k : ℕ) → is_watching l.hearing ≡ true → monitor_of l ≡ Some k → is_set_up l ≡ true → is_full l k ≡ true
watch_full l k watches sent set = by_test (is_full l k) _ (λ t. t) (λ f. absurd (not_both (is_set_up l) (unanswered_is_unset l (Some k) watches sent f) set))

-- MONITOR is the last message that started
abbrev pub watch_last : (l : Ledger) (link : LinkState) → IsWatching l link → (s : IsWatchSent l link) → IsLast l link
watch_last l link h s = record { k = s.k; long = s.long; earlier = s.earlier; open_is = s.open_is; queue = s.queue; awaited = h.awaited }

-- it sets the link up
pub watch_sets : (l : Ledger) (link : LinkState) (m : Ledger) → SetUpsAre l → IsWatching l link → (s : IsWatchSent l link) → SetBy l m s.k
watch_sets l link m shaped h s = monitor_sets l m s.k h.watches s.sent shaped h.greeted

-- what is settled of it is a value, which is well
pub watch_answered : (l : Ledger) (link : LinkState) (piece : List ℕ) (g : Came l (bytes_came l piece)) (x : Settled) (steps : List Step) → (s : IsWatchSent l link) → IsAnswer (after_came l piece g) s.k x → (judged_by steps x.verdict ≡ result.Ready)
watch_answered l link piece g x steps s a =
    let m = after_came l piece g in
    let shaped = s.shaped a.start a.at in
    ap (judged_by steps) (a.verdict_is ∙ (λ i. verdict_of (shaped i) (cut m s.k (shaped i))))
