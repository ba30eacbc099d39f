-- What a link tells is what its ledger hears, and each notice stands among the settled messages where it came.
use Rattle.std.proofs.Common.{◌≡◌, ℕ, zero, suc, ◌+◌, ◌<◌, ◌≤◌, ◌==◌, nat_le, nat_lt, Bool, true, false, not, List, [], ◌∷◌, ◌++◌, length, take, Option, Some, None, slice_get, refl, sym, ap, ◌∙◌, subst, arith, add-one}
use Rattle.std.specs.List.{AllByRecursion}
use Rattle.std.proofs.lemmas.List.{append-nil}
use Rattle.containers.proofs.Choices.{by_test, chosen, le_from, lt_from, not_lt_from}
use Rattle.resp_value.specs.Data.{Data, push, array, list_of}
use Rattle.resp_value.specs.Kinds.{has_reply, is_item}
use Rattle.resp_read.specs.Values.{values, left_over}
use Rattle.driver_model.specs.Push.{is_disconnection}
use Rattle.driver_model.specs.Hearing.{Taking, taking, as_message, array_taken, message_taken, message_of, message_named, is_answer_named, bulk_text, plain_text, answers, push_told, item_told}
use Rattle.driver_model.specs.declared.action.Owner.{Owner}
use Rattle.driver_model.specs.declared.hearing.Hearing.{Hearing}
use Rattle.driver_model.specs.declared.hearing.Hearing.TheVariants as hearing
use Rattle.driver_model.specs.declared.hearing.Notice.{Notice}
use Rattle.driver_model.specs.declared.hearing.Notice.TheVariants as notice
use Rattle.driver_model.specs.declared.msg.Msg.{Msg}
use Rattle.link_core.specs.declared.message.Entry.{Entry}
use Rattle.link_core.specs.declared.message.NoticeAt.{NoticeAt}
use Rattle.link_core.specs.declared.message.Settled.{Settled}
use Rattle.link_core.specs.Dealing.{Dealing, dealing_with, dealt, is_awaiting, is_set_up_in, noticed_behind, taking_in, taken_as, taken, taken_each}
use Rattle.link_core.specs.Link.{LinkState, read_on}
use Rattle.legal_trace.specs.Ledger.{Ledger, Start, Heard, full_count, is_full, is_set_up, reach, bytes_came, values_came}
use Rattle.legal_trace.proofs.Came.{Came, came_on}
use Rattle.legal_trace.proofs.Plain.{same_some}
use Rattle.legal_trace.proofs.Setups.{AreSetups, start_at}
pub use Rattle.link_laws.specs.Greetings.{IsBehind}
use Rattle.link_laws.specs.Notices.{SayTheSame, AreApart}
use Rattle.link_laws.proofs.Dealt.{IsDealt, all_append}
use Rattle.link_laws.proofs.PushKinds.{IsFromText, values_from_text}
use Rattle.link_laws.proofs.Rows.{open_rows, rows_length, unfilled}
use Rattle.link_laws.proofs.Settles.{full_owes}
use Rattle.link_laws.proofs.Started.{open_list_length}
use Rattle.link_laws.proofs.SetUp.{SetBy, StaysSetUp, few_same, greeted_take, nothing_told, set_take, settles_greeting, unset_take}
use Rattle.link_laws.proofs.Taken.{ApartFrom, AreAmong, IsTaken, item_tells, none_taken}
use Rattle.link_laws.proofs.TiedLink.{ReadsAlike, TiedLink, came_with, deals, has_heard, read_taken, reading}

-- where a notice stands, by a ledger with these starts and items
--
-- a place of both lists
place_apart : (place far : ℕ) (ps : List NoticeAt) (hs : List Heard) (i : ℕ) (p : NoticeAt) (h : Heard) → ApartFrom place far ps hs → slice_get ps i ≡ Some p → slice_get hs i ≡ Some h → nat_lt place p.settled ≡ nat_le far h.after
place_apart place far [] [] i p h all e f = cc
place_apart place far [] (k ∷ hs) i p h all e f = absurd all
place_apart place far (q ∷ ps) [] i p h all e f = absurd all
place_apart place far (q ∷ ps) (k ∷ hs) zero p h all e f = sym (ap (λ (x : NoticeAt). nat_lt place x.settled) (same_some q p e)) ∙ all.0 ∙ ap (λ (x : Heard). nat_le far x.after) (same_some k h f)
place_apart place far (q ∷ ps) (k ∷ hs) (suc i) p h all e f = place_apart place far ps hs i p h all.1 e f

-- who stands among the notices is owed what it settled, and stands before each exactly where it was full before
among_apart : (name : ℕ → Owner) (m : Ledger) (ps : List NoticeAt) (hs : List Heard) (place : ℕ) (out : List Settled) → AreAmong name m.starts m.dealt ps hs place out → AreApart name m ps hs place out
among_apart name m ps hs place [] all = tt
among_apart name m ps hs place (s ∷ out) all =
    let c = all.0.cut in
    let number = c.cut.number in (
      record {
        number = number;
        of_shape = c.of_shape;
        stands = c.cut.place;
        owes = full_owes m number c.of_shape c.got s.verdict c.cut.full c.cut.cut_is c.verdict_is;
        apart = λ i p h e f. place_apart place (reach (take (suc number) m.starts) m.dealt) ps hs i p h all.0.apart e f ∙ ap (λ n. nat_le (reach (take n m.starts) m.dealt) h.after) (sym (add-one number));
      },
      among_apart name m ps hs (suc place) out all.1,
    )

-- so do the settled messages of a link that has taken values, also where more is told of its ledger
pub stand_apart : (name : ℕ → Owner) (before : List Heard) (l m : Ledger) (d : Dealing) → m.starts ≡ l.starts → m.dealt ≡ l.dealt → (t : IsTaken name before l d) → AreApart name m d.notices t.heard 0 d.out
stand_apart name before l m d starts dealt_so t =
    among_apart name m d.notices t.heard 0 d.out
    (subst (λ (ss : List Start). AreAmong name ss m.dealt d.notices t.heard 0 d.out) (sym starts)
    (subst (λ (ds : List Data). AreAmong name l.starts ds d.notices t.heard 0 d.out) (sym dealt_so) t.among))

pub settles_apart : (name : ℕ → Owner) (before : List Heard) (l : Ledger) (d : Dealing) → (t : IsTaken name before l d) → AreApart name l d.notices t.heard 0 d.out
settles_apart name before l d t = stand_apart name before l l d refl refl t

-- a link that is set up reads on
--
-- what is left of bytes came
pub reading_came : (l : Ledger) (piece : List ℕ) → Came l (reading l piece)
reading_came l piece = record {
  rest = left_over (l.rest ++ piece);
  strange = l.strange;
  told = [];
  more = [];
  is = λ i. record l { rest = left_over (l.rest ++ piece); notices = sym (append-nil l.notices) i; dealt = sym (append-nil l.dealt) i };
}

-- it takes each value as its ledger does
pub set_reads : (h : Hearing) (l : Ledger) (s : LinkState) (piece : List ℕ) → l.hearing ≡ h → l.strange ≡ false → StaysSetUp l → ReadsAlike h true l s piece
set_reads h l s piece is tame stays = record {
  tame = tame;
  each = set_take h (reading l piece) (dealing_with s.row) (values (s.rest ++ piece)) is (λ m came. stays m (came_on l (reading l piece) m (reading_came l piece) came));
}

-- a link that is being set up reads on
--
-- the last message that started; those before it have all their items
pub record IsLastStart (l : Ledger) (k : ℕ) : Type 0 where
  pub long : length l.starts ≡ suc k
  pub earlier : (j : ℕ) → j < k → is_full l j ≡ true

-- so its row has that alone, or is empty
pub few_open : (name : ℕ → Owner) (l : Ledger) (s : LinkState) (k : ℕ) → l.end ≡ None → IsLastStart l k → TiedLink name l s → length s.row ≤ 1
few_open name l s k lives last h =
    let n = full_count l.starts l.dealt in
    let before : n < k → ⊥ = (λ less.
    let start = start_at l.starts n (omega (arith, last.long)) in
    let open_is = unfilled l.starts l.dealt n start.0 start.1 (omega arith) in
    let full : reach (take (n + 1) l.starts) l.dealt ≤ length l.dealt = le_from _ _ (last.earlier n less) in
    let same : reach (take (n + 1) l.starts) l.dealt ≡ reach (take (suc n) l.starts) l.dealt = ap (λ m. reach (take m l.starts) l.dealt) (add-one n) in
    omega (arith, open_is, full, same)) in
    let late : k ≤ n = by_test (nat_lt n k) _ (λ t. absurd (before (lt_from n k t))) (λ f. not_lt_from n k f) in
    let long : length s.row ≡ length (open_rows l.starts l.dealt) = sym (open_list_length name s.row) ∙ ap length (h.row lives) in
    omega (arith, late, long, last.long, rows_length l.starts l.dealt)

-- where its last message sets it up, and these bytes settle that, it takes each value as its ledger does
pub greeted_reads : (name : ℕ → Owner) (h : Hearing) (l : Ledger) (s : LinkState) (piece : List ℕ) (k : ℕ) (x : Settled) (xs : List Settled) → l.hearing ≡ h → l.strange ≡ false → l.end ≡ None → IsLastStart l k → SetBy l (bytes_came l piece) k → TiedLink name l s
    → (deals h false s piece).out ≡ x ∷ xs → ReadsAlike h false l s piece
greeted_reads name h l s piece k x xs is tame lives last sets tied settled =
    let m = reading l piece in
    let vs = values (s.rest ++ piece) in
    let sets_read : SetBy m (values_came m vs) k = subst (λ (bs : List ℕ). SetBy m (values_came m (values (bs ++ piece))) k) tied.rest
    (λ y came later. sets y (came_on l m y (reading_came l piece) came) later) in
    record {
      tame = tame;
      each = greeted_take name l.notices h m (dealing_with s.row) vs k is last.long sets_read (settles_greeting h s.row vs x xs (few_open name l s k lives last tied) settled)
          (none_taken name m s.row (tied.row lives) tied.within tame);
    }

-- what is told there stands behind the first settled message
--
-- with one value
one_behind : (h : Hearing) (d : Dealing) (v : Data) → AllByRecursion IsBehind d.notices → AllByRecursion IsBehind (taken h false d v).notices
one_behind h d v all =
    let n = length d.out in
    let t = taking_in h false d v in
    let m : Dealing = record d { notices = d.notices ++ noticed_behind n t.told; strange = t.ends } in
    let told : AllByRecursion IsBehind (noticed_behind n t.told) =
    by_test (n == 0) _
    (λ z. ap_all (λ (b : Bool). noticed_behind n (taking h (not b) (is_awaiting d.row) v).told) z tt)
    (λ f. told_behind n t.told f) in
    let more : AllByRecursion IsBehind m.notices = all_append IsBehind d.notices (noticed_behind n t.told) all told in
    chosen (λ (x : Dealing). AllByRecursion IsBehind x.notices) d.strange d (taken_as d t v)
    (λ y. all)
    (λ y. chosen (λ (x : Dealing). AllByRecursion IsBehind x.notices) t.dealt (dealt m v) m
    (λ z. subst (AllByRecursion IsBehind) (sym (item_tells m v d.row).0) more)
    (λ z. more))
  where
    ap_all : (f : Bool → List NoticeAt) → {b : Bool} → b ≡ true → AllByRecursion IsBehind (f true) → AllByRecursion IsBehind (f b)
    ap_all f e all = subst (λ (x : Bool). AllByRecursion IsBehind (f x)) (sym e) all

    told_behind : (n : ℕ) (o : Option Notice) → (n == 0) ≡ false → AllByRecursion IsBehind (noticed_behind n o)
    told_behind n None f = tt
    told_behind n (Some what) f = (f, tt)

-- and with several
all_behind : (h : Hearing) (d : Dealing) (vs : List Data) → AllByRecursion IsBehind d.notices → AllByRecursion IsBehind (taken_each h false d vs).notices
all_behind h d [] all = all
all_behind h d (v ∷ vs) all = all_behind h (taken h false d v) vs (one_behind h d v all)

-- so in bytes
pub reads_behind : (h : Hearing) (s : LinkState) (piece : List ℕ) → AllByRecursion IsBehind (deals h false s piece).notices
reads_behind h s piece = all_behind h (dealing_with s.row) (values (s.rest ++ piece)) tt

-- a link that isn't set up behind these bytes
--
-- what it takes is what one takes on which nobody hears anything, and its ledger hears nothing
pub record ReadsUnset (name : ℕ → Owner) (l : Ledger) (row : List Entry) (out : List Settled) (piece : List ℕ) : Type 0 where
  pub deals : (let m = has_heard l piece in IsDealt name m.starts m.dealt (record { row = row; out = out; notices = []; strange = false }))
  pub notices : (has_heard l piece).notices ≡ l.notices
  pub tame : (has_heard l piece).strange ≡ false

-- where nobody hears anything
pub unset_reads : (name : ℕ → Owner) (ready : Bool) (l : Ledger) (s : LinkState) (piece : List ℕ) → l.strange ≡ false → l.end ≡ None → AreSetups l → is_set_up (has_heard l piece) ≡ false → TiedLink name l s
    → (let d = deals hearing.Nothing ready s piece in ReadsUnset name l d.row d.out piece)
unset_reads name ready l s piece tame lives shaped unset tied =
    let vs = values (s.rest ++ piece) in
    let m = reading l piece in
    let d = deals hearing.Nothing ready s piece in
    let unset_read : is_set_up (values_came m vs) ≡ false = subst (λ (bs : List ℕ). is_set_up (values_came m (values (bs ++ piece))) ≡ false) tied.rest unset in
    let t = read_taken name hearing.Nothing ready l s piece lives (record { tame = tame; each = unset_take ready m (dealing_with s.row) vs shaped unset_read }) tied in
    let quiet = nothing_told ready (dealing_with s.row) vs refl refl in
    record {
      deals = record { row = t.deals.row; within = t.deals.within; cuts = t.deals.cuts };
      notices = t.notices ∙ ap (λ (hs : List Heard). l.notices ++ hs) (none_said t.heard (subst (λ (ps : List NoticeAt). SayTheSame ps t.heard) quiet.0 t.same)) ∙ append-nil l.notices;
      tame = t.strange ∙ quiet.1;
    }
  where
    none_said : (hs : List Heard) → SayTheSame [] hs → hs ≡ []
    none_said [] same = refl
    none_said (h ∷ hs) same = absurd same

-- and on a link of which the last message isn't answered, or isn't answered well, whatever is heard
pub ungreeted_reads : (name : ℕ → Owner) (h : Hearing) (l : Ledger) (s : LinkState) (piece : List ℕ) (k : ℕ) → l.strange ≡ false → l.end ≡ None → IsLastStart l k → AreSetups l → is_set_up (has_heard l piece) ≡ false → TiedLink name l s
    → (let d = deals h false s piece in ReadsUnset name l d.row d.out piece)
ungreeted_reads name h l s piece k tame lives last shaped unset tied =
    let same = few_same h hearing.Nothing s.row (values (s.rest ++ piece)) (few_open name l s k lives last tied) in
    let r = unset_reads name false l s piece tame lives shaped unset tied in
    subst (λ (row : List Entry). ReadsUnset name l row (deals h false s piece).out piece) (sym same.0)
    (subst (λ (out : List Settled). ReadsUnset name l (deals hearing.Nothing false s piece).row out piece) (sym same.1) r)

-- so its link is tied to its ledger
pub unset_tied : (name : ℕ → Owner) (l : Ledger) (s : LinkState) (row : List Entry) (out : List Settled) (piece : List ℕ) → ReadsUnset name l row out piece → TiedLink name l s → TiedLink name (has_heard l piece) (record (read_on s (s.rest ++ piece)) { row = row })
unset_tied name l s row out piece r tied = came_with name l s piece row r.deals.within r.deals.row tied

-- no push that is read tells that a link has ended
--
abbrev pub IsNoEnd : Notice → Type 0
IsNoEnd (notice.Push info) = is_disconnection info.kind ≡ false
IsNoEnd (notice.Message m) = Unit {0}
IsNoEnd (notice.Monitor v) = Unit {0}

-- so of what is told, if anything is
abbrev IfTold : Option Notice → Type 0
IfTold None = Unit {0}
IfTold (Some n) = IsNoEnd n

message_tells : (o : Option Msg) → IfTold (as_message o).told
message_tells None = tt
message_tells (Some m) = tt

array_tells : (ds : List Data) → IfTold (array_taken ds).told
array_tells [] = tt
array_tells (d ∷ ds) =
    let m = message_named (plain_text d) ds in
    chosen (λ (t : Taking). IfTold t.told) (is_answer_named (bulk_text d)) answers (as_message m) (λ y. tt) (λ n. message_tells m)

messages_tell : (awaited : Bool) (v : Data) → IfTold (message_taken awaited v).told
messages_tell awaited (array ds) = array_tells (list_of ds)
messages_tell awaited (push k parts) =
    let m = message_of k (list_of parts) in
    chosen (λ (t : Taking). IfTold t.told) (has_reply k) answers (as_message m) (λ y. tt) (λ n. message_tells m)
messages_tell true _ = tt
messages_tell false _ = tt

push_tells : (v : Data) → IsFromText v → IfTold (push_told v)
push_tells (push k parts) text = text
push_tells _ text = tt

item_heard : (v : Data) → IfTold (item_told v)
item_heard v = chosen IfTold (is_item v) _ None (λ t. tt) (λ f. tt)

-- of a value that is read
value_tells : (h : Hearing) (set awaited : Bool) (v : Data) → IsFromText v → IfTold (taking h set awaited v).told
value_tells h false awaited v text = tt
value_tells hearing.Nothing true awaited v text = tt
value_tells hearing.Pushes true awaited v text = push_tells v text
value_tells hearing.Messages true awaited v text = messages_tell awaited v
value_tells hearing.Monitor true awaited v text = item_heard v

-- what is told of values is no such push
abbrev pub TellsNoEnd : NoticeAt → Type 0
TellsNoEnd p = IsNoEnd p.notice

one_tells : (h : Hearing) (ready : Bool) (d : Dealing) (v : Data) → IsFromText v → AllByRecursion TellsNoEnd d.notices → AllByRecursion TellsNoEnd (taken h ready d v).notices
one_tells h ready d v text all =
    let n = length d.out in
    let t = taking_in h ready d v in
    let m : Dealing = record d { notices = d.notices ++ noticed_behind n t.told; strange = t.ends } in
    let more : AllByRecursion TellsNoEnd m.notices = all_append TellsNoEnd d.notices (noticed_behind n t.told) all (told_so n t.told (value_tells h (is_set_up_in ready d) (is_awaiting d.row) v text)) in
    chosen (λ (x : Dealing). AllByRecursion TellsNoEnd x.notices) d.strange d (taken_as d t v)
    (λ y. all)
    (λ y. chosen (λ (x : Dealing). AllByRecursion TellsNoEnd x.notices) t.dealt (dealt m v) m
    (λ z. subst (AllByRecursion TellsNoEnd) (sym (item_tells m v d.row).0) more)
    (λ z. more))
  where
    told_so : (n : ℕ) (o : Option Notice) → IfTold o → AllByRecursion TellsNoEnd (noticed_behind n o)
    told_so n None h = tt
    told_so n (Some what) h = (h, tt)

all_tell : (h : Hearing) (ready : Bool) (d : Dealing) (vs : List Data) → AllByRecursion IsFromText vs → AllByRecursion TellsNoEnd d.notices → AllByRecursion TellsNoEnd (taken_each h ready d vs).notices
all_tell h ready d [] texts all = all
all_tell h ready d (v ∷ vs) texts all = all_tell h ready (taken h ready d v) vs texts.1 (one_tells h ready d v texts.0 all)

-- so of what a link tells
pub reads_tell : (h : Hearing) (ready : Bool) (s : LinkState) (piece : List ℕ) → AllByRecursion TellsNoEnd (deals h ready s piece).notices
reads_tell h ready s piece = all_tell h ready (dealing_with s.row) (values (s.rest ++ piece)) (values_from_text (s.rest ++ piece)) tt

-- and of what its ledger hears, which says the same
pub heard_kinds : (ps : List NoticeAt) (hs : List Heard) → SayTheSame ps hs → AllByRecursion TellsNoEnd ps → AllByRecursion (λ (h : Heard). IsNoEnd h.what) hs
heard_kinds [] [] same all = tt
heard_kinds [] (h ∷ hs) same all = absurd same
heard_kinds (p ∷ ps) [] same all = absurd same
heard_kinds (p ∷ ps) (h ∷ hs) same all = (subst IsNoEnd same.0 all.0, heard_kinds ps hs same.1 all.1)
