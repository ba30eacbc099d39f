-- The notices that came are told, each behind as many of the messages that were settled as it came behind.
use Rattle.std.proofs.Common.{◌≡◌, inl, inr, ℕ, zero, suc, ◌+◌, ◌≤◌, nat_le, nat_lt, Bool, true, false, if◌then◌else◌, List, [], ◌∷◌, ◌++◌, length, drop, Option, Some, slice_get, refl, sym, ap, ◌∙◌, subst, arith}
use Rattle.std.specs.List.{AllByRecursion}
use Rattle.containers.proofs.Choices.{by_test, chosen, le_from, le_test, lt_from, not_both}
use Rattle.driver_model.specs.declared.action.Owner.{Owner}
use Rattle.driver_model.specs.declared.action.Owner.TheVariants as owner
use Rattle.driver_model.specs.declared.outcome.Shape.{Shape}
use Rattle.link_core.specs.declared.message.NoticeAt.{NoticeAt}
use Rattle.link_core.specs.declared.message.Settled.{Settled}
use Rattle.link_laws.specs.Notices.{AreApart}
use Rattle.link_laws.specs.Settles.{StandsAs, settled_ids}
use Rattle.mux_conn.specs.declared.request.Request.{Request}
use Rattle.mux_conn.specs.Connection.{Work}
use Rattle.mux_conn.specs.Effects.{noticed, told_each, settled_one}
use Rattle.mux_conn.specs.Requests.{name_at}
use Rattle.legal_trace.specs.Ledger.{Ledger, Heard, Line, is_full, is_full_by, noted, parts, reached, tells}
use Rattle.legal_trace.specs.Owed.{owed_to_message, owed_waiting}
use Rattle.conn_laws.proofs.Ties.Numbers.{IsIn, in_either, in_left, requests_in, request_of, is_own}
use Rattle.conn_laws.proofs.Ties.Tied.{owner_of, own_owner}
use Rattle.conn_laws.proofs.Links.Said.{readied}
use Rattle.conn_laws.proofs.Links.Told.{retells}
use Rattle.conn_laws.proofs.Requests.Settle.{leaves_all, leaves_on, Leaves, settled_leaves, one_leaves}
use Rattle.driver_model.specs.declared.hearing.Notice.{Notice}
use Rattle.link_laws.proofs.Notices.{IsNoEnd}

-- the first of what is behind so many
--
-- is the next, and the others are behind it
pub record IsNextOf (n : ℕ) (hs : List Heard) (h : Heard) (rest : List Heard) : Type 0 where
  pub within : n + 1 ≤ length hs
  pub behind : drop (n + 1) hs ≡ rest
  pub next : slice_get hs n ≡ Some h

-- so it is
pub next_of : (n : ℕ) (hs : List Heard) (h : Heard) (rest : List Heard) → drop n hs ≡ h ∷ rest → IsNextOf n hs h rest
next_of zero [] h rest e = cc
next_of zero (x ∷ xs) h rest e = record { within = omega arith; behind = cc; next = cc }
next_of (suc n) [] h rest e = cc
next_of (suc n) (x ∷ xs) h rest e = let r = next_of n xs h rest e in record { within = (let w = r.within in omega arith); behind = (let e : suc n + 1 ≡ suc (n + 1) = omega arith in ap (λ m. drop m (x ∷ xs)) e ∙ r.behind); next = r.next }

-- those whose message was not full before a notice came
--
-- what started as this number
pub record IsLate (l : Ledger) (name : ℕ → Owner) (push : Heard) (p : ℕ) : Type 0 where
  pub number : ℕ
  pub of_shape : Shape
  pub stands : StandsAs l.starts (name p) of_shape number
  pub late : is_full_by l push.after number ≡ false

-- what takes items still
pub takes_late : (l : Ledger) (push : Heard) (k : ℕ) → push.after ≤ length l.dealt → is_full l k ≡ false → is_full_by l push.after k ≡ false
takes_late l push k within open_is = by_test (is_full_by l push.after k) _
    (λ t. absurd (not_both (is_full l k) open_is (let far = le_from (reached l (k + 1)) push.after t in le_test (reached l (k + 1)) (length l.dealt) (omega arith))))
    (λ f. f)

-- one whose message was full before it
pub record IsOnTime (l : Ledger) (name : ℕ → Owner) (push : Heard) (p : ℕ) : Type 0 where
  pub number : ℕ
  pub of_shape : Shape
  pub stands : StandsAs l.starts (name p) of_shape number
  pub full : is_full_by l push.after number ≡ true

-- the same notice
pub same_push : (x y : Heard) → ◌≡◌ {A = Option Heard} (Some x) (Some y) → x ≡ y
same_push x y e = cc

-- telling
--
-- whose message that of a number is, where requests have these names
abbrev pub try_of : (ℕ → ℕ) → ℕ → Owner
try_of name p = if is_own p then own_owner p else owner.Try (name p) 0

-- what stands so in the ledger does so now
pub late_now : (l now : Ledger) (told : ℕ) (name : ℕ → ℕ) (requests : List Request) (push : Heard) (p : ℕ) → now ≡ retells l told l.parted → name_at requests p ≡ name p → IsLate l (try_of name) push p → IsLate now (owner_of requests) push p
late_now l now told name requests push p is named d =
    subst (λ (x : Ledger). IsLate x (owner_of requests) push p) (sym is)
    (record { number = d.number; of_shape = d.of_shape; stands = subst (λ n. StandsAs l.starts (if is_own p then own_owner p else owner.Try n 0) d.of_shape d.number) (sym named) d.stands; late = d.late })

-- a notice that came
--
-- tells no end, and came behind no more items than there are
pub record IsHeard (l : Ledger) (h : Heard) : Type 0 where
  pub kind_is : IsNoEnd h.what
  pub within : h.after ≤ length l.dealt

-- also where one source more is known
pub heard_readied : (more : Bool) (l : Ledger) (hs : List Heard) → AllByRecursion (IsHeard l) hs → AllByRecursion (IsHeard (readied more l)) hs
heard_readied more l [] all = tt
heard_readied more l (h ∷ hs) all = (record { kind_is = all.0.kind_is; within = all.0.within }, heard_readied more l hs all.1)

-- a line that leaves what messages are owed
pub record LeavesOwed (line : Line) : Type 0 where
  pub message : (x : Ledger) (n : ℕ) (of_shape : Shape) → owed_to_message (noted x line) n of_shape ≡ owed_to_message x n of_shape
  pub unstarted : (shut : Bool) (x : Ledger) → owed_waiting shut (noted x line) ≡ owed_waiting shut x

-- as a notice does
pub push_leaves_owed : (is : Bool) → LeavesOwed (if is then parts else tells)
push_leaves_owed true = record { message = λ x n of_shape. refl; unstarted = λ shut x. refl }
push_leaves_owed false = record { message = λ x n of_shape. refl; unstarted = λ shut x. refl }

-- an answer between
--
-- a request's number among these
pub of_requests : (q : ℕ) (ids : List ℕ) → IsIn q (requests_in ids ++ []) → IsIn q (ids ++ [])
of_requests q ids i = elim (in_either q (requests_in ids) [] i) [ inl j ↦ in_left q ids [] (request_of q ids j) | inr none ↦ absurd none ]

-- all of them
--
-- each that stands from this place on was not full before a notice that came at or before it
pub behind_in : (name : ℕ → ℕ) (l : Ledger) (p : NoticeAt) (ps : List NoticeAt) (h : Heard) (hs : List Heard) (n j : ℕ) (ss : List Settled) → p.settled ≤ n → n ≤ j → AreApart (try_of name) l (p ∷ ps) (h ∷ hs) j ss → (q : ℕ) → IsIn q (settled_ids ss ++ []) → IsLate l (try_of name) h q
behind_in name l p ps h hs n j [] early behind all q i = absurd i
behind_in name l p ps h hs n j (s ∷ ss) early behind all q (inl same) = record {
  number = all.0.number;
  of_shape = all.0.of_shape;
  stands = subst (λ m. StandsAs l.starts (try_of name m) all.0.of_shape all.0.number) same all.0.stands;
  late = sym (all.0.apart 0 p h refl refl) ∙ not_below j p.settled (omega arith);
}
  where
    not_below : (a b : ℕ) → b ≤ a → nat_lt a b ≡ false
    not_below a b within = by_test (nat_lt a b) _ (λ t. absurd (let less = lt_from a b t in omega arith)) (λ f. f)
behind_in name l p ps h hs n j (s ∷ ss) early behind all q (inr i) = behind_in name l p ps h hs n (suc j) ss early (omega arith) all.1 q i

-- behind the first notice they stand as they did
pub apart_rest : (name : ℕ → Owner) (l : Ledger) (p : NoticeAt) (ps : List NoticeAt) (h : Heard) (hs : List Heard) (j : ℕ) (ss : List Settled) → AreApart name l (p ∷ ps) (h ∷ hs) j ss → AreApart name l ps hs j ss
apart_rest name l p ps h hs j [] all = tt
apart_rest name l p ps h hs j (s ∷ ss) all = (
  record { number = all.0.number; of_shape = all.0.of_shape; stands = all.0.stands; owes = all.0.owes; apart = λ i x y at there. all.0.apart (suc i) x y at there },
  apart_rest name l p ps h hs (suc j) ss all.1,
)

-- a notice leaves the connection
notice_leaves : (w : Work) (n : Notice) → Leaves w (noticed w n)
notice_leaves w n = record { size = refl; boundary = refl; life = refl; waiting = refl; admitted = refl; moved = refl; hears = refl; answered = λ e. e }

-- what telling leaves
pub told_leaves : (w : Work) (n : ℕ) (ps : List NoticeAt) (ss : List Settled) → Leaves w (told_each w n ps ss)
told_leaves w n [] [] = leaves_all w
told_leaves w n [] (s ∷ ss) = settled_leaves w (s ∷ ss)
told_leaves w n (p ∷ ps) [] = leaves_on w (noticed w p.notice) (told_each (noticed w p.notice) n ps []) (notice_leaves w p.notice) (told_leaves (noticed w p.notice) n ps [])
told_leaves w n (p ∷ ps) (s ∷ ss) =
    let v = settled_one w s in
    chosen (Leaves w) (nat_le p.settled n) (told_each (noticed w p.notice) n ps (s ∷ ss)) (told_each v (n + 1) (p ∷ ps) ss)
    (λ t. leaves_on w (noticed w p.notice) (told_each (noticed w p.notice) n ps (s ∷ ss)) (notice_leaves w p.notice) (told_leaves (noticed w p.notice) n ps (s ∷ ss)))
    (λ f. leaves_on w v (told_each v (n + 1) (p ∷ ps) ss) (one_leaves w s) (told_leaves v (n + 1) (p ∷ ps) ss))
