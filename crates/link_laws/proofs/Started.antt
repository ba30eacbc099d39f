-- Started messages by their numbers: those that take more items, those that are full, and those of one call.
use Rattle.std.proofs.Common.{◌≡◌, ◌⊎◌, inl, inr, ℕ, suc, ◌+◌, ◌<◌, ◌≤◌, ◌==◌, nat_lt, true, false, List, [], ◌∷◌, ◌++◌, length, Some, None, slice_get, refl, sym, ap, ◌∙◌, subst, append_assoc, arith}
use Rattle.std.proofs.lemmas.List.{append-nil}
use Rattle.containers.proofs.Choices.{by_test, left_if, eq_from, ne_from, lt_from, not_lt_from}
use Rattle.driver_model.specs.declared.action.Owner.{Owner}
use Rattle.link_core.specs.declared.message.Entry.{Entry}
use Rattle.link_core.specs.declared.message.Queued.{Queued}
use Rattle.link_core.specs.declared.message.Started.{Started}
use Rattle.link_core.specs.Link.{LinkState, Starting, start_of, holds_back, started_one, started_each}
use Rattle.legal_trace.specs.Ledger.{Start, Ledger, full_count, is_full}
use Rattle.legal_trace.specs.Owed.{cut_off_if, owed_to_message}
use Rattle.link_laws.specs.Settles.{StandsAs}
use Rattle.link_laws.specs.Starts.{begun, starting}
use Rattle.link_laws.proofs.Choices.{chosen_both}
use Rattle.link_laws.proofs.Rows.{open_rows, open_list, StandFrom, unfilled, filled, rows_length}
use Rattle.link_laws.proofs.Settles.{is_full_from, is_not_full, rows_from}
use Rattle.link_laws.proofs.TiedLink.{TiedLink}

-- an entry is the message that started as number k, and takes more items
pub record IsOpenAs (name : ℕ → Owner) (l : Ledger) (k : ℕ) (e : Entry) : Type 0 where
  pub place : StandsAs l.starts (name e.id) e.shape k
  pub takes_more : is_full l k ≡ false

-- entries are the messages from number k on
abbrev pub OpenFrom : (ℕ → Owner) → Ledger → ℕ → List Entry → Type 0
OpenFrom name l k [] = Unit {0}
OpenFrom name l k (e ∷ es) = IsOpenAs name l k e × OpenFrom name l (suc k) es

-- what stands from a number on and is not full
open_from : (name : ℕ → Owner) (l : Ledger) (k : ℕ) (row : List Entry) → full_count l.starts l.dealt ≤ k → StandFrom l.starts k (open_list name row) → OpenFrom name l k row
open_from name l k [] late all = tt
open_from name l k (e ∷ es) late all = (
  record { place = all.0; takes_more = is_not_full l k (unfilled l.starts l.dealt k all.0.start all.0.stands late) },
  open_from name l (suc k) es (omega arith) all.1,
)

-- the row of a link is the messages from the oldest on that isn't full
pub row_open : (name : ℕ → Owner) (l : Ledger) (s : LinkState) → l.end ≡ None → TiedLink name l s → OpenFrom name l (full_count l.starts l.dealt) s.row
row_open name l s lives h = open_from name l (full_count l.starts l.dealt) s.row (omega arith) (rows_from name l s.row (h.row lives))

-- what takes more items is owed nothing until its link ends
pub open_unowed : (name : ℕ → Owner) (l : Ledger) (k : ℕ) (e : Entry) → l.end ≡ None → IsOpenAs name l k e → owed_to_message l k e.shape ≡ None
open_unowed name l k e lives h = left_if (is_full l k) _ (cut_off_if l.end k e.shape) h.takes_more ∙ ap (λ end. cut_off_if end k e.shape) lives

-- the message that started as number k is in this row
pub record IsInRow (name : ℕ → Owner) (l : Ledger) (row : List Entry) (k : ℕ) : Type 0 where
  pub index : ℕ
  pub entry : Entry
  pub at : slice_get row index ≡ Some entry
  pub open_as : IsOpenAs name l k entry

-- the entry of a number
in_row : (name : ℕ → Owner) (l : Ledger) (from : ℕ) (row : List Entry) (k : ℕ) → OpenFrom name l from row → from ≤ k → k < from + length row → IsInRow name l row k
in_row name l from [] k all late near = absurd (omega arith)
in_row name l from (e ∷ es) k all late near =
    by_test (from == k) _
    (λ t. record { index = 0; entry = e; at = refl; open_as = subst (λ (n : ℕ). IsOpenAs name l n e) (eq_from from k t) all.0 })
    (λ f.
    let other = ne_from from k f in
    let h = in_row name l (suc from) es k all.1 (omega arith) (omega arith) in
    record { index = suc h.index; entry = h.entry; at = h.at; open_as = h.open_as })

-- there are as many open messages as entries
pub open_list_length : (name : ℕ → Owner) (row : List Entry) → length (open_list name row) ≡ length row
open_list_length name [] = refl
open_list_length name (e ∷ es) = ap suc (open_list_length name es)

-- each started message is full, or in the row
pub full_or_open : (name : ℕ → Owner) (l : Ledger) (s : LinkState) (k : ℕ) → k < length l.starts → l.end ≡ None → TiedLink name l s → (is_full l k ≡ true) ⊎ IsInRow name l s.row k
full_or_open name l s k within lives h =
    let from = full_count l.starts l.dealt in
    let long : length s.row ≡ length (open_rows l.starts l.dealt) = sym (open_list_length name s.row) ∙ ap length (h.row lives) in
    by_test (nat_lt k from) _
    (λ t. inl (is_full_from l k (filled l.starts l.dealt k (lt_from k from t))))
    (λ f. inr (in_row name l from s.row k (row_open name l s lives h) (not_lt_from k from f) (omega (arith, within, long, rows_length l.starts l.dealt))))

-- where nothing started, nothing takes items
pub none_started : (name : ℕ → Owner) (l : Ledger) (s : LinkState) → l.starts ≡ [] → l.end ≡ None → TiedLink name l s → s.row ≡ []
none_started name l s none lives h = none_open s.row (h.row lives ∙ ap (λ (ss : List Start). open_rows ss l.dealt) none)
  where
    none_open : (row : List Entry) → open_list name row ≡ [] → row ≡ []
    none_open [] e = refl
    none_open (x ∷ xs) e = cc

-- the starts of one call
--
-- messages that start one after another, from number k on
abbrev pub starts_from : ℕ → List Queued → List Started
starts_from k [] = []
starts_from k (q ∷ qs) = start_of k q ∷ starts_from (k + 1) qs

-- each with its number, its need and its length
pub started_out : (s : LinkState) (out : List Started) (qs : List Queued) → (started_each (record { link = s; out = out }) qs).out ≡ out ++ starts_from s.started (starting s qs)
started_out s out [] = sym (append-nil out)
started_out s out (q ∷ qs) =
    let next = started_one (record { link = s; out = out }) q in
    chosen_both (λ (x : Starting) (y : List Queued). x.out ≡ out ++ starts_from s.started y) (holds_back s) (record { link = record s { queue = q ∷ qs }; out = out }) (started_each next qs) [] (q ∷ starting (begun s q) qs)
    (λ t. sym (append-nil out))
    (λ f. started_out next.link next.out qs ∙ append_assoc out (start_of s.started q ∷ []) (starts_from (s.started + 1) (starting (begun s q) qs)))
