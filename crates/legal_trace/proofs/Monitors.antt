-- The message that puts a server into monitor mode: which it is of those that started, and that it stays answered.
use Rattle.std.proofs.Common.{◌≡◌, ℕ, suc, ◌+◌, ◌<◌, ◌≤◌, nat_le, Bool, true, false, ◌||◌, not, if◌then◌else◌, List, [], ◌∷◌, ◌++◌, length, Option, Some, None, slice_get, refl, sym, ap, ◌∙◌, arith, length-append}
use Rattle.containers.proofs.Choices.{by_test, taken_if, left_if, le_from, le_test}
use Rattle.resp_value.specs.Data.{Data}
use Rattle.driver_model.specs.Hearing.{is_watching}
use Rattle.legal_trace.specs.Ledger.{Ledger, Start, reached, is_answered, is_of_monitor, monitor_among, monitor_of}
use Rattle.legal_trace.proofs.Ledgers.{reached_more, reached_dealt}
use Rattle.legal_trace.proofs.Plain.{item_within, not_none, same_some}

-- a start among these does, and has that number, where the first of them has the number n
abbrev pub IsMonitor : List Start → ℕ → ℕ → Type 0
IsMonitor ss n k = (i : ℕ) × (s : Start) × (k ≡ n + i) × (slice_get ss i ≡ Some s) × (is_of_monitor s.owner ≡ true)

-- the first that does is one
pub monitor_is : (ss : List Start) (n k : ℕ) → monitor_among ss n ≡ Some k → IsMonitor ss n k
monitor_is [] n k e = cc
monitor_is (s ∷ ss) n k e = by_test (is_of_monitor s.owner) (IsMonitor (s ∷ ss) n k)
    (λ t. let here : n ≡ k = same_some n k (sym (taken_if (is_of_monitor s.owner) (Some n) (monitor_among ss (suc n)) t) ∙ e) in (0, s, omega (arith, here), refl, t))
    (λ f. let more = monitor_is ss (suc n) k (sym (left_if (is_of_monitor s.owner) (Some n) (monitor_among ss (suc n)) f) ∙ e) in
    let far : k ≡ suc n + more.0 = more.2 in (suc more.0, more.1, omega (arith, far), more.3, more.4))

-- it stays the first where more start
pub monitor_kept : (ss more : List Start) (n k : ℕ) → monitor_among ss n ≡ Some k → monitor_among (ss ++ more) n ≡ Some k
monitor_kept [] more n k e = cc
monitor_kept (s ∷ ss) more n k e = by_test (is_of_monitor s.owner) (monitor_among ((s ∷ ss) ++ more) n ≡ Some k)
    (λ t. taken_if (is_of_monitor s.owner) (Some n) (monitor_among (ss ++ more) (suc n)) t ∙ (sym (taken_if (is_of_monitor s.owner) (Some n) (monitor_among ss (suc n)) t) ∙ e))
    (λ f. left_if (is_of_monitor s.owner) (Some n) (monitor_among (ss ++ more) (suc n)) f ∙ monitor_kept ss more (suc n) k (sym (left_if (is_of_monitor s.owner) (Some n) (monitor_among ss (suc n)) f) ∙ e))

-- another start is none
pub monitor_else : (ss : List Start) (s : Start) (n : ℕ) → is_of_monitor s.owner ≡ false → monitor_among (ss ++ s ∷ []) n ≡ monitor_among ss n
monitor_else [] s n f = left_if (is_of_monitor s.owner) (Some n) None f
monitor_else (x ∷ ss) s n f = ap (λ (o : Option ℕ). if is_of_monitor x.owner then Some n else o) (monitor_else ss s (suc n) f)

-- where none was, the one that starts is it
pub monitor_begun : (ss : List Start) (s : Start) (n : ℕ) → monitor_among ss n ≡ None → is_of_monitor s.owner ≡ true → monitor_among (ss ++ s ∷ []) n ≡ Some (n + length ss)
monitor_begun [] s n e t = taken_if (is_of_monitor s.owner) (Some n) None t ∙ ap Some (let k : n ≡ n + 0 = omega arith in k)
monitor_begun (x ∷ ss) s n e t = by_test (is_of_monitor x.owner) (monitor_among ((x ∷ ss) ++ s ∷ []) n ≡ Some (n + suc (length ss)))
    (λ y. absurd (not_none (monitor_among (x ∷ ss) n) n e (taken_if (is_of_monitor x.owner) (Some n) (monitor_among ss (suc n)) y)))
    (λ f. left_if (is_of_monitor x.owner) (Some n) (monitor_among (ss ++ s ∷ []) (suc n)) f
    ∙ (monitor_begun ss s (suc n) (sym (left_if (is_of_monitor x.owner) (Some n) (monitor_among ss (suc n)) f) ∙ e) t
    ∙ ap Some (let k : suc n + length ss ≡ n + suc (length ss) = omega arith in k)))

-- MONITOR is answered on a link, where its server is put into monitor mode
abbrev pub is_watched : Ledger → Bool
is_watched l = not (is_watching l.hearing) || is_answered l (monitor_of l)

-- so where it isn't
pub unwatched : (l : Ledger) → is_watching l.hearing ≡ false → is_watched l ≡ true
unwatched l e = ap (λ watching. not watching || is_answered l (monitor_of l)) e

-- one of two holds, where the second holds if it held
or_holds : (p q r : Bool) → (q ≡ true → r ≡ true) → (p || q) ≡ true → (p || r) ≡ true
or_holds true q r h e = refl
or_holds false q r h e = h e

-- it stays answered where a message starts behind it
answered_begins : (l : Ledger) (s : Start) (o : Option ℕ) → monitor_of l ≡ o → is_answered l o ≡ true → is_answered (record l { starts = l.starts ++ s ∷ [] }) (monitor_of (record l { starts = l.starts ++ s ∷ [] })) ≡ true
answered_begins l s None e h = cc h
answered_begins l s (Some k) e h =
    let m : Ledger = record l { starts = l.starts ++ s ∷ [] } in
    let there = monitor_is l.starts 0 k e in
    let within : there.0 < length l.starts = item_within l.starts there.0 there.1 there.3 in
    let placed : k ≡ 0 + there.0 = there.2 in
    let whole : reached m (k + 1) ≡ reached l (k + 1) = reached_more l s (k + 1) (omega (arith, within, placed)) in
    ap (is_answered m) (monitor_kept l.starts (s ∷ []) 0 k e) ∙ (ap (λ n. nat_le n (length l.dealt)) whole ∙ h)

-- and where more items are dealt
answered_grows : (l : Ledger) (rest : List ℕ) (more : List Data) (o : Option ℕ) → is_answered l o ≡ true → is_answered (record l { rest = rest; dealt = l.dealt ++ more }) o ≡ true
answered_grows l rest more None h = cc h
answered_grows l rest more (Some k) h =
    let m : Ledger = record l { rest = rest; dealt = l.dealt ++ more } in
    let fits : reached l (k + 1) ≤ length l.dealt = le_from (reached l (k + 1)) (length l.dealt) h in
    let long : length (l.dealt ++ more) ≡ length l.dealt + length more = length-append l.dealt more in
    let far : reached m (k + 1) ≡ reached l (k + 1) = reached_dealt l rest more (k + 1) in
    le_test (reached m (k + 1)) (length (l.dealt ++ more)) (omega (arith, fits, long, far))

pub watched_begins : (l : Ledger) (s : Start) → is_watched l ≡ true → is_watched (record l { starts = l.starts ++ s ∷ [] }) ≡ true
watched_begins l s h =
    let m : Ledger = record l { starts = l.starts ++ s ∷ [] } in
    or_holds (not (is_watching l.hearing)) (is_answered l (monitor_of l)) (is_answered m (monitor_of m)) (answered_begins l s (monitor_of l) refl) h

pub watched_grows : (l : Ledger) (rest : List ℕ) (more : List Data) → is_watched l ≡ true → is_watched (record l { rest = rest; dealt = l.dealt ++ more }) ≡ true
watched_grows l rest more h =
    or_holds (not (is_watching l.hearing)) (is_answered l (monitor_of l)) (is_answered (record l { rest = rest; dealt = l.dealt ++ more }) (monitor_of l)) (answered_grows l rest more (monitor_of l)) h
