-- Bytes that come on a link: its ledger behind them.
use Rattle.std.proofs.Common.{◌≡◌, ℕ, ◌+◌, true, List, ◌++◌, take, ap, arith, length-append}
use Rattle.containers.proofs.Choices.{le_from, le_test}
use Rattle.resp_value.specs.Data.{Data}
use Rattle.driver_model.specs.News.{came}
use Rattle.link_laws.proofs.TiedLink.{has_heard}
use Rattle.legal_trace.specs.Ledger.{Ledger, bytes_came, is_full}
use Rattle.legal_trace.proofs.Came.{Came, grown, holds_bytes}
use Rattle.legal_trace.proofs.Ledgers.{reach_alike}

-- the ledger behind bytes that came, as which what came on it may be named
abbrev pub after_came : (l : Ledger) (piece : List ℕ) → Came l (bytes_came l piece) → Ledger
after_came l piece g = record (grown l g.rest g.strange g.told g.more) { heard = came piece }

-- it is that
pub after_is : (l : Ledger) (piece : List ℕ) (g : Came l (bytes_came l piece)) → has_heard l piece ≡ after_came l piece g
after_is l piece g = ap (λ (m : Ledger). record m { heard = came piece }) g.is

-- what has all its items has them still when more are dealt
pub full_more : (l : Ledger) (more : List Data) (j : ℕ) → is_full l j ≡ true → is_full (record l { dealt = l.dealt ++ more }) j ≡ true
full_more l more j full =
    let far = le_from _ _ full in
    let same = reach_alike (take (j + 1) l.starts) (l.dealt ++ more) l.dealt in
    let long = length-append l.dealt more in
    le_test _ _ (omega (arith, far, same, long))

-- and so when bytes come
pub full_still : (l : Ledger) (piece : List ℕ) (j : ℕ) → is_full l j ≡ true → is_full (has_heard l piece) j ≡ true
full_still l piece j full = holds_bytes (λ (m : Ledger). is_full (record m { heard = came piece }) j ≡ true) l piece (λ rest strange told more. full_more l more j full)
