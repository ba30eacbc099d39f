-- What a push that is told does to the ledger of its link.
use Rattle.std.proofs.Common.{Bool}
use Rattle.containers.proofs.Choices.{chosen}
use Rattle.resp_value.specs.declared.push_kind.PushKind.{PushKind}
use Rattle.driver_model.specs.Push.{is_disconnection}
use Rattle.legal_trace.specs.Ledger.{Ledger, tells, parts, noted, noted_each}
use Rattle.legal_trace.specs.Book.{if_mine, push_line}
use Rattle.legal_trace.proofs.Ledgers.{mine_keeps}

-- a fact of a link of which a push is told, or that it ended, if it is that link
pub push_keeps : (P : Ledger → Type 0) (mine : Bool) (kind : PushKind) (l : Ledger) → P (noted l tells) → P (noted l parts) → P l → P (noted_each l (if_mine mine (push_line kind)))
push_keeps P mine kind l one other h = mine_keeps P mine l (push_line kind) (λ t. chosen (λ x. P (noted l x)) (is_disconnection kind) parts tells (λ d. other) (λ d. one)) h

-- and a fact of a link of which something else is told, if it is
pub tell_keeps : (P : Ledger → Type 0) (mine : Bool) (l : Ledger) → P (noted l tells) → P l → P (noted_each l (if_mine mine tells))
tell_keeps P mine l one h = mine_keeps P mine l tells (λ t. one) h
