-- What is settled is answered, and what came is told, one by one.
use Rattle.std.proofs.Common.{◌≡◌, ℕ, ◌+◌, ◌<◌, ◌≤◌, List, [], ◌∷◌, refl, sym, ap, ◌∙◌}
use Rattle.std.specs.Prelude.{nat_le}
use Rattle.containers.proofs.Choices.{taken_if, left_if, le_test, not_le_test}
use Rattle.link_core.specs.declared.message.NoticeAt.{NoticeAt}
use Rattle.link_core.specs.declared.message.Settled.{Settled}
use Rattle.mux_conn.specs.Connection.{Work}
use Rattle.mux_conn.specs.Effects.{settled_one, settled_each, noticed, told_each}

-- a message that was settled before the next notice is answered
pub told_answer : (w v : Work) (n : ℕ) (p : NoticeAt) (ps : List NoticeAt) (s : Settled) (ss all : List Settled) → n < p.settled → all ≡ s ∷ ss → v ≡ settled_one w s
    → told_each v (n + 1) (p ∷ ps) ss ≡ told_each w n (p ∷ ps) all
told_answer w v n p ps s ss all less is answers =
    ap (λ (x : Work). told_each x (n + 1) (p ∷ ps) ss) answers
    ∙ sym (left_if (nat_le p.settled n) (told_each (noticed w p.notice) n ps (s ∷ ss)) (told_each (settled_one w s) (n + 1) (p ∷ ps) ss) (not_le_test p.settled n less))
    ∙ ap (told_each w n (p ∷ ps)) (sym is)

behind_all : (w : Work) (n : ℕ) (p : NoticeAt) (ps : List NoticeAt) (ss : List Settled) → p.settled ≤ n → told_each (noticed w p.notice) n ps ss ≡ told_each w n (p ∷ ps) ss
behind_all w n p ps [] few = refl
behind_all w n p ps (s ∷ ss) few =
    sym (taken_if (nat_le p.settled n) (told_each (noticed w p.notice) n ps (s ∷ ss)) (told_each (settled_one w s) (n + 1) (p ∷ ps) ss) (le_test p.settled n few))

-- something is told behind the messages that were settled before it
pub told_notice : (w v : Work) (n : ℕ) (p : NoticeAt) (ps : List NoticeAt) (ss : List Settled) → p.settled ≤ n → v ≡ noticed w p.notice → told_each v n ps ss ≡ told_each w n (p ∷ ps) ss
told_notice w v n p ps ss few tells = ap (λ (x : Work). told_each x n ps ss) tells ∙ behind_all w n p ps ss few

-- nothing is left to be told
pub told_none : (w : Work) (n : ℕ) (ss : List Settled) → told_each w n [] ss ≡ settled_each w ss
told_none w n [] = refl
told_none w n (s ∷ ss) = refl
