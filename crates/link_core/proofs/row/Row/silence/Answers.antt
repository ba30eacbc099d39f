use Rattle.std.proofs.Common.{arith, ◌≡◌, ◌<◌, ◌∷◌, [], ℕ, List, length, get_or, set, true, sym, ap, subst, ◌∙◌}
use Rattle.link_core.specs.declared.message.Entry.{Entry}
use Rattle.link_core.specs.declared.row.Taker.{Taker}
use Rattle.link_core.specs.Row.{silenced}
use Rattle.link_core.specs.Ring.{entries_of, IsRing}
use Rattle.link_core.proofs.FirstLemmas.{Passed, first_here, all_passed, one_item, set_is}
use Rattle.link_core.proofs.RingLemmas.{is_taker_of, silent_in, silenced_in, silent_entries, silent_ring}
use Rattle.link_core.proofs.row.Row.silence.Goals as goal

-- the message is found
found : (takers : List Taker) (id i : ℕ) (t : Taker) → i < length takers → t ≡ get_or takers i t → is_taker_of id t ≡ true → Passed (is_taker_of id) (λ x. silent_in x ∷ []) takers i → set takers i (silent_in t) ≡ silenced_in takers id
found takers id i t l is same passed = set_is takers i (silent_in t) l ∙ sym (first_here (is_taker_of id) (λ x. silent_in x ∷ []) takers i t l is same passed)

pub invariant_of-self-then-index-id : goal.invariant_of-self-then-index-id
invariant_of-self-then-index-id c =
    let inv = c.loop-index.invariant in
    let row = c.loop-index.self-inside in
    let takers = row.takers.items in
    let l : c.loop-index.index < length takers = omega (arith, inv.len_is) in
    let t = c.index_mut.result.now in
    let id = ap (λ (x : Taker). x.entry.id) (one_item takers c.loop-index.index t c.index.result.now l c.index_mut.ensures.value c.index.ensures) ∙ c.if-index-id.true in
    let same : is_taker_of c.args.id t ≡ true = grind arith in
    subst (λ (ts : List Taker). IsRing row.dealt ts row.end) (sym (found takers c.args.id c.loop-index.index t l c.index_mut.ensures.value same inv.passed)) (silent_ring takers c.args.id row.dealt row.end inv.ring)

pub returns-then-index-id : goal.returns-then-index-id
returns-then-index-id c =
    let inv = c.loop-index.invariant in
    let takers = c.loop-index.self-inside.takers.items in
    let l : c.loop-index.index < length takers = omega (arith, inv.len_is) in
    let t = c.index_mut.result.now in
    let id = ap (λ (x : Taker). x.entry.id) (one_item takers c.loop-index.index t c.index.result.now l c.index_mut.ensures.value c.index.ensures) ∙ c.if-index-id.true in
    let same : is_taker_of c.args.id t ≡ true = grind arith in
    ap entries_of (found takers c.args.id c.loop-index.index t l c.index_mut.ensures.value same inv.passed) ∙ silent_entries takers c.args.id ∙ ap (λ (es : List Entry). silenced es c.args.id) inv.same

pub returns : goal.returns
returns c =
    let inv = c.loop-index.invariant in
    let takers = c.loop-index.self-inside.takers.items in
    let all = all_passed (is_taker_of c.args.id) (λ t. silent_in t ∷ []) takers c.loop-index.index (omega (arith, inv.len_is)) inv.passed in
    ap entries_of all ∙ silent_entries takers c.args.id ∙ ap (λ (es : List Entry). silenced es c.args.id) inv.same
