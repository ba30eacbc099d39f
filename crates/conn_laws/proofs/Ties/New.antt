-- Messages that bytes settle: each was not full before them.
use Rattle.std.proofs.Common.{◌≡◌, inl, inr, ℕ, suc, ◌-◌, ◌≤◌, Bool, true, false, None, List, [], ◌∷◌, ◌++◌, length, take, refl, sym, ap, ◌∙◌, subst, arith, length-append}
use Rattle.std.specs.List.{AllByRecursion}
use Rattle.containers.proofs.Choices.{chosen, left_if, taken_if}
use Rattle.resp_value.specs.Data.{Data}
use Rattle.resp_read.specs.Values.{values}
use Rattle.driver_model.specs.Hearing.{Taking, taking}
use Rattle.driver_model.specs.declared.action.Owner.{Owner}
use Rattle.driver_model.specs.declared.hearing.Hearing.{Hearing}
use Rattle.link_core.specs.declared.message.Settled.{Settled}
use Rattle.link_core.specs.Dealing.{Dealing, dealing_with, dealt, dealt_if, is_set_up_in, noticed_behind, taking_in, taken_as, taken, taken_each}
use Rattle.link_core.specs.Link.{LinkState}
use Rattle.link_laws.proofs.Dealt.{IsDealt, all_append, awaits_alike, cut_more, cut_within}
use Rattle.link_laws.proofs.Taken.{IsNew, IsTaken, SettlesOne, TakeAlike, TakesAlike, item_settles, none_taken, value_taken}
use Rattle.link_laws.proofs.TiedLink.{ReadsAlike, TiedLink, deals, has_heard, reading}
use Rattle.legal_trace.specs.Ledger.{Heard, Ledger, Start, bytes_came, dealt_if as ledger_deals, heard_at, is_awaiting as ledger_awaits, items_came, reach, taking_of, value_by, value_came, values_came}
use Rattle.legal_trace.proofs.Came.{bytes_are}
use Rattle.legal_trace.proofs.Ledgers.{reach_alike}

-- what is settled was not full before
--
-- more items leave it settled
new_later : (name : ℕ → Owner) (ss : List Start) (base now more : List Data) (s : Settled) → IsNew name ss base now s → IsNew name ss base (now ++ more) s
new_later name ss base now more s h =
    let c = h.cut.cut in
    let k = c.number in
    let far = cut_within ss now (name s.id) h.cut.of_shape k c.place c.full in
    let next : reach (take (suc k) ss) (now ++ more) ≡ reach (take (suc k) ss) now = reach_alike (take (suc k) ss) (now ++ more) now in
    record {
      cut = record {
        of_shape = h.cut.of_shape;
        got = h.cut.got;
        cut = record { number = k; place = c.place; full = omega (arith, next, c.full, length-append now more); cut_is = c.cut_is ∙ sym (cut_more ss now more h.cut.of_shape k far) };
        verdict_is = h.cut.verdict_is;
      };
      late = h.late;
    }

-- of each
all_later : (name : ℕ → Owner) (ss : List Start) (base now more : List Data) (out : List Settled) → AllByRecursion (IsNew name ss base now) out → AllByRecursion (IsNew name ss base (now ++ more)) out
all_later name ss base now more [] all = tt
all_later name ss base now more (s ∷ out) all = (new_later name ss base now more s all.0, all_later name ss base now more out all.1)

-- nor was it before that
new_earlier : (name : ℕ → Owner) (ss : List Start) (base before now : List Data) (s : Settled) → length base ≤ length before → IsNew name ss before now s → IsNew name ss base now s
new_earlier name ss base before now s few h =
    let far = reach_alike (take (suc h.cut.cut.number) ss) before base in
    let late = h.late in
    record { cut = h.cut; late = omega arith }

-- what a link has settled since so many items is new
record HasNew (name : ℕ → Owner) (base : List Data) (l : Ledger) (out : List Settled) : Type 0 where
  pub few : length base ≤ length l.dealt
  pub each : AllByRecursion (IsNew name l.starts base l.dealt) out

-- an item more
item_new : (name : ℕ → Owner) (base : List Data) (l : Ledger) (d : Dealing) (v : Data) → IsDealt name l.starts l.dealt d → HasNew name base l d.out → HasNew name base (items_came l (v ∷ [])) (dealt d v).out
item_new name base l d v k h =
    let more = take (reach l.starts l.dealt - length l.dealt) (v ∷ []) in
    let now = l.dealt ++ more in
    let long = length-append l.dealt more in
    let later = all_later name l.starts base l.dealt more d.out h.each in
    let settles : SettlesOne name l.starts l.dealt now d.out (dealt d v).out = item_settles name l.starts l.dealt d v d.row refl k in
    record {
      few = (let few = h.few in omega (arith, few, long));
      each = elim settles [
        | inl same ↦ subst (AllByRecursion (IsNew name l.starts base now)) (sym same) later
        | inr one ↦ subst (AllByRecursion (IsNew name l.starts base now)) (sym one.1) (all_append (IsNew name l.starts base now) d.out (one.0 ∷ []) later (new_earlier name l.starts base l.dealt now one.0 h.few one.2, tt))
      ];
    }

-- a value more, of which this becomes
as_new : (name : ℕ → Owner) (base : List Data) (before : List Heard) (l : Ledger) (d : Dealing) (t : Taking) (v : Data) → IsTaken name before l d → HasNew name base l d.out → HasNew name base (value_by l t v) (taken_as d t v).out
as_new name base before l d t v k h =
    let m : Ledger = record l { notices = l.notices ++ heard_at l t.told; strange = t.ends } in
    let e : Dealing = record d { notices = d.notices ++ noticed_behind (length d.out) t.told; strange = t.ends } in
    by_dealt t.dealt m e (record { row = k.deals.row; within = k.deals.within; cuts = k.deals.cuts }) (record { few = h.few; each = h.each })
  where
    by_dealt : (is : Bool) (m : Ledger) (e : Dealing) → IsDealt name m.starts m.dealt e → HasNew name base m e.out → HasNew name base (ledger_deals is m v) (dealt_if is e v).out
    by_dealt true m e k h = item_new name base m e v k h
    by_dealt false m e k h = h

-- and one that is taken alike
value_new : (name : ℕ → Owner) (base : List Data) (before : List Heard) (h : Hearing) (ready : Bool) (l : Ledger) (d : Dealing) (v : Data) → TakesAlike h ready l d v → IsTaken name before l d → HasNew name base l d.out → HasNew name base (value_came l v) (taken h ready d v).out
value_new name base before h ready l d v alike k n =
    let t = taking_of l v in
    let same : t ≡ taking_in h ready d v = alike (ledger_awaits l) ∙ ap (λ (b : Bool). taking h (is_set_up_in ready d) b v) (sym (awaits_alike name l.starts l.dealt d.row k.deals.row)) in
    chosen (λ (x : Ledger). HasNew name base x (taken h ready d v).out) l.strange l (value_by l t v)
    (λ y. subst (λ (x : Dealing). HasNew name base l x.out) (sym (taken_if d.strange d (taken_as d (taking_in h ready d v) v) (sym k.strange ∙ y))) n)
    (λ f. subst (λ (x : Dealing). HasNew name base (value_by l t v) x.out) (ap (λ (x : Taking). taken_as d x v) same ∙ sym (left_if d.strange d (taken_as d (taking_in h ready d v) v) (sym k.strange ∙ f))) (as_new name base before l d t v k n))

-- and several
values_new : (name : ℕ → Owner) (base : List Data) (before : List Heard) (h : Hearing) (ready : Bool) (l : Ledger) (d : Dealing) (vs : List Data) → TakeAlike h ready l d vs → IsTaken name before l d → HasNew name base l d.out → HasNew name base (values_came l vs) (taken_each h ready d vs).out
values_new name base before h ready l d [] alike k n = n
values_new name base before h ready l d (v ∷ vs) alike k n =
    values_new name base before h ready (value_came l v) (taken h ready d v) vs alike.1 (value_taken name before h ready l d v alike.0 k) (value_new name base before h ready l d v alike.0 k n)

-- of the bytes that come
pub read_new : (name : ℕ → Owner) (h : Hearing) (ready : Bool) (l : Ledger) (link : LinkState) (piece : List ℕ) → l.end ≡ None → ReadsAlike h ready l link piece → TiedLink name l link
    → AllByRecursion (IsNew name l.starts l.dealt (has_heard l piece).dealt) (deals h ready link piece).out
read_new name h ready l link piece lives alike tied =
    let m = reading l piece in
    let d = deals h ready link piece in
    let n : HasNew name l.dealt (bytes_came l piece) d.out =
    subst (λ (bs : List ℕ). HasNew name l.dealt (values_came m (values (bs ++ piece))) d.out) (sym tied.rest)
    (values_new name l.dealt l.notices h ready m (dealing_with link.row) (values (link.rest ++ piece)) alike.each (none_taken name m link.row (tied.row lives) tied.within alike.tame) (record { few = omega arith; each = tt })) in
    subst (λ (ss : List Start). AllByRecursion (IsNew name ss l.dealt (bytes_came l piece).dealt) d.out) (ap (λ (x : Ledger). x.starts) (bytes_are l piece).is) n.each
