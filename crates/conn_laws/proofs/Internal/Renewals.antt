-- New credentials of a link, by its ledger and by its connection.
use Rattle.std.proofs.Common.{◌≡◌, ◌≢◌, inl, inr, ℕ, zero, suc, ◌+◌, ◌<◌, ◌≤◌, nat_le, Bool, true, false, ◌&&◌, ◌||◌, not, is_some, if◌then◌else◌, List, [], ◌∷◌, ◌++◌, length, take, drop, Option, Some, None, slice_get, refl, sym, ap, ◌∙◌, subst, arith}
use Rattle.std.proofs.lemmas.List.{length_push, take-append-le}
use Rattle.containers.proofs.Choices.{by_test, chosen, taken_if, left_if, not_both}
use Rattle.credentials.specs.Credentials.{Credentials}
use Rattle.driver_model.specs.declared.action.Owner.TheVariants as owner
use Rattle.driver_model.specs.declared.outcome.Shape.TheVariants.{Confirmation}
use Rattle.driver_model.specs.Shape.{verdict_of}
use Rattle.mux_conn.specs.declared.life.Life.{Life}
use Rattle.mux_conn.specs.declared.life.Life.TheVariants.{Resting, Dialing, Wanting, SettingUp, Ready, Ended}
use Rattle.mux_conn.specs.declared.renewal.Renewal.{Renewal}
use Rattle.mux_conn.specs.Connection.{are_some, in_front, is_due, is_ready}
use Rattle.mux_conn.specs.Renewals.{asked_next, told_next}
use Rattle.legal_trace.specs.Ledger.{Ledger, Start, begins, cut, is_done, is_full, is_of_renewal, is_taken, last_renewal, noted, reach, renewal_count, renewal_due, renewals_asked, times, Sourced}
use Rattle.legal_trace.specs.Steps.{renewals_in_line}
use Rattle.legal_trace.proofs.Renewals.{taken_begins}
use Rattle.conn_laws.proofs.Ties.Names.{get_more}
use Rattle.containers.proofs.Places.{get_within}
use Rattle.conn_laws.proofs.Links.Server.{AreFullBefore, AreRenewed, IsLost, IsTold, NoneRenewed, TiedRenewal, timed_of}
use Rattle.conn_laws.proofs.Ties.Tied.{has_ended}
use Rattle.conn_laws.proofs.Links.SetUp.{begun_open}

-- what is told next
--
-- where some are to be told, those before were answered, and none were lost
pub due_well : (r : Renewal) → is_due r ≡ true → (r.unanswered ≡ false) × (r.lost ≡ false)
due_well r due = by_cases r.unanswered r.lost due
  where
    by_cases : (a b : Bool) → (not (a || b) && are_some r.waiting) ≡ true → (a ≡ false) × (b ≡ false)
    by_cases true b e = cc
    by_cases false true e = cc
    by_cases false false e = (refl, refl)

-- where some are to be told, some wait
pub some_wait : (r : Renewal) → is_due r ≡ true → are_some r.waiting ≡ true
some_wait r due = by_cases (not (r.unanswered || r.lost)) due
  where
    by_cases : (a : Bool) → (a && are_some r.waiting) ≡ true → are_some r.waiting ≡ true
    by_cases true e = e
    by_cases false e = cc

-- where some were lost, nothing is
lost_undue : (l : Ledger) → IsLost l → renewal_due l ≡ None
lost_undue l (inl lost) =
    left_if (l.up && not l.creds.lost && is_taken l (last_renewal l.starts 0 None)) (slice_get l.creds.renewals (renewal_count l.starts)) None
    (ap (λ x. l.up && not x && is_taken l (last_renewal l.starts 0 None)) lost ∙ none_of l.up (is_taken l (last_renewal l.starts 0 None)))
  where
    none_of : (a b : Bool) → (a && false && b) ≡ false
    none_of true b = refl
    none_of false b = refl
lost_undue l (inr (k, last, full, undone)) =
    left_if (l.up && not l.creds.lost && is_taken l (last_renewal l.starts 0 None)) (slice_get l.creds.renewals (renewal_count l.starts)) None
    (ap (λ o. l.up && not l.creds.lost && is_taken l o) last ∙ ap (λ x. l.up && not l.creds.lost && (is_full l k && x)) undone ∙ none_of (l.up && not l.creds.lost) (is_full l k))
  where
    none_of : (a b : Bool) → (a && (b && false)) ≡ false
    none_of true true = refl
    none_of true false = refl
    none_of false b = refl

-- nor while the last that were told aren't answered
told_undue : (l : Ledger) → IsTold l → renewal_due l ≡ None
told_undue l told =
    left_if (l.up && not l.creds.lost && is_taken l (last_renewal l.starts 0 None)) (slice_get l.creds.renewals (renewal_count l.starts)) None
    (ap (λ o. l.up && not l.creds.lost && is_taken l o) told.last
    ∙ ap (λ x. l.up && not l.creds.lost && (x && is_done (verdict_of Confirmation (cut l told.k Confirmation)))) told.open_is ∙ none_of (l.up && not l.creds.lost))
  where
    none_of : (a : Bool) → (a && false) ≡ false
    none_of true = refl
    none_of false = refl

-- else the first that weren't
next_due : (l : Ledger) (r : Renewal) → l.up ≡ true → r.lost ≡ false → r.unanswered ≡ false → AreRenewed l r → renewal_due l ≡ slice_get l.creds.renewals (renewal_count l.starts)
next_due l r up kept answered h =
    taken_if (l.up && not l.creds.lost && is_taken l (last_renewal l.starts 0 None)) (slice_get l.creds.renewals (renewal_count l.starts)) None
    (λ i. up i && not (h.kept kept i) && h.taken kept answered i)

-- the first of those behind so many
first_dropped : (cs : List Credentials) (n : ℕ) → is_some (slice_get cs n) ≡ are_some (drop n cs)
first_dropped [] zero = refl
first_dropped [] (suc n) = refl
first_dropped (c ∷ cs) zero = refl
first_dropped (c ∷ cs) (suc n) = first_dropped cs n

-- a link and its connection agree on whether some are
pub due_is : (l : Ledger) (r : Renewal) → l.up ≡ true → AreRenewed l r → is_some (renewal_due l) ≡ is_due r
due_is l r up h = by_test r.lost (is_some (renewal_due l) ≡ is_due r)
    (λ lost. ap is_some (lost_undue l (h.lost lost)) ∙ sym (ap (λ x. not (r.unanswered || x) && are_some r.waiting) lost ∙ none_of r.unanswered (are_some r.waiting)))
    (λ kept. by_test r.unanswered (is_some (renewal_due l) ≡ is_due r)
    (λ told. ap is_some (told_undue l (h.unanswered told)) ∙ sym (ap (λ x. not (x || r.lost) && are_some r.waiting) told))
    (λ answered.
    ap is_some (next_due l r up kept answered h) ∙ first_dropped l.creds.renewals (renewal_count l.starts) ∙ ap are_some (sym h.waits)
    ∙ sym (λ i. not (answered i || kept i) && are_some r.waiting)))
  where
    none_of : (a b : Bool) → (not (a || true) && b) ≡ false
    none_of true b = refl
    none_of false b = refl

-- and on which
pub due_first : (l : Ledger) (r : Renewal) (c : Credentials) (cs : List Credentials) → l.up ≡ true → AreRenewed l r → is_due r ≡ true → r.waiting ≡ c ∷ cs → renewal_due l ≡ Some c
due_first l r c cs up h due waits =
    let well = due_well r due in
    next_due l r up well.1 well.0 h ∙ dropped_is l.creds.renewals (renewal_count l.starts) (sym h.waits ∙ waits)
  where
    dropped_is : (xs : List Credentials) (n : ℕ) → drop n xs ≡ c ∷ cs → slice_get xs n ≡ Some c
    dropped_is [] zero e = cc
    dropped_is [] (suc n) e = cc
    dropped_is (x ∷ xs) zero e = cc
    dropped_is (x ∷ xs) (suc n) e = dropped_is xs n e

-- none are on a link that isn't set up
pub none_renewed_due : (l : Ledger) (r : Renewal) → NoneRenewed l r → renewal_due l ≡ None
none_renewed_due l r h =
    chosen (λ (o : Option Credentials). o ≡ None) (l.up && not l.creds.lost && is_taken l (last_renewal l.starts 0 None)) (slice_get l.creds.renewals (renewal_count l.starts)) None
    (λ t. ap (λ (cs : List Credentials). slice_get cs (renewal_count l.starts)) h.came ∙ empty (renewal_count l.starts)) (λ f. refl)
  where
    empty : (n : ℕ) → ◌≡◌ {A = Option Credentials} (slice_get [] n) None
    empty zero = refl
    empty (suc n) = refl

-- nor on one that isn't up
pub down_renewed_due : (l : Ledger) → l.up ≡ false → renewal_due l ≡ None
down_renewed_due l down =
    left_if (l.up && not l.creds.lost && is_taken l (last_renewal l.starts 0 None)) (slice_get l.creds.renewals (renewal_count l.starts)) None (ap (λ u. u && not l.creds.lost && is_taken l (last_renewal l.starts 0 None)) down)

-- as many of them stand in line
pub due_in_line : (l : Ledger) (r : Renewal) → l.up ≡ true → AreRenewed l r → renewals_in_line l ≡ in_front r
due_in_line l r up h = ap (λ (b : Bool). if b then 1 else 0) (due_is l r up h)

-- where those that are have their timer, all have
pub all_timed : (l : Ledger) (r : Renewal) (ms : ℕ) → l.up ≡ true → AreRenewed l r → r.within ≡ Some ms → (is_due r ≡ true → r.pending ≡ true) → renewals_asked l ≤ l.creds.timed
all_timed l r ms up h within asked =
    let timed : l.creds.timed ≡ r.asked = h.timed_is ∙ ap (λ o. timed_of o r.asked) within in
    let count = renewal_count l.starts in
    by_test (is_due r) (renewals_asked l ≤ l.creds.timed)
    (λ t.
    let all : renewals_asked l ≡ count + 1 = ap (λ (b : Bool). count + (if b then 1 else 0)) (due_is l r up h ∙ t) in
    let so : r.asked ≡ count + 1 = h.asked_is ∙ ap (λ (b : Bool). count + (if b then 1 else 0)) (asked t) in
    omega arith)
    (λ f.
    let all : renewals_asked l ≡ count + 0 = ap (λ (b : Bool). count + (if b then 1 else 0)) (due_is l r up h ∙ f) in
    let so : r.asked ≡ count + (if r.pending then 1 else 0) = h.asked_is in
    omega arith)

-- what leaves them
--
-- a ledger with the same credentials, the same starts and the same items
alike_rebuild : (l m : Ledger) (r : Renewal) → AreRenewed l r → AreRenewed (record m { creds = l.creds; starts = l.starts; dealt = l.dealt }) r
alike_rebuild l m r h = record {
  over_is = h.over_is;
  waits = h.waits;
  some = h.some;
  asked_is = h.asked_is;
  timed_is = h.timed_is;
  next = h.next;
  shaped = h.shaped;
  answered = h.answered;
  unanswered = λ u. let s = h.unanswered u in record { k = s.k; last = s.last; open_is = s.open_is; earlier = s.earlier };
  kept = h.kept;
  taken = h.taken;
  lost = h.lost;
}

-- has them too
pub renewed_alike : (l m : Ledger) (r : Renewal) → m.creds ≡ l.creds → m.starts ≡ l.starts → m.dealt ≡ l.dealt → AreRenewed l r → AreRenewed m r
renewed_alike l m r creds starts dealt h = subst (λ (x : Ledger). AreRenewed x r) (λ i. record m { creds = sym creds i; starts = sym starts i; dealt = sym dealt i }) (alike_rebuild l m r h)

-- also where none came
pub none_alike : (l m : Ledger) (r : Renewal) → m.creds ≡ l.creds → m.starts ≡ l.starts → NoneRenewed l r → NoneRenewed m r
none_alike l m r creds starts h = record {
  over_is = ap (λ (c : Sourced). c.over) creds ∙ h.over_is;
  came = ap (λ (c : Sourced). c.renewals) creds ∙ h.came;
  waits = h.waits;
  untimed = ap (λ (c : Sourced). c.timed) creds ∙ h.untimed;
  unstarted = ap renewal_count starts ∙ h.unstarted;
  unasked = h.unasked;
  unpending = h.unpending;
  told = h.told;
  kept = ap (λ (c : Sourced). c.lost) creds ∙ h.kept;
  found = h.found;
}

-- by how far the link has come
pub renewal_alike : (l m : Ledger) (r : Renewal) (life : Life) → m.creds ≡ l.creds → m.starts ≡ l.starts → m.dealt ≡ l.dealt → TiedRenewal l r life → TiedRenewal m r life
renewal_alike l m r Resting creds starts dealt h = none_alike l m r creds starts h
renewal_alike l m r Dialing creds starts dealt h = none_alike l m r creds starts h
renewal_alike l m r (Wanting link) creds starts dealt h = none_alike l m r creds starts h
renewal_alike l m r (SettingUp link greeting) creds starts dealt h = none_alike l m r creds starts h
renewal_alike l m r (Ready link) creds starts dealt h = renewed_alike l m r creds starts dealt h
renewal_alike l m r (Ended e) creds starts dealt h =
    let same = ap renewal_count starts in
    let timed = ap (λ (c : Sourced). c.timed) creds in
    let asked = h.1 in
    ((λ some. let few = h.0 some in omega (arith, few, same, timed)), omega (arith, asked, same))

-- once the link has ended, no more were told than were to be
asked_ended : (l m : Ledger) (r : Renewal) → m.starts ≡ l.starts → AreRenewed l r → renewal_count m.starts ≤ r.asked
asked_ended l m r starts h = let same = ap renewal_count starts in let asked = h.asked_is in omega (arith, same, asked)

-- and a timer was asked for all of them
timed_ended : (l m : Ledger) (r : Renewal) → m.creds.timed ≡ l.creds.timed → m.starts ≡ l.starts → AreRenewed l r → (r.within ≢ None) → renewal_count m.starts ≤ m.creds.timed
timed_ended l m r timed starts h some =
    let same = ap renewal_count starts in
    let told : renewal_count l.starts ≤ l.creds.timed = by_time r.within refl in
    omega (arith, told, same, timed)
  where
    by_time : (o : Option ℕ) → r.within ≡ o → renewal_count l.starts ≤ l.creds.timed
    by_time None e = absurd (some e)
    by_time (Some ms) e = let timed = h.timed_is ∙ ap (λ o. timed_of o r.asked) e in let asked = h.asked_is in omega (arith, timed, asked)

-- none were, where none came
none_ended : (l m : Ledger) (r : Renewal) → m.starts ≡ l.starts → NoneRenewed l r → ((r.within ≢ None) → renewal_count m.starts ≤ m.creds.timed) × (renewal_count m.starts ≤ r.asked)
none_ended l m r starts h = let none = ap renewal_count starts ∙ h.unstarted in ((λ some. omega (arith, none)), omega (arith, none))

-- by how far it had come
pub renewal_ended : (l m : Ledger) (r : Renewal) (life : Life) → m.creds.timed ≡ l.creds.timed → m.starts ≡ l.starts → TiedRenewal l r life → ((r.within ≢ None) → renewal_count m.starts ≤ m.creds.timed) × (renewal_count m.starts ≤ r.asked)
renewal_ended l m r Resting timed starts h = none_ended l m r starts h
renewal_ended l m r Dialing timed starts h = none_ended l m r starts h
renewal_ended l m r (Wanting link) timed starts h = none_ended l m r starts h
renewal_ended l m r (SettingUp link greeting) timed starts h = none_ended l m r starts h
renewal_ended l m r (Ready link) timed starts h = (timed_ended l m r timed starts h, asked_ended l m r starts h)
renewal_ended l m r (Ended e) timed starts h =
    let same = ap renewal_count starts in
    let asked = h.1 in
    ((λ some. let few = h.0 some in omega (arith, few, same, timed)), omega (arith, asked, same))

-- a link that isn't set up has none
pub early_renewal : (l : Ledger) (r : Renewal) (life : Life) → is_ready life ≡ false → has_ended life ≡ false → TiedRenewal l r life → NoneRenewed l r
early_renewal l r Resting unready alive h = h
early_renewal l r Dialing unready alive h = h
early_renewal l r (Wanting link) unready alive h = h
early_renewal l r (SettingUp link greeting) unready alive h = h
early_renewal l r (Ready link) unready alive h = cc
early_renewal l r (Ended e) unready alive h = cc

-- where none tells new credentials, none of these does
none_counted : (ss : List Start) (k : ℕ) (s : Start) → renewal_count ss ≡ 0 → slice_get ss k ≡ Some s → is_of_renewal s.owner ≡ false
none_counted [] k s e at = cc
none_counted (x ∷ ss) zero s e at =
    let same : x ≡ s = cc in
    by_test (is_of_renewal s.owner) (is_of_renewal s.owner ≡ false)
    (λ t. absurd (let no = sym (taken_if (is_of_renewal x.owner) (suc (renewal_count ss)) (renewal_count ss) (ap (λ (y : Start). is_of_renewal y.owner) same ∙ t)) ∙ e in omega (arith, no)))
    (λ f. f)
none_counted (x ∷ ss) (suc k) s e at = none_counted ss k s
    (by_test (is_of_renewal x.owner) (renewal_count ss ≡ 0)
    (λ t. absurd (let no = sym (taken_if (is_of_renewal x.owner) (suc (renewal_count ss)) (renewal_count ss) t) ∙ e in omega (arith, no)))
    (λ f. sym (left_if (is_of_renewal x.owner) (suc (renewal_count ss)) (renewal_count ss) f) ∙ e)) at

-- where no new ones came, they are none of a link that is set up then
pub renewed_first : (l : Ledger) (r : Renewal) → NoneRenewed l r → AreRenewed l r
renewed_first l r h =
    let none : (k : ℕ) (s : Start) → slice_get l.starts k ≡ Some s → is_of_renewal s.owner ≡ false = λ k s at. none_counted l.starts k s h.unstarted at in
    record {
      over_is = h.over_is;
      waits = h.waits ∙ sym (ap (drop (renewal_count l.starts)) h.came ∙ dropped (renewal_count l.starts));
      some = few_none (renewal_count l.starts) (length l.creds.renewals) h.unstarted;
      asked_is = h.unasked ∙ sym (λ i. h.unstarted i + (if h.unpending i then 1 else 0));
      timed_is = h.untimed ∙ sym (ap (timed_of r.within) h.unasked ∙ no_time r.within);
      next = λ p. absurd (not_both r.pending h.unpending p);
      shaped = λ k s at is. absurd (not_both (is_of_renewal s.owner) (none k s at) is);
      answered = λ u j s below at is. absurd (not_both (is_of_renewal s.owner) (none j s at) is);
      unanswered = λ u. absurd (not_both r.unanswered h.told u);
      kept = λ k. h.kept;
      taken = λ k u. ap (is_taken l) (none_last l.starts none 0);
      lost = λ x. absurd (not_both r.lost h.found x);
    }
  where
    dropped : (n : ℕ) → ◌≡◌ {A = List Credentials} (drop n []) []
    dropped zero = refl
    dropped (suc n) = refl

    few_none : (n m : ℕ) → n ≡ 0 → n ≤ m
    few_none n m e = omega arith

    no_time : (o : Option ℕ) → timed_of o 0 ≡ 0
    no_time None = refl
    no_time (Some ms) = refl

    none_last : (ss : List Start) → ((k : ℕ) (s : Start) → slice_get ss k ≡ Some s → is_of_renewal s.owner ≡ false) → (n : ℕ) → last_renewal ss n None ≡ None
    none_last [] none n = refl
    none_last (s ∷ ss) none n = ap (last_renewal ss (suc n)) (left_if (is_of_renewal s.owner) (Some n) None (none 0 s refl)) ∙ none_last ss (λ k x. none (suc k) x) (suc n)

-- one more start
--
-- how many tell them
count_other : (ss : List Start) (s : Start) → is_of_renewal s.owner ≡ false → renewal_count (ss ++ s ∷ []) ≡ renewal_count ss
count_other [] s other = left_if (is_of_renewal s.owner) 1 0 other
count_other (x ∷ ss) s other = ap (λ n. if is_of_renewal x.owner then suc n else n) (count_other ss s other)

-- and one more where it does
count_auth : (ss : List Start) (s : Start) → is_of_renewal s.owner ≡ true → renewal_count (ss ++ s ∷ []) ≡ suc (renewal_count ss)
count_auth [] s is = taken_if (is_of_renewal s.owner) 1 0 is
count_auth (x ∷ ss) s is = by_kind (is_of_renewal x.owner) (count_auth ss s is)
  where
    by_kind : (b : Bool) {m n : ℕ} → m ≡ suc n → (if b then suc m else m) ≡ suc (if b then suc n else n)
    by_kind true e = ap suc e
    by_kind false e = e

-- the last that does
last_other : (ss : List Start) (s : Start) (k : ℕ) (old : Option ℕ) → is_of_renewal s.owner ≡ false → last_renewal (ss ++ s ∷ []) k old ≡ last_renewal ss k old
last_other [] s k old other = left_if (is_of_renewal s.owner) (Some k) old other
last_other (x ∷ ss) s k old other = last_other ss s (suc k) (if is_of_renewal x.owner then Some k else old) other

-- is that one
last_auth : (ss : List Start) (s : Start) (k : ℕ) (old : Option ℕ) → is_of_renewal s.owner ≡ true → last_renewal (ss ++ s ∷ []) k old ≡ Some (k + length ss)
last_auth [] s k old is = taken_if (is_of_renewal s.owner) (Some k) old is ∙ ap Some (let e : k ≡ k + 0 = omega arith in e)
last_auth (x ∷ ss) s k old is = last_auth ss s (suc k) (if is_of_renewal x.owner then Some k else old) is ∙ ap Some (let e : suc k + length ss ≡ k + suc (length ss) = omega arith in e)

-- it is one of them
last_within : (ss : List Start) (k n : ℕ) (old : Option ℕ) → ((m : ℕ) → old ≡ Some m → m < k) → last_renewal ss k old ≡ Some n → n < k + length ss
last_within [] k n old before e = let l = before n e in omega arith
last_within (x ∷ ss) k n old before e =
    let l = last_within ss (suc k) n (if is_of_renewal x.owner then Some k else old)
    (λ m. chosen (λ (o : Option ℕ). o ≡ Some m → m < suc k) (is_of_renewal x.owner) (Some k) old (λ t i. (let same : k ≡ m = cc in omega arith)) (λ f i. (let b = before m i in omega arith))) e in
    omega arith

-- of all
pub last_is_within : (l : Ledger) (n : ℕ) → last_renewal l.starts 0 None ≡ Some n → n < length l.starts
last_is_within l n e = let w = last_within l.starts 0 n None (λ m i. cc i) e in omega arith

-- what is full stays so, and what isn't too
pub full_begins : (l : Ledger) (s : Start) (k : ℕ) → k < length l.starts → is_full (noted l (begins s)) k ≡ is_full l k
full_begins l s k less = ap (λ (ts : List Start). nat_le (reach ts l.dealt) (length l.dealt)) (take-append-le (k + 1) l.starts (s ∷ []) (omega arith))

-- and so does what it took
cut_begins : (l : Ledger) (s : Start) (k : ℕ) → k < length l.starts → cut (noted l (begins s)) k Confirmation ≡ cut l k Confirmation
cut_begins l s k less = by_take (take-append-le k l.starts (s ∷ []) (omega arith))
  where
    by_take : take k (l.starts ++ s ∷ []) ≡ take k l.starts → cut (noted l (begins s)) k Confirmation ≡ cut l k Confirmation
    by_take e = ap (λ (ts : List Start). take 1 (drop (reach ts l.dealt) l.dealt)) e

-- those before a place
before_begins : (l : Ledger) (s : Start) (k : ℕ) → k ≤ length l.starts → AreFullBefore l k → AreFullBefore (noted l (begins s)) k
before_begins l s k within h j x less at is = elim (get_more l.starts s j x at) [
  | inl old ↦ full_begins l s j (omega arith) ∙ h j x less old is
  | inr new ↦ absurd (let e = new.0 in omega arith)
]

-- the last is told still
told_begins : (l : Ledger) (s : Start) → is_of_renewal s.owner ≡ false → IsTold l → IsTold (noted l (begins s))
told_begins l s other h =
    let within = last_is_within l h.k h.last in
    record { k = h.k; last = last_other l.starts s 0 None other ∙ h.last; open_is = full_begins l s h.k within ∙ h.open_is; earlier = before_begins l s h.k (omega arith) h.earlier }

-- or lost
lost_begins : (l : Ledger) (s : Start) → is_of_renewal s.owner ≡ false → IsLost l → IsLost (noted l (begins s))
lost_begins l s other (inl lost) = inl lost
lost_begins l s other (inr (k, last, full, undone)) =
    let within = last_is_within l k last in
    inr (k, last_other l.starts s 0 None other ∙ last, full_begins l s k within ∙ full, ap (λ ds. is_done (verdict_of Confirmation ds)) (cut_begins l s k within) ∙ undone)

-- or taken
last_taken_begins : (l : Ledger) (s : Start) → is_of_renewal s.owner ≡ false → is_taken l (last_renewal l.starts 0 None) ≡ true → is_taken (noted l (begins s)) (last_renewal (l.starts ++ s ∷ []) 0 None) ≡ true
last_taken_begins l s other h = ap (is_taken (noted l (begins s))) (last_other l.starts s 0 None other) ∙ by_last (last_renewal l.starts 0 None) refl ∙ h
  where
    by_last : (o : Option ℕ) → last_renewal l.starts 0 None ≡ o → is_taken (noted l (begins s)) o ≡ is_taken l o
    by_last None e = refl
    by_last (Some k) e = taken_begins l s k (last_is_within l k e)

-- a setup starts
pub none_begins : (l : Ledger) (r : Renewal) (s : Start) → is_of_renewal s.owner ≡ false → NoneRenewed l r → NoneRenewed (noted l (begins s)) r
none_begins l r s other h = record {
  over_is = h.over_is;
  came = h.came;
  waits = h.waits;
  untimed = h.untimed;
  unstarted = count_other l.starts s other ∙ h.unstarted;
  unasked = h.unasked;
  unpending = h.unpending;
  told = h.told;
  kept = h.kept;
  found = h.found;
}

-- a message of a request starts
pub begins_renewed : (l : Ledger) (r : Renewal) (s : Start) → is_of_renewal s.owner ≡ false → AreRenewed l r → AreRenewed (noted l (begins s)) r
begins_renewed l r s other h =
    let count = count_other l.starts s other in
    let long = length_push l.starts s in
    record {
      over_is = h.over_is;
      waits = h.waits ∙ ap (λ n. drop n l.creds.renewals) (sym count);
      some = (let few = h.some in omega (arith, few, count));
      asked_is = h.asked_is ∙ ap (λ n. n + (if r.pending then 1 else 0)) (sym count);
      timed_is = h.timed_is;
      next = h.next;
      shaped = λ k x at is. elim (get_more l.starts s k x at) [
        | inl old ↦ h.shaped k x old is
        | inr new ↦ absurd (not_both (is_of_renewal s.owner) other (ap (λ (y : Start). is_of_renewal y.owner) new.1 ∙ is))
      ];
      answered = λ u j x less at is. elim (get_more l.starts s j x at) [
        | inl old ↦ let within = get_within l.starts j x old in full_begins l s j within ∙ h.answered u j x within old is
        | inr new ↦ absurd (not_both (is_of_renewal s.owner) other (ap (λ (y : Start). is_of_renewal y.owner) new.1 ∙ is))
      ];
      unanswered = λ u. told_begins l s other (h.unanswered u);
      kept = h.kept;
      taken = λ k u. last_taken_begins l s other (h.taken k u);
      lost = λ x. lost_begins l s other (h.lost x);
    }

-- those behind one more
next_dropped : (cs : List Credentials) (n : ℕ) (c : Credentials) (more : List Credentials) → drop n cs ≡ c ∷ more → more ≡ drop (suc n) cs
next_dropped [] zero c more e = cc
next_dropped [] (suc n) c more e = cc
next_dropped (x ∷ cs) zero c more e = let same : cs ≡ more = cc in sym same
next_dropped (x ∷ cs) (suc n) c more e = next_dropped cs n c more e

-- that there are some means that not all are in front
some_dropped : (cs : List Credentials) (n : ℕ) (c : Credentials) (more : List Credentials) → drop n cs ≡ c ∷ more → n < length cs
some_dropped [] zero c more e = cc
some_dropped [] (suc n) c more e = cc
some_dropped (x ∷ cs) zero c more e = omega arith
some_dropped (x ∷ cs) (suc n) c more e = let l = some_dropped cs n c more e in omega arith

-- new credentials are told: the first of those that wait
pub auth_renewed : (l : Ledger) (r : Renewal) (s : Start) (c : Credentials) (cs : List Credentials) → s.owner ≡ owner.Auth → s.shape ≡ Confirmation → length l.dealt ≤ reach l.starts l.dealt → is_due r ≡ true → r.pending ≡ true → r.waiting ≡ c ∷ cs → AreRenewed l r
    → AreRenewed (noted l (begins s)) (told_next r cs)
auth_renewed l r s c cs owned shaped within due pending waits h =
    let is : is_of_renewal s.owner ≡ true = ap is_of_renewal owned in
    let count = count_auth l.starts s is in
    let well = due_well r due in
    record {
      over_is = h.over_is;
      waits = next_dropped l.creds.renewals (renewal_count l.starts) c cs (sym h.waits ∙ waits) ∙ ap (λ n. drop n l.creds.renewals) (sym count);
      some = (let one = some_dropped l.creds.renewals (renewal_count l.starts) c cs (sym h.waits ∙ waits) in omega (arith, one, count));
      asked_is = h.asked_is ∙ ap (λ (b : Bool). renewal_count l.starts + (if b then 1 else 0)) pending ∙ (let e : renewal_count l.starts + 1 ≡ suc (renewal_count l.starts) + 0 = omega arith in e) ∙ ap (λ n. n + 0) (sym count);
      timed_is = h.timed_is;
      next = λ p. cc p;
      shaped = λ k x at renews. elim (get_more l.starts s k x at) [
        | inl old ↦ h.shaped k x old renews
        | inr new ↦ ap (λ (y : Start). y.shape) (sym new.1) ∙ shaped
      ];
      answered = λ u. cc u;
      unanswered = λ u. record {
        k = length l.starts;
        last = last_auth l.starts s 0 None is ∙ ap Some (let e : 0 + length l.starts ≡ length l.starts = omega arith in e);
        open_is = begun_open l s (length l.starts) refl within;
        earlier = before_begins l s (length l.starts) (omega arith) (h.answered well.0);
      };
      kept = h.kept;
      taken = λ k u. cc u;
      lost = λ x. absurd (not_both r.lost well.1 x);
    }

-- the next are to be told, and have their timer where they are to be answered within a time
pub asked_renewed : (l : Ledger) (r : Renewal) (last : Option ℕ) → r.pending ≡ false → is_due r ≡ true → r.within ≡ None → AreRenewed l r → AreRenewed l (asked_next r last)
asked_renewed l r last none due within h = record {
  over_is = h.over_is;
  waits = h.waits;
  some = h.some;
  asked_is = ap (λ n. n + 1) (h.asked_is ∙ ap (λ (b : Bool). renewal_count l.starts + (if b then 1 else 0)) none) ∙ (let e : renewal_count l.starts + 0 + 1 ≡ renewal_count l.starts + 1 = omega arith in e);
  timed_is = h.timed_is ∙ ap (λ o. timed_of o r.asked) within ∙ sym (ap (λ o. timed_of o (r.asked + 1)) within);
  next = λ p. ((due_well r due).0, some_wait r due);
  shaped = h.shaped;
  answered = h.answered;
  unanswered = h.unanswered;
  kept = h.kept;
  taken = h.taken;
  lost = h.lost;
}

-- with the timer
pub timed_renewed : (l : Ledger) (r : Renewal) (last : Option ℕ) (ms : ℕ) → r.pending ≡ false → is_due r ≡ true → r.within ≡ Some ms → AreRenewed l r → AreRenewed (noted l times) (asked_next r last)
timed_renewed l r last ms none due within h = record {
  over_is = h.over_is;
  waits = h.waits;
  some = h.some;
  asked_is = ap (λ n. n + 1) (h.asked_is ∙ ap (λ (b : Bool). renewal_count l.starts + (if b then 1 else 0)) none) ∙ (let e : renewal_count l.starts + 0 + 1 ≡ renewal_count l.starts + 1 = omega arith in e);
  timed_is = ap (λ n. n + 1) (h.timed_is ∙ ap (λ o. timed_of o r.asked) within) ∙ sym (ap (λ o. timed_of o (r.asked + 1)) within);
  next = λ p. ((due_well r due).0, some_wait r due);
  shaped = h.shaped;
  answered = h.answered;
  unanswered = λ u. let s = h.unanswered u in record { k = s.k; last = s.last; open_is = s.open_is; earlier = s.earlier };
  kept = h.kept;
  taken = h.taken;
  lost = h.lost;
}
