-- What is tied of rounds is kept, where no round begins.
use Rattle.std.proofs.Common.{◌≡◌, ℕ, ◌<◌, ◌==◌, Bool, true, false, List, [], length, refl, sym, ap, ◌∙◌, subst}
use Rattle.containers.proofs.Choices.{by_test, eq_from, ne_from, not_both}
use Rattle.mux_conn.specs.declared.request.Pending.{Pending}
use Rattle.mux_conn.specs.declared.request.Progress.{Progress}
use Rattle.mux_conn.specs.declared.request.Progress.TheVariants as progress
use Rattle.mux_conn.specs.declared.request.Request.{Request}
use Rattle.mux_conn.specs.Requests.{if_there, is_admitted, is_admitted_at, is_open, is_open_at, is_placed, is_placed_at, is_unbegun, is_unbegun_at, name_at, with_permits}
use Rattle.std.specs.Prelude.{Option, None, Some, slice_get}
use Rattle.legal_trace.specs.Story.{Story}
use Rattle.mux_conn.specs.declared.again.Again.{Again}
use Rattle.mux_conn.specs.declared.life.Life.{Life}
use Rattle.conn_laws.proofs.Requests.Further.{IsLonger, IsNext, SameBefore, before_or_new, story_at, there_longer}
use Rattle.conn_laws.proofs.Ties.Names.{name_with, with_same, with_then}
use Rattle.conn_laws.proofs.Changes.Requests.{test_other as with_other}
use Rattle.conn_laws.proofs.Ties.Numbers.{IsIn}
use Rattle.conn_laws.proofs.Internal.Repeats.{serves}
use Rattle.conn_laws.proofs.Ties.Tied.{TiedNames, TiedRounds, AreEarly, has_ended, link_in}

-- of stories whose rounds are the same
abbrev pub SameRounds : (ℕ → Story) → (ℕ → Story) → Type 0
SameRounds f g = (n : ℕ) → (g n).rounded ≡ (f n).rounded

-- so what is tied of them is
pub rounds_same : {comes ready rounds : Bool} (f g : ℕ → Story) (requests : List Request) (fresh : List ℕ) → SameRounds f g → TiedRounds comes f requests ready fresh rounds → TiedRounds comes g requests ready fresh rounds
rounds_same f g requests fresh same h = record {
  rounds_is = h.rounds_is;
  unbegun = λ p u. same (name_at requests p) ∙ h.unbegun p u;
  begun = λ p r o u. same (name_at requests p) ∙ h.begun p r o u;
  new = h.new;
}

-- where others came in this turn, or the link takes requests or doesn't
pub rounds_new : {comes ready now rounds : Bool} (story : ℕ → Story) (requests : List Request) (fresh later : List ℕ) → ((p : ℕ) → rounds ≡ true → now ≡ true → is_unbegun_at requests p ≡ true → IsIn p later) → TiedRounds comes story requests ready fresh rounds
    → TiedRounds comes story requests now later rounds
rounds_new story requests fresh later new h = record { rounds_is = h.rounds_is; unbegun = h.unbegun; begun = h.begun; new = new }

-- where the link takes none
pub rounds_down : {comes ready now rounds : Bool} (story : ℕ → Story) (requests : List Request) (fresh later : List ℕ) → now ≡ false → TiedRounds comes story requests ready fresh rounds → TiedRounds comes story requests now later rounds
rounds_down {now = now} story requests fresh later down h = rounds_new story requests fresh later (λ p r up u. absurd (not_both now down up)) h

-- a request comes further whose round has begun, where rounds are shown, or is closed
pub rounds_with : {comes ready rounds : Bool} (f g : ℕ → Story) (requests : List Request) (fresh : List ℕ) (p : ℕ) (now : Progress) (count : ℕ) → p < length requests → is_unbegun now ≡ false → SameRounds f g
    → (rounds ≡ true → is_open now ≡ true → (f (name_at requests p)).rounded ≡ true) → TiedRounds comes f requests ready fresh rounds → TiedRounds comes g (with_permits requests p now count) ready fresh rounds
rounds_with {rounds = rounds} f g requests fresh p now count within past same own h = record {
  rounds_is = h.rounds_is;
  unbegun = λ m u. story_is m ∙ h.unbegun m (was m u).1;
  begun = λ m r o u. story_is m ∙ by_test (p == m) _
      (λ t.
      let e = eq_from p m t in
      subst (λ k. (f (name_at requests k)).rounded ≡ true) e (own r (sym (with_same is_open requests p now count within) ∙ ap (is_open_at (with_permits requests p now count)) e ∙ o)))
      (λ n.
      let other = ne_from p m n in
      h.begun m r (sym (with_other is_open requests p m now count other) ∙ o) (sym (with_other is_unbegun requests p m now count other) ∙ u));
  new = λ m r up u. h.new m r up (was m u).1;
}
  where
    story_is : (m : ℕ) → (g (name_at (with_permits requests p now count) m)).rounded ≡ (f (name_at requests m)).rounded
    story_is m = ap (λ n. (g n).rounded) (name_with requests p now count m) ∙ same (name_at requests m)

    was : (m : ℕ) → is_unbegun_at (with_permits requests p now count) m ≡ true → (p ≡ m → ⊥) × (is_unbegun_at requests m ≡ true)
    was m u = with_then is_unbegun requests p m now count past within u

-- one more submission, and perhaps one more request
pub rounds_longer : {comes ready rounds : Bool} (table : List (Option Pending)) (story after : ℕ → Story) (requests more : List Request) (fresh later : List ℕ) → TiedNames table requests → SameBefore story after (length table) → IsLonger requests more → fresh ≡ [] → IsNext after requests more later
    → TiedRounds comes story requests ready fresh rounds → TiedRounds comes after more ready later rounds
rounds_longer table story after requests more fresh later names same longer no_fresh next h = record {
  rounds_is = h.rounds_is;
  unbegun = λ p u. before_or_new requests more p _
      (λ old. still p old ∙ h.unbegun p (sym (there_longer is_unbegun requests more p longer old) ∙ u))
      (λ past. (next.unbegun p u past).0);
  begun = λ p r o u. before_or_new requests more p _
      (λ old. still p old ∙ h.begun p r (sym (there_longer is_open requests more p longer old) ∙ o) (sym (there_longer is_unbegun requests more p longer old) ∙ u))
      (λ past. absurd (next.begun p o u past));
  new = λ p r up u. before_or_new requests more p _
      (λ old. absurd (subst (IsIn p) no_fresh (h.new p r up (sym (there_longer is_unbegun requests more p longer old) ∙ u))))
      (λ past. (next.unbegun p u past).1);
}
  where
    still : (p : ℕ) → p < length requests → (after (name_at more p)).rounded ≡ (story (name_at requests p)).rounded
    still p old = ap (λ (s : Story). s.rounded) (story_at table story after requests more p names same longer old)

-- until the link takes requests
--
-- a request is closed
pub early_closed : (requests : List Request) (a : Again) (life : Life) (p : ℕ) → p < length requests → AreEarly requests a life → AreEarly (with_permits requests p progress.Closed 0) a life
early_closed requests a life p within h unserved alive = record {
  unbegun = λ m o.
      let k = with_then is_open requests p m progress.Closed 0 refl within o in
      with_other is_unbegun requests p m progress.Closed 0 k.0 ∙ (h unserved alive).unbegun m k.1;
  empty = (h unserved alive).empty;
}

-- perhaps one more came
pub early_longer : (after : ℕ → Story) (requests more : List Request) (later : List ℕ) (a : Again) (life : Life) → IsLonger requests more → IsNext after requests more later → AreEarly requests a life → AreEarly more a life
early_longer after requests more later a life longer next h unserved alive = record {
  unbegun = λ p o. before_or_new requests more p _
      (λ old. there_longer is_unbegun requests more p longer old ∙ (h unserved alive).unbegun p (sym (there_longer is_open requests more p longer old) ∙ o))
      (λ past. by_test (is_unbegun_at more p) _ (λ u. u) (λ f. absurd (next.begun p o f past)));
  empty = (h unserved alive).empty;
}

-- where it takes them
pub early_never : (requests : List Request) (a : Again) (life : Life) → serves life a ≡ true → AreEarly requests a life
early_never requests a life up down alive = absurd (not_both (serves life a) down up)

-- the link is another one without messages, which doesn't take requests either
pub early_on : (requests : List Request) (a b : Again) (life after : Life) → serves life a ≡ false → has_ended life ≡ false → (link_in after).queue ≡ [] → AreEarly requests a life → AreEarly requests b after
early_on requests a b life after unserved alive empty h below goes = record { unbegun = (h unserved alive).unbegun; empty = empty }

-- what has come further than to wait has begun
pub further_begun : (test : Progress → Bool) (requests : List Request) (p : ℕ) → ((r : Progress) → test r ≡ true → is_unbegun r ≡ false) → if_there test (slice_get requests p) ≡ true → is_unbegun_at requests p ≡ false
further_begun test requests p h e = by_request (slice_get requests p) e
  where
    by_request : (r : Option Request) → if_there test r ≡ true → if_there is_unbegun r ≡ false
    by_request None e = refl
    by_request (Some r) e = h r.progress e

-- who waits for a place
pub admitted_begun : (requests : List Request) (p : ℕ) → is_admitted_at requests p ≡ true → is_unbegun_at requests p ≡ false
admitted_begun requests p e = further_begun is_admitted requests p by_progress e
  where
    by_progress : (r : Progress) → is_admitted r ≡ true → is_unbegun r ≡ false
    by_progress progress.Waiting e = cc
    by_progress progress.Begun e = refl
    by_progress progress.Admitted e = refl
    by_progress progress.Placed e = refl
    by_progress progress.Closed e = refl

-- and who has one
pub placed_begun : (requests : List Request) (p : ℕ) → is_placed_at requests p ≡ true → is_unbegun_at requests p ≡ false
placed_begun requests p e = further_begun is_placed requests p by_progress e
  where
    by_progress : (r : Progress) → is_placed r ≡ true → is_unbegun r ≡ false
    by_progress progress.Waiting e = cc
    by_progress progress.Begun e = refl
    by_progress progress.Admitted e = refl
    by_progress progress.Placed e = refl
    by_progress progress.Closed e = refl
