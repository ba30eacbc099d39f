-- A response timer fires: where its request is open, its time is over.
use Rattle.std.proofs.Common.{◌≡◌, inl, inr, ℕ, ◌==◌, true, false, List, [], ◌∷◌, ◌++◌, suc, if◌then◌else◌, refl, sym, ap, ◌∙◌, subst, arith}
use Rattle.std.specs.List.{AllByRecursion}
use Rattle.containers.proofs.Choices.{both_left, chosen, eq_from, ne_from, not_both}
use Rattle.link_core.specs.declared.message.Entry.{Entry}
use Rattle.link_core.specs.declared.message.Queued.{Queued}
use Rattle.link_core.specs.Row.{silent, is_entry_of, silenced}
use Rattle.link_core.specs.Waiting.{is_wanted, without}
use Rattle.link_laws.specs.Settles.{wanted}
use Rattle.mux_conn.specs.declared.life.Life.{Life}
use Rattle.mux_conn.specs.declared.life.Life.TheVariants.{Resting, Dialing, Wanting, SettingUp, Ready, Ended}
use Rattle.mux_conn.specs.declared.request.Request.{Request}
use Rattle.mux_conn.specs.Requests.{name_at}
use Rattle.mux_conn.specs.Effects.{cancelled_in}
use Rattle.legal_trace.specs.Story.{Story, fires, is_open}
use Rattle.conn_laws.proofs.Ties.Numbers.{IsIn, in_left, in_either, Rising, rising_in, requests_in, is_own}
use Rattle.conn_laws.proofs.Ties.Tied.{queue_ids, IsEntry, IsQueued, IsRequest, has_ended}
use Rattle.conn_laws.proofs.Ties.InLine.{row_ids, chosen_in}
use Rattle.conn_laws.proofs.Ties.Permits.{IsHolding}
use Rattle.conn_laws.proofs.Requests.Cancel.{queued_apart, apart_behind, rising_behind}

-- a story whose timer fires
--
-- the same but that its time may be over
pub record IsFired (s t : Story) : Type 0 where
  pub submission : s.submission ≡ t.submission
  pub timeout : s.timeout ≡ t.timeout
  pub tries : s.tries ≡ t.tries
  pub waiting : t.waiting ≡ s.waiting
  pub outcomes : s.outcomes ≡ t.outcomes
  pub holds : IsHolding s t

-- so it is
pub fires_same : (s : Story) → IsFired s (fires s)
fires_same s = chosen (IsFired s) (is_open s) (record s { overdue = true }) s
    (λ t. record { submission = refl; timeout = refl; tries = refl; waiting = refl; outcomes = refl; holds = record { link = refl; permits = refl; timeout = refl; clock = refl } })
    (λ f. record { submission = refl; timeout = refl; tries = refl; waiting = refl; outcomes = refl; holds = record { link = refl; permits = refl; timeout = refl; clock = refl } })

-- a request is one still
pub fires_request : (s : Story) (requests : List Request) (link p : ℕ) → IsRequest s requests link p → IsRequest (fires s) requests link p
fires_request s requests link p h = chosen (λ (x : Story). IsRequest x requests link p) (is_open s) (record s { overdue = true }) s
    (λ t. record { what = h.what; handed_in = h.handed_in; in_time = h.in_time; spoken = h.spoken; on = h.on; some = h.some; open_is = h.open_is; permits_is = h.permits_is })
    (λ f. h)

-- a link without its message
--
-- what holds of each of a queue
pub all_without : (P : Queued → Type 0) (queue : List Queued) (p : ℕ) → AllByRecursion P queue → AllByRecursion P (without queue p)
all_without P [] p all = tt
all_without P (q ∷ qs) p all = chosen (AllByRecursion P) (is_wanted p q) qs (q ∷ without qs p) (λ t. all.1) (λ f. (all.0, all_without P qs p all.1))

-- the entries of a row
pub silenced_still : (requests : List Request) (row : List Entry) (p : ℕ) → is_own p ≡ false → AllByRecursion (IsEntry requests) row → AllByRecursion (IsEntry requests) (silenced row p)
silenced_still requests [] p other all = tt
silenced_still requests (e ∷ es) p other all =
    chosen (AllByRecursion (IsEntry requests)) (is_entry_of p e) (silent e ∷ es) (e ∷ silenced es p)
    (λ t. (
      elim all.0 [ inl x ↦ inl (record { below = x.below; placed_at = λ z. cc }) | inr a ↦ absurd (not_both (is_own e.id) (ap is_own (eq_from e.id p t) ∙ other) a.is) ],
      all.1,
    ))
    (λ f. (all.0, silenced_still requests es p other all.1))

-- the request is not wanted in the row any more
pub silenced_apart : (row : List Entry) (ys : List ℕ) (p lo hi : ℕ) → is_own p ≡ false → Rising lo (requests_in (row_ids row) ++ ys) hi → IsIn p (wanted (silenced row p)) → ⊥
silenced_apart [] ys p lo hi other r i = i
silenced_apart (e ∷ es) ys p lo hi other r i =
    chosen (λ (row : List Entry). IsIn p (wanted row) → ⊥) (is_entry_of p e) (silent e ∷ es) (e ∷ silenced es p)
    (λ t j.
    let same = eq_from e.id p t in
    apart_behind lo e.id es ys hi (ap is_own same ∙ other) r (subst (λ n. IsIn n (wanted es)) (sym same) j))
    (λ f j. elim (in_either p (if e.awaited then e.id ∷ [] else []) (wanted (silenced es p)) j) [
      | inl k ↦ ne_from e.id p f (chosen_in e.awaited p e.id k)
      | inr k ↦ silenced_apart es ys p lo hi other (rising_behind lo e.id (row_ids es) ys hi r) k
    ]) i

-- nor is it in the queue
pub without_none : (story : ℕ → Story) (requests : List Request) (queue : List Queued) (ys : List ℕ) (p lo hi : ℕ) → is_open (story (name_at requests p)) ≡ true → Rising lo (queue_ids queue ++ ys) hi → AllByRecursion (IsQueued story requests) queue
    → IsIn p (queue_ids (without queue p)) → ⊥
without_none story requests [] ys p lo hi o r all i = i
without_none story requests (x ∷ xs) ys p lo hi o r all i =
    chosen (λ (qs : List Queued). IsIn p (queue_ids qs) → ⊥) (is_wanted p x) xs (x ∷ without xs p)
    (λ t j.
    let same = eq_from x.id p (both_left (x.id == p) x.awaited t) in
    let k = rising_in (suc x.id) (queue_ids xs ++ ys) hi p r.1 (in_left p (queue_ids xs) ys j) in
    omega (arith, k.0, same))
    (λ f j. elim j [
      | inl same ↦ queued_apart story requests p x o f all.0 (sym same)
      | inr k ↦ without_none story requests xs ys p (suc x.id) hi o r.1 all.1 k
    ]) i

-- the answer
--
-- a cancel ends no link
pub still_alive : (life : Life) (p : ℕ) → has_ended life ≡ false → has_ended (cancelled_in life p) ≡ false
still_alive Resting p e = refl
still_alive Dialing p e = refl
still_alive (Wanting link) p e = refl
still_alive (SettingUp link greeting) p e = refl
still_alive (Ready link) p e = refl
still_alive (Ended x) p e = e
