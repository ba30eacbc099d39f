-- The caller of a request has gone: what this leaves of requests and of their link.
use Rattle.std.proofs.Common.{◌≡◌, ◌≢◌, inl, inr, ℕ, suc, ◌<◌, ◌≤◌, ◌==◌, Bool, true, false, ◌&&◌, not, is_some, List, [], ◌∷◌, ◌++◌, length, Option, None, if◌then◌else◌, refl, sym, ap, ◌∙◌, subst, arith}
use Rattle.std.specs.List.{AllByRecursion}
use Rattle.containers.proofs.Choices.{by_test, both_left, chosen, left_if, taken_if, eq_from, eq_test, ne_from, not_both}
use Rattle.driver_model.specs.declared.hearing.Hearing.{Hearing}
use Rattle.connection_info.specs.declared.address.RedisConnectionInfo.{RedisConnectionInfo}
use Rattle.driver_model.specs.declared.action.Owner.TheVariants as owner
use Rattle.driver_model.specs.declared.outcome.Outcome.TheVariants as outcome
use Rattle.resp_value.specs.declared.value.Value.TheVariants.{Nil}
use Rattle.driver_model.specs.News.{silence}
use Rattle.link_core.specs.declared.message.Entry.{Entry}
use Rattle.link_core.specs.declared.message.Queued.{Queued}
use Rattle.link_core.specs.Link.{cancelled}
use Rattle.link_core.specs.Row.{silent, is_entry_of, silenced}
use Rattle.link_core.specs.Waiting.{is_wanted, without}
use Rattle.link_laws.specs.Settles.{wanted, awaited_ids}
use Rattle.link_laws.proofs.TiedLink.{TiedLink, told_tied, cancelled_tied}
use Rattle.mux_conn.specs.declared.connection.MultiplexedConnection.{MultiplexedConnection}
use Rattle.mux_conn.specs.declared.again.Again.{Again}
use Rattle.mux_conn.specs.declared.life.Life.{Life}
use Rattle.mux_conn.specs.declared.life.Life.TheVariants.{Resting, Dialing, Wanting, SettingUp, Ready, Ended}
use Rattle.mux_conn.specs.declared.request.Progress.TheVariants as progress
use Rattle.mux_conn.specs.declared.request.Request.{Request}
use Rattle.mux_conn.specs.declared.request.Waiting.{Waiting}
use Rattle.mux_conn.specs.Requests.{is_placed, name_at, with_permits}
use Rattle.mux_conn.specs.Effects.{cancelled_in}
use Rattle.legal_trace.specs.Ledger.{Ledger, Sourced}
use Rattle.legal_trace.specs.Story.{Story, is_open, left}
use Rattle.mux_conn.specs.declared.renewal.Renewal.{Renewal}
use Rattle.conn_laws.proofs.Ties.Numbers.{IsIn, in_left, in_right, in_either, Rising, rising_from, rising_in, requests_in, request_in, requests_first, is_own}
use Rattle.conn_laws.proofs.Links.Server.{TiedCreds, TiedSetup, TiedRenewal, hearing_at}
use Rattle.conn_laws.proofs.Ties.Tied.{carried, link_in, owner_of, queue_ids, whole_link, IsQueued, IsEntry, TiedLife, has_ended, greeter, AreEarly}
use Rattle.conn_laws.proofs.Ties.States.{IsFit, IsFitIn, IsStopped}
use Rattle.conn_laws.proofs.Changes.Requests.{progress_count as length_with, test_other as with_other}
use Rattle.conn_laws.proofs.Ties.InLine.{row_ids, chosen_in, awaited_in, wanted_in}
use Rattle.conn_laws.proofs.Ties.Owes.{answered_closed}
use Rattle.conn_laws.proofs.Requests.Closing.{Closes, WasReady, WasSettingUp, WasWanting, AreOthers}
use Rattle.conn_laws.proofs.Requests.Answer.{entries_answered}
use Rattle.conn_laws.proofs.Links.Said.{setup_on}
use Rattle.mux_conn.specs.Connection.{is_outstanding, is_ready, is_resting}
use Rattle.conn_laws.proofs.Internal.Repeats.{TiedRepeat, serves}
use Rattle.sub_tracker.specs.Subscribed.{Request as Call}
use Rattle.conn_laws.proofs.Internal.Serving.{unready_serves}

-- one who leaves closes its story
--
-- one who has gone is not open
gone_closed : (a b : Bool) → (a && b && false) ≡ false
gone_closed true true = refl
gone_closed true false = refl
gone_closed false b = refl

-- the story of one who leaves closes
pub leave_closes : (s : Story) → Closes s (left s)
leave_closes s = chosen (Closes s) (is_open s) (record s { cancelled = true; permits = 0; waiting = None }) s
    (λ t. record { submission = refl; late = refl; unspoken = refl; link = refl; time = refl; tries = refl; rounded = refl; closed = gone_closed (is_some s.submission) (length s.outcomes == 0) })
    (λ f. record { submission = refl; late = refl; unspoken = refl; link = refl; time = refl; tries = refl; rounded = refl; closed = f })

-- its permits are free
pub leave_frees : (s : Story) → is_open s ≡ true → (left s).permits ≡ 0
leave_frees s asked = ap (λ (x : Story). x.permits) (taken_if (is_open s) (record s { cancelled = true; permits = 0; waiting = None }) s asked)

-- and its link is the same
pub leave_link : (s : Story) → (left s).link ≡ s.link
leave_link s = (leave_closes s).link

-- a link without its message's verdict
--
-- the others are still wanted
pub silenced_wanted : (row : List Entry) (p q : ℕ) → p ≢ q → IsIn q (wanted row) → IsIn q (wanted (silenced row p))
silenced_wanted [] p q other i = i
silenced_wanted (e ∷ es) p q other i =
    chosen (λ (x : List Entry). IsIn q (wanted x)) (is_entry_of p e) (silent e ∷ es) (e ∷ silenced es p)
    (λ t. elim (in_either q ids (wanted es) i) [ inl j ↦ absurd (own e.awaited (eq_from e.id p t) j) | inr j ↦ j ])
    (λ f. elim (in_either q ids (wanted es) i) [ inl j ↦ in_left q ids (wanted (silenced es p)) j | inr j ↦ in_right q ids (wanted (silenced es p)) (silenced_wanted es p q other j) ])
  where
    ids : List ℕ
    ids = if e.awaited then e.id ∷ [] else []

    own : (b : Bool) → e.id ≡ p → IsIn q (if b then e.id ∷ [] else []) → ⊥
    own true same j = elim j [ inl is ↦ other (sym same ∙ is) | inr k ↦ k ]
    own false same j = j

-- the requests among numbers rise behind the first
pub rising_behind : (lo n : ℕ) (xs ys : List ℕ) (hi : ℕ) → Rising lo (requests_in (n ∷ xs) ++ ys) hi → Rising lo (requests_in xs ++ ys) hi
rising_behind lo n xs ys hi r = by_test (is_own n) _
    (λ t. subst (λ ns. Rising lo (ns ++ ys) hi) (taken_if (is_own n) (requests_in xs) (n ∷ requests_in xs) t) r)
    (λ f. let k = subst (λ ns. Rising lo (ns ++ ys) hi) (left_if (is_own n) (requests_in xs) (n ∷ requests_in xs) f) r in let l : lo ≤ n = k.0 in rising_from (suc n) lo (requests_in xs ++ ys) hi (omega arith) k.1)

-- none of those behind a request is that request
pub apart_behind : (lo n : ℕ) (row : List Entry) (ys : List ℕ) (hi : ℕ) → is_own n ≡ false → Rising lo (requests_in (n ∷ row_ids row) ++ ys) hi → IsIn n (wanted row) → ⊥
apart_behind lo n row ys hi other r i =
    let k = subst (λ ns. Rising lo (ns ++ ys) hi) (requests_first n (row_ids row) other) r in
    let j = rising_in (suc n) (requests_in (row_ids row) ++ ys) hi n k.1 (in_left n (requests_in (row_ids row)) ys (request_in n (row_ids row) other (wanted_in n row i))) in
    omega (arith, j.0)

-- and have their places
pub silenced_entries : (requests : List Request) (p lo hi : ℕ) (row : List Entry) (ys : List ℕ) → is_own p ≡ false → Rising lo (requests_in (row_ids row) ++ ys) hi → AllByRecursion (IsEntry requests) row → AllByRecursion (IsEntry (with_permits requests p progress.Closed 0)) (silenced row p)
silenced_entries requests p lo hi [] ys other r all = tt
silenced_entries requests p lo hi (e ∷ es) ys other r all =
    let long = sym (length_with requests p progress.Closed 0) in
    chosen (λ (x : List Entry). AllByRecursion (IsEntry (with_permits requests p progress.Closed 0)) x) (is_entry_of p e) (silent e ∷ es) (e ∷ silenced es p)
    (λ t.
    let same = eq_from e.id p t in
    let own : is_own e.id ≡ false = ap is_own same ∙ other in (
      elim all.0 [
        | inl x ↦ inl (record { below = subst (λ n. e.id < n) long x.below; placed_at = λ z. cc })
        | inr a ↦ absurd (not_both (is_own e.id) own a.is)
      ],
      entries_answered requests p es (λ i. apart_behind lo e.id es ys hi own r (subst (λ n. IsIn n (wanted es)) (sym same) i)) all.1,
    ))
    (λ f. (
      elim all.0 [
        | inl x ↦ inl (record { below = subst (λ n. e.id < n) long x.below; placed_at = λ z. with_other is_placed requests p e.id progress.Closed 0 (λ same. ne_from e.id p f (sym same)) ∙ x.placed_at z })
        | inr a ↦ inr a
      ],
      silenced_entries requests p lo hi es ys other (rising_behind lo e.id (row_ids es) ys hi r) all.1,
    ))

-- a queue without a message
--
-- the others stay in it
pub without_others : (queue : List Queued) (p q : ℕ) → p ≢ q → IsIn q (queue_ids queue) → IsIn q (queue_ids (without queue p))
without_others [] p q other i = i
without_others (x ∷ xs) p q other i =
    chosen (λ (ys : List Queued). IsIn q (queue_ids ys)) (is_wanted p x) xs (x ∷ without xs p)
    (λ t. elim i [ inl same ↦ absurd (other (sym (eq_from x.id p (both_left (x.id == p) x.awaited t)) ∙ same)) | inr j ↦ j ])
    (λ f. elim i [ inl same ↦ inl same | inr j ↦ inr (without_others xs p q other j) ])

-- and so do those that are awaited
pub without_awaited : (queue : List Queued) (p q : ℕ) → p ≢ q → IsIn q (awaited_ids queue) → IsIn q (awaited_ids (without queue p))
without_awaited [] p q other i = i
without_awaited (x ∷ xs) p q other i =
    let own = if x.awaited then x.id ∷ [] else [] in
    chosen (λ (ys : List Queued). IsIn q (awaited_ids ys)) (is_wanted p x) xs (x ∷ without xs p)
    (λ t. elim (in_either q own (awaited_ids xs) i) [ inl j ↦ absurd (other (sym (eq_from x.id p (both_left (x.id == p) x.awaited t)) ∙ chosen_in x.awaited q x.id j)) | inr j ↦ j ])
    (λ f. elim (in_either q own (awaited_ids xs) i) [ inl j ↦ in_left q own (awaited_ids (without xs p)) j | inr j ↦ in_right q own (awaited_ids (without xs p)) (without_awaited xs p q other j) ])

-- and what is in it then was
pub without_in : (queue : List Queued) (p q : ℕ) → IsIn q (queue_ids (without queue p)) → IsIn q (queue_ids queue)
without_in [] p q i = i
without_in (x ∷ xs) p q i = chosen (λ (ys : List Queued). IsIn q (queue_ids ys) → IsIn q (queue_ids (x ∷ xs))) (x.id == p && x.awaited) xs (x ∷ without xs p)
    (λ t j. inr j)
    (λ f j. elim j [ inl same ↦ inl same | inr k ↦ inr (without_in xs p q k) ]) i

-- what it holds then it held before
pub without_was : (queue : List Queued) (p q : ℕ) → IsIn q (awaited_ids (without queue p)) → IsIn q (awaited_ids queue)
without_was [] p q i = i
without_was (x ∷ xs) p q i =
    let own = if x.awaited then x.id ∷ [] else [] in
    chosen (λ (ys : List Queued). IsIn q (awaited_ids ys) → IsIn q (awaited_ids (x ∷ xs))) (is_wanted p x) xs (x ∷ without xs p)
    (λ t j. in_right q own (awaited_ids xs) j)
    (λ f j. elim (in_either q own (awaited_ids (without xs p)) j) [ inl k ↦ in_left q own (awaited_ids xs) k | inr k ↦ in_right q own (awaited_ids xs) (without_was xs p q k) ]) i

-- and it holds that message no more
pub without_apart : (queue : List Queued) (ys : List ℕ) (p lo hi : ℕ) → Rising lo (queue_ids queue ++ ys) hi → IsIn p (awaited_ids (without queue p)) → ⊥
without_apart [] ys p lo hi r i = i
without_apart (x ∷ xs) ys p lo hi r i =
    chosen (λ (qs : List Queued). IsIn p (awaited_ids qs) → ⊥) (is_wanted p x) xs (x ∷ without xs p)
    (λ t j.
    let same = eq_from x.id p (both_left (x.id == p) x.awaited t) in
    let k = rising_in (suc x.id) (queue_ids xs ++ ys) hi p r.1 (in_left p (queue_ids xs) ys (awaited_in p xs j)) in
    omega (arith, k.0, same))
    (λ f j. elim (in_either p (if x.awaited then x.id ∷ [] else []) (awaited_ids (without xs p)) j) [
      | inl k ↦ own x.awaited f k
      | inr k ↦ without_apart xs ys p (suc x.id) hi r.1 k
    ]) i
  where
    own : (b : Bool) → ((x.id == p) && b) ≡ false → IsIn p (if b then x.id ∷ [] else []) → ⊥
    own true f k = elim k [ inl same ↦ not_both ((x.id == p) && true) f (λ i. eq_test x.id p same i && true) | inr none ↦ none ]
    own false f k = k

-- its numbers rise
pub without_rises : (queue : List Queued) (ys : List ℕ) (p lo hi : ℕ) → Rising lo (queue_ids queue ++ ys) hi → Rising lo (queue_ids (without queue p) ++ ys) hi
without_rises [] ys p lo hi r = r
without_rises (x ∷ xs) ys p lo hi r =
    chosen (λ (qs : List Queued). Rising lo (queue_ids qs ++ ys) hi) (is_wanted p x) xs (x ∷ without xs p)
    (λ t. let l : lo ≤ x.id = r.0 in rising_from (suc x.id) lo (queue_ids xs ++ ys) hi (omega arith) r.1)
    (λ f. (r.0, without_rises xs ys p (suc x.id) hi r.1))

-- and it is no longer
pub without_length : (queue : List Queued) (p : ℕ) → length (without queue p) ≤ length queue
without_length [] p = omega arith
without_length (x ∷ xs) p =
    let l = without_length xs p in
    chosen (λ (qs : List Queued). length qs ≤ length (x ∷ xs)) (is_wanted p x) xs (x ∷ without xs p) (λ t. omega arith) (λ f. omega arith)

-- a message of the queue is not that of an open request unless it is awaited
pub queued_apart : (story : ℕ → Story) (requests : List Request) (p : ℕ) (q : Queued) → is_open (story (name_at requests p)) ≡ true → is_wanted p q ≡ false → IsQueued story requests q → p ≢ q.id
queued_apart story requests p q asked f h same =
    let unawaited : q.awaited ≡ false = by_test q.awaited _ (λ t. absurd (not_both (is_wanted p q) f (λ i. eq_test q.id p (sym same) i && t i))) (λ n. n) in
    let told : (story (name_at requests p)).outcomes ≡ outcome.One Nil ∷ [] = ap (λ m. (story (name_at requests m)).outcomes) same ∙ h.told unawaited in
    not_both (is_open (story (name_at requests p))) (answered_closed (story (name_at requests p)) [] (outcome.One Nil) told) asked

-- by the life of the link
--
-- the link is as far as it was
pub left_life : (l : Ledger) (created : ℕ) (life : Life) (p : ℕ) → TiedLife l created life → TiedLife (record l { heard = silence }) created (cancelled_in life p)
left_life l created Resting p h = h
left_life l created Dialing p h = h
left_life l created (Wanting link) p h = h
left_life l created (SettingUp link greeting) p h = h
left_life l created (Ready link) p h = h
left_life l created (Ended e) p h = h

-- its credentials have come as far
pub left_creds : (c : Sourced) (wants : Bool) (life : Life) (p : ℕ) → TiedCreds c wants life → TiedCreds c wants (cancelled_in life p)
left_creds c wants Resting p h = h
left_creds c wants Dialing p h = h
left_creds c wants (Wanting link) p h = h
left_creds c wants (SettingUp link greeting) p h = h
left_creds c wants (Ready link) p h = record { wanted_is = h.wanted_is; sought = h.sought }
left_creds c wants (Ended e) p h = h

-- and so are new credentials
pub left_renewal : (l : Ledger) (r : Renewal) (life : Life) (p : ℕ) → TiedRenewal l r life → TiedRenewal l r (cancelled_in life p)
left_renewal l r Resting p h = h
left_renewal l r Dialing p h = h
left_renewal l r (Wanting link) p h = h
left_renewal l r (SettingUp link greeting) p h = h
left_renewal l r (Ready link) p h = h
left_renewal l r (Ended e) p h = h

-- nor of what is subscribed again
pub left_repeat : (l : Ledger) (calls : List Call) (within : Option ℕ) (a : Again) (life : Life) (p : ℕ) → TiedRepeat l calls within a life → TiedRepeat l calls within a (cancelled_in life p)
left_repeat l calls within a Resting p h = h
left_repeat l calls within a Dialing p h = h
left_repeat l calls within a (Wanting link) p h = h
left_repeat l calls within a (SettingUp link greeting) p h = h
left_repeat l calls within a (Ready link) p h = h
left_repeat l calls within a (Ended e) p h = h

-- and its setup is
pub left_setup : (l : Ledger) (info : RedisConnectionInfo) (started : List ℕ) (life : Life) (p : ℕ) → TiedSetup l info started life → TiedSetup (record l { heard = silence }) info started (cancelled_in life p)
left_setup l info started Resting p h = setup_on l l.asked l.up l.end l.taken l.offer l.rest silence info started Resting h
left_setup l info started Dialing p h = setup_on l l.asked l.up l.end l.taken l.offer l.rest silence info started Dialing h
left_setup l info started (Wanting link) p h = setup_on l l.asked l.up l.end l.taken l.offer l.rest silence info started (Wanting link) h
left_setup l info started (SettingUp link greeting) p h = setup_on l l.asked l.up l.end l.taken l.offer l.rest silence info started (SettingUp link greeting) h
left_setup l info started (Ready link) p h = let k = setup_on l l.asked l.up l.end l.taken l.offer l.rest silence info started (Ready link) h in record { info_is = k.info_is; sent = k.sent; said = k.said }
left_setup l info started (Ended e) p h = setup_on l l.asked l.up l.end l.taken l.offer l.rest silence info started (Ended e) h

-- and tied to its ledger
pub left_link : (requests : List Request) (l : Ledger) (life : Life) (p : ℕ) → (has_ended life ≡ false → TiedLink (carried life requests) l (whole_link life)) → has_ended (cancelled_in life p) ≡ false
    → TiedLink (carried (cancelled_in life p) requests) (record l { heard = silence }) (whole_link (cancelled_in life p))
left_link requests l Resting p h n = told_tied (owner_of requests) l (whole_link Resting) l.asked l.up silence (h refl)
left_link requests l Dialing p h n = told_tied (owner_of requests) l (whole_link Dialing) l.asked l.up silence (h refl)
left_link requests l (Wanting link) p h n = told_tied (λ (q : ℕ). owner.Setup) l link l.asked l.up silence (h refl)
left_link requests l (SettingUp link greeting) p h n = told_tied (λ (q : ℕ). greeter greeting) l link l.asked l.up silence (h refl)
left_link requests l (Ready link) p h n = told_tied (owner_of requests) l (cancelled link p) l.asked l.up silence (cancelled_tied (owner_of requests) l link p (h refl))
left_link requests l (Ended e) p h n = cc

-- what dials has dialled before
-- one without a link has none still
pub still_rests : (life : Life) (p : ℕ) → cancelled_in life p ≡ Resting → life ≡ Resting
still_rests Resting p e = refl
still_rests Dialing p e = cc
still_rests (Wanting link) p e = cc
still_rests (SettingUp link greeting) p e = cc
still_rests (Ready link) p e = cc
still_rests (Ended x) p e = cc

pub resting_cancelled : (life : Life) (p : ℕ) → is_resting (cancelled_in life p) ≡ is_resting life
resting_cancelled Resting p = refl
resting_cancelled Dialing p = refl
resting_cancelled (Wanting link) p = refl
resting_cancelled (SettingUp link greeting) p = refl
resting_cancelled (Ready link) p = refl
resting_cancelled (Ended x) p = refl

-- and what is heard on it is the same
pub left_hearing : (life : Life) (p : ℕ) (mine hearing : Hearing) → hearing_at (cancelled_in life p) mine hearing ≡ hearing_at life mine hearing
left_hearing Resting p mine hearing = refl
left_hearing Dialing p mine hearing = refl
left_hearing (Wanting link) p mine hearing = refl
left_hearing (SettingUp link greeting) p mine hearing = refl
left_hearing (Ready link) p mine hearing = refl
left_hearing (Ended x) p mine hearing = refl

-- where it is stopped it is so still
pub left_stopped : (life : Life) (p : ℕ) (waiting : List Waiting) → IsStopped life waiting → IsStopped (cancelled_in life p) waiting
left_stopped Resting p waiting h = h
left_stopped Dialing p waiting h = h
left_stopped (Wanting link) p waiting h = h
left_stopped (SettingUp link greeting) p waiting h = h
left_stopped (Ready link) p waiting h = h
left_stopped (Ended x) p waiting h = h

-- nor is a connect answered that wasn't
pub still_dials : (life : Life) (p : ℕ) → cancelled_in life p ≡ Dialing → life ≡ Dialing
still_dials Resting p e = cc
still_dials Dialing p e = refl
still_dials (Wanting link) p e = cc
still_dials (SettingUp link greeting) p e = cc
still_dials (Ready link) p e = cc
still_dials (Ended x) p e = cc

-- a link that is up was so
pub was_ready : (life : Life) (p : ℕ) → WasReady life (cancelled_in life p)
was_ready Resting p x e = cc
was_ready Dialing p x e = cc
was_ready (Wanting link) p x e = cc
was_ready (SettingUp link greeting) p x e = cc
was_ready (Ready link) p x e = (link, refl)
was_ready (Ended y) p x e = cc

-- and whether it is ready is the same
pub ready_cancelled : (life : Life) (p : ℕ) → is_ready (cancelled_in life p) ≡ is_ready life
ready_cancelled Resting p = refl
ready_cancelled Dialing p = refl
ready_cancelled (Wanting link) p = refl
ready_cancelled (SettingUp link greeting) p = refl
ready_cancelled (Ready link) p = refl
ready_cancelled (Ended y) p = refl

-- so it takes requests where it did
pub serves_cancelled : (life : Life) (a : Again) (p : ℕ) → serves (cancelled_in life p) a ≡ serves life a
serves_cancelled life a p = ap (λ up. up && not (is_outstanding a)) (ready_cancelled life p)

-- and no round begins there
pub early_cancelled : (requests : List Request) (a : Again) (life : Life) (p : ℕ) → AreEarly requests a life → AreEarly requests a (cancelled_in life p)
early_cancelled requests a Resting p h = h
early_cancelled requests a Dialing p h = h
early_cancelled requests a (Wanting link) p h = h
early_cancelled requests a (SettingUp link greeting) p h = h
early_cancelled requests a (Ready link) p h = λ unserved alive. (let k = h unserved alive in record { unbegun = k.unbegun; empty = ap (λ (qs : List Queued). without qs p) k.empty })
early_cancelled requests a (Ended e) p h = h

-- so was one that waits for credentials
pub was_wanting : (life : Life) (p : ℕ) → WasWanting life (cancelled_in life p)
was_wanting Resting p x e = cc
was_wanting Dialing p x e = cc
was_wanting (Wanting link) p x e = (x, e)
was_wanting (SettingUp link greeting) p x e = cc
was_wanting (Ready link) p x e = cc
was_wanting (Ended y) p x e = cc

-- and so was one that is set up
pub was_setting : (life : Life) (p : ℕ) → WasSettingUp life (cancelled_in life p)
was_setting Resting p x u e = cc
was_setting Dialing p x u e = cc
was_setting (Wanting link) p x u e = cc
was_setting (SettingUp link greeting) p x u e = (x, e)
was_setting (Ready link) p x u e = cc
was_setting (Ended y) p x u e = cc

-- those that are awaited in the queue then are others
pub left_others : (requests : List Request) (life : Life) (ys : List ℕ) (p lo : ℕ) → Rising lo (queue_ids (link_in life).queue ++ ys) (length requests) → AreOthers requests p life (cancelled_in life p)
left_others requests (Ready link) ys p lo r q i =
    let was = without_was link.queue p q i in
    let k = rising_in lo (queue_ids link.queue ++ ys) (length requests) q r (in_left q (queue_ids link.queue) ys (awaited_in q link.queue was)) in
    ((λ same. without_apart link.queue ys p lo (length requests) r (subst (λ n. IsIn n (awaited_ids (without link.queue p))) (sym same) i)), k.1, was)
left_others requests Resting ys p lo r q i = absurd i
left_others requests Dialing ys p lo r q i = absurd i
left_others requests (Wanting link) ys p lo r q i = absurd i
left_others requests (SettingUp link greeting) ys p lo r q i = absurd i
left_others requests (Ended e) ys p lo r q i = absurd i

-- the link is fit
pub left_fit : (c : MultiplexedConnection) (free : ℕ) (requests : List Request) (life : Life) (p : ℕ) → c.life ≡ life → IsFitIn c → IsFitIn (record c { free = free; requests = requests; life = cancelled_in life p })
left_fit c free requests Resting p is h = record { wanting = λ x e. cc; setup = λ x u e. cc; link = λ x e. cc; none = λ n. h.none (unready_serves c.life c.again (ap is_ready is)) }
left_fit c free requests Dialing p is h = record { wanting = λ x e. cc; setup = λ x u e. cc; link = λ x e. cc; none = λ n. h.none (unready_serves c.life c.again (ap is_ready is)) }
left_fit c free requests (Wanting link) p is h = record {
  wanting = λ x e. let same : link ≡ x = cc in subst (IsFit c.size c.boundary) same (h.wanting link is);
  setup = λ x u e. cc;
  link = λ x e. cc;
  none = λ n. h.none (unready_serves c.life c.again (ap is_ready is));
}
left_fit c free requests (SettingUp link greeting) p is h = record {
  wanting = λ x e. cc;
  setup = λ x u e. let same : link ≡ x = cc in subst (IsFit c.size c.boundary) same (h.setup link greeting is);
  link = λ x e. cc;
  none = λ n. h.none (unready_serves c.life c.again (ap is_ready is));
}
left_fit c free requests (Ended y) p is h = record { wanting = λ x e. cc; setup = λ x u e. cc; link = λ x e. cc; none = λ n. h.none (unready_serves c.life c.again (ap is_ready is)) }
left_fit c free requests (Ready link) p is h = record {
  wanting = λ x e. cc;
  setup = λ x u e. cc;
  link = λ x e.
      let same : cancelled link p ≡ x = cc in
      let k = h.link link is in
      let few = without_length link.queue p in
      subst (IsFit c.size c.boundary) same (record { sound = k.sound; size_is = k.size_is; bound_is = k.bound_is; within = omega (arith, k.within, few) });
  none = λ down. h.none (ap (λ (x : Life). serves x c.again) is ∙ down);
}
