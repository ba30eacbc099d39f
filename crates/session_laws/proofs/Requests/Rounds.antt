-- The round of a request begins.
use Rattle.std.proofs.Common.{List, None, Some, [], ap, false, inl, inr, length, refl, subst, sym, true, ℕ, ◌++◌, ◌<◌, ◌∙◌, ◌∷◌, ◌≡◌, ◌≢◌}
use Rattle.std.specs.Prelude.{◌==◌}
use Rattle.containers.proofs.Choices.{by_test, chosen, eq_from, eq_test, left_if, ne_from, ne_test, not_both, taken_if}
use Rattle.driver_model.specs.declared.action.Action.{Action}
use Rattle.driver_model.specs.declared.action.Action.TheVariants as action
use Rattle.driver_model.specs.declared.action.Owner.TheVariants as owner
use Rattle.driver_model.specs.declared.action.WaitKind.TheVariants as wait
use Rattle.link_laws.specs.Settles.{awaited_ids}
use Rattle.mux_conn.specs.Connection.{is_ready, is_outstanding}
use Rattle.mux_conn.specs.declared.life.Life.{Life}
use Rattle.mux_conn.specs.declared.request.Progress.TheVariants as progress
use Rattle.mux_conn.specs.declared.request.Request.{Request}
use Rattle.mux_conn.specs.Requests.{at_progress, is_admitted, is_admitted_at, is_open, is_placed, is_placed_at, is_unbegun, is_unbegun_at, is_waiting, is_waiting_at, name_at, permits_at}
use Rattle.legal_trace.specs.Book.{Book, book, entered, has_generations, if_own}
use Rattle.legal_trace.specs.Legal.{IsFirstToMove, MayRound, NoneEnds}
use Rattle.legal_trace.specs.Story.{Story, rounds}
use Rattle.conn_laws.proofs.Changes.Requests.{waiting_open, unbegun_waits}
use Rattle.session_laws.proofs.Ties.Ahead.{IsRunning, kept_unstarted, round_step}
use Rattle.conn_laws.proofs.Requests.Closing.{one_of}
use Rattle.conn_laws.proofs.Requests.Further.{no_wait}
use Rattle.conn_laws.proofs.Requests.Going.{HasRenewed}
use Rattle.session_laws.proofs.Requests.Going.{IsGoing, begun_up, going_more}
use Rattle.conn_laws.proofs.Requests.LetIn.{AreEased, test_kept}
use Rattle.session_laws.proofs.Requests.LetIn.{eased_at, waits_on_tied}
use Rattle.conn_laws.proofs.Ties.Names.{length_still, name_still, same_name, there_other, there_then, there_within}
use Rattle.conn_laws.proofs.Ties.Numbers.{IsIn, Rising, in_right}
use Rattle.session_laws.proofs.Ties.Owes.{open_on, request_story}
use Rattle.conn_laws.proofs.Ties.Permits.{IsHolding, holding_same, permits_same}
use Rattle.conn_laws.proofs.Ties.Tied.{TiedRounds, TiedWaits, link_in, shown_wait, waiting_ids}
use Rattle.session_laws.proofs.Ties.Tied.{IsToldIn, TurnState, Tied, numbers_kept}
use Rattle.conn_laws.proofs.Requests.Waits.{awaited_placed, waiting_apart}
use Rattle.session_laws.proofs.Requests.Waits.{waiting_there}
use Rattle.conn_laws.proofs.Internal.Repeats.{serves}
use Rattle.conn_laws.proofs.Internal.Serving.{answered_serves, serves_ready, serves_answered}
use Rattle.conn_laws.proofs.Requests.Rounds.{round_permits}

-- the action that shows it
abbrev pub round_action : TurnState → ℕ → Action
round_action t p = action.Round (owner.Try (name_at t.requests p) 0) (Some t.link)

-- the stories then
abbrev rounds_at : ℕ → (ℕ → Story) → ℕ → Story
rounds_at m story n = if_own (m == n) (rounds (story n)) (story n)

-- the session then
abbrev pub with_round : TurnState → ℕ → TurnState
with_round t p = record t { requests = at_progress t.requests p progress.Begun }

-- it changes its round and its wait alone
round_eased : (story : ℕ → Story) (n : ℕ) → AreEased story (rounds_at n story) n
round_eased story n = eased_at story n rounds (λ m. record { submission = refl; late = refl; unspoken = refl; link = refl; timeout = refl; overdue = refl; tries = refl; outcomes = refl; cancelled = refl })

-- its own story
round_own : (story : ℕ → Story) (n : ℕ) → rounds_at n story n ≡ rounds (story n)
round_own story n = taken_if (n == n) (rounds (story n)) (story n) (eq_test n n refl)

-- any other story is the same
round_other : (story : ℕ → Story) (n m : ℕ) → n ≢ m → rounds_at n story m ≡ story m
round_other story n m other = left_if (n == m) (rounds (story m)) (story m) (ne_test n m other)

-- the wait of another request is as it was
other_shown : (b : Book) (t : TurnState) (p m : ℕ) → Tied b t → p < length t.requests → m < length t.requests → p ≢ m → shown_wait (rounds_at (name_at t.requests p) b.story) (at_progress t.requests p progress.Begun) m ≡ shown_wait b.story t.requests m
other_shown b t p m h within inside other =
    let n = name_at t.requests p in
    ap (λ k. (rounds_at n b.story k).waiting) (name_still t.requests p progress.Begun m)
    ∙ ap (λ (s : Story). s.waiting) (round_other b.story n (name_at t.requests m) (λ e. other (same_name t.table t.requests p m h.names within inside e)))

-- and its own is shown no more
own_shown : (story : ℕ → Story) (requests : List Request) (p : ℕ) → shown_wait (rounds_at (name_at requests p) story) (at_progress requests p progress.Begun) p ≡ None
own_shown story requests p =
    let n = name_at requests p in
    ap (λ k. (rounds_at n story k).waiting) (name_still requests p progress.Begun p) ∙ ap (λ (s : Story). s.waiting) (round_own story n)

-- the waits, on a link that takes requests: its own is to be shown anew
round_waits : (b : Book) (t : TurnState) (p : ℕ) → Tied b t → serves t.life t.again ≡ true → is_unbegun_at t.requests p ≡ true → IsIn p t.fresh → TiedWaits (rounds_at (name_at t.requests p) b.story) (at_progress t.requests p progress.Begun) t.again t.life t.fresh t.moved
round_waits b t p h serving u anew =
    let ready = serves_ready t.life t.again serving in
    let answered = serves_answered t.life t.again serving in
    let requests = t.requests in
    let after = rounds_at (name_at requests p) b.story in
    let begun = at_progress requests p progress.Begun in
    let w = unbegun_waits requests p u in
    let within = there_within is_waiting requests p w in
    let apart = waiting_apart requests p w in
    let long = sym (length_still requests p progress.Begun) in
    let waits : (m : ℕ) → is_waiting_at begun m ≡ true → is_waiting_at requests m ≡ true = λ m v. sym (test_kept is_waiting requests p (permits_at requests p) m refl w) ∙ v in
    let admits : (m : ℕ) → is_admitted_at begun m ≡ true → is_admitted_at requests m ≡ true = λ m a. sym (test_kept is_admitted requests p (permits_at requests p) m refl w) ∙ a in
    let waiting_is : (m : ℕ) → is_waiting_at begun m ≡ true → p ≢ m → shown_wait after begun m ≡ shown_wait b.story requests m = λ m v other. other_shown b t p m h within (there_within is_waiting requests m (waits m v)) other in
    let admitted_is : (m : ℕ) → is_admitted_at begun m ≡ true → shown_wait after begun m ≡ shown_wait b.story requests m = λ m a.
    other_shown b t p m h within (there_within is_admitted requests m (admits m a)) (λ same. not_both (is_admitted_at requests p) apart.0 (ap (is_admitted_at requests) same ∙ admits m a)) in
    let placed : (m : ℕ) → IsIn m (awaited_ids (link_in t.life).queue) → is_placed_at requests m ≡ true = λ m i. awaited_placed b.story requests (link_in t.life).queue m h.lines.queued i in
    let queued_is : (m : ℕ) → IsIn m (awaited_ids (link_in t.life).queue) → shown_wait after begun m ≡ shown_wait b.story requests m = λ m i.
    other_shown b t p m h within (there_within is_placed requests m (placed m i)) (λ same. not_both (is_placed_at requests p) apart.1 (ap (is_placed_at requests) same ∙ placed m i)) in
    let off : (life : Life) → is_ready life ≡ false → t.life ≡ life → ⊥ = λ life down e. not_both (is_ready life) down (ap is_ready (sym e) ∙ ready) in
    record {
      early = λ m v. by_test (p == m) _
          (λ t1. inl (ap (shown_wait after begun) (sym (eq_from p m t1)) ∙ own_shown b.story requests p))
          (λ f. one_of (shown_wait after begun m) (shown_wait b.story requests m) (waiting_is m v (ne_from p m f)) (h.waits.early m (waits m v)));
      backoff = λ m v d. absurd (off _ refl d);
      connect = λ m v d. absurd (off _ refl d);
      creds = λ m link v d. absurd (off _ refl d);
      setup = λ m link greeting v d. absurd (off _ refl d);
      resubscribe = λ m link v d goes. absurd (not_both (is_outstanding t.again) answered goes);
      permit = λ m link v d none. by_test (p == m) _
          (λ t1. inl (subst (λ k. IsIn k t.fresh) (eq_from p m t1) anew))
          (λ f. elim (h.waits.permit m link (waits m v) d none) [ inl i ↦ inl i | inr e ↦ inr (waiting_is m v (ne_from p m f) ∙ e) ]);
      place = λ m a. elim (h.waits.place m (admits m a)) [ inl i ↦ inl i | inr e ↦ inr (admitted_is m a ∙ e) ];
      room = λ m i. elim (h.waits.room m i) [ inl j ↦ inl j | inr e ↦ inr (queued_is m i ∙ e) ];
      newer = subst (Rising 0 t.fresh) long h.waits.newer;
      rising = subst (Rising 0 t.moved) long h.waits.rising;
      no_backoff = λ m i v d. absurd (off _ refl d);
      no_connect = λ m i v d. absurd (off _ refl d);
      no_creds = λ m link i v d. absurd (off _ refl d);
      no_setup = λ m link greeting i v d. absurd (off _ refl d);
      no_resubscribe = λ m link i v d goes. absurd (not_both (is_outstanding t.again) answered goes);
      unpermitted = λ m link v d goes. absurd (not_both (is_outstanding t.again) answered goes);
      no_permit = λ m link i v d none. by_test (p == m) _
          (λ t1. no_wait (shown_wait after begun m) wait.Permit (ap (shown_wait after begun) (sym (eq_from p m t1)) ∙ own_shown b.story requests p))
          (λ f e. h.waits.no_permit m link i (waits m v) d none (sym (waiting_is m v (ne_from p m f)) ∙ e));
      no_place = λ m i a e. h.waits.no_place m i (admits m a) (sym (admitted_is m a) ∙ e);
      seatless = λ m a e. h.waits.seatless m (admits m a) (sym (admitted_is m a) ∙ e);
      no_room = λ m i j e. h.waits.no_room m i j (sym (queued_is m j) ∙ e);
    }

-- the rounds: its own has begun
round_rounds : (b : Book) (t : TurnState) (p : ℕ) → Tied b t → is_unbegun_at t.requests p ≡ true
    → TiedRounds (has_generations b) (rounds_at (name_at t.requests p) b.story) (at_progress t.requests p progress.Begun) (serves t.life t.again) t.fresh t.rounds
round_rounds b t p h u =
    let requests = t.requests in
    let n = name_at requests p in
    let after = rounds_at n b.story in
    let begun = at_progress requests p progress.Begun in
    let named = name_still requests p progress.Begun in
    let within = there_within is_unbegun requests p u in
    let was : (m : ℕ) → is_unbegun_at begun m ≡ true → (p ≢ m) × (is_unbegun_at requests m ≡ true) = λ m v. there_then is_unbegun requests p m progress.Begun refl within v in
    let other_is : (m : ℕ) → m < length requests → p ≢ m → (after (name_at begun m)).rounded ≡ (b.story (name_at requests m)).rounded = λ m inside other.
    ap (λ k. (after k).rounded) (named m) ∙ ap (λ (s : Story). s.rounded) (round_other b.story n (name_at requests m) (λ e. other (same_name t.table requests p m h.names within inside e))) in
    record {
      rounds_is = h.rounds.rounds_is;
      unbegun = λ m v. let k = was m v in other_is m (there_within is_unbegun requests m k.1) k.0 ∙ h.rounds.unbegun m k.1;
      begun = λ m shows o v. by_test (p == m) _
          (λ t1. ap (λ k. (after (name_at begun k)).rounded) (sym (eq_from p m t1)) ∙ ap (λ k. (after k).rounded) (named p) ∙ ap (λ (s : Story). s.rounded) (round_own b.story n))
          (λ f.
          let other = ne_from p m f in
          let open_then = sym (there_other is_open requests p m progress.Begun other) ∙ o in
          other_is m (there_within is_open requests m open_then) other ∙ h.rounds.begun m shows open_then (sym (there_other is_unbegun requests p m progress.Begun other) ∙ v));
      new = λ m shows up v. h.rounds.new m shows up (was m v).1;
    }

-- so the session is tied with it, on a link that takes requests
round_tied : (b : Book) (t : TurnState) (p : ℕ) → serves t.life t.again ≡ true → t.rounds ≡ true → is_unbegun_at t.requests p ≡ true → Tied b t → Tied (entered b (round_action t p)) (with_round t p)
round_tied b t p ready shows u h =
    let requests = t.requests in
    let n = name_at requests p in
    let w = unbegun_waits requests p u in
    let g = rounds_at n b.story in
    let holding = λ (m : ℕ). chosen (IsHolding (b.story m)) (n == m) (rounds (b.story m)) (b.story m) (λ t1. record { link = refl; permits = refl; timeout = refl; clock = refl }) (λ f. holding_same (b.story m)) in
    waits_on_tied b t p (permits_at requests p) t.free g (entered b (round_action t p)).placed b.since b.timers t.timers t.being_admitted ready w (round_eased b.story n)
    (ap (λ (s : Story). s.permits) (round_own b.story n) ∙ (request_story b t p h (there_within is_waiting requests p w)).permits_is)
    (numbers_kept b b.link g b.tracked b.errors (entered b (round_action t p)).placed b.since t t.life t.free (at_progress requests p progress.Begun) t.waiting t.admitted t.fresh t.moved t.being_admitted t.pending t.started h.numbers)
    (round_waits b t p h ready u (h.rounds.new p shows ready u))
    (round_permits g b.submissions requests t.link t.limit t.free t.being_admitted p w (permits_same b.story g b.submissions requests t.link t.limit t.free t.being_admitted holding h.permits))
    (round_rounds b t p h u) h

-- it may stand, where its step is the first
round_may : (b : Book) (t : TurnState) (p : ℕ) → IsRunning t → IsToldIn t → HasRenewed t.renewal t.life → t.rounds ≡ true → is_unbegun_at t.requests p ≡ true → IsFirstToMove b (name_at t.requests p) → NoneEnds b → Tied b t → MayRound b (name_at t.requests p) t.link
round_may b t p r told renewed shows u first ended h =
    let o = waiting_open t.requests p (unbegun_waits t.requests p u) in
    record {
      begun = begun_up b t h r told ended renewed;
      unstarted = kept_unstarted b t p h o (in_right p (waiting_ids t.admitted) (waiting_ids t.waiting) (waiting_there b t p h r.settled (unbegun_waits t.requests p u)));
      rounds = round_step b t p h r shows u;
      in_order = first;
      on_its_link = sym (open_on b t p h o);
    }

-- and it begins
pub round_going : (trace : List Action) (t : TurnState) (p : ℕ) → IsRunning t → IsToldIn t → t.rounds ≡ true → is_unbegun_at t.requests p ≡ true → IsFirstToMove (book trace) (name_at t.requests p) → IsGoing trace t
    → IsGoing (trace ++ round_action t p ∷ []) (with_round t p)
round_going trace t p r told shows u first h =
    let b = book trace in
    going_more trace (round_action t p) (with_round t p) h.sound.stands
    (refl, round_may b t p r told h.renewed shows u first h.ended h.sound.tied)
    (round_tied b t p (answered_serves t.life t.again r.up r.served) shows u h.sound.tied)
    h.ended h.renewed h.served
