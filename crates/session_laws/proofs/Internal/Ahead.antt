-- The requests start that are ahead of new credentials.
use Rattle.std.proofs.Common.{Bool, List, Option, [], ap, append_assoc, arith, false, inl, length, refl, subst, sym, true, ℕ, ◌+◌, ◌++◌, ◌<◌, ◌∙◌, ◌∷◌, ◌≡◌}
use Rattle.std.specs.Prelude.{not, ◌==◌, ◌&&◌, ◌||◌}
use Rattle.containers.proofs.Choices.{by_test, chosen, eq_test, not_both, or_left, or_right}
use Rattle.driver_model.specs.Shape.{need_of}
use Rattle.driver_model.specs.declared.action.Action.{Action}
use Rattle.driver_model.specs.declared.action.Owner.TheVariants as owner
use Rattle.link_core.specs.Link.{LinkState, Starting, holds_back, is_up_to, start_of, started_one, started_to_each}
use Rattle.link_core.specs.declared.message.Queued.{Queued}
use Rattle.link_laws.specs.Starts.{begun}
use Rattle.mux_conn.specs.Connection.{in_front, is_due as is_renewal_due, is_outstanding}
use Rattle.mux_conn.specs.Requests.{name_at}
use Rattle.mux_conn.specs.declared.act.LinkAct.{LinkAct}
use Rattle.mux_conn.specs.declared.life.Life.TheVariants.{Ready}
use Rattle.single_session.specs.Turn.{shown_each}
use Rattle.legal_trace.specs.Book.{Book, book, entered, message_of}
use Rattle.legal_trace.specs.Ledger.{begins}
use Rattle.legal_trace.specs.Legal.{MayStand, MayStart, NoneEnds}
use Rattle.legal_trace.specs.Steps.{is_ahead, is_due, is_held_back, is_renewal_held, next_step, starts, starts_or_waits}
use Rattle.legal_trace.specs.Story.{is_unstarted}
use Rattle.legal_trace.proofs.Ahead.{any_of}
use Rattle.legal_laws.proofs.Internal.Since.{SinceBegun}
use Rattle.legal_laws.proofs.Submissions.InLine.{is_to_start}
use Rattle.legal_laws.proofs.Submissions.Places.{Knows}
use Rattle.session_laws.proofs.Requests.Going.{begun_with, first_in_queue, none_ends_mine}
use Rattle.conn_laws.proofs.Requests.Start.{with_queue}
use Rattle.session_laws.proofs.Requests.Start.{after_start, on_link, start_action, start_tied}
use Rattle.conn_laws.proofs.Requests.Starts.{begins_ends_none, fit_next, show_start, shows, shows-append}
use Rattle.session_laws.proofs.Requests.Starts.{running_on}
use Rattle.conn_laws.proofs.Ties.Ahead.{HasSeats}
use Rattle.session_laws.proofs.Ties.Ahead.{IsRunning, queue_step, queue_unstarted, queue_within}
use Rattle.session_laws.proofs.Ties.Entered.{book_more, shown_more, sound_more}
use Rattle.conn_laws.proofs.Ties.Moves.{or_true}
use Rattle.conn_laws.proofs.Ties.Names.{name_placed, name_within}
use Rattle.conn_laws.proofs.Ties.Numbers.{IsIn}
use Rattle.session_laws.proofs.Ties.Ordered.{AreOrdered, ordered_on}
use Rattle.session_laws.proofs.Ties.Places.{known, since_begun}
use Rattle.conn_laws.proofs.Ties.States.{IsFit}
use Rattle.conn_laws.proofs.Ties.Tied.{queue_ids}
use Rattle.session_laws.proofs.Ties.Tied.{HasCourse, TurnState, Sound, Tied}

-- the link of a session that is ready was asked for
pub ready_asked : (b : Book) (t : TurnState) (link : LinkState) → Tied b t → t.life ≡ Ready link → t.link < b.links
ready_asked b t link h e =
    let course = subst (HasCourse (b.link t.link).last (b.link t.link).end t.links t.link t.shut t.manager t.last t.opened t.info t.address) e h.course in
    let next : t.links ≡ t.link + 1 = course.0 in
    let links : b.links ≡ t.links = h.numbers.links in
    omega (arith, next, links)

-- who is ahead is, behind one more action in a turn
pub ordered_more : (b : Book) (t : TurnState) (link : LinkState) (a : Action) (last : Option ℕ) → Tied b t → t.life ≡ Ready link → Knows b → SinceBegun b → MayStand b a → (entered b a).since t.link ≡ b.since t.link → AreOrdered b t.link t.table last → AreOrdered (entered b a) t.link t.table last
ordered_more b t link a last h e k begun may same ordered =
    ordered_on b (a ∷ []) t.link t.table last (may, tt) k begun (ready_asked b t link h e) (let counted : b.submissions ≡ length t.table = h.numbers.submissions in omega (arith, counted)) same ordered

-- new credentials are to be told, and have their timer
pub record IsTelling (trace : List Action) (t : TurnState) : Type 0 where
  pub sound : Sound trace t
  pub ended : NoneEnds (book trace)
  pub due : is_renewal_due t.renewal ≡ true
  pub pending : t.renewal.pending ≡ true
  pub ordered : AreOrdered (book trace) t.link t.table t.renewal.last

-- the first of the queue is ahead of them, where it may start and is up to that one
first_ahead : (b : Book) (t : TurnState) (link : LinkState) (q : Queued) (qs : List Queued) → IsRunning (on_link t (with_queue link (q ∷ qs))) → holds_back link ≡ false → is_up_to t.renewal.last q.id ≡ true → Tied b (on_link t (with_queue link (q ∷ qs))) → AreOrdered b t.link t.table t.renewal.last
    → is_renewal_held b t.link ≡ true
first_ahead b t link q qs running free up h ordered =
    let was = on_link t (with_queue link (q ∷ qs)) in
    let n : ℕ = name_at t.requests q.id in
    let within = queue_within b was q.id h (inl refl) in
    let on : (b.story n).link ≡ t.link = (h.told refl).here q.id (inl refl) in
    let unstarted : is_unstarted (b.story n) ≡ true = queue_unstarted b was q.id h (inl refl) in
    let step : next_step b n ≡ starts = queue_step b was q.id h running (inl refl) ∙ ap starts_or_waits free in
    let here : ((b.story n).link == t.link) ≡ true = eq_test (b.story n).link t.link on in
    let to : is_to_start t.link (b.story n) ≡ true = λ i. here i && unstarted i in
    let taken = ordered.ahead n q.id (name_placed t.table t.requests q.id h.names within) to ∙ up in
    let ahead : is_ahead b t.link n ≡ true = λ i. taken i && (here i && (unstarted i && is_due (step i))) in
    let below = name_within t.table t.requests q.id h.names within in
    let counted : b.submissions ≡ length t.table = h.numbers.submissions in
    ap (λ x. is_held_back b (b.link t.link) || x) (any_of (is_ahead b t.link) b.submissions n (omega (arith, below, counted)) ahead) ∙ or_true (is_held_back b (b.link t.link))

-- so it may start
ahead_may : (b : Book) (t : TurnState) (link : LinkState) (q : Queued) (qs : List Queued) → IsFit t.size t.bound (with_queue link (q ∷ qs)) → t.moved ≡ [] → is_outstanding t.again ≡ false → holds_back link ≡ false → is_up_to t.renewal.last q.id ≡ true → t.renewal.pending ≡ true
    → Tied b (on_link t (with_queue link (q ∷ qs))) → NoneEnds b → AreOrdered b t.link t.table t.renewal.last → MayStart b t.link link.started (name_at t.requests q.id) (need_of q.shape) (length q.packed)
ahead_may b t link q qs fit none served free up pending h ended ordered =
    let was = on_link t (with_queue link (q ∷ qs)) in
    let is = h.lines.queued.0 in
    let seats : HasSeats t.moved (in_front t.renewal) (with_queue link (q ∷ qs)) t.size = λ p i. absurd (subst (IsIn p) none i) in
    let running : IsRunning was = running_on t link (q ∷ qs) fit seats served in
    record {
      begun = begun_with b was h running (refl, refl) ended (λ x e due. (pending, first_ahead b t link q qs running free up h ordered));
      unstarted = queue_unstarted b was q.id h (inl refl);
      starts = queue_step b was q.id h running (inl refl) ∙ ap starts_or_waits free;
      in_order = first_in_queue b was q.id (queue_ids qs) h running refl;
      on_its_link = sym ((h.told refl).here q.id (inl refl));
      next = (h.link refl).started;
      needs_its_items = ap need_of is.is_of.shape_is;
      long_as_its_bytes = ap length is.is_of.packs;
    }

-- it does
ahead_going : (trace : List Action) (t : TurnState) (link : LinkState) (q : Queued) (qs : List Queued) → IsFit t.size t.bound (with_queue link (q ∷ qs)) → t.moved ≡ [] → is_outstanding t.again ≡ false → holds_back link ≡ false → is_up_to t.renewal.last q.id ≡ true
    → IsTelling trace (on_link t (with_queue link (q ∷ qs))) → IsTelling (trace ++ start_action t link q ∷ []) (after_start t link q qs)
ahead_going trace t link q qs fit none served free up h =
    let b : Book = book trace in
    let was = on_link t (with_queue link (q ∷ qs)) in
    let a : Action = start_action t link q in
    let try_message = message_of b t.link (owner.Try (name_at t.requests q.id) 0) in
    let may : MayStand b a = (refl, ahead_may b t link q qs fit none served free up h.pending h.sound.tied h.ended h.ordered) in
    record {
      sound = sound_more trace a (after_start t link q qs) h.sound.stands may (start_tied b t link q qs h.sound.tied);
      ended = subst NoneEnds (sym (book_more trace a)) (none_ends_mine b t.link (begins try_message) (begins_ends_none (b.link t.link) try_message h.sound.tied.life.1 refl h.sound.tied.setup.said (h.ended t.link)) h.ended);
      due = h.due;
      pending = h.pending;
      ordered = subst (λ (x : Book). AreOrdered x t.link t.table t.renewal.last) (sym (book_more trace a))
          (ordered_more b was (with_queue link (q ∷ qs)) a t.renewal.last h.sound.tied refl (known trace h.sound.stands) (since_begun trace h.sound.stands) may refl h.ordered);
    }

-- a test whose opposite fails holds
not_false : (x : Bool) → not x ≡ false → x ≡ true
not_false true e = refl
not_false false e = cc

-- what is in a queue starts as long as it is up to that one, and nothing holds it back
pub each_ahead : (before : List Action) (n c : ℕ) (acts : List LinkAct) (t : TurnState) (s : Starting) (qs : List Queued) → IsFit t.size t.bound (with_queue s.link qs) → t.moved ≡ [] → (is_outstanding t.again ≡ true → qs ≡ [])
    → IsTelling (before ++ shown_each t.link n c (acts ++ shows t.requests s.out)) (on_link t (with_queue s.link qs))
    → (done : List ℕ) × IsTelling (before ++ shown_each t.link n c (acts ++ shows t.requests (started_to_each t.renewal.last s qs).out)) (record (on_link t (started_to_each t.renewal.last s qs).link) { started = done })
each_ahead before n c acts t s [] fit none served h = (t.started, h)
each_ahead before n c acts t s (q ∷ qs) fit none served h =
    let last = t.renewal.last in
    let next = started_one s q in
    let more = shows t.requests s.out in
    let stopped : Starting = record { link = with_queue s.link (q ∷ qs); out = s.out } in
    let serves : is_outstanding t.again ≡ false = by_test (is_outstanding t.again) (is_outstanding t.again ≡ false) (λ goes. absurd (let no : q ∷ qs ≡ [] = served goes in cc)) (λ f. f) in
    chosen (λ (y : Starting). (done : List ℕ) × IsTelling (before ++ shown_each t.link n c (acts ++ shows t.requests y.out)) (record (on_link t y.link) { started = done })) (holds_back s.link || not (is_up_to last q.id)) stopped (started_to_each last next qs)
    (λ stops. (t.started, h))
    (λ goes.
    let free = or_left (holds_back s.link) (not (is_up_to last q.id)) goes in
    let up = not_false (is_up_to last q.id) (or_right (holds_back s.link) (not (is_up_to last q.id)) goes) in
    let first = ahead_going (before ++ shown_each t.link n c (acts ++ more)) t s.link q qs fit none serves free up h in
    let same : (before ++ shown_each t.link n c (acts ++ more)) ++ start_action t s.link q ∷ [] ≡ before ++ shown_each t.link n c (acts ++ shows t.requests next.out) =
    sym (shown_more before t.link n c (acts ++ more) (show_start t.requests (start_of s.link.started q)))
    ∙ ap (λ (x : List LinkAct). before ++ shown_each t.link n c x) (append_assoc acts more (show_start t.requests (start_of s.link.started q) ∷ []) ∙ ap (λ (x : List LinkAct). acts ++ x) (sym (shows-append t.requests s.out (start_of s.link.started q)))) in
    let after = record t { started = t.started ++ q.id ∷ [] } in
    each_ahead before n c acts after next qs (fit_next t.size t.bound s q qs fit) none (λ outstanding. absurd (not_both (is_outstanding t.again) serves outstanding)) (subst (λ (x : List Action). IsTelling x (after_start t s.link q qs)) same first))
