-- Which requests are ahead of new credentials, from the end of a turn to the moment of the next at which these are to be told.
use Rattle.std.proofs.Common.{Bool, ◌≡◌, inl, inr, ℕ, ◌+◌, ◌-◌, ◌<◌, ◌≤◌, ◌==◌, true, false, ◌&&◌, ◌||◌, not, List, [], ◌∷◌, ◌++◌, length, Option, Some, None, is_none, is_some, slice_get, if◌then◌else◌, refl, sym, ap, ◌∙◌, subst, append_assoc, arith}
use Rattle.containers.proofs.Choices.{chosen, left_if, not_both, not_le_test}
use Rattle.std.proofs.Math.Bool.{and-false}
use Rattle.containers.proofs.Places.{get_within}
use Rattle.credentials.specs.Credentials.{Credentials}
use Rattle.redis_error.specs.declared.redis_error.RedisError.{RedisError}
use Rattle.redis_error.specs.declared.redis_error.RedisError.TheVariants as error
use Rattle.driver_model.specs.declared.action.Action.{Action}
use Rattle.driver_model.specs.declared.action.Owner.TheVariants as owner
use Rattle.driver_model.specs.declared.action.Purpose.{Purpose}
use Rattle.driver_model.specs.declared.action.Purpose.TheVariants as purpose
use Rattle.driver_model.specs.declared.event.Event.{Event}
use Rattle.driver_model.specs.declared.event.EventKind.{EventKind}
use Rattle.driver_model.specs.declared.event.EventKind.TheVariants as event
use Rattle.driver_model.specs.declared.event.Submission.{Submission}
use Rattle.driver_model.specs.Kind.{has_timeouts}
use Rattle.driver_model.specs.News.{news_of}
use Rattle.driver_model.specs.Request.{packed_bytes, lacks_resp3}
use Rattle.link_core.specs.Link.{LinkState, is_up_to}
use Rattle.mux_conn.specs.declared.connection.MultiplexedConnection.{MultiplexedConnection}
use Rattle.mux_conn.specs.declared.life.Life.{Life}
use Rattle.mux_conn.specs.declared.life.Life.TheVariants.{Resting, Dialing, Wanting, SettingUp, Ready, Ended}
use Rattle.mux_conn.specs.declared.request.Pending.{Pending}
use Rattle.mux_conn.specs.Connection.{Work, are_some, is_due as is_renewal_due, is_ready}
use Rattle.mux_conn.specs.Repeats.{repeated}
use Rattle.mux_conn.specs.Requests.{name_at}
use Rattle.single_session.specs.declared.core_state.Core.{Core}
use Rattle.single_session.proofs.Spent.{passed_same}
use Rattle.single_session.specs.Turn.{Turning, asked_for, counted, effect, fired_by, heard, late_by, left_by, refused_with, shown_each, submitted, work_of}
use Rattle.legal_trace.specs.Book.{Book, blank_book, book, due_since, entered, entered_each}
use Rattle.legal_trace.specs.Ledger.{Ledger, hears, noted, renewal_due}
use Rattle.legal_trace.specs.Legal.{AllStand}
use Rattle.legal_trace.specs.Steps.{is_taken_before}
use Rattle.legal_trace.specs.Story.{has_place}
use Rattle.legal_laws.proofs.Internal.Since.{IsDue, SinceBegun, due_each}
use Rattle.legal_laws.proofs.Submissions.InLine.{is_to_start}
use Rattle.legal_laws.proofs.Submissions.Places.{Knows}
use Rattle.session_laws.proofs.Internal.Ahead.{ready_asked}
use Rattle.conn_laws.proofs.Internal.Renewals.{due_is, some_wait}
use Rattle.conn_laws.proofs.Links.Server.{NoneRenewed, TiedRenewal}
use Rattle.session_laws.proofs.Requests.Moved.{ComesOrdered}
use Rattle.session_laws.proofs.Requests.Settle.{Holds, seen, trace_of_acts}
use Rattle.session_laws.proofs.Ties.Entered.{all_stand_behind, book-append}
use Rattle.session_laws.proofs.Ties.Ahead.{queue_within}
use Rattle.session_laws.proofs.Ties.Moves.{IsLater}
use Rattle.conn_laws.proofs.Ties.Names.{name_placed, name_of_some}
use Rattle.conn_laws.proofs.Ties.Numbers.{IsIn}
use Rattle.session_laws.proofs.Ties.Ordered.{AreOrdered, IsOrdered, StaysOrdered, kept_unplaced, ordered_on, queue_placed, since_same, start_later}
use Rattle.conn_laws.proofs.Ties.Places.{taken_still}
use Rattle.session_laws.proofs.Ties.Places.{known, places_stay, since_begun, unnumbered}
use Rattle.conn_laws.proofs.Ties.Seats.{AllKeep, KeepsSeats, LeavesSeats, repeated_keeps}
use Rattle.session_laws.proofs.Ties.Seats.{effect_keeps}
use Rattle.session_laws.proofs.Ties.States.{Between}
use Rattle.conn_laws.proofs.Ties.Tied.{TiedLife, has_ended, link_in, queue_ids}
use Rattle.session_laws.proofs.Ties.Tied.{TurnState, Tied, inner}
use Rattle.session_laws.proofs.Ties.Credentials.{effect_holds, repeated_holds}
use Rattle.session_laws.proofs.Turn.Announce.{turn_of}
use Rattle.conn_laws.proofs.Turn.Ordered.{Grows, asked, entry_stays, entry_was, refused, same}

abbrev place_or : Option ℕ → ℕ
place_or None = 0
place_or (Some n) = n

-- the entries of submissions
--
-- and the turn is counted
record Comes (count : ℕ) (c d : Core) : Type 0 where
  table : Grows count c.table d.table
  turns : d.turns ≡ c.turns + 1

still_comes : (count : ℕ) (c d : Core) → d.table ≡ c.table → d.turns ≡ c.turns + 1 → Comes count c d
still_comes count c d table turns = record { table = same table; turns = turns }

-- with a submission
submitted_comes : (count : ℕ) (c : Core) (t : Turning) (what : Submission) → t.core.table ≡ c.table → t.core.turns ≡ c.turns + 1 → length t.core.single.connection.requests ≡ count → Comes count c (submitted t what).core
submitted_comes count c t what table turns counted =
    let comes = λ (x : Turning). Comes count c x.core in
    let lacks = lacks_resp3 t.core.single.connection.hears t.core.single.connection.info.protocol what in
    let packed = if length (packed_bytes what) == 0 then refused_with t error.EmptyCommand else asked_for t what in
    let none : (x : RedisError) → Comes count c (refused_with t x).core = λ x. record { table = refused (ap (λ (o : List (Option Pending)). o ++ None ∷ []) table); turns = turns } in
    chosen comes t.core.shut (refused_with t error.Closed) (if lacks then refused_with t error.Resp3Required else packed) (λ s. none error.Closed)
    (λ f. chosen comes lacks (refused_with t error.Resp3Required) packed (λ s. none error.Resp3Required)
    (λ d. chosen comes (length (packed_bytes what) == 0) (refused_with t error.EmptyCommand) (asked_for t what) (λ s. none error.EmptyCommand)
    (λ g. record { table = asked (λ i. table i ++ Some (record { number = counted i }) ∷ []); turns = turns })))

-- with a caller that goes
left_comes : (count : ℕ) (c : Core) (t : Turning) (x : Option (Option Pending)) → t.core.table ≡ c.table → t.core.turns ≡ c.turns + 1 → Comes count c (left_by t x).core
left_comes count c t None table turns = still_comes count c t.core table turns
left_comes count c t (Some None) table turns = still_comes count c t.core table turns
left_comes count c t (Some (Some p)) table turns = record { table = same table; turns = turns }

-- with a time that is over
late_comes : (count : ℕ) (c : Core) (t : Turning) (x : Option (Option Pending)) → t.core.table ≡ c.table → t.core.turns ≡ c.turns + 1 → Comes count c (late_by t x).core
late_comes count c t None table turns = still_comes count c t.core table turns
late_comes count c t (Some None) table turns = still_comes count c t.core table turns
late_comes count c t (Some (Some p)) table turns = record { table = same table; turns = turns }

-- with a timer that fires
fired_comes : (count : ℕ) (c : Core) (t : Turning) (x : Option Purpose) → t.core.table ≡ c.table → t.core.turns ≡ c.turns + 1 → Comes count c (fired_by t x).core
fired_comes count c t None table turns = still_comes count c t.core table turns
fired_comes count c t (Some (purpose.Connect l)) table turns = still_comes count c t.core table turns
fired_comes count c t (Some (purpose.Response owner.Setup)) table turns = still_comes count c t.core table turns
fired_comes count c t (Some (purpose.Response owner.Auth)) table turns = still_comes count c t.core table turns
fired_comes count c t (Some (purpose.Response owner.Resub)) table turns = still_comes count c t.core table turns
fired_comes count c t (Some (purpose.Response owner.Monitor)) table turns = still_comes count c t.core table turns
fired_comes count c t (Some (purpose.Renewal l k)) table turns = still_comes count c t.core table turns
fired_comes count c t (Some (purpose.Backoff g)) table turns = still_comes count c t.core table turns
fired_comes count c t (Some (purpose.Resubscription l)) table turns = still_comes count c t.core table turns
fired_comes count c t (Some (purpose.Response (owner.Try m round))) table turns = late_comes count c t (slice_get t.core.table m) table turns

-- with any event
effect_comes : (c : Core) (kind : EventKind) → Comes (length c.single.connection.requests) c (effect (counted c) kind).core
effect_comes c (event.Submit what) = submitted_comes (length c.single.connection.requests) c (heard (counted c) (event.Submit what)) what refl refl refl
effect_comes c (event.Cancel n) = left_comes (length c.single.connection.requests) c (heard (counted c) (event.Cancel n)) (slice_get c.table n) refl refl
effect_comes c (event.Fired n) = fired_comes (length c.single.connection.requests) c (heard (counted c) (event.Fired n)) (slice_get c.timers n) refl refl
effect_comes c (event.Timeout ms) =
    let was = (heard (counted c) (event.Timeout ms)).core in
    chosen (Comes (length c.single.connection.requests) c) (has_timeouts was.kind) (record was { timeout = ms }) was (λ t. record { table = same refl; turns = refl }) (λ f. record { table = same refl; turns = refl })
effect_comes c (event.Connected l) = record { table = same refl; turns = refl }
effect_comes c (event.Refused l f) = record { table = same refl; turns = refl }
effect_comes c (event.Creds s auth) = record { table = same refl; turns = refl }
effect_comes c (event.CredsError s text) = record { table = same refl; turns = refl }
effect_comes c (event.CredsEnd s) = record { table = same refl; turns = refl }
effect_comes c (event.Wrote l count) = record { table = same refl; turns = refl }
effect_comes c (event.Bytes l piece) = record { table = same refl; turns = refl }
effect_comes c (event.Ended l) = record { table = same refl; turns = refl }
effect_comes c (event.ReadFault l kind) = record { table = same refl; turns = refl }
effect_comes c (event.WriteFault l kind) = record { table = same refl; turns = refl }
effect_comes c event.DropStream = record { table = same refl; turns = refl }
effect_comes c event.Shutdown = record { table = same refl; turns = refl }

-- behind the event
--
-- what is there isn't absent
none_not : {X : Type 0} (o : Option X) → is_some o ≡ true → is_none o ≡ false
none_not None e = cc e
none_not (Some x) e = refl

-- credentials that were due are since as they were
due_still : (old number : ℕ) (before behind : Ledger) → is_some (renewal_due before) ≡ true → due_since old before behind number ≡ old
due_still old number before behind due = left_if (is_some (renewal_due behind) && is_none (renewal_due before)) number old (ap (λ x. is_some (renewal_due behind) && x) (none_not (renewal_due before) due) ∙ and-false (is_some (renewal_due behind)))

-- two places of one
same_place : (m n : ℕ) → ◌≡◌ {A = Option ℕ} (Some m) (Some n) → m ≡ n
same_place m n e = ap place_or e

-- none wait, and none are to be told
abbrev AreNone : ℕ → List Credentials → Bool → Type 0
AreNone many cs pending = (cs ≡ []) × (pending ≡ false)

-- a session between two turns, and the same behind the event of the next, and what is subscribed again
module _ (before : List Action) (c : Core) (started : List ℕ) (e : Event) (h : Between before c started) (o : IsOrdered (book before) c.single.link c.table c.single.connection.life c.single.connection.renewal) where
  abbrev b : Book
  b = book before

  abbrev conn : MultiplexedConnection
  conn = c.single.connection

  abbrev f : Core
  f = (effect (counted c) e.kind).core

  abbrev w : Work
  w = work_of (effect (counted c) e.kind)

  abbrev v : Work
  v = repeated w

  abbrev a : Action
  a = turn_of c e.word e.kind

  abbrev shown : List Action
  shown = shown_each f.single.link (length f.timers) (length f.sources) v.acts

  abbrev trace : List Action
  trace = trace_of_acts (before ++ a ∷ []) f v.acts

  abbrev d : Book
  d = entered_each b (a ∷ shown)

  link_is : f.single.link ≡ c.single.link
  link_is = (passed_same (counted c) e.kind).link

  whole : trace ≡ before ++ a ∷ shown
  whole = append_assoc before (a ∷ []) shown

  last_book : book trace ≡ d
  last_book = ap book whole ∙ book-append before (a ∷ shown)

  knows : Knows b
  knows = known before h.sound.stands

  begun : SinceBegun b
  begun = since_begun before h.sound.stands

  stands : AllStand blank_book trace → AllStand b (a ∷ shown)
  stands all = all_stand_behind before (a ∷ shown) (subst (AllStand blank_book) whole all)

  tied : Tied b (inner c started)
  tied = h.sound.tied

  counts : b.submissions ≡ length c.table
  counts = tied.numbers.submissions

  -- where it isn't ready before the event, and has not ended, none are to be told
  none_told : is_ready conn.life ≡ false → NoneRenewed (b.link c.single.link) conn.renewal → AreNone v.conn.renewal.asked v.conn.renewal.waiting v.conn.renewal.pending
  none_told unready none = repeated_holds AreNone (refl, refl) w (effect_holds AreNone (refl, refl) c e.kind (λ cs ready. absurd (not_both (is_ready conn.life) unready ready)) (none.waits, none.unpending))

  none_due : AreNone v.conn.renewal.asked v.conn.renewal.waiting v.conn.renewal.pending → is_renewal_due v.conn.renewal ≡ true → ⊥
  none_due none due = not_both (are_some v.conn.renewal.waiting) (ap are_some none.0) (some_wait v.conn.renewal due)

  -- where it has ended it isn't ready behind it
  over_not : (x : RedisError) (link : LinkState) → conn.life ≡ Ended x → v.conn.life ≡ Ready link → ⊥
  over_not x link over ready =
      let kept : AllKeep conn v = repeated_keeps conn w (effect_keeps c e.kind (subst (λ y. KeepsSeats conn y conn.renewal) (sym over) tt)) in
      let seats : LeavesSeats conn link v.conn.renewal = subst (λ y. KeepsSeats conn y v.conn.renewal) ready kept in
      not_both (is_ready conn.life) (ap is_ready over) seats.ready

  -- where it is ready, it keeps what it has
  ready_keeps : (x link : LinkState) → conn.life ≡ Ready x → v.conn.life ≡ Ready link → LeavesSeats conn link v.conn.renewal
  ready_keeps x link up ready =
      let first : LeavesSeats conn x conn.renewal = record { ready = ap is_ready up; fewer = λ p i. subst (λ y. IsIn p (queue_ids (link_in y).queue)) (sym up) i; pending = refl; last = refl; lost = λ lost. lost } in
      let kept : AllKeep conn v = repeated_keeps conn w (effect_keeps c e.kind (subst (λ y. KeepsSeats conn y conn.renewal) (sym up) first)) in
      subst (λ y. KeepsSeats conn y v.conn.renewal) ready kept

  -- new credentials are due before the event as the connection says
  due_before : (x : LinkState) → conn.life ≡ Ready x → is_some (renewal_due (b.link c.single.link)) ≡ is_renewal_due conn.renewal
  due_before x up = due_is (b.link c.single.link) conn.renewal (subst (TiedLife (b.link c.single.link) b.created) up tied.life).1 (subst (TiedRenewal (b.link c.single.link) conn.renewal) up tied.renewal)

  -- who is ahead is still
  still_ordered : (x link : LinkState) → conn.life ≡ Ready x → v.conn.life ≡ Ready link → (now : List ℕ) → Holds (before ++ a ∷ []) f v [] now → v.conn.renewal.pending ≡ true → v.conn.renewal.lost ≡ false → AreOrdered d c.single.link f.table v.conn.renewal.last
  still_ordered x link up ready now holds pending kept =
      let seats = ready_keeps x link up ready in
      let is_pending : conn.renewal.pending ≡ true = sym seats.pending ∙ pending in
      let is_kept : conn.renewal.lost ≡ false = seats.lost kept in
      let was : AreOrdered b c.single.link c.table conn.renewal.last = o (ap is_ready up) is_pending is_kept in
      let next = (subst (TiedRenewal (b.link c.single.link) conn.renewal) up tied.renewal).next is_pending in
      let due : is_some (renewal_due (b.link c.single.link)) ≡ true = due_before x up ∙ (λ i. not (next.0 i || is_kept i) && next.1 i) in
      let all : AllStand b (a ∷ shown) = stands holds.stands in
      let asked_link : c.single.link < b.links = ready_asked b (inner c started) x tied up in
      let counted_turns : d.turns ≡ (entered b a).turns = subst (λ (y : Book). y.turns ≡ f.turns) last_book holds.tied.numbers.turns ∙ (effect_comes c e.kind).turns ∙ sym (ap (λ n. n + 1) tied.numbers.turns) in
      let since : d.since c.single.link ≡ b.since c.single.link = since_same (entered b a) shown c.single.link counted_turns
      ∙ due_still (b.since c.single.link) c.turns (b.link c.single.link) (noted (b.link c.single.link) (hears c.turns (news_of b.timers b.sources c.single.link e.kind))) due in
      let old : AreOrdered d c.single.link c.table conn.renewal.last = ordered_on b (a ∷ shown) c.single.link c.table conn.renewal.last all knows begun asked_link (let k = counts in omega (arith, k)) since was in
      let comes = (effect_comes c e.kind).table in
      subst (AreOrdered d c.single.link f.table) (sym seats.last) (record {
        known = λ k is. let m = old.known k is in (m.0, entry_stays (length conn.requests) c.table f.table m.0 (Some (record { number = k })) comes m.1);
        ahead = λ n k at to. elim (entry_was (length conn.requests) c.table f.table n k comes at) [
          | inl mine ↦ old.ahead n k mine to
          | inr new ↦
              let out : b.placed n ≡ None = unnumbered b n knows (λ i. let q = new.0 in let p = counts in omega (arith, i, q, p)) in
              ap (λ s. is_taken_before s (d.placed n)) since
              ∙ taken_still (b.turns - 1) (b.since c.single.link) (b.placed n) (d.placed n) (begun c.single.link) (places_stay b (a ∷ shown) c.single.link n all knows asked_link to)
              ∙ ap (is_taken_before (b.since c.single.link)) out
              ∙ sym (above conn.renewal.last k refl new.1 old)
        ];
      })
    where
      -- the next request is behind that one
      above : (last : Option ℕ) (k : ℕ) → conn.renewal.last ≡ last → k ≡ length conn.requests → AreOrdered d c.single.link c.table conn.renewal.last → is_up_to last k ≡ false
      above None k is new old = refl
      above (Some m) k is new old =
          let at = old.known m is in
          let r = tied.names.kept at.0 (record { number = m }) at.1 in
          let inside = get_within conn.requests m r.0 r.1 in
          not_le_test k m (omega (arith, new, inside))

  -- where they are new, who has a place took it before
  placed_before : (x link : LinkState) → conn.life ≡ Ready x → v.conn.life ≡ Ready link → (now : List ℕ) → v.conn.moved ≡ [] → Holds (before ++ a ∷ []) f v [] now → v.conn.renewal.pending ≡ false → is_renewal_due v.conn.renewal ≡ true
      → (n j : ℕ) → is_to_start f.single.link (d.story n) ≡ true → d.placed n ≡ Some j → j < d.since f.single.link
  placed_before x link up ready now none holds pending due n j to placed =
      let seats = ready_keeps x link up ready in
      let l : ℕ = f.single.link in
      let unasked : conn.renewal.pending ≡ false = sym seats.pending ∙ pending in
      let undue : IsDue (b.link l) → ⊥ = λ is. not_both conn.renewal.pending unasked (h.still.renewed x up (sym (due_before x up) ∙ subst (λ m. IsDue (b.link m)) link_is is)).0 in
      let t : TurnState = seen f v.acts v.conn [] now in
      let there : Tied d t = subst (λ (y : Book). Tied y t) last_book holds.tied in
      let all : AllStand b (a ∷ shown) = stands holds.stands in
      let is_now : IsDue (d.link l) = due_is (d.link l) v.conn.renewal (subst (TiedLife (d.link l) d.created) ready there.life).1 (subst (TiedRenewal (d.link l) v.conn.renewal) ready there.renewal) ∙ due in
      let from : b.turns ≤ d.since l = due_each b (a ∷ shown) l b.turns all knows.sound (omega arith) (λ is. absurd (undue is)) is_now in
      let later : Knows d = subst Knows last_book (known trace holds.stands) in
      let y : IsLater t n = start_later d t n there refl (ap has_ended ready) to in
      elim y.later [
        | inr kept ↦ absurd (not_both (has_place (d.story n)) (ap (λ m. has_place (d.story m)) (sym y.name) ∙ kept_unplaced d t y.p there kept) (later.places.has n j placed))
        | inl i ↦
            let here : IsIn y.p (queue_ids (link_in conn.life).queue) = seats.fewer y.p (subst (λ (z : Life). IsIn y.p (queue_ids (link_in z).queue)) ready i) in
            let inside = queue_within b (inner c started) y.p tied here in
            let name : ℕ = name_at conn.requests y.p in
            let entry = entry_stays (length conn.requests) c.table f.table name (Some (record { number = y.p })) (effect_comes c e.kind).table (name_placed c.table conn.requests y.p tied.names inside) in
            let r = there.names.kept name (record { number = y.p }) entry in
            let named : name ≡ n = sym r.2 ∙ sym (name_of_some v.conn.requests y.p r.0 r.1) ∙ y.name in
            let had = knows.places.since n (ap (λ m. has_place (b.story m)) (sym named) ∙ queue_placed b (inner c started) y.p tied h.moved here) in
            let early : had.0 ≤ b.turns - 1 = knows.places.early n had.0 had.1 in
            let began = h.began in
            let turns : b.turns ≡ c.turns = tied.numbers.turns in
            let asked_link : l < b.links = subst (λ m. m < b.links) (sym link_is) (ready_asked b (inner c started) x tied up) in
            elim (places_stay b (a ∷ shown) l n all knows asked_link to) [
              | inl kept ↦ let one : j ≡ had.0 = same_place j had.0 (sym placed ∙ kept ∙ had.1) in omega (arith, one, early, from, began, turns)
              | inr taken ↦ absurd (let no : ◌≡◌ {A = Option ℕ} None (Some had.0) = sym taken.none ∙ had.1 in cc no)
            ]
      ]

  -- so all of it is known
  by_life : (x : Life) → conn.life ≡ x → (link : LinkState) → v.conn.life ≡ Ready link → (now : List ℕ) → v.conn.moved ≡ [] → Holds (before ++ a ∷ []) f v [] now → StaysOrdered d f.single.link f.table v.conn.renewal
  by_life (Ready x) up link ready now none holds = record {
    ordered = λ pending kept. subst (λ m. AreOrdered d m f.table v.conn.renewal.last) (sym link_is) (still_ordered x link up ready now holds pending kept);
    before = λ pending due. placed_before x link up ready now none holds pending due;
  }
  by_life (Ended x) up link ready now none holds = absurd (over_not x link up ready)
  by_life Resting up link ready now none holds = let n = none_told (ap is_ready up) (subst (TiedRenewal (b.link c.single.link) conn.renewal) up tied.renewal) in record { ordered = λ p kept. absurd (not_both v.conn.renewal.pending n.1 p); before = λ p due. absurd (none_due n due) }
  by_life Dialing up link ready now none holds = let n = none_told (ap is_ready up) (subst (TiedRenewal (b.link c.single.link) conn.renewal) up tied.renewal) in record { ordered = λ p kept. absurd (not_both v.conn.renewal.pending n.1 p); before = λ p due. absurd (none_due n due) }
  by_life (Wanting y) up link ready now none holds = let n = none_told (ap is_ready up) (subst (TiedRenewal (b.link c.single.link) conn.renewal) up tied.renewal) in record { ordered = λ p kept. absurd (not_both v.conn.renewal.pending n.1 p); before = λ p due. absurd (none_due n due) }
  by_life (SettingUp y greeting) up link ready now none holds = let n = none_told (ap is_ready up) (subst (TiedRenewal (b.link c.single.link) conn.renewal) up tied.renewal) in record { ordered = λ p kept. absurd (not_both v.conn.renewal.pending n.1 p); before = λ p due. absurd (none_due n due) }

  pub comes_ordered : ComesOrdered (before ++ a ∷ []) f w
  comes_ordered now link ready none holds = subst (λ (y : Book). StaysOrdered y f.single.link f.table v.conn.renewal) (sym last_book) (by_life conn.life refl link ready now none holds)
