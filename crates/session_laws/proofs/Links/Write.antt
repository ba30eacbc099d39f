-- All bytes of a link are offered.
use Rattle.std.proofs.Common.{Bool, List, [], ap, arith, false, refl, subst, sym, true, ℕ, ◌∙◌, ◌≡◌, ◌≢◌, ◌⊎◌, Option, None, Some, is_some}
use Rattle.std.specs.Prelude.{◌==◌}
use Rattle.containers.proofs.Choices.{by_test, chosen, eq_from, ne_from, not_both}
use Rattle.driver_model.specs.declared.action.Action.{Action}
use Rattle.driver_model.specs.declared.action.Action.TheVariants as action
use Rattle.driver_model.specs.declared.action.Owner.{Owner}
use Rattle.driver_model.specs.declared.action.Owner.TheVariants as owner
use Rattle.link_core.specs.Link.{LinkState, holds_back, is_full_beside, offered_of}
use Rattle.link_core.specs.Outbox.{can_offer}
use Rattle.link_laws.proofs.TiedLink.{TiedLink, is_offered, offer_stands, offered_tied}
use Rattle.mux_conn.specs.Connection.{is_ready, Work, acted, with_link, with_setup, in_front, is_resting}
use Rattle.mux_conn.specs.Turn.{written, written_at}
use Rattle.mux_conn.specs.declared.act.LinkAct.TheVariants as act
use Rattle.mux_conn.specs.declared.life.Greeting.{Greeting}
use Rattle.mux_conn.specs.declared.life.Life.{Life}
use Rattle.mux_conn.specs.declared.life.Life.TheVariants.{Resting, Dialing, Ended, Ready, Wanting, SettingUp}
use Rattle.single_session.specs.declared.core_state.Core.{Core}
use Rattle.legal_trace.specs.Book.{Book, book, entered}
use Rattle.legal_trace.specs.Ledger.{IsOffered, noted, offers}
use Rattle.legal_trace.specs.Legal.{IsMoved, IsWritten, MayWrite, NoneEnds}
use Rattle.session_laws.proofs.Requests.Going.{is_moved, none_ends_kept, StaysPut}
use Rattle.session_laws.proofs.Ties.Kept.{mine_noted, others_kept, tied_by}
use Rattle.session_laws.proofs.Requests.Moved.{HasMoved}
use Rattle.conn_laws.proofs.Turn.Heard.{setting_waits}
use Rattle.conn_laws.proofs.Links.Said.{setup_link, setup_on}
use Rattle.session_laws.proofs.Links.SetsUp.{setting_on}
use Rattle.conn_laws.proofs.Ties.Ahead.{HasSeats}
use Rattle.conn_laws.proofs.Internal.Renewals.{renewal_alike}
use Rattle.session_laws.proofs.Requests.Settle.{book_of_more, holds_more, seen, trace_of_acts, shown_now}
use Rattle.session_laws.proofs.Requests.Start.{on_link}
use Rattle.conn_laws.proofs.Links.Took.{queue_waits}
use Rattle.conn_laws.proofs.Ties.States.{IsFit, IsStopped}
use Rattle.conn_laws.proofs.Links.Server.{HasSaid}
use Rattle.conn_laws.proofs.Ties.Tied.{TiedLife, carried, has_ended, owner_of, whole_link, link_in, greeter}
use Rattle.session_laws.proofs.Ties.Tied.{TurnState, Tied, numbers_kept, IsHeeded}
use Rattle.session_laws.proofs.Managers.Comes.{plain_put}
use Rattle.single_session.specs.declared.generations.Generations.{Generations}
use Rattle.conn_laws.proofs.Internal.Repeats.{repeat_alike, serves}
use Rattle.conn_laws.proofs.Internal.Serving.{unready_serves}
use Rattle.session_laws.proofs.Internal.Informed.{IsInformed, alike_still, write_alike}
use Rattle.conn_laws.proofs.Links.Write.{IsOfferedIn, all_offered_can, hushed_in, none_offered, same_link, same_set}

-- an offer
--
write_tied : (b : Book) (t : TurnState) (link : LinkState) → Tied b (on_link t link) → Tied (entered b (action.Write t.link link.outbox.unwritten)) (on_link t (offered_of link))
write_tied b t link h =
    let l = b.link t.link in
    let line = offers link.outbox.unwritten in
    tied_by (entered b (action.Write t.link link.outbox.unwritten)) (on_link t (offered_of link)) (noted l line) (mine_noted l t.link line) (record {
      numbers = numbers_kept b _ _ _ _ _ _ (on_link t link) _ _ _ _ _ _ _ _ _ _ h.numbers;
      others = others_kept b t.link line h.others;
      notices = h.notices;
      life = h.life;
      course = h.course;
      calm = h.calm;
      creds = record { wanted_is = h.creds.wanted_is; sought = h.creds.sought };
      creation = h.creation;
      uses = h.uses;
      renewal = renewal_alike l (noted l line) t.renewal (Ready link) refl refl refl h.renewal;
      repeat = repeat_alike l (noted l line) b.tracked t.renewal.within t.again (Ready link) refl refl refl (λ e is. cc) h.repeat;
      setup = record { info_is = h.setup.info_is; sent = h.setup.sent; said = record { well = h.setup.said.well; none = h.setup.said.none } };
      link = λ e. offered_tied (owner_of t.requests) l link (h.link refl);
      names = h.names;
      story = h.story;
      tries = record { owners = h.tries.owners; greeted = h.tries.greeted; shapes = h.tries.shapes; tried = h.tries.tried; untried = h.tries.untried };
      lines = record { line = h.lines.line; queued = h.lines.queued; entries = h.lines.entries; packs = h.lines.packs; packed_in = h.lines.packed_in; there = h.lines.there };
      told = λ e. h.told refl;
      waits = queue_waits b.story t.requests t.again link (offered_of link) t.fresh t.moved (λ p i. i) h.waits;
      permits = h.permits;
      rounds = h.rounds;
      early = λ unserved alive. (let k = h.early unserved alive in record { unbegun = k.unbegun; empty = k.empty });
      late = h.late;
    })

-- so it is while the link is set up
write_set_tied : (b : Book) (t : TurnState) (link : LinkState) (greeting : Greeting) → Tied b (setting_on t link greeting) → Tied (entered b (action.Write t.link link.outbox.unwritten)) (setting_on t (offered_of link) greeting)
write_set_tied b t link greeting h =
    let l = b.link t.link in
    let line = offers link.outbox.unwritten in
    tied_by (entered b (action.Write t.link link.outbox.unwritten)) (setting_on t (offered_of link) greeting) (noted l line) (mine_noted l t.link line) (record {
      numbers = numbers_kept b _ _ _ _ _ _ (setting_on t link greeting) _ _ _ _ _ _ _ _ _ _ h.numbers;
      others = others_kept b t.link line h.others;
      notices = h.notices;
      life = h.life;
      course = h.course;
      calm = h.calm;
      creds = record { wanted_is = h.creds.wanted_is; sought = h.creds.sought };
      creation = h.creation;
      uses = h.uses;
      renewal = renewal_alike l (noted l line) t.renewal (SettingUp link greeting) refl refl refl h.renewal;
      repeat = repeat_alike l (noted l line) b.tracked t.renewal.within t.again (SettingUp link greeting) refl refl refl (λ e is. cc) h.repeat;
      setup = setup_link (noted l line) t.info t.started link (offered_of link) greeting refl refl
          (setup_on l l.asked l.up l.end l.taken link.outbox.unwritten l.rest l.heard t.info t.started (SettingUp link greeting) h.setup);
      link = λ e. offered_tied (λ (p : ℕ). greeter greeting) l link (h.link refl);
      names = h.names;
      story = h.story;
      tries = record { owners = h.tries.owners; greeted = h.tries.greeted; shapes = h.tries.shapes; tried = h.tries.tried; untried = h.tries.untried };
      lines = record { line = h.lines.line; queued = h.lines.queued; entries = h.lines.entries; packs = h.lines.packs; packed_in = h.lines.packed_in; there = h.lines.there };
      told = λ e. h.told refl;
      waits = setting_waits b.story t.requests t.again link (offered_of link) greeting greeting t.fresh t.moved h.waits;
      permits = h.permits;
      rounds = h.rounds;
      early = λ unserved alive. (let k = h.early unserved alive in record { unbegun = k.unbegun; empty = k.empty });
      late = h.late;
    })

-- it may stand, once all requests are moved
write_may : (b : Book) (t : TurnState) (name : ℕ → Owner) (link : LinkState) → ((m : ℕ) → m ≢ t.link → (b.link m).up ≡ false) → (b.link t.link).up ≡ true → TiedLink name (b.link t.link) link → IsMoved b → can_offer link.outbox ≡ true → MayWrite b t.link link.outbox.unwritten
write_may b t name link others alive tied moved can =
    let may = offer_stands name (b.link t.link) link alive can tied in
    record {
      moved = moved;
      up = may.0;
      answered = may.1;
      all = may.2;
      some = may.3;
      in_order = λ m less up. absurd (not_both (b.link m).up (others m (λ e. omega (arith, e))) up);
    }

-- what may be offered is
--
-- behind that nothing more is done of its own: no generation begins, no link is asked for, and what was shown of generations is heeded
pub record HasReturned (before : List Action) (f : Core) (w : Work) : Type 0 where
  pub moved : HasMoved before f w
  pub put : StaysPut (book (trace_of_acts before f w.acts)) w.conn.life
  pub heeded : (let b = book (trace_of_acts before f w.acts) in IsHeeded b.rest b.failed w.conn.life f.manager)
  pub informed : IsInformed (book (trace_of_acts before f w.acts)) f.manager

-- so it is of a session that doesn't come back
pub plain_returned : (before : List Action) (f : Core) (w : Work) → is_some f.manager ≡ false → HasMoved before f w → HasReturned before f w
plain_returned before f w plain h =
    let b = book (trace_of_acts before f w.acts) in
    record {
      moved = h;
      put = λ x. plain_put b (seen f w.acts w.conn [] h.started) h.holds.tied plain;
      heeded = none_heeded f.manager plain;
      informed = none_informed f.manager plain;
    }
  where
    none_heeded : (m : Option Generations) → is_some m ≡ false → (let b = book (trace_of_acts before f w.acts) in IsHeeded b.rest b.failed w.conn.life m)
    none_heeded None none = tt
    none_heeded (Some g) none = cc

    none_informed : (m : Option Generations) → is_some m ≡ false → IsInformed (book (trace_of_acts before f w.acts)) m
    none_informed None none = tt
    none_informed (Some g) none = cc

-- another link of the same connection leaves what is heeded
heeded_alike : (rest : Option ℕ) (failed : Bool) (life now : Life) (m : Option Generations) → is_resting life ≡ false → IsHeeded rest failed life m → IsHeeded rest failed now m
heeded_alike rest failed life now None there h = tt
heeded_alike rest failed life now (Some g) there h = record { rest_is = h.rest_is; failed_is = h.failed_is; rests = λ some. absurd (not_both (is_resting life) there (ap is_resting (h.rests some).0)) }

-- the write of a turn is shown
pub record HasWritten (before : List Action) (f : Core) (w : Work) : Type 0 where
  pub returned : HasReturned before f w
  pub offered : IsOfferedIn w.conn.life

-- all requests of a session are moved
pub moved_book : (before : List Action) (f : Core) (w : Work) → HasReturned before f w → IsMoved (book (trace_of_acts before f w.acts))
moved_book before f w r =
    let h = r.moved in
    is_moved (book (trace_of_acts before f w.acts)) (seen f w.acts w.conn [] h.started) h.holds.tied refl (refl, refl) refl h.ended h.fit.link h.fit.none h.still.held h.still.full h.still.waiting h.still.none_waits (λ over. hushed_in w.conn.life w.conn.waiting (h.hushed over)) r.put h.fit.setup h.still.setup h.seats h.still.repeated h.still.renewed h.still.begun

-- all unwritten bytes are offered
write_shown : (before : List Action) (f : Core) (w : Work) (link : LinkState) → w.conn.life ≡ Ready link → can_offer link.outbox ≡ true → HasReturned before f w → HasWritten before f (acted (with_link w (offered_of link)) (act.Write link.outbox.unwritten))
write_shown before f w link life can r =
    let h = r.moved in
    let b = book (trace_of_acts before f w.acts) in
    let t = seen f w.acts w.conn [] h.started in
    let a = act.Write link.outbox.unwritten in
    let fit = h.fit.link link life in
    let after = offered_of link in
    let tied = subst (λ (x : Life). Tied b (record t { life = x })) life h.holds.tied in
    record {
      returned = record {
        moved = record {
          started = h.started;
          holds = holds_more before f w a (with_link w (offered_of link)).conn [] [] h.started h.holds (write_may b t (owner_of w.conn.requests) link (λ m other. (tied.others m other).down) tied.life.1 (tied.link refl) (moved_book before f w r) can) (write_tied b t link tied);
          ended = subst NoneEnds (sym (book_of_more before f w.acts a)) (none_ends_kept b f.single.link (offers link.outbox.unwritten) (λ l e. e) h.ended);
          fit = record {
            wanting = λ other e. cc;
            setup = λ other u e. cc;
            link = λ other e. subst (IsFit w.conn.size w.conn.boundary) (same_link after other e) (record { sound = fit.sound; size_is = fit.size_is; bound_is = fit.bound_is; within = fit.within });
            none = λ down. h.fit.none (ap (λ (x : Life). serves x w.conn.again) life ∙ down);
          };
          still = record {
            setup = λ other u e. cc;
            held = λ other e. subst (λ (x : LinkState). (x.queue ≡ []) ⊎ (holds_back x ≡ true)) (same_link after other e) (h.still.held link life);
            repeated = λ other e due. let k = h.still.repeated link life due in (k.0, subst (λ (x : LinkState). holds_back x ≡ true) (same_link after other e) k.1);
            full = λ other e. subst (λ (x : LinkState). (w.conn.admitted ≡ []) ⊎ (is_full_beside x (in_front w.conn.renewal) ≡ true)) (same_link after other e) (h.still.full link life);
            renewed = λ other e due. let k = h.still.renewed link life due in (k.0, subst (λ (x : LinkState). holds_back x ≡ true) (same_link after other e) k.1);
            waiting = λ other e none. h.still.waiting link life none;
            begun = λ shows up. h.still.begun shows (ap (λ (x : Life). serves x w.conn.again) life ∙ up);
            none_waits = λ e. cc;
          };
          hushed = λ over. subst (λ (x : Life). IsStopped x w.conn.waiting) life (h.hushed over);
          seats = subst (λ (x : Life). HasSeats w.conn.moved (in_front w.conn.renewal) (link_in x) w.conn.size) life h.seats;
        };
        put = λ x. cc;
        heeded = subst (λ (x : Book). IsHeeded x.rest x.failed (Ready after) f.manager) (sym (book_of_more before f w.acts a)) (heeded_alike b.rest b.failed w.conn.life (Ready after) f.manager (ap is_resting life) r.heeded);
        informed = subst (λ (x : Book). IsInformed x f.manager) (sym (book_of_more before f w.acts a)) (alike_still b (entered b (shown_now f w.acts a)) f.manager (write_alike b f.single.link 0 0 link.outbox.unwritten) r.informed);
      };
      offered = all_offered_can link.outbox;
    }

-- while the link is set up
write_set_shown : (before : List Action) (f : Core) (w : Work) (link : LinkState) (greeting : Greeting) → w.conn.life ≡ SettingUp link greeting → can_offer link.outbox ≡ true → HasReturned before f w
    → HasWritten before f (acted (with_setup w (offered_of link) greeting) (act.Write link.outbox.unwritten))
write_set_shown before f w link greeting life can r =
    let h = r.moved in
    let b = book (trace_of_acts before f w.acts) in
    let t = seen f w.acts w.conn [] h.started in
    let a = act.Write link.outbox.unwritten in
    let fit = h.fit.setup link greeting life in
    let after = offered_of link in
    let tied = subst (λ (x : Life). Tied b (record t { life = x })) life h.holds.tied in
    record {
      returned = record {
        moved = record {
          started = h.started;
          holds = holds_more before f w a (with_setup w (offered_of link) greeting).conn [] [] h.started h.holds (write_may b t (λ (p : ℕ). greeter greeting) link (λ m other. (tied.others m other).down) tied.life.1 (tied.link refl) (moved_book before f w r) can) (write_set_tied b t link greeting tied);
          ended = subst NoneEnds (sym (book_of_more before f w.acts a)) (none_ends_kept b f.single.link (offers link.outbox.unwritten) (λ l e. e) h.ended);
          fit = record {
            wanting = λ other e. cc;
            setup = λ other u e. subst (IsFit w.conn.size w.conn.boundary) (same_set after other greeting u e) (record { sound = fit.sound; size_is = fit.size_is; bound_is = fit.bound_is; within = fit.within });
            link = λ other e. cc;
            none = λ down. h.fit.none (unready_serves w.conn.life w.conn.again (ap is_ready life));
          };
          still = record {
            setup = λ other u e. subst (λ (x : LinkState). (x.queue ≡ []) ⊎ (holds_back x ≡ true)) (same_set after other greeting u e) (h.still.setup link greeting life);
            held = λ other e. cc;
            full = λ other e. cc;
            repeated = λ other e due. cc;
            renewed = λ other e. cc;
            waiting = λ other e none. cc;
            begun = λ shows up. cc;
            none_waits = λ e. cc;
          };
          hushed = λ over. subst (λ (x : Life). IsStopped x w.conn.waiting) life (h.hushed over);
          seats = λ p i k. absurd k;
        };
        put = λ x. cc;
        heeded = subst (λ (x : Book). IsHeeded x.rest x.failed (SettingUp after greeting) f.manager) (sym (book_of_more before f w.acts a)) (heeded_alike b.rest b.failed w.conn.life (SettingUp after greeting) f.manager (ap is_resting life) r.heeded);
        informed = subst (λ (x : Book). IsInformed x f.manager) (sym (book_of_more before f w.acts a)) (alike_still b (entered b (shown_now f w.acts a)) f.manager (write_alike b f.single.link 0 0 link.outbox.unwritten) r.informed);
      };
      offered = all_offered_can link.outbox;
    }
  where
    setting_not_ready : (life : Life) (link other : LinkState) (u : Greeting) → life ≡ SettingUp link u → life ≡ Ready other → ⊥
    setting_not_ready life link other u e r = let no : SettingUp link u ≡ Ready other = sym e ∙ r in cc

-- the link's one write
pub written_holds : (before : List Action) (f : Core) (w : Work) → HasReturned before f w → HasWritten before f (written w)
written_holds before f w h = by_life w.conn.life refl
  where
    can_not : (x : Life) → w.conn.life ≡ x → IsOfferedIn x → IsOfferedIn w.conn.life
    can_not x e n = ap (λ (y : Life). can_offer (whole_link y).outbox) e ∙ n

    by_life : (life : Life) → w.conn.life ≡ life → HasWritten before f (written w)
    by_life Resting e = subst (λ (x : Life). HasWritten before f (written_at w x)) (sym e) (record { returned = h; offered = can_not Resting e refl })
    by_life Dialing e = subst (λ (x : Life). HasWritten before f (written_at w x)) (sym e) (record { returned = h; offered = can_not Dialing e refl })
    by_life (Ended y) e = subst (λ (x : Life). HasWritten before f (written_at w x)) (sym e) (record { returned = h; offered = can_not (Ended y) e refl })
    by_life (Wanting link) e =
        let l = (book (trace_of_acts before f w.acts)).link f.single.link in
        let tied : TiedLink (λ (p : ℕ). owner.Setup) l link = subst (λ (x : Life). TiedLink (carried x w.conn.requests) l (whole_link x)) e (h.moved.holds.tied.link (ap has_ended e)) in
        let said = subst (HasSaid l h.moved.started) e h.moved.holds.tied.setup.said in
        subst (λ (x : Life). HasWritten before f (written_at w x)) (sym e) (record { returned = h; offered = can_not (Wanting link) e (none_offered l link tied said.0) })
    by_life (SettingUp link greeting) e =
        subst (λ (x : Life). HasWritten before f (written_at w x)) (sym e)
        (chosen (HasWritten before f) (can_offer link.outbox) (acted (with_setup w (offered_of link) greeting) (act.Write link.outbox.unwritten)) w
        (λ t. write_set_shown before f w link greeting e t h)
        (λ n. record { returned = h; offered = can_not (SettingUp link greeting) e n }))
    by_life (Ready link) e =
        subst (λ (x : Life). HasWritten before f (written_at w x)) (sym e)
        (chosen (HasWritten before f) (can_offer link.outbox) (acted (with_link w (offered_of link)) (act.Write link.outbox.unwritten)) w
        (λ t. write_shown before f w link e t h)
        (λ n. record { returned = h; offered = can_not (Ready link) e n }))

-- every link that is up is offered its bytes
--
up_offered : (b : Book) (t : TurnState) → Tied b t → IsOfferedIn t.life → (b.link t.link).up ≡ true → IsOffered (b.link t.link)
up_offered b t h offered up = is_offered (carried t.life t.requests) (b.link t.link) (whole_link t.life) offered (h.link (alive t.life h.life))
  where
    alive : (life : Life) → TiedLife (b.link t.link) b.created life → has_ended life ≡ false
    alive Resting k = refl
    alive Dialing k = refl
    alive (Wanting link) k = refl
    alive (SettingUp link greeting) k = refl
    alive (Ready link) k = refl
    alive (Ended y) k = absurd (not_both (b.link t.link).up k.0 up)

-- so the book has all its writes
pub is_written : (b : Book) (t : TurnState) → Tied b t → IsMoved b → IsOfferedIn t.life → IsWritten b
is_written b t h moved offered = record {
  moved = moved;
  offered = λ l up. by_test (l == t.link) _
      (λ e. let same = eq_from l t.link e in subst (λ k. IsOffered (b.link k)) (sym same) (up_offered b t h offered (subst (λ k. (b.link k).up ≡ true) same up)))
      (λ n. absurd (not_both (b.link l).up (h.others l (ne_from l t.link n)).down up));
}
