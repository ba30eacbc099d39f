-- What is to be subscribed again is, behind its timer, before new credentials and the queue.
use Rattle.std.proofs.Common.{List, None, Option, Some, [], ap, arith, false, inl, inr, length, length-append, refl, subst, sym, true, ℕ, ◌+◌, ◌++◌, ◌≤◌, ◌∙◌, ◌∷◌, ◌≡◌, ◌≢◌}
use Rattle.std.proofs.Math.Bool.{and-false}
use Rattle.std.proofs.lemmas.List.{append-nil}
use Rattle.std.specs.Prelude.{Bool, if◌then◌else◌, is_some, ◌&&◌}
use Rattle.containers.proofs.Choices.{both_right, by_test, chosen, not_both}
use Rattle.driver_model.specs.Hearing.{is_watching}
use Rattle.driver_model.specs.Shape.{need_of}
use Rattle.driver_model.specs.declared.action.Action.{Action}
use Rattle.driver_model.specs.declared.action.Action.TheVariants as action
use Rattle.driver_model.specs.declared.action.Owner.TheVariants as owner
use Rattle.driver_model.specs.declared.action.Purpose.TheVariants as purpose
use Rattle.driver_model.specs.declared.outcome.Shape.{Shape}
use Rattle.link_core.specs.Link.{LinkState, begun, entry_of, holds_back}
use Rattle.link_laws.proofs.TiedLink.{all_push, begun_tied, repeats_timed_tied}
use Rattle.link_laws.specs.Settles.{awaited_ids}
use Rattle.link_laws.specs.Starts.{start_from}
use Rattle.mux_conn.specs.Connection.{Work, is_outstanding, is_ready}
use Rattle.mux_conn.specs.Renewals.{renewal_id}
use Rattle.mux_conn.specs.Repeats.{is_to_start, is_untimed, repeat_asked, repeat_id, repeat_moved, repeat_queued, repeat_timed, repeat_told, repeated, repeating, with_timer}
use Rattle.mux_conn.specs.declared.act.LinkAct.TheVariants as act
use Rattle.mux_conn.specs.declared.again.Again.{Again}
use Rattle.mux_conn.specs.declared.again.Again.TheVariants as again
use Rattle.mux_conn.specs.declared.life.Greeting.TheVariants as greet
use Rattle.mux_conn.specs.declared.life.Life.{Life}
use Rattle.mux_conn.specs.declared.life.Life.TheVariants.{Ready}
use Rattle.single_session.specs.declared.core_state.Core.{Core}
use Rattle.single_session.specs.Turn.{timers_of}
use Rattle.legal_trace.specs.Book.{Book, book, entered, message_of}
use Rattle.legal_trace.specs.Ledger.{Ledger, Start, again_due, begins, is_of_again, is_of_renewal, is_of_setup, noted, repeats_timed}
use Rattle.legal_trace.specs.Legal.{MayRepeat, MayTimeRepeat, NoneEnds}
use Rattle.session_laws.proofs.Ties.Ahead.{held_by}
use Rattle.session_laws.proofs.Requests.Going.{applied_up, monitors_started, none_ends_kept, none_ends_mine, setups_started}
use Rattle.conn_laws.proofs.Ties.InLine.{kept_ids}
use Rattle.session_laws.proofs.Ties.Kept.{mine_noted, others_kept, tied_by}
use Rattle.conn_laws.proofs.Ties.Names.{owner_of_repeat}
use Rattle.conn_laws.proofs.Ties.Numbers.{IsIn, Rising, repeat_is_own, requests_behind, requests_in, requests_in-append}
use Rattle.conn_laws.proofs.Internal.Renewals.{begins_renewed, renewal_alike}
use Rattle.conn_laws.proofs.Internal.Renews.{one_link, tries_told, wanted_told}
use Rattle.conn_laws.proofs.Internal.Repeating.{HasRepeated}
use Rattle.session_laws.proofs.Internal.Repeating.{aims_repeated, due_here, repeats_timed as all_timed}
use Rattle.conn_laws.proofs.Internal.Repeats.{IsRepeatDue, repeat_sent, repeat_timed as timed_due, repeat_untimed, to_start_is}
use Rattle.conn_laws.proofs.Links.SetUp.{begun_open, set_up_begins, setups_begins}
use Rattle.session_laws.proofs.Requests.Settle.{Holds, book_of_more, seen, sound_act, trace_of_acts}
use Rattle.conn_laws.proofs.Requests.Start.{not_setting}
use Rattle.session_laws.proofs.Requests.Start.{on_link}
use Rattle.conn_laws.proofs.Requests.Starts.{begins_ends_none}
use Rattle.conn_laws.proofs.Ties.States.{IsFit}
use Rattle.conn_laws.proofs.Ties.Tied.{IsEntry, owner_of, queue_ids}
use Rattle.session_laws.proofs.Ties.Tied.{TurnState, Tied, TiedNumbers, numbers_kept}
use Rattle.conn_laws.proofs.Links.Took.{queue_waits}
use Rattle.conn_laws.proofs.Internal.RepeatsTold.{again_waits}

-- the session on this link, with this to be subscribed again, whose timer was asked for or not
abbrev pub due_on : TurnState → LinkState → List ℕ → Shape → Bool → TurnState
due_on t link packed of_shape timed = record (on_link t link) { again = again.Due packed of_shape timed }

-- and the numbers: it is none of a server in monitor mode
again_numbers : (b : Book) (t : TurnState) (a : Again) → is_outstanding t.again ≡ true → TiedNumbers b t → TiedNumbers b (record t { again = a })
again_numbers b t a goes h = record {
  turns = h.turns;
  links = h.links;
  timers = h.timers;
  sources = h.sources;
  aims = h.aims;
  timed = h.timed;
  submissions = h.submissions;
  timeout = h.timeout;
  shut = h.shut;
  within = h.within;
  few = h.few;
  settings = record { size_is = h.settings.size_is; bound_is = h.settings.bound_is; limit_is = h.settings.limit_is; some = h.settings.some; limited = h.settings.limited };
  kind_is = h.kind_is;
  quiet = λ w. absurd (not_both (is_outstanding t.again) (h.quiet w).unrepeated goes);
  comes_back = h.comes_back;
  lazy = h.lazy;
  current_is = h.current_is;
  speaks = h.speaks;
  address_is = h.address_is;
  wants = h.wants;
  alone = h.alone;
}

-- so it is to start by the ledger
due_now : (b : Book) (t : TurnState) (link : LinkState) (packed : List ℕ) (of_shape : Shape) (timed : Bool) → Tied b (due_on t link packed of_shape timed) → again_due (b.link t.link) ≡ true
due_now b t link packed of_shape timed h = to_start_is (b.link t.link) b.tracked t.renewal.within (again.Due packed of_shape timed) (λ i. h.life.1 i && h.setup.said.well i) h.repeat

-- its timer
--
-- it may be asked for
may_time_repeat : (b : Book) (t : TurnState) (link : LinkState) (packed : List ℕ) (of_shape : Shape) (number ms : ℕ) → number ≡ length t.timers → t.renewal.within ≡ Some ms → Tied b (due_on t link packed of_shape false) → NoneEnds b
    → MayTimeRepeat b number ms (purpose.Resubscription t.link)
may_time_repeat b t link packed of_shape number ms counted within h ended =
    let was = due_on t link packed of_shape false in
    let due : IsRepeatDue (b.link t.link) b.tracked t.renewal.within packed of_shape false = h.repeat in
    record {
      applied = applied_up b was h refl (refl, refl) refl refl ended;
      setups = setups_started b was h (λ x u e. absurd (not_setting link x u e));
      monitors = monitors_started b was h (λ x e. absurd (not_setting link x greet.Monitor e));
      l = t.link;
      within = h.numbers.within ∙ within;
      due = due_now b t link packed of_shape false h;
      once = due.timed_is ∙ and-false (is_some t.renewal.within);
      in_order = λ m less starts. absurd (let same = due_here b was m h starts in omega (arith, less, same));
      next = counted ∙ ap length (sym h.numbers.timers);
      is_for = refl;
    }

-- and is
repeat_time_tied : (b : Book) (t : TurnState) (link : LinkState) (packed : List ℕ) (of_shape : Shape) (number ms : ℕ) → t.renewal.within ≡ Some ms → Tied b (due_on t link packed of_shape false)
    → Tied (entered b (action.Timer number ms (purpose.Resubscription t.link))) (record (due_on t link packed of_shape true) { timers = t.timers ++ purpose.Resubscription t.link ∷ [] })
repeat_time_tied b t link packed of_shape number ms within h =
    let l = b.link t.link in
    let what = purpose.Resubscription t.link in
    let due : IsRepeatDue l b.tracked (Some ms) packed of_shape false = subst (λ o. IsRepeatDue l b.tracked o packed of_shape false) within h.repeat in
    let timed : IsRepeatDue (noted l repeats_timed) b.tracked t.renewal.within packed of_shape true = subst (λ o. IsRepeatDue (noted l repeats_timed) b.tracked o packed of_shape true) (sym within) (timed_due l b.tracked ms packed of_shape false due) in
    tied_by (entered b (action.Timer number ms what)) (record (due_on t link packed of_shape true) { timers = t.timers ++ what ∷ [] }) (noted l repeats_timed) (mine_noted l t.link repeats_timed) (record {
      numbers = record {
        turns = h.numbers.turns;
        links = h.numbers.links;
        timers = ap (λ ts. ts ++ what ∷ []) h.numbers.timers;
        sources = h.numbers.sources;
        aims = aims_repeated t.timers t.link (length t.table) h.numbers.aims;
        timed = h.numbers.timed;
        submissions = h.numbers.submissions;
        timeout = h.numbers.timeout;
        shut = h.numbers.shut;
        within = h.numbers.within;
        few = h.numbers.few;
        settings = record { size_is = h.numbers.settings.size_is; bound_is = h.numbers.settings.bound_is; limit_is = h.numbers.settings.limit_is; some = h.numbers.settings.some; limited = h.numbers.settings.limited };
        kind_is = h.numbers.kind_is;
        quiet = λ w. absurd (not_both true (h.numbers.quiet w).unrepeated refl);
        comes_back = h.numbers.comes_back;
        lazy = h.numbers.lazy;
        current_is = h.numbers.current_is;
        speaks = h.numbers.speaks;
        address_is = h.numbers.address_is;
        wants = h.numbers.wants;
        alone = h.numbers.alone;
      };
      others = others_kept b t.link repeats_timed h.others;
      notices = h.notices;
      life = h.life;
      course = h.course;
      calm = h.calm;
      creds = record { wanted_is = h.creds.wanted_is; sought = h.creds.sought };
      creation = h.creation;
      uses = h.uses;
      renewal = renewal_alike l (noted l repeats_timed) t.renewal (Ready link) refl refl refl h.renewal;
      repeat = timed;
      setup = record { info_is = h.setup.info_is; sent = h.setup.sent; said = record { well = h.setup.said.well; none = h.setup.said.none } };
      link = λ e. repeats_timed_tied (owner_of t.requests) l link (h.link refl);
      names = h.names;
      story = h.story;
      tries = record { owners = h.tries.owners; greeted = h.tries.greeted; shapes = h.tries.shapes; tried = h.tries.tried; untried = h.tries.untried };
      lines = h.lines;
      told = h.told;
      waits = again_waits b.story t.requests (again.Due packed of_shape false) (again.Due packed of_shape true) (Ready link) t.fresh t.moved refl h.waits;
      permits = h.permits;
      rounds = h.rounds;
      early = h.early;
      late = h.late;
    })

-- or it is to be answered within no time
untimed_tied : (b : Book) (t : TurnState) (link : LinkState) (packed : List ℕ) (of_shape : Shape) → t.renewal.within ≡ None → Tied b (due_on t link packed of_shape false) → Tied b (due_on t link packed of_shape true)
untimed_tied b t link packed of_shape within h =
    let l = b.link t.link in
    let due : IsRepeatDue l b.tracked None packed of_shape false = subst (λ o. IsRepeatDue l b.tracked o packed of_shape false) within h.repeat in
    let timed : IsRepeatDue l b.tracked t.renewal.within packed of_shape true = subst (λ o. IsRepeatDue l b.tracked o packed of_shape true) (sym within) (repeat_untimed l b.tracked packed of_shape false due) in
    record {
      numbers = again_numbers b (due_on t link packed of_shape false) (again.Due packed of_shape true) refl h.numbers;
      others = h.others;
      notices = h.notices;
      life = h.life;
      course = h.course;
      calm = h.calm;
      creds = h.creds;
      creation = h.creation;
      uses = h.uses;
      renewal = h.renewal;
      repeat = timed;
      setup = h.setup;
      link = h.link;
      names = h.names;
      story = h.story;
      tries = h.tries;
      lines = h.lines;
      told = h.told;
      waits = again_waits b.story t.requests (again.Due packed of_shape false) (again.Due packed of_shape true) (Ready link) t.fresh t.moved refl h.waits;
      permits = h.permits;
      rounds = h.rounds;
      early = h.early;
      late = h.late;
    }

-- its message
--
-- what shows it
abbrev repeat_action : TurnState → LinkState → List ℕ → Shape → Action
repeat_action t link packed of_shape = action.Start t.link link.started owner.Resub (need_of of_shape) (length packed)

-- the session then
abbrev after_repeat : TurnState → LinkState → List ℕ → Shape → TurnState
after_repeat t link packed of_shape = record (on_link t (begun link (repeat_queued packed of_shape))) { again = again.Sent; started = t.started ++ repeat_id ∷ [] }

-- where a time is set, its timer was asked for
due_timed : (l : Ledger) (b : Book) (within : Option ℕ) (packed : List ℕ) (of_shape : Shape) → IsRepeatDue l b.tracked within packed of_shape true → within ≢ None → l.again.timed ≡ true
due_timed l b None packed of_shape h some = absurd (some refl)
due_timed l b (Some ms) packed of_shape h some = h.timed_is

-- it may start, where nothing holds the link back
may_repeat : (b : Book) (t : TurnState) (link : LinkState) (packed : List ℕ) (of_shape : Shape) → IsFit t.size t.bound link → holds_back link ≡ false → Tied b (due_on t link packed of_shape true) → NoneEnds b
    → MayRepeat b t.link link.started (need_of of_shape) (length packed)
may_repeat b t link packed of_shape fit free h ended =
    let was = due_on t link packed of_shape true in
    let l = b.link t.link in
    let due : IsRepeatDue l b.tracked t.renewal.within packed of_shape true = h.repeat in
    record {
      applied = applied_up b was h refl (refl, refl) refl refl ended;
      setups = setups_started b was h (λ x u e. absurd (not_setting link x u e));
      monitors = monitors_started b was h (λ x e. absurd (not_setting link x greet.Monitor e));
      timed = all_timed b was h (λ some starts. due_timed l b t.renewal.within packed of_shape due some);
      due = due_now b t link packed of_shape true h;
      free = held_by b was (owner_of t.requests) link h.numbers fit.bound_is (h.link refl) ∙ free;
      in_order = λ m less starts. absurd (let same = due_here b was m h starts in omega (arith, less, same));
      next = (h.link refl).started;
      needs_its_items = ap (λ (s : Start). need_of s.shape) (sym due.message);
      long_as_its_bytes = ap (λ (s : Start). length s.bytes) (sym due.message);
    }

-- the session is tied to the book with it
repeat_tied : (b : Book) (t : TurnState) (link : LinkState) (packed : List ℕ) (of_shape : Shape) → Tied b (due_on t link packed of_shape true) → Tied (entered b (repeat_action t link packed of_shape)) (after_repeat t link packed of_shape)
repeat_tied b t link packed of_shape h =
    let l = b.link t.link in
    let q = repeat_queued packed of_shape in
    let name = owner_of t.requests in
    let s = start_from name q in
    let due : IsRepeatDue l b.tracked t.renewal.within packed of_shape true = h.repeat in
    let owned : s.owner ≡ owner.Resub = owner_of_repeat t.requests repeat_id refl in
    let told : message_of b t.link owner.Resub ≡ s = due.message ∙ (λ i. record { owner = sym owned i; shape = of_shape; bytes = packed }) in
    let up = h.link refl in
    let unwatched : is_watching l.hearing ≡ false = by_test (is_watching l.hearing) (is_watching l.hearing ≡ false) (λ w. absurd (not_both true (h.numbers.quiet (ap is_watching (sym h.notices.hearing_is) ∙ w)).unrepeated refl)) (λ f. f) in
    let few : length t.requests ≤ repeat_id = omega (arith, h.names.few, h.numbers.few) in
    let now = entered b (repeat_action t link packed of_shape) in
    let behind = record (due_on t (begun link q) packed of_shape true) { started = t.started ++ repeat_id ∷ [] } in
    let numbers : TiedNumbers now behind = numbers_kept b now.link now.story b.tracked b.errors now.placed now.since (due_on t link packed of_shape true) (Ready (begun link q)) t.free t.requests t.waiting t.admitted t.fresh t.moved t.being_admitted [] (t.started ++ repeat_id ∷ []) h.numbers in
    tied_by (entered b (repeat_action t link packed of_shape)) (after_repeat t link packed of_shape) (noted l (begins s)) (mine_noted l t.link (begins (message_of b t.link owner.Resub)) ∙ ap (λ x. noted l (begins x)) told) (record {
      numbers = again_numbers now behind again.Sent refl numbers;
      others = others_kept b t.link (begins (message_of b t.link owner.Resub)) h.others;
      notices = h.notices;
      life = h.life;
      course = h.course;
      calm = h.calm;
      creds = record { wanted_is = h.creds.wanted_is; sought = h.creds.sought };
      creation = h.creation;
      uses = h.uses;
      renewal = begins_renewed l t.renewal s (ap is_of_renewal owned) h.renewal;
      repeat = repeat_sent l s b.tracked t.renewal.within packed of_shape true (ap is_of_again owned) (begun_open l s (length l.starts) refl up.within) due;
      setup = record { info_is = h.setup.info_is; sent = setups_begins l s (ap is_of_setup owned) h.setup.sent; said = set_up_begins l s (ap is_of_setup owned) h.setup.said };
      link = λ e. begun_tied name l link q due.some up;
      names = h.names;
      story = h.story;
      tries = tries_told l b.story t.requests t.link t.started s repeat_id few (ap is_of_setup owned) refl unwatched h.tries;
      lines = record {
        line = subst (λ ns. Rising 0 (ns ++ (queue_ids link.queue ++ kept_ids t.admitted t.waiting)) (length t.requests)) (sym (requests_in-append t.started (repeat_id ∷ []) ∙ ap (λ ns. requests_in t.started ++ ns) (requests_behind repeat_id [] (repeat_is_own repeat_id refl)) ∙ append-nil (requests_in t.started))) h.lines.line;
        queued = h.lines.queued;
        entries = all_push (IsEntry t.requests) link.row (entry_of q) h.lines.entries (inr (record { is = repeat_is_own repeat_id refl; awaited_is = refl; shape_is = λ e. absurd (let same : repeat_id ≡ renewal_id = e in omega (arith, same)) }));
        packs = h.lines.packs;
        packed_in = h.lines.packed_in;
        there = λ p e. elim (h.lines.there p e) [
          | inl i ↦ inl (subst (λ ns. IsIn p (ns ++ awaited_ids link.queue)) (sym (wanted_told link.row q (repeat_is_own repeat_id refl) refl)) i)
          | inr k ↦ inr k
        ];
      };
      told = λ e. h.told refl;
      waits = queue_waits b.story t.requests again.Sent link (begun link q) t.fresh t.moved (λ p i. i) (again_waits b.story t.requests (again.Due packed of_shape true) again.Sent (Ready link) t.fresh t.moved refl h.waits);
      permits = h.permits;
      rounds = h.rounds;
      early = λ unserved alive. (let k = h.early refl alive in record { unbegun = k.unbegun; empty = k.empty });
      late = h.late;
    })

-- all of it
--
-- a connection whose link is set up, on which what is to be subscribed again is, but where its link is held back
pub record HasRepeatedOn (before : List Action) (f : Core) (v : Work) : Type 0 where
  pub started : List ℕ
  pub link : LinkState
  pub life : v.conn.life ≡ Ready link
  pub holds : Holds before f v [] started
  pub ended : NoneEnds (book (trace_of_acts before f v.acts))
  pub fit : IsFit v.conn.size v.conn.boundary link
  pub moved : v.conn.moved ≡ []
  pub repeated : HasRepeated v.conn.again v.conn.life

-- it is to start, and its timer was asked for, or wasn't
record IsDueOn (before : List Action) (f : Core) (v : Work) (started : List ℕ) (link : LinkState) (packed : List ℕ) (of_shape : Shape) (timed : Bool) : Type 0 where
  life : v.conn.life ≡ Ready link
  due : v.conn.again ≡ again.Due packed of_shape timed
  holds : Holds before f v [] started
  ended : NoneEnds (book (trace_of_acts before f v.acts))
  fit : IsFit v.conn.size v.conn.boundary link
  moved : v.conn.moved ≡ []

-- so the session is
was_due : (before : List Action) (f : Core) (v : Work) (started : List ℕ) (link : LinkState) (packed : List ℕ) (of_shape : Shape) (timed : Bool) → IsDueOn before f v started link packed of_shape timed
    → Tied (book (trace_of_acts before f v.acts)) (due_on (seen f v.acts v.conn [] started) link packed of_shape timed)
was_due before f v started link packed of_shape timed h =
    let b = book (trace_of_acts before f v.acts) in
    let t = seen f v.acts v.conn [] started in
    subst (λ (x : Again). Tied b (record (on_link t link) { again = x })) h.due (subst (λ (x : Life). Tied b (record t { life = x })) h.life h.holds.tied)

-- its timer is asked for, where it wasn't yet
timed_now : (before : List Action) (f : Core) (w : Work) (started : List ℕ) (link : LinkState) (packed : List ℕ) (of_shape : Shape) (within : Option ℕ) → w.conn.renewal.within ≡ within → IsDueOn before f w started link packed of_shape false
    → IsDueOn before f (repeat_timed (repeating w (again.Due packed of_shape true)) within) started link packed of_shape true
timed_now before f w started link packed of_shape None e h =
    let b = book (trace_of_acts before f w.acts) in
    let t = seen f w.acts w.conn [] started in
    record {
      life = h.life;
      due = refl;
      holds = record { stands = h.holds.stands; tied = subst (λ (x : Life). Tied b (record t { life = x; again = again.Due packed of_shape true })) (sym h.life) (untimed_tied b t link packed of_shape e (was_due before f w started link packed of_shape false h)) };
      ended = h.ended;
      fit = h.fit;
      moved = h.moved;
    }
timed_now before f w started link packed of_shape (Some ms) e h =
    let b = book (trace_of_acts before f w.acts) in
    let t = seen f w.acts w.conn [] started in
    let a = act.RepeatTimer ms in
    let was = was_due before f w started link packed of_shape false h in
    let number = length f.timers + length (timers_of f.single.link w.acts) in
    let what = purpose.Resubscription f.single.link in
    let may = may_time_repeat b t link packed of_shape number ms (sym (length-append f.timers (timers_of f.single.link w.acts))) e was h.ended in
    let tied = subst (λ (x : Life). Tied (entered b (action.Timer number ms what)) (record t { life = x; timers = t.timers ++ what ∷ []; again = again.Due packed of_shape true })) (sym h.life) (repeat_time_tied b t link packed of_shape number ms e was) in
    record {
      life = h.life;
      due = refl;
      holds = sound_act before f w.acts a (record w.conn { again = again.Due packed of_shape true }) [] started h.holds.stands (inr (inr (inr may))) tied;
      ended = subst NoneEnds (sym (book_of_more before f w.acts a)) (none_ends_kept b f.single.link repeats_timed (λ l x. x) h.ended);
      fit = h.fit;
      moved = h.moved;
    }

-- it is once its timer is to be there
due_asked : (before : List Action) (f : Core) (w : Work) (started : List ℕ) (link : LinkState) (packed : List ℕ) (of_shape : Shape) (timed : Bool) → IsDueOn before f w started link packed of_shape timed → IsDueOn before f (repeat_asked w) started link packed of_shape true
due_asked before f w started link packed of_shape timed h =
    subst (λ (a : Again). IsDueOn before f (asked_with a) started link packed of_shape true) (sym h.due) (by_timed timed h)
  where
    asked_with : Again → Work
    asked_with a = if is_untimed a then repeat_timed (repeating w (with_timer a)) w.conn.renewal.within else repeating w (with_timer a)

    by_timed : (x : Bool) → IsDueOn before f w started link packed of_shape x → IsDueOn before f (asked_with (again.Due packed of_shape x)) started link packed of_shape true
    by_timed false k = timed_now before f w started link packed of_shape w.conn.renewal.within refl k
    by_timed true k = record {
      life = k.life;
      due = refl;
      holds = subst (λ (a : Again). Holds before f (repeating w a) [] started) k.due k.holds;
      ended = k.ended;
      fit = k.fit;
      moved = k.moved;
    }

-- it starts, where nothing holds the link back
due_moved : (before : List Action) (f : Core) (v : Work) (started : List ℕ) (link : LinkState) (packed : List ℕ) (of_shape : Shape) (was : Bool) → IsDueOn before f v started link packed of_shape true → HasRepeatedOn before f (repeat_moved v (Ready link) (again.Due packed of_shape was))
due_moved before f v started link packed of_shape was h =
    chosen (HasRepeatedOn before f) (holds_back link) v (repeat_told v link packed of_shape)
    (λ held. record {
      started = started;
      link = link;
      life = h.life;
      holds = h.holds;
      ended = h.ended;
      fit = h.fit;
      moved = h.moved;
      repeated = λ x e start. (ap is_untimed h.due, subst (λ (y : LinkState). holds_back y ≡ true) (one_link link x (sym h.life ∙ e)) held);
    })
    (λ free.
    let b = book (trace_of_acts before f v.acts) in
    let t = seen f v.acts v.conn [] started in
    let q = repeat_queued packed of_shape in
    let a = act.Repeated link.started (need_of of_shape) (length packed) in
    let tied = was_due before f v started link packed of_shape true h in
    let l = b.link f.single.link in
    let message = message_of b f.single.link owner.Resub in
    record {
      started = started ++ repeat_id ∷ [];
      link = begun link q;
      life = refl;
      holds = sound_act before f v.acts a (record v.conn { again = again.Sent; life = Ready (begun link q) }) [] (started ++ repeat_id ∷ []) h.holds.stands
          (may_repeat b t link packed of_shape h.fit free tied h.ended) (repeat_tied b t link packed of_shape tied);
      ended = subst NoneEnds (sym (book_of_more before f v.acts a)) (none_ends_mine b f.single.link (begins message) (begins_ends_none l message tied.life.1 refl tied.setup.said (h.ended f.single.link)) h.ended);
      fit = record { sound = h.fit.sound; size_is = h.fit.size_is; bound_is = h.fit.bound_is; within = h.fit.within };
      moved = h.moved;
      repeated = λ x e start. cc;
    })

-- so it is subscribed again, where anything is to be
pub repeated_on : (before : List Action) (f : Core) (w : Work) (started : List ℕ) (link : LinkState) → w.conn.life ≡ Ready link → Holds before f w [] started → NoneEnds (book (trace_of_acts before f w.acts)) → IsFit w.conn.size w.conn.boundary link → w.conn.moved ≡ [] → HasRepeatedOn before f (repeated w)
repeated_on before f w started link life holds ended fit moved =
    chosen (HasRepeatedOn before f) (is_ready w.conn.life && is_to_start w.conn.again) (repeat_moved (repeat_asked w) w.conn.life w.conn.again) w
    (λ t. subst (λ (x : Life). HasRepeatedOn before f (repeat_moved (repeat_asked w) x w.conn.again)) (sym life) (by_again w.conn.again refl (both_right (is_ready w.conn.life) (is_to_start w.conn.again) t)))
    (λ none. record {
      started = started;
      link = link;
      life = life;
      holds = holds;
      ended = ended;
      fit = fit;
      moved = moved;
      repeated = λ x e start. absurd (not_both (is_ready w.conn.life && is_to_start w.conn.again) none (λ i. ap is_ready life i && start i));
    })
  where
    by_again : (a : Again) → w.conn.again ≡ a → is_to_start a ≡ true → HasRepeatedOn before f (repeat_moved (repeat_asked w) (Ready link) a)
    by_again again.Nothing e start = cc
    by_again (again.Due packed of_shape timed) e start = due_moved before f (repeat_asked w) started link packed of_shape timed (due_asked before f w started link packed of_shape timed (record { life = life; due = e; holds = holds; ended = ended; fit = fit; moved = moved }))
    by_again again.Sent e start = cc
