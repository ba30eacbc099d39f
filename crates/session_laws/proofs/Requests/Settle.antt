-- Those that are to be answered are, one after another.
use Rattle.std.proofs.lemmas.List.{append-nil}
use Rattle.std.proofs.Common.{Bool, ◌+◌, append_assoc, ◌≡◌, inl, ℕ, true, false, List, [], ◌∷◌, ◌++◌, length, Option, Some, refl, sym, ap, ◌∙◌, subst, arith, ◌≢◌, ◌≤◌, None}
use Rattle.std.specs.List.{AllByRecursion}
use Rattle.containers.proofs.Choices.{by_test, chosen}
use Rattle.redis_error.specs.declared.redis_error.RedisError.{RedisError}
use Rattle.driver_model.specs.declared.action.Action.{Action}
use Rattle.driver_model.specs.declared.outcome.Outcome.{Outcome}
use Rattle.driver_model.specs.Shape.{outcome_of}
use Rattle.driver_model.specs.declared.outcome.Outcome.TheVariants as outcome
use Rattle.link_core.specs.declared.message.Settled.{Settled}
use Rattle.link_laws.specs.Settles.{settled_ids}
use Rattle.mux_conn.specs.declared.act.LinkAct.{LinkAct}
use Rattle.mux_conn.specs.declared.act.LinkAct.TheVariants as act
use Rattle.mux_conn.specs.declared.connection.MultiplexedConnection.{MultiplexedConnection}
use Rattle.mux_conn.specs.declared.life.Life.TheVariants.{Ended}
use Rattle.mux_conn.specs.declared.request.Progress.TheVariants as progress
use Rattle.mux_conn.specs.declared.request.Waiting.{Waiting}
use Rattle.mux_conn.specs.Connection.{Work}
use Rattle.mux_conn.specs.Requests.{is_open, is_open_at, name_at, closed, answered}
use Rattle.mux_conn.specs.declared.renewal.Renewal.{Renewal}
use Rattle.mux_conn.specs.Effects.{failed_each, settled_each}
use Rattle.single_session.specs.declared.core_state.Core.{Core}
use Rattle.single_session.specs.Turn.{shown, shown_each, source_of, sources_of, timer_of, timers_of}
use Rattle.legal_trace.specs.Ledger.{Ledger, Heard, next_notice, renewal_count}
use Rattle.legal_trace.specs.Book.{Book, blank_book, book, entered}
use Rattle.legal_trace.specs.Owed.{owed}
use Rattle.legal_trace.specs.Legal.{AllStand, MayStand, MayAnswer, IsBefore, is_heard}
use Rattle.conn_laws.proofs.Ties.Numbers.{Rising, is_own, requests_behind, requests_first, requests_in}
use Rattle.conn_laws.proofs.Links.Server.{OnLink, TiedRenewal}
use Rattle.conn_laws.proofs.Ties.Tied.{link_in, waiting_ids, AreAside}
use Rattle.session_laws.proofs.Ties.Tied.{TurnState, Tied, Sound}
use Rattle.session_laws.proofs.Ties.Entered.{book_more, quiet_sources, quiet_timers, sound_more, shown_more, sources_more, timers_more}
use Rattle.conn_laws.proofs.Ties.Names.{open_within, name_with, with_then}
use Rattle.conn_laws.proofs.Changes.Requests.{progress_count as length_with}
use Rattle.conn_laws.proofs.Ties.InLine.{line_of, IsInLine, open_in_line, first_is_least}
use Rattle.session_laws.proofs.Requests.Answer.{may_answer, after_closes, none_before, owed_still, answer_tied, skip_tied}
use Rattle.conn_laws.proofs.Internal.Repeats.{TiedRepeat}
use Rattle.conn_laws.proofs.Requests.Settle.{AnswersNone, IsDue, IsDueError, answered_owns, over_life, own_each, own_one, own_settled, request_settled, rest_in_line}

-- a session in the middle of a turn, by its connection, and by the acts so far, which may ask for timers and for sources of
-- credentials
abbrev pub seen : Core → List LinkAct → MultiplexedConnection → List ℕ → List ℕ → TurnState
seen f acts conn pending started = record {
  manager = f.manager;
  turns = f.turns;
  links = f.links;
  link = f.single.link;
  timers = f.timers ++ timers_of f.single.link acts;
  sources = f.sources ++ sources_of f.single.link acts;
  shut = f.shut;
  table = f.table;
  timeout = f.timeout;
  size = conn.size;
  bound = conn.boundary;
  limit = conn.limit;
  free = conn.free;
  kind = f.kind;
  hears = conn.hears;
  untold = [];
  parting = false;
  info = conn.info;
  address = conn.address;
  renewal = conn.renewal;
  again = conn.again;
  life = conn.life;
  last = conn.last;
  told = conn.told;
  opened = conn.opened;
  requests = conn.requests;
  waiting = conn.waiting;
  admitted = conn.admitted;
  fresh = conn.fresh;
  moved = conn.moved;
  rounds = conn.rounds;
  being_admitted = [];
  pending = pending;
  started = started;
}

-- the number of the source that the next act asks for, if it asks for one
abbrev pub next_source : Core → List LinkAct → ℕ
next_source f acts = length f.sources + length (sources_of f.single.link acts)

-- the trace up to the last act
abbrev pub trace_of_acts : List Action → Core → List LinkAct → List Action
trace_of_acts before f acts = before ++ shown_each f.single.link (length f.timers) (length f.sources) acts

-- the session is tied to the book of that trace
abbrev pub Holds : List Action → Core → Work → List ℕ → List ℕ → Type 0
Holds before f w pending started = Sound (trace_of_acts before f w.acts) (seen f w.acts w.conn pending started)

-- so it is in the middle of a turn, where these notices are still to be told
abbrev pub Tells : List Action → Core → Work → List Heard → List ℕ → List ℕ → Type 0
Tells before f w untold pending started = Sound (trace_of_acts before f w.acts) (record (seen f w.acts w.conn pending started) { untold = untold })

-- or where the end of the link is
abbrev pub Parts : List Action → Core → Work → Bool → List ℕ → List ℕ → Type 0
Parts before f w parting pending started = Sound (trace_of_acts before f w.acts) (record (seen f w.acts w.conn pending started) { parting = parting })

-- what one more act shows
abbrev pub shown_now : Core → List LinkAct → LinkAct → Action
shown_now f acts a = shown f.single.link (length f.timers + length (timers_of f.single.link acts)) (next_source f acts) a

-- these, and then those
abbrev pub added : {X : Type 0} → List X → List X → List X
added xs [] = xs
added xs (y ∷ ys) = xs ++ y ∷ ys

-- they are both
add_is : {X : Type 0} (xs ys : List X) → added xs ys ≡ xs ++ ys
add_is xs [] = sym (append-nil xs)
add_is xs (y ∷ ys) = refl

-- the session once one more act is shown
abbrev pub seen_more : Core → List LinkAct → LinkAct → MultiplexedConnection → List ℕ → List ℕ → TurnState
seen_more f acts a conn pending started =
    let l = f.single.link in
    record (seen f acts conn pending started) { timers = added (f.timers ++ timers_of f.single.link acts) (timer_of f.single.link a); sources = added (f.sources ++ sources_of l acts) (source_of l a) }

-- it is the session with that act
seen_is : (f : Core) (acts : List LinkAct) (a : LinkAct) (conn : MultiplexedConnection) (pending started : List ℕ) → seen_more f acts a conn pending started ≡ seen f (acts ++ a ∷ []) conn pending started
seen_is f acts a conn pending started =
    let l = f.single.link in
    let ts = add_is (f.timers ++ timers_of f.single.link acts) (timer_of f.single.link a) ∙ append_assoc f.timers (timers_of f.single.link acts) (timer_of f.single.link a) ∙ ap (λ ts. f.timers ++ ts) (sym (timers_more l acts a)) in
    let ss = add_is (f.sources ++ sources_of l acts) (source_of l a) ∙ append_assoc f.sources (sources_of l acts) (source_of l a) ∙ ap (λ ss. f.sources ++ ss) (sym (sources_more l acts a)) in
    λ i. record (seen f acts conn pending started) { timers = ts i; sources = ss i }

-- a session with what acts have asked for
abbrev pub asked_by : Core → TurnState → List LinkAct → TurnState
asked_by f t acts = record t { timers = f.timers ++ timers_of f.single.link acts; sources = f.sources ++ sources_of f.single.link acts }

-- an act that asks for no timer and for no source leaves it
pub quiet_asks : (f : Core) (t : TurnState) (acts : List LinkAct) (a : LinkAct) → timer_of f.single.link a ≡ [] → source_of f.single.link a ≡ [] → asked_by f t acts ≡ asked_by f t (acts ++ a ∷ [])
quiet_asks f t acts a timers sources =
    let ts = quiet_timers f.single.link acts a timers in
    let ss = quiet_sources f.single.link acts a sources in
    sym (λ i. record t { timers = f.timers ++ ts i; sources = f.sources ++ ss i })

-- also where these notices are still to be told, and the end of the link is
pub sound_told : (before : List Action) (f : Core) (acts : List LinkAct) (a : LinkAct) (conn : MultiplexedConnection) (untold : List Heard) (parting : Bool) (pending started : List ℕ) → AllStand blank_book (trace_of_acts before f acts) → MayStand (book (trace_of_acts before f acts)) (shown_now f acts a)
    → Tied (entered (book (trace_of_acts before f acts)) (shown_now f acts a)) (record (seen_more f acts a conn pending started) { untold = untold; parting = parting }) → Sound (trace_of_acts before f (acts ++ a ∷ [])) (record (seen f (acts ++ a ∷ []) conn pending started) { untold = untold; parting = parting })
sound_told before f acts a conn untold parting pending started stands may tied =
    subst (λ (t : TurnState). Sound (trace_of_acts before f (acts ++ a ∷ [])) (record t { untold = untold; parting = parting })) (seen_is f acts a conn pending started)
    (subst (λ (x : List Action). Sound x (record (seen_more f acts a conn pending started) { untold = untold; parting = parting })) (sym (shown_more before f.single.link (length f.timers) (length f.sources) acts a))
    (sound_more (trace_of_acts before f acts) (shown_now f acts a) (record (seen_more f acts a conn pending started) { untold = untold; parting = parting }) stands may tied))

-- one more act that may stand behind those that do
pub sound_act : (before : List Action) (f : Core) (acts : List LinkAct) (a : LinkAct) (conn : MultiplexedConnection) (pending started : List ℕ) → AllStand blank_book (trace_of_acts before f acts) → MayStand (book (trace_of_acts before f acts)) (shown_now f acts a)
    → Tied (entered (book (trace_of_acts before f acts)) (shown_now f acts a)) (seen_more f acts a conn pending started) → Sound (trace_of_acts before f (acts ++ a ∷ [])) (seen f (acts ++ a ∷ []) conn pending started)
sound_act before f acts a conn pending started stands may tied =
    subst (λ (t : TurnState). Sound (trace_of_acts before f (acts ++ a ∷ [])) t) (seen_is f acts a conn pending started)
    (subst (λ (x : List Action). Sound x (seen_more f acts a conn pending started)) (sym (shown_more before f.single.link (length f.timers) (length f.sources) acts a))
    (sound_more (trace_of_acts before f acts) (shown_now f acts a) (seen_more f acts a conn pending started) stands may tied))

-- one more act
pub holds_more : (before : List Action) (f : Core) (w : Work) (a : LinkAct) (conn : MultiplexedConnection) (was pending started : List ℕ) → Holds before f w was started → MayStand (book (trace_of_acts before f w.acts)) (shown_now f w.acts a)
    → Tied (entered (book (trace_of_acts before f w.acts)) (shown_now f w.acts a)) (seen_more f w.acts a conn pending started) → Holds before f (record { conn = conn; acts = w.acts ++ a ∷ [] }) pending started
holds_more before f w a conn was pending started h may tied = sound_act before f w.acts a conn pending started h.stands may tied

-- and the book behind it
pub book_of_more : (before : List Action) (f : Core) (acts : List LinkAct) (a : LinkAct) → book (trace_of_acts before f (acts ++ a ∷ [])) ≡ entered (book (trace_of_acts before f acts)) (shown_now f acts a)
book_of_more before f acts a = ap book (shown_more before f.single.link (length f.timers) (length f.sources) acts a) ∙ book_more (trace_of_acts before f acts) (shown_now f acts a)

-- some are not none
pub some_pending : (p : ℕ) (ps : List ℕ) → p ∷ ps ≡ [] → ⊥
some_pending p ps e = cc

-- some requests are to be answered, in line, before all others that are open, and none on a link that takes none yet; and their link's
-- ledger, what is owed, and all names are as they were, and who is open was so
pub record IsAnswering (before : List Action) (f : Core) (ledger : Ledger) (owes : ℕ → Option Outcome) (name : ℕ → ℕ) (was : ℕ → Bool) (w : Work) (pending started : List ℕ) : Type 0 where
  pub holds : Holds before f w pending started
  pub line : IsInLine w.conn.requests (link_in w.conn.life) w.conn.admitted w.conn.waiting pending
  pub quiet : AnswersNone w.conn pending
  pub ledger_is : (book (trace_of_acts before f w.acts)).link f.single.link ≡ ledger
  pub owed_is : (n : ℕ) → owed (book (trace_of_acts before f w.acts)) n ≡ owes n
  pub named : (p : ℕ) → name_at w.conn.requests p ≡ name p
  pub opens : (p : ℕ) → is_open_at w.conn.requests p ≡ true → was p ≡ true

-- it begins
pub answering : (before : List Action) (f : Core) (w : Work) (pending started : List ℕ) → Holds before f w pending started → IsInLine w.conn.requests (link_in w.conn.life) w.conn.admitted w.conn.waiting pending → AnswersNone w.conn pending
    → IsAnswering before f ((book (trace_of_acts before f w.acts)).link f.single.link) (owed (book (trace_of_acts before f w.acts))) (name_at w.conn.requests) (is_open_at w.conn.requests) w pending started
answering before f w pending started h line quiet = record { holds = h; line = line; quiet = quiet; ledger_is = refl; owed_is = λ n. refl; named = λ p. refl; opens = λ p o. o }

-- the first of those that are to be answered may be
pub first_may : (b : Book) (t : TurnState) (p : ℕ) (pending : List ℕ) (o : Outcome) → Tied b (record t { pending = p ∷ pending }) → IsInLine t.requests (link_in t.life) t.admitted t.waiting (p ∷ pending) → is_open_at t.requests p ≡ true
    → owed b (name_at t.requests p) ≡ Some o → (is_heard b ≡ true → (push : Heard) → next_notice (b.link t.link) ≡ Some push → IsBefore b (name_at t.requests p) push) → t.parting ≡ false → MayAnswer b (name_at t.requests p) o
first_may b t p pending o h line e owes pushed done =
    let now = record t { pending = p ∷ pending } in
    may_answer b now p o h e owes
    (λ q less asked.
    let i = open_in_line b.story t.requests (link_in t.life) t.waiting t.admitted (p ∷ pending) t.started q h.lines asked in
    absurd (let k = first_is_least 0 p (pending ++ line_of (link_in t.life) t.admitted t.waiting) (length t.requests) q line i in omega arith))
    pushed
    (λ over. after_closes b now h done (over_life (b.link t.link) b.created t.life h.life over))

-- the first is answered
one_answered : (before : List Action) (f : Core) (ledger : Ledger) (owes : ℕ → Option Outcome) (name : ℕ → ℕ) (was : ℕ → Bool) (w : Work) (p : ℕ) (o : Outcome) (pending started : List ℕ) → (was p ≡ true → owes (name p) ≡ Some o) → is_open_at w.conn.requests p ≡ true
    → IsAnswering before f ledger owes name was w (p ∷ pending) started → IsAnswering before f ledger owes name was (record { conn = closed w.conn p; acts = w.acts ++ act.Outcome (name_at w.conn.requests p) o ∷ [] }) pending started
one_answered before f ledger owes name was w p o pending started due e h =
    let b = book (trace_of_acts before f w.acts) in
    let t = seen f w.acts w.conn pending started in
    let a = act.Outcome (name_at w.conn.requests p) o in
    let owes_now = h.owed_is (name_at w.conn.requests p) ∙ ap owes (h.named p) ∙ due (h.opens p e) in
    record {
      holds = holds_more before f w a (closed w.conn p) (p ∷ pending) pending started h.holds
          (inl (first_may b t p pending o h.holds.tied h.line e owes_now (none_before b (record t { pending = p ∷ pending }) (name_at w.conn.requests p) h.holds.tied refl) refl))
          (answer_tied b t p pending o e owes_now h.line (λ up open_is. some_pending p pending (h.quiet up open_is)) h.holds.tied);
      line = subst (λ n. Rising 0 (pending ++ line_of (link_in w.conn.life) w.conn.admitted w.conn.waiting) n) (sym (length_with w.conn.requests p progress.Closed 0)) (rest_in_line w.conn.requests (link_in w.conn.life) w.conn.admitted w.conn.waiting p pending h.line);
      quiet = λ up open_is. absurd (some_pending p pending (h.quiet up open_is));
      ledger_is = ap (λ (x : Book). x.link f.single.link) (book_of_more before f w.acts a) ∙ h.ledger_is;
      owed_is = λ n. ap (λ (x : Book). owed x n) (book_of_more before f w.acts a) ∙ owed_still b (name_at w.conn.requests p) o n ∙ h.owed_is n;
      named = λ q. name_with w.conn.requests p progress.Closed 0 q ∙ h.named q;
      opens = λ q o. h.opens q (with_then is_open w.conn.requests p q progress.Closed 0 refl (open_within w.conn.requests p e) o).1;
    }

-- or is not open any more
one_skipped : (before : List Action) (f : Core) (ledger : Ledger) (owes : ℕ → Option Outcome) (name : ℕ → ℕ) (was : ℕ → Bool) (w : Work) (p : ℕ) (pending started : List ℕ) → is_open_at w.conn.requests p ≡ false
    → IsAnswering before f ledger owes name was w (p ∷ pending) started → IsAnswering before f ledger owes name was w pending started
one_skipped before f ledger owes name was w p pending started e h = record {
  holds = record { stands = h.holds.stands; tied = skip_tied (book (trace_of_acts before f w.acts)) (seen f w.acts w.conn pending started) p pending e h.holds.tied };
  line = rest_in_line w.conn.requests (link_in w.conn.life) w.conn.admitted w.conn.waiting p pending h.line;
  quiet = λ up open_is. absurd (some_pending p pending (h.quiet up open_is));
  ledger_is = h.ledger_is;
  owed_is = h.owed_is;
  named = h.named;
  opens = h.opens;
}

-- the first is answered, where it is open
pub answered_holds : (before : List Action) (f : Core) (ledger : Ledger) (owes : ℕ → Option Outcome) (name : ℕ → ℕ) (was : ℕ → Bool) (w : Work) (p : ℕ) (o : Outcome) (pending started : List ℕ) → (was p ≡ true → owes (name p) ≡ Some o)
    → IsAnswering before f ledger owes name was w (p ∷ pending) started → IsAnswering before f ledger owes name was (answered w p o) pending started
answered_holds before f ledger owes name was w p o pending started due h =
    chosen (λ (x : Work). IsAnswering before f ledger owes name was x pending started) (is_open_at w.conn.requests p) _ w
    (λ t. one_answered before f ledger owes name was w p o pending started due t h)
    (λ e. one_skipped before f ledger owes name was w p pending started e h)

-- what replies that are settled make of new credentials
--
-- a session is tied with other new credentials where its link is
pub renewal_tied : (b : Book) (t : TurnState) (r : Renewal) → r.within ≡ t.renewal.within → r.wanted ≡ t.renewal.wanted → r.waiting ≡ t.renewal.waiting → TiedRenewal (b.link t.link) r t.life → Tied b t → Tied b (record t { renewal = r })
renewal_tied b t r within wanted waiting tied h = record {
  numbers = record {
    turns = h.numbers.turns;
    links = h.numbers.links;
    timers = h.numbers.timers;
    sources = h.numbers.sources;
    aims = h.numbers.aims;
    timed = h.numbers.timed;
    submissions = h.numbers.submissions;
    timeout = h.numbers.timeout;
    shut = h.numbers.shut;
    within = h.numbers.within ∙ sym within;
    few = h.numbers.few;
    settings = record { size_is = h.numbers.settings.size_is; bound_is = h.numbers.settings.bound_is; limit_is = h.numbers.settings.limit_is; some = h.numbers.settings.some; limited = h.numbers.settings.limited };
    kind_is = h.numbers.kind_is;
    quiet = λ w. let q = h.numbers.quiet w in record { none = q.none; unwanted = wanted ∙ q.unwanted; unrenewed = waiting ∙ q.unrenewed; unrepeated = q.unrepeated };
    comes_back = h.numbers.comes_back;
    lazy = h.numbers.lazy;
    current_is = h.numbers.current_is;
    speaks = h.numbers.speaks;
    address_is = h.numbers.address_is;
    wants = h.numbers.wants ∙ sym wanted;
    alone = h.numbers.alone;
  };
  others = subst (λ o. AreAside t.link t.links b.link t.hears o b.created) (sym within) h.others;
  notices = h.notices;
  life = h.life;
  course = h.course;
  calm = h.calm;
  creds = record { wanted_is = subst (λ (x : Bool). OnLink t.life ((b.link t.link).creds.wanted ≡ x)) (sym wanted) h.creds.wanted_is; sought = h.creds.sought };
  creation = h.creation;
  uses = h.uses;
  renewal = tied;
  repeat = subst (λ o. TiedRepeat (b.link t.link) b.tracked o t.again t.life) (sym within) h.repeat;
  setup = h.setup;
  link = h.link;
  names = h.names;
  story = h.story;
  tries = h.tries;
  lines = h.lines;
  told = h.told;
  waits = h.waits;
  permits = h.permits;
  rounds = h.rounds;
  early = h.early;
  late = h.late;
}

-- on a link that has ended it is so with any
pub renewal_over : (b : Book) (t : TurnState) (r : Renewal) (e : RedisError) → r.within ≡ t.renewal.within → r.wanted ≡ t.renewal.wanted → r.waiting ≡ t.renewal.waiting → r.asked ≡ t.renewal.asked → t.life ≡ Ended e → Tied b t → Tied b (record t { renewal = r })
renewal_over b t r e within wanted waiting asked over h =
    let l = b.link t.link in
    let was = subst (TiedRenewal l t.renewal) over h.renewal in
    let few = was.1 in
    renewal_tied b t r within wanted waiting (subst (TiedRenewal l r) (sym over) (subst (λ o. (o ≢ None) → renewal_count l.starts ≤ l.creds.timed) (sym within) was.0, omega (arith, few, asked))) h

-- each that was settled is answered; the driver's own are of no account for requests
pub settled_holds : (before : List Action) (f : Core) (ledger : Ledger) (owes : ℕ → Option Outcome) (name : ℕ → ℕ) (was : ℕ → Bool) (w : Work) (ss : List Settled) (pending started : List ℕ) → AllByRecursion (IsDue owes name was) ss
    → IsAnswering before f ledger owes name was (own_each w ss) (requests_in (settled_ids ss) ++ pending) started → IsAnswering before f ledger owes name was (settled_each w ss) pending started
settled_holds before f ledger owes name was w [] pending started due h = h
settled_holds before f ledger owes name was w (s ∷ ss) pending started due h =
    let o = outcome_of s.verdict in
    let ids = requests_in (settled_ids ss) in
    by_test (is_own s.id) (IsAnswering before f ledger owes name was (settled_each w (s ∷ ss)) pending started)
    (λ t. subst (λ (x : Work). IsAnswering before f ledger owes name was (settled_each x ss) pending started) (sym (own_settled w s t))
    (settled_holds before f ledger owes name was (own_one w s) ss pending started due.1
    (subst (λ ns. IsAnswering before f ledger owes name was (own_each (own_one w s) ss) (ns ++ pending) started) (requests_behind s.id (settled_ids ss) t) h)))
    (λ f1.
    let k = request_settled w s f1 in
    let first = subst (λ (x : Work). IsAnswering before f ledger owes name was (own_each x ss) (s.id ∷ (ids ++ pending)) started) k.1 (subst (λ ns. IsAnswering before f ledger owes name was (own_each (own_one w s) ss) (ns ++ pending) started) (requests_first s.id (settled_ids ss) f1) h) in
    let done = answered_holds before f ledger owes name was (own_each w ss) s.id o (ids ++ pending) started due.0 first in
    subst (λ (x : Work). IsAnswering before f ledger owes name was (settled_each x ss) pending started) (sym k.0)
    (settled_holds before f ledger owes name was (answered w s.id o) ss pending started due.1
    (subst (λ (x : Work). IsAnswering before f ledger owes name was x (ids ++ pending) started) (sym (answered_owns w s.id o ss)) done)))

-- each of these requests is answered with this error
pub failed_holds : (before : List Action) (f : Core) (ledger : Ledger) (owes : ℕ → Option Outcome) (name : ℕ → ℕ) (was : ℕ → Bool) (w : Work) (e : RedisError) (qs : List Waiting) (pending started : List ℕ) → AllByRecursion (IsDueError owes name was e) qs
    → IsAnswering before f ledger owes name was w (waiting_ids qs ++ pending) started → IsAnswering before f ledger owes name was (failed_each w e qs) pending started
failed_holds before f ledger owes name was w e [] pending started due h = h
failed_holds before f ledger owes name was w e (q ∷ qs) pending started due h =
    failed_holds before f ledger owes name was (answered w q.number (outcome.Fault e)) e qs pending started due.1
    (answered_holds before f ledger owes name was w q.number (outcome.Fault e) (waiting_ids qs ++ pending) started due.0 h)
