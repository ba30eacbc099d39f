-- The next link of a session is asked for.
use Rattle.std.proofs.Common.{◌≡◌, inl, inr, ℕ, ◌+◌, ◌<◌, ◌==◌, Bool, true, false, List, [], ◌∷◌, ◌++◌, length, Option, Some, None, is_some, slice_get, refl, sym, ap, ◌∙◌, subst, arith}
use Rattle.containers.proofs.Choices.{if_false, ne_test, not_both}
use Rattle.driver_model.specs.declared.action.Action.TheVariants as action
use Rattle.driver_model.specs.declared.action.Purpose.{Purpose}
use Rattle.driver_model.specs.declared.action.WaitKind.{WaitKind}
use Rattle.driver_model.specs.declared.action.WaitKind.TheVariants as wait
use Rattle.driver_model.specs.declared.config.Config.{Config}
use Rattle.driver_model.specs.Config.{first_fault}
use Rattle.link_laws.proofs.TiedLink.{TiedLink, asked_tied}
use Rattle.mux_conn.specs.Connection.{is_ready}
use Rattle.mux_conn.specs.Requests.{is_waiting_at}
use Rattle.mux_conn.specs.declared.life.Life.{Life}
use Rattle.mux_conn.specs.declared.life.Life.TheVariants.{Resting, Dialing}
use Rattle.legal_trace.specs.Again.{repeats_in}
use Rattle.legal_trace.specs.Book.{Book, entered, hearing_in, info_in, wanted_in}
use Rattle.legal_trace.specs.Ledger.{Line, Start, asks, noted, noted_each, setup_count, again_among}
use Rattle.legal_trace.specs.Legal.{IsTimed}
use Rattle.legal_trace.specs.Managers.{is_last, settings_in}
use Rattle.conn_laws.proofs.Changes.Requests.{waiting_open}
use Rattle.session_laws.proofs.Ties.Kept.{mine_noted, tied_by}
use Rattle.conn_laws.proofs.Ties.Numbers.{IsIn, Rising, requests_in, rising_right}
use Rattle.conn_laws.proofs.Requests.Rounded.{rounds_down}
use Rattle.conn_laws.proofs.Links.Server.{AreSought, HasSaid, NoneRenewed, TiedRenewal, owners_of, setup_owners}
use Rattle.conn_laws.proofs.Ties.Tied.{AreQueued, IsAside, IsUse, TiedLife, TiedLines, carried, has_ended, link_in, no_link, owner_of, owners_each, waiting_ids, whole_link}
use Rattle.session_laws.proofs.Ties.Tied.{AreAimed, HasCourse, TurnState, Tied, is_begun}
use Rattle.conn_laws.proofs.Internal.Serving.{unready_serves}
use Rattle.conn_laws.proofs.Internal.Subscribes.{RepeatsNext, asked_repeat}
use Rattle.mux_conn.specs.declared.again.Again.{Again}
use Rattle.driver_model.specs.Hearing.{is_watching}

-- the line that its connect is
abbrev pub asks_line : Book → Line
asks_line b = asks (info_in b.config) (wanted_in b.config) (hearing_in b.config) (is_last (settings_in b.config) b.attempt) (repeats_in (settings_in b.config) b.tracked)

-- the book once that link was asked for, and so many timers of connects, with which there are these
abbrev pub dialled_book : Book → ℕ → List ℕ → ℕ → List Purpose → ℕ → Book
dialled_book b l host port timers timed = record (entered b (action.Connect l host port)) { timers = timers; timed = timed }

-- the session then
abbrev pub dialled_in : TurnState → Bool → Again → List Purpose → TurnState
dialled_in t last a timers = record t { timers = timers; links = t.links + 1; again = a; life = Dialing; last = last; fresh = waiting_ids t.waiting }

-- a session without a link, of which nothing is to be answered, and nobody waits for a place, and what is subscribed again on its next link
pub record CanDial (b : Book) (t : TurnState) (last : Bool) (a : Again) : Type 0 where
  pub tied : Tied b t
  pub rests : t.life ≡ Resting
  pub settled : t.pending ≡ []
  pub nobody : t.admitted ≡ []
  pub config : Config
  pub told : b.config ≡ Some config
  pub sound : first_fault config ≡ None
  pub begun : is_begun t.manager ≡ true
  pub last_is : is_last (settings_in b.config) b.attempt ≡ last
  pub unended : (b.link t.link).creds.over ≡ false
  pub unwatched : is_watching t.hears ≡ false
  pub again_is : RepeatsNext (repeats_in (settings_in b.config) b.tracked) b.tracked a

-- so it is tied once its link is asked for
pub dials_tied : (b : Book) (t : TurnState) (host : List ℕ) (port : ℕ) (last : Bool) (a : Again) (timers : List Purpose) (timed : ℕ) → CanDial b t last a → AreAimed timers t.link (length t.table) → IsTimed (dialled_book b t.link host port timers timed)
    → Tied (dialled_book b t.link host port timers timed) (dialled_in t last a timers)
dials_tied b t host port last a timers timed c aimed bounded =
    let h = c.tied in
    let n = h.numbers in
    let l = b.link t.link in
    let line = asks_line b in
    let x = noted l line in
    let d = dialled_book b t.link host port timers timed in
    let life : TiedLife l b.created Resting = subst (TiedLife l b.created) c.rests h.life in
    let said : HasSaid l t.started Resting = subst (HasSaid l t.started) c.rests h.setup.said in
    let course : HasCourse l.last l.end t.links t.link t.shut t.manager t.last t.opened t.info t.address Resting = subst (HasCourse l.last l.end t.links t.link t.shut t.manager t.last t.opened t.info t.address) c.rests h.course in
    let sought : AreSought l.creds Resting = subst (AreSought l.creds) c.rests h.creds.sought in
    let r : NoneRenewed l t.renewal = subst (TiedRenewal l t.renewal) c.rests h.renewal in
    let k = asked_tied (owner_of t.requests) l (info_in b.config) (wanted_in b.config) (hearing_in b.config) (is_last (settings_in b.config) b.attempt) (repeats_in (settings_in b.config) b.tracked) no_link
    (subst (λ (y : Life). TiedLink (carried y t.requests) l (whole_link y)) c.rests (h.link (ap has_ended c.rests))) in
    tied_by d (dialled_in t last a timers) x (mine_noted l t.link line) (record {
      numbers = record {
        turns = n.turns;
        links = ap (λ m. m + 1) n.links;
        submissions = n.submissions;
        timers = refl;
        sources = n.sources;
        aims = aimed;
        timed = bounded;
        timeout = n.timeout;
        shut = n.shut;
        within = n.within;
        few = n.few;
        settings = record { size_is = n.settings.size_is; bound_is = n.settings.bound_is; limit_is = n.settings.limit_is; some = n.settings.some; limited = n.settings.limited };
        kind_is = n.kind_is;
        quiet = λ w. absurd (not_both (is_watching t.hears) c.unwatched w);
        comes_back = n.comes_back;
        lazy = n.lazy;
        alone = λ none. absurd (not_both (is_some t.manager) none course.1);
        current_is = refl;
        speaks = n.speaks;
        address_is = n.address_is;
        wants = n.wants;
      };
      others = λ m other. if_false (λ (ls : List Line). IsAside (t.links + 1) m (noted_each (b.link m) ls) t.hears t.renewal.within b.created) (t.link == m) (line ∷ []) [] (ne_test t.link m (λ e. other (sym e)))
          (let a = h.others m other in let here = course.0 in record { down = a.down; over = λ less. a.over (omega (arith, less, other, here)); unknown = λ past. a.unknown (omega (arith, past)); told = a.told; parts = a.parts; shown = a.shown; timed = a.timed; few = a.few });
      notices = record { heard_is = h.notices.heard_is; hearing_is = h.notices.heard_is; within = h.notices.within; untold_is = h.notices.untold_is; parts = h.notices.parts; alive = h.notices.alive; due = h.notices.due; tame = h.notices.tame };
      life = (refl, life.1, life.2);
      course = (ap (λ m. m + 1) course.0, c.begun, course.2, c.last_is, course.3);
      calm = λ up runs. h.calm (ap has_ended c.rests) runs;
      early = λ down alive. record { unbegun = (h.early (unready_serves t.life t.again (ap is_ready c.rests)) (ap has_ended c.rests)).unbegun; empty = refl };
      rounds = rounds_down b.story t.requests t.fresh (waiting_ids t.waiting) refl h.rounds;
      creation = h.creation;
      creds = record { wanted_is = n.wants; sought = (refl, refl, refl) };
      uses = λ m what i. subst (λ y. IsUse what t.link y false) sought.0 (subst (λ y. IsUse what t.link l.creds.asked y) sought.2 (h.uses m what i));
      renewal = record { over_is = sym c.unended ∙ r.over_is; came = refl; waits = r.waits; untimed = refl; unstarted = r.unstarted; unasked = r.unasked; unpending = r.unpending; told = r.told; kept = refl; found = r.found };
      repeat = asked_repeat x b.tracked t.renewal.within a refl refl (ap (λ (ss : List Start). again_among ss 0) said.0) c.again_is;
      setup = record { info_is = n.address_is ∙ sym course.3; sent = λ m s less i. absurd (none_sent said.0 m less); said = (said.0, said.1) };
      link = λ up. k;
      names = h.names;
      story = h.story;
      tries = record {
        owners = λ plain. started_none said.0 said.1;
        greeted = λ w. record { none = said.1; greets = λ m s i. (let no : ◌≡◌ {A = Option Start} None (Some s) = sym (ap (λ (ss : List Start). slice_get ss m) said.0) ∙ i in cc) };
        shapes = λ m p s less i. absurd (none_started said.1 m p i);
        tried = λ m p less i. absurd (none_started said.1 m p i);
        untried = h.tries.untried;
      };
      lines = subst (λ (y : Life). TiedLines b.story t.requests (link_in y) t.waiting t.admitted t.pending t.started) c.rests h.lines;
      told = λ up. subst (λ (y : Life). AreQueued b.story t.requests t.link (link_in y)) c.rests (h.told (ap has_ended c.rests));
      waits = record {
        early = h.waits.early;
        backoff = λ p w e. cc;
        connect = λ p w e. inl (is_kept p w);
        creds = λ p link w e. cc;
        setup = λ p link u w e. cc;
        resubscribe = λ p link w e goes. cc;
        permit = λ p link w e none. cc;
        place = h.waits.place;
        room = λ p i. absurd i;
        newer = rises;
        rising = h.waits.rising;
        no_backoff = λ p i w e. cc;
        no_connect = λ p i w e shown. elim (h.waits.backoff p w c.rests) [
          | inl j ↦ (let no : ◌≡◌ {A = Option WaitKind} None (Some wait.Connect) = sym (h.waits.no_backoff p j w c.rests) ∙ shown in cc)
          | inr j ↦ (let no : ◌≡◌ {A = Option WaitKind} (Some wait.Backoff) (Some wait.Connect) = sym j ∙ shown in cc)
        ];
        no_creds = λ p link i w e. cc;
        no_setup = λ p link u i w e. cc;
        no_resubscribe = λ p link i w e goes. cc;
        unpermitted = λ p link w e goes. cc;
        no_permit = λ p link i w e none. cc;
        no_place = h.waits.no_place;
        seatless = h.waits.seatless;
        no_room = λ p i j. absurd j;
      };
      permits = h.permits;
      late = h.late;
    })
  where
    none_sent : (b.link t.link).starts ≡ [] → (m : ℕ) → m < setup_count (b.link t.link).starts → ⊥
    none_sent none m less = let count = ap setup_count none in omega (arith, less, count)

    none_started : t.started ≡ [] → (m p : ℕ) → slice_get t.started m ≡ Some p → ⊥
    none_started none m p i = let no : ◌≡◌ {A = Option ℕ} None (Some p) = sym (ap (λ (ns : List ℕ). slice_get ns m) none) ∙ i in cc

    started_none : (b.link t.link).starts ≡ [] → t.started ≡ [] → owners_of (b.link t.link).starts ≡ setup_owners (setup_count (b.link t.link).starts) (owners_each t.requests t.started)
    started_none none also = ap owners_of none ∙ sym (λ i. setup_owners (setup_count (none i)) (owners_each t.requests (also i)))

    line : Rising 0 (requests_in t.started ++ (waiting_ids t.admitted ++ waiting_ids t.waiting)) (length t.requests)
    line = (subst (λ (y : Life). TiedLines b.story t.requests (link_in y) t.waiting t.admitted t.pending t.started) c.rests c.tied.lines).line

    rises : Rising 0 (waiting_ids t.waiting) (length t.requests)
    rises = rising_right 0 (waiting_ids t.admitted) (waiting_ids t.waiting) (length t.requests) (rising_right 0 (requests_in t.started) (waiting_ids t.admitted ++ waiting_ids t.waiting) (length t.requests) line)

    is_kept : (p : ℕ) → is_waiting_at t.requests p ≡ true → IsIn p (waiting_ids t.waiting)
    is_kept p w =
        let lines : TiedLines b.story t.requests no_link t.waiting t.admitted [] t.started =
        subst (λ ns. TiedLines b.story t.requests no_link t.waiting t.admitted ns t.started) c.settled (subst (λ (y : Life). TiedLines b.story t.requests (link_in y) t.waiting t.admitted t.pending t.started) c.rests c.tied.lines) in
        elim (lines.there p (waiting_open t.requests p w)) [
          | inl i ↦ absurd i
          | inr k ↦ elim k [ inl a ↦ absurd (subst (λ ws. IsIn p (waiting_ids ws)) c.nobody a.1) | inr i ↦ i.1 ]
        ]
