-- A generation begins: of the link before it nothing stays, and the session goes to its next one.
use Rattle.std.proofs.Common.{◌≡◌, ◌≢◌, inl, inr, ℕ, ◌+◌, ◌^◌, ◌<◌, ◌==◌, true, false, [], length, Option, Some, None, is_some, slice_get, refl, sym, ap, ◌∙◌, subst, arith}
use Rattle.std.specs.List.{AllByRecursion}
use Rattle.std.specs.Prelude.{option_map, unwrap_or}
use Rattle.containers.proofs.Choices.{by_test, eq_from, left_if, ne_from, ne_test, not_both}
use Rattle.redis_error.specs.declared.redis_error.RedisError.{RedisError}
use Rattle.driver_model.specs.declared.action.Action.TheVariants as action
use Rattle.driver_model.specs.declared.config.Config.{Config}
use Rattle.driver_model.specs.declared.outcome.Outcome.TheVariants as outcome
use Rattle.driver_model.specs.Hearing.{hears_pushes, hears_something}
use Rattle.link_laws.proofs.TiedLink.{TiedLink}
use Rattle.mux_conn.specs.declared.again.Again.TheVariants as again
use Rattle.mux_conn.specs.Connection.{is_ready}
use Rattle.mux_conn.specs.Renewals.{no_renewal}
use Rattle.mux_conn.specs.Requests.{is_admitted_at, is_open_at, is_waiting_at}
use Rattle.mux_conn.specs.declared.life.Life.{Life}
use Rattle.mux_conn.specs.declared.life.Life.TheVariants.{Resting, Ended}
use Rattle.mux_conn.specs.declared.request.Pending.{Pending}
use Rattle.single_session.specs.declared.generations.Generations.{Generations}
use Rattle.single_session.specs.Generations.{begun_with}
use Rattle.legal_trace.specs.Ledger.{End, renewals_asked, renewal_count}
use Rattle.legal_trace.specs.Book.{Book, entered, has_generations}
use Rattle.legal_trace.specs.Owed.{owed_unstarted}
use Rattle.conn_laws.proofs.Ties.Ahead.{admitted_open, placed_open}
use Rattle.conn_laws.proofs.Changes.Requests.{waiting_open, unbegun_waits}
use Rattle.conn_laws.proofs.Requests.Going.{undue_asked}
use Rattle.conn_laws.proofs.Ties.Numbers.{Rising}
use Rattle.session_laws.proofs.Ties.Owes.{ends_told, notices_told}
use Rattle.conn_laws.proofs.Internal.Renewals.{down_renewed_due}
use Rattle.conn_laws.proofs.Managers.Reopen.{none_held}
use Rattle.session_laws.proofs.Managers.Reopen.{ArePast, HasNoLink, aim_later, at_rest, use_later}
use Rattle.conn_laws.proofs.Requests.Rounded.{early_on}
use Rattle.conn_laws.proofs.Links.Server.{AreSought, HasSaid, NoneRenewed, TiedRenewal}
use Rattle.conn_laws.proofs.Ties.Tied.{AreLate, AreQueued, IsAside, IsPacked, TiedTries, carried, has_ended, whole_link, TiedLife, TiedLines, TiedPermits, TiedRounds, TiedStory, TiedWaits, no_link, link_in, waiting_ids}
use Rattle.session_laws.proofs.Ties.Tied.{HasCourse, TurnState, Tied, TiedManager}
use Rattle.conn_laws.proofs.Internal.Repeats.{serves}
use Rattle.conn_laws.proofs.Internal.Serving.{unready_serves}
use Rattle.conn_laws.proofs.Managers.Generate.{resting_waits}

-- that one begins of these generations
manager_begins : (config : Option Config) (generation attempts number : ℕ) (m : Option Generations) → number ≢ 0 → TiedManager config generation attempts m → TiedManager config number 0 (option_map (λ g. begun_with g number) m)
manager_begins config generation attempts number None some h = h
manager_begins config generation attempts number (Some g) some h = record { whole = h.whole; told = h.told; sound = h.sound; settings_are = h.settings_are; at = h.at; bounded = h.bounded; number_is = refl; attempt_is = refl; first = λ none. absurd (some none) }

-- the session then
abbrev pub begun_in : TurnState → ℕ → TurnState
begun_in t number = record t {
  manager = option_map (λ g. begun_with g number) t.manager;
  link = t.links;
  free = unwrap_or t.limit 0;
  info = t.address;
  renewal = no_renewal t.renewal.wanted t.renewal.within;
  again = again.Nothing;
  opened = false;
  fresh = waiting_ids t.waiting;
}

same_some : (m : Option Generations) (number : ℕ) → is_some (option_map (λ g. begun_with g number) m) ≡ is_some m
same_some None number = refl
same_some (Some g) number = refl

-- behind a link that is over
--
-- it is aside then, where new credentials have not run out
over_aside : (b : Book) (t : TurnState) (e : RedisError) → Tied b t → t.life ≡ Ended e → t.untold ≡ [] → t.parting ≡ false → t.renewal.asked < 2 ^ 32 → t.links ≡ t.link + 1 → IsAside t.links t.link (b.link t.link) t.hears t.renewal.within b.created
over_aside b t e h over untold parting few one =
    let l = b.link t.link in
    let life : TiedLife l b.created (Ended e) = subst (TiedLife l b.created) over h.life in
    let renewal : TiedRenewal l t.renewal (Ended e) = subst (TiedRenewal l t.renewal) over h.renewal in
    let all : renewals_asked l ≡ renewal_count l.starts = undue_asked l (down_renewed_due l life.0) in
    record {
      down = life.0;
      over = λ less. owing_over l.end life.1;
      unknown = λ past. absurd (omega (arith, past, one));
      told = λ heard. notices_told b t h untold t.link (ap hears_something h.notices.heard_is ∙ heard);
      parts = λ heard cut. ends_told b t h parting t.link (ap hears_pushes h.notices.heard_is ∙ heard) cut;
      shown = life.2;
      timed = λ some. (let counted = renewal.0 some in omega (arith, all, counted));
      few = (let counted = renewal.1 in omega (arith, all, counted, few));
    }
  where
    owing_over : (end : Option End) → owed_unstarted end ≡ Some (outcome.Fault e) → is_some end ≡ true
    owing_over None owes = cc
    owing_over (Some end) owes = refl

-- the session has no link then, where no request is open
pub over_begins : (b : Book) (t : TurnState) (e : RedisError) (number : ℕ) → Tied b t → t.life ≡ Ended e → t.untold ≡ [] → t.parting ≡ false → t.renewal.asked < 2 ^ 32 → is_some t.manager ≡ true → t.links ≡ t.link + 1 → t.waiting ≡ [] → ((p : ℕ) → is_open_at t.requests p ≡ true → ⊥) → number ≢ 0 → ArePast b
    → HasNoLink (entered b (action.Generation number)) (begun_in t number)
over_begins b t e number h over untold parting few comes one nobody closed some past =
    let n = h.numbers in
    record {
      numbers = record {
        turns = n.turns;
        links = n.links;
        submissions = n.submissions;
        timers = n.timers;
        sources = n.sources;
        aims = λ k what i. aim_later what t.link t.links (length t.table) (omega (arith, one)) (n.aims k what i);
        timed = n.timed;
        timeout = n.timeout;
        shut = n.shut;
        within = n.within;
        few = n.few;
        settings = record { size_is = n.settings.size_is; bound_is = n.settings.bound_is; limit_is = n.settings.limit_is; some = n.settings.some; limited = n.settings.limited };
        kind_is = n.kind_is;
        quiet = λ w. let q = n.quiet w in record { none = q.none; unwanted = q.unwanted; unrenewed = refl; unrepeated = refl };
        comes_back = manager_begins b.config b.generation b.attempt number t.manager some n.comes_back;
        lazy = n.lazy;
        alone = λ none. absurd (not_both (is_some (option_map (λ g. begun_with g number) t.manager)) none (same_some t.manager number ∙ comes));
        current_is = n.links;
        speaks = ap (λ a. a.protocol) n.address_is;
        address_is = n.address_is;
        wants = n.wants;
      };
      placed = refl;
      unopened = refl;
      comes = same_some t.manager number ∙ comes;
      info_is = refl;
      others = λ m other. by_test (m == t.link) _
          (λ same. subst (λ k. IsAside t.links k (b.link k) t.hears t.renewal.within b.created) (sym (eq_from m t.link same)) (over_aside b t e h over untold parting few one))
          (λ apart. h.others m (ne_from m t.link apart));
      unknown = (h.others t.links (λ x. absurd (omega (arith, one, x)))).unknown (omega arith);
      heard_is = h.notices.heard_is;
      calm = refl;
      creation = h.creation;
      uses = λ k what i. use_later what t.link t.links _ _ (omega (arith, one)) (h.uses k what i);
      renewal = record { over_is = refl; came = refl; waits = refl; untimed = refl; unstarted = refl; unasked = refl; unpending = refl; told = refl; kept = refl; found = refl };
      repeat = refl;
      names = h.names;
      story = λ m. by_entry m (slice_get t.table m) (h.story m);
      untried = λ p r i on. absurd (behind r.name on);
      untold = λ m told none on. absurd (behind m on);
      lines = record { line = subst (λ ws. Rising 0 (waiting_ids ws) (length t.requests)) (sym nobody) (omega arith); queued = tt; entries = tt; packs = subst (λ ws. AllByRecursion (IsPacked b.story t.requests) ws) (sym nobody) tt; packed_in = tt; there = λ p o. absurd (closed p o) };
      waits = record {
        early = λ p w. absurd (none_waits p w);
        backoff = λ p w x. absurd (none_waits p w);
        connect = λ p w x. cc;
        creds = λ p link w x. cc;
        setup = λ p link u w x. cc;
        resubscribe = λ p link w x goes. cc;
        permit = λ p link w x none. cc;
        place = λ p a. absurd (none_admitted p a);
        room = λ p i. absurd i;
        newer = subst (λ ws. Rising 0 (waiting_ids ws) (length t.requests)) (sym nobody) (omega arith);
        rising = omega arith;
        no_backoff = λ p i w x. absurd (none_waits p w);
        no_connect = λ p i w x. cc;
        no_creds = λ p link i w x. cc;
        no_setup = λ p link u i w x. cc;
        no_resubscribe = λ p link i w x goes. cc;
        unpermitted = λ p link w x goes. cc;
        no_permit = λ p link i w x none. cc;
        no_place = λ p i. absurd i;
        seatless = λ p a. absurd (none_admitted p a);
        no_room = λ p i. absurd i;
      };
      rounds = record {
        rounds_is = h.rounds.rounds_is;
        unbegun = λ p u. absurd (none_waits p (unbegun_waits t.requests p u));
        begun = λ p shows o u. absurd (closed p o);
        new = λ p shows up u. cc up;
      };
      early = λ p o. absurd (closed p o);
      permits = record {
        counted = λ k x.
            let none = none_held b.story t.links b.submissions (λ m. left_if ((b.story m).link == t.links) (b.story m).permits 0 (ne_test (b.story m).link t.links (λ same. behind m same))) in
            let free = ap (λ (o : Option ℕ). unwrap_or o 0) x in
            omega (arith, none, free);
        none = λ p w out. absurd (none_waits p w);
        let_in = λ p x. elim x [ inl a ↦ absurd (none_admitted p a) | inr a ↦ absurd (closed p (placed_open t.requests p a)) ];
      };
      late = λ p o. absurd (closed p o);
    }
  where
    behind : (m : ℕ) → (b.story m).link ≡ t.links → ⊥
    behind m x = let le = past m in let here = h.numbers.current_is in omega (arith, le, here, x, one)

    none_waits : (p : ℕ) → is_waiting_at t.requests p ≡ true → ⊥
    none_waits p w = closed p (waiting_open t.requests p w)

    none_admitted : (p : ℕ) → is_admitted_at t.requests p ≡ true → ⊥
    none_admitted p a = closed p (admitted_open t.requests p a).0

    by_entry : (m : ℕ) (x : Option (Option Pending)) → TiedStory (b.story m) t.requests t.link x → TiedStory (b.story m) t.requests t.links x
    by_entry m None s = s
    by_entry m (Some None) s = s
    by_entry m (Some (Some p)) s = record { what = s.what; handed_in = s.handed_in; in_time = s.in_time; spoken = s.spoken; on = λ o. absurd (closed p.number o); some = s.some; open_is = s.open_is; permits_is = s.permits_is }

-- behind none
--
-- the first begins of a session that waits for its first submission, where all its permits are free, and all that wait came in this turn
pub first_begins : (b : Book) (t : TurnState) (number : ℕ) → Tied b t → t.life ≡ Resting → t.pending ≡ [] → t.being_admitted ≡ [] → t.moved ≡ [] → t.admitted ≡ [] → t.untold ≡ [] → t.parting ≡ false → t.free ≡ unwrap_or t.limit 0 → t.fresh ≡ waiting_ids t.waiting → (b.link t.link).creds.over ≡ false → number ≢ 0
    → Tied (entered b (action.Generation number)) (at_rest (begun_in t number))
first_begins b t number h rests settled alone still nobody untold parting free fresh unended some =
    let n = h.numbers in
    let l = b.link t.link in
    let life : TiedLife l b.created Resting = subst (TiedLife l b.created) rests h.life in
    let said : HasSaid l t.started Resting = subst (HasSaid l t.started) rests h.setup.said in
    let sought : AreSought l.creds Resting = subst (AreSought l.creds) rests h.creds.sought in
    let r : NoneRenewed l t.renewal = subst (TiedRenewal l t.renewal) rests h.renewal in
    let course : HasCourse l.last l.end t.links t.link t.shut t.manager t.last t.opened t.info t.address Resting = subst (HasCourse l.last l.end t.links t.link t.shut t.manager t.last t.opened t.info t.address) rests h.course in
    let d : Book = entered b (action.Generation number) in
    subst (λ k. Tied d (record (at_rest (begun_in t number)) { link = k })) (sym course.0) (record {
      numbers = record {
        turns = n.turns;
        links = n.links;
        submissions = n.submissions;
        timers = n.timers;
        sources = n.sources;
        aims = n.aims;
        timed = n.timed;
        timeout = n.timeout;
        shut = n.shut;
        within = n.within;
        few = n.few;
        settings = record { size_is = n.settings.size_is; bound_is = n.settings.bound_is; limit_is = n.settings.limit_is; some = n.settings.some; limited = n.settings.limited };
        kind_is = n.kind_is;
        quiet = λ w. let q = n.quiet w in record { none = q.none; unwanted = q.unwanted; unrenewed = refl; unrepeated = refl };
        comes_back = manager_begins b.config b.generation b.attempt number t.manager some n.comes_back;
        lazy = n.lazy;
        alone = λ none. absurd (not_both (is_some (option_map (λ g. begun_with g number) t.manager)) none (same_some t.manager number ∙ course.1));
        current_is = n.links ∙ course.0;
        speaks = ap (λ a. a.protocol) n.address_is;
        address_is = n.address_is;
        wants = n.wants;
      };
      others = h.others;
      notices = record { heard_is = h.notices.heard_is; hearing_is = refl; within = h.notices.within; untold_is = λ y. h.notices.untold_is y ∙ untold; parts = λ y d cut. h.notices.parts y parting cut; alive = h.notices.alive; due = λ z. cc; tame = h.notices.tame };
      life = life;
      course = (course.0, same_some t.manager number ∙ course.1, refl, refl);
      calm = λ up runs. refl;
      creation = h.creation;
      creds = record { wanted_is = tt; sought = sought };
      uses = h.uses;
      renewal = record { over_is = unended; came = r.came; waits = refl; untimed = r.untimed; unstarted = r.unstarted; unasked = refl; unpending = refl; told = refl; kept = r.kept; found = refl };
      repeat = refl;
      setup = record { info_is = tt; sent = h.setup.sent; said = (said.0, refl) };
      link = λ up. subst (λ (y : Life). TiedLink (carried y t.requests) l (whole_link y)) rests (h.link (ap has_ended rests));
      names = h.names;
      story = h.story;
      tries = subst (λ ns. TiedTries l b.story t.requests t.link ns) said.1 h.tries;
      lines =
          subst (λ ns. TiedLines b.story t.requests no_link t.waiting [] [] ns) said.1
          (subst (λ ns. TiedLines b.story t.requests no_link t.waiting [] ns t.started) settled
          (subst (λ ws. TiedLines b.story t.requests no_link t.waiting ws t.pending t.started) nobody
          (subst (λ (x : Life). TiedLines b.story t.requests (link_in x) t.waiting t.admitted t.pending t.started) rests h.lines)));
      told = λ up. subst (λ (x : Life). AreQueued b.story t.requests t.link (link_in x)) rests (h.told (ap has_ended rests));
      waits =
          subst (λ ns. TiedWaits b.story t.requests again.Nothing Resting ns []) fresh
          (subst (λ ns. TiedWaits b.story t.requests again.Nothing Resting t.fresh ns) still
          (resting_waits b.story t.requests t.again again.Nothing t.fresh t.moved (subst (λ (x : Life). TiedWaits b.story t.requests t.again x t.fresh t.moved) rests h.waits)));
      rounds = subst (λ ns. TiedRounds (has_generations b) b.story t.requests false ns t.rounds) fresh (subst (λ (x : Life). TiedRounds (has_generations b) b.story t.requests (serves x t.again) t.fresh t.rounds) rests h.rounds);
      early = early_on t.requests t.again again.Nothing t.life Resting (unready_serves t.life t.again (ap is_ready rests)) (ap has_ended rests) refl h.early;
      permits = subst (λ k. TiedPermits b.story b.submissions t.requests t.link t.limit k []) free (subst (λ ns. TiedPermits b.story b.submissions t.requests t.link t.limit t.free ns) alone h.permits);
      late = subst (λ ns. AreLate b.story t.requests ns) settled h.late;
    })
