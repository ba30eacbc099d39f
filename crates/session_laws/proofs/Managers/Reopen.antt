-- A session goes to its next link, which isn't asked for yet: of the link before it nothing stays but those that wait.
use Rattle.std.proofs.Common.{◌≡◌, inl, inr, ℕ, ◌+◌, ◌<◌, ◌≤◌, ◌==◌, Bool, true, false, List, [], ◌∷◌, ◌++◌, length, Option, Some, None, is_some, slice_get, if◌then◌else◌, refl, sym, ap, ◌∙◌, subst, arith}
use Rattle.std.specs.Prelude.{option_map, unwrap_or}
use Rattle.containers.proofs.Choices.{by_test, chosen, eq_from, left_if, ne_from, ne_test, not_both}
use Rattle.driver_model.specs.declared.action.Action.TheVariants as action
use Rattle.driver_model.specs.declared.action.Owner.TheVariants as owner
use Rattle.driver_model.specs.declared.config.Config.{Config}
use Rattle.driver_model.specs.declared.outcome.Outcome.TheVariants as outcome
use Rattle.driver_model.specs.declared.action.Purpose.{Purpose}
use Rattle.driver_model.specs.declared.action.Purpose.TheVariants as purpose
use Rattle.driver_model.specs.declared.action.SourceUse.{SourceUse}
use Rattle.driver_model.specs.declared.action.SourceUse.TheVariants as source
use Rattle.link_laws.proofs.TiedLink.{TiedLink, fresh_tied}
use Rattle.mux_conn.specs.declared.again.Again.TheVariants as again
use Rattle.mux_conn.specs.Requests.{is_admitted_at, is_open_at, is_placed_at, is_unbegun_at, is_waiting_at, name_at, permits_at}
use Rattle.mux_conn.specs.declared.life.Life.TheVariants.{Resting}
use Rattle.mux_conn.specs.declared.request.Pending.{Pending}
use Rattle.mux_conn.specs.declared.request.Request.{Request}
use Rattle.single_session.specs.declared.generations.Generations.{Generations}
use Rattle.single_session.specs.Generations.{failed_behind}
use Rattle.legal_trace.specs.Ledger.{Ledger, blank_ledger}
use Rattle.legal_trace.specs.Story.{Story, carried, is_open, is_told, packed_in}
use Rattle.legal_trace.specs.Book.{Book, entered, has_generations, hearing_in, if_own}
use Rattle.legal_trace.specs.Steps.{permits_on}
use Rattle.conn_laws.proofs.Ties.Ahead.{admitted_open, placed_open}
use Rattle.conn_laws.proofs.Changes.Requests.{waiting_open, unbegun_waits}
use Rattle.conn_laws.proofs.Ties.Kept.{packed_same}
use Rattle.conn_laws.proofs.Ties.Names.{get_more, name_placed, open_within}
use Rattle.conn_laws.proofs.Ties.Numbers.{IsIn, Rising}
use Rattle.conn_laws.proofs.Ties.Owes.{answered_closed}
use Rattle.conn_laws.proofs.Requests.Rounded.{admitted_begun, placed_begun}
use Rattle.conn_laws.proofs.Links.Server.{NoneRenewed, TiedCreds, TiedSetup}
use Rattle.conn_laws.proofs.Ties.Tied.{AreAside, AreLate, AreUses, IsAside, IsRefused, IsRequest, IsUnknown, IsUse, TiedCreation, TiedLines, TiedLife, TiedNames, TiedNotices, TiedTries, TiedPermits, TiedRounds, TiedStory, TiedWaits, no_link, owner_of, is_reading, waiting_ids}
use Rattle.session_laws.proofs.Ties.Tied.{NoReconnectCause, TurnState, IsAim, AfterFailedAttempt, Tied, TiedManager, TiedNumbers}
use Rattle.conn_laws.proofs.Managers.Reopen.{IsMovedTo, none_held, on_blank, told_closed}

-- a session without a link
--
-- it has none, and that which is to be its next was never asked for: nobody has a message, or a permit, of it
pub record HasNoLink (b : Book) (t : TurnState) : Type 0 where
  pub numbers : TiedNumbers b t
  pub placed : t.links ≡ t.link
  pub unopened : t.opened ≡ false
  pub comes : is_some t.manager ≡ true
  pub info_is : t.info ≡ t.address
  pub others : AreAside t.link t.links b.link t.hears t.renewal.within b.created
  pub unknown : IsUnknown (b.link t.link)
  pub heard_is : hearing_in b.config ≡ t.hears
  pub calm : NoReconnectCause b.errors
  pub creation : TiedCreation b.created t.told
  pub uses : AreUses t.sources t.link false false
  pub renewal : NoneRenewed blank_ledger t.renewal
  pub repeat : t.again ≡ again.Nothing
  pub names : TiedNames t.table t.requests
  pub story : (n : ℕ) → TiedStory (b.story n) t.requests t.link (slice_get t.table n)
  pub untried : (p : ℕ) (r : Request) → slice_get t.requests p ≡ Some r → (b.story r.name).link ≡ t.link → (b.story r.name).tries ≡ []
  pub untold : (n : ℕ) → is_told (b.story n) ≡ true → (b.story n).tries ≡ [] → (b.story n).link ≡ t.link → ⊥
  pub lines : TiedLines b.story t.requests no_link t.waiting [] [] []
  pub waits : TiedWaits b.story t.requests t.again Resting t.fresh []
  pub rounds : TiedRounds (has_generations b) b.story t.requests false t.fresh t.rounds
  pub early : (p : ℕ) → is_open_at t.requests p ≡ true → is_unbegun_at t.requests p ≡ true
  pub permits : TiedPermits b.story b.submissions t.requests t.link t.limit t.free []
  pub late : AreLate b.story t.requests []

-- such a session, as it goes on
abbrev pub at_rest : TurnState → TurnState
at_rest t = record t { life = Resting; untold = []; parting = false; admitted = []; moved = []; being_admitted = []; pending = []; started = [] }

-- it is tied to its book
pub rest_tied : (b : Book) (t : TurnState) → HasNoLink b t → Tied b (at_rest t)
rest_tied b t h =
    let k = fresh_tied (owner_of t.requests) 0 0 in
    let r = h.renewal in
    let n = h.numbers in
    record {
      numbers = record {
        turns = n.turns;
        links = n.links;
        submissions = n.submissions;
        timers = n.timers;
        sources = n.sources;
        aims = n.aims;
        timed = n.timed;
        timeout = n.timeout;
        shut = n.shut;
        within = n.within;
        few = n.few;
        settings = n.settings;
        kind_is = n.kind_is;
        quiet = n.quiet;
        comes_back = n.comes_back;
        lazy = n.lazy;
        alone = n.alone;
        current_is = n.current_is;
        speaks = n.speaks;
        address_is = n.address_is;
        wants = n.wants;
      };
      others = h.others;
      notices = on_blank (λ (l : Ledger). TiedNotices (hearing_in b.config) t.hears t.hears l.notices l.told l.end l.parted l.strange (is_reading l) [] false) (b.link t.link) h.unknown
          (record { heard_is = h.heard_is; hearing_is = refl; within = λ y. omega arith; untold_is = λ y. refl; parts = λ y d z. cc; alive = λ z. refl; due = λ z. cc; tame = λ z q. refl });
      life = on_blank (λ (l : Ledger). TiedLife l b.created Resting) (b.link t.link) h.unknown (refl, refl, refl, refl);
      course = (h.placed, h.comes, h.unopened, h.info_is);
      calm = λ up runs. h.calm;
      creation = h.creation;
      creds = on_blank (λ (l : Ledger). TiedCreds l.creds t.renewal.wanted Resting) (b.link t.link) h.unknown (record { wanted_is = tt; sought = (refl, refl, refl) });
      uses = on_blank (λ (l : Ledger). AreUses t.sources t.link l.creds.asked l.creds.renews) (b.link t.link) h.unknown h.uses;
      renewal = on_blank (λ (l : Ledger). NoneRenewed l t.renewal) (b.link t.link) h.unknown
          (record { over_is = r.over_is; came = refl; waits = r.waits; untimed = refl; unstarted = refl; unasked = r.unasked; unpending = r.unpending; told = r.told; kept = refl; found = r.found });
      repeat = h.repeat;
      setup = on_blank (λ (l : Ledger). TiedSetup l t.info [] Resting) (b.link t.link) h.unknown (record { info_is = tt; sent = λ m s less e. absurd (omega arith); said = (refl, refl) });
      link = λ up. on_blank (λ (l : Ledger). TiedLink (owner_of t.requests) l no_link) (b.link t.link) h.unknown
          (record { sent = k.sent; offer = k.offer; bound = k.bound; rest = k.rest; broken = k.broken; started = k.started; within = k.within; bytes = k.bytes; row = k.row });
      names = h.names;
      story = h.story;
      tries = on_blank (λ (l : Ledger). TiedTries l b.story t.requests t.link []) (b.link t.link) h.unknown (record { owners = λ plain. refl; greeted = λ w. record { none = refl; greets = λ m s e. cc }; shapes = λ m p s w e i. cc; tried = λ m p w e. cc; untried = λ p q i out on. h.untried p q i on });
      lines = h.lines;
      told = λ up. record { told = λ m is none on. absurd (h.untold m is none on); here = λ p i. absurd i };
      waits = h.waits;
      rounds = h.rounds;
      early = λ down alive. record { unbegun = h.early; empty = refl };
      permits = h.permits;
      late = h.late;
    }

-- behind a failed attempt
--
-- a submission goes to that link, if it is open
abbrev pub moved_to : ℕ → Story → Story
moved_to link s = if_own (is_open s) (carried s link) s

moved_is : (link : ℕ) (s : Story) → IsMovedTo link s (moved_to link s)
moved_is link s =
    chosen (IsMovedTo link s) (is_open s) (carried s link) s
    (λ t. record { submission = refl; timeout = refl; tries = refl; clock = refl; overdue = refl; late = refl; unspoken = refl; opens = refl; goes = λ o. (refl, refl, refl, refl); stays = λ f. absurd (not_both (is_open s) f t) })
    (λ f. record { submission = refl; timeout = refl; tries = refl; clock = refl; overdue = refl; late = refl; unspoken = refl; opens = refl; goes = λ o. absurd (not_both (is_open s) f o); stays = λ g. refl })

-- a timer is for a later link or one before it
pub aim_later : (what : Purpose) (link links count : ℕ) → link ≤ links → IsAim what link count → IsAim what links count
aim_later (purpose.Connect l) link links count le h = omega (arith, le, h)
aim_later (purpose.Response owner.Setup) link links count le h = h
aim_later (purpose.Response owner.Auth) link links count le h = h
aim_later (purpose.Response owner.Resub) link links count le h = h
aim_later (purpose.Response owner.Monitor) link links count le h = h
aim_later (purpose.Renewal l k) link links count le h = omega (arith, le, h)
aim_later (purpose.Backoff g) link links count le h = h
aim_later (purpose.Resubscription l) link links count le h = omega (arith, le, h)
aim_later (purpose.Response (owner.Try n round)) link links count le h = h

-- a source was asked for a link before it
pub use_later : (what : SourceUse) (link links : ℕ) (asked renews : Bool) → link < links → IsUse what link asked renews → IsUse what links false false
use_later (source.Setup l) link links asked renews less h = (let le = h.0 in omega (arith, less, le), λ e. absurd (let le = h.0 in omega (arith, less, le, e)))
use_later (source.Renewal l) link links asked renews less h = (let le = h.0 in omega (arith, less, le), λ e. absurd (let le = h.0 in omega (arith, less, le, e)))

-- submissions go to the current link, or went to one before it
abbrev pub ArePast : Book → Type 0
ArePast b = (n : ℕ) → (b.story n).link ≤ b.current

-- the wait behind another attempt begins of these generations
manager_rests : (config : Option Config) (generation attempts timer : ℕ) (m : Option Generations) → TiedManager config generation attempts m → TiedManager config generation (attempts + 1) (option_map (λ g. failed_behind g attempts timer) m)
manager_rests config generation attempts timer None h = h
manager_rests config generation attempts timer (Some g) h = record { whole = h.whole; told = h.told; sound = h.sound; settings_are = h.settings_are; at = h.at; bounded = h.bounded; number_is = h.number_is; attempt_is = refl; first = h.first }

-- the session then
abbrev pub rested_in : TurnState → ℕ → ℕ → ℕ → TurnState
rested_in t number attempt timer = record t { manager = option_map (λ g. failed_behind g attempt timer) t.manager; timers = t.timers ++ purpose.Backoff number ∷ []; link = t.links }

-- with the timer of the wait the session has no link, and all that are open go to the next one
pub rests_tied : (b : Book) (t : TurnState) (timer ms number : ℕ) → AfterFailedAttempt b t → ArePast b → HasNoLink (entered b (action.Timer timer ms (purpose.Backoff number))) (rested_in t number b.attempt timer)
rests_tied b t timer ms number h past =
    let n = h.numbers in
    let d : Book = entered b (action.Timer timer ms (purpose.Backoff number)) in
    record {
      numbers = record {
        turns = n.turns;
        links = n.links;
        submissions = n.submissions;
        timers = ap (λ (ts : List Purpose). ts ++ purpose.Backoff number ∷ []) n.timers;
        sources = n.sources;
        aims = λ k what i. elim (get_more t.timers (purpose.Backoff number) k what i) [
          | inl old ↦ aim_later what t.link t.links (length t.table) (omega (arith, placed)) (n.aims k what old)
          | inr new ↦ subst (λ (w : Purpose). IsAim w t.links (length t.table)) new.1 tt
        ];
        timed = n.timed;
        timeout = n.timeout;
        shut = n.shut;
        within = n.within;
        few = n.few;
        settings = record { size_is = n.settings.size_is; bound_is = n.settings.bound_is; limit_is = n.settings.limit_is; some = n.settings.some; limited = n.settings.limited };
        kind_is = n.kind_is;
        quiet = n.quiet;
        comes_back = manager_rests b.config b.generation b.attempt timer t.manager n.comes_back;
        lazy = n.lazy;
        alone = λ none. absurd (not_both (is_some (option_map (λ g. failed_behind g b.attempt timer) t.manager)) none (same_some t.manager ∙ h.comes));
        current_is = n.links;
        speaks = n.speaks;
        address_is = n.address_is;
        wants = n.wants;
      };
      placed = refl;
      unopened = h.unopened;
      comes = same_some t.manager ∙ h.comes;
      info_is = h.info_is;
      others = λ m other. by_test (m == t.link) _
          (λ same. subst (λ k. IsAside t.links k (b.link k) t.hears t.renewal.within b.created) (sym (eq_from m t.link same)) h.own)
          (λ apart. h.others m (ne_from m t.link apart));
      unknown = (h.others t.links (λ e. absurd (omega (arith, placed, e)))).unknown (omega arith);
      heard_is = h.heard_is;
      calm = refl;
      creation = h.creation;
      uses = λ k what i. use_later what t.link t.links _ _ (omega (arith, placed)) (h.uses k what i);
      renewal = h.renewal;
      repeat = h.repeat;
      names = h.names;
      story = λ m. subst (λ l. TiedStory (moved_to l (b.story m)) t.requests t.links (slice_get t.table m)) (sym n.links) (by_entry m (slice_get t.table m) (h.story m));
      untried = λ p r i on.
          let s = b.story r.name in
          let k = moved_is b.links s in
          by_test (is_open s) _
          (λ o.
          let q : IsRequest s t.requests t.link p = subst (TiedStory s t.requests t.link) (h.names.named p r i) (h.story r.name) in
          k.tries ∙ h.untried p r i (q.on (sym q.open_is ∙ o)))
          (λ f. absurd (behind r.name f (ap (λ (x : Story). x.link) (sym (k.stays f)) ∙ on)));
      untold = λ m told none on.
          let s = b.story m in
          let k = moved_is b.links s in
          let closed : is_open s ≡ false = sym k.opens ∙ told_closed (moved_to b.links s) told in
          behind m closed (ap (λ (x : Story). x.link) (sym (k.stays closed)) ∙ on);
      lines = record { line = h.lines.line; queued = tt; entries = tt; packs = packed_same b.story d.story t.requests t.waiting (λ m. sym (moved_is b.links (b.story m)).submission) (λ m. sym (moved_is b.links (b.story m)).timeout) h.lines.packs; packed_in = tt; there = h.lines.there };
      waits = record {
        early = λ p w. inl (waits_anew p w);
        backoff = λ p w e. inl (subst (IsIn p) (sym h.fresh) (is_kept p w));
        connect = λ p w e. cc;
        creds = λ p link w e. cc;
        setup = λ p link u w e. cc;
        resubscribe = λ p link w e goes. cc;
        permit = λ p link w e none. cc;
        place = λ p a. absurd (none_admitted p a);
        room = λ p i. absurd i;
        newer = subst (λ ns. Rising 0 ns (length t.requests)) (sym h.fresh) h.lines.line;
        rising = omega arith;
        no_backoff = λ p i w e. waits_anew p w;
        no_connect = λ p i w e. cc;
        no_creds = λ p link i w e. cc;
        no_setup = λ p link u i w e. cc;
        no_resubscribe = λ p link i w e goes. cc;
        unpermitted = λ p link w e goes. cc;
        no_permit = λ p link i w e none. cc;
        no_place = λ p i. absurd i;
        seatless = λ p a. absurd (none_admitted p a);
        no_room = λ p i. absurd i;
      };
      rounds = record {
        rounds_is = h.rounds_is;
        unbegun = λ p u. (anew p (waiting_open t.requests p (unbegun_waits t.requests p u))).3;
        begun = λ p shows o u. absurd (not_both (is_unbegun_at t.requests p) u (h.waiting p o));
        new = λ p shows up u. cc up;
      };
      early = h.waiting;
      permits = record {
        counted = λ k e.
            let none = none_held d.story t.links b.submissions unheld in
            let free = h.free ∙ ap (λ (x : Option ℕ). unwrap_or x 0) e in
            omega (arith, none, free);
        none = λ p w out. let k = h.holds p (waiting_open t.requests p w) in (k.0, (moved_is b.links (b.story (name_at t.requests p))).clock ∙ k.1);
        let_in = λ p e. elim e [ inl a ↦ absurd (none_admitted p a) | inr a ↦ absurd (none_placed p a) ];
      };
      late = λ p o over. h.late p o (sym (moved_is b.links (b.story (name_at t.requests p))).overdue ∙ over);
    }
  where
    placed : t.links ≡ t.link + 1
    placed = h.placed

    same_some : (m : Option Generations) → is_some (option_map (λ g. failed_behind g b.attempt timer) m) ≡ is_some m
    same_some None = refl
    same_some (Some g) = refl

    -- one that isn't open went to no later link
    behind : (m : ℕ) → is_open (b.story m) ≡ false → (b.story m).link ≡ t.links → ⊥
    behind m closed e = let le = past m in let here = h.numbers.current_is in omega (arith, le, here, e, placed)

    request : (p : ℕ) → is_open_at t.requests p ≡ true → IsRequest (b.story (name_at t.requests p)) t.requests t.link p
    request p o = subst (TiedStory (b.story (name_at t.requests p)) t.requests t.link) (name_placed t.table t.requests p h.names (open_within t.requests p o)) (h.story (name_at t.requests p))

    anew : (p : ℕ) → is_open_at t.requests p ≡ true → (let r = moved_to b.links (b.story (name_at t.requests p)) in (r.link ≡ b.links) × (r.permits ≡ 0) × (r.waiting ≡ None) × (r.rounded ≡ false))
    anew p o = (moved_is b.links (b.story (name_at t.requests p))).goes ((request p o).open_is ∙ o)

    waits_anew : (p : ℕ) → is_waiting_at t.requests p ≡ true → (moved_to b.links (b.story (name_at t.requests p))).waiting ≡ None
    waits_anew p w = (anew p (waiting_open t.requests p w)).2

    none_admitted : (p : ℕ) → is_admitted_at t.requests p ≡ true → ⊥
    none_admitted p a = not_both (is_unbegun_at t.requests p) (admitted_begun t.requests p a) (h.waiting p (admitted_open t.requests p a).0)

    none_placed : (p : ℕ) → is_placed_at t.requests p ≡ true → ⊥
    none_placed p a = not_both (is_unbegun_at t.requests p) (placed_begun t.requests p a) (h.waiting p (placed_open t.requests p a))

    is_kept : (p : ℕ) → is_waiting_at t.requests p ≡ true → IsIn p (waiting_ids t.waiting)
    is_kept p w = elim (h.lines.there p (waiting_open t.requests p w)) [
      | inl i ↦ absurd i
      | inr k ↦ elim k [ inl a ↦ absurd a.1 | inr i ↦ i.1 ]
    ]

    unheld : (m : ℕ) → permits_on t.links (moved_to b.links (b.story m)) ≡ 0
    unheld m =
        let s = b.story m in
        let k = moved_is b.links s in
        by_test (is_open s) _
        (λ o. either_none ((moved_to b.links s).link == t.links) (moved_to b.links s).permits (k.goes o).1)
        (λ f. left_if ((moved_to b.links s).link == t.links) _ 0 (ne_test (moved_to b.links s).link t.links (λ e. behind m f (ap (λ (x : Story). x.link) (sym (k.stays f)) ∙ e))))
      where
        either_none : (x : Bool) (held : ℕ) → held ≡ 0 → (if x then held else 0) ≡ 0
        either_none true held e = e
        either_none false held e = refl

    by_entry : (m : ℕ) (x : Option (Option Pending)) → TiedStory (b.story m) t.requests t.link x → TiedStory (moved_to t.links (b.story m)) t.requests t.links x
    by_entry m None s = (moved_is t.links (b.story m)).stays (ap is_open s) ∙ s
    by_entry m (Some None) s =
        let k = moved_is t.links (b.story m) in
        subst IsRefused (sym (k.stays (answered_closed (b.story m) [] (outcome.Fault s.error) s.answered))) s
    by_entry m (Some (Some p)) s =
        let k = moved_is t.links (b.story m) in
        record {
          what = s.what;
          handed_in = k.submission ∙ s.handed_in;
          in_time = k.late ∙ s.in_time;
          spoken = k.unspoken ∙ s.spoken;
          on = λ o. (k.goes (s.open_is ∙ o)).0;
          some = λ none. s.some (ap packed_in (sym k.submission) ∙ none);
          open_is = k.opens ∙ s.open_is;
          permits_is = by_test (is_open (b.story m)) _
              (λ o. (k.goes o).1 ∙ sym (held_none p.number (sym s.open_is ∙ o)))
              (λ f. ap (λ (x : Story). x.permits) (k.stays f) ∙ s.permits_is);
        }
      where
        held_none : (q : ℕ) → is_open_at t.requests q ≡ true → permits_at t.requests q ≡ 0
        held_none q o = (h.holds q o).0
