-- What one action of a turn leaves as it is.
use Rattle.std.proofs.Common.{List, Option, [], ap, length, refl, slice_get, subst, sym, ℕ, ◌<◌, ◌∷◌, ◌≡◌, false}
use Rattle.std.specs.Prelude.{◌==◌}
use Rattle.containers.proofs.Choices.{chosen, eq_from, eq_test, if_false, ne_test, taken_if}
use Rattle.driver_model.specs.declared.hearing.Hearing.{Hearing}
use Rattle.link_laws.proofs.TiedLink.{TiedLink}
use Rattle.mux_conn.specs.Requests.{name_at}
use Rattle.legal_trace.specs.Book.{Book, has_generations, if_mine, if_own, hearing_in}
use Rattle.legal_trace.specs.Ledger.{Ledger, Line, noted, noted_each}
use Rattle.legal_trace.specs.Story.{Story}
use Rattle.conn_laws.proofs.Ties.Names.{name_placed}
use Rattle.session_laws.proofs.Ties.Owes.{request_story}
use Rattle.conn_laws.proofs.Internal.Repeats.{TiedRepeat, serves}
use Rattle.conn_laws.proofs.Links.Server.{TiedCreds, TiedSetup, hearing_at, TiedRenewal}
use Rattle.conn_laws.proofs.Ties.Tied.{AreAside, AreLate, AreQueued, IsAside, IsRequest, TiedCreation, TiedLife, TiedLines, TiedNames, TiedPermits, TiedNotices, TiedRounds, TiedStory, TiedTries, TiedWaits, carried, has_ended, link_in, whole_link, is_reading, AreUses, AreEarly}
use Rattle.session_laws.proofs.Ties.Tied.{TurnState, StaysCalm, Tied, TiedCourse, TiedNumbers}

-- a session and the ledger of its link, which is that of the book
pub record TiedBy (b : Book) (t : TurnState) (l : Ledger) : Type 0 where
  pub numbers : TiedNumbers b t
  pub others : AreAside t.link t.links b.link t.hears t.renewal.within b.created
  pub notices : TiedNotices (hearing_in b.config) t.hears (hearing_at t.life t.hears l.hearing) l.notices l.told l.end l.parted l.strange (is_reading l) t.untold t.parting
  pub life : TiedLife l b.created t.life
  pub course : TiedCourse l.last l.end t
  pub calm : StaysCalm b.errors t.shut t.life
  pub creation : TiedCreation b.created t.told
  pub creds : TiedCreds l.creds t.renewal.wanted t.life
  pub uses : AreUses t.sources t.link l.creds.asked l.creds.renews
  pub renewal : TiedRenewal l t.renewal t.life
  pub repeat : TiedRepeat l b.tracked t.renewal.within t.again t.life
  pub setup : TiedSetup l t.info t.started t.life
  pub link : has_ended t.life ≡ false → TiedLink (carried t.life t.requests) l (whole_link t.life)
  pub names : TiedNames t.table t.requests
  pub story : (n : ℕ) → TiedStory (b.story n) t.requests t.link (slice_get t.table n)
  pub tries : TiedTries l b.story t.requests t.link t.started
  pub lines : TiedLines b.story t.requests (link_in t.life) t.waiting t.admitted t.pending t.started
  pub told : has_ended t.life ≡ false → AreQueued b.story t.requests t.link (link_in t.life)
  pub waits : TiedWaits b.story t.requests t.again t.life t.fresh t.moved
  pub permits : TiedPermits b.story b.submissions t.requests t.link t.limit t.free t.being_admitted
  pub rounds : TiedRounds (has_generations b) b.story t.requests (serves t.life t.again) t.fresh t.rounds
  pub early : AreEarly t.requests t.again t.life
  pub late : AreLate b.story t.requests t.pending

-- so the session is tied to the book
pub tied_by : (b : Book) (t : TurnState) (l : Ledger) → b.link t.link ≡ l → TiedBy b t l → Tied b t
tied_by b t l e h = record {
  numbers = h.numbers;
  others = h.others;
  notices = subst (λ (x : Ledger). TiedNotices (hearing_in b.config) t.hears (hearing_at t.life t.hears x.hearing) x.notices x.told x.end x.parted x.strange (is_reading x) t.untold t.parting) (sym e) h.notices;
  life = subst (λ (x : Ledger). TiedLife x b.created t.life) (sym e) h.life;
  course = subst (λ (x : Ledger). TiedCourse x.last x.end t) (sym e) h.course;
  calm = h.calm;
  creation = h.creation;
  creds = subst (λ (x : Ledger). TiedCreds x.creds t.renewal.wanted t.life) (sym e) h.creds;
  uses = subst (λ (x : Ledger). AreUses t.sources t.link x.creds.asked x.creds.renews) (sym e) h.uses;
  renewal = subst (λ (x : Ledger). TiedRenewal x t.renewal t.life) (sym e) h.renewal;
  repeat = subst (λ (x : Ledger). TiedRepeat x b.tracked t.renewal.within t.again t.life) (sym e) h.repeat;
  setup = subst (λ (x : Ledger). TiedSetup x t.info t.started t.life) (sym e) h.setup;
  link = λ up. subst (λ (x : Ledger). TiedLink (carried t.life t.requests) x (whole_link t.life)) (sym e) (h.link up);
  names = h.names;
  story = h.story;
  tries = subst (λ (x : Ledger). TiedTries x b.story t.requests t.link t.started) (sym e) h.tries;
  lines = h.lines;
  told = h.told;
  waits = h.waits;
  permits = h.permits;
  rounds = h.rounds;
  early = h.early;
  late = h.late;
}

-- the numbers say nothing of since when places are had, and new credentials are due
pub replaced_numbers : (b : Book) (t : TurnState) (placed : ℕ → Option ℕ) (since : ℕ → ℕ) → TiedNumbers b t → TiedNumbers (record b { placed = placed; since = since }) t
replaced_numbers b t placed since h = record {
  turns = h.turns;
  links = h.links;
  submissions = h.submissions;
  timers = h.timers;
  sources = h.sources;
  aims = h.aims;
  timed = h.timed;
  timeout = h.timeout;
  shut = h.shut;
  within = h.within;
  few = h.few;
  settings = record { size_is = h.settings.size_is; bound_is = h.settings.bound_is; limit_is = h.settings.limit_is; some = h.settings.some; limited = h.settings.limited };
  kind_is = h.kind_is;
  quiet = h.quiet;
  comes_back = h.comes_back;
  lazy = h.lazy;
  current_is = h.current_is;
  speaks = h.speaks;
  address_is = h.address_is;
  wants = h.wants;
  alone = h.alone;
}

-- nor does any tie
pub replaced : (b : Book) (t : TurnState) (placed : ℕ → Option ℕ) (since : ℕ → ℕ) → Tied b t → Tied (record b { placed = placed; since = since }) t
replaced b t placed since h = record {
  numbers = replaced_numbers b t placed since h.numbers;
  others = h.others;
  notices = h.notices;
  life = h.life;
  course = h.course;
  calm = h.calm;
  creation = h.creation;
  creds = h.creds;
  uses = h.uses;
  renewal = h.renewal;
  repeat = h.repeat;
  setup = h.setup;
  link = h.link;
  names = h.names;
  story = h.story;
  tries = h.tries;
  lines = h.lines;
  told = h.told;
  waits = h.waits;
  permits = h.permits;
  rounds = h.rounds;
  early = h.early;
  late = h.late;
}

-- a line of a link is noted of it alone
pub mine_noted : (l : Ledger) (n : ℕ) (line : Line) → noted_each l (if_mine (n == n) line) ≡ noted l line
mine_noted l n line = ap (noted_each l) (taken_if (n == n) (line ∷ []) [] (eq_test n n refl))

-- all other links stay as they are
pub others_kept : {links created : ℕ} {heard : Hearing} {within : Option ℕ} (b : Book) (n : ℕ) (line : Line) → AreAside n links b.link heard within created → AreAside n links (λ m. noted_each (b.link m) (if_mine (n == m) line)) heard within created
others_kept {links = links} {created = created} {heard = heard} {within = within} b n line h m other =
    if_false (λ (ls : List Line). IsAside links m (noted_each (b.link m) ls) heard within created) (n == m) (line ∷ []) [] (ne_test n m (λ e. other (sym e))) (h m other)

-- one request's story changes
pub one_changed : (b : Book) (t : TurnState) (p : ℕ) (g : Story → Story) → Tied b t → p < length t.requests
    → (let m = name_at t.requests p in IsRequest (b.story m) t.requests t.link p → IsRequest (g (b.story m)) t.requests t.link p)
    → (n : ℕ) → TiedStory (if_own (name_at t.requests p == n) (g (b.story n)) (b.story n)) t.requests t.link (slice_get t.table n)
one_changed b t p g h l f n =
    let m = name_at t.requests p in
    chosen (λ (x : Story). TiedStory x t.requests t.link (slice_get t.table n)) (m == n) (g (b.story n)) (b.story n)
    (λ e.
    subst (λ k. TiedStory (g (b.story k)) t.requests t.link (slice_get t.table k)) (eq_from m n e)
    (subst (TiedStory (g (b.story m)) t.requests t.link) (sym (name_placed t.table t.requests p h.names l)) (f (request_story b t p h l))))
    (λ e. h.story n)
