-- One notice is told of a link, or its end is: what this leaves as it is.
use Rattle.std.proofs.Common.{◌≡◌, ℕ, Bool, List, refl, ap, ◌∙◌, subst, sym, ◌==◌, ◌+◌, ◌-◌}
use Rattle.driver_model.specs.declared.action.Action.TheVariants as action
use Rattle.driver_model.specs.declared.push_info.PushInfo.{PushInfo}
use Rattle.legal_trace.specs.Ledger.{Heard, noted, Line, tells, parts, noted_each}
use Rattle.legal_trace.specs.Story.{has_place}
use Rattle.legal_trace.specs.Book.{Book, entered, placed_since, push_line, hearing_in, if_mine}
use Rattle.session_laws.proofs.Ties.Kept.{mine_noted, others_kept, tied_by}
use Rattle.conn_laws.proofs.Links.Server.{hearing_at}
use Rattle.conn_laws.proofs.Ties.Tied.{TiedNotices, carried, whole_link, is_reading}
use Rattle.session_laws.proofs.Ties.Tied.{TurnState, Tied}
use Rattle.conn_laws.proofs.Internal.Renewals.{renewal_alike}
use Rattle.conn_laws.proofs.Links.SameSaid.{said_alike}
use Rattle.driver_model.specs.declared.hearing.Notice.{Notice}
use Rattle.driver_model.specs.declared.hearing.Notice.TheVariants as notice
use Rattle.driver_model.specs.declared.action.Action.{Action}
use Rattle.driver_model.specs.Push.{is_disconnection}
use Rattle.containers.proofs.Choices.{left_if}
use Rattle.link_laws.proofs.Notices.{IsNoEnd}
use Rattle.conn_laws.proofs.Internal.Repeats.{repeat_alike}
use Rattle.conn_laws.proofs.Links.Told.{life_told, link_told, retells, same_told}

-- the book with one more line of link n, in which who has a place keeps it
abbrev pub lined : Book → ℕ → Line → Book
lined b n line = record b { link = λ m. noted_each (b.link m) (if_mine (n == m) line); placed = λ m. placed_since (has_place (b.story m)) (b.placed m) (b.turns - 1) }

-- the session is tied to the book with such a line
pub line_tied : (b : Book) (t : TurnState) (line : Line) (told : ℕ) (parted : Bool) (untold : List Heard) (parting : Bool) → noted (b.link t.link) line ≡ retells (b.link t.link) told parted
    → (let l = b.link t.link in TiedNotices (hearing_in b.config) t.hears (hearing_at t.life t.hears l.hearing) l.notices told l.end parted l.strange (is_reading l) untold parting) → Tied b t → Tied (lined b t.link line) (record t { untold = untold; parting = parting })
line_tied b t line told parted untold parting is pushed h =
    let l = b.link t.link in
    tied_by (lined b t.link line) (record t { untold = untold; parting = parting }) (retells l told parted) (mine_noted l t.link line ∙ is) (record {
      numbers = record { turns = h.numbers.turns; links = h.numbers.links; submissions = h.numbers.submissions; timers = h.numbers.timers; sources = h.numbers.sources; aims = h.numbers.aims; timed = h.numbers.timed; timeout = h.numbers.timeout; shut = h.numbers.shut; within = h.numbers.within; few = h.numbers.few; settings = record { size_is = h.numbers.settings.size_is; bound_is = h.numbers.settings.bound_is; limit_is = h.numbers.settings.limit_is; some = h.numbers.settings.some; limited = h.numbers.settings.limited }; kind_is = h.numbers.kind_is; quiet = h.numbers.quiet; comes_back = h.numbers.comes_back; lazy = h.numbers.lazy; current_is = h.numbers.current_is; speaks = h.numbers.speaks; address_is = h.numbers.address_is; wants = h.numbers.wants; alone = h.numbers.alone };
      others = others_kept b t.link line h.others;
      notices = pushed;
      life = life_told l told parted b.created t.life h.life;
      course = h.course;
      calm = h.calm;
      creds = h.creds;
      creation = h.creation;
      uses = h.uses;
      renewal = renewal_alike l (retells l told parted) t.renewal t.life refl refl refl h.renewal;
      repeat = repeat_alike l (retells l told parted) b.tracked t.renewal.within t.again t.life refl refl refl (λ e is. refl) h.repeat;
      setup = record { info_is = h.setup.info_is; sent = h.setup.sent; said = said_alike l (retells l told parted) t.started t.life (same_told l told parted) h.setup.said };
      link = λ up. link_told (carried t.life t.requests) l told parted (whole_link t.life) (h.link up);
      names = h.names;
      story = h.story;
      tries = record { owners = h.tries.owners; greeted = h.tries.greeted; shapes = h.tries.shapes; tried = h.tries.tried; untried = h.tries.untried };
      lines = h.lines;
      told = h.told;
      waits = h.waits;
      permits = h.permits;
      rounds = h.rounds;
      early = h.early;
      late = h.late;
    })

-- so with a push
pub push_tied : (b : Book) (t : TurnState) (info : PushInfo) (told : ℕ) (parted : Bool) (untold : List Heard) (parting : Bool) → noted (b.link t.link) (push_line info.kind) ≡ retells (b.link t.link) told parted
    → (let l = b.link t.link in TiedNotices (hearing_in b.config) t.hears (hearing_at t.life t.hears l.hearing) l.notices told l.end parted l.strange (is_reading l) untold parting) → Tied b t → Tied (entered b (action.Push t.link info)) (record t { untold = untold; parting = parting })
push_tied b t info told parted untold parting is pushed h = line_tied b t (push_line info.kind) told parted untold parting is pushed h

-- what shows that something is told of a link
abbrev pub notice_action : ℕ → Notice → Action
notice_action l (notice.Push info) = action.Push l info
notice_action l (notice.Message m) = action.Message m
notice_action l (notice.Monitor v) = action.Monitor v

-- messages are told of the session's link
pub current_is : (b : Book) (t : TurnState) → Tied b t → b.current ≡ t.link
current_is b t h = h.numbers.current_is

-- so with anything that came
pub notice_tied : (b : Book) (t : TurnState) (n : Notice) (untold : List Heard) → IsNoEnd n
    → (let l = b.link t.link in TiedNotices (hearing_in b.config) t.hears (hearing_at t.life t.hears l.hearing) l.notices (l.told + 1) l.end l.parted l.strange (is_reading l) untold t.parting) → Tied b t → Tied (entered b (notice_action t.link n)) (record t { untold = untold })
notice_tied b t (notice.Push info) untold come pushed h =
    push_tied b t info ((b.link t.link).told + 1) (b.link t.link).parted untold t.parting (ap (noted (b.link t.link)) (left_if (is_disconnection info.kind) parts tells come)) pushed h
notice_tied b t (notice.Message m) untold come pushed h =
    subst (λ k. Tied (lined b k tells) (record t { untold = untold })) (sym (current_is b t h)) (line_tied b t tells ((b.link t.link).told + 1) (b.link t.link).parted untold t.parting refl pushed h)
notice_tied b t (notice.Monitor v) untold come pushed h =
    subst (λ k. Tied (lined b k tells) (record t { untold = untold })) (sym (current_is b t h)) (line_tied b t tells ((b.link t.link).told + 1) (b.link t.link).parted untold t.parting refl pushed h)
