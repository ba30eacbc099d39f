-- Each run of a link is legal, and settles what is owed.
use Rattle.std.proofs.Common.{◌≡◌, ◌+◌, ◌-◌, ◌≢◌, ◌⊎◌, inl, inr, ℕ, ◌==◌, nat_le, Bool, true, false, ◌||◌, List, [], ◌∷◌, ◌++◌, length, Some, None, refl, sym, ap, ◌∙◌, subst, append_assoc, arith}
use Rattle.std.specs.List.{AllByRecursion}
use Rattle.std.proofs.lemmas.List.{append-nil, take_all}
use Rattle.containers.proofs.Choices.{not_both, chosen, if_true, if_false, taken_if, left_if, le_from, ne_from, or_left, or_right}
use Rattle.resp_value.specs.Data.{okay}
use Rattle.resp_read.specs.Grammar.{max_depth}
use Rattle.resp_read.specs.Values.{values, left_over, is_spoiled}
use Rattle.resp_read.proofs.ValueLaws.{values-empty}
use Rattle.redis_error.specs.declared.redis_error.RedisError.TheVariants as error
use Rattle.driver_model.specs.declared.outcome.Outcome.TheVariants as outcome
use Rattle.driver_model.specs.declared.action.Owner.{Owner}
use Rattle.driver_model.specs.declared.news.LinkFault.{LinkFault}
use Rattle.driver_model.specs.declared.news.LinkFault.TheVariants as fault
use Rattle.connection_info.specs.declared.address.RedisConnectionInfo.{RedisConnectionInfo}
use Rattle.connection_setup.specs.Setup.{setup}
use Rattle.driver_model.specs.Setup.{says_nothing}
use Rattle.driver_model.specs.Hearing.{felt, hears_messages, is_watching}
use Rattle.driver_model.specs.declared.hearing.Hearing.{Hearing}
use Rattle.driver_model.specs.declared.hearing.Hearing.TheVariants as hearing
use Rattle.driver_model.specs.Config.{bare_info}
use Rattle.driver_model.specs.News.{News, silence, connected, took, came, failed, dropped, shut}
use Rattle.link_core.specs.declared.message.Queued.{Queued}
use Rattle.link_core.specs.declared.message.Settled.{Settled}
use Rattle.link_core.specs.Ends.{row_closed, row_hit, queue_closed}
use Rattle.link_core.specs.Dealing.{Dealing}
use Rattle.link_core.specs.Link.{Reading, fresh, is_full, enqueued, started_all, offered_of, wrote_of, cancelled, emptied, piece_read, read_on, read_with, closed_all}
use Rattle.link_core.specs.Outbox.{can_offer}
use Rattle.link_core.specs.Waiting.{is_wanted, without}
use Rattle.legal_trace.specs.Ledger.{Ledger, reach, Ending, lasting, by_shutdown, by_fault, Line, asks, hears, begins, offers, ends, blank_ledger, bytes_came, ending, ending_up, ended, is_set_up, is_unreadable, monitor_message, IsWithin, values_came, noted, noted_each, ledger, AllNoted, LinkLegal}
use Rattle.legal_trace.specs.Owed.{owed_by}
use Rattle.legal_trace.proofs.Endings.{lasting_fault, lasting_shutdown}
use Rattle.legal_trace.proofs.Ledgers.{noted_append, may_append}
use Rattle.legal_trace.proofs.Came.{Came, bytes_are, grown, holds_bytes, holds_came}
use Rattle.legal_trace.proofs.Monitors.{is_watched, unwatched, watched_begins, watched_grows}
use Rattle.legal_trace.proofs.Setups.{ends_where_set, greeted_is_set, silent_is_greeted, unwanted}
use Rattle.legal_trace.proofs.Watching.{monitor_has_bytes}
use Rattle.link_laws.specs.Settles.{IsOwed, IsOwedUnstarted}
use Rattle.link_laws.specs.Notices.{AreApart, SayTheSame}
use Rattle.link_laws.specs.Laws.{NoticesAreHeard}
use Rattle.link_laws.specs.Starts.{begun, start_from, starting, begins_each}
use Rattle.link_laws.specs.Runs.{Operation, place, begin, start_first, offer, take_up, read, withdraw, fail, drop_stream, shut_down, pass, Run, okay_bytes, opening, watching, fresh_run, heard, settling, over_with, ends_by, placed, begun_all, first_begun, offered, taken_up, or_parse, has_taken, has_dropped, has_read, acted, performed, performed_each, run, AreOwed}
use Rattle.link_laws.proofs.Dealt.{AreCuts, IsCutOf, cuts_stay, cuts_kept, all_append}
use Rattle.link_laws.proofs.TiedLink.{TiedLink, IsPacked, all_push, fresh_tied, asked_tied, connected_tied, told_tied, enqueued_tied, cancelled_tied, begun_tied, started_tied, starting_front, starts_stand, offered_tied, offer_stands, taken_within, wrote_tied, ReadsAlike, deals, has_read as link_read, has_heard, reads_on, heard_is, read_taken, read_tied}
use Rattle.link_core.specs.Row.{lack_of_row}
use Rattle.link_laws.proofs.Notices.{set_reads, stand_apart}
use Rattle.link_laws.proofs.SetUp.{StaysSetUp}
use Rattle.link_laws.proofs.Settles.{lacks_are, cuts_owed, row_hit_owed, row_closed_owed, queue_owed}

-- what was told so far
--
-- these lines may stand, and this is their ledger
record IsTold (l : Ledger) (lines : List Line) : Type 0 where
  pub told : ledger lines ≡ l
  pub stands : LinkLegal lines

-- more lines that may stand
told_more : (l : Ledger) (lines more : List Line) → IsTold l lines → AllNoted l more → IsTold (noted_each l more) (lines ++ more)
told_more l lines more h may = record {
  told = noted_append blank_ledger lines more ∙ ap (λ (x : Ledger). noted_each x more) h.told;
  stands = may_append blank_ledger lines more h.stands (subst (λ (x : Ledger). AllNoted x more) (sym h.told) may);
}

-- a link that is up, to whose server nothing is to be said, but to put it into monitor mode, which is answered, which wants no
-- credentials, has not ended, and reads on
record Lives (l : Ledger) : Type 0 where
  pub bare : l.info ≡ bare_info
  pub unasked : l.creds.wanted ≡ false
  pub watched : is_watched l ≡ true
  pub up : l.up ≡ true
  pub lives : l.end ≡ None
  pub unspoiled : is_spoiled l.rest ≡ false
  pub tame : l.strange ≡ false

-- it is set up
set_now : (l : Ledger) → l.info ≡ bare_info → l.creds.wanted ≡ false → is_watched l ≡ true → is_set_up l ≡ true
set_now l bare unasked watched =
    greeted_is_set l (silent_is_greeted l (unwanted l unasked) (ap (λ (info : RedisConnectionInfo). says_nothing (setup info (0 == 0))) bare)) watched

-- and stays so
stays_now : (l : Ledger) → Lives l → StaysSetUp l
stays_now l h m grew = holds_came (λ (x : Ledger). is_set_up x ≡ true) l m grew (λ rest strange told more. set_now (grown l rest strange told more) h.bare h.unasked (watched_grows l rest more h.watched))

-- where something came and it reads on it lives on
lives_on : (l m : Ledger) → Came l m → Lives l → is_spoiled m.rest ≡ false → m.strange ≡ false → Lives m
lives_on l m grew h unspoiled tame =
    holds_came (λ (x : Ledger). is_spoiled x.rest ≡ false → x.strange ≡ false → Lives x) l m grew
    (λ rest strange told more u t. record { bare = h.bare; unasked = h.unasked; watched = watched_grows l rest more h.watched; up = h.up; lives = h.lives; unspoiled = u; tame = t })
    unspoiled tame

-- whatever it was told last
lives_told : (l : Ledger) (news : News) → Lives l → Lives (record l { heard = news })
lives_told l news h = record { bare = h.bare; unasked = h.unasked; watched = h.watched; up = h.up; lives = h.lives; unspoiled = h.unspoiled; tame = h.tame }

-- a run that goes on: its link is tied to its ledger, what waits has bytes, and what was settled has its cuts
record IsLive (name : ℕ → Owner) (l : Ledger) (r : Run) : Type 0 where
  pub told : IsTold l r.lines
  pub lives : Lives l
  pub heard_is : l.hearing ≡ r.hearing
  pub tied : TiedLink name l r.link
  pub packed : AllByRecursion IsPacked r.link.queue
  pub cuts : AreCuts name l.starts l.dealt r.settled
  pub none : r.unstarted ≡ []

-- a run whose link has ended
record IsOver (name : ℕ → Owner) (l : Ledger) (r : Run) : Type 0 where
  pub told : IsTold l r.lines
  pub owed : AreOwed name l r

-- a run that goes on, with its ledger
abbrev GoesOn : (ℕ → Owner) → Run → Type 0
GoesOn name r = (r.over ≡ false) × ((l : Ledger) × IsLive name l r)

-- a run goes on, or its link has ended
abbrev Sound : (ℕ → Owner) → Run → Type 0
Sound name r = GoesOn name r ⊎ ((r.over ≡ true) × ((l : Ledger) × IsOver name l r))

-- a new run goes on
--
-- where its server isn't put into monitor mode
plain_live : (name : ℕ → Owner) (h : Hearing) (size boundary : ℕ) → is_watching h ≡ false
    → IsLive name (noted (noted blank_ledger (asks bare_info false h true false)) (hears 1 connected)) (record { link = fresh size boundary; hearing = h; over = false; turn = 1; lines = opening h; settled = []; unstarted = [] })
plain_live name h size boundary plain = record {
  told = record { told = refl; stands = (refl, (tt, tt)) };
  lives = record { bare = refl; unasked = refl; watched = unwatched (noted (noted blank_ledger (asks bare_info false h true false)) (hears 1 connected)) plain; up = refl; lives = refl; unspoiled = values-empty.2; tame = refl };
  heard_is = refl;
  tied = connected_tied name (noted blank_ledger (asks bare_info false h true false)) (fresh size boundary) 1 (asked_tied name blank_ledger bare_info false h true false (fresh size boundary) (fresh_tied name size boundary));
  packed = tt;
  cuts = tt;
  none = refl;
}

-- the reply that all is well is one value, and nothing is left of it
okay_is : (values okay_bytes ≡ okay ∷ []) × (left_over okay_bytes ≡ [])
unfolding values left_over max_depth
okay_is = (refl, refl)

-- the ledger of a link whose server was told MONITOR
abbrev asked_to_watch : Ledger
asked_to_watch =
    noted_each blank_ledger (opening hearing.Monitor ++ begins monitor_message ∷ offers monitor_message.bytes ∷ hears 2 (took (length monitor_message.bytes)) ∷ [])

-- and answered it well
abbrev watches : Ledger
watches = record (values_came (record asked_to_watch { rest = [] }) (okay ∷ [])) { heard = came okay_bytes }

-- so it comes to that
watches_is : ledger (opening hearing.Monitor ++ watching) ≡ watches
watches_is = (λ i. record (values_came (record asked_to_watch { rest = okay_is.1 i }) (okay_is.0 i)) { heard = came okay_bytes })

-- where it is
watching_live : (name : ℕ → Owner) (size boundary : ℕ) → IsLive name watches (fresh_run hearing.Monitor size boundary)
watching_live name size boundary =
    let bytes = monitor_message.bytes in record {
      told = record {
        told = watches_is;
        stands = (refl, (tt, ((refl, monitor_has_bytes), ((refl, refl, sym (append-nil bytes), monitor_has_bytes), ((λ up. omega arith), (tt, tt))))));
      };
      lives = record { bare = refl; unasked = refl; watched = refl; up = refl; lives = refl; unspoiled = values-empty.2; tame = refl };
      heard_is = refl;
      tied = record {
        sent = ap (λ bs. bs ++ []) (take_all (length bytes) bytes (omega arith));
        offer = refl;
        bound = omega arith;
        rest = refl;
        broken = sym values-empty.2;
        started = refl;
        within = omega arith;
        bytes = (monitor_has_bytes, tt);
        row = λ e. refl;
      };
      packed = tt;
      cuts = tt;
      none = refl;
    }

-- whatever is heard
fresh_sound : (name : ℕ → Owner) (h : Hearing) (size boundary : ℕ) → Sound name (fresh_run h size boundary)
fresh_sound name hearing.Monitor size boundary = inl (refl, (watches, watching_live name size boundary))
fresh_sound name hearing.Nothing size boundary = inl (refl, (_, plain_live name hearing.Nothing size boundary refl))
fresh_sound name hearing.Pushes size boundary = inl (refl, (_, plain_live name hearing.Pushes size boundary refl))
fresh_sound name hearing.Messages size boundary = inl (refl, (_, plain_live name hearing.Messages size boundary refl))

-- the operations of a link that goes on
--
-- a message that is not turned away has bytes
has_bytes : (bs : List ℕ) → (length bs == 0) ≡ false → bs ≢ []
has_bytes bs f e = ne_from (length bs) 0 f (ap length e)

is_packed : (full : Bool) (bs : List ℕ) → (full || (length bs == 0)) ≡ false → bs ≢ []
is_packed full bs f = has_bytes bs (or_right full (length bs == 0) f)

-- a message takes a place
placed_live : (name : ℕ → Owner) (l : Ledger) (r : Run) (q : Queued) → r.over ≡ false → IsLive name l r → GoesOn name (placed r q)
placed_live name l r q goes_on h =
    chosen (GoesOn name) (is_full r.link || (length q.packed == 0)) r (record r { link = enqueued r.link q })
    (λ t. (goes_on, (l, h)))
    (λ f. (
      goes_on,
      (
        l,
        record {
          told = h.told;
          lives = h.lives;
          heard_is = h.heard_is;
          tied = enqueued_tied name l r.link q h.tied;
          packed = all_push IsPacked r.link.queue q h.packed (is_packed (is_full r.link) q.packed f);
          cuts = h.cuts;
          none = h.none;
        },
      ),
    ))

-- what holds of a whole queue holds without one of its messages
all_without : (P : Queued → Type 0) (queue : List Queued) (id : ℕ) → AllByRecursion P queue → AllByRecursion P (without queue id)
all_without P [] id all = tt
all_without P (q ∷ qs) id all = chosen (AllByRecursion P) (is_wanted id q) qs (q ∷ without qs id) (λ t. all.1) (λ f. (all.0, all_without P qs id all.1))

-- the caller of a message goes
withdrawn_live : (name : ℕ → Owner) (l : Ledger) (r : Run) (id : ℕ) → IsLive name l r → IsLive name l (record r { link = cancelled r.link id })
withdrawn_live name l r id h = record {
  told = h.told;
  lives = h.lives;
  heard_is = h.heard_is;
  tied = cancelled_tied name l r.link id h.tied;
  packed = all_without IsPacked r.link.queue id h.packed;
  cuts = h.cuts;
  none = h.none;
}

-- a link lives on where messages start
begins_live : (name : ℕ → Owner) (l : Ledger) (qs : List Queued) → Lives l → Lives (noted_each l (begins_each name qs))
begins_live name l [] h = h
begins_live name l (q ∷ qs) h =
    let s = start_from name q in
    begins_live name (noted l (begins s)) qs (record { bare = h.bare; unasked = h.unasked; watched = watched_begins l s h.watched; up = h.up; lives = h.lives; unspoiled = h.unspoiled; tame = h.tame })

-- on which the same is heard
begins_heard : (name : ℕ → Owner) (l : Ledger) (qs : List Queued) → (noted_each l (begins_each name qs)).hearing ≡ l.hearing
begins_heard name l [] = refl
begins_heard name l (q ∷ qs) = begins_heard name (noted l (begins (start_from name q))) qs

-- and what was settled keeps its cuts
begins_cuts : (name : ℕ → Owner) (l : Ledger) (qs : List Queued) (out : List Settled) → AreCuts name l.starts l.dealt out
    → AreCuts name (noted_each l (begins_each name qs)).starts (noted_each l (begins_each name qs)).dealt out
begins_cuts name l [] out h = h
begins_cuts name l (q ∷ qs) out h = begins_cuts name (noted l (begins (start_from name q))) qs out (cuts_kept name l.starts (start_from name q) l.dealt out h)

-- what holds of each of two lists holds of each of the second
all_right : {X : Type 0} (P : X → Type 0) (xs ys : List X) → AllByRecursion P (xs ++ ys) → AllByRecursion P ys
all_right P [] ys all = all
all_right P (x ∷ xs) ys all = all_right P xs ys all.1

-- all start that may
begun_live : (name : ℕ → Owner) (l : Ledger) (r : Run) → IsLive name l r → IsLive name (noted_each l (begins_each name (starting r.link r.link.queue))) (begun_all name r)
begun_live name l r h =
    let qs = starting r.link r.link.queue in
    let left = (started_all (record { link = r.link; out = [] })).link.queue in
    let parts : qs ++ left ≡ r.link.queue = starting_front r.link [] r.link.queue in
    record {
      told = told_more l r.lines (begins_each name qs) h.told (starts_stand name l r.link r.link.queue h.lives.up h.packed);
      lives = begins_live name l qs h.lives;
      heard_is = begins_heard name l qs ∙ h.heard_is;
      tied = started_tied name l r.link [] r.link.queue h.packed h.tied;
      packed = all_right IsPacked qs left (subst (AllByRecursion IsPacked) (sym parts) h.packed);
      cuts = begins_cuts name l qs r.settled h.cuts;
      none = h.none;
    }

-- a message starts at once
first_live : (name : ℕ → Owner) (l : Ledger) (r : Run) (q : Queued) → r.over ≡ false → IsLive name l r → GoesOn name (first_begun name r q)
first_live name l r q goes_on h =
    let start = start_from name q in
    chosen (GoesOn name) (length q.packed == 0) r (record r { link = begun r.link q; lines = r.lines ++ begins start ∷ [] })
    (λ t. (goes_on, (l, h)))
    (λ f.
    let some = has_bytes q.packed f in (
      goes_on,
      (
        noted l (begins start),
        record {
          told = told_more l r.lines (begins start ∷ []) h.told ((h.lives.up, some), tt);
          lives = begins_live name l (q ∷ []) h.lives;
          heard_is = h.heard_is;
          tied = begun_tied name l r.link q some h.tied;
          packed = h.packed;
          cuts = begins_cuts name l (q ∷ []) r.settled h.cuts;
          none = h.none;
        },
      ),
    ))

-- all unwritten bytes are offered
offered_live : (name : ℕ → Owner) (l : Ledger) (r : Run) → r.over ≡ false → IsLive name l r → GoesOn name (offered r)
offered_live name l r goes_on h =
    chosen (GoesOn name) (can_offer r.link.outbox) (record r { link = offered_of r.link; lines = r.lines ++ offers r.link.outbox.unwritten ∷ [] }) r
    (λ t. (
      goes_on,
      (
        noted l (offers r.link.outbox.unwritten),
        record {
          told = told_more l r.lines (offers r.link.outbox.unwritten ∷ []) h.told (offer_stands name l r.link h.lives.up t h.tied, tt);
          lives = record { bare = h.lives.bare; unasked = h.lives.unasked; watched = h.lives.watched; up = h.lives.up; lives = h.lives.lives; unspoiled = h.lives.unspoiled; tame = h.lives.tame };
          heard_is = h.heard_is;
          tied = offered_tied name l r.link h.tied;
          packed = h.packed;
          cuts = h.cuts;
          none = h.none;
        },
      ),
    ))
    (λ f. (goes_on, (l, h)))

-- what a link that is up keeps when bytes are taken
taken_lives : (l : Ledger) (turn n : ℕ) → Lives l → Lives (noted l (hears turn (took n)))
taken_lives l turn n h = if_true (λ (x : Ledger). Lives (record x { heard = took n })) l.up _ l h.up (record { bare = h.bare; unasked = h.unasked; watched = h.watched; up = h.up; lives = h.lives; unspoiled = h.unspoiled; tame = h.tame })

-- what was settled keeps its cuts
taken_cuts : (name : ℕ → Owner) (l : Ledger) (turn n : ℕ) (out : List Settled) → l.up ≡ true → AreCuts name l.starts l.dealt out → AreCuts name (noted l (hears turn (took n))).starts (noted l (hears turn (took n))).dealt out
taken_cuts name l turn n out up h = if_true (λ (x : Ledger). AreCuts name x.starts x.dealt out) l.up _ l up h

-- offered bytes are taken
taken_live : (name : ℕ → Owner) (l : Ledger) (r : Run) (n : ℕ) → r.over ≡ false → IsLive name l r → GoesOn name (taken_up r n)
taken_live name l r n goes_on h =
    chosen (GoesOn name) (nat_le n r.link.outbox.offered) (record (heard r (took n)) { link = wrote_of r.link n }) r
    (λ t. (
      goes_on,
      (
        noted l (hears (r.turn + 1) (took n)),
        record {
          told = told_more l r.lines (hears (r.turn + 1) (took n) ∷ []) h.told ((λ up. taken_within name l r.link n (le_from _ _ t) h.tied), tt);
          lives = taken_lives l (r.turn + 1) n h.lives;
          heard_is = if_true (λ (x : Ledger). x.hearing ≡ r.hearing) l.up _ l h.lives.up h.heard_is;
          tied = wrote_tied name l r.link (r.turn + 1) n h.lives.up (le_from _ _ t) h.tied;
          packed = h.packed;
          cuts = taken_cuts name l (r.turn + 1) n r.settled h.lives.up h.cuts;
          none = h.none;
        },
      ),
    ))
    (λ f. (goes_on, (l, h)))

-- the end of a link
--
-- what holds of a run when its link must end
record IsEnding (name : ℕ → Owner) (l : Ledger) (r : Run) : Type 0 where
  pub told : IsTold l r.lines
  pub lives : l.end ≡ None
  pub heard_is : l.hearing ≡ r.hearing
  pub tied : TiedLink name l r.link
  pub cuts : AreCuts name l.starts l.dealt r.settled

-- the link ends, and what it settles of its row is owed
over_sound : (name : ℕ → Owner) (l : Ledger) (r : Run) (rows : List Settled) (why : Ending) → ending l ≡ Some why → owed_by (lasting l.last why) ≡ Some (outcome.Fault error.Closed) → AllByRecursion (IsOwed name (ended l r.turn)) rows → IsEnding name l r
    → Sound name (over_with r (emptied (settling r) (rows ++ queue_closed r.link.queue)))
over_sound name l r rows why ends_so closes owed h = inr (
  refl,
  (
    ended l r.turn,
    record {
      told = told_more l r.lines (ends r.turn ∷ []) h.told ((why, ends_so), tt);
      owed = record {
        started = r.settled ++ rows;
        all = sym (append_assoc r.settled rows (queue_closed r.link.queue));
        owed = all_append (IsOwed name (ended l r.turn)) r.settled rows (cuts_owed name (ended l r.turn) r.settled h.cuts) owed;
        closed = queue_owed l r.turn why r.link.queue ends_so closes;
      };
    },
  ),
)

-- it ends by a fault, or since it is shut down
faulted_sound : (name : ℕ → Owner) (l : Ledger) (r : Run) (f : LinkFault) → ending l ≡ Some (by_fault (felt l.hearing f)) → IsEnding name l r → Sound name (ends_by r f)
faulted_sound name l r f ends_so h =
    let felt_so = felt r.hearing f in
    let ends_felt : ending l ≡ Some (by_fault felt_so) = ends_so ∙ ap (λ (x : Hearing). Some (by_fault (felt x f))) h.heard_is in
    over_sound name l r (row_hit felt_so r.link.row) (by_fault felt_so) ends_felt (ap owed_by (lasting_fault l.last felt_so)) (row_hit_owed name l r.link r.turn felt_so ends_felt h.lives h.tied) h

-- the link is shut down
closed_sound : (name : ℕ → Owner) (l : Ledger) (r : Run) → ending l ≡ Some by_shutdown → IsEnding name l r → Sound name (over_with r (closed_all (settling r)))
closed_sound name l r ends_so h = over_sound name l r (row_closed r.link.row) by_shutdown ends_so (ap owed_by (lasting_shutdown l.last)) (row_closed_owed name l r.link r.turn ends_so h.lives h.tied) h

-- news that ends a link that is up and set up
ends_up : (l : Ledger) (news : News) (why : Ending) → Lives l → ending_up l news ≡ Some why → ending (record l { heard = news }) ≡ Some why
ends_up l news why h e = ends_where_set (record l { heard = news }) h.up (set_now (record l { heard = news }) h.bare h.unasked h.watched) ∙ e

-- a run that has heard this, when its link must end
hears_ending : (name : ℕ → Owner) (l : Ledger) (r : Run) (news : News) → noted l (hears (r.turn + 1) news) ≡ record l { heard = news } → IsWithin l news → IsLive name l r → IsEnding name (record l { heard = news }) (heard r news)
hears_ending name l r news is within h = record {
  told = subst (λ (x : Ledger). IsTold x (r.lines ++ hears (r.turn + 1) news ∷ [])) is (told_more l r.lines (hears (r.turn + 1) news ∷ []) h.told (within, tt));
  lives = h.lives.lives;
  heard_is = h.heard_is;
  tied = told_tied name l r.link l.asked l.up news h.tied;
  cuts = h.cuts;
}

-- a fault is told, and ends the link
failed_sound : (name : ℕ → Owner) (l : Ledger) (r : Run) (f : LinkFault) → IsLive name l r → Sound name (ends_by (heard r (failed f)) f)
failed_sound name l r f h =
    faulted_sound name (record l { heard = failed f }) (heard r (failed f)) f (ends_up l (failed f) (by_fault (felt l.hearing f)) h.lives refl) (hears_ending name l r (failed f) refl tt h)

-- the shutdown is told, and ends the link
shut_sound : (name : ℕ → Owner) (l : Ledger) (r : Run) → IsLive name l r → Sound name (over_with (heard r shut) (closed_all (settling r)))
shut_sound name l r h =
    closed_sound name (record l { heard = shut }) (heard r shut) (ends_up l shut by_shutdown h.lives refl) (hears_ending name l r shut refl tt h)

-- a turn that changes no more
quiet_live : (name : ℕ → Owner) (l : Ledger) (r : Run) (news : News) → noted l (hears (r.turn + 1) news) ≡ record l { heard = news } → IsWithin l news → IsLive name l r → IsLive name (record l { heard = news }) (heard r news)
quiet_live name l r news is within h =
    let e = hears_ending name l r news is within h in
    record { told = e.told; lives = lives_told l news h.lives; heard_is = e.heard_is; tied = e.tied; packed = h.packed; cuts = e.cuts; none = h.none }

-- the stream of messages is dropped, which ends a link of messages
dropped_sound : (name : ℕ → Owner) (l : Ledger) (r : Run) → r.over ≡ false → IsLive name l r → Sound name (has_dropped (heard r dropped))
dropped_sound name l r goes_on h =
    let x = heard r dropped in
    let ends_so : hears_messages r.hearing ≡ true → ending_up l dropped ≡ Some (by_fault fault.Ended) =
    (λ t. taken_if (hears_messages l.hearing) (Some (by_fault fault.Ended)) None (ap hears_messages h.heard_is ∙ t)) in
    let felt_so : felt l.hearing fault.Ended ≡ fault.Ended = chosen (λ (f : LinkFault). f ≡ fault.Ended) (hears_messages l.hearing) fault.Ended fault.Ended (λ t. refl) (λ f. refl) in
    chosen (Sound name) (hears_messages r.hearing) (ends_by x fault.Ended) x
    (λ t. faulted_sound name (record l { heard = dropped }) x fault.Ended (ends_up l dropped (by_fault fault.Ended) h.lives (ends_so t) ∙ ap (λ (f : LinkFault). Some (by_fault f)) (sym felt_so)) (hears_ending name l r dropped refl tt h))
    (λ f. inl (goes_on, (record l { heard = dropped }, quiet_live name l r dropped refl tt h)))

-- bytes come
--
-- what a run has read
abbrev read_by : Run → List ℕ → Dealing
read_by r piece = deals r.hearing true r.link piece

-- a run that has read
abbrev after_read : Run → List ℕ → Run
after_read r piece = record (heard r (came piece)) { link = link_read r.hearing true r.link piece; settled = r.settled ++ (read_by r piece).out }

-- its link takes each value as its ledger does
reads_so : (name : ℕ → Owner) (l : Ledger) (r : Run) (piece : List ℕ) → IsLive name l r → ReadsAlike r.hearing true l r.link piece
reads_so name l r piece h = set_reads r.hearing l r.link piece h.heard_is h.lives.tame (stays_now l h.lives)

-- what a run has read and settled
read_ending : (name : ℕ → Owner) (l : Ledger) (r : Run) (piece : List ℕ) → IsLive name l r → IsEnding name (has_heard l piece) (after_read r piece)
read_ending name l r piece h =
    let alike = reads_so name l r piece h in
    let t = read_taken name r.hearing true l r.link piece h.lives.lives alike h.tied in
    let m = has_heard l piece in
    record {
      told = subst (λ (x : Ledger). IsTold x (r.lines ++ hears (r.turn + 1) (came piece) ∷ [])) (heard_is l (r.turn + 1) piece h.lives.up) (told_more l r.lines (hears (r.turn + 1) (came piece) ∷ []) h.told (tt, tt));
      lives = holds_bytes (λ (x : Ledger). x.end ≡ None) l piece (λ rest strange told more. h.lives.lives);
      heard_is = holds_bytes (λ (x : Ledger). x.hearing ≡ r.hearing) l piece (λ rest strange told more. h.heard_is);
      tied = read_tied name r.hearing true l r.link piece h.lives.lives alike h.tied;
      cuts = all_append (IsCutOf name m.starts m.dealt) r.settled (read_by r piece).out
          (holds_bytes (λ (x : Ledger). AreCuts name x.starts x.dealt r.settled) l piece (λ rest strange told more. cuts_stay name l.starts l.dealt more r.settled h.cuts))
          t.deals.cuts;
    }

-- what can't be read on ends a link that is up
breaks_up : (l : Ledger) (piece : List ℕ) → Lives l → is_unreadable (has_heard l piece) ≡ true → (let m = has_heard l piece in ending m ≡ Some (by_fault (felt m.hearing fault.Parse)))
breaks_up l piece h unreadable =
    let m = has_heard l piece in
    let up : m.up ≡ true = holds_bytes (λ (x : Ledger). x.up ≡ true) l piece (λ rest strange told more. h.up) in
    let set : is_set_up m ≡ true = stays_now l h (bytes_came l piece) (bytes_are l piece) in
    ends_where_set m up set ∙ taken_if (is_unreadable m) (Some (by_fault (felt m.hearing fault.Parse))) None unreadable

-- it can be read on in neither
unreadable_is : (name : ℕ → Owner) (l : Ledger) (r : Run) (piece : List ℕ) → IsLive name l r → ((after_read r piece).link.broken || (read_by r piece).strange) ≡ is_unreadable (has_heard l piece)
unreadable_is name l r piece h =
    let e = read_ending name l r piece h in
    let t = read_taken name r.hearing true l r.link piece h.lives.lives (reads_so name l r piece h) h.tied in
    let spoils : (after_read r piece).link.broken ≡ is_spoiled (has_heard l piece).rest = e.tied.broken ∙ ap is_spoiled (sym e.tied.rest) in
    (λ i. spoils i || sym t.strange i)

-- and then ends where it can't be
parse_sound : (name : ℕ → Owner) (l : Ledger) (r : Run) (piece : List ℕ) → r.over ≡ false → IsLive name l r → Sound name (or_parse (after_read r piece) (read_by r piece).strange)
parse_sound name l r piece goes_on h =
    let e = read_ending name l r piece h in
    let m = has_heard l piece in
    let x = after_read r piece in
    let unreadable = unreadable_is name l r piece h in
    chosen (Sound name) (x.link.broken || (read_by r piece).strange) (ends_by x fault.Parse) x
    (λ t. faulted_sound name m x fault.Parse (breaks_up l piece h.lives (sym unreadable ∙ t)) e)
    (λ f.
    let readable : is_unreadable m ≡ false = sym unreadable ∙ f in
    inl (
      goes_on,
      (
        m,
        record {
          told = e.told;
          lives = lives_told (bytes_came l piece) (came piece) (lives_on l (bytes_came l piece) (bytes_are l piece) h.lives (or_left (is_spoiled m.rest) m.strange readable) (or_right (is_spoiled m.rest) m.strange readable));
          heard_is = e.heard_is;
          tied = e.tied;
          packed = h.packed;
          cuts = e.cuts;
          none = h.none;
        },
      ),
    ))

-- what a run with these bytes comes to
read_run : (name : ℕ → Owner) (l : Ledger) (r : Run) (piece : List ℕ) → IsLive name l r → has_read r piece ≡ or_parse (after_read r piece) (read_by r piece).strange
read_run name l r piece h =
    let sound : r.link.broken ≡ false = h.tied.broken ∙ ap is_spoiled (sym h.tied.rest) ∙ h.lives.unspoiled in
    ap (has_taken (heard r (came piece))) (reads_on r.hearing true r.link piece sound)

-- bytes come to a link that goes on
read_sound : (name : ℕ → Owner) (l : Ledger) (r : Run) (piece : List ℕ) → r.over ≡ false → IsLive name l r → Sound name (has_read r piece)
read_sound name l r piece goes_on h = subst (Sound name) (sym (read_run name l r piece h)) (parse_sound name l r piece goes_on h)

-- all operations
--
acted_sound : (name : ℕ → Owner) (l : Ledger) (r : Run) (o : Operation) → r.over ≡ false → IsLive name l r → Sound name (acted name r o)
acted_sound name l r (place q) goes_on h = inl (placed_live name l r q goes_on h)
acted_sound name l r begin goes_on h = inl (goes_on, (noted_each l (begins_each name (starting r.link r.link.queue)), begun_live name l r h))
acted_sound name l r (start_first q) goes_on h = inl (first_live name l r q goes_on h)
acted_sound name l r offer goes_on h = inl (offered_live name l r goes_on h)
acted_sound name l r (take_up n) goes_on h = inl (taken_live name l r n goes_on h)
acted_sound name l r (read piece) goes_on h = read_sound name l r piece goes_on h
acted_sound name l r (withdraw id) goes_on h = inl (goes_on, (l, withdrawn_live name l r id h))
acted_sound name l r (fail f) goes_on h = failed_sound name l r f h
acted_sound name l r drop_stream goes_on h = dropped_sound name l r goes_on h
acted_sound name l r shut_down goes_on h = shut_sound name l r h
acted_sound name l r pass goes_on h = inl (goes_on, (record l { heard = silence }, quiet_live name l r silence refl tt h))

-- one operation
performed_sound : (name : ℕ → Owner) (r : Run) (o : Operation) → Sound name r → Sound name (performed name r o)
performed_sound name r o (inl h) = if_false (Sound name) r.over r (acted name r o) h.0 (acted_sound name h.1.0 r o h.0 h.1.1)
performed_sound name r o (inr h) = if_true (Sound name) r.over r (acted name r o) h.0 (inr h)

-- operations one after another
each_sound : (name : ℕ → Owner) (r : Run) (os : List Operation) → Sound name r → Sound name (performed_each name r os)
each_sound name r [] h = h
each_sound name r (o ∷ os) h = each_sound name (performed name r o) os (performed_sound name r o h)

-- each run is sound
run_sound : (name : ℕ → Owner) (h : Hearing) (size boundary : ℕ) (os : List Operation) → Sound name (run name h size boundary os)
unfolding run
run_sound name h size boundary os = each_sound name (fresh_run h size boundary) os (fresh_sound name h size boundary)

-- what was told may stand
sound_told : (name : ℕ → Owner) (r : Run) → Sound name r → LinkLegal r.lines
sound_told name r (inl h) = h.1.1.told.stands
sound_told name r (inr h) = h.1.1.told.stands

-- what is told of a link can be relied on
pub run_legal : (name : ℕ → Owner) (h : Hearing) (size boundary : ℕ) (os : List Operation) → LinkLegal (run name h size boundary os).lines
run_legal name h size boundary os = sound_told name (run name h size boundary os) (run_sound name h size boundary os)

-- what a run that goes on has settled is owed
live_owed : (name : ℕ → Owner) (l : Ledger) (r : Run) → IsLive name l r → AreOwed name l r
live_owed name l r h = record {
  started = r.settled;
  all = sym (ap (λ qs. r.settled ++ queue_closed qs) h.none ∙ append-nil r.settled);
  owed = cuts_owed name l r.settled h.cuts;
  closed = subst (λ qs. AllByRecursion (IsOwedUnstarted l) (queue_closed qs)) (sym h.none) tt;
}

-- what any run has settled is owed
sound_owed : (name : ℕ → Owner) (r : Run) → Sound name r → AreOwed name (ledger r.lines) r
sound_owed name r (inl h) = subst (λ (l : Ledger). AreOwed name l r) (sym h.1.1.told.told) (live_owed name h.1.0 r h.1.1)
sound_owed name r (inr h) = subst (λ (l : Ledger). AreOwed name l r) (sym h.1.1.told.told) h.1.1.owed

-- and what it settles is owed
pub run_owed : (name : ℕ → Owner) (h : Hearing) (size boundary : ℕ) (os : List Operation) → AreOwed name (ledger (run name h size boundary os).lines) (run name h size boundary os)
run_owed name h size boundary os = sound_owed name (run name h size boundary os) (run_sound name h size boundary os)

-- what the started messages of a run lack
sound_lacks : (name : ℕ → Owner) (r : Run) → Sound name r → r.over ≡ false → lack_of_row r.link.row ≡ reach (ledger r.lines).starts (ledger r.lines).dealt - length (ledger r.lines).dealt
sound_lacks name r (inl h) g = subst (λ (l : Ledger). lack_of_row r.link.row ≡ reach l.starts l.dealt - length l.dealt) (sym h.1.1.told.told) (lacks_are name h.1.0 r.link h.1.1.lives.lives h.1.1.tied)
sound_lacks name r (inr h) g = absurd (not_both r.over g h.0)

-- its started messages lack what the starts take and were not dealt
pub run_lacks : (name : ℕ → Owner) (h : Hearing) (size boundary : ℕ) (os : List Operation) → (run name h size boundary os).over ≡ false
    → lack_of_row (run name h size boundary os).link.row ≡ reach (ledger (run name h size boundary os).lines).starts (ledger (run name h size boundary os).lines).dealt - length (ledger (run name h size boundary os).lines).dealt
run_lacks name h size boundary os = sound_lacks name (run name h size boundary os) (run_sound name h size boundary os)

-- notices
--
-- what holds of a ledger that has heard these bytes, also where it ends then, holds of that of the run
read_told : (name : ℕ → Owner) (P : Ledger → Type 0) (l : Ledger) (r : Run) (piece : List ℕ) → IsLive name l r → P (has_heard l piece) → ((turn : ℕ) → P (ended (has_heard l piece) turn)) → P (ledger (has_read r piece).lines)
read_told name P l r piece h whole over =
    let e = read_ending name l r piece h in
    let a = after_read r piece in
    subst (λ (x : Run). P (ledger x.lines)) (sym (read_run name l r piece h))
    (chosen (λ (x : Run). P (ledger x.lines)) (a.link.broken || (read_by r piece).strange) (ends_by a fault.Parse) a
    (λ t. subst P (sym (noted_append blank_ledger a.lines (ends a.turn ∷ []) ∙ ap (λ (x : Ledger). ended x a.turn) e.told.told)) (over a.turn))
    (λ f. subst P (sym e.told.told) whole))

-- what a run that goes on tells with bytes
live_notices : (name : ℕ → Owner) (l : Ledger) (r : Run) (piece : List ℕ) → r.over ≡ false → IsLive name l r → NoticesAreHeard name r piece
live_notices name l r piece goes_on h =
    let sound : r.link.broken ≡ false = h.tied.broken ∙ ap is_spoiled (sym h.tied.rest) ∙ h.lives.unspoiled in
    let d = read_by r piece in
    let x = piece_read r.hearing true r.link piece in
    let is : x ≡ read_with (read_on r.link (r.link.rest ++ piece)) d = reads_on r.hearing true r.link piece sound in
    let t = read_taken name r.hearing true l r.link piece h.lives.lives (reads_so name l r piece h) h.tied in
    let run_is : performed name r (read piece) ≡ has_read r piece = left_if r.over r (has_read r piece) goes_on in
    let Tells : Ledger → Type 0 = λ m. (m.notices ≡ (ledger r.lines).notices ++ t.heard) × AreApart name m x.notices t.heard 0 x.out × (m.strange ≡ x.strange) in
    let tells : (m : Ledger) → m.starts ≡ (has_heard l piece).starts → m.dealt ≡ (has_heard l piece).dealt → m.notices ≡ (has_heard l piece).notices → m.strange ≡ (has_heard l piece).strange → Tells m =
    (λ m starts dealt_so notices strange. (
      notices ∙ t.notices ∙ ap (λ (k : Ledger). k.notices ++ t.heard) (sym h.told.told),
      subst (λ (y : Reading). AreApart name m y.notices t.heard 0 y.out) (sym is) (stand_apart name l.notices (has_heard l piece) m d starts dealt_so t),
      strange ∙ t.strange ∙ ap (λ (y : Reading). y.strange) (sym is),
    )) in
    let both = subst (λ (y : Run). Tells (ledger y.lines)) (sym run_is)
    (read_told name Tells l r piece h (tells (has_heard l piece) refl refl refl refl) (λ turn. tells (ended (has_heard l piece) turn) refl refl refl refl)) in
    record { heard = t.heard; notices = both.0; same = subst (λ (y : Reading). SayTheSame y.notices t.heard) (sym is) t.same; apart = both.1; strange = both.2 }

-- and one that has not ended
sound_notices : (name : ℕ → Owner) (r : Run) (piece : List ℕ) → Sound name r → r.over ≡ false → NoticesAreHeard name r piece
sound_notices name r piece (inl h) g = live_notices name h.1.0 r piece g h.1.1
sound_notices name r piece (inr h) g = absurd (not_both r.over g h.0)

-- what a run tells is heard where it came
pub run_notices : (name : ℕ → Owner) (h : Hearing) (size boundary : ℕ) (os : List Operation) (piece : List ℕ) → (run name h size boundary os).over ≡ false → NoticesAreHeard name (run name h size boundary os) piece
run_notices name h size boundary os piece g = sound_notices name (run name h size boundary os) piece (run_sound name h size boundary os) g
