-- What a second replay keeps, which looks for the bad event.
use Rattle.std.proofs.Common.{◌≡◌, ◌+◌, ◌==◌, ◌&&◌, ℕ, Bool, true, false, List, [], ◌∷◌, ◌++◌, Option, Some, None, ◌∙◌, sym, ap, subst, if◌then◌else◌}
use Rattle.std.specs.Prelude.{slice_get}
use Rattle.containers.proofs.Choices.{chosen}
use Rattle.driver_model.specs.News.{News, news_of, of_timer, of_source, overdue, silence, authorized, denied, deserted, renewed, unrenewed, late, unrepeated, came}
use Rattle.resp_value.specs.declared.push_kind.PushKind.{PushKind}
use Rattle.resp_value.specs.declared.value.Value.{Value}
use Rattle.driver_model.specs.declared.push_info.PushInfo.{PushInfo}
use Rattle.driver_model.specs.declared.msg.Msg.{Msg}
use Rattle.driver_model.specs.Push.{is_disconnection}
use Rattle.driver_model.specs.declared.action.Action.{Action}
use Rattle.driver_model.specs.declared.action.Action.TheVariants as action
use Rattle.driver_model.specs.declared.action.Purpose.{Purpose}
use Rattle.driver_model.specs.declared.action.Purpose.TheVariants as purpose
use Rattle.driver_model.specs.declared.action.SourceUse.{SourceUse}
use Rattle.driver_model.specs.declared.action.SourceUse.TheVariants as source
use Rattle.driver_model.specs.declared.event.EventKind.{EventKind}
use Rattle.driver_model.specs.declared.event.EventKind.TheVariants as event
use Rattle.connection_info.specs.declared.address.RedisConnectionInfo.{RedisConnectionInfo}
use Rattle.legal_trace.specs.Ledger.{Ledger, Sourced, Line, tells, parts, sources, noted, noted_each, bytes_came, with_news, awaits_credentials, may_renew, is_renewal_open, is_repeating, unrepeated_by}
use Rattle.driver_model.specs.declared.config.Config.{Config}
use Rattle.driver_model.specs.declared.event.Event.{Event}
use Rattle.legal_trace.specs.Book.{Book, book, entered, entered_each, if_mine, push_line}
use Rattle.legal_trace.proofs.Came.{holds_bytes}
use Rattle.legal_trace.proofs.Clocks.{timer_tells}
use Rattle.legal_trace.proofs.Ledgers.{mine_keeps}
use Rattle.legal_trace.proofs.Books.{book_append}
use Rattle.shared_session.specs.declared.session.Failure.TheVariants.{Sound}
use Rattle.shared_session.specs.History.{History}
use Rattle.single_session.specs.Replay.{opening_actions, state_after, trace_of, is_bad_after, is_spent_after, IsSound}
use Rattle.single_session.specs.Turn.{actions_of}
use Rattle.single_session.proofs.Replays.{trace_of-none, trace_of-more}
use Rattle.shared_session.proofs.Replays.{Kept, kept_none}
use Rattle.session_program.specs.declared.offer.Offer.{Offer}
use Rattle.session_program.specs.Offers.{IsOfferIn, IsOfferOf}
use Rattle.session_program.proofs.Traces.{kept_next}

-- what comes changes nothing of an offer
came_in : (o : Offer) (l : Ledger) (turn : ℕ) (piece : List ℕ) → IsOfferIn o l → IsOfferIn o (with_news l turn (came piece))
came_in o l turn piece h =
    chosen (IsOfferIn o) l.up (bytes_came l piece) l
    (λ t. holds_bytes (IsOfferIn o) l piece (λ rest strange told more. record { asked = h.asked; up = h.up; over = h.over; count = h.count })) (λ f. h)

pub came_offer : (o : Offer) (l : Ledger) (turn : ℕ) (news : News) (piece : List ℕ) → news ≡ came piece → IsOfferIn o l → IsOfferIn o (with_news l turn news)
came_offer o l turn news piece is h = subst (λ (n : News). IsOfferIn o (with_news l turn n)) (sym is) (came_in o l turn piece h)

-- nor does that what was subscribed isn't subscribed again in time
again_in : (o : Offer) (l : Ledger) (turn : ℕ) → IsOfferIn o l → IsOfferIn o (with_news l turn unrepeated)
again_in o l turn h = chosen (IsOfferIn o) (is_repeating l) (unrepeated_by l) l (λ t. record { asked = h.asked; up = h.up; over = h.over; count = h.count }) (λ f. h)

pub again_offer : (o : Offer) (l : Ledger) (turn : ℕ) (news : News) → news ≡ unrepeated → IsOfferIn o l → IsOfferIn o (with_news l turn news)
again_offer o l turn news is h = subst (λ (n : News). IsOfferIn o (with_news l turn n)) (sym is) (again_in o l turn h)

-- nor does what concerns credentials alone
creds_in : (o : Offer) (l : Ledger) (info : RedisConnectionInfo) (s : Sourced) → IsOfferIn o l → IsOfferIn o (record l { info = info; creds = s })
creds_in o l info s h = record { asked = h.asked; up = h.up; over = h.over; count = h.count }

either_in : (o : Offer) (l : Ledger) (some : Bool) (info : RedisConnectionInfo) (s : Sourced) → IsOfferIn o l → IsOfferIn o (if some then record l { info = info; creds = s } else l)
either_in o l some info s h = chosen (IsOfferIn o) some (record l { info = info; creds = s }) l (λ t. creds_in o l info s h) (λ f. h)

-- nor does that a timer fires
timer_in : (o : Offer) (l : Ledger) (turn : ℕ) (asked : Option Purpose) → IsOfferIn o l → IsOfferIn o (with_news l turn (of_timer 0 asked))
timer_in o l turn None h = h
timer_in o l turn (Some (purpose.Connect k)) h = chosen (λ news. IsOfferIn o (with_news l turn news)) (k == 0) overdue silence (λ t. h) (λ f. h)
timer_in o l turn (Some (purpose.Response who)) h = h
timer_in o l turn (Some (purpose.Renewal k n)) h =
    chosen (λ news. IsOfferIn o (with_news l turn news)) (k == 0) (late n) silence (λ t. either_in o l (l.up && is_renewal_open l n) l.info (record l.creds { lost = true }) h) (λ f. h)
timer_in o l turn (Some (purpose.Backoff g)) h = h
timer_in o l turn (Some (purpose.Resubscription k)) h = chosen (λ news. IsOfferIn o (with_news l turn news)) (k == 0) unrepeated silence (λ t. again_in o l turn h) (λ f. h)

-- nor what comes of a source
source_in : (o : Offer) (l : Ledger) (turn : ℕ) (asked : Option SourceUse) (first later : News) → IsOfferIn o l → IsOfferIn o (with_news l turn first) → IsOfferIn o (with_news l turn later)
    → IsOfferIn o (with_news l turn (of_source 0 asked first later))
source_in o l turn None first later h f g = h
source_in o l turn (Some (source.Setup k)) first later h f g = chosen (λ news. IsOfferIn o (with_news l turn news)) (k == 0) first silence (λ t. f) (λ t. h)
source_in o l turn (Some (source.Renewal k)) first later h f g = chosen (λ news. IsOfferIn o (with_news l turn news)) (k == 0) later silence (λ t. g) (λ t. h)

-- so whatever timers and sources there are
pub other_news : (o : Offer) (l : Ledger) (turn : ℕ) (timers : List Purpose) (uses : List SourceUse) (kind : EventKind) → IsOfferIn o (with_news l turn (news_of [] [] 0 kind))
    → IsOfferIn o (with_news l turn (news_of timers uses 0 kind))
other_news o l turn timers uses (event.Submit what) h = h
other_news o l turn timers uses (event.Cancel n) h = h
other_news o l turn timers uses (event.Connected k) h = h
other_news o l turn timers uses (event.Refused k f) h = h
other_news o l turn timers uses (event.Wrote k count) h = h
other_news o l turn timers uses (event.Bytes k piece) h = h
other_news o l turn timers uses (event.Ended k) h = h
other_news o l turn timers uses (event.ReadFault k f) h = h
other_news o l turn timers uses (event.WriteFault k f) h = h
other_news o l turn timers uses (event.Fired t) h = timer_in o l turn (slice_get timers t) h
other_news o l turn timers uses (event.Creds c auth) h =
    source_in o l turn (slice_get uses c) (authorized auth) (renewed auth) h
    (either_in o l (awaits_credentials l) (record l.info { username = Some auth.username; password = Some auth.password }) (record l.creds { given = true }) h)
    (either_in o l (may_renew l) l.info (record l.creds { renewals = l.creds.renewals ++ auth ∷ [] }) h)
other_news o l turn timers uses (event.CredsError c text) h = source_in o l turn (slice_get uses c) (denied text) silence h h h
other_news o l turn timers uses (event.CredsEnd c) h = source_in o l turn (slice_get uses c) deserted unrenewed h h (either_in o l l.up l.info (record l.creds { over = true }) h)
other_news o l turn timers uses (event.Timeout ms) h = h
other_news o l turn timers uses event.DropStream h = h
other_news o l turn timers uses event.Shutdown h = h

push_in : (o : Offer) (l : Ledger) (mine : Bool) (kind : PushKind) → IsOfferIn o l → IsOfferIn o (noted_each l (if_mine mine (push_line kind)))
push_in o l mine kind h =
    let told : IsOfferIn o (noted l tells) = record { asked = h.asked; up = h.up; over = h.over; count = h.count } in
    let gone : IsOfferIn o (noted l parts) = record { asked = h.asked; up = h.up; over = h.over; count = h.count } in
    mine_keeps (IsOfferIn o) mine l (push_line kind) (λ t. chosen (λ (x : Line). IsOfferIn o (noted l x)) (is_disconnection kind) parts tells (λ t. gone) (λ f. told)) h

-- a push changes nothing of an offer
pub push_offer : (o : Offer) (b : Book) (x : Action) (l : ℕ) (info : PushInfo) → x ≡ action.Push l info → IsOfferOf o b → IsOfferOf o (entered b x)
push_offer o b x l info is h =
    subst (λ (a : Action). IsOfferOf o (entered b a)) (sym is) (record { links = h.links; first = push_in o (b.link 0) (l == 0) info.kind h.first })

-- nor does a line that tells of credentials alone
line_in : (o : Offer) (l : Ledger) (mine : Bool) (x : Line) → IsOfferIn o (noted l x) → IsOfferIn o l → IsOfferIn o (noted_each l (if_mine mine x))
line_in o l mine x after h = mine_keeps (IsOfferIn o) mine l x (λ t. after) h

pub timed_offer : (o : Offer) (b : Book) (x : Action) (t ms : ℕ) (what : Purpose) → x ≡ action.Timer t ms what → IsOfferOf o b → IsOfferOf o (entered b x)
timed_offer o b x t ms what is h =
    let l = b.link 0 in
    subst (λ (a : Action). IsOfferOf o (entered b a)) (sym is)
    (record {
      links = h.links;
      first = timer_tells (IsOfferIn o) l 0 what (λ on k same e. creds_in o l l.info (record l.creds { timed = l.creds.timed + 1 }) h.first)
          (λ on same e. record { asked = h.first.asked; up = h.first.up; over = h.first.over; count = h.first.count }) h.first;
    })

pub sourced_offer : (o : Offer) (b : Book) (x : Action) (c k : ℕ) → x ≡ action.NeedCreds c k → IsOfferOf o b → IsOfferOf o (entered b x)
sourced_offer o b x c k is h =
    let l = b.link 0 in
    subst (λ (a : Action). IsOfferOf o (entered b a)) (sym is)
    (record { links = h.links; first = line_in o l (k == 0) sources (creds_in o l l.info (record l.creds { asked = true; renews = l.creds.asked }) h.first) h.first })

-- nor does what is told of what was heard
told_in : (o : Offer) (b : Book) → IsOfferOf o b → IsOfferIn o (noted_each (b.link 0) (if_mine (b.current == 0) tells))
told_in o b h = line_in o (b.link 0) (b.current == 0) tells (record { asked = h.first.asked; up = h.first.up; over = h.first.over; count = h.first.count }) h.first

pub message_offer : (o : Offer) (b : Book) (x : Action) (m : Msg) → x ≡ action.Message m → IsOfferOf o b → IsOfferOf o (entered b x)
message_offer o b x m is h = subst (λ (a : Action). IsOfferOf o (entered b a)) (sym is) (record { links = h.links; first = told_in o b h })

pub monitor_offer : (o : Offer) (b : Book) (x : Action) (v : Value) → x ≡ action.Monitor v → IsOfferOf o b → IsOfferOf o (entered b x)
monitor_offer o b x v is h = subst (λ (a : Action). IsOfferOf o (entered b a)) (sym is) (record { links = h.links; first = told_in o b h })

-- the session has taken these events, and the offer is that of their trace
pub record Follows (config : Config) (word : ℕ) (taken : List Event) (s : History) (o : Offer) : Type 0 where
  pub sound : IsSound config
  pub kept : Kept config word taken [] s (trace_of config word taken)
  pub offer : IsOfferOf o (book (trace_of config word taken))

pub follows_none : (config : Config) (word : ℕ) (s : History) (o : Offer) → s ≡ record { config = config; word = word; events = []; failure = Sound }
    → IsSound config → IsOfferOf o (book (opening_actions config word)) → Follows config word [] s o
follows_none config word s o made sound offer = record {
  sound = sound;
  kept = kept_none config word [] (trace_of config word []) s made (trace_of-none config word);
  offer = subst (λ (acts : List Action). IsOfferOf o (book acts)) (sym (trace_of-none config word)) offer;
}

pub follows_more : (config : Config) (word : ℕ) (taken : List Event) (s t : History) (e : Event) (o next : Offer) → Follows config word taken s o → t ≡ record s { events = s.events ++ e ∷ [] }
    → is_bad_after s.config s.word s.events e ≡ false → is_spent_after s.config s.word s.events e ≡ false
    → ((b : Book) → IsOfferOf o b → IsOfferOf next (entered_each b (actions_of (state_after s.config s.word s.events) e))) → Follows config word (taken ++ e ∷ []) t next
follows_more config word taken s t e o next h made good unspent offers =
    let before = trace_of config word taken in
    let same = ap (λ (x : History). actions_of (state_after x.config x.word x.events) e) h.kept.made in
    let is : entered_each (book before) (actions_of (state_after s.config s.word s.events) e) ≡ book (trace_of config word (taken ++ e ∷ [])) =
    ap (λ (acts : List Action). entered_each (book before) acts) same ∙ sym (book_append before (actions_of (state_after config word taken) e)) ∙ ap book (sym (trace_of-more config word taken e)) in
    record {
      sound = h.sound;
      kept = kept_next config word taken s t e h.kept made good unspent;
      offer = subst (λ (b : Book). IsOfferOf next b) is (offers (book before) h.offer);
    }
