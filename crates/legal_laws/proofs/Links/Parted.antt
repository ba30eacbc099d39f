-- That a link has ended is told once, where a fault ended it once it was set up: behind its close, and before what it gives.
use Rattle.std.proofs.Common.{◌≡◌, ◌≢◌, ◌⊎◌, inl, inr, ℕ, ◌-◌, ◌<◌, ◌==◌, Bool, true, false, ◌&&◌, not, List, [], ◌∷◌, ◌++◌, take, Option, Some, None, is_some, if◌then◌else◌, refl, sym, ◌∙◌, ap, subst, arith}
use Rattle.std.proofs.lemmas.List.{append-nil}
use Rattle.containers.proofs.Choices.{by_test, chosen, if_true, left_if, eq_from, eq_test, not_both}
use Rattle.redis_error.specs.declared.redis_error.RedisError.{RedisError}
use Rattle.redis_error.specs.declared.redis_error.RedisError.TheVariants as error
use Rattle.driver_model.specs.declared.action.Action.{Action}
use Rattle.driver_model.specs.declared.action.Action.TheVariants as action
use Rattle.driver_model.specs.declared.action.Cause.TheVariants as cause
use Rattle.driver_model.specs.declared.action.Owner.TheVariants as owner
use Rattle.driver_model.specs.declared.config.Config.{Config}
use Rattle.driver_model.specs.declared.event.Event.{Event}
use Rattle.driver_model.specs.declared.outcome.Outcome.{Outcome}
use Rattle.driver_model.specs.declared.push_info.PushInfo.{PushInfo}
use Rattle.driver_model.specs.declared.news.LinkFault.TheVariants as fault
use Rattle.driver_model.specs.News.{News, silence, connected, refused, overdue, took, came, failed, dropped, shut, news_of, authorized, denied, deserted, renewed, unrenewed, late, unrepeated}
use Rattle.driver_model.specs.Push.{is_disconnection}
use Rattle.legal_trace.specs.Ledger.{Ledger, Line, End, Ending, by_opening, asks, hears, begins, offers, tells, ends, parts, noted, noted_each, with_news, refused_in, bytes_came, is_over, is_fault, is_cut, is_set_up, setup_result, error_in, dials, ending, ending_alive, ending_by, ending_unready, ending_asked, ending_or_shutdown, sources, lacks_credentials, awaits_credentials, authorized_by, times, may_renew, renewed_by, unrenewed_by, is_renewal_open, lost_by, is_unreadable, opening_error, is_repeating, unrepeated_by, repeats_timed}
use Rattle.legal_trace.specs.Managers.{settings_in, is_last}
use Rattle.legal_trace.specs.Book.{Book, blank_book, book, entered, entered_each, push_line, info_in, message_of, lines_of_each, wanted_in, hearing_in}
use Rattle.legal_trace.specs.Legal.{MayStand, MayAnswer, MayTell, MayPart, AllStand, are_pushes_heard, Legal}
use Rattle.legal_trace.specs.Again.{repeats_in}
use Rattle.legal_trace.proofs.Clocks.{timer_tells}
use Rattle.legal_trace.proofs.Books.{stand_front, stand_behind}
use Rattle.legal_trace.proofs.Renewals.{renewal_is_up}
use Rattle.legal_trace.proofs.Sources.{awaits_up}
use Rattle.legal_trace.proofs.Endings.{lasting_is_fault}
use Rattle.legal_laws.proofs.Links.Ended.{end_kept}
use Rattle.legal_trace.proofs.Ledgers.{each_keeps, mine_keeps, UpIsNotOver}
use Rattle.legal_trace.proofs.Moves.{mover_is_up, starter_moves, teller_moves}
use Rattle.legal_trace.proofs.Plain.{not_none}
use Rattle.legal_trace.proofs.Setups.{due_is_up}
use Rattle.legal_trace.proofs.Came.{holds_bytes}
use Rattle.legal_laws.specs.Pushes.{Disconnects, IsClosed, TellsEnds}
use Rattle.legal_laws.proofs.Links.Bounds.{ready_behind, applied_began}
use Rattle.legal_laws.proofs.Traces.Configured.{config_kept}
use Rattle.legal_laws.proofs.Links.Lines.{told_behind}
use Rattle.legal_laws.proofs.Traces.Numbers.{open_is_numbered}
use Rattle.legal_laws.proofs.Notices.Pushed.{push_keeps, tell_keeps}
use Rattle.legal_laws.proofs.Notices.Notices.{parting_of}
use Rattle.legal_laws.proofs.Traces.Sound.{Sound, stays_sound, blank_is_sound, sound_behind}
use Rattle.driver_model.specs.Hearing.{hears_messages, hears_pushes}
use Rattle.legal_trace.proofs.Watching.{watch_is_up}
use Rattle.legal_trace.proofs.Again.{again_is_up}

-- what a test says of books, which it didn't at first, it says by one of the actions
pub record Comes (test : Book → Bool) (b : Book) (trace : List Action) : Type 0 where
  pub before : List Action
  pub told : Action
  pub after : List Action
  pub splits : trace ≡ before ++ told ∷ after
  pub was : test (entered_each b before) ≡ false
  pub is : test (entered (entered_each b before) told) ≡ true

comes : (test : Book → Bool) (b : Book) (trace : List Action) → test b ≡ false → test (entered_each b trace) ≡ true → Comes test b trace
comes test b [] not_yet then_is = absurd (not_both (test b) not_yet then_is)
comes test b (a ∷ more) not_yet then_is = by_test (test (entered b a)) (Comes test b (a ∷ more))
    (λ t. record { before = []; told = a; after = more; splits = refl; was = not_yet; is = t })
    (λ f.
    let c = comes test (entered b a) more f then_is in
    record { before = a ∷ c.before; told = c.told; after = c.after; splits = ap (λ (t : List Action). a ∷ t) c.splits; was = c.was; is = c.is })

-- news tell no end
hears_parted : (l : Ledger) (turn : ℕ) (news : News) → (with_news l turn news).parted ≡ l.parted
hears_parted l turn silence = refl
hears_parted l turn connected = chosen (λ (x : Ledger). x.parted ≡ l.parted) (is_over l) l (record l { up = true }) (λ t. refl) (λ e. refl)
hears_parted l turn (refused f) = chosen (λ (x : Ledger). x.parted ≡ l.parted) (dials l) (refused_in l turn (error.Io f)) l (λ t. refl) (λ e. refl)
hears_parted l turn overdue = refl
hears_parted l turn (took count) = chosen (λ (x : Ledger). x.parted ≡ l.parted) l.up (record l { taken = l.taken ++ take count l.offer; offer = [] }) l (λ t. refl) (λ e. refl)
hears_parted l turn (came piece) = chosen (λ (x : Ledger). x.parted ≡ l.parted) l.up (bytes_came l piece) l (λ t. holds_bytes (λ (x : Ledger). x.parted ≡ l.parted) l piece (λ rest strange told more. refl)) (λ e. refl)
hears_parted l turn (failed f) = refl
hears_parted l turn (authorized c) = chosen (λ (x : Ledger). x.parted ≡ l.parted) (awaits_credentials l) (authorized_by l c) l (λ t. refl) (λ e. refl)
hears_parted l turn (denied text) = refl
hears_parted l turn deserted = refl
hears_parted l turn (renewed c) = chosen (λ (x : Ledger). x.parted ≡ l.parted) (may_renew l) (renewed_by l c) l (λ t. refl) (λ e. refl)
hears_parted l turn unrenewed = chosen (λ (x : Ledger). x.parted ≡ l.parted) l.up (unrenewed_by l) l (λ t. refl) (λ e. refl)
hears_parted l turn (late k) = chosen (λ (x : Ledger). x.parted ≡ l.parted) (l.up && is_renewal_open l k) (lost_by l) l (λ t. refl) (λ e. refl)
hears_parted l turn unrepeated = chosen (λ (x : Ledger). x.parted ≡ l.parted) (is_repeating l) (unrepeated_by l) l (λ t. refl) (λ e. refl)
hears_parted l turn dropped = refl
hears_parted l turn shut = refl

-- the end of that link was told
abbrev WasParted : Ledger → Type 0
WasParted l = l.parted ≡ true

-- so it stays
parted_keeps : (l : Ledger) (x : Line) → WasParted l → WasParted (noted l x)
parted_keeps l (asks info wanted hearing last again) h = h
parted_keeps l (hears turn news) h = hears_parted l turn news ∙ h
parted_keeps l (begins s) h = h
parted_keeps l (offers bytes) h = h
parted_keeps l tells h = h
parted_keeps l (ends turn) h = h
parted_keeps l sources h = h
parted_keeps l times h = h
parted_keeps l repeats_timed h = h
parted_keeps l parts h = refl

-- behind many actions
parted_stays : (b : Book) (l : ℕ) (trace : List Action) → WasParted (b.link l) → WasParted ((entered_each b trace).link l)
parted_stays b l trace h = subst WasParted (sym (told_behind b l trace)) (each_keeps WasParted parted_keeps (b.link l) (lines_of_each b l trace) h)

-- a push that tells it
parted_after : (b : Book) (l : ℕ) (a : Action) → Disconnects l a → WasParted ((entered b a).link l)
parted_after b l (action.Push m info) is =
    if_true (λ (lines : List Line). WasParted (noted_each (b.link l) lines)) (m == l) (push_line info.kind ∷ []) [] (eq_test m l is.0)
    (if_true (λ (x : Line). WasParted (noted (b.link l) x)) (is_disconnection info.kind) parts tells is.1 refl)
parted_after b l _ is = absurd is

-- it is told by a push alone
parted_by : (b : Book) (l : ℕ) (a : Action) → (b.link l).parted ≡ false → WasParted ((entered b a).link l) → Disconnects l a
parted_by b l (action.Push m info) not_yet then_is =
    mine_keeps (λ (x : Ledger). WasParted x → Disconnects l (action.Push m info)) (m == l) (b.link l) (push_line info.kind)
    (λ t. chosen (λ x. WasParted (noted (b.link l) x) → Disconnects l (action.Push m info)) (is_disconnection info.kind) parts tells (λ d e. (eq_from m l t, d)) (λ n e. absurd (not_both (b.link l).parted not_yet e)))
    (λ e. absurd (not_both (b.link l).parted not_yet e)) then_is
parted_by b l (action.Turn k (cause.Opening config word)) not_yet then_is = absurd (not_both (b.link l).parted not_yet then_is)
parted_by b l (action.Turn k (cause.Event e)) not_yet then_is = absurd (not_both (b.link l).parted not_yet (sym (hears_parted (b.link l) k (news_of b.timers b.sources l e.kind)) ∙ then_is))
parted_by b l (action.Connect m host port) not_yet then_is = absurd (not_both (b.link l).parted not_yet (mine_keeps (λ (x : Ledger). WasParted x → WasParted (b.link l)) (m == l) (b.link l) (asks (info_in b.config) (wanted_in b.config) (hearing_in b.config) (is_last (settings_in b.config) b.attempt) (repeats_in (settings_in b.config) b.tracked)) (λ t e. e) (λ e. e) then_is))
parted_by b l (action.Timer t ms what) not_yet then_is = absurd (not_both (b.link l).parted not_yet (timer_tells (λ (x : Ledger). WasParted x → WasParted (b.link l)) (b.link l) l what (λ on k is t e. e) (λ on is t e. e) (λ e. e) then_is))
parted_by b l (action.Took who m count) not_yet then_is = absurd (not_both (b.link l).parted not_yet then_is)
parted_by b l (action.NeedCreds c m) not_yet then_is = absurd (not_both (b.link l).parted not_yet (mine_keeps (λ (x : Ledger). WasParted x → WasParted (b.link l)) (m == l) (b.link l) sources (λ t e. e) (λ e. e) then_is))
parted_by b l (action.Generation g) not_yet then_is = absurd (not_both (b.link l).parted not_yet then_is)
parted_by b l (action.Round who m) not_yet then_is = absurd (not_both (b.link l).parted not_yet then_is)
parted_by b l (action.Close m) not_yet then_is = absurd (not_both (b.link l).parted not_yet (mine_keeps (λ (x : Ledger). WasParted x → WasParted (b.link l)) (m == l) (b.link l) (ends (b.turns - 1)) (λ t e. e) (λ e. e) then_is))
parted_by b l (action.Write m bytes) not_yet then_is = absurd (not_both (b.link l).parted not_yet (mine_keeps (λ (x : Ledger). WasParted x → WasParted (b.link l)) (m == l) (b.link l) (offers bytes) (λ t e. e) (λ e. e) then_is))
parted_by b l (action.Wait who kind) not_yet then_is = absurd (not_both (b.link l).parted not_yet then_is)
parted_by b l (action.Start m k who count len) not_yet then_is = absurd (not_both (b.link l).parted not_yet (mine_keeps (λ (x : Ledger). WasParted x → WasParted (b.link l)) (m == l) (b.link l) (begins (message_of b m who)) (λ t e. e) (λ e. e) then_is))
parted_by b l (action.Message msg) not_yet then_is = absurd (not_both (b.link l).parted not_yet (tell_keeps (λ (x : Ledger). WasParted x → WasParted (b.link l)) (b.current == l) (b.link l) (λ e. e) (λ e. e) then_is))
parted_by b l (action.Monitor v) not_yet then_is = absurd (not_both (b.link l).parted not_yet (tell_keeps (λ (x : Ledger). WasParted x → WasParted (b.link l)) (b.current == l) (b.link l) (λ e. e) (λ e. e) then_is))
parted_by b l (action.Created e) not_yet then_is = absurd (not_both (b.link l).parted not_yet then_is)
parted_by b l (action.Outcome n o) not_yet then_is = absurd (not_both (b.link l).parted not_yet then_is)

-- a fault ended that link, once it was set up
abbrev IsCut : Ledger → Type 0
IsCut l = is_cut l.end ≡ true

-- not by news
hears_cut : (l : Ledger) (turn : ℕ) (news : News) → IsCut (with_news l turn news) → IsCut l
hears_cut l turn silence = λ e. e
hears_cut l turn connected = chosen (λ (x : Ledger). IsCut x → IsCut l) (is_over l) l (record l { up = true }) (λ t e. e) (λ f e. e)
hears_cut l turn (refused f) = chosen (λ (x : Ledger). IsCut x → IsCut l) (dials l) (refused_in l turn (error.Io f)) l (λ t e. absurd (let x : false ≡ true = sym (lasting_is_fault l.last (by_opening (error.Io f))) ∙ e in cc x)) (λ n e. e)
hears_cut l turn overdue = λ e. e
hears_cut l turn (took count) = chosen (λ (x : Ledger). IsCut x → IsCut l) l.up (record l { taken = l.taken ++ take count l.offer; offer = [] }) l (λ t e. e) (λ f e. e)
hears_cut l turn (came piece) = chosen (λ (x : Ledger). IsCut x → IsCut l) l.up (bytes_came l piece) l (λ t. holds_bytes (λ (x : Ledger). IsCut x → IsCut l) l piece (λ rest strange told more e. e)) (λ f e. e)
hears_cut l turn (failed f) = λ e. e
hears_cut l turn (authorized c) = chosen (λ (x : Ledger). IsCut x → IsCut l) (awaits_credentials l) (authorized_by l c) l (λ t e. e) (λ f e. e)
hears_cut l turn (denied text) = λ e. e
hears_cut l turn deserted = λ e. e
hears_cut l turn (renewed c) = chosen (λ (x : Ledger). IsCut x → IsCut l) (may_renew l) (renewed_by l c) l (λ t e. e) (λ f e. e)
hears_cut l turn unrenewed = chosen (λ (x : Ledger). IsCut x → IsCut l) l.up (unrenewed_by l) l (λ t e. e) (λ f e. e)
hears_cut l turn (late k) = chosen (λ (x : Ledger). IsCut x → IsCut l) (l.up && is_renewal_open l k) (lost_by l) l (λ t e. e) (λ f e. e)
hears_cut l turn unrepeated = chosen (λ (x : Ledger). IsCut x → IsCut l) (is_repeating l) (unrepeated_by l) l (λ t e. e) (λ f e. e)
hears_cut l turn dropped = λ e. e
hears_cut l turn shut = λ e. e

-- it is closed then
cut_by : (b : Book) (l : ℕ) (a : Action) → is_cut (b.link l).end ≡ false → IsCut ((entered b a).link l) → a ≡ action.Close l
cut_by b l (action.NeedCreds c m) not_yet then_is = absurd (not_both (is_cut (b.link l).end) not_yet (mine_keeps (λ (x : Ledger). IsCut x → IsCut (b.link l)) (m == l) (b.link l) sources (λ t e. e) (λ e. e) then_is))
cut_by b l (action.Generation g) not_yet then_is = absurd (not_both (is_cut (b.link l).end) not_yet then_is)
cut_by b l (action.Round who m) not_yet then_is = absurd (not_both (is_cut (b.link l).end) not_yet then_is)
cut_by b l (action.Close m) not_yet then_is =
    mine_keeps (λ (x : Ledger). IsCut x → action.Close m ≡ action.Close l) (m == l) (b.link l) (ends (b.turns - 1))
    (λ t e. ap action.Close (eq_from m l t)) (λ e. absurd (not_both (is_cut (b.link l).end) not_yet e)) then_is
cut_by b l (action.Push m info) not_yet then_is = absurd (not_both (is_cut (b.link l).end) not_yet (push_keeps (λ (x : Ledger). IsCut x → IsCut (b.link l)) (m == l) info.kind (b.link l) (λ e. e) (λ e. e) (λ e. e) then_is))
cut_by b l (action.Message msg) not_yet then_is = absurd (not_both (is_cut (b.link l).end) not_yet (tell_keeps (λ (x : Ledger). IsCut x → IsCut (b.link l)) (b.current == l) (b.link l) (λ e. e) (λ e. e) then_is))
cut_by b l (action.Monitor v) not_yet then_is = absurd (not_both (is_cut (b.link l).end) not_yet (tell_keeps (λ (x : Ledger). IsCut x → IsCut (b.link l)) (b.current == l) (b.link l) (λ e. e) (λ e. e) then_is))
cut_by b l (action.Turn k (cause.Opening config word)) not_yet then_is = absurd (not_both (is_cut (b.link l).end) not_yet then_is)
cut_by b l (action.Turn k (cause.Event e)) not_yet then_is = absurd (not_both (is_cut (b.link l).end) not_yet (hears_cut (b.link l) k (news_of b.timers b.sources l e.kind) then_is))
cut_by b l (action.Connect m host port) not_yet then_is = absurd (not_both (is_cut (b.link l).end) not_yet (mine_keeps (λ (x : Ledger). IsCut x → IsCut (b.link l)) (m == l) (b.link l) (asks (info_in b.config) (wanted_in b.config) (hearing_in b.config) (is_last (settings_in b.config) b.attempt) (repeats_in (settings_in b.config) b.tracked)) (λ t e. e) (λ e. e) then_is))
cut_by b l (action.Timer t ms what) not_yet then_is = absurd (not_both (is_cut (b.link l).end) not_yet (timer_tells (λ (x : Ledger). IsCut x → IsCut (b.link l)) (b.link l) l what (λ on k is t e. e) (λ on is t e. e) (λ e. e) then_is))
cut_by b l (action.Took who m count) not_yet then_is = absurd (not_both (is_cut (b.link l).end) not_yet then_is)
cut_by b l (action.Write m bytes) not_yet then_is = absurd (not_both (is_cut (b.link l).end) not_yet (mine_keeps (λ (x : Ledger). IsCut x → IsCut (b.link l)) (m == l) (b.link l) (offers bytes) (λ t e. e) (λ e. e) then_is))
cut_by b l (action.Wait who kind) not_yet then_is = absurd (not_both (is_cut (b.link l).end) not_yet then_is)
cut_by b l (action.Start m k who count len) not_yet then_is = absurd (not_both (is_cut (b.link l).end) not_yet (mine_keeps (λ (x : Ledger). IsCut x → IsCut (b.link l)) (m == l) (b.link l) (begins (message_of b m who)) (λ t e. e) (λ e. e) then_is))
cut_by b l (action.Created e) not_yet then_is = absurd (not_both (is_cut (b.link l).end) not_yet then_is)
cut_by b l (action.Outcome n o) not_yet then_is = absurd (not_both (is_cut (b.link l).end) not_yet then_is)

-- so the front in which a fault ended it has its close
closed_by : (front : List Action) (l : ℕ) → IsCut ((book front).link l) → IsClosed front l
unfolding book
closed_by front l then_is =
    let c = comes (λ (b : Book). is_cut (b.link l).end) blank_book front refl then_is in
    record { before = c.before; after = c.after; splits = c.splits ∙ ap (λ a. c.before ++ a ∷ c.after) (cut_by (entered_each blank_book c.before) l c.told c.was c.is) }

-- no fault of a link
abbrev NoFault : Option Ending → Type 0
NoFault o = is_fault (ending_or_shutdown o) ≡ false

-- what ends a link that isn't set up is none
unready_faults_not : (l : Ledger) (news : News) → NoFault (ending_unready l news)
unready_faults_not l silence = refl
unready_faults_not l connected = refl
unready_faults_not l (refused f) = refl
unready_faults_not l overdue = refl
unready_faults_not l (took count) = refl
unready_faults_not l (came piece) = chosen NoFault (is_unreadable l) (Some (by_opening (opening_error l fault.Parse))) None (λ t. refl) (λ f. refl)
unready_faults_not l (failed f) = refl
unready_faults_not l (authorized c) = refl
unready_faults_not l (denied text) = chosen NoFault (lacks_credentials l) (Some (by_opening (error.Credentials text))) None (λ t. refl) (λ f. refl)
unready_faults_not l deserted = chosen NoFault (lacks_credentials l) (Some (by_opening (error.AuthFailed []))) None (λ t. refl) (λ f. refl)
unready_faults_not l (renewed c) = refl
unready_faults_not l unrenewed = refl
unready_faults_not l (late k) = refl
unready_faults_not l unrepeated = refl
unready_faults_not l dropped = chosen NoFault (hears_messages l.hearing) (Some (by_opening error.Closed)) None (λ t. refl) (λ f. refl)
unready_faults_not l shut = refl

-- nor is what ends one whose connect isn't answered
asked_faults_not : (l : Ledger) (news : News) → NoFault (ending_asked l news)
asked_faults_not l silence = refl
asked_faults_not l connected = refl
asked_faults_not l (refused f) = refl
asked_faults_not l overdue = refl
asked_faults_not l (took count) = refl
asked_faults_not l (came piece) = refl
asked_faults_not l (failed f) = refl
asked_faults_not l (authorized c) = refl
asked_faults_not l (denied text) = refl
asked_faults_not l deserted = refl
asked_faults_not l (renewed c) = refl
asked_faults_not l unrenewed = refl
asked_faults_not l (late k) = refl
asked_faults_not l unrepeated = refl
asked_faults_not l dropped = chosen NoFault (hears_messages l.hearing) (Some (by_opening error.Closed)) None (λ t. refl) (λ f. refl)
asked_faults_not l shut = refl

-- nor is a setup that failed
by_faults_not : (failure : Option RedisError) (other : Option Ending) → NoFault other → NoFault (ending_by failure other)
by_faults_not None other h = h
by_faults_not (Some e) other h = refl

-- so a fault ends a link that is set up
fault_is_set : (l : Ledger) → is_fault (ending_or_shutdown (ending l)) ≡ true → is_set_up l ≡ true
fault_is_set l faults = by_test (is_set_up l) (is_set_up l ≡ true) (λ t. t)
    (λ f. absurd (not_both (is_fault (ending_or_shutdown (ending l)))
    (chosen NoFault l.up (ending_alive l) (if l.asked && not (is_over l) then ending_asked l l.heard else None)
    (λ u. subst NoFault (sym (left_if (is_set_up l) _ (ending_by (error_in (setup_result l)) (ending_unready l l.heard)) f)) (by_faults_not (error_in (setup_result l)) (ending_unready l l.heard) (unready_faults_not l l.heard)))
    (λ d. chosen NoFault (l.asked && not (is_over l)) (ending_asked l l.heard) None (λ t. asked_faults_not l l.heard) (λ n. refl))) faults))

-- a link that a fault ended was set up
abbrev CutIsSet : Ledger → Type 0
CutIsSet l = IsCut l → is_set_up l ≡ true

-- one that has not ended isn't cut
lives_uncut : (l : Ledger) → l.end ≡ None → IsCut l → ⊥
lives_uncut l none cut = let x : false ≡ true = sym (ap is_cut none) ∙ cut in cc x

-- so with news
hears_set : (l : Ledger) (turn : ℕ) (news : News) → UpIsNotOver l → CutIsSet l → CutIsSet (with_news l turn news)
hears_set l turn silence up h = h
hears_set l turn connected up h = chosen CutIsSet (is_over l) l (record l { up = true }) (λ t. h) (λ e. h)
hears_set l turn (refused f) up h = chosen CutIsSet (dials l) (refused_in l turn (error.Io f)) l (λ t e. absurd (let x : false ≡ true = sym (lasting_is_fault l.last (by_opening (error.Io f))) ∙ e in cc x)) (λ n. h)
hears_set l turn overdue up h = h
hears_set l turn (took count) up h = chosen CutIsSet l.up (record l { taken = l.taken ++ take count l.offer; offer = [] }) l (λ t. h) (λ e. h)
hears_set l turn (came piece) up h = chosen CutIsSet l.up (bytes_came l piece) l (λ t. holds_bytes CutIsSet l piece (λ rest strange told more cut. absurd (lives_uncut l (up t) cut))) (λ e. h)
hears_set l turn (failed f) up h = h
hears_set l turn (authorized c) up h = chosen CutIsSet (awaits_credentials l) (authorized_by l c) l (λ t cut. absurd (lives_uncut l (up (awaits_up l t)) cut)) (λ e. h)
hears_set l turn (denied text) up h = h
hears_set l turn deserted up h = h
hears_set l turn (renewed c) up h = chosen CutIsSet (may_renew l) (renewed_by l c) l (λ t. h) (λ e. h)
hears_set l turn unrenewed up h = chosen CutIsSet l.up (unrenewed_by l) l (λ t. h) (λ e. h)
hears_set l turn (late k) up h = chosen CutIsSet (l.up && is_renewal_open l k) (lost_by l) l (λ t. h) (λ e. h)
hears_set l turn unrepeated up h = chosen CutIsSet (is_repeating l) (unrepeated_by l) l (λ t. h) (λ e. h)
hears_set l turn dropped up h = h
hears_set l turn shut up h = h

-- and with each action that may stand
set_kept : (b : Book) (l : ℕ) (a : Action) → MayStand b a → Sound b → CutIsSet (b.link l) → CutIsSet ((entered b a).link l)
set_kept b l (action.Turn k (cause.Opening config word)) may s h = h
set_kept b l (action.Turn k (cause.Event e)) may s h = hears_set (b.link l) k (news_of b.timers b.sources l e.kind) (s.up l) h
set_kept b l (action.Connect m host port) may s h = mine_keeps CutIsSet (m == l) (b.link l) (asks (info_in b.config) (wanted_in b.config) (hearing_in b.config) (is_last (settings_in b.config) b.attempt) (repeats_in (settings_in b.config) b.tracked))
    (λ t cut. let e : m ≡ l = eq_from m l t in let next : m ≡ b.links = may.next in absurd (lives_uncut (b.link l) (s.links.unasked l (omega (arith, e, next))).2 cut)) h
set_kept b l (action.Timer t ms what) may s h = timer_tells CutIsSet (b.link l) l what (λ on k is t. h) (λ on is t. h) h
set_kept b l (action.Took owner.Setup m count) may s h = absurd may
set_kept b l (action.Took owner.Auth m count) may s h = absurd may
set_kept b l (action.Took owner.Resub m count) may s h = absurd may
set_kept b l (action.Took owner.Monitor m count) may s h = absurd may
set_kept b l (action.Took (owner.Try n round) m count) may s h = h
set_kept b l (action.Push m info) may s h = push_keeps CutIsSet (m == l) info.kind (b.link l) h h h
set_kept b l (action.Message msg) may s h = tell_keeps CutIsSet (b.current == l) (b.link l) h h
set_kept b l (action.Monitor v) may s h = tell_keeps CutIsSet (b.current == l) (b.link l) h h
set_kept b l (action.NeedCreds c m) may s h = mine_keeps CutIsSet (m == l) (b.link l) sources (λ t. h) h
set_kept b l (action.Generation g) may s h = h
set_kept b l (action.Round who m) may s h = h
set_kept b l (action.Close m) may s h = mine_keeps CutIsSet (m == l) (b.link l) (ends (b.turns - 1)) (λ t cut. fault_is_set (b.link l) (sym (lasting_is_fault (b.link l).last (ending_or_shutdown (ending (b.link l)))) ∙ cut)) h
set_kept b l (action.Write m bytes) may s h = mine_keeps CutIsSet (m == l) (b.link l) (offers bytes) (λ t. h) h
set_kept b l (action.Wait owner.Setup kind) may s h = absurd may
set_kept b l (action.Wait owner.Auth kind) may s h = absurd may
set_kept b l (action.Wait owner.Resub kind) may s h = absurd may
set_kept b l (action.Wait owner.Monitor kind) may s h = absurd may
set_kept b l (action.Wait (owner.Try n round) kind) may s h = h
set_kept b l (action.Start m k owner.Setup count len) may s h = mine_keeps CutIsSet (m == l) (b.link l) (begins (message_of b m owner.Setup))
    (λ t cut. absurd (lives_uncut (b.link l) (s.up l (subst (λ j. (b.link j).up ≡ true) (eq_from m l t) (due_is_up (b.link m) may.k may.due))) cut)) h
set_kept b l (action.Start m k owner.Auth count len) may s h = mine_keeps CutIsSet (m == l) (b.link l) (begins (message_of b m owner.Auth))
    (λ t cut. absurd (lives_uncut (b.link l) (s.up l (subst (λ j. (b.link j).up ≡ true) (eq_from m l t) (renewal_is_up (b.link m) may.credentials may.due))) cut)) h
set_kept b l (action.Start m k owner.Resub count len) may s h = mine_keeps CutIsSet (m == l) (b.link l) (begins (message_of b m owner.Resub))
    (λ t cut. absurd (lives_uncut (b.link l) (s.up l (subst (λ j. (b.link j).up ≡ true) (eq_from m l t) (again_is_up (b.link m) may.due))) cut)) h
set_kept b l (action.Start m k owner.Monitor count len) may s h = mine_keeps CutIsSet (m == l) (b.link l) (begins (message_of b m owner.Monitor))
    (λ t cut. absurd (lives_uncut (b.link l) (s.up l (subst (λ j. (b.link j).up ≡ true) (eq_from m l t) (watch_is_up (b.link m) may.due))) cut)) h
set_kept b l (action.Start m k (owner.Try n round) count len) may s h = mine_keeps CutIsSet (m == l) (b.link l) (begins (message_of b m (owner.Try n round)))
    (λ t cut. absurd (lives_uncut (b.link l) (s.up l (subst (λ j. (b.link j).up ≡ true) (sym may.1.on_its_link ∙ eq_from m l t) (mover_is_up b n (starter_moves b m k n count len may.1)))) cut)) h
set_kept b l (action.Created e) may s h = h
set_kept b l (action.Outcome n o) may s h = h

-- and with many
each_set : (b : Book) (l : ℕ) (front : List Action) → AllStand b front → Sound b → CutIsSet (b.link l) → CutIsSet ((entered_each b front).link l)
each_set b l [] all s h = h
each_set b l (a ∷ more) all s h = each_set (entered b a) l more all.1 (stays_sound b a all.0 s) (set_kept b l a all.0 s h)

cut_is_set : (front : List Action) (l : ℕ) → AllStand blank_book front → CutIsSet ((book front).link l)
unfolding book
cut_is_set front l all = each_set blank_book l front all blank_is_sound (λ cut. absurd (cc cut))

-- how a link ended stays so
each_end_kept : (b : Book) (l : ℕ) (end : End) (trace : List Action) → AllStand b trace → Sound b → (b.link l).end ≡ Some end → ((entered_each b trace).link l).end ≡ Some end
each_end_kept b l end [] all s h = h
each_end_kept b l end (a ∷ more) all s h = each_end_kept (entered b a) l end more all.1 (stays_sound b a all.0 s) (end_kept b a l end all.0 (s.up l) h)

-- the push that tells that a link has ended
parting : (b : Book) (l : ℕ) (a : Action) → MayStand b a → Disconnects l a → (info : PushInfo) × MayPart b l info
parting b l (action.Push m info) may is = (info, subst (λ j. MayPart b j info) is.0 (parting_of b m info is.1 may))
parting b l _ may is = absurd is

-- it isn't told twice
once_behind : (b : Book) (middle more : List Action) (a c : Action) (l : ℕ) → AllStand b (a ∷ (middle ++ c ∷ more)) → Disconnects l a → Disconnects l c → ⊥
once_behind b middle more a c l all first second =
    let after : Book = entered b a in
    let p = parting (entered_each after middle) l c (stand_behind after middle (c ∷ more) all.1).0 second in
    not_both ((entered_each after middle).link l).parted p.1.once (parted_stays after l middle (parted_after b l a first))

-- whoever is answered by its end is so behind it
first_behind : (b : Book) (middle more : List Action) (a : Action) (l n : ℕ) (o : Outcome) → Sound b → AllStand b (action.Outcome n o ∷ (middle ++ a ∷ more)) → Disconnects l a → (b.story n).link ≡ l → is_over (b.link l) ≡ true → ⊥
first_behind b middle more a l n o sound all is on over = of_outcome all.0
  where
    answer : Action
    answer = action.Outcome n o

    part : (info : PushInfo) × MayPart (entered_each (entered b answer) middle) l info
    part = parting (entered_each (entered b answer) middle) l a (stand_behind (entered b answer) middle (a ∷ more) all.1).0 is

    end : (x : Option End) → is_some x ≡ true → (e : End) × (x ≡ Some e)
    end None t = absurd (cc t)
    end (Some e) t = (e, refl)

    of_outcome : MayAnswer b n o ⊎ MayTell b n o → ⊥
    of_outcome (inl owes) =
        let e = end (b.link l).end over in
        let front : AllStand b (answer ∷ middle) = stand_front b (answer ∷ middle) (a ∷ more) all in
        let stays = each_end_kept b l e.0 (answer ∷ middle) front sound e.1 in
        let cut : IsCut (b.link l) = ap is_cut e.1 ∙ (sym (ap is_cut stays) ∙ part.1.ended) in
        let numbered : n < b.submissions = open_is_numbered b n sound.stories owes.asked in
        let some : b.turns ≢ 0 = λ none. let empty : b.submissions ≡ 0 = sound.opens.none_yet (omega (arith, none)) in omega (arith, numbered, empty) in
        let heard : are_pushes_heard b ≡ true = sym (ap (λ config. hears_pushes (hearing_in config)) (config_kept b (answer ∷ middle) front some)) ∙ part.1.heard in
        let told : WasParted (b.link l) = (owes.after_closes (ap (λ j. is_over (b.link j)) on ∙ over)).3 l heard cut in
        not_both ((entered_each (entered b answer) middle).link l).parted part.1.once (parted_stays (entered b answer) l middle told)
    of_outcome (inr told) =
        let e = end (b.link l).end over in
        let up : (b.link l).up ≡ true = subst (λ j. (b.link j).up ≡ true) on (mover_is_up b n (teller_moves b n o told)) in
        not_none (b.link l).end e.0 (sound.up l up) e.1

-- so a legal trace tells the ends of links
pub tells_ends : (config : Config) (word : ℕ) (events : List Event) (trace : List Action) → Legal config word events trace → TellsEnds config trace
unfolding book
tells_ends config word events trace h = record {
  once = λ front middle more a c l is first second.
      let all : AllStand blank_book (front ++ a ∷ (middle ++ c ∷ more)) = subst (AllStand blank_book) is h.each in
      once_behind (book front) middle more a c l (stand_behind blank_book front (a ∷ (middle ++ c ∷ more)) all) first second;
  behind = λ front more a l is tells.
      let all : AllStand blank_book (front ++ a ∷ more) = subst (AllStand blank_book) is h.each in
      let before : AllStand blank_book front = stand_front blank_book front (a ∷ more) all in
      let p = parting (book front) l a (stand_behind blank_book front (a ∷ more) all).0 tells in
      record { cut = p.1.ended; set = cut_is_set front l before p.1.ended; closed = closed_by front l p.1.ended };
  first = λ front middle more a l n o is tells on over.
      let all : AllStand blank_book (front ++ action.Outcome n o ∷ (middle ++ a ∷ more)) = subst (AllStand blank_book) is h.each in
      first_behind (book front) middle more a l n o (sound_behind front (stand_front blank_book front (action.Outcome n o ∷ (middle ++ a ∷ more)) all))
      (stand_behind blank_book front (action.Outcome n o ∷ (middle ++ a ∷ more)) all) tells on over;
  each = λ hears l cut.
      let done = h.settled.written.moved.begun.applied in
      let sound : Sound (book trace) = sound_behind trace h.each in
      let ready = ready_behind config word events trace [] (subst (Legal config word events) (sym (append-nil trace)) h) in
      let heard : are_pushes_heard (book trace) ≡ true = ap (λ config. hears_pushes (hearing_in config)) (ready.configured (applied_began (book trace) sound done)) ∙ hears in
      let c = comes (λ (b : Book). (b.link l).parted) blank_book trace refl (done.shown.parted l heard cut) in
      record { before = c.before; after = c.after; told = c.told; tells = parted_by (entered_each blank_book c.before) l c.told c.was c.is; splits = c.splits };
}
