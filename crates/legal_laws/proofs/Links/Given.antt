-- Nothing starts on a link before the credentials for its setup have come.
use Rattle.std.proofs.Common.{◌≡◌, ◌⊎◌, inl, inr, ℕ, ◌<◌, ◌-◌, ◌==◌, Bool, true, false, ◌&&◌, not, if◌then◌else◌, List, [], ◌∷◌, ◌++◌, take, Option, Some, None, slice_get, refl, sym, ap, ◌∙◌, subst, arith}
use Rattle.std.proofs.lemmas.List.{append_assoc}
use Rattle.containers.proofs.Choices.{by_test, chosen, eq_from, not_both}
use Rattle.redis_error.specs.declared.redis_error.RedisError.TheVariants as error
use Rattle.connection_info.specs.declared.address.RedisConnectionInfo.{RedisConnectionInfo}
use Rattle.credentials.specs.Credentials.{Credentials}
use Rattle.driver_model.specs.declared.action.Action.{Action}
use Rattle.driver_model.specs.declared.action.Action.TheVariants as action
use Rattle.driver_model.specs.declared.action.Cause.TheVariants as cause
use Rattle.driver_model.specs.declared.action.Owner.TheVariants as owner
use Rattle.driver_model.specs.declared.action.Purpose.{Purpose}
use Rattle.driver_model.specs.declared.action.Purpose.TheVariants as purpose
use Rattle.driver_model.specs.declared.action.SourceUse.{SourceUse}
use Rattle.driver_model.specs.declared.action.SourceUse.TheVariants as source
use Rattle.driver_model.specs.declared.config.Config.{Config}
use Rattle.driver_model.specs.declared.event.Event.{Event}
use Rattle.driver_model.specs.declared.event.EventKind.{EventKind}
use Rattle.driver_model.specs.declared.event.EventKind.TheVariants as event
use Rattle.driver_model.specs.declared.news.LinkFault.TheVariants as fault
use Rattle.driver_model.specs.News.{News, silence, connected, refused, overdue, took, came, failed, authorized, denied, deserted, renewed, unrenewed, late, unrepeated, dropped, shut, news_of, for_link, of_timer, of_source, is_source_of, renews}
use Rattle.legal_trace.specs.Ledger.{Ledger, asks, hears, begins, offers, sources, ends, noted, with_news, refused_in, bytes_came, is_over, dials, lacks_credentials, awaits_credentials, authorized_by, may_renew, renewed_by, unrenewed_by, is_renewal_open, lost_by, is_repeating, unrepeated_by}
use Rattle.legal_trace.specs.Managers.{settings_in, is_last}
use Rattle.legal_trace.specs.Book.{Book, blank_book, book, entered, info_in, wanted_in, message_of, use_for, hearing_in}
use Rattle.legal_trace.specs.Legal.{MayStand, AllStand, Legal}
use Rattle.legal_trace.specs.Again.{repeats_in}
use Rattle.legal_trace.proofs.Clocks.{timer_tells}
use Rattle.legal_trace.proofs.Books.{Grows, book_more, of_each_front, stand_front}
use Rattle.legal_trace.proofs.Ledgers.{mine_keeps, hears_past}
use Rattle.legal_trace.proofs.Moves.{ready_is_set, ready_is_up}
use Rattle.legal_trace.proofs.Plain.{item_behind}
use Rattle.legal_trace.proofs.Renewals.{renewal_is_up}
use Rattle.legal_trace.proofs.Setups.{due_is_up, set_is_given, greeted_is_given}
use Rattle.legal_trace.proofs.Came.{holds_bytes}
use Rattle.legal_laws.specs.Starts.{StartsOn}
use Rattle.legal_laws.specs.Sources.{StartsNoneLacking, IsAskedFor, IsAuthorized, StartsAuthorized}
use Rattle.legal_laws.proofs.Links.Bounds.{ready_behind, next_may}
use Rattle.legal_laws.proofs.Traces.Held.{starts_ready}
use Rattle.legal_laws.proofs.Traces.Numbers.{up_is_asked, up_is_numbered}
use Rattle.legal_laws.proofs.Notices.Pushed.{push_keeps, tell_keeps}
use Rattle.legal_laws.proofs.Links.Shaped.{due_is_given, renewal_is_set}
use Rattle.legal_laws.proofs.Traces.Sound.{Sound, sound_behind}
use Rattle.legal_trace.proofs.Watching.{watch_is_up, watch_is_greeted}
use Rattle.legal_trace.proofs.Again.{again_is_set, again_is_up}

-- a source of this use is for that link
source_for : (l : ℕ) (o : Option SourceUse) → is_source_of l o ≡ true → o ≡ Some (source.Setup l)
source_for l None e = absurd (cc e)
source_for l (Some (source.Setup m)) e = ap (λ j. Some (source.Setup j)) (eq_from m l e)
source_for l (Some (source.Renewal m)) e = absurd (cc e)

-- a use says its link
same_use : (l m : ℕ) → source.Setup l ≡ source.Setup m → l ≡ m
same_use l m e = cc e

-- so does one that is asked for now
use_is_for : (b : Book) (m l : ℕ) → use_for b m ≡ source.Setup l → m ≡ l
use_is_for b m l = chosen (λ u. u ≡ source.Setup l → m ≡ l) (b.link m).creds.asked (source.Renewal m) (source.Setup m) (λ t e. absurd (cc e)) (λ f e. same_use m l e)

-- each source of a front was asked for in it
abbrev SourcesWereAsked : List Action → Type 0
SourcesWereAsked t = (c l : ℕ) → slice_get (book t).sources c ≡ Some (source.Setup l) → IsAskedFor t c l

-- it was asked for in a longer front, too
still_asked : (t : List Action) (a : Action) (c l : ℕ) → IsAskedFor t c l → IsAskedFor (t ++ a ∷ []) c l
still_asked t a c l h = record {
  before = h.before;
  after = h.after ++ a ∷ [];
  splits = ap (λ (x : List Action). x ++ a ∷ []) h.splits ∙ append_assoc h.before (action.NeedCreds c l ∷ h.after) (a ∷ []);
}

-- a source that an action adds is asked for by it
abbrev AddsSources : Book → Action → Type 0
AddsSources b a = (c l : ℕ) → slice_get (entered b a).sources c ≡ Some (source.Setup l) → (slice_get b.sources c ≡ Some (source.Setup l)) ⊎ (a ≡ action.NeedCreds c l)

-- so does each that may stand
adds_sources : (b : Book) (a : Action) → MayStand b a → AddsSources b a
adds_sources b (action.NeedCreds d m) may c l e = elim (item_behind b.sources (use_for b m) (source.Setup l) c e) [
  | inl before ↦ inl before
  | inr new ↦ let same : d ≡ c = may.next ∙ sym new.0 in let mine : m ≡ l = use_is_for b m l new.1 in inr cc
]
adds_sources b (action.Generation g) may c l e = inl e
adds_sources b (action.Round who m) may c l e = inl e
adds_sources b (action.Turn k (cause.Opening config word)) may c l e = inl e
adds_sources b (action.Turn k (cause.Event event)) may c l e = inl e
adds_sources b (action.Connect m host port) may c l e = inl e
adds_sources b (action.Timer t ms what) may c l e = inl e
adds_sources b (action.Took who m count) may c l e = inl e
adds_sources b (action.Push m info) may c l e = inl e
adds_sources b (action.Message msg) may c l e = inl e
adds_sources b (action.Monitor v) may c l e = inl e
adds_sources b (action.Close m) may c l e = inl e
adds_sources b (action.Write m bytes) may c l e = inl e
adds_sources b (action.Wait who kind) may c l e = inl e
adds_sources b (action.Start m k who count len) may c l e = inl e
adds_sources b (action.Created x) may c l e = inl e
adds_sources b (action.Outcome n o) may c l e = inl e

-- it stays so with each action more
sources_grow : Grows SourcesWereAsked
sources_grow t a all may h c l e =
    elim (adds_sources (book t) a may c l (subst (λ b. slice_get b.sources c ≡ Some (source.Setup l)) (book_more t a) e)) [
      | inl before ↦ still_asked t a c l (h c l before)
      | inr now ↦ record { before = t; after = []; splits = ap (λ x. t ++ x ∷ []) now }
    ]

-- so it is of each front
sources_were_asked : (front : List Action) → AllStand blank_book front → SourcesWereAsked front
unfolding book
sources_were_asked front all = of_each_front SourcesWereAsked front sources_grow all (λ c l e. absurd (cc e))

-- news of other kinds are no credentials, for one link or for none
not_for_link : (mine : Bool) (x : News) (c : Credentials) → (x ≡ authorized c → ⊥) → for_link mine x ≡ authorized c → ⊥
not_for_link true x c other e = other e
not_for_link false x c other e = cc e

-- nor is a timer that fires
not_of_timer : (l : ℕ) (what : Option Purpose) (c : Credentials) → of_timer l what ≡ authorized c → ⊥
not_of_timer l None c e = cc e
not_of_timer l (Some (purpose.Connect m)) c e = not_for_link (m == l) overdue c (λ x. cc x) e
not_of_timer l (Some (purpose.Response who)) c e = cc e
not_of_timer l (Some (purpose.Renewal m k)) c e = not_for_link (m == l) (late k) c (λ x. cc x) e
not_of_timer l (Some (purpose.Backoff g)) c e = cc e
not_of_timer l (Some (purpose.Resubscription m)) c e = not_for_link (m == l) unrepeated c (λ x. cc x) e

-- nor what comes of a source, where it is none for its setup or its renewals
not_of_source : (l : ℕ) (o : Option SourceUse) (first later : News) (c : Credentials) → (first ≡ authorized c → ⊥) → (later ≡ authorized c → ⊥) → of_source l o first later ≡ authorized c → ⊥
not_of_source l o first later c one two = chosen (λ x. x ≡ authorized c → ⊥) (is_source_of l o) first (for_link (renews l o) later) (λ t. one) (λ f. not_for_link (renews l o) later c two)

-- an event gives a link these credentials: it says them, of a source that was asked for, for that link
abbrev GivesTo : List SourceUse → ℕ → EventKind → Credentials → Type 0
GivesTo uses l kind c = (s : ℕ) × (kind ≡ event.Creds s c) × (slice_get uses s ≡ Some (source.Setup l))

-- what a source says
said_by : (l s : ℕ) (o : Option SourceUse) (given c : Credentials) → of_source l o (authorized given) (renewed given) ≡ authorized c → (given ≡ c) × (o ≡ Some (source.Setup l))
said_by l s o given c e = by_test (is_source_of l o) ((given ≡ c) × (o ≡ Some (source.Setup l)))
    (λ t. let same : authorized given ≡ authorized c = sym (ap (λ mine. if mine then authorized given else for_link (renews l o) (renewed given)) t) ∙ e in (cc same, source_for l o t))
    (λ f. let none : for_link (renews l o) (renewed given) ≡ authorized c = sym (ap (λ mine. if mine then authorized given else for_link (renews l o) (renewed given)) f) ∙ e in absurd (not_for_link (renews l o) (renewed given) c (λ x. cc x) none))

-- only such an event is credentials for a link
gives_from : (timers : List Purpose) (uses : List SourceUse) (l : ℕ) (kind : EventKind) (c : Credentials) → news_of timers uses l kind ≡ authorized c → GivesTo uses l kind c
gives_from timers uses l (event.Creds s given) c e = let said = said_by l s (slice_get uses s) given c e in (s, ap (event.Creds s) said.0, said.1)
gives_from timers uses l (event.Connected m) c e = absurd (not_for_link (m == l) connected c (λ x. cc x) e)
gives_from timers uses l (event.Refused m f) c e = absurd (not_for_link (m == l) (refused f) c (λ x. cc x) e)
gives_from timers uses l (event.Wrote m count) c e = absurd (not_for_link (m == l) (took count) c (λ x. cc x) e)
gives_from timers uses l (event.Bytes m piece) c e = absurd (not_for_link (m == l) (came piece) c (λ x. cc x) e)
gives_from timers uses l (event.Ended m) c e = absurd (not_for_link (m == l) (failed fault.Ended) c (λ x. cc x) e)
gives_from timers uses l (event.ReadFault m kind) c e = absurd (not_for_link (m == l) (failed (fault.Io kind)) c (λ x. cc x) e)
gives_from timers uses l (event.WriteFault m kind) c e = absurd (not_for_link (m == l) (failed (fault.Io kind)) c (λ x. cc x) e)
gives_from timers uses l (event.Fired t) c e = absurd (not_of_timer l (slice_get timers t) c e)
gives_from timers uses l (event.CredsError s text) c e = absurd (not_of_source l (slice_get uses s) (denied text) silence c (λ x. cc x) (λ x. cc x) e)
gives_from timers uses l (event.CredsEnd s) c e = absurd (not_of_source l (slice_get uses s) deserted unrenewed c (λ x. cc x) (λ x. cc x) e)
gives_from timers uses l (event.Timeout ms) c e = absurd (cc e)
gives_from timers uses l event.DropStream c e = absurd (cc e)
gives_from timers uses l event.Shutdown c e = absurd (cc e)
gives_from timers uses l (event.Submit s) c e = absurd (cc e)
gives_from timers uses l (event.Cancel s) c e = absurd (cc e)

-- a ledger has credentials: it had them, and what is to be said is as it was
abbrev WereGiven : Ledger → Ledger → Type 0
WereGiven l x = x.creds.given ≡ true → (l.creds.given ≡ true) × (x.info ≡ l.info)

-- or it has them by this news
abbrev AreGiven : Ledger → News → Ledger → Type 0
AreGiven l news x = x.creds.given ≡ true → ((l.creds.given ≡ true) × (x.info ≡ l.info)) ⊎ ((c : Credentials) × (news ≡ authorized c) × (x.info ≡ (authorized_by l c).info))

-- credentials come by news of them alone
hears_given : (l : Ledger) (turn : ℕ) (news : News) → AreGiven l news (with_news l turn news)
hears_given l turn silence = λ e. inl (e, refl)
hears_given l turn connected = chosen (AreGiven l connected) (is_over l) l (record l { up = true }) (λ t e. inl (e, refl)) (λ f e. inl (e, refl))
hears_given l turn (refused f) = chosen (AreGiven l (refused f)) (dials l) (refused_in l turn (error.Io f)) l (λ t e. inl (e, refl)) (λ n e. inl (e, refl))
hears_given l turn overdue = λ e. inl (e, refl)
hears_given l turn (took count) = chosen (AreGiven l (took count)) l.up (record l { taken = l.taken ++ take count l.offer; offer = [] }) l (λ t e. inl (e, refl)) (λ f e. inl (e, refl))
hears_given l turn (came piece) = chosen (AreGiven l (came piece)) l.up (bytes_came l piece) l (λ t. holds_bytes (AreGiven l (came piece)) l piece (λ rest strange told more e. inl (e, refl))) (λ f e. inl (e, refl))
hears_given l turn (failed f) = λ e. inl (e, refl)
hears_given l turn (authorized c) = chosen (AreGiven l (authorized c)) (awaits_credentials l) (authorized_by l c) l (λ t e. inr (c, refl, refl)) (λ f e. inl (e, refl))
hears_given l turn (denied text) = λ e. inl (e, refl)
hears_given l turn deserted = λ e. inl (e, refl)
hears_given l turn (renewed c) = chosen (AreGiven l (renewed c)) (may_renew l) (renewed_by l c) l (λ t e. inl (e, refl)) (λ f e. inl (e, refl))
hears_given l turn unrenewed = chosen (AreGiven l unrenewed) l.up (unrenewed_by l) l (λ t e. inl (e, refl)) (λ f e. inl (e, refl))
hears_given l turn (late k) = chosen (AreGiven l (late k)) (l.up && is_renewal_open l k) (lost_by l) l (λ t e. inl (e, refl)) (λ f e. inl (e, refl))
hears_given l turn unrepeated = chosen (AreGiven l unrepeated) (is_repeating l) (unrepeated_by l) l (λ t e. inl (e, refl)) (λ f e. inl (e, refl))
hears_given l turn dropped = λ e. inl (e, refl)
hears_given l turn shut = λ e. inl (e, refl)

-- an action gives link l credentials: it is the turn of such an event, and they are what is to be said then
pub record Gives (b : Book) (a : Action) (l : ℕ) : Type 0 where
  pub number : ℕ
  pub came : Event
  pub c : ℕ
  pub credentials : Credentials
  pub is : a ≡ action.Turn number (cause.Event came)
  pub gives : came.kind ≡ event.Creds c credentials
  pub use_of : slice_get b.sources c ≡ Some (source.Setup l)
  pub info : ((entered b a).link l).info ≡ (authorized_by (b.link l) credentials).info

-- a link has credentials behind an action where it had them before, or the action gives them
abbrev GivenBy : Book → Action → ℕ → Type 0
GivenBy b a l = ((entered b a).link l).creds.given ≡ true → (((b.link l).creds.given ≡ true) × (((entered b a).link l).info ≡ (b.link l).info)) ⊎ Gives b a l

-- so with the turn of an event
turn_gives : (b : Book) (k : ℕ) (e : Event) (l : ℕ) → GivenBy b (action.Turn k (cause.Event e)) l
turn_gives b k e l given = elim (hears_given (b.link l) k (news_of b.timers b.sources l e.kind) given) [
  | inl before ↦ inl before
  | inr new ↦
      let from : GivesTo b.sources l e.kind new.0 = gives_from b.timers b.sources l e.kind new.0 new.1 in
      inr (record { number = k; came = e; c = from.0; credentials = new.0; is = refl; gives = from.1; use_of = from.2; info = new.2 })
]

-- and with each
gives_by : (b : Book) (a : Action) (l : ℕ) → GivenBy b a l
gives_by b (action.Turn k (cause.Opening config word)) l e = inl (e, refl)
gives_by b (action.Turn k (cause.Event event)) l e = turn_gives b k event l e
gives_by b (action.Connect m host port) l e = inl (mine_keeps (WereGiven (b.link l)) (m == l) (b.link l) (asks (info_in b.config) (wanted_in b.config) (hearing_in b.config) (is_last (settings_in b.config) b.attempt) (repeats_in (settings_in b.config) b.tracked)) (λ t new. absurd (cc new)) (λ old. (old, refl)) e)
gives_by b (action.Timer t ms what) l e = inl (timer_tells (WereGiven (b.link l)) (b.link l) l what (λ on k is t old. (old, refl)) (λ on is t old. (old, refl)) (λ old. (old, refl)) e)
gives_by b (action.Took who m count) l e = inl (e, refl)
gives_by b (action.Push m info) l e = inl (push_keeps (WereGiven (b.link l)) (m == l) info.kind (b.link l) (λ old. (old, refl)) (λ old. (old, refl)) (λ old. (old, refl)) e)
gives_by b (action.Message msg) l e = inl (tell_keeps (WereGiven (b.link l)) (b.current == l) (b.link l) (λ old. (old, refl)) (λ old. (old, refl)) e)
gives_by b (action.Monitor v) l e = inl (tell_keeps (WereGiven (b.link l)) (b.current == l) (b.link l) (λ old. (old, refl)) (λ old. (old, refl)) e)
gives_by b (action.NeedCreds c m) l e = inl (mine_keeps (WereGiven (b.link l)) (m == l) (b.link l) sources (λ t old. (old, refl)) (λ old. (old, refl)) e)
gives_by b (action.Generation g) l e = inl (e, refl)
gives_by b (action.Round who m) l e = inl (e, refl)
gives_by b (action.Close m) l e = inl (mine_keeps (WereGiven (b.link l)) (m == l) (b.link l) (ends (b.turns - 1)) (λ t old. (old, refl)) (λ old. (old, refl)) e)
gives_by b (action.Write m bytes) l e = inl (mine_keeps (WereGiven (b.link l)) (m == l) (b.link l) (offers bytes) (λ t old. (old, refl)) (λ old. (old, refl)) e)
gives_by b (action.Wait who kind) l e = inl (e, refl)
gives_by b (action.Start m k who count len) l e = inl (mine_keeps (WereGiven (b.link l)) (m == l) (b.link l) (begins (message_of b m who)) (λ t old. (old, refl)) (λ old. (old, refl)) e)
gives_by b (action.Created x) l e = inl (e, refl)
gives_by b (action.Outcome n o) l e = inl (e, refl)

-- where a link has credentials, they came
abbrev GivenCame : List Action → Type 0
GivenCame t = (l : ℕ) → ((book t).link l).creds.given ≡ true → IsAuthorized t l

-- a longer front has them too, where what is to be said is as it was
still_authorized : (t : List Action) (a : Action) (l : ℕ) → ((entered (book t) a).link l).info ≡ ((book t).link l).info → IsAuthorized t l → IsAuthorized (t ++ a ∷ []) l
still_authorized t a l same h =
    let info : ((book (t ++ a ∷ [])).link l).info ≡ ((book t).link l).info = ap (λ (b : Book). (b.link l).info) (book_more t a) ∙ same in
    record {
      before = h.before;
      after = h.after ++ a ∷ [];
      number = h.number;
      came = h.came;
      c = h.c;
      credentials = h.credentials;
      splits = ap (λ (x : List Action). x ++ a ∷ []) h.splits ∙ append_assoc h.before (action.Turn h.number (cause.Event h.came) ∷ h.after) (a ∷ []);
      gives = h.gives;
      asked = h.asked;
      user = ap (λ (i : RedisConnectionInfo). i.username) info ∙ h.user;
      password = ap (λ (i : RedisConnectionInfo). i.password) info ∙ h.password;
    }

-- an action that gives them
newly_authorized : (t : List Action) (a : Action) (l : ℕ) → AllStand blank_book t → Gives (book t) a l → IsAuthorized (t ++ a ∷ []) l
newly_authorized t a l all h =
    let info : ((book (t ++ a ∷ [])).link l).info ≡ (authorized_by ((book t).link l) h.credentials).info = ap (λ (b : Book). (b.link l).info) (book_more t a) ∙ h.info in
    record {
      before = t;
      after = [];
      number = h.number;
      came = h.came;
      c = h.c;
      credentials = h.credentials;
      splits = ap (λ x. t ++ x ∷ []) h.is;
      gives = h.gives;
      asked = sources_were_asked t all h.c l h.use_of;
      user = ap (λ (i : RedisConnectionInfo). i.username) info;
      password = ap (λ (i : RedisConnectionInfo). i.password) info;
    }

-- it stays so with each action more
given_grows : Grows GivenCame
given_grows t a all may h l e =
    elim (gives_by (book t) a l (subst (λ (b : Book). (b.link l).creds.given ≡ true) (book_more t a) e)) [
      | inl before ↦ still_authorized t a l before.1 (h l before.0)
      | inr now ↦ newly_authorized t a l all now
    ]

-- so it is of each front
given_came : (front : List Action) → AllStand blank_book front → GivenCame front
unfolding book
given_came front all = of_each_front GivenCame front given_grows all (λ l e. absurd (cc e))

-- whether a link that was asked for wants credentials of a source
abbrev Wants : Bool → Ledger → Type 0
Wants wanted l = l.asked ≡ true → l.creds.wanted ≡ wanted

-- news leave that
hears_wanted : (l : Ledger) (turn : ℕ) (news : News) → (with_news l turn news).creds.wanted ≡ l.creds.wanted
hears_wanted l turn silence = refl
hears_wanted l turn connected = chosen (λ (x : Ledger). x.creds.wanted ≡ l.creds.wanted) (is_over l) l (record l { up = true }) (λ t. refl) (λ f. refl)
hears_wanted l turn (refused f) = chosen (λ (x : Ledger). x.creds.wanted ≡ l.creds.wanted) (dials l) (refused_in l turn (error.Io f)) l (λ t. refl) (λ n. refl)
hears_wanted l turn overdue = refl
hears_wanted l turn (took count) = chosen (λ (x : Ledger). x.creds.wanted ≡ l.creds.wanted) l.up (record l { taken = l.taken ++ take count l.offer; offer = [] }) l (λ t. refl) (λ f. refl)
hears_wanted l turn (came piece) = chosen (λ (x : Ledger). x.creds.wanted ≡ l.creds.wanted) l.up (bytes_came l piece) l (λ t. holds_bytes (λ (x : Ledger). x.creds.wanted ≡ l.creds.wanted) l piece (λ rest strange told more. refl)) (λ f. refl)
hears_wanted l turn (failed f) = refl
hears_wanted l turn (authorized c) = chosen (λ (x : Ledger). x.creds.wanted ≡ l.creds.wanted) (awaits_credentials l) (authorized_by l c) l (λ t. refl) (λ f. refl)
hears_wanted l turn (denied text) = refl
hears_wanted l turn deserted = refl
hears_wanted l turn (renewed c) = chosen (λ (x : Ledger). x.creds.wanted ≡ l.creds.wanted) (may_renew l) (renewed_by l c) l (λ t. refl) (λ f. refl)
hears_wanted l turn unrenewed = chosen (λ (x : Ledger). x.creds.wanted ≡ l.creds.wanted) l.up (unrenewed_by l) l (λ t. refl) (λ f. refl)
hears_wanted l turn (late k) = chosen (λ (x : Ledger). x.creds.wanted ≡ l.creds.wanted) (l.up && is_renewal_open l k) (lost_by l) l (λ t. refl) (λ f. refl)
hears_wanted l turn unrepeated = chosen (λ (x : Ledger). x.creds.wanted ≡ l.creds.wanted) (is_repeating l) (unrepeated_by l) l (λ t. refl) (λ f. refl)
hears_wanted l turn dropped = refl
hears_wanted l turn shut = refl

-- so does a turn
turn_wanted : (wanted : Bool) (l : Ledger) (turn : ℕ) (news : News) → Wants wanted l → Wants wanted (noted l (hears turn news))
turn_wanted wanted l turn news h asked = hears_wanted l turn news ∙ h (sym (hears_past l turn news).asked ∙ asked)

-- it is as the configuration of the book has it
abbrev WantAll : Book → Type 0
WantAll b = (l : ℕ) → Wants (wanted_in b.config) (b.link l)

-- each action that may stand keeps it
want_kept : (b : Book) (a : Action) → MayStand b a → Sound b → WantAll b → WantAll (entered b a)
want_kept b (action.Turn k (cause.Opening config word)) may sound h l =
    let none : b.links ≡ 0 = sound.opens.no_links may.is_for in
    let unasked : (b.link l).asked ≡ false = (sound.links.unasked l (omega arith)).0 in
    λ asked. absurd (not_both (b.link l).asked unasked asked)
want_kept b (action.Turn k (cause.Event e)) may sound h l = turn_wanted (wanted_in b.config) (b.link l) k (news_of b.timers b.sources l e.kind) (h l)
want_kept b (action.Connect m host port) may sound h l = mine_keeps (Wants (wanted_in b.config)) (m == l) (b.link l) (asks (info_in b.config) (wanted_in b.config) (hearing_in b.config) (is_last (settings_in b.config) b.attempt) (repeats_in (settings_in b.config) b.tracked)) (λ t asked. refl) (h l)
want_kept b (action.Timer t ms what) may sound h l = timer_tells (Wants (wanted_in b.config)) (b.link l) l what (λ on k is t. h l) (λ on is t. h l) (h l)
want_kept b (action.Took who m count) may sound h l = h l
want_kept b (action.Push m info) may sound h l = push_keeps (Wants (wanted_in b.config)) (m == l) info.kind (b.link l) (h l) (h l) (h l)
want_kept b (action.Message msg) may sound h l = tell_keeps (Wants (wanted_in b.config)) (b.current == l) (b.link l) (h l) (h l)
want_kept b (action.Monitor v) may sound h l = tell_keeps (Wants (wanted_in b.config)) (b.current == l) (b.link l) (h l) (h l)
want_kept b (action.NeedCreds c m) may sound h l = mine_keeps (Wants (wanted_in b.config)) (m == l) (b.link l) sources (λ t. h l) (h l)
want_kept b (action.Generation g) may sound h l = h l
want_kept b (action.Round who m) may sound h l = h l
want_kept b (action.Close m) may sound h l = mine_keeps (Wants (wanted_in b.config)) (m == l) (b.link l) (ends (b.turns - 1)) (λ t. h l) (h l)
want_kept b (action.Write m bytes) may sound h l = mine_keeps (Wants (wanted_in b.config)) (m == l) (b.link l) (offers bytes) (λ t. h l) (h l)
want_kept b (action.Wait who kind) may sound h l = h l
want_kept b (action.Start m k who count len) may sound h l = mine_keeps (Wants (wanted_in b.config)) (m == l) (b.link l) (begins (message_of b m who)) (λ t. h l) (h l)
want_kept b (action.Created x) may sound h l = h l
want_kept b (action.Outcome n o) may sound h l = h l

-- so it is of each front
abbrev WantsIn : List Action → Type 0
WantsIn t = WantAll (book t)

want_grows : Grows WantsIn
want_grows t a all may h = subst WantAll (sym (book_more t a)) (want_kept (book t) a may (sound_behind t all) h)

want_behind : (front : List Action) → AllStand blank_book front → WantsIn front
unfolding book
want_behind front all = of_each_front WantsIn front want_grows all (λ l asked. absurd (cc asked))

-- where a message may start its link is up, and lacks no credentials
start_is_given : (b : Book) (a : Action) (l : ℕ) → MayStand b a → Sound b → StartsOn l a → ((b.link l).up ≡ true) × (lacks_credentials (b.link l) ≡ false)
start_is_given b (action.Start m k owner.Setup count len) l may sound on = subst (λ j. ((b.link j).up ≡ true) × (lacks_credentials (b.link j) ≡ false)) on
    (due_is_up (b.link m) may.k may.due, by_test (lacks_credentials (b.link m)) (lacks_credentials (b.link m) ≡ false) (λ t. absurd (due_is_given (b.link m) may.k (sound.shaped m) may.due t)) (λ f. f))
start_is_given b (action.Start m k owner.Auth count len) l may sound on = subst (λ j. ((b.link j).up ≡ true) × (lacks_credentials (b.link j) ≡ false)) on
    (renewal_is_up (b.link m) may.credentials may.due, set_is_given (b.link m) (renewal_is_set (b.link m) may.credentials (sound.shaped m) may.due))
start_is_given b (action.Start m k owner.Resub count len) l may sound on = subst (λ j. ((b.link j).up ≡ true) × (lacks_credentials (b.link j) ≡ false)) on
    (again_is_up (b.link m) may.due, set_is_given (b.link m) (again_is_set (b.link m) may.due))
start_is_given b (action.Start m k owner.Monitor count len) l may sound on = subst (λ j. ((b.link j).up ≡ true) × (lacks_credentials (b.link j) ≡ false)) on
    (watch_is_up (b.link m) may.due, greeted_is_given (b.link m) (watch_is_greeted (b.link m) may.due))
start_is_given b (action.Start m k (owner.Try n round) count len) l may sound on =
    let ready = starts_ready b m k n count len may.1 in
    subst (λ j. ((b.link j).up ≡ true) × (lacks_credentials (b.link j) ≡ false)) on (ready_is_up (b.link m) ready, set_is_given (b.link m) (ready_is_set (b.link m) ready))
start_is_given b _ l may sound on = absurd on

-- who wants credentials and doesn't lack them has them
given_from : (wanted given : Bool) → (wanted && not given) ≡ false → wanted ≡ true → given ≡ true
given_from true true e w = refl
given_from true false e w = absurd (cc e)
given_from false given e w = absurd (cc w)

-- nothing starts on a link that lacks them
pub starts_none_lacking : (config : Config) (word : ℕ) (events : List Event) (trace : List Action) → Legal config word events trace → StartsNoneLacking trace
starts_none_lacking config word events trace h front more l is =
    let legal : Legal config word events (front ++ more) = subst (Legal config word events) is h in
    ((sound_behind front (stand_front blank_book front more legal.each)).shaped l).bare

-- and where they are wanted, messages start once they came
pub starts_authorized : (config : Config) (word : ℕ) (events : List Event) (trace : List Action) → Legal config word events trace → StartsAuthorized config trace
starts_authorized config word events trace h front more a l wants is on =
    let legal : Legal config word events (front ++ a ∷ more) = subst (Legal config word events) is h in
    let all : AllStand blank_book front = stand_front blank_book front (a ∷ more) legal.each in
    let b : Book = book front in
    let sound : Sound b = sound_behind front all in
    let start = start_is_given b a l (next_may config word events front more a legal) sound on in
    let i : l < b.links = up_is_numbered b l sound.links start.0 in
    let configured : b.config ≡ Some config = (ready_behind config word events front (a ∷ more) legal).configured (λ none. let no : b.links ≡ 0 = sound.opens.no_links none in omega arith) in
    let wanted : (b.link l).creds.wanted ≡ true = want_behind front all l (up_is_asked b l sound.links start.0) ∙ (ap wanted_in configured ∙ wants) in
    given_came front all l (given_from (b.link l).creds.wanted (b.link l).creds.given start.1 wanted)
