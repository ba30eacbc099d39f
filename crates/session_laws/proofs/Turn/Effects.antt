-- The event's own effect: each kind of event leaves the session tied to its book, and nothing due but what moves.
use Rattle.std.proofs.Common.{ap, length, slice_get, Option, Some, ◌<◌, ◌≡◌, ℕ, ◌==◌, ◌&&◌, false, List, [], ◌∷◌, ◌++◌, refl, sym, ◌∙◌, subst, ◌^◌, inl}
use Rattle.containers.proofs.Choices.{or_right, eq_from, eq_test, not_le_from, not_lt_from, by_test, taken_if, left_if}
use Rattle.redis_error.specs.declared.redis_error.RedisError.TheVariants as error
use Rattle.credentials.specs.Credentials.{Credentials}
use Rattle.driver_model.specs.declared.action.Action.{Action}
use Rattle.driver_model.specs.declared.action.SourceUse.{SourceUse}
use Rattle.driver_model.specs.declared.action.SourceUse.TheVariants as source
use Rattle.driver_model.specs.declared.event.EventKind.{EventKind}
use Rattle.driver_model.specs.declared.event.EventKind.TheVariants as event
use Rattle.driver_model.specs.declared.news.LinkFault.TheVariants as fault
use Rattle.driver_model.specs.News.{News, connected, took, came, failed, authorized, denied, deserted, for_link, news_of, of_source, of_timer, refused, overdue, silence, renewed, unrenewed, late, unrepeated}
use Rattle.mux_conn.specs.declared.life.Life.{Life}
use Rattle.mux_conn.specs.declared.life.Life.TheVariants.{Resting, Dialing, Ready, Ended, SettingUp, Wanting}
use Rattle.mux_conn.specs.Effects.{CanTake, applied}
use Rattle.single_session.specs.declared.core_state.Core.{Core}
use Rattle.single_session.specs.Turn.{with_work, heard, fired_by, late_by, effect, counted, is_no_link, exceeds_offer, is_bad}
use Rattle.session_laws.proofs.Ties.States.{Between, HasEffect}
use Rattle.session_laws.proofs.Turn.Announce.{turn_of, turned, IsNewsKind}
use Rattle.session_laws.proofs.Links.Connect.{connected_applied, dropped_applied, refused_applied, overdue_applied, passed_over}
use Rattle.session_laws.proofs.Links.Given.{authorized_applied, denied_applied, end_denies, text_denies}
use Rattle.session_laws.proofs.Links.Took.{took_applied}
use Rattle.session_laws.proofs.Links.Read.{read_applied}
use Rattle.session_laws.proofs.Links.End.{failed_applied, shut_applied}
use Rattle.session_laws.proofs.Requests.Cancel.{cancel_applied}
use Rattle.session_laws.proofs.Requests.Late.{late_applied, time_applied}
use Rattle.conn_laws.proofs.Ties.Names.{get_some}
use Rattle.legal_trace.specs.Book.{is_clock_of, book}
use Rattle.driver_model.specs.declared.action.Owner.TheVariants as owner
use Rattle.driver_model.specs.declared.action.Purpose.{Purpose}
use Rattle.driver_model.specs.declared.action.Purpose.TheVariants as purpose
use Rattle.session_laws.proofs.Requests.Asked.{submit_applied}
use Rattle.session_laws.proofs.Internal.Renewed.{renewed_applied, unrenewed_applied, renewal_late}
use Rattle.conn_laws.proofs.Turn.Heard.{silent_no_end}
use Rattle.session_laws.proofs.Turn.Heard.{still_none}
use Rattle.session_laws.proofs.Internal.RepeatOver.{repeat_over}

-- the news of an event that names the connection's link
by_news : (before : List Action) (c : Core) (started : List ℕ) (word : ℕ) (kind : EventKind) (heard n : News) → heard ≡ n
    → HasEffect (before ++ turn_of c word kind ∷ []) (with_work (record { core = turned c kind; acts = [] }) (applied (record { conn = c.single.connection; acts = [] }) n)) started
    → HasEffect (before ++ turn_of c word kind ∷ []) (with_work (record { core = turned c kind; acts = [] }) (applied (record { conn = c.single.connection; acts = [] }) heard)) started
by_news before c started word kind heard n e h = subst (λ (x : News). HasEffect (before ++ turn_of c word kind ∷ []) (with_work (record { core = turned c kind; acts = [] }) (applied (record { conn = c.single.connection; acts = [] }) x)) started) (sym e) h

-- an event of which the connection's link hears nothing
unheard : (before : List Action) (c : Core) (started : List ℕ) (word : ℕ) (kind : EventKind) → Between before c started → is_bad c kind ≡ false → IsNewsKind c.timers kind → news_of c.timers c.sources c.single.link kind ≡ silence
    → HasEffect (before ++ turn_of c word kind ∷ []) (with_work (record { core = turned c kind; acts = [] }) (record { conn = c.single.connection; acts = [] })) started
unheard before c started word kind h good k is = inl (passed_over before c started word kind silence h good k is (λ z. cc) refl (silent_no_end ((book before).link c.single.link) c.turns (still_none before c started h c.single.link)))

-- where it names a link, this is the connection's, or it hears nothing
by_link : (before : List Action) (c : Core) (started : List ℕ) (word l : ℕ) (kind : EventKind) (n : News) → Between before c started → is_bad c kind ≡ false → IsNewsKind c.timers kind → news_of c.timers c.sources c.single.link kind ≡ for_link (l == c.single.link) n
    → (l ≡ c.single.link → news_of c.timers c.sources c.single.link kind ≡ n → HasEffect (before ++ turn_of c word kind ∷ []) (with_work (record { core = turned c kind; acts = [] }) (applied (record { conn = c.single.connection; acts = [] }) n)) started)
    → HasEffect (before ++ turn_of c word kind ∷ []) (with_work (record { core = turned c kind; acts = [] }) (applied (record { conn = c.single.connection; acts = [] }) (news_of c.timers c.sources c.single.link kind))) started
by_link before c started word l kind n h good k is own = by_test (l == c.single.link) _
    (λ t. let mine = is ∙ taken_if (l == c.single.link) n silence t in by_news before c started word kind (news_of c.timers c.sources c.single.link kind) n mine (own (eq_from l c.single.link t) mine))
    (λ f. let none = is ∙ left_if (l == c.single.link) n silence f in by_news before c started word kind (news_of c.timers c.sources c.single.link kind) silence none (unheard before c started word kind h good k none))

-- no more is taken than is offered
can_take : (life : Life) (count : ℕ) → exceeds_offer life count ≡ false → CanTake life count
can_take Resting count f = tt
can_take Dialing count f = tt
can_take (Wanting link) count f = not_lt_from link.outbox.offered count f
can_take (SettingUp link greeting) count f = not_lt_from link.outbox.offered count f
can_take (Ready link) count f = not_lt_from link.outbox.offered count f
can_take (Ended e) count f = tt

-- of the link that the event names
can_take_from : (c : Core) (l count : ℕ) → l ≡ c.single.link → ((l == c.single.link) && exceeds_offer c.single.connection.life count) ≡ false → CanTake c.single.connection.life count
can_take_from c l count own f = can_take c.single.connection.life count (sym (λ i. eq_test l c.single.link own i && exceeds_offer c.single.connection.life count) ∙ f)

-- a timer fires, of a connect or of a request
fired : (before : List Action) (c : Core) (started : List ℕ) (word n : ℕ) (what : Purpose) → Between before c started → is_bad c (event.Fired n) ≡ false → slice_get c.timers n ≡ Some what
    → HasEffect (before ++ turn_of c word (event.Fired n) ∷ []) (fired_by (heard (counted c) (event.Fired n)) (Some what)) started
fired before c started word n (purpose.Connect l) h good is =
    by_link before c started word l (event.Fired n) overdue h good (λ m. ap (is_clock_of m) is) (ap (of_timer c.single.link) is)
    (λ same own. overdue_applied before c started word (event.Fired n) h good (λ m. ap (is_clock_of m) is) own)
fired before c started word n (purpose.Response owner.Auth) h good is = absurd (h.sound.tied.numbers.aims n (purpose.Response owner.Auth) is)
fired before c started word n (purpose.Renewal l k) h good is =
    by_link before c started word l (event.Fired n) (late k) h good (λ m. ap (is_clock_of m) is) (ap (of_timer c.single.link) is)
    (λ same own. inl (renewal_late before c started word (event.Fired n) k h good (λ m. ap (is_clock_of m) is) own))
fired before c started word n (purpose.Response owner.Setup) h good is = absurd (h.sound.tied.numbers.aims n (purpose.Response owner.Setup) is)
fired before c started word n (purpose.Response owner.Resub) h good is = absurd (h.sound.tied.numbers.aims n (purpose.Response owner.Resub) is)
fired before c started word n (purpose.Response owner.Monitor) h good is = absurd (h.sound.tied.numbers.aims n (purpose.Response owner.Monitor) is)
fired before c started word n (purpose.Backoff g) h good is =
    let silent_is : news_of c.timers c.sources c.single.link (event.Fired n) ≡ silence = ap (of_timer c.single.link) is in
    by_news before c started word (event.Fired n) (news_of c.timers c.sources c.single.link (event.Fired n)) silence silent_is (unheard before c started word (event.Fired n) h good (λ m. ap (is_clock_of m) is) silent_is)
fired before c started word n (purpose.Resubscription l) h good is =
    by_link before c started word l (event.Fired n) unrepeated h good (λ m. ap (is_clock_of m) is) (ap (of_timer c.single.link) is)
    (λ same own. inl (repeat_over before c started word (event.Fired n) h good (λ m. ap (is_clock_of m) is) own))
fired before c started word n (purpose.Response (owner.Try m round)) h good is =
    let aim : (m < length c.table) × (round ≡ 0) = h.sound.tied.numbers.aims n (purpose.Response (owner.Try m round)) is in
    let first = is ∙ ap (λ k. Some (purpose.Response (owner.Try m k))) aim.1 in
    let silent_is : news_of c.timers c.sources c.single.link (event.Fired n) ≡ silence = ap (of_timer c.single.link) is in
    subst (λ (x : News). HasEffect (before ++ turn_of c word (event.Fired n) ∷ []) (late_by (with_work (record { core = turned c (event.Fired n); acts = [] }) (applied (record { conn = c.single.connection; acts = [] }) x)) (slice_get c.table m)) started)
    (sym silent_is) (inl (late_applied before c started word n m h good first))

-- what comes of a source, for the setup of a link or for its renewals
--
-- credentials
creds_come : (before : List Action) (c : Core) (started : List ℕ) (word n : ℕ) (auth : Credentials) (what : SourceUse) → Between before c started → is_bad c (event.Creds n auth) ≡ false → slice_get c.sources n ≡ Some what → HasEffect (before ++ turn_of c word (event.Creds n auth) ∷ []) (effect (counted c) (event.Creds n auth)) started
creds_come before c started word n auth (source.Setup l) h good is =
    by_link before c started word l (event.Creds n auth) (authorized auth) h good tt (ap (λ x. of_source c.single.link x (authorized auth) (renewed auth)) is)
    (λ same own. inl (authorized_applied before c started word (event.Creds n auth) auth h good tt own))
creds_come before c started word n auth (source.Renewal l) h good is =
    by_link before c started word l (event.Creds n auth) (renewed auth) h good tt (ap (λ x. of_source c.single.link x (authorized auth) (renewed auth)) is)
    (λ same own. inl (renewed_applied before c started word (event.Creds n auth) auth h good tt own ((h.sound.tied.uses n (source.Renewal l) is).1 same)))

-- why there are none
error_comes : (before : List Action) (c : Core) (started : List ℕ) (word n : ℕ) (text : List ℕ) (what : SourceUse) → Between before c started → is_bad c (event.CredsError n text) ≡ false → slice_get c.sources n ≡ Some what → HasEffect (before ++ turn_of c word (event.CredsError n text) ∷ []) (effect (counted c) (event.CredsError n text)) started
error_comes before c started word n text (source.Setup l) h good is =
    by_link before c started word l (event.CredsError n text) (denied text) h good tt (ap (λ x. of_source c.single.link x (denied text) silence) is)
    (λ same own. denied_applied before c started word (event.CredsError n text) (denied text) (error.Credentials text) (text_denies text) h good tt own)
error_comes before c started word n text (source.Renewal l) h good is =
    by_link before c started word l (event.CredsError n text) silence h good tt (ap (λ x. of_source c.single.link x (denied text) silence) is) (λ same own. unheard before c started word (event.CredsError n text) h good tt own)

-- that no more come
end_comes : (before : List Action) (c : Core) (started : List ℕ) (word n : ℕ) (what : SourceUse) → Between before c started → is_bad c (event.CredsEnd n) ≡ false → slice_get c.sources n ≡ Some what → HasEffect (before ++ turn_of c word (event.CredsEnd n) ∷ []) (effect (counted c) (event.CredsEnd n)) started
end_comes before c started word n (source.Setup l) h good is =
    by_link before c started word l (event.CredsEnd n) deserted h good tt (ap (λ x. of_source c.single.link x deserted unrenewed) is) (λ same own. denied_applied before c started word (event.CredsEnd n) deserted (error.AuthFailed []) end_denies h good tt own)
end_comes before c started word n (source.Renewal l) h good is =
    by_link before c started word l (event.CredsEnd n) unrenewed h good tt (ap (λ x. of_source c.single.link x deserted unrenewed) is)
    (λ same own. inl (unrenewed_applied before c started word (event.CredsEnd n) h good tt own ((h.sound.tied.uses n (source.Renewal l) is).1 same)))

-- the effect of a good event between two turns
pub effect_holds : (before : List Action) (c : Core) (started : List ℕ) (word : ℕ) (kind : EventKind) → Between before c started → is_bad c kind ≡ false → length c.table < 2 ^ 32 → HasEffect (before ++ turn_of c word kind ∷ []) (effect (counted c) kind) started
unfolding is_bad
effect_holds before c started word (event.Submit what) h good room = inl (submit_applied before c started word what h room good)
effect_holds before c started word (event.Cancel n) h good room = inl (cancel_applied before c started word n h good)
effect_holds before c started word (event.Connected l) h good room =
    by_link before c started word l (event.Connected l) connected h good tt refl (λ same own. inl (connected_applied before c started word (event.Connected l) h good tt own))
effect_holds before c started word (event.Refused l f) h good room =
    by_link before c started word l (event.Refused l f) (refused f) h good tt refl (λ same own. refused_applied before c started word (event.Refused l f) f h good tt own)
effect_holds before c started word (event.Fired n) h good room =
    let g = get_some c.timers n (not_le_from (length c.timers) n good) in
    subst (λ (x : Option Purpose). HasEffect (before ++ turn_of c word (event.Fired n) ∷ []) (fired_by (heard (counted c) (event.Fired n)) x) started) (sym g.1) (fired before c started word n g.0 h good g.1)
effect_holds before c started word (event.Timeout ms) h good room = inl (time_applied before c started word ms h good)
effect_holds before c started word (event.Wrote l count) h good room =
    by_link before c started word l (event.Wrote l count) (took count) h good tt refl
    (λ same own. inl (took_applied before c started word count (event.Wrote l count) h good tt own (can_take_from c l count same (or_right (is_no_link c l) _ good))))
effect_holds before c started word (event.Bytes l piece) h good room =
    by_link before c started word l (event.Bytes l piece) (came piece) h good tt refl (λ same own. read_applied before c started word (event.Bytes l piece) piece h good tt own)
effect_holds before c started word (event.Ended l) h good room =
    by_link before c started word l (event.Ended l) (failed fault.Ended) h good tt refl (λ same own. failed_applied before c started word (event.Ended l) fault.Ended h good tt own)
effect_holds before c started word (event.ReadFault l kind) h good room =
    by_link before c started word l (event.ReadFault l kind) (failed (fault.Io kind)) h good tt refl (λ same own. failed_applied before c started word (event.ReadFault l kind) (fault.Io kind) h good tt own)
effect_holds before c started word (event.WriteFault l kind) h good room =
    by_link before c started word l (event.WriteFault l kind) (failed (fault.Io kind)) h good tt refl (λ same own. failed_applied before c started word (event.WriteFault l kind) (fault.Io kind) h good tt own)
effect_holds before c started word (event.Creds n auth) h good room = let g = get_some c.sources n (not_le_from (length c.sources) n good) in creds_come before c started word n auth g.0 h good g.1
effect_holds before c started word (event.CredsError n text) h good room = let g = get_some c.sources n (not_le_from (length c.sources) n good) in error_comes before c started word n text g.0 h good g.1
effect_holds before c started word (event.CredsEnd n) h good room = let g = get_some c.sources n (not_le_from (length c.sources) n good) in end_comes before c started word n g.0 h good g.1
effect_holds before c started word event.DropStream h good room = dropped_applied before c started word event.DropStream h good tt refl
effect_holds before c started word event.Shutdown h good room = inl (shut_applied before c started word event.Shutdown h good tt refl refl)
