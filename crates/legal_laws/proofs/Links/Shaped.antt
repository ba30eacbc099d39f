-- The setups that started on a link take what their commands are answered with, and nothing starts on it too early.
use Rattle.std.proofs.Common.{◌≡◌, ◌≢◌, ℕ, ◌-◌, ◌==◌, ◌||◌, ◌&&◌, not, Bool, true, false, List, [], ◌++◌, take, Some, None, if◌then◌else◌, refl, sym, ap, ◌∙◌, subst, arith, slice_get}
use Rattle.containers.proofs.Choices.{by_test, chosen, eq_from, not_both, both_left, both_right, taken_if}
use Rattle.redis_error.specs.declared.redis_error.RedisError.TheVariants as error
use Rattle.connection_info.specs.declared.address.RedisConnectionInfo.{RedisConnectionInfo}
use Rattle.credentials.specs.Credentials.{Credentials}
use Rattle.driver_model.specs.Setup.{says_nothing}
use Rattle.driver_model.specs.declared.action.Action.{Action}
use Rattle.driver_model.specs.declared.action.Action.TheVariants as action
use Rattle.driver_model.specs.declared.action.Cause.TheVariants as cause
use Rattle.driver_model.specs.declared.action.Owner.TheVariants as owner
use Rattle.driver_model.specs.News.{News, silence, connected, refused, overdue, took, came, failed, authorized, denied, deserted, dropped, shut, news_of, renewed, unrenewed, late, unrepeated}
use Rattle.legal_trace.specs.Ledger.{Ledger, Start, asks, hears, begins, offers, sources, ends, noted, with_news, refused_in, bytes_came, is_over, dials, is_of_setup, is_ready, is_set_up, lacks_credentials, awaits_credentials, authorized_by, setup_after, setup_count, setup_due, setup_steps, may_renew, renewed_by, unrenewed_by, is_renewal_open, lost_by, renewal_count, renewal_due, source_due, monitor_due, is_repeating, unrepeated_by, again_due}
use Rattle.legal_trace.specs.Managers.{settings_in, is_last}
use Rattle.legal_trace.specs.Book.{Book, entered, info_in, wanted_in, message_of, hearing_in}
use Rattle.legal_trace.specs.Legal.{MayStand}
use Rattle.legal_trace.specs.Again.{repeats_in}
use Rattle.legal_trace.proofs.Clocks.{timer_tells}
use Rattle.legal_trace.proofs.Ledgers.{mine_keeps}
use Rattle.legal_trace.proofs.Moves.{mover_is_ready, ready_is_set, ready_is_up, starter_moves}
use Rattle.legal_trace.proofs.Plain.{not_none}
use Rattle.legal_trace.proofs.Sources.{awaits_lacks, awaits_unset, second_is_set}
use Rattle.legal_trace.proofs.Renewals.{renewal_came, renewal_is_up}
use Rattle.legal_trace.proofs.Setups.{SetupsOf, due_is_up, set_is_given, setups_request, setups_setup, set_begins, set_more, set_is_undue, greeted_is_given}
use Rattle.legal_trace.proofs.Came.{holds_bytes}
use Rattle.legal_laws.proofs.Traces.Numbers.{HasLinks, up_is_asked}
use Rattle.legal_laws.proofs.Notices.Pushed.{push_keeps, tell_keeps}
use Rattle.driver_model.specs.declared.hearing.Hearing.{Hearing}
use Rattle.legal_trace.proofs.Watching.{watch_is_up, watch_is_greeted}
use Rattle.legal_trace.proofs.Again.{again_is_set, again_is_up}

-- nothing starts on a link that was not asked for, or lacks credentials; its setups take what they are to; and it has a second
-- source of credentials only once it has a first and is set up, and new credentials only of that
pub record IsShaped (l : Ledger) : Type 0 where
  pub none : l.asked ≡ false → l.starts ≡ []
  pub are : SetupsOf l.info l.starts
  pub bare : lacks_credentials l ≡ true → l.starts ≡ []
  pub ready : l.creds.renews ≡ true → is_set_up l ≡ true
  pub second : l.creds.asked ≡ false → l.creds.renews ≡ false
  pub came : l.creds.renews ≡ false → l.creds.renewals ≡ []

-- where credentials were given none lack
given_lacks : (wanted : Bool) → (wanted && not true) ≡ true → ⊥
given_lacks true e = cc e
given_lacks false e = cc e

-- so the first credentials find nothing started
authorized_shaped : (l : Ledger) (c : Credentials) → awaits_credentials l ≡ true → IsShaped l → IsShaped (authorized_by l c)
authorized_shaped l c waits h = record {
  none = h.none;
  are = subst (SetupsOf (authorized_by l c).info) (sym (h.bare (awaits_lacks l waits))) (λ k s i. absurd (omega (arith, i)));
  bare = λ lacks. absurd (given_lacks l.creds.wanted lacks);
  ready = λ some. absurd (awaits_unset l waits (h.ready some));
  second = h.second;
  came = h.came;
}

-- new credentials come of a second source
renewed_renews : (l : Ledger) → may_renew l ≡ true → l.creds.renews ≡ true
renewed_renews l h = both_right (is_ready l) l.creds.renews (both_left (is_ready l && l.creds.renews) (not l.creds.over) h)

-- it stays so with news
news_shaped : (l : Ledger) (turn : ℕ) (news : News) → IsShaped l → IsShaped (with_news l turn news)
news_shaped l turn silence h = h
news_shaped l turn connected h = chosen IsShaped (is_over l) l (record l { up = true }) (λ t. h) (λ e. record { none = h.none; are = h.are; bare = h.bare; ready = h.ready; second = h.second; came = h.came })
news_shaped l turn (refused f) h = chosen IsShaped (dials l) (refused_in l turn (error.Io f)) l (λ t. record { none = h.none; are = h.are; bare = h.bare; ready = h.ready; second = h.second; came = h.came }) (λ e. h)
news_shaped l turn overdue h = h
news_shaped l turn (took count) h = chosen IsShaped l.up (record l { taken = l.taken ++ take count l.offer; offer = [] }) l (λ t. record { none = h.none; are = h.are; bare = h.bare; ready = h.ready; second = h.second; came = h.came }) (λ e. h)
news_shaped l turn (came piece) h = chosen IsShaped l.up (bytes_came l piece) l (λ t. holds_bytes IsShaped l piece (λ rest strange told more. record { none = h.none; are = h.are; bare = h.bare; ready = λ some. set_more l rest more h.are (h.ready some); second = h.second; came = h.came })) (λ e. h)
news_shaped l turn (failed f) h = h
news_shaped l turn (authorized c) h = chosen IsShaped (awaits_credentials l) (authorized_by l c) l (λ t. authorized_shaped l c t h) (λ e. h)
news_shaped l turn (denied text) h = h
news_shaped l turn deserted h = h
news_shaped l turn (renewed c) h = chosen IsShaped (may_renew l) (renewed_by l c) l (λ t. record { none = h.none; are = h.are; bare = h.bare; ready = h.ready; second = h.second; came = λ none. absurd (not_both l.creds.renews none (renewed_renews l t)) }) (λ e. h)
news_shaped l turn unrenewed h = chosen IsShaped l.up (unrenewed_by l) l (λ t. record { none = h.none; are = h.are; bare = h.bare; ready = h.ready; second = h.second; came = h.came }) (λ e. h)
news_shaped l turn (late k) h = chosen IsShaped (l.up && is_renewal_open l k) (lost_by l) l (λ t. record { none = h.none; are = h.are; bare = h.bare; ready = h.ready; second = h.second; came = h.came }) (λ e. h)
news_shaped l turn unrepeated h = chosen IsShaped (is_repeating l) (unrepeated_by l) l (λ t. record { none = h.none; are = h.are; bare = h.bare; ready = h.ready; second = h.second; came = h.came }) (λ e. h)
news_shaped l turn dropped h = h
news_shaped l turn shut h = h

-- so with a turn
hears_shaped : (l : Ledger) (turn : ℕ) (news : News) → IsShaped l → IsShaped (noted l (hears turn news))
hears_shaped l turn news h = let m = news_shaped l turn news h in record { none = m.none; are = m.are; bare = m.bare; ready = m.ready; second = m.second; came = m.came }

-- with the connect of a link that was not asked for
asks_shaped : (l : Ledger) (info : RedisConnectionInfo) (wanted : Bool) (hearing : Hearing) (last again : Bool) → l.asked ≡ false → IsShaped l → IsShaped (noted l (asks info wanted hearing last again))
asks_shaped l info wanted hearing last again unasked h = record {
  none = λ f. cc f;
  are = subst (SetupsOf info) (sym (h.none unasked)) (λ k s i. absurd (omega (arith, i)));
  bare = λ lacks. h.none unasked;
  ready = λ some. absurd (cc some);
  second = λ none. refl;
  came = λ none. refl;
}

-- where a setup is due no credentials lack
pub due_is_given : (l : Ledger) (k : ℕ) → IsShaped l → setup_due l ≡ Some k → lacks_credentials l ≡ true → ⊥
due_is_given l k h due lacks =
    let first : setup_after l 0 ≡ Some k = ap (λ (ss : List Start). setup_after l (setup_count ss)) (sym (h.bare lacks)) ∙ (sym (taken_if l.up (setup_after l (setup_count l.starts)) None (due_is_up l k due)) ∙ due) in
    let nothing : setup_after l 0 ≡ None = ap (λ x. if x || says_nothing (setup_steps l 0) then None else Some 0) lacks in
    not_none (setup_after l 0) k nothing first

-- a list with something in it isn't empty
some_there : (cs : List Credentials) (k : ℕ) (c : Credentials) → slice_get cs k ≡ Some c → cs ≢ []
some_there cs k c e none = not_none (slice_get cs k) c (ap (λ (ds : List Credentials). slice_get ds k) none) e

-- a link for which new credentials came has its second source
pub came_renews : (l : Ledger) (k : ℕ) (c : Credentials) → IsShaped l → slice_get l.creds.renewals k ≡ Some c → l.creds.renews ≡ true
came_renews l k c h e = by_test l.creds.renews (l.creds.renews ≡ true) (λ t. t) (λ f. absurd (some_there l.creds.renewals k c e (h.came f)))

-- a link on which new credentials are to be told is set up
pub renewal_is_set : (l : Ledger) (c : Credentials) → IsShaped l → renewal_due l ≡ Some c → is_set_up l ≡ true
renewal_is_set l c h due = h.ready (came_renews l (renewal_count l.starts) c h (renewal_came l c due))

-- where the second source is asked for the link is set up
source_shaped : (l : Ledger) → source_due l ≡ true → IsShaped l → IsShaped (noted l sources)
source_shaped l due h = record {
  none = h.none;
  are = h.are;
  bare = h.bare;
  ready = λ asked. second_is_set l due asked;
  second = λ e. absurd (cc e);
  came = λ unasked. h.came (h.second unasked);
}

-- with a message that is no setup, on a link that was asked for and has the credentials for its setup
begins_shaped : (l : Ledger) (s : Start) → is_of_setup s.owner ≡ false → l.asked ≡ true → lacks_credentials l ≡ false → IsShaped l → IsShaped (noted l (begins s))
begins_shaped l s other asked given h = record {
  none = λ f. absurd (not_both l.asked f asked);
  are = setups_request l s other h.are;
  bare = λ lacks. absurd (not_both (lacks_credentials l) given lacks);
  ready = λ some. set_begins l s other (h.ready some);
  second = h.second;
  came = h.came;
}

-- each action that may stand keeps it
pub shaped_kept : (b : Book) (a : Action) (l : ℕ) → MayStand b a → HasLinks b → IsShaped (b.link l) → IsShaped ((entered b a).link l)
shaped_kept b (action.Turn k (cause.Opening config word)) l may links h = h
shaped_kept b (action.Turn k (cause.Event e)) l may links h = hears_shaped (b.link l) k (news_of b.timers b.sources l e.kind) h
shaped_kept b (action.Connect m host port) l may links h = mine_keeps IsShaped (m == l) (b.link l) (asks (info_in b.config) (wanted_in b.config) (hearing_in b.config) (is_last (settings_in b.config) b.attempt) (repeats_in (settings_in b.config) b.tracked))
    (λ t. let same : m ≡ l = eq_from m l t in let next : m ≡ b.links = may.next in asks_shaped (b.link l) (info_in b.config) (wanted_in b.config) (hearing_in b.config) (is_last (settings_in b.config) b.attempt) (repeats_in (settings_in b.config) b.tracked) (links.unasked l (omega (arith, same, next))).0 h) h
shaped_kept b (action.Timer t ms what) l may links h = timer_tells IsShaped (b.link l) l what (λ on k is t. record { none = h.none; are = h.are; bare = h.bare; ready = h.ready; second = h.second; came = h.came }) (λ on is t. record { none = h.none; are = h.are; bare = h.bare; ready = h.ready; second = h.second; came = h.came }) h
shaped_kept b (action.Took owner.Setup m count) l may links h = absurd may
shaped_kept b (action.Took owner.Auth m count) l may links h = absurd may
shaped_kept b (action.Took owner.Resub m count) l may links h = absurd may
shaped_kept b (action.Took owner.Monitor m count) l may links h = absurd may
shaped_kept b (action.Took (owner.Try n round) m count) l may links h = h
shaped_kept b (action.Push m info) l may links h = push_keeps IsShaped (m == l) info.kind (b.link l) (record { none = h.none; are = h.are; bare = h.bare; ready = h.ready; second = h.second; came = h.came }) (record { none = h.none; are = h.are; bare = h.bare; ready = h.ready; second = h.second; came = h.came }) h
shaped_kept b (action.Message msg) l may links h = tell_keeps IsShaped (b.current == l) (b.link l) (record { none = h.none; are = h.are; bare = h.bare; ready = h.ready; second = h.second; came = h.came }) h
shaped_kept b (action.Monitor v) l may links h = tell_keeps IsShaped (b.current == l) (b.link l) (record { none = h.none; are = h.are; bare = h.bare; ready = h.ready; second = h.second; came = h.came }) h
shaped_kept b (action.NeedCreds c m) l may links h = mine_keeps IsShaped (m == l) (b.link l) sources
    (λ t. source_shaped (b.link l) (subst (λ j. source_due (b.link j) ≡ true) (eq_from m l t) may.due) h) h
shaped_kept b (action.Generation g) l may links h = h
shaped_kept b (action.Round who m) l may links h = h
shaped_kept b (action.Close m) l may links h = mine_keeps IsShaped (m == l) (b.link l) (ends (b.turns - 1)) (λ t. record { none = h.none; are = h.are; bare = h.bare; ready = h.ready; second = h.second; came = h.came }) h
shaped_kept b (action.Write m bytes) l may links h = mine_keeps IsShaped (m == l) (b.link l) (offers bytes) (λ t. record { none = h.none; are = h.are; bare = h.bare; ready = h.ready; second = h.second; came = h.came }) h
shaped_kept b (action.Wait owner.Setup kind) l may links h = absurd may
shaped_kept b (action.Wait owner.Auth kind) l may links h = absurd may
shaped_kept b (action.Wait owner.Resub kind) l may links h = absurd may
shaped_kept b (action.Wait owner.Monitor kind) l may links h = absurd may
shaped_kept b (action.Wait (owner.Try n round) kind) l may links h = h
shaped_kept b (action.Start m k owner.Setup count len) l may links h = mine_keeps IsShaped (m == l) (b.link l) (begins (message_of b m owner.Setup))
    (λ t. subst (λ j. IsShaped (b.link j) → IsShaped (noted (b.link j) (begins (message_of b m owner.Setup)))) (eq_from m l t)
    (λ g. record {
      none = λ f. absurd (not_both (b.link m).asked f (up_is_asked b m links (due_is_up (b.link m) may.k may.due)));
      are = setups_setup (b.link m) g.are;
      bare = λ lacks. absurd (due_is_given (b.link m) may.k g may.due lacks);
      ready = λ some. absurd (set_is_undue (b.link m) may.k (g.ready some) may.due);
      second = g.second;
      came = g.came;
    }) h) h
shaped_kept b (action.Start m k owner.Auth count len) l may links h = mine_keeps IsShaped (m == l) (b.link l) (begins (message_of b m owner.Auth))
    (λ t.
    let due : renewal_due (b.link l) ≡ Some may.credentials = subst (λ j. renewal_due (b.link j) ≡ Some may.credentials) (eq_from m l t) may.due in
    begins_shaped (b.link l) (message_of b m owner.Auth) refl (up_is_asked b l links (renewal_is_up (b.link l) may.credentials due)) (set_is_given (b.link l) (renewal_is_set (b.link l) may.credentials h due)) h) h
shaped_kept b (action.Start m k owner.Resub count len) l may links h = mine_keeps IsShaped (m == l) (b.link l) (begins (message_of b m owner.Resub))
    (λ t.
    let due : again_due (b.link l) ≡ true = subst (λ j. again_due (b.link j) ≡ true) (eq_from m l t) may.due in
    begins_shaped (b.link l) (message_of b m owner.Resub) refl (up_is_asked b l links (again_is_up (b.link l) due)) (set_is_given (b.link l) (again_is_set (b.link l) due)) h) h
shaped_kept b (action.Start m k owner.Monitor count len) l may links h = mine_keeps IsShaped (m == l) (b.link l) (begins (message_of b m owner.Monitor))
    (λ t.
    let due : monitor_due (b.link l) ≡ true = subst (λ j. monitor_due (b.link j) ≡ true) (eq_from m l t) may.due in
    begins_shaped (b.link l) (message_of b m owner.Monitor) refl (up_is_asked b l links (watch_is_up (b.link l) due)) (greeted_is_given (b.link l) (watch_is_greeted (b.link l) due)) h) h
shaped_kept b (action.Start m k (owner.Try n round) count len) l may links h = mine_keeps IsShaped (m == l) (b.link l) (begins (message_of b m (owner.Try n round)))
    (λ t.
    let ready : is_ready (b.link l) ≡ true = subst (λ j. is_ready (b.link j) ≡ true) (sym may.1.on_its_link ∙ eq_from m l t) (mover_is_ready b n (starter_moves b m k n count len may.1)) in
    begins_shaped (b.link l) (message_of b m (owner.Try n round)) refl (up_is_asked b l links (ready_is_up (b.link l) ready)) (set_is_given (b.link l) (ready_is_set (b.link l) ready)) h) h
shaped_kept b (action.Created e) l may links h = h
shaped_kept b (action.Outcome n o) l may links h = h
