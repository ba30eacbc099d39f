-- A session whose event has had its own effect, while requests are moved.
use Rattle.std.proofs.Common.{◌≤◌, List, None, Option, Some, [], ap, arith, false, inl, inr, length, refl, subst, sym, true, ℕ, ◌++◌, ◌<◌, ◌∙◌, ◌∷◌, ◌≡◌, ◌⊎◌}
use Rattle.std.specs.Prelude.{if◌then◌else◌, is_some, ◌==◌, Bool}
use Rattle.containers.proofs.Choices.{by_test, chosen, eq_from, left_if, ne_from, not_both}
use Rattle.credentials.specs.Credentials.{Credentials}
use Rattle.driver_model.specs.declared.action.Action.{Action}
use Rattle.driver_model.specs.declared.action.WaitKind.TheVariants as wait
use Rattle.link_core.specs.Link.{LinkState, holds_back, is_full_beside}
use Rattle.link_laws.proofs.TiedLink.{TiedLink}
use Rattle.mux_conn.specs.Connection.{has_no_permit, in_front, is_due as is_renewal_due, is_ready, is_resting, is_outstanding}
use Rattle.mux_conn.specs.Requests.{is_unbegun_at, name_at}
use Rattle.mux_conn.specs.declared.life.Greeting.{Greeting}
use Rattle.mux_conn.specs.declared.life.Life.{Life}
use Rattle.mux_conn.specs.declared.life.Life.TheVariants.{Resting, Dialing, Ended, Ready, SettingUp, Wanting}
use Rattle.legal_trace.specs.Book.{Book, blank_book, book, entered, if_mine}
use Rattle.legal_trace.specs.Ledger.{Ledger, Line, dials, ending, is_set_up, lacks_credentials, noted, noted_each, renewal_count, renewal_due, renewals_asked, setup_due, monitor_due, is_greeted, setup_result}
use Rattle.legal_trace.specs.Legal.{AllStand, CanMove, IsApplied, IsBegun, IsFirstToMove, IsMoved, MayStand, NoneEnds, RenewalsAreStarted, RenewalsAreTimed, SetupsAreStarted, MonitorsAreStarted, IsShown, RepeatsAreTimed, RepeatsAreStarted}
use Rattle.legal_trace.proofs.Ahead.{held_with_link}
use Rattle.legal_trace.specs.Steps.{Step, is_due, is_held_back, is_renewal_held, next_step, starts_or_waits, step_down, step_ready, unready_wait, waits}
use Rattle.conn_laws.proofs.Ties.Ahead.{HasSeats, ready_alive}
use Rattle.session_laws.proofs.Ties.Ahead.{IsRunning, creds_step, full_step, held_by, permit_step, queue_step, running_of, setup_step, repeat_step}
use Rattle.session_laws.proofs.Ties.Behind.{alive_behind}
use Rattle.session_laws.proofs.Managers.Comes.{NoneComes, live_comes, none_rests}
use Rattle.conn_laws.proofs.Links.Creds.{lacking_undue, wanting_lacks, lacking_undecided}
use Rattle.session_laws.proofs.Ties.Entered.{book_more, sound_more}
use Rattle.conn_laws.proofs.Ties.InLine.{first_is_least, kept_ids, kept_in, line_of}
use Rattle.conn_laws.proofs.Ties.Moves.{unstarted_alive}
use Rattle.session_laws.proofs.Ties.Moves.{IsLater, later_of}
use Rattle.conn_laws.proofs.Ties.Names.{earlier_name}
use Rattle.conn_laws.proofs.Ties.Numbers.{IsIn, Rising, in_left, in_right, rising_in, rising_right, requests_in}
use Rattle.session_laws.proofs.Ties.Owes.{created_is, ends_told, none_open, none_owed, notices_told}
use Rattle.conn_laws.proofs.Internal.Renewals.{all_timed, down_renewed_due, due_is, none_renewed_due}
use Rattle.session_laws.proofs.Links.Said.{sources_asked}
use Rattle.conn_laws.proofs.Links.SetUp.{down_undue, none_due, set_up_undue, setting_undecided}
use Rattle.conn_laws.proofs.Ties.States.{AreBegun, IsFit}
use Rattle.conn_laws.proofs.Links.Server.{AreSought, HasSaid, IsSetUp, TiedRenewal, AreRenewed, watch_queued}
use Rattle.conn_laws.proofs.Ties.Tied.{TiedLife, carried, has_ended, link_in, owner_of, queue_ids, waiting_ids, whole_link, greeter}
use Rattle.session_laws.proofs.Ties.Tied.{TurnState, Sound, Tied, IsToldIn}
use Rattle.mux_conn.specs.declared.life.Greeting.TheVariants as greet
use Rattle.legal_trace.proofs.Setups.{IsUndecided}
use Rattle.legal_trace.proofs.Watching.{watch_is_up, watch_is_greeted, watch_is_new, watch_is_unset}
use Rattle.conn_laws.proofs.Internal.Repeats.{serves}
use Rattle.conn_laws.proofs.Internal.Serving.{unready_serves, answered_serves}
use Rattle.conn_laws.proofs.Internal.Repeating.{HasRepeated}
use Rattle.conn_laws.proofs.Internal.RepeatsDue.{served_repeated}
use Rattle.session_laws.proofs.Internal.RepeatsDue.{repeating_timed, repeating_started}
use Rattle.conn_laws.proofs.Requests.Going.{HasRenewed, dialing_down, goes_on, ready_not_setting, ready_there, setup_gone, undue_asked}

-- where it doesn't, no generation begins, and no link is asked for
abbrev pub StaysPut : Book → Life → Type 0
StaysPut b life = goes_on life ≡ false → NoneComes b

-- where everything was shut down while it has none, nobody waits for one
abbrev pub IsHushedIn : TurnState → Type 0
IsHushedIn t = t.shut ≡ true → is_resting t.life ≡ true → t.waiting ≡ []

-- nothing must end, all new credentials are told that may be, and a link that is set up takes requests
pub record IsGoing (trace : List Action) (t : TurnState) : Type 0 where
  pub sound : Sound trace t
  pub ended : NoneEnds (book trace)
  pub renewed : HasRenewed t.renewal t.life
  pub served : is_ready t.life ≡ true → is_outstanding t.again ≡ false

-- one more action that may stand
pub going_more : (trace : List Action) (a : Action) (t : TurnState) → AllStand blank_book trace → MayStand (book trace) a → Tied (entered (book trace) a) t → NoneEnds (entered (book trace) a) → HasRenewed t.renewal t.life → (is_ready t.life ≡ true → is_outstanding t.again ≡ false) → IsGoing (trace ++ a ∷ []) t
going_more trace a t stands may tied none renewed served = record {
  sound = sound_more trace a t stands may tied;
  ended = subst NoneEnds (sym (book_more trace a)) none;
  renewed = renewed;
  served = served;
}

-- what is shown is all that the event does, where no generation begins, and no link is to be asked for
shown_applied : (b : Book) (t : TurnState) → Tied b t → NoneComes b → IsShown b → IsApplied b
shown_applied b t h comes shown = record { shown = shown; rested = none_rests b t h; generated = comes.0; linked = comes.1; timed = h.numbers.timed }

-- while nothing is to be answered and the link goes on, all that the event does is shown
pub shown_up : (b : Book) (t : TurnState) → Tied b t → t.pending ≡ [] → IsToldIn t → is_resting t.life ≡ false → has_ended t.life ≡ false → NoneEnds b → IsShown b
shown_up b t h none told there up ended =
    record { answered = none_owed b t h (λ rests. absurd (not_both (is_resting t.life) there rests)) none up; ended = ended; created = created_is b t h; pushed = notices_told b t h told.0; parted = ends_told b t h told.1; sourced = sources_asked b t h }

-- so the event has had its effect
pub applied_up : (b : Book) (t : TurnState) → Tied b t → t.pending ≡ [] → IsToldIn t → is_resting t.life ≡ false → has_ended t.life ≡ false → NoneEnds b → IsApplied b
applied_up b t h none told there up ended = shown_applied b t h (live_comes b t h there up) (shown_up b t h none told there up ended)

-- each setup has started that is to start, but where its link is held back, where it is so of the link of the session
pub setups_started : (b : Book) (t : TurnState) → Tied b t → ((link : LinkState) (greeting : Greeting) → t.life ≡ SettingUp link greeting → (setup_due (b.link t.link) ≡ None) ⊎ (is_held_back b (b.link t.link) ≡ true)) → SetupsAreStarted b
setups_started b t h mine m k due = by_test (m == t.link) _
    (λ same. subst (λ n. is_held_back b (b.link n) ≡ true) (sym (eq_from m t.link same)) (by_life t.life refl (subst (λ n. setup_due (b.link n) ≡ Some k) (eq_from m t.link same) due)))
    (λ other. absurd (undue (b.link m) (down_undue (b.link m) (h.others m (ne_from m t.link other)).down) due))
  where
    undue : (l : Ledger) → setup_due l ≡ None → setup_due l ≡ Some k → ⊥
    undue l none some = let no : ◌≡◌ {A = Option ℕ} None (Some k) = sym none ∙ some in cc

    by_life : (life : Life) → t.life ≡ life → setup_due (b.link t.link) ≡ Some k → is_held_back b (b.link t.link) ≡ true
    by_life Resting e d = absurd (undue (b.link t.link) (down_undue (b.link t.link) (subst (TiedLife (b.link t.link) b.created) e h.life).1) d)
    by_life Dialing e d = absurd (undue (b.link t.link) (down_undue (b.link t.link) (subst (TiedLife (b.link t.link) b.created) e h.life).1) d)
    by_life (Wanting link) e d =
        let l = b.link t.link in
        let said : HasSaid l t.started (Wanting link) = subst (HasSaid l t.started) e h.setup.said in
        let lacks : lacks_credentials l ≡ true = wanting_lacks l.creds link (subst (AreSought l.creds) e h.creds.sought) in
        absurd (undue l (none_due l (lacking_undue l lacks said.0)) d)
    by_life (SettingUp link greeting) e d = elim (mine link greeting e) [ inl none ↦ absurd (undue (b.link t.link) none d) | inr held ↦ held ]
    by_life (Ready link) e d =
        let said : IsSetUp (b.link t.link) = subst (HasSaid (b.link t.link) t.started) e h.setup.said in
        absurd (undue (b.link t.link) (none_due (b.link t.link) (set_up_undue (b.link t.link) said)) d)
    by_life (Ended x) e d = absurd (undue (b.link t.link) (down_undue (b.link t.link) (subst (TiedLife (b.link t.link) b.created) e h.life).0) d)

-- and so has MONITOR
pub monitors_started : (b : Book) (t : TurnState) → Tied b t → ((link : LinkState) → t.life ≡ SettingUp link greet.Monitor → (monitor_due (b.link t.link) ≡ true → ⊥) ⊎ (is_held_back b (b.link t.link) ≡ true)) → MonitorsAreStarted b
monitors_started b t h mine m due = by_test (m == t.link) _
    (λ same. subst (λ n. is_held_back b (b.link n) ≡ true) (sym (eq_from m t.link same)) (by_life t.life refl (subst (λ n. monitor_due (b.link n) ≡ true) (eq_from m t.link same) due)))
    (λ other. absurd (not_both (b.link m).up (h.others m (ne_from m t.link other)).down (watch_is_up (b.link m) due)))
  where
    ungreeted : (l : Ledger) → IsUndecided (setup_result l) → monitor_due l ≡ true → ⊥
    ungreeted l open_is d = not_both (is_greeted l) open_is.unwell (watch_is_greeted l d)

    by_life : (life : Life) → t.life ≡ life → monitor_due (b.link t.link) ≡ true → is_held_back b (b.link t.link) ≡ true
    by_life Resting e d = absurd (not_both (b.link t.link).up (subst (TiedLife (b.link t.link) b.created) e h.life).1 (watch_is_up (b.link t.link) d))
    by_life Dialing e d = absurd (not_both (b.link t.link).up (subst (TiedLife (b.link t.link) b.created) e h.life).1 (watch_is_up (b.link t.link) d))
    by_life (Wanting link) e d = let l = b.link t.link in absurd (ungreeted l (lacking_undecided l (wanting_lacks l.creds link (subst (AreSought l.creds) e h.creds.sought))) d)
    by_life (SettingUp link greet.WithUser) e d = let l = b.link t.link in absurd (ungreeted l (setting_undecided l link greet.WithUser (subst (HasSaid l t.started) e h.setup.said).1) d)
    by_life (SettingUp link greet.WithoutUser) e d = let l = b.link t.link in absurd (ungreeted l (setting_undecided l link greet.WithoutUser (subst (HasSaid l t.started) e h.setup.said).1) d)
    by_life (SettingUp link greet.Monitor) e d = elim (mine link e) [ inl never ↦ absurd (never d) | inr held ↦ held ]
    by_life (Ready link) e d = let l = b.link t.link in absurd (not_both (is_set_up l) (watch_is_unset l d) (subst (HasSaid l t.started) e h.setup.said).well)
    by_life (Ended x) e d = absurd (not_both (b.link t.link).up (subst (TiedLife (b.link t.link) b.created) e h.life).0 (watch_is_up (b.link t.link) d))

-- new credentials
--
-- all new credentials have their timers that were to be told so far
pub renewals_timed : (b : Book) (t : TurnState) → Tied b t → ((link : LinkState) → t.life ≡ Ready link → is_renewal_due t.renewal ≡ true → t.renewal.pending ≡ true) → RenewalsAreTimed b
renewals_timed b t h asked m some = by_test (m == t.link) _
    (λ same. subst (λ n. renewals_asked (b.link n) ≤ (b.link n).creds.timed) (sym (eq_from m t.link same)) (by_life t.life refl))
    (λ other. (h.others m (ne_from m t.link other)).timed (λ none. some (h.numbers.within ∙ none)))
  where
    l : Ledger
    l = b.link t.link

    by_within : (within : Option ℕ) → t.renewal.within ≡ within → AreRenewed l t.renewal → l.up ≡ true → (link : LinkState) → t.life ≡ Ready link → renewals_asked l ≤ l.creds.timed
    by_within None e r up link life = absurd (some (h.numbers.within ∙ e))
    by_within (Some ms) e r up link life = all_timed l t.renewal ms up r e (asked link life)

    by_life : (life : Life) → t.life ≡ life → renewals_asked l ≤ l.creds.timed
    by_life Resting e =
        let k = undue_asked l (down_renewed_due l (subst (TiedLife l b.created) e h.life).1) in
        let none : renewal_count l.starts ≡ 0 = ap renewal_count (subst (HasSaid l t.started) e h.setup.said).0 in
        omega arith
    by_life Dialing e =
        let k = undue_asked l (down_renewed_due l (subst (TiedLife l b.created) e h.life).1) in
        let none : renewal_count l.starts ≡ 0 = ap renewal_count (subst (HasSaid l t.started) e h.setup.said).0 in
        omega arith
    by_life (Wanting link) e =
        let r = subst (TiedRenewal l t.renewal) e h.renewal in
        let k = undue_asked l (none_renewed_due l t.renewal r) in
        omega (arith, r.unstarted)
    by_life (SettingUp link greeting) e =
        let r = subst (TiedRenewal l t.renewal) e h.renewal in
        let k = undue_asked l (none_renewed_due l t.renewal r) in
        omega (arith, r.unstarted)
    by_life (Ready link) e =
        let r = subst (TiedRenewal l t.renewal) e h.renewal in
        let up = (subst (TiedLife l b.created) e h.life).1 in
        by_within t.renewal.within refl r up link e
    by_life (Ended x) e =
        let k = undue_asked l (down_renewed_due l (subst (TiedLife l b.created) e h.life).0) in
        let kept = (subst (TiedRenewal l t.renewal) e h.renewal).0 (λ none. some (h.numbers.within ∙ none)) in
        omega arith

-- those that are to be told next wait, where they do on the link of the session
renewals_held : (b : Book) (t : TurnState) → Tied b t → ((link : LinkState) → t.life ≡ Ready link → is_renewal_due t.renewal ≡ true → is_renewal_held b t.link ≡ true) → RenewalsAreStarted b
renewals_held b t h held m c due = by_test (m == t.link) (is_renewal_held b m ≡ true)
    (λ same. subst (λ n. is_renewal_held b n ≡ true) (sym (eq_from m t.link same)) (by_life t.life refl (subst (λ n. renewal_due (b.link n) ≡ Some c) (eq_from m t.link same) due)))
    (λ other. absurd (no_due (b.link m) (down_renewed_due (b.link m) (h.others m (ne_from m t.link other)).down) due))
  where
    no_due : (l : Ledger) → renewal_due l ≡ None → renewal_due l ≡ Some c → ⊥
    no_due l none some = let no : ◌≡◌ {A = Option Credentials} None (Some c) = sym none ∙ some in cc

    by_life : (life : Life) → t.life ≡ life → renewal_due (b.link t.link) ≡ Some c → is_renewal_held b t.link ≡ true
    by_life Resting e d = absurd (no_due (b.link t.link) (down_renewed_due (b.link t.link) (subst (TiedLife (b.link t.link) b.created) e h.life).1) d)
    by_life Dialing e d = absurd (no_due (b.link t.link) (down_renewed_due (b.link t.link) (subst (TiedLife (b.link t.link) b.created) e h.life).1) d)
    by_life (Wanting link) e d = let r = subst (TiedRenewal (b.link t.link) t.renewal) e h.renewal in absurd (no_due (b.link t.link) (none_renewed_due (b.link t.link) t.renewal r) d)
    by_life (SettingUp link greeting) e d = let r = subst (TiedRenewal (b.link t.link) t.renewal) e h.renewal in absurd (no_due (b.link t.link) (none_renewed_due (b.link t.link) t.renewal r) d)
    by_life (Ready link) e d = held link e (sym (due_is (b.link t.link) t.renewal (subst (TiedLife (b.link t.link) b.created) e h.life).1 (subst (TiedRenewal (b.link t.link) t.renewal) e h.renewal)) ∙ ap is_some d)
    by_life (Ended x) e d = absurd (no_due (b.link t.link) (down_renewed_due (b.link t.link) (subst (TiedLife (b.link t.link) b.created) e h.life).0) d)

-- so it is where their link is held back
renewals_started : (b : Book) (t : TurnState) → Tied b t → ((link : LinkState) → t.life ≡ Ready link → link.boundary ≡ t.bound) → HasRenewed t.renewal t.life → RenewalsAreStarted b
renewals_started b t h bound renewed = renewals_held b t h (λ link e due.
    let tied : TiedLink (owner_of t.requests) (b.link t.link) link = subst (λ (x : Life). TiedLink (carried x t.requests) (b.link t.link) (whole_link x)) e (h.link (ap has_ended e)) in
    held_with_link b t.link (held_by b t (owner_of t.requests) link h.numbers (bound link e) tied ∙ (renewed link e due).1))

-- so on a link that is up requests may be moved, where new credentials that are to be told have their timer and wait
pub begun_with : (b : Book) (t : TurnState) → Tied b t → IsRunning t → IsToldIn t → NoneEnds b → ((link : LinkState) → t.life ≡ Ready link → is_renewal_due t.renewal ≡ true → (t.renewal.pending ≡ true) × (is_renewal_held b t.link ≡ true)) → IsBegun b
begun_with b t h r told ended renewed = record {
  applied = applied_up b t h r.settled told (ready_there t.life r.up) (ready_alive t.life r.up) ended;
  setups = setups_started b t h (λ link greeting e. absurd (ready_not_setting t.life link greeting r.up e));
  monitors = monitors_started b t h (λ link e. absurd (ready_not_setting t.life link greet.Monitor r.up e));
  repeats_timed = repeating_timed b t h (served_repeated t.again t.life r.served);
  repeated = repeating_started b t h (λ link e. ap (λ (x : Life). (link_in x).boundary) (sym e) ∙ r.fit.bound_is) (served_repeated t.again t.life r.served);
  timed = renewals_timed b t h (λ link e due. (renewed link e due).0);
  renewed = renewals_held b t h (λ link e due. (renewed link e due).1);
}

-- as they do on a link that is held back
pub begun_up : (b : Book) (t : TurnState) → Tied b t → IsRunning t → IsToldIn t → NoneEnds b → HasRenewed t.renewal t.life → IsBegun b
begun_up b t h r told ended renewed = begun_with b t h r told ended (λ link e due.
    let tied : TiedLink (owner_of t.requests) (b.link t.link) link = subst (λ (x : Life). TiedLink (carried x t.requests) (b.link t.link) (whole_link x)) e (h.link (ap has_ended e)) in
    let k = renewed link e due in
    (k.0, held_with_link b t.link (held_by b t (owner_of t.requests) link h.numbers (ap (λ (x : Life). (link_in x).boundary) (sym e) ∙ r.fit.bound_is) tied ∙ k.1)))

-- or none waits
pub shown_over : (b : Book) (t : TurnState) (life : Life) → line_of (link_in life) t.admitted t.waiting ≡ kept_ids t.admitted t.waiting → Tied b t → t.pending ≡ [] → IsToldIn t → t.life ≡ life → kept_ids t.admitted t.waiting ≡ [] → NoneEnds b → IsShown b
shown_over b t life bare h none told over empty ended = record {
  answered = λ n o. absurd (none_open b t life n bare h none over empty o);
  ended = ended;
  created = created_is b t h;
  pushed = notices_told b t h told.0;
  parted = ends_told b t h told.1;
  sourced = sources_asked b t h;
}

pub applied_over : (b : Book) (t : TurnState) (life : Life) → line_of (link_in life) t.admitted t.waiting ≡ kept_ids t.admitted t.waiting → Tied b t → NoneComes b → t.pending ≡ [] → IsToldIn t → t.life ≡ life → kept_ids t.admitted t.waiting ≡ [] → NoneEnds b → IsApplied b
applied_over b t life bare h comes none told over empty ended = shown_applied b t h comes (shown_over b t life bare h none told over empty ended)

-- or there is no link, and where everything was shut down none waits
pub shown_resting : (b : Book) (t : TurnState) → Tied b t → IsHushedIn t → t.pending ≡ [] → IsToldIn t → t.life ≡ Resting → t.admitted ≡ [] → NoneEnds b → IsShown b
shown_resting b t h hushed none told rests nobody ended = by_test t.shut _
    (λ over. shown_over b t Resting refl h none told rests (λ i. kept_ids (nobody i) (hushed over (ap is_resting rests) i)) ended)
    (λ awake. record {
      answered = none_owed b t h (λ r. awake) none (ap has_ended rests);
      ended = ended;
      created = created_is b t h;
      pushed = notices_told b t h told.0;
      parted = ends_told b t h told.1;
      sourced = sources_asked b t h;
    })

pub applied_resting : (b : Book) (t : TurnState) → Tied b t → NoneComes b → IsHushedIn t → t.pending ≡ [] → IsToldIn t → t.life ≡ Resting → t.admitted ≡ [] → NoneEnds b → IsApplied b
applied_resting b t h comes hushed none told rests nobody ended = shown_applied b t h comes (shown_resting b t h hushed none told rests nobody ended)

-- a line of one link that ends none
pub none_ends_kept : (b : Book) (n : ℕ) (line : Line) → ((l : Ledger) → ending l ≡ None → ending (noted l line) ≡ None) → NoneEnds b → (m : ℕ) → ending (noted_each (b.link m) (if_mine (n == m) line)) ≡ None
none_ends_kept b n line kept h m = chosen (λ (ls : List Line). ending (noted_each (b.link m) ls) ≡ None) (n == m) (line ∷ []) [] (λ t. kept (b.link m) (h m)) (λ f. h m)

-- a line of the link of a session that ends it not
pub none_ends_mine : (b : Book) (n : ℕ) (line : Line) → ending (noted (b.link n) line) ≡ None → NoneEnds b → (m : ℕ) → ending (noted_each (b.link m) (if_mine (n == m) line)) ≡ None
none_ends_mine b n line here h m = chosen (λ (ls : List Line). ending (noted_each (b.link m) ls) ≡ None) (n == m) (line ∷ []) [] (λ t. subst (λ k. ending (noted (b.link k) line) ≡ None) (eq_from n m t) here) (λ f. h m)

-- whose step is first
--
-- who is still to start is in the line behind those that started
later_in : (t : TurnState) (n : ℕ) (l : IsLater t n) → IsIn l.p (queue_ids (link_in t.life).queue ++ kept_ids t.admitted t.waiting)
later_in t n l =
    let queue = queue_ids (link_in t.life).queue in
    let kept = kept_ids t.admitted t.waiting in
    elim l.later [ inl i ↦ in_left l.p queue kept i | inr w ↦ in_right l.p queue kept (kept_in t.requests t.waiting t.admitted l.p w) ]

-- one whose link isn't up makes no step
down_stays : (b : Book) (n : ℕ) → (b.link (b.story n).link).up ≡ false → is_due (next_step b n) ≡ false
down_stays b n down =
    let s = b.story n in
    let l = b.link s.link in
    let step : Step = if is_set_up l then step_ready b n s else waits (unready_wait l) in
    chosen (λ (x : Step). is_due x ≡ false) (dials l) (waits wait.Connect) (if l.up then step else step_down l.asked) (λ t. refl) (λ f. ap is_due (left_if l.up step (step_down l.asked) down) ∙ none_due_down l.asked)
  where
    none_due_down : (asked : Bool) → is_due (step_down asked) ≡ false
    none_due_down true = refl
    none_due_down false = refl

-- so the link of one that makes a step is up
moves_up : (b : Book) (n : ℕ) → CanMove b n → (b.link (b.story n).link).up ≡ true
moves_up b n m = by_test (b.link (b.story n).link).up _ (λ up. up) (λ down. absurd (not_both (is_due (next_step b n)) (down_stays b n down) m.due))

-- and is the connection's
moves_here : (b : Book) (t : TurnState) (n : ℕ) → Tied b t → CanMove b n → (b.story n).link ≡ t.link
moves_here b t n h m =
    let l = (b.story n).link in
    by_test (l == t.link) _ (λ same. eq_from l t.link same) (λ other. absurd (not_both (b.link l).up (h.others l (ne_from l t.link other)).down (moves_up b n m)))

-- one that makes a step is still to start
pub moves_later : (b : Book) (t : TurnState) (n : ℕ) → Tied b t → IsRunning t → CanMove b n → IsLater t n
moves_later b t n h r m = later_of b t n h r.settled (ready_alive t.life r.up) (moves_here b t n h m) m.unstarted

-- the first of the queue is the first that makes a step
pub first_in_queue : (b : Book) (t : TurnState) (q : ℕ) (rest : List ℕ) → Tied b t → IsRunning t → queue_ids (link_in t.life).queue ≡ q ∷ rest → IsFirstToMove b (name_at t.requests q)
first_in_queue b t q rest h r first n before m =
    let kept = kept_ids t.admitted t.waiting in
    let l = moves_later b t n h r m in
    let all = rising_right 0 (requests_in t.started) (queue_ids (link_in t.life).queue ++ kept) (length t.requests) h.lines.line in
    let line = subst (λ ns. Rising 0 (ns ++ kept) (length t.requests)) first all in
    let at = subst (λ ns. IsIn l.p (ns ++ kept)) first (later_in t n l) in
    let within = rising_in 0 (q ∷ (rest ++ kept)) (length t.requests) q line (inl refl) in
    let earlier = earlier_name t.table t.requests l.p q h.names l.within within.1 (subst (λ x. x < name_at t.requests q) (sym l.name) before) in
    let least = first_is_least 0 q (rest ++ kept) (length t.requests) l.p line at in
    omega arith

-- a message of the queue makes none while its link is held back
held_stays : (b : Book) (t : TurnState) (p : ℕ) → Tied b t → IsRunning t → holds_back (link_in t.life) ≡ true → IsIn p (queue_ids (link_in t.life).queue) → is_due (next_step b (name_at t.requests p)) ≡ false
held_stays b t p h r held i = ap is_due (queue_step b t p h r i ∙ ap starts_or_waits held)

-- what is in the queue makes no step, since there is nothing or the link is held back
pub queue_stays : (b : Book) (t : TurnState) (p : ℕ) → Tied b t → IsRunning t → ((link_in t.life).queue ≡ []) ⊎ (holds_back (link_in t.life) ≡ true) → IsIn p (queue_ids (link_in t.life).queue) → is_due (next_step b (name_at t.requests p)) ≡ false
queue_stays b t p h r still i = elim still [ inl none ↦ absurd (subst (λ qs. IsIn p (queue_ids qs)) none i) | inr held ↦ held_stays b t p h r held i ]

-- so the first of those that wait is the first that makes one
pub first_behind : (b : Book) (t : TurnState) (q : ℕ) (rest : List ℕ) → Tied b t → IsRunning t → ((link_in t.life).queue ≡ []) ⊎ (holds_back (link_in t.life) ≡ true) → kept_ids t.admitted t.waiting ≡ q ∷ rest → IsFirstToMove b (name_at t.requests q)
first_behind b t q rest h r still first n before m =
    let ids = queue_ids (link_in t.life).queue in
    let kept = kept_ids t.admitted t.waiting in
    let l = moves_later b t n h r m in
    let all = rising_right 0 ids kept (length t.requests) (rising_right 0 (requests_in t.started) (ids ++ kept) (length t.requests) h.lines.line) in
    let line = subst (λ ns. Rising 0 ns (length t.requests)) first all in
    let within = rising_in 0 (q ∷ rest) (length t.requests) q line (inl refl) in
    let earlier = earlier_name t.table t.requests l.p q h.names l.within within.1 (subst (λ x. x < name_at t.requests q) (sym l.name) before) in
    elim l.later [
      | inl i ↦ not_both (is_due (next_step b n)) (ap (λ x. is_due (next_step b x)) (sym l.name) ∙ queue_stays b t l.p h r still i) m.due
      | inr w ↦ let least = first_is_least 0 q rest (length t.requests) l.p line (subst (IsIn l.p) first (kept_in t.requests t.waiting t.admitted l.p w)) in omega arith
    ]

-- every step that may be made was made
--
-- nothing of a link that isn't up does
down_moves_none : (b : Book) (t : TurnState) → Tied b t → (b.link t.link).up ≡ false → (n : ℕ) → CanMove b n → ⊥
down_moves_none b t h down n m = not_both (b.link t.link).up down (subst (λ l. (b.link l).up ≡ true) (moves_here b t n h m) (moves_up b n m))

-- nor does one on a link that waits for credentials
wanting_moves_none : (b : Book) (t : TurnState) (link : LinkState) → Tied b t → t.life ≡ Wanting link → (n : ℕ) → CanMove b n → ⊥
wanting_moves_none b t link h e n m =
    let a = alive_behind b t n h (unstarted_alive (b.story n) m.unstarted) in
    not_both (is_due (next_step b n)) (ap (λ k. is_due (next_step b k)) (sym a.name) ∙ ap is_due (creds_step b t a.p link h e (ap (λ k. (b.story k).link) a.name ∙ moves_here b t n h m))) m.due

-- nor does one on a link that isn't set up
setting_moves_none : (b : Book) (t : TurnState) (link : LinkState) (greeting : Greeting) → Tied b t → t.life ≡ SettingUp link greeting → (n : ℕ) → CanMove b n → ⊥
setting_moves_none b t link greeting h e n m =
    let a = alive_behind b t n h (unstarted_alive (b.story n) m.unstarted) in
    not_both (is_due (next_step b n)) (ap (λ k. is_due (next_step b k)) (sym a.name) ∙ ap is_due (setup_step b t a.p link greeting h e (ap (λ k. (b.story k).link) a.name ∙ moves_here b t n h m))) m.due

-- nor does one on a link on which what is subscribed again isn't answered
repeating_moves_none : (b : Book) (t : TurnState) (link : LinkState) → Tied b t → t.life ≡ Ready link → is_outstanding t.again ≡ true → (n : ℕ) → CanMove b n → ⊥
repeating_moves_none b t link h e goes n m =
    let a = alive_behind b t n h (unstarted_alive (b.story n) m.unstarted) in
    not_both (is_due (next_step b n)) (ap (λ k. is_due (next_step b k)) (sym a.name) ∙ ap is_due (repeat_step b t a.p link h e goes (ap (λ k. (b.story k).link) a.name ∙ moves_here b t n h m))) m.due

-- a link is held back by what is unwritten
setting_held : (b : Book) (t : TurnState) (link : LinkState) (greeting : Greeting) → Tied b t → t.life ≡ SettingUp link greeting → IsFit t.size t.bound link → holds_back link ≡ true → is_held_back b (b.link t.link) ≡ true
setting_held b t link greeting h e fit stuck =
    let l = b.link t.link in
    let tied : TiedLink (λ (p : ℕ). greeter greeting) l link = subst (λ (x : Life). TiedLink (carried x t.requests) l (whole_link x)) e (h.link (ap has_ended e)) in
    held_by b t (λ (p : ℕ). greeter greeting) link h.numbers fit.bound_is tied ∙ stuck

-- it is to start no more, or is held back
setting_done : (b : Book) (t : TurnState) (link : LinkState) (greeting : Greeting) → Tied b t → t.life ≡ SettingUp link greeting → IsFit t.size t.bound link → (link.queue ≡ []) ⊎ (holds_back link ≡ true) → (setup_due (b.link t.link) ≡ None) ⊎ (is_held_back b (b.link t.link) ≡ true)
setting_done b t link greeting h e fit held =
    let said = (subst (HasSaid (b.link t.link) t.started) e h.setup.said).1 in
    elim held [ inl empty ↦ inl (setup_gone (b.link t.link) link greeting said empty) | inr stuck ↦ inr (setting_held b t link greeting h e fit stuck) ]

-- and so is MONITOR
watching_done : (b : Book) (t : TurnState) (link : LinkState) → Tied b t → t.life ≡ SettingUp link greet.Monitor → IsFit t.size t.bound link → (link.queue ≡ []) ⊎ (holds_back link ≡ true) → (monitor_due (b.link t.link) ≡ true → ⊥) ⊎ (is_held_back b (b.link t.link) ≡ true)
watching_done b t link h e fit held =
    let l = b.link t.link in
    let said = (subst (HasSaid l t.started) e h.setup.said).1 in
    elim held [
      | inl empty ↦ inl (λ due. elim said.stage [
        | inl queued ↦ (let no : [] ≡ watch_queued ∷ [] = sym empty ∙ queued.queue in cc)
        | inr sent ↦ (let no : ◌≡◌ {A = Option ℕ} None (Some sent.k) = sym (watch_is_new l due) ∙ sent.sent in cc)
      ])
      | inr stuck ↦ inr (setting_held b t link greet.Monitor h e fit stuck)
    ]

-- on a link that takes requests what is in the queue is held back, those that wait for a place find it full, and the others no permit
up_moves_none : (b : Book) (t : TurnState) → Tied b t → IsRunning t → t.being_admitted ≡ [] → ((link_in t.life).queue ≡ []) ⊎ (holds_back (link_in t.life) ≡ true) → (t.admitted ≡ []) ⊎ (is_full_beside (link_in t.life) (in_front t.renewal) ≡ true)
    → (t.waiting ≡ []) ⊎ (has_no_permit t.limit t.free ≡ true) → AreBegun t.rounds t.again t.life t.requests → (n : ℕ) → CanMove b n → ⊥
up_moves_none b t h r nobody still full none begun n m =
    let l = moves_later b t n h r m in
    let stays : is_due (next_step b (name_at t.requests l.p)) ≡ false → ⊥ = λ e. not_both (is_due (next_step b n)) (ap (λ x. is_due (next_step b x)) (sym l.name) ∙ e) m.due in
    elim l.later [
      | inl i ↦ stays (queue_stays b t l.p h r still i)
      | inr k ↦ elim k [
        | inl a ↦ elim full [
          | inl empty ↦ absurd (subst (λ ws. IsIn l.p (waiting_ids ws)) empty a.1)
          | inr filled ↦ stays (ap is_due (full_step b t l.p h r filled a.0 a.1))
        ]
        | inr w ↦ elim none [
          | inl empty ↦ absurd (subst (λ ws. IsIn l.p (waiting_ids ws)) empty w.1)
          | inr held ↦ stays (ap is_due (permit_step b t l.p h r w.0 (λ shows. begun shows (answered_serves t.life t.again r.up r.served) l.p) (λ i. subst (IsIn l.p) nobody i) held))
        ]
      ]
    ]

-- and where the rounds of all before it have begun, that of a request may begin
pub first_round : (b : Book) (t : TurnState) (p : ℕ) → Tied b t → IsRunning t → t.being_admitted ≡ [] → ((link_in t.life).queue ≡ []) ⊎ (holds_back (link_in t.life) ≡ true) → (t.admitted ≡ []) ⊎ (is_full_beside (link_in t.life) (in_front t.renewal) ≡ true)
    → (t.waiting ≡ []) ⊎ (has_no_permit t.limit t.free ≡ true) → p < length t.requests → ((m : ℕ) → m < p → is_unbegun_at t.requests m ≡ false) → IsFirstToMove b (name_at t.requests p)
first_round b t p h r nobody still full none within begun n before m =
    let l = moves_later b t n h r m in
    let earlier = earlier_name t.table t.requests l.p p h.names l.within within (subst (λ x. x < name_at t.requests p) (sym l.name) before) in
    let stays : is_due (next_step b (name_at t.requests l.p)) ≡ false → ⊥ = λ e. not_both (is_due (next_step b n)) (ap (λ x. is_due (next_step b x)) (sym l.name) ∙ e) m.due in
    elim l.later [
      | inl i ↦ stays (queue_stays b t l.p h r still i)
      | inr k ↦ elim k [
        | inl a ↦ elim full [
          | inl empty ↦ absurd (subst (λ ws. IsIn l.p (waiting_ids ws)) empty a.1)
          | inr filled ↦ stays (ap is_due (full_step b t l.p h r filled a.0 a.1))
        ]
        | inr w ↦ elim none [
          | inl empty ↦ absurd (subst (λ ws. IsIn l.p (waiting_ids ws)) empty w.1)
          | inr held ↦ stays (ap is_due (permit_step b t l.p h r w.0 (λ shows. begun l.p earlier) (λ i. subst (IsIn l.p) nobody i) held))
        ]
      ]
    ]

-- where nothing is to be answered, nothing must end, nothing moves, and no generation begins
pub is_moved : (b : Book) (t : TurnState) → Tied b t → t.pending ≡ [] → IsToldIn t → t.being_admitted ≡ [] → NoneEnds b → ((link : LinkState) → t.life ≡ Ready link → IsFit t.size t.bound link) → (serves t.life t.again ≡ false → t.admitted ≡ [])
    → ((link : LinkState) → t.life ≡ Ready link → (link.queue ≡ []) ⊎ (holds_back link ≡ true)) → ((link : LinkState) → t.life ≡ Ready link → (t.admitted ≡ []) ⊎ (is_full_beside link (in_front t.renewal) ≡ true))
    → ((link : LinkState) → t.life ≡ Ready link → is_outstanding t.again ≡ false → (t.waiting ≡ []) ⊎ (has_no_permit t.limit t.free ≡ true)) → (has_ended t.life ≡ true → t.waiting ≡ []) → IsHushedIn t → StaysPut b t.life
    → ((link : LinkState) (greeting : Greeting) → t.life ≡ SettingUp link greeting → IsFit t.size t.bound link) → ((link : LinkState) (greeting : Greeting) → t.life ≡ SettingUp link greeting → (link.queue ≡ []) ⊎ (holds_back link ≡ true))
    → HasSeats t.moved (in_front t.renewal) (link_in t.life) t.size → HasRepeated t.again t.life → HasRenewed t.renewal t.life → AreBegun t.rounds t.again t.life t.requests → IsMoved b
is_moved b t h none told alone ends fit nobody held full stuck gone hushed comes setup_fit setup_held seats repeated renewed rounded = by_life t.life refl
  where
    setups : SetupsAreStarted b
    setups = setups_started b t h (λ link greeting e. setting_done b t link greeting h e (setup_fit link greeting e) (setup_held link greeting e))

    monitors : MonitorsAreStarted b
    monitors = monitors_started b t h (λ link e. watching_done b t link h e (setup_fit link greet.Monitor e) (setup_held link greet.Monitor e))

    repeats_asked : RepeatsAreTimed b
    repeats_asked = repeating_timed b t h repeated

    repeats_told : RepeatsAreStarted b
    repeats_told = repeating_started b t h (λ link e. (fit link e).bound_is) repeated

    timed : RenewalsAreTimed b
    timed = renewals_timed b t h (λ link e due. (renewed link e due).0)

    told_all : RenewalsAreStarted b
    told_all = renewals_started b t h (λ link e. (fit link e).bound_is) renewed

    by_life : (life : Life) → t.life ≡ life → IsMoved b
    by_life Resting e = record {
      begun = record { applied = applied_resting b t h (comes (ap goes_on e)) hushed none told e (nobody (unready_serves t.life t.again (ap is_ready e))) ends; setups = setups; monitors = monitors; repeats_timed = repeats_asked; repeated = repeats_told; timed = timed; renewed = told_all };
      moved = down_moves_none b t h (subst (TiedLife (b.link t.link) b.created) e h.life).1;
    }
    by_life Dialing e = record {
      begun = record { applied = applied_up b t h none told (ap is_resting e) (ap has_ended e) ends; setups = setups; monitors = monitors; repeats_timed = repeats_asked; repeated = repeats_told; timed = timed; renewed = told_all };
      moved = down_moves_none b t h (dialing_down (b.link t.link) b.created t.life e h.life);
    }
    by_life (Wanting link) e = record {
      begun = record { applied = applied_up b t h none told (ap is_resting e) (ap has_ended e) ends; setups = setups; monitors = monitors; repeats_timed = repeats_asked; repeated = repeats_told; timed = timed; renewed = told_all };
      moved = wanting_moves_none b t link h e;
    }
    by_life (SettingUp link greeting) e = record {
      begun = record { applied = applied_up b t h none told (ap is_resting e) (ap has_ended e) ends; setups = setups; monitors = monitors; repeats_timed = repeats_asked; repeated = repeats_told; timed = timed; renewed = told_all };
      moved = setting_moves_none b t link greeting h e;
    }
    by_life (Ready link) e =
        let here : link_in t.life ≡ link = ap link_in e in
        record {
          begun = record { applied = applied_up b t h none told (ap is_resting e) (ap has_ended e) ends; setups = setups; monitors = monitors; repeats_timed = repeats_asked; repeated = repeats_told; timed = timed; renewed = told_all };
          moved = λ n m. by_test (is_outstanding t.again) ⊥
              (λ goes. repeating_moves_none b t link h e goes n m)
              (λ served.
              up_moves_none b t h (running_of t link none e served (fit link e) (subst (λ (x : LinkState). HasSeats t.moved (in_front t.renewal) x t.size) here seats)) alone
              (subst (λ (x : LinkState). (x.queue ≡ []) ⊎ (holds_back x ≡ true)) (sym here) (held link e))
              (subst (λ (x : LinkState). (t.admitted ≡ []) ⊎ (is_full_beside x (in_front t.renewal) ≡ true)) (sym here) (full link e))
              (stuck link e served) rounded n m);
        }
    by_life (Ended x) e = record {
      begun = record {
        applied = applied_over b t (Ended x) refl h (comes (ap goes_on e)) none told e (λ i. kept_ids (nobody (unready_serves t.life t.again (ap is_ready e)) i) (gone (ap has_ended e) i)) ends;
        setups = setups;
        monitors = monitors;
        repeats_timed = repeats_asked;
        repeated = repeats_told;
        timed = timed;
        renewed = told_all;
      };
      moved = down_moves_none b t h (subst (λ (x : Life). TiedLife (b.link t.link) b.created x) e h.life).0;
    }
