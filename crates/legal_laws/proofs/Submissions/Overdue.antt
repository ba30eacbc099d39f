-- Timers of submissions run only on links whose opening didn't fail.
use Rattle.std.proofs.Common.{◌≡◌, ◌⊎◌, inl, inr, ℕ, zero, suc, ◌-◌, ◌<◌, ◌≤◌, ◌==◌, true, false, List, [], ◌∷◌, ◌++◌, Some, None, sym, ◌∙◌, ap, subst, refl, arith}
use Rattle.std.specs.Prelude.{slice_get}
use Rattle.containers.proofs.Choices.{eq_from, not_both, both_right}
use Rattle.redis_error.specs.declared.redis_error.RedisError.{RedisError}
use Rattle.driver_model.specs.declared.action.Action.{Action}
use Rattle.driver_model.specs.declared.action.Action.TheVariants as action
use Rattle.driver_model.specs.declared.action.Cause.TheVariants as cause
use Rattle.driver_model.specs.declared.action.Owner.TheVariants as owner
use Rattle.driver_model.specs.declared.action.Purpose.{Purpose}
use Rattle.driver_model.specs.News.{news_of}
use Rattle.legal_trace.specs.Ledger.{Ledger, asks, begins, offers, ends, failure_in, setup_due, sources}
use Rattle.legal_trace.specs.Story.{Story, left, answered}
use Rattle.legal_trace.specs.Managers.{settings_in, is_last}
use Rattle.legal_trace.specs.Book.{Book, blank_book, book, entered, entered_each, has_generations, info_in, wanted_in, hearing_in, message_of, is_clock_of}
use Rattle.legal_trace.proofs.Clocks.{timer_keeps, timer_tells}
use Rattle.legal_laws.proofs.Submissions.Steps.{action_keeps, left_keeps}
use Rattle.legal_trace.specs.Legal.{MayTimer, MayTime, MayStand, AllStand, link_of, current_link, is_attempt}
use Rattle.legal_trace.specs.Again.{repeats_in}
use Rattle.legal_trace.proofs.Ledgers.{mine_keeps}
use Rattle.legal_laws.proofs.Submissions.InLine.{follows, submissions_grow}
use Rattle.legal_trace.proofs.Moves.{mover_is_ready, ready_is_up, ready_is_set, asker_moves}
use Rattle.legal_trace.proofs.Setups.{set_is_undue, due_is_up}
use Rattle.legal_laws.proofs.Traces.Numbers.{mover_is_numbered, up_is_asked, asked_kept, asked_is_numbered}
use Rattle.legal_laws.proofs.Links.Quiet.{IsQuiet, begins_quiet, ends_quiet, ends_first, first_hears}
use Rattle.legal_laws.proofs.Links.Turned.{turn_quiet}
use Rattle.legal_laws.proofs.Traces.Sound.{Sound, stays_sound, blank_is_sound}
use Rattle.legal_laws.proofs.Notices.Pushed.{push_keeps, tell_keeps}

-- one of these timers is that of submission n
abbrev pub HasClock : ℕ → List Purpose → Type 0
HasClock n [] = ⊥
HasClock n (p ∷ ps) = (is_clock_of n (Some p) ≡ true) ⊎ HasClock n ps

-- the timer of that number is one of these
clock_at : (n : ℕ) (ps : List Purpose) (t : ℕ) → is_clock_of n (slice_get ps t) ≡ true → HasClock n ps
clock_at n [] t e = absurd (cc e)
clock_at n (p ∷ ps) zero e = inl e
clock_at n (p ∷ ps) (suc t) e = inr (clock_at n ps t e)

-- of timers and one more, one of them or that
clock_more : (n : ℕ) (ps : List Purpose) (p : Purpose) → HasClock n (ps ++ p ∷ []) → HasClock n ps ⊎ (is_clock_of n (Some p) ≡ true)
clock_more n [] p (inl e) = inr e
clock_more n [] p (inr h) = absurd h
clock_more n (q ∷ ps) p (inl e) = inl (inl e)
clock_more n (q ∷ ps) p (inr h) = elim (clock_more n ps p h) [ inl before ↦ inl (inr before) | inr new ↦ inr new ]

-- the connect of a link was asked for, and its opening is over and didn't fail, nor does another attempt follow it
pub record HasOpened (l : Ledger) : Type 0 where
  pub asked : l.asked ≡ true
  pub quiet : IsQuiet [] l
  pub first : is_attempt l.end ≡ false

-- a submission was handed in, and so is its link
abbrev pub IsOnALink : Book → ℕ → Type 0
IsOnALink b n = (n < b.submissions) × HasOpened (link_of b n)

-- such a link stays so
opened_stays : (b : Book) (a : Action) → MayStand b a → Sound b → (l : ℕ) → HasOpened (b.link l) → HasOpened ((entered b a).link l)
opened_stays b (action.Turn k (cause.Opening config word)) may h l q = q
opened_stays b (action.Turn k (cause.Event e)) may h l q = record {
  asked = asked_kept b l (action.Turn k (cause.Event e)) may h.links (asked_is_numbered b l h.links q.asked);
  quiet = turn_quiet b k e [] l may h q.quiet;
  first = first_hears (b.link l) k (news_of b.timers b.sources l e.kind) q.asked q.quiet.quiet q.first;
}
opened_stays b (action.Connect m host port) may h l q =
    mine_keeps HasOpened (m == l) (b.link l) (asks (info_in b.config) (wanted_in b.config) (hearing_in b.config) (is_last (settings_in b.config) b.attempt) (repeats_in (settings_in b.config) b.tracked))
    (λ t. absurd (not_both (b.link l).asked (let same : m ≡ l = eq_from m l t in let next : m ≡ b.links = may.next in (h.links.unasked l (omega (arith, same, next))).0) q.asked)) q
opened_stays b (action.Timer t ms what) may h l q = timer_tells HasOpened (b.link l) l what (λ on k is t. record { asked = q.asked; quiet = record { quiet = q.quiet.quiet; tells = q.quiet.tells }; first = q.first }) (λ on is t. record { asked = q.asked; quiet = record { quiet = q.quiet.quiet; tells = q.quiet.tells }; first = q.first }) q
opened_stays b (action.Took owner.Setup m count) may h l q = absurd may
opened_stays b (action.Took owner.Auth m count) may h l q = absurd may
opened_stays b (action.Took owner.Resub m count) may h l q = absurd may
opened_stays b (action.Took owner.Monitor m count) may h l q = absurd may
opened_stays b (action.Took (owner.Try n round) m count) may h l q = q
opened_stays b (action.Push m info) may h l q = push_keeps HasOpened (m == l) info.kind (b.link l) (record { asked = q.asked; quiet = record { quiet = q.quiet.quiet; tells = q.quiet.tells }; first = q.first }) (record { asked = q.asked; quiet = record { quiet = q.quiet.quiet; tells = q.quiet.tells }; first = q.first }) q
opened_stays b (action.Message msg) may h l q = tell_keeps HasOpened (b.current == l) (b.link l) (record { asked = q.asked; quiet = record { quiet = q.quiet.quiet; tells = q.quiet.tells }; first = q.first }) q
opened_stays b (action.Monitor v) may h l q = tell_keeps HasOpened (b.current == l) (b.link l) (record { asked = q.asked; quiet = record { quiet = q.quiet.quiet; tells = q.quiet.tells }; first = q.first }) q
opened_stays b (action.NeedCreds c m) may h l q = mine_keeps HasOpened (m == l) (b.link l) sources (λ t. record { asked = q.asked; quiet = record { quiet = q.quiet.quiet; tells = q.quiet.tells }; first = q.first }) q
opened_stays b (action.Generation g) may h l q = q
opened_stays b (action.Round who m) may h l q = q
opened_stays b (action.Close m) may h l q = mine_keeps HasOpened (m == l) (b.link l) (ends (b.turns - 1)) (λ t. record { asked = q.asked; quiet = ends_quiet [] (b.link l) (b.turns - 1) q.quiet; first = ends_first (b.link l) (b.turns - 1) q.quiet.quiet }) q
opened_stays b (action.Write m bytes) may h l q = mine_keeps HasOpened (m == l) (b.link l) (offers bytes) (λ t. record { asked = q.asked; quiet = record { quiet = q.quiet.quiet; tells = q.quiet.tells }; first = q.first }) q
opened_stays b (action.Wait owner.Setup kind) may h l q = absurd may
opened_stays b (action.Wait owner.Auth kind) may h l q = absurd may
opened_stays b (action.Wait owner.Resub kind) may h l q = absurd may
opened_stays b (action.Wait owner.Monitor kind) may h l q = absurd may
opened_stays b (action.Wait (owner.Try n round) kind) may h l q = q
opened_stays b (action.Start m k owner.Setup count len) may h l q =
    mine_keeps HasOpened (m == l) (b.link l) (begins (message_of b m owner.Setup))
    (λ t. absurd (let due : setup_due (b.link l) ≡ Some may.k = ap (λ j. setup_due (b.link j)) (sym (eq_from m l t)) ∙ may.due in set_is_undue (b.link l) may.k (q.quiet.quiet.1 (due_is_up (b.link l) may.k due)) due)) q
opened_stays b (action.Start m k owner.Auth count len) may h l q =
    mine_keeps HasOpened (m == l) (b.link l) (begins (message_of b m owner.Auth)) (λ t. record { asked = q.asked; quiet = begins_quiet [] (b.link l) (message_of b m owner.Auth) refl q.quiet; first = q.first }) q
opened_stays b (action.Start m k owner.Resub count len) may h l q =
    mine_keeps HasOpened (m == l) (b.link l) (begins (message_of b m owner.Resub)) (λ t. record { asked = q.asked; quiet = begins_quiet [] (b.link l) (message_of b m owner.Resub) refl q.quiet; first = q.first }) q
opened_stays b (action.Start m k owner.Monitor count len) may h l q =
    mine_keeps HasOpened (m == l) (b.link l) (begins (message_of b m owner.Monitor)) (λ t. record { asked = q.asked; quiet = begins_quiet [] (b.link l) (message_of b m owner.Monitor) refl q.quiet; first = q.first }) q
opened_stays b (action.Start m k (owner.Try n round) count len) may h l q =
    mine_keeps HasOpened (m == l) (b.link l) (begins (message_of b m (owner.Try n round))) (λ t. record { asked = q.asked; quiet = begins_quiet [] (b.link l) (message_of b m (owner.Try n round)) refl q.quiet; first = q.first }) q
opened_stays b (action.Created e) may h l q = q
opened_stays b (action.Outcome n o) may h l q = q

-- a submission on it doesn't go to another one
opened_on : (b : Book) (a : Action) → MayStand b a → Sound b → (n : ℕ) → n < b.submissions → HasOpened (link_of b n) → ((entered b a).story n).link ≡ (b.story n).link
opened_on b a may h n i q = elim (follows b a may n i).on [
  | inl stays ↦ stays.link
  | inr goes ↦
      let attempt : is_attempt (current_link b).end ≡ true = both_right (has_generations b) (is_attempt (current_link b).end) goes.0 in
      absurd (not_both (is_attempt (link_of b n).end) q.first (ap (λ l. is_attempt (b.link l).end) ((h.goes n).open_on goes.1) ∙ attempt))
]

-- so it stays on it
link_stays : (b : Book) (a : Action) → MayStand b a → Sound b → (n : ℕ) → IsOnALink b n → IsOnALink (entered b a) n
link_stays b a may h n on =
    let i : n < b.submissions = on.0 in
    let grows : b.submissions ≤ (entered b a).submissions = submissions_grow b a in (
      omega (arith, i, grows),
      subst (λ x. HasOpened ((entered b a).link x)) (sym (opened_on b a may h n i on.1)) (opened_stays b a may h (b.story n).link on.1),
    )

-- each submission for which a timer was asked is on such a link, and so is each whose timer fired
pub record TimesRun (b : Book) : Type 0 where
  pub asked : (n : ℕ) → HasClock n b.timers → IsOnALink b n
  pub over : (n : ℕ) → (b.story n).overdue ≡ true → IsOnALink b n

-- whose timer is asked for now is on one that is up
asker_on_a_link : (b : Book) (t ms : ℕ) (what : Purpose) → Sound b → (may : MayTime b t ms what) → IsOnALink b may.n
asker_on_a_link b t ms what h may =
    let ready = mover_is_ready b may.n (asker_moves b t ms what may) in
    let up = ready_is_up (link_of b may.n) ready in (
      mover_is_numbered b may.n h.stories (asker_moves b t ms what may),
      record {
        asked = up_is_asked b (b.story may.n).link h.links up;
        quiet = record {
          quiet = (λ asked down lives. not_both (link_of b may.n).up down up, λ is_up. ready_is_set (link_of b may.n) ready);
          tells = λ e fails. absurd (let x : failure_in None ≡ Some e = sym (ap failure_in (h.up (b.story may.n).link up)) ∙ fails in cc x);
        };
        first = ap is_attempt (h.up (b.story may.n).link up);
      },
    )

-- the timer that is asked for now
new_clock : (b : Book) (t ms : ℕ) (what : Purpose) (n : ℕ) → Sound b → MayTimer b t ms what → is_clock_of n (Some what) ≡ true → IsOnALink b n
new_clock b t ms what n h (inl (inl may)) e = absurd (let x : false ≡ true = sym (ap (λ p. is_clock_of n (Some p)) may.is_for) ∙ e in cc x)
new_clock b t ms what n h (inl (inr may)) e = absurd (let x : false ≡ true = sym (ap (λ p. is_clock_of n (Some p)) may.is_for) ∙ e in cc x)
new_clock b t ms what n h (inr (inr (inl may))) e = absurd (let x : false ≡ true = sym (ap (λ p. is_clock_of n (Some p)) may.is_for) ∙ e in cc x)
new_clock b t ms what n h (inr (inr (inr may))) e = absurd (let x : false ≡ true = sym (ap (λ p. is_clock_of n (Some p)) may.is_for) ∙ e in cc x)
new_clock b t ms what n h (inr (inl may)) e = subst (IsOnALink b) (eq_from may.n n (sym (ap (λ p. is_clock_of n (Some p)) may.is_for) ∙ e)) (asker_on_a_link b t ms what h may)

-- where a timer was asked for, it was before, or is now
clock_before : (b : Book) (a : Action) → MayStand b a → Sound b → TimesRun b → (n : ℕ) → HasClock n (entered b a).timers → IsOnALink b n
clock_before b (action.Turn k (cause.Opening config word)) may h run n c = run.asked n c
clock_before b (action.Turn k (cause.Event e)) may h run n c = run.asked n c
clock_before b (action.Connect m host port) may h run n c = run.asked n c
clock_before b (action.Timer t ms what) may h run n c = elim (clock_more n b.timers what c) [ inl before ↦ run.asked n before | inr new ↦ new_clock b t ms what n h may new ]
clock_before b (action.Took who m count) may h run n c = run.asked n c
clock_before b (action.Push m info) may h run n c = run.asked n c
clock_before b (action.Message msg) may h run n c = run.asked n c
clock_before b (action.Monitor v) may h run n c = run.asked n c
clock_before b (action.NeedCreds s m) may h run n c = run.asked n c
clock_before b (action.Generation g) may h run n c = run.asked n c
clock_before b (action.Round who m) may h run n c = run.asked n c
clock_before b (action.Close m) may h run n c = run.asked n c
clock_before b (action.Write m bytes) may h run n c = run.asked n c
clock_before b (action.Wait who kind) may h run n c = run.asked n c
clock_before b (action.Start m k who count len) may h run n c = run.asked n c
clock_before b (action.Created e) may h run n c = run.asked n c
clock_before b (action.Outcome m o) may h run n c = run.asked n c

-- one whose time is over: it was before, or has a timer
abbrev WasOver : Book → ℕ → Story → Type 0
WasOver b n s = s.overdue ≡ true → ((b.story n).overdue ≡ true) ⊎ HasClock n b.timers

-- so it is behind each action
over_before : (b : Book) (a : Action) (n : ℕ) → WasOver b n ((entered b a).story n)
over_before b a n =
    action_keeps (WasOver b n) b a n (record {
      events = record {
        handed = λ what t e. inl e;
        left = left_keeps (WasOver b n) (b.story n) (λ o e. inl e) (λ e. inl e);
        fired = λ t c e. inr (clock_at n b.timers t c);
      };
      timed = λ t ms what e. timer_keeps (WasOver b n) b n t what (λ r o e. inl e) (λ c e. inl e) (λ e. inl e);
      held = λ l count round e u. inl u;
      rounded = (λ e. inl e);
      waited = λ kind e. inl e;
      started = λ l k round count len e u. inl u;
      answered = λ o e u. inl u;
    }) (λ e. inl e)

-- each action that may stand keeps it
times_kept : (b : Book) (a : Action) → MayStand b a → Sound b → TimesRun b → TimesRun (entered b a)
times_kept b a may h run = record {
  asked = λ n c. link_stays b a may h n (clock_before b a may h run n c);
  over = λ n e. link_stays b a may h n (elim (over_before b a n e) [ inl before ↦ run.over n before | inr c ↦ run.asked n c ]);
}

-- and so do many
each_runs : (b : Book) (front : List Action) → AllStand b front → Sound b → TimesRun b → TimesRun (entered_each b front)
each_runs b [] all h run = run
each_runs b (a ∷ more) all h run = each_runs (entered b a) more all.1 (stays_sound b a all.0 h) (times_kept b a all.0 h run)

-- so it is behind actions that may stand
pub times_run : (front : List Action) → AllStand blank_book front → TimesRun (book front)
unfolding book
times_run front all = each_runs blank_book front all blank_is_sound (record { asked = λ n c. absurd c; over = λ n e. absurd (cc e) })

-- where the opening of its link failed, the time of a submission isn't over
pub failed_in_time : (b : Book) (n : ℕ) (e : RedisError) → TimesRun b → failure_in (link_of b n).end ≡ Some e → (b.story n).overdue ≡ true → ⊥
failed_in_time b n e run fails over = let x : [] ≡ Some e ∷ [] = (run.over n over).1.quiet.tells e fails in cc x
