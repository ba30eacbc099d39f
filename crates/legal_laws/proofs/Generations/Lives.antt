-- One link is current: the others are aside, submissions that are open go to it, and it has ended where a new link is to come.
use Rattle.std.proofs.Common.{◌≡◌, ◌≢◌, ◌⊎◌, inl, inr, ℕ, ◌+◌, ◌-◌, ◌<◌, ◌≤◌, ◌==◌, nat_lt, max, Bool, true, false, ◌&&◌, ◌||◌, not, List, [], ◌∷◌, ◌++◌, length, Option, Some, None, is_some, is_none, if◌then◌else◌, refl, sym, ◌∙◌, ap, subst, arith}
use Rattle.std.specs.List.{list_any}
use Rattle.std.proofs.lemmas.List.Folds.{list_any-append}
use Rattle.std.proofs.lemmas.Bool.{not-true}
use Rattle.containers.proofs.Choices.{by_test, chosen, left_if, taken_if, eq_from, ne_from, ne_test, lt_from, both_left, both_right, not_both}
use Rattle.redis_error.specs.declared.fault_kind.FaultKind.TheVariants as kind
use Rattle.redis_error.specs.declared.redis_error.RedisError.{RedisError}
use Rattle.redis_error.specs.declared.redis_error.RedisError.TheVariants as error
use Rattle.redis_error.specs.Errors.{is_io}
use Rattle.connection_info.specs.Protocol.{is_resp3}
use Rattle.driver_model.specs.declared.action.Action.{Action}
use Rattle.driver_model.specs.declared.action.Action.TheVariants as action
use Rattle.driver_model.specs.declared.action.Cause.TheVariants as cause
use Rattle.driver_model.specs.declared.config.Config.{Config}
use Rattle.driver_model.specs.declared.event.Event.{Event}
use Rattle.driver_model.specs.declared.action.Purpose.{Purpose}
use Rattle.driver_model.specs.declared.outcome.Outcome.{Outcome}
use Rattle.driver_model.specs.declared.outcome.Outcome.TheVariants as outcome
use Rattle.driver_model.specs.declared.outcome.Shape.{Shape}
use Rattle.driver_model.specs.Shape.{outcome_of, verdict_of}
use Rattle.legal_trace.specs.Ledger.{Ledger, End, Ending, by_shutdown, by_fault, by_opening, by_attempt, is_over, is_full, cut, failure_of, failure_in}
use Rattle.legal_trace.specs.Story.{Story, Try, is_open, bytes_of, shape, last_of}
use Rattle.legal_trace.specs.Managers.{settings_in, is_lazy}
use Rattle.legal_trace.specs.Owed.{owed_to_try, owed_to_message, owed_waiting, owed_unstarted, cut_off_if}
use Rattle.legal_trace.specs.Book.{Book, entered, faults_in, has_generations, info_in, is_rest}
use Rattle.legal_trace.specs.Legal.{MayStand, MayTimer, MayRest, MayGenerate, MayConnect, MayAnswer, MayTell, MayShowCreation, IsShown, current_link, is_by_attempt, is_attempt, is_cause, is_lost, is_lost_in, is_caused, generation_due, link_due, begins_first, are_pushes_heard}
use Rattle.legal_trace.proofs.Clocks.{timer_rests}
use Rattle.legal_trace.proofs.Ledgers.{UpIsNotOver}
use Rattle.legal_trace.proofs.Moves.{one_holds}
use Rattle.legal_trace.proofs.Plain.{not_none, same_some}
use Rattle.legal_laws.proofs.Generations.Aside.{IsAside, aside_kept}
use Rattle.legal_trace.proofs.Causes.{needs_link, needs_in, verdict_needs_none}
use Rattle.legal_laws.proofs.Links.Ended.{end_kept}
use Rattle.legal_laws.proofs.Traces.Numbers.{HasLinks}
use Rattle.legal_laws.proofs.Links.Opens.{IsOpening, due_has_no_link}
use Rattle.legal_laws.proofs.Links.Quiet.{failed_is_over}

-- a submission goes to the current link while it is open, and is of the current generation, or of the first before that began; its
-- messages go to its own link; it comes late only once everything is shut down; and it goes to no link that isn't current yet
pub record GoesOn (generation current : ℕ) (shut : Bool) (s : Story) : Type 0 where
  pub open_on : is_open s ≡ true → s.link ≡ current
  pub open_in : is_open s ≡ true → s.generation ≡ max 1 generation
  pub tries_on : (t : Try) → last_of s.tries ≡ Some t → t.link ≡ s.link
  pub late_on : s.late ≡ true → shut ≡ true
  pub behind : s.link ≤ current

-- so each does
abbrev pub Goes : Book → Type 0
Goes b = (n : ℕ) → GoesOn b.generation b.current b.shut (b.story n)

-- this link has ended
abbrev pub HasEnded : Ledger → Type 0
HasEnded l = (end : End) × (l.end ≡ Some end)

-- the current link is the last that was asked for, or the next one; all others are aside; before the first generation no link is asked
-- for; where the creation failed, the opening of the current link did; an error of this turn that only a new link helps came since
-- everything was shut down, or since the current link has ended; and a session that waits for its first submission is created
-- before the first event
pub record Lives (b : Book) : Type 0 where
  pub near : (b.current ≡ b.links) ⊎ (b.current + 1 ≡ b.links)
  pub aside : (l : ℕ) → l ≢ b.current → IsAside (are_pushes_heard b) b.created (b.link l)
  pub first : has_generations b ≡ true → b.generation ≡ 0 → b.links ≡ 0
  pub failed : b.failed ≡ true → (e : RedisError) × (failure_in (current_link b).end ≡ Some e)
  pub errors : list_any needs_link b.errors ≡ true → (b.shut ≡ true) ⊎ HasEnded (current_link b)
  pub lazy : 1 < b.turns → is_lazy b.config ≡ true → b.created ≢ 0

-- what a connect needs that is due
due_link_is_unasked : (b : Book) → link_due b ≡ true → has_generations b ≡ true → ((current_link b).asked ≡ false) × (0 < b.generation) × (b.shut ≡ false)
due_link_is_unasked b due has =
    let all : (nat_lt 0 b.generation && (not (current_link b).asked && (is_none b.rest && not b.shut))) ≡ true =
    sym (taken_if (has_generations b) (nat_lt 0 b.generation && (not (current_link b).asked && (is_none b.rest && not b.shut))) (b.links == 0) has) ∙ due in
    let more : (not (current_link b).asked && (is_none b.rest && not b.shut)) ≡ true = both_right (nat_lt 0 b.generation) (not (current_link b).asked && (is_none b.rest && not b.shut)) all in (
      not-true (current_link b).asked (both_left (not (current_link b).asked) (is_none b.rest && not b.shut) more),
      lt_from 0 b.generation (both_left (nat_lt 0 b.generation) (not (current_link b).asked && (is_none b.rest && not b.shut)) all),
      not-true b.shut (both_right (is_none b.rest) (not b.shut) (both_right (not (current_link b).asked) (is_none b.rest && not b.shut) more)),
    )

-- the current link is the next one where it isn't asked for
pub unasked_is_next : (b : Book) → Lives b → HasLinks b → (current_link b).asked ≡ false → b.current ≡ b.links
unasked_is_next b h links unasked = elim h.near [
  | inl next ↦ next
  | inr last ↦ absurd (not_both (current_link b).asked unasked (links.asked b.current (omega (arith, last))))
]

-- and where there is none
none_is_next : (b : Book) → Lives b → b.links ≡ 0 → b.current ≡ b.links
none_is_next b h none = elim h.near [ inl next ↦ next | inr last ↦ absurd (omega (arith, last, none)) ]

-- so a link that is to be asked for is the current one
pub due_link_is_next : (b : Book) → Lives b → HasLinks b → link_due b ≡ true → b.current ≡ b.links
due_link_is_next b h links due = by_test (has_generations b) (b.current ≡ b.links)
    (λ has. unasked_is_next b h links (due_link_is_unasked b due has).0)
    (λ plain. none_is_next b h (due_has_no_link b due plain))

-- a lost link has ended
lost_is_over : (turn : ℕ) (o : Option End) → is_lost_in turn o ≡ true → is_some o ≡ true
lost_is_over turn None e = absurd (cc e)
lost_is_over turn (Some end) e = refl

-- of a list in which one passes a test, where each that passes it passes another
any_alike : {X : Type 0} (p q : X → Bool) (xs : List X) → ((x : X) → p x ≡ true → q x ≡ true) → list_any p xs ≡ true → list_any q xs ≡ true
any_alike p q [] same h = h
any_alike p q (x ∷ xs) same h = elim (one_holds (p x) (list_any p xs) h) [
  | inl this ↦ ap (λ (b : Bool). b || list_any q xs) (same x this)
  | inr that ↦ one_more (q x) (list_any q xs) (any_alike p q xs same that)
]
  where
    one_more : (a b : Bool) → b ≡ true → (a || b) ≡ true
    one_more true b e = refl
    one_more false b e = e

-- where no opening failed, a cause is an error that only a new link helps
cause_needs : (end : Option End) (e : RedisError) → is_some (failure_in end) ≡ false → is_cause end e ≡ true → needs_link e ≡ true
cause_needs end e well is = sym (left_if (is_some (failure_in end)) (is_io e) (needs_link e) well) ∙ is

-- what has an opening that failed has ended
failing_is_over : (o : Option End) → is_some (failure_in o) ≡ true → is_some o ≡ true
failing_is_over None e = absurd (cc e)
failing_is_over (Some end) e = refl

-- so where there is a cause, and everything wasn't shut down, the current link has ended
pub caused_is_over : (b : Book) → Lives b → b.shut ≡ false → is_caused b ≡ true → is_over (current_link b) ≡ true
caused_is_over b h open_still caused = elim (one_holds (is_lost b) (list_any (is_cause (current_link b).end) b.errors) caused) [
  | inl lost ↦ lost_is_over (b.turns - 1) (current_link b).end (both_right (is_resp3 (info_in b.config).protocol) (is_lost_in (b.turns - 1) (current_link b).end) lost)
  | inr error ↦ by_test (is_some (failure_in (current_link b).end)) (is_over (current_link b) ≡ true)
      (λ fails. failing_is_over (current_link b).end fails)
      (λ well. elim (h.errors (any_alike (is_cause (current_link b).end) needs_link b.errors (λ e. cause_needs (current_link b).end e well) error)) [
        | inl shut ↦ absurd (not_both b.shut open_still shut)
        | inr over ↦ ap is_some over.1
      ])
]

-- the parts of what lets a generation begin
pub due_parts : (b : Book) → generation_due b ≡ true → (has_generations b ≡ true) × (b.failed ≡ false) × (b.shut ≡ false) × ((if b.generation == 0 then begins_first b else is_caused b) ≡ true)
due_parts b due =
    let by : Bool = if b.generation == 0 then begins_first b else is_caused b in
    let more : (not b.failed && (not b.shut && by)) ≡ true = both_right (has_generations b) (not b.failed && (not b.shut && by)) due in
    let last : (not b.shut && by) ≡ true = both_right (not b.failed) (not b.shut && by) more in
    (both_left (has_generations b) (not b.failed && (not b.shut && by)) due, not-true b.failed (both_left (not b.failed) (not b.shut && by) more), not-true b.shut (both_left (not b.shut) by last), both_right (not b.shut) by last)

-- where the next generation begins there is a cause
pub due_is_caused : (b : Book) → generation_due b ≡ true → b.generation ≢ 0 → is_caused b ≡ true
due_is_caused b due some = sym (left_if (b.generation == 0) (begins_first b) (is_caused b) (ne_test b.generation 0 some)) ∙ (due_parts b due).3

-- where a generation begins it is the first, on the next link, or the current link has ended
pub generation_moves : (b : Book) → Lives b → generation_due b ≡ true → ((b.generation ≡ 0) × (b.current ≡ b.links)) ⊎ (is_over (current_link b) ≡ true)
generation_moves b h due =
    let parts = due_parts b due in
    by_test (b.generation == 0) (((b.generation ≡ 0) × (b.current ≡ b.links)) ⊎ (is_over (current_link b) ≡ true))
    (λ t. inl (eq_from b.generation 0 t, none_is_next b h (h.first parts.0 (eq_from b.generation 0 t))))
    (λ f. inr (caused_is_over b h parts.2 (due_is_caused b due (ne_from b.generation 0 f))))

-- an attempt that another one follows has ended
pub attempt_is_over : (o : Option End) → is_attempt o ≡ true → is_some o ≡ true
attempt_is_over None e = absurd (cc e)
attempt_is_over (Some end) e = refl

-- and is no failed opening
attempt_no_failure : (why : Ending) (e : RedisError) → is_by_attempt why ≡ true → failure_of why ≡ Some e → ⊥
attempt_no_failure by_shutdown e is fails = cc is
attempt_no_failure (by_fault f) e is fails = cc is
attempt_no_failure (by_opening x) e is fails = cc is
attempt_no_failure (by_attempt x) e is fails = cc fails

-- so it is of an end
pub attempt_fails_not : (o : Option End) (e : RedisError) → is_attempt o ≡ true → failure_in o ≡ Some e → ⊥
attempt_fails_not None e is fails = cc is
attempt_fails_not (Some end) e is fails = attempt_no_failure end.why e is fails

-- what has ended isn't dialled
over_dials_not : (asked up over : Bool) → over ≡ true → (asked && not up && not over) ≡ false
over_dials_not true true over e = refl
over_dials_not true false true e = refl
over_dials_not true false false e = absurd (cc e)
over_dials_not false up over e = refl

-- what has ended isn't up
pub over_is_down : (l : Ledger) → UpIsNotOver l → is_over l ≡ true → l.up ≡ false
over_is_down l up over = by_test l.up (l.up ≡ false) (λ t. absurd (not_both (is_over l) (ap is_some (up t)) over)) (λ f. f)

-- so a link that has ended is aside once all is shown
over_is_aside : (b : Book) (l : ℕ) → UpIsNotOver (b.link l) → IsShown b → is_over (b.link l) ≡ true → IsAside (are_pushes_heard b) b.created (b.link l)
over_is_aside b l up shown over = record {
  down = over_is_down (b.link l) up over;
  still = over_dials_not (b.link l).asked (b.link l).up (is_over (b.link l)) over;
  parted = shown.parted l;
  shown = shown.created.failed l;
}

-- the link that was current is aside where another one is
left_aside : (b : Book) (l : ℕ) → Lives b → UpIsNotOver (b.link l) → IsShown b → is_over (current_link b) ≡ true → IsAside (are_pushes_heard b) b.created (b.link l)
left_aside b l h up shown over = by_test (l == b.current) (IsAside (are_pushes_heard b) b.created (b.link l))
    (λ t. over_is_aside b l up shown (ap (λ j. is_over (b.link j)) (eq_from l b.current t) ∙ over))
    (λ f. h.aside l (ne_from l b.current f))

-- a failed opening stays one
pub failure_kept : (b : Book) (a : Action) (l : ℕ) (e : RedisError) → MayStand b a → UpIsNotOver (b.link l) → failure_in (b.link l).end ≡ Some e → failure_in ((entered b a).link l).end ≡ Some e
failure_kept b a l e may up fails =
    let over = failed_is_over (b.link l).end e fails in
    ap failure_in (end_kept b a l over.0 may up over.1) ∙ (sym (ap failure_in over.1) ∙ fails)

-- and an end does, or the shutdown
ended_kept : (b : Book) (a : Action) → MayStand b a → UpIsNotOver (current_link b) → (b.shut ≡ true) ⊎ HasEnded (current_link b) → (b.shut ≡ true) ⊎ HasEnded ((entered b a).link b.current)
ended_kept b a may up h = elim h [ inl shut ↦ inl shut | inr over ↦ inr (over.0, end_kept b a b.current over.0 may up over.1) ]

-- an action that leaves these as they are
record Unmoved (b : Book) (a : Action) : Type 0 where
  pub current : (entered b a).current ≡ b.current
  pub links : (entered b a).links ≡ b.links
  pub generation : (entered b a).generation ≡ b.generation
  pub failed : (entered b a).failed ≡ b.failed
  pub errors : (entered b a).errors ≡ b.errors
  pub shut : (entered b a).shut ≡ b.shut
  pub turns : (entered b a).turns ≡ b.turns
  pub config : (entered b a).config ≡ b.config
  pub created : (entered b a).created ≡ b.created

-- keeps the current link, too
unmoved_lives : (b : Book) (a : Action) → MayStand b a → IsOpening b → HasLinks b → ((l : ℕ) → UpIsNotOver (b.link l)) → Unmoved b a → Lives b → Lives (entered b a)
unmoved_lives b a may opens links up u h = record {
  near = subst (λ c. (c ≡ (entered b a).links) ⊎ (c + 1 ≡ (entered b a).links)) (sym u.current) (subst (λ k. (b.current ≡ k) ⊎ (b.current + 1 ≡ k)) (sym u.links) h.near);
  aside = λ l apart. aside_kept b a l may opens links apart (h.aside l (λ e. apart (e ∙ sym u.current)));
  first = λ has none. u.links ∙ h.first (sym (ap (λ c. is_some (settings_in c)) u.config) ∙ has) (sym u.generation ∙ none);
  failed = λ f. let old = h.failed (sym u.failed ∙ f) in (old.0, ap (λ c. failure_in ((entered b a).link c).end) u.current ∙ failure_kept b a b.current old.0 may (up b.current) old.1);
  errors = λ e. subst (λ s. (s ≡ true) ⊎ HasEnded (current_link (entered b a))) (sym u.shut) (subst (λ c. (b.shut ≡ true) ⊎ HasEnded ((entered b a).link c)) (sym u.current) (ended_kept b a may (up b.current) (h.errors (sym (ap (list_any needs_link) u.errors) ∙ e))));
  lazy = λ i is. subst (λ n. n ≢ 0) (sym u.created) (h.lazy (subst (λ n. 1 < n) u.turns i) (ap is_lazy (sym u.config) ∙ is));
}

-- what an outcome is that a submission without a message is owed
waiting_owes : (shut : Bool) (l : Ledger) (o : Outcome) → owed_waiting shut l ≡ Some o → (shut ≡ true) ⊎ HasEnded l
waiting_owes shut l o = chosen (λ (x : Option Outcome). x ≡ Some o → (shut ≡ true) ⊎ HasEnded l) (shut && not l.asked) (Some (outcome.Fault error.Closed)) (owed_unstarted l.end)
    (λ t e. inl (both_left shut (not l.asked) t)) (λ f e. inr (by_end l.end refl e))
  where
    by_end : (x : Option End) → l.end ≡ x → owed_unstarted x ≡ Some o → HasEnded l
    by_end None same e = absurd (cc e)
    by_end (Some end) same e = (end, same)

-- what one is that a message is owed, where only a new link helps
message_owes : (l : Ledger) (k : ℕ) (of_shape : Shape) (o : Outcome) → needs_in o ≡ true → owed_to_message l k of_shape ≡ Some o → HasEnded l
message_owes l k of_shape o needs = chosen (λ (x : Option Outcome). x ≡ Some o → HasEnded l) (is_full l k) (Some (outcome_of (verdict_of of_shape (cut l k of_shape)))) (cut_off_if l.end k of_shape)
    (λ t e. absurd (not_both (needs_in o) (sym (ap needs_in (same_some (outcome_of (verdict_of of_shape (cut l k of_shape))) o e)) ∙ verdict_needs_none of_shape (cut l k of_shape)) needs))
    (λ f e. by_end l.end refl e)
  where
    by_end : (x : Option End) → l.end ≡ x → cut_off_if x k of_shape ≡ Some o → HasEnded l
    by_end None same e = absurd (cc e)
    by_end (Some end) same e = (end, same)

-- what is owed in five ways
five_owe : (late unspoken empty overdue : Bool) (P : Type 0) (o : Outcome) (x : Option Outcome) → needs_in o ≡ true → (late ≡ true → P) → (x ≡ Some o → P)
    → (if late then Some (outcome.Fault error.Closed) else if unspoken then Some (outcome.Fault error.Resp3Required) else if empty then Some (outcome.Fault error.EmptyCommand) else if overdue then Some (outcome.Fault (error.Io kind.TimedOut)) else x) ≡ Some o → P
five_owe true unspoken empty overdue P o x needs by_late by_try e = by_late refl
five_owe false true empty overdue P o x needs by_late by_try e = absurd (not_both (needs_in o) (sym (ap needs_in (same_some (outcome.Fault error.Resp3Required) o e))) needs)
five_owe false false true overdue P o x needs by_late by_try e = absurd (not_both (needs_in o) (sym (ap needs_in (same_some (outcome.Fault error.EmptyCommand) o e))) needs)
five_owe false false false true P o x needs by_late by_try e = absurd (not_both (needs_in o) (sym (ap needs_in (same_some (outcome.Fault (error.Io kind.TimedOut)) o e))) needs)
five_owe false false false false P o x needs by_late by_try e = by_try e

-- so where it is an error that only a new link helps, everything was shut down, or the link has ended
answer_ends : (b : Book) (n : ℕ) (o : Outcome) → Goes b → MayAnswer b n o → needs_in o ≡ true → (b.shut ≡ true) ⊎ HasEnded (current_link b)
answer_ends b n o goes may needs =
    let s : Story = b.story n in
    let on : s.link ≡ b.current = (goes n).open_on may.asked in
    five_owe s.late s.unspoken (length (bytes_of s) == 0) s.overdue ((b.shut ≡ true) ⊎ HasEnded (current_link b)) o (owed_to_try b s (last_of s.tries)) needs
    (λ late. inl ((goes n).late_on late)) (by_try (last_of s.tries) refl on) may.owes
  where
    by_try : (t : Option Try) → last_of (b.story n).tries ≡ t → (b.story n).link ≡ b.current → owed_to_try b (b.story n) t ≡ Some o → (b.shut ≡ true) ⊎ HasEnded (current_link b)
    by_try None same on e = elim (waiting_owes b.shut (b.link (b.story n).link) o e) [ inl shut ↦ inl shut | inr over ↦ inr (subst (λ l. HasEnded (b.link l)) on over) ]
    by_try (Some t) same on e = inr (subst (λ l. HasEnded (b.link l)) ((goes n).tries_on t same ∙ on) (message_owes (b.link t.link) t.message (shape (b.story n)) o needs e))

-- so it is of any outcome
outcome_ends : (b : Book) (n : ℕ) (o : Outcome) → Goes b → MayAnswer b n o ⊎ MayTell b n o → needs_in o ≡ true → (b.shut ≡ true) ⊎ HasEnded (current_link b)
outcome_ends b n o goes (inl owes) needs = answer_ends b n o goes owes needs
outcome_ends b n o goes (inr told) needs = absurd (not_both (needs_in o) (ap needs_in told.nil) needs)

-- and of all errors with it
more_errors : (b : Book) (n : ℕ) (o : Outcome) → Goes b → MayAnswer b n o ⊎ MayTell b n o → Lives b → list_any needs_link (b.errors ++ faults_in o) ≡ true → (b.shut ≡ true) ⊎ HasEnded (current_link b)
more_errors b n o goes may h e = elim (one_holds (list_any needs_link b.errors) (needs_in o) (sym (list_any-append needs_link b.errors (faults_in o)) ∙ e)) [
  | inl old ↦ h.errors old
  | inr new ↦ outcome_ends b n o goes may new
]

-- where the creation fails, the opening of the current link did
shown_fails : (b : Book) (e : Option RedisError) → Lives b → MayShowCreation b e → is_some e ≡ true → (x : RedisError) × (failure_in (current_link b).end ≡ Some x)
shown_fails b None h may is = absurd (cc is)
shown_fails b (Some x) h may is = by_test (may.l == b.current) ((y : RedisError) × (failure_in (current_link b).end ≡ Some y))
    (λ t. (x, sym (ap (λ j. failure_in (b.link j).end) (eq_from may.l b.current t)) ∙ may.fails))
    (λ f. absurd ((h.aside may.l (ne_from may.l b.current f)).shown x may.fails may.once))

-- the wait behind an attempt
rest_lives : (b : Book) (t ms : ℕ) (what : Purpose) → MayTimer b t ms what → MayRest b t ms what → IsOpening b → HasLinks b → ((l : ℕ) → UpIsNotOver (b.link l)) → Lives b → Lives (entered b (action.Timer t ms what))
rest_lives b t ms what may rest opens links up h =
    let a : Action = action.Timer t ms what in
    let attempt : is_attempt (current_link b).end ≡ true = both_right (has_generations b) (is_attempt (current_link b).end) rest.due in
    let over : is_over (current_link b) ≡ true = attempt_is_over (current_link b).end attempt in
    let rests : is_rest what ≡ true = ap is_rest rest.is_for in
    record {
      near = inl (taken_if (is_rest what) b.links b.current rests);
      aside = λ l apart. aside_kept b a l may opens links apart (left_aside b l h (up l) rest.shown over);
      first = h.first;
      failed = λ f. let old = h.failed f in absurd (attempt_fails_not (current_link b).end old.0 attempt old.1);
      errors = λ e. absurd (let none : list_any needs_link [] ≡ true = sym (ap (list_any needs_link) (taken_if (is_rest what) [] b.errors rests)) ∙ e in cc none);
      lazy = h.lazy;
    }

-- any other timer
timer_lives : (b : Book) (t ms : ℕ) (what : Purpose) → MayTimer b t ms what → IsOpening b → HasLinks b → ((l : ℕ) → UpIsNotOver (b.link l)) → Lives b → Lives (entered b (action.Timer t ms what))
timer_lives b t ms what may opens links up h = elim (timer_rests b t ms what may) [
  | inl rest ↦ rest_lives b t ms what may rest opens links up h
  | inr other ↦ unmoved_lives b (action.Timer t ms what) may opens links up
      (record { current = left_if (is_rest what) b.links b.current other; links = refl; generation = refl; failed = refl; errors = left_if (is_rest what) [] b.errors other; shut = refl; turns = refl; config = refl; created = refl }) h
]

-- a connect
connect_lives : (b : Book) (m : ℕ) (host : List ℕ) (port : ℕ) → MayConnect b m host port → IsOpening b → HasLinks b → Lives b → Lives (entered b (action.Connect m host port))
connect_lives b m host port may opens links h =
    let a : Action = action.Connect m host port in
    let next : b.current ≡ b.links = due_link_is_next b h links may.due in
    let unasked = links.unasked b.current (omega (arith, next)) in
    let lives : HasEnded (current_link b) → ⊥ = λ over. not_none (current_link b).end over.0 unasked.2 over.1 in
    record {
      near = inr (ap (λ k. k + 1) may.next);
      aside = λ l apart. aside_kept b a l may opens links apart (h.aside l (λ e. apart (e ∙ (next ∙ sym may.next))));
      first = λ has none. absurd (let some : 0 < b.generation = (due_link_is_unasked b may.due has).1 in omega (arith, some, none));
      failed = λ f. let old = h.failed f in absurd (lives (failed_is_over (current_link b).end old.0 old.1));
      errors = λ e. elim (h.errors e) [ inl shut ↦ inl shut | inr over ↦ absurd (lives over) ];
      lazy = h.lazy;
    }

-- a generation
generation_lives : (b : Book) (g : ℕ) → MayGenerate b g → IsOpening b → HasLinks b → ((l : ℕ) → UpIsNotOver (b.link l)) → Lives b → Lives (entered b (action.Generation g))
generation_lives b g may opens links up h = record {
  near = inl refl;
  aside = λ l apart. aside_kept b (action.Generation g) l may opens links apart (elim (generation_moves b h may.due) [
    | inl first ↦ h.aside l (λ e. apart (e ∙ first.1))
    | inr over ↦ left_aside b l h (up l) may.shown over
  ]);
  first = λ has none. absurd (let next : g ≡ b.generation + 1 = may.next in omega (arith, next, none));
  failed = λ f. absurd (not_both b.failed (due_parts b may.due).1 f);
  errors = λ e. absurd (cc e);
  lazy = h.lazy;
}

-- an event
event_lives : (b : Book) (k : ℕ) (e : Event) → MayStand b (action.Turn k (cause.Event e)) → IsOpening b → HasLinks b → ((l : ℕ) → UpIsNotOver (b.link l)) → Lives b → Lives (entered b (action.Turn k (cause.Event e)))
event_lives b k e may opens links up h = record {
  near = h.near;
  aside = λ l apart. aside_kept b (action.Turn k (cause.Event e)) l may opens links apart (h.aside l apart);
  first = h.first;
  failed = λ f. let old = h.failed f in (old.0, failure_kept b (action.Turn k (cause.Event e)) b.current old.0 may (up b.current) old.1);
  errors = λ some. absurd (cc some);
  lazy = λ i. may.is_for.1.written.moved.begun.applied.shown.created.lazy;
}

-- and the opening
opening_lives : (b : Book) (k : ℕ) (config : Config) (word : ℕ) → MayStand b (action.Turn k (cause.Opening config word)) → IsOpening b → HasLinks b → ((l : ℕ) → UpIsNotOver (b.link l)) → Lives b → Lives (entered b (action.Turn k (cause.Opening config word)))
opening_lives b k config word may opens links up h = record {
  near = h.near;
  aside = λ l apart. aside_kept b (action.Turn k (cause.Opening config word)) l may opens links apart (h.aside l apart);
  first = λ has none. opens.no_links may.is_for;
  failed = λ f. let old = h.failed f in (old.0, failure_kept b (action.Turn k (cause.Opening config word)) b.current old.0 may (up b.current) old.1);
  errors = λ some. absurd (cc some);
  lazy = λ i. absurd (let start : b.turns ≡ 0 = may.is_for in omega (arith, start, i));
}

-- the creation
created_lives : (b : Book) (e : Option RedisError) → MayStand b (action.Created e) → IsOpening b → HasLinks b → Lives b → Lives (entered b (action.Created e))
created_lives b e may opens links h = record {
  near = h.near;
  aside = λ l apart. aside_kept b (action.Created e) l may opens links apart (h.aside l apart);
  first = h.first;
  failed = λ f. elim (one_holds b.failed (is_some e) f) [ inl old ↦ h.failed old | inr new ↦ shown_fails b e h may new ];
  errors = h.errors;
  lazy = λ i is none. omega (arith, none);
}

-- an outcome
outcome_lives : (b : Book) (n : ℕ) (o : Outcome) → MayStand b (action.Outcome n o) → IsOpening b → HasLinks b → Goes b → Lives b → Lives (entered b (action.Outcome n o))
outcome_lives b n o may opens links goes h = record {
  near = h.near;
  aside = λ l apart. aside_kept b (action.Outcome n o) l may opens links apart (h.aside l apart);
  first = h.first;
  failed = h.failed;
  errors = more_errors b n o goes may h;
  lazy = h.lazy;
}

-- so each action that may stand keeps it
pub lives_kept : (b : Book) (a : Action) → MayStand b a → IsOpening b → HasLinks b → ((l : ℕ) → UpIsNotOver (b.link l)) → Goes b → Lives b → Lives (entered b a)
lives_kept b (action.Turn k (cause.Opening config word)) may opens links up goes h = opening_lives b k config word may opens links up h
lives_kept b (action.Turn k (cause.Event e)) may opens links up goes h = event_lives b k e may opens links up h
lives_kept b (action.Connect m host port) may opens links up goes h = connect_lives b m host port may opens links h
lives_kept b (action.Timer t ms what) may opens links up goes h = timer_lives b t ms what may opens links up h
lives_kept b (action.Generation g) may opens links up goes h = generation_lives b g may opens links up h
lives_kept b (action.Created e) may opens links up goes h = created_lives b e may opens links h
lives_kept b (action.Outcome n o) may opens links up goes h = outcome_lives b n o may opens links goes h
lives_kept b (action.Round who m) may opens links up goes h = unmoved_lives b (action.Round who m) may opens links up (record { current = refl; links = refl; generation = refl; failed = refl; errors = refl; shut = refl; turns = refl; config = refl; created = refl }) h
lives_kept b (action.Took who m count) may opens links up goes h = unmoved_lives b (action.Took who m count) may opens links up (record { current = refl; links = refl; generation = refl; failed = refl; errors = refl; shut = refl; turns = refl; config = refl; created = refl }) h
lives_kept b (action.Push m info) may opens links up goes h = unmoved_lives b (action.Push m info) may opens links up (record { current = refl; links = refl; generation = refl; failed = refl; errors = refl; shut = refl; turns = refl; config = refl; created = refl }) h
lives_kept b (action.Message msg) may opens links up goes h = unmoved_lives b (action.Message msg) may opens links up (record { current = refl; links = refl; generation = refl; failed = refl; errors = refl; shut = refl; turns = refl; config = refl; created = refl }) h
lives_kept b (action.Monitor v) may opens links up goes h = unmoved_lives b (action.Monitor v) may opens links up (record { current = refl; links = refl; generation = refl; failed = refl; errors = refl; shut = refl; turns = refl; config = refl; created = refl }) h
lives_kept b (action.NeedCreds c m) may opens links up goes h = unmoved_lives b (action.NeedCreds c m) may opens links up (record { current = refl; links = refl; generation = refl; failed = refl; errors = refl; shut = refl; turns = refl; config = refl; created = refl }) h
lives_kept b (action.Close m) may opens links up goes h = unmoved_lives b (action.Close m) may opens links up (record { current = refl; links = refl; generation = refl; failed = refl; errors = refl; shut = refl; turns = refl; config = refl; created = refl }) h
lives_kept b (action.Write m bytes) may opens links up goes h = unmoved_lives b (action.Write m bytes) may opens links up (record { current = refl; links = refl; generation = refl; failed = refl; errors = refl; shut = refl; turns = refl; config = refl; created = refl }) h
lives_kept b (action.Wait who kind) may opens links up goes h = unmoved_lives b (action.Wait who kind) may opens links up (record { current = refl; links = refl; generation = refl; failed = refl; errors = refl; shut = refl; turns = refl; config = refl; created = refl }) h
lives_kept b (action.Start m k who count len) may opens links up goes h = unmoved_lives b (action.Start m k who count len) may opens links up (record { current = refl; links = refl; generation = refl; failed = refl; errors = refl; shut = refl; turns = refl; config = refl; created = refl }) h
