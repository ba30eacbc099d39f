-- Actions around a setup that stand where they may not: whatever comes after these fronts, no trace that begins so is legal.
use Rattle.std.proofs.Common.{◌≡◌, ◌≢◌, ℕ, true, false, List, length, Some, None, refl, sym, ap, ◌∙◌, inl, inr}
use Rattle.std.specs.Fmt.{digits}
use Rattle.std.specs.Str.Lossy.{utf8_lossy, utf8_valid_len}
use Rattle.url.proofs.OnLiterals.{url_on_literals}
use Rattle.redis_error.specs.declared.redis_error.RedisError.TheVariants as error
use Rattle.resp_read.specs.Grammar.{max_depth}
use Rattle.resp_read.specs.Values.{values, left_over, is_spoiled}
use Rattle.resp_read.specs.Items.{items}
use Rattle.containers.proofs.Choices.{not_both}
use Rattle.connection_setup.specs.Setup.{setup}
use Rattle.driver_model.specs.Config.{told_info}
use Rattle.driver_model.specs.Setup.{says_nothing}
use Rattle.driver_model.specs.declared.config.Config.{Config}
use Rattle.driver_model.specs.declared.action.Action.TheVariants as action
use Rattle.driver_model.specs.declared.action.Cause.{Cause}
use Rattle.driver_model.specs.declared.action.Cause.TheVariants as cause
use Rattle.driver_model.specs.declared.action.Owner.TheVariants as owner
use Rattle.driver_model.specs.declared.action.WaitKind.{WaitKind}
use Rattle.driver_model.specs.declared.action.WaitKind.TheVariants as wait
use Rattle.driver_model.specs.declared.outcome.Outcome.{Outcome}
use Rattle.driver_model.specs.declared.outcome.Outcome.TheVariants as outcome
use Rattle.legal_trace.specs.Book.{blank_book}
use Rattle.legal_trace.specs.Managers.{settings_in, is_lazy}
use Rattle.legal_trace.specs.Events.{is_bad_event}
use Rattle.driver_model.specs.Shape.{need_of}
use Rattle.legal_trace.specs.Ledger.{failure_in, setup_message}
use Rattle.legal_trace.specs.Legal.{MayTurn}
use Rattle.legal_trace.specs.Steps.{waits}
use Rattle.legal_trace.proofs.Setups.{due_count, says_something}
use Rattle.trace_examples.specs.Fronts.{EachStands}
use Rattle.trace_examples.specs.Setups.{secured, of_a_user, of_a_held_user, counted_early, password_line, refusal, unsaid, setup_begun, secret_sent, came_during, answered_well, set_up, password_refused, closed_by_refusal, refusal_told, counted_otherwise, said_again, waited_for_both, setup_fronts}
use Rattle.trace_examples.specs.Claims.{NoneBeginsIn}
use Rattle.trace_examples.proofs.Bounded.{blank_bounded, bounded_behind}
use Rattle.trace_examples.proofs.Due.{stands}
use Rattle.trace_examples.proofs.Settled.{first_and_idle, failed_idle}
use Rattle.trace_examples.proofs.Setups.{at_secured, at_users, at_held_users}
use Rattle.trace_examples.proofs.Stood.{book_of, may_stand, answer, none_is_set, created_by_link, came_up_silent}

-- these fronts stand
pub setup_fronts_stand : (word : ℕ) → EachStands (setup_fronts word)
unfolding digits settings_in is_lazy is_bad_event items values left_over is_spoiled max_depth url_on_literals utf8_lossy utf8_valid_len
setup_fronts_stand word =
    let up = stands (unsaid secured word) refl (at_secured (Some None), tt) in
    let begun = stands (setup_begun secured word 1 22) refl (at_secured (Some None), tt) in
    let sent = stands (secret_sent secured word) refl (at_secured (Some None), (refl, tt)) in
    let came = stands (came_during secured word) refl (at_secured (Some None), (refl, tt)) in
    let well = stands (answered_well secured word) refl (at_secured (Some None), (refl, tt)) in
    let ready = stands (set_up secured word) refl (at_secured (Some None), (refl, tt)) in
    let refused = stands (password_refused secured word) refl (at_secured (Some None), (refl, tt)) in
    let closed = stands (closed_by_refusal secured word) refl (at_secured (Some None), (refl, tt)) in
    let told = stands (refusal_told secured word) refl (at_secured (Some None), (refl, (refl, tt))) in
    let counted = stands (counted_otherwise of_a_user word) refl (at_users, (refl, tt)) in
    let again = stands (said_again of_a_user word) refl (at_users, (refl, (refl, tt))) in
    let both = stands (waited_for_both secured word) refl (at_secured (Some None), (refl, tt)) in
    let early = stands (counted_early of_a_held_user word) refl (at_held_users, (refl, tt)) in
    (up, (begun, (sent, (came, (well, (ready, (refused, (closed, (told, (counted, (again, (both, (early, tt)))))))))))))

-- a request that starts before the setup is answered
pub started_during : (l k round count len : ℕ) → NoneBeginsIn secured came_during (action.Start l k (owner.Try 0 round) count len)
unfolding digits settings_in is_lazy url_on_literals utf8_lossy utf8_valid_len
started_during l k round count len word events after h =
    let m = may_stand secured word events (came_during secured word) after (action.Start l k (owner.Try 0 round) count len) h in
    cc m.1.starts

-- and one that starts before the creation is shown
pub started_before_the_creation : (l k round count len : ℕ) → NoneBeginsIn secured answered_well (action.Start l k (owner.Try 0 round) count len)
unfolding digits settings_in is_lazy items values left_over max_depth url_on_literals utf8_lossy utf8_valid_len
started_before_the_creation l k round count len word events after h =
    let m = may_stand secured word events (answered_well secured word) after (action.Start l k (owner.Try 0 round) count len) h in
    m.1.begun.applied.shown.created.shown 0 refl refl

-- a creation before the setup is answered
pub created_during : NoneBeginsIn secured secret_sent (action.Created None)
unfolding digits settings_in is_lazy url_on_literals utf8_lossy utf8_valid_len
created_during word events after h =
    let m = created_by_link (book_of (secret_sent secured word)) refl (may_stand secured word events (secret_sent secured word) after (action.Created None) h) in
    none_is_set (book_of (secret_sent secured word)) m.l (bounded_behind blank_book (secret_sent secured word) refl blank_bounded) refl refl m.ready

-- and before it starts, with any configuration that has something said
pub created_unsaid : (config : Config) → says_nothing (setup (told_info config) true) ≡ false → NoneBeginsIn config unsaid (action.Created None)
created_unsaid config says word events after h = not_both (says_nothing (setup (told_info config) true)) says (came_up_silent config word events after h)

-- a setup where nothing is to be said
pub said_where_nothing_is : (config : Config) (k count len : ℕ) → says_nothing (setup (told_info config) true) ≡ true → NoneBeginsIn config unsaid (action.Start 0 k owner.Setup count len)
said_where_nothing_is config k count len silent word events after h =
    let m = may_stand config word events (unsaid config word) after (action.Start 0 k owner.Setup count len) h in
    not_both (says_nothing (setup (told_info config) true)) (says_something ((book_of (unsaid config word)).link 0) m.k m.due) silent

-- a creation although the password is refused
pub created_though_refused : NoneBeginsIn secured password_refused (action.Created None)
unfolding digits settings_in is_lazy items values left_over max_depth url_on_literals utf8_lossy utf8_valid_len
created_though_refused word events after h =
    let m = created_by_link (book_of (password_refused secured word)) refl (may_stand secured word events (password_refused secured word) after (action.Created None) h) in
    none_is_set (book_of (password_refused secured word)) m.l (bounded_behind blank_book (password_refused secured word) refl blank_bounded) refl refl m.ready

-- a setup that starts twice
pub said_twice : (k count len : ℕ) → NoneBeginsIn secured secret_sent (action.Start 0 k owner.Setup count len)
unfolding digits settings_in is_lazy url_on_literals utf8_lossy utf8_valid_len
said_twice k count len word events after h =
    let m = may_stand secured word events (secret_sent secured word) after (action.Start 0 k owner.Setup count len) h in
    cc m.due

-- a second setup, although the first is well
pub said_again_when_well : (k count len : ℕ) → NoneBeginsIn secured set_up (action.Start 0 k owner.Setup count len)
unfolding digits settings_in is_lazy items values left_over max_depth url_on_literals utf8_lossy utf8_valid_len
said_again_when_well k count len word events after h =
    let m = may_stand secured word events (set_up secured word) after (action.Start 0 k owner.Setup count len) h in
    cc m.due

-- or its password is refused
pub said_again_when_refused : (k count len : ℕ) → NoneBeginsIn secured password_refused (action.Start 0 k owner.Setup count len)
unfolding digits settings_in is_lazy items values left_over max_depth url_on_literals utf8_lossy utf8_valid_len
said_again_when_refused k count len word events after h =
    let m = may_stand secured word events (password_refused secured word) after (action.Start 0 k owner.Setup count len) h in
    cc m.due

-- a third setup
pub said_three_times : (k count len : ℕ) → NoneBeginsIn of_a_user said_again (action.Start 0 k owner.Setup count len)
unfolding digits settings_in is_lazy items values left_over max_depth url_on_literals utf8_lossy utf8_valid_len
said_three_times k count len word events after h =
    let m = may_stand of_a_user word events (said_again of_a_user word) after (action.Start 0 k owner.Setup count len) h in
    cc m.due

-- a second setup on a link that is held back
pub said_again_too_early : (k count len : ℕ) → NoneBeginsIn of_a_held_user counted_early (action.Start 0 k owner.Setup count len)
unfolding digits settings_in is_lazy items values left_over max_depth url_on_literals utf8_lossy utf8_valid_len
said_again_too_early k count len word events after h =
    let m = may_stand of_a_held_user word events (counted_early of_a_held_user word) after (action.Start 0 k owner.Setup count len) h in
    cc m.free

-- a link that is closed where the setup is to start once more
pub closed_when_counted : NoneBeginsIn of_a_user counted_otherwise (action.Close 0)
unfolding digits settings_in is_lazy items values left_over is_spoiled max_depth url_on_literals utf8_lossy utf8_valid_len
closed_when_counted word events after h = cc (may_stand of_a_user word events (counted_otherwise of_a_user word) after (action.Close 0) h).ends

-- a turn that begins where the setup is to start
pub unsaid_in_its_turn : (number : ℕ) (c : Cause) → NoneBeginsIn secured unsaid (action.Turn number c)
unfolding digits settings_in is_lazy url_on_literals utf8_lossy utf8_valid_len
unsaid_in_its_turn number c word events after h = of_cause c (may_stand secured word events (unsaid secured word) after (action.Turn number c) h)
  where
    of_cause : (c : Cause) → MayTurn (book_of (unsaid secured word)) number c → ⊥
    of_cause (cause.Opening config draws) m = cc m.is_for
    of_cause (cause.Event e) m = cc (m.is_for.1.written.moved.begun.setups 0 0 refl)

-- or to start once more
pub unsaid_again : (number : ℕ) (c : Cause) → NoneBeginsIn of_a_user counted_otherwise (action.Turn number c)
unfolding digits settings_in is_lazy items values left_over max_depth url_on_literals utf8_lossy utf8_valid_len
unsaid_again number c word events after h = of_cause c (may_stand of_a_user word events (counted_otherwise of_a_user word) after (action.Turn number c) h)
  where
    of_cause : (c : Cause) → MayTurn (book_of (counted_otherwise of_a_user word)) number c → ⊥
    of_cause (cause.Opening config draws) m = cc m.is_for
    of_cause (cause.Event e) m = cc (m.is_for.1.written.moved.begun.setups 0 1 refl)

-- a turn that begins while the error of the setup isn't shown
pub error_untold : (number : ℕ) (c : Cause) → NoneBeginsIn secured closed_by_refusal (action.Turn number c)
unfolding digits settings_in is_lazy items values left_over max_depth url_on_literals utf8_lossy utf8_valid_len
error_untold number c word events after h = of_cause c (may_stand secured word events (closed_by_refusal secured word) after (action.Turn number c) h)
  where
    of_cause : (c : Cause) → MayTurn (book_of (closed_by_refusal secured word)) number c → ⊥
    of_cause (cause.Opening config draws) m = cc m.is_for
    of_cause (cause.Event e) m = m.is_for.1.written.moved.begun.applied.shown.created.failed 0 refusal refl refl

-- and an outcome before it
pub answered_before_the_error : (o : Outcome) → NoneBeginsIn secured closed_by_refusal (action.Outcome 0 o)
unfolding digits settings_in is_lazy items values left_over max_depth url_on_literals utf8_lossy utf8_valid_len
answered_before_the_error o word events after h =
    let m = answer secured word events (closed_by_refusal secured word) after 0 o refl h in
    (m.after_closes refl).2 0 refusal refl refl

-- a creation that failed by another error
pub by_another_error : NoneBeginsIn secured closed_by_refusal (action.Created (Some error.Closed))
unfolding digits settings_in is_lazy items values left_over max_depth url_on_literals utf8_lossy utf8_valid_len
by_another_error word events after h =
    let m = may_stand secured word events (closed_by_refusal secured word) after (action.Created (Some error.Closed)) h in
    let b = book_of (closed_by_refusal secured word) in
    first_and_idle b (λ l. failure_in (b.link l).end ≡ Some error.Closed → ⊥) m.l (bounded_behind blank_book (closed_by_refusal secured word) refl blank_bounded) refl (λ fails. cc fails)
    (λ idle fails. failed_idle (b.link m.l) error.Closed idle fails) m.fails

-- a request that waited, answered with the closed connection
pub closed_in_place_of_the_error : NoneBeginsIn secured refusal_told (action.Outcome 0 (outcome.Fault error.Closed))
unfolding digits settings_in is_lazy items values left_over max_depth url_on_literals utf8_lossy utf8_valid_len
closed_in_place_of_the_error word events after h = cc (answer secured word events (refusal_told secured word) after 0 (outcome.Fault error.Closed) refl h).owes

-- the wait for the connect, while the setup is under way
pub connect_during : NoneBeginsIn secured came_during (action.Wait (owner.Try 0 0) wait.Connect)
unfolding digits settings_in is_lazy url_on_literals utf8_lossy utf8_valid_len
connect_during word events after h =
    let m = may_stand secured word events (came_during secured word) after (action.Wait (owner.Try 0 0) wait.Connect) h in
    cc m.1.holds

-- no kind is both
two_kinds : (kind : WaitKind) → Some wait.Connect ≡ Some kind → waits wait.Setup ≡ waits kind → ⊥
two_kinds kind e f = cc (e, f)

-- or while it stands as it was shown
pub connect_stands : (number : ℕ) (c : Cause) → NoneBeginsIn secured waited_for_both (action.Turn number c)
unfolding digits settings_in is_lazy url_on_literals utf8_lossy utf8_valid_len
connect_stands number c word events after h = of_cause c (may_stand secured word events (waited_for_both secured word) after (action.Turn number c) h)
  where
    of_cause : (c : Cause) → MayTurn (book_of (waited_for_both secured word)) number c → ⊥
    of_cause (cause.Opening config draws) m = cc m.is_for
    of_cause (cause.Event e) m = elim (m.is_for.1.goes 0 refl) [ inl started ↦ cc started.last | inr w ↦ two_kinds w.kind w.shown w.holds ]

-- a setup that takes another number of items
pub of_another_need : (k count len : ℕ) → count ≢ 1 → NoneBeginsIn secured unsaid (action.Start 0 k owner.Setup count len)
unfolding digits settings_in is_lazy url_on_literals utf8_lossy utf8_valid_len
of_another_need k count len other word events after h =
    let m = may_stand secured word events (unsaid secured word) after (action.Start 0 k owner.Setup count len) h in
    other (m.needs_its_items ∙ ap (λ n. need_of (setup_message ((book_of (unsaid secured word)).link 0) n).shape) (sym (due_count ((book_of (unsaid secured word)).link 0) m.k m.due)))

-- or of another length
pub of_another_length : (k count len : ℕ) → len ≢ 22 → NoneBeginsIn secured unsaid (action.Start 0 k owner.Setup count len)
unfolding digits settings_in is_lazy url_on_literals utf8_lossy utf8_valid_len
of_another_length k count len other word events after h =
    let m = may_stand secured word events (unsaid secured word) after (action.Start 0 k owner.Setup count len) h in
    other (m.long_as_its_bytes ∙ ap (λ n. length (setup_message ((book_of (unsaid secured word)).link 0) n).bytes) (sym (due_count ((book_of (unsaid secured word)).link 0) m.k m.due)))

-- and the second one, with the user name still
pub with_the_user_still : (k count len : ℕ) → len ≢ 22 → NoneBeginsIn of_a_user counted_otherwise (action.Start 0 k owner.Setup count len)
unfolding digits settings_in is_lazy items values left_over max_depth url_on_literals utf8_lossy utf8_valid_len
with_the_user_still k count len other word events after h =
    let m = may_stand of_a_user word events (counted_otherwise of_a_user word) after (action.Start 0 k owner.Setup count len) h in
    other (m.long_as_its_bytes ∙ ap (λ n. length (setup_message ((book_of (counted_otherwise of_a_user word)).link 0) n).bytes) (sym (due_count ((book_of (counted_otherwise of_a_user word)).link 0) m.k m.due)))

-- other bytes that are offered
pub other_words : (bytes : List ℕ) → bytes ≢ password_line → NoneBeginsIn secured (λ config word. setup_begun config word 1 22) (action.Write 0 bytes)
unfolding digits settings_in is_lazy url_on_literals utf8_lossy utf8_valid_len
other_words bytes other word events after h = other (may_stand secured word events (setup_begun secured word 1 22) after (action.Write 0 bytes) h).all
