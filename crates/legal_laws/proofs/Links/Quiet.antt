-- Links whose connect is answered: no opening of theirs fails any more, and none that failed is forgotten.
use Rattle.std.proofs.Common.{◌≡◌, ℕ, Bool, true, false, ◌&&◌, not, List, [], ◌∷◌, Option, Some, None, if◌then◌else◌, ◌++◌, take, refl, sym, ap, subst}
use Rattle.std.proofs.lemmas.Bool.{not-true}
use Rattle.containers.proofs.Choices.{by_test, chosen, taken_if, both_left, both_right}
use Rattle.redis_error.specs.declared.redis_error.RedisError.{RedisError}
use Rattle.redis_error.specs.declared.redis_error.RedisError.TheVariants as error
use Rattle.driver_model.specs.declared.news.LinkFault.TheVariants as fault
use Rattle.driver_model.specs.News.{News, silence, connected, refused, overdue, took, came, failed, dropped, shut, authorized, denied, deserted, renewed, unrenewed, late, unrepeated}
use Rattle.legal_trace.specs.Ledger.{Ledger, Line, Start, End, Ending, is_of_setup, is_set_up, setup_result, error_in, ending_by, ending_unready, ending_alive, by_shutdown, by_fault, by_opening, by_attempt, lasting, asks, hears, begins, offers, tells, ends, parts, noted, noted_each, with_news, refused_in, bytes_came, is_over, dials, ending, ending_up, ending_asked, ending_or_shutdown, failure_of, failure_in, MayNote, AllNoted, sources, awaits_credentials, authorized_by, times, may_renew, renewed_by, unrenewed_by, is_renewal_open, lost_by, is_unreadable, is_repeating, unrepeated_by, repeats_timed}
use Rattle.legal_trace.specs.Legal.{is_by_attempt, is_attempt}
use Rattle.legal_trace.proofs.Endings.{lasting_fault, lasting_shutdown}
use Rattle.legal_trace.proofs.Ledgers.{dials_from, UpIsNotOver, up_keeps}
use Rattle.legal_trace.proofs.Plain.{none_from, not_none}
use Rattle.legal_trace.proofs.Setups.{AreSetups, set_more, set_begins}
use Rattle.legal_trace.proofs.Sources.{awaits_unset, awaits_up}
use Rattle.legal_trace.proofs.Came.{holds_bytes}
use Rattle.driver_model.specs.Hearing.{felt, hears_messages}

-- its opening is over: its connect is not open, since it was not asked for, is up, or has ended; and where it is up it is set up
abbrev pub Quiet : Ledger → Type 0
Quiet l = (l.asked ≡ true → l.up ≡ false → l.end ≡ None → ⊥) × (l.up ≡ true → is_set_up l ≡ true)

-- news leave it so where it was asked for
quiet_hears : (l : Ledger) (turn : ℕ) (news : News) → l.asked ≡ true → AreSetups l → Quiet l → Quiet (with_news l turn news)
quiet_hears l turn silence asked shaped h = h
quiet_hears l turn connected asked shaped h = chosen Quiet (is_over l) l (record l { up = true }) (λ t. h)
    (λ e. (λ a u n. absurd (cc u), λ u. by_test l.up (is_set_up l ≡ true) h.1 (λ down. absurd (h.0 asked down (none_from l.end e)))))
quiet_hears l turn (refused f) asked shaped h = chosen Quiet (dials l) (refused_in l turn (error.Io f)) l (λ t. (λ a u n. absurd (cc n), h.1)) (λ e. h)
quiet_hears l turn overdue asked shaped h = h
quiet_hears l turn (took count) asked shaped h = chosen Quiet l.up (record l { taken = l.taken ++ take count l.offer; offer = [] }) l (λ t. h) (λ e. h)
quiet_hears l turn (came piece) asked shaped h = chosen Quiet l.up (bytes_came l piece) l (λ t. holds_bytes Quiet l piece (λ rest strange told more. (h.0, λ u. set_more l rest more shaped (h.1 u)))) (λ e. h)
quiet_hears l turn (failed f) asked shaped h = h
quiet_hears l turn (authorized c) asked shaped h = chosen Quiet (awaits_credentials l) (authorized_by l c) l
    (λ t. let lacks : is_set_up l ≡ true → ⊥ = awaits_unset l t in absurd (lacks (h.1 (awaits_up l t)))) (λ e. h)
quiet_hears l turn (denied text) asked shaped h = h
quiet_hears l turn deserted asked shaped h = h
quiet_hears l turn (renewed c) asked shaped h = chosen Quiet (may_renew l) (renewed_by l c) l (λ t. h) (λ e. h)
quiet_hears l turn unrenewed asked shaped h = chosen Quiet l.up (unrenewed_by l) l (λ t. h) (λ e. h)
quiet_hears l turn (late k) asked shaped h = chosen Quiet (l.up && is_renewal_open l k) (lost_by l) l (λ t. h) (λ e. h)
quiet_hears l turn unrepeated asked shaped h = chosen Quiet (is_repeating l) (unrepeated_by l) l (λ t. h) (λ e. h)
quiet_hears l turn dropped asked shaped h = h
quiet_hears l turn shut asked shaped h = h

-- it is a failed opening, whether another attempt follows or not
abbrev is_opening : Ending → Bool
is_opening by_shutdown = false
is_opening (by_fault f) = false
is_opening (by_opening e) = true
is_opening (by_attempt e) = true

-- what is none stays none, whether another attempt would follow or not
lasting_well : (last : Bool) (why : Ending) → is_opening why ≡ false → (failure_of (lasting last why) ≡ None) × (is_by_attempt (lasting last why) ≡ false)
lasting_well last by_shutdown well = (ap failure_of (lasting_shutdown last), ap is_by_attempt (lasting_shutdown last))
lasting_well last (by_fault f) well = (ap failure_of (lasting_fault last f), ap is_by_attempt (lasting_fault last f))
lasting_well last (by_opening e) well = absurd (cc well)
lasting_well last (by_attempt e) well = absurd (cc well)

-- no opening fails by these
abbrev NoFailure : Option Ending → Type 0
NoFailure o = is_opening (ending_or_shutdown o) ≡ false

-- what ends a link that is up is no failed opening
up_fails_not : (l : Ledger) (news : News) → NoFailure (ending_up l news)
up_fails_not l silence = refl
up_fails_not l connected = refl
up_fails_not l (refused f) = refl
up_fails_not l overdue = refl
up_fails_not l (took count) = refl
up_fails_not l (came piece) = chosen NoFailure (is_unreadable l) (Some (by_fault (felt l.hearing fault.Parse))) None (λ t. refl) (λ f. refl)
up_fails_not l (failed f) = refl
up_fails_not l (authorized c) = refl
up_fails_not l (denied text) = refl
up_fails_not l deserted = refl
up_fails_not l (renewed c) = refl
up_fails_not l unrenewed = refl
up_fails_not l (late k) = refl
up_fails_not l unrepeated = refl
up_fails_not l dropped = chosen NoFailure (hears_messages l.hearing) (Some (by_fault fault.Ended)) None (λ t. refl) (λ f. refl)
up_fails_not l shut = refl

-- nor is what ends one whose connect is not open
quiet_fails_not : (l : Ledger) → Quiet l → NoFailure (ending l)
quiet_fails_not l h =
    chosen NoFailure l.up (ending_alive l) (if l.asked && not (is_over l) then ending_asked l l.heard else None)
    (λ t. subst NoFailure (sym (taken_if (is_set_up l) (ending_up l l.heard) (ending_by (error_in (setup_result l)) (ending_unready l l.heard)) (h.1 t))) (up_fails_not l l.heard))
    (λ down. chosen NoFailure (l.asked && not (is_over l)) (ending_asked l l.heard) None
    (λ t. absurd (h.0 (both_left l.asked (not (is_over l)) t) down (none_from l.end (not-true (is_over l) (both_right l.asked (not (is_over l)) t)))))
    (λ f. refl))

-- its connect is not open, and if its opening failed, this is what was shown
pub record IsQuiet (shown : List (Option RedisError)) (l : Ledger) : Type 0 where
  pub quiet : Quiet l
  pub tells : (e : RedisError) → failure_in l.end ≡ Some e → shown ≡ Some e ∷ []

-- it fails by no news
abbrev Tells : List (Option RedisError) → Ledger → Type 0
Tells shown l = (e : RedisError) → failure_in l.end ≡ Some e → shown ≡ Some e ∷ []

tells_hears : (shown : List (Option RedisError)) (l : Ledger) (turn : ℕ) (news : News) → IsQuiet shown l → Tells shown (with_news l turn news)
tells_hears shown l turn silence h = h.tells
tells_hears shown l turn connected h = chosen (Tells shown) (is_over l) l (record l { up = true }) (λ t. h.tells) (λ e. h.tells)
tells_hears shown l turn (refused f) h =
    chosen (Tells shown) (dials l) (refused_in l turn (error.Io f)) l
    (λ t. let open_still = dials_from l t in absurd (h.quiet.0 open_still.0 open_still.1 (none_from l.end open_still.2)))
    (λ e. h.tells)
tells_hears shown l turn overdue h = h.tells
tells_hears shown l turn (took count) h = chosen (Tells shown) l.up _ l (λ t. h.tells) (λ e. h.tells)
tells_hears shown l turn (came piece) h = chosen (Tells shown) l.up (bytes_came l piece) l (λ t. holds_bytes (Tells shown) l piece (λ rest strange told more. h.tells)) (λ e. h.tells)
tells_hears shown l turn (failed f) h = h.tells
tells_hears shown l turn (authorized c) h = chosen (Tells shown) (awaits_credentials l) (authorized_by l c) l (λ t. h.tells) (λ e. h.tells)
tells_hears shown l turn (denied text) h = h.tells
tells_hears shown l turn deserted h = h.tells
tells_hears shown l turn (renewed c) h = chosen (Tells shown) (may_renew l) (renewed_by l c) l (λ t. h.tells) (λ e. h.tells)
tells_hears shown l turn unrenewed h = chosen (Tells shown) l.up (unrenewed_by l) l (λ t. h.tells) (λ e. h.tells)
tells_hears shown l turn (late k) h = chosen (Tells shown) (l.up && is_renewal_open l k) (lost_by l) l (λ t. h.tells) (λ e. h.tells)
tells_hears shown l turn unrepeated h = chosen (Tells shown) (is_repeating l) (unrepeated_by l) l (λ t. h.tells) (λ e. h.tells)
tells_hears shown l turn dropped h = h.tells
tells_hears shown l turn shut h = h.tells

-- so it stays with a turn
pub hears_quiet : (shown : List (Option RedisError)) (l : Ledger) (turn : ℕ) (news : News) → l.asked ≡ true → AreSetups l → IsQuiet shown l → IsQuiet shown (noted l (hears turn news))
hears_quiet shown l turn news asked shaped h = record { quiet = quiet_hears l turn news asked shaped h.quiet; tells = tells_hears shown l turn news h }

-- and with its end
pub ends_quiet : (shown : List (Option RedisError)) (l : Ledger) (turn : ℕ) → IsQuiet shown l → IsQuiet shown (noted l (ends turn))
ends_quiet shown l turn h = record {
  quiet = (λ a u n. absurd (cc n), λ u. absurd (cc u));
  tells = λ e fails. absurd (not_none (failure_of (lasting l.last (ending_or_shutdown (ending l)))) e (lasting_well l.last (ending_or_shutdown (ending l)) (quiet_fails_not l h.quiet)).0 fails);
}

-- and no other attempt follows then
pub ends_first : (l : Ledger) (turn : ℕ) → Quiet l → is_attempt (noted l (ends turn)).end ≡ false
ends_first l turn h = (lasting_well l.last (ending_or_shutdown (ending l)) (quiet_fails_not l h)).1

-- nor behind any news
pub first_hears : (l : Ledger) (turn : ℕ) (news : News) → l.asked ≡ true → Quiet l → is_attempt l.end ≡ false → is_attempt (with_news l turn news).end ≡ false
first_hears l turn silence asked h first = first
first_hears l turn connected asked h first = chosen (λ (x : Ledger). is_attempt x.end ≡ false) (is_over l) l (record l { up = true }) (λ t. first) (λ f. first)
first_hears l turn (refused f) asked h first =
    chosen (λ (x : Ledger). is_attempt x.end ≡ false) (dials l) (refused_in l turn (error.Io f)) l (λ t. let open_still = dials_from l t in absurd (h.0 open_still.0 open_still.1 (none_from l.end open_still.2))) (λ e. first)
first_hears l turn overdue asked h first = first
first_hears l turn (took count) asked h first = chosen (λ (x : Ledger). is_attempt x.end ≡ false) l.up (record l { taken = l.taken ++ take count l.offer; offer = [] }) l (λ t. first) (λ f. first)
first_hears l turn (came piece) asked h first = chosen (λ (x : Ledger). is_attempt x.end ≡ false) l.up (bytes_came l piece) l (λ t. holds_bytes (λ (x : Ledger). is_attempt x.end ≡ false) l piece (λ rest strange told more. first)) (λ f. first)
first_hears l turn (failed f) asked h first = first
first_hears l turn (authorized c) asked h first = chosen (λ (x : Ledger). is_attempt x.end ≡ false) (awaits_credentials l) (authorized_by l c) l (λ t. first) (λ f. first)
first_hears l turn (denied text) asked h first = first
first_hears l turn deserted asked h first = first
first_hears l turn (renewed c) asked h first = chosen (λ (x : Ledger). is_attempt x.end ≡ false) (may_renew l) (renewed_by l c) l (λ t. first) (λ f. first)
first_hears l turn unrenewed asked h first = chosen (λ (x : Ledger). is_attempt x.end ≡ false) l.up (unrenewed_by l) l (λ t. first) (λ f. first)
first_hears l turn (late k) asked h first = chosen (λ (x : Ledger). is_attempt x.end ≡ false) (l.up && is_renewal_open l k) (lost_by l) l (λ t. first) (λ f. first)
first_hears l turn unrepeated asked h first = chosen (λ (x : Ledger). is_attempt x.end ≡ false) (is_repeating l) (unrepeated_by l) l (λ t. first) (λ f. first)
first_hears l turn dropped asked h first = first
first_hears l turn shut asked h first = first

-- with the message of a request
pub begins_quiet : (shown : List (Option RedisError)) (l : Ledger) (s : Start) → is_of_setup s.owner ≡ false → IsQuiet shown l → IsQuiet shown (noted l (begins s))
begins_quiet shown l s request h = record { quiet = (h.quiet.0, λ u. set_begins l s request (h.quiet.1 u)); tells = h.tells }

-- what has ended ends no second time
pub over_stays : (l : Ledger) (end : End) → UpIsNotOver l → l.end ≡ Some end → ending l ≡ None
over_stays l end h over =
    chosen (λ (x : Option Ending). x ≡ None) l.up (ending_alive l) (if l.asked && not (is_over l) then ending_asked l l.heard else None)
    (λ t. absurd (not_none l.end end (h t) over))
    (λ down. chosen (λ (x : Option Ending). x ≡ None) (l.asked && not (is_over l)) (ending_asked l l.heard) None
    (λ t. absurd (not_none l.end end (none_from l.end (not-true (is_over l) (both_right l.asked (not (is_over l)) t))) over))
    (λ f. refl))

-- where an opening failed, the link has ended
pub failed_is_over : (o : Option End) (e : RedisError) → failure_in o ≡ Some e → (end : End) × (o ≡ Some end)
failed_is_over None e fails = absurd (cc fails)
failed_is_over (Some end) e fails = (end, refl)

-- its opening failed with that error
abbrev FailedWith : RedisError → Ledger → Type 0
FailedWith e l = failure_in l.end ≡ Some e

-- so it stays
failed_hears : (e : RedisError) (l : Ledger) (turn : ℕ) (news : News) → FailedWith e l → FailedWith e (with_news l turn news)
failed_hears e l turn silence h = h
failed_hears e l turn connected h = chosen (FailedWith e) (is_over l) l (record l { up = true }) (λ t. h) (λ f. h)
failed_hears e l turn (refused f) h =
    chosen (FailedWith e) (dials l) (refused_in l turn (error.Io f)) l
    (λ t. let over = failed_is_over l.end e h in absurd (not_none l.end over.0 (none_from l.end (dials_from l t).2) over.1))
    (λ f. h)
failed_hears e l turn overdue h = h
failed_hears e l turn (took count) h = chosen (FailedWith e) l.up _ l (λ t. h) (λ f. h)
failed_hears e l turn (came piece) h = chosen (FailedWith e) l.up (bytes_came l piece) l (λ t. holds_bytes (FailedWith e) l piece (λ rest strange told more. h)) (λ f. h)
failed_hears e l turn (failed f) h = h
failed_hears e l turn (authorized c) h = chosen (FailedWith e) (awaits_credentials l) (authorized_by l c) l (λ t. h) (λ f. h)
failed_hears e l turn (denied text) h = h
failed_hears e l turn deserted h = h
failed_hears e l turn (renewed c) h = chosen (FailedWith e) (may_renew l) (renewed_by l c) l (λ t. h) (λ f. h)
failed_hears e l turn unrenewed h = chosen (FailedWith e) l.up (unrenewed_by l) l (λ t. h) (λ f. h)
failed_hears e l turn (late k) h = chosen (FailedWith e) (l.up && is_renewal_open l k) (lost_by l) l (λ t. h) (λ f. h)
failed_hears e l turn unrepeated h = chosen (FailedWith e) (is_repeating l) (unrepeated_by l) l (λ t. h) (λ f. h)
failed_hears e l turn dropped h = h
failed_hears e l turn shut h = h

-- with any line that may stand
failed_noted : (e : RedisError) (l : Ledger) (x : Line) → MayNote l x → UpIsNotOver l → FailedWith e l → FailedWith e (noted l x)
failed_noted e l (asks info wanted hearing last again) may up h = h
failed_noted e l (hears turn news) may up h = failed_hears e l turn news h
failed_noted e l (begins s) may up h = h
failed_noted e l (offers bytes) may up h = h
failed_noted e l tells may up h = h
failed_noted e l (ends turn) may up h = let over = failed_is_over l.end e h in absurd (not_none (ending l) may.0 (over_stays l over.0 up over.1) may.1)
failed_noted e l sources may up h = h
failed_noted e l times may up h = h
failed_noted e l repeats_timed may up h = h
failed_noted e l parts may up h = h

-- and with many
pub failed_stays : (e : RedisError) (l : Ledger) (lines : List Line) → AllNoted l lines → UpIsNotOver l → failure_in l.end ≡ Some e → failure_in (noted_each l lines).end ≡ Some e
failed_stays e l [] all up h = h
failed_stays e l (x ∷ more) all up h = failed_stays e (noted l x) more all.1 (up_keeps l x up) (failed_noted e l x all.0 up h)
