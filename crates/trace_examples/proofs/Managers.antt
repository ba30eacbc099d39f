-- Managers: traces that can be relied on, and actions that stand where they may not.
use Rattle.std.proofs.Common.{◌≡◌, ◌≢◌, ℕ, Bool, true, false, List, [], ◌∷◌, ◌++◌, length, drop, Some, None, codes, pos, refl, sym, ap, ◌∙◌, subst, inl, inr}
use Rattle.std.specs.Fmt.{digits}
use Rattle.std.specs.Str.Lossy.{utf8_lossy, utf8_valid_len}
use Rattle.url.proofs.OnLiterals.{url_on_literals}
use Rattle.connection_info.specs.declared.address.ConnectionInfo.{ConnectionInfo}
use Rattle.connection_info.specs.declared.protocol.ProtocolVersion.{ProtocolVersion}
use Rattle.connection_info.specs.declared.protocol.ProtocolVersion.TheVariants.{RESP2, RESP3}
use Rattle.manager_config.specs.declared.config.ConnectionManagerConfig.{ConnectionManagerConfig}
use Rattle.manager_config.specs.Backoff.{backoff}
use Rattle.redis_error.specs.declared.fault_kind.FaultKind.TheVariants.{Refused}
use Rattle.resp_value.specs.Kinds.{kind_of}
use Rattle.resp_read.specs.Grammar.{max_depth}
use Rattle.resp_read.specs.Values.{values, left_over, is_spoiled}
use Rattle.resp_read.specs.Items.{items}
use Rattle.sub_tracker.specs.Held.{held_after}
use Rattle.sub_tracker.specs.Pipeline.{resubscription}
use Rattle.driver_model.specs.Config.{address, manager_fault, manager_settings, no_manager_words}
use Rattle.driver_model.specs.declared.action.Action.{Action}
use Rattle.driver_model.specs.declared.action.Action.TheVariants as action
use Rattle.driver_model.specs.declared.action.Cause.{Cause}
use Rattle.driver_model.specs.declared.action.Cause.TheVariants as cause
use Rattle.driver_model.specs.declared.action.Owner.TheVariants as owner
use Rattle.driver_model.specs.declared.action.Purpose.TheVariants as purpose
use Rattle.driver_model.specs.declared.config.Config.{Config}
use Rattle.driver_model.specs.declared.event.Event.{Event}
use Rattle.driver_model.specs.declared.event.EventKind.TheVariants as event
use Rattle.driver_model.specs.declared.outcome.Outcome.{Outcome}
use Rattle.legal_trace.specs.Managers.{settings_in, is_lazy}
use Rattle.legal_trace.specs.Events.{is_bad_event}
use Rattle.legal_trace.specs.Book.{blank_book}
use Rattle.legal_trace.specs.Legal.{AllStand, Legal, MayTurn}
use Rattle.legal_trace.proofs.Books.{stand_front}
use Rattle.legal_trace.proofs.Plain.{same_some}
use Rattle.trace_examples.specs.Parts.{patient}
use Rattle.trace_examples.specs.Pushes.{get}
use Rattle.trace_examples.specs.Managers.{trying, lazy_once, trying_twice, trying_thrice, resubscribing, opened_lazily, failed_so, begun_next, replaced, attempt_failed, resting, asked_in_vain, tried_twice, failed_again, tried_thrice, subscribed_c, lost, set_up_again, repeated, repeated_well, came_back, replied_there, coming_back, left_d, leaving_d, resubscribing_in_time, up_in_time, over_in_time, running_over, AreLegal, manager_fronts}
use Rattle.trace_examples.specs.Claims.{IsTraceIn, NoneBeginsIn}
use Rattle.trace_examples.specs.Fronts.{EachStands}
use Rattle.trace_examples.proofs.Due.{IsPlace, legal, stands}
use Rattle.trace_examples.proofs.Stood.{book_of, may_stand, still_open}

-- h and 6379, where this protocol is spoken
abbrev pub server_of : ProtocolVersion → ConnectionInfo
server_of protocol = record {
  host = codes "h";
  port = 6379;
  redis = record { db = pos 0; username = None; password = None; protocol = protocol; skip_set_lib_name = false };
}

-- how a manager that tries so often comes back, and one that subscribes again
abbrev tries : ℕ → ConnectionManagerConfig
tries retries = manager_settings patient (record no_manager_words { retries = Some retries })

abbrev repeats : ConnectionManagerConfig
repeats = manager_settings (record patient { push = Some true }) (record no_manager_words { resub = Some true })

-- they ask for it
is_tried : (lazy : Bool) (retries : ℕ) → address (trying lazy retries) ≡ Some (server_of RESP2)
unfolding url_on_literals utf8_lossy utf8_valid_len
is_tried lazy retries = refl

pub at_tried : (lazy : Bool) (retries : ℕ) → IsPlace (trying lazy retries) (codes "h") 6379
at_tried lazy retries = record { sound = ap (λ at. manager_fault at (tries retries)) (is_tried lazy retries); info = server_of RESP2; configured = is_tried lazy retries; is = (refl, refl) }

is_repeated : address resubscribing ≡ Some (server_of RESP3)
unfolding url_on_literals utf8_lossy utf8_valid_len
is_repeated = refl

pub at_repeated : IsPlace resubscribing (codes "h") 6379
at_repeated = record { sound = ap (λ at. manager_fault at repeats) is_repeated; info = server_of RESP3; configured = is_repeated; is = (refl, refl) }

abbrev repeats_in_time : ConnectionManagerConfig
repeats_in_time = manager_settings (record patient { push = Some true; response = Some (Some 100) }) (record no_manager_words { resub = Some true })

is_repeated_in_time : address resubscribing_in_time ≡ Some (server_of RESP3)
unfolding url_on_literals utf8_lossy utf8_valid_len
is_repeated_in_time = refl

at_repeated_in_time : IsPlace resubscribing_in_time (codes "h") 6379
at_repeated_in_time = record { sound = ap (λ at. manager_fault at repeats_in_time) is_repeated_in_time; info = server_of RESP3; configured = is_repeated_in_time; is = (refl, refl) }

-- a lazy one is created as it opens, asks for its link with its first submission, and comes back once that has failed
pub replaced_once_failed : IsTraceIn lazy_once (event.Submit (get 97) ∷ event.Refused 0 Refused ∷ []) replaced []
unfolding digits is_bad_event items values left_over is_spoiled max_depth kind_of settings_in is_lazy held_after resubscription url_on_literals utf8_lossy utf8_valid_len
replaced_once_failed word = legal lazy_once word _ _ refl refl (at_tried true 0, (refl, (at_tried true 0, tt)))

-- each attempt but the first comes behind a wait, and once the last has failed the creation has, with its error
pub created_in_vain : AreLegal trying_twice tried_twice asked_in_vain []
unfolding digits is_bad_event items values left_over is_spoiled max_depth kind_of settings_in is_lazy held_after resubscription url_on_literals utf8_lossy utf8_valid_len
created_in_vain word = legal trying_twice word _ _ refl refl (at_tried false 1, (tt, (at_tried false 1, (refl, (refl, tt)))))

-- by the same word a later wait is longer
pub longer_each_time : AreLegal trying_thrice tried_thrice failed_again (action.Timer 1 150 (purpose.Backoff 1) ∷ [])
unfolding digits is_bad_event items values left_over is_spoiled max_depth kind_of settings_in is_lazy held_after resubscription url_on_literals utf8_lossy utf8_valid_len
longer_each_time word = legal trying_thrice word _ _ refl refl (at_tried false 2, (tt, (at_tried false 2, (tt, tt))))

-- where the link is lost, those that started are answered so, and on the next one what is subscribed is subscribed again, before
-- the requests that wait for it
pub comes_back : IsTraceIn resubscribing coming_back came_back []
unfolding digits is_bad_event items values left_over is_spoiled max_depth kind_of settings_in is_lazy held_after resubscription url_on_literals utf8_lossy utf8_valid_len
comes_back word = legal resubscribing word _ _ refl refl (at_repeated, (refl, (refl, (refl, (refl, (refl, (refl, (refl, (refl, (at_repeated, (refl, (refl, tt))))))))))))

-- that is what is subscribed at that moment
pub repeats_what_is : IsTraceIn resubscribing leaving_d left_d (action.Start 1 1 owner.Resub 1 26 ∷ [])
unfolding digits is_bad_event items values left_over is_spoiled max_depth kind_of settings_in is_lazy held_after resubscription url_on_literals utf8_lossy utf8_valid_len
repeats_what_is word =
    legal resubscribing word _ _ refl refl (at_repeated, (refl, (refl, (refl, (refl, (refl, (refl, (refl, (refl, (refl, (refl, (refl, (at_repeated, (refl, tt))))))))))))))

-- where that isn't answered in time, requests go on without it
pub goes_on_without : IsTraceIn resubscribing_in_time running_over over_in_time
    (action.Round (owner.Try 1 0) (Some 1) ∷ action.Timer 2 100 (purpose.Response (owner.Try 1 0)) ∷ action.Start 1 2 (owner.Try 1 0) 1 20 ∷ [])
unfolding digits is_bad_event items values left_over is_spoiled max_depth kind_of settings_in is_lazy held_after resubscription url_on_literals utf8_lossy utf8_valid_len
goes_on_without word = legal resubscribing_in_time word _ _ refl refl (at_repeated_in_time, (refl, (tt, (refl, (refl, (refl, (refl, (at_repeated_in_time, (refl, (refl, (tt, tt)))))))))))

-- the front of a legal trace stands
front_of : (config : Config) (word : ℕ) (events : List Event) (front whole : List Action) → Legal config word events whole → front ++ drop (length front) whole ≡ whole → AllStand blank_book front
front_of config word events front whole h same = stand_front blank_book front (drop (length front) whole) (subst (AllStand blank_book) (sym same) h.each)

-- so these fronts do
pub manager_fronts_stand : (word : ℕ) → EachStands (manager_fronts word)
unfolding digits is_bad_event items values left_over is_spoiled max_depth kind_of settings_in is_lazy held_after resubscription url_on_literals utf8_lossy utf8_valid_len
manager_fronts_stand word =
    let once = replaced_once_failed word in
    let twice = created_in_vain word in
    let thrice = longer_each_time word in
    let back = comes_back word in
    let left = repeats_what_is word in
    let without = goes_on_without word in (
      front_of _ _ _ (opened_lazily lazy_once word) _ once refl,
      (
        front_of _ _ _ (failed_so lazy_once word) _ once refl,
        (
          front_of _ _ _ (begun_next lazy_once word) _ once refl,
          (
            front_of _ _ _ (replaced lazy_once word) _ once refl,
            (
              front_of _ _ _ (attempt_failed 250 trying_twice word) _ twice refl,
              (
                front_of _ _ _ (resting 250 50 trying_twice word) _ twice refl,
                (
                  front_of _ _ _ (asked_in_vain trying_twice word) _ twice refl,
                  (
                    front_of _ _ _ (failed_again trying_thrice word) _ thrice refl,
                    (
                      front_of _ _ _ (subscribed_c resubscribing word) _ back refl,
                      (
                        front_of _ _ _ (lost resubscribing word) _ back refl,
                        (
                          front_of _ _ _ (set_up_again resubscribing word) _ back refl,
                          (
                            front_of _ _ _ (repeated resubscribing word) _ back refl,
                            (
                              front_of _ _ _ (repeated_well resubscribing word) _ back refl,
                              (
                                stands (replied_there resubscribing word) refl (at_repeated, (refl, (refl, (refl, (refl, (refl, (refl, (refl, (refl, (at_repeated, (refl, (refl, tt)))))))))))),
                                (
                                  front_of _ _ _ (left_d resubscribing word) _ left refl,
                                  (front_of _ _ _ (up_in_time resubscribing_in_time word) _ without refl, tt),
                                ),
                              ),
                            ),
                          ),
                        ),
                      ),
                    ),
                  ),
                ),
              ),
            ),
          ),
        ),
      ),
    )

-- a lazy one that begins as it opens
pub begun_unused : (g : ℕ) → NoneBeginsIn lazy_once opened_lazily (action.Generation g)
unfolding digits settings_in is_lazy url_on_literals utf8_lossy utf8_valid_len
begun_unused g word events after h = cc (may_stand lazy_once word events (opened_lazily lazy_once word) after (action.Generation g) h).due

-- or asks for its link then
pub asked_unused : (l : ℕ) (host : List ℕ) (port : ℕ) → NoneBeginsIn lazy_once opened_lazily (action.Connect l host port)
unfolding digits settings_in is_lazy url_on_literals utf8_lossy utf8_valid_len
asked_unused l host port word events after h = cc (may_stand lazy_once word events (opened_lazily lazy_once word) after (action.Connect l host port) h).due

-- a generation whose number isn't the next
pub number_left_out : (g : ℕ) → g ≢ 2 → NoneBeginsIn lazy_once failed_so (action.Generation g)
unfolding digits settings_in is_lazy url_on_literals utf8_lossy utf8_valid_len
number_left_out g other word events after h = other (may_stand lazy_once word events (failed_so lazy_once word) after (action.Generation g) h).next

-- its link before it
pub asked_before : (l : ℕ) (host : List ℕ) (port : ℕ) → NoneBeginsIn lazy_once failed_so (action.Connect l host port)
unfolding digits settings_in is_lazy url_on_literals utf8_lossy utf8_valid_len
asked_before l host port word events after h = cc (may_stand lazy_once word events (failed_so lazy_once word) after (action.Connect l host port) h).generated

-- a link whose number isn't the next
pub link_left_out : (l : ℕ) (host : List ℕ) (port : ℕ) → l ≢ 1 → NoneBeginsIn lazy_once begun_next (action.Connect l host port)
unfolding digits settings_in is_lazy url_on_literals utf8_lossy utf8_valid_len
link_left_out l host port other word events after h = other (may_stand lazy_once word events (begun_next lazy_once word) after (action.Connect l host port) h).next

-- a second one in one turn, before its link
pub begun_twice : (g : ℕ) → NoneBeginsIn lazy_once begun_next (action.Generation g)
unfolding digits settings_in is_lazy url_on_literals utf8_lossy utf8_valid_len
begun_twice g word events after h = cc (may_stand lazy_once word events (begun_next lazy_once word) after (action.Generation g) h).due

-- and behind it
pub replaced_twice : (g : ℕ) → NoneBeginsIn lazy_once replaced (action.Generation g)
unfolding digits settings_in is_lazy url_on_literals utf8_lossy utf8_valid_len
replaced_twice g word events after h = cc (may_stand lazy_once word events (replaced lazy_once word) after (action.Generation g) h).due

-- one without a cause
pub begun_for_nothing : (g : ℕ) → NoneBeginsIn resubscribing subscribed_c (action.Generation g)
unfolding digits items values left_over is_spoiled max_depth kind_of settings_in is_lazy held_after resubscription url_on_literals utf8_lossy utf8_valid_len
begun_for_nothing g word events after h = cc (may_stand resubscribing word events (subscribed_c resubscribing word) after (action.Generation g) h).due

-- one where the creation has failed
pub begun_in_vain : (g : ℕ) → NoneBeginsIn trying_twice asked_in_vain (action.Generation g)
unfolding digits settings_in is_lazy url_on_literals utf8_lossy utf8_valid_len
begun_in_vain g word events after h = cc (may_stand trying_twice word events (asked_in_vain trying_twice word) after (action.Generation g) h).due

-- a wait of another length than the word gives
pub other_wait : (t ms g : ℕ) → ms ≢ 50 → NoneBeginsIn trying_twice (attempt_failed 250) (action.Timer t ms (purpose.Backoff g))
unfolding digits settings_in is_lazy url_on_literals utf8_lossy utf8_valid_len
other_wait t ms g other word events after h = elim (may_stand trying_twice word events (attempt_failed 250 trying_twice word) after (action.Timer t ms (purpose.Backoff g)) h) [
  | inl (inl m) ↦ cc m.is_for
  | inl (inr m) ↦ other (m.long ∙ ap (λ s. backoff s 0 250) (same_some m.settings (tries 1) (sym m.set)))
  | inr (inl m) ↦ cc m.is_for
  | inr (inr (inl m)) ↦ cc m.is_for
  | inr (inr (inr m)) ↦ cc m.is_for
]

-- or of the same as before
pub same_wait_again : (t ms g : ℕ) → ms ≢ 150 → NoneBeginsIn trying_thrice failed_again (action.Timer t ms (purpose.Backoff g))
unfolding digits settings_in is_lazy url_on_literals utf8_lossy utf8_valid_len
same_wait_again t ms g other word events after h = elim (may_stand trying_thrice word events (failed_again trying_thrice word) after (action.Timer t ms (purpose.Backoff g)) h) [
  | inl (inl m) ↦ cc m.is_for
  | inl (inr m) ↦ other (m.long ∙ ap (λ s. backoff s 1 150) (same_some m.settings (tries 2) (sym m.set)))
  | inr (inl m) ↦ cc m.is_for
  | inr (inr (inl m)) ↦ cc m.is_for
  | inr (inr (inr m)) ↦ cc m.is_for
]

-- an attempt while the wait before it goes on
pub tried_too_soon : (l : ℕ) (host : List ℕ) (port : ℕ) → NoneBeginsIn trying_twice (resting 250 50) (action.Connect l host port)
unfolding digits settings_in is_lazy url_on_literals utf8_lossy utf8_valid_len
tried_too_soon l host port word events after h = cc (may_stand trying_twice word events (resting 250 50 trying_twice word) after (action.Connect l host port) h).due

-- a generation before those are answered whose link was lost
pub begun_before_outcomes : (g : ℕ) → NoneBeginsIn resubscribing lost (action.Generation g)
unfolding digits items values left_over is_spoiled max_depth kind_of settings_in is_lazy held_after resubscription url_on_literals utf8_lossy utf8_valid_len
begun_before_outcomes g word events after h = cc ((may_stand resubscribing word events (lost resubscribing word) after (action.Generation g) h).shown.answered 1 refl)

-- a turn that begins where what is subscribed was not subscribed again
pub repetition_left_out : (number : ℕ) (c : Cause) → NoneBeginsIn resubscribing set_up_again (action.Turn number c)
unfolding digits items values left_over is_spoiled max_depth kind_of settings_in is_lazy held_after resubscription url_on_literals utf8_lossy utf8_valid_len
repetition_left_out number c word events after h = of_cause c (may_stand resubscribing word events (set_up_again resubscribing word) after (action.Turn number c) h)
  where
    of_cause : (c : Cause) → MayTurn (book_of (set_up_again resubscribing word)) number c → ⊥
    of_cause (cause.Opening config draws) m = cc m.is_for
    of_cause (cause.Event e) m = cc (m.is_for.1.written.moved.begun.repeated 1 refl)

-- a message that subscribes to other channels, of more or of fewer bytes
pub repeated_otherwise : (k count len : ℕ) → len ≢ 26 → NoneBeginsIn resubscribing left_d (action.Start 1 k owner.Resub count len)
unfolding digits items values left_over is_spoiled max_depth kind_of settings_in is_lazy held_after resubscription url_on_literals utf8_lossy utf8_valid_len
repeated_otherwise k count len other word events after h = other (may_stand resubscribing word events (left_d resubscribing word) after (action.Start 1 k owner.Resub count len) h).long_as_its_bytes

-- it before its timer
pub repeated_untimed : (k count len : ℕ) → NoneBeginsIn resubscribing_in_time up_in_time (action.Start 1 k owner.Resub count len)
unfolding digits items values left_over is_spoiled max_depth kind_of settings_in is_lazy held_after resubscription url_on_literals utf8_lossy utf8_valid_len
repeated_untimed k count len word events after h =
    let x : false ≡ true = (may_stand resubscribing_in_time word events (up_in_time resubscribing_in_time word) after (action.Start 1 k owner.Resub count len) h).timed 1 (λ e. cc e) refl in cc x

-- the round of a request before it is answered
pub round_too_soon : (round l : ℕ) → NoneBeginsIn resubscribing repeated (action.Round (owner.Try 3 round) (Some l))
unfolding digits items values left_over is_spoiled max_depth kind_of settings_in is_lazy held_after resubscription url_on_literals utf8_lossy utf8_valid_len
round_too_soon round l word events after h = cc (may_stand resubscribing word events (repeated resubscribing word) after (action.Round (owner.Try 3 round) (Some l)) h).1.rounds

-- a round on another link
pub round_elsewhere : (round l : ℕ) → l ≢ 1 → NoneBeginsIn resubscribing repeated_well (action.Round (owner.Try 3 round) (Some l))
unfolding digits items values left_over is_spoiled max_depth kind_of settings_in is_lazy held_after resubscription url_on_literals utf8_lossy utf8_valid_len
round_elsewhere round l other word events after h = other (may_stand resubscribing word events (repeated_well resubscribing word) after (action.Round (owner.Try 3 round) (Some l)) h).1.on_its_link

-- a request that starts without its round
pub started_unrounded : (l k round count len : ℕ) → NoneBeginsIn resubscribing repeated_well (action.Start l k (owner.Try 3 round) count len)
unfolding digits items values left_over is_spoiled max_depth kind_of settings_in is_lazy held_after resubscription url_on_literals utf8_lossy utf8_valid_len
started_unrounded l k round count len word events after h = cc (may_stand resubscribing word events (repeated_well resubscribing word) after (action.Start l k (owner.Try 3 round) count len) h).1.starts

-- an outcome that the new link gives to a request of the old one
pub answered_there : (o : Outcome) → NoneBeginsIn resubscribing replied_there (action.Outcome 1 o)
unfolding digits items values left_over is_spoiled max_depth kind_of settings_in is_lazy held_after resubscription url_on_literals utf8_lossy utf8_valid_len
answered_there o word events after h = cc (still_open resubscribing word events (replied_there resubscribing word) after 1 o h)
