-- What follows the end of a round, in the words of a cluster's user.
use Rattle.std.proofs.Common.{◌≡◌, ◌≢◌, ℕ, Bool, true, false, List, [], ◌∷◌, Option, Some, None, if◌then◌else◌, refl, sym, ap, subst, ◌∙◌}
use Rattle.std.specs.Prelude.{bytes_eq, codes, drop}
use Rattle.std.specs.List.{All}
use Rattle.std.specs.Option.{option_map, option_or}
use Rattle.std.proofs.lemmas.List.Elements.{All-head, All-tail}
use Rattle.slot_hash.specs.declared.address.NodeAddress.{NodeAddress}
use Rattle.resp_value.specs.declared.retry_method.RetryMethod.{RetryMethod}
use Rattle.resp_value.specs.declared.retry_method.RetryMethod.TheVariants.{Reconnect, NoRetry, RetryImmediately, WaitAndRetry, AskRedirect, MovedRedirect, ReconnectFromInitialConnections, RefreshSlotsAndRetry}
use Rattle.resp_value.specs.declared.server_error.ServerError.{ServerError}
use Rattle.resp_value.specs.declared.value.Value.{Value}
use Rattle.resp_value.specs.Data.{Data, error}
use Rattle.resp_value.specs.ErrorTable.{by_code, method_of, methods}
use Rattle.resp_value.specs.Redirect.{is_for_one_command}
use Rattle.resp_value.specs.View.{data_of}
use Rattle.redis_error.specs.declared.redis_error.RedisError.{RedisError}
use Rattle.redis_error.specs.declared.redis_error.RedisError.TheVariants as fault
use Rattle.redis_error.specs.Errors.{error_method}
use Rattle.cluster_retries.specs.declared.round_end.OperationTarget.{OperationTarget}
use Rattle.cluster_retries.specs.declared.round_end.OperationTarget.TheVariants.{Node, NotFound, FanOut}
use Rattle.cluster_retries.specs.declared.round_end.RoundEnd.{RoundEnd}
use Rattle.cluster_retries.specs.declared.round_end.RoundEnd.TheVariants as ended
use Rattle.cluster_retries.specs.declared.choosing.Next.TheVariants.{Pending, AtOnce, Sleep}
use Rattle.cluster_retries.specs.declared.choosing.RecoveryAction.{RecoveryAction}
use Rattle.cluster_retries.specs.declared.choosing.RecoveryAction.TheVariants as action
use Rattle.cluster_retries.specs.Ends.{error_in, error_of, first_error_in, is_retried}
use Rattle.cluster_retries.specs.Table.{IsFollowed, answered, following, judged, row_of}
use Rattle.cluster_retries.specs.TableLaws.{ActionStays, AskIsFollowed, EachRowIsSound, EndsBy, FanOutAnswers, IsGood, IsSound, MovedIsFollowed, ReadOnlyIsRouted, RedirectsLead, ValuesAreAnswered}

-- a good value counts as no error
good_counts_as_none : (d : Data) → IsGood d → error_in d ≡ None
good_counts_as_none (error e) good = ap (λ m. if is_retried m then Some e else None) (good e refl)
good_counts_as_none _ good = refl

none_among_good : (ds : List Data) → All IsGood ds → first_error_in ds ≡ None
none_among_good [] all = refl
none_among_good (d ∷ ds) all =
    ap (λ o. option_or o (first_error_in ds)) (good_counts_as_none d (All-head IsGood d ds all))
    ∙ none_among_good ds (All-tail IsGood d ds all)

no_error : (target : OperationTarget) (left : Bool) → judged target left None ≡ answered action.None
no_error target true = refl
no_error target false = refl

good_value : (target : OperationTarget) (v : Value) (left : Bool) → IsGood (data_of v) → following target (ended.Value v) left ≡ answered action.None
unfolding following
good_value target v left good = ap (λ o. judged target left (option_map fault.Server o)) (good_counts_as_none (data_of v) good) ∙ no_error target left

good_values : (target : OperationTarget) (values : List Data) (left : Bool) → All IsGood values → following target (ended.Many values) left ≡ answered action.None
unfolding following
good_values target values left all = ap (λ o. judged target left (option_map fault.Server o)) (none_among_good values all) ∙ no_error target left

pub values_are_answered : ValuesAreAnswered
values_are_answered = (good_value, good_values)

-- an end that is a server's error that is tried again counts as it
counts : (end : RoundEnd) (e : ServerError) → EndsBy end e → is_retried (method_of e.code) ≡ true → error_of end ≡ Some (fault.Server e)
counts (ended.Value v) e is retried =
    ap (λ d. option_map fault.Server (error_in d)) is
    ∙ ap (λ b. option_map fault.Server (if b then Some e else None)) retried
counts (ended.Many values) e is retried = absurd is
counts (ended.Error r) e is retried = ap (λ x. Some x) is

by_method : (address : NodeAddress) (end : RoundEnd) (e : ServerError) (method : RetryMethod) → EndsBy end e → method_of e.code ≡ method → is_retried method ≡ true → following (Node address) end true ≡ row_of (Node address) method
unfolding following
by_method address end e method is m retried =
    ap (judged (Node address) true) (counts end e is (ap is_retried m ∙ retried))
    ∙ ap (row_of (Node address)) m

method_of_code : (e : ServerError) (code : List ℕ) (method : RetryMethod) → e.code ≡ code → method_of code ≡ method → method_of e.code ≡ method
method_of_code e code method is m = ap method_of is ∙ m

-- what is read as a redirect is tried again by following it
abbrev IsFollowedBy : RetryMethod → Type 0
IsFollowedBy method = ((address : NodeAddress) → (row_of (Node address) method).redirected ≡ true) × (is_retried method ≡ true)

by_tests : (moved asked ask : Bool) (other : RetryMethod) → (if moved then Some false else (if asked then Some true else None)) ≡ Some ask → IsFollowedBy (if moved then MovedRedirect else (if asked then AskRedirect else other))
by_tests true asked ask other e = ((λ address. refl), refl)
by_tests false true ask other e = ((λ address. refl), refl)
by_tests false false ask other e = absurd (cc e)

redirecting : (code : List ℕ) (ask : Bool) → is_for_one_command code ≡ Some ask → IsFollowedBy (method_of code)
unfolding is_for_one_command method_of
redirecting code ask e = by_tests (bytes_eq code (codes "MOVED")) (bytes_eq code (codes "ASK")) ask (by_code (drop 2 methods) NoRetry code) e

pub redirects_lead : RedirectsLead
unfolding following
redirects_lead address end e slot text ask is redirect =
    let followed = redirecting e.code ask redirect.0 in
    let seen : error_of end ≡ Some (fault.Server e) = counts end e is followed.1 in
    let follows : (judged (Node address) true (error_of end)).redirected ≡ true = ap (λ o. (judged (Node address) true o).redirected) seen ∙ followed.0 address in
    subst (λ o. IsFollowed (judged (Node address) true (error_of end)).redirected o slot text ask) (sym seen)
    (subst (λ b. IsFollowed b (Some (fault.Server e)) slot text ask) (sym follows) redirect)

moved_method : method_of (codes "MOVED") ≡ MovedRedirect
unfolding method_of
moved_method = refl

ask_method : method_of (codes "ASK") ≡ AskRedirect
unfolding method_of
ask_method = refl

read_only_method : method_of (codes "READONLY") ≡ RefreshSlotsAndRetry
unfolding method_of
read_only_method = refl

pub moved_is_followed : MovedIsFollowed
moved_is_followed address end e is code = by_method address end e MovedRedirect is (method_of_code e (codes "MOVED") MovedRedirect code moved_method) refl

pub ask_is_followed : AskIsFollowed
ask_is_followed address end e is code = by_method address end e AskRedirect is (method_of_code e (codes "ASK") AskRedirect code ask_method) refl

pub read_only_is_routed : ReadOnlyIsRouted
read_only_is_routed address end e is code = by_method address end e RefreshSlotsAndRetry is (method_of_code e (codes "READONLY") RefreshSlotsAndRetry code read_only_method) refl

stays : (target : OperationTarget) (o : Option RedisError) → judged target false o ≡ answered (judged target true o).action
stays target None = refl
stays target (Some e) = refl

pub action_stays : ActionStays
unfolding following
action_stays target end = stays target (error_of end)

fan_out_row : (method : RetryMethod) → method ≢ ReconnectFromInitialConnections → row_of FanOut method ≡ answered action.None
fan_out_row ReconnectFromInitialConnections other = absurd (other refl)
fan_out_row Reconnect other = refl
fan_out_row NoRetry other = refl
fan_out_row RetryImmediately other = refl
fan_out_row WaitAndRetry other = refl
fan_out_row AskRedirect other = refl
fan_out_row MovedRedirect other = refl
fan_out_row RefreshSlotsAndRetry other = refl

pub fan_out_answers : FanOutAnswers
unfolding following
fan_out_answers e true other = fan_out_row (error_method e) other
fan_out_answers e false other = ap (λ w. answered w.action) (fan_out_row (error_method e) other)

-- each form of a row
sound_answer : (a : RecoveryAction) → IsSound (answered a)
sound_answer a = ((λ h. (refl, refl)), (λ h. absurd (cc h)))

sound_reset : (a : RecoveryAction) → IsSound (record { next = Pending; reset = true; redirected = false; action = a })
sound_reset a = ((λ h. absurd (cc h)), (λ h. absurd (cc h)))

sound_sleep : (reset : Bool) (a : RecoveryAction) → IsSound (record { next = Sleep; reset = reset; redirected = false; action = a })
sound_sleep reset a = ((λ h. absurd (cc h)), (λ h. absurd (cc h)))

sound_redirect : (a : RecoveryAction) → IsSound (record { next = AtOnce; reset = false; redirected = true; action = a })
sound_redirect a = ((λ h. absurd (cc h)), (λ h. (refl, refl)))

sound_again : (a : RecoveryAction) → IsSound (record { next = Pending; reset = false; redirected = false; action = a })
sound_again a = ((λ h. absurd (cc h)), (λ h. absurd (cc h)))

sound_node : (address : NodeAddress) (method : RetryMethod) → IsSound (row_of (Node address) method)
sound_node address ReconnectFromInitialConnections = sound_reset action.ReconnectInitial
sound_node address Reconnect = sound_reset action.RepairTarget
sound_node address AskRedirect = sound_redirect action.None
sound_node address MovedRedirect = sound_redirect action.RebuildSlots
sound_node address RefreshSlotsAndRetry = sound_reset action.RebuildSlots
sound_node address WaitAndRetry = sound_sleep false action.None
sound_node address NoRetry = sound_answer action.None
sound_node address RetryImmediately = sound_again action.None

sound_not_found : (method : RetryMethod) → IsSound (row_of NotFound method)
sound_not_found ReconnectFromInitialConnections = sound_reset action.ReconnectInitial
sound_not_found _ = sound_sleep true action.RebuildSlots

sound_fan_out : (method : RetryMethod) → IsSound (row_of FanOut method)
sound_fan_out ReconnectFromInitialConnections = sound_reset action.ReconnectInitial
sound_fan_out _ = sound_answer action.None

sound_row : (target : OperationTarget) (method : RetryMethod) → IsSound (row_of target method)
sound_row (Node address) method = sound_node address method
sound_row NotFound method = sound_not_found method
sound_row FanOut method = sound_fan_out method

sound : (target : OperationTarget) (left : Bool) (o : Option RedisError) → IsSound (judged target left o)
sound target true None = sound_answer action.None
sound target false None = sound_answer action.None
sound target true (Some e) = sound_row target (error_method e)
sound target false (Some e) = sound_answer (row_of target (error_method e)).action

pub each_row_is_sound : EachRowIsSound
unfolding following
each_row_is_sound target end left = sound target left (error_of end)
