-- What was judged of the error that an end counts as is what follows the end.
use Rattle.std.proofs.Common.{◌≡◌, Bool, Option, MatchOption, subst}
use Rattle.resp_value.specs.declared.redirect.Redirection.{Redirection}
use Rattle.redis_error.specs.declared.redis_error.RedisError.{RedisError}
use Rattle.cluster_retries.specs.declared.choosing.Row.{Row}
use Rattle.cluster_retries.specs.declared.round_end.OperationTarget.{OperationTarget}
use Rattle.cluster_retries.specs.declared.round_end.RoundEnd.{RoundEnd}
use Rattle.cluster_retries.specs.Ends.{error_of}
use Rattle.cluster_retries.specs.Table.{IsFollowed, IsLed, IsNotFollowed, IsNotLed, following, judged}

-- where it leads, by a row and an error
abbrev Leads : Option Redirection → Bool → Option RedisError → Type 0
Leads r follows error = MatchOption r (IsNotFollowed follows error) (λ r. IsFollowed follows error r.slot r.address.now r.ask)

pub led : (r : Option Redirection) (row : Row) (seen : Option RedisError) (target : OperationTarget) (end : RoundEnd) (left : Bool) → row ≡ judged target left seen → seen ≡ error_of end → MatchOption r (IsNotFollowed row.redirected seen) (λ r. IsFollowed row.redirected seen r.slot r.address.now r.ask) → MatchOption r (IsNotLed target end left) (λ r. IsLed target end left r.slot r.address.now r.ask)
unfolding following
led r row seen target end left e f h =
    let found : Leads r row.redirected (error_of end) = subst (Leads r row.redirected) f h in
    let judged_so : row ≡ judged target left (error_of end) = subst (λ o. row ≡ judged target left o) f e in
    subst (λ (w : Row). Leads r w.redirected (error_of end)) judged_so found
