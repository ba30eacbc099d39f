-- What the code of a server error says: its kind, and how the command is tried again.
use Rattle.std.specs.Prelude.{ℕ, Bool, true, false, List, [], ◌∷◌, bytes_eq, codes, if◌then◌else◌}
use Rattle.resp_value.specs.declared.error_kind.ServerErrorKind.{ServerErrorKind}
use Rattle.resp_value.specs.declared.error_kind.ServerErrorKind.TheVariants.{ResponseError, ExecAbort, BusyLoading, NoScript, Moved, Ask, TryAgain, ClusterDown, CrossSlot, MasterDown, ReadOnly, NotBusy, NoSub, NoPerm, Other}
use Rattle.resp_value.specs.declared.retry_method.RetryMethod.{RetryMethod}
use Rattle.resp_value.specs.declared.retry_method.RetryMethod.TheVariants.{Reconnect, NoRetry, RetryImmediately, WaitAndRetry, AskRedirect, MovedRedirect, ReconnectFromInitialConnections, RefreshSlotsAndRetry}

-- codes, each with what it stands for
abbrev pub Table : Type 0 → Type 0
Table A = List (List ℕ × A)

-- what the first row of a code says, or what is said of all other codes
abbrev pub by_code : {A : Type 0} → Table A → A → List ℕ → A
by_code [] other code = other
by_code (row ∷ rows) other code = if bytes_eq code row.0 then row.1 else by_code rows other code

abbrev pub kinds : Table ServerErrorKind
kinds =
    (codes "ERR", ResponseError)
    ∷ (codes "EXECABORT", ExecAbort)
    ∷ (codes "LOADING", BusyLoading)
    ∷ (codes "NOSCRIPT", NoScript)
    ∷ (codes "MOVED", Moved)
    ∷ (codes "ASK", Ask)
    ∷ (codes "TRYAGAIN", TryAgain)
    ∷ (codes "CLUSTERDOWN", ClusterDown)
    ∷ (codes "CROSSSLOT", CrossSlot)
    ∷ (codes "MASTERDOWN", MasterDown)
    ∷ (codes "READONLY", ReadOnly)
    ∷ (codes "NOTBUSY", NotBusy)
    ∷ (codes "NOSUB", NoSub)
    ∷ (codes "NOPERM", NoPerm)
    ∷ []

-- any other code is `Other`
unfoldable pub kind_of : List ℕ → ServerErrorKind
kind_of code = by_code kinds Other code

abbrev pub methods : Table RetryMethod
methods =
    (codes "MOVED", MovedRedirect)
    ∷ (codes "ASK", AskRedirect)
    ∷ (codes "READONLY", RefreshSlotsAndRetry)
    ∷ (codes "TRYAGAIN", WaitAndRetry)
    ∷ (codes "CLUSTERDOWN", WaitAndRetry)
    ∷ (codes "LOADING", WaitAndRetry)
    ∷ (codes "MASTERDOWN", WaitAndRetry)
    ∷ []

-- any other code is not tried again
unfoldable pub method_of : List ℕ → RetryMethod
method_of code = by_code methods NoRetry code

-- no link serves any more: the request itself can't be tried again on it
abbrev pub needs_new_link : RetryMethod → Bool
needs_new_link Reconnect = true
needs_new_link ReconnectFromInitialConnections = true
needs_new_link NoRetry = false
needs_new_link RetryImmediately = false
needs_new_link WaitAndRetry = false
needs_new_link AskRedirect = false
needs_new_link MovedRedirect = false
needs_new_link RefreshSlotsAndRetry = false
