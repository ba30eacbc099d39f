-- What errors are about, how their requests are tried again, and where they lead.
use Rattle.std.specs.Prelude.{◌≡◌, ◌≢◌, ℕ, Bool, true, false, List, [], ◌∷◌, Some, None, codes}
use Rattle.std.specs.List.{All}
use Rattle.resp_value.specs.declared.error_kind.ServerErrorKind.{ServerErrorKind}
use Rattle.resp_value.specs.declared.error_kind.ServerErrorKind.TheVariants as server
use Rattle.resp_value.specs.declared.retry_method.RetryMethod.{RetryMethod}
use Rattle.resp_value.specs.declared.retry_method.RetryMethod.TheVariants.{Reconnect, NoRetry, RetryImmediately, WaitAndRetry, AskRedirect, MovedRedirect, ReconnectFromInitialConnections, RefreshSlotsAndRetry}
use Rattle.resp_value.specs.declared.server_error.ServerError.{ServerError}
use Rattle.resp_value.specs.declared.value.Value.TheVariants.{Nil}
use Rattle.resp_value.specs.ErrorTable.{kind_of, method_of}
use Rattle.resp_value.specs.Redirect.{IsRedirect}
use Rattle.redis_error.specs.declared.config_name.ConfigName.{ConfigName}
use Rattle.redis_error.specs.declared.config_name.ConfigName.TheVariants as config
use Rattle.redis_error.specs.declared.error_kind.ErrorKind.{ErrorKind}
use Rattle.redis_error.specs.declared.error_kind.ErrorKind.TheVariants as kind
use Rattle.redis_error.specs.declared.fault_kind.FaultKind.{FaultKind}
use Rattle.redis_error.specs.declared.fault_kind.FaultKind.TheVariants as fault
use Rattle.redis_error.specs.declared.redis_error.RedisError.{RedisError}
use Rattle.redis_error.specs.declared.redis_error.RedisError.TheVariants as error
use Rattle.redis_error.specs.Errors.{error_kind, error_method, is_io, is_dropped}
use Rattle.trace_text.specs.Words.{line_of}
use Rattle.trace_text.specs.Errors.{error_words}

-- a code of a server error with its kind, and how its command is tried again
abbrev pub told_by_code : List ℕ → ServerErrorKind × RetryMethod
told_by_code code = (kind_of code, method_of code)

-- the codes that tell something; a code is told with its case
abbrev pub codes_of_errors : List (List ℕ × (ServerErrorKind × RetryMethod))
codes_of_errors =
    (codes "ERR", (server.ResponseError, NoRetry))
    ∷ (codes "EXECABORT", (server.ExecAbort, NoRetry))
    ∷ (codes "LOADING", (server.BusyLoading, WaitAndRetry))
    ∷ (codes "NOSCRIPT", (server.NoScript, NoRetry))
    ∷ (codes "MOVED", (server.Moved, MovedRedirect))
    ∷ (codes "ASK", (server.Ask, AskRedirect))
    ∷ (codes "TRYAGAIN", (server.TryAgain, WaitAndRetry))
    ∷ (codes "CLUSTERDOWN", (server.ClusterDown, WaitAndRetry))
    ∷ (codes "CROSSSLOT", (server.CrossSlot, NoRetry))
    ∷ (codes "MASTERDOWN", (server.MasterDown, WaitAndRetry))
    ∷ (codes "READONLY", (server.ReadOnly, RefreshSlotsAndRetry))
    ∷ (codes "NOTBUSY", (server.NotBusy, NoRetry))
    ∷ (codes "NOSUB", (server.NoSub, NoRetry))
    ∷ (codes "NOPERM", (server.NoPerm, NoRetry))
    ∷ []

-- a code that is none of them tells nothing
abbrev pub TellsNothing : List ℕ → Type 0
TellsNothing code = All (λ row. code ≢ row.0) codes_of_errors → told_by_code code ≡ (server.Other, NoRetry)

-- some that are none of them
abbrev pub other_codes : List (List ℕ × (ServerErrorKind × RetryMethod))
other_codes = (codes "WRONGTYPE", (server.Other, NoRetry)) ∷ (codes "moved", (server.Other, NoRetry)) ∷ ([], (server.Other, NoRetry)) ∷ []

-- an error of the driver with its kind, and how its request is tried again
abbrev pub told_by_error : RedisError → ErrorKind × RetryMethod
told_by_error e = (error_kind e, error_method e)

-- a server's error of this code
abbrev pub server_error : List ℕ → RedisError
server_error code = error.Server (record { code = code; detail = None })

-- errors that are no faults of a link
abbrev pub errors_of_the_driver : List (RedisError × (ErrorKind × RetryMethod))
errors_of_the_driver =
    (error.Config config.Url, (kind.InvalidClientConfig, NoRetry))
    ∷ (error.Client, (kind.Client, NoRetry))
    ∷ (error.Resp3Required, (kind.Resp3Required, NoRetry))
    ∷ (error.EmptyCommand, (kind.EmptyCommand, NoRetry))
    ∷ (error.Closed, (kind.Io, Reconnect))
    ∷ (error.CreateFailed (codes "refused"), (kind.Io, NoRetry))
    ∷ (error.Parse, (kind.Parse, Reconnect))
    ∷ (error.Convert Nil, (kind.UnexpectedReturnType, NoRetry))
    ∷ (error.NotFound, (kind.ClusterConnectionNotFound, ReconnectFromInitialConnections))
    ∷ (server_error (codes "TRYAGAIN"), (kind.Server server.TryAgain, WaitAndRetry))
    ∷ (error.Aborted [], (kind.Server server.ExecAbort, NoRetry))
    ∷ (error.AuthFailed (codes "WRONGPASS"), (kind.AuthenticationFailed, Reconnect))
    ∷ (error.Credentials (codes "expired"), (kind.Credentials, NoRetry))
    ∷ (error.CrossSlot 1 2, (kind.Server server.CrossSlot, NoRetry))
    ∷ (error.RouteWithoutLink [], (kind.RouteWithoutLink, NoRetry))
    ∷ (error.TurnsSpent 3, (kind.TurnsSpent, NoRetry))
    ∷ (server_error (codes "ERR"), (kind.Server server.ResponseError, NoRetry))
    ∷ []

-- faults of a link
abbrev pub faults : List (RedisError × (ErrorKind × RetryMethod))
faults =
    (error.Io fault.Refused, (kind.Io, Reconnect))
    ∷ (error.Io fault.Reset, (kind.Io, Reconnect))
    ∷ (error.Io fault.Aborted, (kind.Io, Reconnect))
    ∷ (error.Io fault.NotConnected, (kind.Io, Reconnect))
    ∷ (error.Io fault.BrokenPipe, (kind.Io, Reconnect))
    ∷ (error.Io fault.Eof, (kind.Io, Reconnect))
    ∷ (error.Io fault.TimedOut, (kind.Io, RetryImmediately))
    ∷ (error.Io fault.Interrupted, (kind.Io, RetryImmediately))
    ∷ (error.Io fault.Denied, (kind.Io, NoRetry))
    ∷ (error.Io fault.Other, (kind.Io, NoRetry))
    ∷ []

-- whether an error is one of input and output, and whether it says that the link was closed or dropped
abbrev pub told_of_links : RedisError → Bool × Bool
told_of_links e = (is_io e, is_dropped e)

-- errors with both
abbrev pub ends_of_links : List (RedisError × (Bool × Bool))
ends_of_links =
    (error.Closed, (true, true))
    ∷ (error.Io fault.Refused, (true, false))
    ∷ (error.Io fault.Reset, (true, true))
    ∷ (error.Io fault.Aborted, (true, false))
    ∷ (error.Io fault.NotConnected, (true, false))
    ∷ (error.Io fault.BrokenPipe, (true, true))
    ∷ (error.Io fault.Eof, (true, true))
    ∷ (error.Io fault.TimedOut, (true, false))
    ∷ (error.CreateFailed (codes "refused"), (true, false))
    ∷ (error.Parse, (false, false))
    ∷ (server_error (codes "ERR"), (false, false))
    ∷ []

-- whether a request can't be tried again on its link, by how it is tried again
abbrev pub unrecoverable_methods : List (RetryMethod × Bool)
unrecoverable_methods =
    (Reconnect, true)
    ∷ (ReconnectFromInitialConnections, true)
    ∷ (NoRetry, false)
    ∷ (RetryImmediately, false)
    ∷ (WaitAndRetry, false)
    ∷ (AskRedirect, false)
    ∷ (MovedRedirect, false)
    ∷ (RefreshSlotsAndRetry, false)
    ∷ []

-- an error, the slot and the address that it leads to, and whether for the one command alone
abbrev pub Lead : Type 0
Lead = ServerError × ℕ × List ℕ × Bool

-- the error leads there
abbrev pub IsLead : Lead → Type 0
IsLead lead = IsRedirect lead.0 lead.1 lead.2 lead.3

-- an error of this code and detail
abbrev pub told : List ℕ → List ℕ → ServerError
told code detail = record { code = code; detail = Some detail }

-- errors that lead to a node
abbrev pub leads : List Lead
leads =
    (told (codes "MOVED") (codes "3999 127.0.0.1:6381"), 3999, codes "127.0.0.1:6381", false)
    ∷ (told (codes "ASK") (codes "3999 127.0.0.1:6381"), 3999, codes "127.0.0.1:6381", true)
    ∷ (told (codes "MOVED") (codes "0 :6381"), 0, codes ":6381", false)
    ∷ (told (codes "MOVED") (codes "16383 host:7000"), 16_383, codes "host:7000", false)
    ∷ []

-- errors that lead nowhere: of other codes, without a slot below 16,384, or without an address after one space
abbrev pub strays : List ServerError
strays =
    told (codes "ERR") (codes "3999 127.0.0.1:6381")
    ∷ told (codes "moved") (codes "3999 127.0.0.1:6381")
    ∷ record { code = codes "MOVED"; detail = None }
    ∷ told (codes "MOVED") []
    ∷ told (codes "MOVED") (codes "3999")
    ∷ told (codes "MOVED") (codes " 127.0.0.1:6381")
    ∷ told (codes "MOVED") (codes "-1 127.0.0.1:6381")
    ∷ told (codes "ASK") (codes "16384 127.0.0.1:6381")
    ∷ []

-- the line in which a trace tells an error
abbrev pub line_of_error : RedisError → List ℕ
line_of_error e = line_of (error_words e) []

-- errors that no request is answered with yet, each with its line
abbrev pub errors_in_words : List (RedisError × List ℕ)
errors_in_words =
    (error.Client, codes "client\n")
    ∷ (error.NotFound, codes "not-found\n")
    ∷ (error.TurnsSpent 2, codes "turns 2\n")
    ∷ (error.Config config.Keys, codes "config keys\n")
    ∷ (error.CrossSlot 7 12182, codes "cross-slot 7 12182\n")
    ∷ (error.RouteWithoutLink (3 ∷ 0 ∷ []), codes "no-link 3 0\n")
    ∷ (error.CreateFailed (codes "io refused"), codes "create-failed io%20refused\n")
    ∷ (error.Convert Nil, codes "convert _%0D%0A\n")
    ∷ []

-- the kinds of faults by their names
abbrev pub names_of_faults : List (FaultKind × List ℕ)
names_of_faults =
    (fault.Refused, codes "refused")
    ∷ (fault.Reset, codes "reset")
    ∷ (fault.Aborted, codes "aborted")
    ∷ (fault.NotConnected, codes "not-connected")
    ∷ (fault.BrokenPipe, codes "broken-pipe")
    ∷ (fault.Eof, codes "eof")
    ∷ (fault.TimedOut, codes "timed-out")
    ∷ (fault.Interrupted, codes "interrupted")
    ∷ (fault.Denied, codes "denied")
    ∷ (fault.Other, codes "other")
    ∷ []

-- and what is refused of a configuration
abbrev pub names_of_settings : List (ConfigName × List ℕ)
names_of_settings =
    (config.Url, codes "url")
    ∷ (config.Push, codes "push")
    ∷ (config.Limit, codes "limit")
    ∷ (config.Buffer, codes "buffer")
    ∷ (config.Resub, codes "resub")
    ∷ (config.Base, codes "base")
    ∷ (config.Nodes, codes "nodes")
    ∷ (config.Password, codes "password")
    ∷ (config.User, codes "user")
    ∷ (config.Protocol, codes "protocol")
    ∷ (config.Database, codes "database")
    ∷ (config.Keys, codes "keys")
    ∷ (config.Creds, codes "creds")
    ∷ (config.Kind, codes "kind")
    ∷ []
