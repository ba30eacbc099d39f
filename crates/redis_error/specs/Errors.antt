-- What an error of the driver is about, and how its request is tried again.
use Rattle.std.specs.Prelude.{ℕ, Bool, true, false, List, Option, Some, None}
use Rattle.redis_error.specs.declared.error_kind.ErrorKind.{ErrorKind}
use Rattle.redis_error.specs.declared.error_kind.ErrorKind.TheVariants as kind
use Rattle.resp_value.specs.declared.error_kind.ServerErrorKind.TheVariants as server
use Rattle.redis_error.specs.declared.fault_kind.FaultKind.{FaultKind}
use Rattle.redis_error.specs.declared.fault_kind.FaultKind.TheVariants as fault
use Rattle.redis_error.specs.declared.redis_error.RedisError.{RedisError}
use Rattle.redis_error.specs.declared.redis_error.RedisError.TheVariants as error
use Rattle.resp_value.specs.declared.retry_method.RetryMethod.{RetryMethod}
use Rattle.resp_value.specs.declared.retry_method.RetryMethod.TheVariants.{Reconnect, NoRetry, RetryImmediately, ReconnectFromInitialConnections}
use Rattle.resp_value.specs.ErrorTable.{kind_of, method_of}

-- a server's error is of the kind of its code
abbrev pub error_kind : RedisError → ErrorKind
error_kind (error.Config name) = kind.InvalidClientConfig
error_kind error.Client = kind.Client
error_kind error.Resp3Required = kind.Resp3Required
error_kind error.EmptyCommand = kind.EmptyCommand
error_kind error.Closed = kind.Io
error_kind (error.Io f) = kind.Io
error_kind (error.CreateFailed last) = kind.Io
error_kind error.Parse = kind.Parse
error_kind (error.Convert value) = kind.UnexpectedReturnType
error_kind error.NotFound = kind.ClusterConnectionNotFound
error_kind (error.Server e) = kind.Server (kind_of e.code)
error_kind (error.Aborted errors) = kind.Server server.ExecAbort
error_kind (error.AuthFailed text) = kind.AuthenticationFailed
error_kind (error.Credentials text) = kind.Credentials
error_kind (error.CrossSlot first second) = kind.Server server.CrossSlot
error_kind (error.RouteWithoutLink routes) = kind.RouteWithoutLink
error_kind (error.TurnsSpent turns) = kind.TurnsSpent

-- a link that is gone is made anew, and one that was slow is tried again at once
abbrev pub fault_method : FaultKind → RetryMethod
fault_method fault.Refused = Reconnect
fault_method fault.Reset = Reconnect
fault_method fault.Aborted = Reconnect
fault_method fault.NotConnected = Reconnect
fault_method fault.BrokenPipe = Reconnect
fault_method fault.Eof = Reconnect
fault_method fault.TimedOut = RetryImmediately
fault_method fault.Interrupted = RetryImmediately
fault_method fault.Denied = NoRetry
fault_method fault.Other = NoRetry

-- a server's error is tried again by its code
abbrev pub error_method : RedisError → RetryMethod
error_method error.Closed = Reconnect
error_method (error.Io f) = fault_method f
error_method error.Parse = Reconnect
error_method (error.AuthFailed text) = Reconnect
error_method error.NotFound = ReconnectFromInitialConnections
error_method (error.Server e) = method_of e.code
error_method (error.Config name) = NoRetry
error_method error.Client = NoRetry
error_method error.Resp3Required = NoRetry
error_method error.EmptyCommand = NoRetry
error_method (error.CreateFailed last) = NoRetry
error_method (error.Convert value) = NoRetry
error_method (error.Aborted errors) = NoRetry
error_method (error.Credentials text) = NoRetry
error_method (error.CrossSlot first second) = NoRetry
error_method (error.RouteWithoutLink routes) = NoRetry
error_method (error.TurnsSpent turns) = NoRetry

abbrev pub is_io_kind : ErrorKind → Bool
is_io_kind kind.Io = true
is_io_kind _ = false

-- it is of the kind `Io`
abbrev pub is_io : RedisError → Bool
is_io e = is_io_kind (error_kind e)

-- the peer dropped the link
abbrev pub is_drop : FaultKind → Bool
is_drop fault.Reset = true
is_drop fault.BrokenPipe = true
is_drop fault.Eof = true
is_drop _ = false

-- the link was closed or dropped
abbrev pub is_dropped : RedisError → Bool
is_dropped error.Closed = true
is_dropped (error.Io f) = is_drop f
is_dropped _ = false

-- the code of a server's error, and what stands behind it
abbrev pub server_code : RedisError → Option (List ℕ)
server_code (error.Server e) = Some e.code
server_code _ = None

abbrev pub server_detail : RedisError → Option (List ℕ)
server_detail (error.Server e) = e.detail
server_detail _ = None

abbrev pub is_late_fault : FaultKind → Bool
is_late_fault fault.TimedOut = true
is_late_fault _ = false

-- a timer fired before the reply came
abbrev pub is_late : RedisError → Bool
is_late (error.Io f) = is_late_fault f
is_late _ = false
