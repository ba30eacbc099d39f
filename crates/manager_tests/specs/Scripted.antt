-- What a script has answered.
use Rattle.std.specs.Prelude.{ℕ, List, [], ◌∷◌, None, Result, Ok, Err, map}
use Rattle.resp_value.specs.Data.{Data}
use Rattle.resp_value.specs.declared.value.Value.{Value}
use Rattle.resp_value.specs.declared.value.Value.TheVariants as value
use Rattle.redis_error.specs.declared.redis_error.RedisError.TheVariants as redis
use Rattle.transactions.specs.declared.call_error.CallError.{CallError}
use Rattle.transactions.specs.declared.call_error.CallError.TheVariants as error
use Rattle.transactions.specs.Calls.{Made}
use Rattle.transactions.specs.Calls.Made.{command, together}
use Rattle.manager_tests.specs.declared.scripted.Reply.{Reply}
use Rattle.manager_tests.specs.declared.scripted.Reply.TheVariants as reply
use Rattle.manager_tests.specs.declared.scripted.Noted.{Noted}
use Rattle.manager_tests.specs.declared.scripted.Noted.TheVariants as noted

-- what a reply of a script answers a command with
abbrev pub value_of : Reply → Result Value CallError
value_of reply.Okay = Ok value.Okay
value_of reply.Refused = Ok (value.ServerError (record { code = []; detail = None }))
value_of reply.Closed = Err (error.Redis redis.Closed)
value_of reply.Spent = Err (error.Spent 7)
value_of reply.NoMemory = Err error.NoMemory

-- and a pipeline
abbrev pub values_of : Reply → Result (List Data) CallError
values_of reply.Okay = Ok []
values_of reply.Refused = Ok []
values_of reply.Closed = Err (error.Redis redis.Closed)
values_of reply.Spent = Err (error.Spent 7)
values_of reply.NoMemory = Err error.NoMemory

-- a call that was noted, with its answer
abbrev pub made_of : Noted → Made
made_of (noted.One cmd answer) = command cmd (value_of answer)
made_of (noted.Several pipeline answer) = together pipeline (values_of answer)
