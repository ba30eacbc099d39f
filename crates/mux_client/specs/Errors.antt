-- The error of a send on a connection that has failed.
use Rattle.mux_conn.specs.declared.errors.ConnectionError.{ConnectionError}
use Rattle.mux_conn.specs.declared.errors.ConnectionError.TheVariants as failure
use Rattle.mux_client.specs.declared.errors.SendError.{SendError}
use Rattle.mux_client.specs.declared.errors.SendError.TheVariants as error

abbrev pub send_error : ConnectionError → SendError
send_error failure.Spent = error.Spent
send_error failure.NoMemory = error.NoMemory
