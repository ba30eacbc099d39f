-- How a connection behaves where nothing else is said.
use Rattle.std.specs.Prelude.{false, Some, None}
use Rattle.connection_info.specs.declared.config.AsyncConnectionConfig.{AsyncConnectionConfig}

abbrev pub default_config : AsyncConnectionConfig
default_config = record {
  connection_timeout = Some 1000;
  response_timeout = Some 500;
  push_sender = false;
  credentials_provider = false;
  pipeline_buffer_size = 50;
  concurrency_limit = None;
  write_backpressure_boundary = 8192;
}
