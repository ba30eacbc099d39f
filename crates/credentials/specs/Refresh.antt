-- How credentials are renewed where nothing else is said.
use Rattle.credentials.specs.declared.refresh.TokenRefreshConfig.{TokenRefreshConfig}
use Rattle.credentials.specs.declared.retry.RetryConfig.{RetryConfig}

-- 3 retries, the first after 100 milliseconds, each after twice the delay before it, 30,000 milliseconds at most
abbrev pub default_retries : RetryConfig
default_retries = record {
  number_of_retries = 3;
  min_delay = 100;
  max_delay = 30_000;
  exponent_base = (2, 1);
}

-- after four fifths of the lifetime
abbrev pub default_refresh : TokenRefreshConfig
default_refresh = record {
  expiration_refresh_ratio = (4, 5);
  retry_config = default_retries;
}
