-- The words of an error, as they are before any escape.
use Rattle.std.specs.Prelude.{ℕ, List, [], ◌∷◌, ◌++◌, map, Option, Some, None, codes, decimal}
use Rattle.std.specs.Str.{byte}
use Rattle.resp_value.specs.View.{data_of}
use Rattle.redis_error.specs.Names.{config_name, fault_name}
use Rattle.redis_error.specs.declared.redis_error.RedisError.{RedisError}
use Rattle.redis_error.specs.declared.redis_error.RedisError.TheVariants as error
use Rattle.resp_value.specs.declared.server_error.ServerError.{ServerError}
use Rattle.resp_write.specs.Canonical.{canonical, detail_text}

-- a server's error as one text: its code, and a space and its detail where there is one
abbrev pub server_text : ServerError → List ℕ
server_text e = e.code ++ detail_text e.detail

-- a command of a transaction by its position, and the server's error for it
abbrev pub abort_word : ℕ × ServerError → List ℕ
abort_word a = decimal a.0 ++ byte ":" ∷ server_text a.1

-- no word where there is no detail
abbrev pub detail_words : Option (List ℕ) → List (List ℕ)
detail_words None = []
detail_words (Some detail) = detail ∷ []

abbrev pub error_words : RedisError → List (List ℕ)
error_words (error.Config name) = codes "config" ∷ config_name name ∷ []
error_words error.Client = codes "client" ∷ []
error_words error.Resp3Required = codes "resp3" ∷ []
error_words error.EmptyCommand = codes "empty" ∷ []
error_words error.Closed = codes "closed" ∷ []
error_words (error.Io fault) = codes "io" ∷ fault_name fault ∷ []
error_words (error.CreateFailed last) = codes "create-failed" ∷ last ∷ []
error_words error.Parse = codes "parse" ∷ []
error_words (error.Convert value) = codes "convert" ∷ canonical (data_of value) ∷ []
error_words error.NotFound = codes "not-found" ∷ []
error_words (error.Server e) = codes "server" ∷ e.code ∷ detail_words e.detail
error_words (error.Aborted errors) = codes "aborted" ∷ map abort_word errors
error_words (error.AuthFailed text) = codes "auth-failed" ∷ text ∷ []
error_words (error.Credentials text) = codes "creds" ∷ text ∷ []
error_words (error.CrossSlot first second) = codes "cross-slot" ∷ decimal first ∷ decimal second ∷ []
error_words (error.RouteWithoutLink routes) = codes "no-link" ∷ map decimal routes
error_words (error.TurnsSpent turns) = codes "turns" ∷ decimal turns ∷ []
