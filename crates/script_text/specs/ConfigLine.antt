-- Which configuration the words of a line are.
use Rattle.std.specs.Prelude.{ℕ, Bool, true, false, ◌&&◌, List, [], ◌∷◌, ◌++◌, Option, Some, None, is_some, option_map, option_and_then, bytes_eq, codes, if◌then◌else◌}
use Rattle.std.specs.Option.{option_to_list}
use Rattle.std.specs.List.{list_all, list_any}
use Rattle.driver_model.specs.declared.config.Config.{Config}
use Rattle.driver_model.specs.declared.config.Config.TheVariants as config
use Rattle.driver_model.specs.declared.config_words.AddressWords.{AddressWords}
use Rattle.driver_model.specs.declared.config_words.ConnectionWords.{ConnectionWords}
use Rattle.driver_model.specs.declared.config_words.ManagerWords.{ManagerWords}
use Rattle.driver_model.specs.declared.kind.SessionKind.{SessionKind}
use Rattle.driver_model.specs.declared.kind.SessionKind.TheVariants as kind
use Rattle.script_text.specs.Words.{LineWords, cut_at}
use Rattle.script_text.specs.Draws.{drawn}
use Rattle.script_text.specs.Numbers.{number, max_u32, max_u64, time_limit, fraction, switch}
use Rattle.script_text.specs.EventLine.{by_first, whole}

-- the key is one of these
abbrev pub has_key : List (List ℕ) → Option (List ℕ × List ℕ) → Bool
has_key keys None = false
has_key keys (Some c) = list_any (bytes_eq c.0) keys

-- the word is KEY=VALUE, cut at the first `=`, with one of these keys
abbrev pub is_setting : List (List ℕ) → List ℕ → Bool
is_setting keys word = has_key keys (cut_at 61 word)

-- the value that a word gives the key, if it gives it one
abbrev pub value_of : List ℕ → List ℕ → Option (List ℕ)
value_of key word = option_and_then (λ c. if bytes_eq c.0 key then Some c.1 else None) (cut_at 61 word)

-- all values that words give the key
abbrev pub values : List ℕ → List (List ℕ) → List (List ℕ)
values key [] = []
values key (word ∷ words) = option_to_list (value_of key word) ++ values key words

-- the one of a list of one
abbrev pub only : {A : Type 0} → List A → Option A
only (a ∷ []) = Some a
only _ = None

-- the keys of a multiplexed connection
abbrev pub connection_keys : List (List ℕ)
connection_keys = codes "url" ∷ codes "connect" ∷ codes "response" ∷ codes "buffer" ∷ codes "limit" ∷ codes "boundary" ∷ codes "push" ∷ codes "creds" ∷ codes "lib" ∷ []

-- the keys of how a connection comes back
abbrev pub retry_keys : List (List ℕ)
retry_keys = codes "retries" ∷ codes "min" ∷ codes "max" ∷ codes "base" ∷ codes "resub" ∷ []

-- the keys of a connection that comes back
abbrev pub manager_keys : List (List ℕ)
manager_keys = connection_keys ++ retry_keys

-- the keys of a link of publish/subscribe or of monitor mode
abbrev pub link_keys : List (List ℕ)
link_keys = codes "url" ∷ codes "lib" ∷ []

-- the keys of a session of this kind
abbrev pub keys : SessionKind → List (List ℕ)
keys kind.Single = connection_keys
keys (kind.Manager lazy) = manager_keys
keys kind.PubSub = link_keys
keys kind.Monitor = link_keys

-- these values of a key are none, or one alone that can be read
abbrev pub allows : {A : Type 0} → (List ℕ → Option A) → List (List ℕ) → Bool
allows read [] = true
allows read (value ∷ []) = is_some (read value)
allows read _ = false

-- what the one of them is read as, if there is one
abbrev pub given : {A : Type 0} → (List ℕ → Option A) → List (List ℕ) → Option A
given read values = option_and_then read (only values)

-- what is given of the times can be read
abbrev pub allows_times : List (List ℕ) → Bool
allows_times words = allows time_limit (values (codes "connect") words) && allows time_limit (values (codes "response") words)

-- what is given of the queue can be read
abbrev pub allows_queue : List (List ℕ) → Bool
allows_queue words = allows (number max_u32) (values (codes "buffer") words) && allows (number max_u64) (values (codes "boundary") words)

-- what is given of the number of permits and of the queue can be read
abbrev pub allows_numbers : List (List ℕ) → Bool
allows_numbers words = allows (number max_u32) (values (codes "limit") words) && allows_queue words

-- what is given of the times and of the numbers can be read
abbrev pub allows_optional : List (List ℕ) → Bool
allows_optional words = allows_times words && allows_numbers words

-- what is given of the credentials and of the library can be read
abbrev pub allows_setup : List (List ℕ) → Bool
allows_setup words = allows switch (values (codes "creds") words) && allows switch (values (codes "lib") words)

-- what is given of what is on or off can be read
abbrev pub allows_switches : List (List ℕ) → Bool
allows_switches words = allows switch (values (codes "push") words) && allows_setup words

-- what is given of the library, and of how a multiplexed connection behaves, can be read
abbrev pub allows_connection : List (List ℕ) → Bool
allows_connection words = allows_optional words && allows_switches words

-- what is given of how delays grow can be read
abbrev pub allows_growth : List (List ℕ) → Bool
allows_growth words = allows time_limit (values (codes "max") words) && allows fraction (values (codes "base") words)

-- what is given of the delays between attempts can be read
abbrev pub allows_delays : List (List ℕ) → Bool
allows_delays words = allows (number max_u64) (values (codes "min") words) && allows_growth words

-- what is given of the number of attempts, and of what is subscribed again, can be read
abbrev pub allows_attempts : List (List ℕ) → Bool
allows_attempts words = allows (number max_u32) (values (codes "retries") words) && allows switch (values (codes "resub") words)

-- what is given of how a connection comes back can be read
abbrev pub allows_retries : List (List ℕ) → Bool
allows_retries words = allows_delays words && allows_attempts words

-- all settings but the URL, each of which may be left out, are, or can be read
abbrev pub are_allowed : List (List ℕ) → Bool
are_allowed words = allows_connection words && allows_retries words

-- the address with this URL, and with what words give it beside that
abbrev pub address_with : List (List ℕ) → List ℕ → AddressWords
address_with words url = record { url = url; lib = given switch (values (codes "lib") words) }

-- what words give of how a multiplexed connection behaves
abbrev pub connection_with : List (List ℕ) → ConnectionWords
connection_with words = record {
  connect = given time_limit (values (codes "connect") words);
  response = given time_limit (values (codes "response") words);
  limit = given (number max_u32) (values (codes "limit") words);
  buffer = given (number max_u32) (values (codes "buffer") words);
  boundary = given (number max_u64) (values (codes "boundary") words);
  push = given switch (values (codes "push") words);
  creds = given switch (values (codes "creds") words);
}

-- what words give of how a connection comes back
abbrev pub manager_with : List (List ℕ) → ManagerWords
manager_with words = record {
  retries = given (number max_u32) (values (codes "retries") words);
  min = given (number max_u64) (values (codes "min") words);
  max = given time_limit (values (codes "max") words);
  base = given fraction (values (codes "base") words);
  resub = given switch (values (codes "resub") words);
}

-- the configuration of this kind with this URL, and with what words give it beside that
abbrev pub config_with : SessionKind → List (List ℕ) → List ℕ → Config
config_with kind.Single words url = config.Single (address_with words url) (connection_with words)
config_with (kind.Manager lazy) words url = config.Manager lazy (address_with words url) (connection_with words) (manager_with words)
config_with kind.PubSub words url = config.PubSub (address_with words url)
config_with kind.Monitor words url = config.Monitor (address_with words url)

-- a session of this kind: each of its keys once at most, in any order, and `url` there. What `url` says is any text
abbrev pub session : SessionKind → List (List ℕ) → Option Config
session kind words =
    if list_all (is_setting (keys kind)) words && are_allowed words
    then option_map (config_with kind words) (only (values (codes "url") words)) else None

-- the kind of sessions with this name
abbrev pub kind_named : List ℕ → Option SessionKind
kind_named name =
    if bytes_eq name (codes "single") then Some kind.Single
    else if bytes_eq name (codes "manager") then Some (kind.Manager false)
    else if bytes_eq name (codes "lazy") then Some (kind.Manager true)
    else if bytes_eq name (codes "pubsub") then Some kind.PubSub
    else if bytes_eq name (codes "monitor") then Some kind.Monitor
    else None

-- the name of a kind, and what is given of a session of it
abbrev pub named_session : List (List ℕ) → Option Config
named_session [] = None
named_session (name ∷ words) = option_and_then (λ kind. session kind words) (kind_named name)

-- a configuration
unfoldable pub config_of : LineWords → Option Config
config_of line = by_first ((codes "config", whole named_session) ∷ []) line.words line.more

-- a configuration, behind the word of its draws, and that word
abbrev pub opening_of : LineWords → Option (Config × ℕ)
opening_of line = option_and_then (λ d. option_map (λ config. (config, d.0)) (config_of (record { words = d.1; more = line.more }))) (drawn line.words)
