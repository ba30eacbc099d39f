-- What is said to a server before the first request.
use Rattle.std.specs.Prelude.{ℕ, suc, zero, ℤ, pos, negsuc, Bool, true, false, List, [], ◌∷◌, ◌++◌, map, codes, Option, Some, None, if◌then◌else◌}
use Rattle.std.specs.Fmt.{signed_decimal}
use Rattle.resp_write.specs.Command.{Command, CommandList}
use Rattle.resp_write.specs.Pack.{commands_of}
use Rattle.connection_info.specs.declared.address.RedisConnectionInfo.{RedisConnectionInfo}
use Rattle.connection_info.specs.declared.protocol.ProtocolVersion.{ProtocolVersion}
use Rattle.connection_info.specs.declared.protocol.ProtocolVersion.TheVariants.{RESP2, RESP3}
use Rattle.connection_setup.specs.declared.meaning.Meaning.{Meaning}
use Rattle.connection_setup.specs.declared.meaning.Meaning.TheVariants.{User, Password, Choice, Library}

-- one command of a setup
pub record Step : Type 0 where
  pub words : List (List ℕ)
  pub meaning : Meaning

-- the command alone
abbrev pub step : Meaning → List (List ℕ) → List Step
step meaning words = record { words = words; meaning = meaning } ∷ []

-- a command whose reply is awaited
abbrev pub awaited_command : List (List ℕ) → Command
awaited_command words = record { args = words; no_response = false }

-- HELLO, and what follows it
abbrev pub hello : List (List ℕ) → List (List ℕ)
hello more = codes "HELLO" ∷ codes "3" ∷ more

-- what comes first: HELLO on RESP3, and authentication where there is a password
abbrev pub opening : ProtocolVersion → Option (List ℕ) → Option (List ℕ) → List Step
opening RESP2 username None = []
opening RESP2 None (Some password) = step Password (codes "AUTH" ∷ password ∷ [])
opening RESP2 (Some name) (Some password) = step User (codes "AUTH" ∷ name ∷ password ∷ [])
opening RESP3 username None = step Choice (hello [])
opening RESP3 None (Some password) = step Password (hello (codes "AUTH" ∷ codes "default" ∷ password ∷ []))
opening RESP3 (Some name) (Some password) = step User (hello (codes "AUTH" ∷ name ∷ password ∷ []))

-- the choice of a database other than 0
abbrev pub selection : ℤ → List Step
selection (pos zero) = []
selection (pos (suc n)) = step Choice (codes "SELECT" ∷ signed_decimal (pos (suc n)) ∷ [])
selection (negsuc n) = step Choice (codes "SELECT" ∷ signed_decimal (negsuc n) ∷ [])

-- one fact about the library
abbrev pub library_words : List ℕ → List ℕ → List (List ℕ)
library_words name fact = codes "CLIENT" ∷ codes "SETINFO" ∷ name ∷ fact ∷ []

abbrev pub library_fact : List ℕ → List ℕ → List Step
library_fact name fact = step Library (library_words name fact)

-- the library's name and version, unless they are left out
abbrev pub library : Bool → List Step
library true = []
library false = library_fact (codes "LIB-NAME") (codes "redis-rs") ++ library_fact (codes "LIB-VER") (codes "1.7.0")

-- what follows it
abbrev pub choices : RedisConnectionInfo → List Step
choices info = selection info.db ++ library info.skip_set_lib_name

-- what an error in the first of some replies is about
abbrev pub first_meaning : List Step → Option Meaning
first_meaning [] = None
first_meaning (s ∷ steps) = Some s.meaning

-- the user name that is sent, if any
abbrev pub username_in : RedisConnectionInfo → Bool → Option (List ℕ)
username_in info with_user = if with_user then info.username else None

-- what comes first in a setup, with the user name or without it
abbrev pub opening_of : RedisConnectionInfo → Bool → List Step
opening_of info with_user = opening info.protocol (username_in info with_user) info.password

-- the commands of a setup in order, with the user name or without it
abbrev pub setup : RedisConnectionInfo → Bool → List Step
setup info with_user = opening_of info with_user ++ choices info

-- a pipeline with more commands at its end
abbrev pub with_steps : CommandList → List Step → CommandList
with_steps p steps = record {
  commands = p.commands ++ commands_of (map (λ s. s.words) steps);
  ignored = p.ignored ++ map (λ s. false) steps;
  atomic = p.atomic;
}

-- the setup as one pipeline, which is no transaction
abbrev pub pipeline_of : List Step → CommandList
pipeline_of steps = with_steps (record { commands = []; ignored = []; atomic = false }) steps
