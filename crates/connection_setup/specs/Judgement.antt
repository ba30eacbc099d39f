-- What the replies to a setup mean.
use Rattle.std.specs.Prelude.{◌≡◌, ℕ, nat_eq, Bool, false, ◌||◌, List, [], ◌∷◌, ◌++◌, codes, Option, Some, None, ⊤, if◌then◌else◌}
use Rattle.std.specs.List.{starts_with}
use Rattle.resp_value.specs.Data.{Data, error}
use Rattle.resp_value.specs.declared.server_error.ServerError.{ServerError}
use Rattle.redis_error.specs.declared.redis_error.RedisError.TheVariants.{AuthFailed, Server}
use Rattle.resp_write.specs.Canonical.{detail_text}
use Rattle.connection_setup.specs.declared.meaning.Meaning.{Meaning}
use Rattle.connection_setup.specs.declared.meaning.Meaning.TheVariants.{User, Password, Choice, Library}
use Rattle.connection_setup.specs.declared.judgement.SetupResult.{SetupResult}
use Rattle.connection_setup.specs.declared.judgement.SetupResult.TheVariants.{Ready, RepeatWithoutUser, Failed, NoMemory}
use Rattle.connection_setup.specs.Setup.{Step}

-- the text has the phrase somewhere
abbrev pub has_phrase : List ℕ → List ℕ → Bool
has_phrase phrase [] = false
has_phrase phrase (b ∷ bytes) = starts_with nat_eq (b ∷ bytes) phrase || has_phrase phrase bytes

-- a detail says that the server counts other arguments
abbrev pub counts_arguments : Option (List ℕ) → Bool
counts_arguments None = false
counts_arguments (Some detail) = has_phrase (codes "wrong number of arguments") detail

-- an error as the server wrote it
abbrev pub text_of : ServerError → List ℕ
text_of e = e.code ++ detail_text e.detail

-- what an error in the reply to a command makes of the setup
abbrev pub judged_error : Meaning → ServerError → SetupResult
judged_error User e = if counts_arguments e.detail then RepeatWithoutUser else Failed (AuthFailed (text_of e))
judged_error Password e = Failed (AuthFailed (text_of e))
judged_error Choice e = Failed (Server e)
judged_error Library e = Ready

-- any other reply is well
abbrev pub judged_reply : Meaning → Data → SetupResult
judged_reply meaning (error e) = judged_error meaning e
judged_reply meaning _ = Ready

-- what comes next decides where this is well
abbrev pub unless_ready : SetupResult → SetupResult → SetupResult
unless_ready Ready next = next
unless_ready RepeatWithoutUser next = RepeatWithoutUser
unless_ready (Failed e) next = Failed e
unless_ready NoMemory next = NoMemory

-- the first reply that isn't well decides
abbrev pub judged : List Step → List Data → SetupResult
judged [] replies = Ready
judged (s ∷ steps) [] = Ready
judged (s ∷ steps) (d ∷ replies) = unless_ready (judged_reply s.meaning d) (judged steps replies)

-- the same of a setup that begins with one command more, of which it is known what it is about, if it has it
abbrev pub judged_first : Option Meaning → List Step → List Data → SetupResult
judged_first None steps replies = judged steps replies
judged_first (Some meaning) steps [] = Ready
judged_first (Some meaning) steps (d ∷ replies) = unless_ready (judged_reply meaning d) (judged steps replies)

-- the setup failed by an error that has to be told
abbrev pub IsFailed : SetupResult → Type 0
IsFailed Ready = ⊥
IsFailed RepeatWithoutUser = ⊥
IsFailed (Failed e) = ⊤
IsFailed NoMemory = ⊥

-- the result is the expected one, or memory was wanted to tell an error
abbrev pub Tells : SetupResult → SetupResult → Type 0
Tells expected Ready = expected ≡ Ready
Tells expected RepeatWithoutUser = expected ≡ RepeatWithoutUser
Tells expected (Failed e) = expected ≡ Failed e
Tells expected NoMemory = IsFailed expected
