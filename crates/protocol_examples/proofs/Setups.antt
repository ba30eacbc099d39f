-- Setups, and what their replies come to.
use Rattle.std.proofs.Common.{◌≡◌, ◌≢◌, ℕ, ℤ, pos, negsuc, zero, suc, Bool, true, false, List, [], ◌∷◌, ◌++◌, length, refl, codes, Option, Some, None}
use Rattle.std.specs.Prelude.{⊤}
use Rattle.std.specs.Fmt.{digits}
use Rattle.resp_value.specs.Data.{Data, error}
use Rattle.redis_error.specs.declared.redis_error.RedisError.TheVariants.{AuthFailed}
use Rattle.resp_write.specs.Pack.{pack_pipeline}
use Rattle.connection_info.specs.declared.address.RedisConnectionInfo.{RedisConnectionInfo}
use Rattle.connection_info.specs.declared.protocol.ProtocolVersion.{ProtocolVersion}
use Rattle.connection_info.specs.declared.protocol.ProtocolVersion.TheVariants.{RESP2, RESP3}
use Rattle.connection_setup.specs.declared.meaning.Meaning.{Meaning}
use Rattle.connection_setup.specs.declared.meaning.Meaning.TheVariants.{User, Password, Choice, Library}
use Rattle.connection_setup.specs.declared.judgement.SetupResult.{SetupResult}
use Rattle.connection_setup.specs.declared.judgement.SetupResult.TheVariants.{Ready, RepeatWithoutUser, Failed, NoMemory}
use Rattle.connection_setup.specs.Setup.{Step, choices, library, opening, pipeline_of, selection, setup}
use Rattle.connection_setup.specs.Judgement.{judged, judged_reply, unless_ready}
use Rattle.protocol_examples.specs.Connections.{an_error, counted, plain, with_name}

pub newer_bytes : length (pack_pipeline (pipeline_of (setup (plain RESP3) true))) ≡ 132
unfolding digits
newer_bytes = refl

pub older_bytes : length (pack_pipeline (pipeline_of (setup (plain RESP2) true))) ≡ 110
unfolding digits
older_bytes = refl

pub older_user : pack_pipeline (pipeline_of (opening RESP2 (Some (codes "u")) (Some (codes "pw")))) ≡ codes "*3\r\n$4\r\nAUTH\r\n$1\r\nu\r\n$2\r\npw\r\n"
unfolding digits
older_user = refl

pub newer_user : pack_pipeline (pipeline_of (opening RESP3 (Some (codes "u")) (Some (codes "pw")))) ≡ codes "*5\r\n$5\r\nHELLO\r\n$1\r\n3\r\n$4\r\nAUTH\r\n$1\r\nu\r\n$2\r\npw\r\n"
unfolding digits
newer_user = refl

pub unnamed : (info : RedisConnectionInfo) → setup info false ≡ setup (record info { username = None }) true
unnamed info = refl

pub repeated : (replies : List Data) → judged (setup with_name true) (error counted ∷ replies) ≡ RepeatWithoutUser
repeated replies = refl

pub refused : (replies : List Data) → judged (setup with_name true) (error an_error ∷ replies) ≡ Failed (AuthFailed (codes "WRONGPASS no"))
refused replies = refl

-- no command carries a user name
abbrev Unnamed : List Step → Type 0
Unnamed [] = ⊤
Unnamed (s ∷ steps) = (s.meaning ≢ User) × Unnamed steps

both : (a b : List Step) → Unnamed a → Unnamed b → Unnamed (a ++ b)
both [] b first second = second
both (s ∷ a) b first second = (first.0, both a b first.1 second)

opening_names_nobody : (protocol : ProtocolVersion) (password : Option (List ℕ)) → Unnamed (opening protocol None password)
opening_names_nobody RESP2 None = tt
opening_names_nobody RESP2 (Some password) = (λ h. cc, tt)
opening_names_nobody RESP3 None = (λ h. cc, tt)
opening_names_nobody RESP3 (Some password) = (λ h. cc, tt)

selection_names_nobody : (db : ℤ) → Unnamed (selection db)
selection_names_nobody (pos zero) = tt
selection_names_nobody (pos (suc n)) = (λ h. cc, tt)
selection_names_nobody (negsuc n) = (λ h. cc, tt)

library_names_nobody : (skip : Bool) → Unnamed (library skip)
library_names_nobody true = tt
library_names_nobody false = (λ h. cc, (λ h. cc, tt))

reply_repeats_nothing : (meaning : Meaning) (d : Data) → meaning ≢ User → judged_reply meaning d ≢ RepeatWithoutUser
reply_repeats_nothing User (error e) other = absurd (other refl)
reply_repeats_nothing Password (error e) other = λ h. cc
reply_repeats_nothing Choice (error e) other = λ h. cc
reply_repeats_nothing Library (error e) other = λ h. cc
reply_repeats_nothing meaning _ other = λ h. cc

neither_repeats : (first next : SetupResult) → first ≢ RepeatWithoutUser → next ≢ RepeatWithoutUser → unless_ready first next ≢ RepeatWithoutUser
neither_repeats Ready next a b = b
neither_repeats RepeatWithoutUser next a b = a
neither_repeats (Failed e) next a b = a
neither_repeats NoMemory next a b = a

repeats_nothing : (steps : List Step) (replies : List Data) → Unnamed steps → judged steps replies ≢ RepeatWithoutUser
repeats_nothing [] replies h = λ e. cc
repeats_nothing (s ∷ steps) [] h = λ e. cc
repeats_nothing (s ∷ steps) (d ∷ replies) h = neither_repeats (judged_reply s.meaning d) (judged steps replies) (reply_repeats_nothing s.meaning d h.0) (repeats_nothing steps replies h.1)

-- a setup without a user name is not repeated
pub once : (info : RedisConnectionInfo) (replies : List Data) → judged (setup info false) replies ≢ RepeatWithoutUser
once info replies =
    let all : Unnamed (setup info false) = both (opening info.protocol None info.password) (choices info) (opening_names_nobody info.protocol info.password) (both (selection info.db) (library info.skip_set_lib_name) (selection_names_nobody info.db) (library_names_nobody info.skip_set_lib_name)) in
    repeats_nothing (setup info false) replies all
