-- What a setup is judged to be.
use Rattle.std.proofs.Common.{◌≢◌, ℕ, zero, suc, Bool, true, false, List, [], ◌∷◌, Option, Some, None, refl}
use Rattle.std.specs.List.{AllByRecursion}
use Rattle.std.specs.Prelude.{ℤ, pos, negsuc}
use Rattle.containers.proofs.Choices.{chosen}
use Rattle.resp_value.specs.Data.{Data, error}
use Rattle.resp_value.specs.declared.server_error.ServerError.{ServerError}
use Rattle.connection_info.specs.declared.address.RedisConnectionInfo.{RedisConnectionInfo}
use Rattle.connection_info.specs.declared.protocol.ProtocolVersion.{ProtocolVersion}
use Rattle.connection_info.specs.declared.protocol.ProtocolVersion.TheVariants.{RESP2, RESP3}
use Rattle.connection_setup.specs.declared.judgement.SetupResult.{SetupResult}
use Rattle.connection_setup.specs.declared.judgement.SetupResult.TheVariants as result
use Rattle.connection_setup.specs.declared.meaning.Meaning.{Meaning}
use Rattle.connection_setup.specs.declared.meaning.Meaning.TheVariants as meaning
use Rattle.connection_setup.specs.Judgement.{judged, judged_error, judged_reply, counts_arguments, unless_ready}
use Rattle.connection_setup.specs.Setup.{Step, choices, library, opening, selection, setup}
use Rattle.link_laws.proofs.Dealt.{all_append}

-- what a setup is judged to be
--
-- never that memory was wanted
error_memory : (m : Meaning) (e : ServerError) → judged_error m e ≢ result.NoMemory
error_memory meaning.User e = chosen (λ (x : SetupResult). x ≢ result.NoMemory) (counts_arguments e.detail) _ _ (λ t same. cc) (λ f same. cc)
error_memory meaning.Password e = λ same. cc
error_memory meaning.Choice e = λ same. cc
error_memory meaning.Library e = λ same. cc

-- whatever the reply is
reply_memory : (m : Meaning) (d : Data) → judged_reply m d ≢ result.NoMemory
reply_memory m (error e) = error_memory m e
reply_memory m _ = λ same. cc

-- what one reply and those behind it come to
first_or_rest : (other x rest : SetupResult) → x ≢ other → rest ≢ other → unless_ready x rest ≢ other
first_or_rest other result.Ready rest one more = more
first_or_rest other result.RepeatWithoutUser rest one more = one
first_or_rest other (result.Failed e) rest one more = one
first_or_rest other result.NoMemory rest one more = one

-- of no replies
pub judged_memory : (steps : List Step) (replies : List Data) → judged steps replies ≢ result.NoMemory
judged_memory [] replies = λ same. cc
judged_memory (s ∷ steps) [] = λ same. cc
judged_memory (s ∷ steps) (d ∷ replies) = first_or_rest result.NoMemory (judged_reply s.meaning d) (judged steps replies) (reply_memory s.meaning d) (judged_memory steps replies)

-- and to be repeated without the user name only where it has one
abbrev HasNoUser : Step → Type 0
HasNoUser s = s.meaning ≢ meaning.User

-- the reply to any other command
error_repeats : (m : Meaning) (e : ServerError) → m ≢ meaning.User → judged_error m e ≢ result.RepeatWithoutUser
error_repeats meaning.User e other = absurd (other refl)
error_repeats meaning.Password e other = λ same. cc
error_repeats meaning.Choice e other = λ same. cc
error_repeats meaning.Library e other = λ same. cc

-- whatever it is
reply_repeats : (m : Meaning) (d : Data) → m ≢ meaning.User → judged_reply m d ≢ result.RepeatWithoutUser
reply_repeats m (error e) other = error_repeats m e other
reply_repeats m _ other = λ same. cc

-- so it is of all
pub judged_repeats : (steps : List Step) (replies : List Data) → AllByRecursion HasNoUser steps → judged steps replies ≢ result.RepeatWithoutUser
judged_repeats [] replies all = λ same. cc
judged_repeats (s ∷ steps) [] all = λ same. cc
judged_repeats (s ∷ steps) (d ∷ replies) all = first_or_rest result.RepeatWithoutUser (judged_reply s.meaning d) (judged steps replies) (reply_repeats s.meaning d all.0) (judged_repeats steps replies all.1)

-- the commands of a setup without the user name
opening_no_user : (protocol : ProtocolVersion) (password : Option (List ℕ)) → AllByRecursion HasNoUser (opening protocol None password)
opening_no_user RESP2 None = tt
opening_no_user RESP2 (Some password) = ((λ same. cc), tt)
opening_no_user RESP3 None = ((λ same. cc), tt)
opening_no_user RESP3 (Some password) = ((λ same. cc), tt)

-- all of them
pub setup_no_user : (info : RedisConnectionInfo) → AllByRecursion HasNoUser (setup info false)
setup_no_user info =
    all_append HasNoUser (opening info.protocol None info.password) (choices info) (opening_no_user info.protocol info.password)
    (all_append HasNoUser (selection info.db) (library info.skip_set_lib_name) (chosen_base info.db) (library_facts info.skip_set_lib_name))
  where
    chosen_base : (db : ℤ) → AllByRecursion HasNoUser (selection db)
    chosen_base (pos zero) = tt
    chosen_base (pos (suc n)) = ((λ same. cc), tt)
    chosen_base (negsuc n) = ((λ same. cc), tt)

    library_facts : (skip : Bool) → AllByRecursion HasNoUser (library skip)
    library_facts true = tt
    library_facts false = ((λ same. cc), ((λ same. cc), tt))
