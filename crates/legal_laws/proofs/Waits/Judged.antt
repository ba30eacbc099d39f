-- What a setup may be judged to be.
use Rattle.std.proofs.Common.{◌≡◌, ℕ, zero, suc, Bool, true, false, List, [], ◌∷◌, ◌++◌, Option, Some, None, refl}
use Rattle.std.specs.Prelude.{ℤ, pos, negsuc}
use Rattle.containers.proofs.Choices.{chosen}
use Rattle.resp_value.specs.Data.{Data, error}
use Rattle.resp_value.specs.declared.server_error.ServerError.{ServerError}
use Rattle.connection_info.specs.declared.address.RedisConnectionInfo.{RedisConnectionInfo}
use Rattle.connection_info.specs.declared.protocol.ProtocolVersion.{ProtocolVersion}
use Rattle.connection_info.specs.declared.protocol.ProtocolVersion.TheVariants.{RESP2, RESP3}
use Rattle.connection_setup.specs.declared.judgement.SetupResult.{SetupResult}
use Rattle.connection_setup.specs.declared.judgement.SetupResult.TheVariants as result
use Rattle.connection_setup.specs.declared.meaning.Meaning.{Meaning}
use Rattle.connection_setup.specs.declared.meaning.Meaning.TheVariants as meaning
use Rattle.connection_setup.specs.Judgement.{judged, judged_error, judged_reply, counts_arguments, unless_ready}
use Rattle.connection_setup.specs.Setup.{Step, choices, library, opening, selection, setup}

-- it is well, or has failed, or is to be repeated without the user name, where one may be named
abbrev pub MayBe : Bool → SetupResult → Type 0
MayBe named result.Ready = Unit {0}
MayBe named (result.Failed e) = Unit {0}
MayBe named result.RepeatWithoutUser = named ≡ true
MayBe named result.NoMemory = ⊥

-- none of these commands names a user, or one may be named
abbrev Names : Bool → List Step → Type 0
Names named [] = Unit {0}
Names named (s ∷ steps) = (s.meaning ≡ meaning.User → named ≡ true) × Names named steps

-- so it is by one error
error_may : (named : Bool) (m : Meaning) (e : ServerError) → (m ≡ meaning.User → named ≡ true) → MayBe named (judged_error m e)
error_may named meaning.User e names = chosen (MayBe named) (counts_arguments e.detail) _ _ (λ t. names refl) (λ f. tt)
error_may named meaning.Password e names = tt
error_may named meaning.Choice e names = tt
error_may named meaning.Library e names = tt

-- by one reply
reply_may : (named : Bool) (m : Meaning) (d : Data) → (m ≡ meaning.User → named ≡ true) → MayBe named (judged_reply m d)
reply_may named m (error e) names = error_may named m e names
reply_may named m _ names = tt

-- by one and those behind it
both_may : (named : Bool) (x rest : SetupResult) → MayBe named x → MayBe named rest → MayBe named (unless_ready x rest)
both_may named result.Ready rest one more = more
both_may named result.RepeatWithoutUser rest one more = one
both_may named (result.Failed e) rest one more = one
both_may named result.NoMemory rest one more = one

-- and by all
judged_may : (named : Bool) (steps : List Step) (replies : List Data) → Names named steps → MayBe named (judged steps replies)
judged_may named [] replies names = tt
judged_may named (s ∷ steps) [] names = tt
judged_may named (s ∷ steps) (d ∷ replies) names = both_may named (judged_reply s.meaning d) (judged steps replies) (reply_may named s.meaning d names.0) (judged_may named steps replies names.1)

-- one may be named by any commands
all_may : (steps : List Step) → Names true steps
all_may [] = tt
all_may (s ∷ steps) = ((λ e. refl), all_may steps)

-- commands behind commands
more_may : (named : Bool) (steps more : List Step) → Names named steps → Names named more → Names named (steps ++ more)
more_may named [] more one other = other
more_may named (s ∷ steps) more one other = (one.0, more_may named steps more one.1 other)

-- without the user name none is named first
opening_may : (protocol : ProtocolVersion) (password : Option (List ℕ)) → Names false (opening protocol None password)
opening_may RESP2 None = tt
opening_may RESP2 (Some password) = ((λ e. absurd (cc e)), tt)
opening_may RESP3 None = ((λ e. absurd (cc e)), tt)
opening_may RESP3 (Some password) = ((λ e. absurd (cc e)), tt)

-- nor by the choice of a database
selection_may : (db : ℤ) → Names false (selection db)
selection_may (pos zero) = tt
selection_may (pos (suc n)) = ((λ e. absurd (cc e)), tt)
selection_may (negsuc n) = ((λ e. absurd (cc e)), tt)

-- nor by what is told of the library
library_may : (skip : Bool) → Names false (library skip)
library_may true = tt
library_may false = ((λ e. absurd (cc e)), ((λ e. absurd (cc e)), tt))

-- so a setup without the user name is not repeated
setup_may : (info : RedisConnectionInfo) (with_user : Bool) → Names with_user (setup info with_user)
setup_may info true = all_may (setup info true)
setup_may info false =
    more_may false (opening info.protocol None info.password) (choices info) (opening_may info.protocol info.password)
    (more_may false (selection info.db) (library info.skip_set_lib_name) (selection_may info.db) (library_may info.skip_set_lib_name))

pub setup_is_judged : (info : RedisConnectionInfo) (with_user : Bool) (replies : List Data) → MayBe with_user (judged (setup info with_user) replies)
setup_is_judged info with_user replies = judged_may with_user (setup info with_user) replies (setup_may info with_user)
