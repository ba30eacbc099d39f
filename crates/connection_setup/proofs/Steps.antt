-- The steps of a setup, one part after another.
use Rattle.std.proofs.Common.{◌≡◌, ◌≢◌, refl, sym, ap, ◌∙◌, ℕ, Bool, true, false, ℤ, pos, negsuc, zero, suc, List, [], ◌∷◌, ◌++◌, map, Option, Some, None}
use Rattle.resp_value.specs.Data.{Data, error}
use Rattle.resp_write.specs.Command.{CommandList}
use Rattle.resp_write.specs.Pack.{commands_of}
use Rattle.connection_info.specs.declared.protocol.ProtocolVersion.{ProtocolVersion}
use Rattle.connection_info.specs.declared.protocol.ProtocolVersion.TheVariants.{RESP2, RESP3}
use Rattle.connection_setup.specs.declared.meaning.Meaning.TheVariants.{Choice, Library}
use Rattle.connection_setup.specs.declared.judgement.SetupResult.{SetupResult}
use Rattle.connection_setup.specs.declared.judgement.SetupResult.TheVariants.{Ready, RepeatWithoutUser, Failed, NoMemory}
use Rattle.connection_setup.specs.Setup.{Step, first_meaning, library, opening, selection, with_steps}
use Rattle.connection_setup.specs.Judgement.{judged, judged_first, judged_reply, unless_ready, Tells}

append_assoc : {T : Type 0} → (a b c : List T) → (a ++ b) ++ c ≡ a ++ (b ++ c)
append_assoc [] b c = refl
append_assoc (x ∷ a) b c = ap (λ l. x ∷ l) (append_assoc a b c)

map_append : {T U : Type 0} → (f : T → U) → (a b : List T) → map f (a ++ b) ≡ map f a ++ map f b
map_append f [] b = refl
map_append f (x ∷ a) b = ap (λ l. f x ∷ l) (map_append f a b)

commands_append : (a b : List (List (List ℕ))) → commands_of (a ++ b) ≡ commands_of a ++ commands_of b
commands_append [] b = refl
commands_append (x ∷ a) b = ap (λ l. record { args = x; no_response = false } ∷ l) (commands_append a b)

abbrev words : List Step → List (List (List ℕ))
words steps = map (λ s. s.words) steps

abbrev marks : List Step → List Bool
marks steps = map (λ s. false) steps

-- steps that are added one after another are added together
pub more_steps : (p : CommandList) (a b : List Step) → with_steps (with_steps p a) b ≡ with_steps p (a ++ b)
more_steps p a b =
    let commands : (p.commands ++ commands_of (words a)) ++ commands_of (words b) ≡ p.commands ++ commands_of (words (a ++ b)) =
    append_assoc p.commands (commands_of (words a)) (commands_of (words b)) ∙ ap (λ l. p.commands ++ l) (sym (ap commands_of (map_append (λ s. s.words) a b) ∙ commands_append (words a) (words b))) in
    let ignored : (p.ignored ++ marks a) ++ marks b ≡ p.ignored ++ marks (a ++ b) =
    append_assoc p.ignored (marks a) (marks b) ∙ ap (λ l. p.ignored ++ l) (sym (map_append (λ s. false) a b)) in
    λ i. record { commands = commands i; ignored = ignored i; atomic = p.atomic }

-- the same of two parts
pub two_parts : (p q r : CommandList) (a b : List Step) → q ≡ with_steps p a → r ≡ with_steps q b → r ≡ with_steps p (a ++ b)
two_parts p q r a b first second = second ∙ ap (λ x. with_steps x b) first ∙ more_steps p a b

-- and of three
pub three_parts : (p q r s : CommandList) (a b c : List Step) → q ≡ with_steps p a → r ≡ with_steps q b → s ≡ with_steps r c → s ≡ with_steps p (a ++ (b ++ c))
three_parts p q r s a b c first second third = two_parts p q s a (b ++ c) first (two_parts q r s b c second third)

library_reply : (d : Data) → judged_reply Library d ≡ Ready
library_reply (error e) = refl
library_reply _ = refl

-- replies about the library are well
pub library_is_well : (skip : Bool) (replies : List Data) → judged (library skip) replies ≡ Ready
library_is_well true replies = refl
library_is_well false [] = refl
library_is_well false (d ∷ []) = ap (λ r. unless_ready r Ready) (library_reply d)
library_is_well false (d ∷ e ∷ replies) = ap (λ r. unless_ready r (unless_ready (judged_reply Library e) Ready)) (library_reply d) ∙ ap (λ r. unless_ready r Ready) (library_reply e)

ready_after : (r : SetupResult) → unless_ready r Ready ≡ r
ready_after Ready = refl
ready_after RepeatWithoutUser = refl
ready_after (Failed e) = refl
ready_after NoMemory = refl

-- without replies nothing is judged
pub no_replies : (steps : List Step) → judged steps [] ≡ Ready
no_replies [] = refl
no_replies (s ∷ steps) = refl

-- no database is chosen
pub unchosen : (db : ℤ) (skip : Bool) (replies : List Data) → db ≡ pos 0 → judged (selection db ++ library skip) replies ≡ Ready
unchosen (pos zero) skip replies e = library_is_well skip replies
unchosen (pos (suc n)) skip replies e = cc
unchosen (negsuc n) skip replies e = cc

-- a database is chosen
pub chosen : (db : ℤ) (skip : Bool) (d : Data) (replies : List Data) → db ≢ pos 0 → judged (selection db ++ library skip) (d ∷ replies) ≡ judged_reply Choice d
chosen (pos zero) skip d replies other = absurd (other refl)
chosen (pos (suc n)) skip d replies other = ap (unless_ready (judged_reply Choice d)) (library_is_well skip replies) ∙ ready_after (judged_reply Choice d)
chosen (negsuc n) skip d replies other = ap (unless_ready (judged_reply Choice d)) (library_is_well skip replies) ∙ ready_after (judged_reply Choice d)

-- a setup begins with HELLO or AUTH, or with neither
opened : (protocol : ProtocolVersion) (name password : Option (List ℕ)) (more : List Step) (replies : List Data) → judged (opening protocol name password ++ more) replies ≡ judged_first (first_meaning (opening protocol name password)) more replies
opened RESP2 name None more replies = refl
opened RESP2 None (Some password) more [] = refl
opened RESP2 None (Some password) more (d ∷ replies) = refl
opened RESP2 (Some name) (Some password) more [] = refl
opened RESP2 (Some name) (Some password) more (d ∷ replies) = refl
opened RESP3 name None more [] = refl
opened RESP3 name None more (d ∷ replies) = refl
opened RESP3 None (Some password) more [] = refl
opened RESP3 None (Some password) more (d ∷ replies) = refl
opened RESP3 (Some name) (Some password) more [] = refl
opened RESP3 (Some name) (Some password) more (d ∷ replies) = refl

pub told_opened : (protocol : ProtocolVersion) (name password : Option (List ℕ)) (more : List Step) (replies : List Data) (result : SetupResult) → Tells (judged_first (first_meaning (opening protocol name password)) more replies) result → Tells (judged (opening protocol name password ++ more) replies) result
told_opened protocol name password more replies result told = rw (opened protocol name password more replies) told

-- the first is well, and what comes next decides
pub well : (expected next result : SetupResult) → Tells expected Ready → Tells next result → Tells (unless_ready expected next) result
well expected next result first told = rw first told

-- the first decides
pub stays : (expected next result : SetupResult) → Tells expected result → result ≢ Ready → Tells (unless_ready expected next) result
stays Ready next Ready told other = absurd (other refl)
stays Ready next RepeatWithoutUser told other = cc
stays Ready next (Failed e) told other = cc
stays Ready next NoMemory told other = absurd told
stays RepeatWithoutUser next result told other = told
stays (Failed e) next result told other = told
stays NoMemory next result told other = told
