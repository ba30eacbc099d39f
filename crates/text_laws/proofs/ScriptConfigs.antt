-- The configurations of scripts are configurations that their type holds.
use Rattle.std.proofs.Common.{ℕ, ◌^◌, ◌<◌, ◌≤◌, ◌==◌, List, [], ◌∷◌, All, Option, Some, None, IfSome, bytes_eq, option_map, option_and_then, codes, if◌then◌else◌, arith}
use Rattle.std.specs.Option.{option_to_list}
use Rattle.std.proofs.lemmas.List.Elements.{All-nil, All-cons, All-head, All-tail, All-append}
use Rattle.containers.proofs.Choices.{chosen}
use Rattle.driver_model.specs.declared.config.Config.{Config}
use Rattle.driver_model.specs.declared.kind.SessionKind.{SessionKind}
use Rattle.driver_model.specs.declared.kind.SessionKind.TheVariants as kind
use Rattle.script_text.specs.Words.{LineWords, cut_at}
use Rattle.script_text.specs.Numbers.{number, max_u32, max_u64, time_limit, fraction_by, fraction}
use Rattle.script_text.specs.Draws.{drawn}
use Rattle.script_text.specs.EventLine.{whole}
use Rattle.script_text.specs.ConfigLine.{value_of, values, only, connection_with, manager_with, config_with, session, kind_named, named_session, config_of, opening_of}
use Rattle.text_laws.specs.Fits.{IsByte, AreBytes, FitsLimit, FitsNumber, FitsConnection, FitsFraction, FitsManager, FitsConfig}
use Rattle.text_laws.proofs.Held.{mapped, then_read, if_read, any_read, number_within}
use Rattle.text_laws.proofs.ScriptEvents.{IsByteLine, FitsDrawn, drawn_fits, by_form, whole_fits, time_fits}

-- the second of two texts is bytes
abbrev SecondBytes : List ℕ × List ℕ → Type 0
SecondBytes c = AreBytes c.1

cut_bytes : (b : ℕ) (word : List ℕ) → AreBytes word → IfSome (cut_at b word) SecondBytes
cut_bytes b [] small = tt
cut_bytes b (x ∷ xs) small =
    let rest = All-tail IsByte x xs small in
    chosen (λ o. IfSome o SecondBytes) (x == b) (Some ([], xs)) (option_map (λ c. (x ∷ c.0, c.1)) (cut_at b xs)) (λ t. rest)
    (λ f. mapped SecondBytes SecondBytes (λ c. (x ∷ c.0, c.1)) (λ c h. h) (cut_at b xs) (cut_bytes b xs rest))

value_bytes : (key word : List ℕ) → AreBytes word → IfSome (value_of key word) AreBytes
value_bytes key word small =
    then_read SecondBytes AreBytes (λ c. if bytes_eq c.0 key then Some c.1 else None) (λ c h. if_read AreBytes (bytes_eq c.0 key) (Some c.1) (λ t. h)) (cut_at 61 word) (cut_bytes 61 word small)

one_bytes : (o : Option (List ℕ)) → IfSome o AreBytes → All AreBytes (option_to_list o)
one_bytes None h = All-nil AreBytes
one_bytes (Some value) h = All-cons AreBytes value [] h (All-nil AreBytes)

values_bytes : (key : List ℕ) (words : List (List ℕ)) → All AreBytes words → All AreBytes (values key words)
values_bytes key [] small = All-nil AreBytes
values_bytes key (word ∷ words) small =
    All-append AreBytes (option_to_list (value_of key word)) (values key words) (one_bytes (value_of key word) (value_bytes key word (All-head AreBytes word words small)))
    (values_bytes key words (All-tail AreBytes word words small))

only_bytes : (texts : List (List ℕ)) → All AreBytes texts → IfSome (only texts) AreBytes
only_bytes [] small = tt
only_bytes (text ∷ []) small = All-head AreBytes text [] small
only_bytes (text ∷ next ∷ more) small = tt

limit_fits : (value : Option (List ℕ)) → FitsLimit (option_and_then time_limit value)
limit_fits None = tt
limit_fits (Some value) = time_fits value

bounded : (most bound : ℕ) → most < bound → (o : Option ℕ) → IfSome o (λ n. n ≤ most) → FitsNumber bound o
bounded most bound less None within = tt
bounded most bound less (Some n) within = omega (arith, within, less)

given_fits : (most bound : ℕ) → most < bound → (value : Option (List ℕ)) → FitsNumber bound (option_and_then (number most) value)
given_fits most bound less None = tt
given_fits most bound less (Some value) = bounded most bound less (number most value) (number_within most value)

connection_fits : (words : List (List ℕ)) → FitsConnection (connection_with words)
connection_fits words = record {
  connect = limit_fits (only (values (codes "connect") words));
  response = limit_fits (only (values (codes "response") words));
  limit = given_fits max_u32 (2 ^ 32) (omega arith) (only (values (codes "limit") words));
  buffer = given_fits max_u32 (2 ^ 32) (omega arith) (only (values (codes "buffer") words));
  boundary = given_fits max_u64 (2 ^ 64) (omega arith) (only (values (codes "boundary") words));
}

-- a number of 32 bits
below_two : (o : Option ℕ) → IfSome o (λ n. n ≤ max_u32) → IfSome o (λ n. n < 2 ^ 32)
below_two None within = tt
below_two (Some n) within = omega (arith, within)

-- two of them are a fraction
parts_fit : (parts : List ℕ × List ℕ) → IfSome (fraction_by parts) FitsFraction
parts_fit parts =
    then_read (λ n. n < 2 ^ 32) FitsFraction (λ above. option_map (λ below. (above, below)) (number max_u32 parts.1))
    (λ above small. mapped (λ n. n < 2 ^ 32) FitsFraction (λ below. (above, below)) (λ below less. (small, less)) (number max_u32 parts.1) (below_two (number max_u32 parts.1) (number_within max_u32 parts.1)))
    (number max_u32 parts.0) (below_two (number max_u32 parts.0) (number_within max_u32 parts.0))

fraction_fits : (value : List ℕ) → IfSome (fraction value) FitsFraction
fraction_fits value = then_read (λ _. Unit {0}) FitsFraction fraction_by (λ parts any. parts_fit parts) (cut_at 47 value) (any_read (cut_at 47 value))

base_fits : (value : Option (List ℕ)) → IfSome (option_and_then fraction value) FitsFraction
base_fits None = tt
base_fits (Some value) = fraction_fits value

manager_fits : (words : List (List ℕ)) → FitsManager (manager_with words)
manager_fits words = record {
  retries = given_fits max_u32 (2 ^ 32) (omega arith) (only (values (codes "retries") words));
  min = given_fits max_u64 (2 ^ 64) (omega arith) (only (values (codes "min") words));
  max = limit_fits (only (values (codes "max") words));
  base = base_fits (only (values (codes "base") words));
}

with_url : (k : SessionKind) (words : List (List ℕ)) (url : List ℕ) → AreBytes url → FitsConfig (config_with k words url)
with_url kind.Single words url small = (small, connection_fits words)
with_url (kind.Manager lazy) words url small = (small, connection_fits words, manager_fits words)
with_url kind.PubSub words url small = small
with_url kind.Monitor words url small = small

session_fits : (k : SessionKind) (words : List (List ℕ)) → All AreBytes words → IfSome (session k words) FitsConfig
session_fits k words small =
    let url = only (values (codes "url") words) in
    if_read FitsConfig _ (option_map (config_with k words) url)
    (λ t. mapped AreBytes FitsConfig (config_with k words) (λ text bytes. with_url k words text bytes)
    url (only_bytes (values (codes "url") words) (values_bytes (codes "url") words small)))

named_fits : (words : List (List ℕ)) → All AreBytes words → IfSome (named_session words) FitsConfig
named_fits [] small = tt
named_fits (name ∷ words) small =
    then_read (λ _. Unit {0}) FitsConfig (λ k. session k words) (λ k any. session_fits k words (All-tail AreBytes name words small)) (kind_named name) (any_read (kind_named name))

pub config_fits : (line : LineWords) → IsByteLine line → IfSome (config_of line) FitsConfig
unfolding config_of
config_fits line small =
    by_form FitsConfig ((codes "config", whole named_session) ∷ []) (whole_fits FitsConfig named_session named_fits, tt) line.words line.more small.words small.more

-- a configuration that its type holds, and a word of draws of 64 bits
abbrev pub FitsOpening : Config × ℕ → Type 0
FitsOpening opening = FitsConfig opening.0 × (opening.1 < 2 ^ 64)

pub opening_fits : (line : LineWords) → IsByteLine line → IfSome (opening_of line) FitsOpening
opening_fits line small =
    then_read FitsDrawn FitsOpening (λ d. option_map (λ config. (config, d.0)) (config_of (record { words = d.1; more = line.more })))
    (λ d held. mapped FitsConfig FitsOpening (λ config. (config, d.0)) (λ config fits. (fits, held.0)) (config_of (record { words = d.1; more = line.more }))
    (config_fits (record { words = d.1; more = line.more }) (record { words = held.1; more = small.more })))
    (drawn line.words) (drawn_fits line.words small.words)
