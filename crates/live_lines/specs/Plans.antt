-- What the words of a live run ask for.
use Rattle.std.specs.Prelude.{ℕ, ◌-◌, nat_le, min, is_some, Bool, true, false, ◌&&◌, List, [], ◌∷◌, take, drop, Option, Some, None, option_map, bytes_eq, codes, if◌then◌else◌}
use Rattle.driver_model.specs.Config.{connect_timeout, connection_words, first_fault, wants_credentials}
use Rattle.driver_model.specs.declared.config.Config.{Config}
use Rattle.redis_error.specs.declared.config_name.ConfigName.{ConfigName}
use Rattle.redis_error.specs.declared.config_name.ConfigName.TheVariants as name
use Rattle.script_text.specs.Lines.{config_of_parts}
use Rattle.live_lines.specs.declared.planning.Plan.{Plan}

-- one digit from 1 to 8, as a number
abbrev pub digit_count : List ℕ → Option ℕ
digit_count (digit ∷ []) = if nat_le 49 digit && nat_le digit 56 then Some (digit - 48) else None
digit_count _ = None

-- how many callers a word sets: `callers=K`, K from 1 to 8
abbrev pub callers_of : List ℕ → Option ℕ
callers_of word = if bytes_eq (take 8 word) (codes "callers=") then digit_count (drop 8 word) else None

-- the number that the first word sets and the words behind it, or 1 and all words
abbrev pub behind_callers : Option ℕ → List (List ℕ) → List (List ℕ) → ℕ × List (List ℕ)
behind_callers (Some callers) rest words = (callers, rest)
behind_callers None rest words = (1, words)

abbrev pub without_callers : List (List ℕ) → ℕ × List (List ℕ)
without_callers [] = (1, [])
without_callers (first ∷ rest) = behind_callers (callers_of first) rest (first ∷ rest)

abbrev pub plan_by : ℕ → Config → Plan
plan_by callers config = record { callers = callers; config = config }

-- how many callers words set, 1 where they don't say it, and the configuration that a line `config` with the other words is
abbrev pub plan_of : List (List ℕ) → Option Plan
plan_of words = option_map (plan_by (without_callers words).0) (config_of_parts (without_callers words).1)

-- there is nobody to ask for credentials
abbrev pub creds_fault : Bool → Option ConfigName
creds_fault true = Some name.Creds
creds_fault false = None

abbrev pub or_else : Option ConfigName → Option ConfigName → Option ConfigName
or_else (Some name) other = Some name
or_else None other = other

-- what is refused first of a plan: what is of its configuration, and then that credentials are to come of a source
abbrev pub refused_of : Plan → Option ConfigName
refused_of plan = or_else (first_fault plan.config) (creds_fault (wants_credentials plan.config))

-- the most milliseconds that a dial may take whose connect may take so many: a day, where that has no limit
abbrev pub within_a_day : Option ℕ → ℕ
within_a_day None = 86_400_000
within_a_day (Some ms) = min ms 86_400_000

-- the most that a dial of this plan may take: as many as its connect may, and a second where a plan says nothing of its connect
abbrev pub limit_in : Option Plan → ℕ
limit_in None = 1_000
limit_in (Some plan) = if is_some (connection_words plan.config) then within_a_day (connect_timeout plan.config) else 1_000

-- the most milliseconds that a dial of the live run may take that words ask for
abbrev pub dial_limit : List (List ℕ) → ℕ
dial_limit words = limit_in (plan_of words)
