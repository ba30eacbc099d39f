-- What came of the parts of a command that went to several nodes, and which of it came first.
use Rattle.std.specs.Borrow.{Bor}
use Rattle.std.specs.Prelude.{ℕ, nat_lt, ◌||◌, Bool, List, [], ◌∷◌, map, Option, Some, None, is_some, option_to_list, if◌then◌else◌}
use Rattle.std.specs.Option.{option_map}
use Rattle.std.specs.List.{flat_map, list_all}
use Rattle.resp_value.specs.declared.value.Value.{Value}
use Rattle.redis_error.specs.declared.redis_error.RedisError.{RedisError}
use Rattle.cluster_retries.specs.declared.round_end.RoundEnd.{RoundEnd}
use Rattle.cluster_retries.specs.declared.round_end.RoundEnd.TheVariants as ended
use Rattle.fan_out.specs.declared.parts.PartEnd.{PartEnd}
use Rattle.fan_out.specs.declared.parts.PartResult.{PartResult}

-- the value of an end, if it has one
abbrev pub value_in : RoundEnd → Option Value
value_in (ended.Value v) = Some v
value_in (ended.Many vs) = None
value_in (ended.Error e) = None

-- the error of an end, if it has one
abbrev pub error_in : RoundEnd → Option RedisError
error_in (ended.Value v) = None
error_in (ended.Many vs) = None
error_in (ended.Error e) = Some e

-- what is told of an end, with the number of its arrival
abbrev pub told : {A : Type 0} → (RoundEnd → Option A) → Option PartEnd → Option (ℕ × A)
told what None = None
told what (Some e) = option_map (λ x. (e.arrival, x)) (what e.end)

abbrev pub value_came : PartResult → Option (ℕ × Value)
value_came p = told value_in p.ended

abbrev pub error_came : PartResult → Option (ℕ × RedisError)
error_came p = told error_in p.ended

-- a part's value or error came
abbrev pub has_come : PartResult → Bool
has_come p = is_some (value_came p) || is_some (error_came p)

-- each part's did
abbrev pub all_came : List PartResult → Bool
all_came parts = list_all has_come parts

-- the value of a part, if it has one
abbrev pub value_list : PartResult → List Value
value_list p = option_to_list (option_map (λ c. c.1) (value_came p))

-- the values of the parts that have one, in the order of the parts
abbrev pub values : List PartResult → List Value
values parts = flat_map value_list parts

-- of two that came the earlier; of two that came together the one of the part that stands first
abbrev pub earlier : {A : Type 0} → Option (ℕ × A) → Option (ℕ × A) → Option (ℕ × A)
earlier None next = next
earlier (Some x) None = Some x
earlier (Some x) (Some y) = if nat_lt y.0 x.0 then Some y else Some x

-- of two that came the later; of two that came together the one of the part that stands last
abbrev pub later : {A : Type 0} → Option (ℕ × A) → Option (ℕ × A) → Option (ℕ × A)
later None next = next
later (Some x) None = Some x
later (Some x) (Some y) = if nat_lt y.0 x.0 then Some x else Some y

-- the earliest of all
abbrev pub first_come : {A : Type 0} → List (Option (ℕ × A)) → Option (ℕ × A)
first_come [] = None
first_come (c ∷ cs) = earlier c (first_come cs)

-- the latest of all
abbrev pub last_come : {A : Type 0} → List (Option (ℕ × A)) → Option (ℕ × A)
last_come [] = None
last_come (c ∷ cs) = later c (last_come cs)

-- the error that came first
abbrev pub first_error : List PartResult → Option RedisError
first_error parts = option_map (λ c. c.1) (first_come (map error_came parts))

-- the value that came first
abbrev pub first_value : List PartResult → Option Value
first_value parts = option_map (λ c. c.1) (first_come (map value_came parts))

-- the error that came last
abbrev pub last_error : List PartResult → Option RedisError
last_error parts = option_map (λ c. c.1) (last_come (map error_came parts))

-- what is lent, with the number of its arrival
abbrev pub came_now : {A : Type 0} → Option (ℕ × Bor A) → Option (ℕ × A)
came_now came = option_map (λ c. (c.0, c.1.now)) came
