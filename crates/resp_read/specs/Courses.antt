-- The bytes that a reader was fed, and where it is in them.
use Rattle.std.specs.Prelude.{◌≡◌, ◌≤◌, ℕ, ◌+◌, ◌-◌, ◌*◌, List, [], ◌∷◌, ◌++◌, length, drop, Result, Ok, Err}
use Rattle.resp_value.specs.View.{data_of}
use Rattle.resp_value.specs.declared.value.Value.{Value}
use Rattle.resp_read.specs.Parser.{read, short, bad}
use Rattle.resp_read.specs.Limits.{reading, AreAllowed}
use Rattle.resp_read.specs.Places.{IsPlace, seen, resumed_at}
use Rattle.resp_read.specs.declared.limits.Limits.{Limits}
use Rattle.resp_read.specs.declared.forms.Refusal.{Refusal}
use Rattle.resp_read.specs.declared.forms.Refusal.TheVariants.{Short, Bad, NoMemory}
use Rattle.resp_read.specs.declared.course.Course.{Course}
use Rattle.resp_read.specs.declared.reader.Health.{Health}
use Rattle.resp_read.specs.declared.reader.Health.TheVariants as health

-- the bytes that no value given was made of
abbrev pub rest_of : Course → List ℕ
rest_of c = drop c.at c.tape

-- how many bytes it has not looked at
abbrev pub unread : Course → ℕ
unread c = length c.tape - seen c.place

-- its places stand in the tape
abbrev pub IsInTape : Course → Type 0
IsInTape c = (c.at ≤ c.place.next) × IsPlace c.tape c.place

-- the value that begins at the one place is what the aggregates are with the bytes from the other place on, whatever bytes follow
pub record IsCourse (limits : Limits) (c : Course) : Type 0 where
  pub order : c.at ≤ c.place.next
  pub place : IsPlace c.tape c.place
  pub resumes : (m : List ℕ) → reading limits limits.depth (rest_of c ++ m) ≡ resumed_at limits c.frames.items c.place.stage (drop c.place.next c.tape ++ m)

-- a reader with these limits goes on in its course while it is sound, and looked at no fewer bytes of what is left than it counts
pub record IsReading (limits : Limits) (c : Course) (counted : ℕ) (state : Health) : Type 0 where
  pub allowed : AreAllowed limits
  pub course : state ≡ health.Sound → IsCourse limits c
  pub looked : state ≡ health.Sound → counted + unread c ≤ length (rest_of c)

-- the next value: it stood at the front; or more bytes are wanted, or none can help, and what is left is as it was
abbrev pub ReadsNext : Limits → Course → Result Value Refusal → Course → Type 0
ReadsNext limits old (Ok v) new = IsCourse limits new × (reading limits limits.depth (rest_of old) ≡ read (data_of v) (rest_of new))
ReadsNext limits old (Err Short) new = IsCourse limits new × (rest_of new ≡ rest_of old) × (reading limits limits.depth (rest_of old) ≡ short)
ReadsNext limits old (Err Bad) new = (rest_of new ≡ rest_of old) × (reading limits limits.depth (rest_of old) ≡ bad)
ReadsNext limits old (Err NoMemory) new = rest_of new ≡ rest_of old

-- two steps at most for each byte that is looked at; where it reads no further, for each that it has
abbrev pub NextCosts : Course → ℕ → Result Value Refusal → Course → ℕ → Type 0
NextCosts old before (Ok v) new after = after + 2 * unread new ≤ before + 2 * unread old
NextCosts old before (Err Short) new after = after + 2 * unread new ≤ before + 2 * unread old
NextCosts old before (Err Bad) new after = after ≤ before + 2 * unread old
NextCosts old before (Err NoMemory) new after = after ≤ before + 2 * unread old

-- these values stand one after another at the front of a text, and this is left behind them
abbrev pub ReadsAll : Limits → List ℕ → List Value → List ℕ → Type 0
ReadsAll limits bs [] rest = bs ≡ rest
ReadsAll limits bs (v ∷ vs) rest = (mid : List ℕ) × (reading limits limits.depth bs ≡ read (data_of v) mid) × ReadsAll limits mid vs rest

-- every value that is whole was appended; or nothing can begin behind them; or memory was refused behind some of them
abbrev pub AppendsAll : {U : Type 0} → Limits → Course → List Value → Result U Refusal → Course → List Value → Type 0
AppendsAll limits old before (Ok u) new after = (vs : List Value) × (after ≡ before ++ vs) × ReadsAll limits (rest_of old) vs (rest_of new) × IsCourse limits new × (reading limits limits.depth (rest_of new) ≡ short)
AppendsAll limits old before (Err Bad) new after = (vs : List Value) × (after ≡ before ++ vs) × ReadsAll limits (rest_of old) vs (rest_of new) × (reading limits limits.depth (rest_of new) ≡ bad)
AppendsAll limits old before (Err NoMemory) new after = (vs : List Value) × (rest : List ℕ) × (after ≡ before ++ vs) × ReadsAll limits (rest_of old) vs rest
AppendsAll limits old before (Err Short) new after = ⊥

-- two steps at most for each byte that is looked at; where it reads no further, for each that it had
abbrev pub AllCosts : {U : Type 0} → Course → ℕ → Result U Refusal → Course → ℕ → Type 0
AllCosts old before (Ok u) new after = after + 2 * unread new ≤ before + 2 * unread old
AllCosts old before (Err e) new after = after ≤ before + 2 * unread old
