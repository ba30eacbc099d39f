-- What a reader of values answers, and the state that it leaves.
use Rattle.std.specs.Prelude.{◌≡◌, ℕ, List, [], ◌∷◌, ◌++◌, Option, Some, None, Result, Ok, Err, ◌⊎◌}
use Rattle.resp_value.specs.View.{data_of}
use Rattle.resp_value.specs.declared.value.Value.{Value}
use Rattle.resp_read.specs.declared.reader.Health.{Health}
use Rattle.resp_read.specs.declared.reader.Health.TheVariants as health
use Rattle.resp_read.specs.declared.reader.ReadError.{ReadError}
use Rattle.resp_read.specs.declared.reader.ReadError.TheVariants.{Parse, NoMemory}
use Rattle.resp_read.specs.State.{ReaderState}
use Rattle.resp_read.specs.declared.limits.Limits.{Limits}
use Rattle.resp_read.specs.Reads.{ReadsWithin, ReadsEachWithin, IsProperPrefixWithin, IsMalformedWithin}

-- the bytes that a reader keeps of a piece behind those that it has: all where it is sound, and none where it reads no further
abbrev pub kept_of : Health → List ℕ → List ℕ → List ℕ
kept_of health.Sound rest piece = rest ++ piece
kept_of health.Malformed rest piece = rest
kept_of health.NoMemory rest piece = rest

-- Within the reader's limits, which stay. A value: it stood at the front. None: what is left is the front of a value, and nothing changed. Parse: what is left can never begin one. NoMemory: the reader had failed, or fails now.
abbrev pub NextValue : Result (Option Value) ReadError → ReaderState → ReaderState → Type 0
NextValue (Ok (Some v)) old new = (old.health ≡ health.Sound) × ReadsWithin old.limits old.rest (data_of v) new.rest × (new.health ≡ health.Sound) × (new.limits ≡ old.limits)
NextValue (Ok None) old new = (old.health ≡ health.Sound) × IsProperPrefixWithin old.limits old.rest × (new ≡ old)
NextValue (Err Parse) old new = ((old.health ≡ health.Malformed) ⊎ ((old.health ≡ health.Sound) × IsMalformedWithin old.limits old.rest)) × (new ≡ record old { health = health.Malformed })
NextValue (Err NoMemory) old new = (old.health ≡ health.Malformed → ⊥) × (new ≡ record old { health = health.NoMemory })

-- the same of a sound reader, by what stands at the front of what is left
abbrev pub NextFound : Result (Option Value) ReadError → ReaderState → ReaderState → Type 0
NextFound (Ok (Some v)) old new = ReadsWithin old.limits old.rest (data_of v) new.rest
NextFound (Ok None) old new = IsProperPrefixWithin old.limits old.rest
NextFound (Err Parse) old new = old.health ≡ health.Sound → IsMalformedWithin old.limits old.rest
NextFound (Err NoMemory) old new = Unit {0}

-- What a sound reader makes of a text, after these values. Ok: every value that is whole was appended, and what is left is the front of one. Parse: the same, and what is left can never begin one. NoMemory: some of the values were appended.
abbrev pub Pumps : {U : Type 0} → Limits → List ℕ → List Value → Result U ReadError → ReaderState → List Value → Type 0
Pumps limits text before (Ok u) new after = ((vs : List Value) × (after ≡ before ++ vs) × ReadsEachWithin limits text vs new.rest) × IsProperPrefixWithin limits new.rest × (new.health ≡ health.Sound) × (new.limits ≡ limits)
Pumps limits text before (Err Parse) new after = ((vs : List Value) × (after ≡ before ++ vs) × ReadsEachWithin limits text vs new.rest) × IsMalformedWithin limits new.rest × (new.health ≡ health.Malformed) × (new.limits ≡ limits)
Pumps limits text before (Err NoMemory) new after = ((vs : List Value) × (rest : List ℕ) × (after ≡ before ++ vs) × ReadsEachWithin limits text vs rest) × (new.health ≡ health.NoMemory) × (new.limits ≡ limits)

-- a reader that had failed says so again, and all stays
abbrev pub FailsAgain : {U : Type 0} → Result U ReadError → ReaderState → ReaderState → List Value → List Value → Type 0
FailsAgain (Ok u) old new before after = ⊥
FailsAgain (Err Parse) old new before after = (old.health ≡ health.Malformed) × (new ≡ old) × (after ≡ before)
FailsAgain (Err NoMemory) old new before after = (old.health ≡ health.NoMemory) × (new ≡ old) × (after ≡ before)

-- these pieces, one after another
abbrev pub joined : List (List ℕ) → List ℕ
joined [] = []
joined (piece ∷ more) = piece ++ joined more

-- What a new reader with these limits makes of a text that it is fed in pieces, after these values. Ok: every value that is whole was appended, and what is left is the front of one. Parse: values were appended, and what follows them can never begin one. NoMemory: some of the values were appended.
abbrev pub ReadsPieces : Limits → List ℕ → List Value → Result ReaderState ReadError → List Value → Type 0
ReadsPieces limits text before (Ok new) after = ((vs : List Value) × (after ≡ before ++ vs) × ReadsEachWithin limits text vs new.rest) × IsProperPrefixWithin limits new.rest × (new.health ≡ health.Sound) × (new.limits ≡ limits)
ReadsPieces limits text before (Err Parse) after = (vs : List Value) × (rest : List ℕ) × (after ≡ before ++ vs) × ReadsEachWithin limits text vs rest × IsMalformedWithin limits rest
ReadsPieces limits text before (Err NoMemory) after = (vs : List Value) × (rest : List ℕ) × (after ≡ before ++ vs) × ReadsEachWithin limits text vs rest
