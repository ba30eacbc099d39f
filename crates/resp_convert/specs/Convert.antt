-- What it means that a value is converted to a type, where `reads` says which values are what of the type.
use Rattle.std.specs.Prelude.{◌≡◌, List, Vec, Option, Some, None, Result, Ok, Err}
use Rattle.resp_value.specs.declared.server_error.ServerError.{ServerError}
use Rattle.resp_value.specs.Data.{Data, error}
use Rattle.resp_value.specs.View.{data_of}
use Rattle.resp_value.specs.declared.value.Value.{Value}
use Rattle.resp_convert.specs.Types.{IsEach, IsEachOf, bare}
use Rattle.resp_convert.specs.declared.convert.ConvertError.{ConvertError}
use Rattle.resp_convert.specs.declared.convert.ConvertError.TheVariants.{Convert, NoMemory}
use Rattle.resp_convert.specs.declared.convert.Look.{Look}
use Rattle.resp_convert.specs.declared.convert.Look.TheVariants.{Fits, Unfit, Untold}

-- it is nothing of the type
abbrev pub IsNone : {A S : Type 0} → (A → S → Type 0) → A → Type 0
IsNone {A} {S} reads d = (x : S) → reads d x → ⊥

-- it is something of the type
abbrev pub IsOfType : {A S : Type 0} → (A → S → Type 0) → A → Type 0
IsOfType {A} {S} reads d = (x : S) × reads d x

-- what it is of the type, or that it is nothing of the type
abbrev pub IsRead : {A S : Type 0} → (A → S → Type 0) → A → Option S → Type 0
IsRead reads d (Some x) = reads d x
IsRead reads d None = IsNone reads d

-- what each of some values is, or that some value is nothing of the type
abbrev pub IsReadEach : {A S Z : Type 0} → (A → S → Type 0) → Option (List A) → Option (Vec S Z) → Type 0
IsReadEach reads ds (Some xs) = IsEachOf reads ds xs.items
IsReadEach {A} {S} reads ds None = (xs : List S) → IsEachOf reads ds xs → ⊥

-- what it is of the type, or the value itself, which is nothing of the type; no more is said where memory was wanting
abbrev pub IsConverted : {S : Type 0} → (Data → S → Type 0) → Value → Result S ConvertError → Type 0
IsConverted reads value (Ok x) = reads (data_of value) x
IsConverted reads value (Err (Convert given)) = (given ≡ value) × IsNone reads (data_of value)
IsConverted reads value (Err NoMemory) = Unit {0}

-- what a look at it told: that it can be taken, that it is nothing of the type, or that it isn't one of those that are moved
abbrev pub IsTold : {A S : Type 0} → (A → Type 0) → (A → Type 0) → (A → S → Type 0) → A → Look → Type 0
IsTold moves fits reads d Fits = fits d
IsTold moves fits reads d Unfit = IsNone reads d
IsTold moves fits reads d Untold = moves d → ⊥

-- the items that were read
abbrev pub items_read : {S Z E : Type 0} → Result (Vec S Z) E → Result (List S) E
items_read (Ok xs) = Ok xs.items
items_read (Err e) = Err e

-- what each of some values is, or the values themselves, one of which is nothing of the type
abbrev pub AreConverted : {S Z : Type 0} → (Data → S → Type 0) → List Data → Result (Vec S Z) (List Data) → Type 0
AreConverted reads ds (Ok xs) = IsEach reads ds xs.items
AreConverted {S} reads ds (Err given) = (given ≡ ds) × ((xs : List S) → IsEach reads ds xs → ⊥)

-- the server's error that a refusal tells: its value is one, behind any attributes
abbrev pub error_of : Data → Option ServerError
error_of (error e) = Some e
error_of _ = None

abbrev pub told_by : ConvertError → Option ServerError
told_by (Convert value) = error_of (bare (data_of value))
told_by NoMemory = None
