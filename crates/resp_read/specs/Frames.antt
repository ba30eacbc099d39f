-- Aggregates that are begun and not whole, and what a value becomes that stands in them.
use Rattle.std.specs.Prelude.{◌≡◌, ℕ, ◌-◌, List, [], ◌∷◌, ◌++◌, length, Option, Some, None, Result, Ok, Err}
use Rattle.resp_value.specs.Data.{Data, array, set, push, dict, attribute, items_of, members_of}
use Rattle.resp_value.specs.View.{data_of}
use Rattle.resp_value.specs.declared.value.Value.{Value}
use Rattle.resp_read.specs.declared.frames.Sequence.{Sequence}
use Rattle.resp_read.specs.declared.frames.Sequence.TheVariants.{Array, Set, Push}
use Rattle.resp_read.specs.declared.frames.Pairing.{Pairing}
use Rattle.resp_read.specs.declared.frames.Pairing.TheVariants.{Map, Attributes}
use Rattle.resp_read.specs.declared.frames.Frame.{Frame}
use Rattle.resp_read.specs.declared.frames.Frame.TheVariants.{Item, Entry, Attributed}
use Rattle.resp_read.specs.declared.frames.Begun.{Begun}
use Rattle.resp_read.specs.declared.frames.Begun.TheVariants.{Whole, Within}
use Rattle.resp_read.specs.declared.limits.Limits.{Limits}
use Rattle.resp_read.specs.Parser.{read, Found, found_and_then, found_map, repeated, pair, attributed}
use Rattle.resp_read.specs.Limits.{reading}

-- what these values make
abbrev pub made : Sequence → List Data → Data
made Array ds = array (items_of ds)
made Set ds = set (items_of ds)
made (Push kind) ds = push kind (items_of ds)

-- what these pairs make, with the value behind them where they are attributes
abbrev pub paired : (List ℕ → Found Data) → Pairing → List (Data × Data) → List ℕ → Found Data
paired inside Map ps bs = read (dict (members_of ps)) bs
paired inside Attributes ps bs = attributed inside ps bs

-- what the values found and n more make
abbrev pub with_values : (List ℕ → Found Data) → Sequence → List Data → ℕ → List ℕ → Found Data
with_values inside of found n bs = found_map (λ ds. made of (found ++ ds)) (repeated inside n bs)

-- what the pairs found and n more make
abbrev pub with_pairs : (List ℕ → Found Data) → Pairing → List (Data × Data) → ℕ → List ℕ → Found Data
with_pairs inside of found n bs = found_and_then (λ ps. paired inside of (found ++ ps)) (repeated (pair inside) n bs)

-- what an aggregate is, where the value that it waits for is v, and these bytes follow
abbrev pub with_value : (List ℕ → Found Data) → Frame → Data → List ℕ → Found Data
with_value inside (Item of found more) v bs = with_values inside of (found ++ v ∷ []) more bs
with_value inside (Entry of found None more) k bs = found_and_then (λ v rest. with_pairs inside of (found ++ (k, v) ∷ []) more rest) (inside bs)
with_value inside (Entry of found (Some k) more) v bs = with_pairs inside of (found ++ (data_of k, v) ∷ []) more bs
with_value inside (Attributed ps) v bs = read (attribute v (members_of ps)) bs

-- what was begun is, where these bytes follow
abbrev pub begun_as : (List ℕ → Found Data) → Begun → List ℕ → Found Data
begun_as inside (Whole v) bs = read (data_of v) bs
begun_as inside (Within frame) bs = found_and_then (with_value inside frame) (inside bs)

-- what the outermost of these aggregates is, where x is found in the innermost; n may still be nested
abbrev pub within : Limits → ℕ → List Frame → Found Data → Found Data
within limits n [] x = x
within limits n (frame ∷ frames) x = found_and_then (with_value (reading limits (n - 1)) frame) (within limits (n - 1) frames x)

-- what it is, where these bytes follow
abbrev pub resumed : Limits → List Frame → List ℕ → Found Data
resumed limits frames bs = within limits limits.depth frames (reading limits (limits.depth - length frames) bs)

-- what an aggregate does with a value that is offered: it takes it and waits for the next one, or hands it back and stays as it was
abbrev pub IsAdded : {E : Type 0} → Frame → Value → Result (Option Value) E → Frame → Type 0
IsAdded old v (Ok None) new = (inside : List ℕ → Found Data) (bs : List ℕ) → with_value inside old (data_of v) bs ≡ begun_as inside (Within new) bs
IsAdded old v (Ok (Some w)) new = (w ≡ v) × (new ≡ old)
IsAdded old v (Err e) new = Unit {0}

-- the same of the innermost of these aggregates, within any limits
abbrev pub IsPutInPlace : {E : Type 0} → List Frame → Value → Result (Option Value) E → List Frame → Type 0
IsPutInPlace old v (Ok None) new = (limits : Limits) (bs : List ℕ) → within limits limits.depth old (read (data_of v) bs) ≡ resumed limits new bs
IsPutInPlace old v (Ok (Some w)) new = (w ≡ v) × (new ≡ old)
IsPutInPlace old v (Err e) new = Unit {0}

-- what becomes of a value in these aggregates: the outermost is whole by it, or it waits on, within any limits
abbrev pub IsPut : {E : Type 0} → List Frame → Value → Result (Option Value) E → List Frame → Type 0
IsPut old v (Ok (Some w)) new = (new ≡ []) × ((limits : Limits) (bs : List ℕ) → within limits limits.depth old (read (data_of v) bs) ≡ read (data_of w) bs)
IsPut old v (Ok None) new = (limits : Limits) (bs : List ℕ) → within limits limits.depth old (read (data_of v) bs) ≡ resumed limits new bs
IsPut old v (Err e) new = Unit {0}
