-- What a stream holds, and what its polls may give.
use Rattle.std.specs.Prelude.{◌≡◌, Bool, true, false, List, [], ◌∷◌, ◌++◌, Option, Some, None}
use Rattle.futures.specs.declared.task.Poll.{Poll}
use Rattle.futures.specs.declared.task.Poll.TheVariants.{Ready, Pending}

-- the items that are to be given, in order, and whether the link has ended behind them
pub record Holding (A : Type 0) : Type 0 where
  pub items : List A
  pub ended : Bool

-- one more item comes
abbrev pub put : {A : Type 0} → Holding A → A → Holding A
put h x = record h { items = h.items ++ x ∷ [] }

-- the link has ended
abbrev pub finished : {A : Type 0} → Holding A → Holding A
finished h = record h { ended = true }

-- some answers, one for each item, in order, and then one more, which is the end where all were given and the link has ended
abbrev pub GivesEach : {A B : Type 0} → (A → B → Type 0) → Bool → List A → List B → Option B → Type 0
GivesEach is ended (x ∷ xs) (y ∷ ys) last = is x y × GivesEach is ended xs ys last
GivesEach is ended (x ∷ xs) [] (Some y) = is x y
GivesEach is ended (x ∷ xs) [] None = ⊥
GivesEach is ended [] [] None = ended ≡ true
GivesEach is ended [] [] (Some y) = ⊥
GivesEach is ended [] (y ∷ ys) last = ⊥

-- what polls may give of what is held
abbrev pub Gives : {A B : Type 0} → (A → B → Type 0) → Holding A → List B → Option B → Type 0
Gives is h = GivesEach is h.ended h.items

-- one poll: it gives the item that was held longest; or the end, where nothing is held and the link has ended; or nothing yet, where
-- nothing is held and the link goes on
abbrev pub IsPolled : {A B : Type 0} → (A → B → Type 0) → Holding A → Poll (Option B) → Holding A → Type 0
IsPolled {A} is before (Ready (Some y)) after = (x : A) × (before.items ≡ x ∷ after.items) × (before.ended ≡ after.ended) × is x y
IsPolled is before (Ready None) after = (before.items ≡ []) × (before.ended ≡ true) × (after ≡ before)
IsPolled is before Pending after = (before.items ≡ []) × (before.ended ≡ false) × (after ≡ before)

-- the item itself is given
abbrev pub IsItself : {A : Type 0} → A → A → Type 0
IsItself x y = y ≡ x
