-- The configuration of a trace's opening is that of its book.
use Rattle.std.proofs.Common.{◌≡◌, ◌≢◌, ℕ, List, [], ◌∷◌, ◌++◌, Some, refl, ◌∙◌, ap, arith}
use Rattle.driver_model.specs.declared.action.Action.{Action}
use Rattle.driver_model.specs.declared.action.Action.TheVariants as action
use Rattle.driver_model.specs.declared.action.Cause.{Cause}
use Rattle.driver_model.specs.declared.action.Cause.TheVariants as cause
use Rattle.driver_model.specs.declared.config.Config.{Config}
use Rattle.legal_trace.specs.Book.{Book, entered, entered_each}
use Rattle.legal_trace.specs.Legal.{MayStand, AllStand, causes}
use Rattle.legal_laws.proofs.Traces.Equal.{same_head}

-- once a turn began, none is an opening
config_stays : (b : Book) (a : Action) → MayStand b a → b.turns ≢ 0 → (entered b a).config ≡ b.config
config_stays b (action.Turn k (cause.Opening config word)) may some = absurd (some may.is_for)
config_stays b (action.Turn k (cause.Event e)) may some = refl
config_stays b (action.Connect l host port) may some = refl
config_stays b (action.Timer t ms what) may some = refl
config_stays b (action.Took who l count) may some = refl
config_stays b (action.Push l info) may some = refl
config_stays b (action.Message msg) may some = refl
config_stays b (action.Monitor v) may some = refl
config_stays b (action.NeedCreds c l) may some = refl
config_stays b (action.Generation g) may some = refl
config_stays b (action.Round who l) may some = refl
config_stays b (action.Close l) may some = refl
config_stays b (action.Write l bytes) may some = refl
config_stays b (action.Wait who kind) may some = refl
config_stays b (action.Start l k who count len) may some = refl
config_stays b (action.Created e) may some = refl
config_stays b (action.Outcome n o) may some = refl

-- a turn has begun
turn_began : (b : Book) (k : ℕ) (c : Cause) → (entered b (action.Turn k c)).turns ≢ 0
turn_began b k (cause.Opening config word) e = omega (arith, e)
turn_began b k (cause.Event event) e = omega (arith, e)

-- and that stays so
pub turns_stay : (b : Book) (a : Action) → b.turns ≢ 0 → (entered b a).turns ≢ 0
turns_stay b (action.Turn k c) some = turn_began b k c
turns_stay b (action.Connect l host port) some = some
turns_stay b (action.Timer t ms what) some = some
turns_stay b (action.Took who l count) some = some
turns_stay b (action.Push l info) some = some
turns_stay b (action.Message msg) some = some
turns_stay b (action.Monitor v) some = some
turns_stay b (action.NeedCreds c l) some = some
turns_stay b (action.Generation g) some = some
turns_stay b (action.Round who l) some = some
turns_stay b (action.Close l) some = some
turns_stay b (action.Write l bytes) some = some
turns_stay b (action.Wait who kind) some = some
turns_stay b (action.Start l k who count len) some = some
turns_stay b (action.Created e) some = some
turns_stay b (action.Outcome n o) some = some

-- so the configuration stays
pub config_kept : (b : Book) (front : List Action) → AllStand b front → b.turns ≢ 0 → (entered_each b front).config ≡ b.config
config_kept b [] all some = refl
config_kept b (a ∷ more) all some = config_kept (entered b a) more all.1 (turns_stay b a some) ∙ config_stays b a all.0 some

-- where a trace has that opening, its configuration is that of the book of each front in which a turn began
pub configured_behind : (b : Book) (front more : List Action) (config : Config) (word : ℕ) (cs : List Cause) → AllStand b front → causes (front ++ more) ≡ cause.Opening config word ∷ cs
    → b.turns ≡ 0 → (entered_each b front).turns ≢ 0 → (entered_each b front).config ≡ Some config
configured_behind b [] more config word cs all e none some = absurd (some none)
configured_behind b (action.Turn k c ∷ front) more config word cs all e none some =
    let same : c ≡ cause.Opening config word = same_head c (cause.Opening config word) (causes (front ++ more)) cs e in
    config_kept (entered b (action.Turn k c)) front all.1 (turn_began b k c) ∙ ap (λ x. (entered b (action.Turn k x)).config) same
configured_behind b (action.Connect l host port ∷ front) more config word cs all e none some = configured_behind (entered b (action.Connect l host port)) front more config word cs all.1 e none some
configured_behind b (action.Timer t ms what ∷ front) more config word cs all e none some = configured_behind (entered b (action.Timer t ms what)) front more config word cs all.1 e none some
configured_behind b (action.Took who l count ∷ front) more config word cs all e none some = configured_behind (entered b (action.Took who l count)) front more config word cs all.1 e none some
configured_behind b (action.Push l info ∷ front) more config word cs all e none some = configured_behind (entered b (action.Push l info)) front more config word cs all.1 e none some
configured_behind b (action.Message msg ∷ front) more config word cs all e none some = configured_behind (entered b (action.Message msg)) front more config word cs all.1 e none some
configured_behind b (action.Monitor v ∷ front) more config word cs all e none some = configured_behind (entered b (action.Monitor v)) front more config word cs all.1 e none some
configured_behind b (action.NeedCreds c l ∷ front) more config word cs all e none some = configured_behind (entered b (action.NeedCreds c l)) front more config word cs all.1 e none some
configured_behind b (action.Generation g ∷ front) more config word cs all e none some = configured_behind (entered b (action.Generation g)) front more config word cs all.1 e none some
configured_behind b (action.Round who l ∷ front) more config word cs all e none some = configured_behind (entered b (action.Round who l)) front more config word cs all.1 e none some
configured_behind b (action.Close l ∷ front) more config word cs all e none some = configured_behind (entered b (action.Close l)) front more config word cs all.1 e none some
configured_behind b (action.Write l bytes ∷ front) more config word cs all e none some = configured_behind (entered b (action.Write l bytes)) front more config word cs all.1 e none some
configured_behind b (action.Wait who kind ∷ front) more config word cs all e none some = configured_behind (entered b (action.Wait who kind)) front more config word cs all.1 e none some
configured_behind b (action.Start l k who count len ∷ front) more config word cs all e none some = configured_behind (entered b (action.Start l k who count len)) front more config word cs all.1 e none some
configured_behind b (action.Created x ∷ front) more config word cs all e none some = configured_behind (entered b (action.Created x)) front more config word cs all.1 e none some
configured_behind b (action.Outcome n o ∷ front) more config word cs all e none some = configured_behind (entered b (action.Outcome n o)) front more config word cs all.1 e none some
