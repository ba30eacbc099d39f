-- What is subscribed again on a new link.
use Rattle.std.specs.Prelude.{◌≡◌, ◌≢◌, ◌≤◌, ℕ, ◌+◌, ◌==◌, true, false, List, [], ◌∷◌, ◌++◌, length, Some, None, if◌then◌else◌}
use Rattle.resp_write.specs.Command.{CommandList}
use Rattle.resp_write.specs.Pack.{pack_pipeline}
use Rattle.manager_config.specs.declared.config.ConnectionManagerConfig.{ConnectionManagerConfig}
use Rattle.sub_tracker.specs.Pipeline.{Resubscribes}
use Rattle.driver_model.specs.declared.action.Action.{Action}
use Rattle.driver_model.specs.declared.action.Action.TheVariants as action
use Rattle.driver_model.specs.declared.action.Owner.TheVariants as owner
use Rattle.driver_model.specs.Shape.{need_of, shape_inside}
use Rattle.legal_trace.specs.Ledger.{is_ready, is_serving, again_of}
use Rattle.legal_trace.specs.Managers.{settings_in}
use Rattle.legal_trace.specs.Book.{Book, book}
use Rattle.legal_trace.specs.Legal.{answer_time}

-- a message that subscribes again may start on link l: the session comes back so; this is the current link, which is ready; nothing was
-- subscribed again on it before, and where that is to be answered within a time, its timer was asked for; something is subscribed, and
-- the message subscribes exactly what is, after all calls that were confirmed so far: it takes an item for each of its commands, and is
-- as long as they are
pub record SubscribesAgain (b : Book) (l message count len : ℕ) : Type 0 where
  pub settings : ConnectionManagerConfig
  pub set : settings_in b.config ≡ Some settings
  pub resubscribes : settings.automatic_resubscription ≡ true
  pub current : l ≡ b.current
  pub ready : is_ready (b.link l) ≡ true
  pub first : again_of (b.link l) ≡ None
  pub timed : answer_time b.config ≢ None → (b.link l).again.timed ≡ true
  pub next : message ≡ length (b.link l).starts
  pub commands : CommandList
  pub exact : Resubscribes b.tracked commands
  pub some : (length commands.commands == 0) ≡ false
  pub items : count ≡ need_of (shape_inside (length commands.commands))
  pub long : len ≡ length (pack_pipeline commands)

-- so does each that a trace shows
abbrev pub RepeatsExactly : List Action → Type 0
RepeatsExactly trace =
    (front more : List Action) (l message count len : ℕ) → trace ≡ front ++ action.Start l message owner.Resub count len ∷ more
    → SubscribesAgain (book front) l message count len

-- the bytes that the link is to take are those
abbrev pub CarriesExactly : List Action → Type 0
CarriesExactly trace =
    (front more : List Action) (l message count len : ℕ) → trace ≡ front ++ action.Start l message owner.Resub count len ∷ more
    → (commands : CommandList) × Resubscribes (book front).tracked commands
    × (((book (front ++ action.Start l message owner.Resub count len ∷ [])).link l).starts
    ≡ ((book front).link l).starts ++ record { owner = owner.Resub; shape = shape_inside (length commands.commands); bytes = pack_pipeline commands } ∷ [])

-- how many messages subscribe again on link l that an action starts, and a trace
abbrev pub repeats_by : ℕ → Action → ℕ
repeats_by l (action.Start m message owner.Resub count len) = if m == l then 1 else 0
repeats_by l _ = 0

abbrev pub repeats_on : ℕ → List Action → ℕ
repeats_on l [] = 0
repeats_on l (a ∷ more) = repeats_by l a + repeats_on l more

-- one at most does on a link
abbrev pub RepeatsOnce : List Action → Type 0
RepeatsOnce trace = (l : ℕ) → repeats_on l trace ≤ 1

-- before it is answered, or given up, no message of a submission starts there
abbrev pub NoneStartsBefore : List Action → Type 0
NoneStartsBefore trace =
    (front more : List Action) (l k n round count len : ℕ) → trace ≡ front ++ action.Start l k (owner.Try n round) count len ∷ more → is_serving ((book front).link l) ≡ true

-- what is subscribed is subscribed again exactly, once a link at most, before all messages of submissions
pub record SubscribesAsItWas (trace : List Action) : Type 0 where
  pub exactly : RepeatsExactly trace
  pub carries : CarriesExactly trace
  pub once : RepeatsOnce trace
  pub before : NoneStartsBefore trace
