-- What a transaction does, turn by turn.
use Rattle.std.specs.Prelude.{◌≡◌, ℕ, zero, suc, ◌<◌, false, true, List, [], ◌∷◌, codes, Option, Some, None, Result, Ok, Err, ◌⊎◌}
use Rattle.std.specs.Borrow.{MutBor}
use Rattle.std.specs.Fn.{Mut, CalledWithState}
use Rattle.resp_value.specs.declared.value.Value.{Value}
use Rattle.resp_value.specs.declared.value.Value.TheVariants as value
use Rattle.redis_error.specs.declared.redis_error.RedisError.TheVariants as redis
use Rattle.resp_write.specs.Command.{Command, CommandList}
use Rattle.transactions.specs.declared.call_error.CallError.{CallError}
use Rattle.transactions.specs.declared.call_error.CallError.TheVariants as error
use Rattle.transactions.specs.Calls.{Told, Tells}
use Rattle.transactions.specs.Calls.Made.{command}

-- WATCH with these keys: the server executes no transaction after it, if one of them was changed meanwhile
abbrev pub watch_of : List (List ℕ) → Command
watch_of keys = record { args = codes "WATCH" ∷ keys; no_response = false }

-- UNWATCH: no key is watched any more
abbrev pub unwatch_all : Command
unwatch_all = record { args = codes "UNWATCH" ∷ []; no_response = false }

-- the pipeline that a closure is handed: an atomic one without commands
abbrev pub fresh : CommandList
fresh = record { commands = []; ignored = []; atomic = true }

-- a server's error as a value is a value that can't be taken
abbrev pub refusal : Value → Option CallError
refusal (value.ServerError e) = Some (error.Redis (redis.Convert (value.ServerError e)))
refusal _ = None

-- the error with which a turn ends where WATCH is answered so, if it does
abbrev pub watch_error : Result Value CallError → Option CallError
watch_error (Err e) = Some e
watch_error (Ok v) = refusal v

module _ {C : Type 0} (told : C → Told) where
  -- WATCH is called, and the turn goes on
  pub record Watches (watch : Command) (c d : C) : Type 0 where
    pub answer : Result Value CallError
    pub called : Tells (told c) (told d) (command watch answer)
    pub taken : watch_error answer ≡ None

  -- WATCH is called, and its answer ends the turn with this error
  pub record Refuses (watch : Command) (c d : C) (e : CallError) : Type 0 where
    pub answer : Result Value CallError
    pub called : Tells (told c) (told d) (command watch answer)
    pub refused : watch_error answer ≡ Some e

  -- UNWATCH is called, and whatever it is answered doesn't matter
  pub record Unwatches (c d : C) : Type 0 where
    pub answer : Result Value CallError
    pub called : Tells (told c) (told d) (command unwatch_all answer)

module _ {C F T : Type 0} (told : C → Told) (closure : Mut F (MutBor C × (CommandList × Unit {0})) ((Result (Option T) CallError) × (MutBor C × Unit {0}))) (watch : Command) where
  -- One whole turn: WATCH, then the closure with the connection and a fresh pipeline, then UNWATCH. Its answer is the closure's.
  pub record Turn (c : C) (f : F) (r : Result (Option T) CallError) (d : C) (g : F) : Type 0 where
    pub after_watch : C
    pub watched : Watches told watch c after_watch
    pub after_closure : C
    pub called : CalledWithState closure f after_watch fresh r g after_closure
    pub unwatched : Unwatches told after_closure d

  -- The error of a turn: that of WATCH at once, or that of the closure.
  abbrev pub TurnFails : C → F → CallError → C → F → Type 0
  TurnFails c f e d g = Refuses told watch c d e ⊎ Turn c f (Err e) d g

  -- so many whole turns in a row, each of which answered None
  abbrev pub Turns : ℕ → C → F → C → F → Type 0
  Turns zero c f d g = (d ≡ c) × (g ≡ f)
  Turns (suc n) c f d g = (b : C) × (h : F) × Turns n c f b h × Turn b h (Ok None) d g

  -- One more turn ends so, behind fewer than so many that answered None.
  pub record ComesTo (turns : ℕ) (c : C) (f : F) (ends : C → F → Type 0) : Type 0 where
    pub before : ℕ
    pub fewer : before < turns
    pub connection : C
    pub state : F
    pub passed : Turns before c f connection state
    pub last : ends connection state

  -- All turns were made, and each answered None.
  abbrev pub Spends : ℕ → C → F → CallError → C → Type 0
  Spends turns c f e d = (e ≡ error.Redis (redis.TurnsSpent turns)) × ((g : F) × Turns turns c f d g)

  -- Memory was refused before any call.
  abbrev pub NeverBegins : C → CallError → C → Type 0
  NeverBegins c e d = (e ≡ error.NoMemory) × (d ≡ c)

  -- How a transaction of so many turns ends, where the connection was c, the closure f, and the connection then is d: with the
  -- first value that a turn answers, with the first error, or with all turns spent.
  abbrev pub Ends : ℕ → C → F → Result T CallError → C → Type 0
  Ends turns c f (Ok v) d = ComesTo turns c f (λ b h. (g : F) × Turn b h (Ok (Some v)) d g)
  Ends turns c f (Err e) d = ComesTo turns c f (λ b h. (g : F) × TurnFails b h e d g) ⊎ (Spends turns c f e d ⊎ NeverBegins c e d)
