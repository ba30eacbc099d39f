-- What comes before the first message of a request on a link.
use Rattle.std.proofs.Common.{◌≡◌, ◌≢◌, ℕ, ◌≤◌, true, List, [], ◌∷◌, ◌++◌, length, Option, Some, None, is_some, refl, sym, ap, subst, arith}
use Rattle.redis_error.specs.declared.redis_error.RedisError.{RedisError}
use Rattle.connection_setup.specs.declared.judgement.SetupResult.{SetupResult}
use Rattle.connection_setup.specs.declared.judgement.SetupResult.TheVariants as result
use Rattle.driver_model.specs.declared.action.Action.{Action}
use Rattle.driver_model.specs.declared.config.Config.{Config}
use Rattle.driver_model.specs.declared.event.Event.{Event}
use Rattle.legal_trace.specs.Ledger.{is_ready, is_well, setup_result}
use Rattle.legal_trace.specs.Book.{Book, blank_book, book}
use Rattle.legal_trace.specs.Legal.{MayStart, AllStand, Legal, current_link}
use Rattle.legal_trace.proofs.Books.{stand_front}
use Rattle.legal_trace.proofs.Moves.{ready_is_up, ready_is_set}
use Rattle.legal_laws.specs.Creation.{creations}
use Rattle.legal_laws.specs.Opened.{IsOpened, StartsOpened}
use Rattle.legal_laws.proofs.Links.Bounds.{start_of, next_may}
use Rattle.legal_laws.proofs.Generations.Creation.{told_behind}
use Rattle.legal_laws.proofs.Traces.Held.{starts_ready}
use Rattle.legal_laws.proofs.Links.Quiet.{failed_is_over}
use Rattle.legal_laws.proofs.Traces.Ranks.{none_up_over}
use Rattle.legal_laws.proofs.Traces.Sound.{sound_behind}
use Rattle.legal_trace.proofs.Setups.{set_is_greeted}

-- what is well is ready
well_is_ready : (x : Option SetupResult) → is_well x ≡ true → x ≡ Some result.Ready
well_is_ready None w = cc w
well_is_ready (Some result.Ready) w = refl
well_is_ready (Some result.RepeatWithoutUser) w = cc w
well_is_ready (Some (result.Failed e)) w = cc w
well_is_ready (Some result.NoMemory) w = cc w

-- what is shown once, and is no error, is that it came to be
shown_well : (shown : List (Option RedisError)) (created : ℕ) → length shown ≡ created → created ≤ 1 → created ≢ 0 → ((e : RedisError) → shown ≡ Some e ∷ [] → ⊥) → shown ≡ None ∷ []
shown_well [] created counted once some well = absurd (some (sym counted))
shown_well (None ∷ []) created counted once some well = refl
shown_well (Some e ∷ []) created counted once some well = absurd (well e refl)
shown_well (x ∷ y ∷ more) created counted once some well = absurd (omega (arith, counted, once))

-- where a message may start its link is opened
opened_before : (front : List Action) (l k n count len : ℕ) → AllStand blank_book front → MayStart (book front) l k n count len → IsOpened front l
opened_before front l k n count len all may =
    let b : Book = book front in
    let ready : is_ready (b.link l) ≡ true = starts_ready b l k n count len may in
    let told = told_behind front all in
    record {
      answered = well_is_ready (setup_result (b.link l)) (set_is_greeted (b.link l) (ready_is_set (b.link l) ready));
      told = shown_well (creations front) b.created told.counted told.once (may.begun.applied.shown.created.shown l ready)
          (λ e is. let sound = sound_behind front all in let fails = sound.lives.failed (told.fails e is) in let over = failed_is_over (current_link b).end fails.0 fails.1 in
          none_up_over b sound (ap is_some over.1) l (ready_is_up (b.link l) ready));
    }

-- so it is in a legal trace
pub starts_opened : (config : Config) (word : ℕ) (events : List Event) (trace : List Action) → Legal config word events trace → StartsOpened trace
starts_opened config word events trace h front more a l n is start =
    let legal : Legal config word events (front ++ a ∷ more) = subst (Legal config word events) is h in
    let m = start_of (book front) a l n (next_may config word events front more a legal) start in
    opened_before front l m.0 n m.1 m.2 (stand_front blank_book front (a ∷ more) legal.each) m.3
