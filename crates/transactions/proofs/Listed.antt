-- What turns leave in the list of calls.
use Rattle.std.proofs.Common.{◌≡◌, ℕ, zero, suc, ◌-◌, ◌^◌, ◌<◌, ◌≤◌, min, List, [], ◌∷◌, ◌++◌, map, Option, Some, None, Result, Ok, inl, inr, refl, sym, ap, ◌∙◌, arith, append_assoc, append-nil}
use Rattle.std.specs.Borrow.{MutBor}
use Rattle.std.specs.Fn.{Mut}
use Rattle.resp_write.specs.Command.{Command, CommandList}
use Rattle.transactions.specs.declared.call_error.CallError.{CallError}
use Rattle.transactions.specs.Calls.{Told, Made, Tells, Lists}
use Rattle.transactions.specs.Turns.{Turn, Turns, Ends, Unwatches, unwatch_all}
use Rattle.transactions.specs.Silent.{MakesNoCalls, command_in, commands_in, watch_and_unwatch}

-- a call lowers no count of calls that aren't listed
rises : (old new : Told) (call : Made) → Tells old new call → min old.unlisted (2 ^ 64 - 1) ≤ new.unlisted
rises old new call (inl h) = let same = h.1 in omega arith
rises old new call (inr h) = let counted = h.1.1 in omega arith

-- a call that doesn't raise it is listed
listed : (old new : Told) (call : Made) → Tells old new call → old.unlisted < 2 ^ 64 - 1 → new.unlisted ≤ old.unlisted → Lists old new call
listed old new call (inl h) small le = h
listed old new call (inr h) small le = let counted = h.1.1 in absurd (omega arith)

-- and its command stands behind the others
commands_then : (old new : Told) (call : Made) → Lists old new call → commands_in new ≡ commands_in old ++ command_in call ∷ []
commands_then old new call h = ap (map command_in) h.0 ∙ one_more old.made
  where
    one_more : (made : List Made) → map command_in (made ++ call ∷ []) ≡ map command_in made ++ command_in call ∷ []
    one_more [] = refl
    one_more (m ∷ ms) = ap (λ more. command_in m ∷ more) (one_more ms)

module _ {C F T : Type 0} (told : C → Told) (closure : Mut F (MutBor C × (CommandList × Unit {0})) ((Result (Option T) CallError) × (MutBor C × Unit {0}))) (silent : MakesNoCalls told closure) (watch : Command) where
  turn_rises : (c : C) (f : F) (r : Result (Option T) CallError) (d : C) (g : F) → Turn told closure watch c f r d g → min (told c).unlisted (2 ^ 64 - 1) ≤ (told d).unlisted
  turn_rises c f r d g turn =
      let first = rises (told c) (told turn.after_watch) _ turn.watched.called in
      let between = ap (λ (t : Told). t.unlisted) (silent _ _ _ _ _ _ turn.called) in
      let last = rises (told turn.after_closure) (told d) _ turn.unwatched.called in
      omega arith

  turn_listed : (c : C) (f : F) (r : Result (Option T) CallError) (d : C) (g : F) → Turn told closure watch c f r d g → (told c).unlisted < 2 ^ 64 - 1 → (told d).unlisted ≤ (told c).unlisted → commands_in (told d) ≡ commands_in (told c) ++ Some watch ∷ Some unwatch_all ∷ []
  turn_listed c f r d g turn small le =
      let first = rises (told c) (told turn.after_watch) _ turn.watched.called in
      let same = silent _ _ _ _ _ _ turn.called in
      let between = ap (λ (t : Told). t.unlisted) same in
      let last = rises (told turn.after_closure) (told d) _ turn.unwatched.called in
      let watched = listed (told c) (told turn.after_watch) _ turn.watched.called small (omega arith) in
      let unwatched = listed (told turn.after_closure) (told d) _ turn.unwatched.called (let kept = watched.1 in omega arith) (let kept = watched.1 in omega arith) in
      commands_then (told turn.after_closure) (told d) _ unwatched
      ∙ ap (λ t. commands_in t ++ Some unwatch_all ∷ []) same
      ∙ ap (λ commands. commands ++ Some unwatch_all ∷ []) (commands_then (told c) (told turn.after_watch) _ watched)
      ∙ append_assoc (commands_in (told c)) (Some watch ∷ []) (Some unwatch_all ∷ [])

  turns_rise : (n : ℕ) (c : C) (f : F) (d : C) (g : F) → Turns told closure watch n c f d g → min (told c).unlisted (2 ^ 64 - 1) ≤ (told d).unlisted
  turns_rise zero c f d g h = let same = ap (λ x. (told x).unlisted) h.0 in omega arith
  turns_rise (suc n) c f d g h =
      let before = turns_rise n c f h.0 h.1 h.2 in
      let turn = turn_rises h.0 h.1 (Ok None) d g h.3 in
      omega arith

  pub turns_listed : (n : ℕ) (c : C) (f : F) (d : C) (g : F) → Turns told closure watch n c f d g → (told c).unlisted < 2 ^ 64 - 1 → (told d).unlisted ≤ (told c).unlisted → commands_in (told d) ≡ commands_in (told c) ++ watch_and_unwatch watch n
  turns_listed zero c f d g h small le = ap (λ x. commands_in (told x)) h.0 ∙ sym (append-nil (commands_in (told c)))
  turns_listed (suc n) c f d g h small le =
      let before = turns_rise n c f h.0 h.1 h.2 in
      let turn = turn_rises h.0 h.1 (Ok None) d g h.3 in
      turn_listed h.0 h.1 (Ok None) d g h.3 (omega arith) (omega arith)
      ∙ ap (λ commands. commands ++ Some watch ∷ Some unwatch_all ∷ []) (turns_listed n c f h.0 h.1 h.2 small (omega arith))
      ∙ append_assoc (commands_in (told c)) (watch_and_unwatch watch n) (Some watch ∷ Some unwatch_all ∷ [])

module _ {C F T : Type 0} (told : C → Told) (closure : Mut F (MutBor C × (CommandList × Unit {0})) ((Result (Option T) CallError) × (MutBor C × Unit {0}))) (watch : Command) where
  pub unwatched_last : (turns : ℕ) (c : C) (f : F) (v : T) (d : C) → Ends told closure watch turns c f (Ok v) d → (b : C) × Unwatches told b d
  unwatched_last turns c f v d h = (h.last.1.after_closure, h.last.1.unwatched)
