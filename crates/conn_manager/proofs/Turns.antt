-- What turns of a manager are to its generations.
use Rattle.std.proofs.Common.{◌≡◌, ℕ, List, [], ◌∷◌, ◌++◌, refl, sym, ap, ◌∙◌}
use Rattle.containers.proofs.Choices.{either}
use Rattle.driver_model.specs.declared.outcome.Outcome.{Outcome}
use Rattle.driver_model.specs.declared.outcome.Outcome.TheVariants as outcome
use Rattle.manager_generations.specs.declared.act.ManagerAct.TheVariants as act
use Rattle.manager_generations.specs.declared.generations.Generations.{Generations}
use Rattle.manager_generations.specs.Generations.{begins_next, begun, outcomes_done}
use Rattle.manager_generations.specs.Moves.{Move, answer, shows, moved, moved_each}
use Rattle.conn_manager.specs.declared.manager.ConnectionManager.{ConnectionManager}
use Rattle.conn_manager.specs.Manager.{said, link_of, weighed, kept, closed_by, loss_answered}
use Rattle.conn_manager.specs.Turn.{applied, succeeded, resubscription_begun, handed, passed, flushed}
use Rattle.conn_manager.specs.Turns.{TurnsMoveGenerations, PassesBeginNone}
use Rattle.conn_manager.proofs.Walk.{Walks, applies, answers_loss, subscribes_again, passes_on, flushes}

-- what happens to the one makes the generations of the other
abbrev Goes : ConnectionManager → ConnectionManager → Type 0
Goes m n = (moves : List Move) × (n.generations ≡ moved_each m.generations moves)

joined : (g : Generations) (some more : List Move) → moved_each g (some ++ more) ≡ moved_each (moved_each g some) more
joined g [] more = refl
joined g (m ∷ some) more = joined (moved g m) some more

-- the same generations
alike : (m n : ConnectionManager) → n.generations ≡ m.generations → Goes m n
alike m n is = ([], is)

-- one more move
by_move : (m n : ConnectionManager) (move : Move) → n.generations ≡ moved m.generations move → Goes m n
by_move m n move is = (move ∷ [], is)

-- one after the other
onward : (m n o : ConnectionManager) → Goes m n → Goes n o → Goes m o
onward m n o first second = (
  first.0 ++ second.0,
  second.1 ∙ ap (λ (g : Generations). moved_each g second.0) first.1 ∙ sym (joined m.generations first.0 second.0),
)

weighs : (m : ConnectionManager) (o : Outcome) → Goes m (weighed m o)
weighs m (outcome.Fault e) = by_move m (weighed m (outcome.Fault e)) (answer e) refl
weighs m (outcome.One value) = alike m m refl
weighs m (outcome.Many values) = alike m m refl
weighs m outcome.Done = alike m m refl

answers : (m : ConnectionManager) (p : ℕ) (o : Outcome) → Goes m (said (kept (weighed (closed_by m p o) o) p o) (act.Answered (record { number = p })))
answers m p o =
    let first = closed_by m p o in
    let second = weighed first o in
    let third = kept second p o in
    let last = said third (act.Answered (record { number = p })) in
    onward m first last (alike m first refl) (onward first second last (weighs first o) (onward second third last (alike second third refl) (by_move third last (shows (act.Answered (record { number = p }))) refl)))

goes : Walks Goes
goes = record {
  itself = λ m. alike m m refl;
  onward = onward;
  alike = λ m n stages outcomes is. alike m n is;
  moves = λ m n move stages outcomes is. by_move m n move is;
  answers = λ m p o there. answers m p o;
  hands = λ m q there. by_move m (handed m q) (shows (act.Round (record { number = q.number }) (link_of m.generations))) refl;
}

-- the next generation begins where it does for the generations alone
succeeds : (m : ConnectionManager) → (succeeded m).generations ≡ outcomes_done m.generations
succeeds m = either (λ (n : ConnectionManager). n.generations) (begins_next m.generations) _ m (begun m.generations) m.generations (λ _. refl) (λ _. refl)

pub in_turns : TurnsMoveGenerations
in_turns m draw what =
    let first = applied m draw what in
    let second = loss_answered first in
    let moves = onward m first second (applies goes m draw what) (answers_loss goes first first.generations.phase) in
    (moves.0, succeeds second ∙ ap outcomes_done moves.1)

pub behind : PassesBeginNone
behind m draw =
    let first = resubscription_begun m in
    let second = passed first draw in
    onward m first (flushed second draw) (subscribes_again goes m) (onward first second (flushed second draw) (passes_on goes first draw) (flushes goes second draw))
