-- What the acts of a turn make of the outcomes that are kept.
use Rattle.std.proofs.Common.{◌≡◌, List, [], ◌∷◌, ◌++◌, Option, refl, ap, ◌∙◌}
use Rattle.driver_model.specs.declared.outcome.Outcome.{Outcome}
use Rattle.mux_conn.specs.declared.act.LinkAct.{LinkAct}
use Rattle.mux_conn.specs.declared.act.LinkAct.TheVariants as link_act
use Rattle.mux_client.specs.declared.act.ConnectionAct.{ConnectionAct}
use Rattle.mux_client.specs.declared.showing.Answer.{Answer}
use Rattle.mux_client.specs.Shown.{shown, shown_each, kept, kept_each, answer_in, answers_among, placed_each}

-- an act's outcome is kept
kept_in : (os : List (Option Outcome)) (a : LinkAct) (more : List Answer) → placed_each os (answer_in a ++ more) ≡ placed_each (kept os a) more
kept_in os (link_act.Outcome p o) more = refl
kept_in os _ more = refl

-- and so are those of all acts
pub kept_among : (os : List (Option Outcome)) (acts : List LinkAct) → placed_each os (answers_among acts) ≡ kept_each os acts
kept_among os [] = refl
kept_among os (a ∷ more) = kept_in os a (answers_among more) ∙ kept_among (kept os a) more

-- those of acts behind acts
pub both_kept : (os : List (Option Outcome)) (first second : List LinkAct) → kept_each os (first ++ second) ≡ kept_each (kept_each os first) second
both_kept os [] second = refl
both_kept os (a ∷ first) second = both_kept (kept os a) first second

-- and what they show
pub both_shown : (first second : List LinkAct) → shown_each (first ++ second) ≡ shown_each first ++ shown_each second
both_shown [] second = refl
both_shown (a ∷ first) second = ap (λ (more : List ConnectionAct). shown a ∷ more) (both_shown first second)
