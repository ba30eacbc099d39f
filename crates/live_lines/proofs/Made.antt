-- The callers that are made with a live run's session.
use Rattle.std.proofs.Common.{◌≡◌, ℕ, List, length, refl, sym, ap, ◌∙◌, subst}
use Rattle.atomic_table.specs.Seated.{TableId}
use Rattle.driver_model.specs.declared.config.Config.{Config}
use Rattle.session_callers.specs.Calls.{Known, founders_at}
use Rattle.session_callers.specs.Rule.{Each}
use Rattle.session_callers.proofs.Dealing.{each_founder, founders_count}
use Rattle.live_lines.specs.Flights.{IsBare}

module _ (z : TableId) (config : Config) (word made : ℕ) (cs : List Known) (are : cs ≡ founders_at z config word made 0 made) where
  pub made_bare : Each (IsBare config word) cs
  made_bare = subst (Each (IsBare config word)) (sym are) (each_founder (IsBare config word) z config word made (λ m. (refl, refl, refl, (refl, refl))) 0 made)

  pub made_most : Each (λ (c : Known). c.view.most ≡ made) cs
  made_most = subst (Each (λ (c : Known). c.view.most ≡ made)) (sym are) (each_founder (λ (c : Known). c.view.most ≡ made) z config word made (λ m. refl) 0 made)

  pub made_count : length cs ≡ made
  made_count = ap length are ∙ founders_count z config word made 0 made
