use Rattle.std.proofs.Common.{rules, refl, sym, subst, [], ◌∷◌, ◌≡◌, Some, List, Option}
use Rattle.atomic_table.specs.Table.{opening}
use Rattle.session_callers.specs.declared.board.Home.{Home}
use Rattle.session_callers.specs.Rule.{Ruled, founders}
use Rattle.session_callers.proofs.Dealing.{starts}
use Rattle.session_callers.proofs.session.seated.Goals as goal

pub new-requires : goal.new-requires
new-requires c =
    let o = c.args.origin.now in
    let home : Home = record { session = c.args.session; made = o.made; submissions = 0 } in
    let items : c.push.new.self.items ≡ Some home ∷ [] = search rules in
    subst (λ (l : List (Option Home)). Ruled (opening (0 ∷ 0 ∷ 0 ∷ []) l (founders o.config o.word o.most o.made 0 o.made))) (sym items)
    (starts o.config o.word o.most o.made home c.requires.few.0 c.requires.few.1 c.requires.few.2 c.requires.empty refl refl)
