use Rattle.std.proofs.Common.{◌≡◌, ◌∷◌, false, sym, ap, ◌∙◌}
use Rattle.link_core.specs.Link.{Starting, LinkState, started_all, started_one, holds_back, is_spent}
use Rattle.link_core.proofs.FrontLemmas.{front_on}
use Rattle.link_core.proofs.StartLemmas.{one_more, none_more, spent_on}
use Rattle.link_core.proofs.link.LinkCore.start_each.Goals as goal

pub starts-preserved : goal.starts-preserved
starts-preserved c =
    let s : Starting = record { link = c.starts.self; out = c.starts.out.items } in
    let q = c.in-Some.message in
    let qs = c.pop_front.new.self in
    let e : s.link.queue ≡ q ∷ qs = ap (λ (x : LinkState). x.queue) (sym c.self.view_is) ∙ c.in-Some.ensures in
    let free : holds_back s.link ≡ false = sym c.is_held_back.ensures ∙ c.starts-test.true in
    let seen = ap (λ (x : LinkState). started_all (started_one (record { link = record x { queue = qs }; out = s.out }) q)) c.self.view_is in
    record {
      all = ap started_all c.in-Ok.ensures.ok ∙ seen ∙ sym (one_more s q qs e free) ∙ c.starts.invariant.all;
      front = front_on c.args.out.now.items s.out _ c.start_one.new.out.items c.starts.invariant.front (ap (λ (x : Starting). x.out) c.in-Ok.ensures.ok);
    }

pub returns-in-Err-clause-spent : goal.returns-in-Err-clause-spent
returns-in-Err-clause-spent c is =
    let s : Starting = record { link = c.starts.self; out = c.starts.out.items } in
    let q = c.in-Some.message in
    let qs = c.pop_front.new.self in
    let e : s.link.queue ≡ q ∷ qs = ap (λ (x : LinkState). x.queue) (sym c.self.view_is) ∙ c.in-Some.ensures in
    let free : holds_back s.link ≡ false = sym c.is_held_back.ensures ∙ c.starts-test.true in
    let seen = ap (λ (x : LinkState). is_spent (started_one (record { link = record x { queue = qs }; out = s.out }) q).link) c.self.view_is in
    ap (λ (t : Starting). is_spent t.link) (sym c.starts.invariant.all) ∙ spent_on s q qs e free (sym seen ∙ c.in-Err.ensures.spent is)

pub returns-clause-ok : goal.returns-clause-ok
returns-clause-ok c = none_more (record { link = c.starts.self; out = c.starts.out.items }) (sym c.is_held_back.ensures ∙ c.starts-test.false) ∙ c.starts.invariant.all
