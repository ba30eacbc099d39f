use Rattle.std.proofs.Common.{◌≡◌, ◌∷◌, true, sym, ap, ◌∙◌}
use Rattle.link_core.specs.Link.{Starting, LinkState, started_to, started_one, is_spent}
use Rattle.link_core.proofs.FrontLemmas.{front_on}
use Rattle.link_core.proofs.BoundLemmas.{goes, one_more_to, none_more_to, spent_on_to}
use Rattle.link_core.proofs.link.LinkCore.start_each_to.Goals as goal

pub starts-preserved : goal.starts-preserved
starts-preserved c =
    let last = c.args.last in
    let s : Starting = record { link = c.starts.self; out = c.starts.out.items } in
    let q = c.in-Some.message in
    let qs = c.pop_front.new.self in
    let e : s.link.queue ≡ q ∷ qs = ap (λ (x : LinkState). x.queue) (sym c.self.view_is) ∙ c.in-Some.ensures in
    let free : goes last s.link ≡ true = sym c.goes_to.ensures ∙ c.starts-test.true in
    let seen = ap (λ (x : LinkState). started_to last (started_one (record { link = record x { queue = qs }; out = s.out }) q)) c.self.view_is in
    record {
      all = ap (started_to last) c.in-Ok.ensures.ok ∙ seen ∙ sym (one_more_to last s q qs e free) ∙ c.starts.invariant.all;
      front = front_on c.args.out.now.items s.out _ c.start_one.new.out.items c.starts.invariant.front (ap (λ (x : Starting). x.out) c.in-Ok.ensures.ok);
    }

pub returns-in-Err-clause-spent : goal.returns-in-Err-clause-spent
returns-in-Err-clause-spent c is =
    let last = c.args.last in
    let s : Starting = record { link = c.starts.self; out = c.starts.out.items } in
    let q = c.in-Some.message in
    let qs = c.pop_front.new.self in
    let e : s.link.queue ≡ q ∷ qs = ap (λ (x : LinkState). x.queue) (sym c.self.view_is) ∙ c.in-Some.ensures in
    let free : goes last s.link ≡ true = sym c.goes_to.ensures ∙ c.starts-test.true in
    let seen = ap (λ (x : LinkState). is_spent (started_one (record { link = record x { queue = qs }; out = s.out }) q).link) c.self.view_is in
    ap (λ (t : Starting). is_spent t.link) (sym c.starts.invariant.all) ∙ spent_on_to last s q qs e free (sym seen ∙ c.in-Err.ensures.spent is)

pub returns-clause-ok : goal.returns-clause-ok
returns-clause-ok c = none_more_to c.args.last (record { link = c.starts.self; out = c.starts.out.items }) (sym c.goes_to.ensures ∙ c.starts-test.false) ∙ c.starts.invariant.all
