use Rattle.std.proofs.Common.{◌≡◌, ◌+◌, ◌++◌, [], length, length-append, drop, sym, ap, ◌∙◌, subst, arith, Ok, Err}
use Rattle.std.proofs.lemmas.List.{append-nil, drop_all}
use Rattle.resp_read.specs.Limits.{nearest_allowed, AreAllowed}
use Rattle.resp_read.specs.State.{ReaderState}
use Rattle.resp_read.specs.Reads.{ReadsEachWithin, IsProperPrefixWithin}
use Rattle.resp_read.specs.Reading.{joined, Pumps}
use Rattle.resp_read.specs.declared.limits.Limits.{Limits}
use Rattle.resp_read.proofs.PieceLaws.{joined_from, nothing_waits, one_piece_more, stops_at, AreRead}
use Rattle.resp_read.proofs.reader.Reader.from_pieces.Goals as goal

pub loop-piece-init : goal.loop-piece-init
loop-piece-init g c =
    let near = nearest_allowed c.args.limits in
    let allowed : AreAllowed near = subst AreAllowed c.nearest_allowed-within.ensures.nearest c.nearest_allowed-within.ensures.allowed in
    let all = joined c.args.pieces.now in
    record {
      sound = ap (λ (r : ReaderState). r.health) c.within-reader.ensures;
      limits = ap (λ (r : ReaderState). r.limits) c.within-reader.ensures ∙ c.nearest_allowed-within.ensures.nearest;
      reads = ([], sym (append-nil c.args.out.now.items), ap (λ (r : ReaderState). r.rest ++ all) (sym c.within-reader.ensures));
      waits = subst (λ (r : ReaderState). IsProperPrefixWithin near r.rest) (sym c.within-reader.ensures) (nothing_waits near allowed);
      costs = let none = ap (λ (r : ReaderState). length r.rest) c.within-reader.ensures in omega (arith, none);
    }

pub returns-in-Err-clause-reads : goal.returns-in-Err-clause-reads
returns-in-Err-clause-reads g c =
    let near = nearest_allowed c.args.limits in
    let allowed : AreAllowed near = subst AreAllowed c.nearest_allowed-within.ensures.nearest c.nearest_allowed-within.ensures.allowed in
    let pieces = c.args.pieces.now in
    let k = c.loop-piece.piece-index in
    let r = c.loop-piece.reader in
    let item = c.piece-item.result in
    let more = joined (drop (k + 1) pieces) in
    let mid = c.loop-piece.out.items in
    let after = c.pump.new.out.items in
    let new = c.pump.new.self in
    let e = c.in-Err.error in
    let next = joined_from pieces k item c.loop-piece-test.true c.piece-item.is in
    let h : AreRead near (joined pieces) c.args.out.now.items mid (r.rest ++ (item ++ more)) = subst (λ x. AreRead near (joined pieces) c.args.out.now.items mid (r.rest ++ x)) next c.loop-piece.invariant.reads in
    let p : Pumps {U = Unit {0}} near (r.rest ++ item) mid (Err e) new after = subst (λ (l : Limits). Pumps {U = Unit {0}} l (r.rest ++ item) mid (Err e) new after) c.loop-piece.invariant.limits (
    subst (λ x. Pumps {U = Unit {0}} r.limits (r.rest ++ x) mid (Err e) new after) c.as_slice.ensures (c.in-Err.ensures.pumps c.loop-piece.invariant.sound)) in
    stops_at near allowed (Unit {0}) (joined pieces) r.rest item more c.args.out.now.items mid after e new h p

pub loop-piece-preserved : goal.loop-piece-preserved
loop-piece-preserved g c =
    let near = nearest_allowed c.args.limits in
    let allowed : AreAllowed near = subst AreAllowed c.nearest_allowed-within.ensures.nearest c.nearest_allowed-within.ensures.allowed in
    let pieces = c.args.pieces.now in
    let k = c.loop-piece.piece-index in
    let r = c.loop-piece.reader in
    let item = c.piece-item.result in
    let more = joined (drop (k + 1) pieces) in
    let mid = c.loop-piece.out.items in
    let after = c.pump.new.out.items in
    let new = c.pump.new.self in
    let next = joined_from pieces k item c.loop-piece-test.true c.piece-item.is in
    let h : AreRead near (joined pieces) c.args.out.now.items mid (r.rest ++ (item ++ more)) = subst (λ x. AreRead near (joined pieces) c.args.out.now.items mid (r.rest ++ x)) next c.loop-piece.invariant.reads in
    let p : Pumps {U = Unit {0}} near (r.rest ++ item) mid (Ok tt) new after = subst (λ (l : Limits). Pumps {U = Unit {0}} l (r.rest ++ item) mid (Ok tt) new after) c.loop-piece.invariant.limits (
    subst (λ x. Pumps {U = Unit {0}} r.limits (r.rest ++ x) mid (Ok tt) new after) c.as_slice.ensures (c.in-Ok.ensures.pumps c.loop-piece.invariant.sound)) in
    record {
      sound = p.2;
      limits = p.3;
      reads = one_piece_more near allowed (joined pieces) r.rest item more new.rest c.args.out.now.items mid after p.0.0 h p.0.1 p.0.2;
      waits = p.1;
      costs =
          let before = c.loop-piece.invariant.costs in
          let costs = c.in-Ok.ensures.costs in
          let size = ap length next ∙ length-append item more in
          let same = ap length c.as_slice.ensures in
          omega (arith, before, costs, size, same);
    }

pub returns-clause-reads : goal.returns-clause-reads
returns-clause-reads g c =
    let near = nearest_allowed c.args.limits in
    let pieces = c.args.pieces.now in
    let k = c.loop-piece.piece-index in
    let r = c.loop-piece.reader in
    let so_far = c.loop-piece.invariant.reads in
    let none : joined (drop k pieces) ≡ [] = ap joined (drop_all k pieces (omega (arith, c.loop-piece-test.false))) in
    let all : r.rest ++ joined (drop k pieces) ≡ r.rest = ap (λ x. r.rest ++ x) none ∙ append-nil r.rest in (
      (so_far.0, so_far.1, subst (ReadsEachWithin near (joined pieces) so_far.0) all so_far.2),
      c.loop-piece.invariant.waits,
      c.loop-piece.invariant.sound,
      c.loop-piece.invariant.limits,
    )
