use Rattle.std.proofs.Common.{◌≡◌, [], length, refl, sym, ap, ◌∙◌, subst, arith}
use Rattle.std.proofs.lemmas.List.{append-nil}
use Rattle.resp_read.specs.State.{ReaderState}
use Rattle.resp_read.specs.Limits.{reading, AreAllowed}
use Rattle.resp_read.specs.Courses.{rest_of}
use Rattle.resp_read.specs.Reads.{ReadsEachWithin, IsProperPrefixWithin}
use Rattle.resp_read.specs.declared.limits.Limits.{Limits}
use Rattle.resp_read.proofs.WithinLaws.{prefix_from_short, malformed_from_bad}
use Rattle.resp_read.proofs.ReaderLaws.{reads_each, taken_back}
use Rattle.resp_read.proofs.reader.Reader.read_all.Goals as goal

pub returns-in-Ok-clause-pumps : goal.returns-in-Ok-clause-pumps
returns-in-Ok-clause-pumps g c =
    let r = c.self.inside in
    let now = c.args.self.now in
    let all = c.in-Ok.ensures.appends in
    let left = rest_of c.next_all.new.self in
    let given = sym c.give_room_back.ensures in
    let limits_is : r.limits ≡ now.limits = ap (λ (p : ReaderState). p.limits) c.self.view_is in
    let each : ReadsEachWithin now.limits now.rest all.0 left = subst (λ (p : ReaderState). ReadsEachWithin p.limits p.rest all.0 left) c.self.view_is (reads_each r.limits (rest_of r.course) all.0 left all.2) in
    let prefix : IsProperPrefixWithin now.limits left = subst (λ (limits : Limits). IsProperPrefixWithin limits left) limits_is (prefix_from_short r.limits c.self.invariant.allowed left all.4) in (
      (all.0, all.1, subst (λ (p : ReaderState). ReadsEachWithin now.limits now.rest all.0 p.rest) given each),
      subst (λ (p : ReaderState). IsProperPrefixWithin now.limits p.rest) given prefix,
      ap (λ (p : ReaderState). p.health) c.give_room_back.ensures ∙ ap (λ (p : ReaderState). p.health) c.self.view_is ∙ c.requires,
      ap (λ (p : ReaderState). p.limits) c.give_room_back.ensures ∙ limits_is,
    )

pub returns-in-Err-Bad-clause-pumps : goal.returns-in-Err-Bad-clause-pumps
returns-in-Err-Bad-clause-pumps g c =
    let r = c.self.inside in
    let now = c.args.self.now in
    let all = rw c.in-Err-Bad.field-0-is at c.in-Err-Bad.ensures.appends in
    let left = rest_of c.next_all.new.self in
    let limits_is : r.limits ≡ now.limits = ap (λ (p : ReaderState). p.limits) c.self.view_is in
    let allowed : AreAllowed now.limits = subst AreAllowed limits_is c.self.invariant.allowed in (
      (all.0, all.1, subst (λ (p : ReaderState). ReadsEachWithin p.limits p.rest all.0 left) c.self.view_is (reads_each r.limits (rest_of r.course) all.0 left all.2)),
      malformed_from_bad now.limits allowed left (ap (λ (limits : Limits). reading limits limits.depth left) (sym limits_is) ∙ all.3),
      refl,
      limits_is,
    )

pub returns-in-Err-NoMemory-clause-pumps : goal.returns-in-Err-NoMemory-clause-pumps
returns-in-Err-NoMemory-clause-pumps g c =
    let all = rw c.in-Err-NoMemory.field-0-is at c.in-Err-NoMemory.ensures.appends in
    let before = c.args.out.now.items in
    let counted : c.len-before.result ≡ length before = (let o = c.args.out.now.ok in let t = c.len-before.ensures in omega (arith, o, t)) in
    let same = taken_back before all.0 c.next_all.new.out.items c.truncate.new.self.items c.len-before.result all.2 counted c.truncate.ensures.items in (
      ([], c.args.self.now.rest, same ∙ sym (append-nil before), refl),
      refl,
      ap (λ (p : ReaderState). p.limits) c.self.view_is,
    )

pub returns-in-Err-NoMemory-clause-memory : goal.returns-in-Err-NoMemory-clause-memory
returns-in-Err-NoMemory-clause-memory g c =
    let all = rw c.in-Err-NoMemory.field-0-is at c.in-Err-NoMemory.ensures.appends in
    let counted : c.len-before.result ≡ length c.args.out.now.items = (let o = c.args.out.now.ok in let t = c.len-before.ensures in omega (arith, o, t)) in
    λ _. taken_back c.args.out.now.items all.0 c.next_all.new.out.items c.truncate.new.self.items c.len-before.result all.2 counted c.truncate.ensures.items
