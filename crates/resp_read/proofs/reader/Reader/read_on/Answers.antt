use Rattle.std.proofs.Common.{inr, sym, ap, ◌∙◌, subst}
use Rattle.resp_value.specs.View.{data_of}
use Rattle.resp_read.specs.Parser.{read}
use Rattle.resp_read.specs.State.{ReaderState}
use Rattle.resp_read.specs.declared.reader.Health.TheVariants.{Malformed}
use Rattle.resp_read.specs.Limits.{bounds, reading, AreAllowed}
use Rattle.resp_read.proofs.GrammarLaws.{read_where_found}
use Rattle.resp_read.proofs.WithinLaws.{prefix_from_short, malformed_from_bad}
use Rattle.resp_read.proofs.reader.Reader.read_on.Goals as goal

pub returns-in-Ok-clause-found : goal.returns-in-Ok-clause-found
returns-in-Ok-clause-found g c =
    let now = c.args.self.now in
    let v = data_of c.in-Ok.value in
    read_where_found (bounds now.limits) now.limits.depth now.rest v _ (
    ap (λ (p : ReaderState). reading p.limits p.limits.depth p.rest) (sym c.self.view_is)
    ∙ c.in-Ok.ensures.reads.1
    ∙ ap (λ (p : ReaderState). read v p.rest) (sym c.give_room_back.ensures)
    )

pub returns-in-Ok-clause-value : goal.returns-in-Ok-clause-value
returns-in-Ok-clause-value g c = (
  c.requires.sound,
  returns-in-Ok-clause-found g c,
  ap (λ (p : ReaderState). p.health) c.give_room_back.ensures ∙ ap (λ (p : ReaderState). p.health) c.self.view_is ∙ c.requires.sound,
  ap (λ (p : ReaderState). p.limits) c.give_room_back.ensures ∙ ap (λ (p : ReaderState). p.limits) c.self.view_is,
)

pub returns-in-Err-Short-clause-found : goal.returns-in-Err-Short-clause-found
returns-in-Err-Short-clause-found g c =
    let now = c.args.self.now in
    let allowed : AreAllowed now.limits = subst (λ (p : ReaderState). AreAllowed p.limits) c.self.view_is c.self.invariant.allowed in
    let h = rw c.in-Err-Short.field-0-is at c.in-Err-Short.ensures.reads in
    prefix_from_short now.limits allowed now.rest (ap (λ (p : ReaderState). reading p.limits p.limits.depth p.rest) (sym c.self.view_is) ∙ h.2)

pub returns-in-Err-Short-clause-value : goal.returns-in-Err-Short-clause-value
returns-in-Err-Short-clause-value g c =
    let r = c.self.inside in
    let h = rw c.in-Err-Short.field-0-is at c.in-Err-Short.ensures.reads in
    (c.requires.sound, returns-in-Err-Short-clause-found g c, (λ j. record { health = r.health; rest = h.1 j; seen = r.seen; limits = r.limits }) ∙ c.self.view_is)

pub returns-in-Err-Bad-clause-found : goal.returns-in-Err-Bad-clause-found
returns-in-Err-Bad-clause-found g c = λ sound.
    let now = c.args.self.now in
    let allowed : AreAllowed now.limits = subst (λ (p : ReaderState). AreAllowed p.limits) c.self.view_is c.self.invariant.allowed in
    let h = rw c.in-Err-Bad.field-0-is at c.in-Err-Bad.ensures.reads in
    malformed_from_bad now.limits allowed now.rest (ap (λ (p : ReaderState). reading p.limits p.limits.depth p.rest) (sym c.self.view_is) ∙ h.1)

pub returns-in-Err-Bad-clause-value : goal.returns-in-Err-Bad-clause-value
returns-in-Err-Bad-clause-value g c =
    let r = c.self.inside in
    let h = rw c.in-Err-Bad.field-0-is at c.in-Err-Bad.ensures.reads in (
      inr (c.requires.sound, returns-in-Err-Bad-clause-found g c c.requires.sound),
      (λ j. record { health = Malformed; rest = h.0 j; seen = r.seen; limits = r.limits }) ∙ ap (λ (p : ReaderState). record p { health = Malformed }) c.self.view_is,
    )
