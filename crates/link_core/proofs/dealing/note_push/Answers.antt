use Rattle.std.proofs.Common.{◌≡◌, [], ◌∷◌, ◌++◌, sym, ap, ◌∙◌}
use Rattle.resp_value.specs.View.{data_of, list_of-items_of}
use Rattle.resp_value.specs.declared.value.Value.{Value}
use Rattle.driver_model.specs.Hearing.{push_told}
use Rattle.driver_model.specs.declared.hearing.Notice.TheVariants.{Push}
use Rattle.link_core.specs.declared.message.NoticeAt.{NoticeAt}
use Rattle.link_core.specs.Dealing.{noticed_behind}
use Rattle.link_core.proofs.dealing.note_push.Goals as goal

pub returns-in_ok-note-in-Push-clause-ok : goal.returns-in_ok-note-in-Push-clause-ok
returns-in_ok-note-in-Push-clause-ok c =
    let before = c.args.notices.now.items in
    let n = c.args.settled in
    let noted : NoticeAt = record { settled = n; notice = Push (record { kind = c.in-Push.kind; parts = c.in-Push.parts }) } in
    let same : c.note.new.notices.items ≡ before ++ noted ∷ [] =
    c.in_ok-note-in-Push.ensures.ok ∙ (λ i. before ++ record { settled = n; notice = Push (record { kind = c.in_ok-kind-in-Push.ensures i; parts = c.in_ok-parts-in-Push.ensures i }) } ∷ []) in
    same ∙ (λ i. before ++ record { settled = n; notice = Push (record { kind = c.in-Push.kind; parts = sym (list_of-items_of c.in-Push.parts) i }) } ∷ [])
    ∙ sym (ap (λ (v : Value). before ++ noticed_behind n (push_told (data_of v))) c.in-Push.is)
