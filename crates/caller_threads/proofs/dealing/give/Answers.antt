use Rattle.std.proofs.Common.{◌≡◌, ◌++◌, ◌∷◌, [], slice_index_or, refl, sym, ◌∙◌, append-nil}
use Rattle.caller_threads.proofs.Jobs.{fed_at, unfed_at}
use Rattle.caller_threads.proofs.Results.{on_ok_map, on_err_map}
use Rattle.caller_threads.proofs.dealing.give.Goals as goal

pub returns-clause-ok : goal.returns-clause-ok
returns-clause-ok c =
    let P : Type 0 = c.push_back.new.self ≡ (slice_index_or c.args.jobs.now c.args.at c.index-jobs-at.result).lines ++ c.args.line ∷ [] in
    on_ok_map c.push_back.result P _
    (λ h. fed_at c.args.at c.args.line c.args.jobs.now _ c.index-jobs-at.result c.requires (record { caller = refl; lines = h; turns = refl; error = refl }))
    c.push_back.ensures.ok

pub returns-clause-err : goal.returns-clause-err
returns-clause-err c =
    let lines = (slice_index_or c.args.jobs.now c.args.at c.index-jobs-at.result).lines in
    let P : Type 0 = c.push_back.new.self ≡ lines in
    on_err_map c.push_back.result P _
    (λ h. unfed_at c.args.at c.args.jobs.now _ c.index-jobs-at.result c.requires (record { caller = refl; lines = h ∙ sym (append-nil lines); turns = refl; error = refl }))
    c.push_back.ensures.err
