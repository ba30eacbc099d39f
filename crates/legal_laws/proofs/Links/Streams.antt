-- The bytes that a link takes and is offered are the first of its messages.
use Rattle.std.proofs.Common.{◌≡◌, ℕ, true, ◌&&◌, List, [], ◌∷◌, ◌++◌, length, take, drop, refl, sym, ◌∙◌, ap, subst, append_assoc}
use Rattle.std.proofs.lemmas.List.{append-nil, take-append-drop}
use Rattle.std.proofs.Math.Seq.{drop-append_seam}
use Rattle.containers.proofs.Choices.{chosen}
use Rattle.redis_error.specs.declared.redis_error.RedisError.TheVariants as error
use Rattle.driver_model.specs.News.{News, silence, connected, refused, overdue, took, came, failed, dropped, shut, authorized, denied, deserted, renewed, unrenewed, late, unrepeated}
use Rattle.legal_trace.specs.Ledger.{Ledger, Line, asks, hears, begins, offers, tells, ends, parts, blank_ledger, noted, noted_each, with_news, refused_in, bytes_came, is_over, dials, joined, stream, MayNote, AllNoted, LinkLegal, sources, awaits_credentials, authorized_by, times, may_renew, renewed_by, unrenewed_by, is_renewal_open, lost_by, is_repeating, unrepeated_by, repeats_timed}
use Rattle.legal_trace.proofs.Ledgers.{joined_more}
use Rattle.legal_trace.proofs.Came.{holds_bytes}
use Rattle.legal_laws.specs.Links.{IsPrefix, TakesInOrder}

-- of one ledger
abbrev pub InOrder : Ledger → Type 0
InOrder l = IsPrefix (stream l) (joined l.starts)

-- the part that is taken of what is offered
pub prefix_taken : (taken offer whole : List ℕ) (count : ℕ) → IsPrefix (taken ++ offer) whole → IsPrefix ((taken ++ take count offer) ++ []) whole
prefix_taken taken offer whole count h = record {
  rest = drop count offer ++ h.rest;
  joins = ap (λ x. x ++ (drop count offer ++ h.rest)) (append-nil (taken ++ take count offer))
      ∙ (append_assoc taken (take count offer) (drop count offer ++ h.rest)
      ∙ (ap (λ x. taken ++ x) (sym (append_assoc (take count offer) (drop count offer) h.rest) ∙ ap (λ x. x ++ h.rest) (take-append-drop count offer))
      ∙ (sym (append_assoc taken offer h.rest) ∙ h.joins)));
}

-- all that is not taken is offered
pub prefix_offered : (taken offer whole : List ℕ) → IsPrefix (taken ++ offer) whole → IsPrefix (taken ++ drop (length taken) whole) whole
prefix_offered taken offer whole h =
    let e : taken ++ (offer ++ h.rest) ≡ whole = sym (append_assoc taken offer h.rest) ∙ h.joins in
    let d : drop (length taken) whole ≡ offer ++ h.rest = ap (drop (length taken)) (sym e) ∙ drop-append_seam taken (offer ++ h.rest) in
    record { rest = []; joins = append-nil (taken ++ drop (length taken) whole) ∙ (ap (λ x. taken ++ x) d ∙ e) }

-- more is behind
pub prefix_more : (front whole more : List ℕ) → IsPrefix front whole → IsPrefix front (whole ++ more)
prefix_more front whole more h = record { rest = h.rest ++ more; joins = sym (append_assoc front h.rest more) ∙ ap (λ x. x ++ more) h.joins }

-- news keeps the order
hears_in_order : (l : Ledger) (turn : ℕ) (news : News) → InOrder l → InOrder (with_news l turn news)
hears_in_order l turn silence h = h
hears_in_order l turn connected h = chosen InOrder (is_over l) l (record l { up = true }) (λ t. h) (λ e. h)
hears_in_order l turn (refused f) h = chosen InOrder (dials l) (refused_in l turn (error.Io f)) l (λ t. h) (λ e. h)
hears_in_order l turn overdue h = h
hears_in_order l turn (took count) h = chosen InOrder l.up (record l { taken = l.taken ++ take count l.offer; offer = [] }) l (λ t. prefix_taken l.taken l.offer (joined l.starts) count h) (λ e. h)
hears_in_order l turn (came piece) h = chosen InOrder l.up (bytes_came l piece) l (λ t. holds_bytes InOrder l piece (λ rest strange told more. h)) (λ e. h)
hears_in_order l turn (failed f) h = h
hears_in_order l turn (authorized c) h = chosen InOrder (awaits_credentials l) (authorized_by l c) l (λ t. h) (λ e. h)
hears_in_order l turn (denied text) h = h
hears_in_order l turn deserted h = h
hears_in_order l turn (renewed c) h = chosen InOrder (may_renew l) (renewed_by l c) l (λ t. h) (λ e. h)
hears_in_order l turn unrenewed h = chosen InOrder l.up (unrenewed_by l) l (λ t. h) (λ e. h)
hears_in_order l turn (late k) h = chosen InOrder (l.up && is_renewal_open l k) (lost_by l) l (λ t. h) (λ e. h)
hears_in_order l turn unrepeated h = chosen InOrder (is_repeating l) (unrepeated_by l) l (λ t. h) (λ e. h)
hears_in_order l turn dropped h = h
hears_in_order l turn shut h = h

-- so does a line that may stand
noted_in_order : (l : Ledger) (x : Line) → MayNote l x → InOrder l → InOrder (noted l x)
noted_in_order l (asks info wanted hearing last again) may h = h
noted_in_order l (hears turn news) may h = hears_in_order l turn news h
noted_in_order l (begins s) may h = subst (IsPrefix (stream l)) (sym (joined_more l.starts s)) (prefix_more (stream l) (joined l.starts) s.bytes h)
noted_in_order l (offers bytes) may h = subst (λ x. IsPrefix (l.taken ++ x) (joined l.starts)) (sym may.2) (prefix_offered l.taken l.offer (joined l.starts) h)
noted_in_order l tells may h = h
noted_in_order l (ends turn) may h = h
noted_in_order l sources may h = h
noted_in_order l times may h = h
noted_in_order l repeats_timed may h = h
noted_in_order l parts may h = h

-- so do many
each_in_order : (l : Ledger) (lines : List Line) → AllNoted l lines → InOrder l → InOrder (noted_each l lines)
each_in_order l [] all h = h
each_in_order l (x ∷ more) all h = each_in_order (noted l x) more all.1 (noted_in_order l x all.0 h)

-- whatever is told of a link
pub takes_in_order : (lines : List Line) → LinkLegal lines → TakesInOrder lines
takes_in_order lines legal = each_in_order blank_ledger lines legal (record { rest = []; joins = refl })
