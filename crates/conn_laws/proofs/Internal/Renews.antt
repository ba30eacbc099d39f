-- AUTH with new credentials, behind its timer: what it is among the messages that started.
use Rattle.std.proofs.Common.{List, Some, [], ap, arith, false, inl, inr, length, refl, sym, true, ℕ, ◌+◌, ◌++◌, ◌≤◌, ◌∙◌, ◌∷◌, ◌≡◌}
use Rattle.std.proofs.lemmas.List.{append-nil}
use Rattle.std.specs.Prelude.{slice_get}
use Rattle.containers.proofs.Choices.{not_both, taken_if}
use Rattle.containers.proofs.Places.{get_within}
use Rattle.driver_model.specs.declared.action.Owner.TheVariants as owner
use Rattle.link_core.specs.Link.{LinkState, entry_of}
use Rattle.link_core.specs.declared.message.Entry.{Entry}
use Rattle.link_core.specs.declared.message.Queued.{Queued}
use Rattle.link_laws.proofs.Once.{wanted-append}
use Rattle.link_laws.specs.Settles.{wanted}
use Rattle.mux_conn.specs.Renewals.{renewal_id}
use Rattle.mux_conn.specs.declared.life.Life.TheVariants.{Ready}
use Rattle.mux_conn.specs.declared.renewal.Renewal.{Renewal}
use Rattle.mux_conn.specs.declared.request.Request.{Request}
use Rattle.legal_trace.specs.Ledger.{Ledger, Start, begins, is_of_setup, noted, setup_count}
use Rattle.legal_trace.specs.Story.{Story}
use Rattle.legal_trace.proofs.Setups.{count_more}
use Rattle.conn_laws.proofs.Ties.Names.{get_more, owner_of_auth}
use Rattle.conn_laws.proofs.Ties.Numbers.{in_left, requests_behind, requests_in, requests_in-append, is_own}
use Rattle.conn_laws.proofs.Requests.Start.{owners-append, owners_each-append, owners_length, setup_owners-append}
use Rattle.conn_laws.proofs.Ties.States.{IsFit}
use Rattle.conn_laws.proofs.Links.Server.{AreRenewed, setup_owners, timed_of}
use Rattle.conn_laws.proofs.Ties.Tied.{TiedTries, owner_of, owners_each}
use Rattle.driver_model.specs.Hearing.{is_watching}

-- two links of one life
pub one_link : (link other : LinkState) → Ready link ≡ Ready other → link ≡ other
one_link link other e = cc

-- one that is fit has the boundary of its connection
pub bound_fit : (size bound : ℕ) (link : LinkState) → IsFit size bound link → (x : LinkState) → Ready link ≡ Ready x → x.boundary ≡ bound
bound_fit size bound link fit x e = ap (λ (y : LinkState). y.boundary) (sym (one_link link x e)) ∙ fit.bound_is

-- their timer
--
-- where the time is set, as many timers were asked for as new credentials were to be told
pub timed_is_asked : (l : Ledger) (r : Renewal) (ms : ℕ) → r.within ≡ Some ms → AreRenewed l r → l.creds.timed ≡ r.asked
timed_is_asked l r ms e h = h.timed_is ∙ ap (λ o. timed_of o r.asked) e

-- AUTH
--
-- and is AUTH's
pub auth_owner : (requests : List Request) → owner_of requests renewal_id ≡ owner.Auth
auth_owner requests = owner_of_auth requests renewal_id refl

-- one more of the started, of this number, which is none of a request, nor of the setup
pub tries_told : (l : Ledger) (story : ℕ → Story) (requests : List Request) (link : ℕ) (started : List ℕ) (s : Start) (id : ℕ) → length requests ≤ id → is_of_setup s.owner ≡ false → s.owner ≡ owner_of requests id → is_watching l.hearing ≡ false → TiedTries l story requests link started
    → TiedTries (noted l (begins s)) story requests link (started ++ id ∷ [])
tries_told l story requests link started s id few other own plain h =
    let c = setup_count l.starts in
    let same : setup_count (l.starts ++ s ∷ []) ≡ c = count_more l.starts s other in
    record {
      greeted = λ w. absurd (not_both (is_watching l.hearing) plain w);
      owners = λ same_plain. owners-append l.starts (s ∷ []) ∙ (λ i. h.owners plain i ++ own i ∷ []) ∙ setup_owners-append c (owners_each requests started) (owner_of requests id ∷ [])
          ∙ (λ i. setup_owners (sym same i) (sym (owners_each-append requests started (id ∷ [])) i));
      shapes = λ j m x inside i e. elim (get_more started id j m i) [
        | inl a ↦ elim (get_more l.starts s (c + j) x (ap (λ y. slice_get (l.starts ++ s ∷ []) (y + j)) (sym same) ∙ e)) [
          | inl d ↦ h.shapes j m x inside a d
          | inr d ↦ absurd (past j m a d.0)
        ]
        | inr a ↦ absurd (let k = a.1 in omega (arith, k, inside, few))
      ];
      tried = λ j m inside i. elim (get_more started id j m i) [
        | inl a ↦ h.tried j m inside a ∙ ap (λ y. record { link = link; message = y + j } ∷ []) (sym same)
        | inr a ↦ absurd (let k = a.1 in omega (arith, k, inside, few))
      ];
      untried = λ m r i out on. h.untried m r i (λ j. out (in_left m started (id ∷ []) j)) on;
    }
  where
    past : (j m : ℕ) → slice_get started j ≡ Some m → setup_count l.starts + j ≡ length l.starts → ⊥
    past j m a e = let w = get_within started j m a in let long = owners_length l.starts requests started (setup_count l.starts) (h.owners plain) in omega arith

-- an entry of the driver's own is no request's
pub wanted_told : (row : List Entry) (q : Queued) → is_own q.id ≡ true → q.awaited ≡ true → requests_in (wanted (row ++ entry_of q ∷ [])) ≡ requests_in (wanted row)
wanted_told row q own awaited =
    ap requests_in (wanted-append row (entry_of q ∷ [])) ∙ ap (λ ns. requests_in (wanted row ++ (ns ++ []))) (taken_if q.awaited (q.id ∷ []) [] awaited)
    ∙ requests_in-append (wanted row) (q.id ∷ []) ∙ ap (λ ns. requests_in (wanted row) ++ ns) (requests_behind q.id [] own) ∙ append-nil (requests_in (wanted row))
