-- One address without a URL refuses them all.
use Rattle.std.proofs.Common.{◌≡◌, ℕ, ◌+◌, ◌<◌, List, [], ◌∷◌, ◌++◌, map, take, length, get_or, Result, Ok, Err, IfErr, IsErrAnd, sym, ap, subst, ◌∙◌}
use Rattle.std.proofs.lemmas.List.{map-append, take_more}
use Rattle.std.proofs.lemmas.List.Elements.{All-get_or}
use Rattle.redis_error.specs.declared.config_name.ConfigName.TheVariants as name
use Rattle.connection_info.specs.declared.address.ConnectionInfo.{ConnectionInfo}
use Rattle.connection_info.specs.declared.open_error.OpenError.{OpenError}
use Rattle.connection_info.specs.declared.open_error.OpenError.TheVariants as error
use Rattle.connection_info.specs.Refusal.{RefusesUrl}
use Rattle.connection_info.specs.Written.{url_of, ReadsBack}
use Rattle.cluster_client.specs.Settings.{ReadBack, RefusesMaking}

pub refused_among : (nodes : List ConnectionInfo) (i : ℕ) (node : ConnectionInfo) (e : OpenError) → i < length nodes → node ≡ get_or nodes i node → RefusesUrl (ReadsBack node → ⊥) e → RefusesMaking nodes e
unfolding ReadBack
refused_among nodes i node (error.Config name.Url) within is (same, reason) =
    λ back. reason (subst ReadsBack (sym is) (All-get_or ReadsBack nodes i node within back))
refused_among nodes i node (error.Config other) within is (same, reason) = cc
refused_among nodes i node error.Client within is h = absurd h
refused_among nodes i node error.NoMemory within is h = tt

-- what is refused with an error that is handed on
pub passed_on : {T : Type 0} (r : Result T OpenError) (e : OpenError) (P : OpenError → Type 0) → IsErrAnd r (λ y. y ≡ e) → P e → IfErr r P
passed_on (Ok x) e P same p = tt
passed_on (Err y) e P same p = subst P (sym same) p

-- one more URL is written
pub texts_more : (nodes : List ConnectionInfo) (i : ℕ) (node : ConnectionInfo) (texts new : List (List ℕ)) (text : List ℕ)
    → i < length nodes → node ≡ get_or nodes i node → texts ≡ map url_of (take i nodes) → text ≡ url_of node → new ≡ texts ++ text ∷ [] → new ≡ map url_of (take (i + 1) nodes)
texts_more nodes i node texts new text within is before same after =
    after
    ∙ ap (λ (ts : List (List ℕ)). ts ++ text ∷ []) before
    ∙ ap (λ (t : List ℕ). map url_of (take i nodes) ++ t ∷ []) (same ∙ ap url_of is)
    ∙ sym (map-append url_of (take i nodes) (get_or nodes i node ∷ []))
    ∙ sym (ap (λ (ns : List ConnectionInfo). map url_of ns) (take_more nodes i node within))
