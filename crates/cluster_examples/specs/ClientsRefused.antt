-- What of a cluster's client is refused first.
use Rattle.std.specs.Prelude.{◌≡◌, ℕ, pos, true, List, [], ◌∷◌, map, codes, Option, Some, None}
use Rattle.redis_error.specs.declared.config_name.ConfigName.{ConfigName}
use Rattle.redis_error.specs.declared.config_name.ConfigName.TheVariants as name
use Rattle.connection_info.specs.declared.address.ConnectionInfo.{ConnectionInfo}
use Rattle.connection_info.specs.declared.protocol.ProtocolVersion.TheVariants.{RESP2, RESP3}
use Rattle.cluster_client.specs.declared.params.ClusterParams.{ClusterParams}
use Rattle.cluster_client.specs.Checks.{first_cluster_fault}
use Rattle.cluster_examples.specs.ClientNodes.{saying, plain, at, newer, named, unset, with_password, with_user, with_protocol, with_database, with_limit}

-- nodes and settings, and the fault that is told
pub record Case : Type 0 where
  pub nodes : List ConnectionInfo
  pub params : ClusterParams
  pub told : Option ConfigName

-- each of these cases comes to its fault
abbrev pub ComeTo : List Case → Type 0
ComeTo cases = map (λ (case : Case). first_cluster_fault (Some case.nodes) case.params) cases ≡ map (λ (case : Case). case.told) cases

abbrev pub case_of : List ConnectionInfo → ClusterParams → Option ConfigName → Case
case_of nodes params told = record { nodes = nodes; params = params; told = told }

-- nothing is refused
abbrev pub taken : List Case
taken =
    case_of (plain ∷ []) unset None
    ∷ case_of (at 4 ∷ at 4 ∷ at 4 ∷ []) unset None
    ∷ case_of (at 4 ∷ at 4 ∷ at 4 ∷ []) (with_database 4) None
    ∷ case_of (at 4 ∷ plain ∷ []) unset None
    ∷ case_of (named (codes "u") (codes "p") ∷ named (codes "u") (codes "p") ∷ []) unset None
    ∷ case_of (named (codes "u") (codes "p") ∷ named (codes "u") (codes "q") ∷ []) with_password None
    ∷ case_of (named (codes "u") (codes "p") ∷ named (codes "v") (codes "p") ∷ []) with_user None
    ∷ case_of (plain ∷ named (codes "u") (codes "p") ∷ []) unset None
    ∷ case_of (plain ∷ newer ∷ []) (with_protocol RESP2) None
    ∷ case_of (newer ∷ newer ∷ []) (record unset { push_sender = true }) None
    ∷ case_of (plain ∷ []) (record (with_protocol RESP3) { push_sender = true }) None
    ∷ case_of (plain ∷ []) (with_limit 1) None
    ∷ []

-- one check fails
abbrev pub refused : List Case
refused =
    case_of [] unset (Some name.Nodes)
    ∷ case_of (named (codes "u") (codes "p") ∷ named (codes "u") (codes "q") ∷ []) unset (Some name.Password)
    ∷ case_of (named (codes "u") (codes "p") ∷ saying (Some (codes "u")) None RESP2 (pos 0) ∷ []) unset (Some name.Password)
    ∷ case_of (named (codes "u") (codes "p") ∷ named (codes "v") (codes "p") ∷ []) unset (Some name.User)
    ∷ case_of (plain ∷ newer ∷ []) unset (Some name.Protocol)
    ∷ case_of (newer ∷ plain ∷ []) unset (Some name.Protocol)
    ∷ case_of (plain ∷ at 4 ∷ []) unset (Some name.Database)
    ∷ case_of (at 4 ∷ at 5 ∷ []) unset (Some name.Database)
    ∷ case_of (at 4 ∷ at 4 ∷ at 4 ∷ []) (with_database 0) (Some name.Database)
    ∷ case_of (plain ∷ []) (record unset { push_sender = true }) (Some name.Push)
    ∷ case_of (newer ∷ []) (record (with_protocol RESP2) { push_sender = true }) (Some name.Push)
    ∷ case_of (plain ∷ []) (with_limit 0) (Some name.Limit)
    ∷ []

-- two checks fail, of one node or of two, and the first is told
abbrev pub refused_twice : List Case
refused_twice =
    case_of [] (with_limit 0) (Some name.Nodes)
    ∷ case_of (named (codes "u") (codes "p") ∷ named (codes "v") (codes "q") ∷ []) unset (Some name.Password)
    ∷ case_of (named (codes "u") (codes "p") ∷ named (codes "v") (codes "p") ∷ named (codes "u") (codes "q") ∷ []) unset (Some name.User)
    ∷ case_of (named (codes "u") (codes "p") ∷ saying (Some (codes "v")) (Some (codes "p")) RESP3 (pos 0) ∷ []) unset (Some name.User)
    ∷ case_of (plain ∷ saying None None RESP3 (pos 4) ∷ []) unset (Some name.Protocol)
    ∷ case_of (plain ∷ at 4 ∷ newer ∷ []) unset (Some name.Database)
    ∷ case_of (plain ∷ at 4 ∷ []) (record unset { push_sender = true }) (Some name.Database)
    ∷ case_of (plain ∷ []) (record (with_limit 0) { push_sender = true }) (Some name.Push)
    ∷ []
