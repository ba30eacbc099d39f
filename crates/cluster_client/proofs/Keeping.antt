-- The words that a client makes keep what it is.
use Rattle.std.proofs.Common.{◌≡◌, ℕ, Bool, true, false, not, List, [], ◌∷◌, map, Option, Some, None, Result, Ok, Err, IfOk, OnOk, nat_eq, refl, sym, ap, subst, ◌∙◌, if◌then◌else◌}
use Rattle.std.specs.Prelude.{unwrap_or, option_map, option_and_then}
use Rattle.std.specs.Option.{option_or}
use Rattle.std.proofs.lemmas.Str.{is_utf8-from_IsUtf8}
use Rattle.std.proofs.lemmas.Bool.{eqb-true}
use Rattle.std.proofs.lemmas.List.Elements.{All-head, All-tail}
use Rattle.slot_hash.specs.declared.address.NodeAddress.{NodeAddress}
use Rattle.mux_routing.specs.declared.strategy.ReadStrategy.{ReadStrategy}
use Rattle.mux_routing.specs.declared.strategy.ReadStrategy.TheVariants as strategy
use Rattle.connection_info.specs.declared.address.ConnectionInfo.{ConnectionInfo}
use Rattle.connection_info.specs.declared.address.RedisConnectionInfo.{RedisConnectionInfo}
use Rattle.connection_info.specs.Address.{address_of}
use Rattle.connection_info.specs.Written.{url_of, with_library, ReadsBack}
use Rattle.cluster_client.specs.declared.params.ClusterParams.{ClusterParams}
use Rattle.cluster_client.specs.declared.params.OverallResponseTimeout.TheVariants.{MatchResponseTimeout, Explicit}
use Rattle.cluster_client.specs.declared.config.ClusterConfig.{ClusterConfig}
use Rattle.cluster_client.specs.declared.settings.ClusterKind.{ClusterKind}
use Rattle.cluster_client.specs.declared.settings.ClusterSettings.{ClusterSettings}
use Rattle.cluster_client.specs.declared.settings.Reads.TheVariants as reads
use Rattle.cluster_client.specs.Config.{configured, own_config}
use Rattle.cluster_client.specs.Chosen.{told_by, told_in}
use Rattle.cluster_client.specs.Client.{Cluster, IsSound, all_there, overall_of}
use Rattle.redis_error.specs.declared.config_name.ConfigName.{ConfigName}
use Rattle.cluster_client.specs.Checks.{node_fault, nodes_fault, push_fault, limit_fault, first_cluster_fault}
use Rattle.cluster_client.proofs.Agreeing.{or_left, or_right}
use Rattle.cluster_client.specs.Settings.{number_given, switch_given, library_given, time_given, overall_given, reads_given, map_given, settings_of, node_said, strategy_said, params_said, with_word, told_said, unused, Keeps, ReadBack}

number_if : (default value : ℕ) (b : Bool) → nat_eq value default ≡ b → unwrap_or (if b then None else Some value) default ≡ value
number_if default value true e = sym (eqb-true value default e)
number_if default value false e = refl

-- a number is what is given, or else the default
number_kept : (default value : ℕ) → unwrap_or (number_given default value) default ≡ value
number_kept default value = number_if default value (nat_eq value default) refl

switch_kept : (on : Bool) → unwrap_or (switch_given on) false ≡ on
switch_kept true = refl
switch_kept false = refl

-- the library is left out where the first node's address leaves it out
skips_kept : (skips : Bool) → not (unwrap_or (library_given skips) true) ≡ skips
skips_kept true = refl
skips_kept false = refl

time_kept : (timeout : Option ℕ) → unwrap_or (time_given timeout) None ≡ timeout
time_kept None = refl
time_kept (Some n) = refl

reads_kept : (s : Option ReadStrategy) → strategy_said (unwrap_or (reads_given s) reads.Primary) ≡ unused s
reads_kept None = refl
reads_kept (Some strategy.Random) = refl
reads_kept (Some (strategy.RoundRobin next)) = refl

map_kept : (pairs : List (NodeAddress × NodeAddress)) → unwrap_or (map_given pairs) [] ≡ pairs
map_kept [] = refl
map_kept (pair ∷ pairs) = refl

overall_if : (response overall : ℕ) (b : Bool) → nat_eq overall response ≡ b → overall_of (Some response) (unwrap_or (if b then None else Some (Explicit (Some overall))) MatchResponseTimeout) ≡ Some overall
overall_if response overall true e = ap (λ (n : ℕ). Some n) (sym (eqb-true overall response e))
overall_if response overall false e = refl

-- how long a request may take as a whole is what is given, or else how long a node may take
overall_kept : (response overall : Option ℕ) → overall_of response (unwrap_or (overall_given response overall) MatchResponseTimeout) ≡ overall
overall_kept None None = refl
overall_kept None (Some n) = refl
overall_kept (Some m) None = refl
overall_kept (Some m) (Some n) = overall_if m n (nat_eq n m) refl

joined_there : {X : Type 0} (o : Option X) (x : X) (os : List (Option X)) (xs : List X) → o ≡ Some x → all_there os ≡ Some xs → all_there (o ∷ os) ≡ Some (x ∷ xs)
joined_there {X} None x os xs e f = cc
joined_there {X} (Some y) x os xs e f =
    let same : y ≡ x = cc in
    ap (λ (found : Option (List X)). option_map (λ (rest : List X). y ∷ rest) found) f ∙ ap (λ (z : X). Some (z ∷ xs)) same

-- the URL of a node is one of its address
node_kept : (node : ConnectionInfo) → ReadsBack node → node_said (url_of node) ≡ Some (with_library node)
node_kept node (is, reads) =
    ap (λ (b : Bool). if b then address_of (url_of node) else None) (is_utf8-from_IsUtf8 (url_of node) is) ∙ reads

nodes_kept : (nodes : List ConnectionInfo) → ReadBack nodes → all_there (map node_said (map url_of nodes)) ≡ Some (map with_library nodes)
unfolding ReadBack
nodes_kept [] back = refl
nodes_kept (node ∷ nodes) back =
    joined_there (node_said (url_of node)) (with_library node) (map node_said (map url_of nodes)) (map with_library nodes)
    (node_kept node (All-head ReadsBack node nodes back)) (nodes_kept nodes (All-tail ReadsBack node nodes back))

-- what is said to every node is what the client says
told_for : (params : ClusterParams) (nodes : List ConnectionInfo) (told : RedisConnectionInfo) → told_in params nodes ≡ Some told → option_map (with_word (library_given told.skip_set_lib_name)) (told_in params (map with_library nodes)) ≡ Some told
told_for params [] told e = let found : ◌≡◌ {A = Option RedisConnectionInfo} None (Some told) = e in cc
told_for params (node ∷ nodes) told e =
    let found : ◌≡◌ {A = Option RedisConnectionInfo} (Some (told_by params node.redis)) (Some told) = e in
    let is : told_by params node.redis ≡ told = cc in
    subst (λ (t : RedisConnectionInfo). option_map (with_word (library_given t.skip_set_lib_name)) (told_in params (map with_library (node ∷ nodes))) ≡ Some t) is
    (ap (λ (skips : Bool). let said : RedisConnectionInfo = record (told_by params node.redis) { skip_set_lib_name = skips } in Some said) (skips_kept node.redis.skip_set_lib_name))

-- how a client behaves, of which twelve settings are written out
abbrev written : ClusterParams → ℕ → ℕ → ℕ → ℕ → ℕ → Option ReadStrategy → ℕ → Option ℕ → Bool → Bool → ℕ → List (NodeAddress × NodeAddress) → ClusterParams
written p tries least greatest factor base shared connect response pushes sources boundary pairs = record p {
  retries = tries;
  min_retry_wait = least;
  max_retry_wait = greatest;
  retry_factor = factor;
  retry_exponent_base = base;
  read_strategy = shared;
  connection_timeout = connect;
  response_timeout = response;
  push_sender = pushes;
  credentials_provider = sources;
  write_backpressure_boundary = boundary;
  node_address_map = pairs;
}

-- how a session behaves is how the client does, its strategy unused
behaves_so : (kind : ClusterKind) (client : Cluster) (p : ClusterParams) → params_said (settings_of kind client p) ≡ record p { read_strategy = unused p.read_strategy }
behaves_so kind client p =
    let s = settings_of kind client p in
    let said = params_said s in
    ap (λ (x : ℕ). written p x said.min_retry_wait said.max_retry_wait said.retry_factor said.retry_exponent_base said.read_strategy said.connection_timeout said.response_timeout said.push_sender said.credentials_provider said.write_backpressure_boundary said.node_address_map) (number_kept 16 p.retries)
    ∙ ap (λ (x : ℕ). written p p.retries x said.max_retry_wait said.retry_factor said.retry_exponent_base said.read_strategy said.connection_timeout said.response_timeout said.push_sender said.credentials_provider said.write_backpressure_boundary said.node_address_map) (number_kept 1280 p.min_retry_wait)
    ∙ ap (λ (x : ℕ). written p p.retries p.min_retry_wait x said.retry_factor said.retry_exponent_base said.read_strategy said.connection_timeout said.response_timeout said.push_sender said.credentials_provider said.write_backpressure_boundary said.node_address_map) (number_kept 655_360 p.max_retry_wait)
    ∙ ap (λ (x : ℕ). written p p.retries p.min_retry_wait p.max_retry_wait x said.retry_exponent_base said.read_strategy said.connection_timeout said.response_timeout said.push_sender said.credentials_provider said.write_backpressure_boundary said.node_address_map) (number_kept 10 p.retry_factor)
    ∙ ap (λ (x : ℕ). written p p.retries p.min_retry_wait p.max_retry_wait p.retry_factor x said.read_strategy said.connection_timeout said.response_timeout said.push_sender said.credentials_provider said.write_backpressure_boundary said.node_address_map) (number_kept 2 p.retry_exponent_base)
    ∙ ap (λ (x : Option ReadStrategy). written p p.retries p.min_retry_wait p.max_retry_wait p.retry_factor p.retry_exponent_base x said.connection_timeout said.response_timeout said.push_sender said.credentials_provider said.write_backpressure_boundary said.node_address_map) (reads_kept p.read_strategy)
    ∙ ap (λ (x : ℕ). written p p.retries p.min_retry_wait p.max_retry_wait p.retry_factor p.retry_exponent_base (unused p.read_strategy) x said.response_timeout said.push_sender said.credentials_provider said.write_backpressure_boundary said.node_address_map) (number_kept 1000 p.connection_timeout)
    ∙ ap (λ (x : Option ℕ). written p p.retries p.min_retry_wait p.max_retry_wait p.retry_factor p.retry_exponent_base (unused p.read_strategy) p.connection_timeout x said.push_sender said.credentials_provider said.write_backpressure_boundary said.node_address_map) (time_kept p.response_timeout)
    ∙ ap (λ (x : Bool). written p p.retries p.min_retry_wait p.max_retry_wait p.retry_factor p.retry_exponent_base (unused p.read_strategy) p.connection_timeout p.response_timeout x said.credentials_provider said.write_backpressure_boundary said.node_address_map) (switch_kept p.push_sender)
    ∙ ap (λ (x : Bool). written p p.retries p.min_retry_wait p.max_retry_wait p.retry_factor p.retry_exponent_base (unused p.read_strategy) p.connection_timeout p.response_timeout p.push_sender x said.write_backpressure_boundary said.node_address_map) (switch_kept p.credentials_provider)
    ∙ ap (λ (x : ℕ). written p p.retries p.min_retry_wait p.max_retry_wait p.retry_factor p.retry_exponent_base (unused p.read_strategy) p.connection_timeout p.response_timeout p.push_sender p.credentials_provider x said.node_address_map) (number_kept 8192 p.write_backpressure_boundary)
    ∙ ap (λ (x : List (NodeAddress × NodeAddress)). written p p.retries p.min_retry_wait p.max_retry_wait p.retry_factor p.retry_exponent_base (unused p.read_strategy) p.connection_timeout p.response_timeout p.push_sender p.credentials_provider p.write_backpressure_boundary x) (map_kept p.node_address_map)

told_kept : (kind : ClusterKind) (client : Cluster) (config : ClusterConfig) → IsSound client.nodes client.params client.told → ReadBack client.nodes → told_said (settings_of kind client (configured client.params config)) ≡ Some client.told
told_kept kind client config sound back =
    ap (λ (found : Option (List ConnectionInfo)). option_map (with_word (library_given client.told.skip_set_lib_name)) (option_and_then (told_in client.params) found)) (nodes_kept client.nodes back)
    ∙ told_for client.params client.nodes client.told sound.chosen

-- a session compares the nodes as the client did
same_faults : (kind : ClusterKind) (client : Cluster) (config : ClusterConfig) (first : ConnectionInfo) (nodes : List ConnectionInfo)
    → nodes_fault (params_said (settings_of kind client (configured client.params config))) (with_library first).redis (map with_library nodes) ≡ nodes_fault client.params first.redis nodes
same_faults kind client config first [] = refl
same_faults kind client config first (node ∷ nodes) =
    ap (λ (rest : Option ConfigName). option_or (node_fault client.params first.redis node.redis) rest) (same_faults kind client config first nodes)

middle_alone : (a b c : Option ConfigName) → a ≡ None → c ≡ None → option_or a (option_or b c) ≡ b
middle_alone None None None e f = refl
middle_alone None None (Some z) e f = cc
middle_alone None (Some y) c e f = refl
middle_alone (Some x) b c e f = cc

refused_so : (kind : ClusterKind) (client : Cluster) (config : ClusterConfig) (nodes : List ConnectionInfo) (told : RedisConnectionInfo)
    → first_cluster_fault (Some nodes) client.params ≡ None → told_in client.params nodes ≡ Some told
    → first_cluster_fault (Some (map with_library nodes)) (params_said (settings_of kind client (configured client.params config)))
    ≡ push_fault (params_said (settings_of kind client (configured client.params config))).push_sender told.protocol
refused_so kind client config [] told none e = let found : ◌≡◌ {A = Option RedisConnectionInfo} None (Some told) = e in cc
refused_so kind client config (first ∷ nodes) told none e =
    let said = params_said (settings_of kind client (configured client.params config)) in
    let faults = nodes_fault client.params first.redis (first ∷ nodes) in
    let pushes = push_fault client.params.push_sender (told_by client.params first.redis).protocol in
    let permits = limit_fault client.params.connection_concurrency_limit in
    let found : ◌≡◌ {A = Option RedisConnectionInfo} (Some (told_by client.params first.redis)) (Some told) = e in
    let is : told_by client.params first.redis ≡ told = cc in
    middle_alone (nodes_fault said (with_library first).redis (map with_library (first ∷ nodes))) (push_fault said.push_sender (told_by client.params first.redis).protocol) permits
    (same_faults kind client config first (first ∷ nodes) ∙ or_left faults (option_or pushes permits) none)
    (or_right pushes permits (or_right faults (option_or pushes permits) none))
    ∙ ap (λ (t : RedisConnectionInfo). push_fault said.push_sender t.protocol) is

words_keep : (kind : ClusterKind) (client : Cluster) (config : ClusterConfig) → IsSound client.nodes client.params client.told → ReadBack client.nodes → Keeps client (configured client.params config) (settings_of kind client (configured client.params config))
words_keep kind client config sound back =
    let params = configured client.params config in
    record {
      nodes = nodes_kept client.nodes back;
      told = told_kept kind client config sound back;
      behaves = behaves_so kind client params;
      overall =
          ap (λ (response : Option ℕ). overall_of response (unwrap_or (overall_given config.response_timeout client.overall) MatchResponseTimeout)) (time_kept config.response_timeout)
          ∙ overall_kept config.response_timeout client.overall;
      refused =
          ap (λ (found : Option (List ConnectionInfo)). first_cluster_fault found (params_said (settings_of kind client params))) (nodes_kept client.nodes back)
          ∙ refused_so kind client config client.nodes client.told sound.taken sound.chosen
          ∙ ap (λ (listens : Bool). push_fault listens client.told.protocol) (switch_kept params.push_sender);
    }

-- so what is made keeps it
pub made_keep : {E : Type 0} (kind : ClusterKind) (client : Cluster) (config : ClusterConfig) (r : Result ClusterSettings E) → IsSound client.nodes client.params client.told → OnOk r (ReadBack client.nodes) → IfOk r (λ words. words ≡ settings_of kind client (configured client.params config)) → IfOk r (Keeps client (configured client.params config))
made_keep kind client config (Ok words) sound back e = subst (λ (found : ClusterSettings). Keeps client (configured client.params config) found) (sym e) (words_keep kind client config sound back)
made_keep kind client config (Err x) sound back e = tt

-- and so does what is made under a configuration that changes nothing
pub own_keep : {E : Type 0} (kind : ClusterKind) (client : Cluster) (config : ClusterConfig) (r : Result ClusterSettings E) → config ≡ own_config client.params → IfOk r (Keeps client (configured client.params config)) → IfOk r (Keeps client client.params)
own_keep kind client config r e keeps = subst (λ (own : ClusterConfig). IfOk r (Keeps client (configured client.params own))) e keeps
