-- Nothing is refused exactly where the nodes agree.
use Rattle.std.proofs.Common.{◌≡◌, ◌≢◌, ◌↔◌, ℕ, ℤ, pos, ◌==◌, Bool, true, false, ◌&&◌, not, List, [], ◌∷◌, Option, Some, None, Decides, refl, sym, ap, ◌∙◌, if◌then◌else◌}
use Rattle.std.specs.Prelude.{slice_get}
use Rattle.std.specs.Option.{option_or}
use Rattle.std.specs.Ordering.{int_eq}
use Rattle.std.specs.List.{All}
use Rattle.std.proofs.lemmas.Bool.Decides.{Decides-eqb, Decides-int_eq}
use Rattle.std.proofs.lemmas.Slice.Eq.{bytes_eq-Decides}
use Rattle.std.proofs.lemmas.List.Elements.{All-nil, All-cons, All-head, All-tail}
use Rattle.redis_error.specs.declared.config_name.ConfigName.{ConfigName}
use Rattle.redis_error.specs.declared.config_name.ConfigName.TheVariants as name
use Rattle.connection_info.specs.declared.address.ConnectionInfo.{ConnectionInfo}
use Rattle.connection_info.specs.declared.address.RedisConnectionInfo.{RedisConnectionInfo}
use Rattle.connection_info.specs.declared.protocol.ProtocolVersion.{ProtocolVersion}
use Rattle.connection_info.specs.declared.protocol.ProtocolVersion.TheVariants.{RESP2, RESP3}
use Rattle.cluster_client.specs.declared.params.ClusterParams.{ClusterParams}
use Rattle.cluster_client.specs.Chosen.{told_by}
use Rattle.cluster_client.specs.Checks.{is_same_text, is_same_protocol, is_other_text, is_other_protocol, is_other_database, node_fault, nodes_fault, push_fault, limit_fault, fault_from, first_cluster_fault}
use Rattle.cluster_client.specs.Agreement.{SharesText, NodeAgrees, NodesAgree}

not_false : (b : Bool) → not b ≡ false → b ≡ true
not_false true e = refl
not_false false e = cc

not_true : (b : Bool) → b ≡ true → not b ≡ false
not_true true e = refl
not_true false e = cc

-- a test that doesn't come out true comes out false
false_unless : (b : Bool) → (b ≡ true → ⊥) → b ≡ false
false_unless true h = absurd (h refl)
false_unless false h = refl

text_same : (left right : Option (List ℕ)) → Decides (is_same_text left right) (left ≡ right)
text_same None None = (λ e. refl, λ e. refl)
text_same None (Some r) = (λ e. cc, λ e. cc)
text_same (Some l) None = (λ e. cc, λ e. cc)
text_same (Some l) (Some r) = (λ e. ap (λ (t : List ℕ). Some t) ((bytes_eq-Decides l r).0 e), λ e. let same : l ≡ r = cc in (bytes_eq-Decides l r).1 same)

protocol_same : (left right : ProtocolVersion) → Decides (is_same_protocol left right) (left ≡ right)
protocol_same RESP2 RESP2 = (λ e. refl, λ e. refl)
protocol_same RESP2 RESP3 = (λ e. cc, λ e. cc)
protocol_same RESP3 RESP2 = (λ e. cc, λ e. cc)
protocol_same RESP3 RESP3 = (λ e. refl, λ e. refl)

text_shared : (set first said : Option (List ℕ)) → is_other_text set first said ≡ false → SharesText set first said
text_shared (Some s) first said e = λ n h. cc
text_shared None None said e = λ n h. absurd (h refl)
text_shared None (Some f) said e = λ n h. (text_same said (Some f)).0 (not_false (is_same_text said (Some f)) e)

no_other_text : (set first said : Option (List ℕ)) → SharesText set first said → is_other_text set first said ≡ false
no_other_text (Some s) first said h = refl
no_other_text None None said h = refl
no_other_text None (Some f) said h = not_true (is_same_text said (Some f)) ((text_same said (Some f)).1 (h refl (λ e. cc)))

protocol_shared : (set : Option ProtocolVersion) (first node : ProtocolVersion) → is_other_protocol set first node ≡ false → set ≡ None → node ≡ first
protocol_shared (Some s) first node e = λ n. cc
protocol_shared None first node e = λ n. (protocol_same node first).0 (not_false (is_same_protocol node first) e)

no_other_protocol : (set : Option ProtocolVersion) (first node : ProtocolVersion) → (set ≡ None → node ≡ first) → is_other_protocol set first node ≡ false
no_other_protocol (Some s) first node h = refl
no_other_protocol None first node h = not_true (is_same_protocol node first) ((protocol_same node first).1 (h refl))

-- of two tests that aren't both false
one_is : (a b : Bool) → (not a && not b) ≡ false → (a ≡ true → ⊥) → b ≡ true
one_is true b e h = absurd (h refl)
one_is false b e h = not_false b e

neither_is : (a b : Bool) → ((a ≡ true → ⊥) → b ≡ true) → (not a && not b) ≡ false
neither_is true b h = refl
neither_is false b h = not_true b (h (λ e. cc))

database_shared : (chosen node : ℤ) → is_other_database chosen node ≡ false → node ≢ pos 0 → node ≡ chosen
database_shared chosen node e h =
    (Decides-int_eq node chosen).0 (one_is (int_eq node (pos 0)) (int_eq node chosen) e (λ t. h ((Decides-int_eq node (pos 0)).0 t)))

no_other_database : (chosen node : ℤ) → (node ≢ pos 0 → node ≡ chosen) → is_other_database chosen node ≡ false
no_other_database chosen node h =
    neither_is (int_eq node (pos 0)) (int_eq node chosen) (λ n. (Decides-int_eq node chosen).1 (h (λ e. n ((Decides-int_eq node (pos 0)).1 e))))

-- the four tests of a node
record AllPassed (a b c d : Bool) : Type 0 where
  pub password : a ≡ false
  pub user : b ≡ false
  pub protocol : c ≡ false
  pub database : d ≡ false

abbrev first_of_four : Bool → Bool → Bool → Bool → Option ConfigName
first_of_four a b c d = if a then Some name.Password else (if b then Some name.User else (if c then Some name.Protocol else (if d then Some name.Database else None)))

all_passed : (a b c d : Bool) → first_of_four a b c d ≡ None → AllPassed a b c d
all_passed false false false false e = record { password = refl; user = refl; protocol = refl; database = refl }
all_passed false false false true e = cc
all_passed false false true d e = cc
all_passed false true c d e = cc
all_passed true b c d e = cc

none_of_four : (a b c d : Bool) → AllPassed a b c d → first_of_four a b c d ≡ None
none_of_four false false false false h = refl
none_of_four false false false true h = let e = h.database in cc
none_of_four false false true d h = let e = h.protocol in cc
none_of_four false true c d h = let e = h.user in cc
none_of_four true b c d h = let e = h.password in cc

node_agrees : (params : ClusterParams) (first node : RedisConnectionInfo) → node_fault params first node ≡ None → NodeAgrees params first node
node_agrees params first node e =
    let passed = all_passed (is_other_text params.password first.password node.password) (is_other_text params.username first.username node.username)
    (is_other_protocol params.protocol first.protocol node.protocol) (is_other_database (told_by params first).db node.db) e in
    record {
      password = text_shared params.password first.password node.password passed.password;
      user = text_shared params.username first.username node.username passed.user;
      protocol = protocol_shared params.protocol first.protocol node.protocol passed.protocol;
      database = database_shared (told_by params first).db node.db passed.database;
    }

node_passes : (params : ClusterParams) (first node : RedisConnectionInfo) → NodeAgrees params first node → node_fault params first node ≡ None
node_passes params first node h =
    none_of_four (is_other_text params.password first.password node.password) (is_other_text params.username first.username node.username)
    (is_other_protocol params.protocol first.protocol node.protocol) (is_other_database (told_by params first).db node.db) (record {
      password = no_other_text params.password first.password node.password h.password;
      user = no_other_text params.username first.username node.username h.user;
      protocol = no_other_protocol params.protocol first.protocol node.protocol h.protocol;
      database = no_other_database (told_by params first).db node.db h.database;
    })

pub or_left : {X : Type 0} (o p : Option X) → option_or o p ≡ None → o ≡ None
or_left None p e = refl
or_left (Some x) p e = cc

pub or_right : {X : Type 0} (o p : Option X) → option_or o p ≡ None → p ≡ None
or_right None p e = e
or_right (Some x) p e = cc

or_none : {X : Type 0} (o p : Option X) → o ≡ None → p ≡ None → option_or o p ≡ None
or_none None p e f = f
or_none (Some x) p e f = cc

abbrev AgreesAt : ClusterParams → RedisConnectionInfo → ConnectionInfo → Type 0
AgreesAt params first node = NodeAgrees params first node.redis

each_agrees : (params : ClusterParams) (first : RedisConnectionInfo) (nodes : List ConnectionInfo) → nodes_fault params first nodes ≡ None → All (AgreesAt params first) nodes
each_agrees params first [] e = All-nil (AgreesAt params first)
each_agrees params first (node ∷ nodes) e =
    All-cons (AgreesAt params first) node nodes
    (node_agrees params first node.redis (or_left (node_fault params first node.redis) (nodes_fault params first nodes) e))
    (each_agrees params first nodes (or_right (node_fault params first node.redis) (nodes_fault params first nodes) e))

each_passes : (params : ClusterParams) (first : RedisConnectionInfo) (nodes : List ConnectionInfo) → All (AgreesAt params first) nodes → nodes_fault params first nodes ≡ None
each_passes params first [] h = refl
each_passes params first (node ∷ nodes) h =
    or_none (node_fault params first node.redis) (nodes_fault params first nodes)
    (node_passes params first node.redis (All-head (AgreesAt params first) node nodes h))
    (each_passes params first nodes (All-tail (AgreesAt params first) node nodes h))

speaks_resp3 : (listens : Bool) (protocol : ProtocolVersion) → push_fault listens protocol ≡ None → listens ≡ true → protocol ≡ RESP3
speaks_resp3 listens RESP3 e t = refl
speaks_resp3 true RESP2 e t = cc
speaks_resp3 false RESP2 e t = cc

is_heard : (listens : Bool) (protocol : ProtocolVersion) → (listens ≡ true → protocol ≡ RESP3) → push_fault listens protocol ≡ None
is_heard false protocol h = refl
is_heard true RESP3 h = refl
is_heard true RESP2 h = let e = h refl in cc

limit_if : (limit : ℕ) (b : Bool) → (limit == 0) ≡ b → (if b then Some name.Limit else None) ≡ None → Some limit ≢ Some 0
limit_if limit true t e = λ same. cc
limit_if limit false t e = λ same. let is : limit ≡ 0 = cc in let found : ◌≡◌ {A = Bool} false true = sym t ∙ (Decides-eqb limit 0).1 is in cc

has_permits : (limit : Option ℕ) → limit_fault limit ≡ None → limit ≢ Some 0
has_permits None e = λ same. cc
has_permits (Some limit) e = limit_if limit (limit == 0) refl e

is_bounded : (limit : Option ℕ) → limit ≢ Some 0 → limit_fault limit ≡ None
is_bounded None h = refl
is_bounded (Some limit) h =
    ap (λ (b : Bool). let fault : Option ConfigName = if b then Some name.Limit else None in fault) (false_unless (limit == 0) (λ t. h (ap (λ (n : ℕ). Some n) ((Decides-eqb limit 0).0 t))))

never : (n : ConfigName) → ◌≡◌ {A = Option ConfigName} (Some n) None → ⊥
never n e = cc

agree_from : (found : Option ConnectionInfo) (nodes : List ConnectionInfo) (params : ClusterParams) → slice_get nodes 0 ≡ found → fault_from found nodes params ≡ None → NodesAgree params nodes
agree_from None nodes params stands e = absurd (never name.Nodes e)
agree_from (Some first) nodes params stands e =
    let faults = nodes_fault params first.redis nodes in
    let pushes = push_fault params.push_sender (told_by params first.redis).protocol in
    let permits = limit_fault params.connection_concurrency_limit in
    let rest = or_right faults (option_or pushes permits) e in
    record {
      first = first;
      stands = stands;
      each = each_agrees params first.redis nodes (or_left faults (option_or pushes permits) e);
      pushes = speaks_resp3 params.push_sender (told_by params first.redis).protocol (or_left pushes permits rest);
      permits = has_permits params.connection_concurrency_limit (or_right pushes permits rest);
    }

none_from : (nodes : List ConnectionInfo) (params : ClusterParams) → NodesAgree params nodes → first_cluster_fault (Some nodes) params ≡ None
none_from nodes params h =
    ap (λ (found : Option ConnectionInfo). fault_from found nodes params) h.stands
    ∙ or_none _ _ (each_passes params h.first.redis nodes h.each)
    (or_none _ _ (is_heard params.push_sender (told_by params h.first.redis).protocol h.pushes) (is_bounded params.connection_concurrency_limit h.permits))

pub nodes_agree : (nodes : List ConnectionInfo) (params : ClusterParams) → (first_cluster_fault (Some nodes) params ≡ None) ↔ NodesAgree params nodes
nodes_agree nodes params = (agree_from (slice_get nodes 0) nodes params refl, none_from nodes params)
