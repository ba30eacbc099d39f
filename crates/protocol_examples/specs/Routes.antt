-- Where commands go in a cluster.
use Rattle.std.specs.Prelude.{ℕ, List, [], ◌∷◌, Option, Some, None, codes}
use Rattle.command_table.specs.declared.routing.SlotAddr.{SlotAddr}
use Rattle.command_table.specs.declared.routing.SlotAddr.TheVariants.{Master, ReplicaOptional}
use Rattle.command_table.specs.declared.routing.Route.{Route}
use Rattle.command_table.specs.declared.routing.ResponsePolicy.{ResponsePolicy}
use Rattle.command_table.specs.declared.routing.ResponsePolicy.TheVariants.{AllSucceeded, OneSucceeded, FirstSucceededNonEmptyOrAllEmpty, Sum, Min, And, CombineArrays, CombineMaps, Special}
use Rattle.command_table.specs.declared.routing.MultipleNodeRoutingInfo.{MultipleNodeRoutingInfo}
use Rattle.command_table.specs.declared.routing.MultipleNodeRoutingInfo.TheVariants.{AllMasters, AllNodes, MultiSlot}
use Rattle.command_table.specs.declared.routing.SingleNodeRoutingInfo.{SingleNodeRoutingInfo}
use Rattle.command_table.specs.declared.routing.SingleNodeRoutingInfo.TheVariants.{Random, RandomPrimary, SpecificNode}
use Rattle.command_table.specs.declared.routing.RoutingInfo.{RoutingInfo}
use Rattle.command_table.specs.declared.routing.RoutingInfo.TheVariants.{SingleNode, MultiNode}
use Rattle.command_table.specs.Selection.{part_of}
use Rattle.resp_write.specs.Pack.{commands_of}
use Rattle.mux_routing.specs.Routes.{Agreement, agreed, agreement, crossed}

-- a command's name and arguments, and its route, if it has a name
abbrev pub Routing : Type 0
Routing = List (List ℕ) × Option RoutingInfo

-- to one node
abbrev pub to_one : SingleNodeRoutingInfo → Option RoutingInfo
to_one node = Some (SingleNode node)

-- to a node of this slot
abbrev pub to_slot : SlotAddr → ℕ → Option RoutingInfo
to_slot addr slot = to_one (SpecificNode (record { slot = slot; addr = addr }))

-- to several nodes, whose results become one by this policy
abbrev pub to_several : MultipleNodeRoutingInfo → ResponsePolicy → Option RoutingInfo
to_several nodes policy = Some (MultiNode nodes (Some policy))

-- the part of a command for this slot, with the keys of these places
abbrev pub part : SlotAddr → ℕ → List ℕ → Route × List ℕ
part addr slot places = (record { slot = slot; addr = addr }, places)

-- commands for all primaries or all nodes; a command of two words goes by both, and letters' case doesn't count
abbrev pub routes_to_all : List Routing
routes_to_all =
    (codes "PING" ∷ [], to_several AllMasters AllSucceeded)
    ∷ (codes "flushAll" ∷ [], to_several AllMasters AllSucceeded)
    ∷ (codes "DBSIZE" ∷ [], to_several AllMasters Sum)
    ∷ (codes "WAIT" ∷ codes "1" ∷ codes "100" ∷ [], to_several AllMasters Min)
    ∷ (codes "KEYS" ∷ codes "*" ∷ [], to_several AllMasters CombineArrays)
    ∷ (codes "RANDOMKEY" ∷ [], to_several AllMasters FirstSucceededNonEmptyOrAllEmpty)
    ∷ (codes "SCRIPT" ∷ codes "LOAD" ∷ codes "return 1" ∷ [], to_several AllMasters AllSucceeded)
    ∷ (codes "script" ∷ codes "exists" ∷ codes "sha" ∷ [], to_several AllMasters And)
    ∷ (codes "FUNCTION" ∷ codes "KILL" ∷ [], to_several AllMasters OneSucceeded)
    ∷ (codes "INFO" ∷ [], to_several AllNodes Special)
    ∷ (codes "Config" ∷ codes "Set" ∷ codes "maxmemory" ∷ codes "1" ∷ [], to_several AllNodes AllSucceeded)
    ∷ (codes "SLOWLOG" ∷ codes "LEN" ∷ [], to_several AllNodes Sum)
    ∷ (codes "PUBSUB" ∷ codes "CHANNELS" ∷ [], to_several AllNodes CombineArrays)
    ∷ (codes "PUBSUB" ∷ codes "NUMSUB" ∷ [], to_several AllNodes CombineMaps)
    ∷ []

-- commands for any node, or any primary: without a key, or where the number of keys is 0 or none
abbrev pub routes_to_any : List Routing
routes_to_any =
    (codes "ECHO" ∷ codes "foo" ∷ [], to_one Random)
    ∷ (codes "CONFIG" ∷ codes "GET" ∷ codes "maxmemory" ∷ [], to_one Random)
    ∷ (codes "client" ∷ codes "id" ∷ [], to_one Random)
    ∷ (codes "GET" ∷ [], to_one Random)
    ∷ (codes "MGET" ∷ [], to_one Random)
    ∷ (codes "OBJECT" ∷ codes "ENCODING" ∷ [], to_one Random)
    ∷ (codes "XREAD" ∷ codes "COUNT" ∷ codes "2" ∷ [], to_one Random)
    ∷ (codes "EVAL" ∷ codes "return 1" ∷ codes "x" ∷ codes "foo" ∷ [], to_one Random)
    ∷ (codes "EVAL" ∷ codes "s" ∷ codes "0" ∷ [], to_one RandomPrimary)
    ∷ ([], None)
    ∷ []

-- commands for the slot of their key; one that stands in no table goes to the primary of its first argument, and of those with
-- STREAMS the first such argument counts, also where it is a group's name
abbrev pub routes_by_key : List Routing
routes_by_key =
    (codes "GET" ∷ codes "foo" ∷ [], to_slot ReplicaOptional 12_182)
    ∷ (codes "get" ∷ codes "{foo}bar" ∷ [], to_slot ReplicaOptional 12_182)
    ∷ (codes "SET" ∷ codes "foo" ∷ codes "1" ∷ [], to_slot Master 12_182)
    ∷ (codes "ITS.OWN" ∷ codes "foo" ∷ [], to_slot Master 12_182)
    ∷ (codes "OBJECT" ∷ codes "ENCODING" ∷ codes "baz" ∷ [], to_slot ReplicaOptional 4_813)
    ∷ (codes "MEMORY" ∷ codes "USAGE" ∷ codes "baz" ∷ [], to_slot ReplicaOptional 4_813)
    ∷ (codes "XGROUP" ∷ codes "CREATE" ∷ codes "baz" ∷ codes "group" ∷ codes "$" ∷ [], to_slot Master 4_813)
    ∷ (codes "EVAL" ∷ codes "return 1" ∷ codes "1" ∷ codes "foo" ∷ [], to_slot Master 12_182)
    ∷ (codes "FCALL_RO" ∷ codes "f" ∷ codes "2" ∷ codes "foo" ∷ codes "foo" ∷ [], to_slot ReplicaOptional 12_182)
    ∷ (codes "XREAD" ∷ codes "COUNT" ∷ codes "2" ∷ codes "streams" ∷ codes "foo" ∷ codes "0" ∷ [], to_slot ReplicaOptional 12_182)
    ∷ (codes "XREADGROUP" ∷ codes "GROUP" ∷ codes "g" ∷ codes "c" ∷ codes "STREAMS" ∷ codes "foo" ∷ codes ">" ∷ [], to_slot Master 12_182)
    ∷ (codes "XREADGROUP" ∷ codes "GROUP" ∷ codes "streams" ∷ codes "foo" ∷ codes "STREAMS" ∷ codes "baz" ∷ codes ">" ∷ [], to_slot Master 12_182)
    ∷ []

-- commands of several keys: to one slot where all have it, else in parts, by the places of their keys
abbrev pub routes_by_keys : List Routing
routes_by_keys =
    (codes "MGET" ∷ codes "foo" ∷ codes "{foo}bar" ∷ [], to_slot ReplicaOptional 12_182)
    ∷ (codes "MGET" ∷ codes "foo" ∷ codes "baz" ∷ codes "{foo}bar" ∷ [], to_several (MultiSlot (part ReplicaOptional 12_182 (0 ∷ 2 ∷ []) ∷ part ReplicaOptional 4_813 (1 ∷ []) ∷ [])) CombineArrays)
    ∷ (codes "DEL" ∷ codes "foo" ∷ codes "baz" ∷ [], to_several (MultiSlot (part Master 12_182 (0 ∷ []) ∷ part Master 4_813 (1 ∷ []) ∷ [])) Sum)
    ∷ (codes "EXISTS" ∷ codes "foo" ∷ codes "baz" ∷ [], to_several (MultiSlot (part ReplicaOptional 12_182 (0 ∷ []) ∷ part ReplicaOptional 4_813 (1 ∷ []) ∷ [])) Sum)
    ∷ (codes "mset" ∷ codes "foo" ∷ codes "1" ∷ codes "baz" ∷ codes "2" ∷ [], to_several (MultiSlot (part Master 12_182 (0 ∷ []) ∷ part Master 4_813 (1 ∷ []) ∷ [])) AllSucceeded)
    ∷ (codes "MSET" ∷ codes "foo" ∷ codes "1" ∷ codes "baz" ∷ [], to_slot Master 12_182)
    ∷ []

-- the command of the keys of these places
abbrev pub part_of_places : List (List ℕ) × List ℕ → List (List ℕ)
part_of_places asked = part_of asked.0 asked.1

-- a command and places of its keys, and the command of these keys alone, each with its value where it has one
abbrev pub commands_of_parts : List ((List (List ℕ) × List ℕ) × List (List ℕ))
commands_of_parts =
    ((codes "MGET" ∷ codes "a" ∷ codes "b" ∷ codes "c" ∷ [], 0 ∷ 2 ∷ []), codes "MGET" ∷ codes "a" ∷ codes "c" ∷ [])
    ∷ ((codes "MSET" ∷ codes "a" ∷ codes "1" ∷ codes "b" ∷ codes "2" ∷ [], 1 ∷ []), codes "MSET" ∷ codes "b" ∷ codes "2" ∷ [])
    ∷ []

-- further commands by their names alone: of two words, and of one
abbrev pub routes_by_name : List Routing
routes_by_name =
    (codes "FUNCTION" ∷ codes "LOAD" ∷ codes "x" ∷ [], to_several AllMasters AllSucceeded)
    ∷ (codes "FUNCTION" ∷ codes "DELETE" ∷ codes "x" ∷ [], to_several AllMasters AllSucceeded)
    ∷ (codes "FUNCTION" ∷ codes "FLUSH" ∷ [], to_several AllMasters AllSucceeded)
    ∷ (codes "SCRIPT" ∷ codes "FLUSH" ∷ [], to_several AllMasters AllSucceeded)
    ∷ (codes "SCRIPT" ∷ codes "KILL" ∷ [], to_several AllMasters OneSucceeded)
    ∷ (codes "CONFIG" ∷ codes "RESETSTAT" ∷ [], to_several AllNodes AllSucceeded)
    ∷ (codes "CONFIG" ∷ codes "REWRITE" ∷ [], to_several AllNodes AllSucceeded)
    ∷ (codes "CLIENT" ∷ codes "SETNAME" ∷ codes "x" ∷ [], to_several AllNodes AllSucceeded)
    ∷ (codes "SLOWLOG" ∷ codes "RESET" ∷ [], to_several AllNodes AllSucceeded)
    ∷ (codes "SLOWLOG" ∷ codes "GET" ∷ [], to_several AllNodes Special)
    ∷ (codes "MEMORY" ∷ codes "STATS" ∷ [], to_several AllNodes Special)
    ∷ (codes "PUBSUB" ∷ codes "NUMPAT" ∷ [], to_several AllNodes Sum)
    ∷ (codes "PUBSUB" ∷ codes "SHARDCHANNELS" ∷ [], to_several AllNodes CombineArrays)
    ∷ (codes "PUBSUB" ∷ codes "SHARDNUMSUB" ∷ [], to_several AllNodes CombineMaps)
    ∷ (codes "LASTSAVE" ∷ [], to_several AllNodes Special)
    ∷ (codes "FLUSHDB" ∷ [], to_several AllMasters AllSucceeded)
    ∷ (codes "CLIENT" ∷ codes "GETNAME" ∷ [], to_one Random)
    ∷ (codes "SCAN" ∷ codes "0" ∷ [], to_one Random)
    ∷ (codes "PUBLISH" ∷ codes "foo" ∷ codes "x" ∷ [], to_one Random)
    ∷ (codes "CLUSTER" ∷ codes "SLOTS" ∷ [], to_one Random)
    ∷ (codes "EVALSHA" ∷ codes "sha" ∷ codes "1" ∷ codes "foo" ∷ [], to_slot Master 12_182)
    ∷ (codes "EVALSHA_RO" ∷ codes "sha" ∷ codes "1" ∷ codes "foo" ∷ [], to_slot ReplicaOptional 12_182)
    ∷ (codes "EVAL_RO" ∷ codes "return 1" ∷ codes "1" ∷ codes "foo" ∷ [], to_slot ReplicaOptional 12_182)
    ∷ (codes "FCALL" ∷ codes "f" ∷ codes "1" ∷ codes "foo" ∷ [], to_slot Master 12_182)
    ∷ (codes "BITOP" ∷ codes "AND" ∷ codes "foo" ∷ codes "bar" ∷ [], to_slot Master 12_182)
    ∷ (codes "XINFO" ∷ codes "STREAM" ∷ codes "foo" ∷ [], to_slot ReplicaOptional 12_182)
    ∷ (codes "UNLINK" ∷ codes "foo" ∷ [], to_slot Master 12_182)
    ∷ (codes "TOUCH" ∷ codes "foo" ∷ [], to_slot Master 12_182)
    ∷ []

-- what the commands of a pipeline agree on, by this draw
abbrev pub agreed_by : ℕ × List (List (List ℕ)) → Agreement
agreed_by asked = agreement asked.0 (commands_of asked.1)

abbrev get : List ℕ → List (List ℕ)
get key = codes "GET" ∷ key ∷ []

abbrev set : List ℕ → List (List ℕ)
set key = codes "SET" ∷ key ∷ codes "1" ∷ []

abbrev pub on_slot : SlotAddr → ℕ → Agreement
on_slot addr slot = agreed (Some (record { slot = slot; addr = addr }))

-- pipelines: to the slot of all their keys, and to its primary where one command is for that; a slot is drawn for any primary; what
-- goes to any node, or to several, doesn't count; and the slots of the first two keys that differ
abbrev pub pipelines_routed : List ((ℕ × List (List (List ℕ))) × Agreement)
pipelines_routed =
    ((0, []), agreed None)
    ∷ ((0, (codes "ECHO" ∷ codes "x" ∷ []) ∷ (codes "PING" ∷ []) ∷ []), agreed None)
    ∷ ((0, get (codes "foo") ∷ get (codes "{foo}bar") ∷ []), on_slot ReplicaOptional 12_182)
    ∷ ((0, get (codes "foo") ∷ set (codes "foo") ∷ []), on_slot Master 12_182)
    ∷ ((0, set (codes "foo") ∷ get (codes "foo") ∷ []), on_slot Master 12_182)
    ∷ ((0, (codes "ECHO" ∷ codes "x" ∷ []) ∷ get (codes "foo") ∷ (codes "MGET" ∷ codes "bar" ∷ codes "baz" ∷ []) ∷ []), on_slot ReplicaOptional 12_182)
    ∷ ((16_390, (codes "EVAL" ∷ codes "s" ∷ codes "0" ∷ []) ∷ []), on_slot Master 6)
    ∷ ((0, get (codes "foo") ∷ get (codes "foo") ∷ get (codes "bar") ∷ get (codes "baz") ∷ []), crossed 12_182 5_061)
    ∷ ((0, set (codes "bar") ∷ get (codes "foo") ∷ []), crossed 5_061 12_182)
    ∷ []
