-- The table of commands: what decides where a command goes.
use Rattle.std.specs.Prelude.{ℕ, List, [], ◌∷◌, ◌++◌, codes}
use Rattle.command_table.specs.declared.routing.SlotAddr.TheVariants.{Master, ReplicaOptional}
use Rattle.command_table.specs.declared.routing.ResponsePolicy.TheVariants.{AllSucceeded, OneSucceeded, FirstSucceededNonEmptyOrAllEmpty, Sum, Min, And, CombineArrays, CombineMaps, Special}
use Rattle.command_table.specs.declared.commands.Form.{Form}
use Rattle.command_table.specs.declared.commands.Form.TheVariants.{AllPrimaries, AllNodes, EachKey, EachPair, Random, CountedKey, AfterStreams, SecondKey, FirstKey}

-- commands that go by one form
abbrev pub each : List (List ℕ) → Form → List (List ℕ × Form)
each [] form = []
each (name ∷ names) form = (name, form) ∷ each names form

-- commands that have their first word in common, by their second words
abbrev pub under : List ℕ → List (List ℕ) → Form → List (List ℕ × List ℕ × Form)
under first [] form = []
under first (second ∷ seconds) form = (first, second, form) ∷ under first seconds form

-- the commands of two words
unfoldable pub two_word_commands : List (List ℕ × List ℕ × Form)
two_word_commands =
    under (codes "SCRIPT") (codes "FLUSH" ∷ codes "LOAD" ∷ []) (AllPrimaries AllSucceeded)
    ++ under (codes "FUNCTION") (codes "LOAD" ∷ codes "DELETE" ∷ codes "FLUSH" ∷ []) (AllPrimaries AllSucceeded)
    ++ under (codes "SCRIPT") (codes "EXISTS" ∷ []) (AllPrimaries And)
    ++ under (codes "SCRIPT") (codes "KILL" ∷ []) (AllPrimaries OneSucceeded)
    ++ under (codes "FUNCTION") (codes "KILL" ∷ []) (AllPrimaries OneSucceeded)
    ++ under (codes "CONFIG") (codes "SET" ∷ codes "RESETSTAT" ∷ codes "REWRITE" ∷ []) (AllNodes AllSucceeded)
    ++ under (codes "CLIENT") (codes "SETNAME" ∷ []) (AllNodes AllSucceeded)
    ++ under (codes "SLOWLOG") (codes "RESET" ∷ []) (AllNodes AllSucceeded)
    ++ under (codes "SLOWLOG") (codes "LEN" ∷ []) (AllNodes Sum)
    ++ under (codes "PUBSUB") (codes "NUMPAT" ∷ []) (AllNodes Sum)
    ++ under (codes "PUBSUB") (codes "CHANNELS" ∷ codes "SHARDCHANNELS" ∷ []) (AllNodes CombineArrays)
    ++ under (codes "PUBSUB") (codes "NUMSUB" ∷ codes "SHARDNUMSUB" ∷ []) (AllNodes CombineMaps)
    ++ under (codes "MEMORY") (codes "STATS" ∷ []) (AllNodes Special)
    ++ under (codes "SLOWLOG") (codes "GET" ∷ []) (AllNodes Special)
    ++ under (codes "CONFIG") (codes "GET" ∷ []) Random
    ++ under (codes "CLIENT") (codes "GETNAME" ∷ codes "ID" ∷ []) Random
    ++ under (codes "MEMORY") (codes "USAGE" ∷ []) (SecondKey ReplicaOptional)

-- the commands of one word; of one that stands in neither table the first argument is the key, and it is sent to the primary
unfoldable pub one_word_commands : List (List ℕ × Form)
one_word_commands =
    each (codes "FLUSHALL" ∷ codes "FLUSHDB" ∷ codes "PING" ∷ []) (AllPrimaries AllSucceeded)
    ++ each (codes "DBSIZE" ∷ []) (AllPrimaries Sum)
    ++ each (codes "WAIT" ∷ []) (AllPrimaries Min)
    ++ each (codes "KEYS" ∷ []) (AllPrimaries CombineArrays)
    ++ each (codes "RANDOMKEY" ∷ []) (AllPrimaries FirstSucceededNonEmptyOrAllEmpty)
    ++ each (codes "INFO" ∷ codes "LASTSAVE" ∷ []) (AllNodes Special)
    ++ each (codes "MGET" ∷ []) (EachKey ReplicaOptional CombineArrays)
    ++ each (codes "EXISTS" ∷ []) (EachKey ReplicaOptional Sum)
    ++ each (codes "DEL" ∷ codes "UNLINK" ∷ codes "TOUCH" ∷ []) (EachKey Master Sum)
    ++ each (codes "MSET" ∷ []) (EachPair Master AllSucceeded)
    ++ each (codes "ECHO" ∷ codes "DEBUG" ∷ codes "SUBSCRIBE" ∷ codes "PSUBSCRIBE" ∷ codes "UNSUBSCRIBE" ∷ codes "PUNSUBSCRIBE" ∷ codes "PUBLISH" ∷ codes "CLUSTER" ∷ []) Random
    ++ each (codes "COMMAND" ∷ codes "TIME" ∷ codes "HELLO" ∷ codes "AUTH" ∷ codes "SELECT" ∷ codes "ASKING" ∷ codes "READONLY" ∷ codes "READWRITE" ∷ []) Random
    ++ each (codes "MULTI" ∷ codes "EXEC" ∷ codes "DISCARD" ∷ codes "UNWATCH" ∷ codes "SCAN" ∷ codes "MONITOR" ∷ codes "ACL" ∷ codes "LATENCY" ∷ []) Random
    ++ each (codes "EVAL" ∷ codes "EVALSHA" ∷ codes "FCALL" ∷ []) (CountedKey Master)
    ++ each (codes "EVAL_RO" ∷ codes "EVALSHA_RO" ∷ codes "FCALL_RO" ∷ []) (CountedKey ReplicaOptional)
    ++ each (codes "XREAD" ∷ []) (AfterStreams ReplicaOptional)
    ++ each (codes "XREADGROUP" ∷ []) (AfterStreams Master)
    ++ each (codes "OBJECT" ∷ codes "XINFO" ∷ []) (SecondKey ReplicaOptional)
    ++ each (codes "XGROUP" ∷ codes "BITOP" ∷ []) (SecondKey Master)
    ++ each (codes "GET" ∷ codes "STRLEN" ∷ codes "GETRANGE" ∷ codes "TTL" ∷ codes "PTTL" ∷ codes "TYPE" ∷ codes "HGET" ∷ codes "HGETALL" ∷ codes "HMGET" ∷ codes "HLEN" ∷ []) (FirstKey ReplicaOptional)
    ++ each (codes "HKEYS" ∷ codes "HVALS" ∷ codes "HEXISTS" ∷ codes "LRANGE" ∷ codes "LLEN" ∷ codes "LINDEX" ∷ codes "SCARD" ∷ codes "SMEMBERS" ∷ codes "SISMEMBER" ∷ []) (FirstKey ReplicaOptional)
    ++ each (codes "ZCARD" ∷ codes "ZSCORE" ∷ codes "ZRANGE" ∷ codes "ZRANK" ∷ codes "ZCOUNT" ∷ codes "XLEN" ∷ codes "XRANGE" ∷ codes "BITCOUNT" ∷ codes "GETBIT" ∷ codes "DUMP" ∷ []) (FirstKey ReplicaOptional)
