-- What subscribes again is a short list of commands.
use Rattle.std.proofs.Common.{◌≡◌, ℕ, ◌≤◌, ◌<◌, ◌^◌, List, [], ◌∷◌, ◌++◌, length, codes, sym, subst, arith, length-append}
use Rattle.resp_write.specs.Command.{CommandList}
use Rattle.sub_tracker.specs.Held.{Held}
use Rattle.sub_tracker.specs.Pipeline.{resubscription, command_for}

command_few : (word : List ℕ) (names : List (List ℕ)) → length (command_for word names) ≤ 1
command_few word [] = omega arith
command_few word (name ∷ names) = omega arith

fewer : (n : ℕ) → n ≤ 3 → n < 2 ^ 32
fewer n h = omega arith

-- three commands at most
pub commands_few : (h : Held) → length (resubscription h).commands ≤ 3
unfolding resubscription
commands_few h =
    let a = command_few (codes "SUBSCRIBE") h.plain in
    let b = command_few (codes "SSUBSCRIBE") h.sharded in
    let c = command_few (codes "PSUBSCRIBE") h.pattern in
    let two = length-append (command_for (codes "SUBSCRIBE") h.plain) (command_for (codes "SSUBSCRIBE") h.sharded) in
    let all = length-append (command_for (codes "SUBSCRIBE") h.plain ++ command_for (codes "SSUBSCRIBE") h.sharded) (command_for (codes "PSUBSCRIBE") h.pattern) in
    omega (arith, a, b, c, two, all)

-- so any list of them that is this one is short
pub few_commands : (h : Held) (p : CommandList) → p ≡ resubscription h → length p.commands < 2 ^ 32
few_commands h p is = subst (λ (q : CommandList). length q.commands < 2 ^ 32) (sym is) (fewer (length (resubscription h).commands) (commands_few h))
