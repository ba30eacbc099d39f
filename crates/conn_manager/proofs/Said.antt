-- An act of its connection that a manager doesn't say as its own, and that changes nothing of it, leaves it as it is.
use Rattle.std.proofs.Common.{◌≡◌, ℕ, true, false, refl}
use Rattle.mux_conn.specs.declared.act.LinkAct.{LinkAct}
use Rattle.mux_conn.specs.declared.act.LinkAct.TheVariants as link_act
use Rattle.conn_manager.specs.declared.manager.ConnectionManager.{ConnectionManager}
use Rattle.conn_manager.specs.Hearing.{noted, is_passed_on, is_said}

pub unsaid : (m : ConnectionManager) (draw : ℕ) (a : LinkAct) → is_passed_on a ≡ true → is_said a ≡ false → noted m draw a ≡ m
unsaid m draw (link_act.Created e) p h = absurd (let e = p in cc)
unsaid m draw (link_act.Round q) p h = refl
unsaid m draw (link_act.Took q count) p h = absurd (let e = h in cc)
unsaid m draw (link_act.Timer q ms) p h = absurd (let e = h in cc)
unsaid m draw (link_act.RenewalTimer k ms) p h = absurd (let e = h in cc)
unsaid m draw (link_act.RepeatTimer ms) p h = refl
unsaid m draw link_act.NeedCreds p h = absurd (let e = h in cc)
unsaid m draw link_act.NeedRenewals p h = absurd (let e = h in cc)
unsaid m draw (link_act.Push info) p h = absurd (let e = h in cc)
unsaid m draw (link_act.Message msg) p h = refl
unsaid m draw (link_act.Monitor v) p h = refl
unsaid m draw (link_act.Watch message need len) p h = refl
unsaid m draw link_act.Close p h = absurd (let e = p in cc)
unsaid m draw (link_act.Write bytes) p h = absurd (let e = h in cc)
unsaid m draw (link_act.Wait q kind) p h = absurd (let e = p in cc)
unsaid m draw (link_act.Start message q need len) p h = absurd (let e = p in cc)
unsaid m draw (link_act.SetUp message need len) p h = absurd (let e = h in cc)
unsaid m draw (link_act.Renewed message need len) p h = absurd (let e = h in cc)
unsaid m draw (link_act.Repeated message need len) p h = refl
unsaid m draw (link_act.Outcome q o) p h = absurd (let e = p in cc)
