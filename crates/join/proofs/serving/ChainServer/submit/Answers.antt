use Rattle.std.proofs.Common.{◌<◌, length, arith, rules}
use Rattle.server.specs.Meaning.{Meaning}
use Rattle.server.specs.Calls.{view_of}
use Rattle.server.proofs.Grants.{accepted, asked_ok}
use Rattle.join.specs.Starts.{starts_in}
use Rattle.join.specs.Link.{chained}
use Rattle.join.specs.Joint.{state_of}
use Rattle.join.specs.Laws.{chain_lawful}
use Rattle.join.proofs.Submits.{chain_grants, submit_says, submit_leaves, submit_stands}
use Rattle.join.proofs.Exact.{exact_enter}
use Rattle.join.proofs.serving.ChainServer.submit.Goals as goal

pub returns : goal.returns
returns g c =
    let x = c.args.self.now in
    let a = g.A.Server in
    let b = g.B.Server in
    let m = a.means (a.state x.first) in
    let n = b.means (b.state x.second) in
    let m' = c.submit.new.self in
    let ss = starts_in x.starts in
    let J : Meaning = chained x.clients x.now ss m n in
    let k = c.args.client in
    let told = asked_ok J k c.in_ok-view.view view_of c.in_ok-view.ensures in
    let w = c.in_ok-known.field-0 in
    let fits = accepted (record { terms = c.default-known.result.terms; clock = c.default-known.result.clock; waiting = w }) c.args.length c.in_ok-accept-2.ensures in
    let room : length (J.client k).waiting < 8 = omega (arith, fits.2, (asked_ok J k w (λ y. length y.waiting) c.in_ok-known.ensures).1) in
    record {
      answers = submit_says x.clients x.now ss m n x.stands k told.0 c.args.label c.args.length fits.0 fits.1 room
          (chain_lawful x.clients x.now ss m n x.stands (g.met.A.Server.lawful x.first) (g.met.B.Server.lawful x.second))
          _ _ _ c.start_at-start.result c.due-due.result c.start_at-start.ensures c.due-due.ensures (search (rules, told.1)) (search (rules, told.1)) (search (rules, told.1));
      leaves = submit_leaves x.clients x.now ss m n x.stands k told.0 c.args.label c.args.length fits.0 fits.1 room (a.means (a.state m')) c.submit.ensures.leaves;
      exactly = λ e. exact_enter a.means b.means a.machine b.machine (state_of a b x) (a.state m') k c.args.label c.args.length
          (chain_grants x.clients x.now ss m n x.stands k told.0 c.args.label c.args.length fits.0 fits.1 room) (c.submit.ensures.exactly e.0);
    }

pub invariant_of-self : goal.invariant_of-self
invariant_of-self g c =
    let x = c.args.self.now in
    let a = g.A.Server in
    let b = g.B.Server in
    let m = a.means (a.state x.first) in
    let n = b.means (b.state x.second) in
    let ss = starts_in x.starts in
    let J : Meaning = chained x.clients x.now ss m n in
    let k = c.args.client in
    let told = asked_ok J k c.in_ok-view.view view_of c.in_ok-view.ensures in
    let w = c.in_ok-known.field-0 in
    let fits = accepted (record { terms = c.default-known.result.terms; clock = c.default-known.result.clock; waiting = w }) c.args.length c.in_ok-accept-2.ensures in
    let room : length (J.client k).waiting < 8 = omega (arith, fits.2, (asked_ok J k w (λ y. length y.waiting) c.in_ok-known.ensures).1) in
    record { stands = submit_stands x.clients x.now ss m n x.stands k told.0 c.args.label c.args.length fits.0 fits.1 room (a.means (a.state c.submit.new.self)) c.submit.ensures.leaves }
