use Rattle.std.proofs.Common.{◌≡◌, ◌<◌, ◌+◌, ℕ, sym, ap, ◌∙◌, subst, rules}
use Rattle.join.specs.Starts.{starts_in}
use Rattle.server.specs.Calls.{Went}
use Rattle.join.specs.Link.{chained, Stands}
use Rattle.join.specs.Joint.{Joint, state_of}
use Rattle.join.specs.Laws.{slot_all}
use Rattle.join.proofs.Exact.{exact_says, exact_next}
use Rattle.join.proofs.serving.ChainServer.slot.Goals as goal

pub returns : goal.returns
returns g c =
    let x = c.args.self.now in
    let a = g.A.Server in
    let b = g.B.Server in
    let ss = starts_in x.starts in
    let ss' = starts_in c.tell-told.new.self in
    let ss'' = starts_in c.note.new.self in
    let n' = c.slot-left.new.self in
    let m' = c.slot-came.new.self in
    let n'' = c.hand.new.second in
    let r = c.slot-left.result in
    let r' = c.slot-came.result in
    let some : 0 < x.clients = search rules in
    let early : x.now < 4294967295 = search rules in
    let next : c.in_ok-self.field-0 ≡ x.now + 1 = search rules in
    let all = slot_all x.clients x.now ss (a.means (a.state x.first)) (b.means (b.state x.second)) x.stands some early (g.met.A.Server.lawful x.first) r r'
    (a.means (a.state m')) (b.means (b.state n')) (b.means (b.state n'')) c.slot-left.ensures.serves c.slot-came.ensures.serves c.hand.ensures.leaves
    c.tell-told.result ss' ss'' c.tell-told.ensures.answers c.tell-told.ensures.leaves c.note.ensures in
    record {
      serves = (
        early,
        subst (λ (t : ℕ). Went (chained x.clients x.now ss (a.means (a.state x.first)) (b.means (b.state x.second))) c.tell-told.result
            (chained x.clients t ss'' (a.means (a.state m')) (b.means (b.state n'')))) (sym next) all.0,
      );
      exactly = λ k.
          let state : ℕ → Joint a.State b.State = λ t. record { first = a.state m'; second = b.state n''; starts = ss''; count = x.clients; now = t } in
          let l = c.slot-left.ensures.exactly k.1 in
          let f = c.slot-came.ensures.exactly k.0 in
          let h = c.hand.ensures.exactly k.1 in (
            exact_says a.means b.means a.machine b.machine (state_of a b x) early some c.tell-told.result r c.tell-told.ensures.answers l.0,
            ap (λ (t : ℕ). state t) next ∙ exact_next a.means b.means a.machine b.machine (state_of a b x) early some (a.state m') (b.state n') (b.state n'') ss' ss'' r r' l.0 l.1 c.tell-told.ensures.leaves f.0 f.1 c.note.ensures h,
          );
    }

pub invariant_of-self-2 : goal.invariant_of-self-2
invariant_of-self-2 g c =
    let x = c.args.self.now in
    let a = g.A.Server in
    let b = g.B.Server in
    let some : 0 < x.clients = search rules in
    let early : x.now < 4294967295 = search rules in
    let next : c.in_ok-self.field-0 ≡ x.now + 1 = search rules in
    record {
      stands = subst (λ (t : ℕ). Stands x.clients t (starts_in c.note.new.self) (a.means (a.state c.slot-came.new.self)) (b.means (b.state c.hand.new.second))) (sym next) (slot_all x.clients x.now (starts_in x.starts) (a.means (a.state x.first)) (b.means (b.state x.second)) x.stands some early (g.met.A.Server.lawful x.first) c.slot-left.result c.slot-came.result
          (a.means (a.state c.slot-came.new.self)) (b.means (b.state c.slot-left.new.self)) (b.means (b.state c.hand.new.second)) c.slot-left.ensures.serves c.slot-came.ensures.serves c.hand.ensures.leaves
          c.tell-told.result (starts_in c.tell-told.new.self) (starts_in c.note.new.self) c.tell-told.ensures.answers c.tell-told.ensures.leaves c.note.ensures).1;
    }
