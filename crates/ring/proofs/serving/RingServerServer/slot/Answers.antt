use Rattle.std.proofs.Common.{◌≡◌, Some, None, Ok, refl, ap, ◌∙◌, rules}
use Rattle.clients.specs.Meant.{meaning}
use Rattle.clients.specs.Serving.{front_at, slot_says}
use Rattle.ring.specs.Turns.{length_of}
use Rattle.ring.proofs.Slots.{InService, turn_placed, begun_small, begun_enough, idle_ring, refused_ring, served_ring, slot_is, in_service}
use Rattle.ring.proofs.serving.RingServerServer.slot.Goals as goal

-- ## Nobody waits

pub invariant_of-self : goal.invariant_of-self
invariant_of-self c =
    let x = c.args.self.now in
    let m = meaning x.clients in
    let was : InService m x.ring = record { full = x.full; placed = x.placed; within = x.within; sound = x.sound } in
    let h = in_service m x.ring None c.in_default.ensures (meaning c.slot.new.self) x.ring c.slot.ensures.leaves (idle_ring m x.ring) x.clients.kept was in
    record { full = h.full; placed = h.placed; within = h.within; sound = h.sound }

pub returns-in_default : goal.returns-in_default
returns-in_default c =
    let x = c.args.self.now in
    let m = meaning x.clients in
    let g = slot_is m x.ring None c.in_default.ensures (meaning c.slot.new.self) x.ring c.slot.ensures.leaves (idle_ring m x.ring) c.slot.result x.clients.kept c.slot.ensures.answers in
    record { serves = g.0; exactly = λ _. g.1 }

-- ## A client's turn

pub begun_with-begun-requires : goal.begun_with-begun-requires
begun_with-begun-requires c =
    let x = c.args.self.now in
    let m = meaning x.clients in
    let client = c.in-Some.client in
    let turn = c.in-Some.ensures in
    record {
      placed = turn_placed m x.ring x.clients.kept x.sound client turn x.full;
      small = begun_small m x.ring x.clients.kept x.sound client turn;
      enough = begun_enough m x.ring x.clients.kept x.sound client turn c.length_of.result (c.length_of.ensures ∙ ap length_of c.front.ensures);
    }

pub returns-in_err-served : goal.returns-in_err-served
returns-in_err-served c =
    let x = c.args.self.now in
    let m = meaning x.clients in
    let who = Some c.in-Some.client in
    let answer : c.from_residual.result ≡ slot_says m (Some c.in-Some.client) = search rules in
    let ring = refused_ring m x.ring who c.in_err-served.field-0.0 c.in_err-served.ensures.answers in
    let g = slot_is m x.ring who c.in-Some.ensures (meaning c.slot-2.new.self) x.ring c.in_err-served.ensures.leaves ring c.from_residual.result x.clients.kept answer in
    record { serves = g.0; exactly = λ _. g.1 }

pub turn_to-requires : goal.turn_to-requires
turn_to-requires c =
    let x = c.args.self.now in
    turn_placed (meaning x.clients) x.ring x.clients.kept x.sound c.in-Some.client c.in-Some.ensures x.full

pub invariant_of-self-2 : goal.invariant_of-self-2
invariant_of-self-2 c =
    let x = c.args.self.now in
    let m = meaning x.clients in
    let client = c.in-Some.client in
    let turn = c.in-Some.ensures in
    let m' = meaning c.slot-2.new.self in
    let after = c.in_ok-served.ensures.leaves in
    let ring = c.turn_to.ensures ∙ served_ring m x.ring x.sound client turn c.length_of.result c.begun_with-begun.result c.in_ok-served.served m' (front_at m' client) c.rest_given-rest.result
    (c.length_of.ensures ∙ ap length_of c.front.ensures) c.begun_with-begun.ensures c.in_ok-served.ensures.answers after refl c.rest_given-rest.ensures in
    let was : InService m x.ring = record { full = x.full; placed = x.placed; within = x.within; sound = x.sound } in
    let h = in_service m x.ring (Some client) turn m' c.turn_to.new.self after ring x.clients.kept was in
    record { full = h.full; placed = h.placed; within = h.within; sound = h.sound }

pub returns : goal.returns
returns c =
    let x = c.args.self.now in
    let m = meaning x.clients in
    let client = c.in-Some.client in
    let turn = c.in-Some.ensures in
    let m' = meaning c.slot-2.new.self in
    let after = c.in_ok-served.ensures.leaves in
    let says = c.in_ok-served.ensures.answers in
    let ring = c.turn_to.ensures ∙ served_ring m x.ring x.sound client turn c.length_of.result c.begun_with-begun.result c.in_ok-served.served m' (front_at m' client) c.rest_given-rest.result
    (c.length_of.ensures ∙ ap length_of c.front.ensures) c.begun_with-begun.ensures says after refl c.rest_given-rest.ensures in
    let g = slot_is m x.ring (Some client) turn m' c.turn_to.new.self after ring (Ok c.in_ok-served.served) x.clients.kept says in
    record { serves = g.0; exactly = λ _. g.1 }
