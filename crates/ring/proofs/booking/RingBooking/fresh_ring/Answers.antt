use Rattle.std.proofs.Common.{◌≡◌, ◌-◌, ℕ, ◌<◌, List, length, get_or, map, sym, ap, ◌∙◌, arith, rules}
use Rattle.std.proofs.lemmas.List.{ext_get_or, length-map}
use Rattle.std.proofs.Math.ListN.{get_or-map}
use Rattle.ring.specs.declared.turns.Place.{Place}
use Rattle.ring.specs.declared.turns.Ring.{Ring}
use Rattle.ring.specs.declared.turns.Turn.TheVariants.{Closed}
use Rattle.ring.specs.Shares.{no_share}
use Rattle.ring.specs.Turns.{no_place}
use Rattle.ring.specs.States.{fresh_place}
use Rattle.ring.proofs.booking.RingBooking.fresh_ring.Goals as goal

pub returns : goal.returns
returns c =
    let b = c.args.self.now in
    let s = b.shares in
    let made = c.map.ensures.items in
    let long : length c.map.result ≡ 8 = made.long in
    let each : (i : ℕ) → i < length c.map.result → get_or c.map.result i no_place ≡ get_or (map fresh_place s.reserved) i no_place = λ i l.
    (let called = (made.at i no_share no_place (omega (arith, long, l))).2 in
    let one : get_or c.map.result i no_place ≡ fresh_place (get_or s.reserved i no_share) = search rules in
    one ∙ sym (get_or-map fresh_place s.reserved i no_share)) in
    let places : c.map.result ≡ map fresh_place s.reserved = ext_get_or no_place c.map.result (map fresh_place s.reserved) (long ∙ sym (length-map s.reserved fresh_place ∙ b.full)) each in
    let ring : ℕ → List Place → Ring = λ t ps. record { total = s.total; places = ps; turn = Closed t } in
    ap (λ (t : ℕ). ring t c.map.result) c.saturating_sub.ensures ∙ ap (ring (s.count - 1)) places
