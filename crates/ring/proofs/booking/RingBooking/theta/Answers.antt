use Rattle.std.proofs.Common.{◌+◌, ◌-◌, ◌*◌, arith}
use Rattle.server.proofs.Rounded.{rounded_up}
use Rattle.ring.proofs.booking.RingBooking.theta.Goals as goal

pub returns : goal.returns
returns c =
    let φ = c.args.quantum in
    omega (arith, rounded_up ((c.args.self.now.shares.total - φ) * (φ + 15)) φ (omega arith))
