use Rattle.std.proofs.Common.{sym, arith}
use Rattle.credits.proofs.Bookings.{told}
use Rattle.credits.proofs.booking.CreditBooking.next_terms.Goals as goal

pub returns : goal.returns
returns c =
    told c.args.self.now.server c.args.rate c.args.share.step c.args.share.«cap»
    (record {
      rated = sym c.if-not-rate_in_range.ensures;
      ranged = sym c.if-not-in_range.ensures;
      pays = omega (arith, rw (c.from.ensures, c.from-2.ensures) at c.if-from-self.false);
      room = omega (arith, c.if-share-rest.false, c.rest-rest.ensures);
    })
    c.rest-rest.result c.caps.result _ c.rest-rest.ensures c.caps.ensures (omega arith) c.terms_of.result c.terms_of.ensures
