use Rattle.std.proofs.Common.{IsOk, refl, sym, ◌∙◌, subst}
use Rattle.ring.proofs.Reservations.{next_ranged, next_in}
use Rattle.ring.proofs.booking.RingBooking.admitted.Goals as goal

pub theta-requires : goal.theta-requires
theta-requires c =
    let b = c.args.self.now in
    let q = next_ranged b.shares b.within b.carried b.few _ c.reserved-share-items.ensures.are c.loop-share.share-index c.loop-share-test.true in
    record { some = q.0; within = q.1 }

pub unwrap-requires : goal.unwrap-requires
unwrap-requires c =
    let b = c.args.self.now in
    let next = next_in b.shares b.within b.carried b.few _ c.reserved-share-items.ensures.are c.loop-share.share-index c.loop-share-test.true _ c.theta.ensures _ c.terms_of-terms.ensures _ c.loop-share.invariant in
    subst IsOk (sym (c.admit.ensures.answers ∙ next.0)) refl

pub loop-share-preserved : goal.loop-share-preserved
loop-share-preserved c =
    let b = c.args.self.now in
    let next = next_in b.shares b.within b.carried b.few _ c.reserved-share-items.ensures.are c.loop-share.share-index c.loop-share-test.true _ c.theta.ensures _ c.terms_of-terms.ensures _ c.loop-share.invariant in
    c.admit.ensures.leaves ∙ next.1
