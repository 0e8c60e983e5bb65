use Rattle.std.proofs.Common.{◌≡◌, take, sym, ap, ◌∙◌, arith}
use Rattle.clients.specs.Meant.{meaning}
use Rattle.credits.specs.declared.shares.Share.{Share}
use Rattle.credits.specs.Places.{written_all}
use Rattle.credits.specs.Shares.{by_place, earned}
use Rattle.credits.proofs.Loops.{earned_more}
use Rattle.credits.proofs.earning.earn.Goals as goal

pub loop-place-preserved : goal.loop-place-preserved
loop-place-preserved c =
    let t = c.args.shares.now in (
      c.loop-place.invariant.0,
      earned_more (meaning c.args.clients.now) c.args.denominator c.args.who c.loop-place.place t.items c.loop-place.shares.items (omega (arith, t.full, t.few)) c.loop-place.invariant.1
          c.role-role.result c.after.result.credit c.role-role.ensures (ap (λ (x : Share). x.credit) c.after.ensures),
    )

pub returns : goal.returns
returns c =
    let t = c.args.shares.now in
    let f = earned (meaning c.args.clients.now) c.args.denominator c.args.who in
    let all : c.loop-place.place ≡ t.count = omega arith in
    ap (λ n. take n c.loop-place.shares.items) (c.loop-place.invariant.0 ∙ sym all)
    ∙ written_all f c.loop-place.place t.items c.loop-place.shares.items c.loop-place.invariant.1 (omega (arith, t.full, t.few))
    ∙ ap (λ n. by_place f 0 (take n t.items)) all
