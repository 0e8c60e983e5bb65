use Rattle.std.proofs.Common.{Bool, ◌&&◌, get_or, sym, ap, ◌∙◌, subst, arith}
use Rattle.tables.specs.Tables.{listed}
use Rattle.clients.specs.Meant.{meaning}
use Rattle.credits.specs.Shares.{Small, no_share, affords}
use Rattle.credits.proofs.Loops.{byte_eligible, byte_other}
use Rattle.credits.proofs.Servers.{shares_small}
use Rattle.credits.proofs.credit_server.CreditServer.eligible.Goals as goal
use Rattle.credits.proofs.credit_server.CreditServer.eligible.Goals.{then-waits+then-affords, else-waits, else-waits-via-then-waits+else-affords, else-waits-via-else-waits}

pub affords-requires : goal.affords-requires
affords-requires c = subst Small (sym c.as_slice-share-items.ensures.value) (shares_small c.args.self.now) c.loop-place.place no_share c.loop-place-test.true

pub loop-place-preserved : goal.loop-place-preserved
loop-place-preserved c =
    let x = c.args.self.now in
    let m = meaning x.clients in
    let i = c.loop-place.place in
    let ys = c.as_slice-share-items.result.now in
    let can = affords x.denominator (get_or ys i no_share) in
    elim c.if-waits.branch [
      | then-waits+then-affords w ↦ w.byte-is
          ∙ byte_eligible i (listed x.shares) ys c.as_slice-share-items.ensures.value c.loop-place-test.true m x.denominator c.loop-place.byte c.loop-place.invariant (omega (arith, c.as_slice-share-items.ensures.fits))
          (w.if-affords.ensures ∙ ap (λ (b : Bool). b && can) (w.if-waits.ensures))
      | else-waits w ↦ w.byte-is
          ∙ byte_other i (listed x.shares) ys c.as_slice-share-items.ensures.value c.loop-place-test.true m x.denominator c.loop-place.byte c.loop-place.invariant
          (elim w.else-waits.branch [
            | else-waits-via-then-waits+else-affords v ↦ sym v.if-affords.false ∙ v.affords.ensures ∙ ap (λ (b : Bool). b && can) (v.if-waits.ensures)
            | else-waits-via-else-waits v ↦ ap (λ (b : Bool). b && can) (sym v.if-waits.false ∙ c.waits.ensures)
          ])
    ]
