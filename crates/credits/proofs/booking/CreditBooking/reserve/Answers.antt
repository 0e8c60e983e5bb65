use Rattle.std.proofs.Common.{ℕ, Err, take, set, sym, ap, ◌∙◌, arith, length-set}
use Rattle.std.proofs.lemmas.Result.{err_from_is_err_and}
use Rattle.server.specs.Meaning.{Meaning}
use Rattle.tables.specs.Tables.{listed}
use Rattle.clients.specs.declared.booking.BookingRefusal.{BookingRefusal}
use Rattle.clients.specs.Meant.{meaning}
use Rattle.credits.specs.declared.shares.Share.{Share}
use Rattle.credits.specs.States.{State, Answer}
use Rattle.credits.specs.Balancing.{balanced_room, balanced_capped}
use Rattle.credits.proofs.Bookings.{admits_taken, over, place_free, taken_says, taken_unused, taken_balanced, grown_count, one_more, taken_leaves}
use Rattle.credits.proofs.Servers.{one_each}
use Rattle.credits.proofs.booking.CreditBooking.reserve.Goals as goal

pub returns-in_err-admit-clause-answers : goal.returns-in_err-admit-clause-answers
returns-in_err-admit-clause-answers c =
    let p = err_from_is_err_and c.from_residual-in_err-admit.result c.from_residual-in_err-admit.ensures.1 in
    let o = over c.args.self.now.server c.args.rate c.args.step c.args.cap c.in_ok-terms.terms c.in_ok-terms.ensures
    (meaning c.admit.new.self) c.admit.ensures.leaves c.in_err-admit.field-0.0 c.in_err-admit.ensures.answers in
    let said : BookingRefusal → Answer = λ r. Err r in
    p.1 ∙ ap said p.2 ∙ o.1

pub returns-in_err-admit-clause-leaves : goal.returns-in_err-admit-clause-leaves
returns-in_err-admit-clause-leaves c =
    let x = c.args.self.now.server in
    let o = over x c.args.rate c.args.step c.args.cap c.in_ok-terms.terms c.in_ok-terms.ensures
    (meaning c.admit.new.self) c.admit.ensures.leaves c.in_err-admit.field-0.0 c.in_err-admit.ensures.answers in
    let state : Meaning → State = λ v. record { clients = v; denominator = x.denominator; shares = listed x.shares } in
    ap state o.0 ∙ o.2

pub bounds-shares-shares : goal.bounds-shares-shares
bounds-shares-shares c =
    let x = c.args.self.now.server in
    let took = admits_taken (meaning x.clients) c.in_ok-terms.terms c.in_ok-admit.field-0 c.in_ok-admit.ensures.answers in
    place_free x c.args.rate c.args.step c.args.cap c.in_ok-terms.terms c.in_ok-terms.ensures (meaning c.admit.new.self) c.admit.ensures.leaves took

pub invariant_of-shares-2 : goal.invariant_of-shares-2
invariant_of-shares-2 c =
    let x = c.args.self.now.server in
    let took = admits_taken (meaning x.clients) c.in_ok-terms.terms c.in_ok-admit.field-0 c.in_ok-admit.ensures.answers in
    let free = place_free x c.args.rate c.args.step c.args.cap c.in_ok-terms.terms c.in_ok-terms.ensures (meaning c.admit.new.self) c.admit.ensures.leaves took in
    record { full = length-set x.shares.items x.shares.count _ ∙ x.shares.full; few = omega (arith, free) }

pub invariant_of-server-2 : goal.invariant_of-server-2
invariant_of-server-2 c =
    let x = c.args.self.now.server in
    let m' = meaning c.admit.new.self in
    let took = admits_taken (meaning x.clients) c.in_ok-terms.terms c.in_ok-admit.field-0 c.in_ok-admit.ensures.answers in
    let b = taken_balanced x c.args.rate c.args.step c.args.cap c.in_ok-terms.terms c.in_ok-terms.ensures m' c.admit.ensures.leaves took _
    (one_more x c.args.rate c.args.step c.args.cap c.in_ok-terms.terms c.in_ok-terms.ensures m' c.admit.ensures.leaves took x.shares.count (one_each x)) in
    record { some = x.some; most = x.most; room = balanced_room m' x.denominator _ b; capped = balanced_capped m' x.denominator _ b; balanced = b }

pub invariant_of-self-2 : goal.invariant_of-self-2
invariant_of-self-2 c =
    let x = c.args.self.now.server in
    let took = admits_taken (meaning x.clients) c.in_ok-terms.terms c.in_ok-admit.field-0 c.in_ok-admit.ensures.answers in
    record {
      unused = taken_unused x c.args.rate c.args.step c.args.cap c.in_ok-terms.terms c.in_ok-terms.ensures
          (meaning c.admit.new.self) c.admit.ensures.leaves took c.args.self.now.unused;
    }

pub returns : goal.returns
returns c =
    let x = c.args.self.now.server in
    let m' = meaning c.admit.new.self in
    let share : Share = record { step = c.args.step; cap = c.args.cap; credit = c.args.cap } in
    let state : ℕ → State = λ k. record { clients = m'; denominator = x.denominator; shares = take k (set x.shares.items x.shares.count share) } in
    let took = admits_taken (meaning x.clients) c.in_ok-terms.terms c.in_ok-admit.field-0 c.in_ok-admit.ensures.answers in
    record {
      answers = taken_says x c.args.rate c.args.step c.args.cap c.in_ok-terms.terms c.in_ok-terms.ensures m' c.admit.ensures.leaves took;
      leaves = ap state (sym (grown_count x c.args.rate c.args.step c.args.cap c.in_ok-terms.terms c.in_ok-terms.ensures m' c.admit.ensures.leaves took x.shares.count (one_each x)))
          ∙ taken_leaves x c.args.rate c.args.step c.args.cap c.in_ok-terms.terms c.in_ok-terms.ensures m' c.admit.ensures.leaves took x.shares.count (one_each x);
    }
