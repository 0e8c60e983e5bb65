use Rattle.std.proofs.Common.{◌≡◌, ℕ, ◌+◌, ◌<◌, List, [], ◌∷◌, ◌++◌, map, length, get_or, take, drop, sym, ap, ◌∙◌, subst, arith, length-take-le}
use Rattle.std.proofs.lemmas.List.{get_or-take, take_more, take_more_set, map_push, drop-set-lt}
use Rattle.book.specs.declared.calls.Call.{Call}
use Rattle.book.specs.declared.calls.Call.TheVariants.{Submit}
use Rattle.book.specs.declared.calls.Event.{Event}
use Rattle.book.specs.Runs.{call_of, Run, happens, leads, history, ending}
use Rattle.book.proofs.Promises.{promised}
use Rattle.book.proofs.Runs.{run_more, exactly_more, drop_past}
use Rattle.book.proofs.driving.drive.Goals as goal

pub loop-i-preserved : goal.loop-i-preserved
loop-i-preserved g c =
    let calls = c.args.calls.now in
    let events = c.loop-i.events in
    let i = c.loop-i.i in
    let n = c.min-count.result in
    let nobody : Call = Submit (record { client = 0; label = 0; length = 0 }) in
    let long : length (take n calls) ≡ n = length-take-le n calls (omega (arith, c.min-count.ensures)) in
    let here : i < n = omega (arith, long, c.loop-i-test.true) in
    let call : get_or (take n calls) i nobody ≡ get_or calls i nobody = get_or-take n calls i nobody here in
    let e = c.make.result in
    let a = g.S.Server in
    let m = a.means (a.state c.args.server.now) in
    let more = take_more_set events i e (omega (arith, here, c.min-count.ensures)) in
    let one : take (i + 1) calls ≡ take i calls ++ (get_or calls i nobody ∷ []) = take_more calls i nobody (omega (arith, here, c.min-count.ensures)) in (
      ap (map call_of) more ∙ map_push call_of (take i events) e ∙ ap (λ (cs : List Call). cs ++ (call_of e ∷ [])) c.loop-i.invariant.0 ∙ ap (λ (v : Call). take i calls ++ (v ∷ [])) (c.make.ensures.of ∙ call) ∙ sym one,
      subst (λ (es : List Event). Run m es (a.means (a.state c.make.new.server))) (sym more)
          (run_more (take i events) m (a.means (a.state c.loop-i.server)) (a.means (a.state c.make.new.server)) e c.loop-i.invariant.1 c.make.ensures.takes (g.met.S.Server.lawful c.make.new.server)),
      λ k. exactly_more a.means a.machine (a.state c.args.server.now) (a.state c.loop-i.server) (a.state c.make.new.server) (take i calls) (take (i + 1) calls) (take i events) _
          (get_or calls i nobody) e one more (c.loop-i.invariant.2 k)
          (subst (λ (v : Call). (e ≡ happens a.means a.machine (a.state c.loop-i.server) v) × (a.state c.make.new.server ≡ leads a.means a.machine (a.state c.loop-i.server) v)) call (c.make.ensures.exactly k)),
      drop-set-lt (i + 1) events i e (omega arith) ∙ drop_past i events c.args.events.now c.loop-i.invariant.3,
    )

pub returns : goal.returns
returns g c =
    let a = g.S.Server in
    let m = a.means (a.state c.args.server.now) in
    let m' = a.means (a.state c.loop-i.server) in
    let n = c.min-count.result in
    let all : c.loop-i.i ≡ n = omega (arith, length-take-le n c.args.calls.now (omega (arith, c.min-count.ensures)), c.loop-i-test.false, c.loop-i.auto.i-end) in
    let es = c.loop-i.events in
    let r : Run m (take n es) m' = subst (λ (k : ℕ). Run m (take k es) m') all c.loop-i.invariant.1 in
    record {
      count = c.min-count.ensures;
      of = subst (λ (k : ℕ). map call_of (take k es) ≡ take k c.args.calls.now) all c.loop-i.invariant.0;
      run = r;
      rest = subst (λ (k : ℕ). drop k es ≡ drop k c.args.events.now) all c.loop-i.invariant.3;
      exactly = λ n. subst (λ (k : ℕ). (take k es ≡ history a.means a.machine (a.state c.args.server.now) (take k c.args.calls.now)) × (a.state c.loop-i.server ≡ ending a.means a.machine (a.state c.args.server.now) (take k c.args.calls.now))) all (c.loop-i.invariant.2 n);
      promised = λ u. promised m m' (take n es) u r;
    }
